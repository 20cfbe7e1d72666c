-- The procedures of hooks are well formed: their lines name their variables, and each has a number of its own.
use Rattle.std.proofs.Common.{◌≡◌, ℕ, suc, Bool, true, false, List, [], ◌∷◌, ◌++◌, refl, sym, ap, subst, arith, None}
use Rattle.std.specs.Prelude.{if◌then◌else◌, nat_lt, ◌==◌, ◌&&◌, not}
use Rattle.std.proofs.lemmas.Bool.{and_from}
use Rattle.nim_types.specs.declared.types.TypeDef.{TypeDef}
use Rattle.nim_types.specs.declared.types.TypeDef.TheVariants as D
use Rattle.nim_types.specs.declared.types.TheConstants.{WORD_BYTES}
use Rattle.flat_code.specs.declared.line.Line.TheVariants as L
use Rattle.word_code.specs.declared.word.WordInstr.{WordInstr}
use Rattle.word_code.specs.declared.word.WordInstr.TheVariants as W
use Rattle.word_code.specs.declared.word.WordProc.{WordProc}
use Rattle.word_code.specs.Joined.{IsFree, AreApart}
use Rattle.word_code.specs.Words.{all_named, is_proc, has_number, are_procs, have_no_hooks}
use Rattle.hook_lifting.specs.declared.lifted.Hook.{Hook}
use Rattle.hook_lifting.specs.declared.lifted.Hook.TheVariants.{Copies, Assigns, Sinks, Ends}
use Rattle.hook_lifting.specs.declared.lifted.Lifted.{Lifted}
use Rattle.hook_lifting.specs.declared.lifted.Cut.{Cut}
use Rattle.hook_lifting.specs.declared.lifted.LiftedLine.{LiftedLine}
use Rattle.hook_lifting.specs.declared.lifted.LiftedLine.TheVariants as O
use Rattle.hook_lifting.specs.Lifted.{has_hooks, is_lifted, is_shallow, is_needed, is_routine, part_lines, to_part, turn_lines, loop_lines, lines_of, all_hooks}
use Rattle.hook_lifting.specs.Lifted.{hooks_of}
use Rattle.hook_lifting.specs.Lifted.{lifted, cut_if, cuts, cut_lines, elements_end}
use Rattle.hook_code.specs.declared.numbers.TheConstants.{HOOK_VARIABLES}
use Rattle.hook_code.specs.HookCode.{hook_number, cut_number, part_hook, bits, bytes_at, line_code, lines_code, body_code, hook_proc, hook_procs, cut_procs}
use Rattle.hook_code.specs.HookCode.{procs_in}
use Rattle.hook_code.proofs.Kept.{body_is, lines_some}
use Rattle.hook_code.proofs.HookNumbers.{none_there, both_procs, apart_left, other_type, no_cut, other_cut, four, those, from_entry, from_both, hooks_free}
use Rattle.hook_code.proofs.HookNumbers.{cuts_of, cuts_from, cuts_from_both, cuts_free, cut_of}

-- ---- lines name variables

abbrev N : List WordInstr → Type 0
N k = all_named HOOK_VARIABLES k ≡ true

module _ (table : List TypeDef) (first ty : ℕ) where
  abbrev code : List LiftedLine → List WordInstr
  code lines = lines_code table first ty lines []

  abbrev last : List LiftedLine
  last = O.Plain (L.Return None) ∷ []

  bits_named : (word : Bool) (n to from : ℕ) (k : List WordInstr) → nat_lt to HOOK_VARIABLES ≡ true → nat_lt from HOOK_VARIABLES ≡ true → N k
      → N (bits word n to from k)
  bits_named true n to from k a b h =
      and_from (nat_lt from HOOK_VARIABLES) _ b (and_from (nat_lt to HOOK_VARIABLES && true) _ (and_from (nat_lt to HOOK_VARIABLES) true a refl) h)
  bits_named false n to from k a b h = and_from (nat_lt to HOOK_VARIABLES) _ a (and_from (nat_lt from HOOK_VARIABLES) _ b h)

  hook_named : (hook : Hook) (of to from : ℕ) (k : List WordInstr) → nat_lt to HOOK_VARIABLES ≡ true → nat_lt from HOOK_VARIABLES ≡ true → N k
      → N (line_code table first ty (O.Hook hook of to from) k)
  hook_named hook of to from k a b h = by (has_hooks table of) hook
    where
      by : (hooks : Bool) (hook : Hook) → N (part_hook table first ty hooks hook of to from k)
      by true hook = and_from (nat_lt to HOOK_VARIABLES) _ a (and_from (nat_lt from HOOK_VARIABLES) _ b h)
      by false Copies = bits_named (bytes_at table of == WORD_BYTES) (bytes_at table of) to from k a b h
      by false Assigns = bits_named (bytes_at table of == WORD_BYTES) (bytes_at table of) to from k a b h
      by false Sinks = bits_named (bytes_at table of == WORD_BYTES) (bytes_at table of) to from k a b h
      by false Ends = h

  parts_named : (hook : Hook) (ps : List ℕ) (i : ℕ) → N (code (part_lines table hook ps i last))
  parts_named hook [] i = refl
  parts_named hook (p ∷ ps) i = by (is_needed hook (has_hooks table p)) (parts_named hook ps (suc i))
    where
      rest : List LiftedLine
      rest = part_lines table hook ps (suc i) last

      by : (needed : Bool) → N (code rest) → N (code (if needed then to_part hook p i rest else rest))
      by true h = hook_named hook p 2 3 (code rest) refl refl h
      by false h = h

  -- a line in front of others
  abbrev Keeps_named : LiftedLine → Type 0
  Keeps_named line = (k : List WordInstr) → N k → N (line_code table first ty line k)

  turns_named : (hook : Hook) (el : ℕ) (one other : LiftedLine) (k : List LiftedLine) → Keeps_named one → Keeps_named other → N (code k)
      → N (code (turn_lines hook el one other k))
  turns_named hook el one other k h i rest =
      h (line_code table first ty other (code (O.Hook hook el 2 3 ∷ O.Plain (L.CountTurn 4 5 false 1) ∷ O.Plain (L.Label 0) ∷ k)))
      (i (code (O.Hook hook el 2 3 ∷ O.Plain (L.CountTurn 4 5 false 1) ∷ O.Plain (L.Label 0) ∷ k))
      (hook_named hook el 2 3 (code (O.Plain (L.CountTurn 4 5 false 1) ∷ O.Plain (L.Label 0) ∷ k)) refl refl rest))

  assigning_named : N (code (O.Begin ty 2 ∷ O.Hook Copies ty 2 1 ∷ O.Pop 7 2 ∷ O.Exchange 6 0 7 ∷ O.Push 2 6 ∷ O.Hook Ends ty 2 2 ∷ O.Pop 6 2 ∷ last))
  assigning_named =
      hook_named Copies ty 2 1 (code (O.Pop 7 2 ∷ O.Exchange 6 0 7 ∷ O.Push 2 6 ∷ O.Hook Ends ty 2 2 ∷ O.Pop 6 2 ∷ last)) refl refl
      (hook_named Ends ty 2 2 (code (O.Pop 6 2 ∷ last)) refl refl refl)

  sinking_named : N (code (O.Trade 0 1 ∷ O.Hook Ends ty 1 1 ∷ last))
  sinking_named = hook_named Ends ty 1 1 (code last) refl refl refl

  elements_named : (hook : Hook) (el : ℕ) (one other : LiftedLine) (k : List LiftedLine) → Keeps_named one → Keeps_named other → N (code k)
      → N (code (loop_lines hook el one other k))
  elements_named hook el one other k h i rest = turns_named hook el one other k h i rest

  ending_named : (el : ℕ) → N (code (O.Load 6 0 ∷ elements_end table el (O.GiveBack ty 0 6 ∷ last)))
  ending_named el = by (has_hooks table el)
    where
      giving : List LiftedLine
      giving = O.GiveBack ty 0 6 ∷ last

      by : (hooks : Bool) → N (code (if hooks then O.Count 5 6 ∷ loop_lines Ends el (O.Element 2 6 0 4) (O.Element 3 6 0 4) giving else giving))
      by true = elements_named Ends el (O.Element 2 6 0 4) (O.Element 3 6 0 4) giving (λ k h. h) (λ k h. h) refl
      by false = refl

  pub cut_named : (el : ℕ) → N (W.Copy 8 1 ∷ code (cut_lines el))
  cut_named el = turns_named Ends el (O.Element 2 6 0 4) (O.Element 3 6 0 4) (O.Forget 6 8 ∷ last) (λ k h. h) (λ k h. h) refl

  -- ---- by the entry

  abbrev Body : Hook → TypeDef → Type 0
  Body hook d = N (body_code table first ty hook (lines_of table hook ty d))

  with_lines : (hook : Hook) (d : TypeDef) → is_routine d hook ≡ false → N (code (lines_of table hook ty d)) → Body hook d
  with_lines hook d lined h = subst N (sym (body_is table first ty hook (lines_of table hook ty d) (lines_some table hook ty d lined))) h

  pub body_named : (hook : Hook) (d : TypeDef) → Body hook d
  body_named Copies D.Text = refl
  body_named Ends D.Text = refl
  body_named Assigns D.Text = assigning_named
  body_named Sinks D.Text = sinking_named
  body_named Copies (D.Seq el) = elements_named Copies el (O.Element 2 6 0 4) (O.Element 3 7 1 4) last (λ k h. h) (λ k h. h) refl
  body_named Assigns (D.Seq el) = assigning_named
  body_named Sinks (D.Seq el) = sinking_named
  body_named Ends (D.Seq el) = ending_named el
  body_named hook (D.Array n el) = elements_named hook el (O.Member 2 0 4 n) (O.Member 3 1 4 n) last (λ k h. h) (λ k h. h) refl
  body_named hook (D.Tuple names ps) = with_lines hook (D.Tuple names ps) refl (parts_named hook ps 0)
  body_named hook (D.Object name place of fields true ps) = refl
  body_named hook (D.Object name place of fields false ps) = with_lines hook (D.Object name place of fields false ps) refl (parts_named hook ps 0)
  body_named hook (D.Distinct name place base) = hook_named hook base 0 1 (code last) refl refl refl
  body_named hook D.Int = refl
  body_named hook D.Bool = refl
  body_named hook D.Char = refl
  body_named hook (D.Param n) = refl
  body_named hook (D.Enum name place members) = refl
  body_named hook (D.Ref name base) = refl
  body_named hook (D.Exception name place parent) = refl

-- ---- numbers

module _ (table : List TypeDef) (first : ℕ) where
  one_proc : (p : WordProc) (ps : List WordProc) → is_proc p ≡ true → IsFree p.number ps → are_procs ps ≡ true → are_procs (p ∷ ps) ≡ true
  one_proc p ps h free rest =
      and_from (is_proc p) _ h (and_from (not (has_number p.number ps)) (are_procs ps) (ap not (none_there p.number ps free)) rest)

  abbrev hook_of : (ty : ℕ) → TypeDef → Hook → WordProc
  hook_of ty d hook = hook_proc table first (record { ty = ty; hook = hook; lines = lines_of table hook ty d })

  hook_formed : (ty : ℕ) (d : TypeDef) (hook : Hook) → is_proc (hook_of ty d hook) ≡ true
  hook_formed ty d hook = body_named table first ty hook d

  four_formed : (ty : ℕ) (d : TypeDef) → are_procs (four table first ty d) ≡ true
  four_formed ty d =
      one_proc (hook_of ty d Copies) (hook_of ty d Assigns ∷ hook_of ty d Sinks ∷ hook_of ty d Ends ∷ []) (hook_formed ty d Copies)
      ((λ e. omega (arith, e)), ((λ e. omega (arith, e)), ((λ e. omega (arith, e)), tt)))
      (one_proc (hook_of ty d Assigns) (hook_of ty d Sinks ∷ hook_of ty d Ends ∷ []) (hook_formed ty d Assigns)
      ((λ e. omega (arith, e)), ((λ e. omega (arith, e)), tt))
      (one_proc (hook_of ty d Sinks) (hook_of ty d Ends ∷ []) (hook_formed ty d Sinks) ((λ e. omega (arith, e)), tt)
      (one_proc (hook_of ty d Ends) [] (hook_formed ty d Ends) tt refl)))

  -- what holds of four hooks, or of none
  entry_formed : (ty : ℕ) (d : TypeDef) → are_procs (those table first ty d) ≡ true
  entry_formed ty d = by (is_lifted table ty)
    where
      by : (b : Bool) → are_procs (hook_procs table first (if b then hooks_of table ty d all_hooks else [])) ≡ true
      by true = four_formed ty d
      by false = refl

  four_apart : (ty : ℕ) (d : TypeDef) (qs : List WordProc) → ((hook : Hook) → IsFree (hook_number first hook ty) qs) → AreApart (those table first ty d) qs
  four_apart ty d qs free = by (is_lifted table ty)
    where
      by : (b : Bool) → AreApart (hook_procs table first (if b then hooks_of table ty d all_hooks else [])) qs
      by true = (free Copies, (free Assigns, (free Sinks, (free Ends, tt))))
      by false = tt

  hooks_formed : (ds : List TypeDef) (ty : ℕ) → are_procs (from_entry table first ds ty) ≡ true
  hooks_formed [] ty = refl
  hooks_formed (d ∷ ds) ty =
      subst (λ ps. are_procs ps ≡ true) (sym (from_both table first d ds ty))
      (both_procs (those table first ty d) (from_entry table first ds (suc ty))
      (four_apart ty d (from_entry table first ds (suc ty))
      (λ hook. hooks_free table first (hook_number first hook ty) ds (suc ty)
      (λ other of le. other_type first other hook of ty (λ e. omega (arith, e, le)))))
      (entry_formed ty d) (hooks_formed ds (suc ty)))

  cut_entry_formed : (ty : ℕ) (d : TypeDef) → are_procs (cuts_of table first ty d) ≡ true
  cut_entry_formed ty (D.Seq el) = by (has_hooks table el && is_shallow table ty)
    where
      by : (b : Bool) → are_procs (cut_procs table first (cut_if b ty el)) ≡ true
      by true = one_proc (cut_of table first ty el) [] (cut_named table first ty el) tt refl
      by false = refl
  cut_entry_formed ty D.Int = refl
  cut_entry_formed ty D.Bool = refl
  cut_entry_formed ty D.Char = refl
  cut_entry_formed ty D.Text = refl
  cut_entry_formed ty (D.Param n) = refl
  cut_entry_formed ty (D.Enum name place members) = refl
  cut_entry_formed ty (D.Array n el) = refl
  cut_entry_formed ty (D.Tuple names ps) = refl
  cut_entry_formed ty (D.Object name place of fields own ps) = refl
  cut_entry_formed ty (D.Distinct name place base) = refl
  cut_entry_formed ty (D.Ref name base) = refl
  cut_entry_formed ty (D.Exception name place parent) = refl

  cut_apart : (ty : ℕ) (d : TypeDef) (qs : List WordProc) → IsFree (cut_number first ty) qs → AreApart (cuts_of table first ty d) qs
  cut_apart ty (D.Seq el) qs free = by (has_hooks table el && is_shallow table ty)
    where
      by : (b : Bool) → AreApart (cut_procs table first (cut_if b ty el)) qs
      by true = (free, tt)
      by false = tt
  cut_apart ty D.Int qs free = tt
  cut_apart ty D.Bool qs free = tt
  cut_apart ty D.Char qs free = tt
  cut_apart ty D.Text qs free = tt
  cut_apart ty (D.Param n) qs free = tt
  cut_apart ty (D.Enum name place members) qs free = tt
  cut_apart ty (D.Array n el) qs free = tt
  cut_apart ty (D.Tuple names ps) qs free = tt
  cut_apart ty (D.Object name place of fields own ps) qs free = tt
  cut_apart ty (D.Distinct name place base) qs free = tt
  cut_apart ty (D.Ref name base) qs free = tt
  cut_apart ty (D.Exception name place parent) qs free = tt

  cuts_formed : (ds : List TypeDef) (ty : ℕ) → are_procs (cuts_from table first ds ty) ≡ true
  cuts_formed [] ty = refl
  cuts_formed (d ∷ ds) ty =
      subst (λ ps. are_procs ps ≡ true) (sym (cuts_from_both table first d ds ty))
      (both_procs (cuts_of table first ty d) (cuts_from table first ds (suc ty))
      (cut_apart ty d (cuts_from table first ds (suc ty))
      (cuts_free table first (cut_number first ty) ds (suc ty) (λ of le. other_cut first of ty (λ e. omega (arith, e, le)))))
      (cut_entry_formed ty d) (cuts_formed ds (suc ty)))

  hooks_apart : (ds es : List TypeDef) (ty k : ℕ) → AreApart (from_entry table first ds ty) (cuts_from table first es k)
  hooks_apart [] es ty k = tt
  hooks_apart (d ∷ ds) es ty k =
      subst (λ ps. AreApart ps (cuts_from table first es k)) (sym (from_both table first d ds ty))
      (apart_left (those table first ty d) (from_entry table first ds (suc ty)) (cuts_from table first es k)
      (four_apart ty d (cuts_from table first es k)
      (λ hook. cuts_free table first (hook_number first hook ty) es k (λ of le e. no_cut first hook ty of (sym e))))
      (hooks_apart ds es (suc ty) k))

  pub all_formed : are_procs (procs_in table first) ≡ true
  all_formed =
      both_procs (from_entry table first table 0) (cuts_from table first table 0) (hooks_apart table table 0 0) (hooks_formed table 0) (cuts_formed table 0)

  -- none of them is a user's hook
  hooks_unhooked : (hs : List Lifted) (ps : List WordProc) → have_no_hooks ps ≡ true → have_no_hooks (hook_procs table first hs ++ ps) ≡ true
  hooks_unhooked [] ps h = h
  hooks_unhooked (x ∷ hs) ps h = hooks_unhooked hs ps h

  cuts_unhooked : (cs : List Cut) → have_no_hooks (cut_procs table first cs) ≡ true
  cuts_unhooked [] = refl
  cuts_unhooked (c ∷ cs) = cuts_unhooked cs

  pub all_unhooked : have_no_hooks (procs_in table first) ≡ true
  all_unhooked = hooks_unhooked (lifted table) (cut_procs table first (cuts table)) (cuts_unhooked (cuts table))
