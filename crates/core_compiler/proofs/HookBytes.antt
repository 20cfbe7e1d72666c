-- How many bytes the hooks of types take: no more for each sequence, each other type whose hooks are lifted, and each of its parts than a part of a program.
use Rattle.std.proofs.Common.{◌≡◌, ℕ, suc, ◌+◌, ◌*◌, ◌≤◌, Bool, true, false, List, [], ◌∷◌, ◌++◌, length, None, refl, sym, subst, arith}
use Rattle.std.specs.Prelude.{if◌then◌else◌, ◌==◌, ◌&&◌}
use Rattle.nim_types.specs.Table.{IsTable, types_in, facts_in}
use Rattle.nim_program.specs.Sizes.{HaveForms}
use Rattle.nim_types.specs.declared.types.TypeDef.{TypeDef}
use Rattle.nim_types.specs.declared.types.TypeDef.TheVariants as D
use Rattle.nim_types.specs.declared.types.TheConstants.{WORD_BYTES}
use Rattle.flat_code.specs.declared.line.Line.{Line}
use Rattle.flat_code.specs.declared.line.Line.TheVariants as L
use Rattle.word_code.specs.declared.word.WordInstr.{WordInstr}
use Rattle.word_code.specs.declared.word.WordProc.{WordProc}
use Rattle.word_code.specs.Joined.{all_moved}
use Rattle.hook_lifting.specs.declared.lifted.Hook.{Hook}
use Rattle.hook_lifting.specs.declared.lifted.Hook.TheVariants.{Copies, Assigns, Sinks, Ends}
use Rattle.hook_lifting.specs.declared.lifted.Lifted.{Lifted}
use Rattle.hook_lifting.specs.declared.lifted.Cut.{Cut}
use Rattle.hook_lifting.specs.declared.lifted.LiftedLine.{LiftedLine}
use Rattle.hook_lifting.specs.declared.lifted.LiftedLine.TheVariants as O
use Rattle.hook_lifting.specs.Lifted.{has_hooks, is_lifted, is_shallow, is_needed, part_lines, to_part, lines_of, all_hooks, hooks_of, cut_if, cut_lines}
use Rattle.hook_lifting.specs.Lifted.{elements_end, loop_lines, each_from, of_entry, cut_entry, lifted, cuts}
use Rattle.hook_code.specs.HookCode.{part_hook, bits, bytes_at, flat_code, line_code, lines_code, body_code, hook_procs, cut_procs, procs_in}
use Rattle.rv32_codegen.specs.LineBytes.{lines_bytes, procs_bytes}
use Rattle.core_compiler.proofs.HookForms.{entry_count, entry_parts, parts_from, hooks_by_forms}
use Rattle.core_compiler.specs.Limits.{hook_parts}

-- ---- lines

abbrev plain_most : Line → ℕ
plain_most (L.Part to from part) = 20
plain_most (L.Zero to) = 12
plain_most (L.Beyond counter last inclusive to) = 16
plain_most (L.CountTurn counter last inclusive to) = 36
plain_most (L.Return result) = 20
plain_most line = 0

abbrev line_most : LiftedLine → ℕ
line_most (O.Plain line) = plain_most line
line_most (O.Hook hook of to from) = 68
line_most (O.Load to at) = 44
line_most (O.Count to of) = 8
line_most (O.Number to n) = 12
line_most (O.Element to of at index) = 44
line_most (O.Member to at index count) = 44
line_most (O.Take of to at long) = 76
line_most (O.GiveBack of at handle) = 24
line_most (O.Trade to from) = 176
line_most (O.Begin of to) = 16
line_most (O.Push to of) = 60
line_most (O.Pop to at) = 44
line_most (O.Exchange to at of) = 88
line_most (O.Copy to of) = 8
line_most (O.Shorten at of count) = 44
line_most (O.Forget of count) = 0

abbrev lines_most : List LiftedLine → ℕ
lines_most [] = 0
lines_most (line ∷ lines) = line_most line + lines_most lines

-- one without lines is a routine's
abbrev body_most : List LiftedLine → ℕ
body_most [] = 88
body_most (line ∷ lines) = lines_most (line ∷ lines)

module _ (table : List TypeDef) (first ty : ℕ) where
  flat_few : (line : Line) (k : List WordInstr) → lines_bytes 1 (flat_code table ty line k) ≤ plain_most line + lines_bytes 1 k
  flat_few (L.Part to from part) k = omega arith
  flat_few (L.Zero to) k = omega arith
  flat_few (L.Beyond counter last false to) k = omega arith
  flat_few (L.Beyond counter last true to) k = omega arith
  flat_few (L.CountTurn counter last false to) k = omega arith
  flat_few (L.CountTurn counter last true to) k = omega arith
  flat_few (L.Label name) k = omega arith
  flat_few (L.Return result) k = omega arith
  flat_few line k = omega arith

  bits_few : (word : Bool) (n to from : ℕ) (k : List WordInstr) → lines_bytes 1 (bits word n to from k) ≤ 68 + lines_bytes 1 k
  bits_few true n to from k = omega arith
  bits_few false n to from k = omega arith

  hook_few : (hooks : Bool) (hook : Hook) (of to from : ℕ) (k : List WordInstr)
      → lines_bytes 1 (part_hook table first ty hooks hook of to from k) ≤ 68 + lines_bytes 1 k
  hook_few true hook of to from k = omega arith
  hook_few false Copies of to from k = bits_few (bytes_at table of == WORD_BYTES) (bytes_at table of) to from k
  hook_few false Assigns of to from k = bits_few (bytes_at table of == WORD_BYTES) (bytes_at table of) to from k
  hook_few false Sinks of to from k = bits_few (bytes_at table of == WORD_BYTES) (bytes_at table of) to from k
  hook_few false Ends of to from k = omega arith

  line_few : (line : LiftedLine) (k : List WordInstr) → lines_bytes 1 (line_code table first ty line k) ≤ line_most line + lines_bytes 1 k
  line_few (O.Plain line) k = flat_few line k
  line_few (O.Hook hook of to from) k = hook_few (has_hooks table of) hook of to from k
  line_few (O.Load to at) k = omega arith
  line_few (O.Count to of) k = omega arith
  line_few (O.Number to n) k = omega arith
  line_few (O.Element to of at index) k = omega arith
  line_few (O.Member to at index count) k = omega arith
  line_few (O.Take of to at long) k = omega arith
  line_few (O.GiveBack of at handle) k = omega arith
  line_few (O.Trade to from) k = omega arith
  line_few (O.Begin of to) k = omega arith
  line_few (O.Push to of) k = omega arith
  line_few (O.Pop to at) k = omega arith
  line_few (O.Exchange to at of) k = omega arith
  line_few (O.Copy to of) k = omega arith
  line_few (O.Shorten at of count) k = omega arith
  line_few (O.Forget of count) k = omega arith

  lines_few : (lines : List LiftedLine) → lines_bytes 1 (lines_code table first ty lines []) ≤ lines_most lines
  lines_few [] = omega arith
  lines_few (line ∷ lines) = let l = line_few line (lines_code table first ty lines []) in let r = lines_few lines in omega (arith, l, r)

  body_few : (hook : Hook) (lines : List LiftedLine) → lines_bytes 1 (body_code table first ty hook lines) ≤ body_most lines
  body_few Copies [] = omega arith
  body_few Assigns [] = omega arith
  body_few Sinks [] = omega arith
  body_few Ends [] = omega arith
  body_few hook (line ∷ lines) = lines_few (line ∷ lines)

  -- ---- what a type has

  parts_few : (hook : Hook) (ps : List ℕ) (i : ℕ) (k : List LiftedLine) → lines_most (part_lines table hook ps i k) ≤ 108 * length ps + lines_most k
  parts_few hook [] i k = omega arith
  parts_few hook (p ∷ ps) i k = by (is_needed hook (has_hooks table p)) (parts_few hook ps (suc i) k)
    where
      rest : List LiftedLine
      rest = part_lines table hook ps (suc i) k

      by : (needed : Bool) → lines_most rest ≤ 108 * length ps + lines_most k
          → lines_most (if needed then to_part hook p i rest else rest) ≤ 108 * length (p ∷ ps) + lines_most k
      by true h = omega (arith, h)
      by false h = omega (arith, h)

  ending_few : (el : ℕ) (k : List LiftedLine) → lines_most (elements_end table el k) ≤ 228 + lines_most k
  ending_few el k = by (has_hooks table el)
    where
      by : (hooks : Bool) → lines_most (if hooks then O.Count 5 6 ∷ loop_lines Ends el (O.Element 2 6 0 4) (O.Element 3 6 0 4) k else k) ≤ 228 + lines_most k
      by true = omega arith
      by false = omega arith

  -- lines behind others that end with a return
  some_body : (lines : List LiftedLine) (n : ℕ) → lines_most lines ≤ n → 88 ≤ n → body_most lines ≤ n
  some_body [] n few least = least
  some_body (line ∷ lines) n few least = few

  abbrev Most : ℕ → Hook → TypeDef → Type 0
  Most n hook d = lines_bytes 1 (body_code table first ty hook (lines_of table hook ty d)) ≤ n

  within : (n : ℕ) (hook : Hook) (d : TypeDef) → body_most (lines_of table hook ty d) ≤ n → Most n hook d
  within n hook d few = let b = body_few hook (lines_of table hook ty d) in omega (arith, b, few)

  parted : (hook : Hook) (d : TypeDef) (ps : List ℕ) → lines_of table hook ty d ≡ part_lines table hook ps 0 (O.Plain (L.Return None) ∷ [])
      → Most (108 * length ps + 108) hook d
  parted hook d ps e =
      within (108 * length ps + 108) hook d
      (some_body (lines_of table hook ty d) (108 * length ps + 108)
      (subst (λ ls. lines_most ls ≤ 108 * length ps + 108) (sym e)
      (let p = parts_few hook ps 0 (O.Plain (L.Return None) ∷ []) in omega (arith, p))) (omega arith))

-- the four of a type, each 16 more around
module _ (table : List TypeDef) (first k : ℕ) where
  abbrev of_hooks : List Lifted → ℕ
  of_hooks hs = procs_bytes (all_moved k (hook_procs table first hs))

  abbrev of_cuts : List Cut → ℕ
  of_cuts cs = procs_bytes (all_moved k (cut_procs table first cs))

  hooks_both : (a b : List Lifted) → of_hooks (a ++ b) ≡ of_hooks a + of_hooks b
  hooks_both [] b = let e : of_hooks b ≡ 0 + of_hooks b = omega arith in e
  hooks_both (h ∷ a) b = let e = hooks_both a b in omega (arith, e)

  cuts_both : (a b : List Cut) → of_cuts (a ++ b) ≡ of_cuts a + of_cuts b
  cuts_both [] b = let e : of_cuts b ≡ 0 + of_cuts b = omega arith in e
  cuts_both (c ∷ a) b = let e = cuts_both a b in omega (arith, e)

  all_both : (a b : List WordProc) → procs_bytes (all_moved k (a ++ b)) ≡ procs_bytes (all_moved k a) + procs_bytes (all_moved k b)
  all_both [] b = let e : procs_bytes (all_moved k b) ≡ 0 + procs_bytes (all_moved k b) = omega arith in e
  all_both (p ∷ a) b = let e = all_both a b in omega (arith, e)

  abbrev Four : (ty : ℕ) → TypeDef → ℕ → Type 0
  Four ty d n = of_hooks (hooks_of table ty d all_hooks) ≤ n

  four : (ty : ℕ) (d : TypeDef) (a b c e n : ℕ) → Most table first ty a Copies d → Most table first ty b Assigns d → Most table first ty c Sinks d
      → Most table first ty e Ends d → a + b + c + e + 64 ≤ n → Four ty d n
  four ty d a b c e n copies assigns sinks ends few = omega (arith, copies, assigns, sinks, ends, few)

  same_four : (ty : ℕ) (d : TypeDef) (each n : ℕ) → ((hook : Hook) → Most table first ty each hook d) → 4 * each + 64 ≤ n → Four ty d n
  same_four ty d each n all few = four ty d each each each each n (all Copies) (all Assigns) (all Sinks) (all Ends) (omega (arith, few))

  -- a sequence's, to which a fifth comes
  pub of_seq : (ty el : ℕ) → Four ty (D.Seq el) 1420
  of_seq ty el =
      four ty (D.Seq el) 368 408 264 316 1420 (within table first ty 368 Copies (D.Seq el) (omega arith))
      (within table first ty 408 Assigns (D.Seq el) (omega arith)) (within table first ty 264 Sinks (D.Seq el) (omega arith))
      (within table first ty 316 Ends (D.Seq el) (let e = ending_few table first ty el (O.GiveBack ty 0 6 ∷ O.Plain (L.Return None) ∷ []) in omega (arith, e)))
      (omega arith)

  of_type : (ty : ℕ) (d : TypeDef) → Four ty d (1980 * suc (entry_count d))
  of_type ty D.Text =
      four ty D.Text 88 408 264 88 1980 (within table first ty 88 Copies D.Text (omega arith)) (within table first ty 408 Assigns D.Text (omega arith))
      (within table first ty 264 Sinks D.Text (omega arith)) (within table first ty 88 Ends D.Text (omega arith)) (omega arith)
  of_type ty (D.Seq el) = let h = of_seq ty el in omega (arith, h)
  of_type ty (D.Array n el) = same_four ty (D.Array n el) 252 1980 (λ hook. within table first ty 252 hook (D.Array n el) (omega arith)) (omega arith)
  of_type ty (D.Tuple names ps) =
      same_four ty (D.Tuple names ps) (108 * length ps + 108) (1980 * suc (length ps)) (λ hook. parted table first ty hook (D.Tuple names ps) ps refl)
      (omega arith)
  of_type ty (D.Object name place of fields true ps) =
      same_four ty (D.Object name place of fields true ps) 20 (1980 * suc (length ps))
      (λ hook. within table first ty 20 hook (D.Object name place of fields true ps) (omega arith)) (omega arith)
  of_type ty (D.Object name place of fields false ps) =
      same_four ty (D.Object name place of fields false ps) (108 * length ps + 108) (1980 * suc (length ps))
      (λ hook. parted table first ty hook (D.Object name place of fields false ps) ps refl) (omega arith)
  of_type ty (D.Distinct name place base) =
      same_four ty (D.Distinct name place base) 88 1980 (λ hook. within table first ty 88 hook (D.Distinct name place base) (omega arith)) (omega arith)
  of_type ty D.Int = same_four ty D.Int 20 1980 (λ hook. within table first ty 20 hook D.Int (omega arith)) (omega arith)
  of_type ty D.Bool = same_four ty D.Bool 20 1980 (λ hook. within table first ty 20 hook D.Bool (omega arith)) (omega arith)
  of_type ty D.Char = same_four ty D.Char 20 1980 (λ hook. within table first ty 20 hook D.Char (omega arith)) (omega arith)
  of_type ty (D.Param n) = same_four ty (D.Param n) 20 1980 (λ hook. within table first ty 20 hook (D.Param n) (omega arith)) (omega arith)
  of_type ty (D.Enum name place all) =
      same_four ty (D.Enum name place all) 20 1980 (λ hook. within table first ty 20 hook (D.Enum name place all) (omega arith)) (omega arith)
  of_type ty (D.Ref name base) =
      same_four ty (D.Ref name base) 20 1980 (λ hook. within table first ty 20 hook (D.Ref name base) (omega arith)) (omega arith)
  of_type ty (D.Exception name place parent) =
      same_four ty (D.Exception name place parent) 20 1980 (λ hook. within table first ty 20 hook (D.Exception name place parent) (omega arith))
      (omega arith)

  cut_few : (ty el : ℕ) (b : Bool) → of_cuts (cut_if b ty el) ≤ 360
  cut_few ty el true = let l = lines_few table first ty (cut_lines el) in omega (arith, l)
  cut_few ty el false = omega arith

  lifted_few : (ty : ℕ) (d : TypeDef) (n : ℕ) → Four ty d n → (b : Bool) → of_hooks (if b then hooks_of table ty d all_hooks else []) ≤ (if b then n else 0)
  lifted_few ty d n h true = h
  lifted_few ty d n h false = omega arith

  scaled : (b : Bool) (n : ℕ) → (if b then 1980 * n else 0) ≡ 1980 * (if b then n else 0)
  scaled true n = refl
  scaled false n = refl

  most_of : (b : Bool) (n : ℕ) → (if b then n else 0) ≤ n
  most_of true n = omega arith
  most_of false n = omega arith

  abbrev Both_few : (ty : ℕ) → TypeDef → Type 0
  Both_few ty d = of_hooks (of_entry table ty d) + of_cuts (cut_entry table ty d) ≤ 1980 * entry_parts table ty d

  uncut : (ty : ℕ) (d : TypeDef) → of_cuts (cut_entry table ty d) ≡ 0 → entry_parts table ty d ≡ (if is_lifted table ty then suc (entry_count d) else 0)
      → Both_few ty d
  uncut ty d none is =
      let h = lifted_few ty d (1980 * suc (entry_count d)) (of_type ty d) (is_lifted table ty) in
      let e = scaled (is_lifted table ty) (suc (entry_count d)) in
      omega (arith, h, e, none, is)

  entry_few : (ty : ℕ) (d : TypeDef) → Both_few ty d
  entry_few ty (D.Seq el) =
      let h = lifted_few ty (D.Seq el) 1420 (of_seq ty el) (is_lifted table ty) in
      let m = most_of (is_lifted table ty) 1420 in
      let c = cut_few ty el (has_hooks table el && is_shallow table ty) in
      omega (arith, h, m, c)
  entry_few ty D.Int = uncut ty D.Int refl refl
  entry_few ty D.Bool = uncut ty D.Bool refl refl
  entry_few ty D.Char = uncut ty D.Char refl refl
  entry_few ty D.Text = uncut ty D.Text refl refl
  entry_few ty (D.Param n) = uncut ty (D.Param n) refl refl
  entry_few ty (D.Enum name place all) = uncut ty (D.Enum name place all) refl refl
  entry_few ty (D.Array n el) = uncut ty (D.Array n el) refl refl
  entry_few ty (D.Tuple names ps) = uncut ty (D.Tuple names ps) refl refl
  entry_few ty (D.Object name place of fields own ps) = uncut ty (D.Object name place of fields own ps) refl refl
  entry_few ty (D.Distinct name place base) = uncut ty (D.Distinct name place base) refl refl
  entry_few ty (D.Ref name base) = uncut ty (D.Ref name base) refl refl
  entry_few ty (D.Exception name place parent) = uncut ty (D.Exception name place parent) refl refl

  entries_few : (ds : List TypeDef) (ty : ℕ) → of_hooks (each_from (of_entry table) ds ty) + of_cuts (each_from (cut_entry table) ds ty)
      ≤ 1980 * parts_from table ds ty
  entries_few [] ty = omega arith
  entries_few (d ∷ ds) ty =
      let a = hooks_both (of_entry table ty d) (each_from (of_entry table) ds (suc ty)) in
      let b = cuts_both (cut_entry table ty d) (each_from (cut_entry table) ds (suc ty)) in
      let h = entry_few ty d in let r = entries_few ds (suc ty) in omega (arith, a, b, h, r)

  pub hooks_few : IsTable table → HaveForms table → procs_bytes (all_moved k (procs_in table first)) ≤ 1980 * hook_parts (facts_in table) (types_in table)
  hooks_few is_table formed =
      let e = all_both (hook_procs table first (lifted table)) (cut_procs table first (cuts table)) in
      let h = entries_few table 0 in let same = hooks_by_forms table is_table formed in omega (arith, e, h, same)
