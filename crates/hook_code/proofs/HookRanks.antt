-- Hooks call each other in no circle: what a hook calls has a lower rank.
use Rattle.std.proofs.Common.{◌≡◌, ℕ, suc, ◌+◌, ◌≤◌, Bool, true, false, List, [], ◌∷◌, ◌++◌, Some, refl, sym, subst, ◌∙◌, arith}
use Rattle.std.specs.Prelude.{slice_get, if◌then◌else◌, ◌==◌, ◌-◌, ◌&&◌}
use Rattle.std.proofs.lemmas.Bool.{false≢true, and_parts}
use Rattle.nim_types.specs.declared.types.TypeDef.{TypeDef}
use Rattle.nim_types.specs.declared.types.TypeDef.TheVariants as D
use Rattle.nim_types.specs.declared.types.TheConstants.{WORD_BYTES}
use Rattle.word_code.specs.declared.routine.TheConstants.{COPY}
use Rattle.word_code.specs.declared.word.WordInstr.{WordInstr}
use Rattle.word_code.specs.declared.word.WordProc.{WordProc}
use Rattle.word_code.specs.Words.{most_called}
use Rattle.word_code.specs.Sizes.{AreRanked}
use Rattle.heap_memory.specs.declared.numbers.TheConstants.{RELEASE, TEXT_COPY, SEQ_NEW}
use Rattle.hook_lifting.specs.declared.lifted.Hook.{Hook}
use Rattle.hook_lifting.specs.declared.lifted.Hook.TheVariants.{Copies, Assigns, Sinks, Ends}
use Rattle.hook_lifting.specs.declared.lifted.LiftedLine.{LiftedLine}
use Rattle.hook_lifting.specs.declared.lifted.LiftedLine.TheVariants as O
use Rattle.hook_lifting.specs.Lifted.{has_hooks, is_lifted, is_shallow, is_routine, lines_of, all_hooks, hooks_of, cut_if, cut_lines}
use Rattle.hook_code.specs.HookCode.{hook_number, part_hook, bits, bytes_at, line_code, lines_code, body_code, hook_proc, hook_procs, cut_procs, procs_in}
use Rattle.hook_code.specs.Kept.{IsOrdered, Ranks, chain_of}
use Rattle.hook_code.proofs.Env.{Env, Fits, a_part, a_zero, a_test, a_turn, a_label, a_return, a_hook, a_base, a_load, a_count, a_number, an_element, a_member}
use Rattle.hook_code.proofs.Env.{a_take, a_give_back, a_trade, a_begin, a_push, a_pop, an_exchange, a_copy, a_shorten, a_forget, AllFit, more}
use Rattle.hook_code.proofs.Fitting.{all_fit, cutting_fits, at_labels_of, cut_at, cut_count, ended_pair, labels_of}
use Rattle.hook_code.proofs.Needed.{part_chain, some_chain, needs_of}
use Rattle.hook_code.proofs.Kept.{body_is, lines_some}
use Rattle.hook_code.proofs.HookNumbers.{those, from_entry, from_both, cuts_of, cuts_from, cuts_from_both, cut_of}

-- ---- what lines call

-- the most that lines call is at most so much
abbrev Most : (rank : ℕ → ℕ) → (most : ℕ) → List WordInstr → Type 0
Most rank most k = most_called rank k ≤ most

module _ (rank : ℕ → ℕ) (most : ℕ) (copy : rank COPY ≤ most) (release : rank RELEASE ≤ most) (text_copy : rank TEXT_COPY ≤ most)
    (seq_new : rank SEQ_NEW ≤ most) (table : List TypeDef) (first : ℕ) where
  -- a hook that may be called, if its type has hooks
  abbrev pub Lower : Hook → ℕ → Type 0
  Lower hook of = has_hooks table of ≡ true → rank (hook_number first hook of) ≤ most

  module _ (ty : ℕ) (joined : ℕ → Env) where
    bits_most : (word : Bool) (n to from : ℕ) (k : List WordInstr) → Most rank most k → Most rank most (bits word n to from k)
    bits_most true n to from k h = omega (arith, h)
    bits_most false n to from k h = omega (arith, h, copy)

    hook_most : (hook : Hook) (of to from : ℕ) (k : List WordInstr) → Lower hook of → Most rank most k
        → Most rank most (line_code table first ty (O.Hook hook of to from) k)
    hook_most hook of to from k lower h = by (has_hooks table of) refl hook lower
      where
        by : (hooks : Bool) → has_hooks table of ≡ hooks → (hook : Hook) → Lower hook of → Most rank most (part_hook table first ty hooks hook of to from k)
        by true is hook lower = let l = lower is in omega (arith, h, l)
        by false is Copies lower = bits_most (bytes_at table of == WORD_BYTES) (bytes_at table of) to from k h
        by false is Assigns lower = bits_most (bytes_at table of == WORD_BYTES) (bytes_at table of) to from k h
        by false is Sinks lower = bits_most (bytes_at table of == WORD_BYTES) (bytes_at table of) to from k h
        by false is Ends lower = h

    line_most : {e f : Env} {line : LiftedLine} (k : List WordInstr) → Fits table ty joined Lower e line f → Most rank most k
        → Most rank most (line_code table first ty line k)
    line_most k (a_part part is begun typed) h = omega (arith, h)
    line_most k (a_zero is) h = omega (arith, h)
    line_most k (a_test is last has has_last covers) h = omega (arith, h)
    line_most k (a_turn is has has_last away small covers) h = omega (arith, h)
    line_most k (a_label covers) h = omega (arith, h)
    line_most k (a_return is begun) h = omega (arith, h)
    line_most k (a_hook {hook = hook} {of = of} {to = to} {from = from} leads other asked can) h = hook_most hook of to from k can h
    line_most k (a_base {hook = hook} {base = base} is other asked distinct can) h = hook_most hook base 0 1 k can h
    line_most k (a_load pair is from handles) h = omega (arith, h)
    line_most k (a_count is has) h = omega (arith, h)
    line_most k (a_number is few) h = omega (arith, h)
    line_most k (an_element part has is from typed counts begun) h = omega (arith, h)
    line_most k (a_member part is typed few counts begun) h = omega (arith, h)
    line_most k (a_take pair has is typed) h = omega (arith, h, seq_new)
    line_most k (a_give_back has is handles) h = omega (arith, h, release)
    line_most k (a_trade is other handles) h = omega (arith, h)
    line_most k (a_begin begun handles) h = omega (arith, h)
    line_most k (a_push begun has handles) h = omega (arith, h)
    line_most k (a_pop pair begun handles) h = omega (arith, h)
    line_most k (an_exchange pair is has away handles) h = omega (arith, h)
    line_most k (a_copy is of counts) h = omega (arith, h)
    line_most k (a_shorten has is count counts handles seq) h = omega (arith, h)
    line_most k (a_forget has count counts seq) h = h

    pub lines_most : {e : Env} (lines : List LiftedLine) → AllFit table ty joined Lower e lines → Most rank most (lines_code table first ty lines [])
    lines_most [] fit = omega arith
    lines_most (line ∷ lines) (more fit rest) = line_most (lines_code table first ty lines []) fit (lines_most lines rest)

  text_most : (hook : Hook) (ty : ℕ) → is_routine D.Text hook ≡ true → Most rank most (body_code table first ty hook (lines_of table hook ty D.Text))
  text_most Copies ty is = omega (arith, text_copy)
  text_most Ends ty is = omega (arith, release)
  text_most Assigns ty is = absurd (false≢true is)
  text_most Sinks ty is = absurd (false≢true is)

-- ---- ranks of all

module _ (table : List TypeDef) (first : ℕ) (level : ℕ → ℕ) (base : ℕ) (rank : ℕ → ℕ) (ordered : IsOrdered table level)
    (ranks : Ranks table first level base rank) where
  abbrev With : ℕ → Hook → ℕ → Type 0
  With n hook of = has_hooks table of ≡ true → rank (hook_number first hook of) ≤ base + n

  -- what a hook of a rank calls
  body_most : (n : ℕ) (hook : Hook) (ty : ℕ) (d : TypeDef) → slice_get table ty ≡ Some d → has_hooks table ty ≡ true → chain_of hook (level ty) ≤ suc n
      → Most rank (base + n) (body_code table first ty hook (lines_of table hook ty d))
  body_most n hook ty d at hooks le = by d at (is_routine d hook) refl
    where
      copy : rank COPY ≤ base + n
      copy = let h = ranks.copy in omega (arith, h)

      release : rank RELEASE ≤ base + n
      release = let h = ranks.release in omega (arith, h)

      text_copy : rank TEXT_COPY ≤ base + n
      text_copy = let h = ranks.text_copy in omega (arith, h)

      seq_new : rank SEQ_NEW ≤ base + n
      seq_new = let h = ranks.seq_new in omega (arith, h)

      lower : (other : Hook) (of : ℕ) (e : TypeDef) → slice_get table of ≡ Some e → has_hooks table of ≡ true → chain_of other (level of) ≤ n → With n other of
      lower other of e at_of is few some = let r = ranks.hooks other of in omega (arith, r, few)

      by : (d : TypeDef) → slice_get table ty ≡ Some d → (routine : Bool) → is_routine d hook ≡ routine
          → Most rank (base + n) (body_code table first ty hook (lines_of table hook ty d))
      by d at false is =
          let needs = needs_of table level ordered (With n) ty hook d at hooks
          (λ p e of at_of is less. lower hook p e at_of is (part_chain n hook (level p) (level ty) less le))
          (λ other extra less slower. lower other ty d at hooks (omega (arith, less, le)))
          (λ p none needed some. absurd (false≢true (sym none ∙ some))) in
          subst (Most rank (base + n)) (sym (body_is table first ty hook (lines_of table hook ty d) (lines_some table hook ty d is)))
          (lines_most rank (base + n) copy release text_copy seq_new table first ty (labels_of table ty hook d) (lines_of table hook ty d)
          (all_fit table ty (With n) hook d at needs is).fit)
      by D.Text at true is = text_most rank (base + n) copy release text_copy seq_new table first hook ty is
      by D.Int at true is = absurd (false≢true is)
      by D.Bool at true is = absurd (false≢true is)
      by D.Char at true is = absurd (false≢true is)
      by (D.Seq el) at true is = absurd (false≢true is)
      by (D.Param m) at true is = absurd (false≢true is)
      by (D.Enum name place members) at true is = absurd (false≢true is)
      by (D.Array m el) at true is = absurd (false≢true is)
      by (D.Tuple names ps) at true is = absurd (false≢true is)
      by (D.Object name place of fields own ps) at true is = absurd (false≢true is)
      by (D.Distinct name place of) at true is = absurd (false≢true is)
      by (D.Ref name of) at true is = absurd (false≢true is)
      by (D.Exception name place parent) at true is = absurd (false≢true is)

  -- it has a higher rank than what it calls
  abbrev Ranked_one : WordProc → Type 0
  Ranked_one p = suc (most_called rank p.lines) ≤ rank p.number

  hook_ranked : (hook : Hook) (ty : ℕ) (d : TypeDef) → slice_get table ty ≡ Some d → has_hooks table ty ≡ true
      → Ranked_one (hook_proc table first (record { ty = ty; hook = hook; lines = lines_of table hook ty d }))
  hook_ranked hook ty d at hooks =
      let some = some_chain hook (level ty) in
      let n : ℕ = chain_of hook (level ty) - 1 in
      let m = body_most n hook ty d at hooks (omega (arith, some)) in
      let r = ranks.hooks hook ty in omega (arith, some, m, r)

  cut_ranked : (ty el : ℕ) → slice_get table ty ≡ Some (D.Seq el) → Ranked_one (cut_of table first ty el)
  cut_ranked ty el at =
      let n : ℕ = chain_of Ends (level el) in
      let r = ranks.cut ty el at in
      let e = ranks.hooks Ends el in
      let c = ranks.copy in let l = ranks.release in let t = ranks.text_copy in let s = ranks.seq_new in
      let lower : With n Ends el = λ some. omega (arith, e) in
      let m = lines_most rank (base + n) (omega (arith, c)) (omega (arith, l)) (omega (arith, t)) (omega (arith, s)) table first ty
      (λ name. at_labels_of (cut_at ty) cut_count (ended_pair ty) name) (cut_lines el)
      (cutting_fits table ty (λ name. at_labels_of (cut_at ty) cut_count (ended_pair ty) name) (With n) el at refl refl lower) in
      omega (arith, m, r)

  -- ---- of all entries

  ranked_both : (ps qs : List WordProc) → AreRanked rank ps → AreRanked rank qs → AreRanked rank (ps ++ qs)
  ranked_both [] qs h i = i
  ranked_both (p ∷ ps) qs h i = (h.0, ranked_both ps qs h.1 i)

  -- entries from one on are those of the table
  abbrev Behind : List TypeDef → (ty : ℕ) → Type 0
  Behind ds ty = (j : ℕ) (d : TypeDef) → slice_get ds j ≡ Some d → slice_get table (ty + j) ≡ Some d

  here : (d : TypeDef) (ds : List TypeDef) (ty : ℕ) → Behind (d ∷ ds) ty → slice_get table ty ≡ Some d
  here d ds ty behind = subst (λ t. slice_get table t ≡ Some d) (let e : ty + 0 ≡ ty = omega arith in e) (behind 0 d refl)

  later : (d : TypeDef) (ds : List TypeDef) (ty : ℕ) → Behind (d ∷ ds) ty → Behind ds (suc ty)
  later d ds ty behind j e at = subst (λ t. slice_get table t ≡ Some e) (let s : ty + suc j ≡ suc ty + j = omega arith in s) (behind (suc j) e at)

  hooks_ranked : (ds : List TypeDef) (ty : ℕ) → Behind ds ty → AreRanked rank (from_entry table first ds ty)
  hooks_ranked [] ty behind = tt
  hooks_ranked (d ∷ ds) ty behind =
      subst (AreRanked rank) (sym (from_both table first d ds ty))
      (ranked_both (those table first ty d) (from_entry table first ds (suc ty)) (by (is_lifted table ty) refl)
      (hooks_ranked ds (suc ty) (later d ds ty behind)))
    where
      by : (b : Bool) → is_lifted table ty ≡ b → AreRanked rank (hook_procs table first (if b then hooks_of table ty d all_hooks else []))
      by true lifted =
          let at = here d ds ty behind in
          let is = (and_parts (has_hooks table ty) (is_shallow table ty) lifted).0 in (
            (λ u. hook_ranked Copies ty d at is),
            (
              (λ u. hook_ranked Assigns ty d at is),
              ((λ u. hook_ranked Sinks ty d at is), ((λ u. hook_ranked Ends ty d at is), tt)),
            ),
          )
      by false is = tt

  cuts_ranked : (ds : List TypeDef) (ty : ℕ) → Behind ds ty → AreRanked rank (cuts_from table first ds ty)
  cuts_ranked [] ty behind = tt
  cuts_ranked (d ∷ ds) ty behind =
      subst (AreRanked rank) (sym (cuts_from_both table first d ds ty))
      (ranked_both (cuts_of table first ty d) (cuts_from table first ds (suc ty)) (of_entry d (here d ds ty behind))
      (cuts_ranked ds (suc ty) (later d ds ty behind)))
    where
      of_entry : (d : TypeDef) → slice_get table ty ≡ Some d → AreRanked rank (cuts_of table first ty d)
      of_entry (D.Seq el) at = by (has_hooks table el && is_shallow table ty)
        where
          by : (b : Bool) → AreRanked rank (cut_procs table first (cut_if b ty el))
          by true = ((λ u. cut_ranked ty el at), tt)
          by false = tt
      of_entry D.Int at = tt
      of_entry D.Bool at = tt
      of_entry D.Char at = tt
      of_entry D.Text at = tt
      of_entry (D.Param n) at = tt
      of_entry (D.Enum name place members) at = tt
      of_entry (D.Array n el) at = tt
      of_entry (D.Tuple names ps) at = tt
      of_entry (D.Object name place of fields own ps) at = tt
      of_entry (D.Distinct name place of) at = tt
      of_entry (D.Ref name of) at = tt
      of_entry (D.Exception name place parent) at = tt

  pub all_ranked : AreRanked rank (procs_in table first)
  all_ranked =
      ranked_both (from_entry table first table 0) (cuts_from table first table 0)
      (hooks_ranked table 0 (λ j d at. subst (λ t. slice_get table t ≡ Some d) (let e : j ≡ 0 + j = omega arith in e) at))
      (cuts_ranked table 0 (λ j d at. subst (λ t. slice_get table t ≡ Some d) (let e : j ≡ 0 + j = omega arith in e) at))
