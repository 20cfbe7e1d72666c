-- Labels of a `case`.
use Rattle.std.proofs.Common.{◌≡◌, ℕ, ◌+◌, ◌^◌, ◌<◌, ◌≤◌, List, ◌∷◌, Some, Bool, true, false, ℤ, refl, sym, ap, ap₂, subst, ◌∙◌, arith}
use Rattle.std.specs.Prelude.{◌-ℤ◌, int_lt, int_le, unsigned_abs, not, ◌&&◌, ◌==◌, nat_lt, if◌then◌else◌}
use Rattle.std.specs.Ordering.{int_eq}
use Rattle.std.proofs.lemmas.Int.{ints}
use Rattle.std.proofs.lemmas.Bool.{and_parts, ltb-true, ltb-false}
use Rattle.std.proofs.lemmas.Bool.Decides.{Decides-int_eq}
use Rattle.rv32_isa.specs.Values.{subtracted}
use Rattle.nim_program.specs.Ints.{fits as is_int_number}
use Rattle.nim_program.specs.declared.expr.Label.TheVariants as C
use Rattle.nim_meaning.specs.Acts.{branch}
use Rattle.nim_meaning.specs.Values.{Value, number_of}
use Rattle.flat_code.specs.declared.block.BlockLine.{BlockLine}
use Rattle.flat_code.specs.declared.line.Line.TheVariants as L
use Rattle.word_code.specs.declared.word.WordOperation.TheVariants as operation
use Rattle.word_code.specs.declared.word.Test.TheVariants as test
use Rattle.word_code.specs.declared.word.WordInstr.{WordInstr}
use Rattle.word_code.specs.declared.word.WordInstr.TheVariants.{Constant, Compute, Branch}
use Rattle.word_code.specs.Words.{Vars, put, from_label}
use Rattle.flat_code.specs.Lines.{leaps_where}
use Rattle.flat_code.specs.Running.{scene_of}
use Rattle.word_lowering.proofs.ShapeFacts.{never}
use Rattle.word_code.proofs.ForCallers.{got, none, at}
use Rattle.word_lowering.specs.declared.homes.TheConstants.{FIRST, SECOND}
use Rattle.word_lowering.specs.Operations.{word}
use Rattle.word_lowering.specs.LineCode.{own_label, variable_of}
use Rattle.word_lowering.proofs.Arithmetic.{fits_signed, word_small, equal_is}
use Rattle.word_lowering.proofs.OrdinalRuns.{put_low, Leads}
use Rattle.word_lowering.proofs.OpRuns.{leads_off, leads_past, leads_constant, leads_computed}
use Rattle.word_lowering.proofs.OperationRuns.{Led}
use Rattle.word_lowering.proofs.Moves.{all_same}
use Rattle.word_lowering.proofs.Sites.{word_of}
use Rattle.word_lowering.proofs.Scenes.{of_value, house}
use Rattle.word_lowering.proofs.Related.{Both, body_of, within, high as high_state, code_behind}
use Rattle.word_lowering.proofs.Lines.{all_procs, Basis, fits_here, starts, IsGood, lower, Settles, using_settles}
use Rattle.word_lowering.proofs.ValueFacts.{Operand}
use Rattle.word_lowering.proofs.ControlLines.{FollowedHere, plain, kind_at, ordinal_read, where_settles}
use Rattle.word_lowering.proofs.Settling.{LabelsLead, passes_settles, silent_settles}
use Rattle.word_lowering.proofs.Gets.{same_temps}
use Rattle.nim_program.specs.Kinds.{is_ordinal}

-- ---- tests on numbers

-- a number is one of those from one to another where it isn't further above the first than the last is
range_is : (low high z : ℤ) → is_int_number low ≡ true → is_int_number high ≡ true → is_int_number z ≡ true → int_lt high low ≡ false
    → not (nat_lt (unsigned_abs (high -ℤ low)) (subtracted (word z) (word low))) ≡ (branch (int_le low z) (int_le z high) false)
range_is low high z fl fh fz le =
    by (nat_lt (unsigned_abs (high -ℤ low)) (subtracted (word z) (word low))) (int_le low z) (int_le z high) refl refl refl
  where
    by : (p q r : Bool) → nat_lt (unsigned_abs (high -ℤ low)) (subtracted (word z) (word low)) ≡ p → int_le low z ≡ q → int_le z high ≡ r
        → not p ≡ branch q r false
    by false true true e f g = refl
    by true false r e f g = refl
    by true true false e f g = refl
    by true true true e f g =
        let a = fits_signed low fl in let b = fits_signed high fh in let d = fits_signed z fz in
        let l = ltb-true (unsigned_abs (high -ℤ low)) (subtracted (word z) (word low)) e in absurd (omega (arith, ints))
    by false false r e f g =
        let a = fits_signed low fl in let b = fits_signed high fh in let d = fits_signed z fz in
        let l = ltb-false (unsigned_abs (high -ℤ low)) (subtracted (word z) (word low)) e in absurd (omega (arith, ints))
    by false true false e f g =
        let a = fits_signed low fl in let b = fits_signed high fh in let d = fits_signed z fz in
        let l = ltb-false (unsigned_abs (high -ℤ low)) (subtracted (word z) (word low)) e in absurd (omega (arith, ints))

one_is : (low z : ℤ) → int_eq z low ≡ (branch (int_le low z) (int_le z low) false)
one_is low z = by (int_eq z low) (int_le low z) (int_le z low) refl refl refl
  where
    by : (p q r : Bool) → int_eq z low ≡ p → int_le low z ≡ q → int_le z low ≡ r → p ≡ branch q r false
    by true true true e f g = refl
    by false false r e f g = refl
    by false true false e f g = refl
    by true false r e f g = let s = (Decides-int_eq z low).0 e in absurd (omega (arith, ints))
    by true true false e f g = let s = (Decides-int_eq z low).0 e in absurd (omega (arith, ints))
    by false true true e f g = never (sym e ∙ (Decides-int_eq z low).1 (omega (arith, ints)))

none_is : (low high z : ℤ) → int_lt high low ≡ true → (branch (int_le low z) (int_le z high) false) ≡ false
none_is low high z lt = by (int_le low z) (int_le z high) refl refl
  where
    by : (q r : Bool) → int_le low z ≡ q → int_le z high ≡ r → branch q r false ≡ false
    by false r f g = refl
    by true false f g = refl
    by true true f g = absurd (omega (arith, ints))

span_small : (low high : ℤ) → is_int_number low ≡ true → is_int_number high ≡ true → int_lt high low ≡ false → unsigned_abs
    (high -ℤ low) < 2 ^ 32
span_small low high fl fh le = let a = fits_signed low fl in let b = fits_signed high fh in omega (arith, ints)

module _ (x : Basis) (labels : LabelsLead x) (g : Both) (rest : List BlockLine) (from : ℕ) (low high : ℤ) (name : ℕ) where
  abbrev line : BlockLine
  line = plain (L.Fits from (C.Ordinals low high) name)

  module _ (y : IsGood x (starts g line rest)) where
    abbrev k : List WordInstr
    k = code_behind x.table x.blocks (body_of g) rest

    abbrev from_variable : ℕ
    from_variable = variable_of (house g.call.site (of_value from))

    kinds : (is_ordinal (kind_at x g line rest y from) ≡ true) × ((is_int_number low && is_int_number high) ≡ true)
    kinds = and_parts (is_ordinal (kind_at x g line rest y from)) (is_int_number low && is_int_number high)
        (fits_here x.table x.blocks (body_of g) line rest y.stands)

    low_fits : is_int_number low ≡ true
    low_fits = (and_parts (is_int_number low) (is_int_number high) kinds.1).0

    high_fits : is_int_number high ≡ true
    high_fits = (and_parts (is_int_number low) (is_int_number high) kinds.1).1

    -- the code, by the tests on the labels
    one_code : List WordInstr
    one_code = Constant FIRST (word low) ∷ Branch test.Equal from_variable FIRST (own_label name) ∷ k

    range_code : List WordInstr
    range_code = Constant FIRST (word low) ∷ Compute FIRST operation.Subtract from_variable FIRST ∷ Constant SECOND (unsigned_abs (high -ℤ low))
        ∷ Branch test.NotBelow SECOND FIRST (own_label name) ∷ k

    abbrev Here : List WordInstr → List WordInstr → Type 0
    Here code there = Led x.live (all_procs x) (within x.table x.blocks g) g.memory g.words code g.call.vars there

    abbrev Comes : List WordInstr → Type 0
    Comes there = Here (code_behind x.table x.blocks (body_of g) (line ∷ rest)) there

    abbrev Stands : List WordInstr → Type 0
    Stands there = from_label (own_label name) (word_of x.table x.blocks (body_of g)).lines ≡ Some there

    abbrev Goal : ℤ → Type 0
    Goal z = Settles x (starts g line rest) rest
        (leaps_where (scene_of (high_state x.table x.blocks (starts g line rest))) 1 (branch (int_le low z) (int_le z high) false) name)

    stays_here : (w : Vars) → Leads x.live (all_procs x) (within x.table x.blocks g) g.memory g.words k w k 0
    stays_here w = record { vars = w; same = all_same w; runs = none (lower x) (at (within x.table x.blocks g) g.memory k w g.words) }

    -- one label
    module _ (v : Value) (o : Operand x g.call from v) where
      one_reads : put g.call.vars FIRST (word low) from_variable ≡ Some (word (number_of v))
      one_reads = put_low g.call.vars FIRST (word low) from_variable (omega arith) o.high ∙ o.word_is

      one_leads : (word (number_of v) == word low) ≡ true → (there : List WordInstr) → Stands there → Here one_code there
      unfolding one_code
      one_leads h there stands = record {
        steps = 1 + 1;
        some = omega arith;
        few = omega arith;
        leads = leads_constant x.live (all_procs x) (within x.table x.blocks g) g.memory g.words
            (Branch test.Equal from_variable FIRST (own_label name) ∷ k) there g.call.vars 1 FIRST
            (word low) (omega arith) (omega arith)
            (leads_off x.live (all_procs x) (within x.table x.blocks g) g.memory g.words k there
            (put g.call.vars FIRST (word low)) test.Equal from_variable FIRST (own_label name)
            (word (number_of v)) (word low) one_reads (got (word low) (word_small low low_fits)) h stands);
      }

      one_passes : (word (number_of v) == word low) ≡ false → Here one_code k
      unfolding one_code
      one_passes h = record {
        steps = 1 + (1 + 0);
        some = omega arith;
        few = omega arith;
        leads = leads_constant x.live (all_procs x) (within x.table x.blocks g) g.memory g.words
            (Branch test.Equal from_variable FIRST (own_label name) ∷ k) k g.call.vars (1 + 0) FIRST
            (word low) (omega arith) (omega arith)
            (leads_past x.live (all_procs x) (within x.table x.blocks g) g.memory g.words k k
            (put g.call.vars FIRST (word low)) 0 test.Equal from_variable FIRST (own_label name)
            (word (number_of v)) (word low) one_reads (got (word low) (word_small low low_fits)) h (stays_here (put g.call.vars FIRST (word low))));
      }

      -- a range
      abbrev far : ℕ
      far = subtracted (word (number_of v)) (word low)

      abbrev span : ℕ
      span = unsigned_abs (high -ℤ low)

      abbrev last_vars : Vars
      last_vars = put (put (put g.call.vars FIRST (word low)) FIRST far) SECOND span

      range_by : (there : List WordInstr) (steps : ℕ) → Leads x.live (all_procs x) (within x.table x.blocks g) g.memory g.words
          (Branch test.NotBelow SECOND FIRST (own_label name) ∷ k) last_vars there steps → 0 < steps → steps ≤ 2 → Here range_code there
      unfolding range_code
      range_by there steps l some few = record {
        steps = 1 + (1 + (1 + steps));
        some = omega arith;
        few = omega (arith, few);
        leads = leads_constant x.live (all_procs x) (within x.table x.blocks g) g.memory g.words
            (Compute FIRST operation.Subtract from_variable FIRST ∷ Constant SECOND span ∷ Branch test.NotBelow SECOND FIRST (own_label name) ∷ k) there
            g.call.vars (1 + (1 + steps)) FIRST
            (word low) (omega arith) (omega arith)
            (leads_computed x.live (all_procs x) (within x.table x.blocks g) g.memory g.words
            (Constant SECOND span ∷ Branch test.NotBelow SECOND FIRST (own_label name) ∷ k) there
            (put g.call.vars FIRST (word low)) (1 + steps) FIRST operation.Subtract from_variable FIRST (word (number_of v)) (word low) (omega arith)
            (omega arith) one_reads
            (got (word low) (word_small low low_fits))
            (leads_constant x.live (all_procs x) (within x.table x.blocks g) g.memory g.words
            (Branch test.NotBelow SECOND FIRST (own_label name) ∷ k) there
            (put (put g.call.vars FIRST (word low)) FIRST far) steps SECOND span (omega arith) (omega arith) l));
      }

      module _ (le : int_lt high low ≡ false) where
        range_leads : not (nat_lt span far) ≡ true → (there : List WordInstr) → Stands there → Here range_code there
        range_leads h there stands = range_by there 1
            (leads_off x.live (all_procs x) (within x.table x.blocks g) g.memory g.words k there last_vars test.NotBelow SECOND FIRST
            (own_label name) span far
            (got span (span_small low high low_fits high_fits le)) (got far (omega arith)) h stands) (omega arith) (omega arith)

        range_passes : not (nat_lt span far) ≡ false → Here range_code k
        range_passes h = range_by k (1 + 0)
            (leads_past x.live (all_procs x) (within x.table x.blocks g) g.memory g.words k k last_vars 0 test.NotBelow SECOND FIRST
            (own_label name) span far
            (got span (span_small low high low_fits high_fits le)) (got far (omega arith)) h (stays_here last_vars)) (omega arith) (omega arith)

      abbrev chosen : Bool → Bool → List WordInstr
      chosen p q = if p then k else if q then one_code else range_code

      is_chosen : (p q : Bool) → int_lt high low ≡ p → int_eq low high ≡ q → code_behind x.table x.blocks (body_of g) (line ∷ rest)
          ≡ chosen p q
      unfolding one_code range_code
      is_chosen p q e f = ap₂ chosen e f

      goal : (p q : Bool) → int_lt high low ≡ p → int_eq low high ≡ q → Goal (number_of v)
      goal true q e f =
          where_settles x g line rest y labels refl (branch (int_le low (number_of v)) (int_le (number_of v) high) false) name
          (λ h. never (sym (none_is low high (number_of v) e) ∙ h))
          (λ h. silent_settles x g line rest y g.call.temps (same_temps x g line rest y) 1 (is_chosen true q e f))
      goal false true e f =
          let same : low ≡ high = (Decides-int_eq low high).0 f in
          let is : (word (number_of v) == word low) ≡ (branch (int_le low (number_of v)) (int_le (number_of v) high) false)
          = equal_is (number_of v) low o.fits low_fits ∙ one_is low (number_of v)
          ∙ ap (λ h. branch (int_le low (number_of v)) (int_le (number_of v) h) false) same in
          where_settles x g line rest y labels refl (branch (int_le low (number_of v)) (int_le (number_of v) high) false) name
          (λ h there stands. subst (λ l. Here l there) (sym (is_chosen false true e f)) (one_leads (is ∙ h) there stands))
          (λ h. passes_settles x g line rest y g.call.temps (same_temps x g line rest y) 1 (omega arith)
          (subst (λ l. Here l k) (sym (is_chosen false true e f)) (one_passes (is ∙ h))))
      goal false false e f =
          let is = range_is low high (number_of v) low_fits high_fits o.fits e in
          where_settles x g line rest y labels refl (branch (int_le low (number_of v)) (int_le (number_of v) high) false) name
          (λ h there stands. subst (λ l. Here l there) (sym (is_chosen false false e f)) (range_leads e (is ∙ h) there stands))
          (λ h. passes_settles x g line rest y g.call.temps (same_temps x g line rest y) 1 (omega arith)
          (subst (λ l. Here l k) (sym (is_chosen false false e f)) (range_passes e (is ∙ h))))

  pub fits_line : FollowedHere x labels g rest (L.Fits from (C.Ordinals low high) name)
  fits_line names y =
      using_settles x (starts g line rest) rest (g.call.temps.values from)
      (λ v. leaps_where (scene_of (high_state x.table x.blocks (starts g line rest))) 1
      (branch (int_le low (number_of v)) (int_le (number_of v) high) false) name)
      (λ v e. goal y v (ordinal_read x g line rest y from v (kinds y).0 e) (int_lt high low) (int_eq low high) refl refl)
