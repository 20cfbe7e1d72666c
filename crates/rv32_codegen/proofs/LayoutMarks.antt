-- The addresses of marks in an image: they rise, and that of a jump's mark is the address behind the jump.
use Rattle.std.proofs.Common.{◌≡◌, ℕ, suc, ◌%◌, ◌^◌, ◌<◌, ◌≤◌, inl, inr, List, [], ◌∷◌, ◌++◌, Bool}
use Rattle.std.proofs.Common.{true, false, Some}
use Rattle.std.proofs.Common.{refl, sym, ap, ◌∙◌, arith}
use Rattle.std.specs.Prelude.{nat_le, ◌==◌, ◌&&◌, if◌then◌else◌}
use Rattle.std.proofs.lemmas.Bool.{and_parts, cases_Bool, cond-true, cond-false, le-leb, lt-leb, leb-true, leb-false, eqb-true, true≢false}
use Rattle.rv32_isa.specs.declared.label.LabelLine.{LabelLine}
use Rattle.rv32_isa.specs.declared.label.LabelLine.TheVariants.{Label, Do, Jump, Branch}
use Rattle.rv32_isa.specs.Labels.{is_labelled, is_mark, marked, next_mark, marks, mark_before, Addresses, Rise, from_mark, is_instruction}
use Rattle.rv32_isa.proofs.ForCallers.{marks_more}
use Rattle.rv32_codegen.specs.Layout.{Far, size, laid_at}
use Rattle.rv32_codegen.proofs.LayoutSizes.{line_least, Within, within_next, some_same, no_some, at_whole}

module _ (far : Far) (whole : List LabelLine) where
  abbrev here : List LabelLine → ℕ
  here = laid_at far whole

  -- a mark with a number of those behind the first line is there, and another one is made by it
  abbrev pub mark_in : List LabelLine → Addresses
  mark_in [] mark = here []
  mark_in (line ∷ lines) mark = if nat_le mark (marks lines) then mark_in lines mark else here lines

  -- where the marks are
  abbrev pub mark_at : Addresses
  mark_at = mark_in whole

  behind : (line : LabelLine) (lines : List LabelLine) (mark : ℕ) → mark ≤ marks lines → mark_in (line ∷ lines) mark ≡ mark_in lines mark
  behind line lines mark le = cond-true (nat_le mark (marks lines)) (mark_in lines mark) (here lines) (le-leb mark (marks lines) le)

  first : (line : LabelLine) (lines : List LabelLine) (mark : ℕ) → marks lines < mark → mark_in (line ∷ lines) mark ≡ here lines
  first line lines mark lt = cond-false (nat_le mark (marks lines)) (mark_in lines mark) (here lines) (lt-leb mark (marks lines) lt)

  far_behind : (before lines : List LabelLine) (mark : ℕ) → mark ≤ marks lines → mark_in (before ++ lines) mark ≡ mark_in lines mark
  far_behind [] lines mark le = refl
  far_behind (line ∷ before) lines mark le =
      behind line (before ++ lines) mark (omega (arith, le, marks_more before lines)) ∙ far_behind before lines mark le

  -- the mark that a line makes is behind it
  own_mark : (line : LabelLine) (lines : List LabelLine) → mark_in (line ∷ lines) (mark_before lines) ≡ here lines
  own_mark line [] = refl
  own_mark line (Label name hook ∷ lines) =
      let same : here lines ≡ here (Label name hook ∷ lines) = omega arith in
      behind line (Label name hook ∷ lines) (mark_before lines) (omega arith) ∙ own_mark (Label name hook) lines ∙ same
  own_mark line (Do i ∷ lines) = first line (Do i ∷ lines) (mark_before (Do i ∷ lines)) (omega arith)
  own_mark line (Jump rd to ∷ lines) = first line (Jump rd to ∷ lines) (mark_before (Jump rd to ∷ lines)) (omega arith)
  own_mark line (Branch t a b to ∷ lines) = first line (Branch t a b to ∷ lines) (mark_before (Branch t a b to ∷ lines)) (omega arith)

  pub mark_laid : (line : LabelLine) (lines : List LabelLine) → Within whole (line ∷ lines) → is_mark line ≡ true →
      mark_at (mark_before lines) ≡ here lines
  mark_laid line lines h e =
      let is : marks (line ∷ lines) ≡ mark_before lines = cond-true (is_mark line) (mark_before lines) (marks lines) e in
      ap (λ l. mark_in l (mark_before lines)) h.1 ∙ far_behind h.0 (line ∷ lines) (mark_before lines) (omega (arith, is)) ∙ own_mark line lines

  -- ---- a mark that is looked up

  label_here : (line : LabelLine) (lines : List LabelLine) → here (marked line lines) ≡ here lines
  label_here (Label name hook) lines = omega arith
  label_here (Do i) lines = refl
  label_here (Jump rd to) lines = refl
  label_here (Branch t a b to) lines = refl

  pub mark_is : (x : ℕ) (code found : List LabelLine) → Within whole code → from_mark mark_at x code ≡ Some found →
      (line : LabelLine) × (rest : List LabelLine) × Within whole (line ∷ rest) × (found ≡ marked line rest) × (here found ≡ x)
  mark_is x [] found h e = absurd (no_some found e)
  mark_is x (line ∷ code) found h e =
      let test = is_mark line && (mark_at (mark_before code) == x) in
      elim (cases_Bool test) [
        | inl t ↦
            let is : marked line code ≡ found =
            some_same (marked line code) found (sym (cond-true test (Some (marked line code)) (from_mark mark_at x code) t) ∙ e) in
            let both = and_parts (is_mark line) (mark_at (mark_before code) == x) t in
            let at = ap here (sym is) ∙ label_here line code ∙ sym (mark_laid line code h both.0) ∙ eqb-true (mark_at (mark_before code)) x both.1 in
            (line, code, h, sym is, at)
        | inr f ↦ mark_is x code found (within_next whole line code h) (sym (cond-false test (Some (marked line code)) (from_mark mark_at x code) f) ∙ e)
      ]

  -- ---- the addresses rise

  mark_whole : (lines : List LabelLine) (mark : ℕ) → mark_in lines mark % 4 ≡ 0
  mark_whole [] mark = at_whole far whole []
  mark_whole (line ∷ lines) mark = elim (cases_Bool (nat_le mark (marks lines))) [
    | inl t ↦ ap (λ n. n % 4) (cond-true (nat_le mark (marks lines)) (mark_in lines mark) (here lines) t) ∙ mark_whole lines mark
    | inr f ↦ ap (λ n. n % 4) (cond-false (nat_le mark (marks lines)) (mark_in lines mark) (here lines) f) ∙ at_whole far whole lines
  ]

  mark_fits : size far whole ≤ 524288 → (lines : List LabelLine) (mark : ℕ) → mark_in lines mark < 2 ^ 32
  mark_fits small [] mark = omega (arith, small)
  mark_fits small (line ∷ lines) mark = elim (cases_Bool (nat_le mark (marks lines))) [
    | inl t ↦ let is = cond-true (nat_le mark (marks lines)) (mark_in lines mark) (here lines) t in omega (arith, is, mark_fits small lines mark)
    | inr f ↦ let is = cond-false (nat_le mark (marks lines)) (mark_in lines mark) (here lines) f in omega (arith, is, small)
  ]

  -- marks of lines are not before them
  not_before : (lines : List LabelLine) (mark : ℕ) → size far lines ≤ size far whole → 0 < mark → mark ≤ marks lines →
      here lines ≤ mark_in lines mark
  not_before [] mark fit some le = absurd (omega (arith, some, le))
  not_before (line ∷ lines) mark fit some le = elim (cases_Bool (nat_le mark (marks lines))) [
    | inl t ↦
        let is = cond-true (nat_le mark (marks lines)) (mark_in lines mark) (here lines) t in
        let within = not_before lines mark (omega (arith, fit)) some (leb-true mark (marks lines) t) in
        omega (arith, is, within, fit)
    | inr f ↦ let is = cond-false (nat_le mark (marks lines)) (mark_in lines mark) (here lines) f in omega (arith, is, fit)
  ]

  -- marks behind an instruction are behind its address
  behind_one : (line : LabelLine) (lines : List LabelLine) (mark : ℕ) → is_instruction line ≡ true → size far (line ∷ lines) ≤ size far whole →
      0 < mark →
      mark ≤ marks (line ∷ lines) → here (line ∷ lines) < mark_in (line ∷ lines) mark
  behind_one line lines mark one fit some le =
      let least = line_least (far (line ∷ lines)) line one in
      elim (cases_Bool (nat_le mark (marks lines))) [
        | inl t ↦
            let is = cond-true (nat_le mark (marks lines)) (mark_in lines mark) (here lines) t in
            let within = not_before lines mark (omega (arith, fit)) some (leb-true mark (marks lines) t) in
            omega (arith, is, within, fit, least)
        | inr f ↦ let is = cond-false (nat_le mark (marks lines)) (mark_in lines mark) (here lines) f in omega (arith, is, fit, least)
      ]

  -- marks of lines that don't begin with a label are behind their address
  behind_here : (lines : List LabelLine) (mark : ℕ) → is_labelled lines ≡ false → size far lines ≤ size far whole → 0 < mark →
      mark ≤ marks lines →
      here lines < mark_in lines mark
  behind_here [] mark e fit some le = absurd (omega (arith, some, le))
  behind_here (Label name hook ∷ lines) mark e fit some le = absurd (true≢false e)
  behind_here (Do i ∷ lines) mark e fit some le = behind_one (Do i) lines mark refl fit some le
  behind_here (Jump rd to ∷ lines) mark e fit some le = behind_one (Jump rd to) lines mark refl fit some le
  behind_here (Branch t a b to ∷ lines) mark e fit some le = behind_one (Branch t a b to) lines mark refl fit some le

  -- a line that makes a new mark isn't followed by a label
  new_mark : (line : LabelLine) (lines : List LabelLine) → marks lines < marks (line ∷ lines) → is_labelled lines ≡ false
  new_mark line lines lt = elim (cases_Bool (is_labelled lines)) [
    | inl t ↦
        let same : next_mark (is_labelled lines) (marks lines) ≡ marks lines = ap (λ b. next_mark b (marks lines)) t in
        absurd (elim (cases_Bool (is_mark line)) [
          | inl m ↦ let is = cond-true (is_mark line) (next_mark (is_labelled lines) (marks lines)) (marks lines) m in omega (arith, is, same, lt)
          | inr m ↦ let is = cond-false (is_mark line) (next_mark (is_labelled lines) (marks lines)) (marks lines) m in omega (arith, is, lt)
        ])
    | inr f ↦ f
  ]

  rise_in : (lines : List LabelLine) (earlier later : ℕ) → size far lines ≤ size far whole → 0 < later → later < earlier →
      earlier ≤ marks lines →
      mark_in lines earlier < mark_in lines later
  rise_in [] earlier later fit some lt le = absurd (omega (arith, lt, le))
  rise_in (line ∷ lines) earlier later fit some lt le = elim (cases_Bool (nat_le earlier (marks lines))) [
    | inl t ↦
        let there = leb-true earlier (marks lines) t in
        let p = behind line lines earlier there in
        let q = behind line lines later (omega (arith, there, lt)) in
        omega (arith, p, q, rise_in lines earlier later (omega (arith, fit)) some lt there)
    | inr f ↦
        let new = leb-false earlier (marks lines) f in
        let front = new_mark line lines (omega (arith, new, le)) in
        let count : marks (line ∷ lines) ≤ suc (marks lines) = at_most line lines in
        let p = first line lines earlier (omega (arith, new)) in
        let there : later ≤ marks lines = omega (arith, lt, le, count) in
        let q = behind line lines later there in
        omega (arith, p, q, behind_here lines later front (omega (arith, fit)) some there)
  ]
    where
      next_most : (b : Bool) (n : ℕ) → next_mark b n ≤ suc n
      next_most true n = omega arith
      next_most false n = omega arith

      at_most : (line : LabelLine) (lines : List LabelLine) → marks (line ∷ lines) ≤ suc (marks lines)
      at_most line lines = elim (cases_Bool (is_mark line)) [
        | inl m ↦
            let is = cond-true (is_mark line) (next_mark (is_labelled lines) (marks lines)) (marks lines) m in
            let most = next_most (is_labelled lines) (marks lines) in
            omega (arith, is, most)
        | inr m ↦ let is = cond-false (is_mark line) (next_mark (is_labelled lines) (marks lines)) (marks lines) m in omega (arith, is)
      ]

  pub marks_rise : size far whole ≤ 524288 → Rise mark_at (marks whole)
  marks_rise small = record {
    whole = λ mark some le. mark_whole whole mark;
    fits = λ mark some le. mark_fits small whole mark;
    rises = λ earlier later some lt le. rise_in whole earlier later (omega arith) some lt le;
  }
