-- The marks of label code: their numbers, and that a jump back to the point behind a jump comes there.
use Rattle.std.proofs.Common.{◌≡◌, ℕ, suc, ◌<◌, ◌≤◌, List, [], ◌∷◌, ◌++◌, Some, Bool, true, false, refl, sym, ap, subst, ◌∙◌}
use Rattle.std.proofs.Common.{arith, inl, inr}
use Rattle.std.specs.Prelude.{◌==◌, ◌&&◌}
use Rattle.std.proofs.lemmas.Bool.{eq-eqb, ne_eqb, and_from, and_left, and_right, cases_Bool, cond-true, cond-false, cond_both}
use Rattle.rv32_isa.specs.declared.label.LabelLine.{LabelLine}
use Rattle.rv32_isa.specs.declared.label.LabelLine.TheVariants.{Label, Do, Jump, Branch}
use Rattle.rv32_isa.specs.Labels.{is_labelled, is_mark, marked, next_mark, marks, mark_before, Addresses, Rise, from_mark, is_instruction}

next_more : (b : Bool) (n : ℕ) → n ≤ next_mark b n
next_more true n = omega arith
next_more false n = omega arith

-- the mark in front of lines has a number
pub mark_some : (lines : List LabelLine) → 0 < mark_before lines
mark_some [] = omega arith
mark_some (Label name hook ∷ lines) = mark_some lines
mark_some (Do i ∷ lines) = omega arith
mark_some (Jump rd to ∷ lines) = omega arith
mark_some (Branch t left right to ∷ lines) = omega arith

-- that of a line that makes one is the last one of the line and what follows
pub mark_first : (line : LabelLine) (lines : List LabelLine) → is_mark line ≡ true → marks (line ∷ lines) ≡ mark_before lines
mark_first line lines e = cond-true (is_mark line) (mark_before lines) (marks lines) e

-- lines before others only add marks
pub marks_more : (before lines : List LabelLine) → marks lines ≤ marks (before ++ lines)
marks_more [] lines = omega arith
marks_more (line ∷ before) lines =
    let more = before ++ lines in
    let n = marks more in
    let le = marks_more before lines in
    cond_both (is_mark line) (next_mark (is_labelled more) n) n (λ k. marks lines ≤ k)
    (λ e. let next = next_more (is_labelled more) n in omega (arith, le, next)) (λ e. le)

pub mark_within : (before : List LabelLine) (line : LabelLine) (rest : List LabelLine) → is_mark line ≡ true →
    mark_before rest ≤ marks (before ++ line ∷ rest)
mark_within before line rest e =
    subst (λ n. n ≤ marks (before ++ line ∷ rest)) (mark_first line rest e) (marks_more before (line ∷ rest))

instruction_front : (line : LabelLine) (lines : List LabelLine) → is_instruction line ≡ true → is_labelled (line ∷ lines) ≡ false
instruction_front (Label name hook) lines e = sym e
instruction_front (Do i) lines e = refl
instruction_front (Jump rd to) lines e = refl
instruction_front (Branch t left right to) lines e = refl

instruction_marks : (line : LabelLine) (lines : List LabelLine) → is_instruction line ≡ true → marked line lines ≡ lines
instruction_marks (Label name hook) lines e = absurd (no e)
  where
    no : false ≡ true → ⊥
    no e = cc
instruction_marks (Do i) lines e = refl
instruction_marks (Jump rd to) lines e = refl
instruction_marks (Branch t left right to) lines e = refl

-- a mark in front of an instruction has a higher number than the one behind it
mark_above : (before : List LabelLine) (line : LabelLine) (rest : List LabelLine) → is_instruction line ≡ true → is_mark line ≡ true →
    mark_before rest < mark_before (before ++ line ∷ rest)
mark_above [] line rest i m =
    let e : mark_before (line ∷ rest) ≡ suc (mark_before rest) =
    ap (λ b. next_mark b (marks (line ∷ rest))) (instruction_front line rest i) ∙ ap suc (mark_first line rest m) in
    omega (arith, e)
mark_above (Label name hook ∷ before) line rest i m = mark_above before line rest i m
mark_above (Do j ∷ before) line rest i m =
    let le = mark_within (Do j ∷ before) line rest m in
    omega (arith, le)
mark_above (Jump rd to ∷ before) line rest i m =
    let le = mark_within (Jump rd to ∷ before) line rest m in
    omega (arith, le)
mark_above (Branch t left right to ∷ before) line rest i m =
    let le = mark_within (Branch t left right to ∷ before) line rest m in
    omega (arith, le)

found_behind : (at : Addresses) (count : ℕ) (before : List LabelLine) (line : LabelLine) (rest : List LabelLine) → Rise at count →
    marks (before ++ line ∷ rest) ≤ count → is_instruction line ≡ true → is_mark line ≡ true →
    from_mark at (at (mark_before rest)) (before ++ line ∷ rest) ≡ Some rest
found_behind at count [] line rest rise le i m =
    let x = at (mark_before rest) in
    let found : (is_mark line && (x == x)) ≡ true = and_from (is_mark line) (x == x) m (eq-eqb x x refl) in
    cond-true (is_mark line && (x == x)) (Some (marked line rest)) (from_mark at x rest) found ∙ ap Some (instruction_marks line rest i)
found_behind at count (y ∷ before) line rest rise le i m =
    let more = before ++ line ∷ rest in
    let x = at (mark_before rest) in
    let z = at (mark_before more) in
    let fewer = marks_more (y ∷ []) more in
    let other : (is_mark y && (z == x)) ≡ false = elim (cases_Bool (is_mark y)) [
      | inl e ↦
          let first = mark_first y more e in
          let lower = rise.rises (mark_before more) (mark_before rest) (mark_some rest) (mark_above before line rest i m) (omega (arith, first, le)) in
          and_right (is_mark y) (z == x) (ne_eqb z x (λ same. omega (arith, same, lower)))
      | inr e ↦ and_left (is_mark y) (z == x) e
    ] in
    cond-false (is_mark y && (z == x)) (Some (marked y more)) (from_mark at x more) other ∙
    found_behind at count before line rest rise (omega (arith, fewer, le)) i m

-- where addresses rise, the point behind a jump is found by the address that the jump keeps
pub comes_back : (at : Addresses) (before rest : List LabelLine) (line : LabelLine) → Rise at (marks (before ++ line ∷ rest)) →
    is_instruction line ≡ true → is_mark line ≡ true → from_mark at (at (mark_before rest)) (before ++ line ∷ rest) ≡ Some rest
comes_back at before rest line rise i m = found_behind at (marks (before ++ line ∷ rest)) before line rest rise (omega arith) i m
