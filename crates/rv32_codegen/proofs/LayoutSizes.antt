-- Sizes and points of label code, and that a branch that is laid out as one instruction reaches its label.
use Rattle.std.proofs.Common.{◌≡◌, ℕ, ◌+◌, ◌-◌, ◌*◌, ◌%◌, ◌≤◌, ◌⊎◌, inl, inr, List, [], ◌∷◌, ◌++◌}
use Rattle.std.proofs.Common.{length, Bool, true, false, Option, Some, None}
use Rattle.std.proofs.Common.{refl, sym, ap, subst, ◌∙◌, arith, append_assoc}
use Rattle.std.specs.Prelude.{not, nat_le, nat_lt, if◌then◌else◌}
use Rattle.std.specs.Option.{option_map}
use Rattle.std.proofs.lemmas.Bool.{and_parts, cases_Bool, cond-true, cond-false, leb-true, ltb-true, true≢false}
use Rattle.rv32_isa.specs.declared.label.LabelName.{LabelName}
use Rattle.rv32_isa.specs.declared.label.LabelLine.{LabelLine}
use Rattle.rv32_isa.specs.declared.label.LabelLine.TheVariants.{Label, Do, Jump, Branch}
use Rattle.rv32_isa.specs.Labels.{is_label, from_label, is_instruction, begins}
use Rattle.rv32_isa.specs.Hooks.{code_at}
use Rattle.rv32_codegen.specs.Layout.{Far, all_far, line_size, size, reaches, too_far, laid_at, place_of, Reaches, AllReach}

-- ---- lines

branch_four : (b : Bool) → (if b then 8 else 4) % 4 ≡ 0
branch_four true = refl
branch_four false = refl

branch_least : (b : Bool) → 4 ≤ (if b then 8 else 4)
branch_least true = omega arith
branch_least false = omega arith

branch_most : (b : Bool) → (if b then 8 else 4) ≤ 8
branch_most true = omega arith
branch_most false = omega arith

line_four : (b : Bool) (line : LabelLine) → line_size b line % 4 ≡ 0
line_four b (Label name hook) = refl
line_four b (Do i) = refl
line_four b (Jump rd to) = refl
line_four b (Branch t left right to) = branch_four b

pub line_least : (b : Bool) (line : LabelLine) → is_instruction line ≡ true → 4 ≤ line_size b line
line_least b (Label name hook) e = absurd (true≢false (sym e))
line_least b (Do i) e = omega arith
line_least b (Jump rd to) e = omega arith
line_least b (Branch t left right to) e = branch_least b

line_most : (b : Bool) (line : LabelLine) → line_size b line ≤ 8
line_most b (Label name hook) = omega arith
line_most b (Do i) = omega arith
line_most b (Jump rd to) = omega arith
line_most b (Branch t left right to) = branch_most b

-- code gets no longer where branches are near
line_less : (b : Bool) (line : LabelLine) → line_size b line ≤ line_size true line
line_less b (Label name hook) = omega arith
line_less b (Do i) = omega arith
line_less b (Jump rd to) = omega arith
line_less b (Branch t left right to) = branch_most b

pub size_four : (far : Far) (lines : List LabelLine) → size far lines % 4 ≡ 0
size_four far [] = refl
size_four far (line ∷ lines) = let four = line_four (far (line ∷ lines)) line in omega (arith, four, size_four far lines)

pub size_most : (far : Far) (lines : List LabelLine) → size far lines ≤ 8 * length lines
size_most far [] = omega arith
size_most far (line ∷ lines) = let most = line_most (far (line ∷ lines)) line in omega (arith, most, size_most far lines)

-- it is longest where all branches are too far
pub size_less : (far : Far) (lines : List LabelLine) → size far lines ≤ size all_far lines
size_less far [] = omega arith
size_less far (line ∷ lines) = let less = line_less (far (line ∷ lines)) line in omega (arith, less, size_less far lines)

pub size_within : (far : Far) (before lines : List LabelLine) → size far lines ≤ size far (before ++ lines)
size_within far [] lines = omega arith
size_within far (line ∷ before) lines = omega (arith, size_within far before lines)

-- ---- points within the code

abbrev pub Within : List LabelLine → List LabelLine → Type 0
Within code left = (before : List LabelLine) × (code ≡ before ++ left)

pub within_next : (code : List LabelLine) (line : LabelLine) (left : List LabelLine) → Within code (line ∷ left) → Within code left
within_next code line left h = (h.0 ++ line ∷ [], h.1 ∙ sym (append_assoc h.0 (line ∷ []) left))

within_cons : (line : LabelLine) (code left : List LabelLine) → Within code left → Within (line ∷ code) left
within_cons line code left h = (line ∷ h.0, ap (λ x. line ∷ x) h.1)

pub fits_in : (far : Far) (code left : List LabelLine) → Within code left → size far left ≤ size far code
fits_in far code left h = subst (λ l. size far left ≤ size far l) (sym h.1) (size_within far h.0 left)

pub some_same : {A : Type 0} (x y : A) → Some x ≡ Some y → x ≡ y
some_same x y e = cc

pub no_some : {A : Type 0} (x : A) → None ≡ Some x → ⊥
no_some x e = cc

label_front : (name : LabelName) (line : LabelLine) → is_label name line ≡ true → is_instruction line ≡ false
label_front name (Label other hook) e = refl
label_front name (Do i) e = absurd (true≢false (sym e))
label_front name (Jump rd to) e = absurd (true≢false (sym e))
label_front name (Branch t left right to) e = absurd (true≢false (sym e))

-- a label's point is within the code, and begins with the label
pub label_within : (name : LabelName) (code found : List LabelLine) → from_label name code ≡ Some found → Within code found × (begins found ≡ false)
label_within name [] found e = absurd (no_some found e)
label_within name (line ∷ code) found e = elim (cases_Bool (is_label name line)) [
  | inl t ↦
      let is : line ∷ code ≡ found =
      some_same (line ∷ code) found (sym (cond-true (is_label name line) (Some (line ∷ code)) (from_label name code) t) ∙ e) in
      (([], is), subst (λ l. begins l ≡ false) is (label_front name line t))
  | inr f ↦
      let more = label_within name code found (sym (cond-false (is_label name line) (Some (line ∷ code)) (from_label name code) f) ∙ e) in
      (within_cons line code found more.0, more.1)
]

-- ---- of two points one is behind the other

tail_same : (x y : LabelLine) (xs ys : List LabelLine) → x ∷ xs ≡ y ∷ ys → xs ≡ ys
tail_same x y xs ys e = cc

abbrev OneInOther : List LabelLine → List LabelLine → Type 0
OneInOther a b = ((between : List LabelLine) × (a ≡ between ++ b)) ⊎ ((between : List LabelLine) × (b ≡ between ++ a))

one_in_other : (p q a b : List LabelLine) → p ++ a ≡ q ++ b → OneInOther a b
one_in_other [] q a b e = inl (q, e)
one_in_other (x ∷ p) [] a b e = inr (x ∷ p, sym e)
one_in_other (x ∷ p) (y ∷ q) a b e = one_in_other p q a b (tail_same x y (p ++ a) (q ++ b) e)

-- the distance of two points is largest where all branches are far
closer : (far : Far) (between lines : List LabelLine) →
    size far (between ++ lines) + size all_far lines ≤ size all_far (between ++ lines) + size far lines
closer far [] lines = omega arith
closer far (line ∷ between) lines =
    let less = line_less (far (line ∷ (between ++ lines))) line in
    omega (arith, less, closer far between lines)

-- ---- addresses

module _ (far : Far) (whole : List LabelLine) where
  abbrev here : List LabelLine → ℕ
  here = laid_at far whole

  pub at_whole : (lines : List LabelLine) → here lines % 4 ≡ 0
  at_whole lines = omega (arith, size_four far lines, size_four far whole)

  pub at_low : (lines : List LabelLine) → code_at ≤ here lines
  at_low lines = omega arith

  pub at_high : (lines : List LabelLine) → size far whole ≤ 524288 → here lines ≤ code_at + 524288
  at_high lines small = omega (arith, small)

  pub place_whole : (o : Option (List LabelLine)) → size far whole ≤ 524288 →
      (place_of far whole o % 4 ≡ 0) × (code_at ≤ place_of far whole o) × (place_of far whole o ≤ code_at + 524288)
  place_whole None small = (refl, omega arith, omega arith)
  place_whole (Some lines) small = (at_whole lines, at_low lines, at_high lines small)

  near_enough : (a b : List LabelLine) → Within whole a → Within whole b → reaches (size all_far a) (Some (size all_far b)) ≡ true →
      Reaches false (here a) (here b)
  near_enough a b h g e =
      let p = and_parts (nat_le (size all_far b - size all_far a) 4096) (nat_lt (size all_far a - size all_far b) 4096) e in
      let back = leb-true (size all_far b - size all_far a) 4096 p.0 in
      let ahead = ltb-true (size all_far a - size all_far b) 4096 p.1 in
      let fit_a = fits_in far whole a h in
      let fit_b = fits_in far whole b g in
      elim (one_in_other h.0 g.0 a b (sym h.1 ∙ g.1)) [
        | inl (between, is) ↦
            let c = subst (λ l. size far l + size all_far b ≤ size all_far l + size far b) (sym is) (closer far between b) in
            let w = subst (λ l. size far b ≤ size far l) (sym is) (size_within far between b) in
            (omega (arith, w, fit_a, fit_b), omega (arith, c, w, ahead, fit_a, fit_b))
        | inr (between, is) ↦
            let c = subst (λ l. size far l + size all_far a ≤ size all_far l + size far a) (sym is) (closer far between a) in
            let w = subst (λ l. size far a ≤ size far l) (sym is) (size_within far between a) in
            (omega (arith, c, w, back, fit_a, fit_b), omega (arith, w, fit_a, fit_b))
      ]

-- ---- the branches that are near reach

module _ (whole : List LabelLine) where
  abbrev far : Far
  far = too_far whole

  tested : (a b : List LabelLine) (test : Bool) → Within whole a → Within whole b → reaches (size all_far a) (Some (size all_far b)) ≡ test →
      Reaches (not test) (laid_at far whole a) (laid_at far whole b)
  tested a b true h g e = near_enough far whole a b h g e
  tested a b false h g e = tt

  to_place : (a : List LabelLine) (name : LabelName) (o : Option (List LabelLine)) → Within whole a → from_label name whole ≡ o →
      Reaches (not (reaches (size all_far a) (option_map (size all_far) o))) (laid_at far whole a) (place_of far whole o)
  to_place a name None h e = tt
  to_place a name (Some found) h e = tested a found (reaches (size all_far a) (Some (size all_far found))) h (label_within name whole found e).0 refl

  all_reach : (lines : List LabelLine) → Within whole lines → AllReach far whole lines
  all_reach [] h = tt
  all_reach (Label name hook ∷ lines) h = (tt, all_reach lines (within_next whole (Label name hook) lines h))
  all_reach (Do i ∷ lines) h = (tt, all_reach lines (within_next whole (Do i) lines h))
  all_reach (Jump rd to ∷ lines) h = (tt, all_reach lines (within_next whole (Jump rd to) lines h))
  all_reach (Branch t left right to ∷ lines) h =
      (to_place (Branch t left right to ∷ lines) to (from_label to whole) h refl, all_reach lines (within_next whole (Branch t left right to) lines h))

  pub reach_all : AllReach far whole whole
  reach_all = all_reach whole ([], refl)
