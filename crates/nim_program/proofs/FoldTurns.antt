-- Conditions and blocks that stand in turn, where the order in which parts are put together makes no difference.
use Rattle.std.proofs.Common.{◌≡◌, refl, sym, ap, ap₂, ◌∙◌, arith, ℕ, ◌+◌, false, List, [], ◌∷◌}
use Rattle.nim_program.specs.Program.{Args, NoArg, ByValue, ByPath, Blocks, Otherwise, Block}
use Rattle.nim_program.specs.Folds.{Seen, Sum, numbers, together, in_turn, each, each_block, total, total_at, totals, total_of}

pub record Unordered {A : Type 0} (sum : Sum A) : Type 0 where
  pub alone : (x : A) → sum.plus x sum.none ≡ x
  pub both : (x y : A) → sum.plus x y ≡ sum.plus y x
  pub behind : (x y z : A) → sum.plus (sum.plus x y) z ≡ sum.plus x (sum.plus y z)

-- over blocks alone
abbrev pub sum_of_blocks : {A : Type 0} → Sum A → (Seen → A) → Blocks → A
sum_of_blocks sum own (Otherwise block) = total_of sum own block
sum_of_blocks sum own (Block first rest) = sum.plus (total_of sum own first) (sum_of_blocks sum own rest)

module _ {A : Type 0} (sum : Sum A) (u : Unordered sum) (own : Seen → A) where
  past : (x y z : A) → sum.plus x (sum.plus y z) ≡ sum.plus y (sum.plus x z)
  past x y z = sym (u.behind x y z) ∙ ap (λ r. sum.plus r z) (u.both x y) ∙ u.behind y x z

  turn_apart : (xs ys : List A) → in_turn sum xs ys ≡ sum.plus (together sum xs) (together sum ys)
  turn_apart [] ys = sym (u.both sum.none (together sum ys) ∙ u.alone (together sum ys))
  turn_apart (x ∷ xs) [] = sym (u.alone (sum.plus x (together sum xs)))
  turn_apart (x ∷ xs) (y ∷ ys) =
      ap (λ r. sum.plus x (sum.plus y r)) (turn_apart xs ys) ∙ ap (sum.plus x) (past y (together sum xs) (together sum ys))
      ∙ sym (u.behind x (together sum xs) (sum.plus y (together sum ys)))

  tests_together : (tests : Args) → together sum (each sum own tests) ≡ totals sum own tests
  tests_together NoArg = refl
  tests_together (ByValue value rest) = ap (sum.plus (total sum own value)) (tests_together rest)
  tests_together (ByPath path rest) = ap (sum.plus (total_at sum own false path)) (tests_together rest)

  blocks_together : (blocks : Blocks) → together sum (each_block sum own blocks) ≡ sum_of_blocks sum own blocks
  blocks_together (Otherwise block) = u.alone (total_of sum own block)
  blocks_together (Block first rest) = ap (sum.plus (total_of sum own first)) (blocks_together rest)

  pub turns_apart : (tests : Args) (blocks : Blocks) →
      in_turn sum (each sum own tests) (each_block sum own blocks) ≡ sum.plus (totals sum own tests) (sum_of_blocks sum own blocks)
  turns_apart tests blocks =
      turn_apart (each sum own tests) (each_block sum own blocks) ∙ ap₂ sum.plus (tests_together tests) (blocks_together blocks)

unordered_numbers : Unordered numbers
unordered_numbers = record { alone = λ x. omega arith; both = λ x y. omega arith; behind = λ x y z. omega arith }

pub in_turn_sum : (own : Seen → ℕ) (tests : Args) (blocks : Blocks) →
    in_turn numbers (each numbers own tests) (each_block numbers own blocks) ≡ totals numbers own tests + sum_of_blocks numbers own blocks
in_turn_sum own tests blocks = turns_apart numbers unordered_numbers own tests blocks
