-- What holds of each element of lists that stand one behind another.
use Rattle.std.proofs.Common.{List, [], ◌∷◌, ◌++◌}
use Rattle.nim_program.specs.Folds.{lists, together, in_turn}

abbrev pub Each : {A : Type 0} → (A → Type 0) → List A → Type 0
Each holds [] = Unit {0}
Each holds (x ∷ xs) = holds x × Each holds xs

abbrev pub EachIn : {A : Type 0} → (A → Type 0) → List (List A) → Type 0
EachIn holds [] = Unit {0}
EachIn holds (xs ∷ more) = Each holds xs × EachIn holds more

module _ {A : Type 0} (holds : A → Type 0) where
  pub apart : (xs ys : List A) → Each holds (xs ++ ys) → Each holds xs × Each holds ys
  apart [] ys h = (tt, h)
  apart (x ∷ xs) ys h = let q = apart xs ys h.1 in ((h.0, q.0), q.1)

  pub both : (xs ys : List A) → Each holds xs → Each holds ys → Each holds (xs ++ ys)
  both [] ys h k = k
  both (x ∷ xs) ys h k = (h.0, both xs ys h.1 k)

  pub all_together : (lists_of : List (List A)) → Each holds (together lists lists_of) → EachIn holds lists_of
  all_together [] h = tt
  all_together (xs ∷ more) h = let q = apart xs (together lists more) h in (q.0, all_together more q.1)

  -- of lists that take turns
  pub taking_turns : (xs ys : List (List A)) → Each holds (in_turn lists xs ys) → EachIn holds xs × EachIn holds ys
  taking_turns [] ys h = (tt, all_together ys h)
  taking_turns (x ∷ xs) [] h = let q = apart x (together lists xs) h in ((q.0, all_together xs q.1), tt)
  taking_turns (x ∷ xs) (y ∷ ys) h =
      let q = apart x (y ++ in_turn lists xs ys) h in
      let r = apart y (in_turn lists xs ys) q.1 in
      let s = taking_turns xs ys r.1 in
      ((q.0, s.0), (r.0, s.1))
