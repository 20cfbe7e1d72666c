-- Numbers of nodes, one by one.
use Rattle.std.specs.Prelude.{ℕ, suc, List, [], ◌∷◌}

-- the numbers from one up to another
pub data Run : ℕ → List ℕ → ℕ → Type 0 where
  run_over : {n : ℕ} → Run n [] n
  run_on : {n m : ℕ} {ns : List ℕ} → Run (suc n) ns m → Run n (n ∷ ns) m
