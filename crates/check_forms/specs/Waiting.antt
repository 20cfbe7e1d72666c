-- The names that wait for their rule, by which of them are declared. It serves proofs alone: the promise of
-- `check_nothing_left_out` doesn't speak of it.
use Rattle.std.specs.Prelude.{ℕ, Bool, true, false, List, [], ◌∷◌, codes}
use Rattle.check_forms.specs.declared.names.Waiting.{Waiting}

abbrev pub if_waiting : Bool → List ℕ → List (List ℕ) → List (List ℕ)
if_waiting true name rest = name ∷ rest
if_waiting false name rest = rest

abbrev pub names_in : Waiting → List (List ℕ)
names_in w = if_waiting w.is_nil (codes "isnil") (if_waiting w.new_exception (codes "newexception") [])
