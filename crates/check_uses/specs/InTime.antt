-- Procedures whose bodies come in time. It serves proofs alone: the promise of `check_text` doesn't speak of it.
use Rattle.std.specs.Prelude.{◌≡◌, ℕ, List}
use Rattle.decl_rules.specs.State.{Item}
use Rattle.decl_rules.specs.Whole.{comes_in_time}
use Rattle.number_sets.specs.Numbers.{is_among}

-- those that the items complete before they declare a global
abbrev pub AreInTime : List ℕ → List Item → Type 0
AreInTime numbers rest = (p : ℕ) → is_among p numbers ≡ comes_in_time p rest
