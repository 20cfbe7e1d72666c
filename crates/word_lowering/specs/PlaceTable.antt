-- The places of a procedure by their numbers, and its parameters. No public contract speaks of it.
use Rattle.std.specs.Prelude.{◌≡◌, ℕ, nat_eq, Bool, List, [], drop, Option, Some, None}
use Rattle.std.specs.HashMap.{HashMap, get}
use Rattle.flat_code.specs.declared.place.PlaceKind.{PlaceKind}
use Rattle.word_lowering.specs.declared.homes.Housed.{Housed}
use Rattle.word_lowering.specs.Lookups.{found, params_in}

-- the places from a position on
abbrev pub from_there : Option ℕ → List Housed → List Housed
from_there None all = []
from_there (Some i) all = drop i all

-- whoever goes on from where a number's first place stands finds what is found among those that are left
abbrev pub FindsFrom : {S : Type 0} → HashMap ℕ ℕ S → (left all : List Housed) → Type 0
FindsFrom index left all = (n : ℕ) (is_kind : PlaceKind → Bool) → found is_kind n (from_there (get nat_eq index n) all) ≡ found is_kind n left

-- the parameters of some places, and where each number's first one stands
pub record AreIndexed {S : Type 0} (all params : List Housed) (index : HashMap ℕ ℕ S) : Type 0 where
  pub given : params ≡ params_in all
  pub leads : FindsFrom index all all
