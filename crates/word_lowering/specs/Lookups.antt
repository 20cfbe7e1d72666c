-- Looking up places among those of a procedure. No public contract speaks of it.
use Rattle.std.specs.Prelude.{ℕ, suc, nat_eq, Bool, true, false, not, ◌&&◌, if◌then◌else◌, List, [], ◌∷◌, Option, Some, None}
use Rattle.nim_program.specs.declared.program.Mode.TheVariants.{Plain, Var}
use Rattle.flat_code.specs.declared.place.PlaceKind.{PlaceKind}
use Rattle.flat_code.specs.declared.place.PlaceKind.TheVariants as K
use Rattle.flat_code.specs.Fits.{is_value, is_location, is_own, is_declared, is_global}
use Rattle.word_lowering.specs.declared.homes.TheConstants.{FIRST}
use Rattle.word_lowering.specs.declared.homes.Alias.TheVariants as alias
use Rattle.word_lowering.specs.declared.homes.Home.{Home}
use Rattle.word_lowering.specs.declared.homes.Home.TheVariants.{Variable}
use Rattle.word_lowering.specs.declared.homes.Housed.{Housed}
use Rattle.word_lowering.specs.declared.homes.Sort.{Sort}
use Rattle.word_lowering.specs.declared.homes.Sort.TheVariants.{Value, Location, Own, Declared, Global}

-- What isn't there: it has no bytes. Lines of code that fits name it where they have no value.
abbrev pub nowhere : Housed
nowhere = record {
  number = 0;
  kind = K.Temp;
  ty = 0;
  bytes = 0;
  is_word = true;
  is_letter = false;
  alias = alias.Own;
  home = Variable FIRST;
  waits = None;
  lent = false;
}

-- the kinds among which a line seeks a place
abbrev pub is_sort : Sort → PlaceKind → Bool
is_sort Value kind = is_value kind
is_sort Location kind = is_location kind
is_sort Own kind = is_own kind
is_sort Declared kind = is_declared kind
is_sort Global kind = is_global kind

-- the first place of some kind with a number
abbrev pub found : (PlaceKind → Bool) → ℕ → List Housed → Housed
found is_kind n [] = nowhere
found is_kind n (h ∷ hs) = if nat_eq h.number n && is_kind h.kind then h else found is_kind n hs

abbrev pub is_param : PlaceKind → Bool
is_param (K.Param mode) = true
is_param kind = false

abbrev pub is_result : PlaceKind → Bool
is_result K.Result = true
is_result kind = false

abbrev pub params_in : List Housed → List Housed
params_in [] = []
params_in (h ∷ hs) = if is_param h.kind then h ∷ params_in hs else params_in hs

abbrev pub result_in : List Housed → Option Housed
result_in [] = None
result_in (h ∷ hs) = if is_result h.kind then Some h else result_in hs

-- a place that holds an address, and not a value: one of these kinds, or one that stands for another place
abbrev pub address_by : (lent : Bool) → PlaceKind → Bool
address_by lent K.Location = true
address_by lent K.Within = true
address_by lent (K.Param Var) = true
address_by lent (K.Param Plain) = lent
address_by lent K.ForVar = lent
address_by lent kind = false

abbrev pub holds_address : Housed → Bool
holds_address h = address_by h.lent h.kind

-- a place with a value of its own
abbrev pub owns : Housed → Bool
owns h = is_own h.kind && not (holds_address h)

-- how many parameters are in variables
abbrev pub kept_by : Home → ℕ → ℕ
kept_by (Variable v) n = suc n
kept_by home n = n

abbrev pub kept_in : List Housed → ℕ
kept_in [] = 0
kept_in (h ∷ hs) = kept_by h.home (kept_in hs)
