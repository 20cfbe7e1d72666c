-- Flat code of what is built: its places have types whose values have code, and its operations are built.
use Rattle.std.specs.Prelude.{◌≡◌, ℕ, ◌+◌, ◌*◌, ◌≤◌, ◌<◌, ◌⊎◌, Bool, true, false, not, ◌&&◌, ◌||◌, if◌then◌else◌, List, [], ◌∷◌, length, map, Option, None}
use Rattle.std.specs.Prelude.{Some}
use Rattle.nim_types.specs.declared.types.TheConstants.{WORD_BYTES}
use Rattle.nim_types.specs.Table.{type_at}
use Rattle.nim_types.specs.Forms.{form_of, levels}
use Rattle.nim_program.specs.Sizes.{type_bytes}
use Rattle.nim_program.specs.View.{if_type}
use Rattle.nim_meaning.specs.Here.{is_hooked}
use Rattle.nim_meaning.specs.LeftOut.{is_built}
use Rattle.nim_meaning.specs.Unbuilt.{is_unbuilt}
use Rattle.flat_code.specs.declared.code.CodeProc.{CodeProc}
use Rattle.flat_code.specs.declared.line.Line.{Line}
use Rattle.flat_code.specs.declared.line.Line.TheVariants as L
use Rattle.flat_code.specs.declared.place.TheConstants.{MOST_LEVELS}
use Rattle.flat_code.specs.declared.place.PlaceKind.{PlaceKind}
use Rattle.flat_code.specs.declared.place.PlaceKind.TheVariants as K
use Rattle.flat_code.specs.declared.place.FlatPlace.{FlatPlace}
use Rattle.flat_code.specs.Fits.{is_global}
use Rattle.flat_code.specs.Scene.{Known}
use Rattle.flat_code.specs.Sizes.{places_bytes}

abbrev pub is_counter : PlaceKind → Bool
is_counter K.Counter = true
is_counter kind = false

abbrev pub is_temporary : PlaceKind → Bool
is_temporary K.Temp = true
is_temporary kind = false

module _ (known : Known) where
  -- its type is one of the table, of few levels, and its values have code; the place says whether they have hooks
  pub record IsOfBuilt (p : FlatPlace) : Type 0 where
    pub numbered : p.ty < length known.types
    pub built : is_unbuilt known.facts (type_at known.types p.ty) ≡ false
    pub hooked : p.hooked ≡ is_hooked known.facts (type_at known.types p.ty)
    pub few : levels (form_of known.facts (type_at known.types p.ty)) ≤ MOST_LEVELS

  -- a number that a loop keeps has no type of its own
  abbrev pub IsBuiltPlace : FlatPlace → Type 0
  IsBuiltPlace p = (is_counter p.kind ≡ true) ⊎ IsOfBuilt p

  abbrev pub AreBuiltPlaces : List FlatPlace → Type 0
  AreBuiltPlaces [] = Unit {0}
  AreBuiltPlaces (p ∷ places) = IsBuiltPlace p × AreBuiltPlaces places

  -- an operation is built, and nothing is dereferenced
  abbrev pub IsBuiltLine : Line → Type 0
  IsBuiltLine (L.Apply to operation how ty of from) = is_built operation known.facts (map (if_type known.types) of) ≡ true
  IsBuiltLine (L.Object to from) = ⊥
  IsBuiltLine line = Unit {0}

  abbrev pub AreBuiltLines : List Line → Type 0
  AreBuiltLines [] = Unit {0}
  AreBuiltLines (line ∷ lines) = IsBuiltLine line × AreBuiltLines lines

-- ---- parameters

abbrev pub is_param : PlaceKind → Bool
is_param (K.Param mode) = true
is_param kind = false

abbrev pub params_among : List FlatPlace → List FlatPlace
params_among [] = []
params_among (p ∷ places) = if is_param p.kind then p ∷ params_among places else params_among places

abbrev pub no_params : List FlatPlace → Bool
no_params [] = true
no_params (p ∷ places) = not (is_param p.kind) && no_params places

-- they come before all else
abbrev pub params_lead : List FlatPlace → Bool
params_lead [] = true
params_lead (p ∷ places) = if is_param p.kind then params_lead places else no_params places

abbrev pub no_globals : List FlatPlace → Bool
no_globals [] = true
no_globals (p ∷ places) = not (is_global p.kind) && no_globals places

-- ---- what a call hands on and back

abbrev pub is_result : PlaceKind → Bool
is_result K.Result = true
is_result kind = false

-- parameters and the result
abbrev pub is_handed : PlaceKind → Bool
is_handed kind = is_param kind || is_result kind

abbrev pub handed_among : List FlatPlace → List FlatPlace
handed_among [] = []
handed_among (p ∷ places) = if is_handed p.kind then p ∷ handed_among places else handed_among places

abbrev pub none_handed : List FlatPlace → Bool
none_handed [] = true
none_handed (p ∷ places) = not (is_handed p.kind) && none_handed places

-- they come before all else
abbrev pub handed_lead : List FlatPlace → Bool
handed_lead [] = true
handed_lead (p ∷ places) = if is_handed p.kind then handed_lead places else none_handed places

-- ---- what waits

-- it has a home of its own, and a word for where that is
abbrev pub and_waiting : Option ℕ → (bytes rest : ℕ) → ℕ
and_waiting None bytes rest = rest
and_waiting (Some node) bytes rest = WORD_BYTES + bytes + rest

abbrev pub waiting_bytes : Known → List FlatPlace → ℕ
waiting_bytes known [] = 0
waiting_bytes known (p ∷ places) = and_waiting p.waits (type_bytes known.facts (type_at known.types p.ty)) (waiting_bytes known places)

-- ---- procedures

-- A procedure whose sum is at most so many bytes, or the start code, which alone has globals. Beside the sum's there is a location for each path that is
-- read or that a call takes, and the temporaries of values. A parameter that is lent has a word.
pub record IsBuiltProc (known : Known) (most : ℕ) (start : Bool) (p : CodeProc Line) : Type 0 where
  pub places : AreBuiltPlaces known p.places
  pub lines : AreBuiltLines known p.lines
  pub lead : params_lead p.places ≡ true
  pub globals : start ≡ false → no_globals p.places ≡ true
  pub params_bytes : places_bytes known (params_among p.places) ≤ most
  pub handed : handed_lead p.places ≡ true
  pub handed_bytes : places_bytes known (handed_among p.places) ≤ most
  pub bytes : places_bytes known p.places ≤ 3 * most
  -- with what waits
  pub waiting : places_bytes known p.places + waiting_bytes known p.places ≤ 4 * most

-- the start code is the last one
abbrev pub is_none : List (CodeProc Line) → Bool
is_none [] = true
is_none (p ∷ procs) = false

abbrev pub AreBuiltProcs : Known → (most : ℕ) → List (CodeProc Line) → Type 0
AreBuiltProcs known most [] = Unit {0}
AreBuiltProcs known most (p ∷ procs) = IsBuiltProc known most (is_none procs) p × AreBuiltProcs known most procs
