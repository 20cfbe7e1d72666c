-- Code whose lines fit the types of their places: each temporary has one type, the types that stand in lines are those of what they take and give, and
-- each operation has operands and a value as the table of operations says. This is what the code below rests on, which has bytes in place of values.
use Rattle.std.specs.Prelude.{ℕ, zero, suc, ◌+◌, Bool, true, false, not, ◌&&◌, ◌||◌, nat_eq, nat_le, nat_lt, if◌then◌else◌}
use Rattle.std.specs.Prelude.{List, [], ◌∷◌, ◌++◌, length, map, Option, Some, None, slice_get}
use Rattle.nim_types.specs.Types.{Ty, int, Facts}
use Rattle.nim_types.specs.Table.{type_at}
use Rattle.nim_program.specs.declared.operation.Operation.{Operation}
use Rattle.nim_program.specs.declared.operation.Operation.TheVariants as O
use Rattle.nim_program.specs.declared.program.Mode.{Mode}
use Rattle.nim_program.specs.declared.program.Mode.TheVariants.{Plain, Var}
use Rattle.nim_program.specs.Ints.{fits as is_int_number}
use Rattle.nim_program.specs.Fitting as table
use Rattle.nim_program.specs.Fitting.{building_fits, places_in}
use Rattle.nim_program.specs.Kinds.{TypeKind, kind_of, kind_if, is_int, is_bool, is_ordinal, is_text, has_length, field_at, element_of, object_of, is_of}
use Rattle.nim_program.specs.Kinds.{is_selected, same_value}
use Rattle.nim_program.specs.View.{if_type}
use Rattle.nim_program.specs.declared.operation.Use.{Use}
use Rattle.nim_program.specs.Uses.{use_by}
use Rattle.nim_meaning.specs.Here.{is_hooked, gives_hooked}
use Rattle.nim_meaning.specs.Shapes.{is_lent, is_given}
use Rattle.flat_code.specs.declared.code.CodeProc.{CodeProc}
use Rattle.flat_code.specs.declared.line.From.{From}
use Rattle.flat_code.specs.declared.line.From.TheVariants as F
use Rattle.nim_program.specs.declared.expr.Label.{Label}
use Rattle.nim_program.specs.declared.expr.Label.TheVariants as C
use Rattle.flat_code.specs.declared.line.Owning.{Owning}
use Rattle.flat_code.specs.declared.line.Owning.TheVariants as W
use Rattle.flat_code.specs.declared.line.Line.{Line}
use Rattle.flat_code.specs.declared.line.Line.TheVariants as L
use Rattle.flat_code.specs.declared.line.Piece.{Piece}
use Rattle.flat_code.specs.declared.place.PlaceKind.{PlaceKind}
use Rattle.flat_code.specs.declared.place.PlaceKind.TheVariants as K
use Rattle.flat_code.specs.declared.place.FlatPlace.{FlatPlace}
use Rattle.nim_meaning.specs.LeftOut.{is_exception_type}
use Rattle.flat_code.specs.Pieces.{are_one}
use Rattle.flat_code.specs.Running.{before_last}
use Rattle.flat_code.specs.Scene.{Known}
use Rattle.flat_code.specs.PieceShapes.{has_pieces}
use Rattle.flat_code.specs.Shapes.{shape_of}

-- ---- places by number

abbrev pub is_var : Mode → Bool
is_var Var = true
is_var mode = false

abbrev pub is_value : PlaceKind → Bool
is_value K.Temp = true
is_value K.Counter = true
is_value kind = false

abbrev pub is_location : PlaceKind → Bool
is_location K.Location = true
is_location K.Within = true
is_location kind = false

-- a value with hooks that has a place of its own waits at a node
abbrev pub is_waiting : (waits : Option ℕ) → (hooked : Bool) → Bool
is_waiting None hooked = not hooked
is_waiting (Some node) hooked = true

-- a location that may be written
abbrev pub is_standing : PlaceKind → Bool
is_standing K.Location = true
is_standing kind = false

abbrev pub is_declared : PlaceKind → Bool
is_declared kind = not (is_value kind || is_location kind)

abbrev pub is_global : PlaceKind → Bool
is_global K.Global = true
is_global kind = false

-- a place with a value of its own: no `var` parameter
abbrev pub is_own : PlaceKind → Bool
is_own (K.Param mode) = not (is_var mode)
is_own kind = is_declared kind

-- the first place of some kind with a number
abbrev pub place_named : (PlaceKind → Bool) → List FlatPlace → ℕ → Option FlatPlace
place_named is_kind [] n = None
place_named is_kind (p ∷ places) n = if nat_eq p.number n && is_kind p.kind then Some p else place_named is_kind places n

-- a number that a loop keeps is an int, whatever its type says
abbrev pub type_by_kind : PlaceKind → Ty → Ty
type_by_kind K.Counter ty = int
type_by_kind kind ty = ty

abbrev pub place_type : Known → FlatPlace → Ty
place_type known p = type_by_kind p.kind (type_at known.types p.ty)

abbrev pub if_type_of : Known → Option FlatPlace → Option Ty
if_type_of known None = None
if_type_of known (Some p) = Some (place_type known p)

abbrev pub if_kind : (PlaceKind → Bool) → Option FlatPlace → Bool
if_kind is_kind None = false
if_kind is_kind (Some p) = is_kind p.kind

-- ---- parameters and results

-- what a parameter takes, whether that is a location, and whether it is written there
pub record Taken : Type 0 where
  pub by_location : Bool
  pub written : Bool
  pub of : Ty

-- what has hooks is lent to a plain parameter, by where it waits
abbrev pub is_lent_by : Mode → (hooked : Bool) → Bool
is_lent_by Plain hooked = hooked
is_lent_by mode hooked = false

abbrev pub and_param : Facts → PlaceKind → Ty → List Taken → List Taken
and_param facts (K.Param mode) ty rest =
    record { by_location = is_var mode || is_lent_by mode (is_hooked facts ty); written = is_var mode; of = ty } ∷ rest
and_param facts kind ty rest = rest

abbrev pub or_result : {A : Type 0} → PlaceKind → A → Option A → Option A
or_result K.Result x rest = Some x
or_result kind x rest = rest

-- nothing, or a number
abbrev pub needs_no_type : Facts → Option Ty → Bool
needs_no_type facts None = true
needs_no_type facts (Some ty) = is_ordinal (kind_of facts ty)

module _ (known : Known) where
  -- what a procedure takes, what it gives, and the place of its result
  abbrev pub taken_by : List FlatPlace → List Taken
  taken_by [] = []
  taken_by (p ∷ places) = and_param known.facts p.kind (place_type known p) (taken_by places)

  abbrev pub given_by : List FlatPlace → Option Ty
  given_by [] = None
  given_by (p ∷ places) = or_result p.kind (place_type known p) (given_by places)

  abbrev pub result_at : List FlatPlace → Option ℕ
  result_at [] = None
  result_at (p ∷ places) = or_result p.kind p.number (result_at places)

-- what is known of a procedure that may be called
pub record Signature : Type 0 where
  pub takes : List Taken
  pub gives : Option Ty

abbrev pub signature_of : Known → List FlatPlace → Signature
signature_of known places = record { takes = taken_by known places; gives = given_by known places }

-- ---- lines, among the places of their procedure and of the start code, and the procedures that may be called

abbrev pub same_place : Option ℕ → Option ℕ → Bool
same_place None None = true
same_place (Some p) (Some q) = nat_eq p q
same_place p q = false

-- What is lent, or copied by a place, may be a location where it has hooks.
abbrev pub may_stand : Facts → Use → Option Ty → Bool
may_stand facts how ty = gives_hooked facts ty && (is_lent how || is_given how)

-- so many of the first operands are locations, and all others values, but for what may stand
abbrev pub are_placed : Facts → Use → ℕ → (of : List (Option Ty)) → List From → Bool
are_placed facts how n [] [] = nat_eq n 0
are_placed facts how zero (ty ∷ of) (F.Value t ∷ from) = are_placed facts how zero of from
are_placed facts how zero (ty ∷ of) (F.Place t ∷ from) = may_stand facts how ty && are_placed facts how zero of from
are_placed facts how (suc n) (ty ∷ of) (F.Place t ∷ from) = are_placed facts how n of from
are_placed facts how n of from = false

abbrev pub are_values : List From → Bool
are_values [] = true
are_values (F.Value t ∷ from) = are_values from
are_values (F.Place t ∷ from) = false

-- what an operation has by its location is written, but for what is asked how many elements it has
abbrev pub writes : Operation → Bool
writes (O.Measure measure) = false
writes operation = true

abbrev pub same_bool : Bool → Bool → Bool
same_bool true b = b
same_bool false b = not b

-- each type has a default, and what gives no value has one that nobody looks at
abbrev pub operation_fits : Facts → Operation → (ty : Option Ty) → (of : List (Option Ty)) → Bool
operation_fits facts O.Default ty [] = true
operation_fits facts operation ty of = table.fits facts operation ty of

-- a value of a kind may be compared with a label
abbrev pub is_selected_by : Label → TypeKind → Bool
is_selected_by (C.Ordinals low high) kind = is_ordinal kind && (is_int_number low && is_int_number high)
is_selected_by (C.Text text) kind = is_text kind

module _ (known : Known) (procs : List Signature) (globals places : List FlatPlace) where
  abbrev pub value : ℕ → Option Ty
  value t = if_type_of known (place_named is_value places t)

  abbrev pub location : ℕ → Option Ty
  location t = if_type_of known (place_named is_location places t)

  abbrev pub own : ℕ → Option Ty
  own p = if_type_of known (place_named is_own places p)

  abbrev pub any_place : ℕ → (global : Bool) → Option Ty
  any_place p true = if_type_of known (place_named is_global globals p)
  any_place p false = if_type_of known (place_named is_declared places p)

  abbrev pub may_write : ℕ → Bool
  may_write t = if_kind is_standing (place_named is_location places t)

  abbrev pub kind_at : Option Ty → TypeKind
  kind_at ty = kind_if known.facts ty

  abbrev pub taken : From → Option Ty
  taken (F.Value t) = value t
  taken (F.Place t) = location t

  -- locations that may be written are so many of the first
  abbrev pub may_write_first : ℕ → List From → Bool
  may_write_first zero from = true
  may_write_first (suc n) [] = true
  may_write_first (suc n) (F.Value t ∷ from) = may_write_first n from
  may_write_first (suc n) (F.Place t ∷ from) = may_write t && may_write_first n from

  -- of the place or the value in which another location is
  abbrev pub same_base : (to from : ℕ) → Bool
  same_base to from = same_bool (may_write to) (may_write from)

  -- operands of these types
  abbrev pub are_of : List (Option Ty) → List From → Bool
  are_of [] [] = true
  are_of (ty ∷ tys) (x ∷ from) = same_value (taken x) ty && are_of tys from
  are_of tys from = false

  -- arguments for these parameters
  abbrev pub are_arguments : List Taken → List From → Bool
  are_arguments [] [] = true
  are_arguments (p ∷ ps) (F.Value t ∷ from) = not p.by_location && (is_of (value t) (Some p.of) && are_arguments ps from)
  are_arguments (p ∷ ps) (F.Place t ∷ from) = (p.by_location && (not p.written || may_write t)) && (is_of (location t) (Some p.of) && are_arguments ps from)
  are_arguments ps from = false

  abbrev pub call_fits : Option Signature → (ty : Option Ty) → List From → Bool
  call_fits None ty from = false
  call_fits (Some s) ty from = same_value s.gives ty && are_arguments s.takes from

  -- A number's type needn't stand in the line.
  abbrev pub passes_as : (passed ty : Option Ty) → Bool
  passes_as passed None = needs_no_type known.facts passed
  passes_as passed ty = same_value passed ty

  -- the pieces of one value of a type
  abbrev pub is_constant_of : (ty : ℕ) → List Piece → Bool
  is_constant_of ty pieces = are_one pieces 0 && has_pieces (shape_of known.facts (type_at known.types ty)) pieces

  -- a place and what it is filled with, or gets
  abbrev pub gets : (place ty : ℕ) → Option Ty → Bool
  gets place ty got = is_of (own place) (Some (type_at known.types ty)) && is_of got (Some (type_at known.types ty))

  abbrev pub owning_fits : Owning → List From → Bool
  owning_fits (W.TakenUp node) [] = true
  owning_fits (W.Waits node) (F.Value t ∷ []) = if_kind is_value (place_named is_value places t)
  owning_fits (W.TemporaryEnds node ty) [] = true
  owning_fits (W.PlaceEnds place ty) [] = is_of (any_place place false) (Some (type_at known.types ty))
  owning_fits (W.PlaceCopies place ty) (F.Place t ∷ []) = gets place ty (location t)
  owning_fits (W.PlaceStands place) (F.Place t ∷ []) = is_of (any_place place false) (location t)
  owning_fits (W.ResultGets place ty) (x ∷ []) = gets place ty (taken x)
  owning_fits what from = false

  -- What gives no value gives it to a number that no temporary has.
  abbrev pub fits : Line → Bool
  fits (L.Apply to operation how ty of from) =
      (operation_fits known.facts operation (if_type known.types ty) (map (if_type known.types) of)
      && (are_of (map (if_type known.types) of) from
      && (are_placed known.facts (use_by operation) (places_in operation) (map (if_type known.types) of) from
      && (not (writes operation) || may_write_first (places_in operation) from))))
      && same_value (value to) (if_type known.types ty)
  fits (L.Construct to how ty fields from) =
      (building_fits known.facts (Some (type_at known.types ty)) fields (map taken from) && are_values from)
      && is_of (value to) (Some (type_at known.types ty))
  fits (L.Constant to how ty pieces) = is_constant_of ty pieces && is_of (value to) (Some (type_at known.types ty))
  fits (L.Call to how ty proc from) =
      call_fits (slice_get procs proc) (if_type known.types ty) from && same_value (value to) (if_type known.types ty)
  fits (L.Get to from how ty) = is_of (value to) (if_type known.types ty) && is_of (value to) (location from)
  fits (L.Look to from) = is_of (value to) (location from) && is_selected (kind_at (location from))
  fits (L.Root to place global) = is_of (location to) (any_place place global) && may_write to
  fits (L.Fresh to from waits) =
      is_of (location to) (value from) && (not (may_write to) && is_waiting waits (gives_hooked known.facts (value from)))
  fits (L.Standing to ty pieces) =
      is_constant_of ty pieces && (is_of (location to) (Some (type_at known.types ty)) && not (may_write to))
  fits (L.Part to from field) =
      is_of (location to) (field_at (kind_at (location from)) field) && (same_base to from && not (is_exception_type (location from)))
  fits (L.Item to from index) =
      is_of (location to) (element_of (kind_at (location from))) && (is_int (kind_at (value index)) && same_base to from)
  fits (L.Object to from) = is_of (location to) (object_of (kind_at (location from))) && may_write to
  fits (L.Pass to from how ty) = same_value (value to) (value from) && passes_as (value to) (if_type known.types ty)
  fits (L.Truth to holds) = is_bool (kind_at (value to))
  fits (L.Fill place from) = is_of (own place) (value from)
  fits (L.Blank place ty) = is_of (own place) (Some (type_at known.types ty))
  fits (L.Give place from) = is_of (own place) (value from)
  fits (L.Own what from) = owning_fits what from
  fits (L.Zero to) = is_int (kind_at (value to))
  fits (L.Length to from) = is_int (kind_at (value to)) && has_length (kind_at (location from))
  fits (L.Still from len) = has_length (kind_at (location from)) && is_int (kind_at (value len))
  fits (L.Element to from index) =
      is_of (value to) (element_of (kind_at (location from))) && (is_int (kind_at (value index)) && not (gives_hooked known.facts (value to)))
  fits (L.Beyond counter last inclusive to) = is_int (kind_at (value counter)) && is_int (kind_at (value last))
  fits (L.Next counter last) = is_int (kind_at (value counter)) && is_int (kind_at (value last))
  fits (L.Label name) = true
  fits (L.Jump to) = true
  fits (L.Unless from to) = is_bool (kind_at (value from))
  fits (L.Fits from these to) = is_selected_by these (kind_at (value from))
  fits L.Enter = true
  fits (L.Turn to) = true
  fits (L.TurnIf from to) = is_bool (kind_at (value from))
  fits (L.CountTurn counter last inclusive to) = is_int (kind_at (value counter)) && is_int (kind_at (value last))
  fits (L.Return result) = same_place result (result_at known places)

  abbrev pub all_fit : List Line → Bool
  all_fit [] = true
  all_fit (line ∷ lines) = fits line && all_fit lines

-- ---- whole code

-- the numbers of parameters and of the result, in the order of the places
abbrev pub and_number : PlaceKind → ℕ → List ℕ → List ℕ
and_number (K.Param mode) n rest = n ∷ rest
and_number kind n rest = rest

abbrev pub and_result : PlaceKind → ℕ → List ℕ → List ℕ
and_result K.Result n rest = n ∷ rest
and_result kind n rest = rest

abbrev pub params_at : List FlatPlace → List ℕ
params_at [] = []
params_at (p ∷ places) = and_number p.kind p.number (params_at places)

abbrev pub results_at : List FlatPlace → List ℕ
results_at [] = []
results_at (p ∷ places) = and_result p.kind p.number (results_at places)

-- numbers one after another
abbrev pub follow : ℕ → List ℕ → Bool
follow n [] = true
follow n (m ∷ ms) = nat_eq m n && follow (suc n) ms

-- declared places are among those of the call, by increasing numbers
abbrev pub are_within : (least behind : ℕ) → List FlatPlace → Bool
are_within least behind [] = true
are_within least behind (p ∷ places) = if is_declared p.kind
    then nat_le least p.number && (nat_lt p.number behind && are_within (suc p.number) behind places)
    else are_within least behind places

-- what has no lines has no places
abbrev pub has_lines_for : {L : Type 0} → List FlatPlace → List L → Bool
has_lines_for [] lines = true
has_lines_for (p ∷ places) [] = false
has_lines_for (p ∷ places) (line ∷ lines) = true

abbrev pub are_none : List ℕ → Bool
are_none [] = true
are_none (n ∷ ns) = false

-- those of the start code, which is the last procedure
abbrev pub start_places : {L : Type 0} → List (CodeProc L) → List FlatPlace
start_places [] = []
start_places (p ∷ []) = p.places
start_places (p ∷ q ∷ procs) = start_places (q ∷ procs)

module _ {L : Type 0} (plain : L → Line) (known : Known) where
  -- at most one result, which comes behind the parameters, and these come first
  abbrev pub in_order : CodeProc L → Bool
  in_order p =
      nat_le (length (results_at p.places)) 1
      && (follow p.first (params_at p.places ++ results_at p.places) && are_within p.first (p.first + p.span) p.places)

  abbrev pub signatures : List (CodeProc L) → List Signature
  signatures procs = map (λ (p : CodeProc L). signature_of known p.places) procs

  abbrev pub proc_fits : (procs : List Signature) (globals : List FlatPlace) → CodeProc L → Bool
  proc_fits procs globals p =
      has_lines_for p.places p.lines && (in_order p && all_fit known procs globals p.places (map plain p.lines))

  abbrev pub each_fits : (procs : List Signature) (globals : List FlatPlace) → List (CodeProc L) → Bool
  each_fits procs globals [] = true
  each_fits procs globals (p ∷ rest) = proc_fits procs globals p && each_fits procs globals rest

  -- the start code has the globals, takes and gives nothing and isn't called
  abbrev pub code_fits : List (CodeProc L) → Bool
  code_fits procs =
      are_none (params_at (start_places procs) ++ results_at (start_places procs))
      && each_fits (signatures (before_last procs)) (start_places procs) procs
