-- What is known where a part of a body stands, and what may be called there.
use Rattle.std.specs.Prelude.{ℕ, suc, nat_eq, nat_lt, nat_le, Bool, true, false, not, ◌&&◌, if◌then◌else◌, List, [], ◌∷◌, ◌++◌, take, length}
use Rattle.std.specs.Prelude.{Option, Some, None, slice_get}
use Rattle.nim_types.specs.Types.{Ty, int, bool, char, text, sequence, array, tuple, parameter, enum, object, distinct, ref, exception, Tys, no_types, types}
use Rattle.nim_types.specs.Types.{Facts}
use Rattle.nim_program.specs.declared.program.Mode.{Mode}
use Rattle.nim_program.specs.declared.program.Mode.TheVariants.{Var}
use Rattle.nim_program.specs.declared.program.HookOf.{HookOf}
use Rattle.nim_program.specs.Program.{Declared, Param, Body, Proc, Args, NoArg, ByValue, ByPath, type_of, type_at, is_written}
use Rattle.nim_program.specs.Kinds.{is_of, same_value}

-- a place, by its number, and its type
pub record Placed : Type 0 where
  pub number : ℕ
  pub of : Ty

abbrev pub placed : Declared → Placed
placed d = record { number = d.number; of = d.of }

-- What declarations of types say, the procedures, the globals in order, and how many of these have a value; the places of the body that
-- are in scope, in order; and the place that the hook around may end or blank.
pub record Here : Type 0 where
  pub facts : Facts
  pub procs : List Proc
  pub globals : List Placed
  pub filled : ℕ
  pub places : List Placed
  pub dest : Option ℕ

abbrev pub with_place : Here → Declared → Here
with_place here d = record here { places = here.places ++ placed d ∷ [] }

abbrev pub with_place_if : Here → Option Declared → Here
with_place_if here None = here
with_place_if here (Some d) = with_place here d

-- with a value in one global more
abbrev pub with_global : Here → Here
with_global here = record here { filled = suc here.filled }

-- ---- places by number

abbrev pub look : List Placed → ℕ → Option Ty
look [] n = None
look (p ∷ ps) n = if nat_eq p.number n then Some p.of else look ps n

-- the type of a place that is in scope and has a value
abbrev pub type_in : Here → (global : Bool) → ℕ → Option Ty
type_in here true n = look (take here.filled here.globals) n
type_in here false n = look here.places n

abbrev pub one_more : Bool → ℕ → ℕ
one_more true n = suc n
one_more false n = n

-- how many have a number below another
abbrev pub count_below : ℕ → List Placed → ℕ
count_below n [] = 0
count_below n (p ∷ ps) = one_more (nat_lt p.number n) (count_below n ps)

-- ---- calls

abbrev pub parameter_or : ℕ → Option Ty → Ty
parameter_or n None = parameter n
parameter_or n (Some ty) = ty

-- a type where these stand for the type parameters
abbrev mutual
  pub given : List Ty → Ty → Ty
  given args int = int
  given args bool = bool
  given args char = char
  given args text = text
  given args (sequence t) = sequence (given args t)
  given args (array n t) = array n (given args t)
  given args (tuple names ts) = tuple names (all_given args ts)
  given args (parameter n) = parameter_or n (slice_get args n)
  given args (enum key) = enum key
  given args (object key ts) = object key (all_given args ts)
  given args (distinct key) = distinct key
  given args (ref name t) = ref name (given args t)
  given args (exception key) = exception key

  pub all_given : List Ty → Tys → Tys
  all_given args no_types = no_types
  all_given args (types t ts) = types (given args t) (all_given args ts)

abbrev pub given_if : List Ty → Option Ty → Option Ty
given_if args None = None
given_if args (Some ty) = Some (given args ty)

-- A body knows the globals that stand before it. All of them have a value where it is called.
abbrev pub is_ready : Here → Option Body → Bool
is_ready here None = false
is_ready here (Some body) = nat_le (count_below body.first here.globals) here.filled

-- hooks aren't called by name
abbrev pub is_no_hook : Option HookOf → Bool
is_no_hook None = true
is_no_hook (Some hook) = false

abbrev pub is_var : Mode → Bool
is_var Var = true
is_var mode = false

-- a place for each `var` parameter, and a value for each other one
abbrev pub are_taken : List Ty → List Param → Args → Bool
are_taken args [] NoArg = true
are_taken args (p ∷ params) (ByValue value rest) =
    not (is_var p.mode) && (is_of (type_of value) (Some (given args p.place.of)) && are_taken args params rest)
are_taken args (p ∷ params) (ByPath path rest) =
    (is_var p.mode && is_written path) && (is_of (type_at path) (Some (given args p.place.of)) && are_taken args params rest)
are_taken args params operands = false

-- of a procedure with a body, with as many types as it has type parameters
abbrev pub call_fits : Here → Option Proc → List Ty → (ty : Option Ty) → Args → Bool
call_fits here None args ty operands = false
call_fits here (Some p) args ty operands =
    ((is_no_hook p.hook && is_ready here p.body) && nat_eq (length args) p.type_params)
    && (same_value (given_if args p.gives) ty && are_taken args p.params operands)
