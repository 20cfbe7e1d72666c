-- What single parts add to the places of a body. It serves proofs alone: the promise of `flatten` doesn't speak of it.
use Rattle.std.specs.Prelude.{ℕ, suc, ◌+◌, Bool, false, if◌then◌else◌, List, [], ◌∷◌, ◌++◌, Option, Some, None, slice_index_or}
use Rattle.nim_types.specs.Types.{Ty, Facts}
use Rattle.nim_program.specs.declared.operation.Use.{Use}
use Rattle.nim_program.specs.Program.{Act, Expr, Args, NoArg, ByValue, ByPath, Declared, Kind, While, Count, Each, constant_in}
use Rattle.nim_program.specs.Folds.{if_constant}
use Rattle.nim_program.specs.Program.{Stmt, Do, Idle, Give, Leave, Select, Loop, Raise, Try}
use Rattle.nim_program.specs.Program.{Stmts, Empty, Then, Declare, Defer, Blocks, Otherwise, Block, Handlers, NoHandler, Handler}
use Rattle.nim_program.specs.Program.{Param, Body}
use Rattle.nim_program.specs.declared.program.Mode.{Mode}
use Rattle.nim_program.specs.declared.program.HookOf.{HookOf}
use Rattle.flat_code.specs.declared.code.CodeProc.{CodeProc}
use Rattle.flat_code.specs.declared.line.Line.{Line}
use Rattle.flat_code.specs.declared.place.PlaceKind.{PlaceKind}
use Rattle.flat_code.specs.declared.place.PlaceKind.TheVariants as K
use Rattle.flat_code.specs.declared.place.FlatPlace.{FlatPlace}
use Rattle.flattening.specs.Numbering.{widths}
use Rattle.flattening.specs.Places.{head_from, of_declared, lent_place, expr_places, path_places, part_places, value_places, stmt_places, block_places}
use Rattle.flattening.specs.Places.{param_places, result_places}
use Rattle.flattening.specs.StmtLines.{body_lines}

-- a list, and whatever comes behind
abbrev pub in_front : {X : Type 0} → List X → List X → List X
in_front xs k = xs ++ k

-- ---- temporaries

module _ (types : List Ty) (facts : Facts) (modes : (proc position : ℕ) → Mode) where
  -- of the first operand alone, and where it is lent
  abbrev pub first_places : Args → (t : ℕ) → List FlatPlace
  first_places NoArg t = []
  first_places (ByValue value rest) t = expr_places types facts modes value t
  first_places (ByPath path rest) t = path_places types facts modes path t

  abbrev pub lent_first : Act → Use → Args → (t : ℕ) → List FlatPlace
  lent_first act how (ByValue value rest) t = lent_place types facts modes act how value t
  lent_first act how args t = []

  -- of a value that a path begins with
  abbrev pub fresh_places : Expr → (t : ℕ) → List FlatPlace
  fresh_places value t = if_constant (constant_in value) [] (expr_places types facts modes value t)

  -- of the first statement of a block alone
  abbrev pub places_of_first : Stmts → (t : ℕ) → List FlatPlace
  places_of_first Empty t = []
  places_of_first (Then first rest) t = stmt_places types facts modes first t
  places_of_first (Declare node place cursor value rest) t = value_places types facts modes value (suc t)
  places_of_first (Defer node last rest) t = []

  -- of a loop's head and body
  abbrev pub places_of_loop : Kind → (head : Args) → (body : Stmts) → (t : ℕ) → List FlatPlace
  places_of_loop kind head body t =
      part_places types facts modes head (head_from kind t) ++ block_places types facts modes body (head_from kind t + widths head)

-- ---- declared places, where some numbers are those of globals

abbrev pub marked : List Bool → ℕ → Bool
marked marks n = slice_index_or marks n false

abbrev pub kind_declared : (globals : ℕ → Bool) → (number : ℕ) → (cursor : Bool) → PlaceKind
kind_declared globals number cursor = if globals number then K.Global else if cursor then K.Cursor else K.Local

module _ (types : List Ty) (facts : Facts) (modes : (proc position : ℕ) → Mode) where
  abbrev pub loop_variable : Kind → List FlatPlace
  loop_variable While = []
  loop_variable (Count variable inclusive) = of_declared types facts modes K.ForVar variable ∷ []
  loop_variable (Each variable) = of_declared types facts modes K.ForVar variable ∷ []

  abbrev pub caught : Option Declared → List FlatPlace
  caught None = []
  caught (Some name) = of_declared types facts modes K.Caught name ∷ []

module _ (types : List Ty) (facts : Facts) (modes : (proc position : ℕ) → Mode) (globals : ℕ → Bool) where
  abbrev mutual
    pub declared_by : Stmt → List FlatPlace
    declared_by (Do value) = []
    declared_by (Idle node parts) = []
    declared_by (Give node back value) = []
    declared_by (Leave node leaving parts) = []
    declared_by (Select node chooser tests blocks) = declared_in_blocks blocks
    declared_by (Loop node kind head body) = loop_variable types facts modes kind ++ declared_in body
    declared_by (Raise node exception message) = []
    declared_by (Try node body handlers last) = declared_in body ++ (declared_in_handlers handlers ++ declared_in last)

    pub declared_in : Stmts → List FlatPlace
    declared_in Empty = []
    declared_in (Then first rest) = declared_by first ++ declared_in rest
    declared_in (Declare node place cursor value rest) = of_declared types facts modes (kind_declared globals place.number cursor) place ∷ declared_in rest
    declared_in (Defer node last rest) = declared_in last ++ declared_in rest

    pub declared_in_blocks : Blocks → List FlatPlace
    declared_in_blocks (Otherwise block) = declared_in block
    declared_in_blocks (Block first rest) = declared_in first ++ declared_in_blocks rest

    pub declared_in_handlers : Handlers → List FlatPlace
    declared_in_handlers NoHandler = []
    declared_in_handlers (Handler kinds name body rest) = caught types facts modes name ++ (declared_in body ++ declared_in_handlers rest)

  -- by the first statement of a block alone
  abbrev pub declared_first : Stmts → List FlatPlace
  declared_first Empty = []
  declared_first (Then first rest) = declared_by first
  declared_first (Declare node place cursor value rest) = of_declared types facts modes (kind_declared globals place.number cursor) place ∷ []
  declared_first (Defer node last rest) = declared_in last

-- ---- bodies and procedures

module _ (types : List Ty) (facts : Facts) (modes : (proc position : ℕ) → Mode) (sinks : List ℕ) (globals : ℕ → Bool) where
  abbrev pub listed_body : List Param → Body → List FlatPlace
  listed_body params body =
      param_places types facts modes sinks params
      ++ (result_places types facts modes body.result
      ++ (declared_in types facts modes globals body.stmts ++ block_places types facts modes body.stmts 0))

  abbrev pub code_body : Option HookOf → List Param → Body → CodeProc Line
  code_body hook params body = record {
    first = body.first;
    span = body.places;
    places = listed_body params body;
    lines = body_lines types facts modes params body;
    hook = hook;
  }

  abbrev pub code_proc : Option HookOf → List Param → Option Body → CodeProc Line
  code_proc hook params None = record { first = 0; span = 0; places = []; lines = []; hook = hook }
  code_proc hook params (Some body) = code_body hook params body
