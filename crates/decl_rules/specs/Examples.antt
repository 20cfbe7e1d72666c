-- Words for examples, and what is said of a module.
use Rattle.std.specs.Prelude.{◌≡◌, map, ℕ, true, false, List, [], ◌∷◌, Option, Ok, Err}
use Rattle.arc_base.specs.declared.place.Place.{Place}
use Rattle.arc_base.specs.declared.place.Code.{Code}
use Rattle.nim_tree.specs.declared.name.Name.{Name}
use Rattle.nim_tree.specs.declared.name.Declared.{Declared}
use Rattle.nim_tree.specs.declared.name.Pragma.{Pragma}
use Rattle.nim_tree.specs.declared.name.PragmaKind.{PragmaKind}
use Rattle.nim_tree.specs.declared.stmt.ParamMode.{ParamMode}
use Rattle.nim_tree.specs.Terms.{Term}
use Rattle.nim_tree.specs.Types.{Written, Body, Declaration}
use Rattle.nim_tree.specs.Statements.{Definition, Parameters, Head, Statements}
use Rattle.nim_program.specs.Program.{Program}
use Rattle.expr_rules.specs.Answers.{Answer}
use Rattle.decl_rules.specs.Elaborated.{elaborated}

abbrev pub at : (line column : ℕ) → Place
at line column = record { «module» = 0; line = line; column = column }

abbrev pub name_at : Place → List ℕ → Name
name_at at x = record { at = at; text = x }

abbrev pub declared : Place → List ℕ → Declared
declared at x = record { at = at; text = x; quoted = false; shown = false }

-- in backticks
abbrev pub quoted : Place → List ℕ → Declared
quoted at x = record { at = at; text = x; quoted = true; shown = false }

abbrev pub pragma_of : PragmaKind → Pragma
pragma_of kind = record { at = at 1 1; kind = kind }

abbrev pub defined : List Declared → List Pragma → Option Written → Option Term → Definition
defined names pragmas annotation value = record { names = names; pragmas = pragmas; annotation = annotation; value = value }

abbrev pub parameters : List Name → ParamMode → Written → Parameters
parameters names mode of = record { names = names; mode = mode; of = of }

abbrev pub head : Declared → List Name → List Parameters → Option Written → List Pragma → Head
head name generics params result pragmas =
    record { name = name; generics = generics; params = params; gives = result; pragmas = pragmas }

abbrev pub declaration : Declared → List Name → Body → Declaration
declaration name parameters body = record { name = name; parameters = parameters; body = body }

-- ---- rows

-- a module is a program, or it is refused in a line and column
pub data Outcome : Type 0 where
  accepted : Outcome
  stops : Code → (line column : ℕ) → Outcome

abbrev pub outcome : Answer Program → Outcome
outcome (Ok program) = accepted
outcome (Err refusal) = stops refusal.code refusal.at.line refusal.at.column

abbrev pub said : Statements → Outcome
said body = outcome (elaborated [] (record { number = 0; body = body } ∷ []))

-- a module, and what is said of it
pub data Row : Type 0 where
  row : Outcome → Statements → Row

abbrev pub answer : Row → Outcome
answer (row expected body) = said body

abbrev pub expected : Row → Outcome
expected (row outcome_of body) = outcome_of

-- each row is answered as expected
abbrev pub Holds : List Row → Type 0
Holds rows = map answer rows ≡ map expected rows
