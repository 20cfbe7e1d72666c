-- Declarations for examples, and what is said of a term under them.
use Rattle.std.specs.Prelude.{◌≡◌, map, ℕ, pos, Bool, true, false, List, [], ◌∷◌, ◌++◌, codes, Option, Some, None, Ok, Err}
use Rattle.arc_base.specs.declared.place.Place.{Place}
use Rattle.arc_base.specs.declared.place.Code.{Code}
use Rattle.nim_tree.specs.Terms.{Term}
use Rattle.nim_types.specs.Types as type
use Rattle.nim_types.specs.Types.{Ty, Key, Field, Declared}
use Rattle.nim_program.specs.declared.program.Mode.{Mode}
use Rattle.nim_program.specs.declared.program.Mode.TheVariants.{Plain, Sink, Var}
use Rattle.nim_program.specs.Program.{Number, type_of}
use Rattle.expr_rules.specs.Env.{Env, Entry, variable, constant, named, procedure, Parameter, outermost}
use Rattle.expr_rules.specs.Answers.{Answer, Typed, Want}
use Rattle.expr_rules.specs.Typed.{typed}

-- the place of a column in the first line
abbrev pub at : ℕ → Place
at column = record { «module» = 0; line = 1; column = column }

-- the type of what a term stands for, or why it is refused, and in which column
pub data Outcome : Type 0 where
  has : Option Ty → Outcome
  stops : Code → (column : ℕ) → Outcome

abbrev pub outcome : Answer Typed → Outcome
outcome (Ok x) = has (type_of x.expr)
outcome (Err refusal) = stops refusal.code refusal.at.column

-- the place of what no source declares
abbrev nowhere : Place
nowhere = record { «module» = 0; line = 0; column = 0 }

abbrev pub key : List ℕ → Key
key x = record { name = x; at = nowhere }

abbrev pub color : Ty
color = type.enum (key (codes "C"))

abbrev pub point : Ty
point = type.object (key (codes "Point")) type.no_types

abbrev pub metre : Ty
metre = type.distinct (key (codes "Metre"))

abbrev pub feet : Ty
feet = type.distinct (key (codes "Feet"))

-- of another module
abbrev pub secret : Ty
secret = type.object (record { name = codes "Secret"; at = record { «module» = 1; line = 1; column = 1 } }) type.no_types

abbrev member : List ℕ → ℕ → Entry
member x i = constant x color (Number (pos i))

abbrev pub field_of : List ℕ → Ty → Field
field_of x of = record { name = x; shown = false; of = of }

abbrev takes : Mode → Ty → Parameter
takes mode of = record { mode = mode; of = of }

abbrev callee : List ℕ → ℕ → List Parameter → Option Ty → Bool → Entry
callee x number params result borrowed = procedure x (record { number = number; params = params; gives = result; borrowed = borrowed })

abbrev entries_of : List Entry
entries_of =
    named (codes "C") color ∷ member (codes "red") 0 ∷ member (codes "green") 1 ∷ member (codes "blue") 2
    ∷ named (codes "Point") point ∷ named (codes "Metre") metre ∷ named (codes "Feet") feet
    ∷ constant (codes "n") type.int (Number (pos 3))
    ∷ variable (codes "i") 0 type.int true true
    ∷ variable (codes "j") 1 type.int true true
    ∷ variable (codes "k") 2 type.int false true
    ∷ variable (codes "s") 3 type.text true true
    ∷ variable (codes "b") 4 type.bool true true
    ∷ variable (codes "ch") 5 type.char true true
    ∷ variable (codes "nums") 6 (type.sequence type.int) true true
    ∷ variable (codes "grid") 7 (type.sequence (type.sequence type.int)) true true
    ∷ variable (codes "arr") 8 (type.array 2 type.int) true true
    ∷ variable (codes "t") 9 (type.tuple (codes "a" ∷ codes "b" ∷ []) (type.types type.int (type.types type.bool type.no_types))) true true
    ∷ variable (codes "u") 10 (type.tuple [] (type.types type.int (type.types type.int type.no_types))) false true
    ∷ variable (codes "p") 11 point true true
    ∷ variable (codes "c") 12 color true true
    ∷ variable (codes "m") 13 metre false true
    ∷ variable (codes "feet") 14 feet true true
    ∷ variable (codes "quit") 15 type.int false true
    ∷ named (codes "Secret") secret ∷ variable (codes "sec") 16 secret true true
    ∷ callee (codes "f") 0 (takes Plain type.int ∷ []) (Some type.int) false
    ∷ callee (codes "f") 1 (takes Plain type.bool ∷ []) (Some type.bool) false
    ∷ callee (codes "g") 2 (takes Var type.int ∷ takes Var type.int ∷ []) None false
    ∷ callee (codes "h") 3 (takes Plain (type.sequence type.int) ∷ []) (Some type.int) false
    ∷ callee (codes "w") 4 (takes Plain (type.sequence type.int) ∷ []) None false
    ∷ callee (codes "w") 5 (takes Plain (type.sequence type.bool) ∷ []) None false
    ∷ callee (codes "v0") 6 [] None false
    ∷ callee (codes "$") 7 (takes Plain point ∷ []) (Some type.text) false
    ∷ callee (codes "take") 8 (takes Sink type.text ∷ []) None false
    ∷ callee (codes "even") 9 (takes Plain type.int ∷ []) (Some type.bool) false
    ∷ callee (codes "==") 10 (takes Plain metre ∷ takes Plain metre ∷ []) (Some type.bool) true
    ∷ callee (codes "$") 11 (takes Plain metre ∷ []) (Some type.text) true
    ∷ callee (codes "hid") 12 (takes Plain type.int ∷ []) None false ∷ variable (codes "hid") 17 type.int false false
    ∷ callee (codes "ord") 13 (takes Plain type.text ∷ []) (Some type.int) false
    ∷ callee (codes "inc") 14 (takes Plain type.bool ∷ []) None false
    ∷ callee (codes "len") 15 (takes Plain metre ∷ []) (Some type.bool) false
    ∷ []

abbrev facts_of : List Declared
facts_of =
    record { of = color; fact = type.members (codes "red" ∷ codes "green" ∷ codes "blue" ∷ []) }
    ∷ record {
      of = point;
      fact = type.fields (field_of (codes "x") type.int ∷ field_of (codes "y") type.int ∷ field_of (codes "name") type.text ∷ []) false;
    }
    ∷ record {
      of = secret;
      fact = type.fields (record { name = codes "open"; shown = true; of = type.int } ∷ field_of (codes "closed") type.int ∷ []) false;
    }
    ∷ record { of = metre; fact = type.base type.int }
    ∷ record { of = feet; fact = type.base type.int }
    ∷ []

abbrev pub scene : Env
scene = record { entries = outermost ++ entries_of; facts = facts_of; home = 0 }

-- ---- rows

-- a term, what is wanted of it, and what is said of it
pub data Row : Type 0 where
  row : Want → Term → Outcome → Row

abbrev pub answer : Env → Row → Outcome
answer env (row want t expected) = outcome (typed env want 0 t)

abbrev pub expected : Row → Outcome
expected (row want t outcome_of) = outcome_of

-- each row is answered as expected
abbrev pub HoldsIn : Env → List Row → Type 0
HoldsIn env rows = map (answer env) rows ≡ map expected rows

abbrev pub Holds : List Row → Type 0
Holds rows = HoldsIn scene rows
