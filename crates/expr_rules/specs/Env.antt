-- What is declared where an expression stands, and what a name is known as there.
use Rattle.std.specs.Prelude.{ℕ, pos, Bool, ◌||◌, nat_eq, if◌then◌else◌, List, [], ◌∷◌, ◌++◌, codes, Option}
use Rattle.indent_scanner.specs.Words.{normal}
use Rattle.nim_types.specs.Types as type
use Rattle.nim_types.specs.Types.{Ty, Key, Field, Facts, same_text}
use Rattle.nim_program.specs.declared.program.Mode.{Mode}
use Rattle.nim_program.specs.Program.{Literal, Number}

pub record Parameter : Type 0 where
  pub mode : Mode
  pub of : Ty

-- A procedure that can be called. It is borrowed where the operation of its name on the base of a distinct type is meant.
pub record Procedure : Type 0 where
  pub number : ℕ
  pub params : List Parameter
  pub gives : Option Ty
  pub borrowed : Bool

-- A declaration, with its name in normal form; of a name in backticks, what stands between them.
pub data Entry : Type 0 where
  -- a place, whether it can be written, and whether it is a global
  variable : (name : List ℕ) → (place : ℕ) → (of : Ty) → (writable global : Bool) → Entry
  constant : (name : List ℕ) → (of : Ty) → (value : Literal) → Entry
  named : (name : List ℕ) → (of : Ty) → Entry
  -- a type of a section that isn't known yet
  pending : (name : List ℕ) → Entry
  procedure : (name : List ℕ) → Procedure → Entry
  -- standard input
  input : (name : List ℕ) → Entry

-- The declarations in scope, the innermost last; what declared types are; and the number of the module.
pub record Env : Type 0 where
  pub entries : List Entry
  pub facts : Facts
  pub home : ℕ

abbrev pub name_in : Entry → List ℕ
name_in (variable name place of writable global) = name
name_in (constant name of value) = name
name_in (named name of) = name
name_in (pending name) = name
name_in (procedure name callee) = name
name_in (input name) = name

-- ---- what a name is known as

pub data Known : Type 0 where
  unknown : Known
  a_variable : (place : ℕ) → (of : Ty) → (writable global : Bool) → Known
  a_constant : (of : Ty) → (value : Literal) → Known
  a_type : Ty → Known
  a_pending_type : Known
  -- all procedures of the name that nothing else of the name hides
  procedures : List Procedure → Known
  the_input : Known

-- the procedures that can be called by the name
abbrev pub callable : Known → List Procedure
callable (procedures all) = all
callable _ = []

-- A further declaration of the name. It hides those before it; but procedures stand beside one another.
abbrev pub known_next : Known → Entry → Known
known_next before (variable name place of writable global) = a_variable place of writable global
known_next before (constant name of value) = a_constant of value
known_next before (named name of) = a_type of
known_next before (pending name) = a_pending_type
known_next before (procedure name callee) = procedures (callable before ++ callee ∷ [])
known_next before (input name) = the_input

-- by the declarations of a list, behind others
abbrev pub known_behind : Known → List ℕ → List Entry → Known
known_behind before x [] = before
known_behind before x (e ∷ rest) = known_behind (if same_text x (name_in e) then known_next before e else before) x rest

-- by its normal form
abbrev pub known_as : Env → List ℕ → Known
known_as env x = known_behind unknown x env.entries

-- by the bytes that it is written with
abbrev pub known : Env → List ℕ → Known
known env written = known_as env (normal written)

-- ---- fields

-- other modules see the fields of an object that are shown
abbrev pub is_visible : Env → Key → Field → Bool
is_visible env key f = f.shown || nat_eq key.at.module env.home

-- ---- what is declared before all modules

abbrev pub outermost : List Entry
outermost =
    named (codes "int") type.int
    ∷ named (codes "bool") type.bool
    ∷ named (codes "char") type.char
    ∷ named (codes "string") type.text
    ∷ constant (codes "false") type.bool (Number (pos 0))
    ∷ constant (codes "true") type.bool (Number (pos 1))
    ∷ input (codes "stdin")
    ∷ []
