-- What drafts of programs stand for under a list of types, by their numbers, and what is said of calls that go from one draft to
-- another. Contracts of the pass alone speak of it.
use Rattle.std.specs.Prelude.{◌≡◌, ℕ, ℤ, pos, ◌+◌, ◌<◌, ◌≤◌, List, [], ◌∷◌, ◌++◌, length, map, codes, Result, Ok, OnOk}
use Rattle.arc_base.specs.declared.place.Stop.{Stop}
use Rattle.arc_base.specs.Refusal.{and_then, Answers}
use Rattle.nim_types.specs.declared.types.TypeDef.{TypeDef}
use Rattle.nim_types.specs.declared.types.TypeDef.TheVariants as D
use Rattle.nim_types.specs.Types.{Ty}
use Rattle.nim_program.specs.declared.expr.Literal.TheVariants as literal
use Rattle.nim_program.specs.declared.stmt.Stmt.{Stmt as RustStmt}
use Rattle.nim_program.specs.Program.{Program}
use Rattle.nim_program.specs.View.{proc_of}
use Rattle.expr_rules.specs.Answers.{Answer}
use Rattle.expr_parts.specs.declared.scope.Kinds.{Kinds}
use Rattle.expr_parts.specs.declared.scope.What.{What}
use Rattle.expr_parts.specs.declared.scope.What.TheVariants as what
use Rattle.expr_parts.specs.declared.scope.Decl.{Decl}
use Rattle.expr_parts.specs.declared.scope.Scope.{Scope}
use Rattle.decl_rules.specs.State.{State, Step, Stated, stated_as}
use Rattle.decl_rules.specs.Elaborated.{module_begins, program_of}
use Rattle.decl_rules.specs.Whole.{text_rule}
use Rattle.typing_laws.specs.Reached.{IsReached}
use Rattle.check_uses.specs.declared.text.Item.{Item as RustItem}
use Rattle.check_uses.specs.declared.text.Item.TheVariants as item
use Rattle.check_uses.specs.View.{items_of}
use Rattle.decl_parts.specs.View.{Beside, Over, Ready, Further, state_of, steps_of}
use Rattle.decl_heads.specs.ViewHeads.{AreCompleted}
use Rattle.check_decls.specs.declared.draft.Draft.{Draft}

-- ---- what is built in

abbrev pub first_types : List TypeDef
first_types = D.Int ∷ D.Bool ∷ D.Char ∷ D.Text ∷ []

-- their numbers
abbrev pub first_kinds : Kinds
first_kinds = record { int = 0; bool = 1; char = 2; text = 3 }

abbrev pub truth_of : Kinds → ℤ → What
truth_of kinds value = what.Constant kinds.bool (literal.Ordinal value)

abbrev pub decl_of : List ℕ → What → Decl
decl_of name w = record { name = name; what = w }

abbrev pub with_decl : Scope → Decl → Scope
with_decl s d = record s { decls = s.decls ++ d ∷ [] }

abbrev pub first_decls : Kinds → List Decl
first_decls kinds =
    decl_of (codes "int") (what.Type kinds.int)
    ∷ decl_of (codes "bool") (what.Type kinds.bool)
    ∷ decl_of (codes "char") (what.Type kinds.char)
    ∷ decl_of (codes "string") (what.Type kinds.text)
    ∷ decl_of (codes "false") (truth_of kinds (pos 0))
    ∷ decl_of (codes "true") (truth_of kinds (pos 1))
    ∷ decl_of (codes "stdin") what.Input
    ∷ []

-- ---- drafts

abbrev pub beside_of : List Ty → Draft → Beside
beside_of ts d = record { procs = map (proc_of ts) d.procs.items; text = items_of ts d.procs.items d.start.items d.text }

abbrev pub known_in : List Ty → Draft → State
known_in ts d = state_of ts (beside_of ts d) d.state

-- the statements of module code, and the state behind them
abbrev pub so_far : List Ty → Draft → Stated
so_far ts d = stated_as (steps_of ts d.start.items) (known_in ts d)

-- what an item names is among so many procedures and statements of the start code
abbrev pub ItemStands : (procs start : ℕ) → RustItem → Type 0
ItemStands procs start (item.Announces p at) = Unit {0}
ItemStands procs start (item.Completes p) = p < procs
ItemStands procs start (item.Code first count) = first + count ≤ start

abbrev pub AllStand : (procs start : ℕ) → List RustItem → Type 0
AllStand procs start [] = Unit {0}
AllStand procs start (i ∷ rest) = ItemStands procs start i × AllStand procs start rest

pub record Sound (d : Draft) : Type 0 where
  pub ready : Ready d.state
  pub text : AllStand (length d.procs.items) (length d.start.items) d.text
  pub completed : (ts : List Ty) → Over d.state ts → AreCompleted d.completed.items (beside_of ts d)

-- by a state that the rules reach
abbrev pub Reached : Draft → Type 0
Reached d = (ts : List Ty) → Over d.state ts → IsReached (known_in ts d)

-- before all modules
pub record IsFirst (d : Draft) : Type 0 where
  pub types : d.state.types ≡ first_types
  pub scope : d.state.scope ≡ record { decls = []; kinds = first_kinds; home = 0 }
  pub outside : d.state.outside ≡ 0
  pub node : d.state.node ≡ 0
  pub place : d.state.place ≡ 0
  pub globals : d.state.globals ≡ []
  pub procs : d.procs.items ≡ []
  pub completed : d.completed.items ≡ []
  pub text : d.text ≡ []
  pub start : d.start.items ≡ []

-- ---- calls from draft to draft

pub record Passing {A T : Type 0} (old new : Draft) (of : List Ty → A) (said : List Ty → State → Answer A) (result : Result T Stop) : Type 0 where
  pub further : Further old.state new.state
  pub sound : OnOk result (Sound new)
  pub answers : (ts : List Ty) → Over new.state ts → Answers (λ _. of ts) (said ts (known_in ts old)) result

-- steps that are done, before what follows
abbrev pub onto : List Step → Answer Stated → Answer Stated
onto steps x = and_then x (λ more. Ok (stated_as (steps ++ more.steps) more.state))

-- a call that goes on with module code
abbrev pub Carrying : {T : Type 0} → (old new : Draft) → (said : State → Answer Stated) → Result T Stop → Type 0
Carrying old new said r = Passing old new (λ ts. so_far ts new) (λ ts st. onto (steps_of ts old.start.items) (said st)) r

-- what is carried on, and what is left
pub record Carried (old now : Draft) (whole rest : State → Answer Stated) : Type 0 where
  pub further : Further old.state now.state
  pub sound : Sound now
  pub leads : (ts : List Ty) → Over now.state ts
      → onto (steps_of ts old.start.items) (whole (known_in ts old)) ≡ onto (steps_of ts now.start.items) (rest (known_in ts now))

-- with further statements of module code
pub record CodeNoted (old new : Draft) (more : List RustStmt) : Type 0 where
  pub text : new.text ≡ old.text ++ item.Code (length old.start.items) (length more) ∷ []
  pub start : new.start.items ≡ old.start.items ++ more
  pub state : new.state ≡ old.state
  pub procs : new.procs ≡ old.procs
  pub completed : new.completed ≡ old.completed

-- where a module begins
pub record Begins (old new : Draft) (number : ℕ) : Type 0 where
  pub types : new.state.types ≡ old.state.types
  pub start : new.start ≡ old.start
  pub sound : Sound new
  pub known : (ts : List Ty) → Over new.state ts → known_in ts new ≡ module_begins (known_in ts old) number

-- the program, behind all modules
abbrev pub program_rule : (types : List Ty) → Stated → Answer Program
program_rule types s = and_then (text_rule s.state.procs s.state.text) (λ _. Ok (program_of types s))
