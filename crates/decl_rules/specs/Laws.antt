-- Statements of the laws of the typing rules of programs.
use Rattle.std.specs.Prelude.{◌≡◌, ◌↔◌, ◌⊎◌, List, Ok}
use Rattle.arc_base.specs.declared.place.Place.{Place}
use Rattle.arc_base.specs.declared.place.Code.{Code}
use Rattle.arc_base.specs.Refusal.{IsRefusal}
use Rattle.nim_tree.specs.Statements.{Statement}
use Rattle.nim_types.specs.Types.{Ty}
use Rattle.nim_program.specs.Program.{Program}
use Rattle.decl_rules.specs.State.{ResultPlace, Around, State, Stated}
use Rattle.decl_rules.specs.Stated.{stated}
use Rattle.decl_rules.specs.Rules.{IsStated}
use Rattle.decl_rules.specs.Refusals.{IsNotStated}
use Rattle.decl_rules.specs.Elaborated.{Module, elaborated}
use Rattle.decl_rules.specs.ProgramRules.{IsProgram, IsNoProgram}

-- ---- statements

abbrev pub HasStated : Around → ResultPlace → State → Statement → Type 0
HasStated a ends st s = (x : Stated) × IsStated a ends st s x

abbrev pub HasRefusal : Around → ResultPlace → State → Statement → Type 0
HasRefusal a ends st s = (c : Code) × (p : Place) × IsNotStated a ends st s c p

abbrev pub EachStatement : Type 0
EachStatement = (a : Around) (ends : ResultPlace) (st : State) (s : Statement) → HasStated a ends st s ⊎ HasRefusal a ends st s

abbrev pub OneStated : Type 0
OneStated = (a : Around) (ends : ResultPlace) (st : State) (s : Statement) (x y : Stated) → IsStated a ends st s x → IsStated a ends st s y → y ≡ x

abbrev pub OneRefusal : Type 0
OneRefusal =
    (a : Around) (ends : ResultPlace) (st : State) (s : Statement) (c d : Code) (p q : Place) → IsNotStated a ends st s c p
    → IsNotStated a ends st s d q → (d ≡ c) × (q ≡ p)

abbrev pub NotBoth : Type 0
NotBoth =
    (a : Around) (ends : ResultPlace) (st : State) (s : Statement) (x : Stated) (c : Code) (p : Place) → IsStated a ends st s x
    → IsNotStated a ends st s c p → ⊥

-- the computation gives what the rules say, and refuses what they refuse
abbrev pub StatementsComputed : Type 0
StatementsComputed =
    (a : Around) (ends : ResultPlace) (st : State) (s : Statement) (x : Stated) → IsStated a ends st s x ↔ (stated a ends st s ≡ Ok x)

abbrev pub RefusalsComputed : Type 0
RefusalsComputed =
    (a : Around) (ends : ResultPlace) (st : State) (s : Statement) (c : Code) (p : Place)
    → IsNotStated a ends st s c p ↔ IsRefusal (stated a ends st s) c p

-- ---- programs

-- with a list of types by number
abbrev pub HasProgram : List Ty → List Module → Type 0
HasProgram types all = (program : Program) × IsProgram types all program

abbrev pub HasNone : List Module → Type 0
HasNone all = (c : Code) × (p : Place) × IsNoProgram all c p

abbrev pub EachProgram : Type 0
EachProgram = (types : List Ty) (all : List Module) → HasProgram types all ⊎ HasNone all

abbrev pub OneProgram : Type 0
OneProgram = (types : List Ty) (all : List Module) (x y : Program) → IsProgram types all x → IsProgram types all y → y ≡ x

abbrev pub OneReason : Type 0
OneReason = (all : List Module) (c d : Code) (p q : Place) → IsNoProgram all c p → IsNoProgram all d q → (d ≡ c) × (q ≡ p)

abbrev pub NeverBoth : Type 0
NeverBoth = (types : List Ty) (all : List Module) (x : Program) (c : Code) (p : Place) → IsProgram types all x → IsNoProgram all c p → ⊥

abbrev pub ProgramsComputed : Type 0
ProgramsComputed = (types : List Ty) (all : List Module) (x : Program) → IsProgram types all x ↔ (elaborated types all ≡ Ok x)

abbrev pub ReasonsComputed : Type 0
ReasonsComputed = (types : List Ty) (all : List Module) (c : Code) (p : Place) → IsNoProgram all c p ↔ IsRefusal (elaborated types all) c p
