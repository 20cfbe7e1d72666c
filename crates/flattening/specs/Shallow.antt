-- Types of a program's places and of values at its nodes, of which code has places, have few levels.
use Rattle.std.specs.Prelude.{◌≤◌, List, [], ◌∷◌, Option, Some, None}
use Rattle.nim_types.specs.Types.{Ty, Facts}
use Rattle.nim_types.specs.Forms.{form_of, levels}
use Rattle.nim_program.specs.declared.expr.Node.{Node}
use Rattle.nim_program.specs.Program.{Declared, Param, Body, Proc, Program}
use Rattle.nim_program.specs.Folds.{Seen, lists, total_of, if_declared}
use Rattle.nim_program.specs.Typed.{type_if, place_types, param_declared}
use Rattle.flat_code.specs.declared.place.TheConstants.{MOST_LEVELS}

-- of a part at a node: the places that it declares, or its value
abbrev pub shown_by : Option Ty → List Declared → Option Node → List Ty
shown_by ty places None = []
shown_by ty [] (Some node) = type_if ty
shown_by ty (place ∷ places) (Some node) = place_types (place ∷ places)

abbrev pub shown_types : Seen → List Ty
shown_types seen = shown_by seen.ty seen.places seen.node

abbrev pub AreShallow : Facts → List Ty → Type 0
AreShallow facts [] = Unit {0}
AreShallow facts (ty ∷ tys) = (levels (form_of facts ty) ≤ MOST_LEVELS) × AreShallow facts tys

-- of a body's parameters, of its result, and of what stands in it
pub record IsShallowBody (facts : Facts) (params : List Param) (body : Body) : Type 0 where
  pub taken : AreShallow facts (place_types (param_declared params))
  pub given : AreShallow facts (place_types (if_declared body.result))
  pub parts : AreShallow facts (total_of lists shown_types body.stmts)

abbrev pub IsShallowIf : Facts → List Param → Option Body → Type 0
IsShallowIf facts params None = Unit {0}
IsShallowIf facts params (Some body) = IsShallowBody facts params body

abbrev pub AreShallowProcs : Facts → List Proc → Type 0
AreShallowProcs facts [] = Unit {0}
AreShallowProcs facts (p ∷ procs) = IsShallowIf facts p.params p.body × AreShallowProcs facts procs

abbrev pub IsShallow : Program → Type 0
IsShallow program = AreShallowProcs program.facts program.procs × IsShallowBody program.facts [] program.start
