-- From where a part of a program is carried out.
use Rattle.std.specs.Prelude.{ℕ, Bool, true, false, ◌||◌, nat_eq, if◌then◌else◌, List, [], ◌∷◌, Option, Some, None}
use Rattle.nim_types.specs.Types.{Ty, Facts}
use Rattle.nim_types.specs.Forms.{Form, plain, hooked, form_of}
use Rattle.nim_plan.specs.declared.plan.Plan.{Plan}
use Rattle.nim_plan.specs.declared.plan.Act.{Act}
use Rattle.nim_plan.specs.declared.plan.SiteAct.{SiteAct}
use Rattle.nim_program.specs.declared.program.Mode.{Mode}
use Rattle.nim_program.specs.Program.{Declared}
use Rattle.nim_meaning.specs.Values.{Value, Slot}
use Rattle.nim_meaning.specs.Acts.{Does}

-- what a call of a procedure does, with the slots of its parameters
abbrev pub Calls : Type 0
Calls = (proc : ℕ) → List Slot → Does Value

-- The level of the call, which is 0 for the start code, and the place of its result. What calls from there do, and the modes of a procedure's
-- parameters to its callers. What is known of the program's types. The plan.
pub record Here : Type 0 where
  pub level : ℕ
  pub result : Option Declared
  pub calls : Calls
  pub modes : (proc position : ℕ) → Mode
  pub facts : Facts
  pub plan : Plan

-- globals are places of the start code
abbrev pub level_of : (global : Bool) → Here → ℕ
level_of true here = 0
level_of false here = here.level

-- whether values of a type have anything to do when they are copied, moved or destroyed
abbrev pub is_hooked : Facts → Ty → Bool
is_hooked facts ty = hooked (form_of facts ty)

abbrev pub gives_hooked : Facts → Option Ty → Bool
gives_hooked facts None = false
gives_hooked facts (Some ty) = is_hooked facts ty

abbrev pub any_hooked : Facts → List (Option Ty) → Bool
any_hooked facts [] = false
any_hooked facts (ty ∷ of) = gives_hooked facts ty || any_hooked facts of

abbrev pub form_for : Facts → Option Ty → Form
form_for facts None = plain
form_for facts (Some ty) = form_of facts ty

-- what a plan says of a site
abbrev pub act_in : List SiteAct → (site : ℕ) → Option Act
act_in [] site = None
act_in (a ∷ acts) site = if nat_eq a.site site then Some a.act else act_in acts site

abbrev pub act_at : Plan → (site : ℕ) → Option Act
act_at plan site = act_in plan.sites site
