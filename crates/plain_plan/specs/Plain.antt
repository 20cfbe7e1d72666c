-- The plain plan of a program. That it is one, and the only one, the law `plain_plans` says.
use Rattle.std.specs.Prelude.{◌≡◌, ◌↔◌, ◌<◌, ◌^◌, ℕ, All, List, [], map}
use Rattle.nim_plan.specs.declared.plan.Act.{Act}
use Rattle.nim_plan.specs.declared.plan.Act.TheVariants.{Copy}
use Rattle.nim_plan.specs.declared.plan.Plan.{Plan}
use Rattle.nim_plan.specs.declared.plan.SiteAct.{SiteAct}
use Rattle.nim_plan.specs.Order.{HasAct, IsInOrder}
use Rattle.nim_program.specs.Program.{Program}
use Rattle.nim_meaning.specs.Sites.{IsSite}
use Rattle.nim_meaning.specs.TreeSites.{all_sites}
use Rattle.plain_plan.specs.Adding.{with_all}

abbrev pub copied : ℕ → SiteAct
copied site = record { site = site; act = Copy }

-- It copies at every site, no parameter became `sink`, and every place is destroyed at every exit of its scope.
pub record IsPlainPlan (program : Program) (plan : Plan) : Type 0 where
  pub ordered : IsInOrder plan
  pub acts : (site : ℕ) (act : Act) → HasAct plan site act ↔ (IsSite program [] site × (act ≡ Copy))
  pub sinks : plan.sinks ≡ []
  pub skips : plan.skips ≡ []

-- a copy at each site, in order
unfoldable pub plain_plan : Program → Plan
plain_plan program = record { sites = map copied (with_all [] (all_sites program [])); sinks = []; skips = [] }

-- sites fit into words of a file
abbrev pub AreWords : List SiteAct → Type 0
AreWords sites = All (λ (s : SiteAct). s.site < 2 ^ 32) sites
