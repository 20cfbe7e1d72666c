use Rattle.nim_plan.proofs.Kept.{has_site}
use Rattle.nim_plan.proofs.sets.SiteSet.has.Goals as goal

pub returns-clause-has : goal.returns-clause-has
returns-clause-has c = has_site c.self.inside.sites c.args.self.now c.args.site c.contains.result c.self.view_is c.contains.ensures
