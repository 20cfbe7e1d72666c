use Rattle.std.proofs.Common.{rules, get_or, Err, subst}
use Rattle.std.specs.List.Sorted.{IsBinarySearchResult}
use Rattle.std.specs.Ordering.{nat_cmp}
use Rattle.std.proofs.lemmas.List.Sorted.{answers_always}
use Rattle.nim_plan.specs.declared.plan.Act.TheVariants.{Copy}
use Rattle.nim_plan.specs.declared.plan.SiteAct.{SiteAct}
use Rattle.nim_plan.proofs.Entries.{act_at, found_act, one_act, no_act}
use Rattle.nim_plan.proofs.said.act_of.Goals as goal

-- the entry that was found is of the site
pub returns-in-Ok-clause-only : goal.returns-in-Ok-clause-only
returns-in-Ok-clause-only c =
    let holds = c.in-Ok.ensures.position (λ (e : SiteAct). e.site) (answers_always _ _ _ (λ f a r g called. search rules)) in
    found_act c.as_slice-sites.result.now c.args.plan.now.sites c.args.site c.in-Ok.at (act_at 0 Copy) c.as_slice-sites.ensures c.in-Ok.ensures.bound holds

-- and there is no other of this site
pub returns-in-Ok-clause-all : goal.returns-in-Ok-clause-all
returns-in-Ok-clause-all c order act has =
    let found = c.as_slice-sites.result.now in
    let holds = c.in-Ok.ensures.position (λ (e : SiteAct). e.site) (answers_always _ _ _ (λ f a r g called. search rules)) in
    let here = found_act found c.args.plan.now.sites c.args.site c.in-Ok.at (act_at 0 Copy) c.as_slice-sites.ensures c.in-Ok.ensures.bound holds in
    one_act c.args.plan.now.sites order.sites c.args.site (get_or found c.in-Ok.at (act_at 0 Copy)).act act here has

pub returns-in-Err-clause-all : goal.returns-in-Err-clause-all
returns-in-Err-clause-all c order act has =
    let ends = c.in-Err.ensures.position (λ (e : SiteAct). e.site) (answers_always _ _ _ (λ f a r g called. search rules)) in
    absurd (no_act c.args.plan.now.sites order.sites c.args.site c.in-Err.field-0 act
    (subst (λ l. IsBinarySearchResult (λ (e : SiteAct). nat_cmp e.site c.args.site) l (Err c.in-Err.field-0)) c.as_slice-sites.ensures ends) has)
