use Rattle.std.proofs.Common.{rules, ◌≡◌, ◌<◌, ◌^◌, ◌++◌, [], ◌∷◌, sym, subst}
use Rattle.std.proofs.lemmas.List.Elements.{All-push}
use Rattle.nim_plan.specs.declared.plan.SiteAct.{SiteAct}
use Rattle.plain_plan.specs.Plain.{AreWords}
use Rattle.plain_plan.proofs.Making.{copied_more}
use Rattle.plain_plan.proofs.found.copies.Goals as goal

pub loop-site-preserved : goal.loop-site-preserved
loop-site-preserved c =
    let more : c.push.new.self ≡ c.loop-site.acts ++ c.copy_at.result ∷ [] = search rules in
    let step : c.loop-site.site-iterator ≡ c.in-Some.site.now ∷ c.next.new.self = search rules in
    let word = subst (λ (s : SiteAct). s.site < 2 ^ 32) (sym c.copy_at.ensures.is) c.copy_at.ensures.word in
    record {
      copies = copied_more c.loop-site.acts c.push.new.self c.copy_at.result c.in-Some.site.now c.loop-site.site-iterator c.next.new.self _ more
          c.copy_at.ensures.is step c.loop-site.invariant.copies;
      words = subst AreWords (sym more) (All-push (λ (s : SiteAct). s.site < 2 ^ 32) c.loop-site.acts c.copy_at.result c.loop-site.invariant.words word);
    }
