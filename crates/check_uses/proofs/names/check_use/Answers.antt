use Rattle.std.proofs.Common.{◌∙◌, ap, sym}
use Rattle.decl_rules.specs.Whole.{occurrence_rule, unless_named}
use Rattle.check_uses.specs.Uses.{occurrence_of}
use Rattle.check_uses.specs.Known.{all_procs}
use Rattle.check_uses.proofs.names.check_use.Goals as goal

pub returns-then-found : goal.returns-then-found
returns-then-found c =
    ap (λ o. occurrence_rule (all_procs c.args.known.now) (occurrence_of o)) c.in-Hands.is ∙
    ap (λ b. unless_named b c.in-Hands.at) (sym c.in_ok-found-in-Hands.ensures ∙ c.if-found.true)
