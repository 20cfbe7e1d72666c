use Rattle.std.proofs.Common.{ap, ◌∙◌}
use Rattle.std.specs.Prelude.{Bool, ◌&&◌}
use Rattle.nim_tree.specs.Terms.{term_of}
use Rattle.expr_rules.specs.Paths.{has_writable_root}
use Rattle.expr_parts.specs.View.{env_of}
use Rattle.expr_parts.proofs.ForCallers.{if_ok}
use Rattle.expr_steps.proofs.writable.can_be_written.Goals as goal

pub returns-then-not-has_root-clause-is : goal.returns-then-not-has_root-clause-is
returns-then-not-has_root-clause-is c = λ ts facts.
    ap (λ (b : Bool). b && has_writable_root (env_of ts facts c.args.scope.now) (term_of c.args.tree.now)) (c.has_root.ensures ts ∙ c.if-not-has_root.true)

pub returns-clause-is : goal.returns-clause-is
returns-clause-is c = if_ok c.has_writable_root.result c.has_writable_root.ensures.is (λ r h ts facts.
    ap (λ (b : Bool). b && has_writable_root (env_of ts facts c.args.scope.now) (term_of c.args.tree.now)) (c.has_root.ensures ts ∙ c.if-not-has_root.false)
    ∙ h ts facts)
