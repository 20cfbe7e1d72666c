use Rattle.std.proofs.Common.{sym, ap, ◌∙◌}
use Rattle.nim_tree.specs.Terms.{term_of}
use Rattle.expr_rules.specs.Demands.{is_a_type, is_name_of}
use Rattle.expr_parts.specs.View.{env_of}
use Rattle.expr_parts.proofs.ForCallers.{if_ok}
use Rattle.expr_steps.proofs.Demanding.{one_type_not, one_type_so}
use Rattle.expr_steps.proofs.demands.names_type_alone.Goals as goal

pub returns-then-not-alone-clause-is : goal.returns-then-not-alone-clause-is
returns-then-not-alone-clause-is c = λ ts facts rest h.
    one_type_not (env_of ts facts c.args.scope.now) (term_of c.args.first.now) rest (h ∙ c.if-not-alone.true)

pub returns-clause-is : goal.returns-clause-is
returns-clause-is c = if_ok c.names_type.result c.names_type.ensures.is (λ b k ts facts rest h.
    let env = env_of ts facts c.args.scope.now in
    one_type_so env (term_of c.args.first.now) rest b (h ∙ c.if-not-alone.false)
    (ap (is_name_of is_a_type env) (sym c.bare.ensures) ∙ k ts facts))
