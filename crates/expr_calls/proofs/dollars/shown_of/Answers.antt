use Rattle.std.proofs.Common.{◌∷◌, refl, sym, ap, subst}
use Rattle.expr_parts.specs.declared.value.Operand.{Operand}
use Rattle.expr_rules.specs.Answers.{value}
use Rattle.expr_rules.specs.Names.{all_shown}
use Rattle.expr_parts.specs.View.{operand_of, valued_of, env_of}
use Rattle.expr_calls.specs.ViewCalls.{IsShown}
use Rattle.expr_calls.proofs.Echoing.{value_shown}
use Rattle.expr_calls.proofs.dollars.shown_of.Goals as goal

pub returns-in-Value : goal.returns-in-Value
returns-in-Value c = λ ts facts u.
    let env = env_of ts facts c.args.scope.now in
    let v = valued_of ts c.in-Value.value in
    subst (λ (o : Operand). IsShown ts env (operand_of ts o) c.shown_if.result) (sym c.in-Value.is)
    (subst (IsShown ts env (value v)) (sym c.shown_if.ensures)
    (value_shown ts env v c.in-Value.value.expr c.can_show.result (c.can_show.ensures ts facts u v refl) refl))

pub returns-in-Open : goal.returns-in-Open
returns-in-Open c = λ ts facts u rest.
    ap (λ (o : Operand). all_shown (env_of ts facts c.args.scope.now) (operand_of ts o ∷ rest)) c.in-Open.is

pub returns-in-Type : goal.returns-in-Type
returns-in-Type c = λ ts facts u rest.
    ap (λ (o : Operand). all_shown (env_of ts facts c.args.scope.now) (operand_of ts o ∷ rest)) c.in-Type.is

pub returns-in-Input : goal.returns-in-Input
returns-in-Input c = λ ts facts u rest.
    ap (λ (o : Operand). all_shown (env_of ts facts c.args.scope.now) (operand_of ts o ∷ rest)) c.in-Input.is
