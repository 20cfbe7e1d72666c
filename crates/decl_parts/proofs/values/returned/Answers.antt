use Rattle.std.proofs.Common.{sym, subst}
use Rattle.std.specs.Prelude.{Option}
use Rattle.arc_base.specs.Refusal.{Answers}
use Rattle.nim_program.specs.View.{expr_of}
use Rattle.expr_parts.specs.View.{valued_of}
use Rattle.decl_rules.specs.Values.{returned}
use Rattle.decl_parts.specs.declared.state.ResultPlace.{ResultPlace}
use Rattle.decl_parts.specs.View.{if_result}
use Rattle.decl_parts.proofs.values.returned.Goals as goal

pub returns-in-Some : goal.returns-in-Some
returns-in-Some c = λ ts facts u.
    subst (λ (o : Option ResultPlace). Answers (valued_of ts) (returned (if_result ts o) (expr_of ts c.args.expr)) c.returned_as.result) (sym c.in-Some.is)
    (c.returned_as.ensures ts facts u)
