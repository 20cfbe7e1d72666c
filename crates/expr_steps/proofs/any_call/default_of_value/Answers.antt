use Rattle.std.proofs.Common.{ap, ap₂, sym, ◌∙◌}
use Rattle.std.specs.Prelude.{Bool}
use Rattle.arc_base.specs.declared.place.Place.{Place}
use Rattle.expr_parts.specs.declared.value.Operand.{Operand}
use Rattle.expr_rules.specs.Answers.{only_if}
use Rattle.expr_rules.specs.Names.{default_of_value}
use Rattle.expr_parts.specs.View.{operand_of}
use Rattle.expr_steps.proofs.Dotted.{no_default}
use Rattle.expr_steps.proofs.any_call.default_of_value.Goals as goal

pub returns-in-Value : goal.returns-in-Value
returns-in-Value c = λ ts.
    ap (λ (o : Operand). default_of_value c.args.name.now (operand_of ts o)) c.in-Value.is
    ∙ ap₂ (λ (b : Bool) (p : Place). only_if b p) c.is_default.ensures (sym (ap (λ n. n.at) (c.node.ensures ts))) ∙ sym c.place_if.ensures

pub returns-in_default : goal.returns-in_default
returns-in_default c = λ ts. no_default ts c.args.name.now c.args.operand.now c.in_default.not-Value
