use Rattle.std.proofs.Common.{sym, ap, ◌∙◌}
use Rattle.flat_code.specs.declared.owned.OwnedLine.TheVariants.{Take}
use Rattle.flat_code.specs.Codes.{under}
use Rattle.destructor_injection.proofs.Acts.{act_said}
use Rattle.destructor_injection.proofs.owned.owned_line.Goals as goal

pub returns-in-Get : goal.returns-in-Get
returns-in-Get c order =
    ap (λ act. Take c.in-Get.to c.in-Get.from c.in-Get.how act c.in-Get.ty)
    (act_said c.args.plan.now c.in-Get.how.node c.act_of-act.result order c.act_of-act.ensures.only c.act_of-act.ensures.all)
    ∙ sym (ap (under c.args.plan.now) c.in-Get.is)
