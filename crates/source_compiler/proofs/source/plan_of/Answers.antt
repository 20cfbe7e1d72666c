use Rattle.std.proofs.Common.{refl, sym, subst, ◌∙◌}
use Rattle.std.proofs.lemmas.Result.{IfOk-weaker}
use Rattle.nim_plan.specs.Order.{IsInOrder}
use Rattle.check_decls.specs.Modules.{program_in}
use Rattle.source_compiler.proofs.Unlisted.{plan_same}
use Rattle.source_compiler.proofs.source.plan_of.Goals as goal

pub plain_plan-requires : goal.plain_plan-requires
plain_plan-requires c =
    record { forms = c.table_forms.ensures c.args.program.now.types (program_in c.args.program.now) refl refl c.requires }

pub returns-clause-plain : goal.returns-clause-plain
returns-clause-plain c =
    let laws = c.plain_plans.ensures in
    IfOk-weaker c.plain_plan.result _ _ (λ plan is. is ∙ plan_same laws.is laws.only (program_in c.args.program.now)) c.plain_plan.ensures.is

pub returns-clause-ordered : goal.returns-clause-ordered
returns-clause-ordered c =
    IfOk-weaker c.plain_plan.result _ _
    (λ plan is. subst IsInOrder (sym is) (c.plain_plans.ensures.is (program_in c.args.program.now)).ordered) c.plain_plan.ensures.is
