use Rattle.std.proofs.Common.{sym, ap, ◌∙◌, Bool}
use Rattle.std.specs.Prelude.{Ok, if◌then◌else◌}
use Rattle.arc_base.specs.declared.place.Code.TheVariants.{NotTyped}
use Rattle.nim_types.specs.Types.{array}
use Rattle.nim_types.specs.Table.{type_at}
use Rattle.expr_rules.specs.Answers.{not_typed}
use Rattle.expr_rules.specs.Names.{sized_type}
use Rattle.expr_rules.specs.Sizes.{is_sized}
use Rattle.expr_parts.proofs.ForCallers.{refuses}
use Rattle.expr_builds.proofs.written.sized_array.Goals as goal

pub returns-then-not-is_sized-clause-answers : goal.returns-then-not-is_sized-clause-answers
returns-then-not-is_sized-clause-answers c = λ ts facts u.
    let ty = array c.args.len (type_at ts c.args.of) in
    refuses (type_at ts) (sized_type facts c.args.at ty) NotTyped c.args.at c.refusal.result c.refusal.ensures
    (ap (λ (b : Bool). if b then Ok ty else not_typed c.args.at)
    (ap (is_sized facts) (sym (c.in_ok-ty.ensures.means ts facts u)) ∙ c.is_sized.ensures ts facts u ∙ c.if-not-is_sized.true))

pub returns-clause-answers : goal.returns-clause-answers
returns-clause-answers c = λ ts facts u.
    let ty = array c.args.len (type_at ts c.args.of) in
    ap (λ (b : Bool). if b then Ok ty else not_typed c.args.at)
    (ap (is_sized facts) (sym (c.in_ok-ty.ensures.means ts facts u)) ∙ c.is_sized.ensures ts facts u ∙ c.if-not-is_sized.false)
    ∙ ap Ok (sym (c.in_ok-ty.ensures.means ts facts u))
