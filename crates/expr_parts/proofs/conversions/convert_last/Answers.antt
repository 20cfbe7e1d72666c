use Rattle.std.proofs.Common.{◌≡◌, ◌++◌, ◌∷◌, [], ap, sym, subst, ◌∙◌, arith}
use Rattle.std.specs.Prelude.{map}
use Rattle.arc_base.specs.declared.place.Code.TheVariants.{NotTyped}
use Rattle.arc_base.specs.Refusal.{Answers, refused}
use Rattle.nim_types.specs.Table.{type_at}
use Rattle.nim_program.specs.View.{expr_of}
use Rattle.expr_rules.specs.Constructions.{conversion_rule}
use Rattle.expr_parts.specs.View.{operand_of}
use Rattle.arc_base.proofs.ForCallers.{refuses}
use Rattle.expr_parts.proofs.Arguing.{nothing_left}
use Rattle.expr_parts.proofs.Settling.{several}
use Rattle.expr_parts.proofs.conversions.convert_last.Goals as goal

pub returns-then-count-gt0-clause-answers : goal.returns-then-count-gt0-clause-answers
returns-then-count-gt0-clause-answers c = λ ts env u e.
    let os = c.args.others.now in
    refuses (expr_of ts) (conversion_rule env c.args.number c.args.at (type_at ts c.args.ty) (map (operand_of ts) (os ++ c.args.operand ∷ [])))
    NotTyped c.args.place c.refusal.result c.refusal.ensures
    (several ts env c.args.number c.args.at (type_at ts c.args.ty) os c.args.operand (omega (arith, c.if-count-gt0.true))
    ∙ ap (λ p. refused NotTyped p) e)

pub returns-clause-answers : goal.returns-clause-answers
returns-clause-answers c = λ ts env u e.
    let none : c.args.others.now ≡ [] = nothing_left c.args.others.now (omega (arith, c.if-count-gt0.false)) in
    subst (λ os. Answers (expr_of ts) (conversion_rule env c.args.number c.args.at (type_at ts c.args.ty)
    (map (operand_of ts) (os ++ c.args.operand ∷ []))) c.convert.result) (sym none)
    (c.convert.ensures.answers ts env.facts u)
