use Rattle.std.proofs.Common.{◌≡◌, ◌++◌, ◌∷◌, [], length, ap, sym, subst, ◌∙◌}
use Rattle.std.specs.Prelude.{map}
use Rattle.std.specs.Vec.{vec_len}
use Rattle.arc_base.specs.Refusal.{Answers}
use Rattle.nim_types.specs.Table.{type_at}
use Rattle.nim_program.specs.View.{expr_of}
use Rattle.expr_rules.specs.Constructions.{conversion_rule}
use Rattle.expr_parts.specs.View.{operand_of, no_fit_at, OperandsWithin}
use Rattle.expr_parts.proofs.Arguing.{nothing_left}
use Rattle.expr_parts.proofs.Settling.{last_within}
use Rattle.expr_parts.proofs.conversions.conversion.Goals as goal

pub convert_last-requires-clause-operand : goal.convert_last-requires-clause-operand
convert_last-requires-clause-operand c =
    let n = length c.args.types.now in
    last_within n c.pop.new.self.items c.in-Some.operand (subst (OperandsWithin n) c.in-Some.ensures.items c.requires.operands)

pub returns-in-Some-clause-answers : goal.returns-in-Some-clause-answers
returns-in-Some-clause-answers c = λ ts env u.
    let all : c.args.operands.items ≡ c.as_slice-in-Some.result.now ++ c.in-Some.operand ∷ [] =
    c.in-Some.ensures.items ∙ ap (λ os. os ++ c.in-Some.operand ∷ []) (sym c.as_slice-in-Some.ensures.value) in
    subst
    (λ os. Answers (expr_of ts) (conversion_rule env c.args.number c.args.at (type_at ts c.args.ty) (map (operand_of ts) os)) c.convert_last.result)
    (sym all)
    (c.convert_last.ensures.answers ts env u (ap (no_fit_at c.args.at) (sym all ∙ sym c.as_slice.ensures.value) ∙ c.place_of_no_fit-place.ensures))

pub returns-clause-answers : goal.returns-clause-answers
returns-clause-answers c = λ ts env u.
    let counted : vec_len c.args.operands ≡ length c.args.operands.items = search in
    let none : c.args.operands.items ≡ [] = nothing_left c.args.operands.items (sym counted ∙ c.in-None.ensures.cases.0) in
    subst
    (λ os. Answers (expr_of ts) (conversion_rule env c.args.number c.args.at (type_at ts c.args.ty) (map (operand_of ts) os)) c.empty_object.result)
    (sym none) (c.empty_object.ensures.answers ts env.facts u)
