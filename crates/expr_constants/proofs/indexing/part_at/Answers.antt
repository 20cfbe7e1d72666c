use Rattle.std.proofs.Common.{◌≡◌, ap, sym, subst, ◌∙◌, Some}
use Rattle.std.specs.Prelude.{slice_get}
use Rattle.arc_base.specs.declared.place.Code.TheVariants.{NotTyped}
use Rattle.nim_types.specs.Table.{type_at, types_at, IsBelow}
use Rattle.nim_types.proofs.ForCallers.{one_below}
use Rattle.nim_program.specs.View.{expr_of, if_type}
use Rattle.expr_rules.specs.Constructions.{found, nth_type, read_field, read_part}
use Rattle.expr_parts.specs.View.{valued_of}
use Rattle.expr_parts.proofs.ForCallers.{answers_as, if_ok, makes, refuses}
use Rattle.expr_constants.proofs.ConstantSteps.{nth_is}
use Rattle.expr_constants.proofs.indexing.part_at.Goals as goal

pub returns-in-Some-clause-answers : goal.returns-in-Some-clause-answers
returns-in-Some-clause-answers c = λ ts.
    let n = c.args.number in
    let at = c.args.at in
    let i = c.args.i in
    let ps = c.args.parts.now in
    let ty = type_at ts c.in-Some.ty in
    let v = valued_of ts c.args.value in
    let e = nth_is ts ps i ∙ ap (if_type ts) (sym c.part_type.ensures ∙ c.in-Some.is) in
    answers_as (expr_of ts) (read_part n at v i (nth_type i (types_at ts ps))) (read_part n at v i (Some ty)) c.read_field.result (ap (read_part n at v i) e)
    (makes (expr_of ts) (read_field n at v (found i ty)) c.read_field.result (if_ok c.read_field.result c.read_field.ensures.expr (λ e h. h ts))
    c.read_field.ensures.memory)

pub returns-in-None-clause-answers : goal.returns-in-None-clause-answers
returns-in-None-clause-answers c = λ ts.
    let n = c.args.number in
    let at = c.args.at in
    let i = c.args.i in
    let ps = c.args.parts.now in
    let v = valued_of ts c.args.value in
    refuses (expr_of ts) (read_part n at v i (nth_type i (types_at ts ps))) NotTyped at c.refusal.result c.refusal.ensures
    (ap (read_part n at v i) (nth_is ts ps i ∙ ap (if_type ts) (sym c.part_type.ensures ∙ c.in-None.is)))

pub returns-in-Some-clause-within : goal.returns-in-Some-clause-within
returns-in-Some-clause-within c = λ n b.
    let at : slice_get c.args.parts.now c.args.i ≡ Some c.in-Some.ty = sym c.part_type.ensures ∙ c.in-Some.is in
    if_ok c.read_field.result c.read_field.ensures.number (λ e h. subst (IsBelow n) (sym h) (one_below n c.args.parts.now c.args.i c.in-Some.ty b at))
