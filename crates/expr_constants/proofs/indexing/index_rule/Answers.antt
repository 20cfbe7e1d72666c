use Rattle.std.proofs.Common.{ap, sym, subst, ◌∙◌}
use Rattle.std.specs.Prelude.{length}
use Rattle.arc_base.specs.declared.place.Code.TheVariants.{NotTyped}
use Rattle.nim_types.specs.Table.{type_at, IsBelow}
use Rattle.nim_program.specs.View.{expr_of}
use Rattle.expr_rules.specs.Answers.{typed_as}
use Rattle.expr_rules.specs.Builtins.{is_int}
use Rattle.expr_rules.specs.Constructions.{index_rule, indexed}
use Rattle.expr_parts.specs.View.{env_of, typed_of, valued_of}
use Rattle.expr_parts.proofs.ForCallers.{refuses}
use Rattle.expr_constants.proofs.ConstantSteps.{index_if, indexed_behind, refused_in}
use Rattle.expr_constants.proofs.indexing.index_rule.Goals as goal

pub returns-then-not-is_int-clause-answers : goal.returns-then-not-is_int-clause-answers
returns-then-not-is_int-clause-answers c = λ ts facts u.
    let env = env_of ts facts c.args.scope.now in
    let v = valued_of ts c.args.value in
    let i = valued_of ts c.args.index in
    refuses (typed_of ts) (index_rule env c.args.number c.args.behind_value c.args.behind_index c.args.at v i) NotTyped c.args.at c.refusal.result
    c.refusal.ensures
    (index_if env c.args.number c.args.behind_value c.args.behind_index c.args.at v i _
    (ap is_int (c.entry.ensures.means ts facts u) ∙ c.is_int.ensures ts ∙ c.if-not-is_int.true))

pub returns-in-Ok-clause-answers : goal.returns-in-Ok-clause-answers
returns-in-Ok-clause-answers c = λ ts facts u.
    let env = env_of ts facts c.args.scope.now in
    let v = valued_of ts c.args.value in
    let i = valued_of ts c.args.index in
    let n = c.args.number in
    let at = c.args.at in
    index_if env n c.args.behind_value c.args.behind_index at v i _
    (ap is_int (c.entry.ensures.means ts facts u) ∙ c.is_int.ensures ts ∙ c.if-not-is_int.false)
    ∙ indexed_behind ts env n c.args.behind_value c.args.behind_index c.behind-next.result at v c.entry-2.result.now i (type_at ts c.args.value.ty)
    (c.entry-2.ensures.means ts facts u) c.behind-next.ensures
    ∙ c.in-Ok.ensures.answers ts env c.behind-next.result u

pub returns-in-Err-clause-answers : goal.returns-in-Err-clause-answers
returns-in-Err-clause-answers c = λ ts facts u.
    let env = env_of ts facts c.args.scope.now in
    let v = valued_of ts c.args.value in
    let i = valued_of ts c.args.index in
    let n = c.args.number in
    let at = c.args.at in
    let next = c.behind-next.result in
    refused_in (typed_of ts) (λ e. typed_as (expr_of ts e) next) (index_rule env n c.args.behind_value c.args.behind_index at v i)
    (indexed env n next next at v (type_at ts c.args.value.ty) i) c.in-Err.stop
    (index_if env n c.args.behind_value c.args.behind_index at v i _
    (ap is_int (c.entry.ensures.means ts facts u) ∙ c.is_int.ensures ts ∙ c.if-not-is_int.false)
    ∙ indexed_behind ts env n c.args.behind_value c.args.behind_index next at v c.entry-2.result.now i (type_at ts c.args.value.ty)
    (c.entry-2.ensures.means ts facts u) c.behind-next.ensures)
    (c.in-Err.ensures.answers ts env next u)

pub returns-in-Ok-clause-number : goal.returns-in-Ok-clause-number
returns-in-Ok-clause-number c = sym c.type_number-ty.ensures.number

pub returns-in-Ok-clause-within : goal.returns-in-Ok-clause-within
returns-in-Ok-clause-within c = subst (IsBelow (length c.args.types.now)) (sym c.type_number-ty.ensures.number) c.in-Ok.ensures.within
