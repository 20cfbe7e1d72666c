use Rattle.std.proofs.Common.{◌≡◌, Some, None, ap, sym, subst, ◌∙◌}
use Rattle.std.specs.Prelude.{length}
use Rattle.std.proofs.lemmas.Option.{slice_get_within}
use Rattle.arc_base.specs.Refusal.{and_then}
use Rattle.nim_types.specs.declared.types.TypeDef.TheVariants as D
use Rattle.nim_types.specs.Table.{type_at, types_at, IsBelow}
use Rattle.nim_program.specs.View.{expr_of, if_type}
use Rattle.expr_rules.specs.Answers.{typed_as}
use Rattle.expr_rules.specs.Constants.{constant_at}
use Rattle.expr_rules.specs.Constructions.{element_of, indexed, numbered_part}
use Rattle.expr_constants.specs.ViewConstants.{tuple_parts}
use Rattle.expr_parts.specs.View.{valued_of}
use Rattle.expr_parts.proofs.ForCallers.{answers_as, entry_under, if_ok}
use Rattle.expr_constants.proofs.ConstantSteps.{gives_on, indexed_at, indexed_by, parts_none, parts_some, tuple_within}
use Rattle.expr_constants.proofs.indexing.read.Goals as goal

pub returns-in-Some-clause-answers : goal.returns-in-Some-clause-answers
returns-in-Some-clause-answers c = λ ts env k u.
    let n = c.args.number in
    let at = c.args.at in
    let d = c.entry-def.result.now in
    let v = valued_of ts c.args.value in
    let i = valued_of ts c.args.index in
    let ty = type_at ts c.args.value.ty in
    let ps = c.in-Some.parts.now in
    let are : tuple_parts d ≡ Some ps = parts_some _ _ _ _ c.tuple_parts.ensures c.in-Some.is in
    answers_as (λ e. typed_as (expr_of ts e) k) (indexed env n k k at v ty i) (indexed_by ts env n k at v d i (Some ps)) c.constant_part-part.result
    (indexed_at ts env n k at v d i ty (Some ps) (c.entry-def.ensures.means ts env.facts u) are)
    (gives_on (expr_of ts) (λ e. typed_as e k) (and_then (constant_at env.facts at i) (numbered_part n at v (types_at ts ps))) c.constant_part-part.result
    (c.constant_part-part.ensures.answers ts env.facts u))

pub returns-in-None-clause-answers : goal.returns-in-None-clause-answers
returns-in-None-clause-answers c = λ ts env k u.
    let n = c.args.number in
    let at = c.args.at in
    let d = c.entry-def.result.now in
    let v = valued_of ts c.args.value in
    let i = valued_of ts c.args.index in
    let ty = type_at ts c.args.value.ty in
    let are : tuple_parts d ≡ None = parts_none _ _ _ c.tuple_parts.ensures c.in-None.is in
    let inside = slice_get_within c.args.types.now c.args.chars D.Char c.requires.chars in
    let chars = entry_under c.args.chars D.Char u inside c.requires.chars in
    answers_as (λ e. typed_as (expr_of ts e) k) (indexed env n k k at v ty i)
    (element_of env.facts n k at v i (if_type ts c.element_type.result)) c.element_at.result
    (indexed_at ts env n k at v d i ty None (c.entry-def.ensures.means ts env.facts u) are
    ∙ ap (element_of env.facts n k at v i) (c.element_type.ensures.means ts chars))
    (c.element_at.ensures.answers ts env.facts k u)

pub returns-in-Some-clause-within : goal.returns-in-Some-clause-within
returns-in-Some-clause-within c =
    let n = length c.args.types.now in
    let ps = c.in-Some.parts.now in
    let are : tuple_parts c.entry-def.result.now ≡ Some ps = parts_some _ _ _ _ c.tuple_parts.ensures c.in-Some.is in
    c.constant_part-part.ensures.within n (tuple_within n c.entry-def.result.now ps are c.entry-def.ensures.inside)

pub returns-in-None-clause-within : goal.returns-in-None-clause-within
returns-in-None-clause-within c =
    let n = length c.args.types.now in
    let inside = slice_get_within c.args.types.now c.args.chars D.Char c.requires.chars in
    if_ok c.element_at.result c.element_at.ensures.number
    (λ e h. subst (IsBelow n) (sym h) (c.element_type.ensures.within n inside c.entry-def.ensures.inside))
