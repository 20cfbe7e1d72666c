use Rattle.std.proofs.Common.{◌≡◌, length, sym, ap, ap₂, ◌∙◌, subst}
use Rattle.std.specs.Prelude.{Bool, map, if◌then◌else◌}
use Rattle.std.specs.Vec.{vec_len}
use Rattle.arc_base.specs.declared.place.Code.TheVariants.{NotTyped}
use Rattle.nim_tree.specs.Terms.{parts_of}
use Rattle.nim_types.specs.Table.{type_at, types_at, AllBelow}
use Rattle.nim_program.specs.View.{expr_of}
use Rattle.expr_rules.specs.Answers.{not_typed, types_of}
use Rattle.expr_rules.specs.Constructions.{part_names, are_names, tuple_type, make_tuple, tuple_rule}
use Rattle.expr_parts.specs.View.{valued_of, want_of}
use Rattle.expr_parts.proofs.ForCallers.{refuses, answers_as}
use Rattle.expr_parts.proofs.ForCallers.{counted}
use Rattle.expr_builds.proofs.Tupling.{types_are, types_within}
use Rattle.expr_builds.proofs.tuples.tuple_rule.Goals as goal

pub returns-then-not-are-clause-answers : goal.returns-then-not-are-clause-answers
returns-then-not-are-clause-answers c = λ ts env u.
    let vs = map (valued_of ts) c.args.values.items in
    let w = want_of ts c.args.want in
    let names = part_names (parts_of c.args.parts.now) in
    let long : length vs ≡ vec_len c.args.values = counted (valued_of ts) c.args.values.items
    ∙ (let n : length c.args.values.items ≡ vec_len c.args.values = search in n) in
    refuses (expr_of ts) (tuple_rule env w c.args.number c.args.at names vs) NotTyped c.args.at c.refusal.result c.refusal.ensures
    (ap (λ (b : Bool). if b then make_tuple env c.args.number c.args.at (tuple_type names w (types_of vs)) vs else not_typed c.args.at)
    (ap (λ xs. are_names xs vs) (sym (c.as_slice.ensures ∙ c.in_ok-names.ensures.names)) ∙ c.in_ok-are.ensures.names vs (long ∙ sym c.len.ensures)
    ∙ c.if-not-are.true))

pub tuple_type-requires : goal.tuple_type-requires
tuple_type-requires c = record {
  want = c.requires.want;
  parts = subst (AllBelow (length c.args.types.now)) (sym (c.in_ok-own.ensures.types ∙ ap (map (λ v. v.ty)) c.as_slice-2.ensures.value))
      (types_within (length c.args.types.now) c.args.values.items c.requires.values);
}

pub returns-clause-answers : goal.returns-clause-answers
returns-clause-answers c = λ ts env u.
    let vs = map (valued_of ts) c.args.values.items in
    let w = want_of ts c.args.want in
    let names = part_names (parts_of c.args.parts.now) in
    let long : length vs ≡ vec_len c.args.values = counted (valued_of ts) c.args.values.items
    ∙ (let n : length c.args.values.items ≡ vec_len c.args.values = search in n) in
    answers_as (expr_of ts) (tuple_rule env w c.args.number c.args.at names vs)
    (make_tuple env c.args.number c.args.at (type_at ts c.in_ok-ty.ty) vs) c.make_tuple.result
    (ap (λ (b : Bool). if b then make_tuple env c.args.number c.args.at (tuple_type names w (types_of vs)) vs else not_typed c.args.at)
    (ap (λ xs. are_names xs vs) (sym (c.as_slice.ensures ∙ c.in_ok-names.ensures.names)) ∙ c.in_ok-are.ensures.names vs (long ∙ sym c.len.ensures)
    ∙ c.if-not-are.false)
    ∙ ap (λ t. make_tuple env c.args.number c.args.at t vs)
    (ap₂ (λ xs us. tuple_type xs w us) (sym c.in_ok-names.ensures.names)
    (sym (types_are ts c.args.values.items) ∙ ap (types_at ts) (sym (c.in_ok-own.ensures.types ∙ ap (map (λ v. v.ty)) c.as_slice-2.ensures.value)))
    ∙ sym (c.in_ok-ty.ensures.means ts env.facts u)))
    (c.make_tuple.ensures.answers ts env u)
