use Rattle.std.proofs.Common.{sym, ap, ◌∙◌}
use Rattle.std.specs.Prelude.{Ok, Bool, map, if◌then◌else◌}
use Rattle.arc_base.specs.declared.place.Code.TheVariants.{NotTyped}
use Rattle.nim_types.specs.Table.{type_at}
use Rattle.nim_program.specs.Nodes as nodes
use Rattle.nim_program.specs.View.{expr_of, operands_of}
use Rattle.expr_rules.specs.Answers.{node, not_typed, exprs_of}
use Rattle.expr_rules.specs.Constructions.{make_tuple}
use Rattle.expr_parts.specs.View.{valued_of}
use Rattle.expr_parts.proofs.ForCallers.{refuses}
use Rattle.expr_parts.proofs.ForCallers.{exprs_are}
use Rattle.expr_builds.proofs.tuples.make_tuple.Goals as goal

pub returns-then-not-is_sized-clause-answers : goal.returns-then-not-is_sized-clause-answers
returns-then-not-is_sized-clause-answers c = λ ts env u.
    let vs = map (valued_of ts) c.args.values.items in
    let made = nodes.make (node c.args.number c.args.at) (type_at ts c.args.ty) (exprs_of vs) in
    refuses (expr_of ts) (make_tuple env c.args.number c.args.at (type_at ts c.args.ty) vs) NotTyped c.args.at c.refusal.result c.refusal.ensures
    (ap (λ (b : Bool). if b then Ok made else not_typed c.args.at) (c.is_sized.ensures ts env.facts u ∙ c.if-not-is_sized.true))

pub returns-clause-answers : goal.returns-clause-answers
returns-clause-answers c = λ ts env u.
    let vs = map (valued_of ts) c.args.values.items in
    let n = node c.args.number c.args.at in
    let made = nodes.make n (type_at ts c.args.ty) (exprs_of vs) in
    ap (λ (b : Bool). if b then Ok made else not_typed c.args.at) (c.is_sized.ensures ts env.facts u ∙ c.if-not-is_sized.false)
    ∙ ap (λ xs. Ok (nodes.make n (type_at ts c.args.ty) xs)) (exprs_are ts c.args.values.items ∙ ap (operands_of ts) (sym c.in_ok-parts.ensures.operands))
    ∙ ap Ok (sym (c.applied.ensures.expr ts))
