use Rattle.std.proofs.Common.{◌≡◌, sym, ap, ◌∙◌, arith, length}
use Rattle.std.specs.Prelude.{Ok, true, Bool, nat_le, if◌then◌else◌}
use Rattle.std.specs.Vec.{vec_len}
use Rattle.nim_types.specs.Types.{array}
use Rattle.nim_types.specs.Table.{type_at}
use Rattle.nim_program.specs.Nodes as nodes
use Rattle.nim_program.specs.View.{operands_of}
use Rattle.expr_rules.specs.declared.limits.TheConstants.{MOST_ELEMENTS}
use Rattle.expr_rules.specs.Answers.{node, not_typed}
use Rattle.expr_rules.specs.Sizes.{is_sized}
use Rattle.expr_parts.proofs.elements.array.Goals as goal

pub returns-clause-answers : goal.returns-clause-answers
returns-clause-answers c = λ ts facts u.
    let n = node c.args.number c.args.at in
    let xs = operands_of ts c.args.parts.items in
    let len = length c.args.parts.items in
    let counted : vec_len c.args.parts ≡ length c.args.parts.items = search in
    let few : nat_le len MOST_ELEMENTS ≡ true = grind (arith, c.if-len.false, c.len-len.ensures) in
    let is : type_at ts c.in_ok-ty.ty ≡ array len (type_at ts c.args.of) =
    c.in_ok-ty.ensures.means ts facts u ∙ ap (λ k. array k (type_at ts c.args.of)) (c.len-len.ensures ∙ counted) in
    let small : is_sized facts (array len (type_at ts c.args.of)) ≡ true =
    ap (is_sized facts) (sym is) ∙ c.is_sized.ensures ts facts u ∙ c.if-not-is_sized.false in
    let whole = if is_sized facts (array len (type_at ts c.args.of)) then Ok (nodes.make n (array len (type_at ts c.args.of)) xs) else not_typed c.args.at in
    ap (λ (b : Bool). if b then whole else not_typed c.args.at) few
    ∙ ap (λ (b : Bool). if b then Ok (nodes.make n (array len (type_at ts c.args.of)) xs) else not_typed c.args.at) small
    ∙ ap Ok (ap (λ t. nodes.make n t xs) (sym is) ∙ sym (c.applied.ensures.expr ts))
