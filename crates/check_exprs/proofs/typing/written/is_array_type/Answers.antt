use Rattle.std.proofs.Common.{ap, ◌∙◌}
use Rattle.std.specs.Prelude.{Bool, ◌&&◌}
use Rattle.nim_tree.specs.Terms.{parts_of}
use Rattle.expr_rules.specs.Typed.{is_pair}
use Rattle.check_exprs.proofs.typing.written.is_array_type.Goals as goal

pub returns-then-not-is_array : goal.returns-then-not-is_array
returns-then-not-is_array c = λ text named.
    ap (λ (b : Bool). b && is_pair (parts_of c.args.given.now)) (c.is_array.ensures text named ∙ c.if-not-is_array.true)

pub returns : goal.returns
returns c = λ text named.
    ap (λ (b : Bool). b && is_pair (parts_of c.args.given.now)) (c.is_array.ensures text named ∙ c.if-not-is_array.false) ∙ c.is_pair.ensures
