use Rattle.std.proofs.Common.{◌≡◌, sym, ap, ap₂, ◌∙◌, length}
use Rattle.std.specs.Prelude.{Some}
use Rattle.std.specs.Vec.{vec_len}
use Rattle.nim_tree.specs.Terms.{parts_of}
use Rattle.nim_tree.proofs.ForCallers.{listed}
use Rattle.parse_exprs.specs.Look.{grouped}
use Rattle.parse_exprs.proofs.Making.{is_several}
use Rattle.parse_exprs.proofs.make.make_group.Goals as goal

pub returns-in-Round-3-clause-ok : goal.returns-in-Round-3-clause-ok
returns-in-Round-3-clause-ok c =
    let counted : vec_len c.args.parts ≡ length c.args.parts.items = search in
    c.make_tuple-in-Round-3.ensures
    ∙ sym (is_several c.args.at c.args.parts.items (λ one. c.if-len-eq1.false (c.len.ensures ∙ counted ∙ one)))
    ∙ sym (ap₂ (λ b m. grouped b m c.args.at (parts_of c.args.parts.items)) c.in-Round.is c.if-names.false)

pub returns-clause-ok : goal.returns-clause-ok
returns-clause-ok c = ap Some (listed c.args.at c.args.parts) ∙ sym (ap (λ b. grouped b c.args.names c.args.at (parts_of c.args.parts.items)) c.in-Square.is)
