use Rattle.std.proofs.Common.{◌≡◌, sym, ap, ◌∙◌, length}
use Rattle.std.specs.Prelude.{Some}
use Rattle.std.specs.Vec.{vec_len}
use Rattle.std.proofs.lemmas.Bool.{eqb-false}
use Rattle.nim_tree.proofs.ForCallers.{tupled}
use Rattle.parse_exprs.proofs.Making.{is_tuple}
use Rattle.parse_exprs.proofs.make.make_tuple.Goals as goal

pub returns-else-is_empty : goal.returns-else-is_empty
returns-else-is_empty c =
    let counted : vec_len c.args.parts ≡ length c.args.parts.items = search in
    let some = eqb-false (vec_len c.args.parts) 0 (sym c.is_empty.ensures ∙ c.if-is_empty.false) in
    ap Some (tupled c.args.at c.args.parts) ∙ sym (is_tuple c.args.at c.args.parts.items (λ e. some (counted ∙ e)))
