use Rattle.std.proofs.Common.{◌≡◌, sym, ap, ◌∙◌, length}
use Rattle.std.specs.Prelude.{Some}
use Rattle.std.specs.Vec.{vec_len}
use Rattle.std.proofs.lemmas.Bool.{eqb-false}
use Rattle.nim_tree.specs.Terms.{parts_of}
use Rattle.nim_tree.proofs.ForCallers.{constructed}
use Rattle.parse_exprs.specs.Look.{object}
use Rattle.parse_exprs.proofs.Making.{is_object}
use Rattle.parse_exprs.proofs.make.make_object.Goals as goal

pub returns-in-Some : goal.returns-in-Some
returns-in-Some c =
    let counted : vec_len c.args.parts ≡ length c.args.parts.items = search in
    let some = eqb-false (vec_len c.args.parts) 0 (sym c.is_empty.ensures ∙ c.if-not-is_empty.true) in
    ap Some (constructed c.in-Some.name.at c.in-Some.name.text c.args.parts)
    ∙ sym (is_object c.in-Some.name c.args.parts.items (λ e. some (counted ∙ e)))
    ∙ ap (λ n. object n (parts_of c.args.parts.items)) (sym c.in-Some.is ∙ c.name_of.ensures)
