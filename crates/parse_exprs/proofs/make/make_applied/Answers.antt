use Rattle.std.proofs.Common.{sym, ap, ap₂, ◌∙◌}
use Rattle.std.specs.Prelude.{Some}
use Rattle.nim_tree.specs.Terms.{term_of, parts_of, place_of, call, index}
use Rattle.nim_tree.proofs.ForCallers.{called, indexed}
use Rattle.parse_exprs.specs.Look.{applied}
use Rattle.parse_exprs.proofs.make.make_applied.Goals as goal

pub returns-in-Round-2 : goal.returns-in-Round-2
returns-in-Round-2 c =
    let place = c.place-at.ensures ∙ ap (λ e. place_of (term_of e)) c.deref.ensures in
    ap Some (called c.place-at.result c.args.base c.args.parts ∙ ap (λ p. call p (term_of c.args.base.value) (parts_of c.args.parts.items)) place)
    ∙ sym (ap₂ (λ b m. applied b m (term_of c.args.base.value) (parts_of c.args.parts.items)) c.in-Round.is c.if-names.false)

pub returns-in-Square : goal.returns-in-Square
returns-in-Square c =
    let place = c.place-at.ensures ∙ ap (λ e. place_of (term_of e)) c.deref.ensures in
    ap Some (indexed c.place-at.result c.args.base c.args.parts ∙ ap (λ p. index p (term_of c.args.base.value) (parts_of c.args.parts.items)) place)
    ∙ sym (ap (λ b. applied b c.args.names (term_of c.args.base.value) (parts_of c.args.parts.items)) c.in-Square.is)
