use Rattle.std.proofs.Common.{◌≡◌, length, ap, ap₂, ◌∙◌, sym}
use Rattle.std.specs.Vec.{vec_len}
use Rattle.nim_program.specs.View.{literal_of, literals_of}
use Rattle.expr_rules.specs.Constants.{in_pair, on_two}
use Rattle.expr_constants.specs.ViewConstants.{evaluated_of}
use Rattle.expr_parts.proofs.ForCallers.{nothing_left}
use Rattle.expr_constants.proofs.ConstantLists.{behind_is, behind_one, pair_last}
use Rattle.expr_constants.proofs.evaluated.pair_of.Goals as goal

pub returns-in-Some : goal.returns-in-Some
returns-in-Some c = λ go.
    let w = c.in-Some.right in
    ap (λ xs. in_pair go (literals_of xs)) c.in-Some.ensures.items
    ∙ pair_last go c.pop.new.self.items w ∙ c.one_of.ensures (behind_one go w)
    ∙ behind_is go w (evaluated_of literal_of c.one_of.result)

pub returns-in-None : goal.returns-in-None
returns-in-None c = λ go.
    let counted : vec_len c.args.all ≡ length c.args.all.items = search in
    ap (λ xs. in_pair go (literals_of xs)) (nothing_left c.args.all.items (sym counted ∙ c.in-None.ensures.cases.0))
    ∙ sym (ap₂ (on_two go) c.no_pair.ensures.left c.no_pair.ensures.right)
