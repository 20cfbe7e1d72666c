use Rattle.std.proofs.Common.{◌≡◌, List, [], ◌∷◌, ◌++◌, length, ap, ◌∙◌, sym}
use Rattle.std.specs.Vec.{vec_len}
use Rattle.nim_program.specs.declared.expr.Literal.{Literal}
use Rattle.nim_program.specs.View.{literals_of}
use Rattle.expr_rules.specs.Constants.{alone}
use Rattle.expr_parts.proofs.ForCallers.{nothing_left}
use Rattle.expr_constants.proofs.evaluated.one_of.Goals as goal

pub returns-in-Some : goal.returns-in-Some
returns-in-Some c = λ go.
    ap (λ (xs : List Literal). alone go (literals_of xs))
    (c.in-Some.ensures.items ∙ ap (λ (xs : List Literal). xs ++ c.in-Some.last ∷ []) (sym c.as_slice.ensures.value))
    ∙ c.unless_others.ensures go

pub returns : goal.returns
returns c = λ go.
    let counted : vec_len c.args.all ≡ length c.args.all.items = search in
    ap (λ (xs : List Literal). alone go (literals_of xs)) (nothing_left c.args.all.items (sym counted ∙ c.in-None.ensures.cases.0))
