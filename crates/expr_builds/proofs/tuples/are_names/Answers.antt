use Rattle.std.proofs.Common.{◌≡◌, ◌∙◌, length, true, false, arith}
use Rattle.std.specs.Prelude.{nat_eq}
use Rattle.expr_builds.proofs.Tupling.{are_none, are_other, are_so}
use Rattle.expr_builds.proofs.tuples.are_names.Goals as goal

pub returns-then-not-has_names-clause-names : goal.returns-then-not-has_names-clause-names
returns-then-not-has_names-clause-names c = λ vs h. are_none c.args.names.now vs (c.has_names.ensures ∙ c.if-not-has_names.true)

pub returns-then-named-count-clause-names : goal.returns-then-named-count-clause-names
returns-then-named-count-clause-names c = λ vs h.
    let differ : nat_eq (length c.args.names.now) (length vs) ≡ false = grind (arith, c.if-named-count.true, h) in
    are_other c.args.names.now vs (c.has_names.ensures ∙ c.if-not-has_names.false) differ

pub returns-clause-names : goal.returns-clause-names
returns-clause-names c = λ vs h.
    let same : nat_eq (length c.args.names.now) (length vs) ≡ true = grind (arith, c.if-named-count.false, h) in
    are_so c.args.names.now vs c.in_ok-twice.twice (c.has_names.ensures ∙ c.if-not-has_names.false) same c.in_ok-twice.ensures.twice
