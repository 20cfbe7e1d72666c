use Rattle.std.proofs.Common.{◌+◌, refl, ap, drop, get_or, ◌∙◌, arith}
use Rattle.expr_parts.proofs.ForCallers.{none_left}
use Rattle.decl_types.specs.ViewScoped.{declaration_from}
use Rattle.decl_types.proofs.Numbering.{copied}
use Rattle.decl_types.proofs.Scoping.{declared_here, declared_later}
use Rattle.decl_types.proofs.knowing.declaration_of.Goals as goal

pub loop-first-init : goal.loop-first-init
loop-first-init c = record { count = refl; left = refl }

pub loop-first-preserved : goal.loop-first-preserved
loop-first-preserved c =
    let at = c.loop-first in
    let numbers = c.args.numbers.now in
    let x = get_or numbers at.first-index 0 in
    let rest = drop (at.first-index + 1) numbers in
    let e = copied numbers at.first-index c.loop-first-test.true in
    record {
      count = ap (λ k. k + 1) at.invariant.count;
      left = at.invariant.left ∙ ap (λ l. declaration_from at.declaration l c.args.number) e
          ∙ declared_later at.declaration x c.args.number rest c.if-first-number.false;
    }

pub returns-then-first-number : goal.returns-then-first-number
returns-then-first-number c =
    let at = c.loop-first in
    let numbers = c.args.numbers.now in
    let x = get_or numbers at.first-index 0 in
    let rest = drop (at.first-index + 1) numbers in
    let e = copied numbers at.first-index c.loop-first-test.true in
    at.invariant.left ∙ ap (λ l. declaration_from at.declaration l c.args.number) e
    ∙ declared_here at.declaration x c.args.number rest c.if-first-number.true

pub returns : goal.returns
returns c =
    let at = c.loop-first in
    at.invariant.left ∙ ap (λ l. declaration_from at.declaration l c.args.number)
    (none_left c.args.numbers.now at.first-index (omega (arith, c.loop-first-test.false)))
