use Rattle.std.proofs.Common.{◌≡◌, ℕ, suc, ◌+◌, ◌-◌, length, sym, ap, ◌∙◌, arith}
use Rattle.decl_types.specs.ViewContained.{step_of, contained}
use Rattle.decl_types.proofs.Enclosing.{steps_on}
use Rattle.decl_types.proofs.containing.containers.Goals as goal

pub loop-definition-preserved : goal.loop-definition-preserved
loop-definition-preserved c =
    let at = c.loop-definition in
    let read = c.args.read.now in
    let next : suc at._definition-index ≡ at._definition-index + 1 = omega arith in
    c.in_ok-next.ensures ∙ ap (step_of read c.args.number) (c.as_slice.ensures.value ∙ at.invariant)
    ∙ ap (λ (k : ℕ). contained k read c.args.number) next

pub returns-then-are_same : goal.returns-then-are_same
returns-then-are_same c =
    let at = c.loop-definition in
    let read = c.args.read.now in
    let i = at._definition-index in
    let same = c.are_same.ensures c.if-are_same.true in
    let equal : at.marks.items ≡ c.in_ok-next.next.items =
    sym c.as_slice-in-loop-definition.ensures.value ∙ same ∙ c.as_slice-in-loop-definition-2.ensures.value in
    let step : c.in_ok-next.next.items ≡ step_of read c.args.number (contained i read c.args.number) =
    c.in_ok-next.ensures ∙ ap (step_of read c.args.number) (c.as_slice.ensures.value ∙ at.invariant) in
    let more : ℕ = length read - i in
    let e : length read - i + i ≡ length read = let b = at.auto._definition-index-end in omega (arith, b) in
    sym equal ∙ at.invariant ∙ sym (steps_on read c.args.number i (length read - i) (sym step ∙ sym equal ∙ at.invariant))
    ∙ ap (λ (k : ℕ). contained k read c.args.number) e

pub returns : goal.returns
returns c =
    let at = c.loop-definition in
    let read = c.args.read.now in
    let e : at._definition-index ≡ length read = let b = at.auto._definition-index-end in omega (arith, b, c.loop-definition-test.false) in
    at.invariant ∙ ap (λ (k : ℕ). contained k read c.args.number) e
