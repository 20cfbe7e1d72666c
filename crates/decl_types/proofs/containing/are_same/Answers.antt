use Rattle.std.proofs.Common.{◌≡◌, ◌+◌, ◌∷◌, get_or, sym, ap, ap₂, subst, ◌∙◌, arith}
use Rattle.std.specs.Prelude.{false, slice_get, Some, length}
use Rattle.std.proofs.lemmas.Bool.{eqb-true}
use Rattle.expr_parts.proofs.ForCallers.{none_left}
use Rattle.decl_types.proofs.Outcomes.{copied, drop_read, get_read}
use Rattle.decl_types.proofs.containing.are_same.Goals as goal

pub loop-x-preserved : goal.loop-x-preserved
loop-x-preserved c =
    let at = c.loop-x in
    let a = c.args.a.now in
    let b = c.args.b.now in
    let i = at.x-index in
    let y = c.in-Some.y.now in
    let get = get_read b at.number y c.in-Some.ensures.lookup.3.0 c.in-Some.ensures.lookup.1 in
    let here = subst (λ k. slice_get b k ≡ Some y) at.invariant.number get in
    let e : get_or a i false ≡ y = c.is_same.ensures c.if-not-is_same.false in
    record {
      number = ap (λ k. k + 1) at.invariant.number;
      left = λ h. at.invariant.left (copied a i false c.loop-x-test.true ∙ ap₂ (λ x xs. x ∷ xs) e h ∙ sym (drop_read b i y here));
    }

pub returns : goal.returns
returns c = λ h.
    let at = c.loop-x in
    let a = c.args.a.now in
    let b = c.args.b.now in
    let n = eqb-true at.number (length b) h in
    at.invariant.left (none_left a at.x-index (omega (arith, c.loop-x-test.false))
    ∙ sym (none_left b at.x-index (let k = at.invariant.number in omega (arith, n, k))))
