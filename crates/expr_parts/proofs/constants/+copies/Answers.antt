use Rattle.std.proofs.Common.{◌≡◌, ◌+◌, suc, ap, sym, ◌∙◌, drop, arith}
use Rattle.nim_program.specs.Program as T
use Rattle.nim_program.specs.View.{literal_of, literals_of}
use Rattle.expr_parts.proofs.Rows.{literal_count, all_count, literals_front}
use Rattle.nim_program.proofs.ForCallers.{parts_of, elements_of}
use Rattle.expr_parts.proofs.Rows.{one_copied, all_copied_are, next_item, none_left}
use Rattle.expr_parts.proofs.constants.+copies.Goals as goal

pub all_copied-loop-literal-preserved : goal.all_copied-loop-literal-preserved
all_copied-loop-literal-preserved t c =
    let at = c.loop-literal in
    let rest = drop (at.literal-index + 1) c.args.all.now in
    let e = next_item c.args.all.now at.literal-index c.literal-item.result c.literal-item.is c.loop-literal-test.true in
    let w = ap (λ l. all_count (literals_of l)) e in
    record {
      light = omega (arith, w, at.invariant.light);
      same = ap (λ l. literals_front l (literals_of rest)) c.in_ok-push.ensures.items
          ∙ one_copied at.copies.items c.in_ok-copy.copy c.literal-item.result rest c.in_ok-copy.ensures
          ∙ ap (λ l. literals_front at.copies.items (literals_of l)) (sym e)
          ∙ at.invariant.same;
    }

pub all_copied-returns : goal.all_copied-returns
all_copied-returns t c =
    let at = c.loop-literal in
    all_copied_are at.copies.items (drop at.literal-index c.args.all.now) (literals_of c.args.all.now)
    (none_left c.args.all.now at.literal-index (omega (arith, c.loop-literal-test.false))) at.invariant.same

pub copied-all_copied-requires : goal.copied-all_copied-requires
copied-all_copied-requires t c =
    let e : literal_count (literal_of c.args.literal.now) ≡ suc (all_count (literals_of c.as_slice.result.now)) =
    ap (λ l. literal_count (literal_of l)) c.in-Parts.is ∙ ap literal_count (parts_of c.in-Parts.all)
    ∙ ap (λ xs. suc (all_count (literals_of xs))) (sym c.as_slice.ensures.value) in
    (omega (arith, c.decreases, e), tt)

pub copied-all_copied-requires-in-Elements : goal.copied-all_copied-requires-in-Elements
copied-all_copied-requires-in-Elements t c =
    let e : literal_count (literal_of c.args.literal.now) ≡ suc (all_count (literals_of c.as_slice-in-Elements.result.now)) =
    ap (λ l. literal_count (literal_of l)) c.in-Elements.is ∙ ap literal_count (elements_of c.in-Elements.all)
    ∙ ap (λ xs. suc (all_count (literals_of xs))) (sym c.as_slice-in-Elements.ensures.value) in
    (omega (arith, c.decreases, e), tt)

pub copied-returns-in_ok-parts-in-Parts : goal.copied-returns-in_ok-parts-in-Parts
copied-returns-in_ok-parts-in-Parts t c =
    parts_of c.in_ok-parts-in-Parts.parts ∙ ap T.PartsOf (c.in_ok-parts-in-Parts.ensures ∙ ap literals_of c.as_slice.ensures.value)
    ∙ sym (ap literal_of c.in-Parts.is ∙ parts_of c.in-Parts.all)

pub copied-returns-in_ok-elements-in-Elements : goal.copied-returns-in_ok-elements-in-Elements
copied-returns-in_ok-elements-in-Elements t c =
    elements_of c.in_ok-elements-in-Elements.elements
    ∙ ap T.ElementsOf (c.in_ok-elements-in-Elements.ensures ∙ ap literals_of c.as_slice-in-Elements.ensures.value)
    ∙ sym (ap literal_of c.in-Elements.is ∙ elements_of c.in-Elements.all)
