use Rattle.std.proofs.Common.{◌≡◌, ◌+◌, suc, ap, sym, ◌∙◌, drop, arith, min}
use Rattle.nim_program.specs.View.{literal_of, literals_of}
use Rattle.expr_rules.specs.Literals.{part_bytes, all_bytes}
use Rattle.expr_constants.specs.ViewConstants.{most}
use Rattle.expr_constants.proofs.LiteralSizes.{parts_bytes, elements_bytes, one_part, no_part}
use Rattle.nim_program.proofs.ForCallers.{parts_of, elements_of}
use Rattle.expr_parts.proofs.ForCallers.{literal_count, all_count, next_item, none_left}
use Rattle.expr_constants.proofs.literal_sizes.+sizes.Goals as goal

pub all_bytes-loop-literal-preserved : goal.all_bytes-loop-literal-preserved
all_bytes-loop-literal-preserved t c =
    let at = c.loop-literal in
    let rest = literals_of (drop (at.literal-index + 1) c.args.all.now) in
    let e = next_item c.args.all.now at.literal-index c.literal-item.result c.literal-item.is c.loop-literal-test.true in
    let w = ap (λ l. all_count (literals_of l)) e in
    record {
      light = omega (arith, w, at.invariant.light);
      small = omega (arith, c.saturating_add-bytes.ensures);
      same = ap (λ n. min (n + all_bytes rest) most) c.saturating_add-bytes.ensures
          ∙ one_part at.bytes c.part_bytes.result (part_bytes (literal_of c.literal-item.result)) (all_bytes rest) c.part_bytes.ensures
          ∙ ap (λ l. min (at.bytes + all_bytes (literals_of l)) most) (sym e)
          ∙ at.invariant.same;
    }

pub all_bytes-returns : goal.all_bytes-returns
all_bytes-returns t c =
    let at = c.loop-literal in
    let e = none_left c.args.all.now at.literal-index (omega (arith, c.loop-literal-test.false)) in
    no_part at.bytes at.invariant.small ∙ ap (λ l. min (at.bytes + all_bytes (literals_of l)) most) (sym e) ∙ at.invariant.same

pub part_bytes-returns-in-Parts : goal.part_bytes-returns-in-Parts
part_bytes-returns-in-Parts t c =
    parts_bytes c.or_word.result c.all_bytes.result c.in-Parts.all c.args.literal.now c.as_slice-in-Parts.result.now c.or_word.ensures c.all_bytes.ensures
    c.as_slice-in-Parts.ensures.value c.in-Parts.is

pub part_bytes-returns-in-Elements : goal.part_bytes-returns-in-Elements
part_bytes-returns-in-Elements t c =
    elements_bytes c.list_bytes-in-Elements.result c.all_bytes-in-Elements.result c.in-Elements.all c.args.literal.now c.as_slice-in-Elements.result.now
    c.list_bytes-in-Elements.ensures c.all_bytes-in-Elements.ensures c.as_slice-in-Elements.ensures.value c.in-Elements.is

pub part_bytes-all_bytes-requires : goal.part_bytes-all_bytes-requires
part_bytes-all_bytes-requires t c =
    let e : literal_count (literal_of c.args.literal.now) ≡ suc (all_count (literals_of c.as_slice-in-Parts.result.now)) =
    ap (λ l. literal_count (literal_of l)) c.in-Parts.is ∙ ap literal_count (parts_of c.in-Parts.all)
    ∙ ap (λ xs. suc (all_count (literals_of xs))) (sym c.as_slice-in-Parts.ensures.value) in
    (omega (arith, c.decreases, e), tt)

pub part_bytes-all_bytes-requires-in-Elements : goal.part_bytes-all_bytes-requires-in-Elements
part_bytes-all_bytes-requires-in-Elements t c =
    let e : literal_count (literal_of c.args.literal.now) ≡ suc (all_count (literals_of c.as_slice-in-Elements.result.now)) =
    ap (λ l. literal_count (literal_of l)) c.in-Elements.is ∙ ap literal_count (elements_of c.in-Elements.all)
    ∙ ap (λ xs. suc (all_count (literals_of xs))) (sym c.as_slice-in-Elements.ensures.value) in
    (omega (arith, c.decreases, e), tt)
