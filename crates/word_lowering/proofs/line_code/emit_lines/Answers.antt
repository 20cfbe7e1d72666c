use Rattle.std.proofs.Common.{◌+◌, ◌*◌, ap, ◌∙◌}
use Rattle.word_lowering.specs.Scope.{around_of}
use Rattle.word_lowering.proofs.NextLine.{next_line, labels_left}
use Rattle.word_lowering.proofs.line_code.emit_lines.Goals as goal

pub loop-line-preserved : goal.loop-line-preserved
loop-line-preserved c =
    let x = around_of c.args.x.now in
    let at = c.loop-line in
    let rest = c.in-Some.rest.now in
    let line = c.in-Some.line.now in
    let split = c.in-Some.ensures.cases.0 in
    let labels =
    c.saturating_sub-labels.ensures
    ∙ labels_left at.left.now rest line at.labels c.in_ok-labels_of.field-0 split c.in_ok-labels_of.ensures at.invariant.labels in
    record {
      code = next_line x c.args.lines.now at.left.now rest line c.in_ok-label_before.field-0 _ at.code c.emit_next_line.new.code split
          (c.in_ok-label_before.ensures ∙ ap (λ n. 9 + 2 * n) labels) c.in_ok-emit_next_line.ensures at.invariant.code;
      labels = labels;
    }
