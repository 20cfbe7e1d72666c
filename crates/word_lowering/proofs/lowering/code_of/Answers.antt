use Rattle.std.proofs.Common.{map, ap, ◌∙◌}
use Rattle.flat_code.specs.Codes.{block_plain}
use Rattle.word_lowering.specs.Layouts.{result_in}
use Rattle.word_lowering.specs.Scope.{around_of}
use Rattle.word_lowering.proofs.Parts.{code_is}
use Rattle.word_lowering.proofs.lowering.code_of.Goals as goal

pub returns : goal.returns
returns c =
    code_is (around_of c.args.x.now) (map block_plain c.args.lines.now) c.result_in.result c.as_slice-waiters.result.now c.new-code.result
    c.emit_none.new.code c.emit_result.new.code c.emit_lines.new.code c.emit_last.new.code c.new-code.ensures
    (c.result_in.ensures ∙ ap result_in c.as_slice-places.ensures) c.as_slice-waiters.ensures c.in_ok-emit_none.ensures c.in_ok-emit_result.ensures
    c.in_ok-emit_lines.ensures c.in_ok-emit_last.ensures
