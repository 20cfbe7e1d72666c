use Rattle.std.proofs.Common.{◌≡◌, ◌++◌, List, sym, ap, ◌∙◌}
use Rattle.std.proofs.lemmas.List.{nil_from_length}
use Rattle.flat_code.specs.declared.line.From.{From}
use Rattle.word_code.specs.declared.word.WordInstr.{WordInstr}
use Rattle.word_lowering.specs.declared.homes.Housed.{Housed}
use Rattle.word_lowering.specs.LineCode.{operands}
use Rattle.word_lowering.specs.OwnedCode.{elements_code, next_element_code}
use Rattle.word_lowering.specs.Scope.{around_of}
use Rattle.word_lowering.proofs.sequence_rows.emit_elements.Goals as goal

pub loop-operand-preserved : goal.loop-operand-preserved
loop-operand-preserved c =
    let x = around_of c.args.x.now in
    let at = c.loop-operand in
    let size = c.args.size in
    let rest : List Housed = operands x c.in-Some.rest.now in
    λ (k : List WordInstr).
    c.in_ok-emit_next_element.ensures (elements_code size rest k)
    ∙ ap (λ (h : Housed). at.code ++ next_element_code size h (elements_code size rest k)) c.operand.ensures
    ∙ ap (λ (fs : List From). at.code ++ elements_code size (operands x fs) k) (sym c.in-Some.ensures.cases.0) ∙ at.invariant k

pub returns : goal.returns
returns c =
    let x = around_of c.args.x.now in
    let at = c.loop-operand in
    λ (k : List WordInstr).
    ap (λ (fs : List From). at.code ++ elements_code c.args.size (operands x fs) k) (sym (nil_from_length at.left.now c.in_default.ensures.cases))
    ∙ at.invariant k
