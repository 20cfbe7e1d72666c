use Rattle.std.proofs.Common.{◌+◌, ◌++◌, take, drop, refl, ap, arith}
use Rattle.rv32_isa.specs.declared.instr.Instr.TheVariants.{Ecall}
use Rattle.rv32_isa.specs.declared.label.LabelLine.TheVariants.{Do}
use Rattle.rv32_codegen.specs.Layout.{too_far, instrs, code_bytes}
use Rattle.rv32_codegen.proofs.LayoutPlaces.{within_at}
use Rattle.rv32_codegen.proofs.LayoutImages.{bytes_turn, lines_turn, count_left, bytes_end}
use Rattle.rv32_codegen.proofs.layout.code_of.Goals as goal

pub loop-line-init : goal.loop-line-init
loop-line-init c =
    let code = c.args.code.now in
    record { left = omega arith; lines = c.requires.lines; bytes = ap (λ l. l ++ code_bytes (instrs (too_far code) code code)) c.new-bytes.ensures }

pub push_line-requires-clause-line : goal.push_line-requires-clause-line
push_line-requires-clause-line c = (lines_turn c.args.code.now c.loop-line.line-index _ _ c.loop-line-test.true refl c.loop-line.invariant.lines).0

pub loop-line-preserved : goal.loop-line-preserved
loop-line-preserved c =
    let at = c.loop-line in
    let code = c.args.code.now in
    let i = at.line-index in
    let lt = c.loop-line-test.true in
    let count = at.invariant.left in
    let within = within_at code i _ _ lt refl in
    let added = c.in_ok-push_line.ensures (take i code) (drop (i + 1) code) within (count_left code i at.left count lt) in
    record {
      left = omega (arith, count, lt);
      lines = (lines_turn code i _ (Do Ecall) lt refl at.invariant.lines).1;
      bytes = bytes_turn code i _ _ _ at.bytes c.push_line.new.bytes lt refl at.invariant.bytes added;
    }

pub returns : goal.returns
returns c = bytes_end c.args.code.now c.loop-line.line-index c.loop-line.bytes _ (omega (arith, c.loop-line-test.false)) c.loop-line.invariant.bytes
