use Rattle.std.proofs.Common.{◌≡◌, ◌+◌, ◌++◌, length, drop}
use Rattle.rv32_isa.specs.Labels.{AreLines}
use Rattle.rv32_codegen.specs.Layout.{too_far, instrs, code_bytes}
use Rattle.rv32_codegen.proofs.layout.code_of.Given as goal

-- with the bytes of the lines that are left, they are those of all
abbrev pub invariant-loop-line : goal.invariant-loop-line
invariant-loop-line l = record {
  left : l.left + l.line-index ≡ length l.code;
  lines : AreLines (drop l.line-index l.code);
  bytes : l.bytes ++ code_bytes (instrs (too_far l.code) l.code (drop l.line-index l.code)) ≡ code_bytes (instrs (too_far l.code) l.code l.code);
}
