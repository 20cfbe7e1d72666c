use Rattle.std.proofs.Common.{◌≡◌, drop}
use Rattle.rv32_codegen.specs.Code.{only_calls}
use Rattle.rv32_codegen.proofs.lines.only_calls.Given as goal

-- with what is left, it is all
abbrev pub invariant-loop-line : goal.invariant-loop-line
invariant-loop-line l = only_calls (drop l.line-index l.words) ≡ only_calls l.words
