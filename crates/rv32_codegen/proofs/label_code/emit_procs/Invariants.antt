use Rattle.std.proofs.Common.{◌≡◌, ◌++◌, drop}
use Rattle.rv32_codegen.specs.Code.{homes_code}
use Rattle.rv32_codegen.proofs.label_code.emit_procs.Given as goal

-- with the code of the procedures that are left, it is that of all
abbrev pub invariant-loop-i : goal.invariant-loop-i
invariant-loop-i l = l.lines ++ homes_code (drop l.i l.procs) (drop l.i l.homes) ≡ l.initial.lines ++ homes_code l.procs l.homes
