use Rattle.std.proofs.Common.{◌≡◌, drop}
use Rattle.rv32_isa.specs.Hooks.{code_at}
use Rattle.elf32.specs.Reading.{stand}
use Rattle.elf32.proofs.order.hooks_stand.Given as goal

-- what is left decides
abbrev pub invariant-loop-hook : goal.invariant-loop-hook
invariant-loop-hook l = stand l.size l.least (drop l.hook-index l.hooks) ≡ stand l.size code_at l.hooks
