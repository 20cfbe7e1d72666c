use Rattle.std.proofs.Common.{◌+◌, ◌*◌}
use Rattle.nim_meaning.specs.Meaning.{meaning}
use Rattle.program_limits.specs.Limits.{program_in}
use Rattle.core_compiler.proofs.meaning.mean_core.Given as goal

abbrev pub ghost-run_words : goal.ghost-run_words
ghost-run_words g a = λ input. 256 * (12 * ((meaning (program_in a.program.now) a.plan.now a.heap input a.n).work + 1) + 34)
