-- A run that is under way on a source and sinks.
-- It serves proofs alone: the promise of `mean_words` doesn't speak of it.
use Rattle.std.specs.Prelude.{◌≡◌, ◌≤◌, ℕ, length, IsTrue, List, [], ◌++◌}
use Rattle.rv32_isa.specs.Machine.{Lives}
use Rattle.rv32_runner.specs.Streams.{Feed, Gave}
use Rattle.word_code.specs.declared.word.WordCode.{WordCode}
use Rattle.word_runner.specs.declared.state.Run.{Run}
use Rattle.word_runner.specs.Holding.{Holding, machine}
use Rattle.word_runner.specs.Mean.{shown_by}
use Rattle.word_runner.specs.Sinks.{Told}
use Rattle.word_runner.specs.Takes.{NoMore}
use Rattle.word_runner.specs.View.{state_is}

-- What was taken is all that the source gave, and whatever may still come the run goes on from its state.
pub record Under (code : WordCode) (heap units : ℕ) (first : Feed) (run : Run) (now : Feed) (out err : Told) : Type 0 where
  pub holds : (live : Lives) (rest : List ℕ) → (IsTrue run.input.ended → rest ≡ [])
      → Holding (machine live code.procs) (shown_by live code heap units (run.input.taken.items ++ rest)) (state_is code.procs run rest) out err
  pub within : run.input.read ≤ length run.input.taken.items
  pub gave : Gave first now run.input.taken.items
  pub faults : now.faults ≡ first.faults
  pub over : IsTrue run.input.ended → NoMore now
