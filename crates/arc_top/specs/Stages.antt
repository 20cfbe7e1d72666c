-- What stops a stage of a command. No public contract speaks of it.
use Rattle.std.specs.Prelude.{◌≡◌, ◌⊎◌, ℕ, List}
use Rattle.arc_base.specs.declared.place.Place.{Place}
use Rattle.arc_base.specs.declared.place.Code.{Code}
use Rattle.source_compiler.specs.declared.compiler.NotCompiled.{NotCompiled}
use Rattle.source_compiler.specs.declared.compiler.NotCompiled.TheVariants as why
use Rattle.nim_program.specs.Program.{Program}
use Rattle.nim_meaning.specs.Meaning.{meaning}
use Rattle.plain_plan.specs.Plain.{plain_plan}
use Rattle.word_runner.specs.declared.mean.MeanEnd.{MeanEnd}
use Rattle.core_compiler.specs.Mean.{CameTo, IsEnd}
use Rattle.rv32_isa.specs.Image.{Image}
use Rattle.rv32_runner.specs.Streams.{Streams}
use Rattle.arc_top.specs.declared.answer.Answer.{Answer}
use Rattle.arc_top.specs.declared.answer.Answer.TheVariants.{NoFile, TooLong, Refused, ReadFault, Memory}
use Rattle.arc_top.specs.Loads.{FilesState, Lacks, IsLong, LoadFails, Wants}
use Rattle.arc_top.specs.Runs.{HasRun}
use Rattle.arc_top.specs.Top.{Stops, told, meant}

-- a file can't be loaded
abbrev pub StopsLoad : (name : List ℕ) (most : ℕ) → Answer → (old new : FilesState) → Type 0
StopsLoad name most (NoFile lacking) old new = (lacking ≡ name) × Lacks old new name
StopsLoad name most (TooLong long) old new = (long ≡ name) × IsLong old new name most
StopsLoad name most ReadFault old new = LoadFails old new
StopsLoad name most Memory old new = Wants old new name
StopsLoad name most _ old new = ⊥

-- a main module can't be loaded, or is refused so
abbrev pub StopsReading : (refuses : (source : List ℕ) → Code → Place → Type 0) → (main : List ℕ) → Answer → (old new : FilesState) → Type 0
StopsReading refuses main answer old new = ((answer ≡ Memory) × Wants old new main) ⊎ Stops refuses main answer old new

-- the answer for a source that was not compiled
abbrev pub IsRefusal : NotCompiled → Answer → Type 0
IsRefusal why.TooLong answer = ⊥
IsRefusal (why.Refused code at) answer = answer ≡ Refused code at
IsRefusal why.Memory answer = answer ≡ Memory

-- the meaning of a program ran, on these streams
pub record IsMeant (program : Program) (heap steps : ℕ) (answer : Answer) (old new : Streams) : Type 0 where
  pub end : MeanEnd
  pub came : CameTo (λ (input : List ℕ). meaning program (plain_plan program) heap input steps) old.input end new.input (told old.out new.out)
      (told old.err new.err)
  pub ends : IsEnd end
  pub answers : answer ≡ meant steps end

-- there was no memory for a machine, or it ran
abbrev pub RunsOrWants : (steps : ℕ) → Image → Answer → (old new : Streams) → Type 0
RunsOrWants steps image answer old new = ((answer ≡ Memory) × (new ≡ old)) ⊎ HasRun steps image answer old new
