-- From the stages of a command to what is said of its answer.
use Rattle.std.proofs.Common.{◌≡◌, ℕ, List, [], ◌∷◌, ◌++◌, Ok, Err, inl, inr, refl, sym, ap, subst, ◌∙◌, append_assoc}
use Rattle.arc_base.specs.FileCalls.{load, store}
use Rattle.arc_base.specs.Outside.{Rose, KeepsOthers, Stores}
use Rattle.arc_base.specs.declared.outside.Loaded.TheVariants as loaded
use Rattle.arc_base.specs.declared.outside.Stream.TheVariants.{Out, Err}
use Rattle.arc_base.specs.declared.place.Place.{Place}
use Rattle.arc_base.specs.declared.place.Code.{Code}
use Rattle.arc_base.specs.declared.place.Stop.{Stop}
use Rattle.arc_base.specs.declared.place.Stop.TheVariants as stop
use Rattle.arc_base.specs.Refusal.{Answers}
use Rattle.elf32.specs.Elf.{File}
use Rattle.nim_program.specs.Program.{Program}
use Rattle.nim_meaning.specs.Meaning.{meaning}
use Rattle.plain_plan.specs.Plain.{plain_plan}
use Rattle.word_runner.specs.declared.mean.MeanEnd.{MeanEnd}
use Rattle.word_runner.specs.declared.mean.MeanEnd.TheVariants as mean_end
use Rattle.rv32_isa.specs.Image.{Image}
use Rattle.rv32_isa.specs.State.{State, first_state}
use Rattle.rv32_runner.specs.declared.runner.RunEnd.{RunEnd}
use Rattle.rv32_runner.specs.declared.runner.RunEnd.TheVariants as end
use Rattle.rv32_runner.specs.Streams.{Streams}
use Rattle.rv32_runner.specs.Runs.{Ran}
use Rattle.source_compiler.specs.declared.compiler.NotCompiled.{NotCompiled}
use Rattle.source_compiler.specs.declared.compiler.NotCompiled.TheVariants as why
use Rattle.core_compiler.specs.Compile.{live_objects}
use Rattle.core_compiler.specs.Mean.{CameTo, IsEnd}
use Rattle.source_compiler.specs.Source.{alone, Reads}
use Rattle.program_limits.specs.Limits.{tree_limits}
use Rattle.source_compiler.specs.Limits.{build_limits}
use Rattle.source_compiler.specs.Limits.{Limits}
use Rattle.source_compiler.specs.Compile.{Compiled, IsNoProgram, DecidedBy, by_limits, source_most, OnRefused}
use Rattle.arc_top.specs.declared.answer.Answer.{Answer}
use Rattle.arc_top.specs.declared.answer.Answer.TheVariants.{Done, Ended, Usage, NoFile, TooLong, Refused, BadElf, MachineFault, StepsSpent, ReadFault}
use Rattle.arc_top.specs.declared.answer.Answer.TheVariants.{WriteFault, StoreFault, Memory}
use Rattle.arc_top.specs.Answer.{OnQuiet, IsStopped}
use Rattle.arc_top.specs.Loads.{FilesState, Gives, Wants}
use Rattle.arc_top.specs.Runs.{HasRun, Does, answer_of}
use Rattle.arc_top.specs.Stages.{StopsReading, IsRefusal, RunsOrWants, IsMeant}
use Rattle.arc_top.specs.Top.{IsTurnedDown, IsFileOf, HandsOver, Builds, world, RunsProgram, Runs, told, meant, MeansProgram, RunsMeaning}
use Rattle.arc_top.proofs.Meaning.{Shows, Sees, exited, spent, no_fault, read_failed, out_failed, err_failed}

-- ---- stores

module _ (main out source bytes : List ℕ) (heap : ℕ) (old mid new : FilesState) (gives : Gives old mid main source_most source)
    (file : IsFileOf (alone main source) heap bytes) (calls : new.calls ≡ mid.calls ++ store out bytes ∷ [])
    (others : KeepsOthers mid.held new.held out) (loads : new.load_faults ≡ mid.load_faults) where
  abbrev handed : HandsOver main out heap old new
  handed = record {
    source = source;
    bytes = bytes;
    calls = calls ∙ ap (λ l. l ++ store out bytes ∷ []) gives.asked.calls
        ∙ append_assoc old.calls (load main loaded.Whole source ∷ []) (store out bytes ∷ []);
    told = gives.told;
    file = file;
    program = record { within = gives.within; program = file.compiled.program; reads = file.compiled.reads; taken = file.compiled.built };
    others = subst (λ held. KeepsOthers held new.held out) gives.asked.kept.held others;
    loads = loads ∙ gives.asked.kept.loads;
  }

  pub built : Stores new.held out bytes → new.store_faults ≡ mid.store_faults → Builds main out heap Done old new
  built stores faults = (handed, (stores, faults ∙ gives.asked.kept.stores))

  pub not_stored : Rose mid.store_faults new.store_faults → Builds main out heap StoreFault old new
  not_stored rose = (handed, subst (λ n. Rose n new.store_faults) gives.asked.kept.stores rose)

  pub wants_store : new.store_faults ≡ mid.store_faults → Builds main out heap Memory old new
  wants_store faults = inr (handed, faults ∙ gives.asked.kept.stores)

-- ---- want of memory

-- behind a load that gave bytes
pub wants_behind : (name bytes : List ℕ) (most : ℕ) (old new : FilesState) → Gives old new name most bytes → Wants old new name
wants_behind name bytes most old new gives = record { kept = gives.asked.kept; calls = inr (loaded.Whole, (bytes, gives.asked.calls)) }

-- ---- sources that aren't taken

-- what was said of a refusal says that this command refuses the source
pub turned_away : (refuses : (source : List ℕ) → Code → Place → Type 0) (main source : List ℕ) (P : Code → Place → Type 0)
    → ((code : Code) (at : Place) → P code at → refuses source code at) → (e : NotCompiled) (answer : Answer) (old new : FilesState)
    → Gives old new main source_most source → IsRefusal e answer → OnRefused e P → StopsReading refuses main answer old new
turned_away refuses main source P so why.TooLong answer old new gives is said = absurd is
turned_away refuses main source P so (why.Refused code at) answer old new gives is said =
    subst (λ a. StopsReading refuses main a old new) (sym is) (inr (source, gives, so code at said))
turned_away refuses main source P so why.Memory answer old new gives is said = inl (is, wants_behind main source source_most old new gives)

-- a source that wasn't compiled, by so many bytes of its code
pub compiling_stops : {T : Type 0} (main source : List ℕ) (bytes : ℕ) (e : NotCompiled) (answer : Answer) (old new : FilesState)
    → Gives old new main source_most source → IsRefusal e answer → DecidedBy bytes source {T = T} (Err e)
    → StopsReading (IsTurnedDown build_limits main) main answer old new
compiling_stops main source bytes why.TooLong answer old new gives is by = absurd is
compiling_stops main source bytes (why.Refused code at) answer old new gives is by =
    subst (λ a. StopsReading (IsTurnedDown build_limits main) main a old new) (sym is)
    (inr (source, gives, record { bytes = bytes; code = by.code main; refused = by.refused main }))
compiling_stops main source bytes why.Memory answer old new gives is by = inl (is, wants_behind main source source_most old new gives)

-- a typed program that this command doesn't take
pub limits_stop : {T : Type 0} (of : T → Unit {0}) (refuses : (source : List ℕ) → Code → Place → Type 0) (limits : Limits) (main source : List ℕ)
    (program : Program) (old new : FilesState) → Gives old new main source_most source → Reads (alone main source) program → (s : Stop) (answer : Answer)
    → ((code : Code) (at : Place) → s ≡ stop.Refused code at → IsNoProgram limits main source code at → refuses source code at)
    → Answers of (limits program) (Err s) → IsStopped s answer → StopsReading refuses main answer old new
limits_stop of refuses limits main source program old new gives reads (stop.Refused code at) answer so said is =
    subst (λ a. StopsReading refuses main a old new) (sym is)
    (inr (source, gives, so code at refl (record { within = gives.within; refused = by_limits program reads said })))
limits_stop of refuses limits main source program old new gives reads stop.Memory answer so said is =
    inl (is, wants_behind main source source_most old new gives)

-- ---- runs

abbrev has_run : (steps : ℕ) (image : Image) (e : RunEnd) (last : State) (before after : Streams) → Ran steps before (first_state image) e last after
    → HasRun steps image (answer_of steps e) before after
has_run steps image e last before after ran = record { end = e; last = last; ran = ran; answers = refl }

module _ (sees : Sees) (shows : Shows) (main source : List ℕ) (heap steps : ℕ) (file : File) (old new : FilesState) (before after : Streams)
    (gives : Gives old new main source_most source) (compiled : Compiled (alone main source) heap file) where
  programs : (e : RunEnd) (last : State) → Ran steps before (first_state file.image) e last after
      → Does (meaning compiled.program file.plan heap) (answer_of steps e) before after
      → RunsProgram main heap steps (answer_of steps e) (world old before) (world new after)
  programs e last ran does =
      record { source = source; gives = gives; file = file; compiled = compiled; ran = has_run steps file.image e last before after ran; means = does }

  run_ended : (e : RunEnd) (last : State) → Ran steps before (first_state file.image) e last after
      → Runs main heap steps (answer_of steps e) (world old before) (world new after)
  run_ended (end.Exited status) last ran =
      programs (end.Exited status) last ran (exited live_objects file.image
      (meaning compiled.program file.plan heap) compiled.agrees steps before after sees status last ran)
  run_ended end.Spent last ran =
      programs end.Spent last ran (spent live_objects file.image (meaning compiled.program file.plan heap) compiled.agrees steps before after sees last ran)
  run_ended (end.Fault kind pc word) last ran =
      absurd (no_fault live_objects file.image (meaning compiled.program file.plan heap) compiled.agrees steps before after sees kind pc word last ran)
  run_ended end.ReadFault last ran =
      inr (programs end.ReadFault last ran (read_failed live_objects file.image
      (meaning compiled.program file.plan heap) compiled.agrees steps before after shows last ran))
  run_ended (end.WriteFault Out) last ran =
      programs (end.WriteFault Out) last ran (out_failed live_objects file.image
      (meaning compiled.program file.plan heap) compiled.agrees steps before after shows last ran)
  run_ended (end.WriteFault Err) last ran =
      programs (end.WriteFault Err) last ran (err_failed live_objects file.image
      (meaning compiled.program file.plan heap) compiled.agrees steps before after shows last ran)

  pub run_told : (answer : Answer) → RunsOrWants steps file.image answer before after → Runs main heap steps answer (world old before) (world new after)
  run_told answer (inl wanting) =
      subst (λ a. Runs main heap steps a (world old before) (world new after)) (sym wanting.0) (wants_behind main source source_most old new gives, wanting.1)
  run_told answer (inr ran) = subst (λ a. Runs main heap steps a (world old before) (world new after)) (sym ran.answers) (run_ended ran.end ran.last ran.ran)

-- ---- meanings

module _ (main source : List ℕ) (heap steps : ℕ) (program : Program) (old new : FilesState) (before after : Streams)
    (gives : Gives old new main source_most source) (reads : Reads (alone main source) program) (taken : tree_limits program ≡ Ok tt) where
  abbrev Ends : MeanEnd → Type 0
  Ends e = CameTo (λ (input : List ℕ). meaning program (plain_plan program) heap input steps) before.input e after.input
      (told before.out after.out) (told before.err after.err)

  means_so : (e : MeanEnd) → IsEnd e → Ends e → MeansProgram main heap steps (meant steps e) (world old before) (world new after)
  means_so e is means = record {
    source = source;
    gives = gives;
    program = program;
    reads = reads;
    taken = taken;
    end = e;
    came = means;
    ends = is;
    answers = refl;
  }

  meaning_ended : (e : MeanEnd) → IsEnd e → Ends e → RunsMeaning main heap steps (meant steps e) (world old before) (world new after)
  meaning_ended (mean_end.Ended status) is means = means_so (mean_end.Ended status) is means
  meaning_ended mean_end.Going is means = means_so mean_end.Going is means
  meaning_ended mean_end.Wrong is means = absurd is
  meaning_ended mean_end.Faulted is means = absurd is
  meaning_ended mean_end.ReadFault is means = inr (means_so mean_end.ReadFault is means)
  meaning_ended (mean_end.WriteFault stream) is means = means_so (mean_end.WriteFault stream) is means
  meaning_ended mean_end.Memory is means = inr (means_so mean_end.Memory is means)

pub mean_told : (main source : List ℕ) (heap steps : ℕ) (program : Program) (old new : FilesState) (before after : Streams)
    → Gives old new main source_most source → Reads (alone main source) program → tree_limits program ≡ Ok tt
    → (answer : Answer) → IsMeant program heap steps answer before after → RunsMeaning main heap steps answer (world old before) (world new after)
mean_told main source heap steps program old new before after gives reads taken answer is =
    subst (λ a. RunsMeaning main heap steps a (world old before) (world new after)) (sym is.answers)
    (meaning_ended main source heap steps program old new before after gives reads taken is.end is.ends is.came)

-- ---- lines

pub quiet_so : (answer : Answer) (P Q : Type 0) → (P → Q) → OnQuiet answer P → OnQuiet answer Q
quiet_so Done P Q so quiet = so quiet
quiet_so (Ended status) P Q so quiet = so quiet
quiet_so (WriteFault stream) P Q so quiet = so quiet
quiet_so Usage P Q so quiet = tt
quiet_so (NoFile name) P Q so quiet = tt
quiet_so (TooLong name) P Q so quiet = tt
quiet_so (Refused code at) P Q so quiet = tt
quiet_so (BadElf fault) P Q so quiet = tt
quiet_so (MachineFault kind pc word) P Q so quiet = tt
quiet_so (StepsSpent n) P Q so quiet = tt
quiet_so ReadFault P Q so quiet = tt
quiet_so StoreFault P Q so quiet = tt
quiet_so Memory P Q so quiet = tt
