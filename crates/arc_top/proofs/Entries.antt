-- What an answer says of the entry that the command read.
use Rattle.std.proofs.Common.{◌≡◌, ℕ, ◌<◌, List, ◌++◌, length, Option, Some, None, ◌⊎◌, inl, inr, refl, sym, subst, arith}
use Rattle.arc_base.specs.Outside.{Held, Rose, Writes}
use Rattle.arc_base.specs.declared.outside.Stream.TheVariants.{Out, Err}
use Rattle.arc_base.specs.declared.place.Place.{Place}
use Rattle.arc_base.specs.declared.place.Code.{Code}
use Rattle.command_words.specs.Command.{Command, check, build, run, mean, exec, file_of}
use Rattle.word_runner.specs.declared.mean.MeanEnd.{MeanEnd}
use Rattle.word_runner.specs.declared.mean.MeanEnd.TheVariants as mean_end
use Rattle.word_runner.specs.Mean.{Failed}
use Rattle.core_compiler.specs.Mean.{Means}
use Rattle.arc_top.proofs.Meaning.{some_rest}
use Rattle.nim_meaning.specs.Meaning.{meaning}
use Rattle.plain_plan.specs.Plain.{plain_plan}
use Rattle.elf32.specs.Elf.{File}
use Rattle.program_limits.specs.Limits.{tree_limits}
use Rattle.source_compiler.specs.Limits.{build_limits, check_limits}
use Rattle.core_compiler.specs.Compile.{HasCode}
use Rattle.source_compiler.specs.Source.{Module, alone}
use Rattle.source_compiler.specs.Compile.{Compiled, HaveCodeWhereWithin, IsProgram, IsNoProgram, source_most}
use Rattle.rv32_isa.specs.State.{State, first_state}
use Rattle.rv32_runner.specs.declared.runner.RunEnd.{RunEnd}
use Rattle.rv32_runner.specs.declared.runner.RunEnd.TheVariants as end
use Rattle.rv32_runner.specs.Streams.{Streams}
use Rattle.rv32_runner.specs.Runs.{Ran}
use Rattle.rv32_runner.specs.Told.{Causes}
use Rattle.arc_top.specs.declared.answer.Answer.{Answer}
use Rattle.arc_top.specs.declared.answer.Answer.TheVariants.{Done, Ended, Usage, NoFile, TooLong, Refused, BadElf, MachineFault, StepsSpent, ReadFault}
use Rattle.arc_top.specs.declared.answer.Answer.TheVariants.{WriteFault, StoreFault, Memory}
use Rattle.arc_top.specs.Loads.{FilesState, OnEntry, Gives}
use Rattle.arc_top.specs.Report.{report_of}
use Rattle.arc_top.specs.Runs.{HasRun, answer_of}
use Rattle.arc_top.specs.Top.{IsTurnedDown, Stops, World, RunsProgram, Runs, told as of_sink, meant, MeansProgram, RunsMeaning, RunsFile, Executes, Answered}
use Rattle.arc_top.specs.Top.{Carries}
use Rattle.arc_top.specs.Top.{before_line, modules_of, limits_of, MakesCode, file_most}
use Rattle.arc_top.specs.Due.{NothingFails, TellsEntry, WasAnswered, ReadsSource, IsCarriedOut, most_of, IsDue, lacks, long, refused, accepted, bad, executed}
use Rattle.arc_top.specs.Due.{wanting}

-- ---- counts

-- what rose before the line of the answer has risen after it
rose_later : (a b c : ℕ) → Rose a b → (c ≡ b) ⊎ Rose b c → Rose a c
rose_later a b c rose (inl same) = subst (Rose a) (sym same) rose
rose_later a b c rose (inr more) = omega (arith, rose, more)

later : (a b : Option (List ℕ)) (before now : ℕ) (bytes : List ℕ) → Writes a b before now bytes → (now ≡ before) ⊎ Rose before now
later a b before now bytes (inl whole) = inl whole.1
later a b before now bytes (inr front) = inr front.0

before_fine : (command : Command) (answer : Answer) (old new : World) (carries : Carries command answer old new) → NothingFails old new
    → NothingFails old (before_line new carries.err)
before_fine command answer old new carries fine = record {
  loads = fine.loads;
  stores = fine.stores;
  streams = record {
    input = fine.streams.input;
    out = fine.streams.out;
    err = λ rose. fine.streams.err
        (rose_later old.streams.err.faults carries.err.faults new.streams.err.faults rose
        (later carries.err.written new.streams.err.written carries.err.faults new.streams.err.faults (report_of (modules_of command) answer) carries.said));
  };
}

-- the count that an answer names
abbrev Named : Answer → Streams → Streams → Type 0
Named ReadFault old new = Rose old.input.faults new.input.faults
Named (WriteFault Out) old new = Rose old.out.faults new.out.faults
Named (WriteFault Err) old new = Rose old.err.faults new.err.faults
Named _ old new = Unit {0}

named_by : (steps : ℕ) (e : RunEnd) (old new : Streams) → Causes e old new → Named (answer_of steps e) old new
named_by steps (end.Exited status) old new causes = tt
named_by steps end.Spent old new causes = tt
named_by steps (end.Fault kind pc word) old new causes = tt
named_by steps end.ReadFault old new causes = causes.0
named_by steps (end.WriteFault Out) old new causes = causes.0
named_by steps (end.WriteFault Err) old new causes = causes.0

abbrev pub CausesLaw : Type 0
CausesLaw = (n : ℕ) (old : Streams) (s : State) (answer : RunEnd) (t : State) (new : Streams) → Ran n old s answer t new → Causes answer old new

named : CausesLaw → (steps : ℕ) (image : _) (answer : Answer) (old new : Streams) → HasRun steps image answer old new → Named answer old new
named causes steps image answer old new ran =
    subst (λ a. Named a old new) (sym ran.answers) (named_by steps ran.end old new (causes steps old (first_state image) ran.end ran.last new ran.ran))

-- running a meaning
named_by_meaning : (steps : ℕ) (e : MeanEnd) (seen : _) (old new : Streams) → Failed e old.input new.input
    → Means seen e (of_sink old.out new.out) (of_sink old.err new.err) → Named (meant steps e) old new
named_by_meaning steps (mean_end.Ended status) seen old new failed means = tt
named_by_meaning steps mean_end.Going seen old new failed means = tt
named_by_meaning steps mean_end.Wrong seen old new failed means = tt
named_by_meaning steps mean_end.Faulted seen old new failed means = tt
named_by_meaning steps mean_end.ReadFault seen old new failed means = failed
named_by_meaning steps (mean_end.WriteFault Out) seen old new failed means = means.0
named_by_meaning steps (mean_end.WriteFault Err) seen old new failed means = means.0
named_by_meaning steps mean_end.Memory seen old new failed means = tt

named_mean : (main : List ℕ) (heap steps : ℕ) (answer : Answer) (old new : World) → MeansProgram main heap steps answer old new
    → Named answer old.streams new.streams
named_mean main heap steps answer old new m =
    let rest = some_rest new.streams.input.left new.streams.input.ended in
    subst (λ a. Named a old.streams new.streams) (sym m.answers)
    (named_by_meaning steps m.end (meaning m.program (plain_plan m.program) heap (m.came.given ++ rest.0) steps) old.streams new.streams m.came.failed
    (m.came.means rest.0 rest.1))

-- ---- entries

-- by some number of bytes of code
abbrev pub IsDueBy : Command → Option (List ℕ) → Answer → Type 0
IsDueBy command entry answer = (code : ℕ) × IsDue command entry code answer

on_entry : (held : Option Held) (name : List ℕ) (entry : Option (List ℕ)) (P : Option (List ℕ) → Type 0) → TellsEntry held name entry
    → OnEntry held name P → P entry
on_entry None name entry P told h = absurd told
on_entry (Some held) name entry P told h = subst P told h

module _ (entry : Option (List ℕ)) (old new : FilesState) where
  given : (name : List ℕ) (most : ℕ) (bytes : List ℕ) → TellsEntry old.held name entry → Gives old new name most bytes → entry ≡ Some bytes
  given name most bytes told gives = on_entry old.held name entry (λ e. e ≡ Some bytes) told gives.told

  -- the command refuses a main module so, by its limits and its code
  abbrev Refuses : Command → ((source : List ℕ) → Code → Place → Type 0) → Type 0
  Refuses command refuses = (source : List ℕ) (why : Code) (at : Place) → refuses source why at →
      (bytes : ℕ) × MakesCode command source bytes × IsNoProgram (limits_of command bytes) (file_of command) source why at

  due_stop : (command : Command) (refuses : (source : List ℕ) → Code → Place → Type 0) → Refuses command refuses → ReadsSource command
      → most_of command ≡ source_most → TellsEntry old.held (file_of command) entry → (Rose old.load_faults new.load_faults → ⊥)
      → (answer : Answer) → Stops refuses (file_of command) answer old new → IsDueBy command entry answer
  due_stop command refuses so compiles most told fine Done stops = absurd stops
  due_stop command refuses so compiles most told fine (Ended status) stops = absurd stops
  due_stop command refuses so compiles most told fine Usage stops = absurd stops
  due_stop command refuses so compiles most told fine (NoFile name) stops =
      (0, subst (λ n. IsDue command entry 0 (NoFile n)) (sym stops.0) (lacks (on_entry old.held (file_of command) entry (λ e. e ≡ None) told stops.1.told)))
  due_stop command refuses so compiles most told fine (TooLong name) stops =
      let is = on_entry old.held (file_of command) entry (λ e. (bytes : List ℕ) × (e ≡ Some bytes) × (source_most < length bytes)) told stops.1.told in
      (0, subst (λ n. IsDue command entry 0 (TooLong n)) (sym stops.0) (long is.0 is.1 (subst (λ n. n < length is.0) (sym most) is.2)))
  due_stop command refuses so compiles most told fine (Refused why at) stops =
      let down = so stops.0 why at stops.2 in
      (down.0, refused stops.0 why at compiles (given (file_of command) source_most stops.0 told stops.1) down.1 down.2)
  due_stop command refuses so compiles most told fine (BadElf fault) stops = absurd stops
  due_stop command refuses so compiles most told fine (MachineFault kind pc word) stops = absurd stops
  due_stop command refuses so compiles most told fine (StepsSpent n) stops = absurd stops
  due_stop command refuses so compiles most told fine ReadFault stops = absurd (fine stops.loads)
  due_stop command refuses so compiles most told fine (WriteFault Out) stops = absurd stops
  due_stop command refuses so compiles most told fine (WriteFault Err) stops = absurd stops
  due_stop command refuses so compiles most told fine StoreFault stops = absurd stops
  due_stop command refuses so compiles most told fine Memory stops = absurd stops

compiled_code : (modules : List Module) (heap : ℕ) (file : File) (is : Compiled modules heap file)
    → HaveCodeWhereWithin modules (length file.image.code)
compiled_code modules heap file is = λ other reads small.
    subst (λ p. HasCode p (plain_plan p) (length file.image.code)) (sym (is.reads_only other reads))
    (subst (λ plan. HasCode is.program plan (length file.image.code)) is.plan is.code)

is_program : (main : List ℕ) (heap steps : ℕ) (answer : Answer) (old new : World) (ran : RunsProgram main heap steps answer old new)
    → IsProgram (build_limits (length ran.file.image.code)) main ran.source
is_program main heap steps answer old new ran =
    record { within = ran.gives.within; program = ran.compiled.program; reads = ran.compiled.reads; taken = ran.compiled.built }

module _ (causes : CausesLaw) (entry : Option (List ℕ)) (old new : World) (fine : NothingFails old new) where
  check_stopped : (main : List ℕ) → TellsEntry old.files.held main entry → (answer : Answer)
      → Stops (IsTurnedDown check_limits main) main answer old.files new.files → IsDueBy (check main) entry answer
  check_stopped main told answer stops = due_stop entry old.files new.files (check main) (IsTurnedDown check_limits main)
      (λ source why at down. (down.bytes, down.code, down.refused)) tt refl told fine.loads answer stops

  build_stopped : (main out : List ℕ) (heap : ℕ) → TellsEntry old.files.held main entry → (answer : Answer)
      → Stops (IsTurnedDown build_limits main) main answer old.files new.files → IsDueBy (build main out heap) entry answer
  build_stopped main out heap told answer stops = due_stop entry old.files new.files (build main out heap) (IsTurnedDown build_limits main)
      (λ source why at down. (down.bytes, down.code, down.refused)) tt refl told fine.loads answer stops

  run_stopped : (main : List ℕ) (heap steps : ℕ) → TellsEntry old.files.held main entry → (answer : Answer)
      → Stops (IsTurnedDown build_limits main) main answer old.files new.files → IsDueBy (run main heap steps) entry answer
  run_stopped main heap steps told answer stops = due_stop entry old.files new.files (run main heap steps) (IsTurnedDown build_limits main)
      (λ source why at down. (down.bytes, down.code, down.refused)) tt refl told fine.loads answer stops

  mean_stopped : (main : List ℕ) (heap steps : ℕ) → TellsEntry old.files.held main entry → (answer : Answer)
      → Stops (IsNoProgram tree_limits main) main answer old.files new.files → IsDueBy (mean main heap steps) entry answer
  mean_stopped main heap steps told answer stops = due_stop entry old.files new.files (mean main heap steps) (IsNoProgram tree_limits main)
      (λ source why at down. (0, tt, down)) tt refl told fine.loads answer stops

  due_program : (main : List ℕ) (heap steps : ℕ) (answer : Answer) → TellsEntry old.files.held main entry → IsCarriedOut (run main heap steps) answer
      → RunsProgram main heap steps answer old new → IsDueBy (run main heap steps) entry answer
  due_program main heap steps answer told done ran = (
    length ran.file.image.code,
    accepted ran.source answer tt (given entry old.files new.files main source_most ran.source told ran.gives)
        (compiled_code (alone main ran.source) heap ran.file ran.compiled) (is_program main heap steps answer old new ran) done,
  )

  due_meaning : (main : List ℕ) (heap steps : ℕ) (answer : Answer) → TellsEntry old.files.held main entry → IsCarriedOut (mean main heap steps) answer
      → MeansProgram main heap steps answer old new → IsDueBy (mean main heap steps) entry answer
  due_meaning main heap steps answer told done m = (
    0,
    accepted m.source answer tt (given entry old.files new.files main source_most m.source told m.gives) tt
        (record { within = m.gives.within; program = m.program; reads = m.reads; taken = m.taken }) done,
  )

  due_file : (name : List ℕ) (steps : ℕ) (answer : Answer) → TellsEntry old.files.held name entry → IsCarriedOut (exec name steps) answer
      → RunsFile name steps answer old new → IsDueBy (exec name steps) entry answer
  due_file name steps answer told done ran =
      (0, executed ran.bytes ran.file answer tt (given entry old.files new.files name file_most ran.bytes told ran.gives) ran.gives.within ran.elf done)

  due_read : (main : List ℕ) (heap steps : ℕ) → Runs main heap steps ReadFault old new → IsDueBy (run main heap steps) entry ReadFault
  due_read main heap steps (inl fails) = absurd (fine.loads fails.0.loads)
  due_read main heap steps (inr ran) = absurd (fine.streams.input (named causes steps ran.file.image ReadFault old.streams new.streams ran.ran))

  due_mean_read : (main : List ℕ) (heap steps : ℕ) → RunsMeaning main heap steps ReadFault old new → IsDueBy (mean main heap steps) entry ReadFault
  due_mean_read main heap steps (inl fails) = absurd (fine.loads fails.0.loads)
  due_mean_read main heap steps (inr ran) = absurd (fine.streams.input (named_mean main heap steps ReadFault old new ran))

  due_exec_read : (name : List ℕ) (steps : ℕ) → Executes name steps ReadFault old new → IsDueBy (exec name steps) entry ReadFault
  due_exec_read name steps (inl fails) = absurd (fine.loads fails.0.loads)
  due_exec_read name steps (inr ran) = absurd (fine.streams.input (named causes steps ran.file.image ReadFault old.streams new.streams ran.ran))

  pub due : (command : Command) (answer : Answer) → TellsEntry old.files.held (file_of command) entry → Answered command answer old new
      → IsDueBy command entry answer
  due (check main) Done told is =
      let found = given entry old.files new.files main source_most is.0.0 told is.0.1 in
      (is.0.2.bytes, accepted is.0.0 Done tt found is.0.2.code is.0.2.program tt)
  due (check main) (Ended status) told is = check_stopped main told (Ended status) is.0
  due (check main) Usage told is = check_stopped main told Usage is.0
  due (check main) (NoFile name) told is = check_stopped main told (NoFile name) is.0
  due (check main) (TooLong name) told is = check_stopped main told (TooLong name) is.0
  due (check main) (Refused code at) told is = check_stopped main told (Refused code at) is.0
  due (check main) (BadElf fault) told is = check_stopped main told (BadElf fault) is.0
  due (check main) (MachineFault kind pc word) told is = check_stopped main told (MachineFault kind pc word) is.0
  due (check main) (StepsSpent n) told is = check_stopped main told (StepsSpent n) is.0
  due (check main) ReadFault told is = check_stopped main told ReadFault is.0
  due (check main) (WriteFault Out) told is = check_stopped main told (WriteFault Out) is.0
  due (check main) (WriteFault Err) told is = check_stopped main told (WriteFault Err) is.0
  due (check main) StoreFault told is = check_stopped main told StoreFault is.0
  due (check main) Memory told is = (0, wanting)
  due (build main out heap) Done told is =
      let found = on_entry old.files.held main entry (λ e. e ≡ Some is.0.0.source) told is.0.0.told in
      let file = is.0.0.file in
      let code = compiled_code (alone main is.0.0.source) heap file.file file.compiled in
      (length file.file.image.code, accepted is.0.0.source Done tt found code is.0.0.program tt)
  due (build main out heap) (Ended status) told is = build_stopped main out heap told (Ended status) is.0
  due (build main out heap) Usage told is = build_stopped main out heap told Usage is.0
  due (build main out heap) (NoFile name) told is = build_stopped main out heap told (NoFile name) is.0
  due (build main out heap) (TooLong name) told is = build_stopped main out heap told (TooLong name) is.0
  due (build main out heap) (Refused code at) told is = build_stopped main out heap told (Refused code at) is.0
  due (build main out heap) (BadElf fault) told is = build_stopped main out heap told (BadElf fault) is.0
  due (build main out heap) (MachineFault kind pc word) told is = build_stopped main out heap told (MachineFault kind pc word) is.0
  due (build main out heap) (StepsSpent n) told is = build_stopped main out heap told (StepsSpent n) is.0
  due (build main out heap) ReadFault told is = build_stopped main out heap told ReadFault is.0
  due (build main out heap) (WriteFault Out) told is = build_stopped main out heap told (WriteFault Out) is.0
  due (build main out heap) (WriteFault Err) told is = build_stopped main out heap told (WriteFault Err) is.0
  due (build main out heap) StoreFault told is = absurd (fine.stores is.0.1)
  due (build main out heap) Memory told is = (0, wanting)
  due (run main heap steps) Done told is = run_stopped main heap steps told Done is.0
  due (run main heap steps) (Ended status) told is = due_program main heap steps (Ended status) told tt is
  due (run main heap steps) Usage told is = run_stopped main heap steps told Usage is.0
  due (run main heap steps) (NoFile name) told is = run_stopped main heap steps told (NoFile name) is.0
  due (run main heap steps) (TooLong name) told is = run_stopped main heap steps told (TooLong name) is.0
  due (run main heap steps) (Refused code at) told is = run_stopped main heap steps told (Refused code at) is.0
  due (run main heap steps) (BadElf fault) told is = run_stopped main heap steps told (BadElf fault) is.0
  due (run main heap steps) (MachineFault kind pc word) told is = run_stopped main heap steps told (MachineFault kind pc word) is.0
  due (run main heap steps) (StepsSpent n) told is = due_program main heap steps (StepsSpent n) told tt is
  due (run main heap steps) ReadFault told is = due_read main heap steps is
  due (run main heap steps) (WriteFault Out) told is = absurd
      (fine.streams.out (named causes steps is.file.image (WriteFault Out) old.streams new.streams is.ran))
  due (run main heap steps) (WriteFault Err) told is = absurd
      (fine.streams.err (named causes steps is.file.image (WriteFault Err) old.streams new.streams is.ran))
  due (run main heap steps) StoreFault told is = run_stopped main heap steps told StoreFault is.0
  due (run main heap steps) Memory told is = (0, wanting)
  due (mean main heap steps) Done told is = mean_stopped main heap steps told Done is.0
  due (mean main heap steps) (Ended status) told is = due_meaning main heap steps (Ended status) told tt is
  due (mean main heap steps) Usage told is = mean_stopped main heap steps told Usage is.0
  due (mean main heap steps) (NoFile name) told is = mean_stopped main heap steps told (NoFile name) is.0
  due (mean main heap steps) (TooLong name) told is = mean_stopped main heap steps told (TooLong name) is.0
  due (mean main heap steps) (Refused code at) told is =
      mean_stopped main heap steps told (Refused code at) is.0
  due (mean main heap steps) (BadElf fault) told is = mean_stopped main heap steps told (BadElf fault) is.0
  due (mean main heap steps) (MachineFault kind pc word) told is =
      mean_stopped main heap steps told (MachineFault kind pc word) is.0
  due (mean main heap steps) (StepsSpent n) told is = due_meaning main heap steps (StepsSpent n) told tt is
  due (mean main heap steps) ReadFault told is = due_mean_read main heap steps is
  due (mean main heap steps) (WriteFault Out) told is = absurd (fine.streams.out (named_mean main heap steps (WriteFault Out) old new is))
  due (mean main heap steps) (WriteFault Err) told is = absurd (fine.streams.err (named_mean main heap steps (WriteFault Err) old new is))
  due (mean main heap steps) StoreFault told is = mean_stopped main heap steps told StoreFault is.0
  due (mean main heap steps) Memory told is = (0, wanting)
  due (exec name steps) Done told is = absurd is
  due (exec name steps) (Ended status) told is = due_file name steps (Ended status) told tt is
  due (exec name steps) Usage told is = absurd is
  due (exec name steps) (NoFile lacking) told is =
      (0, subst (λ n. IsDue (exec name steps) entry 0 (NoFile n)) (sym is.0) (lacks (on_entry old.files.held name entry (λ e. e ≡ None) told is.1.0.told)))
  due (exec name steps) (TooLong far) told is =
      let long_is = on_entry old.files.held name entry (λ e. (bytes : List ℕ) × (e ≡ Some bytes) × (file_most < length bytes)) told is.1.0.told in
      (0, subst (λ n. IsDue (exec name steps) entry 0 (TooLong n)) (sym is.0) (long long_is.0 long_is.1 long_is.2))
  due (exec name steps) (Refused code at) told is = absurd is
  due (exec name steps) (BadElf fault) told is =
      (0, bad is.0.0 fault tt (given entry old.files new.files name file_most is.0.0 told is.0.1) is.0.1.within is.0.2)
  due (exec name steps) (MachineFault kind pc word) told is = due_file name steps (MachineFault kind pc word) told tt is
  due (exec name steps) (StepsSpent n) told is = due_file name steps (StepsSpent n) told tt is
  due (exec name steps) ReadFault told is = due_exec_read name steps is
  due (exec name steps) (WriteFault Out) told is = absurd (fine.streams.out (named causes steps is.file.image (WriteFault Out) old.streams new.streams is.ran))
  due (exec name steps) (WriteFault Err) told is = absurd (fine.streams.err (named causes steps is.file.image (WriteFault Err) old.streams new.streams is.ran))
  due (exec name steps) StoreFault told is = absurd is
  due (exec name steps) Memory told is = (0, wanting)

pub answer_due : CausesLaw → (command : Command) (entry : Option (List ℕ)) (answer : Answer) → WasAnswered command entry answer
    → IsDueBy command entry answer
answer_due causes command entry answer was =
    due causes entry was.old (before_line was.new was.carries.err)
    (before_fine command answer was.old was.new was.carries was.fine) command answer was.told was.carries.answered
