-- Which answers remain where a source is a program, or bytes are a file, and where the machine stands.
use Rattle.std.proofs.Common.{◌≡◌, ℕ, ◌<◌, ◌≤◌, List, [], ◌++◌, length, Some, None, refl, sym, ap, subst, ◌∙◌, arith}
use Rattle.arc_base.specs.declared.outside.Stream.TheVariants.{Out, Err}
use Rattle.arc_base.specs.declared.place.Place.{Place}
use Rattle.arc_base.specs.declared.place.Code.{Code}
use Rattle.elf32.specs.declared.file.ElfFault.{ElfFault}
use Rattle.elf32.specs.Elf.{File, Elf}
use Rattle.elf32.specs.Faults.{HasFault}
use Rattle.command_words.specs.Command.{Command, check, build, run, mean, exec, file_of}
use Rattle.source_compiler.specs.Limits.{Limits}
use Rattle.source_compiler.specs.Compile.{IsProgram, IsNoProgram, source_most}
use Rattle.rv32_isa.specs.declared.image.HookAt.{HookAt}
use Rattle.rv32_isa.specs.Image.{Image}
use Rattle.rv32_isa.specs.State.{State, first_state}
use Rattle.rv32_isa.specs.Machine.{Standing, start, standing, shown_by}
use Rattle.rv32_runner.specs.declared.runner.RunEnd.{RunEnd}
use Rattle.rv32_runner.specs.declared.runner.RunEnd.TheVariants as end
use Rattle.rv32_runner.specs.Streams.{Streams, MayGive, Got, bytes_on}
use Rattle.rv32_runner.specs.Runs.{Ran, on}
use Rattle.rv32_runner.specs.Told.{IsOfMachine, Tells, Told}
use Rattle.arc_top.specs.declared.answer.Answer.{Answer}
use Rattle.arc_top.specs.declared.answer.Answer.TheVariants.{Done, Ended, Usage, NoFile, TooLong, Refused, BadElf, MachineFault, StepsSpent, ReadFault}
use Rattle.arc_top.specs.declared.answer.Answer.TheVariants.{WriteFault, StoreFault, Memory}
use Rattle.arc_top.specs.Runs.{HasRun, answer_of}
use Rattle.arc_top.specs.Top.{limits_of, file_most}
use Rattle.arc_top.specs.Due.{NoStreamFails, ReadsSource, Executes, most_of, IsCarriedOut, IsDue, lacks, long, refused, accepted, bad, executed, wanting}
use Rattle.arc_top.specs.Due.{IsComplete, answer_at, IsAnswerAt}
use Rattle.arc_top.proofs.Meaning.{some_rest}
use Rattle.arc_top.proofs.Entries.{CausesLaw}

-- ---- commands

never_both : (command : Command) → ReadsSource command → Executes command → ⊥
never_both (check main) reads executes = absurd executes
never_both (build main out heap) reads executes = absurd executes
never_both (run main heap steps) reads executes = absurd executes
never_both (mean main heap steps) reads executes = absurd executes
never_both (exec name steps) reads executes = absurd reads

most_is : (command : Command) → ReadsSource command → most_of command ≡ source_most
most_is (check main) reads = refl
most_is (build main out heap) reads = refl
most_is (run main heap steps) reads = refl
most_is (mean main heap steps) reads = refl
most_is (exec name steps) reads = absurd reads

carried : (command : Command) (answer : Answer) → IsCarriedOut command answer → IsComplete command answer
carried command Done done = done
carried command (Ended status) done = done
carried command Usage done = done
carried command (NoFile name) done = done
carried command (TooLong name) done = done
carried command (Refused code at) done = done
carried command (BadElf fault) done = done
carried command (MachineFault kind pc word) done = done
carried command (StepsSpent n) done = done
carried command ReadFault done = done
carried command (WriteFault stream) done = done
carried command StoreFault done = done
carried command Memory done = tt

one_entry : (xs ys : List ℕ) → Some xs ≡ Some ys → xs ≡ ys
one_entry xs ys e = cc

no_entry : (xs : List ℕ) → Some xs ≡ None → ⊥
no_entry xs e = cc

-- ---- programs and files

abbrev EitherLaw : Type 0
EitherLaw = (limits : Limits) (name source : List ℕ) (c : Code) (at : Place) → IsProgram limits name source → IsNoProgram limits name source c at → ⊥

pub program_due : EitherLaw → (command : Command) (source : List ℕ) (code : ℕ) (answer : Answer) → ReadsSource command
    → IsDue command (Some source) code answer → IsProgram (limits_of command code) (file_of command) source → IsComplete command answer
program_due either command source code _ c (lacks e) is = absurd (no_entry source e)
program_due either command source code _ c (long bytes e far) is =
    absurd (omega (arith, is.within, subst (λ n. n < length bytes) (most_is command c) far, ap length (one_entry source bytes e)))
program_due either command source code _ c (refused other why at d e code_is refusal) is =
    absurd (either (limits_of command code) (file_of command) source why at is
    (subst (λ text. IsNoProgram (limits_of command code) (file_of command) text why at) (sym (one_entry source other e)) refusal))
program_due either command source code _ c (accepted other answer d e code_is p done) is = carried command answer done
program_due either command source code _ c (bad bytes fault d e within has) is = absurd (never_both command c d)
program_due either command source code _ c (executed bytes file answer d e within elf done) is = absurd (never_both command c d)
program_due either command source code _ c wanting is = tt

abbrev ApartLaw : Type 0
ApartLaw = (bytes : List ℕ) (file : File) (fault : ElfFault) → Elf bytes file → HasFault bytes fault → ⊥

pub file_due : ApartLaw → (name bytes : List ℕ) (file : File) (steps code : ℕ) (answer : Answer) → length bytes ≤ file_most → Elf bytes file
    → IsDue (exec name steps) (Some bytes) code answer
    → IsComplete (exec name steps) answer
file_due apart name bytes file steps code _ within elf (lacks e) = absurd (no_entry bytes e)
file_due apart name bytes file steps code _ within elf (long other e far) = absurd (omega (arith, within, far, ap length (one_entry bytes other e)))
file_due apart name bytes file steps code _ within elf (refused other why at d e code_is refusal) = absurd d
file_due apart name bytes file steps code _ within elf (accepted other answer d e code_is p done) = absurd d
file_due apart name bytes file steps code _ within elf (bad other fault d e short has) =
    absurd (apart bytes file fault elf (subst (λ b. HasFault b fault) (sym (one_entry bytes other e)) has))
file_due apart name bytes file steps code _ within elf (executed other f answer d e short elf2 done) = carried (exec name steps) answer done
file_due apart name bytes file steps code _ within elf wanting = tt

-- ---- machines

abbrev ToldLaw : Type 0
ToldLaw =
    (hooks : List HookAt) (n : ℕ) (old : Streams) (s : State) (answer : RunEnd) (t : State) (new : Streams)
    → Ran n old s answer t new → IsOfMachine answer → (rest : List ℕ) → MayGive new.input.left new.input.ended rest → Told hooks n old s answer t new rest

-- the answer, and what was shown, where the machine stands as was told
stood : (steps : ℕ) (e : RunEnd) (t : State) (rest : List ℕ) (shown : List _) (x : Standing) → Tells e t rest shown x
    → (answer_of steps e ≡ answer_at steps x) × (shown ≡ shown_by x)
stood steps (end.Exited status) t rest shown x tells = (sym (ap (answer_at steps) tells), sym (ap shown_by tells))
stood steps end.Spent t rest shown x tells = (sym (ap (answer_at steps) tells), sym (ap shown_by tells))
stood steps (end.Fault kind pc word) t rest shown x tells = (sym (ap (answer_at steps) tells), sym (ap shown_by tells))
stood steps end.ReadFault t rest shown x tells = absurd tells
stood steps (end.WriteFault stream) t rest shown x tells = absurd tells

of_machine : (e : RunEnd) (n : ℕ) (old new : Streams) (s t : State) → CausesLaw → NoStreamFails old new → Ran n old s e t new → IsOfMachine e
of_machine (end.Exited status) n old new s t causes fine ran = tt
of_machine end.Spent n old new s t causes fine ran = tt
of_machine (end.Fault kind pc word) n old new s t causes fine ran = tt
of_machine end.ReadFault n old new s t causes fine ran = absurd (fine.input (causes n old s end.ReadFault t new ran).0)
of_machine (end.WriteFault Out) n old new s t causes fine ran = absurd (fine.out (causes n old s (end.WriteFault Out) t new ran).0)
of_machine (end.WriteFault Err) n old new s t causes fine ran = absurd (fine.err (causes n old s (end.WriteFault Err) t new ran).0)

pub stands : ToldLaw → CausesLaw → (steps : ℕ) (image : Image) (answer : Answer) (old new : Streams) (input : List ℕ)
    → HasRun steps image answer old new → NoStreamFails old new
    → old.input.left ≡ Some input → IsAnswerAt steps (standing image.hooks steps (start image input) []) answer old new
stands told causes steps image answer old new input ran fine left =
    let first = first_state image in
    let some = some_rest new.input.left new.input.ended in
    let own = of_machine ran.end steps old new first ran.last causes fine ran.ran in
    let t = told image.hooks steps old first ran.end ran.last new ran.ran own some.0 some.1 in
    let all : t.given ++ some.0 ≡ input = subst (λ l. MayGive l old.input.ended (t.given ++ some.0)) left t.input in
    let tells = subst (λ bytes. Tells ran.end ran.last some.0 t.shown (standing image.hooks steps (on first bytes) [])) all t.stands in
    let is = stood steps ran.end ran.last some.0 t.shown (standing image.hooks steps (start image input) []) tells in
    record {
      answers = ran.answers ∙ is.0;
      out = subst (λ events. Got old.out new.out (bytes_on Out events)) is.1 t.out;
      err = subst (λ events. Got old.err new.err (bytes_on Err events)) is.1 t.err;
    }
