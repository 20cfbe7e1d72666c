use Rattle.std.proofs.Common.{◌≤◌, ◌+◌, ◌*◌, subst}
use Rattle.std.proofs.lemmas.Bool.{and_parts}
use Rattle.nim_meaning.specs.Meaning.{meaning}
use Rattle.nim_program.specs.Kinds.{are_declared}
use Rattle.program_limits.specs.Limits.{program_in}
use Rattle.word_runner.specs.Mean.{no_fresh}
use Rattle.core_compiler.specs.Compile.{live_objects}
use Rattle.core_compiler.proofs.AnyLive.{work_same}
use Rattle.core_compiler.proofs.Composing.{words_exact, words_within}
use Rattle.core_compiler.proofs.EnumMembers.{enums_may}
use Rattle.core_compiler.proofs.Shown.{came_to, ends, nothing_came}
use Rattle.core_compiler.proofs.meaning.mean_core.Goals as goal

pub words_of-requires-clause-may : goal.words_of-requires-clause-may
words_of-requires-clause-may g c = c.in-Ok.ensures.may

pub words_of-requires-clause-table : goal.words_of-requires-clause-table
words_of-requires-clause-table g c = c.count-types.ensures.table

pub words_of-requires-clause-enums : goal.words_of-requires-clause-enums
words_of-requires-clause-enums g c =
    let program = program_in c.args.program.now in
    enums_may c.args.program.now.types c.count-types.ensures.table
    (and_parts (are_declared program.facts program.types) _ c.requires.typed.typed).0 c.requires.named

pub run_words-requires : goal.run_words-requires
run_words-requires g c κs within =
    let program = program_in c.args.program.now in
    let words = c.in-Ok-words_of.words in (
      within.0,
      (
        within.1.0,
        (
          within.1.1,
          (
            c.in-Ok-words_of.ensures.can.formed,
            λ live input k. subst (λ w. w ≤ 256 * (12 * ((meaning program c.args.plan.now c.args.heap input c.args.n).work + 1) + 34))
                (work_same words no_fresh c.args.heap 0 input c.args.n k live_objects live)
                (words_within c.agreement.ensures.law c.agreement.ensures.pace program c.args.program.now.types c.args.plan.now c.in-Ok.flat words
                c.in-Ok.ensures c.in-Ok-words_of.ensures no_fresh c.args.heap 0 input c.requires.heap c.args.n k),
          ),
        ),
      ),
    )

pub returns-clause-came : goal.returns-clause-came
returns-clause-came g c =
    let program = program_in c.args.program.now in
    let words = c.in-Ok-words_of.words in
    came_to words c.args.heap c.args.n (λ bytes. meaning program c.args.plan.now c.args.heap bytes c.args.n) _ _ c.run_words.result _ _
    (λ input. words_exact c.agreement.ensures.law c.agreement.ensures.pace program c.args.program.now.types c.args.plan.now c.in-Ok.flat words
    c.in-Ok.ensures c.in-Ok-words_of.ensures no_fresh c.args.heap 0 input c.requires.heap c.args.n) (c.run_words.ensures live_objects)

pub returns-clause-ends : goal.returns-clause-ends
returns-clause-ends g c =
    let program = program_in c.args.program.now in
    let words = c.in-Ok-words_of.words in
    ends (λ bytes. meaning program c.args.plan.now c.args.heap bytes) (λ bytes. c.in-Ok.ensures.sound c.args.heap bytes) c.args.n _ _ c.run_words.result _ _
    (came_to words c.args.heap c.args.n (λ bytes. meaning program c.args.plan.now c.args.heap bytes c.args.n) _ _ c.run_words.result _ _
    (λ input. words_exact c.agreement.ensures.law c.agreement.ensures.pace program c.args.program.now.types c.args.plan.now c.in-Ok.flat words
    c.in-Ok.ensures c.in-Ok-words_of.ensures no_fresh c.args.heap 0 input c.requires.heap c.args.n) (c.run_words.ensures live_objects))

pub returns-in_default-clause-came : goal.returns-in_default-clause-came
returns-in_default-clause-came g c =
    nothing_came (λ bytes. meaning (program_in c.args.program.now) c.args.plan.now c.args.heap bytes c.args.n) _
    (g.O.Sink.written c.args.out.now) (g.E.Sink.written c.args.err.now) (g.O.Sink.faults c.args.out.now) (g.E.Sink.faults c.args.err.now)

pub returns-in_default-words_of-clause-came : goal.returns-in_default-words_of-clause-came
returns-in_default-words_of-clause-came g c =
    nothing_came (λ bytes. meaning (program_in c.args.program.now) c.args.plan.now c.args.heap bytes c.args.n) _
    (g.O.Sink.written c.args.out.now) (g.E.Sink.written c.args.err.now) (g.O.Sink.faults c.args.out.now) (g.E.Sink.faults c.args.err.now)
