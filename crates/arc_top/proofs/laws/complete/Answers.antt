use Rattle.std.proofs.Common.{Some}
use Rattle.command_words.specs.Command.{exec}
use Rattle.arc_top.proofs.Entries.{answer_due}
use Rattle.arc_top.proofs.Remaining.{program_due, file_due, stands}
use Rattle.arc_top.proofs.laws.complete.Goals as goal

pub returns : goal.returns
returns c =
    let due = answer_due c.runs.ensures.causes in
    record {
      due = due;
      programs = program_due c.one_answer.ensures.not_both;
      files = λ name bytes file steps answer within elf was.
          let by = due (exec name steps) (Some bytes) answer was in
          file_due c.one_file.ensures.apart name bytes file steps by.0 answer within elf by.1;
      stands = stands c.runs.ensures.told c.runs.ensures.causes;
    }
