use Rattle.std.proofs.Common.{sym, ap}
use Rattle.command_words.specs.Command.{file_of, command_of}
use Rattle.command_words.proofs.command.Command.file.Goals as goal

pub returns-in-Check : goal.returns-in-Check
returns-in-Check c = sym (ap (λ k. file_of (command_of k)) c.in-Check.is)

pub returns-in-Build : goal.returns-in-Build
returns-in-Build c = sym (ap (λ k. file_of (command_of k)) c.in-Build.is)

pub returns-in-Run : goal.returns-in-Run
returns-in-Run c = sym (ap (λ k. file_of (command_of k)) c.in-Run.is)

pub returns-in-Exec : goal.returns-in-Exec
returns-in-Exec c = sym (ap (λ k. file_of (command_of k)) c.in-Exec.is)

pub returns-in-Mean : goal.returns-in-Mean
returns-in-Mean c = sym (ap (λ k. file_of (command_of k)) c.in-Mean.is)
