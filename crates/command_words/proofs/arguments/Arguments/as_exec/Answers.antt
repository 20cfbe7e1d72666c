use Rattle.command_words.proofs.Choosing.{exec_so}
use Rattle.command_words.proofs.arguments.Arguments.as_exec.Goals as goal

pub returns-in-One-None : goal.returns-in-One-None
returns-in-One-None c =
    exec_so c.args.self.places c.args.self.heap c.args.self.steps c.in-One-None.file c.unwrap_or.result
    c.in-One-None.is-0 c.in-One-None.is-1 c.unwrap_or.ensures
