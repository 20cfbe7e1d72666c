use Rattle.command_words.proofs.Choosing.{check_so}
use Rattle.command_words.proofs.arguments.Arguments.as_check.Goals as goal

pub returns-in-One-None-None : goal.returns-in-One-None-None
returns-in-One-None-None c =
    check_so c.args.self.places c.args.self.heap c.args.self.steps c.in-One-None-None.main
    c.in-One-None-None.is-0 c.in-One-None-None.is-1 c.in-One-None-None.is-2
