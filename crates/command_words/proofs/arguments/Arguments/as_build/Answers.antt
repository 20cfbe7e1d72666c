use Rattle.command_words.proofs.Choosing.{build_so}
use Rattle.command_words.proofs.arguments.Arguments.as_build.Goals as goal

pub returns-in-Two-None : goal.returns-in-Two-None
returns-in-Two-None c =
    build_so c.args.self.places c.args.self.heap c.args.self.steps c.in-Two-None.main c.in-Two-None.out c.unwrap_or.result
    c.in-Two-None.is-0 c.in-Two-None.is-1 c.unwrap_or.ensures
