use Rattle.command_words.proofs.Choosing.{mean_so}
use Rattle.command_words.proofs.arguments.Arguments.as_mean.Goals as goal

pub returns-in-One : goal.returns-in-One
returns-in-One c =
    mean_so c.args.self.places c.args.self.heap c.args.self.steps c.in-One.main c.unwrap_or.result c.unwrap_or-in-One.result
    c.in-One.is c.unwrap_or.ensures c.unwrap_or-in-One.ensures
