use Rattle.expr_parts.proofs.TypeNumbers.{interned_under}
use Rattle.expr_parts.proofs.kinds.is_same.Goals as goal

pub returns : goal.returns
returns c = λ ts facts u. interned_under c.args.a c.args.b u c.requires.a c.requires.b
