use Rattle.flattening.proofs.Writing.{puts_two}
use Rattle.flattening.proofs.acts.put_call.Goals as goal

pub returns : goal.returns
returns c = puts_two (c.put_made.ensures _ c.call_line-made.ensures) c.put_back.ensures
