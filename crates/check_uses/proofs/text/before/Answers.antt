use Rattle.std.proofs.Common.{subst}
use Rattle.check_uses.proofs.Answering.{Says, says_next, says_stop}
use Rattle.check_uses.proofs.text.before.Goals as goal

pub returns-in-Ok : goal.returns-in-Ok
returns-in-Ok c = λ a b h k. says_next a b tt c.args.later (subst (λ r. Says a r) c.in-Ok.is h) k

pub returns-in-Err : goal.returns-in-Err
returns-in-Err c = λ a b h k. says_stop a b c.in-Err.stop (subst (λ r. Says a r) c.in-Err.is h)
