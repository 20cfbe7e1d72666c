use Rattle.std.proofs.Common.{refl}
use Rattle.check_decls.proofs.draft.complete_procedure.Goals as goal

pub returns-clause-completed : goal.returns-clause-completed
returns-clause-completed c = record {
  there = c.requires.there;
  noted = c.requires.noted;
  procs = refl;
  completed = refl;
  text = c.in_ok-push.ensures.ok;
  start = refl;
}
