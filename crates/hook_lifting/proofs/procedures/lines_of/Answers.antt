use Rattle.std.proofs.Common.{length, arith}
use Rattle.nim_types.proofs.ForCallers.{within_more}
use Rattle.hook_lifting.proofs.procedures.lines_of.Goals as goal

pub put_entry-requires-clause-within : goal.put_entry-requires-clause-within
put_entry-requires-clause-within c =
    within_more c.args.ty (length c.args.types.now) c.get-entry.result.now (omega (arith, c.requires.inside)) c.get-entry.ensures.within
