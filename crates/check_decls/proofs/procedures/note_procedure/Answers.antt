use Rattle.std.proofs.Common.{subst, sym}
use Rattle.std.specs.Prelude.{Bool, OnOk}
use Rattle.check_decls.specs.ViewBodies.{Noted}
use Rattle.check_decls.proofs.procedures.note_procedure.Goals as goal

pub returns-then-headed-clause-noted : goal.returns-then-headed-clause-noted
returns-then-headed-clause-noted c =
    let k = c.args.headed.now in
    subst (λ (b : Bool). OnOk c.add_procedure.result (Noted b c.args.draft.now c.add_procedure.new.draft k.number c.args.proc k.borrowed))
    (sym c.if-headed.true) c.add_procedure.ensures.added

pub returns-else-headed-clause-noted : goal.returns-else-headed-clause-noted
returns-else-headed-clause-noted c =
    let k = c.args.headed.now in
    subst (λ (b : Bool). OnOk c.complete_procedure.result (Noted b c.args.draft.now c.complete_procedure.new.draft k.number c.args.proc k.borrowed))
    (sym c.if-headed.false) c.complete_procedure.ensures.completed

pub complete_procedure-requires-clause-there : goal.complete_procedure-requires-clause-there
complete_procedure-requires-clause-there c = (c.requires.there c.if-headed.false).0

pub complete_procedure-requires-clause-noted : goal.complete_procedure-requires-clause-noted
complete_procedure-requires-clause-noted c = (c.requires.there c.if-headed.false).1
