use Rattle.std.proofs.Common.{subst}
use Rattle.std.specs.Prelude.{OnOk}
use Rattle.nim_program.specs.declared.program.Proc.{Proc}
use Rattle.check_decls.specs.ViewBodies.{Noted}
use Rattle.check_decls.proofs.procedures.note_body.Goals as goal

pub returns-clause-noted : goal.returns-clause-noted
returns-clause-noted c =
    let k = c.args.headed.now in
    subst (λ (p : Proc). OnOk c.note_procedure.result (Noted k.is_new c.args.draft.now c.note_procedure.new.draft k.number p k.borrowed))
    c.in_ok-proc.ensures.proc c.note_procedure.ensures.noted

pub note_procedure-requires : goal.note_procedure-requires
note_procedure-requires c = record { there = c.requires.there }
