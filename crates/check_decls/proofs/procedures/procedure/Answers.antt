use Rattle.std.proofs.Common.{sym, ap, subst}
use Rattle.nim_tree.specs.Statements.{statements_of}
use Rattle.decl_heads.specs.ViewHeads.{signature_of, AreNumbered}
use Rattle.decl_parts.specs.declared.state.State.{State as RustState}
use Rattle.check_decls.proofs.Drafts.{sound_state}
use Rattle.check_decls.proofs.Proclaiming.{signature_goes, signature_stops}
use Rattle.check_decls.proofs.Reaching.{reached_grown}
use Rattle.check_decls.proofs.procedures.procedure.Goals as goal

pub returns-in-Ok-clause-passing : goal.returns-in-Ok-clause-passing
returns-in-Ok-clause-passing c =
    signature_goes c.args.draft.now c.procedure_by.new.draft c.head_signature.new.state c.args.at c.args.head.now c.in-Ok.signature
    (statements_of c.args.trees.now) c.procedure_by.result c.in-Ok.ensures.grown c.in-Ok.ensures.same c.in-Ok.ensures.said c.procedure_by.ensures.passing

pub returns-in-Err-clause-passing : goal.returns-in-Err-clause-passing
returns-in-Err-clause-passing c =
    signature_stops c.args.draft.now c.head_signature.new.state c.args.at c.args.head.now (statements_of c.args.trees.now) (λ ts b s. signature_of ts s)
    c.in-Err.stop c.in-Err.ensures.said

pub procedure_by-requires-clause-sound : goal.procedure_by-requires-clause-sound
procedure_by-requires-clause-sound c =
    let j = c.in-Ok.ensures.said in
    sound_state c.args.draft.now c.head_signature.new.state c.requires.sound j.further j.stands.ready

pub procedure_by-requires-clause-reached : goal.procedure_by-requires-clause-reached
procedure_by-requires-clause-reached c =
    let j = c.in-Ok.ensures in
    reached_grown c.args.draft.now c.head_signature.new.state j.grown j.same j.said.further c.requires.reached

pub procedure_by-requires-clause-numbered : goal.procedure_by-requires-clause-numbered
procedure_by-requires-clause-numbered c =
    subst (λ n. AreNumbered n c.in-Ok.signature.params) (sym (ap (λ (s : RustState). s.place) c.in-Ok.ensures.same)) c.in-Ok.ensures.numbered

pub head_signature-requires : goal.head_signature-requires
head_signature-requires c = record { ready = c.requires.sound.ready }
