use Rattle.std.proofs.Common.{List, [], length, sym, subst}
use Rattle.std.proofs.lemmas.Result.{err_from_is_err_and}
use Rattle.nim_tree.specs.Statements.{head_of, statements_of}
use Rattle.decl_rules.specs.State.{stated_as}
use Rattle.decl_heads.specs.ViewHeads.{headed_of, SignatureWithin}
use Rattle.decl_parts.proofs.ForCallers.{further_as, further_same}
use Rattle.check_decls.specs.View.{known_in}
use Rattle.check_decls.specs.ViewBodies.{bodied_as, proclaim_rule}
use Rattle.check_decls.proofs.Proclaiming.{proclaim_goes, proclaim_stops, passing_forgets}
use Rattle.nim_types.specs.declared.types.TypeDef.{TypeDef}
use Rattle.check_decls.proofs.procedures.proclaim.Goals as goal

pub returns-in-Ok-clause-passing : goal.returns-in-Ok-clause-passing
returns-in-Ok-clause-passing c =
    proclaim_goes c.args.draft.now c.note_body.new.draft c.declare_head.new.state c.body_of.new.state c.args.at c.args.head.now c.args.signature
    c.args.headed.now
    (statements_of c.args.trees.now) c.in-Ok.body c.note_body.result c.requires.sound c.requires.numbered c.requires.name c.requires.fits
    c.in_ok-declare_head.ensures.declared c.in-Ok.ensures.stated c.in-Ok.ensures.there c.note_body.ensures.noted c.note_body.ensures.state
    c.note_body.ensures.memory

pub returns-in-Err-clause-passing : goal.returns-in-Err-clause-passing
returns-in-Err-clause-passing c =
    proclaim_stops c.args.draft.now c.declare_head.new.state c.body_of.new.state c.args.at c.args.head.now c.args.signature c.args.headed.now
    (statements_of c.args.trees.now) (λ ts b body. bodied_as ts b c.body_of.new.state body) c.in-Err.stop c.requires.name
    c.in_ok-declare_head.ensures.declared c.in-Err.ensures.stated

pub returns-in_err-declare_head-clause-passing : goal.returns-in_err-declare_head-clause-passing
returns-in_err-declare_head-clause-passing c =
    let p = err_from_is_err_and c.from_residual.result c.from_residual.ensures.1 in
    rw (p.1, p.2)
    (passing_forgets (λ ts. stated_as [] (known_in ts (record c.args.draft.now { state = c.declare_head.new.state })))
    (λ ts st. proclaim_rule st c.args.at (head_of c.args.head.now) (headed_of ts c.args.signature c.args.headed.now) (statements_of c.args.trees.now))
    _ (further_as c.declare_head.ensures.types (further_same c.declare_head.new.state)) c.in_err-declare_head.ensures.memory)

pub declare_head-requires-clause-ready : goal.declare_head-requires-clause-ready
declare_head-requires-clause-ready c = c.requires.sound.ready

pub body_of-requires-clause-ready : goal.body_of-requires-clause-ready
body_of-requires-clause-ready c = c.in_ok-declare_head.ensures.declared.stands.ready

pub body_of-requires-clause-within : goal.body_of-requires-clause-within
body_of-requires-clause-within c =
    subst (λ (l : List TypeDef). SignatureWithin (length l) c.args.signature) (sym c.declare_head.ensures.types) c.requires.within

pub note_body-requires : goal.note_body-requires
note_body-requires c = record { there = c.requires.there }
