use Rattle.std.proofs.lemmas.Result.{err_from_is_err_and}
use Rattle.std.specs.Prelude.{Option, None, Ok}
use Rattle.nim_program.specs.declared.program.Body.{Body as RustBody}
use Rattle.decl_rules.specs.Bodies.{without_body}
use Rattle.decl_parts.specs.View.{state_of}
use Rattle.decl_parts.proofs.ForCallers.{stated_forgets, further_as, further_same}
use Rattle.decl_heads.specs.ViewHeads.{headed_of}
use Rattle.check_decls.specs.ViewBodies.{bodied, bodied_as}
use Rattle.std.proofs.Common.{◌∙◌, ap, length}
use Rattle.check_decls.specs.ViewBodies.{place_behind}
use Rattle.check_decls.proofs.Scopes.{skipped}
use Rattle.check_decls.proofs.bodies.no_body.Goals as goal

pub returns-clause-stated : goal.returns-clause-stated
returns-clause-stated c =
    let old = c.args.state.now in
    skipped old c.skip_places.new.state c.args.signature.now c.args.headed.now c.requires.ready
    (c.in_ok-skip_places.ensures.place
    ∙ ap (λ n. record old { place = place_behind c.args.headed.now.borrowed old.place n }) (ap length c.as_slice.ensures))

pub returns-in_err-skip_places-clause-stated : goal.returns-in_err-skip_places-clause-stated
returns-in_err-skip_places-clause-stated c =
    let old = c.args.state.now in
    let new = c.skip_places.new.state in
    let p = err_from_is_err_and c.from_residual.result c.from_residual.ensures.1 in
    rw (p.1, p.2)
    (stated_forgets (λ ts b (x : Option RustBody). bodied_as ts b new x)
    (λ ts b. Ok (bodied None (without_body (state_of ts b old) (headed_of ts c.args.signature.now c.args.headed.now)))) _
    (further_as c.skip_places.ensures.types (further_same new)) c.in_err-skip_places.ensures.memory)
