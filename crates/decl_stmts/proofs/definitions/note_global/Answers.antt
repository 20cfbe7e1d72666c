use Rattle.std.proofs.Common.{ap, ◌∙◌, ◌++◌, ◌∷◌, [], sym, append-nil}
use Rattle.std.proofs.lemmas.List.{map-append}
use Rattle.std.specs.Prelude.{map}
use Rattle.nim_types.specs.Table.{type_at}
use Rattle.nim_program.specs.View.{declared_of}
use Rattle.decl_rules.specs.Definitions.{if_global}
use Rattle.decl_parts.specs.View.{place_of}
use Rattle.decl_stmts.proofs.definitions.note_global.Goals as goal

pub returns-clause-globals : goal.returns-clause-globals
returns-clause-globals c = λ ts.
    let f = declared_of ts in
    let old = c.args.state.now.globals in
    let p = place_of c.args.number c.args.name.now.text c.args.name.now.at (type_at ts c.args.ty) in
    ap (map f) c.in_ok-push.ensures.ok ∙ map-append f old (c.in_ok-global.global ∷ []) ∙ ap (λ d. map f old ++ d ∷ []) (c.in_ok-global.ensures.place ts
    ∙ ap (λ x. place_of c.args.number x c.args.name.now.at (type_at ts c.args.ty)) c.as_slice.ensures)
    ∙ ap (λ k. map f old ++ if_global k p) (sym c.if-not-outermost.false)

pub returns-then-not-outermost-clause-globals : goal.returns-then-not-outermost-clause-globals
returns-then-not-outermost-clause-globals c = λ ts.
    let all = map (declared_of ts) c.args.state.now.globals in
    let p = place_of c.args.number c.args.name.now.text c.args.name.now.at (type_at ts c.args.ty) in
    sym (append-nil all) ∙ ap (λ k. all ++ if_global k p) (sym c.if-not-outermost.true)
