use Rattle.std.proofs.Common.{◌+◌, ◌∙◌, List, ap, sym, subst, length}
use Rattle.std.specs.Prelude.{map}
use Rattle.nim_types.specs.Table.{IsBelow}
use Rattle.nim_types.specs.declared.types.TypeDef.{TypeDef}
use Rattle.decl_rules.specs.Heads.{with_parameters}
use Rattle.decl_heads.specs.ViewHeads.{given_of, GivenWithin, Declares}
use Rattle.decl_parts.specs.declared.state.State.{State as RustState}
use Rattle.check_decls.proofs.Scopes.{body_begun}
use Rattle.check_decls.proofs.heads.begin_body.Goals as goal

pub returns-clause-begun : goal.returns-clause-begun
returns-clause-begun c =
    let old = c.args.state.now in
    let mid = c.declare_all.new.state in
    let g = c.args.signature.now in
    let count = c.count-state.result in
    let state = c.in_ok-place.ensures.state in
    body_begun old mid _ c.args.head.now g c.in_ok-place.place count c.requires.ready c.declare_all.ensures.types
    (subst (λ l. Declares old mid (λ ts st. with_parameters st (map (given_of ts) l))) c.as_slice.ensures c.in_ok-declare_all.ensures.behind)
    (c.in_ok-declare_all.ensures.place ∙ ap (λ l. old.place + length l) c.as_slice.ensures)
    (ap (λ (s : RustState). record s { outside = count }) state) (c.count-state.ensures ∙ ap (λ (s : RustState). length s.scope.decls) state)
    c.in_ok-place.ensures.place
    (c.in_ok-place.ensures.ty (length mid.types)
    (subst (λ (ds : List TypeDef). IsBelow (length ds) g.gives) (sym c.declare_all.ensures.types) c.requires.within.gives))

pub declare_all-requires : goal.declare_all-requires
declare_all-requires c = record { within = subst (GivenWithin (length c.args.state.now.types)) (sym c.as_slice.ensures) c.requires.within.params }
