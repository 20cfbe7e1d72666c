use Rattle.std.proofs.Common.{◌≡◌, ◌∙◌, ◌++◌, ◌∷◌, [], ◌+◌, ap, sym, refl, append_assoc, append-nil, subst, drop}
use Rattle.std.proofs.Common.{drop_of_length-le}
use Rattle.std.proofs.lemmas.List.{map-append}
use Rattle.std.specs.Prelude.{map}
use Rattle.indent_scanner.specs.Words.{normal}
use Rattle.nim_types.specs.Table.{type_at}
use Rattle.nim_program.specs.View.{literal_of}
use Rattle.expr_rules.specs.Env.{constant}
use Rattle.expr_parts.specs.View.{entry_of, DeclsWithin}
use Rattle.decl_parts.specs.declared.state.State.{State as RustState}
use Rattle.decl_rules.specs.Definitions.{constant_entries}
use Rattle.decl_parts.proofs.ForCallers.{next_name, decls_both}
use Rattle.decl_stmts.proofs.constants.declare_constants.Goals as goal

pub loop-name-init : goal.loop-name-init
loop-name-init c = record {
  behind = λ ts. refl;
  begins = ([], sym (append-nil c.args.state.now.scope.decls));
  within = λ n lt h. h;
  kinds = refl;
  home = refl;
  same = refl;
}

pub loop-name-preserved : goal.loop-name-preserved
loop-name-preserved c =
    let at = c.loop-name in
    let names = c.args.names.now in
    let item = c.name-item.result in
    let e = next_name names at.name-index item c.name-item.is c.loop-name-test.true in
    let old = at.state.scope.decls in
    let new = c.declare.new.self.decls in
    let decl = c.in_ok-decl.decl in
    let first = at.invariant.begins in
    let d : new ≡ old ++ decl ∷ [] = c.in_ok-declare.ensures.ok in
    record {
      behind = λ ts.
          let rest = constant_entries (type_at ts c.args.value.now.ty) (literal_of c.args.value.now.literal) in
          let f = entry_of ts in
          at.invariant.behind ts ∙ ap (λ l. map f old ++ rest l) e
          ∙ ap (λ x. map f old ++ x ∷ rest (drop (at.name-index + 1) names)) (sym (c.in_ok-decl.ensures.entry ts
          ∙ ap (λ x. constant (normal x) (type_at ts c.args.value.now.ty) (literal_of c.args.value.now.literal)) c.as_slice.ensures))
          ∙ sym (append_assoc (map f old) (f decl ∷ []) (rest (drop (at.name-index + 1) names)))
          ∙ ap (λ l. l ++ rest (drop (at.name-index + 1) names)) (sym (map-append f old (decl ∷ [])) ∙ ap (map f) (sym d));
      begins = (
        first.0 ++ decl ∷ [],
        d ∙ ap (λ l. l ++ decl ∷ []) first.1 ∙ append_assoc c.args.state.now.scope.decls first.0 (decl ∷ []),
      );
      within = λ n lt h. subst (DeclsWithin n) (sym d) (decls_both n old (decl ∷ []) (at.invariant.within n lt h) (c.in_ok-decl.ensures.within n lt, tt));
      kinds = c.declare.ensures.kinds ∙ at.invariant.kinds;
      home = c.declare.ensures.home ∙ at.invariant.home;
      same = ap (λ (s : RustState). record s { scope = c.declare.new.self }) at.invariant.same;
    }

pub returns-clause-behind : goal.returns-clause-behind
returns-clause-behind c = λ ts.
    let at = c.loop-name in
    let rest = constant_entries (type_at ts c.args.value.now.ty) (literal_of c.args.value.now.literal) in
    let all = map (entry_of ts) at.state.scope.decls in
    sym (at.invariant.behind ts ∙ ap (λ l. all ++ rest l) (drop_of_length-le c.args.names.now c.loop-name-test.false) ∙ append-nil all)
