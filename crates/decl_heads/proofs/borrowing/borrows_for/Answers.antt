use Rattle.std.proofs.Common.{◌≡◌, ◌<◌, ℕ, suc, sym, refl, subst, ap, ◌∙◌, Some, List, length, arith}
use Rattle.std.specs.Prelude.{map, Option}
use Rattle.nim_types.specs.Types.{Ty}
use Rattle.nim_types.specs.Table.{type_at}
use Rattle.expr_parts.specs.declared.scope.Decl.{Decl}
use Rattle.expr_parts.specs.View.{entry_of, WhatWithin}
use Rattle.expr_parts.specs.ViewDecls.{is_named, last_of}
use Rattle.expr_parts.proofs.ForCallers.{found_below, is_procedure, known_in, next_smaller, take_all, up_to, what_within}
use Rattle.expr_rules.specs.Env.{callable, known_behind, unknown}
use Rattle.decl_rules.specs.Heads.{borrows_for}
use Rattle.decl_heads.proofs.Borrowers.{borrows_true, borrows_false, borrows_hidden, borrows_none}
use Rattle.decl_heads.proofs.borrowing.borrows_for.Goals as goal

all_known : (ts : List Ty) (t : Ty) (x : List ℕ) (ds : List Decl)
    → borrows_for t (callable (known_behind unknown x (map (entry_of ts) ds))) ≡ borrows_for t (callable (known_in ts x ds (length ds)))
all_known ts t x ds = ap (λ (all : List Decl). borrows_for t (callable (known_behind unknown x (map (entry_of ts) all))))
    (sym (take_all ds (length ds) (omega arith)))

pub loop-next-init : goal.loop-next-init
loop-next-init c = (length c.args.decls.now, c.last-next.ensures, omega arith, λ ts facts u. refl)

pub get-requires : goal.get-requires
get-requires c =
    let now = c.loop-next.invariant in
    let found = found_below (is_named c.args.decls.now c.args.name.now) now.0 c.in-Some.number (sym now.1 ∙ c.in-Some.is) in
    omega (arith, found.1, now.2)

pub borrows-requires-clause-params : goal.borrows-requires-clause-params
borrows-requires-clause-params c =
    let n = length c.args.types.now in
    let d = c.get.result.now in
    (subst (WhatWithin n) (is_procedure d.what c.in-Some-procedure.procedure.now (sym c.in-Some-procedure.ensures))
    (what_within n c.args.decls.now c.in-Some.number d c.get.ensures c.requires.decls)).1

pub before-next-requires : goal.before-next-requires
before-next-requires c =
    let now = c.loop-next.invariant in
    (found_below (is_named c.args.decls.now c.args.name.now) now.0 c.in-Some.number (sym now.1 ∙ c.in-Some.is)).0

pub loop-next-smaller : goal.loop-next-smaller
loop-next-smaller c =
    let i = c.in-Some.number in
    subst (λ (o : Option ℕ). up_to c.before-next.result < up_to o) (sym c.in-Some.is)
    (subst (λ (o : Option ℕ). up_to o < suc i) (sym c.before-next.ensures) (next_smaller c.args.decls.now c.args.name.now i))

pub loop-next-preserved : goal.loop-next-preserved
loop-next-preserved c =
    let ds = c.args.decls.now in
    let x = c.args.name.now in
    let i = c.in-Some.number in
    let d = c.get.result.now in
    let p = c.in-Some-procedure.procedure.now in
    let now = c.loop-next.invariant in
    let is : last_of ds x now.0 ≡ Some i = sym now.1 ∙ c.in-Some.is in
    let found = found_below (is_named ds x) now.0 i is in (
      i,
      c.before-next.ensures,
      omega (arith, found.1, now.2),
      λ ts facts u.
          now.3 ts facts u
          ∙ borrows_false ts (type_at ts c.args.ty) x ds now.0 i d p now.2 is c.get.ensures (is_procedure d.what p (sym c.in-Some-procedure.ensures))
          (c.borrows.ensures ts facts u ∙ c.if-borrows.false),
    )

pub returns-then-borrows : goal.returns-then-borrows
returns-then-borrows c = λ ts facts u.
    let ds = c.args.decls.now in
    let x = c.args.name.now in
    let i = c.in-Some.number in
    let d = c.get.result.now in
    let p = c.in-Some-procedure.procedure.now in
    let now = c.loop-next.invariant in
    let is : last_of ds x now.0 ≡ Some i = sym now.1 ∙ c.in-Some.is in
    all_known ts (type_at ts c.args.ty) x ds ∙ now.3 ts facts u
    ∙ borrows_true ts (type_at ts c.args.ty) x ds now.0 i d p now.2 is c.get.ensures (is_procedure d.what p (sym c.in-Some-procedure.ensures))
    (c.borrows.ensures ts facts u ∙ c.if-borrows.true)

pub returns-in-None : goal.returns-in-None
returns-in-None c = λ ts facts u.
    let ds = c.args.decls.now in
    let x = c.args.name.now in
    let now = c.loop-next.invariant in
    all_known ts (type_at ts c.args.ty) x ds ∙ now.3 ts facts u
    ∙ borrows_hidden ts (type_at ts c.args.ty) x ds now.0 c.in-Some.number c.get.result.now now.2 (sym now.1 ∙ c.in-Some.is) c.get.ensures
    (sym c.in-None.ensures)

pub returns : goal.returns
returns c = λ ts facts u.
    let ds = c.args.decls.now in
    let x = c.args.name.now in
    let now = c.loop-next.invariant in
    all_known ts (type_at ts c.args.ty) x ds ∙ now.3 ts facts u
    ∙ borrows_none ts (type_at ts c.args.ty) x ds now.0 now.2 (sym now.1 ∙ c.in_default.is)
