use Rattle.std.proofs.Common.{◌≡◌, ◌<◌, ℕ, suc, [], ◌∷◌, sym, subst, ap, ◌∙◌, Some, length, arith}
use Rattle.std.specs.Prelude.{map, is_some, Option}
use Rattle.expr_rules.specs.Answers.{value}
use Rattle.expr_rules.specs.Calls.{arguments_for, fitting}
use Rattle.expr_rules.specs.Env.{callable, known_behind, unknown}
use Rattle.expr_parts.specs.View.{parameter_of, entry_of, ParametersWithin, WhatWithin}
use Rattle.expr_parts.specs.ViewDecls.{is_named, last_of}
use Rattle.expr_calls.specs.ViewCalls.{first_borrowed}
use Rattle.expr_parts.proofs.ForCallers.{take_all, what_within, found_below, up_to, is_procedure, next_smaller}
use Rattle.expr_calls.proofs.Firsts.{FirstBehind, first_start, first_more, first_hidden, first_none}
use Rattle.expr_calls.proofs.dollars.first_fit.Goals as goal

pub loop-next-init : goal.loop-next-init
loop-next-init c =
    let ds = c.args.decls.now in
    (length ds, c.last-next.ensures, omega arith, λ ts facts u v t. first_start ts c.args.name.now ds (value v ∷ []))

pub get-requires : goal.get-requires
get-requires c =
    let now = c.loop-next.invariant in
    let found = found_below (is_named c.args.decls.now c.args.name.now) now.0 c.in-Some.number (sym now.1 ∙ c.in-Some.is) in
    omega (arith, found.1, now.2)

pub takes_type-is_fitting-requires-clause-params : goal.takes_type-is_fitting-requires-clause-params
takes_type-is_fitting-requires-clause-params c =
    let n = length c.args.types.now in
    let d = c.get.result.now in
    let p = c.in-Some-procedure.procedure.now in
    let within = subst (WhatWithin n) (is_procedure d.what p (sym c.in-Some-procedure.ensures))
    (what_within n c.args.decls.now c.in-Some.number d c.get.ensures c.requires.decls) in
    subst (ParametersWithin n) (sym c.as_slice.ensures) within.1

pub before-next-requires : goal.before-next-requires
before-next-requires c =
    let now = c.loop-next.invariant in
    (found_below (is_named c.args.decls.now c.args.name.now) now.0 c.in-Some.number (sym now.1 ∙ c.in-Some.is)).0

pub loop-next-smaller : goal.loop-next-smaller
loop-next-smaller c =
    let i = c.in-Some.number in
    subst (λ (o : Option ℕ). up_to c.before-next.result < up_to o) (sym c.in-Some.is)
    (subst (λ (o : Option ℕ). up_to o < suc i) (sym c.before-next.ensures) (next_smaller c.args.decls.now c.args.name.now i))

pub loop-next-preserved : goal.loop-next-preserved
loop-next-preserved c =
    let ds = c.args.decls.now in
    let x = c.args.name.now in
    let i = c.in-Some.number in
    let d = c.get.result.now in
    let p = c.in-Some-procedure.procedure.now in
    let now = c.loop-next.invariant in
    let is : last_of ds x now.0 ≡ Some i = sym now.1 ∙ c.in-Some.is in
    let found = found_below (is_named ds x) now.0 i is in (
      i,
      c.before-next.ensures,
      omega (arith, found.1, now.2),
      λ ts facts u v t.
          let os = value v ∷ [] in
          subst (λ z. FirstBehind ts x ds os i z) (sym c.first_before-first.ensures)
          (first_more ts x ds os now.0 i d p c.loop-next.first c.takes_type-is_fitting.result now.2 is c.get.ensures
          (is_procedure d.what p (sym c.in-Some-procedure.ensures))
          (ap (λ ps. is_some (arguments_for (map (parameter_of ts) ps) os)) (sym c.as_slice.ensures)
          ∙ c.takes_type-is_fitting.ensures ts facts u v t)
          (now.3 ts facts u v t)),
    )

pub returns-in-None : goal.returns-in-None
returns-in-None c = λ ts facts u v t.
    let ds = c.args.decls.now in
    let x = c.args.name.now in
    let os = value v ∷ [] in
    let now = c.loop-next.invariant in
    subst (λ all. first_borrowed (fitting (callable (known_behind unknown x (map (entry_of ts) all))) os) ≡ c.loop-next.first)
    (take_all ds (length ds) (omega arith))
    (first_hidden ts x ds os now.0 c.in-Some.number c.get.result.now c.loop-next.first now.2 (sym now.1 ∙ c.in-Some.is) c.get.ensures
    (sym c.in-None.ensures) (now.3 ts facts u v t))

pub returns : goal.returns
returns c = λ ts facts u v t.
    let ds = c.args.decls.now in
    let x = c.args.name.now in
    let os = value v ∷ [] in
    let now = c.loop-next.invariant in
    subst (λ all. first_borrowed (fitting (callable (known_behind unknown x (map (entry_of ts) all))) os) ≡ c.loop-next.first)
    (take_all ds (length ds) (omega arith))
    (first_none ts x ds os now.0 c.loop-next.first now.2 (sym now.1 ∙ c.in_default.is) (now.3 ts facts u v t))
