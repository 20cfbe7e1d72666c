use Rattle.std.proofs.Common.{◌≡◌, ◌<◌, ℕ, suc, sym, subst, ap, ◌∙◌, Some, length, arith}
use Rattle.std.specs.Prelude.{map, is_some, Option}
use Rattle.expr_rules.specs.Calls.{arguments_for, fitting}
use Rattle.expr_rules.specs.Env.{callable, known_behind, unknown}
use Rattle.expr_parts.specs.View.{operand_of, parameter_of, entry_of, Chooses, ChosenFits, ParametersWithin, WhatWithin, do_fit}
use Rattle.expr_parts.specs.ViewDecls.{is_named, last_of}
use Rattle.expr_parts.proofs.Choosing.{fits_further, take_all, what_within}
use Rattle.expr_parts.proofs.Indexing.{found_below, up_to}
use Rattle.expr_parts.proofs.Knowing.{Behind, behind_start, behind_more, behind_hidden, behind_none, is_procedure, next_smaller}
use Rattle.expr_parts.proofs.calls.choose.Goals as goal

pub loop-next-init : goal.loop-next-init
loop-next-init c =
    let ds = c.args.decls.now in
    (length ds, c.last-next.ensures, omega arith, λ ts facts u. behind_start ts c.args.name.now ds (map (operand_of ts) c.args.operands.now), tt)

pub get-requires : goal.get-requires
get-requires c =
    let now = c.loop-next.invariant in
    let found = found_below (is_named c.args.decls.now c.args.name.now) now.0 c.in-Some.number (sym now.1 ∙ c.in-Some.is) in
    omega (arith, found.1, now.2)

pub fits-is_fitting-requires-clause-params : goal.fits-is_fitting-requires-clause-params
fits-is_fitting-requires-clause-params c =
    let n = length c.args.types.now in
    let d = c.get.result.now in
    let p = c.in-Some-procedure.procedure.now in
    let within = subst (WhatWithin n) (is_procedure d.what p (sym c.in-Some-procedure.ensures))
    (what_within n c.args.decls.now c.in-Some.number d c.get.ensures c.requires.decls) in
    subst (ParametersWithin n) (sym c.as_slice.ensures) within.1

pub before-next-requires : goal.before-next-requires
before-next-requires c =
    let now = c.loop-next.invariant in
    (found_below (is_named c.args.decls.now c.args.name.now) now.0 c.in-Some.number (sym now.1 ∙ c.in-Some.is)).0

pub loop-next-smaller : goal.loop-next-smaller
loop-next-smaller c =
    let i = c.in-Some.number in
    subst (λ (o : Option ℕ). up_to c.before-next.result < up_to o) (sym c.in-Some.is)
    (subst (λ (o : Option ℕ). up_to o < suc i) (sym c.before-next.ensures) (next_smaller c.args.decls.now c.args.name.now i))

pub loop-next-preserved : goal.loop-next-preserved
loop-next-preserved c =
    let ds = c.args.decls.now in
    let x = c.args.name.now in
    let i = c.in-Some.number in
    let d = c.get.result.now in
    let p = c.in-Some-procedure.procedure.now in
    let now = c.loop-next.invariant in
    let is : last_of ds x now.0 ≡ Some i = sym now.1 ∙ c.in-Some.is in
    let found = found_below (is_named ds x) now.0 i is in (
      i,
      c.before-next.ensures,
      omega (arith, found.1, now.2),
      λ ts facts u.
          let os = map (operand_of ts) c.args.operands.now in
          subst (λ z. Behind ts x ds os i z) (sym c.one_more-chosen.ensures)
          (behind_more ts x ds os now.0 i d p c.loop-next.chosen c.fits-is_fitting.result now.2 is c.get.ensures
          (is_procedure d.what p (sym c.in-Some-procedure.ensures))
          (ap (λ ps. is_some (arguments_for (map (parameter_of ts) ps) os)) (sym c.as_slice.ensures) ∙ c.fits-is_fitting.ensures.means ts facts u)
          (now.3 ts facts u)),
      subst (ChosenFits c.args.types.now ds c.args.operands.now) (sym c.one_more-chosen.ensures)
          (fits_further c.args.types.now ds c.args.operands.now i d p c.loop-next.chosen c.fits-is_fitting.result c.get.ensures
          (is_procedure d.what p (sym c.in-Some-procedure.ensures))
          (ap (λ ps. do_fit c.args.types.now ps c.args.operands.now) (sym c.as_slice.ensures) ∙ c.fits-is_fitting.ensures.numbers)
          now.4),
    )

pub returns-in-None-clause-means : goal.returns-in-None-clause-means
returns-in-None-clause-means c = λ ts facts u.
    let ds = c.args.decls.now in
    let x = c.args.name.now in
    let os = map (operand_of ts) c.args.operands.now in
    let now = c.loop-next.invariant in
    subst (λ all. Chooses ts ds os c.loop-next.chosen (fitting (callable (known_behind unknown x (map (entry_of ts) all))) os))
    (take_all ds (length ds) (omega arith))
    (behind_hidden ts x ds os now.0 c.in-Some.number c.get.result.now c.loop-next.chosen now.2 (sym now.1 ∙ c.in-Some.is) c.get.ensures
    (sym c.in-None.ensures) (now.3 ts facts u))

pub returns-clause-means : goal.returns-clause-means
returns-clause-means c = λ ts facts u.
    let ds = c.args.decls.now in
    let x = c.args.name.now in
    let os = map (operand_of ts) c.args.operands.now in
    let now = c.loop-next.invariant in
    subst (λ all. Chooses ts ds os c.loop-next.chosen (fitting (callable (known_behind unknown x (map (entry_of ts) all))) os))
    (take_all ds (length ds) (omega arith))
    (behind_none ts x ds os now.0 c.loop-next.chosen now.2 (sym now.1 ∙ c.in_default.is) (now.3 ts facts u))

pub returns-in-None-clause-fits : goal.returns-in-None-clause-fits
returns-in-None-clause-fits c = c.loop-next.invariant.4

pub returns-clause-fits : goal.returns-clause-fits
returns-clause-fits c = c.loop-next.invariant.4
