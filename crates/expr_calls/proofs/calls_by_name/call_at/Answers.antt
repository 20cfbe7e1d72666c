use Rattle.std.proofs.Common.{◌≡◌, sym, subst, ap, ◌∙◌, Some, length}
use Rattle.std.specs.Prelude.{slice_get}
use Rattle.std.specs.Option.{option_copied}
use Rattle.std.proofs.lemmas.Option.{same_Some}
use Rattle.nim_program.specs.View.{expr_of}
use Rattle.expr_rules.specs.Calls.{called, one_of}
use Rattle.expr_parts.specs.View.{procedure_of, fit, DeclFits}
use Rattle.expr_parts.proofs.ForCallers.{answers_as}
use Rattle.expr_parts.proofs.ForCallers.{what_within}
use Rattle.expr_calls.proofs.calls_by_name.call_at.Goals as goal

pub call_declared-requires-clause-what : goal.call_declared-requires-clause-what
call_declared-requires-clause-what c =
    let ds = c.args.scope.now.decls in
    let at : Some c.in-Some.decl.now ≡ slice_get ds c.args.i =
    subst (λ o. option_copied o ≡ slice_get ds c.args.i) c.in-Some.is (c.decl_at.ensures ∙ ap (λ xs. slice_get xs c.args.i) c.as_slice.ensures) in
    what_within (length c.args.types.now) ds c.args.i c.in-Some.decl.now (sym at) c.requires.ready.decls

pub call_declared-requires-clause-fits : goal.call_declared-requires-clause-fits
call_declared-requires-clause-fits c =
    let ds = c.args.scope.now.decls in
    let at : Some c.in-Some.decl.now ≡ slice_get ds c.args.i =
    subst (λ o. option_copied o ≡ slice_get ds c.args.i) c.in-Some.is (c.decl_at.ensures ∙ ap (λ xs. slice_get xs c.args.i) c.as_slice.ensures) in
    subst (DeclFits c.args.types.now c.args.operands.items) (sym at) c.requires.fits

pub returns-clause-answers : goal.returns-clause-answers
returns-clause-answers c = λ ts facts u all otherwise k.
    let ds = c.args.scope.now.decls in
    let x = c.args.name.now in
    let at : Some c.in-Some.decl.now ≡ slice_get ds c.args.i =
    subst (λ o. option_copied o ≡ slice_get ds c.args.i) c.in-Some.is (c.decl_at.ensures ∙ ap (λ xs. slice_get xs c.args.i) c.as_slice.ensures) in
    let same = same_Some c.in-Some.decl.now k.decl (at ∙ k.at) in
    answers_as (expr_of ts) (one_of c.args.number c.args.at x all otherwise)
    (called c.args.number c.args.at k.callee.borrowed x (fit (procedure_of ts k.callee) k.arguments)) c.call_declared.result
    (ap (λ all. one_of c.args.number c.args.at x all otherwise) k.only)
    (c.call_declared.ensures.answers ts facts u k.callee k.arguments (ap (λ d. d.what) same ∙ k.is_procedure) k.fits)
