use Rattle.std.proofs.Common.{◌∙◌, ap, sym}
use Rattle.std.proofs.lemmas.Result.{err_from_is_err_and}
use Rattle.arc_base.specs.declared.place.Code.TheVariants.{NotAssignable}
use Rattle.arc_base.specs.declared.place.Stop.TheVariants as stop
use Rattle.nim_tree.specs.Terms.{term_of}
use Rattle.nim_program.specs.Program.{Expr}
use Rattle.expr_rules.specs.Answers.{place_in}
use Rattle.expr_rules.specs.Builtins.{write_by, write_rule}
use Rattle.expr_rules.specs.Paths.{can_be_written}
use Rattle.expr_parts.specs.View.{env_of}
use Rattle.expr_parts.proofs.ForCallers.{refuses, forgets}
use Rattle.decl_rules.specs.Values.{target_at}
use Rattle.decl_stmts.proofs.assignments.check_target.Goals as goal

pub returns-then-not-writable : goal.returns-then-not-writable
returns-then-not-writable c = λ ts facts v e.
    let can = can_be_written (env_of ts facts c.args.scope.now) (term_of c.args.tree.now) in
    refuses (λ (_ : Unit {0}). tt) (write_by (can v.expr) (place_in v.expr)) NotAssignable (place_in v.expr) c.refusal.result
    (c.refusal.ensures ∙ ap (λ n. stop.Refused NotAssignable n.at) (c.node.ensures ts)
    ∙ ap (λ (x : Expr). stop.Refused NotAssignable (place_in x)) (sym e))
    (ap (λ k. write_by k (place_in v.expr)) (ap can e ∙ c.in_ok-writable.ensures.is ts facts ∙ c.if-not-writable.true))

pub returns : goal.returns
returns c = λ ts facts v e.
    let can = can_be_written (env_of ts facts c.args.scope.now) (term_of c.args.tree.now) in
    ap (λ k. write_by k (place_in v.expr)) (ap can e ∙ c.in_ok-writable.ensures.is ts facts ∙ c.if-not-writable.false)

pub returns-in_err-writable : goal.returns-in_err-writable
returns-in_err-writable c = λ ts facts v e.
    let p = err_from_is_err_and c.from_residual.result c.from_residual.ensures.1 in
    rw (p.1, p.2) (forgets (λ (_ : Unit {0}). tt) (write_rule (target_at (env_of ts facts c.args.scope.now) (term_of c.args.tree.now) v)) _
    c.in_err-writable.ensures.memory)
