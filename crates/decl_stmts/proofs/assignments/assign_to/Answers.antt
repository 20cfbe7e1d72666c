use Rattle.std.proofs.Common.{◌<◌, length, subst, sym, List}
use Rattle.nim_tree.specs.Terms.{term_of}
use Rattle.nim_types.specs.Types.{Ty, Facts}
use Rattle.expr_rules.specs.Answers.{Valued}
use Rattle.expr_parts.specs.View.{valued_of}
use Rattle.decl_rules.specs.Values.{target_rule}
use Rattle.decl_parts.specs.View.{Beside, state_of}
use Rattle.decl_parts.proofs.ForCallers.{rule_goes, rule_stops}
use Rattle.decl_stmts.specs.ViewStated.{assign_checked, listed_stated}
use Rattle.decl_stmts.proofs.assignments.assign_to.Goals as goal

pub returns-in-Ok : goal.returns-in-Ok
returns-in-Ok c =
    let old = c.args.state.now in
    rule_goes valued_of (λ (ts : List Ty) (facts : Facts). target_rule c.args.op (valued_of ts c.args.given.value))
    (λ (ts : List Ty) (b : Beside) (v : Valued).
    assign_checked (state_of ts b old) c.args.node c.args.op (term_of c.args.tree.now) (term_of c.args.value.now) v c.args.given.next)
    c.in-Ok.ensures.answers c.assign_checked.ensures

pub returns-in-Err : goal.returns-in-Err
returns-in-Err c =
    let old = c.args.state.now in
    rule_stops (λ ts b s. listed_stated ts b old s) valued_of (λ (ts : List Ty) (facts : Facts). target_rule c.args.op (valued_of ts c.args.given.value))
    (λ (ts : List Ty) (b : Beside) (v : Valued).
    assign_checked (state_of ts b old) c.args.node c.args.op (term_of c.args.tree.now) (term_of c.args.value.now) v c.args.given.next)
    c.in-Err.ensures.answers

pub assign_checked-requires-clause-target : goal.assign_checked-requires-clause-target
assign_checked-requires-clause-target c = subst (λ v. v.ty < length c.args.state.now.types) (sym c.in-Ok.ensures.same) c.requires.given
