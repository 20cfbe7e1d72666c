use Rattle.std.proofs.Common.{refl, List}
use Rattle.nim_tree.specs.Terms.{term_of}
use Rattle.nim_types.specs.Types.{Ty, Facts}
use Rattle.expr_rules.specs.Builtins.{write_rule}
use Rattle.expr_parts.specs.View.{env_of, valued_of}
use Rattle.decl_rules.specs.Values.{target_at}
use Rattle.decl_parts.specs.View.{Beside, state_of}
use Rattle.decl_parts.proofs.ForCallers.{rule_goes, rule_stops}
use Rattle.decl_stmts.specs.ViewStated.{assign_source, listed_stated}
use Rattle.decl_stmts.proofs.assignments.assign_checked.Goals as goal

pub returns-in-Ok : goal.returns-in-Ok
returns-in-Ok c =
    let old = c.args.state.now in
    rule_goes (λ (ts : List Ty) (x : Unit {0}). x)
    (λ (ts : List Ty) (facts : Facts). write_rule (target_at (env_of ts facts old.scope) (term_of c.args.tree.now) (valued_of ts c.args.target)))
    (λ (ts : List Ty) (b : Beside) (x : Unit {0}).
    assign_source (state_of ts b old) c.args.node c.args.op (term_of c.args.value.now) (valued_of ts c.args.target) c.args.first)
    (λ ts facts u. c.in-Ok.ensures ts facts (valued_of ts c.args.target) refl) c.assign_from.ensures

pub returns-in-Err : goal.returns-in-Err
returns-in-Err c =
    let old = c.args.state.now in
    rule_stops (λ ts b s. listed_stated ts b old s) (λ (ts : List Ty) (x : Unit {0}). x)
    (λ (ts : List Ty) (facts : Facts). write_rule (target_at (env_of ts facts old.scope) (term_of c.args.tree.now) (valued_of ts c.args.target)))
    (λ (ts : List Ty) (b : Beside) (x : Unit {0}).
    assign_source (state_of ts b old) c.args.node c.args.op (term_of c.args.value.now) (valued_of ts c.args.target) c.args.first)
    (λ ts facts u. c.in-Err.ensures ts facts (valued_of ts c.args.target) refl)
