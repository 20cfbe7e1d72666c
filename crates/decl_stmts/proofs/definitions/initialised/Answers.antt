use Rattle.std.proofs.Common.{ℕ, List}
use Rattle.std.specs.Prelude.{Ok}
use Rattle.nim_tree.specs.Terms.{term_of}
use Rattle.nim_types.specs.Types.{Ty}
use Rattle.nim_program.specs.View.{if_type}
use Rattle.expr_rules.specs.Env.{Env}
use Rattle.decl_rules.specs.State.{State}
use Rattle.decl_rules.specs.Values.{Value}
use Rattle.decl_rules.specs.Definitions.{definition_value, initialised}
use Rattle.decl_parts.specs.View.{around_of}
use Rattle.decl_stmts.proofs.Defining.{defining_goes, defining_stops}
use Rattle.decl_stmts.proofs.definitions.initialised.Goals as goal

pub returns-in-Ok : goal.returns-in-Ok
returns-in-Ok c =
    defining_goes (λ (ts : List Ty) (env : Env) (n : ℕ). definition_value env (if_type ts c.args.ty) n (term_of c.args.value.now))
    (λ (ts : List Ty) (st : State) (v : Value). Ok (initialised (around_of ts c.args.around) c.args.at c.args.binding v st c.args.name.now))
    c.in-Ok.ensures c.with_value.ensures

pub returns-in-Err : goal.returns-in-Err
returns-in-Err c =
    defining_stops (λ (ts : List Ty) (env : Env) (n : ℕ). definition_value env (if_type ts c.args.ty) n (term_of c.args.value.now))
    (λ (ts : List Ty) (st : State) (v : Value). Ok (initialised (around_of ts c.args.around) c.args.at c.args.binding v st c.args.name.now))
    c.in-Err.ensures

pub with_value-requires : goal.with_value-requires
with_value-requires c = record { given = c.in-Ok.ensures.fits }
