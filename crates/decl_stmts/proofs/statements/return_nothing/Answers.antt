use Rattle.std.proofs.Common.{ap, suc, List}
use Rattle.std.specs.Prelude.{Ok}
use Rattle.arc_base.specs.declared.place.Code.TheVariants.{NotTyped}
use Rattle.arc_base.specs.Refusal.{and_then}
use Rattle.nim_types.specs.Types.{Ty}
use Rattle.nim_program.specs.declared.stmt.Leaving.TheVariants as leaving
use Rattle.nim_program.specs.Program as P
use Rattle.expr_rules.specs.Answers.{node}
use Rattle.decl_rules.specs.State.{ResultPlace, did}
use Rattle.decl_rules.specs.Values.{procedure_rule}
use Rattle.decl_parts.specs.declared.state.Inside.{Inside}
use Rattle.decl_parts.specs.View.{inside_of, state_of, Beside}
use Rattle.decl_parts.proofs.ForCallers.{stated_so, stated_refuses, further_same}
use Rattle.decl_stmts.specs.ViewStated.{listed_stated}
use Rattle.decl_stmts.proofs.statements.return_nothing.Goals as goal

pub returns-in-Procedure : goal.returns-in-Procedure
returns-in-Procedure c = λ ends.
    let old = c.args.state.now in
    let n = node old.node c.args.at in
    let by = λ (ts : List Ty) (b : Beside) (i : Inside). and_then (procedure_rule c.args.at (inside_of ts i))
    (λ (_ : ResultPlace). Ok (did (state_of ts b old) (P.Leave n leaving.Return P.NoArg) (suc old.node))) in
    stated_so (λ ts b. by ts b c.args.around.inside) (λ ts b u. ap (by ts b) c.in-Procedure.is) c.plain.ensures

pub returns-in-ModuleCode : goal.returns-in-ModuleCode
returns-in-ModuleCode c = λ ends.
    let old = c.args.state.now in
    let n = node old.node c.args.at in
    let by = λ (ts : List Ty) (b : Beside) (i : Inside). and_then (procedure_rule c.args.at (inside_of ts i))
    (λ (_ : ResultPlace). Ok (did (state_of ts b old) (P.Leave n leaving.Return P.NoArg) (suc old.node))) in
    stated_refuses (λ ts b s. listed_stated ts b old s) (λ ts b. by ts b c.args.around.inside) NotTyped c.args.at c.refusal.result
    (further_same old) c.refusal.ensures
    (λ ts b u. ap (by ts b) c.in-ModuleCode.is)
