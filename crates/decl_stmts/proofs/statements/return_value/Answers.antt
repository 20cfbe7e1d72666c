use Rattle.std.proofs.Common.{length, subst, ap, List}
use Rattle.arc_base.specs.declared.place.Code.TheVariants.{NotTyped}
use Rattle.arc_base.specs.Refusal.{and_then}
use Rattle.nim_tree.specs.Terms.{term_of}
use Rattle.nim_types.specs.Types.{Ty}
use Rattle.decl_rules.specs.State.{ResultPlace}
use Rattle.decl_rules.specs.Values.{procedure_rule}
use Rattle.decl_parts.specs.declared.state.Inside.{Inside}
use Rattle.decl_parts.specs.View.{inside_of, InsideWithin, state_of, Beside}
use Rattle.decl_parts.proofs.ForCallers.{stated_so, stated_refuses, further_same}
use Rattle.decl_stmts.specs.ViewStated.{return_behind, listed_stated}
use Rattle.decl_stmts.proofs.statements.return_value.Goals as goal

pub returns-in-Procedure : goal.returns-in-Procedure
returns-in-Procedure c = λ ends.
    let old = c.args.state.now in
    let by = λ (ts : List Ty) (b : Beside) (i : Inside). and_then (procedure_rule c.args.at (inside_of ts i))
    (λ (gives : ResultPlace). return_behind (state_of ts b old) c.args.at (term_of c.args.value.now) gives) in
    stated_so (λ ts b. by ts b c.args.around.inside) (λ ts b u. ap (by ts b) c.in-Procedure.is) c.return_from.ensures

pub returns-in-ModuleCode : goal.returns-in-ModuleCode
returns-in-ModuleCode c = λ ends.
    let old = c.args.state.now in
    let by = λ (ts : List Ty) (b : Beside) (i : Inside). and_then (procedure_rule c.args.at (inside_of ts i))
    (λ (gives : ResultPlace). return_behind (state_of ts b old) c.args.at (term_of c.args.value.now) gives) in
    stated_refuses (λ ts b s. listed_stated ts b old s) (λ ts b. by ts b c.args.around.inside) NotTyped c.args.at c.refusal.result
    (further_same old) c.refusal.ensures
    (λ ts b u. ap (by ts b) c.in-ModuleCode.is)

pub return_from-requires-clause-gives : goal.return_from-requires-clause-gives
return_from-requires-clause-gives c = subst (InsideWithin (length c.args.state.now.types)) c.in-Procedure.is c.requires.around
