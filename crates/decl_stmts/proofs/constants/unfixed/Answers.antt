use Rattle.std.proofs.Common.{ap, List, None}
use Rattle.arc_base.specs.declared.place.Code.TheVariants.{NotTyped}
use Rattle.nim_tree.specs.declared.name.Declared.{Declared}
use Rattle.nim_types.specs.Types.{Ty}
use Rattle.expr_parts.proofs.ForCallers.{nothing_left}
use Rattle.decl_rules.specs.Definitions.{constants_by}
use Rattle.decl_parts.specs.View.{state_of, Beside}
use Rattle.decl_parts.proofs.ForCallers.{stated_so, stated_refuses, stated_here, further_same}
use Rattle.decl_stmts.proofs.constants.unfixed.Goals as goal

pub returns-in-Some : goal.returns-in-Some
returns-in-Some c = λ ty.
    let old = c.args.state.now in
    let by = λ (ts : List Ty) (b : Beside) (l : List Declared). constants_by (state_of ts b old) (ty ts) None l in
    stated_refuses (λ ts b (_ : Unit {0}). state_of ts b old) (λ ts b. by ts b c.args.names.now) NotTyped c.in-Some.name.now.at c.refusal.result
    (further_same old) c.refusal.ensures (λ ts b u. ap (by ts b) c.in-Some.ensures.cases.0)

pub returns-in-None : goal.returns-in-None
returns-in-None c = λ ty.
    let old = c.args.state.now in
    let by = λ (ts : List Ty) (b : Beside) (l : List Declared). constants_by (state_of ts b old) (ty ts) None l in
    stated_so (λ ts b. by ts b c.args.names.now) (λ ts b u. ap (by ts b) (nothing_left c.args.names.now c.in-None.ensures.cases))
    (stated_here old (λ ts b (_ : Unit {0}). state_of ts b old) tt c.requires.ready)
