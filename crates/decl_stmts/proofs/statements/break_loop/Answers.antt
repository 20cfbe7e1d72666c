use Rattle.std.proofs.Common.{ap, suc, Bool, List}
use Rattle.std.specs.Prelude.{Ok}
use Rattle.arc_base.specs.declared.place.Code.TheVariants.{NotTyped}
use Rattle.arc_base.specs.Refusal.{and_then}
use Rattle.nim_types.specs.Types.{Ty}
use Rattle.nim_program.specs.declared.stmt.Leaving.TheVariants as leaving
use Rattle.nim_program.specs.Program as P
use Rattle.expr_rules.specs.Answers.{node}
use Rattle.decl_rules.specs.State.{if_typed, did}
use Rattle.decl_parts.specs.View.{Beside, state_of}
use Rattle.decl_parts.proofs.ForCallers.{stated_so, stated_refuses, further_same}
use Rattle.decl_stmts.specs.ViewStated.{listed_stated}
use Rattle.decl_stmts.proofs.statements.break_loop.Goals as goal

pub returns : goal.returns
returns c = λ ends.
    let old = c.args.state.now in
    let leave = P.Leave (node old.node c.args.at) leaving.Break P.NoArg in
    let by = λ (ts : List Ty) (b : Beside) (k : Bool).
    and_then (if_typed k c.args.at) (λ _. Ok (did (state_of ts b old) leave (suc old.node))) in
    stated_so (λ ts b. by ts b c.args.around.in_loop)
    (λ ts b u. ap (by ts b) c.if-not-in_loop.false)
    c.plain.ensures

pub returns-then-not-in_loop : goal.returns-then-not-in_loop
returns-then-not-in_loop c = λ ends.
    let old = c.args.state.now in
    let leave = P.Leave (node old.node c.args.at) leaving.Break P.NoArg in
    let by = λ (ts : List Ty) (b : Beside) (k : Bool).
    and_then (if_typed k c.args.at) (λ _. Ok (did (state_of ts b old) leave (suc old.node))) in
    stated_refuses (λ ts b s. listed_stated ts b old s)
    (λ ts b. by ts b c.args.around.in_loop)
    NotTyped c.args.at c.refusal.result (further_same old) c.refusal.ensures
    (λ ts b u. ap (by ts b) c.if-not-in_loop.true)
