use Rattle.std.proofs.Common.{ap, sym, suc, ℕ}
use Rattle.std.specs.Prelude.{Ok}
use Rattle.expr_rules.specs.Answers.{node}
use Rattle.decl_rules.specs.State.{did}
use Rattle.decl_parts.specs.View.{state_of}
use Rattle.decl_parts.proofs.ForCallers.{further_same, stated_forgets, stated_so}
use Rattle.decl_stmts.specs.ViewStated.{listed_stated, plain_of}
use Rattle.decl_stmts.proofs.Made.{made_did}
use Rattle.decl_stmts.proofs.statements.plain.Goals as goal

pub returns-in-Ok : goal.returns-in-Ok
returns-in-Ok c =
    let old = c.args.state.now in
    let e = plain_of c.args.kind (node old.node c.args.at) in
    stated_so (λ ts b. Ok (did (state_of ts b old) e (suc old.node)))
    (λ ts b u. ap (λ (n : ℕ). Ok (did (state_of ts b old) e n)) (sym c.in-Ok.ensures.next))
    (made_did old c.in-Ok.next (λ ts. e) c.stmt_of.result c.list_of.result c.requires.ready c.stmt_of.ensures c.list_of.ensures.list c.list_of.ensures.memory)

pub returns-in-Err : goal.returns-in-Err
returns-in-Err c =
    let old = c.args.state.now in
    stated_forgets (λ ts b s. listed_stated ts b old s) (λ ts b. Ok (did (state_of ts b old) (plain_of c.args.kind (node old.node c.args.at)) (suc old.node)))
    c.in-Err.stop (further_same old) c.in-Err.ensures.memory
