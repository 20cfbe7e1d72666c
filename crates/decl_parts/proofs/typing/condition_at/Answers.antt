use Rattle.std.proofs.Common.{ap, List}
use Rattle.arc_base.specs.declared.place.Code.TheVariants.{NotTyped}
use Rattle.nim_tree.specs.declared.expr.Expr.{Expr as Tree}
use Rattle.nim_tree.specs.Terms.{parts_of}
use Rattle.nim_types.specs.Types.{Ty}
use Rattle.expr_rules.specs.Env.{Env}
use Rattle.expr_parts.proofs.ForCallers.{nothing_left}
use Rattle.decl_rules.specs.Values.{condition}
use Rattle.decl_parts.specs.View.{env_in, NumberedWithin}
use Rattle.decl_written.specs.ViewWritten.{numbered_of}
use Rattle.decl_parts.proofs.Judging.{typing_as, typing_refuses}
use Rattle.decl_parts.proofs.typing.condition_at.Goals as goal

pub returns-in-Some : goal.returns-in-Some
returns-in-Some c =
    let old = c.args.state.now in
    typing_as (λ (ts : List Ty) (env : Env). condition env old.node c.args.at (parts_of c.args.tests.now))
    (λ ts u. ap (λ (l : List Tree). condition (env_in ts old) old.node c.args.at (parts_of l)) c.in-Some.ensures.cases.0) c.condition_of.ensures

pub returns-in-None : goal.returns-in-None
returns-in-None c =
    let old = c.args.state.now in
    let said = λ (ts : List Ty) (env : Env). condition env old.node c.args.at (parts_of c.args.tests.now) in
    typing_refuses old numbered_of said NumberedWithin NotTyped c.args.at c.refusal.result c.refusal.ensures
    (λ ts. ap (λ (l : List Tree). condition (env_in ts old) old.node c.args.at (parts_of l)) (nothing_left c.args.tests.now c.in-None.ensures.cases))
