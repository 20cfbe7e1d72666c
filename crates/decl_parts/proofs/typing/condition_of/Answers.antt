use Rattle.std.proofs.Common.{◌∙◌, ap, sym, List}
use Rattle.arc_base.specs.declared.place.Code.TheVariants.{NotTyped}
use Rattle.nim_tree.specs.declared.expr.Expr.{Expr as Tree}
use Rattle.nim_tree.specs.Terms.{term_of, parts_of, part}
use Rattle.nim_types.specs.Types.{Ty}
use Rattle.expr_rules.specs.Env.{Env}
use Rattle.expr_parts.proofs.ForCallers.{nothing_left, bool_under, bool_below}
use Rattle.decl_rules.specs.Values.{value_as, condition}
use Rattle.decl_parts.specs.View.{env_in, NumberedWithin}
use Rattle.decl_written.specs.ViewWritten.{numbered_of}
use Rattle.decl_parts.proofs.Judging.{typing_as, typing_refuses}
use Rattle.decl_parts.proofs.typing.condition_of.Goals as goal

pub returns-in-None : goal.returns-in-None
returns-in-None c =
    let old = c.args.state.now in
    let t = term_of c.args.test.now in
    typing_as (λ (ts : List Ty) (env : Env). condition env old.node c.args.at (part t (parts_of c.args.more.now)))
    (λ ts u. ap (λ (l : List Tree). condition (env_in ts old) old.node c.args.at (part t (parts_of l))) (nothing_left c.args.more.now c.in-None.ensures.cases)
    ∙ ap (λ (ty : Ty). value_as (env_in ts old) ty old.node t)
    (sym (bool_under u (c.value_as_at.ensures.grown.kinds old.scope.kinds c.requires.ready.all.kinds))))
    c.value_as_at.ensures

pub returns-in-Some : goal.returns-in-Some
returns-in-Some c =
    let old = c.args.state.now in
    let said = λ (ts : List Ty) (env : Env). condition env old.node c.args.at (part (term_of c.args.test.now) (parts_of c.args.more.now)) in
    typing_refuses old numbered_of said NumberedWithin NotTyped c.args.at c.refusal.result c.refusal.ensures
    (λ ts. ap (λ (l : List Tree). condition (env_in ts old) old.node c.args.at (part (term_of c.args.test.now) (parts_of l))) c.in-Some.ensures.cases.0)

pub value_as_at-requires-clause-ty : goal.value_as_at-requires-clause-ty
value_as_at-requires-clause-ty c = bool_below c.requires.ready.all.kinds
