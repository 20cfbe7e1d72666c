use Rattle.std.proofs.Common.{ap, sym, ◌∙◌, [], ◌∷◌, Bool, List}
use Rattle.std.specs.Prelude.{Ok}
use Rattle.arc_base.specs.declared.place.Code.TheVariants.{NotTyped}
use Rattle.arc_base.specs.Refusal.{and_then, refused}
use Rattle.nim_types.specs.Types.{Ty}
use Rattle.nim_program.specs.declared.expr.Node.{Node}
use Rattle.nim_program.specs.Program.{Stmt}
use Rattle.nim_program.specs.View.{expr_of}
use Rattle.expr_parts.proofs.ForCallers.{refuses}
use Rattle.decl_rules.specs.State.{does}
use Rattle.decl_rules.specs.Values.{given_if, gives_last}
use Rattle.decl_parts.specs.View.{if_result}
use Rattle.decl_stmts.specs.ViewStated.{listed_steps}
use Rattle.decl_stmts.proofs.Made.{list_answers}
use Rattle.decl_stmts.proofs.statements.evaluated_as.Goals as goal

pub returns-then-not-accepts : goal.returns-then-not-accepts
returns-then-not-accepts c = λ ts.
    let e = expr_of ts c.args.value in
    let by = λ (k : Bool). and_then (given_if k (if_result ts c.args.ends) c.args.node e) (λ (s : Stmt). Ok (does s ∷ [])) in
    refuses (listed_steps ts) (by c.args.accepts) NotTyped c.node.result.at c.refusal.result c.refusal.ensures
    (ap by c.if-not-accepts.true ∙ ap (λ (n : Node). refused NotTyped n.at) (sym (c.node.ensures ts)))

pub returns : goal.returns
returns c = λ ts.
    let by = λ (k : Bool). and_then (given_if k (if_result ts c.args.ends) c.args.node (expr_of ts c.args.value)) (λ (s : Stmt). Ok (does s ∷ [])) in
    list_answers ts (by c.args.accepts) (λ (us : List Ty). does (gives_last (if_result us c.args.ends) c.args.node (expr_of us c.args.value)) ∷ [])
    c.given_last.result (ap by c.if-not-accepts.false) c.given_last.ensures.list c.given_last.ensures.memory
