use Rattle.std.proofs.Common.{◌∙◌, ap, sym, [], ◌∷◌, List, Bool, false}
use Rattle.std.specs.Prelude.{if◌then◌else◌}
use Rattle.nim_types.specs.Types.{Ty}
use Rattle.nim_program.specs.Nodes.{one_value}
use Rattle.nim_program.specs.Program as P
use Rattle.nim_program.specs.View.{expr_of}
use Rattle.decl_rules.specs.State.{Step, does}
use Rattle.decl_rules.specs.Values.{gives_last}
use Rattle.decl_parts.specs.View.{if_result}
use Rattle.decl_parts.proofs.ForCallers.{one_step, lists_as}
use Rattle.decl_stmts.proofs.statements.given_last.Goals as goal

abbrev by : P.Stmt → P.Stmt → Bool → List Step
by s t b = does (if b then s else t) ∷ []

pub returns-then-is_result-clause-list : goal.returns-then-is_result-clause-list
returns-then-is_result-clause-list c =
    let value = λ (ts : List Ty). expr_of ts c.args.value in
    let whole = λ (ts : List Ty). does (gives_last (if_result ts c.args.place) c.args.node (value ts)) ∷ [] in
    let kept = λ (ts : List Ty). P.Idle c.args.node (one_value (value ts)) in
    let given = λ (ts : List Ty). P.Give c.args.node false (value ts) in
    lists_as whole (λ ts. does (kept ts) ∷ []) c.idle_with.result
    (λ ts. ap (by (kept ts) (given ts)) (sym c.if-is_result.true ∙ c.is_result.ensures ts)) c.idle_with.ensures.list

pub returns-clause-list : goal.returns-clause-list
returns-clause-list c =
    let value = λ (ts : List Ty). expr_of ts c.args.value in
    let whole = λ (ts : List Ty). does (gives_last (if_result ts c.args.place) c.args.node (value ts)) ∷ [] in
    let kept = λ (ts : List Ty). P.Idle c.args.node (one_value (value ts)) in
    let given = λ (ts : List Ty). P.Give c.args.node false (value ts) in
    one_step whole c.gives.result c.list_of.result
    (λ ts. c.gives.ensures ts ∙ ap (by (kept ts) (given ts)) (sym c.if-is_result.false ∙ c.is_result.ensures ts)) c.list_of.ensures.list
