use Rattle.std.proofs.Common.{ap, sym, [], ◌∷◌, List}
use Rattle.nim_tree.specs.declared.stmt.AssignOp.{AssignOp}
use Rattle.nim_tree.specs.declared.stmt.AssignOp.TheVariants as sign
use Rattle.nim_types.specs.Types.{Ty}
use Rattle.nim_program.specs.View.{expr_of, path_of as path_in}
use Rattle.decl_rules.specs.State.{does}
use Rattle.decl_rules.specs.Values.{assigned}
use Rattle.decl_parts.proofs.ForCallers.{lists_as}
use Rattle.decl_stmts.proofs.assignments.written.Goals as goal

pub returns-in-Set-clause-list : goal.returns-in-Set-clause-list
returns-in-Set-clause-list c =
    let by = λ (op : AssignOp) (ts : List Ty). does (assigned op c.args.node (path_in ts c.args.path) (expr_of ts c.args.value)) ∷ [] in
    lists_as (by c.args.op) (by sign.Set) c.set.result (λ ts. ap (λ op. by op ts) (sym c.in-Set.is)) c.set.ensures.list

pub returns-in-Plus-clause-list : goal.returns-in-Plus-clause-list
returns-in-Plus-clause-list c =
    let by = λ (op : AssignOp) (ts : List Ty). does (assigned op c.args.node (path_in ts c.args.path) (expr_of ts c.args.value)) ∷ [] in
    lists_as (by c.args.op) (by sign.Plus) c.updated.result (λ ts. ap (λ op. by op ts) (sym c.in-Plus.is)) c.updated.ensures.list

pub returns-in-Minus-clause-list : goal.returns-in-Minus-clause-list
returns-in-Minus-clause-list c =
    let by = λ (op : AssignOp) (ts : List Ty). does (assigned op c.args.node (path_in ts c.args.path) (expr_of ts c.args.value)) ∷ [] in
    lists_as (by c.args.op) (by sign.Minus) c.updated-in-Minus.result (λ ts. ap (λ op. by op ts) (sym c.in-Minus.is)) c.updated-in-Minus.ensures.list

pub returns-in-Times-clause-list : goal.returns-in-Times-clause-list
returns-in-Times-clause-list c =
    let by = λ (op : AssignOp) (ts : List Ty). does (assigned op c.args.node (path_in ts c.args.path) (expr_of ts c.args.value)) ∷ [] in
    lists_as (by c.args.op) (by sign.Times) c.updated-in-Times.result (λ ts. ap (λ op. by op ts) (sym c.in-Times.is)) c.updated-in-Times.ensures.list

pub returns-in-Join-clause-list : goal.returns-in-Join-clause-list
returns-in-Join-clause-list c =
    let by = λ (op : AssignOp) (ts : List Ty). does (assigned op c.args.node (path_in ts c.args.path) (expr_of ts c.args.value)) ∷ [] in
    lists_as (by c.args.op) (by sign.Join) c.does_two.result (λ ts. ap (λ op. by op ts) (sym c.in-Join.is)) c.does_two.ensures.list
