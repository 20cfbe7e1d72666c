use Rattle.std.proofs.Common.{◌∙◌, ap, sym, [], ◌∷◌, List, Bool}
use Rattle.std.specs.Prelude.{if◌then◌else◌}
use Rattle.nim_tree.specs.declared.stmt.AssignOp.TheVariants.{Set}
use Rattle.nim_types.specs.Types.{Ty}
use Rattle.nim_program.specs.Nodes.{path_and_value, assign}
use Rattle.nim_program.specs.Program as P
use Rattle.nim_program.specs.View.{expr_of, path_of as path_in}
use Rattle.decl_rules.specs.State.{Step, does}
use Rattle.decl_rules.specs.Values.{assigned}
use Rattle.decl_parts.proofs.ForCallers.{lists_as}
use Rattle.decl_stmts.proofs.assignments.set.Goals as goal

abbrev by : P.Stmt → P.Stmt → Bool → List Step
by s t b = does (if b then s else t) ∷ []

pub returns-then-is_itself-clause-list : goal.returns-then-is_itself-clause-list
returns-then-is_itself-clause-list c =
    let n = c.args.node in
    let path = λ (ts : List Ty). path_in ts c.args.path in
    let value = λ (ts : List Ty). expr_of ts c.args.value in
    lists_as (λ ts. does (assigned Set n (path ts) (value ts)) ∷ []) (λ ts. does (P.Idle n (path_and_value (path ts) (value ts))) ∷ [])
    c.idle_with_two.result
    (λ ts. ap (by (P.Idle n (path_and_value (path ts) (value ts))) (assign n (path ts) (value ts))) (sym c.if-is_itself.true ∙ c.is_itself.ensures ts))
    c.idle_with_two.ensures.list

pub returns-clause-list : goal.returns-clause-list
returns-clause-list c =
    let n = c.args.node in
    let path = λ (ts : List Ty). path_in ts c.args.path in
    let value = λ (ts : List Ty). expr_of ts c.args.value in
    lists_as (λ ts. does (assigned Set n (path ts) (value ts)) ∷ []) (λ ts. does (assign n (path ts) (value ts)) ∷ []) c.does_two.result
    (λ ts. ap (by (P.Idle n (path_and_value (path ts) (value ts))) (assign n (path ts) (value ts))) (sym c.if-is_itself.false ∙ c.is_itself.ensures ts))
    c.does_two.ensures.list
