use Rattle.std.proofs.Common.{ap, ◌∙◌, [], ◌∷◌, List}
use Rattle.nim_types.specs.Types.{Ty}
use Rattle.nim_program.specs.Nodes as nodes
use Rattle.nim_program.specs.Program as P
use Rattle.nim_program.specs.View.{expr_of, path_of}
use Rattle.decl_rules.specs.State.{does}
use Rattle.decl_parts.proofs.Branching.{one_step}
use Rattle.decl_parts.proofs.nodes.idle_with_two.Goals as goal

pub returns-clause-list : goal.returns-clause-list
returns-clause-list c =
    let whole = λ (ts : List Ty). does (P.Idle c.args.node (nodes.path_and_value (path_of ts c.args.path) (expr_of ts c.args.value))) ∷ [] in
    one_step whole c.idle.result c.list_of.result
    (λ ts. c.idle.ensures ts ∙ ap (λ (os : P.Args). does (P.Idle c.args.node os) ∷ []) (c.in_ok-parts.ensures.operands ts)) c.list_of.ensures.list
