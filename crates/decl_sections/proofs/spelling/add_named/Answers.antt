use Rattle.std.proofs.Common.{[], length}
use Rattle.std.specs.Prelude.{map}
use Rattle.nim_types.specs.Table.{type_at}
use Rattle.decl_types.specs.ViewNodes.{node_types, node_type, names_env_of}
use Rattle.decl_sections.specs.ViewSpelled.{named_with}
use Rattle.decl_sections.proofs.Noding.{adds, adds_stops}
use Rattle.decl_sections.proofs.Productions.{passes}
use Rattle.decl_sections.proofs.spelling.add_named.Goals as goal

pub returns-in-Ok : goal.returns-in-Ok
returns-in-Ok c =
    adds c.args.out.now.items c.add.new.nodes.items c.in-Ok.node c.args.scope.now c.args.names.now
    (λ env done. named_with env c.args.at c.args.text.now (map (type_at done) c.args.given.now)) (λ _. []) c.add.result
    c.add.ensures.nodes c.add.ensures.number c.add.ensures.memory
    (λ ts before keys. c.in-Ok.ensures.answers ts before keys (node_types ts keys c.args.out.now.items)) c.in-Ok.ensures.formed
    (c.in-Ok.ensures.made (length c.args.out.now.items) c.requires) (λ n m o. c.in-Ok.ensures.sound n m o)

pub returns-in-Err : goal.returns-in-Err
returns-in-Err c =
    let out = c.args.out.now.items in
    adds_stops out out c.args.scope.now c.args.names.now (λ env done. named_with env c.args.at c.args.text.now (map (type_at done) c.args.given.now))
    (λ _. [])
    c.in-Err.stop
    (λ ts before keys done.
    passes (type_at done) (node_type ts keys (node_types ts keys out))
    (named_with (names_env_of ts before keys c.args.names.now c.args.scope.now) c.args.at c.args.text.now
    (map (type_at (node_types ts keys out)) c.args.given.now)) c.in-Err.stop (c.in-Err.ensures.answers ts before keys (node_types ts keys out)))
