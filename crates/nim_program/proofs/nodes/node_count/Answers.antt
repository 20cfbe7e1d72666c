use Rattle.std.proofs.Common.{◌∙◌, sym, ap, length}
use Rattle.nim_types.specs.Table.{types_in}
use Rattle.nim_program.specs.View.{stmts_of}
use Rattle.nim_program.specs.Folds.{lists, numbers, capped, node_numbers}
use Rattle.nim_program.specs.declared.nodes.TheConstants.{MOST_NODES}
use Rattle.nim_program.proofs.FoldLemmas.{mapped_of, counted}
use Rattle.nim_program.proofs.nodes.node_count.Goals as goal

pub returns : goal.returns
returns c =
    let block = stmts_of (types_in c.args.types.now) c.args.block.now.items in
    c.count_block.ensures ∙ ap (capped MOST_NODES) (sym (mapped_of lists numbers length counted node_numbers block))
