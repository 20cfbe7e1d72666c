use Rattle.std.proofs.Common.{◌∙◌, sym}
use Rattle.nim_types.specs.Table.{types_in}
use Rattle.nim_program.specs.View.{stmts_of}
use Rattle.nim_program.specs.Folds.{lists, greatest, greatest_of, node_numbers}
use Rattle.nim_program.proofs.FoldLemmas.{mapped_of, greatest_maps}
use Rattle.nim_program.proofs.nodes.greatest_node.Goals as goal

pub returns : goal.returns
returns c =
    let block = stmts_of (types_in c.args.types.now) c.args.block.now.items in
    c.total_of.ensures ∙ sym (mapped_of lists greatest greatest_of greatest_maps node_numbers block)
