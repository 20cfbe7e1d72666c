use Rattle.nim_program.specs.View.{stmts_of}
use Rattle.flattening.specs.declared.spans.TheConstants.{MOST}
use Rattle.flattening.specs.Numbering.{width_of}
use Rattle.flattening.specs.Views.{types_of}
use Rattle.flattening.proofs.Behind.{behind_counted}
use Rattle.flattening.proofs.spans.behind_block.Goals as goal

pub returns : goal.returns
returns c =
    behind_counted MOST c.args.t (width_of (stmts_of (types_of c.args.around.now) c.args.block.now.items)) c.count_block.result c.behind.result
    c.count_block.ensures c.behind.ensures.number c.behind.ensures.small
