use Rattle.nim_program.specs.View.{operands_of}
use Rattle.flattening.specs.declared.spans.TheConstants.{MOST}
use Rattle.flattening.specs.Numbering.{widths}
use Rattle.flattening.specs.Views.{types_of}
use Rattle.flattening.proofs.Behind.{behind_counted}
use Rattle.flattening.proofs.spans.behind_operands.Goals as goal

pub returns : goal.returns
returns c =
    behind_counted MOST c.args.t (widths (operands_of (types_of c.args.around.now) c.args.operands.now.items)) c.count_operands.result c.behind.result
    c.count_operands.ensures c.behind.ensures.number c.behind.ensures.small
