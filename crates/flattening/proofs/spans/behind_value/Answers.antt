use Rattle.nim_program.specs.View.{expr_of}
use Rattle.flattening.specs.declared.spans.TheConstants.{MOST}
use Rattle.flattening.specs.Numbering.{width}
use Rattle.flattening.specs.Views.{types_of}
use Rattle.flattening.proofs.Behind.{behind_counted}
use Rattle.flattening.proofs.spans.behind_value.Goals as goal

pub returns : goal.returns
returns c =
    behind_counted MOST c.args.t (width (expr_of (types_of c.args.around.now) c.args.value.now)) c.count_expr.result c.behind.result c.count_expr.ensures
    c.behind.ensures.number c.behind.ensures.small
