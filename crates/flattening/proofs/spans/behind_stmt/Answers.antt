use Rattle.nim_program.specs.Program.{Empty}
use Rattle.nim_program.specs.View.{stmt_before}
use Rattle.flattening.specs.declared.spans.TheConstants.{MOST}
use Rattle.flattening.specs.Numbering.{width_of}
use Rattle.flattening.specs.Views.{types_of}
use Rattle.flattening.proofs.Behind.{behind_counted}
use Rattle.flattening.proofs.spans.behind_stmt.Goals as goal

pub returns : goal.returns
returns c =
    behind_counted MOST c.args.t (width_of (stmt_before (types_of c.args.around.now) c.args.stmt.now Empty)) c.count_stmt.result c.behind.result
    c.count_stmt.ensures c.behind.ensures.number c.behind.ensures.small
