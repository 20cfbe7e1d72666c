use Rattle.nim_program.specs.View.{path_of}
use Rattle.flattening.specs.declared.spans.TheConstants.{MOST}
use Rattle.flattening.specs.Numbering.{width_at}
use Rattle.flattening.specs.Views.{types_of}
use Rattle.flattening.proofs.Behind.{behind_counted}
use Rattle.flattening.proofs.spans.behind_path.Goals as goal

pub returns : goal.returns
returns c =
    behind_counted MOST c.args.t (width_at (path_of (types_of c.args.around.now) c.args.path.now)) c.count_path.result c.behind.result c.count_path.ensures
    c.behind.ensures.number c.behind.ensures.small
