use Rattle.std.proofs.Common.{refl}
use Rattle.arc_top.specs.Loads.{files_state}
use Rattle.arc_top.specs.Top.{file_most}
use Rattle.arc_top.proofs.Commands.{wants_behind}
use Rattle.arc_top.proofs.top.exec.Goals as goal

pub returns : goal.returns
returns g c =
    let F = g.F.Files in
    let old = c.args.files.now in
    let mid = c.load_file.new.files in
    record {
      executes = (
        wants_behind c.args.name.now c.in-Ok.bytes file_most
            (files_state (F.held old) (F.load_faults old) (F.store_faults old) (F.calls old))
            (files_state (F.held mid) (F.load_faults mid) (F.store_faults mid) (F.calls mid)) c.in-Ok.ensures.gives,
        refl,
      );
    }
