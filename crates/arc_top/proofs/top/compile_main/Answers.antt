use Rattle.arc_top.specs.Loads.{files_state}
use Rattle.arc_top.proofs.Commands.{compiling_stops}
use Rattle.arc_top.proofs.top.compile_main.Goals as goal

pub returns-in-Ok-clause-compiled : goal.returns-in-Ok-clause-compiled
returns-in-Ok-clause-compiled g c =
    let compiled = c.in-Ok.ensures.compiled c.args.main.now in
    (c.as_slice.result.now, rw c.as_slice.ensures c.in_ok-source.ensures.gives, compiled)

pub returns-clause-stops : goal.returns-clause-stops
returns-clause-stops g c =
    let F = g.F.Files in
    let old = c.args.files.now in
    let new = c.load_file.new.files in
    let decided = c.in-Err.ensures.decided in
    compiling_stops c.args.main.now c.as_slice.result.now decided.0 c.in-Err.why c.refuse.result
    (files_state (F.held old) (F.load_faults old) (F.store_faults old) (F.calls old))
    (files_state (F.held new) (F.load_faults new) (F.store_faults new) (F.calls new))
    (rw c.as_slice.ensures c.in_ok-source.ensures.gives) c.refuse.ensures decided.1
