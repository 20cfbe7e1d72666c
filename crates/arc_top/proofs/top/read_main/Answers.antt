use Rattle.std.proofs.Common.{ℕ, List}
use Rattle.program_limits.specs.Limits.{tree_limits}
use Rattle.source_compiler.specs.Limits.{check_limits}
use Rattle.source_compiler.specs.Limits.{Limits}
use Rattle.source_compiler.specs.Compile.{IsNoProgram}
use Rattle.source_compiler.proofs.ForCallers.{unread}
use Rattle.arc_top.specs.Loads.{files_state}
use Rattle.arc_top.specs.Top.{IsTurnedDown}
use Rattle.arc_top.proofs.Commands.{turned_away}
use Rattle.arc_top.proofs.top.read_main.Goals as goal

pub returns-in-Ok-clause-typed : goal.returns-in-Ok-clause-typed
returns-in-Ok-clause-typed g c =
    (c.as_slice.result.now, rw c.as_slice.ensures c.in_ok-source.ensures.gives, c.in-Ok.ensures.reads c.args.main.now)

pub returns-clause-stops_check : goal.returns-clause-stops_check
returns-clause-stops_check g c =
    let F = g.F.Files in
    let old = c.args.files.now in
    let new = c.load_file.new.files in
    let main = c.args.main.now in
    let source = c.as_slice.result.now in
    turned_away (IsTurnedDown check_limits main) main source (λ code at. (limits : Limits) (name : List ℕ) → IsNoProgram limits name source code at)
    (λ code at down. record { bytes = 0; code = unread c.one_answer.ensures.not_both source code at down main 0; refused = down (check_limits 0) main })
    c.in-Err.why c.refuse.result
    (files_state (F.held old) (F.load_faults old) (F.store_faults old) (F.calls old))
    (files_state (F.held new) (F.load_faults new) (F.store_faults new) (F.calls new))
    (rw c.as_slice.ensures c.in_ok-source.ensures.gives) c.refuse.ensures c.in-Err.ensures.refused

pub returns-clause-stops_mean : goal.returns-clause-stops_mean
returns-clause-stops_mean g c =
    let F = g.F.Files in
    let old = c.args.files.now in
    let new = c.load_file.new.files in
    let main = c.args.main.now in
    let source = c.as_slice.result.now in
    turned_away (IsNoProgram tree_limits main) main source (λ code at. (limits : Limits) (name : List ℕ) → IsNoProgram limits name source code at)
    (λ code at down. down tree_limits main) c.in-Err.why c.refuse.result
    (files_state (F.held old) (F.load_faults old) (F.store_faults old) (F.calls old))
    (files_state (F.held new) (F.load_faults new) (F.store_faults new) (F.calls new))
    (rw c.as_slice.ensures c.in_ok-source.ensures.gives) c.refuse.ensures c.in-Err.ensures.refused
