use Rattle.std.proofs.lemmas.Result.{err_from_is_err_and}
use Rattle.program_limits.specs.Limits.{tree_limits}
use Rattle.source_compiler.specs.Compile.{IsNoProgram}
use Rattle.source_compiler.specs.Source.{read_program}
use Rattle.arc_top.specs.Loads.{files_state}
use Rattle.arc_top.proofs.Commands.{limits_stop}
use Rattle.arc_top.proofs.top.read_within.Goals as goal

pub returns-in_err-within_core-clause-stops : goal.returns-in_err-within_core-clause-stops
returns-in_err-within_core-clause-stops g c =
    let F = g.F.Files in
    let given = c.in_ok-program.ensures.typed in
    let old = c.args.files.now in
    let new = c.read_main.new.files in
    let p = err_from_is_err_and c.from_residual-in_err-within_core.result c.from_residual-in_err-within_core.ensures.1 in
    rw p.1 (limits_stop (λ (done : Unit {0}). tt) (IsNoProgram tree_limits c.args.main.now) tree_limits c.args.main.now given.0
    (read_program c.in_ok-program.program)
    (files_state (F.held old) (F.load_faults old) (F.store_faults old) (F.calls old))
    (files_state (F.held new) (F.load_faults new) (F.store_faults new) (F.calls new))
    given.1 given.2 _ p.0 (λ code at e down. down) c.in_err-within_core.ensures p.2)

pub returns-clause-taken : goal.returns-clause-taken
returns-clause-taken g c =
    let given = c.in_ok-program.ensures.typed in
    (given.0, given.1, given.2, c.in_ok-within_core.ensures)
