use Rattle.std.proofs.Common.{inl, refl}
use Rattle.rv32_runner.specs.Streams.{feed, tally, streams}
use Rattle.source_compiler.specs.Source.{read_program}
use Rattle.source_compiler.specs.Compile.{source_most}
use Rattle.arc_top.specs.Loads.{files_state}
use Rattle.arc_top.proofs.Commands.{mean_told, wants_behind}
use Rattle.arc_top.proofs.top.mean_main.Goals as goal

pub returns-in-Ok-plan_of : goal.returns-in-Ok-plan_of
returns-in-Ok-plan_of g c =
    let F = g.F.Files in
    let I = g.I.Source in
    let O = g.O.Sink in
    let E = g.E.Sink in
    let given = c.in-Ok.ensures.taken in
    let old = c.args.files.now in
    let new = c.read_within.new.files in
    let input = c.args.input.now in
    let out = c.args.out.now in
    let err = c.args.err.now in
    let after = c.run_program.new in
    let program = read_program c.in-Ok.program in
    record {
      means = mean_told c.args.main.now given.0 c.args.heap c.args.steps program
          (files_state (F.held old) (F.load_faults old) (F.store_faults old) (F.calls old))
          (files_state (F.held new) (F.load_faults new) (F.store_faults new) (F.calls new))
          (streams (feed (I.left input) (I.ended input) (I.faults input) (I.gave input))
          (tally (O.written out) (O.faults out)) (tally (E.written err) (E.faults err)))
          (streams (feed (I.left after.input) (I.ended after.input) (I.faults after.input) (I.gave after.input))
          (tally (O.written after.out) (O.faults after.out)) (tally (E.written after.err) (E.faults after.err)))
          given.1 given.2 given.3 c.run_program.result c.run_program.ensures.ran;
    }

-- no memory for its plan
pub returns-in-Ok : goal.returns-in-Ok
returns-in-Ok g c =
    let F = g.F.Files in
    let given = c.in-Ok.ensures.taken in
    let old = c.args.files.now in
    let new = c.read_within.new.files in
    record {
      means = inl (
        wants_behind c.args.main.now given.0 source_most
            (files_state (F.held old) (F.load_faults old) (F.store_faults old) (F.calls old))
            (files_state (F.held new) (F.load_faults new) (F.store_faults new) (F.calls new)) given.1,
        refl,
      );
    }
