use Rattle.std.specs.Prelude.{◌≤◌, ◌-◌}
use Rattle.rv32_isa.specs.Regions.{HasRegions}
use Rattle.rv32_runner.specs.Streams.{feed, tally, streams}
use Rattle.rv32_runner.specs.Runs.{Carried}
use Rattle.rv32_runner.proofs.runner.go.Given as goal

abbrev pub invariant-loop-left : goal.invariant-loop-left
invariant-loop-left g l =
    let I = g.I.Source in
    let O = g.O.Sink in
    let E = g.E.Sink in
    record {
      within : l.left ≤ l.n;
      regions : HasRegions l.machine;
      carried : Carried (l.n - l.left)
          (streams
          (feed (I.left l.initial.input) (I.ended l.initial.input) (I.faults l.initial.input) (I.gave l.initial.input))
          (tally (O.written l.initial.out) (O.faults l.initial.out))
          (tally (E.written l.initial.err) (E.faults l.initial.err)))
          l.initial.machine l.machine
          (streams
          (feed (I.left l.input) (I.ended l.input) (I.faults l.input) (I.gave l.input))
          (tally (O.written l.out) (O.faults l.out))
          (tally (E.written l.err) (E.faults l.err)));
    }

abbrev pub decreases-loop-left : goal.decreases-loop-left
decreases-loop-left g l = l.left
