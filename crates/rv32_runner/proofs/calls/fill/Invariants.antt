use Rattle.std.specs.Prelude.{◌≡◌, ◌≤◌, ◌-◌, true}
use Rattle.rv32_isa.specs.Regions.{HasRegions}
use Rattle.rv32_isa.specs.State.{writable}
use Rattle.rv32_runner.specs.Streams.{feed}
use Rattle.rv32_runner.specs.Calls.{Part}
use Rattle.rv32_runner.proofs.calls.fill.Given as goal

abbrev pub invariant-loop-done : goal.invariant-loop-done
invariant-loop-done g l =
    let I = g.I.Source in
    record {
      within : l.done ≤ l.len;
      regions : HasRegions l.machine;
      may : writable l.machine l.at l.len ≡ true;
      part : Part l.initial.machine l.at
          (feed (I.left l.initial.input) (I.ended l.initial.input) (I.faults l.initial.input) (I.gave l.initial.input))
          l.done l.machine
          (feed (I.left l.input) (I.ended l.input) (I.faults l.input) (I.gave l.input));
      faults : I.faults l.input ≡ I.faults l.initial.input;
    }

abbrev pub decreases-loop-done : goal.decreases-loop-done
decreases-loop-done g l = l.len - l.done
