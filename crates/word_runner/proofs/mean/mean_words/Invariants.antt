use Rattle.std.proofs.Common.{◌+◌, ◌-◌, ◌^◌, length}
use Rattle.std.specs.Prelude.{if◌then◌else◌}
use Rattle.rv32_runner.specs.Streams.{feed}
use Rattle.word_runner.specs.Sinks.{told}
use Rattle.word_runner.specs.Under.{Under}
use Rattle.word_runner.proofs.mean.mean_words.Given as goal

abbrev pub ghost-go : goal.ghost-go
ghost-go g a = g.most a.run.now.input.taken.items

abbrev pub invariant-takes : goal.invariant-takes
invariant-takes g l =
    Under l.code l.heap l.units
    (feed (g.I.Source.left l.initial.input) (g.I.Source.ended l.initial.input) (g.I.Source.faults l.initial.input) (g.I.Source.gave l.initial.input))
    l.run
    (feed (g.I.Source.left l.input) (g.I.Source.ended l.input) (g.I.Source.faults l.input) (g.I.Source.gave l.input))
    (told (g.O.Sink.written l.initial.out) (g.O.Sink.written l.out) (g.O.Sink.faults l.initial.out) (g.O.Sink.faults l.out))
    (told (g.E.Sink.written l.initial.err) (g.E.Sink.written l.err) (g.E.Sink.faults l.initial.err) (g.E.Sink.faults l.err))

abbrev pub decreases-takes : goal.decreases-takes
decreases-takes g l = 2 ^ 64 - length l.run.input.taken.items + (if l.run.input.ended then 0 else 1)
