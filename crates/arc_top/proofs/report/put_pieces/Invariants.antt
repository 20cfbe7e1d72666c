use Rattle.std.proofs.Common.{◌≡◌, take, map}
use Rattle.arc_base.specs.Outside.{Grown}
use Rattle.arc_top.specs.Report.{joined}
use Rattle.arc_top.proofs.report.put_pieces.Given as goal

abbrev pub invariant-loop-piece : goal.invariant-loop-piece
invariant-loop-piece g l = record {
  grown : Grown (g.E.Sink.written l.initial.err) (g.E.Sink.written l.err) (joined (take l.piece-index (map (λ piece. piece.now) l.pieces)));
  faults : g.E.Sink.faults l.err ≡ g.E.Sink.faults l.initial.err;
}
