use Rattle.std.proofs.Common.{◌∙◌, rules}
use Rattle.arc_top.proofs.Pieces.{piece_written, front_written, whole_written, all_pieces}
use Rattle.arc_top.proofs.report.put_pieces.Goals as goal

pub returns-in_err-put_all : goal.returns-in_err-put_all
returns-in_err-put_all g c =
    let h = c.put_all.ensures.front in record {
      said = record {
        whole = search rules;
        same = search rules;
        front = front_written (λ piece. piece.now) _ _ _ c.args.pieces.now c.loop-piece.piece-index h.0 _ c.loop-piece-test.true
            c.loop-piece.invariant.grown h.1;
        rose = search rules;
      };
    }

pub loop-piece-preserved : goal.loop-piece-preserved
loop-piece-preserved g c = record {
  grown = piece_written (λ piece. piece.now) _ _ _ c.args.pieces.now c.loop-piece.piece-index _ c.loop-piece-test.true
      c.loop-piece.invariant.grown c.in_ok-put_all.ensures.bytes;
  faults = c.in_ok-put_all.ensures.cause.stays ∙ c.loop-piece.invariant.faults;
}

pub returns : goal.returns
returns g c =
    let all = all_pieces (λ piece. piece.now) _ _ c.args.pieces.now c.loop-piece.piece-index c.loop-piece-test.false c.loop-piece.invariant.grown in
    record { said = record { whole = all; same = c.loop-piece.invariant.faults; front = whole_written _ _ _ all; rose = tt } }
