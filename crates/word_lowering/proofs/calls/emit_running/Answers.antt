use Rattle.std.proofs.Common.{sym, subst}
use Rattle.word_lowering.specs.declared.may_lower.TheConstants.{MOST_ROOM}
use Rattle.word_lowering.specs.Layouts.{AllBeginBy}
use Rattle.word_lowering.specs.LineCode.{layout_at}
use Rattle.word_lowering.specs.Scope.{around_of}
use Rattle.word_lowering.proofs.CountedLayouts.{params_begin, places_at}
use Rattle.word_lowering.proofs.calls.emit_running.Goals as goal

pub emit_arguments-requires-clause-params : goal.emit_arguments-requires-clause-params
emit_arguments-requires-clause-params c =
    let x = around_of c.args.x.now in
    subst (AllBeginBy MOST_ROOM) (sym c.params_of.ensures)
    (params_begin MOST_ROOM (layout_at x c.args.proc).all (places_at x.layouts c.args.proc c.requires.layouts))
