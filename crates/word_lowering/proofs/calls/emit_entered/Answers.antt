use Rattle.std.proofs.Common.{Option, List, ◌∙◌, sym, ap, subst}
use Rattle.std.specs.Prelude.{IfSome}
use Rattle.word_lowering.specs.declared.homes.Housed.{Housed}
use Rattle.word_lowering.specs.declared.may_lower.TheConstants.{MOST_ROOM}
use Rattle.word_lowering.specs.Layouts.{BeginsBy, result_in}
use Rattle.word_lowering.specs.LineCode.{layout_at}
use Rattle.word_lowering.specs.Scope.{around_of}
use Rattle.word_lowering.proofs.CountedLayouts.{result_begins, places_at}
use Rattle.word_lowering.proofs.calls.emit_entered.Goals as goal

pub emit_result-requires-clause-own : goal.emit_result-requires-clause-own
emit_result-requires-clause-own c =
    let x = around_of c.args.x.now in
    subst (λ (o : Option Housed). IfSome o (λ r. BeginsBy MOST_ROOM r.home))
    (sym (c.result_in.ensures ∙ ap (λ (hs : List Housed). result_in hs) c.places_of.ensures))
    (result_begins MOST_ROOM (layout_at x c.args.proc).all (places_at x.layouts c.args.proc c.requires.layouts))
