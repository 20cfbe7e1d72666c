use Rattle.std.proofs.Common.{◌∷◌, Bool, List, sym, ap, subst, ◌∙◌}
use Rattle.flat_code.specs.declared.block.BlockLine.{BlockLine}
use Rattle.flat_code.specs.declared.code.CodeProc.{CodeProc}
use Rattle.word_lowering.specs.Layouts.{layout_of, layouts, AreNumbers, AreCounted}
use Rattle.word_lowering.proofs.NextLayout.{empty_is, next_layout}
use Rattle.word_lowering.proofs.layouts.layouts.Goals as goal

pub layout_of-requires-clause-small : goal.layout_of-requires-clause-small
layout_of-requires-clause-small c =
    let table = c.args.types.now in
    let counted = subst (λ (ps : List (CodeProc BlockLine)). AreCounted (layouts table c.args.datum ps)) c.in-Some.ensures.cases.0
    c.loop-proc.invariant.counted in
    subst (λ (b : Bool). AreNumbers (layout_of table b c.args.datum c.in-Some.proc.now).free) (sym (c.is_empty.ensures ∙ empty_is c.in-Some.rest.now))
    counted.0.free

pub loop-proc-preserved : goal.loop-proc-preserved
loop-proc-preserved c =
    let table = c.args.types.now in
    let counted = subst (λ (ps : List (CodeProc BlockLine)). AreCounted (layouts table c.args.datum ps)) c.in-Some.ensures.cases.0
    c.loop-proc.invariant.counted in
    record {
      all = next_layout table c.args.datum c.args.procs.now c.loop-proc.left.now c.in-Some.rest.now c.in-Some.proc.now c.loop-proc.all
          c.push.new.self c.in_ok-own.own c.is_empty.result c.in-Some.ensures.cases.0 c.is_empty.ensures c.in_ok-own.ensures c.in_ok-push.ensures.ok
          c.loop-proc.invariant.all;
      counted = counted.1;
    }
