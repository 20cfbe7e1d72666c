use Rattle.std.proofs.Common.{◌++◌, ap, sym, ◌∙◌}
use Rattle.std.specs.Prelude.{map, option_map}
use Rattle.std.proofs.lemmas.List.{append-nil}
use Rattle.nim_program.specs.declared.program.Proc.{Proc}
use Rattle.nim_program.specs.View.{body_of, param_of}
use Rattle.flattening.specs.Views.{types_of, facts_of, modes_of}
use Rattle.flattening.specs.PlaceViews.{marked, code_proc}
use Rattle.flattening.proofs.ExprPuts.{drop_end}
use Rattle.flattening.proofs.program.each_proc.Goals as goal

pub returns : goal.returns
returns c =
    let a = c.args.around.now in
    let ts = types_of a in
    let one = λ (proc : Proc). code_proc ts (facts_of a) (modes_of a) a.sinks.now (marked c.args.globals.now.items) proc.hook
    (map (param_of ts) proc.params) (option_map (body_of ts) proc.body) in
    let none = drop_end c.args.procs.now.items c.deref-proc-items.result.now c.loop-proc.proc-index c.deref-proc-items.ensures.value c.loop-proc-test.false in
    sym (append-nil c.loop-proc.all) ∙ ap (λ ys. c.loop-proc.all ++ map one ys) (sym none) ∙ c.loop-proc.invariant
