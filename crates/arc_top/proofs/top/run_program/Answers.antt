use Rattle.std.proofs.Common.{ℕ, List, ap, subst, ◌∙◌}
use Rattle.std.proofs.Math.Path.{fun_ext}
use Rattle.arc_base.specs.Event.{Event}
use Rattle.arc_base.specs.Behaviour.{Behaviour}
use Rattle.nim_plan.specs.declared.plan.Plan.{Plan}
use Rattle.nim_meaning.specs.Meaning.{meaning}
use Rattle.core_compiler.specs.Mean.{CameTo}
use Rattle.rv32_runner.specs.Streams.{feed, tally}
use Rattle.check_decls.specs.Modules.{program_in}
use Rattle.plain_plan.specs.Plain.{plain_plan}
use Rattle.source_compiler.specs.Source.{read_program}
use Rattle.source_compiler.proofs.ForCallers.{meaning_same}
use Rattle.arc_top.specs.Top.{told}
use Rattle.arc_top.proofs.top.run_program.Goals as goal

pub returns : goal.returns
returns g c =
    let I = g.I.Source in
    let O = g.O.Sink in
    let E = g.E.Sink in
    let program = program_in c.args.program.now in
    let out = c.args.out.now in
    let err = c.args.err.now in
    let input = c.args.input.now in
    let new = c.mean_core-end.new in
    record {
      ran = record {
        end = c.mean_core-end.result;
        came = subst (λ (meant : (input : List ℕ) → Behaviour Event). CameTo (λ input. meant input c.args.steps)
            (feed (I.left input) (I.ended input) (I.faults input) (I.gave input)) c.mean_core-end.result
            (feed (I.left new.input) (I.ended new.input) (I.faults new.input) (I.gave new.input))
            (told (tally (O.written out) (O.faults out)) (tally (O.written new.out) (O.faults new.out)))
            (told (tally (E.written err) (E.faults err)) (tally (E.written new.err) (E.faults new.err))))
            (fun_ext (λ input. ap (λ (p : Plan). meaning program p c.args.heap input) c.requires.plain
            ∙ meaning_same program (plain_plan (read_program c.args.program.now)) c.args.heap input))
            c.mean_core-end.ensures.came;
        ends = c.mean_core-end.ensures.ends;
        answers = c.meant.ensures;
      };
    }
