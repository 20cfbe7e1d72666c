use Rattle.std.proofs.Common.{◌≡◌, subst, inl, Ok, Err}
use Rattle.std.proofs.lemmas.Result.{err_from_is_err_and}
use Rattle.check_decls.specs.Modules.{program_in}
use Rattle.source_compiler.specs.Limits.{check_limits}
use Rattle.nim_plan.specs.declared.plan.Plan.{Plan}
use Rattle.core_compiler.specs.Limits as core
use Rattle.core_compiler.specs.Compile.{UnlessMemory, HasCodeWhereWithin, HasImageWhereBuilt}
use Rattle.plain_plan.specs.Plain.{plain_plan}
use Rattle.source_compiler.specs.Compile.{source_most}
use Rattle.source_compiler.specs.Source.{read_program}
use Rattle.source_compiler.proofs.ForCallers.{code_read, under_plan, within_same, image_same}
use Rattle.arc_top.specs.Loads.{files_state}
use Rattle.arc_top.specs.Top.{IsChecked, IsTurnedDown}
use Rattle.arc_top.proofs.Commands.{limits_stop, wants_behind}
use Rattle.arc_top.proofs.top.check_main.Goals as goal

pub returns-in_err-plan-clause-stops : goal.returns-in_err-plan-clause-stops
returns-in_err-plan-clause-stops g c =
    let F = g.F.Files in
    let given = c.in_ok-program.ensures.typed in
    let old = c.args.files.now in
    let new = c.read_main.new.files in
    let p = err_from_is_err_and c.from_residual-in_err-plan.result c.from_residual-in_err-plan.ensures.1 in
    rw p.1 (inl (
      p.2,
      wants_behind c.args.main.now given.0 source_most
          (files_state (F.held old) (F.load_faults old) (F.store_faults old) (F.calls old))
          (files_state (F.held new) (F.load_faults new) (F.store_faults new) (F.calls new)) given.1,
    ))

pub returns-in_err-check_core-clause-stops : goal.returns-in_err-check_core-clause-stops
returns-in_err-check_core-clause-stops g c =
    let F = g.F.Files in
    let given = c.in_ok-program.ensures.typed in
    let old = c.args.files.now in
    let new = c.read_main.new.files in
    let main = c.args.main.now in
    let program = program_in c.in_ok-program.program in
    let plain = plain_plan (read_program c.in_ok-program.program) in
    let plan = c.in_ok-plan.ensures.plain in
    let answer = c.in_err-check_core.ensures.answers in
    let p = err_from_is_err_and c.from_residual-in_err-check_core.result c.from_residual-in_err-check_core.ensures.1 in
    rw p.1 (limits_stop (λ (done : Unit {0}). tt) (IsTurnedDown check_limits main) (check_limits answer.0) main given.0 (read_program c.in_ok-program.program)
    (files_state (F.held old) (F.load_faults old) (F.store_faults old) (F.calls old))
    (files_state (F.held new) (F.load_faults new) (F.store_faults new) (F.calls new))
    given.1 given.2 _ p.0
    (λ code at e down. record {
      bytes = answer.0;
      code = code_read c.one_answer.ensures.program main given.0 (read_program c.in_ok-program.program) answer.0 given.2
          (within_same program plain (subst (λ p. HasCodeWhereWithin program p answer.0) plan
          (subst (λ s. UnlessMemory {T = Unit {0}} (Err s) (HasCodeWhereWithin program c.in_ok-plan.plan answer.0)) e answer.2)));
      refused = down;
    })
    (under_plan (Unit {0}) (λ (p : Plan). core.check_limits p answer.0 (read_program c.in_ok-program.program)) c.in_ok-plan.plan plain _ _ plan answer.1) p.2)

pub returns-clause-checked : goal.returns-clause-checked
returns-clause-checked g c =
    let given = c.in_ok-program.ensures.typed in
    let main = c.args.main.now in
    let program = program_in c.in_ok-program.program in
    let plain = plain_plan (read_program c.in_ok-program.program) in
    let plan = c.in_ok-plan.ensures.plain in
    let answer = c.in_ok-check_core.ensures.answers in
    let taken = subst (λ (p : Plan). core.check_limits p answer.0 (read_program c.in_ok-program.program) ≡ Ok tt) plan answer.1 in
    let is : IsChecked main given.0 = record {
      bytes = answer.0;
      code = code_read c.one_answer.ensures.program main given.0 (read_program c.in_ok-program.program) answer.0 given.2
          (within_same program plain (subst (λ p. HasCodeWhereWithin program p answer.0) plan answer.2));
      program = record { within = given.1.within; program = read_program c.in_ok-program.program; reads = given.2; taken = taken };
      image = image_same program plain (subst (λ p. HasImageWhereBuilt program p answer.0) plan answer.3);
    } in
    (given.0, given.1, is)
