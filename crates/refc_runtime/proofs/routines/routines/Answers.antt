use Rattle.refc_runtime.proofs.Whole.{all_put}
use Rattle.refc_runtime.proofs.routines.routines.Goals as goal

pub returns : goal.returns
returns c =
    all_put c.in_ok-copy_routine.field-0 c.in_ok-clear_routine.field-0 c.in_ok-swap_routine.field-0 c.in_ok-number_routine.field-0
    c.new-procs.result c.push.new.self c.push-2.new.self c.push-3.new.self c.push-4.new.self c.push_traps.new.procs
    c.new-procs.ensures c.in_ok-push.ensures.ok c.in_ok-push-2.ensures.ok c.in_ok-push-3.ensures.ok c.in_ok-push-4.ensures.ok
    c.in_ok-push_traps.ensures c.in_ok-copy_routine.ensures c.in_ok-clear_routine.ensures c.in_ok-swap_routine.ensures c.in_ok-number_routine.ensures
