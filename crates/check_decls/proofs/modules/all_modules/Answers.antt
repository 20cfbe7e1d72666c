use Rattle.std.proofs.Common.{◌+◌, ap, drop, arith}
use Rattle.std.proofs.Common.{drop_of_length-le}
use Rattle.nim_tree.specs.Statements.{statements_of}
use Rattle.decl_rules.specs.Elaborated.{modules_stated, module_stated}
use Rattle.check_decls.specs.Modules.{in_order}
use Rattle.check_decls.proofs.Drafts.{carried_whole, carried_goes, carried_stops, carried_ends, next_module}
use Rattle.check_decls.proofs.modules.all_modules.Goals as goal

pub loop-i-init : goal.loop-i-init
loop-i-init c = record {
  carried = carried_whole c.args.draft.now (λ st. modules_stated st (in_order c.args.modules.now c.args.order.now)) c.requires.sound;
  reached = c.requires.reached;
}

pub loop-i-preserved : goal.loop-i-preserved
loop-i-preserved c =
    let at = c.loop-i in
    let order = c.args.order.now in
    let modules = c.args.modules.now in
    let rest = in_order modules (drop (at.i + 1) order) in
    let number = c.number_at-number.result in
    let body = statements_of c.body_at.result.now in
    record {
      carried = carried_goes (λ st. module_stated st (record { number = number; body = body })) (λ st. modules_stated st rest) at.invariant.carried
          (λ st. next_module st modules order at.i number body c.body_at.ensures c.number_at-number.ensures) c.in-Ok.ensures.carrying;
      reached = c.in-Ok.ensures.reached;
    }

pub returns : goal.returns
returns c =
    let order = c.args.order.now in
    carried_ends tt c.loop-i.invariant.carried
    (λ st. ap (λ l. modules_stated st (in_order c.args.modules.now l)) (drop_of_length-le order (omega (arith, c.loop-i-test.false))))

pub returns-in-Err : goal.returns-in-Err
returns-in-Err c =
    let at = c.loop-i in
    let order = c.args.order.now in
    let modules = c.args.modules.now in
    let rest = in_order modules (drop (at.i + 1) order) in
    let number = c.number_at-number.result in
    let body = statements_of c.body_at.result.now in
    carried_stops (λ st. module_stated st (record { number = number; body = body })) (λ st. modules_stated st rest) at.invariant.carried
    (λ st. next_module st modules order at.i number body c.body_at.ensures c.number_at-number.ensures) c.in-Err.ensures.carrying

pub module-requires-clause-sound : goal.module-requires-clause-sound
module-requires-clause-sound c = c.loop-i.invariant.carried.sound

pub module-requires-clause-reached : goal.module-requires-clause-reached
module-requires-clause-reached c = c.loop-i.invariant.reached
