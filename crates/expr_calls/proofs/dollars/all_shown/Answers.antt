use Rattle.std.proofs.Common.{◌≡◌, Vec, Global, ◌++◌, ◌∷◌, [], length, ap, sym, subst, ◌∙◌, arith}
use Rattle.std.specs.Prelude.{map}
use Rattle.std.specs.Vec.{vec_len}
use Rattle.std.specs.Vec.Iter.{into_iter_items}
use Rattle.arc_base.specs.declared.place.Code.TheVariants.{NotTyped}
use Rattle.nim_program.specs.declared.expr.Operand.{Operand as Argument}
use Rattle.nim_program.specs.declared.expr.Operand.TheVariants as argument
use Rattle.nim_program.specs.View.{operands_of}
use Rattle.expr_rules.specs.Names.{all_shown}
use Rattle.expr_parts.specs.View.{OperandsWithin, operand_of, env_of}
use Rattle.expr_calls.specs.ViewCalls.{IsShown, shown_by}
use Rattle.expr_parts.proofs.ForCallers.{refuses}
use Rattle.expr_parts.proofs.ForCallers.{nothing_left}
use Rattle.expr_calls.proofs.Echoing.{none_before, one_shown, shown_all, shown_behind}
use Rattle.expr_calls.proofs.dollars.all_shown.Goals as goal

pub loop-operand-init : goal.loop-operand-init
loop-operand-init c =
    let os = into_iter_items c.into_iter-operand-iterator.result in
    let items : os ≡ c.args.operands.items = c.into_iter-operand-iterator.ensures.into_iter_gives.0 in
    let counted : vec_len c.args.operands ≡ length c.args.operands.items = search in
    record {
      count = c.into_iter-operand-iterator.ensures.into_iter_gives.1 ∙ counted ∙ sym (ap length items);
      operands = subst (OperandsWithin (length c.args.types.now)) (sym items) c.requires.operands;
      left = λ ts facts u.
          let env = env_of ts facts c.args.scope.now in
          let all = all_shown env (map (operand_of ts) c.args.operands.items) in
          none_before ts c.args.place all
          ∙ ap (λ done. shown_behind ts done c.args.place all) (sym c.new-shown.ensures.items)
          ∙ ap (λ xs. shown_behind ts c.new-shown.result.items c.args.place (all_shown env (map (operand_of ts) xs))) (sym items);
    }

pub loop-operand-preserved : goal.loop-operand-preserved
loop-operand-preserved c =
    let at = c.loop-operand in
    let x = c.in-Some.operand in
    let os = into_iter_items c.next.new.self in
    let n = length c.args.types.now in
    let steps : into_iter_items at.operand-iterator ≡ x ∷ os = c.in-Some.ensures.steps.0 in
    let pushed : c.push.new.self.items ≡ at.shown.items ++ argument.Value c.in-Some-shown_of.expr ∷ [] = c.in_ok-push-in-Some-shown_of.ensures.items in
    record {
      count = let was = at.invariant.count in let gone = c.in-Some.ensures.steps.1 in let short = ap length steps in omega arith;
      operands = (subst (OperandsWithin n) steps at.invariant.operands).1;
      left = λ ts facts u.
          let env = env_of ts facts c.args.scope.now in
          let h = subst (IsShown ts env (operand_of ts x)) c.in-Some-shown_of.is (c.shown_of.ensures ts facts u) in
          at.invariant.left ts facts u
          ∙ ap (λ xs. shown_behind ts at.shown.items c.args.place (all_shown env (map (operand_of ts) xs))) steps
          ∙ one_shown ts env at.shown.items c.args.place (operand_of ts x) (map (operand_of ts) os) c.in-Some-shown_of.expr h
          ∙ ap (λ done. shown_behind ts done c.args.place (all_shown env (map (operand_of ts) os))) (sym pushed);
    }

pub returns-in-None-shown_of : goal.returns-in-None-shown_of
returns-in-None-shown_of c = λ ts facts u.
    let at = c.loop-operand in
    let x = c.in-Some.operand in
    let os = into_iter_items c.next.new.self in
    let env = env_of ts facts c.args.scope.now in
    let steps : into_iter_items at.operand-iterator ≡ x ∷ os = c.in-Some.ensures.steps.0 in
    let h = subst (IsShown ts env (operand_of ts x)) c.in-None-shown_of.is (c.shown_of.ensures ts facts u) in
    refuses {T = Vec Argument Global} (λ os. operands_of ts os.items)
    (shown_by c.args.place (all_shown env (map (operand_of ts) c.args.operands.items))) NotTyped
    c.args.place c.refusal.result c.refusal.ensures
    (at.invariant.left ts facts u
    ∙ ap (λ xs. shown_behind ts at.shown.items c.args.place (all_shown env (map (operand_of ts) xs))) steps
    ∙ ap (shown_behind ts at.shown.items c.args.place) (h (map (operand_of ts) os)))

pub returns : goal.returns
returns c = λ ts facts u.
    let at = c.loop-operand in
    let env = env_of ts facts c.args.scope.now in
    let empty : into_iter_items at.operand-iterator ≡ [] = nothing_left (into_iter_items at.operand-iterator)
    (sym at.invariant.count ∙ c.in-None.ensures.steps.0) in
    at.invariant.left ts facts u
    ∙ ap (λ xs. shown_behind ts at.shown.items c.args.place (all_shown env (map (operand_of ts) xs))) empty
    ∙ shown_all ts env at.shown.items c.args.place
