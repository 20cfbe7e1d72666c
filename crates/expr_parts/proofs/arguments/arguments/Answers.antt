use Rattle.std.proofs.Common.{◌≡◌, Vec, Global, ◌++◌, ◌∷◌, [], length, ap, sym, subst, ◌∙◌, Some, arith}
use Rattle.std.specs.Prelude.{map, Ok, Err}
use Rattle.std.specs.Vec.{vec_len}
use Rattle.std.specs.Vec.Iter.{into_iter_items}
use Rattle.arc_base.specs.Refusal.{Answers}
use Rattle.nim_program.specs.declared.expr.Operand.{Operand}
use Rattle.nim_program.specs.View.{operands_of, path_of as path_in}
use Rattle.expr_rules.specs.Calls.{argument_by, arguments_by, arguments_for}
use Rattle.expr_parts.specs.View.{ParametersWithin, OperandsWithin, operand_of, parameter_of, argument_of, paths_in, do_fit}
use Rattle.expr_parts.proofs.Arguing.{ArgumentsLeft}
use Rattle.expr_parts.proofs.Arguing.{one_argument, no_argument, no_more, none_yet, nothing_left}
use Rattle.expr_parts.proofs.Choosing.{fit_first}
use Rattle.expr_parts.proofs.arguments.arguments.Goals as goal

pub loop-operand-init : goal.loop-operand-init
loop-operand-init c =
    let os = into_iter_items c.into_iter-operand-iterator.result in
    let ps = c.args.params.now in
    let items : os ≡ c.args.operands.items = c.into_iter-operand-iterator.ensures.into_iter_gives.0 in
    let counted : vec_len c.args.operands ≡ length c.args.operands.items = search in
    record {
      count = c.into_iter-operand-iterator.ensures.into_iter_gives.1 ∙ counted ∙ sym (ap length items);
      params = c.requires.params;
      operands = subst (OperandsWithin (length c.args.types.now)) (sym items) c.requires.operands;
      fits = ap (do_fit c.args.types.now ps) items ∙ c.requires.fits;
      left = λ ts facts u given h.
          subst (λ d. ArgumentsLeft ts ps os d (arguments_by [] given)) (sym c.new-args.ensures.items)
          (none_yet ts ps os given
          (subst (λ all. arguments_for (map (parameter_of ts) ps) (map (operand_of ts) all) ≡ Some given) (sym items) h));
    }

pub loop-operand-preserved : goal.loop-operand-preserved
loop-operand-preserved c =
    let at = c.loop-operand in
    let x = c.in-Some.operand in
    let os = into_iter_items c.next.new.self in
    let p = c.in-Some-split_first.param.now in
    let ps = c.in-Some-split_first.others.now in
    let n = length c.args.types.now in
    let steps : into_iter_items at.operand-iterator ≡ x ∷ os = c.in-Some.ensures.steps.0 in
    let params : at.rest.now ≡ p ∷ ps = c.in-Some-split_first.ensures.cases.0 in
    let pushed : c.push.new.self.items ≡ at.args.items ++ c.in-Ok.arg ∷ [] = c.in_ok-push-in-Ok.ensures.items in
    record {
      count = let was = at.invariant.count in let gone = c.in-Some.ensures.steps.1 in let short = ap length steps in omega arith;
      params = (subst (ParametersWithin n) params at.invariant.params).1;
      operands = (subst (OperandsWithin n) steps at.invariant.operands).1;
      fits = (fit_first c.args.types.now at.rest.now (into_iter_items at.operand-iterator) p ps x os params steps at.invariant.fits).1;
      left = λ ts facts u given h.
          let said = arguments_by [] given in
          let l = subst (λ all. ArgumentsLeft ts at.rest.now all at.args.items said) steps (at.invariant.left ts facts u given h) in
          let m = subst (λ all. ArgumentsLeft ts all (x ∷ os) at.args.items said) params l in
          subst (λ d. ArgumentsLeft ts ps os d said) (sym pushed)
          (one_argument ts p ps x os at.args.items said c.in-Ok.arg m
          (λ v e. subst (λ before. argument_by (map (path_in ts) (paths_in before)) p.mode v ≡ Ok (argument_of ts c.in-Ok.arg)) c.as_slice.ensures.value
          (c.in-Ok.ensures ts facts u v e)));
    }

pub returns-in-Err : goal.returns-in-Err
returns-in-Err c = λ ts facts u given h.
    let at = c.loop-operand in
    let x = c.in-Some.operand in
    let os = into_iter_items c.next.new.self in
    let p = c.in-Some-split_first.param.now in
    let ps = c.in-Some-split_first.others.now in
    let said = arguments_by [] given in
    let steps : into_iter_items at.operand-iterator ≡ x ∷ os = c.in-Some.ensures.steps.0 in
    let params : at.rest.now ≡ p ∷ ps = c.in-Some-split_first.ensures.cases.0 in
    let l = subst (λ all. ArgumentsLeft ts at.rest.now all at.args.items said) steps (at.invariant.left ts facts u given h) in
    let m = subst (λ all. ArgumentsLeft ts all (x ∷ os) at.args.items said) params l in
    no_argument (λ (args : Vec Operand Global). operands_of ts args.items) ts p ps x os at.args.items said c.in-Err.stop m
    (λ v e. subst (λ before. Answers (argument_of ts) (argument_by (map (path_in ts) (paths_in before)) p.mode v) (Err c.in-Err.stop)) c.as_slice.ensures.value
    (c.in-Err.ensures ts facts u v e))

pub returns : goal.returns
returns c = λ ts facts u given h.
    let at = c.loop-operand in
    let said = arguments_by [] given in
    let empty : into_iter_items at.operand-iterator ≡ [] =
    nothing_left (into_iter_items at.operand-iterator) (sym at.invariant.count ∙ c.in-None.ensures.steps.0) in
    no_more ts at.rest.now at.args.items said
    (subst (λ all. ArgumentsLeft ts at.rest.now all at.args.items said) empty (at.invariant.left ts facts u given h))

pub settled_argument-requires-clause-fits : goal.settled_argument-requires-clause-fits
settled_argument-requires-clause-fits c =
    let at = c.loop-operand in
    (fit_first c.args.types.now at.rest.now (into_iter_items at.operand-iterator) c.in-Some-split_first.param.now c.in-Some-split_first.others.now
    c.in-Some.operand (into_iter_items c.next.new.self) c.in-Some-split_first.ensures.cases.0 c.in-Some.ensures.steps.0 at.invariant.fits).0
