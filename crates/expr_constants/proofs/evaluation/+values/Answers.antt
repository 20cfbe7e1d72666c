use Rattle.std.proofs.Common.{◌≡◌, ◌+◌, List, suc, [], ◌∷◌, ap, ap₂, sym, subst, ◌∙◌, drop, arith, Some}
use Rattle.nim_types.specs.Types.{Ty}
use Rattle.nim_types.specs.Table.{type_at}
use Rattle.nim_program.specs.Program.{Apply, Building, Doing, type_of, types_in}
use Rattle.nim_program.specs.View.{expr_of, path_of, if_type, operands_of, literals_of}
use Rattle.expr_rules.specs.Constants.{act_value, comes_to, computing, first_type, if_computed, object_of, on_one, on_two, short_of, value_in, values_in}
use Rattle.expr_rules.specs.Constants.{with_values}
use Rattle.expr_constants.specs.ViewConstants.{evaluated_of, values_of, and_value, value_of}
use Rattle.expr_constants.proofs.ConstantLists.{expr_count, path_count, args_count, argument_count, all_before, one_counted, one_value, one_valued, values_all}
use Rattle.expr_constants.proofs.ConstantLists.{first_values}
use Rattle.expr_constants.proofs.Fixing.{args_in, drop_fixed, first_fixed, first_path, first_value, fixed_as, fixed_by, left_in, right_in, some_fixed}
use Rattle.expr_constants.proofs.Fixing.{value_of_path}
use Rattle.expr_constants.specs.ViewFixed.{IsFixed}
use Rattle.nim_program.proofs.ForCallers as rows
use Rattle.expr_parts.proofs.ForCallers.{if_ok, next_item, none_left}
use Rattle.expr_constants.proofs.evaluation.+values.Goals as goal

-- ---- what is evaluated

pub value_in-returns-in-Apply : goal.value_in-returns-in-Apply
value_in-returns-in-Apply t c = if_ok c.applied.result c.applied.ensures (λ e h ts facts u.
    let a = c.in-Apply in
    h ts facts u
    ∙ ap (λ xs. act_value facts (if_type ts a.ty) (types_in (operands_of ts xs)) (Doing a.operation) (values_in facts (operands_of ts xs)))
    c.as_slice.ensures.value
    ∙ sym (ap (λ e. value_in facts (expr_of ts e)) a.is ∙ ap (value_in facts) (rows.applied ts a.node a.ty a.operation a.operands)))

pub value_in-returns-in-Construct : goal.value_in-returns-in-Construct
value_in-returns-in-Construct t c = if_ok c.object_in.result c.object_in.ensures (λ e h ts facts u.
    let a = c.in-Construct in
    h ts facts u
    ∙ ap₂
    (λ is xs. act_value facts (Some (type_at ts a.ty)) (types_in (operands_of ts xs)) (Building is) (values_in facts (operands_of ts xs)))
    c.as_slice-in-Construct.ensures c.as_slice-in-Construct-2.ensures.value
    ∙ sym (ap (λ e. value_in facts (expr_of ts e)) a.is ∙ ap (value_in facts) (rows.constructed ts a.node a.ty a.fields a.operands)))

pub value_in-returns-in-Constant : goal.value_in-returns-in-Constant
value_in-returns-in-Constant t c = if_ok c.constant.result c.constant.ensures (λ e h ts facts u.
    h ∙ sym (ap (λ e. value_in facts (expr_of ts e)) c.in-Constant.is))

pub value_in-returns-in_ok-both-in-Early : goal.value_in-returns-in_ok-both-in-Early
value_in-returns-in_ok-both-in-Early t c = λ ts facts u.
    c.stopping.ensures
    ∙ ap₂ (short_of c.in-Early.short)
    (c.in_ok-both-in-Early.ensures.left ts facts u ∙ ap (λ x. value_in facts (expr_of ts x)) c.deref.ensures)
    (c.in_ok-both-in-Early.ensures.right ts facts u ∙ ap (λ x. value_in facts (expr_of ts x)) c.deref-in-Early.ensures)
    ∙ sym (ap (λ e. value_in facts (expr_of ts e)) c.in-Early.is)

pub applied-returns : goal.applied-returns
applied-returns t c = if_ok c.operate.result c.operate.ensures (λ e h ts facts u.
    let args = operands_of ts c.args.operands.now in
    h ts facts u (types_in args) (c.first_type.ensures ts)
    ∙ ap (if_computed (computing facts (if_type ts c.args.ty) (types_in args) c.args.operation)) (c.in_ok-values.ensures ts facts u))

pub object_in-returns : goal.object_in-returns
object_in-returns t c = if_ok c.construct.result c.construct.ensures (λ e h ts facts u.
    h ts facts u
    ∙ ap (on_one (λ ls. object_of facts (Some (type_at ts c.args.ty)) (with_values c.args.fields.now ls))) (c.in_ok-values.ensures ts facts u))

-- ---- how much is left

pub value_in-applied-requires : goal.value_in-applied-requires
value_in-applied-requires t c =
    let a = c.in-Apply in
    let e : expr_count (expr_of [] c.args.expr.now) ≡ suc (args_count (operands_of [] c.as_slice.result.now)) =
    ap (λ x. expr_count (expr_of [] x)) a.is ∙ ap expr_count (rows.applied [] a.node a.ty a.operation a.operands)
    ∙ ap (λ xs. suc (args_count (operands_of [] xs))) (sym c.as_slice.ensures.value) in
    let ds = c.args.types.now in
    let is = λ (ts : List Ty). ap (expr_of ts) a.is ∙ rows.applied ts a.node a.ty a.operation a.operands in
    let node = λ (ts : List Ty). Apply a.node (if_type ts a.ty) (Doing a.operation) (operands_of ts a.operands.items) in
    let whole = fixed_as ds (λ ts. expr_of ts c.args.expr.now) node is c.requires in (
      omega (arith, c.decreases, e),
      (
        fixed_by ds type_of node whole,
        subst (λ os. IsFixed ds (λ ts. operands_of ts os)) (sym c.as_slice.ensures.value)
            (fixed_by ds args_in node whole),
      ),
    )

pub value_in-object_in-requires : goal.value_in-object_in-requires
value_in-object_in-requires t c =
    let a = c.in-Construct in
    let e : expr_count (expr_of [] c.args.expr.now) ≡ suc (args_count (operands_of [] c.as_slice-in-Construct-2.result.now)) =
    ap (λ x. expr_count (expr_of [] x)) a.is ∙ ap expr_count (rows.constructed [] a.node a.ty a.fields a.operands)
    ∙ ap (λ xs. suc (args_count (operands_of [] xs))) (sym c.as_slice-in-Construct-2.ensures.value) in
    let ds = c.args.types.now in
    let is = λ (ts : List Ty). ap (expr_of ts) a.is ∙ rows.constructed ts a.node a.ty a.fields a.operands in
    let node = λ (ts : List Ty). Apply a.node (Some (type_at ts a.ty)) (Building a.fields) (operands_of ts a.operands.items) in
    let whole = fixed_as ds (λ ts. expr_of ts c.args.expr.now) node is c.requires in (
      omega (arith, c.decreases, e),
      (
        some_fixed ds a.ty (fixed_by ds type_of node whole),
        subst (λ os. IsFixed ds (λ ts. operands_of ts os)) (sym c.as_slice-in-Construct-2.ensures.value) (fixed_by ds args_in node whole),
      ),
    )

pub values_in-value_of-requires : goal.values_in-value_of-requires
values_in-value_of-requires t c =
    let at = c.loop-operand in
    let a = c.operand-item.result in
    let rest = drop (at.operand-index + 1) c.args.operands.now in
    let e = next_item c.args.operands.now at.operand-index a c.operand-item.is c.loop-operand-test.true in
    let w = ap (λ l. args_count (operands_of [] l)) e ∙ one_counted a (operands_of [] rest) in
    let os = c.args.operands.now in
    let ds = c.args.types.now in
    (omega (arith, w, at.invariant.light, c.decreases), first_fixed ds (drop at.operand-index os) a rest e (drop_fixed ds os at.operand-index c.requires))

-- ---- operands, one after another

pub values_in-loop-operand-init : goal.values_in-loop-operand-init
values_in-loop-operand-init t c = record {
  light = omega arith;
  same = λ ts facts u.
      let all = values_in facts (operands_of ts c.args.operands.now) in
      ap (λ xs. all_before (comes_to (literals_of xs)) all) c.new.ensures.items ∙ first_values all;
}

pub values_in-loop-operand-preserved : goal.values_in-loop-operand-preserved
values_in-loop-operand-preserved t c =
    let at = c.loop-operand in
    let a = c.operand-item.result in
    let rest = drop (at.operand-index + 1) c.args.operands.now in
    let e = next_item c.args.operands.now at.operand-index a c.operand-item.is c.loop-operand-test.true in
    let w = ap (λ l. args_count (operands_of [] l)) e ∙ one_counted a (operands_of [] rest) in
    record {
      light = omega (arith, w, at.invariant.light);
      same = λ ts facts u.
          let done = evaluated_of values_of at.done in
          let others = values_in facts (operands_of ts rest) in
          ap (λ d. all_before d others) (c.in_ok-done.ensures ∙ ap (on_two and_value done) (c.in_ok-value.ensures ts facts u))
          ∙ one_value done (value_of facts ts a) others
          ∙ ap (all_before done) (sym (one_valued facts ts a (operands_of ts rest)))
          ∙ ap (λ l. all_before done (values_in facts (operands_of ts l))) (sym e)
          ∙ at.invariant.same ts facts u;
    }

pub values_in-returns : goal.values_in-returns
values_in-returns t c = λ ts facts u.
    let at = c.loop-operand in
    let done = evaluated_of values_of at.done in
    let e = none_left c.args.operands.now at.operand-index (omega (arith, c.loop-operand-test.false)) in
    sym (values_all done) ∙ ap (λ l. all_before done (values_in facts (operands_of ts l))) (sym e) ∙ at.invariant.same ts facts u

pub value_in-pair_in-requires : goal.value_in-pair_in-requires
value_in-pair_in-requires t c =
    let a = c.in-Early in
    let ds = c.args.types.now in
    let left = sym c.deref.ensures in
    let right = sym c.deref-in-Early.ensures in
    let whole = λ (ts : List Ty). expr_of ts c.args.expr.now in
    let e = ap (λ x. expr_count (expr_of [] x)) a.is in
    let l = ap (λ x. expr_count (expr_of [] x)) left in
    let r = ap (λ x. expr_count (expr_of [] x)) right in (
      omega (arith, c.decreases, e, l, r),
      (
        fixed_as ds (λ ts. left_in (expr_of ts c.args.expr.now)) (λ ts. expr_of ts c.deref.result.now)
            (λ ts. ap (λ x. left_in (expr_of ts x)) a.is ∙ ap (expr_of ts) left) (fixed_by ds left_in whole c.requires),
        fixed_as ds (λ ts. right_in (expr_of ts c.args.expr.now)) (λ ts. expr_of ts c.deref-in-Early.result.now)
            (λ ts. ap (λ x. right_in (expr_of ts x)) a.is ∙ ap (expr_of ts) right) (fixed_by ds right_in whole c.requires),
      ),
    )

pub pair_in-value_in-requires : goal.pair_in-value_in-requires
pair_in-value_in-requires t c = (omega (arith, c.decreases), c.requires.left)

pub pair_in-value_in-requires-2 : goal.pair_in-value_in-requires-2
pair_in-value_in-requires-2 t c = (omega (arith, c.decreases), c.requires.right)

pub applied-values_in-requires : goal.applied-values_in-requires
applied-values_in-requires t c = (omega (arith, c.decreases), c.requires.operands)

pub object_in-values_in-requires : goal.object_in-values_in-requires
object_in-values_in-requires t c = (omega (arith, c.decreases), c.requires.operands)

pub applied-operate-requires : goal.applied-operate-requires
applied-operate-requires t c =
    let ds = c.args.types.now in
    let os = c.args.operands.now in
    record {
      ty = c.requires.ty;
      first = fixed_as ds (λ ts. first_type (types_in (operands_of ts os))) (λ ts. if_type ts c.first_type.result) c.first_type.ensures
          (fixed_by ds (λ args. first_type (types_in args)) (λ ts. operands_of ts os) c.requires.operands);
    }

pub value_at-value_in-requires : goal.value_at-value_in-requires
value_at-value_in-requires t c =
    let ds = c.args.types.now in
    let value = c.deref.result.now in
    let e = ap (λ x. path_count (path_of [] x)) c.in-Fresh.is in
    let v = ap (λ x. expr_count (expr_of [] x)) (sym c.deref.ensures) in
    let of = value_of_path (expr_of [] value) in (
      omega (arith, c.decreases, e, v),
      fixed_as ds (λ ts. of (path_of ts c.args.path.now)) (λ ts. expr_of ts value)
          (λ ts. ap (λ p. of (path_of ts p)) c.in-Fresh.is ∙ ap (expr_of ts) (sym c.deref.ensures))
          (fixed_by ds of (λ ts. path_of ts c.args.path.now) c.requires),
    )

pub value_of-value_in-requires : goal.value_of-value_in-requires
value_of-value_in-requires t c =
    let ds = c.args.types.now in
    let value = c.in-Value.value in
    let e = ap argument_count c.in-Value.is in
    let of = first_value (expr_of [] value) in (
      omega (arith, c.decreases, e),
      fixed_as ds (λ ts. of (operands_of ts (c.args.operand.now ∷ []))) (λ ts. expr_of ts value)
          (λ ts. ap (λ o. of (operands_of ts (o ∷ []))) c.in-Value.is) (fixed_by ds of (λ ts. operands_of ts (c.args.operand.now ∷ [])) c.requires),
    )

pub value_of-value_at-requires : goal.value_of-value_at-requires
value_of-value_at-requires t c =
    let ds = c.args.types.now in
    let path = c.in-At.path in
    let e = ap argument_count c.in-At.is in
    let of = first_path (path_of [] path) in (
      omega (arith, c.decreases, e),
      fixed_as ds (λ ts. of (operands_of ts (c.args.operand.now ∷ []))) (λ ts. path_of ts path)
          (λ ts. ap (λ o. of (operands_of ts (o ∷ []))) c.in-At.is) (fixed_by ds of (λ ts. operands_of ts (c.args.operand.now ∷ [])) c.requires),
    )
