use Rattle.std.proofs.Common.{◌≡◌, ◌+◌, Bool, List, [], ◌∷◌, length, Some, drop, refl, sym, ap, ap₂, ◌∙◌, arith}
use Rattle.std.specs.Prelude.{◌&&◌, map, option_map}
use Rattle.nim_types.specs.Table.{type_at}
use Rattle.nim_program.specs.Program as T
use Rattle.nim_program.specs.Program.{NoArg, ByValue, Doing, Building, Calling, ByConditions, ByLabels, node_of}
use Rattle.nim_program.specs.View.{expr_of, path_of, operand_before, operands_of, choices_of, picks_of, pick_labels, label_of, if_value, if_type}
use Rattle.nim_program.proofs.ForCallers.{applied, called, constructed, chosen, selected}
use Rattle.nim_meaning.specs.Shapes.{is_covered, selector_type, is_last_value}
use Rattle.nim_program.specs.declared.expr.Pick.{Pick}
use Rattle.flat_code.specs.declared.line.Line.TheVariants as L
use Rattle.flattening.specs.declared.numbers.Purpose.TheVariants.{End, Next, Arm}
use Rattle.flattening.specs.Numbering.{label}
use Rattle.flattening.specs.ExprLines.{ready_lines, choice_lines, arm_label, arm_lines}
use Rattle.flattening.specs.Views.{types_of, facts_of, modes_of, result_of, uses_of, act_of, branch_lines, ArmsLast}
use Rattle.flattening.proofs.Writing.{puts_two, puts_none}
use Rattle.flattening.proofs.ExprPuts.{drop_next, drop_turn, drop_end, turned, ended, of_same, apply_put, read_put, early_put, conditions_put, labels_put}
use Rattle.flattening.proofs.ExprPuts.{others_same}
use Rattle.flattening.proofs.ExprPuts.{ready_next, chosen_lines, choice_next, arm_last, arm_next, pick_count}
use Rattle.flattening.proofs.LastOnes.{last_one}
use Rattle.flattening.proofs.expr_code.+exprs.Goals as goal

pub add_expr-returns-in-Apply : goal.add_expr-returns-in-Apply
add_expr-returns-in-Apply t c =
    let ts = types_of c.args.around.now in
    let facts = facts_of c.args.around.now in
    let modes = modes_of c.args.around.now in
    let given = c.in-Apply in
    let act = Doing given.operation in
    let whole = ap (expr_of ts) given.is ∙ applied ts given.node given.ty given.operation given.operands in
    of_same ts facts modes _ _ c.args.how c.args.t whole
    (apply_put ts facts modes given.node (if_type ts given.ty) act act (operands_of ts given.operands.items) c.args.how c.node.result.number c.args.t
    c.in-Some.u refl (ap (λ n. n.number) (c.node.ensures ts ∙ ap node_of whole)) c.in-Some.ensures
    (puts_two c.add_ready.ensures (puts_two c.put_settled.ensures c.put_operation.ensures)))

pub add_expr-returns-in-Call : goal.add_expr-returns-in-Call
add_expr-returns-in-Call t c =
    let ts = types_of c.args.around.now in
    let facts = facts_of c.args.around.now in
    let modes = modes_of c.args.around.now in
    let given = c.in-Call in
    let whole = ap (expr_of ts) given.is ∙ called ts given.node given.ty given.proc given.types given.operands in
    of_same ts facts modes _ _ c.args.how c.args.t whole
    (apply_put ts facts modes given.node (if_type ts given.ty) (Calling given.proc (map (type_at ts) given.types)) (Calling given.proc [])
    (operands_of ts given.operands.items) c.args.how c.node.result.number c.args.t c.in-Some.u refl
    (ap (λ n. n.number) (c.node.ensures ts ∙ ap node_of whole)) c.in-Some.ensures
    (puts_two c.add_ready-in-Call.ensures (puts_two c.put_settled-in-Call.ensures c.put_call.ensures)))

pub add_expr-returns-in-Construct : goal.add_expr-returns-in-Construct
add_expr-returns-in-Construct t c =
    let ts = types_of c.args.around.now in
    let facts = facts_of c.args.around.now in
    let modes = modes_of c.args.around.now in
    let given = c.in-Construct in
    let whole = ap (expr_of ts) given.is ∙ constructed ts given.node given.ty given.fields given.operands in
    of_same ts facts modes _ _ c.args.how c.args.t whole
    (apply_put ts facts modes given.node (Some (type_at ts given.ty)) (Building given.fields) (Building []) (operands_of ts given.operands.items)
    c.args.how c.node.result.number c.args.t c.in-Some.u refl (ap (λ n. n.number) (c.node.ensures ts ∙ ap node_of whole)) c.in-Some.ensures
    (puts_two c.add_ready-in-Construct.ensures (puts_two c.put_settled-in-Construct.ensures c.put_object.ensures)))

pub add_expr-returns-in-Read : goal.add_expr-returns-in-Read
add_expr-returns-in-Read t c =
    let ts = types_of c.args.around.now in
    let facts = facts_of c.args.around.now in
    let modes = modes_of c.args.around.now in
    of_same ts facts modes _ (T.Read (path_of ts c.in-Read.path)) c.args.how c.args.t (ap (expr_of ts) c.in-Read.is)
    (read_put ts facts modes (path_of ts c.in-Read.path) c.args.how c.args.t c.in-Some.u c.in-Some.ensures
    (puts_two c.add_aim.ensures (puts_two c.add_found.ensures c.put_get.ensures)))

pub add_early-returns : goal.add_early-returns
add_early-returns t c begins =
    let ts = types_of c.args.around.now in
    let facts = facts_of c.args.around.now in
    let modes = modes_of c.args.around.now in
    let given = c.in-Early in
    let whole = ap (expr_of ts) given.is
    ∙ ap₂ (λ x y. T.Early given.node (type_at ts given.ty) given.short (expr_of ts x) (expr_of ts y)) (sym c.deref-left.ensures) (sym c.deref-right.ensures) in
    of_same ts facts modes _ _ c.args.how c.args.t whole
    (early_put ts facts modes given.node (type_at ts given.ty) given.short (expr_of ts c.deref-left.result.now) (expr_of ts c.deref-right.result.now) c.args.how
    c.args.t c.args.u c.in-Some.v begins c.in-Some.ensures
    (puts_two c.add_expr.ensures
    (puts_two (c.put_early.ensures ts facts modes) (puts_two c.add_expr-in-Early.ensures (puts_two c.put.ensures c.put_label.ensures)))))

pub add_if-returns : goal.add_if-returns
add_if-returns t c begins =
    let ts = types_of c.args.around.now in
    let facts = facts_of c.args.around.now in
    let modes = modes_of c.args.around.now in
    let given = c.in-If in
    let last = ByValue (expr_of ts c.deref-otherwise.result.now) NoArg in
    let whole = ap (expr_of ts) given.is ∙ chosen ts given.node given.ty given.branches given.otherwise
    ∙ ap (λ e. T.Choose given.node (if_type ts given.ty) ByConditions (choices_of ts given.branches.items (ByValue (expr_of ts e) NoArg)))
    (sym c.deref-otherwise.ensures) in
    of_same ts facts modes _ _ c.args.how c.args.t whole
    (conditions_put ts facts modes given.node (if_type ts given.ty) (choices_of ts given.branches.items last) c.args.how c.args.t c.args.u begins
    (puts_two (c.in-Some.ensures last _ c.add_handed_on.ensures) c.put_label.ensures))

pub add_case-returns-in-Closed : goal.add_case-returns-in-Closed
add_case-returns-in-Closed t c begins =
    let a = c.args.around.now in
    let ts = types_of a in
    let facts = facts_of a in
    let modes = modes_of a in
    let given = c.in-Case in
    let selector = c.deref-selector.result.now in
    let covered = is_covered (selector_type (operand_before ts selector NoArg)) in
    let other = option_map (λ v. v.value) given.otherwise in
    let last = if_value ts other in
    let rest = picks_of ts given.branches.items last in
    let labels = pick_labels given.branches.items in
    let whole = ap (expr_of ts) given.is ∙ selected ts given.node given.ty given.selector given.branches given.otherwise
    ∙ ap (λ x. T.Choose given.node (if_type ts given.ty) (ByLabels (pick_labels given.branches.items))
    (operand_before ts x (picks_of ts given.branches.items (if_value ts (option_map (λ v. v.value) given.otherwise)))))
    (sym c.deref-selector.ensures) in
    of_same ts facts modes _ _ c.args.how c.args.t whole
    (labels_put ts facts modes (result_of a) ts given.node (if_type ts given.ty) labels selector rest c.args.how (length given.branches.items) c.args.t
    c.args.u c.in-Some.s c.in-Some-behind_selector.v covered begins c.in-Some.ensures (sym (pick_count given.branches.items))
    c.in-Some-behind_selector.ensures refl
    (puts_two c.add_selector.ensures
    (puts_two (c.put_value_tests.ensures other)
    (puts_two c.put_jump.ensures (puts_two (c.in-Closed.ensures covered (last, c.may_close-closes.ensures)) c.put_label.ensures)))))

pub add_case-returns-in-Open : goal.add_case-returns-in-Open
add_case-returns-in-Open t c begins =
    let a = c.args.around.now in
    let ts = types_of a in
    let facts = facts_of a in
    let modes = modes_of a in
    let given = c.in-Case in
    let selector = c.deref-selector.result.now in
    let covered = is_covered (selector_type (operand_before ts selector NoArg)) in
    let other = option_map (λ v. v.value) given.otherwise in
    let last = if_value ts other in
    let rest = picks_of ts given.branches.items last in
    let labels = pick_labels given.branches.items in
    let whole = ap (expr_of ts) given.is ∙ selected ts given.node given.ty given.selector given.branches given.otherwise
    ∙ ap (λ x. T.Choose given.node (if_type ts given.ty) (ByLabels (pick_labels given.branches.items))
    (operand_before ts x (picks_of ts given.branches.items (if_value ts (option_map (λ v. v.value) given.otherwise)))))
    (sym c.deref-selector.ensures) in
    of_same ts facts modes _ _ c.args.how c.args.t whole
    (labels_put ts facts modes (result_of a) ts given.node (if_type ts given.ty) labels selector rest c.args.how (length given.branches.items) c.args.t
    c.args.u c.in-Some.s c.in-Some-behind_selector.v covered begins c.in-Some.ensures (sym (pick_count given.branches.items))
    c.in-Some-behind_selector.ensures refl
    (puts_two c.add_selector.ensures
    (puts_two (c.put_value_tests.ensures other)
    (puts_two c.put_jump.ensures
    (puts_two (c.in-Open.ensures covered (last, c.may_close-closes.ensures) _ (c.add_others.ensures covered)) c.put_label-in-Open.ensures)))))

pub add_ready-loop-operand-preserved : goal.add_ready-loop-operand-preserved
add_ready-loop-operand-preserved t c =
    let ts = types_of c.args.around.now in
    let facts = facts_of c.args.around.now in
    let modes = modes_of c.args.around.now in
    let loop = c.loop-operand in
    let x = c.operand-item.result in
    let how = c.use_at-how.result in
    let uses = uses_of modes c.args.uses in
    let act = act_of c.args.uses in
    let left = operands_of ts (drop (loop.operand-index + 1) c.args.operands.now.items) in
    let next = drop_turn c.args.operands.now.items c.deref-operand-items.result.now loop.operand-index x c.deref-operand-items.ensures.value
    c.loop-operand-test.true
    c.operand-item.is in (
      omega arith,
      turned _ loop.code c.add_operand.new.code _
          (ready_lines ts facts modes act (operands_of ts (drop loop.operand-index c.args.operands.now.items)) uses loop.position loop.u)
          (ready_lines ts facts modes act (operand_before ts x NoArg) (λ j. how) 0 loop.u)
          (ready_lines ts facts modes act left uses (loop.position + 1) c.in-Some.following)
          loop.invariant.1 c.add_operand.ensures
          (λ k. ready_next ts facts modes ts act x left uses how loop.position (loop.position + 1) loop.u c.in-Some.following c.use_at-how.ensures (omega arith)
          c.in-Some.ensures k
          ∙ ap (λ ys. ready_lines ts facts modes act (operands_of ts ys) uses loop.position loop.u k) (sym next)),
    )

pub add_ready-returns : goal.add_ready-returns
add_ready-returns t c =
    let ts = types_of c.args.around.now in
    let facts = facts_of c.args.around.now in
    let modes = modes_of c.args.around.now in
    let loop = c.loop-operand in
    let uses = uses_of modes c.args.uses in
    let act = act_of c.args.uses in
    let none = drop_end c.args.operands.now.items c.deref-operand-items.result.now loop.operand-index c.deref-operand-items.ensures.value
    c.loop-operand-test.false in
    ended _ loop.code loop.code _ (ready_lines ts facts modes act (operands_of ts (drop loop.operand-index c.args.operands.now.items)) uses loop.position
    loop.u) (λ k. k)
    loop.invariant.1 (λ k. ap (λ ys. ready_lines ts facts modes act (operands_of ts ys) uses loop.position loop.u k) (sym none)) (puts_none loop.code)

pub add_choices-loop-branch-preserved : goal.add_choices-loop-branch-preserved
add_choices-loop-branch-preserved t c last =
    let ts = types_of c.args.around.now in
    let facts = facts_of c.args.around.now in
    let modes = modes_of c.args.around.now in
    let loop = c.loop-branch in
    let x = c.branch-item.result in
    let ty = if_type ts c.args.ty in
    let left = choices_of ts (drop (loop.branch-index + 1) c.args.branches.now.items) last in
    let next = drop_turn c.args.branches.now.items c.deref-branch-items.result.now loop.branch-index x c.deref-branch-items.ensures.value
    c.loop-branch-test.true
    c.branch-item.is in
    turned _ loop.code c.put_label.new.code _
    (choice_lines ts facts modes (choices_of ts (drop loop.branch-index c.args.branches.now.items) last) ty c.args.how c.args.t loop.u)
    (chosen_lines ts facts modes (expr_of ts x.condition) (expr_of ts x.value) ty c.args.how c.args.t loop.u c.in-Some.v)
    (choice_lines ts facts modes left ty c.args.how c.args.t c.in-Some-behind_value.following) (loop.invariant last)
    (puts_two c.add_expr.ensures
    (puts_two c.put_value_ends.ensures
    (puts_two c.put_unless.ensures (puts_two c.add_handed_on.ensures (puts_two c.put_jump.ensures c.put_label.ensures)))))
    (λ k. choice_next ts facts modes (expr_of ts x.condition) (expr_of ts x.value) left ty c.args.how c.args.t loop.u c.in-Some.v
    c.in-Some-behind_value.following c.in-Some.ensures c.in-Some-behind_value.ensures k
    ∙ ap (λ ys. choice_lines ts facts modes (choices_of ts ys last) ty c.args.how c.args.t loop.u k) (sym next))

pub add_choices-returns : goal.add_choices-returns
add_choices-returns t c last end put =
    let ts = types_of c.args.around.now in
    let facts = facts_of c.args.around.now in
    let modes = modes_of c.args.around.now in
    let loop = c.loop-branch in
    let ty = if_type ts c.args.ty in
    let none = drop_end c.args.branches.now.items c.deref-branch-items.result.now loop.branch-index c.deref-branch-items.ensures.value
    c.loop-branch-test.false in
    ended _ loop.code end _ (choice_lines ts facts modes (choices_of ts (drop loop.branch-index c.args.branches.now.items) last) ty c.args.how c.args.t loop.u)
    (choice_lines ts facts modes last ty c.args.how c.args.t loop.u) (loop.invariant last)
    (λ k. ap (λ ys. choice_lines ts facts modes (choices_of ts ys last) ty c.args.how c.args.t loop.u k) (sym none)) put

pub add_arms-returns-then-for_others : goal.add_arms-returns-then-for_others
add_arms-returns-then-for_others t c covered last =
    let ts = types_of c.args.around.now in
    let facts = facts_of c.args.around.now in
    let modes = modes_of c.args.around.now in
    let loop = c.loop-i in
    let xs = c.args.branches.now.items in
    let x = c.index.result.now in
    let rest = drop (loop.i + 1) xs in
    let ty = if_type ts c.args.ty in
    let next = drop_next xs loop.i x (omega arith) c.index.ensures in
    let is_end : c.is_last-for_others.result ≡ (covered && is_last_value (picks_of ts rest last.0)) =
    last_one (λ (ys : List Pick). is_last_value (picks_of ts ys last.0)) (λ y ys. refl) covered c.args.closes c.is_last-for_others.result xs
    (loop.i + 1) last.1 c.is_last-for_others.ensures.closes (λ e. omega (arith, c.is_last-for_others.ensures.last e))
    (λ e f. omega (arith, c.is_last-for_others.ensures.more e f)) in
    ended _ loop.code c.add_handed_on.new.code _
    (arm_lines ts facts modes covered (pick_labels (drop loop.i xs)) (picks_of ts (drop loop.i xs) last.0) ty c.args.how c.args.t loop.u)
    (λ k. arm_label c.is_last-for_others.result (label Next c.args.t) (label Arm loop.u)
    (branch_lines ts facts modes (expr_of ts x.value) ty c.args.how c.args.t loop.u k)) (loop.invariant.1 covered last)
    (λ k. arm_last ts facts modes covered c.is_last-for_others.result (map label_of x.labels) (pick_labels rest) (expr_of ts x.value)
    (picks_of ts rest last.0) ty
    c.args.how c.args.t loop.u is_end c.if-for_others.true k
    ∙ ap (λ ys. arm_lines ts facts modes covered (pick_labels ys) (picks_of ts ys last.0) ty c.args.how c.args.t loop.u k) (sym next))
    (puts_two c.put_arm_label.ensures c.add_handed_on.ensures)

pub add_arms-loop-i-preserved : goal.add_arms-loop-i-preserved
add_arms-loop-i-preserved t c = (
  omega arith,
  λ (covered : Bool) (last : ArmsLast covered c.args.closes).
      let ts = types_of c.args.around.now in
      let facts = facts_of c.args.around.now in
      let modes = modes_of c.args.around.now in
      let loop = c.loop-i in
      let xs = c.args.branches.now.items in
      let x = c.index.result.now in
      let rest = drop (loop.i + 1) xs in
      let ty = if_type ts c.args.ty in
      let next = drop_next xs loop.i x (omega arith) c.index.ensures in
      let is_end : c.is_last-for_others.result ≡ (covered && is_last_value (picks_of ts rest last.0)) =
      last_one (λ (ys : List Pick). is_last_value (picks_of ts ys last.0)) (λ y ys. refl) covered c.args.closes c.is_last-for_others.result xs
      (loop.i + 1) last.1 c.is_last-for_others.ensures.closes (λ e. omega (arith, c.is_last-for_others.ensures.last e))
      (λ e f. omega (arith, c.is_last-for_others.ensures.more e f)) in
      turned _ loop.code c.put_jump.new.code _
      (arm_lines ts facts modes covered (pick_labels (drop loop.i xs)) (picks_of ts (drop loop.i xs) last.0) ty c.args.how c.args.t loop.u)
      (λ k. arm_label c.is_last-for_others.result (label Next c.args.t) (label Arm loop.u)
      (branch_lines ts facts modes (expr_of ts x.value) ty c.args.how c.args.t loop.u (L.Jump (label End c.args.t) ∷ k)))
      (arm_lines ts facts modes covered (pick_labels rest) (picks_of ts rest last.0) ty c.args.how c.args.t c.in-Some.following) (loop.invariant.1 covered last)
      (puts_two c.put_arm_label.ensures (puts_two c.add_handed_on.ensures c.put_jump.ensures))
      (λ k. arm_next ts facts modes covered c.is_last-for_others.result (map label_of x.labels) (pick_labels rest) (expr_of ts x.value)
      (picks_of ts rest last.0) ty
      c.args.how c.args.t loop.u c.in-Some.following is_end c.if-for_others.false c.in-Some.ensures k
      ∙ ap (λ ys. arm_lines ts facts modes covered (pick_labels ys) (picks_of ts ys last.0) ty c.args.how c.args.t loop.u k) (sym next)),
)

pub add_arms-returns : goal.add_arms-returns
add_arms-returns t c covered last end put =
    let ts = types_of c.args.around.now in
    let facts = facts_of c.args.around.now in
    let modes = modes_of c.args.around.now in
    let loop = c.loop-i in
    let ty = if_type ts c.args.ty in
    let none = drop_end c.args.branches.now.items c.args.branches.now.items loop.i refl (omega arith) in
    ended _ loop.code end _
    (arm_lines ts facts modes covered (pick_labels (drop loop.i c.args.branches.now.items)) (picks_of ts (drop loop.i c.args.branches.now.items) last.0) ty
    c.args.how c.args.t loop.u) (arm_lines ts facts modes covered [] last.0 ty c.args.how c.args.t loop.u) (loop.invariant.1 covered last)
    (λ k. ap (λ ys. arm_lines ts facts modes covered (pick_labels ys) (picks_of ts ys last.0) ty c.args.how c.args.t loop.u k) (sym none)) put

pub add_others-returns-in-None : goal.add_others-returns-in-None
add_others-returns-in-None t c covered =
    let ts = types_of c.args.around.now in
    others_same ts (facts_of c.args.around.now) (modes_of c.args.around.now) covered _ NoArg (if_type ts c.args.ty) c.args.how c.args.t c.args.u
    (ap (λ o. if_value ts (option_map (λ e. e.value) o)) c.in-None.is) (puts_two c.put_label.ensures c.put_none_fits.ensures)

pub add_others-returns-in-Some : goal.add_others-returns-in-Some
add_others-returns-in-Some t c covered =
    let ts = types_of c.args.around.now in
    others_same ts (facts_of c.args.around.now) (modes_of c.args.around.now) covered _ (ByValue (expr_of ts c.deref.result.now) NoArg) (if_type ts c.args.ty)
    c.args.how c.args.t
    c.args.u
    (ap (λ o. if_value ts (option_map (λ e. e.value) o)) c.in-Some.is ∙ ap (λ x. ByValue (expr_of ts x) NoArg) (sym c.deref.ensures))
    (puts_two c.put_label.ensures c.add_handed_on.ensures)
