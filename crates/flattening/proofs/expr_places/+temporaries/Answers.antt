use Rattle.std.proofs.Common.{true, ◌+◌, List, [], ◌++◌, length, Some, drop, refl, sym, ap, ap₂, ◌∙◌, arith}
use Rattle.std.specs.Prelude.{map, option_map}
use Rattle.nim_types.specs.Table.{type_at}
use Rattle.nim_program.specs.declared.expr.Choice.{Choice}
use Rattle.nim_program.specs.declared.expr.Operand.{Operand}
use Rattle.nim_program.specs.declared.expr.Pick.{Pick}
use Rattle.nim_program.specs.Program as T
use Rattle.nim_program.specs.Program.{NoArg, ByValue, Doing, Building, Calling, ByConditions, ByLabels}
use Rattle.nim_program.specs.View.{expr_of, path_of, operand_before, operands_of, choices_of, picks_of, pick_labels, if_value, if_type}
use Rattle.nim_program.proofs.ForCallers.{applied, called, constructed, chosen, selected}
use Rattle.flattening.specs.Places.{value_at, read_place, location, expr_places, path_places, operand_places, part_places}
use Rattle.flattening.specs.Views.{types_of, facts_of, modes_of, uses_of, act_of}
use Rattle.flattening.specs.PlaceViews.{first_places, lent_first}
use Rattle.flattening.proofs.ExprPuts.{drop_turn, drop_end, pick_count}
use Rattle.flattening.proofs.PlacePuts.{joined, three, listed_as, listed_more, listed_end, exprs_as, applied_list, read_list, early_list, chosen_list}
use Rattle.flattening.proofs.PlacePuts.{operands_list, selected_list, last_list, choices_list, picks_list, field_list, element_list, deref_list, fresh_list}
use Rattle.flattening.proofs.Writing.{puts_none}
use Rattle.flattening.proofs.expr_places.+temporaries.Goals as goal

pub list_expr-returns-in-Apply : goal.list_expr-returns-in-Apply
list_expr-returns-in-Apply t c =
    let ts = types_of c.args.around.now in
    let facts = facts_of c.args.around.now in
    let modes = modes_of c.args.around.now in
    let given = c.in-Apply in
    let whole = ap (expr_of ts) given.is ∙ applied ts given.node given.ty given.operation given.operands in
    exprs_as ts facts modes _ _ c.args.t whole
    (listed_as _ _ (applied_list ts facts modes given.node (if_type ts given.ty) (Doing given.operation) (Doing given.operation) refl
    (operands_of ts given.operands.items) c.args.t c.in-Some.u
    c.in-Some.ensures) (joined _ _ c.put_value.ensures c.list_operands.ensures))

pub list_expr-returns-in-Call : goal.list_expr-returns-in-Call
list_expr-returns-in-Call t c =
    let ts = types_of c.args.around.now in
    let facts = facts_of c.args.around.now in
    let modes = modes_of c.args.around.now in
    let given = c.in-Call in
    let whole = ap (expr_of ts) given.is ∙ called ts given.node given.ty given.proc given.types given.operands in
    exprs_as ts facts modes _ _ c.args.t whole
    (listed_as _ _ (applied_list ts facts modes given.node (if_type ts given.ty) (Calling given.proc (map (type_at ts) given.types))
    (Calling given.proc []) refl
    (operands_of ts given.operands.items) c.args.t c.in-Some.u c.in-Some.ensures)
    (joined _ _ c.put_value-in-Call.ensures c.list_operands-in-Call.ensures))

pub list_expr-returns-in-Construct : goal.list_expr-returns-in-Construct
list_expr-returns-in-Construct t c =
    let ts = types_of c.args.around.now in
    let facts = facts_of c.args.around.now in
    let modes = modes_of c.args.around.now in
    let given = c.in-Construct in
    let whole = ap (expr_of ts) given.is ∙ constructed ts given.node given.ty given.fields given.operands in
    exprs_as ts facts modes _ _ c.args.t whole
    (listed_as _ _ (applied_list ts facts modes given.node (Some (type_at ts given.ty)) (Building given.fields) (Building []) refl
    (operands_of ts given.operands.items) c.args.t
    c.in-Some.u c.in-Some.ensures) (joined (value_at ts facts modes true given.node (Some (type_at ts given.ty)) c.args.t) _ c.put_value-in-Construct.ensures
    c.list_operands-in-Construct.ensures))

pub list_expr-returns-in-Constant : goal.list_expr-returns-in-Constant
list_expr-returns-in-Constant t c =
    let ts = types_of c.args.around.now in
    let facts = facts_of c.args.around.now in
    let modes = modes_of c.args.around.now in
    exprs_as ts facts modes _ _ c.args.t (ap (expr_of ts) c.in-Constant.is) c.put_value-in-Constant.ensures

pub list_expr-returns-in-Read : goal.list_expr-returns-in-Read
list_expr-returns-in-Read t c =
    let ts = types_of c.args.around.now in
    let facts = facts_of c.args.around.now in
    let modes = modes_of c.args.around.now in
    exprs_as ts facts modes _ (T.Read (path_of ts c.in-Read.path)) c.args.t (ap (expr_of ts) c.in-Read.is)
    (listed_as _ _ (read_list ts facts modes (path_of ts c.in-Read.path) c.args.t c.in-Some.u c.in-Some.ensures) (joined _ _
    (listed_as _ _ (ap (λ b. read_place ts facts modes b (path_of ts c.in-Read.path) c.args.t) (c.has_node.ensures ts)) c.put_read.ensures)
    c.list_path.ensures))

pub list_path-returns-in-Fresh : goal.list_path-returns-in-Fresh
list_path-returns-in-Fresh t c =
    let ts = types_of c.args.around.now in
    let facts = facts_of c.args.around.now in
    let modes = modes_of c.args.around.now in
    let given = c.in-Fresh in
    let whole = ap (path_of ts) given.is ∙ ap (λ x. T.Fresh (expr_of ts x)) (sym c.deref-value.ensures) in
    listed_as _ _ (ap (λ p. path_places ts facts modes p c.args.t) whole
    ∙ fresh_list ts facts modes (expr_of ts c.deref-value.result.now) c.args.t c.in-Some.u c.in-Some.ensures)
    (joined (location ts facts modes (T.Fresh (expr_of ts c.deref-value.result.now)) c.args.t) _
    (listed_as _ _ (sym (ap (λ p. location ts facts modes p c.args.t) whole)) c.put_location-in-Fresh.ensures) c.list_fresh.ensures)

pub list_early-returns : goal.list_early-returns
list_early-returns t c begins =
    let ts = types_of c.args.around.now in
    let facts = facts_of c.args.around.now in
    let modes = modes_of c.args.around.now in
    let given = c.in-Early in
    let whole = ap (expr_of ts) given.is
    ∙ ap₂ (λ x y. T.Early given.node (type_at ts given.ty) given.short (expr_of ts x) (expr_of ts y)) (sym c.deref-left.ensures) (sym c.deref-right.ensures) in
    exprs_as ts facts modes _ _ c.args.t whole
    (listed_as _ _ (early_list ts facts modes given.node (type_at ts given.ty) given.short (expr_of ts c.deref-left.result.now)
    (expr_of ts c.deref-right.result.now)
    c.args.t c.args.u c.in-Some.v begins c.in-Some.ensures)
    (three (value_at ts facts modes true given.node (Some (type_at ts given.ty)) c.args.t) _ _ c.put_value.ensures c.list_expr.ensures
    c.list_expr-in-Early.ensures))

pub list_expr-returns-in-Some-list_choices : goal.list_expr-returns-in-Some-list_choices
list_expr-returns-in-Some-list_choices t c =
    let ts = types_of c.args.around.now in
    let facts = facts_of c.args.around.now in
    let modes = modes_of c.args.around.now in
    let given = c.in-If in
    let last = ByValue (expr_of ts c.deref.result.now) NoArg in
    let whole = ap (expr_of ts) given.is ∙ chosen ts given.node given.ty given.branches given.otherwise
    ∙ ap (λ e. T.Choose given.node (if_type ts given.ty) ByConditions (choices_of ts given.branches.items (ByValue (expr_of ts e) NoArg)))
    (sym c.deref.ensures) in
    exprs_as ts facts modes _ _ c.args.t whole
    (listed_as _ _ (chosen_list ts facts modes given.node (if_type ts given.ty) (choices_of ts given.branches.items last) c.args.t c.in-Some.u
    c.in-Some.ensures)
    (joined _ _ c.put_value-in-If.ensures
    (c.in-Some-list_choices.ensures last _ (listed_as _ _ (last_list ts facts modes (expr_of ts c.deref.result.now) c.in-Some-list_choices.v)
    c.list_expr.ensures))))

pub list_case-returns : goal.list_case-returns
list_case-returns t c begins =
    let ts = types_of c.args.around.now in
    let facts = facts_of c.args.around.now in
    let modes = modes_of c.args.around.now in
    let given = c.in-Case in
    let last = if_value ts (option_map (λ v. v.value) given.otherwise) in
    let whole = ap (expr_of ts) given.is ∙ selected ts given.node given.ty given.selector given.branches given.otherwise
    ∙ ap (λ x. T.Choose given.node (if_type ts given.ty) (ByLabels (pick_labels given.branches.items))
    (operand_before ts x (picks_of ts given.branches.items (if_value ts (option_map (λ v. v.value) given.otherwise)))))
    (sym c.deref-selector.ensures) in
    exprs_as ts facts modes _ _ c.args.t whole
    (listed_as _ _ (selected_list ts facts modes ts given.node (if_type ts given.ty) (pick_labels given.branches.items) c.deref-selector.result.now
    (picks_of ts given.branches.items last) (length given.branches.items) c.args.t c.args.u c.in-Some.s c.in-Some-selector_from.from
    c.in-Some-behind_selector.v begins c.in-Some.ensures (sym (pick_count given.branches.items)) (c.in-Some-selector_from.ensures ts)
    c.in-Some-behind_selector.ensures)
    (joined _ _ c.put_value.ensures
    (three _ _ _ c.put_selector.ensures c.list_operand.ensures (c.in-Some-list_picks.ensures last _ c.list_else.ensures))))

pub list_path-returns-in-Field : goal.list_path-returns-in-Field
list_path-returns-in-Field t c =
    let ts = types_of c.args.around.now in
    let facts = facts_of c.args.around.now in
    let modes = modes_of c.args.around.now in
    let given = c.in-Field in
    let whole = ap (path_of ts) given.is
    ∙ ap (λ x. T.Field given.node (type_at ts given.ty) (path_of ts x) given.field) (sym c.deref-base.ensures) in
    listed_as _ _ (ap (λ p. path_places ts facts modes p c.args.t) whole
    ∙ field_list ts facts modes given.node (type_at ts given.ty) (path_of ts c.deref-base.result.now) given.field c.args.t c.in-Some.u c.in-Some.ensures)
    (joined (location ts facts modes (T.Field given.node (type_at ts given.ty) (path_of ts c.deref-base.result.now) given.field) c.args.t) _
    (listed_as _ _ (sym (ap (λ p. location ts facts modes p c.args.t) whole)) c.put_location-in-Field.ensures) c.list_path.ensures)

pub list_path-returns-in-Deref : goal.list_path-returns-in-Deref
list_path-returns-in-Deref t c =
    let ts = types_of c.args.around.now in
    let facts = facts_of c.args.around.now in
    let modes = modes_of c.args.around.now in
    let given = c.in-Deref in
    let whole = ap (path_of ts) given.is ∙ ap (λ x. T.Deref (type_at ts given.ty) (path_of ts x)) (sym c.deref-base-in-Deref.ensures) in
    listed_as _ _ (ap (λ p. path_places ts facts modes p c.args.t) whole
    ∙ deref_list ts facts modes (type_at ts given.ty) (path_of ts c.deref-base-in-Deref.result.now) c.args.t c.in-Some.u c.in-Some.ensures)
    (joined (location ts facts modes (T.Deref (type_at ts given.ty) (path_of ts c.deref-base-in-Deref.result.now)) c.args.t) _
    (listed_as _ _ (sym (ap (λ p. location ts facts modes p c.args.t) whole)) c.put_location-in-Deref.ensures) c.list_path-in-Deref.ensures)

pub list_path-returns-in-Some-behind_path : goal.list_path-returns-in-Some-behind_path
list_path-returns-in-Some-behind_path t c =
    let ts = types_of c.args.around.now in
    let facts = facts_of c.args.around.now in
    let modes = modes_of c.args.around.now in
    let given = c.in-Element in
    let whole = ap (path_of ts) given.is
    ∙ ap₂ (λ x y. T.Element given.node (type_at ts given.ty) (path_of ts x) (expr_of ts y) given.constant) (sym c.deref-base-in-Element.ensures)
    (sym c.deref-index.ensures) in
    listed_as _ _ (ap (λ p. path_places ts facts modes p c.args.t) whole
    ∙ element_list ts facts modes given.node (type_at ts given.ty) (path_of ts c.deref-base-in-Element.result.now) (expr_of ts c.deref-index.result.now)
    given.constant
    c.args.t c.in-Some.u c.in-Some-behind_path.v c.in-Some.ensures c.in-Some-behind_path.ensures)
    (three
    (location ts facts modes (T.Element given.node (type_at ts given.ty) (path_of ts c.deref-base-in-Element.result.now) (expr_of ts c.deref-index.result.now)
    given.constant)
    c.args.t) _ _ (listed_as _ _ (sym (ap (λ p. location ts facts modes p c.args.t) whole)) c.put_location-in-Element.ensures) c.list_path-in-Element.ensures
    c.list_expr.ensures)

pub list_operands-loop-operand-preserved : goal.list_operands-loop-operand-preserved
list_operands-loop-operand-preserved t c =
    let ts = types_of c.args.around.now in
    let facts = facts_of c.args.around.now in
    let modes = modes_of c.args.around.now in
    let loop = c.loop-operand in
    let x = c.operand-item.result in
    let act = act_of c.args.uses in
    let uses = uses_of modes c.args.uses in
    let how = c.use_at-how.result in
    let left = operands_of ts (drop (loop.operand-index + 1) c.args.operands.now.items) in
    let next = drop_turn c.args.operands.now.items c.deref-operand-items.result.now loop.operand-index x c.deref-operand-items.ensures.value
    c.loop-operand-test.true
    c.operand-item.is in (
      omega (arith, loop.invariant.0),
      listed_more _ loop.places _ _
          (operand_places ts facts modes act (operands_of ts (drop loop.operand-index c.args.operands.now.items)) uses loop.position loop.u)
          (first_places ts facts modes (operand_before ts x NoArg) loop.u ++ lent_first ts facts modes act how (operand_before ts x NoArg) loop.u)
          (operand_places ts facts modes act left uses (loop.position + 1) c.in-Some.following) loop.invariant.1
          (joined _ _ c.list_operand.ensures c.put_lent.ensures)
          (ap (λ ys. operand_places ts facts modes act (operands_of ts ys) uses loop.position loop.u) next
          ∙ operands_list ts facts modes ts act x left uses how loop.position (loop.position + 1) loop.u c.in-Some.following c.use_at-how.ensures (omega arith)
          c.in-Some.ensures),
    )

pub list_choices-loop-branch-preserved : goal.list_choices-loop-branch-preserved
list_choices-loop-branch-preserved t c last =
    let ts = types_of c.args.around.now in
    let facts = facts_of c.args.around.now in
    let modes = modes_of c.args.around.now in
    let loop = c.loop-branch in
    let x = c.branch-item.result in
    let left = choices_of ts (drop (loop.branch-index + 1) c.args.branches.now.items) last in
    let next = drop_turn c.args.branches.now.items c.deref-branch-items.result.now loop.branch-index x c.deref-branch-items.ensures.value
    c.loop-branch-test.true
    c.branch-item.is in
    listed_more _ loop.places _ _ (part_places ts facts modes (choices_of ts (drop loop.branch-index c.args.branches.now.items) last) loop.u)
    (expr_places ts facts modes (expr_of ts x.condition) loop.u ++ expr_places ts facts modes (expr_of ts x.value) c.in-Some.v)
    (part_places ts facts modes left c.in-Some-behind_value.following) (loop.invariant last)
    (joined _ _ c.list_expr.ensures c.list_expr-in-loop-branch.ensures)
    (ap (λ ys. part_places ts facts modes (choices_of ts ys last) loop.u) next
    ∙ choices_list ts facts modes (expr_of ts x.condition) (expr_of ts x.value) left loop.u c.in-Some.v c.in-Some-behind_value.following c.in-Some.ensures
    c.in-Some-behind_value.ensures)

pub list_else-returns-in-Some : goal.list_else-returns-in-Some
list_else-returns-in-Some t c =
    let ts = types_of c.args.around.now in
    let facts = facts_of c.args.around.now in
    let modes = modes_of c.args.around.now in
    listed_as _ _ (ap (λ o. part_places ts facts modes (if_value ts (option_map (λ e. e.value) o)) c.args.t) c.in-Some.is
    ∙ ap (λ x. part_places ts facts modes (ByValue (expr_of ts x) NoArg) c.args.t) (sym c.deref.ensures)
    ∙ last_list ts facts modes (expr_of ts c.deref.result.now) c.args.t) c.list_expr.ensures

pub list_operands-returns : goal.list_operands-returns
list_operands-returns t c =
    let ts = types_of c.args.around.now in
    let facts = facts_of c.args.around.now in
    let modes = modes_of c.args.around.now in
    let loop = c.loop-operand in
    let all = λ (ys : List Operand).
    operand_places ts facts modes (act_of c.args.uses) (operands_of ts ys) (uses_of modes c.args.uses) loop.position loop.u in
    let none = drop_end c.args.operands.now.items c.deref-operand-items.result.now loop.operand-index c.deref-operand-items.ensures.value
    c.loop-operand-test.false in
    listed_end _ loop.places loop.places _ (all (drop loop.operand-index c.args.operands.now.items)) [] loop.invariant.1 (ap all none) (puts_none loop.places)

pub list_choices-returns : goal.list_choices-returns
list_choices-returns t c last end put =
    let ts = types_of c.args.around.now in
    let facts = facts_of c.args.around.now in
    let modes = modes_of c.args.around.now in
    let loop = c.loop-branch in
    let all = λ (ys : List Choice). part_places ts facts modes (choices_of ts ys last) loop.u in
    let none = drop_end c.args.branches.now.items c.deref-branch-items.result.now loop.branch-index c.deref-branch-items.ensures.value
    c.loop-branch-test.false in
    listed_end _ loop.places end _ (all (drop loop.branch-index c.args.branches.now.items)) (part_places ts facts modes last loop.u) (loop.invariant last)
    (ap all none) put

pub list_picks-loop-branch-preserved : goal.list_picks-loop-branch-preserved
list_picks-loop-branch-preserved t c last =
    let ts = types_of c.args.around.now in
    let facts = facts_of c.args.around.now in
    let modes = modes_of c.args.around.now in
    let loop = c.loop-branch in
    let x = c.branch-item.result in
    let all = λ (ys : List Pick). part_places ts facts modes (picks_of ts ys last) loop.u in
    let left = picks_of ts (drop (loop.branch-index + 1) c.args.branches.now.items) last in
    let next = drop_turn c.args.branches.now.items c.deref-branch-items.result.now loop.branch-index x c.deref-branch-items.ensures.value
    c.loop-branch-test.true
    c.branch-item.is in
    listed_more _ loop.places _ _ (all (drop loop.branch-index c.args.branches.now.items)) (expr_places ts facts modes (expr_of ts x.value) loop.u)
    (part_places ts facts modes left c.in-Some.following) (loop.invariant last) c.list_expr.ensures
    (ap all next ∙ picks_list ts facts modes (expr_of ts x.value) left loop.u c.in-Some.following c.in-Some.ensures)

pub list_picks-returns : goal.list_picks-returns
list_picks-returns t c last end put =
    let ts = types_of c.args.around.now in
    let facts = facts_of c.args.around.now in
    let modes = modes_of c.args.around.now in
    let loop = c.loop-branch in
    let all = λ (ys : List Pick). part_places ts facts modes (picks_of ts ys last) loop.u in
    let none = drop_end c.args.branches.now.items c.deref-branch-items.result.now loop.branch-index c.deref-branch-items.ensures.value
    c.loop-branch-test.false in
    listed_end _ loop.places end _ (all (drop loop.branch-index c.args.branches.now.items)) (part_places ts facts modes last loop.u) (loop.invariant last)
    (ap all none) put
