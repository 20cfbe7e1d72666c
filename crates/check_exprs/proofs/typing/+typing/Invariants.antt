use Rattle.std.proofs.Common.{◌+◌, ◌*◌, suc, map, drop, length}
use Rattle.nim_tree.specs.Terms.{term_of, parts_of, choices_of, nodes, nodes_in, nodes_of}
use Rattle.nim_types.specs.Table.{type_at, AllBelow}
use Rattle.expr_rules.specs.Typed.{values, read_types}
use Rattle.expr_parts.specs.View.{env_of, valued_of, operand_of, OperandsWithin}
use Rattle.expr_parts.specs.ViewReady.{ValuesWithin}
use Rattle.expr_steps.specs.ViewTyping.{asks_of, AsksWithin}
use Rattle.expr_steps.specs.ViewDemands.{demand_of}
use Rattle.expr_steps.specs.ViewChoices.{conditions_of, ConditionsWithin, picked_of, PickedWithin, tests_of}
use Rattle.check_exprs.specs.ViewTyped.{values_said, operands_said, types_said, conditions_said, picks_said, labels_said, no_tests, AreAll, case_by}
use Rattle.check_exprs.proofs.Stepping.{Yet}
use Rattle.check_exprs.proofs.typing.+typing.Given as goal

abbrev pub decreases-typed : goal.decreases-typed
decreases-typed l = 8 * nodes (term_of l.tree.now) + 1

abbrev pub decreases-forms::tuple : goal.decreases-forms::tuple
decreases-forms::tuple l = 8 * suc (nodes_in (parts_of l.parts.now))

abbrev pub decreases-forms::array : goal.decreases-forms::array
decreases-forms::array l = 8 * suc (nodes_in (parts_of l.parts.now))

abbrev pub decreases-forms::sequence : goal.decreases-forms::sequence
decreases-forms::sequence l = 8 * suc (nodes_in (parts_of l.parts.now))

abbrev pub decreases-forms::object : goal.decreases-forms::object
decreases-forms::object l = 8 * suc (nodes_in (parts_of l.parts.now))

abbrev pub decreases-forms::field : goal.decreases-forms::field
decreases-forms::field l = 8 * suc (nodes (term_of l.base.now))

abbrev pub decreases-forms::index : goal.decreases-forms::index
decreases-forms::index l = 8 * suc (nodes (term_of l.base.now) + nodes_in (parts_of l.parts.now))

abbrev pub decreases-forms::element : goal.decreases-forms::element
decreases-forms::element l = 8 * (nodes (term_of l.base.now) + nodes (term_of l.index.now)) + 7

abbrev pub decreases-forms::unary : goal.decreases-forms::unary
decreases-forms::unary l = 8 * suc (nodes (term_of l.operand.now))

abbrev pub decreases-forms::binary : goal.decreases-forms::binary
decreases-forms::binary l = 8 * suc (nodes (term_of l.left.now) + nodes (term_of l.right.now))

abbrev pub decreases-values::value_at : goal.decreases-values::value_at
decreases-values::value_at l = 8 * nodes (term_of l.tree.now) + 2

abbrev pub decreases-values::values : goal.decreases-values::values
decreases-values::values l = 8 * nodes_in (parts_of l.parts.now) + 5

abbrev pub decreases-operands::value_operand : goal.decreases-operands::value_operand
decreases-operands::value_operand l = 8 * nodes (term_of l.tree.now) + 3

abbrev pub decreases-operands::type_operand : goal.decreases-operands::type_operand
decreases-operands::type_operand l = 8 * nodes (term_of l.tree.now) + 3

abbrev pub decreases-operands::operand_at : goal.decreases-operands::operand_at
decreases-operands::operand_at l = 8 * nodes (term_of l.tree.now) + 4

abbrev pub decreases-operands::operands : goal.decreases-operands::operands
decreases-operands::operands l = 8 * nodes_in (parts_of l.parts.now) + 5

abbrev pub decreases-calls::call : goal.decreases-calls::call
decreases-calls::call l = 8 * suc (nodes (term_of l.base.now) + nodes_in (parts_of l.parts.now))

abbrev pub decreases-calls::named_call : goal.decreases-calls::named_call
decreases-calls::named_call l = 8 * nodes_in (parts_of l.parts.now) + 6

abbrev pub decreases-calls::quoted_call : goal.decreases-calls::quoted_call
decreases-calls::quoted_call l = 8 * nodes_in (parts_of l.parts.now) + 6

abbrev pub decreases-calls::method_call : goal.decreases-calls::method_call
decreases-calls::method_call l = 8 * (nodes (term_of l.base.now) + nodes_in (parts_of l.parts.now)) + 7

abbrev pub decreases-calls::bracket_call : goal.decreases-calls::bracket_call
decreases-calls::bracket_call l = 8 * (nodes (term_of l.base.now) + nodes_in (parts_of l.given.now) + nodes_in (parts_of l.parts.now)) + 11

abbrev pub decreases-calls::bracket_named : goal.decreases-calls::bracket_named
decreases-calls::bracket_named l = 8 * (nodes_in (parts_of l.given.now) + nodes_in (parts_of l.parts.now)) + 10

abbrev pub decreases-calls::one_bracket : goal.decreases-calls::one_bracket
decreases-calls::one_bracket l = 8 * (nodes_in (parts_of l.given.now) + nodes_in (parts_of l.parts.now)) + 9

abbrev pub decreases-calls::conversion : goal.decreases-calls::conversion
decreases-calls::conversion l = 8 * (nodes_in (parts_of l.given.now) + nodes_in (parts_of l.parts.now)) + 8

abbrev pub decreases-calls::new_sequence : goal.decreases-calls::new_sequence
decreases-calls::new_sequence l = 8 * (nodes (term_of l.ty.now) + nodes_in (parts_of l.parts.now)) + 6

abbrev pub decreases-branches::if_with_else : goal.decreases-branches::if_with_else
decreases-branches::if_with_else l = 8 * suc (nodes_of (choices_of l.choices.now) + nodes (term_of l.otherwise.now))

abbrev pub decreases-branches::conditions : goal.decreases-branches::conditions
decreases-branches::conditions l = 8 * nodes_of (choices_of l.choices.now) + 1

abbrev pub decreases-branches::condition : goal.decreases-branches::condition
decreases-branches::condition l = 8 * suc (nodes_in (parts_of l.choice.now.tests.items) + nodes (term_of l.choice.now.value))

abbrev pub decreases-branches::test_at : goal.decreases-branches::test_at
decreases-branches::test_at l = 8 * nodes_in (parts_of l.tests.now) + 3

abbrev pub decreases-branches::case_of : goal.decreases-branches::case_of
decreases-branches::case_of l = 8 * nodes (case_by l.at (term_of l.selector.now) (choices_of l.choices.now) l.otherwise.now)

abbrev pub decreases-branches::case_alone : goal.decreases-branches::case_alone
decreases-branches::case_alone l = 8 * (nodes (term_of l.selector.now) + nodes_of (choices_of l.choices.now)) + 7

abbrev pub decreases-branches::case_with_else : goal.decreases-branches::case_with_else
decreases-branches::case_with_else l = 8 * (nodes (term_of l.selector.now) + nodes_of (choices_of l.choices.now) + nodes (term_of l.otherwise.now)) + 7

abbrev pub decreases-branches::picks : goal.decreases-branches::picks
decreases-branches::picks l = 8 * nodes_of (choices_of l.choices.now) + 1

abbrev pub decreases-branches::pick : goal.decreases-branches::pick
decreases-branches::pick l = 8 * suc (nodes_in (parts_of l.choice.now.tests.items) + nodes (term_of l.choice.now.value))

abbrev pub decreases-labels::labels : goal.decreases-labels::labels
decreases-labels::labels l = 8 * nodes_in (parts_of l.tests.now) + 5

abbrev pub decreases-labels::label_at : goal.decreases-labels::label_at
decreases-labels::label_at l = 8 * nodes (term_of l.test.now) + 3

abbrev pub decreases-labels::range_at : goal.decreases-labels::range_at
decreases-labels::range_at l = 8 * suc (nodes (term_of l.low.now) + nodes (term_of l.high.now))

abbrev pub decreases-labels::one_label : goal.decreases-labels::one_label
decreases-labels::one_label l = 8 * nodes (term_of l.tree.now) + 2

abbrev pub decreases-written::read_type : goal.decreases-written::read_type
decreases-written::read_type l = 8 * nodes (term_of l.tree.now) + 2

abbrev pub decreases-written::bracket_type : goal.decreases-written::bracket_type
decreases-written::bracket_type l = 8 * suc (nodes (term_of l.base.now) + nodes_in (parts_of l.given.now)) + 1

abbrev pub decreases-written::formed : goal.decreases-written::formed
decreases-written::formed l = 8 * nodes_in (parts_of l.given.now) + 6

abbrev pub decreases-written::read_array : goal.decreases-written::read_array
decreases-written::read_array l = 8 * nodes_in (parts_of l.given.now) + 5

abbrev pub decreases-written::array_of : goal.decreases-written::array_of
decreases-written::array_of l = 8 * (nodes (term_of l.len.now) + nodes (term_of l.of.now)) + 4

abbrev pub decreases-written::read_types : goal.decreases-written::read_types
decreases-written::read_types l = 8 * nodes_in (parts_of l.given.now) + 5

abbrev pub invariant-values::values-loop-part : goal.invariant-values::values-loop-part
invariant-values::values-loop-part l = record {
  yet : Yet l.fn.types l.types (λ ts facts. values (env_of ts facts l.scope) (asks_of ts l.fn.left l.fn.asks) l.fn.number (parts_of l.fn.parts))
      (λ ts facts. values_said (env_of ts facts l.scope) (asks_of ts l.rest l.asked) l.next (map (valued_of ts) l.all.items)
      (parts_of (drop l.part-index l.parts)));
  asked : AsksWithin (length l.types) l.rest l.asked;
  within : ValuesWithin (length l.types) l.all.items;
}

abbrev pub invariant-operands::operands-loop-part : goal.invariant-operands::operands-loop-part
invariant-operands::operands-loop-part l = record {
  yet : Yet l.fn.types l.types
      (λ ts facts. operands_said (env_of ts facts l.scope) (demand_of l.fn.demand) l.fn.number (map (operand_of ts) l.fn.before.items) (parts_of l.fn.parts))
      (λ ts facts. operands_said (env_of ts facts l.scope) (demand_of l.demanded) l.next (map (operand_of ts) l.all.items)
      (parts_of (drop l.part-index l.parts)));
  within : OperandsWithin (length l.types) l.all.items;
}

abbrev pub invariant-branches::conditions-loop-choice : goal.invariant-branches::conditions-loop-choice
invariant-branches::conditions-loop-choice l = record {
  yet : Yet l.fn.types l.types
      (λ ts facts. conditions_said (env_of ts facts l.scope) (conditions_of ts l.fn.before) (choices_of l.fn.choices))
      (λ ts facts. conditions_said (env_of ts facts l.scope) (conditions_of ts l.so_far) (choices_of (drop l.choice-index l.choices)));
  within : ConditionsWithin (length l.types) l.so_far;
}

abbrev pub invariant-branches::picks-loop-choice : goal.invariant-branches::picks-loop-choice
invariant-branches::picks-loop-choice l = record {
  yet : Yet l.fn.types l.types
      (λ ts facts. picks_said (env_of ts facts l.scope) (type_at ts l.ty) (picked_of ts l.fn.before) (choices_of l.fn.choices))
      (λ ts facts. picks_said (env_of ts facts l.scope) (type_at ts l.ty) (picked_of ts l.so_far) (choices_of (drop l.choice-index l.choices)));
  within : PickedWithin (length l.types) l.so_far;
}

abbrev pub invariant-labels::labels-loop-test : goal.invariant-labels::labels-loop-test
invariant-labels::labels-loop-test l = record {
  yet : Yet l.fn.types l.types
      (λ ts facts. labels_said (env_of ts facts l.scope) (type_at ts l.ty) (no_tests l.fn.before) (parts_of l.fn.tests))
      (λ ts facts. labels_said (env_of ts facts l.scope) (type_at ts l.ty) (tests_of l.so_far) (parts_of (drop l.test-index l.tests)));
  within : AreAll l.fn.before (length l.types) l.so_far;
}

abbrev pub invariant-written::read_types-loop-part : goal.invariant-written::read_types-loop-part
invariant-written::read_types-loop-part l = record {
  yet : Yet l.fn.types l.types (λ ts facts. read_types (env_of ts facts l.scope) (parts_of l.fn.given))
      (λ ts facts. types_said (env_of ts facts l.scope) (map (type_at ts) l.ids.items) (parts_of (drop l.part-index l.given)));
  within : AllBelow (length l.types) l.ids.items;
}
