use Rattle.std.proofs.Common.{append-nil, ◌≡◌, ◌+◌, ◌∷◌, ◌++◌, ◌∙◌, ℕ, suc, List, [], length, map, drop, refl, sym, ap, ap₂}
use Rattle.std.proofs.Common.{subst, arith, rules, w32, to_z, of_z, false, true}
use Rattle.std.specs.Prelude.{Bool, ◌&&◌, nat_eq, Ok, Err, ℤ, pos}
use Rattle.std.proofs.lemmas.List.{map_push}
use Rattle.std.proofs.lemmas.Int.{to_z-of_z}
use Rattle.std.proofs.lemmas.Bool.Decides.{nat_tests}
use Rattle.arc_base.specs.declared.place.Code.TheVariants.{NotTyped, LeftOut}
use Rattle.arc_base.specs.Refusal.{and_then, Answers}
use Rattle.indent_scanner.specs.ByForm.{characters}
use Rattle.nim_tree.specs.Terms.{part, no_parts, term_of, parts_of, choices_of, place_of, nodes, nodes_in}
use Rattle.nim_tree.proofs.ForCallers.{called, indexed, listed, chosen, constructed, sequenced, tupled}
use Rattle.nim_types.specs.Types.{Ty, Facts}
use Rattle.nim_types.specs.Table.{type_at, AllBelow}
use Rattle.nim_program.specs.Nodes.{literal}
use Rattle.nim_program.specs.Program.{Label, NoArg, Number, Characters}
use Rattle.nim_program.specs.View.{expr_of, label_of}
use Rattle.expr_rules.specs.Answers.{Typed, node, gives, nothing, value_of, a_type, open_sequence, inner_by}
use Rattle.expr_rules.specs.Choices.{Chosen, Picked, undecided, branch_want, range_of}
use Rattle.expr_rules.specs.Constructions.{Plan, part_names, tuple_wants, array_want, sequence_want, plan_for, types_in}
use Rattle.expr_rules.specs.Demands.{anything, exactly, ordinary, asks_behind, demand_behind, call_demand}
use Rattle.expr_rules.specs.Names.{named_value, named_type, callee_rule, count_rule, quoted_rule, bracket_rule, is_shown_by_call, is_array, formed_type}
use Rattle.expr_rules.specs.Names.{array_type, length_rule}
use Rattle.expr_rules.specs.Typed.{Value, Values, Part, Several, typed, values, operands, read_type, read_array, read_types, value_by, shown_by, part_by}
use Rattle.expr_rules.specs.Typed.{label_from, is_pair}
use Rattle.expr_parts.specs.View.{env_of, want_of, typed_of, valued_of, operand_of, found_of, branching_of, OperandsWithin}
use Rattle.expr_parts.specs.ViewReady.{ValuesWithin}
use Rattle.expr_parts.proofs.ForCallers.{grown_same, grown_on, if_ok, next_item, none_left, bool_under, bool_below}
use Rattle.expr_steps.specs.ViewDemands.{demand_of, special_of}
use Rattle.expr_builds.specs.ViewBuilt.{plan_of, PlanWithin, FoundsWithin}
use Rattle.expr_steps.specs.ViewChoices.{Tests, conditions_of, ConditionsWithin, next_condition, picked_of, PickedWithin, next_pick, rows_of}
use Rattle.expr_steps.specs.ViewChoices.{tests_of, next_test}
use Rattle.expr_steps.specs.ViewChoices.{test_place}
use Rattle.expr_steps.specs.ViewEndings.{tuple_end, array_end, sequence_end, object_end, field_end, call_end, new_sequence_end, conversion_end, unary_end}
use Rattle.expr_steps.specs.ViewEndings.{binary_end}
use Rattle.expr_steps.specs.ViewEndings.{index_end, if_end, case_else_end}
use Rattle.expr_steps.specs.ViewTyping.{asks_of, AsksWithin, inners, TypedWithin, given_of, GivenWithin, part_of, PartWithin, values_of, AllWithin}
use Rattle.expr_steps.specs.ViewTyping.{operands_of, AllOperandsWithin, shown_part}
use Rattle.expr_steps.proofs.ForCallers.{said_so, stops_there, goes_on, ready_on, want_more, asks_more, values_more, values_and, operand_more, operands_more}
use Rattle.expr_steps.proofs.ForCallers.{forgotten, operands_and, branches_more, ids_and, all_below_more}
use Rattle.check_exprs.specs.ViewTyped.{value_said, values_said, operand_said, operands_said, types_said, test_said, condition_said, conditions_said}
use Rattle.check_exprs.specs.ViewTyped.{pick_said, picks_said, labels_said, no_tests, label_said, one_label_said, case_by, AreAll, LabelProper, ids_of}
use Rattle.check_exprs.specs.ViewTyped.{IdWithin, sequence_said, conversion_said}
use Rattle.check_exprs.specs.ViewTyped.{IdsWithin}
use Rattle.check_exprs.proofs.Stepping.{exits, exits_without, stays, made_here, here, refused_here, checked, stop_as, go_as, said_from, yet_first, yet_stops}
use Rattle.check_exprs.proofs.Stepping.{yet_goes, yet_ends, AnyLength, Any}
use Rattle.check_exprs.proofs.Handing.{typed_fixed, given_fixed}
use Rattle.check_exprs.proofs.Folding.{value_then, values_first, values_next, values_last, operands_next, operands_last, types_first, types_next, types_last}
use Rattle.check_exprs.proofs.Folding.{conditions_next, conditions_last, picks_next, picks_last, labels_next, labels_last, next_all, label_by_typed}
use Rattle.check_exprs.proofs.Chains.{tuple_chain, array_chain, sequence_chain, object_go, object_chain, field_chain, element_go, element_chain, unary_chain}
use Rattle.check_exprs.proofs.Chains.{binary_go, binary_chain, counted_go, named_chain, counted_chain, quoted_go, quoted_chain, arguments_chain, method_then}
use Rattle.check_exprs.proofs.Chains.{method_behind, method_go, method_chain, receiver_chain, behind_chain, new_then, bracket_chain, length_chain, if_go}
use Rattle.check_exprs.proofs.Chains.{conversion_then, conversion_go, conversion_chain, conversion_behind, converted_chain}
use Rattle.check_exprs.proofs.Chains.{if_chain, case_go, else_go, case_then, else_then, case_chain, else_chain, formed_by, formed_chain, formed_so}
use Rattle.check_exprs.proofs.Chains.{array_behind, length_first}
use Rattle.check_exprs.proofs.Shapes.{call_none, read_none, label_plain, index_none, bracket_none, test_none, case_is, array_none, counted_parts}
use Rattle.check_exprs.proofs.Planned.{plan_more}
use Rattle.check_exprs.proofs.Measuring.{part_light, choice_light, alone_item, two_items}
use Rattle.arc_base.specs.declared.place.Stop.TheVariants as stop
use Rattle.nim_tree.specs.Terms as term
use Rattle.nim_types.specs.Types as type
use Rattle.nim_program.specs.View.{choices_of as expr_choices}
use Rattle.expr_rules.specs.Typed as typing
use Rattle.expr_parts.specs.declared.value.Operand.TheVariants as operand
use Rattle.expr_parts.specs.declared.branching.Branching.TheVariants as branching
use Rattle.expr_steps.specs.declared.choices.Conditions.{Conditions as RustConditions}
use Rattle.check_exprs.proofs.typing.+typing.Goals as goal

-- ---- trees

pub typed-returns-in-Int : goal.typed-returns-in-Int
typed-returns-in-Int t c =
    let is = ap term_of c.in-Int.is in
    let z = to_z-of_z w32 c.in-Int.value (record { sfits = search rules }) in
    said_so (λ ts facts. typed (env_of ts facts c.args.scope.now) (want_of ts c.args.want) c.args.number (term_of c.args.tree.now))
    (λ ts facts u. ap (λ k. typed (env_of ts facts c.args.scope.now) (want_of ts c.args.want) c.args.number k) is ∙ ap
    (λ v. gives (literal (node c.args.number c.in-Int.at) type.int (Number v)) (suc c.args.number)) (sym z))
    (stays c.args.types.now typed_of (λ ts facts. gives (literal (node c.args.number c.in-Int.at) type.int (Number (to_z w32 (of_z w32 c.in-Int.value))))
    (suc c.args.number)) TypedWithin
    c.int_of.result c.int_of.ensures.answers c.int_of.ensures.within)

pub typed-returns-in-Char : goal.typed-returns-in-Char
typed-returns-in-Char t c =
    let is = ap term_of c.in-Char.is in
    said_so (λ ts facts. typed (env_of ts facts c.args.scope.now) (want_of ts c.args.want) c.args.number (term_of c.args.tree.now))
    (λ ts facts u. ap (λ k. typed (env_of ts facts c.args.scope.now) (want_of ts c.args.want) c.args.number k) is)
    (stays c.args.types.now typed_of (λ ts facts. gives (literal (node c.args.number c.in-Char.at) type.char (Number (pos c.in-Char.value)))
    (suc c.args.number))
    TypedWithin
    c.char_of.result c.char_of.ensures.answers c.char_of.ensures.within)

pub typed-returns-in-Text : goal.typed-returns-in-Text
typed-returns-in-Text t c =
    let is = ap term_of c.in-Text.is ∙ ap (term.text c.in-Text.at) (sym c.as_slice.ensures) in
    said_so (λ ts facts. typed (env_of ts facts c.args.scope.now) (want_of ts c.args.want) c.args.number (term_of c.args.tree.now))
    (λ ts facts u. ap (λ k. typed (env_of ts facts c.args.scope.now) (want_of ts c.args.want) c.args.number k) is)
    (stays c.args.types.now typed_of (λ ts facts. gives (literal (node c.args.number c.in-Text.at) type.text (Characters (characters c.as_slice.result.now)))
    (suc c.args.number)) TypedWithin
    c.text_of.result c.text_of.ensures.answers c.text_of.ensures.within)

pub typed-returns-in-Name : goal.typed-returns-in-Name
typed-returns-in-Name t c =
    let is = ap term_of c.in-Name.is ∙ ap (term.name c.in-Name.at) (sym c.as_slice-in-Name.ensures) in
    said_so (λ ts facts. typed (env_of ts facts c.args.scope.now) (want_of ts c.args.want) c.args.number (term_of c.args.tree.now))
    (λ ts facts u. ap (λ k. typed (env_of ts facts c.args.scope.now) (want_of ts c.args.want) c.args.number k) is)
    (stays c.args.types.now typed_of (λ ts facts. named_value (env_of ts facts c.args.scope.now) c.args.number c.in-Name.at c.as_slice-in-Name.result.now)
    TypedWithin
    c.name_of.result c.name_of.ensures.answers c.name_of.ensures.within)

pub typed-returns-in-Quoted : goal.typed-returns-in-Quoted
typed-returns-in-Quoted t c =
    let is = ap term_of c.in-Quoted.is in
    refused_here c.args.types.now typed_of (λ ts facts. typed (env_of ts facts c.args.scope.now) (want_of ts c.args.want) c.args.number
    (term_of c.args.tree.now)) TypedWithin NotTyped c.in-Quoted.at c.refusal.result c.refusal.ensures
    (λ ts facts. ap (λ k. typed (env_of ts facts c.args.scope.now) (want_of ts c.args.want) c.args.number k) is)

pub typed-returns-in-Range : goal.typed-returns-in-Range
typed-returns-in-Range t c =
    let is = ap term_of c.in-Range.is in
    refused_here c.args.types.now typed_of (λ ts facts. typed (env_of ts facts c.args.scope.now) (want_of ts c.args.want) c.args.number
    (term_of c.args.tree.now)) TypedWithin NotTyped c.in-Range.at c.refusal-in-Range.result c.refusal-in-Range.ensures
    (λ ts facts. ap (λ k. typed (env_of ts facts c.args.scope.now) (want_of ts c.args.want) c.args.number k) is)

pub typed-returns-in-Nil : goal.typed-returns-in-Nil
typed-returns-in-Nil t c =
    let is = ap term_of c.in-Nil.is in
    refused_here c.args.types.now typed_of (λ ts facts. typed (env_of ts facts c.args.scope.now) (want_of ts c.args.want) c.args.number
    (term_of c.args.tree.now)) TypedWithin LeftOut c.in-Nil.at c.refusal-in-Nil.result c.refusal-in-Nil.ensures
    (λ ts facts. ap (λ k. typed (env_of ts facts c.args.scope.now) (want_of ts c.args.want) c.args.number k) is)

pub typed-returns-in-Paren : goal.typed-returns-in-Paren
typed-returns-in-Paren t c =
    let is = ap term_of c.in-Paren.is ∙ ap (term.paren c.in-Paren.at) (ap term_of (sym c.deref.ensures)) in
    said_so (λ ts facts. typed (env_of ts facts c.args.scope.now) (want_of ts c.args.want) c.args.number (term_of c.args.tree.now))
    (λ ts facts u. ap (λ k. typed (env_of ts facts c.args.scope.now) (want_of ts c.args.want) c.args.number k) is) c.typed.ensures

pub typed-returns-in-Named : goal.typed-returns-in-Named
typed-returns-in-Named t c =
    let is = ap term_of c.in-Named.is ∙ ap (term.named c.in-Named.at c.in-Named.text) (ap term_of (sym c.deref-in-Named.ensures)) in
    said_so (λ ts facts. typed (env_of ts facts c.args.scope.now) (want_of ts c.args.want) c.args.number (term_of c.args.tree.now))
    (λ ts facts u. ap (λ k. typed (env_of ts facts c.args.scope.now) (want_of ts c.args.want) c.args.number k) is) c.typed-in-Named.ensures

pub typed-returns-in-Tuple : goal.typed-returns-in-Tuple
typed-returns-in-Tuple t c =
    let is = ap term_of c.in-Tuple.is ∙ tupled c.in-Tuple.at c.in-Tuple.parts ∙ ap (λ xs. term.tuple c.in-Tuple.at (parts_of xs))
    (sym c.deref-in-Tuple.ensures.value) in
    said_so (λ ts facts. typed (env_of ts facts c.args.scope.now) (want_of ts c.args.want) c.args.number (term_of c.args.tree.now))
    (λ ts facts u. ap (λ k. typed (env_of ts facts c.args.scope.now) (want_of ts c.args.want) c.args.number k) is) c.tuple.ensures

pub typed-returns-in-Array : goal.typed-returns-in-Array
typed-returns-in-Array t c =
    let is = ap term_of c.in-Array.is ∙ listed c.in-Array.at c.in-Array.parts ∙ ap (λ xs. term.array c.in-Array.at (parts_of xs))
    (sym c.deref-in-Array.ensures.value) in
    said_so (λ ts facts. typed (env_of ts facts c.args.scope.now) (want_of ts c.args.want) c.args.number (term_of c.args.tree.now))
    (λ ts facts u. ap (λ k. typed (env_of ts facts c.args.scope.now) (want_of ts c.args.want) c.args.number k) is) c.array.ensures

pub typed-returns-in-Sequence : goal.typed-returns-in-Sequence
typed-returns-in-Sequence t c =
    let is = ap term_of c.in-Sequence.is ∙ sequenced c.in-Sequence.at c.in-Sequence.parts ∙ ap (λ xs. term.sequence c.in-Sequence.at (parts_of xs))
    (sym c.deref-in-Sequence.ensures.value) in
    said_so (λ ts facts. typed (env_of ts facts c.args.scope.now) (want_of ts c.args.want) c.args.number (term_of c.args.tree.now))
    (λ ts facts u. ap (λ k. typed (env_of ts facts c.args.scope.now) (want_of ts c.args.want) c.args.number k) is) c.sequence.ensures

pub typed-returns-in-Construct : goal.typed-returns-in-Construct
typed-returns-in-Construct t c =
    let is = ap term_of c.in-Construct.is ∙ constructed c.in-Construct.at c.in-Construct.text c.in-Construct.parts ∙ ap₂
    (λ x xs. term.construct c.in-Construct.at x (parts_of xs)) (sym c.as_slice-in-Construct.ensures) (sym c.deref-in-Construct.ensures.value) in
    said_so (λ ts facts. typed (env_of ts facts c.args.scope.now) (want_of ts c.args.want) c.args.number (term_of c.args.tree.now))
    (λ ts facts u. ap (λ k. typed (env_of ts facts c.args.scope.now) (want_of ts c.args.want) c.args.number k) is) (c.object.ensures c.args.want)

pub typed-returns-in-Field : goal.typed-returns-in-Field
typed-returns-in-Field t c =
    let is = ap term_of c.in-Field.is ∙ ap₂ (λ a x. term.field c.in-Field.at (term_of a) x) (sym c.deref-in-Field.ensures)
    (sym c.as_slice-in-Field.ensures) in
    said_so (λ ts facts. typed (env_of ts facts c.args.scope.now) (want_of ts c.args.want) c.args.number (term_of c.args.tree.now))
    (λ ts facts u. ap (λ k. typed (env_of ts facts c.args.scope.now) (want_of ts c.args.want) c.args.number k) is) (c.field.ensures c.args.want)

pub typed-returns-in-Index : goal.typed-returns-in-Index
typed-returns-in-Index t c =
    let is = ap term_of c.in-Index.is ∙ indexed c.in-Index.at c.in-Index.base c.in-Index.parts ∙ ap₂
    (λ a xs. term.index c.in-Index.at (term_of a) (parts_of xs)) (sym c.deref-in-Index.ensures) (sym c.deref-in-Index-2.ensures.value) in
    said_so (λ ts facts. typed (env_of ts facts c.args.scope.now) (want_of ts c.args.want) c.args.number (term_of c.args.tree.now))
    (λ ts facts u. ap (λ k. typed (env_of ts facts c.args.scope.now) (want_of ts c.args.want) c.args.number k) is) (c.index.ensures c.args.want)

pub typed-returns-in-Call : goal.typed-returns-in-Call
typed-returns-in-Call t c =
    let is = ap term_of c.in-Call.is ∙ called c.in-Call.at c.in-Call.base c.in-Call.parts ∙ ap₂
    (λ a xs. term.call c.in-Call.at (term_of a) (parts_of xs)) (sym c.deref-in-Call.ensures) (sym c.deref-in-Call-2.ensures.value) in
    said_so (λ ts facts. typed (env_of ts facts c.args.scope.now) (want_of ts c.args.want) c.args.number (term_of c.args.tree.now))
    (λ ts facts u. ap (λ k. typed (env_of ts facts c.args.scope.now) (want_of ts c.args.want) c.args.number k) is) (c.call.ensures c.args.want)

pub typed-returns-in-Unary : goal.typed-returns-in-Unary
typed-returns-in-Unary t c =
    let is = ap term_of c.in-Unary.is ∙ ap (λ a. term.unary c.in-Unary.at c.in-Unary.op (term_of a)) (sym c.deref-in-Unary.ensures) in
    said_so (λ ts facts. typed (env_of ts facts c.args.scope.now) (want_of ts c.args.want) c.args.number (term_of c.args.tree.now))
    (λ ts facts u. ap (λ k. typed (env_of ts facts c.args.scope.now) (want_of ts c.args.want) c.args.number k) is) (c.unary.ensures c.args.want)

pub typed-returns-in-Binary : goal.typed-returns-in-Binary
typed-returns-in-Binary t c =
    let is = ap term_of c.in-Binary.is ∙ ap₂ (λ a b. term.binary c.in-Binary.at c.in-Binary.op (term_of a) (term_of b)) (sym c.deref-in-Binary.ensures)
    (sym c.deref-in-Binary-2.ensures) in
    said_so (λ ts facts. typed (env_of ts facts c.args.scope.now) (want_of ts c.args.want) c.args.number (term_of c.args.tree.now))
    (λ ts facts u. ap (λ k. typed (env_of ts facts c.args.scope.now) (want_of ts c.args.want) c.args.number k) is) (c.binary.ensures c.args.want)

pub typed-returns-in-If : goal.typed-returns-in-If
typed-returns-in-If t c =
    let is = ap term_of c.in-If.is ∙ chosen c.in-If.at c.in-If.branches c.in-If.otherwise ∙ ap₂
    (λ cs a. term.if_term c.in-If.at (choices_of cs) (term_of a)) (sym c.deref-in-If.ensures.value) (sym c.deref-in-If-2.ensures) in
    said_so (λ ts facts. typed (env_of ts facts c.args.scope.now) (want_of ts c.args.want) c.args.number (term_of c.args.tree.now))
    (λ ts facts u. ap (λ k. typed (env_of ts facts c.args.scope.now) (want_of ts c.args.want) c.args.number k) is) c.if_with_else.ensures

pub typed-returns-in-Case : goal.typed-returns-in-Case
typed-returns-in-Case t c =
    let is = ap term_of c.in-Case.is ∙ case_is c.in-Case.at c.in-Case.selector c.in-Case.branches c.in-Case.otherwise ∙ ap₂
    (λ a cs. case_by c.in-Case.at (term_of a) (choices_of cs) c.in-Case.otherwise) (sym c.deref-in-Case.ensures) (sym c.deref-in-Case-2.ensures.value) in
    said_so (λ ts facts. typed (env_of ts facts c.args.scope.now) (want_of ts c.args.want) c.args.number (term_of c.args.tree.now))
    (λ ts facts u. ap (λ k. typed (env_of ts facts c.args.scope.now) (want_of ts c.args.want) c.args.number k) is) c.case_of.ensures

pub typed-typed-requires : goal.typed-typed-requires
typed-typed-requires t c =
    let e = ap nodes (ap term_of c.in-Paren.is ∙ ap (term.paren c.in-Paren.at) (ap term_of (sym c.deref.ensures))) in
    (omega (arith, c.decreases, e), (c.requires.ready, c.requires.want))

pub typed-typed-requires-in-Named : goal.typed-typed-requires-in-Named
typed-typed-requires-in-Named t c =
    let e = ap nodes (ap term_of c.in-Named.is ∙ ap (term.named c.in-Named.at c.in-Named.text) (ap term_of (sym c.deref-in-Named.ensures))) in
    (omega (arith, c.decreases, e), (c.requires.ready, c.requires.want))

pub typed-tuple-requires : goal.typed-tuple-requires
typed-tuple-requires t c =
    let e = ap nodes (ap term_of c.in-Tuple.is ∙ tupled c.in-Tuple.at c.in-Tuple.parts ∙ ap (λ xs. term.tuple c.in-Tuple.at (parts_of xs))
    (sym c.deref-in-Tuple.ensures.value)) in
    (omega (arith, c.decreases, e), (c.requires.ready, c.requires.want))

pub typed-array-requires : goal.typed-array-requires
typed-array-requires t c =
    let e = ap nodes (ap term_of c.in-Array.is ∙ listed c.in-Array.at c.in-Array.parts ∙ ap (λ xs. term.array c.in-Array.at (parts_of xs))
    (sym c.deref-in-Array.ensures.value)) in
    (omega (arith, c.decreases, e), (c.requires.ready, c.requires.want))

pub typed-sequence-requires : goal.typed-sequence-requires
typed-sequence-requires t c =
    let e = ap nodes
    (ap term_of c.in-Sequence.is ∙ sequenced c.in-Sequence.at c.in-Sequence.parts ∙ ap (λ xs. term.sequence c.in-Sequence.at (parts_of xs))
    (sym c.deref-in-Sequence.ensures.value)) in
    (omega (arith, c.decreases, e), (c.requires.ready, c.requires.want))

pub typed-object-requires : goal.typed-object-requires
typed-object-requires t c =
    let e = ap nodes (ap term_of c.in-Construct.is ∙ constructed c.in-Construct.at c.in-Construct.text c.in-Construct.parts ∙ ap₂
    (λ x xs. term.construct c.in-Construct.at x (parts_of xs)) (sym c.as_slice-in-Construct.ensures) (sym c.deref-in-Construct.ensures.value)) in
    (omega (arith, c.decreases, e), c.requires.ready)

pub typed-field-requires : goal.typed-field-requires
typed-field-requires t c =
    let e = ap nodes (ap term_of c.in-Field.is ∙ ap₂ (λ a x. term.field c.in-Field.at (term_of a) x) (sym c.deref-in-Field.ensures)
    (sym c.as_slice-in-Field.ensures)) in
    (omega (arith, c.decreases, e), c.requires.ready)

pub typed-index-requires : goal.typed-index-requires
typed-index-requires t c =
    let e = ap nodes
    (ap term_of c.in-Index.is ∙ indexed c.in-Index.at c.in-Index.base c.in-Index.parts ∙ ap₂
    (λ a xs. term.index c.in-Index.at (term_of a) (parts_of xs)) (sym c.deref-in-Index.ensures) (sym c.deref-in-Index-2.ensures.value)) in
    (omega (arith, c.decreases, e), c.requires.ready)

pub typed-call-requires : goal.typed-call-requires
typed-call-requires t c =
    let e = ap nodes
    (ap term_of c.in-Call.is ∙ called c.in-Call.at c.in-Call.base c.in-Call.parts ∙ ap₂ (λ a xs. term.call c.in-Call.at (term_of a) (parts_of xs))
    (sym c.deref-in-Call.ensures) (sym c.deref-in-Call-2.ensures.value)) in
    (omega (arith, c.decreases, e), c.requires.ready)

pub typed-unary-requires : goal.typed-unary-requires
typed-unary-requires t c =
    let e = ap nodes (ap term_of c.in-Unary.is ∙ ap (λ a. term.unary c.in-Unary.at c.in-Unary.op (term_of a)) (sym c.deref-in-Unary.ensures)) in
    (omega (arith, c.decreases, e), c.requires.ready)

pub typed-binary-requires : goal.typed-binary-requires
typed-binary-requires t c =
    let e = ap nodes (ap term_of c.in-Binary.is ∙ ap₂ (λ a b. term.binary c.in-Binary.at c.in-Binary.op (term_of a) (term_of b))
    (sym c.deref-in-Binary.ensures) (sym c.deref-in-Binary-2.ensures)) in
    (omega (arith, c.decreases, e), c.requires.ready)

pub typed-if_with_else-requires : goal.typed-if_with_else-requires
typed-if_with_else-requires t c =
    let e = ap nodes
    (ap term_of c.in-If.is ∙ chosen c.in-If.at c.in-If.branches c.in-If.otherwise ∙ ap₂ (λ cs a. term.if_term c.in-If.at (choices_of cs) (term_of a))
    (sym c.deref-in-If.ensures.value) (sym c.deref-in-If-2.ensures)) in
    (omega (arith, c.decreases, e), (c.requires.ready, c.requires.want))

pub typed-case_of-requires : goal.typed-case_of-requires
typed-case_of-requires t c =
    let e = ap nodes (ap term_of c.in-Case.is ∙ case_is c.in-Case.at c.in-Case.selector c.in-Case.branches c.in-Case.otherwise ∙ ap₂
    (λ a cs. case_by c.in-Case.at (term_of a) (choices_of cs) c.in-Case.otherwise) (sym c.deref-in-Case.ensures) (sym c.deref-in-Case-2.ensures.value)) in
    (omega (arith, c.decreases, e), (c.requires.ready, c.requires.want))

-- ---- constructions

pub forms::tuple-tuple_wants-requires : goal.forms::tuple-tuple_wants-requires
forms::tuple-tuple_wants-requires t c = c.wanted.ensures.within (length c.args.types.now) c.requires.want

pub forms::tuple-values-requires : goal.forms::tuple-values-requires
forms::tuple-values-requires t c =
    (omega (arith, c.decreases), (c.requires.ready, subst (AllBelow (length c.args.types.now)) (sym c.as_slice.ensures.value) c.in_ok-left.ensures.within))

pub forms::tuple-tuple_from-requires : goal.forms::tuple-tuple_from-requires
forms::tuple-tuple_from-requires t c =
    let g = c.in_ok-given.ensures.grown in
    record { ready = ready_on g c.requires.ready; want = want_more g.length c.args.want c.requires.want; given = c.in_ok-given.ensures.fits }

pub forms::tuple-returns-in_err-left : goal.forms::tuple-returns-in_err-left
forms::tuple-returns-in_err-left t c =
    let s = c.args.scope.now in
    let old = c.args.types.now in
    exits_without typed_of
    (λ ts facts. typed (env_of ts facts s) (want_of ts c.args.want) c.args.number (term.tuple c.args.at (parts_of c.args.parts.now)))
    TypedWithin c.in_err-left.field-0.0 c.from_residual.result c.from_residual.ensures.1 (grown_same old) c.in_err-left.ensures.memory

pub forms::tuple-returns-in_err-first : goal.forms::tuple-returns-in_err-first
forms::tuple-returns-in_err-first t c =
    let s = c.args.scope.now in
    let old = c.args.types.now in
    exits_without typed_of
    (λ ts facts. typed (env_of ts facts s) (want_of ts c.args.want) c.args.number (term.tuple c.args.at (parts_of c.args.parts.now)))
    TypedWithin c.in_err-first.field-0.0 c.from_residual-in_err-first.result c.from_residual-in_err-first.ensures.1 (grown_same old)
    c.in_err-first.ensures.memory

pub forms::tuple-returns-in_err-given : goal.forms::tuple-returns-in_err-given
forms::tuple-returns-in_err-given t c =
    let s = c.args.scope.now in
    let ps = parts_of c.args.parts.now in
    let at = c.args.at in
    let n = c.args.number in
    exits c.in_err-given.field-0.0 c.from_residual-in_err-given.result c.from_residual-in_err-given.ensures.1
    (stop_as typed_of (λ ts facts. typed (env_of ts facts s) (want_of ts c.args.want) n (term.tuple at ps)) TypedWithin
    (λ (ts : List Ty) (facts : Facts) (vs : Values). tuple_end (env_of ts facts s) (want_of ts c.args.want) n at (part_names ps) vs)
    (λ ts facts u. tuple_chain (env_of ts facts s) (want_of ts c.args.want) n at ps (inners ts c.as_slice.result.now) c.in_ok-first.first
    (ap₂ tuple_wants (sym (c.wanted.ensures.ty ts)) (counted_parts c.args.parts.now) ∙ c.in_ok-left.ensures.wants ts facts u
    ∙ ap (inners ts) (sym c.as_slice.ensures.value)) c.in_ok-first.ensures.next) c.in_err-given.ensures)

pub forms::tuple-returns : goal.forms::tuple-returns
forms::tuple-returns t c =
    let s = c.args.scope.now in
    let ps = parts_of c.args.parts.now in
    let at = c.args.at in
    let n = c.args.number in
    go_as (λ ts facts. typed (env_of ts facts s) (want_of ts c.args.want) n (term.tuple at ps))
    (λ (ts : List Ty) (facts : Facts) (vs : Values). tuple_end (env_of ts facts s) (want_of ts c.args.want) n at (part_names ps) vs)
    (λ ts facts u. tuple_chain (env_of ts facts s) (want_of ts c.args.want) n at ps (inners ts c.as_slice.result.now) c.in_ok-first.first
    (ap₂ tuple_wants (sym (c.wanted.ensures.ty ts)) (counted_parts c.args.parts.now) ∙ c.in_ok-left.ensures.wants ts facts u
    ∙ ap (inners ts) (sym c.as_slice.ensures.value)) c.in_ok-first.ensures.next) c.in_ok-given.ensures c.tuple_from.ensures

pub forms::array-array_want-requires : goal.forms::array-array_want-requires
forms::array-array_want-requires t c = record { wanted = c.wanted.ensures.within (length c.args.types.now) c.requires.want }

pub forms::array-values-requires : goal.forms::array-values-requires
forms::array-values-requires t c = (omega (arith, c.decreases), (c.requires.ready, (c.array_want.ensures.within, tt)))

pub forms::array-array_from-requires : goal.forms::array-array_from-requires
forms::array-array_from-requires t c =
    let g = c.in_ok-given.ensures.grown in
    record { ready = ready_on g c.requires.ready; given = c.in_ok-given.ensures.fits }

pub forms::array-returns-in_err-first : goal.forms::array-returns-in_err-first
forms::array-returns-in_err-first t c =
    let s = c.args.scope.now in
    let ps = parts_of c.args.parts.now in
    let at = c.args.at in
    let n = c.args.number in
    exits_without typed_of (λ ts facts. typed (env_of ts facts s) (want_of ts c.args.want) n (term.array at ps)) TypedWithin
    c.in_err-first.field-0.0 c.from_residual.result c.from_residual.ensures.1 (grown_same c.args.types.now) c.in_err-first.ensures.memory

pub forms::array-returns-in_err-given : goal.forms::array-returns-in_err-given
forms::array-returns-in_err-given t c =
    let s = c.args.scope.now in
    let ps = parts_of c.args.parts.now in
    let at = c.args.at in
    let n = c.args.number in
    exits c.in_err-given.field-0.0 c.from_residual-in_err-given.result c.from_residual-in_err-given.ensures.1
    (stop_as typed_of (λ ts facts. typed (env_of ts facts s) (want_of ts c.args.want) n (term.array at ps)) TypedWithin
    (λ (ts : List Ty) (facts : Facts) (vs : Values). array_end (env_of ts facts s) n at vs)
    (λ ts facts u. array_chain (env_of ts facts s) (want_of ts c.args.want) n at ps (want_of ts c.array_want.result) c.in_ok-first.first
    (c.array_want.ensures.means ts facts u ∙ ap array_want (c.wanted.ensures.ty ts)) c.in_ok-first.ensures.next) c.in_err-given.ensures)

pub forms::array-returns : goal.forms::array-returns
forms::array-returns t c =
    let s = c.args.scope.now in
    let ps = parts_of c.args.parts.now in
    let at = c.args.at in
    let n = c.args.number in
    go_as (λ ts facts. typed (env_of ts facts s) (want_of ts c.args.want) n (term.array at ps))
    (λ (ts : List Ty) (facts : Facts) (vs : Values). array_end (env_of ts facts s) n at vs)
    (λ ts facts u. array_chain (env_of ts facts s) (want_of ts c.args.want) n at ps (want_of ts c.array_want.result) c.in_ok-first.first
    (c.array_want.ensures.means ts facts u ∙ ap array_want (c.wanted.ensures.ty ts)) c.in_ok-first.ensures.next) c.in_ok-given.ensures
    c.array_from.ensures

pub forms::sequence-sequence_want-requires : goal.forms::sequence-sequence_want-requires
forms::sequence-sequence_want-requires t c = record { wanted = c.wanted.ensures.within (length c.args.types.now) c.requires.want }

pub forms::sequence-values-requires : goal.forms::sequence-values-requires
forms::sequence-values-requires t c = (omega (arith, c.decreases), (c.requires.ready, (c.sequence_want.ensures.within, tt)))

pub forms::sequence-sequence_from-requires : goal.forms::sequence-sequence_from-requires
forms::sequence-sequence_from-requires t c =
    let g = c.in_ok-given.ensures.grown in
    record { want = want_more g.length c.args.want c.requires.want; given = c.in_ok-given.ensures.fits }

pub forms::sequence-returns-in_err-first : goal.forms::sequence-returns-in_err-first
forms::sequence-returns-in_err-first t c =
    let s = c.args.scope.now in
    let ps = parts_of c.args.parts.now in
    let at = c.args.at in
    let n = c.args.number in
    exits_without typed_of (λ ts facts. typed (env_of ts facts s) (want_of ts c.args.want) n (term.sequence at ps)) TypedWithin
    c.in_err-first.field-0.0 c.from_residual.result c.from_residual.ensures.1 (grown_same c.args.types.now) c.in_err-first.ensures.memory

pub forms::sequence-returns-in_err-given : goal.forms::sequence-returns-in_err-given
forms::sequence-returns-in_err-given t c =
    let s = c.args.scope.now in
    let ps = parts_of c.args.parts.now in
    let at = c.args.at in
    let n = c.args.number in
    exits c.in_err-given.field-0.0 c.from_residual-in_err-given.result c.from_residual-in_err-given.ensures.1
    (stop_as typed_of (λ ts facts. typed (env_of ts facts s) (want_of ts c.args.want) n (term.sequence at ps)) TypedWithin
    (λ (ts : List Ty) (facts : Facts) (vs : Values). sequence_end (want_of ts c.args.want) n at vs)
    (λ ts facts u. sequence_chain (env_of ts facts s) (want_of ts c.args.want) n at ps (want_of ts c.sequence_want.result) c.in_ok-first.first
    (c.sequence_want.ensures.means ts facts u ∙ ap sequence_want (c.wanted.ensures.ty ts)) c.in_ok-first.ensures.next) c.in_err-given.ensures)

pub forms::sequence-returns : goal.forms::sequence-returns
forms::sequence-returns t c =
    let s = c.args.scope.now in
    let ps = parts_of c.args.parts.now in
    let at = c.args.at in
    let n = c.args.number in
    go_as (λ ts facts. typed (env_of ts facts s) (want_of ts c.args.want) n (term.sequence at ps))
    (λ (ts : List Ty) (facts : Facts) (vs : Values). sequence_end (want_of ts c.args.want) n at vs)
    (λ ts facts u. sequence_chain (env_of ts facts s) (want_of ts c.args.want) n at ps (want_of ts c.sequence_want.result) c.in_ok-first.first
    (c.sequence_want.ensures.means ts facts u ∙ ap sequence_want (c.wanted.ensures.ty ts)) c.in_ok-first.ensures.next) c.in_ok-given.ensures
    c.sequence_from.ensures

pub forms::object-plan_for-requires : goal.forms::object-plan_for-requires
forms::object-plan_for-requires t c = c.requires.ready.decls

pub forms::object-values-requires : goal.forms::object-values-requires
forms::object-values-requires t c = (
  omega (arith, c.decreases),
  (
    c.requires.ready,
    subst (AllBelow (length c.args.types.now)) (sym c.as_slice-2.ensures.value)
        (c.in_ok-left.ensures.within (length c.args.types.now) (subst (FoundsWithin (length c.args.types.now)) (sym c.as_slice.ensures.value)
        c.in_ok-plan.ensures.within.1)),
  ),
)

pub forms::object-object_from-requires : goal.forms::object-object_from-requires
forms::object-object_from-requires t c = record {
  plan = plan_more c.in_ok-given.ensures.grown.length c.in_ok-plan.plan c.in_ok-plan.ensures.within;
  given = c.in_ok-given.ensures.fits;
}

pub forms::object-returns-in_err-plan : goal.forms::object-returns-in_err-plan
forms::object-returns-in_err-plan t c = λ want.
    let s = c.args.scope.now in
    let ps = parts_of c.args.parts.now in
    let at = c.args.at in
    let n = c.args.number in
    exits c.in_err-plan.field-0.0 c.from_residual.result c.from_residual.ensures.1
    (stop_as typed_of (λ ts facts. typed (env_of ts facts s) (want_of ts want) n (term.construct at c.args.text.now ps)) TypedWithin
    (λ (ts : List Ty) (facts : Facts) (plan : Plan). object_go (env_of ts facts s) n at ps plan) (λ ts facts u. refl)
    (stays c.args.types.now plan_of (λ ts facts. plan_for (env_of ts facts s) at c.args.text.now (part_names ps)) PlanWithin (Err c.in_err-plan.field-0.0)
    c.in_err-plan.ensures.answers tt))

pub forms::object-returns-in_err-left : goal.forms::object-returns-in_err-left
forms::object-returns-in_err-left t c = λ want.
    let s = c.args.scope.now in
    let ps = parts_of c.args.parts.now in
    let at = c.args.at in
    let n = c.args.number in
    exits_without typed_of (λ ts facts. typed (env_of ts facts s) (want_of ts want) n (term.construct at c.args.text.now ps)) TypedWithin
    c.in_err-left.field-0.0 c.from_residual-in_err-left.result c.from_residual-in_err-left.ensures.1 (grown_same c.args.types.now)
    c.in_err-left.ensures.memory

pub forms::object-returns-in_err-first : goal.forms::object-returns-in_err-first
forms::object-returns-in_err-first t c = λ want.
    let s = c.args.scope.now in
    let ps = parts_of c.args.parts.now in
    let at = c.args.at in
    let n = c.args.number in
    exits_without typed_of (λ ts facts. typed (env_of ts facts s) (want_of ts want) n (term.construct at c.args.text.now ps)) TypedWithin
    c.in_err-first.field-0.0 c.from_residual-in_err-first.result c.from_residual-in_err-first.ensures.1 (grown_same c.args.types.now)
    c.in_err-first.ensures.memory

pub forms::object-returns-in_err-given : goal.forms::object-returns-in_err-given
forms::object-returns-in_err-given t c = λ want.
    let s = c.args.scope.now in
    let ps = parts_of c.args.parts.now in
    let at = c.args.at in
    let n = c.args.number in
    exits c.in_err-given.field-0.0 c.from_residual-in_err-given.result c.from_residual-in_err-given.ensures.1
    (go_as (λ ts facts. typed (env_of ts facts s) (want_of ts want) n (term.construct at c.args.text.now ps))
    (λ (ts : List Ty) (facts : Facts) (plan : Plan). object_go (env_of ts facts s) n at ps plan) (λ ts facts u. refl)
    (stays c.args.types.now plan_of (λ ts facts. plan_for (env_of ts facts s) at c.args.text.now (part_names ps)) PlanWithin (Ok c.in_ok-plan.plan)
    c.in_ok-plan.ensures.answers c.in_ok-plan.ensures.within)
    (stop_as typed_of (λ ts facts. object_go (env_of ts facts s) n at ps (plan_of ts c.in_ok-plan.plan)) TypedWithin
    (λ (ts : List Ty) (facts : Facts) (vs : Values). object_end n at (plan_of ts c.in_ok-plan.plan) vs)
    (λ ts facts u. object_chain (env_of ts facts s) n at ps (plan_of ts c.in_ok-plan.plan) (map (type_at ts) c.as_slice-2.result.now) c.in_ok-first.first
    (ap (map (type_at ts)) c.as_slice-2.ensures.value ∙ c.in_ok-left.ensures.types ts ∙ ap (λ fs. types_in (map (found_of ts) fs))
    c.as_slice.ensures.value)
    c.in_ok-first.ensures.next) c.in_err-given.ensures))

pub forms::object-returns : goal.forms::object-returns
forms::object-returns t c = λ want.
    let s = c.args.scope.now in
    let ps = parts_of c.args.parts.now in
    let at = c.args.at in
    let n = c.args.number in
    go_as (λ ts facts. typed (env_of ts facts s) (want_of ts want) n (term.construct at c.args.text.now ps))
    (λ (ts : List Ty) (facts : Facts) (plan : Plan). object_go (env_of ts facts s) n at ps plan) (λ ts facts u. refl)
    (stays c.args.types.now plan_of (λ ts facts. plan_for (env_of ts facts s) at c.args.text.now (part_names ps)) PlanWithin (Ok c.in_ok-plan.plan)
    c.in_ok-plan.ensures.answers c.in_ok-plan.ensures.within)
    (go_as (λ ts facts. object_go (env_of ts facts s) n at ps (plan_of ts c.in_ok-plan.plan))
    (λ (ts : List Ty) (facts : Facts) (vs : Values). object_end n at (plan_of ts c.in_ok-plan.plan) vs)
    (λ ts facts u. object_chain (env_of ts facts s) n at ps (plan_of ts c.in_ok-plan.plan) (map (type_at ts) c.as_slice-2.result.now) c.in_ok-first.first
    (ap (map (type_at ts)) c.as_slice-2.ensures.value ∙ c.in_ok-left.ensures.types ts ∙ ap (λ fs. types_in (map (found_of ts) fs))
    c.as_slice.ensures.value)
    c.in_ok-first.ensures.next) c.in_ok-given.ensures c.object_from.ensures)

pub forms::field-returns-in_err-name : goal.forms::field-returns-in_err-name
forms::field-returns-in_err-name t c = λ want.
    let s = c.args.scope.now in
    let at = c.args.at in
    let n = c.args.number in
    exits_without typed_of (λ ts facts. typed (env_of ts facts s) (want_of ts want) n (term.field at (term_of c.args.base.now) c.args.text.now))
    TypedWithin
    stop.Memory c.from_residual.result c.from_residual.ensures.1 (grown_same c.args.types.now) refl

pub forms::field-returns-in_err-demand : goal.forms::field-returns-in_err-demand
forms::field-returns-in_err-demand t c = λ want.
    let s = c.args.scope.now in
    let at = c.args.at in
    let n = c.args.number in
    exits_without typed_of (λ ts facts. typed (env_of ts facts s) (want_of ts want) n (term.field at (term_of c.args.base.now) c.args.text.now))
    TypedWithin
    c.in_err-demand.field-0.0 c.from_residual-in_err-demand.result c.from_residual-in_err-demand.ensures.1 (grown_same c.args.types.now)
    c.in_err-demand.ensures.memory

pub forms::field-returns-in_err-first : goal.forms::field-returns-in_err-first
forms::field-returns-in_err-first t c = λ want.
    let s = c.args.scope.now in
    let at = c.args.at in
    let n = c.args.number in
    exits_without typed_of (λ ts facts. typed (env_of ts facts s) (want_of ts want) n (term.field at (term_of c.args.base.now) c.args.text.now))
    TypedWithin
    c.in_err-first.field-0.0 c.from_residual-in_err-first.result c.from_residual-in_err-first.ensures.1 (grown_same c.args.types.now)
    c.in_err-first.ensures.memory

pub forms::field-operand_at-requires : goal.forms::field-operand_at-requires
forms::field-operand_at-requires t c = (omega (arith, c.decreases), c.requires.ready)

pub forms::field-field_from-requires : goal.forms::field-field_from-requires
forms::field-field_from-requires t c = record { ready = ready_on c.in_ok-operand.ensures.grown c.requires.ready; operand = c.in_ok-operand.ensures.fits }

pub forms::field-returns-in_err-operand : goal.forms::field-returns-in_err-operand
forms::field-returns-in_err-operand t c = λ want.
    let s = c.args.scope.now in
    let at = c.args.at in
    let n = c.args.number in
    exits c.in_err-operand.field-0.0 c.from_residual-in_err-operand.result c.from_residual-in_err-operand.ensures.1
    (stop_as typed_of (λ ts facts. typed (env_of ts facts s) (want_of ts want) n (term.field at (term_of c.args.base.now) c.args.text.now)) TypedWithin
    (λ (ts : List Ty) (facts : Facts) (o : Part). field_end (env_of ts facts s) n at c.as_slice-word.result.now o)
    (λ ts facts u. field_chain (env_of ts facts s) (want_of ts want) n at (term_of c.args.base.now) c.args.text.now c.as_slice-word.result.now
    (demand_of c.in_ok-demand.demand) c.in_ok-first.first (c.as_slice-word.ensures ∙ c.in_ok-name.ensures) (c.in_ok-demand.ensures.demand ts facts)
    c.in_ok-first.ensures.next) c.in_err-operand.ensures)

pub forms::field-returns : goal.forms::field-returns
forms::field-returns t c = λ want.
    let s = c.args.scope.now in
    let at = c.args.at in
    let n = c.args.number in
    go_as (λ ts facts. typed (env_of ts facts s) (want_of ts want) n (term.field at (term_of c.args.base.now) c.args.text.now))
    (λ (ts : List Ty) (facts : Facts) (o : Part). field_end (env_of ts facts s) n at c.as_slice-word.result.now o)
    (λ ts facts u. field_chain (env_of ts facts s) (want_of ts want) n at (term_of c.args.base.now) c.args.text.now c.as_slice-word.result.now
    (demand_of c.in_ok-demand.demand) c.in_ok-first.first (c.as_slice-word.ensures ∙ c.in_ok-name.ensures) (c.in_ok-demand.ensures.demand ts facts)
    c.in_ok-first.ensures.next) c.in_ok-operand.ensures c.field_from.ensures

pub forms::index-returns-in-len1 : goal.forms::index-returns-in-len1
forms::index-returns-in-len1 t c = λ want.
    let s = c.args.scope.now in
    said_so (λ ts facts. typed (env_of ts facts s) (want_of ts want) c.args.number
    (term.index c.args.at (term_of c.args.base.now) (parts_of c.args.parts.now)))
    (λ ts facts u. ap (λ xs. typed (env_of ts facts s) (want_of ts want) c.args.number (term.index c.args.at (term_of c.args.base.now) (parts_of xs)))
    (alone_item c.args.parts.now c.part-item.result c.part-item.is (omega arith))) (c.element.ensures want)

pub forms::index-returns-in_default : goal.forms::index-returns-in_default
forms::index-returns-in_default t c = λ want.
    let s = c.args.scope.now in
    let none : nat_eq (length c.args.parts.now) 1 ≡ false = grind (arith, nat_tests) in
    refused_here c.args.types.now typed_of (λ ts facts. typed (env_of ts facts s) (want_of ts want) c.args.number
    (term.index c.args.at (term_of c.args.base.now) (parts_of c.args.parts.now))) TypedWithin NotTyped c.args.at c.refusal.result c.refusal.ensures
    (λ ts facts. index_none (env_of ts facts s) (want_of ts want) c.args.number c.args.at (term_of c.args.base.now) c.args.parts.now none)

pub forms::index-element-requires : goal.forms::index-element-requires
forms::index-element-requires t c =
    let e = ap (λ xs. nodes_in (parts_of xs)) (alone_item c.args.parts.now c.part-item.result c.part-item.is (omega arith)) in
    (omega (arith, c.decreases, e), c.requires.ready)

pub forms::element-returns-in_err-first : goal.forms::element-returns-in_err-first
forms::element-returns-in_err-first t c = λ want.
    let s = c.args.scope.now in
    let at = c.args.at in
    let n = c.args.number in
    exits_without typed_of
    (λ ts facts. typed (env_of ts facts s) (want_of ts want) n (term.index at (term_of c.args.base.now) (part (term_of c.args.index.now) no_parts)))
    TypedWithin
    c.in_err-first.field-0.0 c.from_residual.result c.from_residual.ensures.1 (grown_same c.args.types.now) c.in_err-first.ensures.memory

pub forms::element-value_at-requires : goal.forms::element-value_at-requires
forms::element-value_at-requires t c = (omega (arith, c.decreases), (c.requires.ready, tt))

pub forms::element-value_at-requires-2 : goal.forms::element-value_at-requires-2
forms::element-value_at-requires-2 t c = (omega (arith, c.decreases), (ready_on c.in_ok-value.ensures.grown c.requires.ready, tt))

pub forms::element-index_from-requires : goal.forms::element-index_from-requires
forms::element-index_from-requires t c =
    let g = c.in-Ok.ensures.grown in
    record {
      ready = ready_on g (ready_on c.in_ok-value.ensures.grown c.requires.ready);
      value = (let l = g.length in let v = c.in_ok-value.ensures.fits in omega (arith, l, v));
      index = c.in-Ok.ensures.fits;
      fixed = given_fixed c.args.scope.now (λ env. value_said env anything c.in_ok-value.value.next (term_of c.args.index.now)) c.in-Ok.index
          (ready_on c.in_ok-value.ensures.grown c.requires.ready).decls c.in-Ok.ensures;
    }

pub forms::element-returns-in_err-value : goal.forms::element-returns-in_err-value
forms::element-returns-in_err-value t c = λ want.
    let s = c.args.scope.now in
    let at = c.args.at in
    let n = c.args.number in
    exits c.in_err-value.field-0.0 c.from_residual-in_err-value.result c.from_residual-in_err-value.ensures.1
    (stop_as typed_of
    (λ ts facts. typed (env_of ts facts s) (want_of ts want) n (term.index at (term_of c.args.base.now) (part (term_of c.args.index.now) no_parts)))
    TypedWithin
    (λ (ts : List Ty) (facts : Facts) (v : Value). element_go (env_of ts facts s) n at (term_of c.args.index.now) v)
    (λ ts facts u. element_chain (env_of ts facts s) (want_of ts want) n at (term_of c.args.base.now) (term_of c.args.index.now)
    c.in_ok-first.first c.in_ok-first.ensures.next) c.in_err-value.ensures)

pub forms::element-returns-in-Err : goal.forms::element-returns-in-Err
forms::element-returns-in-Err t c = λ want.
    let s = c.args.scope.now in
    let at = c.args.at in
    let n = c.args.number in
    go_as (λ ts facts. typed (env_of ts facts s) (want_of ts want) n (term.index at (term_of c.args.base.now) (part (term_of c.args.index.now) no_parts)))
    (λ (ts : List Ty) (facts : Facts) (v : Value). element_go (env_of ts facts s) n at (term_of c.args.index.now) v)
    (λ ts facts u. element_chain (env_of ts facts s) (want_of ts want) n at (term_of c.args.base.now) (term_of c.args.index.now)
    c.in_ok-first.first c.in_ok-first.ensures.next) c.in_ok-value.ensures
    (stops_there typed_of (λ (ts : List Ty) (facts : Facts) (w : Value). index_end (env_of ts facts s) n at (given_of ts c.in_ok-value.value) w)
    TypedWithin c.in-Err.ensures)

pub forms::element-returns : goal.forms::element-returns
forms::element-returns t c = λ want.
    let s = c.args.scope.now in
    let at = c.args.at in
    let n = c.args.number in
    go_as (λ ts facts. typed (env_of ts facts s) (want_of ts want) n (term.index at (term_of c.args.base.now) (part (term_of c.args.index.now) no_parts)))
    (λ (ts : List Ty) (facts : Facts) (v : Value). element_go (env_of ts facts s) n at (term_of c.args.index.now) v)
    (λ ts facts u. element_chain (env_of ts facts s) (want_of ts want) n at (term_of c.args.base.now) (term_of c.args.index.now)
    c.in_ok-first.first c.in_ok-first.ensures.next) c.in_ok-value.ensures
    (goes_on (λ (ts : List Ty) (facts : Facts) (w : Value). index_end (env_of ts facts s) n at (given_of ts c.in_ok-value.value) w) c.in-Ok.ensures
    c.index_from.ensures)

pub forms::unary-returns-in_err-first : goal.forms::unary-returns-in_err-first
forms::unary-returns-in_err-first t c = λ want.
    let s = c.args.scope.now in
    let at = c.args.at in
    let n = c.args.number in
    exits_without typed_of (λ ts facts. typed (env_of ts facts s) (want_of ts want) n (term.unary at c.args.op (term_of c.args.operand.now))) TypedWithin
    c.in_err-first.field-0.0 c.from_residual.result c.from_residual.ensures.1 (grown_same c.args.types.now) c.in_err-first.ensures.memory

pub forms::unary-value_at-requires : goal.forms::unary-value_at-requires
forms::unary-value_at-requires t c = (omega (arith, c.decreases), (c.requires.ready, tt))

pub forms::unary-unary_from-requires : goal.forms::unary-unary_from-requires
forms::unary-unary_from-requires t c = record { ready = ready_on c.in_ok-value.ensures.grown c.requires.ready; given = c.in_ok-value.ensures.fits }

pub forms::unary-returns-in_err-value : goal.forms::unary-returns-in_err-value
forms::unary-returns-in_err-value t c = λ want.
    let s = c.args.scope.now in
    let at = c.args.at in
    let n = c.args.number in
    exits c.in_err-value.field-0.0 c.from_residual-in_err-value.result c.from_residual-in_err-value.ensures.1
    (stop_as typed_of (λ ts facts. typed (env_of ts facts s) (want_of ts want) n (term.unary at c.args.op (term_of c.args.operand.now))) TypedWithin
    (λ (ts : List Ty) (facts : Facts) (v : Value). unary_end (env_of ts facts s) n at c.args.op v)
    (λ ts facts u. unary_chain (env_of ts facts s) (want_of ts want) n at c.args.op (term_of c.args.operand.now) c.in_ok-first.first
    c.in_ok-first.ensures.next) c.in_err-value.ensures)

pub forms::unary-returns : goal.forms::unary-returns
forms::unary-returns t c = λ want.
    let s = c.args.scope.now in
    let at = c.args.at in
    let n = c.args.number in
    go_as (λ ts facts. typed (env_of ts facts s) (want_of ts want) n (term.unary at c.args.op (term_of c.args.operand.now)))
    (λ (ts : List Ty) (facts : Facts) (v : Value). unary_end (env_of ts facts s) n at c.args.op v)
    (λ ts facts u. unary_chain (env_of ts facts s) (want_of ts want) n at c.args.op (term_of c.args.operand.now) c.in_ok-first.first
    c.in_ok-first.ensures.next) c.in_ok-value.ensures c.unary_from.ensures

pub forms::binary-returns-in_err-first : goal.forms::binary-returns-in_err-first
forms::binary-returns-in_err-first t c = λ want.
    let s = c.args.scope.now in
    let at = c.args.at in
    let n = c.args.number in
    exits_without typed_of
    (λ ts facts. typed (env_of ts facts s) (want_of ts want) n (term.binary at c.args.op (term_of c.args.left.now) (term_of c.args.right.now))) TypedWithin
    c.in_err-first.field-0.0 c.from_residual.result c.from_residual.ensures.1 (grown_same c.args.types.now) c.in_err-first.ensures.memory

pub forms::binary-operand_at-requires : goal.forms::binary-operand_at-requires
forms::binary-operand_at-requires t c = (omega (arith, c.decreases), c.requires.ready)

pub forms::binary-operand_at-requires-2 : goal.forms::binary-operand_at-requires-2
forms::binary-operand_at-requires-2 t c = (omega (arith, c.decreases), ready_on c.in_ok-left.ensures.grown c.requires.ready)

pub forms::binary-binary_from-requires : goal.forms::binary-binary_from-requires
forms::binary-binary_from-requires t c =
    let g = c.in-Ok.ensures.grown in
    record {
      ready = ready_on g (ready_on c.in_ok-left.ensures.grown c.requires.ready);
      left = operand_more g.length c.in_ok-left.left.operand c.in_ok-left.ensures.fits;
      right = c.in-Ok.ensures.fits;
    }

pub forms::binary-returns-in_err-left : goal.forms::binary-returns-in_err-left
forms::binary-returns-in_err-left t c = λ want.
    let s = c.args.scope.now in
    let at = c.args.at in
    let n = c.args.number in
    exits c.in_err-left.field-0.0 c.from_residual-in_err-left.result c.from_residual-in_err-left.ensures.1
    (stop_as typed_of
    (λ ts facts. typed (env_of ts facts s) (want_of ts want) n (term.binary at c.args.op (term_of c.args.left.now) (term_of c.args.right.now))) TypedWithin
    (λ (ts : List Ty) (facts : Facts) (o : Part). binary_go (env_of ts facts s) (demand_of c.operator_demand-demand.result) n at c.args.op
    (term_of c.args.right.now) o)
    (λ ts facts u. binary_chain (env_of ts facts s) (want_of ts want) n at c.args.op (term_of c.args.left.now) (term_of c.args.right.now)
    (demand_of c.operator_demand-demand.result) c.in_ok-first.first c.operator_demand-demand.ensures c.in_ok-first.ensures.next) c.in_err-left.ensures)

pub forms::binary-returns-in-Err : goal.forms::binary-returns-in-Err
forms::binary-returns-in-Err t c = λ want.
    let s = c.args.scope.now in
    let at = c.args.at in
    let n = c.args.number in
    go_as (λ ts facts. typed (env_of ts facts s) (want_of ts want) n (term.binary at c.args.op (term_of c.args.left.now) (term_of c.args.right.now)))
    (λ (ts : List Ty) (facts : Facts) (o : Part). binary_go (env_of ts facts s) (demand_of c.operator_demand-demand.result) n at c.args.op
    (term_of c.args.right.now) o)
    (λ ts facts u. binary_chain (env_of ts facts s) (want_of ts want) n at c.args.op (term_of c.args.left.now) (term_of c.args.right.now)
    (demand_of c.operator_demand-demand.result) c.in_ok-first.first c.operator_demand-demand.ensures c.in_ok-first.ensures.next) c.in_ok-left.ensures
    (stops_there typed_of (λ (ts : List Ty) (facts : Facts) (r : Part). binary_end (env_of ts facts s) n at c.args.op (part_of ts c.in_ok-left.left) r)
    TypedWithin c.in-Err.ensures)

pub forms::binary-returns : goal.forms::binary-returns
forms::binary-returns t c = λ want.
    let s = c.args.scope.now in
    let at = c.args.at in
    let n = c.args.number in
    go_as (λ ts facts. typed (env_of ts facts s) (want_of ts want) n (term.binary at c.args.op (term_of c.args.left.now) (term_of c.args.right.now)))
    (λ (ts : List Ty) (facts : Facts) (o : Part). binary_go (env_of ts facts s) (demand_of c.operator_demand-demand.result) n at c.args.op
    (term_of c.args.right.now) o)
    (λ ts facts u. binary_chain (env_of ts facts s) (want_of ts want) n at c.args.op (term_of c.args.left.now) (term_of c.args.right.now)
    (demand_of c.operator_demand-demand.result) c.in_ok-first.first c.operator_demand-demand.ensures c.in_ok-first.ensures.next) c.in_ok-left.ensures
    (goes_on (λ (ts : List Ty) (facts : Facts) (r : Part). binary_end (env_of ts facts s) n at c.args.op (part_of ts c.in_ok-left.left) r)
    c.in-Ok.ensures c.binary_from.ensures)

-- ---- values

pub values::value_at-typed-requires : goal.values::value_at-typed-requires
values::value_at-typed-requires t c =
    (omega (arith, c.decreases), (c.requires.ready, c.want.ensures.within (length c.args.types.now) c.requires.asks))

pub values::value_at-value_from-requires : goal.values::value_at-value_from-requires
values::value_at-value_from-requires t c = record {
  asks = asks_more c.in_ok-typed.ensures.grown.length c.args.left.now c.args.asks c.requires.asks;
  typed = c.in_ok-typed.ensures.fits;
}

pub values::value_at-returns-in_err-typed : goal.values::value_at-returns-in_err-typed
values::value_at-returns-in_err-typed t c =
    let s = c.args.scope.now in
    let left = c.args.left.now in
    let a = c.args.tree.now in
    exits c.in_err-typed.field-0.0 c.from_residual.result c.from_residual.ensures.1
    (stop_as given_of (λ ts facts. value_said (env_of ts facts s) (asks_of ts left c.args.asks) c.args.number (term_of a)) GivenWithin
    (λ (ts : List Ty) (facts : Facts) (x : Typed). value_by (env_of ts facts s) (asks_of ts left c.args.asks) (term_of a) (Ok x))
    (λ ts facts u. ap
    (λ w. value_by (env_of ts facts s) (asks_of ts left c.args.asks) (term_of a) (typed (env_of ts facts s) w c.args.number (term_of a)))
    (sym (c.want.ensures.want ts)) ∙ value_then (env_of ts facts s) (asks_of ts left c.args.asks) (term_of a)
    (typed (env_of ts facts s) (want_of ts c.want.result) c.args.number (term_of a))) c.in_err-typed.ensures)

pub values::value_at-returns : goal.values::value_at-returns
values::value_at-returns t c =
    let s = c.args.scope.now in
    let left = c.args.left.now in
    let a = c.args.tree.now in
    go_as (λ ts facts. value_said (env_of ts facts s) (asks_of ts left c.args.asks) c.args.number (term_of a))
    (λ (ts : List Ty) (facts : Facts) (x : Typed). value_by (env_of ts facts s) (asks_of ts left c.args.asks) (term_of a) (Ok x))
    (λ ts facts u. ap
    (λ w. value_by (env_of ts facts s) (asks_of ts left c.args.asks) (term_of a) (typed (env_of ts facts s) w c.args.number (term_of a)))
    (sym (c.want.ensures.want ts)) ∙ value_then (env_of ts facts s) (asks_of ts left c.args.asks) (term_of a)
    (typed (env_of ts facts s) (want_of ts c.want.result) c.args.number (term_of a))) c.in_ok-typed.ensures
    (stays c.typed.new.types given_of (λ ts facts. value_by (env_of ts facts s) (asks_of ts left c.args.asks) (term_of a)
    (Ok (typed_of ts c.in_ok-typed.typed))) GivenWithin c.value_from.result c.value_from.ensures.answers c.value_from.ensures.within)

pub values::values-loop-part-init : goal.values::values-loop-part-init
values::values-loop-part-init t c =
    let s = c.args.scope.now in
    let old = c.args.types.now in
    let left = c.args.left.now in
    let ps = parts_of c.args.parts.now in
    record {
      yet = yet_first old (λ ts facts. values (env_of ts facts s) (asks_of ts left c.args.asks) c.args.number ps)
          (λ ts facts. values_said (env_of ts facts s) (asks_of ts left c.args.asks) c.args.number (map (valued_of ts) c.new-all.result.items) ps)
          (λ ts facts u. values_first (env_of ts facts s) (asks_of ts left c.args.asks) c.args.number ps
          ∙ ap (λ xs. values_said (env_of ts facts s) (asks_of ts left c.args.asks) c.args.number (map (valued_of ts) xs) ps)
          (sym c.new-all.ensures.items));
      asked = c.requires.asks;
      within = subst (ValuesWithin (length old)) (sym c.new-all.ensures.items) tt;
    }

pub values::values-value_at-requires : goal.values::values-value_at-requires
values::values-value_at-requires t c =
    let at = c.loop-part in
    let e = next_item c.args.parts.now at.part-index c.part-item.result c.part-item.is c.loop-part-test.true in
    let l = part_light c.args.parts.now at.part-index c.part-item.result e in
    (omega (arith, c.decreases, l), (ready_on at.invariant.yet.grown c.requires.ready, at.invariant.asked))

pub values::values-returns-in_err-given : goal.values::values-returns-in_err-given
values::values-returns-in_err-given t c =
    let s = c.args.scope.now in
    let at = c.loop-part in
    let x = c.part-item.result in
    let e = next_item c.args.parts.now at.part-index x c.part-item.is c.loop-part-test.true in
    let more = parts_of (drop (at.part-index + 1) c.args.parts.now) in
    exits c.in_err-given.field-0.0 c.from_residual.result c.from_residual.ensures.1
    (yet_stops values_of AllWithin
    (λ (ts : List Ty) (facts : Facts) (v : Value). values_said (env_of ts facts s) (asks_behind (asks_of ts at.rest.now at.asked) v.given.of) v.next
    (map (valued_of ts) at.all.items ++ v.given ∷ []) more) at.invariant.yet
    (λ ts facts. ap (λ l. values_said (env_of ts facts s) (asks_of ts at.rest.now at.asked) at.next (map (valued_of ts) at.all.items) (parts_of l)) e
    ∙ values_next (env_of ts facts s) (asks_of ts at.rest.now at.asked) at.next (map (valued_of ts) at.all.items) (term_of x) more)
    c.in_err-given.ensures)

pub values::values-returns-in_err-push : goal.values::values-returns-in_err-push
values::values-returns-in_err-push t c =
    let s = c.args.scope.now in
    exits_without values_of (λ ts facts. values (env_of ts facts s) (asks_of ts c.args.left.now c.args.asks) c.args.number (parts_of c.args.parts.now))
    AllWithin
    stop.Memory c.from_residual-in_err-push.result c.from_residual-in_err-push.ensures.1
    (grown_on c.loop-part.invariant.yet.grown c.in_ok-given.ensures.grown) refl

pub values::values-loop-part-preserved : goal.values::values-loop-part-preserved
values::values-loop-part-preserved t c =
    let s = c.args.scope.now in
    let at = c.loop-part in
    let x = c.part-item.result in
    let v = c.in_ok-given.given.value in
    let j = c.in_ok-given.ensures in
    let e = next_item c.args.parts.now at.part-index x c.part-item.is c.loop-part-test.true in
    let more = parts_of (drop (at.part-index + 1) c.args.parts.now) in
    let others = c.behind_first-rest.result.now in
    let asked = c.behind-asked.result in
    let all = c.push.new.self.items in
    record {
      yet = yet_goes
          (λ (ts : List Ty) (facts : Facts) (v : Value). values_said (env_of ts facts s) (asks_behind (asks_of ts at.rest.now at.asked) v.given.of) v.next
          (map (valued_of ts) at.all.items ++ v.given ∷ []) more)
          (λ ts facts. values_said (env_of ts facts s) (asks_of ts others asked) c.in_ok-given.given.next (map (valued_of ts) all) more) at.invariant.yet
          (λ ts facts. ap (λ l. values_said (env_of ts facts s) (asks_of ts at.rest.now at.asked) at.next (map (valued_of ts) at.all.items) (parts_of l))
          e
          ∙ values_next (env_of ts facts s) (asks_of ts at.rest.now at.asked) at.next (map (valued_of ts) at.all.items) (term_of x) more) j
          (λ ts facts u. ap₂ (λ g before. values_said (env_of ts facts s) g c.in_ok-given.given.next before more)
          (sym (c.behind-asked.ensures.asks ts at.rest.now) ∙ ap (λ l. asks_of ts l asked) (sym c.behind_first-rest.ensures))
          (sym (map_push (valued_of ts) at.all.items v) ∙ ap (map (valued_of ts)) (sym c.in_ok-push.ensures.items)));
      asked = subst (λ l. AsksWithin (length c.value_at.new.types) l asked) (sym c.behind_first-rest.ensures)
          (c.behind-asked.ensures.within (length c.value_at.new.types) at.rest.now j.fits
          (asks_more j.grown.length at.rest.now at.asked at.invariant.asked));
      within = subst (ValuesWithin (length c.value_at.new.types)) (sym c.in_ok-push.ensures.items)
          (values_and at.all.items v (values_more j.grown.length at.all.items at.invariant.within) j.fits);
    }

pub values::values-returns : goal.values::values-returns
values::values-returns t c =
    let s = c.args.scope.now in
    let at = c.loop-part in
    let e = none_left c.args.parts.now at.part-index (omega (arith, c.loop-part-test.false)) in
    yet_ends values_of AllWithin (record { all = at.all; next = at.next }) at.invariant.yet
    (λ ts facts. ap (λ l. values_said (env_of ts facts s) (asks_of ts at.rest.now at.asked) at.next (map (valued_of ts) at.all.items) (parts_of l)) e
    ∙ values_last (env_of ts facts s) (asks_of ts at.rest.now at.asked) at.next (map (valued_of ts) at.all.items)) at.invariant.within

-- ---- operands

pub operands::operand_at-returns-in-Ordinary : goal.operands::operand_at-returns-in-Ordinary
operands::operand_at-returns-in-Ordinary t c =
    let s = c.args.scope.now in
    let a = term_of c.args.tree.now in
    let d = demand_of c.args.demand in
    said_so (λ ts facts. operand_said (env_of ts facts s) d c.args.number a)
    (λ ts facts u. ap (λ k. part_by (env_of ts facts s) d k c.args.number (λ k. value_said (env_of ts facts s) anything k a)
    (read_type (env_of ts facts s) a))
    (c.special_at.ensures ∙ ap special_of c.in-Ordinary.is)) c.value_operand.ensures

pub operands::operand_at-returns-in-Open : goal.operands::operand_at-returns-in-Open
operands::operand_at-returns-in-Open t c =
    let s = c.args.scope.now in
    let a = term_of c.args.tree.now in
    let d = demand_of c.args.demand in
    let x : List Ty → Facts → Part = λ ts facts. record { operand = open_sequence c.in-Open.place c.args.number; next = suc c.args.number } in
    said_so (λ ts facts. operand_said (env_of ts facts s) d c.args.number a)
    (λ ts facts u. ap (λ k. part_by (env_of ts facts s) d k c.args.number (λ k. value_said (env_of ts facts s) anything k a)
    (read_type (env_of ts facts s) a))
    (c.special_at.ensures ∙ ap special_of c.in-Open.is))
    (made_here c.args.types.now part_of x PartWithin c.open_part.result (λ ts facts u. if_ok c.open_part.result c.open_part.ensures.part (λ p h. h ts))
    c.open_part.ensures.memory (if_ok c.open_part.result c.open_part.ensures.within (λ p h. h (length c.args.types.now))))

pub operands::operand_at-returns-in-Type : goal.operands::operand_at-returns-in-Type
operands::operand_at-returns-in-Type t c =
    let s = c.args.scope.now in
    let a = term_of c.args.tree.now in
    let d = demand_of c.args.demand in
    said_so (λ ts facts. operand_said (env_of ts facts s) d c.args.number a)
    (λ ts facts u. ap (λ k. part_by (env_of ts facts s) d k c.args.number (λ k. value_said (env_of ts facts s) anything k a)
    (read_type (env_of ts facts s) a))
    (c.special_at.ensures ∙ ap special_of c.in-Type.is)) c.type_operand.ensures

pub operands::operand_at-returns-in-Input : goal.operands::operand_at-returns-in-Input
operands::operand_at-returns-in-Input t c =
    let s = c.args.scope.now in
    let a = term_of c.args.tree.now in
    let d = demand_of c.args.demand in
    here c.args.types.now part_of (λ ts facts. operand_said (env_of ts facts s) d c.args.number a) PartWithin
    (record { operand = operand.Input; next = c.args.number })
    (λ ts facts u. ap (λ k. part_by (env_of ts facts s) d k c.args.number (λ k. value_said (env_of ts facts s) anything k a)
    (read_type (env_of ts facts s) a))
    (c.special_at.ensures ∙ ap special_of c.in-Input.is)) tt

pub operands::operand_at-value_operand-requires : goal.operands::operand_at-value_operand-requires
operands::operand_at-value_operand-requires t c = (omega (arith, c.decreases), c.requires.ready)

pub operands::operand_at-type_operand-requires : goal.operands::operand_at-type_operand-requires
operands::operand_at-type_operand-requires t c = (omega (arith, c.decreases), c.requires.ready)

pub operands::value_operand-value_at-requires : goal.operands::value_operand-value_at-requires
operands::value_operand-value_at-requires t c = (omega (arith, c.decreases), (c.requires.ready, tt))

pub operands::value_operand-is_shown_by_call-requires : goal.operands::value_operand-is_shown_by_call-requires
operands::value_operand-is_shown_by_call-requires t c = record {
  ready = ready_on c.in_ok-given.ensures.grown c.requires.ready;
  value = c.in_ok-given.ensures.fits;
}

pub operands::value_operand-value_at-requires-2 : goal.operands::value_operand-value_at-requires-2
operands::value_operand-value_at-requires-2 t c =
    (omega (arith, c.decreases), (ready_on c.in_ok-given.ensures.grown c.requires.ready, tt))

pub operands::value_operand-shown-requires : goal.operands::value_operand-shown-requires
operands::value_operand-shown-requires t c = record {
  ready = ready_on c.in_ok-again.ensures.grown (ready_on c.in_ok-given.ensures.grown c.requires.ready);
  given = c.in_ok-again.ensures.fits;
}

pub operands::value_operand-returns-in_err-given : goal.operands::value_operand-returns-in_err-given
operands::value_operand-returns-in_err-given t c =
    let s = c.args.scope.now in
    let a = term_of c.args.tree.now in
    let d = demand_of c.args.demand in
    exits c.in_err-given.field-0.0 c.from_residual.result c.from_residual.ensures.1
    (stops_there part_of (λ (ts : List Ty) (facts : Facts) (v : Value). shown_by (env_of ts facts s) c.args.number
    (is_shown_by_call (env_of ts facts s) d v.given) v (λ k. value_said (env_of ts facts s) anything k a)) PartWithin c.in_err-given.ensures)

pub operands::value_operand-returns-in-Err : goal.operands::value_operand-returns-in-Err
operands::value_operand-returns-in-Err t c =
    let s = c.args.scope.now in
    let a = term_of c.args.tree.now in
    let d = demand_of c.args.demand in
    forgotten c.args.types.now c.value_at.new.types part_of
    (λ ts facts. part_by (env_of ts facts s) d ordinary c.args.number (λ k. value_said (env_of ts facts s) anything k a) (read_type (env_of ts facts s) a))
    PartWithin c.in-Err.stop c.in_ok-given.ensures.grown c.in-Err.ensures.memory

pub operands::value_operand-returns-then-not-is_shown : goal.operands::value_operand-returns-then-not-is_shown
operands::value_operand-returns-then-not-is_shown t c =
    let s = c.args.scope.now in
    let a = term_of c.args.tree.now in
    let d = demand_of c.args.demand in
    let n = c.args.number in
    let v = c.in_ok-given.given in
    let again = λ (ts : List Ty) (facts : Facts) (k : ℕ). value_said (env_of ts facts s) anything k a in
    goes_on (λ (ts : List Ty) (facts : Facts) (v : Value). shown_by (env_of ts facts s) n (is_shown_by_call (env_of ts facts s) d v.given) v
    (again ts facts))
    c.in_ok-given.ensures
    (here c.value_at.new.types part_of
    (λ ts facts. shown_by (env_of ts facts s) n (is_shown_by_call (env_of ts facts s) d (valued_of ts v.value)) (given_of ts v) (again ts facts))
    PartWithin
    c.plain.result
    (λ ts facts u. ap (λ (b : Bool). shown_by (env_of ts facts s) n b (given_of ts v) (again ts facts))
    (c.in-Ok.ensures.is ts facts u ∙ c.if-not-is_shown.true) ∙ ap Ok (sym (c.plain.ensures.part ts)))
    (c.plain.ensures.within (length c.value_at.new.types) c.in_ok-given.ensures.fits))

pub operands::value_operand-returns-in_err-first : goal.operands::value_operand-returns-in_err-first
operands::value_operand-returns-in_err-first t c =
    let s = c.args.scope.now in
    let a = term_of c.args.tree.now in
    let d = demand_of c.args.demand in
    exits_without part_of (λ ts facts. part_by (env_of ts facts s) d ordinary c.args.number (λ k. value_said (env_of ts facts s) anything k a)
    (read_type (env_of ts facts s) a)) PartWithin c.in_err-first.field-0.0 c.from_residual-in_err-first.result c.from_residual-in_err-first.ensures.1
    c.in_ok-given.ensures.grown c.in_err-first.ensures.memory

pub operands::value_operand-returns-in_err-again : goal.operands::value_operand-returns-in_err-again
operands::value_operand-returns-in_err-again t c =
    let s = c.args.scope.now in
    let a = term_of c.args.tree.now in
    let d = demand_of c.args.demand in
    let n = c.args.number in
    let v = c.in_ok-given.given in
    let again = λ (ts : List Ty) (facts : Facts) (k : ℕ). value_said (env_of ts facts s) anything k a in
    exits c.in_err-again.field-0.0 c.from_residual-in_err-again.result c.from_residual-in_err-again.ensures.1
    (goes_on (λ (ts : List Ty) (facts : Facts) (v : Value). shown_by (env_of ts facts s) n (is_shown_by_call (env_of ts facts s) d v.given) v
    (again ts facts))
    c.in_ok-given.ensures
    (stop_as part_of
    (λ ts facts. shown_by (env_of ts facts s) n (is_shown_by_call (env_of ts facts s) d (valued_of ts v.value)) (given_of ts v) (again ts facts))
    PartWithin
    (λ (ts : List Ty) (facts : Facts) (v : Value). shown_part (env_of ts facts s) n v)
    (λ ts facts u. ap (λ (b : Bool). shown_by (env_of ts facts s) n b (given_of ts v) (again ts facts))
    (c.in-Ok.ensures.is ts facts u ∙ c.if-not-is_shown.false)
    ∙ ap (λ k. and_then (again ts facts k) (shown_part (env_of ts facts s) n)) (sym c.in_ok-first.ensures.next)) c.in_err-again.ensures))

pub operands::value_operand-returns : goal.operands::value_operand-returns
operands::value_operand-returns t c =
    let s = c.args.scope.now in
    let a = term_of c.args.tree.now in
    let d = demand_of c.args.demand in
    let n = c.args.number in
    let v = c.in_ok-given.given in
    let again = λ (ts : List Ty) (facts : Facts) (k : ℕ). value_said (env_of ts facts s) anything k a in
    goes_on (λ (ts : List Ty) (facts : Facts) (v : Value). shown_by (env_of ts facts s) n (is_shown_by_call (env_of ts facts s) d v.given) v
    (again ts facts))
    c.in_ok-given.ensures
    (go_as
    (λ ts facts. shown_by (env_of ts facts s) n (is_shown_by_call (env_of ts facts s) d (valued_of ts v.value)) (given_of ts v) (again ts facts))
    (λ (ts : List Ty) (facts : Facts) (v : Value). shown_part (env_of ts facts s) n v)
    (λ ts facts u. ap (λ (b : Bool). shown_by (env_of ts facts s) n b (given_of ts v) (again ts facts))
    (c.in-Ok.ensures.is ts facts u ∙ c.if-not-is_shown.false)
    ∙ ap (λ k. and_then (again ts facts k) (shown_part (env_of ts facts s) n)) (sym c.in_ok-first.ensures.next)) c.in_ok-again.ensures
    (stays c.value_at-2.new.types part_of (λ ts facts. shown_part (env_of ts facts s) n (given_of ts c.in_ok-again.again)) PartWithin c.shown.result
    c.shown.ensures.answers c.shown.ensures.within))

pub operands::type_operand-read_type-requires : goal.operands::type_operand-read_type-requires
operands::type_operand-read_type-requires t c = (omega (arith, c.decreases), c.requires.ready)

pub operands::type_operand-returns-in_err-ty : goal.operands::type_operand-returns-in_err-ty
operands::type_operand-returns-in_err-ty t c =
    exits c.in_err-ty.field-0.0 c.from_residual.result c.from_residual.ensures.1
    (stops_there part_of (λ (ts : List Ty) (facts : Facts) (ty : Ty). typing.part_of (a_type ty) c.args.number) PartWithin c.in_err-ty.ensures)

pub operands::type_operand-returns : goal.operands::type_operand-returns
operands::type_operand-returns t c =
    goes_on (λ (ts : List Ty) (facts : Facts) (ty : Ty). typing.part_of (a_type ty) c.args.number) c.in_ok-ty.ensures
    (here c.read_type.new.types part_of (λ ts facts. typing.part_of (a_type (type_at ts c.in_ok-ty.ty)) c.args.number) PartWithin
    (record { operand = operand.Type c.in_ok-ty.ty; next = c.args.number }) (λ ts facts u. refl) c.in_ok-ty.ensures.fits)

pub operands::operands-loop-part-init : goal.operands::operands-loop-part-init
operands::operands-loop-part-init t c = record {
  yet = yet_first c.args.types.now (λ ts facts. operands_said (env_of ts facts c.args.scope.now) (demand_of c.args.demand) c.args.number
      (map (operand_of ts) c.args.before.items) (parts_of c.args.parts.now))
      (λ ts facts. operands_said (env_of ts facts c.args.scope.now) (demand_of c.args.demand) c.args.number
      (map (operand_of ts) c.args.before.items) (parts_of c.args.parts.now)) (λ ts facts u. refl);
  within = c.requires.before;
}

pub operands::operands-operand_at-requires : goal.operands::operands-operand_at-requires
operands::operands-operand_at-requires t c =
    let at = c.loop-part in
    let e = next_item c.args.parts.now at.part-index c.part-item.result c.part-item.is c.loop-part-test.true in
    let l = part_light c.args.parts.now at.part-index c.part-item.result e in
    (omega (arith, c.decreases, l), ready_on at.invariant.yet.grown c.requires.ready)

pub operands::operands-returns-in_err-operand : goal.operands::operands-returns-in_err-operand
operands::operands-returns-in_err-operand t c =
    let s = c.args.scope.now in
    let at = c.loop-part in
    let x = c.part-item.result in
    let d = demand_of at.demanded in
    let e = next_item c.args.parts.now at.part-index x c.part-item.is c.loop-part-test.true in
    let more = parts_of (drop (at.part-index + 1) c.args.parts.now) in
    exits c.in_err-operand.field-0.0 c.from_residual.result c.from_residual.ensures.1
    (yet_stops operands_of AllOperandsWithin
    (λ (ts : List Ty) (facts : Facts) (o : Part). operands_said (env_of ts facts s) (demand_behind d) o.next
    (map (operand_of ts) at.all.items ++ o.operand ∷ []) more) at.invariant.yet
    (λ ts facts. ap (λ l. operands_said (env_of ts facts s) d at.next (map (operand_of ts) at.all.items) (parts_of l)) e
    ∙ operands_next (env_of ts facts s) d at.next (map (operand_of ts) at.all.items) (term_of x) more) c.in_err-operand.ensures)

pub operands::operands-returns-in_err-push : goal.operands::operands-returns-in_err-push
operands::operands-returns-in_err-push t c =
    let s = c.args.scope.now in
    exits_without operands_of
    (λ ts facts. operands_said (env_of ts facts s) (demand_of c.args.demand) c.args.number (map (operand_of ts) c.args.before.items)
    (parts_of c.args.parts.now)) AllOperandsWithin
    stop.Memory c.from_residual-in_err-push.result c.from_residual-in_err-push.ensures.1
    (grown_on c.loop-part.invariant.yet.grown c.in_ok-operand.ensures.grown) refl

pub operands::operands-loop-part-preserved : goal.operands::operands-loop-part-preserved
operands::operands-loop-part-preserved t c =
    let s = c.args.scope.now in
    let at = c.loop-part in
    let x = c.part-item.result in
    let o = c.in_ok-operand.operand.operand in
    let j = c.in_ok-operand.ensures in
    let d = demand_of at.demanded in
    let e = next_item c.args.parts.now at.part-index x c.part-item.is c.loop-part-test.true in
    let more = parts_of (drop (at.part-index + 1) c.args.parts.now) in
    record {
      yet = yet_goes
          (λ (ts : List Ty) (facts : Facts) (o : Part). operands_said (env_of ts facts s) (demand_behind d) o.next
          (map (operand_of ts) at.all.items ++ o.operand ∷ []) more)
          (λ ts facts. operands_said (env_of ts facts s) (demand_of c.behind-demanded.result) c.in_ok-operand.operand.next
          (map (operand_of ts) c.push.new.self.items) more) at.invariant.yet
          (λ ts facts. ap (λ l. operands_said (env_of ts facts s) d at.next (map (operand_of ts) at.all.items) (parts_of l)) e
          ∙ operands_next (env_of ts facts s) d at.next (map (operand_of ts) at.all.items) (term_of x) more) j
          (λ ts facts u. ap₂ (λ d before. operands_said (env_of ts facts s) d c.in_ok-operand.operand.next before more) (sym c.behind-demanded.ensures)
          (sym (map_push (operand_of ts) at.all.items o) ∙ ap (map (operand_of ts)) (sym c.in_ok-push.ensures.items)));
      within = subst (OperandsWithin (length c.operand_at.new.types)) (sym c.in_ok-push.ensures.items)
          (operands_and (length c.operand_at.new.types) at.all.items o (operands_more j.grown.length at.all.items at.invariant.within) j.fits);
    }

pub operands::operands-returns : goal.operands::operands-returns
operands::operands-returns t c =
    let s = c.args.scope.now in
    let at = c.loop-part in
    let e = none_left c.args.parts.now at.part-index (omega (arith, c.loop-part-test.false)) in
    yet_ends operands_of AllOperandsWithin (record { all = at.all; next = at.next }) at.invariant.yet
    (λ ts facts. ap (λ l. operands_said (env_of ts facts s) (demand_of at.demanded) at.next (map (operand_of ts) at.all.items) (parts_of l)) e
    ∙ operands_last (env_of ts facts s) (demand_of at.demanded) at.next (map (operand_of ts) at.all.items)) at.invariant.within

-- ---- calls

pub calls::call-returns-in-Name : goal.calls::call-returns-in-Name
calls::call-returns-in-Name t c = λ want.
    let s = c.args.scope.now in
    let is = ap term_of c.in-Name.is ∙ ap (term.name c.in-Name.place) (sym c.as_slice.ensures) in
    said_so (λ ts facts. typed (env_of ts facts s) (want_of ts want) c.args.number
    (term.call c.args.at (term_of c.args.base.now) (parts_of c.args.parts.now)))
    (λ ts facts u. ap (λ k. typed (env_of ts facts s) (want_of ts want) c.args.number (term.call c.args.at k (parts_of c.args.parts.now))) is)
    (c.named_call.ensures want)

pub calls::call-returns-in-Quoted : goal.calls::call-returns-in-Quoted
calls::call-returns-in-Quoted t c = λ want.
    let s = c.args.scope.now in
    let is = ap term_of c.in-Quoted.is ∙ ap (term.quoted c.in-Quoted.at) (sym c.as_slice-in-Quoted.ensures) in
    said_so (λ ts facts. typed (env_of ts facts s) (want_of ts want) c.args.number
    (term.call c.args.at (term_of c.args.base.now) (parts_of c.args.parts.now)))
    (λ ts facts u. ap (λ k. typed (env_of ts facts s) (want_of ts want) c.args.number (term.call c.args.at k (parts_of c.args.parts.now))) is)
    (c.quoted_call.ensures c.in-Quoted.at want)

pub calls::call-returns-in-Field : goal.calls::call-returns-in-Field
calls::call-returns-in-Field t c = λ want.
    let s = c.args.scope.now in
    let is = ap term_of c.in-Field.is
    ∙ ap₂ (λ a x. term.field c.in-Field.at (term_of a) x) (sym c.deref.ensures) (sym c.as_slice-in-Field.ensures) in
    said_so (λ ts facts. typed (env_of ts facts s) (want_of ts want) c.args.number
    (term.call c.args.at (term_of c.args.base.now) (parts_of c.args.parts.now)))
    (λ ts facts u. ap (λ k. typed (env_of ts facts s) (want_of ts want) c.args.number (term.call c.args.at k (parts_of c.args.parts.now))) is)
    (c.method_call.ensures c.in-Field.at want)

pub calls::call-returns-in-Index : goal.calls::call-returns-in-Index
calls::call-returns-in-Index t c = λ want.
    let s = c.args.scope.now in
    let is = ap term_of c.in-Index.is ∙ indexed c.in-Index.place c.in-Index.base c.in-Index.inside
    ∙ ap₂ (λ a xs. term.index c.in-Index.place (term_of a) (parts_of xs)) (sym c.deref-in-Index.ensures) (sym c.deref-in-Index-2.ensures.value) in
    said_so (λ ts facts. typed (env_of ts facts s) (want_of ts want) c.args.number
    (term.call c.args.at (term_of c.args.base.now) (parts_of c.args.parts.now)))
    (λ ts facts u. ap (λ k. typed (env_of ts facts s) (want_of ts want) c.args.number (term.call c.args.at k (parts_of c.args.parts.now))) is)
    (c.bracket_call.ensures want)

pub calls::call-returns-in_default : goal.calls::call-returns-in_default
calls::call-returns-in_default t c = λ want.
    let s = c.args.scope.now in
    refused_here c.args.types.now typed_of
    (λ ts facts. typed (env_of ts facts s) (want_of ts want) c.args.number (term.call c.args.at (term_of c.args.base.now) (parts_of c.args.parts.now)))
    TypedWithin NotTyped c.args.at c.no_callee.result c.no_callee.ensures.stop
    (λ ts facts. call_none (env_of ts facts s) (want_of ts want) c.args.number c.args.at (term_of c.args.base.now) (parts_of c.args.parts.now)
    c.no_callee.ensures.none)

pub calls::call-named_call-requires : goal.calls::call-named_call-requires
calls::call-named_call-requires t c =
    let e = ap nodes (ap term_of c.in-Name.is) in
    (omega (arith, c.decreases, e), c.requires.ready)

pub calls::call-quoted_call-requires : goal.calls::call-quoted_call-requires
calls::call-quoted_call-requires t c =
    let e = ap nodes (ap term_of c.in-Quoted.is) in
    (omega (arith, c.decreases, e), c.requires.ready)

pub calls::call-method_call-requires : goal.calls::call-method_call-requires
calls::call-method_call-requires t c =
    let e = ap nodes (ap term_of c.in-Field.is ∙ ap (λ a. term.field c.in-Field.at (term_of a) c.in-Field.text) (sym c.deref.ensures)) in
    (omega (arith, c.decreases, e), c.requires.ready)

pub calls::call-bracket_call-requires : goal.calls::call-bracket_call-requires
calls::call-bracket_call-requires t c =
    let e = ap nodes (ap term_of c.in-Index.is ∙ indexed c.in-Index.place c.in-Index.base c.in-Index.inside
    ∙ ap₂ (λ a xs. term.index c.in-Index.place (term_of a) (parts_of xs)) (sym c.deref-in-Index.ensures) (sym c.deref-in-Index-2.ensures.value)) in
    (omega (arith, c.decreases, e), c.requires.ready)

pub calls::named_call-returns-in_err-name : goal.calls::named_call-returns-in_err-name
calls::named_call-returns-in_err-name t c = λ want.
    let s = c.args.scope.now in
    let at = c.args.at in
    let n = c.args.number in
    let ps = parts_of c.args.parts.now in
    exits_without typed_of (λ ts facts. typed (env_of ts facts s) (want_of ts want) n (term.call at (term.name c.args.place c.args.text.now) ps))
    TypedWithin
    stop.Memory c.from_residual.result c.from_residual.ensures.1 (grown_same c.args.types.now) refl

pub calls::named_call-returns-in_err-check_callee : goal.calls::named_call-returns-in_err-check_callee
calls::named_call-returns-in_err-check_callee t c = λ want.
    let s = c.args.scope.now in
    let at = c.args.at in
    let n = c.args.number in
    let ps = parts_of c.args.parts.now in
    exits c.in_err-check_callee.field-0.0 c.from_residual-in_err-check_callee.result c.from_residual-in_err-check_callee.ensures.1
    (stop_as typed_of (λ ts facts. typed (env_of ts facts s) (want_of ts want) n (term.call at (term.name c.args.place c.args.text.now) ps)) TypedWithin
    (λ (ts : List Ty) (facts : Facts) (_ : Unit {0}). counted_go (env_of ts facts s) n at c.as_slice-word.result.now ps)
    (λ ts facts u. named_chain (env_of ts facts s) (want_of ts want) n at c.args.place c.args.text.now c.as_slice-word.result.now ps
    (c.as_slice-word.ensures ∙ c.in_ok-name.ensures))
    (checked c.args.types.now (λ ts facts. callee_rule (env_of ts facts s) c.args.place c.as_slice-word.result.now) (Err c.in_err-check_callee.field-0.0)
    c.in_err-check_callee.ensures tt))

pub calls::named_call-returns-in_err-check_count : goal.calls::named_call-returns-in_err-check_count
calls::named_call-returns-in_err-check_count t c = λ want.
    let s = c.args.scope.now in
    let at = c.args.at in
    let n = c.args.number in
    let ps = parts_of c.args.parts.now in
    let single = c.is_single.ensures in
    exits c.in_err-check_count.field-0.0 c.from_residual-in_err-check_count.result c.from_residual-in_err-check_count.ensures.1
    (stop_as typed_of (λ ts facts. typed (env_of ts facts s) (want_of ts want) n (term.call at (term.name c.args.place c.args.text.now) ps)) TypedWithin
    (λ (ts : List Ty) (facts : Facts) (_ : Unit {0}). and_then
    (operands (env_of ts facts s) (call_demand (env_of ts facts s) c.as_slice-word.result.now ps) (suc n) ps)
    (call_end (env_of ts facts s) n at c.as_slice-word.result.now))
    (λ ts facts u. named_chain (env_of ts facts s) (want_of ts want) n at c.args.place c.args.text.now c.as_slice-word.result.now ps
    (c.as_slice-word.ensures ∙ c.in_ok-name.ensures)
    ∙ ap (λ z. and_then z (λ (_ : Unit {0}). counted_go (env_of ts facts s) n at c.as_slice-word.result.now ps))
    (c.in_ok-check_callee.ensures ts facts))
    (checked c.args.types.now (λ ts facts. count_rule at c.as_slice-word.result.now ps) (Err c.in_err-check_count.field-0.0)
    (λ ts facts. c.in_err-check_count.ensures ps single) tt))

pub calls::named_call-returns-in_err-demand : goal.calls::named_call-returns-in_err-demand
calls::named_call-returns-in_err-demand t c = λ want.
    let s = c.args.scope.now in
    let at = c.args.at in
    let n = c.args.number in
    let ps = parts_of c.args.parts.now in
    exits_without typed_of (λ ts facts. typed (env_of ts facts s) (want_of ts want) n (term.call at (term.name c.args.place c.args.text.now) ps))
    TypedWithin
    c.in_err-demand.field-0.0 c.from_residual-in_err-demand.result c.from_residual-in_err-demand.ensures.1 (grown_same c.args.types.now)
    c.in_err-demand.ensures.memory

pub calls::named_call-returns-in_err-first : goal.calls::named_call-returns-in_err-first
calls::named_call-returns-in_err-first t c = λ want.
    let s = c.args.scope.now in
    let at = c.args.at in
    let n = c.args.number in
    let ps = parts_of c.args.parts.now in
    exits_without typed_of (λ ts facts. typed (env_of ts facts s) (want_of ts want) n (term.call at (term.name c.args.place c.args.text.now) ps))
    TypedWithin
    c.in_err-first.field-0.0 c.from_residual-in_err-first.result c.from_residual-in_err-first.ensures.1 (grown_same c.args.types.now)
    c.in_err-first.ensures.memory

pub calls::named_call-operands-requires : goal.calls::named_call-operands-requires
calls::named_call-operands-requires t c =
    (omega (arith, c.decreases), (c.requires.ready, subst (OperandsWithin (length c.args.types.now)) (sym c.new.ensures.items) tt))

pub calls::named_call-call_from-requires : goal.calls::named_call-call_from-requires
calls::named_call-call_from-requires t c =
    record { ready = ready_on c.in_ok-given.ensures.grown c.requires.ready; given = c.in_ok-given.ensures.fits }

pub calls::named_call-returns-in_err-given : goal.calls::named_call-returns-in_err-given
calls::named_call-returns-in_err-given t c = λ want.
    let s = c.args.scope.now in
    let at = c.args.at in
    let n = c.args.number in
    let ps = parts_of c.args.parts.now in
    let single = c.is_single.ensures in
    exits c.in_err-given.field-0.0 c.from_residual-in_err-given.result c.from_residual-in_err-given.ensures.1
    (stop_as typed_of (λ ts facts. typed (env_of ts facts s) (want_of ts want) n (term.call at (term.name c.args.place c.args.text.now) ps)) TypedWithin
    (λ (ts : List Ty) (facts : Facts) (os : Several). call_end (env_of ts facts s) n at c.as_slice-word.result.now os)
    (λ ts facts u. named_chain (env_of ts facts s) (want_of ts want) n at c.args.place c.args.text.now c.as_slice-word.result.now ps
    (c.as_slice-word.ensures ∙ c.in_ok-name.ensures)
    ∙ ap (λ z. and_then z (λ (_ : Unit {0}). counted_go (env_of ts facts s) n at c.as_slice-word.result.now ps)) (c.in_ok-check_callee.ensures ts facts)
    ∙ counted_chain (env_of ts facts s) n at c.as_slice-word.result.now ps (demand_of c.in_ok-demand.demand) c.in_ok-first.first
    (map (operand_of ts) c.new.result.items)
    (c.in_ok-check_count.ensures ps single) (c.in_ok-demand.ensures.demand ts facts) c.in_ok-first.ensures.next
    (ap (map (operand_of ts)) c.new.ensures.items)) c.in_err-given.ensures)

pub calls::named_call-returns : goal.calls::named_call-returns
calls::named_call-returns t c = λ want.
    let s = c.args.scope.now in
    let at = c.args.at in
    let n = c.args.number in
    let ps = parts_of c.args.parts.now in
    let single = c.is_single.ensures in
    go_as (λ ts facts. typed (env_of ts facts s) (want_of ts want) n (term.call at (term.name c.args.place c.args.text.now) ps))
    (λ (ts : List Ty) (facts : Facts) (os : Several). call_end (env_of ts facts s) n at c.as_slice-word.result.now os)
    (λ ts facts u. named_chain (env_of ts facts s) (want_of ts want) n at c.args.place c.args.text.now c.as_slice-word.result.now ps
    (c.as_slice-word.ensures ∙ c.in_ok-name.ensures)
    ∙ ap (λ z. and_then z (λ (_ : Unit {0}). counted_go (env_of ts facts s) n at c.as_slice-word.result.now ps)) (c.in_ok-check_callee.ensures ts facts)
    ∙ counted_chain (env_of ts facts s) n at c.as_slice-word.result.now ps (demand_of c.in_ok-demand.demand) c.in_ok-first.first
    (map (operand_of ts) c.new.result.items)
    (c.in_ok-check_count.ensures ps single) (c.in_ok-demand.ensures.demand ts facts) c.in_ok-first.ensures.next
    (ap (map (operand_of ts)) c.new.ensures.items)) c.in_ok-given.ensures c.call_from.ensures

pub calls::quoted_call-returns-in_err-name : goal.calls::quoted_call-returns-in_err-name
calls::quoted_call-returns-in_err-name t c = λ place want.
    let s = c.args.scope.now in
    let at = c.args.at in
    let n = c.args.number in
    let ps = parts_of c.args.parts.now in
    exits_without typed_of (λ ts facts. typed (env_of ts facts s) (want_of ts want) n (term.call at (term.quoted place c.args.text.now) ps)) TypedWithin
    stop.Memory c.from_residual.result c.from_residual.ensures.1 (grown_same c.args.types.now) refl

pub calls::quoted_call-returns-in_err-check_quoted : goal.calls::quoted_call-returns-in_err-check_quoted
calls::quoted_call-returns-in_err-check_quoted t c = λ place want.
    let s = c.args.scope.now in
    let at = c.args.at in
    let n = c.args.number in
    let ps = parts_of c.args.parts.now in
    let single = c.is_single.ensures in
    let named = c.as_slice-word.ensures ∙ c.in_ok-name.ensures.token in
    exits c.in_err-check_quoted.field-0.0 c.from_residual-in_err-check_quoted.result c.from_residual-in_err-check_quoted.ensures.1
    (stop_as typed_of (λ ts facts. typed (env_of ts facts s) (want_of ts want) n (term.call at (term.quoted place c.args.text.now) ps)) TypedWithin
    (λ (ts : List Ty) (facts : Facts) (_ : Unit {0}). quoted_go (env_of ts facts s) n at c.as_slice-word.result.now ps)
    (λ ts facts u. quoted_chain (env_of ts facts s) (want_of ts want) n at place c.args.text.now c.as_slice-word.result.now ps named)
    (checked c.args.types.now (λ ts facts. quoted_rule at c.as_slice-word.result.now ps) (Err c.in_err-check_quoted.field-0.0)
    (λ ts facts. c.in_err-check_quoted.ensures ps single) tt))

pub calls::quoted_call-returns-in_err-first : goal.calls::quoted_call-returns-in_err-first
calls::quoted_call-returns-in_err-first t c = λ place want.
    let s = c.args.scope.now in
    let at = c.args.at in
    let n = c.args.number in
    let ps = parts_of c.args.parts.now in
    exits_without typed_of (λ ts facts. typed (env_of ts facts s) (want_of ts want) n (term.call at (term.quoted place c.args.text.now) ps)) TypedWithin
    c.in_err-first.field-0.0 c.from_residual-in_err-first.result c.from_residual-in_err-first.ensures.1 (grown_same c.args.types.now)
    c.in_err-first.ensures.memory

pub calls::quoted_call-operands-requires : goal.calls::quoted_call-operands-requires
calls::quoted_call-operands-requires t c =
    (omega (arith, c.decreases), (c.requires.ready, subst (OperandsWithin (length c.args.types.now)) (sym c.new.ensures.items) tt))

pub calls::quoted_call-call_from-requires : goal.calls::quoted_call-call_from-requires
calls::quoted_call-call_from-requires t c =
    record { ready = ready_on c.in_ok-given.ensures.grown c.requires.ready; given = c.in_ok-given.ensures.fits }

pub calls::quoted_call-returns-in_err-given : goal.calls::quoted_call-returns-in_err-given
calls::quoted_call-returns-in_err-given t c = λ place want.
    let s = c.args.scope.now in
    let at = c.args.at in
    let n = c.args.number in
    let ps = parts_of c.args.parts.now in
    let single = c.is_single.ensures in
    let named = c.as_slice-word.ensures ∙ c.in_ok-name.ensures.token in
    exits c.in_err-given.field-0.0 c.from_residual-in_err-given.result c.from_residual-in_err-given.ensures.1
    (stop_as typed_of (λ ts facts. typed (env_of ts facts s) (want_of ts want) n (term.call at (term.quoted place c.args.text.now) ps)) TypedWithin
    (λ (ts : List Ty) (facts : Facts) (os : Several). call_end (env_of ts facts s) n at c.as_slice-word.result.now os)
    (λ ts facts u. quoted_chain (env_of ts facts s) (want_of ts want) n at place c.args.text.now c.as_slice-word.result.now ps named
    ∙ ap (λ z. and_then z (λ (_ : Unit {0}). quoted_go (env_of ts facts s) n at c.as_slice-word.result.now ps)) (c.in_ok-check_quoted.ensures ps single)
    ∙ arguments_chain (env_of ts facts s) n at c.as_slice-word.result.now ps c.in_ok-first.first (map (operand_of ts) c.new.result.items)
    c.in_ok-first.ensures.next
    (ap (map (operand_of ts)) c.new.ensures.items)) c.in_err-given.ensures)

pub calls::quoted_call-returns : goal.calls::quoted_call-returns
calls::quoted_call-returns t c = λ place want.
    let s = c.args.scope.now in
    let at = c.args.at in
    let n = c.args.number in
    let ps = parts_of c.args.parts.now in
    let single = c.is_single.ensures in
    let named = c.as_slice-word.ensures ∙ c.in_ok-name.ensures.token in
    go_as (λ ts facts. typed (env_of ts facts s) (want_of ts want) n (term.call at (term.quoted place c.args.text.now) ps))
    (λ (ts : List Ty) (facts : Facts) (os : Several). call_end (env_of ts facts s) n at c.as_slice-word.result.now os)
    (λ ts facts u. quoted_chain (env_of ts facts s) (want_of ts want) n at place c.args.text.now c.as_slice-word.result.now ps named
    ∙ ap (λ z. and_then z (λ (_ : Unit {0}). quoted_go (env_of ts facts s) n at c.as_slice-word.result.now ps)) (c.in_ok-check_quoted.ensures ps single)
    ∙ arguments_chain (env_of ts facts s) n at c.as_slice-word.result.now ps c.in_ok-first.first (map (operand_of ts) c.new.result.items)
    c.in_ok-first.ensures.next
    (ap (map (operand_of ts)) c.new.ensures.items)) c.in_ok-given.ensures c.call_from.ensures

pub calls::method_call-returns-in_err-name : goal.calls::method_call-returns-in_err-name
calls::method_call-returns-in_err-name t c = λ place want.
    let s = c.args.scope.now in
    let at = c.args.at in
    let n = c.args.number in
    let ps = parts_of c.args.parts.now in
    let a = term_of c.args.base.now in
    exits_without typed_of (λ ts facts. typed (env_of ts facts s) (want_of ts want) n (term.call at (term.field place a c.args.text.now) ps)) TypedWithin
    stop.Memory c.from_residual.result c.from_residual.ensures.1 (grown_same c.args.types.now) refl

pub calls::method_call-returns-in_err-check_count : goal.calls::method_call-returns-in_err-check_count
calls::method_call-returns-in_err-check_count t c = λ place want.
    let s = c.args.scope.now in
    let at = c.args.at in
    let n = c.args.number in
    let ps = parts_of c.args.parts.now in
    let a = term_of c.args.base.now in
    let single = c.is_alone-alone.ensures a in
    exits c.in_err-check_count.field-0.0 c.from_residual-in_err-check_count.result c.from_residual-in_err-check_count.ensures.1
    (stop_as typed_of (λ ts facts. typed (env_of ts facts s) (want_of ts want) n (term.call at (term.field place a c.args.text.now) ps)) TypedWithin
    (λ (ts : List Ty) (facts : Facts) (_ : Unit {0}). method_go (env_of ts facts s) n at c.as_slice-word.result.now a ps)
    (λ ts facts u. method_chain (env_of ts facts s) (want_of ts want) n at place a c.args.text.now c.as_slice-word.result.now ps
    (c.as_slice-word.ensures ∙ c.in_ok-name.ensures))
    (checked c.args.types.now (λ ts facts. count_rule at c.as_slice-word.result.now (part a ps)) (Err c.in_err-check_count.field-0.0)
    (λ ts facts. c.in_err-check_count.ensures (part a ps) single) tt))

pub calls::method_call-returns-in_err-demand : goal.calls::method_call-returns-in_err-demand
calls::method_call-returns-in_err-demand t c = λ place want.
    let s = c.args.scope.now in
    let at = c.args.at in
    let n = c.args.number in
    let ps = parts_of c.args.parts.now in
    let a = term_of c.args.base.now in
    exits_without typed_of (λ ts facts. typed (env_of ts facts s) (want_of ts want) n (term.call at (term.field place a c.args.text.now) ps)) TypedWithin
    c.in_err-demand.field-0.0 c.from_residual-in_err-demand.result c.from_residual-in_err-demand.ensures.1 (grown_same c.args.types.now)
    c.in_err-demand.ensures.memory

pub calls::method_call-returns-in_err-first : goal.calls::method_call-returns-in_err-first
calls::method_call-returns-in_err-first t c = λ place want.
    let s = c.args.scope.now in
    let at = c.args.at in
    let n = c.args.number in
    let ps = parts_of c.args.parts.now in
    let a = term_of c.args.base.now in
    exits_without typed_of (λ ts facts. typed (env_of ts facts s) (want_of ts want) n (term.call at (term.field place a c.args.text.now) ps)) TypedWithin
    c.in_err-first.field-0.0 c.from_residual-in_err-first.result c.from_residual-in_err-first.ensures.1 (grown_same c.args.types.now)
    c.in_err-first.ensures.memory

pub calls::method_call-operand_at-requires : goal.calls::method_call-operand_at-requires
calls::method_call-operand_at-requires t c =
    (omega (arith, c.decreases), c.requires.ready)

pub calls::method_call-returns-in_err-receiver : goal.calls::method_call-returns-in_err-receiver
calls::method_call-returns-in_err-receiver t c = λ place want.
    let s = c.args.scope.now in
    let at = c.args.at in
    let n = c.args.number in
    let ps = parts_of c.args.parts.now in
    let a = term_of c.args.base.now in
    let single = c.is_alone-alone.ensures a in
    exits c.in_err-receiver.field-0.0 c.from_residual-in_err-receiver.result c.from_residual-in_err-receiver.ensures.1
    (stop_as typed_of (λ ts facts. typed (env_of ts facts s) (want_of ts want) n (term.call at (term.field place a c.args.text.now) ps)) TypedWithin
    (λ (ts : List Ty) (facts : Facts) (o : Part). method_behind (env_of ts facts s) n at c.as_slice-word.result.now (demand_of c.in_ok-demand.demand) ps o)
    (λ ts facts u. receiver_chain (env_of ts facts s) (want_of ts want) n at place a c.args.text.now c.as_slice-word.result.now ps
    (demand_of c.in_ok-demand.demand) c.in_ok-first.first (c.as_slice-word.ensures ∙ c.in_ok-name.ensures)
    (c.in_ok-check_count.ensures (part a ps) single) (c.in_ok-demand.ensures.demand ts facts ps single) c.in_ok-first.ensures.next)
    c.in_err-receiver.ensures)

pub calls::method_call-returns-in-Err : goal.calls::method_call-returns-in-Err
calls::method_call-returns-in-Err t c = λ place want.
    let s = c.args.scope.now in
    let at = c.args.at in
    let n = c.args.number in
    let ps = parts_of c.args.parts.now in
    let a = term_of c.args.base.now in
    let single = c.is_alone-alone.ensures a in
    go_as (λ ts facts. typed (env_of ts facts s) (want_of ts want) n (term.call at (term.field place a c.args.text.now) ps))
    (λ (ts : List Ty) (facts : Facts) (o : Part). method_behind (env_of ts facts s) n at c.as_slice-word.result.now (demand_of c.in_ok-demand.demand) ps o)
    (λ ts facts u. receiver_chain (env_of ts facts s) (want_of ts want) n at place a c.args.text.now c.as_slice-word.result.now ps
    (demand_of c.in_ok-demand.demand) c.in_ok-first.first (c.as_slice-word.ensures ∙ c.in_ok-name.ensures)
    (c.in_ok-check_count.ensures (part a ps) single) (c.in_ok-demand.ensures.demand ts facts ps single) c.in_ok-first.ensures.next) c.in_ok-receiver.ensures
    (stops_there typed_of (λ (ts : List Ty) (facts : Facts) (_ : Unit {0}). method_then (env_of ts facts s) n at c.as_slice-word.result.now
    (demand_of c.in_ok-demand.demand) ps (part_of ts c.in_ok-receiver.receiver)) TypedWithin
    (checked c.operand_at.new.types (λ ts facts. callee_rule (env_of ts facts s) at c.as_slice-word.result.now) (Err c.in-Err.stop)
    c.in-Err.ensures tt))

pub calls::method_call-returns-in_err-before : goal.calls::method_call-returns-in_err-before
calls::method_call-returns-in_err-before t c = λ place want.
    let s = c.args.scope.now in
    let at = c.args.at in
    let n = c.args.number in
    let ps = parts_of c.args.parts.now in
    let a = term_of c.args.base.now in
    exits_without typed_of (λ ts facts. typed (env_of ts facts s) (want_of ts want) n (term.call at (term.field place a c.args.text.now) ps)) TypedWithin
    c.in_err-before.field-0.0 c.from_residual-in_err-before.result c.from_residual-in_err-before.ensures.1 c.in_ok-receiver.ensures.grown
    c.in_err-before.ensures.memory

pub calls::method_call-operands-requires : goal.calls::method_call-operands-requires
calls::method_call-operands-requires t c = (
  omega (arith, c.decreases),
  (
    ready_on c.in_ok-receiver.ensures.grown c.requires.ready,
    subst (OperandsWithin (length c.operand_at.new.types))
        (sym c.in_ok-before.ensures.all) (c.in_ok-receiver.ensures.fits, tt),
  ),
)

pub calls::method_call-call_from-requires : goal.calls::method_call-call_from-requires
calls::method_call-call_from-requires t c =
    record {
      ready = ready_on c.in_ok-given.ensures.grown (ready_on c.in_ok-receiver.ensures.grown c.requires.ready);
      given = c.in_ok-given.ensures.fits;
    }

pub calls::method_call-returns-in_err-given : goal.calls::method_call-returns-in_err-given
calls::method_call-returns-in_err-given t c = λ place want.
    let s = c.args.scope.now in
    let at = c.args.at in
    let n = c.args.number in
    let ps = parts_of c.args.parts.now in
    let a = term_of c.args.base.now in
    let single = c.is_alone-alone.ensures a in
    exits c.in_err-given.field-0.0 c.from_residual-in_err-given.result c.from_residual-in_err-given.ensures.1
    (go_as (λ ts facts. typed (env_of ts facts s) (want_of ts want) n (term.call at (term.field place a c.args.text.now) ps))
    (λ (ts : List Ty) (facts : Facts) (o : Part). method_behind (env_of ts facts s) n at c.as_slice-word.result.now (demand_of c.in_ok-demand.demand) ps o)
    (λ ts facts u. receiver_chain (env_of ts facts s) (want_of ts want) n at place a c.args.text.now c.as_slice-word.result.now ps
    (demand_of c.in_ok-demand.demand) c.in_ok-first.first (c.as_slice-word.ensures ∙ c.in_ok-name.ensures)
    (c.in_ok-check_count.ensures (part a ps) single) (c.in_ok-demand.ensures.demand ts facts ps single) c.in_ok-first.ensures.next) c.in_ok-receiver.ensures
    (stop_as typed_of (λ ts facts. method_behind (env_of ts facts s) n at c.as_slice-word.result.now (demand_of c.in_ok-demand.demand) ps
    (part_of ts c.in_ok-receiver.receiver)) TypedWithin
    (λ (ts : List Ty) (facts : Facts) (os : Several). call_end (env_of ts facts s) n at c.as_slice-word.result.now os)
    (λ ts facts u. ap
    (λ z. and_then z (λ (_ : Unit {0}). method_then (env_of ts facts s) n at c.as_slice-word.result.now (demand_of c.in_ok-demand.demand) ps
    (part_of ts c.in_ok-receiver.receiver))) (c.in-Ok.ensures ts facts)
    ∙ behind_chain (env_of ts facts s) n at c.as_slice-word.result.now (demand_of c.in_ok-demand.demand) (demand_of c.behind-2.result) ps
    (part_of ts c.in_ok-receiver.receiver) (map (operand_of ts) c.in_ok-before.before.items)
    c.behind-2.ensures (ap (map (operand_of ts)) c.in_ok-before.ensures.all)) c.in_err-given.ensures))

pub calls::method_call-returns : goal.calls::method_call-returns
calls::method_call-returns t c = λ place want.
    let s = c.args.scope.now in
    let at = c.args.at in
    let n = c.args.number in
    let ps = parts_of c.args.parts.now in
    let a = term_of c.args.base.now in
    let single = c.is_alone-alone.ensures a in
    go_as (λ ts facts. typed (env_of ts facts s) (want_of ts want) n (term.call at (term.field place a c.args.text.now) ps))
    (λ (ts : List Ty) (facts : Facts) (o : Part). method_behind (env_of ts facts s) n at c.as_slice-word.result.now (demand_of c.in_ok-demand.demand) ps o)
    (λ ts facts u. receiver_chain (env_of ts facts s) (want_of ts want) n at place a c.args.text.now c.as_slice-word.result.now ps
    (demand_of c.in_ok-demand.demand) c.in_ok-first.first (c.as_slice-word.ensures ∙ c.in_ok-name.ensures)
    (c.in_ok-check_count.ensures (part a ps) single) (c.in_ok-demand.ensures.demand ts facts ps single) c.in_ok-first.ensures.next) c.in_ok-receiver.ensures
    (go_as (λ ts facts. method_behind (env_of ts facts s) n at c.as_slice-word.result.now (demand_of c.in_ok-demand.demand) ps
    (part_of ts c.in_ok-receiver.receiver))
    (λ (ts : List Ty) (facts : Facts) (os : Several). call_end (env_of ts facts s) n at c.as_slice-word.result.now os)
    (λ ts facts u. ap
    (λ z. and_then z (λ (_ : Unit {0}). method_then (env_of ts facts s) n at c.as_slice-word.result.now (demand_of c.in_ok-demand.demand) ps
    (part_of ts c.in_ok-receiver.receiver))) (c.in-Ok.ensures ts facts)
    ∙ behind_chain (env_of ts facts s) n at c.as_slice-word.result.now (demand_of c.in_ok-demand.demand) (demand_of c.behind-2.result) ps
    (part_of ts c.in_ok-receiver.receiver) (map (operand_of ts) c.in_ok-before.before.items)
    c.behind-2.ensures (ap (map (operand_of ts)) c.in_ok-before.ensures.all)) c.in_ok-given.ensures c.call_from.ensures)

pub calls::bracket_call-returns-in-Name : goal.calls::bracket_call-returns-in-Name
calls::bracket_call-returns-in-Name t c = λ want.
    let s = c.args.scope.now in
    let at = c.args.at in
    let n = c.args.number in
    let ps = parts_of c.args.parts.now in
    let given = parts_of c.args.given.now in
    let is = ap term_of c.in-Name.is ∙ ap (term.name c.in-Name.q) (sym c.as_slice.ensures) in
    said_so (λ ts facts. typed (env_of ts facts s) (want_of ts want) n (term.call at (term.index c.args.p (term_of c.args.base.now) given) ps))
    (λ ts facts u. ap (λ k. typed (env_of ts facts s) (want_of ts want) n (term.call at (term.index c.args.p k given) ps)) is)
    (c.bracket_named.ensures want)

pub calls::bracket_call-returns-in_default : goal.calls::bracket_call-returns-in_default
calls::bracket_call-returns-in_default t c = λ want.
    let s = c.args.scope.now in
    let at = c.args.at in
    let n = c.args.number in
    let ps = parts_of c.args.parts.now in
    let a = term.index c.args.p (term_of c.args.base.now) (parts_of c.args.given.now) in
    refused_here c.args.types.now typed_of (λ ts facts. typed (env_of ts facts s) (want_of ts want) n (term.call at a ps)) TypedWithin NotTyped at
    c.no_name.result c.no_name.ensures.stop
    (λ ts facts. call_none (env_of ts facts s) (want_of ts want) n at a ps (c.no_name.ensures.none c.args.p (parts_of c.args.given.now)))

pub calls::bracket_call-bracket_named-requires : goal.calls::bracket_call-bracket_named-requires
calls::bracket_call-bracket_named-requires t c = (omega (arith, c.decreases), c.requires.ready)

pub calls::bracket_named-returns-in-len1 : goal.calls::bracket_named-returns-in-len1
calls::bracket_named-returns-in-len1 t c = λ want. c.one_bracket.ensures want

pub calls::bracket_named-returns-in_default : goal.calls::bracket_named-returns-in_default
calls::bracket_named-returns-in_default t c = λ want.
    let s = c.args.scope.now in
    let at = c.args.at in
    let p = c.args.p in
    let q = c.args.q in
    let x = c.args.text.now in
    let n = c.args.number in
    let given = parts_of c.args.given.now in
    let ps = parts_of c.args.parts.now in
    let none : nat_eq (length c.args.given.now) 1 ≡ false = grind (arith, nat_tests) in
    said_so (λ ts facts. typed (env_of ts facts s) (want_of ts want) n (term.call at (term.index p (term.name q x) given) ps))
    (λ ts facts u. bracket_none (env_of ts facts s) (want_of ts want) n at p q x c.args.given.now ps none) c.conversion.ensures

pub calls::bracket_named-one_bracket-requires : goal.calls::bracket_named-one_bracket-requires
calls::bracket_named-one_bracket-requires t c = (
  omega (arith, c.decreases),
  (c.requires.ready, ap parts_of (alone_item c.args.given.now c.ty-item.result c.ty-item.is (omega arith))),
)

pub calls::bracket_named-conversion-requires : goal.calls::bracket_named-conversion-requires
calls::bracket_named-conversion-requires t c = (omega (arith, c.decreases), c.requires.ready)

pub calls::one_bracket-returns-in_err-name : goal.calls::one_bracket-returns-in_err-name
calls::one_bracket-returns-in_err-name t c = λ want.
    let s = c.args.scope.now in
    let at = c.args.at in
    let p = c.args.p in
    let q = c.args.q in
    let x = c.args.text.now in
    let n = c.args.number in
    let given = parts_of c.args.given.now in
    let ps = parts_of c.args.parts.now in
    exits_without typed_of (λ ts facts. typed (env_of ts facts s) (want_of ts want) n (term.call at (term.index p (term.name q x) given) ps)) TypedWithin
    stop.Memory c.from_residual.result c.from_residual.ensures.1
    (grown_same c.args.types.now) refl

pub calls::one_bracket-returns-then-is_new_sequence : goal.calls::one_bracket-returns-then-is_new_sequence
calls::one_bracket-returns-then-is_new_sequence t c = λ want.
    let s = c.args.scope.now in
    let at = c.args.at in
    let p = c.args.p in
    let q = c.args.q in
    let x = c.args.text.now in
    let n = c.args.number in
    let given = parts_of c.args.given.now in
    let ps = parts_of c.args.parts.now in
    said_so (λ ts facts. typed (env_of ts facts s) (want_of ts want) n (term.call at (term.index p (term.name q x) given) ps))
    (λ ts facts u. bracket_chain (env_of ts facts s) (want_of ts want) n at p q x c.as_slice-word.result.now given (term_of c.args.ty.now) ps true
    (c.as_slice-word.ensures ∙ c.in_ok-name.ensures) c.requires.alone (c.is_new_sequence.ensures ∙ c.if-is_new_sequence.true)) c.new_sequence.ensures

pub calls::one_bracket-returns : goal.calls::one_bracket-returns
calls::one_bracket-returns t c = λ want.
    let s = c.args.scope.now in
    let at = c.args.at in
    let p = c.args.p in
    let q = c.args.q in
    let x = c.args.text.now in
    let n = c.args.number in
    let given = parts_of c.args.given.now in
    let ps = parts_of c.args.parts.now in
    said_so (λ ts facts. typed (env_of ts facts s) (want_of ts want) n (term.call at (term.index p (term.name q x) given) ps))
    (λ ts facts u. bracket_chain (env_of ts facts s) (want_of ts want) n at p q x c.as_slice-word.result.now given (term_of c.args.ty.now) ps false
    (c.as_slice-word.ensures ∙ c.in_ok-name.ensures) c.requires.alone (c.is_new_sequence.ensures ∙ c.if-is_new_sequence.false)
    ∙ ap (λ g. conversion_said (env_of ts facts s) n at p q x g ps) (sym c.requires.alone)) c.conversion.ensures

pub calls::one_bracket-new_sequence-requires : goal.calls::one_bracket-new_sequence-requires
calls::one_bracket-new_sequence-requires t c =
    let e = ap nodes_in c.requires.alone in
    (omega (arith, c.decreases, e), c.requires.ready)

pub calls::one_bracket-conversion-requires : goal.calls::one_bracket-conversion-requires
calls::one_bracket-conversion-requires t c = (omega (arith, c.decreases), c.requires.ready)

pub calls::new_sequence-read_type-requires : goal.calls::new_sequence-read_type-requires
calls::new_sequence-read_type-requires t c =
    (omega (arith, c.decreases), c.requires.ready)

pub calls::new_sequence-returns-in_err-of : goal.calls::new_sequence-returns-in_err-of
calls::new_sequence-returns-in_err-of t c =
    let s = c.args.scope.now in
    let at = c.args.at in
    let n = c.args.number in
    let ps = parts_of c.args.parts.now in
    let a = term_of c.args.ty.now in
    exits c.in_err-of.field-0.0 c.from_residual.result c.from_residual.ensures.1
    (stop_as typed_of (λ ts facts. sequence_said (env_of ts facts s) n at a ps) TypedWithin
    (λ (ts : List Ty) (facts : Facts) (ty : Ty). new_then (env_of ts facts s) n at ps ty) (λ ts facts u. refl) c.in_err-of.ensures)

pub calls::new_sequence-returns-in_err-first : goal.calls::new_sequence-returns-in_err-first
calls::new_sequence-returns-in_err-first t c =
    let s = c.args.scope.now in
    let at = c.args.at in
    let n = c.args.number in
    let ps = parts_of c.args.parts.now in
    let a = term_of c.args.ty.now in
    exits_without typed_of (λ ts facts. sequence_said (env_of ts facts s) n at a ps) TypedWithin
    c.in_err-first.field-0.0 c.from_residual-in_err-first.result c.from_residual-in_err-first.ensures.1 c.in_ok-of.ensures.grown
    c.in_err-first.ensures.memory

pub calls::new_sequence-operands-requires : goal.calls::new_sequence-operands-requires
calls::new_sequence-operands-requires t c = (
  omega (arith, c.decreases),
  (
    ready_on c.in_ok-of.ensures.grown c.requires.ready,
    subst (OperandsWithin (length c.read_type.new.types))
        (sym c.new.ensures.items) tt,
  ),
)

pub calls::new_sequence-new_sequence_from-requires : goal.calls::new_sequence-new_sequence_from-requires
calls::new_sequence-new_sequence_from-requires t c =
    let g = c.in_ok-given.ensures.grown in
    record {
      ready = ready_on g (ready_on c.in_ok-of.ensures.grown c.requires.ready);
      of = (let l = g.length in let h = c.in_ok-of.ensures.fits in omega (arith, l, h));
      given = c.in_ok-given.ensures.fits;
    }

pub calls::new_sequence-returns-in_err-given : goal.calls::new_sequence-returns-in_err-given
calls::new_sequence-returns-in_err-given t c =
    let s = c.args.scope.now in
    let at = c.args.at in
    let n = c.args.number in
    let ps = parts_of c.args.parts.now in
    let a = term_of c.args.ty.now in
    exits c.in_err-given.field-0.0 c.from_residual-in_err-given.result c.from_residual-in_err-given.ensures.1
    (go_as (λ ts facts. sequence_said (env_of ts facts s) n at a ps)
    (λ (ts : List Ty) (facts : Facts) (ty : Ty). new_then (env_of ts facts s) n at ps ty) (λ ts facts u. refl) c.in_ok-of.ensures
    (stop_as typed_of (λ ts facts. new_then (env_of ts facts s) n at ps (type_at ts c.in_ok-of.of)) TypedWithin
    (λ (ts : List Ty) (facts : Facts) (os : Several). new_sequence_end n at (type_at ts c.in_ok-of.of) os)
    (λ ts facts u. length_chain (env_of ts facts s) n at ps (type_at ts c.in_ok-of.of) c.in_ok-first.first (map (operand_of ts) c.new.result.items)
    c.in_ok-first.ensures.next (ap (map (operand_of ts)) c.new.ensures.items)) c.in_err-given.ensures))

pub calls::new_sequence-returns : goal.calls::new_sequence-returns
calls::new_sequence-returns t c =
    let s = c.args.scope.now in
    let at = c.args.at in
    let n = c.args.number in
    let ps = parts_of c.args.parts.now in
    let a = term_of c.args.ty.now in
    go_as (λ ts facts. sequence_said (env_of ts facts s) n at a ps)
    (λ (ts : List Ty) (facts : Facts) (ty : Ty). new_then (env_of ts facts s) n at ps ty) (λ ts facts u. refl) c.in_ok-of.ensures
    (go_as (λ ts facts. new_then (env_of ts facts s) n at ps (type_at ts c.in_ok-of.of))
    (λ (ts : List Ty) (facts : Facts) (os : Several). new_sequence_end n at (type_at ts c.in_ok-of.of) os)
    (λ ts facts u. length_chain (env_of ts facts s) n at ps (type_at ts c.in_ok-of.of) c.in_ok-first.first (map (operand_of ts) c.new.result.items)
    c.in_ok-first.ensures.next (ap (map (operand_of ts)) c.new.ensures.items)) c.in_ok-given.ensures c.new_sequence_from.ensures)

pub calls::conversion-returns-in_err-name : goal.calls::conversion-returns-in_err-name
calls::conversion-returns-in_err-name t c =
    let s = c.args.scope.now in
    let at = c.args.at in
    let p = c.args.p in
    let q = c.args.q in
    let x = c.args.text.now in
    let n = c.args.number in
    let given = parts_of c.args.given.now in
    let ps = parts_of c.args.parts.now in
    exits_without typed_of (λ ts facts. conversion_said (env_of ts facts s) n at p q x given ps) TypedWithin stop.Memory c.from_residual.result
    c.from_residual.ensures.1 (grown_same c.args.types.now) refl

pub calls::conversion-returns-in_err-check_brackets : goal.calls::conversion-returns-in_err-check_brackets
calls::conversion-returns-in_err-check_brackets t c =
    let s = c.args.scope.now in
    let at = c.args.at in
    let p = c.args.p in
    let q = c.args.q in
    let x = c.args.text.now in
    let n = c.args.number in
    let given = parts_of c.args.given.now in
    let ps = parts_of c.args.parts.now in
    exits c.in_err-check_brackets.field-0.0 c.from_residual-in_err-check_brackets.result c.from_residual-in_err-check_brackets.ensures.1
    (stop_as typed_of (λ ts facts. conversion_said (env_of ts facts s) n at p q x given ps) TypedWithin
    (λ (ts : List Ty) (facts : Facts) (_ : Unit {0}). conversion_go (env_of ts facts s) n at p q x given ps)
    (λ ts facts u. conversion_chain (env_of ts facts s) n at p q x c.as_slice-word.result.now given ps (c.as_slice-word.ensures ∙ c.in_ok-name.ensures))
    (checked c.args.types.now (λ ts facts. bracket_rule (env_of ts facts s) at c.as_slice-word.result.now) (Err c.in_err-check_brackets.field-0.0)
    c.in_err-check_brackets.ensures tt))

pub calls::conversion-formed-requires : goal.calls::conversion-formed-requires
calls::conversion-formed-requires t c = (omega (arith, c.decreases), c.requires.ready)

pub calls::conversion-returns-in_err-ty : goal.calls::conversion-returns-in_err-ty
calls::conversion-returns-in_err-ty t c =
    let s = c.args.scope.now in
    let at = c.args.at in
    let p = c.args.p in
    let q = c.args.q in
    let x = c.args.text.now in
    let n = c.args.number in
    let given = parts_of c.args.given.now in
    let ps = parts_of c.args.parts.now in
    exits c.in_err-ty.field-0.0 c.from_residual-in_err-ty.result c.from_residual-in_err-ty.ensures.1
    (stop_as typed_of (λ ts facts. conversion_said (env_of ts facts s) n at p q x given ps) TypedWithin
    (λ (ts : List Ty) (facts : Facts) (ty : Ty). conversion_then (env_of ts facts s) n at ps ty)
    (λ ts facts u. conversion_behind (env_of ts facts s) n at p q x c.as_slice-word.result.now given ps (c.as_slice-word.ensures ∙ c.in_ok-name.ensures)
    (c.in_ok-check_brackets.ensures ts facts)) c.in_err-ty.ensures)

pub calls::conversion-returns-in_err-first : goal.calls::conversion-returns-in_err-first
calls::conversion-returns-in_err-first t c =
    let s = c.args.scope.now in
    let at = c.args.at in
    let p = c.args.p in
    let q = c.args.q in
    let x = c.args.text.now in
    let n = c.args.number in
    let given = parts_of c.args.given.now in
    let ps = parts_of c.args.parts.now in
    exits_without typed_of (λ ts facts. conversion_said (env_of ts facts s) n at p q x given ps) TypedWithin
    c.in_err-first.field-0.0 c.from_residual-in_err-first.result c.from_residual-in_err-first.ensures.1 c.in_ok-ty.ensures.grown
    c.in_err-first.ensures.memory

pub calls::conversion-operands-requires : goal.calls::conversion-operands-requires
calls::conversion-operands-requires t c = (
  omega (arith, c.decreases),
  (
    ready_on c.in_ok-ty.ensures.grown c.requires.ready,
    subst (OperandsWithin (length c.formed.new.types))
        (sym c.new.ensures.items) tt,
  ),
)

pub calls::conversion-conversion_from-requires : goal.calls::conversion-conversion_from-requires
calls::conversion-conversion_from-requires t c =
    let g = c.in_ok-values.ensures.grown in
    record {
      ready = ready_on g (ready_on c.in_ok-ty.ensures.grown c.requires.ready);
      ty = (let l = g.length in let h = c.in_ok-ty.ensures.fits in omega (arith, l, h));
      given = c.in_ok-values.ensures.fits;
    }

pub calls::conversion-returns-in_err-values : goal.calls::conversion-returns-in_err-values
calls::conversion-returns-in_err-values t c =
    let s = c.args.scope.now in
    let at = c.args.at in
    let p = c.args.p in
    let q = c.args.q in
    let x = c.args.text.now in
    let n = c.args.number in
    let given = parts_of c.args.given.now in
    let ps = parts_of c.args.parts.now in
    exits c.in_err-values.field-0.0 c.from_residual-in_err-values.result c.from_residual-in_err-values.ensures.1
    (go_as (λ ts facts. conversion_said (env_of ts facts s) n at p q x given ps)
    (λ (ts : List Ty) (facts : Facts) (ty : Ty). conversion_then (env_of ts facts s) n at ps ty)
    (λ ts facts u. conversion_behind (env_of ts facts s) n at p q x c.as_slice-word.result.now given ps (c.as_slice-word.ensures ∙ c.in_ok-name.ensures)
    (c.in_ok-check_brackets.ensures ts facts)) c.in_ok-ty.ensures
    (stop_as typed_of (λ ts facts. conversion_then (env_of ts facts s) n at ps (type_at ts c.in_ok-ty.ty)) TypedWithin
    (λ (ts : List Ty) (facts : Facts) (os : Several). conversion_end (env_of ts facts s) n at (type_at ts c.in_ok-ty.ty) os)
    (λ ts facts u. converted_chain (env_of ts facts s) n at ps (type_at ts c.in_ok-ty.ty) c.in_ok-first.first (map (operand_of ts) c.new.result.items)
    c.in_ok-first.ensures.next (ap (map (operand_of ts)) c.new.ensures.items)) c.in_err-values.ensures))

pub calls::conversion-returns : goal.calls::conversion-returns
calls::conversion-returns t c =
    let s = c.args.scope.now in
    let at = c.args.at in
    let p = c.args.p in
    let q = c.args.q in
    let x = c.args.text.now in
    let n = c.args.number in
    let given = parts_of c.args.given.now in
    let ps = parts_of c.args.parts.now in
    go_as (λ ts facts. conversion_said (env_of ts facts s) n at p q x given ps)
    (λ (ts : List Ty) (facts : Facts) (ty : Ty). conversion_then (env_of ts facts s) n at ps ty)
    (λ ts facts u. conversion_behind (env_of ts facts s) n at p q x c.as_slice-word.result.now given ps (c.as_slice-word.ensures ∙ c.in_ok-name.ensures)
    (c.in_ok-check_brackets.ensures ts facts)) c.in_ok-ty.ensures
    (go_as (λ ts facts. conversion_then (env_of ts facts s) n at ps (type_at ts c.in_ok-ty.ty))
    (λ (ts : List Ty) (facts : Facts) (os : Several). conversion_end (env_of ts facts s) n at (type_at ts c.in_ok-ty.ty) os)
    (λ ts facts u. converted_chain (env_of ts facts s) n at ps (type_at ts c.in_ok-ty.ty) c.in_ok-first.first (map (operand_of ts) c.new.result.items)
    c.in_ok-first.ensures.next (ap (map (operand_of ts)) c.new.ensures.items)) c.in_ok-values.ensures c.conversion_from.ensures)

-- ---- branches

pub branches::if_with_else-returns-in_err-first : goal.branches::if_with_else-returns-in_err-first
branches::if_with_else-returns-in_err-first t c =
    let s = c.args.scope.now in
    let at = c.args.at in
    let n = c.args.number in
    let cs = choices_of c.args.choices.now in
    let a = term_of c.args.otherwise.now in
    exits_without typed_of (λ ts facts. typed (env_of ts facts s) (want_of ts c.args.want) n (term.if_term at cs a)) TypedWithin
    c.in_err-first.field-0.0 c.from_residual.result c.from_residual.ensures.1 (grown_same c.args.types.now) c.in_err-first.ensures.memory

pub branches::if_with_else-conditions-requires : goal.branches::if_with_else-conditions-requires
branches::if_with_else-conditions-requires t c = (
  omega (arith, c.decreases),
  (c.requires.ready, c.inner_by.ensures.within (length c.args.types.now) (c.wanted.ensures.within (length c.args.types.now) c.requires.want)),
)

pub branches::if_with_else-typed-requires : goal.branches::if_with_else-typed-requires
branches::if_with_else-typed-requires t c = (
  omega (arith, c.decreases),
  (
    ready_on c.in_ok-given.ensures.grown c.requires.ready,
    c.next_want.ensures.within (length c.conditions.new.types)
        c.in_ok-given.ensures.fits,
  ),
)

pub branches::if_with_else-if_from-requires : goal.branches::if_with_else-if_from-requires
branches::if_with_else-if_from-requires t c =
    record {
      given = branches_more c.in_ok-last.ensures.grown.length c.in_ok-given.given.values c.in_ok-given.ensures.fits;
      last = c.in_ok-last.ensures.fits;
    }

pub branches::if_with_else-returns-in_err-given : goal.branches::if_with_else-returns-in_err-given
branches::if_with_else-returns-in_err-given t c =
    let s = c.args.scope.now in
    let at = c.args.at in
    let n = c.args.number in
    let cs = choices_of c.args.choices.now in
    let a = term_of c.args.otherwise.now in
    let none : RustConditions = record { choices = c.new.result; values = branching.Undecided c.inner_by.result; next = c.in_ok-first.first } in
    exits c.in_err-given.field-0.0 c.from_residual-in_err-given.result c.from_residual-in_err-given.ensures.1
    (stop_as typed_of (λ ts facts. typed (env_of ts facts s) (want_of ts c.args.want) n (term.if_term at cs a)) TypedWithin
    (λ (ts : List Ty) (facts : Facts) (d : Chosen). if_go (env_of ts facts s) n at a d)
    (λ ts facts u. if_chain (env_of ts facts s) (want_of ts c.args.want) n at cs a (conditions_of ts none)
    (λ i. record {
      parts = ap (λ all. expr_choices ts all NoArg) c.new.ensures.items i;
      values = ap undecided (c.inner_by.ensures.want ts ∙ ap inner_by (c.wanted.ensures.ty ts)) i;
      next = c.in_ok-first.ensures.next i;
    })) c.in_err-given.ensures)

pub branches::if_with_else-returns-in_err-last : goal.branches::if_with_else-returns-in_err-last
branches::if_with_else-returns-in_err-last t c =
    let s = c.args.scope.now in
    let at = c.args.at in
    let n = c.args.number in
    let cs = choices_of c.args.choices.now in
    let a = term_of c.args.otherwise.now in
    let none : RustConditions = record { choices = c.new.result; values = branching.Undecided c.inner_by.result; next = c.in_ok-first.first } in
    exits c.in_err-last.field-0.0 c.from_residual-in_err-last.result c.from_residual-in_err-last.ensures.1
    (go_as (λ ts facts. typed (env_of ts facts s) (want_of ts c.args.want) n (term.if_term at cs a))
    (λ (ts : List Ty) (facts : Facts) (d : Chosen). if_go (env_of ts facts s) n at a d)
    (λ ts facts u. if_chain (env_of ts facts s) (want_of ts c.args.want) n at cs a (conditions_of ts none)
    (λ i. record {
      parts = ap (λ all. expr_choices ts all NoArg) c.new.ensures.items i;
      values = ap undecided (c.inner_by.ensures.want ts ∙ ap inner_by (c.wanted.ensures.ty ts)) i;
      next = c.in_ok-first.ensures.next i;
    })) c.in_ok-given.ensures
    (stop_as typed_of (λ ts facts. if_go (env_of ts facts s) n at a (conditions_of ts c.in_ok-given.given)) TypedWithin
    (λ (ts : List Ty) (facts : Facts) (x : Typed). if_end n at (conditions_of ts c.in_ok-given.given) x)
    (λ ts facts u. ap (λ w. and_then (typed (env_of ts facts s) w c.in_ok-given.given.next a) (if_end n at (conditions_of ts c.in_ok-given.given)))
    (sym (c.next_want.ensures.want ts))) c.in_err-last.ensures))

pub branches::if_with_else-returns : goal.branches::if_with_else-returns
branches::if_with_else-returns t c =
    let s = c.args.scope.now in
    let at = c.args.at in
    let n = c.args.number in
    let cs = choices_of c.args.choices.now in
    let a = term_of c.args.otherwise.now in
    let none : RustConditions = record { choices = c.new.result; values = branching.Undecided c.inner_by.result; next = c.in_ok-first.first } in
    go_as (λ ts facts. typed (env_of ts facts s) (want_of ts c.args.want) n (term.if_term at cs a))
    (λ (ts : List Ty) (facts : Facts) (d : Chosen). if_go (env_of ts facts s) n at a d)
    (λ ts facts u. if_chain (env_of ts facts s) (want_of ts c.args.want) n at cs a (conditions_of ts none)
    (λ i. record {
      parts = ap (λ all. expr_choices ts all NoArg) c.new.ensures.items i;
      values = ap undecided (c.inner_by.ensures.want ts ∙ ap inner_by (c.wanted.ensures.ty ts)) i;
      next = c.in_ok-first.ensures.next i;
    })) c.in_ok-given.ensures
    (go_as (λ ts facts. if_go (env_of ts facts s) n at a (conditions_of ts c.in_ok-given.given))
    (λ (ts : List Ty) (facts : Facts) (x : Typed). if_end n at (conditions_of ts c.in_ok-given.given) x)
    (λ ts facts u. ap (λ w. and_then (typed (env_of ts facts s) w c.in_ok-given.given.next a) (if_end n at (conditions_of ts c.in_ok-given.given)))
    (sym (c.next_want.ensures.want ts))) c.in_ok-last.ensures c.if_from.ensures)

pub branches::conditions-loop-choice-init : goal.branches::conditions-loop-choice-init
branches::conditions-loop-choice-init t c =
    let s = c.args.scope.now in
    record {
      yet = yet_first c.args.types.now (λ ts facts. conditions_said (env_of ts facts s) (conditions_of ts c.args.before) (choices_of c.args.choices.now))
          (λ ts facts. conditions_said (env_of ts facts s) (conditions_of ts c.args.before) (choices_of c.args.choices.now)) (λ ts facts u. refl);
      within = c.requires.before;
    }

pub branches::conditions-condition-requires : goal.branches::conditions-condition-requires
branches::conditions-condition-requires t c =
    let at = c.loop-choice in
    let e = next_item c.args.choices.now at.choice-index c.choice-item.result c.choice-item.is c.loop-choice-test.true in
    let l = choice_light c.args.choices.now at.choice-index c.choice-item.result e in
    (omega (arith, c.decreases, l), (ready_on at.invariant.yet.grown c.requires.ready, at.invariant.within))

pub branches::conditions-returns-in_err-so_far : goal.branches::conditions-returns-in_err-so_far
branches::conditions-returns-in_err-so_far t c =
    let s = c.args.scope.now in
    let at = c.loop-choice in
    let x = c.choice-item.result in
    let e = next_item c.args.choices.now at.choice-index x c.choice-item.is c.loop-choice-test.true in
    let more = choices_of (drop (at.choice-index + 1) c.args.choices.now) in
    exits c.in_err-so_far.field-0.0 c.from_residual.result c.from_residual.ensures.1
    (yet_stops conditions_of ConditionsWithin
    (λ (ts : List Ty) (facts : Facts) (d : Chosen). conditions_said (env_of ts facts s) d more) at.invariant.yet
    (λ ts facts. ap (λ l. conditions_said (env_of ts facts s) (conditions_of ts at.so_far) (choices_of l)) e
    ∙ conditions_next (env_of ts facts s) (conditions_of ts at.so_far) x.at (parts_of x.tests.items) (term_of x.value) more) c.in_err-so_far.ensures)

pub branches::conditions-loop-choice-preserved : goal.branches::conditions-loop-choice-preserved
branches::conditions-loop-choice-preserved t c =
    let s = c.args.scope.now in
    let at = c.loop-choice in
    let x = c.choice-item.result in
    let e = next_item c.args.choices.now at.choice-index x c.choice-item.is c.loop-choice-test.true in
    let more = choices_of (drop (at.choice-index + 1) c.args.choices.now) in
    record {
      yet = yet_goes
          (λ (ts : List Ty) (facts : Facts) (d : Chosen). conditions_said (env_of ts facts s) d more)
          (λ ts facts. conditions_said (env_of ts facts s) (conditions_of ts c.in_ok-so_far.so_far) more) at.invariant.yet
          (λ ts facts. ap (λ l. conditions_said (env_of ts facts s) (conditions_of ts at.so_far) (choices_of l)) e
          ∙ conditions_next (env_of ts facts s) (conditions_of ts at.so_far) x.at (parts_of x.tests.items) (term_of x.value) more) c.in_ok-so_far.ensures
          (λ ts facts u. refl);
      within = c.in_ok-so_far.ensures.fits;
    }

pub branches::conditions-returns : goal.branches::conditions-returns
branches::conditions-returns t c =
    let s = c.args.scope.now in
    let at = c.loop-choice in
    let e = none_left c.args.choices.now at.choice-index (omega (arith, c.loop-choice-test.false)) in
    yet_ends conditions_of ConditionsWithin at.so_far at.invariant.yet
    (λ ts facts. ap (λ l. conditions_said (env_of ts facts s) (conditions_of ts at.so_far) (choices_of l)) e
    ∙ conditions_last (env_of ts facts s) (conditions_of ts at.so_far)) at.invariant.within

pub branches::picks-loop-choice-init : goal.branches::picks-loop-choice-init
branches::picks-loop-choice-init t c =
    let s = c.args.scope.now in
    record {
      yet = yet_first c.args.types.now (λ ts facts. picks_said (env_of ts facts s) (type_at ts c.args.ty) (picked_of ts c.args.before)
          (choices_of c.args.choices.now)) (λ ts facts. picks_said (env_of ts facts s) (type_at ts c.args.ty) (picked_of ts c.args.before)
          (choices_of c.args.choices.now)) (λ ts facts u. refl);
      within = c.requires.before;
    }

pub branches::picks-pick-requires : goal.branches::picks-pick-requires
branches::picks-pick-requires t c =
    let at = c.loop-choice in
    let e = next_item c.args.choices.now at.choice-index c.choice-item.result c.choice-item.is c.loop-choice-test.true in
    let l = choice_light c.args.choices.now at.choice-index c.choice-item.result e in (
      omega (arith, c.decreases, l),
      (
        ready_on at.invariant.yet.grown c.requires.ready,
        ((let g = at.invariant.yet.grown.length in let h = c.requires.ty in omega (arith, g, h)), at.invariant.within),
      ),
    )

pub branches::picks-returns-in_err-so_far : goal.branches::picks-returns-in_err-so_far
branches::picks-returns-in_err-so_far t c =
    let s = c.args.scope.now in
    let at = c.loop-choice in
    let x = c.choice-item.result in
    let e = next_item c.args.choices.now at.choice-index x c.choice-item.is c.loop-choice-test.true in
    let more = choices_of (drop (at.choice-index + 1) c.args.choices.now) in
    exits c.in_err-so_far.field-0.0 c.from_residual.result c.from_residual.ensures.1
    (yet_stops picked_of PickedWithin
    (λ (ts : List Ty) (facts : Facts) (d : Picked). picks_said (env_of ts facts s) (type_at ts c.args.ty) d more) at.invariant.yet
    (λ ts facts. ap (λ l. picks_said (env_of ts facts s) (type_at ts c.args.ty) (picked_of ts at.so_far) (choices_of l)) e
    ∙ picks_next (env_of ts facts s) (type_at ts c.args.ty) (picked_of ts at.so_far) x.at (parts_of x.tests.items) (term_of x.value) more)
    c.in_err-so_far.ensures)

pub branches::picks-loop-choice-preserved : goal.branches::picks-loop-choice-preserved
branches::picks-loop-choice-preserved t c =
    let s = c.args.scope.now in
    let at = c.loop-choice in
    let x = c.choice-item.result in
    let e = next_item c.args.choices.now at.choice-index x c.choice-item.is c.loop-choice-test.true in
    let more = choices_of (drop (at.choice-index + 1) c.args.choices.now) in
    record {
      yet = yet_goes
          (λ (ts : List Ty) (facts : Facts) (d : Picked). picks_said (env_of ts facts s) (type_at ts c.args.ty) d more)
          (λ ts facts. picks_said (env_of ts facts s) (type_at ts c.args.ty) (picked_of ts c.in_ok-so_far.so_far) more) at.invariant.yet
          (λ ts facts. ap (λ l. picks_said (env_of ts facts s) (type_at ts c.args.ty) (picked_of ts at.so_far) (choices_of l)) e
          ∙ picks_next (env_of ts facts s) (type_at ts c.args.ty) (picked_of ts at.so_far) x.at (parts_of x.tests.items) (term_of x.value) more)
          c.in_ok-so_far.ensures (λ ts facts u. refl);
      within = c.in_ok-so_far.ensures.fits;
    }

pub branches::picks-returns : goal.branches::picks-returns
branches::picks-returns t c =
    let s = c.args.scope.now in
    let at = c.loop-choice in
    let e = none_left c.args.choices.now at.choice-index (omega (arith, c.loop-choice-test.false)) in
    yet_ends picked_of PickedWithin at.so_far at.invariant.yet
    (λ ts facts. ap (λ l. picks_said (env_of ts facts s) (type_at ts c.args.ty) (picked_of ts at.so_far) (choices_of l)) e
    ∙ picks_last (env_of ts facts s) (type_at ts c.args.ty) (picked_of ts at.so_far)) at.invariant.within

pub branches::condition-test_at-requires : goal.branches::condition-test_at-requires
branches::condition-test_at-requires t c =
    let e = ap (λ xs. nodes_in (parts_of xs)) c.deref.ensures.value in
    (omega (arith, c.decreases, e), c.requires.ready)

pub branches::condition-typed-requires : goal.branches::condition-typed-requires
branches::condition-typed-requires t c = (
  omega (arith, c.decreases),
  (
    ready_on c.in_ok-test.ensures.grown c.requires.ready,
    c.next_want-want.ensures.within (length c.test_at.new.types)
        (branches_more c.in_ok-test.ensures.grown.length c.args.before.values c.requires.before),
  ),
)

pub branches::condition-with_condition-requires : goal.branches::condition-with_condition-requires
branches::condition-with_condition-requires t c =
    record {
      before = branches_more c.in-Ok.ensures.grown.length c.args.before.values
          (branches_more c.in_ok-test.ensures.grown.length c.args.before.values c.requires.before);
      typed = c.in-Ok.ensures.fits;
    }

pub branches::condition-returns-in_err-test : goal.branches::condition-returns-in_err-test
branches::condition-returns-in_err-test t c =
    let s = c.args.scope.now in
    let x = c.args.choice.now in
    let before = c.args.before in
    let a = term_of x.value in
    let tests = parts_of x.tests.items in
    exits c.in_err-test.field-0.0 c.from_residual.result c.from_residual.ensures.1
    (stop_as conditions_of (λ ts facts. condition_said (env_of ts facts s) (conditions_of ts before) x.at tests a) ConditionsWithin
    (λ (ts : List Ty) (facts : Facts) (v : Value). and_then (typed (env_of ts facts s) (branch_want (branching_of ts before.values)) v.next a)
    (λ x. next_condition (conditions_of ts before) v x))
    (λ ts facts u. ap (λ xs. and_then (test_said (env_of ts facts s) before.next x.at (parts_of xs))
    (λ v. and_then (typed (env_of ts facts s) (branch_want (branching_of ts before.values)) v.next a)
    (λ x. next_condition (conditions_of ts before) v x)))
    (sym c.deref.ensures.value)) c.in_err-test.ensures)

pub branches::condition-returns-in-Err : goal.branches::condition-returns-in-Err
branches::condition-returns-in-Err t c =
    let s = c.args.scope.now in
    let x = c.args.choice.now in
    let before = c.args.before in
    let a = term_of x.value in
    let tests = parts_of x.tests.items in
    go_as (λ ts facts. condition_said (env_of ts facts s) (conditions_of ts before) x.at tests a)
    (λ (ts : List Ty) (facts : Facts) (v : Value). and_then (typed (env_of ts facts s) (branch_want (branching_of ts before.values)) v.next a)
    (λ x. next_condition (conditions_of ts before) v x))
    (λ ts facts u. ap (λ xs. and_then (test_said (env_of ts facts s) before.next x.at (parts_of xs))
    (λ v. and_then (typed (env_of ts facts s) (branch_want (branching_of ts before.values)) v.next a)
    (λ x. next_condition (conditions_of ts before) v x)))
    (sym c.deref.ensures.value)) c.in_ok-test.ensures
    (stop_as conditions_of (λ ts facts. and_then (typed (env_of ts facts s) (branch_want (branching_of ts before.values)) c.in_ok-test.test.next a)
    (λ x. next_condition (conditions_of ts before) (given_of ts c.in_ok-test.test) x)) ConditionsWithin
    (λ (ts : List Ty) (facts : Facts) (x : Typed). next_condition (conditions_of ts before) (given_of ts c.in_ok-test.test) x)
    (λ ts facts u. ap
    (λ w. and_then (typed (env_of ts facts s) w c.in_ok-test.test.next a)
    (λ x. next_condition (conditions_of ts before) (given_of ts c.in_ok-test.test) x))
    (sym (c.next_want-want.ensures.want ts))) c.in-Err.ensures)

pub branches::condition-returns : goal.branches::condition-returns
branches::condition-returns t c =
    let s = c.args.scope.now in
    let x = c.args.choice.now in
    let before = c.args.before in
    let a = term_of x.value in
    let tests = parts_of x.tests.items in
    go_as (λ ts facts. condition_said (env_of ts facts s) (conditions_of ts before) x.at tests a)
    (λ (ts : List Ty) (facts : Facts) (v : Value). and_then (typed (env_of ts facts s) (branch_want (branching_of ts before.values)) v.next a)
    (λ x. next_condition (conditions_of ts before) v x))
    (λ ts facts u. ap (λ xs. and_then (test_said (env_of ts facts s) before.next x.at (parts_of xs))
    (λ v. and_then (typed (env_of ts facts s) (branch_want (branching_of ts before.values)) v.next a)
    (λ x. next_condition (conditions_of ts before) v x)))
    (sym c.deref.ensures.value)) c.in_ok-test.ensures
    (go_as (λ ts facts. and_then (typed (env_of ts facts s) (branch_want (branching_of ts before.values)) c.in_ok-test.test.next a)
    (λ x. next_condition (conditions_of ts before) (given_of ts c.in_ok-test.test) x))
    (λ (ts : List Ty) (facts : Facts) (x : Typed). next_condition (conditions_of ts before) (given_of ts c.in_ok-test.test) x)
    (λ ts facts u. ap
    (λ w. and_then (typed (env_of ts facts s) w c.in_ok-test.test.next a)
    (λ x. next_condition (conditions_of ts before) (given_of ts c.in_ok-test.test) x))
    (sym (c.next_want-want.ensures.want ts))) c.in-Ok.ensures
    (stays c.typed.new.types conditions_of
    (λ ts facts. next_condition (conditions_of ts before) (given_of ts c.in_ok-test.test) (typed_of ts c.in-Ok.value))
    ConditionsWithin c.with_condition.result c.with_condition.ensures.answers c.with_condition.ensures.within))

pub branches::test_at-returns-in-len1 : goal.branches::test_at-returns-in-len1
branches::test_at-returns-in-len1 t c =
    let s = c.args.scope.now in
    let is = alone_item c.args.tests.now c.test-item.result c.test-item.is (omega arith) in
    said_from (λ ts facts. test_said (env_of ts facts s) c.args.number c.args.at (parts_of c.args.tests.now))
    (λ ts facts u. ap (λ xs. test_said (env_of ts facts s) c.args.number c.args.at (parts_of xs)) is
    ∙ ap (λ ty. value_said (env_of ts facts s) (exactly ty) c.args.number (term_of c.test-item.result)) (sym (bool_under u c.requires.ready.kinds)))
    c.value_at.ensures

pub branches::test_at-returns-in_default : goal.branches::test_at-returns-in_default
branches::test_at-returns-in_default t c =
    let s = c.args.scope.now in
    let none : nat_eq (length c.args.tests.now) 1 ≡ false = grind (arith, nat_tests) in
    refused_here c.args.types.now given_of (λ ts facts. test_said (env_of ts facts s) c.args.number c.args.at (parts_of c.args.tests.now)) GivenWithin
    NotTyped c.args.at
    c.refusal.result c.refusal.ensures (λ ts facts. test_none (env_of ts facts s) c.args.number c.args.at c.args.tests.now none)

pub branches::test_at-value_at-requires : goal.branches::test_at-value_at-requires
branches::test_at-value_at-requires t c =
    let is = alone_item c.args.tests.now c.test-item.result c.test-item.is (omega arith) in
    let e = ap (λ xs. nodes_in (parts_of xs)) is in
    (omega (arith, c.decreases, e), (c.requires.ready, bool_below c.requires.ready.kinds))

pub branches::case_of-returns-in-None : goal.branches::case_of-returns-in-None
branches::case_of-returns-in-None t c =
    let s = c.args.scope.now in
    let a = term_of c.args.selector.now in
    let cs = choices_of c.args.choices.now in
    said_so (λ ts facts. typed (env_of ts facts s) (want_of ts c.args.want) c.args.number (case_by c.args.at a cs c.args.otherwise.now))
    (λ ts facts u. ap (λ o. typed (env_of ts facts s) (want_of ts c.args.want) c.args.number (case_by c.args.at a cs o)) c.in-None.is)
    c.case_alone.ensures

pub branches::case_of-returns-in-Some : goal.branches::case_of-returns-in-Some
branches::case_of-returns-in-Some t c =
    let s = c.args.scope.now in
    let a = term_of c.args.selector.now in
    let cs = choices_of c.args.choices.now in
    said_so (λ ts facts. typed (env_of ts facts s) (want_of ts c.args.want) c.args.number (case_by c.args.at a cs c.args.otherwise.now))
    (λ ts facts u. ap (λ o. typed (env_of ts facts s) (want_of ts c.args.want) c.args.number (case_by c.args.at a cs o)) c.in-Some.is
    ∙ ap (λ b. typed (env_of ts facts s) (want_of ts c.args.want) c.args.number (term.case_else c.args.at a cs (term_of b))) (sym c.deref.ensures))
    c.case_with_else.ensures

pub branches::case_of-case_alone-requires : goal.branches::case_of-case_alone-requires
branches::case_of-case_alone-requires t c =
    let e = ap (λ o. nodes (case_by c.args.at (term_of c.args.selector.now) (choices_of c.args.choices.now) o)) c.in-None.is in
    (omega (arith, c.decreases, e), (c.requires.ready, c.requires.want))

pub branches::case_of-case_with_else-requires : goal.branches::case_of-case_with_else-requires
branches::case_of-case_with_else-requires t c =
    let e = ap (λ o. nodes (case_by c.args.at (term_of c.args.selector.now) (choices_of c.args.choices.now) o)) c.in-Some.is
    ∙ ap (λ b. nodes (term.case_else c.args.at (term_of c.args.selector.now) (choices_of c.args.choices.now) (term_of b))) (sym c.deref.ensures) in
    (omega (arith, c.decreases, e), (c.requires.ready, c.requires.want))

pub branches::case_alone-returns-in_err-first : goal.branches::case_alone-returns-in_err-first
branches::case_alone-returns-in_err-first t c =
    let s = c.args.scope.now in
    let at = c.args.at in
    let n = c.args.number in
    let a = term_of c.args.selector.now in
    let cs = choices_of c.args.choices.now in
    exits_without typed_of (λ ts facts. typed (env_of ts facts s) (want_of ts c.args.want) n (term.case_term at a cs)) TypedWithin
    c.in_err-first.field-0.0 c.from_residual.result c.from_residual.ensures.1 (grown_same c.args.types.now) c.in_err-first.ensures.memory

pub branches::case_alone-value_at-requires : goal.branches::case_alone-value_at-requires
branches::case_alone-value_at-requires t c =
    (omega (arith, c.decreases), (c.requires.ready, tt))

pub branches::case_alone-picks-requires : goal.branches::case_alone-picks-requires
branches::case_alone-picks-requires t c =
    let g = c.in_ok-value.ensures.grown in (
      omega (arith, c.decreases),
      (
        ready_on g c.requires.ready,
        (
          c.in_ok-value.ensures.fits,
          c.no_picks-none.ensures.within (length c.value_at.new.types)
              (want_more g.length c.args.want c.requires.want),
        ),
      ),
    )

pub branches::case_alone-returns-in_err-value : goal.branches::case_alone-returns-in_err-value
branches::case_alone-returns-in_err-value t c =
    let s = c.args.scope.now in
    let at = c.args.at in
    let n = c.args.number in
    let a = term_of c.args.selector.now in
    let cs = choices_of c.args.choices.now in
    exits c.in_err-value.field-0.0 c.from_residual-in_err-value.result c.from_residual-in_err-value.ensures.1
    (stop_as typed_of (λ ts facts. typed (env_of ts facts s) (want_of ts c.args.want) n (term.case_term at a cs)) TypedWithin
    (λ (ts : List Ty) (facts : Facts) (v : Value). case_go (env_of ts facts s) (want_of ts c.args.want) n at cs v)
    (λ ts facts u. case_chain (env_of ts facts s) (want_of ts c.args.want) n at a cs c.in_ok-first.first c.in_ok-first.ensures.next)
    c.in_err-value.ensures)

pub branches::case_alone-returns-in-Err : goal.branches::case_alone-returns-in-Err
branches::case_alone-returns-in-Err t c =
    let s = c.args.scope.now in
    let at = c.args.at in
    let n = c.args.number in
    let a = term_of c.args.selector.now in
    let cs = choices_of c.args.choices.now in
    go_as (λ ts facts. typed (env_of ts facts s) (want_of ts c.args.want) n (term.case_term at a cs))
    (λ (ts : List Ty) (facts : Facts) (v : Value). case_go (env_of ts facts s) (want_of ts c.args.want) n at cs v)
    (λ ts facts u. case_chain (env_of ts facts s) (want_of ts c.args.want) n at a cs c.in_ok-first.first c.in_ok-first.ensures.next) c.in_ok-value.ensures
    (stop_as typed_of (λ ts facts. case_go (env_of ts facts s) (want_of ts c.args.want) n at cs (given_of ts c.in_ok-value.value)) TypedWithin
    (λ (ts : List Ty) (facts : Facts) (p : Picked). case_then (env_of ts facts s) n at (given_of ts c.in_ok-value.value) p)
    (λ ts facts u. ap (λ q. and_then (picks_said (env_of ts facts s) (type_at ts c.in_ok-value.value.value.ty) q cs)
    (case_then (env_of ts facts s) n at (given_of ts c.in_ok-value.value))) (sym (c.no_picks-none.ensures.picked ts))) c.in-Err.ensures)

pub branches::case_alone-case_from-requires : goal.branches::case_alone-case_from-requires
branches::case_alone-case_from-requires t c =
    let g = c.in-Ok.ensures.grown in
    record {
      selector = (let l = g.length in let v = c.in_ok-value.ensures.fits in omega (arith, l, v));
      given = c.in-Ok.ensures.fits;
    }

pub branches::case_alone-returns : goal.branches::case_alone-returns
branches::case_alone-returns t c =
    let s = c.args.scope.now in
    let at = c.args.at in
    let n = c.args.number in
    let a = term_of c.args.selector.now in
    let cs = choices_of c.args.choices.now in
    go_as (λ ts facts. typed (env_of ts facts s) (want_of ts c.args.want) n (term.case_term at a cs))
    (λ (ts : List Ty) (facts : Facts) (v : Value). case_go (env_of ts facts s) (want_of ts c.args.want) n at cs v)
    (λ ts facts u. case_chain (env_of ts facts s) (want_of ts c.args.want) n at a cs c.in_ok-first.first c.in_ok-first.ensures.next) c.in_ok-value.ensures
    (go_as (λ ts facts. case_go (env_of ts facts s) (want_of ts c.args.want) n at cs (given_of ts c.in_ok-value.value))
    (λ (ts : List Ty) (facts : Facts) (p : Picked). case_then (env_of ts facts s) n at (given_of ts c.in_ok-value.value) p)
    (λ ts facts u. ap (λ q. and_then (picks_said (env_of ts facts s) (type_at ts c.in_ok-value.value.value.ty) q cs)
    (case_then (env_of ts facts s) n at (given_of ts c.in_ok-value.value))) (sym (c.no_picks-none.ensures.picked ts))) c.in-Ok.ensures
    c.case_from.ensures)

pub branches::case_with_else-returns-in_err-first : goal.branches::case_with_else-returns-in_err-first
branches::case_with_else-returns-in_err-first t c =
    let s = c.args.scope.now in
    let at = c.args.at in
    let n = c.args.number in
    let a = term_of c.args.selector.now in
    let cs = choices_of c.args.choices.now in
    let b = term_of c.args.otherwise.now in
    exits_without typed_of (λ ts facts. typed (env_of ts facts s) (want_of ts c.args.want) n (term.case_else at a cs b)) TypedWithin
    c.in_err-first.field-0.0 c.from_residual.result c.from_residual.ensures.1 (grown_same c.args.types.now) c.in_err-first.ensures.memory

pub branches::case_with_else-value_at-requires : goal.branches::case_with_else-value_at-requires
branches::case_with_else-value_at-requires t c =
    (omega (arith, c.decreases), (c.requires.ready, tt))

pub branches::case_with_else-picks-requires : goal.branches::case_with_else-picks-requires
branches::case_with_else-picks-requires t c =
    let g = c.in_ok-value.ensures.grown in (
      omega (arith, c.decreases),
      (
        ready_on g c.requires.ready,
        (
          c.in_ok-value.ensures.fits,
          c.no_picks-none.ensures.within (length c.value_at.new.types)
              (want_more g.length c.args.want c.requires.want),
        ),
      ),
    )

pub branches::case_with_else-returns-in_err-value : goal.branches::case_with_else-returns-in_err-value
branches::case_with_else-returns-in_err-value t c =
    let s = c.args.scope.now in
    let at = c.args.at in
    let n = c.args.number in
    let a = term_of c.args.selector.now in
    let cs = choices_of c.args.choices.now in
    let b = term_of c.args.otherwise.now in
    exits c.in_err-value.field-0.0 c.from_residual-in_err-value.result c.from_residual-in_err-value.ensures.1
    (stop_as typed_of (λ ts facts. typed (env_of ts facts s) (want_of ts c.args.want) n (term.case_else at a cs b)) TypedWithin
    (λ (ts : List Ty) (facts : Facts) (v : Value). else_go (env_of ts facts s) (want_of ts c.args.want) n at cs b v)
    (λ ts facts u. else_chain (env_of ts facts s) (want_of ts c.args.want) n at a cs b c.in_ok-first.first c.in_ok-first.ensures.next)
    c.in_err-value.ensures)

pub branches::case_with_else-returns-in-Err : goal.branches::case_with_else-returns-in-Err
branches::case_with_else-returns-in-Err t c =
    let s = c.args.scope.now in
    let at = c.args.at in
    let n = c.args.number in
    let a = term_of c.args.selector.now in
    let cs = choices_of c.args.choices.now in
    let b = term_of c.args.otherwise.now in
    go_as (λ ts facts. typed (env_of ts facts s) (want_of ts c.args.want) n (term.case_else at a cs b))
    (λ (ts : List Ty) (facts : Facts) (v : Value). else_go (env_of ts facts s) (want_of ts c.args.want) n at cs b v)
    (λ ts facts u. else_chain (env_of ts facts s) (want_of ts c.args.want) n at a cs b c.in_ok-first.first c.in_ok-first.ensures.next)
    c.in_ok-value.ensures
    (stop_as typed_of (λ ts facts. else_go (env_of ts facts s) (want_of ts c.args.want) n at cs b (given_of ts c.in_ok-value.value)) TypedWithin
    (λ (ts : List Ty) (facts : Facts) (p : Picked). else_then (env_of ts facts s) n at b (given_of ts c.in_ok-value.value) p)
    (λ ts facts u. ap (λ q. and_then (picks_said (env_of ts facts s) (type_at ts c.in_ok-value.value.value.ty) q cs)
    (else_then (env_of ts facts s) n at b (given_of ts c.in_ok-value.value))) (sym (c.no_picks-none.ensures.picked ts))) c.in-Err.ensures)

pub branches::case_with_else-typed-requires : goal.branches::case_with_else-typed-requires
branches::case_with_else-typed-requires t c = (
  omega (arith, c.decreases),
  (
    ready_on c.in-Ok.ensures.grown (ready_on c.in_ok-value.ensures.grown c.requires.ready),
    c.next_want-want.ensures.within
        (length c.picks.new.types) c.in-Ok.ensures.fits,
  ),
)

pub branches::case_with_else-case_else_from-requires : goal.branches::case_with_else-case_else_from-requires
branches::case_with_else-case_else_from-requires t c =
    record {
      given = branches_more c.in-Ok-typed.ensures.grown.length c.in-Ok.given.values c.in-Ok.ensures.fits;
      last = c.in-Ok-typed.ensures.fits;
    }

pub branches::case_with_else-returns-in-Err-typed : goal.branches::case_with_else-returns-in-Err-typed
branches::case_with_else-returns-in-Err-typed t c =
    let s = c.args.scope.now in
    let at = c.args.at in
    let n = c.args.number in
    let a = term_of c.args.selector.now in
    let cs = choices_of c.args.choices.now in
    let b = term_of c.args.otherwise.now in
    go_as (λ ts facts. typed (env_of ts facts s) (want_of ts c.args.want) n (term.case_else at a cs b))
    (λ (ts : List Ty) (facts : Facts) (v : Value). else_go (env_of ts facts s) (want_of ts c.args.want) n at cs b v)
    (λ ts facts u. else_chain (env_of ts facts s) (want_of ts c.args.want) n at a cs b c.in_ok-first.first c.in_ok-first.ensures.next)
    c.in_ok-value.ensures
    (go_as (λ ts facts. else_go (env_of ts facts s) (want_of ts c.args.want) n at cs b (given_of ts c.in_ok-value.value))
    (λ (ts : List Ty) (facts : Facts) (p : Picked). else_then (env_of ts facts s) n at b (given_of ts c.in_ok-value.value) p)
    (λ ts facts u. ap (λ q. and_then (picks_said (env_of ts facts s) (type_at ts c.in_ok-value.value.value.ty) q cs)
    (else_then (env_of ts facts s) n at b (given_of ts c.in_ok-value.value))) (sym (c.no_picks-none.ensures.picked ts))) c.in-Ok.ensures
    (stop_as typed_of (λ ts facts. else_then (env_of ts facts s) n at b (given_of ts c.in_ok-value.value) (picked_of ts c.in-Ok.given)) TypedWithin
    (λ (ts : List Ty) (facts : Facts) (x : Typed). case_else_end n at (given_of ts c.in_ok-value.value) (picked_of ts c.in-Ok.given) x)
    (λ ts facts u. ap
    (λ w. and_then (typed (env_of ts facts s) w c.in-Ok.given.next b)
    (case_else_end n at (given_of ts c.in_ok-value.value) (picked_of ts c.in-Ok.given)))
    (sym (c.next_want-want.ensures.want ts))) c.in-Err-typed.ensures))

pub branches::case_with_else-returns : goal.branches::case_with_else-returns
branches::case_with_else-returns t c =
    let s = c.args.scope.now in
    let at = c.args.at in
    let n = c.args.number in
    let a = term_of c.args.selector.now in
    let cs = choices_of c.args.choices.now in
    let b = term_of c.args.otherwise.now in
    go_as (λ ts facts. typed (env_of ts facts s) (want_of ts c.args.want) n (term.case_else at a cs b))
    (λ (ts : List Ty) (facts : Facts) (v : Value). else_go (env_of ts facts s) (want_of ts c.args.want) n at cs b v)
    (λ ts facts u. else_chain (env_of ts facts s) (want_of ts c.args.want) n at a cs b c.in_ok-first.first c.in_ok-first.ensures.next)
    c.in_ok-value.ensures
    (go_as (λ ts facts. else_go (env_of ts facts s) (want_of ts c.args.want) n at cs b (given_of ts c.in_ok-value.value))
    (λ (ts : List Ty) (facts : Facts) (p : Picked). else_then (env_of ts facts s) n at b (given_of ts c.in_ok-value.value) p)
    (λ ts facts u. ap (λ q. and_then (picks_said (env_of ts facts s) (type_at ts c.in_ok-value.value.value.ty) q cs)
    (else_then (env_of ts facts s) n at b (given_of ts c.in_ok-value.value))) (sym (c.no_picks-none.ensures.picked ts))) c.in-Ok.ensures
    (go_as (λ ts facts. else_then (env_of ts facts s) n at b (given_of ts c.in_ok-value.value) (picked_of ts c.in-Ok.given))
    (λ (ts : List Ty) (facts : Facts) (x : Typed). case_else_end n at (given_of ts c.in_ok-value.value) (picked_of ts c.in-Ok.given) x)
    (λ ts facts u. ap
    (λ w. and_then (typed (env_of ts facts s) w c.in-Ok.given.next b)
    (case_else_end n at (given_of ts c.in_ok-value.value) (picked_of ts c.in-Ok.given)))
    (sym (c.next_want-want.ensures.want ts))) c.in-Ok-typed.ensures c.case_else_from.ensures))

pub branches::pick-labels-requires : goal.branches::pick-labels-requires
branches::pick-labels-requires t c =
    let e = ap (λ xs. nodes_in (parts_of xs)) c.deref.ensures.value in
    (omega (arith, c.decreases, e), (c.requires.ready, c.requires.ty))

pub branches::pick-typed-requires : goal.branches::pick-typed-requires
branches::pick-typed-requires t c = (
  omega (arith, c.decreases),
  (
    ready_on c.in_ok-tests.ensures.grown c.requires.ready,
    c.next_want.ensures.within (length c.labels.new.types)
        (branches_more c.in_ok-tests.ensures.grown.length c.args.before.values c.requires.before),
  ),
)

pub branches::pick-with_pick-requires : goal.branches::pick-with_pick-requires
branches::pick-with_pick-requires t c =
    record {
      values = branches_more c.in_ok-value.ensures.grown.length c.args.before.values
          (branches_more c.in_ok-tests.ensures.grown.length c.args.before.values c.requires.before);
      typed = c.in_ok-value.ensures.fits;
    }

pub branches::pick-returns-in_err-tests : goal.branches::pick-returns-in_err-tests
branches::pick-returns-in_err-tests t c =
    let s = c.args.scope.now in
    let x = c.args.choice.now in
    let before = c.args.before in
    let a = term_of x.value in
    let tests = parts_of x.tests.items in
    exits c.in_err-tests.field-0.0 c.from_residual.result c.from_residual.ensures.1
    (stop_as picked_of (λ ts facts. pick_said (env_of ts facts s) (type_at ts c.args.ty) (picked_of ts before) tests a) PickedWithin
    (λ (ts : List Ty) (facts : Facts) (ls : Tests). and_then (typed (env_of ts facts s) (branch_want (branching_of ts before.values)) before.next a)
    (λ x. next_pick (rows_of ts before.picks.items) (branching_of ts before.values) ls x))
    (λ ts facts u. ap (λ xs. and_then (labels_said (env_of ts facts s) (type_at ts c.args.ty) (no_tests before.labels) (parts_of xs))
    (λ ls. and_then (typed (env_of ts facts s) (branch_want (branching_of ts before.values)) before.next a)
    (λ x. next_pick (rows_of ts before.picks.items) (branching_of ts before.values) ls x))) (sym c.deref.ensures.value)) c.in_err-tests.ensures)

pub branches::pick-returns-in_err-value : goal.branches::pick-returns-in_err-value
branches::pick-returns-in_err-value t c =
    let s = c.args.scope.now in
    let x = c.args.choice.now in
    let before = c.args.before in
    let a = term_of x.value in
    let tests = parts_of x.tests.items in
    exits c.in_err-value.field-0.0 c.from_residual-in_err-value.result c.from_residual-in_err-value.ensures.1
    (go_as (λ ts facts. pick_said (env_of ts facts s) (type_at ts c.args.ty) (picked_of ts before) tests a)
    (λ (ts : List Ty) (facts : Facts) (ls : Tests). and_then (typed (env_of ts facts s) (branch_want (branching_of ts before.values)) before.next a)
    (λ x. next_pick (rows_of ts before.picks.items) (branching_of ts before.values) ls x))
    (λ ts facts u. ap (λ xs. and_then (labels_said (env_of ts facts s) (type_at ts c.args.ty) (no_tests before.labels) (parts_of xs))
    (λ ls. and_then (typed (env_of ts facts s) (branch_want (branching_of ts before.values)) before.next a)
    (λ x. next_pick (rows_of ts before.picks.items) (branching_of ts before.values) ls x))) (sym c.deref.ensures.value)) c.in_ok-tests.ensures
    (stop_as picked_of (λ ts facts. and_then (typed (env_of ts facts s) (branch_want (branching_of ts before.values)) before.next a)
    (λ x. next_pick (rows_of ts before.picks.items) (branching_of ts before.values) (tests_of c.in_ok-tests.tests) x)) PickedWithin
    (λ (ts : List Ty) (facts : Facts) (x : Typed). next_pick (rows_of ts before.picks.items) (branching_of ts before.values)
    (tests_of c.in_ok-tests.tests) x)
    (λ ts facts u. ap (λ w. and_then (typed (env_of ts facts s) w before.next a)
    (λ x. next_pick (rows_of ts before.picks.items) (branching_of ts before.values) (tests_of c.in_ok-tests.tests) x))
    (sym (c.next_want.ensures.want ts))) c.in_err-value.ensures))

pub branches::pick-returns : goal.branches::pick-returns
branches::pick-returns t c =
    let s = c.args.scope.now in
    let x = c.args.choice.now in
    let before = c.args.before in
    let a = term_of x.value in
    let tests = parts_of x.tests.items in
    go_as (λ ts facts. pick_said (env_of ts facts s) (type_at ts c.args.ty) (picked_of ts before) tests a)
    (λ (ts : List Ty) (facts : Facts) (ls : Tests). and_then (typed (env_of ts facts s) (branch_want (branching_of ts before.values)) before.next a)
    (λ x. next_pick (rows_of ts before.picks.items) (branching_of ts before.values) ls x))
    (λ ts facts u. ap (λ xs. and_then (labels_said (env_of ts facts s) (type_at ts c.args.ty) (no_tests before.labels) (parts_of xs))
    (λ ls. and_then (typed (env_of ts facts s) (branch_want (branching_of ts before.values)) before.next a)
    (λ x. next_pick (rows_of ts before.picks.items) (branching_of ts before.values) ls x))) (sym c.deref.ensures.value)) c.in_ok-tests.ensures
    (go_as (λ ts facts. and_then (typed (env_of ts facts s) (branch_want (branching_of ts before.values)) before.next a)
    (λ x. next_pick (rows_of ts before.picks.items) (branching_of ts before.values) (tests_of c.in_ok-tests.tests) x))
    (λ (ts : List Ty) (facts : Facts) (x : Typed). next_pick (rows_of ts before.picks.items) (branching_of ts before.values)
    (tests_of c.in_ok-tests.tests) x)
    (λ ts facts u. ap (λ w. and_then (typed (env_of ts facts s) w before.next a)
    (λ x. next_pick (rows_of ts before.picks.items) (branching_of ts before.values) (tests_of c.in_ok-tests.tests) x))
    (sym (c.next_want.ensures.want ts))) c.in_ok-value.ensures
    (stays c.typed.new.types picked_of (λ ts facts. next_pick (rows_of ts before.picks.items) (branching_of ts before.values)
    (tests_of c.in_ok-tests.tests) (typed_of ts c.in_ok-value.value))
    PickedWithin c.with_pick.result c.with_pick.ensures.answers c.with_pick.ensures.within))

-- ---- labels

pub labels::labels-loop-test-init : goal.labels::labels-loop-test-init
labels::labels-loop-test-init t c =
    let s = c.args.scope.now in
    record {
      yet = yet_first c.args.types.now
          (λ ts facts. labels_said (env_of ts facts s) (type_at ts c.args.ty) (no_tests c.args.before) (parts_of c.args.tests.now))
          (λ ts facts. labels_said (env_of ts facts s) (type_at ts c.args.ty) (tests_of (record { own = c.new.result; all = c.args.before }))
          (parts_of c.args.tests.now))
          (λ ts facts u. ap (λ xs. labels_said (env_of ts facts s) (type_at ts c.args.ty) (record { own = map label_of xs; all = c.args.before })
          (parts_of c.args.tests.now)) (sym c.new.ensures));
      within = sym (append-nil c.args.before) ∙ ap (λ xs. c.args.before ++ map label_of xs) (sym c.new.ensures);
    }

pub labels::labels-label_at-requires : goal.labels::labels-label_at-requires
labels::labels-label_at-requires t c =
    let at = c.loop-test in
    let e = next_item c.args.tests.now at.test-index c.test-item.result c.test-item.is c.loop-test-test.true in
    let l = part_light c.args.tests.now at.test-index c.test-item.result e in (
      omega (arith, c.decreases, l),
      (ready_on at.invariant.yet.grown c.requires.ready, (let g = at.invariant.yet.grown.length in let h = c.requires.ty in omega (arith, g, h))),
    )

pub labels::labels-returns-in_err-label : goal.labels::labels-returns-in_err-label
labels::labels-returns-in_err-label t c =
    let s = c.args.scope.now in
    let at = c.loop-test in
    let x = c.test-item.result in
    let e = next_item c.args.tests.now at.test-index x c.test-item.is c.loop-test-test.true in
    let more = parts_of (drop (at.test-index + 1) c.args.tests.now) in
    exits c.in_err-label.field-0.0 c.from_residual.result c.from_residual.ensures.1
    (yet_stops (λ (ts : List Ty). tests_of) (AreAll c.args.before)
    (λ (ts : List Ty) (facts : Facts) (l : Label). and_then (next_test (tests_of at.so_far) (test_place (term_of x)) l)
    (λ t. labels_said (env_of ts facts s) (type_at ts c.args.ty) t more)) at.invariant.yet
    (λ ts facts. ap (λ l. labels_said (env_of ts facts s) (type_at ts c.args.ty) (tests_of at.so_far) (parts_of l)) e
    ∙ labels_next (env_of ts facts s) (type_at ts c.args.ty) (tests_of at.so_far) (term_of x) more) c.in_err-label.ensures)

pub labels::labels-returns-in_err-so_far : goal.labels::labels-returns-in_err-so_far
labels::labels-returns-in_err-so_far t c =
    let s = c.args.scope.now in
    let at = c.loop-test in
    let x = c.test-item.result in
    let e = next_item c.args.tests.now at.test-index x c.test-item.is c.loop-test-test.true in
    let more = parts_of (drop (at.test-index + 1) c.args.tests.now) in
    exits c.in_err-so_far.field-0.0 c.from_residual-in_err-so_far.result c.from_residual-in_err-so_far.ensures.1
    (yet_stops (λ (ts : List Ty). tests_of) (AreAll c.args.before)
    (λ (ts : List Ty) (facts : Facts) (t : Tests). labels_said (env_of ts facts s) (type_at ts c.args.ty) t more)
    (yet_goes (λ (ts : List Ty) (facts : Facts) (l : Label). and_then (next_test (tests_of at.so_far) (test_place (term_of x)) l)
    (λ t. labels_said (env_of ts facts s) (type_at ts c.args.ty) t more))
    (λ ts facts. and_then (next_test (tests_of at.so_far) (test_place (term_of x)) (label_of c.in_ok-label.label))
    (λ t. labels_said (env_of ts facts s) (type_at ts c.args.ty) t more)) at.invariant.yet
    (λ ts facts. ap (λ l. labels_said (env_of ts facts s) (type_at ts c.args.ty) (tests_of at.so_far) (parts_of l)) e
    ∙ labels_next (env_of ts facts s) (type_at ts c.args.ty) (tests_of at.so_far) (term_of x) more) c.in_ok-label.ensures (λ ts facts u. refl))
    (λ ts facts. ap
    (λ p. and_then (next_test (tests_of at.so_far) p (label_of c.in_ok-label.label)) (λ t. labels_said (env_of ts facts s) (type_at ts c.args.ty) t more))
    (sym c.label_place.ensures))
    (stays c.label_at.new.types (λ (ts : List Ty). tests_of)
    (λ (ts : List Ty) (facts : Facts). next_test (tests_of at.so_far) c.label_place.result (label_of c.in_ok-label.label)) Any
    (Err c.in_err-so_far.field-0.0) (λ ts facts u. c.in_err-so_far.ensures) tt))

pub labels::labels-loop-test-preserved : goal.labels::labels-loop-test-preserved
labels::labels-loop-test-preserved t c =
    let s = c.args.scope.now in
    let at = c.loop-test in
    let x = c.test-item.result in
    let e = next_item c.args.tests.now at.test-index x c.test-item.is c.loop-test-test.true in
    let more = parts_of (drop (at.test-index + 1) c.args.tests.now) in
    record {
      yet = yet_goes (λ (ts : List Ty) (facts : Facts) (t : Tests). labels_said (env_of ts facts s) (type_at ts c.args.ty) t more)
          (λ ts facts. labels_said (env_of ts facts s) (type_at ts c.args.ty) (tests_of c.in_ok-so_far.so_far) more)
          (yet_goes (λ (ts : List Ty) (facts : Facts) (l : Label). and_then (next_test (tests_of at.so_far) (test_place (term_of x)) l)
          (λ t. labels_said (env_of ts facts s) (type_at ts c.args.ty) t more))
          (λ ts facts. and_then (next_test (tests_of at.so_far) (test_place (term_of x)) (label_of c.in_ok-label.label))
          (λ t. labels_said (env_of ts facts s) (type_at ts c.args.ty) t more)) at.invariant.yet
          (λ ts facts. ap (λ l. labels_said (env_of ts facts s) (type_at ts c.args.ty) (tests_of at.so_far) (parts_of l)) e
          ∙ labels_next (env_of ts facts s) (type_at ts c.args.ty) (tests_of at.so_far) (term_of x) more) c.in_ok-label.ensures (λ ts facts u. refl))
          (λ ts facts. ap
          (λ p. and_then (next_test (tests_of at.so_far) p (label_of c.in_ok-label.label)) (λ t. labels_said (env_of ts facts s) (type_at ts c.args.ty) t
          more)) (sym c.label_place.ensures))
          (stays c.label_at.new.types (λ (ts : List Ty). tests_of)
          (λ (ts : List Ty) (facts : Facts). next_test (tests_of at.so_far) c.label_place.result (label_of c.in_ok-label.label)) Any
          (Ok c.in_ok-so_far.so_far) (λ ts facts u. c.in_ok-so_far.ensures) tt) (λ ts facts u. refl);
      within = next_all (tests_of at.so_far) c.args.before c.label_place.result (label_of c.in_ok-label.label) (tests_of c.in_ok-so_far.so_far)
          c.in_ok-so_far.ensures at.invariant.within;
    }

pub labels::labels-returns : goal.labels::labels-returns
labels::labels-returns t c =
    let s = c.args.scope.now in
    let at = c.loop-test in
    let e = none_left c.args.tests.now at.test-index (omega (arith, c.loop-test-test.false)) in
    yet_ends (λ (ts : List Ty). tests_of) (AreAll c.args.before) at.so_far at.invariant.yet
    (λ ts facts. ap (λ l. labels_said (env_of ts facts s) (type_at ts c.args.ty) (tests_of at.so_far) (parts_of l)) e ∙ labels_last (env_of ts facts s)
    (type_at ts c.args.ty) (tests_of at.so_far)) at.invariant.within

pub labels::label_at-returns-in-Range : goal.labels::label_at-returns-in-Range
labels::label_at-returns-in-Range t c =
    let s = c.args.scope.now in
    let is = ap term_of c.in-Range.is ∙ ap₂ (λ a b. term.range c.in-Range.at (term_of a) (term_of b)) (sym c.deref.ensures)
    (sym c.deref-in-Range.ensures) in
    said_so (λ ts facts. label_said (env_of ts facts s) (type_at ts c.args.ty) (term_of c.args.test.now))
    (λ ts facts u. ap (λ k. label_said (env_of ts facts s) (type_at ts c.args.ty) k) is) c.range_at.ensures

pub labels::label_at-returns-in_default : goal.labels::label_at-returns-in_default
labels::label_at-returns-in_default t c =
    let s = c.args.scope.now in
    said_so (λ ts facts. label_said (env_of ts facts s) (type_at ts c.args.ty) (term_of c.args.test.now))
    (λ ts facts u. label_plain (env_of ts facts s) (type_at ts c.args.ty) (term_of c.args.test.now) c.no_range.ensures.plain
    ∙ ap (λ t. one_label_said (env_of ts facts s) (type_at ts c.args.ty) (term_of t)) (sym c.no_range.ensures.same)) c.one_label.ensures

pub labels::label_at-one_label-requires : goal.labels::label_at-one_label-requires
labels::label_at-one_label-requires t c =
    let e = ap (λ t. nodes (term_of t)) c.no_range.ensures.same in
    (omega (arith, c.decreases, e), (c.requires.ready, c.requires.ty))

pub labels::label_at-range_at-requires : goal.labels::label_at-range_at-requires
labels::label_at-range_at-requires t c =
    let e = ap nodes (ap term_of c.in-Range.is ∙ ap₂ (λ a b. term.range c.in-Range.at (term_of a) (term_of b)) (sym c.deref.ensures)
    (sym c.deref-in-Range.ensures)) in
    (omega (arith, c.decreases, e), (c.requires.ready, c.requires.ty))

pub labels::range_at-one_label-requires : goal.labels::range_at-one_label-requires
labels::range_at-one_label-requires t c =
    (omega (arith, c.decreases), (c.requires.ready, c.requires.ty))

pub labels::range_at-one_label-requires-2 : goal.labels::range_at-one_label-requires-2
labels::range_at-one_label-requires-2 t c = (
  omega (arith, c.decreases),
  (ready_on c.in_ok-low.ensures.grown c.requires.ready, (let g = c.in_ok-low.ensures.grown.length in let h = c.requires.ty in omega (arith, g, h))),
)

pub labels::range_at-returns-in_err-low : goal.labels::range_at-returns-in_err-low
labels::range_at-returns-in_err-low t c =
    let s = c.args.scope.now in
    let a = term_of c.args.low.now in
    let b = term_of c.args.high.now in
    exits c.in_err-low.field-0.0 c.from_residual.result c.from_residual.ensures.1
    (stops_there (λ (ts : List Ty). label_of)
    (λ (ts : List Ty) (facts : Facts) (low : Label). and_then (one_label_said (env_of ts facts s) (type_at ts c.args.ty) b)
    (λ high. range_of c.args.at low high)) LabelProper c.in_err-low.ensures)

pub labels::range_at-returns-in_err-high : goal.labels::range_at-returns-in_err-high
labels::range_at-returns-in_err-high t c =
    let s = c.args.scope.now in
    let a = term_of c.args.low.now in
    let b = term_of c.args.high.now in
    exits c.in_err-high.field-0.0 c.from_residual-in_err-high.result c.from_residual-in_err-high.ensures.1
    (goes_on (λ (ts : List Ty) (facts : Facts) (low : Label). and_then (one_label_said (env_of ts facts s) (type_at ts c.args.ty) b)
    (λ high. range_of c.args.at low high)) c.in_ok-low.ensures
    (stops_there (λ (ts : List Ty). label_of) (λ (ts : List Ty) (facts : Facts) (high : Label). range_of c.args.at (label_of c.in_ok-low.low) high)
    LabelProper c.in_err-high.ensures))

pub labels::range_at-returns : goal.labels::range_at-returns
labels::range_at-returns t c =
    let s = c.args.scope.now in
    let a = term_of c.args.low.now in
    let b = term_of c.args.high.now in
    goes_on (λ (ts : List Ty) (facts : Facts) (low : Label). and_then (one_label_said (env_of ts facts s) (type_at ts c.args.ty) b)
    (λ high. range_of c.args.at low high)) c.in_ok-low.ensures
    (goes_on (λ (ts : List Ty) (facts : Facts) (high : Label). range_of c.args.at (label_of c.in_ok-low.low) high) c.in_ok-high.ensures
    (stays c.one_label-2.new.types (λ (ts : List Ty). label_of) (λ ts facts. range_of c.args.at (label_of c.in_ok-low.low) (label_of c.in_ok-high.high))
    LabelProper
    c.range_of.result (λ ts facts u. c.range_of.ensures.answers) c.range_of.ensures.proper))

pub labels::one_label-typed-requires : goal.labels::one_label-typed-requires
labels::one_label-typed-requires t c =
    (omega (arith, c.decreases), (c.requires.ready, tt))

pub labels::one_label-label_from-requires : goal.labels::one_label-label_from-requires
labels::one_label-label_from-requires t c =
    record {
      ty = (let g = c.in_ok-typed.ensures.grown.length in let h = c.requires.ty in omega (arith, g, h));
      typed = c.in_ok-typed.ensures.fits;
      fixed = typed_fixed c.args.scope.now (λ env. typed env nothing 0 (term_of c.args.tree.now)) c.in_ok-typed.typed c.requires.ready.decls
          c.in_ok-typed.ensures;
    }

pub labels::one_label-returns-in_err-typed : goal.labels::one_label-returns-in_err-typed
labels::one_label-returns-in_err-typed t c =
    let s = c.args.scope.now in
    exits c.in_err-typed.field-0.0 c.from_residual.result c.from_residual.ensures.1
    (stop_as (λ (ts : List Ty). label_of) (λ ts facts. one_label_said (env_of ts facts s) (type_at ts c.args.ty) (term_of c.args.tree.now)) LabelProper
    (λ (ts : List Ty) (facts : Facts) (x : Typed). label_from facts (type_at ts c.args.ty) (Ok x))
    (λ ts facts u. label_by_typed facts (type_at ts c.args.ty) (typed (env_of ts facts s) nothing 0 (term_of c.args.tree.now))) c.in_err-typed.ensures)

pub labels::one_label-returns : goal.labels::one_label-returns
labels::one_label-returns t c =
    let s = c.args.scope.now in
    go_as (λ ts facts. one_label_said (env_of ts facts s) (type_at ts c.args.ty) (term_of c.args.tree.now))
    (λ (ts : List Ty) (facts : Facts) (x : Typed). label_from facts (type_at ts c.args.ty) (Ok x))
    (λ ts facts u. label_by_typed facts (type_at ts c.args.ty) (typed (env_of ts facts s) nothing 0 (term_of c.args.tree.now))) c.in_ok-typed.ensures
    (stays c.typed.new.types (λ (ts : List Ty). label_of) (λ ts facts. label_from facts (type_at ts c.args.ty) (Ok (typed_of ts c.in_ok-typed.typed)))
    LabelProper c.label_from.result
    c.label_from.ensures.answers c.label_from.ensures.proper)

-- ---- written types

pub written::read_type-returns-in-Paren : goal.written::read_type-returns-in-Paren
written::read_type-returns-in-Paren t c =
    let s = c.args.scope.now in
    let is = ap term_of c.in-Paren.is ∙ ap (λ a. term.paren c.in-Paren.at (term_of a)) (sym c.deref.ensures) in
    said_so (λ ts facts. read_type (env_of ts facts s) (term_of c.args.tree.now)) (λ ts facts u. ap (λ k. read_type (env_of ts facts s) k) is)
    c.read_type.ensures

pub written::read_type-returns-in-Name : goal.written::read_type-returns-in-Name
written::read_type-returns-in-Name t c =
    let s = c.args.scope.now in
    let is = ap term_of c.in-Name.is ∙ ap (term.name c.in-Name.at) (sym c.as_slice.ensures) in
    said_so (λ ts facts. read_type (env_of ts facts s) (term_of c.args.tree.now)) (λ ts facts u. ap (λ k. read_type (env_of ts facts s) k) is)
    (stays c.args.types.now type_at (λ ts facts. named_type (env_of ts facts s) c.in-Name.at c.as_slice.result.now) IdWithin c.named_type.result
    (λ ts facts u. c.named_type.ensures.answers ts facts) (c.named_type.ensures.within (length c.args.types.now) c.requires.ready.decls))

pub written::read_type-returns-in-Index : goal.written::read_type-returns-in-Index
written::read_type-returns-in-Index t c =
    let s = c.args.scope.now in
    let is = ap term_of c.in-Index.is ∙ indexed c.in-Index.at c.in-Index.base c.in-Index.parts
    ∙ ap₂ (λ a xs. term.index c.in-Index.at (term_of a) (parts_of xs)) (sym c.deref-in-Index.ensures) (sym c.deref-in-Index-2.ensures.value) in
    said_so (λ ts facts. read_type (env_of ts facts s) (term_of c.args.tree.now)) (λ ts facts u. ap (λ k. read_type (env_of ts facts s) k) is)
    c.bracket_type.ensures

pub written::read_type-returns-in_default : goal.written::read_type-returns-in_default
written::read_type-returns-in_default t c =
    let s = c.args.scope.now in
    refused_here c.args.types.now type_at (λ ts facts. read_type (env_of ts facts s) (term_of c.args.tree.now)) IdWithin NotTyped
    (place_of (term_of c.args.tree.now)) c.no_type.result
    c.no_type.ensures.stop (λ ts facts. read_none (env_of ts facts s) (term_of c.args.tree.now) c.no_type.ensures.none)

pub written::read_type-read_type-requires : goal.written::read_type-read_type-requires
written::read_type-read_type-requires t c =
    let e = ap nodes (ap term_of c.in-Paren.is ∙ ap (λ a. term.paren c.in-Paren.at (term_of a)) (sym c.deref.ensures)) in
    (omega (arith, c.decreases, e), c.requires.ready)

pub written::read_type-bracket_type-requires : goal.written::read_type-bracket_type-requires
written::read_type-bracket_type-requires t c =
    let e = ap nodes (ap term_of c.in-Index.is ∙ indexed c.in-Index.at c.in-Index.base c.in-Index.parts
    ∙ ap₂ (λ a xs. term.index c.in-Index.at (term_of a) (parts_of xs)) (sym c.deref-in-Index.ensures) (sym c.deref-in-Index-2.ensures.value)) in
    (omega (arith, c.decreases, e), c.requires.ready)

pub written::bracket_type-returns-in-Name : goal.written::bracket_type-returns-in-Name
written::bracket_type-returns-in-Name t c =
    let s = c.args.scope.now in
    let is = ap term_of c.in-Name.is ∙ ap (term.name c.in-Name.place) (sym c.as_slice.ensures) in
    said_so (λ ts facts. read_type (env_of ts facts s) (term.index c.args.at (term_of c.args.base.now) (parts_of c.args.given.now)))
    (λ ts facts u. ap (λ k. read_type (env_of ts facts s) (term.index c.args.at k (parts_of c.args.given.now))) is) c.formed.ensures

pub written::bracket_type-returns-in_default : goal.written::bracket_type-returns-in_default
written::bracket_type-returns-in_default t c =
    let s = c.args.scope.now in
    let a = term.index c.args.at (term_of c.args.base.now) (parts_of c.args.given.now) in
    refused_here c.args.types.now type_at
    (λ ts facts. read_type (env_of ts facts s) (term.index c.args.at (term_of c.args.base.now) (parts_of c.args.given.now))) IdWithin NotTyped c.args.at
    c.no_former.result c.no_former.ensures.stop (λ ts facts. read_none (env_of ts facts s) a (c.no_former.ensures.none (parts_of c.args.given.now)))

pub written::bracket_type-formed-requires : goal.written::bracket_type-formed-requires
written::bracket_type-formed-requires t c =
    let e = ap nodes (ap term_of c.in-Name.is) in
    (omega (arith, c.decreases, e), c.requires.ready)

pub written::formed-returns-in_err-name : goal.written::formed-returns-in_err-name
written::formed-returns-in_err-name t c =
    let s = c.args.scope.now in
    let at = c.args.at in
    let x = c.args.text.now in
    let given = parts_of c.args.given.now in
    exits_without type_at (λ ts facts. read_type (env_of ts facts s) (term.index at (term.name c.args.place x) given)) IdWithin
    stop.Memory c.from_residual.result c.from_residual.ensures.1 (grown_same c.args.types.now) refl

pub written::formed-returns-in_err-check_callee : goal.written::formed-returns-in_err-check_callee
written::formed-returns-in_err-check_callee t c =
    let s = c.args.scope.now in
    let at = c.args.at in
    let x = c.args.text.now in
    let given = parts_of c.args.given.now in
    exits c.in_err-check_callee.field-0.0 c.from_residual-in_err-check_callee.result c.from_residual-in_err-check_callee.ensures.1
    (stop_as type_at (λ ts facts. read_type (env_of ts facts s) (term.index at (term.name c.args.place x) given)) IdWithin
    (λ (ts : List Ty) (facts : Facts) (_ : Unit {0}). formed_by (env_of ts facts s) at x given (is_array x && is_pair given))
    (λ ts facts u. formed_chain (env_of ts facts s) at c.args.place x c.as_slice-word.result.now given (c.as_slice-word.ensures ∙ c.in_ok-name.ensures))
    (checked c.args.types.now (λ ts facts. callee_rule (env_of ts facts s) c.args.place c.as_slice-word.result.now) (Err c.in_err-check_callee.field-0.0)
    c.in_err-check_callee.ensures tt))

pub written::formed-read_array-requires : goal.written::formed-read_array-requires
written::formed-read_array-requires t c =
    (omega (arith, c.decreases), c.requires.ready)

pub written::formed-read_types-requires : goal.written::formed-read_types-requires
written::formed-read_types-requires t c =
    (omega (arith, c.decreases), c.requires.ready)

pub written::formed-formed_type-requires : goal.written::formed-formed_type-requires
written::formed-formed_type-requires t c =
    record { given = c.in_ok-ids.ensures.fits }

pub written::formed-returns-then-is_array_type : goal.written::formed-returns-then-is_array_type
written::formed-returns-then-is_array_type t c =
    let s = c.args.scope.now in
    let at = c.args.at in
    let x = c.args.text.now in
    let given = parts_of c.args.given.now in
    let both = c.is_array_type.ensures x (sym (c.as_slice-word.ensures ∙ c.in_ok-name.ensures)) ∙ c.if-is_array_type.true in
    said_from (λ ts facts. read_type (env_of ts facts s) (term.index at (term.name c.args.place x) given))
    (λ ts facts u. formed_so (env_of ts facts s) at c.args.place x c.as_slice-word.result.now given true (c.as_slice-word.ensures ∙ c.in_ok-name.ensures)
    (c.in_ok-check_callee.ensures ts facts) both) c.read_array.ensures

pub written::formed-returns-in_err-ids : goal.written::formed-returns-in_err-ids
written::formed-returns-in_err-ids t c =
    let s = c.args.scope.now in
    let at = c.args.at in
    let x = c.args.text.now in
    let given = parts_of c.args.given.now in
    let both = c.is_array_type.ensures x (sym (c.as_slice-word.ensures ∙ c.in_ok-name.ensures)) ∙ c.if-is_array_type.false in
    exits c.in_err-ids.field-0.0 c.from_residual-in_err-ids.result c.from_residual-in_err-ids.ensures.1
    (stop_as type_at (λ ts facts. read_type (env_of ts facts s) (term.index at (term.name c.args.place x) given)) IdWithin
    (λ (ts : List Ty) (facts : Facts) (us : List Ty). formed_type (env_of ts facts s) at x us)
    (λ ts facts u. formed_so (env_of ts facts s) at c.args.place x c.as_slice-word.result.now given false
    (c.as_slice-word.ensures ∙ c.in_ok-name.ensures) (c.in_ok-check_callee.ensures ts facts) both) c.in_err-ids.ensures)

pub written::formed-returns : goal.written::formed-returns
written::formed-returns t c =
    let s = c.args.scope.now in
    let at = c.args.at in
    let x = c.args.text.now in
    let given = parts_of c.args.given.now in
    let both = c.is_array_type.ensures x (sym (c.as_slice-word.ensures ∙ c.in_ok-name.ensures)) ∙ c.if-is_array_type.false in
    go_as (λ ts facts. read_type (env_of ts facts s) (term.index at (term.name c.args.place x) given))
    (λ (ts : List Ty) (facts : Facts) (us : List Ty). formed_type (env_of ts facts s) at x us)
    (λ ts facts u. formed_so (env_of ts facts s) at c.args.place x c.as_slice-word.result.now given false
    (c.as_slice-word.ensures ∙ c.in_ok-name.ensures) (c.in_ok-check_callee.ensures ts facts) both) c.in_ok-ids.ensures
    (record { grown = c.formed_type.ensures.grown; answers = c.formed_type.ensures.answers; fits = c.formed_type.ensures.within })

pub written::read_array-returns-in-len2 : goal.written::read_array-returns-in-len2
written::read_array-returns-in-len2 t c =
    let s = c.args.scope.now in
    let is = two_items c.args.given.now c.len-item.result c.of-item.result c.len-item.is c.of-item.is (omega arith) in
    said_so (λ ts facts. read_array (env_of ts facts s) c.args.at (parts_of c.args.given.now))
    (λ ts facts u. ap (λ xs. read_array (env_of ts facts s) c.args.at (parts_of xs)) is) c.array_of.ensures

pub written::read_array-returns-in_default : goal.written::read_array-returns-in_default
written::read_array-returns-in_default t c =
    let s = c.args.scope.now in
    let none : nat_eq (length c.args.given.now) 2 ≡ false = grind (arith, nat_tests) in
    refused_here c.args.types.now type_at (λ ts facts. read_array (env_of ts facts s) c.args.at (parts_of c.args.given.now)) IdWithin NotTyped c.args.at
    c.refusal.result
    c.refusal.ensures (λ ts facts. array_none (env_of ts facts s) c.args.at c.args.given.now none)

pub written::read_array-array_of-requires : goal.written::read_array-array_of-requires
written::read_array-array_of-requires t c =
    let is = two_items c.args.given.now c.len-item.result c.of-item.result c.len-item.is c.of-item.is (omega arith) in
    let e = ap (λ xs. nodes_in (parts_of xs)) is in
    (omega (arith, c.decreases, e), c.requires.ready)

pub written::array_of-typed-requires : goal.written::array_of-typed-requires
written::array_of-typed-requires t c =
    (omega (arith, c.decreases), (c.requires.ready, tt))

pub written::array_of-length_from-requires : goal.written::array_of-length_from-requires
written::array_of-length_from-requires t c =
    record {
      typed = c.in_ok-typed.ensures.fits;
      fixed = typed_fixed c.args.scope.now (λ env. typed env nothing 0 (term_of c.args.len.now)) c.in_ok-typed.typed c.requires.ready.decls
          c.in_ok-typed.ensures;
    }

pub written::array_of-read_type-requires : goal.written::array_of-read_type-requires
written::array_of-read_type-requires t c =
    (omega (arith, c.decreases), ready_on c.in_ok-typed.ensures.grown c.requires.ready)

pub written::array_of-array_type-requires : goal.written::array_of-array_type-requires
written::array_of-array_type-requires t c =
    record {
      of = c.in_ok-of.ensures.fits;
      formed = (ready_on c.in_ok-of.ensures.grown (ready_on c.in_ok-typed.ensures.grown c.requires.ready)).formed;
    }

pub written::array_of-returns-in_err-typed : goal.written::array_of-returns-in_err-typed
written::array_of-returns-in_err-typed t c =
    let s = c.args.scope.now in
    let at = c.args.at in
    let l = term_of c.args.len.now in
    let o = term_of c.args.of.now in
    exits c.in_err-typed.field-0.0 c.from_residual.result c.from_residual.ensures.1
    (stops_there type_at (λ (ts : List Ty) (facts : Facts) (y : Typed). array_behind (env_of ts facts s) at o y) IdWithin c.in_err-typed.ensures)

pub written::array_of-returns-in_err-len : goal.written::array_of-returns-in_err-len
written::array_of-returns-in_err-len t c =
    let s = c.args.scope.now in
    let at = c.args.at in
    let l = term_of c.args.len.now in
    let o = term_of c.args.of.now in
    exits c.in_err-len.field-0.0 c.from_residual-in_err-len.result c.from_residual-in_err-len.ensures.1
    (goes_on (λ (ts : List Ty) (facts : Facts) (y : Typed). array_behind (env_of ts facts s) at o y) c.in_ok-typed.ensures
    (stop_as type_at (λ ts facts. array_behind (env_of ts facts s) at o (typed_of ts c.in_ok-typed.typed)) IdWithin
    (λ (ts : List Ty) (facts : Facts) (k : ℤ). and_then (read_type (env_of ts facts s) o) (λ t. array_type (env_of ts facts s) at k t))
    (λ ts facts u. (length_first (env_of ts facts s) at o (typed_of ts c.in_ok-typed.typed)))
    (stays c.typed.new.types (λ (ts : List Ty) (z : ℤ). z) (λ ts facts. and_then (value_of (expr_of ts c.in_ok-typed.typed.expr)) (length_rule facts))
    AnyLength (Err c.in_err-len.field-0.0) c.in_err-len.ensures tt)))

pub written::array_of-returns-in_err-of : goal.written::array_of-returns-in_err-of
written::array_of-returns-in_err-of t c =
    let s = c.args.scope.now in
    let at = c.args.at in
    let l = term_of c.args.len.now in
    let o = term_of c.args.of.now in
    exits c.in_err-of.field-0.0 c.from_residual-in_err-of.result c.from_residual-in_err-of.ensures.1
    (goes_on (λ (ts : List Ty) (facts : Facts) (y : Typed). array_behind (env_of ts facts s) at o y) c.in_ok-typed.ensures
    (go_as (λ ts facts. array_behind (env_of ts facts s) at o (typed_of ts c.in_ok-typed.typed))
    (λ (ts : List Ty) (facts : Facts) (k : ℤ). and_then (read_type (env_of ts facts s) o) (λ t. array_type (env_of ts facts s) at k t))
    (λ ts facts u. (length_first (env_of ts facts s) at o (typed_of ts c.in_ok-typed.typed)))
    (stays c.typed.new.types (λ (ts : List Ty) (z : ℤ). z) (λ ts facts. and_then (value_of (expr_of ts c.in_ok-typed.typed.expr)) (length_rule facts))
    AnyLength (Ok c.in_ok-len.len) c.in_ok-len.ensures tt)
    (stops_there type_at (λ (ts : List Ty) (facts : Facts) (ty : Ty). array_type (env_of ts facts s) at c.in_ok-len.len ty) IdWithin c.in_err-of.ensures)))

pub written::array_of-returns : goal.written::array_of-returns
written::array_of-returns t c =
    let s = c.args.scope.now in
    let at = c.args.at in
    let l = term_of c.args.len.now in
    let o = term_of c.args.of.now in
    let z = to_z-of_z w32 c.in_ok-len.len (record { sfits = search (rules, c.length_from.type_inv, c.in_ok-len.was) }) in
    goes_on (λ (ts : List Ty) (facts : Facts) (y : Typed). array_behind (env_of ts facts s) at o y) c.in_ok-typed.ensures
    (go_as (λ ts facts. array_behind (env_of ts facts s) at o (typed_of ts c.in_ok-typed.typed))
    (λ (ts : List Ty) (facts : Facts) (k : ℤ). and_then (read_type (env_of ts facts s) o) (λ t. array_type (env_of ts facts s) at k t))
    (λ ts facts u. (length_first (env_of ts facts s) at o (typed_of ts c.in_ok-typed.typed)))
    (stays c.typed.new.types (λ (ts : List Ty) (z : ℤ). z) (λ ts facts. and_then (value_of (expr_of ts c.in_ok-typed.typed.expr)) (length_rule facts))
    AnyLength (Ok c.in_ok-len.len) c.in_ok-len.ensures tt)
    (goes_on (λ (ts : List Ty) (facts : Facts) (ty : Ty). array_type (env_of ts facts s) at c.in_ok-len.len ty) c.in_ok-of.ensures
    (record {
      grown = c.array_type.ensures.grown;
      answers = λ ts facts u. subst (λ k. Answers (type_at ts) (array_type (env_of ts facts s) at k (type_at ts c.in_ok-of.of)) c.array_type.result) z
          (c.array_type.ensures.answers ts facts u);
      fits = c.array_type.ensures.within;
    })))

pub written::read_types-loop-part-init : goal.written::read_types-loop-part-init
written::read_types-loop-part-init t c =
    let s = c.args.scope.now in
    record {
      yet = yet_first c.args.types.now (λ ts facts. read_types (env_of ts facts s) (parts_of c.args.given.now))
          (λ ts facts. types_said (env_of ts facts s) (map (type_at ts) c.new-ids.result.items) (parts_of c.args.given.now))
          (λ ts facts u. types_first (env_of ts facts s) (parts_of c.args.given.now)
          ∙ ap (λ xs. types_said (env_of ts facts s) (map (type_at ts) xs) (parts_of c.args.given.now)) (sym c.new-ids.ensures.items));
      within = subst (AllBelow (length c.args.types.now)) (sym c.new-ids.ensures.items) tt;
    }

pub written::read_types-read_type-requires : goal.written::read_types-read_type-requires
written::read_types-read_type-requires t c =
    let at = c.loop-part in
    let e = next_item c.args.given.now at.part-index c.part-item.result c.part-item.is c.loop-part-test.true in
    let l = part_light c.args.given.now at.part-index c.part-item.result e in
    (omega (arith, c.decreases, l), ready_on at.invariant.yet.grown c.requires.ready)

pub written::read_types-returns-in_err-id : goal.written::read_types-returns-in_err-id
written::read_types-returns-in_err-id t c =
    let s = c.args.scope.now in
    let at = c.loop-part in
    let x = c.part-item.result in
    let e = next_item c.args.given.now at.part-index x c.part-item.is c.loop-part-test.true in
    let more = parts_of (drop (at.part-index + 1) c.args.given.now) in
    exits c.in_err-id.field-0.0 c.from_residual.result c.from_residual.ensures.1
    (yet_stops ids_of IdsWithin
    (λ (ts : List Ty) (facts : Facts) (t : Ty). types_said (env_of ts facts s) (map (type_at ts) at.ids.items ++ t ∷ []) more) at.invariant.yet
    (λ ts facts. ap (λ l. types_said (env_of ts facts s) (map (type_at ts) at.ids.items) (parts_of l)) e
    ∙ types_next (env_of ts facts s) (map (type_at ts) at.ids.items) (term_of x) more) c.in_err-id.ensures)

pub written::read_types-returns-in_err-push : goal.written::read_types-returns-in_err-push
written::read_types-returns-in_err-push t c =
    let s = c.args.scope.now in
    exits_without ids_of (λ ts facts. read_types (env_of ts facts s) (parts_of c.args.given.now)) IdsWithin stop.Memory c.from_residual-in_err-push.result
    c.from_residual-in_err-push.ensures.1
    (grown_on c.loop-part.invariant.yet.grown c.in_ok-id.ensures.grown) refl

pub written::read_types-loop-part-preserved : goal.written::read_types-loop-part-preserved
written::read_types-loop-part-preserved t c =
    let s = c.args.scope.now in
    let at = c.loop-part in
    let x = c.part-item.result in
    let e = next_item c.args.given.now at.part-index x c.part-item.is c.loop-part-test.true in
    let more = parts_of (drop (at.part-index + 1) c.args.given.now) in
    let j = c.in_ok-id.ensures in
    record {
      yet = yet_goes
          (λ (ts : List Ty) (facts : Facts) (t : Ty). types_said (env_of ts facts s) (map (type_at ts) at.ids.items ++ t ∷ []) more)
          (λ ts facts. types_said (env_of ts facts s) (map (type_at ts) c.push.new.self.items) more) at.invariant.yet
          (λ ts facts. ap (λ l. types_said (env_of ts facts s) (map (type_at ts) at.ids.items) (parts_of l)) e
          ∙ types_next (env_of ts facts s) (map (type_at ts) at.ids.items) (term_of x) more) j
          (λ ts facts u. ap (λ before. types_said (env_of ts facts s) before more)
          (sym (map_push (type_at ts) at.ids.items c.in_ok-id.id) ∙ ap (map (type_at ts)) (sym c.in_ok-push.ensures.items)));
      within = subst (AllBelow (length c.read_type.new.types)) (sym c.in_ok-push.ensures.items)
          (ids_and at.ids.items c.in_ok-id.id (all_below_more j.grown.length at.ids.items at.invariant.within) j.fits);
    }

pub written::read_types-returns : goal.written::read_types-returns
written::read_types-returns t c =
    let s = c.args.scope.now in
    let at = c.loop-part in
    let e = none_left c.args.given.now at.part-index (omega (arith, c.loop-part-test.false)) in
    yet_ends ids_of IdsWithin at.ids at.invariant.yet
    (λ ts facts. ap (λ l. types_said (env_of ts facts s) (map (type_at ts) at.ids.items) (parts_of l)) e ∙ types_last (env_of ts facts s)
    (map (type_at ts) at.ids.items)) at.invariant.within
