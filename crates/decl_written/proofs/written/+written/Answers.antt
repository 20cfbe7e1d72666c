use Rattle.std.proofs.Common.{◌≡◌, ℕ, ◌+◌, List, ◌∷◌, ◌++◌, [], Vec, Global, ap, ap₂, sym, subst, ◌∙◌, drop, arith, rules, length}
use Rattle.std.proofs.Common.{to_z, of_z, w32}
use Rattle.std.proofs.lemmas.List.{map-append}
use Rattle.std.proofs.Common.{to_z-of_z as ranged}
use Rattle.std.proofs.lemmas.Int.{to_z-of_z}
use Rattle.std.specs.Prelude.{ℤ, map, Ok, Err}
use Rattle.arc_base.specs.Refusal.{and_then, Answers}
use Rattle.indent_scanner.specs.Words.{normal}
use Rattle.nim_tree.specs.Terms.{term_of}
use Rattle.nim_tree.specs.Types as written
use Rattle.nim_tree.specs.Types.{Fields, written_of, arguments_of, argument_nodes, fields_of, field_nodes, arguments_in, fields_in}
use Rattle.nim_types.specs.Types.{Ty}
use Rattle.nim_types.specs.Table.{type_at, types_at, AllBelow}
use Rattle.nim_types.proofs.ForCallers.{all_more}
use Rattle.expr_rules.specs.Names.{callee_rule, array_type}
use Rattle.expr_parts.specs.View.{env_of}
use Rattle.expr_parts.proofs.ForCallers.{grown_on, grown_same, answers_as, stops, next_item, none_left}
use Rattle.decl_rules.specs.Values.{length_value}
use Rattle.decl_rules.specs.Written.{Spelled, at_once, spelled, all_spelled, spelled_as, named_by, array_rule, parts_spelled, tuple_of, formed_rule}
use Rattle.decl_rules.specs.Written.{field_names_rule}
use Rattle.expr_parts.proofs.ForCallers.{ids_and, ready_on}
use Rattle.decl_written.specs.ViewWritten.{at_once_of, tuple_in, normal_names, HasNamesBehind, PartsLeft}
use Rattle.decl_written.proofs.NameSets.{no_names}
use Rattle.decl_written.proofs.AtOnce.{then_ok, array_once, tuple_once, front, none_before, one_before, all_before}
use Rattle.decl_written.proofs.AtOnce.{below_each, on_ok, if_err, group_done, names_refused, type_refused, no_parts_yet, all_parts}
use Rattle.decl_written.proofs.written.+written.Goals as goal

-- ---- names

pub named-returns-in-Ok-clause-answers : goal.named-returns-in-Ok-clause-answers
named-returns-in-Ok-clause-answers t c = λ ts facts u.
    let env = env_of ts facts c.args.scope.now in
    let at = c.args.at in
    let x = c.args.text.now in
    let all = all_spelled at_once env (arguments_of c.args.arguments.now) in
    let name : c.as_slice.result.now ≡ normal x = c.as_slice.ensures ∙ c.in_ok-name.ensures in
    let callee : callee_rule env at (normal x) ≡ Ok tt = subst (λ y. callee_rule env at y ≡ Ok tt) name (c.in-Ok.ensures ts facts) in
    answers_as (at_once_of ts) (and_then (callee_rule env at (normal x)) (λ _. and_then all (λ given. named_by env at x given)))
    (and_then all (named_by env at x)) c.applied.result
    (ap (λ z. and_then z (λ _. and_then all (λ given. named_by env at x given))) callee) (c.applied.ensures.answers ts facts u)

pub named-returns-clause-answers : goal.named-returns-clause-answers
named-returns-clause-answers t c = λ ts facts u.
    let env = env_of ts facts c.args.scope.now in
    let at = c.args.at in
    let x = c.args.text.now in
    let all = all_spelled at_once env (arguments_of c.args.arguments.now) in
    let name : c.as_slice.result.now ≡ normal x = c.as_slice.ensures ∙ c.in_ok-name.ensures in
    subst (λ y. Answers (at_once_of ts) (and_then (callee_rule env at y) (λ _. and_then all (λ given. named_by env at x given))) (Err c.in-Err.stop)) name
    (stops (at_once_of ts) (λ (_ : Unit {0}). tt) (callee_rule env at c.as_slice.result.now) (λ _. and_then all (λ given. named_by env at x given))
    c.in-Err.stop (c.in-Err.ensures ts facts))

pub applied-by_name-requires-clause-ready : goal.applied-by_name-requires-clause-ready
applied-by_name-requires-clause-ready t c = ready_on c.given.ensures.grown c.requires.ready

pub applied-returns-in-Ok-clause-grown : goal.applied-returns-in-Ok-clause-grown
applied-returns-in-Ok-clause-grown t c = grown_on c.given.ensures.grown c.by_name.ensures.grown

pub applied-returns-in-Ok-clause-answers : goal.applied-returns-in-Ok-clause-answers
applied-returns-in-Ok-clause-answers t c = λ ts facts u.
    let env = env_of ts facts c.args.scope.now in
    let all = all_spelled at_once env (arguments_of c.args.arguments.now) in
    let go = named_by env c.args.at c.args.text.now in
    answers_as (at_once_of ts) (and_then all go) (go (map (at_once_of ts) c.in-Ok.given.items)) c.by_name.result
    (ap (λ z. and_then z go) (c.in-Ok.ensures.answers ts facts (c.by_name.ensures.grown.under ts facts u))) (c.by_name.ensures.answers ts facts u)

pub applied-returns-in-Err-clause-answers : goal.applied-returns-in-Err-clause-answers
applied-returns-in-Err-clause-answers t c = λ ts facts u.
    let env = env_of ts facts c.args.scope.now in
    stops (at_once_of ts) (λ (ids : Vec ℕ Global). map (at_once_of ts) ids.items) (all_spelled at_once env (arguments_of c.args.arguments.now))
    (named_by env c.args.at c.args.text.now) c.in-Err.stop (c.in-Err.ensures.answers ts facts u)

-- ---- types in brackets

pub given-loop-argument-init : goal.given-loop-argument-init
given-loop-argument-init t c = record {
  light = omega arith;
  grown = grown_same c.args.types.now;
  ready = c.requires.ready;
  within = subst (AllBelow (length c.args.types.now)) (sym c.new-ids.ensures.items) tt;
  left = λ ts facts u.
      let all = all_spelled at_once (env_of ts facts c.args.scope.now) (arguments_of c.args.arguments.now) in
      none_before all ∙ ap (λ is. front (map (at_once_of ts) is) all) (sym c.new-ids.ensures.items);
}

pub given-returns-in_err-push-in-Ok-clause-grown : goal.given-returns-in_err-push-in-Ok-clause-grown
given-returns-in_err-push-in-Ok-clause-grown t c = grown_on c.loop-argument.invariant.grown c.spelled.ensures.grown

pub given-returns-in-Err-clause-grown : goal.given-returns-in-Err-clause-grown
given-returns-in-Err-clause-grown t c = grown_on c.loop-argument.invariant.grown c.spelled.ensures.grown

pub given-returns-in-Err-clause-answers : goal.given-returns-in-Err-clause-answers
given-returns-in-Err-clause-answers t c = λ ts facts u.
    let at = c.loop-argument in
    let env = env_of ts facts c.args.scope.now in
    let x = c.argument-item.result in
    let rest = drop (at.argument-index + 1) c.args.arguments.now in
    let e = next_item c.args.arguments.now at.argument-index x c.argument-item.is c.loop-argument-test.true in
    let done = map (at_once_of ts) at.ids.items in
    let said = spelled at_once env (written_of x) in
    let go = λ (s : Spelled). and_then (all_spelled at_once env (arguments_of rest)) (λ more. Ok (s ∷ more)) in
    answers_as (λ (ids : Vec ℕ Global). map (at_once_of ts) ids.items) (all_spelled at_once env (arguments_of c.args.arguments.now))
    (front done (and_then said go))
    (Err c.in-Err.stop)
    (at.invariant.left ts facts (c.spelled.ensures.grown.under ts facts u) ∙ ap (λ l. front done (all_spelled at_once env (arguments_of l))) e)
    (stops (λ (ids : Vec ℕ Global). map (at_once_of ts) ids.items) (λ (s : List Spelled). s) (and_then said go) (λ more. Ok (done ++ more)) c.in-Err.stop
    (stops (λ (s : List Spelled). s) (at_once_of ts) said go c.in-Err.stop (c.in-Err.ensures.answers ts facts u)))

pub given-loop-argument-preserved : goal.given-loop-argument-preserved
given-loop-argument-preserved t c =
    let at = c.loop-argument in
    let x = c.argument-item.result in
    let rest = drop (at.argument-index + 1) c.args.arguments.now in
    let e = next_item c.args.arguments.now at.argument-index x c.argument-item.is c.loop-argument-test.true in
    let w = ap (λ l. argument_nodes (arguments_of l)) e in
    let g = c.spelled.ensures.grown in
    let pushed = c.in_ok-push-in-Ok.ensures.items in
    let n = length c.spelled.new.types in
    record {
      light = omega (arith, w, at.invariant.light);
      grown = grown_on at.invariant.grown g;
      ready = ready_on g at.invariant.ready;
      within = subst (λ is. AllBelow n is) (sym pushed)
          (ids_and at.ids.items c.in-Ok.id (all_more (length at.types) n at.ids.items g.length at.invariant.within) c.in-Ok.ensures.within);
      left = λ ts facts u.
          let env = env_of ts facts c.args.scope.now in
          let done = map (at_once_of ts) at.ids.items in
          let behind = all_spelled at_once env (arguments_of rest) in
          at.invariant.left ts facts (g.under ts facts u) ∙ ap (λ l. front done (all_spelled at_once env (arguments_of l))) e
          ∙ ap (λ z. front done (and_then z (λ s. and_then behind (λ more. Ok (s ∷ more))))) (c.in-Ok.ensures.answers ts facts u)
          ∙ one_before done (at_once_of ts c.in-Ok.id) behind
          ∙ ap (λ d. front d behind) (sym (ap (map (at_once_of ts)) pushed ∙ map-append (at_once_of ts) at.ids.items (c.in-Ok.id ∷ [])));
    }

pub given-returns-clause-answers : goal.given-returns-clause-answers
given-returns-clause-answers t c = λ ts facts u.
    let at = c.loop-argument in
    let env = env_of ts facts c.args.scope.now in
    let done = map (at_once_of ts) at.ids.items in
    let none = none_left c.args.arguments.now at.argument-index (omega (arith, c.loop-argument-test.false)) in
    at.invariant.left ts facts u ∙ ap (λ l. front done (all_spelled at_once env (arguments_of l))) none ∙ all_before done

-- ---- arrays

pub array-array_of-requires : goal.array-array_of-requires
array-array_of-requires t c = (omega arith, ready_on c.length_value.ensures.grown c.requires.ready)

pub array-returns-in-Ok-clause-grown : goal.array-returns-in-Ok-clause-grown
array-returns-in-Ok-clause-grown t c = grown_on c.length_value.ensures.grown c.array_of.ensures.grown

pub array-returns-in-Ok-clause-answers : goal.array-returns-in-Ok-clause-answers
array-returns-in-Ok-clause-answers t c = λ ts facts u.
    let env = env_of ts facts c.args.scope.now in
    let at = c.args.at in
    let go = λ (k : ℤ). and_then (spelled at_once env (written_of c.args.element.now)) (array_rule at_once env at k) in
    let same = to_z-of_z w32 c.in-Ok.len (record { sfits = search (rules, c.length_value.type_inv, c.in-Ok.is) }) in
    answers_as (at_once_of ts) (and_then (length_value env (term_of c.args.count.now)) go) (go (to_z w32 (of_z w32 c.in-Ok.len))) c.array_of.result
    (ap (λ z. and_then z go) (c.in-Ok.ensures.answers ts facts (c.array_of.ensures.grown.under ts facts u)) ∙ ap go (sym same))
    (c.array_of.ensures.answers ts facts u)

pub array-returns-in-Err-clause-answers : goal.array-returns-in-Err-clause-answers
array-returns-in-Err-clause-answers t c = λ ts facts u.
    let env = env_of ts facts c.args.scope.now in
    let at = c.args.at in
    let go = λ (k : ℤ). and_then (spelled at_once env (written_of c.args.element.now)) (λ e. array_rule at_once env at k e) in
    stops (at_once_of ts) (λ (k : ℤ). k) (length_value env (term_of c.args.count.now)) go c.in-Err.stop (c.in-Err.ensures.answers ts facts u)

pub array_of-array_type-requires-clause-formed : goal.array_of-array_type-requires-clause-formed
array_of-array_type-requires-clause-formed t c = c.spelled.ensures.grown.formed c.requires.ready.formed

pub array_of-returns-in-Ok-clause-grown : goal.array_of-returns-in-Ok-clause-grown
array_of-returns-in-Ok-clause-grown t c = grown_on c.spelled.ensures.grown c.array_type.ensures.grown

pub array_of-returns-in-Ok-clause-answers : goal.array_of-returns-in-Ok-clause-answers
array_of-returns-in-Ok-clause-answers t c = λ ts facts u.
    let env = env_of ts facts c.args.scope.now in
    let at = c.args.at in
    let k = c.args.len in
    let go = array_rule at_once env at k in
    let said = spelled at_once env (written_of c.args.element.now) in
    let of = at_once_of ts c.in-Ok.of in
    let again = to_z w32 (of_z w32 k) in
    answers_as (at_once_of ts) (and_then said go) (and_then (array_type env at again of.of) (λ ty. Ok (spelled_as ty []))) c.array_type.result
    (ap (λ z. and_then z go) (c.in-Ok.ensures.answers ts facts (c.array_type.ensures.grown.under ts facts u)) ∙ array_once env at k of
    ∙ ap (λ z. and_then (array_type env at z of.of) (λ ty. Ok (spelled_as ty []))) (sym (ranged c.ranges.len)))
    (then_ok (type_at ts) (λ ty. spelled_as ty []) (array_type env at again of.of) c.array_type.result (c.array_type.ensures.answers ts facts u))

pub array_of-returns-in-Err-clause-answers : goal.array_of-returns-in-Err-clause-answers
array_of-returns-in-Err-clause-answers t c = λ ts facts u.
    let env = env_of ts facts c.args.scope.now in
    stops (at_once_of ts) (at_once_of ts) (spelled at_once env (written_of c.args.element.now)) (array_rule at_once env c.args.at c.args.len) c.in-Err.stop
    (c.in-Err.ensures.answers ts facts u)

-- ---- tuples

pub tuple-tuple_type-requires-clause-formed : goal.tuple-tuple_type-requires-clause-formed
tuple-tuple_type-requires-clause-formed t c = c.parts.ensures.grown.formed c.requires.ready.formed

pub tuple-returns-in-Ok-clause-grown : goal.tuple-returns-in-Ok-clause-grown
tuple-returns-in-Ok-clause-grown t c = grown_on c.parts.ensures.grown c.tuple_type.ensures.grown

pub tuple-returns-in-Ok-clause-answers : goal.tuple-returns-in-Ok-clause-answers
tuple-returns-in-Ok-clause-answers t c = λ ts facts u.
    let env = env_of ts facts c.args.scope.now in
    let at = c.args.at in
    let inside = fields_of c.args.fields.now in
    let go = λ (ty : Ty). formed_rule at_once facts at ty [] in
    answers_as (at_once_of ts) (spelled at_once env (written.tuple_of at inside)) (go (tuple_in ts c.in-Ok.parts)) c.tuple_type.result
    (tuple_once env at inside ∙ ap (λ z. and_then z go) (c.in-Ok.ensures.answers ts facts (c.tuple_type.ensures.grown.under ts facts u)))
    (c.tuple_type.ensures.answers ts facts u)

pub tuple-returns-in-Err-clause-answers : goal.tuple-returns-in-Err-clause-answers
tuple-returns-in-Err-clause-answers t c = λ ts facts u.
    let env = env_of ts facts c.args.scope.now in
    let at = c.args.at in
    let inside = fields_of c.args.fields.now in
    let said = and_then (parts_spelled at_once env [] inside) (λ all. Ok (tuple_of all.parts)) in
    let go = λ (ty : Ty). formed_rule at_once facts at ty [] in
    answers_as (at_once_of ts) (spelled at_once env (written.tuple_of at inside)) (and_then said go) (Err c.in-Err.stop) (tuple_once env at inside)
    (stops (at_once_of ts) (tuple_in ts) said go c.in-Err.stop (c.in-Err.ensures.answers ts facts u))

-- ---- parts of tuples

pub parts-loop-field-init : goal.parts-loop-field-init
parts-loop-field-init t c = record {
  light = omega arith;
  grown = grown_same c.args.types.now;
  ready = c.requires.ready;
  within = subst (AllBelow (length c.args.types.now)) (sym c.new-2.ensures) tt;
  left = (
    [],
    no_names c.new-seen.result c.new-seen.ensures.empty,
    λ ts facts u.
        let all = parts_spelled at_once (env_of ts facts c.args.scope.now) [] (fields_of c.args.fields.now) in
        no_parts_yet all ∙ ap₂ (λ ns is. PartsLeft ns (types_at ts is) all) (sym c.new.ensures) (sym c.new-2.ensures),
  );
}

pub parts-loop-field-preserved : goal.parts-loop-field-preserved
parts-loop-field-preserved t c =
    let at = c.loop-field in
    let x = c.field-item.result in
    let rest = drop (at.field-index + 1) c.args.fields.now in
    let e = next_item c.args.fields.now at.field-index x c.field-item.is c.loop-field-test.true in
    let nodes = ap (λ l. field_nodes (fields_of l)) e in
    let w = at.invariant.left in
    let g = c.in-Ok.ensures.done w.0 w.1 in
    record {
      light = omega (arith, nodes, at.invariant.light);
      grown = grown_on at.invariant.grown c.group.ensures.grown;
      ready = ready_on c.group.ensures.grown at.invariant.ready;
      within = c.in-Ok.ensures.within;
      left = (
        g.0,
        g.1,
        λ ts facts u.
            let env = env_of ts facts c.args.scope.now in
            w.2 ts facts (c.group.ensures.grown.under ts facts u)
            ∙ ap (λ l. PartsLeft at.parts.names (types_at ts at.parts.types) (parts_spelled at_once env w.0 (fields_of l))) e
            ∙ g.2 ts facts u (fields_of rest),
      );
    }

pub parts-returns-in-Err-clause-grown : goal.parts-returns-in-Err-clause-grown
parts-returns-in-Err-clause-grown t c = grown_on c.loop-field.invariant.grown c.group.ensures.grown

pub parts-returns-in-Err-clause-answers : goal.parts-returns-in-Err-clause-answers
parts-returns-in-Err-clause-answers t c = λ ts facts u.
    let at = c.loop-field in
    let env = env_of ts facts c.args.scope.now in
    let x = c.field-item.result in
    let rest = drop (at.field-index + 1) c.args.fields.now in
    let e = next_item c.args.fields.now at.field-index x c.field-item.is c.loop-field-test.true in
    let w = at.invariant.left in
    let left = λ (l : Fields). PartsLeft at.parts.names (types_at ts at.parts.types) (parts_spelled at_once env w.0 l) in
    answers_as (tuple_in ts) (and_then (parts_spelled at_once env [] (fields_of c.args.fields.now)) (λ all. Ok (tuple_of all.parts)))
    (left (fields_of (x ∷ rest))) (Err c.in-Err.stop)
    (w.2 ts facts (c.group.ensures.grown.under ts facts u) ∙ ap (λ l. left (fields_of l)) e)
    (c.in-Err.ensures.refused w.0 w.1 ts facts u (fields_of rest))

pub parts-returns-clause-answers : goal.parts-returns-clause-answers
parts-returns-clause-answers t c = λ ts facts u.
    let at = c.loop-field in
    let env = env_of ts facts c.args.scope.now in
    let w = at.invariant.left in
    let none = none_left c.args.fields.now at.field-index (omega (arith, c.loop-field-test.false)) in
    w.2 ts facts u
    ∙ ap (λ l. PartsLeft at.parts.names (types_at ts at.parts.types) (parts_spelled at_once env w.0 (fields_of l))) none
    ∙ all_parts at.parts.names (types_at ts at.parts.types)

-- ---- groups of fields

pub group-returns-in-Ok-clause-done : goal.group-returns-in-Ok-clause-done
group-returns-in-Ok-clause-done t c = on_ok c.group_type.result c.group_type.ensures.done (λ d before h.
    let names = c.args.parts.now.names in
    let is = c.args.parts.now.types in
    let group = c.args.field.now.names.items in
    let as_items : c.as_slice.result.now ≡ group = c.as_slice.ensures.value in
    let s = subst (λ ds. HasNamesBehind c.new_names.new.seen before ds) as_items (c.in-Ok.ensures.seen before h) in
    let more : c.new_names.new.names ≡ names ++ normal_names group = subst
    (λ ds. c.new_names.new.names ≡ names ++ normal_names ds) as_items c.in-Ok.ensures.names in (
      s.0,
      s.2,
      λ ts facts u rest.
          let env = env_of ts facts c.args.scope.now in
          group_done ts env names before s.0 is group (written_of c.args.field.now.of) rest d.0 s.1 (d.2 ts facts u)
          ∙ ap₂ (λ ns js. PartsLeft ns (types_at ts js) (parts_spelled at_once env s.0 rest)) (sym more) (sym d.1),
    ))

pub group-returns-in-Ok-clause-refused : goal.group-returns-in-Ok-clause-refused
group-returns-in-Ok-clause-refused t c = if_err c.group_type.result c.group_type.ensures.refused (λ stop r before h ts facts u rest.
    let env = env_of ts facts c.args.scope.now in
    let group = c.args.field.now.names.items in
    let s = subst (λ ds. HasNamesBehind c.new_names.new.seen before ds) c.as_slice.ensures.value (c.in-Ok.ensures.seen before h) in
    type_refused (tuple_in ts) env c.args.parts.now.names before s.0 ts (types_at ts c.args.parts.now.types) group
    (written_of c.args.field.now.of) rest stop s.1 (r ts facts u))

pub group-returns-in-Err-clause-refused : goal.group-returns-in-Err-clause-refused
group-returns-in-Err-clause-refused t c = λ before h ts facts u rest.
    let env = env_of ts facts c.args.scope.now in
    let group = c.args.field.now.names.items in
    let said = subst (λ ds. Answers {A = Unit {0}} (λ (_ : Unit {0}). tt) (and_then (field_names_rule before ds) (λ _. Ok tt)) (Err c.in-Err.stop))
    c.as_slice.ensures.value (c.in-Err.ensures.answers before h) in
    names_refused (tuple_in ts) env c.args.parts.now.names before (types_at ts c.args.parts.now.types) group (written_of c.args.field.now.of) rest
    c.in-Err.stop said

pub group_type-returns-in_ok-push_all-in-Ok-clause-done : goal.group_type-returns-in_ok-push_all-in-Ok-clause-done
group_type-returns-in_ok-push_all-in-Ok-clause-done t c =
    let id = c.in-Ok.id in (
      id,
      c.in_ok-push_all-in-Ok.ensures ∙ ap (λ ds. c.args.given.now ++ map (λ _. id) ds) c.as_slice.ensures.value,
      λ ts facts u. c.in-Ok.ensures.answers ts facts u,
    )

pub group_type-returns-in_ok-push_all-in-Ok-clause-within : goal.group_type-returns-in_ok-push_all-in-Ok-clause-within
group_type-returns-in_ok-push_all-in-Ok-clause-within t c =
    let n = length c.spelled.new.types in
    let is = c.args.given.now in
    subst (λ js. AllBelow n js) (sym c.in_ok-push_all-in-Ok.ensures)
    (below_each n c.in-Ok.id is c.as_slice.result.now (all_more (length c.args.types.now) n is c.spelled.ensures.grown.length c.requires.within)
    c.in-Ok.ensures.within)

-- ---- types

pub spelled-returns-in-Named-clause-answers : goal.spelled-returns-in-Named-clause-answers
spelled-returns-in-Named-clause-answers t c = λ ts facts u.
    let env = env_of ts facts c.args.scope.now in
    let tree = written_of c.args.tree.now in
    answers_as (at_once_of ts) (spelled at_once env tree)
    (spelled at_once env (written.named c.in-Named.at c.as_slice.result.now (arguments_of c.arguments.result.now))) c.named.result
    (ap (spelled at_once env) (ap written_of c.in-Named.is
    ∙ ap₂ (λ x given. written.named c.in-Named.at x given) (sym c.as_slice.ensures)
    (sym (c.arguments.ensures ∙ ap (λ w. arguments_in (written_of w)) c.in-Named.is))))
    (c.named.ensures.answers ts facts u)

pub spelled-returns-in-Tuple-clause-answers : goal.spelled-returns-in-Tuple-clause-answers
spelled-returns-in-Tuple-clause-answers t c = λ ts facts u.
    let env = env_of ts facts c.args.scope.now in
    let tree = written_of c.args.tree.now in
    answers_as (at_once_of ts) (spelled at_once env tree)
    (spelled at_once env (written.tuple_of c.in-Tuple.at (fields_of c.fields.result.now))) c.tuple.result
    (ap (spelled at_once env) (ap written_of c.in-Tuple.is
    ∙ ap (written.tuple_of c.in-Tuple.at) (sym (c.fields.ensures ∙ ap (λ w. fields_in (written_of w)) c.in-Tuple.is))))
    (c.tuple.ensures.answers ts facts u)

pub spelled-returns-in-Array-clause-answers : goal.spelled-returns-in-Array-clause-answers
spelled-returns-in-Array-clause-answers t c = λ ts facts u.
    let env = env_of ts facts c.args.scope.now in
    let tree = written_of c.args.tree.now in
    answers_as (at_once_of ts) (spelled at_once env tree)
    (spelled at_once env (written.array c.in-Array.at (term_of c.in-Array.length) (written_of c.deref.result.now))) c.array.result
    (ap (spelled at_once env) (ap written_of c.in-Array.is
    ∙ ap (λ e. written.array c.in-Array.at (term_of c.in-Array.length) (written_of e)) (sym c.deref.ensures)))
    (c.array.ensures.answers ts facts u)
