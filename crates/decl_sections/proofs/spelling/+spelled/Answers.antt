use Rattle.std.proofs.Common.{length-append}
use Rattle.std.proofs.lemmas.List.{length-map}
use Rattle.std.proofs.Common.{◌≡◌, ℕ, ◌+◌, List, ◌∷◌, ◌++◌, [], refl, ap, ap₂, sym, subst, ◌∙◌, drop, arith, rules, length, to_z}
use Rattle.std.proofs.Common.{of_z, w32}
use Rattle.std.proofs.Common.{to_z-of_z as ranged}
use Rattle.std.proofs.lemmas.Int.{to_z-of_z}
use Rattle.std.specs.Prelude.{ℤ, map, codes, Ok, Err}
use Rattle.std.proofs.lemmas.Result.{err_from_is_err_and}
use Rattle.arc_base.specs.Refusal.{and_then, Answers}
use Rattle.arc_base.specs.declared.place.Code.TheVariants.{LeftOut}
use Rattle.indent_scanner.specs.Words.{normal}
use Rattle.nim_tree.specs.Terms.{term_of}
use Rattle.nim_tree.specs.Types as written
use Rattle.nim_tree.specs.Types.{written_of, arguments_of, argument_nodes, fields_of, field_nodes, arguments_in, fields_in}
use Rattle.nim_types.specs.Types as type
use Rattle.nim_types.specs.Table.{type_at, types_at, AllBelow}
use Rattle.nim_types.proofs.ForCallers.{all_more}
use Rattle.expr_rules.specs.Answers.{Answer}
use Rattle.expr_rules.specs.Names.{callee_rule, array_by}
use Rattle.expr_rules.specs.Demands.{former_of}
use Rattle.expr_parts.specs.View.{env_of}
use Rattle.expr_parts.proofs.ForCallers.{grown_on, grown_same, answers_as, stops, refuses, next_item, none_left}
use Rattle.decl_rules.specs.Values.{length_value}
use Rattle.decl_rules.specs.Written.{Spelled, later, spelled, all_spelled, named_by, array_rule, parts_spelled}
use Rattle.decl_rules.specs.Written.{field_names_rule, Parted, parts_behind}
use Rattle.expr_parts.proofs.ForCallers.{ready_on}
use Rattle.decl_written.specs.ViewWritten.{normal_names, HasNamesBehind}
use Rattle.decl_written.proofs.ForCallers.{no_names, below_each, stops_first}
use Rattle.expr_parts.proofs.ForCallers.{ids_and}
use Rattle.decl_types.specs.ViewNodes.{node_types, names_env_of}
use Rattle.decl_sections.specs.ViewSpelled.{formed_since, one_in, IsNode, given_as, given_in, AreNodes, all_given, named_with}
use Rattle.decl_sections.specs.ViewSpelled.{parts_in, part_count, ArePartNodes, all_parted}
use Rattle.decl_sections.proofs.Noding.{further_same, further_on, further_count, formed_none, then_adds, spells_stops, spells_as, spells_behind, spells_err}
use Rattle.decl_sections.proofs.Noding.{spells_forgets}
use Rattle.decl_sections.proofs.Seeing.{callee_alike}
use Rattle.decl_sections.proofs.Listing.{front_given, given_start, given_end, given_now, given_next, front_parts, parts_start, parts_end, parts_are, parts_now}
use Rattle.decl_sections.proofs.Listing.{parts_next}
use Rattle.decl_sections.proofs.Productions.{named_follows, named_whole, named_stops, array_again, tuple_follows, tuple_whole, tuple_stops, given_stops}
use Rattle.decl_sections.proofs.Productions.{parts_stops}
use Rattle.decl_sections.proofs.spelling.+spelled.Goals as goal

-- ---- types

pub spelled-returns-in-Named : goal.spelled-returns-in-Named
spelled-returns-in-Named t c =
    let tree = written_of c.args.tree.now in
    spells_as (λ sizing env. spelled sizing env tree) c.named.ensures (λ ts facts before keys u.
    ap (spelled (later (env_of ts facts c.args.scope.now)) (names_env_of ts before keys c.args.names.now c.args.scope.now)) (ap written_of c.in-Named.is
    ∙ ap₂ (λ x given. written.named c.in-Named.at x given) (sym c.as_slice.ensures)
    (sym (c.arguments.ensures ∙ ap (λ w. arguments_in (written_of w)) c.in-Named.is))))

pub spelled-returns-in-Array : goal.spelled-returns-in-Array
spelled-returns-in-Array t c =
    let tree = written_of c.args.tree.now in
    spells_as (λ sizing env. spelled sizing env tree) c.array.ensures (λ ts facts before keys u.
    ap (spelled (later (env_of ts facts c.args.scope.now)) (names_env_of ts before keys c.args.names.now c.args.scope.now)) (ap written_of c.in-Array.is
    ∙ ap (λ e. written.array c.in-Array.at (term_of c.in-Array.length) (written_of e)) (sym c.deref.ensures)))

pub spelled-returns-in-Ref : goal.spelled-returns-in-Ref
spelled-returns-in-Ref t c =
    let tree = written_of c.args.tree.now in
    spells_err one_in (λ sizing env. spelled sizing env tree) IsNode c.refusal.result (grown_same c.args.types.now) (λ ts facts before keys u.
    let sizing = later (env_of ts facts c.args.scope.now) in
    let env = names_env_of ts before keys c.args.names.now c.args.scope.now in
    let out = c.args.out.now.items in
    refuses (one_in (node_types ts keys out) (formed_since ts keys out out)) (spelled sizing env tree) LeftOut c.in-Ref.at c.refusal.result c.refusal.ensures
    (ap (spelled sizing env) (ap written_of c.in-Ref.is)))

pub spelled-returns-in-Tuple : goal.spelled-returns-in-Tuple
spelled-returns-in-Tuple t c =
    let tree = written_of c.args.tree.now in
    spells_as (λ sizing env. spelled sizing env tree) c.tuple.ensures (λ ts facts before keys u.
    ap (spelled (later (env_of ts facts c.args.scope.now)) (names_env_of ts before keys c.args.names.now c.args.scope.now)) (ap written_of c.in-Tuple.is
    ∙ ap (written.tuple_of c.in-Tuple.at) (sym (c.fields.ensures ∙ ap (λ w. fields_in (written_of w)) c.in-Tuple.is))))

-- ---- names

pub named-returns-in-Ok : goal.named-returns-in-Ok
named-returns-in-Ok t c =
    let at = c.args.at in
    let x = c.args.text.now in
    let given = arguments_of c.args.arguments.now in
    let name : c.as_slice.result.now ≡ normal x = c.as_slice.ensures ∙ c.in_ok-name.ensures in
    spells_as (λ sizing env. spelled sizing env (written.named at x given)) c.applied.ensures (λ ts facts before keys u.
    let sizing = later (env_of ts facts c.args.scope.now) in
    let env = names_env_of ts before keys c.args.names.now c.args.scope.now in
    let callee : callee_rule env at (normal x) ≡ Ok tt =
    callee_alike ts facts before keys c.args.names.now c.args.scope.now at (normal x)
    ∙ subst (λ y. callee_rule (env_of ts facts c.args.scope.now) at y ≡ Ok tt) name (c.in-Ok.ensures ts facts) in
    ap (λ z. and_then z (λ _. and_then (all_spelled sizing env given) (λ all. named_by env at x all))) callee)

pub named-returns : goal.named-returns
named-returns t c =
    let at = c.args.at in
    let x = c.args.text.now in
    let given = arguments_of c.args.arguments.now in
    let name : c.as_slice.result.now ≡ normal x = c.as_slice.ensures ∙ c.in_ok-name.ensures in
    spells_err one_in (λ sizing env. spelled sizing env (written.named at x given)) IsNode c.in-Err.stop (grown_same c.args.types.now)
    (λ ts facts before keys u.
    let sizing = later (env_of ts facts c.args.scope.now) in
    let env = names_env_of ts before keys c.args.names.now c.args.scope.now in
    let out = c.args.out.now.items in
    let to = one_in (node_types ts keys out) (formed_since ts keys out out) in
    let go = λ (_ : Unit {0}). and_then (all_spelled sizing env given) (λ all. named_by env at x all) in
    answers_as to (and_then (callee_rule env at (normal x)) go) (and_then (callee_rule (env_of ts facts c.args.scope.now) at c.as_slice.result.now) go)
    (Err c.in-Err.stop)
    (ap (λ z. and_then z go) (callee_alike ts facts before keys c.args.names.now c.args.scope.now at (normal x)
    ∙ ap (callee_rule (env_of ts facts c.args.scope.now) at) (sym name)))
    (stops to (λ (_ : Unit {0}). tt) (callee_rule (env_of ts facts c.args.scope.now) at c.as_slice.result.now) go c.in-Err.stop (c.in-Err.ensures ts facts)))

pub applied-returns-in-Ok : goal.applied-returns-in-Ok
applied-returns-in-Ok t c =
    let at = c.args.at in
    let x = c.args.text.now in
    let given = arguments_of c.args.arguments.now in
    let slice : c.as_slice.result.now ≡ c.in-Ok.given.items = c.as_slice.ensures.value in
    then_adds c.in-Ok.given c.add_named.new.out.items (λ env done. named_with env at x (map (type_at done) c.as_slice.result.now)) (λ _. [])
    (λ sizing env. and_then (all_spelled sizing env given) (named_by env at x)) c.add_named.result c.in-Ok.ensures c.add_named.ensures
    (named_follows at x given c.in-Ok.given c.as_slice.result.now slice)

pub applied-returns-in-Err : goal.applied-returns-in-Err
applied-returns-in-Err t c =
    let at = c.args.at in
    let x = c.args.text.now in
    let given = arguments_of c.args.arguments.now in
    spells_stops c.given.new.out.items one_in (λ _ env a. named_whole env at x a) (λ sizing env. and_then (all_spelled sizing env given) (named_by env at x))
    IsNode c.in-Err.stop c.in-Err.ensures (λ known env. named_stops env at x (all_spelled (later known) env given))

-- ---- types in brackets

pub given-loop-argument-init : goal.given-loop-argument-init
given-loop-argument-init t c = record {
  light = omega arith;
  grown = grown_same c.args.types.now;
  ready = c.requires.ready;
  further = further_same c.args.out.now.items;
  within = subst (AllBelow (length c.args.out.now.items)) (sym c.new-nodes.ensures.items) tt;
  sound = λ n m o h. h;
  left = λ ts facts before keys u.
      let sizing = later (env_of ts facts c.args.scope.now) in
      let env = names_env_of ts before keys c.args.names.now c.args.scope.now in
      let all = all_given (all_spelled sizing env (arguments_of c.args.arguments.now)) in
      let out = c.args.out.now.items in
      given_start all
      ∙ ap₂ (λ is fs. front_given (given_as (map (type_at (node_types ts keys out)) is) fs) all) (sym c.new-nodes.ensures.items)
      (sym (formed_none ts keys out));
}

pub given-loop-argument-preserved : goal.given-loop-argument-preserved
given-loop-argument-preserved t c =
    let at = c.loop-argument in
    let x = c.argument-item.result in
    let rest = drop (at.argument-index + 1) c.args.arguments.now in
    let e = next_item c.args.arguments.now at.argument-index x c.argument-item.is c.loop-argument-test.true in
    let w = ap (λ l. argument_nodes (arguments_of l)) e in
    let g = c.spelled.ensures.grown in
    let f = c.in-Ok.ensures.further in
    let pushed = c.in_ok-push-in-Ok.ensures.items in
    let old = at.out.items in
    let new = c.spelled.new.out.items in
    record {
      light = omega (arith, w, at.invariant.light);
      grown = grown_on at.invariant.grown g;
      ready = ready_on g at.invariant.ready;
      further = further_on c.args.out.now.items old new at.invariant.further f;
      within = subst (λ is. AllBelow (length new) is) (sym pushed)
          (ids_and at.nodes.items c.in-Ok.node (all_more (length old) (length new) at.nodes.items (further_count old new f) at.invariant.within)
          c.in-Ok.ensures.within);
      sound = λ n m o h. c.in-Ok.ensures.sound n m o (at.invariant.sound n m o h);
      left = λ ts facts before keys u.
          let sizing = later (env_of ts facts c.args.scope.now) in
          let env = names_env_of ts before keys c.args.names.now c.args.scope.now in
          let a = given_now ts keys c.args.out.now.items old at.nodes.items in
          let behind = all_spelled sizing env (arguments_of rest) in
          at.invariant.left ts facts before keys (g.under ts facts u) ∙ ap (λ l. front_given a (all_given (all_spelled sizing env (arguments_of l)))) e
          ∙ ap (λ z. front_given a (all_given (and_then z (λ s. and_then behind (λ more. Ok (s ∷ more))))))
          (c.in-Ok.ensures.answers ts facts before keys u)
          ∙ given_next ts keys c.args.out.now.items old new at.nodes.items _ c.in-Ok.node behind at.invariant.further f
          at.invariant.within pushed;
    }

pub given-returns-in_err-push-in-Ok : goal.given-returns-in_err-push-in-Ok
given-returns-in_err-push-in-Ok t c =
    let given = arguments_of c.args.arguments.now in
    let p = err_from_is_err_and c.from_residual.result c.from_residual.ensures.1 in
    rw (p.1, p.2) (spells_forgets given_in (λ sizing env. all_given (all_spelled sizing env given)) AreNodes _
    (grown_on c.loop-argument.invariant.grown c.spelled.ensures.grown) refl)

pub given-returns-in-Err : goal.given-returns-in-Err
given-returns-in-Err t c =
    let at = c.loop-argument in
    let x = c.argument-item.result in
    let rest = drop (at.argument-index + 1) c.args.arguments.now in
    let e = next_item c.args.arguments.now at.argument-index x c.argument-item.is c.loop-argument-test.true in
    let given = arguments_of c.args.arguments.now in
    let g = c.spelled.ensures.grown in
    let new = c.spelled.new.out.items in
    spells_err given_in (λ sizing env. all_given (all_spelled sizing env given)) AreNodes c.in-Err.stop (grown_on at.invariant.grown g)
    (λ ts facts before keys u.
    let sizing = later (env_of ts facts c.args.scope.now) in
    let env = names_env_of ts before keys c.args.names.now c.args.scope.now in
    let a = given_now ts keys c.args.out.now.items at.out.items at.nodes.items in
    let to = given_in (node_types ts keys new) (formed_since ts keys c.args.out.now.items new) in
    let said = spelled sizing env (written_of x) in
    let go = λ (s : Spelled). and_then (all_spelled sizing env (arguments_of rest)) (λ more. Ok (s ∷ more)) in
    answers_as to (all_given (all_spelled sizing env given)) (front_given a (all_given (and_then said go))) (Err c.in-Err.stop)
    (at.invariant.left ts facts before keys (g.under ts facts u) ∙ ap (λ l. front_given a (all_given (all_spelled sizing env (arguments_of l)))) e)
    (given_stops to a said go (one_in (node_types ts keys new) (formed_since ts keys at.out.items new)) c.in-Err.stop
    (c.in-Err.ensures.answers ts facts before keys u)))

pub given-returns : goal.given-returns
given-returns t c =
    let at = c.loop-argument in
    let none = none_left c.args.arguments.now at.argument-index (omega (arith, c.loop-argument-test.false)) in
    record {
      grown = at.invariant.grown;
      further = at.invariant.further;
      answers = λ ts facts before keys u.
          let sizing = later (env_of ts facts c.args.scope.now) in
          let env = names_env_of ts before keys c.args.names.now c.args.scope.now in
          let a = given_now ts keys c.args.out.now.items at.out.items at.nodes.items in
          at.invariant.left ts facts before keys u ∙ ap (λ l. front_given a (all_given (all_spelled sizing env (arguments_of l)))) none ∙ given_end a;
      within = at.invariant.within;
      sound = at.invariant.sound;
    }

-- ---- arrays

pub array-array_of-requires : goal.array-array_of-requires
array-array_of-requires t c = (omega arith, ready_on c.length_value.ensures.grown c.requires.ready)

pub array-returns-in-Ok : goal.array-returns-in-Ok
array-returns-in-Ok t c =
    let at = c.args.at in
    let count = term_of c.args.count.now in
    let element = written_of c.args.element.now in
    let same = to_z-of_z w32 c.in-Ok.len (record { sfits = search (rules, c.length_value.type_inv, c.in-Ok.is) }) in
    spells_behind (λ sizing env. spelled sizing env (written.array at count element)) c.length_value.ensures.grown c.array_of.ensures
    (λ ts facts before keys u.
    let known = env_of ts facts c.args.scope.now in
    let env = names_env_of ts before keys c.args.names.now c.args.scope.now in
    let go = λ (k : ℤ). and_then (spelled (later known) env element) (array_rule (later known) env at k) in
    ap (λ z. and_then z go) (c.in-Ok.ensures.answers ts facts u) ∙ ap go (sym same))

pub array-returns-in-Err : goal.array-returns-in-Err
array-returns-in-Err t c =
    let at = c.args.at in
    let count = term_of c.args.count.now in
    let element = written_of c.args.element.now in
    spells_err one_in (λ sizing env. spelled sizing env (written.array at count element)) IsNode c.in-Err.stop c.length_value.ensures.grown
    (λ ts facts before keys u.
    let known = env_of ts facts c.args.scope.now in
    let env = names_env_of ts before keys c.args.names.now c.args.scope.now in
    let out = c.args.out.now.items in
    stops (one_in (node_types ts keys out) (formed_since ts keys out out)) (λ (k : ℤ). k) (length_value known count)
    (λ (k : ℤ). and_then (spelled (later known) env element) (λ s. array_rule (later known) env at k s)) c.in-Err.stop
    (c.in-Err.ensures.answers ts facts u))

pub array_of-returns-in-Ok : goal.array_of-returns-in-Ok
array_of-returns-in-Ok t c =
    let at = c.args.at in
    let k = c.args.len in
    let of = c.in-Ok.of in
    let element = written_of c.args.element.now in
    then_adds of c.add_array.new.out.items (λ env done. array_by at (former_of env (codes "array")) (to_z w32 (of_z w32 k)) (type_at done of))
    (λ ty. record { at = at; of = ty } ∷ [])
    (λ sizing env. and_then (spelled sizing env element) (array_rule sizing env at k)) c.add_array.result c.in-Ok.ensures
    (c.add_array.ensures c.args.names.now)
    (array_again at k (to_z w32 (of_z w32 k)) element of (ranged c.ranges.len))

pub array_of-returns-in-Err : goal.array_of-returns-in-Err
array_of-returns-in-Err t c =
    let at = c.args.at in
    let k = c.args.len in
    let element = written_of c.args.element.now in
    spells_stops c.spelled.new.out.items one_in (λ sizing env s. array_rule sizing env at k s)
    (λ sizing env. and_then (spelled sizing env element) (array_rule sizing env at k)) IsNode c.in-Err.stop c.in-Err.ensures (λ known env. refl)

-- ---- tuples

pub tuple-returns-in-Ok : goal.tuple-returns-in-Ok
tuple-returns-in-Ok t c =
    let at = c.args.at in
    let inside = fields_of c.args.fields.now in
    let parts = c.in-Ok.parts in
    then_adds parts c.add_tuple.new.out.items (λ _ done. Ok (type.tuple parts.names (types_at done parts.types))) (λ ty. record { at = at; of = ty } ∷ [])
    (λ sizing env. spelled sizing env (written.tuple_of at inside)) c.add_tuple.result c.in-Ok.ensures
    (c.add_tuple.ensures c.args.scope.now c.args.names.now) (tuple_follows at inside parts)

pub tuple-returns-in-Err : goal.tuple-returns-in-Err
tuple-returns-in-Err t c =
    let at = c.args.at in
    let inside = fields_of c.args.fields.now in
    spells_stops c.parts.new.out.items one_in (λ _ _ a. tuple_whole at a)
    (λ sizing env. spelled sizing env (written.tuple_of at inside)) IsNode c.in-Err.stop c.in-Err.ensures
    (λ known env. tuple_stops known env at (parts_spelled (later known) env [] inside))

-- ---- parts of tuples

pub parts-loop-field-init : goal.parts-loop-field-init
parts-loop-field-init t c = record {
  light = omega arith;
  grown = grown_same c.args.types.now;
  ready = c.requires.ready;
  further = further_same c.args.out.now.items;
  within = subst (AllBelow (length c.args.out.now.items)) (sym c.new-2.ensures) tt;
  sound = λ n m o h. h;
  count = let z = ap length c.new-2.ensures in omega (arith, z);
  left = (
    [],
    no_names c.new-seen.result c.new-seen.ensures.empty,
    λ ts facts before keys u.
        let sizing = later (env_of ts facts c.args.scope.now) in
        let env = names_env_of ts before keys c.args.names.now c.args.scope.now in
        let all = all_parted (parts_spelled sizing env [] (fields_of c.args.fields.now)) in
        let out = c.args.out.now.items in
        parts_start all
        ∙ ap (λ z. front_parts z all)
        (parts_are (sym c.new.ensures) (ap (map (type_at (node_types ts keys out))) (sym c.new-2.ensures)) (sym (formed_none ts keys out))),
  );
}

pub parts-loop-field-preserved : goal.parts-loop-field-preserved
parts-loop-field-preserved t c =
    let at = c.loop-field in
    let x = c.field-item.result in
    let rest = drop (at.field-index + 1) c.args.fields.now in
    let e = next_item c.args.fields.now at.field-index x c.field-item.is c.loop-field-test.true in
    let nodes = ap (λ l. field_nodes (fields_of l)) e in
    let w = at.invariant.left in
    let g = c.spelled.ensures.grown in
    let f = c.in-Ok-spelled.ensures.further in
    let old = at.out.items in
    let new = c.spelled.new.out.items in
    let group = x.names.items in
    let as_items : c.as_slice.result.now ≡ group = c.as_slice.ensures.value in
    let again : c.as_slice-in-Ok-spelled.result.now ≡ group = c.as_slice-in-Ok-spelled.ensures.value in
    let seen = subst (λ ds. HasNamesBehind c.new_names.new.seen w.0 ds) as_items (c.in-Ok.ensures.seen w.0 w.1) in
    let more : c.new_names.new.names ≡ at.parts.names ++ normal_names group =
    subst (λ ds. c.new_names.new.names ≡ at.parts.names ++ normal_names ds) as_items c.in-Ok.ensures.names in
    let pushed : c.push_all.new.types ≡ at.parts.types ++ map (λ _. c.in-Ok-spelled.node) group =
    c.in_ok-push_all-in-Ok-spelled.ensures ∙ ap (λ ds. at.parts.types ++ map (λ _. c.in-Ok-spelled.node) ds) again in
    record {
      light = omega (arith, nodes, at.invariant.light);
      grown = grown_on at.invariant.grown g;
      ready = ready_on g at.invariant.ready;
      further = further_on c.args.out.now.items old new at.invariant.further f;
      within = subst (λ is. AllBelow (length new) is) (sym pushed)
          (below_each (length new) c.in-Ok-spelled.node at.parts.types group
          (all_more (length old) (length new) at.parts.types (further_count old new f) at.invariant.within) c.in-Ok-spelled.ensures.within);
      sound = λ n m o h. c.in-Ok-spelled.ensures.sound n m o (at.invariant.sound n m o h);
      count =
          let p = ap length pushed in
          let l = length-append at.parts.types (map (λ _. c.in-Ok-spelled.node) group) in
          let g = length-map group (λ _. c.in-Ok-spelled.node) in
          let fs = ap (λ l. part_count (fields_of l)) e in
          omega (arith, at.invariant.count, p, l, g, fs);
      left = (
        seen.0,
        seen.2,
        λ ts facts before keys u.
            let sizing = later (env_of ts facts c.args.scope.now) in
            let env = names_env_of ts before keys c.args.names.now c.args.scope.now in
            let a = parts_now ts keys c.args.out.now.items old at.parts.names at.parts.types in
            let behind = parts_spelled sizing env seen.0 (fields_of rest) in
            let one = λ (z : Answer Spelled). front_parts a (all_parted (and_then z (λ s. and_then behind (λ all. Ok (parts_behind group s all))))) in
            w.2 ts facts before keys (g.under ts facts u)
            ∙ ap (λ l. front_parts a (all_parted (parts_spelled sizing env w.0 (fields_of l)))) e
            ∙ ap (λ z. front_parts a (all_parted (and_then z (λ now. and_then (spelled sizing env (written_of x.of))
            (λ s. and_then (parts_spelled sizing env now (fields_of rest)) (λ all. Ok (parts_behind group s all))))))) seen.1
            ∙ ap one (c.in-Ok-spelled.ensures.answers ts facts before keys u)
            ∙ parts_next ts keys c.args.out.now.items old new at.parts.names c.new_names.new.names at.parts.types c.push_all.new.types group
            c.in-Ok-spelled.node behind at.invariant.further f at.invariant.within more pushed,
      );
    }

pub parts-returns-in-Err : goal.parts-returns-in-Err
parts-returns-in-Err t c =
    let at = c.loop-field in
    let x = c.field-item.result in
    let rest = drop (at.field-index + 1) c.args.fields.now in
    let e = next_item c.args.fields.now at.field-index x c.field-item.is c.loop-field-test.true in
    let inside = fields_of c.args.fields.now in
    let w = at.invariant.left in
    let new = at.out.items in
    spells_err parts_in (λ sizing env. all_parted (parts_spelled sizing env [] inside)) (ArePartNodes (part_count inside)) c.in-Err.stop at.invariant.grown
    (λ ts facts before keys u.
    let sizing = later (env_of ts facts c.args.scope.now) in
    let env = names_env_of ts before keys c.args.names.now c.args.scope.now in
    let a = parts_now ts keys c.args.out.now.items at.out.items at.parts.names at.parts.types in
    let to = parts_in (node_types ts keys new) (formed_since ts keys c.args.out.now.items new) in
    let group = x.names.items in
    let go = λ (now : List (List ℕ)). and_then (spelled sizing env (written_of x.of))
    (λ s. and_then (parts_spelled sizing env now (fields_of rest)) (λ all. Ok (parts_behind group s all))) in
    let said = subst (λ ds. Answers {A = Unit {0}} (λ (_ : Unit {0}). tt) (and_then (field_names_rule w.0 ds) (λ _. Ok tt)) (Err c.in-Err.stop))
    c.as_slice.ensures.value (c.in-Err.ensures.answers w.0 w.1) in
    answers_as to (all_parted (parts_spelled sizing env [] inside)) (front_parts a (all_parted (and_then (field_names_rule w.0 group) go))) (Err c.in-Err.stop)
    (w.2 ts facts before keys u ∙ ap (λ l. front_parts a (all_parted (parts_spelled sizing env w.0 (fields_of l)))) e)
    (parts_stops to a (and_then (field_names_rule w.0 group) go) c.in-Err.stop
    (stops_first (λ (all : Parted). all) (field_names_rule w.0 group) go c.in-Err.stop said)))

pub parts-returns-in-Err-spelled : goal.parts-returns-in-Err-spelled
parts-returns-in-Err-spelled t c =
    let at = c.loop-field in
    let x = c.field-item.result in
    let rest = drop (at.field-index + 1) c.args.fields.now in
    let e = next_item c.args.fields.now at.field-index x c.field-item.is c.loop-field-test.true in
    let inside = fields_of c.args.fields.now in
    let w = at.invariant.left in
    let g = c.spelled.ensures.grown in
    let old = at.out.items in
    let new = c.spelled.new.out.items in
    let group = x.names.items in
    let seen = subst (λ ds. HasNamesBehind c.new_names.new.seen w.0 ds) c.as_slice.ensures.value (c.in-Ok.ensures.seen w.0 w.1) in
    spells_err parts_in (λ sizing env. all_parted (parts_spelled sizing env [] inside)) (ArePartNodes (part_count inside)) c.in-Err-spelled.stop
    (grown_on at.invariant.grown g)
    (λ ts facts before keys u.
    let sizing = later (env_of ts facts c.args.scope.now) in
    let env = names_env_of ts before keys c.args.names.now c.args.scope.now in
    let a = parts_now ts keys c.args.out.now.items old at.parts.names at.parts.types in
    let to = parts_in (node_types ts keys new) (formed_since ts keys c.args.out.now.items new) in
    let tail = λ (s : Spelled). and_then (parts_spelled sizing env seen.0 (fields_of rest)) (λ all. Ok (parts_behind group s all)) in
    let said = spelled sizing env (written_of x.of) in
    answers_as to (all_parted (parts_spelled sizing env [] inside)) (front_parts a (all_parted (and_then said tail))) (Err c.in-Err-spelled.stop)
    (w.2 ts facts before keys (g.under ts facts u) ∙ ap (λ l. front_parts a (all_parted (parts_spelled sizing env w.0 (fields_of l)))) e
    ∙ ap (λ z. front_parts a (all_parted (and_then z (λ now. and_then said
    (λ s. and_then (parts_spelled sizing env now (fields_of rest)) (λ all. Ok (parts_behind group s all))))))) seen.1)
    (parts_stops to a (and_then said tail) c.in-Err-spelled.stop
    (stops (λ (all : Parted). all) (one_in (node_types ts keys new) (formed_since ts keys old new)) said tail c.in-Err-spelled.stop
    (c.in-Err-spelled.ensures.answers ts facts before keys u))))

pub parts-returns-in_err-push_all-in-Ok-spelled : goal.parts-returns-in_err-push_all-in-Ok-spelled
parts-returns-in_err-push_all-in-Ok-spelled t c =
    let inside = fields_of c.args.fields.now in
    let p = err_from_is_err_and c.from_residual.result c.from_residual.ensures.1 in
    rw (p.1, p.2) (spells_forgets parts_in (λ sizing env. all_parted (parts_spelled sizing env [] inside)) (ArePartNodes (part_count inside)) _
    (grown_on c.loop-field.invariant.grown c.spelled.ensures.grown) refl)

pub parts-returns : goal.parts-returns
parts-returns t c =
    let at = c.loop-field in
    let none = none_left c.args.fields.now at.field-index (omega (arith, c.loop-field-test.false)) in
    let w = at.invariant.left in
    record {
      grown = at.invariant.grown;
      further = at.invariant.further;
      answers = λ ts facts before keys u.
          let sizing = later (env_of ts facts c.args.scope.now) in
          let env = names_env_of ts before keys c.args.names.now c.args.scope.now in
          let a = parts_now ts keys c.args.out.now.items at.out.items at.parts.names at.parts.types in
          w.2 ts facts before keys u ∙ ap (λ l. front_parts a (all_parted (parts_spelled sizing env w.0 (fields_of l)))) none ∙ parts_end a;
      within = (at.invariant.within, let n = ap (λ l. part_count (fields_of l)) none in let k = at.invariant.count in omega (arith, k, n));
      sound = at.invariant.sound;
    }

pub tuple-add_tuple-requires : goal.tuple-add_tuple-requires
tuple-add_tuple-requires t c = c.in-Ok.ensures.within.0
