use Rattle.std.proofs.Common.{◌≡◌, suc, ◌+◌, ◌-◌, ◌∷◌, refl, sym, ap, ◌∙◌, arith, add-one}
use Rattle.std.specs.Prelude.{Some, option_map}
use Rattle.std.proofs.lemmas.Result.{err_from_is_err_and}
use Rattle.nim_tree.specs.Terms.{term_of}
use Rattle.nim_tree.specs.Types.{written_of, arguments_of, fields_of}
use Rattle.parse_exprs.specs.declared.input.Bracket.TheVariants.{Square}
use Rattle.parse_exprs.specs.Look.{closes_at}
use Rattle.parse_exprs.specs.Input.{origin_of, from_at}
use Rattle.parse_decls.specs.declared.look.TypeLead.TheVariants as L
use Rattle.parse_decls.proofs.Coming.{comes_leads, fails_then, fails_leads, fails_stuck, leads_on, leads_then, leads_unless, leads_if, leads_else, leads_past}
use Rattle.parse_decls.proofs.Coming.{behind_at, within_at, found, found_is, found_behind, close_fails, close_found}
use Rattle.parse_decls.proofs.Repeats.{arguments_loop, parts_loop, and_last, and_part, loop_on, loop_fails, loop_ends, begins, only_one}
use Rattle.parse_decls.proofs.TypeSteps.{type_none, type_empty, type_comes, type_other, inside_leads, bare_found, named_leads, element_leads, array_leads}
use Rattle.parse_decls.proofs.TypeSteps.{array_on, ref_leads, tuple_leads, tuple_closed, of_run, part_leads, named_value, array_value, ref_value, tuple_value}
use Rattle.parse_decls.proofs.written.+types.Goals as goal

pub read_type-returns-then-left-eq0 : goal.read_type-returns-then-left-eq0
read_type-returns-then-left-eq0 t c = type_none (origin_of c.args.input.now) c.args.layout (from_at c.args.input.now c.args.whole)
    (from_at c.args.input.now c.args.at) c.args.left c.if-left-eq0.true _ c.no_level.ensures

pub read_type-returns-in_default : goal.read_type-returns-in_default
read_type-returns-in_default t c =
    let e : c.args.left ≡ suc (c.args.left - 1) = let g = c.if-left-eq0.false in omega (arith, g) in
    type_empty (origin_of c.args.input.now) c.args.layout (from_at c.args.input.now c.args.whole) (from_at c.args.input.now c.args.at) c.args.left
    (c.args.left - 1) e c.in_default.ensures.none _ c.stuck.ensures

pub read_type-returns-in-Name : goal.read_type-returns-in-Name
read_type-returns-in-Name t c =
    let e : c.args.left ≡ suc (c.args.left - 1) = let g = c.if-left-eq0.false in omega (arith, g) in
    let s = c.in-Some.ensures.some ∙ ap (λ n. c.in-Some.token ∷ from_at c.args.input.now n) (sym (add-one c.args.at)) in
    type_comes c.args.input.now c.args.layout (from_at c.args.input.now c.args.whole) c.args.at c.in-Some.token L.Name c.args.left (c.args.left - 1) e s
    (sym c.type_lead.ensures ∙ c.in-Name.is) c.read_named.result c.read_named.ensures

pub read_type-returns-in-Array : goal.read_type-returns-in-Array
read_type-returns-in-Array t c =
    let e : c.args.left ≡ suc (c.args.left - 1) = let g = c.if-left-eq0.false in omega (arith, g) in
    let s = c.in-Some.ensures.some ∙ ap (λ n. c.in-Some.token ∷ from_at c.args.input.now n) (sym (add-one c.args.at)) in
    type_comes c.args.input.now c.args.layout (from_at c.args.input.now c.args.whole) c.args.at c.in-Some.token L.Array c.args.left (c.args.left - 1) e s
    (sym c.type_lead.ensures ∙ c.in-Array.is) c.read_array.result c.read_array.ensures

pub read_type-returns-in-Ref : goal.read_type-returns-in-Ref
read_type-returns-in-Ref t c =
    let e : c.args.left ≡ suc (c.args.left - 1) = let g = c.if-left-eq0.false in omega (arith, g) in
    let s = c.in-Some.ensures.some ∙ ap (λ n. c.in-Some.token ∷ from_at c.args.input.now n) (sym (add-one c.args.at)) in
    type_comes c.args.input.now c.args.layout (from_at c.args.input.now c.args.whole) c.args.at c.in-Some.token L.Ref c.args.left (c.args.left - 1) e s
    (sym c.type_lead.ensures ∙ c.in-Ref.is) c.read_ref.result c.read_ref.ensures

pub read_type-returns-in-Tuple : goal.read_type-returns-in-Tuple
read_type-returns-in-Tuple t c =
    let e : c.args.left ≡ suc (c.args.left - 1) = let g = c.if-left-eq0.false in omega (arith, g) in
    let s = c.in-Some.ensures.some ∙ ap (λ n. c.in-Some.token ∷ from_at c.args.input.now n) (sym (add-one c.args.at)) in
    type_comes c.args.input.now c.args.layout (from_at c.args.input.now c.args.whole) c.args.at c.in-Some.token L.Tuple c.args.left (c.args.left - 1) e s
    (sym c.type_lead.ensures ∙ c.in-Tuple.is) c.read_tuple.result c.read_tuple.ensures

pub read_type-returns-in-Other : goal.read_type-returns-in-Other
read_type-returns-in-Other t c =
    let e : c.args.left ≡ suc (c.args.left - 1) = let g = c.if-left-eq0.false in omega (arith, g) in
    let s = c.in-Some.ensures.some ∙ ap (λ n. c.in-Some.token ∷ from_at c.args.input.now n) (sym (add-one c.args.at)) in
    type_other c.args.input.now c.args.layout (from_at c.args.input.now c.args.whole) c.args.at c.in-Some.token c.args.left (c.args.left - 1) e s
    (sym c.type_lead.ensures ∙ c.in-Other.is) _ c.stuck-in-Other.ensures

-- ---- a name

pub read_named-returns-then-opens_at : goal.read_named-returns-then-opens_at
read_named-returns-then-opens_at t c =
    let l = named_leads c.args.input.now c.args.layout (from_at c.args.input.now c.args.whole) c.args.left c.args.token c.args.at
    (sym c.opens_at.ensures ∙ c.if-opens_at.true) in
    comes_leads written_of _ _ c.args.input.now _ l _ (omega arith) _ c.read_inside.ensures

pub read_named-returns : goal.read_named-returns
read_named-returns t c =
    found_is (c.make_named.ensures ∙ named_value (origin_of c.args.input.now) c.args.token c.place_at.ensures (c.in_ok-text.ensures ∙ c.spelling.ensures)
    (ap arguments_of c.new.ensures.items))
    (bare_found c.args.input.now c.args.layout (from_at c.args.input.now c.args.whole) c.args.left c.args.token c.args.at
    (sym c.opens_at.ensures ∙ c.if-opens_at.false) c.requires.within)

pub read_inside-returns-in_err-first : goal.read_inside-returns-in_err-first
read_inside-returns-in_err-first t c =
    let p = err_from_is_err_and c.from_residual-in_err-first.result c.from_residual-in_err-first.ensures.1 in
    let l = inside_leads c.args.input.now (from_at c.args.input.now c.args.whole) c.args.left c.args.token (from_at c.args.input.now c.args.at) in
    rw (p.1, p.2) (fails_leads _ _ _ l _ (fails_then _ _ _ _ c.in_err-first.ensures))

pub read_inside-returns-in_err-arguments : goal.read_inside-returns-in_err-arguments
read_inside-returns-in_err-arguments t c =
    let p = err_from_is_err_and c.from_residual-in_err-arguments.result c.from_residual-in_err-arguments.ensures.1 in
    let l = inside_leads c.args.input.now (from_at c.args.input.now c.args.whole) c.args.left c.args.token (from_at c.args.input.now c.args.at) in
    rw (p.1, p.2) (fails_leads _ _ _ (leads_on (leads_then _ c.in_ok-first.ensures.runs) l) _ (fails_then _ _ _ _ c.in_err-arguments.ensures))

pub read_inside-returns-then-not-closes_at : goal.read_inside-returns-then-not-closes_at
read_inside-returns-then-not-closes_at t c =
    let l = inside_leads c.args.input.now (from_at c.args.input.now c.args.whole) c.args.left c.args.token (from_at c.args.input.now c.args.at) in
    close_fails _ _ _ (leads_on (leads_then _ c.in_ok-arguments.ensures.runs) (leads_on (leads_then _ c.in_ok-first.ensures.runs) l))
    (sym c.closes_at.ensures ∙ c.if-not-closes_at.true) _ c.stuck.ensures

pub read_inside-returns : goal.read_inside-returns
read_inside-returns t c =
    let l = inside_leads c.args.input.now (from_at c.args.input.now c.args.whole) c.args.left c.args.token (from_at c.args.input.now c.args.at) in
    let g = c.in_ok-first.ensures.goes in
    let h = c.in_ok-arguments.ensures.goes in
    found_is (c.make_named.ensures ∙ named_value (origin_of c.args.input.now) c.args.token c.place_at.ensures (c.in_ok-text.ensures ∙ c.spelling.ensures) refl)
    (close_found c.args.input.now (closes_at Square) _ _ refl
    (leads_on (leads_then _ c.in_ok-arguments.ensures.runs) (leads_on (leads_then _ c.in_ok-first.ensures.runs) l))
    (sym c.closes_at.ensures ∙ c.if-not-closes_at.false) (omega (arith, g, h)))

pub read_arguments-loop-alloc-init : goal.read_arguments-loop-alloc-init
read_arguments-loop-alloc-init t c =
    begins (arguments_loop (origin_of c.args.input.now) (from_at c.args.input.now c.args.whole) c.args.left) _ c.args.input.now
    _ _ _ _ (ap arguments_of (only_one _ c.in_ok-arguments.ensures.ok c.new.ensures.items)) (λ o h. h) (omega arith) c.requires.within

pub read_arguments-returns-in_err-one : goal.read_arguments-returns-in_err-one
read_arguments-returns-in_err-one t c =
    let p = err_from_is_err_and c.from_residual-in_err-one.result c.from_residual-in_err-one.ensures.1 in
    let b = behind_at c.loop-alloc.next c.args.input.now.tokens.now in
    rw (p.1, p.2) (loop_fails (arguments_loop (origin_of c.args.input.now) (from_at c.args.input.now c.args.whole) c.args.left) _ c.args.input.now _ _ _ _ _ b
    c.loop-alloc.invariant (sym c.comma_at.ensures ∙ c.loop-alloc-test.true) c.in_err-one.ensures)

pub read_arguments-loop-alloc-preserved : goal.read_arguments-loop-alloc-preserved
read_arguments-loop-alloc-preserved t c =
    let b = behind_at c.loop-alloc.next c.args.input.now.tokens.now in
    loop_on (arguments_loop (origin_of c.args.input.now) (from_at c.args.input.now c.args.whole) c.args.left) _ c.args.input.now _ _ _ _ _ _ _ _ b refl
    (omega arith) c.loop-alloc.invariant (sym c.comma_at.ensures ∙ c.loop-alloc-test.true) c.in_ok-one.ensures
    (ap arguments_of c.in_ok-arguments-2.ensures.ok ∙ and_last c.loop-alloc.arguments.items c.in_ok-one.one.value)

pub read_arguments-returns : goal.read_arguments-returns
read_arguments-returns t c =
    let h = loop_ends (arguments_loop (origin_of c.args.input.now) (from_at c.args.input.now c.args.whole) c.args.left) _ c.args.input.now
    _ _ _ c.loop-alloc.invariant (sym c.comma_at.ensures ∙ c.loop-alloc-test.false) in
    found _ _ h.leads h.goes h.within

-- ---- an array

pub read_array-returns-in_err-length : goal.read_array-returns-in_err-length
read_array-returns-in_err-length t c =
    let p = err_from_is_err_and c.from_residual.result c.from_residual.ensures.1 in
    let l = array_leads c.args.input.now c.args.layout (from_at c.args.input.now c.args.whole) c.args.left c.args.token c.args.at in
    rw (p.1, p.2) (fails_leads _ _ _ l _ (fails_then _ _ _ _ c.in_err-length.ensures))

pub read_array-returns-in-Some : goal.read_array-returns-in-Some
read_array-returns-in-Some t c =
    let g = c.in_ok-length.ensures.goes in
    comes_leads written_of _ _ c.args.input.now _
    (array_on c.args.input.now c.args.layout (from_at c.args.input.now c.args.whole) c.args.left c.args.token c.args.at c.in_ok-length.length.next
    _ _ (ap (option_map term_of) c.in-Some.is ∙ ap (λ t. Some (term_of t)) (sym c.in-Some.count-is)) c.in_ok-length.ensures)
    _ (omega (arith, g)) _ c.read_element.ensures

pub read_array-returns-in-None : goal.read_array-returns-in-None
read_array-returns-in-None t c =
    let g = c.in_ok-length.ensures.goes in
    comes_leads written_of _ _ c.args.input.now _
    (array_on c.args.input.now c.args.layout (from_at c.args.input.now c.args.whole) c.args.left c.args.token c.args.at c.in_ok-length.length.next
    _ _ (ap (option_map term_of) c.in-None.is) c.in_ok-length.ensures)
    _ (omega (arith, g)) _ c.read_inside.ensures

pub read_element-returns-in-Err : goal.read_element-returns-in-Err
read_element-returns-in-Err t c =
    let l = element_leads c.args.input.now (from_at c.args.input.now c.args.whole) c.args.left c.args.token _ (from_at c.args.input.now c.args.at) in
    fails_leads _ _ _ l _ (fails_then _ _ _ _ c.in-Err.ensures)

pub read_element-returns-then-not-closes_at : goal.read_element-returns-then-not-closes_at
read_element-returns-then-not-closes_at t c =
    let l = element_leads c.args.input.now (from_at c.args.input.now c.args.whole) c.args.left c.args.token _ (from_at c.args.input.now c.args.at) in
    close_fails _ _ _ (leads_on (leads_then _ c.in-Ok.ensures.runs) l) (sym c.closes_at.ensures ∙ c.if-not-closes_at.true) _ c.stuck.ensures

pub read_element-returns : goal.read_element-returns
read_element-returns t c =
    let l = element_leads c.args.input.now (from_at c.args.input.now c.args.whole) c.args.left c.args.token _ (from_at c.args.input.now c.args.at) in
    let h = c.in-Ok.ensures.goes in
    found_is (c.in_ok-make_array.ensures.ok ∙ array_value (origin_of c.args.input.now) c.args.token _ _ c.place_at.ensures)
    (close_found c.args.input.now (closes_at Square) _ _ refl (leads_on (leads_then _ c.in-Ok.ensures.runs) l)
    (sym c.closes_at.ensures ∙ c.if-not-closes_at.false) (omega (arith, h)))

-- ---- a reference

pub read_ref-returns-then-not-stays : goal.read_ref-returns-then-not-stays
read_ref-returns-then-not-stays t c =
    let l = ref_leads c.args.input.now c.args.layout (from_at c.args.input.now c.args.whole) c.args.left c.args.token
    (from_at c.args.input.now (c.args.at + 1)) in
    fails_leads _ _ _ l _ (fails_stuck _ _ _ (sym c.stays.ensures ∙ c.if-not-stays.true) _ c.stuck.ensures)

pub read_ref-returns-in_err-target : goal.read_ref-returns-in_err-target
read_ref-returns-in_err-target t c =
    let p = err_from_is_err_and c.from_residual.result c.from_residual.ensures.1 in
    let l = ref_leads c.args.input.now c.args.layout (from_at c.args.input.now c.args.whole) c.args.left c.args.token
    (from_at c.args.input.now (c.args.at + 1)) in
    rw (p.1, p.2)
    (fails_leads _ _ _ (leads_on (leads_unless _ _ (sym c.stays.ensures ∙ c.if-not-stays.false)) l) _ (fails_then _ _ _ _ c.in_err-target.ensures))

pub read_ref-returns : goal.read_ref-returns
read_ref-returns t c =
    let l = ref_leads c.args.input.now c.args.layout (from_at c.args.input.now c.args.whole) c.args.left c.args.token
    (from_at c.args.input.now (c.args.at + 1)) in
    let g = c.in_ok-target.ensures.goes in
    found_is (c.in_ok-make_ref.ensures.ok ∙ ref_value (origin_of c.args.input.now) c.args.token _ c.place_at.ensures)
    (found _ _ (leads_on (leads_then _ c.in_ok-target.ensures.runs) (leads_on (leads_unless _ _ (sym c.stays.ensures ∙ c.if-not-stays.false)) l))
    (omega (arith, g)) c.in_ok-target.ensures.within)

-- ---- a tuple

pub read_tuple-returns-then-not-opens_at : goal.read_tuple-returns-then-not-opens_at
read_tuple-returns-then-not-opens_at t c = tuple_closed c.args.input.now c.args.layout (from_at c.args.input.now c.args.whole) c.args.left c.args.token
    (from_at c.args.input.now (c.args.at + 1)) (sym c.opens_at.ensures ∙ c.if-not-opens_at.true) _ c.stuck.ensures

pub read_tuple-returns-then-closes_at : goal.read_tuple-returns-then-closes_at
read_tuple-returns-then-closes_at t c =
    let l = tuple_leads c.args.input.now c.args.layout (from_at c.args.input.now c.args.whole) c.args.left c.args.token c.args.at
    (sym c.opens_at.ensures ∙ c.if-not-opens_at.false) in
    let e = sym c.closes_at.ensures ∙ c.if-closes_at.true in
    found_is (c.make_tuple.ensures ∙ tuple_value (origin_of c.args.input.now) c.args.token c.place_at.ensures (ap fields_of c.new.ensures.items))
    (found_behind c.args.input.now _ _ (leads_on (leads_if _ _ e) l) (omega arith) (within_at (closes_at Square) refl _ c.args.input.now.tokens.now e))

pub read_tuple-returns-in_err-first : goal.read_tuple-returns-in_err-first
read_tuple-returns-in_err-first t c =
    let p = err_from_is_err_and c.from_residual.result c.from_residual.ensures.1 in
    let l = tuple_leads c.args.input.now c.args.layout (from_at c.args.input.now c.args.whole) c.args.left c.args.token c.args.at
    (sym c.opens_at.ensures ∙ c.if-not-opens_at.false) in
    rw (p.1, p.2)
    (fails_leads _ _ _ (leads_on (leads_else _ _ (sym c.closes_at.ensures ∙ c.if-closes_at.false)) l) _ (fails_then _ _ _ _ c.in_err-first.ensures))

pub read_tuple-returns-in_err-fields : goal.read_tuple-returns-in_err-fields
read_tuple-returns-in_err-fields t c =
    let p = err_from_is_err_and c.from_residual-in_err-fields.result c.from_residual-in_err-fields.ensures.1 in
    let l = tuple_leads c.args.input.now c.args.layout (from_at c.args.input.now c.args.whole) c.args.left c.args.token c.args.at
    (sym c.opens_at.ensures ∙ c.if-not-opens_at.false) in
    let m = leads_on (leads_else _ _ (sym c.closes_at.ensures ∙ c.if-closes_at.false)) l in
    rw (p.1, p.2) (fails_leads _ _ _ (leads_on (leads_then _ c.in_ok-first.ensures.runs) m) _ (fails_then _ _ _ _ c.in_err-fields.ensures))

pub read_tuple-returns-then-not-closes_at : goal.read_tuple-returns-then-not-closes_at
read_tuple-returns-then-not-closes_at t c =
    let l = tuple_leads c.args.input.now c.args.layout (from_at c.args.input.now c.args.whole) c.args.left c.args.token c.args.at
    (sym c.opens_at.ensures ∙ c.if-not-opens_at.false) in
    let m = leads_on (leads_else _ _ (sym c.closes_at.ensures ∙ c.if-closes_at.false)) l in
    close_fails _ _ _ (leads_on (leads_then _ c.in_ok-fields.ensures.runs) (leads_on (leads_then _ c.in_ok-first.ensures.runs) m))
    (sym c.closes_at-2.ensures ∙ c.if-not-closes_at.true) _ c.stuck-then-not-closes_at.ensures

pub read_tuple-returns : goal.read_tuple-returns
read_tuple-returns t c =
    let l = tuple_leads c.args.input.now c.args.layout (from_at c.args.input.now c.args.whole) c.args.left c.args.token c.args.at
    (sym c.opens_at.ensures ∙ c.if-not-opens_at.false) in
    let m = leads_on (leads_else _ _ (sym c.closes_at.ensures ∙ c.if-closes_at.false)) l in
    let g = c.in_ok-first.ensures.goes in
    let h = c.in_ok-fields.ensures.goes in
    found_is (c.make_tuple-2.ensures ∙ tuple_value (origin_of c.args.input.now) c.args.token c.place_at-2.ensures refl)
    (close_found c.args.input.now (closes_at Square) _ _ refl
    (leads_on (leads_then _ c.in_ok-fields.ensures.runs) (leads_on (leads_then _ c.in_ok-first.ensures.runs) m))
    (sym c.closes_at-2.ensures ∙ c.if-not-closes_at.false) (omega (arith, g, h)))

-- ---- parts of a tuple

pub read_part-returns-in_err-names : goal.read_part-returns-in_err-names
read_part-returns-in_err-names t c =
    let p = err_from_is_err_and c.from_residual.result c.from_residual.ensures.1 in
    let l = part_leads c.args.input.now (from_at c.args.input.now c.args.whole) c.args.left (from_at c.args.input.now c.args.at) in
    rw (p.1, p.2) (fails_leads _ _ _ l _ (fails_then _ _ _ _ c.in_err-names.ensures))

pub read_part-returns-then-not-colon_at : goal.read_part-returns-then-not-colon_at
read_part-returns-then-not-colon_at t c =
    let l = part_leads c.args.input.now (from_at c.args.input.now c.args.whole) c.args.left (from_at c.args.input.now c.args.at) in
    fails_leads _ _ _ (leads_on (leads_then _ c.in_ok-names.ensures.runs) l)
    _ (fails_stuck _ _ _ (sym c.colon_at.ensures ∙ c.if-not-colon_at.true) _ c.stuck.ensures)

pub read_part-returns-in_err-of : goal.read_part-returns-in_err-of
read_part-returns-in_err-of t c =
    let p = err_from_is_err_and c.from_residual-in_err-of.result c.from_residual-in_err-of.ensures.1 in
    let l = part_leads c.args.input.now (from_at c.args.input.now c.args.whole) c.args.left (from_at c.args.input.now c.args.at) in
    let m = leads_past c.args.input.now c.in_ok-names.names.next
    (of_run c.args.input.now (from_at c.args.input.now c.args.whole) c.args.left c.in_ok-names.names.value.items)
    (sym c.colon_at.ensures ∙ c.if-not-colon_at.false) in
    rw (p.1, p.2) (fails_leads _ _ _ (leads_on m (leads_on (leads_then _ c.in_ok-names.ensures.runs) l)) _ (fails_then _ _ _ _ c.in_err-of.ensures))

pub read_part-returns : goal.read_part-returns
read_part-returns t c =
    let l = part_leads c.args.input.now (from_at c.args.input.now c.args.whole) c.args.left (from_at c.args.input.now c.args.at) in
    let m = leads_past c.args.input.now c.in_ok-names.names.next
    (of_run c.args.input.now (from_at c.args.input.now c.args.whole) c.args.left c.in_ok-names.names.value.items)
    (sym c.colon_at.ensures ∙ c.if-not-colon_at.false) in
    let g = c.in_ok-names.ensures.goes in
    let h = c.in_ok-of.ensures.goes in
    found _ _ (leads_on (leads_then _ c.in_ok-of.ensures.runs) (leads_on m (leads_on (leads_then _ c.in_ok-names.ensures.runs) l))) (omega (arith, g, h))
    c.in_ok-of.ensures.within

pub read_parts-loop-alloc-init : goal.read_parts-loop-alloc-init
read_parts-loop-alloc-init t c =
    begins (parts_loop (origin_of c.args.input.now) (from_at c.args.input.now c.args.whole) c.args.left) _ c.args.input.now
    _ _ _ _ (ap fields_of (only_one _ c.in_ok-fields.ensures.ok c.new.ensures.items)) (λ o h. h) (omega arith) c.requires.within

pub read_parts-returns-in_err-one : goal.read_parts-returns-in_err-one
read_parts-returns-in_err-one t c =
    let p = err_from_is_err_and c.from_residual-in_err-one.result c.from_residual-in_err-one.ensures.1 in
    let b = behind_at c.loop-alloc.next c.args.input.now.tokens.now in
    rw (p.1, p.2) (loop_fails (parts_loop (origin_of c.args.input.now) (from_at c.args.input.now c.args.whole) c.args.left) _ c.args.input.now _ _ _ _ _ b
    c.loop-alloc.invariant (sym c.comma_at.ensures ∙ c.loop-alloc-test.true) c.in_err-one.ensures)

pub read_parts-loop-alloc-preserved : goal.read_parts-loop-alloc-preserved
read_parts-loop-alloc-preserved t c =
    let b = behind_at c.loop-alloc.next c.args.input.now.tokens.now in
    loop_on (parts_loop (origin_of c.args.input.now) (from_at c.args.input.now c.args.whole) c.args.left) _ c.args.input.now _ _ _ _ _ _ _ _ b refl
    (omega arith) c.loop-alloc.invariant (sym c.comma_at.ensures ∙ c.loop-alloc-test.true) c.in_ok-one.ensures
    (ap fields_of c.in_ok-fields-2.ensures.ok ∙ and_part c.loop-alloc.fields.items c.in_ok-one.one.value)

pub read_parts-returns : goal.read_parts-returns
read_parts-returns t c =
    let h = loop_ends (parts_loop (origin_of c.args.input.now) (from_at c.args.input.now c.args.whole) c.args.left) _ c.args.input.now
    _ _ _ c.loop-alloc.invariant (sym c.comma_at.ensures ∙ c.loop-alloc-test.false) in
    found _ _ h.leads h.goes h.within
