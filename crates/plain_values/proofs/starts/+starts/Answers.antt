use Rattle.std.proofs.Common.{◌≡◌, ◌<◌, ◌-◌, suc, ◌∙◌, ap, sym, arith, Some, None}
use Rattle.std.specs.Prelude.{option_map, length}
use Rattle.nim_types.specs.declared.types.TypeDef.TheVariants as D
use Rattle.nim_types.specs.Entries.{says}
use Rattle.nim_types.proofs.ForCallers.{index_get, one_below}
use Rattle.nim_program.specs.Program.{Characters, PartsOf}
use Rattle.nim_program.specs.Defaults.{times}
use Rattle.plain_values.specs.Entries.{starts_at, starts_all}
use Rattle.plain_values.proofs.StartRows.{one_of_many, one_start, start_entry, start_object, start_unknown, start_zero, start_zero_distinct}
use Rattle.plain_values.proofs.StartRows.{start_distinct, if_is}
use Rattle.plain_values.proofs.starts.+starts.Goals as goal

pub start-returns-in-None : goal.start-returns-in-None
start-returns-in-None t c =
    let h = sym c.entry.ensures.is ∙ ap (option_map (λ d. d.now)) c.in-None.is in
    sym (start_entry c.args.types.now c.entry.ensures.table c.args.within c.args.ty None h)

pub start-returns-in-Text : goal.start-returns-in-Text
start-returns-in-Text t c =
    let h = sym c.entry.ensures.is ∙ ap (option_map (λ d. d.now)) c.in-Some.is ∙ ap Some c.in-Text.is in
    ap Characters c.new.ensures ∙ sym (start_entry c.args.types.now c.entry.ensures.table c.args.within c.args.ty (Some D.Text) h)

pub start-returns-in-Seq : goal.start-returns-in-Seq
start-returns-in-Seq t c =
    let h = sym c.entry.ensures.is ∙ ap (option_map (λ d. d.now)) c.in-Some.is ∙ ap Some c.in-Seq.is in
    c.no_elements.ensures ∙ sym (start_entry c.args.types.now c.entry.ensures.table c.args.within c.args.ty (Some (D.Seq c.in-Seq.field-0)) h)

pub start-returns-in_ok-all-in-Array : goal.start-returns-in_ok-all-in-Array
start-returns-in_ok-all-in-Array t c =
    let ds = c.args.types.now in
    let n = c.args.within in
    let table = c.entry.ensures.table in
    let h = sym c.entry.ensures.is ∙ ap (option_map (λ d. d.now)) c.in-Some.is ∙ ap Some c.in-Array.is in
    c.parts_with.ensures ∙ ap PartsOf c.in_ok-all-in-Array.ensures
    ∙ sym (start_entry ds table n c.args.ty (Some (D.Array c.in-Array.len c.in-Array.of)) h)

pub start-returns-in_ok-all-in-Tuple : goal.start-returns-in_ok-all-in-Tuple
start-returns-in_ok-all-in-Tuple t c =
    let ds = c.args.types.now in
    let n = c.args.within in
    let table = c.entry.ensures.table in
    let h = sym c.entry.ensures.is ∙ ap (option_map (λ d. d.now)) c.in-Some.is ∙ ap Some c.in-Tuple.is in
    c.parts_with-in-Tuple.ensures ∙ ap PartsOf (c.in_ok-all-in-Tuple.ensures ∙ ap (starts_all n ds) c.as_slice.ensures)
    ∙ sym (start_entry ds table n c.args.ty (Some (D.Tuple c.in-Tuple.names c.in-Tuple.parts)) h)

pub start-returns-then-within-eq0 : goal.start-returns-then-within-eq0
start-returns-then-within-eq0 t c =
    let ds = c.args.types.now in
    let n = c.args.within in
    let table = c.entry.ensures.table in
    let h = sym c.entry.ensures.is ∙ ap (option_map (λ d. d.now)) c.in-Some.is ∙ ap Some c.in-Object.is in
    let e : n ≡ 0 = omega (arith, c.if-within-eq0.true) in
    c.no_parts.ensures
    ∙ sym (start_zero ds table n c.args.ty c.in-Object.name c.in-Object.at c.in-Object.args c.in-Object.fields c.in-Object.resource c.in-Object.parts e h)

pub start-returns-then-not-says : goal.start-returns-then-not-says
start-returns-then-not-says t c =
    let ds = c.args.types.now in
    let n = c.args.within in
    let table = c.entry.ensures.table in
    let h = sym c.entry.ensures.is ∙ ap (option_map (λ d. d.now)) c.in-Some.is ∙ ap Some c.in-Object.is in
    let k = sym (ap says c.in-Object.is) ∙ sym c.says.ensures ∙ c.if-not-says.true in
    c.no_parts-then-not-says.ensures
    ∙ sym (start_unknown ds table n c.in-Object.name c.in-Object.at c.in-Object.args c.in-Object.fields c.in-Object.resource c.in-Object.parts c.args.ty h k)

pub start-returns-in_ok-all-in-Object : goal.start-returns-in_ok-all-in-Object
start-returns-in_ok-all-in-Object t c =
    let ds = c.args.types.now in
    let n = c.args.within - 1 in
    let table = c.entry.ensures.table in
    let h = sym c.entry.ensures.is ∙ ap (option_map (λ d. d.now)) c.in-Some.is ∙ ap Some c.in-Object.is in
    let k = sym (ap says c.in-Object.is) ∙ sym c.says.ensures ∙ c.if-not-says.false in
    let e : c.args.within ≡ suc n = omega (arith, c.if-within-eq0.false) in
    c.parts_with-in-Object.ensures ∙ ap PartsOf (c.in_ok-all-in-Object.ensures ∙ ap (starts_all n ds) c.as_slice-in-Object.ensures)
    ∙ sym (ap (λ m. starts_at m ds c.args.ty) e
    ∙ start_object ds table n c.in-Object.name c.in-Object.at c.in-Object.args c.in-Object.fields c.in-Object.resource c.in-Object.parts c.args.ty h k)

pub start-returns-then-within-eq0-2 : goal.start-returns-then-within-eq0-2
start-returns-then-within-eq0-2 t c =
    let ds = c.args.types.now in
    let n = c.args.within in
    let table = c.entry.ensures.table in
    let h = sym c.entry.ensures.is ∙ ap (option_map (λ d. d.now)) c.in-Some.is ∙ ap Some c.in-Distinct.is in
    let e : n ≡ 0 = omega (arith, c.if-within-eq0-2.true) in
    c.no_parts-then-within-eq0-2.ensures ∙ sym (start_zero_distinct ds table n c.args.ty c.in-Distinct.name c.in-Distinct.at c.in-Distinct.base e h)

pub start-returns-else-within-eq0-2 : goal.start-returns-else-within-eq0-2
start-returns-else-within-eq0-2 t c =
    let ds = c.args.types.now in
    let n = c.args.within - 1 in
    let table = c.entry.ensures.table in
    let h = sym c.entry.ensures.is ∙ ap (option_map (λ d. d.now)) c.in-Some.is ∙ ap Some c.in-Distinct.is in
    let e : c.args.within ≡ suc n = omega (arith, c.if-within-eq0-2.false) in
    if_is c.start.result _ _ c.start.ensures
    (sym (ap (λ m. starts_at m ds c.args.ty) e ∙ start_distinct ds table n c.in-Distinct.name c.in-Distinct.at c.in-Distinct.base c.args.ty h))

pub start-returns-in-Int : goal.start-returns-in-Int
start-returns-in-Int t c =
    let h = sym c.entry.ensures.is ∙ ap (option_map (λ d. d.now)) c.in-Some.is ∙ ap Some c.in-Int.is in
    sym (start_entry c.args.types.now c.entry.ensures.table c.args.within c.args.ty (Some D.Int) h)

pub start-returns-in-Bool : goal.start-returns-in-Bool
start-returns-in-Bool t c =
    let h = sym c.entry.ensures.is ∙ ap (option_map (λ d. d.now)) c.in-Some.is ∙ ap Some c.in-Bool.is in
    sym (start_entry c.args.types.now c.entry.ensures.table c.args.within c.args.ty (Some D.Bool) h)

pub start-returns-in-Char : goal.start-returns-in-Char
start-returns-in-Char t c =
    let h = sym c.entry.ensures.is ∙ ap (option_map (λ d. d.now)) c.in-Some.is ∙ ap Some c.in-Char.is in
    sym (start_entry c.args.types.now c.entry.ensures.table c.args.within c.args.ty (Some D.Char) h)

pub start-returns-in-Param : goal.start-returns-in-Param
start-returns-in-Param t c =
    let h = sym c.entry.ensures.is ∙ ap (option_map (λ d. d.now)) c.in-Some.is ∙ ap Some c.in-Param.is in
    sym (start_entry c.args.types.now c.entry.ensures.table c.args.within c.args.ty (Some (D.Param c.in-Param.field-0)) h)

pub start-returns-in-Enum : goal.start-returns-in-Enum
start-returns-in-Enum t c =
    let h = sym c.entry.ensures.is ∙ ap (option_map (λ d. d.now)) c.in-Some.is ∙ ap Some c.in-Enum.is in
    sym (start_entry c.args.types.now c.entry.ensures.table c.args.within c.args.ty (Some (D.Enum c.in-Enum.name c.in-Enum.at c.in-Enum.members)) h)

pub start-returns-in-Ref : goal.start-returns-in-Ref
start-returns-in-Ref t c =
    let h = sym c.entry.ensures.is ∙ ap (option_map (λ d. d.now)) c.in-Some.is ∙ ap Some c.in-Ref.is in
    sym (start_entry c.args.types.now c.entry.ensures.table c.args.within c.args.ty (Some (D.Ref c.in-Ref.name c.in-Ref.to)) h)

pub start-returns-in-Exception : goal.start-returns-in-Exception
start-returns-in-Exception t c =
    let h = sym c.entry.ensures.is ∙ ap (option_map (λ d. d.now)) c.in-Some.is ∙ ap Some c.in-Exception.is in
    sym (start_entry c.args.types.now c.entry.ensures.table c.args.within c.args.ty
    (Some (D.Exception c.in-Exception.name c.in-Exception.at c.in-Exception.parent)) h)

pub start_row-loop-preserved : goal.start_row-loop-preserved
start_row-loop-preserved t c =
    one_of_many c.loop.counter _ c.loop.all.items c.in_ok-literal.literal (starts_at c.args.within c.args.types.now c.args.ty)
    c.in_ok-push.ensures.items c.loop.invariant c.in_ok-literal.ensures

pub start_row-returns : goal.start_row-returns
start_row-returns t c =
    let e : c.loop.counter ≡ c.args.count = omega (arith, c.loop-test.false, c.loop.auto.counter-end) in
    c.loop.invariant ∙ ap (λ n. times n (starts_at c.args.within c.args.types.now c.args.ty)) e

pub start_all-start-requires : goal.start_all-start-requires
start_all-start-requires t c =
    let k = c.loop-id.id-index in
    let lt : k < length c.args.ids.now = omega (arith, c.loop-id-test.true, c.loop-id.auto.id-index-end) in
    let below = one_below c.args.bound c.args.ids.now k _ c.requires (index_get c.args.ids.now k lt) in
    (omega (arith, below), tt)

pub start_all-loop-id-preserved : goal.start_all-loop-id-preserved
start_all-loop-id-preserved t c =
    let k = c.loop-id.id-index in
    let lt : k < length c.args.ids.now = omega (arith, c.loop-id-test.true, c.loop-id.auto.id-index-end) in
    one_start c.args.within c.args.types.now c.args.ids.now k _ _ c.loop-id.all.items c.in_ok-literal.literal (index_get c.args.ids.now k lt)
    c.in_ok-push.ensures.items c.loop-id.invariant c.in_ok-literal.ensures
