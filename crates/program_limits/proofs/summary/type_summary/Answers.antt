use Rattle.std.proofs.Common.{◌<◌, ◌∙◌, ap, sym, subst, arith, Some, None}
use Rattle.std.specs.Prelude.{option_map, length}
use Rattle.nim_types.specs.declared.types.TypeDef.TheVariants as D
use Rattle.nim_types.specs.Entries.{says}
use Rattle.nim_types.specs.Table.{IsWithin}
use Rattle.nim_types.proofs.ForCallers.{entry_inside, count}
use Rattle.program_limits.specs.Summaries.{summary_of, form_at, forms_at, summary_at, summaries_at, AreKnown}
use Rattle.program_limits.proofs.FormRows.{form_entry, form_object, form_unknown, form_zero, form_zero_distinct, form_distinct}
use Rattle.program_limits.proofs.Rounds.{first_zero, last_known}
use Rattle.program_limits.proofs.summary.type_summary.Goals as goal

pub returns-in-None : goal.returns-in-None
returns-in-None c = λ n last before.
    let ds = c.args.types.now in
    let h = sym c.entry.ensures.is ∙ ap (option_map (λ d. d.now)) c.in-None.is in
    c.alone.ensures ∙ sym (ap summary_of (form_entry ds c.entry.ensures.table n c.args.ty None h))

pub returns-in-Text : goal.returns-in-Text
returns-in-Text c = λ n last before.
    let ds = c.args.types.now in
    let h = sym c.entry.ensures.is ∙ ap (option_map (λ d. d.now)) c.in-Some.is ∙ ap Some c.in-Text.is in
    c.alone-in-Text.ensures ∙ sym (ap summary_of (form_entry ds c.entry.ensures.table n c.args.ty (Some D.Text) h))

pub returns-in-Seq : goal.returns-in-Seq
returns-in-Seq c = λ n last before.
    let ds = c.args.types.now in
    let h = sym c.entry.ensures.is ∙ ap (option_map (λ d. d.now)) c.in-Some.is ∙ ap Some c.in-Seq.is in
    let lt : c.in-Seq.of < c.args.ty = subst (IsWithin c.args.ty) c.in-Seq.is c.in-Some.ensures.within in
    c.elements_of.ensures (form_at n ds c.in-Seq.of) (c.look.ensures ∙ before c.in-Seq.of lt)
    ∙ sym (ap summary_of (form_entry ds c.entry.ensures.table n c.args.ty (Some (D.Seq c.in-Seq.of)) h))

pub returns-in-Array : goal.returns-in-Array
returns-in-Array c = λ n last before.
    let ds = c.args.types.now in
    let h = sym c.entry.ensures.is ∙ ap (option_map (λ d. d.now)) c.in-Some.is ∙ ap Some c.in-Array.is in
    let lt : c.in-Array.of < c.args.ty = subst (IsWithin c.args.ty) c.in-Array.is c.in-Some.ensures.within in
    c.row_of.ensures (form_at n ds c.in-Array.of) (c.look-in-Array.ensures ∙ before c.in-Array.of lt)
    ∙ sym (ap summary_of (form_entry ds c.entry.ensures.table n c.args.ty (Some (D.Array c.in-Array.len c.in-Array.of)) h))

pub returns-in-Tuple : goal.returns-in-Tuple
returns-in-Tuple c = λ n last before.
    let ds = c.args.types.now in
    let h = sym c.entry.ensures.is ∙ ap (option_map (λ d. d.now)) c.in-Some.is ∙ ap Some c.in-Tuple.is in
    c.whole_of.ensures (forms_at n ds c.in-Tuple.parts) (c.look_all.ensures n ds before ∙ ap (summaries_at n ds) c.as_slice.ensures)
    ∙ sym (ap summary_of (form_entry ds c.entry.ensures.table n c.args.ty (Some (D.Tuple c.in-Tuple.names c.in-Tuple.parts)) h))

pub returns-in-Int : goal.returns-in-Int
returns-in-Int c = λ n last before.
    let ds = c.args.types.now in
    let h = sym c.entry.ensures.is ∙ ap (option_map (λ d. d.now)) c.in-Some.is ∙ ap Some c.in-Int.is in
    c.alone-in-Int.ensures ∙ sym (ap summary_of (form_entry ds c.entry.ensures.table n c.args.ty (Some D.Int) h))

pub returns-in-Bool : goal.returns-in-Bool
returns-in-Bool c = λ n last before.
    let ds = c.args.types.now in
    let h = sym c.entry.ensures.is ∙ ap (option_map (λ d. d.now)) c.in-Some.is ∙ ap Some c.in-Bool.is in
    c.alone-in-Bool.ensures ∙ sym (ap summary_of (form_entry ds c.entry.ensures.table n c.args.ty (Some D.Bool) h))

pub returns-in-Char : goal.returns-in-Char
returns-in-Char c = λ n last before.
    let ds = c.args.types.now in
    let h = sym c.entry.ensures.is ∙ ap (option_map (λ d. d.now)) c.in-Some.is ∙ ap Some c.in-Char.is in
    c.alone-in-Char.ensures ∙ sym (ap summary_of (form_entry ds c.entry.ensures.table n c.args.ty (Some D.Char) h))

pub returns-in-Param : goal.returns-in-Param
returns-in-Param c = λ n last before.
    let ds = c.args.types.now in
    let h = sym c.entry.ensures.is ∙ ap (option_map (λ d. d.now)) c.in-Some.is ∙ ap Some c.in-Param.is in
    c.alone-in-Param.ensures ∙ sym (ap summary_of (form_entry ds c.entry.ensures.table n c.args.ty (Some (D.Param c.in-Param.field-0)) h))

pub returns-in-Ref : goal.returns-in-Ref
returns-in-Ref c = λ n last before.
    let ds = c.args.types.now in
    let h = sym c.entry.ensures.is ∙ ap (option_map (λ d. d.now)) c.in-Some.is ∙ ap Some c.in-Ref.is in
    c.alone-in-Ref.ensures ∙ sym (ap summary_of (form_entry ds c.entry.ensures.table n c.args.ty (Some (D.Ref c.in-Ref.name c.in-Ref.to)) h))

pub returns-in-Enum : goal.returns-in-Enum
returns-in-Enum c = λ n last before.
    let ds = c.args.types.now in
    let h = sym c.entry.ensures.is ∙ ap (option_map (λ d. d.now)) c.in-Some.is ∙ ap Some c.in-Enum.is in
    c.alone-in-Enum.ensures
    ∙ sym (ap summary_of (form_entry ds c.entry.ensures.table n c.args.ty (Some (D.Enum c.in-Enum.name c.in-Enum.at c.in-Enum.members)) h))

pub returns-in-Exception : goal.returns-in-Exception
returns-in-Exception c = λ n last before.
    let ds = c.args.types.now in
    let h = sym c.entry.ensures.is ∙ ap (option_map (λ d. d.now)) c.in-Some.is ∙ ap Some c.in-Exception.is in
    c.alone-in-Exception.ensures
    ∙ sym (ap summary_of (form_entry ds c.entry.ensures.table n c.args.ty
    (Some (D.Exception c.in-Exception.name c.in-Exception.at c.in-Exception.parent)) h))

pub returns-then-first : goal.returns-then-first
returns-then-first c = λ n last before.
    let ds = c.args.types.now in
    let o = c.in-Object in
    let h = sym c.entry.ensures.is ∙ ap (option_map (λ d. d.now)) c.in-Some.is ∙ ap Some c.in-Object.is in
    let e = first_zero c.args.first n ds c.args.last.now c.if-first.true last in
    c.alone-then-first.ensures
    ∙ sym (ap summary_of (form_zero ds c.entry.ensures.table n c.args.ty o.name o.at o.args o.fields o.resource o.parts e h))

pub returns-then-not-says : goal.returns-then-not-says
returns-then-not-says c = λ n last before.
    let ds = c.args.types.now in
    let o = c.in-Object in
    let h = sym c.entry.ensures.is ∙ ap (option_map (λ d. d.now)) c.in-Some.is ∙ ap Some c.in-Object.is in
    let k = sym (ap says c.in-Object.is) ∙ sym c.says.ensures ∙ c.if-not-says.true in
    c.alone-then-not-says.ensures
    ∙ sym (ap summary_of (form_unknown ds c.entry.ensures.table n o.name o.at o.args o.fields o.resource o.parts c.args.ty h k))

pub returns-else-not-says : goal.returns-else-not-says
returns-else-not-says c = λ n last before.
    let ds = c.args.types.now in
    let o = c.in-Object in
    let h = sym c.entry.ensures.is ∙ ap (option_map (λ d. d.now)) c.in-Some.is ∙ ap Some c.in-Object.is in
    let k = sym (ap says c.in-Object.is) ∙ sym c.says.ensures ∙ c.if-not-says.false in
    let w = last_known c.args.first n ds c.args.last.now c.if-first.false last in
    let m = w.0 in
    let known = subst (λ b. AreKnown m ds c.args.last.now b) (sym c.count.ensures.count) w.2 in
    c.whole_of-in-Object.ensures (forms_at m ds o.parts) (c.look_all-in-Object.ensures m ds known ∙ ap (summaries_at m ds) c.as_slice-in-Object.ensures)
    ∙ sym (ap (λ d. summary_at d ds c.args.ty) w.1
    ∙ ap summary_of (form_object ds c.entry.ensures.table m o.name o.at o.args o.fields o.resource o.parts c.args.ty h k))

pub returns-then-first-2 : goal.returns-then-first-2
returns-then-first-2 c = λ n last before.
    let ds = c.args.types.now in
    let h = sym c.entry.ensures.is ∙ ap (option_map (λ d. d.now)) c.in-Some.is ∙ ap Some c.in-Distinct.is in
    let e = first_zero c.args.first n ds c.args.last.now c.if-first-2.true last in
    c.alone-then-first-2.ensures
    ∙ sym (ap summary_of (form_zero_distinct ds c.entry.ensures.table n c.args.ty c.in-Distinct.name c.in-Distinct.at c.in-Distinct.base e h))

pub returns-else-first-2 : goal.returns-else-first-2
returns-else-first-2 c = λ n last before.
    let ds = c.args.types.now in
    let ty = c.args.ty in
    let h = sym c.entry.ensures.is ∙ ap (option_map (λ d. d.now)) c.in-Some.is ∙ ap Some c.in-Distinct.is in
    let w = last_known c.args.first n ds c.args.last.now c.if-first-2.false last in
    let m = w.0 in
    let base = c.in-Distinct.base in
    let def = D.Distinct c.in-Distinct.name c.in-Distinct.at base in
    let lt : base < length ds = omega (arith, entry_inside ds ty def c.entry.ensures.table h, count ds) in
    c.wrapped_around.ensures (form_at m ds base) (c.look-in-Distinct.ensures ∙ w.2 base lt)
    ∙ sym (ap (λ d. summary_at d ds ty) w.1
    ∙ ap summary_of (form_distinct ds c.entry.ensures.table m c.in-Distinct.name c.in-Distinct.at base ty h))
