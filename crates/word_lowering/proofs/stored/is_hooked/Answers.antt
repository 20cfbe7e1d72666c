use Rattle.std.proofs.Common.{◌≡◌, ◌≤◌, List, length, sym, ap, ◌∙◌, arith, true, false}
use Rattle.std.specs.Prelude.{nat_lt, ◌&&◌}
use Rattle.std.proofs.lemmas.Bool.{lt-ltb, le-ltb}
use Rattle.nim_types.specs.declared.types.TypeDef.{TypeDef}
use Rattle.nim_types.specs.Table.{type_at, types_in, facts_in}
use Rattle.nim_types.specs.Forms.{hooked, form_of}
use Rattle.word_lowering.proofs.stored.is_hooked.Goals as goal

-- beyond the table there is none
pub returns-then-ty-count : goal.returns-then-ty-count
returns-then-ty-count c =
    let table : List TypeDef = c.args.types.now in
    let past : length table ≤ c.args.ty = omega (arith, c.if-ty-count.true, c.count.ensures.count) in
    let none : nat_lt c.args.ty (length table) ≡ false = le-ltb c.args.ty (length table) past in
    sym (ap (λ b. b && hooked (form_of (facts_in table) (type_at (types_in table) c.args.ty))) none)

pub returns : goal.returns
returns c =
    let table : List TypeDef = c.args.types.now in
    let within = c.if-ty-count.false in
    let many = c.count.ensures.count in
    let inside : nat_lt c.args.ty (length table) ≡ true = lt-ltb c.args.ty (length table) (omega (arith, within, many)) in
    let h = c.requires c.args.ty (omega (arith, within, many)) in
    c.is_hooked.ensures true h.0 h.1
    ∙ ap hooked (sym (c.type_forms.ensures.computed _ _ h.0 h.1))
    ∙ sym (ap (λ b. b && hooked (form_of (facts_in table) (type_at (types_in table) c.args.ty))) inside)
