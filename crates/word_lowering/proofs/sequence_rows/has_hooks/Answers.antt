use Rattle.std.proofs.Common.{◌≡◌, ◌≤◌, ℕ, zero, suc, List, [], ◌∷◌, length, true, sym, ap, ◌∙◌, refl, arith}
use Rattle.std.proofs.lemmas.Bool.{le-ltb}
use Rattle.nim_types.specs.Forms.{hooked, form_of}
use Rattle.nim_types.specs.Types as type
use Rattle.nim_types.specs.Types.{Ty}
use Rattle.nim_types.specs.Table.{type_at, types_in, facts_in}
use Rattle.nim_types.proofs.ForCallers.{the_form, count}
use Rattle.word_lowering.proofs.sequence_rows.has_hooks.Goals as goal

beyond : (ts : List Ty) (i : ℕ) → length ts ≤ i → type_at ts i ≡ type.int
beyond [] i l = refl
beyond (t ∷ ts) zero l = absurd (omega (arith, l))
beyond (t ∷ ts) (suc i) l = beyond ts i (omega (arith, l))

pub returns-then-ty-count : goal.returns-then-ty-count
returns-then-ty-count c =
    let h = c.requires c.args.ty (omega (arith, c.if-ty-count.true, c.count.ensures.count)) in
    c.is_hooked.ensures true h.0 h.1 ∙ ap hooked (sym (the_form h.1))

-- beyond the table it is int
pub returns-else-ty-count : goal.returns-else-ty-count
returns-else-ty-count c =
    let table = c.args.types.now in
    let n = count table in
    let past : length (types_in table) ≤ c.args.ty = omega (arith, n, c.if-ty-count.false, c.count.ensures.count) in
    le-ltb c.args.ty c.count.result c.if-ty-count.false ∙ sym (ap (λ t. hooked (form_of (facts_in table) t)) (beyond (types_in table) c.args.ty past))
