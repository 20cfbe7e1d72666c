use Rattle.std.proofs.Common.{◌≡◌, ◌≤◌, ℕ, zero, suc, List, [], ◌∷◌, length, refl, ap, sym, ◌∙◌, arith, true}
use Rattle.nim_types.specs.Types as type
use Rattle.nim_types.specs.Types.{Ty}
use Rattle.nim_types.specs.Table.{type_at, types_in, facts_in}
use Rattle.nim_types.specs.Forms.{size, form_of}
use Rattle.nim_types.proofs.ForCallers.{count}
use Rattle.hook_code.proofs.bytes.bytes_at.Goals as goal

beyond : (ts : List Ty) (i : ℕ) → length ts ≤ i → type_at ts i ≡ type.int
beyond [] i l = refl
beyond (t ∷ ts) zero l = absurd (omega (arith, l))
beyond (t ∷ ts) (suc i) l = beyond ts i (omega (arith, l))

-- beyond the table it is int
pub returns-then-ty-count : goal.returns-then-ty-count
returns-then-ty-count c =
    let table = c.args.types.now in
    let n = count table in
    let past : length (types_in table) ≤ c.args.ty = omega (arith, n, c.if-ty-count.true, c.count.ensures.count) in
    sym (ap (λ t. size (form_of (facts_in table) t)) (beyond (types_in table) c.args.ty past))

pub returns : goal.returns
returns c =
    let h = c.requires c.args.ty (omega (arith, c.if-ty-count.false, c.count.ensures.count)) in
    let e = c.size_of-bytes.ensures true h.0 h.1 in
    let s : c.size_of-bytes.result ≡ size h.0 = omega (arith, e, c.if-bytes.false) in
    s ∙ ap size (sym (c.type_forms.ensures.computed _ _ h.0 h.1))
