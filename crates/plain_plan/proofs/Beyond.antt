-- A number beyond a table stands for an int.
use Rattle.std.proofs.Common.{◌≡◌, ℕ, zero, suc, ◌≤◌, false, List, [], ◌∷◌, length, refl, ap, arith}
use Rattle.nim_types.specs.Types.{Ty, int}
use Rattle.nim_types.specs.declared.types.TypeDef.{TypeDef}
use Rattle.nim_types.specs.Table.{type_at, types_in, facts_in}
use Rattle.nim_types.proofs.ForCallers.{count}
use Rattle.nim_meaning.specs.Here.{is_hooked}

beyond : (ts : List Ty) (i : ℕ) → length ts ≤ i → type_at ts i ≡ int
beyond [] i l = refl
beyond (t ∷ ts) zero l = absurd (omega (arith, l))
beyond (t ∷ ts) (suc i) l = beyond ts i (omega (arith, l))

pub unhooked_beyond : (ds : List TypeDef) (i : ℕ) → length ds ≤ i → is_hooked (facts_in ds) (type_at (types_in ds) i) ≡ false
unhooked_beyond ds i l =
    let same_length = count ds in
    ap (is_hooked (facts_in ds)) (beyond (types_in ds) i (omega (arith, l, same_length)))
