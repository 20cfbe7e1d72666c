-- What is put for parts and for types, one after another.
use Rattle.std.proofs.Common.{◌≡◌, ℕ, zero, suc, ◌+◌, ◌<◌, ◌≤◌, List, [], ◌∷◌, ◌++◌, length, drop, Some, refl, sym, ap, ◌∙◌, arith, append_assoc}
use Rattle.std.specs.Prelude.{slice_index_or, slice_get}
use Rattle.nim_types.specs.declared.types.TypeDef.{TypeDef}
use Rattle.nim_types.specs.Table.{AllBelow}
use Rattle.hook_lifting.specs.declared.lifted.Hook.{Hook}
use Rattle.hook_lifting.specs.declared.lifted.LiftedLine.{LiftedLine}
use Rattle.hook_lifting.specs.Lifted.{one_part, part_lines, each_from}

pub below_at : (n : ℕ) (parts : List ℕ) (i : ℕ) → AllBelow n parts → i < length parts → slice_index_or parts i 0 < n
below_at n [] i h less = absurd (omega (arith, less))
below_at n (p ∷ ps) zero h less = h.0
below_at n (p ∷ ps) (suc i) h less = below_at n ps i h.1 (omega (arith, less))

drop_suc : (parts : List ℕ) (i : ℕ) → i < length parts → drop i parts ≡ slice_index_or parts i 0 ∷ drop (suc i) parts
drop_suc [] i less = absurd (omega (arith, less))
drop_suc (p ∷ ps) zero less = refl
drop_suc (p ∷ ps) (suc i) less = drop_suc ps i (omega (arith, less))

pub parts_next : (table : List TypeDef) (hook : Hook) (parts : List ℕ) (i part : ℕ) → i < length parts → (k : List LiftedLine) →
    one_part table hook (slice_index_or parts i 0) part (part_lines table hook (drop (i + 1) parts) (part + 1) k)
    ≡ part_lines table hook (drop i parts) part k
parts_next table hook parts i part less k =
    let e : i + 1 ≡ suc i = omega arith in
    let f : part + 1 ≡ suc part = omega arith in
    ap (λ n. one_part table hook (slice_index_or parts i 0) part (part_lines table hook (drop n parts) (part + 1) k)) e
    ∙ (ap (λ n. one_part table hook (slice_index_or parts i 0) part (part_lines table hook (drop (suc i) parts) n k)) f
    ∙ ap (λ ps. part_lines table hook ps part k) (sym (drop_suc parts i less)))

pub drop_all : {X : Type 0} (xs : List X) (i : ℕ) → length xs ≤ i → drop i xs ≡ []
drop_all [] zero le = refl
drop_all [] (suc i) le = refl
drop_all (x ∷ xs) zero le = absurd (omega (arith, le))
drop_all (x ∷ xs) (suc i) le = drop_all xs i (omega (arith, le))

-- ---- types

entry_at : (ds : List TypeDef) (i : ℕ) → i < length ds → (d : TypeDef) × (slice_get ds i ≡ Some d) × (drop i ds ≡ d ∷ drop (suc i) ds)
entry_at [] i less = absurd (omega (arith, less))
entry_at (d ∷ ds) zero less = (d, refl, refl)
entry_at (d ∷ ds) (suc i) less = entry_at ds i (omega (arith, less))

pub types_next : {X : Type 0} (of : (ty : ℕ) → TypeDef → List X) (ds : List TypeDef) (i : ℕ) (old new : List X) → i < length ds →
    ((entry : TypeDef) → slice_get ds i ≡ Some entry → new ≡ old ++ of i entry) →
    new ++ each_from of (drop (i + 1) ds) (i + 1) ≡ old ++ each_from of (drop i ds) i
types_next of ds i old new less added =
    let e : i + 1 ≡ suc i = omega arith in
    let d = entry_at ds i less in
    ap (λ n. new ++ each_from of (drop n ds) n) e
    ∙ (ap (λ all. all ++ each_from of (drop (suc i) ds) (suc i)) (added d.0 d.1)
    ∙ (append_assoc old (of i d.0) (each_from of (drop (suc i) ds) (suc i)) ∙ ap (λ ds. old ++ each_from of ds i) (sym d.2)))
