-- Finding an entry by its slot.
use Rattle.std.proofs.Common.{◌≡◌, ℕ, zero, suc, ◌≤◌, List, [], ◌∷◌, ◌++◌, length, take, refl, ap, ap₂, ◌∙◌, Some, None, subst, arith, ⊎_elim, ◌⊎◌, inl, inr}
use Rattle.std.specs.Prelude.{true, false, ◌&&◌, Option, slice_get, nat_eq, replicate}
use Rattle.std.specs.Cmp.Lexicographic.{pointwise}
use Rattle.std.proofs.lemmas.Bool.{both_ways, eqb-true, and_parts, false_from_ne_true}
use Rattle.nim_types.specs.declared.types.TypeDef.{TypeDef}
use Rattle.nim_types.specs.declared.types.TypeDef.TheVariants as D
use Rattle.nim_types.specs.Types.{same_text, same_place, same_name}
use Rattle.nim_types.specs.Kept.{at_number, same_def, is_one, is_at, slot, mixed, mixed_all, mixed_texts, mixed_place, Reach, here, before, Chained}
use Rattle.nim_types.proofs.Equality.{each_sound, text_sound, place_sound}

-- ---- more slots

past_none : {X : Type 0} (n i : ℕ) → at_number {X = X} (replicate n None) i ≡ None
past_none zero i = refl
past_none (suc n) zero = refl
past_none (suc n) (suc i) = past_none n i

behind_none : {X : Type 0} (xs : List (Option X)) (n i : ℕ) → at_number (xs ++ replicate n None) i ≡ at_number xs i
behind_none [] n i = past_none n i
behind_none (x ∷ xs) n zero = refl
behind_none (x ∷ xs) n (suc i) = behind_none xs n i

take_whole : {X : Type 0} (n : ℕ) (xs : List X) → length xs ≤ n → take n xs ≡ xs
take_whole zero [] h = refl
take_whole zero (x ∷ xs) h = absurd (omega (arith, h))
take_whole (suc n) [] h = refl
take_whole (suc n) (x ∷ xs) h = ap (λ z. x ∷ z) (take_whole n xs (omega (arith, h)))

pub widened : {X : Type 0} (n m : ℕ) (xs : List (Option X)) → length xs ≤ n → (i : ℕ) → at_number (take n xs ++ replicate m None) i ≡ at_number xs i
widened n m xs h i = ap (λ z. at_number (z ++ replicate m None) i) (take_whole n xs h) ∙ behind_none xs m i

-- ---- equal entries have one slot

pub one_slot : (a b : TypeDef) → same_def a b ≡ true → slot a ≡ slot b
one_slot D.Int D.Int h = refl
one_slot D.Bool D.Bool h = refl
one_slot D.Char D.Char h = refl
one_slot D.Text D.Text h = refl
one_slot (D.Seq i) (D.Seq j) h = ap (mixed 4) (eqb-true i j h)
one_slot (D.Param i) (D.Param j) h = ap (mixed 5) (eqb-true i j h)
one_slot (D.Enum x p xs) (D.Enum y q ys) h = ap (mixed_place 6) (place_sound p q (and_parts (same_text x y) (same_place p q) h).1)
one_slot (D.Array m i) (D.Array n j) h =
    let p = and_parts (nat_eq m n) (nat_eq i j) h in ap₂ (λ a b. mixed (mixed 7 a) b) (eqb-true m n p.0) (eqb-true i j p.1)
one_slot (D.Tuple xs is) (D.Tuple ys js) h =
    let p = and_parts (pointwise same_text xs ys) (pointwise nat_eq is js) h in
    ap₂ (λ a b. mixed_all (mixed_texts 8 a) b) (each_sound same_text text_sound xs ys p.0) (each_sound nat_eq eqb-true is js p.1)
one_slot (D.Object x p is xs b ps) (D.Object y q js ys c qs) h =
    let r = and_parts (same_text x y && same_place p q) (pointwise nat_eq is js) h in
    let s = and_parts (same_text x y) (same_place p q) r.0 in
    ap₂ (λ a b. mixed_all (mixed_place 9 a) b) (place_sound p q s.1) (each_sound nat_eq eqb-true is js r.1)
one_slot (D.Distinct x p i) (D.Distinct y q j) h = ap (mixed_place 10) (place_sound p q (and_parts (same_text x y) (same_place p q) h).1)
one_slot (D.Ref x i) (D.Ref y j) h = ap (mixed 11) (eqb-true i j (and_parts (same_name x y) (nat_eq i j) h).1)
one_slot (D.Exception x p i) (D.Exception y q j) h = ap (mixed_place 12) (place_sound p q (and_parts (same_text x y) (same_place p q) h).1)
one_slot _ _ h = absurd (both_ways false refl h)

-- ---- going from one entry to the one before it

pub from_none : {nexts : List (Option ℕ)} {j : ℕ} → Reach nexts None j → ⊥
from_none h = elim h [ ]

pub from_some : {nexts : List (Option ℕ)} {i j : ℕ} → Reach nexts (Some i) j → (i ≡ j) ⊎ Reach nexts (at_number nexts i) j
from_some here = inl refl
from_some (before r) = inr r

-- each entry of this type is still ahead
pub Ahead : List TypeDef → List (Option ℕ) → TypeDef → Option ℕ → Type 0
Ahead ds nexts d next = (j : ℕ) → is_at ds j d ≡ true → Reach nexts next j

pub is_at_some : (o : Option TypeDef) (d : TypeDef) → is_one o d ≡ true → (e : TypeDef) × (o ≡ Some e) × (same_def e d ≡ true)
is_at_some None d h = absurd (both_ways false refl h)
is_at_some (Some e) d h = (e, refl, h)

pub all_ahead : (ds : List TypeDef) (heads nexts : List (Option ℕ)) (d : TypeDef) → Chained ds heads nexts → Ahead ds nexts d (at_number heads (slot d))
unfolding Ahead
all_ahead ds heads nexts d c j h =
    let r = is_at_some (slice_get ds j) d h in
    subst (λ s. Reach nexts (at_number heads s) j) (one_slot r.0 d r.2) (c.all j r.0 r.1)

pub goes_on : (ds : List TypeDef) (nexts : List (Option ℕ)) (d : TypeDef) (i : ℕ) → Ahead ds nexts d (Some i) → is_at ds i d ≡ false →
    Ahead ds nexts d (at_number nexts i)
unfolding Ahead
goes_on ds nexts d i a h j e = ⊎_elim (λ s. absurd (both_ways (is_at ds i d) h (ap (λ z. is_at ds z d) s ∙ e))) (λ r. r) (from_some (a j e))

pub nothing_ahead : (ds : List TypeDef) (nexts : List (Option ℕ)) (d : TypeDef) → Ahead ds nexts d None → (j : ℕ) → is_at ds j d ≡ false
unfolding Ahead
nothing_ahead ds nexts d a j = false_from_ne_true (is_at ds j d) (λ e. from_none (a j e))

abbrev pub up_to : Option ℕ → ℕ
up_to None = 0
up_to (Some i) = suc i
