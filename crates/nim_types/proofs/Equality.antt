-- Equality of types is decided by `same`.
use Rattle.std.proofs.Common.{◌≡◌, ℕ, List, [], ◌∷◌, refl, ap, ap₂, ◌∙◌, Some, None}
use Rattle.std.specs.Prelude.{Bool, true, false, ◌&&◌, nat_eq, Option}
use Rattle.std.specs.Cmp.Lexicographic.{pointwise}
use Rattle.std.proofs.lemmas.Bool.{both_ways, eqb-true, eq-eqb, and_parts, and_from}
use Rattle.arc_base.specs.declared.place.Place.{Place}
use Rattle.nim_types.specs.Types.{Ty, int, bool, char, text, sequence, array, tuple, parameter, enum, object, distinct, ref, exception, Tys, no_types, types}
use Rattle.nim_types.specs.Types.{Key, same, same_all, same_key, same_place, same_text, same_name}

pub each_sound : {X : Type 0} (e : X → X → Bool) → ((x y : X) → e x y ≡ true → x ≡ y) → (xs ys : List X) → pointwise e xs ys ≡ true → xs ≡ ys
each_sound e h [] [] p = refl
each_sound e h (x ∷ xs) (y ∷ ys) p = let q = and_parts (e x y) (pointwise e xs ys) p in ap₂ (λ a b. a ∷ b) (h x y q.0) (each_sound e h xs ys q.1)
each_sound e h [] (y ∷ ys) p = absurd (both_ways false refl p)
each_sound e h (x ∷ xs) [] p = absurd (both_ways false refl p)

pub each_refl : {X : Type 0} (e : X → X → Bool) → ((x : X) → e x x ≡ true) → (xs : List X) → pointwise e xs xs ≡ true
each_refl e h [] = refl
each_refl e h (x ∷ xs) = and_from (e x x) (pointwise e xs xs) (h x) (each_refl e h xs)

pub text_sound : (a b : List ℕ) → same_text a b ≡ true → a ≡ b
text_sound a b h = each_sound nat_eq eqb-true a b h

pub text_refl : (a : List ℕ) → same_text a a ≡ true
text_refl a = each_refl nat_eq (λ n. eq-eqb n n refl) a

pub place_sound : (a b : Place) → same_place a b ≡ true → a ≡ b
place_sound a b h =
    let p = and_parts (nat_eq a.module b.module && nat_eq a.line b.line) (nat_eq a.column b.column) h in
    let q = and_parts (nat_eq a.module b.module) (nat_eq a.line b.line) p.0 in
    ap (λ m. record { «module» = m; line = a.line; column = a.column }) (eqb-true a.module b.module q.0)
    ∙ ap (λ m. record { «module» = b.module; line = m; column = a.column }) (eqb-true a.line b.line q.1)
    ∙ ap (λ m. record { «module» = b.module; line = b.line; column = m }) (eqb-true a.column b.column p.1)

pub place_refl : (a : Place) → same_place a a ≡ true
place_refl a = and_from _ _ (and_from _ _ (eq-eqb a.module a.module refl) (eq-eqb a.line a.line refl)) (eq-eqb a.column a.column refl)

pub key_sound : (a b : Key) → same_key a b ≡ true → a ≡ b
key_sound a b h =
    let p = and_parts (same_text a.name b.name) (same_place a.at b.at) h in
    ap (λ m. record { name = m; at = a.at }) (text_sound a.name b.name p.0) ∙ ap (λ m. record { name = b.name; at = m }) (place_sound a.at b.at p.1)

pub key_refl : (a : Key) → same_key a a ≡ true
key_refl a = and_from _ _ (text_refl a.name) (place_refl a.at)

pub name_sound : (a b : Option (List ℕ)) → same_name a b ≡ true → a ≡ b
name_sound None None h = refl
name_sound (Some a) (Some b) h = ap Some (text_sound a b h)
name_sound None (Some b) h = absurd (both_ways false refl h)
name_sound (Some a) None h = absurd (both_ways false refl h)

pub name_refl : (a : Option (List ℕ)) → same_name a a ≡ true
name_refl None = refl
name_refl (Some a) = text_refl a

mutual
  pub same_sound : (a b : Ty) → same a b ≡ true → a ≡ b
  same_sound int int h = refl
  same_sound bool bool h = refl
  same_sound char char h = refl
  same_sound text text h = refl
  same_sound (sequence a) (sequence b) h = ap sequence (same_sound a b h)
  same_sound (array m a) (array n b) h =
      let p = and_parts (nat_eq m n) (same a b) h in ap₂ (λ x y. array x y) (eqb-true m n p.0) (same_sound a b p.1)
  same_sound (tuple xs ts) (tuple ys us) h =
      let p = and_parts (pointwise same_text xs ys) (same_all ts us) h in
      ap₂ (λ x y. tuple x y) (each_sound same_text text_sound xs ys p.0) (same_all_sound ts us p.1)
  same_sound (parameter m) (parameter n) h = ap parameter (eqb-true m n h)
  same_sound (enum a) (enum b) h = ap enum (key_sound a b h)
  same_sound (object a ts) (object b us) h =
      let p = and_parts (same_key a b) (same_all ts us) h in ap₂ (λ x y. object x y) (key_sound a b p.0) (same_all_sound ts us p.1)
  same_sound (distinct a) (distinct b) h = ap distinct (key_sound a b h)
  same_sound (ref x a) (ref y b) h = let p = and_parts (same_name x y) (same a b) h in ap₂ (λ u v. ref u v) (name_sound x y p.0) (same_sound a b p.1)
  same_sound (exception a) (exception b) h = ap exception (key_sound a b h)
  same_sound _ _ h = absurd (both_ways false refl h)

  pub same_all_sound : (ts us : Tys) → same_all ts us ≡ true → ts ≡ us
  same_all_sound no_types no_types h = refl
  same_all_sound (types t ts) (types u us) h =
      let p = and_parts (same t u) (same_all ts us) h in ap₂ (λ x y. types x y) (same_sound t u p.0) (same_all_sound ts us p.1)
  same_all_sound _ _ h = absurd (both_ways false refl h)

mutual
  pub same_refl : (a : Ty) → same a a ≡ true
  same_refl int = refl
  same_refl bool = refl
  same_refl char = refl
  same_refl text = refl
  same_refl (sequence a) = same_refl a
  same_refl (array m a) = and_from (nat_eq m m) (same a a) (eq-eqb m m refl) (same_refl a)
  same_refl (tuple xs ts) = and_from (pointwise same_text xs xs) (same_all ts ts) (each_refl same_text text_refl xs) (same_all_refl ts)
  same_refl (parameter m) = eq-eqb m m refl
  same_refl (enum a) = key_refl a
  same_refl (object a ts) = and_from (same_key a a) (same_all ts ts) (key_refl a) (same_all_refl ts)
  same_refl (distinct a) = key_refl a
  same_refl (ref x a) = and_from (same_name x x) (same a a) (name_refl x) (same_refl a)
  same_refl (exception a) = key_refl a

  pub same_all_refl : (ts : Tys) → same_all ts ts ≡ true
  same_all_refl no_types = refl
  same_all_refl (types t ts) = and_from (same t t) (same_all ts ts) (same_refl t) (same_all_refl ts)
