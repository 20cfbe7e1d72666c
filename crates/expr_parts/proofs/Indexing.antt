-- Finding declarations by their slots.
use Rattle.std.proofs.Common.{◌≡◌, ℕ, zero, suc, ◌-◌, ◌<◌, ◌≤◌, ◌^◌, List, [], ◌∷◌, ◌++◌, length, take}
use Rattle.std.proofs.Common.{drop, refl, sym, ap, ap₂, ◌∙◌, Some, None, subst, arith, ⊎_elim}
use Rattle.std.specs.Prelude.{Bool, true, false, Option, slice_get, slice_set, nat_eq, nat_lt, nat_le, ◌||◌, replicate, if◌then◌else◌}
use Rattle.std.proofs.lemmas.Bool.{both_ways, eqb-true, eq-eqb, ltb-true, ltb-false, leb-true, leb-false, false_from_ne_true, cases_eq, and_parts}
use Rattle.std.proofs.lemmas.Option.{none-some, same_Some, slice_get_past, slice_get_within}
use Rattle.std.specs.Option.{option_flatten}
use Rattle.nim_types.specs.Types.{same_text}
use Rattle.expr_parts.specs.declared.scope.What.{What}
use Rattle.expr_parts.specs.declared.scope.Decl.{Decl}
use Rattle.expr_parts.specs.declared.slots.TheConstants.{SLOTS}
use Rattle.expr_parts.specs.ViewDecls.{last_below, has_name, declares, is_named, last_of, mended, slot, has_slot, in_slot, at_number, AreBefore, IsIndexed}

-- ---- the last number at which a test holds

pub agree_below : (p q : ℕ → Bool) (n : ℕ) → ((i : ℕ) → i < n → p i ≡ q i) → last_below p n ≡ last_below q n
agree_below p q zero h = refl
agree_below p q (suc n) h =
    ap₂ (λ (b : Bool) (o : Option ℕ). if b then Some n else o) (h n (omega arith)) (agree_below p q n (λ i l. h i (omega (arith, l))))

-- where it is found
pub found_below : (p : ℕ → Bool) (n i : ℕ) → last_below p n ≡ Some i → (p i ≡ true) × (i < n)
found_below p zero i e = absurd (none-some i e)
found_below p (suc n) i e = by_test (p n) refl e (λ f. found_below p n i f)
  where
    by_test : (b : Bool) → p n ≡ b → (if b then Some n else last_below p n) ≡ Some i → (last_below p n ≡ Some i → (p i ≡ true) × (i < n))
        → (p i ≡ true) × (i < suc n)
    by_test true t e f = let s : n ≡ i = same_Some n i e in (subst (λ k. p k ≡ true) s t, omega (arith, s))
    by_test false t e f = let r = f e in (r.0, omega (arith, r.1))

-- a test that holds only where another one holds
abbrev pub Within : (p q : ℕ → Bool) → Type 0
Within p q = (i : ℕ) → q i ≡ true → p i ≡ true

not_within : (p q : ℕ → Bool) → Within p q → (i : ℕ) → p i ≡ false → q i ≡ false
not_within p q w i e = false_from_ne_true (q i) (λ h. both_ways (p i) e (w i h))

-- one number further, at which neither holds
past : (q : ℕ → Bool) (n : ℕ) → q n ≡ false → (if q n then Some n else last_below q n) ≡ last_below q n
past q n e = ap (λ (b : Bool). if b then Some n else last_below q n) e

pub none_below : (p q : ℕ → Bool) (n : ℕ) → Within p q → last_below p n ≡ None → last_below q n ≡ None
none_below p q zero w e = refl
none_below p q (suc n) w e = by_test (p n) refl e (λ f. none_below p q n w f)
  where
    by_test : (b : Bool) → p n ≡ b → (if b then Some n else last_below p n) ≡ None → (last_below p n ≡ None → last_below q n ≡ None)
        → (if q n then Some n else last_below q n) ≡ None
    by_test true t e f = absurd (none-some n (sym e))
    by_test false t e f = past q n (not_within p q w n t) ∙ f e

pub skips_below : (p q : ℕ → Bool) (n i : ℕ) → Within p q → last_below p n ≡ Some i → q i ≡ false → last_below q n ≡ last_below q i
skips_below p q zero i w e off = absurd (none-some i e)
skips_below p q (suc n) i w e off = by_test (p n) refl e (λ f. skips_below p q n i w f off)
  where
    by_test : (b : Bool) → p n ≡ b → (if b then Some n else last_below p n) ≡ Some i
        → (last_below p n ≡ Some i → last_below q n ≡ last_below q i)
        → (if q n then Some n else last_below q n) ≡ last_below q i
    by_test true t e f = let s : n ≡ i = same_Some n i e in past q n (ap q s ∙ off) ∙ ap (λ k. last_below q k) s
    by_test false t e f = past q n (not_within p q w n t) ∙ f e

pub stops_below : (p q : ℕ → Bool) (n i : ℕ) → Within p q → last_below p n ≡ Some i → q i ≡ true → last_below q n ≡ Some i
stops_below p q zero i w e on = absurd (none-some i e)
stops_below p q (suc n) i w e on = by_test (p n) refl e (λ f. stops_below p q n i w f on)
  where
    by_test : (b : Bool) → p n ≡ b → (if b then Some n else last_below p n) ≡ Some i → (last_below p n ≡ Some i → last_below q n ≡ Some i)
        → (if q n then Some n else last_below q n) ≡ Some i
    by_test true t e f =
        let s : n ≡ i = same_Some n i e in ap (λ (b : Bool). if b then Some n else last_below q n) (ap q s ∙ on) ∙ ap Some s
    by_test false t e f = past q n (not_within p q w n t) ∙ f e

-- ---- names and slots

pub text_sound : (x y : List ℕ) → same_text x y ≡ true → x ≡ y
text_sound [] [] e = refl
text_sound [] (b ∷ y) e = absurd (both_ways false refl e)
text_sound (a ∷ x) [] e = absurd (both_ways false refl e)
text_sound (a ∷ x) (b ∷ y) e = let p = and_parts (nat_eq a b) (same_text x y) e in ap₂ (λ z w. z ∷ w) (eqb-true a b p.0) (text_sound x y p.1)

-- the declarations of a name are in its slot
pub named_within : (ds : List Decl) (x : List ℕ) → Within (in_slot ds (slot x)) (is_named ds x)
named_within ds x i h = by_entry (slice_get ds i) h
  where
    by_entry : (o : Option Decl) → has_name x o ≡ true → has_slot (slot x) o ≡ true
    by_entry None e = absurd (both_ways false refl e)
    by_entry (Some d) e = eq-eqb (slot x) (slot d.name) (ap slot (text_sound x d.name e))

-- ---- the walk

abbrev pub up_to : Option ℕ → ℕ
up_to None = 0
up_to (Some i) = suc i

is_there : (ds : List Decl) (s i : ℕ) → in_slot ds s i ≡ true → (d : Decl) × (slice_get ds i ≡ Some d) × (s ≡ slot d.name)
is_there ds s i h = by_entry (slice_get ds i) refl h
  where
    by_entry : (o : Option Decl) → slice_get ds i ≡ o → has_slot s o ≡ true → (d : Decl) × (slice_get ds i ≡ Some d) × (s ≡ slot d.name)
    by_entry None is e = absurd (both_ways false refl e)
    by_entry (Some d) is e = (d, is, eqb-true s (slot d.name) e)

-- beside a declaration stands the one before it in the slot
pub before_in : (ds : List Decl) (befores : List (Option ℕ)) (s i : ℕ) → AreBefore ds befores → in_slot ds s i ≡ true
    → at_number befores i ≡ last_below (in_slot ds s) i
before_in ds befores s i b h =
    let r = is_there ds s i h in b.all i r.0 r.1 ∙ ap (λ z. last_below (in_slot ds z) i) (sym r.2)

pub past_end : {X : Type 0} (xs : List X) (i : ℕ) → slice_get xs i ≡ None → length xs ≤ i
past_end [] i e = omega arith
past_end (x ∷ xs) zero e = absurd (none-some x (sym e))
past_end (x ∷ xs) (suc i) e = let h = past_end xs i e in omega (arith, h)

-- one goes on below the number
falls : (ds : List Decl) (befores : List (Option ℕ)) (i j : ℕ) → AreBefore ds befores → at_number befores i ≡ Some j → j < i
falls ds befores i j b e = by_entry (slice_get ds i) refl
  where
    nothing : slice_get ds i ≡ None → slice_get befores i ≡ None
    nothing h = slice_get_past befores i (omega (arith, b.beside, past_end ds i h))

    by_entry : (o : Option Decl) → slice_get ds i ≡ o → j < i
    by_entry None is = absurd (none-some j (sym (ap option_flatten (nothing is)) ∙ e))
    by_entry (Some d) is = (found_below (in_slot ds (slot d.name)) i j (sym (b.all i d is) ∙ e)).1

pub smaller : (ds : List Decl) (befores : List (Option ℕ)) (i : ℕ) → AreBefore ds befores → up_to (at_number befores i) < suc i
smaller ds befores i b = by_next (at_number befores i) refl
  where
    by_next : (o : Option ℕ) → at_number befores i ≡ o → up_to o < suc i
    by_next None e = omega arith
    by_next (Some j) e = let l = falls ds befores i j b e in omega (arith, l)

-- ---- lists

get_front : {X : Type 0} (xs ys : List X) (i : ℕ) → i < length xs → slice_get (xs ++ ys) i ≡ slice_get xs i
get_front [] ys i h = absurd (omega (arith, h))
get_front (x ∷ xs) ys zero h = refl
get_front (x ∷ xs) ys (suc i) h = get_front xs ys i (omega (arith, h))

get_last : {X : Type 0} (xs : List X) (x : X) → slice_get (xs ++ x ∷ []) (length xs) ≡ Some x
get_last [] x = refl
get_last (y ∷ xs) x = get_last xs x

pub length_last : {X : Type 0} (xs : List X) (x : X) → length (xs ++ x ∷ []) ≡ suc (length xs)
length_last [] x = refl
length_last (y ∷ xs) x = ap suc (length_last xs x)

set_same : {X : Type 0} (xs : List X) (i : ℕ) (x : X) → i < length xs → slice_get (slice_set xs i x) i ≡ Some x
set_same [] i x h = absurd (omega (arith, h))
set_same (y ∷ xs) zero x h = refl
set_same (y ∷ xs) (suc i) x h = set_same xs i x (omega (arith, h))

set_other : {X : Type 0} (xs : List X) (i j : ℕ) (x : X) → (j ≡ i → ⊥) → slice_get (slice_set xs i x) j ≡ slice_get xs j
set_other [] i j x n = refl
set_other (y ∷ xs) zero zero x n = absurd (n refl)
set_other (y ∷ xs) zero (suc j) x n = refl
set_other (y ∷ xs) (suc i) zero x n = refl
set_other (y ∷ xs) (suc i) (suc j) x n = set_other xs i j x (λ e. n (ap suc e))

set_length : {X : Type 0} (xs : List X) (i : ℕ) (x : X) → length (slice_set xs i x) ≡ length xs
set_length [] i x = refl
set_length (y ∷ xs) zero x = refl
set_length (y ∷ xs) (suc i) x = ap suc (set_length xs i x)

nothing_at : (n i : ℕ) → at_number (replicate n None) i ≡ None
nothing_at zero i = refl
nothing_at (suc n) zero = refl
nothing_at (suc n) (suc i) = nothing_at n i

replicate_length : {X : Type 0} (n : ℕ) (x : X) → length (replicate n x) ≡ n
replicate_length zero x = refl
replicate_length (suc n) x = ap suc (replicate_length n x)

-- a slot after one was set
set_slot : (lasts : List (Option ℕ)) (i s : ℕ) (o : Option ℕ) → i < length lasts →
    at_number (slice_set lasts i o) s ≡ (if nat_eq s i then o else at_number lasts s)
set_slot lasts i s o l = by_test (nat_eq s i) refl
  where
    by_test : (b : Bool) → nat_eq s i ≡ b → at_number (slice_set lasts i o) s ≡ (if b then o else at_number lasts s)
    by_test true e = ap (λ k. at_number (slice_set lasts i o) k) (eqb-true s i e) ∙ ap option_flatten (set_same lasts i o l)
    by_test false e = ap option_flatten (set_other lasts i s o (λ h. both_ways (nat_eq s i) e (eq-eqb s i h)))

-- ---- none, one more and one less

pub indexed_none : IsIndexed [] (replicate SLOTS None) []
indexed_none = record {
  small = omega arith;
  slots = replicate_length {X = Option ℕ} SLOTS None;
  by_slot = λ s l. nothing_at SLOTS s;
  chains = record { beside = refl; all = λ i d h. absurd (none-some d h) };
}

-- the slots among the first stay
first_slots : (ds : List Decl) (d : Decl) (s n : ℕ) → n ≤ length ds → last_below (in_slot (ds ++ d ∷ []) s) n ≡ last_below (in_slot ds s) n
first_slots ds d s n l =
    agree_below (in_slot (ds ++ d ∷ []) s) (in_slot ds s) n (λ i h. ap (has_slot s) (get_front ds (d ∷ []) i (omega (arith, l, h))))

-- the last of a slot with one more
last_slot : (ds : List Decl) (d : Decl) (s : ℕ) → last_below (in_slot (ds ++ d ∷ []) s) (length (ds ++ d ∷ []))
    ≡ (if nat_eq s (slot d.name) then Some (length ds) else last_below (in_slot ds s) (length ds))
last_slot ds d s =
    ap (last_below (in_slot (ds ++ d ∷ []) s)) (length_last ds d)
    ∙ ap₂ (λ (b : Bool) (o : Option ℕ). if b then Some (length ds) else o) (ap (has_slot s) (get_last ds d)) (first_slots ds d s (length ds)
    (omega arith))

chains_more : (ds : List Decl) (d : Decl) (befores : List (Option ℕ)) (o : Option ℕ) → AreBefore ds befores
    → o ≡ last_below (in_slot ds (slot d.name)) (length ds) → AreBefore (ds ++ d ∷ []) (befores ++ o ∷ [])
chains_more ds d befores o b e = record {
  beside = length_last befores o ∙ ap suc b.beside ∙ sym (length_last ds d);
  all = λ i c h. by_test i c h (nat_lt i (length ds)) refl;
}
  where
    by_test : (i : ℕ) (c : Decl) → slice_get (ds ++ d ∷ []) i ≡ Some c → (t : Bool) → nat_lt i (length ds) ≡ t
        → at_number (befores ++ o ∷ []) i ≡ last_below (in_slot (ds ++ d ∷ []) (slot c.name)) i
    by_test i c h true t =
        let l = ltb-true i (length ds) t in
        ap option_flatten (get_front befores (o ∷ []) i (omega (arith, b.beside, l))) ∙ b.all i c (sym (get_front ds (d ∷ []) i l) ∙ h)
        ∙ sym (first_slots ds d (slot c.name) i (omega (arith, l)))
    by_test i c h false t =
        let l = ltb-false i (length ds) t in
        let w : i < length (ds ++ d ∷ []) = slice_get_within (ds ++ d ∷ []) i c h in
        let s : i ≡ length ds = omega (arith, w, l, length_last ds d) in
        let is : d ≡ c = same_Some d c (sym (get_last ds d) ∙ ap (slice_get (ds ++ d ∷ [])) (sym s) ∙ h) in
        ap (at_number (befores ++ o ∷ [])) (s ∙ sym b.beside) ∙ ap option_flatten (get_last befores o) ∙ e
        ∙ ap₂ (λ (z : Decl) k. last_below (in_slot ds (slot z.name)) k) is (sym s)
        ∙ sym (first_slots ds d (slot c.name) i (omega (arith, s)))

pub indexed_more : (ds : List Decl) (lasts befores : List (Option ℕ)) (d : Decl) → slot d.name < SLOTS → length ds < 2 ^ 32 - 1
    → IsIndexed ds lasts befores
    → IsIndexed (ds ++ d ∷ []) (slice_set lasts (slot d.name) (Some (length ds))) (befores ++ at_number lasts (slot d.name) ∷ [])
indexed_more ds lasts befores d l small k = record {
  small = omega (arith, small, length_last ds d);
  slots = set_length lasts (slot d.name) (Some (length ds)) ∙ k.slots;
  by_slot = λ s h. set_slot lasts (slot d.name) s (Some (length ds)) (omega (arith, l, k.slots))
      ∙ ap (λ (o : Option ℕ). if nat_eq s (slot d.name) then Some (length ds) else o) (k.by_slot s h) ∙ sym (last_slot ds d s);
  chains = chains_more ds d befores (at_number lasts (slot d.name)) k.chains (k.by_slot (slot d.name) l);
}

chains_less : (ds : List Decl) (d : Decl) (befores : List (Option ℕ)) (o : Option ℕ) → AreBefore (ds ++ d ∷ []) (befores ++ o ∷ [])
    → AreBefore ds befores
chains_less ds d befores o b =
    let same : length befores ≡ length ds = omega (arith, b.beside, length_last ds d, length_last befores o) in
    record {
      beside = same;
      all = λ i c h. let l = slice_get_within ds i c h in
          sym (ap option_flatten (get_front befores (o ∷ []) i (omega (arith, same, l)))) ∙ b.all i c (get_front ds (d ∷ []) i l ∙ h)
          ∙ first_slots ds d (slot c.name) i (omega (arith, l));
    }

pub indexed_less : (ds : List Decl) (lasts befores : List (Option ℕ)) (d : Decl) (o : Option ℕ) → slot d.name < SLOTS
    → IsIndexed (ds ++ d ∷ []) lasts (befores ++ o ∷ []) → IsIndexed ds (slice_set lasts (slot d.name) o) befores
indexed_less ds lasts befores d o l k = record {
  small = omega (arith, k.small, length_last ds d);
  slots = set_length lasts (slot d.name) o ∙ k.slots;
  by_slot = λ s h. set_slot lasts (slot d.name) s o (omega (arith, l, k.slots)) ∙ by_test s h (nat_eq s (slot d.name)) refl;
  chains = chains_less ds d befores o k.chains;
}
  where
    same : length befores ≡ length ds
    same = omega (arith, k.chains.beside, length_last ds d, length_last befores o)

    before : o ≡ last_below (in_slot ds (slot d.name)) (length ds)
    before =
        sym (ap (at_number (befores ++ o ∷ [])) (sym same) ∙ ap option_flatten (get_last befores o))
        ∙ k.chains.all (length ds) d (get_last ds d) ∙ first_slots ds d (slot d.name) (length ds) (omega arith)

    by_test : (s : ℕ) → s < SLOTS → (b : Bool) → nat_eq s (slot d.name) ≡ b
        → (if b then o else at_number lasts s) ≡ last_below (in_slot ds s) (length ds)
    by_test s h true e = before ∙ ap (λ z. last_below (in_slot ds z) (length ds)) (sym (eqb-true s (slot d.name) e))
    by_test s h false e =
        k.by_slot s h ∙ last_slot ds d s ∙ ap (λ (b : Bool). if b then Some (length ds) else last_below (in_slot ds s) (length ds)) e

-- ---- another meaning

mended_slot : (ds : List Decl) (i j s : ℕ) (w : What) → in_slot (mended ds i w) s j ≡ in_slot ds s j
mended_slot [] i j s w = refl
mended_slot (d ∷ ds) zero zero s w = refl
mended_slot (d ∷ ds) zero (suc j) s w = refl
mended_slot (d ∷ ds) (suc i) zero s w = refl
mended_slot (d ∷ ds) (suc i) (suc j) s w = mended_slot ds i j s w

pub mended_length : (ds : List Decl) (i : ℕ) (w : What) → length (mended ds i w) ≡ length ds
mended_length [] i w = refl
mended_length (d ∷ ds) zero w = refl
mended_length (d ∷ ds) (suc i) w = ap suc (mended_length ds i w)

was : (ds : List Decl) (i j : ℕ) (w : What) (c : Decl) → slice_get (mended ds i w) j ≡ Some c
    → (d : Decl) × (slice_get ds j ≡ Some d) × (d.name ≡ c.name)
was [] i j w c h = absurd (none-some c h)
was (d ∷ ds) zero zero w c h = (d, refl, ap (λ (z : Decl). z.name) (same_Some (record { name = d.name; what = w }) c h))
was (d ∷ ds) zero (suc j) w c h = (c, h, refl)
was (d ∷ ds) (suc i) zero w c h = (c, h, refl)
was (d ∷ ds) (suc i) (suc j) w c h = was ds i j w c h

pub indexed_mended : (ds : List Decl) (lasts befores : List (Option ℕ)) (i : ℕ) (w : What) → IsIndexed ds lasts befores
    → IsIndexed (mended ds i w) lasts befores
indexed_mended ds lasts befores i w k = record {
  small = omega (arith, k.small, mended_length ds i w);
  slots = k.slots;
  by_slot = λ s h. k.by_slot s h ∙ sym (ap (last_below (in_slot (mended ds i w) s)) (mended_length ds i w) ∙ slots_stay s (length ds));
  chains = record {
    beside = k.chains.beside ∙ sym (mended_length ds i w);
    all = λ j c h. let d = was ds i j w c h in
        k.chains.all j d.0 d.1 ∙ ap (λ x. last_below (in_slot ds (slot x)) j) d.2 ∙ sym (slots_stay (slot c.name) j);
  };
}
  where
    slots_stay : (s n : ℕ) → last_below (in_slot (mended ds i w) s) n ≡ last_below (in_slot ds s) n
    slots_stay s n = agree_below (in_slot (mended ds i w) s) (in_slot ds s) n (λ j l. mended_slot ds i j s w)

pub set_mended : (ds : List Decl) (i : ℕ) (d e : Decl) (w : What) → slice_get ds i ≡ Some d → e ≡ record { name = d.name; what = w } →
    slice_set ds i e ≡ mended ds i w
set_mended [] i d e w h is = absurd (none-some d h)
set_mended (x ∷ ds) zero d e w h is =
    ap (λ z. z ∷ ds) (is ∙ ap (λ (z : Decl). record { name = z.name; what = w }) (sym (same_Some x d h)))
set_mended (x ∷ ds) (suc i) d e w h is = ap (λ z. x ∷ z) (set_mended ds i d e w h is)

-- ---- the same where the parts were computed apart

-- a list of so many, made of none
pub filled : {X : Type 0} (n m : ℕ) (xs : List X) (x : X) → xs ≡ [] → m ≡ 0 → take n xs ++ replicate (n - m) x ≡ replicate n x
filled n m xs x e z = ap₂ (λ ys k. take n ys ++ replicate (n - k) x) e z ∙ whole n
  where
    whole : (n : ℕ) → take n [] ++ replicate (n - 0) x ≡ replicate n x
    whole zero = refl
    whole (suc n) = let e : suc n - 0 ≡ suc n = omega arith in ap (λ k. replicate k x) e

pub indexed_start : (ds : List Decl) (lasts befores : List (Option ℕ)) → ds ≡ [] → lasts ≡ replicate SLOTS None → befores ≡ []
    → IsIndexed ds lasts befores
indexed_start ds lasts befores a b c =
    subst (λ (z : List Decl). IsIndexed z lasts befores) (sym a)
    (subst (λ (z : List (Option ℕ)). IsIndexed [] z befores) (sym b) (subst (λ (z : List (Option ℕ)). IsIndexed [] (replicate SLOTS None) z)
    (sym c) indexed_none))

pub indexed_push : (ds more : List Decl) (lasts befores nexts : List (Option ℕ)) (d : Decl) (number count : ℕ) (o : Option ℕ)
    → IsIndexed ds lasts befores
    → number ≡ slot d.name → number < SLOTS → count ≡ length ds → count < 2 ^ 32 - 1 → o ≡ at_number lasts number
    → more ≡ ds ++ d ∷ [] → nexts ≡ befores ++ o ∷ [] → IsIndexed more (slice_set lasts number (Some count)) nexts
indexed_push ds more lasts befores nexts d number count o k en l ec small eo em eb =
    subst (λ (z : List Decl). IsIndexed z (slice_set lasts number (Some count)) nexts) (sym em)
    (subst (λ (z : List (Option ℕ)). IsIndexed (ds ++ d ∷ []) (slice_set lasts number (Some count)) z) (sym eb)
    (subst (λ (z : Option ℕ). IsIndexed (ds ++ d ∷ []) (slice_set lasts number (Some count)) (befores ++ z ∷ [])) (sym eo)
    (subst (λ c. IsIndexed (ds ++ d ∷ []) (slice_set lasts number (Some c)) (befores ++ at_number lasts number ∷ [])) (sym ec)
    (subst (λ n. IsIndexed (ds ++ d ∷ []) (slice_set lasts n (Some (length ds))) (befores ++ at_number lasts n ∷ [])) (sym en)
    (indexed_more ds lasts befores d (omega (arith, en, l)) (omega (arith, ec, small)) k)))))

pub indexed_pop : (ds less : List Decl) (lasts befores nexts : List (Option ℕ)) (d : Decl) (number : ℕ) (o : Option ℕ) → IsIndexed ds lasts befores
    → number ≡ slot d.name → number < SLOTS → ds ≡ less ++ d ∷ [] → befores ≡ nexts ++ o ∷ []
    → IsIndexed less (slice_set lasts number o) nexts
indexed_pop ds less lasts befores nexts d number o k en l ed eb =
    subst (λ n. IsIndexed less (slice_set lasts n o) nexts) (sym en)
    (indexed_less less lasts nexts d o (omega (arith, en, l))
    (subst (λ (z : List (Option ℕ)). IsIndexed (less ++ d ∷ []) lasts z) eb (subst (λ (z : List Decl). IsIndexed z lasts befores) ed k)))

-- what was written to a list that keeps its length
pub written : {X : Type 0} (n : ℕ) (xs ys : List X) → n ≡ length xs → take n (xs ++ ys) ≡ xs
written n [] ys e = ap (λ k. take k ys) e
written zero (x ∷ xs) ys e = absurd (omega (arith, e))
written (suc n) (x ∷ xs) ys e = ap (λ z. x ∷ z) (written n xs ys (omega (arith, e)))

pub cut_more : {X : Type 0} (n : ℕ) (xs : List X) (x : X) → n ≤ length xs → take n (xs ++ x ∷ []) ≡ take n xs
cut_more zero xs x h = refl
cut_more (suc n) [] x h = absurd (omega (arith, h))
cut_more (suc n) (y ∷ xs) x h = ap (λ z. y ∷ z) (cut_more n xs x (omega (arith, h)))

-- ---- declared since

top_below : (p : ℕ → Bool) (n i j : ℕ) → last_below p n ≡ Some i → p j ≡ true → j < n → j ≤ i
top_below p zero i j e h l = absurd (omega (arith, l))
top_below p (suc n) i j e h l = by_test (p n) refl e (λ f m. top_below p n i j f h m)
  where
    other : p n ≡ false → j < n
    other t = ⊎_elim (λ s. absurd (both_ways (p n) t (ap p (sym s) ∙ h))) (λ s. omega (arith, l, s)) (cases_eq j n)

    by_test : (b : Bool) → p n ≡ b → (if b then Some n else last_below p n) ≡ Some i → (last_below p n ≡ Some i → j < n → j ≤ i) → j ≤ i
    by_test true t e f = let s : n ≡ i = same_Some n i e in omega (arith, s, l)
    by_test false t e f = f e (other t)

none_at : (p : ℕ → Bool) (n j : ℕ) → last_below p n ≡ None → p j ≡ true → n ≤ j
none_at p zero j e h = omega arith
none_at p (suc n) j e h = by_test (p n) refl e (λ f. none_at p n j f h)
  where
    by_test : (b : Bool) → p n ≡ b → (if b then Some n else last_below p n) ≡ None → (last_below p n ≡ None → n ≤ j) → suc n ≤ j
    by_test true t e f = absurd (none-some n (sym e))
    by_test false t e f =
        let l = f e in ⊎_elim (λ s. absurd (both_ways (p n) t (ap p (sym s) ∙ h))) (λ s. omega (arith, l, s)) (cases_eq j n)

named_inside : (ds : List Decl) (x : List ℕ) (i : ℕ) → is_named ds x i ≡ true → i < length ds
named_inside [] x i h = absurd (both_ways false refl h)
named_inside (d ∷ ds) x zero h = omega arith
named_inside (d ∷ ds) x (suc i) h = let l = named_inside ds x i h in omega (arith, l)

declares_at : (ds : List Decl) (x : List ℕ) (k i : ℕ) → is_named ds x i ≡ true → k ≤ i → declares x (drop k ds) ≡ true
declares_at [] x k i h l = absurd (both_ways false refl h)
declares_at (d ∷ ds) x zero zero h l = ap (λ b. b || declares x ds) h
declares_at (d ∷ ds) x zero (suc i) h l = by_test (same_text x d.name) (declares_at ds x zero i h (omega arith))
  where
    by_test : (b : Bool) → declares x ds ≡ true → (b || declares x ds) ≡ true
    by_test true e = refl
    by_test false e = e
declares_at (d ∷ ds) x (suc k) zero h l = absurd (omega (arith, l))
declares_at (d ∷ ds) x (suc k) (suc i) h l = declares_at ds x k i h (omega (arith, l))

declared_at : (ds : List Decl) (x : List ℕ) (k : ℕ) → declares x (drop k ds) ≡ true → (i : ℕ) × (is_named ds x i ≡ true) × (k ≤ i)
declared_at [] x zero h = absurd (both_ways false refl h)
declared_at [] x (suc k) h = absurd (both_ways false refl h)
declared_at (d ∷ ds) x zero h = by_test (same_text x d.name) refl h (λ f. declared_at ds x zero f)
  where
    by_test : (b : Bool) → same_text x d.name ≡ b → (b || declares x ds) ≡ true
        → (declares x ds ≡ true → (i : ℕ) × (is_named ds x i ≡ true) × (0 ≤ i)) → (i : ℕ) × (is_named (d ∷ ds) x i ≡ true) × (0 ≤ i)
    by_test true t e f = (0, t, omega arith)
    by_test false t e f = let r = f e in (suc r.0, r.1, omega arith)
declared_at (d ∷ ds) x (suc k) h = let r = declared_at ds x k h in (suc r.0, r.1, omega (arith, r.2))

pub since_some : (ds : List Decl) (x : List ℕ) (k i : ℕ) → last_of ds x (length ds) ≡ Some i → nat_le k i ≡ declares x (drop k ds)
since_some ds x k i e = by_test (nat_le k i) refl
  where
    by_test : (b : Bool) → nat_le k i ≡ b → b ≡ declares x (drop k ds)
    by_test true t = sym (declares_at ds x k i (found_below (is_named ds x) (length ds) i e).0 (leb-true k i t))
    by_test false t = sym (false_from_ne_true (declares x (drop k ds)) (λ h.
        let r = declared_at ds x k h in
        let l = top_below (is_named ds x) (length ds) i r.0 e r.1 (named_inside ds x r.0 r.1) in
        omega (arith, l, leb-false k i t, r.2)))

pub since_none : (ds : List Decl) (x : List ℕ) (k : ℕ) → last_of ds x (length ds) ≡ None → false ≡ declares x (drop k ds)
since_none ds x k e = sym (false_from_ne_true (declares x (drop k ds)) (λ h.
    let r = declared_at ds x k h in
    let l = none_at (is_named ds x) (length ds) r.0 e r.1 in
    let m = named_inside ds x r.0 r.1 in omega (arith, l, m)))
