-- Types by number, and what is said of them.
use Rattle.std.proofs.Common.{◌≡◌, ℕ, zero, suc, ◌+◌, ◌<◌, ◌≤◌, ◌^◌, ◌-◌, List, [], ◌∷◌, ◌++◌, length, refl, sym, ap, ap₂, ◌∙◌, Some, None, subst, arith}
use Rattle.std.proofs.Common.{⊎_elim, ◌⊎◌, inl, inr, append_assoc, append-nil, length-append}
use Rattle.std.specs.Prelude.{true, false, ◌&&◌, Option, slice_get, nat_eq}
use Rattle.std.specs.Cmp.Lexicographic.{pointwise}
use Rattle.std.proofs.lemmas.Option.{none-some, same_Some, slice_get_within}
use Rattle.std.proofs.lemmas.Bool.{both_ways, cases_Bool, cases_lt, eqb-true, eq-eqb, and_parts, and_from}
use Rattle.nim_types.specs.declared.types.FieldName.{FieldName}
use Rattle.nim_types.specs.declared.types.TypeDef.{TypeDef}
use Rattle.nim_types.specs.declared.types.TypeDef.TheVariants as D
use Rattle.nim_types.specs.Types.{Ty, sequence, array, tuple, parameter, enum, object, distinct, ref, exception, types, same, same_all}
use Rattle.nim_types.specs.Types.{same_text, same_place, same_name, same_key}
use Rattle.nim_types.specs.Types.{Fact, base, below, Facts, fact_of, if_same}
use Rattle.nim_types.specs.Table.{type_at, types_at, key_of, meant, types_onto, types_in, and_field, fields_with, fields_fact, parent_in, said_of, and_said}
use Rattle.nim_types.specs.Table.{facts_over, facts_in}
use Rattle.nim_types.specs.Table.{AllBelow, IsBelow, IsWithin, parts_of, WithinOnto, OneNumber, IsTable, Grows, Adds}
use Rattle.nim_types.specs.Kept.{same_def}
use Rattle.nim_types.proofs.Equality.{same_sound, same_refl, each_sound, text_sound, place_sound, name_sound}

-- ---- the front of a table

pub front : (ts k : List Ty) (i : ℕ) → i < length ts → type_at (ts ++ k) i ≡ type_at ts i
front [] k i h = absurd (omega (arith, h))
front (t ∷ ts) k zero h = refl
front (t ∷ ts) k (suc i) h = front ts k i (omega (arith, h))

back : (ts k : List Ty) (i : ℕ) → type_at (ts ++ k) (length ts + i) ≡ type_at k i
back [] k i = let e : 0 + i ≡ i = omega arith in ap (type_at k) e
back (t ∷ ts) k i = let e : length (t ∷ ts) + i ≡ suc (length ts + i) = omega arith in ap (type_at (t ∷ ts ++ k)) e ∙ back ts k i

all_front : (ts k : List Ty) (is : List ℕ) → AllBelow (length ts) is → types_at (ts ++ k) is ≡ types_at ts is
all_front ts k [] h = refl
all_front ts k (i ∷ is) h = ap₂ (λ a b. types a b) (front ts k i h.0) (all_front ts k is h.1)

pub meant_front : (ts k : List Ty) (d : TypeDef) → IsWithin (length ts) d → meant (ts ++ k) d ≡ meant ts d
meant_front ts k D.Int h = refl
meant_front ts k D.Bool h = refl
meant_front ts k D.Char h = refl
meant_front ts k D.Text h = refl
meant_front ts k (D.Seq i) h = ap sequence (front ts k i h)
meant_front ts k (D.Param n) h = refl
meant_front ts k (D.Enum name at all) h = refl
meant_front ts k (D.Array n i) h = ap (array n) (front ts k i h)
meant_front ts k (D.Tuple names is) h = ap (tuple names) (all_front ts k is h)
meant_front ts k (D.Object name at is all b parts) h = ap (object (key_of name at)) (all_front ts k is h)
meant_front ts k (D.Distinct name at i) h = refl
meant_front ts k (D.Ref name i) h = ap (ref name) (front ts k i h)
meant_front ts k (D.Exception name at parent) h = refl

fields_front : (ts k : List Ty) (fs : List FieldName) (is : List ℕ) → AllBelow (length ts) is → fields_with (ts ++ k) fs is ≡ fields_with ts fs is
fields_front ts k [] [] h = refl
fields_front ts k [] (i ∷ is) h = refl
fields_front ts k (f ∷ fs) [] h = refl
fields_front ts k (f ∷ fs) (i ∷ is) h = ap₂ (λ a b. and_field f a b) (front ts k i h.0) (fields_front ts k fs is h.1)

parent_front : (ts k : List Ty) (o : Option ℕ) → IsBelow (length ts) o → parent_in (ts ++ k) o ≡ parent_in ts o
parent_front ts k None h = refl
parent_front ts k (Some i) h = ap Some (front ts k i h)

pub said_front : (ts k : List Ty) (d : TypeDef) → IsWithin (length ts) d → AllBelow (length ts) (parts_of d) → said_of (ts ++ k) d ≡ said_of ts d
said_front ts k D.Int h p = refl
said_front ts k D.Bool h p = refl
said_front ts k D.Char h p = refl
said_front ts k D.Text h p = refl
said_front ts k (D.Seq i) h p = refl
said_front ts k (D.Param n) h p = refl
said_front ts k (D.Enum name at all) h p = refl
said_front ts k (D.Array n i) h p = refl
said_front ts k (D.Tuple names is) h p = refl
said_front ts k (D.Object name at is all b parts) h p = ap (λ z. fields_fact z b) (fields_front ts k all parts p)
said_front ts k (D.Distinct name at i) h p = ap (λ z. Some (base z)) (front ts k i h)
said_front ts k (D.Ref name i) h p = refl
said_front ts k (D.Exception name at parent) h p = ap (λ z. Some (below z)) (parent_front ts k parent h)

-- ---- entries one after another

onto_length : (done : List Ty) (ds : List TypeDef) → length (types_onto done ds) ≡ length done + length ds
onto_length done [] = omega arith
onto_length done (d ∷ ds) = omega (arith, onto_length (done ++ meant done d ∷ []) ds, length-append done (meant done d ∷ []))

pub count : (ds : List TypeDef) → length (types_in ds) ≡ length ds
count ds = omega (arith, onto_length [] ds)

Longer : List Ty → List Ty → Type 0
Longer old now = (more : List Ty) × (now ≡ old ++ more)

onto_longer : (done : List Ty) (ds : List TypeDef) → Longer done (types_onto done ds)
unfolding Longer
onto_longer done [] = ([], sym (append-nil done))
onto_longer done (d ∷ ds) = let r = onto_longer (done ++ meant done d ∷ []) ds in (meant done d ∷ [] ++ r.0, r.1 ∙ append_assoc done (meant done d ∷ []) r.0)

longer_trans : (a b c : List Ty) → Longer a b → Longer b c → Longer a c
unfolding Longer
longer_trans a b c g h = (g.0 ++ h.0, h.1 ∙ ap (λ z. z ++ h.0) g.1 ∙ append_assoc a g.0 h.0)

longer_length : (a b : List Ty) → Longer a b → length a ≤ length b
unfolding Longer
longer_length a b g = omega (arith, ap length g.1, length-append a g.0)

onto_append : (done : List Ty) (ds : List TypeDef) (d : TypeDef) → types_onto done (ds ++ d ∷ []) ≡ types_onto done ds ++ meant (types_onto done ds) d ∷ []
onto_append done [] d = refl
onto_append done (e ∷ ds) d = onto_append (done ++ meant done e ∷ []) ds d

pub one_more : (ds : List TypeDef) (d : TypeDef) → types_in (ds ++ d ∷ []) ≡ types_in ds ++ meant (types_in ds) d ∷ []
one_more ds d = onto_append [] ds d

pub all_more : (m n : ℕ) (is : List ℕ) → m ≤ n → AllBelow m is → AllBelow n is
all_more m n [] le h = tt
all_more m n (i ∷ is) le h = (omega (arith, le, h.0), all_more m n is le h.1)

below_more : (m n : ℕ) (o : Option ℕ) → m ≤ n → IsBelow m o → IsBelow n o
below_more m n None le h = tt
below_more m n (Some i) le h = omega (arith, le, h)

pub within_more : (m n : ℕ) (d : TypeDef) → m ≤ n → IsWithin m d → IsWithin n d
within_more m n D.Int le h = tt
within_more m n D.Bool le h = tt
within_more m n D.Char le h = tt
within_more m n D.Text le h = tt
within_more m n (D.Seq i) le h = omega (arith, le, h)
within_more m n (D.Param k) le h = tt
within_more m n (D.Enum name at all) le h = tt
within_more m n (D.Array k i) le h = omega (arith, le, h)
within_more m n (D.Tuple names is) le h = all_more m n is le h
within_more m n (D.Object name at is all b parts) le h = all_more m n is le h
within_more m n (D.Distinct name at i) le h = omega (arith, le, h)
within_more m n (D.Ref name i) le h = omega (arith, le, h)
within_more m n (D.Exception name at parent) le h = below_more m n parent le h

onto_entry : (done : List Ty) (ds : List TypeDef) (i : ℕ) (d : TypeDef) → WithinOnto (length done) ds → slice_get ds i ≡ Some d
    → (type_at (types_onto done ds) (length done + i) ≡ meant (types_onto done ds) d) × IsWithin (length done + i) d
unfolding Longer
onto_entry done [] i d w h = absurd (none-some d h)
onto_entry done (e ∷ ds) zero d w h =
    let is : e ≡ d = same_Some e d h in
    let next = done ++ meant done e ∷ [] in
    let all = types_onto next ds in
    let g : Longer next all = onto_longer next ds in
    let n : length next ≡ suc (length done) = omega (arith, length-append done (meant done e ∷ [])) in
    let here : type_at next (length done + 0) ≡ meant done e = back done (meant done e ∷ []) 0 in
    let lt : length done + 0 < length next = omega (arith, n) in
    let there : type_at all (length done + 0) ≡ type_at next (length done + 0) =
    ap (λ z. type_at z (length done + 0)) g.1 ∙ front next g.0 (length done + 0) lt in
    let whole : Longer done all = longer_trans done next all (meant done e ∷ [], refl) g in
    let same_meant : meant all e ≡ meant done e = ap (λ z. meant z e) whole.1 ∙ meant_front done whole.0 e w.0 in (
      there ∙ here ∙ sym same_meant ∙
          ap (meant all) is,
      subst (λ (z : TypeDef). IsWithin (length done + 0) z) is (within_more (length done) (length done + 0) e (omega arith) w.0),
    )
onto_entry done (e ∷ ds) (suc i) d w h =
    let next = done ++ meant done e ∷ [] in
    let n : suc (length done) ≡ length next = omega (arith, length-append done (meant done e ∷ [])) in
    let r = onto_entry next ds i d (subst (λ (m : ℕ). WithinOnto m ds) n w.1) h in
    let e : length next + i ≡ length done + suc i = omega (arith, n) in
    (ap (type_at (types_onto next ds)) (sym e) ∙ r.0, subst (λ (m : ℕ). IsWithin m d) e r.1)

pub at_entry : (ds : List TypeDef) (i : ℕ) (d : TypeDef) → IsTable ds → slice_get ds i ≡ Some d → type_at (types_in ds) i ≡ meant (types_in ds) d
at_entry ds i d t h = let e : 0 + i ≡ i = omega arith in ap (type_at (types_in ds)) (sym e) ∙ (onto_entry [] ds i d t.within h).0

pub entry_within : (ds : List TypeDef) (i : ℕ) (d : TypeDef) → IsTable ds → slice_get ds i ≡ Some d → IsWithin i d
entry_within ds i d t h = let e : 0 + i ≡ i = omega arith in subst (λ (m : ℕ). IsWithin m d) e (onto_entry [] ds i d t.within h).1

pub entry_inside : (ds : List TypeDef) (i : ℕ) (d : TypeDef) → IsTable ds → slice_get ds i ≡ Some d → IsWithin (length (types_in ds)) d
entry_inside ds i d t h = within_more i (length (types_in ds)) d (omega (arith, slice_get_within ds i d h, count ds)) (entry_within ds i d t h)

pub an_entry : (ds : List TypeDef) (i : ℕ) → i < length ds → (d : TypeDef) × (slice_get ds i ≡ Some d)
an_entry [] i h = absurd (omega (arith, h))
an_entry (d ∷ ds) zero h = (d, refl)
an_entry (d ∷ ds) (suc i) h = an_entry ds i (omega (arith, h))

-- ---- lists with one more

pub get_front : {X : Type 0} (xs ys : List X) (i : ℕ) (x : X) → slice_get xs i ≡ Some x → slice_get (xs ++ ys) i ≡ Some x
get_front [] ys i x h = absurd (none-some x h)
get_front (y ∷ xs) ys zero x h = h
get_front (y ∷ xs) ys (suc i) x h = get_front xs ys i x h

pub get_last : {X : Type 0} (xs : List X) (x : X) → slice_get (xs ++ x ∷ []) (length xs) ≡ Some x
get_last [] x = refl
get_last (y ∷ xs) x = get_last xs x

pub get_either : {X : Type 0} (xs : List X) (x y : X) (i : ℕ) → slice_get (xs ++ x ∷ []) i ≡ Some y → (slice_get xs i ≡ Some y) ⊎ ((i ≡ length xs) × (x ≡ y))
get_either [] x y zero h = inr (refl, same_Some x y h)
get_either [] x y (suc i) h = absurd (none-some y h)
get_either (z ∷ xs) x y zero h = inl h
get_either (z ∷ xs) x y (suc i) h = ⊎_elim (λ l. inl l) (λ r. inr (ap suc r.0, r.1)) (get_either xs x y i h)

-- ---- equal entries are those of equal types

numbers_same : (ts : List Ty) (i j : ℕ) → OneNumber ts → i < length ts → j < length ts → same (type_at ts i) (type_at ts j) ≡ true → nat_eq i j ≡ true
numbers_same ts i j o hi hj h = eq-eqb i j (o i j hi hj (same_sound (type_at ts i) (type_at ts j) h))

all_numbers_same : (ts : List Ty) (is js : List ℕ) → OneNumber ts → AllBelow (length ts) is → AllBelow (length ts) js
    → same_all (types_at ts is) (types_at ts js) ≡ true → pointwise nat_eq is js ≡ true
all_numbers_same ts [] [] o hi hj h = refl
all_numbers_same ts [] (j ∷ js) o hi hj h = absurd (both_ways false refl h)
all_numbers_same ts (i ∷ is) [] o hi hj h = absurd (both_ways false refl h)
all_numbers_same ts (i ∷ is) (j ∷ js) o hi hj h =
    let p = and_parts (same (type_at ts i) (type_at ts j)) (same_all (types_at ts is) (types_at ts js)) h in
    and_from (nat_eq i j) (pointwise nat_eq is js) (numbers_same ts i j o hi.0 hj.0 p.0) (all_numbers_same ts is js o hi.1 hj.1 p.1)

same_entry : (ts : List Ty) (a b : TypeDef) → OneNumber ts → IsWithin (length ts) a → IsWithin (length ts) b → same (meant ts a) (meant ts b) ≡ true →
    same_def a b ≡ true
same_entry ts D.Int D.Int o wa wb h = refl
same_entry ts D.Bool D.Bool o wa wb h = refl
same_entry ts D.Char D.Char o wa wb h = refl
same_entry ts D.Text D.Text o wa wb h = refl
same_entry ts (D.Seq i) (D.Seq j) o wa wb h = numbers_same ts i j o wa wb h
same_entry ts (D.Param i) (D.Param j) o wa wb h = h
same_entry ts (D.Enum x p xs) (D.Enum y q ys) o wa wb h = h
same_entry ts (D.Array m i) (D.Array n j) o wa wb h =
    let p = and_parts (nat_eq m n) (same (type_at ts i) (type_at ts j)) h in and_from (nat_eq m n) (nat_eq i j) p.0 (numbers_same ts i j o wa wb p.1)
same_entry ts (D.Tuple xs is) (D.Tuple ys js) o wa wb h =
    let p = and_parts (pointwise same_text xs ys) (same_all (types_at ts is) (types_at ts js)) h in
    and_from (pointwise same_text xs ys) (pointwise nat_eq is js) p.0 (all_numbers_same ts is js o wa wb p.1)
same_entry ts (D.Object x p is xs b ps) (D.Object y q js ys c qs) o wa wb h =
    let r = and_parts (same_key (key_of x p) (key_of y q)) (same_all (types_at ts is) (types_at ts js)) h in
    and_from (same_text x y && same_place p q) (pointwise nat_eq is js) r.0 (all_numbers_same ts is js o wa wb r.1)
same_entry ts (D.Distinct x p i) (D.Distinct y q j) o wa wb h = h
same_entry ts (D.Ref x i) (D.Ref y j) o wa wb h =
    let p = and_parts (same_name x y) (same (type_at ts i) (type_at ts j)) h in and_from (same_name x y) (nat_eq i j) p.0 (numbers_same ts i j o wa wb p.1)
same_entry ts (D.Exception x p i) (D.Exception y q j) o wa wb h = h
same_entry ts _ _ o wa wb h = absurd (both_ways false refl h)

pub equal_entry : (ts : List Ty) (a b : TypeDef) → OneNumber ts → IsWithin (length ts) a → IsWithin (length ts) b → meant ts a ≡ meant ts b →
    same_def a b ≡ true
equal_entry ts a b o wa wb h = same_entry ts a b o wa wb (ap (λ z. same z (meant ts b)) h ∙ same_refl (meant ts b))

key_same : (x y : List ℕ) (p q : _) → same_text x y ≡ true → same_place p q ≡ true → key_of x p ≡ key_of y q
key_same x y p q a b = ap₂ (λ u v. key_of u v) (text_sound x y a) (place_sound p q b)

key_from : (x y : List ℕ) (p q : _) → (same_text x y && same_place p q) ≡ true → key_of x p ≡ key_of y q
key_from x y p q h = let r = and_parts (same_text x y) (same_place p q) h in key_same x y p q r.0 r.1

pub equal_meant : (ts : List Ty) (a b : TypeDef) → same_def a b ≡ true → meant ts a ≡ meant ts b
equal_meant ts D.Int D.Int h = refl
equal_meant ts D.Bool D.Bool h = refl
equal_meant ts D.Char D.Char h = refl
equal_meant ts D.Text D.Text h = refl
equal_meant ts (D.Seq i) (D.Seq j) h = ap (λ z. sequence (type_at ts z)) (eqb-true i j h)
equal_meant ts (D.Param i) (D.Param j) h = ap parameter (eqb-true i j h)
equal_meant ts (D.Enum x p xs) (D.Enum y q ys) h = ap enum (key_from x y p q h)
equal_meant ts (D.Array m i) (D.Array n j) h =
    let p = and_parts (nat_eq m n) (nat_eq i j) h in ap₂ (λ a b. array a (type_at ts b)) (eqb-true m n p.0) (eqb-true i j p.1)
equal_meant ts (D.Tuple xs is) (D.Tuple ys js) h =
    let p = and_parts (pointwise same_text xs ys) (pointwise nat_eq is js) h in
    ap₂ (λ a b. tuple a (types_at ts b)) (each_sound same_text text_sound xs ys p.0) (each_sound nat_eq eqb-true is js p.1)
equal_meant ts (D.Object x p is xs b ps) (D.Object y q js ys c qs) h =
    let r = and_parts (same_text x y && same_place p q) (pointwise nat_eq is js) h in
    ap₂ (λ a b. object a (types_at ts b)) (key_from x y p q r.0) (each_sound nat_eq eqb-true is js r.1)
equal_meant ts (D.Distinct x p i) (D.Distinct y q j) h = ap distinct (key_from x y p q h)
equal_meant ts (D.Ref x i) (D.Ref y j) h =
    let p = and_parts (same_name x y) (nat_eq i j) h in ap₂ (λ a b. ref a (type_at ts b)) (name_sound x y p.0) (eqb-true i j p.1)
equal_meant ts (D.Exception x p i) (D.Exception y q j) h = ap exception (key_from x y p q h)
equal_meant ts _ _ h = absurd (both_ways false refl h)

-- ---- one entry more

within_append : (n : ℕ) (ds : List TypeDef) (d : TypeDef) → WithinOnto n ds → IsWithin (n + length ds) d → WithinOnto n (ds ++ d ∷ [])
within_append n [] d w h = let e : n + 0 ≡ n = omega arith in (subst (λ (m : ℕ). IsWithin m d) e h, tt)
within_append n (x ∷ ds) d w h =
    let e : n + length (x ∷ ds) ≡ suc n + length ds = omega arith in (w.0, within_append (suc n) ds d w.1 (subst (λ (m : ℕ). IsWithin m d) e h))

last_at : (ts : List Ty) (s : Ty) (j : ℕ) → j ≡ length ts → type_at (ts ++ s ∷ []) j ≡ s
last_at ts s j e = let f : j ≡ length ts + 0 = omega (arith, e) in ap (type_at (ts ++ s ∷ [])) f ∙ back ts (s ∷ []) 0

one_append : (ts : List Ty) (s : Ty) → OneNumber ts → ((j : ℕ) → j < length ts → type_at ts j ≡ s → ⊥) → OneNumber (ts ++ s ∷ [])
one_append ts s d new i j hi hj h =
    let n : length (ts ++ s ∷ []) ≡ suc (length ts) = omega (arith, length-append ts (s ∷ [])) in
    ⊎_elim
    (λ li. ⊎_elim
    (λ lj. d i j li lj (sym (front ts (s ∷ []) i li) ∙ h ∙ front ts (s ∷ []) j lj))
    (λ gj. let ej : j ≡ length ts = omega (arith, gj, hj, n) in absurd (new i li (sym (front ts (s ∷ []) i li) ∙ h ∙ last_at ts s j ej)))
    (cases_lt j (length ts)))
    (λ gi. let ei : i ≡ length ts = omega (arith, gi, hi, n) in
    ⊎_elim
    (λ lj. absurd (new j lj (sym (front ts (s ∷ []) j lj) ∙ sym h ∙ last_at ts s i ei)))
    (λ gj. omega (arith, ei, gj, hj, n))
    (cases_lt j (length ts)))
    (cases_lt i (length ts))

pub table_append : (ds : List TypeDef) (d : TypeDef) → IsTable ds → IsWithin (length ds) d → parts_of d ≡ []
    → ((j : ℕ) → j < length ds → type_at (types_in ds) j ≡ meant (types_in ds) d → ⊥) → length ds < 2 ^ 32 - 1 → IsTable (ds ++ d ∷ [])
table_append ds d t w p new lt =
    let n : length (ds ++ d ∷ []) ≡ suc (length ds) = omega (arith, length-append ds (d ∷ [])) in
    let e : length ds ≡ 0 + length ds = omega arith in
    record {
      within = within_append 0 ds d t.within (subst (λ (m : ℕ). IsWithin m d) e w);
      parts = λ i x h. ⊎_elim
          (λ l. all_more (length ds) (length (ds ++ d ∷ [])) (parts_of x) (omega (arith, n)) (t.parts i x l))
          (λ r. subst (λ (is : List ℕ). AllBelow (length (ds ++ d ∷ [])) is) (sym p ∙ ap parts_of r.1) tt)
          (get_either ds d x i h);
      one = subst OneNumber (sym (one_more ds d)) (one_append (types_in ds) (meant (types_in ds) d) t.one (λ j l. new j (omega (arith, l, count ds))));
      small = omega (arith, n, lt);
    }

-- ---- what is said

first_said : (ty : Ty) (o : Option Fact) (rest : Facts) → fact_of rest ty ≡ None → fact_of (and_said ty o rest) ty ≡ o
first_said ty None rest h = h
first_said ty (Some x) rest h = ap (λ z. if_same z x (fact_of rest ty)) (same_refl ty)

other_said : (u ty : Ty) (o : Option Fact) (rest : Facts) → (u ≡ ty → ⊥) → fact_of (and_said u o rest) ty ≡ fact_of rest ty
other_said u ty None rest n = refl
other_said u ty (Some x) rest n = ⊎_elim
    (λ s. absurd (n (same_sound u ty s)))
    (λ s. ap (λ z. if_same z x (fact_of rest ty)) s)
    (cases_Bool (same u ty))

nothing_said : (ts : List Ty) (ds : List TypeDef) (ty : Ty) → ((j : ℕ) (e : TypeDef) → slice_get ds j ≡ Some e → meant ts e ≡ ty → ⊥) →
    fact_of (facts_over ts ds) ty ≡ None
nothing_said ts [] ty n = refl
nothing_said ts (d ∷ ds) ty n = other_said (meant ts d) ty (said_of ts d) (facts_over ts ds) (n 0 d refl) ∙ nothing_said ts ds ty (λ j e h. n (suc j) e h)

said_over : (ts : List Ty) (ds : List TypeDef) (i : ℕ) (d : TypeDef) → slice_get ds i ≡ Some d
    → ((j : ℕ) (e : TypeDef) → slice_get ds j ≡ Some e → meant ts e ≡ meant ts d → j ≡ i) → fact_of (facts_over ts ds) (meant ts d) ≡ said_of ts d
said_over ts [] i d h n = absurd (none-some d h)
said_over ts (e ∷ ds) zero d h n =
    let is : e ≡ d = same_Some e d h in
    let rest : fact_of (facts_over ts ds) (meant ts d) ≡ None =
    nothing_said ts ds (meant ts d) (λ j x g m. let z : suc j ≡ 0 = n (suc j) x g m in absurd (omega (arith, z))) in
    ap (λ z. fact_of (and_said (meant ts z) (said_of ts z) (facts_over ts ds)) (meant ts d)) is ∙ first_said (meant ts d) (said_of ts d) (facts_over ts ds) rest
said_over ts (e ∷ ds) (suc i) d h n =
    other_said (meant ts e) (meant ts d) (said_of ts e) (facts_over ts ds) (λ m. let z : 0 ≡ suc i = n 0 e refl m in absurd (omega (arith, z)))
    ∙ said_over ts ds i d h (λ j x g m. let z : suc j ≡ suc i = n (suc j) x g m in omega (arith, z))

only_one : (ds : List TypeDef) (i j : ℕ) (d e : TypeDef) → IsTable ds → slice_get ds i ≡ Some d → slice_get ds j ≡ Some e
    → meant (types_in ds) e ≡ meant (types_in ds) d → j ≡ i
only_one ds i j d e t hi hj h =
    t.one j i (omega (arith, slice_get_within ds j e hj, count ds)) (omega (arith, slice_get_within ds i d hi, count ds))
    (at_entry ds j e t hj ∙ h ∙ sym (at_entry ds i d t hi))

-- what is said of an entry's type is what the entry says
pub said_at : (ds : List TypeDef) (i : ℕ) (d : TypeDef) → IsTable ds → slice_get ds i ≡ Some d →
    fact_of (facts_in ds) (meant (types_in ds) d) ≡ said_of (types_in ds) d
said_at ds i d t h = said_over (types_in ds) ds i d h (λ j e g m. only_one ds i j d e t h g m)

record Says (ts : List Ty) (ds : List TypeDef) (ty : Ty) (x : Fact) : Type 0 where
  i : ℕ
  d : TypeDef
  at : slice_get ds i ≡ Some d
  of : meant ts d ≡ ty
  says : said_of ts d ≡ Some x

later : (ts : List Ty) (e : TypeDef) (ds : List TypeDef) (ty : Ty) (x : Fact) → Says ts ds ty x → Says ts (e ∷ ds) ty x
later ts e ds ty x s = record { i = suc s.i; d = s.d; at = s.at; of = s.of; says = s.says }

said_by : (ts : List Ty) (e : TypeDef) (ds : List TypeDef) (ty : Ty) (x : Fact) (o : Option Fact) → said_of ts e ≡ o
    → fact_of (and_said (meant ts e) o (facts_over ts ds)) ty ≡ Some x → (fact_of (facts_over ts ds) ty ≡ Some x → Says ts ds ty x) → Says ts (e ∷ ds) ty x
said_by ts e ds ty x None q h rest = later ts e ds ty x (rest h)
said_by ts e ds ty x (Some y) q h rest = ⊎_elim
    (λ s. let is : Some y ≡ Some x = sym (ap (λ z. if_same z y (fact_of (facts_over ts ds) ty)) s) ∙ h in
    record { i = 0; d = e; at = refl; of = same_sound (meant ts e) ty s; says = q ∙ is })
    (λ s. later ts e ds ty x (rest (sym (ap (λ z. if_same z y (fact_of (facts_over ts ds) ty)) s) ∙ h)))
    (cases_Bool (same (meant ts e) ty))

said_from : (ts : List Ty) (ds : List TypeDef) (ty : Ty) (x : Fact) → fact_of (facts_over ts ds) ty ≡ Some x → Says ts ds ty x
said_from ts [] ty x h = absurd (none-some x h)
said_from ts (e ∷ ds) ty x h = said_by ts e ds ty x (said_of ts e) refl h (λ g. said_from ts ds ty x g)

-- an entry that says so still, at its number
pub record Still (ds : List TypeDef) (i : ℕ) (x : Fact) : Type 0 where
  pub d : TypeDef
  pub at : slice_get ds i ≡ Some d
  pub says : said_of (types_in ds) d ≡ Some x

pub grows_by : (old new : List TypeDef) (more : List Ty) → IsTable old → IsTable new → types_in new ≡ types_in old ++ more
    → ((i : ℕ) (d : TypeDef) (x : Fact) → slice_get old i ≡ Some d → said_of (types_in old) d ≡ Some x → Still new i x) → Grows old new
grows_by old new more t u m still = record {
  types = (more, m);
  facts = λ ty x h.
      let s = said_from (types_in old) old ty x h in
      let r = still s.i s.d x s.at s.says in
      let lt : s.i < length (types_in old) = omega (arith, slice_get_within old s.i s.d s.at, count old) in
      let e : meant (types_in new) r.d ≡ ty =
      sym (at_entry new s.i r.d u r.at) ∙ ap (λ z. type_at z s.i) m ∙ front (types_in old) more s.i lt ∙ at_entry old s.i s.d t s.at ∙ s.of in
      ap (fact_of (facts_in new)) (sym e) ∙ said_at new s.i r.d u r.at ∙ r.says;
}

pub grows_append : (ds : List TypeDef) (d : TypeDef) → IsTable ds → IsTable (ds ++ d ∷ []) → Grows ds (ds ++ d ∷ [])
grows_append ds d t u =
    let ts = types_in ds in
    let k = meant ts d ∷ [] in
    grows_by ds (ds ++ d ∷ []) k t u (one_more ds d)
    (λ i e x h s. record {
      d = e;
      at = get_front ds (d ∷ []) i e h;
      says = ap (λ z. said_of z e) (one_more ds d)
          ∙ said_front ts k e (entry_inside ds i e t h) (all_more (length ds) (length ts) (parts_of e) (omega (arith, count ds)) (t.parts i e h)) ∙ s;
    })

pub grows_same : (ds : List TypeDef) → Grows ds ds
grows_same ds = record { types = ([], sym (append-nil (types_in ds))); facts = λ ty x h. h }

pub grows_trans : (a b c : List TypeDef) → Grows a b → Grows b c → Grows a c
grows_trans a b c g h = record {
  types = (g.types.0 ++ h.types.0, h.types.1 ∙ ap (λ z. z ++ h.types.0) g.types.1 ∙ append_assoc (types_in a) g.types.0 h.types.0);
  facts = λ ty x e. h.facts ty x (g.facts ty x e);
}

-- ---- for callers

pub interned : (ds : List TypeDef) (i j : ℕ) → IsTable ds → i < length ds → j < length ds →
    same (type_at (types_in ds) i) (type_at (types_in ds) j) ≡ nat_eq i j
interned ds i j t hi hj =
    let a = type_at (types_in ds) i in
    let b = type_at (types_in ds) j in
    ⊎_elim
    (λ e. ap (λ n. same a (type_at (types_in ds) n)) (sym (eqb-true i j e)) ∙ same_refl a ∙ sym e)
    (λ f. ⊎_elim
    (λ s. absurd (both_ways (nat_eq i j) f (eq-eqb i j (t.one i j (omega (arith, hi, count ds)) (omega (arith, hj, count ds)) (same_sound a b s)))))
    (λ s. s ∙ sym f)
    (cases_Bool (same a b)))
    (cases_Bool (nat_eq i j))

pub said_number : (ds : List TypeDef) (i : ℕ) (d : TypeDef) → IsTable ds → slice_get ds i ≡ Some d
    → fact_of (facts_in ds) (type_at (types_in ds) i) ≡ said_of (types_in ds) d
said_number ds i d t h = ap (fact_of (facts_in ds)) (at_entry ds i d t h) ∙ said_at ds i d t h

pub said_by_entry : (ds : List TypeDef) (ty : Ty) (x : Fact) → fact_of (facts_in ds) ty ≡ Some x
    → (i : ℕ) × (d : TypeDef) × (slice_get ds i ≡ Some d) × (meant (types_in ds) d ≡ ty) × (said_of (types_in ds) d ≡ Some x)
said_by_entry ds ty x h = let s = said_from (types_in ds) ds ty x h in (s.i, s.d, s.at, s.of, s.says)

pub grown_at : (old new : List TypeDef) (i : ℕ) → Grows old new → i < length old → type_at (types_in new) i ≡ type_at (types_in old) i
grown_at old new i g lt = ap (λ z. type_at z i) g.types.1 ∙ front (types_in old) g.types.0 i (omega (arith, lt, count old))

pub grown_length : (old new : List TypeDef) → Grows old new → length old ≤ length new
grown_length old new g = omega (arith, ap length g.types.1, length-append (types_in old) g.types.0, count old, count new)

pub grown_meant : (old new : List TypeDef) (d : TypeDef) → Grows old new → IsWithin (length old) d → meant (types_in new) d ≡ meant (types_in old) d
grown_meant old new d g w =
    ap (λ z. meant z d) g.types.1 ∙ meant_front (types_in old) g.types.0 d (within_more (length old) (length (types_in old)) d (omega (arith, count old)) w)

added_within : (old new : List TypeDef) (d : TypeDef) (id : ℕ) → Adds old d id new → id < length new
added_within old new d id a = ⊎_elim
    (λ k. omega (arith, k.within, ap length k.same))
    (λ p. omega (arith, p.next, ap length p.more, length-append old (d ∷ [])))
    a

added_old : (old new : List TypeDef) (d : TypeDef) (id : ℕ) → Adds old d id new → type_at (types_in new) id ≡ meant (types_in old) d
added_old old new d id a = ⊎_elim
    (λ k. ap (λ z. type_at (types_in z) id) k.same ∙ k.equal)
    (λ p. ap (λ z. type_at (types_in z) id) p.more ∙ ap (λ z. type_at z id) (one_more old d)
    ∙ last_at (types_in old) (meant (types_in old) d) id (omega (arith, p.next, count old)))
    a

-- the type of what was added is the entry's, in each table that grows from there
pub added : (old new later : List TypeDef) (d : TypeDef) (id : ℕ) → IsWithin (length old) d → Adds old d id new → Grows old new → Grows new later
    → (id < length later) × (type_at (types_in later) id ≡ meant (types_in later) d)
added old new later d id w a g h =
    let lt = added_within old new d id a in (
      omega (arith, lt, grown_length new later h),
      grown_at new later id h lt ∙ added_old old new d id a ∙ sym (grown_meant old later d (grows_trans old new later g h) w),
    )
