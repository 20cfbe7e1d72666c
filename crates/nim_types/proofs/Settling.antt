-- What is known of storage follows from the parts, and stays.
use Rattle.std.proofs.Common.{◌≡◌, ℕ, zero, suc, ◌<◌, ◌≤◌, List, [], ◌∷◌, length, refl, sym, ap, ◌∙◌, Some, None, subst, arith, ⊎_elim}
use Rattle.std.specs.Prelude.{Bool, true, false, Option, slice_get, slice_set, nat_eq, cond}
use Rattle.std.specs.Option.{option_flatten, is_some}
use Rattle.std.proofs.lemmas.Option.{none-some, same_Some}
use Rattle.std.proofs.lemmas.Bool.{both_ways, cases_Bool, cases_eq}
use Rattle.nim_types.specs.declared.types.TypeDef.{TypeDef}
use Rattle.nim_types.specs.declared.types.TypeDef.TheVariants as D
use Rattle.nim_types.specs.declared.storage.Storage.{Storage}
use Rattle.nim_types.specs.Kept.{at_number, plus, times, closed, then_storage, sum_in, parts_in, storage_in, is_due, HalfSettled, Settled, Waits, Learns, Stays}
use Rattle.nim_types.specs.Kept.{Stale, unknowns, stored_as}

-- ---- what is known stays known, and what follows from it too

pub KnownIn : List (Option Storage) → List (Option Storage) → Type 0
KnownIn old new = (i : ℕ) (s : Storage) → at_number old i ≡ Some s → at_number new i ≡ Some s

then_got : (o : Option Storage) (f : Storage → Option Storage) (s : Storage) → then_storage o f ≡ Some s → (x : Storage) × (o ≡ Some x) × (f x ≡ Some s)
then_got None f s h = absurd (none-some s h)
then_got (Some x) f s h = (x, refl, h)

then_is : (o : Option Storage) (f : Storage → Option Storage) (x : Storage) → o ≡ Some x → then_storage o f ≡ f x
then_is o f x h = ap (λ z. then_storage z f) h

sum_stays : (old new : List (Option Storage)) → KnownIn old new → (is : List ℕ) (sum s : Storage) → sum_in old sum is ≡ Some s → sum_in new sum is ≡ Some s
unfolding KnownIn
sum_stays old new k [] sum s h = h
sum_stays old new k (i ∷ is) sum s h =
    let r = then_got (at_number old i) (λ x. sum_in old (plus sum x) is) s h in
    then_is (at_number new i) (λ x. sum_in new (plus sum x) is) r.0 (k i r.0 r.1) ∙ sum_stays old new k is (plus sum r.0) s r.2

parts_stay : (old new : List (Option Storage)) → KnownIn old new → (b : Bool) (is : List ℕ) (s : Storage) → parts_in old b is ≡ Some s →
    parts_in new b is ≡ Some s
parts_stay old new k b is s h =
    let r = then_got (sum_in old (stored_as 0 false) is) (λ x. Some (closed b x)) s h in
    then_is (sum_in new (stored_as 0 false) is) (λ x. Some (closed b x)) r.0 (sum_stays old new k is (stored_as 0 false) r.0 r.1) ∙ r.2

object_stays : (old new : List (Option Storage)) → KnownIn old new → (c b : Bool) (is : List ℕ) (s : Storage)
    → cond c (parts_in old b is) None ≡ Some s → cond c (parts_in new b is) None ≡ Some s
object_stays old new k true b is s h = parts_stay old new k b is s h
object_stays old new k false b is s h = absurd (none-some s h)

pub follows_stays : (old new : List (Option Storage)) → KnownIn old new → (d : TypeDef) (s : Storage) → storage_in old d ≡ Some s → storage_in new d ≡ Some s
unfolding KnownIn
follows_stays old new k D.Int s h = h
follows_stays old new k D.Bool s h = h
follows_stays old new k D.Char s h = h
follows_stays old new k D.Text s h = h
follows_stays old new k (D.Seq i) s h = h
follows_stays old new k (D.Param n) s h = h
follows_stays old new k (D.Enum name at all) s h = h
follows_stays old new k (D.Array n i) s h =
    let r = then_got (at_number old i) (λ x. Some (times n x)) s h in then_is (at_number new i) (λ x. Some (times n x)) r.0 (k i r.0 r.1) ∙ r.2
follows_stays old new k (D.Tuple names is) s h = parts_stay old new k false is s h
follows_stays old new k (D.Object name at is all b parts) s h = object_stays old new k (nat_eq (length all) (length parts)) b parts s h
follows_stays old new k (D.Distinct name at i) s h = k i s h
follows_stays old new k (D.Ref name i) s h = h
follows_stays old new k (D.Exception name at parent) s h = h

-- ---- one more becomes known

pub set_same : {X : Type 0} (xs : List X) (i : ℕ) (x : X) → i < length xs → slice_get (slice_set xs i x) i ≡ Some x
set_same [] i x h = absurd (omega (arith, h))
set_same (y ∷ ys) zero x h = refl
set_same (y ∷ ys) (suc i) x h = set_same ys i x (omega (arith, h))

pub set_other : {X : Type 0} (xs : List X) (i j : ℕ) (x : X) → (i ≡ j → ⊥) → slice_get (slice_set xs i x) j ≡ slice_get xs j
set_other [] i j x n = refl
set_other (y ∷ ys) zero zero x n = absurd (n refl)
set_other (y ∷ ys) zero (suc j) x n = refl
set_other (y ∷ ys) (suc i) zero x n = refl
set_other (y ∷ ys) (suc i) (suc j) x n = set_other ys i j x (λ e. n (ap suc e))

pub set_length : {X : Type 0} (xs : List X) (i : ℕ) (x : X) → length (slice_set xs i x) ≡ length xs
set_length [] i x = refl
set_length (y ∷ ys) zero x = refl
set_length (y ∷ ys) (suc i) x = ap suc (set_length ys i x)

pub known_set : (known : List (Option Storage)) (i : ℕ) (s : Storage) → i < length known → at_number known i ≡ None → KnownIn known (slice_set known i (Some s))
unfolding KnownIn
known_set known i s lt none j t h = ⊎_elim
    (λ e. absurd (none-some t (sym none ∙ ap (at_number known) e ∙ h)))
    (λ n. ap option_flatten (set_other known i j (Some s) n) ∙ h)
    (cases_eq i j)

fewer_set : (known : List (Option Storage)) (i : ℕ) (s : Storage) → i < length known → at_number known i ≡ None →
    unknowns (slice_set known i (Some s)) < unknowns known
fewer_set [] i s lt none = absurd (omega (arith, lt))
fewer_set (None ∷ ks) zero s lt none = omega arith
fewer_set (Some x ∷ ks) zero s lt none = absurd (none-some x (sym none))
fewer_set (k ∷ ks) (suc i) s lt none = omega (arith, fewer_set ks i s (omega (arith, lt)) none)

pub half_set : (ds : List TypeDef) (known : List (Option Storage)) (i : ℕ) (d : TypeDef) (s : Storage) → HalfSettled ds known → slice_get ds i ≡ Some d
    → at_number known i ≡ None → storage_in known d ≡ Some s → i < length known → HalfSettled ds (slice_set known i (Some s))
half_set ds known i d s h at none is lt =
    let more = known_set known i s lt none in
    record {
      beside = set_length known i (Some s) ∙ h.beside;
      right = λ j e t p q. ⊎_elim
          (λ eq. let de : d ≡ e = same_Some d e (sym at ∙ ap (slice_get ds) eq ∙ p) in
          let got : Some s ≡ Some t = sym (ap option_flatten (set_same known i (Some s) lt)) ∙ ap (at_number (slice_set known i (Some s))) eq ∙ q in
          follows_stays known (slice_set known i (Some s)) more e t (ap (storage_in known) (sym de) ∙ is ∙ got))
          (λ n. follows_stays known (slice_set known i (Some s)) more e t (h.right j e t p (sym (ap option_flatten (set_other known i j (Some s) n)) ∙ q)))
          (cases_eq i j);
    }

-- ---- going over the entries once, from the last: those from a number on are done

pub record Sweeps (ds : List TypeDef) (first known : List (Option Storage)) (found : Bool) (from : ℕ) : Type 0 where
  pub half : HalfSettled ds known
  pub nothing : found ≡ false → (j : ℕ) (d : TypeDef) → from ≤ j → slice_get ds j ≡ Some d → at_number known j ≡ None → storage_in known d ≡ None
  pub same : found ≡ false → unknowns known ≡ unknowns first
  pub fewer : found ≡ true → unknowns known < unknowns first

pub step_found : (ds : List TypeDef) (first known : List (Option Storage)) (found : Bool) (i : ℕ) (d : TypeDef) (s : Storage) →
    Sweeps ds first known found (suc i)
    → slice_get ds i ≡ Some d → i < length known → at_number known i ≡ None → storage_in known d ≡ Some s
    → Sweeps ds first (slice_set known i (Some s)) true i
step_found ds first known found i d s h at lt none is =
    let less = fewer_set known i s lt none in
    record {
      half = half_set ds known i d s h.half at none is lt;
      nothing = λ e. absurd (both_ways true e refl);
      same = λ e. absurd (both_ways true e refl);
      fewer = λ e. ⊎_elim (λ t. omega (arith, less, h.fewer t)) (λ f. omega (arith, less, h.same f)) (cases_Bool found);
    }

pub step_none : (ds : List TypeDef) (first known : List (Option Storage)) (found : Bool) (i : ℕ) (d : TypeDef) → Sweeps ds first known found (suc i)
    → slice_get ds i ≡ Some d → (at_number known i ≡ None → storage_in known d ≡ None) → Sweeps ds first known found i
step_none ds first known found i d h at none = record {
  half = h.half;
  nothing = λ f j e lt p q. ⊎_elim
      (λ eq. let de : d ≡ e = same_Some d e (sym at ∙ ap (slice_get ds) eq ∙ p) in ap (storage_in known) (sym de) ∙ none (ap (at_number known) eq ∙ q))
      (λ n. h.nothing f j e (omega (arith, lt, n)) p q)
      (cases_eq i j);
  same = h.same;
  fewer = h.fewer;
}

known_or : (o r : Option Storage) → ((s : Storage) → o ≡ Some s → r ≡ Some s) → (o ≡ None → r ≡ None) → o ≡ r
known_or None r f g = sym (g refl)
known_or (Some s) r f g = sym (f s refl)

pub all_swept : (ds : List TypeDef) (first known : List (Option Storage)) (found : Bool) (i : ℕ) → Sweeps ds first known found i → i ≡ 0 →
    found ≡ false → Settled ds known
all_swept ds first known found i h le f = record {
  beside = h.half.beside;
  right = λ j d p. known_or (at_number known j) (storage_in known d) (λ s q. h.half.right j d s p q)
      (λ q. h.nothing f j d (omega (arith, le)) p q);
}

pub is_known : {X : Type 0} (o : Option X) → is_some o ≡ true → o ≡ None → ⊥
is_known None h e = both_ways false refl h
is_known (Some x) h e = none-some x (sym e)

pub step_learned : (ds : List TypeDef) (first old new : List (Option Storage)) (found : Bool) (i : ℕ) (d : TypeDef) → Sweeps ds first old found (suc i)
    → slice_get ds i ≡ Some d → i < length old → Learns old i (storage_in old d) new → Sweeps ds first new true i
step_learned ds first old new found i d h at lt l =
    subst (λ (k : List (Option Storage)). Sweeps ds first k true i) (sym l.set) (step_found ds first old found i d l.storage h at lt l.unknown l.is)

pub step_stayed : (ds : List TypeDef) (first old new : List (Option Storage)) (found : Bool) (i : ℕ) (d : TypeDef) → Sweeps ds first old found (suc i)
    → slice_get ds i ≡ Some d → Stays old i (storage_in old d) new → Sweeps ds first new found i
step_stayed ds first old new found i d h at s =
    subst (λ (k : List (Option Storage)). Sweeps ds first k found i) (sym s.same) (step_none ds first old found i d h at s.none)

-- ---- an entry whose parts became known

due_unknown : (known : List (Option Storage)) (d : TypeDef) → is_due d ≡ true → storage_in known d ≡ None
due_unknown known D.Int h = absurd (both_ways false refl h)
due_unknown known D.Bool h = absurd (both_ways false refl h)
due_unknown known D.Char h = absurd (both_ways false refl h)
due_unknown known D.Text h = absurd (both_ways false refl h)
due_unknown known (D.Seq i) h = absurd (both_ways false refl h)
due_unknown known (D.Param n) h = absurd (both_ways false refl h)
due_unknown known (D.Enum name at all) h = absurd (both_ways false refl h)
due_unknown known (D.Array n i) h = absurd (both_ways false refl h)
due_unknown known (D.Tuple names is) h = absurd (both_ways false refl h)
due_unknown known (D.Object name at is all b parts) h = by_test (nat_eq (length all) (length parts)) h
  where
    by_test : (t : Bool) → cond t false true ≡ true → cond t (parts_in known b parts) None ≡ None
    by_test true e = absurd (both_ways false refl e)
    by_test false e = refl
due_unknown known (D.Distinct name at i) h = absurd (both_ways false refl h)
due_unknown known (D.Ref name i) h = absurd (both_ways false refl h)
due_unknown known (D.Exception name at parent) h = absurd (both_ways false refl h)

pub stayed : (ds : List TypeDef) (i : ℕ) (known new : List (Option Storage)) (waiting : Bool) (d : TypeDef) → Stale ds i known waiting → slice_get ds i ≡ Some d
    → Stays known i (storage_in known d) new → Settled ds new
stayed ds i known new waiting d s at t = subst (λ (k : List (Option Storage)). Settled ds k) (sym t.same) (record {
  beside = s.half.beside;
  right = λ j e p. known_or (at_number known j) (storage_in known e) (λ x q. s.half.right j e x p q)
      (λ q. ⊎_elim
      (λ eq. let de : d ≡ e = same_Some d e (sym at ∙ ap (slice_get ds) (sym eq) ∙ p) in ap (storage_in known) (sym de) ∙
      t.none (ap (at_number known) (sym eq) ∙ q))
      (λ n. s.others j e n p q)
      (cases_eq j i));
})

pub stayed_quiet : (ds : List TypeDef) (i : ℕ) (known new : List (Option Storage)) (d : TypeDef) → Stale ds i known false → slice_get ds i ≡ Some d
    → Stays known i (storage_in known d) new → is_some (at_number new i) ≡ true → Waits false ds new
stayed_quiet ds i known new d s at t there off j e p q = ⊎_elim
    (λ eq. absurd (is_known (at_number new i) there (ap (at_number new) (sym eq) ∙ q)))
    (λ n. s.waits refl j e n p (ap (λ k. at_number k j) (sym t.same) ∙ q))
    (cases_eq j i)

pub learned_half : (ds : List TypeDef) (i : ℕ) (known new : List (Option Storage)) (waiting : Bool) (d : TypeDef) → Stale ds i known waiting →
    slice_get ds i ≡ Some d
    → i < length known → Learns known i (storage_in known d) new → HalfSettled ds new
learned_half ds i known new waiting d s at lt l =
    subst (λ (k : List (Option Storage)). HalfSettled ds k) (sym l.set) (half_set ds known i d l.storage s.half at l.unknown l.is lt)

-- an entry that isn't known yet isn't the one that became known
still_unknown : (known new : List (Option Storage)) (i j : ℕ) (o : Option Storage) → i < length known → Learns known i o new → at_number new j ≡ None
    → (j ≡ i → ⊥) × (at_number known j ≡ None)
still_unknown known new i j o lt l q =
    let r : at_number (slice_set known i (Some l.storage)) j ≡ None = ap (λ k. at_number k j) (sym l.set) ∙ q in
    ⊎_elim
    (λ eq. absurd
    (none-some l.storage (sym r ∙ ap (at_number (slice_set known i (Some l.storage))) (sym eq) ∙ ap option_flatten (set_same known i (Some l.storage) lt))))
    (λ n. (λ e. n (sym e), ap option_flatten (sym (set_other known i j (Some l.storage) n)) ∙ r))
    (cases_eq i j)

pub learned_settled : (ds : List TypeDef) (i : ℕ) (known new : List (Option Storage)) (d : TypeDef) → Stale ds i known false → slice_get ds i ≡ Some d
    → i < length known → Learns known i (storage_in known d) new → Settled ds new
learned_settled ds i known new d s at lt l =
    let half = learned_half ds i known new false d s at lt l in
    record {
      beside = half.beside;
      right = λ j e p. known_or (at_number new j) (storage_in new e) (λ x q. half.right j e x p q)
          (λ q. let r = still_unknown known new i j (storage_in known d) lt l q in due_unknown new e (s.waits refl j e r.0 p r.1));
    }

pub learned_quiet : (ds : List TypeDef) (i : ℕ) (known new : List (Option Storage)) (d : TypeDef) → Stale ds i known false → slice_get ds i ≡ Some d
    → i < length known → Learns known i (storage_in known d) new → Waits false ds new
learned_quiet ds i known new d s at lt l off j e p q =
    let r = still_unknown known new i j (storage_in known d) lt l q in s.waits refl j e r.0 p r.1
