-- The blocks of a value of a form: what keeps them, and where there are none.
use Rattle.std.proofs.Common.{◌≡◌, refl, sym, ap, subst, ◌∙◌, arith, ℕ, zero, suc, ◌+◌, ◌<◌, ◌≤◌, inl, inr, ◌⊎◌, Bool, true, false, List, [], ◌∷◌, ◌++◌}
use Rattle.std.specs.Prelude.{◌||◌}
use Rattle.std.proofs.lemmas.Bool.{false≢true}
use Rattle.nim_types.specs.Forms.{Form, Forms, of_some, hooked, hooked_any}
use Rattle.nim_meaning.specs.Values.{Value, Parts, Fixed, Values, Nil, More, nth, count, InBlock}
use Rattle.nim_meaning.specs.Marks.{Member, Distinct}
use Rattle.nim_meaning.specs.State.{World}
use Rattle.holders.specs.Holders.{held_in}
use Rattle.holders.specs.Owned.{IsBase, HasNone, Extent, Full, Constant, Has, a_number, no_number, no_text, a_text, gone_text, constant_text}
use Rattle.holders.specs.Owned.{no_sequence, a_sequence, gone_sequence, constant_sequence, a_row, gone_row, some_parts, gone_parts, of_wrapped}
use Rattle.holders.specs.Owned.{HasEach, none_more, one_more, HasAll, no_parts, a_part}

-- ---- lists

pub in_first : (k : ℕ) (bs cs : List ℕ) → Member k bs → Member k (bs ++ cs)
in_first k [] cs m = elim m [ ]
in_first k (b ∷ bs) cs (inl e) = inl e
in_first k (b ∷ bs) cs (inr m) = inr (in_first k bs cs m)

pub in_second : (k : ℕ) (bs cs : List ℕ) → Member k cs → Member k (bs ++ cs)
in_second k [] cs m = m
in_second k (b ∷ bs) cs m = inr (in_second k bs cs m)

pub distinct_first : (bs cs : List ℕ) → Distinct (bs ++ cs) → Distinct bs
distinct_first [] cs d = tt
distinct_first (b ∷ bs) cs d = (λ m. d.0 (in_first b bs cs m), distinct_first bs cs d.1)

pub distinct_second : (bs cs : List ℕ) → Distinct (bs ++ cs) → Distinct cs
distinct_second [] cs d = d
distinct_second (b ∷ bs) cs d = distinct_second bs cs d.1

pub distinct_apart : (k : ℕ) (bs cs : List ℕ) → Distinct (bs ++ cs) → Member k bs → Member k cs → ⊥
distinct_apart k [] cs d m n = elim m [ ]
distinct_apart k (b ∷ bs) cs d (inl e) n = d.0 (in_second b bs cs (subst (λ j. Member j cs) e n))
distinct_apart k (b ∷ bs) cs d (inr m) n = distinct_apart k bs cs d.1 m n

abbrev is_filled : List ℕ → Type 0
is_filled [] = ⊥
is_filled (y ∷ ys) = Unit {0}

not_empty : (k : ℕ) (bs : List ℕ) → k ∷ bs ≡ [] → ⊥
not_empty k bs e = subst (λ (ys : List ℕ). is_filled ys) e tt

pub first_empty : (bs cs : List ℕ) → bs ++ cs ≡ [] → bs ≡ []
first_empty [] cs e = refl
first_empty (b ∷ bs) cs e = absurd (not_empty b (bs ++ cs) e)

pub second_empty : (bs cs : List ℕ) → bs ++ cs ≡ [] → cs ≡ []
second_empty [] cs e = e
second_empty (b ∷ bs) cs e = absurd (not_empty b (bs ++ cs) e)

pub same_or_later : (i j : ℕ) → i ≤ j → (j ≡ i) ⊎ (suc i ≤ j)
same_or_later zero zero le = inl refl
same_or_later zero (suc j) le = inr (omega arith)
same_or_later (suc i) zero le = absurd (omega (arith, le))
same_or_later (suc i) (suc j) le = later (same_or_later i j (omega (arith, le)))
  where
    later : (j ≡ i) ⊎ (suc i ≤ j) → (suc j ≡ suc i) ⊎ (suc (suc i) ≤ suc j)
    later (inl e) = inl (ap suc e)
    later (inr le) = inr (omega (arith, le))

-- this one, or a later one
one_or_later : (all : Values) (i j : ℕ) → HasNone (nth all i) → (suc i ≤ j → HasNone (nth all j)) → i ≤ j → HasNone (nth all j)
one_or_later all i j first rest le = by (same_or_later i j le)
  where
    by : (j ≡ i) ⊎ (suc i ≤ j) → HasNone (nth all j)
    by (inl q) = subst (λ j. HasNone (nth all j)) (sym q) first
    by (inr more) = rest more

-- ---- what leaves the blocks of a value as they are

module _ (world after : World) where
  abbrev pub Stay : List ℕ → Type 0
  Stay bs = (k : ℕ) (x : Value) → Member k bs → IsBase world (InBlock k) x → IsBase after (InBlock k) x

  mutual
    pub has_stays : {x : Extent} {f : Form} {v : Value} {bs : List ℕ} → Stay bs → Has world x f v bs → Has after x f v bs
    has_stays stay a_number = a_number
    has_stays stay no_number = no_number
    has_stays stay no_text = no_text
    has_stays stay (a_text {k = k} {t = t} same h) = a_text same (stay k (Fixed t) (inl refl) h)
    has_stays stay gone_text = gone_text
    has_stays stay constant_text = constant_text
    has_stays stay no_sequence = no_sequence
    has_stays stay (a_sequence {k = k} {all = all} h each) =
        a_sequence (stay k (Parts all) (inl refl) h) (each_stays (λ j x m. stay j x (inr m)) each)
    has_stays stay gone_sequence = gone_sequence
    has_stays stay (constant_sequence each) = constant_sequence (each_stays stay each)
    has_stays stay (a_row n each) = a_row n (each_stays stay each)
    has_stays stay (gone_row e) = gone_row e
    has_stays stay (some_parts all) = some_parts (all_stays stay all)
    has_stays stay (gone_parts e) = gone_parts e
    has_stays stay (of_wrapped h) = of_wrapped (has_stays stay h)

    pub each_stays : {x : Extent} {f : Form} {n i : ℕ} {all : Values} {bs : List ℕ} → Stay bs → HasEach world x f n i all bs → HasEach after x f n i all bs
    each_stays stay none_more = none_more
    each_stays stay (one_more {bs = bs} {cs = cs} le h more) =
        one_more le (has_stays (λ k x m. stay k x (in_first k bs cs m)) h) (each_stays (λ k x m. stay k x (in_second k bs cs m)) more)

    pub all_stays : {x : Extent} {fs : Forms} {i : ℕ} {all : Values} {bs : List ℕ} → Stay bs → HasAll world x fs i all bs → HasAll after x fs i all bs
    all_stays stay (no_parts e) = no_parts e
    all_stays stay (a_part {bs = bs} {cs = cs} le h more) =
        a_part le (has_stays (λ k x m. stay k x (in_first k bs cs m)) h) (all_stays (λ k x m. stay k x (in_second k bs cs m)) more)

-- ---- lists of values, and conditions

abbrev pub SameFrom : ℕ → Values → Values → Type 0
SameFrom i all new = (count new ≡ count all) × ((j : ℕ) → i ≤ j → nth new j ≡ nth all j)

all_none : (all : Values) → ((j : ℕ) → j < count all → HasNone (nth all j)) → (k : ℕ) → held_in k all ≡ 0
all_none Nil h k = refl
all_none (More v vs) h k = omega (arith, h 0 (omega arith) k, all_none vs (λ j le. h (suc j) (omega (arith, le))) k)

first_false : (a b : Bool) → (a || b) ≡ false → a ≡ false
first_false true b e = absurd (false≢true (sym e))
first_false false b e = refl

second_false : (a b : Bool) → (a || b) ≡ false → b ≡ false
second_false true b e = absurd (false≢true (sym e))
second_false false b e = e

none_of_some : (n : ℕ) (b : Bool) → b ≡ false → of_some n b ≡ false
none_of_some zero b e = refl
none_of_some (suc n) b e = e

none_both : {bs cs : List ℕ} → bs ≡ [] → cs ≡ [] → bs ++ cs ≡ []
none_both {bs} {cs} e q = ap (λ (ds : List ℕ). ds ++ cs) e ∙ q

module _ {world : World} where
  -- ---- what is there in full may have gaps too, and be a constant

  mutual
    pub from_full : {x : Extent} {f : Form} {v : Value} {bs : List ℕ} → Has world Full f v bs → Has world x f v bs
    from_full a_number = a_number
    from_full no_text = no_text
    from_full (a_text same h) = a_text same h
    from_full no_sequence = no_sequence
    from_full (a_sequence h each) = a_sequence h (each_from_full each)
    from_full (a_row n each) = a_row n (each_from_full each)
    from_full (some_parts all) = some_parts (all_from_full all)
    from_full (of_wrapped h) = of_wrapped (from_full h)

    pub each_from_full : {x : Extent} {f : Form} {n i : ℕ} {all : Values} {bs : List ℕ} → HasEach world Full f n i all bs → HasEach world x f n i all bs
    each_from_full none_more = none_more
    each_from_full (one_more le h more) = one_more le (from_full h) (each_from_full more)

    pub all_from_full : {x : Extent} {fs : Forms} {i : ℕ} {all : Values} {bs : List ℕ} → HasAll world Full fs i all bs → HasAll world x fs i all bs
    all_from_full (no_parts e) = no_parts e
    all_from_full (a_part le h more) = a_part le (from_full h) (all_from_full more)

  -- ---- parts before a position may be others

  pub each_same : {x : Extent} {f : Form} {n i : ℕ} {all : Values} {bs : List ℕ} (new : Values) → SameFrom i all new → HasEach world x f n i all bs →
      HasEach world x f n i new bs
  each_same new s none_more = none_more
  each_same {x} new s (one_more {f = f} {i = i} {bs = bs} le h more) =
      one_more (subst (λ n. i < n) (sym s.0) le) (subst (λ v. Has world x f v bs) (sym (s.1 i (omega arith))) h)
      (each_same new (s.0, λ j le. s.1 j (omega (arith, le))) more)

  pub all_same : {x : Extent} {fs : Forms} {i : ℕ} {all : Values} {bs : List ℕ} (new : Values) → SameFrom i all new → HasAll world x fs i all bs →
      HasAll world x fs i new bs
  all_same new s (no_parts e) = no_parts (s.0 ∙ e)
  all_same {x} new s (a_part {f = f} {i = i} {bs = bs} le h more) =
      a_part (subst (λ n. i < n) (sym s.0) le) (subst (λ v. Has world x f v bs) (sym (s.1 i (omega arith))) h)
      (all_same new (s.0, λ j le. s.1 j (omega (arith, le))) more)

  -- ---- what has no blocks has no handles

  mutual
    pub has_none : {x : Extent} {f : Form} {v : Value} {bs : List ℕ} → bs ≡ [] → Has world x f v bs → HasNone v
    has_none e a_number = λ k. refl
    has_none e no_number = λ k. refl
    has_none e no_text = λ k. refl
    has_none e (a_text {k = k} same h) = absurd (not_empty k [] e)
    has_none e gone_text = λ k. refl
    has_none e constant_text = λ k. refl
    has_none e no_sequence = λ k. refl
    has_none e (a_sequence {k = k} {bs = bs} h each) = absurd (not_empty k bs e)
    has_none e gone_sequence = λ k. refl
    has_none e (constant_sequence {all = all} each) = all_none all (λ j le. each_none e each j (omega arith) (omega (arith, le)))
    has_none e (a_row {all = all} n each) = all_none all (λ j le. each_none e each j (omega arith) (omega (arith, le, n)))
    has_none e (gone_row q) = λ k. refl
    has_none e (some_parts {all = all} h) = all_none all (λ j le. parts_none e h j (omega arith) le)
    has_none e (gone_parts q) = λ k. refl
    has_none e (of_wrapped h) = has_none e h

    pub each_none : {x : Extent} {f : Form} {n i : ℕ} {all : Values} {bs : List ℕ} → bs ≡ [] → HasEach world x f n i all bs → (j : ℕ) → i ≤ j → j < i + n →
        HasNone (nth all j)
    each_none e none_more j le less = absurd (omega (arith, le, less))
    each_none e (one_more {n = n} {i = i} {all = all} {bs = bs} {cs = cs} at h more) j le less =
        one_or_later all i j (has_none (first_empty bs cs e) h) (λ m. each_none (second_empty bs cs e) more j m (omega (arith, less))) le

    parts_none : {x : Extent} {fs : Forms} {i : ℕ} {all : Values} {bs : List ℕ} → bs ≡ [] → HasAll world x fs i all bs → (j : ℕ) → i ≤ j → j < count all →
        HasNone (nth all j)
    parts_none e (no_parts q) j le less = absurd (omega (arith, le, less, q))
    parts_none e (a_part {i = i} {all = all} {bs = bs} {cs = cs} at h more) j le less =
        one_or_later all i j (has_none (first_empty bs cs e) h) (λ m. parts_none (second_empty bs cs e) more j m less) le

  -- a sequence whose elements have nothing any more
  pub row_none : {x : Extent} {f : Form} (all : Values) → HasEach world x f (count all) 0 all [] → (k : ℕ) → held_in k all ≡ 0
  row_none all each = all_none all (λ j le. each_none refl each j (omega arith) (omega (arith, le)))

  -- ---- what isn't hooked has no blocks

  mutual
    pub plain_none : {x : Extent} {f : Form} {v : Value} {bs : List ℕ} → hooked f ≡ false → Has world x f v bs → bs ≡ []
    plain_none e a_number = refl
    plain_none e no_number = refl
    plain_none e no_text = refl
    plain_none e (a_text same h) = absurd (false≢true (sym e))
    plain_none e gone_text = refl
    plain_none e constant_text = refl
    plain_none e no_sequence = refl
    plain_none e (a_sequence h each) = absurd (false≢true (sym e))
    plain_none e gone_sequence = refl
    plain_none e (constant_sequence each) = absurd (false≢true (sym e))
    plain_none e (a_row n each) = each_plain_none e each
    plain_none e (gone_row q) = refl
    plain_none e (some_parts all) = all_plain_none e all
    plain_none e (gone_parts q) = refl
    plain_none e (of_wrapped h) = plain_none e h

    pub each_plain_none : {x : Extent} {f : Form} {n i : ℕ} {all : Values} {bs : List ℕ} → of_some n (hooked f) ≡ false → HasEach world x f n i all bs → bs ≡ []
    each_plain_none e none_more = refl
    each_plain_none e (one_more {f = f} {n = n} le h more) = none_both (plain_none e h) (each_plain_none (none_of_some n (hooked f) e) more)

    pub all_plain_none : {x : Extent} {fs : Forms} {i : ℕ} {all : Values} {bs : List ℕ} → hooked_any fs ≡ false → HasAll world x fs i all bs → bs ≡ []
    all_plain_none e (no_parts q) = refl
    all_plain_none e (a_part {f = f} {fs = fs} le h more) =
        none_both (plain_none (first_false (hooked f) (hooked_any fs) e) h) (all_plain_none (second_false (hooked f) (hooked_any fs) e) more)

  -- and is the same anywhere
  mutual
    pub plain_anywhere : {f : Form} {v : Value} {bs : List ℕ} (after : World) (y : Extent) → hooked f ≡ false → Has world Constant f v bs → Has after y f v []
    plain_anywhere after y e a_number = a_number
    plain_anywhere after y e no_text = no_text
    plain_anywhere after y e (a_text same h) = absurd (false≢true (sym e))
    plain_anywhere after y e constant_text = absurd (false≢true (sym e))
    plain_anywhere after y e no_sequence = no_sequence
    plain_anywhere after y e (a_sequence h each) = absurd (false≢true (sym e))
    plain_anywhere after y e (constant_sequence each) = absurd (false≢true (sym e))
    plain_anywhere after y e (a_row n each) = a_row n (each_plain_anywhere after y e each)
    plain_anywhere after y e (some_parts all) = some_parts (all_plain_anywhere after y e all)
    plain_anywhere after y e (of_wrapped h) = of_wrapped (plain_anywhere after y e h)

    each_plain_anywhere : {f : Form} {n i : ℕ} {all : Values} {bs : List ℕ} (after : World) (y : Extent) → of_some n (hooked f) ≡ false →
        HasEach world Constant f n i all bs → HasEach after y f n i all []
    each_plain_anywhere after y e none_more = none_more
    each_plain_anywhere after y e (one_more {f = f} {n = n} {i = i} {all = all} le h more) =
        one_more {bs = []} {cs = []} le (plain_anywhere after y e h) (each_plain_anywhere after y (none_of_some n (hooked f) e) more)

    all_plain_anywhere : {fs : Forms} {i : ℕ} {all : Values} {bs : List ℕ} (after : World) (y : Extent) → hooked_any fs ≡ false →
        HasAll world Constant fs i all bs → HasAll after y fs i all []
    all_plain_anywhere after y e (no_parts q) = no_parts q
    all_plain_anywhere after y e (a_part {f = f} {fs = fs} le h more) =
        a_part {bs = []} {cs = []} le (plain_anywhere after y (first_false (hooked f) (hooked_any fs) e) h)
        (all_plain_anywhere after y (second_false (hooked f) (hooked_any fs) e) more)
