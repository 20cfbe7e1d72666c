-- The elements of sequences that are joined, cut, and filled with blank ones.
use Rattle.std.proofs.Common.{◌≡◌, refl, sym, ap, subst, ◌∙◌, arith, ℕ, zero, suc, ◌+◌, ◌<◌, ◌≤◌, List, [], ◌++◌}
use Rattle.std.specs.Prelude.{◌*◌}
use Rattle.nim_types.specs.Forms.{Form, plain, reference, block, elements, row, parts, resource, wrapped, Forms, no_forms, forms, size, or_word, size_all}
use Rattle.nim_meaning.specs.Values.{Value, Values, Nil, More, nth, count, joined, first_of, repeated, blank, blanks}
use Rattle.nim_meaning.specs.State.{World}
use Rattle.holders.specs.Holders.{held_by, held_in}
use Rattle.holders.specs.Owned.{HasNone, Extent, Has, a_number, no_text, no_sequence, a_row, some_parts, of_wrapped, HasEach, none_more, one_more, HasAll}
use Rattle.holders.specs.Owned.{Constant, a_text, constant_text, a_sequence, constant_sequence}
use Rattle.holders.specs.Owned.{no_parts}
use Rattle.holders.specs.Owned.{a_part}
use Rattle.holders.specs.Owned.{HasBlocksAlone, HaveBlocksAlone}
use Rattle.holders.proofs.Outward.{assoc}
use Rattle.holders.proofs.Owning.{second_empty}

-- ---- lists of values

pub count_joined : (vs ws : Values) → count (joined vs ws) ≡ count vs + count ws
count_joined Nil ws = omega arith
count_joined (More v vs) ws = omega (arith, count_joined vs ws)

joined_first : (vs ws : Values) (j : ℕ) → j < count vs → nth (joined vs ws) j ≡ nth vs j
joined_first Nil ws j le = absurd (omega (arith, le))
joined_first (More v vs) ws zero le = refl
joined_first (More v vs) ws (suc j) le = joined_first vs ws j (omega (arith, le))

joined_second : (vs ws : Values) (i j : ℕ) → i ≡ count vs + j → nth (joined vs ws) i ≡ nth ws j
joined_second Nil ws i j e = ap (nth ws) (omega (arith, e))
joined_second (More v vs) ws zero j e = absurd (omega (arith, e))
joined_second (More v vs) ws (suc i) j e = joined_second vs ws i j (omega (arith, e))

pub held_joined : (k : ℕ) (vs ws : Values) → held_in k (joined vs ws) ≡ held_in k vs + held_in k ws
held_joined k Nil ws = omega arith
held_joined k (More v vs) ws = omega (arith, held_joined k vs ws)

pub count_first : (n : ℕ) (vs : Values) → n ≤ count vs → count (first_of n vs) ≡ n
count_first zero vs le = refl
count_first (suc n) Nil le = absurd (omega (arith, le))
count_first (suc n) (More v vs) le = ap suc (count_first n vs (omega (arith, le)))

pub nth_first : (n : ℕ) (vs : Values) (j : ℕ) → j < n → nth (first_of n vs) j ≡ nth vs j
nth_first zero vs j le = absurd (omega (arith, le))
nth_first (suc n) Nil j le = refl
nth_first (suc n) (More v vs) zero le = refl
nth_first (suc n) (More v vs) (suc j) le = nth_first n vs j (omega (arith, le))

-- those behind have nothing
pub held_first : (k n : ℕ) (vs : Values) → ((j : ℕ) → n ≤ j → j < count vs → held_by k (nth vs j) ≡ 0) → held_in k (first_of n vs) ≡ held_in k vs
held_first k zero Nil h = refl
held_first k zero (More v vs) h = omega
    (arith, h 0 (omega arith) (omega arith), held_first k zero vs (λ j le less. h (suc j) (omega arith) (omega (arith, less))))
held_first k (suc n) Nil h = refl
held_first k (suc n) (More v vs) h = omega (arith, held_first k n vs (λ j le less. h (suc j) (omega (arith, le)) (omega (arith, less))))

pub held_last : (k n : ℕ) (vs : Values) → count vs ≡ suc n → held_in k (first_of n vs) + held_by k (nth vs n) ≡ held_in k vs
held_last k zero Nil e = absurd (omega (arith, e))
held_last k zero (More v Nil) e = omega arith
held_last k zero (More v (More x vs)) e = absurd (omega (arith, e))
held_last k (suc n) Nil e = absurd (omega (arith, e))
held_last k (suc n) (More v vs) e = omega (arith, held_last k n vs (omega (arith, e)))

pub none_in : (k : ℕ) (vs : Values) → count vs ≡ 0 → held_in k vs ≡ 0
none_in k Nil e = refl
none_in k (More v vs) e = absurd (omega (arith, e))

-- ---- what elements have

-- the first ones, and the others
pub record Cut (world : World) (x : Extent) (f : Form) (n m i : ℕ) (all : Values) (bs : List ℕ) : Type 0 where
  pub first : List ℕ
  pub rest : List ℕ
  pub is : bs ≡ first ++ rest
  pub each : HasEach world x f n i all first
  pub others : HasEach world x f m (i + n) all rest

pub record Only (world : World) (x : Extent) (f : Form) (v : Value) (bs : List ℕ) : Type 0 where
  pub blocks : List ℕ
  pub is : bs ≡ blocks ++ []
  pub has : Has world x f v blocks

module _ {world : World} where
  -- other values that are the same there
  pub each_like : {x : Extent} {f : Form} {n i : ℕ} {all : Values} {bs : List ℕ} (new : Values) → HasEach world x f n i all bs →
      ((j : ℕ) → i ≤ j → j < i + n → nth new j ≡ nth all j) → i + n ≤ count new → HasEach world x f n i new bs
  each_like new none_more same le = none_more
  each_like {x} new (one_more {f = f} {n = n} {i = i} {bs = bs} at h more) same le =
      one_more (omega (arith, le)) (subst (λ v. Has world x f v bs) (sym (same i (omega arith) (omega arith))) h)
      (each_like new more (λ j le less. same j (omega (arith, le)) (omega (arith, less))) (omega (arith, le)))

  each_shifted : {x : Extent} {f : Form} {m j : ℕ} {ws : Values} {cs : List ℕ} (vs : Values) (i : ℕ) → i ≡ count vs + j → HasEach world x f m j ws cs →
      HasEach world x f m i (joined vs ws) cs
  each_shifted vs i e none_more = none_more
  each_shifted {x} vs i e (one_more {f = f} {i = j} {all = ws} {bs = bs} at h more) =
      one_more (omega (arith, e, at, count_joined vs ws)) (subst (λ v. Has world x f v bs) (sym (joined_second vs ws i j e)) h)
      (each_shifted vs (suc i) (omega (arith, e)) more)

  pub each_joined : {x : Extent} {f : Form} {n i m : ℕ} {all ws : Values} {bs cs : List ℕ} → HasEach world x f n i all bs → i + n ≡ count all →
      HasEach world x f m 0 ws cs → HasEach world x f (n + m) i (joined all ws) (bs ++ cs)
  each_joined {x} {f} {m = m} {ws = ws} {cs = cs} (none_more {i = i} {all = all}) e more =
      subst (λ n. HasEach world x f n i (joined all ws) cs) (omega arith) (each_shifted all i (omega (arith, e)) more)
  each_joined {x} {f} {m = m} {ws = ws} {cs = cs} (one_more {n = n} {i = i} {all = all} {bs = first} {cs = rest} at h others) e more =
      subst (λ n. HasEach world x f n i (joined all ws) ((first ++ rest) ++ cs)) (omega arith)
      (subst (λ bs. HasEach world x f (suc (n + m)) i (joined all ws) bs) (sym (assoc first rest cs))
      (one_more (omega (arith, at, count_joined all ws)) (subst (λ v. Has world x f v first) (sym (joined_first all ws i at)) h)
      (each_joined others (omega (arith, e)) more)))

  pub each_cut : {x : Extent} {f : Form} {size i : ℕ} {all : Values} {bs : List ℕ} (n m : ℕ) → size ≡ n + m → HasEach world x f size i all bs →
      Cut world x f n m i all bs
  each_cut {x} {f} {size} {i} {all} {bs} zero m e each = record {
    first = [];
    rest = bs;
    is = refl;
    each = none_more;
    others = subst (λ j. HasEach world x f m j all bs) (omega arith) (subst (λ k. HasEach world x f k i all bs) (omega (arith, e)) each);
  }
  each_cut (suc n) m e none_more = absurd (omega (arith, e))
  each_cut {x} (suc n) m e (one_more {f = f} {i = i} {all = all} {bs = bs} at h more) =
      let c = each_cut n m (omega (arith, e)) more in
      record {
        first = bs ++ c.first;
        rest = c.rest;
        is = ap (λ cs. bs ++ cs) c.is ∙ sym (assoc bs c.first c.rest);
        each = one_more at h c.each;
        others = subst (λ j. HasEach world x f m j all c.rest) (omega arith) c.others;
      }

  pub each_only : {x : Extent} {f : Form} {i : ℕ} {all : Values} {bs : List ℕ} → HasEach world x f 1 i all bs → Only world x f (nth all i) bs
  each_only (one_more {bs = bs} at h none_more) = record { blocks = bs; is = refl; has = h }

  pub each_one : {x : Extent} {f : Form} {v : Value} {bs : List ℕ} → Has world x f v bs → HasEach world x f 1 0 (More v Nil) (bs ++ [])
  each_one h = one_more (omega arith) h none_more

-- ---- blank values

module _ (world : World) (x : Extent) where
  each_further : {f : Form} {n i : ℕ} {vs : Values} (v : Value) → HasEach world x f n i vs [] → HasEach world x f n (suc i) (More v vs) []
  each_further {f} {n} {i} {vs} v h = by n i h refl
    where
      by : {bs : List ℕ} (n i : ℕ) → HasEach world x f n i vs bs → bs ≡ [] → HasEach world x f n (suc i) (More v vs) bs
      by zero i none_more e = none_more
      by (suc n) i (one_more {bs = bs} {cs = cs} at h more) e =
          one_more (omega (arith, at)) h (by n (suc i) more (second_empty bs cs e))

  pub each_repeated : {f : Form} (n : ℕ) (v : Value) → Has world x f v [] → HasEach world x f n 0 (repeated n v) []
  each_repeated zero v h = none_more
  each_repeated (suc n) v h = one_more {bs = []} {cs = []} (omega arith) h (each_further v (each_repeated n v h))

  all_further : {fs : Forms} {i : ℕ} {vs : Values} (v : Value) → HasAll world x fs i vs [] → HasAll world x fs (suc i) (More v vs) []
  all_further {fs} {i} {vs} v h = by fs i h refl
    where
      by : {bs : List ℕ} (fs : Forms) (i : ℕ) → HasAll world x fs i vs bs → bs ≡ [] → HasAll world x fs (suc i) (More v vs) bs
      by no_forms i (no_parts q) e = no_parts (ap suc q)
      by (forms f fs) i (a_part {bs = bs} {cs = cs} at h more) e =
          a_part (omega (arith, at)) h (by fs (suc i) more (second_empty bs cs e))

  pub count_repeated : (n : ℕ) (v : Value) → count (repeated n v) ≡ n
  count_repeated zero v = refl
  count_repeated (suc n) v = ap suc (count_repeated n v)

  mutual
    pub blank_has : (f : Form) → HasBlocksAlone f → Has world x f (blank f) []
    blank_has plain s = a_number
    blank_has reference s = elim s [ ]
    blank_has block s = no_text
    blank_has (elements f) s = no_sequence
    blank_has (row n f) s = a_row (count_repeated n (blank f)) (each_repeated n (blank f) (blank_has f s))
    blank_has (parts fs) s = some_parts (blanks_have fs s)
    blank_has (resource fs) s = elim s [ ]
    blank_has (wrapped f) s = of_wrapped (blank_has f s)

    blanks_have : (fs : Forms) → HaveBlocksAlone fs → HasAll world x fs 0 (blanks fs) []
    blanks_have no_forms s = no_parts refl
    blanks_have (forms f fs) s = a_part {bs = []} {cs = []} (omega arith) (blank_has f s.0) (all_further (blank f) (blanks_have fs s.1))

-- a blank of a form of which something is there
module _ {world : World} where
  mutual
    pub blank_instead : {f : Form} {v : Value} {bs : List ℕ} → Has world Constant f v bs → Has world Constant f (blank f) []
    blank_instead a_number = a_number
    blank_instead no_text = no_text
    blank_instead (a_text long base) = no_text
    blank_instead constant_text = no_text
    blank_instead no_sequence = no_sequence
    blank_instead (a_sequence base each) = no_sequence
    blank_instead (constant_sequence each) = no_sequence
    blank_instead (a_row {n = n} {f = f} counted each) = a_row (count_repeated world Constant n (blank f)) (row_instead each)
    blank_instead (some_parts all) = some_parts (parts_instead all)
    blank_instead (of_wrapped h) = of_wrapped (blank_instead h)

    row_instead : {f : Form} {n i : ℕ} {vs : Values} {bs : List ℕ} → HasEach world Constant f n i vs bs
        → HasEach world Constant f n 0 (repeated n (blank f)) []
    row_instead none_more = none_more
    row_instead {f} (one_more {n = n} less h more) = each_repeated world Constant (suc n) (blank f) (blank_instead h)

    parts_instead : {fs : Forms} {i : ℕ} {vs : Values} {bs : List ℕ} → HasAll world Constant fs i vs bs → HasAll world Constant fs 0 (blanks fs) []
    parts_instead (no_parts e) = no_parts refl
    parts_instead (a_part {f = f} less h more) =
        a_part {bs = []} {cs = []} (omega arith) (blank_instead h) (all_further world Constant (blank f) (parts_instead more))

pub repeated_none : (k n : ℕ) (v : Value) → HasNone v → held_in k (repeated n v) ≡ 0
repeated_none k zero v h = refl
repeated_none k (suc n) v h = omega (arith, h k, repeated_none k n v h)

-- ---- sizes

word_some : (n : ℕ) → 1 ≤ or_word n
word_some zero = omega arith
word_some (suc n) = omega arith

pub size_some : (f : Form) → 1 ≤ size f
size_some plain = omega arith
size_some reference = omega arith
size_some block = omega arith
size_some (elements f) = omega arith
size_some (row n f) = word_some (n * size f)
size_some (parts fs) = word_some (size_all fs)
size_some (resource fs) = word_some (size_all fs)
size_some (wrapped f) = size_some f

pub none_of_size : (n : ℕ) (f : Form) → n * size f ≡ 0 → n ≡ 0
none_of_size n f e = by n (size f) (size_some f) e
  where
    by : (n s : ℕ) → 1 ≤ s → n * s ≡ 0 → n ≡ 0
    by zero s le e = refl
    by (suc n) s le e = absurd (omega (arith, le, e))

pub size_of_none : (n : ℕ) (f : Form) → n ≡ 0 → n * size f ≡ 0
size_of_none zero f e = omega arith
size_of_none (suc n) f e = absurd (omega (arith, e))
