-- What grows from step to step, over a list, grows no more after as many steps as the list has members.
use Rattle.std.proofs.Common.{◌≡◌, ℕ, zero, suc, ◌≤◌, Bool, true, false, List, [], ◌∷◌, length, refl, subst, sym, inl, inr, arith}
use Rattle.std.specs.Prelude.{◌⊎◌}

pub either_way : (b : Bool) → (b ≡ true) ⊎ (b ≡ false)
either_way true = inl refl
either_way false = inr refl

pub no_bool : {A : Type 0} {b : Bool} → b ≡ true → b ≡ false → A
no_bool e f = cc

pub data IsIn {B : Type 0} (b : B) : List B → Type 0 where
  here : {rest : List B} → IsIn b (b ∷ rest)
  further : {c : B} {rest : List B} → IsIn b rest → IsIn b (c ∷ rest)

-- `grown n a`: a is reached in n steps
pub record Grows {A B : Type 0} (name : B → A) (all : List B) (grown : ℕ → A → Bool) : Type 0 where
  pub none : (a : A) → grown 0 a ≡ false
  pub step : (n m : ℕ) → ((a : A) → grown n a ≡ true → grown m a ≡ true) → (a : A) → grown (suc n) a ≡ true → grown (suc m) a ≡ true
  pub among : (n : ℕ) (a : A) → grown (suc n) a ≡ true → (b : B) × IsIn b all × (name b ≡ a)

abbrev Stable : {A : Type 0} → (ℕ → A → Bool) → ℕ → Type 0
Stable {A} grown n = (a : A) → grown (suc n) a ≡ true → grown n a ≡ true

one_more : {A B : Type 0} {name : B → A} {all : List B} {grown : ℕ → A → Bool} → Grows name all grown → (n : ℕ) (a : A) → grown n a ≡ true
    → grown (suc n) a ≡ true
one_more g zero a e = no_bool e (g.none a)
one_more g (suc n) a e = g.step n (suc n) (one_more g n) a e

-- ---- so many

abbrev pub count_if : Bool → ℕ → ℕ
count_if true n = suc n
count_if false n = n

abbrev pub count : {B : Type 0} → List B → (B → Bool) → ℕ
count [] f = 0
count (b ∷ rest) f = count_if (f b) (count rest f)

pub count_most : {B : Type 0} (all : List B) (f : B → Bool) → count all f ≤ length all
count_most [] f = omega arith
count_most (b ∷ rest) f = by_first (f b) (count_most rest f)
  where
    by_first : (c : Bool) → count rest f ≤ length rest → count_if c (count rest f) ≤ suc (length rest)
    by_first true h = omega (arith, h)
    by_first false h = omega (arith, h)

count_least : {B : Type 0} (all : List B) (f h : B → Bool) → ((b : B) → f b ≡ true → h b ≡ true) → count all f ≤ count all h
count_least [] f h more = omega arith
count_least (b ∷ rest) f h more = by_first (f b) (h b) (more b) (count_least rest f h more)
  where
    by_first : (c d : Bool) → (c ≡ true → d ≡ true) → count rest f ≤ count rest h → count_if c (count rest f) ≤ count_if d (count rest h)
    by_first true true m e = omega (arith, e)
    by_first true false m e = no_bool (m refl) refl
    by_first false true m e = omega (arith, e)
    by_first false false m e = e

pub count_less : {B : Type 0} {b : B} {all : List B} (f h : B → Bool) → ((c : B) → f c ≡ true → h c ≡ true) → IsIn b all → f b ≡ false → h b ≡ true
    → suc (count all f) ≤ count all h
count_less {B} {b} {all} f h more (here {rest = rest}) e i = at_first (f b) (h b) e i (count_least rest f h more)
  where
    at_first : (c d : Bool) → c ≡ false → d ≡ true → count rest f ≤ count rest h → suc (count_if c (count rest f)) ≤ count_if d (count rest h)
    at_first true d e i k = no_bool refl e
    at_first false false e i k = no_bool i refl
    at_first false true e i k = omega (arith, k)
count_less {B} {b} {all} f h more (further {c = c} {rest = rest} l) e i = behind (f c) (h c) (more c) (count_less f h more l e i)
  where
    behind : (c d : Bool) → (c ≡ true → d ≡ true) → suc (count rest f) ≤ count rest h → suc (count_if c (count rest f)) ≤ count_if d (count rest h)
    behind true true m k = omega (arith, k)
    behind true false m k = no_bool (m refl) refl
    behind false true m k = omega (arith, k)
    behind false false m k = k

-- ---- until nothing is new

abbrev Gap : {A B : Type 0} → (B → A) → (ℕ → A → Bool) → ℕ → List B → Type 0
Gap {A} {B} name grown n all = (b : B) × IsIn b all × (grown n (name b) ≡ false) × (grown (suc n) (name b) ≡ true)

abbrev NoGap : {A B : Type 0} → (B → A) → (ℕ → A → Bool) → ℕ → List B → Type 0
NoGap {A} {B} name grown n all = (b : B) → IsIn b all → grown (suc n) (name b) ≡ true → grown n (name b) ≡ true

pub nowhere : {X B : Type 0} {b : B} → IsIn b [] → X
nowhere l = elim l [ ]

gap : {A B : Type 0} (name : B → A) (grown : ℕ → A → Bool) (n : ℕ) (all : List B) → NoGap name grown n all ⊎ Gap name grown n all
gap name grown n [] = inl (λ b l e. nowhere l)
gap {A} {B} name grown n (b ∷ rest) = by_rest (gap name grown n rest) (either_way (grown n (name b))) (either_way (grown (suc n) (name b)))
  where
    none_at : NoGap name grown n rest → (grown (suc n) (name b) ≡ true → grown n (name b) ≡ true) → NoGap name grown n (b ∷ rest)
    none_at none first c here e = first e
    none_at none first c (further l) e = none c l e

    by_rest : NoGap name grown n rest ⊎ Gap name grown n rest → (grown n (name b) ≡ true) ⊎ (grown n (name b) ≡ false)
        → (grown (suc n) (name b) ≡ true) ⊎ (grown (suc n) (name b) ≡ false) → NoGap name grown n (b ∷ rest) ⊎ Gap name grown n (b ∷ rest)
    by_rest (inr h) c d = inr (h.0, further h.1, h.2, h.3)
    by_rest (inl none) (inl c) d = inl (none_at none (λ _. c))
    by_rest (inl none) (inr c) (inl d) = inr (b, here, c, d)
    by_rest (inl none) (inr c) (inr d) = inl (none_at none (λ e. no_bool e d))

stable_or_gap : {A B : Type 0} {name : B → A} {all : List B} {grown : ℕ → A → Bool} → Grows name all grown → (n : ℕ)
    → Stable grown n ⊎ Gap name grown n all
stable_or_gap {A} {B} {name} {all} {grown} g n = by_gap (gap name grown n all)
  where
    by_name : NoGap name grown n all → (a : A) → grown (suc n) a ≡ true → (b : B) × IsIn b all × (name b ≡ a) → grown n a ≡ true
    by_name none a e f = subst (λ x. grown n x ≡ true) f.2 (none f.0 f.1 (subst (λ x. grown (suc n) x ≡ true) (sym f.2) e))

    by_gap : NoGap name grown n all ⊎ Gap name grown n all → Stable grown n ⊎ Gap name grown n all
    by_gap (inl none) = inl (λ a e. by_name none a e (g.among n a e))
    by_gap (inr h) = inr h

stable_next : {A B : Type 0} {name : B → A} {all : List B} {grown : ℕ → A → Bool} → Grows name all grown → (n : ℕ) → Stable grown n
    → Stable grown (suc n)
stable_next g n s a e = g.step (suc n) n s a e

-- it is stable, or each step has reached one more
progress : {A B : Type 0} {name : B → A} {all : List B} {grown : ℕ → A → Bool} → Grows name all grown → (n : ℕ)
    → Stable grown n ⊎ (suc n ≤ count all (λ b. grown (suc n) (name b)))
progress {A} {B} {name} {all} {grown} g zero = by_gap (stable_or_gap g zero)
  where
    by_gap : Stable grown zero ⊎ Gap name grown zero all → Stable grown zero ⊎ (suc zero ≤ count all (λ b. grown (suc zero) (name b)))
    by_gap (inl s) = inl s
    by_gap (inr h) =
        let more = count_less (λ b. grown zero (name b)) (λ b. grown (suc zero) (name b)) (λ b. one_more g zero (name b)) h.1 h.2 h.3 in
        inr (omega (arith, more))
progress {A} {B} {name} {all} {grown} g (suc n) = by_before (progress g n) (stable_or_gap g (suc n))
  where
    by_before : Stable grown n ⊎ (suc n ≤ count all (λ b. grown (suc n) (name b))) → Stable grown (suc n) ⊎ Gap name grown (suc n) all
        → Stable grown (suc n) ⊎ (suc (suc n) ≤ count all (λ b. grown (suc (suc n)) (name b)))
    by_before (inl s) h = inl (stable_next g n s)
    by_before (inr m) (inl s) = inl s
    by_before (inr m) (inr h) =
        let more = count_less (λ b. grown (suc n) (name b)) (λ b. grown (suc (suc n)) (name b)) (λ b. one_more g (suc n) (name b)) h.1 h.2 h.3 in
        inr (omega (arith, m, more))

pub stable : {A B : Type 0} {name : B → A} {all : List B} {grown : ℕ → A → Bool} → Grows name all grown → (a : A)
    → grown (suc (length all)) a ≡ true → grown (length all) a ≡ true
stable {A} {B} {name} {all} {grown} g = by_progress (progress g (length all))
  where
    by_progress : Stable grown (length all) ⊎ (suc (length all) ≤ count all (λ b. grown (suc (length all)) (name b))) → Stable grown (length all)
    by_progress (inl s) = s
    by_progress (inr m) = let most = count_most all (λ b. grown (suc (length all)) (name b)) in absurd (omega (arith, m, most))

-- what some steps reach, so many reach
pub reached : {A B : Type 0} {name : B → A} {all : List B} {grown : ℕ → A → Bool} → Grows name all grown → (n : ℕ) (a : A) → grown n a ≡ true
    → grown (length all) a ≡ true
reached g zero a e = no_bool e (g.none a)
reached {all = all} g (suc n) a e = stable g a (g.step n (length all) (reached g n) a e)
