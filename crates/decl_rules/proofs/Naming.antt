-- As many calls as there are procedures lead to all that a procedure names.
use Rattle.std.proofs.Common.{◌≡◌, ℕ, zero, suc, ◌≤◌, ◌<◌, Bool, true, false, List, [], ◌∷◌, length, refl, sym, ap, subst, inl, inr, arith}
use Rattle.std.specs.Prelude.{◌⊎◌, nat_eq, if◌then◌else◌}
use Rattle.std.proofs.lemmas.Option.{slice_get_past}
use Rattle.nim_program.specs.Program.{Proc}
use Rattle.decl_rules.specs.Occurrences.{Occurrence, global, calls, hands}
use Rattle.decl_rules.specs.Whole.{occurring, in_proc, is_named, names_within}
use Rattle.decl_rules.proofs.Least.{either_way, no_bool, IsIn, here as here_in, further as further_in, Grows, stable}
use Rattle.decl_rules.specs.Naming.{OccursIn, here, further, Names, by_use, by_call, NamesFound}

-- ---- bools

by_test : (b c : Bool) → ◌≡◌ {A = Bool} (if b then true else c) true → (b ≡ true) ⊎ (c ≡ true)
by_test true c e = inl refl
by_test false c e = inr e

test_first : {b : Bool} (c : Bool) → b ≡ true → ◌≡◌ {A = Bool} (if b then true else c) true
test_first c e = ap (λ b. if b then true else c) e

test_next : (b : Bool) {c : Bool} → c ≡ true → ◌≡◌ {A = Bool} (if b then true else c) true
test_next true e = refl
test_next false e = e

same_number : (a b : ℕ) → nat_eq a b ≡ true → a ≡ b
same_number a b e = grind arith

number_same : (a : ℕ) → nat_eq a a ≡ true
number_same a = grind arith

-- ---- what names a global by what is named in calls

abbrev Found : ℕ → (ℕ → Bool) → List Occurrence → Type 0
Found g f os = OccursIn (global g) os ⊎ ((q : ℕ) × OccursIn (calls q) os × (f q ≡ true))

found_further : {g : ℕ} {f : ℕ → Bool} {o : Occurrence} {os : List Occurrence} → Found g f os → Found g f (o ∷ os)
found_further (inl h) = inl (further h)
found_further (inr h) = inr (h.0, further h.1, h.2)

found : (g : ℕ) (f : ℕ → Bool) (os : List Occurrence) → is_named g f os ≡ true → Found g f os
found g f [] e = cc
found g f (global place ∷ rest) e = by_first (found g f rest) (by_test (nat_eq g place) (is_named g f rest) e)
  where
    by_first : (is_named g f rest ≡ true → Found g f rest) → (nat_eq g place ≡ true) ⊎ (is_named g f rest ≡ true) → Found g f (global place ∷ rest)
    by_first more (inl h) = inl (subst (λ x. OccursIn (global g) (global x ∷ rest)) (same_number g place h) here)
    by_first more (inr h) = found_further (more h)
found g f (calls p ∷ rest) e = by_first (found g f rest) (by_test (f p) (is_named g f rest) e)
  where
    by_first : (is_named g f rest ≡ true → Found g f rest) → (f p ≡ true) ⊎ (is_named g f rest ≡ true) → Found g f (calls p ∷ rest)
    by_first more (inl h) = inr (p, here, h)
    by_first more (inr h) = found_further (more h)
found g f (hands p at place ∷ rest) e = found_further (found g f rest e)

next_named : (g : ℕ) (f : ℕ → Bool) (o : Occurrence) (os : List Occurrence) → is_named g f os ≡ true → is_named g f (o ∷ os) ≡ true
next_named g f (global place) os e = test_next (nat_eq g place) e
next_named g f (calls p) os e = test_next (f p) e
next_named g f (hands p at place) os e = e

use_named : {g : ℕ} (f : ℕ → Bool) {os : List Occurrence} → OccursIn (global g) os → is_named g f os ≡ true
use_named {g} f (here {rest = rest}) = test_first (is_named g f rest) (number_same g)
use_named {g} f (further {first = o} {rest = rest} h) = next_named g f o rest (use_named f h)

call_named : (g : ℕ) {q : ℕ} (f : ℕ → Bool) {os : List Occurrence} → OccursIn (calls q) os → f q ≡ true → is_named g f os ≡ true
call_named g f (here {rest = rest}) e = test_first (is_named g f rest) e
call_named g f (further {first = o} {rest = rest} h) e = next_named g f o rest (call_named g f h e)

-- where more is named in calls, more is named
more_named : (g : ℕ) (f h : ℕ → Bool) (os : List Occurrence) → ((q : ℕ) → f q ≡ true → h q ≡ true) → is_named g f os ≡ true → is_named g h os ≡ true
more_named g f h os more e = by_found (found g f os e)
  where
    by_found : Found g f os → is_named g h os ≡ true
    by_found (inl o) = use_named h o
    by_found (inr o) = call_named g h o.1 (more o.0 o.2)

-- ---- more calls

abbrev W : List Proc → ℕ → ℕ → ℕ → Bool
W all g n p = names_within n all g p

abbrev below : ℕ → List ℕ
below zero = []
below (suc n) = n ∷ below n

length_below : (n : ℕ) → length (below n) ≡ n
length_below zero = refl
length_below (suc n) = ap suc (length_below n)

is_below : (n p : ℕ) → p < n → IsIn p (below n)
is_below zero p l = absurd (omega (arith, l))
is_below (suc n) p l = by_place (is_below n p) (either_way (nat_eq p n))
  where
    less : nat_eq p n ≡ false → p < n
    less e = grind arith

    by_place : (p < n → IsIn p (below n)) → (nat_eq p n ≡ true) ⊎ (nat_eq p n ≡ false) → IsIn p (n ∷ below n)
    by_place rest (inl e) = subst (λ x. IsIn x (n ∷ below n)) (sym (same_number p n e)) here_in
    by_place rest (inr e) = further_in (rest (less e))

-- there is nothing in a procedure that isn't there
past : (all : List Proc) (g n p : ℕ) → length all ≤ p → W all g (suc n) p ≡ false
past all g n p l = ap (λ x. is_named g (W all g n) (in_proc x)) (slice_get_past all p l)

abbrev itself : ℕ → ℕ
itself p = p

names_grow : (all : List Proc) (g : ℕ) → Grows itself (below (length all)) (W all g)
names_grow all g =
    record {
      none = λ p. refl;
      step = λ n m more p e. more_named g (W all g n) (W all g m) (occurring all p) more e;
      among = λ n p e. by_place n p e (grind arith);
    }
  where
    by_place : (n p : ℕ) → W all g (suc n) p ≡ true → (p < length all) ⊎ (length all ≤ p) → (q : ℕ) × IsIn q (below (length all)) × (itself q ≡ p)
    by_place n p e (inl l) = (p, is_below (length all) p l, refl)
    by_place n p e (inr l) = no_bool e (past all g n p l)

one_more : (all : List Proc) (g p : ℕ) → W all g (suc (length all)) p ≡ true → W all g (length all) p ≡ true
one_more all g p = subst (λ n. W all g (suc n) p ≡ true → W all g n p ≡ true) (length_below (length all)) (stable (names_grow all g) p)

-- ---- the law

named_so : (all : List Proc) (g n p : ℕ) → W all g n p ≡ true → Names all g p
named_so all g zero p e = cc
named_so all g (suc n) p e = by_found (named_so all g n) (found g (W all g n) (occurring all p) e)
  where
    by_found : ((q : ℕ) → W all g n q ≡ true → Names all g q) → Found g (W all g n) (occurring all p) → Names all g p
    by_found more (inl o) = by_use o
    by_found more (inr o) = by_call o.1 (more o.0 o.2)

so_named : {all : List Proc} {g p : ℕ} → Names all g p → W all g (length all) p ≡ true
so_named {all} {g} {p} (by_use o) = one_more all g p (use_named (W all g (length all)) o)
so_named {all} {g} {p} (by_call o h) = one_more all g p (call_named g (W all g (length all)) o (so_named h))

pub names_found : NamesFound
names_found all g p = (λ e. named_so all g (length all) p e, λ h. so_named h)
