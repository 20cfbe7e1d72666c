-- Temporaries by number: those of a part have the numbers of that part, so they are found among all places as they are found among the part's own.
use Rattle.std.proofs.Common.{◌≡◌, ℕ, suc, ◌<◌, ◌≤◌, Bool, true, false, List, [], ◌∷◌, ◌++◌, Option, Some, None, refl, ap, ap₂, ◌∙◌, arith}
use Rattle.std.specs.Prelude.{nat_eq, ◌&&◌, if◌then◌else◌}
use Rattle.std.proofs.lemmas.Bool.{ne_eqb, eq-eqb}
use Rattle.flat_code.specs.declared.place.PlaceKind.{PlaceKind}
use Rattle.flat_code.specs.declared.place.FlatPlace.{FlatPlace}
use Rattle.flat_code.specs.Fits.{is_value, is_location, is_declared, place_named}
use Rattle.flattening.proofs.Parts.{Each, both}
use Rattle.flattening.proofs.Temps.{Outside}

-- ---- looking up in lists that stand one behind another

none_there : {A : Type 0} {B : Type 0} {x : A} → Some x ≡ None → B
none_there e = cc

pub named_before : (is_kind : PlaceKind → Bool) (xs ys : List FlatPlace) (n : ℕ) → place_named is_kind ys n ≡ None →
    place_named is_kind (xs ++ ys) n ≡ place_named is_kind xs n
named_before is_kind [] ys n e = e
named_before is_kind (p ∷ xs) ys n e = ap (λ o. if nat_eq p.number n && is_kind p.kind then Some p else o) (named_before is_kind xs ys n e)

-- none in the first list
behind_one : (b : Bool) (p : FlatPlace) (o o' rest : Option FlatPlace) → (if b then Some p else o) ≡ None → (o ≡ None → o' ≡ rest) →
    (if b then Some p else o') ≡ rest
behind_one true p o o' rest e f = none_there e
behind_one false p o o' rest e f = f e

pub named_behind : (is_kind : PlaceKind → Bool) (xs ys : List FlatPlace) (n : ℕ) → place_named is_kind xs n ≡ None →
    place_named is_kind (xs ++ ys) n ≡ place_named is_kind ys n
named_behind is_kind [] ys n e = refl
named_behind is_kind (p ∷ xs) ys n e =
    behind_one (nat_eq p.number n && is_kind p.kind) p (place_named is_kind xs n) (place_named is_kind (xs ++ ys) n) (place_named is_kind ys n) e
    (named_behind is_kind xs ys n)

pub named_neither : (is_kind : PlaceKind → Bool) (xs ys : List FlatPlace) (n : ℕ) → place_named is_kind xs n ≡ None → place_named is_kind ys n ≡ None →
    place_named is_kind (xs ++ ys) n ≡ None
named_neither is_kind xs ys n e e' = named_behind is_kind xs ys n e ∙ e'

-- the first one
pub named_here : (is_kind : PlaceKind → Bool) (p : FlatPlace) (rest : List FlatPlace) → is_kind p.kind ≡ true →
    place_named is_kind (p ∷ rest) p.number ≡ Some p
named_here is_kind p rest is =
    ap₂ (λ a b. if a && b then Some p else place_named is_kind rest p.number) (eq-eqb p.number p.number refl) is

-- one of another kind
other_kind : (is_kind : PlaceKind → Bool) (p : FlatPlace) (rest : List FlatPlace) (n : ℕ) (b : Bool) → is_kind p.kind ≡ false →
    (if b && is_kind p.kind then Some p else place_named is_kind rest n) ≡ place_named is_kind rest n
other_kind is_kind p rest n true apart_kind = ap (λ c. if c then Some p else place_named is_kind rest n) apart_kind
other_kind is_kind p rest n false apart_kind = refl

pub named_past : (is_kind : PlaceKind → Bool) (p : FlatPlace) (rest : List FlatPlace) (n : ℕ) → is_kind p.kind ≡ false →
    place_named is_kind (p ∷ rest) n ≡ place_named is_kind rest n
named_past is_kind p rest n apart_kind = other_kind is_kind p rest n (nat_eq p.number n) apart_kind

-- ---- the temporaries of parts whose numbers are from one to below another

pub record Numbered (lo hi : ℕ) (places : List FlatPlace) : Type 0 where
  pub values : (n : ℕ) → Outside lo hi n → place_named is_value places n ≡ None
  pub locations : (n : ℕ) → Outside lo hi n → place_named is_location places n ≡ None
  pub undeclared : Each (λ (p : FlatPlace). is_declared p.kind ≡ false) places

pub numbered_none : {lo hi : ℕ} → Numbered lo hi []
numbered_none = record { values = λ n out. refl; locations = λ n out. refl; undeclared = tt }

pub numbered_one : {lo hi : ℕ} (p : FlatPlace) → is_declared p.kind ≡ false → lo ≤ p.number → p.number < hi → Numbered lo hi (p ∷ [])
numbered_one {lo} {hi} p undeclared low high = record {
  values = λ n out. apart_kind is_value n out;
  locations = λ n out. apart_kind is_location n out;
  undeclared = (undeclared, tt);
}
  where
    apart_kind : (is_kind : PlaceKind → Bool) (n : ℕ) → Outside lo hi n → place_named is_kind (p ∷ []) n ≡ None
    apart_kind is_kind n out =
        ap (λ b. if b && is_kind p.kind then Some p else None)
        (ne_eqb p.number n (λ e. let h = out (omega (arith, low, e)) in absurd (omega (arith, h, high, e))))

infixl 10 ◌>>◌
pub ◌>>◌ : {lo hi : ℕ} {xs ys : List FlatPlace} → Numbered lo hi xs → Numbered lo hi ys → Numbered lo hi (xs ++ ys)
◌>>◌ {lo} {hi} {xs} {ys} p q = record {
  values = λ n out. named_neither is_value xs ys n (p.values n out) (q.values n out);
  locations = λ n out. named_neither is_location xs ys n (p.locations n out) (q.locations n out);
  undeclared = both (λ (r : FlatPlace). is_declared r.kind ≡ false) xs ys p.undeclared q.undeclared;
}

pub numbered_wide : {lo hi lo' hi' : ℕ} {xs : List FlatPlace} → lo ≤ lo' → hi' ≤ hi → Numbered lo' hi' xs → Numbered lo hi xs
numbered_wide {lo} {hi} {lo'} {hi'} low high p = record {
  values = λ n out. p.values n (λ le. let h = out (omega (arith, low, le)) in omega (arith, h, high));
  locations = λ n out. p.locations n (λ le. let h = out (omega (arith, low, le)) in omega (arith, h, high));
  undeclared = p.undeclared;
}

-- ---- what is found among all places as among a part's own: values from one number on, and locations from another

pub record Owns (whole mine : List FlatPlace) (values_from from behind : ℕ) : Type 0 where
  pub values : (n : ℕ) → values_from ≤ n → n < behind → place_named is_value whole n ≡ place_named is_value mine n
  pub locations : (n : ℕ) → from ≤ n → n < behind → place_named is_location whole n ≡ place_named is_location mine n

-- those of the first of two parts, and of the second one
pub owns_first : {whole xs ys : List FlatPlace} {v l hi : ℕ} (mid hi' : ℕ) → mid ≤ hi → Numbered mid hi' ys → Owns whole (xs ++ ys) v l hi →
    Owns whole xs v l mid
owns_first {whole} {xs} {ys} {v} {l} {hi} mid hi' le second owns = record {
  values = λ n low high. owns.values n low (omega (arith, high, le)) ∙ named_before is_value xs ys n (second.values n (λ m. absurd (omega (arith, m, high))));
  locations = λ n low high.
      owns.locations n low (omega (arith, high, le)) ∙ named_before is_location xs ys n (second.locations n (λ m. absurd (omega (arith, m, high))));
}

pub owns_second : {whole xs ys : List FlatPlace} {v l hi : ℕ} (lo mid hi' : ℕ) → v ≤ mid → l ≤ mid → hi' ≤ hi → Numbered lo mid xs →
    Owns whole (xs ++ ys) v l hi → Owns whole ys mid mid hi'
owns_second {whole} {xs} {ys} {v} {l} {hi} lo mid hi' low low' le first owns = record {
  values = λ n m high. owns.values n (omega (arith, m, low)) (omega (arith, high, le)) ∙ named_behind is_value xs ys n (first.values n (λ h. m));
  locations = λ n m high. owns.locations n (omega (arith, m, low')) (omega (arith, high, le)) ∙ named_behind is_location xs ys n (first.locations n (λ h. m));
}

-- with fewer values
pub owns_fewer : {whole mine : List FlatPlace} {v l hi : ℕ} (v' : ℕ) → v ≤ v' → Owns whole mine v l hi → Owns whole mine v' l hi
owns_fewer {whole} {mine} {v} {l} {hi} v' le owns =
    record { values = λ n low high. owns.values n (omega (arith, low, le)) high; locations = owns.locations }

-- with fewer locations
pub owns_later : {whole mine : List FlatPlace} {v l hi : ℕ} (l' : ℕ) → l ≤ l' → Owns whole mine v l hi → Owns whole mine v l' hi
owns_later {whole} {mine} {v} {l} {hi} l' le owns =
    record { values = owns.values; locations = λ n low high. owns.locations n (omega (arith, low, le)) high }

-- of fewer numbers
pub owns_less : {whole mine : List FlatPlace} {v l hi : ℕ} (hi' : ℕ) → hi' ≤ hi → Owns whole mine v l hi → Owns whole mine v l hi'
owns_less {whole} {mine} {v} {l} {hi} hi' le owns = record {
  values = λ n low high. owns.values n low (omega (arith, high, le));
  locations = λ n low high. owns.locations n low (omega (arith, high, le));
}

-- some of the numbers
pub owns_inner : {whole mine : List FlatPlace} {v l hi : ℕ} (u hi' : ℕ) → v ≤ u → l ≤ u → hi' ≤ hi → Owns whole mine v l hi → Owns whole mine u u hi'
owns_inner {whole} {mine} {v} {l} {hi} u hi' low low' le owns = record {
  values = λ n m high. owns.values n (omega (arith, m, low)) (omega (arith, high, le));
  locations = λ n m high. owns.locations n (omega (arith, m, low')) (omega (arith, high, le));
}

-- one place before others, of another number
pub other_number : (is_kind : PlaceKind → Bool) (p : FlatPlace) (ys : List FlatPlace) (t n : ℕ) → p.number ≡ t → suc t ≤ n →
    place_named is_kind (p ∷ ys) n ≡ place_named is_kind ys n
other_number is_kind p ys t n is low =
    ap (λ b. if b && is_kind p.kind then Some p else place_named is_kind ys n) (ne_eqb p.number n (λ e. absurd (omega (arith, low, e, is))))

-- behind a value of the first number
pub owns_behind_value : {whole ys : List FlatPlace} {t hi : ℕ} (p : FlatPlace) → is_location p.kind ≡ false → p.number ≡ t → Owns whole (p ∷ ys) t t hi →
    Owns whole ys (suc t) t hi
owns_behind_value {whole} {ys} {t} {hi} p apart_kind is owns = record {
  values = λ n low high. owns.values n (omega (arith, low)) high ∙ other_number is_value p ys t n is low;
  locations = λ n low high. owns.locations n low high ∙ named_past is_location p ys n apart_kind;
}
