-- What comes twice in a list, looked for from its front.
use Rattle.std.proofs.Common.{◌≡◌, ℕ, List, [], ◌∷◌, ◌++◌, refl, sym, ap, ap₂, ◌∙◌, take, length, ◌<◌, ◌+◌, get_or}
use Rattle.std.proofs.lemmas.List.{take_more}
use Rattle.std.specs.Prelude.{Bool, true, false, ◌||◌, if◌then◌else◌, map, nat_eq}
use Rattle.nim_types.specs.Types.{same_text}
use Rattle.expr_rules.specs.Constructions.{is_among, has_twice}
use Rattle.expr_parts.specs.declared.parts.Found.{Found}
use Rattle.expr_builds.specs.ViewBuilt.{has_number, found_twice}

abbrev pub among : {A : Type 0} → (A → A → Bool) → A → List A → Bool
among eq x [] = false
among eq x (y ∷ rest) = eq x y || among eq x rest

abbrev pub twice : {A : Type 0} → (A → A → Bool) → List A → Bool
twice eq [] = false
twice eq (x ∷ rest) = among eq x rest || twice eq rest

or_false : (b : Bool) → (b || false) ≡ b
or_false true = refl
or_false false = refl

or_next : (a b c : Bool) → (a || (b || c)) ≡ ((a || b) || c)
or_next true b c = refl
or_next false b c = refl

or_cross : (a b c d : Bool) → ((a || b) || (c || d)) ≡ ((a || c) || (b || d))
or_cross true b c d = refl
or_cross false true true d = refl
or_cross false true false d = refl
or_cross false false c d = refl

or_true : (b : Bool) → (b || true) ≡ true
or_true true = refl
or_true false = refl

or_on : (a b c : Bool) → (a || b) ≡ true → (b ≡ true → c ≡ true) → (a || c) ≡ true
or_on true b c h f = refl
or_on false b c h f = f h

or_either : (a b c d : Bool) → (a || b) ≡ true → (a ≡ true → c ≡ true) → (b ≡ true → d ≡ true) → (c || d) ≡ true
or_either true b c d h f g = ap (λ z. z || d) (f refl)
or_either false b c d h f g = ap (λ z. c || z) (g h) ∙ or_true c

pub among_end : {A : Type 0} (eq : A → A → Bool) (q x : A) (xs : List A) → among eq q (xs ++ x ∷ []) ≡ (among eq q xs || eq q x)
among_end eq q x [] = or_false (eq q x)
among_end eq q x (y ∷ xs) = ap (λ z. eq q y || z) (among_end eq q x xs) ∙ or_next (eq q y) (among eq q xs) (eq q x)

pub twice_end : {A : Type 0} (eq : A → A → Bool) → ((a b : A) → eq a b ≡ eq b a) → (x : A) (xs : List A)
    → twice eq (xs ++ x ∷ []) ≡ (twice eq xs || among eq x xs)
twice_end eq flip x [] = refl
twice_end eq flip x (y ∷ xs) =
    ap₂ (λ a b. a || b) (among_end eq y x xs) (twice_end eq flip x xs)
    ∙ or_cross (among eq y xs) (eq y x) (twice eq xs) (among eq x xs)
    ∙ ap (λ z. (among eq y xs || twice eq xs) || (z || among eq x xs)) (flip y x)

among_front : {A : Type 0} (eq : A → A → Bool) (q : A) (xs ys : List A) → among eq q xs ≡ true → among eq q (xs ++ ys) ≡ true
among_front eq q [] ys h = cc
among_front eq q (x ∷ xs) ys h = or_on (eq q x) (among eq q xs) (among eq q (xs ++ ys)) h (among_front eq q xs ys)

pub twice_front : {A : Type 0} (eq : A → A → Bool) (xs ys : List A) → twice eq xs ≡ true → twice eq (xs ++ ys) ≡ true
twice_front eq [] ys h = cc
twice_front eq (x ∷ xs) ys h =
    or_either (among eq x xs) (twice eq xs) (among eq x (xs ++ ys)) (twice eq (xs ++ ys)) h (among_front eq x xs ys) (twice_front eq xs ys)

-- ---- names

pub names_among : (x : List ℕ) (xs : List (List ℕ)) → is_among x xs ≡ among same_text x xs
names_among x [] = refl
names_among x (y ∷ xs) = ap (λ z. same_text x y || z) (names_among x xs)

pub names_twice : (xs : List (List ℕ)) → has_twice xs ≡ twice same_text xs
names_twice [] = refl
names_twice (x ∷ xs) = ap₂ (λ a b. a || b) (names_among x xs) (names_twice xs)

-- ---- what was seen so far

cond_or : (a b : Bool) → (if a then true else b) ≡ (b || a)
cond_or true b = sym (or_true b)
cond_or false b = sym (or_false b)

neither : {a b : Bool} → a ≡ false → b ≡ false → (a || b) ≡ false
neither {a} {b} e f = cc

pub seen_more : {A : Type 0} (eq : A → A → Bool) → ((a b : A) → eq a b ≡ eq b a) → (q x : A) (xs ys : List A) (before after : Bool)
    → ys ≡ xs ++ x ∷ [] → after ≡ (if eq x q then true else before) → before ≡ among eq q xs → after ≡ among eq q ys
seen_more eq flip q x xs ys before after more e h =
    e ∙ ap (λ (b : Bool). if eq x q then true else b) h ∙ cond_or (eq x q) (among eq q xs)
    ∙ ap (λ b. among eq q xs || b) (flip x q) ∙ sym (among_end eq q x xs) ∙ ap (among eq q) (sym more)

pub still_once : {A : Type 0} (eq : A → A → Bool) → ((a b : A) → eq a b ≡ eq b a) → (x : A) (xs ys : List A) → ys ≡ xs ++ x ∷ []
    → twice eq xs ≡ false → among eq x xs ≡ false → twice eq ys ≡ false
still_once eq flip x xs ys more once new = ap (twice eq) more ∙ twice_end eq flip x xs ∙ neither once new

pub now_twice : {A : Type 0} (eq : A → A → Bool) → ((a b : A) → eq a b ≡ eq b a) → (x : A) (xs ys all rest : List A) → ys ≡ xs ++ x ∷ []
    → ys ++ rest ≡ all → among eq x xs ≡ true → twice eq all ≡ true
now_twice eq flip x xs ys all rest more split again =
    ap (twice eq) (sym split)
    ∙ twice_front eq ys rest (ap (twice eq) more ∙ twice_end eq flip x xs ∙ ap (λ b. twice eq xs || b) again ∙ or_true (twice eq xs))

-- one more of a list
pub one_more : {A : Type 0} (xs : List A) (i : ℕ) (x : A) → x ≡ get_or xs i x → i < length xs → take (i + 1) xs ≡ take i xs ++ x ∷ []
one_more xs i x e h = take_more xs i x h ∙ ap (λ y. take i xs ++ y ∷ []) (sym e)

-- ---- fields by their numbers

pub numbers_among : (i : ℕ) (fs : List Found) → has_number i fs ≡ among nat_eq i (map (λ f. f.number) fs)
numbers_among i [] = refl
numbers_among i (f ∷ fs) = ap (λ z. nat_eq i f.number || z) (numbers_among i fs)

pub numbers_twice : (fs : List Found) → found_twice fs ≡ twice nat_eq (map (λ f. f.number) fs)
numbers_twice [] = refl
numbers_twice (f ∷ fs) = ap₂ (λ a b. a || b) (numbers_among f.number fs) (numbers_twice fs)

pub number_end : (fs : List Found) (f : Found) → map (λ g. g.number) (fs ++ f ∷ []) ≡ map (λ g. g.number) fs ++ f.number ∷ []
number_end [] f = refl
number_end (g ∷ fs) f = ap (λ is. g.number ∷ is) (number_end fs f)

pub number_join : (fs gs : List Found) → map (λ g. g.number) (fs ++ gs) ≡ map (λ g. g.number) fs ++ map (λ g. g.number) gs
number_join [] gs = refl
number_join (f ∷ fs) gs = ap (λ is. f.number ∷ is) (number_join fs gs)

pub next_number : (fs : List Found) (i : ℕ) (d : Found) (k : ℕ) → i < length fs → k ≡ (get_or fs i d).number
    → map (λ f. f.number) (take (i + 1) fs) ≡ map (λ f. f.number) (take i fs) ++ k ∷ []
next_number fs i d k h e =
    ap (map (λ f. f.number)) (take_more fs i d h) ∙ number_end (take i fs) (get_or fs i d)
    ∙ ap (λ n. map (λ f. f.number) (take i fs) ++ n ∷ []) (sym e)
