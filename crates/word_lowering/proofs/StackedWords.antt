-- The words of values one behind the other, and where the last so many begin.
use Rattle.std.proofs.Common.{◌≡◌, ◌∙◌, ℕ, zero, suc, ◌+◌, ◌-◌, ◌≤◌, List, [], ◌∷◌, ◌++◌, length, take, drop, Option, Some, None, refl, sym, ap, ap₂}
use Rattle.std.proofs.Common.{◌<◌, min, get_or, append_assoc, append-nil, length-append, arith}
use Rattle.std.specs.Prelude.{slice_get}
use Rattle.word_lowering.specs.LaidTexts.{stacked, begins}
use Rattle.word_lowering.specs.Linked.{last_words}

take_none : {A : Type 0} (n : ℕ) → take {A = A} n [] ≡ []
take_none zero = refl
take_none (suc n) = refl

take_all : (xs : List ℕ) → take (length xs) xs ≡ xs
take_all [] = refl
take_all (x ∷ xs) = ap (λ ys. x ∷ ys) (take_all xs)

take_before : (xs : List ℕ) (last n : ℕ) → n ≤ length xs → take n (xs ++ last ∷ []) ≡ take n xs
take_before xs last zero few = refl
take_before [] last (suc n) few = absurd (omega (arith, few))
take_before (x ∷ xs) last (suc n) few = ap (λ ys. x ∷ ys) (take_before xs last n (omega (arith, few)))

pub take_past : (xs ys : List ℕ) → take (length xs) (xs ++ ys) ≡ xs
take_past [] ys = refl
take_past (x ∷ xs) ys = ap (λ zs. x ∷ zs) (take_past xs ys)

pub drop_past : (xs ys : List ℕ) → drop (length xs) (xs ++ ys) ≡ ys
drop_past [] ys = refl
drop_past (x ∷ xs) ys = drop_past xs ys

-- ---- the last so many

abbrev or_else : Option ℕ → ℕ → ℕ
or_else None n = n
or_else (Some m) n = m

get_else : (xs : List ℕ) (last none i : ℕ) → i ≤ length xs → or_else (slice_get (xs ++ last ∷ []) i) none ≡ or_else (slice_get xs i) last
get_else [] last none zero few = refl
get_else [] last none (suc i) few = absurd (omega (arith, few))
get_else (x ∷ xs) last none zero few = refl
get_else (x ∷ xs) last none (suc i) few = get_else xs last none i (omega (arith, few))

get_past : (xs : List ℕ) (i : ℕ) → length xs ≤ i → slice_get xs i ≡ None
get_past [] i far = refl
get_past (x ∷ xs) zero far = absurd (omega (arith, far))
get_past (x ∷ xs) (suc i) far = get_past xs i (omega (arith, far))

get_there : (xs : List ℕ) (i x : ℕ) → i < length xs → x ≡ get_or xs i x → slice_get xs i ≡ Some x
get_there [] i x less e = absurd (omega (arith, less))
get_there (y ∷ xs) zero x less e = ap Some (sym e)
get_there (y ∷ xs) (suc i) x less e = get_there xs i x (omega (arith, less)) e

begin_is : (values : List (List ℕ)) (n : ℕ)
    → or_else (slice_get (begins values) (length (begins values) - n)) (length (stacked values)) ≡ length (stacked (drop n values))
begin_is [] zero = refl
begin_is [] (suc n) = refl
begin_is (words ∷ values) zero =
    ap (λ o. or_else o (length (stacked (words ∷ values)))) (get_past (begins (words ∷ values)) (length (begins (words ∷ values)) - 0) (omega arith))
begin_is (words ∷ values) (suc n) =
    let last : ℕ = length (stacked values) in
    let long = length-append (begins values) (last ∷ []) in
    let index : length (begins values ++ last ∷ []) - suc n ≡ length (begins values) - n = omega (arith, long) in
    ap (λ i. or_else (slice_get (begins values ++ last ∷ []) i) (length (stacked (words ∷ values)))) index
    ∙ get_else (begins values) last (length (stacked (words ∷ values))) (length (begins values) - n) (omega arith)
    ∙ begin_is values n

-- where the last so many begin, as it is found or not
pub found_begin : (ns : List ℕ) (values : List (List ℕ)) (n first at : ℕ) → ns ≡ begins values → first ≡ length ns - n → first < length ns
    → at ≡ get_or ns first at → at ≡ length (stacked (drop n values))
found_begin ns values n first at is from less e =
    ap (λ o. or_else o (length (stacked values))) (sym (get_there ns first at less e) ∙ ap₂ slice_get is (from ∙ ap (λ ns. length ns - n) is))
    ∙ begin_is values n

pub no_begin : (ns : List ℕ) (values : List (List ℕ)) (n first : ℕ) → ns ≡ begins values → first ≡ length ns - n → length ns ≤ first
    → length (stacked values) ≡ length (stacked (drop n values))
no_begin ns values n first is from far =
    ap (λ o. or_else o (length (stacked values))) (sym (get_past ns first far) ∙ ap₂ slice_get is (from ∙ ap (λ ns. length ns - n) is))
    ∙ begin_is values n

pub begins_left : (values : List (List ℕ)) (n : ℕ) → take (length (begins values) - n) (begins values) ≡ begins (drop n values)
begins_left [] zero = refl
begins_left [] (suc n) = take_none (0 - suc n)
begins_left (words ∷ values) zero =
    let none : length (begins (words ∷ values)) - 0 ≡ length (begins (words ∷ values)) = omega arith in
    ap (λ i. take i (begins (words ∷ values))) none ∙ take_all (begins (words ∷ values))
begins_left (words ∷ values) (suc n) =
    let last : ℕ = length (stacked values) in
    let long = length-append (begins values) (last ∷ []) in
    let index : length (begins values ++ last ∷ []) - suc n ≡ length (begins values) - n = omega (arith, long) in
    ap (λ i. take i (begins values ++ last ∷ [])) index
    ∙ take_before (begins values) last (length (begins values) - n) (omega arith)
    ∙ begins_left values n

pub stacked_split : (values : List (List ℕ)) (n : ℕ) → stacked values ≡ stacked (drop n values) ++ last_words n values
stacked_split values zero = sym (append-nil (stacked values))
stacked_split [] (suc n) = refl
stacked_split (words ∷ values) (suc n) =
    ap (λ ws. ws ++ words) (stacked_split values n) ∙ append_assoc (stacked (drop n values)) (last_words n values) words

pub last_are : (ws : List ℕ) (values : List (List ℕ)) (n begin m : ℕ) → ws ≡ stacked values → begin ≡ length (stacked (drop n values))
    → m ≡ min begin (length ws) → take (length ws - m) (drop m ws) ≡ last_words n values
last_are ws values n begin m is from least =
    let before : List ℕ = stacked (drop n values) in
    let own : List ℕ = last_words n values in
    let whole : ws ≡ before ++ own = is ∙ stacked_split values n in
    let long = ap length whole ∙ length-append before own in
    let at : m ≡ length before = omega (arith, long, from, least) in
    let left : length ws - m ≡ length own = omega (arith, long, at) in
    ap₂ (λ i k. take i k) left (ap₂ (λ i k. drop i k) at whole ∙ drop_past before own) ∙ take_all own
