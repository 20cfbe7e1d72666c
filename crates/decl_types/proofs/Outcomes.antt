-- Answers where nothing was refused, and lists that are read.
use Rattle.std.proofs.Common.{◌≡◌, ℕ, zero, suc, ◌+◌, ◌-◌, ◌<◌, List, [], ◌∷◌, ◌++◌, length, drop, get_or, Some, None, refl, sym, ap}
use Rattle.std.proofs.Common.{◌∙◌, arith, add-one}
use Rattle.std.proofs.Common.{length-append}
use Rattle.std.specs.Prelude.{Result, Ok, Err, OnOk, IfOk, slice_get}
use Rattle.std.proofs.lemmas.Option.{none-some, same_Some}

pub on_any : {T E : Type 0} {A : Type 0} (r : Result T E) → A → OnOk r A
on_any (Ok x) a = a
on_any (Err e) a = tt

pub on_one : {T E : Type 0} {A B : Type 0} (r : Result T E) → OnOk r A → (A → B) → OnOk r B
on_one (Ok x) a f = f a
on_one (Err e) a f = tt

pub on_two : {T E : Type 0} {A B C : Type 0} (r : Result T E) → OnOk r A → OnOk r B → (A → B → C) → OnOk r C
on_two (Ok x) a b f = f a b
on_two (Err e) a b f = tt

pub if_map : {T E : Type 0} {P Q : T → Type 0} (r : Result T E) → IfOk r P → ((x : T) → P x → Q x) → IfOk r Q
if_map (Ok x) p f = f x p
if_map (Err e) p f = tt

-- ---- lists

pub get_read : {X : Type 0} (xs : List X) (i : ℕ) (x : X) → i < length xs → x ≡ get_or xs i x → slice_get xs i ≡ Some x
get_read [] i x h e = absurd (omega (arith, h))
get_read (y ∷ xs) zero x h e = ap Some (sym e)
get_read (y ∷ xs) (suc i) x h e = get_read xs i x (omega (arith, h)) e

drop_get : {X : Type 0} (xs : List X) (i : ℕ) (x : X) → slice_get xs i ≡ Some x → drop i xs ≡ x ∷ drop (suc i) xs
drop_get [] i x e = absurd (none-some x e)
drop_get (y ∷ xs) zero x e = ap (λ z. z ∷ xs) (same_Some y x e)
drop_get (y ∷ xs) (suc i) x e = drop_get xs i x e

pub drop_read : {X : Type 0} (xs : List X) (i : ℕ) (x : X) → slice_get xs i ≡ Some x → drop i xs ≡ x ∷ drop (i + 1) xs
drop_read xs i x e = rw add-one (drop_get xs i x e)

pub copied : {X : Type 0} (xs : List X) (i : ℕ) (d : X) → i < length xs → drop i xs ≡ get_or xs i d ∷ drop (i + 1) xs
copied xs i d h = rw add-one (drop-cons_at xs i d h)
  where
    drop-cons_at : {X : Type 0} (xs : List X) (i : ℕ) (d : X) → i < length xs → drop i xs ≡ get_or xs i d ∷ drop (suc i) xs
    drop-cons_at [] i d h = absurd (omega (arith, h))
    drop-cons_at (y ∷ xs) zero d h = refl
    drop-cons_at (y ∷ xs) (suc i) d h = drop-cons_at xs i d (omega (arith, h))

get_end : {X : Type 0} (xs : List X) (x : X) → slice_get (xs ++ x ∷ []) (length xs) ≡ Some x
get_end [] x = refl
get_end (y ∷ xs) x = get_end xs x

pub last_there : {X : Type 0} (xs more : List X) (x : X) → more ≡ xs ++ x ∷ [] → slice_get more (length xs) ≡ Some x
last_there xs more x e = ap (λ l. slice_get l (length xs)) e ∙ get_end xs x

-- the last one
pub last_is : {X : Type 0} (xs before : List X) (x y : X) → Some y ≡ slice_get xs (length xs - 1) → xs ≡ before ++ x ∷ [] → y ≡ x
last_is xs before x y h e =
    let n : length (before ++ x ∷ []) - 1 ≡ length before = omega (arith, length-append before (x ∷ [])) in
    same_Some y x (h ∙ ap (λ l. slice_get l (length l - 1)) e ∙ ap (slice_get (before ++ x ∷ [])) n ∙ get_end before x)

pub none_first : {X : Type 0} (xs : List X) → None ≡ slice_get xs 0 → xs ≡ []
none_first [] e = refl
none_first (x ∷ xs) e = absurd (none-some x e)
