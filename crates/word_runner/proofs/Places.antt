-- Places of calls that begin.
use Rattle.std.proofs.Common.{◌≡◌, ℕ, zero, suc, ◌+◌, ◌-◌, List, [], ◌++◌, length, replicate, take, sym, ap, ap₂, ◌∙◌, arith, append-nil}
use Rattle.std.proofs.lemmas.List.{take_all, length-replicate}
use Rattle.word_code.specs.Memory.{Memory, with_places}

pub extended : (m : Memory) (n len count : ℕ) (items : List ℕ) → len ≡ length m.places → n ≡ len + count → items ≡ take n m.places ++ replicate (n - len) 0
    → record m { places = items } ≡ with_places m count []
extended m n len count items e f h = by count f
  where
    whole : take n m.places ≡ m.places
    whole = take_all n m.places (omega (arith, e, f))

    by : (count : ℕ) → n ≡ len + count → record m { places = items } ≡ with_places m count []
    by zero f =
        let none : n - len ≡ 0 = omega (arith, f) in
        ap (λ (l : List ℕ). record m { places = l }) (h ∙ ap₂ (λ (l : List ℕ) (k : ℕ). l ++ replicate k 0) whole none ∙ append-nil m.places)
    by (suc k) f =
        let more : n - len ≡ suc k = omega (arith, f) in
        ap (λ (l : List ℕ). record m { places = l }) (h ∙ ap₂ (λ (l : List ℕ) (k : ℕ). l ++ replicate k 0) whole more
        ∙ ap (λ (l : List ℕ). m.places ++ l) (sym (take_all (suc k) (replicate (suc k) 0) (let s = length-replicate {A = ℕ} (suc k) 0 in omega (arith, s)))))
