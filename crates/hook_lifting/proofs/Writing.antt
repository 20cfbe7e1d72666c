-- What is put one after another.
use Rattle.std.proofs.Common.{◌≡◌, List, [], ◌∷◌, ◌++◌, refl, ap, sym, ◌∙◌, append_assoc, Option, Some, None, Result, Ok, Err, IfOk, arith}
use Rattle.std.proofs.lemmas.List.{append-nil}
use Rattle.std.proofs.lemmas.Option.{same_Some}
use Rattle.hook_lifting.specs.Written.{IsPut, one}

pub puts_two : {X : Type 0} {a b c : Option (List X)} {f g : List X → List X} → IsPut a b f → IsPut b c g → IsPut a c (λ k. f (g k))
puts_two {X} {a} {b} {c} {f} {g} first second = record {
  is = λ d e.
      let m = second.is d e in
      let n = first.is m.0 m.1 in
      (n.0, n.1, λ k. m.2 k ∙ n.2 (g k));
}

pub puts_none : {X : Type 0} (a : Option (List X)) → IsPut a a (λ k. k)
puts_none a = record { is = λ b e. (b, e, λ k. refl) }

-- one more at the end
pub puts_one : {X : Type 0} (a : List X) (x : X) → IsPut (Some a) (Some (a ++ x ∷ [])) (one x)
puts_one a x = record {
  is = λ b e.
      (a, refl, λ k. ap (λ c. c ++ k) (sym (same_Some (a ++ x ∷ []) b e)) ∙ append_assoc a (x ∷ []) k);
}

pub puts_lost : {X : Type 0} (a : Option (List X)) (f : List X → List X) → IsPut a None f
puts_lost a f = record { is = λ b e. absurd (grind (arith, e)) }

-- the same in other words
pub puts_as : {X : Type 0} {a b : Option (List X)} (f g : List X → List X) → IsPut a b f → ((k : List X) → f k ≡ g k) → IsPut a b g
puts_as f g put same = record { is = λ b e. let m = put.is b e in (m.0, m.1, λ k. m.2 k ∙ ap (λ c. m.0 ++ c) (same k)) }

-- what begins with none, and isn't lost
pub finished : {X E : Type 0} (new : Option (List X)) (f : List X → List X) (r : Result (List X) E) → IsPut (Some []) new f →
    IfOk r (λ b. new ≡ Some b) → IfOk r (λ b. b ≡ f [])
finished new f (Ok b) put e =
    let m = put.is b e in
    sym (append-nil b) ∙ m.2 [] ∙ ap (λ a. a ++ f []) (sym (same_Some [] m.0 m.1))
finished new f (Err e) put h = h
