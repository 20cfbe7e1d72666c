-- What is said of what begins at a place of a source's tokens.
use Rattle.std.specs.Prelude.{◌≡◌, ℕ, ◌⊎◌, List, drop}
use Rattle.arc_base.specs.declared.place.Place.{Place}
use Rattle.arc_base.specs.declared.place.Code.{Code}
use Rattle.indent_scanner.specs.declared.token.Token.{Token}
use Rattle.parse_decls.specs.Outcome.{Why, too_deep, left_out, stuck, tired, Out, got, bad, Settles}

-- nothing else begins there
abbrev pub IsOnly : {A : Type 0} → (A → List Token → List Token → Type 0) → List Token → (from : ℕ) → A → (next : ℕ) → Type 0
IsOnly {A = A} Reads tokens from a next = (b : A) (rest : List Token) → Reads b (drop from tokens) rest → (b ≡ a) × (rest ≡ drop next tokens)

-- What is too deep is read with a level too many only; where the text can't go on, nothing is read.
abbrev pub ReadsNone : {A : Type 0} → (Reads Short : A → List Token → List Token → Type 0) → List Token → Why → Type 0
ReadsNone {A = A} Reads Short ts (too_deep at) = (a : A) (rest : List Token) → Short a ts rest → ⊥
ReadsNone {A = A} Reads Short ts (left_out at) = (a : A) (rest : List Token) → Reads a ts rest → ⊥
ReadsNone {A = A} Reads Short ts (stuck at) = (a : A) (rest : List Token) → Reads a ts rest → ⊥
ReadsNone Reads Short ts tired = ⊥

-- nothing is read, and what is told of it
pub record IsRefused {A : Type 0} (Reads Short : A → List Token → List Token → Type 0) (Fault : Why → List Token → Type 0) (Tells : Why → Code → Place → Type 0)
    (ts : List Token) (code : Code) (at : Place) : Type 0 where
  pub why : Why
  pub fault : Fault why ts
  pub none : ReadsNone Reads Short ts why
  pub tells : Tells why code at

-- What begins at some tokens, why nothing does, and what the computation comes to agree. Short is what is read with the most
-- levels at most.
pub record Agree {A : Type 0} (Reads Short : A → List Token → List Token → Type 0) (Fault : Why → List Token → Type 0)
    (run : List Token → ℕ → Out A) : Type 0 where
  pub sound : (a : A) (ts rest : List Token) → Settles (run ts) (got a rest) → Short a ts rest
  pub complete : (a : A) (ts rest : List Token) → Short a ts rest → Settles (run ts) (got a rest)
  pub deep : (a : A) (ts rest : List Token) → Reads a ts rest → Short a ts rest ⊎ ((at : List Token) × Fault (too_deep at) ts)
  pub stops : (why : Why) (ts : List Token) → Settles (run ts) (bad why) → (why ≡ tired) ⊎ Fault why ts
  pub faults : (why : Why) (ts : List Token) → Fault why ts → Settles (run ts) (bad why)
  -- one thing at most is read, and nothing where the text can't go on
  pub once : (a b : A) (ts r s : List Token) → Short a ts r → Reads b ts s → (b ≡ a) × (s ≡ r)
  pub none : (a : A) (why : Why) (ts rest : List Token) → Fault why ts → Short a ts rest → ⊥
  -- with more steps it comes to the same
  pub steady : (k : ℕ) (ts : List Token) (o : Out A) → run ts k ≡ o → (o ≡ bad tired → ⊥) → Settles (run ts) o
