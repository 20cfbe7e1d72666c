-- A search through calls. It serves proofs alone: the promise of `check_text` doesn't speak of it.
use Rattle.std.specs.Prelude.{◌≡◌, ℕ, ◌<◌, Bool, true, false, nat_eq, List, [], ◌∷◌, Option, Some, None, slice_get}
use Rattle.nim_program.specs.Program.{Proc}
use Rattle.decl_rules.specs.Occurrences.{Occurrence, global, calls, hands}
use Rattle.decl_rules.specs.Naming.{OccursIn, Names}
use Rattle.decl_rules.specs.Whole.{occurring}
use Rattle.number_sets.specs.Numbers.{is_among, with_number}

abbrev pub unless : Bool → Option (List ℕ) → Option (List ℕ)
unless true found = None
unless false found = found

-- the procedures that are reached, with those that are called, None where the global is used
abbrev pub visited : (g : ℕ) → List Occurrence → List ℕ → Option (List ℕ)
visited g [] reached = Some reached
visited g (global place ∷ rest) reached = unless (nat_eq place g) (visited g rest reached)
visited g (calls p ∷ rest) reached = visited g rest (with_number p reached)
visited g (hands p at place ∷ rest) reached = visited g rest reached

-- whether the global is used, else what is reached
abbrev pub Leaves : Bool → List ℕ → Option (List ℕ) → Type 0
Leaves true reached outcome = outcome ≡ None
Leaves false reached outcome = outcome ≡ Some reached

-- it doesn't use the global, and what it calls is reached
pub record IsDone (all : List Proc) (g : ℕ) (reached : List ℕ) (p : ℕ) : Type 0 where
  pub unused : OccursIn (global g) (occurring all p) → ⊥
  pub onward : (q : ℕ) → OccursIn (calls q) (occurring all p) → is_among q reached ≡ true

-- Of what is reached from a procedure so much is done.
pub record Searches (all : List Proc) (g p next : ℕ) (reached : List ℕ) : Type 0 where
  pub start : is_among p reached ≡ true
  pub leads : (q : ℕ) → is_among q reached ≡ true → Names all g q → Names all g p
  pub done : (i q : ℕ) → i < next → slice_get reached i ≡ Some q → IsDone all g reached q
