-- The globals that a procedure names, as the least set: by a use in its body, or through a procedure that its body calls.
use Rattle.std.specs.Prelude.{◌≡◌, ◌↔◌, ℕ, true, List, ◌∷◌}
use Rattle.nim_program.specs.Program.{Proc}
use Rattle.decl_rules.specs.Occurrences.{Occurrence, global, calls}
use Rattle.decl_rules.specs.Whole.{occurring, names}

pub data OccursIn (o : Occurrence) : List Occurrence → Type 0 where
  here : {rest : List Occurrence} → OccursIn o (o ∷ rest)
  further : {first : Occurrence} {rest : List Occurrence} → OccursIn o rest → OccursIn o (first ∷ rest)

pub data Names (all : List Proc) (g : ℕ) : ℕ → Type 0 where
  by_use : {p : ℕ} → OccursIn (global g) (occurring all p) → Names all g p
  by_call : {p q : ℕ} → OccursIn (calls q) (occurring all p) → Names all g q → Names all g p

-- it is found whether a procedure names a global
abbrev pub NamesFound : Type 0
NamesFound = (all : List Proc) (g p : ℕ) → (names all g p ≡ true) ↔ Names all g p
