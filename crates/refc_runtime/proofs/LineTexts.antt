-- The line that comes next, character by character.
use Rattle.std.proofs.Common.{◌≡◌, ℕ, suc, ◌%◌, List, [], ◌∷◌, length, drop, Bool, true, false, refl, sym, ap, ◌∙◌, ⊎_elim, arith}
use Rattle.std.proofs.lemmas.Bool.{lt-ltb, le-ltb, cases_lt}
use Rattle.std.specs.Prelude.{nat_eq, nat_lt, if◌then◌else◌}
use Rattle.nim_meaning.specs.OwnedRows.{before_feed, up_to_feed, without_return, next_line}
use Rattle.rv32_isa.specs.Regions.{as_bytes}

-- that begins with a character, behind which there are others
abbrev pub line_from : ℕ → List ℕ → List ℕ
line_from c [] = if nat_eq c 10 then [] else c ∷ []
line_from c (d ∷ ds) = if nat_eq c 10 then [] else if nat_eq d 10 then (if nat_eq c 13 then [] else c ∷ []) else c ∷ line_from d ds

-- what is left of the input behind it
abbrev pub behind_line : ℕ → List ℕ → List ℕ
behind_line c [] = []
behind_line c (d ∷ ds) = if nat_eq c 10 then d ∷ ds else if nat_eq (d % 256) 10 then ds else behind_line (d % 256) ds

abbrev cut : List ℕ → (feed : Bool) → List ℕ
cut line feed = if feed then without_return line else line

less_suc : (a b : ℕ) → nat_lt (suc a) (suc b) ≡ nat_lt a b
less_suc a b = ⊎_elim
    (λ less. lt-ltb (suc a) (suc b) (omega (arith, less)) ∙ sym (lt-ltb a b less))
    (λ more. le-ltb (suc a) (suc b) (omega (arith, more)) ∙ sym (le-ltb a b more)) (cases_lt a b)

pub line_is : (c : ℕ) (cs : List ℕ) → next_line (c ∷ cs) ≡ line_from c cs
line_is c [] = by (nat_eq c 10)
  where
    by : (b : Bool) → cut (if b then [] else c ∷ []) (nat_lt (length (if b then [] else c ∷ [])) (if b then 1 else 1)) ≡ (if b then [] else c ∷ [])
    by true = refl
    by false = refl
line_is c (d ∷ ds) = by (nat_eq c 10) (nat_eq d 10) (line_is d ds)
  where
    by : (b e : Bool)
        → cut (if e then [] else d ∷ before_feed ds) (nat_lt (length (if e then [] else d ∷ before_feed ds)) (if e then 1 else suc (up_to_feed ds)))
        ≡ line_from d ds
        → cut (if b then [] else c ∷ (if e then [] else d ∷ before_feed ds))
        (nat_lt (length (if b then [] else c ∷ (if e then [] else d ∷ before_feed ds))) (if b then 1 else suc (if e then 1 else suc (up_to_feed ds))))
        ≡ (if b then [] else if e then (if nat_eq c 13 then [] else c ∷ []) else c ∷ line_from d ds)
    by true e h = refl
    by false true h = refl
    by false false h =
        ap (cut (c ∷ d ∷ before_feed ds)) (less_suc (length (d ∷ before_feed ds)) (suc (up_to_feed ds)))
        ∙ further (nat_lt (length (d ∷ before_feed ds)) (suc (up_to_feed ds))) ∙ ap (λ l. c ∷ l) h
      where
        further : (f : Bool) → cut (c ∷ d ∷ before_feed ds) f ≡ c ∷ cut (d ∷ before_feed ds) f
        further true = refl
        further false = refl

pub behind_is : (c : ℕ) (cs : List ℕ) → drop (up_to_feed (as_bytes (c ∷ cs))) (c ∷ cs) ≡ behind_line (c % 256) cs
behind_is c [] = by (nat_eq (c % 256) 10)
  where
    by : (b : Bool) → drop (if b then 1 else 1) (c ∷ []) ≡ []
    by true = refl
    by false = refl
behind_is c (d ∷ ds) = by (nat_eq (c % 256) 10) (nat_eq (d % 256) 10) (behind_is d ds)
  where
    by : (b e : Bool) → drop (if e then 1 else suc (up_to_feed (as_bytes ds))) (d ∷ ds) ≡ behind_line (d % 256) ds
        → drop (if b then 1 else suc (if e then 1 else suc (up_to_feed (as_bytes ds)))) (c ∷ d ∷ ds)
        ≡ (if b then d ∷ ds else if e then ds else behind_line (d % 256) ds)
    by true e h = refl
    by false true h = refl
    by false false h = h
