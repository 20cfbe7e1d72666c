-- Values of constants that are copied one by one.
use Rattle.std.proofs.Common.{◌≡◌, ℕ, zero, suc, ◌+◌, ◌<◌, ◌≤◌, List, [], ◌∷◌, ◌++◌, length, drop, get_or, refl, sym, ap, ◌∙◌, arith}
use Rattle.std.proofs.Common.{add-one}
use Rattle.std.proofs.Math.Seq.{drop-cons}
use Rattle.nim_program.specs.Program.{Literal, Literals, Number, Characters, NoObject, PartsOf, ElementsOf, NoLiteral, ALiteral}
use Rattle.nim_program.specs.declared.expr.Literal.{Literal as RustLiteral}
use Rattle.nim_program.specs.Program as T
use Rattle.nim_program.specs.View.{literal_of, literals_of}

-- ---- values of constants

-- how many values it holds, with itself
abbrev mutual
  pub literal_count : Literal → ℕ
  literal_count (Number z) = 1
  literal_count (Characters bytes) = 1
  literal_count NoObject = 1
  literal_count (PartsOf all) = suc (all_count all)
  literal_count (ElementsOf all) = suc (all_count all)

  pub all_count : Literals → ℕ
  all_count NoLiteral = 0
  all_count (ALiteral first rest) = literal_count first + all_count rest

-- values before others
abbrev pub literals_front : List RustLiteral → Literals → Literals
literals_front [] rest = rest
literals_front (first ∷ all) rest = ALiteral (literal_of first) (literals_front all rest)

front_more : (done : List RustLiteral) (l : RustLiteral) (rest : Literals)
    → literals_front (done ++ l ∷ []) rest ≡ literals_front done (T.ALiteral (literal_of l) rest)
front_more [] l rest = refl
front_more (d ∷ done) l rest = ap (T.ALiteral (literal_of d)) (front_more done l rest)

front_all : (done : List RustLiteral) → literals_front done T.NoLiteral ≡ literals_of done
front_all [] = refl
front_all (d ∷ done) = ap (T.ALiteral (literal_of d)) (front_all done)

-- one value more
pub one_copied : (done : List RustLiteral) (copy l : RustLiteral) (rest : List RustLiteral) → literal_of copy ≡ literal_of l
    → literals_front (done ++ copy ∷ []) (literals_of rest) ≡ literals_front done (literals_of (l ∷ rest))
one_copied done copy l rest e = front_more done copy (literals_of rest) ∙ ap (λ z. literals_front done (T.ALiteral z (literals_of rest))) e

-- all values
pub all_copied_are : (done rest : List RustLiteral) (all : Literals) → rest ≡ [] → literals_front done (literals_of rest) ≡ all → literals_of done ≡ all
all_copied_are done rest all e h = sym (ap (λ z. literals_front done (literals_of z)) e ∙ front_all done) ∙ h

pub next_item : {A : Type 0} (xs : List A) (i : ℕ) (x : A) → x ≡ get_or xs i x → i < length xs → drop i xs ≡ x ∷ drop (i + 1) xs
next_item xs i x e h = rw add-one (drop-cons xs i x h ∙ ap (λ y. y ∷ drop (suc i) xs) (sym e))

pub none_left : {A : Type 0} (xs : List A) (i : ℕ) → length xs ≤ i → drop i xs ≡ []
none_left [] zero h = refl
none_left [] (suc i) h = refl
none_left (x ∷ xs) zero h = absurd (omega (arith, h))
none_left (x ∷ xs) (suc i) h = none_left xs i (omega (arith, h))
