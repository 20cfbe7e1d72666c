-- Where labels and procedures stand.
-- It serves proofs alone: the promise of `mean_words` doesn't speak of it.
use Rattle.std.specs.Prelude.{◌≡◌, ℕ, List, [], ◌∷◌, Option, Some, None, option_map, drop, slice_get, Vec}
use Rattle.std.specs.Global.{Global}
use Rattle.word_code.specs.declared.word.WordInstr.{WordInstr}
use Rattle.word_code.specs.declared.word.WordProc.{WordProc}
use Rattle.word_code.specs.Words.{from_label, from_proc}
use Rattle.word_runner.specs.declared.books.Books.{Books}
use Rattle.word_runner.specs.View.{held_in}

abbrev pub AreLabels : List WordInstr → List (Option ℕ) → Type 0
AreLabels lines labels = (name : ℕ) → from_label name lines ≡ option_map (λ i. drop i lines) (held_in labels name)

abbrev pub AreAllLabels : List WordProc → List (Vec (Option ℕ) Global) → Type 0
AreAllLabels [] [] = Unit {0}
AreAllLabels (p ∷ procs) (labels ∷ all) = AreLabels p.lines labels.items × AreAllLabels procs all
AreAllLabels _ _ = ⊥

-- from a position on, if there is one
abbrev pub from_position : List WordProc → Option ℕ → List WordProc
from_position procs None = []
from_position procs (Some i) = drop i procs

abbrev pub AreNumbers : List WordProc → List (Option ℕ) → Type 0
AreNumbers procs numbers = (number : ℕ) → from_proc number procs ≡ from_position procs (held_in numbers number)

pub record IsBooks (procs : List WordProc) (books : Books) : Type 0 where
  pub labels : AreAllLabels procs books.labels.items
  pub numbers : AreNumbers procs books.numbers.items

-- the labels of the procedure at a position
abbrev pub labels_or : Option (Vec (Option ℕ) Global) → List (Option ℕ)
labels_or None = []
labels_or (Some labels) = labels.items

abbrev pub labels_at : Books → ℕ → List (Option ℕ)
labels_at books i = labels_or (slice_get books.labels.items i)
