-- Definitions that contain one, by marks. No public contract speaks of it.
use Rattle.std.specs.Prelude.{◌≡◌, ◌<◌, ℕ, zero, suc, Bool, true, false, List, length, map, slice_set}
use Rattle.decl_types.specs.declared.known.Definition.{Definition}
use Rattle.decl_types.specs.ViewMarks.{definition_mark, mark_at}

-- one step further, where these contain it
abbrev pub step_of : List Definition → ℕ → List Bool → List Bool
step_of read number marks = map (definition_mark (slice_set marks number true)) read

-- those that contain it in so many steps
abbrev pub contained : ℕ → List Definition → ℕ → List Bool
contained zero read number = map (λ _. false) read
contained (suc n) read number = step_of read number (contained n read number)

-- none contains itself
abbrev pub NoneContained : List Definition → Type 0
NoneContained read = (i : ℕ) → i < length read → mark_at (contained (length read) read i) i ≡ false
