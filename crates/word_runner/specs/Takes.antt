-- What is taken from a source.
-- It serves proofs alone: the promise of `mean_words` doesn't speak of it.
use Rattle.std.specs.Prelude.{◌≡◌, ℕ, true, IsTrue, List, [], ◌++◌}
use Rattle.arc_base.specs.Outside.{Rose}
use Rattle.rv32_runner.specs.Streams.{Feed, Gave, MayGive}
use Rattle.word_runner.specs.declared.state.Run.{Run}
use Rattle.word_runner.specs.declared.take.Taken.{Taken}
use Rattle.word_runner.specs.declared.take.Taken.TheVariants as T

-- no more bytes come
abbrev pub NoMore : Feed → Type 0
NoMore new = (rest : List ℕ) → MayGive new.left new.ended rest → rest ≡ []

-- these bytes came behind those that were taken, or the source ended
pub record More (old new : Run) (bytes : List ℕ) (feed : Feed) : Type 0 where
  pub taken : new.input.taken.items ≡ old.input.taken.items ++ bytes
  pub others : new ≡ record old { input = record old.input { taken = new.input.taken; ended = new.input.ended } }
  pub some : bytes ≡ [] → new.input.ended ≡ true
  pub ends : IsTrue new.input.ended → (IsTrue old.input.ended → NoMore feed) → NoMore feed

abbrev pub Took : (old : Run) → Taken → (new : Run) → (before behind : Feed) → Type 0
Took old T.More new before behind =
    (bytes : List ℕ) × Gave before behind bytes × (behind.faults ≡ before.faults) × More old new bytes behind
Took old T.Failed new before behind = Gave before behind [] × Rose before.faults behind.faults × (new ≡ old)
Took old T.Memory new before behind = (bytes : List ℕ) × Gave before behind bytes × (behind.faults ≡ before.faults)
