-- Where a run stands after one instruction more, and what its events write.
use Rattle.std.proofs.Common.{◌≡◌, ℕ, zero, suc, List, [], ◌∷◌, ◌++◌, refl, ap, ◌∙◌}
use Rattle.arc_base.specs.declared.outside.Stream.{Stream}
use Rattle.arc_base.specs.declared.outside.Stream.TheVariants.{Out, Err}
use Rattle.arc_base.specs.Event.{Event, Write, Hook, writes}
use Rattle.rv32_isa.specs.declared.image.HookAt.{HookAt}
use Rattle.rv32_isa.specs.Machine.{Run, Advance, On, Exited, Faulted, Standing, Runs, HasExited, HasFaulted, advance, all_shown, stood, standing}
use Rattle.rv32_runner.specs.Streams.{bytes_on}

-- ---- one instruction more

module _ (hooks : List HookAt) where
  -- the next instruction, where a run goes on
  abbrev after : Standing → Standing
  after (Runs shown at) = stood hooks (standing hooks 0) at shown (advance at)
  after (HasExited shown status at) = HasExited shown status at
  after (HasFaulted shown kind pc word at) = HasFaulted shown kind pc word at

  stood_after : (n : ℕ) (r : Run) (x : Advance) (out : List Event)
      → ((r : Run) (out : List Event) → standing hooks (suc n) r out ≡ after (standing hooks n r out))
      → stood hooks (standing hooks (suc n)) r out x ≡ after (stood hooks (standing hooks n) r out x)
  stood_after n r (On next shown) out h = h next _
  stood_after n r (Exited status) out h = refl
  stood_after n r (Faulted kind pc word) out h = refl

  standing_after : (n : ℕ) (r : Run) (out : List Event) → standing hooks (suc n) r out ≡ after (standing hooks n r out)
  standing_after zero r out = refl
  standing_after (suc n) r out = stood_after n r (advance r) out (standing_after n)

  pub one_more : (n : ℕ) (r at next : Run) (out shown events : List Event) → standing hooks n r out ≡ Runs shown at → advance at ≡ On next events
      → standing hooks (suc n) r out ≡ Runs (shown ++ all_shown hooks events next) next
  one_more n r at next out shown events stands goes =
      standing_after n r out ∙ ap after stands ∙ ap (stood hooks (standing hooks 0) at shown) goes

-- ---- the bytes that events write

pub bytes_append : (stream : Stream) (xs ys : List Event) → bytes_on stream (xs ++ ys) ≡ bytes_on stream xs ++ bytes_on stream ys
bytes_append Out [] ys = refl
bytes_append Err [] ys = refl
bytes_append Out (Write Out byte ∷ xs) ys = ap (λ l. byte ∷ l) (bytes_append Out xs ys)
bytes_append Out (Write Err byte ∷ xs) ys = bytes_append Out xs ys
bytes_append Err (Write Out byte ∷ xs) ys = bytes_append Err xs ys
bytes_append Err (Write Err byte ∷ xs) ys = ap (λ l. byte ∷ l) (bytes_append Err xs ys)
bytes_append Out (Hook kind of ∷ xs) ys = bytes_append Out xs ys
bytes_append Err (Hook kind of ∷ xs) ys = bytes_append Err xs ys

pub bytes_out : (bytes : List ℕ) → bytes_on Out (writes Out bytes) ≡ bytes
bytes_out [] = refl
bytes_out (byte ∷ bytes) = ap (λ l. byte ∷ l) (bytes_out bytes)

pub bytes_err : (bytes : List ℕ) → bytes_on Err (writes Err bytes) ≡ bytes
bytes_err [] = refl
bytes_err (byte ∷ bytes) = ap (λ l. byte ∷ l) (bytes_err bytes)

pub none_err : (bytes : List ℕ) → bytes_on Err (writes Out bytes) ≡ []
none_err [] = refl
none_err (byte ∷ bytes) = none_err bytes

pub none_out : (bytes : List ℕ) → bytes_on Out (writes Err bytes) ≡ []
none_out [] = refl
none_out (byte ∷ bytes) = none_out bytes
