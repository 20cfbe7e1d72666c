-- What a source and two sinks tell, and how it changes.
use Rattle.std.specs.Prelude.{◌≡◌, ℕ, Bool, List, [], ◌∷◌, ◌++◌, take, Option, Some, None, IsTrue}
use Rattle.arc_base.specs.declared.outside.Stream.{Stream}
use Rattle.arc_base.specs.declared.outside.Stream.TheVariants.{Out, Err}
use Rattle.arc_base.specs.Event.{Event, Write, Hook}
use Rattle.arc_base.specs.Outside.{Grown, Rose}

-- what a source tells: the bytes that are left, whether it has answered the end, how often it failed, and what its takes gave
pub record Feed : Type 0 where
  pub left : Option (List ℕ)
  pub ended : Bool
  pub faults : ℕ
  pub gave : List ℕ

-- what a sink tells
pub record Tally : Type 0 where
  pub written : Option (List ℕ)
  pub faults : ℕ

pub record Streams : Type 0 where
  pub input : Feed
  pub out : Tally
  pub err : Tally

abbrev pub feed : Option (List ℕ) → Bool → ℕ → List ℕ → Feed
feed left ended faults gave = record { left = left; ended = ended; faults = faults; gave = gave }

abbrev pub tally : Option (List ℕ) → ℕ → Tally
tally written faults = record { written = written; faults = faults }

abbrev pub streams : Feed → Tally → Tally → Streams
streams input out err = record { input = input; out = out; err = err }

-- ---- sources

-- Bytes that a source may still give: those that it tells to be left. A source that tells none may give any, but none after
-- it has answered the end.
abbrev pub MayGive : Option (List ℕ) → Bool → List ℕ → Type 0
MayGive None ended rest = IsTrue ended → rest ≡ []
MayGive (Some left) ended rest = rest ≡ left

-- Its takes gave these bytes; and whatever it may still give, it might have given them and that before.
pub record Gave (old new : Feed) (given : List ℕ) : Type 0 where
  pub gave : new.gave ≡ old.gave ++ given
  pub before : (rest : List ℕ) → MayGive new.left new.ended rest → MayGive old.left old.ended (given ++ rest)

-- ---- sinks

-- a sink got these bytes, and none of its calls failed
pub record Got (old new : Tally) (bytes : List ℕ) : Type 0 where
  pub got : Grown old.written new.written bytes
  pub faults : new.faults ≡ old.faults

-- a call of the sink failed, and it got a front of these bytes
pub record Lost (old new : Tally) (bytes : List ℕ) : Type 0 where
  pub front : (n : ℕ) × Grown old.written new.written (take n bytes)
  pub rose : Rose old.faults new.faults

-- the bytes that events write to a stream, in their order
abbrev pub bytes_on : Stream → List Event → List ℕ
bytes_on stream [] = []
bytes_on Out (Write Out byte ∷ events) = byte ∷ bytes_on Out events
bytes_on Out (Write Err byte ∷ events) = bytes_on Out events
bytes_on Err (Write Out byte ∷ events) = bytes_on Err events
bytes_on Err (Write Err byte ∷ events) = byte ∷ bytes_on Err events
bytes_on stream (Hook kind of ∷ events) = bytes_on stream events
