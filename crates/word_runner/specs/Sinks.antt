-- What sinks got of what was written.
use Rattle.std.specs.Prelude.{◌≡◌, ℕ, List, [], ◌∷◌, take, Option}
use Rattle.arc_base.specs.Event.{Event, Write, Hook}
use Rattle.arc_base.specs.declared.outside.Stream.{Stream}
use Rattle.arc_base.specs.declared.outside.Stream.TheVariants.{Out as Output, Err as Errors}
use Rattle.arc_base.specs.Outside.{Grown}
use Rattle.arc_base.specs.Behaviour.{Seen}

-- a byte of one stream, before those of another or the same
abbrev pub byte_on : Stream → Stream → ℕ → List ℕ → List ℕ
byte_on Output Output byte rest = byte ∷ rest
byte_on Errors Errors byte rest = byte ∷ rest
byte_on Output Errors byte rest = rest
byte_on Errors Output byte rest = rest

-- the bytes that are written to a stream
abbrev pub bytes_on : Stream → List Event → List ℕ
bytes_on stream [] = []
bytes_on stream (Write other byte ∷ events) = byte_on stream other byte (bytes_on stream events)
bytes_on stream (Hook kind of ∷ events) = bytes_on stream events

-- a sink before and behind
pub record Told : Type 0 where
  pub before : Option (List ℕ)
  pub now : Option (List ℕ)
  pub faults_before : ℕ
  pub faults_now : ℕ

abbrev pub told : (before now : Option (List ℕ)) → (faults_before faults_now : ℕ) → Told
told a b n m = record { before = a; now = b; faults_before = n; faults_now = m }

-- it got all bytes, and no fault came
pub record Got (sink : Told) (bytes : List ℕ) : Type 0 where
  pub all : Grown sink.before sink.now bytes
  pub faults : sink.faults_now ≡ sink.faults_before

-- it got a front of them
pub record GotFront (sink : Told) (bytes : List ℕ) : Type 0 where
  pub count : ℕ
  pub front : Grown sink.before sink.now (take count bytes)

-- both did
abbrev pub BothGot : Seen Event → (out err : Told) → Type 0
BothGot seen out err = Got out (bytes_on Output seen.events) × Got err (bytes_on Errors seen.events)

abbrev pub BothGotFronts : Seen Event → (out err : Told) → Type 0
BothGotFronts seen out err = GotFront out (bytes_on Output seen.events) × GotFront err (bytes_on Errors seen.events)
