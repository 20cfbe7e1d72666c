-- What the two calls of the environment that move bytes do.
use Rattle.std.specs.Prelude.{◌≡◌, ℕ, List, [], ◌≤◌, ◌<◌, ◌⊎◌, length, Some, None, true, false, Result, Ok, Err}
use Rattle.arc_base.specs.Outside.{Rose}
use Rattle.arc_base.specs.declared.outside.Stream.{Stream}
use Rattle.rv32_isa.specs.Regions.{as_bytes}
use Rattle.rv32_isa.specs.declared.machine.FaultKind.TheVariants.{OutOfRange}
use Rattle.rv32_isa.specs.State.{State, reg, readable, writable, filled}
use Rattle.rv32_isa.specs.Machine.{answered}
use Rattle.rv32_runner.specs.declared.runner.RunEnd.{RunEnd}
use Rattle.rv32_runner.specs.declared.runner.RunEnd.TheVariants.{Exited, Spent, Fault, ReadFault, WriteFault}
use Rattle.rv32_runner.specs.Streams.{Feed, Gave, MayGive, Tally, Got, Lost}

-- a call that writes to a stream
abbrev pub Wrote : State → Stream → Tally → RunEnd → State → Tally → Type 0
Wrote s stream old Spent t new = (bytes : List ℕ) × ((readable s (reg s 11) (reg s 12) ≡ Some bytes) × ((t ≡ answered s (reg s 12)) × Got old new bytes))
Wrote s stream old (WriteFault other) t new =
    (bytes : List ℕ) × ((readable s (reg s 11) (reg s 12) ≡ Some bytes) × ((other ≡ stream) × ((t ≡ s) × Lost old new bytes)))
Wrote s stream old (Fault kind pc word) t new =
    (readable s (reg s 11) (reg s 12) ≡ None) × ((kind ≡ OutOfRange) × ((pc ≡ s.pc) × ((word ≡ 0x73) × ((t ≡ s) × (new ≡ old)))))
Wrote s stream old (Exited status) t new = ⊥
Wrote s stream old ReadFault t new = ⊥

-- so many bytes of input were put into the memory from an address on
pub record Part (s : State) (at : ℕ) (old : Feed) (count : ℕ) (t : State) (new : Feed) : Type 0 where
  pub given : List ℕ
  pub counted : length given ≡ count
  pub gave : Gave old new given
  pub state : t ≡ filled s at (as_bytes given)

-- no more bytes come
abbrev pub NoMore : Feed → Type 0
NoMore new = (rest : List ℕ) → MayGive new.left new.ended rest → rest ≡ []

-- a front of the range, which is empty only where no more comes; or nothing, since the source failed
abbrev pub Fronts : {E : Type 0} → State → (at size : ℕ) → Feed → Result ℕ E → State → Feed → Type 0
Fronts s at size old (Ok count) t new = Part s at old count t new × ((new.faults ≡ old.faults) × ((count ≤ size) × (count ≡ 0 → NoMore new)))
Fronts s at size old (Err e) t new = Part s at old 0 t new × Rose old.faults new.faults

-- the range of so many bytes is full, or there are no more
pub record Filled (s : State) (at size : ℕ) (old : Feed) (count : ℕ) (t : State) (new : Feed) : Type 0 where
  pub part : Part s at old count t new
  pub faults : new.faults ≡ old.faults
  pub bound : count ≤ size
  pub all : (count ≡ size) ⊎ NoMore new

-- the source failed before the range was full
pub record Failing (s : State) (at size : ℕ) (old : Feed) (t : State) (new : Feed) : Type 0 where
  pub count : ℕ
  pub part : Part s at old count t new
  pub fewer : count < size
  pub rose : Rose old.faults new.faults

abbrev pub Fills : {E : Type 0} → State → (at size : ℕ) → Feed → Result ℕ E → State → Feed → Type 0
Fills s at size old (Ok count) t new = Filled s at size old count t new
Fills s at size old (Err e) t new = Failing s at size old t new

-- a call that reads input
abbrev pub Read : State → Feed → RunEnd → State → Feed → Type 0
Read s old Spent t new = (writable s (reg s 11) (reg s 12) ≡ true) ×
    ((count : ℕ) × ((m : State) × (Filled s (reg s 11) (reg s 12) old count m new × (t ≡ answered m count))))
Read s old ReadFault t new = (writable s (reg s 11) (reg s 12) ≡ true) × Failing s (reg s 11) (reg s 12) old t new
Read s old (Fault kind pc word) t new =
    (writable s (reg s 11) (reg s 12) ≡ false) × ((kind ≡ OutOfRange) × ((pc ≡ s.pc) × ((word ≡ 0x73) × ((t ≡ s) × (new ≡ old)))))
Read s old (Exited status) t new = ⊥
Read s old (WriteFault stream) t new = ⊥
