-- The memory of word code: data, heap and the places of calls. It is read and written as the machine's is.
use Rattle.std.specs.Prelude.{◌≡◌, ℕ, zero, suc, ◌+◌, ◌-◌, ◌%◌, List, [], ◌++◌, length, take, replicate, Bool, Option, Result, ◌==◌, ◌&&◌}
use Rattle.rv32_isa.specs.declared.micro_op.Size.{Size}
use Rattle.rv32_isa.specs.declared.machine.FaultKind.{FaultKind}
use Rattle.rv32_isa.specs.Image.{statics_at}
use Rattle.rv32_isa.specs.Regions.{AreBytes}
use Rattle.rv32_isa.specs.Words.{word_bytes}
use Rattle.rv32_isa.specs.State.{State, readable, writable, filled}
use Rattle.rv32_isa.specs.Steps.{size_of, found, low_bytes}

-- three lists of bytes; the places stand where the machine's stack begins
pub record Memory : Type 0 where
  pub statics : List ℕ
  pub heap : List ℕ
  pub places : List ℕ

-- a machine without registers and code that has this memory
abbrev pub as_state : Memory → State
as_state m = record { regs = []; pc = 0; code = []; statics = m.statics; heap = m.heap; stack = m.places }

-- Registers, program counter and code stay, and so do the sizes of the other regions; and a heap of bytes stays one.
pub record KeepsShape (old new : State) : Type 0 where
  pub regs : new.regs ≡ old.regs
  pub pc : new.pc ≡ old.pc
  pub code : new.code ≡ old.code
  pub statics : length new.statics ≡ length old.statics
  pub heap : length new.heap ≡ length old.heap
  pub stack : length new.stack ≡ length old.stack
  pub bytes : AreBytes old.heap → AreBytes new.heap

abbrev pub memory_of : State → Memory
memory_of s = record { statics = s.statics; heap = s.heap; places = s.stack }

-- the unsigned number at an address
abbrev pub number_at : Memory → (at : ℕ) → Size → Result ℕ FaultKind
number_at m at size = found (as_state m) at size

-- so much may be put to an address
abbrev pub may_put : Memory → (at : ℕ) → Size → Bool
may_put m at size = (at % size_of size == 0) && writable (as_state m) at (size_of size)

-- with the lowest bytes of a word at an address
abbrev pub with_number : Memory → (at : ℕ) → Size → (word : ℕ) → Memory
with_number m at size word = memory_of (filled (as_state m) at (low_bytes size word))

-- the bytes of a range, where they may be read
abbrev pub bytes_at : Memory → (at len : ℕ) → Option (List ℕ)
bytes_at m at len = readable (as_state m) at len

-- a range that may be written
abbrev pub may_fill : Memory → (at len : ℕ) → Bool
may_fill m at len = writable (as_state m) at len

abbrev pub with_bytes : Memory → (at : ℕ) → List ℕ → Memory
with_bytes m at bytes = memory_of (filled (as_state m) at bytes)

-- ---- places of calls that begin and end

-- Behind the places come so many bytes more: these, and zeros where they are too few.
abbrev pub with_places : Memory → (count : ℕ) → (bytes : List ℕ) → Memory
with_places m zero bytes = m
with_places m (suc n) bytes = record m { places = m.places ++ take (suc n) (bytes ++ replicate (suc n) 0) }

-- so many of the places go, the last ones
abbrev pub without_places : Memory → (count : ℕ) → Memory
without_places m zero = m
without_places m (suc n) = record m { places = take (length m.places - suc n) m.places }

-- ---- data

-- what the data region holds at the start: the sizes of heap and stack, and the code's own data
abbrev pub data_of : (heap stack : ℕ) → List ℕ → List ℕ
data_of heap stack statics = word_bytes heap ++ (word_bytes stack ++ statics)

-- where the code's own data begins
abbrev pub own_data_at : ℕ
own_data_at = statics_at + 8
