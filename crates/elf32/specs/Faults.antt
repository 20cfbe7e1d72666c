-- Where bytes are no file: the first part that is not as a file has it.
use Rattle.std.specs.Prelude.{◌≡◌, ◌≤◌, ◌<◌, ℕ, ◌+◌, ◌%◌, List, take, drop, length, ⊤}
use Rattle.elf32.specs.declared.file.ElfFault.{ElfFault}
use Rattle.elf32.specs.declared.file.ElfFault.TheVariants.{Short, Magic, Class, FileType, Machine, Header, Segment, Note}
use Rattle.elf32.specs.declared.file.ElfStop.{ElfStop}
use Rattle.elf32.specs.declared.file.ElfStop.TheVariants.{Bad, Memory}
use Rattle.elf32.specs.Elf.{File, Elf, header, segments_of}

-- the faults are numbered in the order of the parts
abbrev pub fault_number : ElfFault → ℕ
fault_number Short = 1
fault_number Magic = 2
fault_number Class = 3
fault_number FileType = 4
fault_number Machine = 5
fault_number Header = 6
fault_number Segment = 7
fault_number Note = 8

-- ---- the program headers

-- the sizes are in their ranges, and a file that has them has so many bytes
pub record AreSizes (note code statics heap stack bytes : ℕ) : Type 0 where
  pub code_whole : code % 4 ≡ 0
  pub code_least : 4 ≤ code
  pub code_most : code ≤ 524288
  pub statics_whole : statics % 4 ≡ 0
  pub statics_most : statics ≤ 1048576
  pub heap_least : 4096 ≤ heap
  pub heap_most : heap ≤ 16777216
  pub stack_whole : stack % 16 ≡ 0
  pub stack_least : 65536 ≤ stack
  pub stack_most : stack ≤ 268435456
  pub note_most : note ≤ 2097152
  pub whole : bytes ≡ 212 + note + code + statics

-- the program headers are those of some sizes, and the file is as long as they say
pub record HasSegments (bytes : List ℕ) : Type 0 where
  pub note : ℕ
  pub code : ℕ
  pub statics : ℕ
  pub heap : ℕ
  pub stack : ℕ
  pub sizes : AreSizes note code statics heap stack (length bytes)
  pub spelled : take 160 (drop 52 bytes) ≡ segments_of note code statics heap stack

-- ---- the faults

-- some file has the bytes
pub record HasFile (bytes : List ℕ) : Type 0 where
  pub file : File
  pub elf : Elf bytes file

-- the part that a fault is of is as in a file; with the parts before it, the last one makes the whole file
abbrev pub Fits : ElfFault → List ℕ → Type 0
Fits Short bytes = 212 ≤ length bytes
Fits Magic bytes = take 4 bytes ≡ take 4 header
Fits Class bytes = take 16 bytes ≡ take 16 header
Fits FileType bytes = take 18 bytes ≡ take 18 header
Fits Machine bytes = take 20 bytes ≡ take 20 header
Fits Header bytes = take 52 bytes ≡ header
Fits Segment bytes = HasSegments bytes
Fits Note bytes = HasFile bytes

-- the first part that is not as in a file
pub record HasFault (bytes : List ℕ) (fault : ElfFault) : Type 0 where
  pub differs : Fits fault bytes → ⊥
  pub before : (other : ElfFault) → fault_number other < fault_number fault → Fits other bytes

-- some fault is the first
pub record IsFaulty (bytes : List ℕ) : Type 0 where
  pub fault : ElfFault
  pub first : HasFault bytes fault

-- the fault that a reader stops with is the one that the bytes have
abbrev pub StopsRightly : List ℕ → ElfStop → Type 0
StopsRightly bytes (Bad fault) = HasFault bytes fault
StopsRightly bytes Memory = ⊤
