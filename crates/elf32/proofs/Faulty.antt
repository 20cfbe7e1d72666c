-- The fault of bytes: one at each of the first parts that differ.
use Rattle.std.proofs.Common.{◌≡◌, ◌<◌, ◌≤◌, ℕ, List, take, length, sym, ap, ◌∙◌, arith}
use Rattle.std.proofs.lemmas.List.{take-take}
use Rattle.elf32.specs.declared.file.ElfFault.{ElfFault}
use Rattle.elf32.specs.declared.file.ElfFault.TheVariants.{Short, Magic, Class, FileType, Machine, Header, Segment, Note}
use Rattle.elf32.specs.Elf.{header}
use Rattle.elf32.specs.declared.file.ElfStop.{ElfStop}
use Rattle.elf32.specs.declared.file.ElfStop.TheVariants.{Bad, Memory}
use Rattle.elf32.specs.Faults.{fault_number, Fits, HasFault, HasFile, HasSegments, StopsRightly}
use Rattle.elf32.specs.Reading.{Because}

-- ---- Short

before_short : (bytes : List ℕ) → (other : ElfFault) → fault_number other < 1 → Fits other bytes
before_short bytes Short less = absurd (omega arith)
before_short bytes Magic less = absurd (omega arith)
before_short bytes Class less = absurd (omega arith)
before_short bytes FileType less = absurd (omega arith)
before_short bytes Machine less = absurd (omega arith)
before_short bytes Header less = absurd (omega arith)
before_short bytes Segment less = absurd (omega arith)
before_short bytes Note less = absurd (omega arith)

pub fault_short : (bytes : List ℕ) → (Fits Short bytes → ⊥) → HasFault bytes Short
fault_short bytes differs = record { differs = differs; before = before_short bytes }

-- ---- Magic

before_magic : (bytes : List ℕ) → Fits Short bytes → (other : ElfFault) → fault_number other < 2 → Fits other bytes
before_magic bytes long Short less = long
before_magic bytes long Magic less = absurd (omega arith)
before_magic bytes long Class less = absurd (omega arith)
before_magic bytes long FileType less = absurd (omega arith)
before_magic bytes long Machine less = absurd (omega arith)
before_magic bytes long Header less = absurd (omega arith)
before_magic bytes long Segment less = absurd (omega arith)
before_magic bytes long Note less = absurd (omega arith)

pub fault_magic : (bytes : List ℕ) → Fits Short bytes → (Fits Magic bytes → ⊥) → HasFault bytes Magic
fault_magic bytes long differs = record { differs = differs; before = before_magic bytes long }

-- ---- Class

before_class : (bytes : List ℕ) → Fits Short bytes → Fits Magic bytes → (other : ElfFault) → fault_number other < 3 → Fits other bytes
before_class bytes long magic Short less = long
before_class bytes long magic Magic less = magic
before_class bytes long magic Class less = absurd (omega arith)
before_class bytes long magic FileType less = absurd (omega arith)
before_class bytes long magic Machine less = absurd (omega arith)
before_class bytes long magic Header less = absurd (omega arith)
before_class bytes long magic Segment less = absurd (omega arith)
before_class bytes long magic Note less = absurd (omega arith)

pub fault_class : (bytes : List ℕ) → Fits Short bytes → Fits Magic bytes → (Fits Class bytes → ⊥) → HasFault bytes Class
fault_class bytes long magic differs = record { differs = differs; before = before_class bytes long magic }

-- ---- FileType

before_file_type : (bytes : List ℕ) → Fits Short bytes → Fits Magic bytes → Fits Class bytes → (other : ElfFault) → fault_number other < 4 → Fits other bytes
before_file_type bytes long magic class Short less = long
before_file_type bytes long magic class Magic less = magic
before_file_type bytes long magic class Class less = class
before_file_type bytes long magic class FileType less = absurd (omega arith)
before_file_type bytes long magic class Machine less = absurd (omega arith)
before_file_type bytes long magic class Header less = absurd (omega arith)
before_file_type bytes long magic class Segment less = absurd (omega arith)
before_file_type bytes long magic class Note less = absurd (omega arith)

pub fault_file_type : (bytes : List ℕ) → Fits Short bytes → Fits Magic bytes → Fits Class bytes → (Fits FileType bytes → ⊥) → HasFault bytes FileType
fault_file_type bytes long magic class differs = record { differs = differs; before = before_file_type bytes long magic class }

-- ---- Machine

before_machine : (bytes : List ℕ) → Fits Short bytes → Fits Magic bytes → Fits Class bytes → Fits FileType bytes → (other : ElfFault) → fault_number other < 5
    → Fits other bytes
before_machine bytes long magic class kind Short less = long
before_machine bytes long magic class kind Magic less = magic
before_machine bytes long magic class kind Class less = class
before_machine bytes long magic class kind FileType less = kind
before_machine bytes long magic class kind Machine less = absurd (omega arith)
before_machine bytes long magic class kind Header less = absurd (omega arith)
before_machine bytes long magic class kind Segment less = absurd (omega arith)
before_machine bytes long magic class kind Note less = absurd (omega arith)

pub fault_machine : (bytes : List ℕ) → Fits Short bytes → Fits Magic bytes → Fits Class bytes → Fits FileType bytes → (Fits Machine bytes → ⊥)
    → HasFault bytes Machine
fault_machine bytes long magic class kind differs = record { differs = differs; before = before_machine bytes long magic class kind }

-- ---- Header

before_header : (bytes : List ℕ) → Fits Short bytes → Fits Magic bytes → Fits Class bytes → Fits FileType bytes → Fits Machine bytes → (other : ElfFault)
    → fault_number other < 6 → Fits other bytes
before_header bytes long magic class kind machine Short less = long
before_header bytes long magic class kind machine Magic less = magic
before_header bytes long magic class kind machine Class less = class
before_header bytes long magic class kind machine FileType less = kind
before_header bytes long magic class kind machine Machine less = machine
before_header bytes long magic class kind machine Header less = absurd (omega arith)
before_header bytes long magic class kind machine Segment less = absurd (omega arith)
before_header bytes long magic class kind machine Note less = absurd (omega arith)

pub fault_header : (bytes : List ℕ) → Fits Short bytes → Fits Magic bytes → Fits Class bytes → Fits FileType bytes → Fits Machine bytes
    → (Fits Header bytes → ⊥) → HasFault bytes Header
fault_header bytes long magic class kind machine differs = record { differs = differs; before = before_header bytes long magic class kind machine }

-- ---- Segment

before_segment : (bytes : List ℕ) → Fits Short bytes → Fits Magic bytes → Fits Class bytes → Fits FileType bytes → Fits Machine bytes → Fits Header bytes
    → (other : ElfFault) → fault_number other < 7 → Fits other bytes
before_segment bytes long magic class kind machine header_is Short less = long
before_segment bytes long magic class kind machine header_is Magic less = magic
before_segment bytes long magic class kind machine header_is Class less = class
before_segment bytes long magic class kind machine header_is FileType less = kind
before_segment bytes long magic class kind machine header_is Machine less = machine
before_segment bytes long magic class kind machine header_is Header less = header_is
before_segment bytes long magic class kind machine header_is Segment less = absurd (omega arith)
before_segment bytes long magic class kind machine header_is Note less = absurd (omega arith)

pub fault_segment : (bytes : List ℕ) → Fits Short bytes → Fits Magic bytes → Fits Class bytes → Fits FileType bytes → Fits Machine bytes → Fits Header bytes
    → (Fits Segment bytes → ⊥) → HasFault bytes Segment
fault_segment bytes long magic class kind machine header_is differs =
    record { differs = differs; before = before_segment bytes long magic class kind machine header_is }

-- ---- Note

before_note : (bytes : List ℕ) → Fits Short bytes → Fits Magic bytes → Fits Class bytes → Fits FileType bytes → Fits Machine bytes → Fits Header bytes
    → Fits Segment bytes → (other : ElfFault) → fault_number other < 8 → Fits other bytes
before_note bytes long magic class kind machine header_is segments Short less = long
before_note bytes long magic class kind machine header_is segments Magic less = magic
before_note bytes long magic class kind machine header_is segments Class less = class
before_note bytes long magic class kind machine header_is segments FileType less = kind
before_note bytes long magic class kind machine header_is segments Machine less = machine
before_note bytes long magic class kind machine header_is segments Header less = header_is
before_note bytes long magic class kind machine header_is segments Segment less = segments
before_note bytes long magic class kind machine header_is segments Note less = absurd (omega arith)

pub fault_note : (bytes : List ℕ) → Fits Short bytes → Fits Magic bytes → Fits Class bytes → Fits FileType bytes → Fits Machine bytes → Fits Header bytes
    → Fits Segment bytes → (Fits Note bytes → ⊥) → HasFault bytes Note
fault_note bytes long magic class kind machine header_is segments differs =
    record { differs = differs; before = before_note bytes long magic class kind machine header_is segments }

-- ---- where the reader stops behind the header

-- where the whole header is there, each part of it is
pub part_there : (k : ℕ) (bytes : List ℕ) → k ≤ 52 → take 52 bytes ≡ header → take k bytes ≡ take k header
part_there k bytes least whole = sym (take-take k 52 bytes least) ∙ ap (take k) whole

pub segment_stops : (bytes : List ℕ) (stop : ElfStop) → 212 ≤ length bytes → take 52 bytes ≡ header → Because stop Segment (HasSegments bytes → ⊥)
    → StopsRightly bytes stop
segment_stops bytes (Bad fault) long whole why =
    rw why.0 (fault_segment bytes long (part_there 4 bytes (omega arith) whole) (part_there 16 bytes (omega arith) whole)
    (part_there 18 bytes (omega arith) whole) (part_there 20 bytes (omega arith) whole) whole why.1)
segment_stops bytes Memory long whole why = why

pub note_stops : (bytes : List ℕ) (stop : ElfStop) → 212 ≤ length bytes → take 52 bytes ≡ header → HasSegments bytes → Because stop Note (HasFile bytes → ⊥)
    → StopsRightly bytes stop
note_stops bytes (Bad fault) long whole segments why =
    rw why.0 (fault_note bytes long (part_there 4 bytes (omega arith) whole) (part_there 16 bytes (omega arith) whole)
    (part_there 18 bytes (omega arith) whole) (part_there 20 bytes (omega arith) whole) whole segments why.1)
note_stops bytes Memory long whole segments why = why
