-- The file of an image and a plan: an ELF file of 32 bits for RISC-V, header by header. System V ABI, "Object Files" and
-- "Program Loading".
use Rattle.std.specs.Prelude.{◌≡◌, ◌≤◌, ◌<◌, ◌⊎◌, ℕ, ◌+◌, ◌^◌, ◌/◌, ◌%◌, List, [], ◌∷◌, ◌++◌, length, codes}
use Rattle.std.specs.List.{AllByRecursion, flat_map}
use Rattle.nim_plan.specs.declared.plan.Act.{Act}
use Rattle.nim_plan.specs.declared.plan.Act.TheVariants.{Copy, Move, Final, Borrow}
use Rattle.nim_plan.specs.declared.plan.SiteAct.{SiteAct}
use Rattle.nim_plan.specs.declared.plan.SkipAt.{SkipAt}
use Rattle.nim_plan.specs.declared.plan.Plan.{Plan}
use Rattle.rv32_isa.specs.declared.image.HookAt.{HookAt}
use Rattle.rv32_isa.specs.Words.{word_bytes}
use Rattle.rv32_isa.specs.Hooks.{code_at}
use Rattle.rv32_isa.specs.Image.{Image, IsImage, image_of, statics_at, heap_at, stack_at}
use Rattle.elf32.specs.declared.file.ElfFile.{ElfFile}

-- what a file says
pub record File : Type 0 where
  pub image : Image
  pub version : ℕ
  pub plan : Plan

abbrev pub file_of : ElfFile → File
file_of file = record { image = image_of file.image; version = file.version; plan = file.plan }

-- ---- numbers, the lowest byte first

abbrev pub half_bytes : ℕ → List ℕ
half_bytes n = n % 256 ∷ n / 256 % 256 ∷ []

abbrev pub halves : List ℕ → List ℕ
halves ns = flat_map half_bytes ns

abbrev pub words : List ℕ → List ℕ
words ns = flat_map word_bytes ns

-- ---- the header

-- the magic number; 32 bits, lowest byte first, version 1; and nine zeros
abbrev pub identity : List ℕ
identity = 0x7f ∷ 0x45 ∷ 0x4c ∷ 0x46 ∷ 1 ∷ 1 ∷ 1 ∷ 0 ∷ 0 ∷ 0 ∷ 0 ∷ 0 ∷ 0 ∷ 0 ∷ 0 ∷ 0 ∷ []

-- An executable for machine 243. Then version, entry, where program headers and sections stand, and flags. Then the
-- sizes of this header and of a program header, their number, and no sections.
abbrev pub header : List ℕ
header = identity ++ (halves (2 ∷ 243 ∷ []) ++ (words (1 ∷ code_at ∷ 52 ∷ 0 ∷ 0 ∷ []) ++ halves (52 ∷ 32 ∷ 5 ∷ 0 ∷ 0 ∷ 0 ∷ [])))

-- ---- the program headers

-- kind, offset, address (virtual and physical), size in the file, size in memory, flags, alignment
abbrev pub segment : (kind offset address in_file in_memory flags : ℕ) → List ℕ
segment kind offset address in_file in_memory flags = words (kind ∷ offset ∷ address ∷ address ∷ in_file ∷ in_memory ∷ flags ∷ 4 ∷ [])

-- code, data, heap, stack and note, by their sizes in bytes; heap and stack aren't in the file
abbrev pub segments_of : (note code statics heap stack : ℕ) → List ℕ
segments_of n c d heap stack =
    segment 1 (212 + n) code_at c c 5 ++ (segment 1 (212 + n + c) statics_at d d 6
    ++ (segment 1 0 heap_at 0 heap 6 ++ (segment 1 0 stack_at 0 stack 6 ++ segment 4 212 0 n 0 4)))

-- those of an image, where the note has n bytes
abbrev pub segments : (n : ℕ) → Image → List ℕ
segments n image = segments_of n (length image.code) (length image.statics) image.heap image.stack

-- ---- the note

-- how many there are, and the words of each
abbrev pub counted : {A : Type 0} → (A → List ℕ) → List A → List ℕ
counted words_of items = length items ∷ flat_map words_of items

abbrev pub hook_words : HookAt → List ℕ
hook_words hook = hook.kind ∷ hook.of ∷ hook.addr ∷ []

abbrev pub act_number : Act → ℕ
act_number Copy = 0
act_number Move = 1
act_number Final = 2
act_number Borrow = 3

abbrev pub site_words : SiteAct → List ℕ
site_words site = site.site ∷ act_number site.act ∷ []

abbrev pub sink_words : ℕ → List ℕ
sink_words sink = sink ∷ []

abbrev pub skip_words : SkipAt → List ℕ
skip_words skip = skip.place ∷ skip.exit ∷ []

-- version, hooks, sites, inferred sinks and skips
abbrev pub described : (version : ℕ) → List HookAt → Plan → List ℕ
described version hooks plan =
    version ∷ (counted hook_words hooks ++ (counted site_words plan.sites ++ (counted sink_words plan.sinks ++ counted skip_words plan.skips)))

abbrev pub description : File → List ℕ
description file = described file.version file.image.hooks file.plan

-- sizes of name and description, type 1, the name with two zeros, and the description
abbrev pub note_of : List ℕ → List ℕ
note_of description = words (7 ∷ length (words description) ∷ 1 ∷ []) ++ (codes "NimArc" ++ (0 ∷ 0 ∷ words description))

abbrev pub note : File → List ℕ
note file = note_of (description file)

-- ---- the file

abbrev pub elf_bytes : File → List ℕ
elf_bytes file = header ++ (segments (length (note file)) file.image ++ (note file ++ (file.image.code ++ file.image.statics)))

-- each item stands before the next one
abbrev pub Ordered : {A : Type 0} → (A → A → Type 0) → List A → Type 0
Ordered Before [] = Unit {0}
Ordered Before (a ∷ []) = Unit {0}
Ordered Before (a ∷ b ∷ items) = Before a b × Ordered Before (b ∷ items)

-- what a file may say: the ranges of its numbers, and lists in strictly increasing order
pub record IsFile (file : File) : Type 0 where
  pub version : file.version ≡ 1
  pub image : IsImage file.image
  pub heap_least : 4096 ≤ file.image.heap
  pub sites : Ordered (λ a b. a.site < b.site) file.plan.sites
  pub sinks : Ordered (λ a b. a < b) file.plan.sinks
  pub skips : Ordered (λ a b. (a.place < b.place) ⊎ ((a.place ≡ b.place) × (a.exit < b.exit))) file.plan.skips
  pub words : AllByRecursion (λ n. n < 2 ^ 32) (description file)
  pub note_most : length (note file) ≤ 2097152

-- the bytes are the file
pub record Elf (bytes : List ℕ) (file : File) : Type 0 where
  pub spelled : bytes ≡ elf_bytes file
  pub allowed : IsFile file
