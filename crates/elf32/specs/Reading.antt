-- What the parts of the reader say: lists in the bytes of a note, and tests of their order. No public contract speaks of it.
use Rattle.std.specs.Prelude.{◌≡◌, ◌≤◌, ◌<◌, ◌^◌, ℕ, ◌⊎◌, ◌+◌, ◌-◌, ◌*◌, ◌%◌, Bool, true, ◌&&◌, ◌||◌, eqb, ltb, leb, List, [], ◌∷◌, ◌++◌, take, drop}
use Rattle.std.specs.Prelude.{length, Option, Some, None, ⊤, codes}
use Rattle.std.specs.List.{AllByRecursion}
use Rattle.nim_plan.specs.declared.plan.SiteAct.{SiteAct}
use Rattle.nim_plan.specs.declared.plan.SkipAt.{SkipAt}
use Rattle.rv32_isa.specs.declared.image.HookAt.{HookAt}
use Rattle.rv32_isa.specs.Hooks.{code_at, HooksStand}
use Rattle.rv32_isa.specs.Image.{Image}
use Rattle.rv32_isa.specs.Words.{word_bytes, little}
use Rattle.elf32.specs.declared.file.ElfStop.{ElfStop}
use Rattle.elf32.specs.declared.file.ElfStop.TheVariants.{Bad, Memory}
use Rattle.elf32.specs.declared.file.ElfFault.{ElfFault}
use Rattle.nim_plan.specs.declared.plan.Plan.{Plan}
use Rattle.elf32.specs.Elf.{File, IsFile, words, counted, described, note, note_of, Ordered}

-- ---- answers

-- the stop is this fault, and that is why; or there was no memory
abbrev pub Because : ElfStop → ElfFault → Type 0 → Type 0
Because (Bad fault) wanted why = (fault ≡ wanted) × why
Because Memory wanted why = ⊤

-- ---- counted lists in bytes

-- from one place to another stands the counted list of these items
abbrev pub Lists : {A : Type 0} → (A → List ℕ) → List A → List ℕ → List ℕ → Type 0
Lists words_of items here behind = here ≡ words (counted words_of items) ++ behind

-- no counted list that is short enough to be counted stands there
abbrev pub ListsNone : {A : Type 0} → (A → List ℕ) → List ℕ → Type 0
ListsNone {A} words_of here = (items : List A) (behind : List ℕ) → length items < 2 ^ 32 → Lists words_of items here behind → ⊥

-- no count stands there that has so many words behind it, where an item has that many
abbrev pub CountsNone : (size : ℕ) → List ℕ → Type 0
CountsNone size here = (count : ℕ) (behind : List ℕ) → count < 2 ^ 32 → here ≡ word_bytes count ++ behind → size * count ≤ length behind → ⊥

-- ---- the sizes that the program headers tell

-- the number in the four bytes from there on
abbrev pub word_in : List ℕ → ℕ → ℕ
word_in bytes at = little (take 4 (drop at bytes))

-- the image of a file of those sizes, with its hooks
abbrev pub image_in : List ℕ → (note code statics heap stack : ℕ) → List HookAt → Image
image_in bytes note code statics heap stack hooks =
    record { code = take code (drop (212 + note) bytes); statics = take statics (drop (212 + note + code) bytes); heap = heap; stack = stack; hooks = hooks }

-- the fields that tell the sizes
pub record AreFields (bytes : List ℕ) (note code statics heap stack : ℕ) : Type 0 where
  pub note_is : note ≡ word_in bytes 196
  pub code_is : code ≡ word_in bytes 68
  pub statics_is : statics ≡ word_in bytes 100
  pub heap_is : heap ≡ word_in bytes 136
  pub stack_is : stack ≡ word_in bytes 168

-- ---- tests of order

-- the item comes after the last one, if there is one
abbrev pub follows : {A : Type 0} → (A → A → Bool) → Option A → A → Bool
follows before None item = true
follows before (Some last) item = before last item

-- each item comes after the one before it
abbrev pub rises : {A : Type 0} → (A → A → Bool) → Option A → List A → Bool
rises before last [] = true
rises before last (item ∷ items) = follows before last item && rises before (Some item) items

abbrev pub site_before : SiteAct → SiteAct → Bool
site_before a b = ltb a.site b.site

abbrev pub skip_before : SkipAt → SkipAt → Bool
skip_before a b = ltb a.place b.place || (eqb a.place b.place && ltb a.exit b.exit)

-- a hook stands at an instruction of code that ends there, from an address on
abbrev pub stands : (least end : ℕ) → HookAt → Bool
stands least end hook = leb least hook.addr && (leb (hook.addr + 4) end && (eqb (hook.addr % 4) 0 && ltb hook.kind 4))

-- hooks stand in code of that size, in order, from an address on
abbrev pub stand : (size least : ℕ) → List HookAt → Bool
stand size least [] = true
stand size least (hook ∷ hooks) = stands least (code_at + size) hook && stand size (hook.addr + 1) hooks

-- ---- the note

-- the first 24 bytes of a note, up to its version, where it has n bytes
abbrev pub note_front : ℕ → List ℕ
note_front n = words (7 ∷ (n - 20) ∷ 1 ∷ []) ++ (codes "NimArc" ++ (0 ∷ 0 ∷ word_bytes 1))

-- the bytes are the note of these hooks and this plan, with code of that size
pub record SaysNote (size : ℕ) (bytes : List ℕ) (hooks : List HookAt) (plan : Plan) : Type 0 where
  pub spelled : bytes ≡ note_of (described 1 hooks plan)
  pub stand : HooksStand size code_at hooks
  pub sites : Ordered (λ a b. a.site < b.site) plan.sites
  pub sinks : Ordered (λ a b. a < b) plan.sinks
  pub skips : Ordered (λ a b. (a.place < b.place) ⊎ ((a.place ≡ b.place) × (a.exit < b.exit))) plan.skips
  pub words : AllByRecursion (λ n. n < 2 ^ 32) (described 1 hooks plan)

-- they are the note of no file with code of that size
abbrev pub SaysNone : (size : ℕ) → List ℕ → Type 0
SaysNone size bytes = (file : File) → IsFile file → length file.image.code ≡ size → bytes ≡ note file → ⊥
