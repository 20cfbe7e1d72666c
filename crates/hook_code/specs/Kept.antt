-- What a table of types has to be for its hooks to keep their promises, and how deep calls of hooks go.
use Rattle.std.specs.Prelude.{◌≡◌, ◌<◌, ◌≤◌, ℕ, ◌+◌, ◌*◌, ◌^◌, true, zero, suc, ◌-◌, ◌%◌, ◌/◌, nat_lt, if◌then◌else◌, List, ◌∷◌, Option, Some}
use Rattle.std.specs.Prelude.{slice_get}
use Rattle.nim_types.specs.declared.types.TypeDef.{TypeDef}
use Rattle.nim_types.specs.declared.types.TypeDef.TheVariants as D
use Rattle.nim_types.specs.Forms.{block, levels}
use Rattle.flat_code.specs.Scene.{known_in}
use Rattle.flat_code.specs.Lines.{form_in}
use Rattle.word_code.specs.declared.word.WordProc.{WordProc}
use Rattle.word_code.specs.Joined.{moved}
use Rattle.word_code.specs.Words.{from_proc}
use Rattle.word_code.specs.declared.routine.TheConstants.{COPY}
use Rattle.heap_memory.specs.declared.numbers.TheConstants.{RELEASE, TEXT_COPY, SEQ_NEW}
use Rattle.hook_lifting.specs.declared.lifted.Hook.{Hook}
use Rattle.hook_lifting.specs.declared.lifted.Hook.TheVariants.{Copies, Assigns, Sinks, Ends}
use Rattle.hook_lifting.specs.declared.procedures.TheConstants.{MOST_LEVELS}
use Rattle.hook_lifting.specs.Weights.{is_built}
use Rattle.hook_lifting.specs.Lifted.{has_hooks, lines_of, cut_lines}
use Rattle.hook_code.specs.declared.numbers.TheConstants.{HOOKS_EACH}
use Rattle.hook_code.specs.HookCode.{bytes_at, hook_number, cut_number, hook_proc, cut_proc}

-- a type is that of a part or of elements
abbrev pub IsPartOf : TypeDef → (part : ℕ) → Type 0
IsPartOf (D.Seq of) p = of ≡ p
IsPartOf (D.Array n of) p = of ≡ p
IsPartOf (D.Tuple names ps) p = (j : ℕ) × (slice_get ps j ≡ Some p)
IsPartOf (D.Object name at of fields own ps) p = (j : ℕ) × (slice_get ps j ≡ Some p)
IsPartOf (D.Distinct name at base) p = base ≡ p
IsPartOf d p = ⊥

abbrev pub IsBase : TypeDef → (base : ℕ) → Type 0
IsBase (D.Distinct name at of) base = of ≡ base
IsBase d base = ⊥

-- The type of a part with hooks has a lower rank. What is an array or of a distinct type has hooks by its elements or its base.
pub record IsOrdered (table : List TypeDef) (rank : ℕ → ℕ) : Type 0 where
  pub parts : (ty p : ℕ) (d : TypeDef) → slice_get table ty ≡ Some d → IsPartOf d p → has_hooks table ty ≡ true → has_hooks table p ≡ true
      → (e : TypeDef) × (slice_get table p ≡ Some e) × (rank p < rank ty)
  pub arrays : (ty n of : ℕ) → slice_get table ty ≡ Some (D.Array n of) → has_hooks table ty ≡ true → (has_hooks table of ≡ true) × (n < 2 ^ 32)
  pub bases : (ty base : ℕ) (d : TypeDef) → slice_get table ty ≡ Some d → IsBase d base → has_hooks table ty ≡ true → has_hooks table base ≡ true
  pub texts : (ty : ℕ) → slice_get table ty ≡ Some D.Text → form_in (known_in table) ty ≡ block
  pub some : (ty : ℕ) → 1 ≤ rank ty
  -- what is built has built parts
  pub built : (ty p : ℕ) (d : TypeDef) → slice_get table ty ≡ Some d → IsPartOf d p → is_built (form_in (known_in table) ty) ≡ true
      → is_built (form_in (known_in table) p) ≡ true

-- how many levels the form of a type has
abbrev pub rank_in : List TypeDef → (ty : ℕ) → ℕ
rank_in table ty = levels (form_in (known_in table) ty)

-- arrays have fewer elements than there are words
abbrev pub AreShort : List TypeDef → Type 0
AreShort table = (ty n of : ℕ) → slice_get table ty ≡ Some (D.Array n of) → n < 2 ^ 32

-- elements of sequences have sizes of 32 bits
abbrev pub HaveSmallElements : List TypeDef → Type 0
HaveSmallElements table = (ty of : ℕ) → slice_get table ty ≡ Some (D.Seq of) → bytes_at table of < 2 ^ 32

-- how many calls of hooks stand in a chain from one on
abbrev pub chain_of : Hook → (rank : ℕ) → ℕ
chain_of Copies r = 2 * r + 1
chain_of Ends r = 2 * r + 1
chain_of hook r = 2 * r + 2

-- how many lines a hook takes for each work of its walk, by the levels of its type
abbrev pub pace_at : Hook → (rank : ℕ) → ℕ
pace_at Copies r = 32 + 3 * r
pace_at Ends r = 32 + 3 * r
pace_at hook r = 33 + 3 * r

-- A procedure is among others, its data moved behind those of code that stands before it.
abbrev pub IsAmong : WordProc → List WordProc → Type 0
IsAmong p procs = (shift : ℕ) × (others : List WordProc) × (from_proc p.number procs ≡ moved shift p ∷ others)

-- the hooks of the table's types that have no more levels are among the procedures
abbrev pub AreThere : List TypeDef → (first : ℕ) → List WordProc → Type 0
AreThere table first procs =
    (hook : Hook) (ty : ℕ) (d : TypeDef) → slice_get table ty ≡ Some d → has_hooks table ty ≡ true → rank_in table ty ≤ MOST_LEVELS
    → IsAmong (hook_proc table first (record { ty = ty; hook = hook; lines = lines_of table hook ty d })) procs

-- and so is what makes sequences shorter
abbrev pub CutsAreThere : List TypeDef → (first : ℕ) → List WordProc → Type 0
CutsAreThere table first procs =
    (ty of : ℕ) → slice_get table ty ≡ Some (D.Seq of) → has_hooks table of ≡ true → rank_in table ty ≤ MOST_LEVELS
    → IsAmong (cut_proc table first (record { ty = ty; lines = cut_lines of })) procs

-- Hooks have ranks above those of the routines that they call, by the levels of their types.
pub record Ranks (table : List TypeDef) (first : ℕ) (level : ℕ → ℕ) (base : ℕ) (rank : ℕ → ℕ) : Type 0 where
  pub copy : rank COPY ≤ base
  pub release : rank RELEASE ≤ base
  pub text_copy : rank TEXT_COPY ≤ base
  pub seq_new : rank SEQ_NEW ≤ base
  pub hooks : (hook : Hook) (ty : ℕ) → rank (hook_number first hook ty) ≡ base + chain_of hook (level ty)
  pub cut : (ty el : ℕ) → slice_get table ty ≡ Some (D.Seq el) → rank (cut_number first ty) ≡ base + (chain_of Ends (level el) + 1)

-- Such ranks, where the procedures with smaller numbers have ranks of their own.
abbrev pub cut_rank : (level : ℕ → ℕ) → (base : ℕ) → Option TypeDef → ℕ
cut_rank level base (Some (D.Seq el)) = base + (chain_of Ends (level el) + 1)
cut_rank level base d = base

abbrev pub rank_by : (table : List TypeDef) → (level : ℕ → ℕ) → (base index ty : ℕ) → ℕ
rank_by table level base zero ty = base + chain_of Copies (level ty)
rank_by table level base (suc zero) ty = base + chain_of Assigns (level ty)
rank_by table level base (suc (suc zero)) ty = base + chain_of Sinks (level ty)
rank_by table level base (suc (suc (suc zero))) ty = base + chain_of Ends (level ty)
rank_by table level base index ty = cut_rank level base (slice_get table ty)

abbrev pub hook_ranks : (table : List TypeDef) → (first : ℕ) → (level : ℕ → ℕ) → (base : ℕ) → (others : ℕ → ℕ) → (number : ℕ) → ℕ
hook_ranks table first level base others n =
    if nat_lt n first then others n else rank_by table level base ((n - first) % HOOKS_EACH) ((n - first) / HOOKS_EACH)
