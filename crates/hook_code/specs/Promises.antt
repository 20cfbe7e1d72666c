-- What a hook promises whoever calls it, and what it asks of the routines that it calls: each comes back with memory as the meaning's deed leaves the
-- world, or ends the program as the deed does.
use Rattle.std.specs.Prelude.{◌≡◌, ◌<◌, ◌≤◌, ℕ, ◌+◌, ◌*◌, ◌%◌, ◌^◌, Bool, true, false, nat_le, List, [], ◌∷◌, Some, Ok, slice_get}
use Rattle.arc_base.specs.Event.{Event}
use Rattle.arc_base.specs.Behaviour.{no_objects}
use Rattle.arc_base.specs.Simulation.{Steps, Stops}
use Rattle.nim_types.specs.declared.types.TypeDef.{TypeDef}
use Rattle.nim_types.specs.declared.types.TypeDef.TheVariants as D
use Rattle.nim_types.specs.declared.types.TheConstants.{WORD_BYTES, LIST_BYTES}
use Rattle.nim_meaning.specs.Values.{Value, Location, block_of, is_handle, first_of, length_of}
use Rattle.nim_meaning.specs.State.{World, elements_of, load}
use Rattle.nim_meaning.specs.Deeds.{Done, Answers, Finishes, Fails, perform, frees, looks, refills, sees}
use Rattle.nim_meaning.specs.Heap.{Elements}
use Rattle.nim_meaning.specs.OwnedRows.{element_of, cut}
use Rattle.flat_code.specs.Scene.{known_in}
use Rattle.flat_code.specs.Lines.{form_in}
use Rattle.rv32_isa.specs.Machine.{Lives}
use Rattle.rv32_isa.specs.declared.micro_op.Size.TheVariants.{Word}
use Rattle.word_code.specs.declared.routine.TheConstants.{COPY}
use Rattle.word_code.specs.declared.word.WordInstr.{WordInstr}
use Rattle.word_code.specs.declared.word.WordProc.{WordProc}
use Rattle.word_code.specs.Memory.{Memory, number_at, may_put, with_number}
use Rattle.word_code.specs.Words.{WordState, Fresh, step_of}
use Rattle.word_code.specs.Routines.{IsCalling, goes_on}
use Rattle.heap_memory.specs.declared.numbers.TheConstants.{RELEASE, TEXT_COPY, SEQ_NEW}
use Rattle.hook_lifting.specs.declared.lifted.Hook.{Hook}
use Rattle.hook_lifting.specs.declared.lifted.Hook.TheVariants.{Copies, Sinks, Ends}
use Rattle.hook_lifting.specs.Lifted.{has_hooks}
use Rattle.hook_lifting.specs.Lifting.{hook_deed, taken_for}
use Rattle.hook_code.specs.HookCode.{bytes_at, hook_number, cut_number}
use Rattle.hook_code.specs.Surroundings.{Hand, IsFull, Surroundings}

-- ---- how many lines the routines take, with their calls

-- that which gives a block back
abbrev pub release_most : ℕ
release_most = 30

-- that which makes a sequence, beside 4 for each byte
abbrev pub take_most : ℕ
take_most = 230

-- for each work, a copy of a text, and of what has no hooks
abbrev pub copy_pace : ℕ
copy_pace = 28

abbrev pub bits_pace : ℕ
bits_pace = 10

-- whether a hook puts values to where it works from, too
abbrev pub from_own : Hook → Bool
from_own Sinks = true
from_own Ends = true
from_own hook = false

-- It is said for the bytes that new places bring, and of states with the number of lines that were done.
module _ (table : List TypeDef) (z : Surroundings table) (live : Lives) (procs : List WordProc) (fresh : Fresh) where
  abbrev pub At_line : Type 0
  At_line = ℕ × WordState

  -- so many silent lines
  abbrev pub Runs_to : (lines : ℕ) → (s t : At_line) → Type 0
  Runs_to n s t = Steps (step_of live procs fresh) n s [] n t

  -- it ends behind so many lines at most
  pub record IsOver (s : At_line) (es : List Event) (status most : ℕ) : Type 0 where
    pub lines : ℕ
    pub few : lines ≤ most
    pub stops : Stops (step_of live procs fresh) s es lines status no_objects

  -- the places of a call that runs end at an address
  abbrev pub EndsAt : At_line → (top : ℕ) → Type 0
  EndsAt s top = s.1.frame.base + s.1.frame.proc.room ≡ top

  -- a call is over, behind so many lines at most, and its word came to a variable; memory belongs to a world then
  pub record IsBack (low top : ℕ) (h : Hand) (d : z.Blocks) (Gives : z.Blocks → (word : ℕ) → Type 0) (s : At_line) (to : ℕ) (rest : List WordInstr)
      (w : World) (most : ℕ) : Type 0 where
    pub memory : Memory
    pub word : ℕ
    pub after : z.Blocks
    pub ahead : z.Later d after
    pub here : z.Here low top h after w memory
    pub gives : Gives after word
    pub lines : ℕ
    pub few : lines ≤ most
    pub behind : ℕ
    pub runs : Runs_to lines s (behind, goes_on s.1 to word rest memory s.1.input)

  -- what comes of a call that does a deed, in so many lines at most for what it works, with the call
  abbrev pub Comes : {A : Type 0} → (low top : ℕ) → Hand → z.Blocks → (Gives : A → z.Blocks → (word : ℕ) → Type 0) → At_line → (to : ℕ)
      → List WordInstr → (most : (work : ℕ) → ℕ) → Done A → Type 0
  Comes low top h d Gives s to rest most (Answers es n x w) = (es ≡ []) × IsBack low top h d (Gives x) s to rest w (most n)
  Comes low top h d Gives s to rest most (Finishes es n status w) = (status ≡ 1) × IsOver s es status (most n)
  Comes low top h d Gives s to rest most (Fails es n w) = Unit {0}

  abbrev pub AnyWord : Unit {0} → z.Blocks → (word : ℕ) → Type 0
  AnyWord u d word = Unit {0}

  -- a call with these words where memory belongs to a world
  pub record IsCalled (number : ℕ) (words : List ℕ) (low top : ℕ) (h : Hand) (d : z.Blocks) (w : World) (s : At_line) (to : ℕ)
      (rest : List WordInstr) : Type 0 where
    pub calling : IsCalling number words to rest s.1
    pub top_is : EndsAt s top
    pub here : z.Here low top h d w s.1.memory

  -- ---- routines

  -- a handle's block is given back
  abbrev pub Releases : Type 0
  Releases = (low top : ℕ) (h : Hand) (d : z.Blocks) (w : World) (s : At_line) (to : ℕ) (rest : List WordInstr) (v : Value) (ty n p : ℕ)
      → IsCalled RELEASE (p ∷ []) low top h d w s to rest → IsFull v → is_handle v ≡ true → z.IsHandle true d ty v n p
      → Comes low top h d AnyWord s to rest (λ n. release_most) (perform (frees (block_of v)) w)

  -- a sequence gets a block
  abbrev pub Takes : Type 0
  Takes = (low top : ℕ) (h : Hand) (d : z.Blocks) (w : World) (s : At_line) (to : ℕ) (rest : List WordInstr) (l : Location) (a ty n of : ℕ)
      → IsCalled SEQ_NEW (a ∷ n ∷ bytes_at table of % 2 ^ 32 ∷ []) low top h d w s to rest → z.Leads true h d l a ty
      → slice_get table ty ≡ Some (D.Seq of) → n < 2 ^ 32
      → Comes low top h d (λ v e word. IsFull v × z.IsHandle true e ty v n (word % 2 ^ 32)) s to rest (λ n. take_most + 4 * n)
      (perform (taken_for (element_of (form_in (known_in table) ty)) n l) w)

  -- a text is copied
  abbrev pub CopiesText : Type 0
  CopiesText = (low top : ℕ) (h : Hand) (d : z.Blocks) (w : World) (s : At_line) (to : ℕ) (rest : List WordInstr) (l from : Location) (a b ty : ℕ)
      → IsCalled TEXT_COPY (a ∷ b ∷ []) low top h d w s to rest → z.Leads true h d l a ty → z.Leads false h d from b ty → slice_get table ty ≡ Some D.Text
      → Comes low top h d AnyWord s to rest (λ n. copy_pace * n) (perform (hook_deed (known_in table) Copies ty l from) w)

  -- what has no hooks is copied
  abbrev pub IsMade : Hook → Type 0
  IsMade Ends = ⊥
  IsMade hook = Unit {0}

  abbrev pub CopiesBits : Type 0
  CopiesBits = (low top : ℕ) (h : Hand) (d : z.Blocks) (w : World) (s : At_line) (to : ℕ) (rest : List WordInstr) (l from : Location) (a b ty : ℕ)
      → IsCalled COPY (a ∷ b ∷ bytes_at table ty % 2 ^ 32 ∷ []) low top h d w s to rest → z.Leads true h d l a ty → z.Leads false h d from b ty
      → has_hooks table ty ≡ false → (hook : Hook) → IsMade hook
      → Comes low top h d AnyWord s to rest (λ n. bits_pace * n) (perform (hook_deed (known_in table) hook ty l from) w)

  -- by a load and a store, where it is a word
  pub record IsMoved (low top : ℕ) (h : Hand) (d : z.Blocks) (m : Memory) (a b : ℕ) (w : World) : Type 0 where
    pub word : ℕ
    pub reads : number_at m b Word ≡ Ok word
    pub may : may_put m a Word ≡ true
    pub after : z.Blocks
    pub ahead : z.Later d after
    pub here : z.Here low top h after w (with_number m a Word (word % 2 ^ 32))

  abbrev pub Moves : (low top : ℕ) → Hand → z.Blocks → Memory → (a b : ℕ) → Done (Unit {0}) → Type 0
  Moves low top h d m a b (Answers es n u w) = (es ≡ []) × IsMoved low top h d m a b w
  Moves low top h d m a b (Finishes es n status w) = ⊥
  Moves low top h d m a b (Fails es n w) = Unit {0}

  abbrev pub MovesWord : Type 0
  MovesWord = (low top : ℕ) (h : Hand) (d : z.Blocks) (w : World) (m : Memory) (l from : Location) (a b ty : ℕ) → z.Here low top h d w m
      → z.Leads true h d l a ty → z.Leads false h d from b ty → has_hooks table ty ≡ false → bytes_at table ty ≡ WORD_BYTES → (hook : Hook) → IsMade hook
      → Moves low top h d m a b (perform (hook_deed (known_in table) hook ty l from) w)

  -- what a sequence's block holds behind so many elements is nothing any more
  abbrev pub Stays : (low top : ℕ) → Hand → z.Blocks → Memory → Done (Unit {0}) → Type 0
  Stays low top h d m (Answers es n u w) = (es ≡ []) × ((e : z.Blocks) × z.Later d e × z.Here low top h e w m)
  Stays low top h d m (Finishes es n status w) = ⊥
  Stays low top h d m (Fails es n w) = Unit {0}

  abbrev pub Forgets : Type 0
  Forgets = (low top : ℕ) (h : Hand) (d : z.Blocks) (w : World) (m : Memory) (v : Value) (ty of n p k : ℕ) → z.Here low top h d w m
      → slice_get table ty ≡ Some (D.Seq of) → IsFull v → z.IsHandle true d ty v n p →
      Stays low top h d m (perform (looks (λ world. refills (block_of v) (Elements (first_of k (elements_of world v))))) w)

  pub record Routines : Type 0 where
    pub forgets : Forgets
    pub releases : Releases
    pub takes : Takes
    pub copies_text : CopiesText
    pub copies_bits : CopiesBits
    pub moves_word : MovesWord

  -- ---- hooks

  -- A hook of a type, whose calls stand in chains of so many, does what its walk does, in so many lines for each of its works.
  abbrev pub IsKept : (first chain pace : ℕ) → Hook → (ty : ℕ) → Type 0
  IsKept first chain pace hook ty =
      (low top : ℕ) (h : Hand) (d : z.Blocks) (w : World) (s : At_line) (to : ℕ) (rest : List WordInstr) (l from : Location) (a b : ℕ)
      → IsCalled (hook_number first hook ty) (a ∷ b ∷ []) low top h d w s to rest → z.Leads true h d l a ty → z.Leads (from_own hook) h d from b ty
      → top + LIST_BYTES * chain ≤ z.limit
      → Comes low top h d AnyWord s to rest (λ n. 1 + pace * n) (perform (hook_deed (known_in table) hook ty l from) w)

  -- What makes a sequence of such elements shorter does what the meaning does.
  abbrev pub IsCut : (first chain pace : ℕ) → (ty of : ℕ) → Type 0
  IsCut first chain pace ty of =
      (low top : ℕ) (h : Hand) (d : z.Blocks) (w : World) (s : At_line) (to : ℕ) (rest : List WordInstr) (l : Location) (a n : ℕ)
      → IsCalled (cut_number first ty) (a ∷ n ∷ []) low top h d w s to rest → z.Leads true h d l a ty → n < 2 ^ 32
      → nat_le n (length_of (load w l)) ≡ true → top + LIST_BYTES * chain ≤ z.limit
      → Comes low top h d AnyWord s to rest (λ n. 15 + pace * n) (perform (sees l (λ world v. cut (form_in (known_in table) of) n l v)) w)
