-- The routines on handles of sequences. An element has so many bytes, which a call is told.
use Rattle.std.specs.Prelude.{◌≡◌, ◌<◌, ℕ, suc, ◌+◌, ◌-◌, ◌*◌, ◌/◌, ◌^◌, nat_le, [], ◌∷◌, None, Ok, true, if◌then◌else◌}
use Rattle.nim_meaning.specs.OwnedRows.{text_to}
use Rattle.rv32_isa.specs.declared.micro_op.Size.TheVariants.{Word}
use Rattle.word_code.specs.Memory.{Memory, number_at, may_put}
use Rattle.word_code.specs.RoutineTable.{IsRewritten}
use Rattle.word_code.specs.Routines.{Routine}
use Rattle.heap_memory.specs.declared.numbers.TheConstants.{SEQ_NEW, SEQ_ADD, SEQ_RESIZE, SEQ_POP, HANDLE_LINES, SEQUENCE_LINES}
use Rattle.heap_memory.specs.GrowRoutine.{may_grow, Growing, place_of, MayGrow, kept_of, grows}
use Rattle.heap_memory.specs.AppendRoutine.{resizes}
use Rattle.heap_memory.specs.HandleRoutines.{HasHandle, MayHave, Putting, puts}

-- ---- one more element

-- the address of the handle, how many elements there are, and the bytes of one
pub record AddingElement : Type 0 where
  pub to : ℕ
  pub count : ℕ
  pub size : ℕ
  pub growth : Growing

-- the present elements stay; the new one may have any bytes
abbrev pub element_added : AddingElement → Putting
element_added u = record { to = u.to; length = suc u.count; growth = u.growth; bytes = kept_of u.growth.present u.growth.kept }

pub record MayAddElement (at : ℕ) (u : AddingElement) (m : Memory) : Type 0 where
  pub to : HasHandle m u.to u.count (place_of u.growth.present)
  pub has : MayHave m u.to
  pub growth : MayGrow at u.growth m
  pub few : suc u.count < 2 ^ 32
  pub kept : u.growth.kept ≡ u.count * u.size
  pub wanted : u.growth.wanted ≡ suc u.count * u.size

-- It gives the address of the new one.
abbrev pub adds_element : (at : ℕ) → Routine
adds_element at = puts at SEQ_ADD AddingElement (λ u. u.to ∷ u.size ∷ []) (λ u m. MayAddElement at u m) element_added (λ u place. place + u.growth.kept)
    (λ u. HANDLE_LINES + (grows at).lines u.growth)

-- ---- another length, and a new sequence

-- how many elements there are, and are to be
pub record ResizingSequence : Type 0 where
  pub to : ℕ
  pub count : ℕ
  pub size : ℕ
  pub length : ℕ
  pub growth : Growing

-- The most bytes that a payload has. For more, one more is asked for, which no block has.
abbrev pub most_payload : ℕ
most_payload = 16777208

abbrev pub bytes_for : (length size : ℕ) → ℕ
bytes_for n size = if nat_le n (most_payload / size) then n * size else suc most_payload

-- the bytes of elements that come are 0
abbrev pub sequence_resized : ResizingSequence → Putting
sequence_resized u =
    record { to = u.to; length = u.length; growth = u.growth; bytes = text_to u.growth.wanted (kept_of u.growth.present u.growth.kept) }

pub record MayResizeSequence (at : ℕ) (u : ResizingSequence) (m : Memory) : Type 0 where
  pub to : HasHandle m u.to u.count (place_of u.growth.present)
  pub has : MayHave m u.to
  pub growth : MayGrow at u.growth m
  pub some : 0 < u.size
  pub few : u.length < 2 ^ 32
  pub kept : u.growth.kept ≡ u.count * u.size
  pub wanted : u.growth.wanted ≡ bytes_for u.length u.size

abbrev pub resizes_sequence : (at : ℕ) → Routine
resizes_sequence at = puts at SEQ_RESIZE ResizingSequence (λ u. u.to ∷ u.length ∷ u.size ∷ []) (λ u m. MayResizeSequence at u m) sequence_resized
    (λ u place. place) (λ u. SEQUENCE_LINES + (resizes at).lines u.growth)

-- Whatever stands there, it is no sequence that counts. The place of the handle is asked for where a block can be had.
pub record MayPutSequence (at : ℕ) (u : ResizingSequence) (m : Memory) : Type 0 where
  pub none : u.growth.present ≡ None
  pub has : may_grow u.growth ≡ true → MayHave m u.to
  pub growth : MayGrow at u.growth m
  pub some : 0 < u.size
  pub few : u.length < 2 ^ 32
  pub wanted : u.growth.wanted ≡ bytes_for u.length u.size

abbrev pub puts_sequence : (at : ℕ) → Routine
puts_sequence at = puts at SEQ_NEW ResizingSequence (λ u. u.to ∷ u.length ∷ u.size ∷ []) (λ u m. MayPutSequence at u m) sequence_resized (λ u place. place)
    (λ u. SEQUENCE_LINES + (resizes at).lines u.growth)

-- ---- the last element goes

-- the address of the handle, how many elements are left, the bytes of one, and the place
pub record Popping : Type 0 where
  pub at : ℕ
  pub count : ℕ
  pub size : ℕ
  pub place : ℕ

pub record MayPop (u : Popping) (m : Memory) : Type 0 where
  pub handle : HasHandle m u.at (suc u.count) u.place
  pub has : may_put m u.at Word ≡ true
  pub few : suc u.count < 2 ^ 32
  pub ends : u.place + suc u.count * u.size < 2 ^ 32

pub record IsPopped (u : Popping) (m other : Memory) : Type 0 where
  pub rewritten : IsRewritten m other u.at 4
  pub long : number_at other u.at Word ≡ Ok u.count

-- It gives the address of the one that went, whose bytes stay.
abbrev pub pops_element : Routine
pops_element = record {
  number = SEQ_POP;
  Use = Popping;
  takes = λ u. u.at ∷ u.size ∷ [];
  may = λ u m. MayPop u m;
  shows = λ u. [];
  ends = λ u. None;
  leaves = λ u m other. IsPopped u m other;
  reads = λ u input. input;
  gives = λ u other word. word ≡ u.place + u.count * u.size;
  lines = λ u. HANDLE_LINES;
}
