-- What the routines of the heap promise, as word code in front of a program's.
use Rattle.std.specs.Prelude.{◌≡◌, ◌≤◌, ℕ, true, List, length}
use Rattle.rv32_isa.specs.Machine.{Lives}
use Rattle.rv32_isa.specs.Regions.{HasRegions, as_bytes}
use Rattle.nim_meaning.specs.Heap.{heap_of}
use Rattle.word_code.specs.declared.word.WordCode.{WordCode}
use Rattle.word_code.specs.Memory.{as_state, own_data_at}
use Rattle.word_code.specs.Words.{are_procs, start}
use Rattle.word_code.specs.Sizes.{AreRanked, word_weight}
use Rattle.word_code.specs.Joined.{joined}
use Rattle.word_code.specs.Runtime.{AreRoutines}
use Rattle.heap_memory.specs.declared.numbers.TheConstants.{HEAP_WEIGHT, HEAP_DATA, HEAP_CHAIN}
use Rattle.heap_memory.specs.HeapState.{none_stands, IsHeap}
use Rattle.heap_memory.specs.HeapRoutines.{takes, gives_back, finds_class, IsKeptThere}
use Rattle.heap_memory.specs.TextRoutines.{moves_bytes, spells, orders}
use Rattle.heap_memory.specs.GrowRoutine.{grows}
use Rattle.heap_memory.specs.LineRoutine.{reads_line, IsKeptOn}
use Rattle.heap_memory.specs.AppendRoutine.{appends, joins, resizes, releases}
use Rattle.heap_memory.specs.HandleRoutines.{orders_texts, writes_text, copies_text, appends_text, resizes_text, joins_texts, puts_number}
use Rattle.heap_memory.specs.SequenceRoutines.{puts_sequence, adds_element, resizes_sequence, pops_element}
use Rattle.heap_memory.specs.TextReading.{reads_text}
use Rattle.word_code.specs.Routines.{Routine}

-- ---- the routines that there are

pub data HeapRoutineName : Type 0 where
  Takes GivesBack FindsClass MovesBytes Grows Orders Releases Appends Joins Resizes Spells : HeapRoutineName
  OrdersTexts WritesText CopiesText AppendsText ResizesText JoinsTexts PutsNumber PutsSequence AddsElement ResizesSequence PopsElement : HeapRoutineName

-- what each promises, where the heap's words begin at an address
abbrev pub heap_routine : (at : ℕ) → HeapRoutineName → Routine
heap_routine at Takes = takes at
heap_routine at GivesBack = gives_back at
heap_routine at FindsClass = finds_class
heap_routine at MovesBytes = moves_bytes
heap_routine at Grows = grows at
heap_routine at Orders = orders
heap_routine at Releases = releases at
heap_routine at Appends = appends at
heap_routine at Joins = joins at
heap_routine at Resizes = resizes at
heap_routine at Spells = spells
heap_routine at OrdersTexts = orders_texts
heap_routine at WritesText = writes_text
heap_routine at CopiesText = copies_text at
heap_routine at AppendsText = appends_text at
heap_routine at ResizesText = resizes_text at
heap_routine at JoinsTexts = joins_texts at
heap_routine at PutsNumber = puts_number at
heap_routine at PutsSequence = puts_sequence at
heap_routine at AddsElement = adds_element at
heap_routine at ResizesSequence = resizes_sequence at
heap_routine at PopsElement = pops_element

-- ---- what is promised of it

pub record IsHeapRuntime (code : WordCode) : Type 0 where
  pub formed : are_procs code.procs ≡ true
  pub routines : AreRoutines code.procs
  -- each calls only what has a lower rank
  pub rank : ℕ → ℕ
  pub ranked : AreRanked rank code.procs
  pub chain : (number : ℕ) → rank number ≤ HEAP_CHAIN
  -- lines and procedures
  pub weight : word_weight code.procs ≤ HEAP_WEIGHT
  pub long : length code.statics ≡ HEAP_DATA
  -- Its data stands at the front of all. Before the first line no block was taken.
  pub starts : (others : WordCode) (heap stack : ℕ) (input : List ℕ) → HasRegions (as_state (start (joined code others) heap stack input).memory)
      → IsHeap own_data_at (heap_of heap).classes none_stands (start (joined code others) heap stack input).memory
  -- whatever it is joined with, and whichever input is left
  pub kept : (live : Lives) (others : WordCode) (name : HeapRoutineName) → IsKeptThere live (joined code others).procs (heap_routine own_data_at name)
  pub reads : (live : Lives) (others : WordCode) (input : List ℕ) → IsKeptOn live (joined code others).procs input (reads_line own_data_at (as_bytes input))
  pub reads_texts : (live : Lives) (others : WordCode) (input : List ℕ) →
      IsKeptOn live (joined code others).procs input (reads_text own_data_at (as_bytes input))
