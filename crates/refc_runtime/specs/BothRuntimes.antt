-- All routines that a program is joined with: those of the heap, and the others.
use Rattle.std.specs.Prelude.{◌≡◌, ◌≤◌, ◌/◌, ℕ}
use Rattle.word_code.specs.declared.routine.TheConstants.{PROCS_FROM}
use Rattle.word_code.specs.declared.word.WordCode.{WordCode}
use Rattle.word_code.specs.Joined.{AreApart}
use Rattle.word_code.specs.Runtime.{IsRuntime}
use Rattle.word_code.specs.Words.{most_chain}
use Rattle.word_code.specs.Sizes.{AreRanked}
use Rattle.heap_memory.specs.declared.numbers.TheConstants.{HEAP_CHAIN}
use Rattle.heap_memory.specs.HeapRuntime.{IsHeapRuntime}

pub record AreRuntimes (heap others : WordCode) : Type 0 where
  pub is_heap : IsHeapRuntime heap
  pub is_others : IsRuntime others
  -- no number is in both
  pub apart : AreApart heap.procs others.procs
  -- each of both calls only what has a lower rank
  pub rank : ℕ → ℕ
  pub heap_ranked : AreRanked rank heap.procs
  pub others_ranked : AreRanked rank others.procs
  pub chain : (number : ℕ) → rank number ≤ HEAP_CHAIN
  -- they call routines alone
  pub heap_calls : most_chain (λ n. n / PROCS_FROM) heap.procs ≡ 0
  pub others_calls : most_chain (λ n. n / PROCS_FROM) others.procs ≡ 0
