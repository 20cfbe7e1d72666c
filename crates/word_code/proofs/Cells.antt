-- Numbers in the memory of word code: what was put is read back, and all else is as before.
use Rattle.std.proofs.Common.{◌≡◌, ℕ, ◌+◌, ◌%◌, ◌^◌, ◌<◌, ◌≤◌, ◌⊎◌, List, [], length, Some, Ok, Err, true, refl, sym, ap}
use Rattle.std.proofs.Common.{subst, ◌∙◌, arith}
use Rattle.std.specs.Prelude.{◌==◌, ◌&&◌, if◌then◌else◌}
use Rattle.std.proofs.lemmas.Bool.{and_parts, cond-true}
use Rattle.rv32_isa.specs.declared.micro_op.Size.{Size}
use Rattle.rv32_isa.specs.declared.micro_op.Size.TheVariants.{Byte, Half, Word}
use Rattle.rv32_isa.specs.declared.machine.FaultKind.TheVariants.{Misaligned}
use Rattle.rv32_isa.specs.Words.{little, word_bytes}
use Rattle.rv32_isa.specs.State.{State, readable, writable, filled}
use Rattle.rv32_isa.specs.Steps.{size_of, number_of, low_bytes}
use Rattle.rv32_isa.specs.Regions.{AreBytes, HasRegions, KeepsSizes}
use Rattle.word_code.specs.Memory.{KeepsShape, Memory, as_state, memory_of, number_at, may_put, with_number, bytes_at}
use Rattle.word_code.specs.RoutineTable.{Beside, IsRewritten}

-- what the law of the machine's memory says
pub record MemoryLaw : Type 0 where
  pub sizes : (s : State) (at : ℕ) (bytes : List ℕ) → AreBytes bytes → writable s at (length bytes) ≡ true → KeepsShape s (filled s at bytes)
  pub regions : (s t : State) → HasRegions s → KeepsShape s t → HasRegions t
  pub stores : (s t : State) (at n : ℕ) → KeepsShape s t → writable t at n ≡ writable s at n
  pub here : (s : State) (at : ℕ) (bytes : List ℕ) → HasRegions s → writable s at (length bytes) ≡ true
      → readable (filled s at bytes) at (length bytes) ≡ Some bytes
  pub elsewhere : (s : State) (at : ℕ) (bytes : List ℕ) (other n : ℕ) → writable s at (length bytes) ≡ true
      → (other + n ≤ at) ⊎ (at + length bytes ≤ other) → readable (filled s at bytes) other n ≡ readable s other n

-- by what the machine's law says of sizes
pub law_by : ((s : State) (at : ℕ) (bytes : List ℕ) → writable s at (length bytes) ≡ true → KeepsSizes s (filled s at bytes))
    → ((s : State) (at : ℕ) (bytes : List ℕ) → AreBytes bytes → AreBytes s.heap → AreBytes (filled s at bytes).heap)
    → ((s t : State) → HasRegions s → KeepsSizes s t → HasRegions t) → ((s t : State) (at n : ℕ) → KeepsSizes s t → writable t at n ≡ writable s at n)
    → ((s : State) (at : ℕ) (bytes : List ℕ) → HasRegions s → writable s at (length bytes) ≡ true
    → readable (filled s at bytes) at (length bytes) ≡ Some bytes)
    → ((s : State) (at : ℕ) (bytes : List ℕ) (other n : ℕ) → writable s at (length bytes) ≡ true
    → (other + n ≤ at) ⊎ (at + length bytes ≤ other) → readable (filled s at bytes) other n ≡ readable s other n)
    → MemoryLaw
law_by sizes bytes regions stores here elsewhere = record {
  sizes = λ s at put are may. let k = sizes s at put may in record {
    regs = k.regs;
    pc = k.pc;
    code = k.code;
    statics = k.statics;
    heap = k.heap;
    stack = k.stack;
    bytes = bytes s at put are;
  };
  regions = λ s t h k. regions s t h (sizes_in s t k);
  stores = λ s t at n k. stores s t at n (sizes_in s t k);
  here = here;
  elsewhere = elsewhere;
}
  where
    sizes_in : (s t : State) → KeepsShape s t → KeepsSizes s t
    sizes_in s t k = record { regs = k.regs; pc = k.pc; code = k.code; statics = k.statics; heap = k.heap; stack = k.stack }

-- memory whose regions are as large as the machine's
abbrev pub Sized : Memory → Type 0
Sized m = HasRegions (as_state m)

-- a state without registers and code is its memory
state_with : State → List ℕ → ℕ → List ℕ → State
state_with t regs pc code = record { regs = regs; pc = pc; code = code; statics = t.statics; heap = t.heap; stack = t.stack }

same_state : (t : State) → t.regs ≡ [] → t.pc ≡ 0 → t.code ≡ [] → as_state (memory_of t) ≡ t
unfolding state_with
same_state t r p c =
    ap (λ x. state_with t x 0 []) (sym r) ∙ ap (λ x. state_with t t.regs x []) (sym p) ∙ ap (λ x. state_with t t.regs t.pc x) (sym c)

length-low : (size : Size) (w : ℕ) → length (low_bytes size w) ≡ size_of size
unfolding word_bytes
length-low Byte w = refl
length-low Half w = refl
length-low Word w = refl

little-low : (w : ℕ) → w < 2 ^ 32 → little (low_bytes Word w) ≡ w
unfolding word_bytes
little-low w h = omega arith

low_are : (size : Size) (w : ℕ) → AreBytes (low_bytes size w)
unfolding word_bytes
low_are Byte w = (omega arith, tt)
low_are Half w = (omega arith, (omega arith, tt))
low_are Word w = (omega arith, (omega arith, (omega arith, (omega arith, tt))))

-- ---- sizes that stay

pub sizes_same : (m : Memory) → KeepsShape (as_state m) (as_state m)
sizes_same m = record { regs = refl; pc = refl; code = refl; statics = refl; heap = refl; stack = refl; bytes = λ old. old }

pub sizes_more : (m middle other : Memory) → KeepsShape (as_state m) (as_state middle) → KeepsShape (as_state middle) (as_state other)
    → KeepsShape (as_state m) (as_state other)
sizes_more m middle other x y = record {
  regs = refl;
  pc = refl;
  code = refl;
  statics = y.statics ∙ x.statics;
  heap = y.heap ∙ x.heap;
  stack = y.stack ∙ x.stack;
  bytes = λ old. y.bytes (x.bytes old);
}

-- ---- a number is put

module _ (law : MemoryLaw) (m : Memory) (a : ℕ) (size : Size) (w : ℕ) (sized : Sized m) (may : may_put m a size ≡ true) where
  open_range : writable (as_state m) a (length (low_bytes size w)) ≡ true
  open_range = ap (λ n. writable (as_state m) a n) (length-low size w) ∙ (and_parts _ _ may).1

  kept : KeepsShape (as_state m) (filled (as_state m) a (low_bytes size w))
  kept = law.sizes (as_state m) a (low_bytes size w) (low_are size w) open_range

  -- the memory behind the store, as a state
  put_state : as_state (with_number m a size w) ≡ filled (as_state m) a (low_bytes size w)
  put_state = same_state _ kept.regs kept.pc kept.code

  put_reads : (b n : ℕ) → Beside b n a (size_of size) → bytes_at (with_number m a size w) b n ≡ bytes_at m b n
  put_reads b n apart =
      ap (λ s. readable s b n) put_state
      ∙ law.elsewhere (as_state m) a (low_bytes size w) b n open_range (subst (λ k. Beside b n a k) (sym (length-low size w)) apart)

  pub store_rewritten : IsRewritten m (with_number m a size w) a (size_of size)
  store_rewritten = record { sizes = subst (KeepsShape (as_state m)) (sym put_state) kept; beside = put_reads }

  pub store_sized : Sized (with_number m a size w)
  store_sized = subst HasRegions (sym put_state) (law.regions _ _ sized kept)

  -- the same ranges may be stored to
  pub store_writes : (b n : ℕ) → writable (as_state (with_number m a size w)) b n ≡ writable (as_state m) b n
  store_writes b n = ap (λ s. writable s b n) put_state ∙ law.stores _ _ b n kept

  -- its bytes are there
  pub store_here : bytes_at (with_number m a size w) a (size_of size) ≡ Some (low_bytes size w)
  store_here =
      ap (λ s. readable s a (size_of size)) put_state
      ∙ ap (λ n. readable (filled (as_state m) a (low_bytes size w)) a n) (sym (length-low size w))
      ∙ law.here (as_state m) a (low_bytes size w) sized open_range

-- ---- a word is put

module _ (law : MemoryLaw) (m : Memory) (a w : ℕ) (sized : Sized m) (may : may_put m a Word ≡ true) where
  pub put_sized : Sized (with_number m a Word w)
  put_sized = store_sized law m a Word w sized may

  pub put_rewritten : IsRewritten m (with_number m a Word w) a 4
  put_rewritten = store_rewritten law m a Word w sized may

  -- the same words may be put
  pub put_may : (b : ℕ) → may_put (with_number m a Word w) b Word ≡ may_put m b Word
  put_may b = ap (λ x. (b % 4 == 0) && x) (store_writes law m a Word w sized may b 4)

  pub put_here : w < 2 ^ 32 → number_at (with_number m a Word w) a Word ≡ Ok w
  put_here small =
      cond-true (a % 4 == 0) _ (Err Misaligned) (and_parts _ _ may).0
      ∙ ap number_of (store_here law m a Word w sized may)
      ∙ ap Ok (little-low w small)

  -- a word that doesn't overlap it
  pub put_elsewhere : (b : ℕ) → (b + 4 ≤ a) ⊎ (a + 4 ≤ b) → number_at (with_number m a Word w) b Word ≡ number_at m b Word
  put_elsewhere b apart = ap (λ o. if b % 4 == 0 then number_of o else Err Misaligned) (put_rewritten.beside b 4 apart)
