-- The lowest byte of a word in memory: it is all of a word below 256, and another one may be put in its place.
use Rattle.std.proofs.Common.{◌≡◌, inl, inr, ℕ, zero, suc, ◌+◌, ◌%◌, ◌^◌, ◌<◌, ◌≤◌, List, [], ◌∷◌, take, drop, Option, Some, None, Result, Ok, Err}
use Rattle.std.proofs.Common.{true, refl, sym, ap, subst, ◌∙◌, ⊎_elim, arith}
use Rattle.std.specs.Prelude.{◌==◌, ◌&&◌}
use Rattle.std.proofs.lemmas.Bool.{and_from, and_parts, cases_Bool, cases_lt, cond-false, cond-true, eq-eqb}
use Rattle.std.proofs.lemmas.Option.{none-some}
use Rattle.rv32_isa.specs.Hooks.{code_at}
use Rattle.rv32_isa.specs.State.{writable}
use Rattle.rv32_isa.specs.Steps.{number_of}
use Rattle.rv32_isa.specs.Words.{little, word_bytes}
use Rattle.rv32_isa.specs.declared.machine.FaultKind.{FaultKind}
use Rattle.rv32_isa.specs.declared.machine.FaultKind.TheVariants.{Misaligned, OutOfRange}
use Rattle.rv32_isa.specs.declared.micro_op.Size.TheVariants.{Byte, Word}
use Rattle.word_code.specs.Memory.{Memory, as_state, bytes_at, may_put, number_at, with_number}
use Rattle.word_code.specs.RoutineTable.{Beside, IsRewritten}
use Rattle.word_code.proofs.ForCallers.{Changed, MemoryLaw, Sized, store_here, store_rewritten, store_sized}
use Rattle.heap_memory.proofs.ForCallers.{InRegion, byte_before, nothing_below, part_read, part_written, read_in, written_in}
use Rattle.word_lowering.proofs.OpenCells.{cell_by}
use Rattle.word_lowering.proofs.RoutineMemory.{rewritten_changed}

-- ---- numbers of bytes, the lowest first

little_none : (n : ℕ) (bytes : List ℕ) → little bytes ≡ 0 → little (take n bytes) ≡ 0
little_none zero bytes none = refl
little_none (suc n) [] none = refl
little_none (suc n) (b ∷ bytes) none = let h = little_none n bytes (omega (arith, none)) in omega (arith, none, h)

little_front : (bytes : List ℕ) → little bytes < 256 → (little (take 1 bytes) ≡ little bytes) × (little (drop 1 bytes) ≡ 0)
little_front [] small = (refl, refl)
little_front (b ∷ bytes) small = (omega (arith, small), omega (arith, small))

-- a byte at an address is read where its bytes are
pub byte_reads : (m : Memory) (a : ℕ) (bytes : List ℕ) → bytes_at m a 1 ≡ Some bytes → number_at m a Byte ≡ Ok (little bytes)
byte_reads m a bytes is =
    cond-true (a % 1 == 0) (number_of (bytes_at m a 1)) (Err Misaligned) (eq-eqb (a % 1) 0 (omega arith)) ∙ ap number_of is

-- ---- where a word is read

pub record WordBytes (m : Memory) (sized : Sized m) (a w : ℕ) : Type 0 where
  pub bytes : List ℕ
  pub here : bytes_at m a 4 ≡ Some bytes
  pub is : little bytes ≡ w
  pub there : InRegion m sized a 4

pub word_there : (m : Memory) (sized : Sized m) (a w : ℕ) → number_at m a Word ≡ Ok w → WordBytes m sized a w
word_there m sized a w reads = elim (cases_Bool (a % 4 == 0)) [
  | inl even ↦ by (bytes_at m a 4) refl (sym (cond-true (a % 4 == 0) (number_of (bytes_at m a 4)) (Err Misaligned) even) ∙ reads)
  | inr odd ↦ absurd (err_ok Misaligned w (sym (cond-false (a % 4 == 0) (number_of (bytes_at m a 4)) (Err Misaligned) odd) ∙ reads))
]
  where
    err_ok : (kind : FaultKind) (n : ℕ) → Err kind ≡ Ok n → ⊥
    err_ok kind n e = cc

    same_ok : (i j : ℕ) (read : Result ℕ FaultKind) → read ≡ Ok i → read ≡ Ok j → i ≡ j
    same_ok i j read e f = cc

    by : (o : Option (List ℕ)) → bytes_at m a 4 ≡ o → number_of (bytes_at m a 4) ≡ Ok w → WordBytes m sized a w
    by None is number = absurd (err_ok OutOfRange w (sym (ap number_of is) ∙ number))
    by (Some bytes) is number =
        let far : code_at ≤ a
        = ⊎_elim (λ less. absurd (none-some bytes (sym (nothing_below m a 3 less) ∙ is))) (λ h. h) (cases_lt a code_at) in
        record {
          bytes = bytes;
          here = is;
          is = same_ok (little bytes) w (number_of (bytes_at m a 4)) (ap number_of is) number;
          there = read_in m sized a 4 bytes (omega arith) far is;
        }

-- the word is below 256: its first byte says all of it
pub low_byte_read : (m : Memory) → Sized m → (a w : ℕ) → number_at m a Word ≡ Ok w → w < 256 → (number_at m a Byte ≡ Ok w) × (a < 2 ^ 32)
low_byte_read m sized a w reads small =
    let x = word_there m sized a w reads in
    let is = x.is in
    let front = little_front x.bytes (omega (arith, is, small)) in
    let here : a + 0 ≡ a = omega arith in
    let first : bytes_at m a 1 ≡ Some (take 1 x.bytes)
    = subst (λ b. bytes_at m b 1 ≡ Some (take 1 x.bytes)) here (part_read m sized a 4 x.bytes x.there x.here 0 1 (omega arith)) in
    let high = x.there.high in
    let ends = x.there.region.ends in
    (byte_reads m a (take 1 x.bytes) first ∙ ap Ok (front.0 ∙ is), omega (arith, high, ends))

-- ---- a byte is put

-- memory where one byte is another, and all else as it was
pub record BytePut (m other : Memory) (a c : ℕ) : Type 0 where
  pub sized : Sized other
  pub rewritten : IsRewritten m other a 1
  pub here : bytes_at other a 1 ≡ Some (c ∷ [])
  pub small : c < 256

pub put_reads : (m other : Memory) (a c : ℕ) → BytePut m other a c → number_at other a Byte ≡ Ok c
put_reads m other a c p = byte_reads other a (c ∷ []) p.here ∙ ap Ok (omega arith)

pub byte_put : (law : MemoryLaw) (m : Memory) (a w : ℕ) → Sized m → may_put m a Byte ≡ true → BytePut m (with_number m a Byte w) a (w % 256)
unfolding word_bytes
byte_put law m a w sized may = record {
  sized = store_sized law m a Byte w sized may;
  rewritten = store_rewritten law m a Byte w sized may;
  here = store_here law m a Byte w sized may;
  small = omega arith;
}

-- a byte of a word that may be put may be
pub byte_may : (m : Memory) → Sized m → (a : ℕ) → may_put m a Word ≡ true → may_put m a Byte ≡ true
byte_may m sized a may =
    let there = written_in m sized a 4 (omega arith) (and_parts (a % 4 == 0) (writable (as_state m) a 4) may).1 in
    let here : a + 0 ≡ a = omega arith in
    and_from (a % 1 == 0) (writable (as_state m) a 1) (eq-eqb (a % 1) 0 (omega arith))
    (subst (λ b. writable (as_state m) b 1 ≡ true) here (part_written m sized a 4 there 0 1 (omega arith)))

-- ---- in a word

module _ (law : MemoryLaw) (m other : Memory) (a c : ℕ) (sized : Sized m) (whole : a % 4 ≡ 0) (may : may_put m a Word ≡ true) (p : BytePut m other a c) where
  may_still : may_put other a Word ≡ true
  may_still = ap (λ x. (a % 4 == 0) && x) (law.stores (as_state m) (as_state other) a 4 p.rewritten.sizes) ∙ may

  word_rewritten : IsRewritten m other a 4
  word_rewritten = record { sizes = p.rewritten.sizes; beside = λ b n apart. p.rewritten.beside b n (narrow b n apart) }
    where
      narrow : (b n : ℕ) → Beside b n a 4 → Beside b n a 1
      narrow b n (inl h) = inl h
      narrow b n (inr h) = inr (omega (arith, h))

  -- the word changes, and no other one
  pub word_changed : Changed m other a 4
  word_changed = rewritten_changed law m other a 4 sized whole (omega arith) word_rewritten (λ o within is. reads o within)
    where
      word_at : (b d : ℕ) → b ≡ d → number_at other b Word ≡ number_at other d Word
      word_at b d e = ap (λ q. number_at other q Word) e

      reads : (o : ℕ) → o + 4 ≤ 4 → (w : ℕ) × (number_at other (a + o) Word ≡ Ok w)
      reads o within =
          let cell = cell_by other p.sized a may_still in
          let none : o ≡ 0 = omega (arith, within) in
          (cell.word, word_at (a + o) a (omega (arith, none)) ∙ cell.reads)

  -- where it was below 256 it is that byte now
  pub word_now : (w : ℕ) → number_at m a Word ≡ Ok w → w < 256 → number_at other a Word ≡ Ok c
  word_now w was small =
      let x = word_there m sized a w was in
      let is = x.is in
      let front = little_front x.bytes (omega (arith, is, small)) in
      let none = little_none 3 (drop 1 x.bytes) front.1 in
      let behind : bytes_at other (a + 1) 3 ≡ Some (take 3 (drop 1 x.bytes))
      = p.rewritten.beside (a + 1) 3 (inr (omega arith)) ∙ part_read m sized a 4 x.bytes x.there x.here 1 3 (omega arith) in
      let parts = and_parts (a % 4 == 0) (writable (as_state other) a 4) may_still in
      let all : bytes_at other a 4 ≡ Some (c ∷ take 3 (drop 1 x.bytes))
      = byte_before other p.sized a 3 c (take 3 (drop 1 x.bytes)) (written_in other p.sized a 4 (omega arith) parts.1) p.here behind in
      cond-true (a % 4 == 0) (number_of (bytes_at other a 4)) (Err Misaligned) parts.0 ∙ ap number_of all ∙ ap Ok (omega (arith, none))
