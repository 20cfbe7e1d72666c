-- What may be read and written in word code's memory may be in the machine's, which has frames behind the places.
use Rattle.std.proofs.Common.{◌≡◌, ℕ, ◌+◌, ◌-◌, ◌%◌, ◌≤◌, List, [], ◌++◌, length, take, drop, Bool, true, false}
use Rattle.std.proofs.Common.{Option, Some, None, Ok, Err}
use Rattle.std.proofs.Common.{refl, sym, ap, subst, ◌∙◌, arith, append_assoc, length-append, inl, inr, length-drop}
use Rattle.std.specs.Prelude.{nat_le, ◌==◌, ◌||◌, if◌then◌else◌}
use Rattle.std.proofs.lemmas.Bool.{le-leb, leb-true, eq-eqb, eqb-true, and_from, and_parts, cases_Bool, cond-true, cond-false, cond_both, true≢false}
use Rattle.std.proofs.lemmas.List.{drop-append-le, take-append-le}
use Rattle.rv32_isa.specs.declared.machine.FaultKind.{FaultKind}
use Rattle.rv32_isa.specs.declared.machine.FaultKind.TheVariants.{Misaligned}
use Rattle.rv32_isa.specs.declared.micro_op.Size.{Size}
use Rattle.rv32_isa.specs.declared.micro_op.Size.TheVariants.{Byte, Half, Word}
use Rattle.rv32_isa.specs.Words.{word_bytes}
use Rattle.rv32_isa.specs.Hooks.{code_at}
use Rattle.rv32_isa.specs.Image.{statics_at, heap_at, stack_at}
use Rattle.rv32_isa.specs.State.{State, lies_in, part, part_of, or_else, readable, writable, put_bytes, filled}
use Rattle.rv32_isa.specs.Steps.{size_of, number_of, found, low_bytes}
use Rattle.rv32_logic.proofs.ForCallers.{put_bytes_long}
use Rattle.word_code.specs.Memory.{Memory, as_state, memory_of}
use Rattle.rv32_codegen.proofs.Machine.{state_of, Fits}

-- ---- one region

record Inside (base : ℕ) (region : List ℕ) (at n : ℕ) : Type 0 where
  low : base ≤ at
  high : at + n ≤ base + length region

inside : (base : ℕ) (region : List ℕ) (at n : ℕ) → lies_in base region at n ≡ true → Inside base region at n
inside base region at n h = let p = and_parts (nat_le base at) _ h in record {
  low = leb-true base at p.0;
  high = leb-true (at + n) (base + length region) p.1;
}

lies : (base : ℕ) (region : List ℕ) (at n : ℕ) → base ≤ at → at + n ≤ base + length region → lies_in base region at n ≡ true
lies base region at n low high = and_from _ _ (le-leb base at low) (le-leb (at + n) (base + length region) high)

lies_wider : (base : ℕ) (region more : List ℕ) (at n : ℕ) → lies_in base region at n ≡ true → lies_in base (region ++ more) at n ≡ true
lies_wider base region more at n h =
    let p = inside base region at n h in
    lies base (region ++ more) at n p.low (omega (arith, p.high, length-append region more))

lies_less : (base : ℕ) (region : List ℕ) (at n k : ℕ) → k ≤ n → lies_in base region at n ≡ true → lies_in base region at k ≡ true
lies_less base region at n k le h = let p = inside base region at n h in lies base region at k p.low (omega (arith, p.high, le))

part_wider : (base : ℕ) (region more : List ℕ) (at n : ℕ) → lies_in base region at n ≡ true →
    part base (region ++ more) at n ≡ part base region at n
part_wider base region more at n h =
    let p = inside base region at n h in
    let low = p.low in
    let high = p.high in
    ap (take n) (drop-append-le (at - base) region more (omega (arith, low, high)))
    ∙ take-append-le n (drop (at - base) region) more (omega (arith, low, high, length-drop (at - base) region))

part_of_wider : (base : ℕ) (region more : List ℕ) (at n : ℕ) (bytes : List ℕ) → part_of base region at n ≡ Some bytes →
    part_of base (region ++ more) at n ≡ Some bytes
part_of_wider base region more at n bytes e = elim (cases_Bool (lies_in base region at n)) [
  | inl h ↦
      cond-true _ (Some (part base (region ++ more) at n)) None (lies_wider base region more at n h)
      ∙ ap Some (part_wider base region more at n h)
      ∙ sym (cond-true _ (Some (part base region at n)) None h) ∙ e
  | inr h ↦ absurd (no_none (sym (cond-false _ (Some (part base region at n)) None h) ∙ e))
]
  where
    no_none : None ≡ Some bytes → ⊥
    no_none x = cc

put_wider : (region more bytes : List ℕ) (i : ℕ) → i + length bytes ≤ length region →
    put_bytes (region ++ more) i bytes ≡ put_bytes region i bytes ++ more
put_wider region more bytes i h =
    let tail = drop (i + length bytes) region in
    ap (λ l. l ++ (bytes ++ drop (i + length bytes) (region ++ more))) (take-append-le i region more (omega (arith, h)))
    ∙ ap (λ l. take i region ++ (bytes ++ l)) (drop-append-le (i + length bytes) region more h)
    ∙ sym (append_assoc (take i region) (bytes ++ tail) more ∙ ap (λ l. take i region ++ l) (append_assoc bytes tail more))

-- ---- all of them

or_last : (a b c d e : Option (List ℕ)) (bytes : List ℕ) → ((x : List ℕ) → d ≡ Some x → e ≡ Some x) →
    or_else a (or_else b (or_else c d)) ≡ Some bytes → or_else a (or_else b (or_else c e)) ≡ Some bytes
or_last None None None d e bytes f h = f bytes h
or_last None None (Some x) d e bytes f h = h
or_last None (Some x) c d e bytes f h = h
or_last (Some x) b c d e bytes f h = h

or_four : (a b c d a' b' c' d' : Bool) → (a ≡ true → a' ≡ true) → (b ≡ true → b' ≡ true) → (c ≡ true → c' ≡ true) →
    (d ≡ true → d' ≡ true) →
    (a || (b || (c || d))) ≡ true → (a' || (b' || (c' || d'))) ≡ true
or_four true b c d a' b' c' d' f g h k e = ap (λ x. x || (b' || (c' || d'))) (f refl)
or_four false true c d true b' c' d' f g h k e = refl
or_four false true c d false b' c' d' f g h k e = ap (λ x. x || (c' || d')) (g refl)
or_four false false true d true b' c' d' f g h k e = refl
or_four false false true d false true c' d' f g h k e = refl
or_four false false true d false false c' d' f g h k e = ap (λ x. x || d') (h refl)
or_four false false false d true b' c' d' f g h k e = refl
or_four false false false d false true c' d' f g h k e = refl
or_four false false false d false false true d' f g h k e = refl
or_four false false false d false false false d' f g h k e = k e

-- less of a range may be written too
pub may_less : (s : State) (at n k : ℕ) → k ≤ n → writable s at n ≡ true → writable s at k ≡ true
may_less s at n k le h =
    or_four (n == 0) _ _ _ (k == 0) _ _ _
    (λ e. let none = eqb-true n 0 e in eq-eqb k 0 (omega (arith, le, none)))
    (lies_less statics_at s.statics at n k le)
    (lies_less heap_at s.heap at n k le)
    (lies_less stack_at s.stack at n k le) h

-- the sizes of what is written
record KeepsLong (s t : State) : Type 0 where
  statics : length t.statics ≡ length s.statics
  heap : length t.heap ≡ length s.heap
  stack : length t.stack ≡ length s.stack

last_true : (a b c d : Bool) → (a || (b || (c || d))) ≡ true → a ≡ false → b ≡ false → c ≡ false → d ≡ true
last_true true b c d h p q r = absurd (true≢false p)
last_true false true c d h p q r = absurd (true≢false q)
last_true false false true d h p q r = absurd (true≢false r)
last_true false false false d h p q r = h

put_long : (base : ℕ) (region bytes : List ℕ) (at : ℕ) → lies_in base region at (length bytes) ≡ true →
    length (put_bytes region (at - base) bytes) ≡ length region
put_long base region bytes at h =
    let p = inside base region at (length bytes) h in
    let low = p.low in
    let high = p.high in
    put_bytes_long region bytes (at - base) (omega (arith, low, high))

filled_long : (s : State) (at : ℕ) (bytes : List ℕ) → writable s at (length bytes) ≡ true → KeepsLong s (filled s at bytes)
filled_long s at bytes may =
    let n = length bytes in
    let in_statics = lies_in statics_at s.statics at n in
    let in_heap = lies_in heap_at s.heap at n in
    cond_both (n == 0) s _ (KeepsLong s) (λ e. record { statics = refl; heap = refl; stack = refl })
    (λ e. cond_both in_statics _ _ (KeepsLong s) (λ f. record { statics = put_long statics_at s.statics bytes at f; heap = refl; stack = refl })
    (λ f. cond_both in_heap _ _ (KeepsLong s) (λ g. record { statics = refl; heap = put_long heap_at s.heap bytes at g; stack = refl })
    (λ g. record {
      statics = refl;
      heap = refl;
      stack = put_long stack_at s.stack bytes at (last_true (n == 0) in_statics in_heap (lies_in stack_at s.stack at n) may e f g);
    })))

module _ (regs : List ℕ) (m : Memory) (ws : List ℕ) where
  pub read_wider : (at n : ℕ) (bytes : List ℕ) → readable (as_state m) at n ≡ Some bytes → readable (state_of regs m ws) at n ≡ Some bytes
  read_wider at n bytes h =
      let parts : State → Option (List ℕ) = λ s. or_else (part_of code_at s.code at n)
      (or_else (part_of statics_at s.statics at n) (or_else (part_of heap_at s.heap at n) (part_of stack_at s.stack at n))) in
      elim (cases_Bool (n == 0)) [
        | inl e ↦ cond-true (n == 0) (Some []) (parts (state_of regs m ws)) e ∙ sym (cond-true (n == 0) (Some []) (parts (as_state m)) e) ∙ h
        | inr e ↦
            cond-false (n == 0) (Some []) (parts (state_of regs m ws)) e
            ∙ or_last (part_of code_at [] at n) (part_of statics_at m.statics at n) (part_of heap_at m.heap at n) (part_of stack_at m.places at n)
            (part_of stack_at (m.places ++ ws) at n) bytes (λ x. part_of_wider stack_at m.places ws at n x)
            (sym (cond-false (n == 0) (Some []) (parts (as_state m)) e) ∙ h)
      ]

  pub may_wider : (at n : ℕ) → writable (as_state m) at n ≡ true → writable (state_of regs m ws) at n ≡ true
  may_wider at n h = or_four (n == 0) _ _ _ (n == 0) _ _ _ (λ e. e) (λ e. e) (λ e. e) (lies_wider stack_at m.places ws at n) h

  -- the machine with this memory
  abbrev wide : State → State
  wide s = state_of regs (memory_of s) ws

  cond_wide : (b : Bool) (x y : State) → wide (if b then x else y) ≡ (if b then wide x else wide y)
  cond_wide true x y = refl
  cond_wide false x y = refl

  cond_last : {A : Type 0} (a b c d : Bool) (x y z v w : A) → (d ≡ true → v ≡ w) → (a || (b || (c || d))) ≡ true →
      (if a then x else if b then y else if c then z else v) ≡ (if a then x else if b then y else if c then z else w)
  cond_last true b c d x y z v w f h = refl
  cond_last false true c d x y z v w f h = refl
  cond_last false false true d x y z v w f h = refl
  cond_last false false false d x y z v w f h = f h

  pub fill_wider : (at : ℕ) (bytes : List ℕ) → writable (as_state m) at (length bytes) ≡ true →
      filled (state_of regs m ws) at bytes ≡ state_of regs (memory_of (filled (as_state m) at bytes)) ws
  fill_wider at bytes h =
      let n = length bytes in
      let s = as_state m in
      let t = state_of regs m ws in
      let in_statics = lies_in statics_at m.statics at n in
      let in_heap = lies_in heap_at m.heap at n in
      let in_stack = lies_in stack_at m.places at n in
      let a = record t { statics = put_bytes m.statics (at - statics_at) bytes } in
      let b = record t { heap = put_bytes m.heap (at - heap_at) bytes } in
      let c = record t { stack = put_bytes (m.places ++ ws) (at - stack_at) bytes } in
      let d = record t { stack = put_bytes m.places (at - stack_at) bytes ++ ws } in
      let put : in_stack ≡ true → c ≡ d = λ e.
      let p = inside stack_at m.places at n e in
      let low = p.low in
      let high = p.high in
      ap (λ l. record t { stack = l }) (put_wider m.places ws bytes (at - stack_at) (omega (arith, low, high))) in
      let x = record s { statics = put_bytes m.statics (at - statics_at) bytes } in
      let y = record s { heap = put_bytes m.heap (at - heap_at) bytes } in
      let z = record s { stack = put_bytes m.places (at - stack_at) bytes } in
      cond_last (n == 0) in_statics in_heap in_stack t a b c d put h
      ∙ sym (cond_wide (n == 0) s (if in_statics then x else if in_heap then y else z)
      ∙ ap (λ u. if n == 0 then t else u) (cond_wide in_statics x (if in_heap then y else z)
      ∙ ap (λ u. if in_statics then a else u) (cond_wide in_heap y z)))

  pub fits_kept : (at : ℕ) (bytes : List ℕ) → writable (as_state m) at (length bytes) ≡ true → Fits m ws →
      Fits (memory_of (filled (as_state m) at bytes)) ws
  fits_kept at bytes h fits =
      let k = filled_long (as_state m) at bytes h in
      let whole = fits.whole in
      record {
        statics_most = omega (arith, k.statics, fits.statics_most);
        heap_most = omega (arith, k.heap, fits.heap_most);
        stack_most = omega (arith, k.stack, fits.stack_most);
        whole = subst (λ n. n % 4 ≡ 0) (sym k.stack) whole;
      }

  pub places_kept : (at : ℕ) (bytes : List ℕ) → writable (as_state m) at (length bytes) ≡ true →
      length (memory_of (filled (as_state m) at bytes)).places ≡ length m.places
  places_kept at bytes h = (filled_long (as_state m) at bytes h).stack

  -- ---- numbers

  err_ok : (kind : FaultKind) (w : ℕ) → Err kind ≡ Ok w → ⊥
  err_ok kind w e = cc

  number_wider : (o : Option (List ℕ)) (at n w : ℕ) → readable (as_state m) at n ≡ o → number_of o ≡ Ok w →
      number_of (readable (state_of regs m ws) at n) ≡ Ok w
  number_wider None at n w e h = absurd (err_ok _ w h)
  number_wider (Some bytes) at n w e h = ap number_of (read_wider at n bytes e) ∙ h

  pub found_wider : (at : ℕ) (size : Size) (w : ℕ) → found (as_state m) at size ≡ Ok w → found (state_of regs m ws) at size ≡ Ok w
  found_wider at size w h =
      let n = size_of size in
      let low = number_of (readable (as_state m) at n) in
      let high = number_of (readable (state_of regs m ws) at n) in
      elim (cases_Bool (at % n == 0)) [
        | inl e ↦ cond-true (at % n == 0) high (Err Misaligned) e
            ∙ number_wider (readable (as_state m) at n) at n w refl (sym (cond-true (at % n == 0) low (Err Misaligned) e) ∙ h)
        | inr e ↦ absurd (err_ok Misaligned w (sym (cond-false (at % n == 0) low (Err Misaligned) e) ∙ h))
      ]

pub length-low_bytes : (size : Size) (value : ℕ) → length (low_bytes size value) ≡ size_of size
unfolding word_bytes
length-low_bytes Byte value = refl
length-low_bytes Half value = refl
length-low_bytes Word value = refl
