-- Ranges of memory lie in one region each, and what lies within a range is read and written with it.
use Rattle.std.proofs.Common.{◌≡◌, ℕ, zero, suc, ◌+◌, ◌-◌, ◌*◌, ◌%◌, ◌^◌, ◌<◌, ◌≤◌, List, [], ◌∷◌, ◌++◌, length, take, drop, Option, Some, None}
use Rattle.std.proofs.Common.{inl, inr, Bool, true, false, refl, sym, ap, ap₂, ◌∙◌, arith}
use Rattle.std.specs.Prelude.{◌==◌, ◌||◌, nat_le}
use Rattle.std.proofs.lemmas.Bool.{and_parts, and_from, leb-true, le-leb, ne_eqb, or_left, or_right, cases_Bool, cond-true, cond-false}
use Rattle.std.proofs.lemmas.Bool.{false_from_ne_true, true≢false}
use Rattle.std.proofs.lemmas.List.{drop-take, take-take, drop-drop}
use Rattle.std.proofs.lemmas.Option.{none-some, same_Some}
use Rattle.std.proofs.Math.Seq.{take-add}
use Rattle.rv32_isa.specs.Hooks.{code_at}
use Rattle.rv32_isa.specs.Image.{statics_at, heap_at, stack_at}
use Rattle.rv32_isa.specs.State.{lies_in, part_of, or_else, writable}
use Rattle.word_code.specs.Memory.{Memory, as_state, bytes_at, may_fill}
use Rattle.word_code.specs.RoutineTable.{Cell, Area}
use Rattle.word_code.proofs.ForCallers.{Sized}

-- ---- parts of regions

pub part_there : (base : ℕ) (region : List ℕ) (b k : ℕ) → base ≤ b → b + k ≤ base + length region
    → (lies_in base region b k ≡ true) × (part_of base region b k ≡ Some (take k (drop (b - base) region)))
part_there base region b k low high =
    let h : lies_in base region b k ≡ true = and_from (nat_le base b) (nat_le (b + k) (base + length region)) (le-leb base b low)
    (le-leb (b + k) (base + length region) high) in
    (h, cond-true (lies_in base region b k) (Some (take k (drop (b - base) region))) None h)

part_past : (base : ℕ) (region : List ℕ) (b k : ℕ) → base + length region < b + k → part_of base region b k ≡ None
part_past base region b k past =
    cond-false (lies_in base region b k) (Some (take k (drop (b - base) region))) None (false_from_ne_true (lies_in base region b k) (λ e.
    let p = and_parts (nat_le base b) (nat_le (b + k) (base + length region)) e in
    let l : b + k ≤ base + length region = leb-true (b + k) (base + length region) p.1 in
    absurd (omega (arith, l, past))))

pub lies : (base : ℕ) (region : List ℕ) (b k : ℕ) → lies_in base region b k ≡ true → (base ≤ b) × (b + k ≤ base + length region)
lies base region b k e =
    let p = and_parts (nat_le base b) (nat_le (b + k) (base + length region)) e in
    (leb-true base b p.0, leb-true (b + k) (base + length region) p.1)

-- ---- a region of memory: bytes from an address on

pub record Region (m : Memory) : Type 0 where
  pub base : ℕ
  pub bytes : List ℕ
  pub ends : base + length bytes < 2 ^ 32
  pub reads : (b k : ℕ) → base ≤ b → b + k ≤ base + length bytes → bytes_at m b k ≡ Some (take k (drop (b - base) bytes))
  pub writes : (b k : ℕ) → base ≤ b → b + k ≤ base + length bytes → writable (as_state m) b k ≡ true

module _ (m : Memory) (sized : Sized m) where
  -- what is read behind the code, of which there is none
  read_is : (b k : ℕ) → code_at ≤ b → bytes_at m b (suc k)
      ≡ or_else (part_of statics_at m.statics b (suc k)) (or_else (part_of heap_at m.heap b (suc k)) (part_of stack_at m.places b (suc k)))
  read_is b k far =
      let behind : Option (List ℕ)
      = or_else (part_of statics_at m.statics b (suc k)) (or_else (part_of heap_at m.heap b (suc k)) (part_of stack_at m.places b (suc k))) in
      cond-false (suc k == 0) (Some []) _ (ne_eqb (suc k) 0 (λ e. absurd (omega (arith, e))))
      ∙ ap (λ o. or_else o behind) (part_past code_at [] b (suc k) (omega (arith, far)))

  statics : Region m
  statics = record {
    base = statics_at;
    bytes = m.statics;
    ends = let h = sized.statics_most in omega (arith, h);
    reads = reads;
    writes = λ b k low high. or_right (k == 0) (lies_in statics_at m.statics b k || (lies_in heap_at m.heap b k || lies_in stack_at m.places b k))
        (or_left (lies_in statics_at m.statics b k) (lies_in heap_at m.heap b k || lies_in stack_at m.places b k)
        (part_there statics_at m.statics b k low high).0);
  }
    where
      reads : (b k : ℕ) → statics_at ≤ b → b + k ≤ statics_at + length m.statics → bytes_at m b k ≡ Some (take k (drop (b - statics_at) m.statics))
      reads b zero low high = refl
      reads b (suc k) low high =
          read_is b k (omega (arith, low))
          ∙ ap (λ o. or_else o (or_else (part_of heap_at m.heap b (suc k)) (part_of stack_at m.places b (suc k))))
          (part_there statics_at m.statics b (suc k) low high).1

  heap : Region m
  heap = record {
    base = heap_at;
    bytes = m.heap;
    ends = let h = sized.heap_most in omega (arith, h);
    reads = reads;
    writes = λ b k low high. or_right (k == 0) (lies_in statics_at m.statics b k || (lies_in heap_at m.heap b k || lies_in stack_at m.places b k))
        (or_right (lies_in statics_at m.statics b k) (lies_in heap_at m.heap b k || lies_in stack_at m.places b k)
        (or_left (lies_in heap_at m.heap b k) (lies_in stack_at m.places b k) (part_there heap_at m.heap b k low high).0));
  }
    where
      reads : (b k : ℕ) → heap_at ≤ b → b + k ≤ heap_at + length m.heap → bytes_at m b k ≡ Some (take k (drop (b - heap_at) m.heap))
      reads b zero low high = refl
      reads b (suc k) low high =
          let h = sized.statics_most in
          read_is b k (omega (arith, low))
          ∙ ap (λ o. or_else o (or_else (part_of heap_at m.heap b (suc k)) (part_of stack_at m.places b (suc k))))
          (part_past statics_at m.statics b (suc k) (omega (arith, h, low)))
          ∙ ap (λ o. or_else o (part_of stack_at m.places b (suc k))) (part_there heap_at m.heap b (suc k) low high).1

  places : Region m
  places = record {
    base = stack_at;
    bytes = m.places;
    ends = let h = sized.stack_most in omega (arith, h);
    reads = reads;
    writes = λ b k low high. or_right (k == 0) (lies_in statics_at m.statics b k || (lies_in heap_at m.heap b k || lies_in stack_at m.places b k))
        (or_right (lies_in statics_at m.statics b k) (lies_in heap_at m.heap b k || lies_in stack_at m.places b k)
        (or_right (lies_in heap_at m.heap b k) (lies_in stack_at m.places b k) (part_there stack_at m.places b k low high).0));
  }
    where
      reads : (b k : ℕ) → stack_at ≤ b → b + k ≤ stack_at + length m.places → bytes_at m b k ≡ Some (take k (drop (b - stack_at) m.places))
      reads b zero low high = refl
      reads b (suc k) low high =
          let h = sized.statics_most in
          let i = sized.heap_most in
          read_is b k (omega (arith, low))
          ∙ ap (λ o. or_else o (or_else (part_of heap_at m.heap b (suc k)) (part_of stack_at m.places b (suc k))))
          (part_past statics_at m.statics b (suc k) (omega (arith, h, low)))
          ∙ ap (λ o. or_else o (part_of stack_at m.places b (suc k))) (part_past heap_at m.heap b (suc k) (omega (arith, i, low)))
          ∙ (part_there stack_at m.places b (suc k) low high).1

  -- ---- a range in a region

  pub record InRegion (at n : ℕ) : Type 0 where
    pub region : Region m
    pub low : region.base ≤ at
    pub high : at + n ≤ region.base + length region.bytes

  -- one that may be written
  pub written_in : (at n : ℕ) → 0 < n → writable (as_state m) at n ≡ true → InRegion at n
  unfolding statics heap places
  written_in at n some may = elim (cases_Bool (lies_in statics_at m.statics at n)) [
    | inl a ↦ let l = lies statics_at m.statics at n a in record { region = statics; low = l.0; high = l.1 }
    | inr a ↦ elim (cases_Bool (lies_in heap_at m.heap at n)) [
      | inl b ↦ let l = lies heap_at m.heap at n b in record { region = heap; low = l.0; high = l.1 }
      | inr b ↦
          let l = lies stack_at m.places at n (last (n == 0) (lies_in statics_at m.statics at n) (lies_in heap_at m.heap at n)
          (lies_in stack_at m.places at n) (ne_eqb n 0 (λ e. omega (arith, e, some))) a b may) in
          record { region = places; low = l.0; high = l.1 }
    ]
  ]
    where
      last : (a b c d : Bool) → a ≡ false → b ≡ false → c ≡ false → (a || (b || (c || d))) ≡ true → d ≡ true
      last true b c d e f g h = absurd (true≢false e)
      last false true c d e f g h = absurd (true≢false f)
      last false false true d e f g h = absurd (true≢false g)
      last false false false d e f g h = h

  -- one that may be read
  pub read_in : (at n : ℕ) (bytes : List ℕ) → 0 < n → code_at ≤ at → bytes_at m at n ≡ Some bytes → InRegion at n
  unfolding statics heap places
  read_in at zero bytes some far is = absurd (omega (arith, some))
  read_in at (suc n) bytes some far is = elim (cases_Bool (lies_in statics_at m.statics at (suc n))) [
    | inl a ↦ let l = lies statics_at m.statics at (suc n) a in record { region = statics; low = l.0; high = l.1 }
    | inr a ↦ elim (cases_Bool (lies_in heap_at m.heap at (suc n))) [
      | inl b ↦ let l = lies heap_at m.heap at (suc n) b in record { region = heap; low = l.0; high = l.1 }
      | inr b ↦ elim (cases_Bool (lies_in stack_at m.places at (suc n))) [
        | inl c ↦ let l = lies stack_at m.places at (suc n) c in record { region = places; low = l.0; high = l.1 }
        | inr c ↦
            absurd (none-some bytes (sym (read_is at n far
            ∙ ap (λ o. or_else o (or_else (part_of heap_at m.heap at (suc n)) (part_of stack_at m.places at (suc n)))) (nowhere statics_at m.statics a)
            ∙ ap (λ o. or_else o (part_of stack_at m.places at (suc n))) (nowhere heap_at m.heap b) ∙ nowhere stack_at m.places c) ∙ is))
      ]
    ]
  ]
    where
      nowhere : (base : ℕ) (region : List ℕ) → lies_in base region at (suc n) ≡ false → part_of base region at (suc n) ≡ None
      nowhere base region e = cond-false (lies_in base region at (suc n)) (Some (take (suc n) (drop (at - base) region))) None e

  -- ---- parts of a range

  -- what is read within it
  pub part_read : (at n : ℕ) (bytes : List ℕ) → InRegion at n → bytes_at m at n ≡ Some bytes → (i k : ℕ) → i + k ≤ n
      → bytes_at m (at + i) k ≡ Some (take k (drop i bytes))
  part_read at n bytes x is i k within =
      let r = x.region in
      let low = x.low in
      let high = x.high in
      let j : ℕ = at - r.base in
      let place : at + i - r.base ≡ j + i = omega (arith, low) in
      let gap : i + (n - i) ≡ n = omega (arith, within) in
      let whole : take n (drop j r.bytes) ≡ bytes = same_Some _ _ (sym (r.reads at n low high) ∙ is) in
      let front : drop i (take n (drop j r.bytes)) ≡ take (n - i) (drop (j + i) r.bytes)
      = ap (λ l. drop i (take l (drop j r.bytes))) (sym gap) ∙ drop-take i (n - i) (drop j r.bytes)
      ∙ ap (take (n - i)) (further j i r.bytes) in
      r.reads (at + i) k (omega (arith, low)) (omega (arith, high, within))
      ∙ ap (λ l. Some (take k (drop l r.bytes))) place
      ∙ ap Some (sym (take-take k (n - i) (drop (j + i) r.bytes) (omega (arith, within))) ∙ ap (take k) (sym front ∙ ap (drop i) whole))
    where
      further : (j i : ℕ) (xs : List ℕ) → drop i (drop j xs) ≡ drop (j + i) xs
      further j i xs = drop-drop i j xs

  pub part_written : (at n : ℕ) → InRegion at n → (i k : ℕ) → i + k ≤ n → writable (as_state m) (at + i) k ≡ true
  part_written at n x i k within =
      let low = x.low in
      let high = x.high in
      x.region.writes (at + i) k (omega (arith, low)) (omega (arith, high, within))

  -- two ranges, one behind the other
  pub joined_read : (at : ℕ) (xs ys : List ℕ) → may_fill m at (length xs + length ys) ≡ true → bytes_at m at (length xs) ≡ Some xs
      → bytes_at m (at + length xs) (length ys) ≡ Some ys → bytes_at m at (length xs + length ys) ≡ Some (xs ++ ys)
  joined_read at [] ys may first rest =
      let e : at + 0 ≡ at = omega arith in
      let n : length {A = ℕ} [] + length ys ≡ length ys = omega arith in
      ap (bytes_at m at) n ∙ ap (λ a. bytes_at m a (length ys)) (sym e) ∙ rest
  joined_read at (x ∷ xs) ys may first rest =
      let r = written_in at (suc (length xs) + length ys) (omega arith) may in
      let low = r.low in
      let high = r.high in
      let region = r.region in
      let j : ℕ = at - region.base in
      let front : take (suc (length xs)) (drop j region.bytes) ≡ x ∷ xs
      = same_Some (take (suc (length xs)) (drop j region.bytes)) (x ∷ xs) (sym (region.reads at (suc (length xs)) low (omega (arith, high))) ∙ first) in
      let next : take (length ys) (drop (at + suc (length xs) - region.base) region.bytes) ≡ ys
      = same_Some (take (length ys) (drop (at + suc (length xs) - region.base) region.bytes)) ys
      (sym (region.reads (at + suc (length xs)) (length ys) (omega (arith, low)) (omega (arith, high))) ∙ rest) in
      let place : j + suc (length xs) ≡ at + suc (length xs) - region.base = omega (arith, low) in
      region.reads at (suc (length xs) + length ys) low high
      ∙ ap Some (take-add (suc (length xs)) (length ys) (drop j region.bytes)
      ∙ ap₂ (λ u v. u ++ v) front (ap (take (length ys)) (drop-drop (suc (length xs)) j region.bytes ∙ ap (λ k. drop k region.bytes) place) ∙ next))

  -- a byte in front of others
  pub byte_before : (at n b : ℕ) (bytes : List ℕ) → InRegion at (suc n) → bytes_at m at 1 ≡ Some (b ∷ []) → bytes_at m (at + 1) n ≡ Some bytes
      → bytes_at m at (suc n) ≡ Some (b ∷ bytes)
  byte_before at n b bytes x first rest =
      let r = x.region in
      let low = x.low in
      let high = x.high in
      let j : ℕ = at - r.base in
      let place : at + 1 - r.base ≡ suc j = omega (arith, low) in
      let one : take 1 (drop j r.bytes) ≡ b ∷ [] = same_Some _ _ (sym (r.reads at 1 low (omega (arith, high))) ∙ first) in
      let more : take n (drop (suc j) r.bytes) ≡ bytes
      = ap (λ l. take n (drop l r.bytes)) (sym place)
      ∙ same_Some _ _ (sym (r.reads (at + 1) n (omega (arith, low)) (omega (arith, high))) ∙ rest) in
      r.reads at (suc n) low high ∙ ap Some (cut j r.bytes (omega (arith, low, high)) ∙ ap₂ (λ u v. u ++ v) one more)
    where
      cut : (j : ℕ) (xs : List ℕ) → j < length xs → take (suc n) (drop j xs) ≡ take 1 (drop j xs) ++ take n (drop (suc j) xs)
      cut j [] less = absurd (omega (arith, less))
      cut zero (x ∷ xs) less = refl
      cut (suc j) (x ∷ xs) less = cut j xs (omega (arith, less))

-- ---- words

cell_low : (m : Memory) → Sized m → (a : ℕ) → Cell m a → a + 4 < 2 ^ 32
cell_low m sized a c =
    let x = written_in m sized a 4 (omega arith) (and_parts (a % 4 == 0) (writable (as_state m) a 4) c.may).1 in
    let ends = x.region.ends in
    let high = x.high in
    omega (arith, ends, high)

pub area_low : (m : Memory) → Sized m → (n a : ℕ) → Area m a (suc n) → a + 4 * suc n < 2 ^ 32
area_low m sized zero a area = cell_low m sized a area.0
area_low m sized (suc n) a area = let h = area_low m sized n (a + 4) area.1 in omega (arith, h)

-- ---- ranges of the heap and of the data

module _ (m : Memory) (sized : Sized m) (b k : ℕ) where
  pub heap_part : heap_at ≤ b → b + k ≤ heap_at + length m.heap → bytes_at m b k ≡ Some (take k (drop (b - heap_at) m.heap))
  unfolding heap
  heap_part low high = (heap m sized).reads b k low high

  pub heap_open : heap_at ≤ b → b + k ≤ heap_at + length m.heap → writable (as_state m) b k ≡ true
  unfolding heap
  heap_open low high = (heap m sized).writes b k low high

  pub data_part : statics_at ≤ b → b + k ≤ statics_at + length m.statics → bytes_at m b k ≡ Some (take k (drop (b - statics_at) m.statics))
  unfolding statics
  data_part low high = (statics m sized).reads b k low high

  pub data_open : statics_at ≤ b → b + k ≤ statics_at + length m.statics → writable (as_state m) b k ≡ true
  unfolding statics
  data_open low high = (statics m sized).writes b k low high

-- ---- nothing stands below where code begins

part_low : (base : ℕ) (region : List ℕ) (b k : ℕ) → b < base → part_of base region b k ≡ None
part_low base region b k less =
    cond-false (lies_in base region b k) (Some (take k (drop (b - base) region))) None (false_from_ne_true (lies_in base region b k) (λ e.
    let l = lies base region b k e in
    let l0 = l.0 in
    absurd (omega (arith, l0, less))))

pub nothing_below : (m : Memory) (b k : ℕ) → b < code_at → bytes_at m b (suc k) ≡ None
nothing_below m b k less =
    cond-false (suc k == 0) (Some []) _ (ne_eqb (suc k) 0 (λ e. absurd (omega (arith, e))))
    ∙ ap (λ o. or_else o (or_else (part_of statics_at m.statics b (suc k)) (or_else (part_of heap_at m.heap b (suc k)) (part_of stack_at m.places b (suc k)))))
    (part_low code_at [] b (suc k) less)
    ∙ ap (λ o. or_else o (or_else (part_of heap_at m.heap b (suc k)) (part_of stack_at m.places b (suc k))))
    (part_low statics_at m.statics b (suc k) (omega (arith, less)))
    ∙ ap (λ o. or_else o (part_of stack_at m.places b (suc k))) (part_low heap_at m.heap b (suc k) (omega (arith, less)))
    ∙ part_low stack_at m.places b (suc k) (omega (arith, less))
