-- Where the words of two ranges traded places, one range was written first, and the other one then: the memory in between.
use Rattle.std.proofs.Common.{◌≡◌, ◌⊎◌, inl, inr, ℕ, zero, suc, ◌+◌, ◌-◌, ◌<◌, ◌≤◌, List, [], ◌∷◌, ◌++◌, length, take, drop, Option, Some, None}
use Rattle.std.proofs.Common.{◌%◌, Bool, true, false, refl, sym, ap, subst, ◌∙◌, arith}
use Rattle.std.specs.Prelude.{◌==◌, ◌&&◌, ◌||◌, if◌then◌else◌}
use Rattle.std.proofs.lemmas.Bool.{and_from, cases_Bool, cond_both, cases_order, le-leb, true≢false}
use Rattle.rv32_isa.specs.declared.micro_op.Size.TheVariants.{Word}
use Rattle.rv32_isa.specs.Hooks.{code_at}
use Rattle.rv32_isa.specs.Image.{statics_at, heap_at, stack_at}
use Rattle.rv32_isa.specs.Regions.{AreBytes, HasRegions}
use Rattle.rv32_isa.specs.State.{State, filled, lies_in, put_bytes, readable, writable}
use Rattle.word_code.specs.Memory.{KeepsShape, Memory, as_state, bytes_at, memory_of, number_at, with_bytes}
use Rattle.word_code.specs.RoutineTable.{Beside, LowWords, Separate}
use Rattle.word_code.proofs.ForCallers.{MemoryLaw, Sized, Apart, Changed, sizes_more, sizes_same}
use Rattle.heap_memory.proofs.ForCallers.{InRegion, byte_before, heap_part, lies, nothing_below, part_read, read_in, written_in}
use Rattle.word_lowering.proofs.OpenCells.{cell_by}
use Rattle.word_lowering.proofs.RoutineMemory.{Trade, same_word}

-- ---- lists

first_there : (j : ℕ) (xs : List ℕ) → j < length xs → (c : ℕ) × (take 1 (drop j xs) ≡ c ∷ [])
first_there j [] less = absurd (omega (arith, less))
first_there zero (x ∷ xs) less = (x, refl)
first_there (suc j) (x ∷ xs) less = first_there j xs (omega (arith, less))

length_part : (j n : ℕ) (xs : List ℕ) → j + n ≤ length xs → length (take n (drop j xs)) ≡ n
length_part j zero xs le = refl
length_part zero (suc n) [] le = absurd (omega (arith, le))
length_part zero (suc n) (x ∷ xs) le = ap suc (length_part zero n xs (omega (arith, le)))
length_part (suc j) (suc n) [] le = absurd (omega (arith, le))
length_part (suc j) (suc n) (x ∷ xs) le = length_part j (suc n) xs (omega (arith, le))

append_long : (xs ys : List ℕ) → length (xs ++ ys) ≡ length xs + length ys
append_long [] ys = omega arith
append_long (x ∷ xs) ys = let e = append_long xs ys in omega (arith, e)

drop_long : (n : ℕ) (xs : List ℕ) → n ≤ length xs → length (drop n xs) + n ≡ length xs
drop_long zero xs le = omega arith
drop_long (suc n) [] le = absurd (omega (arith, le))
drop_long (suc n) (x ∷ xs) le = let e = drop_long n xs (omega (arith, le)) in omega (arith, e)

put_long : (region put : List ℕ) (i : ℕ) → i + length put ≤ length region → length (put_bytes region i put) ≡ length region
put_long region put i le =
    let behind : List ℕ = drop (i + length put) region in
    let all : length (put_bytes region i put) ≡ length (take i region) + length (put ++ behind) = append_long (take i region) (put ++ behind) in
    let end : length (put ++ behind) ≡ length put + length behind = append_long put behind in
    let front : length (take i region) ≡ i = length_part 0 i region (omega (arith, le)) in
    let rest : length behind + (i + length put) ≡ length region = drop_long (i + length put) region le in
    omega (arith, all, end, front, rest)

same_list : (xs ys : List ℕ) → Some xs ≡ Some ys → xs ≡ ys
same_list xs ys e = ap (inside xs) e
  where
    inside : List ℕ → Option (List ℕ) → List ℕ
    inside d None = d
    inside d (Some zs) = zs

-- ---- bytes

are_behind : (front behind : List ℕ) → AreBytes front → AreBytes behind → AreBytes (front ++ behind)
are_behind [] behind are more = more
are_behind (b ∷ front) behind are more = (are.0, are_behind front behind are.1 more)

are_taken : (n : ℕ) (xs : List ℕ) → AreBytes xs → AreBytes (take n xs)
are_taken zero xs are = tt
are_taken (suc n) [] are = tt
are_taken (suc n) (x ∷ xs) are = (are.0, are_taken n xs are.1)

are_dropped : (n : ℕ) (xs : List ℕ) → AreBytes xs → AreBytes (drop n xs)
are_dropped zero xs are = are
are_dropped (suc n) [] are = tt
are_dropped (suc n) (x ∷ xs) are = are_dropped n xs are.1

are_put : (region put : List ℕ) (i : ℕ) → AreBytes put → AreBytes region → AreBytes (put_bytes region i put)
are_put region put i new old =
    are_behind (take i region) (put ++ drop (i + length put) region) (are_taken i region old)
    (are_behind put (drop (i + length put) region) new (are_dropped (i + length put) region old))

last_one : (a b c d : Bool) → a ≡ false → b ≡ false → c ≡ false → (a || (b || (c || d))) ≡ true → d ≡ true
last_one true b c d e f g h = absurd (true≢false e)
last_one false true c d e f g h = absurd (true≢false f)
last_one false false true d e f g h = absurd (true≢false g)
last_one false false false d e f g h = h

or_end : (a b c : Bool) → c ≡ true → (a || (b || c)) ≡ true
or_end true b c e = refl
or_end false true c e = refl
or_end false false c e = e

-- ---- ranges that may be written

-- in which region a word is
data WordIn (m : Memory) (b : ℕ) : Type 0 where
  in_data : statics_at ≤ b → b + 4 ≤ statics_at + length m.statics → WordIn m b
  in_heap : heap_at ≤ b → b + 4 ≤ heap_at + length m.heap → WordIn m b
  in_stack : stack_at ≤ b → b + 4 ≤ stack_at + length m.places → WordIn m b

word_in : (m : Memory) (b : ℕ) → writable (as_state m) b 4 ≡ true → WordIn m b
word_in m b may = by (lies_in statics_at m.statics b 4) (lies_in heap_at m.heap b 4) refl refl may
  where
    by : (p q : Bool) → lies_in statics_at m.statics b 4 ≡ p → lies_in heap_at m.heap b 4 ≡ q → (p || (q || lies_in stack_at m.places b 4)) ≡ true → WordIn m b
    by true q e f may = let l = lies statics_at m.statics b 4 e in in_data l.0 l.1
    by false true e f may = let l = lies heap_at m.heap b 4 f in in_heap l.0 l.1
    by false false e f may = let l = lies stack_at m.places b 4 may in in_stack l.0 l.1

-- a range in a region may be
lies_there : (base : ℕ) (region : List ℕ) (b k : ℕ) → base ≤ b → b + k ≤ base + length region → lies_in base region b k ≡ true
lies_there base region b k low high = and_from _ _ (le-leb base b low) (le-leb (b + k) (base + length region) high)

-- from its first word to its last one, beside the heap
pub range_open : (m : Memory) → Sized m → (a n : ℕ) → 4 ≤ n → writable (as_state m) a 4 ≡ true → writable (as_state m) (a + n - 4) 4 ≡ true
    → (a + n ≤ heap_at) ⊎ (stack_at ≤ a) → writable (as_state m) a n ≡ true
range_open m sized a n some first last beside = by (word_in m a first) (word_in m (a + n - 4) last) beside
  where
    s : length m.statics ≤ 1048576
    s = sized.statics_most

    h : length m.heap ≤ 16777216
    h = sized.heap_most

    by : WordIn m a → WordIn m (a + n - 4) → (a + n ≤ heap_at) ⊎ (stack_at ≤ a) → writable (as_state m) a n ≡ true
    by (in_data low high) (in_data low' high') at =
        or_end (n == 0) false _ (or_start _ _ (lies_there statics_at m.statics a n low (omega (arith, some, high'))))
      where
        or_start : (p q : Bool) → p ≡ true → (p || q) ≡ true
        or_start true q e = refl
        or_start false q e = absurd (true≢false (sym e))
    by (in_stack low high) (in_stack low' high') at =
        or_end (n == 0) (lies_in statics_at m.statics a n) _ (or_last _ _ (lies_there stack_at m.places a n low (omega (arith, some, high'))))
      where
        or_last : (p q : Bool) → q ≡ true → (p || q) ≡ true
        or_last true q e = refl
        or_last false q e = e
    by (in_data low high) (in_heap low' high') (inl below) = absurd (omega (arith, low', below, some))
    by (in_data low high) (in_heap low' high') (inr above) = absurd (omega (arith, high, s, above))
    by (in_data low high) (in_stack low' high') (inl below) = absurd (omega (arith, low', below, some))
    by (in_data low high) (in_stack low' high') (inr above) = absurd (omega (arith, high, s, above))
    by (in_heap low high) w (inl below) = absurd (omega (arith, low, below, some))
    by (in_heap low high) w (inr above) = absurd (omega (arith, high, h, above))
    by (in_stack low high) (in_data low' high') (inl below) = absurd (omega (arith, low, below, some))
    by (in_stack low high) (in_data low' high') (inr above) = absurd (omega (arith, high', s, above, some))
    by (in_stack low high) (in_heap low' high') (inl below) = absurd (omega (arith, low, below, some))
    by (in_stack low high) (in_heap low' high') (inr above) = absurd (omega (arith, high', h, above, some))

-- ---- bytes one by one

unread : (m : Memory) → Sized m → (b n : ℕ) → writable (as_state m) b (suc n) ≡ false → bytes_at m b (suc n) ≡ None
unread m sized b n closed = place (cases_order b code_at)
  where
    far : code_at ≤ b → (o : Option (List ℕ)) → bytes_at m b (suc n) ≡ o → bytes_at m b (suc n) ≡ None
    far le None e = e
    far le (Some bytes) e =
        let x = read_in m sized b (suc n) bytes (omega arith) le e in
        absurd (true≢false (sym (x.region.writes b (suc n) x.low x.high) ∙ closed))

    place : (b ≡ code_at) ⊎ ((b < code_at) ⊎ (code_at < b)) → bytes_at m b (suc n) ≡ None
    place (inl e) = far (omega (arith, e)) (bytes_at m b (suc n)) refl
    place (inr (inl less)) = nothing_below m b n less
    place (inr (inr less)) = far (omega (arith, less)) (bytes_at m b (suc n)) refl

module _ (law : MemoryLaw) (m other : Memory) (sized : Sized m) (sized_then : Sized other) (sizes : KeepsShape (as_state m) (as_state other)) where
  -- a byte and those behind it
  more_bytes : (n b : ℕ) → bytes_at other b 1 ≡ bytes_at m b 1 → bytes_at other (b + 1) n ≡ bytes_at m (b + 1) n
      → bytes_at other b (suc n) ≡ bytes_at m b (suc n)
  more_bytes n b first more = by (cases_Bool (writable (as_state m) b (suc n)))
    where
      by : (writable (as_state m) b (suc n) ≡ true) ⊎ (writable (as_state m) b (suc n) ≡ false) → bytes_at other b (suc n) ≡ bytes_at m b (suc n)
      by (inl may) =
          let x = written_in m sized b (suc n) (omega arith) may in
          let z = written_in other sized_then b (suc n) (omega arith) (law.stores (as_state m) (as_state other) b (suc n) sizes ∙ may) in
          let low = x.low in
          let high = x.high in
          let c = first_there (b - x.region.base) x.region.bytes (omega (arith, low, high)) in
          let here : bytes_at m b 1 ≡ Some (c.0 ∷ []) = x.region.reads b 1 low (omega (arith, high)) ∙ ap Some c.1 in
          let rest : List ℕ = take n (drop (b + 1 - x.region.base) x.region.bytes) in
          let behind : bytes_at m (b + 1) n ≡ Some rest = x.region.reads (b + 1) n (omega (arith, low)) (omega (arith, high)) in
          byte_before other sized_then b n c.0 rest z (first ∙ here) (more ∙ behind)
          ∙ sym (byte_before m sized b n c.0 rest x here behind)
      by (inr closed) =
          unread other sized_then b n (law.stores (as_state m) (as_state other) b (suc n) sizes ∙ closed) ∙ sym (unread m sized b n closed)

  same_bytes : (n b : ℕ) → ((i : ℕ) → i < n → bytes_at other (b + i) 1 ≡ bytes_at m (b + i) 1) → bytes_at other b n ≡ bytes_at m b n
  same_bytes zero b one = refl
  same_bytes (suc n) b one =
      let first : bytes_at other b 1 ≡ bytes_at m b 1
      = (let e : b + 0 ≡ b = omega arith in subst (λ k. bytes_at other k 1 ≡ bytes_at m k 1) e (one 0 (omega arith))) in
      more_bytes n b first (same_bytes n (b + 1) (λ i less.
      let e : b + suc i ≡ b + 1 + i = omega arith in
      subst (λ k. bytes_at other k 1 ≡ bytes_at m k 1) e (one (suc i) (omega (arith, less)))))

  -- a range alone is other than it was
  rewritten_changed : (at n : ℕ) → ((b k : ℕ) → Beside b k at n → bytes_at other b k ≡ bytes_at m b k) → Changed m other at n
  rewritten_changed at n beside = record {
    sized = sized_then;
    sizes = sizes;
    cells = λ b c. cell_by other sized_then b (ap (λ w. (b % 4 == 0) && w) (law.stores (as_state m) (as_state other) b 4 sizes) ∙ c.may);
    outside = λ b apart. same_word m other b (beside b 4 apart);
    beside = beside;
  }

-- ---- bytes are put back

abbrev state_of : State → List ℕ → ℕ → List ℕ → State
state_of t regs pc code = record { regs = regs; pc = pc; code = code; statics = t.statics; heap = t.heap; stack = t.stack }

same_state : (t : State) → t.regs ≡ [] → t.pc ≡ 0 → t.code ≡ [] → as_state (memory_of t) ≡ t
same_state t r p c =
    ap (λ regs. state_of t regs 0 []) (sym r) ∙ ap (λ pc. state_of t t.regs pc []) (sym p) ∙ ap (λ code. state_of t t.regs t.pc code) (sym c)

-- what is put into the heap has to be bytes
module _ (law : MemoryLaw) (m : Memory) (sized : Sized m) (a : ℕ) (put : List ℕ) (may : writable (as_state m) a (length put) ≡ true)
    (are : lies_in heap_at m.heap a (length put) ≡ true → AreBytes put) where
  kept : KeepsShape (as_state m) (filled (as_state m) a put)
  kept =
      let s : State = as_state m in
      let n : ℕ = length put in
      let data_put : State = record (as_state m) { statics = put_bytes m.statics (a - statics_at) put } in
      let heap_put : State = record (as_state m) { heap = put_bytes m.heap (a - heap_at) put } in
      let stack_put : State = record (as_state m) { stack = put_bytes m.places (a - stack_at) put } in
      let above : State = if lies_in heap_at s.heap a n then heap_put else stack_put in
      let P : State → Type 0 = λ t. KeepsShape (as_state m) t in
      cond_both (n == 0) s (if lies_in statics_at s.statics a n then data_put else above) P
      (λ e. sizes_same m)
      (λ e. cond_both (lies_in statics_at s.statics a n) data_put above P
      (λ f. let l = lies statics_at m.statics a (length put) f in record {
        regs = refl;
        pc = refl;
        code = refl;
        statics = put_long m.statics put (a - statics_at) (omega (arith, l.0, l.1));
        heap = refl;
        stack = refl;
        bytes = λ old. old;
      })
      (λ f. cond_both (lies_in heap_at s.heap a n) heap_put stack_put P
      (λ h. let l = lies heap_at m.heap a (length put) h in record {
        regs = refl;
        pc = refl;
        code = refl;
        statics = refl;
        heap = put_long m.heap put (a - heap_at) (omega (arith, l.0, l.1));
        stack = refl;
        bytes = λ old. are_put m.heap put (a - heap_at) (are h) old;
      })
      (λ h. let l = lies stack_at m.places a (length put) (last_one _ _ _ _ e f h may) in record {
        regs = refl;
        pc = refl;
        code = refl;
        statics = refl;
        heap = refl;
        stack = put_long m.places put (a - stack_at) (omega (arith, l.0, l.1));
        bytes = λ old. old;
      })))

  with_state : as_state (with_bytes m a put) ≡ filled (as_state m) a put
  with_state = same_state (filled (as_state m) a put) kept.regs kept.pc kept.code

  put_sizes : KeepsShape (as_state m) (as_state (with_bytes m a put))
  put_sizes = subst (KeepsShape (as_state m)) (sym with_state) kept

  put_beside : (b n : ℕ) → Beside b n a (length put) → bytes_at (with_bytes m a put) b n ≡ bytes_at m b n
  put_beside b n apart = ap (λ s. readable s b n) with_state ∙ law.elsewhere (as_state m) a put b n may apart

  put_sized : Sized (with_bytes m a put)
  put_sized = subst HasRegions (sym with_state) (law.regions (as_state m) (filled (as_state m) a put) sized kept)

  put_there : bytes_at (with_bytes m a put) a (length put) ≡ Some put
  put_there = ap (λ s. readable s a (length put)) with_state ∙ law.here (as_state m) a put sized may

-- ---- a trade in two writes

pub record TwoWrites (m other : Memory) (left right n : ℕ) : Type 0 where
  pub middle : Memory
  pub first : Changed m middle right n
  pub there : LowWords m left middle right n
  pub second : Changed middle other left n

module _ (law : MemoryLaw) (m other : Memory) (sized : Sized m) (are : AreBytes m.heap) (left right n : ℕ) (some : 0 < n)
    (may : writable (as_state m) left n ≡ true) (t : Trade m other left right n) where
  -- of one range with itself
  writes_same : left ≡ right → TwoWrites m other left right n
  writes_same e = record {
    middle = other;
    first = record {
      sized = t.sized;
      sizes = t.sizes;
      cells = t.cells;
      outside = λ b apart. t.outside b (subst (λ k. Apart b k n) (sym e) apart) apart;
      beside = λ b k apart. t.beside b k (subst (λ z. Beside b k z n) (sym e) apart) apart;
    };
    there = t.to_right;
    second = record { sized = t.sized; sizes = sizes_same other; cells = λ b c. c; outside = λ b apart. refl; beside = λ b k apart. refl };
  }

  module _ (apart : (left + n ≤ right) ⊎ (right + n ≤ left)) where
    there_before : InRegion m sized left n
    there_before = written_in m sized left n some may

    abbrev old : List ℕ
    old = take n (drop (left - there_before.region.base) there_before.region.bytes)

    old_long : length old ≡ n
    old_long =
        let low = there_before.low in
        let high = there_before.high in
        length_part (left - there_before.region.base) n there_before.region.bytes (omega (arith, low, high))

    old_is : bytes_at m left n ≡ Some old
    old_is = there_before.region.reads left n there_before.low there_before.high

    may_then : writable (as_state other) left (length old) ≡ true
    may_then = ap (λ k. writable (as_state other) left k) old_long ∙ law.stores (as_state m) (as_state other) left n t.sizes ∙ may

    old_are : lies_in heap_at other.heap left (length old) ≡ true → AreBytes old
    old_are h =
        let l = lies heap_at other.heap left (length old) h in
        let size = t.sizes.heap in
        let long = old_long in
        let part : List ℕ = take n (drop (left - heap_at) m.heap) in
        let same : old ≡ take n (drop (left - heap_at) m.heap)
        = same_list old part (sym old_is ∙ heap_part m sized left n l.0 (omega (arith, l.1, size, long))) in
        subst AreBytes (sym same) (are_taken n (drop (left - heap_at) m.heap) (are_dropped (left - heap_at) m.heap are))

    abbrev between : Memory
    between = with_bytes other left old

    between_sized : Sized between
    between_sized = put_sized law other t.sized left old may_then old_are

    between_sizes : KeepsShape (as_state other) (as_state between)
    between_sizes = put_sizes law other t.sized left old may_then old_are

    -- as it was behind the trade, beside the first range
    between_beside : (b k : ℕ) → Beside b k left n → bytes_at between b k ≡ bytes_at other b k
    between_beside b k away = put_beside law other t.sized left old may_then old_are b k (subst (λ z. Beside b k left z) (sym old_long) away)

    between_there : bytes_at between left n ≡ Some old
    between_there = subst (λ k. bytes_at between left k ≡ Some old) old_long (put_there law other t.sized left old may_then old_are)

    sizes_first : KeepsShape (as_state m) (as_state between)
    sizes_first = sizes_more m other between t.sizes between_sizes

    may_between : writable (as_state between) left n ≡ true
    may_between = law.stores (as_state m) (as_state between) left n sizes_first ∙ may

    -- and as it was before it, beside the second one
    byte_before_trade : (p : ℕ) → Beside p 1 right n → bytes_at between p 1 ≡ bytes_at m p 1
    byte_before_trade p away = by (cases_order p left) (cases_order p (left + n))
      where
        inside : left ≤ p → p < left + n → bytes_at between p 1 ≡ bytes_at m p 1
        inside low high =
            let e : left + (p - left) ≡ p = omega (arith, low) in
            subst (λ k. bytes_at between k 1 ≡ bytes_at m k 1) e
            (part_read between between_sized left n old (written_in between between_sized left n some may_between) between_there (p - left) 1
            (omega (arith, low, high))
            ∙ sym (part_read m sized left n old there_before old_is (p - left) 1 (omega (arith, low, high))))

        beyond : Beside p 1 left n → bytes_at between p 1 ≡ bytes_at m p 1
        beyond far = between_beside p 1 far ∙ t.beside p 1 far away

        by : (p ≡ left) ⊎ ((p < left) ⊎ (left < p)) → (p ≡ left + n) ⊎ ((p < left + n) ⊎ (left + n < p)) → bytes_at between p 1 ≡ bytes_at m p 1
        by (inr (inl less)) z = beyond (inl (omega (arith, less)))
        by w (inl e) = beyond (inr (omega (arith, e)))
        by w (inr (inr more)) = beyond (inr (omega (arith, more)))
        by (inl e) (inr (inl less)) = inside (omega (arith, e)) less
        by (inr (inr more)) (inr (inl less)) = inside (omega (arith, more)) less

    beside_right : (b k : ℕ) → Beside b k right n → bytes_at between b k ≡ bytes_at m b k
    beside_right b k away = same_bytes law m between sized between_sized sizes_first k b (λ i less. byte_before_trade (b + i) (narrow i less away))
      where
        narrow : (i : ℕ) → i < k → Beside b k right n → Beside (b + i) 1 right n
        narrow i less (inl h) = inl (omega (arith, h, less))
        narrow i less (inr h) = inr (omega (arith, h))

    word_there : (o : ℕ) → o + 4 ≤ n → number_at between (right + o) Word ≡ number_at other (right + o) Word
    word_there o within = same_word other between (right + o) (between_beside (right + o) 4 (away apart))
      where
        away : (left + n ≤ right) ⊎ (right + n ≤ left) → Beside (right + o) 4 left n
        away (inl h) = inr (omega (arith, h))
        away (inr h) = inl (omega (arith, h, within))

    writes_apart : TwoWrites m other left right n
    writes_apart = record {
      middle = between;
      first = rewritten_changed law m between sized between_sized sizes_first right n beside_right;
      there = λ o within whole. word_there o within ∙ t.to_right o within whole;
      second = rewritten_changed law between other between_sized t.sized (turned other between (t.sizes.bytes are) between_sizes) left n
          (λ b k away. sym (between_beside b k away));
    }
      where
        turned : (m other : Memory) → AreBytes m.heap → KeepsShape (as_state m) (as_state other) → KeepsShape (as_state other) (as_state m)
        turned m other bytes_are s = record {
          regs = refl;
          pc = refl;
          code = refl;
          statics = sym s.statics;
          heap = sym s.heap;
          stack = sym s.stack;
          bytes = λ old. bytes_are;
        }

  pub two_writes : Separate left right n → TwoWrites m other left right n
  two_writes (inl e) = writes_same e
  two_writes (inr apart) = writes_apart apart
