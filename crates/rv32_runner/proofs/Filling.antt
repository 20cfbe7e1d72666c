-- Bytes that are put into a range piece by piece.
use Rattle.std.proofs.Common.{◌≡◌, ℕ, zero, suc, ◌+◌, ◌-◌, ◌<◌, ◌≤◌, ◌^◌, List, [], ◌∷◌, ◌++◌, length, take, drop, Bool, true, false, refl, sym, ap, ap₂}
use Rattle.std.proofs.Common.{subst, ◌∙◌, arith, append_assoc, append-nil, add-zero, length-append, length-drop, inr}
use Rattle.std.specs.Prelude.{◌==◌, ◌||◌, if◌then◌else◌}
use Rattle.std.proofs.lemmas.Bool.{le-leb, leb-true, lt-leb, ne_eqb, and_from, and_parts, and_right, cond-true, cond-false, true≢false}
use Rattle.std.proofs.lemmas.List.{length-take-le, take-append-le, drop-drop}
use Rattle.std.proofs.Math.Seq.{drop-append-add, take-append-add, take-append_seam}
use Rattle.rv32_isa.specs.Image.{statics_at, heap_at, stack_at}
use Rattle.rv32_isa.specs.State.{State, lies_in, writable, put_bytes, filled}
use Rattle.rv32_isa.specs.Regions.{HasRegions, KeepsSizes, as_bytes}
use Rattle.rv32_isa.proofs.ForCallers.{both_read, as_many_read}
use Rattle.rv32_isa.specs.Machine.{answered}
use Rattle.std.specs.Prelude.{Option, Some, None, Ok, Err, IsTrue}
use Rattle.arc_base.specs.declared.outside.Failed.{Failed}
use Rattle.arc_base.specs.Outside.{Takes, Rose}
use Rattle.rv32_runner.specs.Streams.{Feed, feed, Gave, MayGive}
use Rattle.rv32_runner.specs.Calls.{Part, NoMore, Filled, Failing}
use Rattle.rv32_runner.proofs.Carrying.{gave_none, gave_then}

-- ---- bytes in a list

put_put : (region xs ys : List ℕ) (i j : ℕ) → j ≡ i + length xs → i + (length xs + length ys) ≤ length region →
    put_bytes (put_bytes region i xs) j ys ≡ put_bytes region i (xs ++ ys)
put_put region xs ys i j e within =
    let front = take i region in
    let tail = drop (i + length xs) region in
    let long : length front ≡ i = length-take-le i region (omega arith) in
    let at : j ≡ length front + length xs = omega arith in
    let behind : j + length ys ≡ length front + (length xs + length ys) = omega arith in
    let far : i + length xs + length ys ≡ i + length (xs ++ ys) = omega (arith, length-append xs ys) in
    let first : take j (front ++ (xs ++ tail)) ≡ front ++ xs =
    ap (λ k. take k (front ++ (xs ++ tail))) at ∙ take-append-add front (xs ++ tail) (length xs) ∙ ap (λ l. front ++ l) (take-append_seam xs tail) in
    let last : drop (j + length ys) (front ++ (xs ++ tail)) ≡ drop (i + length (xs ++ ys)) region =
    ap (λ k. drop k (front ++ (xs ++ tail))) behind ∙ drop-append-add front (xs ++ tail) (length xs + length ys) ∙ drop-append-add xs tail (length ys)
    ∙ drop-drop (length ys) (i + length xs) region ∙ ap (λ k. drop k region) far in
    ap₂ (λ a b. a ++ (ys ++ b)) first last ∙ append_assoc front xs (ys ++ drop (i + length (xs ++ ys)) region) ∙ ap (λ l. front ++ l)
    (sym (append_assoc xs ys (drop (i + length (xs ++ ys)) region)))

-- ---- ranges of a region

record Within (base : ℕ) (region : List ℕ) (at n : ℕ) : Type 0 where
  low : base ≤ at
  high : at + n ≤ base + length region

within : (base : ℕ) (region : List ℕ) (at n : ℕ) → lies_in base region at n ≡ true → Within base region at n
within base region at n e = let h = and_parts _ _ e in record { low = leb-true _ _ h.0; high = leb-true _ _ h.1 }

lies : (base : ℕ) (region : List ℕ) (at n : ℕ) → Within base region at n → lies_in base region at n ≡ true
lies base region at n h = and_from _ _ (le-leb _ _ h.low) (le-leb _ _ h.high)

past : (base : ℕ) (region : List ℕ) (at n : ℕ) → base + length region < at + n → lies_in base region at n ≡ false
past base region at n h = and_right _ _ (lt-leb _ _ h)

-- the region that has a range which is not empty
data Place (s : State) (at n : ℕ) : Type 0 where
  statics : Within statics_at s.statics at n → Place s at n
  heap : Within heap_at s.heap at n → Place s at n
  stack : Within stack_at s.stack at n → Place s at n

place_by : (s : State) (at n : ℕ) (a b c : Bool) → lies_in statics_at s.statics at n ≡ a → lies_in heap_at s.heap at n ≡ b →
    lies_in stack_at s.stack at n ≡ c → (a || (b || c)) ≡ true → Place s at n
place_by s at n true b c p q r e = statics (within statics_at s.statics at n p)
place_by s at n false true c p q r e = heap (within heap_at s.heap at n q)
place_by s at n false false true p q r e = stack (within stack_at s.stack at n r)
place_by s at n false false false p q r e = absurd (true≢false (sym e))

no_zero : (n : ℕ) → (suc n == 0) ≡ false
no_zero n = ne_eqb (suc n) 0 (λ e. omega arith)

or_drop : (a b : Bool) → a ≡ false → (a || b) ≡ true → b ≡ true
or_drop true b p e = absurd (true≢false p)
or_drop false b p e = e

place : (s : State) (at n : ℕ) → writable s at (suc n) ≡ true → Place s at (suc n)
place s at n e = place_by s at (suc n) _ _ _ refl refl refl (or_drop (suc n == 0) _ (no_zero n) e)

-- a part of the range lies in the same region
part_place : (s : State) (at n i k : ℕ) → i + k ≤ n → Place s at n → Place s (at + i) k
part_place s at n i k le (statics h) = let low = h.low in let high = h.high in statics (record { low = omega arith; high = omega arith })
part_place s at n i k le (heap h) = let low = h.low in let high = h.high in heap (record { low = omega arith; high = omega arith })
part_place s at n i k le (stack h) = let low = h.low in let high = h.high in stack (record { low = omega arith; high = omega arith })

or_right : (a b : Bool) → b ≡ true → (a || b) ≡ true
or_right true b e = refl
or_right false b e = e

or_left : (a b : Bool) → a ≡ true → (a || b) ≡ true
or_left true b e = refl
or_left false b e = absurd (true≢false (sym e))

placed : (s : State) (at n : ℕ) → Place s at n → writable s at n ≡ true
placed s at n (statics h) = or_right (n == 0) _ (or_left (lies_in statics_at s.statics at n) _ (lies statics_at s.statics at n h))
placed s at n (heap h) = or_right (n == 0) _
    (or_right (lies_in statics_at s.statics at n) _ (or_left (lies_in heap_at s.heap at n) _ (lies heap_at s.heap at n h)))
placed s at n (stack h) = or_right (n == 0) _
    (or_right (lies_in statics_at s.statics at n) _ (or_right (lies_in heap_at s.heap at n) _ (lies stack_at s.stack at n h)))

-- a part of a range that may be stored to
pub writable_part : (s : State) (at n i k : ℕ) → writable s at n ≡ true → i + k ≤ n → writable s (at + i) k ≡ true
writable_part s at zero i zero e le = refl
writable_part s at zero i (suc k) e le = absurd (omega arith)
writable_part s at (suc n) i k e le = placed s (at + i) k (part_place s at (suc n) i k le (place s at n e))

place_end : (s : State) (at n : ℕ) → HasRegions s → Place s at n → at + n ≤ 2 ^ 31
place_end s at n r (statics h) = let high = h.high in let most = r.statics_most in omega arith
place_end s at n r (heap h) = let high = h.high in let most = r.heap_most in omega arith
place_end s at n r (stack h) = let high = h.high in let most = r.stack_most in omega arith

-- where a range ends that is not empty
pub writable_end : (s : State) (at n : ℕ) → HasRegions s → 0 < n → writable s at n ≡ true → at + n ≤ 2 ^ 31
writable_end s at zero r some e = absurd (omega arith)
writable_end s at (suc n) r some e = place_end s at (suc n) r (place s at n e)

-- ---- what a fill does, by the region

abbrev in_statics : State → ℕ → List ℕ → State
in_statics s at bytes = record s { statics = put_bytes s.statics (at - statics_at) bytes }

abbrev in_heap : State → ℕ → List ℕ → State
in_heap s at bytes = record s { heap = put_bytes s.heap (at - heap_at) bytes }

abbrev in_stack : State → ℕ → List ℕ → State
in_stack s at bytes = record s { stack = put_bytes s.stack (at - stack_at) bytes }

module _ (s : State) (at b : ℕ) (bs : List ℕ) (r : HasRegions s) where
  abbrev len : ℕ
  len = suc (length bs)

  abbrev bytes : List ℕ
  bytes = b ∷ bs

  abbrev above : State
  above = if lies_in heap_at s.heap at len then in_heap s at bytes else in_stack s at bytes

  not_empty : filled s at bytes ≡ (if lies_in statics_at s.statics at len then in_statics s at bytes else above)
  not_empty = cond-false (len == 0) s (if lies_in statics_at s.statics at len then in_statics s at bytes else above) (no_zero (length bs))

  fills_statics : Within statics_at s.statics at len → filled s at bytes ≡ in_statics s at bytes
  fills_statics h = not_empty ∙ cond-true (lies_in statics_at s.statics at len) (in_statics s at bytes) above (lies statics_at s.statics at len h)

  fills_above : heap_at ≤ at → filled s at bytes ≡ above
  fills_above low = let most = r.statics_most in not_empty ∙ cond-false (lies_in statics_at s.statics at len) (in_statics s at bytes) above
      (past statics_at s.statics at len (omega arith))

  fills_heap : Within heap_at s.heap at len → filled s at bytes ≡ in_heap s at bytes
  fills_heap h = fills_above h.low ∙ cond-true (lies_in heap_at s.heap at len) (in_heap s at bytes) (in_stack s at bytes) (lies heap_at s.heap at len h)

  fills_stack : Within stack_at s.stack at len → filled s at bytes ≡ in_stack s at bytes
  fills_stack h =
      let low = h.low in
      let most = r.heap_most in
      fills_above (omega arith) ∙ cond-false (lies_in heap_at s.heap at len) (in_heap s at bytes) (in_stack s at bytes)
      (past heap_at s.heap at len (omega arith))

-- ---- one piece after another

length_put : (region bytes : List ℕ) (i : ℕ) → i + length bytes ≤ length region → length (put_bytes region i bytes) ≡ length region
length_put region bytes i fits =
    let tail = drop (i + length bytes) region in
    omega (
      arith,
      length-append (take i region) (bytes ++ tail),
      length-append bytes tail,
      length-take-le i region (omega arith),
      length-drop
          (i + length bytes) region,
    )

-- what is put after a front of a range
record After (base : ℕ) (region xs ys : List ℕ) (at : ℕ) : Type 0 where
  here : Within base region at (length xs)
  next : Within base (put_bytes region (at - base) xs) (at + length xs) (length ys)
  whole : Within base region at (length (xs ++ ys))
  joined : put_bytes (put_bytes region (at - base) xs) (at + length xs - base) ys ≡ put_bytes region (at - base) (xs ++ ys)

after : (base : ℕ) (region xs ys : List ℕ) (at : ℕ) → Within base region at (length xs + length ys) → After base region xs ys at
after base region xs ys at h =
    let low = h.low in
    let high = h.high in
    let same = length_put region xs (at - base) (omega arith) in
    let all = length-append xs ys in
    record {
      here = record { low = low; high = omega arith };
      next = record { low = omega arith; high = omega arith };
      whole = record { low = low; high = omega arith };
      joined = put_put region xs ys (at - base) (at + length xs - base) (omega arith) (omega arith);
    }

module _ (s : State) (at x y : ℕ) (xs ys : List ℕ) (r : HasRegions s) (kept : HasRegions (filled s at (x ∷ xs))) where
  abbrev front : List ℕ
  front = x ∷ xs

  abbrev back : List ℕ
  back = y ∷ ys

  abbrev size : ℕ
  size = length front + length back

  more : Place s at size → filled (filled s at front) (at + length front) back ≡ filled s at (front ++ back)
  more (statics h) =
      let a = after statics_at s.statics front back at h in
      let first = fills_statics s at x xs r a.here in
      let whole = fills_statics s at x (xs ++ back) r a.whole in
      ap (λ t. filled t (at + length front) back) first ∙ fills_statics (in_statics s at front) (at + length front) y ys (subst HasRegions first kept) a.next
      ∙ ap (λ l. record s { statics = l }) a.joined ∙ sym whole
  more (heap h) =
      let a = after heap_at s.heap front back at h in
      let first = fills_heap s at x xs r a.here in
      let whole = fills_heap s at x (xs ++ back) r a.whole in
      ap (λ t. filled t (at + length front) back) first ∙ fills_heap (in_heap s at front) (at + length front) y ys (subst HasRegions first kept) a.next ∙ ap
      (λ l. record s { heap = l }) a.joined ∙ sym whole
  more (stack h) =
      let a = after stack_at s.stack front back at h in
      let first = fills_stack s at x xs r a.here in
      let whole = fills_stack s at x (xs ++ back) r a.whole in
      ap (λ t. filled t (at + length front) back) first ∙ fills_stack (in_stack s at front) (at + length front) y ys (subst HasRegions first kept) a.next ∙ ap
      (λ l. record s { stack = l }) a.joined ∙ sym whole

-- a piece that is put behind another one, in a range that may be stored to
pub filled_more : (s : State) (at n : ℕ) (xs ys : List ℕ) → HasRegions s → HasRegions (filled s at xs) → writable s at n ≡ true →
    length xs + length ys ≤ n → filled (filled s at xs) (at + length xs) ys ≡ filled s at (xs ++ ys)
filled_more s at n [] ys r kept e le = ap (λ k. filled s k ys) (add-zero at)
filled_more s at n (x ∷ xs) [] r kept e le = ap (filled s at) (sym (append-nil (x ∷ xs)))
filled_more s at zero (x ∷ xs) (y ∷ ys) r kept e le = absurd (omega arith)
filled_more s at (suc n) (x ∷ xs) (y ∷ ys) r kept e le =
    more s at x y xs ys r kept (subst (λ k. Place s k (suc (length xs) + suc (length ys))) (add-zero at)
    (part_place s at (suc n) 0 (suc (length xs) + suc (length ys)) (omega arith) (place s at n e)))

-- ---- bytes that a source gives

module _ (a b : Option (List ℕ)) (x y : Bool) (i j : ℕ) (g k : List ℕ) (into : List ℕ) (stays : IsTrue x → IsTrue y) where
  -- what a take puts in front of a place
  pub gave_take : (n : ℕ) → Takes {E = Failed} a b (Ok n) into → (IsTrue x → n ≡ 0) → k ≡ g ++ take n into → Gave (feed a x i g) (feed b y j k) (take n into)
  gave_take n t at_end e = record { gave = e; before = before_take a b t }
    where
      before_take : (a b : Option (List ℕ)) → Takes {E = Failed} a b (Ok n) into → (rest : List ℕ) → MayGive b y rest → MayGive a x (take n into ++ rest)
      before_take None None t rest h = λ ended. ap (λ k. take k into ++ rest) (at_end ended) ∙ h (stays ended)
      before_take None (Some now) t rest h = absurd t
      before_take (Some left) None t rest h = absurd t
      before_take (Some left) (Some now) t rest h = ap (λ l. take n into ++ l) h ∙ sym t.0

  -- a take that failed gave nothing
  pub gave_failed : (e : Failed) → Takes {E = Failed} a b (Err e) into → k ≡ g ++ [] → Gave (feed a x i g) (feed b y j k) []
  gave_failed e t same = record { gave = same; before = before_take a b t }
    where
      before_take : (a b : Option (List ℕ)) → Takes {E = Failed} a b (Err e) into → (rest : List ℕ) → MayGive b y rest → MayGive a x rest
      before_take None None t rest h = λ ended. h (stays ended)
      before_take None (Some now) t rest h = absurd t
      before_take (Some left) None t rest h = absurd t
      before_take (Some left) (Some now) t rest h = h ∙ t

-- nothing comes after the end
pub end_take : (a b : Option (List ℕ)) (y : Bool) (n : ℕ) (into : List ℕ) → Takes {E = Failed} a b (Ok n) into → n ≡ 0 → 0 < length into → IsTrue y →
    (rest : List ℕ) → MayGive b y rest → rest ≡ []
end_take None None y n into t none some ended rest h = h ended
end_take None (Some now) y n into t none some ended rest h = absurd t
end_take (Some left) None y n into t none some ended rest h = absurd t
end_take (Some left) (Some now) y n into t none some ended rest h = h ∙ sym (ap (λ k. take k into ++ now) none) ∙ sym t.0 ∙ t.1 none some

pub part_none : (s : State) (at : ℕ) (b : Feed) → Part s at b 0 s b
part_none s at b = record { given = []; counted = refl; gave = gave_none b; state = refl }

pub part_same : (s t : State) (at : ℕ) (b c : Feed) → t ≡ s → Gave b c [] → Part s at b 0 t c
part_same s t at b c e gave = record { given = []; counted = refl; gave = gave; state = e }

-- a piece more
pub part_more : (s t : State) (at size done count : ℕ) (b c d : Feed) (bytes : List ℕ) → HasRegions s → HasRegions t → writable s at size ≡ true →
    length bytes ≡ count → done + count ≤ size → Gave c d bytes → Part s at b done t c → Part s at b (done + count) (filled t (at + done) (as_bytes bytes)) d
part_more s t at size done count b c d bytes r kept may long fits gave p =
    let counted = as_many_read p.given ∙ p.counted in
    let more = as_many_read bytes ∙ long in
    record {
      given = p.given ++ bytes;
      counted = length-append p.given bytes ∙ ap₂ (λ n m. n + m) p.counted long;
      gave = gave_then b c d p.given bytes p.gave gave;
      state = ap₂ (λ u k. filled u (at + k) (as_bytes bytes)) p.state (sym counted)
          ∙ filled_more s at size (as_bytes p.given) (as_bytes bytes) r (subst HasRegions p.state kept) may (omega (arith, counted, more, fits))
          ∙ ap (filled s at) (sym (both_read p.given bytes));
    }

pub part_then : (s t u : State) (at size done count : ℕ) (b c d : Feed) → HasRegions s → HasRegions t → writable s at size ≡ true → done + count ≤ size →
    Part s at b done t c → Part t (at + done) c count u d → Part s at b (done + count) u d
part_then s t u at size done count b c d r kept may fits p q =
    subst (λ x. Part s at b (done + count) x d) (sym q.state) (part_more s t at size done count b c d q.given r kept may q.counted fits q.gave p)

-- nothing came behind a piece
pub filled_end : (s t u : State) (at size done count : ℕ) (b c d : Feed) → HasRegions s → HasRegions t → writable s at size ≡ true → done ≤ size →
    count ≡ 0 → Part s at b done t c → c.faults ≡ b.faults → Part t (at + done) c count u d → d.faults ≡ c.faults → NoMore d → Filled s at size b done u d
filled_end s t u at size done count b c d r kept may le none p same q still over = record {
  part = subst (λ k. Part s at b k u d) (omega arith) (part_then s t u at size done count b c d r kept may (omega arith) p q);
  faults = still ∙ same;
  bound = le;
  all = inr over;
}

-- the source failed behind a piece
pub failing_then : (s t u : State) (at size done : ℕ) (b c d : Feed) → HasRegions s → HasRegions t → writable s at size ≡ true → done < size →
    Part s at b done t c → c.faults ≡ b.faults → Part t (at + done) c 0 u d → Rose c.faults d.faults → Failing s at size b u d
failing_then s t u at size done b c d r kept may lt p same q rose = record {
  count = done + 0;
  part = part_then s t u at size done 0 b c d r kept may (omega arith) p q;
  fewer = omega arith;
  rose = subst (λ k. Rose k d.faults) same rose;
}

-- registers and the program counter are no matter of the regions
pub answered_regions : (s : State) (value : ℕ) → HasRegions s → HasRegions (answered s value)
answered_regions s value r = record { code_most = r.code_most; statics_most = r.statics_most; heap_most = r.heap_most; stack_most = r.stack_most }

pub same_sizes : (s : State) → KeepsSizes s s
same_sizes s = record { regs = refl; pc = refl; code = refl; statics = refl; heap = refl; stack = refl }

-- ---- the front of an array that a take has filled

pub front_long : (count : ℕ) (into rest : List ℕ) → count ≤ length into → length (take count (into ++ rest)) ≡ count
front_long count into rest le = ap length (take-append-le count into rest le) ∙ length-take-le count into le

pub front_may : (s : State) (at size count : ℕ) (into rest : List ℕ) → writable s at size ≡ true → count ≤ length into → count ≤ size →
    writable s at (length (take count (into ++ rest))) ≡ true
front_may s at size count into rest may le fits =
    subst (λ k. writable s at k ≡ true) (sym (front_long count into rest le))
    (subst (λ a. writable s a count ≡ true) (add-zero at) (writable_part s at size 0 count may (omega arith)))

pub front_part : (s t : State) (at count : ℕ) (b c : Feed) (into rest : List ℕ) →
    as_bytes (take count (into ++ rest)) ≡ take count (into ++ rest) → count ≤ length into →
    Gave b c (take count into) → t ≡ filled s at (take count (into ++ rest)) → Part s at b count t c
front_part s t at count b c into rest same le gave e =
    let front = take-append-le count into rest le in
    record {
      given = take count into;
      counted = length-take-le count into le;
      gave = gave;
      state = e ∙ ap (filled s at) (sym (ap as_bytes (sym front) ∙ same));
    }

pub front_sizes : (s t : State) (at size count : ℕ) (into rest : List ℕ) →
    ((s : State) (at : ℕ) (bytes : List ℕ) → writable s at (length bytes) ≡ true → KeepsSizes s (filled s at bytes)) → writable s at size ≡ true →
    count ≤ length into → count ≤ size → t ≡ filled s at (take count (into ++ rest)) → KeepsSizes s t
front_sizes s t at size count into rest sizes may le fits e =
    subst (KeepsSizes s) (sym e) (sizes s at (take count (into ++ rest)) (front_may s at size count into rest may le fits))
