-- Each line of a hook that calls nothing does in word code what it does with the values.
use Rattle.std.proofs.Common.{◌≡◌, ◌≢◌, ◌⊎◌, inl, inr, ℕ, suc, ◌+◌, ◌%◌, ◌^◌, ◌<◌, ◌≤◌, Bool, true, false, List, [], ◌∷◌, length, Option, Some, None}
use Rattle.std.proofs.Common.{refl, sym, ap, subst, ◌∙◌, arith}
use Rattle.std.specs.Prelude.{slice_get, ℤ, pos, unsigned_abs, ◌+ℤ◌, int_lt, nat_lt, nat_le, not}
use Rattle.std.proofs.lemmas.Bool.{cases_eq, ltb-true, leb-true, and_parts}
use Rattle.nim_types.specs.declared.types.TypeDef.{TypeDef}
use Rattle.nim_types.specs.declared.types.TypeDef.TheVariants as D
use Rattle.nim_types.specs.declared.types.TheConstants.{LIST_BYTES}
use Rattle.nim_program.specs.Ints.{inside}
use Rattle.nim_meaning.specs.Acts.{branch}
use Rattle.nim_meaning.specs.Values.{Value, Number, Handle, Location, InHand, at_base, deeper, item_of, number_of, length_of, block_of, vacant}
use Rattle.nim_meaning.specs.State.{World, load, store, is_seen, is_there, pushed, popped}
use Rattle.nim_meaning.specs.Deeds.{Deed, Errs, Stores, Pushes, Pops, Done, Answers, perform, give, costs, looks, ◌>>=◌, ◌>>◌}
use Rattle.nim_meaning.specs.Deeds.{unless_gone, does as changes, sees, sets}
use Rattle.nim_meaning.specs.Places.{to_part}
use Rattle.nim_meaning.specs.Lifted.{in_hand}
use Rattle.flat_code.specs.declared.line.Line.TheVariants as L
use Rattle.flat_code.specs.Scene.{Known, known_in, Scene, Did, Passes, Leaps, Turns, Returns, Located, location_at, Temps, with_value, with_place}
use Rattle.flat_code.specs.Scene as scenes
use Rattle.flat_code.specs.Lines.{form_in, using, using_number, leads, gives, acts, turns_where}
use Rattle.rv32_isa.specs.Machine.{Lives}
use Rattle.word_code.specs.declared.word.WordInstr.{WordInstr}
use Rattle.word_code.specs.declared.word.WordInstr.TheVariants as W
use Rattle.word_code.specs.declared.word.Test.TheVariants as test
use Rattle.word_code.specs.declared.word.WordOperation.TheVariants as operation
use Rattle.word_code.specs.declared.word.WordProc.{WordProc}
use Rattle.word_code.specs.Memory.{Memory}
use Rattle.word_code.specs.Words.{Vars, put, WordState, computed, Fresh, step_of}
use Rattle.arc_base.proofs.ForCallers.{steps_none}
use Rattle.word_code.proofs.ForCallers.{Runs, then_runs, Within, at, run_label, run_constant, run_copy, run_sum, run_compute, run_place}
use Rattle.word_code.proofs.ForCallers.{run_past, run_off}
use Rattle.hook_lifting.specs.declared.lifted.LiftedLine.{LiftedLine}
use Rattle.hook_lifting.specs.declared.lifted.LiftedLine.TheVariants as O
use Rattle.hook_lifting.specs.Lifting.{does_by}
use Rattle.hook_code.specs.declared.numbers.TheConstants.{ADDRESS, ONE, OTHER}
use Rattle.hook_code.specs.HookCode.{handle_got, handle_with, handle_put, element_of, part_at, bytes_at}
use Rattle.hook_code.specs.Surroundings.{Hand, with_one, with_handle, element_address, Stays, StaysIf, IsHandled, IsRead, IsPut, Surroundings}
use Rattle.hook_code.proofs.Env.{Env, IsPart, IsCount, IsPair, IsFrom, Holds, Covers, counted, turned as one_past, located, led, handled, under_way, over}
use Rattle.hook_code.proofs.Env.{part_type}
use Rattle.hook_code.proofs.Seen.{seen_full}
use Rattle.hook_code.proofs.Known.{put_here, put_there, put_word, AreKept, kept_none, kept_between, Knows, AtPlace, HasCount, HasPair, IfFull, pair_few}
use Rattle.hook_code.proofs.Known.{knows_kept, knows_later, knows_covered, knows_small, knows_over, knows_place, knows_count, knows_turned, knows_pair}
use Rattle.hook_code.proofs.Known.{IsTied, knows_begun, same_some}
use Rattle.hook_code.proofs.Lines.{low_of, hand_of, got_runs, loaded, loaded_kept, loaded_there, loaded_between, stored_runs, Before, state, word_state}
use Rattle.hook_code.proofs.Lines.{Reached}
use Rattle.hook_code.proofs.Lines.{Outcome, IsLed, IsReturned, Led, led_by, worked, guarded}

abbrev count_in : Option Value → ℕ
count_in None = 0
count_in (Some v) = unsigned_abs (number_of v)

module _ (table : List TypeDef) (z : Surroundings table) (live : Lives) (procs : List WordProc) (fresh : Fresh) (h : Hand) (own : ℕ) (c : Within)
    (began : z.Blocks)
    (joined : ℕ → Env) (first ty level : ℕ) (base_is : c.base ≡ own) (own_small : own < 2 ^ 32) where
  abbrev known : Known
  known = known_in table

  abbrev B : Env → Temps → World → Type 0
  B e temps w = Before table z live procs fresh h own c began joined e temps w

  abbrev At_line : Type 0
  At_line = ℕ × WordState

  abbrev Ws : {e : Env} {temps : Temps} {w : World} → B e temps w → List WordInstr → WordState
  Ws b code = word_state table z live procs fresh h own c began joined b code

  abbrev St : {e : Env} {temps : Temps} {w : World} → B e temps w → List WordInstr → At_line
  St b code = state table z live procs fresh h own c began joined b code

  abbrev W_c : (awaits : ℕ) → Within
  W_c n = record c { awaits = n }

  abbrev R : ℕ → WordState → WordState → Type 0
  R n s t = Runs live procs n s t

  abbrev K : z.Blocks → Env → Temps → Vars → Type 0
  K d e temps vars = Knows table z h own d e temps vars

  abbrev Out : Env → List WordInstr → (ℕ → ℕ) → Done Temps → At_line → Type 0
  Out f code most done s = Outcome table z live procs fresh h own c began joined f code most done s

  -- a line leads to a label, where as much is known as there is always
  abbrev Led_to : (name : ℕ) → Temps → World → At_line → (most : ℕ) → Type 0
  Led_to name temps w s most = IsLed table z live procs fresh h own c began joined name temps w s most

  -- what a line does, and what comes of its code, in so many lines at most for what it works
  abbrev pub Settles : Env → List WordInstr → (most : ℕ → ℕ) → Did → World → Temps → At_line → Type 0
  Settles f code most (Passes done) w temps s = Out f code most done s
  Settles f code most (Leaps name n) w temps s = Led_to name temps w s (most n)
  Settles f code most (Turns now name) w temps s = Led_to name now w s (most 1)
  Settles f code most (Returns u n) w temps s = IsReturned table z live procs fresh h own c began joined w s (most n)
  Settles f code most scenes.Fails w temps s = Unit {0}
  Settles f code most d w temps s = ⊥

  module _ {e : Env} {temps : Temps} {w : World} (b : B e temps w) (k : List WordInstr) (most : ℕ → ℕ) where
    -- behind one work
    abbrev later : ℕ → ℕ
    later n = most (1 + n)

    -- so many lines at least may be done for one work
    abbrev May : ℕ → Type 0
    May n = n ≤ most 1

    abbrev x : Scene
    x = record { world = w; level = level; temps = temps }

    abbrev does_it : LiftedLine → Did
    does_it line = does_by known x line

    abbrev S : Env → Did → List WordInstr → Type 0
    S f did code = Settles f k most did w temps (St b code)

    abbrev d : z.Blocks
    d = b.blocks

    abbrev v : Vars
    v = b.vars

    abbrev cw : Within
    cw = W_c b.awaits

    -- all is as before but for variables
    abbrev after_with : ℕ → (f : Env) (now : Temps) → f.begun ≡ e.begun → (vars : Vars) → K d f now vars → B f now w
    after_with done f now same vars knows = record {
      done = done;
      memory = b.memory;
      vars = vars;
      given = b.given;
      awaits = b.awaits;
      blocks = d;
      ahead = b.ahead;
      here = subst (λ o. z.Here (low_of own o) (own + LIST_BYTES) (hand_of h own o) d w b.memory) (sym same) b.here;
      knows = knows;
    }

    passes : (f : Env) (now : Temps) (same : f.begun ≡ e.begun) (vars : Vars) (knows : K d f now vars) (lines limit : ℕ) (few : lines ≤ limit)
        (code there : List WordInstr) → R lines (Ws b code) (at cw b.memory there vars b.given)
        → Reached table z live procs fresh h own c began joined f now w there (St b code) limit
    passes f now same vars knows lines limit few code there runs =
        let r = runs.by fresh b.done in record { before = after_with r.0 f now same vars knows; lines = lines; few = few; runs = r.1 }

    -- ---- numbers

    pub zero_line : May 1 → (to : ℕ) → IsCount to → S (counted e to) (does_it (O.Plain (L.Zero to))) (W.Constant to 0 ∷ k)
    zero_line may to is = (
      refl,
      passes (counted e to) (with_value to temps (Number (pos 0))) refl (put v to 0)
          (knows_count table z h own d e temps v b.knows to 0 is (omega arith)) 1 (most 1) may (W.Constant to 0 ∷ k) k
          (run_constant live procs cw b.memory k v b.given to 0),
    )

    pub number_line : May 1 → (to n : ℕ) → IsCount to → n < 2 ^ 32 → S (counted e to) (does_it (O.Number to n)) (W.Constant to n ∷ k)
    number_line may to n is small = (
      refl,
      passes (counted e to) (with_value to temps (Number (pos n))) refl (put v to n)
          (knows_count table z h own d e temps v b.knows to n is small) 1 (most 1) may (W.Constant to n ∷ k) k
          (run_constant live procs cw b.memory k v b.given to n),
    )

    pub count_line : May 1 → (to of t : ℕ) (o : Bool) → IsCount to → Holds e of true o t → S (counted e to) (does_it (O.Count to of)) (W.Copy to of ∷ k)
    count_line may to of t owned is holds =
        let p = b.knows.has of (true, (owned, t)) holds in
        let l = z.length_is owned d p.value t p.length p.place p.sure p.handle in
        let s = z.handle_small owned d p.value t p.length p.place p.handle in
        subst (λ o. S (counted e to) (using o (λ u. gives x to (costs 1 (give (Number (pos (length_of u))))))) (W.Copy to of ∷ k)) (sym p.there)
        (subst (λ n. Out (counted e to) k most (Answers [] 1 (with_value to temps (Number (pos n))) w) (St b (W.Copy to of ∷ k))) (sym l) (
          refl,
          passes (counted e to) (with_value to temps (Number (pos p.length))) refl (put v to p.length)
              (knows_count table z h own d e temps v b.knows to p.length is s.0) 1 (most 1) may (W.Copy to of ∷ k) k
              (run_copy live procs cw b.memory k v b.given to of p.long),
        ))

    pub copy_line : May 1 → (to of : ℕ) → IsCount to → e.counts of ≡ true → S (counted e to) (does_it (O.Copy to of)) (W.Copy to of ∷ k)
    copy_line may to of is has =
        let q = b.knows.counts of has in
        subst (λ o. S (counted e to) (using o (λ u. gives x to (costs 1 (give u)))) (W.Copy to of ∷ k)) (sym q.value) (
          refl,
          passes (counted e to) (with_value to temps (Number (pos q.number))) refl (put v to q.number)
              (knows_count table z h own d e temps v b.knows to q.number is q.small) 1 (most 1) may (W.Copy to of ∷ k) k
              (run_copy live procs cw b.memory k v b.given to of q.variable),
        )

    pub label_line : May 1 → (name : ℕ) → Covers e (joined name) → S (joined name) (does_it (O.Plain (L.Label name))) (W.Label name ∷ k)
    label_line may name covers = (
      refl,
      passes (joined name) temps (sym covers.begun) v (knows_covered table z h own d e temps v b.knows (joined name) covers) 1 (most 1) may
          (W.Label name ∷ k) k (run_label live procs cw b.memory k v b.given name),
    )

    -- the same number again
    knows_again : (to : ℕ) (q : HasCount table z h own temps v to) → K d (counted e to) (with_value to temps (Number (pos q.number))) v
    knows_again to q =
        knows_kept table z h own d (counted e to) (with_value to temps (Number (pos q.number))) (put v to q.number)
        (knows_count table z h own d e temps v b.knows to q.number q.is q.small) v (λ u few. by u (cases_eq u to))
      where
        by : (u : ℕ) → (u ≡ to) ⊎ (u ≢ to) → v u ≡ put v to q.number u
        by u (inl e) = subst (λ i. v i ≡ put v to q.number i) (sym e) (q.variable ∙ sym (put_word v to q.number q.small))
        by u (inr ne) = sym (put_there v to q.number u ne)

    pub test_line : May 1 → (counter last name : ℕ) → e.counts counter ≡ true → e.counts last ≡ true → Covers e (joined name)
        → S (counted e counter) (does_it (O.Plain (L.Beyond counter last false name))) (W.Branch test.NotBelow counter last name ∷ k)
    test_line may counter last name has has_last covers =
        let q = b.knows.counts counter has in
        let r = b.knows.counts last has_last in
        subst (λ o. S (counted e counter) (using o (λ u. using_number temps last (λ n. go (number_of u) n))) code) (sym q.value)
        (subst (λ o. S (counted e counter) (using o (λ u. go (pos q.number) (number_of u))) code) (sym r.value)
        (on (nat_lt q.number r.number) refl))
      where
        code : List WordInstr
        code = W.Branch test.NotBelow counter last name ∷ k

        q : HasCount table z h own temps v counter
        q = b.knows.counts counter has

        r : HasCount table z h own temps v last
        r = b.knows.counts last has_last

        go : ℤ → ℤ → Did
        go i n = branch (int_lt i n) (gives x counter (costs 1 (give (Number i)))) (Leaps name 1)

        on : (less : Bool) → nat_lt q.number r.number ≡ less
            → S (counted e counter) (branch (nat_lt q.number r.number) (gives x counter (costs 1 (give (Number (pos q.number))))) (Leaps name 1)) code
        on true is =
            subst (λ b. S (counted e counter) (branch b (gives x counter (costs 1 (give (Number (pos q.number))))) (Leaps name 1)) code) (sym is) (
              refl,
              passes (counted e counter) (with_value counter temps (Number (pos q.number))) refl v (knows_again counter q) 1 (most 1) may code k
                  (run_past live procs cw b.memory k v b.given test.NotBelow counter last name q.variable r.variable (ap not is)),
            )
        on false is =
            subst (λ b. S (counted e counter) (branch b (gives x counter (costs 1 (give (Number (pos q.number))))) (Leaps name 1)) code) (sym is)
            (λ there stands. passes (joined name) temps (sym covers.begun) v (knows_covered table z h own d e temps v b.knows (joined name) covers) 1 (most 1)
            may code there
            (run_off live procs cw b.memory k v b.given test.NotBelow counter last name there q.variable r.variable (ap not is) stands))

    pub turn_line : May 2 → (last name : ℕ) → e.counts 4 ≡ true → e.counts last ≡ true → (last ≡ 4 → ⊥) → e.small ≡ true → Covers (counted e 4) (joined name)
        → S (one_past e 4) (does_it (O.Plain (L.CountTurn 4 last false name))) (W.Sum 4 4 1 ∷ W.Branch test.Below 4 last name ∷ k)
    turn_line may last name has has_last away small covers =
        subst (λ o. S (one_past e 4) (using o (λ u. using_number temps last (λ n. go (number_of u) n))) code) (sym q.value)
        (subst (λ o. S (one_past e 4) (using o (λ u. go (pos q.number) (number_of u))) code) (sym r.value)
        (subst (λ i. S (one_past e 4) (turns_where x (int_lt i (pos r.number)) (with_value 4 temps (Number i)) name) code) (sym next_number)
        (on (nat_lt (suc q.number) r.number) refl)))
      where
        code : List WordInstr
        code = W.Sum 4 4 1 ∷ W.Branch test.Below 4 last name ∷ k

        q : HasCount table z h own temps v 4
        q = b.knows.counts 4 has

        r : HasCount table z h own temps v last
        r = b.knows.counts last has_last

        go : ℤ → ℤ → Did
        go i n = turns_where x (int_lt (i +ℤ pos 1) n) (with_value 4 temps (Number (i +ℤ pos 1))) name

        next_number : pos q.number +ℤ pos 1 ≡ pos (suc q.number)
        next_number = let e : q.number + 1 ≡ suc q.number = omega arith in ap (λ n. pos n) e

        fits : suc q.number < 2 ^ 32
        fits =
            let s = b.knows.small small in
            let same : q.number ≡ s.number = ap count_in (sym q.value ∙ s.value) in
            let next = s.next in omega (arith, same, next)

        after : Vars
        after = put v 4 (q.number + 1)

        four : after 4 ≡ Some (suc q.number)
        four = let e : q.number + 1 ≡ suc q.number = omega arith in ap (λ n. put v 4 n 4) e ∙ put_word v 4 (suc q.number) fits

        knows_next : K d (counted e 4) (with_value 4 temps (Number (pos (suc q.number)))) after
        knows_next =
            let e1 : suc q.number ≡ q.number + 1 = omega arith in
            subst (λ n. K d (counted e 4) (with_value 4 temps (Number (pos (suc q.number)))) (put v 4 n)) e1
            (knows_count table z h own d e temps v b.knows 4 (suc q.number) (inl refl) fits)

        counts_on : R 1 (Ws b code) (at cw b.memory (W.Branch test.Below 4 last name ∷ k) after b.given)
        counts_on = run_sum live procs cw b.memory (W.Branch test.Below 4 last name ∷ k) v b.given 4 4 1 q.variable

        last_too : after last ≡ Some r.number
        last_too = put_there v 4 (q.number + 1) last away ∙ r.variable

        on : (less : Bool) → nat_lt (suc q.number) r.number ≡ less
            → S (one_past e 4) (turns_where x (nat_lt (suc q.number) r.number) (with_value 4 temps (Number (pos (suc q.number)))) name) code
        on true is =
            subst (λ b. S (one_past e 4) (turns_where x b (with_value 4 temps (Number (pos (suc q.number)))) name) code) (sym is)
            (λ there stands. passes (joined name) (with_value 4 temps (Number (pos (suc q.number)))) (sym covers.begun) after
            (knows_covered table z h own d (counted e 4) (with_value 4 temps (Number (pos (suc q.number)))) after knows_next (joined name) covers) 2 (most 1)
            may code there
            (then_runs live procs counts_on
            (run_off live procs cw b.memory k after b.given test.Below 4 last name there four last_too is stands)))
        on false is =
            subst (λ b. S (one_past e 4) (turns_where x b (with_value 4 temps (Number (pos (suc q.number)))) name) code) (sym is) (
              refl,
              passes (one_past e 4) temps refl after (knows_turned table z h own d e temps v b.knows (q.number + 1)) 2 (most 1) may code k
                  (then_runs live procs counts_on
                  (run_past live procs cw b.memory k after b.given test.Below 4 last name four last_too is)),
            )

    -- ---- parts and elements

    pub part_line : May 1 → (to from i of : ℕ) (owned : Bool) → IsPart to → e.at from ≡ Some (owned, ty) → e.begun ≡ None →
        part_type table ty joined (λ hook t. Unit {0}) i ≡ Some of
        → S (located e to owned of) (does_it (O.Plain (L.Part to from i))) (W.Sum to from (part_at table ty i) ∷ k)
    part_line may to from i of owned part is begun typed =
        let p = b.knows.at from (owned, ty) is in
        subst (λ o. S (located e to owned of) (using o (λ place. leads x to place (to_part (location_at temps place) i)))
        (W.Sum to from (part_at table ty i) ∷ k))
        (sym p.place) (
          refl,
          passes (located e to owned of) (with_place to temps (Located (deeper p.location i))) refl (put v to (p.address + part_at table ty i))
              (knows_place table z h own d e temps v b.knows to owned of (p.address + part_at table ty i) (deeper p.location i) part begun
              (z.to_part owned h d p.location p.address ty i of typed p.leads)) 1 (most 1) may (W.Sum to from (part_at table ty i) ∷ k) k
              (run_sum live procs cw b.memory k v b.given to from (part_at table ty i) p.variable),
        )

    is_less : (i n : ℕ) → inside (pos i) n ≡ true → i < n
    is_less i n e = ltb-true i n (and_parts _ _ e).1

    -- an element of so many bytes, of which the first one's address is known
    element_reached : May 3 → (to start i size el : ℕ) (owned : Bool) (a : ℕ) (l : Location) → IsPart to → e.begun ≡ None → v start ≡ Some a → start ≢ ADDRESS
        → (q : HasCount table z h own temps v 4) → q.number + 1 < 2 ^ 32 → z.Leads owned h d l (element_address a q.number size) el
        → Reached table z live procs fresh h own c began joined (led e to owned el) (with_place to temps (Located l)) w k (St b (element_of to start 4 size k))
        (most 1)
    element_reached may to start i size el owned a l part begun has away q small leads_there =
        passes (led e to owned el) (with_place to temps (Located l)) refl (put v2 to (computed operation.Add a product))
        (knows_small table z h own d (located e to owned el) (with_place to temps (Located l)) (put v2 to (computed operation.Add a product))
        (knows_place table z h own d e temps v2 (knows_kept table z h own d e temps v b.knows v2 kept) to owned el (computed operation.Add a product) l
        part begun
        leads_there)
        (record { number = q.number; value = q.value; next = small })) 3 (most 1) may (element_of to start 4 size k) k
        (then_runs live procs (run_constant live procs cw b.memory l2 v b.given ADDRESS size)
        (then_runs live procs (run_compute live procs cw b.memory l1 v1 b.given ADDRESS operation.Multiply 4 ADDRESS
        (put_there v ADDRESS size 4 (λ e. omega (arith, e)) ∙ q.variable) (put_here v ADDRESS size))
        (run_compute live procs cw b.memory k v2 b.given to operation.Add start ADDRESS
        (put_there v1 ADDRESS (computed operation.Multiply q.number (size % 2 ^ 32)) start away ∙ (put_there v ADDRESS size start away ∙ has))
        (put_here v1 ADDRESS (computed operation.Multiply q.number (size % 2 ^ 32))))))
      where
        l1 : List WordInstr
        l1 = W.Compute to operation.Add start ADDRESS ∷ k

        l2 : List WordInstr
        l2 = W.Compute ADDRESS operation.Multiply 4 ADDRESS ∷ l1

        product : ℕ
        product = computed operation.Multiply q.number (size % 2 ^ 32) % 2 ^ 32

        v1 : Vars
        v1 = put v ADDRESS size

        v2 : Vars
        v2 = put v1 ADDRESS (computed operation.Multiply q.number (size % 2 ^ 32))

        kept : AreKept v v2
        kept = kept_between v v1 ADDRESS (computed operation.Multiply q.number (size % 2 ^ 32)) (omega arith)
            (kept_between v v ADDRESS size (omega arith) (kept_none v))

    pub member_line : May 3 → (to at n el : ℕ) (owned : Bool) → IsPart to → e.at at ≡ Some (owned, ty) → slice_get table ty ≡ Some (D.Array n el) → n < 2 ^ 32 →
        e.counts 4 ≡ true
        → e.begun ≡ None → S (led e to owned el) (does_it (O.Member to at 4 n)) (element_of to at 4 (bytes_at table el) k)
    member_line may to at n el owned part is typed few has begun =
        subst (λ o. S (led e to owned el) (using o (λ place. using_number temps 4 (λ i. go (location_at temps place) i))) code) (sym p.place)
        (subst (λ o. S (led e to owned el) (using o (λ u. go p.location (number_of u))) code) (sym q.value) (on (inside (pos q.number) n) refl))
      where
        code : List WordInstr
        code = element_of to at 4 (bytes_at table el) k

        p : AtPlace table z h own d temps v at (owned, ty)
        p = b.knows.at at (owned, ty) is

        q : HasCount table z h own temps v 4
        q = b.knows.counts 4 has

        go : Location → ℤ → Did
        go a i = branch (inside i n) (leads x to (Located a) (costs 1 (give (deeper a (unsigned_abs i))))) scenes.Fails

        on : (within : Bool) → inside (pos q.number) n ≡ within
            → S (led e to owned el) (branch (inside (pos q.number) n) (leads x to (Located p.location) (costs 1 (give (deeper p.location q.number))))
            scenes.Fails) code
        on false e1 =
            subst (λ w. S (led e to owned el) (branch w (leads x to (Located p.location) (costs 1 (give (deeper p.location q.number)))) scenes.Fails) code)
            (sym e1) tt
        on true e1 =
            let less = is_less q.number n e1 in
            subst (λ w. S (led e to owned el) (branch w (leads x to (Located p.location) (costs 1 (give (deeper p.location q.number)))) scenes.Fails) code)
            (sym e1) (
              refl,
              element_reached may to at q.number (bytes_at table el) el owned p.address (deeper p.location q.number) part begun p.variable
                  (λ f. let g = p.few in omega (arith, f, g)) q (omega (arith, less, few))
                  (z.to_member owned h d p.location p.address ty n q.number el typed less p.leads),
            )

    pub element_line : May 3 → (to of at el : ℕ) (owned : Bool) → IsPart to → Holds e of true owned ty → e.at at ≡ Some (owned, ty) → IsFrom owned at →
        slice_get table ty ≡ Some (D.Seq el) → e.counts 4 ≡ true
        → e.begun ≡ None → S (led e to owned el) (does_it (O.Element to of at 4)) (element_of to (of + 3) 4 (bytes_at table el) k)
    element_line may to of at el owned part holds is from typed has begun =
        subst (λ o. S (led e to owned el) (using o (λ u. using (temps.places at) (λ place. using_number temps 4 (λ i. go u (location_at temps place) i)))) code)
        (sym r.there)
        (subst (λ o. S (led e to owned el) (using o (λ place. using_number temps 4 (λ i. go r.value (location_at temps place) i))) code) (sym p.place)
        (subst (λ o. S (led e to owned el) (using o (λ u. go r.value p.location (number_of u))) code) (sym q.value)
        (on (inside (pos q.number) (length_of r.value)) refl)))
      where
        code : List WordInstr
        code = element_of to (of + 3) 4 (bytes_at table el) k

        p : AtPlace table z h own d temps v at (owned, ty)
        p = b.knows.at at (owned, ty) is

        q : HasCount table z h own temps v 4
        q = b.knows.counts 4 has

        r : HasPair table z h own d temps v of true owned ty
        r = b.knows.has of (true, (owned, ty)) holds

        stays_by : (o : Bool) → IsFrom o at → IsTied o temps r.value → StaysIf o p.location r.value
        stays_by true f t = tt
        stays_by false f t =
            subst (λ l. Stays l r.value)
            (ap (location_at temps) (same_some (Located t.0) (Located p.location) (sym t.1 ∙ (ap temps.places (sym f) ∙ p.place)))) t.2

        go : Value → Location → ℤ → Did
        go u a i = branch (inside i (length_of u)) (leads x to (Located a) (costs 1 (give (item_of u a (unsigned_abs i))))) scenes.Fails

        leads_on : Did
        leads_on = leads x to (Located p.location) (costs 1 (give (item_of r.value p.location q.number)))

        on : (within : Bool) → inside (pos q.number) (length_of r.value) ≡ within
            → S (led e to owned el) (branch (inside (pos q.number) (length_of r.value)) leads_on scenes.Fails) code
        on false e1 = subst (λ w. S (led e to owned el) (branch w leads_on scenes.Fails) code) (sym e1) tt
        on true e1 =
            let less = is_less q.number (length_of r.value) e1 in
            let l = z.length_is owned d r.value ty r.length r.place r.sure r.handle in
            let s = (z.handle_small owned d r.value ty r.length r.place r.handle).0 in
            subst (λ w. S (led e to owned el) (branch w leads_on scenes.Fails) code) (sym e1) (
              refl,
              element_reached may to (of + 3) q.number (bytes_at table el) el owned r.place (item_of r.value p.location q.number) part begun r.contents
                  (λ f. let g = (pair_few of r.is).1 in omega (arith, f, g)) q (omega (arith, less, l, s))
                  (z.to_element owned h d p.location r.value p.address ty r.length r.place q.number el typed r.sure r.handle (stays_by owned from r.tied)
                  less p.leads),
            )

    -- ---- handles

    abbrev O_of : Env → List WordInstr → Done Temps → Type 0
    O_of f code done = Out f k most done (St b code)

    -- a handle is read into a pair
    pair_read : (limit : ℕ) → 3 ≤ limit → (to at t : ℕ) (full o : Bool) (l : Location) (a : ℕ) (u : Value) → IsPair to → at ≤ 3 → v at ≡ Some a
        → (r : IsRead (λ n p. z.IsHandle o d t u n p) b.memory a) → IfFull table z h own full u → IsTied o temps u
        → Reached table z live procs fresh h own c began joined (handled e to full o t) (with_value to temps u) w k (St b (handle_got to at k)) limit
    pair_read limit may to at t full o l a u is few has r sure tied =
        passes (handled e to full o t) (with_value to temps u) refl (loaded live procs cw b.memory k v b.given to a r.length r.place)
        (knows_kept table z h own d (handled e to full o t) (with_value to temps u) (put (put v to r.length) (to + 3) r.place)
        (knows_pair table z h own d e temps v b.knows to t r.length r.place full o u is r.are sure tied)
        (loaded live procs cw b.memory k v b.given to a r.length r.place) (loaded_kept live procs cw b.memory k v b.given to a r.length r.place)) 3 limit may
        (handle_got to at k) k
        (got_runs live procs cw b.memory k v b.given (λ n p. z.IsHandle o d t u n p) to at a (pair_few to is).0 few has r)

    pub load_line : May 3 → (to at t : ℕ) (owned : Bool) → IsPair to → e.at at ≡ Some (owned, t) → IsFrom owned at → IsHandled (slice_get table t)
        → S (handled e to true owned t) (does_it (O.Load to at)) (handle_got to at k)
    load_line may to at t owned is there from handles =
        subst (λ o. S f (using o (λ place. gives x to (costs 1 (sees (location_at temps place) (λ world u. give u))))) code) (sym p.place)
        (worked table z live procs fresh h own c began joined f k (St b code) most 1 (perform (sees p.location (λ world u. give u) >>= put_it) w)
        (guarded table z live procs fresh h own c began joined f k (St b code) later (λ deed. deed >>= put_it) refl (is_seen w p.location)
        (give (load w p.location)) w
        (λ seen. (
          refl,
          pair_read (most 1) may to at t true owned p.location p.address (load w p.location) is p.few p.variable
              (z.reads owned (low_of own e.begun) (own + LIST_BYTES) (hand_of h own e.begun) d w b.memory p.location p.address t b.here leads_now handles
              (and_parts _ _ seen).0)
              (seen_full w p.location seen) (tied_by owned leads_now from seen),
        ))))
      where
        f : Env
        f = handled e to true owned t

        code : List WordInstr
        code = handle_got to at k

        p : Led table z live procs fresh h own c began joined e temps v d at owned t
        p = led_by table z live procs fresh h own c began joined e temps w b at owned t (inl there)

        leads_now : z.Leads owned (hand_of h own e.begun) d p.location p.address t
        leads_now = p.leads

        tied_by : (o : Bool) → z.Leads o (hand_of h own e.begun) d p.location p.address t → IsFrom o at → is_seen w p.location ≡ true
            → IsTied o temps (load w p.location)
        tied_by true f is seen = tt
        tied_by false f is seen = (
          p.location,
          ap temps.places (sym is) ∙ p.place,
          z.stays (low_of own e.begun) (own + LIST_BYTES) (hand_of h own e.begun) d w b.memory p.location p.address t b.here f handles
              (and_parts _ _ seen).0,
        )

        put_it : Value → Deed Temps
        put_it u = give (with_value to temps u)

    -- any other state
    reached_with : (f : Env) (now : Temps) (w1 : World) (m1 : Memory) (d1 : z.Blocks) → z.Later d d1
        → z.Here (low_of own f.begun) (own + LIST_BYTES) (hand_of h own f.begun) d1 w1 m1 → (vars : Vars) → K d f now vars → (lines limit : ℕ)
        → lines ≤ limit → (code : List WordInstr) → R lines (Ws b code) (at cw m1 k vars b.given)
        → Reached table z live procs fresh h own c began joined f now w1 k (St b code) limit
    reached_with f now w1 m1 d1 beyond here vars knows lines limit few code runs = let r = runs.by fresh b.done in record {
      before = record {
        done = r.0;
        memory = m1;
        vars = vars;
        given = b.given;
        awaits = b.awaits;
        blocks = d1;
        ahead = z.still_later began d d1 b.ahead beyond;
        here = here;
        knows = knows_later table z h own d f now vars knows d1 beyond;
      };
      lines = lines;
      few = few;
      runs = r.1;
    }

    abbrev At_hand : ℕ → ℕ → Type 0
    At_hand at t = Led table z live procs fresh h own c began joined e temps v d at true t

    at_place : (at t : ℕ) → e.at at ≡ Some (true, t) → At_hand at t
    at_place at t is = led_by table z live procs fresh h own c began joined e temps w b at true t (inl is)

    -- what stands at a location now, and how another handle comes there
    reads_now : (at t : ℕ) (p : At_hand at t) → IsHandled (slice_get table t) → is_there w p.location ≡ true
        → IsRead (λ n q. z.IsHandle true d t (load w p.location) n q) b.memory p.address
    reads_now at t p handles there =
        z.reads true (low_of own e.begun) (own + LIST_BYTES) (hand_of h own e.begun) d w b.memory p.location p.address t b.here p.leads handles there

    abbrev Then_put : Value → Location → Memory → Type 0
    Then_put u l m = (d1 : z.Blocks) × z.Later d d1 × z.Here (low_of own e.begun) (own + LIST_BYTES) (hand_of h own e.begun) d1 (store w l u) m

    puts_now : (at t : ℕ) (p : At_hand at t) → IsHandled (slice_get table t) → is_there w p.location ≡ true → (u : Value) (n q : ℕ) → z.IsHandle true d t u n q
        → IsPut (Then_put u p.location) b.memory p.address n q
    puts_now at t p handles there u n q handle =
        z.puts (low_of own e.begun) (own + LIST_BYTES) (hand_of h own e.begun) d w b.memory p.location p.address t b.here p.leads handles there u n q handle

    pub exchange_line : May 6 → (to at of t : ℕ) (full : Bool) → IsPair to → e.at at ≡ Some (true, t) → Holds e of full true t → (of ≡ to → ⊥) →
        IsHandled (slice_get table t)
        → S (handled e to true true t) (does_it (O.Exchange to at of)) (handle_got to at (handle_put at of k))
    exchange_line may to at of t full is there holds away handles =
        subst (λ o. S f (using o (λ u. using (temps.places at) (λ place. go u (location_at temps place)))) code) (sym r.there)
        (subst (λ o. S f (using o (λ place. go r.value (location_at temps place))) code) (sym p.place)
        (worked table z live procs fresh h own c began joined f k (St b code) most 1 (perform (sees l (λ world old. sets l r.value >> give old) >>= put_it) w)
        (guarded table z live procs fresh h own c began joined f k (St b code) later (λ deed. deed >>= put_it) refl (is_seen w l)
        (sets l r.value >> give (load w l)) w
        (λ seen.
        guarded table z live procs fresh h own c began joined f k (St b code) later (λ deed. (deed >>= (λ u. give (load w l))) >>= put_it) refl (is_there w l)
        (changes (Stores l r.value)) w
        (λ here. (refl, done seen here))))))
      where
        f : Env
        f = handled e to true true t

        code : List WordInstr
        code = handle_got to at (handle_put at of k)

        p : At_hand at t
        p = at_place at t there

        l : Location
        l = p.location

        r : HasPair table z h own d temps v of full true t
        r = b.knows.has of (full, (true, t)) holds

        go : Value → Location → Did
        go u a = gives x to (costs 1 (sees a (λ world old. sets a u >> give old)))

        put_it : Value → Deed Temps
        put_it u = give (with_value to temps u)

        done : is_seen w l ≡ true → is_there w l ≡ true
            → Reached table z live procs fresh h own c began joined f (with_value to temps (load w l)) (store w l r.value) k (St b code) (most 1)
        done seen here =
            let old = reads_now at t p handles here in
            let vars3 = loaded live procs cw b.memory (handle_put at of k) v b.given to p.address old.length old.place in
            let put_there_now = puts_now at t p handles here r.value r.length r.place r.handle in
            let after = put_there_now.then in
            let few = p.few in let low = (pair_few to is).0 in let high = (pair_few to is).1 in let low2 = (pair_few of r.is).0 in
            let high2 = (pair_few of r.is).1 in
            let same = loaded_there live procs cw b.memory (handle_put at of k) v b.given to p.address old.length old.place in
            reached_with f (with_value to temps (load w l)) (store w l r.value) (with_handle b.memory p.address r.length r.place) after.0 after.1 after.2
            (put vars3 ADDRESS (p.address + 4))
            (knows_kept table z h own d f (with_value to temps (load w l)) (put (put v to old.length) (to + 3) old.place)
            (knows_pair table z h own d e temps v b.knows to t old.length old.place true true (load w l) is old.are (seen_full w l seen) tt)
            (put vars3 ADDRESS (p.address + 4))
            (kept_between (put (put v to old.length) (to + 3) old.place) vars3 ADDRESS (p.address + 4) (omega arith)
            (loaded_kept live procs cw b.memory (handle_put at of k) v b.given to p.address old.length old.place))) 6 (most 1) may code
            (then_runs live procs
            (got_runs live procs cw b.memory (handle_put at of k) v b.given (λ n q. z.IsHandle true d t (load w l) n q) to at p.address low few p.variable old)
            (stored_runs live procs cw b.memory k vars3 b.given at of of p.address r.length r.place few (λ g. omega (arith, g, high2))
            (same at (omega (arith, few)) (λ g. omega (arith, g, few, low)) (λ g. omega (arith, g, few, low)) ∙ p.variable)
            (same of (omega (arith, high2)) away (λ g. omega (arith, g, high2, low)) ∙ r.long)
            (same (of + 3) (omega (arith, high2)) (λ g. omega (arith, g, low2, high)) (λ g. away (omega (arith, g))) ∙ r.contents)
            (Then_put r.value l) put_there_now))

    pub shorten_line : May 3 → (at of count t el : ℕ) → Holds e of true true t → e.at at ≡ Some (true, t) → e.counts count ≡ true
        → IsHandled (slice_get table t) → slice_get table t ≡ Some (D.Seq el)
        → S e (does_it (O.Shorten at of count)) (handle_with at count of k)
    shorten_line may at of count t el holds there has handles seq =
        subst (λ o. S e (using o (λ u. using (temps.places at) (λ place. using_number temps count (λ i. go u (location_at temps place) i)))) code) (sym r.there)
        (subst (λ o. S e (using o (λ place. using_number temps count (λ i. go r.value (location_at temps place) i))) code) (sym p.place)
        (subst (λ o. S e (using o (λ u. go r.value l (number_of u))) code) (sym q.value)
        (on (nat_le q.number (length_of r.value)) refl)))
      where
        code : List WordInstr
        code = handle_with at count of k

        p : At_hand at t
        p = at_place at t there

        l : Location
        l = p.location

        r : HasPair table z h own d temps v of true true t
        r = b.knows.has of (true, (true, t)) holds

        q : HasCount table z h own temps v count
        q = b.knows.counts count has

        short : Value
        short = Handle q.number (block_of r.value)

        go : Value → Location → ℤ → Did
        go u a i = branch (nat_le (unsigned_abs i) (length_of u)) (acts x (costs 1 (sets a (Handle (unsigned_abs i) (block_of u))))) scenes.Fails

        sets_it : Did
        sets_it = acts x (costs 1 (sets l short))

        done : q.number ≤ length_of r.value → is_there w l ≡ true →
            Reached table z live procs fresh h own c began joined e temps (store w l short) k (St b code) (most 1)
        done enough here =
            let put_there_now = puts_now at t p handles here short q.number r.place
            (z.shortened d r.value t el r.length r.place q.number seq r.sure r.handle enough) in
            let after = put_there_now.then in let high = (pair_few of r.is).1 in
            reached_with e temps (store w l short) (with_handle b.memory p.address q.number r.place) after.0 after.1 after.2 (put v ADDRESS (p.address + 4))
            (knows_kept table z h own d e temps v b.knows (put v ADDRESS (p.address + 4))
            (kept_between v v ADDRESS (p.address + 4) (omega arith) (kept_none v)))
            3 (most 1) may code
            (stored_runs live procs cw b.memory k v b.given at count of p.address q.number r.place p.few (λ g. omega (arith, g, high)) p.variable q.variable
            r.contents (Then_put short l) put_there_now)

        on : (enough : Bool) → nat_le q.number (length_of r.value) ≡ enough
            → S e (branch (nat_le q.number (length_of r.value)) sets_it scenes.Fails) code
        on false e1 = subst (λ f. S e (branch f sets_it scenes.Fails) code) (sym e1) tt
        on true e1 =
            subst (λ f. S e (branch f sets_it scenes.Fails) code) (sym e1)
            (worked table z live procs fresh h own c began joined e k (St b code) most 1 (perform (sets l short >>= (λ u. give temps)) w)
            (guarded table z live procs fresh h own c began joined e k (St b code) later (λ deed. deed >>= (λ u. give temps)) refl (is_there w l)
            (changes (Stores l short)) w
            (λ here. (refl, done (leb-true q.number (length_of r.value) e1) here))))

    -- ---- handles trade places

    module _ (may : May 12) (to from t : ℕ) (to_is : e.at to ≡ Some (true, t)) (from_is : e.at from ≡ Some (true, t))
        (handles : IsHandled (slice_get table t)) where
      abbrev code_trade : List WordInstr
      code_trade = handle_got ONE to (handle_got OTHER from (handle_put to OTHER (handle_put from ONE k)))

      p_to : At_hand to t
      p_to = at_place to t to_is

      p_from : At_hand from t
      p_from = at_place from t from_is

      abbrev old_value : Value
      old_value = load w p_to.location

      abbrev new_value : Value
      new_value = load w p_from.location

      abbrev world_1 : World
      world_1 = store w p_to.location new_value

      abbrev world_2 : World
      world_2 = store world_1 p_from.location old_value

      traded_now : is_seen w p_to.location ≡ true → is_seen w p_from.location ≡ true → is_there w p_to.location ≡ true
          → is_there world_1 p_from.location ≡ true
          → Reached table z live procs fresh h own c began joined e temps world_2 k (St b code_trade) (most 1)
      traded_now seen_to seen_from here there =
          let a = p_to.address in let a2 = p_from.address in
          let few = p_to.few in let few2 = p_from.few in
          let old = reads_now to t p_to handles (and_parts _ _ seen_to).0 in
          let new = reads_now from t p_from handles (and_parts _ _ seen_from).0 in
          let k1 = handle_put from ONE k in
          let k2 = handle_put to OTHER k1 in
          let k3 = handle_got OTHER from k2 in
          let v3 = loaded live procs cw b.memory k3 v b.given ONE a old.length old.place in
          let v6 = loaded live procs cw b.memory k2 v3 b.given OTHER a2 new.length new.place in
          let kept3 = loaded_between live procs cw b.memory k3 v b.given ONE a old.length old.place (omega arith) in
          let kept6 = loaded_between live procs cw b.memory k2 v3 b.given OTHER a2 new.length new.place (omega arith) in
          let first = puts_now to t p_to handles here new_value (new.length % 2 ^ 32) (new.place % 2 ^ 32) new.are in
          let middle = first.then in
          let m1 = with_handle b.memory a (new.length % 2 ^ 32) (new.place % 2 ^ 32) in
          let v7 = put v6 ADDRESS (a + 4) in
          let second = z.puts (low_of own e.begun) (own + LIST_BYTES) (hand_of h own e.begun) middle.0 world_1 m1 p_from.location a2 t middle.2
          (z.leads_later true (hand_of h own e.begun) d middle.0 p_from.location a2 t middle.1 p_from.leads) handles there old_value (old.length % 2 ^ 32)
          (old.place % 2 ^ 32) (z.handle_later true d middle.0 old_value t (old.length % 2 ^ 32) (old.place % 2 ^ 32) middle.1 old.are) in
          let last = second.then in
          let at3 : (j : ℕ) → j ≤ 3 → v6 j ≡ v j = λ j le. kept6 j (omega (arith, le)) ∙ kept3 j (omega (arith, le)) in
          reached_with e temps world_2 (with_handle m1 a2 (old.length % 2 ^ 32) (old.place % 2 ^ 32)) last.0
          (z.still_later d middle.0 last.0 middle.1 last.1) last.2 (put v7 ADDRESS (a2 + 4))
          (knows_kept table z h own d e temps v b.knows (put v7 ADDRESS (a2 + 4))
          (kept_between v v7 ADDRESS (a2 + 4) (omega arith) (kept_between v v6 ADDRESS (a + 4) (omega arith)
          (λ u le. kept6 u le ∙ kept3 u le)))) 12 (most 1) may code_trade
          (then_runs live procs
          (got_runs live procs cw b.memory k3 v b.given (λ n q. z.IsHandle true d t old_value n q) ONE to a (omega arith) few p_to.variable old)
          (then_runs live procs
          (got_runs live procs cw b.memory k2 v3 b.given (λ n q. z.IsHandle true d t new_value n q) OTHER from a2 (omega arith) few2
          (kept3 from (omega (arith, few2)) ∙ p_from.variable) new)
          (then_runs live procs
          (stored_runs live procs cw b.memory k1 v6 b.given to OTHER OTHER a (new.length % 2 ^ 32) (new.place % 2 ^ 32) few (λ g. omega (arith, g))
          (at3 to few ∙ p_to.variable) refl refl (Then_put new_value p_to.location) first)
          (stored_runs live procs cw m1 k v7 b.given from ONE ONE a2 (old.length % 2 ^ 32) (old.place % 2 ^ 32) few2 (λ g. omega (arith, g))
          (put_there v6 ADDRESS (a + 4) from (λ g. omega (arith, g, few2)) ∙ (at3 from few2 ∙ p_from.variable)) refl refl
          (λ m. (d1 : z.Blocks) × z.Later middle.0 d1 × z.Here (low_of own e.begun) (own + LIST_BYTES) (hand_of h own e.begun) d1
          (store world_1 p_from.location old_value) m) second))))

      pub trade_line : S e (does_it (O.Trade to from)) code_trade
      trade_line =
          subst (λ o. S e (using o (λ place. using (temps.places from) (λ other. go (location_at temps place) (location_at temps other)))) code_trade)
          (sym p_to.place)
          (subst (λ o. S e (using o (λ other. go l (location_at temps other))) code_trade) (sym p_from.place)
          (worked table z live procs fresh h own c began joined e k (St b code_trade) most 1
          (perform (sees l (λ world old. sees l2 (λ world new. sets l new >> sets l2 old)) >>= (λ u. give temps)) w)
          (guard (λ deed. deed >>= (λ u. give temps)) refl (is_seen w l) (sees l2 (λ world new. sets l new >> sets l2 old_value)) w
          (λ seen.
          guard (λ deed. deed >>= (λ u. give temps)) refl (is_seen w l2) (sets l new_value >> sets l2 old_value) w
          (λ seen2.
          guard (λ deed. (deed >>= (λ u. sets l2 old_value)) >>= (λ u. give temps)) refl (is_there w l) (changes (Stores l new_value)) w
          (λ here.
          guard (λ deed. deed >>= (λ u. give temps)) refl (is_there world_1 l2) (changes (Stores l2 old_value)) world_1
          (λ there. (refl, traded_now seen seen2 here there))))))))
        where
          l : Location
          l = p_to.location

          l2 : Location
          l2 = p_from.location

          go : Location → Location → Did
          go a a2 = acts x (costs 1 (sees a (λ world old. sees a2 (λ world new. sets a new >> sets a2 old))))

          guard : (g : Deed (Unit {0}) → Deed Temps) → g Errs ≡ Errs → (there : Bool) (deed : Deed (Unit {0})) (now : World)
              → (there ≡ true → Out e k later (perform (g deed) now) (St b code_trade))
              → Out e k later (perform (g (unless_gone there deed)) now) (St b code_trade)
          guard g is there deed now o = guarded table z live procs fresh h own c began joined e k (St b code_trade) later g is there deed now o

    -- ---- the value under way

    none_begun : e.begun ≡ None → z.Here own (own + LIST_BYTES) h d w b.memory
    none_begun none = subst (λ o. z.Here (low_of own o) (own + LIST_BYTES) (hand_of h own o) d w b.memory) none b.here

    hand_is : e.begun ≡ None → in_hand w ≡ at_base (InHand (z.before + length h))
    hand_is none = ap (λ n. at_base (InHand n)) (z.hand_long own (own + LIST_BYTES) h d w b.memory (none_begun none))

    place_runs : (there : List WordInstr) → R 1 (at cw b.memory (W.Place 2 0 ∷ there) v b.given) (at cw b.memory there (put v 2 own) b.given)
    place_runs there =
        let e1 : c.base + 0 ≡ own = (let e2 : c.base + 0 ≡ c.base = omega arith in e2 ∙ base_is) in
        subst (λ n. R 1 (at cw b.memory (W.Place 2 0 ∷ there) v b.given) (at cw b.memory there (put v 2 n) b.given)) e1
        (run_place live procs cw b.memory there v b.given 2 0)

    abbrev temps_begun : Temps
    temps_begun = with_place 2 temps (Located (at_base (InHand (z.before + length h))))

    pub begin_line : May 1 → (t : ℕ) → e.begun ≡ None → IsHandled (slice_get table t) → S (under_way e t) (does_it (O.Begin t 2)) (W.Place 2 0 ∷ k)
    begin_line may t none handles =
        subst (λ l. Out (under_way e t) k most (Answers [] 1 (with_place 2 temps (Located l)) (pushed w (vacant (form_in known t)))) (St b (W.Place 2 0 ∷ k)))
        (sym (hand_is none)) (
          refl,
          reached_with (under_way e t) temps_begun (pushed w (vacant (form_in known t))) b.memory d (z.same d)
              (z.begins own (own + LIST_BYTES) h d w b.memory t (none_begun none) handles (omega arith)) (put v 2 own)
              (knows_begun table z h own d e temps v b.knows t none own_small) 1 (most 1) may (W.Place 2 0 ∷ k) (place_runs k),
        )

    pub push_line : May 4 → (of t : ℕ) (full : Bool) → e.begun ≡ None → Holds e of full true t → IsHandled (slice_get table t)
        → S (under_way e t) (does_it (O.Push 2 of)) (W.Place 2 0 ∷ handle_put 2 of k)
    push_line may of t full none holds handles =
        let r = b.knows.has of (full, (true, t)) holds in
        let code = W.Place 2 0 ∷ handle_put 2 of k in
        let v1 = put v 2 own in
        let low = (pair_few of r.is).0 in let high = (pair_few of r.is).1 in
        let Then : Memory → Type 0 = λ m. z.Here (own + LIST_BYTES) (own + LIST_BYTES) (with_one h own t) d (pushed w r.value) m in
        let put_now = z.pushes own (own + LIST_BYTES) h d w b.memory t (none_begun none) handles (omega arith) r.value r.length r.place r.handle in
        subst (λ o. S (under_way e t)
        (using o (λ u. Passes (perform (costs 1 (changes (Pushes u)) >> give (with_place 2 temps (Located (in_hand w)))) w))) code) (sym r.there)
        (subst (λ l. Out (under_way e t) k most (Answers [] 1 (with_place 2 temps (Located l)) (pushed w r.value)) (St b code)) (sym (hand_is none)) (
          refl,
          reached_with (under_way e t) temps_begun (pushed w r.value) (with_handle b.memory own r.length r.place) d (z.same d) put_now.then
              (put v1 ADDRESS (own + 4))
              (knows_kept table z h own d (under_way e t) temps_begun v1 (knows_begun table z h own d e temps v b.knows t none own_small)
              (put v1 ADDRESS (own + 4))
              (kept_between v1 v1 ADDRESS (own + 4) (omega arith) (kept_none v1))) 4 (most 1) may code
              (then_runs live procs (place_runs (handle_put 2 of k))
              (stored_runs live procs cw b.memory k v1 b.given 2 of of own r.length r.place (omega arith) (λ g. omega (arith, g, high))
              (put_word v 2 own own_small) (put_there v 2 own of (λ g. omega (arith, g, low)) ∙ r.long)
              (put_there v 2 own (of + 3) (λ g. omega (arith, g, low)) ∙ r.contents) Then put_now)),
        ))

    pub pop_line : May 3 → (to t : ℕ) → IsPair to → e.begun ≡ Some t → IsHandled (slice_get table t) →
        S (over e to t) (does_it (O.Pop to 2)) (handle_got to 2 k)
    pop_line may to t is begun handles =
        let p = led_by table z live procs fresh h own c began joined e temps w b 2 true t (inr (refl, begun, refl)) in
        let k1 = b.knows.begun t begun in
        let code = handle_got to 2 k in
        let l = at_base (InHand (z.before + length h)) in
        let here : z.Here (own + LIST_BYTES) (own + LIST_BYTES) (with_one h own t) d w b.memory
        = subst (λ o. z.Here (low_of own o) (own + LIST_BYTES) (hand_of h own o) d w b.memory) begun b.here in
        let r = z.reads true (own + LIST_BYTES) (own + LIST_BYTES) (with_one h own t) d w b.memory l own t here
        (z.hand_leads (own + LIST_BYTES) (own + LIST_BYTES) own t h d w b.memory here) handles refl in
        let vars3 = loaded live procs cw b.memory k v b.given to own r.length r.place in
        subst (λ o. S (over e to t) (using o (λ place. gives x to
        (costs 1 (looks (λ world. changes Pops >> give (load world (location_at temps place))))))) code)
        (sym k1.place) (
          refl,
          reached_with (over e to t) (with_value to temps (load w l)) (popped w) b.memory d (z.same d)
              (z.pops (own + LIST_BYTES) (own + LIST_BYTES) own t h d w b.memory here) vars3
              (knows_kept table z h own d (over e to t) (with_value to temps (load w l)) (put (put v to r.length) (to + 3) r.place)
              (knows_over table z h own d (handled e to false true t) (with_value to temps (load w l)) (put (put v to r.length) (to + 3) r.place)
              (knows_pair table z h own d e temps v b.knows to t r.length r.place false true (load w l) is r.are tt tt)) vars3
              (loaded_kept live procs cw b.memory k v b.given to own r.length r.place)) 3 (most 1) may code
              (got_runs live procs cw b.memory k v b.given (λ n q. z.IsHandle true d t (load w l) n q) to 2 own (pair_few to is).0 (omega arith) k1.variable r),
        )

    pub return_line : May 1 → (t : ℕ) (owned : Bool) → e.at 0 ≡ Some (owned, t) → e.begun ≡ None → S e (does_it (O.Plain (L.Return None))) (W.Return 0 ∷ k)
    return_line may t owned is none = record {
      done = b.done;
      memory = b.memory;
      vars = v;
      given = b.given;
      awaits = b.awaits;
      rest = k;
      word = (b.knows.at 0 (owned, t) is).address;
      zero = (b.knows.at 0 (owned, t) is).variable;
      blocks = d;
      ahead = b.ahead;
      here = none_begun none;
      lines = 0;
      few = may;
      runs = steps_none (step_of live procs fresh) (St b (W.Return 0 ∷ k)) 0;
    }
