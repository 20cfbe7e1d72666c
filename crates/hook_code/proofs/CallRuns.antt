-- The lines of a hook that call something: a routine, or another hook.
use Rattle.std.proofs.Common.{◌≡◌, ◌≢◌, ◌⊎◌, inl, inr, ℕ, ◌+◌, ◌*◌, ◌%◌, ◌^◌, ◌<◌, ◌≤◌, Bool, true, false, List, [], ◌∷◌, ◌++◌, Some}
use Rattle.std.proofs.Common.{refl, sym, ap, subst, ◌∙◌, arith, mul-le-mul, le_refl}
use Rattle.std.specs.Prelude.{slice_get, unsigned_abs, ℤ, ◌==◌}
use Rattle.std.proofs.lemmas.Bool.{false≢true, cases_eq, eqb-true}
use Rattle.nim_types.specs.declared.types.TypeDef.{TypeDef}
use Rattle.nim_types.specs.declared.types.TypeDef.TheVariants as D
use Rattle.nim_types.specs.declared.types.TheConstants.{LIST_BYTES, WORD_BYTES}
use Rattle.nim_meaning.specs.Values.{Value, Vacant, Location, number_of, length_of, block_of, is_handle, first_of}
use Rattle.nim_meaning.specs.Heap.{Elements}
use Rattle.nim_meaning.specs.State.{World, store, is_there, elements_of}
use Rattle.nim_meaning.specs.Deeds.{Deed, Stores, Done, Answers, Finishes, Fails, perform, give, costs, looks, ◌>>=◌, ◌>>◌, does as changes, sets, frees}
use Rattle.nim_meaning.specs.Deeds.{refills}
use Rattle.nim_meaning.specs.Lifted.{left_vacant}
use Rattle.nim_meaning.specs.OwnedRows.{element_of as element_form}
use Rattle.nim_types.specs.Forms.{Form, size}
use Rattle.flat_code.specs.Scene.{Known, known_in, Scene, Did, Temps, with_value, location_at}
use Rattle.flat_code.specs.Lines.{form_in, using, using_number, gives, acts}
use Rattle.rv32_isa.specs.Machine.{Lives}
use Rattle.rv32_isa.specs.declared.micro_op.Size.TheVariants as bytes_of
use Rattle.word_code.specs.declared.routine.TheConstants.{COPY}
use Rattle.word_code.specs.declared.word.WordInstr.{WordInstr}
use Rattle.word_code.specs.declared.word.WordInstr.TheVariants as W
use Rattle.word_code.specs.declared.word.WordProc.{WordProc}
use Rattle.word_code.specs.Memory.{with_number}
use Rattle.word_code.specs.Words.{Vars, put, no_words, WordState, step, Fresh, step_of}
use Rattle.arc_base.specs.Behaviour.{no_objects}
use Rattle.arc_base.specs.Simulation.{Steps}
use Rattle.arc_base.proofs.ForCallers.{steps_none, steps_on}
use Rattle.word_code.specs.Routines.{goes_on}
use Rattle.word_code.proofs.ForCallers.{Runs, none as no_run, then_runs, Within, at, run_constant, run_copy, run_load, run_store, run_argument}
use Rattle.heap_memory.specs.declared.numbers.TheConstants.{RELEASE, SEQ_NEW}
use Rattle.hook_lifting.specs.declared.lifted.Hook.{Hook}
use Rattle.hook_lifting.specs.declared.lifted.Hook.TheVariants.{Copies, Assigns, Sinks, Ends}
use Rattle.hook_lifting.specs.declared.lifted.LiftedLine.{LiftedLine}
use Rattle.hook_lifting.specs.declared.lifted.LiftedLine.TheVariants as O
use Rattle.hook_lifting.specs.Lifted.{has_hooks}
use Rattle.hook_lifting.specs.Lifting.{does_by, hook_deed, taken_for}
use Rattle.hook_lifting.specs.Weights.{least_pace}
use Rattle.hook_lifting.proofs.ForCallers.{done_then, performs_then}
use Rattle.hook_code.specs.declared.numbers.TheConstants.{ADDRESS}
use Rattle.hook_code.specs.HookCode.{hook_number, hook_called, bits, plain_hook, part_hook, taken, released, bytes_at}
use Rattle.hook_code.specs.Surroundings.{Hand, IsFull, IsHandled, IsDistinct, Surroundings}
use Rattle.hook_code.specs.Promises.{from_own, release_most, take_most, bits_pace, IsOver, IsBack, Comes, AnyWord, IsMade, IsMoved, Moves, Stays, Routines}
use Rattle.hook_code.specs.Promises.{IsKept}
use Rattle.hook_code.proofs.Env.{Env, IsPair, LeadsBy, Holds, handled}
use Rattle.hook_code.proofs.Known.{put_here, put_there, put_word, AreKept, kept_none, kept_between, Knows, HasCount, HasPair, pair_few}
use Rattle.hook_code.proofs.Known.{knows_kept, knows_later, knows_pair}
use Rattle.hook_code.proofs.Lines.{as_asked, low_of, hand_of, Before, state, word_state, stops_behind, Reached, Outcome, Led, led_by, worked, guarded}
use Rattle.hook_code.proofs.LineRuns.{Settles}

module _ (table : List TypeDef) (z : Surroundings table) (live : Lives) (procs : List WordProc) (fresh : Fresh) (h : Hand) (own : ℕ) (c : Within)
    (began : z.Blocks)
    (joined : ℕ → Env) (first ty level : ℕ) (base_is : c.base ≡ own) (own_small : own < 2 ^ 32) (room_is : c.proc.room ≡ LIST_BYTES) (chain pace : ℕ)
    (steep : least_pace ≤ pace)
    (fits : own + LIST_BYTES + LIST_BYTES * chain ≤ z.limit) (routines : Routines table z live procs fresh) where
  abbrev known : Known
  known = known_in table

  abbrev B : Env → Temps → World → Type 0
  B e temps w = Before table z live procs fresh h own c began joined e temps w

  abbrev At_line : Type 0
  At_line = ℕ × WordState

  abbrev Ws : {e : Env} {temps : Temps} {w : World} → B e temps w → List WordInstr → WordState
  Ws b code = word_state table z live procs fresh h own c began joined b code

  abbrev St : {e : Env} {temps : Temps} {w : World} → B e temps w → List WordInstr → At_line
  St b code = state table z live procs fresh h own c began joined b code

  abbrev W_c : (awaits : ℕ) → Within
  W_c n = record c { awaits = n }

  abbrev R : ℕ → WordState → WordState → Type 0
  R n s t = Runs live procs n s t

  abbrev K : z.Blocks → Env → Temps → Vars → Type 0
  K d e temps vars = Knows table z h own d e temps vars

  abbrev Reach : Env → Temps → World → List WordInstr → At_line → (most : ℕ) → Type 0
  Reach f temps w code s most = Reached table z live procs fresh h own c began joined f temps w code s most

  abbrev Out : Env → List WordInstr → (most : ℕ → ℕ) → Done Temps → At_line → Type 0
  Out f code most done s = Outcome table z live procs fresh h own c began joined f code most done s

  -- what a hook may do with a part
  abbrev pub MayDo : Hook → (of : ℕ) → Type 0
  MayDo hook of =
      ((has_hooks table of ≡ true) × IsKept table z live procs fresh first chain pace hook of) ⊎
      ((has_hooks table of ≡ false) × IsMade table z live procs fresh hook)

  top_is : c.base + c.proc.room ≡ own + LIST_BYTES
  top_is = let e = base_is in let f = room_is in omega (arith, e, f)

  module _ {e : Env} {temps : Temps} {w : World} (b : B e temps w) (k : List WordInstr) where
    abbrev x : Scene
    x = record { world = w; level = level; temps = temps }

    abbrev does_it : LiftedLine → Did
    does_it line = does_by known x line

    abbrev S : Env → (most : ℕ → ℕ) → Did → List WordInstr → Type 0
    S f most did code = Settles table z live procs fresh h own c began joined first ty level base_is own_small f k most did w temps (St b code)

    abbrev d : z.Blocks
    d = b.blocks

    abbrev v : Vars
    v = b.vars

    abbrev cw : Within
    cw = W_c b.awaits

    abbrev low : ℕ
    low = low_of own e.begun

    abbrev hand : Hand
    hand = hand_of h own e.begun

    -- ---- what comes of a call

    module _ (code rest : List WordInstr) (vars given : Vars) (to number lines : ℕ)
        (runs : R lines (Ws b code) (at cw b.memory (W.Call to number ∷ rest) vars given)) (f : Env) {A : Type 0} (fin : A → Temps) (d1 : z.Blocks)
        (Gives : A → z.Blocks → ℕ → Type 0) (most called : ℕ → ℕ) (more : ℕ) (few : (n : ℕ) → lines + (called n + more) ≤ most n) where
      abbrev call_state : At_line
      call_state = ((runs.by fresh b.done).0, at cw b.memory (W.Call to number ∷ rest) vars given)

      to_call : Steps (step_of live procs fresh) lines (St b code) [] lines call_state
      to_call = (runs.by fresh b.done).1

      abbrev Back : ℕ → A → World → Type 0
      Back n y w1 = IsBack table z live procs fresh low (own + LIST_BYTES) hand d1 (Gives y) call_state to rest w1 (called n)

      pub comes_of : (done : Done A) → Comes table z live procs fresh low (own + LIST_BYTES) hand d1 Gives call_state to rest called done
          → ((n : ℕ) (y : A) (w1 : World) → Back n y w1 → Reach f (fin y) w1 k (St b code) (most n))
          → Out f k most (done_then done (λ y new. perform (give (fin y)) new)) (St b code)
      comes_of (Answers es n y w1) comes go = (
        ap (λ fs. fs ++ []) comes.0,
        subst (λ i. Reach f (fin y) w1 k (St b code) (most i)) (let e : n ≡ n + 0 = omega arith in e) (go n y w1 comes.1),
      )
      comes_of (Finishes es n status w1) comes go = (
        comes.0,
        record {
          lines = lines + comes.1.lines;
          few = let i = few n in let l = comes.1.few in omega (arith, i, l);
          stops = stops_behind (step_of live procs fresh) lines lines comes.1.lines status (St b code) call_state [] es no_objects to_call comes.1.stops;
        },
      )
      comes_of (Fails es n w1) comes go = tt

      -- the state behind it
      pub back_reached : (n : ℕ) (y : A) (w1 : World) (back : Back n y w1) → z.Later d d1 → (now : Temps) → f.begun ≡ e.begun
          → (vars2 : Vars) → R more (at (W_c to) back.memory rest (put vars to back.word) no_words) (at (W_c to) back.memory k vars2 no_words)
          → K back.after f now vars2 → Reach f now w1 k (St b code) (most n)
      back_reached n y w1 back later now same vars2 runs2 knows = record {
        before = record {
          done = (runs2.by fresh back.behind).0;
          memory = back.memory;
          vars = vars2;
          given = no_words;
          awaits = to;
          blocks = back.after;
          ahead = z.still_later began d back.after b.ahead (z.still_later d d1 back.after later back.ahead);
          here = subst (λ o. z.Here (low_of own o) (own + LIST_BYTES) (hand_of h own o) back.after w1 back.memory) (sym same) back.here;
          knows = knows;
        };
        lines = lines + (back.lines + more);
        few = let i = few n in let l = back.few in omega (arith, i, l);
        runs = steps_on (step_of live procs fresh) lines (back.lines + more) lines (back.lines + more) (St b code) call_state _ [] [] to_call
            (steps_on (step_of live procs fresh) back.lines more back.lines more call_state
            (back.behind, goes_on call_state.1 to back.word rest back.memory c.input)
            _ [] [] back.runs (runs2.by fresh back.behind).1);
      }

    -- ---- the routines of sequences

    place_small : (of t : ℕ) (full o : Bool) (r : HasPair table z h own d temps v of full o t) → r.place < 2 ^ 32
    place_small of t full o r = (z.handle_small o d r.value t r.length r.place r.handle).1

    pub give_back_line : (most : ℕ → ℕ) → ((n : ℕ) → 1 + release_most ≤ most (1 + n)) → (j of t other : ℕ) → Holds e of true true t → e.at j ≡ Some (true, t) →
        IsHandled (slice_get table t)
        → S e most (does_it (O.GiveBack other j of)) (released of k)
    give_back_line most few j of t other holds there handles =
        subst (λ o. S e most (using o (λ u. using (temps.places j) (λ place. go u (location_at temps place)))) code) (sym r.there)
        (subst (λ o. S e most (using o (λ place. go r.value (location_at temps place))) code) (sym p.place)
        (worked table z live procs fresh h own c began joined e k (St b code) most 1 (perform (left_vacant bytes l r.value >>= rest) w)
        (guarded table z live procs fresh h own c began joined e k (St b code) (λ n. most (1 + n)) (λ deed. deed >>= rest) refl
        (is_handle r.value) (costs bytes (sets l Vacant >> frees (block_of r.value))) w
        (λ is_own.
        worked table z live procs fresh h own c began joined e k (St b code) (λ n. most (1 + n)) bytes
        (perform ((sets l Vacant >> frees (block_of r.value)) >>= rest) w)
        (guarded table z live procs fresh h own c began joined e k (St b code) behind (λ deed. (deed >>= (λ u. frees (block_of r.value))) >>= rest) refl
        (is_there w l)
        (changes (Stores l Vacant)) w
        (λ here. subst (λ done. Out e k behind done (St b code)) (sym (performs_then (frees (block_of r.value)) rest (store w l Vacant)))
        (done_now is_own here)))))))
      where
        code : List WordInstr
        code = released of k

        p : Led table z live procs fresh h own c began joined e temps v d j true t
        p = led_by table z live procs fresh h own c began joined e temps w b j true t (inl there)

        l : Location
        l = p.location

        r : HasPair table z h own d temps v of true true t
        r = b.knows.has of (true, (true, t)) holds

        bytes : ℕ
        bytes = 8 + length_of r.value * size (element_form (form_in known other))

        go : Value → Location → Did
        go u a = acts x (costs 1 (left_vacant (8 + length_of u * size (element_form (form_in known other))) a u))

        behind : ℕ → ℕ
        behind n = most (1 + (bytes + n))

        rest : Unit {0} → Deed Temps
        rest u = give temps

        enough : (n : ℕ) → 1 + (release_most + 0) ≤ behind n
        enough n = few (bytes + n)

        done_now : is_handle r.value ≡ true → is_there w l ≡ true
            → Out e k behind (done_then (perform (frees (block_of r.value)) (store w l Vacant)) (λ u new. perform (give temps) new)) (St b code)
        done_now is_own here =
            let after = z.empties low (own + LIST_BYTES) hand d w b.memory l p.address t b.here p.leads handles here in
            let small = place_small of t true true r in
            let runs = run_argument live procs cw b.memory (W.Call ADDRESS RELEASE ∷ k) v b.given 0 (of + 3) r.contents in
            let handle = z.handle_later true d after.0 r.value t r.length r.place after.1 r.handle in
            comes_of code k v (put b.given 0 r.place) ADDRESS RELEASE 1 runs e (λ u. temps) after.0 (AnyWord table z live procs fresh) behind
            (λ n. release_most) 0 enough (perform (frees (block_of r.value)) (store w l Vacant))
            (routines.releases low (own + LIST_BYTES) hand after.0 (store w l Vacant)
            ((runs.by fresh b.done).0, at cw b.memory (W.Call ADDRESS RELEASE ∷ k) v (put b.given 0 r.place))
            ADDRESS k r.value t r.length r.place
            (record { calling = record { next = refl; given = (put_word b.given 0 r.place small, tt) }; top_is = top_is; here = after.2 }) r.sure is_own handle)
            (λ n u w1 back.
            back_reached code k v (put b.given 0 r.place) ADDRESS RELEASE 1 runs e (λ u. temps) after.0 (AnyWord table z live procs fresh) behind
            (λ n. release_most) 0 enough n u w1 back after.1 temps refl (put v ADDRESS back.word)
            (no_run (step live procs) (at (W_c ADDRESS) back.memory k (put v ADDRESS back.word) no_words))
            (knows_kept table z h own back.after e temps v
            (knows_later table z h own d e temps v b.knows back.after (z.still_later d after.0 back.after after.1 back.ahead)) (put v ADDRESS back.word)
            (kept_between v v ADDRESS back.word (omega arith) (kept_none v))))

    pub forget_line : (most : ℕ → ℕ) → (of count t el : ℕ) → Holds e of true true t → e.counts count ≡ true → slice_get table t ≡ Some (D.Seq el)
        → S e most (does_it (O.Forget of count)) k
    forget_line most of count t el holds has seq =
        subst (λ o. S e most (using o (λ u. using_number temps count (λ i. go u i))) k) (sym r.there)
        (subst (λ o. S e most (using o (λ u. go r.value (number_of u))) k) (sym q.value)
        (worked table z live procs fresh h own c began joined e k (St b k) most 1 (perform (deed >>= (λ u. give temps)) w)
        (subst (λ done. Out e k (λ n. most (1 + n)) done (St b k)) (sym (performs_then deed (λ u. give temps) w))
        (stays (perform deed w)
        (routines.forgets low (own + LIST_BYTES) hand d w b.memory r.value t el r.length r.place q.number b.here seq r.sure r.handle)))))
      where
        r : HasPair table z h own d temps v of true true t
        r = b.knows.has of (true, (true, t)) holds

        q : HasCount table z h own temps v count
        q = b.knows.counts count has

        deed : Deed (Unit {0})
        deed = looks (λ world. refills (block_of r.value) (Elements (first_of q.number (elements_of world r.value))))

        go : Value → ℤ → Did
        go u i = acts x (costs 1 (looks (λ world. refills (block_of u) (Elements (first_of (unsigned_abs i) (elements_of world u))))))

        stays : (done : Done (Unit {0})) → Stays table z live procs fresh low (own + LIST_BYTES) hand d b.memory done
            → Out e k (λ n. most (1 + n)) (done_then done (λ u new. perform (give temps) new)) (St b k)
        stays (Answers es n u w1) s = (
          ap (λ fs. fs ++ []) s.0,
          record {
            before = record {
              done = b.done;
              memory = b.memory;
              vars = v;
              given = b.given;
              awaits = b.awaits;
              blocks = s.1.0;
              ahead = z.still_later began d s.1.0 b.ahead s.1.1;
              here = s.1.2;
              knows = knows_later table z h own d e temps v b.knows s.1.0 s.1.1;
            };
            lines = 0;
            few = omega arith;
            runs = steps_none (step_of live procs fresh) (St b k) 0;
          },
        )
        stays (Finishes es n status w1) s = absurd s
        stays (Fails es n w1) s = tt

    -- a sequence gets a block
    pub take_line : (most : ℕ → ℕ) → ((n : ℕ) → 5 + (take_most + 4 * n) ≤ most (1 + n)) → (to j of t el : ℕ) (o : Bool) → IsPair to → Holds e of true o t →
        e.at j ≡ Some (true, ty)
        → slice_get table ty ≡ Some (D.Seq el)
        → S (handled e to true true ty) most (does_it (O.Take ty to j of)) (taken to j of (bytes_at table el) k)
    take_line most few to j of t el owned is holds there typed =
        subst (λ o. S f most (using o (λ u. using (temps.places j) (λ place. go u (location_at temps place)))) code) (sym r.there)
        (subst (λ o. S f most (using o (λ place. go r.value (location_at temps place))) code) (sym p.place)
        (subst (λ n. S f most (gives x to (costs 1 (taken_for element n l))) code) (sym (z.length_is owned d r.value t r.length r.place r.sure r.handle))
        (worked table z live procs fresh h own c began joined f k (St b code) most 1 (perform (taken_for element r.length l >>= put_it) w)
        (subst (λ done. Out f k behind done (St b code)) (sym (performs_then (taken_for element r.length l) put_it w))
        (comes_of code (W.Copy to of ∷ k) v1 g3 (to + 3) SEQ_NEW 4 runs f (λ u. with_value to temps u) d gives_it behind called 1 enough
        (perform (taken_for element r.length l) w)
        (routines.takes low (own + LIST_BYTES) hand d w call_at (to + 3) (W.Copy to of ∷ k) l p.address ty r.length el
        (record { calling = record { next = refl; given = (refl_at, (long_at, (size_at, tt))) }; top_is = top_is; here = b.here }) p.leads typed small)
        went)))))
      where
        f : Env
        f = handled e to true true ty

        behind : ℕ → ℕ
        behind n = most (1 + n)

        called : ℕ → ℕ
        called n = take_most + 4 * n

        enough : (n : ℕ) → 4 + (called n + 1) ≤ behind n
        enough n = let i = few n in omega (arith, i)

        n : ℕ
        n = bytes_at table el

        code : List WordInstr
        code = taken to j of n k

        p : Led table z live procs fresh h own c began joined e temps v d j true ty
        p = led_by table z live procs fresh h own c began joined e temps w b j true ty (inl there)

        l : Location
        l = p.location

        r : HasPair table z h own d temps v of true owned t
        r = b.knows.has of (true, (owned, t)) holds

        small : r.length < 2 ^ 32
        small = (z.handle_small owned d r.value t r.length r.place r.handle).0

        element : Form
        element = element_form (form_in known ty)

        go : Value → Location → Did
        go u a = gives x to (costs 1 (taken_for element (length_of u) a))

        put_it : Value → Deed Temps
        put_it u = give (with_value to temps u)

        gives_it : Value → z.Blocks → ℕ → Type 0
        gives_it u d1 word = IsFull u × z.IsHandle true d1 ty u r.length (word % 2 ^ 32)

        v1 : Vars
        v1 = put v ADDRESS n

        g1 : Vars
        g1 = put b.given 0 p.address

        g2 : Vars
        g2 = put g1 1 r.length

        g3 : Vars
        g3 = put g2 2 (n % 2 ^ 32)

        call_word : WordState
        call_word = at cw b.memory (W.Call (to + 3) SEQ_NEW ∷ W.Copy to of ∷ k) v1 g3

        refl_at : g3 0 ≡ Some p.address
        refl_at = put_word b.given 0 p.address (z.leads_small true hand d l p.address ty p.leads)

        long_at : g3 1 ≡ Some r.length
        long_at = put_word g1 1 r.length small

        size_at : g3 2 ≡ Some (n % 2 ^ 32)
        size_at = put_word g2 2 (n % 2 ^ 32) (omega arith)

        low_to : 6 ≤ to
        low_to = (pair_few to is).0

        high_to : to ≤ 7
        high_to = (pair_few to is).1

        runs : R 4 (Ws b code) call_word
        runs =
            let l1 = W.Call (to + 3) SEQ_NEW ∷ W.Copy to of ∷ k in
            let l2 = W.Argument 2 ADDRESS ∷ l1 in
            let l3 = W.Constant ADDRESS n ∷ l2 in
            let l4 = W.Argument 1 of ∷ l3 in
            then_runs live procs (run_argument live procs cw b.memory l4 v b.given 0 j p.variable)
            (then_runs live procs (run_argument live procs cw b.memory l3 v g1 1 of r.long)
            (then_runs live procs (run_constant live procs cw b.memory l2 v g2 ADDRESS n)
            (run_argument live procs cw b.memory l1 v1 g2 2 ADDRESS (put_here v ADDRESS n))))

        call_at : At_line
        call_at = ((runs.by fresh b.done).0, call_word)

        went : (n : ℕ) (u : Value) (w1 : World)
            → IsBack table z live procs fresh low (own + LIST_BYTES) hand d (gives_it u) call_at (to + 3) (W.Copy to of ∷ k) w1 (called n)
            → Reach f (with_value to temps u) w1 k (St b code) (behind n)
        went works u w1 back =
            let vars3 = put v1 (to + 3) back.word in
            let vars4 = put vars3 to r.length in
            let few = (pair_few of r.is).1 in
            let of_there : vars3 of ≡ Some r.length = put_there v1 (to + 3) back.word of (λ g. omega (arith, g, few, low_to))
            ∙ (put_there v ADDRESS n of (λ g. omega (arith, g, few)) ∙ r.long) in
            let whole : r.length % 2 ^ 32 ≡ r.length = omega (arith, small) in
            let handle = subst (λ m. z.IsHandle true back.after ty u m (back.word % 2 ^ 32)) (sym whole) back.gives.1 in
            back_reached code (W.Copy to of ∷ k) v1 g3 (to + 3) SEQ_NEW 4 runs f (λ u. with_value to temps u) d gives_it behind called 1 enough works u w1 back
            (z.same d) (with_value to temps u) refl vars4 (run_copy live procs (W_c (to + 3)) back.memory k vars3 no_words to of of_there)
            (knows_kept table z h own back.after f (with_value to temps u) (put (put v to r.length) (to + 3) back.word)
            (knows_pair table z h own back.after e temps v (knows_later table z h own d e temps v b.knows back.after back.ahead) to ty r.length back.word
            true true u is
            handle back.gives.0 tt) vars4 (λ i le. by i le (cases_eq i to) (cases_eq i (to + 3))))
          where
            by : (i : ℕ) → i ≤ 10 → (i ≡ to) ⊎ (i ≢ to) → (i ≡ to + 3) ⊎ (i ≢ to + 3)
                → put (put v1 (to + 3) back.word) to r.length i ≡ put (put v to r.length) (to + 3) back.word i
            by i le (inl same) (inl other) = absurd (omega (arith, same, other))
            by i le (inl same) (inr other) =
                subst (λ m. put (put v1 (to + 3) back.word) to r.length m ≡ put (put v to r.length) (to + 3) back.word m) (sym same)
                (put_here (put v1 (to + 3) back.word) to r.length
                ∙ sym (put_there (put v to r.length) (to + 3) back.word to (λ g. omega (arith, g)) ∙ put_here v to r.length))
            by i le (inr away) (inl other) =
                subst (λ m. put (put v1 (to + 3) back.word) to r.length m ≡ put (put v to r.length) (to + 3) back.word m) (sym other)
                (put_there (put v1 (to + 3) back.word) to r.length (to + 3) (λ g. omega (arith, g))
                ∙ (put_here v1 (to + 3) back.word ∙ sym (put_here (put v to r.length) (to + 3) back.word)))
            by i le (inr away) (inr other) =
                put_there (put v1 (to + 3) back.word) to r.length i away
                ∙ (put_there v1 (to + 3) back.word i other ∙ (put_there v ADDRESS n i (λ g. omega (arith, g, le))
                ∙ sym (put_there (put v to r.length) (to + 3) back.word i other ∙ put_there v to r.length i away)))

    -- ---- another hook, or bits

    module _ (hook : Hook) (of to from : ℕ) (p : Led table z live procs fresh h own c began joined e temps v d to true of) (owned : Bool)
        (q : Led table z live procs fresh h own c began joined e temps v d from owned of) (asked : from_own hook ≡ true → owned ≡ true) where
      abbrev deed : Deed (Unit {0})
      deed = hook_deed known hook of p.location q.location

      rest : Unit {0} → Deed Temps
      rest u = give temps

      abbrev small_to : p.address < 2 ^ 32
      small_to = z.leads_small true hand d p.location p.address of p.leads

      abbrev small_from : q.address < 2 ^ 32
      small_from = z.leads_small owned hand d q.location q.address of q.leads

      -- read from there, or as the hook asks
      read_from : z.Leads false hand d q.location q.address of
      read_from = as_asked table z live procs fresh h own c began joined false owned (λ e. absurd (false≢true e)) hand d q.location q.address of q.leads

      asked_from : z.Leads (from_own hook) hand d q.location q.address of
      asked_from = as_asked table z live procs fresh h own c began joined (from_own hook) owned asked hand d q.location q.address of q.leads

      abbrev given2 : Vars
      given2 = put (put b.given 0 p.address) 1 q.address

      -- variables between are others, and the word that came back
      behind_call : (code : List WordInstr) (vars given : Vars) (number lines : ℕ)
          (runs : R lines (Ws b code) (at cw b.memory (W.Call ADDRESS number ∷ k) vars given))
          → AreKept v vars → (most called : ℕ → ℕ) (few : (n : ℕ) → lines + (called n + 0) ≤ most n) (n : ℕ) (u : Unit {0}) (w1 : World)
          → IsBack table z live procs fresh low (own + LIST_BYTES) hand d (AnyWord table z live procs fresh u)
          ((runs.by fresh b.done).0, at cw b.memory (W.Call ADDRESS number ∷ k) vars given) ADDRESS k w1 (called n)
          → Reach e temps w1 k (St b code) (most n)
      behind_call code vars given number lines runs kept most called few n u w1 back =
          back_reached code k vars given ADDRESS number lines runs e (λ u. temps) d (AnyWord table z live procs fresh) most called 0 few n u w1 back (z.same d)
          temps refl (put vars ADDRESS back.word) (no_run (step live procs) (at (W_c ADDRESS) back.memory k (put vars ADDRESS back.word) no_words))
          (knows_kept table z h own back.after e temps v (knows_later table z h own d e temps v b.knows back.after back.ahead) (put vars ADDRESS back.word)
          (kept_between v vars ADDRESS back.word (omega arith) kept))

      -- what a hook's line may take, behind its work
      abbrev hook_most : ℕ → ℕ
      hook_most n = 4 + pace * n

      call_hook : IsKept table z live procs fresh first chain pace hook of
          → Out e k hook_most (done_then (perform deed w) (λ u new. perform (give temps) new)) (St b (hook_called (hook_number first hook of) to from k))
      call_hook kept =
          let code = hook_called (hook_number first hook of) to from k in
          let l1 = W.Call ADDRESS (hook_number first hook of) ∷ k in
          let runs = then_runs live procs (run_argument live procs cw b.memory (W.Argument 1 from ∷ l1) v b.given 0 to p.variable)
          (run_argument live procs cw b.memory l1 v (put b.given 0 p.address) 1 from q.variable) in
          comes_of code k v given2 ADDRESS (hook_number first hook of) 2 runs e (λ u. temps) d (AnyWord table z live procs fresh) hook_most
          (λ n. 1 + pace * n) 0 (λ n. omega arith) (perform deed w)
          (kept low (own + LIST_BYTES) hand d w ((runs.by fresh b.done).0, at cw b.memory l1 v given2) ADDRESS k p.location q.location p.address q.address
          (record {
            calling = record { next = refl; given = (put_word b.given 0 p.address small_to, (put_word (put b.given 0 p.address) 1 q.address small_from, tt)) };
            top_is = top_is;
            here = b.here;
          }) p.leads asked_from fits)
          (behind_call code v given2 (hook_number first hook of) 2 runs (kept_none v) hook_most (λ n. 1 + pace * n) (λ n. omega arith))

      bits_few : (n : ℕ) → 4 + (bits_pace * n + 0) ≤ hook_most n
      bits_few n = let h : bits_pace * n ≤ pace * n = mul-le-mul (let s = steep in omega (arith, s)) (le_refl n) in omega (arith, h)

      copy_bits : IsMade table z live procs fresh hook → has_hooks table of ≡ false
          → Out e k hook_most (done_then (perform deed w) (λ u new. perform (give temps) new)) (St b (bits false (bytes_at table of) to from k))
      copy_bits made plain =
          let n = bytes_at table of in
          let code = bits false n to from k in
          let l1 = W.Call ADDRESS COPY ∷ k in
          let l2 = W.Argument 2 ADDRESS ∷ l1 in
          let l3 = W.Argument 1 from ∷ l2 in
          let v1 = put v ADDRESS n in
          let given3 = put given2 2 (n % 2 ^ 32) in
          let few = p.few in let few2 = q.few in
          let runs = then_runs live procs (run_constant live procs cw b.memory (W.Argument 0 to ∷ l3) v b.given ADDRESS n)
          (then_runs live procs
          (run_argument live procs cw b.memory l3 v1 b.given 0 to (put_there v ADDRESS n to (λ g. omega (arith, g, few)) ∙ p.variable))
          (then_runs live procs
          (run_argument live procs cw b.memory l2 v1 (put b.given 0 p.address) 1 from (put_there v ADDRESS n from (λ g. omega (arith, g, few2)) ∙ q.variable))
          (run_argument live procs cw b.memory l1 v1 given2 2 ADDRESS (put_here v ADDRESS n)))) in
          comes_of code k v1 given3 ADDRESS COPY 4 runs e (λ u. temps) d (AnyWord table z live procs fresh) hook_most (λ n. bits_pace * n) 0 bits_few
          (perform deed w)
          (routines.copies_bits low (own + LIST_BYTES) hand d w ((runs.by fresh b.done).0, at cw b.memory l1 v1 given3) ADDRESS k p.location q.location
          p.address q.address of
          (record {
            calling = record {
              next = refl;
              given = (
                put_word b.given 0 p.address small_to,
                (
                  put_word (put b.given 0 p.address) 1 q.address small_from,
                  (put_word given2 2 (n % 2 ^ 32) (omega arith), tt),
                ),
              );
            };
            top_is = top_is;
            here = b.here;
          }) p.leads read_from plain hook made)
          (behind_call code v1 given3 COPY 4 runs (kept_between v v ADDRESS n (omega arith) (kept_none v)) hook_most (λ n. bits_pace * n) bits_few)

      move_word : IsMade table z live procs fresh hook → has_hooks table of ≡ false → bytes_at table of ≡ WORD_BYTES
          → Out e k hook_most (done_then (perform deed w) (λ u new. perform (give temps) new)) (St b (bits true (bytes_at table of) to from k))
      move_word made plain word = by (perform deed w)
          (routines.moves_word low (own + LIST_BYTES) hand d w b.memory p.location q.location p.address q.address of b.here p.leads read_from plain word
          hook made)
        where
          code : List WordInstr
          code = bits true (bytes_at table of) to from k

          moved : {w1 : World} (x : IsMoved table z live procs fresh low (own + LIST_BYTES) hand d b.memory p.address q.address w1)
              → R 2 (Ws b code) (at cw (with_number b.memory p.address bytes_of.Word (x.word % 2 ^ 32)) k (put v ADDRESS x.word) b.given)
          moved x =
              let few = p.few in
              then_runs live procs (run_load live procs cw b.memory (W.Store to ADDRESS bytes_of.Word ∷ k) v b.given ADDRESS from bytes_of.Word q.variable
              x.reads)
              (run_store live procs cw b.memory k (put v ADDRESS x.word) b.given to ADDRESS bytes_of.Word
              (put_there v ADDRESS x.word to (λ g. omega (arith, g, few)) ∙ p.variable) (put_here v ADDRESS x.word) x.may)

          by : (done : Done (Unit {0})) → Moves table z live procs fresh low (own + LIST_BYTES) hand d b.memory p.address q.address done
              → Out e k hook_most (done_then done (λ u new. perform (give temps) new)) (St b code)
          by (Answers es n u w1) m =
              let x = m.1 in let few = p.few in let r = (moved x).by fresh b.done in (
                ap (λ fs. fs ++ []) m.0,
                record {
                  before = record {
                    done = r.0;
                    memory = with_number b.memory p.address bytes_of.Word (x.word % 2 ^ 32);
                    vars = put v ADDRESS x.word;
                    given = b.given;
                    awaits = b.awaits;
                    blocks = x.after;
                    ahead = z.still_later began d x.after b.ahead x.ahead;
                    here = x.here;
                    knows = knows_kept table z h own x.after e temps v (knows_later table z h own d e temps v b.knows x.after x.ahead) (put v ADDRESS x.word)
                        (kept_between v v ADDRESS x.word (omega arith) (kept_none v));
                  };
                  lines = 2;
                  few = omega arith;
                  runs = r.1;
                },
              )
          by (Finishes es n status w1) m = absurd m
          by (Fails es n w1) m = tt

      made_code : IsMade table z live procs fresh hook → (bytes : ℕ) → plain_hook hook bytes to from k ≡ bits (bytes == WORD_BYTES) bytes to from k
      made_code = by hook
        where
          by : (one : Hook) → IsMade table z live procs fresh one → (bytes : ℕ) → plain_hook one bytes to from k ≡ bits (bytes == WORD_BYTES) bytes to from k
          by Copies made bytes = refl
          by Assigns made bytes = refl
          by Sinks made bytes = refl
          by Ends made bytes = absurd made

      plain_part : IsMade table z live procs fresh hook → has_hooks table of ≡ false
          → Out e k hook_most (done_then (perform deed w) (λ u new. perform (give temps) new)) (St b (plain_hook hook (bytes_at table of) to from k))
      plain_part made plain =
          subst (λ l. Out e k hook_most (done_then (perform deed w) (λ u new. perform (give temps) new)) (St b l)) (sym (made_code made (bytes_at table of)))
          (by (bytes_at table of == WORD_BYTES) refl)
        where
          by : (word : Bool) → (bytes_at table of == WORD_BYTES) ≡ word
              → Out e k hook_most (done_then (perform deed w) (λ u new. perform (give temps) new))
              (St b (bits (bytes_at table of == WORD_BYTES) (bytes_at table of) to from k))
          by true is =
              subst (λ y. Out e k hook_most (done_then (perform deed w) (λ u new. perform (give temps) new)) (St b (bits y (bytes_at table of) to from k)))
              (sym is)
              (move_word made plain (eqb-true (bytes_at table of) WORD_BYTES is))
          by false is =
              subst (λ y. Out e k hook_most (done_then (perform deed w) (λ u new. perform (give temps) new)) (St b (bits y (bytes_at table of) to from k)))
              (sym is)
              (copy_bits made plain)

    hook_at : (most : ℕ → ℕ) → ((n : ℕ) → most (1 + n) ≡ 4 + pace * n) → (hook : Hook) (of to from : ℕ) →
        (p : Led table z live procs fresh h own c began joined e temps v d to true of)
        (owned : Bool) (q : Led table z live procs fresh h own c began joined e temps v d from owned of) → (from_own hook ≡ true → owned ≡ true) → MayDo hook of
        → S e most (does_it (O.Hook hook of to from)) (part_hook table first ty (has_hooks table of) hook of to from k)
    hook_at most same hook of to from p owned q asked may =
        subst (λ o. S e most (using o (λ place. using (temps.places from) (λ other. go (location_at temps place) (location_at temps other)))) code)
        (sym p.place)
        (subst (λ o. S e most (using o (λ other. go p.location (location_at temps other))) code) (sym q.place)
        (worked table z live procs fresh h own c began joined e k (St b code) most 1 (perform (deed_of >>= (λ u. give temps)) w)
        (subst (λ done. Out e k behind done (St b code)) (sym (performs_then deed_of (λ u. give temps) w)) (by may))))
      where
        behind : ℕ → ℕ
        behind n = most (1 + n)

        -- as much as a hook's line may take
        as_hook : (code : List WordInstr) (done : Done Temps) → Out e k (λ n. 4 + pace * n) done (St b code) → Out e k behind done (St b code)
        as_hook code (Answers es n now w1) o = (o.0, subst (λ i. Reach e now w1 k (St b code) i) (sym (same n)) o.1)
        as_hook code (Finishes es n status w1) o = (o.0, subst (λ i. IsOver table z live procs fresh (St b code) es status i) (sym (same n)) o.1)
        as_hook code (Fails es n w1) o = tt

        code : List WordInstr
        code = part_hook table first ty (has_hooks table of) hook of to from k

        deed_of : Deed (Unit {0})
        deed_of = hook_deed known hook of p.location q.location

        go : Location → Location → Did
        go a a2 = acts x (costs 1 (hook_deed known hook of a a2))

        by : MayDo hook of → Out e k behind (done_then (perform deed_of w) (λ u new. perform (give temps) new)) (St b code)
        by (inl m) =
            subst (λ y. Out e k behind (done_then (perform deed_of w) (λ u new. perform (give temps) new))
            (St b (part_hook table first ty y hook of to from k))) (sym m.0)
            (as_hook (hook_called (hook_number first hook of) to from k) (done_then (perform deed_of w) (λ u new. perform (give temps) new))
            (call_hook hook of to from p owned q asked m.1))
        by (inr m) =
            subst (λ y. Out e k behind (done_then (perform deed_of w) (λ u new. perform (give temps) new))
            (St b (part_hook table first ty y hook of to from k))) (sym m.0)
            (as_hook (plain_hook hook (bytes_at table of) to from k) (done_then (perform deed_of w) (λ u new. perform (give temps) new))
            (plain_part hook of to from p owned q asked m.1 m.0))

    pub hook_line : (most : ℕ → ℕ) → ((n : ℕ) → most (1 + n) ≡ 4 + pace * n) → (hook : Hook) (of to from : ℕ) (owned : Bool) → LeadsBy e to true of
        → LeadsBy e from owned of → (from_own hook ≡ true → owned ≡ true) → MayDo hook of
        → S e most (does_it (O.Hook hook of to from)) (part_hook table first ty (has_hooks table of) hook of to from k)
    hook_line most same hook of to from owned leads_to leads_from asked may =
        hook_at most same hook of to from (led_by table z live procs fresh h own c began joined e temps w b to true of leads_to) owned
        (led_by table z live procs fresh h own c began joined e temps w b from owned of leads_from) asked may

    -- a distinct type's is its base's
    pub base_line : (most : ℕ → ℕ) → ((n : ℕ) → most (1 + n) ≡ 4 + pace * n) → (hook : Hook) (base : ℕ) (owned : Bool) → e.at 0 ≡ Some (true, ty)
        → e.at 1 ≡ Some (owned, ty) → (from_own hook ≡ true → owned ≡ true) → IsDistinct (slice_get table ty) base → MayDo hook base
        → S e most (does_it (O.Hook hook base 0 1)) (part_hook table first ty (has_hooks table base) hook base 0 1 k)
    base_line most same hook base owned at_to at_from asked distinct may =
        hook_at most same hook base 0 1 (as_base 0 true (led_by table z live procs fresh h own c began joined e temps w b 0 true ty (inl at_to))) owned
        (as_base 1 owned (led_by table z live procs fresh h own c began joined e temps w b 1 owned ty (inl at_from))) asked may
      where
        as_base : (j : ℕ) (o : Bool) → Led table z live procs fresh h own c began joined e temps v d j o ty
            → Led table z live procs fresh h own c began joined e temps v d j o base
        as_base j o p = record {
          few = p.few;
          location = p.location;
          address = p.address;
          place = p.place;
          variable = p.variable;
          leads = z.to_base o hand d p.location p.address ty base distinct p.leads;
        }
