-- What the routine does that gives a text another length.
use Rattle.std.proofs.Common.{◌≡◌, inl, inr, ℕ, zero, suc, ◌+◌, ◌-◌, ◌*◌, ◌^◌, ◌<◌, ◌≤◌, List, [], ◌∷◌, ◌++◌, length, take, replicate, Option, Some, None}
use Rattle.std.proofs.Common.{true, false, refl, sym, ap, subst, ◌∙◌, ⊎_elim, arith, not, append-nil}
use Rattle.std.specs.Prelude.{◌||◌, if◌then◌else◌}
use Rattle.std.proofs.lemmas.Bool.{eq-eqb, ne_eqb, lt-ltb, le-ltb, le-leb, cases_Bool, cases_lt}
use Rattle.std.proofs.lemmas.List.{length-take, take-take, length-replicate}
use Rattle.arc_base.specs.Event.{writes}
use Rattle.arc_base.specs.declared.outside.Stream.TheVariants.{Err}
use Rattle.nim_program.specs.Traps.{OutOfMemory}
use Rattle.nim_meaning.specs.OwnedRows.{text_to}
use Rattle.rv32_isa.specs.declared.micro_op.Size.TheVariants.{Byte}
use Rattle.rv32_isa.specs.Machine.{Lives}
use Rattle.word_code.specs.declared.word.WordOperation.TheVariants as operation
use Rattle.word_code.specs.declared.word.Test.TheVariants as test
use Rattle.word_code.specs.declared.word.WordInstr.{WordInstr}
use Rattle.word_code.specs.declared.word.WordInstr.TheVariants.{Label, Constant, Sum, Compute, Store, Branch, Return}
use Rattle.word_code.specs.declared.word.WordProc.{WordProc}
use Rattle.word_code.specs.Memory.{Memory, with_number, bytes_at, may_fill, own_data_at}
use Rattle.word_code.specs.Words.{computed, holds, Vars, no_words, put, params_of, from_proc, WordState}
use Rattle.word_code.specs.RoutineTable.{IsRewritten, trap_line}
use Rattle.word_code.specs.Routines.{Comes, IsCalling, goes_on}
use Rattle.word_code.proofs.ForCallers.{MemoryLaw, Sized, sizes_same, Runs, then_runs, Within, at as state_at, run_label, run_constant, run_sum, run_compute}
use Rattle.word_code.proofs.ForCallers.{run_store, run_past, run_off, got, got_sum}
use Rattle.heap_memory.specs.declared.numbers.TheConstants.{RESIZE}
use Rattle.heap_memory.specs.HeapRoutines.{fits, IsKeptThere}
use Rattle.heap_memory.specs.GrowRoutine.{Owned, Growing, taking, place_of, room_of, holds_it, may_grow, IsPresent, MayGrow, kept_of, grows}
use Rattle.heap_memory.specs.AppendRoutine.{IsFilled, GrowthLeaves, resizes}
use Rattle.refc_runtime.specs.LineCode.{zero_lines, resize_lines}
use Rattle.refc_runtime.proofs.ByteStores.{byte_may, byte_sized, byte_written, byte_here, first_open, all_written, all_bytes, behind_open}
use Rattle.refc_runtime.proofs.Calls.{later, inside, enters, returns_awaiting, returns_before}
use Rattle.refc_runtime.proofs.Coming.{calling_state, comes_back, ends_behind}
use Rattle.refc_runtime.proofs.GrowFacts.{beside_more}
use Rattle.refc_runtime.proofs.Grew.{growing_lines, Grew, grew, full}
use Rattle.heap_memory.proofs.ForCallers.{kept_length, stays_filled, ends_low, open_at, Filled, fills}

module _ (law : MemoryLaw) (live : Lives) (procs : List WordProc) (n : ℕ) (grow_kept : IsKeptThere live procs (grows (own_data_at + n))) (u : Growing)
    (s : WordState) (to : ℕ) (rest : List WordInstr) (others : List WordProc) (stands : from_proc RESIZE procs ≡ later n RESIZE 3 7 resize_lines ∷ others)
    (calling : IsCalling RESIZE (place_of u.present ∷ u.kept ∷ u.wanted ∷ []) to rest s) (sized : Sized s.memory)
    (may : MayGrow (own_data_at + n) u s.memory)
  where
    abbrev at : ℕ
    at = own_data_at + n

    abbrev p : WordProc
    p = later n RESIZE 3 7 resize_lines

    abbrev c : ℕ → Within
    c awaits = record (inside s p to rest) { awaits = awaits }

    abbrev v0 : Vars
    v0 = params_of p s.frame.given

    abbrev old : List ℕ
    old = kept_of u.present u.kept

    old_long : length old ≡ u.kept
    old_long = kept_length at u may.unused may.present

    abbrev Outcome : Type 0
    Outcome = Comes live procs (resizes at) u s to rest (if may_grow u then None else Some 1)

    -- ---- zeros

    record Zeroed (m : Memory) (a k place : ℕ) (v : Vars) : Type 0 where
      other : Memory
      regions : Sized other
      written : IsRewritten m other a (suc k)
      there : bytes_at other a (suc k) ≡ Some (replicate (suc k) 0)
      runs : Runs live procs (4 * suc k + 1) (state_at (c 3) m zero_lines v no_words) (goes_on s to place rest other s.input)

    abbrev z2 : List WordInstr
    z2 = Store 4 6 Byte ∷ Sum 4 4 1 ∷ Branch test.Unequal 4 5 1 ∷ Return 3 ∷ []

    abbrev z3 : List WordInstr
    z3 = Sum 4 4 1 ∷ Branch test.Unequal 4 5 1 ∷ Return 3 ∷ []

    abbrev z4 : List WordInstr
    z4 = Branch test.Unequal 4 5 1 ∷ Return 3 ∷ []

    -- one of them
    turn : (m : Memory) → Sized m → (a : ℕ) (v : Vars) → may_fill m a 1 ≡ true → v 4 ≡ Some a → v 6 ≡ Some 0
        → Runs live procs 3 (state_at (c 3) m zero_lines v no_words) (state_at (c 3) (with_number m a Byte 0) z4 (put v 4 (a + 1)) no_words)
    turn m regions a v is_open e4 e6 =
        then_runs live procs (run_label live procs (c 3) m z2 v no_words 1) (then_runs live procs
        (run_store live procs (c 3) m z3 v no_words 4 6 Byte e4 e6 (byte_may law m regions a 0 is_open))
        (run_sum live procs (c 3) (with_number m a Byte 0) z4 v no_words 4 4 1 e4))

    zeroes : (k : ℕ) (m : Memory) → Sized m → (a place : ℕ) (v : Vars) → may_fill m a (suc k) ≡ true → a + suc k < 2 ^ 32 → v 3 ≡ Some place → v 4 ≡ Some a
        → v 5 ≡ Some (a + suc k) → v 6 ≡ Some 0 → Zeroed m a k place v
    zeroes zero m regions a place v is_open small e3 e4 e5 e6 =
        let m1 : Memory = with_number m a Byte 0 in
        let one : a + 1 < 2 ^ 32 = omega (arith, small) in
        let over : holds test.Unequal (a + 1) (a + 1) ≡ false = ap not (eq-eqb (a + 1) (a + 1) refl) in
        record {
          other = m1;
          regions = byte_sized law m regions a 0 is_open;
          written = byte_written law m regions a 0 is_open;
          there = byte_here law m regions a 0 is_open (omega arith);
          runs = then_runs live procs (turn m regions a v is_open e4 e6) (then_runs live procs
              (run_past live procs (c 3) m1 (Return 3 ∷ []) (put v 4 (a + 1)) no_words test.Unequal 4 5 1 (got (a + 1) one) e5 over)
              (returns_awaiting live procs s to rest 3 [] p refl m1 (put v 4 (a + 1)) 3 place e3));
        }
    zeroes (suc k) m regions a place v is_open small e3 e4 e5 e6 =
        let m1 : Memory = with_number m a Byte 0 in
        let first : may_fill m a 1 ≡ true = first_open m regions a (suc k) is_open in
        let written : IsRewritten m m1 a 1 = byte_written law m regions a 0 first in
        let regions1 : Sized m1 = byte_sized law m regions a 0 first in
        let one : a + 1 < 2 ^ 32 = omega (arith, small) in
        let far : a + suc (suc k) ≡ a + 1 + suc k = omega arith in
        let again : holds test.Unequal (a + 1) (a + suc (suc k)) ≡ true = ap not (ne_eqb (a + 1) (a + suc (suc k)) (λ e. absurd (omega (arith, e)))) in
        let x = zeroes k m1 regions1 (a + 1) place (put v 4 (a + 1)) (behind_open law m m1 regions a (suc k) is_open written) (omega (arith, small)) e3
        (got (a + 1) one) (e5 ∙ ap Some far) e6 in
        record {
          other = x.other;
          regions = x.regions;
          written = all_written law m m1 x.other regions x.regions a (suc k) 0 (replicate (suc k) 0) (length-replicate (suc k) 0) is_open written x.written;
          there = all_bytes law m m1 x.other regions x.regions a (suc k) 0 (replicate (suc k) 0) (length-replicate (suc k) 0) is_open written x.written
              (byte_here law m regions a 0 first (omega arith)) x.there;
          runs = subst (λ i. Runs live procs i (state_at (c 3) m zero_lines v no_words) (goes_on s to place rest x.other s.input)) (omega arith)
              (then_runs live procs (turn m regions a v first e4 e6) (then_runs live procs
              (run_off live procs (c 3) m1 (Return 3 ∷ []) (put v 4 (a + 1)) no_words test.Unequal 4 5 1 zero_lines (got (a + 1) one) e5 again refl) x.runs));
        }

    -- ---- no longer than it is

    called : Runs live procs 1 (calling_state live procs s to rest (resizes at) u calling.next) (state_at (c 0) s.memory resize_lines v0 no_words)
    called = enters live procs s to rest n RESIZE 3 7 resize_lines others stands

    abbrev k : List WordInstr
    k = Compute 4 operation.Add 3 1 ∷ Compute 5 operation.Add 3 2 ∷ Constant 6 0 ∷ zero_lines

    abbrev lines : List WordInstr
    lines = growing_lines law live procs n grow_kept (c 0) s.memory sized u may 0 1 2 3 k v0 calling.given.0 calling.given.1.0 calling.given.1.1.0

    enough_room : u.kept ≤ room_of u.present
    enough_room = by u.present may.present
      where
        by : (q : Option Owned) → IsPresent u.stands u.kept q → u.kept ≤ room_of q
        by None is = omega (arith, is)
        by (Some o) is = is.3

    shorter : u.wanted ≤ u.kept → Outcome
    shorter less =
        let room = enough_room in
        let it : holds_it u.present u.wanted ≡ true = le-leb u.wanted (room_of u.present) (omega (arith, less, room)) in
        let does : may_grow u ≡ true = ap (λ b. b || fits (taking u)) it in
        let f = stays_filled at u may.unused may.present s.memory may.heap (omega (arith, less, room)) in
        let l = old_long in
        let cut : length (take u.wanted old) ≡ u.wanted = length-take u.wanted old ∙ omega (arith, l, less) in
        let none : u.wanted - length old ≡ 0 = omega (arith, l, less) in
        let text : take u.wanted old ≡ text_to u.wanted old
        = sym (append-nil (take u.wanted old)) ∙ ap (λ i. take u.wanted old ++ replicate i 0) (sym none) in
        let filled : IsFilled true at u (take u.wanted old) s.memory (place_of u.present) = record {
          payload = f.payload;
          front = ap (λ i. take i f.payload) cut ∙ sym (take-take u.wanted (length old) f.payload (omega (arith, l, less))) ∙ ap (take u.wanted) f.front;
          room = f.room;
          there = f.there;
          heap = f.heap;
        } in
        comes_back live procs s to rest (resizes at) u calling.next (ap (λ b. if b then None else Some 1) does)
        (ap (λ b. if b then [] else writes Err (trap_line OutOfMemory)) does) (place_of u.present) s.memory
        (subst (λ b. GrowthLeaves b at s.memory s.memory) (sym does) (record { sizes = sizes_same s.memory; beside = λ b i words heap. refl }))
        (subst (λ b. IsFilled b at u (text_to u.wanted old) s.memory (place_of u.present)) (sym it)
        (subst (λ t. IsFilled true at u t s.memory (place_of u.present)) text filled)) 3 (omega arith)
        (then_runs live procs called (then_runs live procs
        (run_past live procs (c 0) s.memory (Return 0 ∷ Label 0 ∷ lines) v0 no_words test.Below 1 2 0 calling.given.1.0 calling.given.1.1.0
        (le-ltb u.kept u.wanted less))
        (returns_before live procs s to rest (Label 0 ∷ lines) p refl s.memory v0 0 (place_of u.present) calling.given.0)))

    -- ---- longer

    module _ (more : u.kept < u.wanted) where
      to_grow : Runs live procs 3 (calling_state live procs s to rest (resizes at) u calling.next) (state_at (c 0) s.memory lines v0 no_words)
      to_grow =
          then_runs live procs called (then_runs live procs
          (run_off live procs (c 0) s.memory (Return 0 ∷ Label 0 ∷ lines) v0 no_words test.Below 1 2 0 (Label 0 ∷ lines) calling.given.1.0
          calling.given.1.1.0 (lt-ltb u.kept u.wanted more) refl)
          (run_label live procs (c 0) s.memory lines v0 no_words 0))

      module _ (does : may_grow u ≡ true)
          (x : Grew law live procs n grow_kept (c 0) s.memory sized u may 0 1 2 3 k v0 calling.given.0 calling.given.1.0 calling.given.1.1.0)
        where
          abbrev last : ℕ
          last = u.wanted - u.kept - 1

          count_is : suc last ≡ u.wanted - u.kept
          count_is = omega (arith, more)

          abbrev v1 : Vars
          v1 = put v0 3 x.place

          abbrev v2 : Vars
          v2 = put v1 4 (computed operation.Add x.place u.kept)

          abbrev v3 : Vars
          v3 = put v2 5 (computed operation.Add x.place u.wanted)

          abbrev v4 : Vars
          v4 = put v3 6 0

          ends : x.place + u.wanted < 2 ^ 32
          ends =
              let low = ends_low at u may.unused may.present x.other x.regions old x.place (holds_it u.present u.wanted) x.filled in
              let room = x.filled.room in
              omega (arith, low, room)

          new_is : v1 3 ≡ Some x.place
          new_is = got x.place x.small

          to_zeros : Runs live procs 3 (state_at (c 3) x.other k v1 no_words) (state_at (c 3) x.other zero_lines v4 no_words)
          to_zeros =
              then_runs live procs
              (run_compute live procs (c 3) x.other (Compute 5 operation.Add 3 2 ∷ Constant 6 0 ∷ zero_lines) v1 no_words 4 operation.Add 3 1 new_is
              calling.given.1.0)
              (then_runs live procs
              (run_compute live procs (c 3) x.other (Constant 6 0 ∷ zero_lines) v2 no_words 5 operation.Add 3 2 new_is calling.given.1.1.0)
              (run_constant live procs (c 3) x.other zero_lines v3 no_words 6 0))

          zeroed : Zeroed x.other (x.place + u.kept) last x.place v4
          zeroed =
              let e = ends in
              let n = count_is in
              let room = x.filled.room in
              zeroes last x.other x.regions (x.place + u.kept) x.place v4
              (open_at at u may.unused may.present x.other x.regions old x.place (holds_it u.present u.wanted) x.filled u.kept (suc last)
              (omega (arith, room, n, more)))
              (omega (arith, e, n, more)) new_is (got_sum x.place u.kept (omega (arith, e, more)))
              (got_sum x.place u.wanted e ∙ ap Some (omega (arith, n, more))) refl

          abbrev zeros : List ℕ
          zeros = replicate (suc last) 0

          zeros_long : length zeros ≡ suc last
          zeros_long = length-replicate (suc last) 0

          written : IsRewritten x.other zeroed.other (x.place + length old) (length zeros)
          written =
              subst (λ i. IsRewritten x.other zeroed.other (x.place + i) (length zeros)) (sym old_long)
              (subst (λ i. IsRewritten x.other zeroed.other (x.place + u.kept) i) (sym zeros_long) zeroed.written)

          there : bytes_at zeroed.other (x.place + length old) (length zeros) ≡ Some zeros
          there =
              ap (λ i. bytes_at zeroed.other (x.place + i) (length zeros)) old_long
              ∙ ap (bytes_at zeroed.other (x.place + u.kept)) zeros_long ∙ zeroed.there

          filled : Filled at u may.unused may.present old zeros x.other zeroed.other x.regions zeroed.regions x.place written there
              (holds_it u.present u.wanted)
          filled =
              let l = old_long in
              let z = zeros_long in
              let n = count_is in
              let room = x.filled.room in
              fills at u may.unused may.present old zeros x.other zeroed.other x.regions zeroed.regions x.place written there
              (holds_it u.present u.wanted) x.filled (omega (arith, l, z, n, room, more))

          text : old ++ zeros ≡ text_to u.wanted old
          text =
              let l = old_long in
              let n = count_is in
              let all : u.wanted - length old ≡ suc last = omega (arith, l, n) in
              ap (λ t. t ++ zeros) (sym (take_long old u.wanted (omega (arith, l, more))))
              ∙ ap (λ i. take u.wanted old ++ replicate i 0) (sym all)
            where
              take_long : (xs : List ℕ) (i : ℕ) → length xs ≤ i → take i xs ≡ xs
              take_long [] zero few = refl
              take_long [] (suc i) few = refl
              take_long (y ∷ xs) zero few = absurd (omega (arith, few))
              take_long (y ∷ xs) (suc i) few = ap (λ ys. y ∷ ys) (take_long xs i (omega (arith, few)))

          is_longer : Outcome
          is_longer =
              let few = x.few in
              let n = count_is in
              comes_back live procs s to rest (resizes at) u calling.next (ap (λ b. if b then None else Some 1) does)
              (ap (λ b. if b then [] else writes Err (trap_line OutOfMemory)) does) x.place zeroed.other
              (subst (λ b. GrowthLeaves b at s.memory zeroed.other) (sym does) (beside_more at s.memory x.other zeroed.other x.rest filled.rest))
              (subst (λ t. IsFilled (holds_it u.present u.wanted) at u t zeroed.other x.place) text filled.filled)
              (3 + (x.count + (3 + (4 * suc last + 1)))) (omega (arith, few, n))
              (then_runs live procs to_grow (then_runs live procs x.runs (then_runs live procs to_zeros zeroed.runs)))

      longer : Outcome
      longer = elim (cases_Bool (may_grow u)) [
        | inl does ↦
            is_longer does (grew law live procs n grow_kept (c 0) s.memory sized u may 0 1 2 3 k v0 calling.given.0 calling.given.1.0 calling.given.1.1.0 does)
        | inr out ↦
            let x = full law live procs n grow_kept (c 0) s.memory sized u may 0 1 2 3 k v0 calling.given.0 calling.given.1.0 calling.given.1.1.0 out in
            let few = x.few in
            ends_behind live procs s to rest (resizes at) u calling.next 1 (ap (λ b. if b then None else Some 1) out) s.memory
            (subst (λ b. GrowthLeaves b at s.memory s.memory) (sym out) refl) 3 x.count (omega (arith, few)) (state_at (c 0) s.memory lines v0 no_words)
            to_grow (writes Err (trap_line OutOfMemory)) (ap (λ b. if b then [] else writes Err (trap_line OutOfMemory)) out) x.stops
      ]

    pub resize_comes : Outcome
    resize_comes = ⊎_elim longer shorter (cases_lt u.kept u.wanted)
