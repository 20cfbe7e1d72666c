-- A line's next character comes to its text, or doesn't fit.
use Rattle.std.proofs.Common.{◌≡◌, ℕ, suc, ◌+◌, ◌%◌, ◌^◌, ◌<◌, ◌≤◌, inl, inr, List, [], ◌∷◌, ◌++◌, length, Some}
use Rattle.std.proofs.Common.{true, false, refl, sym, ap, subst, ◌∙◌, arith}
use Rattle.std.specs.Prelude.{◌==◌}
use Rattle.std.proofs.lemmas.Bool.{and_parts}
use Rattle.arc_base.specs.Event.{writes}
use Rattle.arc_base.specs.declared.outside.Stream.TheVariants.{Err}
use Rattle.nim_program.specs.Traps.{OutOfMemory}
use Rattle.rv32_isa.specs.declared.micro_op.Size.TheVariants.{Byte}
use Rattle.rv32_isa.specs.Machine.{Lives}
use Rattle.rv32_isa.specs.Image.{heap_at}
use Rattle.rv32_isa.specs.State.{writable}
use Rattle.word_code.specs.declared.word.WordOperation.TheVariants as operation
use Rattle.word_code.specs.declared.word.Test.TheVariants as test
use Rattle.word_code.specs.declared.word.WordInstr.{WordInstr}
use Rattle.word_code.specs.declared.word.WordInstr.TheVariants.{Copy, Sum, Compute, Store, Jump, Branch}
use Rattle.word_code.specs.declared.word.WordProc.{WordProc}
use Rattle.word_code.specs.Memory.{Memory, as_state, with_number, bytes_at, may_fill, own_data_at}
use Rattle.word_code.specs.Words.{computed, Vars, no_words, put, WordState, step}
use Rattle.word_code.specs.RoutineTable.{Beside, IsRewritten, trap_line}
use Rattle.word_code.proofs.ForCallers.{MemoryLaw, Sized, sizes_more, AlwaysStops, stops_on, Runs, then_runs, Within, at as state_at, run_label}
use Rattle.word_code.proofs.ForCallers.{run_sum, run_compute, run_store, got, got_sum}
use Rattle.heap_memory.specs.declared.numbers.TheConstants.{HEAP_SCRATCH}
use Rattle.heap_memory.specs.declared.numbers.TheConstants.{READ_LINE}
use Rattle.heap_memory.specs.HeapUse.{IsElsewhere}
use Rattle.heap_memory.specs.HeapRoutines.{IsBesideHeap, IsKeptThere}
use Rattle.heap_memory.specs.TextRoutines.{AreBytes}
use Rattle.heap_memory.specs.GrowRoutine.{Growing, place_of, holds_it, kept_of, grows}
use Rattle.heap_memory.specs.AppendRoutine.{IsFilled}
use Rattle.heap_memory.specs.LineRoutine.{UnderWay, one_longer, may_get, char_work, Reading, MayRead}
use Rattle.heap_memory.specs.LineRoutine.{IsBesideText}
use Rattle.heap_memory.specs.LineRoutine.{block_under_way}
use Rattle.refc_runtime.specs.InputCode.{line_end_lines, char_lines, read_lines}
use Rattle.refc_runtime.proofs.ByteStores.{byte_may, byte_sized, byte_written, byte_here, first_open}
use Rattle.refc_runtime.proofs.Calls.{later, inside}
use Rattle.heap_memory.proofs.ForCallers.{kept_length, ends_low, open_at, Filled, fills}
use Rattle.refc_runtime.proofs.Grew.{growing_lines, Grew, grew, full}
use Rattle.heap_memory.proofs.ForCallers.{still_heap}
use Rattle.refc_runtime.proofs.LineStages.{Stage, growth, may_be_longer, kept_text, holds_same, grows_same, work_same, next_stage}

module _ (law : MemoryLaw) (live : Lives) (procs : List WordProc) (n : ℕ) (grow_kept : IsKeptThere live procs (grows (own_data_at + n))) (u : Reading)
    (s : WordState) (to : ℕ) (rest : List WordInstr) (sized : Sized s.memory) (may : MayRead (own_data_at + n) u s.memory)
  where
    abbrev pub own : ℕ
    own = own_data_at + n

    abbrev pub read_proc : WordProc
    read_proc = later n READ_LINE 1 9 read_lines

    -- with the input that is left
    abbrev pub cl : List ℕ → ℕ → Within
    cl left awaits = record (inside s read_proc to rest) { input = left; awaits = awaits }

    abbrev pub StageAt : UnderWay → List ℕ → Memory → ℕ → Type 0
    StageAt w text m place = Stage own u may.unused w text m place

    abbrev pub BesideText : Memory → Type 0
    BesideText m = IsBesideText own u s.memory m

    -- ---- what stays beside the text

    pub beside_then : (m other : Memory) → BesideText m → IsBesideHeap own m other → BesideText other
    beside_then m other x y = record {
      sizes = sizes_more s.memory m other x.sizes y.sizes;
      beside = λ b k words heap cell.
          let same = x.sizes.heap in
          y.beside b k words (subst (λ l. Beside b k heap_at l) (sym same) heap) ∙ x.beside b k words heap cell;
    }

    pub text_then : (m other : Memory) (i k : ℕ) → i + k ≤ 8 → BesideText m → IsRewritten m other (u.to + i) k → BesideText other
    text_then m other i k few x y = record {
      sizes = sizes_more s.memory m other x.sizes y.sizes;
      beside = λ b j words heap cell. y.beside b j (sides b j cell) ∙ x.beside b j words heap cell;
    }
      where
        sides : (b j : ℕ) → Beside b j u.to 8 → Beside b j (u.to + i) k
        sides b j (inl h) = inl (omega (arith, h))
        sides b j (inr h) = inr (omega (arith, h, few))

    pub still_elsewhere : (m : Memory) → BesideText m → (i k : ℕ) → i + k ≤ 8 → IsElsewhere own m (u.to + i) k
    still_elsewhere m x i k few =
        let e = may.elsewhere in
        record { heap = near heap_at (length m.heap) (heap_same e.heap); words = near own HEAP_SCRATCH e.words; room = near_room e.room }
      where
        near : (a l : ℕ) → Beside a l u.to 8 → Beside a l (u.to + i) k
        near a l (inl h) = inl (omega (arith, h))
        near a l (inr h) = inr (omega (arith, h, few))

        near_room : {a : ℕ} → Beside a 4 u.to 8 → Beside a 4 (u.to + i) k
        near_room {a} h = near a 4 h

        heap_same : Beside heap_at (length s.memory.heap) u.to 8 → Beside heap_at (length m.heap) u.to 8
        heap_same h = let same = x.sizes.heap in subst (λ l. Beside heap_at l u.to 8) (sym same) h

    -- the text stands while its two words change
    pub stage_then : (w : UnderWay) (text : List ℕ) (m other : Memory) (place i k : ℕ) → i + k ≤ 8 → StageAt w text m place → BesideText m → Sized other
        → IsRewritten m other (u.to + i) k → StageAt w text other place
    stage_then w text m other place i k few x b regions written =
        let same = written.sizes.heap in
        let all = x.all in
        record {
          regions = regions;
          all = omega (arith, same, all);
          payload = x.payload;
          front = x.front;
          long = x.long;
          are = x.are;
          has = x.has;
          there = x.there;
          heap = still_heap own w.classes _ m x.heap x.regions other regions (u.to + i) k written (still_elsewhere m b i k few);
        }

    -- a byte may come there
    pub may_read_byte : (m : Memory) → BesideText m → may_fill m u.to 1 ≡ true
    may_read_byte m x =
        law.stores (as_state s.memory) (as_state m) u.to 1 x.sizes
        ∙ first_open s.memory sized u.to 3 (and_parts (u.to % 4 == 0) (writable (as_state s.memory) u.to 4) may.cells.0.may).1

    -- ---- one more character

    pub record Vs (v : Vars) (place long : ℕ) : Type 0 where
      pub zero_is : v 0 ≡ Some u.to
      pub one_is : v 1 ≡ Some place
      pub two_is : v 2 ≡ Some long
      pub three_is : v 3 ≡ Some 1
      pub eight_is : v 8 ≡ Some 0

    abbrev pub after_lines : List WordInstr
    after_lines = Branch test.Equal 4 8 3 ∷ Copy 5 6 ∷ Jump 1 ∷ line_end_lines

    abbrev k1 : List WordInstr
    k1 = Compute 7 operation.Add 1 2 ∷ Store 7 5 Byte ∷ Sum 2 2 1 ∷ after_lines

    -- behind it 4, 5 and 6 are as they were
    pub record Got (w : UnderWay) (text : List ℕ) (ch : ℕ) (from : WordState) (left : List ℕ) (v : Vars) : Type 0 where
      pub memory : Memory
      pub place : ℕ
      pub stage : StageAt (one_longer w) (text ++ ch ∷ []) memory place
      pub beside : BesideText memory
      pub vars : Vars
      pub has : Vs vars place (suc w.length)
      pub four_is : vars 4 ≡ v 4
      pub six_is : vars 6 ≡ v 6
      pub count : ℕ
      pub few : count + 12 ≤ char_work w
      pub runs : Runs live procs count from (state_at (cl left 1) memory after_lines vars no_words)

    pub record Stopped (w : UnderWay) (text : List ℕ) (most : ℕ) (from : WordState) : Type 0 where
      pub memory : Memory
      pub place : ℕ
      pub stage : StageAt w text memory place
      pub beside : BesideText memory
      pub count : ℕ
      pub few : count ≤ most
      pub stops : AlwaysStops (step live procs) from (writes Err (trap_line OutOfMemory)) count 1 (live (as_state memory))

    bytes_then : (xs : List ℕ) (b : ℕ) → AreBytes xs → b < 256 → AreBytes (xs ++ b ∷ [])
    bytes_then [] b are less = (less, tt)
    bytes_then (a ∷ xs) b are less = (are.0, bytes_then xs b are.1 less)

    module _ (w : UnderWay) (text : List ℕ) (ch : ℕ) (small : ch < 256) (m : Memory) (place : ℕ) (x : StageAt w text m place) (beside : BesideText m)
        (left : List ℕ) (awaits : ℕ) (v : Vars) (has : Vs v place w.length) (five_is : v 5 ≡ Some ch)
      where
        abbrev grow : Growing
        grow = growth own u may.unused w x.payload place

        abbrev c : Within
        c = cl left awaits

        abbrev v1 : Vars
        v1 = put v 7 (w.length + 1)

        place_same : v1 1 ≡ Some (place_of (block_under_way u.first place x.payload w))
        place_same = has.one_is ∙ ap Some (sym x.there)

        seven_is : v1 7 ≡ Some (suc w.length)
        seven_is =
            let word = (may_be_longer own u may.unused w text m place x).word in
            got (w.length + 1) (omega (arith, word)) ∙ ap Some (omega arith)

        abbrev lines : List WordInstr
        lines = growing_lines law live procs n grow_kept c m x.regions grow (may_be_longer own u may.unused w text m place x) 1 2 7 1 k1 v1 place_same
            has.two_is
            seven_is

        to_grow : Runs live procs 2 (state_at c m char_lines v no_words) (state_at c m lines v1 no_words)
        to_grow =
            then_runs live procs (run_label live procs c m (Sum 7 2 1 ∷ lines) v no_words 2) (run_sum live procs c m lines v no_words 7 2 1 has.two_is)

        abbrev GrewIt : Type 0
        GrewIt = Grew law live procs n grow_kept c m x.regions grow (may_be_longer own u may.unused w text m place x) 1 2 7 1 k1 v1 place_same has.two_is
            seven_is

        -- the character is put behind the others
        module _ (y : GrewIt) where
          abbrev old : List ℕ
          old = kept_of grow.present grow.kept

          old_long : length old ≡ w.length
          old_long = kept_length own grow (may_be_longer own u may.unused w text m place x).unused (may_be_longer own u may.unused w text m place x).present

          abbrev target : ℕ
          target = y.place + w.length

          is_open : may_fill y.other target 1 ≡ true
          is_open =
              let room = y.filled.room in
              open_at own grow (may_be_longer own u may.unused w text m place x).unused (may_be_longer own u may.unused w text m place x).present y.other
              y.regions
              old y.place (holds_it grow.present grow.wanted) y.filled w.length 1 (omega (arith, room))

          abbrev m1 : Memory
          m1 = with_number y.other target Byte ch

          regions1 : Sized m1
          regions1 = byte_sized law y.other y.regions target ch is_open

          written : IsRewritten y.other m1 (y.place + length old) (length (ch ∷ []))
          written = subst (λ i. IsRewritten y.other m1 (y.place + i) 1) (sym old_long) (byte_written law y.other y.regions target ch is_open)

          there : bytes_at m1 (y.place + length old) (length (ch ∷ [])) ≡ Some (ch ∷ [])
          there = ap (λ i. bytes_at m1 (y.place + i) 1) old_long ∙ byte_here law y.other y.regions target ch is_open small

          filled : Filled own grow (may_be_longer own u may.unused w text m place x).unused (may_be_longer own u may.unused w text m place x).present old
              (ch ∷ [])
              y.other m1 y.regions regions1 y.place written there (holds_it grow.present grow.wanted)
          filled =
              let room = y.filled.room in
              let l = old_long in
              fills own grow (may_be_longer own u may.unused w text m place x).unused (may_be_longer own u may.unused w text m place x).present old (ch ∷ [])
              y.other m1 y.regions regions1 y.place written there (holds_it grow.present grow.wanted) y.filled (omega (arith, room, l))

          old_text : old ≡ text
          old_text = kept_text own u may.unused w text m place x

          low : target + 1 < 2 ^ 32
          low =
              let e = ends_low own grow (may_be_longer own u may.unused w text m place x).unused
              (may_be_longer own u may.unused w text m place x).present y.other
              y.regions old y.place (holds_it grow.present grow.wanted) y.filled in
              let room = y.filled.room in
              omega (arith, e, room)

          abbrev v2 : Vars
          v2 = put v1 1 y.place

          abbrev v3 : Vars
          v3 = put v2 7 (computed operation.Add y.place w.length)

          abbrev v4 : Vars
          v4 = put v3 2 (w.length + 1)

          got_it : Got w text ch (state_at c m char_lines v no_words) left v
          got_it =
              let few = y.few in
              let work = work_same own u may.unused w text m place x in
              let e = low in
              let word = (may_be_longer own u may.unused w text m place x).word in
              let beside1 : BesideText m1 = beside_then y.other m1 (beside_then m y.other beside y.rest) filled.rest in
              let size : length m1.heap ≡ length s.memory.heap = beside1.sizes.heap in
              record {
                memory = m1;
                place = y.place;
                stage = next_stage own u may.unused w text (ch ∷ []) m m1 place y.place x regions1 (size ∙ may.all) refl (bytes_then text ch x.are small)
                    (holds_it grow.present grow.wanted) (sym (holds_same own u may.unused w text m place x))
                    (subst (λ t. IsFilled (holds_it grow.present grow.wanted) own grow (t ++ ch ∷ []) m1 y.place) old_text filled.filled);
                beside = beside1;
                vars = v4;
                has = record {
                  zero_is = has.zero_is;
                  one_is = got y.place y.small;
                  two_is = got (w.length + 1) (omega (arith, word)) ∙ ap Some (omega arith);
                  three_is = has.three_is;
                  eight_is = has.eight_is;
                };
                four_is = refl;
                six_is = refl;
                count = 2 + (y.count + 3);
                few = omega (arith, few, work);
                runs = then_runs live procs to_grow (then_runs live procs y.runs (then_runs live procs
                    (run_compute live procs (cl left 1) y.other (Store 7 5 Byte ∷ Sum 2 2 1 ∷ after_lines) v2 no_words 7 operation.Add 1 2
                    (got y.place y.small) has.two_is)
                    (then_runs live procs
                    (run_store live procs (cl left 1) y.other (Sum 2 2 1 ∷ after_lines) v3 no_words 7 5 Byte
                    (got_sum y.place w.length (omega (arith, e))) five_is
                    (byte_may law y.other y.regions target ch is_open))
                    (run_sum live procs (cl left 1) m1 after_lines v3 no_words 2 2 1 has.two_is))));
              }

        pub gets : may_get u.room w ≡ true → Got w text ch (state_at c m char_lines v no_words) left v
        gets does =
            got_it (grew law live procs n grow_kept c m x.regions grow (may_be_longer own u may.unused w text m place x) 1 2 7 1 k1 v1 place_same has.two_is
            seven_is
            (grows_same own u may.unused w text m place x ∙ does))

        pub stops_there : may_get u.room w ≡ false → Stopped w text (char_work w) (state_at c m char_lines v no_words)
        stops_there out =
            let y = full law live procs n grow_kept c m x.regions grow (may_be_longer own u may.unused w text m place x) 1 2 7 1 k1 v1 place_same has.two_is
            seven_is
            (grows_same own u may.unused w text m place x ∙ out) in
            let few = y.few in
            let work = work_same own u may.unused w text m place x in
            record {
              memory = m;
              place = place;
              stage = x;
              beside = beside;
              count = 2 + y.count;
              few = omega (arith, few, work);
              stops = stops_on (step live procs) 2 2 y.count 1 (state_at c m char_lines v no_words) (state_at c m lines v1 no_words) []
                  (writes Err (trap_line OutOfMemory)) (live (as_state m)) to_grow y.stops;
            }
