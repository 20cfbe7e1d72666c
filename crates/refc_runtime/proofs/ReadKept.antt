-- The routine that reads a line keeps what it promises.
use Rattle.std.proofs.Common.{◌≡◌, ℕ, zero, suc, ◌+◌, ◌%◌, ◌^◌, ◌<◌, inl, inr, List, [], ◌∷◌, length, take, drop, Some, None, Ok}
use Rattle.std.proofs.Common.{Bool, true, false, refl, sym, ap, subst, ◌∙◌, arith}
use Rattle.std.specs.Prelude.{◌==◌, ◌&&◌, if◌then◌else◌}
use Rattle.std.specs.Prelude.{Err as Failed}
use Rattle.std.proofs.lemmas.Bool.{and_parts}
use Rattle.arc_base.specs.Event.{writes}
use Rattle.arc_base.specs.declared.outside.Stream.TheVariants.{Err}
use Rattle.nim_program.specs.Traps.{OutOfMemory}
use Rattle.nim_meaning.specs.OwnedRows.{up_to_feed, next_line}
use Rattle.rv32_isa.specs.Regions.{AreBytes, as_bytes}
use Rattle.rv32_isa.specs.declared.micro_op.Size.TheVariants.{Byte, Word as whole}
use Rattle.rv32_isa.specs.declared.machine.FaultKind.TheVariants.{Misaligned}
use Rattle.rv32_isa.specs.State.{writable}
use Rattle.rv32_isa.specs.Steps.{number_of}
use Rattle.rv32_isa.specs.Machine.{Lives}
use Rattle.word_code.specs.declared.word.Test.TheVariants as test
use Rattle.word_code.specs.declared.word.WordInstr.{WordInstr}
use Rattle.word_code.specs.declared.word.WordInstr.TheVariants.{Label, Constant, Sum, Load, Store, Branch, Return, Read}
use Rattle.word_code.specs.declared.word.WordProc.{WordProc}
use Rattle.word_code.specs.Memory.{Memory, as_state, number_at, may_put, with_number, with_bytes, bytes_at, may_fill, own_data_at}
use Rattle.word_code.specs.Words.{Vars, no_words, put, params_of, from_proc, WordState}
use Rattle.word_code.specs.RoutineTable.{IsRewritten, trap_line}
use Rattle.word_code.specs.Routines.{Comes, IsCalling, goes_on}
use Rattle.word_code.proofs.ForCallers.{MemoryLaw, Sized, sizes_same, store_rewritten, put_sized, put_here, Runs, then_runs, Within, at as state_at}
use Rattle.word_code.proofs.ForCallers.{run_label, run_constant, run_sum, run_load, run_store, run_past, run_off, got}
use Rattle.heap_memory.specs.declared.numbers.TheConstants.{READ_LINE}
use Rattle.heap_memory.specs.HeapRoutines.{IsKeptThere}
use Rattle.heap_memory.specs.GrowRoutine.{grows}
use Rattle.heap_memory.specs.LineRoutine.{UnderWay, empty_text, all_fit, longer, line_work, Reading, MayRead, line_fits, IsBesideText, IsLine}
use Rattle.heap_memory.specs.LineRoutine.{IsPart, reads_line, IsKeptOn}
use Rattle.refc_runtime.specs.InputCode.{line_end_lines, line_lines, read_lines}
use Rattle.refc_runtime.proofs.Calls.{later, inside, enters, returns_before, returns_awaiting}
use Rattle.refc_runtime.proofs.Coming.{calling_state, comes_back, ends_behind}
use Rattle.refc_runtime.proofs.Inputs.{bytes_written, bytes_sized, bytes_there, byte_read, run_read_none, run_read_one}
use Rattle.refc_runtime.proofs.LineChars.{StageAt, BesideText, stage_then, text_then, may_read_byte}
use Rattle.refc_runtime.proofs.LineRuns.{Reached, Part, LineOutcome, reads_on}
use Rattle.refc_runtime.proofs.LineStages.{Stage, is_under_way, may_be_longer, place_low}
use Rattle.heap_memory.proofs.ForCallers.{written_in}
use Rattle.refc_runtime.proofs.LineTexts.{line_from, behind_line, line_is, behind_is}

module _ (law : MemoryLaw) (live : Lives) (procs : List WordProc) (n : ℕ) (grow_kept : IsKeptThere live procs (grows (own_data_at + n)))
    (others : List WordProc) (stands : from_proc READ_LINE procs ≡ later n READ_LINE 1 9 read_lines ∷ others) (u : Reading) (s : WordState) (to : ℕ)
    (rest : List WordInstr) (calling : IsCalling READ_LINE (u.to ∷ []) to rest s) (sized : Sized s.memory)
  where
    abbrev own : ℕ
    own = own_data_at + n

    abbrev p : WordProc
    p = later n READ_LINE 1 9 read_lines

    -- with other input
    abbrev left_with : List ℕ → WordState
    left_with left = record s { input = left }

    abbrev c : List ℕ → ℕ → Within
    c left awaits = record (inside s p to rest) { input = left; awaits = awaits }

    abbrev v0 : Vars
    v0 = params_of p s.frame.given

    abbrev v4 : Vars
    v4 = put (put (put (put v0 1 0) 2 0) 3 1) 8 0

    abbrev k5 : List WordInstr
    k5 = Read 4 0 3 ∷ Branch test.Unequal 4 8 0 ∷ Return 4 ∷ Label 0 ∷ Load 5 0 Byte ∷ line_lines

    abbrev k6 : List WordInstr
    k6 = Branch test.Unequal 4 8 0 ∷ Return 4 ∷ Label 0 ∷ Load 5 0 Byte ∷ line_lines

    abbrev k7 : List WordInstr
    k7 = Return 4 ∷ Label 0 ∷ Load 5 0 Byte ∷ line_lines

    abbrev k8 : List WordInstr
    k8 = Label 0 ∷ Load 5 0 Byte ∷ line_lines

    abbrev k9 : List WordInstr
    k9 = Load 5 0 Byte ∷ line_lines

    -- up to the first read
    to_read : (input : List ℕ) → Runs live procs 5 (calling_state live procs s to rest (reads_line own input) u calling.next)
        (state_at (c s.input 0) s.memory k5 v4 no_words)
    to_read input =
        then_runs live procs (enters live procs s to rest n READ_LINE 1 9 read_lines others stands) (then_runs live procs
        (run_constant live procs (c s.input 0) s.memory (Constant 2 0 ∷ Constant 3 1 ∷ Constant 8 0 ∷ k5) v0 no_words 1 0) (then_runs live procs
        (run_constant live procs (c s.input 0) s.memory (Constant 3 1 ∷ Constant 8 0 ∷ k5) (put v0 1 0) no_words 2 0) (then_runs live procs
        (run_constant live procs (c s.input 0) s.memory (Constant 8 0 ∷ k5) (put (put v0 1 0) 2 0) no_words 3 1)
        (run_constant live procs (c s.input 0) s.memory k5 (put (put (put v0 1 0) 2 0) 3 1) no_words 8 0))))

    module _ (may : MayRead own u s.memory) where
      beside_none : IsBesideText own u s.memory s.memory
      beside_none = record { sizes = sizes_same s.memory; beside = λ b k words heap cell. refl }

      may_byte : may_fill s.memory u.to 1 ≡ true
      may_byte = may_read_byte law live procs n grow_kept u s to rest sized may s.memory beside_none

      -- no byte is left
      none_left : s.input ≡ [] → Comes live procs (reads_line own []) u s to rest (if line_fits [] u then None else Some 1)
      none_left empty =
          comes_back live procs s to rest (reads_line own []) u calling.next refl refl 0 s.memory refl refl 8 (omega arith)
          (subst (λ i. Runs live procs 8 (calling_state live procs s to rest (reads_line own []) u calling.next) (goes_on s to 0 rest s.memory i))
          (sym (ap (drop 0) empty))
          (then_runs live procs (to_read []) (then_runs live procs
          (run_read_none live procs (c s.input 0) s.memory k6 v4 no_words 4 0 3 calling.given.0 refl empty may_byte) (then_runs live procs
          (run_past live procs (c [] 0) s.memory k7 (put v4 4 0) no_words test.Unequal 4 8 0 refl refl refl)
          (returns_before live procs (left_with []) to rest k8 p refl s.memory (put v4 4 0) 4 0 refl)))))

    -- ---- a line is left

    module _ (first : ℕ) (behind : List ℕ) (is : s.input ≡ first ∷ behind) (may : MayRead own u s.memory) where
      -- as bytes
      abbrev ch : ℕ
      ch = first % 256

      abbrev cs : List ℕ
      cs = as_bytes behind

      -- what is left behind the line
      abbrev behind_it : List ℕ
      behind_it = behind_line ch behind

      abbrev beside0 : IsBesideText own u s.memory s.memory
      beside0 = record { sizes = sizes_same s.memory; beside = λ b k words heap cell. refl }

      byte_small : AreBytes (ch ∷ [])
      byte_small = (omega arith, tt)

      byte_open : may_fill s.memory u.to 1 ≡ true
      byte_open = may_read_byte law live procs n grow_kept u s to rest sized may s.memory beside0

      abbrev m1 : Memory
      m1 = with_bytes s.memory u.to (ch ∷ [])

      abbrev w0 : UnderWay
      w0 = empty_text u.classes

      abbrev L : List ℕ
      L = line_from ch cs

      written1 : IsRewritten s.memory m1 (u.to + 0) 1
      written1 =
          let e : u.to ≡ u.to + 0 = omega arith in
          subst (λ a. IsRewritten s.memory m1 a 1) e (bytes_written law s.memory sized u.to (ch ∷ []) byte_open byte_small)

      stage0 : StageAt law live procs n grow_kept u s to rest sized may w0 [] s.memory 0
      stage0 = record {
        regions = sized;
        all = may.all;
        payload = [];
        front = refl;
        long = refl;
        are = tt;
        has = refl;
        there = refl;
        heap = may.heap;
      }

      stage1 : StageAt law live procs n grow_kept u s to rest sized may w0 [] m1 0
      stage1 =
          stage_then law live procs n grow_kept u s to rest sized may w0 [] s.memory m1 0 0 1 (omega arith) stage0 beside0
          (bytes_sized law s.memory sized u.to (ch ∷ []) byte_open byte_small) written1

      beside1 : BesideText law live procs n grow_kept u s to rest sized may m1
      beside1 = text_then law live procs n grow_kept u s to rest sized may s.memory m1 0 1 (omega arith) beside0 written1

      abbrev v6 : Vars
      v6 = put (put v4 4 1) 5 ch

      ch_small : ch < 2 ^ 32
      ch_small = omega arith

      abbrev from : WordState
      from = state_at (c behind 0) m1 line_lines v6 no_words

      to_line : Runs live procs 9 (calling_state live procs s to rest (reads_line own (ch ∷ cs)) u calling.next) from
      to_line =
          then_runs live procs (to_read (ch ∷ cs)) (then_runs live procs
          (run_read_one live procs (c s.input 0) s.memory k6 v4 no_words 4 0 3 first behind calling.given.0 refl is byte_open) (then_runs live procs
          (run_off live procs (c behind 0) m1 k7 (put v4 4 1) no_words test.Unequal 4 8 0 k8 refl refl refl refl) (then_runs live procs
          (run_label live procs (c behind 0) m1 k9 (put v4 4 1) no_words 0)
          (run_load live procs (c behind 0) m1 line_lines (put v4 4 1) no_words 5 0 Byte calling.given.0
          (byte_read m1 u.to ch (bytes_there law s.memory sized u.to (ch ∷ []) byte_open byte_small))))))

      outcome : LineOutcome law live procs n grow_kept u s to rest sized may w0 [] ch behind from
      outcome =
          reads_on law live procs n grow_kept u s to rest sized may behind ch (omega arith) w0 [] m1 0 stage1 beside1 v6
          (record { zero_is = calling.given.0; one_is = refl; two_is = refl; three_is = refl; eight_is = refl }) (got ch ch_small) 0

      abbrev Coming : Type 0
      Coming = Comes live procs (reads_line own (ch ∷ cs)) u s to rest (if line_fits (ch ∷ cs) u then None else Some 1)

      fits_is : (b : Bool) → all_fit u.room (length L) w0 ≡ b → line_fits (ch ∷ cs) u ≡ b
      fits_is b h = ap (λ l. all_fit u.room (length l) w0) (line_is ch cs) ∙ h

      work_is : line_work u.room (length (next_line (ch ∷ cs))) w0 ≡ line_work u.room (length L) w0
      work_is = ap (λ l. line_work u.room (length l) w0) (line_is ch cs)

      -- a word of the text may be put
      may_word : (m : Memory) → IsBesideText own u s.memory m → may_put m u.to whole ≡ true
      may_word m x =
          ap (λ b. (u.to % 4 == 0) && b) (law.stores (as_state s.memory) (as_state m) u.to 4 x.sizes) ∙ may.cells.0.may

      may_second : (m : Memory) → IsBesideText own u s.memory m → may_put m (u.to + 4) whole ≡ true
      may_second m x =
          ap (λ b. ((u.to + 4) % 4 == 0) && b) (law.stores (as_state s.memory) (as_state m) (u.to + 4) 4 x.sizes) ∙ may.cells.1.0.may

      -- the same bytes are the same word
      word_of : (m other : Memory) → bytes_at other u.to 4 ≡ bytes_at m u.to 4 → number_at other u.to whole ≡ number_at m u.to whole
      word_of m other same = ap (λ o. if u.to % 4 == 0 then number_of o else Failed Misaligned) same

      -- the text's words lie low
      text_low : u.to + 4 < 2 ^ 32
      text_low =
          let x = written_in s.memory sized (u.to + 4) 4 (omega arith)
          (and_parts ((u.to + 4) % 4 == 0) (writable (as_state s.memory) (u.to + 4) 4) may.cells.1.0.may).1 in
          let ends = x.region.ends in
          let high = x.high in
          omega (arith, ends, high)

      all_of : (xs : List ℕ) (i : ℕ) → length xs ≡ i → take i xs ≡ xs
      all_of [] zero e = refl
      all_of [] (suc i) e = refl
      all_of (x ∷ xs) zero e = absurd (omega (arith, e))
      all_of (x ∷ xs) (suc i) e = ap (λ ys. x ∷ ys) (all_of xs i (omega (arith, e)))

      -- the line stands there
      module _ (x : Reached law live procs n grow_kept u s to rest sized may (longer u.room (length L) w0) L behind_it
          (line_work u.room (length L) w0 + 9) from)
        where
          abbrev w : UnderWay
          w = longer u.room (length L) w0

          abbrev a1 : Memory
          a1 = with_number x.memory u.to whole w.length

          abbrev a2 : Memory
          a2 = with_number a1 (u.to + 4) whole x.place

          regions1 : Sized a1
          regions1 = put_sized law x.memory u.to w.length x.stage.regions (may_word x.memory x.beside)

          put1 : IsRewritten x.memory a1 (u.to + 0) 4
          put1 =
              let e : u.to ≡ u.to + 0 = omega arith in
              subst (λ a. IsRewritten x.memory a1 a 4) e (store_rewritten law x.memory u.to whole w.length x.stage.regions (may_word x.memory x.beside))

          besides1 : BesideText law live procs n grow_kept u s to rest sized may a1
          besides1 = text_then law live procs n grow_kept u s to rest sized may x.memory a1 0 4 (omega arith) x.beside put1

          staged1 : StageAt law live procs n grow_kept u s to rest sized may w L a1 x.place
          staged1 = stage_then law live procs n grow_kept u s to rest sized may w L x.memory a1 x.place 0 4 (omega arith) x.stage x.beside
              regions1 put1

          regions2 : Sized a2
          regions2 = put_sized law a1 (u.to + 4) x.place regions1 (may_second a1 besides1)

          put2 : IsRewritten a1 a2 (u.to + 4) 4
          put2 = store_rewritten law a1 (u.to + 4) whole x.place regions1 (may_second a1 besides1)

          besides2 : BesideText law live procs n grow_kept u s to rest sized may a2
          besides2 = text_then law live procs n grow_kept u s to rest sized may a1 a2 4 4 (omega arith) besides1 put2

          staged2 : StageAt law live procs n grow_kept u s to rest sized may w L a2 x.place
          staged2 = stage_then law live procs n grow_kept u s to rest sized may w L a1 a2 x.place 4 4 (omega arith) staged1 besides1 regions2 put2

          length_small : w.length < 2 ^ 32
          length_small = let h = (may_be_longer own u may.unused w L x.memory x.place x.stage).word in omega (arith, h)

          place_small : x.place < 2 ^ 32
          place_small = place_low own u may.unused w L x.memory x.place x.stage

          first_word : number_at a2 u.to whole ≡ Ok w.length
          first_word =
              word_beside a1 a2 put2 ∙ put_here law x.memory u.to w.length x.stage.regions (may_word x.memory x.beside) length_small
            where
              word_beside : (m other : Memory) → IsRewritten m other (u.to + 4) 4 → number_at other u.to whole ≡ number_at m u.to whole
              word_beside m other written = word_of m other (written.beside u.to 4 (inl (omega arith)))

          abbrev e1 : List WordInstr
          e1 = Store 0 2 whole ∷ Sum 7 0 4 ∷ Store 7 1 whole ∷ Return 3 ∷ []

          abbrev e2 : List WordInstr
          e2 = Sum 7 0 4 ∷ Store 7 1 whole ∷ Return 3 ∷ []

          abbrev e3 : List WordInstr
          e3 = Store 7 1 whole ∷ Return 3 ∷ []

          abbrev d : Within
          d = c behind_it x.awaits

          second_at : put x.vars 7 (u.to + 4) 7 ≡ Some (u.to + 4)
          second_at = got (u.to + 4) text_low

          last_lines : Runs live procs 5 (state_at d x.memory line_end_lines x.vars no_words) (goes_on s to 1 rest a2 behind_it)
          last_lines =
              then_runs live procs (run_label live procs d x.memory e1 x.vars no_words 3) (then_runs live procs
              (run_store live procs d x.memory e2 x.vars no_words 0 2 whole x.has.zero_is x.has.two_is (may_word x.memory x.beside)) (then_runs live procs
              (run_sum live procs d a1 e3 x.vars no_words 7 0 4 x.has.zero_is) (then_runs live procs
              (run_store live procs d a1 (Return 3 ∷ []) (put x.vars 7 (u.to + 4)) no_words 7 1 whole second_at x.has.one_is (may_second a1 besides1))
              (returns_awaiting live procs (left_with behind_it) to rest x.awaits [] p refl a2 (put x.vars 7 (u.to + 4)) 3 1 x.has.three_is))))

          comes_with : all_fit u.room (length L) w0 ≡ true → Coming
          comes_with fit =
              let fits : line_fits (ch ∷ cs) u ≡ true = fits_is true fit in
              let few = x.few in
              let work = work_is in
              let under = is_under_way own u may.unused w L a2 x.place staged2 in
              let cut : take w.length L ≡ L = all_of L w.length x.stage.long in
              let gives : (◌≡◌ {A = ℕ} 1 1) × IsLine own u w L a2
              = (
                refl,
                record {
                  place = x.place;
                  stands = under;
                  length = first_word ∙ ap Ok (sym x.stage.long);
                  block = put_here law a1 (u.to + 4) x.place regions1
                      (may_second a1 besides1) place_small;
                },
              ) in
              let leaves : IsBesideText own u s.memory a2 × IsPart own u w L a2
              = (
                besides2,
                record {
                  place = x.place;
                  stands = is_under_way own u may.unused w (take w.length L) a2 x.place
                      (subst (λ t. Stage own u may.unused w t a2 x.place) (sym cut) staged2);
                },
              ) in
              let left : drop (up_to_feed (ch ∷ cs)) s.input ≡ behind_it = ap (drop (up_to_feed (ch ∷ cs))) is ∙ behind_is first behind in
              comes_back live procs s to rest (reads_line own (ch ∷ cs)) u calling.next (ap (λ b. if b then None else Some 1) fits)
              (ap (λ b. if b then [] else writes Err (trap_line OutOfMemory)) fits) 1 a2
              (subst (λ l. IsBesideText own u s.memory a2 × IsPart own u (longer u.room (length l) w0) l a2) (sym (line_is ch cs)) leaves)
              (subst (λ l. (◌≡◌ {A = ℕ} 1 1) × IsLine own u (longer u.room (length l) w0) l a2) (sym (line_is ch cs)) gives)
              (9 + (x.count + 5)) (omega (arith, few, work))
              (subst (λ i. Runs live procs (9 + (x.count + 5)) (calling_state live procs s to rest (reads_line own (ch ∷ cs)) u calling.next)
              (goes_on s to 1 rest a2 i)) (sym left) (then_runs live procs to_line (then_runs live procs x.runs last_lines)))

      -- the heap is full
      stops_with : all_fit u.room (length L) w0 ≡ false
          → Part law live procs n grow_kept u s to rest sized may (longer u.room (length L) w0) L (line_work u.room (length L) w0 + 9) from → Coming
      stops_with out x =
          let full : line_fits (ch ∷ cs) u ≡ false = fits_is false out in
          let y = x.stopped in
          let few = y.few in
          let work = work_is in
          let w : UnderWay = longer u.room (length L) w0 in
          let leaves : IsBesideText own u s.memory y.memory × IsPart own u w L y.memory
          = (
            y.beside,
            record {
              place = y.place;
              stands = is_under_way own u may.unused w (take w.length L) y.memory y.place
                  (subst (λ t. Stage own u may.unused w t y.memory y.place) (sym x.is) y.stage);
            },
          ) in
          ends_behind live procs s to rest (reads_line own (ch ∷ cs)) u calling.next 1 (ap (λ b. if b then None else Some 1) full) y.memory
          (subst (λ l. IsBesideText own u s.memory y.memory × IsPart own u (longer u.room (length l) w0) l y.memory) (sym (line_is ch cs)) leaves)
          9 y.count (omega (arith, few, work)) from to_line (writes Err (trap_line OutOfMemory))
          (ap (λ b. if b then [] else writes Err (trap_line OutOfMemory)) full) y.stops

      one_left : Coming
      one_left = elim outcome [ inl x ↦ comes_with x.1 x.0 | inr x ↦ stops_with x.0 x.1 ]

pub read_kept : (law : MemoryLaw) (live : Lives) (procs : List WordProc) (n : ℕ) → IsKeptThere live procs (grows (own_data_at + n))
    → (others : List WordProc) → from_proc READ_LINE procs ≡ later n READ_LINE 1 9 read_lines ∷ others
    → (input : List ℕ) → IsKeptOn live procs input (reads_line (own_data_at + n) (as_bytes input))
read_kept law live procs n grow_kept others stands [] u s to rest is calling sized may =
    none_left law live procs n grow_kept others stands u s to rest calling sized may is
read_kept law live procs n grow_kept others stands (ch ∷ cs) u s to rest is calling sized may =
    one_left law live procs n grow_kept others stands u s to rest calling sized ch cs is may
