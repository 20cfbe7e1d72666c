-- What the routine does that reads a line, from the first character on.
use Rattle.std.proofs.Common.{◌≡◌, ℕ, suc, ◌+◌, ◌%◌, ◌^◌, ◌<◌, ◌≤◌, ◌⊎◌, inl, inr, List, [], ◌∷◌, ◌++◌, length, take, Some}
use Rattle.std.proofs.Common.{Bool, true, false, refl, sym, ap, subst, ◌∙◌, arith, not, append_assoc, append-nil}
use Rattle.std.specs.Prelude.{nat_eq, if◌then◌else◌}
use Rattle.std.proofs.lemmas.Bool.{eq-eqb, ne_eqb, cases_Bool, cases_eq}
use Rattle.std.proofs.Math.Seq.{take-append_seam}
use Rattle.arc_base.specs.Event.{writes}
use Rattle.arc_base.specs.declared.outside.Stream.TheVariants.{Err}
use Rattle.nim_program.specs.Traps.{OutOfMemory}
use Rattle.rv32_isa.specs.Regions.{as_bytes}
use Rattle.rv32_isa.specs.declared.micro_op.Size.TheVariants.{Byte}
use Rattle.rv32_isa.specs.Machine.{Lives}
use Rattle.word_code.specs.declared.word.Test.TheVariants as test
use Rattle.word_code.specs.declared.word.WordInstr.{WordInstr}
use Rattle.word_code.specs.declared.word.WordInstr.TheVariants.{Constant, Copy, Load, Jump, Branch, Read}
use Rattle.word_code.specs.declared.word.WordProc.{WordProc}
use Rattle.word_code.specs.Memory.{Memory, as_state, with_bytes, own_data_at}
use Rattle.word_code.specs.Words.{Vars, no_words, put, WordState, step}
use Rattle.word_code.specs.RoutineTable.{IsRewritten, trap_line}
use Rattle.word_code.proofs.ForCallers.{MemoryLaw, Sized, AlwaysStops, none, stops_on, Runs, then_runs, Within, at as state_at, run_label}
use Rattle.word_code.proofs.ForCallers.{run_constant, run_copy, run_load, run_past, run_off, run_jump, got}
use Rattle.nim_meaning.specs.Heap.{one_more, at_class}
use Rattle.heap_memory.specs.HeapRoutines.{class_of, IsKeptThere}
use Rattle.heap_memory.specs.GrowRoutine.{grows}
use Rattle.heap_memory.specs.LineRoutine.{UnderWay, has_capacity, without_class, one_longer, may_get, all_fit, longer, char_work, line_work, Reading, MayRead}
use Rattle.refc_runtime.specs.InputCode.{line_end_lines, char_lines, line_lines}
use Rattle.refc_runtime.proofs.Inputs.{bytes_written, bytes_sized, bytes_there, byte_read, run_read_none, run_read_one}
use Rattle.refc_runtime.proofs.LineChars as chars
use Rattle.refc_runtime.proofs.LineTexts.{line_from, behind_line}

module _ (law : MemoryLaw) (live : Lives) (procs : List WordProc) (n : ℕ) (grow_kept : IsKeptThere live procs (grows (own_data_at + n))) (u : Reading)
    (s : WordState) (to : ℕ) (rest : List WordInstr) (sized : Sized s.memory) (may : MayRead (own_data_at + n) u s.memory)
  where
    abbrev cl : List ℕ → ℕ → Within
    cl left awaits = chars.cl law live procs n grow_kept u s to rest sized may left awaits

    abbrev StageAt : UnderWay → List ℕ → Memory → ℕ → Type 0
    StageAt w text m place = chars.StageAt law live procs n grow_kept u s to rest sized may w text m place

    abbrev BesideText : Memory → Type 0
    BesideText m = chars.BesideText law live procs n grow_kept u s to rest sized may m

    abbrev Vs : Vars → (place long : ℕ) → Type 0
    Vs v place long = chars.Vs law live procs n grow_kept u s to rest sized may v place long

    abbrev Stopped : UnderWay → List ℕ → (most : ℕ) → WordState → Type 0
    Stopped w text most from = chars.Stopped law live procs n grow_kept u s to rest sized may w text most from

    -- ---- the rest of the line

    -- it stands there, and what is left to do is its end
    pub record Reached (w : UnderWay) (text left : List ℕ) (most : ℕ) (from : WordState) : Type 0 where
      pub memory : Memory
      pub place : ℕ
      pub stage : StageAt w text memory place
      pub beside : BesideText memory
      pub vars : Vars
      pub has : Vs vars place w.length
      pub awaits : ℕ
      pub count : ℕ
      pub few : count ≤ most
      pub runs : Runs live procs count from (state_at (cl left awaits) memory line_end_lines vars no_words)

    pub record Part (w : UnderWay) (all : List ℕ) (most : ℕ) (from : WordState) : Type 0 where
      pub text : List ℕ
      pub is : take w.length all ≡ text
      pub stopped : Stopped w text most from

    -- the text chars.gets law live procs n grow_kept u s to rest sized may so many characters, or as many as fit
    abbrev pub Outcome : UnderWay → (text line left : List ℕ) → (most : ℕ) → (from : WordState) → Type 0
    Outcome w text line left most from =
        ((all_fit u.room (length line) w ≡ true) × Reached (longer u.room (length line) w) (text ++ line) left most from)
        ⊎ ((all_fit u.room (length line) w ≡ false) × Part (longer u.room (length line) w) (text ++ line) most from)

    abbrev pub work_for : UnderWay → List ℕ → ℕ
    work_for w line = line_work u.room (length line) w + 9

    -- no more characters come
    over : (w : UnderWay) (text left : List ℕ) (m : Memory) (place : ℕ) → StageAt w text m place → BesideText m → (v : Vars) → Vs v place w.length
        → (awaits count : ℕ) → count ≤ 9 → (from : WordState) → Runs live procs count from (state_at (cl left awaits) m line_end_lines v no_words)
        → Outcome w text [] left (work_for w []) from
    over w text left m place x beside v has awaits count few from runs = inl (
      refl,
      record {
        memory = m;
        place = place;
        stage = subst (λ t. StageAt w t m place) (sym (append-nil text)) x;
        beside = beside;
        vars = v;
        has = has;
        awaits = awaits;
        count = count;
        few = omega (arith, few);
        runs = runs;
      },
    )

    stops_later : (from to : WordState) (l k status : ℕ) (other : Memory) → Runs live procs l from to
        → AlwaysStops (step live procs) to (writes Err (trap_line OutOfMemory)) k status (live (as_state other))
        → AlwaysStops (step live procs) from (writes Err (trap_line OutOfMemory)) (l + k) status (live (as_state other))
    stops_later from to l k status other runs stops =
        stops_on (step live procs) l l k status from to [] (writes Err (trap_line OutOfMemory)) (live (as_state other)) runs stops

    -- one comes, and then the others
    module _ (w : UnderWay) (text : List ℕ) (ch : ℕ) (line left : List ℕ) (from : WordState) where
      abbrev rest_of : Bool → ℕ
      rest_of b = if b then line_work u.room (length line) (one_longer w) else 0

      then_others : (does : may_get u.room w ≡ true) (l : ℕ) (middle : WordState) → Runs live procs l from middle → l ≤ char_work w
          → Outcome (one_longer w) (text ++ ch ∷ []) line left (work_for (one_longer w) line) middle
          → Outcome w text (ch ∷ line) left (work_for w (ch ∷ line)) from
      then_others does l middle runs few outcome =
          let fit : all_fit u.room (suc (length line)) w ≡ all_fit u.room (length line) (one_longer w)
          = ap (λ b. if b then all_fit u.room (length line) (one_longer w) else false) does in
          let far : longer u.room (suc (length line)) w ≡ longer u.room (length line) (one_longer w)
          = ap (λ b. if b then longer u.room (length line) (one_longer w) else w) does in
          let work : rest_of (may_get u.room w) ≡ line_work u.room (length line) (one_longer w) = ap rest_of does in
          let joined : (text ++ ch ∷ []) ++ line ≡ text ++ ch ∷ line = append_assoc text (ch ∷ []) line in
          by fit far work joined outcome
        where
          by : all_fit u.room (suc (length line)) w ≡ all_fit u.room (length line) (one_longer w)
              → longer u.room (suc (length line)) w ≡ longer u.room (length line) (one_longer w)
              → rest_of (may_get u.room w) ≡ line_work u.room (length line) (one_longer w)
              → (text ++ ch ∷ []) ++ line ≡ text ++ ch ∷ line
              → Outcome (one_longer w) (text ++ ch ∷ []) line left (work_for (one_longer w) line) middle
              → Outcome w text (ch ∷ line) left (work_for w (ch ∷ line)) from
          by fit far work joined (inl x) =
              let r = x.1 in
              let few1 = r.few in
              inl (
                fit ∙ x.0,
                subst (λ y. Reached y (text ++ ch ∷ line) left (work_for w (ch ∷ line)) from) (sym far) (record {
                  memory = r.memory;
                  place = r.place;
                  stage = subst (λ t. StageAt (longer u.room (length line) (one_longer w)) t r.memory r.place) joined r.stage;
                  beside = r.beside;
                  vars = r.vars;
                  has = r.has;
                  awaits = r.awaits;
                  count = l + r.count;
                  few = omega (arith, few, few1, work);
                  runs = then_runs live procs runs r.runs;
                }),
              )
          by fit far work joined (inr x) =
              let r = x.1.stopped in
              let few1 = r.few in
              inr (
                fit ∙ x.0,
                subst (λ y. Part y (text ++ ch ∷ line) (work_for w (ch ∷ line)) from) (sym far) (record {
                  text = x.1.text;
                  is = ap (take (longer u.room (length line) (one_longer w)).length) (sym joined) ∙ x.1.is;
                  stopped = record {
                    memory = r.memory;
                    place = r.place;
                    stage = r.stage;
                    beside = r.beside;
                    count = l + r.count;
                    few = omega (arith, few, few1, work);
                    stops = stops_later from middle l r.count 1 r.memory runs r.stops;
                  };
                }),
              )

      -- it doesn't fit
      then_stops : (out : may_get u.room w ≡ false) (l : ℕ) (middle : WordState) → Runs live procs l from middle → l ≤ 9 → (length text ≡ w.length)
          → Stopped w text (char_work w) middle → Outcome w text (ch ∷ line) left (work_for w (ch ∷ line)) from
      then_stops out l middle runs few long r =
          let fit : all_fit u.room (suc (length line)) w ≡ false
          = ap (λ b. if b then all_fit u.room (length line) (one_longer w) else false) out in
          let far : longer u.room (suc (length line)) w ≡ w = ap (λ b. if b then longer u.room (length line) (one_longer w) else w) out in
          let few1 = r.few in
          inr (
            fit,
            subst (λ y. Part y (text ++ ch ∷ line) (work_for w (ch ∷ line)) from) (sym far) (record {
              text = text;
              is = ap (λ i. take i (text ++ ch ∷ line)) (sym long) ∙ take-append_seam text (ch ∷ line);
              stopped = record {
                memory = r.memory;
                place = r.place;
                stage = r.stage;
                beside = r.beside;
                count = l + r.count;
                few = omega (arith, few, few1);
                stops = stops_later from middle l r.count 1 r.memory runs r.stops;
              };
            }),
          )

    -- a text that got one more is longer by one
    long_is : (w : UnderWay) → (one_longer w).length ≡ suc w.length
    long_is w = by (has_capacity w)
      where
        by : (b : Bool) → (if b then record w { length = suc w.length } else record {
          length = suc w.length;
          class = Some (class_of (suc w.length));
          classes = without_class w.class (at_class one_more (class_of (suc w.length)) w.classes);
          takes = suc w.takes;
        }).length ≡ suc w.length
        by true = refl
        by false = refl

    has_longer : (w : UnderWay) (v : Vars) (place : ℕ) → Vs v place (suc w.length) → Vs v place (one_longer w).length
    has_longer w v place has = subst (λ i. Vs v place i) (sym (long_is w)) has

    -- no line
    stay : (from : WordState) → Runs live procs 0 from from
    stay from = none (step live procs) from

    -- ---- line by line of the routine

    abbrev q2 : List WordInstr
    q2 = Constant 7 10 ∷ Branch test.Equal 5 7 3 ∷ Read 4 0 3 ∷ Branch test.Equal 4 8 2 ∷ Load 6 0 Byte ∷ Branch test.Unequal 6 7 2 ∷ Constant 7 13
        ∷ Branch test.Equal 5 7 3 ∷ char_lines

    abbrev q3 : List WordInstr
    q3 = Branch test.Equal 5 7 3 ∷ Read 4 0 3 ∷ Branch test.Equal 4 8 2 ∷ Load 6 0 Byte ∷ Branch test.Unequal 6 7 2 ∷ Constant 7 13
        ∷ Branch test.Equal 5 7 3 ∷ char_lines

    abbrev q4 : List WordInstr
    q4 = Read 4 0 3 ∷ Branch test.Equal 4 8 2 ∷ Load 6 0 Byte ∷ Branch test.Unequal 6 7 2 ∷ Constant 7 13 ∷ Branch test.Equal 5 7 3 ∷ char_lines

    abbrev q5 : List WordInstr
    q5 = Branch test.Equal 4 8 2 ∷ Load 6 0 Byte ∷ Branch test.Unequal 6 7 2 ∷ Constant 7 13 ∷ Branch test.Equal 5 7 3 ∷ char_lines

    abbrev q6 : List WordInstr
    q6 = Load 6 0 Byte ∷ Branch test.Unequal 6 7 2 ∷ Constant 7 13 ∷ Branch test.Equal 5 7 3 ∷ char_lines

    abbrev q7 : List WordInstr
    q7 = Branch test.Unequal 6 7 2 ∷ Constant 7 13 ∷ Branch test.Equal 5 7 3 ∷ char_lines

    abbrev q8 : List WordInstr
    q8 = Constant 7 13 ∷ Branch test.Equal 5 7 3 ∷ char_lines

    abbrev q9 : List WordInstr
    q9 = Branch test.Equal 5 7 3 ∷ char_lines

    -- up to the first test
    to_feed_test : (left : List ℕ) (awaits : ℕ) (m : Memory) (v : Vars)
        → Runs live procs 2 (state_at (cl left awaits) m line_lines v no_words) (state_at (cl left awaits) m q3 (put v 7 10) no_words)
    to_feed_test left awaits m v =
        then_runs live procs (run_label live procs (cl left awaits) m q2 v no_words 1) (run_constant live procs (cl left awaits) m q3 v no_words 7 10)

    -- a line feed ends it
    at_feed : (left : List ℕ) (awaits : ℕ) (m : Memory) (v : Vars) (ch : ℕ) → v 5 ≡ Some ch → ch ≡ 10
        → Runs live procs 3 (state_at (cl left awaits) m line_lines v no_words) (state_at (cl left awaits) m line_end_lines (put v 7 10) no_words)
    at_feed left awaits m v ch five feed =
        then_runs live procs (to_feed_test left awaits m v)
        (run_off live procs (cl left awaits) m q4 (put v 7 10) no_words test.Equal 5 7 3 line_end_lines five refl (eq-eqb ch 10 feed) refl)

    no_feed : (left : List ℕ) (awaits : ℕ) (m : Memory) (v : Vars) (ch : ℕ) → v 5 ≡ Some ch → (ch ≡ 10 → ⊥)
        → Runs live procs 3 (state_at (cl left awaits) m line_lines v no_words) (state_at (cl left awaits) m q4 (put v 7 10) no_words)
    no_feed left awaits m v ch five differ =
        then_runs live procs (to_feed_test left awaits m v)
        (run_past live procs (cl left awaits) m q4 (put v 7 10) no_words test.Equal 5 7 3 five refl (ne_eqb ch 10 differ))

    -- none is left behind it
    module _ (ch : ℕ) (small : ch < 256) (w : UnderWay) (text : List ℕ) (m : Memory) (place : ℕ) (x : StageAt w text m place) (beside : BesideText m)
        (v : Vars) (has : Vs v place w.length) (five : v 5 ≡ Some ch) (awaits : ℕ) (differ : ch ≡ 10 → ⊥)
      where
        abbrev z1 : Vars
        z1 = put (put v 7 10) 4 0

        has_z1 : Vs z1 place w.length
        has_z1 = record {
          zero_is = has.zero_is;
          one_is = has.one_is;
          two_is = has.two_is;
          three_is = has.three_is;
          eight_is = has.eight_is;
        }

        abbrev from_last : WordState
        from_last = state_at (cl [] awaits) m line_lines v no_words

        to_char_last : Runs live procs 5 from_last (state_at (cl [] awaits) m char_lines z1 no_words)
        to_char_last =
            then_runs live procs (no_feed [] awaits m v ch five differ) (then_runs live procs
            (run_read_none live procs (cl [] awaits) m q5 (put v 7 10) no_words 4 0 3 has.zero_is has.three_is refl
            (chars.may_read_byte law live procs n grow_kept u s to rest sized may m beside))
            (run_off live procs (cl [] awaits) m q6 z1 no_words test.Equal 4 8 2 char_lines refl has.eight_is refl refl))

        last_char : Outcome w text (ch ∷ []) [] (work_for w (ch ∷ [])) from_last
        last_char = elim (cases_Bool (may_get u.room w)) [
          | inl does ↦
              let y = chars.gets law live procs n grow_kept u s to rest sized may w text ch small m place x beside [] awaits z1 has_z1 five does in
              let few = y.few in
              then_others w text ch [] [] from_last does (5 + (y.count + 1)) (state_at (cl [] 1) y.memory line_end_lines y.vars no_words)
              (then_runs live procs to_char_last (then_runs live procs y.runs
              (run_off live procs (cl [] 1) y.memory (Copy 5 6 ∷ Jump 1 ∷ line_end_lines) y.vars no_words test.Equal 4 8 3 line_end_lines y.four_is
              y.has.eight_is
              refl refl)))
              (omega (arith, few))
              (over (one_longer w) (text ++ ch ∷ []) [] y.memory y.place y.stage y.beside y.vars (has_longer w y.vars y.place y.has) 1 0 (omega arith)
              (state_at (cl [] 1) y.memory line_end_lines y.vars no_words) (stay (state_at (cl [] 1) y.memory line_end_lines y.vars no_words)))
          | inr out ↦
              then_stops w text ch [] [] from_last out 5 (state_at (cl [] awaits) m char_lines z1 no_words) to_char_last (omega arith) x.long
              (chars.stops_there law live procs n grow_kept u s to rest sized may w text ch small m place x beside [] awaits z1 has_z1 five out)
        ]

    -- ---- the routine's lines where one more byte is left

    module _ (ch : ℕ) (small : ch < 256) (next : ℕ) (ds : List ℕ) (w : UnderWay) (text : List ℕ) (m : Memory) (place : ℕ)
        (x : StageAt w text m place) (beside : BesideText m) (v : Vars) (has : Vs v place w.length) (five : v 5 ≡ Some ch) (awaits : ℕ)
        (differ : ch ≡ 10 → ⊥)
      where
        abbrev d : ℕ
        d = next % 256

        d_small : d < 256
        d_small = omega arith

        abbrev from_more : WordState
        from_more = state_at (cl (next ∷ ds) awaits) m line_lines v no_words

        abbrev m2 : Memory
        m2 = with_bytes m u.to (d ∷ [])

        regions2 : Sized m2
        regions2 =
            bytes_sized law m x.regions u.to (d ∷ []) (chars.may_read_byte law live procs n grow_kept u s to rest sized may m beside) (d_small, tt)

        written2 : IsRewritten m m2 (u.to + 0) 1
        written2 =
            let e : u.to ≡ u.to + 0 = omega arith in
            subst (λ a. IsRewritten m m2 a 1) e (bytes_written law m x.regions u.to (d ∷ [])
            (chars.may_read_byte law live procs n grow_kept u s to rest sized may m beside) (d_small, tt))

        stage2 : StageAt w text m2 place
        stage2 = chars.stage_then law live procs n grow_kept u s to rest sized may w text m m2 place 0 1 (omega arith) x beside regions2 written2

        beside2 : BesideText m2
        beside2 = chars.text_then law live procs n grow_kept u s to rest sized may m m2 0 1 (omega arith) beside written2

        abbrev y1 : Vars
        y1 = put (put v 7 10) 4 1

        abbrev y2 : Vars
        y2 = put y1 6 d

        abbrev y3 : Vars
        y3 = put y2 7 13

        has_y2 : Vs y2 place w.length
        has_y2 = record {
          zero_is = has.zero_is;
          one_is = has.one_is;
          two_is = has.two_is;
          three_is = has.three_is;
          eight_is = has.eight_is;
        }

        has_y3 : Vs y3 place w.length
        has_y3 = record {
          zero_is = has.zero_is;
          one_is = has.one_is;
          two_is = has.two_is;
          three_is = has.three_is;
          eight_is = has.eight_is;
        }

        six_is : y2 6 ≡ Some d
        six_is = got d (omega (arith, d_small))

        to_next_test : Runs live procs 6 from_more (state_at (cl ds awaits) m2 q7 y2 no_words)
        to_next_test =
            then_runs live procs (no_feed (next ∷ ds) awaits m v ch five differ) (then_runs live procs
            (run_read_one live procs (cl (next ∷ ds) awaits) m q5 (put v 7 10) no_words 4 0 3 next ds has.zero_is has.three_is refl
            (chars.may_read_byte law live procs n grow_kept u s to rest sized may m beside))
            (then_runs live procs (run_past live procs (cl ds awaits) m2 q6 y1 no_words test.Equal 4 8 2 refl has.eight_is refl)
            (run_load live procs (cl ds awaits) m2 q7 y1 no_words 6 0 Byte has.zero_is
            (byte_read m2 u.to d (bytes_there law m x.regions u.to (d ∷ [])
            (chars.may_read_byte law live procs n grow_kept u s to rest sized may m beside) (d_small, tt))))))

        -- the character comes to the text, and the next one is looked at
        module _ (line left : List ℕ) (z : Vars) (has_z : Vs z place w.length) (five_z : z 5 ≡ Some ch) (four_z : z 4 ≡ Some 1) (six_z : z 6 ≡ Some d) (l : ℕ)
            (few : l ≤ 9) (to_char : Runs live procs l from_more (state_at (cl ds awaits) m2 char_lines z no_words))
            (goes : (m3 : Memory) (place3 : ℕ) → StageAt (one_longer w) (text ++ ch ∷ []) m3 place3 → BesideText m3 → (v3 : Vars)
            → Vs v3 place3 (one_longer w).length → v3 5 ≡ Some d
            → Outcome (one_longer w) (text ++ ch ∷ []) line left (work_for (one_longer w) line) (state_at (cl ds 1) m3 line_lines v3 no_words))
          where
            one_char : Outcome w text (ch ∷ line) left (work_for w (ch ∷ line)) from_more
            one_char = elim (cases_Bool (may_get u.room w)) [
              | inl does ↦
                  let y = chars.gets law live procs n grow_kept u s to rest sized may w text ch small m2 place stage2 beside2 ds awaits z has_z
                  five_z does in
                  let few1 = y.few in
                  let v5 : Vars = put y.vars 5 d in
                  let has5 : Vs v5 y.place (suc w.length) = record {
                    zero_is = y.has.zero_is;
                    one_is = y.has.one_is;
                    two_is = y.has.two_is;
                    three_is = y.has.three_is;
                    eight_is = y.has.eight_is;
                  } in
                  then_others w text ch line left from_more does (l + (y.count + 3)) (state_at (cl ds 1) y.memory line_lines v5 no_words)
                  (then_runs live procs to_char (then_runs live procs y.runs (then_runs live procs
                  (run_past live procs (cl ds 1) y.memory (Copy 5 6 ∷ Jump 1 ∷ line_end_lines) y.vars no_words test.Equal 4 8 3 (y.four_is ∙ four_z)
                  y.has.eight_is refl)
                  (then_runs live procs (run_copy live procs (cl ds 1) y.memory (Jump 1 ∷ line_end_lines) y.vars no_words 5 6 (y.six_is ∙ six_z))
                  (run_jump live procs (cl ds 1) y.memory line_end_lines v5 no_words 1 line_lines refl)))))
                  (omega (arith, few, few1))
                  (goes y.memory y.place y.stage y.beside v5 (has_longer w v5 y.place has5) (got d (omega (arith, d_small))))
              | inr out ↦
                  then_stops w text ch line left from_more out l (state_at (cl ds awaits) m2 char_lines z no_words) to_char few x.long
                  (chars.stops_there law live procs n grow_kept u s to rest sized may w text ch small m2 place stage2 beside2 ds awaits z has_z
                  five_z out)
            ]

        -- the next one ends the line
        at_end : d ≡ 10 → Outcome w text (if nat_eq ch 13 then [] else ch ∷ []) ds (work_for w (if nat_eq ch 13 then [] else ch ∷ [])) from_more
        at_end feed = elim (cases_eq ch 13) [
          | inl back ↦
              subst (λ l. Outcome w text l ds (work_for w l) from_more) (sym (ap (λ b. if b then [] else ch ∷ []) (eq-eqb ch 13 back)))
              (over w text ds m2 place stage2 beside2 y3 has_y3 awaits 9 (omega arith) from_more
              (then_runs live procs to_return
              (run_off live procs (cl ds awaits) m2 char_lines y3 no_words test.Equal 5 7 3 line_end_lines five refl (eq-eqb ch 13 back) refl)))
          | inr other ↦
              subst (λ l. Outcome w text l ds (work_for w l) from_more) (sym (ap (λ b. if b then [] else ch ∷ []) (ne_eqb ch 13 other)))
              (one_char [] ds y3 has_y3 five refl six_is 9 (omega arith)
              (then_runs live procs to_return (run_past live procs (cl ds awaits) m2 char_lines y3 no_words test.Equal 5 7 3 five refl (ne_eqb ch 13 other)))
              (λ m3 place3 stage3 beside3 v3 has3 five3.
              over (one_longer w) (text ++ ch ∷ []) ds m3 place3 stage3 beside3 (put v3 7 10) (record {
                zero_is = has3.zero_is;
                one_is = has3.one_is;
                two_is = has3.two_is;
                three_is = has3.three_is;
                eight_is = has3.eight_is;
              }) 1 3 (omega arith) (state_at (cl ds 1) m3 line_lines v3 no_words) (at_feed ds 1 m3 v3 d five3 feed)))
        ]
          where
            to_return : Runs live procs 8 from_more (state_at (cl ds awaits) m2 q9 y3 no_words)
            to_return =
                then_runs live procs to_next_test (then_runs live procs
                (run_past live procs (cl ds awaits) m2 q8 y2 no_words test.Unequal 6 7 2 six_is refl (ap not (eq-eqb d 10 feed)))
                (run_constant live procs (cl ds awaits) m2 q9 y2 no_words 7 13))

        to_char_more : (d ≡ 10 → ⊥) → Runs live procs 7 from_more (state_at (cl ds awaits) m2 char_lines y2 no_words)
        to_char_more no_end =
            then_runs live procs to_next_test
            (run_off live procs (cl ds awaits) m2 q8 y2 no_words test.Unequal 6 7 2 char_lines six_is refl (ap not (ne_eqb d 10 no_end)) refl)

    -- ---- the whole line

    -- a character was read, and behind it this input is left
    abbrev pub LineOutcome : UnderWay → List ℕ → ℕ → List ℕ → WordState → Type 0
    LineOutcome w text ch left from =
        Outcome w text (line_from ch (as_bytes left)) (behind_line ch left) (work_for w (line_from ch (as_bytes left))) from

    word_of_byte : (next : ℕ) → next % 256 < 2 ^ 32
    word_of_byte next = omega arith

    -- by what the first two are
    module _ (ch next : ℕ) (ds : List ℕ) (w : UnderWay) (text : List ℕ) (from : WordState) where
      abbrev second : ℕ
      second = next % 256

      abbrev line_by : Bool → Bool → List ℕ
      line_by b e = if b then [] else if e then (if nat_eq ch 13 then [] else ch ∷ []) else ch ∷ line_from second (as_bytes ds)

      abbrev left_by : Bool → Bool → List ℕ
      left_by b e = if b then next ∷ ds else if e then ds else behind_line second ds

      as_line : (b e : Bool) → nat_eq ch 10 ≡ b → nat_eq second 10 ≡ e → Outcome w text (line_by b e) (left_by b e) (work_for w (line_by b e)) from
          → LineOutcome w text ch (next ∷ ds) from
      as_line b e is_b is_e outcome =
          subst (λ b. Outcome w text (line_by b (nat_eq second 10)) (left_by b (nat_eq second 10)) (work_for w (line_by b (nat_eq second 10))) from) (sym is_b)
          (subst (λ e. Outcome w text (line_by b e) (left_by b e) (work_for w (line_by b e)) from) (sym is_e) outcome)

    pub reads_on : (left : List ℕ) (ch : ℕ) → ch < 256 → (w : UnderWay) (text : List ℕ) (m : Memory) (place : ℕ) → StageAt w text m place
        → BesideText m → (v : Vars) → Vs v place w.length → v 5 ≡ Some ch → (awaits : ℕ)
        → LineOutcome w text ch left (state_at (cl left awaits) m line_lines v no_words)
    reads_on [] ch small w text m place x beside v has five awaits = elim (cases_eq ch 10) [
      | inl feed ↦
          subst (λ l. Outcome w text l [] (work_for w l) (state_at (cl [] awaits) m line_lines v no_words))
          (sym (ap (λ b. if b then [] else ch ∷ []) (eq-eqb ch 10 feed)))
          (over w text [] m place x beside (put v 7 10) (record {
            zero_is = has.zero_is;
            one_is = has.one_is;
            two_is = has.two_is;
            three_is = has.three_is;
            eight_is = has.eight_is;
          }) awaits 3 (omega arith) (state_at (cl [] awaits) m line_lines v no_words) (at_feed [] awaits m v ch five feed))
      | inr differ ↦
          subst (λ l. Outcome w text l [] (work_for w l) (state_at (cl [] awaits) m line_lines v no_words))
          (sym (ap (λ b. if b then [] else ch ∷ []) (ne_eqb ch 10 differ)))
          (last_char ch small w text m place x beside v has five awaits differ)
    ]
    reads_on (next ∷ ds) ch small w text m place x beside v has five awaits = elim (cases_eq ch 10) [
      | inl feed ↦
          as_line ch next ds w text (state_at (cl (next ∷ ds) awaits) m line_lines v no_words) true (nat_eq (next % 256) 10) (eq-eqb ch 10 feed) refl
          (over w text (next ∷ ds) m place x beside (put v 7 10) (record {
            zero_is = has.zero_is;
            one_is = has.one_is;
            two_is = has.two_is;
            three_is = has.three_is;
            eight_is = has.eight_is;
          }) awaits 3 (omega arith) (state_at (cl (next ∷ ds) awaits) m line_lines v no_words) (at_feed (next ∷ ds) awaits m v ch five feed))
      | inr differ ↦ elim (cases_eq (next % 256) 10) [
        | inl end ↦
            as_line ch next ds w text (state_at (cl (next ∷ ds) awaits) m line_lines v no_words) false true (ne_eqb ch 10 differ) (eq-eqb (next % 256) 10 end)
            (at_end ch small next ds w text m place x beside v has five awaits differ end)
        | inr no_end ↦
            as_line ch next ds w text (state_at (cl (next ∷ ds) awaits) m line_lines v no_words) false false (ne_eqb ch 10 differ)
            (ne_eqb (next % 256) 10 no_end)
            (one_char ch small next ds w text m place x beside v has five awaits differ (line_from (next % 256) (as_bytes ds)) (behind_line (next % 256) ds)
            (put (put (put v 7 10) 4 1) 6 (next % 256))
            (has_y2 ch small next ds w text m place x beside v has five awaits differ) five refl (got (next % 256) (word_of_byte next)) 7 (omega arith)
            (to_char_more ch small next ds w text m place x beside v has five awaits differ no_end)
            (λ m3 place3 stage3 beside3 v3 has3 five3.
            reads_on ds (next % 256) (omega arith) (one_longer w) (text ++ ch ∷ []) m3 place3 stage3 beside3 v3 has3 five3 1))
      ]
    ]
