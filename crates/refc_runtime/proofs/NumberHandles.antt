-- What the routines do that put the text of a number, and that of two others, to an address.
use Rattle.std.proofs.Common.{◌≡◌, ℕ, ◌+◌, ◌%◌, ◌^◌, ◌<◌, List, [], ◌∷◌, length, Some, refl, sym, ap, subst, ◌∙◌, arith}
use Rattle.rv32_isa.specs.Machine.{Lives}
use Rattle.rv32_isa.specs.Values.{subtracted}
use Rattle.word_code.specs.declared.word.WordOperation.TheVariants as operation
use Rattle.word_code.specs.declared.word.WordInstr.{WordInstr}
use Rattle.word_code.specs.declared.word.WordInstr.TheVariants.{Constant, Compute, Datum, Argument, Call, Return}
use Rattle.word_code.specs.declared.word.WordProc.{WordProc}
use Rattle.word_code.specs.Memory.{Memory, as_state, may_fill, own_data_at}
use Rattle.word_code.specs.Words.{computed, Vars, no_words, put, params_of, from_proc, WordState}
use Rattle.word_code.specs.Routines.{ComesBack, Comes, IsCalling}
use Rattle.word_code.proofs.ForCallers.{MemoryLaw, Sized, Runs, then_runs, Within, at as state_at}
use Rattle.word_code.proofs.ForCallers.{run_constant, run_compute, run_datum, run_argument, got, got_sum}
use Rattle.heap_memory.specs.declared.numbers.TheConstants.{JOIN, DIGITS, HEAP_DATA, HEAP_SCRATCH}
use Rattle.heap_memory.specs.declared.numbers.TheConstants.{TEXT_JOIN, TEXT_OF_NUMBER, HANDLE_LINES}
use Rattle.heap_memory.specs.HeapRoutines.{IsKeptThere}
use Rattle.heap_memory.specs.TextRoutines.{Spelling, spells}
use Rattle.heap_memory.specs.GrowRoutine.{Growing, new_growth}
use Rattle.heap_memory.specs.AppendRoutine.{Outside, source_at, source_bytes, Appending, MayAppend, appends, joining_growth, joins}
use Rattle.heap_memory.specs.HandleRoutines.{JoiningTexts, joined_text, joins_texts, NumberText, characters_of, number_text, puts_number}
use Rattle.heap_memory.proofs.ForCallers.{still_heap}
use Rattle.refc_runtime.specs.HandleCode.{handle_lines, put_last_lines, append_behind_lines, text_join_lines, text_of_number_lines}
use Rattle.refc_runtime.proofs.Calls.{later, inside, enters}
use Rattle.refc_runtime.proofs.Coming.{calling_state}
use Rattle.refc_runtime.proofs.GrowRuns.{call_runs}
use Rattle.refc_runtime.proofs.HandleMemory.{run_handle}
use Rattle.refc_runtime.proofs.HandleRuns.{IsReady, at_once, puts_comes, gives_place, source_small, behind_comes}
use Rattle.refc_runtime.proofs.Scratch.{scratch_low, scratch_open, scratch_elsewhere, beside_scratch}

-- ---- a text is made of two

module _ (law : MemoryLaw) (live : Lives) (procs : List WordProc) (n : ℕ) (join_kept : IsKeptThere live procs (joins (own_data_at + n)))
    (u : JoiningTexts) (s : WordState) (to : ℕ) (rest : List WordInstr) (others : List WordProc)
    (stands : from_proc TEXT_JOIN procs ≡ later n TEXT_JOIN 3 8 text_join_lines ∷ others)
    (calling : IsCalling TEXT_JOIN (u.to ∷ u.left ∷ u.right ∷ []) to rest s) (sized : Sized s.memory) (may : (joins_texts (own_data_at + n)).may u s.memory)
  where
    abbrev jp : WordProc
    jp = later n TEXT_JOIN 3 8 text_join_lines

    abbrev jc : Within
    jc = inside s jp to rest

    abbrev jg : Growing
    jg = joining_growth u.joining

    abbrev left_long : ℕ
    left_long = length (source_bytes u.joining.first)

    abbrev left_at : ℕ
    left_at = source_at u.joining.first

    abbrev right_long : ℕ
    right_long = length (source_bytes u.joining.second)

    abbrev right_at : ℕ
    right_at = source_at u.joining.second

    abbrev x0 : Vars
    x0 = params_of jp s.frame.given

    abbrev x1 : Vars
    x1 = put (put (put x0 4 left_long) 5 (u.left + 4)) 5 left_at

    abbrev x2 : Vars
    x2 = put (put (put x1 6 right_long) 7 (u.right + 4)) 7 right_at

    abbrev x3 : Vars
    x3 = put x2 2 (computed operation.Add left_long right_long)

    abbrev j5 : List WordInstr
    j5 = Call 3 JOIN ∷ put_last_lines

    abbrev j4 : List WordInstr
    j4 = Argument 3 6 ∷ j5

    abbrev j3 : List WordInstr
    j3 = Argument 2 7 ∷ j4

    abbrev j2 : List WordInstr
    j2 = Argument 1 4 ∷ j3

    abbrev j1 : List WordInstr
    j1 = Argument 0 5 ∷ j2

    abbrev j0 : List WordInstr
    j0 = Compute 2 operation.Add 4 6 ∷ j1

    abbrev g1 : Vars
    g1 = put no_words 0 left_at

    abbrev g2 : Vars
    g2 = put g1 1 left_long

    abbrev g3 : Vars
    g3 = put g2 2 right_at

    abbrev g4 : Vars
    g4 = put g3 3 right_long

    left_small : left_at < 2 ^ 32
    left_small = source_small (own_data_at + n) jg s.memory sized may.joining.growth u.joining.first may.joining.first

    right_small : right_at < 2 ^ 32
    right_small = source_small (own_data_at + n) jg s.memory sized may.joining.growth u.joining.second may.joining.second

    longs : (left_long < 2 ^ 32) × (right_long < 2 ^ 32)
    longs = let w = may.joining.growth.word in (omega (arith, w), omega (arith, w))

    wanted_is : x3 2 ≡ Some jg.wanted
    wanted_is = let w = may.joining.growth.word in got_sum left_long right_long (omega (arith, w))

    to_join : Runs live procs 12 (calling_state live procs s to rest (joins_texts (own_data_at + n)) u calling.next) (state_at jc s.memory j5 x3 g4)
    to_join =
        then_runs live procs (enters live procs s to rest n TEXT_JOIN 3 8 text_join_lines others stands) (then_runs live procs
        (run_handle live procs jc s.memory sized (handle_lines 6 7 2 j0) x0 no_words u.left left_long left_at may.left 4 5 1
        calling.given.1.0 calling.given.1.0 refl) (then_runs live procs
        (run_handle live procs jc s.memory sized j0 x1 no_words u.right right_long right_at may.right 6 7 2 calling.given.1.1.0 calling.given.1.1.0 refl)
        (then_runs live procs
        (run_compute live procs jc s.memory j1 x2 no_words 2 operation.Add 4 6 (got left_long longs.0) (got right_long longs.1)) (then_runs live procs
        (run_argument live procs jc s.memory j2 x3 no_words 0 5 (got left_at left_small)) (then_runs live procs
        (run_argument live procs jc s.memory j3 x3 g1 1 4 (got left_long longs.0)) (then_runs live procs
        (run_argument live procs jc s.memory j4 x3 g2 2 7 (got right_at right_small))
        (run_argument live procs jc s.memory j5 x3 g3 3 6 (got right_long longs.1))))))))

    pub text_join_comes : Comes live procs (joins_texts (own_data_at + n)) u s to rest ((joins_texts (own_data_at + n)).ends u)
    text_join_comes =
        puts_comes law live procs n TEXT_JOIN JoiningTexts (λ x. x.to ∷ x.left ∷ x.right ∷ []) (λ x m. (joins_texts (own_data_at + n)).may x m) joined_text
        (λ x place. place) (λ x. HANDLE_LINES + (joins (own_data_at + n)).lines x.joining) u s to rest calling.next s.memory 0
        (at_once (own_data_at + n) jg s.memory sized may.joining.growth.heap) jp may.joining.growth.unused may.joining.growth.present (λ does. may.has)
        may.joining.growth.word (joins (own_data_at + n)) u.joining x3 g4 calling.given.0 wanted_is 12 ((joins (own_data_at + n)).lines u.joining) 1
        (record { shown = refl; ended = refl; input = λ i. refl; left = λ other x. x; filled = λ other w y x. x; few = omega arith }) (omega arith)
        (Return 3 ∷ []) (λ m place low. gives_place live procs s to rest jp refl x3 (u.to + 4) jg.wanted m place low) to_join
        (join_kept u.joining (state_at jc s.memory j5 x3 g4) 3 put_last_lines
        (record {
          next = refl;
          given = (got left_at left_small, (got left_long longs.0, (got right_at right_small, (got right_long longs.1, tt))));
        }) sized may.joining)

-- ---- a text is made of a number

module _ (law : MemoryLaw) (live : Lives) (procs : List WordProc) (n : ℕ) (digits_kept : IsKeptThere live procs spells)
    (append_kept : IsKeptThere live procs (appends (own_data_at + n))) (u : NumberText) (s : WordState) (to : ℕ) (rest : List WordInstr)
    (others : List WordProc) (stands : from_proc TEXT_OF_NUMBER procs ≡ later n TEXT_OF_NUMBER 2 6 text_of_number_lines ∷ others)
    (calling : IsCalling TEXT_OF_NUMBER (u.to ∷ u.word ∷ []) to rest s) (sized : Sized s.memory) (may : (puts_number (own_data_at + n)).may u s.memory)
  where
    abbrev own : ℕ
    own = own_data_at + n

    abbrev np : WordProc
    np = later n TEXT_OF_NUMBER 2 6 text_of_number_lines

    abbrev nc : ℕ → Within
    nc awaits = record (inside s np to rest) { awaits = awaits }

    abbrev ng : Growing
    ng = new_growth u.new (length (characters_of u))

    abbrev scratch : ℕ
    scratch = own + HEAP_SCRATCH

    abbrev n7 : List WordInstr
    n7 = Constant 5 0 ∷ append_behind_lines

    abbrev n6 : List WordInstr
    n6 = Constant 4 0 ∷ n7

    abbrev n5 : List WordInstr
    n5 = Compute 2 operation.Subtract 4 3 ∷ n6

    abbrev n4 : List WordInstr
    n4 = Datum 4 HEAP_DATA ∷ n5

    abbrev n3 : List WordInstr
    n3 = Call 3 DIGITS ∷ n4

    abbrev n2 : List WordInstr
    n2 = Argument 1 4 ∷ n3

    abbrev n1 : List WordInstr
    n1 = Argument 0 1 ∷ n2

    abbrev y0 : Vars
    y0 = params_of np s.frame.given

    abbrev y1 : Vars
    y1 = put y0 4 scratch

    abbrev h2 : Vars
    h2 = put (put no_words 0 u.word) 1 scratch

    low : own + HEAP_DATA < 2 ^ 32
    low = let l = scratch_low own ng.classes ng.stands s.memory may.growth.heap sized in omega (arith, l)

    abbrev spelling : Spelling
    spelling = record { word = u.word; to = scratch }

    abbrev before : WordState
    before = state_at (nc 0) s.memory n3 y1 h2

    datum_at : (m : Memory) (k : List WordInstr) (v : Vars) (awaits at : ℕ)
        → Runs live procs 1 (state_at (nc awaits) m (Datum 4 at ∷ k) v no_words) (state_at (nc awaits) m k (put v 4 (own + at)) no_words)
    datum_at m k v awaits at =
        let e : own_data_at + (n + 0) + at ≡ own + at = omega arith in
        subst (λ a. Runs live procs 1 (state_at (nc awaits) m (Datum 4 at ∷ k) v no_words) (state_at (nc awaits) m k (put v 4 a) no_words)) e
        (run_datum live procs (nc awaits) m k v no_words 4 at)

    to_spell : Runs live procs 4 (calling_state live procs s to rest (puts_number own) u calling.next) before
    to_spell =
        let l = low in
        then_runs live procs (enters live procs s to rest n TEXT_OF_NUMBER 2 6 text_of_number_lines others stands) (then_runs live procs
        (datum_at s.memory n1 y0 0 HEAP_SCRATCH) (then_runs live procs
        (run_argument live procs (nc 0) s.memory n2 y1 no_words 0 1 calling.given.1.0)
        (run_argument live procs (nc 0) s.memory n3 y1 (put no_words 0 u.word) 1 4 (got scratch (omega (arith, l))))))

    spelled_there : ComesBack live procs spells spelling before 3 n4
    spelled_there =
        let l = low in
        let e : scratch + 0 ≡ scratch = omega arith in
        digits_kept spelling before 3 n4 (record { next = refl; given = (got u.word may.word, (got scratch (omega (arith, l)), tt)) }) sized
        (may.word, ap (λ a. may_fill s.memory a 12) (sym e) ∙ scratch_open own ng.classes ng.stands s.memory may.growth.heap sized 0 12 (omega arith))

    -- ---- behind that

    module _ (x : ComesBack live procs spells spelling before 3 n4) where
      regions : Sized x.memory
      regions = law.regions (as_state s.memory) (as_state x.memory) sized x.leaves.sizes

      abbrev place : ℕ
      place = x.word

      abbrev long : ℕ
      long = length (characters_of u)

      place_low : place < 2 ^ 32
      place_low = let e = x.gives.ends in let l = low in omega (arith, e, l)

      ready : IsReady own ng s.memory x.memory
      ready = record {
        regions = regions;
        rest = record {
          sizes = x.leaves.sizes;
          beside = λ b k away heap. x.leaves.beside b k (beside_scratch own ng.classes ng.stands s.memory may.growth.heap sized b k away);
        };
        heap = still_heap own ng.classes ng.stands s.memory may.growth.heap sized x.memory regions scratch 12 x.leaves
            (scratch_elsewhere own ng.classes ng.stands s.memory may.growth.heap sized scratch 12 (omega arith) (omega arith));
      }

      abbrev appending : Appending
      appending = record { growth = ng; source = Outside place (characters_of u) }

      may_append : MayAppend own appending x.memory
      may_append =
          let e = x.gives.ends in
          let same = x.leaves.sizes.heap in
          let all = may.growth.all in
          record {
            growth = record {
              heap = ready.heap;
              all = omega (arith, same, all);
              word = may.growth.word;
              unused = may.growth.unused;
              present = may.growth.present;
            };
            source = (
              x.gives.are,
              place_low,
              x.gives.there,
              scratch_elsewhere own ng.classes ng.stands x.memory ready.heap regions place long x.gives.low (omega (arith, e)),
            );
            wanted = omega arith;
          }

      abbrev y2 : Vars
      y2 = put y1 3 place

      abbrev y3 : Vars
      y3 = put y2 4 (own + HEAP_DATA)

      abbrev y4 : Vars
      y4 = put y3 2 (subtracted (own + HEAP_DATA) place)

      abbrev y5 : Vars
      y5 = put y4 4 0

      abbrev y6 : Vars
      y6 = put y5 5 0

      long_is : y6 2 ≡ Some long
      long_is =
          let e = x.gives.ends in
          let l = low in
          let count : subtracted (own + HEAP_DATA) place % 2 ^ 32 ≡ long = omega (arith, e, l) in
          ap Some count

      to_append : Runs live procs (4 + (x.lines + 4)) (calling_state live procs s to rest (puts_number own) u calling.next)
          (state_at (nc 3) x.memory append_behind_lines y6 no_words)
      to_append =
          then_runs live procs to_spell (then_runs live procs (call_runs live procs spells spelling (nc 0) s.memory y1 h2 3 n4 refl refl x)
          (then_runs live procs (datum_at x.memory n5 y2 3 HEAP_DATA) (then_runs live procs
          (run_compute live procs (nc 3) x.memory n6 y3 no_words 2 operation.Subtract 4 3 (got (own + HEAP_DATA) low) (got place place_low))
          (then_runs live procs
          (run_constant live procs (nc 3) x.memory n7 y4 no_words 4 0) (run_constant live procs (nc 3) x.memory append_behind_lines y5 no_words 5 0)))))

      puts_it : Comes live procs (puts_number own) u s to rest ((puts_number own).ends u)
      puts_it =
          let few = x.few in
          behind_comes law live procs n append_kept TEXT_OF_NUMBER NumberText (λ y. y.to ∷ y.word ∷ []) (λ y m. (puts_number own).may y m) number_text
          (puts_number own).lines u appending refl s to rest calling.next np refl (λ does. may.has) x.memory 3 ready may_append (4 + (x.lines + 4))
          (omega (arith, few)) y6 calling.given.0 long_is (got place place_low) refl refl to_append

    pub text_of_number_comes : Comes live procs (puts_number own) u s to rest ((puts_number own).ends u)
    text_of_number_comes = puts_it spelled_there
