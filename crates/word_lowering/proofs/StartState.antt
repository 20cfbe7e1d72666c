-- The start of word code: it is at the first line of block code, and both states belong together there.
use Rattle.std.proofs.Common.{Option, ◌≡◌, ℕ, List, [], ◌∷◌, ◌++◌, map, None, false, true, refl, sym, ap, subst, ◌+◌, length, ◌≤◌}
use Rattle.std.proofs.Common.{◌∙◌}
use Rattle.std.proofs.lemmas.Bool.{and_parts, false≢true}
use Rattle.rv32_isa.specs.Machine.{Lives}
use Rattle.nim_types.specs.declared.types.TypeDef.{TypeDef}
use Rattle.nim_types.specs.Table.{IsTable}
use Rattle.nim_program.specs.declared.program.TheConstants.{ACTIVE_CALLS}
use Rattle.flat_code.specs.declared.block.BlockLine.{BlockLine}
use Rattle.flat_code.specs.declared.code.CodeProc.{CodeProc}
use Rattle.flat_code.specs.declared.code.Code.{Code}
use Rattle.nim_meaning.specs.State.{world_of}
use Rattle.word_code.specs.declared.word.WordCode.{WordCode}
use Rattle.word_code.specs.declared.word.WordProc.{WordProc}
use Rattle.word_code.specs.Memory.{Memory, as_state, own_data_at}
use Rattle.word_code.specs.declared.word.WordCode.{WordCode}
use Rattle.word_code.specs.Joined.{joined}
use Rattle.rv32_isa.specs.Regions.{HasRegions}
use Rattle.nim_meaning.specs.Heap.{heap_of}
use Rattle.heap_memory.specs.HeapState.{none_stands, IsHeap}
use Rattle.flat_code.specs.Scene.{known_in}
use Rattle.word_code.specs.Words.{WordState, no_words, from_proc, first_of, start as word_start}
use Rattle.flat_code.specs.Codes.{block_label, block_does, proc_of, procs_of, result_in as slots_of}
use Rattle.flat_code.specs.Fits.{result_at, params_at, results_at, are_none}
use Rattle.flat_code.specs.Running.{Proc, no_proc as no_run_proc, last_of, start_of, frame_of, beginning, at_first}
use Rattle.word_code.proofs.ForCallers.{Runs}
use Rattle.word_lowering.specs.declared.homes.Layout.{Layout}
use Rattle.word_lowering.specs.Layouts.{result_in}
use Rattle.word_lowering.specs.Lowered.{no_proc, start_layout, lowered}
use Rattle.word_lowering.specs.Lowers.{IsFitting}
use Rattle.word_lowering.specs.MayLower.{may_lower}
use Rattle.word_lowering.specs.Stored.{HaveForms}
use Rattle.word_lowering.specs.Runtimes.{Runtimes, with_runtimes}
use Rattle.word_lowering.proofs.Sites.{Body, globals_of, ResultIs, IsBody, Site, next_base, word_of}
use Rattle.word_lowering.proofs.Related.{Both, low, high, MemoryGood, Good, is_text_of_data}
use Rattle.word_lowering.proofs.FirstMemory.{first_memory, start_room}
use Rattle.word_lowering.proofs.Blocks.{Bytes, Blocks, HasHeap}
use Rattle.word_lowering.proofs.JoinedRoutines.{joined_again}
use Rattle.word_lowering.specs.LineCode.{all_labels}
use Rattle.word_lowering.proofs.HookProcs.{HookLaws}
use Rattle.word_lowering.proofs.NamedProcs.{start_found}
use Rattle.word_lowering.proofs.Padding.{zeros_length}
use Rattle.word_lowering.proofs.ProcCodes.{start_laid, start_places, start_is_body}
use Rattle.word_lowering.proofs.StartPair.{no_results, first_pair, first_good, first_runs}
use Rattle.rv32_isa.specs.Image.{stack_at}
use Rattle.word_lowering.proofs.RoomBounds.{start_waits}
use Rattle.word_lowering.specs.declared.may_lower.TheConstants.{MOST_WAITERS}

none_behind : (xs ys : List ℕ) → are_none (xs ++ ys) ≡ true → ys ≡ []
none_behind [] [] h = refl
none_behind [] (y ∷ ys) h = absurd (false≢true h)
none_behind (x ∷ xs) ys h = absurd (false≢true h)

last_map : {A B : Type 0} (f : A → B) (none : A) (other : B) (x : A) (xs : List A) → last_of other (map f (x ∷ xs)) ≡ f (last_of none (x ∷ xs))
last_map f none other x [] = refl
last_map f none other x (y ∷ xs) = last_map f x (f x) y xs

module _ (table : List TypeDef) (blocks : Code BlockLine) (runtime : Runtimes) (units : Option ℕ) (heap stack : ℕ) (input : List ℕ) where
  abbrev code : WordCode
  code = with_runtimes runtime (lowered table blocks)

  abbrev first : Memory
  first = first_memory code heap stack

  abbrev pub start_body : Body
  start_body = record {
    own = start_layout table blocks.procs;
    start = true;
    literals = 0;
    number = 0;
    proc = last_of no_proc blocks.procs;
  }

  -- what is shown of the start
  pub record Begins (live : Lives) : Type 0 where
    pub both : Both
    pub good : Good table blocks first both
    -- so many lines of word code come before those of block code
    pub before : ℕ
    pub few : before ≤ MOST_WAITERS
    pub runs : Runs live code.procs before (record (word_start code heap stack input) { units = units }) (low table blocks both)
    pub units_are : both.units ≡ units
    pub same : high table blocks both ≡ at_first block_label (block_does (known_in table)) (procs_of (known_in table) blocks) heap input

  module _ (laws : HookLaws) (is_table : IsTable table) (have : HaveForms table) (fits : IsFitting table blocks) (may : may_lower table blocks ≡ true)
      (labels : all_labels blocks.procs ≤ 4294967295) (p : CodeProc BlockLine) (ps : List (CodeProc BlockLine)) (some : blocks.procs ≡ p ∷ ps)
      (memory : (sites : List Site) → next_base sites ≡ stack_at + start_room code → MemoryGood table blocks sites first first) where
    start_is : IsBody table blocks start_body
    start_is =
        subst (λ (own : Layout). IsBody table blocks (record {
          own = own;
          start = true;
          literals = 0;
          number = 0;
          proc = last_of no_proc blocks.procs;
        })) (sym (start_laid table blocks p ps some))
        (start_is_body table blocks is_table have fits may labels p ps some 0)

    no_result : (result_at (known_in table) start_body.proc.places ≡ None) × (slots_of (known_in table) start_body.proc.places ≡ [])
    no_result =
        no_results (known_in table) start_body.proc.places
        (ap results_at (sym (start_places table blocks p ps some))
        ∙ none_behind (params_at (globals_of table blocks)) (results_at (globals_of table blocks)) (and_parts _ _ fits.fits).0)

    no_place : result_in start_body.own.all ≡ None
    no_place = subst (λ o. ResultIs table blocks start_body.own.all o (result_in start_body.own.all)) no_result.0 start_is.result

    -- the start code is the first procedure
    start_proc : first_of (from_proc 0 code.procs) ≡ word_of table blocks start_body
    start_proc = ap first_of (start_found laws table blocks may runtime)

    start_memory : MemoryGood table blocks (record { body = start_body; level = 0; base = stack_at; left = ACTIVE_CALLS } ∷ []) first first
    start_memory =
        memory (record { body = start_body; level = 0; base = stack_at; left = ACTIVE_CALLS } ∷ []) (ap (λ (p : WordProc). stack_at + p.room) (sym start_proc))

    -- no block was taken
    abbrev first_blocks : Blocks
    first_blocks = record { born = 0; inside = λ k. Bytes; stands = λ k. None }

    start_heap : HasHeap (λ place text. is_text_of_data table blocks first place text ≡ true) first_blocks (heap_of heap) first
    unfolding word_start
    start_heap = record {
      kept = subst (λ (c : WordCode). IsHeap own_data_at (heap_of heap).classes none_stands (word_start c heap stack input).memory)
          (sym (joined_again runtime.heap (lowered table blocks) runtime.others))
          (runtime.is_heap.starts (joined (lowered table blocks) runtime.others) heap stack input
          (subst (λ (c : WordCode). HasRegions (as_state (word_start c heap stack input).memory))
          (joined_again runtime.heap (lowered table blocks) runtime.others) start_memory.sized));
      room = zeros_length heap;
      born = refl;
      blocks = λ k. refl;
    }

    -- word code before its first line, where that procedure is
    abbrev begun : WordProc → WordState
    begun p = record {
      units = units;
      memory = first;
      input = input;
      frame = record { proc = p; left = p.lines; vars = no_words; given = no_words; base = stack_at; awaits = 0 };
      callers = [];
    }

    pub begins : (live : Lives) → Begins live
    unfolding word_start
    begins live =
        record {
          both = first_pair table blocks start_body start_is refl units heap input first;
          units_are = refl;
          good = first_good table blocks start_body start_is refl units heap input first start_memory start_heap no_result.1;
          before = length start_body.own.waiters;
          few = start_waits table blocks may;
          runs = subst (λ p. Runs live code.procs (length start_body.own.waiters) (begun p)
              (low table blocks (first_pair table blocks start_body start_is refl units heap input first)))
              (sym start_proc)
              (first_runs table blocks start_body start_is refl units heap input first start_memory start_heap no_result.1 live code.procs no_place);
          same = ap (λ (q : Proc BlockLine). record {
            now = beginning q 0 ACTIVE_CALLS;
            waiting = [];
            world = world_of (frame_of q [] ∷ []) heap input;
          }) (sym last_is);
        }
      where
        last_is : start_of (procs_of (known_in table) blocks) ≡ proc_of (known_in table) (last_of no_proc blocks.procs)
        last_is = subst (λ qs. last_of no_run_proc (map (proc_of (known_in table)) qs) ≡ proc_of (known_in table) (last_of no_proc qs)) (sym some)
            (last_map (proc_of (known_in table)) no_proc no_run_proc p ps)
