-- Before the first line of block code: word code is there from the beginning, and both states belong together.
use Rattle.std.proofs.Common.{◌≡◌, ℕ, zero, suc, ◌-◌, replicate, List, [], ◌∷◌, length, Option, Some, None, true, false}
use Rattle.std.proofs.Common.{refl, sym, ap, subst, ◌∙◌, arith}
use Rattle.std.specs.Prelude.{slice_get}
use Rattle.std.proofs.lemmas.Bool.{true≢false}
use Rattle.rv32_isa.specs.Image.{stack_at}
use Rattle.rv32_isa.specs.Machine.{Lives}
use Rattle.nim_types.specs.declared.types.TypeDef.{TypeDef}
use Rattle.nim_types.specs.Table.{type_at}
use Rattle.nim_program.specs.declared.program.TheConstants.{ACTIVE_CALLS}
use Rattle.nim_meaning.specs.Values.{Value, default_of, Slot, Holds}
use Rattle.nim_meaning.specs.State.{joined, world_of}
use Rattle.nim_meaning.specs.Meaning.{filled}
use Rattle.flat_code.specs.declared.block.BlockLine.{BlockLine}
use Rattle.flat_code.specs.declared.code.Code.{Code}
use Rattle.flat_code.specs.declared.place.PlaceKind.{PlaceKind}
use Rattle.flat_code.specs.declared.place.PlaceKind.TheVariants as K
use Rattle.flat_code.specs.declared.place.FlatPlace.{FlatPlace}
use Rattle.flat_code.specs.Scene.{no_temps, Known, known_in}
use Rattle.flat_code.specs.Codes.{proc_of, if_result, result_in as slots_of}
use Rattle.flat_code.specs.Fits.{or_result, result_at, and_result, results_at}
use Rattle.flat_code.specs.Running.{Proc, frame_of}
use Rattle.word_code.specs.declared.word.WordProc.{WordProc}
use Rattle.word_code.specs.Memory.{Memory}
use Rattle.word_code.specs.Words.{no_words}
use Rattle.word_code.proofs.ForCallers.{Runs, at}
use Rattle.word_lowering.specs.Layouts.{result_in}
use Rattle.word_lowering.specs.Lowered.{result_cleared}
use Rattle.word_lowering.specs.WaitingCode.{none_code}
use Rattle.word_lowering.proofs.LabelsHere.{code_is}
use Rattle.word_lowering.proofs.Sites.{Body, Site, lines_of, around, word_of, IsBody}
use Rattle.word_lowering.proofs.Scenes.{is_fixed, Name, of_value, of_location, of_place, HasValue, Filled, of_waiting}
use Rattle.word_lowering.proofs.Options.{none_some}
use Rattle.word_lowering.proofs.Related.{Both, code_behind, within, low, MemoryGood, Good, is_text_of_data}
use Rattle.nim_meaning.specs.Heap.{heap_of}
use Rattle.word_lowering.proofs.Blocks.{Bytes, HasHeap}
use Rattle.word_lowering.proofs.Waiting.{none_says}
use Rattle.word_lowering.proofs.WaitingRuns.{none_runs, zeroed, zeroed_is}

-- ---- both states

repeated_length : (n : ℕ) → length {A = Option Slot} (replicate n None) ≡ n
repeated_length zero = refl
repeated_length (suc n) = ap suc (repeated_length n)

filled_length : (n : ℕ) (slots : List Slot) → slots ≡ [] → length (filled n slots) ≡ n
filled_length n slots e =
    let all : n - 0 ≡ n = omega arith in ap (λ z. length (filled n z)) e ∙ repeated_length (n - 0) ∙ all

-- no place has a slot
none_there : (n i : ℕ) (slot : Slot) → joined (slice_get (replicate n None) i) ≡ Some slot → ⊥
none_there zero i slot e = none_some slot e
none_there (suc n) zero slot e = none_some slot e
none_there (suc n) (suc i) slot e = none_there n i slot e

none_filled : (n i : ℕ) (slots : List Slot) (slot : Slot) → slots ≡ [] → joined (slice_get (filled n slots) i) ≡ Some slot → ⊥
none_filled n i slots slot e f = none_there (n - 0) i slot (ap (λ z. joined (slice_get (filled n z) i)) (sym e) ∙ f)

-- nothing is given by code without a result
pub no_results : (known : Known) (ps : List FlatPlace) → results_at ps ≡ [] → (result_at known ps ≡ None) × (slots_of known ps ≡ [])
no_results known [] e = (refl, refl)
no_results known (p ∷ ps) e = by p.kind e (no_results known ps)
  where
    some_number : (n : ℕ) (ns : List ℕ) → n ∷ ns ≡ [] → ⊥
    some_number n ns e = cc

    by : (kind : PlaceKind) → and_result kind p.number (results_at ps) ≡ []
        → (results_at ps ≡ [] → (result_at known ps ≡ None) × (slots_of known ps ≡ []))
        → (or_result kind p.number (result_at known ps) ≡ None)
        × (if_result kind (Holds (default_of known.facts (type_at known.types p.ty)) ∷ []) (slots_of known ps) ≡ [])
    by K.Result e go = absurd (some_number p.number (results_at ps) e)
    by K.Local e go = go e
    by K.Cursor e go = go e
    by (K.Param mode) e go = go e
    by K.ForVar e go = go e
    by K.Caught e go = go e
    by K.Global e go = go e
    by K.Temp e go = go e
    by K.Location e go = go e
    by K.Within e go = go e
    by K.Counter e go = go e

module _ (table : List TypeDef) (blocks : Code BlockLine) (b : Body) (is : IsBody table blocks b) (start : b.start ≡ true) (units : Option ℕ) (heap : ℕ)
    (input : List ℕ) (first : Memory) where
  abbrev as_proc : Proc BlockLine
  as_proc = proc_of (known_in table) b.proc

  abbrev site : Site
  site = record { body = b; level = 0; base = stack_at; left = ACTIVE_CALLS }

  abbrev pub first_pair : Both
  first_pair = record {
    units = units;
    memory = first;
    input = input;
    world = world_of (frame_of as_proc [] ∷ []) heap input;
    call = record { site = site; temps = no_temps; vars = zeroed b.own.waiters no_words };
    rest = b.proc.lines;
    words = no_words;
    awaits = 0;
    waiting = [];
    ground = record { blocks = record { born = 0; inside = λ k. Bytes; stands = λ k. None }; fixed = is_text_of_data table blocks first };
  }

  module _ (memory : MemoryGood table blocks (site ∷ []) first first)
      (has_heap : HasHeap (is_fixed first_pair.ground) first_pair.ground.blocks (heap_of heap) first) (none_given : as_proc.result ≡ []) where
    no_slot : (n : ℕ) → Filled first_pair.world 0 n → ⊥
    no_slot n h = none_filled b.proc.span (n - b.proc.first) as_proc.result h.0 none_given h.1

    no_item : (name : Name) (x : Value) → HasValue first_pair.world first_pair.call name x → ⊥
    no_item (of_value t) x h = none_some x h
    no_item (of_location t) x h = h
    no_item (of_place n) x h = no_slot n (Holds x, h)
    no_item (of_waiting node) x h = none_some (Holds x) h

    pub first_good : Good table blocks first first_pair
    first_good = record {
      linked = (is, start, refl, refl, refl, tt);
      memory = memory;
      heap = has_heap;
      input = refl;
      hold = (
        record {
          items = λ name x i h. absurd (no_item name x h);
          texts = λ t behind bytes x i e h. absurd (none_some x h);
          led = λ t there i e. absurd (none_some there e);
          filled = λ n i h. absurd (no_slot n h);
          left = λ h. absurd (true≢false (sym start ∙ h));
          waits = λ node. none_says node b.own.waiters None stack_at (zeroed b.own.waiters no_words) refl
              (zeroed_is b.own.waiters no_words node);
          once = tt;
        },
        tt,
      );
      frames = (
        record {
          frame = frame_of as_proc [];
          there = refl;
          begins = refl;
          slots = filled_length b.proc.span as_proc.result none_given;
        },
        tt,
      );
      levels = refl;
      stands = record { before = []; whole = refl; fits = is.fits };
      waits = tt;
      answers = tt;
      idle = refl;
      fixed = refl;
    }

    -- before the first line of block code nothing waits
    pub first_runs : (live : Lives) (all : List WordProc) → result_in b.own.all ≡ None
        → Runs live all (length b.own.waiters) (at (within table blocks first_pair) first (word_of table blocks b).lines no_words no_words)
        (low table blocks first_pair)
    first_runs live all result =
        subst (λ l. Runs live all (length b.own.waiters) (at (within table blocks first_pair) first l no_words no_words) (low table blocks first_pair))
        (sym first_code)
        (none_runs live all (within table blocks first_pair) first (code_behind table blocks b b.proc.lines) no_words b.own.waiters no_words)
      where
        first_code : (word_of table blocks b).lines ≡ none_code b.own.waiters (code_behind table blocks b b.proc.lines)
        first_code =
            code_is (around table blocks b) (lines_of b)
            ∙ ap (λ r. none_code b.own.waiters (result_cleared r (code_behind table blocks b b.proc.lines))) result
