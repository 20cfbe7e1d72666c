-- Texts that have no handle of their own get one in the data: a literal, a character, a name. What holds of homes stays so, and the handle leads to the text.
use Rattle.std.proofs.Common.{◌≡◌, ◌≢◌, inl, inr, ℕ, ◌+◌, ◌^◌, ◌<◌, ◌≤◌, List, [], ◌∷◌, length, Some, true, refl, sym, ap, subst, ◌∙◌, arith}
use Rattle.std.specs.Prelude.{◌%◌, ◌==◌, ◌&&◌}
use Rattle.nim_meaning.specs.Heap.{Heap}
use Rattle.nim_meaning.specs.State.{World}
use Rattle.rv32_isa.specs.declared.micro_op.Size.TheVariants.{Byte, Word}
use Rattle.rv32_isa.specs.Image.{heap_at, statics_at}
use Rattle.rv32_isa.specs.Steps.{low_bytes}
use Rattle.rv32_isa.specs.Words.{word_bytes}
use Rattle.rv32_isa.specs.Machine.{Lives}
use Rattle.word_code.specs.declared.word.WordInstr.{WordInstr}
use Rattle.word_code.specs.declared.word.WordInstr.TheVariants.{Constant, Datum, Store}
use Rattle.word_code.specs.declared.word.WordProc.{WordProc}
use Rattle.word_code.specs.Memory.{Memory, as_state, bytes_at, may_put, own_data_at, with_number}
use Rattle.word_code.specs.RoutineTable.{Beside, IsRewritten}
use Rattle.word_code.specs.Words.{Vars, put}
use Rattle.word_code.proofs.ForCallers.{MemoryLaw, Sized, Runs, Within, at as state_at, then_runs, run_constant, run_store, put_sized}
use Rattle.word_code.proofs.ForCallers.{put_here as word_here, sizes_more, store_here, store_rewritten, store_sized}
use Rattle.heap_memory.specs.declared.numbers.TheConstants.{HEAP_SCRATCH}
use Rattle.heap_memory.specs.HandleRoutines.{HasHandle, MayHave}
use Rattle.heap_memory.specs.HeapState.{Stands}
use Rattle.heap_memory.specs.HeapUse.{IsElsewhere}
use Rattle.heap_memory.specs.TextRoutines.{AreBytes}
use Rattle.heap_memory.specs.AppendRoutine.{Source, Outside, Inside}
use Rattle.word_lowering.specs.Lowered.{data_at}
use Rattle.word_lowering.specs.declared.homes.TheConstants.{FIRST, SECOND, THIRD}
use Rattle.word_lowering.specs.declared.homes.Home.TheVariants.{Static}
use Rattle.word_lowering.specs.OwnedCode.{handle_code, letter_code}
use Rattle.word_lowering.proofs.BlockHomes.{Home, SameOrApart, HomesHold, home_bytes}
use Rattle.word_lowering.proofs.Blocks.{Blocks}
use Rattle.word_lowering.proofs.FreshRows.{homes_beside}
use Rattle.word_lowering.proofs.Moves.{address_runs, same_first, same_more, same_second, same_third}
use Rattle.word_lowering.proofs.OrdinalRuns.{AllSame, put_here, put_other}
use Rattle.word_lowering.proofs.RoutineMemory.{same_word}
use Rattle.word_lowering.proofs.RoutinesCalled.{IsFirst}
use Rattle.word_lowering.proofs.Scenes.{Points}
use Rattle.word_lowering.proofs.TextOperands.{IsSourceIn, TextAt}

one_byte : (n : ℕ) → n < 256 → low_bytes Byte n ≡ n ∷ []
unfolding word_bytes
one_byte n small = let e : n % 256 ≡ n = omega (arith, small) in ap (λ b. b ∷ []) e

-- ---- texts where a range is rewritten

-- the bytes of what isn't in a block are beside it
abbrev pub IsSourceBeside : Source → (b n : ℕ) → Type 0
IsSourceBeside (Outside a bytes) b n = Beside a (length bytes) b n
IsSourceBeside (Inside x count) b n = Unit {0}

elsewhere_kept : (m other : Memory) (a n : ℕ) → length other.heap ≡ length m.heap → IsElsewhere own_data_at m a n → IsElsewhere own_data_at other a n
elsewhere_kept m other a n long e = record { heap = subst (λ i. Beside heap_at i a n) (sym long) e.heap; words = e.words; room = e.room }

pub text_kept : (heap : Heap) (stands : Stands) (m other : Memory) (a : ℕ) (text : List ℕ) (t : TextAt heap stands m a text) (b n : ℕ) → IsRewritten m other b n
    → Beside a 8 b n → IsSourceBeside t.source b n → TextAt heap stands other a text
text_kept heap stands m other a text t b n written apart beside = record {
  source = t.source;
  all = t.all;
  bytes = t.bytes;
  handle = record {
    long = same_word m other a (written.beside a 4 (first apart)) ∙ t.handle.long;
    there = same_word m other (a + 4) (written.beside (a + 4) 4 (last apart)) ∙ t.handle.there;
  };
  few = t.few;
  is = by t.source t.is beside;
}
  where
    first : Beside a 8 b n → Beside a 4 b n
    first (inl h) = inl (omega (arith, h))
    first (inr h) = inr h

    last : Beside a 8 b n → Beside (a + 4) 4 b n
    last (inl h) = inl (omega (arith, h))
    last (inr h) = inr (omega (arith, h))

    by : (x : Source) → IsSourceIn stands m x → IsSourceBeside x b n → IsSourceIn stands other x
    by (Outside p bytes) is away = (
      is.0,
      is.1,
      written.beside p (length bytes) away ∙ is.2,
      elsewhere_kept m other p (length bytes) written.sizes.heap is.3,
    )
    by (Inside x count) is away = is

module _ (law : MemoryLaw) (live : Lives) (procs : List WordProc) (c : Within) (from_first : IsFirst c) (at a : ℕ) (near : a + 12 < 2 ^ 32) (k : List WordInstr)
    (g : Vars) where
  -- ---- the two words of a handle

  pub record HandleMade (m : Memory) (v : Vars) (p n : ℕ) : Type 0 where
    pub memory : Memory
    pub sized : Sized memory
    pub rewritten : IsRewritten m memory a 8
    pub handle : HasHandle memory a n p
    pub vars : Vars
    pub same : AllSame v vars
    pub runs : Runs live procs 4 (state_at c m (handle_code at k) v g) (state_at c memory k vars g)

  pub handle_made : (m : Memory) (v : Vars) → Points c.base v (Static at) a → Sized m → MayHave m a → (p n : ℕ) → p < 2 ^ 32 → n < 2 ^ 32 → v FIRST ≡ Some p
      → v SECOND ≡ Some n → HandleMade m v p n
  handle_made m v where_is sized can p n small few first second =
      let m1 : Memory = with_number m a Word n in
      let sized1 : Sized m1 = put_sized law m a n sized can.0 in
      let written1 = store_rewritten law m a Word n sized can.0 in
      let may1 : may_put m1 (a + 4) Word ≡ true
      = ap (λ b. ((a + 4) % 4 == 0) && b) (law.stores (as_state m) (as_state m1) (a + 4) 4 written1.sizes) ∙ can.1 in
      let m2 : Memory = with_number m1 (a + 4) Word p in
      let v1 : Vars = put v THIRD a in
      let v2 : Vars = put v1 THIRD (a + 4) in
      let l3 : List WordInstr = Store THIRD FIRST Word ∷ k in
      let l2 : List WordInstr = Datum THIRD (at + 4) ∷ l3 in
      let l1 : List WordInstr = Store THIRD SECOND Word ∷ l2 in
      let written2 = store_rewritten law m1 (a + 4) Word p sized1 may1 in
      let next : a + 4 ≡ data_at + (at + 4) = omega (arith, where_is) in
      record {
        memory = m2;
        sized = put_sized law m1 (a + 4) p sized1 may1;
        rewritten = record {
          sizes = sizes_more m m1 m2 written1.sizes written2.sizes;
          beside = λ b i away. written2.beside b i (behind b i away) ∙ written1.beside b i (front b i away);
        };
        handle = record {
          long = same_word m1 m2 a (written2.beside a 4 (inl (omega arith))) ∙ word_here law m a n sized can.0 few;
          there = word_here law m1 (a + 4) p sized1 may1 small;
        };
        vars = v2;
        same = same_more v v1 v2 (same_third v a) (same_third v1 (a + 4));
        runs = then_runs live procs (address_runs law live procs c from_first g m l1 v THIRD (Static at) a where_is) (then_runs live procs
            (run_store live procs c m l2 v1 g THIRD SECOND Word (put_here v THIRD a (omega (arith, near)))
            (put_other v THIRD a SECOND (λ e. absurd (omega (arith, e))) ∙ second) can.0) (then_runs live procs
            (address_runs law live procs c from_first g m1 l3 v1 THIRD (Static (at + 4)) (a + 4) next)
            (run_store live procs c m1 k v2 g THIRD FIRST Word (put_here v1 THIRD (a + 4) (omega (arith, near)))
            (put_other v1 THIRD (a + 4) FIRST (λ e. absurd (omega (arith, e))) ∙ put_other v THIRD a FIRST (λ e. absurd (omega (arith, e))) ∙ first)
            may1)));
      }
    where
      front : (b i : ℕ) → Beside b i a 8 → Beside b i a 4
      front b i (inl h) = inl h
      front b i (inr h) = inr (omega (arith, h))

      behind : (b i : ℕ) → Beside b i a 8 → Beside b i (a + 4) 4
      behind b i (inl h) = inl (omega (arith, h))
      behind b i (inr h) = inr (omega (arith, h))

  -- ---- it leads to a text

  module _ (StandsFixed : (place : ℕ) → List ℕ → Type 0) (Homes : Home → Type 0) (apart : (g h : Home) → Homes g → Homes h → SameOrApart g h)
      (d : Blocks) (w : World) (away : (h : Home) → Homes h → Beside h.at (home_bytes h) a 12)
    where
      narrow : (b i : ℕ) → Beside b i a 12 → Beside b i a 8
      narrow b i (inl h) = inl h
      narrow b i (inr h) = inr (omega (arith, h))

      narrow_it : (m : Memory) → IsElsewhere own_data_at m a 12 → IsElsewhere own_data_at m a 8
      narrow_it m e = record { heap = less heap_at (length m.heap) e.heap; words = less own_data_at HEAP_SCRATCH e.words; room = less statics_at 4 e.room }
        where
          less : (b i : ℕ) → Beside b i a 12 → Beside b i a 8
          less b i h = narrow b i h

      pub record TextMade (m : Memory) (lines : List WordInstr) (v : Vars) (text : List ℕ) (most : ℕ) : Type 0 where
        pub memory : Memory
        pub holds : HomesHold StandsFixed Homes apart d w memory
        pub rewritten : IsRewritten m memory a 12
        pub text_at : TextAt w.heap d.stands memory a text
        pub vars : Vars
        pub same : AllSame v vars
        pub count : ℕ
        pub few : count ≤ most
        pub runs : Runs live procs count (state_at c m lines v g) (state_at c memory k vars g)

      wide : (m other : Memory) → IsRewritten m other a 8 → IsRewritten m other a 12
      wide m other x = record { sizes = x.sizes; beside = λ b i h. x.beside b i (narrow b i h) }

      -- whose bytes stand elsewhere, beside the handle
      pub text_made_at : (m : Memory) (x : HomesHold StandsFixed Homes apart d w m) (v : Vars) → Points c.base v (Static at) a → MayHave m a
          → IsElsewhere own_data_at m a 12 → (p : ℕ) (text : List ℕ) → p < 2 ^ 32 → length text < 2 ^ 32 → AreBytes text →
          bytes_at m p (length text) ≡ Some text
          → IsElsewhere own_data_at m p (length text) → Beside p (length text) a 8 → v FIRST ≡ Some p → v SECOND ≡ Some (length text)
          → TextMade m (handle_code at k) v text 4
      text_made_at m x v where_is can elsewhere p text small few are here aside beside first second =
          let y : HandleMade m v p (length text) = handle_made m v where_is x.sized can p (length text) small few first second in
          record {
            memory = y.memory;
            holds = homes_beside StandsFixed Homes apart d w m y.memory x y.sized a 8 y.rewritten (narrow_it m elsewhere)
                (λ h i. narrow h.at (home_bytes h) (away h i));
            rewritten = wide m y.memory y.rewritten;
            text_at = record {
              source = Outside p text;
              all = tt;
              bytes = refl;
              handle = y.handle;
              few = few;
              is = (
                are,
                small,
                y.rewritten.beside p (length text) beside ∙ here,
                elsewhere_kept m y.memory p (length text) y.rewritten.sizes.heap aside,
              );
            };
            vars = y.vars;
            same = y.same;
            count = 4;
            few = omega arith;
            runs = y.runs;
          }

      -- a character, which is put behind the handle
      pub letter_made : (m : Memory) (x : HomesHold StandsFixed Homes apart d w m) (v : Vars) → Points c.base v (Static at) a → MayHave m a
          → may_put m (a + 8) Byte ≡ true → IsElsewhere own_data_at m a 12 → (from letter : ℕ) → letter < 256 → v from ≡ Some letter → from ≢ FIRST
          → TextMade m (letter_code at from k) v (letter ∷ []) 7
      letter_made m x v where_is can may elsewhere from letter small is other =
          let m0 : Memory = with_number m (a + 8) Byte letter in
          let written = store_rewritten law m (a + 8) Byte letter x.sized may in
          let sized : Sized m0 = store_sized law m (a + 8) Byte letter x.sized may in
          let v1 : Vars = put v FIRST (a + 8) in
          let v2 : Vars = put v1 SECOND 1 in
          let next : a + 8 ≡ data_at + (at + 8) = omega (arith, where_is) in
          let l2 : List WordInstr = handle_code at k in
          let l1 : List WordInstr = Constant SECOND 1 ∷ l2 in
          let still : (b : ℕ) → may_put m0 b Word ≡ may_put m b Word
          = (λ (b : ℕ). ap (λ z. (b % 4 == 0) && z) (law.stores (as_state m) (as_state m0) b 4 written.sizes)) in
          let x0 : HomesHold StandsFixed Homes apart d w m0
          = homes_beside StandsFixed Homes apart d w m m0 x sized (a + 8) 1 written (last_of m elsewhere) (λ h i. last h.at (home_bytes h) (away h i)) in
          let y : TextMade m0 l2 v2 (letter ∷ []) 4
          = text_made_at m0 x0 v2 where_is (still a ∙ can.0, still (a + 4) ∙ can.1) (still_elsewhere m m0 written.sizes.heap elsewhere)
          (a + 8) (letter ∷ []) (omega (arith, near)) (omega arith) (small, tt)
          (store_here law m (a + 8) Byte letter x.sized may ∙ ap Some (one_byte letter small))
          (last_of m0 (still_elsewhere m m0 written.sizes.heap elsewhere)) (inr (omega arith))
          (put_other v1 SECOND 1 FIRST (λ e. absurd (omega (arith, e))) ∙ put_here v FIRST (a + 8) (omega (arith, near)))
          (put_here v1 SECOND 1 (omega arith)) in
          record {
            memory = y.memory;
            holds = y.holds;
            rewritten = record {
              sizes = sizes_more m m0 y.memory written.sizes y.rewritten.sizes;
              beside = λ b i h. y.rewritten.beside b i h ∙ written.beside b i (last b i h);
            };
            text_at = y.text_at;
            vars = y.vars;
            same = same_more v v1 y.vars (same_first v (a + 8)) (same_more v1 v2 y.vars (same_second v1 1) y.same);
            count = 3 + y.count;
            few = (let f = y.few in omega (arith, f));
            runs = then_runs live procs (then_runs live procs
                (address_runs law live procs c from_first g m (Store FIRST from Byte ∷ l1) v FIRST (Static (at + 8))
                (a + 8) next) (then_runs live procs
                (run_store live procs c m l1 v1 g FIRST from Byte (put_here v FIRST (a + 8) (omega (arith, near)))
                (put_other v FIRST (a + 8) from other ∙ is) may)
                (run_constant live procs c m0 l2 v1 g SECOND 1))) y.runs;
          }
        where
          last : (b i : ℕ) → Beside b i a 12 → Beside b i (a + 8) 1
          last b i (inl h) = inl (omega (arith, h))
          last b i (inr h) = inr (omega (arith, h))

          last_of : (m : Memory) → IsElsewhere own_data_at m a 12 → IsElsewhere own_data_at m (a + 8) 1
          last_of m e = record { heap = last heap_at (length m.heap) e.heap; words = last own_data_at HEAP_SCRATCH e.words; room = last statics_at 4 e.room }

          still_elsewhere : (m other : Memory) → length other.heap ≡ length m.heap → IsElsewhere own_data_at m a 12 → IsElsewhere own_data_at other a 12
          still_elsewhere m other long e = elsewhere_kept m other a 12 long e
