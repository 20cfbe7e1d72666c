-- What is true behind code that writes: bytes beside all places and texts may be others.
use Rattle.std.proofs.Common.{◌≡◌, inl, inr, ℕ, suc, ◌+◌, ◌*◌, ◌%◌, ◌≤◌, List, [], ◌∷◌, ◌++◌, length, map, Err, refl, sym, ap, subst, ◌∙◌}
use Rattle.std.proofs.Common.{arith, length-append}
use Rattle.std.specs.Prelude.{◌==◌, ◌&&◌, if◌then◌else◌}
use Rattle.arc_base.specs.Event.{writes}
use Rattle.arc_base.specs.declared.outside.Stream.{Stream}
use Rattle.arc_base.specs.declared.outside.Stream.TheVariants.{Out}
use Rattle.rv32_isa.specs.declared.micro_op.Size.TheVariants.{Word}
use Rattle.rv32_isa.specs.declared.machine.FaultKind.TheVariants.{Misaligned}
use Rattle.rv32_isa.specs.Steps.{number_of}
use Rattle.nim_meaning.specs.Deeds.{Answers}
use Rattle.flat_code.specs.declared.block.BlockLine.{BlockLine}
use Rattle.flat_code.specs.Scene.{Passes, Temps}
use Rattle.word_code.specs.declared.routine.TheConstants.{SCRATCH_BYTES}
use Rattle.word_code.specs.declared.word.WordInstr.{WordInstr}
use Rattle.word_code.specs.Memory.{Memory, as_state, number_at}
use Rattle.word_code.specs.RoutineTable.{Beside, Cell, IsRewritten}
use Rattle.word_code.specs.Words.{Vars}
use Rattle.word_code.proofs.ForCallers.{at, none, on, AlwaysSteps}
use Rattle.word_lowering.specs.Lowered.{data_at}
use Rattle.word_lowering.specs.declared.handed.TheConstants.{LEFT_HANDLE_AT}
use Rattle.word_lowering.specs.declared.texts.TheConstants.{FIXED_BYTES}
use Rattle.word_lowering.proofs.HeapKept.{SameHeap, heap_same, heap_more, heap_beside}
use Rattle.word_lowering.proofs.Gets.{SameTemps, high_variable, kept_temps, same_temps}
use Rattle.word_lowering.proofs.Keeping.{AmongCalls, aside, worlds_same}
use Rattle.word_lowering.proofs.Lines.{Basis, IsGood, Settles, all_sites, changed, good_changed, low_past, lower, stands_next, starts}
use Rattle.word_lowering.proofs.Moves.{all_same, same_more}
use Rattle.word_lowering.proofs.OrdinalRuns.{AllSame}
use Rattle.word_lowering.proofs.Related.{Both, IsClosed, IsOpen, IsText, MemoryGood, StandAt, body_of, called_by, low, routines, within, sites_of}
use Rattle.word_lowering.proofs.RoutineCalls.{awaiting}
use Rattle.word_lowering.proofs.Scenes.{Call, of_value, site_of}
use Rattle.word_lowering.proofs.Settling.{code_here, code_next}
use Rattle.word_lowering.proofs.Sites.{AmongSites, Site, data_end}
use Rattle.word_lowering.proofs.SitesApart.{IsPlace, site_at}
use Rattle.rv32_isa.specs.Image.{heap_at, stack_at}

-- what is true where bytes beside all places and texts are others
module _ (x : Basis) (least : FIXED_BYTES ≤ data_end x.table x.blocks) (sites : List Site) where
  pub record IsTold (m m' : Memory) : Type 0 where
    pub good : MemoryGood x.table x.blocks sites x.first m'
    pub heap : SameHeap m m'
    pub places : (a : ℕ) → IsPlace x.table x.blocks a → number_at m' a Word ≡ number_at m a Word

  pub told_more : (m m' m'' : Memory) → IsTold m m' → IsTold m' m'' → IsTold m m''
  told_more m m' m'' s t = record { good = t.good; heap = heap_more m m' m'' s.heap t.heap; places = λ a h. t.places a h ∙ s.places a h }

  pub told_none : (m : Memory) → MemoryGood x.table x.blocks sites x.first m → IsTold m m
  told_none m good = record { good = good; heap = heap_same m; places = λ a h. refl }

  module _ (m m' : Memory) (good : MemoryGood x.table x.blocks sites x.first m) where
    told_beside : (at n : ℕ) → IsRewritten m m' at n → ((a : ℕ) → IsPlace x.table x.blocks a → Beside a 4 at n)
        → ((b k : ℕ) → IsText x.table x.blocks b k → Beside b k at n) → data_at ≤ at → at + n ≤ heap_at → IsTold m m'
    told_beside at n new place text behind before = record {
      good = record {
        sized = x.law.regions (as_state m) (as_state m') good.sized new.sizes;
        statics = new.sizes.statics ∙ good.statics;
        heap = new.sizes.heap ∙ good.heap;
        bytes = new.sizes.bytes good.bytes;
        places = ap (λ n. stack_at + n) new.sizes.stack ∙ good.places;
        cells = λ a whole h. cell a (place a (open_place a h)) (good.cells a whole h);
        texts = λ b k h. new.beside b k (text b k h) ∙ good.texts b k h;
      };
      heap = heap_beside m m' at n new.sizes.statics new.sizes.heap new.beside behind (inr before);
      places = λ a h. word_still a (place a h);
    }
      where
        word_still : (a : ℕ) → Beside a 4 at n → number_at m' a Word ≡ number_at m a Word
        word_still a h = ap (λ o. if a % 4 == 0 then number_of o else Err Misaligned) (new.beside a 4 h)

        cell : (a : ℕ) → Beside a 4 at n → Cell m a → Cell m' a
        cell a h c = record {
          may = ap (λ b. (a % 4 == 0) && b) (x.law.stores (as_state m) (as_state m') a 4 new.sizes) ∙ c.may;
          word = c.word;
          reads = word_still a h ∙ c.reads;
        }

        open_place : (a : ℕ) → IsOpen x.table x.blocks sites a → IsPlace x.table x.blocks a
        open_place a (inl h) = inl h
        open_place a (inr h) = inr h.0

    -- the byte of a character
    pub told_letter : IsRewritten m m' data_at 1 → IsTold m m'
    told_letter new = told_beside data_at 1 new place (λ b k h. text b k h.0) (omega arith) (omega arith)
      where
        place : (a : ℕ) → IsPlace x.table x.blocks a → Beside a 4 data_at 1
        place a (inl h) = inr (omega (arith, h.0))
        place a (inr h) = inr (omega (arith, h))

        text : (b k : ℕ) → IsClosed x.table x.blocks b k → Beside b k data_at 1
        text b k (inl h) = inr (omega (arith, h.0))
        text b k (inr h) = inr (omega (arith, h.0, least))

    -- a handle that is made for an operand, with a character behind it
    pub told_handle : (from : ℕ) → LEFT_HANDLE_AT ≤ from → from + 12 ≤ FIXED_BYTES → IsRewritten m m' (data_at + from) 12 → IsTold m m'
    told_handle from low high new =
        told_beside (data_at + from) 12 new place (λ b k h. text b k h.0) (omega arith) (omega (arith, high))
      where
        place : (a : ℕ) → IsPlace x.table x.blocks a → Beside a 4 (data_at + from) 12
        place a (inl h) = inr (omega (arith, h.0, high))
        place a (inr h) = inr (omega (arith, h, high))

        text : (b k : ℕ) → IsClosed x.table x.blocks b k → Beside b k (data_at + from) 12
        text b k (inl h) = inl (omega (arith, h.1, low))
        text b k (inr h) = inr (omega (arith, h.0, least, high))

    -- those that routines may change
    pub told_scratch : IsRewritten m m' (routines x.table x.blocks) SCRATCH_BYTES → IsTold m m'
    told_scratch new = told_beside (routines x.table x.blocks) SCRATCH_BYTES new place (λ b k h. h.1) (omega arith) (let d = x.data_most in omega (arith, d))
      where
        place : (a : ℕ) → IsPlace x.table x.blocks a → Beside a 4 (routines x.table x.blocks) SCRATCH_BYTES
        place a (inl h) = let g = x.globals_inside in inl (omega (arith, h.1, g))
        place a (inr h) = let d = x.data_most in inr (omega (arith, h, d))

-- texts one after another
pub writes_both : (stream : Stream) (a b : List ℕ) → writes stream (a ++ b) ≡ writes stream a ++ writes stream b
writes_both stream [] b = refl
writes_both stream (c ∷ a) b = ap (λ es. writes stream (c ∷ []) ++ es) (writes_both stream a b)

module _ (x : Basis) (least : FIXED_BYTES ≤ data_end x.table x.blocks) (g : Both) (line : BlockLine) (rest : List BlockLine)
    (y : IsGood x (starts g line rest)) where
  -- Code that writes a text, which so many operands give: it changes no more than words for what comes between, and bytes beside all places.
  pub record Tells (parts : ℕ) (lines k : List WordInstr) (text : List ℕ) : Type 0 where
    pub vars : Vars
    pub same : AllSame g.call.vars vars
    pub memory : Memory
    pub told : IsTold x least (sites_of g) g.memory memory
    pub words : Vars
    pub awaits : ℕ
    pub count : ℕ
    pub few : count ≤ 40 * parts + 16 * length text
    pub steps : AlwaysSteps (lower x) count (at (within x.table x.blocks g) g.memory lines g.call.vars g.words) (writes Out text) count
        (at (awaiting (within x.table x.blocks g) awaits) memory k vars words)

  -- nothing
  pub none_tells : (parts : ℕ) (k : List WordInstr) → Tells parts k k []
  none_tells parts k = record {
    vars = g.call.vars;
    same = all_same g.call.vars;
    memory = g.memory;
    told = told_none x least (sites_of g) g.memory y.memory;
    words = g.words;
    awaits = g.awaits;
    count = 0;
    few = omega arith;
    steps = none (lower x) (at (within x.table x.blocks g) g.memory k g.call.vars g.words);
  }

  pub good_told : (after : List BlockLine) (temps : Temps) → SameTemps x g line rest y temps → (vars words : Vars) (awaits : ℕ) (memory : Memory)
      → IsTold x least (sites_of g) g.memory memory → AllSame g.call.vars vars → StandAt x.table x.blocks (body_of g) after
      → IsGood x (changed g after temps vars memory words awaits g.world)
  good_told after temps same_at vars words awaits memory told same stand =
      good_changed x g line rest y after above (of_value 0) temps vars memory words awaits g.world told.good told.heap (refl, refl) (aside told.places)
      (worlds_same x.table x.blocks x.small (all_sites x g line rest y) y.linked above (of_value 0) g.world)
      (kept_temps x g line rest y above (of_value 0) temps vars same_at (λ h u other away home. same.others u (high_variable x g line rest y h u other home))
      same.left)
      (λ e. absurd (omega (arith, e)))
      (λ c from i e. absurd (too_high c i e)) y.frames y.levels stand
    where
      -- the place of no call
      above : Site
      above = record g.call.site { level = suc g.call.site.level }

      too_high : (c : Call) → AmongCalls c (map called_by g.waiting) → c.site.level ≡ suc g.call.site.level → ⊥
      too_high c i e =
          let z = site_at x.table x.blocks (map site_of (map called_by g.waiting)) c.site y.linked.5 (sites_among (map called_by g.waiting) c i) in
          let l = z.level in let m = y.linked.2 in omega (arith, l, m, e)
        where
          sites_among : (cs : List Call) (c : Call) → AmongCalls c cs → AmongSites c.site (map site_of cs)
          sites_among [] c i = absurd i
          sites_among (d ∷ cs) c (inl e) = inl (ap site_of e)
          sites_among (d ∷ cs) c (inr i) = inr (sites_among cs c i)

  -- all that is done
  pub tells_settles : (temps : Temps) → SameTemps x g line rest y temps → (parts : ℕ) (text : List ℕ)
      → Tells parts (code_here x g line rest y) (code_next x g line rest y) text → (work : ℕ) → parts + length text ≤ work →
      Settles x (starts g line rest) rest (Passes (Answers (writes Out text) work temps g.world))
  tells_settles temps same_at parts text s work enough =
      let behind : Both = changed g rest temps s.vars s.memory s.words s.awaits g.world in
      let good = good_told rest temps same_at s.vars s.words s.awaits s.memory s.told s.same (stands_next x.table x.blocks (body_of g) line rest y.stands) in
      λ before. let r = s.steps.by x.fresh before in (
        (r.0, low_past x (line ∷ rest) behind),
        s.count,
        record { work = r.1.work; within = (let h = r.1.within in let f = s.few in omega (arith, h, f, enough)); by = r.1.by },
        (inl (behind, good, r.0), refl, refl, λ waits. refl),
        inr (omega arith),
      )

-- ---- one text after another

module _ (x : Basis) (least : FIXED_BYTES ≤ data_end x.table x.blocks) (g : Both) (line : BlockLine) (rest : List BlockLine)
    (y : IsGood x (starts g line rest)) (parts : ℕ) (lines middle : List WordInstr) (a : List ℕ)
    (t : Tells x least g line rest y parts lines middle a) where
  -- where the first is written
  abbrev pub then_at : Both
  then_at = changed g rest g.call.temps t.vars t.memory t.words t.awaits g.world

  pub then_good : IsGood x (starts then_at line rest)
  then_good = good_told x least g line rest y (line ∷ rest) g.call.temps (same_temps x g line rest y) t.vars t.words t.awaits t.memory t.told t.same y.stands

  pub then_tells : (more : ℕ) (k : List WordInstr) (b : List ℕ) → Tells x least then_at line rest then_good more middle k b
      → Tells x least g line rest y (parts + more) lines k (a ++ b)
  then_tells more k b s =
      let f = t.few in
      let h = s.few in
      let long = length-append a b in
      record {
        vars = s.vars;
        same = same_more g.call.vars t.vars s.vars t.same s.same;
        memory = s.memory;
        told = told_more x least (sites_of g) g.memory t.memory s.memory t.told s.told;
        words = s.words;
        awaits = s.awaits;
        count = t.count + s.count;
        few = omega (arith, f, h, long);
        steps = subst (λ es. AlwaysSteps (lower x) (t.count + s.count) (at (within x.table x.blocks g) g.memory lines g.call.vars g.words) es
            (t.count + s.count)
            (at (awaiting (within x.table x.blocks g) s.awaits) s.memory k s.vars s.words)) (sym (writes_both Out a b)) (on (lower x) t.steps s.steps);
      }
