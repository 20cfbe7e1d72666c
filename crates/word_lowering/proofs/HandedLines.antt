-- A value is put where the places of the next call will be: what the code does.
use Rattle.std.proofs.Common.{◌≡◌, inl, inr, ℕ, suc, ◌+◌, ◌*◌, ◌%◌, ◌^◌, ◌<◌, ◌≤◌, List, ◌∷◌, Some, true, refl}
use Rattle.std.proofs.Common.{sym, ap, subst, ◌∙◌, arith}
use Rattle.std.specs.Prelude.{◌==◌}
use Rattle.std.proofs.lemmas.Bool.{eq-eqb, cond-true}
use Rattle.rv32_isa.specs.declared.micro_op.Size.TheVariants.{Word as whole}
use Rattle.nim_meaning.specs.Values.{Value, Number, Parts, Handle, Fixed, Ref, Resource, Gone, Vacant, bytes}
use Rattle.flat_code.specs.declared.block.BlockLine.{BlockLine}
use Rattle.word_code.specs.declared.word.TheConstants.{SPARE_ROOM}
use Rattle.word_code.specs.declared.word.WordInstr.{WordInstr}
use Rattle.word_code.specs.declared.word.WordInstr.TheVariants.{Place, Store}
use Rattle.word_code.specs.Memory.{Memory, with_number}
use Rattle.word_code.specs.Words.{Vars, put, from_label}
use Rattle.word_code.specs.RoutineTable.{Cell, LowWords}
use Rattle.word_code.proofs.ForCallers.{with_copied, put_here, Changed, span, span_is, copied_to, changed_word, Runs, at, run_place, run_store, then_runs}
use Rattle.word_code.proofs.ForCallers.{got}
use Rattle.word_lowering.specs.declared.homes.Home.{Home}
use Rattle.word_lowering.specs.declared.homes.Housed.{Housed}
use Rattle.word_lowering.specs.declared.homes.TheConstants.{FIRST, SECOND}
use Rattle.word_lowering.specs.declared.spots.Spot.TheVariants.{Held}
use Rattle.word_lowering.specs.Spots.{spot_of, handed, copied_here}
use Rattle.word_lowering.proofs.HeapKept.{SameHeap, heap_beside}
use Rattle.word_lowering.proofs.InMemory.{IsAt, bytes_whole, bytes_some, of_numbers, copied_there, HasWords}
use Rattle.word_lowering.proofs.OrdinalRuns.{AllSame}
use Rattle.word_lowering.proofs.Moves.{single_word, IsHigh, MaySpot, IsArea, words_of, same_first, same_more, points_same}
use Rattle.word_lowering.proofs.CallLabels.{past_address}
use Rattle.word_lowering.proofs.HandRuns.{hand_loop, handed_here}
use Rattle.word_lowering.proofs.Sites.{room, Site, next_base, word_of}
use Rattle.word_lowering.proofs.Scenes.{Points}
use Rattle.word_lowering.proofs.SitesApart.{InRange, SiteAt, site_at, next_whole}
use Rattle.word_lowering.proofs.Related.{Both, body_of, within, MemoryGood, IsClosed}
use Rattle.word_lowering.proofs.Lines.{Basis, all_procs, starts, IsGood, all_sites}
use Rattle.word_lowering.proofs.ShapeFacts.{never}
use Rattle.word_lowering.proofs.Sources.{area_by, Lying, lying_range, lying_area, lying_near, Source, held_in, letter_at, lies_at}
use Rattle.word_lowering.proofs.ReadFacts.{Read}
use Rattle.rv32_isa.specs.Image.{stack_at}

-- the label of its code is found in it
pub hand_label : (label bytes : ℕ) (home : Home) (n : ℕ) (k : List WordInstr)
    → from_label label (Place FIRST n ∷ copied_here label bytes home k) ≡ Some (hand_loop label k)
hand_label label bytes home n k = past_address label SECOND home _ ∙ cond-true (label == label) _ _ (eq-eqb label label refl)

module _ (x : Basis) (g : Both) (line : BlockLine) (rest : List BlockLine) (y : IsGood x (starts g line rest)) where
  abbrev sites : List Site
  sites = all_sites x g line rest y

  abbrev pub next_at : ℕ
  next_at = g.call.site.base + room (body_of g)

  -- memory there
  module _ (at_next n : ℕ) (whole_at : at_next % 4 ≡ 0) (small : at_next + n ≤ SPARE_ROOM) where
    spare_cell : (b : ℕ) → next_at + at_next ≤ b → b + 4 ≤ next_at + at_next + n → b % 4 ≡ 0 → Cell g.memory b
    spare_cell b low high is =
        let s = site_at x.table x.blocks sites g.call.site y.linked (inl refl) in
        y.memory.cells b is (inr (omega (arith, s.least, low), omega (arith, high, small)))

    pub spare_area : IsArea g.memory (next_at + at_next) n
    spare_area k le =
        let w = next_whole x.table x.blocks sites y.linked in
        area_by g.memory k (next_at + at_next) (omega (arith, w, whole_at)) (λ b low high is. spare_cell b low (omega (arith, high, le)) is)

    pub spare_near : next_at + at_next + n < 2 ^ 32
    spare_near = let r = x.within sites y.linked in omega (arith, r, small)

    pub spare_beyond : next_base sites ≤ next_at + at_next
    spare_beyond = omega arith

  -- what is true of memory, behind a change there
  pub memory_beyond : (m : Memory) (a n : ℕ) → Changed g.memory m a n → next_base sites ≤ a → MemoryGood x.table x.blocks sites x.first m
  memory_beyond m a n ch far = record {
    sized = ch.sized;
    statics = ch.sizes.statics ∙ y.memory.statics;
    heap = ch.sizes.heap ∙ y.memory.heap;
    bytes = ch.sizes.bytes y.memory.bytes;
    places = ap (λ n. stack_at + n) ch.sizes.stack ∙ y.memory.places;
    cells = λ b is open_word. ch.cells b (y.memory.cells b is open_word);
    texts = λ b k text. ch.beside b k (inl (below b k text.0)) ∙ y.memory.texts b k text;
  }
    where
      s : SiteAt x.table x.blocks (all_sites x g line rest y) g.call.site
      s = site_at x.table x.blocks (all_sites x g line rest y) g.call.site y.linked (inl refl)

      below : (b k : ℕ) → IsClosed x.table x.blocks b k → b + k ≤ a
      below b k (inl t) = omega (arith, s.least, far, t.1)
      below b k (inr t) = omega (arith, s.least, far, t.1)

  pub heap_beyond : (m : Memory) (a n : ℕ) → Changed g.memory m a n → next_base sites ≤ a → SameHeap g.memory m
  heap_beyond m a n ch far =
      let s = site_at x.table x.blocks sites g.call.site y.linked (inl refl) in
      let low = s.least in
      let most = y.memory.sized.heap_most in
      heap_beside g.memory m a n ch.sizes.statics ch.sizes.heap ch.beside (omega (arith, low, far)) (inl (omega (arith, low, far, most)))

  -- what the code does that puts a value there, before other code
  pub record Hands (lines k : List WordInstr) (v : Value) (a : ℕ) : Type 0 where
    pub vars : Vars
    pub memory : Memory
    pub same : AllSame g.call.vars vars
    pub changed : Changed g.memory memory a (bytes v)
    pub there : IsAt memory a v
    pub steps : ℕ
    pub some : 0 < steps
    pub few : steps ≤ 8 + 2 * bytes v
    pub runs : Runs x.live (all_procs x) steps (at (within x.table x.blocks g) g.memory lines g.call.vars g.words)
        (at (within x.table x.blocks g) memory k vars g.words)

  module _ (label at_next : ℕ) (whole_at : at_next % 4 ≡ 0) (k : List WordInstr) where
    -- the address, as the code has it
    abbrev a : ℕ
    a = g.call.site.base + (room (body_of g) + at_next)

    abbrev vars_at : Vars
    vars_at = put g.call.vars FIRST a

    to_place : (l : List WordInstr) → Runs x.live (all_procs x) 1
        (at (within x.table x.blocks g) g.memory (Place FIRST (room (body_of g) + at_next) ∷ l) g.call.vars g.words)
        (at (within x.table x.blocks g) g.memory l vars_at g.words)
    to_place l = run_place x.live (all_procs x) (within x.table x.blocks g) g.memory l g.call.vars g.words FIRST (room (body_of g) + at_next)

    -- a word
    hands_word : (v : Value) (u : ℕ) → MaySpot (Held u) v → HasWords v → g.call.vars u ≡ Some (single_word v)
        → at_next + bytes v ≤ SPARE_ROOM
        → Hands (Place FIRST (room (body_of g) + at_next) ∷ Store FIRST u whole ∷ k) k v a
    hands_word (Parts vs) u may small e le = absurd may
    hands_word (Handle n j) u may small e le = absurd may
    hands_word (Fixed text) u may small e le = absurd may
    hands_word (Ref object) u may small e le = absurd may
    hands_word (Resource all n) u may small e le = absurd may
    hands_word (Gone value final) u may small e le = absurd may
    hands_word Vacant u may small e le = absurd may
    hands_word (Number z) u may small e le =
        let near = spare_near at_next 4 whole_at le in
        let cell : Cell g.memory a = subst (Cell g.memory) (omega arith) (spare_area at_next 4 whole_at le 1 (omega arith)).0 in
        let v1 : Vars = put g.call.vars FIRST a in
        let same : AllSame g.call.vars v1 = same_first g.call.vars a in
        let held : v1 u ≡ Some (single_word (Number z)) = same.others u may ∙ e in
        let r1 : Runs x.live (all_procs x) 1 (at (within x.table x.blocks g) g.memory (Store FIRST u whole ∷ k) v1 g.words)
        (at (within x.table x.blocks g) (with_number g.memory a whole (single_word (Number z))) k v1 g.words)
        = run_store x.live (all_procs x) (within x.table x.blocks g) g.memory k v1 g.words FIRST u whole
        (got a (omega (arith, near))) held cell.may in
        record {
          vars = v1;
          memory = with_number g.memory a whole (single_word (Number z));
          same = same;
          changed = changed_word x.law g.memory a (single_word (Number z)) y.memory.sized cell small;
          there = put_here x.law g.memory a (single_word (Number z)) y.memory.sized cell.may small;
          steps = 2;
          some = omega arith;
          few = omega arith;
          runs = then_runs x.live (all_procs x) (to_place (Store FIRST u whole ∷ k)) r1;
        }

    -- word by word, whatever these are
    pub record HandsBits (lines : List WordInstr) (b n : ℕ) : Type 0 where
      pub vars : Vars
      pub memory : Memory
      pub same : AllSame g.call.vars vars
      pub changed : Changed g.memory memory a n
      pub low_words : LowWords g.memory b memory a n
      pub steps : ℕ
      pub some : 0 < steps
      pub few : steps ≤ 8 + 2 * n
      pub runs : Runs x.live (all_procs x) steps (at (within x.table x.blocks g) g.memory lines g.call.vars g.words)
          (at (within x.table x.blocks g) memory k vars g.words)

    pub hands_bits : (home : Home) → IsHigh home → (from : ℕ) → Points g.call.site.base g.call.vars home from → (n : ℕ) → n % 4 ≡ 0 → 4 ≤ n
        → Lying x sites y.linked from n → at_next + n ≤ SPARE_ROOM
        → from_label label (word_of x.table x.blocks (body_of g)).lines ≡ Some (hand_loop label k)
        → HandsBits (Place FIRST (room (body_of g) + at_next) ∷ copied_here label n home k) from n
    hands_bits home high from points n whole_n some_n lying le stands = by (words_of n whole_n some_n)
      where
        near : next_at + at_next + n < 2 ^ 32
        near = spare_near at_next n whole_at le

        by : (j : ℕ) × (n ≡ 4 * suc j) → HandsBits (Place FIRST (room (body_of g) + at_next) ∷ copied_here label n home k) from n
        by (j, long) =
            let to : ℕ = g.call.site.base + (room (body_of g) + at_next) in
            let v1 : Vars = put g.call.vars FIRST to in
            let same : AllSame g.call.vars v1 = same_first g.call.vars to in
            let small : from + n < 2 ^ 32 = lying_near x (all_sites x g line rest y) y.linked from n lying in
            let there = subst (λ b. IsArea g.memory b n) (omega arith) (spare_area at_next n whole_at le) (suc j) (omega (arith, long)) in
            let here = lying_area x (all_sites x g line rest y) y.linked g.memory from n y.memory lying (suc j) (omega (arith, long)) in
            let h = handed_here x.law x.live (all_procs x) (within x.table x.blocks g) g.words
            label k stands refl j g.memory to from home v1
            (got to (omega (arith, near)))
            (points_same x.law x.live (all_procs x) (within x.table x.blocks g) refl g.words g.call.vars v1 home from high same points)
            (omega (arith, near, long)) (omega (arith, small, long)) y.memory.sized there here in
            let c = copied_to x.law (suc j) g.memory to from y.memory.sized there here (inr (inr (apart to refl))) in
            let span_size = span_is (suc j) in
            record {
              vars = h.vars;
              memory = with_copied (suc j) g.memory to from;
              same = same_more g.call.vars v1 h.vars same h.same;
              changed = subst (Changed g.memory (with_copied (suc j) g.memory to from) to) (span_size ∙ sym long) c.changed;
              low_words = λ o inner is. c.same o (omega (arith, inner, long, span_size)) is;
              steps = 1 + (4 + 6 * suc j);
              some = omega arith;
              few = omega (arith, long);
              runs = then_runs x.live (all_procs x) (to_place (copied_here label n home k))
                  (subst (λ b. Runs x.live (all_procs x) (4 + 6 * suc j)
                  (at (within x.table x.blocks g) g.memory (copied_here label b home k) v1 g.words)
                  (at (within x.table x.blocks g) (with_copied (suc j) g.memory to from) k h.vars g.words)) (sym long) h.runs);
            }
          where
            -- all places are before it
            apart : (to : ℕ) → to ≡ g.call.site.base + (room (body_of g) + at_next) → from + span (suc j) ≤ to
            apart to e = below (lying_range x (all_sites x g line rest y) y.linked from n lying)
              where
                s : SiteAt x.table x.blocks (all_sites x g line rest y) lying.site
                s = site_at x.table x.blocks (all_sites x g line rest y) lying.site y.linked lying.among

                here : SiteAt x.table x.blocks (all_sites x g line rest y) g.call.site
                here = site_at x.table x.blocks (all_sites x g line rest y) g.call.site y.linked (inl refl)

                below : InRange x.table x.blocks lying.site from n → from + span (suc j) ≤ to
                below (inl r) = let most = x.small in omega (arith, r.2, here.least, most, long, span_is (suc j), e)
                below (inr r) = omega (arith, r.1, s.most, long, span_is (suc j), e)

    -- those of a value
    hands_words : (v : Value) → HasWords v → (home : Home) → IsHigh home → (from : ℕ) → Points g.call.site.base g.call.vars home from → IsAt g.memory from v
        → Lying x sites y.linked from (bytes v) → at_next + bytes v ≤ SPARE_ROOM
        → from_label label (word_of x.table x.blocks (body_of g)).lines ≡ Some (hand_loop label k)
        → Hands (Place FIRST (room (body_of g) + at_next) ∷ copied_here label (bytes v) home k) k v a
    hands_words v small_words home high from points is_at lying le stands =
        let r = hands_bits home high from points (bytes v) (bytes_whole v) (bytes_some v (of_numbers g.memory from v is_at)) lying le stands in
        record {
          vars = r.vars;
          memory = r.memory;
          same = r.same;
          changed = r.changed;
          there = copied_there g.memory r.memory from a v small_words r.low_words is_at;
          steps = r.steps;
          some = r.some;
          few = r.few;
          runs = r.runs;
        }

    -- a value that is somewhere
    pub hands_value : (from : Housed) (v : Value) → Read x g line rest y true from v → at_next + bytes v ≤ SPARE_ROOM
        → from_label label (word_of x.table x.blocks (body_of g)).lines
        ≡ from_label label (Place FIRST (room (body_of g) + at_next) ∷ handed label from.bytes (spot_of from) k)
        → Hands (Place FIRST (room (body_of g) + at_next) ∷ handed label from.bytes (spot_of from) k) k v a
    hands_value from v r le found = by r.source
      where
        by : Source x (all_sites x g line rest y) y.linked g.memory g.call.site.base g.call.vars true from v
            → Hands (Place FIRST (room (body_of g) + at_next) ∷ handed label from.bytes (spot_of from) k) k v
            (g.call.site.base + (room (body_of g) + at_next))
        by (held_in u spot may e) =
            subst (λ p. Hands (Place FIRST (room (body_of g) + at_next) ∷ handed label from.bytes p k) k v
            (g.call.site.base + (room (body_of g) + at_next))) (sym spot) (hands_word v u may r.small e le)
        by (lies_at home spot high b points is_at readable is_all) =
            let code_is : handed label from.bytes (spot_of from) k ≡ copied_here label
            (bytes v) home k
            = ap (λ n. handed label n (spot_of from) k) r.size
            ∙ ap (λ p. handed label (bytes v) p k) spot in
            subst (λ l. Hands (Place FIRST (room (body_of g) + at_next) ∷ l) k v (g.call.site.base + (room (body_of g) + at_next))) (sym code_is)
            (hands_words v r.small home high b points is_at (is_all refl).0 le
            (found ∙ ap (λ l. from_label label (Place FIRST (room (body_of g) + at_next) ∷ l)) code_is
            ∙ hand_label label (bytes v) home (room (body_of g) + at_next) k))
        by (letter_at home spot high b points is_at near single no_all) = never (sym no_all)
