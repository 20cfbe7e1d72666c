-- What has more than one word is moved as bits, whatever it holds, from where it lies to a home: what was stored there is stored here then.
use Rattle.std.proofs.Common.{◌≡◌, inl, ℕ, suc, ◌+◌, ◌*◌, ◌%◌, ◌^◌, ◌≤◌, List, ◌∷◌, Ok, true, false, refl, sym, ap, ap₂, subst, ◌∙◌, arith, ◌<◌}
use Rattle.nim_meaning.specs.Values.{Value}
use Rattle.flat_code.specs.Scene.{Temps}
use Rattle.flat_code.specs.Shapes.{Shape, has_shape}
use Rattle.flat_code.specs.declared.block.BlockLine.{BlockLine}
use Rattle.word_code.specs.declared.word.WordInstr.{WordInstr}
use Rattle.word_code.specs.Memory.{Memory}
use Rattle.word_code.specs.RoutineTable.{Area, Separate, low, LowWords}
use Rattle.word_code.specs.Words.{Vars, no_words, put}
use Rattle.word_code.proofs.ForCallers.{Changed, Runs, at, got, then_runs, Within}
use Rattle.word_lowering.specs.declared.homes.TheConstants.{FIFTH, FIRST, SECOND, THIRD}
use Rattle.word_lowering.specs.declared.homes.Home.{Home}
use Rattle.word_lowering.specs.declared.homes.Housed.{Housed}
use Rattle.word_lowering.specs.declared.spots.Spot.TheVariants.{Lies}
use Rattle.word_lowering.specs.Layouts.{holds_address}
use Rattle.word_lowering.specs.Spots.{address, copied, moved, moves, spot_of}
use Rattle.word_lowering.proofs.BlocksBorn.{later_same}
use Rattle.word_lowering.proofs.Gets.{Changes, high_variable, memory_kept, heap_kept}
use Rattle.word_lowering.proofs.Keeping.{somewhere, outside_still, points_there, spot_memory, to_home, call}
use Rattle.word_lowering.proofs.Lines.{Basis, IsGood, all_procs, all_sites, data_there, reaches, starts}
use Rattle.word_lowering.proofs.Moves.{IsBehind, address_runs, points_behind, same_first, same_more, same_second, same_third, words_of, IsArea}
use Rattle.word_lowering.proofs.OrdinalRuns.{AllSame, put_other}
use Rattle.word_lowering.proofs.Related.{Both, routines, store_of, store_with, within, MemoryGood}
use Rattle.word_lowering.proofs.RoutineCalls.{awaiting, copy_called}
use Rattle.word_lowering.proofs.Scenes.{IsItem, IsThere, Name, Points, StoredIn, address_of, asks_shape, house, is_fixed, looked}
use Rattle.word_lowering.proofs.ShapeFacts.{shape_bytes}
use Rattle.word_lowering.proofs.Sites.{InMemory, Site, next_base, Linked}
use Rattle.word_lowering.proofs.SitesApart.{IsPlace, houses}
use Rattle.word_lowering.proofs.Sources.{Lying, Readable, lying_all, lying_area, lying_near}
use Rattle.word_lowering.proofs.StoredLater.{CarriesSmall, stored_small}
use Rattle.heap_memory.specs.declared.numbers.TheConstants.{HEAP_DATA}

-- words that are copied are carried, where they are below 2^32
pub low_carried : (m other : Memory) (a b n : ℕ) → LowWords m a other b n → CarriesSmall m other a b n
low_carried m other a b n same o w within whole small reads =
    same o within whole ∙ ap low reads ∙ ap Ok (let e : w % 2 ^ 32 ≡ w = omega (arith, small) in e)

-- so many bytes move from one home to another one
module _ (x : Basis) (sites : List Site) (linked : Linked x.table x.blocks sites) (c : Within) (from_first : c.proc.data_from ≡ HEAP_DATA) (words : Vars)
    (m : Memory) (good : MemoryGood x.table x.blocks sites x.first m) (k : List WordInstr) (vars : Vars) where
  pub record BytesMoved (lines : List WordInstr) (a b n : ℕ) : Type 0 where
    pub vars_then : Vars
    pub memory : Memory
    pub kept : AllSame vars vars_then
    pub fifth : vars_then FIFTH ≡ vars FIFTH
    pub changed : Changed m memory a n
    pub same : LowWords m b memory a n
    pub steps : ℕ
    pub some : 0 < steps
    pub few : steps ≤ 10 + 2 * n
    pub runs : Runs x.live (all_procs x) steps (at c m lines vars words) (at (awaiting c FIRST) memory k vars_then no_words)

  pub bytes_moved : (to from : Home) (a b n : ℕ) → IsBehind from → Points c.base vars to a → Points c.base vars from b → n % 4 ≡ 0 → 4 ≤ n
      → IsArea m a n → a + n < 2 ^ 32 → Readable x sites linked m b n → Separate a b n → BytesMoved (moved false n (Lies to) (Lies from) k) a b n
  bytes_moved to from a b n high points points_from whole some area near readable apart = by (words_of n whole some)
    where
      by : (j : ℕ) × (n ≡ 4 * suc j) → BytesMoved (moved false n (Lies to) (Lies from) k) a b n
      by (j, is) =
          let near_from = readable.near in
          let there_area : Area m a (suc j) = area (suc j) (omega (arith, is)) in
          let here_area : Area m b (suc j) = readable.area (suc j) (omega (arith, is)) in
          let v1 : Vars = put vars FIRST a in
          let v2 : Vars = put v1 SECOND b in
          let k2 : List WordInstr = copied false n k in
          let r1 : Runs x.live (all_procs x) 1 (at c m (address FIRST to ∷ address SECOND from ∷ k2) vars words) (at c m (address SECOND from ∷ k2) v1 words)
          = address_runs x.law x.live (all_procs x) c from_first words m (address SECOND from ∷ k2) vars FIRST to a points in
          let r2 : Runs x.live (all_procs x) 1 (at c m (address SECOND from ∷ k2) v1 words) (at c m k2 v2 words)
          = address_runs x.law x.live (all_procs x) c from_first words m k2 v1 SECOND from b
          (points_behind x.law x.live (all_procs x) c from_first words vars a from b high points_from) in
          let r3 = copy_called x.law x.live (all_procs x) (routines x.table x.blocks) x.runtimes.others.statics (reaches x) c k j m a b v2 words
          (got a (omega (arith, near))) (got b (omega (arith, near_from))) (omega (arith, near, is)) (omega (arith, near_from, is)) good.sized
          (data_there x sites m good) there_area here_area (subst (Separate a b) is apart) in
          let copy = r3.is in
          let few = r3.few in
          let w : Vars = put (put v2 THIRD (4 * suc j)) FIRST r3.word in
          record {
            vars_then = w;
            memory = r3.memory;
            kept = same_more vars v1 w (same_first vars a) (same_more v1 v2 w (same_second v1 b)
                (same_more v2 (put v2 THIRD (4 * suc j)) w (same_third v2 (4 * suc j)) (same_first (put v2 THIRD (4 * suc j)) r3.word)));
            fifth = put_other (put v2 THIRD (4 * suc j)) FIRST r3.word FIFTH (λ e. absurd (omega (arith, e)))
                ∙ put_other v2 THIRD (4 * suc j) FIFTH (λ e. absurd (omega (arith, e))) ∙ put_other v1 SECOND b FIFTH (λ e. absurd (omega (arith, e)))
                ∙ put_other vars FIRST a FIFTH (λ e. absurd (omega (arith, e)));
            changed = subst (Changed m r3.memory a) (sym is) copy.changed;
            same = subst (LowWords m b r3.memory a) (sym is) copy.same;
            steps = 2 + (4 + r3.steps);
            some = omega arith;
            few = omega (arith, is, few);
            runs = then_runs x.live (all_procs x) (then_runs x.live (all_procs x) r1 r2)
                (subst (λ i. Runs x.live (all_procs x) (4 + r3.steps) (at c m (copied false i k) v2 words)
                (at (awaiting c FIRST) r3.memory k w no_words)) (sym is) r3.runs);
          }

module _ (x : Basis) (g : Both) (line : BlockLine) (rest : List BlockLine) (y : IsGood x (starts g line rest)) where
  abbrev sites : List Site
  sites = all_sites x g line rest y

  abbrev site : Site
  site = g.call.site

  -- a range of memory that may be read, to which a home points
  pub record Bits (from : Home) (b n : ℕ) : Type 0 where
    pub high : IsBehind from
    pub points : Points g.call.site.base g.call.vars from b
    pub readable : Readable x sites y.linked g.memory b n

  abbrev start_of : Name → ℕ
  start_of f = address_of g.call.site.base (house g.call.site f).home

  -- they are at the home of a name then
  pub record Copied (lines k : List WordInstr) (f : Name) (b most : ℕ) : Type 0 where
    pub changes : Changes x g line rest y lines k f most
    pub same : LowWords g.memory b changes.memory (start_of f) (house g.call.site f).bytes

  pub bits_moved : (f : Name) → IsThere site f → (inside : InMemory (house site f).home) → holds_address (house site f) ≡ false
      → (house site f).bytes % 4 ≡ 0 → 4 ≤ (house site f).bytes
      → (from : Housed) (other : Home) → spot_of from ≡ Lies other → from.is_word ≡ false → from.bytes ≡ (house site f).bytes
      → (b : ℕ) → Bits other b (house site f).bytes → Separate (start_of f) b (house site f).bytes
      → (k : List WordInstr) → Copied (moves (house site f) from k) k f b (10 + 2 * (house site f).bytes)
  bits_moved f there inside plain whole some from other from_is no_word size b bits apart k =
      let n : ℕ = (house g.call.site f).bytes in
      let a : ℕ = start_of f in
      let home : Home = (house g.call.site f).home in
      let m : Memory = g.memory in
      let lying : Lying x (all_sites x g line rest y) y.linked (start_of f) (house g.call.site f).bytes
      = lying_all x (all_sites x g line rest y) y.linked g.call.site f (house g.call.site f).bytes (inl refl) there inside refl in
      let r = bytes_moved x (all_sites x g line rest y) y.linked (within x.table x.blocks g) refl g.words m y.memory k g.call.vars home other a b n bits.high
      (points_there g.call.site.base g.call.vars home inside) bits.points whole some
      (lying_area x (all_sites x g line rest y) y.linked m a n y.memory lying) (lying_near x (all_sites x g line rest y) y.linked a n lying)
      bits.readable apart in
      let code_is : moves (house g.call.site f) from k ≡ moved false n (Lies home) (Lies other) k
      = ap₂ (λ p q. moved from.is_word from.bytes p q k) (spot_memory (house g.call.site f) plain inside) from_is
      ∙ ap₂ (λ w i. moved w i (Lies (house g.call.site f).home) (Lies other) k) no_word size in
      record {
        changes = record {
          vars = r.vars_then;
          memory = r.memory;
          words = no_words;
          awaits = FIRST;
          good = memory_kept x (all_sites x g line rest y) y.linked m r.memory a n y.memory r.changed lying;
          heap = heap_kept x (all_sites x g line rest y) y.linked m r.memory a n y.memory r.changed lying;
          edit = somewhere a n (outside_still (IsPlace x.table x.blocks) (next_base (all_sites x g line rest y)) m r.memory a n r.changed.outside) (inl refl)
              there inside (omega arith) (omega arith);
          variables = λ h u is_there ne at_home. r.kept.others u (high_variable x g line rest y h u is_there at_home);
          left = r.kept.left;
          steps = r.steps;
          some = r.some;
          few = r.few;
          runs = subst (λ l. Runs x.live (all_procs x) r.steps (at (within x.table x.blocks g) m l g.call.vars g.words)
              (at (awaiting (within x.table x.blocks g) FIRST) r.memory k r.vars_then no_words)) (sym code_is) r.runs;
        };
        same = r.same;
      }

  -- what was stored there is at the home
  pub item_moved : {lines k : List WordInstr} {b most : ℕ} (f : Name) (v : Value) (temps : Temps) → IsThere site f → InMemory (house site f).home
      → holds_address (house site f) ≡ false → (asks_shape f (looked x.table site f) ≡ true → has_shape v (looked x.table site f) ≡ true)
      → StoredIn (store_of g) b (looked x.table site f) v → (r : Copied lines k f b most)
      → IsItem x.table (store_with g r.changes.memory) (call site temps r.changes.vars) f v
  item_moved {lines} {k} {b} {most} f v temps there inside plain shaped stored r =
      let s : Shape = looked x.table g.call.site f in
      let size : shape_bytes s ≡ (house g.call.site f).bytes = (houses x.table x.blocks g.call.site f y.linked.0 there).bytes in
      record {
        there = there;
        plain = plain;
        shaped = shaped;
        at = to_home (store_with g r.changes.memory) g.call.site.base r.changes.vars s (house g.call.site f) v plain inside
            (stored_small (is_fixed g.ground) g.ground.blocks g.ground.blocks (later_same g.ground.blocks) g.memory r.changes.memory b (start_of f) s v
            (low_carried g.memory r.changes.memory b (start_of f) (shape_bytes s)
            (subst (LowWords g.memory b r.changes.memory (start_of f)) (sym size) r.same)) stored);
      }
