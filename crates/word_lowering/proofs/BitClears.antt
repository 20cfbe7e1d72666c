-- What has more than one word becomes zeros, whatever it holds.
use Rattle.std.proofs.Common.{◌≡◌, inl, ℕ, suc, ◌+◌, ◌*◌, ◌%◌, ◌≤◌, List, ◌∷◌, false, refl, sym, ap₂, subst, arith}
use Rattle.flat_code.specs.declared.block.BlockLine.{BlockLine}
use Rattle.word_code.specs.declared.word.WordInstr.{WordInstr}
use Rattle.word_code.specs.Memory.{Memory}
use Rattle.word_code.specs.RoutineTable.{Area, ZeroWords}
use Rattle.word_code.specs.Words.{Vars, no_words, put}
use Rattle.word_code.proofs.ForCallers.{Changed, Runs, at, got, then_runs}
use Rattle.word_lowering.specs.declared.homes.TheConstants.{FIRST, SECOND}
use Rattle.word_lowering.specs.declared.homes.Home.{Home}
use Rattle.word_lowering.specs.declared.spots.Spot.TheVariants.{Lies}
use Rattle.word_lowering.specs.Layouts.{holds_address}
use Rattle.word_lowering.specs.Spots.{address, cleared, clears, zeros}
use Rattle.word_lowering.proofs.Gets.{Changes, high_variable, memory_kept, heap_kept}
use Rattle.word_lowering.proofs.Keeping.{somewhere, outside_still, points_there, spot_memory}
use Rattle.word_lowering.proofs.Lines.{Basis, IsGood, all_procs, all_sites, data_there, reaches, starts}
use Rattle.word_lowering.proofs.Moves.{address_runs, same_first, same_more, same_second, words_of}
use Rattle.word_lowering.proofs.OrdinalRuns.{AllSame}
use Rattle.word_lowering.proofs.Related.{Both, routines, within}
use Rattle.word_lowering.proofs.RoutineCalls.{awaiting, clear_called}
use Rattle.word_lowering.proofs.Scenes.{IsThere, Name, address_of, house}
use Rattle.word_lowering.proofs.Sites.{InMemory, Site, next_base}
use Rattle.word_lowering.proofs.SitesApart.{IsPlace}
use Rattle.word_lowering.proofs.Sources.{Lying, lying_all, lying_area, lying_near}

module _ (x : Basis) (g : Both) (line : BlockLine) (rest : List BlockLine) (y : IsGood x (starts g line rest)) where
  abbrev site : Site
  site = g.call.site

  abbrev start_of : Name → ℕ
  start_of f = address_of g.call.site.base (house g.call.site f).home

  -- zeros are at the home of a name then
  pub record Zeroed (lines k : List WordInstr) (f : Name) (most : ℕ) : Type 0 where
    pub changes : Changes x g line rest y lines k f most
    pub changed : Changed g.memory changes.memory (start_of f) (house g.call.site f).bytes
    pub kept : AllSame g.call.vars changes.vars
    pub zeros_there : ZeroWords changes.memory (start_of f) (house g.call.site f).bytes

  pub bits_cleared : (f : Name) → IsThere site f → (inside : InMemory (house site f).home) → holds_address (house site f) ≡ false
      → (house site f).bytes % 4 ≡ 0 → 4 ≤ (house site f).bytes → (house site f).is_word ≡ false → (k : List WordInstr)
      → Zeroed (clears (house site f) k) k f (9 + (house site f).bytes)
  bits_cleared f there inside plain whole some no_word k = by (words_of (house g.call.site f).bytes whole some)
    where
      lying : Lying x (all_sites x g line rest y) y.linked (start_of f) (house g.call.site f).bytes
      lying = lying_all x (all_sites x g line rest y) y.linked g.call.site f (house g.call.site f).bytes (inl refl) there inside refl

      code_is : clears (house g.call.site f) k ≡ cleared false (house g.call.site f).bytes (Lies (house g.call.site f).home) k
      code_is = ap₂ (λ w p. cleared w (house g.call.site f).bytes p k) no_word (spot_memory (house g.call.site f) plain inside)

      by : (j : ℕ) × ((house g.call.site f).bytes ≡ 4 * suc j) → Zeroed (clears (house g.call.site f) k) k f (9 + (house g.call.site f).bytes)
      by (j, is) =
          let n : ℕ = (house g.call.site f).bytes in
          let a : ℕ = start_of f in
          let home : Home = (house g.call.site f).home in
          let m : Memory = g.memory in
          let v : Vars = g.call.vars in
          let near = lying_near x (all_sites x g line rest y) y.linked a n lying in
          let there_area : Area m a (suc j) = lying_area x (all_sites x g line rest y) y.linked m a n y.memory lying (suc j) (omega (arith, is)) in
          let v1 : Vars = put v FIRST a in
          let k2 : List WordInstr = zeros false n k in
          let points = points_there g.call.site.base v home inside in
          let r1 : Runs x.live (all_procs x) 1 (at (within x.table x.blocks g) m (address FIRST home ∷ k2) v g.words)
          (at (within x.table x.blocks g) m k2 v1 g.words)
          = address_runs x.law x.live (all_procs x) (within x.table x.blocks g) refl g.words m k2 v FIRST home a points in
          let r2 = clear_called x.law x.live (all_procs x) (routines x.table x.blocks) x.runtimes.others.statics (reaches x) (within x.table x.blocks g) k j
          m a v1 g.words (got a (omega (arith, near))) (omega (arith, near, is)) y.memory.sized (data_there x (all_sites x g line rest y) m y.memory)
          there_area in
          let clear = r2.is in
          let few = r2.few in
          let w : Vars = put (put v1 SECOND (4 * suc j)) FIRST r2.word in
          let same : AllSame v w = same_more v v1 w (same_first v a) (same_more v1 (put v1 SECOND (4 * suc j)) w (same_second v1 (4 * suc j))
          (same_first (put v1 SECOND (4 * suc j)) r2.word)) in
          let ch : Changed m r2.memory a n = subst (Changed m r2.memory a) (sym is) clear.changed in
          record {
            changes = record {
              vars = w;
              memory = r2.memory;
              words = no_words;
              awaits = FIRST;
              good = memory_kept x (all_sites x g line rest y) y.linked m r2.memory a n y.memory ch lying;
              heap = heap_kept x (all_sites x g line rest y) y.linked m r2.memory a n y.memory ch lying;
              edit = somewhere a n (outside_still (IsPlace x.table x.blocks) (next_base (all_sites x g line rest y)) m r2.memory a n ch.outside) (inl refl)
                  there inside (omega arith)
                  (omega arith);
              variables = λ h u is_there ne at_home. same.others u (high_variable x g line rest y h u is_there at_home);
              left = same.left;
              steps = 1 + (3 + r2.steps);
              some = omega arith;
              few = omega (arith, is, few);
              runs = subst (λ l. Runs x.live (all_procs x) (1 + (3 + r2.steps)) (at (within x.table x.blocks g) m l v g.words)
                  (at (awaiting (within x.table x.blocks g) FIRST) r2.memory k w no_words)) (sym code_is)
                  (then_runs x.live (all_procs x) r1
                  (subst (λ i. Runs x.live (all_procs x) (3 + r2.steps) (at (within x.table x.blocks g) m (zeros false i k) v1 g.words)
                  (at (awaiting (within x.table x.blocks g) FIRST) r2.memory k w no_words)) (sym is) r2.runs));
            };
            changed = ch;
            kept = same;
            zeros_there = subst (ZeroWords r2.memory a) (sym is) clear.zeros;
          }
