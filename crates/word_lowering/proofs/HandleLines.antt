-- Rows on a handle that stands where a location leads, as lines.
use Rattle.std.proofs.Common.{◌≡◌, inl, inr, ℕ, ◌+◌, ◌^◌, ◌<◌, List, length, Option, Some, None, true, refl, sym, ap, subst, arith}
use Rattle.nim_meaning.specs.Values.{Handle, Location}
use Rattle.nim_meaning.specs.State.{World, is_there, is_whole, load}
use Rattle.nim_meaning.specs.Deeds.{perform}
use Rattle.nim_meaning.specs.OwnedRows.{appended}
use Rattle.flat_code.specs.declared.block.BlockLine.{BlockLine}
use Rattle.flat_code.specs.Scene.{Temps}
use Rattle.flat_code.specs.Shapes.{block}
use Rattle.word_code.specs.declared.word.WordInstr.{WordInstr}
use Rattle.word_code.specs.Joined.{joined}
use Rattle.word_code.specs.Memory.{own_data_at}
use Rattle.word_code.specs.Words.{no_words}
use Rattle.word_code.proofs.ForCallers.{at}
use Rattle.heap_memory.specs.HeapRoutines.{IsKeptThere}
use Rattle.heap_memory.specs.HeapRuntime.{HeapRoutineName, heap_routine}
use Rattle.heap_memory.specs.HandleRoutines.{MayHave}
use Rattle.heap_memory.specs.TextRoutines.{AreBytes}
use Rattle.heap_memory.proofs.ForCallers.{is_there as block_is_there}
use Rattle.word_lowering.specs.declared.homes.TheConstants.{FIRST}
use Rattle.word_lowering.specs.declared.homes.Home.{Home as Place}
use Rattle.word_lowering.specs.Lowered.{lowered}
use Rattle.word_lowering.specs.RoutineCode.{append_code}
use Rattle.word_lowering.proofs.BaseValues.{IsOwn}
use Rattle.word_lowering.proofs.BlockHomes.{read_at}
use Rattle.word_lowering.proofs.Blocks.{IsHandle, Stored}
use Rattle.word_lowering.proofs.DeedFrames.{IsPutSo, frames_put, resized_puts}
use Rattle.word_lowering.proofs.Gets.{SameTemps}
use Rattle.word_lowering.proofs.GoodHomes.{HomeOf, homes_apart, good_homes}
use Rattle.word_lowering.proofs.GoodLeads.{owned_to}
use Rattle.word_lowering.proofs.GoodRows.{later_ground_of}
use Rattle.word_lowering.proofs.HandlesPut.{block_of_text}
use Rattle.word_lowering.proofs.JoinedRoutines.{joined_again}
use Rattle.word_lowering.proofs.Lines.{Basis, IsGood, all_procs, all_sites, starts}
use Rattle.word_lowering.proofs.Located.{owned_readable}
use Rattle.word_lowering.proofs.OrdinalRuns.{AllSame}
use Rattle.word_lowering.proofs.Related.{Both, within}
use Rattle.word_lowering.proofs.ResizedWorlds.{answered}
use Rattle.word_lowering.proofs.RowGood.{IsLeftHere, good_put}
use Rattle.word_lowering.proofs.RowRuns.{RowDoes}
use Rattle.word_lowering.proofs.RowSettles.{LeavesGood}
use Rattle.word_lowering.proofs.Scenes.{FromOwned, is_fixed}
use Rattle.word_lowering.proofs.TextOperands.{TextAt, text_block, text_long}
use Rattle.word_lowering.proofs.TextRowRuns.{IsAt, TEXT_SPARE, append_runs}
use Rattle.word_lowering.proofs.TextRows.{Mine}

-- the heap's routines keep what they promise, whatever the program is joined with
pub heap_kept : (x : Basis) (name : HeapRoutineName) → IsKeptThere x.live (all_procs x) (heap_routine own_data_at name)
heap_kept x name =
    subst (λ c. IsKeptThere x.live c.procs (heap_routine own_data_at name)) (sym (joined_again x.runtimes.heap (lowered x.table x.blocks) x.runtimes.others))
    (x.runtimes.is_heap.kept x.live (joined (lowered x.table x.blocks) x.runtimes.others) name)

module _ (x : Basis) (g : Both) (line : BlockLine) (rest : List BlockLine) (y : IsGood x (starts g line rest)) (are : AreBytes g.memory.heap) where
  abbrev here : Both
  here = starts g line rest

  -- the handle of a text stands where a location leads that may be written, to whose address a home points
  pub record HandleThere (l : Location) (n : ℕ) (k : Option ℕ) (home : Place) : Type 0 where
    pub is : load g.world l ≡ Handle n k
    pub live : is_there g.world l ≡ true
    pub whole : is_whole g.world (Handle n k) ≡ true
    pub address : ℕ
    pub owned : FromOwned x.table (all_sites x g line rest y) g.ground g.world l address block
    pub at_home : IsAt g.call.site.base g.call.vars home address

  module _ (l : Location) (n : ℕ) (k : Option ℕ) (home : Place) (q : HandleThere l n k home) where
    pub can_have : MayHave g.memory q.address
    can_have = let area = (owned_readable x here y l q.address block q.owned q.live).area 2 (omega arith) in (area.0.may, area.1.0.may)

    pub handle_is : IsHandle g.ground.blocks g.memory q.address block n k
    handle_is =
        subst (λ v. Stored (is_fixed g.ground) g.ground.blocks g.memory q.address block v) q.is
        (read_at (is_fixed g.ground) (HomeOf x here) (homes_apart x here y) g.ground.blocks g.world g.memory (good_homes x here y) l q.address block
        (owned_to x here y l q.address block q.owned) q.live)

    pub block_is : block_of_text (is_fixed g.ground) x.law g.ground.blocks g.world g.memory y.heap y.memory.sized n k
    block_is = by k handle_is q.whole
      where
        by : (k : Option ℕ) → IsHandle g.ground.blocks g.memory q.address block n k → is_whole g.world (Handle n k) ≡ true
            → block_of_text (is_fixed g.ground) x.law g.ground.blocks g.world g.memory y.heap y.memory.sized n k
        by None h whole = tt
        by (Some i) h whole = text_block (is_fixed g.ground) g.ground.blocks g.world g.memory y.heap q.address n i h whole

    -- all of it is in the heap
    pub length_short : n < 2 ^ 31
    length_short = by k handle_is block_is
      where
        by : (k : Option ℕ) → IsHandle g.ground.blocks g.memory q.address block n k
            → block_of_text (is_fixed g.ground) x.law g.ground.blocks g.world g.memory y.heap y.memory.sized n k → n < 2 ^ 31
        by None h t = let e = h.empty in omega (arith, e)
        by (Some i) h t =
            let few = text_long (is_fixed g.ground) g.ground.blocks g.world g.memory y.heap n i t in
            let there = block_is_there own_data_at g.world.heap.classes g.ground.blocks.stands g.memory y.heap.kept i t.is.standing t.is.stands
            y.memory.sized in
            let low = there.low in
            let high = there.high in
            let most = y.memory.sized.heap_most in
            omega (arith, few, low, high, most)

    pub mine : (f : FromOwned x.table (all_sites x g line rest y) g.ground g.world l q.address block)
        → Mine (is_fixed g.ground) (HomeOf x here) (homes_apart x here y) x.law g.ground.blocks g.world g.memory (good_homes x here y) are l q.address n k q.is
        (owned_to x here y l q.address block f) handle_is block_is
    mine (inl f) = subst IsOwn (sym f.base) tt
    mine (inr (inl f)) = tt
    mine (inr (inr f)) = subst IsOwn (sym f.from.base) tt

    -- ---- more characters

    module _ (from : ℕ) (more : List ℕ) (t : TextAt g.world.heap g.ground.blocks.stands g.memory from more) (few : n + length more < 2 ^ 32)
        (from_home : Place) (at_from : IsAt g.call.site.base g.call.vars from_home from) where
      pub append_there : (lines : List WordInstr)
          → RowDoes x.live (all_procs x) (within x.table x.blocks g) lines FIRST TEXT_SPARE
          (λ a after other vars. IsLeftHere x g line rest y after other q.address 8 × AllSame g.call.vars vars)
          (at (within x.table x.blocks g) g.memory (append_code home from_home lines) g.call.vars g.words) (perform (appended more l) g.world)
      append_there lines =
          append_runs (is_fixed g.ground) (HomeOf x here) (homes_apart x here y) x.law x.live (all_procs x) (heap_kept x) (within x.table x.blocks g) refl
          g.ground.blocks g.world (sym y.input) g.memory (good_homes x here y) are lines g.call.vars g.words l q.address n k q.is
          (owned_to x here y l q.address block q.owned) handle_is block_is (mine q.owned) can_have home q.at_home from more t few from_home at_from

      -- what stands there then
      put_so : (after : World) → answered (perform (appended more l) g.world) ≡ Some after → IsPutSo l g.world after
      put_so after e =
          frames_put l (appended more l) (λ w. resized_puts _ _ _ l) g.world after e

      pub append_good : (temps : Temps) → SameTemps x g line rest y temps
          → LeavesGood x g line rest y FIRST (λ (a : Unit {0}). temps)
          (λ a after other vars. IsLeftHere x g line rest y after other q.address 8 × AllSame g.call.vars vars) (perform (appended more l) g.world)
      append_good temps same es work a w e other vars b =
          let z = put_so w (ap answered e) in (
            later_ground_of x g line rest y b.0.later,
            good_put x g line rest y l q.address block refl q.live z.0 w other b.0 z.1 q.owned temps same vars no_words FIRST b.1,
          )
