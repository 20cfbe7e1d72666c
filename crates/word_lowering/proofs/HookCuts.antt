-- What makes a sequence shorter is called from block code: the elements behind a length end.
use Rattle.std.proofs.Common.{◌≡◌, ℕ, suc, ◌+◌, ◌*◌, ◌^◌, ◌<◌, ◌≤◌, List, [], ◌∷◌, length, true, Some, refl}
use Rattle.std.specs.Prelude.{nat_le, slice_get}
use Rattle.nim_types.specs.Table.{IsTable}
use Rattle.nim_types.specs.declared.types.TypeDef.TheVariants as D
use Rattle.nim_types.specs.declared.types.TheConstants.{LIST_BYTES}
use Rattle.nim_meaning.specs.Values.{Location, length_of}
use Rattle.nim_meaning.specs.State.{load}
use Rattle.nim_meaning.specs.Deeds.{perform, sees}
use Rattle.nim_meaning.specs.OwnedRows.{cut}
use Rattle.flat_code.specs.declared.block.BlockLine.{BlockLine}
use Rattle.flat_code.specs.Lines.{form_in}
use Rattle.flat_code.specs.Scene.{known_in}
use Rattle.word_code.specs.declared.word.WordInstr.{WordInstr}
use Rattle.word_code.specs.declared.word.WordInstr.TheVariants.{Call}
use Rattle.word_code.specs.Routines.{AreGiven}
use Rattle.word_code.specs.Words.{Vars, WordState}
use Rattle.word_code.proofs.ForCallers.{at}
use Rattle.hook_lifting.specs.declared.lifted.Hook.TheVariants.{Ends}
use Rattle.hook_lifting.specs.Lifted.{has_hooks}
use Rattle.hook_lifting.specs.Weights.{is_built}
use Rattle.hook_code.specs.HookCode.{cut_number}
use Rattle.hook_code.specs.Kept.{AreShort, AreThere, CutsAreThere, chain_of, pace_at, rank_in}
use Rattle.hook_code.specs.Promises.{AnyWord, Comes, Routines}
use Rattle.hook_code.proofs.ForCallers.{cuts_kept}
use Rattle.word_lowering.specs.declared.homes.TheConstants.{FIRST}
use Rattle.word_lowering.specs.Stored.{HaveForms}
use Rattle.word_lowering.proofs.HookCalls.{IsArgument, around, top}
use Rattle.word_lowering.proofs.HookSurroundings.{surroundings}
use Rattle.word_lowering.proofs.HooksGood.{here_now}
use Rattle.word_lowering.proofs.Lines.{Basis, IsGood, all_procs, starts}
use Rattle.word_lowering.proofs.Related.{Both, within}

module _ (x : Basis) (g : Both) (line : BlockLine) (rest : List BlockLine) (y : IsGood x (starts g line rest)) (is_table : IsTable x.table)
    (have : HaveForms x.table) (short : AreShort x.table) (first : ℕ)
    (routines : Routines x.table (surroundings (around x g line rest y is_table have)) x.live (all_procs x) x.fresh)
    (there : AreThere x.table first (all_procs x)) (cuts : CutsAreThere x.table first (all_procs x)) where
  module _ (ty of : ℕ) (typed : slice_get x.table ty ≡ Some (D.Seq of)) (hooks : has_hooks x.table of ≡ true)
      (shallow : rank_in x.table ty ≤ 64) (parts : rank_in x.table of ≤ 64) (built : is_built (form_in (known_in x.table) of) ≡ true) (l : Location) (a n : ℕ)
      (leads : IsArgument x g line rest y is_table have true l a ty) (few : n < 2 ^ 32)
      (enough : nat_le n (length_of (load g.world l)) ≡ true)
      (room : top x g line rest y is_table have + LIST_BYTES * suc (chain_of Ends (rank_in x.table of))
      ≤ (around x g line rest y is_table have).limit) (k : List WordInstr) (vars words : Vars)
      (given : AreGiven words 0 (a ∷ n ∷ [])) where
    abbrev pub cutting : WordState
    cutting = at (within x.table x.blocks g) g.memory (Call FIRST (cut_number first ty) ∷ k) vars words

    pub cut_comes : (before : ℕ) → Comes x.table (surroundings (around x g line rest y is_table have)) x.live (all_procs x) x.fresh
        (top x g line rest y is_table have) (top x g line rest y is_table have) [] g.ground.blocks
        (AnyWord x.table (surroundings (around x g line rest y is_table have)) x.live (all_procs x) x.fresh) (before, cutting) FIRST k
        (λ works. 15 + (pace_at Ends (rank_in x.table of) + 2) * works)
        (perform (sees l (λ world v. cut (form_in (known_in x.table) of) n l v)) g.world)
    cut_comes before =
        cuts_kept x.table is_table have short (surroundings (around x g line rest y is_table have)) x.live (all_procs x) x.fresh first
        routines there cuts ty of typed hooks shallow parts built (top x g line rest y is_table have)
        (top x g line rest y is_table have) [] g.ground.blocks g.world (before, cutting) FIRST k l a n
        (record {
          calling = record { next = refl; given = given };
          top_is = refl;
          here = here_now x g line rest y is_table have;
        }) leads few enough room
