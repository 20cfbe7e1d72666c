-- The hooks of a table of types, and what makes its sequences shorter, keep their promises.
use Rattle.std.proofs.Common.{◌≡◌, ◌≤◌, ℕ, suc, ◌+◌, true, List, Some, le_refl, inl, arith}
use Rattle.std.specs.Prelude.{slice_get}
use Rattle.std.proofs.lemmas.Bool.{false≢true}
use Rattle.nim_types.specs.Table.{IsTable}
use Rattle.nim_types.specs.declared.types.TypeDef.{TypeDef}
use Rattle.nim_types.specs.declared.types.TypeDef.TheVariants as D
use Rattle.nim_program.specs.Sizes.{HaveForms}
use Rattle.flat_code.specs.Scene.{known_in}
use Rattle.flat_code.specs.Lines.{form_in}
use Rattle.rv32_isa.specs.Machine.{Lives}
use Rattle.word_code.specs.declared.word.WordProc.{WordProc}
use Rattle.word_code.specs.Words.{Fresh}
use Rattle.hook_lifting.specs.declared.lifted.Hook.{Hook}
use Rattle.hook_lifting.specs.declared.lifted.Hook.TheVariants.{Copies, Assigns, Sinks, Ends}
use Rattle.hook_lifting.specs.Weights.{is_built}
use Rattle.hook_lifting.specs.Lifted.{has_hooks, is_routine}
use Rattle.hook_lifting.proofs.ForCallers.{does_hook, does_cut, form_at}
use Rattle.hook_code.specs.Surroundings.{Surroundings}
use Rattle.hook_code.specs.Promises.{Routines, IsKept, IsCut}
use Rattle.hook_code.specs.Kept.{AreThere, CutsAreThere, AreShort, chain_of, pace_at, rank_in}
use Rattle.hook_code.proofs.Ordered.{entry_there, is_ordered}
use Rattle.hook_code.proofs.Kept.{all_kept}
use Rattle.hook_code.proofs.TextHooks.{copy_kept, end_kept}
use Rattle.hook_code.proofs.CutRuns.{cut_comes}

module _ (table : List TypeDef) (is_table : IsTable table) (formed : HaveForms table) (short : AreShort table) (z : Surroundings table) (live : Lives)
    (procs : List WordProc) (fresh : Fresh) (first : ℕ) (routines : Routines table z live procs fresh) (there : AreThere table first procs) where
  texts : (chain : ℕ) (hook : Hook) (ty : ℕ) → slice_get table ty ≡ Some D.Text → has_hooks table ty ≡ true → rank_in table ty ≤ 64
      → is_routine D.Text hook ≡ true → IsKept table z live procs fresh first (suc chain) 32 hook ty
  texts chain Copies ty at hooks few is =
      let p = there Copies ty D.Text at hooks few in
      copy_kept table z live procs fresh first ty chain routines at p.0 p.1 p.2 (form_at table is_table formed ty D.Text at)
  texts chain Ends ty at hooks few is =
      let p = there Ends ty D.Text at hooks few in
      end_kept table z live procs fresh first ty chain routines at p.0 p.1 p.2 (form_at table is_table formed ty D.Text at)
  texts chain Assigns ty at hooks few is = absurd (false≢true is)
  texts chain Sinks ty at hooks few is = absurd (false≢true is)

  pub hooks_kept : (hook : Hook) (ty : ℕ) (d : TypeDef) → slice_get table ty ≡ Some d → has_hooks table ty ≡ true → rank_in table ty ≤ 64
      → is_built (form_in (known_in table) ty) ≡ true
      → IsKept table z live procs fresh first (chain_of hook (rank_in table ty)) (pace_at hook (rank_in table ty)) hook ty
  hooks_kept hook ty d at hooks few built =
      all_kept table z live procs fresh first routines there
      (λ hook ty d at hooks no. does_hook table is_table formed hook ty d at hooks no)
      (is_ordered table is_table formed short) texts (chain_of hook (rank_in table ty)) hook ty d at hooks few built
      (le_refl (chain_of hook (rank_in table ty)))

  pub cuts_kept : CutsAreThere table first procs → (ty of : ℕ) → slice_get table ty ≡ Some (D.Seq of) → has_hooks table of ≡ true
      → rank_in table ty ≤ 64 → rank_in table of ≤ 64 → is_built (form_in (known_in table) of) ≡ true
      → IsCut table z live procs fresh first (suc (chain_of Ends (rank_in table of))) (pace_at Ends (rank_in table of) + 2) ty of
  cuts_kept cut_there ty of typed hooks shallow parts built low top h d w s to rest l a n called leads_to few enough fits =
      let p = cut_there ty of typed hooks shallow in
      let e = entry_there table is_table formed of hooks in
      cut_comes table z live procs fresh first ty (chain_of Ends (rank_in table of)) (pace_at Ends (rank_in table of)) (omega arith) routines of typed
      p.0 p.1 p.2
      (does_cut (known_in table) of) built hooks low top h d w s to rest l a n called leads_to few enough fits
      (inl (hooks, hooks_kept Ends of e.0 e.1 hooks parts built))
