-- All that hooks ask of routines, by the promises of the heap's and the one that copies bytes.
use Rattle.std.proofs.Common.{◌≡◌, ℕ, ◌^◌, ◌<◌, List, false, true, Some, sym, ap, ◌∙◌}
use Rattle.std.specs.Prelude.{slice_get}
use Rattle.arc_base.specs.Behaviour.{no_objects}
use Rattle.nim_types.specs.Forms.{hooked}
use Rattle.nim_types.specs.declared.types.TypeDef.TheVariants as D
use Rattle.nim_types.proofs.ForCallers.{the_form}
use Rattle.rv32_isa.specs.Machine.{Lives}
use Rattle.word_code.specs.declared.word.WordProc.{WordProc}
use Rattle.word_code.specs.Memory.{Memory, as_state, own_data_at}
use Rattle.word_code.specs.RoutineTable.{copies}
use Rattle.word_code.specs.Routines.{HasData, IsKept as IsKeptAt}
use Rattle.word_code.specs.Words.{Fresh}
use Rattle.heap_memory.specs.HeapRoutines.{IsKeptThere}
use Rattle.heap_memory.specs.TextRoutines.{AreBytes}
use Rattle.heap_memory.specs.HeapRuntime.{CopiesText, HeapRoutineName, PutsSequence, heap_routine}
use Rattle.hook_lifting.specs.Lifted.{has_hooks}
use Rattle.hook_code.specs.HookCode.{bytes_at as size_at}
use Rattle.hook_code.specs.Promises.{Routines}
use Rattle.word_lowering.proofs.HookCopies.{copies_text_it}
use Rattle.word_lowering.proofs.HookHomes.{HookHomes}
use Rattle.word_lowering.proofs.HookMoves.{copies_bits_it, moves_it}
use Rattle.word_lowering.proofs.HookRoutines.{forgets_it, releases_it}
use Rattle.word_lowering.proofs.HookSurroundings.{shape, surroundings}
use Rattle.word_lowering.proofs.HookTakes.{takes_it}
use Rattle.word_lowering.proofs.HookWorlds.{IsMemoryLike}
use Rattle.word_lowering.proofs.ShapeFacts.{of_numbers}
use Rattle.word_lowering.proofs.TypeShapes.{has_form}
use Rattle.word_lowering.proofs.VacantShapes.{plain_numbers}

module _ (z : HookHomes) (live : Lives) (none : (m : Memory) → live (as_state m) ≡ no_objects) (procs : List WordProc) (fresh : Fresh)
    (kept : (name : HeapRoutineName) → IsKeptThere live procs (heap_routine own_data_at name))
    (elements_small : (ty of : ℕ) → slice_get z.table ty ≡ Some (D.Seq of) → size_at z.table of < 2 ^ 32) (at : ℕ) (statics : List ℕ)
    (bits_kept : IsKeptAt live procs at statics copies)
    (has_data : (m : Memory) → IsMemoryLike z.Homes z.start z.memory m → AreBytes m.heap → HasData at statics m) where
  plain_shapes : (ty : ℕ) → has_hooks z.table ty ≡ false → of_numbers (shape z ty) ≡ true
  plain_shapes ty e = let h = has_form z.table z.is_table z.have ty in plain_numbers z.table h.1 (ap hooked (sym (the_form h.1)) ∙ e)

  pub hook_routines : Routines z.table (surroundings z) live procs fresh
  hook_routines = record {
    forgets = forgets_it z live procs fresh kept;
    releases = releases_it z live procs fresh kept;
    takes = takes_it z live none procs fresh (kept PutsSequence) elements_small;
    copies_text = copies_text_it z live none procs fresh (kept CopiesText);
    copies_bits = copies_bits_it z plain_shapes live procs fresh at statics bits_kept has_data;
    moves_word = moves_it z plain_shapes live procs fresh;
  }
