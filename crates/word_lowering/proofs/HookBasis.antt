-- What lines that call hooks ask of a program: its hooks are among the procedures, and what hooks ask of routines.
use Rattle.std.proofs.Common.{◌≡◌, ℕ, ◌+◌, ◌-◌, ◌*◌, ◌^◌, ◌<◌, ◌≤◌, List, length, Some, None, false, arith, ap, sym, subst}
use Rattle.std.specs.Prelude.{slice_get}
use Rattle.nim_types.specs.Table.{IsTable}
use Rattle.nim_types.specs.declared.types.TypeDef.TheVariants as D
use Rattle.nim_types.specs.declared.types.TheConstants.{LIST_BYTES}
use Rattle.nim_meaning.specs.Values.{Value}
use Rattle.rv32_isa.specs.Image.{stack_at}
use Rattle.flat_code.specs.declared.block.BlockLine.{BlockLine}
use Rattle.word_code.specs.declared.word.TheConstants.{SPARE_ROOM}
use Rattle.word_code.specs.RoutineTable.{Copies}
use Rattle.hook_lifting.specs.declared.lifted.Hook.{Hook}
use Rattle.hook_code.specs.HookCode.{bytes_at as size_at}
use Rattle.hook_code.specs.Kept.{AreShort, AreThere, CutsAreThere, chain_of, rank_in}
use Rattle.hook_code.specs.Promises.{Routines}
use Rattle.word_lowering.specs.declared.texts.TheConstants.{FIXED_BYTES}
use Rattle.word_lowering.specs.LineCode.{proc_number, first_hook as first_of}
use Rattle.word_lowering.specs.Lowered.{all_layouts}
use Rattle.word_lowering.specs.Stored.{HaveForms}
use Rattle.word_lowering.proofs.HandGood.{around_hand, lies_at}
use Rattle.word_lowering.proofs.HandleLines.{heap_kept}
use Rattle.word_lowering.proofs.HookAll.{hook_routines}
use Rattle.word_lowering.proofs.HooksGood.{around_hooks, hooked_lies}
use Rattle.word_lowering.proofs.HookSurroundings.{surroundings}
use Rattle.word_lowering.proofs.HookTexts.{data_alike}
use Rattle.word_lowering.proofs.Lines.{Basis, IsGood, all_procs, starts}
use Rattle.word_lowering.proofs.Related.{Both, routines, sites_of}
use Rattle.word_lowering.proofs.Scenes.{IsThere, house, looked, of_value}
use Rattle.word_lowering.proofs.SequenceTypes.{SequencesKnown, is_sequence}
use Rattle.word_lowering.proofs.ShapeFacts.{of_numbers}
use Rattle.word_lowering.proofs.Sites.{InMemory, Linked, Site, next_base}
use Rattle.word_lowering.proofs.WholeCode.{layouts_length}

-- the number of the first hook
abbrev pub first_hook : Basis → ℕ
first_hook x = proc_number (length (all_layouts x.table x.blocks.procs))

pub record HookBasis (x : Basis) : Type 0 where
  pub is_table : IsTable x.table
  pub have : HaveForms x.table
  pub short : AreShort x.table
  pub hooks_there : AreThere x.table (first_hook x) (all_procs x)
  pub cuts_there : CutsAreThere x.table (first_hook x) (all_procs x)
  -- an element of a sequence has fewer than 2^32 bytes
  pub elements_small : (ty of : ℕ) → slice_get x.table ty ≡ Some (D.Seq of) → size_at x.table of < 2 ^ 32
  -- the places of active calls and of a chain of hooks are within the machine's stack
  pub room : (sites : List Site) → Linked x.table x.blocks sites → next_base sites + LIST_BYTES * 131 + SPARE_ROOM ≤ stack_at + 268435456

-- it has all of that
pub hook_basis : (x : Basis) → IsTable x.table → HaveForms x.table → HookBasis x
hook_basis x is_table have = record {
  is_table = is_table;
  have = have;
  short = x.short;
  hooks_there = subst (λ n. AreThere x.table n (all_procs x)) same x.hooks_there;
  cuts_there = subst (λ n. CutsAreThere x.table n (all_procs x)) same x.cuts_there;
  elements_small = x.elements_small;
  room = λ sites linked. let r = x.within sites linked in omega (arith, r);
}
  where
    same : first_of x.blocks.procs ≡ first_hook x
    same = ap proc_number (sym (layouts_length x.table FIXED_BYTES x.blocks.procs))

-- what its sequences are
pub sequences_known : (x : Basis) → HookBasis x → SequencesKnown x
sequences_known x b = is_sequence x.table b.is_table b.have x.defaults x.blanks b.elements_small

module _ (x : Basis) (b : HookBasis x) (g : Both) (line : BlockLine) (rest : List BlockLine) (y : IsGood x (starts g line rest)) where
  pub routines_here : Routines x.table (surroundings (around_hooks x g line rest y b.is_table b.have)) x.live (all_procs x) x.fresh
  routines_here =
      hook_routines (around_hooks x g line rest y b.is_table b.have) x.live x.none (all_procs x) x.fresh (heap_kept x)
      b.elements_small (routines x.table x.blocks) x.runtimes.others.statics (x.kept Copies)
      (λ m like. data_alike x g line rest y (around_hooks x g line rest y b.is_table b.have).Homes (hooked_lies x g line rest y) m like)

  -- while a value is under way at a temporary's home
  pub hand_routines : (t : ℕ) (there : IsThere g.call.site (of_value t)) (inside : InMemory (house g.call.site (of_value t)).home)
      (none : g.call.temps.values t ≡ None) (hooked : of_numbers (looked x.table g.call.site (of_value t)) ≡ false) (v : Value)
      → Routines x.table (surroundings (around_hand x g line rest y t there inside none hooked b.is_table b.have v)) x.live (all_procs x) x.fresh
  hand_routines t there inside none hooked v =
      let z = around_hand x g line rest y t there inside none hooked b.is_table b.have v in
      hook_routines z x.live x.none (all_procs x) x.fresh (heap_kept x)
      b.elements_small
      (routines x.table x.blocks) x.runtimes.others.statics (x.kept Copies)
      (λ m like. data_alike x g line rest y z.Homes (lies_at x g line rest y t there inside none hooked) m like)

  -- ---- chains and paces of hooks of a type that has at most 64 levels

  pub room_here : (hook : Hook) (ty : ℕ) → chain_of hook (rank_in x.table ty) ≤ 131
      → next_base (sites_of (starts g line rest)) + LIST_BYTES * chain_of hook (rank_in x.table ty) ≤ stack_at + 268435456 - SPARE_ROOM
  room_here hook ty few = let r = b.room (sites_of (starts g line rest)) y.linked in omega (arith, few, r)
