-- Active calls have room for their places, and for the arguments of one more.
use Rattle.std.proofs.Common.{◌≡◌, ℕ, suc, ◌+◌, ◌*◌, ◌-◌, ◌≤◌, List, [], ◌∷◌, ◌++◌, length, replicate, Bool, true, ◌&&◌, nat_le, refl, sym, ap, subst, arith}
use Rattle.std.proofs.Common.{length-append}
use Rattle.std.proofs.lemmas.Bool.{and_parts, leb-true}
use Rattle.nim_types.specs.declared.types.TypeDef.{TypeDef}
use Rattle.rv32_isa.specs.Image.{stack_at}
use Rattle.nim_program.specs.declared.program.TheConstants.{ACTIVE_CALLS}
use Rattle.flat_code.specs.declared.code.CodeProc.{CodeProc}
use Rattle.flat_code.specs.declared.block.BlockLine.{BlockLine}
use Rattle.flat_code.specs.declared.code.Code.{Code}
use Rattle.word_code.specs.declared.word.TheConstants.{SPARE_ROOM}
use Rattle.word_lowering.specs.declared.may_lower.TheConstants.{MOST_ROOM, MOST_DATA, MOST_WAITERS}
use Rattle.word_lowering.specs.declared.handed.TheConstants.{LEFT_HANDLE_AT}
use Rattle.word_lowering.specs.Texts.{missing, padded, fixed_texts, all_names, joined_all, ends_from, texts_from, data_in}
use Rattle.word_lowering.specs.Lowered.{all_layouts, globals_end, data_of, lowered, start_layout}
use Rattle.word_lowering.specs.MayLower.{procs_may, defs_may, labels_may, may_lower}
use Rattle.word_code.specs.declared.word.WordProc.{WordProc}
use Rattle.word_lowering.specs.Runtimes.{Runtimes, with_runtimes}
use Rattle.nim_types.specs.declared.types.TheConstants.{LIST_BYTES}
use Rattle.word_lowering.specs.declared.lowering.TheConstants.{MOST_CHAIN}
use Rattle.word_lowering.proofs.HookProcs.{HookLaws}
use Rattle.word_lowering.proofs.NamedProcs.{start_found}
use Rattle.word_lowering.proofs.NamedProcs.{last_waits}
use Rattle.word_lowering.proofs.SmallProcs.{own_small}
use Rattle.word_lowering.proofs.Padding.{zeros_length}
use Rattle.word_lowering.proofs.Sites.{Site, next_base, data_end, Linked}
use Rattle.word_code.specs.Words.{from_proc, first_of}
use Rattle.word_lowering.specs.declared.texts.TheConstants.{FIXED_BYTES}
use Rattle.word_lowering.specs.LineCode.{no_layout}

-- ---- places

module _ (table : List TypeDef) (blocks : Code BlockLine) where
  -- of calls above one another
  linked_count : (sites : List Site) → Linked table blocks sites → length sites ≤ suc ACTIVE_CALLS
  linked_count [] y = omega arith
  linked_count (s ∷ sites) y = let h = y.2 in let i = y.3 in omega (arith, h, i)

  linked_ends : (sites : List Site) → Linked table blocks sites → next_base sites ≤ stack_at + length sites * MOST_ROOM
  linked_ends [] y = omega arith
  linked_ends (s ∷ sites) y =
      let h = linked_ends sites y.5 in
      let base = y.4 in
      let most = y.0.room_most in
      omega (arith, h, base, most)

  -- they are within the machine's stack, with room for the arguments of one call more, and for a chain of hooks
  pub sites_within : (sites : List Site) → Linked table blocks sites → next_base sites + SPARE_ROOM + LIST_BYTES * MOST_CHAIN ≤ stack_at + 268435456
  sites_within sites y =
      let h = linked_ends sites y in
      let n = linked_count sites y in
      omega (arith, h, n)

-- ---- data: globals end within it

longer : (a b : List ℕ) → length a ≤ length (a ++ b)
longer a b = let h = length-append a b in omega (arith, h)

three_parts : (a b c d : List ℕ) → length a + (length b + length c) ≤ length (a ++ (b ++ (c ++ d)))
three_parts a b c d =
    let h = length-append a (b ++ (c ++ d)) in
    let i = length-append b (c ++ d) in
    let j = length-append c d in
    omega (arith, h, i, j)

globals_within : (table : List TypeDef) (globals_end : ℕ) (procs : List (CodeProc BlockLine)) → globals_end ≤ length (padded (data_in table globals_end procs))
globals_within table globals_end procs =
    let names : List (List ℕ) = all_names table in
    let rest : List ℕ = ends_from 0 names ++ (padded (joined_all names) ++ texts_from table globals_end procs) in
    let h = three_parts (replicate 4 0) fixed_texts (replicate (globals_end - LEFT_HANDLE_AT) 0) rest in
    let z = zeros_length (globals_end - LEFT_HANDLE_AT) in
    let k = zeros_length 4 in
    let f : length fixed_texts ≡ 16 = refl in
    let l = longer (data_in table globals_end procs) (replicate (missing (length (data_in table globals_end procs))) 0) in
    omega (arith, h, z, k, f, l)

pub globals_inside : (table : List TypeDef) (blocks : Code BlockLine) → data_end table blocks ≤ length (lowered table blocks).statics
globals_inside table blocks = globals_within table (globals_end table blocks.procs) blocks.procs

-- what is tested beside the procedures
module _ (table : List TypeDef) (blocks : Code BlockLine) (may : may_lower table blocks ≡ true) where
  abbrev few : Bool
  few = nat_le (length (data_of table blocks.procs)) MOST_DATA

  others_may : ((few && (defs_may table && labels_may blocks.procs)) ≡ true)
  others_may = (and_parts (procs_may table (all_layouts table blocks.procs) blocks.procs) (few && (defs_may table && labels_may blocks.procs)) may).1

  pub data_small : data_end table blocks ≤ MOST_DATA
  data_small =
      let h = globals_within table (globals_end table blocks.procs) blocks.procs in
      let most = leb-true (length (data_of table blocks.procs)) MOST_DATA (and_parts few (defs_may table && labels_may blocks.procs) others_may).0 in
      omega (arith, h, most)

  pub enums_may : defs_may table ≡ true
  enums_may = (and_parts (defs_may table) (labels_may blocks.procs) (and_parts few (defs_may table && labels_may blocks.procs) others_may).1).0

  -- not many values wait in the start code
  pub start_waits : length (start_layout table blocks.procs).waiters ≤ MOST_WAITERS
  start_waits =
      last_waits table FIXED_BYTES no_layout blocks.procs (omega arith)
      (and_parts (procs_may table (all_layouts table blocks.procs) blocks.procs) (few && (defs_may table && labels_may blocks.procs)) may).0

-- the start code's places
pub start_most : (laws : HookLaws) (table : List TypeDef) (blocks : Code BlockLine) → may_lower table blocks ≡ true
    → (r : Runtimes) → (first_of (from_proc 0 (with_runtimes r (lowered table blocks)).procs)).room ≤ MOST_ROOM
start_most laws table blocks may r =
    subst (λ (p : WordProc). p.room ≤ MOST_ROOM) (sym (ap first_of (start_found laws table blocks may r))) (own_small table blocks may).0.room
