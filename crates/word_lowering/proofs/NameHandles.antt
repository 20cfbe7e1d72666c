-- The handle in the data of the name of a value: of a bool, or of a member of an enum.
use Rattle.std.proofs.Common.{◌≡◌, ℕ, ◌+◌, ◌*◌, ◌%◌, ◌^◌, ◌<◌, ◌≤◌, List, ◌∷◌, length, Some, Err, refl, ap, ◌∙◌, arith}
use Rattle.std.specs.Prelude.{◌==◌, if◌then◌else◌}
use Rattle.rv32_isa.specs.Values.{added, subtracted, shifted_left}
use Rattle.rv32_isa.specs.declared.micro_op.Size.TheVariants.{Word}
use Rattle.rv32_isa.specs.declared.machine.FaultKind.TheVariants.{Misaligned}
use Rattle.rv32_isa.specs.Steps.{number_of}
use Rattle.flat_code.specs.declared.block.BlockLine.{BlockLine}
use Rattle.word_code.specs.declared.word.WordOperation.TheVariants as operation
use Rattle.word_code.specs.declared.word.WordInstr.{WordInstr}
use Rattle.word_code.specs.declared.word.WordInstr.TheVariants.{Constant, Compute, Datum, Load, Sum}
use Rattle.word_code.specs.Memory.{Memory, number_at}
use Rattle.word_code.specs.Words.{Vars, put}
use Rattle.word_code.proofs.ForCallers.{got, then_runs, run_datum, run_constant, run_compute, run_load, run_sum}
use Rattle.heap_memory.specs.TextRoutines.{AreBytes}
use Rattle.word_lowering.specs.declared.handed.TheConstants.{LEFT_HANDLE_AT}
use Rattle.word_lowering.specs.declared.homes.TheConstants.{FIRST, SECOND, THIRD, OWN_FROM}
use Rattle.word_lowering.specs.declared.homes.Home.TheVariants.{Static}
use Rattle.word_lowering.specs.declared.texts.TheConstants.{FIXED_BYTES, FALSE_AT}
use Rattle.word_lowering.specs.Lowered.{data_at}
use Rattle.word_lowering.specs.OwnedCode.{bool_name_code, handle_code, name_handle_code}
use Rattle.word_lowering.proofs.Lines.{Basis, IsGood, all_procs, starts}
use Rattle.word_lowering.proofs.Moves.{same_first, same_more, same_second, same_third}
use Rattle.word_lowering.proofs.OrdinalRuns.{AllSame}
use Rattle.word_lowering.proofs.Related.{Both, IsText, within}
use Rattle.word_lowering.proofs.RowOperands.{HasHandleAt, laid_handle}
use Rattle.word_lowering.proofs.TextLines.{TextAt as LaidAt}
use Rattle.word_lowering.proofs.WriteLines.{NameAt}
use Rattle.word_lowering.proofs.WrittenLines.{Writing}

module _ (x : Basis) (said : Writing x) (g : Both) (line : BlockLine) (rest : List BlockLine) (y : IsGood x (starts g line rest)) (to : ℕ)
    (low : LEFT_HANDLE_AT ≤ to) (up_to : to + 12 ≤ FIXED_BYTES) (whole : to % 4 ≡ 0) where
  word_still : (b : ℕ) → IsText x.table x.blocks b 4 → number_at g.memory b Word ≡ number_at x.first b Word
  word_still b h = ap (λ o. if b % 4 == 0 then number_of o else Err Misaligned) (y.memory.texts b 4 h)

  pub bool_handle : (a from : ℕ) (text : List ℕ) (k : List WordInstr) → a < 2 → length text + a ≡ 5 → LaidAt x (8 + 8 * a) text → AreBytes text
      → OWN_FROM ≤ from → g.call.vars from ≡ Some a
      → HasHandleAt x said g line rest y to (bool_name_code to from k) k (Static to) text
  bool_handle a from text k less long t letters high e =
      let m : Memory = g.memory in
      let v : Vars = g.call.vars in
      let v1 : Vars = put v FIRST 3 in
      let v2 : Vars = put v1 FIRST (shifted_left a 3) in
      let v3 : Vars = put v2 SECOND (data_at + 0 + 8) in
      let v4 : Vars = put v3 FIRST (added (data_at + 0 + 8) (8 * a)) in
      let v5 : Vars = put v4 SECOND 5 in
      let v6 : Vars = put v5 SECOND (subtracted 5 a) in
      let s1 : AllSame v v1 = same_first v 3 in
      let s2 : AllSame v v2 = same_more v v1 v2 s1 (same_first v1 (shifted_left a 3)) in
      let s3 : AllSame v v3 = same_more v v2 v3 s2 (same_second v2 (data_at + 0 + 8)) in
      let s4 : AllSame v v4 = same_more v v3 v4 s3 (same_first v3 (added (data_at + 0 + 8) (8 * a))) in
      let s5 : AllSame v v5 = same_more v v4 v5 s4 (same_second v4 5) in
      let s6 : AllSame v v6 = same_more v v5 v6 s5 (same_second v5 (subtracted 5 a)) in
      let l6 : List WordInstr = handle_code to k in
      let l5 : List WordInstr = Compute SECOND operation.Subtract SECOND from ∷ l6 in
      let l4 : List WordInstr = Constant SECOND 5 ∷ l5 in
      let l3 : List WordInstr = Compute FIRST operation.Add SECOND FIRST ∷ l4 in
      let l2 : List WordInstr = Datum SECOND FALSE_AT ∷ l3 in
      let l1 : List WordInstr = Compute FIRST operation.ShiftLeft from FIRST ∷ l2 in
      let shift : shifted_left a 3 % 2 ^ 32 ≡ 8 * a = omega (arith, less) in
      let place : added (data_at + 0 + 8) (8 * a) % 2 ^ 32 ≡ data_at + (8 + 8 * a) = omega (arith, less) in
      let count : subtracted 5 a % 2 ^ 32 ≡ length text = omega (arith, less, long) in
      let r1 = run_constant x.live (all_procs x) (within x.table x.blocks g) m l1 v g.words FIRST 3 in
      let r2 = run_compute x.live (all_procs x) (within x.table x.blocks g) m l2 v1 g.words FIRST operation.ShiftLeft from FIRST
      (s1.others from high ∙ e) refl in
      let r3 = run_datum x.live (all_procs x) (within x.table x.blocks g) m l3 v2 g.words SECOND FALSE_AT in
      let r4 = run_compute x.live (all_procs x) (within x.table x.blocks g) m l4 v3 g.words FIRST operation.Add SECOND FIRST
      (got (data_at + 0 + 8) (omega arith))
      (ap Some shift) in
      let r5 = run_constant x.live (all_procs x) (within x.table x.blocks g) m l5 v4 g.words SECOND 5 in
      let r6 = run_compute x.live (all_procs x) (within x.table x.blocks g) m l6 v5 g.words SECOND operation.Subtract SECOND from refl
      (s5.others from high ∙ e) in
      laid_handle x said g line rest y to low up_to whole (8 + 8 * a) text t letters (bool_name_code to from k) k v6 s6 (ap Some place) (ap Some count) 6
      (omega arith)
      (then_runs x.live (all_procs x) (then_runs x.live (all_procs x) (then_runs x.live (all_procs x) r1 r2) (then_runs x.live (all_procs x) r3 r4))
      (then_runs x.live (all_procs x) r5 r6))

  pub name_handle : (ends names a from : ℕ) (text : List ℕ) (k : List WordInstr) → NameAt x ends names a text → AreBytes text → OWN_FROM ≤ from
      → g.call.vars from ≡ Some a → HasHandleAt x said g line rest y to (name_handle_code to ends names from k) k (Static to) text
  name_handle ends names a from text k t letters high e =
      let m : Memory = g.memory in
      let v : Vars = g.call.vars in
      let n : ℕ = length text in
      let near = t.small in
      let far = t.here.small in
      let p : ℕ = data_at + (ends + 4 * a) in
      let v1 : Vars = put v FIRST 2 in
      let v2 : Vars = put v1 FIRST (shifted_left a 2) in
      let v3 : Vars = put v2 SECOND (data_at + 0 + ends) in
      let v4 : Vars = put v3 SECOND (added (data_at + 0 + ends) (4 * a)) in
      let v5 : Vars = put v4 FIRST t.from in
      let v6 : Vars = put v5 SECOND (p + 4) in
      let v7 : Vars = put v6 SECOND (t.from + n) in
      let v8 : Vars = put v7 SECOND (subtracted (t.from + n) t.from) in
      let v9 : Vars = put v8 THIRD (data_at + 0 + names) in
      let v10 : Vars = put v9 FIRST (added (data_at + 0 + names) t.from) in
      let s1 : AllSame v v1 = same_first v 2 in
      let s2 : AllSame v v2 = same_more v v1 v2 s1 (same_first v1 (shifted_left a 2)) in
      let s3 : AllSame v v3 = same_more v v2 v3 s2 (same_second v2 (data_at + 0 + ends)) in
      let s4 : AllSame v v4 = same_more v v3 v4 s3 (same_second v3 (added (data_at + 0 + ends) (4 * a))) in
      let s5 : AllSame v v5 = same_more v v4 v5 s4 (same_first v4 t.from) in
      let s6 : AllSame v v6 = same_more v v5 v6 s5 (same_second v5 (p + 4)) in
      let s7 : AllSame v v7 = same_more v v6 v7 s6 (same_second v6 (t.from + n)) in
      let s8 : AllSame v v8 = same_more v v7 v8 s7 (same_second v7 (subtracted (t.from + n) t.from)) in
      let s9 : AllSame v v9 = same_more v v8 v9 s8 (same_third v8 (data_at + 0 + names)) in
      let s10 : AllSame v v10 = same_more v v9 v10 s9 (same_first v9 (added (data_at + 0 + names) t.from)) in
      let l10 : List WordInstr = handle_code to k in
      let l9 : List WordInstr = Compute FIRST operation.Add THIRD FIRST ∷ l10 in
      let l8 : List WordInstr = Datum THIRD names ∷ l9 in
      let l7 : List WordInstr = Compute SECOND operation.Subtract SECOND FIRST ∷ l8 in
      let l6 : List WordInstr = Load SECOND SECOND Word ∷ l7 in
      let l5 : List WordInstr = Sum SECOND SECOND 4 ∷ l6 in
      let l4 : List WordInstr = Load FIRST SECOND Word ∷ l5 in
      let l3 : List WordInstr = Compute SECOND operation.Add SECOND FIRST ∷ l4 in
      let l2 : List WordInstr = Datum SECOND ends ∷ l3 in
      let l1 : List WordInstr = Compute FIRST operation.ShiftLeft from FIRST ∷ l2 in
      let shift : shifted_left a 2 % 2 ^ 32 ≡ 4 * a = omega (arith, near) in
      let place : added (data_at + 0 + ends) (4 * a) % 2 ^ 32 ≡ p = omega (arith, near) in
      let count : subtracted (t.from + n) t.from % 2 ^ 32 ≡ n = omega (arith, far) in
      let first : added (data_at + 0 + names) t.from % 2 ^ 32 ≡ data_at + (names + t.from) = omega (arith, far) in
      let r1 = run_constant x.live (all_procs x) (within x.table x.blocks g) m l1 v g.words FIRST 2 in
      let r2 = run_compute x.live (all_procs x) (within x.table x.blocks g) m l2 v1 g.words FIRST operation.ShiftLeft from FIRST
      (s1.others from high ∙ e) refl in
      let r3 = run_datum x.live (all_procs x) (within x.table x.blocks g) m l3 v2 g.words SECOND ends in
      let r4 = run_compute x.live (all_procs x) (within x.table x.blocks g) m l4 v3 g.words SECOND operation.Add SECOND FIRST
      (got (data_at + 0 + ends) (omega (arith, near))) (ap Some shift) in
      let r5 = run_load x.live (all_procs x) (within x.table x.blocks g) m l5 v4 g.words FIRST SECOND Word (ap Some place)
      (word_still p t.begins_text ∙ t.begins) in
      let r6 = run_sum x.live (all_procs x) (within x.table x.blocks g) m l6 v5 g.words SECOND SECOND 4 (ap Some place) in
      let r7 = run_load x.live (all_procs x) (within x.table x.blocks g) m l7 v6 g.words SECOND SECOND Word (got (p + 4) (omega (arith, near)))
      (word_still (p + 4) t.closes_text ∙ t.closes) in
      let r8 = run_compute x.live (all_procs x) (within x.table x.blocks g) m l8 v7 g.words SECOND operation.Subtract SECOND FIRST
      (got (t.from + n) (omega (arith, far))) (got t.from (omega (arith, far))) in
      let r9 = run_datum x.live (all_procs x) (within x.table x.blocks g) m l9 v8 g.words THIRD names in
      let r10 = run_compute x.live (all_procs x) (within x.table x.blocks g) m l10 v9 g.words FIRST operation.Add THIRD FIRST
      (got (data_at + 0 + names) (omega (arith, far))) (got t.from (omega (arith, far))) in
      let front = then_runs x.live (all_procs x) (then_runs x.live (all_procs x) (then_runs x.live (all_procs x) r1 r2)
      (then_runs x.live (all_procs x) r3 r4)) (then_runs x.live (all_procs x) r5 (then_runs x.live (all_procs x) r6 r7)) in
      let back = then_runs x.live (all_procs x) r8 (then_runs x.live (all_procs x) r9 r10) in
      laid_handle x said g line rest y to low up_to whole (names + t.from) text t.here letters (name_handle_code to ends names from k) k v10 s10 (ap Some first)
      (ap Some count) 10 (omega arith) (then_runs x.live (all_procs x) front back)
