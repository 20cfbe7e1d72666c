-- Label code's machine with the memory of word code, and with the rest of the stack behind the places; and steps of it.
use Rattle.std.proofs.Common.{◌≡◌, ◌≢◌, ℕ, zero, suc, ◌+◌, ◌*◌, ◌%◌, ◌<◌, ◌≤◌, List, [], ◌∷◌, ◌++◌}
use Rattle.std.proofs.Common.{length, get_or, refl, ap, ◌∙◌, arith}
use Rattle.std.proofs.Common.{length-append}
use Rattle.std.proofs.lemmas.List.{get_or-set_other}
use Rattle.arc_base.specs.Stepping.{Goes}
use Rattle.arc_base.specs.Simulation.{Steps}
use Rattle.arc_base.proofs.ForCallers.{steps_one, steps_on}
use Rattle.rv32_isa.specs.declared.instr.Instr.{Instr}
use Rattle.rv32_isa.specs.declared.label.LabelLine.{LabelLine}
use Rattle.rv32_isa.specs.declared.label.LabelLine.TheVariants.{Do}
use Rattle.rv32_isa.specs.Image.{statics_at, stack_at}
use Rattle.rv32_isa.specs.State.{State, with_reg, skip}
use Rattle.rv32_isa.specs.Steps.{written}
use Rattle.rv32_isa.specs.Regions.{HasRegions}
use Rattle.rv32_isa.specs.Machine.{Lives}
use Rattle.rv32_isa.specs.Labels.{Addresses}
use Rattle.rv32_isa.specs.LabelsMeaning.{LabelRun, still, hook_at, did, led, step}
use Rattle.rv32_logic.specs.Registers.{put, IsRegs}
use Rattle.rv32_logic.proofs.ForCallers.{put_regs}
use Rattle.word_code.specs.Memory.{Memory}
use Rattle.rv32_codegen.specs.Code.{does}

-- ---- states

abbrev pub state_of : (regs : List ℕ) → Memory → (ws : List ℕ) → State
state_of regs m ws = record { regs = regs; pc = 0; code = []; statics = m.statics; heap = m.heap; stack = m.places ++ ws }

abbrev pub run_at : (regs : List ℕ) → Memory → (ws input : List ℕ) → List LabelLine → LabelRun
run_at regs m ws input left = record { state = state_of regs m ws; left = left; input = input }

-- the regions have the sizes of an image's, and words stand at multiples of 4
pub record Fits (m : Memory) (ws : List ℕ) : Type 0 where
  pub statics_most : length m.statics ≤ 1048576
  pub heap_most : length m.heap ≤ 16777216
  pub stack_most : length m.places + length ws ≤ 268435456
  pub whole : length m.places % 4 ≡ 0

pub regions : (regs : List ℕ) (m : Memory) (ws : List ℕ) → Fits m ws → HasRegions (state_of regs m ws)
regions regs m ws h = record {
  code_most = omega arith;
  statics_most = h.statics_most;
  heap_most = h.heap_most;
  stack_most = omega (arith, length-append m.places ws, h.stack_most);
}

-- the same memory with as many bytes behind the places
pub fits_words : (m : Memory) (ws new : List ℕ) → length new ≡ length ws → Fits m ws → Fits m new
fits_words m ws new long h = record {
  statics_most = h.statics_most;
  heap_most = h.heap_most;
  stack_most = omega (arith, long, h.stack_most);
  whole = h.whole;
}

-- the address of a word of the frames
abbrev pub word_place : Memory → ℕ → ℕ
word_place m k = stack_at + (length m.places + 4 * k)

-- the registers that code keeps: where the frame begins, where the places end, where the data begins
pub record Regs (regs : List ℕ) (frame places : ℕ) : Type 0 where
  pub good : IsRegs regs
  pub frame_is : get_or regs 2 0 ≡ frame
  pub places_is : get_or regs 3 0 ≡ places
  pub data_is : get_or regs 4 0 ≡ statics_at

-- another register than the one that was written
pub put_other : (regs : List ℕ) (r s value : ℕ) → s ≢ r → get_or (put regs r value) s 0 ≡ get_or regs s 0
put_other regs zero s value ne = refl
put_other regs (suc r) s value ne = get_or-set_other regs (suc r) s value 0 ne

pub put_kept : (regs : List ℕ) (r value frame places : ℕ) → 4 < r → Regs regs frame places → Regs (put regs r value) frame places
put_kept regs r value frame places gt h = record {
  good = put_regs regs r value h.good;
  frame_is = put_other regs r 2 value (λ e. omega (arith, gt, e)) ∙ h.frame_is;
  places_is = put_other regs r 3 value (λ e. omega (arith, gt, e)) ∙ h.places_is;
  data_is = put_other regs r 4 value (λ e. omega (arith, gt, e)) ∙ h.data_is;
}

-- ---- points at which no hook begins

abbrev pub Quiet : List LabelLine → Type 0
Quiet lines = hook_at lines ≡ []

pub quiet_does : (is : List Instr) (rest : List LabelLine) → Quiet rest → Quiet (does is rest)
quiet_does [] rest h = h
quiet_does (i ∷ is) rest h = refl

-- ---- steps

still_put : (s : State) (rd value : ℕ) → still (skip (with_reg s rd value)) ≡ still (record s { regs = put s.regs rd value })
still_put s zero value = refl
still_put s (suc rd) value = refl

module _ (live : Lives) (whole : List LabelLine) (at : Addresses) where
  -- in at least so many steps, with at most so much work
  abbrev pub Goes_in : (least most : ℕ) → LabelRun → LabelRun → Type 0
  Goes_in least most r s = Steps (step live whole at) least r [] most s

  pub then_goes : (k l p q : ℕ) (r s t : LabelRun) → Goes_in k p r s → Goes_in l q s t → Goes_in (k + l) (p + q) r t
  then_goes k l p q r s t x y = steps_on (step live whole at) k l p q r s t [] [] x y

  -- less is known
  pub goes_within : (k l p q : ℕ) (r s : LabelRun) → l ≤ k → p ≤ q → Goes_in k p r s → Goes_in l q r s
  goes_within k l p q r s less more h =
      record { work = h.work; within = omega (arith, h.within, more); by = λ n. let x = h.by n in (x.0, omega (arith, x.1, less), x.2) }

  module _ (m : Memory) (ws input : List ℕ) where
    -- one instruction, that leads to a state
    pub instr_goes : (regs : List ℕ) (i : Instr) (next : State) (rest : List LabelLine) → Quiet rest →
        did live whole at (run_at regs m ws input (Do i ∷ rest)) rest i ≡ Goes ([] ++ hook_at rest) 1 (record {
          state = next;
          left = rest;
          input = input;
        }) →
        Goes_in 1 1 (run_at regs m ws input (Do i ∷ rest)) (record { state = next; left = rest; input = input })
    instr_goes regs i next rest quiet e =
        steps_one (step live whole at) _ _ [] 1 1 (e ∙ ap (λ es. Goes es 1 (record { state = next; left = rest; input = input })) quiet) (omega arith)

    -- an instruction that writes a register
    pub writes : (regs : List ℕ) (i : Instr) (rd value : ℕ) (rest : List LabelLine) → Quiet rest →
        did live whole at (run_at regs m ws input (Do i ∷ rest)) rest i
        ≡ led live whole at (run_at regs m ws input (Do i ∷ rest)) rest (written (state_of regs m ws) rd value) →
        Goes_in 1 1 (run_at regs m ws input (Do i ∷ rest)) (run_at (put regs rd value) m ws input rest)
    writes regs i rd value rest quiet e = instr_goes regs i (state_of (put regs rd value) m ws) rest quiet
        (e ∙ ap (λ s. Goes ([] ++ hook_at rest) 1 (record { state = s; left = rest; input = input })) (still_put (state_of regs m ws) rd value))
