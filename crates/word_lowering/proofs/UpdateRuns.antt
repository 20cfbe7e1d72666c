-- How the code of the operations runs by which a place may be updated, also to and from a variable for what comes between.
use Rattle.std.proofs.Common.{◌≡◌, ℕ, ◌^◌, ◌<◌, ◌≤◌, List, ◌∷◌, Some, Bool, true, false, refl, ◌∙◌, arith}
use Rattle.std.specs.Prelude.{ℤ, ◌+ℤ◌, ◌-ℤ◌, ◌*ℤ◌, if◌then◌else◌}
use Rattle.rv32_isa.specs.Machine.{Lives}
use Rattle.rv32_isa.specs.declared.micro_op.Size.TheVariants.{Word as whole}
use Rattle.nim_program.specs.declared.operation.Operator.{Operator}
use Rattle.nim_program.specs.declared.operation.Operator.TheVariants as binary
use Rattle.nim_program.specs.Fitting.{updates}
use Rattle.nim_program.specs.Ints.{Checked, Fine, Trapped, fits, checked, applied}
use Rattle.nim_program.specs.Traps.{Overflow}
use Rattle.nim_meaning.specs.Values.{Number}
use Rattle.word_code.specs.declared.word.WordInstr.{WordInstr}
use Rattle.word_code.specs.declared.word.WordInstr.TheVariants.{Store}
use Rattle.word_code.specs.declared.word.WordProc.{WordProc}
use Rattle.word_code.specs.Memory.{Memory, with_number}
use Rattle.word_code.specs.RoutineTable.{Cell}
use Rattle.word_code.specs.Words.{Vars, put, from_label}
use Rattle.word_code.proofs.ForCallers.{MemoryLaw, Runs, Sized, Within, at, changed_word, got, put_here, run_store, then_runs}
use Rattle.heap_memory.specs.declared.numbers.TheConstants.{HEAP_DATA}
use Rattle.word_lowering.specs.declared.homes.TheConstants.{FIRST, FOURTH}
use Rattle.word_lowering.specs.declared.homes.Home.{Home}
use Rattle.word_lowering.specs.Operations.{binary_code, trap_label, word}
use Rattle.word_lowering.specs.Spots.{address}
use Rattle.word_lowering.proofs.Moves.{ToMemory, address_runs, same_first}
use Rattle.word_lowering.proofs.OrdinalRuns.{Gives, Leads, difference_gives, difference_traps, product_gives, product_traps, put_under, sum_gives, sum_traps}
use Rattle.word_lowering.proofs.Scenes.{Points}
use Rattle.word_lowering.proofs.ShapeFacts.{never}

module _ (live : Lives) (procs : List WordProc) (c : Within) (m : Memory) (g : Vars) where
  -- a number that has to be an int comes by six lines, or five lead to the label of a trap
  abbrev pub Comes : List WordInstr → Vars → ℕ → List WordInstr → Checked → Type 0
  Comes lines v to k (Fine z) = (fits z ≡ true) × Gives live procs c m g lines v to (word z) k 6
  Comes lines v to k (Trapped trap) =
      (there : List WordInstr) → from_label (trap_label trap) c.proc.lines ≡ Some there → Leads live procs c m g lines v there 5

  comes_checked : (lines : List WordInstr) (v : Vars) (to : ℕ) (k : List WordInstr) (z : ℤ) → (fits z ≡ true → Gives live procs c m g lines v to (word z) k 6)
      → (fits z ≡ false → (there : List WordInstr) → from_label (trap_label Overflow) c.proc.lines ≡ Some there → Leads live procs c m g lines v there 5)
      → Comes lines v to k (checked z)
  comes_checked lines v to k z gives leads = by (fits z) refl
    where
      by : (b : Bool) → fits z ≡ b → Comes lines v to k (if b then Fine z else Trapped Overflow)
      by true e = (e, gives e)
      by false e = leads e

  module _ (v : Vars) (to a b : ℕ) (high_to : FOURTH ≤ to) (high_a : FOURTH ≤ a) (high_b : FOURTH ≤ b) (x y : ℤ)
      (fx : fits x ≡ true) (fy : fits y ≡ true) (ea : v a ≡ Some (word x)) (eb : v b ≡ Some (word y)) (k : List WordInstr) (label : ℕ) where
    pub update_comes : (operator : Operator) → updates operator ≡ true → Comes (binary_code label operator to a b k) v to k (applied operator x y)
    update_comes binary.Add h = comes_checked (binary_code label binary.Add to a b k) v to k (x +ℤ y)
        (sum_gives live procs c m g v to a b high_to high_a high_b x y fx fy ea eb k)
        (λ f there stands. sum_traps live procs c m g v to a b high_to high_a high_b x y fx fy ea eb k there stands f)
    update_comes binary.Subtract h = comes_checked (binary_code label binary.Subtract to a b k) v to k (x -ℤ y)
        (difference_gives live procs c m g v to a b high_to high_a high_b x y fx fy ea eb k)
        (λ f there stands. difference_traps live procs c m g v to a b high_to high_a high_b x y fx fy ea eb k there stands f)
    update_comes binary.Multiply h = comes_checked (binary_code label binary.Multiply to a b k) v to k (x *ℤ y)
        (product_gives live procs c m g v to a b high_to high_a high_b x y fx fy ea eb k)
        (λ f there stands. product_traps live procs c m g v to a b high_to high_a high_b x y fx fy ea eb k there stands f)
    update_comes operator h = never h

-- the number in FOURTH is put to an address
pub fourth_stored : (law : MemoryLaw) (live : Lives) (procs : List WordProc) (c : Within) (from_first : c.proc.data_from ≡ HEAP_DATA) (g : Vars) (m : Memory) →
    Sized m
    → (k : List WordInstr) (v : Vars) (home : Home) (a : ℕ) → Points c.base v home a → (z : ℤ) → word z < 2 ^ 32 → v FOURTH ≡ Some (word z) → Cell m a
    → a < 2 ^ 32 → ToMemory law live procs c from_first g m (address FIRST home ∷ Store FIRST FOURTH whole ∷ k) v a (Number z) 4 k
fourth_stored law live procs c from_first g m sized k v home a points z small e cell near =
    let v1 : Vars = put v FIRST a in
    let r1 = address_runs law live procs c from_first g m (Store FIRST FOURTH whole ∷ k) v FIRST home a points in
    let e1 : v1 FOURTH ≡ Some (word z) = put_under v FIRST a FOURTH (omega arith) (omega arith) ∙ e in
    let r2 : Runs live procs 1 (at c m (Store FIRST FOURTH whole ∷ k) v1 g) (at c (with_number m a whole (word z)) k v1 g)
    = run_store live procs c m k v1 g FIRST FOURTH whole (got a near) e1 cell.may in
    record {
      memory = with_number m a whole (word z);
      vars = v1;
      words = g;
      awaits = c.awaits;
      same = same_first v a;
      changed = changed_word law m a (word z) sized cell small;
      there = put_here law m a (word z) sized cell.may small;
      steps = 2;
      some = omega arith;
      few = omega arith;
      runs = then_runs live procs r1 r2;
    }
