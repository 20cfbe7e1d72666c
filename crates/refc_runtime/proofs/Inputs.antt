-- Bytes of input come to memory.
use Rattle.std.proofs.Common.{◌≡◌, ℕ, suc, ◌+◌, ◌*◌, ◌%◌, List, [], ◌∷◌, length, take, drop, Some, Ok, Err, true, sym, ap, ap₂, subst, ◌∙◌, arith}
use Rattle.std.specs.Prelude.{min, ◌==◌, if◌then◌else◌}
use Rattle.std.proofs.lemmas.Bool.{eq-eqb, cond-true}
use Rattle.rv32_isa.specs.declared.micro_op.Size.TheVariants.{Byte}
use Rattle.rv32_isa.specs.declared.machine.FaultKind.TheVariants.{Misaligned}
use Rattle.rv32_isa.specs.Machine.{Lives}
use Rattle.rv32_isa.specs.Regions.{AreBytes, HasRegions, as_bytes}
use Rattle.rv32_isa.specs.State.{State, readable, filled}
use Rattle.rv32_isa.specs.Steps.{number_of}
use Rattle.word_code.specs.declared.word.WordInstr.{WordInstr}
use Rattle.word_code.specs.declared.word.WordInstr.TheVariants.{Read}
use Rattle.word_code.specs.declared.word.WordProc.{WordProc}
use Rattle.word_code.specs.Memory.{KeepsShape, Memory, as_state, memory_of, number_at, bytes_at, may_fill, with_bytes}
use Rattle.word_code.specs.Words.{Vars, put, WordScene, Fails, using, reads, WordState, scene_of, settled, step}
use Rattle.word_code.specs.RoutineTable.{IsRewritten}
use Rattle.word_code.proofs.ForCallers.{MemoryLaw, Sized, one, Runs, Within, at as state_at}

-- a state without registers and code is its memory
state_with : State → List ℕ → ℕ → List ℕ → State
state_with t regs pc code = record { regs = regs; pc = pc; code = code; statics = t.statics; heap = t.heap; stack = t.stack }

same_state : (t : State) → t.regs ≡ [] → t.pc ≡ 0 → t.code ≡ [] → as_state (memory_of t) ≡ t
unfolding state_with
same_state t r p c =
    ap (λ x. state_with t x 0 []) (sym r) ∙ ap (λ x. state_with t t.regs x []) (sym p) ∙ ap (λ x. state_with t t.regs t.pc x) (sym c)

module _ (law : MemoryLaw) (m : Memory) (sized : Sized m) (a : ℕ) (bytes : List ℕ) (may : may_fill m a (length bytes) ≡ true)
    (are : AreBytes bytes) where
  kept : KeepsShape (as_state m) (filled (as_state m) a bytes)
  kept = law.sizes (as_state m) a bytes are may

  with_state : as_state (with_bytes m a bytes) ≡ filled (as_state m) a bytes
  with_state = same_state (filled (as_state m) a bytes) kept.regs kept.pc kept.code

  pub bytes_written : IsRewritten m (with_bytes m a bytes) a (length bytes)
  bytes_written = record {
    sizes = subst (KeepsShape (as_state m)) (sym with_state) kept;
    beside = λ b n apart. ap (λ s. readable s b n) with_state ∙ law.elsewhere (as_state m) a bytes b n may apart;
  }

  pub bytes_sized : Sized (with_bytes m a bytes)
  bytes_sized = subst HasRegions (sym with_state) (law.regions (as_state m) (filled (as_state m) a bytes) sized kept)

  pub bytes_there : bytes_at (with_bytes m a bytes) a (length bytes) ≡ Some bytes
  bytes_there = ap (λ s. readable s a (length bytes)) with_state ∙ law.here (as_state m) a bytes sized may

-- a byte is loaded
pub byte_read : (m : Memory) (a b : ℕ) → bytes_at m a 1 ≡ Some (b ∷ []) → number_at m a Byte ≡ Ok b
byte_read m a b here =
    let e : b + 256 * 0 ≡ b = omega arith in
    cond-true (a % 1 == 0) (number_of (bytes_at m a 1)) (Err Misaligned) (eq-eqb (a % 1) 0 (omega arith)) ∙ ap number_of here ∙ ap Ok e

min_one : (k : ℕ) → min 1 (suc k) ≡ 1
min_one k = omega arith

module _ (live : Lives) (procs : List WordProc) (c : Within) (m : Memory) (k : List WordInstr) (v g : Vars) where
  -- with the input that is left
  abbrev pub leaving : List ℕ → Within
  leaving input = record c { input = input }

  pub run_read : {a : ℕ} (to address len : ℕ) (count : ℕ) → v address ≡ Some a → v len ≡ Some 1 → min 1 (length c.input) ≡ count
      → may_fill m a 1 ≡ true
      → Runs live procs 1 (state_at c m (Read to address len ∷ k) v g)
      (state_at (leaving (drop count c.input)) (with_bytes m a (as_bytes (take count c.input))) k (put v to count) g)
  run_read {a} to address len count e f few may =
      let s : WordState = state_at c m (Read to address len ∷ k) v g in
      let x : WordScene = scene_of s in
      one (step live procs) (λ bytes. ap₂ (λ o p. settled live procs bytes s k (using o (λ b. using p (λ n.
      if may_fill m b n then reads x to b (min n (length c.input)) else Fails)))) e f
      ∙ ap (λ t. settled live procs bytes s k (if t then reads x to a (min 1 (length c.input)) else Fails)) may
      ∙ ap (λ i. settled live procs bytes s k (reads x to a i)) few)

  -- no byte is left
  pub run_read_none : {a : ℕ} (to address len : ℕ) → v address ≡ Some a → v len ≡ Some 1 → c.input ≡ [] → may_fill m a 1 ≡ true
      → Runs live procs 1 (state_at c m (Read to address len ∷ k) v g) (state_at (leaving []) m k (put v to 0) g)
  run_read_none {a} to address len e f none may =
      subst (λ i. Runs live procs 1 (state_at c m (Read to address len ∷ k) v g)
      (state_at (leaving (drop 0 i)) (with_bytes m a (as_bytes (take 0 i))) k (put v to 0) g)) none
      (run_read to address len 0 e f (ap (λ i. min 1 (length i)) none) may)

  -- one is read, as a byte
  pub run_read_one : {a : ℕ} (to address len d : ℕ) (ds : List ℕ) → v address ≡ Some a → v len ≡ Some 1 → c.input ≡ d ∷ ds → may_fill m a 1 ≡ true
      → Runs live procs 1 (state_at c m (Read to address len ∷ k) v g) (state_at (leaving ds) (with_bytes m a (d % 256 ∷ [])) k (put v to 1) g)
  run_read_one {a} to address len d ds e f some may =
      subst (λ i. Runs live procs 1 (state_at c m (Read to address len ∷ k) v g)
      (state_at (leaving (drop 1 i)) (with_bytes m a (as_bytes (take 1 i))) k (put v to 1) g)) some
      (run_read to address len 1 e f (ap (λ i. min 1 (length i)) some ∙ min_one (length ds)) may)
