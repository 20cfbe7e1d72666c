-- The routines that write the line of a trap and end the program keep what they promise.
use Rattle.std.proofs.Common.{◌≡◌, ℕ, ◌+◌, ◌^◌, ◌<◌, ◌≤◌, List, [], ◌∷◌, length, take, drop, Some, refl, sym, ap, subst, ◌∙◌, arith}
use Rattle.std.proofs.Common.{append-nil, true}
use Rattle.std.proofs.lemmas.Bool.{true≢false}
use Rattle.arc_base.specs.Event.{Event, writes}
use Rattle.arc_base.specs.declared.outside.Stream.TheVariants.{Err}
use Rattle.arc_base.specs.Stepping.{Next}
use Rattle.word_code.proofs.ForCallers.{AlwaysSteps, AlwaysStops}
use Rattle.nim_program.specs.Traps.{Trap, Overflow, DivisionByZero, IndexOutOfBounds, OutOfRange, NilDereference, LengthChanged, CallDepth, OutOfMemory}
use Rattle.rv32_isa.specs.Machine.{Lives}
use Rattle.word_code.specs.declared.routine.TheConstants.{SCRATCH_BYTES}
use Rattle.word_code.specs.declared.word.WordInstr.{WordInstr}
use Rattle.word_code.specs.declared.word.WordInstr.TheVariants.{Constant, Write, Exit, Call}
use Rattle.word_code.specs.declared.word.WordProc.{WordProc}
use Rattle.word_code.specs.Memory.{Memory, as_state, bytes_at, own_data_at}
use Rattle.word_code.specs.Words.{Vars, no_words, put, params_of, from_proc, WordState, step}
use Rattle.word_code.specs.Routines.{HasData, IsKept}
use Rattle.word_code.specs.RoutineTable.{trap_number, trap_line, is_built, writes_trap}
use Rattle.word_code.proofs.ForCallers.{on, ends_one, stops_on, got, Sized, Within, at, run_constant, run_datum, run_write}
use Rattle.refc_runtime.specs.Code.{trap_at, ending_lines, statics}
use Rattle.heap_memory.proofs.ForCallers.{read_in, part_read}
use Rattle.refc_runtime.proofs.Calls.{later, within, inside, enters, stops_call}

-- where a line stands among the bytes that stay
record Standing (trap : Trap) : Type 0 where
  behind : ℕ
  place : trap_at trap ≡ SCRATCH_BYTES + behind
  within : behind + length (trap_line trap) ≤ length (drop SCRATCH_BYTES statics)
  is : take (length (trap_line trap)) (drop behind (drop SCRATCH_BYTES statics)) ≡ trap_line trap

standing : (trap : Trap) → is_built trap ≡ true → Standing trap
standing Overflow built = record { behind = 0; place = refl; within = omega arith; is = refl }
standing DivisionByZero built = record { behind = 16; place = refl; within = omega arith; is = refl }
standing IndexOutOfBounds built = record { behind = 40; place = refl; within = omega arith; is = refl }
standing OutOfRange built = record { behind = 68; place = refl; within = omega arith; is = refl }
standing LengthChanged built = record { behind = 96; place = refl; within = omega arith; is = refl }
standing CallDepth built = record { behind = 120; place = refl; within = omega arith; is = refl }
standing NilDereference built = absurd (true≢false (sym built))
standing OutOfMemory built = absurd (true≢false (sym built))

module _ (live : Lives) (procs : List WordProc) (n : ℕ) (others : List WordProc) where
  abbrev own : ℕ
  own = own_data_at + n

  -- the line is in memory, at an address that is a word
  record Line (m : Memory) (trap : Trap) : Type 0 where
    here : bytes_at m (own_data_at + (n + 0) + trap_at trap) (length (trap_line trap)) ≡ Some (trap_line trap)
    low : own_data_at + (n + 0) + trap_at trap < 2 ^ 32
    short : length (trap_line trap) < 2 ^ 32

  line_there : (m : Memory) → Sized m → HasData own statics m → (trap : Trap) → is_built trap ≡ true → Line m trap
  line_there m sized there trap built =
      let t = standing trap built in
      let x = read_in m sized (own + SCRATCH_BYTES) (length (drop SCRATCH_BYTES statics)) (drop SCRATCH_BYTES statics) (omega arith) (omega arith)
      there.fixed in
      let ends = x.region.ends in
      let high = x.high in
      let place = t.place in
      let within = t.within in
      let all : length (drop SCRATCH_BYTES statics) ≡ 144 = refl in
      let at_same : own_data_at + (n + 0) + trap_at trap ≡ own + SCRATCH_BYTES + t.behind = omega (arith, place) in
      record {
        here = ap (λ a. bytes_at m a (length (trap_line trap))) at_same
            ∙ part_read m sized (own + SCRATCH_BYTES) (length (drop SCRATCH_BYTES statics)) (drop SCRATCH_BYTES statics) x there.fixed t.behind
            (length (trap_line trap)) within
            ∙ ap Some t.is;
        low = omega (arith, place, ends, high, within, all);
        short = omega (arith, within, all);
      }

  pub trap_kept : (trap : Trap) → is_built trap ≡ true
      → from_proc (trap_number trap) procs ≡ later n (trap_number trap) 0 2 (ending_lines (trap_at trap) (length (trap_line trap))) ∷ others
      → IsKept live procs own statics (writes_trap trap)
  trap_kept trap built stands u s to rest calling sized there may =
      let l = line_there s.memory sized there trap built in
      let m : Memory = s.memory in
      let len : ℕ = length (trap_line trap) in
      let lines : List WordInstr = ending_lines (trap_at trap) len in
      let p : WordProc = later n (trap_number trap) 0 2 lines in
      let c : Within = inside s p to rest in
      let a : ℕ = own_data_at + (n + 0) + trap_at trap in
      let v0 : Vars = params_of p s.frame.given in
      let v1 : Vars = put v0 0 a in
      let v2 : Vars = put v1 1 len in
      let v3 : Vars = put v2 0 1 in
      let l4 : List WordInstr = Exit 0 ∷ [] in
      let l3 : List WordInstr = Constant 0 1 ∷ l4 in
      let l2 : List WordInstr = Write Err 0 1 ∷ l3 in
      let l1 : List WordInstr = Constant 1 len ∷ l2 in
      let machine : List ℕ → WordState → Next Event WordState = step live procs in
      let start : WordState = at (within s) m (Call to (trap_number trap) ∷ rest) s.frame.vars s.frame.given in
      let r0 = enters live procs s to rest n (trap_number trap) 0 2 lines others stands in
      let r1 = run_datum live procs c m l1 v0 no_words 0 (trap_at trap) in
      let r2 = run_constant live procs c m l2 v1 no_words 1 len in
      let r3 : AlwaysSteps machine 1 (at c m l2 v2 no_words) (writes Err (trap_line trap)) 1 (at c m l3 v2 no_words)
      = run_write live procs c m l3 v2 no_words Err 0 1 (trap_line trap) (got a l.low) (got len l.short) l.here in
      let r4 = run_constant live procs c m l4 v2 no_words 0 1 in
      let r5 : AlwaysStops machine (at c m l4 v3 no_words) [] 1 1 (live (as_state m)) =
      ends_one machine (at c m l4 v3 no_words) [] 1 1 (live (as_state m)) (λ bytes. refl) in
      let front = on machine (on machine r0 (on machine r1 r2)) r3 in
      let back : AlwaysStops machine (at c m l3 v2 no_words) [] 2 1 (live (as_state m))
      = stops_on machine 1 1 1 1 (at c m l3 v2 no_words) (at c m l4 v3 no_words) [] [] (live (as_state m)) r4 r5 in
      record {
        memory = m;
        leaves = refl;
        stops = stops_call live procs s to rest (trap_number trap) _ 6 1 _ calling.next
            (subst (λ es. AlwaysStops machine start es 6 1 (live (as_state m))) (append-nil (writes Err (trap_line trap)))
            (stops_on machine 4 4 2 1 start (at c m l3 v2 no_words) (writes Err (trap_line trap)) [] (live (as_state m)) front back));
      }
