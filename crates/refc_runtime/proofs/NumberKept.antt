-- The routines that spell a number keep what they promise.
use Rattle.std.proofs.Common.{◌≡◌, ℕ, suc, ℤ, pos, negsuc, ◌+◌, ◌%◌, ◌^◌, ◌<◌, ◌≤◌, List, [], ◌∷◌, ◌++◌, length, Some, refl, ap, subst, arith, append-nil}
use Rattle.std.specs.Prelude.{unsigned_abs}
use Rattle.std.specs.Fmt.{decimal, signed_decimal}
use Rattle.std.proofs.lemmas.Fmt.{decimal_by_steps}
use Rattle.arc_base.specs.Event.{writes}
use Rattle.arc_base.specs.declared.outside.Stream.TheVariants.{Out}
use Rattle.rv32_isa.specs.Machine.{Lives}
use Rattle.rv32_isa.specs.Values.{signed, subtracted}
use Rattle.word_code.specs.declared.routine.TheConstants.{NUMBER}
use Rattle.word_code.specs.declared.word.WordOperation.TheVariants.{Subtract}
use Rattle.word_code.specs.declared.word.WordInstr.{WordInstr}
use Rattle.word_code.specs.declared.word.WordInstr.TheVariants.{Sum, Datum, Compute, Call, Return, Write}
use Rattle.word_code.specs.declared.word.WordProc.{WordProc}
use Rattle.word_code.specs.Memory.{Memory, own_data_at}
use Rattle.word_code.specs.Words.{Vars, no_words, put, params_of, from_proc, WordState, step}
use Rattle.word_code.specs.Routines.{IsKept, goes_on}
use Rattle.word_code.specs.RoutineTable.{writes_number}
use Rattle.word_code.proofs.ForCallers.{MemoryLaw, AlwaysSteps, Runs, on, then_runs, Within, at as state_at, run_datum, run_sum, run_compute}
use Rattle.word_code.proofs.ForCallers.{run_write, got}
use Rattle.heap_memory.specs.declared.numbers.TheConstants.{DIGITS}
use Rattle.refc_runtime.specs.Code.{number_lines, digits_lines, statics as data_of}
use Rattle.heap_memory.specs.HeapRoutines.{IsKeptThere}
use Rattle.heap_memory.specs.TextRoutines.{AreBytes, spells}
use Rattle.refc_runtime.proofs.Calls.{later, within, inside, enters, from_call, returns_before}
use Rattle.heap_memory.proofs.ForCallers.{written_in}
use Rattle.refc_runtime.proofs.SignedWords.{word_fits, magnitude}
use Rattle.refc_runtime.proofs.Spelling.{IsSpelled as Spelt, number_spelled}

pub number_kept : (law : MemoryLaw) (live : Lives) (procs : List WordProc) (n : ℕ) (others : List WordProc)
    → from_proc NUMBER procs ≡ later n NUMBER 1 7 number_lines ∷ others
    → IsKept live procs (own_data_at + n) data_of (writes_number (own_data_at + n))
number_kept law live procs n others stands x s to rest calling sized there may =
    let p : WordProc = later n NUMBER 1 7 number_lines in
    let c : Within = inside s p to rest in
    let own : ℕ = own_data_at + n in
    let v : Vars = params_of p s.frame.given in
    let l5 : List WordInstr = Return 3 ∷ [] in
    let l4 : List WordInstr = Write Out 2 3 ∷ l5 in
    let l3 : List WordInstr = Compute 3 Subtract 3 2 ∷ l4 in
    let l2 : List WordInstr = Datum 3 12 ∷ l3 in
    let room = written_in s.memory sized own 12 (omega arith) there.scratch in
    let region = room.region in
    let top = region.ends in
    let high = room.high in
    let low : own + 12 < 2 ^ 32 = omega (arith, top, high) in
    let place : own_data_at + (n + 0) + 11 ≡ own + 11 = omega arith in
    let end : own_data_at + (n + 0) + 12 ≡ own + 12 = omega arith in
    let x1 : Spelt law live procs c l2 s.memory sized own there.scratch refl refl refl (Datum 2 11) v (λ l.
    subst (λ a. Runs live procs 1 (state_at c s.memory (Datum 2 11 ∷ l) (put v 5 10) no_words)
    (state_at c s.memory l (put (put v 5 10) 2 a) no_words)) place (run_datum live procs c s.memory l (put v 5 10) no_words 2 11)) x
    = number_spelled law live procs c l2 s.memory sized own there.scratch refl refl refl (Datum 2 11) v (λ l.
    subst (λ a. Runs live procs 1 (state_at c s.memory (Datum 2 11 ∷ l) (put v 5 10) no_words)
    (state_at c s.memory l (put (put v 5 10) 2 a) no_words)) place (run_datum live procs c s.memory l (put v 5 10) no_words 2 11)) x may
    calling.given.0 in
    let text : List ℕ = signed_decimal (signed x) in
    let m : Memory = x1.memory in
    let ends = x1.shown.ends in
    let v1 : Vars = put x1.vars 3 (own + 12) in
    let v2 : Vars = put v1 3 (subtracted (own + 12) (own + x1.at)) in
    let count : subtracted (own + 12) (own + x1.at) % 2 ^ 32 ≡ length text = omega (arith, ends, low) in
    let e3 : v2 3 ≡ Some (length text) = ap Some count in
    let r1 : Runs live procs 1 (state_at c m l2 x1.vars no_words) (state_at c m l3 v1 no_words)
    = subst (λ a. Runs live procs 1 (state_at c m l2 x1.vars no_words) (state_at c m l3 (put x1.vars 3 a) no_words)) end
    (run_datum live procs c m l3 x1.vars no_words 3 12) in
    let r2 = run_compute live procs c m l4 v1 no_words 3 Subtract 3 2 (got (own + 12) low) x1.two_is in
    let r3 : AlwaysSteps (step live procs) 1 (state_at c m l4 v2 no_words) (writes Out text) 1 (state_at c m l5 v2 no_words)
    = run_write live procs c m l5 v2 no_words Out 2 3 text x1.two_is e3 x1.shown.bytes in
    let r4 = returns_before live procs s to rest [] p refl m v2 3 (length text) e3 in
    let called = enters live procs s to rest n NUMBER 1 7 number_lines others stands in
    let few = x1.few in
    let front = then_runs live procs called (then_runs live procs x1.runs (then_runs live procs r1 r2)) in
    let start : WordState = state_at (within s) s.memory (Call to NUMBER ∷ rest) s.frame.vars s.frame.given in
    let all : AlwaysSteps (step live procs) (1 + (x1.lines + 2) + 1 + 1) start (writes Out text) (1 + (x1.lines + 2) + 1 + 1)
    (goes_on s to (length text) rest m s.input)
    = subst (λ es. AlwaysSteps (step live procs) (1 + (x1.lines + 2) + 1 + 1) start es (1 + (x1.lines + 2) + 1 + 1)
    (goes_on s to (length text) rest m s.input)) (append-nil (writes Out text)) (on (step live procs) (on (step live procs) front r3) r4) in
    record {
      memory = m;
      word = length text;
      leaves = x1.shown.rewritten;
      gives = tt;
      lines = 1 + (x1.lines + 2) + 1 + 1;
      few = omega (arith, few);
      steps = (from_call live procs s to rest NUMBER (writes Out text) _ _ _ calling.next all).by;
    }

-- ---- without a write

-- its characters are bytes
spelled_bytes : (x : ℕ) → x < 2 ^ 32 → AreBytes (signed_decimal (signed x))
spelled_bytes x small = by (signed x) (magnitude (signed x) (word_fits x small))
  where
    last : (k : ℕ) → k < 10 → AreBytes ((48 + k) ∷ [])
    last k less = (omega (arith, less), tt)

    behind : (bs : List ℕ) (b : ℕ) → AreBytes bs → b < 256 → AreBytes (bs ++ b ∷ [])
    behind [] b are less = (less, tt)
    behind (a ∷ bs) b are less = (are.0, behind bs b are.1 less)

    more : (k : ℕ) (digits : List ℕ) → 10 ≤ k → AreBytes digits → AreBytes (digits ++ (48 + k % 10) ∷ [])
    more k digits large are = behind digits (48 + k % 10) are (omega arith)

    digits_are : (k : ℕ) → k ≤ 2 ^ 31 → AreBytes (decimal k)
    digits_are k most = decimal_by_steps (λ k digits. AreBytes digits) last more k (omega (arith, most))

    by : (z : ℤ) → unsigned_abs z ≤ 2 ^ 31 → AreBytes (signed_decimal z)
    by (pos k) most = digits_are k most
    by (negsuc k) most = (omega arith, digits_are (suc k) most)

pub digits_kept : (law : MemoryLaw) (live : Lives) (procs : List WordProc) (n : ℕ) (others : List WordProc)
    → from_proc DIGITS procs ≡ later n DIGITS 2 7 digits_lines ∷ others → IsKeptThere live procs spells
digits_kept law live procs n others stands u s to rest calling sized may =
    let p : WordProc = later n DIGITS 2 7 digits_lines in
    let c : Within = inside s p to rest in
    let v : Vars = params_of p s.frame.given in
    let l : List WordInstr = Return 2 ∷ [] in
    let x : Spelt law live procs c l s.memory sized u.to may.1 refl refl refl (Sum 2 1 11) v (λ k.
    run_sum live procs c s.memory k (put v 5 10) no_words 2 1 11 calling.given.1.0) u.word
    = number_spelled law live procs c l s.memory sized u.to may.1 refl refl refl (Sum 2 1 11) v (λ k.
    run_sum live procs c s.memory k (put v 5 10) no_words 2 1 11 calling.given.1.0) u.word may.0 calling.given.0 in
    let called = enters live procs s to rest n DIGITS 2 7 digits_lines others stands in
    let few = x.few in
    let ends = x.shown.ends in
    record {
      memory = x.memory;
      word = u.to + x.at;
      leaves = x.shown.rewritten;
      gives = record { are = spelled_bytes u.word may.0; low = omega arith; ends = omega (arith, ends); there = x.shown.bytes };
      lines = 1 + (x.lines + 1);
      few = omega (arith, few);
      steps = (from_call live procs s to rest DIGITS [] _ _ _ calling.next (then_runs live procs called (then_runs live procs x.runs
          (returns_before live procs s to rest [] p refl x.memory x.vars 2 (u.to + x.at) x.two_is)))).by;
    }
