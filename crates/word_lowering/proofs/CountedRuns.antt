-- A number that is a length is checked before a row: what the check does, by the sign of the number.
use Rattle.std.proofs.Common.{◌≡◌, ℕ, ◌+◌, ◌≤◌, List, [], ◌∷◌, length, Some, Bool, true, false, not, ℤ, pos, int_lt, unsigned_abs}
use Rattle.std.proofs.Common.{refl, ap, ◌∙◌, arith}
use Rattle.std.specs.Prelude.{nat_lt}
use Rattle.std.proofs.lemmas.Bool.{lt-ltb, le-ltb}
use Rattle.std.proofs.lemmas.Int.{ints}
use Rattle.arc_base.specs.Event.{writes}
use Rattle.arc_base.specs.declared.outside.Stream.TheVariants.{Err}
use Rattle.nim_program.specs.Ints.{fits}
use Rattle.nim_program.specs.Traps.{OutOfRange, trap_text}
use Rattle.nim_meaning.specs.Acts.{line_of}
use Rattle.nim_meaning.specs.Values.{Value}
use Rattle.nim_meaning.specs.State.{World}
use Rattle.nim_meaning.specs.Deeds.{Deed, branch, perform, stop}
use Rattle.nim_meaning.specs.OwnedRows.{counted}
use Rattle.rv32_isa.specs.Machine.{Lives}
use Rattle.word_code.specs.declared.word.Test.TheVariants as test
use Rattle.word_code.specs.declared.word.WordInstr.{WordInstr}
use Rattle.word_code.specs.declared.word.WordInstr.TheVariants.{Branch}
use Rattle.word_code.specs.declared.word.WordProc.{WordProc}
use Rattle.word_code.specs.Memory.{Memory, as_state}
use Rattle.word_code.specs.Words.{Vars, put, step, from_label}
use Rattle.word_code.proofs.ForCallers.{Within, at, then_runs, run_constant, run_past, run_off, stops_on, AlwaysStops}
use Rattle.word_lowering.specs.declared.homes.TheConstants.{FIRST}
use Rattle.word_lowering.specs.Operations.{least, trap_label, word}
use Rattle.word_lowering.specs.OwnedCode.{counted_code}
use Rattle.word_lowering.proofs.Arithmetic.{fits_signed}
use Rattle.word_lowering.proofs.OrdinalRuns.{put_here, put_other}
use Rattle.word_lowering.proofs.RowRuns.{RowDoes, in_front}

-- the label of a trap leads to where its line is written and the program ends
pub record Traps (live : Lives) (procs : List WordProc) (c : Within) (m : Memory) (label : ℕ) (line : List ℕ) : Type 0 where
  pub there : List WordInstr
  pub stands : from_label label c.proc.lines ≡ Some there
  pub stops : (v g : Vars) → AlwaysStops (step live procs) (at c m there v g) (writes Err line) 7 1 (live (as_state m))

module _ (live : Lives) (procs : List WordProc) (c : Within) (m : Memory) (k : List WordInstr) (awaits spare : ℕ) (few : spare ≤ 100) (w : World) (z : ℤ)
    (fz : fits z ≡ true) (v g : Vars) (n : ℕ) (high : 6 ≤ n) (is : v n ≡ Some (word z))
    (traps : Traps live procs c m (trap_label OutOfRange) (line_of (trap_text OutOfRange))) (act : ℕ → Deed Value)
    (Behind : Value → World → Memory → Vars → Type 0) (tail : List WordInstr)
    (then_so : int_lt z (pos 0) ≡ false → RowDoes live procs c k awaits (spare + 2) Behind (at c m tail (put v FIRST least) g)
    (perform (act (unsigned_abs z)) w))
  where
    abbrev test_line : List WordInstr
    test_line = Branch test.NotBelow n FIRST (trap_label OutOfRange) ∷ tail

    number_is : put v FIRST least n ≡ Some (word z)
    number_is = put_other v FIRST least n (λ e. absurd (omega (arith, e, high))) ∙ is

    least_is : put v FIRST least FIRST ≡ Some least
    least_is = put_here v FIRST least (omega arith)

    -- as an unsigned number a negative one isn't below the least
    below_is : nat_lt (word z) least ≡ not (int_lt z (pos 0))
    below_is = by (int_lt z (pos 0)) refl
      where
        by : (b : Bool) → int_lt z (pos 0) ≡ b → nat_lt (word z) least ≡ not b
        by true e = let h = fits_signed z fz in le-ltb (word z) least (omega (arith, ints, e))
        by false e = let h = fits_signed z fz in lt-ltb (word z) least (omega (arith, ints, e))

    pub counted_runs : RowDoes live procs c k awaits spare Behind (at c m (counted_code n tail) v g) (perform (counted z act) w)
    counted_runs = by (int_lt z (pos 0)) refl
      where
        by : (b : Bool) → int_lt z (pos 0) ≡ b
            → RowDoes live procs c k awaits spare Behind (at c m (counted_code n tail) v g) (perform (branch b (stop OutOfRange) (act (unsigned_abs z))) w)
        by false e =
            in_front live procs c k awaits spare 2 Behind (at c m (counted_code n tail) v g) (at c m tail (put v FIRST least) g)
            (then_runs live procs (run_constant live procs c m test_line v g FIRST least)
            (run_past live procs c m tail (put v FIRST least) g test.NotBelow n FIRST (trap_label OutOfRange) number_is least_is
            (ap not (below_is ∙ ap not e)))) (perform (act (unsigned_abs z)) w) (then_so e)
        by true e = record {
          memory = m;
          lines = 2 + 7;
          few = omega (arith, few);
          stops = stops_on (step live procs) 2 2 7 1 (at c m (counted_code n tail) v g) (at c m traps.there (put v FIRST least) g) []
              (writes Err (line_of (trap_text OutOfRange))) (live (as_state m))
              (then_runs live procs (run_constant live procs c m test_line v g FIRST least)
              (run_off live procs c m tail (put v FIRST least) g test.NotBelow n FIRST (trap_label OutOfRange) traps.there number_is least_is
              (ap not (below_is ∙ ap not e)) traps.stands)) (traps.stops (put v FIRST least) g);
        }
