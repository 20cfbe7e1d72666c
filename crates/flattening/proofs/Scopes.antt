-- The labels to which ways out lead are found behind what ends on them too.
use Rattle.std.proofs.Common.{ℕ, ◌≤◌, Bool, List, ◌∙◌, arith}
use Rattle.flat_code.specs.declared.line.Line.{Line}
use Rattle.flattening.specs.StmtLines.{Exits}
use Rattle.flattening.proofs.Puts.{Puts}
use Rattle.flattening.proofs.Spots.{Spot}
use Rattle.flattening.proofs.Leaving.{Around, around_end, Reaches}

-- before what ends
pub reaches_ended : {c : Spot} {exits : Exits} {inside : Bool} {around : Around c exits inside} {t t' : ℕ} {k : List Line} (lines : List Line → List Line)
    (puts : (lo hi : ℕ) → Puts lo hi lines) → t ≤ t' → Reaches around t k → Reaches (around_end around lines puts) t' (lines k)
reaches_ended {around = around} {k = k} lines puts le r = record {
  breaks = λ is. (puts 0 0).skips around.break_at k (λ le. le) ∙ r.breaks is;
  continues = λ is. (puts 0 0).skips around.continue_at k (λ le. le) ∙ r.continues is;
  break_before = λ is. omega (arith, r.break_before is, le);
  continue_before = λ is. omega (arith, r.continue_before is, le);
}
