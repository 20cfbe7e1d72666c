-- What the parsers of expressions and declarations read.
use Rattle.std.proofs.Common.{◌≡◌, ℕ, List, true, refl, ap}
use Rattle.indent_scanner.specs.declared.token.Token.{Token}
use Rattle.nim_tree.specs.Terms.{Term}
use Rattle.parse_exprs.specs.declared.layout.Layout.TheVariants.{Lines}
use Rattle.parse_exprs.specs.Look.{Origin}
use Rattle.parse_exprs.specs.Faults as F
use Rattle.parse_exprs.specs.Outcome as E
use Rattle.parse_exprs.specs.Run.{run_primary}
use Rattle.parse_exprs.proofs.ForCallers.{sound_primary, complete_primary, faults_primary, fails_primary}
use Rattle.parse_decls.specs.Outcome.{bad, of_expr, Settles}
use Rattle.parse_decls.specs.Run.{most_levels}
use Rattle.parse_decls.specs.Faults.{of_fault}
use Rattle.parse_decls.proofs.ForCallers.{term, name, names, definition, definition_block, declarations, head, settles_why}
use Rattle.parse_stmts.specs.Grammar.{IsCalled}
use Rattle.parse_stmts.specs.Faults.{FaultsCalled}
use Rattle.parse_stmts.proofs.Means.{Means, m_got, m_bad, m_tired, Told, told}
use Rattle.parse_stmts.proofs.Leaves.{Laws}

-- ---- what may be called

settles_of : {f : ℕ → E.Out Term} {o : E.Out Term} (whole : List Token) → E.Settles f o → Settles (λ k. of_expr whole (f k)) (of_expr whole o)
settles_of whole h = record { steps = h.steps; same = λ k le. ap (λ o. of_expr whole o) (h.same k le) }

called_means : (k : ℕ) (x : Origin) (n : ℕ) (ts : List Token) (o : E.Out Term) → run_primary k x (Lines n) true most_levels ts ≡ o
    → Means (λ a rest. IsCalled x n a ts rest) (λ why. FaultsCalled x n why ts) (of_expr ts o)
called_means k x n ts (E.got a rest) e =
    let d = sound_primary k x (Lines n) true 63 ts e in
    m_got (record { reads = record { spells = d.spells; stops = d.stops }; few = d.few })
called_means k x n ts (E.bad E.deep) e = m_bad (record { fault = F.too_deep; is = faults_primary F.too_deep k x (Lines n) true 63 ts e; at = refl })
called_means k x n ts (E.bad (E.stuck rest)) e =
    m_bad (record { fault = F.stuck_at rest; is = faults_primary (F.stuck_at rest) k x (Lines n) true 63 ts e; at = refl })
called_means k x n ts (E.bad E.tired) e = m_tired

called_faults : (x : Origin) (n : ℕ) (ts : List Token) (fault : F.Fault) → F.FaultsPrimary x fault (Lines n) true 63 ts
    → Settles (λ k. of_expr ts (run_primary k x (Lines n) true most_levels ts)) (bad (of_fault ts fault))
called_faults x n ts F.too_deep w = settles_of ts (fails_primary w)
called_faults x n ts (F.stuck_at rest) w = settles_of ts (fails_primary w)

called : (x : Origin) (n : ℕ) → Told (λ k ts. of_expr ts (run_primary k x (Lines n) true most_levels ts)) (IsCalled x n) (FaultsCalled x n)
called x n = record {
  means = λ k ts. called_means k x n ts (run_primary k x (Lines n) true most_levels ts) refl;
  complete = λ a ts rest d. settles_of ts (complete_primary d.reads.spells d.reads.stops 63 d.few);
  faults = λ why ts w. settles_why w.at (called_faults x n ts w.fault w.is);
}

-- ---- all of them

pub laws : Laws
laws = record {
  value = λ x n. told (term x (Lines n));
  called = called;
  name = λ x i. told (name x i);
  names = λ x n. told (names x (Lines n));
  definition = λ x n. told (definition x (Lines n));
  definitions = λ x n. told (definition_block x n);
  types = λ x n. told (declarations x n);
  head = λ x n. told (head x (Lines n));
}
