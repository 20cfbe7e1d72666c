-- An expression that is alone on its line: what is read is what the grammar says, and both come about.
use Rattle.std.proofs.Common.{◌≡◌, ℕ, ◌≤◌, ◌<◌, List, Bool, true, false, refl, ap, ◌∙◌}
use Rattle.std.specs.Prelude.{Option, Some, None, not, nat_lt, if◌then◌else◌}
use Rattle.std.proofs.lemmas.Bool.{ltb-true, ltb-false, le-ltb, lt-ltb}
use Rattle.indent_scanner.specs.declared.token.Token.{Token}
use Rattle.nim_tree.specs.Terms.{Term, levels}
use Rattle.parse_exprs.specs.declared.layout.Layout.TheVariants.{Start}
use Rattle.parse_exprs.specs.Look.{Origin}
use Rattle.parse_exprs.specs.Faults as F
use Rattle.parse_exprs.specs.Outcome as E
use Rattle.parse_exprs.specs.Run.{run_expr}
use Rattle.parse_exprs.proofs.ForCallers.{sound_expr, complete_expr, faults_expr, fails_expr}
use Rattle.parse_decls.specs.Outcome.{Why, too_deep, Out, got, bad, Settles}
use Rattle.parse_decls.specs.Run.{most_levels}
use Rattle.parse_stmts.specs.declared.alone.TheConstants.{MOST_ALONE}
use Rattle.parse_stmts.specs.Look.{line_over}
use Rattle.parse_stmts.specs.Alone.{BeginsWith, IsAlone, NotAlone, n_stops, n_more}
use Rattle.parse_stmts.specs.Run.{alone_in, run_alone}
use Rattle.parse_stmts.proofs.Means.{Means, m_got, m_bad, m_tired, means_if}

-- the expression that is found, or that there is none
pub data Finds (x : Origin) (n : ℕ) (ts : List Token) : Option Term → List Token → Type 0 where
  d_alone : {a : Term} {rest : List Token} → IsAlone x n a ts rest → levels a ≤ 64 → Finds x n ts (Some a) rest
  d_none : NotAlone x n ts → Finds x n ts None ts

-- it has a level too many
pub record FaultsAlone (x : Origin) (n : ℕ) (why : Why) (ts : List Token) : Type 0 where
  pub a : Term
  pub rest : List Token
  pub is : IsAlone x n a ts rest
  pub deep : 64 < levels a
  pub at : why ≡ too_deep ts

begun_means : (x : Origin) (n : ℕ) (ts : List Token) (a : Term) (rest : List Token) → BeginsWith x n a ts rest
    → Means (λ found rest. Finds x n ts found rest) (λ why. FaultsAlone x n why ts) (alone_in n ts (E.got a rest))
begun_means x n ts a rest d =
    means_if _ (λ e. means_if _ (λ l. m_bad (record { a = a; rest = rest; is = record { begins = d; over = e }; deep = ltb-true 64 (levels a) l; at = refl }))
    (λ l. m_got (d_alone (record { begins = d; over = e }) (ltb-false 64 (levels a) l))))
    (λ e. m_got (d_none (n_more d e)))

alone_means : (k : ℕ) (x : Origin) (n : ℕ) (ts : List Token) (o : E.Out Term) → run_expr k x (Start n) MOST_ALONE ts ≡ o
    → Means (λ found rest. Finds x n ts found rest) (λ why. FaultsAlone x n why ts) (alone_in n ts o)
alone_means k x n ts (E.got a rest) e =
    (let d = sound_expr k x (Start n) MOST_ALONE ts e in
    begun_means x n ts a rest (record { reads = record { spells = d.spells; stops = d.stops }; few = d.few }))
alone_means k x n ts (E.bad E.deep) e = m_got (d_none (n_stops (faults_expr F.too_deep k x (Start n) MOST_ALONE ts e)))
alone_means k x n ts (E.bad (E.stuck rest)) e = m_got (d_none (n_stops (faults_expr (F.stuck_at rest) k x (Start n) MOST_ALONE ts e)))
alone_means k x n ts (E.bad E.tired) e = m_tired

pub means_alone : (k : ℕ) (x : Origin) (n : ℕ) (ts : List Token) → Means (λ found rest. Finds x n ts found rest) (λ why. FaultsAlone x n why ts)
    (run_alone k x n ts)
means_alone k x n ts = alone_means k x n ts (run_expr k x (Start n) MOST_ALONE ts) refl

-- ---- that it comes about

pub settles_alone : {f : ℕ → E.Out Term} {o : E.Out Term} (n : ℕ) (whole : List Token) → E.Settles f o
    → Settles (λ k. alone_in n whole (f k)) (alone_in n whole o)
settles_alone n whole h = record { steps = h.steps; same = λ k le. ap (λ o. alone_in n whole o) (h.same k le) }

settles_same : {X : Type 0} {f : ℕ → Out X} {o p : Out X} → o ≡ p → Settles f o → Settles f p
settles_same e h = record { steps = h.steps; same = λ k le. h.same k le ∙ e }

begun_settles : {x : Origin} {n : ℕ} {a : Term} {ts rest : List Token} → BeginsWith x n a ts rest
    → Settles (λ k. run_alone k x n ts) (alone_in n ts (E.got a rest))
begun_settles {n = n} {ts = ts} d = settles_alone n ts (complete_expr d.reads.spells d.reads.stops MOST_ALONE d.few)

choice_true : {X : Type 0} (b : Bool) (p q : X) → b ≡ true → (if b then p else q) ≡ p
choice_true true p q e = refl
choice_true false p q e = cc

choice_false : {X : Type 0} (b : Bool) (p q : X) → b ≡ false → (if b then p else q) ≡ q
choice_false false p q e = refl
choice_false true p q e = cc

pub alone_got : (n : ℕ) (whole : List Token) (a : Term) (rest : List Token) → line_over n rest ≡ true → nat_lt most_levels (levels a) ≡ false
    → alone_in n whole (E.got a rest) ≡ got (Some a) rest
alone_got n whole a rest e l = choice_true (line_over n rest) _ _ e ∙ choice_false (nat_lt most_levels (levels a)) _ _ l

pub alone_deep : (n : ℕ) (whole : List Token) (a : Term) (rest : List Token) → line_over n rest ≡ true → nat_lt most_levels (levels a) ≡ true
    → alone_in n whole (E.got a rest) ≡ bad (too_deep whole)
alone_deep n whole a rest e l = choice_true (line_over n rest) _ _ e ∙ choice_true (nat_lt most_levels (levels a)) _ _ l

pub alone_on : (n : ℕ) (whole : List Token) (a : Term) (rest : List Token) → line_over n rest ≡ false → alone_in n whole (E.got a rest) ≡ got None whole
alone_on n whole a rest e = choice_false (line_over n rest) _ _ e

pub alone_read : {x : Origin} {n : ℕ} {a : Term} {ts rest : List Token} → IsAlone x n a ts rest → levels a ≤ 64
    → Settles (λ k. run_alone k x n ts) (got (Some a) rest)
alone_read {n = n} {a = a} {ts = ts} {rest = rest} d few = settles_same (alone_got n ts a rest d.over (le-ltb 64 (levels a) few)) (begun_settles d.begins)

pub alone_faults : {x : Origin} {n : ℕ} {a : Term} {ts rest : List Token} → IsAlone x n a ts rest → 64 < levels a
    → Settles (λ k. run_alone k x n ts) (bad (too_deep ts))
alone_faults {n = n} {a = a} {ts = ts} {rest = rest} d many = settles_same (alone_deep n ts a rest d.over (lt-ltb 64 (levels a) many)) (begun_settles d.begins)

stops_none : (x : Origin) (n : ℕ) (ts : List Token) (why : F.Fault) → F.FaultsExpr x why (Start n) MOST_ALONE ts
    → Settles (λ k. run_alone k x n ts) (got None ts)
stops_none x n ts F.too_deep w = settles_alone n ts (fails_expr w)
stops_none x n ts (F.stuck_at rest) w = settles_alone n ts (fails_expr w)

pub alone_none : {x : Origin} {n : ℕ} {ts : List Token} → NotAlone x n ts → Settles (λ k. run_alone k x n ts) (got None ts)
alone_none {x} {n} {ts} (n_stops {why = why} w) = stops_none x n ts why w
alone_none {n = n} {ts = ts} (n_more {a = a} {rest = rest} d e) = settles_same (alone_on n ts a rest e) (begun_settles d)

-- ---- of a call

not_false : (b : Bool) → not b ≡ false → b ≡ true
not_false true e = refl
not_false false e = cc

pub deep_settles : {run : ℕ → E.Out Term} {a : Term} {rest : List Token} (n : ℕ) (whole : List Token) → E.Settles run (E.got a rest) → line_over n rest ≡ true
    → not (nat_lt most_levels (levels a)) ≡ false
    → Settles (λ k. alone_in n whole (run k)) (bad (too_deep whole))
deep_settles {a = a} {rest = rest} n whole h e l = settles_same (alone_deep n whole a rest e (not_false (nat_lt most_levels (levels a)) l))
    (settles_alone n whole h)
