-- Expressions, as computations and as relations.
use Rattle.std.proofs.Common.{◌≡◌, ℕ, zero, suc, ◌≤◌, ◌<◌, List, refl, sym, ap, subst, ◌∙◌, inl, inr, arith}
use Rattle.std.specs.Prelude.{◌⊎◌}
use Rattle.indent_scanner.specs.declared.token.Token.{Token}
use Rattle.nim_tree.specs.Terms.{Term, levels}
use Rattle.parse_exprs.specs.declared.layout.Layout.{Layout}
use Rattle.parse_exprs.specs.Look.{Origin}
use Rattle.parse_exprs.specs.Grammar.{IsExpr}
use Rattle.parse_exprs.specs.Faults as F
use Rattle.parse_exprs.specs.Outcome as E
use Rattle.parse_exprs.specs.Run.{run_expr}
use Rattle.parse_exprs.proofs.ForCallers.{sound_expr, complete_expr, faults_expr, fails_expr, expr_agrees}
use Rattle.parse_decls.specs.Outcome.{Why, tired, Out, got, bad, of_expr, Settles}
use Rattle.parse_decls.specs.Run.{most_levels}
use Rattle.parse_decls.specs.Faults.{of_fault, FaultsWithin, ShortExpr, FaultsTerm, ShortTerm}
use Rattle.parse_decls.proofs.Settling.{got_one, got_bad}
use Rattle.parse_decls.proofs.Productions.{Parses, placed, bad_one}

settles_of : {X : Type 0} {f : ℕ → E.Out X} {o : E.Out X} (whole : List Token) → E.Settles f o → Settles (λ k. of_expr whole (f k)) (of_expr whole o)
settles_of whole h = record { steps = h.steps; same = λ k le. ap (λ o. of_expr whole o) (h.same k le) }

within_sound : {x : Origin} {i : Layout} {n : ℕ} {t : Term} {rest : List Token} (whole : List Token) (k : ℕ) (ts : List Token) (o : E.Out Term)
    → run_expr k x i n ts ≡ o → of_expr whole o ≡ got t rest
    → ShortExpr x i n t ts rest
within_sound {x} {i} {n} {t} {rest} whole k ts (E.got a mid) q e =
    let g : (a ≡ t) × (mid ≡ rest) = got_one e in
    let s = sound_expr k x i n ts q in
    subst (λ r. ShortExpr x i n t ts r) g.1
    (subst (λ u. ShortExpr x i n u ts mid) g.0 (record { reads = record { spells = s.spells; stops = s.stops }; few = s.few }))
within_sound whole k ts (E.bad why) q e = got_bad (sym e)

within_stops : {x : Origin} {i : Layout} {n : ℕ} {why : Why} (whole : List Token) (k : ℕ) (ts : List Token) (o : E.Out Term) → run_expr k x i n ts ≡ o
    → of_expr whole o ≡ bad why
    → (why ≡ tired) ⊎ FaultsWithin x i whole n why ts
within_stops whole k ts (E.got a mid) q e = got_bad e
within_stops {x} {i} {n} whole k ts (E.bad E.deep) q e = inr (record { fault = F.too_deep; is = faults_expr F.too_deep k x i n ts q; at = sym (bad_one e) })
within_stops {x} {i} {n} whole k ts (E.bad (E.stuck rest)) q e =
    inr (record { fault = F.stuck_at rest; is = faults_expr (F.stuck_at rest) k x i n ts q; at = sym (bad_one e) })
within_stops whole k ts (E.bad E.tired) q e = inl (sym (bad_one e))

to_why : {run : ℕ → Out Term} {w v : Why} → w ≡ v → Settles run (bad v) → Settles run (bad w)
to_why e h = record { steps = h.steps; same = λ k le. h.same k le ∙ ap bad (sym e) }

fault_runs : {x : Origin} {i : Layout} {n : ℕ} (whole ts : List Token) (fault : F.Fault) → F.FaultsExpr x fault i n ts
    → Settles (λ k. of_expr whole (run_expr k x i n ts)) (bad (of_fault whole fault))
fault_runs whole ts F.too_deep w = settles_of whole (fails_expr w)
fault_runs whole ts (F.stuck_at rest) w = settles_of whole (fails_expr w)

-- at most so many, or more
pub few_or_many : (m n : ℕ) → (m ≤ n) ⊎ (n < m)
few_or_many m zero = zero_or m
  where
    zero_or : (m : ℕ) → (m ≤ 0) ⊎ (0 < m)
    zero_or zero = inl (omega arith)
    zero_or (suc m) = inr (omega arith)
few_or_many zero (suc n) = inl (omega arith)
few_or_many (suc m) (suc n) = elim (few_or_many m n) [ inl h ↦ inl (omega (arith, h)) | inr h ↦ inr (omega (arith, h)) ]

-- an expression of at most n levels, in what begins at whole
pub within : (x : Origin) (i : Layout) (whole : List Token) (n : ℕ) → Parses (λ k ts. of_expr whole (run_expr k x i n ts)) (IsExpr x i) (ShortExpr x i n)
    (FaultsWithin x i whole n)
within x i whole n = let agree = expr_agrees x i n in record {
  sound = λ k ts t rest e. within_sound whole k ts (run_expr k x i n ts) refl e;
  complete = λ t ts rest d. settles_of whole (complete_expr d.reads.spells d.reads.stops n d.few);
  deep = λ t ts rest d. elim (few_or_many (levels t) n) [
    | inl h ↦ inl (record { reads = d; few = h })
    | inr h ↦ inr (record { at = whole; runs = settles_of whole ((agree.deep ts).0 ((agree.high t ts rest d).1 h)) })
  ];
  stops = λ k ts why e. within_stops whole k ts (run_expr k x i n ts) refl e;
  faults = λ why ts w. to_why w.at (fault_runs whole ts w.fault w.is);
}

-- a whole expression
pub term : (x : Origin) (i : Layout) → Parses (λ k ts. of_expr ts (run_expr k x i most_levels ts)) (IsExpr x i) (ShortTerm x i) (FaultsTerm x i)
term x i = placed (λ at. within x i at most_levels)
