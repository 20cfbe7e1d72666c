-- The length of an array, as a computation and as relations.
use Rattle.std.proofs.Common.{◌≡◌, ℕ, ◌≤◌, ◌<◌, List, Bool, true, false, refl, sym, ap, ◌∙◌, inl, inr, arith}
use Rattle.std.specs.Prelude.{◌⊎◌, ⊤, nat_lt, if◌then◌else◌, Option, Some, None}
use Rattle.std.proofs.lemmas.Bool.{le-ltb, lt-ltb, ltb-true, ltb-false}
use Rattle.indent_scanner.specs.declared.token.Token.{Token}
use Rattle.nim_tree.specs.Terms.{Term, levels}
use Rattle.parse_exprs.specs.declared.layout.Layout.TheVariants.{Brackets}
use Rattle.parse_exprs.specs.Look.{Origin, comma_at}
use Rattle.parse_exprs.specs.Grammar.{IsExpr}
use Rattle.parse_exprs.specs.Faults as F
use Rattle.parse_exprs.specs.Outcome as E
use Rattle.parse_exprs.specs.Run.{run_expr}
use Rattle.parse_exprs.proofs.ForCallers.{sound_expr, complete_expr, faults_expr, fails_expr, expr_agrees}
use Rattle.parse_decls.specs.Look.{behind, type_at}
use Rattle.parse_decls.specs.Outcome.{Why, too_deep, tired, Out, got, bad, Settles}
use Rattle.parse_decls.specs.Run.{most_levels, length_of, run_due_length, run_length}
use Rattle.parse_decls.specs.Grammar.{NoLength, n_stops, n_more}
use Rattle.parse_decls.specs.Faults.{ShortExpr, ShortTerm, FaultsWithin, FaultsLength, f_no_length, f_no_comma, f_opened, f_high}
use Rattle.parse_decls.proofs.Settling.{got_one, got_bad, if_split, Branch}
use Rattle.parse_decls.proofs.Productions.{IsDeep, Parses, bad_one, settles_why, restated, just, Just, shifted, Then, FaultsThen, seq, Guarded, FaultsGuarded}
use Rattle.parse_decls.proofs.Productions.{guarded, Either, FaultsEither, either}
use Rattle.parse_decls.proofs.Pieces.{along}
use Rattle.parse_decls.proofs.Exprs.{within, few_or_many}

-- what stands behind the bracket of an array, where Few says how many levels a length may have
pub data MaybeLength (x : Origin) (Few : Term → Type 0) : Option Term → List Token → List Token → Type 0 where
  r_length : {a : Term} {ts mid : List Token} → IsExpr x Brackets a ts mid → Few a → comma_at Brackets mid ≡ true → MaybeLength x Few (Some a) ts (behind mid)
  r_types : {ts : List Token} → type_at ts ≡ true → NoLength x ts → MaybeLength x Few None ts ts

abbrev pub Length : Origin → Option Term → List Token → List Token → Type 0
Length x = MaybeLength x (λ a. ⊤)

abbrev pub ShortLength : Origin → ℕ → Option Term → List Token → List Token → Type 0
ShortLength x n = MaybeLength x (λ a. levels a ≤ n)

-- ---- what reading the expression tells

pub settles_length : {f : ℕ → E.Out Term} {o : E.Out Term} {p : Out (Option Term)} (whole : List Token) (n : ℕ) (ts : List Token) → E.Settles f o
    → length_of whole n ts o ≡ p → Settles (λ k. length_of whole n ts (f k)) p
settles_length whole n ts h e = record { steps = h.steps; same = λ k le. ap (length_of whole n ts) (h.same k le) ∙ e }

pub length_is : (whole : List Token) (n : ℕ) (ts : List Token) (a : Term) (mid : List Token) → comma_at Brackets mid ≡ true → levels a ≤ n
    → length_of whole n ts (E.got a mid) ≡ got (Some a) (behind mid)
length_is whole n ts a mid c few =
    ap (λ b. if b then (if nat_lt n (levels a) then bad (too_deep whole) else got (Some a) (behind mid)) else got None ts) c
    ∙ ap (λ b. if b then bad (too_deep whole) else got (Some a) (behind mid)) (le-ltb n (levels a) few)

pub length_high : (whole : List Token) (n : ℕ) (ts : List Token) (a : Term) (mid : List Token) → comma_at Brackets mid ≡ true → n < levels a
    → length_of whole n ts (E.got a mid) ≡ bad (too_deep whole)
length_high whole n ts a mid c many =
    ap (λ b. if b then (if nat_lt n (levels a) then bad (too_deep whole) else got (Some a) (behind mid)) else got None ts) c
    ∙ ap (λ b. if b then bad (too_deep whole) else got (Some a) (behind mid)) (lt-ltb n (levels a) many)

pub length_none : (whole : List Token) (n : ℕ) (ts : List Token) (a : Term) (mid : List Token) → comma_at Brackets mid ≡ false
    → length_of whole n ts (E.got a mid) ≡ got None ts
length_none whole n ts a mid c = ap (λ b. if b then (if nat_lt n (levels a) then bad (too_deep whole) else got (Some a) (behind mid)) else got None ts) c

-- ---- where a type may begin too

data Tried (x : Origin) (Few : Term → Type 0) : Option Term → List Token → List Token → Type 0 where
  y_length : {a : Term} {ts mid : List Token} → IsExpr x Brackets a ts mid → Few a → comma_at Brackets mid ≡ true → Tried x Few (Some a) ts (behind mid)
  y_types : {ts : List Token} → NoLength x ts → Tried x Few None ts ts

data FaultsTried (x : Origin) (whole : List Token) (n : ℕ) (why : Why) (ts : List Token) : Type 0 where
  y_opened : F.FaultsExpr x F.too_deep Brackets most_levels ts → why ≡ too_deep whole → FaultsTried x whole n why ts
  y_high : {a : Term} {mid : List Token} → ShortTerm x Brackets a ts mid → comma_at Brackets mid ≡ true → n < levels a → why ≡ too_deep whole
      → FaultsTried x whole n why ts

tried : (x : Origin) (whole : List Token) (n : ℕ) → n ≤ most_levels
    → Parses (λ k ts. length_of whole n ts (run_expr k x Brackets most_levels ts)) (Tried x (λ a. ⊤)) (Tried x (λ a. levels a ≤ n)) (FaultsTried x whole n)
tried x whole n le = record {
  sound = λ k ts a rest e. sound k ts (run_expr k x Brackets most_levels ts) refl e;
  complete = λ a ts rest d. complete d;
  deep = λ a ts rest d. deep d;
  stops = λ k ts why e. stops k ts (run_expr k x Brackets most_levels ts) refl e;
  faults = λ why ts w. faults w;
}
  where
    reads : (k : ℕ) (ts : List Token) {t : Term} {mid : List Token} → run_expr k x Brackets most_levels ts ≡ E.got t mid → ShortTerm x Brackets t ts mid
    reads k ts q = let s = sound_expr k x Brackets most_levels ts q in record { reads = record { spells = s.spells; stops = s.stops }; few = s.few }

    sound_comma : {a : Option Term} {ts mid rest : List Token} (t : Term) → ShortTerm x Brackets t ts mid → comma_at Brackets mid ≡ true
        → Branch {X = Option Term} (nat_lt n (levels t)) true (bad (too_deep whole)) (got a rest) ⊎ Branch (nat_lt n (levels t)) false
        (got (Some t) (behind mid)) (got a rest) → Tried x (λ a. levels a ≤ n) a ts rest
    sound_comma t d c (inl h) = got_bad (sym h.same)
    sound_comma {a} {ts} {mid} {rest} t d c (inr h) =
        let g : (Some t ≡ a) × (behind mid ≡ rest) = got_one h.same in
        along (λ a r. Tried x (λ a. levels a ≤ n) a ts r) (sym g.0) (sym g.1) (y_length d.reads (ltb-false n (levels t) h.is) c)

    none_is : {a : Option Term} {ts rest : List Token} → NoLength x ts → got None ts ≡ got a rest → Tried x (λ a. levels a ≤ n) a ts rest
    none_is {a} {ts} {rest} lacks e =
        let g : (None ≡ a) × (ts ≡ rest) = got_one e in
        along (λ a r. Tried x (λ a. levels a ≤ n) a ts r) (sym g.0) (sym g.1) (y_types lacks)

    sound_read : {a : Option Term} {ts mid rest : List Token} (t : Term) → ShortTerm x Brackets t ts mid
        → Branch {X = Option Term} (comma_at Brackets mid) true (if nat_lt n (levels t) then bad (too_deep whole) else got (Some t) (behind mid))
        (got a rest) ⊎ Branch (comma_at Brackets mid) false (got None ts) (got a rest)
        → Tried x (λ a. levels a ≤ n) a ts rest
    sound_read {mid = mid} t d (inl h) = sound_comma t d h.is (if_split (nat_lt n (levels t)) (bad (too_deep whole)) (got (Some t) (behind mid)) h.same)
    sound_read t d (inr h) = none_is (n_more d.reads d.few h.is) h.same

    sound : (k : ℕ) (ts : List Token) (o : E.Out Term) → run_expr k x Brackets most_levels ts ≡ o → {a : Option Term} {rest : List Token}
        → length_of whole n ts o ≡ got a rest → Tried x (λ a. levels a ≤ n) a ts rest
    sound k ts (E.got t mid) q e =
        sound_read t (reads k ts q)
        (if_split (comma_at Brackets mid) (if nat_lt n (levels t) then bad (too_deep whole) else got (Some t) (behind mid)) (got None ts) e)
    sound k ts (E.bad E.deep) q e = got_bad (sym e)
    sound k ts (E.bad (E.stuck rest)) q e = none_is (n_stops (faults_expr (F.stuck_at rest) k x Brackets most_levels ts q)) e
    sound k ts (E.bad E.tired) q e = got_bad (sym e)

    none_settles : {ts : List Token} → NoLength x ts → Settles (λ k. length_of whole n ts (run_expr k x Brackets most_levels ts)) (got None ts)
    none_settles {ts} (n_stops w) = settles_length whole n ts (fails_expr w) refl
    none_settles {ts} (n_more {a = a} {mid = mid} d few c) =
        settles_length whole n ts (complete_expr d.spells d.stops most_levels few) (length_none whole n ts a mid c)

    complete : {a : Option Term} {ts rest : List Token} → Tried x (λ a. levels a ≤ n) a ts rest
        → Settles (λ k. length_of whole n ts (run_expr k x Brackets most_levels ts)) (got a rest)
    complete (y_length {a = a} {ts = ts} {mid = mid} d few c) =
        settles_length whole n ts (complete_expr d.spells d.stops most_levels (omega (arith, few, le))) (length_is whole n ts a mid c few)
    complete (y_types lacks) = none_settles lacks

    high : {a : Term} {ts mid : List Token} → IsExpr x Brackets a ts mid → comma_at Brackets mid ≡ true → n < levels a
        → (levels a ≤ most_levels) ⊎ (most_levels < levels a)
        → Settles (λ k. length_of whole n ts (run_expr k x Brackets most_levels ts)) (bad (too_deep whole))
    high {a} {ts} {mid} d c many (inl few) = settles_length whole n ts (complete_expr d.spells d.stops most_levels few) (length_high whole n ts a mid c many)
    high {a} {ts} {mid} d c many (inr more) =
        let agree = expr_agrees x Brackets most_levels in
        settles_length whole n ts ((agree.deep ts).0 ((agree.high a ts mid d).1 more)) refl

    deep : {a : Option Term} {ts rest : List Token} → Tried x (λ a. ⊤) a ts rest
        → Tried x (λ a. levels a ≤ n) a ts rest ⊎ IsDeep (λ k. length_of whole n ts (run_expr k x Brackets most_levels ts))
    deep (y_length {a = a} d t c) = elim (few_or_many (levels a) n) [
      | inl few ↦ inl (y_length d few c)
      | inr many ↦ inr (record { at = whole; runs = high d c many (few_or_many (levels a) most_levels) })
    ]
    deep (y_types lacks) = inl (y_types lacks)

    stops_comma : {why : Why} {ts mid : List Token} (t : Term) → ShortTerm x Brackets t ts mid → comma_at Brackets mid ≡ true
        → Branch {X = Option Term} (nat_lt n (levels t)) true (bad (too_deep whole)) (bad why) ⊎ Branch (nat_lt n (levels t)) false (got (Some t) (behind mid))
        (bad why) → FaultsTried x whole n why ts
    stops_comma t d c (inl h) = y_high d c (ltb-true n (levels t) h.is) (sym (bad_one h.same))
    stops_comma t d c (inr h) = got_bad h.same

    stops_read : {why : Why} {ts mid : List Token} (t : Term) → ShortTerm x Brackets t ts mid
        → Branch {X = Option Term} (comma_at Brackets mid) true (if nat_lt n (levels t) then bad (too_deep whole) else got (Some t) (behind mid))
        (bad why) ⊎ Branch {X = Option Term} (comma_at Brackets mid) false (got None ts) (bad why)
        → FaultsTried x whole n why ts
    stops_read {mid = mid} t d (inl h) = stops_comma t d h.is (if_split (nat_lt n (levels t)) (bad (too_deep whole)) (got (Some t) (behind mid)) h.same)
    stops_read t d (inr h) = got_bad h.same

    stops : (k : ℕ) (ts : List Token) (o : E.Out Term) → run_expr k x Brackets most_levels ts ≡ o → {why : Why} → length_of whole n ts o ≡ bad why
        → (why ≡ tired) ⊎ FaultsTried x whole n why ts
    stops k ts (E.got t mid) q e =
        inr (stops_read t (reads k ts q) (if_split (comma_at Brackets mid) (if nat_lt n (levels t) then bad (too_deep whole) else got (Some t) (behind mid))
        (got None ts) e))
    stops k ts (E.bad E.deep) q e = inr (y_opened (faults_expr F.too_deep k x Brackets most_levels ts q) (sym (bad_one e)))
    stops k ts (E.bad (E.stuck rest)) q e = got_bad e
    stops k ts (E.bad E.tired) q e = inl (sym (bad_one e))

    faults : {why : Why} {ts : List Token} → FaultsTried x whole n why ts → Settles (λ k. length_of whole n ts (run_expr k x Brackets most_levels ts)) (bad why)
    faults {ts = ts} (y_opened w e) = settles_why e (settles_length whole n ts (fails_expr w) refl)
    faults (y_high d c many e) = settles_why e (high d.reads c many (inl d.few))

-- ---- where a length has to stand

abbrev Due : (Term → List Token → List Token → Type 0) → Option Term → List Token → List Token → Type 0
Due R = Then R (λ a. Guarded (comma_at Brackets) (λ o ts rest. Just (Some a) o (behind ts) rest))

due : (x : Origin) (whole : List Token) (n : ℕ)
    → Parses (λ k ts. run_due_length k x whole n ts) (Due (IsExpr x Brackets)) (Due (ShortExpr x Brackets n))
    (FaultsThen (ShortExpr x Brackets n) (FaultsWithin x Brackets whole n) (λ a. FaultsGuarded (comma_at Brackets) (λ why ts. ⊥)))
due x whole n = seq (within x Brackets whole n) (λ a. guarded (comma_at Brackets) (shifted behind (just (Some a))))

-- ---- either

pub length : (x : Origin) (whole : List Token) (n : ℕ) → n ≤ most_levels
    → Parses (λ k ts. run_length k x whole n ts) (Length x) (ShortLength x n) (λ why ts. FaultsLength x why whole n ts)
length x whole n le =
    restated (either type_at (tried x whole n le) (due x whole n)) (λ a ts rest d. done d)
    (λ a ts rest d. from {Few = λ a. levels a ≤ n} {R = ShortExpr x Brackets n} (λ a ts mid d few. record { reads = d; few = few }) (type_at ts) refl d)
    (λ a ts rest d. from {Few = λ a. ⊤} {R = IsExpr x Brackets} (λ a ts mid d few. d) (type_at ts) refl d) (λ why ts w. fault w) (λ why ts w. back w)
  where
    both : {Few : Term → Type 0} {a : Option Term} {ts rest : List Token} → type_at ts ≡ true → Tried x Few a ts rest → MaybeLength x Few a ts rest
    both t (y_length d few c) = r_length d few c
    both t (y_types lacks) = r_types t lacks

    done : {a : Option Term} {ts rest : List Token} → Either type_at (Tried x (λ a. levels a ≤ n)) (Due (ShortExpr x Brackets n)) a ts rest
        → ShortLength x n a ts rest
    done (inl d) = both d.0 d.1
    done {ts = ts} (inr d) = along (λ a r. ShortLength x n a ts r) d.1.3.1.0 d.1.3.1.1 (r_length d.1.2.reads d.1.2.few d.1.3.0)

    from : {Few : Term → Type 0} {R : Term → List Token → List Token → Type 0} {a : Option Term} {ts rest : List Token}
        → ((a : Term) (ts mid : List Token) → IsExpr x Brackets a ts mid → Few a → R a ts mid)
        → (b : Bool) → type_at ts ≡ b → MaybeLength x Few a ts rest → Either type_at (Tried x Few) (Due R) a ts rest
    from make true q (r_length d few c) = inl (q, y_length d few c)
    from make false q (r_length {a = a} {ts = ts} {mid = mid} d few c) = inr (q, (a, mid, make a ts mid d few, (c, (refl, refl))))
    from make b q (r_types t lacks) = inl (t, y_types lacks)

    fault : {why : Why} {ts : List Token}
        → FaultsEither type_at (FaultsTried x whole n)
        (FaultsThen (ShortExpr x Brackets n) (FaultsWithin x Brackets whole n) (λ a. FaultsGuarded (comma_at Brackets) (λ why ts. ⊥))) why ts
        → FaultsLength x why whole n ts
    fault (inl w) = by_trial w.0 w.1
      where
        by_trial : {why : Why} {ts : List Token} → type_at ts ≡ true → FaultsTried x whole n why ts → FaultsLength x why whole n ts
        by_trial t (y_opened f e) = f_opened t f e
        by_trial t (y_high d c many e) = f_high t d c many e
    fault (inr w) = elim w.1 [
      | inl v ↦ f_no_length w.0 v
      | inr v ↦ elim v.3 [ inl u ↦ f_no_comma w.0 v.2 u.0 u.1 | inr u ↦ absurd u.1 ]
    ]

    back : {why : Why} {ts : List Token} → FaultsLength x why whole n ts
        → FaultsEither type_at (FaultsTried x whole n)
        (FaultsThen (ShortExpr x Brackets n) (FaultsWithin x Brackets whole n) (λ a. FaultsGuarded (comma_at Brackets) (λ why ts. ⊥))) why ts
    back (f_no_length t w) = inr (t, inl w)
    back (f_no_comma {a = a} {mid = mid} t d c e) = inr (t, inr (a, mid, d, inl (c, e)))
    back (f_opened t w e) = inl (t, y_opened w e)
    back (f_high t d c many e) = inl (t, y_high d c many e)
