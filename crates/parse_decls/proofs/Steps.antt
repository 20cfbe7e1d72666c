-- Single steps of runs.
use Rattle.std.proofs.Common.{◌≡◌, ℕ, suc, ◌+◌, ◌-◌, ◌<◌, ◌≤◌, List, [], ◌∷◌, length, drop, refl, sym, ap, subst, ◌∙◌, arith, Bool, true, false, zero, inl, inr}
use Rattle.std.specs.Prelude.{Option, Some, None, if◌then◌else◌, ◌⊎◌}
use Rattle.arc_base.specs.declared.place.Place.{Place}
use Rattle.arc_base.specs.declared.place.Code.{Code}
use Rattle.arc_base.specs.declared.place.Code.TheVariants as C
use Rattle.arc_base.specs.declared.place.Stop.{Stop}
use Rattle.arc_base.specs.declared.place.Stop.TheVariants.{Refused, Memory}
use Rattle.arc_base.specs.Stops.{OnRefusal}
use Rattle.indent_scanner.specs.declared.token.Token.{Token}
use Rattle.nim_tree.specs.declared.name.Pragma.{Pragma}
use Rattle.nim_tree.specs.declared.name.PragmaKind.{PragmaKind}
use Rattle.nim_tree.specs.declared.stmt.ParamMode.{ParamMode}
use Rattle.nim_tree.specs.declared.stmt.ParamMode.TheVariants as M
use Rattle.nim_tree.specs.Terms.{Term}
use Rattle.parse_exprs.specs.declared.input.Input.{Input}
use Rattle.parse_exprs.specs.declared.layout.Layout.{Layout}
use Rattle.parse_exprs.specs.declared.layout.Layout.TheVariants.{Brackets, Lines}
use Rattle.parse_exprs.specs.Look.{Origin, spelling, place_at, name_on, left_out_at, stays}
use Rattle.parse_exprs.specs.Input.{origin_of, from_at}
use Rattle.parse_exprs.specs.Outcome as E
use Rattle.parse_exprs.specs.Run.{run_expr, run_primary}
use Rattle.parse_exprs.specs.Parsed as P
use Rattle.parse_decls.specs.Look.{pragma_named, pragma_of, mode_at, past_if_mode, equals_at, behind}
use Rattle.parse_decls.specs.Outcome.{Why, too_deep, left_out, stuck, stuck_at, Out, got, bad, then_do, unless_stuck, Settles, of_expr, of_why}
use Rattle.parse_decls.specs.Run.{run_pragma, run_pragma_name, run_known, most_levels, run_given}
use Rattle.parse_decls.specs.Gives.{Told, Fails, Found, Leads}
use Rattle.parse_decls.proofs.Settling.{settles_got, settles_is, settles_if}
use Rattle.parse_decls.proofs.Coming.{told_fails, fails_leads, fails_stuck, fails_then, found, leads_on, leads_then, leads_unless, settles_at, behind_at}
use Rattle.parse_decls.proofs.Coming.{within_some}

-- ---- pragmas

pub pragma_left_out : (x : Origin) (tok : Token) (ts : List Token) → name_on Brackets ts ≡ Some tok → pragma_named (spelling x tok) ≡ None → (stop : Stop)
    → Told x (left_out ts) stop → Fails (λ k. run_pragma x ts) x stop
pragma_left_out x tok ts e n stop t = told_fails x (settles_is settles_got (λ k. ap (λ o. run_pragma_name x o ts) e ∙ ap (λ o. run_known x tok o ts) n)) stop t

pub pragma_found : (input : Input) (tok : Token) (kind : PragmaKind) (at : ℕ) (p : Place) → name_on Brackets (from_at input at) ≡ Some tok
    → pragma_named (spelling (origin_of input) tok) ≡ Some kind → p ≡ place_at (origin_of input) tok
    → Found {X = Pragma} (λ k. run_pragma (origin_of input) (from_at input at)) input (suc at) (record { at = p; kind = kind }) (at + 1)
pragma_found input tok kind at p e n s = record {
  runs = settles_is settles_got (λ k. ap (λ o. run_pragma_name (origin_of input) o (from_at input at)) e
      ∙ ap (λ o. run_known (origin_of input) tok o (from_at input at)) n
      ∙ ap (got (pragma_of (origin_of input) tok kind)) (behind_at at input.tokens.now) ∙ ap (λ q. got (made kind q) (from_at input (at + 1))) (sym s));
  goes = omega arith;
  within = (let w = within_some (name_on Brackets) refl at input.tokens.now e in omega (arith, w));
}
  where
    made : PragmaKind → Place → Pragma
    made kind q = record { at = q; kind = kind }

-- ---- values

pub of_settles : {X : Type 0} (whole : List Token) {f : ℕ → E.Out X} {o : E.Out X} → E.Settles f o → Settles (λ k. of_expr whole (f k)) (of_expr whole o)
of_settles whole h = record { steps = h.steps; same = λ k le. ap (of_expr whole) (h.same k le) }

drop_beyond : (at : ℕ) (ts : List Token) → length ts ≤ at → drop at ts ≡ []
drop_beyond at [] h = none at
  where
    none : (at : ℕ) → drop at (let ts : List Token = [] in ts) ≡ []
    none zero = refl
    none (suc at) = refl
drop_beyond zero (tok ∷ ts) h = (let f : ⊥ = omega (arith, h) in absurd f)
drop_beyond (suc at) (tok ∷ ts) h = drop_beyond at ts (omega (arith, h))

nothing_read : (x : Origin) (i : Layout) (n k j : ℕ) → k ≡ suc (suc (suc (suc (suc (suc (suc (suc (suc (suc j)))))))))
    → run_expr k x i n [] ≡ E.bad (E.stuck [])
nothing_read x i zero k j e = ap (λ m. run_expr m x i 0 []) e
nothing_read x i (suc n) k j e = ap (λ m. run_expr m x i (suc n) []) e

none_settles : (x : Origin) (i : Layout) (n : ℕ) → E.Settles (λ k. run_expr k x i n []) (E.bad (E.stuck []))
none_settles x i n = record { steps = 10; same = λ k le. nothing_read x i n k (k - 10) (omega (arith, le)) }

pub none_given : (input : Input) (i : Layout) (whole : List Token) (n at : ℕ) → length input.tokens.now ≤ at → (stop : Stop)
    → Told (origin_of input) (stuck_at (from_at input at)) stop
    → Fails (λ k. of_expr whole (run_expr k (origin_of input) i n (from_at input at))) (origin_of input) stop
none_given input i whole n at h stop t =
    let e = drop_beyond at input.tokens.now h in
    subst (λ ts. Fails (λ k. of_expr whole (run_expr k (origin_of input) i n ts)) (origin_of input) stop) (sym e)
    (told_fails (origin_of input) (of_settles whole (none_settles (origin_of input) i n)) stop (subst (λ ts. Told (origin_of input) (stuck_at ts) stop) e t))

nothing_called : (x : Origin) (n k j : ℕ) → k ≡ suc (suc j) → run_primary k x (Lines n) true 64 [] ≡ E.bad (E.stuck [])
nothing_called x n k j e = ap (λ m. run_primary m x (Lines n) true 64 []) e

no_callee_settles : (x : Origin) (n : ℕ) → E.Settles (λ k. run_primary k x (Lines n) true most_levels []) (E.bad (E.stuck []))
no_callee_settles x n = record { steps = 10; same = λ k le. nothing_called x n k (k - 2) (omega (arith, le)) }

pub none_called : (input : Input) (n : ℕ) (at : ℕ) → length input.tokens.now ≤ at → (stop : Stop) → Told (origin_of input) (stuck_at (from_at input at)) stop
    → Fails (λ k. of_expr (from_at input at) (run_primary k (origin_of input) (Lines n) true most_levels (from_at input at))) (origin_of input) stop
none_called input n at h stop t =
    let e = drop_beyond at input.tokens.now h in
    subst (λ ts. Fails (λ k. of_expr ts (run_primary k (origin_of input) (Lines n) true most_levels ts)) (origin_of input) stop) (sym e)
    (told_fails (origin_of input) (of_settles [] (no_callee_settles (origin_of input) n)) stop (subst (λ ts. Told (origin_of input) (stuck_at ts) stop) e t))

settles_why : {X : Type 0} {f : ℕ → Out X} {v w : Why} → v ≡ w → Settles f (bad v) → Settles f (bad w)
settles_why {f = f} e h = subst (λ why. Settles f (bad why)) e h

stuck_why : (ts rest : List Token) (b : Bool) → left_out_at rest ≡ b → (if b then left_out rest else stuck rest) ≡ of_why ts (E.stuck rest)
stuck_why ts rest b e = ap (λ c. if c then left_out rest else stuck rest) (sym e)

-- an expression is refused for what its run comes to
pub value_fails : (run : List Token → ℕ → E.Out Term) (x : Origin) (ts : List Token) (code : Code) (at : Place) → P.RunsInto run x ts code at
    → Fails (λ k. of_expr ts (run ts k)) x (Refused code at)
value_fails run x ts C.Syntax at h = record {
  why = stuck h.rest;
  runs = settles_why (sym (stuck_why ts h.rest false h.used)) (of_settles ts h.runs);
  tells = (refl, h.next);
}
value_fails run x ts C.LeftOut at h = record {
  why = left_out h.rest;
  runs = settles_why (sym (stuck_why ts h.rest true h.left_out)) (of_settles ts h.runs);
  tells = (refl, h.first);
}
value_fails run x ts C.NestTooDeep at h = record { why = of_why ts E.deep; runs = of_settles ts h.runs; tells = (refl, h.first) }
value_fails run x ts _ at h = absurd h

-- so is one that may be refused or want memory
pub value_stops : (run : List Token → ℕ → E.Out Term) (x : Origin) (ts : List Token) (stop : Stop) → OnRefusal stop (P.RunsInto run x ts)
    → Fails (λ k. of_expr ts (run ts k)) x stop
value_stops run x ts (Refused code at) h = value_fails run x ts code at h
value_stops run x ts Memory h = h

-- of a level too many in a part the whole is told
pub deep_fails : (x : Origin) (whole ts : List Token) (stop : Stop) (code : Code) (at : Place) → stop ≡ Refused code at → code ≡ C.NestTooDeep → (out : Stop)
    → Told x (too_deep whole) out
    → (run : List Token → ℕ → E.Out Term) → OnRefusal stop (P.RunsInto run x ts) → Fails (λ k. of_expr whole (run ts k)) x out
deep_fails x whole ts stop code at e d out t run h =
    let r : P.RunsDeep (run ts) x ts at = subst (λ c. P.RunsInto run x ts c at) d (subst (λ s. OnRefusal s (P.RunsInto run x ts)) e h) in
    told_fails x (of_settles whole r.runs) out t

other_fails_by : (run : List Token → ℕ → E.Out Term) (x : Origin) (whole ts : List Token) (code : Code) (at : Place) → (code ≡ C.NestTooDeep → ⊥)
    → P.RunsInto run x ts code at
    → Fails (λ k. of_expr whole (run ts k)) x (Refused code at)
other_fails_by run x whole ts C.Syntax at n h =
    record { why = stuck h.rest; runs = settles_why (sym (stuck_why whole h.rest false h.used)) (of_settles whole h.runs); tells = (refl, h.next) }
other_fails_by run x whole ts C.LeftOut at n h =
    record { why = left_out h.rest; runs = settles_why (sym (stuck_why whole h.rest true h.left_out)) (of_settles whole h.runs); tells = (refl, h.first) }
other_fails_by run x whole ts C.NestTooDeep at n h = absurd (n refl)
other_fails_by run x whole ts _ at n h = absurd h

pub other_fails : (x : Origin) (whole ts : List Token) (stop : Stop) (code : Code) (at : Place) → stop ≡ Refused code at → (code ≡ C.NestTooDeep → ⊥)
    → (run : List Token → ℕ → E.Out Term) → OnRefusal stop (P.RunsInto run x ts) → Fails (λ k. of_expr whole (run ts k)) x (Refused code at)
other_fails x whole ts stop code at e n run h = other_fails_by run x whole ts code at n (subst (λ s. OnRefusal s (P.RunsInto run x ts)) e h)

-- ---- places

pub pragma_within : (at : ℕ) (ts : List Token) (tok : Token) → name_on Brackets (drop at ts) ≡ Some tok → at < length ts
pragma_within at ts tok e = within_some (name_on Brackets) refl at ts e

-- a mode that is written stands within the tokens
pub mode_within : (x : Origin) (at : ℕ) (ts : List Token) (m : ParamMode) → mode_at x (drop at ts) ≡ m → (M.Plain ≡ m → ⊥) → at < length ts
mode_within x zero [] m e n = absurd (n e)
mode_within x zero (tok ∷ ts) m e n = omega arith
mode_within x (suc at) [] m e n = absurd (n e)
mode_within x (suc at) (tok ∷ ts) m e n = (let h = mode_within x at ts m e n in omega (arith, h))

-- ---- `=` and a value

abbrev pub given_run : Input → Layout → List Token → ℕ → Out (Option Term)
given_run input i ts k = unless_stuck (stays i ts) ts (then_do (of_expr ts (run_expr k (origin_of input) i most_levels ts)) (λ a rest. got (Some a) rest))

-- what reading goes on as behind the `=`
given_leads : (input : Input) (i : Layout) (at : ℕ) → equals_at i (from_at input at) ≡ true → Leads (given_run input i (from_at input (at + 1)))
    (λ k. run_given k (origin_of input) i (from_at input at))
given_leads input i at e o h = settles_if (λ k. got None (from_at input at)) e (settles_at (given_run input i) (behind_at at input.tokens.now) h)

pub given_stuck : (input : Input) (i : Layout) (at : ℕ) → equals_at i (from_at input at) ≡ true → stays i (from_at input (at + 1)) ≡ false → (stop : Stop)
    → Told (origin_of input) (stuck_at (from_at input (at + 1))) stop
    → Fails (λ k. run_given k (origin_of input) i (from_at input at)) (origin_of input) stop
given_stuck input i at e n stop t = fails_leads _ _ _ (given_leads input i at e) stop (fails_stuck (origin_of input) _ (from_at input (at + 1)) n stop t)

pub given_fails : (input : Input) (i : Layout) (at : ℕ) → equals_at i (from_at input at) ≡ true → stays i (from_at input (at + 1)) ≡ true → (stop : Stop)
    → Fails (λ k. of_expr (from_at input (at + 1)) (run_expr k (origin_of input) i most_levels (from_at input (at + 1)))) (origin_of input) stop
    → Fails (λ k. run_given k (origin_of input) i (from_at input at)) (origin_of input) stop
given_fails input i at e s stop h = fails_leads _ _ _ (leads_on (leads_unless _ _ s) (given_leads input i at e)) stop
    (fails_then _ _ (λ k a rest. got (Some a) rest) stop h)

pub given_found : (input : Input) (i : Layout) (at : ℕ) → equals_at i (from_at input at) ≡ true → stays i (from_at input (at + 1)) ≡ true
    → (value : Term) (next : ℕ)
    → Found (λ k. of_expr (from_at input (at + 1)) (run_expr k (origin_of input) i most_levels (from_at input (at + 1)))) input (suc (at + 1)) value next
    → Found (λ k. run_given k (origin_of input) i (from_at input at)) input at (Some value) next
given_found input i at e s value next h =
    found next at (leads_on (leads_then (λ k a rest. got (Some a) rest) h.runs) (leads_on (leads_unless _ _ s) (given_leads input i at e)))
    (let g = h.goes in omega (arith, g)) h.within

-- `var` or `sink` is one token
pub record Written (m : ParamMode) : Type 0 where
  pub not_plain : M.Plain ≡ m → ⊥
  pub past : (ts : List Token) → past_if_mode m ts ≡ behind ts

pub written_mode : (m : ParamMode) → (m ≡ M.Var) ⊎ (m ≡ M.Sink) → Written m
written_mode M.Plain (inl e) = cc
written_mode M.Plain (inr e) = cc
written_mode M.Var e = record { not_plain = λ h. cc; past = λ ts. refl }
written_mode M.Sink e = record { not_plain = λ h. cc; past = λ ts. refl }
