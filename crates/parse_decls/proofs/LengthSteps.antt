-- The steps of reading the length of an array.
use Rattle.std.proofs.Common.{◌≡◌, ℕ, ◌+◌, ◌<◌, ◌≤◌, List, length, true, false, refl, ap, subst, ◌∙◌, arith}
use Rattle.std.specs.Prelude.{Option, Some, None}
use Rattle.arc_base.specs.declared.place.Place.{Place}
use Rattle.arc_base.specs.declared.place.Code.{Code}
use Rattle.arc_base.specs.declared.place.Code.TheVariants as C
use Rattle.arc_base.specs.declared.place.Stop.{Stop}
use Rattle.arc_base.specs.declared.place.Stop.TheVariants.{Refused}
use Rattle.arc_base.specs.Stops.{OnRefusal}
use Rattle.indent_scanner.specs.declared.token.Token.{Token}
use Rattle.nim_tree.specs.Terms.{Term, levels}
use Rattle.parse_exprs.specs.declared.input.Input.{Input}
use Rattle.parse_exprs.specs.declared.layout.Layout.TheVariants.{Brackets}
use Rattle.parse_exprs.specs.Look.{comma_at}
use Rattle.parse_exprs.specs.Input.{origin_of, from_at}
use Rattle.parse_exprs.specs.Outcome as E
use Rattle.parse_exprs.specs.Parsed as P
use Rattle.parse_exprs.specs.Run.{run_expr}
use Rattle.parse_decls.specs.Look.{behind, type_at}
use Rattle.parse_decls.specs.Outcome.{too_deep, stuck_at, Out, got, unless_stuck, of_expr}
use Rattle.parse_decls.specs.Run.{most_levels, length_of, run_due_length, run_length}
use Rattle.parse_decls.specs.Gives.{Told, Fails, Found, Leads}
use Rattle.parse_decls.proofs.Settling.{settles_if, settles_else, settles_unless}
use Rattle.parse_decls.proofs.Coming.{told_fails, fails_then, fails_leads, fails_stuck, leads_then, leads_on, behind_at, within_at}
use Rattle.parse_decls.proofs.Lengths.{settles_length, length_is, length_high, length_none}

-- what reading an expression there tells
abbrev pub tried_run : Input → (whole : List Token) → (n at : ℕ) → ℕ → Out (Option Term)
tried_run input whole n at k = length_of whole n (from_at input at) (run_expr k (origin_of input) Brackets most_levels (from_at input at))

pub types_found : (input : Input) (whole : List Token) (n at : ℕ) {a : Term} {mid : List Token}
    → E.Settles (λ k. run_expr k (origin_of input) Brackets most_levels (from_at input at)) (E.got a mid)
    → comma_at Brackets mid ≡ false → at < length input.tokens.now → Found (tried_run input whole n at) input at None at
types_found input whole n at {a} {mid} h c w =
    record {
      runs = settles_length whole n (from_at input at) h (length_none whole n (from_at input at) a mid c);
      goes = omega arith;
      within = omega (arith, w);
    }

pub length_found : (input : Input) (whole : List Token) (n at next : ℕ) {a : Term}
    → E.Settles (λ k. run_expr k (origin_of input) Brackets most_levels (from_at input at)) (E.got a (from_at input next))
    → comma_at Brackets (from_at input next) ≡ true → levels a ≤ n → at ≤ next → Found (tried_run input whole n at) input at (Some a) (next + 1)
length_found input whole n at next {a} h c few le = record {
  runs =
      settles_length whole n (from_at input at) h
      (length_is whole n (from_at input at) a (from_at input next) c few ∙ ap (got (Some a)) (behind_at next input.tokens.now));
  goes = omega (arith, le);
  within = (let w = within_at (comma_at Brackets) refl next input.tokens.now c in omega (arith, w));
}

pub length_fails : (input : Input) (whole : List Token) (n at : ℕ) {a : Term} {mid : List Token}
    → E.Settles (λ k. run_expr k (origin_of input) Brackets most_levels (from_at input at)) (E.got a mid)
    → comma_at Brackets mid ≡ true → n < levels a → (stop : Stop) → Told (origin_of input) (too_deep whole) stop
    → Fails (tried_run input whole n at) (origin_of input) stop
length_fails input whole n at {a} {mid} h c many stop t =
    told_fails (origin_of input) (settles_length whole n (from_at input at) h (length_high whole n (from_at input at) a mid c many)) stop t

pub opened_fails : (input : Input) (whole : List Token) (n at : ℕ) (told : Stop) (code : Code) (place : Place) → told ≡ Refused code place
    → OnRefusal told (P.RunsInto (P.ExprRun (origin_of input) Brackets most_levels) (origin_of input) (from_at input at)) → code ≡ C.NestTooDeep
    → (stop : Stop) → Told (origin_of input) (too_deep whole) stop → Fails (tried_run input whole n at) (origin_of input) stop
opened_fails input whole n at told code place d h e stop t =
    let r : P.RunsDeep (P.ExprRun (origin_of input) Brackets most_levels (from_at input at)) (origin_of input) (from_at input at) place =
    subst (λ c. P.RunsInto (P.ExprRun (origin_of input) Brackets most_levels) (origin_of input) (from_at input at) c place) e
    (subst (λ s. OnRefusal s (P.RunsInto (P.ExprRun (origin_of input) Brackets most_levels) (origin_of input) (from_at input at))) d h) in
    told_fails (origin_of input) (settles_length whole n (from_at input at) r.runs refl) stop t

stuck_found_by : (input : Input) (whole : List Token) (n at : ℕ) (code : Code) (place : Place)
    → P.RunsInto (P.ExprRun (origin_of input) Brackets most_levels) (origin_of input) (from_at input at) code place
    → (code ≡ C.NestTooDeep → ⊥) → at < length input.tokens.now → Found (tried_run input whole n at) input at None at
stuck_found_by input whole n at C.Syntax place h lacks w =
    record { runs = settles_length whole n (from_at input at) h.runs refl; goes = omega arith; within = omega (arith, w) }
stuck_found_by input whole n at C.LeftOut place h lacks w =
    record { runs = settles_length whole n (from_at input at) h.runs refl; goes = omega arith; within = omega (arith, w) }
stuck_found_by input whole n at C.NestTooDeep place h lacks w = absurd (lacks refl)
stuck_found_by input whole n at _ place h lacks w = absurd h

pub stuck_found : (input : Input) (whole : List Token) (n at : ℕ) (told : Stop) (code : Code) (place : Place) → told ≡ Refused code place
    → OnRefusal told (P.RunsInto (P.ExprRun (origin_of input) Brackets most_levels) (origin_of input) (from_at input at)) → (code ≡ C.NestTooDeep → ⊥)
    → at < length input.tokens.now
    → Found (tried_run input whole n at) input at None at
stuck_found input whole n at told code place d h lacks w =
    stuck_found_by input whole n at code place
    (subst (λ s. OnRefusal s (P.RunsInto (P.ExprRun (origin_of input) Brackets most_levels) (origin_of input) (from_at input at))) d h) lacks w

-- ---- either

pub try_leads : (input : Input) (whole : List Token) (n at : ℕ) → type_at (from_at input at) ≡ true
    → Leads (tried_run input whole n at) (λ k. run_length k (origin_of input) whole n (from_at input at))
try_leads input whole n at e o h = settles_if (λ k. run_due_length k (origin_of input) whole n (from_at input at)) e h

pub due_leads : (input : Input) (whole : List Token) (n at : ℕ) → type_at (from_at input at) ≡ false
    → Leads (λ k. run_due_length k (origin_of input) whole n (from_at input at)) (λ k. run_length k (origin_of input) whole n (from_at input at))
due_leads input whole n at e o h = settles_else (tried_run input whole n at) e h

abbrev pub comma_run : ℕ → Term → List Token → Out (Option Term)
comma_run k a mid = unless_stuck (comma_at Brackets mid) mid (got (Some a) (behind mid))

pub due_fails : (input : Input) (whole : List Token) (n at : ℕ) → type_at (from_at input at) ≡ false → (stop : Stop)
    → Fails (λ k. of_expr whole (run_expr k (origin_of input) Brackets n (from_at input at))) (origin_of input) stop
    → Fails (λ k. run_length k (origin_of input) whole n (from_at input at)) (origin_of input) stop
due_fails input whole n at e stop h = fails_leads _ _ _ (due_leads input whole n at e) stop (fails_then _ _ comma_run stop h)

pub comma_fails : (input : Input) (whole : List Token) (n at next least : ℕ) (a : Term) → type_at (from_at input at) ≡ false
    → Found (λ k. of_expr whole (run_expr k (origin_of input) Brackets n (from_at input at))) input least a next
    → comma_at Brackets (from_at input next) ≡ false → (stop : Stop) → Told (origin_of input) (stuck_at (from_at input next)) stop
    → Fails (λ k. run_length k (origin_of input) whole n (from_at input at)) (origin_of input) stop
comma_fails input whole n at next least a e f c stop t =
    fails_leads _ _ _ (leads_on (leads_then comma_run f.runs) (due_leads input whole n at e)) stop
    (fails_stuck (origin_of input) (λ k. got (Some a) (behind (from_at input next))) (from_at input next) c stop t)

pub due_found : (input : Input) (whole : List Token) (n at next least : ℕ) (a : Term) → type_at (from_at input at) ≡ false
    → Found (λ k. of_expr whole (run_expr k (origin_of input) Brackets n (from_at input at))) input least a next
    → comma_at Brackets (from_at input next) ≡ true → at ≤ least
    → Found (λ k. run_length k (origin_of input) whole n (from_at input at)) input at (Some a) (next + 1)
due_found input whole n at next least a e f c le = record {
  runs = leads_on (leads_then comma_run f.runs) (due_leads input whole n at e) _
      (settles_unless {f = λ k. got (Some a) (behind (from_at input next))} (from_at input next) c
      (record { steps = 0; same = λ k z. ap (got (Some a)) (behind_at next input.tokens.now) }));
  goes = (let g = f.goes in omega (arith, g, le));
  within = (let w = within_at (comma_at Brackets) refl next input.tokens.now c in omega (arith, w));
}
