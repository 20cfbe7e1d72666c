-- What a run comes to, put together of what its parts come to.
use Rattle.std.proofs.Common.{◌≡◌, ℕ, zero, suc, ◌+◌, [], ◌∷◌, drop, add-one, ◌<◌, ◌≤◌, List, Bool, true, false, refl, sym, ap, subst, ◌∙◌, arith}
use Rattle.std.specs.Prelude.{if◌then◌else◌, Option, Some, None, Result, Ok, Err, length}
use Rattle.arc_base.specs.declared.place.Stop.{Stop}
use Rattle.arc_base.specs.declared.place.Stop.TheVariants.{Refused, Memory}
use Rattle.indent_scanner.specs.declared.token.Token.{Token}
use Rattle.parse_exprs.specs.declared.input.Input.{Input}
use Rattle.parse_exprs.specs.Look.{Origin}
use Rattle.parse_exprs.specs.Input.{origin_of, from_at}
use Rattle.parse_decls.specs.declared.reading.Reading.{Reading}
use Rattle.parse_decls.specs.Look.{behind}
use Rattle.parse_decls.specs.Outcome.{Why, stuck_at, Out, got, bad, then_do, unless_stuck, Settles}
use Rattle.parse_decls.specs.Gives.{Told, Fails, Found, Comes, Leads}
use Rattle.parse_decls.proofs.Settling.{settles_suc, settles_got, settles_is, settles_then, settles_bad, settles_unless, settles_stuck, settles_if}
use Rattle.parse_decls.proofs.Settling.{settles_else}

pub told_fails : {X : Type 0} {run : ℕ → Out X} (x : Origin) {why : Why} → Settles run (bad why) → (stop : Stop) → Told x why stop → Fails run x stop
told_fails x {why = why} h (Refused code at) t = record { why = why; runs = h; tells = t }
told_fails x h Memory t = absurd t

pub fails_by : {X Y : Type 0} (part : ℕ → Out X) (whole : ℕ → Out Y) (x : Origin) → ((why : Why) → Settles part (bad why) → Settles whole (bad why))
    → (stop : Stop) → Fails part x stop → Fails whole x stop
fails_by part whole x b (Refused code at) h = record { why = h.why; runs = b h.why h.runs; tells = h.tells }
fails_by part whole x b Memory h = h

pub fails_then : {X Y : Type 0} (f : ℕ → Out X) (x : Origin) (go : ℕ → X → List Token → Out Y) → (stop : Stop) → Fails f x stop
    → Fails (λ k. then_do (f k) (go k)) x stop
fails_then f x go stop h = fails_by f (λ k. then_do (f k) (go k)) x (λ why s. settles_bad go s) stop h

pub fails_leads : {X : Type 0} (part whole : ℕ → Out X) (x : Origin) → Leads part whole → (stop : Stop) → Fails part x stop → Fails whole x stop
fails_leads part whole x l stop h = fails_by part whole x (λ why s. l (bad why) s) stop h

pub found_leads : {X : Type 0} {part whole : ℕ → Out X} {input : Input} {least : ℕ} {a : X} {next : ℕ} → Leads part whole → (most : ℕ) → least ≤ most
    → Found part input most a next → Found whole input least a next
found_leads l most le h = record { runs = l _ h.runs; goes = omega (arith, le, h.goes); within = h.within }

pub comes_leads : {T X : Type 0} (of : T → X) (part whole : ℕ → Out X) (input : Input) (least : ℕ) → Leads part whole → (most : ℕ) → least ≤ most
    → (r : Result (Reading T) Stop) → Comes of part input most r → Comes of whole input least r
comes_leads of part whole input least l most le (Ok p) h = found_leads l most le h
comes_leads of part whole input least l most le (Err stop) h = fails_leads part whole (origin_of input) l stop h

-- ---- places

behind_next : (at : ℕ) (ts : List Token) → behind (drop at ts) ≡ drop (suc at) ts
behind_next zero [] = refl
behind_next zero (tok ∷ ts) = refl
behind_next (suc at) [] = refl
behind_next (suc at) (tok ∷ ts) = behind_next at ts

pub behind_at : (at : ℕ) (ts : List Token) → behind (drop at ts) ≡ drop (at + 1) ts
behind_at at ts = behind_next at ts ∙ ap (λ n. drop n ts) (sym (add-one at))

pub within_at : (test : List Token → Bool) → test [] ≡ false → (at : ℕ) (ts : List Token) → test (drop at ts) ≡ true → at < length ts
within_at test n zero [] e = cc
within_at test n zero (tok ∷ ts) e = omega arith
within_at test n (suc at) [] e = cc
within_at test n (suc at) (tok ∷ ts) e = (let h = within_at test n at ts e in omega (arith, h))

pub within_some : {A : Type 0} {a : A} (test : List Token → Option A) → test [] ≡ None → (at : ℕ) (ts : List Token) → test (drop at ts) ≡ Some a
    → at < length ts
within_some test n zero [] e = cc
within_some test n zero (tok ∷ ts) e = omega arith
within_some test n (suc at) [] e = cc
within_some test n (suc at) (tok ∷ ts) e = (let h = within_some test n at ts e in omega (arith, h))

-- ---- ends

pub fails_stuck : {X : Type 0} (x : Origin) (f : ℕ → Out X) {b : Bool} (ts : List Token) → b ≡ false → (stop : Stop) → Told x (stuck_at ts) stop
    → Fails (λ k. unless_stuck b ts (f k)) x stop
fails_stuck x f ts e stop t = told_fails x (settles_stuck f ts e) stop t

pub found : {X : Type 0} {whole : ℕ → Out X} {input : Input} {a : X} (next : ℕ) (least : ℕ) → Leads (λ k. got a (from_at input next)) whole → least ≤ next
    → next ≤ length input.tokens.now → Found whole input least a next
found next least l g w = record { runs = l _ settles_got; goes = g; within = w }

-- ---- leading

pub leads_on : {X : Type 0} {a b c : ℕ → Out X} → Leads a b → Leads b c → Leads a c
leads_on f g o h = g o (f o h)

pub leads_then : {X Y : Type 0} {f : ℕ → Out X} {a : X} {mid : List Token} (go : ℕ → X → List Token → Out Y) → Settles f (got a mid)
    → Leads (λ k. go k a mid) (λ k. then_do (f k) (go k))
leads_then go h o g = settles_then go h g

pub leads_unless : {Y : Type 0} (f : ℕ → Out Y) {b : Bool} (ts : List Token) → b ≡ true → Leads f (λ k. unless_stuck b ts (f k))
leads_unless f ts e o h = settles_unless ts e h

pub leads_if : {X : Type 0} (f g : ℕ → Out X) {b : Bool} → b ≡ true → Leads f (λ k. if b then f k else g k)
leads_if f g e o h = settles_if g e h

pub leads_else : {X : Type 0} (f g : ℕ → Out X) {b : Bool} → b ≡ false → Leads g (λ k. if b then f k else g k)
leads_else f g e o h = settles_else f e h

pub leads_suc : {X : Type 0} (f g : ℕ → Out X) → ((k : ℕ) → g (suc k) ≡ f k) → Leads f g
leads_suc f g e o h = settles_suc h e

-- ---- the tokens behind

pub fails_at : {X : Type 0} (run : List Token → ℕ → Out X) {ts us : List Token} (x : Origin) (stop : Stop) → ts ≡ us → Fails (run us) x stop
    → Fails (run ts) x stop
fails_at run x stop e h = subst (λ all. Fails (run all) x stop) (sym e) h

pub settles_at : {X : Type 0} (run : List Token → ℕ → Out X) {ts us : List Token} {o : Out X} → ts ≡ us → Settles (run us) o → Settles (run ts) o
settles_at run {o = o} e h = subst (λ all. Settles (run all) o) (sym e) h

pub comes_at : {T X : Type 0} (of : T → X) (run : List Token → ℕ → Out X) (input : Input) (least : ℕ) {ts us : List Token} (r : Result (Reading T) Stop)
    → ts ≡ us → Comes of (run us) input least r → Comes of (run ts) input least r
comes_at of run input least r e h = subst (λ all. Comes of (run all) input least r) (sym e) h

pub found_behind : {X : Type 0} {whole : ℕ → Out X} (input : Input) {a : X} (next least : ℕ) → Leads (λ k. got a (behind (from_at input next))) whole
    → least ≤ next + 1 → next < length input.tokens.now → Found whole input least a (next + 1)
found_behind input {a = a} next least l g w = record {
  runs = l _ (settles_is settles_got (λ k. ap (got a) (behind_at next input.tokens.now)));
  goes = g;
  within = omega (arith, w);
}

-- nothing stands there
pub none_found : {X : Type 0} (input : Input) (at : ℕ) (f : ℕ → Out X) {a b : X} {test : Bool} → a ≡ b → test ≡ false → at ≤ length input.tokens.now
    → Found (λ k. if test then f k else got b (from_at input at)) input at a at
none_found input at f {a = a} {b = b} s e w = record {
  runs = settles_else f e (settles_is settles_got (λ k. ap (λ v. got v (from_at input at)) (sym s)));
  goes = omega arith;
  within = w;
}

-- ---- what closes

pub close_fails : {X : Type 0} {whole : ℕ → Out X} (v : X) (x : Origin) {b : Bool} (ts : List Token) → Leads (λ k. unless_stuck b ts (got v (behind ts))) whole
    → b ≡ false → (stop : Stop) → Told x (stuck_at ts) stop → Fails whole x stop
close_fails v x ts l e stop t = fails_leads _ _ x l stop (fails_stuck x (λ k. got v (behind ts)) ts e stop t)

pub close_found : {X : Type 0} {whole : ℕ → Out X} {v : X} (input : Input) (test : List Token → Bool) (next least : ℕ) → test [] ≡ false
    → Leads (λ k. unless_stuck (test (from_at input next)) (from_at input next) (got v (behind (from_at input next)))) whole → test (from_at input next) ≡ true
    → least ≤ next + 1 → Found whole input least v (next + 1)
close_found {v = v} input test next least n l e g =
    found_behind input next least (leads_on (leads_unless (λ k. got v (behind (from_at input next))) (from_at input next) e) l) g
    (within_at test n next input.tokens.now e)

-- past a token that stands there
pub leads_past : {X : Type 0} (input : Input) (next : ℕ) (go : List Token → ℕ → Out X) {b : Bool} → b ≡ true
    → Leads (go (from_at input (next + 1))) (λ k. unless_stuck b (from_at input next) (go (behind (from_at input next)) k))
leads_past input next go e o h = settles_unless (from_at input next) e (settles_at go (behind_at next input.tokens.now) h)

pub found_is : {X : Type 0} {run : ℕ → Out X} {input : Input} {least : ℕ} {a b : X} {next : ℕ} → a ≡ b → Found run input least b next
    → Found run input least a next
found_is {run = run} {input} {least} {next = next} e h = subst (λ v. Found run input least v next) (sym e) h
