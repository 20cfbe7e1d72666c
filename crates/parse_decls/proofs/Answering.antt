-- What a call says of the text, from what its run comes to.
use Rattle.std.proofs.Common.{◌≡◌, ℕ, ◌-◌, ◌≤◌, List, length, drop, refl, inl, inr, arith}
use Rattle.std.specs.Prelude.{Result, Ok, Err, IfOk, IfErr}
use Rattle.std.proofs.lemmas.List.{length-drop}
use Rattle.arc_base.specs.declared.place.Place.{Place}
use Rattle.arc_base.specs.declared.place.Code.{Code}
use Rattle.arc_base.specs.declared.place.Stop.{Stop}
use Rattle.arc_base.specs.declared.place.Stop.TheVariants.{Refused, Memory}
use Rattle.arc_base.specs.Stops.{OnRefusal}
use Rattle.indent_scanner.specs.declared.token.Token.{Token}
use Rattle.parse_exprs.specs.declared.input.Input.{Input}
use Rattle.parse_exprs.specs.Look.{Origin}
use Rattle.parse_exprs.specs.Input.{origin_of, from_at}
use Rattle.parse_exprs.specs.Parsed.{HasNoEnd}
use Rattle.parse_decls.specs.Outcome.{Why, too_deep, left_out, stuck, tired, Out, got, Settles}
use Rattle.parse_decls.specs.Claims.{IsOnly, ReadsNone, IsRefused, Agree}
use Rattle.parse_decls.specs.declared.reading.Reading.{Reading}
use Rattle.parse_decls.specs.Gives.{Tells, Refuses, Fails, Comes}
use Rattle.parse_decls.proofs.Settling.{settles_one}
use Rattle.parse_decls.proofs.Productions.{bad_one}
use Rattle.parse_decls.proofs.Spans.{Takes, takes_no_end}

only_of : {A : Type 0} {R S : A → List Token → List Token → Type 0} {F : Why → List Token → Type 0} {run : List Token → ℕ → Out A} → Agree R S F run
    → (tokens : List Token) (from : ℕ) (a : A) (next : ℕ) → Settles (run (drop from tokens)) (got a (drop next tokens)) → IsOnly R tokens from a next
only_of agree tokens from a next h = λ b rest r. agree.once a b _ _ _ (agree.sound a _ _ h) r

-- a text that stops for two reasons stops for one
one_why : {A C : Type 0} {R S : A → List Token → List Token → Type 0} {F : Why → List Token → Type 0} {run : List Token → ℕ → Out A} → Agree R S F run
    → (ts : List Token) (v w : Why) → F v ts → F w ts → (v ≡ w → C) → C
one_why agree ts v w f g n = n (bad_one (settles_one (agree.faults v ts f) (agree.faults w ts g)))

no_reading : {A C : Type 0} {R S : A → List Token → List Token → Type 0} {F : Why → List Token → Type 0} {run : List Token → ℕ → Out A} → Agree R S F run
    → (ts : List Token) (why : Why) → F why ts → ((at : List Token) → why ≡ too_deep at → C) → (a : A) (rest : List Token) → R a ts rest → C
no_reading agree ts why f n a rest r =
    elim (agree.deep a ts rest r) [ inl s ↦ absurd (agree.none a why ts rest f s) | inr d ↦ one_why agree ts why (too_deep d.0) f d.1 (n d.0) ]

reads_none : {A : Type 0} {R S : A → List Token → List Token → Type 0} {F : Why → List Token → Type 0} {run : List Token → ℕ → Out A} → Agree R S F run
    → (ts : List Token) (why : Why) → F why ts → (why ≡ tired → ⊥) → ReadsNone R S ts why
reads_none agree ts (too_deep at) f n = λ a rest s. agree.none a (too_deep at) ts rest f s
reads_none agree ts (left_out at) f n = no_reading agree ts (left_out at) f (λ d e. cc)
reads_none agree ts (stuck at) f n = no_reading agree ts (stuck at) f (λ d e. cc)
reads_none agree ts tired f n = n refl

never_tired : (x : Origin) (why : Why) (code : Code) (at : Place) → Tells x why code at → why ≡ tired → ⊥
never_tired x (too_deep rest) code at t e = cc
never_tired x (left_out rest) code at t e = cc
never_tired x (stuck rest) code at t e = cc
never_tired x tired code at t e = t

refused_for : {A : Type 0} {R S : A → List Token → List Token → Type 0} {F : Why → List Token → Type 0} {run : List Token → ℕ → Out A} → Agree R S F run
    → (x : Origin) (ts : List Token) (code : Code) (at : Place) → (h : Refuses (run ts) x code at) → F h.why ts → IsRefused R S F (Tells x) ts code at
refused_for agree x ts code at h f = record {
  why = h.why;
  fault = f;
  none = reads_none agree ts h.why f (never_tired x h.why code at h.tells);
  tells = h.tells;
}

refused_of : {A : Type 0} {R S : A → List Token → List Token → Type 0} {F : Why → List Token → Type 0} {run : List Token → ℕ → Out A} → Agree R S F run
    → (x : Origin) (ts : List Token) (stop : Stop) → Fails (run ts) x stop → OnRefusal stop (IsRefused R S F (Tells x) ts)
refused_of agree x ts (Refused code at) h = elim (agree.stops h.why ts h.runs) [
  | inl e ↦ absurd (never_tired x h.why code at h.tells e)
  | inr f ↦
      refused_for agree x ts code at h f
]
refused_of agree x ts Memory h = h

-- ---- how much is read

size_of : (tokens : List Token) (from next n : ℕ) → Takes n (drop from tokens) (drop next tokens) → from ≤ next → next ≤ length tokens → n ≤ next - from
size_of tokens from next n f goes within =
    let a = length-drop from tokens in
    let b = length-drop next tokens in
    let s = f.size in
    omega (arith, a, b, s, goes, within)

no_end_of : (tokens : List Token) (from next n : ℕ) → Takes n (drop from tokens) (drop next tokens) → next ≤ length tokens → HasNoEnd tokens from next
no_end_of tokens from next n f within = takes_no_end tokens from next n f within

-- ---- what a call says of its text, from what its run comes to

pub comes_reads : {T A : Type 0} (of : T → A) {R S : A → List Token → List Token → Type 0} {F : Why → List Token → Type 0} {run : List Token → ℕ → Out A}
    → Agree R S F run
    → (input : Input) (at least : ℕ) (result : Result (Reading T) Stop) → Comes of (run (from_at input at)) input least result
    → IfOk result (λ p. S (of p.value) (from_at input at) (from_at input p.next))
comes_reads of agree input at least (Ok p) h = agree.sound _ _ _ h.runs
comes_reads of agree input at least (Err stop) h = tt

pub comes_only : {T A : Type 0} (of : T → A) {R S : A → List Token → List Token → Type 0} {F : Why → List Token → Type 0} {run : List Token → ℕ → Out A}
    → Agree R S F run
    → (input : Input) (at least : ℕ) (result : Result (Reading T) Stop) → Comes of (run (from_at input at)) input least result
    → IfOk result (λ p. IsOnly R input.tokens.now at (of p.value) p.next)
comes_only of agree input at least (Ok p) h = only_of agree input.tokens.now at _ _ h.runs
comes_only of agree input at least (Err stop) h = tt

pub comes_size : {T A : Type 0} (of : T → A) {R S : A → List Token → List Token → Type 0} {F : Why → List Token → Type 0} {run : List Token → ℕ → Out A}
    → Agree R S F run
    → (nodes : A → ℕ) → ((a : A) (ts rest : List Token) → S a ts rest → Takes (nodes a) ts rest)
    → (input : Input) (at least : ℕ) → at ≤ least → (result : Result (Reading T) Stop) → Comes of (run (from_at input at)) input least result
    → IfOk result (λ p. nodes (of p.value) ≤ p.next - at)
comes_size of agree nodes takes input at least le (Ok p) h =
    let g = h.goes in
    size_of input.tokens.now at p.next (nodes (of p.value)) (takes _ _ _ (agree.sound _ _ _ h.runs)) (omega (arith, g, le)) h.within
comes_size of agree nodes takes input at least le (Err stop) h = tt

pub comes_inside : {T A : Type 0} (of : T → A) {R S : A → List Token → List Token → Type 0} {F : Why → List Token → Type 0} {run : List Token → ℕ → Out A}
    → Agree R S F run
    → (nodes : A → ℕ) → ((a : A) (ts rest : List Token) → S a ts rest → Takes (nodes a) ts rest)
    → (input : Input) (at least : ℕ) (result : Result (Reading T) Stop) → Comes of (run (from_at input at)) input least result
    → IfOk result (λ p. HasNoEnd input.tokens.now at p.next)
comes_inside of agree nodes takes input at least (Ok p) h = no_end_of input.tokens.now at p.next (nodes (of p.value))
    (takes _ _ _ (agree.sound _ _ _ h.runs)) h.within
comes_inside of agree nodes takes input at least (Err stop) h = tt

pub comes_refused : {T A : Type 0} (of : T → A) {R S : A → List Token → List Token → Type 0} {F : Why → List Token → Type 0} {run : List Token → ℕ → Out A}
    → Agree R S F run
    → (input : Input) (at least : ℕ) (result : Result (Reading T) Stop) → Comes of (run (from_at input at)) input least result
    → IfErr result (λ stop. OnRefusal stop (IsRefused R S F (Tells (origin_of input)) (from_at input at)))
comes_refused of agree input at least (Ok p) h = tt
comes_refused of agree input at least (Err stop) h = refused_of agree (origin_of input) (from_at input at) stop h
