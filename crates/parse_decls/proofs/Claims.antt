-- What is said of a production, from what is known of it.
use Rattle.std.proofs.Common.{◌≡◌, ℕ, List, drop, refl, ap, subst, inl, inr, arith}
use Rattle.std.specs.Prelude.{◌⊎◌}
use Rattle.arc_base.specs.declared.place.Place.{Place}
use Rattle.arc_base.specs.declared.place.Code.{Code}
use Rattle.indent_scanner.specs.declared.token.Token.{Token}
use Rattle.parse_decls.specs.Outcome.{Why, too_deep, left_out, stuck, tired, Out, got, bad, Settles}
use Rattle.parse_decls.specs.Claims.{IsOnly, ReadsNone, IsRefused, Agree}
use Rattle.parse_decls.proofs.Settling.{settles_one, got_one, got_bad}
use Rattle.parse_decls.proofs.Productions.{IsDeep, Parses, bad_one}

-- what it comes to after the steps that it takes
at_last : {X : Type 0} {run : ℕ → Out X} {o : Out X} (h : Settles run o) → run h.steps ≡ o
at_last h = h.same h.steps (omega arith)

not_tired_deep : {C : Type 0} {at : List Token} → too_deep at ≡ tired → C
not_tired_deep e = cc

no_deep : {A C : Type 0} {run : ℕ → Out A} {a : A} {rest : List Token} → Settles run (got a rest) → IsDeep run → C
no_deep h d = got_bad (settles_one h d.runs)

pub reads_once : {A : Type 0} {run : ℕ → List Token → Out A} {R D : A → List Token → List Token → Type 0} {F : Why → List Token → Type 0} → Parses run R D F
    → (a b : A) (ts r s : List Token) → Settles (λ k. run k ts) (got a r) → R b ts s → (b ≡ a) × (s ≡ r)
reads_once p a b ts r s h d = elim (p.deep b ts s d) [ inl c ↦ got_one (settles_one (p.complete b ts s c) h) | inr w ↦ no_deep h w ]

deep_fault : {A : Type 0} {run : ℕ → List Token → Out A} {R D : A → List Token → List Token → Type 0} {F : Why → List Token → Type 0} → Parses run R D F
    → (ts : List Token) → IsDeep (λ k. run k ts) → (at : List Token) × F (too_deep at) ts
deep_fault p ts w = elim (p.stops w.runs.steps ts (too_deep w.at) (at_last w.runs)) [ inl t ↦ not_tired_deep t | inr f ↦ (w.at, f) ]

pub agrees : {A : Type 0} {run : ℕ → List Token → Out A} {R D : A → List Token → List Token → Type 0} {F : Why → List Token → Type 0} → Parses run R D F
    → Agree R D F (λ ts k. run k ts)
agrees {A} {run} {R} {D} {F} p = record {
  sound = λ a ts rest h. p.sound h.steps ts a rest (at_last h);
  complete = λ a ts rest d. p.complete a ts rest d;
  deep = λ a ts rest d. elim (p.deep a ts rest d) [ inl c ↦ inl c | inr w ↦ inr (deep_fault p ts w) ];
  stops = λ why ts h. p.stops h.steps ts why (at_last h);
  faults = λ why ts w. p.faults why ts w;
  once = λ a b ts r s c d. reads_once p a b ts r s (p.complete a ts r c) d;
  none = λ a why ts rest w d. got_bad (settles_one (p.complete a ts rest d) (p.faults why ts w));
  steady = λ k ts o e f. steady k ts o e f;
}
  where
    stopped : (why : Why) (ts : List Token) → (◌≡◌ {A = Out A} (bad why) (bad tired) → ⊥) → (why ≡ tired) ⊎ F why ts → Settles (λ k. run k ts) (bad why)
    stopped why ts f (inl t) = absurd (f (ap bad t))
    stopped why ts f (inr w) = p.faults why ts w

    steady : (k : ℕ) (ts : List Token) (o : Out A) → run k ts ≡ o → (o ≡ bad tired → ⊥) → Settles (λ k. run k ts) o
    steady k ts (got a rest) e f = p.complete a ts rest (p.sound k ts a rest e)
    steady k ts (bad why) e f = stopped why ts f (p.stops k ts why e)

-- ---- of a call

pub is_read : {A : Type 0} {run : ℕ → List Token → Out A} {R D : A → List Token → List Token → Type 0} {F : Why → List Token → Type 0} → Parses run R D F
    → {a : A} {ts rest : List Token} → Settles (λ k. run k ts) (got a rest) → D a ts rest
is_read p {a} {ts} {rest} h = p.sound h.steps ts a rest (at_last h)

pub is_only : {A : Type 0} {run : ℕ → List Token → Out A} {R D : A → List Token → List Token → Type 0} {F : Why → List Token → Type 0} → Parses run R D F
    → (tokens : List Token) (from : ℕ) (a : A) (next : ℕ) → Settles (λ k. run k (drop from tokens)) (got a (drop next tokens)) → IsOnly R tokens from a next
is_only p tokens from a next h = λ b rest d. reads_once p a b (drop from tokens) (drop next tokens) rest h d

reads_none : {A : Type 0} {run : ℕ → List Token → Out A} {R D : A → List Token → List Token → Type 0} {F : Why → List Token → Type 0} → Parses run R D F
    → (ts : List Token) (why : Why) → Settles (λ k. run k ts) (bad why) → (why ≡ tired → ⊥) → ReadsNone R D ts why
reads_none p ts (too_deep at) h f = λ a rest d. got_bad (settles_one (p.complete a ts rest d) h)
reads_none p ts (left_out at) h f = λ a rest d. elim (p.deep a ts rest d) [
  | inl c ↦ got_bad (settles_one (p.complete a ts rest c) h)
  | inr w ↦
      (let e = bad_one (settles_one w.runs h) in cc)
]
reads_none p ts (stuck at) h f = λ a rest d. elim (p.deep a ts rest d) [
  | inl c ↦ got_bad (settles_one (p.complete a ts rest c) h)
  | inr w ↦
      (let e = bad_one (settles_one w.runs h) in cc)
]
reads_none p ts tired h f = f refl

pub is_refused : {A : Type 0} {run : ℕ → List Token → Out A} {R D : A → List Token → List Token → Type 0} {F : Why → List Token → Type 0} → Parses run R D F
    → (Tells : Why → Code → Place → Type 0) (ts : List Token) (why : Why) (code : Code) (at : Place) → Settles (λ k. run k ts) (bad why) → Tells why code at
    → (Tells tired code at → ⊥) → IsRefused R D F Tells ts code at
is_refused {F = F} p Tells ts why code at h t n =
    record { why = why; fault = fault (p.stops h.steps ts why (at_last h)); none = reads_none p ts why h not_tired; tells = t }
  where
    not_tired : why ≡ tired → ⊥
    not_tired e = n (subst (λ w. Tells w code at) e t)

    fault : (why ≡ tired) ⊎ F why ts → F why ts
    fault (inl e) = absurd (not_tired e)
    fault (inr w) = w
