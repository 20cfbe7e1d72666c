-- What a production reads, as a computation by steps and as relations, and how productions are put together.
use Rattle.std.proofs.Common.{◌≡◌, ℕ, zero, suc, List, [], ◌∷◌, Bool, true, false, refl, sym, ap, ap₂, subst, ◌∙◌, inl, inr}
use Rattle.std.specs.Prelude.{◌⊎◌, if◌then◌else◌}
use Rattle.indent_scanner.specs.declared.token.Token.{Token}
use Rattle.parse_decls.specs.Outcome.{Why, too_deep, stuck_at, tired, Out, got, bad, then_do, unless_stuck, Settles}
use Rattle.parse_decls.proofs.Settling.{Led, then_got, then_bad, unless_got, unless_bad, IsStuck, GoesOn, settles_suc, settles_is, settles_then, settles_bad}
use Rattle.parse_decls.proofs.Settling.{settles_unless, settles_stuck, got_one, got_bad, settles_if, settles_else, Branch, if_split}

-- the computation comes to a level too many
pub record IsDeep {X : Type 0} (run : ℕ → Out X) : Type 0 where
  pub at : List Token
  pub runs : Settles run (bad (too_deep at))

-- what the computation reads is exactly what is Done; what the grammar reads is Done, or has a level too many; and where it
-- can't go on it says so
pub record Parses {A : Type 0} (run : ℕ → List Token → Out A) (Reads Done : A → List Token → List Token → Type 0) (Fault : Why → List Token → Type 0) :
    Type 0 where
  pub sound : (k : ℕ) (ts : List Token) (a : A) (rest : List Token) → run k ts ≡ got a rest → Done a ts rest
  pub complete : (a : A) (ts rest : List Token) → Done a ts rest → Settles (λ k. run k ts) (got a rest)
  pub deep : (a : A) (ts rest : List Token) → Reads a ts rest → Done a ts rest ⊎ IsDeep (λ k. run k ts)
  pub stops : (k : ℕ) (ts : List Token) (why : Why) → run k ts ≡ bad why → (why ≡ tired) ⊎ Fault why ts
  pub faults : (why : Why) (ts : List Token) → Fault why ts → Settles (λ k. run k ts) (bad why)

-- ---- the same, said in another way

pub restated : {A : Type 0} {f : ℕ → List Token → Out A} {R D R' D' : A → List Token → List Token → Type 0} {F F' : Why → List Token → Type 0} → Parses f R D F
    → ((a : A) (ts rest : List Token) → D a ts rest → D' a ts rest) → ((a : A) (ts rest : List Token) → D' a ts rest → D a ts rest)
    → ((a : A) (ts rest : List Token) → R' a ts rest → R a ts rest)
    → ((why : Why) (ts : List Token) → F why ts → F' why ts) → ((why : Why) (ts : List Token) → F' why ts → F why ts) → Parses f R' D' F'
restated p done from reads fault back = record {
  sound = λ k ts a rest e. done a ts rest (p.sound k ts a rest e);
  complete = λ a ts rest d. p.complete a ts rest (from a ts rest d);
  deep = λ a ts rest r. elim (p.deep a ts rest (reads a ts rest r)) [ inl d ↦ inl (done a ts rest d) | inr h ↦ inr h ];
  stops = λ k ts why e. elim (p.stops k ts why e) [ inl t ↦ inl t | inr w ↦ inr (fault why ts w) ];
  faults = λ why ts w. p.faults why ts (back why ts w);
}

pub deep_is : {X : Type 0} {f g : ℕ → Out X} → IsDeep f → ((k : ℕ) → g k ≡ f k) → IsDeep g
deep_is h e = record { at = h.at; runs = settles_is h.runs e }

pub bad_one : {X : Type 0} {v w : Why} → ◌≡◌ {A = Out X} (bad v) (bad w) → v ≡ w
bad_one e = cc

pub settles_why : {X : Type 0} {run : ℕ → Out X} {w v : Why} → w ≡ v → Settles run (bad v) → Settles run (bad w)
settles_why e h = record { steps = h.steps; same = λ k le. h.same k le ∙ ap bad (sym e) }

-- one that takes a step more
pub stepped : {A : Type 0} {f g : ℕ → List Token → Out A} {R D : A → List Token → List Token → Type 0} {F : Why → List Token → Type 0} → Parses f R D F
    → ((ts : List Token) → g zero ts ≡ bad tired) → ((k : ℕ) (ts : List Token) → g (suc k) ts ≡ f k ts) → Parses g R D F
stepped {A} {f} {g} {R} {D} {F} p z e = record {
  sound = sound;
  complete = λ a ts rest d. settles_suc (p.complete a ts rest d) (λ k. e k ts);
  deep = λ a ts rest r. elim (p.deep a ts rest r) [ inl d ↦ inl d | inr h ↦ inr (record { at = h.at; runs = settles_suc h.runs (λ k. e k ts) }) ];
  stops = stops;
  faults = λ why ts w. settles_suc (p.faults why ts w) (λ k. e k ts);
}
  where
    sound : (k : ℕ) (ts : List Token) (a : A) (rest : List Token) → g k ts ≡ got a rest → D a ts rest
    sound zero ts a rest h = got_bad (sym h ∙ z ts)
    sound (suc k) ts a rest h = p.sound k ts a rest (sym (e k ts) ∙ h)

    stops : (k : ℕ) (ts : List Token) (why : Why) → g k ts ≡ bad why → (why ≡ tired) ⊎ F why ts
    stops zero ts why h = inl (bad_one (sym h ∙ z ts))
    stops (suc k) ts why h = p.stops k ts why (sym (e k ts) ∙ h)

-- ---- nothing is read

abbrev pub Just : {A : Type 0} → A → A → List Token → List Token → Type 0
Just v a ts rest = (a ≡ v) × (rest ≡ ts)

pub just : {A : Type 0} (v : A) → Parses (λ k ts. got v ts) (Just v) (Just v) (λ why ts. ⊥)
just v = record {
  sound = λ k ts a rest e. let g = got_one e in (sym g.0, sym g.1);
  complete = λ a ts rest d. record { steps = 0; same = λ k le. sym (ap₂ got d.0 d.1) };
  deep = λ a ts rest d. inl d;
  stops = λ k ts why e. got_bad e;
  faults = λ why ts w. absurd w;
}

-- ---- from another place

pub shifted : {A : Type 0} {f : ℕ → List Token → Out A} {R D : A → List Token → List Token → Type 0} {F : Why → List Token → Type 0}
    (past : List Token → List Token) → Parses f R D F
    → Parses (λ k ts. f k (past ts)) (λ a ts rest. R a (past ts) rest) (λ a ts rest. D a (past ts) rest) (λ why ts. F why (past ts))
shifted past p = record {
  sound = λ k ts. p.sound k (past ts);
  complete = λ a ts. p.complete a (past ts);
  deep = λ a ts. p.deep a (past ts);
  stops = λ k ts. p.stops k (past ts);
  faults = λ why ts. p.faults why (past ts);
}

-- one that depends on where it begins
pub placed : {A : Type 0} {f : List Token → ℕ → List Token → Out A} {R D : List Token → A → List Token → List Token → Type 0}
    {F : List Token → Why → List Token → Type 0}
    → ((at : List Token) → Parses (f at) (R at) (D at) (F at))
    → Parses (λ k ts. f ts k ts) (λ a ts rest. R ts a ts rest) (λ a ts rest. D ts a ts rest) (λ why ts. F ts why ts)
placed p = record {
  sound = λ k ts. (p ts).sound k ts;
  complete = λ a ts. (p ts).complete a ts;
  deep = λ a ts. (p ts).deep a ts;
  stops = λ k ts. (p ts).stops k ts;
  faults = λ why ts. (p ts).faults why ts;
}

-- ---- one after another

abbrev pub Then : {A B : Type 0} → (A → List Token → List Token → Type 0) → (A → B → List Token → List Token → Type 0) → B → List Token → List Token → Type 0
Then {A = A} R S b ts rest = (a : A) × (mid : List Token) × R a ts mid × S a b mid rest

abbrev pub FaultsThen : {A : Type 0} → (A → List Token → List Token → Type 0) → (Why → List Token → Type 0) → (A → Why → List Token → Type 0) → Why
    → List Token → Type 0
FaultsThen {A = A} D F G why ts = F why ts ⊎ ((a : A) × (mid : List Token) × D a ts mid × G a why mid)

pub seq : {A B : Type 0} {f : ℕ → List Token → Out A} {g : A → ℕ → List Token → Out B} {R D : A → List Token → List Token → Type 0}
    {S E : A → B → List Token → List Token → Type 0}
    {F : Why → List Token → Type 0} {G : A → Why → List Token → Type 0} → Parses f R D F → ((a : A) → Parses (g a) (S a) (E a) (G a))
    → Parses (λ k ts. then_do (f k ts) (λ a mid. g a k mid)) (Then R S) (Then D E) (FaultsThen D F G)
seq {A} {B} {f} {g} {R} {D} {S} {E} {F} {G} p q = record {
  sound = λ k ts b rest e. let led : Led (f k ts) (λ a mid. g a k mid) (got b rest) = then_got (f k ts) (λ a mid. g a k mid) e in
      (led.value, led.mid, p.sound k ts led.value led.mid led.first, (q led.value).sound k led.mid b rest led.next);
  complete = λ b ts rest d. settles_then (λ k a mid. g a k mid) (p.complete d.0 ts d.1 d.2) ((q d.0).complete b d.1 rest d.3);
  deep = deep;
  stops = stops;
  faults = faults;
}
  where
    deep_then : (a : A) (b : B) (ts mid rest : List Token) → D a ts mid → E a b mid rest ⊎ IsDeep (λ k. g a k mid)
        → Then D E b ts rest ⊎ IsDeep (λ k. then_do (f k ts) (λ a mid. g a k mid))
    deep_then a b ts mid rest d (inl e) = inl (a, mid, d, e)
    deep_then a b ts mid rest d (inr h) = inr (record { at = h.at; runs = settles_then (λ k a mid. g a k mid) (p.complete a ts mid d) h.runs })

    deep_first : (a : A) (b : B) (ts mid rest : List Token) → S a b mid rest → D a ts mid ⊎ IsDeep (λ k. f k ts)
        → Then D E b ts rest ⊎ IsDeep (λ k. then_do (f k ts) (λ a mid. g a k mid))
    deep_first a b ts mid rest s (inl d) = deep_then a b ts mid rest d ((q a).deep b mid rest s)
    deep_first a b ts mid rest s (inr h) = inr (record { at = h.at; runs = settles_bad (λ k a mid. g a k mid) h.runs })

    deep : (b : B) (ts rest : List Token) → Then R S b ts rest → Then D E b ts rest ⊎ IsDeep (λ k. then_do (f k ts) (λ a mid. g a k mid))
    deep b ts rest r = deep_first r.0 b ts r.1 rest r.3 (p.deep r.0 ts r.1 r.2)

    first_stops : (why : Why) (ts : List Token) → (why ≡ tired) ⊎ F why ts → (why ≡ tired) ⊎ FaultsThen D F G why ts
    first_stops why ts (inl t) = inl t
    first_stops why ts (inr w) = inr (inl w)

    next_stops : (why : Why) (a : A) (ts mid : List Token) → D a ts mid → (why ≡ tired) ⊎ G a why mid → (why ≡ tired) ⊎ FaultsThen D F G why ts
    next_stops why a ts mid d (inl t) = inl t
    next_stops why a ts mid d (inr w) = inr (inr (a, mid, d, w))

    one_stops : (k : ℕ) (ts : List Token) (why : Why) → (f k ts ≡ bad why) ⊎ Led (f k ts) (λ a mid. g a k mid) (bad why)
        → (why ≡ tired) ⊎ FaultsThen D F G why ts
    one_stops k ts why (inl h) = first_stops why ts (p.stops k ts why h)
    one_stops k ts why (inr led) = next_stops why led.value ts led.mid (p.sound k ts led.value led.mid led.first) ((q led.value).stops k led.mid why led.next)

    stops : (k : ℕ) (ts : List Token) (why : Why) → then_do (f k ts) (λ a mid. g a k mid) ≡ bad why → (why ≡ tired) ⊎ FaultsThen D F G why ts
    stops k ts why e = one_stops k ts why (then_bad (f k ts) (λ a mid. g a k mid) e)

    faults : (why : Why) (ts : List Token) → FaultsThen D F G why ts → Settles (λ k. then_do (f k ts) (λ a mid. g a k mid)) (bad why)
    faults why ts (inl w) = settles_bad (λ k a mid. g a k mid) (p.faults why ts w)
    faults why ts (inr w) = settles_then (λ k a mid. g a k mid) (p.complete w.0 ts w.1 w.2) ((q w.0).faults why w.1 w.3)

-- what is made of it
abbrev pub Mapped : {A B : Type 0} → (A → B) → (A → List Token → List Token → Type 0) → B → List Token → List Token → Type 0
Mapped {A = A} h R b ts rest = (a : A) × (b ≡ h a) × R a ts rest

pub mapped : {A B : Type 0} {f : ℕ → List Token → Out A} {R D : A → List Token → List Token → Type 0} {F : Why → List Token → Type 0} (h : A → B)
    → Parses f R D F
    → Parses (λ k ts. then_do (f k ts) (λ a rest. got (h a) rest)) (Mapped h R) (Mapped h D) F
mapped {A} {B} {f} {R} {D} {F} h p = restated (seq p (λ a. just (h a))) done from reads fault (λ why ts w. inl w)
  where
    along : (R : A → List Token → List Token → Type 0) (a : A) {ts r s : List Token} → s ≡ r → R a ts r → R a ts s
    along R a {ts} e h = subst (λ r. R a ts r) (sym e) h

    done : (b : B) (ts rest : List Token) → Then D (λ a. Just (h a)) b ts rest → Mapped h D b ts rest
    done b ts rest d = (d.0, d.3.0, along D d.0 d.3.1 d.2)

    from : (b : B) (ts rest : List Token) → Mapped h D b ts rest → Then D (λ a. Just (h a)) b ts rest
    from b ts rest d = (d.0, rest, d.2, (d.1, refl))

    reads : (b : B) (ts rest : List Token) → Mapped h R b ts rest → Then R (λ a. Just (h a)) b ts rest
    reads b ts rest d = (d.0, rest, d.2, (d.1, refl))

    fault : (why : Why) (ts : List Token) → FaultsThen D F (λ a why ts. ⊥) why ts → F why ts
    fault why ts (inl w) = w
    fault why ts (inr w) = absurd w.3

-- ---- behind a test

abbrev pub Guarded : {A : Type 0} → (List Token → Bool) → (A → List Token → List Token → Type 0) → A → List Token → List Token → Type 0
Guarded b R a ts rest = (b ts ≡ true) × R a ts rest

abbrev pub FaultsGuarded : (List Token → Bool) → (Why → List Token → Type 0) → Why → List Token → Type 0
FaultsGuarded b F why ts = ((b ts ≡ false) × (why ≡ stuck_at ts)) ⊎ ((b ts ≡ true) × F why ts)

pub guarded : {A : Type 0} {f : ℕ → List Token → Out A} {R D : A → List Token → List Token → Type 0} {F : Why → List Token → Type 0} (b : List Token → Bool)
    → Parses f R D F
    → Parses (λ k ts. unless_stuck (b ts) ts (f k ts)) (Guarded b R) (Guarded b D) (FaultsGuarded b F)
guarded {A} {f} {R} {D} {F} b p = record {
  sound = λ k ts a rest e. let g : (b ts ≡ true) × (f k ts ≡ got a rest) = unless_got (b ts) ts (f k ts) e in (g.0, p.sound k ts a rest g.1);
  complete = λ a ts rest d. settles_unless ts d.0 (p.complete a ts rest d.1);
  deep = λ a ts rest r. elim (p.deep a ts rest r.1) [ inl d ↦ inl (r.0, d) | inr h ↦ inr (record { at = h.at; runs = settles_unless ts r.0 h.runs }) ];
  stops = λ k ts why e. one_stops k ts why (unless_bad (b ts) ts (f k ts) e);
  faults = faults;
}
  where
    on : (ts : List Token) (why : Why) → b ts ≡ true → (why ≡ tired) ⊎ F why ts → (why ≡ tired) ⊎ FaultsGuarded b F why ts
    on ts why e (inl t) = inl t
    on ts why e (inr w) = inr (inr (e, w))

    one_stops : (k : ℕ) (ts : List Token) (why : Why) → IsStuck (b ts) ts why ⊎ GoesOn (b ts) (f k ts) (bad why) → (why ≡ tired) ⊎ FaultsGuarded b F why ts
    one_stops k ts why (inl h) = inr (inl (h.not, h.at))
    one_stops k ts why (inr h) = on ts why h.is (p.stops k ts why h.same)

    faults : (why : Why) (ts : List Token) → FaultsGuarded b F why ts → Settles (λ k. unless_stuck (b ts) ts (f k ts)) (bad why)
    faults why ts (inl w) = settles_why w.1 (settles_stuck (λ k. f k ts) ts w.0)
    faults why ts (inr w) = settles_unless ts w.0 (p.faults why ts w.1)

-- ---- one of two

abbrev pub Either : {A : Type 0} → (List Token → Bool) → (R S : A → List Token → List Token → Type 0) → A → List Token → List Token → Type 0
Either b R S a ts rest = ((b ts ≡ true) × R a ts rest) ⊎ ((b ts ≡ false) × S a ts rest)

abbrev pub FaultsEither : (List Token → Bool) → (F G : Why → List Token → Type 0) → Why → List Token → Type 0
FaultsEither b F G why ts = ((b ts ≡ true) × F why ts) ⊎ ((b ts ≡ false) × G why ts)

pub either : {A : Type 0} {f g : ℕ → List Token → Out A} {R D S E : A → List Token → List Token → Type 0} {F G : Why → List Token → Type 0}
    (b : List Token → Bool) → Parses f R D F → Parses g S E G
    → Parses (λ k ts. if b ts then f k ts else g k ts) (Either b R S) (Either b D E) (FaultsEither b F G)
either {A} {f} {g} {R} {D} {S} {E} {F} {G} b p q = record {
  sound = λ k ts a rest e. one_sound k ts a rest (if_split (b ts) (f k ts) (g k ts) e);
  complete = complete;
  deep = deep;
  stops = λ k ts why e. one_stops k ts why (if_split (b ts) (f k ts) (g k ts) e);
  faults = faults;
}
  where
    one_sound : (k : ℕ) (ts : List Token) (a : A) (rest : List Token) → Branch (b ts) true (f k ts) (got a rest) ⊎ Branch (b ts) false (g k ts) (got a rest)
        → Either b D E a ts rest
    one_sound k ts a rest (inl h) = inl (h.is, p.sound k ts a rest h.same)
    one_sound k ts a rest (inr h) = inr (h.is, q.sound k ts a rest h.same)

    complete : (a : A) (ts rest : List Token) → Either b D E a ts rest → Settles (λ k. if b ts then f k ts else g k ts) (got a rest)
    complete a ts rest (inl d) = settles_if (λ k. g k ts) d.0 (p.complete a ts rest d.1)
    complete a ts rest (inr d) = settles_else (λ k. f k ts) d.0 (q.complete a ts rest d.1)

    here : (a : A) (ts rest : List Token) → b ts ≡ true → D a ts rest ⊎ IsDeep (λ k. f k ts) → Either b D E a ts rest ⊎ IsDeep
        (λ k. if b ts then f k ts else g k ts)
    here a ts rest e (inl d) = inl (inl (e, d))
    here a ts rest e (inr h) = inr (record { at = h.at; runs = settles_if (λ k. g k ts) e h.runs })

    there : (a : A) (ts rest : List Token) → b ts ≡ false → E a ts rest ⊎ IsDeep (λ k. g k ts) → Either b D E a ts rest ⊎ IsDeep
        (λ k. if b ts then f k ts else g k ts)
    there a ts rest e (inl d) = inl (inr (e, d))
    there a ts rest e (inr h) = inr (record { at = h.at; runs = settles_else (λ k. f k ts) e h.runs })

    deep : (a : A) (ts rest : List Token) → Either b R S a ts rest → Either b D E a ts rest ⊎ IsDeep (λ k. if b ts then f k ts else g k ts)
    deep a ts rest (inl r) = here a ts rest r.0 (p.deep a ts rest r.1)
    deep a ts rest (inr r) = there a ts rest r.0 (q.deep a ts rest r.1)

    stops_here : (why : Why) (ts : List Token) → b ts ≡ true → (why ≡ tired) ⊎ F why ts → (why ≡ tired) ⊎ FaultsEither b F G why ts
    stops_here why ts e (inl t) = inl t
    stops_here why ts e (inr w) = inr (inl (e, w))

    stops_there : (why : Why) (ts : List Token) → b ts ≡ false → (why ≡ tired) ⊎ G why ts → (why ≡ tired) ⊎ FaultsEither b F G why ts
    stops_there why ts e (inl t) = inl t
    stops_there why ts e (inr w) = inr (inr (e, w))

    one_stops : (k : ℕ) (ts : List Token) (why : Why) → Branch (b ts) true (f k ts) (bad why) ⊎ Branch (b ts) false (g k ts) (bad why)
        → (why ≡ tired) ⊎ FaultsEither b F G why ts
    one_stops k ts why (inl h) = stops_here why ts h.is (p.stops k ts why h.same)
    one_stops k ts why (inr h) = stops_there why ts h.is (q.stops k ts why h.same)

    faults : (why : Why) (ts : List Token) → FaultsEither b F G why ts → Settles (λ k. if b ts then f k ts else g k ts) (bad why)
    faults why ts (inl w) = settles_if (λ k. g k ts) w.0 (p.faults why ts w.1)
    faults why ts (inr w) = settles_else (λ k. f k ts) w.0 (q.faults why ts w.1)

-- ---- what never reads anything

pub failing : {A : Type 0} (w : List Token → Why) → Parses {A = A} (λ k ts. bad (w ts)) (λ a ts rest. ⊥) (λ a ts rest. ⊥) (λ why ts. why ≡ w ts)
failing w = record {
  sound = λ k ts a rest e. got_bad (sym e);
  complete = λ a ts rest d. absurd d;
  deep = λ a ts rest d. absurd d;
  stops = λ k ts why e. inr (sym (bad_one e));
  faults = λ why ts e. record { steps = 0; same = λ k le. ap bad (sym e) };
}

-- ---- what begins with a token

abbrev pub Headed : {A : Type 0} → (Token → A → List Token → List Token → Type 0) → A → List Token → List Token → Type 0
Headed R a [] rest = ⊥
Headed R a (tok ∷ ts) rest = R tok a ts rest

abbrev pub FaultsHeaded : (Token → Why → List Token → Type 0) → Why → List Token → Type 0
FaultsHeaded F why [] = why ≡ stuck_at []
FaultsHeaded F why (tok ∷ ts) = F tok why ts

pub headed : {A : Type 0} {g : Token → ℕ → List Token → Out A} {R D : Token → A → List Token → List Token → Type 0} {F : Token → Why → List Token → Type 0}
    (f : ℕ → List Token → Out A)
    → ((tok : Token) → Parses (g tok) (R tok) (D tok) (F tok)) → ((k : ℕ) → f k [] ≡ bad (stuck_at []))
    → ((k : ℕ) (tok : Token) (ts : List Token) → f k (tok ∷ ts) ≡ g tok k ts)
    → Parses f (Headed R) (Headed D) (FaultsHeaded F)
headed {A} {g} {R} {D} {F} f p n e = record { sound = sound; complete = complete; deep = deep; stops = stops; faults = faults }
  where
    sound : (k : ℕ) (ts : List Token) (a : A) (rest : List Token) → f k ts ≡ got a rest → Headed D a ts rest
    sound k [] a rest h = got_bad (sym h ∙ n k)
    sound k (tok ∷ ts) a rest h = (p tok).sound k ts a rest (sym (e k tok ts) ∙ h)

    complete : (a : A) (ts rest : List Token) → Headed D a ts rest → Settles (λ k. f k ts) (got a rest)
    complete a [] rest d = absurd d
    complete a (tok ∷ ts) rest d = settles_is ((p tok).complete a ts rest d) (λ k. e k tok ts)

    deep : (a : A) (ts rest : List Token) → Headed R a ts rest → Headed D a ts rest ⊎ IsDeep (λ k. f k ts)
    deep a [] rest d = absurd d
    deep a (tok ∷ ts) rest d = elim ((p tok).deep a ts rest d) [ inl c ↦ inl c | inr h ↦ inr (deep_is h (λ k. e k tok ts)) ]

    stops : (k : ℕ) (ts : List Token) (why : Why) → f k ts ≡ bad why → (why ≡ tired) ⊎ FaultsHeaded F why ts
    stops k [] why h = inr (bad_one (sym h ∙ n k))
    stops k (tok ∷ ts) why h = (p tok).stops k ts why (sym (e k tok ts) ∙ h)

    faults : (why : Why) (ts : List Token) → FaultsHeaded F why ts → Settles (λ k. f k ts) (bad why)
    faults why [] w = record { steps = 0; same = λ k le. n k ∙ ap bad (sym w) }
    faults why (tok ∷ ts) w = settles_is ((p tok).faults why ts w) (λ k. e k tok ts)
