-- Groups of parameters one after another, and signatures.
use Rattle.std.proofs.Common.{◌≡◌, ℕ, suc, ◌+◌, ◌≤◌, List, [], ◌∷◌, ◌++◌}
use Rattle.std.proofs.Common.{length, map, take, refl, sym, ap, ap₂, ◌∙◌, subst, arith}
use Rattle.std.proofs.Common.{append_assoc, append-nil, length-append, Bool}
use Rattle.std.proofs.lemmas.List.{map-append}
use Rattle.std.specs.Prelude.{Result, Ok, Err, Option, IfOk, OnOk}
use Rattle.arc_base.specs.declared.place.Stop.{Stop}
use Rattle.arc_base.specs.declared.place.Stop.TheVariants as stop
use Rattle.arc_base.specs.Refusal.{and_then, Answers}
use Rattle.nim_tree.specs.Statements.{Parameters, Head}
use Rattle.nim_tree.specs.Types.{Written}
use Rattle.nim_types.specs.Types.{Ty}
use Rattle.nim_program.specs.declared.program.Param.{Param}
use Rattle.expr_rules.specs.Answers.{Answer}
use Rattle.expr_rules.specs.Env.{Env}
use Rattle.expr_parts.specs.declared.scope.Decl.{Decl}
use Rattle.expr_parts.specs.View.{Grown, entry_of}
use Rattle.expr_parts.proofs.ForCallers.{grown_on, grown_same, forgets, answers_as, goes, stops}
use Rattle.decl_rules.specs.State.{State, entered}
use Rattle.decl_rules.specs.Written.{written_type, if_written}
use Rattle.decl_rules.specs.Heads.{Given, mode_of, given_as, group_names, parameters_rule, with_parameters, has_result, signature_rule}
use Rattle.decl_parts.specs.declared.state.State.{State as RustState}
use Rattle.decl_parts.specs.View.{Over, Beside, env_in, state_of, Ready, Stands, Typing, Stating}
use Rattle.decl_parts.proofs.ForCallers.{same_view, ready_typed, ready_grown, further_grown}
use Rattle.decl_parts.proofs.ForCallers.{over_old, Left, left_whole, left_goes, left_stops, left_ends}
use Rattle.decl_heads.specs.ViewHeads.{given_of, GivenWithin, AreNumbered, Opening, opening, opened_as, group_rule, opening_rule, and_opening}
use Rattle.decl_heads.specs.ViewHeads.{Extends, Declares, Opens, opening_as, signature_as, signature_of, with_gives, signature_inside}
use Rattle.decl_heads.specs.declared.signature.Signature.{Signature as RustSignature}
use Rattle.decl_heads.proofs.Opening.{with_more, with_none, extends_on, extends_same}

-- ---- the rules

rest_by : (st : State) (done : List Given) (r : Answer (List Given))
    → and_then (and_then r (λ more. Ok (done ++ more))) (λ params. Ok (opening st params))
    ≡ and_then (and_then r (λ more. Ok (opening (with_parameters st done) more))) (λ a. Ok (and_opening (opening st done) a))
rest_by st done (Ok more) = ap (λ (z : State). Ok (opening_as (done ++ more) z)) (sym (with_more st done more))
rest_by st done (Err e) = refl

step_by : (st : State) (names : Answer (Unit {0})) (ty : Answer Ty) (f : Ty → List Given) (rest : State → Answer (List Given))
    → and_then (and_then names (λ _. and_then ty (λ t. and_then (rest (with_parameters st (f t))) (λ more. Ok (f t ++ more)))))
    (λ params. Ok (opening st params))
    ≡ and_then (and_then names (λ _. and_then ty (λ t. Ok (opening st (f t)))))
    (λ y. and_then (and_then (rest y.state) (λ params. Ok (opening y.state params))) (λ a. Ok (and_opening y a)))
step_by st (Ok x) (Ok t) f rest = rest_by st (f t) (rest (with_parameters st (f t)))
step_by st (Ok x) (Err e) f rest = refl
step_by st (Err e) ty f rest = refl

-- a group before others
pub opening_step : (st : State) (result : Bool) (g : Parameters) (rest : List Parameters)
    → opening_rule st result (g ∷ rest) ≡ and_then (group_rule st result g)
    (λ y. and_then (opening_rule y.state result rest) (λ a. Ok (and_opening y a)))
opening_step st result g rest =
    step_by st (group_names st result [] g.names) (written_type st.env g.of) (λ t. given_as g.names (mode_of g.mode) t) (λ z. parameters_rule z result rest)

opened : (st : State) (env : Option Written) (r : Answer (List Given))
    → and_then (and_then r (λ params. Ok (opening st params))) (λ o. with_gives o.state.env env o.params)
    ≡ and_then r (λ params. and_then (if_written (with_parameters st params).env env) (λ gives. Ok (signature_as params gives)))
opened st env (Ok params) = refl
opened st env (Err e) = refl

-- ---- calls that declare parameters

stands_of : {old new : RustState} → Extends old new → Stands old new
stands_of x = record { ready = x.ready; begins = x.begins; outside = ap (λ (s : RustState). s.outside) x.frame }

on_map : {T P Q : Type 0} (r : Result T Stop) → (P → Q) → OnOk r P → OnOk r Q
on_map (Ok x) f p = f p
on_map (Err s) f p = tt

pub stating_of : {T : Type 0} {old new : RustState} {of : T → List Param} {said : List Ty → State → Answer Opening} {r : Result T Stop}
    → Opens old new of said r → Stating old new (λ ts b x. opened_as ts b new (of x)) (λ ts b. said ts (state_of ts b old)) r
stating_of {r = r} j = record { further = further_grown j.grown; stands = on_map r (λ x. stands_of x) j.extends; answers = j.answers }

pub opens_forgets : {T : Type 0} {old new : RustState} (of : T → List Param) (said : List Ty → State → Answer Opening) (s : Stop)
    → Grown old.types new.types → s ≡ stop.Memory → Opens old new of said (Err s)
opens_forgets {old = old} {new = new} of said s g is = record {
  grown = g;
  extends = tt;
  answers = λ ts b u. forgets (λ x. opened_as ts b new (of x)) (said ts (state_of ts b old)) s is;
  fits = tt;
  numbered = tt;
  place = tt;
}

-- what is declared without a refusal
pub opens_here : {T : Type 0} {old new : RustState} (of : T → List Param) (given : List Ty → List Given) (x : T) → Ready old
    → new.types ≡ old.types → Declares old new (λ ts st. with_parameters st (map (given_of ts) (of x)))
    → ((ts : List Ty) → map (given_of ts) (of x) ≡ given ts) → GivenWithin (length old.types) (of x) → AreNumbered old.place (of x)
    → new.place ≡ old.place + length (of x) → Opens old new of (λ ts st. Ok (opening st (given ts))) (Ok x)
opens_here {old = old} {new = new} of given x h t d e w n p = record {
  grown = subst (Grown old.types) (sym t) (grown_same old.types);
  extends = d.extends h;
  answers = λ ts b u.
      ap₂ (λ (params : List Given) (st : State). Ok (opening_as params st)) (sym (e ts))
      (sym (d.view ts b ∙ ap (with_parameters (state_of ts b old)) (e ts)));
  fits = subst (λ l. GivenWithin (length l) (of x)) (sym t) w;
  numbered = n;
  place = p;
}

-- a part that stops
pub opens_stops : {A S T : Type 0} {old new : RustState} {part : List Ty → S → A} {told : List Ty → Env → Answer A} {within : ℕ → S → Type 0}
    {s : Stop}
    (of : T → List Param) (go : List Ty → State → A → Answer Opening) → Typing old new part told within (Err s)
    → Opens old new of (λ ts st. and_then (told ts st.env) (go ts st)) (Err s)
opens_stops {old = old} {new = new} {part = part} {told = told} {s = s} of go j = record {
  grown = j.grown;
  extends = tt;
  answers = λ ts b u. stops (λ x. opened_as ts b new (of x)) (part ts) (told ts (env_in ts old)) (go ts (state_of ts b old)) s (j.answers ts u);
  fits = tt;
  numbered = tt;
  place = tt;
}

extends_typed : {A S : Type 0} {old mid new : RustState} {part : List Ty → S → A} {told : List Ty → Env → Answer A} {within : ℕ → S → Type 0}
    {r : Result S Stop}
    → Typing old mid part told within r → Extends mid new → Extends old new
extends_typed {old = old} {mid = mid} {new = new} j x = record {
  begins = (x.begins.0, x.begins.1 ∙ ap (λ (s : RustState). s.scope.decls ++ x.begins.0) j.same);
  frame = x.frame
      ∙ ap (λ (s : RustState). record s { types = new.types; scope = record s.scope { decls = new.scope.decls }; place = new.place }) j.same;
  ready = x.ready;
}

-- behind a type that is written
pub opens_behind : {A S T : Type 0} {old mid new : RustState} {part : List Ty → S → A} {told : List Ty → Env → Answer A}
    {within : ℕ → S → Type 0} {x : S}
    {of : T → List Param} {r : Result T Stop} (go : List Ty → State → A → Answer Opening) → Typing old mid part told within (Ok x)
    → Opens mid new of (λ ts st. go ts st (part ts x)) r → Opens old new of (λ ts st. and_then (told ts st.env) (go ts st)) r
opens_behind {old = old} {mid = mid} {new = new} {part = part} {told = told} {x = x} {of = of} {r = r} go j k = record {
  grown = grown_on j.grown k.grown;
  extends = on_map r (λ e. extends_typed j e) k.extends;
  answers = λ ts b u.
      let v = over_old mid.types new.types ts k.grown u in
      goes (λ y. opened_as ts b new (of y)) (part ts) (told ts (env_in ts old)) (go ts (state_of ts b old)) x r (j.answers ts v)
      (subst (λ (st : State). Answers (λ y. opened_as ts b new (of y)) (go ts st (part ts x)) r) (same_view ts b j v) (k.answers ts b u));
  fits = k.fits;
  numbered = subst (λ n. IfOk r (λ y. AreNumbered n (of y))) (ap (λ (s : RustState). s.place) j.same) k.numbered;
  place = subst (λ n. IfOk r (λ y. new.place ≡ n + length (of y))) (ap (λ (s : RustState). s.place) j.same) k.place;
}

-- behind names that are new
pub opens_named : {T : Type 0} {old mid new : RustState} {of : T → List Param} {r : Result T Stop} (told : List Ty → State → Answer (Unit {0}))
    (go : List Ty → State → Answer Opening) → Stating old mid (λ ts b (x : Unit {0}). x) (λ ts b. told ts (state_of ts b old)) (Ok tt) → mid ≡ old
    → Opens mid new of go r → Opens old new of (λ ts st. and_then (told ts st) (λ _. go ts st)) r
opens_named {old = old} {mid = mid} {new = new} {of = of} {r = r} told go j e k = record {
  grown = subst (λ (s : RustState). Grown s.types new.types) e k.grown;
  extends = subst (λ (s : RustState). OnOk r (Extends s new)) e k.extends;
  answers = λ ts b u.
      goes (λ y. opened_as ts b new (of y)) (λ (x : Unit {0}). x) (told ts (state_of ts b old)) (λ _. go ts (state_of ts b old)) tt r
      (j.answers ts b (over_old mid.types new.types ts k.grown u))
      (subst (λ (s : RustState). Answers (λ y. opened_as ts b new (of y)) (go ts (state_of ts b s)) r) e (k.answers ts b u));
  fits = k.fits;
  numbered = subst (λ (s : RustState). IfOk r (λ y. AreNumbered s.place (of y))) e k.numbered;
  place = subst (λ (s : RustState). IfOk r (λ y. new.place ≡ s.place + length (of y))) e k.place;
}

pub opens_unnamed : {T : Type 0} {old new : RustState} {s : Stop} (of : T → List Param) (told : List Ty → State → Answer (Unit {0}))
    (go : List Ty → State → Answer Opening) → Stating old new (λ ts b (x : Unit {0}). x) (λ ts b. told ts (state_of ts b old)) (Err s)
    → new.types ≡ old.types → Opens old new of (λ ts st. and_then (told ts st) (λ _. go ts st)) (Err s)
opens_unnamed {old = old} {new = new} {s = s} of told go j t = record {
  grown = subst (Grown old.types) (sym t) (grown_same old.types);
  extends = tt;
  answers = λ ts b u.
      stops (λ y. opened_as ts b new (of y)) (λ (x : Unit {0}). x) (told ts (state_of ts b old)) (λ _. go ts (state_of ts b old)) s (j.answers ts b u);
  fits = tt;
  numbered = tt;
  place = tt;
}

-- ---- the loop over groups

-- those so far, before others
abbrev pub onto : List Param → List Ty → Opening → Opening
onto done ts o = opening_as (map (given_of ts) done ++ o.params) o.state

pub record GroupsLeft (old now : RustState) (done : List Param) (result : Bool) (rest all : List Parameters) : Type 0 where
  pub grown : Grown old.types now.types
  pub extends : Extends old now
  pub left : Left old now (λ ts b. opening_rule (state_of ts b old) result all) (λ ts b. opening_rule (state_of ts b now) result rest) (onto done)
  pub fits : GivenWithin (length now.types) done
  pub numbered : AreNumbered old.place done
  pub place : now.place ≡ old.place + length done

pub groups_none : (s : RustState) (done : List Param) (result : Bool) (all : List Parameters) → Ready s → done ≡ [] → GroupsLeft s s done result all all
groups_none s done result all h e =
    subst (λ (d : List Param). GroupsLeft s s d result all all) (sym e) (record {
      grown = grown_same s.types;
      extends = extends_same s h;
      left = left_whole s (λ ts b. opening_rule (state_of ts b s) result all) (onto []) h (λ ts a. refl);
      fits = tt;
      numbered = tt;
      place = omega arith;
    })

within_both : (n : ℕ) (xs ys : List Param) → GivenWithin n xs → GivenWithin n ys → GivenWithin n (xs ++ ys)
within_both n [] ys h k = k
within_both n (x ∷ xs) ys h k = (h.0, within_both n xs ys h.1 k)

pub within_more : (m n : ℕ) (xs : List Param) → m ≤ n → GivenWithin m xs → GivenWithin n xs
within_more m n [] l h = tt
within_more m n (x ∷ xs) l h = (omega (arith, l, h.0), within_more m n xs l h.1)

numbered_both : (first next : ℕ) (xs ys : List Param) → next ≡ first + length xs → AreNumbered first xs → AreNumbered next ys
    → AreNumbered first (xs ++ ys)
numbered_both first next [] ys e h k = let e' : next ≡ first = omega (arith, e) in subst (λ n. AreNumbered n ys) e' k
numbered_both first next (x ∷ xs) ys e h k = (h.0, numbered_both (suc first) next xs ys (omega (arith, e)) h.1 k)

pub groups_more : {T : Type 0} {old now new : RustState} {done : List Param} {of : T → List Param} {result : Bool} {left all : List Parameters}
    (g : Parameters) (rest : List Parameters) (x : T) (more : List Param) → left ≡ g ∷ rest → more ≡ done ++ of x
    → GroupsLeft old now done result left all
    → Opens now new of (λ ts st. group_rule st result g) (Ok x) → GroupsLeft old new more result rest all
groups_more {old = old} {now = now} {new = new} {done = done} {of = of} {result = result} {left = left} {all = all} g rest x more le me l j =
    subst (λ (d : List Param). GroupsLeft old new d result rest all) (sym me) (record {
      grown = grown_on l.grown j.grown;
      extends = extends_on l.extends j.extends;
      left = left_goes (λ ts b (o : Opening). opening_rule o.state result rest) (λ ts y a. and_opening y a) (onto (done ++ of x)) l.left
          (λ ts b. ap (opening_rule (state_of ts b now) result) le ∙ opening_step (state_of ts b now) result g rest) (stating_of j)
          (λ ts b a. ap (λ (ps : List Given). opening_as ps a.state)
          (sym (append_assoc (map (given_of ts) done) (map (given_of ts) (of x)) a.params)
          ∙ ap (λ ps. ps ++ a.params) (sym (map-append (given_of ts) done (of x)))));
      fits = within_both (length new.types) done (of x) (within_more (length now.types) (length new.types) done j.grown.length l.fits) j.fits;
      numbered = numbered_both old.place now.place done (of x) l.place l.numbered j.numbered;
      place = let a = l.place in let b = j.place in omega (arith, a, b, length-append done (of x));
    })

pub groups_stop : {S T : Type 0} {old now new : RustState} {done : List Param} {part : S → List Param} {result : Bool} {left all : List Parameters} {s : Stop}
    (of : T → List Param) (g : Parameters) (rest : List Parameters) → left ≡ g ∷ rest → GroupsLeft old now done result left all
    → Opens now new part (λ ts st. group_rule st result g) (Err s) → Opens old new of (λ ts st. opening_rule st result all) (Err s)
groups_stop {old = old} {now = now} {new = new} {part = part} {result = result} {all = all} {s = s} of g rest le l j = record {
  grown = grown_on l.grown j.grown;
  extends = tt;
  answers = (left_stops (λ ts b x. opened_as ts b new (of x))
      (λ ts b (y : Opening). and_then (opening_rule y.state result rest) (λ a. Ok (and_opening y a))) l.left
      (λ ts b. ap (opening_rule (state_of ts b now) result) le ∙ opening_step (state_of ts b now) result g rest) (stating_of j)).answers;
  fits = tt;
  numbered = tt;
  place = tt;
}

pub groups_end : {old now : RustState} {done : List Param} {result : Bool} {left all : List Parameters} → left ≡ []
    → GroupsLeft old now done result left all
    → Opens old now (λ (d : List Param). d) (λ ts st. opening_rule st result all) (Ok done)
groups_end {old = old} {now = now} {done = done} {result = result} e l = record {
  grown = l.grown;
  extends = l.extends;
  answers = (left_ends (λ ts b (d : List Param). opened_as ts b now d) (λ ts b. opening (state_of ts b now) []) done l.left
      (λ ts b. ap (opening_rule (state_of ts b now) result) e) (λ ts b. ends ts b)).answers;
  fits = l.fits;
  numbered = l.numbered;
  place = l.place;
}
  where
    ends : (ts : List Ty) (b : Beside) → onto done ts (opening (state_of ts b now) []) ≡ opened_as ts b now done
    ends ts b = ap₂ (λ (ps : List Given) (st : State). opening_as ps st) (append-nil (map (given_of ts) done)) (with_none (state_of ts b now))

-- ---- signatures

-- with types more
pub extends_behind : {A S : Type 0} {old mid new : RustState} {part : List Ty → S → A} {told : List Ty → Env → Answer A}
    {within : ℕ → S → Type 0} {r : Result S Stop}
    → Extends old mid → Typing mid new part told within r → Extends old new
extends_behind {old = old} {mid = mid} {new = new} x j = record {
  begins = (x.begins.0, ap (λ (s : RustState). s.scope.decls) j.same ∙ x.begins.1);
  frame = j.same ∙ ap (λ (s : RustState). record s { types = new.types }) x.frame ∙ sym (ap again j.same);
  ready = ready_typed j x.ready;
}
  where
    again : RustState → RustState
    again s = record old { types = new.types; scope = record old.scope { decls = s.scope.decls }; place = s.place }

pub if_params : {S : Type 0} (n : ℕ) (ps : List Param) (of : S → List Param) (r : Result S Stop) → AreNumbered n ps → IfOk r (λ s. of s ≡ ps)
    → IfOk r (λ s. AreNumbered n (of s))
if_params n ps of (Ok s) h e = subst (AreNumbered n) (sym e) h
if_params n ps of (Err s) h e = tt

pub on_ok : {T P : Type 0} (r : Result T Stop) → P → OnOk r P
on_ok (Ok x) p = p
on_ok (Err s) p = tt

take_front : (xs ys : List Decl) → take (length xs) (xs ++ ys) ≡ xs
take_front [] ys = refl
take_front (x ∷ xs) ys = ap (λ l. x ∷ l) (take_front xs ys)

-- behind the scope of the parameters only types are more
pub left_state : (old inner new : RustState) (count : ℕ) → count ≡ length old.scope.decls → Extends (record old { outside = count }) inner
    → new ≡ record inner { outside = old.outside; scope = record inner.scope { decls = take count inner.scope.decls }; place = old.place }
    → new ≡ record old { types = inner.types }
left_state old inner new count n x is =
    is
    ∙ ap (λ (s : RustState). record s { outside = old.outside; scope = record s.scope { decls = take count inner.scope.decls }; place = old.place }) x.frame
    ∙ ap (λ (ds : List Decl). record old { types = inner.types; scope = record old.scope { decls = ds } })
    (ap₂ take n x.begins.1 ∙ take_front old.scope.decls x.begins.0)

map_length : {X Y : Type 0} (f : X → Y) (xs : List X) → length (map f xs) ≡ length xs
map_length f [] = refl
map_length f (x ∷ xs) = ap suc (map_length f xs)

-- what a signature says in a scope of its own
pub signature_so : (old : RustState) (count : ℕ) (h : Head) (ts : List Ty) (b : Beside) → count ≡ length old.scope.decls
    → signature_rule (state_of ts b old) h ≡ signature_inside (state_of ts b (record old { outside = count })) h
signature_so old count h ts b n =
    sym (ap (λ (k : ℕ). signature_inside (record (state_of ts b old) { outside = k }) h) (n ∙ sym (map_length (entry_of ts) old.scope.decls))
    ∙ opened (entered (state_of ts b old)) h.gives (parameters_rule (entered (state_of ts b old)) (has_result h.gives) h.params))

pub begin_ready : (old : RustState) (count : ℕ) → count ≡ length old.scope.decls → Ready old → Ready (record old { outside = count })
begin_ready old count n h = record { all = h.all; outside = omega (arith, n) }

-- a signature that is known, where its scope has been left
pub signature_goes : (old inner new : RustState) (count : ℕ) (h : Head) (s : RustSignature) → count ≡ length old.scope.decls → Ready old
    → new ≡ record old { types = inner.types } → Grown old.types inner.types
    → ((ts : List Ty) (b : Beside) → Over inner ts
    → Answers (signature_of ts) (signature_inside (state_of ts b (record old { outside = count })) h) (Ok s))
    → Stating old new (λ ts b x. signature_of ts x) (λ ts b. signature_rule (state_of ts b old) h) (Ok s)
signature_goes old inner new count h s n r is g a =
    subst (λ (z : RustState). Stating old z (λ ts b x. signature_of ts x) (λ ts b. signature_rule (state_of ts b old) h) (Ok s)) (sym is) (record {
      further = further_grown g;
      stands = record {
        ready = ready_grown old (record old { types = inner.types }) g refl refl r;
        begins = ([], sym (append-nil old.scope.decls));
        outside = refl;
      };
      answers = λ ts b u. answers_as (signature_of ts) (signature_rule (state_of ts b old) h)
          (signature_inside (state_of ts b (record old { outside = count })) h) (Ok s)
          (signature_so old count h ts b n) (a ts b u);
    })

pub signature_stops : (old inner : RustState) (count : ℕ) (h : Head) (s : Stop) → count ≡ length old.scope.decls → Grown old.types inner.types
    → ((ts : List Ty) (b : Beside) → Over inner ts
    → Answers (signature_of ts) (signature_inside (state_of ts b (record old { outside = count })) h) (Err s))
    → Stating old inner (λ ts b x. signature_of ts x) (λ ts b. signature_rule (state_of ts b old) h) (Err s)
signature_stops old inner count h s n g a = record {
  further = further_grown g;
  stands = tt;
  answers = λ ts b u. answers_as (signature_of ts) (signature_rule (state_of ts b old) h)
      (signature_inside (state_of ts b (record old { outside = count })) h) (Err s)
      (signature_so old count h ts b n) (a ts b u);
}
