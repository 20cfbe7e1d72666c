-- What goes by a way and does its acts passes the points of the way.
use Rattle.std.proofs.Common.{◌≡◌, refl, sym, subst, ℕ, Bool, false, List}
use Rattle.nim_types.specs.Forms.{form_of}
use Rattle.arc_base.specs.BigStep.{Res, Got, Over, Going, Errs, then_do, Turn}
use Rattle.nim_program.specs.Program.{Declared, Calling}
use Rattle.nim_program.specs.declared.stmt.Leaving.{Leaving}
use Rattle.nim_program.specs.declared.stmt.Leaving.TheVariants as K
use Rattle.nim_meaning.specs.ActTree.{On as On_flow, Pass, Fill, Give, Named, whole, Invoke, Look}
use Rattle.nim_meaning.specs.Ways.{Point, Exits, Graph, onto}
use Rattle.nim_meaning.specs.State.{State}
use Rattle.nim_meaning.specs.Values.{Value, Location}
use Rattle.nim_meaning.specs.Acts.{Outcome, On, Out as LeftBy, Does, give, exit_of, left_as, leaving_scope, as_before, onward, ◌>>=◌, ◌>>◌, branch, costs}
use Rattle.nim_meaning.specs.Acts.{worked, passing}
use Rattle.nim_meaning.specs.Acts.{leave, loop}
use Rattle.nim_meaning.specs.Deeds.{carry}
use Rattle.nim_meaning.specs.Here.{Here, is_hooked}
use Rattle.nim_meaning.specs.Places.{place_at, put, fetched, length_at, fetched_item, as_long}
use Rattle.nim_meaning.specs.Aims.{find, settle}
use Rattle.nim_meaning.specs.Meaning.{carried, fill, place_ends, ends, scoped, still, element_at, exit_by}
use Rattle.nim_meaning.specs.AtPoints.{Answer, answer, Known, Counter, counter, flow_by, DoesBy, TurnsBy, gives, hands_on, works_first, follows_on, same_way}
use Rattle.nim_meaning.specs.AtPoints.{same_deed}
use Rattle.nim_meaning.specs.AtPoints.{passes, leaves, loops, in_scope, reads, reads_alone, works_on, calls, fills, gives_result, counts}
use Rattle.nim_meaning.specs.AtPoints.{turn_follows, turn_passes, turn_again, turn_ends, turn_reads}
use Rattle.nim_meaning.proofs.RunLemmas.{AreElsewhere, Still, Answers, past, gone_none, gone_one, Goes, goes_same, then_goes, goes_still, goes_past, past_still}
use Rattle.nim_meaning.proofs.RunLoops.{TurnGoes, then_turn, turn_past, turn_anew, goes_round}
use Rattle.nim_meaning.proofs.StillLemmas.{still_carry, still_find, still_settle, still_carried}

-- nothing is claimed of what it goes on with
any : {A : Type 0} (r : Res State (Outcome A)) → Answers (λ x. Unit {0}) r
any (Got (On x) s) = tt
any (Got (LeftBy way) s) = tt
any (Over status live s) = tt
any (Going s) = tt
any (Errs s) = tt

then_answers : {A B : Type 0} (H : A → Type 0) (I : B → Type 0) (r : Res State (Outcome A)) (go : A → Does B) → Answers H r →
    ((x : A) → H x → (s : State) → Answers I (go x s)) → Answers I (then_do r (onward go))
then_answers H I (Got (On x) s) go h g = g x h s
then_answers H I (Got (LeftBy way) s) go h g = tt
then_answers H I (Over status live s) go h g = tt
then_answers H I (Going s) go h g = tt
then_answers H I (Errs s) go h g = tt

module _ (E : Graph) (here : Here) where
  -- what is known of an answer is so
  pub known : {a : Answer} {p : Point} {k : Exits} {act : Does (answer a)} → DoesBy E here a p k act → (s : State) → Answers (Known here a) (act s)
  known (gives h) s = h
  known (hands_on {deed = deed} w) s = any (carry deed s)
  known (works_first n f) s = known f (worked n s)
  known (follows_on {a = a} {b = b} {act = act} {go = go} f g) s =
      then_answers (Known here a) (Known here b) (act s) go (known f s) (λ x h t. known (g x h) t)
  known (same_way h f) s = known f s
  known (same_deed {a = a} h f) s = subst (λ r. Answers (Known here a) r) (h s) (known f s)
  known (passes {p = p} e f) s = known f (past p s)
  known (leaves node leaving e) s = tt
  known (loops {turn = turn} x turns) s = any (loop turn x s)
  known (in_scope {act = act} place last e f) s = any (scoped here place last act s)
  known (reads {p = p} {aim = aim} e l) s = any ((find aim >>= (λ found. passing p (carry (fetched found)))) s)
  known (reads_alone {aim = aim} {deed = deed} path e l w) s = any ((find aim >>= (λ found. carry (deed found))) s)
  known (works_on {p = p} {ready = ready} {deed = deed} e d l) s = any ((settle ready >>= (λ xs. passing p (carry (deed xs)))) s)
  known (calls {p = p} {proc = proc} {ready = ready} node types how ty of e d l) s =
      any ((settle ready >>= (λ xs. passing p (carried here node (Calling proc types) how ty of xs))) s)
  known (fills v e) s = tt
  known (gives_result {p = p} {place = place} v e) s = any (passing p (carry (put (place_at here.level place) v)) s)
  known (counts {b = b} {p = p} {aim = aim} {go = go} e l g) s =
      then_answers (λ x. Unit {0}) (Known here b) (find aim (past p s)) (λ found. carry (length_at found) >>= go) (any (find aim (past p s)))
      (λ found u t. then_answers (λ x. Unit {0}) (Known here b) (carry (length_at found) t) go (any (carry (length_at found) t)) (λ len u t. known (g len) t))

  module _ (elsewhere : List Point → Type 0) (apart : AreElsewhere elsewhere here.calls) where
    abbrev G : {A : Type 0} → Point → Exits → List Point → Res State (Outcome A) → Type 0
    G p k t r = Goes E elsewhere p k t r

    -- a place without hooks, whose end is nothing
    abbrev ends_by : Bool → Declared → Does (Unit {0})
    ends_by hook place = costs 1 (branch hook (carry (place_ends (form_of here.facts place.of) here.level place.number)) (give tt))

    nothing_ends : (p : Point) (k : Exits) (t : List Point) (place : Declared) (r : Res State (Outcome (Unit {0}))) → G p k t r →
        G p k t (then_do r (λ flow. ends_by false place >> as_before flow))
    nothing_ends p k t place (Got (On x) s) h = h
    nothing_ends p k t place (Got (LeftBy way) s) h = h
    nothing_ends p k t place (Over status live s) h = h
    nothing_ends p k t place (Going s) h = h
    nothing_ends p k t place (Errs s) h = h

    scope_goes : (p : Point) (k : Exits) (t : List Point) (place : Declared) (last : ℕ) → is_hooked here.facts place.of ≡ false →
        (r : Res State (Outcome (Unit {0}))) → G p k t r → G p k t (then_do r
        (λ flow. leaving_scope (is_hooked here.facts place.of) (Named place.number) (left_as flow) (ends here place (exit_of last flow)) >> as_before flow))
    scope_goes p k t place last e r h =
        subst (λ hook. G p k t (then_do r (λ flow. leaving_scope hook (Named place.number) (left_as flow) (ends_by hook place) >> as_before flow)))
        (sym e) (nothing_ends p k t place r h)

    leaves_goes : (A : Type 0) (p : Point) (k : Exits) (node : ℕ) (leaving : Leaving) (s : State) → E p Pass (k (flow_by leaving node)) →
        G {A = A} p k s.trail (passing p (leave (exit_by leaving node)) s)
    leaves_goes A p k node K.Break s e = gone_one E p (k (flow_by K.Break node)) Pass s.trail e
    leaves_goes A p k node K.Continue s e = gone_one E p (k (flow_by K.Continue node)) Pass s.trail e
    leaves_goes A p k node K.Return s e = gone_one E p (k (flow_by K.Return node)) Pass s.trail e

    still_fill : (place : ℕ) (v : Value) → Still elsewhere (fill here place v)
    still_fill place v = record { at = λ s. refl }

    still_same : (found : Location) (n : ℕ) → Still elsewhere (still found n)
    still_same found n = still_carry elsewhere (as_long found n)

    still_element : (found : Location) (i : ℕ) → Still elsewhere (element_at found i)
    still_element found i = still_carry elsewhere (fetched_item found i)

    -- what passes no point, and then more
    still_then : {A B : Type 0} (p : Point) (k : Exits) (act : Does A) (go : A → Does B) → Still elsewhere act →
        ((x : A) (s : State) → G p k s.trail (go x s)) → (s : State) → G p k s.trail ((act >>= go) s)
    still_then p k act go h g s =
        then_goes E elsewhere (λ x. Unit {0}) p p k s.trail (act s) go (any (act s)) (goes_still E elsewhere (onto p k) act h s) (λ x u t. g x t)

    still_turn : {A X Y : Type 0} (p a b : Point) (k : Exits) (act : Does A) (go : A → Does (Turn X Y)) → Still elsewhere act →
        ((x : A) (s : State) → TurnGoes E elsewhere p a b k s.trail (go x s)) → (s : State) → TurnGoes E elsewhere p a b k s.trail ((act >>= go) s)
    still_turn p a b k act go h g s =
        then_turn E elsewhere (λ x. Unit {0}) p p a b k s.trail (act s) go (any (act s)) (goes_still E elsewhere (onto p k) act h s) (λ x u t. g x t)

    mutual
      pub goes : {a : Answer} {p : Point} {k : Exits} {act : Does (answer a)} → DoesBy E here a p k act → (s : State) → G p k s.trail (act s)
      goes (gives {k = k} h) s = gone_none E (k On_flow) s.trail
      goes (hands_on {k = k} {deed = deed} w) s = goes_still E elsewhere k (carry deed) (still_carry elsewhere deed) s
      goes (works_first n f) s = goes f (worked n s)
      goes (follows_on {a = a} {p = p} {m = m} {k = k} {act = act} {go = go} f g) s =
          then_goes E elsewhere (Known here a) p m k s.trail (act s) go (known f s) (goes f s) (λ x h t. goes (g x h) t)
      goes (same_way {p = p} {k = k} {l = l} {act = act} h f) s = goes_same E elsewhere p k l s.trail (act s) h (goes f s)
      goes (same_deed {p = p} {k = k} h f) s = subst (λ r. G p k s.trail r) (h s) (goes f s)
      goes (passes {p = p} {q = q} {k = k} {act = act} e f) s = goes_past E elsewhere p q Pass k act e s (goes f (past p s))
      goes (leaves {a = a} {p = p} {k = k} node leaving e) s = leaves_goes (answer a) p k node leaving s e
      goes (loops {p = p} {k = k} {turn = turn} x turns) s = goes_round E elsewhere p k turn (λ y t. turn_goes (turns y) t) x s
      goes (in_scope {p = p} {k = k} {act = act} place last e f) s = scope_goes p k s.trail place last e (act s) (goes f s)
      goes (reads {p = p} {k = k} {z = z} {aim = aim} e l) s =
          still_then p k (find aim) (λ found. passing p (carry (fetched found))) (still_find elsewhere aim)
          (λ found t. past_still E elsewhere p (Look z) k (carry (fetched found)) e (still_carry elsewhere (fetched found)) t) s
      goes (reads_alone {k = k} {aim = aim} {deed = deed} path e l w) s =
          still_then (k On_flow) k (find aim) (λ found. carry (deed found)) (still_find elsewhere aim)
          (λ found t. goes_still E elsewhere k (carry (deed found)) (still_carry elsewhere (deed found)) t) s
      goes (works_on {p = p} {k = k} {d = d} {ready = ready} {deed = deed} e i l) s =
          still_then p k (settle ready) (λ xs. passing p (carry (deed xs))) (still_settle elsewhere ready)
          (λ xs t. past_still E elsewhere p d k (carry (deed xs)) e (still_carry elsewhere (deed xs)) t) s
      goes (calls {p = p} {k = k} {proc = proc} {on = on} {ready = ready} node types how ty of e i l) s =
          still_then p k (settle ready) (λ xs. passing p (carried here node (Calling proc types) how ty of xs)) (still_settle elsewhere ready)
          (λ xs t. past_still E elsewhere p (Invoke proc on) k (carried here node (Calling proc types) how ty of xs) e
          (still_carried elsewhere here node (Calling proc types) how ty of xs apart) t) s
      goes (fills {p = p} {k = k} {place = place} v e) s =
          past_still E elsewhere p (Fill (Named place)) k (fill here place v) e (still_fill place v) s
      goes (gives_result {p = p} {k = k} {place = place} v e) s =
          past_still E elsewhere p (Give (whole (Named place))) k (carry (put (place_at here.level place) v)) e
          (still_carry elsewhere (put (place_at here.level place) v)) s
      goes (counts {p = p} {q = q} {k = k} {d = d} {aim = aim} {go = go} e l g) s =
          then_goes E elsewhere (λ x. Unit {0}) p q k s.trail (passing p (find aim) s) (λ found. carry (length_at found) >>= go)
          (any (passing p (find aim) s)) (past_still E elsewhere p d (onto q k) (find aim) e (still_find elsewhere aim) s)
          (λ found u t. still_then q k (carry (length_at found)) go (still_carry elsewhere (length_at found)) (λ len t. goes (g len) t) t)

      turn_goes : {c : Counter} {p next after : Point} {k : Exits} {act : Does (Turn (counter c) (Unit {0}))} → TurnsBy E here c p next after k act →
          (s : State) → TurnGoes E elsewhere p next after k s.trail (act s)
      turn_goes (turn_follows {a = a} {p = p} {m = m} {next = next} {after = after} {k = k} {act = act} {go = go} f g) s =
          then_turn E elsewhere (Known here a) p m next after k s.trail (act s) go (known f s) (goes f s) (λ x h t. turn_goes (g x h) t)
      turn_goes (turn_passes {p = p} {q = q} {next = next} {after = after} {k = k} {act = act} e f) s =
          turn_past E elsewhere p q next after Pass k act e s (turn_goes f (past p s))
      turn_goes (turn_again {p = p} {next = next} {k = k} {body = body} x f) s = turn_anew E elsewhere p next k body x (λ t. goes f t) s
      turn_goes (turn_ends {after = after}) s = gone_none E after s.trail
      turn_goes (turn_reads {p = p} {q = q} {next = next} {after = after} {k = k} {d = d} {aim = aim} {rest = rest} len i e l g) s =
          still_turn p next after k (find aim) (λ found. still found len >> (passing p (element_at found i) >>= rest)) (still_find elsewhere aim)
          (λ found t. still_turn p next after k (still found len) (λ u. passing p (element_at found i) >>= rest) (still_same found len)
          (λ u t. then_turn E elsewhere (λ x. Unit {0}) p q next after k t.trail (passing p (element_at found i) t) rest
          (any (passing p (element_at found i) t))
          (past_still E elsewhere p d (onto q k) (element_at found i) e (still_element found i) t) (λ v u t. turn_goes (g v) t)) t) s
