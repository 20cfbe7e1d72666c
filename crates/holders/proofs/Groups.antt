-- The temporaries of a group end, and the scope of a place is left.
use Rattle.std.proofs.Common.{◌≡◌, refl, sym, ap, subst, ◌∙◌, arith, ℕ, ◌<◌, ◌≤◌, inl, inr, ◌⊎◌, List, [], ◌∷◌, ◌++◌, Option, Some, None, Bool, true}
use Rattle.std.proofs.Common.{false}
use Rattle.std.proofs.lemmas.Option.{none-some}
use Rattle.std.specs.Prelude.{nat_eq, if◌then◌else◌}
use Rattle.nim_types.specs.Forms.{Form, form_of}
use Rattle.nim_program.specs.Program.{Declared}
use Rattle.nim_meaning.specs.Values.{Value, Holds, Base, Waiting, InBlock, at_base}
use Rattle.nim_meaning.specs.Marks.{Member}
use Rattle.nim_meaning.specs.State.{Frame, World, State, frame_in, temporary_in, temporary_at}
use Rattle.nim_meaning.specs.ActTree as points
use Rattle.nim_meaning.specs.Acts.{Exit, Outcome, On, Out, Does, give, ◌>>◌, as_before, left_as, exit_of, branch, leaving_scope, costs}
use Rattle.nim_meaning.specs.Deeds as deeds
use Rattle.nim_meaning.specs.Deeds.{Leaves, changed, carry, does}
use Rattle.nim_meaning.specs.Lifted.{slot_ends, temporary_ends}
use Rattle.nim_meaning.specs.Here.{Here, is_hooked}
use Rattle.nim_meaning.specs.Waiting.{Wait}
use Rattle.nim_meaning.specs.Steps.{all_end, ended}
use Rattle.nim_meaning.specs.Meaning.{place_ends, ends, scoped}
use Rattle.holders.specs.Owned.{IsBase, at_node}
use Rattle.holders.specs.Sure.{Sure, Comes}
use Rattle.holders.specs.Becoming.{taken_in, times, LosesNone}
use Rattle.holders.specs.Territory.{Owner, Cells, no_cells, a_cell, Territory, Among, first_owner, later_owner, NoBaseOf}
use Rattle.holders.specs.Working.{without}
use Rattle.holders.specs.Running.{Region, IsOutside}
use Rattle.holders.specs.Called.{NotRaised, LeftBy}
use Rattle.holders.specs.Staging.{Stage}
use Rattle.holders.specs.Groups.{without_node, without_waits, Ends, no_waits, one_waits, none_waits, AllMine}
use Rattle.holders.proofs.Sure.{sure_then}
use Rattle.holders.proofs.FrameChanges as frames
use Rattle.holders.proofs.FrameChanges.{value_leaves}
use Rattle.holders.proofs.Running.{no_less, passes_then, passes_apace, Apace, territory_apace}
use Rattle.holders.proofs.Working.{works_front, among_first, all_at, all_without, front_often}
use Rattle.holders.proofs.Calling.{first_apart, ends_alone, EndsAlone, ended_passes}
use Rattle.holders.proofs.Coming.{comes_carried, comes_then, comes_at_exit, comes_scope, comes_weaker}

pub without_first : (gs : List Owner) {os : List Owner} {o : Owner} (i : Among os o) → without (among_first gs i) ≡ without i ++ gs
without_first gs first_owner = refl
without_first gs (later_owner {p = p} i) = ap (λ (ps : List Owner). p ∷ ps) (without_first gs i)

record TurnedTo (ps : List Owner) (old : List ℕ) (start now : World) : Type 0 where
  territory : Territory ps now
  came : (k : ℕ) → Member k territory.blocks → Member k old ⊎ (Member k [] ⊎ (taken_in start ≤ k))
  loses : LosesNone (λ k. times k old) (λ k. times k territory.blocks) start now

without_node_in : (ns : List ℕ) (node n : ℕ) → Member n (without_node ns node) → Member n ns
without_node_in [] node n m = m
without_node_in (x ∷ ns) node n m = by (nat_eq x node) m (λ q. without_node_in ns node n q)
  where
    by : (b : Bool) → Member n (if b then ns else x ∷ without_node ns node) → (Member n (without_node ns node) → Member n ns) → Member n (x ∷ ns)
    by true m rest = inr m
    by false (inl e) rest = inl e
    by false (inr m) rest = inr (rest m)

without_waits_in : (nodes : List ℕ) (ws : List Wait) (n : ℕ) → Member n (without_waits nodes ws) → Member n nodes
without_waits_in nodes [] n m = m
without_waits_in nodes (w ∷ ws) n m = without_waits_in nodes ws n (without_node_in (without_waits nodes ws) w.node n m)

module _ (r : Region) (gs : List Owner) (first places : ℕ) (old : List ℕ) (start : World) where
  -- one of the part's own cells in front
  pub stage_front : {ms : List Owner} {o : Owner} {nodes : List ℕ} {now : World} (i : Among ms o) → Stage r ms gs first places nodes old start now →
      Stage r (o ∷ without i) gs first places nodes old start now
  stage_front {ms} {o} {nodes} {now} i s =
      let w = works_front (among_first gs i) s.runs.territory in
      let turned = subst (λ ps. TurnedTo (o ∷ ps) old start now) (without_first gs i)
      (record {
        territory = w.territory;
        came = λ k m. s.runs.came k (w.within k m);
        loses = λ k. omega (arith, s.runs.loses k, front_often (among_first gs i) s.runs.territory k);
      }) in
      record {
        runs = record {
          territory = turned.territory;
          own = (all_at (λ m. IsOutside r m.at.base → ⊥) s.runs.own i, all_without (λ m. IsOutside r m.at.base → ⊥) i s.runs.own);
          came = turned.came;
          loses = λ k. omega (arith, turned.loses k);
          passes = s.runs.passes;
        };
        active = s.active;
      }

  no_node : (node k : ℕ) → InBlock k ≡ Waiting r.level node → ⊥
  no_node node k e = subst is_block e tt
    where
      is_block : Base → Type 0
      is_block (InBlock k) = Unit {0}
      is_block b = ⊥

  inside : (node : ℕ) → r.nodes node ≡ true → IsOutside r (Waiting r.level node) → ⊥
  inside node mine (inl less) = omega (arith, less)
  inside node mine (inr w) = w.1 mine

  not_same : (l : ℕ) → l < r.level → l ≡ r.level → ⊥
  not_same l less e = omega (arith, less, e)

  -- nothing waits at a node any more
  leaves : {ms : List Owner} {nodes : List ℕ} {now : World} (node : ℕ) → r.nodes node ≡ true → NoBaseOf (Waiting r.level node) (ms ++ gs) →
      Stage r ms gs first places nodes old start now →
      Stage r ms gs first places (without_node nodes node) old start (changed (Leaves r.level node) now)
  leaves {ms} {nodes} {now} node mine off s =
      let change = value_leaves now r.level first places node nodes s.active in
      let a : Apace (Waiting r.level node) now (changed (Leaves r.level node) now) =
      record { bases = change.elsewhere; heap = no_less (taken_in now); hand = refl } in
      record {
        runs = record {
          territory = territory_apace a (no_node node) off s.runs.territory;
          own = s.runs.own;
          came = s.runs.came;
          loses = λ k. omega (arith, s.runs.loses k);
          passes = passes_then s.runs.passes s.runs.came (passes_apace r gs (inside node mine) a (λ l m to h there. change.names l m to h)
              (λ l f p ns less h. change.active l f p ns h (not_same l less)) change.count);
        };
        active = change.here first places nodes s.active;
      }

  -- a temporary ends, which is the first cell
  pub stage_ends : {f : Form} {ms : List Owner} {nodes : List ℕ} {now : World} (node : ℕ) → r.nodes node ≡ true →
      Stage r (record { form = f; at = at_base (Waiting r.level node) } ∷ ms) gs first places nodes old start now →
      Sure (temporary_ends f r.level node) (λ u after. Stage r ms gs first places (without_node nodes node) old start after) now
  stage_ends {f} {ms} {nodes} {now} node mine s =
      let a = first_apart s.runs.territory in
      let Q : Unit {0} → World → Type 0 = λ u after. Stage r ms gs first places (without_node nodes node) old start after in
      let E : Unit {0} → World → Type 0 = λ u after. EndsAlone f (Waiting r.level node) (ms ++ gs) s.runs.territory.blocks now after in
      sure_then (deeds.looks (λ world. slot_ends f (at_base (Waiting r.level node)) (temporary_at world r.level node)))
      (λ u. does (Leaves r.level node)) E Q now
      (subst (λ slot. Sure (slot_ends f (at_base (Waiting r.level node)) slot) E now) (sym (slot_there a.base))
      (ends_alone s.runs.territory (λ k e. no_node node k (sym e))))
      (λ u after e. leaves node mine a.off (record {
        runs = record {
          territory = e.territory;
          own = s.runs.own.1;
          came = λ k m. s.runs.came k (e.within k m);
          loses = λ k. omega (arith, s.runs.loses k, e.loses k);
          passes = passes_then s.runs.passes s.runs.came (ended_passes r (inside node mine) e);
        };
        active = e.stays.frames.active r.level first places nodes s.active;
      }))
    where
      slot_there : {v : Value} → IsBase now (Waiting r.level node) v → temporary_at now r.level node ≡ Some (Holds v)
      slot_there (at_node frame e g) = ap (λ (x : Option Frame). temporary_in (frame_in x).temporaries node) e ∙ g

  -- it doesn't wait
  none_ends : (f : Form) {ms : List Owner} {nodes : List ℕ} {now : World} (node : ℕ) → r.nodes node ≡ true → ((n : ℕ) → Member n nodes → n ≡ node → ⊥) →
      (s : Stage r ms gs first places nodes old start now) →
      Sure (temporary_ends f r.level node) (λ u after. Stage r ms gs first places (without_node nodes node) old start after) now
  none_ends f {ms} {nodes} {now} node mine none s =
      let frame = s.active.frame in
      let off : temporary_at now r.level node ≡ None =
      ap (λ (x : Option Frame). temporary_in (frame_in x).temporaries node) s.active.there
      ∙ frames.none_waits frame.temporaries node (λ n m. none n (subst (λ ns. Member n ns) s.active.nodes_are m)) in
      let Q : Unit {0} → World → Type 0 = λ u after. Stage r ms gs first places (without_node nodes node) old start after in
      sure_then (deeds.looks (λ world. slot_ends f (at_base (Waiting r.level node)) (temporary_at world r.level node)))
      (λ u. does (Leaves r.level node)) (λ u after. after ≡ now) Q now
      (subst (λ slot. Sure (slot_ends f (at_base (Waiting r.level node)) slot) (λ u after. after ≡ now) now) (sym off) refl)
      (λ u after e. subst (λ w. Q tt (changed (Leaves r.level node) w)) (sym e) (leaves_none off))
    where
      leaves_none : temporary_at now r.level node ≡ None → Stage r ms gs first places (without_node nodes node) old start (changed (Leaves r.level node) now)
      leaves_none off =
          let change = value_leaves now r.level first places node nodes s.active in
          let a : Apace (Waiting r.level node) now (changed (Leaves r.level node) now) =
          record { bases = change.elsewhere; heap = no_less (taken_in now); hand = refl } in
          record {
            runs = record {
              territory = territory_there a off (ms ++ gs) s.runs.territory;
              own = s.runs.own;
              came = s.runs.came;
              loses = λ k. omega (arith, s.runs.loses k);
              passes = passes_then s.runs.passes s.runs.came (passes_apace r gs (inside node mine) a (λ l m to h there. change.names l m to h)
                  (λ l f p ns less h. change.active l f p ns h (not_same l less)) change.count);
            };
            active = change.here first places nodes s.active;
          }
        where
          -- where nothing waits none of the cells is
          no_such : {w : Value} → temporary_at now r.level node ≡ None → IsBase now (Waiting r.level node) w → ⊥
          no_such {w} off (at_node x e g) =
              none-some (Holds w) (sym off ∙ (ap (λ (y : Option Frame). temporary_in (frame_in y).temporaries node) e ∙ g))

          off_all : temporary_at now r.level node ≡ None → (os : List Owner) (cs : List ℕ) → Cells now os cs → NoBaseOf (Waiting r.level node) os
          off_all off [] _ no_cells = tt
          off_all off (o ∷ os) _ (a_cell {w = w} {cs = cs} c rest) =
              (λ e. no_such off (subst (λ b. IsBase now b w) (sym e) c.at.base), off_all off os cs rest)

          territory_there : Apace (Waiting r.level node) now (changed (Leaves r.level node) now) → temporary_at now r.level node ≡ None → (os : List Owner) →
              (t : Territory os now) → Territory os (changed (Leaves r.level node) now)
          territory_there a off os t = territory_apace a (no_node node) (off_all off os t.blocks t.cells) t

  -- ---- all of a group

  pub group_ends : {nodes : List ℕ} {ws : List Wait} {ms ns : List Owner} (X : Exit → World → Type 0) (flow : points.Flow) → AllMine r ws →
      Ends r.level nodes ws ms ns → (s : State) → Stage r ms gs first places nodes old start s.world →
      Comes (λ u after. Stage r ns gs first places (without_waits nodes ws) old start after) X (all_end r.level flow ws s)
  group_ends X flow mine no_waits s h = h
  group_ends {nodes = nodes} X flow mine (one_waits {w = w} {ws = ws} {ns = ns} e i) s h =
      comes_then (all_end r.level flow ws)
      (λ u. leaving_scope true (points.Temporary w.node) flow (carry (temporary_ends w.form r.level w.node)))
      (λ u after. Stage r ns gs first places (without_waits nodes ws) old start after)
      (λ u after. Stage r (without i) gs first places (without_waits nodes (w ∷ ws)) old start after) X s (group_ends X flow mine.1 e s h)
      (λ u now g. comes_carried (λ u after. Stage r (without i) gs first places (without_waits nodes (w ∷ ws)) old start after) X
      (temporary_ends w.form r.level w.node) _ (stage_ends w.node mine.0 (stage_front i g)))
  group_ends {nodes = nodes} {ns = ns} X flow mine (none_waits {w = w} {ws = ws} e none) s h =
      comes_then (all_end r.level flow ws)
      (λ u. leaving_scope true (points.Temporary w.node) flow (carry (temporary_ends w.form r.level w.node)))
      (λ u after. Stage r ns gs first places (without_waits nodes ws) old start after)
      (λ u after. Stage r ns gs first places (without_waits nodes (w ∷ ws)) old start after) X s (group_ends X flow mine.1 e s h)
      (λ u now g. comes_carried (λ u after. Stage r ns gs first places (without_waits nodes (w ∷ ws)) old start after) X
      (temporary_ends w.form r.level w.node) _ (none_ends w.form w.node mine.0 (λ n m q. none n (without_waits_in nodes ws n m) q) g))

-- ---- the scope of a place

-- What follows in its block, by whichever way it is left, and then the place is over: where it has hooks its value ends, else nobody looks at it.
pub scope_left : (here : Here) (place : Declared) (last : ℕ) (rest : Does (Unit {0})) (S T : World → Type 0) →
    ((now : World) → S now → Sure (place_ends (form_of here.facts place.of) here.level place.number) (λ u after. T after) now) →
    (is_hooked here.facts place.of ≡ false → (now : World) → S now → T now) → (s : State) → Comes (λ u after. S after) (LeftBy S) (rest s) →
    Comes (λ u after. T after) (LeftBy T) (scoped here place last rest s)
scope_left here place last rest S T over lets_go s h =
    comes_at_exit rest after_all (λ u after. S after) (LeftBy S) (λ u after. T after) (LeftBy T) s h
    (λ u now g. left (On u) tt now g) (λ way now g. left (Out way) g.0 now g.1)
  where
    -- by no exception
    Left : Outcome (Unit {0}) → Type 0
    Left (On u) = Unit {0}
    Left (Out way) = NotRaised way

    after_all : Outcome (Unit {0}) → Does (Unit {0})
    after_all flow = leaving_scope (is_hooked here.facts place.of) (points.Named place.number) (left_as flow) (ends here place (exit_of last flow))
        >> as_before flow

    place_ends_so : (exit : ℕ) (now : State) → S now.world → Comes (λ u after. T after) (LeftBy T) (ends here place exit now)
    place_ends_so exit now g = by (is_hooked here.facts place.of) refl
      where
        by : (b : Bool) → is_hooked here.facts place.of ≡ b → Comes (λ u after. T after) (LeftBy T)
            (costs 1 (branch b (carry (place_ends (form_of here.facts place.of) here.level place.number)) (give tt)) now)
        by true e = comes_carried (λ u after. T after) (LeftBy T) (place_ends (form_of here.facts place.of) here.level place.number) _ (over now.world g)
        by false e = lets_go e now.world g

    as_it_was : (flow : Outcome (Unit {0})) → Left flow → (now : State) → T now.world → Comes (λ u after. T after) (LeftBy T) (as_before flow now)
    as_it_was (On u) ok now g = g
    as_it_was (Out way) ok now g = (ok, g)

    left : (flow : Outcome (Unit {0})) → Left flow → (now : State) → S now.world → Comes (λ u after. T after) (LeftBy T) (after_all flow now)
    left flow ok now g =
        comes_then (leaving_scope (is_hooked here.facts place.of) (points.Named place.number) (left_as flow) (ends here place (exit_of last flow)))
        (λ u. as_before flow) (λ u after. T after) (λ u after. T after) (LeftBy T) now
        (comes_scope (is_hooked here.facts place.of) (points.Named place.number) (left_as flow) (ends here place (exit_of last flow)) (λ u after. T after)
        (LeftBy T) now (λ later e. place_ends_so (exit_of last flow) later (subst (λ w. S w) (sym e) g)))
        (λ u later g. as_it_was flow ok later g)

-- a part with the temporaries that end with it, by whichever way it is left
pub ended_comes : {A : Type 0} (here : Here) (ws : List Wait) (part : Does A) (P Q : A → World → Type 0) (X Y : Exit → World → Type 0) (s : State) →
    Comes P X (part s) →
    ((x : A) (flow : points.Flow) (now : State) → P x now.world → Comes (λ u after. Q x after) (λ way after. ⊥) (all_end here.level flow ws now)) →
    ((way : Exit) (flow : points.Flow) (now : State) → X way now.world → Comes (λ u after. Y way after) (λ w after. ⊥) (all_end here.level flow ws now)) →
    Comes Q Y (ended here ws part s)
ended_comes {A} here [] part P Q X Y s h ends leaves =
    comes_weaker P X Q Y (part s) h (λ x now p. ends x points.On (state_of now) p) (λ way now p. leaves way points.On (state_of now) p)
  where
    state_of : World → State
    state_of world = record s { world = world }
ended_comes {A} here (w ∷ ws) part P Q X Y s h ends leaves =
    comes_at_exit part (λ flow. all_end here.level (left_as flow) (w ∷ ws) >> as_before flow) P X Q Y s h
    (λ x now p. comes_after (On x) now (ends x (left_as {A = A} (On x)) now p))
    (λ way now p. comes_after (Out way) now (leaves way (left_as {A = A} (Out way)) now p))
  where
    So : Outcome A → World → Type 0
    So (On x) after = Q x after
    So (Out way) after = Y way after

    as_it_was : (flow : Outcome A) (now : State) → So flow now.world → Comes Q Y (as_before flow now)
    as_it_was (On x) now g = g
    as_it_was (Out way) now g = g

    comes_after : (flow : Outcome A) (now : State) → Comes (λ u after. So flow after) (λ way after. ⊥) (all_end here.level (left_as flow) (w ∷ ws) now) →
        Comes Q Y ((all_end here.level (left_as flow) (w ∷ ws) >> as_before flow) now)
    comes_after flow now g =
        comes_then (all_end here.level (left_as flow) (w ∷ ws)) (λ u. as_before flow) (λ u after. So flow after) Q Y now
        (comes_weaker (λ u after. So flow after) (λ way after. ⊥) (λ u after. So flow after) Y (all_end here.level (left_as flow) (w ∷ ws) now) g
        (λ u last q. q) (λ way last q. absurd q))
        (λ u last q. as_it_was flow last q)
