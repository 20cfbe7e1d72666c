-- Operands that an operation takes from where they wait.
use Rattle.std.proofs.Common.{◌≡◌, refl, sym, ap, ap₂, subst, ◌∙◌, arith, ℕ, suc, ◌+◌, Bool, true, false, inl, inr, ◌⊎◌, List, [], ◌∷◌, ◌++◌, length}
use Rattle.std.specs.Prelude.{◌&&◌}
use Rattle.std.proofs.lemmas.Bool.{and_left, and_right}
use Rattle.nim_types.specs.Forms.{Form}
use Rattle.nim_program.specs.declared.operation.Use.{Use}
use Rattle.nim_program.specs.declared.operation.Use.TheVariants.{Owned, Given as ToPlace, Held, Lent, Looked}
use Rattle.nim_program.specs.Program.{Args, NoArg, ByValue, ByPath, type_of, type_at, node_of}
use Rattle.nim_program.specs.Scopes as scopes
use Rattle.nim_meaning.specs.Values.{Value, Base, Waiting, InBlock, Location, at_base, Operand, Given}
use Rattle.nim_meaning.specs.Marks.{Member, Distinct}
use Rattle.nim_meaning.specs.State.{World, State}
use Rattle.nim_meaning.specs.Acts.{Does}
use Rattle.nim_meaning.specs.Deeds.{Leaves as LeavesNode, changed}
use Rattle.nim_meaning.specs.Here.{Here, gives_hooked, form_for}
use Rattle.nim_meaning.specs.Waiting.{held_if, held_from}
use Rattle.nim_meaning.specs.Shapes.{is_held as is_held_use}
use Rattle.nim_meaning.specs.Steps.{taking_up}
use Rattle.holders.specs.Owned.{IsBase, Apart}
use Rattle.holders.specs.Sure.{Comes}
use Rattle.holders.specs.Territory.{Owner, NoBaseOf, Among}
use Rattle.holders.specs.Working.{without}
use Rattle.holders.specs.Ways.{Step}
use Rattle.holders.specs.Finding.{Found}
use Rattle.holders.specs.Running.{Region}
use Rattle.holders.specs.Staging.{StageWith}
use Rattle.holders.specs.Groups.{without_node}
use Rattle.nim_meaning.specs.Waiting.{Wait}
use Rattle.holders.proofs.Owning.{has_stays}
use Rattle.holders.proofs.Copying.{either_block}
use Rattle.holders.proofs.Bases.{loaded}
use Rattle.holders.proofs.Working.{all_both, all_first, all_second, all_without, among_others}
use Rattle.holders.proofs.FrameChanges.{value_leaves}
use Rattle.holders.specs.Asked.{Limits, AllWrite}
use Rattle.holders.proofs.PartsInTurn.{in_is}
use Rattle.holders.specs.Claimed.{NoExit}
use Rattle.holders.proofs.Constants.{hooked_is}
use Rattle.holders.specs.Evaluating.{at_nodes, Leaves, empty, root_at, Settled, none_settled, bare, held, lent, found, seen, copied}
use Rattle.holders.proofs.WaitingTaken.{waiting_node, apart_cells, found_kept, own_numbers, own_rest, own_first, distinct_rest, distinct_one, Taken}
use Rattle.holders.proofs.WaitingTaken.{Carries}
use Rattle.holders.proofs.WaitingTaken.{carried_under, StepUp, no_node, step_up, leaves_left, none_taken, bare_taken, held_taken, lent_taken, place_taken}
use Rattle.holders.specs.Evaluating.{IsBare}
use Rattle.holders.specs.Becoming.{times}
use Rattle.holders.proofs.Ledger.{times_both}

abbrev use_number : Use → ℕ
use_number Owned = 0
use_number ToPlace = 1
use_number Held = 2
use_number Lent = 3
use_number Looked = 4

-- ---- all of them

module _ (here : Here) (scope : scopes.Here) (limits : Limits) (root : (global : Bool) → ℕ → ℕ) (uses : (position : ℕ) → Use) (os : List Owner)
    (first places : ℕ) (ns old : List ℕ) (start : World) (lent_or_held : (j : ℕ) → (uses j ≡ Held) ⊎ (uses j ≡ Lent)) where
  abbrev R : Region
  R = at_nodes here.level ns

  abbrev Settled_at : List Owner → World → Args → ℕ → List Operand → Type 0
  Settled_at ms now args i xs = Settled here scope limits root uses ms os now empty args i xs

  not_other : {A : Type 0} {how : Use} (j : ℕ) → uses j ≡ how → (use_number how ≡ 2 → ⊥) → (use_number how ≡ 3 → ⊥) → A
  not_other {A} {how} j e a b = by (lent_or_held j)
    where
      by : (uses j ≡ Held) ⊎ (uses j ≡ Lent) → A
      by (inl q) = absurd (a (ap use_number (sym e ∙ q)))
      by (inr q) = absurd (b (ap use_number (sym e ∙ q)))

  -- the others, where one was taken up
  settled_left : {out : ℕ → ℕ} {ms : List Owner} {now : World} {nodes : List ℕ} {args : Args} {i : ℕ} {xs : List Operand} {f : Form} (node : ℕ)
      (a : Among ms (record { form = f; at = at_base (Waiting here.level node) })) (s : StageWith out R ms os first places nodes old start now) →
      NoBaseOf (Waiting here.level node) os → (Member node (own_numbers here args) → ⊥) → AllWrite limits args → Settled_at ms now args i xs →
      Settled_at (without a) (changed (LeavesNode here.level node) now) args i xs
  settled_left node a s off apart write none_settled = none_settled
  settled_left node a s off apart write (bare {value = value} {rest = rest} which b more) =
      bare which b (settled_left node a s off (λ m. apart (own_rest here value rest node m)) write more)
  settled_left {nodes = nodes} node a s off apart write (held {value = value} {rest = rest} {v = v} purpose hooks j stands more) =
      let differ : node ≡ (node_of value).number →
      ⊥ = λ e. apart (subst (λ n. Member n (own_numbers here (ByValue value rest))) (sym e) (own_first here value rest hooks)) in
      held purpose hooks (among_others a j (apart_cells a j differ))
      ((value_leaves _ here.level first places node nodes s.active).elsewhere (Waiting here.level (node_of value).number) v stands
      (λ e. differ (sym (ap waiting_node e)))) (settled_left node a s off (λ m. apart (own_rest here value rest node m)) write more)
  settled_left node a s off apart write (lent {value = value} {rest = rest} purpose hooks own j more) =
      let differ : node ≡ (node_of value).number →
      ⊥ = λ e. apart (subst (λ n. Member n (own_numbers here (ByValue value rest))) (sym e) (own_first here value rest hooks)) in
      lent purpose hooks own (among_others a j (apart_cells a j differ)) (settled_left node a s off (λ m. apart (own_rest here value rest node m)) write more)
  settled_left {ms = ms} {now = now} {nodes = nodes} node a s off apart write
      (found {path = path} {rest = rest} {n = n} {steps = steps} {l = l} there at more) =
      let facts = at write.0 in
      let kept = found_kept (Waiting here.level node) (λ k e. no_node here.level node k e)
      (λ c x h d. (value_leaves now here.level first places node nodes s.active).elsewhere c x h d) ms (without a) os (root_at root path)
      s.runs.territory off
      (subst (λ b. Found (ms ++ os) now b n steps (form_for here.facts (type_at path)) l) write.0 there) facts.0 in
      found (subst (λ b. Found (without a ++ os) (changed (LeavesNode here.level node) now) b (length (without a) + root_at root path) steps
      (form_for here.facts (type_at path)) l) (sym write.0) kept)
      (λ e. (refl, facts.1)) (settled_left node a s off apart write.1 more)
  settled_left node a s off apart write (seen {i = i} e b) = not_other i e (λ q. omega (arith, q)) (λ q. omega (arith, q))
  settled_left node a s off apart write (copied {i = i} e hooks f) = not_other i e (λ q. omega (arith, q)) (λ q. omega (arith, q))

  -- what was taken
  pub record AllTaken (before : ℕ → ℕ) (args : Args) (i : ℕ) (xs : List Operand) (blocks : List ℕ) (ms : List Owner) (nodes : List ℕ) (world now : World) :
      Type 0 where
    pub own : List Owner
    pub later : List ℕ
    pub given : List ℕ
    pub out : ℕ → ℕ
    pub stage : StageWith out R own os first places later old start now
    pub out_is : (k : ℕ) → out k ≡ before k + times k given
    pub taken : Taken here limits root uses own os stage.runs.territory.blocks now args i xs given
    pub were : (k : ℕ) → Member k given → Member k blocks
    pub carries : Carries (ms ++ os) blocks world (own ++ os) stage.runs.territory.blocks now
    pub leaves : (before : List ℕ) (ws : List Wait) → Leaves here.level before ws ms nodes → Leaves here.level before ws own later
    pub keeps : {f : Form} (n : ℕ) → (Member n (own_numbers here args) → ⊥) → Among ms (record { form = f; at = at_base (Waiting here.level n) }) →
        Among own (record { form = f; at = at_base (Waiting here.level n) })
    pub places_kept : (m : ℕ) {steps : List Step} {f : Form} {l : Location} → Found (ms ++ os) world true (length ms + m) steps f l →
        Found (own ++ os) now true (length own + m) steps f l

  pub take_all : (args : Args) {out : ℕ → ℕ} {i : ℕ} {xs : List Operand} (ms : List Owner) (nodes : List ℕ) (s : State)
      (st : StageWith out R ms os first places nodes old start s.world) →
      Settled_at ms s.world args i xs → Distinct (own_numbers here args) → ((n : ℕ) → Member n (own_numbers here args) → Member n ns) →
      ((n : ℕ) → Member n ns → NoBaseOf (Waiting here.level n) os) → AllWrite limits args → (act : Does Value) (Q : Value → World → Type 0) →
      ((now : State) → AllTaken out args i xs st.runs.territory.blocks ms nodes s.world now.world → Comes Q NoExit (act now)) →
      Comes Q NoExit (taking_up here (held_from here.facts here.modes args uses i) act s)
  take_all NoArg {out = out} ms nodes s st none_settled d within off write act Q h =
      h s (record {
        own = ms;
        later = nodes;
        given = [];
        out = out;
        stage = st;
        out_is = λ k. omega arith;
        taken = none_taken;
        were = λ k m. elim m [ ];
        carries = record { has = λ x. x; fewer = λ k m. m; clear = λ given c. c };
        leaves = λ before ws x. x;
        keeps = λ n apart j. j;
        places_kept = λ m x. x;
      })
  take_all (ByValue value rest) {i = i} ms nodes s st (bare which b more) d within off write act Q h =
      subst (λ c. Comes Q NoExit (taking_up here (held_if c (node_of value).number (held_from here.facts here.modes rest uses (suc i))) act s))
      (sym (skips which))
      (take_all rest ms nodes s st more (distinct_rest here value rest d) (λ n m. within n (own_rest here value rest n m)) off write act Q
      (λ now t. h now (record {
        own = t.own;
        later = t.later;
        given = t.given;
        out = t.out;
        stage = t.stage;
        out_is = t.out_is;
        taken = bare_taken which b t.taken;
        were = t.were;
        carries = t.carries;
        leaves = t.leaves;
        keeps = λ n apart j. t.keeps n (λ m. apart (own_rest here value rest n m)) j;
        places_kept = t.places_kept;
      })))
    where
      skips : IsBare here.facts (uses i) value →
          gives_hooked here.facts (type_of value) && is_held_use (uses i) ≡ false
      skips (inl unhooked) = and_left (gives_hooked here.facts (type_of value)) (is_held_use (uses i)) (hooked_is here.facts (type_of value) ∙ unhooked)
      skips (inr (inl e)) = and_right (gives_hooked here.facts (type_of value)) (is_held_use (uses i)) (ap is_held_use e.0)
      skips (inr (inr e)) = and_right (gives_hooked here.facts (type_of value)) (is_held_use (uses i)) (ap is_held_use e)
  take_all (ByValue value rest) {i = i} ms nodes s st (lent purpose hooks own a more) d within off write act Q h =
      subst (λ c. Comes Q NoExit (taking_up here (held_if c (node_of value).number (held_from here.facts here.modes rest uses (suc i))) act s))
      (sym (and_right (gives_hooked here.facts (type_of value)) (is_held_use (uses i)) (ap is_held_use purpose)))
      (take_all rest ms nodes s st more (distinct_rest here value rest d) (λ n m. within n (own_rest here value rest n m)) off write act Q
      (λ now t. h now (record {
        own = t.own;
        later = t.later;
        given = t.given;
        out = t.out;
        stage = t.stage;
        out_is = t.out_is;
        taken = lent_taken purpose hooks own (t.keeps (node_of value).number (distinct_one here value rest hooks d) a) t.taken;
        were = t.were;
        carries = t.carries;
        leaves = t.leaves;
        keeps = λ n apart j. t.keeps n (λ m. apart (own_rest here value rest n m)) j;
        places_kept = t.places_kept;
      })))
  take_all (ByPath path rest) {i = i} ms nodes s st (found {n = n} {steps = steps} {l = l} there at more) d within off write act Q h =
      take_all rest ms nodes s st more d within off write.1 act Q
      (λ now t.
      let facts = at write.0 in
      h now (record {
        own = t.own;
        later = t.later;
        given = t.given;
        out = t.out;
        stage = t.stage;
        out_is = t.out_is;
        taken = place_taken (t.places_kept (root_at root path)
            (subst (λ m. Found (ms ++ os) s.world true m steps (form_for here.facts (type_at path)) l) facts.0
            (subst (λ b. Found (ms ++ os) s.world b n steps (form_for here.facts (type_at path)) l) write.0 there))) facts.1 t.taken;
        were = t.were;
        carries = t.carries;
        leaves = t.leaves;
        keeps = t.keeps;
        places_kept = t.places_kept;
      }))
  take_all _ ms nodes s st (seen {i = i} e b) d within off write act Q h = not_other i e (λ q. omega (arith, q)) (λ q. omega (arith, q))
  take_all _ ms nodes s st (copied {i = i} e hooks f) d within off write act Q h = not_other i e (λ q. omega (arith, q)) (λ q. omega (arith, q))
  take_all (ByValue value rest) {out = out} {i = i} ms nodes s st (held {v = v} {xs = xs} purpose hooks a stands more) d within off write act Q h =
      subst (λ c. Comes Q NoExit (taking_up here (held_if c node (held_from here.facts here.modes rest uses (suc i))) act s))
      (sym (ap₂ (λ m n. m && n) hooks (ap is_held_use purpose)))
      (take_all rest (without a) (without_node nodes node) after step.stage
      (settled_left node a st (off node mine) (distinct_one here value rest hooks d) write more) (distinct_rest here value rest d)
      (λ n m. within n (own_rest here value rest n m)) off write act Q (λ now t. h now (taken_too now.world t)))
    where
      node : ℕ
      node = (node_of value).number

      f : Form
      f = form_for here.facts (type_of value)

      after : State
      after = record s { world = changed (LeavesNode here.level node) s.world }

      mine : Member node ns
      mine = within node (own_first here value rest hooks)

      step : StepUp out f node R (without a) os first places nodes old st.runs.territory.blocks start s.world after.world
      step = step_up R ms os first places nodes old start s.world node (in_is node ns mine) a st

      same : step.value ≡ v
      same = sym (loaded s.world (at_base (Waiting here.level node)) step.value step.base) ∙ loaded s.world (at_base (Waiting here.level node)) v stands

      keeps : (c : Base) (x : Value) → IsBase s.world c x → (c ≡ Waiting here.level node → ⊥) → IsBase after.world c x
      keeps c x b apart = (value_leaves s.world here.level first places node nodes st.active).elsewhere c x b apart

      taken_too : (now : World) → AllTaken step.left_out rest (suc i) xs step.stage.runs.territory.blocks (without a) (without_node nodes node)
          after.world now →
          AllTaken out (ByValue value rest) i (Given v ∷ xs) st.runs.territory.blocks ms nodes s.world now
      taken_too now t =
          record {
            own = t.own;
            later = t.later;
            given = step.under.given ++ t.given;
            out = t.out;
            stage = t.stage;
            out_is = λ k. omega (arith, t.out_is k, step.out_is k, times_both k step.under.given t.given);
            taken = held_so now t same;
            were = λ k m. either_block k step.under.given t.given (Member k st.runs.territory.blocks) m (λ q. step.were k q) (λ q. step.within k (t.were k q));
            carries = record {
              has = λ x. t.carries.has (has_stays s.world after.world (λ k y m is. keeps (InBlock k) y is (no_node here.level node k)) x);
              fewer = λ k m. step.within k (t.carries.fewer k m);
              clear = λ given c. t.carries.clear given (all_both (λ o. Apart o.at.base given) (without a) os
                  (all_without (λ o. Apart o.at.base given) a (all_first (λ o. Apart o.at.base given) ms os c))
                  (all_second (λ o. Apart o.at.base given) ms os c));
            };
            leaves = λ before ws x. t.leaves before ws (leaves_left node x a);
            keeps = λ n apart j. t.keeps n (λ m. apart (own_rest here value rest n m))
                (among_others a j (apart_cells a j (λ e. apart
                (subst (λ i. Member i (own_numbers here (ByValue value rest))) e (own_first here value rest hooks)))));
            places_kept = λ m x. t.places_kept m (found_kept (Waiting here.level node) (λ k e. no_node here.level node k e) keeps ms (without a) os m
                st.runs.territory (off node mine) x refl);
          }
        where
          held_so : (now : World) (t : AllTaken step.left_out rest (suc i) xs step.stage.runs.territory.blocks (without a) (without_node nodes node)
              after.world now)
              → {x : Value} → step.value ≡ x →
              Taken here limits root uses t.own os t.stage.runs.territory.blocks now (ByValue value rest) i (Given x ∷ xs) (step.under.given ++ t.given)
          held_so now t {x} e =
              subst (λ y. Taken here limits root uses t.own os t.stage.runs.territory.blocks now (ByValue value rest) i (Given y ∷ xs)
              (step.under.given ++ t.given)) e
              (held_taken purpose (carried_under t.carries step.under) t.taken (λ k m n. step.under.strange k m (t.were k n)))
