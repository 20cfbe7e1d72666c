-- Conditions and branches of choices: parts with temporaries of their own.
use Rattle.std.proofs.Common.{◌≡◌, refl, sym, ap, subst, ◌∙◌, arith, ℕ, Bool, true, false, inl, inr, ◌⊎◌, List, [], ◌∷◌, ◌++◌}
use Rattle.std.proofs.lemmas.Bool.{false≢true}
use Rattle.nim_types.specs.Forms.{Form}
use Rattle.nim_program.specs.declared.operation.Use.{Use}
use Rattle.nim_program.specs.declared.operation.Use.TheVariants.{Owned, Given as ToPlace, Held, Lent, Looked}
use Rattle.nim_program.specs.Program.{Expr, type_of, node_of}
use Rattle.nim_program.specs.Scopes as scopes
use Rattle.nim_meaning.specs.ActTree as points
use Rattle.nim_meaning.specs.Values.{Value, Base, Waiting, InBlock, at_base}
use Rattle.nim_meaning.specs.Marks.{Member, Distinct}
use Rattle.nim_meaning.specs.State.{World, State}
use Rattle.nim_meaning.specs.Acts.{give}
use Rattle.nim_meaning.specs.Deeds.{Leaves as LeavesNode, changed}
use Rattle.nim_meaning.specs.Here.{Here, gives_hooked, form_for}
use Rattle.nim_meaning.specs.Waiting.{Wait, nodes_of, waiting}
use Rattle.nim_meaning.specs.Steps.{all_end, ended_value, branch_by, branch_value, taking_up}
use Rattle.nim_meaning.specs.Meaning.{eval}
use Rattle.holders.specs.Owned.{IsBase}
use Rattle.holders.specs.Sure.{Comes}
use Rattle.holders.specs.Territory.{Owner, AllOwners, Territory}
use Rattle.holders.specs.Running.{Region, IsOutside, AreOwn}
use Rattle.holders.specs.Staging.{Stage, Holding}
use Rattle.holders.specs.Groups.{without_node, without_waits, Ends, no_waits}
use Rattle.holders.proofs.Bases.{loaded}
use Rattle.holders.proofs.Working.{all_so}
use Rattle.holders.proofs.Framing.{stage_begins, stage_framed, others_alone}
use Rattle.holders.proofs.Staging.{stage_takes_up}
use Rattle.holders.proofs.Groups.{ended_comes, group_ends}
use Rattle.holders.proofs.Coming.{comes_then, comes_weaker}
use Rattle.holders.specs.Asked.{Limits}
use Rattle.holders.specs.Evaluating.{value_nodes, at_nodes, waits_inside, waits_itself, IsWaiting, Leaves, Bare, is_bare, is_seen, is_held, is_waiting}
use Rattle.holders.proofs.PartsInTurn.{in_is, waiting_in, waits_outside, wider_nodes, nodes_second, ends_later, without_node_in, without_node_distinct}
use Rattle.holders.proofs.PartsInTurn.{without_node_gone}
use Rattle.holders.specs.Claimed.{NoExit, From, Sees, HasValue, ValueSo}
use Rattle.holders.proofs.Claims.{behind_value, value_bare, own_apart, none_itself, waiting_is, behind_alone}
use Rattle.holders.proofs.Constants.{hooked_is}
use Rattle.holders.proofs.OperandKinds.{owned_none}
use Rattle.holders.proofs.GroupsOver.{all_mine, group_over, leaves_over, without_waits_in, without_waits_distinct, without_waits_gone}

-- a part is over, with what waited in it
pub record Ended (level first places : ℕ) (ns nodes : List ℕ) (os : List Owner) (old : List ℕ) (start now : World) : Type 0 where
  pub later : List ℕ
  pub leaves : Leaves level nodes [] [] later
  pub stage : Stage (at_nodes level ns) [] os first places later old start now

-- and its value is under way
pub record EndedHolding (f : Form) (v : Value) (level first places : ℕ) (ns nodes : List ℕ) (os : List Owner) (old : List ℕ) (start now : World) :
    Type 0 where
  pub later : List ℕ
  pub leaves : Leaves level nodes [] [] later
  pub holding : Holding f v (at_nodes level ns) [] os first places later old start now

abbrev pub Branched : (hooks : Bool) → Form → (level first places : ℕ) (ns nodes : List ℕ) (os : List Owner) (old : List ℕ) (start : World) → Value → World →
    Type 0
Branched false f level first places ns nodes os old start v now = Ended level first places ns nodes os old start now × Bare f v
Branched true f level first places ns nodes os old start v now = EndedHolding f v level first places ns nodes os old start now

abbrev use_number : Use → ℕ
use_number Owned = 0
use_number ToPlace = 1
use_number Held = 2
use_number Lent = 3
use_number Looked = 4

-- cells that wait at nodes of a part are its own
cells_own : (level : ℕ) (ws : List Wait) (ns : List ℕ) → ((n : ℕ) → Member n (nodes_of ws) → Member n ns) → (ms : List Owner) →
    AllOwners (λ m. IsWaiting level ws m) ms → AreOwn (at_nodes level ns) ms
cells_own level ws ns within ms cells =
    all_so (λ m. IsWaiting level ws m) (λ m. IsOutside (at_nodes level ns) m.at.base → ⊥) ms
    (λ m w out. inside w.node (within w.node w.among) (subst (λ b. IsOutside (at_nodes level ns) b) w.base out)) cells
  where
    inside : (n : ℕ) → Member n ns → IsOutside (at_nodes level ns) (Waiting level n) → ⊥
    inside n m (inl less) = omega (arith, less)
    inside n m (inr q) = q.1 (in_is n ns m)

module _ (here : Here) (scope : scopes.Here) (limits : Limits) (root : (global : Bool) → ℕ → ℕ) (first places : ℕ) (os : List Owner) where
  abbrev Value_so : Expr → Use → Type 0
  Value_so e how = ValueSo here scope limits root first places os e how

  abbrev Over : Expr → (nodes old : List ℕ) → World → World → Type 0
  Over e nodes old start now = Ended here.level first places (value_nodes e) nodes os old start now

  -- a value without hooks
  pub ended_so : (e : Expr) → gives_hooked here.facts (type_of e) ≡ false → Distinct (value_nodes e) → Value_so e Owned → (nodes : List ℕ) (s : State)
      (b : From here scope limits root first places os (value_nodes e) nodes s.world) → Sees here scope limits root first places os s.world →
      Comes (λ v now. Over e nodes b.territory.blocks s.world now × Bare (form_for here.facts (type_of e)) v) NoExit
      (ended_value here e Owned (eval e Owned here) s)
  ended_so e unhooked d so nodes s b scene =
      let ws = waiting here.facts here.modes e Owned in
      let P = HasValue here first places os e Owned nodes b.territory.blocks s.world in
      let Q : Value → World → Type 0 = λ v now. Over e nodes b.territory.blocks s.world now × Bare (form_for here.facts (type_of e)) v in
      ended_comes here ws (eval e Owned here) P Q NoExit NoExit s (so nodes s b scene)
      (λ x flow now p.
      let after = behind_value here e Owned d p in
      comes_weaker (λ u last. Stage (at_nodes here.level (value_nodes e)) [] os first places (without_waits after.later ws) b.territory.blocks s.world last)
      (λ way last. ⊥) (λ u last. Q x last) (λ way last. ⊥) (all_end here.level flow ws now)
      (group_over (value_nodes e) (λ way last. ⊥) flow (λ n m. waiting_in here.facts here.modes e Owned n m) after.leaves now
      (behind_alone here e Owned d (λ how. unhooked) p))
      (λ u last st. (record { later = without_waits after.later ws; leaves = leaves_over after.leaves; stage = st }, value_bare here e Owned unhooked p))
      (λ way last q. q))
      (λ way flow now q. elim q [ ])

  -- what waits while the temporaries of its operands end
  record Kept (e : Expr) (nodes old : List ℕ) (start : World) (v : Value) (now : World) : Type 0 where
    later : List ℕ
    distinct : Distinct later
    came : (n : ℕ) → Member n later → Member n nodes ⊎ (n ≡ (node_of e).number)
    stage : Stage (at_nodes here.level (value_nodes e))
        (record { form = form_for here.facts (type_of e); at = at_base (Waiting here.level (node_of e).number) } ∷ [])
        os first places later old start now
    stands : IsBase now (Waiting here.level (node_of e).number) v

  kept_waits : (e : Expr) → gives_hooked here.facts (type_of e) ≡ true → Distinct (value_nodes e) → (nodes : List ℕ) {start : World} {v : Value} (s : State)
      (b : From here scope limits root first places os (value_nodes e) nodes start) (flow : points.Flow) →
      HasValue here first places os e Held nodes b.territory.blocks start v s.world →
      Comes (λ u last. Kept e nodes b.territory.blocks start v last) (λ way last. ⊥) (all_end here.level flow (waiting here.facts here.modes e Owned) s)
  kept_waits e hooks d nodes {start} {v} s b flow (is_bare (inl unhooked) a none st h) =
      absurd (false≢true (sym (hooked_is here.facts (type_of e) ∙ unhooked) ∙ hooks))
  kept_waits e hooks d nodes {start} {v} s b flow (is_bare (inr (inl q)) a none st h) = absurd (omega (arith, ap use_number q))
  kept_waits e hooks d nodes {start} {v} s b flow (is_bare (inr (inr q)) a none st h) = absurd (omega (arith, ap use_number q))
  kept_waits e hooks d nodes {start} {v} s b flow (is_seen q a none st h) = absurd (omega (arith, ap use_number q))
  kept_waits e hooks d nodes {start} {v} s b flow (is_held (inl q) a none h) = absurd (omega (arith, ap use_number q))
  kept_waits e hooks d nodes {start} {v} s b flow (is_held (inr q) a none h) = absurd (omega (arith, ap use_number q))
  kept_waits e hooks d nodes {start} {v} s b flow (is_waiting {ms = ms} {later = later} {ty = ty} a one h) =
      subst (λ ws. Comes (λ u last. Kept e nodes b.territory.blocks start v last) (λ way last. ⊥) (all_end here.level flow ws s)) same
      (comes_weaker (λ u last. Stage R' [] os first places (without_waits later' inner) t.blocks s.world last) (λ way last. ⊥)
      (λ u last. Kept e nodes b.territory.blocks start v last) (λ way last. ⊥) (all_end here.level flow inner s)
      (group_ends R' os first places t.blocks s.world (λ way last. ⊥) flow (all_mine here.level within inner inside) ends s
      (stage_begins t (cells_own here.level inner within inside ms a.cells) h.stage.active))
      (λ u last st. kept last st) (λ way last q. q))
    where
      node : ℕ
      node = (node_of e).number

      inner : List Wait
      inner = waits_inside here.facts here.modes e

      within : List ℕ
      within = nodes_of inner

      inside : (n : ℕ) → Member n (nodes_of inner) → Member n within
      inside n m = m

      apart : Member node within → ⊥
      apart m = own_apart here.facts here.modes e Held {w = record { node = node; of = ty; form = form_for here.facts (type_of e) }} d one refl m

      R : Region
      R = at_nodes here.level (value_nodes e)

      R' : Region
      R' = at_nodes here.level within

      cell : Owner
      cell = record { form = form_for here.facts (type_of e); at = at_base (Waiting here.level node) }

      later' : List ℕ
      later' = node ∷ without_node later node

      t : Territory (ms ++ os) s.world
      t = others_alone (cell ∷ []) ms os s.world h.stage.runs.territory

      same : inner ≡ waiting here.facts here.modes e Owned
      same = none_itself here.facts here.modes e Owned (owned_none here.facts here.modes e Owned refl refl refl)

      back : (n : ℕ) → Member n later' → Member n (nodes_of inner) → Member n later
      back n (inl q) m = absurd (apart (subst (λ k. Member k within) q m))
      back n (inr q) m = without_node_in later node n q

      ends : Ends here.level later' inner ms []
      ends = ends_later back a.ends

      of_value : (n : ℕ) → Member n within → Member n (value_nodes e)
      of_value n m = waiting_in here.facts here.modes e Owned n (subst (λ ws. Member n (nodes_of ws)) same m)

      distinct' : Distinct later'
      distinct' = (λ m. without_node_gone later node a.distinct m, without_node_distinct later node a.distinct)

      from : (n : ℕ) → Member n (without_waits later' inner) → Member n later' → Member n nodes ⊎ (n ≡ node)
      from n m (inl q) = inr q
      from n m (inr q) = of_later (a.came n (without_node_in later node n q))
        where
          of_later : Member n nodes ⊎ Member n (nodes_of inner) → Member n nodes ⊎ (n ≡ node)
          of_later (inl p) = inl p
          of_later (inr p) = absurd (without_waits_gone later' inner distinct' n m p)

      node_mine : Member node (value_nodes e)
      node_mine = waiting_in here.facts here.modes e Held node
          (subst (λ ws. Member node (nodes_of ws)) (waiting_is here.facts here.modes e Held)
          (nodes_second node inner (waits_itself here.facts here.modes e Held)
          (subst (λ ws. Member node (nodes_of ws)) (sym one) (inl refl))))

      not_outside : IsOutside R (Waiting here.level node) → ⊥
      not_outside (inl less) = omega (arith, less)
      not_outside (inr q) = q.1 (in_is node (value_nodes e) node_mine)

      kept : (last : World) → Stage R' [] os first places (without_waits later' inner) t.blocks s.world last → Kept e nodes b.territory.blocks start v last
      kept last st = record {
        later = without_waits later' inner;
        distinct = without_waits_distinct later' inner distinct';
        came = λ n m. from n m (without_waits_in later' inner n m);
        stage = stage_framed (cell ∷ []) ms (wider_nodes here.level (value_nodes e) within of_value) (not_outside, tt)
            h.stage.runs.territory h.stage.runs.came h.stage.runs.passes (λ k. omega (arith, h.stage.runs.loses k))
            (waits_outside here.level node within apart, tt) st;
        stands = st.runs.passes.bases (Waiting here.level node) v h.base (waits_outside here.level node within apart)
            (all_so (λ o. IsOutside R o.at.base) (λ o. Waiting here.level node ≡ o.at.base → ⊥) os
            (λ o out q. not_outside (subst (λ c. IsOutside R c) (sym q) out)) b.outside) (λ k q m. no_block k q);
      }
        where
          no_block : (k : ℕ) → Waiting here.level node ≡ InBlock k → ⊥
          no_block k q = subst waits_there q tt
            where
              waits_there : Base → Type 0
              waits_there (Waiting l n) = Unit {0}
              waits_there c = ⊥

  -- it goes on
  taken_up : (e : Expr) (nodes : List ℕ) {old : List ℕ} {start : World} {v : Value} (s : State) → Member (node_of e).number (value_nodes e) →
      Kept e nodes old start v s.world →
      Comes (λ x last. EndedHolding (form_for here.facts (type_of e)) x here.level first places (value_nodes e) nodes os old start last) NoExit
      (taking_up here ((node_of e).number ∷ []) (give v) s)
  taken_up e nodes {old} {start} {v} s mine k =
      let node = (node_of e).number in
      let f = form_for here.facts (type_of e) in
      let up = stage_takes_up (at_nodes here.level (value_nodes e)) os first places old start node (in_is node (value_nodes e) mine) k.stage in
      let same : up.value ≡ v = sym (loaded s.world (at_base (Waiting here.level node)) up.value up.base)
      ∙ loaded s.world (at_base (Waiting here.level node)) v k.stands in
      record {
        later = without_node k.later node;
        leaves = record {
          cells = tt;
          ends = no_waits;
          distinct = without_node_distinct k.later node k.distinct;
          came = λ n m. from n m (k.came n (without_node_in k.later node n m));
        };
        holding = subst (λ x. Holding f x (at_nodes here.level (value_nodes e)) [] os first places (without_node k.later node) old start
            (changed (LeavesNode here.level node) s.world)) same up.holding;
      }
    where
      from : (n : ℕ) → Member n (without_node k.later (node_of e).number) → Member n nodes ⊎ (n ≡ (node_of e).number) → Member n nodes ⊎ Member n []
      from n m (inl q) = inl q
      from n m (inr q) =
          absurd (without_node_gone k.later (node_of e).number k.distinct
          (subst (λ i. Member i (without_node k.later (node_of e).number)) q m))

  -- ---- a branch

  pub branch_so : (e : Expr) → Distinct (value_nodes e) → (gives_hooked here.facts (type_of e) ≡ true → Member (node_of e).number (value_nodes e)) →
      Value_so e Owned → Value_so e Held → (nodes : List ℕ) (s : State) (b : From here scope limits root first places os (value_nodes e) nodes s.world) →
      Sees here scope limits root first places os s.world →
      Comes (Branched (gives_hooked here.facts (type_of e)) (form_for here.facts (type_of e)) here.level first places (value_nodes e) nodes os
      b.territory.blocks s.world) NoExit (branch_value here e (λ how. eval e how here) s)
  branch_so e d mine owned held nodes s b scene = by (gives_hooked here.facts (type_of e)) refl
    where
      f : Form
      f = form_for here.facts (type_of e)

      by : (c : Bool) → gives_hooked here.facts (type_of e) ≡ c →
          Comes (Branched c f here.level first places (value_nodes e) nodes os b.territory.blocks s.world) NoExit
          (branch_by c here e (λ how. eval e how here) s)
      by false unhooked = ended_so e unhooked d owned nodes s b scene
      by true hooks =
          let ws = waiting here.facts here.modes e Owned in
          let P = HasValue here first places os e Held nodes b.territory.blocks s.world in
          let K : Value → World → Type 0 = λ v now. Kept e nodes b.territory.blocks s.world v now in
          comes_then (ended_value here e Owned (eval e Held here)) (λ v. taking_up here ((node_of e).number ∷ []) (give v)) K
          (λ v now. EndedHolding f v here.level first places (value_nodes e) nodes os b.territory.blocks s.world now) NoExit s
          (ended_comes here ws (eval e Held here) P K NoExit NoExit s (held nodes s b scene)
          (λ x flow now p. kept_waits e hooks d nodes now b flow p) (λ way flow now q. elim q [ ]))
          (λ v now k. taken_up e nodes now (mine hooks) k)
