-- Values in a body: they go to a place or to the result, and the temporaries of their group end.
use Rattle.std.proofs.Common.{◌≡◌, refl, sym, ap, subst, ◌∙◌, arith, ℕ, ◌+◌, ◌<◌, ◌≤◌, inl, inr, Bool, true, false, List, [], ◌∷◌, ◌++◌}
use Rattle.std.specs.Prelude.{Some}
use Rattle.nim_types.specs.Forms.{Form, form_of, hooked}
use Rattle.nim_program.specs.declared.operation.Use.{Use}
use Rattle.nim_program.specs.declared.operation.Use.TheVariants.{Owned, Given as ToPlace, Held, Lent, Looked}
use Rattle.nim_program.specs.Program.{Expr, Read, Path, Declared, type_of, type_at, node_at}
use Rattle.nim_program.specs.Scopes as scopes
use Rattle.nim_meaning.specs.ActTree as points
use Rattle.nim_meaning.specs.Ways.{At as Spot}
use Rattle.nim_meaning.specs.Values.{Value, Base, Standing, Waiting, InBlock, Made, Location, At}
use Rattle.nim_meaning.specs.Marks.{Member}
use Rattle.nim_meaning.specs.State.{World, State}
use Rattle.nim_meaning.specs.Acts.{Exit, Does, give, branch, with_trail, ◌>>=◌}
use Rattle.nim_meaning.specs.Here.{Here, form_for}
use Rattle.nim_meaning.specs.Lifted.{assigned}
use Rattle.nim_meaning.specs.Places.{place_at}
use Rattle.nim_meaning.specs.Waiting.{Wait, waiting_at, nodes_of}
use Rattle.nim_meaning.specs.Aims.{Aim, find}
use Rattle.nim_meaning.specs.Shapes.{has_node}
use Rattle.nim_meaning.specs.Steps.{grouped, all_end, at_node, at_path, waits_of}
use Rattle.nim_meaning.specs.Meaning.{aimed, source, fill, fill_from, result_gets, result_copies}
use Rattle.holders.specs.Owned.{Constant}
use Rattle.holders.specs.Sure.{Comes}
use Rattle.holders.specs.Territory.{Owner, AllOwners, Among, NoBaseOf, Moves}
use Rattle.holders.specs.Ways.{Step, Way, arrived, a_step, an_object, an_array, a_block, letters, Chain, goes_nowhere}
use Rattle.holders.specs.Finding.{Found, in_cell, to_be_read, steps_of}
use Rattle.holders.specs.Running.{Region, IsOutside, Wider}
use Rattle.holders.specs.Staging.{Stage, Holding}
use Rattle.holders.specs.Groups.{AllMine}
use Rattle.holders.specs.Called.{LeftBy}
use Rattle.holders.specs.Asked.{Limits, may_write}
use Rattle.holders.specs.Evaluating.{value_nodes, path_nodes, at_nodes, Begins, Scene, IsWaiting, Leaves, is_bare, is_seen, is_held, is_waiting}
use Rattle.holders.specs.Claimed.{NoExit, HasValue, HasAim, AimSo, InBody}
use Rattle.holders.specs.BodyParts.{part_region, own_cell, Pending}
use Rattle.holders.proofs.Working.{all_both, all_so, among_second}
use Rattle.holders.proofs.Owning.{from_full}
use Rattle.holders.proofs.Coming.{comes_then, comes_weaker, comes_answered, comes_carried}
use Rattle.holders.proofs.Sure.{sure_weaker}
use Rattle.holders.proofs.Finding.{finds}
use Rattle.holders.proofs.PlainRows.{read_found}
use Rattle.holders.proofs.Operations.{copied_to}
use Rattle.holders.proofs.Staging.{stage_moves, bare_stage}
use Rattle.holders.proofs.Statements.{plain_held, fill_comes}
use Rattle.holders.proofs.PlaceCopies.{fill_from_comes}
use Rattle.holders.proofs.Results.{result_comes, plain_result_comes}
use Rattle.holders.proofs.Groups.{ended_comes}
use Rattle.holders.proofs.PartsInTurn.{in_is}
use Rattle.holders.proofs.OperandKinds.{owned_none}
use Rattle.holders.proofs.OperandCopies.{aim_here, found_read}
use Rattle.holders.proofs.Claims.{scene_passes, none_itself, none_is_one}
use Rattle.holders.proofs.BodyParts.{part_wider, stage_in, pending_over}

abbrev use_number : Use → ℕ
use_number Owned = 0
use_number ToPlace = 1
use_number Held = 2
use_number Lent = 3
use_number Looked = 4

-- ---- where paths lead

-- to a part of the cell that they begin with, or into a block
way_base : {world : World} {o m : Owner} {path : List ℕ} → Way world o m path → (b : Base) → (b ≡ o.at.base → ⊥) → ((k : ℕ) → b ≡ InBlock k → ⊥) →
    m.at.base ≡ b → ⊥
way_base arrived b off no_block e = off (sym e)
way_base (a_step an_object p w) b off no_block e = way_base w b off no_block e
way_base (a_step an_array p w) b off no_block e = way_base w b off no_block e
way_base (a_step (a_block {k = k} q) p w) b off no_block e = way_base w b (λ g. no_block k g) no_block e
way_base (a_step (letters {k = k} q) p w) b off no_block e = way_base w b (λ g. no_block k g) no_block e

among_at : (P : Owner → Type 0) {os : List Owner} {o : Owner} → AllOwners P os → Among os o → P o
among_at P h i = Rattle.holders.proofs.Working.all_at P h i

no_block_place : (level n k : ℕ) → Standing level n ≡ InBlock k → ⊥
no_block_place level n k e = subst is_place e tt
  where
    is_place : Base → Type 0
    is_place (Standing l m) = Unit {0}
    is_place b = ⊥

pub found_elsewhere : {os : List Owner} {world : World} {may : Bool} {root : ℕ} {steps : List Step} {f : Form} {l : Location} (level n : ℕ) →
    Found os world may root steps f l → NoBaseOf (Standing level n) os → l.base ≡ Standing level n → ⊥
found_elsewhere level n (in_cell c goes) off e =
    way_base c.way (Standing level n) (among_at (λ o. Standing level n ≡ o.at.base → ⊥) off c.at) (λ k q. no_block_place level n k q) e
found_elsewhere level n (to_be_read made from h) off e = subst is_made (sym made ∙ e) tt
  where
    is_made : Base → Type 0
    is_made (Made v) = Unit {0}
    is_made b = ⊥

-- ---- a value that is brought

-- what is outside of a part that declares a place isn't the place
pub no_place_there : (level n : ℕ) (ps ns : List ℕ) (os : List Owner) → Member n ps → AllOwners (λ o. IsOutside (part_region level ps ns) o.at.base) os →
    NoBaseOf (Standing level n) os
no_place_there level n ps ns os mine out =
    all_so (λ o. IsOutside (part_region level ps ns) o.at.base) (λ o. Standing level n ≡ o.at.base → ⊥) os
    (λ o h e. inside (subst (λ b. IsOutside (part_region level ps ns) b) (sym e) h)) out
  where
    inside : IsOutside (part_region level ps ns) (Standing level n) → ⊥
    inside (inl less) = omega (arith, less)
    inside (inr q) = q.1 (in_is n ps mine)

pub no_place_waits : (level n : ℕ) (ws : List Wait) (ms : List Owner) → AllOwners (λ m. IsWaiting level ws m) ms → NoBaseOf (Standing level n) ms
no_place_waits level n ws ms waits =
    all_so (λ m. IsWaiting level ws m) (λ m. Standing level n ≡ m.at.base → ⊥) ms (λ m w e. never w.node (e ∙ w.base)) waits
  where
    never : (node : ℕ) → Standing level n ≡ Waiting level node → ⊥
    never node e = subst is_place e tt
      where
        is_place : Base → Type 0
        is_place (Standing l m) = Unit {0}
        is_place b = ⊥

abbrev pub holding_in : {r inner : Region} {ms os : List Owner} {f : Form} {v : Value} {first places : ℕ} {nodes old : List ℕ} {start now : World} →
    Wider r inner → Holding f v inner ms os first places nodes old start now → Holding f v r ms os first places nodes old start now
holding_in w h = record { out = h.out; stage = stage_in w h.stage; under = h.under; came = h.came; out_is = h.out_is }

module _ (here : Here) (scope : scopes.Here) (limits : Limits) (root : (global : Bool) → ℕ → ℕ) (first places : ℕ) (os : List Owner) where
  -- under way, and temporaries wait
  pub record Brought (f : Form) (ns nodes : List ℕ) (ws : List Wait) (old : List ℕ) (start : World) (v : Value) (now : World) : Type 0 where
    pub own : List Owner
    pub later : List ℕ
    pub leaves : Leaves here.level nodes ws own later
    pub holding : Holding f v (at_nodes here.level ns) own os first places later old start now

  pub brought : (e : Expr) {nodes old : List ℕ} {start : World} {v : Value} {now : World} → HasValue here first places os e ToPlace nodes old start v now →
      Brought (form_for here.facts (type_of e)) (value_nodes e) nodes (waits_of here e ToPlace) old start v now
  brought e {nodes} {now = now} (is_bare {ms = ms} {later = later} (inl unhooked) a none st h) = record {
    own = ms;
    later = later;
    leaves = subst (λ ws. Leaves here.level nodes ws ms later) (none_itself here.facts here.modes e ToPlace none) a;
    holding = plain_held unhooked (h now) st;
  }
  brought e (is_bare (inr (inl q)) a none st h) = absurd (omega (arith, ap use_number q))
  brought e (is_bare (inr (inr q)) a none st h) = absurd (omega (arith, ap use_number q))
  brought e (is_seen q a none st h) = absurd (omega (arith, ap use_number q))
  brought e {nodes} (is_held {ms = ms} {later = later} purpose a none h) = record {
    own = ms;
    later = later;
    leaves = subst (λ ws. Leaves here.level nodes ws ms later) (none_itself here.facts here.modes e ToPlace none) a;
    holding = h;
  }
  brought e (is_waiting a one w) = absurd (none_is_one (sym (owned_none here.facts here.modes e ToPlace refl refl refl) ∙ one))

  -- ---- where a copy is made from

  pub record Sourced (f : Form) (ns nodes : List ℕ) (ws : List Wait) (old : List ℕ) (start : World) (l : Location) (now : World) : Type 0 where
    pub own : List Owner
    pub later : List ℕ
    pub leaves : Leaves here.level nodes ws own later
    pub stage : Stage (at_nodes here.level ns) own os first places later old start now
    pub position : ℕ
    pub steps : List Step
    pub found : Found (own ++ os) now false position steps f l

  pub source_so : (path : Path) → AimSo here scope limits root first places os path → (nodes : List ℕ) (s : State)
      (b : Begins here.level first places (path_nodes path) os nodes s.world) → Scene here scope limits root os s.world →
      Comes (Sourced (form_for here.facts (type_at path)) (path_nodes path) nodes (waits_of here (Read path) ToPlace) b.territory.blocks s.world) NoExit
      (source (Read path) here s)
  source_so path so nodes s b scene =
      comes_then (aimed path here) (λ aim. find aim >>= (λ l. at_path path (give l)))
      (HasAim here scope limits root first places os path (path_nodes path) ws nodes b.territory.blocks s.world) Q NoExit s
      (so nodes s b scene) (λ aim mid a. looked aim mid a)
    where
      ws : List Wait
      ws = waiting_at here.facts here.modes path

      f : Form
      f = form_for here.facts (type_at path)

      same : ws ≡ waits_of here (Read path) ToPlace
      same = none_itself here.facts here.modes (Read path) ToPlace (owned_none here.facts here.modes (Read path) ToPlace refl refl refl)

      Q : Location → World → Type 0
      Q = Sourced f (path_nodes path) nodes (waits_of here (Read path) ToPlace) b.territory.blocks s.world

      at_node_or_not : (c : Bool) (l : Location) (now : State) → Q l now.world →
          Comes Q NoExit (branch c (at_node (node_at path).number points.Does (give l)) (give l) now)
      at_node_or_not true l now q = q
      at_node_or_not false l now q = q

      looked : (aim : Aim) (mid : State) → HasAim here scope limits root first places os path (path_nodes path) ws nodes b.territory.blocks s.world aim
          mid.world →
          Comes Q NoExit ((find aim >>= (λ l. at_path path (give l))) mid)
      looked aim mid a =
          let c = aim_here {ms = a.own} (scene_passes (path_nodes path) a.stage.runs.passes scene) a.aims in
          let Is : Location → World → Type 0 = λ l after. (after ≡ mid.world)
          × Found (a.own ++ os) mid.world (may_write limits path) c.position (steps_of aim) f l in
          comes_then (find aim) (λ l. at_path path (give l)) Is Q NoExit mid
          (comes_answered Is NoExit (find aim mid) (finds mid a.stage.runs.territory c.aims))
          (λ l now p. at_node_or_not (has_node path) l now (subst (λ w. Q l w) (sym p.0) (record {
            own = a.own;
            later = a.later;
            leaves = subst (λ vs. Leaves here.level nodes vs a.own a.later) same a.leaves;
            stage = a.stage;
            position = c.position;
            steps = steps_of aim;
            found = found_read p.1;
          })))

-- ---- groups

-- what ends with a group is the part's own
pub waits_mine : (level : ℕ) (ps ns : List ℕ) (ws : List Wait) → ((n : ℕ) → Member n (nodes_of ws) → Member n ns) → AllMine (part_region level ps ns) ws
waits_mine level ps ns [] within = tt
waits_mine level ps ns (w ∷ ws) within = (in_is w.node ns (within w.node (inl refl)), waits_mine level ps ns ws (λ n m. within n (inr m)))

module _ (here : Here) (first places : ℕ) (ps ns : List ℕ) (os : List Owner) (nodes old : List ℕ) (start : World) where
  abbrev r : Region
  r = part_region here.level ps ns

  abbrev Waits : (ks : List Owner) (ws : List Wait) → World → Type 0
  Waits ks ws now = Pending r ks os first places nodes ws old start now

  abbrev Done : (ks : List Owner) → World → Type 0
  Done ks now = InBody r ks os first places nodes old start now

  pub group_so : (node : ℕ) (ks ls : List Owner) (ws : List Wait) (part : Does (Unit {0})) → ((n : ℕ) → Member n (nodes_of ws) → Member n ns) → (s : State) →
      Comes (λ u after. Waits ks ws after) (LeftBy (λ after. Waits ls ws after)) (part (with_trail (Spot node points.Begins ∷ s.trail) s)) →
      Comes (λ u after. Done ks after) (LeftBy (λ after. Done ls after)) (grouped here node ws part s)
  group_so node ks ls ws part within s h =
      ended_comes here ws part (λ u after. Waits ks ws after) (λ u after. Done ks after) (LeftBy (λ after. Waits ls ws after))
      (LeftBy (λ after. Done ls after)) (with_trail (Spot node points.Begins ∷ s.trail) s) h
      (λ u flow now p. pending_over (λ way after. ⊥) flow mine now p)
      (λ way flow now p. comes_weaker (λ u after. Done ls after) (λ w after. ⊥) (λ u after. LeftBy (λ w. Done ls w) way after) (λ w after. ⊥)
      (all_end here.level flow ws now) (pending_over (λ w after. ⊥) flow mine now p.1) (λ u after d. (p.0, d)) (λ w after q. q))
    where
      mine : AllMine r ws
      mine = waits_mine here.level ps ns ws within

  -- ---- a place is filled

  module _ (place : Declared) (le : first ≤ place.number) (less : place.number < first + places) (mine : Member place.number ps)
      (out : AllOwners (λ o. IsOutside r o.at.base) os) where
    no_base : (ws : List Wait) (own : List Owner) → AllOwners (λ m. IsWaiting here.level ws m) own → NoBaseOf (Standing here.level place.number) (own ++ os)
    no_base ws own cells =
        all_both (λ o. Standing here.level place.number ≡ o.at.base → ⊥) own os (no_place_waits here.level place.number ws own cells)
        (no_place_there here.level place.number ps ns os mine out)

    pub filled : (sub : List ℕ) {f : Form} {ws : List Wait} {own : List Owner} {later : List ℕ} {v : Value} (X : Exit → World → Type 0) →
        ((n : ℕ) → Member n sub → Member n ns) → f ≡ form_of here.facts place.of → Leaves here.level nodes ws own later → (s : State) →
        Holding f v (at_nodes here.level sub) own os first places later old start s.world →
        Comes (λ u after. Waits (own_cell here place ∷ []) ws after) X (fill here place.number v s)
    filled sub {f} {ws} {own} {later} {v} X within same leaves s h =
        let w = part_wider here.level ps ns [] sub (λ n m. elim m [ ]) within in
        let g = subst (λ x. Holding x v r own os first places later old start s.world) same (holding_in w h) in
        comes_weaker (λ u after. Stage r (own_cell here place ∷ own) os first places later old start after) X
        (λ u after. Waits (own_cell here place ∷ []) ws after) X (fill here place.number v s)
        (fill_comes here place.number X refl s g le less (in_is place.number ps mine) (no_base ws own leaves.cells))
        (λ u after st. record { own = own; later = later; leaves = leaves; behind = later; within = λ n m. m; distinct = leaves.distinct; stage = st })
        (λ way after q. q)

    pub filled_from : (sub : List ℕ) {f : Form} {ws : List Wait} {own : List Owner} {later : List ℕ} {l : Location} {position : ℕ} {steps : List Step}
        (X : Exit → World → Type 0) → ((n : ℕ) → Member n sub → Member n ns) → f ≡ form_of here.facts place.of → Leaves here.level nodes ws own later →
        (s : State) → Stage (at_nodes here.level sub) own os first places later old start s.world → Found (own ++ os) s.world false position steps f l →
        Comes (λ u after. Waits (own_cell here place ∷ []) ws after) X (fill_from here place l s)
    filled_from sub {f} {ws} {own} {later} {l} {position} {steps} X within same leaves s st found =
        let w = part_wider here.level ps ns [] sub (λ n m. elim m [ ]) within in
        let there = subst (λ x. Found (own ++ os) s.world false position steps x l) same found in
        comes_weaker (λ u after. Stage r (own_cell here place ∷ own) os first places later old start after) X
        (λ u after. Waits (own_cell here place ∷ []) ws after) X (fill_from here place l s)
        (fill_from_comes r os first places later old start here place X refl s (stage_in w st) le less (in_is place.number ps mine)
        (no_base ws own leaves.cells)
        (read_found st.runs.territory there)
        (found_elsewhere here.level place.number there (no_base ws own leaves.cells)))
        (λ u after t. record { own = own; later = later; leaves = leaves; behind = later; within = λ n m. m; distinct = leaves.distinct; stage = t })
        (λ way after q. q)

  -- ---- the result

  module _ (place : Declared) (there : Among os (own_cell here place)) where
    abbrev cell_of : (own : List Owner) (world : World) → Chain (own ++ os) world (own_cell here place)
    cell_of own world = record { from = own_cell here place; at = among_second own there; path = []; way = arrived }

    waits_then : {ws : List Wait} {own : List Owner} {later : List ℕ} (now : World) → Leaves here.level nodes ws own later →
        Stage r own os first places later old start now → Waits [] ws now
    waits_then {own = own} {later = later} now leaves st =
        record { own = own; later = later; leaves = leaves; behind = later; within = λ n m. m; distinct = leaves.distinct; stage = st }

    pub result_so : (sub : List ℕ) {f : Form} {ws : List Wait} {own : List Owner} {later : List ℕ} {v : Value} (X : Exit → World → Type 0) (hooks : Bool) →
        ((n : ℕ) → Member n sub → Member n ns) → f ≡ form_of here.facts place.of → hooked f ≡ hooks → Leaves here.level nodes ws own later → (s : State) →
        Holding f v (at_nodes here.level sub) own os first places later old start s.world →
        Comes (λ u after. Waits [] ws after) X (result_gets hooks (Some place) here v s)
    result_so sub {f} {ws} {own} {later} {v} X true within same hooks leaves s h =
        let w = part_wider here.level ps ns [] sub (λ n m. elim m [ ]) within in
        let g = subst (λ x. Holding x v r own os first places later old start s.world) same (holding_in w h) in
        comes_weaker (λ u after. Stage r own os first places later old start after) X (λ u after. Waits [] ws after) X
        (result_gets true (Some place) here v s)
        (result_comes r own os first places later old start here place X s g (cell_of own s.world)) (λ u after st. waits_then after leaves st)
        (λ way after q. q)
    result_so sub {f} {ws} {own} {later} {v} X false within same hooks leaves s h =
        let w = part_wider here.level ps ns [] sub (λ n m. elim m [ ]) within in
        let g = subst (λ x. Holding x v r own os first places later old start s.world) same (holding_in w h) in
        comes_weaker (λ u after. Stage r own os first places later old start after) X (λ u after. Waits [] ws after) X
        (result_gets false (Some place) here v s)
        (plain_result_comes r own os first places later old start here place X s (sym (ap hooked same) ∙ hooks)
        (bare_stage r os first places old start (sym (ap hooked same) ∙ hooks) g)
        (in_cell (cell_of own s.world) goes_nowhere) (from_full {x = Constant} g.under.has)) (λ u after st. waits_then after leaves st) (λ way after q. q)

    pub result_copied : (sub : List ℕ) {f : Form} {ws : List Wait} {own : List Owner} {later : List ℕ} {l : Location} {position : ℕ} {steps : List Step}
        (X : Exit → World → Type 0) → ((n : ℕ) → Member n sub → Member n ns) → f ≡ form_of here.facts place.of → hooked f ≡ true →
        Leaves here.level nodes ws own later → (s : State) → Stage (at_nodes here.level sub) own os first places later old start s.world →
        Found (own ++ os) s.world false position steps f l →
        Comes (λ u after. Waits [] ws after) X (result_copies (Some place) here l s)
    result_copied sub {f} {ws} {own} {later} {l} {position} {steps} X within same hooks leaves s st found =
        let w = part_wider here.level ps ns [] sub (λ n m. elim m [ ]) within in
        let g = stage_in w st in
        let t = g.runs.territory in
        let deed = assigned (form_of here.facts place.of) (place_at here.level place.number) (At l) in
        comes_carried (λ u after. Waits [] ws after) X deed s
        (sure_weaker deed (λ u after. Moves (own ++ os) [] t.blocks s.world after) (λ u after. Waits [] ws after) s.world
        (copied_to t (sym (ap hooked same) ∙ hooks) (cell_of own s.world) (subst (λ x. Found (own ++ os) s.world false position steps x l) same found))
        (λ u after m. waits_then after leaves (stage_moves r os first places old start g m)))
