-- A `case` that gives a value, by its selector; and what becomes of the value of a choice.
use Rattle.std.proofs.Common.{◌≡◌, refl, sym, ap, ap₂, subst, arith, ℕ, Bool, true, false, inl, inr, List, [], ◌∷◌, ◌++◌, length, Option, Some, None, ◌⊎◌}
use Rattle.std.specs.Prelude.{◌&&◌}
use Rattle.std.proofs.lemmas.Bool.{false≢true, and_parts, and_right}
use Rattle.nim_types.specs.Types.{Ty}
use Rattle.nim_types.specs.Forms.{Form}
use Rattle.nim_program.specs.declared.expr.Node.{Node}
use Rattle.nim_program.specs.declared.operation.Use.{Use}
use Rattle.nim_program.specs.declared.operation.Use.TheVariants.{Owned, Given as ToPlace, Held, Lent, Looked}
use Rattle.nim_program.specs.Program.{Label, Chooser, ByConditions, ByLabels, Expr, Choose, Path, Args, NoArg, ByValue, ByPath, type_of, type_at, node_at}
use Rattle.nim_program.specs.Program.{types_in}
use Rattle.nim_program.specs.Kinds.{kind_if, is_selected}
use Rattle.nim_program.specs.Fitting.{conditions_fit, values_fit, are_enough, are_labels, chooser_fits}
use Rattle.nim_program.specs.Typed.{are_placed, behind_first}
use Rattle.nim_program.specs.Scopes as scopes
use Rattle.nim_meaning.specs.ActTree as points
use Rattle.nim_meaning.specs.Ways.{At as Spot}
use Rattle.nim_meaning.specs.Values.{Value, Fixed, Location}
use Rattle.nim_meaning.specs.Marks.{Member, Distinct}
use Rattle.nim_meaning.specs.State.{World, State, is_whole, text_of}
use Rattle.nim_meaning.specs.Acts.{Exit, Does, branch, costs, looks, wrong, ◌>>=◌, with_trail, worked}
use Rattle.nim_meaning.specs.Deeds.{carry}
use Rattle.nim_meaning.specs.Here.{Here, gives_hooked, form_for}
use Rattle.nim_meaning.specs.Waiting.{Wait, nodes_of, wait_if, waiting, waiting_at}
use Rattle.nim_meaning.specs.Aims.{Aim, find}
use Rattle.nim_meaning.specs.Places.{fetched}
use Rattle.nim_meaning.specs.Shapes.{has_node, is_covered, waits}
use Rattle.nim_meaning.specs.Table.{moved}
use Rattle.nim_meaning.specs.Steps.{at_node, at_path, selecting, handed_on}
use Rattle.nim_meaning.specs.Meaning.{eval, aimed, first_value, picked_value}
use Rattle.holders.specs.Sure.{Comes}
use Rattle.holders.specs.Territory.{Owner}
use Rattle.holders.specs.Finding.{Found, Fetched, steps_of}
use Rattle.holders.specs.Staging.{Stage}
use Rattle.holders.proofs.Owning.{in_first, in_second, distinct_first, distinct_second, distinct_apart}
use Rattle.holders.proofs.Sure.{sure_weaker}
use Rattle.holders.proofs.Guards.{has_whole}
use Rattle.holders.proofs.PlainRows.{read_found, fetches}
use Rattle.holders.proofs.Finding.{finds}
use Rattle.holders.proofs.Coming.{comes_then, comes_weaker, comes_answered, comes_carried, comes_turned}
use Rattle.holders.specs.Asked.{Limits, IfSimple, may_write}
use Rattle.holders.specs.Evaluating.{value_nodes, path_nodes, operand_nodes, at_nodes, waits_inside, Leaves, is_bare, is_seen, is_held, is_waiting}
use Rattle.holders.proofs.PartsInTurn.{begins_part, First, begins_next, stage_next, holding_next, leaves_next, stage_wider, first_in, waiting_in, path_in}
use Rattle.holders.proofs.PartsInTurn.{in_is}
use Rattle.holders.specs.Claimed.{NoExit, From, Sees, HasValue, ValueSo, HasAim, AimSo}
use Rattle.holders.proofs.Claims.{behind_value, nothing_more, scene_passes, behind_alone}
use Rattle.holders.proofs.OperandCopies.{aim_here}
use Rattle.holders.proofs.OperandParts.{waiting_seen}
use Rattle.holders.proofs.Table.{Out, OutOf}
use Rattle.holders.proofs.Applying.{node_off, OwnWaits, row_valued}
use Rattle.holders.proofs.Branches.{Branched}
use Rattle.holders.proofs.Choices.{Chosen, AllParts, Conditions, first_so, picked_so}

choose_waits : (here : Here) (node : Node) (ty : Option Ty) (chooser : Chooser) (parts : Args) → OwnWaits here (Choose node ty chooser parts) ty
choose_waits here node ty chooser parts = record {
  one = λ how w hooks. ap₂ (λ a b. wait_if (a && b) node.number ty (form_for here.facts ty)) hooks w;
  none = λ how w. ap (λ b. wait_if b node.number ty (form_for here.facts ty)) (and_right (gives_hooked here.facts ty) (waits how) w);
  plain = λ how unhooked. ap (λ a. wait_if (a && waits how) node.number ty (form_for here.facts ty)) unhooked;
}

abbrev use_number : Use → ℕ
use_number Owned = 0
use_number ToPlace = 1
use_number Held = 2
use_number Lent = 3
use_number Looked = 4

module _ (here : Here) (scope : scopes.Here) (limits : Limits) (root : (global : Bool) → ℕ → ℕ) (first places : ℕ) (os : List Owner) where
  -- what a choice gives, with what its selector left
  pub record Selected (ty : Option Ty) (ns nodes : List ℕ) (ws : List Wait) (old : List ℕ) (start : World) (v : Value) (now : World) : Type 0 where
    pub own : List Owner
    pub later : List ℕ
    pub leaves : Leaves here.level nodes ws own later
    pub out : OutOf here.facts (at_nodes here.level ns) own os first places later old start ty v now

  chosen_out : (hooks : Bool) (f : Form) (ns nodes old : List ℕ) (start : World) (v : Value) (now : World) →
      Branched hooks f here.level first places ns nodes os old start v now →
      (later : List ℕ) × (Leaves here.level nodes [] [] later × Out hooks f (at_nodes here.level ns) [] os first places later old start v now)
  chosen_out false f ns nodes old start v now h = (h.0.later, (h.0.leaves, (h.0.stage, h.1)))
  chosen_out true f ns nodes old start v now h = (h.later, (h.leaves, h.holding))

  out_wider : (hooks : Bool) (f : Form) (ns sub : List ℕ) (ms : List Owner) (later old : List ℕ) (start : World) (v : Value) (now : World) →
      ((n : ℕ) → Member n sub → Member n ns) → Out hooks f (at_nodes here.level sub) ms os first places later old start v now →
      Out hooks f (at_nodes here.level ns) ms os first places later old start v now
  out_wider false f ns sub ms later old start v now within h = (stage_wider ns sub within h.0, h.1)
  out_wider true f ns sub ms later old start v now within h = record {
    out = h.out;
    stage = stage_wider ns sub within h.stage;
    under = h.under;
    came = h.came;
    out_is = h.out_is;
  }

  out_next : (hooks : Bool) (f : Form) {ns one two nodes middle : List ℕ} {ws : List Wait} {ms : List Owner} {start mid : World} (ks : List Owner)
      (later : List ℕ) (v : Value) (last : World) (p : First here.level first places ns one two os nodes ws ms middle start mid) →
      Out hooks f (at_nodes here.level two) ks os first places later (begins_next p).territory.blocks mid v last →
      Out hooks f (at_nodes here.level ns) (ms ++ ks) os first places later p.before.territory.blocks start v last
  out_next false f ks later v last p h = (stage_next p h.0, h.1)
  out_next true f ks later v last p h = holding_next p h

  -- ---- what becomes of the value

  handed_so : (node : Node) (ty : Option Ty) (chooser : Chooser) (parts : Args) (how : Use) → Distinct (node.number ∷ operand_nodes parts) →
      (nodes : List ℕ) (start : World) (b : From here scope limits root first places os (node.number ∷ operand_nodes parts) nodes start) →
      ((m : ℕ) → Member m (nodes_of (waits_inside here.facts here.modes (Choose node ty chooser parts))) → Member m (operand_nodes parts)) →
      (v : Value) (s : State) →
      Selected ty (operand_nodes parts) nodes (waits_inside here.facts here.modes (Choose node ty chooser parts)) b.territory.blocks start v s.world →
      Comes (HasValue here first places os (Choose node ty chooser parts) how nodes b.territory.blocks start) NoExit (handed_on here how node.number ty v s)
  handed_so node None chooser parts how d nodes start b inside v s h =
      is_bare (inl refl) h.leaves refl (stage_wider (node.number ∷ operand_nodes parts) (operand_nodes parts) (λ n m. inr m) h.out.0) h.out.1
  handed_so node (Some ty) chooser parts how d nodes start b inside v s h =
      let e = Choose node (Some ty) chooser parts in
      let ns = node.number ∷ operand_nodes parts in
      row_valued here first places os e (choose_waits here node (Some ty) chooser parts) nodes h.later b.territory.blocks start h.own h.leaves how (moved v) s
      (in_is node.number ns (inl refl))
      (node_off (waits_inside here.facts here.modes e) h.own node.number b (inl refl) (λ m. d.0 (inside node.number m)) h.leaves.cells)
      (out_wider (gives_hooked here.facts (Some ty)) (form_for here.facts (Some ty)) ns (operand_nodes parts) h.own h.later b.territory.blocks start v s.world
      (λ n m. inr m) h.out)

  -- ---- by conditions

  pub conditions_so : (node : Node) (ty : Option Ty) (parts : Args) (how : Use) → conditions_fit here.facts ty (types_in parts) ≡ true →
      are_placed 0 parts ≡ true →
      Conditions here scope limits root first places os parts → Distinct (node.number ∷ operand_nodes parts) →
      AllParts here scope limits root first places os parts →
      ValueSo here scope limits root first places os (Choose node ty ByConditions parts) how
  conditions_so node ty parts how typed placed conditions d all nodes s b scene =
      let ns = operand_nodes parts in
      let there = with_trail (Spot node.number points.Chooses ∷ (worked 1 s).trail) (worked 1 s) in
      let Q = HasValue here first places os (Choose node ty ByConditions parts) how nodes b.territory.blocks s.world in
      comes_then (at_node node.number points.Chooses (first_value parts ty here)) (λ v. handed_on here how node.number ty v)
      (Chosen here scope limits root first places os ty ns nodes b.territory.blocks s.world) Q NoExit (worked 1 s)
      (first_so here scope limits root first places os parts ty typed placed conditions d.1 all nodes there
      (begins_part (node.number ∷ ns) ns b (λ n m. inr m)) scene)
      (λ v now h.
      let o = chosen_out (gives_hooked here.facts ty) (form_for here.facts ty) ns nodes b.territory.blocks s.world v now.world h in
      handed_so node ty ByConditions parts how d nodes s.world b (λ m q. elim q [ ]) v now
      (record { own = []; later = o.0; leaves = o.1.0; out = o.1.1 }))

  -- ---- by labels

  -- what a selector left, and that it is there
  pub record Selector (ty : Option Ty) (ns nodes : List ℕ) (ws : List Wait) (old : List ℕ) (start : World) (x : Value) (now : World) : Type 0 where
    pub own : List Owner
    pub later : List ℕ
    pub leaves : Leaves here.level nodes ws own later
    pub stage : Stage (at_nodes here.level ns) own os first places later old start now
    pub whole : gives_hooked here.facts ty ≡ true → is_whole now x ≡ true

  pub selecting_comes : {A : Type 0} (ty : Option Ty) (x : Value) (go : Value → Does A) (P : A → World → Type 0) (X : Exit → World → Type 0) (s : State) →
      (gives_hooked here.facts ty ≡ true → is_whole s.world x ≡ true) → ((y : Value) (now : State) → now.world ≡ s.world → Comes P X (go y now)) →
      Comes P X (selecting here ty x go s)
  selecting_comes {A} ty x go P X s whole h = by (gives_hooked here.facts ty) refl
    where
      text : Does A
      text = costs (length (text_of s.world x)) (go (Fixed (text_of s.world x)))

      by : (c : Bool) → gives_hooked here.facts ty ≡ c →
          Comes P X (branch c (looks (λ world. branch (is_whole world x) (costs (length (text_of world x)) (go (Fixed (text_of world x)))) wrong))
          (go x) s)
      by true hooks =
          subst (λ c. Comes P X (branch c text wrong s)) (sym (whole hooks)) (h (Fixed (text_of s.world x)) (worked (length (text_of s.world x)) s) refl)
      by false unhooked = h x s refl

  pub value_selector : (e : Expr) → Distinct (value_nodes e) → {nodes old : List ℕ} {start : World} {x : Value} {now : World} →
      HasValue here first places os e Looked nodes old start x now →
      Selector (type_of e) (value_nodes e) nodes (waiting here.facts here.modes e Looked) old start x now
  value_selector e d h =
      let after = behind_value here e Looked d h in
      record {
        own = after.own;
        later = after.later;
        leaves = after.leaves;
        stage = behind_alone here e Looked d looked_only h;
        whole = λ hooks. there h;
      }
    where
      looked_only : (Looked ≡ Owned) ⊎ (Looked ≡ ToPlace) → gives_hooked here.facts (type_of e) ≡ false
      looked_only (inl q) = absurd (omega (arith, ap use_number q))
      looked_only (inr q) = absurd (omega (arith, ap use_number q))

      there : {nodes old : List ℕ} {start : World} {x : Value} {now : World} → HasValue here first places os e Looked nodes old start x now →
          is_whole now x ≡ true
      there {now = now} (is_bare which a none s bare) = has_whole tt (bare now)
      there (is_seen q a none s has) = has_whole tt has
      there (is_held (inl q) a none held) = absurd (omega (arith, ap use_number q))
      there (is_held (inr q) a none held) = absurd (omega (arith, ap use_number q))
      there (is_waiting a one w) = has_whole tt (waiting_seen w.stage.runs.territory w.base).1

  picked_behind : (node : Node) (labels : List (List Label)) (ty : Option Ty) (covered : Bool) (values : Args) (selector : Option Ty) (one : List ℕ)
      (ws : List Wait) → IfSimple here.facts ty → (enough : Bool) → values_fit here.facts ty enough labels (types_in values) ≡ true →
      are_placed 0 values ≡ true → Distinct (one ++ operand_nodes values) → AllParts here scope limits root first places os values →
      ((n : ℕ) → Member n (nodes_of ws) → Member n one) → (nodes : List ℕ) (start : World)
      (b : From here scope limits root first places os (one ++ operand_nodes values) nodes start) → Sees here scope limits root first places os start →
      (x : Value) (s : State) → Selector selector one nodes ws b.territory.blocks start x s.world →
      Comes (Selected ty (one ++ operand_nodes values) nodes ws b.territory.blocks start) NoExit
      (selecting here selector x (λ y. at_node node.number points.Chooses (picked_value covered labels values y ty here)) s)
  picked_behind node labels ty covered values selector one ws simple enough typed placed d all inside nodes start b scene x s h =
      selecting_comes selector x (λ y. at_node node.number points.Chooses (picked_value covered labels values y ty here))
      (Selected ty (one ++ two) nodes ws b.territory.blocks start) NoExit s h.whole
      (λ y now e. picks y now (subst (λ w. Stage (at_nodes here.level one) h.own os first places h.later b.territory.blocks start w) (sym e) h.stage))
    where
      two : List ℕ
      two = operand_nodes values

      hooks : Bool
      hooks = gives_hooked here.facts ty

      f : Form
      f = form_for here.facts ty

      picks : (y : Value) (now : State) → Stage (at_nodes here.level one) h.own os first places h.later b.territory.blocks start now.world →
          Comes (Selected ty (one ++ two) nodes ws b.territory.blocks start) NoExit
          (at_node node.number points.Chooses (picked_value covered labels values y ty here) now)
      picks y now st =
          let p : First here.level first places (one ++ two) one two os nodes ws h.own h.later start now.world = record {
            before = b;
            of_one = λ n m. in_first n one two m;
            of_two = λ n m. in_second n one two m;
            inside = inside;
            apart = λ n m q. distinct_apart n one two d m q;
            leaves = h.leaves;
            stage = st;
          } in
          let there = with_trail (Spot node.number points.Chooses ∷ now.trail) now in
          comes_weaker (Chosen here scope limits root first places os ty two h.later (begins_next p).territory.blocks now.world) NoExit
          (Selected ty (one ++ two) nodes ws b.territory.blocks start) NoExit (picked_value covered labels values y ty here there)
          (picked_so here scope limits root first places os covered labels values y ty simple enough typed placed (distinct_second one two d) all h.later there
          (begins_next p) (scene_passes one st.runs.passes scene))
          (λ v last c.
          let o = chosen_out hooks f two h.later (begins_next p).territory.blocks now.world v last c in
          record {
            own = h.own ++ [];
            later = o.0;
            leaves = subst (λ vs. Leaves here.level nodes vs (h.own ++ []) o.0) (nothing_more ws) (leaves_next p (λ n m. elim m [ ]) o.1.0);
            out = out_next hooks f [] o.0 v last p o.1.1;
          }) (λ way last q. q)

  -- a selector at a path is read where it stands
  pub path_selector : (path : Path) → AimSo here scope limits root first places os path → (nodes : List ℕ)
      (s : State) (b : From here scope limits root first places os (path_nodes path) nodes s.world) → Sees here scope limits root first places os s.world →
      Comes (Selector (type_at path) (path_nodes path) nodes (waiting_at here.facts here.modes path) b.territory.blocks s.world) NoExit
      ((aimed path here >>= (λ aim. find aim >>= (λ l. at_path path (carry (fetched l))))) s)
  path_selector path aim_so nodes s b scene =
      comes_then (aimed path here) (λ aim. find aim >>= (λ l. at_path path (carry (fetched l))))
      (HasAim here scope limits root first places os path (path_nodes path) ws nodes b.territory.blocks s.world) Q NoExit s (aim_so nodes s b scene)
      (λ aim mid a. looked aim mid a)
    where
      ws : List Wait
      ws = waiting_at here.facts here.modes path

      f : Form
      f = form_for here.facts (type_at path)

      Q : Value → World → Type 0
      Q = Selector (type_at path) (path_nodes path) nodes ws b.territory.blocks s.world

      looked : (aim : Aim) (mid : State) → HasAim here scope limits root first places os path (path_nodes path) ws nodes b.territory.blocks s.world aim
          mid.world →
          Comes Q NoExit ((find aim >>= (λ l. at_path path (carry (fetched l)))) mid)
      looked aim mid a =
          let c = aim_here {ms = a.own} (scene_passes (path_nodes path) a.stage.runs.passes scene) a.aims in
          let Is : Location → World → Type 0 = λ l after. (after ≡ mid.world)
          × Found (a.own ++ os) mid.world (may_write limits path) c.position (steps_of aim) f l in
          comes_then (find aim) (λ l. at_path path (carry (fetched l))) Is Q NoExit mid
          (comes_answered Is NoExit (find aim mid) (finds mid a.stage.runs.territory c.aims))
          (λ l now p. by (has_node path) l now (subst (λ w. Found (a.own ++ os) w (may_write limits path) c.position (steps_of aim) f l) (sym p.0) p.1)
          (subst (λ w. Stage (at_nodes here.level (path_nodes path)) a.own os first places a.later b.territory.blocks s.world w) (sym p.0) a.stage))
        where
          got : (l : Location) (now : State) {n : ℕ} {may : Bool} → Found (a.own ++ os) now.world may n (steps_of aim) f l →
              Stage (at_nodes here.level (path_nodes path)) a.own os first places a.later b.territory.blocks s.world now.world →
              Comes Q NoExit (carry (fetched l) now)
          got l now there st =
              let read = read_found st.runs.territory there in
              comes_carried Q NoExit (fetched l) now
              (sure_weaker (fetched l) (Fetched f now.world) Q now.world (fetches read)
              (λ x after g. record {
                own = a.own;
                later = a.later;
                leaves = a.leaves;
                stage = subst (λ w. Stage (at_nodes here.level (path_nodes path)) a.own os first places a.later b.territory.blocks s.world w) (sym g.same) st;
                whole = λ hooks. subst (λ w. is_whole w x ≡ true) (sym g.same) (has_whole tt g.has);
              }))

          by : (c : Bool) (l : Location) (now : State) {n : ℕ} {may : Bool} → Found (a.own ++ os) now.world may n (steps_of aim) f l →
              Stage (at_nodes here.level (path_nodes path)) a.own os first places a.later b.territory.blocks s.world now.world →
              Comes Q NoExit (branch c (at_node (node_at path).number points.Does (carry (fetched l))) (carry (fetched l)) now)
          by true l now there st = got l (with_trail (Spot (node_at path).number points.Does ∷ now.trail) now) there st
          by false l now there st = got l now there st

  abbrev pub SelectorSo : Args → Type 0
  SelectorSo NoArg = Unit {0}
  SelectorSo (ByValue selector rest) = ValueSo here scope limits root first places os selector Looked × AllParts here scope limits root first places os rest
  SelectorSo (ByPath path rest) = AimSo here scope limits root first places os path × AllParts here scope limits root first places os rest

  pub labels_so : (node : Node) (ty : Option Ty) (labels : List (List Label)) (parts : Args) (how : Use) → IfSimple here.facts ty →
      chooser_fits here.facts ty (ByLabels labels) (types_in parts) ≡ true → are_placed 0 (behind_first parts) ≡ true →
      Distinct (node.number ∷ operand_nodes parts) → SelectorSo parts →
      ValueSo here scope limits root first places os (Choose node ty (ByLabels labels) parts) how
  labels_so node ty labels NoArg how simple typed placed d all nodes s b scene = absurd (false≢true typed)
  labels_so node ty labels (ByValue selector rest) how simple typed placed d all nodes s b scene =
      let one = value_nodes selector in
      let ns = one ++ operand_nodes rest in
      let k = kind_if here.facts (type_of selector) in
      let ws = waiting here.facts here.modes selector Looked in
      let part = begins_part (node.number ∷ ns) ns b (λ n m. inr m) in
      let rest_of : Value → Does Value = λ x. selecting here (type_of selector) x
      (λ y. at_node node.number points.Chooses (picked_value (is_covered (type_of selector)) labels rest y ty here)) in
      comes_then (eval selector Looked here >>= rest_of) (λ v. handed_on here how node.number ty v) (Selected ty ns nodes ws b.territory.blocks s.world)
      (HasValue here first places os (Choose node ty (ByLabels labels) (ByValue selector rest)) how nodes b.territory.blocks s.world) NoExit (worked 1 s)
      (comes_then (eval selector Looked here) rest_of (HasValue here first places os selector Looked nodes b.territory.blocks s.world)
      (Selected ty ns nodes ws b.territory.blocks s.world) NoExit (worked 1 s)
      (all.0 nodes (worked 1 s) (begins_part ns one part (λ n m. in_first n one (operand_nodes rest) m)) scene)
      (λ x mid h. picked_behind node labels ty (is_covered (type_of selector)) rest (type_of selector) one ws simple (are_enough k ty labels)
      (and_parts (is_selected k && are_labels k labels) (values_fit here.facts ty (are_enough k ty labels) labels (types_in rest)) typed).1 placed d.1 all.1
      (λ n m. waiting_in here.facts here.modes selector Looked n m) nodes s.world part scene x mid
      (value_selector selector (distinct_first one (operand_nodes rest) d.1) h)))
      (λ v now h. handed_so node ty (ByLabels labels) (ByValue selector rest) how d nodes s.world b
      (λ n m. first_in here.facts here.modes (ByValue selector rest) n m) v now h)
  labels_so node ty labels (ByPath path rest) how simple typed placed d all nodes s b scene =
      let one = path_nodes path in
      let ns = one ++ operand_nodes rest in
      let k = kind_if here.facts (type_at path) in
      let ws = waiting_at here.facts here.modes path in
      let part = begins_part (node.number ∷ ns) ns b (λ n m. inr m) in
      let rest_of : Value → Does Value = λ x. selecting here (type_at path) x
      (λ y. at_node node.number points.Chooses (picked_value (is_covered (type_at path)) labels rest y ty here)) in
      comes_then (aimed path here >>= (λ aim. find aim >>= (λ l. at_path path (carry (fetched l)) >>= rest_of))) (λ v. handed_on here how node.number ty v)
      (Selected ty ns nodes ws b.territory.blocks s.world)
      (HasValue here first places os (Choose node ty (ByLabels labels) (ByPath path rest)) how nodes b.territory.blocks s.world) NoExit (worked 1 s)
      (comes_turned (aimed path here) find (λ l. at_path path (carry (fetched l))) rest_of (Selected ty ns nodes ws b.territory.blocks s.world) NoExit
      (worked 1 s)
      (comes_then (aimed path here >>= (λ aim. find aim >>= (λ l. at_path path (carry (fetched l))))) rest_of
      (Selector (type_at path) one nodes ws b.territory.blocks s.world) (Selected ty ns nodes ws b.territory.blocks s.world) NoExit (worked 1 s)
      (path_selector path all.0 nodes (worked 1 s) (begins_part ns one part (λ n m. in_first n one (operand_nodes rest) m)) scene)
      (λ x mid h. picked_behind node labels ty (is_covered (type_at path)) rest (type_at path) one ws simple (are_enough k ty labels)
      (and_parts (is_selected k && are_labels k labels) (values_fit here.facts ty (are_enough k ty labels) labels (types_in rest)) typed).1 placed d.1 all.1
      (λ n m. path_in here.facts here.modes path n m) nodes s.world part scene x mid h)))
      (λ v now h. handed_so node ty (ByLabels labels) (ByPath path rest) how d nodes s.world b
      (λ n m. first_in here.facts here.modes (ByPath path rest) n m) v now h)
