-- Choices: an `if` and a `case` that give a value.
use Rattle.std.proofs.Common.{◌≡◌, refl, sym, subst, ℕ, Bool, true, false, inl, inr, ◌⊎◌, List, [], ◌∷◌, ◌++◌, Option, Some, None}
use Rattle.std.specs.Prelude.{◌&&◌}
use Rattle.std.proofs.lemmas.Bool.{false≢true, and_parts}
use Rattle.nim_types.specs.Types.{Ty}
use Rattle.nim_types.specs.Forms.{Form, form_of}
use Rattle.nim_types.proofs.ForCallers.{the_form}
use Rattle.nim_program.specs.declared.operation.Use.{Use}
use Rattle.nim_program.specs.declared.operation.Use.TheVariants.{Owned, Held}
use Rattle.nim_program.specs.Program.{Label, Expr, Args, NoArg, ByValue, ByPath, type_of, node_of, types_in}
use Rattle.nim_program.specs.Ints.{is_true}
use Rattle.nim_program.specs.Kinds.{kind_if, is_bool, same_value}
use Rattle.nim_program.specs.Fitting.{conditions_fit, values_fit}
use Rattle.nim_program.specs.Typed.{are_placed}
use Rattle.nim_program.specs.Scopes as scopes
use Rattle.nim_meaning.specs.ActTree as points
use Rattle.nim_meaning.specs.Ways.{At as Spot}
use Rattle.nim_meaning.specs.Values.{Value, number_of}
use Rattle.nim_meaning.specs.Marks.{Member, Distinct}
use Rattle.nim_meaning.specs.State.{World, State}
use Rattle.nim_meaning.specs.Acts.{Does, branch, with_trail, worked}
use Rattle.nim_meaning.specs.Here.{Here, gives_hooked, form_for}
use Rattle.nim_meaning.specs.Steps.{at_node, ended_value, branch_value, picked, fits_label, label_work}
use Rattle.nim_meaning.specs.Shapes.{is_last_value}
use Rattle.nim_meaning.specs.Meaning.{eval, first_value, picked_value}
use Rattle.nim_meaning.specs.Table.{default_for}
use Rattle.holders.specs.Owned.{Extent, Full, Constant, Has, a_number, HasBlocksAlone}
use Rattle.holders.specs.Sure.{Comes}
use Rattle.holders.specs.Territory.{Owner}
use Rattle.holders.specs.Staging.{Stage}
use Rattle.holders.proofs.Owning.{in_first, in_second, distinct_first, distinct_second, distinct_apart}
use Rattle.holders.proofs.ElementLists.{blank_has}
use Rattle.holders.proofs.Framing.{stage_begins}
use Rattle.holders.proofs.Coming.{comes_then, comes_weaker}
use Rattle.holders.specs.Asked.{Limits, IfSimple}
use Rattle.holders.specs.Evaluating.{value_nodes, operand_nodes, at_nodes, Bare}
use Rattle.holders.proofs.PartsInTurn.{leaves_none, begins_part, First, begins_next, stage_next, holding_next, stage_wider}
use Rattle.holders.specs.Claimed.{NoExit, From, Sees, ValueSo}
use Rattle.holders.proofs.Claims.{scene_passes}
use Rattle.holders.proofs.FormKinds.{same_values}
use Rattle.holders.proofs.Table.{hold_bare}
use Rattle.holders.proofs.Branches.{Ended, Branched, ended_so, branch_so}

module _ (here : Here) (scope : scopes.Here) (limits : Limits) (root : (global : Bool) → ℕ → ℕ) (first places : ℕ) (os : List Owner) where
  abbrev Value_so : Expr → Use → Type 0
  Value_so e how = ValueSo here scope limits root first places os e how

  -- what the parts of a choice give: those that are conditions, and those that are values
  abbrev pub Chosen : (ty : Option Ty) → (ns nodes old : List ℕ) → World → Value → World → Type 0
  Chosen ty ns nodes old start v now = Branched (gives_hooked here.facts ty) (form_for here.facts ty) here.level first places ns nodes os old start v now

  -- in a part of the whole
  chosen_wider : (hooks : Bool) (f : Form) (ns sub nodes old : List ℕ) (start : World) (v : Value) (now : World) → ((n : ℕ) → Member n sub → Member n ns) →
      Branched hooks f here.level first places sub nodes os old start v now → Branched hooks f here.level first places ns nodes os old start v now
  chosen_wider false f ns sub nodes old start v now within h =
      (record { later = h.0.later; leaves = h.0.leaves; stage = stage_wider ns sub within h.0.stage }, h.1)
  chosen_wider true f ns sub nodes old start v now within h = record {
    later = h.later;
    leaves = h.leaves;
    holding = record {
      out = h.holding.out;
      stage = stage_wider ns sub within h.holding.stage;
      under = h.holding.under;
      came = h.holding.came;
      out_is = h.holding.out_is;
    };
  }

  -- behind a condition
  chosen_next : (hooks : Bool) (f : Form) {ns one two nodes middle : List ℕ} {start mid : World} (v : Value) (last : World)
      (p : First here.level first places ns one two os nodes [] [] middle start mid) →
      Branched hooks f here.level first places two middle os (begins_next p).territory.blocks mid v last →
      Branched hooks f here.level first places ns nodes os p.before.territory.blocks start v last
  chosen_next false f {nodes = nodes} {middle = middle} v last p h = (
    record {
      later = h.0.later;
      leaves = record { cells = tt; ends = h.0.leaves.ends; distinct = h.0.leaves.distinct; came = λ n m. back n (h.0.leaves.came n m) };
      stage = stage_next p h.0.stage;
    },
    h.1,
  )
    where
      back : (n : ℕ) → Member n middle ⊎ Member n [] → Member n nodes ⊎ Member n []
      back n (inl m) = p.leaves.came n m
      back n (inr m) = inr m
  chosen_next true f {nodes = nodes} {middle = middle} v last p h = record {
    later = h.later;
    leaves = record { cells = tt; ends = h.leaves.ends; distinct = h.leaves.distinct; came = λ n m. back n (h.leaves.came n m) };
    holding = holding_next p h.holding;
  }
    where
      back : (n : ℕ) → Member n middle ⊎ Member n [] → Member n nodes ⊎ Member n []
      back n (inl m) = p.leaves.came n m
      back n (inr m) = inr m

  abbrev Parts_from : List ℕ → List ℕ → World → Type 0
  Parts_from ns nodes world = From here scope limits root first places os ns nodes world

  -- what is known of each part of a choice
  pub record PartSo (e : Expr) : Type 0 where
    pub node : gives_hooked here.facts (type_of e) ≡ true → Member (node_of e).number (value_nodes e)
    pub owned : Value_so e Owned
    pub held : Value_so e Held

  abbrev pub AllParts : Args → Type 0
  AllParts NoArg = Unit {0}
  AllParts (ByValue value rest) = PartSo value × AllParts rest
  AllParts (ByPath path rest) = AllParts rest

  -- a branch of the type
  branch_of : (ty : Option Ty) (e : Expr) → same_value (type_of e) ty ≡ true → Distinct (value_nodes e) → PartSo e → (nodes : List ℕ) (s : State)
      (b : Parts_from (value_nodes e) nodes s.world) → Sees here scope limits root first places os s.world →
      Comes (Chosen ty (value_nodes e) nodes b.territory.blocks s.world) NoExit (branch_value here e (λ how. eval e how here) s)
  branch_of ty e typed d part nodes s b scene =
      subst (λ o. Comes (Chosen o (value_nodes e) nodes b.territory.blocks s.world) NoExit (branch_value here e (λ how. eval e how here) s))
      (same_values {a = type_of e} {b = ty} typed)
      (branch_so here scope limits root first places os e d part.node part.owned part.held nodes s b scene)

  -- conditions are bools
  abbrev pub Conditions : Args → Type 0
  Conditions NoArg = Unit {0}
  Conditions (ByValue last NoArg) = Unit {0}
  Conditions (ByValue condition (ByPath path rest)) = Unit {0}
  Conditions (ByValue condition (ByValue value rest)) = (gives_hooked here.facts (type_of condition) ≡ false) × Conditions rest
  Conditions (ByPath path rest) = Unit {0}

  -- ---- the first one whose condition holds

  pub first_so : (parts : Args) (ty : Option Ty) → conditions_fit here.facts ty (types_in parts) ≡ true → are_placed 0 parts ≡ true → Conditions parts →
      Distinct (operand_nodes parts) → AllParts parts → (nodes : List ℕ) (s : State) (b : Parts_from (operand_nodes parts) nodes s.world) →
      Sees here scope limits root first places os s.world →
      Comes (Chosen ty (operand_nodes parts) nodes b.territory.blocks s.world) NoExit (first_value parts ty here s)
  first_so NoArg ty typed placed conditions d all nodes s b scene = absurd (false≢true typed)
  first_so (ByPath path rest) ty typed placed conditions d all nodes s b scene = absurd (false≢true placed)
  first_so (ByValue last NoArg) ty typed placed conditions d all nodes s b scene =
      let ns = value_nodes last in
      let part = begins_part (ns ++ []) ns b (λ n m. in_first n ns [] m) in
      comes_weaker (Chosen ty ns nodes b.territory.blocks s.world) NoExit (Chosen ty (ns ++ []) nodes b.territory.blocks s.world) NoExit
      (branch_value here last (λ how. eval last how here) s) (branch_of ty last typed (distinct_first ns [] d) all.0 nodes s part scene)
      (λ v now h. chosen_wider (gives_hooked here.facts ty) (form_for here.facts ty) (ns ++ []) ns nodes b.territory.blocks s.world v now
      (λ n m. in_first n ns [] m) h) (λ way now q. q)
  first_so (ByValue condition (ByPath path rest)) ty typed placed conditions d all nodes s b scene = absurd (false≢true placed)
  first_so (ByValue condition (ByValue value rest)) ty typed placed conditions d all nodes s b scene =
      chosen (λ typed placed d more nodes s b scene. first_so rest ty typed placed conditions.1 d more nodes s b scene)
    where
      one : List ℕ
      one = value_nodes condition

      two : List ℕ
      two = value_nodes value ++ operand_nodes rest

      Q : Value → World → Type 0
      Q = Chosen ty (one ++ two) nodes b.territory.blocks s.world

      parts : ((is_bool (kind_if here.facts (type_of condition)) && same_value (type_of value) ty) ≡ true)
          × (conditions_fit here.facts ty (types_in rest) ≡ true)
      parts = and_parts (is_bool (kind_if here.facts (type_of condition)) && same_value (type_of value) ty) (conditions_fit here.facts ty (types_in rest)) typed

      Rest : Type 0
      Rest = conditions_fit here.facts ty (types_in rest) ≡ true → are_placed 0 rest ≡ true → Distinct (operand_nodes rest) → AllParts rest →
          (nodes : List ℕ) (s : State) (b : Parts_from (operand_nodes rest) nodes s.world) → Sees here scope limits root first places os s.world →
          Comes (Chosen ty (operand_nodes rest) nodes b.territory.blocks s.world) NoExit (first_value rest ty here s)

      d_two : Distinct two
      d_two = distinct_second one two d

      turn : Rest → (mid : State) → (o : Ended here.level first places one nodes os b.territory.blocks s.world mid.world) → (c : Bool) →
          Comes Q NoExit (branch c (branch_value here value (λ how. eval value how here)) (first_value rest ty here) mid)
      turn rest_so mid o c =
          let p : First here.level first places (one ++ two) one two os nodes [] [] o.later s.world mid.world = record {
            before = b;
            of_one = λ n m. in_first n one two m;
            of_two = λ n m. in_second n one two m;
            inside = λ n m. elim m [ ];
            apart = λ n m q. distinct_apart n one two d m q;
            leaves = o.leaves;
            stage = o.stage;
          } in
          let next = begins_next p in
          let scene_mid = scene_passes one o.stage.runs.passes scene in
          let hooks = gives_hooked here.facts ty in
          let f = form_for here.facts ty in
          by p c
          (comes_weaker (Chosen ty (value_nodes value) o.later next.territory.blocks mid.world) NoExit Q NoExit
          (branch_value here value (λ how. eval value how here) mid)
          (branch_of ty value (and_parts (is_bool (kind_if here.facts (type_of condition))) (same_value (type_of value) ty) parts.0).1
          (distinct_first (value_nodes value) (operand_nodes rest) d_two) all.1.0 o.later mid
          (begins_part two (value_nodes value) next (λ n m. in_first n (value_nodes value) (operand_nodes rest) m)) scene_mid)
          (λ v last h. chosen_next hooks f v last p (chosen_wider hooks f two (value_nodes value) o.later next.territory.blocks mid.world v last
          (λ n m. in_first n (value_nodes value) (operand_nodes rest) m) h)) (λ way last q. q))
          (comes_weaker (Chosen ty (operand_nodes rest) o.later next.territory.blocks mid.world) NoExit Q NoExit (first_value rest ty here mid)
          (rest_so parts.1 placed (distinct_second (value_nodes value) (operand_nodes rest) d_two) all.1.1 o.later mid
          (begins_part two (operand_nodes rest) next (λ n m. in_second n (value_nodes value) (operand_nodes rest) m)) scene_mid)
          (λ v last h. chosen_next hooks f v last p (chosen_wider hooks f two (operand_nodes rest) o.later next.territory.blocks mid.world v last
          (λ n m. in_second n (value_nodes value) (operand_nodes rest) m) h)) (λ way last q. q))
        where
          by : First here.level first places (one ++ two) one two os nodes [] [] o.later s.world mid.world → (c : Bool) →
              Comes Q NoExit (branch_value here value (λ how. eval value how here) mid) → Comes Q NoExit (first_value rest ty here mid) →
              Comes Q NoExit (branch c (branch_value here value (λ how. eval value how here)) (first_value rest ty here) mid)
          by p true so others_so = so
          by p false so others_so = others_so

      chosen : Rest → Comes Q NoExit (first_value (ByValue condition (ByValue value rest)) ty here s)
      chosen rest_so =
          let there = with_trail (Spot (node_of condition).number points.Asks ∷ s.trail) s in
          comes_then (at_node (node_of condition).number points.Asks (ended_value here condition Owned (eval condition Owned here)))
          (λ x. at_node (node_of condition).number points.Decides (branch (is_true (number_of x)) (branch_value here value (λ how. eval value how here))
          (first_value rest ty here)))
          (λ v now. Ended here.level first places one nodes os b.territory.blocks s.world now
          × Bare (form_for here.facts (type_of condition)) v) Q NoExit s
          (ended_so here scope limits root first places os condition conditions.0 (distinct_first one two d) all.0.owned nodes there
          (begins_part (one ++ two) one b (λ n m. in_first n one two m)) scene)
          (λ x mid h. turn rest_so (with_trail (Spot (node_of condition).number points.Decides ∷ mid.trail) mid) h.0 (is_true (number_of x)))

  -- ---- by labels

  picked_comes : {A : Type 0} (labels : List Label) (x : Value) (holds fails : Does A) (P : A → World → Type 0) (s : State) →
      ((now : State) → now.world ≡ s.world → Comes P NoExit (holds now)) → ((now : State) → now.world ≡ s.world → Comes P NoExit (fails now)) →
      Comes P NoExit (picked labels x holds fails s)
  picked_comes [] x holds fails P s h g = g s refl
  picked_comes (label ∷ labels) x holds fails P s h g =
      by (fits_label label x) (h (worked (label_work label) s) refl) (picked_comes labels x holds fails P (worked (label_work label) s) h g)
    where
      by : (c : Bool) → Comes P NoExit (holds (worked (label_work label) s)) → Comes P NoExit (picked labels x holds fails (worked (label_work label) s)) →
          Comes P NoExit (branch c holds (picked labels x holds fails) (worked (label_work label) s))
      by true so others_so = so
      by false so others_so = others_so

  -- no branch is chosen
  none_so : (ty : Option Ty) → IfSimple here.facts ty → (ns nodes : List ℕ) (s : State) (b : Parts_from ns nodes s.world) →
      Chosen ty ns nodes b.territory.blocks s.world (default_for here.facts ty) s.world
  none_so ty simple ns nodes s b = by (gives_hooked here.facts ty) refl
    where
      begun : Stage (at_nodes here.level ns) [] os first places nodes b.territory.blocks s.world s.world
      begun = stage_begins b.territory tt b.active

      blank_so : (o : Option Ty) → IfSimple here.facts o → (world : World) (x : Extent) → Has world x (form_for here.facts o) (default_for here.facts o) []
      blank_so None simple world x = a_number
      blank_so (Some t) simple world x = blank_has world x (form_of here.facts t) (subst HasBlocksAlone (sym (the_form simple.has)) simple.blocks)

      by : (c : Bool) → gives_hooked here.facts ty ≡ c →
          Branched c (form_for here.facts ty) here.level first places ns nodes os b.territory.blocks s.world (default_for here.facts ty) s.world
      by false e = (record { later = nodes; leaves = leaves_none b.distinct; stage = begun }, λ world. blank_so ty simple world Constant)
      by true e = record {
        later = nodes;
        leaves = leaves_none b.distinct;
        holding = hold_bare here.facts (at_nodes here.level ns) [] os first places nodes b.territory.blocks s.world begun (blank_so ty simple s.world Full);
      }

  pub picked_so : (covered : Bool) (labels : List (List Label)) (values : Args) (x : Value) (ty : Option Ty) → IfSimple here.facts ty → (enough : Bool) →
      values_fit here.facts ty enough labels (types_in values) ≡ true → are_placed 0 values ≡ true → Distinct (operand_nodes values) → AllParts values →
      (nodes : List ℕ) (s : State) (b : Parts_from (operand_nodes values) nodes s.world) → Sees here scope limits root first places os s.world →
      Comes (Chosen ty (operand_nodes values) nodes b.territory.blocks s.world) NoExit (picked_value covered labels values x ty here s)
  picked_so covered labels NoArg x ty simple enough typed placed d all nodes s b scene = none_so ty simple [] nodes s b
  picked_so covered labels (ByPath path rest) x ty simple enough typed placed d all nodes s b scene = absurd (false≢true placed)
  picked_so covered [] (ByValue value NoArg) x ty simple enough typed placed d all nodes s b scene =
      let ns = value_nodes value in
      comes_weaker (Chosen ty ns nodes b.territory.blocks s.world) NoExit (Chosen ty (ns ++ []) nodes b.territory.blocks s.world) NoExit
      (branch_value here value (λ how. eval value how here) s)
      (branch_of ty value typed (distinct_first ns [] d) all.0 nodes s (begins_part (ns ++ []) ns b (λ n m. in_first n ns [] m)) scene)
      (λ v now h. chosen_wider (gives_hooked here.facts ty) (form_for here.facts ty) (ns ++ []) ns nodes b.territory.blocks s.world v now
      (λ n m. in_first n ns [] m) h) (λ way now q. q)
  picked_so covered [] (ByValue value (ByValue other rest)) x ty simple enough typed placed d all nodes s b scene = absurd (false≢true typed)
  picked_so covered [] (ByValue value (ByPath path rest)) x ty simple enough typed placed d all nodes s b scene = absurd (false≢true typed)
  picked_so covered (these ∷ labels) (ByValue value rest) x ty simple enough typed placed d all nodes s b scene =
      chosen (λ now b scene. picked_so covered labels rest x ty simple enough parts.1 placed (distinct_second one two d) all.1 nodes now b scene)
    where
      one : List ℕ
      one = value_nodes value

      two : List ℕ
      two = operand_nodes rest

      hooks : Bool
      hooks = gives_hooked here.facts ty

      f : Form
      f = form_for here.facts ty

      parts : (same_value (type_of value) ty ≡ true) × (values_fit here.facts ty enough labels (types_in rest) ≡ true)
      parts = and_parts (same_value (type_of value) ty) (values_fit here.facts ty enough labels (types_in rest)) typed

      -- in another state of the same world
      Q : (now : State) → Parts_from (one ++ two) nodes now.world → Value → World → Type 0
      Q now c = Chosen ty (one ++ two) nodes c.territory.blocks now.world

      Rest : Type 0
      Rest = (now : State) (b : Parts_from two nodes now.world) → Sees here scope limits root first places os now.world →
          Comes (Chosen ty two nodes b.territory.blocks now.world) NoExit (picked_value covered labels rest x ty here now)

      this : (now : State) (c : Parts_from (one ++ two) nodes now.world) → Sees here scope limits root first places os now.world →
          Comes (Q now c) NoExit (branch_value here value (λ how. eval value how here) now)
      this now c sees =
          comes_weaker (Chosen ty one nodes c.territory.blocks now.world) NoExit (Q now c) NoExit (branch_value here value (λ how. eval value how here) now)
          (branch_of ty value parts.0 (distinct_first one two d) all.0 nodes now (begins_part (one ++ two) one c (λ n m. in_first n one two m)) sees)
          (λ v last h. chosen_wider hooks f (one ++ two) one nodes c.territory.blocks now.world v last (λ n m. in_first n one two m) h) (λ way last q. q)

      others : Rest → (now : State) (c : Parts_from (one ++ two) nodes now.world) → Sees here scope limits root first places os now.world →
          Comes (Q now c) NoExit (picked_value covered labels rest x ty here now)
      others rest_so now c sees =
          comes_weaker (Chosen ty two nodes c.territory.blocks now.world) NoExit (Q now c) NoExit (picked_value covered labels rest x ty here now)
          (rest_so now (begins_part (one ++ two) two c (λ n m. in_second n one two m)) sees)
          (λ v last h. chosen_wider hooks f (one ++ two) two nodes c.territory.blocks now.world v last (λ n m. in_second n one two m) h) (λ way last q. q)

      last_or : Rest → (covered_last : Bool) (now : State) (c : Parts_from (one ++ two) nodes now.world) →
          Sees here scope limits root first places os now.world →
          Comes (Q now c) NoExit (branch covered_last (branch_value here value (λ how. eval value how here)) (picked_value covered labels rest x ty here) now)
      last_or rest_so true now c sees = this now c sees
      last_or rest_so false now c sees = others rest_so now c sees

      HereOf : World → Type 0
      HereOf w = (c : Parts_from (one ++ two) nodes w) × (Sees here scope limits root first places os w ×
          ((v : Value) (last : World) → Chosen ty (one ++ two) nodes c.territory.blocks w v last → Q s b v last))

      first_one : HereOf s.world
      first_one = (b, (scene, λ v last h. h))

      there : (now : State) → now.world ≡ s.world → HereOf now.world
      there now e = subst (λ w. HereOf w) (sym e) first_one

      chosen : Rest → Comes (Q s b) NoExit (picked these x (branch_value here value (λ how. eval value how here))
          (branch (covered && is_last_value rest) (branch_value here value (λ how. eval value how here)) (picked_value covered labels rest x ty here)) s)
      chosen rest_so =
          picked_comes these x (branch_value here value (λ how. eval value how here))
          (branch (covered && is_last_value rest) (branch_value here value (λ how. eval value how here)) (picked_value covered labels rest x ty here)) (Q s b) s
          (λ now e. let h = there now e in
          comes_weaker (Q now h.0) NoExit (Q s b) NoExit (branch_value here value (λ how. eval value how here) now) (this now h.0 h.1.0)
          (λ v last q. h.1.1 v last q) (λ way last q. q))
          (λ now e. let h = there now e in
          comes_weaker (Q now h.0) NoExit (Q s b) NoExit (branch (covered && is_last_value rest) (branch_value here value (λ how. eval value how here))
          (picked_value covered labels rest x ty here) now) (last_or rest_so (covered && is_last_value rest) now h.0 h.1.0)
          (λ v last q. h.1.1 v last q) (λ way last q. q))
