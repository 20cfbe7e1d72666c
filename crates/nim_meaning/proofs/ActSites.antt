-- The sites of acts are those of the tree, part by part.
use Rattle.std.proofs.Common.{◌≡◌, refl, sym, ap, ap₂, ◌∙◌, append_assoc, ℕ, suc, Bool, true, false, ◌&&◌, if◌then◌else◌, List, [], ◌∷◌, ◌++◌}
use Rattle.std.proofs.Common.{Option, Some, None}
use Rattle.std.proofs.lemmas.List.{append-nil}
use Rattle.nim_types.specs.Types.{Ty, Facts}
use Rattle.nim_program.specs.declared.operation.Operation.{Operation}
use Rattle.nim_program.specs.declared.operation.Operation.TheVariants as O
use Rattle.nim_program.specs.declared.operation.Use.{Use}
use Rattle.nim_program.specs.declared.operation.Use.TheVariants.{Owned, Given, Held, Lent, Looked}
use Rattle.nim_program.specs.declared.operation.Short.{Short}
use Rattle.nim_program.specs.declared.operation.Short.TheVariants.{And, Or}
use Rattle.nim_program.specs.declared.program.Mode.{Mode}
use Rattle.nim_program.specs.declared.program.Mode.TheVariants as M
use Rattle.nim_program.specs.Program as T
use Rattle.nim_program.specs.Program.{Label, Literal, Expr, Args, Declared, Stmt, Stmts, Blocks, Param, Body, type_of, node_of, constant_in}
use Rattle.nim_program.specs.Program.{last_after, last_of}
use Rattle.nim_program.specs.Folds.{by_constant}
use Rattle.nim_program.specs.Uses.{use_of}
use Rattle.nim_meaning.specs.Shapes.{is_held, waits, waits_from, selector_type, is_covered, is_last_value, is_last_block}
use Rattle.nim_meaning.specs.Here.{is_hooked as type_hooked}
use Rattle.nim_meaning.specs.ActTree.{Root, Named, Step, Index, Path, Operands, Role, Begins, Does, Fills, Looks, Chooses, Asks, Decides, Act}
use Rattle.nim_meaning.specs.ActTree.{Choose, Loop, Arms, No_arm, Acts, Done, Then, Bind}
use Rattle.nim_meaning.specs.ActsOf.{is_hooked, one_act, used, read_act, read_acts, looked_at, all_made, bound, ended, grouped, either, early_arms, act_by}
use Rattle.nim_meaning.specs.ActsOf.{done_by, receiver, works_on, acts_of, aimed, ready_acts, first_acts, selected_acts, value_arms, filled, scope}
use Rattle.nim_meaning.specs.ActsOf.{head_acts, looked_up, element_act, site_at, condition_acts, loop_acts, selector_acts, result_act, result_root}
use Rattle.nim_meaning.specs.ActsOf.{back_or_on, left, stmt_acts, stmts_acts, first_block_acts, block_arms, owned, with_result, body_acts, all_owned}
use Rattle.nim_meaning.specs.ActsOf.{if_body}
use Rattle.nim_program.specs.declared.stmt.Leaving.{Leaving}
use Rattle.nim_program.specs.declared.stmt.Leaving.TheVariants as K
use Rattle.nim_meaning.specs.Sites.{site_of, sites_at, sites_among, sites_in}
use Rattle.nim_meaning.specs.TreeSites as tree
use Rattle.nim_meaning.specs.TreeSites.{site_if, if_site, is_taken}

-- two pieces in front of what follows
joined : (xs ys zs : List ℕ) → xs ++ (ys ++ zs) ≡ (xs ++ ys) ++ zs
joined xs ys zs = sym (append_assoc xs ys zs)

nothing_behind : {ns : List ℕ} (xs : List ℕ) → ns ≡ xs ++ [] → ns ≡ xs
nothing_behind xs e = e ∙ append-nil xs

-- ---- what has no site

bound_sites : (ns : List ℕ) (b : Acts) → sites_in (bound ns b) ≡ sites_in b
bound_sites [] b = refl
bound_sites (n ∷ ns) b = bound_sites ns b

ended_sites : (b : Acts) → sites_in (ended b) ≡ sites_in b
ended_sites b = bound_sites (all_made b) b

used_sites : (w : Bool) (n : ℕ) (rest : Acts) → sites_in (used w n rest) ≡ sites_in rest
used_sites true n rest = refl
used_sites false n rest = refl

act_sites : (operation : Operation) (operands : Args) (on : Operands) → site_of (act_by operation operands on) ≡ []
act_sites O.Assign (T.ByPath path rest) on = refl
act_sites (O.Measure measure) (T.ByPath path rest) on = refl
act_sites _ operands on = refl

done_sites : (n : ℕ) (act : T.Act) (operands : Args) (on : Operands) (rest : Acts) → sites_in (Then (done_by n act operands on) rest) ≡ sites_in rest
done_sites n (T.Doing operation) operands on rest = ap (λ ns. ns ++ sites_in rest) (act_sites operation operands on)
done_sites n (T.Building fields) operands on rest = refl
done_sites n (T.Giving literal) operands on rest = refl
done_sites n (T.Calling proc types) operands on rest = refl

looked_sites : (path : T.Path) (rest : Acts) → sites_in (looked_at path rest) ≡ sites_in rest
looked_sites (T.Variable node ty place global) rest = refl
looked_sites (T.Fresh value) rest = refl
looked_sites (T.Field node ty base field) rest = refl
looked_sites (T.Element node ty base index constant) rest = refl
looked_sites (T.Deref ty base) rest = refl

head_sites : (head : Args) (steps : List Step) → site_of (looked_up head steps) ≡ []
head_sites T.NoArg steps = refl
head_sites (T.ByValue value rest) steps = refl
head_sites (T.ByPath path rest) steps = refl

-- ---- branches

early_sites : (short : Short) (b : Acts) → sites_among (early_arms short b) ≡ sites_in b
early_sites And b = append-nil (sites_in b)
early_sites Or b = append-nil (sites_in b)

grouped_sites : (n : ℕ) (role : Role) (part rest : Acts) → sites_in (grouped n role part rest) ≡ sites_in part ++ sites_in rest
grouped_sites n role part rest = ap (λ ns. ns ++ sites_in rest) (ended_sites part)

either_sites : (n : ℕ) (role : Role) (a b : Acts) → sites_in (either n role a b) ≡ sites_in a ++ sites_in b
either_sites n role a b = append-nil (sites_in a ++ (sites_in b ++ [])) ∙ ap (λ ns. sites_in a ++ ns) (append-nil (sites_in b))

module _ (facts : Facts) (modes : (proc position : ℕ) → Mode) where
  abbrev hooked : Ty → Bool
  hooked = type_hooked facts

  -- ---- a path that is read

  site_here : (b : Bool) (how : Use) (to : Option Root) (n : ℕ) (z : Path) (rest : Acts) →
      sites_in (one_act n Does (read_act b how to n z) (used (b && is_held how) n rest)) ≡ site_if (b && is_taken how) n ++ sites_in rest
  site_here true Owned to n z rest = refl
  site_here true Given to n z rest = refl
  site_here true Held to n z rest = refl
  site_here true Lent to n z rest = refl
  site_here true Looked to n z rest = refl
  site_here false how to n z rest = refl

  read_sites : (how : Use) (to : Option Root) (path : T.Path) (rest : Acts) →
      sites_in (read_acts hooked modes how to path rest) ≡ tree.own_site facts modes path how ++ sites_in rest
  read_sites how to (T.Variable node ty place global) rest = site_here (hooked ty) how to node.number _ rest
  read_sites how to (T.Fresh value) rest = refl
  read_sites how to (T.Field node ty base field) rest = site_here (hooked ty) how to node.number _ rest
  read_sites how to (T.Element node ty base index constant) rest = site_here (hooked ty) how to node.number _ rest
  read_sites how to (T.Deref ty base) rest = refl

  constant_sites : (c : Option Literal) (more rest : Acts) (ns : List ℕ) → sites_in more ≡ ns ++ sites_in rest →
      sites_in (by_constant c (λ literal. rest) more) ≡ by_constant c (λ literal. []) ns ++ sites_in rest
  constant_sites None more rest ns e = e
  constant_sites (Some literal) more rest ns e = refl

  -- the last branch, where the labels cover the type, has none behind it
  last_pick : (covered : Bool) (labels : List (List Label)) (rest : Args) (arms : Arms) → sites_among arms ≡ tree.pick_sites facts modes labels rest →
      sites_among (if covered && is_last_value rest then No_arm else arms) ≡ tree.pick_sites facts modes labels rest
  last_pick false labels rest arms e = e
  last_pick true labels T.NoArg arms e = refl
  last_pick true labels (T.ByValue value more) arms e = e
  last_pick true labels (T.ByPath path more) arms e = e

  mutual
    pub value_sites : (how : Use) (to : Option Root) (e : Expr) (rest : Acts) →
        sites_in (acts_of hooked modes how to e rest) ≡ tree.value_sites facts modes e how ++ sites_in rest
    value_sites how to (T.Apply node ty act operands) rest =
        let on = works_on hooked modes act 0 operands in
        let own = used (is_hooked hooked modes ty && waits_from act how) node.number rest in
        operand_sites (use_of modes act) 0 (receiver operands) operands (Then (done_by node.number act operands on) own)
        ∙ ap (λ ns. tree.operand_sites facts modes operands (use_of modes act) 0 ++ ns)
        (done_sites node.number act operands on own ∙ used_sites (is_hooked hooked modes ty && waits_from act how) node.number rest)
    value_sites how to (T.Read path) rest =
        path_sites path (read_acts hooked modes how to path rest)
        ∙ ap (λ ns. tree.path_sites facts modes path ++ ns) (read_sites how to path rest)
        ∙ joined (tree.path_sites facts modes path) (tree.own_site facts modes path how) (sites_in rest)
    value_sites how to (T.Early node ty short left right) rest =
        let b = acts_of hooked modes Owned None right Done in
        value_sites Owned None left (Then (Choose node.number Chooses (early_arms short b)) rest)
        ∙ ap (λ ns. tree.value_sites facts modes left Owned ++ (ns ++ sites_in rest))
        (early_sites short b ∙ nothing_behind (tree.value_sites facts modes right Owned) (value_sites Owned None right Done))
        ∙ joined (tree.value_sites facts modes left Owned) (tree.value_sites facts modes right Owned) (sites_in rest)
    value_sites how to (T.Choose node ty T.ByConditions parts) rest =
        ap₂ (λ ms ns. ms ++ ns) (choice_sites parts) (used_sites (is_hooked hooked modes ty && waits how) node.number rest)
    value_sites how to (T.Choose node ty (T.ByLabels labels) parts) rest =
        selected_sites node.number labels parts (used (is_hooked hooked modes ty && waits how) node.number rest)
        ∙ ap (λ ns. tree.selected_sites facts modes labels parts ++ ns) (used_sites (is_hooked hooked modes ty && waits how) node.number rest)

    pub path_sites : (path : T.Path) (rest : Acts) → sites_in (aimed hooked modes path rest) ≡ tree.path_sites facts modes path ++ sites_in rest
    path_sites (T.Variable node ty place global) rest = refl
    path_sites (T.Fresh value) rest =
        constant_sites (constant_in value) (acts_of hooked modes Looked None value rest) rest (tree.value_sites facts modes value Looked)
        (value_sites Looked None value rest)
    path_sites (T.Field node ty base field) rest = path_sites base rest
    path_sites (T.Element node ty base index constant) rest =
        path_sites base (acts_of hooked modes Owned None index rest)
        ∙ ap (λ ns. tree.path_sites facts modes base ++ ns) (value_sites Owned None index rest)
        ∙ joined (tree.path_sites facts modes base) (tree.value_sites facts modes index Owned) (sites_in rest)
    path_sites (T.Deref ty base) rest = path_sites base rest

    pub operand_sites : (uses : ℕ → Use) (i : ℕ) (to : Option Root) (operands : Args) (rest : Acts) →
        sites_in (ready_acts hooked modes uses i to operands rest) ≡ tree.operand_sites facts modes operands uses i ++ sites_in rest
    operand_sites uses i to T.NoArg rest = refl
    operand_sites uses i to (T.ByValue value more) rest =
        value_sites (uses i) to value (ready_acts hooked modes uses (suc i) to more rest)
        ∙ ap (λ ns. tree.value_sites facts modes value (uses i) ++ ns) (operand_sites uses (suc i) to more rest)
        ∙ joined (tree.value_sites facts modes value (uses i)) (tree.operand_sites facts modes more uses (suc i)) (sites_in rest)
    operand_sites uses i to (T.ByPath path more) rest =
        path_sites path (ready_acts hooked modes uses (suc i) to more rest)
        ∙ ap (λ ns. tree.path_sites facts modes path ++ ns) (operand_sites uses (suc i) to more rest)
        ∙ joined (tree.path_sites facts modes path) (tree.operand_sites facts modes more uses (suc i)) (sites_in rest)

    pub choice_sites : (parts : Args) → sites_in (first_acts hooked modes parts) ≡ tree.choice_sites facts modes parts
    choice_sites T.NoArg = refl
    choice_sites (T.ByPath path rest) = refl
    choice_sites (T.ByValue last T.NoArg) = ended_sites (acts_of hooked modes Owned None last Done)
        ∙ nothing_behind (tree.value_sites facts modes last Owned) (value_sites Owned None last Done)
    choice_sites (T.ByValue condition (T.ByPath path rest)) = refl
    choice_sites (T.ByValue condition (T.ByValue value rest)) =
        let v = acts_of hooked modes Owned None value Done in
        grouped_sites (node_of condition).number Asks (acts_of hooked modes Owned None condition Done)
        (either (node_of condition).number Decides (ended v) (first_acts hooked modes rest))
        ∙ ap₂ (λ ms ns. ms ++ ns) (nothing_behind (tree.value_sites facts modes condition Owned) (value_sites Owned None condition Done))
        (either_sites (node_of condition).number Decides (ended v) (first_acts hooked modes rest)
        ∙ ap₂ (λ ms ns. ms ++ ns) (ended_sites v ∙ nothing_behind (tree.value_sites facts modes value Owned) (value_sites Owned None value Done))
        (choice_sites rest))

    pub selected_sites : (n : ℕ) (labels : List (List Label)) (parts : Args) (rest : Acts) →
        sites_in (selected_acts hooked modes n labels parts rest) ≡ tree.selected_sites facts modes labels parts ++ sites_in rest
    selected_sites n labels T.NoArg rest = refl
    selected_sites n labels (T.ByValue selector values) rest =
        value_sites Looked None selector
        (Then (Choose n Chooses (value_arms hooked modes (is_covered (type_of selector)) labels values)) rest)
        ∙ ap (λ ns. tree.value_sites facts modes selector Looked ++ (ns ++ sites_in rest)) (pick_sites (is_covered (type_of selector)) labels values)
        ∙ joined (tree.value_sites facts modes selector Looked) (tree.pick_sites facts modes labels values) (sites_in rest)
    selected_sites n labels (T.ByPath path values) rest =
        let chosen = Then (Choose n Chooses (value_arms hooked modes (is_covered (T.type_at path)) labels values)) rest in
        path_sites path (looked_at path chosen)
        ∙ ap (λ ns. tree.path_sites facts modes path ++ ns)
        (looked_sites path chosen ∙ ap (λ ns. ns ++ sites_in rest) (pick_sites (is_covered (T.type_at path)) labels values))
        ∙ joined (tree.path_sites facts modes path) (tree.pick_sites facts modes labels values) (sites_in rest)

    pub pick_sites : (covered : Bool) (labels : List (List Label)) (values : Args) →
        sites_among (value_arms hooked modes covered labels values) ≡ tree.pick_sites facts modes labels values
    pick_sites covered labels T.NoArg = refl
    pick_sites covered labels (T.ByPath path rest) = refl
    pick_sites covered [] (T.ByValue value rest) =
        append-nil (sites_in (ended (acts_of hooked modes Owned None value Done))) ∙ ended_sites (acts_of hooked modes Owned None value Done)
        ∙ nothing_behind (tree.value_sites facts modes value Owned) (value_sites Owned None value Done)
    pick_sites covered (these ∷ labels) (T.ByValue value rest) =
        ap₂ (λ ms ns. ms ++ ns) (ended_sites (acts_of hooked modes Owned None value Done)
        ∙ nothing_behind (tree.value_sites facts modes value Owned) (value_sites Owned None value Done))
        (last_pick covered labels rest (value_arms hooked modes covered labels rest) (pick_sites covered labels rest))

  -- a value with nothing behind it
  pub alone : (e : Expr) → sites_in (acts_of hooked modes Owned None e Done) ≡ tree.value_sites facts modes e Owned
  alone e = nothing_behind (tree.value_sites facts modes e Owned) (value_sites Owned None e Done)

  -- ---- loops

  scope_sites : (place : Declared) (last : ℕ) (rest : Acts) → sites_in (scope hooked modes place last rest) ≡ sites_in rest
  scope_sites place last rest = by (hooked place.of)
    where
      by : (b : Bool) → sites_in (if b then Bind (Named place.number) last rest else rest) ≡ sites_in rest
      by true = refl
      by false = refl

  condition_sites : (head : Args) → sites_in (condition_acts hooked modes head) ≡ tree.condition_sites facts modes head
  condition_sites T.NoArg = refl
  condition_sites (T.ByValue condition rest) = alone condition
  condition_sites (T.ByPath path rest) = refl

  lent_sites : (path : T.Path) (z : Root) (y : Path) → site_of (Act.Lend (site_at path) z y) ≡ if_site (site_at path)
  lent_sites (T.Variable node ty place global) z y = refl
  lent_sites (T.Fresh value) z y = refl
  lent_sites (T.Field node ty base field) z y = refl
  lent_sites (T.Element node ty base index constant) z y = refl
  lent_sites (T.Deref ty base) z y = refl

  element_sites : (variable : Declared) (head : Args) → site_of (element_act hooked modes variable head) ≡ tree.element_sites facts modes variable head
  element_sites variable T.NoArg = refl
  element_sites variable (T.ByValue value rest) = refl
  element_sites variable (T.ByPath path rest) = by (hooked variable.of) _ _ (lent_sites path _ _)
    where
      by : (b : Bool) (x : Act) (ns : List ℕ) → site_of x ≡ ns →
          site_of (if b then x else Act.Fill (Named variable.number)) ≡ (if b then ns else [])
      by true x ns e = e
      by false x ns e = refl

  loop_sites : (n : ℕ) (kind : T.Kind) (head : Args) (last : ℕ) (body rest : Acts) →
      sites_in (loop_acts hooked modes n kind head last body rest) ≡ (tree.loop_sites facts modes kind head ++ sites_in body) ++ sites_in rest
  loop_sites n T.While head last body rest =
      ap (λ ns. (ns ++ sites_in body) ++ sites_in rest) (ended_sites (condition_acts hooked modes head) ∙ condition_sites head)
  loop_sites n (T.Count variable inclusive) head last body rest =
      let turns = Then (Loop n Done (filled n Fills variable (scope hooked modes variable last body))) Done in
      grouped_sites n Begins (head_acts hooked modes head turns) rest
      ∙ ap (λ ns. ns ++ sites_in rest)
      (operand_sites (λ i. Owned) 0 None head turns
      ∙ ap (λ ns. tree.operand_sites facts modes head (λ i. Owned) 0 ++ ns)
      (append-nil (sites_in (scope hooked modes variable last body)) ∙ scope_sites variable last body))
  loop_sites n (T.Each variable) head last body rest =
      let over = tree.operand_sites facts modes head (λ i. Owned) 0 in
      let at = tree.element_sites facts modes variable head in
      let inner = scope hooked modes variable last body in
      let gets = one_act n Fills (element_act hooked modes variable head) inner in
      let turn = one_act n Does (looked_up head (Index None ∷ [])) gets in
      let turns = Then (Loop n Done turn) Done in
      let all = one_act n Looks (looked_up head []) turns in
      let turn_sites = ap (λ ns. ns ++ sites_in gets) (head_sites head (Index None ∷ []))
      ∙ ap₂ (λ ms ns. ms ++ ns) (element_sites variable head) (scope_sites variable last body) in
      let all_sites = ap (λ ns. ns ++ sites_in turns) (head_sites head []) ∙ append-nil (sites_in turn) ∙ turn_sites in
      grouped_sites n Begins (head_acts hooked modes head all) rest
      ∙ ap (λ ns. ns ++ sites_in rest)
      (operand_sites (λ i. Owned) 0 None head all ∙ ap (λ ns. over ++ ns) all_sites ∙ joined over at (sites_in body))

  selector_sites : (tests : Args) (rest : Acts) → sites_in (selector_acts hooked modes tests rest) ≡ tree.selector_sites facts modes tests ++ sites_in rest
  selector_sites T.NoArg rest = refl
  selector_sites (T.ByValue selector more) rest = value_sites Looked None selector rest
  selector_sites (T.ByPath path more) rest =
      path_sites path (looked_at path rest) ∙ ap (λ ns. tree.path_sites facts modes path ++ ns) (looked_sites path rest)

  -- ---- statements

  last_arm : (covered : Bool) (labels : List (List Label)) (rest : Blocks) (arms : Arms) → sites_among arms ≡ tree.arm_sites facts modes labels rest →
      sites_among (if covered && is_last_block rest then No_arm else arms) ≡ tree.arm_sites facts modes labels rest
  last_arm false labels rest arms e = e
  last_arm true labels (T.Otherwise T.Empty) arms e = refl
  last_arm true labels (T.Otherwise (T.Then first more)) arms e = e
  last_arm true labels (T.Otherwise (T.Declare node place cursor value more)) arms e = e
  last_arm true labels (T.Otherwise (T.Defer node last more)) arms e = e
  last_arm true labels (T.Block first more) arms e = e

  back_sites : (back : Bool) (n : ℕ) → sites_in (back_or_on back n) ≡ []
  back_sites true n = refl
  back_sites false n = refl

  result_sites : (result : Option Declared) → site_of (result_act result) ≡ []
  result_sites None = refl
  result_sites (Some place) = refl

  left_sites : (leaving : Leaving) (n : ℕ) → sites_at (left leaving n) ≡ []
  left_sites K.Break n = refl
  left_sites K.Continue n = refl
  left_sites K.Return n = refl

  module _ (result : Option Declared) where
    mutual
      pub stmt_sites : (s : Stmt) (rest : Acts) → sites_in (stmt_acts hooked modes result s rest) ≡ tree.stmt_sites facts modes s ++ sites_in rest
      stmt_sites (T.Do value) rest =
          grouped_sites (node_of value).number Begins (acts_of hooked modes Owned None value Done) rest ∙ ap (λ ns. ns ++ sites_in rest) (alone value)
      stmt_sites (T.Idle node parts) rest = refl
      stmt_sites (T.Give node back value) rest =
          let behind = one_act node.number Does (result_act result) (back_or_on back node.number) in
          grouped_sites node.number Begins (acts_of hooked modes Given (result_root result) value behind) rest
          ∙ ap (λ ns. ns ++ sites_in rest)
          (value_sites Given (result_root result) value behind
          ∙ ap₂ (λ ms ns. tree.value_sites facts modes value Given ++ (ms ++ ns)) (result_sites result) (back_sites back node.number)
          ∙ append-nil (tree.value_sites facts modes value Given))
      stmt_sites (T.Leave node leaving parts) rest = ap (λ ns. ns ++ sites_in rest) (left_sites leaving node.number)
      stmt_sites (T.Select node T.ByConditions tests blocks) rest = ap (λ ns. ns ++ sites_in rest) (branch_sites tests blocks)
      stmt_sites (T.Select node (T.ByLabels labels) tests blocks) rest =
          let arms = block_arms hooked modes result (is_covered (selector_type tests)) labels blocks in
          let chosen = Then (Choose node.number Chooses arms) Done in
          grouped_sites node.number Begins (selector_acts hooked modes tests chosen) rest
          ∙ ap (λ ns. ns ++ sites_in rest)
          (selector_sites tests chosen
          ∙ ap (λ ns. tree.selector_sites facts modes tests ++ ns)
          (append-nil (sites_among arms) ∙ arm_sites (is_covered (selector_type tests)) labels blocks))
      stmt_sites (T.Loop node kind head body) rest =
          loop_sites node.number kind head (last_of body) (stmts_acts hooked modes result body) rest
          ∙ ap (λ ns. (tree.loop_sites facts modes kind head ++ ns) ++ sites_in rest) (block_sites body)
      stmt_sites (T.Raise node exception message) rest = refl
      stmt_sites (T.Try node body handlers last) rest = refl

      pub block_sites : (b : Stmts) → sites_in (stmts_acts hooked modes result b) ≡ tree.block_sites facts modes b
      block_sites T.Empty = refl
      block_sites (T.Then first rest) =
          stmt_sites first (stmts_acts hooked modes result rest) ∙ ap (λ ns. tree.stmt_sites facts modes first ++ ns) (block_sites rest)
      block_sites (T.Declare node place cursor T.NoArg rest) =
          scope_sites place (last_after node.number rest) (stmts_acts hooked modes result rest) ∙ block_sites rest
      block_sites (T.Declare node place cursor (T.ByValue value more) rest) =
          let fill = filled node.number Does place Done in
          grouped_sites node.number Begins (acts_of hooked modes Given (Some (Named place.number)) value fill)
          (scope hooked modes place (last_after node.number rest) (stmts_acts hooked modes result rest))
          ∙ ap₂ (λ ms ns. ms ++ ns)
          (value_sites Given (Some (Named place.number)) value fill ∙ append-nil (tree.value_sites facts modes value Given))
          (scope_sites place (last_after node.number rest) (stmts_acts hooked modes result rest) ∙ block_sites rest)
      block_sites (T.Declare node place cursor (T.ByPath path more) rest) = refl
      block_sites (T.Defer node last rest) = refl

      pub branch_sites : (tests : Args) (blocks : Blocks) →
          sites_in (first_block_acts hooked modes result tests blocks) ≡ tree.branch_sites facts modes tests blocks
      branch_sites T.NoArg (T.Otherwise block) = block_sites block
      branch_sites T.NoArg (T.Block first more) = block_sites first
      branch_sites (T.ByPath path rest) blocks = refl
      branch_sites (T.ByValue condition rest) (T.Otherwise block) = refl
      branch_sites (T.ByValue condition rest) (T.Block first more) =
          grouped_sites (node_of condition).number Asks (acts_of hooked modes Owned None condition Done)
          (either (node_of condition).number Decides (stmts_acts hooked modes result first) (first_block_acts hooked modes result rest more))
          ∙ ap₂ (λ ms ns. ms ++ ns) (alone condition)
          (either_sites (node_of condition).number Decides (stmts_acts hooked modes result first) (first_block_acts hooked modes result rest more)
          ∙ ap₂ (λ ms ns. ms ++ ns) (block_sites first) (branch_sites rest more))

      pub arm_sites : (covered : Bool) (labels : List (List Label)) (blocks : Blocks) →
          sites_among (block_arms hooked modes result covered labels blocks) ≡ tree.arm_sites facts modes labels blocks
      arm_sites covered labels (T.Otherwise block) = append-nil (sites_in (stmts_acts hooked modes result block)) ∙ block_sites block
      arm_sites covered [] (T.Block first rest) = append-nil (sites_in (stmts_acts hooked modes result first)) ∙ block_sites first
      arm_sites covered (these ∷ labels) (T.Block first rest) =
          ap₂ (λ ms ns. ms ++ ns) (block_sites first)
          (last_arm covered labels rest (block_arms hooked modes result covered labels rest) (arm_sites covered labels rest))

  -- ---- bodies

  pub body_sites : (body : Body) → sites_in (body_acts hooked modes body) ≡ tree.block_sites facts modes body.stmts
  body_sites body = by body.result ∙ block_sites body.result body.stmts
    where
      inner : Acts
      inner = stmts_acts hooked modes body.result body.stmts

      by : (place : Option Declared) → sites_in (with_result hooked modes place (last_of body.stmts) inner) ≡ sites_in inner
      by None = refl
      by (Some place) = whether (hooked place.of)
        where
          whether : (b : Bool) → sites_in (if b then Acts.Result (Named place.number) (last_of body.stmts) inner else inner) ≡ sites_in inner
          whether true = refl
          whether false = refl

  module _ (in_body : (proc position : ℕ) → Mode) where
    owned_sites : (mode : Mode) (param : Param) (last : ℕ) (rest : Acts) → sites_in (owned hooked modes mode param last rest) ≡ sites_in rest
    owned_sites M.Plain param last rest = refl
    owned_sites M.Sink param last rest = scope_sites param.place last rest
    owned_sites M.Var param last rest = refl

    all_sites : (proc i : ℕ) (params : List Param) (last : ℕ) (rest : Acts) →
        sites_in (all_owned hooked modes in_body proc i params last rest) ≡ sites_in rest
    all_sites proc i [] last rest = refl
    all_sites proc i (param ∷ more) last rest =
        owned_sites (in_body proc i) param last (all_owned hooked modes in_body proc (suc i) more last rest) ∙ all_sites proc (suc i) more last rest

    pub if_body_sites : (proc : ℕ) (params : List Param) (body : Option Body) →
        sites_in (if_body hooked modes in_body proc params body) ≡ tree.sites_if_body facts modes body
    if_body_sites proc params None = refl
    if_body_sites proc params (Some body) = all_sites proc 0 params (last_of body.stmts) (body_acts hooked modes body) ∙ body_sites body
