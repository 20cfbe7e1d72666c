-- No more values may wait in a program than it has parts: one for each node at most.
use Rattle.std.proofs.Common.{◌≡◌, ℕ, suc, ◌+◌, ◌≤◌, Bool, true, false, List, [], ◌∷◌, ◌++◌, Option, Some, None, map, ap, arith}
use Rattle.std.specs.Prelude.{if◌then◌else◌}
use Rattle.nim_types.specs.Types.{Ty, Facts}
use Rattle.nim_program.specs.declared.expr.Node.{Node}
use Rattle.nim_program.specs.declared.operation.Use.{Use}
use Rattle.nim_plan.specs.declared.plan.Plan.{Plan}
use Rattle.nim_program.specs.declared.program.HookOf.{HookOf}
use Rattle.nim_program.specs.declared.program.Mode.{Mode}
use Rattle.nim_program.specs.Program.{Act, Giving, ByConditions, ByLabels, Literal, Expr, Apply, Read, Early, Choose, Path, Variable, Fresh, Field, Element}
use Rattle.nim_program.specs.Program.{Deref}
use Rattle.nim_program.specs.Program.{Args, NoArg, ByValue, ByPath, type_of, node_of, type_at, node_at, constant_in, Declared}
use Rattle.nim_program.specs.Program.{Kind, While, Count, Each as OfEach, Stmt, Do, Idle, Give, Leave, Select, Loop, Raise, Try}
use Rattle.nim_program.specs.Program.{Stmts, Empty, Then, Declare, Defer, Blocks, Otherwise, Block, Param, Body, Proc, Program}
use Rattle.nim_program.specs.Folds.{numbers, lists, begun_by, if_constant, in_turn, each, each_block, total, total_at, totals, total_in, total_of}
use Rattle.nim_program.specs.Folds.{Seen, Acting, own_places, if_body, in_procs}
use Rattle.nim_program.specs.Uses.{use_of}
use Rattle.nim_program.proofs.ForCallers.{in_turn_sum, sum_of_blocks}
use Rattle.nim_meaning.specs.Here.{is_hooked}
use Rattle.flat_code.specs.declared.place.PlaceKind.{PlaceKind}
use Rattle.flat_code.specs.declared.place.PlaceKind.TheVariants as K
use Rattle.flat_code.specs.declared.place.FlatPlace.{FlatPlace}
use Rattle.flat_code.specs.declared.code.CodeProc.{CodeProc}
use Rattle.flat_code.specs.declared.line.Line.{Line}
use Rattle.flat_code.specs.Codes.{and_waits, waiting_in, places_of}
use Rattle.flattening.specs.Counted.{part_parts, own_parts, body_parts, program_parts, places_waiting}
use Rattle.flattening.specs.ExprLines.{is_lent_at}
use Rattle.flattening.specs.Flattened.{modes_of}
use Rattle.flattening.specs.Given.{flat_body, flat_proc, flat_of}
use Rattle.flattening.specs.Numbering.{width, width_at, widths, arm_count, selector_from, behind_selector, width_in, width_of}
use Rattle.flattening.specs.Places.{kind_of_path, head_from, temporary, value_at, location, lent_place, selector_place, expr_places, path_places}
use Rattle.flattening.specs.Places.{operand_places, part_places, loop_places, value_places, behind_value, stmt_places, block_places, branch_places, arm_places}
use Rattle.flattening.specs.Places.{own_declared, param_places, result_places, body_places, waits_by}
use Rattle.flattening.proofs.Declared.{Likes, block_like}

part_one : (act : Act) → 1 ≤ part_parts (Acting act)
part_one (Giving literal) = omega arith
part_one act = omega arith

module _ (types : List Ty) (facts : Facts) (modes : (proc position : ℕ) → Mode) where
  abbrev held : List FlatPlace → ℕ
  held = waiting_in

  -- as many as some places and others
  both : (ps qs : List FlatPlace) → held (ps ++ qs) ≡ held ps + held qs
  both [] qs = omega arith
  both (p ∷ ps) qs = by p.waits (both ps qs)
    where
      by : (o : Option ℕ) → held (ps ++ qs) ≡ held ps + held qs → and_waits o (held (ps ++ qs)) ≡ and_waits o (held ps) + held qs
      by None e = e
      by (Some node) e = omega (arith, e)

  -- at most so many
  abbrev pub Few : List FlatPlace → ℕ → Type 0
  Few ps n = held ps ≤ n

  few_both : (ps qs : List FlatPlace) (m n : ℕ) → Few ps m → Few qs n → Few (ps ++ qs) (m + n)
  few_both ps qs m n h k = let e = both ps qs in omega (arith, e, h, k)

  few_led : (ps qs : List FlatPlace) (n : ℕ) → Few ps 0 → Few qs n → Few (ps ++ qs) n
  few_led ps qs n h k = let e = both ps qs in omega (arith, e, h, k)

  few_more : (ps : List FlatPlace) (m n : ℕ) → Few ps m → m ≤ n → Few ps n
  few_more ps m n h le = omega (arith, h, le)

  -- where a path leads nothing waits
  led_none : (node : Node) (ty : Option Ty) (kind : PlaceKind) (t : ℕ) → Few (temporary types facts modes node ty kind t) 0
  led_none node None kind t = omega arith
  led_none node (Some ty) kind t = omega arith

  value_few : (may : Bool) (node : Node) (ty : Option Ty) (t : ℕ) → Few (value_at types facts modes may node ty t) 1
  value_few may node None t = omega arith
  value_few may node (Some ty) t = by (waits_by may (is_hooked facts ty) node.number)
    where
      by : (o : Option ℕ) → and_waits o 0 ≤ 1
      by None = omega arith
      by (Some node) = omega arith

  only_read : (node : Node) (ty : Option Ty) (t : ℕ) → Few (value_at types facts modes false node ty t) 0
  only_read node None t = omega arith
  only_read node (Some ty) t = omega arith

  lent_none : (act : Act) (how : Use) (value : Expr) (t : ℕ) → Few (lent_place types facts modes act how value t) 0
  lent_none act how value t = by (is_lent_at facts act how value)
    where
      by : (b : Bool) → Few (if b then temporary types facts modes (node_of value) (type_of value) K.Within t else []) 0
      by true = led_none (node_of value) (type_of value) K.Within t
      by false = omega arith

  pub selector_none : (parts : Args) (s : ℕ) → Few (selector_place types facts modes parts s) 0
  selector_none NoArg s = omega arith
  selector_none (ByValue value rest) s = omega arith
  selector_none (ByPath path rest) s = only_read (node_at path) (type_at path) s

  led_at : (path : Path) (t : ℕ) → Few (location types facts modes path t) 0
  led_at path t = led_none (node_at path) (type_at path) (kind_of_path path) t

  abbrev own : Seen → ℕ
  own = own_parts

  begun_few : (constant : Option Literal) (read : Bool) (value : Expr) (t : ℕ) → Few (expr_places types facts modes value t) (total numbers own value)
      → Few (if_constant constant [] (expr_places types facts modes value t))
      (if_constant constant (own (begun_by constant read value)) (own (begun_by constant read value) + total numbers own value))
  begun_few None read value t h = omega (arith, h)
  begun_few (Some literal) read value t h = omega arith

  mutual
    pub expr_few : (e : Expr) (t : ℕ) → Few (expr_places types facts modes e t) (total numbers own e)
    expr_few (Apply node ty act operands) t =
        let one = part_one act in
        let h = few_both (value_at types facts modes true node ty t) (operand_places types facts modes act operands (use_of modes act) 0 (suc t)) _ _
        (value_few true node ty t) (operands_few act operands (use_of modes act) 0 (suc t)) in omega (arith, h, one)
    expr_few (Read (Variable node ty place global)) t =
        let h = few_both (value_at types facts modes true node (Some ty) t) (path_places types facts modes (Variable node ty place global) (suc t)) _ _
        (value_few true node (Some ty) t) (led_at (Variable node ty place global) (suc t)) in omega (arith, h)
    expr_few (Read (Fresh value)) t =
        few_led (value_at types facts modes false (node_of value) (type_of value) t) (path_places types facts modes (Fresh value) (suc t)) _
        (only_read (node_of value) (type_of value) t) (path_few true (Fresh value) (suc t))
    expr_few (Read (Field node ty base field)) t =
        few_both (value_at types facts modes true node (Some ty) t) (path_places types facts modes (Field node ty base field) (suc t)) _ _
        (value_few true node (Some ty) t)
        (few_led (location types facts modes (Field node ty base field) (suc t)) (path_places types facts modes base (suc (suc t))) _
        (led_at (Field node ty base field) (suc t)) (path_few false base (suc (suc t))))
    expr_few (Read (Element node ty base index constant)) t =
        few_both (value_at types facts modes true node (Some ty) t) (path_places types facts modes (Element node ty base index constant) (suc t)) _ _
        (value_few true node (Some ty) t)
        (few_led (location types facts modes (Element node ty base index constant) (suc t))
        (path_places types facts modes base (suc (suc t)) ++ expr_places types facts modes index (suc (suc t) + width_at base)) _
        (led_at (Element node ty base index constant) (suc t))
        (few_both (path_places types facts modes base (suc (suc t))) (expr_places types facts modes index (suc (suc t) + width_at base)) _ _
        (path_few false base (suc (suc t))) (expr_few index (suc (suc t) + width_at base))))
    expr_few (Read (Deref ty base)) t =
        few_led (value_at types facts modes false (node_at base) (Some ty) t) (path_places types facts modes (Deref ty base) (suc t)) _
        (only_read (node_at base) (Some ty) t) (path_few true (Deref ty base) (suc t))
    expr_few (Early node ty short left right) t =
        few_both (value_at types facts modes true node (Some ty) t)
        (expr_places types facts modes left (suc t) ++ expr_places types facts modes right (suc t + width left)) _ _ (value_few true node (Some ty) t)
        (few_both (expr_places types facts modes left (suc t)) (expr_places types facts modes right (suc t + width left)) _ _
        (expr_few left (suc t)) (expr_few right (suc t + width left)))
    expr_few (Choose node ty ByConditions parts) t =
        few_both (value_at types facts modes true node ty t) (part_places types facts modes parts (suc t)) _ _ (value_few true node ty t)
        (parts_few parts (suc t))
    expr_few (Choose node ty (ByLabels labels) parts) t =
        let s = suc t + arm_count (ByLabels labels) in
        let h = few_both (value_at types facts modes true node ty t)
        (selector_place types facts modes parts s ++ part_places types facts modes parts (selector_from parts s)) _ _ (value_few true node ty t)
        (few_led (selector_place types facts modes parts s) (part_places types facts modes parts (selector_from parts s)) _ (selector_none parts s)
        (parts_few parts (selector_from parts s))) in omega (arith, h)

    pub path_few : (read : Bool) (path : Path) (t : ℕ) → Few (path_places types facts modes path t) (total_at numbers own read path)
    path_few read (Variable node ty place global) t =
        few_more (location types facts modes (Variable node ty place global) t) 0 _ (led_at (Variable node ty place global) t) (omega arith)
    path_few read (Fresh value) t =
        few_led (location types facts modes (Fresh value) t) (if_constant (constant_in value) [] (expr_places types facts modes value (suc t))) _
        (led_at (Fresh value) t) (begun_few (constant_in value) read value (suc t) (expr_few value (suc t)))
    path_few read (Field node ty base field) t =
        few_more (path_places types facts modes (Field node ty base field) t) (total_at numbers own false base) _
        (few_led (location types facts modes (Field node ty base field) t) (path_places types facts modes base (suc t)) _
        (led_at (Field node ty base field) t) (path_few false base (suc t))) (omega arith)
    path_few read (Element node ty base index constant) t =
        few_more (path_places types facts modes (Element node ty base index constant) t) (total_at numbers own false base + total numbers own index) _
        (few_led (location types facts modes (Element node ty base index constant) t)
        (path_places types facts modes base (suc t) ++ expr_places types facts modes index (suc t + width_at base)) _
        (led_at (Element node ty base index constant) t)
        (few_both (path_places types facts modes base (suc t)) (expr_places types facts modes index (suc t + width_at base)) _ _
        (path_few false base (suc t)) (expr_few index (suc t + width_at base)))) (omega arith)
    path_few read (Deref ty base) t =
        few_more (path_places types facts modes (Deref ty base) t) (total_at numbers own false base) _
        (few_led (location types facts modes (Deref ty base) t) (path_places types facts modes base (suc t)) _
        (led_at (Deref ty base) t) (path_few false base (suc t))) (omega arith)

    operands_few : (act : Act) (args : Args) (uses : ℕ → Use) (i t : ℕ) → Few (operand_places types facts modes act args uses i t) (totals numbers own args)
    operands_few act NoArg uses i t = omega arith
    operands_few act (ByValue value rest) uses i t =
        few_both (expr_places types facts modes value t)
        (lent_place types facts modes act (uses i) value t ++ operand_places types facts modes act rest uses (suc i) (t + width value)) _ _ (expr_few value t)
        (few_led (lent_place types facts modes act (uses i) value t) (operand_places types facts modes act rest uses (suc i) (t + width value)) _
        (lent_none act (uses i) value t) (operands_few act rest uses (suc i) (t + width value)))
    operands_few act (ByPath path rest) uses i t =
        few_both (path_places types facts modes path t) (operand_places types facts modes act rest uses (suc i) (t + width_at path)) _ _
        (path_few false path t) (operands_few act rest uses (suc i) (t + width_at path))

    pub parts_few : (args : Args) (t : ℕ) → Few (part_places types facts modes args t) (totals numbers own args)
    parts_few NoArg t = omega arith
    parts_few (ByValue value rest) t =
        few_both (expr_places types facts modes value t) (part_places types facts modes rest (t + width value)) _ _ (expr_few value t)
        (parts_few rest (t + width value))
    parts_few (ByPath path rest) t =
        few_both (path_places types facts modes path t) (part_places types facts modes rest (t + width_at path)) _ _ (path_few false path t)
        (parts_few rest (t + width_at path))

  -- ---- statements

  pub loop_none : (node : Node) (kind : Kind) (head : Args) (t : ℕ) → Few (loop_places types facts modes node kind head t) 0
  loop_none node While head t = omega arith
  loop_none node (Count variable inclusive) head t = omega arith
  loop_none node (OfEach variable) head t = omega arith

  pub declared_few : (value : Args) (t : ℕ) → Few (value_places types facts modes value t) (totals numbers own value)
  declared_few NoArg t = omega arith
  declared_few (ByValue value rest) t = few_more (expr_places types facts modes value t) _ _ (expr_few value t) (omega arith)
  declared_few (ByPath path rest) t = omega arith

  mutual
    pub stmt_few : (s : Stmt) (t : ℕ) → Few (stmt_places types facts modes s t) (total_in numbers own s)
    stmt_few (Do value) t = expr_few value t
    stmt_few (Idle node parts) t = omega arith
    stmt_few (Give node back value) t = few_more (expr_places types facts modes value (suc t)) _ _ (expr_few value (suc t)) (omega arith)
    stmt_few (Leave node leaving parts) t = omega arith
    stmt_few (Select node ByConditions tests blocks) t =
        few_more (branch_places types facts modes tests blocks (suc t)) _ _ (branch_few tests blocks (suc t)) (omega arith)
    stmt_few (Select node (ByLabels labels) tests blocks) t =
        let u = suc t + arm_count (ByLabels labels) in
        let j = in_turn_sum own tests blocks in
        let h = few_led (selector_place types facts modes tests u)
        (part_places types facts modes tests (selector_from tests u) ++ arm_places types facts modes blocks (behind_selector tests u))
        (totals numbers own tests + sum_of_blocks numbers own blocks) (selector_none tests u)
        (few_both (part_places types facts modes tests (selector_from tests u)) (arm_places types facts modes blocks (behind_selector tests u)) _ _
        (parts_few tests (selector_from tests u)) (arms_few blocks (behind_selector tests u))) in
        omega (arith, h, j)
    stmt_few (Loop node kind head body) t =
        let h = few_led (loop_places types facts modes node kind head t)
        (part_places types facts modes head (head_from kind t) ++ block_places types facts modes body (head_from kind t + widths head)) _
        (loop_none node kind head t)
        (few_both (part_places types facts modes head (head_from kind t)) (block_places types facts modes body (head_from kind t + widths head)) _ _
        (parts_few head (head_from kind t)) (block_few body (head_from kind t + widths head))) in
        omega (arith, h)
    stmt_few (Raise node exception message) t = omega arith
    stmt_few (Try node body handlers last) t = omega arith

    pub block_few : (b : Stmts) (t : ℕ) → Few (block_places types facts modes b t) (total_of numbers own b)
    block_few Empty t = omega arith
    block_few (Then first rest) t =
        few_both (stmt_places types facts modes first t) (block_places types facts modes rest (t + width_in first)) _ _ (stmt_few first t)
        (block_few rest (t + width_in first))
    block_few (Declare node place cursor value rest) t =
        let h = few_both (value_places types facts modes value (suc t)) (block_places types facts modes rest (behind_value types facts modes value t)) _ _
        (declared_few value (suc t)) (block_few rest (behind_value types facts modes value t)) in
        omega (arith, h)
    block_few (Defer node last rest) t = omega arith

    branch_few : (tests : Args) (blocks : Blocks) (t : ℕ)
        → Few (branch_places types facts modes tests blocks t) (in_turn numbers (each numbers own tests) (each_block numbers own blocks))
    branch_few NoArg (Otherwise block) t = few_more (block_places types facts modes block t) _ _ (block_few block t) (omega arith)
    branch_few NoArg (Block first rest) t = few_more (block_places types facts modes first t) _ _ (block_few first t) (omega arith)
    branch_few (ByPath path tests) blocks t = omega arith
    branch_few (ByValue condition tests) (Otherwise block) t = omega arith
    branch_few (ByValue condition tests) (Block first rest) t =
        few_both (expr_places types facts modes condition t)
        (block_places types facts modes first (t + width condition)
        ++ branch_places types facts modes tests rest (t + width condition + width_of first)) _ _ (expr_few condition t)
        (few_both (block_places types facts modes first (t + width condition))
        (branch_places types facts modes tests rest (t + width condition + width_of first)) _ _
        (block_few first (t + width condition)) (branch_few tests rest (t + width condition + width_of first)))

    arms_few : (blocks : Blocks) (t : ℕ) → Few (arm_places types facts modes blocks t) (sum_of_blocks numbers own blocks)
    arms_few (Otherwise block) t = few_more (block_places types facts modes block t) _ _ (block_few block t) (omega arith)
    arms_few (Block first rest) t =
        few_both (block_places types facts modes first t) (arm_places types facts modes rest (t + width_of first)) _ _ (block_few first t)
        (arms_few rest (t + width_of first))

  -- ---- bodies

  pub likes_none : (ps : List FlatPlace) (ds : List Declared) → Likes types ps ds → Few ps 0
  likes_none [] ds h = omega arith
  likes_none (p ∷ ps) [] h = absurd h
  likes_none (p ∷ ps) (d ∷ ds) h =
      let e = ap (λ o. and_waits o (held ps)) h.0.waits in
      let rest = likes_none ps ds h.1 in
      omega (arith, e, rest)

  pub params_none : (sinks : List ℕ) (params : List Param) → Few (param_places types facts modes sinks params) 0
  params_none sinks [] = omega arith
  params_none sinks (param ∷ params) = params_none sinks params

  pub result_none : (result : Option Declared) → Few (result_places types facts modes result) 0
  result_none None = omega arith
  result_none (Some d) = omega arith

  body_few : (sinks : List ℕ) (globals : List Declared) (params : List Param) (body : Body) →
      waiting_in (body_places types facts modes sinks globals params body) ≤ body_parts body
  body_few sinks globals params body =
      let declared = total_of lists (own_declared types facts modes globals) body.stmts in
      let mine = param_places types facts modes sinks params in
      let back = result_places types facts modes body.result in
      let temporaries = block_places types facts modes body.stmts 0 in
      let h = few_led mine (back ++ (declared ++ temporaries)) (total_of numbers own body.stmts)
      (params_none sinks params)
      (few_led back (declared ++ temporaries) _ (result_none body.result)
      (few_led declared temporaries _
      (likes_none declared (total_of lists own_places body.stmts) (block_like types facts modes globals body.stmts))
      (block_few body.stmts 0))) in
      omega (arith, h)

module _ (program : Program) (plan : Plan) where
  abbrev each_places : List (CodeProc Line) → List (List FlatPlace)
  each_places = map (λ (p : CodeProc Line). p.places)

  of_body : (params : List Param) (body : Body) (hook : Option HookOf) → waiting_in (flat_body program plan hook params body).places ≤ body_parts body
  of_body params body hook =
      body_few program.types program.facts (modes_of program plan) plan.sinks program.globals params body

  of_proc : (params : List Param) (hook : Option HookOf) (body : Option Body) →
      waiting_in (flat_proc program plan hook params body).places ≤ if_body numbers body_parts body
  of_proc params hook None = omega arith
  of_proc params hook (Some body) = of_body params body hook

  procs_few : (procs : List Proc) (more : List (CodeProc Line)) →
      places_waiting (each_places (map (λ (p : Proc). flat_proc program plan p.hook p.params p.body) procs ++ more))
      ≤ in_procs numbers body_parts procs + places_waiting (each_places more)
  procs_few [] more = omega arith
  procs_few (p ∷ procs) more =
      let h = of_proc p.params p.hook p.body in
      let i = procs_few procs more in
      omega (arith, h, i)

  pub all_few : places_waiting (places_of (flat_of program plan)) ≤ program_parts program
  all_few =
      let h = procs_few program.procs (flat_body program plan None [] program.start ∷ []) in
      let i = of_body [] program.start None in
      omega (arith, h, i)
