-- The nodes at which values of a body wait are nodes of its text, in the order of text, so no two are the same.
use Rattle.std.proofs.Common.{◌≡◌, ℕ, suc, ◌+◌, ◌<◌, ◌≤◌, ◌⊎◌, inl, inr, Bool, true, false, List, [], ◌∷◌, ◌++◌, Option, Some, None, refl, sym, ap, ◌∙◌, subst}
use Rattle.std.proofs.Common.{arith}
use Rattle.std.specs.Prelude.{◌&&◌, ◌||◌, not, nat_le, if◌then◌else◌, map}
use Rattle.std.proofs.lemmas.Bool.{and_parts, and_from, leb-true, ne_eqb}
use Rattle.std.proofs.lemmas.List.{append-nil}
use Rattle.nim_types.specs.Types.{Ty, Facts}
use Rattle.nim_program.specs.declared.expr.Node.{Node}
use Rattle.nim_program.specs.declared.operation.Use.{Use}
use Rattle.nim_program.specs.declared.program.Mode.{Mode}
use Rattle.nim_program.specs.Program.{Act, ByConditions, ByLabels, Literal, Expr, Apply, Read, Early, Choose, Path, Variable, Fresh, Field, Element, Deref}
use Rattle.nim_program.specs.Program.{Args, NoArg, ByValue, ByPath, type_of, node_of, type_at, node_at, constant_in, Declared}
use Rattle.nim_program.specs.Program.{Kind, While, Count, Each as OfEach, Stmt, Do, Idle, Give, Leave, Select, Loop, Raise, Try}
use Rattle.nim_program.specs.Program.{Stmts, Empty, Then, Declare, Defer, Blocks, Otherwise, Block, Param, Body, Proc, Program}
use Rattle.nim_program.specs.declared.program.HookOf.{HookOf}
use Rattle.nim_plan.specs.declared.plan.Plan.{Plan}
use Rattle.nim_program.specs.Folds.{lists, node_numbers, begun_by, if_constant, together, in_turn, each, each_block, total, total_at, totals, total_in}
use Rattle.nim_program.specs.Folds.{total_of}
use Rattle.nim_program.specs.Folds.{block_nodes, own_places}
use Rattle.nim_program.specs.declared.nodes.TheConstants.{MOST_NODES}
use Rattle.nim_program.specs.Numbering.{rise_to, is_numbered, is_numbered_if, are_numbered, is_numbered_program}
use Rattle.nim_program.specs.Uses.{use_of}
use Rattle.nim_meaning.specs.Here.{is_hooked}
use Rattle.flat_code.specs.declared.place.PlaceKind.{PlaceKind}
use Rattle.flat_code.specs.declared.place.PlaceKind.TheVariants as K
use Rattle.flat_code.specs.declared.place.FlatPlace.{FlatPlace}
use Rattle.flat_code.specs.Codes.{places_of}
use Rattle.flat_code.specs.BuiltCode.{is_temporary}
use Rattle.flat_code.specs.Waits.{is_node, any_waits, waits_alone, wait_once, AllWaitOnce}
use Rattle.flat_code.specs.declared.code.CodeProc.{CodeProc}
use Rattle.flat_code.specs.declared.line.Line.{Line}
use Rattle.flattening.specs.ExprLines.{is_lent_at}
use Rattle.flattening.specs.Numbering.{width, width_at, widths, arm_count, selector_from, behind_selector, width_in, width_of}
use Rattle.flattening.specs.Places.{kind_of_path, head_from, waits_by, temporary, value_at, location, lent_place, selector_place, expr_places, path_places}
use Rattle.flattening.specs.Places.{operand_places, part_places, loop_places, value_places, behind_value, stmt_places, block_places, branch_places, arm_places}
use Rattle.flattening.specs.Places.{own_declared, param_places, result_places, body_places}
use Rattle.flattening.specs.Flattened.{modes_of}
use Rattle.flattening.specs.Given.{flat_body, flat_proc, flat_of}
use Rattle.flattening.proofs.AlikeLines.{IsShaped, AreShaped, AreShapedBlocks, IfShaped, ProcsShaped, ProgramShaped}
use Rattle.flattening.proofs.Declared.{Likes, block_like}
use Rattle.flattening.proofs.Parts.{Each}

-- ---- numbers that stand in a list in the order of another one

abbrev pub AreAmong : List ℕ → List ℕ → Type 0
AreAmong [] ns = Unit {0}
AreAmong (m ∷ ms) [] = ⊥
AreAmong (m ∷ ms) (n ∷ ns) = ((m ≡ n) × AreAmong ms ns) ⊎ AreAmong (m ∷ ms) ns

among_later : (ms xs ns : List ℕ) → AreAmong ms ns → AreAmong ms (xs ++ ns)
among_later [] xs ns h = tt
among_later (m ∷ ms) [] ns h = h
among_later (m ∷ ms) (x ∷ xs) ns h = inr (among_later (m ∷ ms) xs ns h)

among_sooner : (ms ns xs : List ℕ) → AreAmong ms ns → AreAmong ms (ns ++ xs)
among_sooner [] ns xs h = tt
among_sooner (m ∷ ms) [] xs h = absurd h
among_sooner (m ∷ ms) (n ∷ ns) xs (inl q) = inl (q.0, among_sooner ms ns xs q.1)
among_sooner (m ∷ ms) (n ∷ ns) xs (inr q) = inr (among_sooner (m ∷ ms) ns xs q)

among_both : (ms ns ks ls : List ℕ) → AreAmong ms ns → AreAmong ks ls → AreAmong (ms ++ ks) (ns ++ ls)
among_both [] ns ks ls h k = among_later ks ns ls k
among_both (m ∷ ms) [] ks ls h k = absurd h
among_both (m ∷ ms) (n ∷ ns) ks ls (inl q) k = inl (q.0, among_both ms ns ks ls q.1 k)
among_both (m ∷ ms) (n ∷ ns) ks ls (inr q) k = inr (among_both (m ∷ ms) ns ks ls q k)

-- each is greater than the one before
abbrev Rise : ℕ → List ℕ → Type 0
Rise from [] = Unit {0}
Rise from (n ∷ ns) = (from ≤ n) × Rise (suc n) ns

rise_less : (from less : ℕ) (ns : List ℕ) → less ≤ from → Rise from ns → Rise less ns
rise_less from less [] le r = tt
rise_less from less (n ∷ ns) le r = let h = r.0 in (omega (arith, h, le), r.1)

rise_among : (from : ℕ) (ms ns : List ℕ) → Rise from ns → AreAmong ms ns → Rise from ms
rise_among from [] ns r h = tt
rise_among from (m ∷ ms) [] r h = absurd h
rise_among from (m ∷ ms) (n ∷ ns) r (inl q) =
    subst (λ k. (from ≤ k) × Rise (suc k) ms) (sym q.0) (r.0, rise_among (suc n) ms ns r.1 q.1)
rise_among from (m ∷ ms) (n ∷ ns) r (inr q) =
    let h = r.0 in rise_less (suc n) from (m ∷ ms) (omega (arith, h)) (rise_among (suc n) (m ∷ ms) ns r.1 q)

rises : (from to : ℕ) (ns : List ℕ) → rise_to from to ns ≡ true → Rise from ns
rises from to [] h = tt
rises from to (n ∷ ns) h =
    let q = and_parts (nat_le from n) (rise_to (suc n) to ns) h in (leb-true from n q.0, rises (suc n) to ns q.1)

-- ---- where values wait

abbrev and_node : Option ℕ → List ℕ → List ℕ
and_node None ns = ns
and_node (Some n) ns = n ∷ ns

abbrev pub waiting_nodes : List FlatPlace → List ℕ
waiting_nodes [] = []
waiting_nodes (p ∷ ps) = and_node p.waits (waiting_nodes ps)

-- what waits is a temporary of a type with hooks
abbrev MayWait : Option ℕ → (may : Bool) → Type 0
MayWait None may = Unit {0}
MayWait (Some n) may = may ≡ true

abbrev pub AllMay : List FlatPlace → Type 0
AllMay [] = Unit {0}
AllMay (p ∷ ps) = MayWait p.waits (is_temporary p.kind && p.hooked) × AllMay ps

-- places of a part with these nodes
pub record WaitAt (ps : List FlatPlace) (ns : List ℕ) : Type 0 where
  pub nodes : AreAmong (waiting_nodes ps) ns
  pub may : AllMay ps

nodes_both : (ps qs : List FlatPlace) → waiting_nodes (ps ++ qs) ≡ waiting_nodes ps ++ waiting_nodes qs
nodes_both [] qs = refl
nodes_both (p ∷ ps) qs = ap (and_node p.waits) (nodes_both ps qs) ∙ by p.waits
  where
    by : (o : Option ℕ) → and_node o (waiting_nodes ps ++ waiting_nodes qs) ≡ and_node o (waiting_nodes ps) ++ waiting_nodes qs
    by None = refl
    by (Some n) = refl

may_both : (ps qs : List FlatPlace) → AllMay ps → AllMay qs → AllMay (ps ++ qs)
may_both [] qs h k = k
may_both (p ∷ ps) qs h k = (h.0, may_both ps qs h.1 k)

none_wait : {ns : List ℕ} → WaitAt [] ns
none_wait = record { nodes = tt; may = tt }

infixl 10 ◌>>◌
◌>>◌ : {ps qs : List FlatPlace} {ms ns : List ℕ} → WaitAt ps ms → WaitAt qs ns → WaitAt (ps ++ qs) (ms ++ ns)
◌>>◌ {ps} {qs} {ms} {ns} a b = record {
  nodes = subst (λ ks. AreAmong ks (ms ++ ns)) (sym (nodes_both ps qs)) (among_both (waiting_nodes ps) ms (waiting_nodes qs) ns a.nodes b.nodes);
  may = may_both ps qs a.may b.may;
}

later : {ps : List FlatPlace} (ms : List ℕ) {ns : List ℕ} → WaitAt ps ns → WaitAt ps (ms ++ ns)
later {ps} ms {ns} a = record { nodes = among_later (waiting_nodes ps) ms ns a.nodes; may = a.may }

sooner : {ps : List FlatPlace} {ms : List ℕ} (ns : List ℕ) → WaitAt ps ms → WaitAt ps (ms ++ ns)
sooner {ps} {ms} ns a = record { nodes = among_sooner (waiting_nodes ps) ms ns a.nodes; may = a.may }

-- ---- at most one waits at each node

-- at none before
none_before : (node from : ℕ) (ps : List FlatPlace) → node < from → Rise from (waiting_nodes ps) → any_waits (λ q. true) node ps ≡ false
none_before node from [] less r = refl
none_before node from (p ∷ ps) less r = by p.waits r (λ k before more. none_before node k ps before more)
  where
    by : (o : Option ℕ) → Rise from (and_node o (waiting_nodes ps)) →
        ((k : ℕ) → node < k → Rise k (waiting_nodes ps) → any_waits (λ q. true) node ps ≡ false) →
        (is_node node o && true) || any_waits (λ q. true) node ps ≡ false
    by None r rest = rest from less r
    by (Some n) r rest =
        let h = r.0 in
        ap (λ b. (b && true) || any_waits (λ q. true) node ps) (ne_eqb n node (λ e. absurd (omega (arith, h, less, e))))
        ∙ rest (suc n) (omega (arith, h, less)) r.1

pub once : (from : ℕ) (ps : List FlatPlace) → Rise from (waiting_nodes ps) → AllMay ps → wait_once ps ≡ true
once from [] r may = refl
once from (p ∷ ps) r may = by p.waits r may.0 (λ k more. once k ps more may.1)
  where
    by : (o : Option ℕ) → Rise from (and_node o (waiting_nodes ps)) → MayWait o (is_temporary p.kind && p.hooked) →
        ((k : ℕ) → Rise k (waiting_nodes ps) → wait_once ps ≡ true) → waits_alone o p ps && wait_once ps ≡ true
    by None r m rest = rest from r
    by (Some n) r m rest = and_from _ _ (and_from _ _ m (ap not (none_before n (suc n) ps (omega arith) r.1))) (rest (suc n) r.1)

-- ---- parts

module _ (types : List Ty) (facts : Facts) (modes : (proc position : ℕ) → Mode) where
  -- where a path leads nothing waits
  led_waits : (node : Node) (ty : Option Ty) (kind : PlaceKind) (t : ℕ) {ns : List ℕ} → WaitAt (temporary types facts modes node ty kind t) ns
  led_waits node None kind t = none_wait
  led_waits node (Some ty) kind t = record { nodes = tt; may = (tt, tt) }

  value_waits : (may : Bool) (node : Node) (ty : Option Ty) (t : ℕ) → WaitAt (value_at types facts modes may node ty t) (node.number ∷ [])
  value_waits may node None t = none_wait
  value_waits may node (Some ty) t = record { nodes = nodes may (is_hooked facts ty); may = (may_wait may (is_hooked facts ty), tt) }
    where
      nodes : (may hooked : Bool) → AreAmong (and_node (waits_by may hooked node.number) []) (node.number ∷ [])
      nodes true true = inl (refl, tt)
      nodes true false = tt
      nodes false hooked = tt

      may_wait : (may hooked : Bool) → MayWait (waits_by may hooked node.number) hooked
      may_wait true true = refl
      may_wait true false = tt
      may_wait false hooked = tt

  only_read : (node : Node) (ty : Option Ty) (t : ℕ) {ns : List ℕ} → WaitAt (value_at types facts modes false node ty t) ns
  only_read node None t = none_wait
  only_read node (Some ty) t = record { nodes = tt; may = (tt, tt) }

  lent_waits : (act : Act) (how : Use) (value : Expr) (t : ℕ) {ns : List ℕ} → WaitAt (lent_place types facts modes act how value t) ns
  lent_waits act how value t {ns} = by (is_lent_at facts act how value)
    where
      by : (b : Bool) → WaitAt (if b then temporary types facts modes (node_of value) (type_of value) K.Within t else []) ns
      by true = led_waits (node_of value) (type_of value) K.Within t
      by false = none_wait

  selector_waits : (parts : Args) (s : ℕ) → WaitAt (selector_place types facts modes parts s) []
  selector_waits NoArg s = none_wait
  selector_waits (ByValue value rest) s = none_wait
  selector_waits (ByPath path rest) s = only_read (node_at path) (type_at path) s

  led_at : (path : Path) (t : ℕ) → WaitAt (location types facts modes path t) []
  led_at path t = led_waits (node_at path) (type_at path) (kind_of_path path) t

  begun_waits : (constant : Option Literal) (read : Bool) (value : Expr) (t : ℕ) →
      WaitAt (expr_places types facts modes value t) (total lists node_numbers value) →
      WaitAt (if_constant constant [] (expr_places types facts modes value t))
      (if_constant constant (node_numbers (begun_by constant read value)) (node_numbers (begun_by constant read value) ++ total lists node_numbers value))
  begun_waits None read value t waits = waits
  begun_waits (Some literal) read value t waits = none_wait

  mutual
    pub expr_waits : (e : Expr) (t : ℕ) → WaitAt (expr_places types facts modes e t) (total lists node_numbers e)
    expr_waits (Apply node ty act operands) t = value_waits true node ty t >> operands_wait act operands (use_of modes act) 0 (suc t)
    expr_waits (Read (Variable node ty place global)) t =
        value_waits true node (Some ty) t >> led_at (Variable node ty place global) (suc t)
    expr_waits (Read (Fresh value)) t = only_read (node_of value) (type_of value) t {ns = []} >> path_waits true (Fresh value) (suc t)
    expr_waits (Read (Field node ty base field)) t =
        value_waits true node (Some ty) t >> (led_at (Field node ty base field) (suc t) >> path_waits false base (suc (suc t)))
    expr_waits (Read (Element node ty base index constant)) t =
        value_waits true node (Some ty) t
        >> (led_at (Element node ty base index constant) (suc t)
        >> (path_waits false base (suc (suc t)) >> expr_waits index (suc (suc t) + width_at base)))
    expr_waits (Read (Deref ty base)) t = only_read (node_at base) (Some ty) t {ns = []} >> path_waits true (Deref ty base) (suc t)
    expr_waits (Early node ty short left right) t =
        value_waits true node (Some ty) t >> (expr_waits left (suc t) >> expr_waits right (suc t + width left))
    expr_waits (Choose node ty ByConditions parts) t = value_waits true node ty t >> parts_wait parts (suc t)
    expr_waits (Choose node ty (ByLabels labels) parts) t =
        let s = suc t + arm_count (ByLabels labels) in
        value_waits true node ty t >> (selector_waits parts s >> parts_wait parts (selector_from parts s))

    pub path_waits : (read : Bool) (path : Path) (t : ℕ) → WaitAt (path_places types facts modes path t) (total_at lists node_numbers read path)
    path_waits read (Variable node ty place global) t = led_waits node (Some ty) (kind_of_path (Variable node ty place global)) t
    path_waits read (Fresh value) t = led_at (Fresh value) t >> begun_waits (constant_in value) read value (suc t) (expr_waits value (suc t))
    path_waits read (Field node ty base field) t = later (node.number ∷ []) (led_at (Field node ty base field) t >> path_waits false base (suc t))
    path_waits read (Element node ty base index constant) t =
        later (node.number ∷ [])
        (led_at (Element node ty base index constant) t >> (path_waits false base (suc t) >> expr_waits index (suc t + width_at base)))
    path_waits read (Deref ty base) t = led_at (Deref ty base) t >> path_waits false base (suc t)

    operands_wait : (act : Act) (args : Args) (uses : ℕ → Use) (i t : ℕ) →
        WaitAt (operand_places types facts modes act args uses i t) (totals lists node_numbers args)
    operands_wait act NoArg uses i t = none_wait
    operands_wait act (ByValue value rest) uses i t =
        expr_waits value t >> (lent_waits act (uses i) value t {ns = []} >> operands_wait act rest uses (suc i) (t + width value))
    operands_wait act (ByPath path rest) uses i t = path_waits false path t >> operands_wait act rest uses (suc i) (t + width_at path)

    parts_wait : (args : Args) (t : ℕ) → WaitAt (part_places types facts modes args t) (totals lists node_numbers args)
    parts_wait NoArg t = none_wait
    parts_wait (ByValue value rest) t = expr_waits value t >> parts_wait rest (t + width value)
    parts_wait (ByPath path rest) t = path_waits false path t >> parts_wait rest (t + width_at path)

  -- the one part of a list
  one_part : (args : Args) (t : ℕ) (ns : List ℕ) → totals lists node_numbers args ≡ ns ++ [] → WaitAt (part_places types facts modes args t) ns
  one_part args t ns same = subst (λ ks. WaitAt (part_places types facts modes args t) ks) (same ∙ append-nil ns) (parts_wait args t)

  -- ---- statements

  loop_waits : (node : Node) (kind : Kind) (head : Args) (t : ℕ) → WaitAt (loop_places types facts modes node kind head t) []
  loop_waits node While head t = none_wait
  loop_waits node (Count variable inclusive) head t = none_wait
  loop_waits node (OfEach variable) head t = record { nodes = tt; may = (tt, (tt, (tt, tt))) }

  declared_waits : (value : Args) (t : ℕ) → WaitAt (value_places types facts modes value t) (totals lists node_numbers value)
  declared_waits NoArg t = none_wait
  declared_waits (ByValue value rest) t = sooner (totals lists node_numbers rest) (expr_waits value t)
  declared_waits (ByPath path rest) t = none_wait

  -- one selector, and then the blocks
  turned : (blocks : Blocks) (ns : List ℕ) →
      ns ++ together lists (each_block lists node_numbers blocks) ≡ in_turn lists (ns ∷ []) (each_block lists node_numbers blocks)
  turned (Otherwise block) ns = refl
  turned (Block first rest) ns = refl

  mutual
    pub stmt_waits : (s : Stmt) (t : ℕ) → IsShaped s → WaitAt (stmt_places types facts modes s t) (total_in lists node_numbers s)
    stmt_waits (Do value) t s = expr_waits value t
    stmt_waits (Idle node parts) t s = none_wait
    stmt_waits (Give node back value) t s = later (node.number ∷ []) (expr_waits value (suc t))
    stmt_waits (Leave node leaving parts) t s = none_wait
    stmt_waits (Select node ByConditions tests blocks) t s = later (node.number ∷ []) (branch_waits tests blocks (suc t) s.1)
    stmt_waits (Select node (ByLabels labels) NoArg blocks) t s = absurd s.0.1
    stmt_waits (Select node (ByLabels labels) (ByValue value NoArg) blocks) t s =
        let u = suc t + arm_count (ByLabels labels) in
        later (node.number ∷ [])
        (subst (λ ks. WaitAt (part_places types facts modes (ByValue value NoArg) u ++ arm_places types facts modes blocks
        (behind_selector (ByValue value NoArg) u)) ks)
        (turned blocks (total lists node_numbers value))
        (one_part (ByValue value NoArg) u (total lists node_numbers value) refl >> arms_wait blocks (behind_selector (ByValue value NoArg) u) s.1))
    stmt_waits (Select node (ByLabels labels) (ByValue value (ByValue other rest)) blocks) t s = absurd s.0.1
    stmt_waits (Select node (ByLabels labels) (ByValue value (ByPath path rest)) blocks) t s = absurd s.0.1
    stmt_waits (Select node (ByLabels labels) (ByPath path NoArg) blocks) t s =
        let u = suc t + arm_count (ByLabels labels) in
        later (node.number ∷ [])
        (selector_waits (ByPath path NoArg) u
        >> subst (λ ks. WaitAt (part_places types facts modes (ByPath path NoArg) (selector_from (ByPath path NoArg) u)
        ++ arm_places types facts modes blocks (behind_selector (ByPath path NoArg) u)) ks)
        (turned blocks (total_at lists node_numbers false path))
        (one_part (ByPath path NoArg) (selector_from (ByPath path NoArg) u) (total_at lists node_numbers false path) refl
        >> arms_wait blocks (behind_selector (ByPath path NoArg) u) s.1))
    stmt_waits (Select node (ByLabels labels) (ByPath path (ByValue other rest)) blocks) t s = absurd s.0.1
    stmt_waits (Select node (ByLabels labels) (ByPath path (ByPath other rest)) blocks) t s = absurd s.0.1
    stmt_waits (Loop node kind head body) t s =
        later (node.number ∷ [])
        (loop_waits node kind head t >> (parts_wait head (head_from kind t) >> block_waits body (head_from kind t + widths head) s.1))
    stmt_waits (Raise node exception message) t s = none_wait
    stmt_waits (Try node body handlers last) t s = none_wait

    pub block_waits : (b : Stmts) (t : ℕ) → AreShaped b → WaitAt (block_places types facts modes b t) (total_of lists node_numbers b)
    block_waits Empty t s = none_wait
    block_waits (Then first rest) t s = stmt_waits first t s.0 >> block_waits rest (t + width_in first) s.1
    block_waits (Declare node place cursor value rest) t s =
        later (node.number ∷ []) (declared_waits value (suc t) >> block_waits rest (behind_value types facts modes value t) s)
    block_waits (Defer node last rest) t s = none_wait

    branch_waits : (tests : Args) (blocks : Blocks) (t : ℕ) → AreShapedBlocks blocks →
        WaitAt (branch_places types facts modes tests blocks t) (in_turn lists (each lists node_numbers tests) (each_block lists node_numbers blocks))
    branch_waits NoArg (Otherwise block) t s = sooner [] (block_waits block t s)
    branch_waits NoArg (Block first rest) t s = sooner (together lists (each_block lists node_numbers rest)) (block_waits first t s.0)
    branch_waits (ByPath path tests) blocks t s = none_wait
    branch_waits (ByValue condition tests) (Otherwise block) t s = none_wait
    branch_waits (ByValue condition tests) (Block first rest) t s =
        expr_waits condition t >> (block_waits first (t + width condition) s.0 >> branch_waits tests rest (t + width condition + width_of first) s.1)

    arms_wait : (blocks : Blocks) (t : ℕ) → AreShapedBlocks blocks →
        WaitAt (arm_places types facts modes blocks t) (together lists (each_block lists node_numbers blocks))
    arms_wait (Otherwise block) t s = sooner [] (block_waits block t s)
    arms_wait (Block first rest) t s = block_waits first t s.0 >> arms_wait rest (t + width_of first) s.1

  -- ---- bodies

  -- what is declared waits nowhere
  quiet : (ps : List FlatPlace) → Each (λ (p : FlatPlace). p.waits ≡ None) ps → WaitAt ps []
  quiet [] h = none_wait
  quiet (p ∷ ps) h =
      let rest = quiet ps h.1 in
      record {
        nodes = subst (λ o. AreAmong (and_node o (waiting_nodes ps)) []) (sym h.0) rest.nodes;
        may = (subst (λ o. MayWait o (is_temporary p.kind && p.hooked)) (sym h.0) tt, rest.may);
      }

  likes_quiet : (ps : List FlatPlace) (ds : List Declared) → Likes types ps ds → Each (λ (p : FlatPlace). p.waits ≡ None) ps
  likes_quiet [] ds h = tt
  likes_quiet (p ∷ ps) [] h = absurd h
  likes_quiet (p ∷ ps) (d ∷ ds) h = (h.0.waits, likes_quiet ps ds h.1)

  params_quiet : (sinks : List ℕ) (params : List Param) → Each (λ (p : FlatPlace). p.waits ≡ None) (param_places types facts modes sinks params)
  params_quiet sinks [] = tt
  params_quiet sinks (param ∷ params) = (refl, params_quiet sinks params)

  result_quiet : (result : Option Declared) → Each (λ (p : FlatPlace). p.waits ≡ None) (result_places types facts modes result)
  result_quiet None = tt
  result_quiet (Some d) = (refl, tt)

  body_once : (sinks : List ℕ) (globals : List Declared) (params : List Param) (body : Body) → is_numbered params body ≡ true → AreShaped body.stmts →
      wait_once (body_places types facts modes sinks globals params body) ≡ true
  body_once sinks globals params body numbered shaped =
      let declared = total_of lists (own_declared types facts modes globals) body.stmts in
      let all : WaitAt (body_places types facts modes sinks globals params body) (block_nodes body.stmts) =
      quiet (param_places types facts modes sinks params) (params_quiet sinks params)
      >> (quiet (result_places types facts modes body.result) (result_quiet body.result)
      >> (quiet declared (likes_quiet declared (total_of lists own_places body.stmts) (block_like types facts modes globals body.stmts))
      >> block_waits body.stmts 0 shaped)) in
      let h = and_parts (rise_to body.before MOST_NODES (block_nodes body.stmts)) _ numbered in
      once body.before (body_places types facts modes sinks globals params body)
      (rise_among body.before (waiting_nodes (body_places types facts modes sinks globals params body)) (block_nodes body.stmts)
      (rises body.before MOST_NODES (block_nodes body.stmts) h.0) all.nodes) all.may

-- ---- programs

module _ (program : Program) (plan : Plan) where
  start_once : (hook : Option HookOf) (params : List Param) (body : Body) → is_numbered params body ≡ true → AreShaped body.stmts →
      wait_once (flat_body program plan hook params body).places ≡ true
  start_once hook params body numbered shaped =
      body_once program.types program.facts (modes_of program plan) plan.sinks program.globals params body numbered shaped

  proc_once : (hook : Option HookOf) (params : List Param) (body : Option Body) → is_numbered_if params body ≡ true → IfShaped body →
      wait_once (flat_proc program plan hook params body).places ≡ true
  proc_once hook params None numbered shaped = refl
  proc_once hook params (Some body) numbered shaped = start_once hook params body numbered shaped

  abbrev Once : List (CodeProc Line) → Type 0
  Once procs = AllWaitOnce (map (λ (p : CodeProc Line). p.places) procs)

  procs_once : (procs : List Proc) (more : List (CodeProc Line)) → are_numbered procs ≡ true → ProcsShaped procs → Once more →
      Once (map (λ (p : Proc). flat_proc program plan p.hook p.params p.body) procs ++ more)
  procs_once [] more numbered shaped rest = rest
  procs_once (p ∷ procs) more numbered shaped rest =
      let n = and_parts (is_numbered_if p.params p.body) (are_numbered procs) numbered in
      (proc_once p.hook p.params p.body n.0 shaped.0, procs_once procs more n.1 shaped.1 rest)

  pub all_once : is_numbered_program program ≡ true → ProgramShaped program → AllWaitOnce (places_of (flat_of program plan))
  all_once numbered shaped =
      let n = and_parts (are_numbered program.procs) (is_numbered [] program.start) numbered in
      procs_once program.procs (flat_body program plan None [] program.start ∷ []) n.0 shaped.0
      (start_once None [] program.start n.1 shaped.1, tt)
