-- What is put for blocks, and for the statements that hold them.
use Rattle.arc_base.specs.declared.bytes.Memory.{Memory}
use Rattle.std.proofs.Common.{◌≡◌, ℕ, suc, ◌+◌, ◌<◌, List, [], ◌∷◌, ◌++◌, length, Bool, true, false, Option, Some, None, Result, Ok, Err, IfOk}
use Rattle.std.proofs.Common.{refl, sym, ap, subst, ◌∙◌, arith}
use Rattle.std.specs.Prelude.{◌&&◌, if◌then◌else◌}
use Rattle.nim_types.specs.Types.{Ty, Facts}
use Rattle.nim_program.specs.declared.expr.Node.{Node}
use Rattle.nim_program.specs.declared.expr.Operand.{Operand as RustOperand}
use Rattle.nim_program.specs.declared.program.Mode.{Mode}
use Rattle.nim_program.specs.declared.operation.Use.TheVariants.{Owned, Given}
use Rattle.nim_program.specs.declared.stmt.CaseBranch.{CaseBranch}
use Rattle.nim_program.specs.declared.stmt.Stmt.{Stmt as RustStmt}
use Rattle.nim_program.specs.declared.stmt.Stmt.TheVariants as S
use Rattle.nim_program.specs.declared.stmt.Leaving.TheVariants.{Break}
use Rattle.nim_program.specs.Program as T
use Rattle.nim_program.specs.Program.{Label, Declared, Param, ByConditions, ByLabels, Building, Expr, Args, NoArg, ByValue, Stmt, Give, Select, While, Count}
use Rattle.nim_program.specs.Program.{Each}
use Rattle.nim_program.specs.Program.{Stmts, Empty, Then, Declare, Blocks, Block}
use Rattle.nim_program.specs.View.{expr_of, declared_of, if_type, if_value, operand_before, operands_of, stmt_before, stmts_of, branch_labels}
use Rattle.nim_meaning.specs.Shapes.{is_covered, selector_type, is_empty, is_last_block}
use Rattle.nim_meaning.specs.Waiting.{waiting_all, waiting_first}
use Rattle.flat_code.specs.declared.line.Owning.{Owning}
use Rattle.flat_code.specs.declared.line.Line.{Line}
use Rattle.flat_code.specs.declared.line.Line.TheVariants as L
use Rattle.flattening.specs.declared.numbers.Purpose.TheVariants.{End, Next, Arm, Turn}
use Rattle.flattening.specs.Numbering.{type_number, width, widths, width_in, width_of, behind_selector, label}
use Rattle.flattening.specs.ExprLines.{lines, ready_lines, arm_label, label_tests, value_ends}
use Rattle.flattening.specs.StmtLines.{Exits, ending, in_loop, in_scope, outermost, returned, second, back_lines, place_end, param_ends, head_ends}
use Rattle.flattening.specs.StmtLines.{selector_ends}
use Rattle.flattening.specs.StmtLines.{selector_lines, give_lines, fill_lines, lines_in, lines_of, branch_lines, block_tests, arm_blocks}
use Rattle.flattening.specs.StmtViews.{first_owns, first_lines, loop_lines, placed_turn, tested, before_turns, next_element}
use Rattle.flattening.specs.Views.{is_defer, own_lines, waits_own, place_owns, params_own}
use Rattle.flattening.specs.Written.{IsPut}
use Rattle.flattening.proofs.StmtPuts.{first_of, label_count}
use Rattle.flattening.proofs.WaysOut.{both_own, waits_end, place_ends, params_end}
use Rattle.flattening.proofs.Writing.{puts_as, finished}

-- the tests of one more branch
pub blocks_tested : (these : List Label) (labels : List (List Label)) (first : Stmts) (rest : Blocks) (selector arm next : ℕ) → next ≡ suc arm →
    (k : List Line) → label_tests these selector (label Arm arm) (block_tests labels rest selector next k)
    ≡ block_tests (these ∷ labels) (Block first rest) selector arm k
blocks_tested these labels first rest selector arm next e k =
    ap (λ a. label_tests these selector (label Arm arm) (block_tests labels rest selector a k)) e

module _ (types : List Ty) (facts : Facts) (modes : (proc position : ℕ) → Mode) (result : Option Declared) where
  abbrev pub block : Stmts → Exits → (t : ℕ) → List Line → List Line
  block stmts exits t k = lines_of types facts modes result stmts exits t k

  -- the rest of a block, with whose end something ends
  abbrev pub rest_lines : List Owning → Stmts → Exits → (t : ℕ) → List Line → List Line
  rest_lines ends stmts exits t k = block stmts (ending (own_lines ends) exits) t (own_lines ends k)

  abbrev pub first : Stmts → Exits → (t : ℕ) → List Line → List Line
  first stmts exits t k = first_lines types facts modes result stmts exits t k

  module _ (exits : Exits) where
    pub block_same : (b b' : Stmts) (t : ℕ) {old new : Option (List Line)} → b ≡ b' → IsPut old new (first b' exits t) → IsPut old new (first b exits t)
    block_same b b' t {old} {new} same put = subst (λ x. IsPut old new (first x exits t)) (sym same) put

    -- ---- one more statement

    then_next : (s : Stmt) (rest : Stmts) (t v : ℕ) → v ≡ t + (width_in s + 0) → (k : List Line) →
        first (Then s Empty) exits t (rest_lines [] rest exits v k) ≡ block (Then s rest) exits t k
    then_next s rest t v e k =
        let f : v ≡ t + width_in s = omega (arith, e) in
        ap (λ w. lines_in types facts modes result s exits t (block rest exits w k)) f

    -- behind the lines that declare a place
    scope_next : (put : List Line → List Line) (place : Declared) (rest : Stmts) (v w : ℕ) → v ≡ w → (k : List Line) →
        put (rest_lines (place_owns types facts place) rest exits v k)
        ≡ put (block rest (in_scope types facts modes result place exits) w (place_end types facts place k))
    scope_next put place rest v w e k =
        ap (λ x. put (rest_lines (place_owns types facts place) rest exits x k)) e
        ∙ ap (λ ends. put (block rest (ending ends exits) w (ends k))) (place_ends types facts place)

    stmt_next : (ts : List Ty) (s : RustStmt) (rest : Stmts) (t v : ℕ) → is_defer s ≡ false → v ≡ t + width_of (stmt_before ts s Empty) → (k : List Line) →
        first (stmt_before ts s Empty) exits t (rest_lines (first_owns types facts (stmt_before ts s Empty)) rest exits v k)
        ≡ block (stmt_before ts s rest) exits t k
    stmt_next ts (S.Do value) rest t v g e k = then_next (T.Do (expr_of ts value)) rest t v e k
    stmt_next ts (S.Idle node parts) rest t v g e k = then_next (T.Idle node (operands_of ts parts.items)) rest t v e k
    stmt_next ts (S.Give node back value) rest t v g e k = then_next (T.Give node back (expr_of ts value)) rest t v e k
    stmt_next ts (S.Leave node leaving parts) rest t v g e k = then_next (T.Leave node leaving (operands_of ts parts.items)) rest t v e k
    stmt_next ts (S.Declare node place cursor None) rest t v g e k =
        scope_next (λ k. L.Blank place.number (type_number types (declared_of ts place).of) ∷ k) (declared_of ts place) rest v (suc t) (omega (arith, e)) k
    stmt_next ts (S.Declare node place cursor (Some value)) rest t v g e k =
        scope_next (λ k. fill_lines types facts modes result (declared_of ts place) (expr_of ts value) (suc t)
        (value_ends types facts modes (expr_of ts value) Given k)) (declared_of ts place) rest v (suc t + (width (expr_of ts value) + 0)) (omega (arith, e)) k
    stmt_next ts (S.If' node p branches q otherwise) rest t v g e k =
        then_next (first_of (T.Leave node Break NoArg) (stmt_before ts (S.If' node p branches q otherwise) Empty)) rest t v e k
    stmt_next ts (S.Case' node selector p branches q otherwise) rest t v g e k =
        then_next (first_of (T.Leave node Break NoArg) (stmt_before ts (S.Case' node selector p branches q otherwise) Empty)) rest t v e k
    stmt_next ts (S.Loop' node kind head p body) rest t v g e k =
        then_next (first_of (T.Leave node Break NoArg) (stmt_before ts (S.Loop' node kind head p body) Empty)) rest t v e k
    stmt_next ts (S.Raise node exception message) rest t v g e k = then_next (T.Raise node (if_type ts exception) (if_value ts message)) rest t v e k
    stmt_next ts (S.Try' node p body q handlers r last) rest t v g e k =
        then_next (first_of (T.Leave node Break NoArg) (stmt_before ts (S.Try' node p body q handlers r last) Empty)) rest t v e k
    stmt_next ts (S.Defer' node p last) rest t v g e k = absurd cc

    -- behind a `defer` nothing has lines but what ends
    stmt_last : (ts : List Ty) (s : RustStmt) (rest : Stmts) (t : ℕ) → is_defer s ≡ true → (k : List Line) →
        first (stmt_before ts s Empty) exits t k ≡ block (stmt_before ts s rest) exits t k
    stmt_last ts (S.Do value) rest t g k = absurd cc
    stmt_last ts (S.Idle node parts) rest t g k = absurd cc
    stmt_last ts (S.Give node back value) rest t g k = absurd cc
    stmt_last ts (S.Leave node leaving parts) rest t g k = absurd cc
    stmt_last ts (S.Declare node place cursor value) rest t g k = absurd cc
    stmt_last ts (S.If' node p branches q otherwise) rest t g k = absurd cc
    stmt_last ts (S.Case' node selector p branches q otherwise) rest t g k = absurd cc
    stmt_last ts (S.Loop' node kind head p body) rest t g k = absurd cc
    stmt_last ts (S.Raise node exception message) rest t g k = absurd cc
    stmt_last ts (S.Try' node p body q handlers r last) rest t g k = absurd cc
    stmt_last ts (S.Defer' node p last) rest t g k = refl

  -- The places that are declared before it end with the block. The code has the list of them several times.
  pub one_more : (exits : Exits) (ts : List Ty) (s : RustStmt) (rest : Stmts) (t v : ℕ) (ends es after : List Owning) → is_defer s ≡ false →
      v ≡ t + width_of (stmt_before ts s Empty) → es ≡ ends → after ≡ ends ++ first_owns types facts (stmt_before ts s Empty) → (k : List Line) →
      first (stmt_before ts s Empty) (ending (own_lines es) exits) t (rest_lines after rest exits v k) ≡ rest_lines ends (stmt_before ts s rest) exits t k
  one_more exits ts s rest t v ends es after g e same more k =
      let alone = stmt_before ts s Empty in
      let at = λ (es after : List Owning). first alone (ending (own_lines es) exits) t (rest_lines after rest exits v k) in
      ap (λ x. at x after) same ∙ ap (at ends) more
      ∙ ap (λ f. first alone (ending (own_lines ends) exits) t (block rest (ending f exits) v (f k))) (both_own ends (first_owns types facts alone))
      ∙ stmt_next (ending (own_lines ends) exits) ts s rest t v g e (own_lines ends k)

  pub no_more : (exits : Exits) (ts : List Ty) (s : RustStmt) (rest : Stmts) (t : ℕ) (ends es es' : List Owning) → is_defer s ≡ true →
      es ≡ ends → es' ≡ ends → (k : List Line) →
      first (stmt_before ts s Empty) (ending (own_lines es) exits) t (own_lines es' k) ≡ rest_lines ends (stmt_before ts s rest) exits t k
  no_more exits ts s rest t ends es es' g same same' k =
      ap (λ x. first (stmt_before ts s Empty) (ending (own_lines x) exits) t (own_lines es' k)) same
      ∙ ap (λ x. first (stmt_before ts s Empty) (ending (own_lines ends) exits) t (own_lines x k)) same'
      ∙ stmt_last (ending (own_lines ends) exits) ts s rest t g (own_lines ends k)

  module _ (exits : Exits) where
    -- ---- branches

    abbrev pub decided_lines : (condition : Expr) → (body : Stmts) → (t u v : ℕ) → List Line → List Line
    decided_lines condition body t u v k =
        lines types facts modes condition Owned u
        (value_ends types facts modes condition Owned
        (L.Unless u (label Arm u) ∷ block body exits v (L.Jump (label End t) ∷ L.Label (label Arm u) ∷ k)))

    -- one more branch of an `if`
    pub branch_next : (condition : Expr) (body : Stmts) (tests : Args) (rest : Blocks) (t u v w : ℕ) → v ≡ u + width condition →
        w ≡ v + width_of body → (k : List Line) →
        decided_lines condition body t u v (branch_lines types facts modes result tests rest exits t w k)
        ≡ branch_lines types facts modes result (ByValue condition tests) (Block body rest) exits t u k
    branch_next condition body tests rest t u v w e f k =
        let g : w ≡ u + width condition + width_of body = f ∙ ap (λ x. x + width_of body) e in
        ap (λ x. decided_lines condition body t u x (branch_lines types facts modes result tests rest exits t w k)) e
        ∙ ap (λ y. decided_lines condition body t u (u + width condition) (branch_lines types facts modes result tests rest exits t y k)) g

    -- the block of a branch that is the last one, and of one before others
    pub block_last : (covered last : Bool) (these : List Label) (labels : List (List Label)) (body : Stmts) (rest : Blocks) (t arm u : ℕ) →
        last ≡ (covered && is_last_block rest) → last ≡ true → (k : List Line) →
        arm_label last (label Next t) (label Arm arm) (block body exits u k)
        ≡ arm_blocks types facts modes result covered (these ∷ labels) (Block body rest) exits t arm u k
    block_last covered last these labels body rest t arm u e holds k =
        let all = λ (b : Bool) (c : Bool).
        arm_label b (label Next t) (label Arm arm)
        (block body exits u
        (if c then k else L.Jump (label End t) ∷ arm_blocks types facts modes result covered labels rest exits t (suc arm) (u + width_of body) k)) in
        ap (all last) (sym holds) ∙ ap (λ b. all b b) e

    pub block_next : (covered last : Bool) (these : List Label) (labels : List (List Label)) (body : Stmts) (rest : Blocks) (t arm next u v : ℕ) →
        last ≡ (covered && is_last_block rest) → last ≡ false → next ≡ suc arm → v ≡ u + width_of body → (k : List Line) →
        arm_label last (label Next t) (label Arm arm)
        (block body exits u (L.Jump (label End t) ∷ arm_blocks types facts modes result covered labels rest exits t next v k))
        ≡ arm_blocks types facts modes result covered (these ∷ labels) (Block body rest) exits t arm u k
    block_next covered last these labels body rest t arm next u v e fails f g k =
        let all = λ (b : Bool) (c : Bool) (n w : ℕ).
        arm_label b (label Next t) (label Arm arm)
        (block body exits u (if c then k else L.Jump (label End t) ∷ arm_blocks types facts modes result covered labels rest exits t n w k)) in
        ap (λ w. all last false next w) g ∙ ap (λ n. all last false n (u + width_of body)) f
        ∙ ap (λ b. all last b (suc arm) (u + width_of body)) (sym fails) ∙ ap (λ b. all b b (suc arm) (u + width_of body)) e

    -- ---- the forms of statements, each alone in a block

    pub give_put : (node : Node) (back : Bool) (value : Expr) (t u : ℕ) {a b : Option (List Line)} → u ≡ suc t →
        IsPut a b (λ k. give_lines types facts modes result value u (value_ends types facts modes value Given (back_lines exits back k))) →
        IsPut a b (first (Then (Give node back value) Empty) exits t)
    give_put node back value t u e put =
        puts_as _ _ put (λ k.
        ap (λ x. give_lines types facts modes result value x (value_ends types facts modes value Given (back_lines exits back k))) e)

    pub fill_put : (node : Node) (place : Declared) (cursor : Bool) (value : Expr) (t u : ℕ) {a b : Option (List Line)} → u ≡ suc t →
        IsPut a b (λ k. fill_lines types facts modes result place value u (value_ends types facts modes value Given k)) →
        IsPut a b (first (Declare node place cursor (ByValue value NoArg) Empty) exits t)
    fill_put node place cursor value t u e put =
        puts_as _ _ put (λ k. ap (λ x. fill_lines types facts modes result place value x (value_ends types facts modes value Given k)) e)

    pub decided_put : (node : Node) (tests : Args) (blocks : Blocks) (t u : ℕ) {a b : Option (List Line)} → u ≡ suc t →
        IsPut a b (λ k. branch_lines types facts modes result tests blocks exits t u (L.Label (label End t) ∷ k)) →
        IsPut a b (first (Then (Select node ByConditions tests blocks) Empty) exits t)
    decided_put node tests blocks t u e put =
        puts_as _ _ put (λ k. ap (λ x. branch_lines types facts modes result tests blocks exits t x (L.Label (label End t) ∷ k)) e)

    -- the selector, the tests of all labels, and the blocks
    abbrev selected : Args → (covered : Bool) → List (List Label) → Blocks → (inner outer : List Line → List Line) → (t u s v : ℕ) → List Line → List Line
    selected selector covered labels blocks inner outer t u s v k =
        selector_lines types facts modes result selector s
        (block_tests labels blocks s u
        (L.Jump (label Next t) ∷ arm_blocks types facts modes result covered labels blocks (ending inner exits) t u v (L.Label (label End t) ∷ outer k)))

    pub selected_put : (ts : List Ty) (node : Node) (branches : List CaseBranch) (selector : RustOperand) (blocks : Blocks) (t u s v : ℕ)
        (covered : Bool) (es es' : List Owning) {a b : Option (List Line)} → u ≡ suc t → s ≡ u + length branches →
        v ≡ behind_selector (operand_before ts selector NoArg) s → covered ≡ is_covered (selector_type (operand_before ts selector NoArg)) →
        es ≡ waits_own types (waiting_first facts modes (operand_before ts selector NoArg)) →
        es' ≡ waits_own types (waiting_first facts modes (operand_before ts selector NoArg)) →
        IsPut a b (selected (operand_before ts selector NoArg) covered (branch_labels branches) blocks (own_lines es) (own_lines es') t u s v) →
        IsPut a b (first (Then (Select node (ByLabels (branch_labels branches)) (operand_before ts selector NoArg) blocks) Empty) exits t)
    selected_put ts node branches selector blocks t u s v covered es es' e f g h i j put =
        let one = operand_before ts selector NoArg in
        let labels = branch_labels branches in
        let waits = waiting_first facts modes one in
        let ends = selector_ends types facts modes result one in
        let all = selected one in
        let f' : s ≡ u + length labels = f ∙ ap (λ n. u + n) (sym (label_count branches)) in
        puts_as _ _ put (λ k.
        ap (λ x. all covered labels blocks x (own_lines es') t u s v k) (ap own_lines i ∙ waits_end types waits)
        ∙ ap (λ x. all covered labels blocks ends x t u s v k) (ap own_lines j ∙ waits_end types waits)
        ∙ ap (λ c. all c labels blocks ends ends t u s v k) h
        ∙ ap (λ x. all (is_covered (selector_type one)) labels blocks ends ends t u s x k) g
        ∙ ap (λ x. all (is_covered (selector_type one)) labels blocks ends ends t u x (behind_selector one x) k) f'
        ∙ ap (λ x. all (is_covered (selector_type one)) labels blocks ends ends t x (x + length labels) (behind_selector one (x + length labels)) k) e)

    -- ---- loops

    pub placed_put : (place : Declared) (body : Stmts) (t u : ℕ) (es es' : List Owning) {a b : Option (List Line)} →
        es ≡ place_owns types facts place → es' ≡ place_owns types facts place →
        IsPut a b (λ k. block body (ending (own_lines es) (in_loop exits t)) u (own_lines es' (L.Label (label Next t) ∷ k))) →
        IsPut a b (placed_turn types facts modes result place body exits t u)
    placed_put place body t u es es' e f put =
        let all = λ (inner outer : List Line → List Line) (k : List Line). block body (ending inner (in_loop exits t)) u (outer (L.Label (label Next t) ∷ k)) in
        puts_as _ _ put (λ k.
        ap (λ x. all x (own_lines es') k) (ap own_lines e ∙ place_ends types facts place)
        ∙ ap (λ x. all (place_end types facts place) x k) (ap own_lines f ∙ place_ends types facts place))

    pub while_put : (head : Args) (body : Stmts) (t u first : ℕ) {a b : Option (List Line)} → u ≡ suc t → first ≡ u + widths head →
        IsPut a b (λ k.
        L.Jump (label Next t)
        ∷ L.Label (label Turn t)
        ∷ block body (in_loop exits t) first
        (L.Label (label Next t) ∷ tested types facts modes result head u (L.TurnIf u (label Turn t) ∷ L.Label (label End t) ∷ k))) →
        IsPut a b (loop_lines types facts modes result While head body exits t)
    while_put head body t u first e f put =
        let all = λ (x y : ℕ) (k : List Line).
        L.Jump (label Next t)
        ∷ L.Label (label Turn t)
        ∷ block body (in_loop exits t) y
        (L.Label (label Next t) ∷ tested types facts modes result head x (L.TurnIf x (label Turn t) ∷ L.Label (label End t) ∷ k)) in
        puts_as _ _ put (λ k. ap (λ y. all u y k) f ∙ ap (λ x. all x (x + widths head) k) e)

    -- the temporaries of a head
    head_end : (head : Args) (es : List Owning) → es ≡ waits_own types (waiting_all facts modes head (λ i. Owned) 0) →
        own_lines es ≡ head_ends types facts modes result head
    head_end head es e = ap own_lines e ∙ waits_end types (waiting_all facts modes head (λ i. Owned) 0)

    pub count_put : (place : Declared) (inclusive : Bool) (head : Args) (body : Stmts) (t u last first : ℕ) (es es' : List Owning)
        {a b : Option (List Line)} → u ≡ suc t → last ≡ second head u → first ≡ u + widths head →
        es ≡ waits_own types (waiting_all facts modes head (λ i. Owned) 0) → es' ≡ waits_own types (waiting_all facts modes head (λ i. Owned) 0) →
        IsPut a b (λ k.
        ready_lines types facts modes (Building []) head (λ i. Owned) 0 u
        (L.Beyond u last inclusive (label End t)
        ∷ L.Enter
        ∷ L.Label (label Turn t)
        ∷ L.Fill place.number u
        ∷ placed_turn types facts modes result place body (ending (own_lines es) exits) t first
        (L.CountTurn u last inclusive (label Turn t) ∷ L.Label (label End t) ∷ own_lines es' k))) →
        IsPut a b (loop_lines types facts modes result (Count place inclusive) head body exits t)
    count_put place inclusive head body t u last first es es' e f g i j put =
        let ends = head_ends types facts modes result head in
        let all = λ (inner outer : List Line → List Line) (x y z : ℕ) (k : List Line).
        ready_lines types facts modes (Building []) head (λ i. Owned) 0 x
        (L.Beyond x y inclusive (label End t)
        ∷ L.Enter
        ∷ L.Label (label Turn t)
        ∷ L.Fill place.number x
        ∷ placed_turn types facts modes result place body (ending inner exits) t z
        (L.CountTurn x y inclusive (label Turn t) ∷ L.Label (label End t) ∷ outer k)) in
        puts_as _ _ put (λ k.
        ap (λ x. all x (own_lines es') u last first k) (head_end head es i)
        ∙ ap (λ x. all ends x u last first k) (head_end head es' j)
        ∙ ap (λ z. all ends ends u last z k) g
        ∙ ap (λ y. all ends ends u y (u + widths head) k) f
        ∙ ap (λ x. all ends ends x (second head x) (x + widths head) k) e)

    pub each_put : (place : Declared) (head : Args) (body : Stmts) (t u len at first : ℕ) (es es' : List Owning) {a b : Option (List Line)} →
        u ≡ suc t → len ≡ suc u → at ≡ u + 2 → first ≡ at + widths head →
        es ≡ waits_own types (waiting_all facts modes head (λ i. Owned) 0) → es' ≡ waits_own types (waiting_all facts modes head (λ i. Owned) 0) →
        IsPut a b (λ k.
        ready_lines types facts modes (Building []) head (λ i. Owned) 0 at
        (before_turns types facts modes result head t u len at
        (placed_turn types facts modes result place body (ending (own_lines es) exits) t first
        (next_element types facts modes result place head t u len at (own_lines es' k))))) →
        IsPut a b (loop_lines types facts modes result (Each place) head body exits t)
    each_put place head body t u len at first es es' e f g h i j put =
        let ends = head_ends types facts modes result head in
        let all = λ (inner outer : List Line → List Line) (x y z w : ℕ) (k : List Line).
        ready_lines types facts modes (Building []) head (λ i. Owned) 0 z
        (before_turns types facts modes result head t x y z
        (placed_turn types facts modes result place body (ending inner exits) t w
        (next_element types facts modes result place head t x y z (outer k)))) in
        puts_as _ _ put (λ k.
        ap (λ x. all x (own_lines es') u len at first k) (head_end head es i)
        ∙ ap (λ x. all ends x u len at first k) (head_end head es' j)
        ∙ ap (λ w. all ends ends u len at w k) h
        ∙ ap (λ z. all ends ends u len z (z + widths head) k) g
        ∙ ap (λ y. all ends ends u y (u + 2) (u + 2 + widths head) k) f
        ∙ ap (λ x. all ends ends x (suc x) (x + 2) (x + 2 + widths head) k) e)

-- ---- bodies

pub body_done : (types : List Ty) (facts : Facts) (modes : (proc position : ℕ) → Mode) (r r' : Option Declared) (params : List Param) (stmts : Stmts)
    (es : List Owning) (old new : Option (List Line)) (out : Result (List Line) Memory) → old ≡ Some [] → r ≡ r' → es ≡ params_own types facts params →
    IsPut old new (λ k. lines_of types facts modes r stmts (outermost (λ k. own_lines es (returned r k))) 0 (own_lines es (returned r k))) →
    IfOk out (λ b. new ≡ Some b) →
    IfOk out (λ b. b ≡ lines_of types facts modes r' stmts (outermost (λ k. param_ends types facts params (returned r' k))) 0
    (param_ends types facts params (returned r' [])))
body_done types facts modes r r' params stmts es old new (Ok b) e f g put h =
    let all = λ (ends : List Line → List Line) (r : Option Declared) (k : List Line).
    lines_of types facts modes r stmts (outermost (λ k. ends (returned r k))) 0 (ends (returned r k)) in
    finished {E = Memory} new (all (own_lines es) r) (Ok b) (subst (λ o. IsPut o new (all (own_lines es) r)) e put) h
    ∙ ap (λ ends. all ends r []) (ap own_lines g ∙ params_end types facts params)
    ∙ ap (λ x. all (param_ends types facts params) x []) f
body_done types facts modes r r' params stmts es old new (Err m) e f g put h = h

-- ---- blocks that aren't empty

not_empty : (ts : List Ty) (s : RustStmt) (rest : Stmts) → is_empty (stmt_before ts s rest) ≡ false
not_empty ts (S.Do value) rest = refl
not_empty ts (S.Idle node parts) rest = refl
not_empty ts (S.Give node back value) rest = refl
not_empty ts (S.Leave node leaving parts) rest = refl
not_empty ts (S.Declare node place cursor value) rest = refl
not_empty ts (S.If' node p branches q otherwise) rest = refl
not_empty ts (S.Case' node selector p branches q otherwise) rest = refl
not_empty ts (S.Loop' node kind head p body) rest = refl
not_empty ts (S.Raise node exception message) rest = refl
not_empty ts (S.Try' node p body q handlers r last) rest = refl
not_empty ts (S.Defer' node p last) rest = refl

pub some_stmts : (ts : List Ty) (xs : List RustStmt) → 0 < length xs → is_empty (stmts_of ts xs) ≡ false
some_stmts ts [] l = absurd (omega (arith, l))
some_stmts ts (x ∷ xs) l = not_empty ts x (stmts_of ts xs)
