-- What waits in a body has, with a word for each and with the places that it declares, at most twice the bytes that count.
use Rattle.std.proofs.Common.{ℕ, suc, ◌+◌, ◌*◌, ◌≤◌, Bool, true, false, List, ◌++◌, arith}
use Rattle.std.specs.Prelude.{if◌then◌else◌}
use Rattle.nim_types.specs.Types.{Ty, Facts}
use Rattle.nim_types.specs.Table.{type_at as type_by_number}
use Rattle.nim_program.specs.declared.expr.Node.{Node}
use Rattle.nim_program.specs.declared.program.Mode.{Mode}
use Rattle.nim_program.specs.Program.{Args, NoArg, ByValue, ByPath, ByConditions, ByLabels, Declared, Kind, While, Count, Each, Stmt, Do, Idle, Give, Leave}
use Rattle.nim_program.specs.Program.{Select}
use Rattle.nim_program.specs.Program.{Loop, Raise, Try, Stmts, Empty, Then, Declare, Defer, Blocks, Otherwise, Block, Param, Body}
use Rattle.nim_program.specs.Folds.{Seen, numbers, lists, totals, total_in, total_of, own_places}
use Rattle.nim_program.specs.Sizes.{type_bytes, own_bytes, is_global}
use Rattle.nim_program.proofs.ForCallers.{in_turn_sum, sum_of_blocks}
use Rattle.nim_meaning.specs.Here.{is_hooked}
use Rattle.flat_code.specs.declared.place.PlaceKind.TheVariants as K
use Rattle.flat_code.specs.declared.place.FlatPlace.{FlatPlace}
use Rattle.flat_code.specs.BuiltCode.{waiting_bytes}
use Rattle.flat_code.specs.Sizes.{lent_bytes, places_bytes}
use Rattle.flattening.specs.Numbering.{type_number, width, widths, arm_count, selector_from, behind_selector, width_in, width_of}
use Rattle.flattening.specs.PlaceViews.{declared_by, declared_in, declared_in_blocks}
use Rattle.flattening.specs.Places.{head_from, selector_place, expr_places, part_places, loop_places, value_places, behind_value, stmt_places, block_places}
use Rattle.flattening.specs.Places.{branch_places, arm_places, own_declared, param_places, result_places, body_places}
use Rattle.flattening.proofs.BuiltBodies.{block_small, blocks_small}
use Rattle.flattening.proofs.Covers.{bytes_both}
use Rattle.flattening.proofs.Declared.{block_like}
use Rattle.flattening.proofs.Simple.{IsSimpleStmt, AreSimpleStmts, AreSimpleBlocks}
use Rattle.flattening.proofs.WaitSums.{known, held, words_few, number_bytes, both, expr_few, parts_few, selector_none, loop_none, declared_few, likes_none}
use Rattle.flattening.proofs.WaitSums.{params_none, result_none}

module _ (types : List Ty) (facts : Facts) (modes : (proc position : ℕ) → Mode) (sinks : List ℕ) (globals : List Declared) where
  abbrev own : Seen → ℕ
  own = own_bytes facts globals

  abbrev waits : List FlatPlace → ℕ
  waits ps = held types facts modes globals ps

  abbrev bytes : List FlatPlace → ℕ
  bytes ps = places_bytes (known types facts modes globals) ps

  abbrev by_stmt : Stmt → List FlatPlace
  by_stmt s = declared_by types facts modes (is_global globals) s

  abbrev by_block : Stmts → List FlatPlace
  by_block b = declared_in types facts modes (is_global globals) b

  abbrev by_blocks : Blocks → List FlatPlace
  by_blocks blocks = declared_in_blocks types facts modes (is_global globals) blocks

  -- what is declared, with what waits
  abbrev Small : (declared temporaries : List FlatPlace) → ℕ → Type 0
  Small ds ps n = bytes ds + 2 * waits ps ≤ 2 * n

  local_bytes : (b c hooked : Bool) (n m : ℕ) → n ≤ m →
      lent_bytes (if b then K.Global else if c then K.Cursor else K.Local) hooked n ≤ (if b then 0 else m)
  local_bytes true c hooked n m l = omega arith
  local_bytes false true hooked n m l = l
  local_bytes false false hooked n m l = l

  -- a loop, but for its own place
  loop_waits : (node : Node) (kind : Kind) (head : Args) (body : Stmts) (t : ℕ) →
      Small (by_block body) (block_places types facts modes body (head_from kind t + widths head)) (total_of numbers own body) →
      Small (by_block body) (stmt_places types facts modes (Loop node kind head body) t) (totals numbers own head + total_of numbers own body)
  loop_waits node kind head body t h =
      let turns = loop_places types facts modes node kind head t in
      let values = part_places types facts modes head (head_from kind t) in
      let inner = block_places types facts modes body (head_from kind t + widths head) in
      let e = both types facts modes globals turns (values ++ inner) in
      let f = both types facts modes globals values inner in
      let c = loop_none types facts modes globals node kind head t in
      let v = parts_few types facts modes globals head (head_from kind t) in
      omega (arith, e, f, c, v, h)

  mutual
    stmt_waits : (s : Stmt) (t : ℕ) → IsSimpleStmt types facts s → Small (by_stmt s) (stmt_places types facts modes s t) (total_in numbers own s)
    stmt_waits (Do value) t s = let h = expr_few types facts modes globals value t in omega (arith, h)
    stmt_waits (Idle node parts) t s = omega arith
    stmt_waits (Give node back value) t s = let h = expr_few types facts modes globals value (suc t) in omega (arith, h)
    stmt_waits (Leave node leaving parts) t s = omega arith
    stmt_waits (Select node ByConditions tests blocks) t s =
        let h = branch_waits tests blocks (suc t) s.2 in
        let j = in_turn_sum own tests blocks in
        omega (arith, h, j)
    stmt_waits (Select node (ByLabels labels) tests blocks) t s =
        let u = suc t + arm_count (ByLabels labels) in
        let chosen = selector_place types facts modes tests u in
        let values = part_places types facts modes tests (selector_from tests u) in
        let arms = arm_places types facts modes blocks (behind_selector tests u) in
        let e = both types facts modes globals chosen (values ++ arms) in
        let f = both types facts modes globals values arms in
        let c = selector_none types facts modes globals tests u in
        let v = parts_few types facts modes globals tests (selector_from tests u) in
        let h = arms_wait blocks (behind_selector tests u) s.2 in
        let j = in_turn_sum own tests blocks in
        omega (arith, e, f, c, v, h, j)
    stmt_waits (Loop node While head body) t s =
        let h = loop_waits node While head body t (block_waits body (head_from While t + widths head) s.3) in omega (arith, h)
    stmt_waits (Loop node (Count variable inclusive) head body) t s =
        let h = loop_waits node (Count variable inclusive) head body t (block_waits body (head_from (Count variable inclusive) t + widths head) s.3) in
        let n = number_bytes facts types variable.of in
        omega (arith, h, n)
    stmt_waits (Loop node (Each variable) head body) t s =
        let h = loop_waits node (Each variable) head body t (block_waits body (head_from (Each variable) t + widths head) s.3) in
        let n = number_bytes facts types variable.of in
        omega (arith, h, n)
    stmt_waits (Raise node exception message) t s = absurd s
    stmt_waits (Try node body handlers last) t s = absurd s

    pub block_waits : (b : Stmts) (t : ℕ) → AreSimpleStmts types facts b → Small (by_block b) (block_places types facts modes b t) (total_of numbers own b)
    block_waits Empty t s = omega arith
    block_waits (Then first rest) t s =
        let e = both types facts modes globals (stmt_places types facts modes first t) (block_places types facts modes rest (t + width_in first)) in
        let d = bytes_both types facts (by_stmt first) (by_block rest) in
        let h = stmt_waits first t s.0 in
        let i = block_waits rest (t + width_in first) s.1 in
        omega (arith, e, d, h, i)
    block_waits (Declare node d cursor value rest) t s =
        let u = behind_value types facts modes value t in
        let e = both types facts modes globals (value_places types facts modes value (suc t)) (block_places types facts modes rest u) in
        let v = declared_few types facts modes globals value (suc t) in
        let i = block_waits rest u s.2 in
        let l = local_bytes (is_global globals d.number) cursor (is_hooked facts d.of) (type_bytes facts (type_by_number types (type_number types d.of)))
        (type_bytes facts d.of) (number_bytes facts types d.of) in
        omega (arith, e, v, i, l)
    block_waits (Defer node last rest) t s = absurd s

    branch_waits : (tests : Args) (blocks : Blocks) (t : ℕ) → AreSimpleBlocks types facts blocks →
        Small (by_blocks blocks) (branch_places types facts modes tests blocks t) (totals numbers own tests + sum_of_blocks numbers own blocks)
    branch_waits NoArg (Otherwise block) t s = let h = block_waits block t s in omega (arith, h)
    branch_waits NoArg (Block first rest) t s =
        let d = bytes_both types facts (by_block first) (by_blocks rest) in
        let h = block_waits first t s.0 in
        let i = (blocks_small types facts modes sinks globals rest s.1).1 in
        omega (arith, d, h, i)
    branch_waits (ByPath path tests) blocks t s = let i = (blocks_small types facts modes sinks globals blocks s).1 in omega (arith, i)
    branch_waits (ByValue condition tests) (Otherwise block) t s = let i = (block_small types facts modes sinks globals block s).1 in omega (arith, i)
    branch_waits (ByValue condition tests) (Block first rest) t s =
        let here = block_places types facts modes first (t + width condition) in
        let others = branch_places types facts modes tests rest (t + width condition + width_of first) in
        let d = bytes_both types facts (by_block first) (by_blocks rest) in
        let e = both types facts modes globals (expr_places types facts modes condition t) (here ++ others) in
        let f = both types facts modes globals here others in
        let c = expr_few types facts modes globals condition t in
        let h = block_waits first (t + width condition) s.0 in
        let i = branch_waits tests rest (t + width condition + width_of first) s.1 in
        omega (arith, d, e, f, c, h, i)

    arms_wait : (blocks : Blocks) (t : ℕ) → AreSimpleBlocks types facts blocks →
        Small (by_blocks blocks) (arm_places types facts modes blocks t) (sum_of_blocks numbers own blocks)
    arms_wait (Otherwise block) t s = let h = block_waits block t s in omega (arith, h)
    arms_wait (Block first rest) t s =
        let d = bytes_both types facts (by_block first) (by_blocks rest) in
        let e = both types facts modes globals (block_places types facts modes first t) (arm_places types facts modes rest (t + width_of first)) in
        let h = block_waits first t s.0 in
        let i = arms_wait rest (t + width_of first) s.1 in
        omega (arith, d, e, h, i)

  -- of all places of a body the temporaries alone wait
  pub body_waits : (params : List Param) (body : Body) → AreSimpleStmts types facts body.stmts →
      bytes (by_block body.stmts) + waiting_bytes (known types facts modes globals) (body_places types facts modes sinks globals params body)
      ≤ 2 * total_of numbers own body.stmts
  body_waits params body s =
      let declared = total_of lists (own_declared types facts modes globals) body.stmts in
      let mine = param_places types facts modes sinks params in
      let back = result_places types facts modes body.result in
      let temporaries = block_places types facts modes body.stmts 0 in
      let e = both types facts modes globals mine (back ++ (declared ++ temporaries)) in
      let f = both types facts modes globals back (declared ++ temporaries) in
      let g = both types facts modes globals declared temporaries in
      let m = params_none types facts modes globals sinks params in
      let b = result_none types facts modes globals body.result in
      let d = likes_none types facts modes globals declared (total_of lists own_places body.stmts) (block_like types facts modes globals body.stmts) in
      let h = block_waits body.stmts 0 s in
      let w = words_few types facts modes globals (body_places types facts modes sinks globals params body) in
      omega (arith, e, f, g, m, b, d, h, w)
