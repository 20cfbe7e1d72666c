-- The places of statements, and their lines: they are of what is built, and for each byte that counts there are two at most.
use Rattle.std.proofs.Common.{◌≡◌, ℕ, suc, ◌+◌, ◌*◌, ◌≤◌, inl, Bool, true, false, ◌&&◌, List, [], ◌∷◌, ◌++◌, Option, Some, None, refl}
use Rattle.std.proofs.Common.{append_assoc, arith}
use Rattle.std.specs.Prelude.{if◌then◌else◌}
use Rattle.nim_types.specs.Types.{Ty, Facts}
use Rattle.nim_program.specs.declared.expr.Node.{Node}
use Rattle.nim_program.specs.declared.operation.Use.{Use}
use Rattle.nim_program.specs.declared.operation.Use.TheVariants.{Owned, Given, Looked}
use Rattle.nim_program.specs.declared.program.Mode.{Mode}
use Rattle.nim_program.specs.declared.stmt.Leaving.{Leaving}
use Rattle.nim_program.specs.declared.stmt.Leaving.TheVariants as V
use Rattle.nim_program.specs.Folds.{numbers, total_in, total_of}
use Rattle.nim_program.specs.Program.{Label, Building, ByConditions, ByLabels, Expr, Args, NoArg, ByValue, ByPath, Declared, Param}
use Rattle.nim_program.specs.Program.{While, Count, Each, Stmt, Do, Idle, Give, Leave, Select, Loop, Raise, Try}
use Rattle.nim_program.specs.Program.{Stmts, Empty, Then, Declare, Defer, Blocks, Otherwise, Block, is_written}
use Rattle.nim_program.specs.Sizes.{type_bytes, own_bytes}
use Rattle.nim_meaning.specs.Here.{is_hooked}
use Rattle.nim_meaning.specs.Meaning.{is_fresh}
use Rattle.nim_meaning.specs.Shapes.{is_covered, selector_type, is_last_block}
use Rattle.nim_meaning.specs.Waiting.{waiting_all, waiting_first}
use Rattle.nim_program.proofs.ForCallers.{sum_of_blocks, in_turn_sum}
use Rattle.flat_code.specs.declared.line.From.{From}
use Rattle.flat_code.specs.declared.line.From.TheVariants as F
use Rattle.flat_code.specs.declared.line.Owning.TheVariants as W
use Rattle.flat_code.specs.declared.line.Line.{Line}
use Rattle.flat_code.specs.declared.line.Line.TheVariants as L
use Rattle.flat_code.specs.declared.place.FlatPlace.{FlatPlace}
use Rattle.flat_code.specs.declared.place.PlaceKind.TheVariants as K
use Rattle.flattening.specs.declared.numbers.Purpose.TheVariants.{End, Next, Arm, Turn}
use Rattle.flattening.specs.ExprLines.{has_hooks, is_copied, value_ends, lines, copied_lines, ready_lines}
use Rattle.flattening.specs.Numbering.{type_number, width, widths, arm_count, width_in, width_of, label, looked_from, selector_from, behind_selector}
use Rattle.flattening.specs.Places.{place, selector_place, element_kind, expr_places, path_places, part_places, read_place, loop_places}
use Rattle.flattening.specs.Places.{stmt_places, block_places}
use Rattle.flattening.specs.Places.{branch_places, arm_places}
use Rattle.flattening.specs.StmtLines.{Exits, leaving_by, ending, in_loop, back_lines, block_tests, second, place_end, head_ends, selector_ends, selector_lines}
use Rattle.flattening.specs.StmtLines.{gets_line, give_lines, fill_lines, hooked_element, element_lines, in_scope, lines_in, lines_of, branch_lines, arm_blocks}
use Rattle.flattening.specs.StmtLines.{number_of, returned, param_ends, outermost}
use Rattle.flat_code.specs.BuiltCode.{is_param, IsBuiltLine}
use Rattle.flat_code.specs.declared.place.PlaceKind.{PlaceKind}
use Rattle.flat_code.specs.Sizes.{kind_bytes}
use Rattle.flattening.proofs.Simple.{never, Alone, LabelledBlocks, IsFine, IsSimple, AreSimple, SmallFirst, IsSimpleStmt, AreSimpleStmts, AreSimpleBlocks}
use Rattle.flattening.proofs.Covers.{known, bytes_least, covers_none, ◌>>◌, ◌~>◌, ◌<~◌, covers_most, covers_as, turned, place_built, fine_bytes}
use Rattle.flattening.proofs.CoversExprs.{C, W, WA, silent, find, tests, ended, value_ended as ends_of, line_if, selected, arm_then, expr, aim, copied, ready}
use Rattle.flattening.proofs.LentPlaces.{owned_list}

module _ (types : List Ty) (facts : Facts) (modes : (proc position : ℕ) → Mode) (globals : List Declared) (result : Option Declared) where
  abbrev S : List FlatPlace → (spare most : ℕ) → (List Line → List Line) → Type 0
  S places spare most front = C types facts modes globals places spare most front

  abbrev WS : Stmt → ℕ
  WS s = total_in numbers (own_bytes facts globals) s

  abbrev WB : Stmts → ℕ
  WB b = total_of numbers (own_bytes facts globals) b

  abbrev WBs : Blocks → ℕ
  WBs blocks = sum_of_blocks numbers (own_bytes facts globals) blocks

  abbrev A : Args → ℕ
  A args = WA types facts modes globals args

  abbrev E : Expr → ℕ
  E e = W types facts modes globals e

  nothing : (line : Line) → IsBuiltLine (known types facts) line → S [] 0 0 (λ k. line ∷ k)
  nothing line r = silent types facts modes globals line r

  told : (e : Expr) (how : Use) (t : ℕ) → IsSimple types facts e → S (expr_places types facts modes e t) 0 (2 * E e) (lines types facts modes e how t)
  told e how t s = covers_most types facts 0 _ (omega arith) (expr types facts modes globals e how t s)

  -- ---- ways out

  pub record CoverNone (exits : Exits) : Type 0 where
    pub breaks : S [] 0 0 exits.breaks
    pub continues : S [] 0 0 exits.continues
    pub returns : S [] 0 0 exits.returns

  inside_loop : (exits : Exits) (t : ℕ) → CoverNone exits → CoverNone (in_loop exits t)
  inside_loop exits t x =
      record { breaks = nothing (L.Jump (label End t)) tt; continues = nothing (L.Jump (label Next t)) tt; returns = x.returns }

  -- something more ends around
  more : (exits : Exits) {f : List Line → List Line} → S [] 0 0 f → CoverNone exits → CoverNone (ending f exits)
  more exits f x = record { breaks = f ~> x.breaks; continues = f ~> x.continues; returns = f ~> x.returns }

  place_ended : (place : Declared) → S [] 0 0 (place_end types facts place)
  place_ended place =
      line_if types facts modes globals (is_hooked facts place.of) (L.Own (W.PlaceEnds place.number (type_number types place.of)) []) tt

  in_place : (place : Declared) (exits : Exits) → CoverNone exits → CoverNone (in_scope types facts modes result place exits)
  in_place place exits x = more exits (place_ended place) x

  head_ended : (head : Args) → S [] 0 0 (head_ends types facts modes result head)
  head_ended head = ended types facts modes globals (waiting_all facts modes head (λ i. Owned) 0)

  selector_ended : (tests : Args) → S [] 0 0 (selector_ends types facts modes result tests)
  selector_ended tests = ended types facts modes globals (waiting_first facts modes tests)

  value_ended : (e : Expr) (how : Use) → S [] 0 0 (value_ends types facts modes e how)
  value_ended e how = ends_of types facts modes globals e how

  params_ended : (params : List Param) → S [] 0 0 (param_ends types facts params)
  params_ended [] = covers_none types facts
  params_ended (param ∷ params) = params_ended params ~> place_ended param.place

  returned_is : S [] 0 0 (returned result)
  returned_is = nothing (L.Return (number_of result)) tt

  pub all_returned : (params : List Param) → S [] 0 0 (λ k. param_ends types facts params (returned result k))
  all_returned params = params_ended params ~> returned_is

  pub ends : (params : List Param) → CoverNone (outermost (λ k. param_ends types facts params (returned result k)))
  ends params = record {
    breaks = covers_none types facts;
    continues = covers_none types facts;
    returns = all_returned params;
  }

  leaving : (exits : Exits) (way : Leaving) → CoverNone exits → S [] 0 0 (leaving_by exits way)
  leaving exits V.Break x = x.breaks
  leaving exits V.Continue x = x.continues
  leaving exits V.Return x = x.returns

  back : (exits : Exits) (b : Bool) → CoverNone exits → S [] 0 0 (back_lines exits b)
  back exits true x = x.returns
  back exits false x = covers_none types facts

  -- the result gets a value
  got : (place : Option Declared) (hooked : Bool) (from : From) → S [] 0 0 (gets_line types facts modes result place hooked from)
  got None hooked from = covers_none types facts
  got (Some place) true from = nothing (L.Own (W.ResultGets place.number (type_number types place.of)) (from ∷ [])) tt
  got (Some place) false (F.Value t) = nothing (L.Give place.number t) tt
  got (Some place) false (F.Place t) = covers_none types facts

  -- what is copied, and what is evaluated
  either : {xs : List FlatPlace} {r m : ℕ} (F G : List Line → List Line) (b : Bool) → S xs r m F → S xs r m G → S xs r m (λ k. if b then F k else G k)
  either F G true p q = p
  either F G false p q = q

  put : (e : Expr) (t : ℕ) {F G : List Line → List Line} → IsSimple types facts e → S [] 0 0 F → S [] 0 0 G →
      S (expr_places types facts modes e t) 0 (2 * E e)
      (λ k. if is_copied facts Given e then copied_lines types facts modes e t (F k) else lines types facts modes e Given t (G k))
  put e t {F} {G} s f g =
      let comes = expr types facts modes globals e Given t s in
      covers_most types facts 0 _ (omega arith)
      (either (λ k. copied_lines types facts modes e t (F k)) (λ k. lines types facts modes e Given t (G k)) (is_copied facts Given e)
      (copied types facts modes globals e t s comes <~ f) (comes <~ g))

  given : (e : Expr) (t : ℕ) → IsSimple types facts e → S (expr_places types facts modes e t) 0 (2 * E e) (give_lines types facts modes result e t)
  given e t s = put e t s (got result true (F.Place (suc t))) (got result (has_hooks facts e) (F.Value t))

  filled : (place : Declared) (e : Expr) (t : ℕ) → IsSimple types facts e →
      S (expr_places types facts modes e t) 0 (2 * E e) (fill_lines types facts modes result place e t)
  filled place e t s =
      put e t s (nothing (L.Own (W.PlaceCopies place.number (type_number types place.of)) (F.Place (suc t) ∷ [])) tt) (nothing (L.Fill place.number t) tt)

  tests_of_blocks : (labels : List (List Label)) (blocks : Blocks) (s a : ℕ) → S [] 0 0 (block_tests labels blocks s a)
  tests_of_blocks labels (Otherwise block) s a = covers_none types facts
  tests_of_blocks [] (Block first rest) s a = covers_none types facts
  tests_of_blocks (these ∷ labels) (Block first rest) s a =
      tests types facts modes globals these s (label Arm a) ~> tests_of_blocks labels rest s (suc a)

  -- ---- heads

  -- what a `case` chooses by
  selector : (args : Args) (t : ℕ) → Alone args → AreSimple types facts args → SmallFirst types facts args →
      S (selector_place types facts modes args t ++ part_places types facts modes args (selector_from args t)) 0 (2 * A args)
      (selector_lines types facts modes result args t)
  selector NoArg t alone s small = absurd alone
  selector (ByValue e NoArg) t alone s small = covers_most types facts 0 _ (omega arith) (told e Looked t s.0 >> covers_none types facts)
  selector (ByValue e (ByValue other rest)) t alone s small = absurd alone
  selector (ByValue e (ByPath path rest)) t alone s small = absurd alone
  selector (ByPath path NoArg) t alone s small =
      let n = looked_from path t in
      covers_as types facts (append_assoc (read_place types facts modes false path t) (path_places types facts modes path n) [])
      (covers_most types facts 0 _ (omega arith)
      (selected types facts modes globals path t n s.0 (aim types facts modes globals path n s.0) small >> covers_none types facts))
  selector (ByPath path (ByValue other rest)) t alone s small = absurd alone
  selector (ByPath path (ByPath other rest)) t alone s small = absurd alone

  -- the operands of a head
  parts : (head : Args) (t : ℕ) → AreSimple types facts head →
      S (part_places types facts modes head t) 0 (2 * A head) (ready_lines types facts modes (Building []) head (λ i. Owned) 0 t)
  parts head t s =
      covers_as types facts (owned_list types facts modes head 0 t)
      (ready types facts modes globals (Building []) head (λ i. Owned) 0 t s)

  -- the condition of a `while`
  condition : (e : Expr) (rest : Args) (t : ℕ) → Alone (ByValue e rest) → AreSimple types facts (ByValue e rest) →
      S (part_places types facts modes (ByValue e rest) t) 0 (2 * A (ByValue e rest)) (lines types facts modes e Owned t)
  condition e NoArg t alone s = covers_most types facts 0 _ (omega arith) (told e Owned t s.0 >> covers_none types facts)
  condition e (ByValue other rest) t alone s = absurd alone
  condition e (ByPath path rest) t alone s = absurd alone

  -- the places of a turn over elements
  element_places : (node : Node) (variable : Declared) (head : Args) (t : ℕ) → IsFine types facts variable.of →
      S (loop_places types facts modes node (Each variable) head t) 0 (2 * (8 + type_bytes facts variable.of)) (λ k. k)
  element_places node variable head t f =
      let kind = element_kind types facts modes variable head in
      let k = element_is head in
      let l = bytes_least facts variable.of in record {
        built = (place_built types facts modes None t node kind variable.of f, (inl refl, (inl refl, tt)));
        lines = λ k h. h;
        bytes = (let e = fine_bytes types facts modes None t node kind variable.of f k.0 in let m = k.1 in omega (arith, e, l, m));
      }
    where
      Fits : PlaceKind → Type 0
      Fits kind = (is_param kind ≡ false) × (kind_bytes kind (type_bytes facts variable.of) ≤ 4 + type_bytes facts variable.of)

      located : (b : Bool) → Fits (if b then K.Location else K.Within)
      located true = (refl, omega arith)
      located false = (refl, omega arith)

      either_kind : (b c : Bool) → Fits (if b then (if c then K.Location else K.Within) else K.Temp)
      either_kind true c = located c
      either_kind false c = (refl, omega arith)

      element_is : (head : Args) → Fits (element_kind types facts modes variable head)
      element_is (ByPath path rest) = either_kind (is_hooked facts variable.of) (is_written path)
      element_is NoArg = (refl, omega arith)
      element_is (ByValue value rest) = (refl, omega arith)

  -- a place gets an element
  element : (borrows : Bool) (place : Declared) (t head counter : ℕ) → S [] 0 0 (element_lines types facts modes result borrows place t head counter)
  element borrows place t head counter =
      either (λ k. L.Item t head counter ∷ hooked_element types facts modes result borrows place t ∷ k)
      (λ k. L.Element t head counter ∷ L.Fill place.number t ∷ k) (is_hooked facts place.of)
      (nothing (L.Item t head counter) tt ~> hooked borrows) (nothing (L.Element t head counter) tt ~> nothing (L.Fill place.number t) tt)
    where
      hooked : (borrows : Bool) → S [] 0 0 (λ k. hooked_element types facts modes result borrows place t ∷ k)
      hooked true = nothing (L.Own (W.PlaceStands place.number) (F.Place t ∷ [])) tt
      hooked false = nothing (L.Own (W.PlaceCopies place.number (type_number types place.of)) (F.Place t ∷ [])) tt

  -- behind the last block nothing follows
  last_none : (covered : Bool) (rest : Blocks) (u : ℕ) → covered && is_last_block rest ≡ true → arm_places types facts modes rest u ≡ []
  last_none true (Otherwise Empty) u h = refl
  last_none true (Otherwise (Then first rest)) u h = never h
  last_none true (Otherwise (Declare node place cursor value rest)) u h = never h
  last_none true (Otherwise (Defer node last rest)) u h = never h
  last_none true (Block first rest) u h = never h
  last_none false rest u h = never h

  mutual
    pub stmt : (s : Stmt) (exits : Exits) (t : ℕ) → IsSimpleStmt types facts s → CoverNone exits →
        S (stmt_places types facts modes s t) 0 (2 * WS s) (lines_in types facts modes result s exits t)
    stmt (Do e) exits t s x = told e Owned t s <~ value_ended e Owned
    stmt (Idle node parts) exits t s x = covers_most types facts 0 _ (omega arith) (covers_none types facts)
    stmt (Give node b e) exits t s x =
        covers_most types facts 0 _ (omega arith) (given e (suc t) s <~ (value_ended e Given ~> back exits b x))
    stmt (Leave node way parts) exits t s x = covers_most types facts 0 _ (omega arith) (leaving exits way x)
    stmt (Select node ByConditions tests blocks) exits t s x =
        let j = in_turn_sum (own_bytes facts globals) tests blocks in
        covers_most types facts 0 _ (omega (arith, j)) (branches tests blocks exits t (suc t) s.1 s.2 x <~ nothing (L.Label (label End t)) tt)
    stmt (Select node (ByLabels labels) tests blocks) exits t s x =
        let u = suc t + arm_count (ByLabels labels) in
        let j = in_turn_sum (own_bytes facts globals) tests blocks in
        let e = selector_ended tests in
        covers_as types facts
        (append_assoc (selector_place types facts modes tests u) (part_places types facts modes tests (selector_from tests u))
        (arm_places types facts modes blocks (behind_selector tests u)))
        (covers_most types facts 0 _ (omega (arith, j))
        (selector tests u s.3.0 s.1 s.3.1
        >> (tests_of_blocks labels blocks u (suc t)
        ~> (nothing (L.Jump (label Next t)) tt
        ~> (arms (is_covered (selector_type tests)) labels blocks (ending (selector_ends types facts modes result tests) exits) t (suc t)
        (behind_selector tests u) s.2 s.3.2 (more exits e x) <~ (nothing (L.Label (label End t)) tt ~> e))))))
    stmt (Loop node While NoArg body) exits t s x = absurd s.0
    stmt (Loop node While (ByPath path rest) body) exits t s x = absurd s.0
    stmt (Loop node While (ByValue e rest) body) exits t s x =
        let head = ByValue e rest in
        turned types facts (part_places types facts modes head (suc t)) (block_places types facts modes body (suc t + widths head))
        (covers_most types facts 0 _ (omega arith)
        (nothing (L.Jump (label Next t)) tt
        ~> (nothing (L.Label (label Turn t)) tt
        ~> (block body (in_loop exits t) (suc t + widths head) s.3 (inside_loop exits t x)
        >> (nothing (L.Label (label Next t)) tt
        ~> (condition e rest (suc t) s.4 s.2
        <~ (value_ended e Owned ~> (nothing (L.TurnIf (suc t) (label Turn t)) tt ~> nothing (L.Label (label End t)) tt))))))))
    stmt (Loop node (Count place inclusive) head body) exits t s x =
        let last = second head (suc t) in
        let e = head_ended head in
        let inner = in_loop (ending (head_ends types facts modes result head) exits) t in
        covers_most types facts 0 _ (omega arith)
        (parts head (suc t) s.2
        >> (nothing (L.Beyond (suc t) last inclusive (label End t)) tt
        ~> (nothing L.Enter tt
        ~> (nothing (L.Label (label Turn t)) tt
        ~> (nothing (L.Fill place.number (suc t)) tt
        ~> (block body (in_scope types facts modes result place inner) (suc t + widths head) s.3
        (in_place place inner (inside_loop (ending (head_ends types facts modes result head) exits) t (more exits e x)))
        <~ (place_ended place
        ~> (nothing (L.Label (label Next t)) tt
        ~> (nothing (L.CountTurn (suc t) last inclusive (label Turn t)) tt ~> (nothing (L.Label (label End t)) tt ~> e))))))))))
    stmt (Loop node (Each place) NoArg body) exits t s x = absurd s.0
    stmt (Loop node (Each place) (ByValue e rest) body) exits t s x = absurd s.0
    stmt (Loop node (Each place) (ByPath path rest) body) exits t s x =
        let head = ByPath path rest in
        let at = suc t + 2 in
        let last = suc (suc t) in
        let e = head_ended head in
        let inner = in_loop (ending (head_ends types facts modes result head) exits) t in
        covers_most types facts 0 _ (omega arith)
        (element_places node place head t s.1
        >> (parts head at s.2
        >> (find types facts modes globals path at s.2.0
        ~> (nothing (L.Length last at) tt
        ~> (nothing (L.Zero (suc t)) tt
        ~> (nothing (L.Jump (label Arm t)) tt
        ~> (nothing (L.Label (label Turn t)) tt
        ~> (block body (in_scope types facts modes result place inner) (at + widths head) s.3
        (in_place place inner (inside_loop (ending (head_ends types facts modes result head) exits) t (more exits e x)))
        <~ (place_ended place
        ~> (nothing (L.Label (label Next t)) tt
        ~> (nothing (L.Next (suc t) last) tt
        ~> (nothing (L.Label (label Arm t)) tt
        ~> (nothing (L.Beyond (suc t) last false (label End t)) tt
        ~> (find types facts modes globals path at s.2.0
        ~> (nothing (L.Still at last) tt
        ~> (element (is_fresh head) place t at (suc t)
        ~> (nothing (L.Turn (label Turn t)) tt ~> (nothing (L.Label (label End t)) tt ~> e))))))))))))))))))
    stmt (Raise node exception message) exits t s x = absurd s
    stmt (Try node body handlers last) exits t s x = absurd s

    pub block : (b : Stmts) (exits : Exits) (t : ℕ) → AreSimpleStmts types facts b → CoverNone exits →
        S (block_places types facts modes b t) 0 (2 * WB b) (lines_of types facts modes result b exits t)
    block Empty exits t s x = covers_none types facts
    block (Then first rest) exits t s x =
        covers_most types facts 0 _ (omega arith) (stmt first exits t s.0 x >> block rest exits (t + width_in first) s.1 x)
    block (Declare node place cursor NoArg rest) exits t s x =
        covers_most types facts 0 _ (omega arith)
        (nothing (L.Blank place.number (type_number types place.of)) tt
        ~> (block rest (in_scope types facts modes result place exits) (suc t) s.2 (in_place place exits x) <~ place_ended place))
    block (Declare node place cursor (ByValue e rest') rest) exits t s x =
        covers_most types facts 0 _ (omega arith)
        (filled place e (suc t) s.1.0
        >> (value_ended e Given
        ~> (block rest (in_scope types facts modes result place exits) (suc t + widths (ByValue e rest')) s.2 (in_place place exits x)
        <~ place_ended place)))
    block (Declare node place cursor (ByPath path more) rest) exits t s x = absurd s.3
    block (Defer node last rest) exits t s x = absurd s

    branches : (tests : Args) (blocks : Blocks) (exits : Exits) (t u : ℕ) → AreSimple types facts tests → AreSimpleBlocks types facts blocks →
        CoverNone exits →
        S (branch_places types facts modes tests blocks u) 0 (2 * (A tests + WBs blocks)) (branch_lines types facts modes result tests blocks exits t u)
    branches NoArg (Otherwise b) exits t u s c x = covers_most types facts 0 _ (omega arith) (block b exits u c x)
    branches NoArg (Block first rest) exits t u s c x = covers_most types facts 0 _ (omega arith) (block first exits u c.0 x)
    branches (ByPath path tests) blocks exits t u s c x = covers_most types facts 0 _ (omega arith) (covers_none types facts)
    branches (ByValue e tests) (Otherwise b) exits t u s c x = covers_most types facts 0 _ (omega arith) (covers_none types facts)
    branches (ByValue e tests) (Block first rest) exits t u s c x =
        covers_most types facts 0 _ (omega arith)
        (told e Owned u s.0
        >> (value_ended e Owned
        ~> (nothing (L.Unless u (label Arm u)) tt
        ~> (block first exits (u + width e) c.0 x
        >> (nothing (L.Jump (label End t)) tt
        ~> (nothing (L.Label (label Arm u)) tt ~> branches tests rest exits t (u + width e + width_of first) s.1 c.1 x))))))

    arms : (covered : Bool) (labels : List (List Label)) (blocks : Blocks) (exits : Exits) (t a u : ℕ) → AreSimpleBlocks types facts blocks →
        LabelledBlocks labels blocks → CoverNone exits →
        S (arm_places types facts modes blocks u) 0 (2 * WBs blocks) (arm_blocks types facts modes result covered labels blocks exits t a u)
    arms covered labels (Otherwise b) exits t a u c l x = nothing (L.Label (label Next t)) tt ~> block b exits u c x
    arms covered [] (Block first rest) exits t a u c l x = absurd l
    arms covered (these ∷ labels) (Block first rest) exits t a u c l x =
        covers_most types facts 0 _ (omega arith)
        (arm_then types facts modes globals (covered && is_last_block rest) (label Next t) (label Arm a)
        (arm_places types facts modes rest (u + width_of first))
        (2 * WBs rest)
        (block first exits u c.0 x)
        (last_none covered rest (u + width_of first))
        (nothing (L.Jump (label End t)) tt ~> arms covered labels rest exits t (suc a) (u + width_of first) c.1 l x))
