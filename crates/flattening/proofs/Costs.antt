-- What the lines of a part take, of what the part has: how much for each line, how much each part has, and that a part has enough for its own lines
-- beside its parts. Some of it is spared, for the operation that the part is an operand of, and for the ends of what waits in it.
use Rattle.std.specs.Prelude.{ℤ, if◌then◌else◌}
use Rattle.std.proofs.Common.{◌≡◌, ℕ, suc, ◌+◌, ◌≤◌, ◌⊎◌, inl, Bool, true, false, List, [], ◌∷◌, Option, Some, None, sym, ap, ◌∙◌, arith}
use Rattle.std.proofs.lemmas.Bool.{both_ways}
use Rattle.nim_types.specs.Types.{Ty, Facts}
use Rattle.nim_program.specs.declared.expr.Node.{Node}
use Rattle.nim_program.specs.declared.operation.Short.TheVariants.{And, Or}
use Rattle.nim_program.specs.declared.operation.Use.TheVariants.{Owned}
use Rattle.nim_program.specs.declared.program.Mode.{Mode}
use Rattle.nim_program.specs.declared.stmt.Leaving.{Leaving}
use Rattle.nim_program.specs.declared.stmt.Leaving.TheVariants as K
use Rattle.nim_program.specs.Program.{Literal, Label, Act, Calling, ByConditions, ByLabels, Expr, Apply, Read, Early, Choose}
use Rattle.nim_program.specs.Program.{Path, Variable, Fresh, Field, Element, Deref, Args, NoArg, ByValue, ByPath, Declared, Chooser, Kind}
use Rattle.nim_program.specs.Program.{While, Count, Each, Stmt, Do, Give, Leave, Select, Loop, Stmts, Then, Declare, Blocks, Otherwise, Block}
use Rattle.nim_program.specs.Program.{type_at, types_in, constant_in}
use Rattle.nim_program.specs.Uses.{use_of}
use Rattle.nim_meaning.specs.Here.{is_hooked}
use Rattle.nim_meaning.specs.Waiting.{Wait, waiting_all, waiting_first}
use Rattle.flat_code.specs.declared.line.From.{From}
use Rattle.flat_code.specs.declared.line.UseAt.{UseAt}
use Rattle.flat_code.specs.declared.line.Owning.TheVariants as W
use Rattle.flat_code.specs.declared.line.Line.{Line}
use Rattle.flat_code.specs.declared.line.Line.TheVariants as L
use Rattle.flat_code.specs.declared.line.Piece.TheVariants as P
use Rattle.flat_code.specs.Whole.{label_in, target, back_to}
use Rattle.flattening.specs.declared.numbers.Purpose.TheVariants.{Arm, End, Next, Turn}
use Rattle.flat_code.specs.Alike.{value_name, location_name, name_of, gives_text}
use Rattle.flattening.specs.Counted.{all_ends}
use Rattle.flattening.specs.ExprLines.{froms, begin_line, act_line, none_fits, handed_on, written_label}
use Rattle.flattening.specs.Numbering.{type_number, if_number, width, width_at, widths, arm_count, width_in, width_of, label, looked_from, behind_selector}
use Rattle.flattening.specs.StmtLines.{second}
use Rattle.flattening.specs.Formed.{HasSelector, HeadFits}
use Rattle.flattening.proofs.LineNames.{IsQuiet, CountsFrom}

abbrev pub Front : Type 0
Front = List Line → List Line

-- so much for each line by which a path is looked up
abbrev pub steps : List Ty → Facts → (cost : Line → (t : ℕ) → ℕ) → Path → (t : ℕ) → ℕ
steps types facts cost (Variable node ty place global) t = cost (L.Root t place global) t
steps types facts cost (Fresh value) t = cost (begin_line types facts (constant_in value) value t) t
steps types facts cost (Field node ty base field) t = steps types facts cost base (suc t) + cost (L.Part t (suc t) field) t
steps types facts cost (Element node ty base index constant) t =
    steps types facts cost base (suc t) + cost (L.Item t (suc t) (suc t + width_at base)) t
steps types facts cost (Deref ty base) t = steps types facts cost base (suc t) + cost (L.Object t (suc t)) t

-- the tests of all branches
abbrev pub all_tests : (cost : List Label → ℕ) → List (List Label) → ℕ
all_tests cost [] = 0
all_tests cost (labels ∷ rest) = cost labels + all_tests cost rest

pub record Costs (types : List Ty) (facts : Facts) (modes : (proc position : ℕ) → Mode) : Type 1 where
  -- a line that gives no name, or a value that is given so already; one that leads a temporary somewhere, and once more; a label; a value that is new
  pub line : Line → ℕ
  pub lead : Line → (t : ℕ) → ℕ
  pub again : Line → (t : ℕ) → ℕ
  pub mark : (label : ℕ) → ℕ
  pub value : (t : ℕ) → ℕ
  -- the tests of labels, and the branches that have labels
  pub tests : List Label → ℕ
  pub branches : List (List Label) → ℕ
  pub arms : List (List Label) → (t : ℕ) → ℕ
  -- What is spared before a part with numbers from t on; for an operation; for lending a value; for operands; and for reading at a path.
  pub begin : (t : ℕ) → ℕ
  pub spare : (t : ℕ) → ℕ
  pub lent : (t : ℕ) → ℕ
  pub held : Args → (t : ℕ) → ℕ
  pub get : ℕ
  -- that a call's value waits; that an operation takes what waits; and that what waits ends, or a place does
  pub waited : Act → ℕ
  pub taken : ℕ
  pub ended : ℕ
  -- and what the last branch of a choice, as it is handed on, takes of the choice
  pub last : ℕ
  -- that a place is filled, the result given, and an element taken
  pub filled : ℕ
  pub given : ℕ
  pub element : (t : ℕ) → ℕ
  -- what is around a statement, and what leaving takes there
  pub Ways : Type 0
  pub leaving : Leaving → Ways → ℕ
  pub in_place : Declared → Ways → Ways
  pub in_group : List Wait → Ways → Ways
  pub in_loop : Ways → Ways
  -- what parts have
  pub of_expr : Expr → (t : ℕ) → ℕ
  pub of_path : Path → (t : ℕ) → ℕ
  pub of_fresh : Option Literal → Expr → (t : ℕ) → ℕ
  pub of_args : Args → (t : ℕ) → ℕ
  pub of_chosen : Args → (t : ℕ) → ℕ
  pub of_stmt : Stmt → Ways → (t : ℕ) → ℕ
  pub of_block : Stmts → Ways → (t : ℕ) → ℕ
  pub of_blocks : Blocks → Ways → (t : ℕ) → ℕ
  pub of_turns : Args → Blocks → Ways → (t : ℕ) → ℕ
  pub next_spare : (t : ℕ) → spare t + value t ≤ spare (suc t)
  -- what waits
  pub waits : (proc : ℕ) (of : List Ty) (node : ℕ) (from : List From) → line (L.Own (W.Waits node) from) ≤ waited (Calling proc of)
  pub takes : (node : ℕ) → line (L.Own (W.TakenUp node) []) ≤ taken
  pub ends : (node ty : ℕ) → line (L.Own (W.TemporaryEnds node ty) []) ≤ ended
  pub lends : (t : ℕ) (node : Option ℕ) → lead (L.Fresh t t node) t ≤ lent t
  pub lends_text : (t ty : ℕ) (how : UseAt) (text : List ℕ) →
      lead (L.Standing t ty (P.Text text ∷ [])) t ≤ lent t + line (L.Constant t how ty (P.Text text ∷ []))
  -- expressions
  pub applies : (node : Node) (ty : Option Ty) (act : Act) (operands : Args) (how : UseAt) (t : ℕ) →
      spare t + lent t + value t
      + line (act_line types facts modes t act how ty (types_in operands) (froms facts act operands (use_of modes act) 0 (suc t)))
      + waited act + ended + of_args operands (suc t)
      ≤ of_expr (Apply node ty act operands) t + held operands (suc t)
  pub reads : (path : Path) (how : UseAt) (t : ℕ) →
      spare t + lent t + value t + of_path path (suc t) + line (L.Get t (suc t) how (if_number types (type_at path))) + ended
      ≤ of_expr (Read path) t + spare (suc t) + get
  pub looks : (s t : ℕ) → line (L.Look s t) ≤ get
  pub both : (node : Node) (ty : Ty) (left right : Expr) (how : UseAt) (t : ℕ) →
      spare t + lent t + value t + of_expr left (suc t) + line (L.Truth t false) + line (L.Unless (suc t) (label End t))
      + of_expr right (suc t + width left) + line (L.Pass t (suc t + width left) how None) + mark (label End t)
      ≤ of_expr (Early node ty And left right) t + spare (suc t) + spare (suc t + width left)
  pub either : (node : Node) (ty : Ty) (left right : Expr) (how : UseAt) (t : ℕ) →
      spare t + lent t + value t + of_expr left (suc t) + line (L.Truth t true) + line (L.Unless (suc t) (label Next t)) + line (L.Jump (label End t))
      + mark (label Next t) + of_expr right (suc t + width left) + line (L.Pass t (suc t + width left) how None) + mark (label End t)
      ≤ of_expr (Early node ty Or left right) t + spare (suc t) + spare (suc t + width left)
  pub conditions : (node : Node) (ty : Option Ty) (parts : Args) (how : UseAt) (t : ℕ) →
      spare t + lent t + value t + of_args parts (suc t) + line (none_fits types facts modes t ty how) + mark (label End t) + ended + last
      ≤ of_expr (Choose node ty ByConditions parts) t + begin (suc t)
  pub labels : (node : Node) (ty : Option Ty) (these : List (List Label)) (parts : Args) (how : UseAt) (t : ℕ) →
      spare t + lent t + value t + of_chosen parts (suc t + arm_count (ByLabels these)) + all_tests tests these + branches these
      + line (none_fits types facts modes t ty how) + mark (label Next t) + line (L.Jump (label Next t)) + mark (label End t) + ended + last
      ≤ of_expr (Choose node ty (ByLabels these) parts) t + begin (suc t + arm_count (ByLabels these))
  -- paths
  pub root : (node : Node) (ty : Ty) (place : ℕ) (global : Bool) (t : ℕ) →
      spare t + value t + lead (L.Root t place global) t + again (L.Root t place global) t + get ≤ of_path (Variable node ty place global) t
  pub fresh : (from : Expr) (t : ℕ) → of_fresh (constant_in from) from t ≤ of_path (Fresh from) t
  pub begins : (from : Expr) (t : ℕ) →
      spare t + value t + lead (begin_line types facts None from t) t + again (begin_line types facts None from t) t + get + of_expr from (suc t)
      ≤ of_fresh None from t + spare (suc t)
  pub stands : (literal : Literal) (from : Expr) (t : ℕ) →
      spare t + value t + lead (begin_line types facts (Some literal) from t) t + again (begin_line types facts (Some literal) from t) t + get
      ≤ of_fresh (Some literal) from t
  pub part : (node : Node) (ty : Ty) (base : Path) (field : ℕ) (t : ℕ) →
      spare t + value t + lead (L.Part t (suc t) field) t + again (L.Part t (suc t) field) t + of_path base (suc t)
      ≤ of_path (Field node ty base field) t + spare (suc t)
  pub item : (node : Node) (ty : Ty) (base : Path) (index : Expr) (constant : Option ℤ) (t : ℕ) →
      spare t + value t + lead (L.Item t (suc t) (suc t + width_at base)) t + again (L.Item t (suc t) (suc t + width_at base)) t
      + of_path base (suc t) + of_expr index (suc t + width_at base)
      ≤ of_path (Element node ty base index constant) t + spare (suc t) + spare (suc t + width_at base)
  pub object : (ty : Ty) (base : Path) (t : ℕ) →
      spare t + value t + lead (L.Object t (suc t)) t + again (L.Object t (suc t)) t + of_path base (suc t) ≤ of_path (Deref ty base) t + spare (suc t)
  -- operands
  pub no_operand : (t : ℕ) → held NoArg t ≤ of_args NoArg t
  pub by_value : (e : Expr) (more : Args) (t : ℕ) →
      held (ByValue e more) t + of_expr e t + taken + of_args more (t + width e) ≤ of_args (ByValue e more) t + spare t + held more (t + width e)
  pub by_path : (path : Path) (more : Args) (t : ℕ) →
      held (ByPath path more) t + of_path path t + of_args more (t + width_at path)
      ≤ of_args (ByPath path more) t + spare t + get + held more (t + width_at path)
  pub some_args : (args : Args) (t : ℕ) → begin t ≤ of_args args t
  -- what chooses, or goes on
  pub tested : (e : Expr) (more : Args) (t : ℕ) → begin t + of_expr e t ≤ of_args (ByValue e more) t + spare t
  pub handed : (e : Expr) (more : Args) (ty : Option Ty) (how : UseAt) (t u : ℕ) →
      begin u + of_expr e u + taken + line (handed_on types facts modes t u how ty) ≤ of_args (ByValue e more) u + spare u + last
  pub condition : (first second : Expr) (more : Args) (ty : Option Ty) (how : UseAt) (t u : ℕ) →
      begin u + of_expr first u + line (L.Unless u (label Arm u)) + of_expr second (u + width first) + taken
      + line (handed_on types facts modes t (u + width first) how ty) + line (L.Jump (label End t)) + mark (label Arm u)
      + of_args more (u + width first + width second)
      ≤ of_args (ByValue first (ByValue second more)) u + spare u + spare (u + width first) + begin (u + width first + width second)
  pub no_selector : (u : ℕ) → begin u ≤ of_chosen NoArg u
  pub selector : (e : Expr) (more : Args) (u : ℕ) →
      begin u + of_expr e u + of_args more (u + width e) ≤ of_chosen (ByValue e more) u + spare u + begin (u + width e)
  pub looked : (path : Path) (more : Args) (u : ℕ) →
      begin u + of_path path (looked_from path u) + of_args more (looked_from path u + width_at path)
      ≤ of_chosen (ByPath path more) u + spare u + begin (looked_from path u + width_at path)
  pub test : (these : Label) (more : List Label) (s arm : ℕ) → line (L.Fits s (written_label these) arm) + tests more ≤ tests (these ∷ more)
  pub arm : (these : List Label) (others : List (List Label)) (e : Expr) (more : Args) (ty : Option Ty) (how : UseAt) (t u : ℕ) →
      begin u + mark (label Arm u) + of_expr e u + taken + line (handed_on types facts modes t u how ty) + line (L.Jump (label End t))
      + of_args more (u + width e) + branches others
      ≤ branches (these ∷ others) + of_args (ByValue e more) u + spare u + begin (u + width e)
  -- ways out
  pub scoped : (place : Declared) (w : Ways) (way : Leaving) →
      (if is_hooked facts place.of then ended else 0) + leaving way w ≤ leaving way (in_place place w)
  pub grouped : (ws : List Wait) (w : Ways) (way : Leaving) → all_ends ended ws + leaving way w ≤ leaving way (in_group ws w)
  pub breaks : (w : Ways) (n : ℕ) → line (L.Jump n) ≤ leaving K.Break (in_loop w)
  pub continues : (w : Ways) (n : ℕ) → line (L.Jump n) ≤ leaving K.Continue (in_loop w)
  pub returns : (w : Ways) → leaving K.Return w ≤ leaving K.Return (in_loop w)
  -- places
  pub place_ends : (place ty : ℕ) → line (L.Own (W.PlaceEnds place ty) []) ≤ ended
  pub given_it : (place from : ℕ) → line (L.Give place from) ≤ given
  pub gets_it : (place ty : ℕ) (from : List From) → line (L.Own (W.ResultGets place ty) from) ≤ given
  pub filled_it : (place from : ℕ) → line (L.Fill place from) ≤ filled
  pub copied_it : (place ty : ℕ) (from : List From) → line (L.Own (W.PlaceCopies place ty) from) ≤ filled
  pub element_value : (t at counter place : ℕ) → line (L.Element t at counter) + value t + line (L.Fill place t) ≤ element t
  pub element_copy : (t at counter place ty : ℕ) (from : List From) →
      lead (L.Item t at counter) t + line (L.Own (W.PlaceCopies place ty) from) ≤ element t
  pub element_stands : (t at counter place : ℕ) (from : List From) →
      lead (L.Item t at counter) t + line (L.Own (W.PlaceStands place) from) ≤ element t
  -- statements
  pub done : (e : Expr) (w : Ways) (t : ℕ) → begin t + of_expr e t ≤ of_stmt (Do e) w t + spare t
  pub some_stmt : (s : Stmt) (w : Ways) (t : ℕ) → begin t ≤ of_stmt s w t
  pub leaves : (node : Node) (way : Leaving) (parts : Args) (w : Ways) (t : ℕ) → begin t + leaving way w ≤ of_stmt (Leave node way parts) w t
  pub gives : (node : Node) (back : Bool) (e : Expr) (w : Ways) (t : ℕ) →
      begin t + of_expr e (suc t) + given + (if back then leaving K.Return w else 0) ≤ of_stmt (Give node back e) w t + spare (suc t)
  pub selects : (node : Node) (conditions : Args) (blocks : Blocks) (w : Ways) (t : ℕ) →
      begin t + of_turns conditions blocks w (suc t) + mark (label End t) ≤ of_stmt (Select node ByConditions conditions blocks) w t + begin (suc t)
  pub cases : (node : Node) (these : List (List Label)) (selector : Args) (blocks : Blocks) (w : Ways) (t : ℕ) →
      begin t + of_chosen selector (suc t + arm_count (ByLabels these)) + line (L.Zero (suc t + arm_count (ByLabels these))) + all_tests tests these
      + line (L.Jump (label Next t))
      + of_blocks blocks (in_group (waiting_first facts modes selector) w) (behind_selector selector (suc t + arm_count (ByLabels these)))
      + arms these (suc t) + mark (label Next t) + mark (label End t)
      ≤ of_stmt (Select node (ByLabels these) selector blocks) w t + begin (suc t + arm_count (ByLabels these)) + begin (suc t)
      + begin (behind_selector selector (suc t + arm_count (ByLabels these)))
  pub no_arm : (these : List (List Label)) (a : ℕ) → begin a ≤ arms these a
  pub one_arm : (these : List Label) (others : List (List Label)) (t a : ℕ) →
      begin a + mark (label Arm a) + line (L.Jump (label End t)) + arms others (suc a) ≤ arms (these ∷ others) a + begin (suc a)
  pub otherwise : (b : Stmts) (w : Ways) (u : ℕ) → of_block b w u ≤ of_blocks (Otherwise b) w u
  pub one_block : (first : Stmts) (more : Blocks) (w : Ways) (u : ℕ) →
      of_block first w u + of_blocks more w (u + width_of first) ≤ of_blocks (Block first more) w u + begin (u + width_of first)
  pub some_blocks : (blocks : Blocks) (w : Ways) (u : ℕ) → begin u ≤ of_blocks blocks w u
  pub some_turns : (conditions : Args) (blocks : Blocks) (w : Ways) (u : ℕ) → begin u ≤ of_turns conditions blocks w u
  pub last_turn : (blocks : Blocks) (w : Ways) (u : ℕ) → of_blocks blocks w u ≤ of_turns NoArg blocks w u
  pub one_turn : (condition : Expr) (conditions : Args) (first : Stmts) (more : Blocks) (w : Ways) (t u : ℕ) →
      begin u + of_expr condition u + line (L.Unless u (label Arm u)) + of_block first w (u + width condition) + line (L.Jump (label End t))
      + mark (label Arm u) + of_turns conditions more w (u + width condition + width_of first)
      ≤ of_turns (ByValue condition conditions) (Block first more) w u + spare u + begin (u + width condition) + begin (u + width condition + width_of first)
  pub whiles : (node : Node) (head : Args) (body : Stmts) (w : Ways) (t : ℕ) →
      begin t + line (L.Jump (label Next t)) + mark (label Turn t) + of_block body (in_loop w) (suc t + widths head) + mark (label Next t)
      + of_args head (suc t) + line (L.Zero (suc t)) + line (L.TurnIf (suc t) (label Turn t)) + mark (label End t)
      ≤ of_stmt (Loop node While head body) w t + begin (suc t) + begin (suc t + widths head)
  pub counts : (node : Node) (place : Declared) (inclusive : Bool) (head : Args) (body : Stmts) (w : Ways) (t : ℕ) →
      begin t + of_args head (suc t) + line (L.Beyond (suc t) (second head (suc t)) inclusive (label End t)) + line L.Enter + mark (label Turn t)
      + line (L.Fill place.number (suc t))
      + of_block body (in_place place (in_loop (in_group (waiting_all facts modes head (λ i. Owned) 0) w))) (suc t + widths head) + ended
      + mark (label Next t) + line (L.CountTurn (suc t) (second head (suc t)) inclusive (label Turn t)) + mark (label End t)
      ≤ of_stmt (Loop node (Count place inclusive) head body) w t + held head (suc t) + begin (suc t + widths head)
  pub goes_over : (node : Node) (place : Declared) (head : Args) (body : Stmts) (w : Ways) (t : ℕ) →
      begin t + value (suc t) + value (suc (suc t)) + of_args head (suc t + 2) + line (L.Length (suc (suc t)) (suc t + 2)) + line (L.Zero (suc t))
      + line (L.Jump (label Arm t)) + mark (label Turn t)
      + of_block body (in_place place (in_loop (in_group (waiting_all facts modes head (λ i. Owned) 0) w))) (suc t + 2 + widths head) + ended
      + mark (label Next t) + line (L.Next (suc t) (suc (suc t))) + mark (label Arm t) + line (L.Beyond (suc t) (suc (suc t)) false (label End t))
      + line (L.Still (suc t + 2) (suc (suc t))) + element t + line (L.Turn (label Turn t)) + mark (label End t)
      ≤ of_stmt (Loop node (Each place) head body) w t + held head (suc t + 2) + begin (suc t + 2 + widths head)
  pub follows : (first : Stmt) (more : Stmts) (w : Ways) (t : ℕ) →
      of_stmt first w t + of_block more w (t + width_in first) ≤ of_block (Then first more) w t + begin (t + width_in first)
  pub some_block : (b : Stmts) (w : Ways) (t : ℕ) → begin t ≤ of_block b w t
  pub blanks : (node : Node) (place : Declared) (cursor : Bool) (more : Stmts) (w : Ways) (t : ℕ) →
      begin t + line (L.Blank place.number (type_number types place.of)) + of_block more (in_place place w) (suc t) + ended
      ≤ of_block (Declare node place cursor NoArg more) w t + begin (suc t)
  pub fills : (node : Node) (place : Declared) (cursor : Bool) (e : Expr) (others : Args) (more : Stmts) (w : Ways) (t : ℕ) →
      begin t + of_expr e (suc t) + filled + of_block more (in_place place w) (suc t + widths (ByValue e others)) + ended
      ≤ of_block (Declare node place cursor (ByValue e others) more) w t + spare (suc t) + begin (suc t + widths (ByValue e others))

-- ---- a property of lines in front of others, which take at most so much, with so much to spare

abbrev pub In : ℕ → List ℕ → Type 0
In n [] = ⊥
In n (m ∷ ms) = (n ≡ m) ⊎ In n ms

-- What is known of the lines around: of which values it is free again to give them. A world is under another one where all that is known stays so.
pub record Ground (types : List Ty) (facts : Facts) (modes : (proc position : ℕ) → Mode) (x : Costs types facts modes) : Type 1 where
  pub World : Type 0
  pub Under : World → World → Type 0
  pub self : (z : World) → Under z z
  pub further : (z z' z'' : World) → Under z z' → Under z' z'' → Under z z''
  pub Free : World → (t : ℕ) → Type 0
  pub free : (z z' : World) (t : ℕ) → Under z z' → Free z t → Free z' t
  -- where lines may stand that aren't those of a typed program
  pub Stray : Type 0
  pub all_free : Stray → (z : World) (t : ℕ) → Free z t
  pub no_value : Stray → (t : ℕ) → x.value t ≡ 0
  -- lines in front of others, which have the property where they take so much, and spare so much
  pub Pays : World → (spare most : ℕ) → Front → Type 0
  pub none : (z : World) → Pays z 0 0 (λ k. k)
  pub both : (z : World) (r s a b : ℕ) (F G : Front) → Pays z r a F → Pays z s b G → Pays z (r + s) (a + b) (λ k. F (G k))
  pub most : (z : World) (r a r' a' : ℕ) (F : Front) → r' + a ≤ a' + r → Pays z r a F → Pays z r' a' F
  pub marked : (z : World) (n : ℕ) → Pays z 0 (x.mark n) (λ k. L.Label n ∷ k)
  pub once : (z : World) (t r a : ℕ) (F : Front) → ((z' : World) → Under z z' → Free z' t → Pays z' r a F) → Pays z r (a + x.value t) F

-- And which labels stand behind and before.
pub record Kept (types : List Ty) (facts : Facts) (modes : (proc position : ℕ) → Mode) (x : Costs types facts modes) : Type 1 where
  pub ground : Ground types facts modes x
  pub Behind : ground.World → (label : ℕ) → Type 0
  pub behind : (z z' : ground.World) (n : ℕ) → ground.Under z z' → Behind z n → Behind z' n
  pub Before : ground.World → (label : ℕ) → Type 0
  pub before : (z z' : ground.World) (n : ℕ) → ground.Under z z' → Before z n → Before z' n
  -- lines that lead to labels around
  pub plain : (z : ground.World) (l : Line) → name_of l ≡ None → label_in l ≡ None → ((n : ℕ) → target l ≡ Some n → Behind z n) →
      ((n : ℕ) → back_to l ≡ Some n → Before z n) → ground.Pays z 0 (x.line l) (λ k. l ∷ k)
  pub freed : (z : ground.World) (l : Line) (t : ℕ) → name_of l ≡ Some (value_name t) → label_in l ≡ None → ((n : ℕ) → target l ≡ Some n → Behind z n) →
      ((n : ℕ) → back_to l ≡ Some n → Before z n) → ground.Stray ⊎ (gives_text l ≡ false) → ground.Free z t → ground.Pays z 0 (x.line l) (λ k. l ∷ k)
  -- lines that lead to none
  pub given : (z : ground.World) (l : Line) (t : ℕ) → name_of l ≡ Some (value_name t) → IsQuiet l →
      ground.Pays z 0 (x.line l + x.value t) (λ k. l ∷ k)
  pub led : (z : ground.World) (l : Line) (t : ℕ) → name_of l ≡ Some (location_name t) → IsQuiet l → ground.Pays z 0 (x.lead l t) (λ k. l ∷ k)
  -- a label behind lines, before them, and among those that come next
  pub ended : (z : ground.World) (n r a : ℕ) (F : Front) → ((z' : ground.World) → ground.Under z z' → Behind z' n → ground.Pays z' r a F) →
      ground.Pays z r (a + x.mark n) (λ k. F (L.Label n ∷ k))
  pub begun : (z : ground.World) (n r a : ℕ) (F : Front) → ((z' : ground.World) → ground.Under z z' → Before z' n → ground.Pays z' r a F) →
      ground.Pays z r (a + x.mark n) (λ k. L.Label n ∷ F k)
  pub There : (label : ℕ) → Front → Type 0
  pub here : (n m : ℕ) → n ≡ m → There n (λ k. L.Label m ∷ k)
  pub first : (n : ℕ) (F G : Front) → There n F → There n (λ k. F (G k))
  pub past : (z : ground.World) (n r a : ℕ) (F G : Front) → ground.Pays z r a F → There n G → There n (λ k. F (G k))
  pub within : (z : ground.World) (m n : ℕ) (F : Front) → ((z' : ground.World) → ground.Under z z' → Behind z' m → There n F) → There n F
  pub over : (z : ground.World) (more : List ℕ) (r s a b : ℕ) (F G : Front) →
      ((z' : ground.World) → ground.Under z z' → ((n : ℕ) → In n more → Behind z' n) → ground.Pays z' r a F) → ground.Pays z s b G →
      ((n : ℕ) → In n more → There n G) → ground.Pays z (r + s) (a + b) (λ k. F (G k))

-- what is counted of lines, wherever labels stand
pub record Counted (types : List Ty) (facts : Facts) (modes : (proc position : ℕ) → Mode) (x : Costs types facts modes) : Type 1 where
  pub ground : Ground types facts modes x
  pub plain : (z : ground.World) (l : Line) → name_of l ≡ None → label_in l ≡ None → ground.Pays z 0 (x.line l) (λ k. l ∷ k)
  pub freed : (z : ground.World) (l : Line) (t : ℕ) → name_of l ≡ Some (value_name t) → label_in l ≡ None → ground.Stray ⊎ (gives_text l ≡ false) →
      ground.Free z t → ground.Pays z 0 (x.line l) (λ k. l ∷ k)
  pub given : (z : ground.World) (l : Line) (t : ℕ) → name_of l ≡ Some (value_name t) → label_in l ≡ None →
      ground.Pays z 0 (x.line l + x.value t) (λ k. l ∷ k)
  pub led : (z : ground.World) (l : Line) (t : ℕ) → name_of l ≡ Some (location_name t) → label_in l ≡ None → ground.Pays z 0 (x.lead l t) (λ k. l ∷ k)

abbrev pub kept_of : (types : List Ty) (facts : Facts) (modes : (proc position : ℕ) → Mode) (x : Costs types facts modes) → Counted types facts modes x →
    Kept types facts modes x
kept_of types facts modes x k =
    record {
      ground = k.ground;
      Behind = λ z n. Unit {0};
      behind = λ z z' n u h. h;
      Before = λ z n. Unit {0};
      before = λ z z' n u h. h;
      plain = λ z l e f g h. k.plain z l e f;
      freed = λ z l t e f g h. k.freed z l t e f;
      given = λ z l t e q. k.given z l t e q.0;
      led = λ z l t e q. k.led z l t e q.0;
      ended = λ z n r a F go.
          k.ground.most z (r + 0) (a + x.mark n) r (a + x.mark n) (λ k. F (L.Label n ∷ k)) (omega arith)
          (k.ground.both z r 0 a (x.mark n) F (λ k. L.Label n ∷ k) (go z (k.ground.self z) tt) (k.ground.marked z n));
      begun = λ z n r a F go.
          k.ground.most z (0 + r) (x.mark n + a) r (a + x.mark n) (λ k. L.Label n ∷ F k) (omega arith)
          (k.ground.both z 0 r (x.mark n) a (λ k. L.Label n ∷ k) F (k.ground.marked z n) (go z (k.ground.self z) tt));
      There = λ n F. Unit {0};
      here = λ n m e. tt;
      first = λ n F G h. tt;
      past = λ z n r a F G p h. tt;
      within = λ z m n F go. tt;
      over = λ z more r s a b F G go p h. k.ground.both z r s a b F G (go z (k.ground.self z) (λ n i. tt)) p;
    }

-- nothing is known, and anything may stand
abbrev pub ground_of : (types : List Ty) (facts : Facts) (modes : (proc position : ℕ) → Mode) (x : Costs types facts modes) → ((t : ℕ) → x.value t ≡ 0) →
    (Pays : (spare most : ℕ) → Front → Type 0) → Pays 0 0 (λ k. k) →
    ((r s a b : ℕ) (F G : Front) → Pays r a F → Pays s b G → Pays (r + s) (a + b) (λ k. F (G k))) →
    ((r a r' a' : ℕ) (F : Front) → r' + a ≤ a' + r → Pays r a F → Pays r' a' F) → ((n : ℕ) → Pays 0 (x.mark n) (λ k. L.Label n ∷ k)) →
    Ground types facts modes x
ground_of types facts modes x valueless Pays none both most marked = record {
  World = Unit {0};
  Under = λ z z'. Unit {0};
  self = λ z. tt;
  further = λ z z' z'' u v. tt;
  Free = λ z t. Unit {0};
  free = λ z z' t u f. tt;
  Stray = Unit {0};
  all_free = λ s z t. tt;
  no_value = λ s t. valueless t;
  Pays = λ z. Pays;
  none = λ z. none;
  both = λ z. both;
  most = λ z. most;
  marked = λ z. marked;
  once = λ z t r a F go. most r a r (a + x.value t) F (omega arith) (go z tt tt);
}

pub record Paid (types : List Ty) (facts : Facts) (modes : (proc position : ℕ) → Mode) (x : Costs types facts modes) (k : Kept types facts modes x)
    (z : k.ground.World) (spare most : ℕ)
    (front : Front) : Type 0 where
  pub paid : k.ground.Pays z spare most front

infixl 10 ◌>>◌
pub ◌>>◌ : {types : List Ty} {facts : Facts} {modes : (proc position : ℕ) →
    Mode} {x : Costs types facts modes} {k : Kept types facts modes x} {z : k.ground.World} {r s a b : ℕ}
    {F G : Front} → Paid types facts modes x k z r a F → Paid types facts modes x k z s b G → Paid types facts modes x k z (r + s) (a + b) (λ k. F (G k))
◌>>◌ {types} {facts} {modes} {x} {k} {z} {r} {s} {a} {b} {F} {G} p q = record { paid = k.ground.both z r s a b F G p.paid q.paid }

-- ---- what a line leads to

abbrev is_some : Option ℕ → Bool
is_some None = false
is_some (Some n) = true

abbrev or_zero : Option ℕ → ℕ
or_zero None = 0
or_zero (Some n) = n

pub none_is : {A : Type 0} (o : Option ℕ) (n : ℕ) → o ≡ None → o ≡ Some n → A
none_is o n e f = absurd (both_ways (is_some o) (ap is_some e) (ap is_some f))

pub one_is : (o : Option ℕ) (n m : ℕ) → o ≡ Some n → o ≡ Some m → n ≡ m
one_is o n m e f = ap or_zero (sym e ∙ f)

-- ---- what typed statements are

pub record Rules (Stray : Type 0) : Type 1 where
  pub Right : Stmt → Type 0
  pub AllRight : Stmts → Type 0
  pub EachRight : Blocks → Type 0
  pub select : (node : Node) (chooser : Chooser) (parts : Args) (blocks : Blocks) → Right (Select node chooser parts blocks) →
      (Stray ⊎ HasSelector chooser parts) × EachRight blocks
  pub loop : (node : Node) (kind : Kind) (head : Args) (body : Stmts) → Right (Loop node kind head body) →
      (Stray ⊎ (HeadFits kind head × CountsFrom kind head)) × AllRight body
  pub follows : (first : Stmt) (more : Stmts) → AllRight (Then first more) → Right first × AllRight more
  pub declare : (node : Node) (place : Declared) (cursor : Bool) (args : Args) (more : Stmts) → AllRight (Declare node place cursor args more) → AllRight more
  pub otherwise : (b : Stmts) → EachRight (Otherwise b) → AllRight b
  pub block : (first : Stmts) (more : Blocks) → EachRight (Block first more) → AllRight first × EachRight more

-- nothing is asked where anything may stand
abbrev pub no_rules : (Stray : Type 0) → Stray → Rules Stray
no_rules Stray stray = record {
  Right = λ s. Unit {0};
  AllRight = λ b. Unit {0};
  EachRight = λ bs. Unit {0};
  select = λ node chooser parts blocks h. (inl stray, tt);
  loop = λ node kind head body h. (inl stray, tt);
  follows = λ first more h. (tt, tt);
  declare = λ node place cursor args more h. tt;
  otherwise = λ b h. tt;
  block = λ first more h. (tt, tt);
}
