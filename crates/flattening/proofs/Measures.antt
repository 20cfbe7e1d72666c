-- A measure of lines against what is counted of a program, by what each part may take.
use Rattle.std.proofs.Common.{◌≡◌, ℕ, suc, ◌+◌, ◌*◌, ◌≤◌, Bool, true, false, List, [], ◌∷◌, Option, None, refl, arith}
use Rattle.std.specs.Prelude.{if◌then◌else◌}
use Rattle.std.proofs.Common.{◌≡◌, ℕ, suc, ◌+◌, ◌*◌, ◌≤◌, Bool, true, false, List, [], ◌∷◌, Option, Some, None, refl, arith}
use Rattle.nim_types.specs.Types.{Ty, Facts}
use Rattle.nim_program.specs.declared.program.Mode.{Mode}
use Rattle.nim_program.specs.declared.stmt.Leaving.{Leaving}
use Rattle.nim_program.specs.declared.stmt.Leaving.TheVariants.{Break, Continue, Return}
use Rattle.nim_program.specs.Program.{Literal, Label, Act, Calling, ByLabels, Expr, Read, Path, Args, NoArg, ByValue, ByPath, Declared, Kind, While, Count}
use Rattle.nim_program.specs.Program.{Each, Stmts}
use Rattle.nim_program.specs.Program.{Param, node_of, type_of, type_at, types_in}
use Rattle.nim_program.specs.Uses.{use_of}
use Rattle.nim_program.specs.Folds.{numbers, if_constant, begun_by, Step, Named, Standing, Begun, ToField, ToElement, ToObject, Leading, Looping, is_headed}
use Rattle.nim_program.proofs.ForCallers.{either_way, in_turn_sum}
use Rattle.nim_meaning.specs.Here.{is_hooked}
use Rattle.nim_meaning.specs.Waiting.{Wait}
use Rattle.flat_code.specs.declared.line.From.{From}
use Rattle.flat_code.specs.declared.line.UseAt.{UseAt}
use Rattle.flat_code.specs.declared.line.Owning.TheVariants as W
use Rattle.flat_code.specs.declared.line.Line.{Line}
use Rattle.flat_code.specs.declared.line.Line.TheVariants as L
use Rattle.flat_code.specs.declared.line.Piece.TheVariants as P
use Rattle.flat_code.specs.Pieces.{pieces_of}
use Rattle.flat_code.specs.Sizes.{summed}
use Rattle.flattening.specs.declared.numbers.Purpose.TheVariants.{End, Next, Arm, Turn}
use Rattle.flattening.specs.Counted.{Around, left_by, with_more, in_turn, all_ends, place_counts, in_scope, pairs_in, pairs_of, block_pairs}
use Rattle.flattening.specs.Counted.{params_count}
use Rattle.flattening.specs.ExprLines.{has_hooks, froms, act_line, none_fits, written_label}
use Rattle.flattening.specs.Numbering.{type_number, if_number, width, width_at, arm_count, label, number_or}
use Rattle.flattening.specs.StmtLines.{second, lines_of, number_of, outermost, place_end, param_ends, returned}
use Rattle.flattening.proofs.Amounts.{part_counted, own_counted, act_counted, labels_counted, branches_counted, expr_counted, path_counted, args_counted}
use Rattle.flattening.proofs.Amounts.{stmt_counted, block_counted, blocks_counted}
use Rattle.flattening.proofs.Costs.{steps, all_tests, Costs, Counted, Kept, kept_of, ground_of, Rules, no_rules}
use Rattle.flattening.proofs.CostExprs.{find}
use Rattle.flattening.proofs.CostStmts.{Twice, ExitsPaid, block as paid}
use Rattle.flattening.proofs.Tallies.{Tally, tally_none, ◌>>◌, tally_most}

-- so much for each operand
abbrev pub reserved : (operand : ℕ) → Args → ℕ
reserved operand NoArg = 0
reserved operand (ByValue value rest) = operand + reserved operand rest
reserved operand (ByPath path rest) = operand + reserved operand rest

-- a call's value waits by a line of its own
abbrev pub back : (hold : ℕ) → Act → ℕ
back hold (Calling proc of) = hold
back hold act = 0

-- What lines may take where a part may take so much: of this so much is for the operation that it is an operand of, one for lending and one for taking
-- its value, and so much for reading at a path; beside it what ends takes so much, at each exit.
pub record Bounds (types : List Ty) (facts : Facts) (modes : (proc position : ℕ) → Mode) (m : Line → ℕ) (part : ℕ) (built standing : Literal → ℕ)
    (said : Label → ℕ)
    (reserve operand get exit each one fill turn hold last : ℕ) : Type 0 where
  pub reserves : reserve + one ≤ operand
  pub act : (t : ℕ) (act : Act) (how : UseAt) (ty : Option Ty) (operands : Args) →
      m (act_line types facts modes t act how ty (types_in operands) (froms facts act operands (use_of modes act) 0 (suc t))) + operand + back hold act +
      one + each
      ≤ act_counted part built standing said act + reserved reserve operands
  pub waits : (node : ℕ) (from : List From) → m (L.Own (W.Waits node) from) ≤ hold
  pub takes : (node : ℕ) → m (L.Own (W.TakenUp node) []) ≤ one
  pub ends : (node ty : ℕ) → m (L.Own (W.TemporaryEnds node ty) []) ≤ each
  pub place_ends : (place ty : ℕ) → m (L.Own (W.PlaceEnds place ty) []) ≤ each
  pub lends : (t from : ℕ) (node : Option ℕ) → m (L.Fresh t from node) ≤ one
  pub lends_text : (t ty : ℕ) (how : UseAt) (text : List ℕ) →
      m (L.Standing t ty (P.Text text ∷ [])) ≤ one + m (L.Constant t how ty (P.Text text ∷ []))
  pub root : (t place : ℕ) (global : Bool) → 2 * m (L.Root t place global) + get + operand ≤ part
  pub fresh : 2 * one + get + operand ≤ part
  pub in_place : (t ty : ℕ) (literal : Literal) → 2 * m (L.Standing t ty (pieces_of literal)) + get + operand ≤ part + standing literal
  pub field : (t field : ℕ) → 2 * m (L.Part t (suc t) field) ≤ part
  pub item : (t at index : ℕ) → 2 * m (L.Item t at index) ≤ part
  pub object : (t : ℕ) → 2 * m (L.Object t (suc t)) ≤ part
  pub got : (t from : ℕ) (how : UseAt) (ty : Option ℕ) → m (L.Get t from how ty) + one + each ≤ get
  pub looked : (s t : ℕ) → m (L.Look s t) ≤ get
  pub both : (t s from l : ℕ) (how : UseAt) →
      m (L.Truth t false) + m (L.Unless s l) + m (L.Pass t from how None) + m (L.Label l) + operand + one ≤ part
  pub either : (t s from l next : ℕ) (how : UseAt) →
      m (L.Truth t true) + m (L.Unless s next) + m (L.Jump l) + m (L.Label next) + m (L.Pass t from how None) + m (L.Label l) + operand + one ≤ part
  pub handed : (t from : ℕ) (how : UseAt) (ty : Option ℕ) → m (L.Pass t from how ty) + one ≤ operand + last
  pub condition : (t u from l arm : ℕ) (how : UseAt) (ty : Option ℕ) →
      m (L.Unless u arm) + m (L.Pass t from how ty) + m (L.Jump l) + m (L.Label arm) + one ≤ operand + operand
  pub chosen : (t l next : ℕ) (how : UseAt) (ty : Option Ty) →
      m (none_fits types facts modes t ty how) + m (L.Jump next) + m (L.Label next) + m (L.Label l) + operand + one + each + last ≤ part
  pub test : (s arm : ℕ) (these : Label) → m (L.Fits s (written_label these) arm) ≤ part + said these
  pub branch : (other arm l : ℕ) → m (L.Label other) + m (L.Label arm) + m (L.Jump l) + last ≤ part
  pub given : (place from : ℕ) → m (L.Give place from) ≤ fill
  pub gets : (place ty : ℕ) (from : List From) → m (L.Own (W.ResultGets place ty) from) ≤ fill
  pub left : fill + exit ≤ part
  pub leaving : (l : ℕ) → m (L.Jump l) ≤ exit
  pub returning : (place : Option ℕ) → m (L.Return place) ≤ exit
  pub block : (u arm l : ℕ) → m (L.Unless u arm) + m (L.Jump l) + m (L.Label arm) ≤ operand
  pub selected : (t next l : ℕ) → m (L.Zero t) + m (L.Jump next) + m (L.Label next) + m (L.Label l) ≤ part
  pub while : (t u turn next l : ℕ) → m (L.Jump next) + m (L.Label turn) + m (L.Label next) + m (L.Zero u) + m (L.TurnIf u turn) + m (L.Label l) ≤ part
  pub count : (counter last place turn next l : ℕ) (inclusive : Bool) →
      m (L.Beyond counter last inclusive l) + m L.Enter + m (L.Label turn) + m (L.Fill place counter) + m (L.Label next)
      + m (L.CountTurn counter last inclusive turn) + m (L.Label l) + each ≤ part
  pub elements : (counter last at back next arm l : ℕ) →
      m (L.Length last at) + m (L.Zero counter) + m (L.Jump arm) + m (L.Label back) + m (L.Label next) + m (L.Next counter last) + m (L.Label arm)
      + m (L.Beyond counter last false l) + m (L.Still at last) + turn + m (L.Turn back) + m (L.Label l) + each ≤
      part + reserve
  pub element : (t at counter place : ℕ) → m (L.Element t at counter) + m (L.Fill place t) ≤ turn
  pub copies : (t at counter place ty : ℕ) (from : List From) → m (L.Item t at counter) + m (L.Own (W.PlaceCopies place ty) from) ≤ turn
  pub stands : (t at counter place : ℕ) (from : List From) → m (L.Item t at counter) + m (L.Own (W.PlaceStands place) from) ≤ turn
  pub blank : (place ty : ℕ) → m (L.Blank place ty) + each ≤ part
  pub filled : (place from : ℕ) → m (L.Fill place from) ≤ fill
  pub copied : (place ty : ℕ) (from : List From) → m (L.Own (W.PlaceCopies place ty) from) ≤ fill
  pub kept : fill + each ≤ part

module _ (types : List Ty) (facts : Facts) (modes : (proc position : ℕ) → Mode) (m : Line → ℕ) (part : ℕ) (built standing : Literal → ℕ) (said : Label → ℕ)
    (reserve operand get exit each one fill turn hold last : ℕ)
    (b : Bounds types facts modes m part built standing said reserve operand get exit each one fill turn hold last) where
  abbrev E : Expr → ℕ
  E = expr_counted part built standing said

  abbrev A : Args → ℕ
  A = args_counted part built standing said

  -- what is counted of branches: their labels, and themselves
  abbrev all_branches : List (List Label) → ℕ
  all_branches [] = 0
  all_branches (labels ∷ rest) = part + all_branches rest

  both_counted : (labels : List (List Label)) →
      branches_counted part built standing said labels ≡ all_tests (labels_counted part built standing said) labels + all_branches labels
  both_counted [] = refl
  both_counted (labels ∷ rest) = omega (arith, both_counted rest)

  -- a path counts as much where it is read
  read_same : (written : Bool) (step : Step) →
      part_counted part built standing said (Leading true written step) ≡ part_counted part built standing said (Leading false written step)
  read_same written (Named place global) = refl
  read_same written (Standing literal) = refl
  read_same written Begun = refl
  read_same written (ToField field) = refl
  read_same written (ToElement constant) = refl
  read_same written ToObject = refl

  read_counted : (path : Path) → E (Read path) ≡ path_counted part built standing said path
  read_counted path =
      either_way numbers (own_counted part built standing said) (λ node ty written step. read_same written step)
      (λ ty written step. read_same written step) path

  -- what a path begins with
  abbrev begun_counted : Option Literal → Expr → ℕ
  begun_counted constant value =
      if_constant constant (own_counted part built standing said (begun_by constant false value))
      (own_counted part built standing said (begun_by constant false value) + E value)

  -- a loop without a head counts once more
  abbrev headed : Args → ℕ
  headed NoArg = part
  headed head = A head

  loop_counted : (kind : Kind) (head : Args) → part_counted part built standing said (Looping kind (is_headed head)) + A head ≡ part + headed head
  loop_counted kind NoArg = omega arith
  loop_counted kind (ByValue value rest) = refl
  loop_counted kind (ByPath path rest) = refl

  head_least : (args : Args) → A args ≤ headed args
  head_least NoArg = omega arith
  head_least (ByValue value rest) = omega arith
  head_least (ByPath path rest) = omega arith

  head_reserved : (args : Args) → A args + reserve ≤ headed args + reserved reserve args
  head_reserved NoArg = omega (arith, b.fresh, b.reserves)
  head_reserved (ByValue value rest) = omega arith
  head_reserved (ByPath path rest) = omega arith

  -- ---- ways out

  scopes : (place : Declared) (w : Around) (way : Leaving) →
      (if is_hooked facts place.of then each else 0) + (exit + left_by w way) ≤ exit + left_by (in_scope facts modes each place w) way
  scopes place w Break = omega arith
  scopes place w Continue = omega arith
  scopes place w Return = omega arith

  groups : (ws : List Wait) (w : Around) (way : Leaving) → all_ends each ws + (exit + left_by w way) ≤ exit + left_by (with_more (all_ends each ws) w) way
  groups ws w Break = omega arith
  groups ws w Continue = omega arith
  groups ws w Return = omega arith

  goes_back : (back : Bool) (w : Around) → (if back then exit + w.returns else 0) ≤ exit + (if back then w.returns else 0)
  goes_back true w = omega arith
  goes_back false w = omega arith

  costs : Costs types facts modes
  costs = record {
    line = m;
    lead = λ l t. m l;
    again = λ l t. m l;
    mark = λ n. m (L.Label n);
    value = λ t. 0;
    tests = labels_counted part built standing said;
    branches = all_branches;
    arms = λ labels t. all_branches labels;
    begin = λ t. 0;
    spare = λ t. operand;
    lent = λ t. one;
    held = λ args t. reserved reserve args;
    get = get;
    waited = back hold;
    taken = one;
    ended = each;
    last = last;
    filled = fill;
    given = fill;
    element = λ t. turn;
    Ways = Around;
    leaving = λ way w. exit + left_by w way;
    in_place = in_scope facts modes each;
    in_group = λ ws w. with_more (all_ends each ws) w;
    in_loop = in_turn;
    of_expr = λ e t. E e;
    of_path = λ path t. path_counted part built standing said path;
    of_fresh = λ constant value t. begun_counted constant value;
    of_args = λ args t. A args;
    of_chosen = λ args t. A args;
    of_stmt = λ s w t. stmt_counted part built standing said s + pairs_in facts modes each s w;
    of_block = λ block w t. block_counted part built standing said block + pairs_of facts modes each block w;
    of_blocks = λ blocks w t. blocks_counted part built standing said blocks + block_pairs facts modes each blocks w;
    of_turns = λ conditions blocks w t. A conditions + blocks_counted part built standing said blocks + block_pairs facts modes each blocks w;
    next_spare = λ t. omega arith;
    waits = λ proc of node from. b.waits node from;
    takes = b.takes;
    ends = b.ends;
    lends = λ t node. b.lends t t node;
    lends_text = b.lends_text;
    applies = λ node ty act operands how t. omega (arith, b.act t act how ty operands);
    reads = λ path how t. omega (arith, b.got t (suc t) how (if_number types (type_at path)), read_counted path);
    looks = λ s t. b.looked s t;
    both = λ node ty left right how t. omega (arith, b.both t (suc t) (suc t + width left) (label End t) how);
    either = λ node ty left right how t. omega (arith, b.either t (suc t) (suc t + width left) (label End t) (label Next t) how);
    conditions = λ node ty parts how t. omega (arith, b.chosen t (label End t) (label Next t) how ty);
    labels = λ node ty these parts how t.
        omega (arith, b.chosen t (label End t) (label Next t) how ty, both_counted these);
    root = λ node ty place global t. omega (arith, b.root t place global);
    fresh = λ from t. omega arith;
    begins = λ from t. omega (arith, b.fresh, b.lends t (suc t) (if has_hooks facts from then Some (node_of from).number else None));
    stands = λ literal from t. omega (arith, b.in_place t (number_or types (type_of from)) literal);
    part = λ node ty base field t. omega (arith, b.field t field);
    item = λ node ty base index constant t. omega (arith, b.item t (suc t) (suc t + width_at base));
    object = λ ty base t. omega (arith, b.object t);
    no_operand = λ t. omega arith;
    by_value = λ e more t. omega (arith, b.reserves);
    by_path = λ path more t. omega (arith, b.reserves);
    some_args = λ args t. omega arith;
    tested = λ e more t. omega arith;
    handed = λ e more ty how t u. omega (arith, b.handed t u how (if_number types ty));
    condition = λ first second more ty how t u.
        omega (arith, b.condition t u (u + width first) (label End t) (label Arm u) how (if_number types ty));
    no_selector = λ u. omega arith;
    selector = λ e more u. omega arith;
    looked = λ path more u. omega arith;
    test = λ these more s arm. omega (arith, b.test s arm these);
    arm = λ these others e more ty how t u.
        omega (arith, b.handed t u how (if_number types ty), b.branch (label Next t) (label Arm u) (label End t));
    scoped = scopes;
    grouped = groups;
    breaks = λ w n. omega (arith, b.leaving n);
    continues = λ w n. omega (arith, b.leaving n);
    returns = λ w. omega arith;
    place_ends = b.place_ends;
    given_it = b.given;
    gets_it = b.gets;
    filled_it = b.filled;
    copied_it = b.copied;
    element_value = λ t at counter place. omega (arith, b.element t at counter place);
    element_copy = b.copies;
    element_stands = b.stands;
    done = λ e w t. omega arith;
    some_stmt = λ s w t. omega arith;
    leaves = λ node leaving parts w t. omega (arith, b.left);
    gives = λ node back e w t. omega (arith, b.left, goes_back back w);
    selects = λ node conditions blocks w t.
        omega (arith, b.selected 0 0 (label End t), in_turn_sum (own_counted part built standing said) conditions blocks);
    cases = λ node these selector blocks w t.
        omega (
          arith,
          b.selected (suc t + arm_count (ByLabels these)) (label Next t) (label End t),
          both_counted these,
          in_turn_sum
              (own_counted part built standing said) selector blocks,
        );
    no_arm = λ these a. omega arith;
    one_arm = λ these others t a. omega (arith, b.branch (label Next t) (label Arm a) (label End t));
    otherwise = λ block w u. omega arith;
    one_block = λ first more w u. omega arith;
    some_blocks = λ blocks w u. omega arith;
    some_turns = λ conditions blocks w u. omega arith;
    last_turn = λ blocks w u. omega arith;
    one_turn = λ condition conditions first more w t u. omega (arith, b.block u (label Arm u) (label End t));
    whiles = λ node head body w t.
        omega (arith, b.while t (suc t) (label Turn t) (label Next t) (label End t), head_least head, loop_counted While head);
    counts = λ node place inclusive head body w t.
        omega (
          arith,
          b.count (suc t) (second head (suc t)) place.number (label Turn t) (label Next t) (label End t) inclusive,
          head_least head,
          loop_counted
              (Count place inclusive) head,
        );
    goes_over = λ node place head body w t.
        omega (
          arith,
          b.elements (suc t) (suc (suc t)) (suc t + 2) (label Turn t) (label Next t) (label Arm t) (label End t),
          head_reserved head,
          loop_counted (Each place) head,
        );
    follows = λ first more w t. omega arith;
    some_block = λ block w t. omega arith;
    blanks = λ node place cursor more w t. omega (arith, b.blank place.number (type_number types place.of));
    fills = λ node place cursor e others more w t. omega (arith, b.kept);
  }

  line_tally : (l : Line) → Tally (summed m) 0 (m l) (λ k. l ∷ k)
  line_tally l = record { all = λ k. omega arith }

  counted : Counted types facts modes costs
  unfolding costs
  counted = record {
    ground = ground_of types facts modes costs (λ t. refl) (λ spare most front. Tally (summed m) spare most front) tally_none (λ r s a b F G p q. p >> q)
        (λ r a r' a' F le p. tally_most r' a' le p) (λ n. line_tally (L.Label n));
    plain = λ z l e f. line_tally l;
    freed = λ z l t e f bare free. line_tally l;
    given = λ z l t e f. tally_most 0 (m l + 0) (omega arith) (line_tally l);
    led = λ z l t e f. line_tally l;
  }

  abbrev kept : Kept types facts modes costs
  kept = kept_of types facts modes costs counted

  twice : Twice types facts modes costs kept
  unfolding costs counted
  twice = λ z path t r a F go.
      let c = steps types facts (λ l t. m l) path t in
      record { paid = tally_most r (a + (c + c)) (omega arith) (go z tt c (λ z' u. find types facts modes costs kept z' path t)).paid }

  -- the parameters end
  place_tally : (place : Declared) → Tally (summed m) 0 (place_counts facts modes each place) (place_end types facts place)
  place_tally place = at (is_hooked facts place.of)
    where
      line : Line
      line = L.Own (W.PlaceEnds place.number (type_number types place.of)) []

      at : (b : Bool) → Tally (summed m) 0 (if b then each else 0) (λ k. if b then line ∷ k else k)
      at true = tally_most 0 each (omega (arith, b.place_ends place.number (type_number types place.of))) (line_tally line)
      at false = tally_none

  params_tally : (params : List Param) → Tally (summed m) 0 (params_count facts modes each params) (param_ends types facts params)
  params_tally [] = tally_none
  params_tally (param ∷ params) = tally_most 0 _ (omega arith) (params_tally params >> place_tally param.place)

  ends_back : (params : List Param) (result : Option Declared) →
      Tally (summed m) 0 (exit + params_count facts modes each params) (λ k. param_ends types facts params (returned result k))
  ends_back params result =
      tally_most 0 _ (omega (arith, b.returning (number_of result))) (params_tally params >> line_tally (L.Return (number_of result)))

  rules : Rules kept.ground.Stray
  unfolding counted
  rules = no_rules (Unit {0}) tt

  around : List Param → costs.Ways
  unfolding costs
  around params = record { breaks = 0; continues = 0; returns = params_count facts modes each params }

  out_of : (params : List Param) (result : Option Declared) (z : kept.ground.World) →
      ExitsPaid types facts modes costs kept rules twice z (outermost (λ k. param_ends types facts params (returned result k))) (around params)
  unfolding costs counted around
  out_of params result z Break z' u = record { paid = tally_most 0 (exit + 0) (omega arith) tally_none }
  out_of params result z Continue z' u = record { paid = tally_most 0 (exit + 0) (omega arith) tally_none }
  out_of params result z Return z' u = record { paid = ends_back params result }

  -- the lines of a body, to its end
  pub body_spare : (params : List Param) (result : Option Declared) (block : Stmts) →
      summed m (lines_of types facts modes result block (outermost (λ k. param_ends types facts params (returned result k))) 0
      (param_ends types facts params (returned result [])))
      ≤ block_counted part built standing said block
      + pairs_of facts modes each block (record { breaks = 0; continues = 0; returns = params_count facts modes each params })
      + (exit + params_count facts modes each params)
  unfolding costs counted rules around
  body_spare params result block =
      let inner = (paid types facts modes costs kept rules twice result block (outermost (λ k. param_ends types facts params (returned result k)))
      (around params) 0 tt tt (out_of params result tt)).paid in
      omega (arith, inner.all (param_ends types facts params (returned result [])), (ends_back params result).all [])
