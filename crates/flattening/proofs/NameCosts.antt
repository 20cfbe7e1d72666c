-- The names that lines give, by the numbers of the parts that they are lines of: a part with numbers from t on has the names of these numbers, and spares
-- the `Arm` of the first one. A value that is given again names nothing new.
use Rattle.std.specs.Prelude.{if◌then◌else◌}
use Rattle.std.proofs.Common.{◌≡◌, ℕ, suc, Bool, true, false, ◌+◌, ◌≤◌, List, [], ◌∷◌, length, Some, None, refl, arith}
use Rattle.nim_types.specs.Types.{Ty, Facts}
use Rattle.nim_program.specs.declared.program.Mode.{Mode}
use Rattle.nim_program.specs.Program.{Label, ByLabels, Apply, Read, Early, Choose, ByConditions, Variable, Field, Element, Deref, NoArg, ByValue, ByPath}
use Rattle.nim_program.specs.Program.{Leave, While, Count, Each, Give, Select, Loop, Then, Declare, Block}
use Rattle.nim_program.specs.declared.operation.Short.TheVariants.{And, Or}
use Rattle.nim_meaning.specs.Here.{is_hooked}
use Rattle.nim_meaning.specs.Waiting.{Wait}
use Rattle.flat_code.specs.Alike.{label_name}
use Rattle.flattening.specs.Counted.{all_ends}
use Rattle.flattening.specs.Numbering.{width, width_at, widths, arm_count, width_in, width_of, looked_from, behind_selector}
use Rattle.flattening.proofs.Costs.{all_tests, Costs}
use Rattle.flattening.proofs.Tallies.{is_it, upto, value, led, arm, end, next, turn, upto_more, all_names}
use Rattle.flattening.proofs.Widths.{same_width, read_width, width_of_blocks, turn_width, selector_width, fresh_width}

pub no_tests : (labels : List (List Label)) → all_tests (λ these. 0) labels ≡ 0
no_tests [] = refl
no_tests (these ∷ labels) = omega (arith, no_tests labels)

pub no_number : (b : Bool) → (if b then 0 else 0) + 0 ≤ 0
no_number true = omega arith
no_number false = omega arith

pub no_ends : (ws : List Wait) → all_ends 0 ws + 0 ≤ 0
no_ends [] = omega arith
no_ends (w ∷ ws) = let h = no_ends ws in omega (arith, h)

module _ (types : List Ty) (facts : Facts) (modes : (proc position : ℕ) → Mode) (name : ℕ) (values locations : (t : ℕ) → ℕ)
    (values_most : (t : ℕ) → values t ≤ value name t) (locations_most : (t : ℕ) → locations t ≤ led name t) where
  abbrev pub Z : (t : ℕ) → ℕ
  Z t = upto name t

  pub names : (t : ℕ) → arm name t + values t + locations t + end name t + next name t + turn name t + Z t ≤ Z (suc t)
  names t = omega (arith, all_names name t, values_most t, locations_most t)

  pub more : (t u : ℕ) → t ≤ u → Z t ≤ Z u
  more t u le = upto_more name t u le

  unfoldable pub name_costs : Costs types facts modes
  name_costs = record {
    line = λ l. 0;
    lead = λ l t. locations t;
    again = λ l t. 0;
    mark = λ n. is_it name (label_name n);
    value = values;
    tests = λ labels. 0;
    branches = λ labels. 0;
    arms = λ labels t. Z (t + length labels);
    begin = Z;
    spare = λ t. Z t + arm name t;
    lent = locations;
    held = λ args t. Z t;
    get = 0;
    waited = λ act. 0;
    taken = 0;
    ended = 0;
    last = 0;
    filled = 0;
    given = 0;
    element = λ t. values t + locations t;
    Ways = Unit {0};
    leaving = λ way w. 0;
    in_place = λ place w. tt;
    in_group = λ ws w. tt;
    in_loop = λ w. tt;
    of_expr = λ e t. Z (t + width e);
    of_path = λ path t. Z (t + width_at path);
    of_fresh = λ constant e t. Z (t + fresh_width constant e);
    of_args = λ args t. Z (t + widths args);
    of_chosen = λ parts t. Z (behind_selector parts t);
    of_stmt = λ s w t. Z (t + width_in s);
    of_block = λ b w t. Z (t + width_of b);
    of_blocks = λ blocks w t. Z (t + width_of_blocks blocks);
    of_turns = λ conditions blocks w t. Z (t + (widths conditions + width_of_blocks blocks));
    next_spare = λ t. omega (arith, names t);
    waits = λ proc of node from. omega arith;
    takes = λ node. omega arith;
    ends = λ node ty. omega arith;
    lends = λ t node. omega arith;
    lends_text = λ t ty how text. omega arith;
    applies = λ node ty act operands how t.
        omega (arith, names t, more (suc t + widths operands) (t + width (Apply node ty act operands)) (omega arith));
    reads = λ path how t. omega (arith, names t, more (suc t + width_at path) (t + width (Read path)) (omega (arith, read_width path)));
    looks = λ s t. omega arith;
    both = λ node ty left right how t.
        omega (arith, names t, more (suc t + width left + width right) (t + width (Early node ty And left right)) (omega arith));
    either = λ node ty left right how t.
        omega (arith, names t, more (suc t + width left + width right) (t + width (Early node ty Or left right)) (omega arith));
    conditions = λ node ty parts how t.
        omega (arith, names t, more (suc t + widths parts) (t + width (Choose node ty ByConditions parts)) (omega arith));
    labels = λ node ty these parts how t.
        let s = suc t + arm_count (ByLabels these) in
        omega (
          arith,
          names t,
          more (suc t) s (omega arith),
          more (behind_selector parts s) (t + width (Choose node ty (ByLabels these) parts))
              (omega (arith, selector_width these parts t)),
          no_tests these,
        );
    root = λ node ty place global t.
        omega (arith, names t, more (suc t) (t + width_at (Variable node ty place global)) (omega arith));
    fresh = λ from t. omega arith;
    begins = λ from t. omega (arith, names t, more (suc t + width from) (t + fresh_width None from) (omega arith));
    stands = λ literal from t. omega (arith, names t, more (suc t) (t + fresh_width (Some literal) from) (omega arith));
    part = λ node ty base field t.
        omega (arith, names t, more (suc t + width_at base) (t + width_at (Field node ty base field)) (omega (arith, same_width base)));
    item = λ node ty base index constant t.
        omega (
          arith,
          names t,
          more (suc t + width_at base + width index) (t + width_at (Element node ty base index constant))
              (omega (arith, same_width base)),
        );
    object = λ ty base t.
        omega (arith, names t, more (suc t + width_at base) (t + width_at (Deref ty base)) (omega (arith, same_width base)));
    no_operand = λ t. more t (t + widths NoArg) (omega arith);
    by_value = λ e others t. omega (arith, more (t + width e + widths others) (t + widths (ByValue e others)) (omega arith));
    by_path = λ path others t.
        omega (arith, more (t + width_at path + widths others) (t + widths (ByPath path others)) (omega (arith, same_width path)));
    some_args = λ args t. more t (t + widths args) (omega arith);
    tested = λ e others t. omega (arith, more (t + width e) (t + widths (ByValue e others)) (omega arith));
    handed = λ e others ty how t u. omega (arith, more (u + width e) (u + widths (ByValue e others)) (omega arith));
    condition = λ first second others ty how t u.
        omega (arith, more (u + width first + width second + widths others) (u + widths (ByValue first (ByValue second others))) (omega arith));
    no_selector = λ u. more u (behind_selector NoArg u) (omega arith);
    selector = λ e others u. omega (arith, more (u + width e + widths others) (behind_selector (ByValue e others) u) (omega arith));
    looked = λ path others u.
        omega (arith, more (looked_from path u + width_at path + widths others) (behind_selector (ByPath path others) u) (omega (arith, same_width path)));
    test = λ these others s arm. omega arith;
    arm = λ these others e args ty how t u. omega (arith, more (u + width e + widths args) (u + widths (ByValue e args)) (omega arith));
    scoped = λ place w way. no_number (is_hooked facts place.of);
    grouped = λ ws w way. no_ends ws;
    breaks = λ w n. omega arith;
    continues = λ w n. omega arith;
    returns = λ w. omega arith;
    place_ends = λ place ty. omega arith;
    given_it = λ place from. omega arith;
    gets_it = λ place ty from. omega arith;
    filled_it = λ place from. omega arith;
    copied_it = λ place ty from. omega arith;
    element_value = λ t at counter place. omega arith;
    element_copy = λ t at counter place ty from. omega arith;
    element_stands = λ t at counter place from. omega arith;
    done = λ e w t. omega arith;
    some_stmt = λ s w t. more t (t + width_in s) (omega arith);
    leaves = λ node leaving parts w t. omega (arith, more t (t + width_in (Leave node leaving parts)) (omega arith));
    gives = λ node back e w t.
        omega (arith, no_number back, more t (suc t) (omega arith), more (suc t + width e) (t + width_in (Give node back e)) (omega arith));
    selects = λ node conditions blocks w t.
        omega (
          arith,
          names t,
          more (suc t + (widths conditions + width_of_blocks blocks)) (t + width_in (Select node ByConditions conditions blocks))
              (omega (arith, turn_width conditions blocks)),
        );
    cases = λ node these selector blocks w t.
        let u = suc t + arm_count (ByLabels these) in
        let turns = turn_width selector blocks in
        omega (
          arith,
          names t,
          more (behind_selector selector u + width_of_blocks blocks) (t + width_in (Select node (ByLabels these) selector blocks))
              (omega (arith, selector_width these selector t, turns)),
          no_tests these,
        );
    no_arm = λ these a. more a (a + length these) (omega arith);
    one_arm = λ these others t a.
        omega (arith, names a, more (suc a + length others) (a + length (these ∷ others)) (omega arith));
    otherwise = λ b w u. omega arith;
    one_block = λ first others w u.
        omega (arith, more (u + width_of first + width_of_blocks others) (u + width_of_blocks (Block first others)) (omega arith));
    some_blocks = λ blocks w u. more u (u + width_of_blocks blocks) (omega arith);
    some_turns = λ conditions blocks w u. more u (u + (widths conditions + width_of_blocks blocks)) (omega arith);
    last_turn = λ blocks w u. more (u + width_of_blocks blocks) (u + (widths NoArg + width_of_blocks blocks)) (omega arith);
    one_turn = λ condition conditions first others w t u.
        let v = u + width condition + width_of first in
        omega (
          arith,
          more (v + (widths conditions + width_of_blocks others))
              (u + (widths (ByValue condition conditions) + width_of_blocks (Block first others)))
              (omega arith),
        );
    whiles = λ node head body w t.
        omega (arith, names t, more (suc t + widths head + width_of body) (t + width_in (Loop node While head body)) (omega arith));
    counts = λ node place inclusive head body w t.
        omega (arith, names t, more (suc t + widths head + width_of body) (t + width_in (Loop node (Count place inclusive) head body)) (omega arith));
    goes_over = λ node place head body w t.
        omega (
          arith,
          names t,
          names (suc t),
          names (suc (suc t)),
          more (suc (suc (suc t))) (suc t + 2) (omega arith),
          more
              (suc t + 2 + widths head + width_of body) (t + width_in (Loop node (Each place) head body)) (omega arith),
        );
    follows = λ first others w t. omega (arith, more (t + width_in first + width_of others) (t + width_of (Then first others)) (omega arith));
    some_block = λ b w t. more t (t + width_of b) (omega arith);
    blanks = λ node place cursor others w t.
        omega (arith, more t (suc t) (omega arith), more (suc t + width_of others) (t + width_of (Declare node place cursor NoArg others)) (omega arith));
    fills = λ node place cursor e values others w t.
        let u = suc t + widths (ByValue e values) in
        omega (
          arith,
          more t (suc t) (omega arith),
          more (suc t + width e) u (omega arith),
          more (u + width_of others)
              (t + width_of (Declare node place cursor (ByValue e values) others)) (omega arith),
        );
  }
