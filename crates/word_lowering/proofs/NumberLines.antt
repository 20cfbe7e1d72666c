-- Lines that give numbers of their own: a constant, and the numbers of loops.
use Rattle.std.proofs.Common.{◌≡◌, inl, ℕ, ◌+◌, ◌≤◌, List, [], ◌∷◌, Option, Some, None, Bool, true, false, ℤ, pos, refl, sym, ap, subst, ◌∙◌, arith, map}
use Rattle.std.specs.Prelude.{◌==◌, ◌+ℤ◌, int_lt}
use Rattle.std.proofs.lemmas.Bool.{and_parts, cond-true, eq-eqb}
use Rattle.nim_types.specs.Types.{Ty}
use Rattle.nim_types.specs.Table.{facts_in}
use Rattle.nim_program.specs.Ints.{fits as is_int_number, truth}
use Rattle.nim_program.specs.Kinds.{is_int, is_bool}
use Rattle.nim_meaning.specs.Values.{Value, Number, number_of}
use Rattle.nim_meaning.specs.Deeds.{Answers, costs, give}
use Rattle.nim_meaning.specs.Acts.{branch}
use Rattle.nim_meaning.specs.Meaning.{limit}
use Rattle.flat_code.specs.declared.block.BlockLine.{BlockLine}
use Rattle.flat_code.specs.declared.line.Line.TheVariants as L
use Rattle.flat_code.specs.Scene.{Did, Passes, Leaps, Turns, Fails, with_value, Temps}
use Rattle.flat_code.specs.Shapes.{number, has_shape, shape_of}
use Rattle.flat_code.specs.Lines.{gives, using_number, turns_where}
use Rattle.flat_code.specs.Running.{scene_of, from_label as line_from, jumped}
use Rattle.flat_code.specs.Codes.{block_plain, block_label}
use Rattle.word_code.specs.declared.word.WordInstr.{WordInstr}
use Rattle.word_code.specs.declared.word.WordInstr.TheVariants.{Label, Spend, Constant, Sum, Jump}
use Rattle.word_code.specs.Words.{Vars, from_label}
use Rattle.word_lowering.specs.declared.homes.TheConstants.{OWN_FROM}
use Rattle.word_lowering.specs.declared.homes.Alias.TheVariants as alias
use Rattle.word_lowering.specs.Operations.{word, turn_code}
use Rattle.word_lowering.specs.LineCode.{variable_of, own_label, label_before}
use Rattle.word_lowering.specs.Aliases.{value_to, alias_by}
use Rattle.word_lowering.proofs.ValueFacts.{Operand, in_word, good_word, IsPlain}
use Rattle.word_lowering.proofs.Targets.{Target, target, texts_behind}
use Rattle.word_lowering.proofs.OperationRuns.{Given}
use Rattle.word_lowering.proofs.OpRuns.{gives_constant, same_but}
use Rattle.word_lowering.proofs.ControlLines.{FollowedHere, plain, value_type, kind_at, int_read}
use Rattle.word_lowering.proofs.CountRuns.{more_turns, below_fits, next_is_int, next_given, beyond_off, beyond_past, turns_past, turns_off}
use Rattle.word_code.proofs.ForCallers.{Runs, at, run_jump, run_label, then_runs}
use Rattle.word_lowering.proofs.Arithmetic.{word_small}
use Rattle.word_lowering.proofs.Gets.{same_temps}
use Rattle.word_lowering.proofs.LineFits.{bool_shape, int_shape, number_fits, some_kind}
use Rattle.word_lowering.proofs.Lines.{Basis, FollowsFrom, IsGood, Settles, all_procs, branch_settles, changed, fits_here, good_units, spends_settles, starts}
use Rattle.word_lowering.proofs.Lines.{using_settles}
use Rattle.word_lowering.proofs.Moves.{all_same}
use Rattle.word_lowering.proofs.OrdinalRuns.{AllSame}
use Rattle.word_lowering.proofs.Related.{high, Both, body_of, code_behind, low, with_units, within}
use Rattle.word_lowering.proofs.Scenes.{house, looked, of_value}
use Rattle.word_lowering.proofs.Settling.{Comes, Getting, LabelsLead, OwnLabels, code_next, leaps_settles, passes_settles, gives_settles}
use Rattle.word_lowering.proofs.Sites.{is_one_word, word_of}
use Rattle.word_lowering.proofs.ShapeFacts.{number_numbers}

module _ (x : Basis) (g : Both) (line : BlockLine) (rest : List BlockLine) (y : IsGood x (starts g line rest)) where
  abbrev pub variable : ℕ → ℕ
  variable t = variable_of (house g.call.site (of_value t))

  -- what gets a number
  pub getting : (to : ℕ) (ty : Ty) (values : Option ℕ) (z : ℤ) → Target x g line rest y to ty → shape_of (facts_in x.table) ty ≡ number values
      → has_shape (Number z) (number values) ≡ true → Getting x g line rest y to z
  getting to ty values z t shape shaped = record {
    there = t.there;
    one = ap is_one_word (t.look ∙ shape);
    shaped = subst (λ s. has_shape (Number z) s ≡ true) (sym (t.look ∙ shape)) shaped;
  }

  pub high_target : (to : ℕ) (z : ℤ) → Getting x g line rest y to z → OWN_FROM ≤ variable to
  high_target to z n = let w = in_word x g.call.site to y.linked.0 n.there n.one in subst (λ u. OWN_FROM ≤ u) (sym w.is) w.high

  pub constant_given : (to : ℕ) (z : ℤ) (n : Getting x g line rest y to z)
      → Given x.live (all_procs x) (within x.table x.blocks g) g.memory g.words (Constant (variable to) (word z) ∷ code_next x g line rest y) g.call.vars
      (variable to) (word z) (code_next x g line rest y)
  constant_given to z n = record {
    steps = 1;
    some = omega arith;
    few = omega arith;
    gives = gives_constant x.live (all_procs x) (within x.table x.blocks g) g.memory g.words (code_next x g line rest y) g.call.vars (variable to) (word z)
        (high_target to z n) (word_small z (number_fits (Number z) (looked x.table g.call.site (of_value to)) n.shaped));
  }

  -- of an int or a bool, by its kind
  pub int_target : (to : ℕ) → value_to (block_plain line) ≡ Some to → alias_by (block_plain line) (texts_behind x g line rest y) ≡ alias.Own
      → IsPlain x g.call.site (of_value to) → is_int (kind_at x g line rest y to) ≡ true → (z : ℤ) → is_int_number z ≡ true → Getting x g line rest y to z
  int_target to is own plain k z f =
      let s = some_kind (facts_in x.table) (value_type x g line rest y to) is_int refl k in
      getting to s.0 None z (target x g line rest y to s.0 is own s.1 plain) (int_shape (facts_in x.table) s.0 s.2) f

  pub bool_target : (to : ℕ) → value_to (block_plain line) ≡ Some to → alias_by (block_plain line) (texts_behind x g line rest y) ≡ alias.Own
      → IsPlain x g.call.site (of_value to) → is_bool (kind_at x g line rest y to) ≡ true → (b : Bool) → Getting x g line rest y to (truth b)
  bool_target to is own plain k b =
      let s = some_kind (facts_in x.table) (value_type x g line rest y to) is_bool refl k in
      getting to s.0 (Some 2) (truth b) (target x g line rest y to s.0 is own s.1 plain) (bool_shape (facts_in x.table) s.0 s.2) (a_truth b)
    where
      a_truth : (b : Bool) → has_shape (Number (truth b)) (number (Some 2)) ≡ true
      a_truth true = refl
      a_truth false = refl

module _ (x : Basis) (labels : LabelsLead x) (g : Both) (rest : List BlockLine) where
  pub zero_line : (to : ℕ) → FollowedHere x labels g rest (L.Zero to)
  zero_line to names y =
      let line = plain (L.Zero to) in
      let n = int_target x g line rest y to refl refl names.0 (fits_here x.table x.blocks (body_of g) line rest y.stands) (pos 0) refl in
      gives_settles x g line rest y to (pos 0) 1 (omega arith) n (constant_given x g line rest y to (pos 0) n)

  pub truth_line : (to : ℕ) (holds : Bool) → FollowedHere x labels g rest (L.Truth to holds)
  truth_line to true names y =
      let line = plain (L.Truth to true) in
      let n = bool_target x g line rest y to refl refl names.0 (fits_here x.table x.blocks (body_of g) line rest y.stands) true in
      gives_settles x g line rest y to (truth true) 1 (omega arith) n (constant_given x g line rest y to (truth true) n)
  truth_line to false names y =
      let line = plain (L.Truth to false) in
      let n = bool_target x g line rest y to refl refl names.0 (fits_here x.table x.blocks (body_of g) line rest y.stands) false in
      gives_settles x g line rest y to (truth false) 1 (omega arith) n (constant_given x g line rest y to (truth false) n)

-- ---- the numbers of loops

module _ (x : Basis) (labels : LabelsLead x) (g : Both) (rest : List BlockLine) (counter last : ℕ) where
  abbrev k : List WordInstr
  k = code_behind x.table x.blocks (body_of g) rest

  abbrev counter_variable : ℕ
  counter_variable = variable_of (house g.call.site (of_value counter))

  abbrev last_variable : ℕ
  last_variable = variable_of (house g.call.site (of_value last))

  -- the next one
  module _ where
    abbrev next : BlockLine
    next = plain (L.Next counter last)

    next_goes : IsPlain x g.call.site (of_value counter) → (y : IsGood x (starts g next rest)) (v w : Value)
        → int_lt (number_of v) (number_of w) ≡ true → Operand x g.call counter v
        → Operand x g.call last w
        → Settles x (starts g next rest) rest (Passes (Answers [] 1 (with_value counter g.call.temps (Number (number_of v +ℤ pos 1))) g.world))
    next_goes plain_counter y v w h o p =
        let kinds = and_parts (is_int (kind_at x g next rest y counter)) (is_int (kind_at x g next rest y last))
        (fits_here x.table x.blocks (body_of g) next rest y.stands) in
        let f = below_fits (number_of v) (number_of w) o.fits p.fits h in
        gives_settles x g next rest y counter (number_of v +ℤ pos 1) 1 (omega arith)
        (int_target x g next rest y counter refl refl plain_counter kinds.0 (number_of v +ℤ pos 1) f)
        (record {
          steps = 1;
          some = omega arith;
          few = omega arith;
          gives = next_given x.live (all_procs x) (within x.table x.blocks g) g.memory g.words g.call.vars counter_variable last_variable o.high p.high
              (number_of v) (number_of w) o.fits p.fits o.word_is p.word_is k f g.call.vars (all_same g.call.vars);
        })

    pub next_line : FollowedHere x labels g rest (L.Next counter last)
    next_line names y =
        let kinds = and_parts (is_int (kind_at x g next rest y counter)) (is_int (kind_at x g next rest y last))
        (fits_here x.table x.blocks (body_of g) next rest y.stands) in
        let scene = scene_of (high x.table x.blocks (starts g next rest)) in
        let goes : ℤ → Did = λ i. gives scene counter (costs 1 (give (Number (i +ℤ pos 1)))) in
        using_settles x (starts g next rest) rest (g.call.temps.values counter)
        (λ v. using_number g.call.temps last (λ n. branch (int_lt (number_of v) n) (goes (number_of v)) Fails))
        (λ v e. using_settles x (starts g next rest) rest (g.call.temps.values last)
        (λ w. branch (int_lt (number_of v) (number_of w)) (goes (number_of v)) Fails)
        (λ w f. branch_settles x (starts g next rest) rest (int_lt (number_of v) (number_of w)) (goes (number_of v)) Fails
        (λ h. next_goes names.0 y v w h (int_read x g next rest y counter v kinds.0 e) (int_read x g next rest y last w kinds.1 f)) (λ h before. tt)))

  module _ (inclusive : Bool) (to : ℕ) where
    -- none of the loop
    abbrev beyond : BlockLine
    beyond = plain (L.Beyond counter last inclusive to)

    beyond_goes : IsPlain x g.call.site (of_value counter) → (y : IsGood x (starts g beyond rest)) (v w : Value)
        → Operand x g.call counter v → Operand x g.call last w
        → Settles x (starts g beyond rest) rest (branch (int_lt (number_of v) (limit inclusive (number_of w)))
        (Passes (Answers [] 1 (with_value counter g.call.temps (Number (number_of v))) g.world)) (Leaps to 1))
    beyond_goes plain_counter y v w o p =
        let kinds = and_parts (is_int (kind_at x g beyond rest y counter)) (is_int (kind_at x g beyond rest y last))
        (fits_here x.table x.blocks (body_of g) beyond rest y.stands) in
        branch_settles x (starts g beyond rest) rest (int_lt (number_of v) (limit inclusive (number_of w)))
        (Passes (Answers [] 1 (with_value counter g.call.temps (Number (number_of v))) g.world)) (Leaps to 1)
        (λ h. gives_settles x g beyond rest y counter (number_of v) 1 (omega arith)
        (int_target x g beyond rest y counter refl refl plain_counter kinds.0 (number_of v) o.fits)
        (record {
          steps = 1;
          some = omega arith;
          few = omega arith;
          gives = record {
            vars = g.call.vars;
            given = o.word_is;
            but = record { others = λ u high ne. refl; left = refl };
            runs = beyond_past x.live (all_procs x) (within x.table x.blocks g) g.memory g.words g.call.vars counter_variable last_variable o.high p.high
                (number_of v) (number_of w) o.fits p.fits o.word_is p.word_is k inclusive (own_label to) h;
          };
        }))
        (λ h. leaps_settles x g beyond rest y labels refl to
        (λ there stands. beyond_off x.live (all_procs x) (within x.table x.blocks g) g.memory g.words g.call.vars counter_variable last_variable o.high p.high
        (number_of v) (number_of w) o.fits p.fits o.word_is p.word_is k inclusive (own_label to) there h stands))

    pub beyond_line : FollowedHere x labels g rest (L.Beyond counter last inclusive to)
    beyond_line names y =
        let kinds = and_parts (is_int (kind_at x g beyond rest y counter)) (is_int (kind_at x g beyond rest y last))
        (fits_here x.table x.blocks (body_of g) beyond rest y.stands) in
        let scene = scene_of (high x.table x.blocks (starts g beyond rest)) in
        let goes : ℤ → ℤ → Did = λ i n. branch (int_lt i (limit inclusive n)) (gives scene counter (costs 1 (give (Number i)))) (Leaps to 1) in
        using_settles x (starts g beyond rest) rest (g.call.temps.values counter)
        (λ v. using_number g.call.temps last (goes (number_of v)))
        (λ v e. using_settles x (starts g beyond rest) rest (g.call.temps.values last)
        (λ w. goes (number_of v) (number_of w))
        (λ w f. beyond_goes names.0 y v w (int_read x g beyond rest y counter v kinds.0 e) (int_read x g beyond rest y last w kinds.1 f)))

    -- a further turn, or none
    abbrev count : BlockLine
    count = plain (L.CountTurn counter last inclusive to)

    abbrev own : ℕ
    own = label_before (map block_plain rest)

    abbrev turned : List WordInstr
    turned = Spend ∷ Sum counter_variable counter_variable 1 ∷ Jump (own_label to) ∷ Label own ∷ k

    module _ (owns : OwnLabels x) (plain_counter : IsPlain x g.call.site (of_value counter)) (y : IsGood x (starts g count rest)) (v w : Value)
        (o : Operand x g.call counter v) (p : Operand x g.call last w) where
      abbrev z : ℤ
      z = number_of v +ℤ pos 1

      abbrev temps : Temps
      temps = with_value counter g.call.temps (Number z)

      own_is : from_label own (word_of x.table x.blocks (body_of g)).lines ≡ Some (Label own ∷ k)
      own_is = owns g count rest y ∙ own_found inclusive
        where
          own_found : (b : Bool) → from_label own (turn_code own counter_variable last_variable b (own_label to) k) ≡ Some (Label own ∷ k)
          own_found true = cond-true (own == own) (Some (Label own ∷ k)) (from_label own k) (eq-eqb own own refl)
          own_found false = cond-true (own == own) (Some (Label own ∷ k)) (from_label own k) (eq-eqb own own refl)

      turned_on : (units : Option ℕ) (vars : Vars) (n : ℕ) → n ≤ 4 → AllSame g.call.vars vars
          → Runs x.live (all_procs x) n (low x.table x.blocks (starts g count rest)) (at (within x.table x.blocks (with_units g units)) g.memory
          (Sum counter_variable counter_variable 1 ∷ Jump (own_label to) ∷ Label own ∷ k) vars g.words)
          → more_turns inclusive (number_of v) (number_of w) ≡ true → (o : Option (List BlockLine))
          → ((after : List BlockLine) → o ≡ Some after → line_from block_label to (body_of g).proc.lines ≡ Some after)
          → FollowsFrom x (low x.table x.blocks (starts g count rest)) (starts (with_units g units) count rest)
          (jumped (high x.table x.blocks (starts g count rest)) temps 1 o)
      turned_on units vars n few same runs h None first = λ before. tt
      turned_on units vars n few same runs h (Some after) first =
          let kinds = and_parts (is_int (kind_at x g count rest y counter)) (is_int (kind_at x g count rest y last))
          (fits_here x.table x.blocks (body_of g) count rest y.stands) in
          let here = with_units g units in
          let l = labels g count rest after to y (first after refl) in
          let there = code_behind x.table x.blocks (body_of g) after in
          let f = next_is_int inclusive (number_of v) (number_of w) o.fits p.fits h in
          let s = next_given x.live (all_procs x) (within x.table x.blocks here) g.memory g.words g.call.vars counter_variable last_variable o.high p.high
          (number_of v) (number_of w) o.fits p.fits o.word_is p.word_is (Jump (own_label to) ∷ Label own ∷ k) f vars same in
          let j = run_jump x.live (all_procs x) (within x.table x.blocks here) g.memory (Label own ∷ k) s.vars g.words (own_label to) there l.0 in
          let n1 = int_target x g count rest y counter refl refl plain_counter kinds.0 z f in
          let good = good_word x here count rest (good_units x (starts g count rest) units y) after counter (Number z) s.vars n1.there
          (number_numbers z (looked x.table g.call.site (of_value counter)) n1.shaped) n1.shaped n1.one
          (same_but g.call.vars vars s.vars counter_variable same s.but) s.given l.1 g.awaits in
          let all = then_runs x.live (all_procs x) (then_runs x.live (all_procs x) runs s.runs) j in
          λ before. let steps = all.by x.fresh before in (
            (steps.0, low x.table x.blocks (changed here after temps s.vars g.memory g.words g.awaits g.world)),
            n + 1 + 1,
            record { work = steps.1.work; within = (let q = steps.1.within in omega (arith, q, few)); by = steps.1.by },
            (inl (changed here after temps s.vars g.memory g.words g.awaits g.world, good, steps.0), refl, refl, λ waits. refl),
            inl (omega arith),
          )

      count_more : more_turns inclusive (number_of v) (number_of w) ≡ true → Settles x (starts g count rest) rest (Turns temps to)
      count_more h =
          let t = turns_past x.live (all_procs x) (within x.table x.blocks g) g.memory g.words g.call.vars counter_variable last_variable o.high p.high
          (number_of v) (number_of w) o.fits p.fits o.word_is p.word_is k own turned inclusive h in
          let few = t.few in
          spends_settles x (starts g count rest) rest (Turns temps to) refl Spend
          (Sum counter_variable counter_variable 1 ∷ Jump (own_label to) ∷ Label own ∷ k) t.vars g.words refl t.steps (omega (arith, few)) t.runs
          (λ units runs. turned_on units t.vars (t.steps + 1) (omega (arith, few)) t.same runs h (line_from block_label to (body_of g).proc.lines)
          (λ after f. f))

      count_none : more_turns inclusive (number_of v) (number_of w) ≡ false → Comes x g count rest y k
      count_none h =
          let t = turns_off x.live (all_procs x) (within x.table x.blocks g) g.memory g.words g.call.vars counter_variable last_variable o.high p.high
          (number_of v) (number_of w) o.fits p.fits o.word_is p.word_is k own turned inclusive (Label own ∷ k) h own_is in
          record {
            steps = t.steps + 1;
            some = omega arith;
            few = (let q = t.few in omega (arith, q));
            leads = record {
              vars = t.vars;
              same = t.same;
              runs = then_runs x.live (all_procs x) t.runs (run_label x.live (all_procs x) (within x.table x.blocks g) g.memory k t.vars g.words own);
            };
          }

      count_goes : Settles x (starts g count rest) rest
          (turns_where (scene_of (high x.table x.blocks (starts g count rest))) (more_turns inclusive (number_of v) (number_of w)) temps to)
      count_goes = by (more_turns inclusive (number_of v) (number_of w)) refl
        where
          by : (b : Bool) → more_turns inclusive (number_of v) (number_of w) ≡ b
              → Settles x (starts g count rest) rest (turns_where (scene_of (high x.table x.blocks (starts g count rest))) b temps to)
          by true e = count_more e
          by false e = passes_settles x g count rest y g.call.temps (same_temps x g count rest y) 1 (omega arith) (count_none e)

    pub count_line : OwnLabels x → FollowedHere x labels g rest (L.CountTurn counter last inclusive to)
    count_line owns names y =
        let kinds = and_parts (is_int (kind_at x g count rest y counter)) (is_int (kind_at x g count rest y last))
        (fits_here x.table x.blocks (body_of g) count rest y.stands) in
        let scene = scene_of (high x.table x.blocks (starts g count rest)) in
        let goes : ℤ → ℤ → Did = λ i n. turns_where scene (more_turns inclusive i n) (with_value counter g.call.temps (Number (i +ℤ pos 1))) to in
        using_settles x (starts g count rest) rest (g.call.temps.values counter)
        (λ v. using_number g.call.temps last (goes (number_of v)))
        (λ v e. using_settles x (starts g count rest) rest (g.call.temps.values last)
        (λ w. goes (number_of v) (number_of w))
        (λ w f. count_goes owns names.0 y v w (int_read x g count rest y counter v kinds.0 e) (int_read x g count rest y last w kinds.1 f)))
