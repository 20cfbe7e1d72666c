-- Lines that only lead somewhere: the word code leads to where the line leads in block code.
use Rattle.std.proofs.Common.{◌≡◌, ℕ, ◌+◌, List, [], ◌∷◌, Option, Some, None, Bool, true, false, pos, refl, sym, ap, ◌∙◌, arith}
use Rattle.std.specs.Prelude.{◌==◌, not}
use Rattle.std.specs.Ordering.{int_eq}
use Rattle.nim_types.specs.Types.{Ty}
use Rattle.nim_types.specs.Table.{facts_in}
use Rattle.nim_program.specs.Ints.{is_true}
use Rattle.nim_program.specs.Kinds.{TypeKind, kind_if, is_int, is_bool, is_ordinal}
use Rattle.nim_meaning.specs.Deeds.{Answers}
use Rattle.flat_code.specs.declared.block.BlockLine.{BlockLine}
use Rattle.flat_code.specs.declared.block.BlockLine.TheVariants as block_line
use Rattle.flat_code.specs.declared.owned.OwnedLine.TheVariants as owned_line
use Rattle.flat_code.specs.declared.line.Line.{Line}
use Rattle.flat_code.specs.declared.line.Line.TheVariants as L
use Rattle.flat_code.specs.Fits.{is_value}
use Rattle.flat_code.specs.Lines.{leaps_where, turns_where}
use Rattle.flat_code.specs.Running.{scene_of}
use Rattle.flat_code.specs.Scene.{Passes, Enters, Turns}
use Rattle.flat_code.specs.Codes.{block_does}
use Rattle.flat_code.specs.Shapes.{number, shape_of}
use Rattle.word_code.specs.declared.word.Test.{Test}
use Rattle.word_code.specs.declared.word.Test.TheVariants as test
use Rattle.word_code.specs.declared.word.WordInstr.{WordInstr}
use Rattle.word_code.specs.declared.word.WordInstr.TheVariants.{Constant, Jump, Branch, Spend, SpendIf}
use Rattle.word_code.specs.Words.{Vars, put, from_label, holds}
use Rattle.word_code.proofs.ForCallers.{none, at, then_runs, run_constant, run_label, run_jump, run_past, run_unspent, spends_if}
use Rattle.word_lowering.specs.declared.homes.TheConstants.{FIRST}
use Rattle.word_lowering.specs.Operations.{word}
use Rattle.word_lowering.specs.LineCode.{variable_of, own_label}
use Rattle.word_lowering.proofs.OrdinalRuns.{put_low, Leads}
use Rattle.word_lowering.proofs.OpRuns.{leads_off, leads_past, leads_constant, same_put}
use Rattle.word_lowering.proofs.OperationRuns.{Led}
use Rattle.word_lowering.proofs.Arithmetic.{equal_is}
use Rattle.word_lowering.proofs.Sites.{word_of}
use Rattle.word_lowering.proofs.Scenes.{of_value, house}
use Rattle.word_lowering.proofs.Related.{Both, body_of, with_units, within, high, low, code_behind, store_of}
use Rattle.word_lowering.proofs.Lines.{Basis, all_procs, all_sites, changed, fits_here, goes_from, good_same, good_units, starts, stands_next, IsGood, known}
use Rattle.word_lowering.proofs.Lines.{IsQuiet}
use Rattle.word_lowering.proofs.Lines.{lower}
use Rattle.word_lowering.proofs.Lines.{Settles, spends_settles, using_settles}
use Rattle.word_lowering.proofs.LineFits.{some_kind, int_shape, bool_shape, ordinal_shape}
use Rattle.word_lowering.proofs.Gets.{same_temps}
use Rattle.word_lowering.proofs.Moves.{all_same}
use Rattle.word_lowering.proofs.Settling.{LabelsLead, leaps_settles, passes_settles, turns_settles, Comes}
use Rattle.word_lowering.proofs.ValueFacts.{operand, has_type, look_of, type_in, Operand, PlainNames}
use Rattle.nim_meaning.specs.Values.{Value, number_of}
use Rattle.word_lowering.proofs.NamesIn.{names_in}

-- a line of block code that is one of flat code
abbrev pub plain : Line → BlockLine
plain line = block_line.Plain (owned_line.Plain line)

-- ---- numbers that lines read

module _ (x : Basis) (g : Both) (line : BlockLine) (rest : List BlockLine) (y : IsGood x (starts g line rest)) where
  abbrev pub value_type : ℕ → Option Ty
  value_type t = type_in x is_value (body_of g) t

  pub number_read : (t : ℕ) (v : Value) (ty : Ty) (values : Option ℕ) → value_type t ≡ Some ty → shape_of (facts_in x.table) ty ≡ number values
      → g.call.temps.values t ≡ Some v → Operand x g.call t v
  number_read t v ty values typed shape e =
      let n = has_type x g.call.site (of_value t) ty y.linked.0 typed in
      operand x (store_of g) g.world (all_sites x g line rest y) g.call t v values y.linked.0 y.hold.0 n.named e
      (look_of x g.call.site (of_value t) ty n ∙ shape)

  abbrev pub kind_at : ℕ → TypeKind
  kind_at t = kind_if (facts_in x.table) (value_type t)

  pub int_read : (t : ℕ) (v : Value) → is_int (kind_at t) ≡ true → g.call.temps.values t ≡ Some v → Operand x g.call t v
  int_read t v k e =
      let s = some_kind (facts_in x.table) (value_type t) is_int refl k in
      number_read t v s.0 None s.1 (int_shape (facts_in x.table) s.0 s.2) e

  pub bool_read : (t : ℕ) (v : Value) → is_bool (kind_at t) ≡ true → g.call.temps.values t ≡ Some v → Operand x g.call t v
  bool_read t v k e =
      let s = some_kind (facts_in x.table) (value_type t) is_bool refl k in
      number_read t v s.0 (Some 2) s.1 (bool_shape (facts_in x.table) s.0 s.2) e

  pub ordinal_read : (t : ℕ) (v : Value) → is_ordinal (kind_at t) ≡ true → g.call.temps.values t ≡ Some v → Operand x g.call t v
  ordinal_read t v k e =
      let s = some_kind (facts_in x.table) (value_type t) is_ordinal refl k in
      let n = ordinal_shape (facts_in x.table) s.0 s.2 in
      number_read t v s.0 n.0 s.1 n.1 e

  -- ---- what holds, or doesn't

  pub where_settles : LabelsLead x → IsQuiet x line → (holds : Bool) (name : ℕ)
      → (holds ≡ true → (there : List WordInstr) → from_label (own_label name) (word_of x.table x.blocks (body_of g)).lines ≡ Some there
      → Comes x g line rest y there)
      → (holds ≡ false → Settles x (starts g line rest) rest (Passes (Answers [] 1 g.call.temps g.world)))
      → Settles x (starts g line rest) rest (leaps_where (scene_of (high x.table x.blocks (starts g line rest))) 1 holds name)
  where_settles labels plain true name h k = leaps_settles x g line rest y labels plain name (h refl)
  where_settles labels plain false name h k = k refl

  pub turn_settles : (holds : Bool) (name : ℕ) → (holds ≡ true → Settles x (starts g line rest) rest (Turns g.call.temps name))
      → (holds ≡ false → Settles x (starts g line rest) rest (Passes (Answers [] 1 g.call.temps g.world)))
      → Settles x (starts g line rest) rest (turns_where (scene_of (high x.table x.blocks (starts g line rest))) holds g.call.temps name)
  turn_settles true name h k = h refl
  turn_settles false name h k = k refl

module _ (x : Basis) (labels : LabelsLead x) (g : Both) (rest : List BlockLine) where
  abbrev pub SettlesHere : Line → Type 0
  SettlesHere line = (y : IsGood x (starts g (plain line) rest)) → Settles x (starts g (plain line) rest) rest
      (block_does (known x) (scene_of (high x.table x.blocks (starts g (plain line) rest))) (plain line))

  -- a line that names nothing for which something would be to do
  abbrev pub FollowedHere : Line → Type 0
  FollowedHere line = PlainNames x g.call.site (names_in line) → SettlesHere line

  abbrev k : List WordInstr
  k = code_behind x.table x.blocks (body_of g) rest

  pub label_line : (name : ℕ) → FollowedHere (L.Label name)
  label_line name names y = passes_settles x g (plain (L.Label name)) rest y g.call.temps (same_temps x g (plain (L.Label name)) rest y) 1 (omega arith)
      (record {
        steps = 1;
        some = omega arith;
        few = omega arith;
        leads = record {
          vars = g.call.vars;
          same = all_same g.call.vars;
          runs = run_label x.live (all_procs x) (within x.table x.blocks g) g.memory k g.call.vars g.words (own_label name);
        };
      })

  pub enter_line : FollowedHere L.Enter
  enter_line names y =
      let line = plain L.Enter in
      spends_settles x (starts g line rest) rest Enters refl Spend k g.call.vars g.words refl 0 (omega arith)
      (none (lower x) (low x.table x.blocks (starts g line rest)))
      (λ units runs.
      let h = with_units g units in
      goes_from x (low x.table x.blocks (starts g line rest)) (starts h line rest)
      (changed h rest g.call.temps g.call.vars g.memory g.words g.awaits g.world) rest
      (good_same x h line rest (good_units x (starts g line rest) units y) g.call.vars g.words g.awaits rest (all_same g.call.vars)
      (stands_next x.table x.blocks (body_of g) line rest y.stands)) 1 1 g.call.temps g.world runs (omega arith) (omega arith) refl)

  jump_led : (there : List WordInstr) (name : ℕ) → from_label (own_label name) (word_of x.table x.blocks (body_of g)).lines ≡ Some there
      → Led x.live (all_procs x) (within x.table x.blocks g) g.memory g.words (Jump (own_label name) ∷ k) g.call.vars there
  jump_led there name stands = record {
    steps = 1;
    some = omega arith;
    few = omega arith;
    leads = record {
      vars = g.call.vars;
      same = all_same g.call.vars;
      runs = run_jump x.live (all_procs x) (within x.table x.blocks g) g.memory k g.call.vars g.words (own_label name) there stands;
    };
  }

  pub jump_line : (name : ℕ) → FollowedHere (L.Jump name)
  jump_line name names y = leaps_settles x g (plain (L.Jump name)) rest y labels refl name (λ there stands. jump_led there name stands)

  -- the jump behind a unit that was spent
  jumps : (k : List WordInstr) (vars : Vars) (units : Option ℕ) (there : List WordInstr) (name : ℕ)
      → from_label (own_label name) (word_of x.table x.blocks (body_of g)).lines ≡ Some there
      → Leads x.live (all_procs x) (within x.table x.blocks (with_units g units)) g.memory g.words (Jump (own_label name) ∷ k) vars there 1
  jumps k vars units there name stands = record {
    vars = vars;
    same = all_same vars;
    runs = run_jump x.live (all_procs x) (within x.table x.blocks (with_units g units)) g.memory k vars g.words (own_label name) there stands;
  }

  pub turn_line : (name : ℕ) → FollowedHere (L.Turn name)
  turn_line name names y =
      let line = plain (L.Turn name) in
      turns_settles x g line rest y labels refl name Spend (Jump (own_label name) ∷ k) g.call.vars refl 0 (omega arith) (all_same g.call.vars)
      (none (lower x) (low x.table x.blocks (starts g line rest))) (λ units there stands. jumps k g.call.vars units there name stands)

  -- ---- by a bool

  twice_not : (b : Bool) → not (not b) ≡ b
  twice_not true = refl
  twice_not false = refl

  module _ (from : ℕ) (v : Value) (o : Operand x g.call from v) where
    abbrev from_variable : ℕ
    from_variable = variable_of (house g.call.site (of_value from))

    reads : put g.call.vars FIRST 0 from_variable ≡ Some (word (number_of v))
    reads = put_low g.call.vars FIRST 0 from_variable (omega arith) o.high ∙ o.word_is

    zero_is : (word (number_of v) == 0) ≡ int_eq (number_of v) (pos 0)
    zero_is = equal_is (number_of v) (pos 0) o.fits refl

    -- 0 is compared with the word
    bool_leads : (t : Test) (name : ℕ) (there : List WordInstr) → holds t (word (number_of v)) 0 ≡ true
        → from_label (own_label name) (word_of x.table x.blocks (body_of g)).lines ≡ Some there
        → Led x.live (all_procs x) (within x.table x.blocks g) g.memory g.words
        (Constant FIRST 0 ∷ Branch t (variable_of (house g.call.site (of_value from))) FIRST (own_label name) ∷ k) g.call.vars there
    bool_leads t name there h stands = record {
      steps = 1 + 1;
      some = omega arith;
      few = omega arith;
      leads = leads_constant x.live (all_procs x) (within x.table x.blocks g) g.memory g.words
          (Branch t from_variable FIRST (own_label name) ∷ k) there g.call.vars 1 FIRST 0 (omega arith) (omega arith)
          (leads_off x.live (all_procs x) (within x.table x.blocks g) g.memory g.words k there
          (put g.call.vars FIRST 0) t from_variable FIRST (own_label name) (word (number_of v)) 0 reads refl h stands);
    }

    bool_passes : (t : Test) (name : ℕ) → holds t (word (number_of v)) 0 ≡ false
        → Led x.live (all_procs x) (within x.table x.blocks g) g.memory g.words
        (Constant FIRST 0 ∷ Branch t (variable_of (house g.call.site (of_value from))) FIRST (own_label name) ∷ k) g.call.vars k
    bool_passes t name h = record {
      steps = 1 + (1 + 0);
      some = omega arith;
      few = omega arith;
      leads = leads_constant x.live (all_procs x) (within x.table x.blocks g) g.memory g.words
          (Branch t from_variable FIRST (own_label name) ∷ k) k g.call.vars (1 + 0) FIRST 0 (omega arith) (omega arith)
          (leads_past x.live (all_procs x) (within x.table x.blocks g) g.memory g.words k k
          (put g.call.vars FIRST 0) 0 t from_variable FIRST (own_label name) (word (number_of v)) 0 reads refl h
          (record {
            vars = put g.call.vars FIRST 0;
            same = all_same (put g.call.vars FIRST 0);
            runs = none (lower x)
                (at (within x.table x.blocks g) g.memory k (put g.call.vars FIRST 0) g.words);
          }));
    }

  pub unless_line : (from name : ℕ) → FollowedHere (L.Unless from name)
  unless_line from name names y =
      let line = plain (L.Unless from name) in
      let same = same_temps x g line rest y in
      using_settles x (starts g line rest) rest (g.call.temps.values from)
      (λ v. leaps_where (scene_of (high x.table x.blocks (starts g line rest))) 1 (not (is_true (number_of v))) name)
      (λ v e.
      let o = bool_read x g line rest y from v (fits_here x.table x.blocks (body_of g) line rest y.stands) e in
      let is : holds test.Equal (word (number_of v)) 0 ≡ not (is_true (number_of v))
      = zero_is from v o ∙ sym (twice_not (int_eq (number_of v) (pos 0))) in
      where_settles x g line rest y labels refl (not (is_true (number_of v))) name
      (λ h there stands. bool_leads from v o test.Equal name there (is ∙ h) stands)
      (λ h. passes_settles x g line rest y g.call.temps same 1 (omega arith) (bool_passes from v o test.Equal name (is ∙ h))))

  -- a turn, or none
  module _ (from name : ℕ) where
    abbrev turn_if : BlockLine
    turn_if = plain (L.TurnIf from name)

    module _ (y : IsGood x (starts g turn_if rest)) (v : Value) (o : Operand x g.call from v) where
      abbrev at_variable : ℕ
      at_variable = from_variable from v o

      abbrev behind : List WordInstr
      behind = Branch test.Unequal at_variable FIRST (own_label name) ∷ k

      abbrev vars : Vars
      vars = put g.call.vars FIRST 0

      is : holds test.Unequal (word (number_of v)) 0 ≡ is_true (number_of v)
      is = ap not (zero_is from v o)

      turns_on : is_true (number_of v) ≡ true → Settles x (starts g turn_if rest) rest (Turns g.call.temps name)
      turns_on h =
          turns_settles x g turn_if rest y labels refl name (SpendIf test.Unequal at_variable FIRST) behind vars
          (spends_if x.live (all_procs x) (within x.table x.blocks g) g.memory behind vars g.words test.Unequal at_variable FIRST (reads from v o) refl
          true (is ∙ h)) 1 (omega arith) (same_put g.call.vars FIRST 0 (omega arith) (omega arith))
          (run_constant x.live (all_procs x) (within x.table x.blocks g) g.memory (SpendIf test.Unequal at_variable FIRST ∷ behind) g.call.vars g.words
          FIRST 0)
          (λ units there stands.
          leads_off x.live (all_procs x) (within x.table x.blocks (with_units g units)) g.memory g.words k there vars test.Unequal at_variable FIRST
          (own_label name) (word (number_of v)) 0 (reads from v o) refl (is ∙ h) stands)

      goes_past : is_true (number_of v) ≡ false → Comes x g turn_if rest y k
      goes_past h = record {
        steps = 1 + 1 + 1;
        some = omega arith;
        few = omega arith;
        leads = record {
          vars = vars;
          same = same_put g.call.vars FIRST 0 (omega arith) (omega arith);
          runs = then_runs x.live (all_procs x) (then_runs x.live (all_procs x)
              (run_constant x.live (all_procs x) (within x.table x.blocks g) g.memory (SpendIf test.Unequal at_variable FIRST ∷ behind) g.call.vars
              g.words FIRST 0)
              (run_unspent x.live (all_procs x) (within x.table x.blocks g) g.memory behind vars g.words test.Unequal at_variable FIRST
              (reads from v o) refl (is ∙ h)))
              (run_past x.live (all_procs x) (within x.table x.blocks g) g.memory k vars g.words test.Unequal at_variable FIRST (own_label name)
              (reads from v o) refl (is ∙ h));
        };
      }

    pub turn_if_line : FollowedHere (L.TurnIf from name)
    turn_if_line names y =
        using_settles x (starts g turn_if rest) rest (g.call.temps.values from)
        (λ v. turns_where (scene_of (high x.table x.blocks (starts g turn_if rest))) (is_true (number_of v)) g.call.temps name)
        (λ v e.
        let o = bool_read x g turn_if rest y from v (fits_here x.table x.blocks (body_of g) turn_if rest y.stands) e in
        turn_settles x g turn_if rest y (is_true (number_of v)) name (turns_on y v o)
        (λ h. passes_settles x g turn_if rest y g.call.temps (same_temps x g turn_if rest y) 1 (omega arith) (goes_past y v o h)))
