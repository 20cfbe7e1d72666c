-- Labels of a `case` that are texts: control goes on at one where the text is the same.
use Rattle.std.proofs.Common.{◌≡◌, inl, ℕ, ◌+◌, List, [], ◌∷◌, ◌++◌, length, map}
use Rattle.std.proofs.Common.{suc, Option, Some, None, Bool, true, false, refl, sym, ap, subst, ◌∙◌, arith, append_assoc}
use Rattle.std.specs.Set.{is_member}
use Rattle.std.specs.Prelude.{if◌then◌else◌}
use Rattle.nim_types.specs.Table.{facts_in}
use Rattle.nim_types.specs.Types.{same_text}
use Rattle.nim_program.specs.declared.expr.Label.TheVariants as C
use Rattle.nim_program.specs.Kinds.{is_text}
use Rattle.nim_program.specs.Program.{Exactly}
use Rattle.nim_meaning.specs.Deeds.{Answers}
use Rattle.nim_meaning.specs.State.{is_whole, text_of}
use Rattle.nim_meaning.specs.Steps.{is_same}
use Rattle.nim_meaning.specs.Values.{Value}
use Rattle.flat_code.specs.declared.block.BlockLine.{BlockLine}
use Rattle.flat_code.specs.declared.line.Line.TheVariants as L
use Rattle.flat_code.specs.Codes.{block_label, block_plain}
use Rattle.flat_code.specs.Lines.{if_whole, leaps_where}
use Rattle.flat_code.specs.Running.{from_label as line_from, jumped, scene_of}
use Rattle.flat_code.specs.Scene.{Fails, Passes}
use Rattle.flat_code.specs.Sizes.{lines_texts}
use Rattle.word_code.specs.declared.word.WordInstr.{WordInstr}
use Rattle.word_code.specs.Words.{Vars, from_label, no_words}
use Rattle.word_code.proofs.ForCallers.{Runs, at, then_runs}
use Rattle.word_lowering.specs.declared.handed.TheConstants.{LEFT_HANDLE_AT, RIGHT_HANDLE_AT}
use Rattle.word_lowering.specs.declared.homes.TheConstants.{FOURTH}
use Rattle.word_lowering.specs.declared.homes.Home.{Home as Place}
use Rattle.word_lowering.specs.declared.homes.Home.TheVariants.{Static}
use Rattle.word_lowering.specs.LineCode.{own_label, value}
use Rattle.word_lowering.specs.Operands.{Around, text_at}
use Rattle.word_lowering.specs.OwnedCode.{literal_home, same_text_code, text_fits_code}
use Rattle.word_lowering.proofs.ConstantWords.{text_among}
use Rattle.word_lowering.proofs.ControlLines.{SettlesHere, plain, value_type}
use Rattle.word_lowering.proofs.Gets.{same_temps}
use Rattle.word_lowering.proofs.HandleLines.{heap_kept}
use Rattle.word_lowering.proofs.HandlesMade.{text_kept}
use Rattle.word_lowering.proofs.JoinedTypes.{text_looks}
use Rattle.word_lowering.proofs.LaidHandles.{text_handle}
use Rattle.word_lowering.proofs.LineFits.{some_kind}
use Rattle.word_lowering.proofs.Lines.{Basis, Follows, IsGood, Settles, all_procs, branch_settles, changed, fits_here, goes_on, starts, stands_next}
use Rattle.word_lowering.proofs.Lines.{using_settles}
use Rattle.word_lowering.proofs.OperandTexts.{TextsBuilt, text_value_has}
use Rattle.word_lowering.proofs.OrdinalRuns.{AllSame}
use Rattle.word_lowering.proofs.Related.{Both, StandAt, body_of, code_behind, high, low, sites_of, within}
use Rattle.word_lowering.proofs.RowOperands.{HasHandleAt}
use Rattle.word_lowering.proofs.Scenes.{is_fixed}
use Rattle.word_lowering.proofs.Settling.{LabelsLead, code_here}
use Rattle.word_lowering.proofs.Sites.{around, lines_of, word_of}
use Rattle.word_lowering.proofs.TextOperands.{TextAt}
use Rattle.word_lowering.proofs.TextReadRuns.{Chosen, same_text_runs}
use Rattle.word_lowering.proofs.Told.{good_told, told_none}
use Rattle.word_lowering.proofs.RoutinesCalled.{left_with}
use Rattle.word_lowering.proofs.ShapeFacts.{never}
use Rattle.word_lowering.specs.Lowered.{data_at}
use Rattle.word_lowering.proofs.TwoHandles.{still_at}
use Rattle.word_lowering.proofs.WrittenLines.{Writing}

module _ (x : Basis) (labels : LabelsLead x) (said : Writing x) (texts : TextsBuilt x) (g : Both) (rest : List BlockLine) (from : ℕ) (text : List ℕ)
    (name : ℕ) where
  abbrev line : BlockLine
  line = plain (L.Fits from (C.Text text) name)

  abbrev here : Around
  here = around x.table x.blocks (body_of g)

  abbrev k : List WordInstr
  k = code_behind x.table x.blocks (body_of g) rest

  abbrev home : Place
  home = literal_home RIGHT_HANDLE_AT (value here from).alias (value here from).home

  abbrev tests : List WordInstr
  tests = same_text_code (Static LEFT_HANDLE_AT) home (own_label name) k

  module _ (y : IsGood x (starts g line rest)) (v : Value) (has : g.call.temps.values from ≡ Some v) (whole : is_whole g.world v ≡ true) where
    among : is_member same_text (lines_texts (lines_of (body_of g))) text ≡ true
    among = ap (λ l. is_member same_text (lines_texts (map block_plain l)) text) y.stands.whole ∙ text_among line text [] refl y.stands.before rest

    -- the selector has its handle, and then the label's text
    abbrev middle : List WordInstr
    middle = text_fits_code (text_at here text) (length text) home (own_label name) k

    right : HasHandleAt x said g line rest y RIGHT_HANDLE_AT (code_here x g line rest y) middle home (text_of g.world v)
    right =
        let s = some_kind (facts_in x.table) (value_type x g line rest y from) is_text refl (fits_here x.table x.blocks (body_of g) line rest y.stands) in
        text_value_has x said texts g line rest y RIGHT_HANDLE_AT (omega arith) (omega arith) (omega arith) middle from s.0 v s.1
        (text_looks (facts_in x.table) s.0 s.2) has whole

    abbrev first_at : Both
    first_at = changed g rest g.call.temps right.vars right.memory g.words g.awaits g.world

    first_good : IsGood x (starts first_at line rest)
    first_good =
        good_told x said.least g line rest y (line ∷ rest) g.call.temps (same_temps x g line rest y) right.vars g.words g.awaits right.memory right.told
        right.same y.stands

    left : HasHandleAt x said first_at line rest first_good LEFT_HANDLE_AT middle tests (Static LEFT_HANDLE_AT) text
    left = text_handle x said texts first_at line rest first_good text among tests

    abbrev both_at : Both
    both_at = changed g rest g.call.temps left.vars left.memory g.words g.awaits g.world

    both_good : IsGood x (starts both_at line rest)
    both_good =
        good_told x said.least first_at line rest first_good (line ∷ rest) g.call.temps (same_temps x first_at line rest first_good) left.vars g.words g.awaits
        left.memory left.told left.same first_good.stands

    right_text : TextAt g.world.heap g.ground.blocks.stands left.memory right.address (text_of g.world v)
    right_text =
        let apart = right.beside LEFT_HANDLE_AT (omega arith) (omega arith) (inl (omega arith)) in
        text_kept g.world.heap g.ground.blocks.stands right.memory left.memory right.address (text_of g.world v) right.text_at (data_at + LEFT_HANDLE_AT) 12
        left.only apart.0 apart.1

    -- the label's text is the left one
    abbrev Tests : (there : List WordInstr) → (is_same text (text_of g.world v) ≡ true
        → from_label (own_label name) (word_of x.table x.blocks (body_of g)).lines ≡ Some there) → Type 0
    Tests there leads =
        Chosen (is_fixed g.ground) x.law x.live (all_procs x) (heap_kept x) (within x.table x.blocks g) refl g.ground.blocks g.world (sym y.input)
        left.memory both_good.heap both_good.memory.sized k left.vars g.words left.address right.address text (text_of g.world v) left.text_at right_text
        (Static LEFT_HANDLE_AT) home left.at_home (still_at g.call.site.base right.vars left.vars home right.address left.same right.at_home) (own_label name)
        there leads

    tested : (there : List WordInstr) (leads : is_same text (text_of g.world v) ≡ true
        → from_label (own_label name) (word_of x.table x.blocks (body_of g)).lines ≡ Some there) → Tests there leads
    tested there leads =
        same_text_runs (is_fixed g.ground) x.law x.live (all_procs x) (heap_kept x) (within x.table x.blocks g) refl g.ground.blocks g.world (sym y.input)
        left.memory both_good.heap both_good.memory.sized k left.vars g.words left.address right.address text (text_of g.world v) left.text_at right_text
        (Static LEFT_HANDLE_AT) home left.at_home (still_at g.call.site.base right.vars left.vars home right.address left.same right.at_home) (own_label name)
        there leads

    abbrev count : ℕ
    count = right.count + left.count

    both_runs : Runs x.live (all_procs x) count (low x.table x.blocks (starts g line rest))
        (at (within x.table x.blocks g) left.memory tests left.vars g.words)
    both_runs = then_runs x.live (all_procs x) right.runs left.runs

    -- behind the test
    abbrev behind_at : List BlockLine → Vars → Both
    behind_at after vars = changed g after g.call.temps vars left.memory no_words FOURTH g.world

    good_behind : (after : List BlockLine) (vars : Vars) → AllSame left.vars vars → StandAt x.table x.blocks (body_of g) after → IsGood x (behind_at after vars)
    good_behind after vars same stand =
        good_told x said.least both_at line rest both_good after g.call.temps (same_temps x both_at line rest both_good) vars no_words FOURTH left.memory
        (told_none x said.least (sites_of g) left.memory both_good.memory) same stand

    leaps : is_same text (text_of g.world v) ≡ true → (o : Option (List BlockLine))
        → ((after : List BlockLine) → o ≡ Some after → line_from block_label name (body_of g).proc.lines ≡ Some after)
        → Follows x (starts g line rest) (jumped (high x.table x.blocks (starts g line rest)) g.call.temps (suc (length text)) o)
    leaps same None first = λ before. tt
    leaps same (Some after) first =
        let l = labels g line rest after name y (first after refl) in
        let there : List WordInstr = code_behind x.table x.blocks (body_of g) after in
        let c = tested there (λ s. l.0) in
        let runs : Runs x.live (all_procs x) c.count (at (within x.table x.blocks g) left.memory tests left.vars g.words)
        (low x.table x.blocks (behind_at after c.vars))
        = subst (λ b. Runs x.live (all_procs x) c.count (at (within x.table x.blocks g) left.memory tests left.vars g.words)
        (at (left_with (within x.table x.blocks g) g.input FOURTH) left.memory (if b then there else k) c.vars no_words)) same c.steps in
        let few = c.few in
        let some = c.some in
        let first_few = right.few in
        let second_few = left.few in
        λ before. let r = (then_runs x.live (all_procs x) both_runs runs).by x.fresh before in (
          (r.0, low x.table x.blocks (behind_at after c.vars)),
          count + c.count,
          record { work = r.1.work; within = (let w = r.1.within in omega (arith, w, few, first_few, second_few)); by = r.1.by },
          (inl (behind_at after c.vars, good_behind after c.vars c.same l.1, r.0), refl, refl, λ waits. refl),
          inl (omega (arith, some)),
        )

    passes : is_same text (text_of g.world v) ≡ false
        → Settles x (starts g line rest) rest (Passes (Answers [] (suc (length text) + 0) g.call.temps g.world))
    passes other =
        let c = tested k (λ s. never (sym other ∙ s)) in
        let runs : Runs x.live (all_procs x) c.count (at (within x.table x.blocks g) left.memory tests left.vars g.words)
        (low x.table x.blocks (behind_at rest c.vars))
        = subst (λ b. Runs x.live (all_procs x) c.count (at (within x.table x.blocks g) left.memory tests left.vars g.words)
        (at (left_with (within x.table x.blocks g) g.input FOURTH) left.memory (if b then k else k) c.vars no_words)) other c.steps in
        let few = c.few in
        let some = c.some in
        let first_few = right.few in
        let second_few = left.few in
        goes_on x (starts g line rest) (behind_at rest c.vars) rest
        (good_behind rest c.vars c.same (stands_next x.table x.blocks (body_of g) line rest y.stands)) (count + c.count) (suc (length text) + 0) g.call.temps
        g.world (then_runs x.live (all_procs x) both_runs runs) (omega (arith, some)) (omega (arith, few, first_few, second_few)) refl

    by_same : (same : Bool) → is_same text (text_of g.world v) ≡ same → Settles x (starts g line rest) rest
        (leaps_where (scene_of (high x.table x.blocks (starts g line rest))) (suc (length text)) same name)
    by_same true e =
        leaps e (line_from block_label name rest)
        (λ after e. y.linked.0.once name (y.stands.before ++ line ∷ []) rest after
        (y.stands.whole ∙ sym (append_assoc y.stands.before (line ∷ []) rest)) e)
    by_same false e = passes e

  pub text_label_line : SettlesHere x labels g rest (L.Fits from (C.Text text) name)
  text_label_line y =
      using_settles x (starts g line rest) rest (g.call.temps.values from)
      (λ v. if_whole (Exactly text) g.world v
      (leaps_where (scene_of (high x.table x.blocks (starts g line rest))) (suc (length text)) (is_same text (text_of g.world v)) name))
      (λ v e. branch_settles x (starts g line rest) rest (is_whole g.world v)
      (leaps_where (scene_of (high x.table x.blocks (starts g line rest))) (suc (length text)) (is_same text (text_of g.world v)) name) Fails
      (λ whole. by_same y v e whole (is_same text (text_of g.world v)) refl)
      (λ gone. λ before. tt))
