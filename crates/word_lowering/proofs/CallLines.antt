-- The line that calls is followed.
use Rattle.std.proofs.Common.{◌≡◌, ℕ, zero, suc, ◌+◌, ◌*◌, ◌^◌, ◌<◌, ◌≤◌, List, [], ◌∷◌, length, map, Option, Some, None, Bool}
use Rattle.std.proofs.Common.{true, false, refl, sym, ap, subst, ◌∙◌, arith}
use Rattle.std.specs.Prelude.{slice_get, not}
use Rattle.std.proofs.lemmas.Bool.{and_parts, false≢true}
use Rattle.arc_base.specs.declared.outside.Stream.TheVariants.{Err}
use Rattle.arc_base.specs.Event.{writes}
use Rattle.nim_types.specs.Types.{Ty}
use Rattle.flat_code.specs.declared.line.UseAt.{UseAt}
use Rattle.nim_program.specs.declared.program.TheConstants.{ACTIVE_CALLS}
use Rattle.nim_program.specs.Kinds.{same_value}
use Rattle.nim_program.specs.Traps.{CallDepth, trap_text}
use Rattle.nim_program.specs.View.{if_type}
use Rattle.nim_meaning.specs.Acts.{line_of}
use Rattle.nim_meaning.specs.Meaning.{seen_call}
use Rattle.nim_meaning.specs.Aims.{handed_bytes}
use Rattle.nim_meaning.specs.State.{live}
use Rattle.nim_meaning.specs.Values.{Operand, nothing, slots_for}
use Rattle.flat_code.specs.declared.block.BlockLine.{BlockLine}
use Rattle.flat_code.specs.declared.line.From.{From}
use Rattle.flat_code.specs.declared.line.Line.TheVariants as L
use Rattle.flat_code.specs.Codes.{block_plain, proc_of, procs_of}
use Rattle.flat_code.specs.Fits.{Signature, are_arguments, call_fits, is_value}
use Rattle.flat_code.specs.Running.{callable, called, entered, found, gives_nothing, traps as traps_by}
use Rattle.flat_code.specs.Scene.{Calls, with_value}
use Rattle.flat_code.specs.Shapes.{shape_of}
use Rattle.word_code.specs.declared.word.WordInstr.{WordInstr}
use Rattle.word_code.specs.declared.word.WordInstr.TheVariants.{Spend}
use Rattle.word_code.specs.Memory.{Memory}
use Rattle.word_code.specs.Words.{Vars, WordState, from_label}
use Rattle.word_code.proofs.ForCallers.{Runs, at, then_runs, none as no_run}
use Rattle.word_lowering.specs.Layouts.{params_in, is_empty}
use Rattle.word_lowering.specs.LineCode.{Around, arguments_code, call_code, called_code, checked_code, label_before, layout_at, nothing_code, operand, operands}
use Rattle.word_lowering.proofs.HeapKept.{heap_same}
use Rattle.word_lowering.proofs.AllGiven.{GivesAll, all_given}
use Rattle.word_lowering.proofs.AllOperands.{Have, using_all_settles}
use Rattle.word_lowering.proofs.Arguments.{all_own, params_apart}
use Rattle.word_lowering.proofs.CallBranches.{called_branches}
use Rattle.word_lowering.proofs.CallLabels.{ArgumentLabels, Finds}
use Rattle.word_lowering.proofs.Callees.{Callee}
use Rattle.word_lowering.proofs.CheckRuns.{Checked, checked, refused}
use Rattle.word_lowering.proofs.ControlLines.{plain, SettlesHere}
use Rattle.word_lowering.proofs.EnterLines.{entered_line}
use Rattle.word_lowering.proofs.EnterRuns.{code_called}
use Rattle.word_lowering.proofs.Gets.{good_with_temps}
use Rattle.word_lowering.proofs.GivenLines.{between, good_between}
use Rattle.word_lowering.proofs.Keeping.{call, nowhere}
use Rattle.word_lowering.proofs.LineFits.{no_type, type_there, value_type}
use Rattle.word_lowering.proofs.Lines.{Basis, FollowsFrom, IsGood, all_procs, changed, fits_here, goes_from, good_units, known, lower, settles, spends_settles}
use Rattle.word_lowering.proofs.Lines.{stands_next, starts}
use Rattle.word_lowering.proofs.Lines.{good_between as good_vars}
use Rattle.word_lowering.proofs.Moves.{all_same}
use Rattle.word_lowering.proofs.Related.{Answers, Both, MayAnswer, body_of, called_by, code_behind, high, low, with_units, within}
use Rattle.word_lowering.proofs.Scenes.{IsNamed, of_value, site_of}
use Rattle.word_lowering.proofs.Settling.{LabelsLead, TrapsStop, code_next, stops_after, stops_more}
use Rattle.word_lowering.proofs.ShapeFacts.{never}
use Rattle.word_lowering.proofs.Sites.{Body, Site, around, globals_of, sigs, word_of}
use Rattle.word_lowering.proofs.StoreLines.{none_temps}
use Rattle.word_lowering.proofs.Targets.{given, no_target}
use Rattle.word_lowering.proofs.ValueFacts.{type_in}

-- what fits of a call
pub record CallFits (x : Basis) (b : Body) (to : ℕ) (ty : Option ℕ) (o : Option Signature) (from : List From) : Type 0 where
  pub signature : Signature
  pub is : o ≡ Some signature
  pub gives : same_value signature.gives (if_type (known x).types ty) ≡ true
  pub takes : are_arguments (known x) (sigs x.table x.blocks) (globals_of x.table x.blocks) b.proc.places signature.takes from ≡ true
  pub given : same_value (type_in x is_value b to) (if_type (known x).types ty) ≡ true

call_fits_is : (x : Basis) (b : Body) (to : ℕ) (ty : Option ℕ) (o : Option Signature) (from : List From)
    → call_fits (known x) (sigs x.table x.blocks) (globals_of x.table x.blocks) b.proc.places o (if_type (known x).types ty) from ≡ true
    → same_value (type_in x is_value b to) (if_type (known x).types ty) ≡ true → CallFits x b to ty o from
call_fits_is x b to ty None from h given = never h
call_fits_is x b to ty (Some s) from h given =
    let c = and_parts (same_value s.gives (if_type (known x).types ty)) _ h in
    record { signature = s; is = refl; gives = c.0; takes = c.1; given = given }

none_wait : (sites : List Site) → is_empty sites ≡ true → length sites ≡ 0
none_wait [] h = refl
none_wait (s ∷ sites) h = absurd (false≢true h)

module _ {A B : Type 0} (f : A → B) where
  map_length : (xs : List A) → length (map f xs) ≡ length xs
  map_length [] = refl
  map_length (x ∷ xs) = ap suc (map_length xs)

-- a call that gives nothing has no type
without_type : (x : Basis) (ty : Option ℕ) → same_value None (if_type (known x).types ty) ≡ true → ty ≡ None
without_type x None h = refl
without_type x (Some t) h = never h

module _ (x : Basis) (labels : LabelsLead x) (traps : TrapsStop x) (own : ArgumentLabels x) (g : Both) (rest : List BlockLine) (to : ℕ)
    (how : UseAt)
    (ty : Option ℕ) (proc : ℕ) (from : List From) (y : IsGood x (starts g (plain (L.Call to how ty proc from)) rest)) (calling : WordState)
    (spends : Runs x.live (all_procs x) 1 calling (at (within x.table x.blocks g) g.memory (call_code (around x.table x.blocks (body_of g))
    (label_before (map block_plain rest)) proc ty to from (code_behind x.table x.blocks (body_of g) rest)) g.call.vars g.words)) where
  abbrev line : BlockLine
  line = plain (L.Call to how ty proc from)

  abbrev here : Around
  here = around x.table x.blocks (body_of g)

  abbrev label : ℕ
  label = label_before (map block_plain rest)

  -- behind the unit that was spent
  abbrev code : List WordInstr
  code = call_code here label proc ty to from (code_next x g line rest y)

  abbrev start : Bool
  start = (body_of g).start

  fit : CallFits x (body_of g) to ty (slice_get (sigs x.table x.blocks) proc) from
  fit =
      let f = and_parts (call_fits (known x) (sigs x.table x.blocks) (globals_of x.table x.blocks) (body_of g).proc.places
      (slice_get (sigs x.table x.blocks) proc) (if_type (known x).types ty) from) _ (fits_here x.table x.blocks (body_of g) line rest y.stands) in
      call_fits_is x (body_of g) to ty (slice_get (sigs x.table x.blocks) proc) from f.0 f.1

  callee : Callee x.table x.blocks proc fit.signature
  callee = x.callees proc fit.signature fit.is

  -- ---- the code

  code_running : callee.body.own.runs ≡ true
      → code ≡ arguments_code here label (params_in callee.body.own.all) (operands here from) (checked_code start (code_called x g line rest y callee to))
  code_running runs =
      ap (λ b. called_code here b label proc ty to (operands here from) (code_next x g line rest y)) (ap (λ l. l.runs) callee.layout ∙ runs)
      ∙ ap (λ l. arguments_code here label (params_in l.all) (operands here from) (checked_code start (code_called x g line rest y callee to))) callee.layout

  code_quiet : callee.body.own.runs ≡ false → code ≡ checked_code start (nothing_code here ty to (code_next x g line rest y))
  code_quiet runs =
      ap (λ b. called_code here b label proc ty to (operands here from) (code_next x g line rest y)) (ap (λ l. l.runs) callee.layout ∙ runs)

  -- ---- up to the check

  pub record Checking (xs : List Operand) (after : List WordInstr) : Type 0 where
    pub vars : Vars
    pub memory : Memory
    pub words : Vars
    pub good : IsGood x (starts (between x g line rest y vars memory words) line rest)
    pub steps : ℕ
    pub few : steps ≤ 256 * handed_bytes xs
    pub runs : Runs x.live (all_procs x) steps (at (within x.table x.blocks g) g.memory code g.call.vars g.words)
        (at (within x.table x.blocks g) memory (checked_code start after) vars words)

  pub y_same : IsGood x (starts (between x g line rest y g.call.vars g.memory g.words) line rest)
  y_same = good_between x g line rest y g.call.vars g.memory g.words y.memory (heap_same g.memory) (nowhere refl) (all_same g.call.vars)

  -- no arguments
  quiet_checking : (xs : List Operand) → callee.body.own.runs ≡ false → Checking xs (nothing_code here ty to (code_next x g line rest y))
  quiet_checking xs runs = record {
    vars = g.call.vars;
    memory = g.memory;
    words = g.words;
    good = y_same;
    steps = 0;
    few = omega arith;
    runs = subst (λ l. Runs x.live (all_procs x) 0 (at (within x.table x.blocks g) g.memory code g.call.vars g.words)
        (at (within x.table x.blocks g) g.memory l g.call.vars g.words)) (code_quiet runs)
        (no_run (lower x) (at (within x.table x.blocks g) g.memory code g.call.vars g.words));
  }

  abbrev code_checked : List WordInstr
  code_checked = checked_code start (code_called x g line rest y callee to)

  abbrev Arguments : List Operand → Type 0
  Arguments xs = GivesAll x g line rest y g.call.vars g.memory g.words
      (arguments_code here label (params_in callee.body.own.all) (operands here from) code_checked) code_checked (slots_for xs)
      (params_in callee.body.own.all) (16 * handed_bytes xs)

  finds : callee.body.own.runs ≡ true
      → Finds here (word_of x.table x.blocks (body_of g)).lines label (params_in callee.body.own.all) (operands here from) code_checked
  finds runs i less =
      let l = map_length (operand here) from in
      own g line rest y i (omega (arith, l, less)) ∙ ap (from_label (label + 2 * suc i)) (code_running runs)

  arguments : (xs : List Operand) → Have g.call.temps from xs → callee.body.own.runs ≡ true → Arguments xs
  arguments xs have runs = all_given x g line rest y callee label code_checked (params_in callee.body.own.all) fit.signature.takes from xs callee.params
      fit.takes (params_apart callee.body.own.all callee.is.apart) (all_own (params_in callee.body.own.all) callee.homes) (λ h i. i) (λ t i. i) (λ t i. i)
      (finds runs)
      have g.call.vars g.memory g.words y_same

  running_checking : (xs : List Operand) → callee.body.own.runs ≡ true → Arguments xs → Checking xs (code_called x g line rest y callee to)
  running_checking xs runs a = record {
    vars = a.vars_then;
    memory = a.memory_then;
    words = a.words_then;
    good = a.good;
    steps = a.steps;
    few = (let f = a.few in omega (arith, f));
    runs = subst (λ l. Runs x.live (all_procs x) a.steps (at (within x.table x.blocks g) g.memory l g.call.vars g.words)
        (at (within x.table x.blocks g) a.memory_then code_checked a.vars_then a.words_then)) (sym (code_running runs)) a.runs;
  }

  -- ---- no call may be active more

  abbrev Trapped : List Operand → Type 0
  Trapped xs = FollowsFrom x calling (starts g line rest) (traps_by g.world (suc (handed_bytes xs)) CallDepth)

  -- no call waits for the start code
  all_left : start ≡ true → g.call.site.left ≡ ACTIVE_CALLS
  all_left s = let l = none_wait (map site_of (map called_by g.waiting)) (sym y.linked.1 ∙ s) in omega (arith, y.linked.2, y.linked.3, l)

  line_long : 1 ≤ length (line_of (trap_text CallDepth))
  line_long = omega arith

  refused_by : (xs : List Operand) (after : List WordInstr) → Checking xs after → g.call.site.left ≡ 0 → start ≡ false → Trapped xs
  refused_by xs after q e s =
      let then : Both = between x g line rest y q.vars q.memory q.words in
      let t = traps then line rest q.good CallDepth
      (λ k. called_branches here (layout_at here proc).runs label proc ty to (operands here from) k s) in
      let l = refused x.live (all_procs x) (within x.table x.blocks g) q.memory q.words q.vars after start t.there s (q.good.hold.0.left s ∙ ap Some e)
      t.stands in
      let runs = then_runs x.live (all_procs x) q.runs l.leads.runs in
      let few = q.few in
      let few_more = l.few in
      let long = line_long in
      let text = writes Err (line_of (trap_text CallDepth)) in
      stops_more (lower x) calling (1 + (q.steps + l.steps) + 7)
      (256 * (suc (handed_bytes xs) + length (line_of (trap_text CallDepth)))) 1 text (live g.world) (omega (arith, few, few_more, long))
      (stops_after (lower x) calling (at (within x.table x.blocks g) q.memory t.there l.leads.vars q.words)
      (1 + (q.steps + l.steps)) (1 + (q.steps + l.steps)) 7 1 text (live g.world) (then_runs x.live (all_procs x) spends runs)
      (t.stops l.leads.vars q.words)) x.fresh

  no_left : (xs : List Operand) (after : List WordInstr) → Checking xs after → g.call.site.left ≡ 0 → Trapped xs
  no_left xs after q e = by start refl
    where
      by : (b : Bool) → start ≡ b → Trapped xs
      by true s = absurd (let h = all_left s in omega (arith, e, h))
      by false s = refused_by xs after q e s

  -- ---- one may

  abbrev IsChecked : Vars → Memory → Vars → List WordInstr → ℕ → Type 0
  IsChecked vars m words after left = Checked x.live (all_procs x) (within x.table x.blocks g) m words vars after start left

  run_checked : (vars : Vars) (m : Memory) (words : Vars) → IsGood x (starts (between x g line rest y vars m words) line rest) → (after : List WordInstr)
      (left : ℕ) → g.call.site.left ≡ suc left → IsChecked vars m words after left
  run_checked vars m words good after left e =
      let small : suc left < 2 ^ 32 = omega (arith, y.linked.3, e) in
      checked x.live (all_procs x) (within x.table x.blocks g) m words vars after start left small
      (λ s. sym e ∙ all_left s) (λ s. good.hold.0.left s ∙ ap Some e)

  -- without lines: nothing comes of it
  quiet_goes : (xs : List Operand) (left : ℕ) → g.call.site.left ≡ suc left → callee.body.proc.lines ≡ []
      → FollowsFrom x calling (starts g line rest)
      (gives_nothing (high x.table x.blocks (starts g line rest)) rest to (suc (handed_bytes xs)) (seen_call callee.body.proc.hook))
  quiet_goes xs left e is =
      let no_runs : callee.body.own.runs ≡ false = callee.runs ∙ ap (λ l. not (is_empty l)) is in
      let none : ty ≡ None = without_type x ty (subst (λ o. same_value o (if_type (known x).types ty) ≡ true) (callee.quiet is).1 fit.gives) in
      let untyped : type_in x is_value (body_of g) to ≡ None = no_type (type_in x is_value (body_of g) to)
      (subst (λ o. same_value (type_in x is_value (body_of g) to) (if_type (known x).types o) ≡ true) none fit.given) in
      let b = run_checked g.call.vars g.memory g.words y_same (nothing_code here ty to (code_next x g line rest y)) left e in
      let next = code_next x g line rest y in
      let silent : nothing_code here ty to next ≡ next = ap (λ o. nothing_code here o to next) none in
      let few = b.few in
      let temps = with_value to g.call.temps nothing in
      subst (λ es. FollowsFrom x calling (starts g line rest) (gives_nothing (high x.table x.blocks (starts g line rest)) rest to (suc (handed_bytes xs)) es))
      (sym (ap seen_call (callee.silent is)))
      (goes_from x calling (starts g line rest) (changed g rest temps b.vars g.memory g.words g.awaits g.world) rest
      (good_with_temps x g line rest y rest temps (none_temps x g line rest y to untyped) b.vars g.words g.awaits b.same
      (stands_next x.table x.blocks (body_of g) line rest y.stands)) (1 + b.steps) (suc (handed_bytes xs)) temps g.world
      (then_runs x.live (all_procs x) spends (subst (λ l. Runs x.live (all_procs x) b.steps (at (within x.table x.blocks g) g.memory l g.call.vars g.words)
      (at (within x.table x.blocks g) g.memory next b.vars g.words)) (sym (code_quiet no_runs))
      (subst (λ l. Runs x.live (all_procs x) b.steps
      (at (within x.table x.blocks g) g.memory (checked_code start (nothing_code here ty to next)) g.call.vars g.words)
      (at (within x.table x.blocks g) g.memory l b.vars g.words)) silent b.runs)))
      (omega arith) (omega (arith, few)) refl)

  -- the caller may get what the procedure gives
  answers : (vars : Vars) → Answers x.table x.blocks callee.body (record { call = call g.call.site g.call.temps vars; rest = rest; to = to; proc = proc })
  answers vars = record { layout = callee.layout; may = λ named. by named (type_in x is_value (body_of g) to) refl }
    where
      by : IsNamed g.call.site (of_value to) → (o : Option Ty) → type_in x is_value (body_of g) to ≡ o
          → MayAnswer x.table x.blocks callee.body (record { call = call g.call.site g.call.temps vars; rest = rest; to = to; proc = proc })
      by named None e = absurd (no_target x g line rest y to e named)
      by named (Some t) e =
          let s = type_there (type_in x is_value (body_of g) to) (if_type (known x).types ty) t fit.given e in
          let gives : fit.signature.gives ≡ Some t = value_type fit.signature.gives t
          (subst (λ o. same_value fit.signature.gives o ≡ true) s fit.gives) in
          let r = callee.orderly.gives t gives in
          let p = given x g line rest y to t refl refl e in
          record {
            there = p.there;
            result = r.result;
            is = r.is;
            typed = p.look ∙ sym (ap (shape_of (known x).facts) r.typed);
          }

  -- with lines
  lines_go : (xs : List Operand) → Have g.call.temps from xs → (left : ℕ) → g.call.site.left ≡ suc left → (l : BlockLine) (ls : List BlockLine)
      → callee.body.proc.lines ≡ l ∷ ls
      → FollowsFrom x calling (starts g line rest) (entered (high x.table x.blocks (starts g line rest)) rest to (slots_for xs) (suc (handed_bytes xs)) left
      (proc_of (known x) callee.body.proc) (l ∷ ls))
  lines_go xs have left e l ls is =
      let runs : callee.body.own.runs ≡ true = callee.runs ∙ ap (λ q. not (is_empty q)) is in
      let a = arguments xs have runs in
      let b = run_checked a.vars_then a.memory_then a.words_then a.good (code_called x g line rest y callee to) left e in
      let then : Both = between x g line rest y b.vars a.memory_then a.words_then in
      let good : IsGood x (starts then line rest)
      = good_vars x (between x g line rest y a.vars_then a.memory_then a.words_then) line rest a.good b.vars b.same in
      let few = a.few in
      let few_more = b.few in
      let here_runs : Runs x.live (all_procs x) a.steps (at (within x.table x.blocks g) g.memory code g.call.vars g.words)
      (at (within x.table x.blocks g) a.memory_then code_checked a.vars_then a.words_then)
      = subst (λ z. Runs x.live (all_procs x) a.steps (at (within x.table x.blocks g) g.memory z g.call.vars g.words)
      (at (within x.table x.blocks g) a.memory_then code_checked a.vars_then a.words_then)) (sym (code_running runs)) a.runs in
      entered_line x then line rest good callee (slots_for xs) a.gave left e to (answers b.vars) refl b.number l ls is
      calling (1 + (a.steps + b.steps)) (suc (handed_bytes xs)) (omega (arith, few, few_more))
      (then_runs x.live (all_procs x) spends (then_runs x.live (all_procs x) here_runs b.runs))

  pub called_follows : (xs : List Operand) → Have g.call.temps from xs
      → FollowsFrom x calling (starts g line rest) (settles x (starts g line rest) rest (Calls to proc (slots_for xs) (suc (handed_bytes xs))))
  called_follows xs have = by g.call.site.left refl
    where
      by_lines : (left : ℕ) → g.call.site.left ≡ suc left → (lines : List BlockLine) → callee.body.proc.lines ≡ lines
          → FollowsFrom x calling (starts g line rest) (entered (high x.table x.blocks (starts g line rest)) rest to (slots_for xs) (suc (handed_bytes xs)) left
          (proc_of (known x) callee.body.proc) lines)
      by_lines left e [] is = quiet_goes xs left e is
      by_lines left e (l ∷ ls) is = lines_go xs have left e l ls is

      refused_so : (b : Bool) → callee.body.own.runs ≡ b → g.call.site.left ≡ 0 → Trapped xs
      refused_so true runs e = no_left xs (code_called x g line rest y callee to) (running_checking xs runs (arguments xs have runs)) e
      refused_so false runs e = no_left xs (nothing_code here ty to (code_next x g line rest y)) (quiet_checking xs runs) e

      by : (left : ℕ) → g.call.site.left ≡ left → FollowsFrom x calling (starts g line rest)
          (called (high x.table x.blocks (starts g line rest)) rest to (slots_for xs) (suc (handed_bytes xs)) left
          (slice_get (callable (procs_of (known x) x.blocks)) proc))
      by zero e = refused_so callee.body.own.runs refl e
      by (suc left) e =
          subst (λ o. FollowsFrom x calling (starts g line rest)
          (found (high x.table x.blocks (starts g line rest)) rest to (slots_for xs) (suc (handed_bytes xs)) left o)) (sym callee.block)
          (by_lines left e callee.body.proc.lines refl)

pub call_line : (x : Basis) (labels : LabelsLead x) (traps : TrapsStop x) (own : ArgumentLabels x) (g : Both) (rest : List BlockLine) (to : ℕ) (how : UseAt)
    (ty : Option ℕ) (proc : ℕ) (from : List From) → SettlesHere x labels g rest (L.Call to how ty proc from)
call_line x labels traps own g rest to how ty proc from y =
    let line = plain (L.Call to how ty proc from) in
    let start = low x.table x.blocks (starts g line rest) in
    using_all_settles x (starts g line rest) rest g.call.temps from (λ xs. Calls to proc (slots_for xs) (suc (handed_bytes xs)))
    (λ xs have.
    spends_settles x (starts g line rest) rest (Calls to proc (slots_for xs) (suc (handed_bytes xs))) refl Spend
    (call_code (around x.table x.blocks (body_of g)) (label_before (map block_plain rest)) proc ty to from (code_behind x.table x.blocks (body_of g) rest))
    g.call.vars g.words refl 0 (omega arith) (no_run (lower x) start)
    (λ units runs.
    called_follows x labels traps own (with_units g units) rest to how ty proc from (good_units x (starts g line rest) units y) start runs xs have))
