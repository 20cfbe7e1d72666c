-- What comes of a line by the runs of its words: it passes, gives a number, leaps, begins a turn, or ends the program with a trap.
use Rattle.std.proofs.Common.{◌≡◌, inl, ℕ, ◌+◌, ◌*◌, ◌≤◌, List, [], ◌∷◌, ◌++◌, length, map, Option, Some, None, true, ℤ, refl, sym, ap, ◌∙◌, arith}
use Rattle.std.proofs.Common.{append_assoc}
use Rattle.arc_base.specs.declared.outside.Stream.TheVariants.{Err}
use Rattle.arc_base.specs.Event.{Event, writes}
use Rattle.arc_base.specs.Behaviour.{Live}
use Rattle.arc_base.specs.Stepping.{Next}
use Rattle.nim_program.specs.Traps.{Trap, Overflow, DivisionByZero, IndexOutOfBounds, OutOfRange, NilDereference, LengthChanged, CallDepth, OutOfMemory}
use Rattle.nim_program.specs.Traps.{trap_text}
use Rattle.nim_meaning.specs.Values.{Number}
use Rattle.nim_meaning.specs.State.{live}
use Rattle.nim_meaning.specs.Acts.{line_of}
use Rattle.nim_meaning.specs.Deeds.{Answers, Finishes}
use Rattle.flat_code.specs.declared.block.BlockLine.{BlockLine}
use Rattle.flat_code.specs.Scene.{Temps, with_value, Passes, Leaps, Turns}
use Rattle.flat_code.specs.Shapes.{has_shape}
use Rattle.flat_code.specs.Running.{from_label as line_from, jumped}
use Rattle.flat_code.specs.Codes.{block_plain, block_label}
use Rattle.word_code.specs.declared.word.WordInstr.{WordInstr}
use Rattle.word_code.specs.Words.{Vars, WordState, from_label}
use Rattle.word_code.proofs.ForCallers.{at, Runs, then_runs, AlwaysSteps, AlwaysStops, stops_on}
use Rattle.word_lowering.specs.Operations.{word, trap_label}
use Rattle.word_lowering.specs.LineCode.{variable_of, own_label, label_before, line_code}
use Rattle.word_lowering.specs.Lowered.{any_branches}
use Rattle.word_lowering.proofs.Gets.{SameTemps, good_with_temps, same_temps}
use Rattle.word_lowering.proofs.Lines.{Basis, Follows, FollowsFrom, IsGood, IsSpending, Settles, good_units, spends_settles, all_procs, goes_on, IsQuiet}
use Rattle.word_lowering.proofs.Lines.{none_past}
use Rattle.word_lowering.proofs.Lines.{stands_next, stays_on, changed, lower, starts}
use Rattle.word_lowering.proofs.Moves.{all_same, same_more}
use Rattle.word_lowering.proofs.OperationRuns.{Given, Led}
use Rattle.word_lowering.proofs.OrdinalRuns.{AllSame, Leads}
use Rattle.word_lowering.proofs.Related.{Both, with_units, StandAt, body_of, code_behind, code_past, high, low, within}
use Rattle.word_lowering.proofs.Scenes.{IsThere, of_value, house, looked}
use Rattle.word_lowering.proofs.Sites.{is_one_word, word_of, around}
use Rattle.word_lowering.proofs.ValueFacts.{good_word}
use Rattle.word_lowering.proofs.ShapeFacts.{number_numbers}

-- ---- runs that end

pub stops_after : {S X : Type 0} (machine : X → S → Next Event S) (s t : S) (l p q status : ℕ) (es : List Event) (left : Live)
    → AlwaysSteps machine l s [] p t → AlwaysStops machine t es q status left → AlwaysStops machine s es (p + q) status left
stops_after machine s t l p q status es left x y = stops_on machine l p q status s t [] es left x y

pub stops_more : {S X : Type 0} (machine : X → S → Next Event S) (s : S) (p q status : ℕ) (es : List Event) (left : Live) → p ≤ q
    → AlwaysStops machine s es p status left → AlwaysStops machine s es q status left
stops_more machine s p q status es left le x = λ gifts k. let r = x gifts k in record { work = r.work; within = omega (arith, r.within, le); by = r.by }

module _ (x : Basis) where
  -- ---- what is true of the code of a procedure, by its labels

  -- from the label of a trap on the run ends
  pub record TrapStops (g : Both) (trap : Trap) : Type 0 where
    pub there : List WordInstr
    pub stands : from_label (trap_label trap) (word_of x.table x.blocks (body_of g)).lines ≡ Some there
    pub stops : (v w : Vars) → AlwaysStops (lower x) (at (within x.table x.blocks g) g.memory there v w) (writes Err (line_of (trap_text trap))) 7 1
        (live g.world)

  abbrev pub code_of_line : Both → BlockLine → List BlockLine → List WordInstr → List WordInstr
  code_of_line g line rest k = line_code (around x.table x.blocks (body_of g)) (block_plain line) (label_before (map block_plain rest)) k

  -- a line whose code branches to the label of a trap comes to it
  abbrev pub TrapsStop : Type 0
  TrapsStop = (g : Both) (line : BlockLine) (rest : List BlockLine) → IsGood x (starts g line rest) → (trap : Trap)
      → ((k : List WordInstr) → any_branches (trap_label trap) (code_of_line g line rest k) ≡ true) → TrapStops (starts g line rest) trap

  -- the words from a label of block code on
  abbrev pub LabelsLead : Type 0
  LabelsLead = (g : Both) (line : BlockLine) (rest after : List BlockLine) (name : ℕ) → IsGood x (starts g line rest)
      → line_from block_label name (body_of g).proc.lines ≡ Some after
      → (from_label (own_label name) (word_of x.table x.blocks (body_of g)).lines ≡ Some (code_behind x.table x.blocks (body_of g) after))
      × StandAt x.table x.blocks (body_of g) after

  -- the label that a line's code has of its own
  abbrev pub OwnLabels : Type 0
  OwnLabels = (g : Both) (line : BlockLine) (rest : List BlockLine) → IsGood x (starts g line rest)
      → from_label (label_before (map block_plain rest)) (word_of x.table x.blocks (body_of g)).lines
      ≡ from_label (label_before (map block_plain rest)) (code_of_line g line rest (code_past x.table x.blocks (body_of g) line rest))

  module _ (g : Both) (line : BlockLine) (rest : List BlockLine) (y : IsGood x (starts g line rest)) where
    abbrev pub code_here : List WordInstr
    code_here = code_behind x.table x.blocks (body_of g) (line ∷ rest)

    abbrev pub code_next : List WordInstr
    code_next = code_past x.table x.blocks (body_of g) line rest

    -- words for what comes between lead to other lines of the procedure
    abbrev pub Comes : List WordInstr → Type 0
    Comes there = Led x.live (all_procs x) (within x.table x.blocks g) g.memory g.words code_here g.call.vars there

    -- nothing changes but temporaries that have no place
    pub passes_settles : (temps : Temps) → SameTemps x g line rest y temps → (work : ℕ) → 1 ≤ work → Comes code_next
        → Settles x (starts g line rest) rest (Passes (Answers [] work temps g.world))
    passes_settles temps same work some led =
        goes_on x (starts g line rest) (changed g rest temps led.leads.vars g.memory g.words g.awaits g.world) rest
        (good_temps rest temps same led.leads.vars g.words g.awaits led.leads.same (stands_next x.table x.blocks (body_of g) line rest y.stands)) led.steps work
        temps g.world led.leads.runs led.some (omega (arith, led.few, some)) refl
      where
        good_temps : (after : List BlockLine) (temps : Temps) → SameTemps x g line rest y temps → (vars words : Vars) (awaits : ℕ) → AllSame g.call.vars vars
            → StandAt x.table x.blocks (body_of g) after → IsGood x (changed g after temps vars g.memory words awaits g.world)
        good_temps after temps same vars words awaits kept stand = good_with_temps x g line rest y after temps same vars words awaits kept stand

    -- no words at all
    pub silent_settles : (temps : Temps) → SameTemps x g line rest y temps → (work : ℕ) → code_here ≡ code_next
        → Settles x (starts g line rest) rest (Passes (Answers [] work temps g.world))
    silent_settles temps same work none =
        stays_on x (starts g line rest) (changed g rest temps g.call.vars g.memory g.words g.awaits g.world) rest
        (good_with_temps x g line rest y rest temps same g.call.vars g.words g.awaits (all_same g.call.vars)
        (stands_next x.table x.blocks (body_of g) line rest y.stands)) work temps g.world
        (ap (λ k. at (within x.table x.blocks g) g.memory k g.call.vars g.words) (sym none)) refl (omega arith)

    -- ---- a number

    -- a temporary with a place of one word gets a number
    pub record Getting (to : ℕ) (z : ℤ) : Type 0 where
      pub there : IsThere g.call.site (of_value to)
      pub one : is_one_word (looked x.table g.call.site (of_value to)) ≡ true
      pub shaped : has_shape (Number z) (looked x.table g.call.site (of_value to)) ≡ true

    pub gives_settles : (to : ℕ) (z : ℤ) (work : ℕ) → 1 ≤ work → Getting to z
        → Given x.live (all_procs x) (within x.table x.blocks g) g.memory g.words code_here g.call.vars
        (variable_of (house g.call.site (of_value to))) (word z) code_next
        → Settles x (starts g line rest) rest (Passes (Answers [] work (with_value to g.call.temps (Number z)) g.world))
    gives_settles to z work some n given =
        let good = good_word x g line rest y rest to (Number z) given.gives.vars n.there
        (number_numbers z (looked x.table g.call.site (of_value to)) n.shaped) n.shaped n.one given.gives.but given.gives.given
        (stands_next x.table x.blocks (body_of g) line rest y.stands) g.awaits in
        goes_on x (starts g line rest) (changed g rest (with_value to g.call.temps (Number z)) given.gives.vars g.memory g.words g.awaits g.world) rest good
        given.steps work (with_value to g.call.temps (Number z)) g.world given.gives.runs given.some (omega (arith, given.few, some)) refl

    -- ---- traps

    line_long : (trap : Trap) → 1 ≤ length (line_of (trap_text trap))
    line_long Overflow = omega arith
    line_long DivisionByZero = omega arith
    line_long IndexOutOfBounds = omega arith
    line_long OutOfRange = omega arith
    line_long NilDereference = omega arith
    line_long LengthChanged = omega arith
    line_long CallDepth = omega arith
    line_long OutOfMemory = omega arith

    pub trap_settles : TrapsStop → (trap : Trap) (work : ℕ) → 1 ≤ work
        → ((k : List WordInstr) → any_branches (trap_label trap) (code_of_line g line rest k) ≡ true)
        → ((there : List WordInstr) → from_label (trap_label trap) (word_of x.table x.blocks (body_of g)).lines ≡ Some there → Comes there)
        → Settles x (starts g line rest) rest
        (Passes (Finishes (writes Err (line_of (trap_text trap))) (work + length (line_of (trap_text trap))) 1 g.world))
    trap_settles traps trap work some leads led =
        let t = traps g line rest y trap leads in
        let l = led t.there t.stands in
        let long = line_long trap in
        stops_more (lower x) (low x.table x.blocks (starts g line rest)) (l.steps + 7) (256 * (work + length (line_of (trap_text trap)))) 1
        (writes Err (line_of (trap_text trap))) (live g.world)
        (omega (arith, l.few, long, some))
        (stops_after (lower x) (low x.table x.blocks (starts g line rest))
        (at (within x.table x.blocks g) g.memory t.there l.leads.vars g.words) l.steps l.steps 7 1 (writes Err (line_of (trap_text trap))) (live g.world)
        l.leads.runs (t.stops l.leads.vars g.words)) x.fresh

    -- ---- labels

    -- on at a label, wherever it was looked for
    pub lands_settles : LabelsLead → IsQuiet x line → (temps : Temps) → SameTemps x g line rest y temps → (name : ℕ) (o : Option (List BlockLine))
        → ((after : List BlockLine) → o ≡ Some after → line_from block_label name (body_of g).proc.lines ≡ Some after)
        → ((there : List WordInstr) → from_label (own_label name) (word_of x.table x.blocks (body_of g)).lines ≡ Some there → Comes there)
        → Follows x (starts g line rest) (jumped (high x.table x.blocks (starts g line rest)) temps 1 o)
    lands_settles labels plain temps same name None first comes = λ before. tt
    lands_settles labels plain temps same name (Some after) first comes =
        let l = labels g line rest after name y (first after refl) in
        let led = comes (code_behind x.table x.blocks (body_of g) after) l.0 in
        let good = good_with_temps x g line rest y after temps same led.leads.vars g.words g.awaits led.leads.same l.1 in
        λ before. let r = led.leads.runs.by x.fresh before in (
          (r.0, low x.table x.blocks (changed g after temps led.leads.vars g.memory g.words g.awaits g.world)),
          led.steps,
          record { work = r.1.work; within = omega (arith, r.1.within, led.few); by = r.1.by },
          (
            inl (changed g after temps led.leads.vars g.memory g.words g.awaits g.world, good, r.0),
            ap (λ (u : WordState). (r.0, u)) (none_past x line rest plain (changed g after temps led.leads.vars g.memory g.words g.awaits g.world)),
            refl,
            λ waits. refl,
          ),
          inl led.some,
        )

    pub leaps_settles : LabelsLead → IsQuiet x line → (name : ℕ)
        → ((there : List WordInstr) → from_label (own_label name) (word_of x.table x.blocks (body_of g)).lines ≡ Some there → Comes there)
        → Settles x (starts g line rest) rest (Leaps name 1)
    leaps_settles labels plain name comes =
        lands_settles labels plain g.call.temps (same_temps x g line rest y) name (line_from block_label name rest)
        (λ after e. y.linked.0.once name (y.stands.before ++ line ∷ []) rest after
        (y.stands.whole ∙ sym (append_assoc y.stands.before (line ∷ []) rest)) e) comes

    -- the same from a state before, behind other lines that change variables for what comes between alone
    lands_from : LabelsLead → IsQuiet x line → (t : WordState) (k : List WordInstr) (vars : Vars) (n : ℕ) → n ≤ 8 → AllSame g.call.vars vars
        → Runs x.live (all_procs x) n t (at (within x.table x.blocks g) g.memory k vars g.words) → (name : ℕ) (o : Option (List BlockLine))
        → ((after : List BlockLine) → o ≡ Some after → line_from block_label name (body_of g).proc.lines ≡ Some after)
        → ((there : List WordInstr) → from_label (own_label name) (word_of x.table x.blocks (body_of g)).lines ≡ Some there
        → Leads x.live (all_procs x) (within x.table x.blocks g) g.memory g.words k vars there 1)
        → FollowsFrom x t (starts g line rest) (jumped (high x.table x.blocks (starts g line rest)) g.call.temps 1 o)
    lands_from labels plain t k vars n few same runs name None first comes = λ before. tt
    lands_from labels plain t k vars n few same runs name (Some after) first comes =
        let l = labels g line rest after name y (first after refl) in
        let led = comes (code_behind x.table x.blocks (body_of g) after) l.0 in
        let good = good_with_temps x g line rest y after g.call.temps (same_temps x g line rest y) led.vars g.words g.awaits
        (same_more g.call.vars vars led.vars same led.same) l.1 in
        λ before. let r = (then_runs x.live (all_procs x) runs led.runs).by x.fresh before in (
          (r.0, low x.table x.blocks (changed g after g.call.temps led.vars g.memory g.words g.awaits g.world)),
          n + 1,
          record { work = r.1.work; within = omega (arith, r.1.within, few); by = r.1.by },
          (
            inl (changed g after g.call.temps led.vars g.memory g.words g.awaits g.world, good, r.0),
            ap (λ (u : WordState). (r.0, u)) (none_past x line rest plain (changed g after g.call.temps led.vars g.memory g.words g.awaits g.world)),
            refl,
            λ waits. refl,
          ),
          inl (omega arith),
        )

  -- a unit is spent, and then control goes on at a label
  pub turns_settles : (g : Both) (line : BlockLine) (rest : List BlockLine) → IsGood x (starts g line rest) → LabelsLead
      → IsQuiet x line → (name : ℕ)
      (spend : WordInstr) (k : List WordInstr) (vars : Vars) → IsSpending x g spend k vars g.words → (n : ℕ) → n ≤ 7 → AllSame g.call.vars vars
      → Runs x.live (all_procs x) n (low x.table x.blocks (starts g line rest)) (at (within x.table x.blocks g) g.memory (spend ∷ k) vars g.words)
      → ((units : Option ℕ) (there : List WordInstr) → from_label (own_label name) (word_of x.table x.blocks (body_of g)).lines ≡ Some there
      → Leads x.live (all_procs x) (within x.table x.blocks (with_units g units)) g.memory g.words k vars there 1)
      → Settles x (starts g line rest) rest (Turns g.call.temps name)
  turns_settles g line rest y labels plain name spend k vars is n few same runs comes =
      spends_settles x (starts g line rest) rest (Turns g.call.temps name) refl spend k vars g.words is n (omega (arith, few)) runs
      (λ units runs.
      lands_from (with_units g units) line rest (good_units x (starts g line rest) units y) labels plain (low x.table x.blocks (starts g line rest)) k vars
      (n + 1) (omega (arith, few)) same runs name (line_from block_label name (body_of g).proc.lines) (λ after e. e) (comes units))
