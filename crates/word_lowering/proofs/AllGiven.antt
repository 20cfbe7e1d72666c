-- All arguments of a call are given to its parameters, one behind the other.
use Rattle.std.proofs.Common.{◌≡◌, inl, inr, ℕ, suc, ◌+◌, ◌*◌, ◌≤◌, List, [], ◌∷◌, length, Option, Some, None, Bool, true, false}
use Rattle.std.proofs.Common.{refl, sym, ap, subst, ◌∙◌, arith}
use Rattle.std.specs.Prelude.{option_map, not, nat_eq, ◌||◌, ◌&&◌}
use Rattle.std.proofs.lemmas.Bool.{and_parts, eq-eqb}
use Rattle.nim_meaning.specs.Aims.{handed_bytes}
use Rattle.nim_meaning.specs.Values.{Value, bytes, Operand, Given, At, Slot, Holds, Stands, slots_for}
use Rattle.flat_code.specs.declared.block.BlockLine.{BlockLine}
use Rattle.flat_code.specs.declared.line.From.{From}
use Rattle.flat_code.specs.declared.line.From.TheVariants as F
use Rattle.flat_code.specs.Codes.{block_plain}
use Rattle.flat_code.specs.Fits.{Taken, Signature, are_arguments, is_value, is_location, is_standing, if_kind, place_named}
use Rattle.flat_code.specs.Scene.{Where, location_at}
use Rattle.nim_program.specs.Kinds.{is_of}
use Rattle.word_code.specs.declared.word.WordInstr.{WordInstr}
use Rattle.word_code.specs.Memory.{Memory}
use Rattle.word_code.specs.Words.{Vars}
use Rattle.word_code.proofs.ForCallers.{Runs, at, then_runs, none as no_run}
use Rattle.word_lowering.specs.declared.homes.Housed.{Housed}
use Rattle.word_lowering.specs.Aliases.{handed_by, places_in, is_among}
use Rattle.word_lowering.specs.Layouts.{params_in, holds_address}
use Rattle.word_lowering.specs.LineCode.{Around, arguments_code, location, operands, operand, argument_code}
use Rattle.word_lowering.proofs.Arguments.{AllOwn, Stays, beyond_all, slot_stays}
use Rattle.word_lowering.proofs.Callees.{Callee}
use Rattle.word_lowering.proofs.CallLabels.{Finds, finds_next}
use Rattle.word_lowering.proofs.AllOperands.{Have}
use Rattle.word_lowering.proofs.FirstPlaces.{ParamsAre, Gave}
use Rattle.word_lowering.proofs.GivenLines.{between, Argued, value_argument, location_argument, lent_argument}
use Rattle.word_lowering.proofs.HandedLines.{next_at}
use Rattle.word_lowering.proofs.HomesApart.{AllApart}
use Rattle.word_lowering.proofs.LineFits.{are_of}
use Rattle.word_lowering.proofs.HouseHooks.{homed}
use Rattle.word_lowering.specs.declared.homes.Alias.TheVariants.{Own}
use Rattle.word_lowering.proofs.Lines.{Basis, IsGood, all_procs, all_sites, known, lower, starts}
use Rattle.word_lowering.proofs.Moves.{all_same, same_more}
use Rattle.word_lowering.proofs.Options.{none_some, some_same}
use Rattle.word_lowering.proofs.OrdinalRuns.{AllSame}
use Rattle.word_lowering.proofs.Related.{Both, body_of, within}
use Rattle.word_lowering.proofs.ShapeFacts.{never, of_numbers}
use Rattle.word_lowering.proofs.Sites.{around, looks, type_of, Among, Site, sigs, globals_of, word_of}
use Rattle.word_lowering.proofs.ValueFacts.{type_in, IsHomed, has_type}
use Rattle.word_lowering.proofs.Scenes.{of_location, of_value}
use Rattle.word_lowering.proofs.Targets.{AmongFrom, home_of_value}
use Rattle.word_lowering.proofs.LentLocations.{lent_shape, located_here}
use Rattle.nim_types.specs.Table.{facts_in}
use Rattle.word_lowering.specs.MayLower.{homed_by}
use Rattle.flat_code.specs.Shapes.{shape_of}

-- ---- what an operand was

record WasValue (o : Option Value) (z : Operand) : Type 0 where
  value : Value
  has : o ≡ Some value
  is : z ≡ Given value

was_value : (o : Option Value) (z : Operand) → option_map Given o ≡ Some z → WasValue o z
was_value None z e = absurd (none_some z e)
was_value (Some v) z e = record { value = v; has = refl; is = sym (some_same (Given v) z e) }

record WasPlace {A : Type 0} (f : A → Operand) (o : Option A) (z : Operand) : Type 0 where
  place : A
  has : o ≡ Some place
  is : z ≡ f place

was_place : {A : Type 0} (f : A → Operand) (o : Option A) (z : Operand) → option_map f o ≡ Some z → WasPlace f o z
was_place f None z e = absurd (none_some z e)
was_place f (Some a) z e = record { place = a; has = refl; is = sym (some_same (f a) z e) }

not_true : (b : Bool) → not b ≡ true → b ≡ false
not_true true h = never h
not_true false h = refl

here_among : (t : ℕ) (ts : List ℕ) → is_among t (t ∷ ts) ≡ true
here_among t ts = ap (λ b. b || is_among t ts) (eq-eqb t t refl)

behind_among : (n t : ℕ) (ts : List ℕ) → is_among n ts ≡ true → is_among n (t ∷ ts) ≡ true
behind_among n t ts h = by (nat_eq t n)
  where
    by : (b : Bool) → (b || is_among n ts) ≡ true
    by true = refl
    by false = h

module _ (x : Basis) (g : Both) (line : BlockLine) (rest : List BlockLine) (y : IsGood x (starts g line rest)) where
  abbrev sites : List Site
  sites = all_sites x g line rest y

  abbrev here : Around
  here = around x.table x.blocks (body_of g)

  abbrev base : ℕ
  base = next_at x g line rest y

  -- what code does that gives these, before other code
  pub record GivesAll (vars : Vars) (m : Memory) (words : Vars) (lines k : List WordInstr) (slots : List Slot) (params : List Housed) (most : ℕ) : Type 0 where
    pub vars_then : Vars
    pub memory_then : Memory
    pub words_then : Vars
    pub same : AllSame vars vars_then
    pub good : IsGood x (starts (between x g line rest y vars_then memory_then words_then) line rest)
    pub stays : Stays x.table sites g.ground g.world base x.blocks m memory_then words words_then params
    pub gave : Gave x.table x.blocks memory_then sites g.ground g.world words_then base slots params
    pub steps : ℕ
    pub few : steps ≤ most
    pub runs : Runs x.live (all_procs x) steps (at (within x.table x.blocks g) m lines vars words)
        (at (within x.table x.blocks g) memory_then k vars_then words_then)

  -- one more, before them
  and_all : (vars : Vars) (m : Memory) (words : Vars) (good : IsGood x (starts (between x g line rest y vars m words) line rest))
      (lines middle k : List WordInstr) (slot : Slot) (slots : List Slot) (h : Housed) (params : List Housed) (most more : ℕ)
      → AllApart (h ∷ params) → AllOwn (h ∷ params)
      → (one : Argued x (between x g line rest y vars m words) line rest good lines middle slot h most)
      → GivesAll one.vars one.memory one.words middle k slots params more
      → GivesAll vars m words lines k (slot ∷ slots) (h ∷ params) (most + more)
  and_all vars m words good lines middle k slot slots h params most more apart own one all = record {
    vars_then = all.vars_then;
    memory_then = all.memory_then;
    words_then = all.words_then;
    same = same_more vars one.vars all.vars_then one.same all.same;
    good = all.good;
    stays = λ s d beyond given. all.stays s d beyond.1
        (slot_stays x.table sites g.ground g.world base x.blocks m one.memory words one.words h d one.gives beyond.0 s given);
    gave = (all.stays slot h (beyond_all h params own.0 own.1 apart.0) one.gave, all.gave);
    steps = one.steps + all.steps;
    few = (let a = one.few in let b = all.few in omega (arith, a, b));
    runs = then_runs x.live (all_procs x) one.runs all.runs;
  }

  module _ {proc : ℕ} {s : Signature} (c : Callee x.table x.blocks proc s) (label : ℕ) (k : List WordInstr) where
    abbrev Fits : List Taken → List From → Type 0
    Fits takes from = are_arguments (known x) (sigs x.table x.blocks) (globals_of x.table x.blocks) (body_of g).proc.places takes from ≡ true

    abbrev AreParams : List Housed → Type 0
    AreParams params = (h : Housed) → Among h params → Among h (params_in c.body.own.all)

    abbrev AreHanded : List From → Type 0
    AreHanded from = (t : ℕ) → is_among t (places_in from) ≡ true → is_among t (places_in (handed_by (block_plain line))) ≡ true

    abbrev AreValues : List From → Type 0
    AreValues from = (t : ℕ) → AmongFrom t from → AmongFrom t (homed_by (block_plain line))

    abbrev Lines : List Housed → List From → List WordInstr
    Lines params from = arguments_code here label params (operands here from) k

    abbrev Finding : List Housed → List From → Type 0
    Finding params from = Finds here (word_of x.table x.blocks (body_of g)).lines label params (operands here from) k

    -- a location that is written, or lent
    lent_or_written : (vars : Vars) (m : Memory) (words : Vars) (good : IsGood x (starts (between x g line rest y vars m words) line rest))
        (h : Housed) (i : Among h (params_in c.body.own.all)) (name : ℕ) (after : List WordInstr) (t : ℕ) (there : Where) (written may : Bool)
        → if_kind is_standing (place_named is_location (body_of g).proc.places t) ≡ may → (not written || may) ≡ true
        → (written ≡ false → h.lent ≡ true) → IsHomed x g.call.site t → g.call.temps.places t ≡ Some there → holds_address h ≡ true
        → type_in x is_location (body_of g) t ≡ Some (type_of x.table h) → is_among t (places_in (handed_by (block_plain line))) ≡ true
        → Argued x (between x g line rest y vars m words) line rest good (argument_code here name h.home (location here t) after) after
        (Stands (location_at g.call.temps there)) h 64
    lent_or_written vars m words good h i name after t there true may is writes lent homed e address typed handed =
        location_argument x (between x g line rest y vars m words) line rest good c h i name after t there homed e address typed (is ∙ writes) handed
    lent_or_written vars m words good h i name after t there false may is writes lent homed e address typed handed =
        let n = has_type x g.call.site (of_location t) (type_of x.table h) y.linked.0 typed in
        let own : h.alias ≡ Own = c.homes h i in
        let blocks_in : of_numbers (looks x.table h) ≡ false = lent_shape x h (c.is.housed h (c.among h i) own) (lent refl) in
        let l = located_here x (between x g line rest y vars m words) line rest good t n.named
        (ap of_numbers (ap (shape_of (facts_in x.table)) n.typed) ∙ blocks_in) there e in
        lent_argument x (between x g line rest y vars m words) line rest good c h i name after t there homed e address typed blocks_in l.0 l.1

    pub all_given : (params : List Housed) (takes : List Taken) (from : List From) (xs : List Operand) → ParamsAre x.table params takes
        → Fits takes from → AllApart params → AllOwn params → AreParams params → AreHanded from → AreValues from → Finding params from →
        Have g.call.temps from xs
        → (vars : Vars) (m : Memory) (words : Vars) → IsGood x (starts (between x g line rest y vars m words) line rest)
        → GivesAll vars m words (Lines params from) k (slots_for xs) params (16 * handed_bytes xs)
    all_given [] [] [] [] are fits apart own among handed valued finds fetched vars m words good = record {
      vars_then = vars;
      memory_then = m;
      words_then = words;
      same = all_same vars;
      good = good;
      stays = λ slot d beyond given. given;
      gave = tt;
      steps = 0;
      few = omega arith;
      runs = no_run (lower x) (at (within x.table x.blocks g) m k vars words);
    }
    all_given [] [] [] (z ∷ xs) are fits apart own among handed valued finds fetched vars m words good = absurd fetched
    all_given [] [] (f ∷ from) xs are fits apart own among handed valued finds fetched vars m words good = never fits
    all_given [] (p ∷ takes) from xs are fits apart own among handed valued finds fetched vars m words good = absurd are
    all_given (h ∷ params) [] from xs are fits apart own among handed valued finds fetched vars m words good = absurd are
    all_given (h ∷ params) (p ∷ takes) [] xs are fits apart own among handed valued finds fetched vars m words good = never fits
    all_given (h ∷ params) (p ∷ takes) (f ∷ from) [] are fits apart own among handed valued finds fetched vars m words good = absurd fetched
    all_given (h ∷ params) (p ∷ takes) (F.Value t ∷ from) (z ∷ xs) are fits apart own among handed valued finds fetched vars m words good =
        let a = and_parts (not p.by_location) _ fits in
        let b = and_parts (is_of (type_in x is_value (body_of g) t) (Some p.of)) _ a.1 in
        let ty = are_of (type_in x is_value (body_of g) t) (Some p.of) b.0 in
        let w = was_value (g.call.temps.values t) z fetched.0 in
        let same : p.of ≡ ty.ty = some_same p.of ty.ty ty.is_other in
        let typed : type_in x is_value (body_of g) t ≡ Some (type_of x.table h) = ty.is ∙ ap Some (sym same ∙ are.0.2) in
        let plain : holds_address h ≡ false = sym are.0.0 ∙ not_true p.by_location a.0 in
        let one = value_argument x (between x g line rest y vars m words) line rest good c h (among h (inl refl))
        (label + 2 * suc (length (operands here from)))
        (Lines params from) t w.value
        (λ hooks. home_of_value x (between x g line rest y vars m words) line rest good t (valued t (inl refl))
        (has_type x g.call.site (of_value t) (type_of x.table h) y.linked.0 typed).named) w.has plain typed
        (finds (length (operands here from)) (omega arith)) in
        let all = all_given params takes from xs are.1 b.1 apart.1 own.1 (λ d i. among d (inr i)) handed (λ u i. valued u (inr i))
        (finds_next here (word_of x.table x.blocks (body_of g)).lines label h params (operand here (F.Value t)) (operands here from) k finds) fetched.1
        one.vars one.memory one.words one.good in
        let both = and_all vars m words good (Lines (h ∷ params) (F.Value t ∷ from)) (Lines params from) k (Holds w.value) (slots_for xs) h params
        (16 * bytes w.value) (16 * handed_bytes xs) apart own one all in
        subst (λ o. GivesAll vars m words (Lines (h ∷ params) (F.Value t ∷ from)) k (slots_for (o ∷ xs)) (h ∷ params) (16 * handed_bytes (o ∷ xs))) (sym w.is)
        (subst (λ n. GivesAll vars m words (Lines (h ∷ params) (F.Value t ∷ from)) k (Holds w.value ∷ slots_for xs) (h ∷ params) n) (omega arith) both)
    all_given (h ∷ params) (p ∷ takes) (F.Place t ∷ from) (z ∷ xs) are fits apart own among handed valued finds fetched vars m words good =
        let may : Bool = if_kind is_standing (place_named is_location (body_of g).proc.places t) in
        let a = and_parts (p.by_location && (not p.written || may)) _ fits in
        let d = and_parts p.by_location (not p.written || may) a.0 in
        let b = and_parts (is_of (type_in x is_location (body_of g) t) (Some p.of)) _ a.1 in
        let ty = are_of (type_in x is_location (body_of g) t) (Some p.of) b.0 in
        let w = was_place (λ place. At (location_at g.call.temps place)) (g.call.temps.places t) z fetched.0 in
        let same : p.of ≡ ty.ty = some_same p.of ty.ty ty.is_other in
        let typed : type_in x is_location (body_of g) t ≡ Some (type_of x.table h) = ty.is ∙ ap Some (sym same ∙ are.0.2) in
        let address : holds_address h ≡ true = sym are.0.0 ∙ d.0 in
        let n = has_type x g.call.site (of_location t) (type_of x.table h) y.linked.0 typed in
        let one = lent_or_written vars m words good h (among h (inl refl)) (label + 2 * suc (length (operands here from))) (Lines params from) t w.place
        p.written
        may refl d.1 (λ quiet. are.0.1 quiet address) (homed x g.call.site y.linked.0 t n.named) w.has address typed
        (handed t (here_among t (places_in from))) in
        let all = all_given params takes from xs are.1 b.1 apart.1 own.1 (λ d i. among d (inr i)) (λ n i. handed n (behind_among n t (places_in from) i)) valued
        (finds_next here (word_of x.table x.blocks (body_of g)).lines label h params (operand here (F.Place t)) (operands here from) k finds) fetched.1
        one.vars one.memory one.words one.good in
        let both = and_all vars m words good (Lines (h ∷ params) (F.Place t ∷ from)) (Lines params from) k (Stands (location_at g.call.temps w.place))
        (slots_for xs) h params 64 (16 * handed_bytes xs) apart own one all in
        subst (λ o. GivesAll vars m words (Lines (h ∷ params) (F.Place t ∷ from)) k (slots_for (o ∷ xs)) (h ∷ params) (16 * handed_bytes (o ∷ xs))) (sym w.is)
        (subst (λ n. GivesAll vars m words (Lines (h ∷ params) (F.Place t ∷ from)) k (Stands (location_at g.call.temps w.place) ∷ slots_for xs) (h ∷ params) n)
        (omega arith) both)
