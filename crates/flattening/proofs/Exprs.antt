-- Flat code follows every expression.
use Rattle.std.proofs.Common.{◌≡◌, ℕ, suc, ◌+◌, ◌<◌, Bool, true, false, List, [], ◌∷◌, length, Option, Some, None, refl, ap, ◌∙◌}
use Rattle.std.proofs.Common.{arith}
use Rattle.arc_base.specs.BigStep.{then_do}
use Rattle.nim_types.specs.Types.{Ty, Facts}
use Rattle.nim_program.specs.declared.expr.Node.{Node}
use Rattle.nim_program.specs.declared.operation.Short.{Short}
use Rattle.nim_program.specs.declared.operation.Use.{Use}
use Rattle.nim_program.specs.declared.operation.Use.TheVariants.{Owned, Looked}
use Rattle.nim_program.specs.declared.program.Mode.{Mode}
use Rattle.nim_program.specs.Program.{Label, Act, ByConditions, ByLabels, Expr, Apply, Read, Early, Choose}
use Rattle.nim_program.specs.Program.{Path, Variable, Fresh, Field, Element, Deref, Args, NoArg, ByValue, ByPath, type_of, type_at}
use Rattle.nim_meaning.specs.Values.{Value, Fixed, Location}
use Rattle.nim_meaning.specs.State.{State, text_of, is_whole}
use Rattle.nim_meaning.specs.ActTree.{Chooses}
use Rattle.nim_meaning.specs.Ways.{At as Point}
use Rattle.nim_meaning.specs.Shapes.{selector_type, is_covered}
use Rattle.nim_meaning.specs.Acts.{Does, onward, branch, costs, looks, wrong, worked, with_trail}
use Rattle.nim_meaning.specs.Here.{Here, gives_hooked}
use Rattle.nim_meaning.specs.Deeds.{carry}
use Rattle.nim_meaning.specs.Aims.{find}
use Rattle.nim_meaning.specs.Places.{fetched}
use Rattle.nim_meaning.specs.Meaning.{handed_on, selected, selecting, picked_value, at_node, at_path}
use Rattle.flat_code.specs.declared.line.Line.{Line}
use Rattle.flat_code.specs.declared.line.Line.TheVariants as L
use Rattle.flat_code.specs.Scene.{Temps, with_value, location_at}
use Rattle.flat_code.specs.Lines.{using}
use Rattle.flat_code.specs.Lines as does
use Rattle.flattening.specs.declared.numbers.Purpose.TheVariants.{End, Next}
use Rattle.flattening.specs.Numbering.{arm_count, looked_from, behind_selector, width, width_at, widths, label}
use Rattle.flattening.specs.ExprLines.{use_at, early_lines, lines, find_lines, value_tests, arm_lines, select_lines}
use Rattle.flattening.specs.Flattened.{modes_of}
use Rattle.flattening.specs.Formed.{Scope, IfListed, AllOf, Formed, PathFormed, AllFormed}
use Rattle.flattening.proofs.Runs.{Runs, pays, spares, unless_wrong}
use Rattle.flattening.proofs.Worlds.{since_none, since_then}
use Rattle.flattening.proofs.Openings.{answering_all}
use Rattle.flattening.proofs.Temps.{kept_none, kept_then, kept_wide, kept_value, put_same}
use Rattle.flattening.proofs.Spots.{Spot, here_of, there, scene, Lands, after, after_both, answers, further, performs_alone, at_point}
use Rattle.flattening.proofs.Standing.{grounded, Stands, stands_since}
use Rattle.flattening.proofs.Groups.{Has, ExprFollows, alone_follows, branch_follows, waits_listed}
use Rattle.flattening.proofs.Paths.{leads_now, find_follows}
use Rattle.flattening.proofs.Acting.{CallsFollow}
use Rattle.flattening.proofs.Lending.{AimFollows, SourceFollows, ArgsFollow, value_follows, path_follows}
use Rattle.flattening.proofs.Evaluating.{variable_follows, fresh_follows, field_follows, element_follows, deref_follows, source_follows, not_read}
use Rattle.flattening.proofs.Evaluating.{apply_follows, read_follows}
use Rattle.flattening.proofs.Choices.{ChoiceFollows, TestsFollow, early_follows, none_follows, no_choice, last_choice, a_choice}
use Rattle.flattening.proofs.Arms.{none_fits, none_by_path, otherwise, an_arm}
use Rattle.flattening.proofs.Widths.{same_width, some_width_at, selector_width}

module _ (c : Spot) (top : Bool) (room : ℕ → Type 0) (names : (proc place : ℕ) → Type 0) (Open : Scope) (calls : CallsFollow c names) where
  abbrev facts : Facts
  facts = c.fixed.program.facts

  abbrev types : List Ty
  types = c.fixed.program.types

  abbrev modes : (proc position : ℕ) → Mode
  modes = modes_of c.fixed.program c.fixed.plan

  abbrev here : Here
  here = here_of c

  abbrev Follows : Expr → Type 0
  Follows = ExprFollows c top room names Open

  -- ---- `and` and `or`, and choices

  early_is : (node : Node) (ty : Ty) (short : Short) (left right : Expr) → Follows left → Follows right → Follows (Early node ty short left right)
  early_is node ty short left right lefts rights how t k temps s h =
      let u = suc t + width left in
      let more = lines types facts modes right Owned u (L.Pass t u (use_at how node.number) None ∷ L.Label (label End t) ∷ k) in
      pays 12 1 (omega arith)
      (after 14 (omega arith) (omega arith) (lefts Owned (suc t) (early_lines types facts modes short t (suc t) more) temps (worked 1 s) h)
      (λ x b now comes kept since.
      further {lo' = t} {hi' = t + width (Early node ty short left right)} (omega arith) (omega arith) (kept_wide (omega arith) (omega arith) kept) since
      (λ v n p kept. p)
      (early_follows c top room names Open node ty short left right how t k rights x now (with_trail (Point node.number Chooses ∷ b.trail) b) comes
      (stands_since h since))))

  -- with the selector's value in temporary u
  abbrev pub SelectFollows : (labels : List (List Label)) (parts : Args) (ty : Option Ty) → Type 0
  SelectFollows labels parts ty = (node : ℕ) (how : Use) (t u : ℕ) → t < u → (k : List Line) (temps : Temps) (s : State) → Stands c room Open s.world →
      Runs c.fixed (Lands c k t (behind_selector parts u) temps s.world (Has t)) 12 2
      (there c (select_lines types facts modes labels parts ty (use_at how node) t u (L.Label (label End t) ∷ k)) temps s.world) s.meter
      (then_do (selected node labels parts ty here s) (onward (handed_on here how node ty)))

  by_conditions : (node : Node) (ty : Option Ty) (parts : Args) →
      ((how : Use) (t : ℕ) → ChoiceFollows c top room names Open parts ty how node.number t) →
      Follows (Choose node ty ByConditions parts)
  by_conditions node ty parts follows how t k temps s h =
      pays 12 1 (omega arith)
      (further {lo' = t} {hi' = suc t + widths parts} (omega arith) (omega arith) (kept_none t (t + width (Choose node ty ByConditions parts)) temps)
      (since_none c.level s.world) (λ v now has kept. has)
      (follows how t (suc t) (omega arith) k temps (with_trail (Point node.number Chooses ∷ s.trail) (worked 1 s)) h))

  by_labels : (node : Node) (ty : Option Ty) (labels : List (List Label)) (parts : Args) → SelectFollows labels parts ty →
      Follows (Choose node ty (ByLabels labels) parts)
  by_labels node ty labels parts follows how t k temps s h =
      pays 12 1 (omega arith)
      (let w = selector_width labels parts t in
      let sel = suc t + arm_count (ByLabels labels) in
      further {lo' = t} {hi' = behind_selector parts sel} (omega arith) (omega (arith, w))
      (kept_none t (t + width (Choose node ty (ByLabels labels) parts)) temps)
      (since_none c.level s.world) (λ v now has kept. has)
      (follows node.number how t sel (omega arith) k temps (worked 1 s) h))

  -- ---- the selector of a `case`

  -- its text, or its number, is what labels are compared with
  selected_by : (texts covered : Bool) (labels : List (List Label)) (rest : Args) (ty : Option Ty) (how : Use) (node t u u2 : ℕ) →
      ((covered : Bool) (how : Use) (site t : ℕ) → TestsFollow c top room names Open texts covered labels rest ty how site t) → t < u2 →
      (k : List Line) (temps : Temps) (s : State) (v : Value) → temps.values u ≡ Some v → Stands c room Open s.world →
      Runs c.fixed (Lands c k t (u2 + widths rest) temps s.world (Has t)) 12 2
      (there c (value_tests labels rest u u2 (L.Jump (label Next t)
      ∷ arm_lines types facts modes covered labels rest ty (use_at how node) t u2 (L.Label (label End t) ∷ k))) temps s.world) s.meter
      (then_do (branch {A = Does Value} texts
      (looks (λ world. branch (is_whole world v)
      (costs (length (text_of world v)) (at_node node Chooses (picked_value covered labels rest (Fixed (text_of world v)) ty here))) wrong))
      (at_node node Chooses (picked_value covered labels rest v ty here)) s) (onward (handed_on here how node ty)))
  selected_by true covered labels rest ty how node t u u2 tests less k temps s v has h =
      let n = length (text_of s.world v) in
      let arms = arm_lines types facts modes covered labels rest ty (use_at how node) t u2 (L.Label (label End t) ∷ k) in
      let chooses : Does Value = costs n (at_node node Chooses (picked_value covered labels rest (Fixed (text_of s.world v)) ty here)) in
      unless_wrong (is_whole s.world v) (λ b. then_do (branch {A = Does Value} b chooses wrong s) (onward (handed_on here how node ty))) s refl
      (λ whole.
      pays 12 n (omega arith)
      (tests covered how node t v (Fixed (text_of s.world v)) u u2 less k arms temps (with_trail (Point node Chooses ∷ s.trail) (worked n s)) has
      (whole, refl) h (λ name which. refl)))
  selected_by false covered labels rest ty how node t u u2 tests less k temps s v has h =
      let arms = arm_lines types facts modes covered labels rest ty (use_at how node) t u2 (L.Label (label End t) ∷ k) in
      tests covered how node t v v u u2 less k arms temps (with_trail (Point node Chooses ∷ s.trail) s) has refl h (λ name which. refl)

  selects_none : (labels : List (List Label)) (ty : Option Ty) → IfListed types ty → SelectFollows labels NoArg ty
  selects_none labels ty listed node how t u less k temps s h =
      spares 8 2 (omega arith) (omega arith) (none_follows c top room names Open ty listed how node t (u + 0) (omega (arith, less)) k temps s)

  selects_value : (labels : List (List Label)) (selector : Expr) (rest : Args) (ty : Option Ty) → Follows selector →
      ((covered : Bool) (how : Use) (site t : ℕ) →
      TestsFollow c top room names Open (gives_hooked facts (type_of selector)) covered labels rest ty how site t) →
      SelectFollows labels (ByValue selector rest) ty
  selects_value labels selector rest ty follows tests node how t u less k temps s h =
      let covered = is_covered (type_of selector) in
      let u2 = u + width selector in
      let K = L.Label (label End t) ∷ k in
      let arms = arm_lines types facts modes covered labels rest ty (use_at how node) t u2 K in
      let chooses : Value → Does Value = λ x. at_node node Chooses (picked_value covered labels rest x ty here) in
      after_both (λ x. selecting here (type_of selector) x chooses) (onward (handed_on here how node ty)) 12 (omega arith) (omega arith)
      (follows Looked u (value_tests labels rest u u2 (L.Jump (label Next t) ∷ arms)) temps s h)
      (λ x b now comes kept since.
      further {lo' = t} {hi' = u2 + widths rest} (omega arith) (omega arith) (kept_wide (omega (arith, less)) (omega arith) kept) since (λ v n p kept. p)
      (selected_by (gives_hooked facts (type_of selector)) covered labels rest ty how node t u u2 tests (omega (arith, less)) k now b x comes
      (stands_since h since)))

  selects_path : (labels : List (List Label)) (path : Path) (rest : Args) (ty : Option Ty) → PathFormed (grounded c top room names) Open path →
      AimFollows c top room names Open path →
      ((covered : Bool) (how : Use) (site t : ℕ) →
      TestsFollow c top room names Open (gives_hooked facts (type_at path)) covered labels rest ty how site t) →
      SelectFollows labels (ByPath path rest) ty
  selects_path labels path rest ty f follows tests node how t u less k temps s h =
      let covered = is_covered (type_at path) in
      let w = same_width path in
      let some = some_width_at path in
      let n = looked_from path u in
      let u2 = n + width_at path in
      let K = L.Label (label End t) ∷ k in
      let arms = arm_lines types facts modes covered labels rest ty (use_at how node) t u2 K in
      let behind = value_tests labels rest u u2 (L.Jump (label Next t) ∷ arms) in
      let chooses : Value → Does Value = λ x. at_node node Chooses (picked_value covered labels rest x ty here) in
      let selects : Value → Does Value = λ x. selecting here (type_at path) x chooses in
      let reads : Location → Does Value = λ l s. then_do (at_path path (carry (fetched l)) s) (onward selects) in
      after_both (λ aim s. then_do (find aim s) (onward reads)) (onward (handed_on here how node ty)) 12 (omega arith) (omega arith)
      (follows n (find_lines types facts path n (L.Look u n ∷ behind)) temps s h)
      (λ aim b now aims kept since.
      after_both reads (onward (handed_on here how node ty)) 12 (omega arith) (omega arith)
      (find_follows c top room names Open path f n (L.Look u n ∷ behind) now aim aims b (stands_since h since))
      (λ l d last looked kept2 since2.
      after_both selects (onward (handed_on here how node ty)) 12 (omega arith) (omega arith)
      (at_point {p = 0} {q = 0} (carry (fetched l)) path d (λ trail.
      performs_alone c {lo = u} {hi = suc u} {P = Has u} (λ v. with_value u last v) (fetched l) (with_trail trail d) (omega arith)
      (answering_all (λ v. Has u v (with_value u last v)) (λ v. put_same last.values u v) (fetched l))
      (λ v. kept_value u v (omega arith) (omega arith) (kept_none u (suc u) last))
      (ap (λ o. using o (λ place. does.gives (scene c last d.world) u (fetched (location_at last place)))) looked.leads.is
      ∙ ap (λ l. does.gives (scene c last d.world) u (fetched l)) (leads_now looked.leads))))
      (λ x g m has kept3 since3.
      further {lo' = t} {hi' = u2 + widths rest} (omega arith) (omega (arith, w))
      (kept_then (kept_wide (omega (arith, less)) (omega (arith, w)) kept) (kept_then (kept_wide (omega (arith, less)) (omega (arith, w)) kept2)
      (kept_wide (omega (arith, less)) (omega (arith, w, some)) kept3))) (since_then since (since_then since2 since3)) (λ v n p kept. p)
      (selected_by (gives_hooked facts (type_at path)) covered labels rest ty how node t u u2 tests (omega (arith, less)) k m g x has
      (stands_since h (since_then since (since_then since2 since3)))))))

  -- ---- the induction

  mutual
    pub expr_follows : (e : Expr) → Formed (grounded c top room names) Open e → Follows e
    expr_follows (Apply node ty act operands) f = apply_follows c top room names Open calls node ty act operands f (args_follow act operands f.1)
    expr_follows (Read path) f = read_follows c top room names Open path f (aim_follows path f.1)
    expr_follows (Early node ty short left right) f = early_is node ty short left right (expr_follows left f.0) (expr_follows right f.1)
    expr_follows (Choose node ty ByConditions parts) f = by_conditions node ty parts (choice_follows parts f.2 ty f.0 node.number)
    expr_follows (Choose node ty (ByLabels labels) parts) f = by_labels node ty labels parts (select_follows parts labels f.1 f.2 ty f.0)

    pub aim_follows : (path : Path) → PathFormed (grounded c top room names) Open path → AimFollows c top room names Open path
    aim_follows (Variable node ty place global) f = variable_follows c top room names Open node ty place global
    aim_follows (Fresh value) f = fresh_follows c top room names Open value (expr_follows value f)
    aim_follows (Field node ty base field) f = field_follows c top room names Open node ty base field (aim_follows base f)
    aim_follows (Element node ty base index constant) f =
        element_follows c top room names Open node ty base index constant (aim_follows base f.0) (expr_follows index f.1)
    aim_follows (Deref ty base) f = deref_follows c top room names Open ty base (aim_follows base f)

    pub sources_follow : (e : Expr) → Formed (grounded c top room names) Open e → SourceFollows c top room names Open e
    sources_follow (Read path) f = source_follows c top room names Open path f.1 (aim_follows path f.1)
    sources_follow (Apply node ty act operands) f = not_read c top room names Open (Apply node ty act operands) refl
    sources_follow (Early node ty short left right) f = not_read c top room names Open (Early node ty short left right) refl
    sources_follow (Choose node ty chooser parts) f = not_read c top room names Open (Choose node ty chooser parts) refl

    pub args_follow : (act : Act) (args : Args) → AllFormed (grounded c top room names) Open args → ArgsFollow c top room names Open act args
    args_follow act NoArg f = λ uses i t k temps s h. answers [] s temps (omega arith) refl (kept_none t (t + 0) temps) (since_none c.level s.world)
    args_follow act (ByValue value rest) f =
        value_follows c top room names Open act value rest (expr_follows value f.0) (sources_follow value f.0) (args_follow act rest f.1)
    args_follow act (ByPath path rest) f = path_follows c top room names Open act path rest (aim_follows path f.0) (args_follow act rest f.1)

    choice_follows : (parts : Args) → AllFormed (grounded c top room names) Open parts → (ty : Option Ty) → IfListed types ty → (site : ℕ) (how : Use) (t : ℕ) →
        ChoiceFollows c top room names Open parts ty how site t
    choice_follows NoArg f ty listed site how t = no_choice c top room names Open ty listed how site t
    choice_follows (ByPath path rest) f ty listed site how t = λ u less k temps s h.
        spares 8 2 (omega arith) (omega arith)
        (none_follows c top room names Open ty listed how site t (u + widths (ByPath path rest)) (omega (arith, less)) k temps s)
    choice_follows (ByValue last NoArg) f ty listed site how t =
        last_choice c top room names Open last
        (branch_follows c top room names Open last (waits_listed c top room names Open last Owned f.0) (expr_follows last f.0)) ty listed how site t
    choice_follows (ByValue condition (ByPath path rest)) f ty listed site how t = λ u less k temps s h.
        spares 8 2 (omega arith) (omega arith)
        (none_follows c top room names Open ty listed how site t (u + widths (ByValue condition (ByPath path rest))) (omega (arith, less)) k temps s)
    choice_follows (ByValue condition (ByValue value rest)) f ty listed site how t =
        a_choice c top room names Open condition value rest
        (alone_follows c top room names Open condition Owned (waits_listed c top room names Open condition Owned f.0) (expr_follows condition f.0))
        (branch_follows c top room names Open value (waits_listed c top room names Open value Owned f.1.0) (expr_follows value f.1.0)) ty listed how site t
        (choice_follows rest f.1.1 ty listed site how t)

    select_follows : (parts : Args) (labels : List (List Label)) → AllOf (gives_hooked facts (selector_type parts)) labels →
        AllFormed (grounded c top room names) Open parts → (ty : Option Ty) → IfListed types ty → SelectFollows labels parts ty
    select_follows NoArg labels fit f ty listed = selects_none labels ty listed
    select_follows (ByValue selector rest) labels fit f ty listed =
        selects_value labels selector rest ty (expr_follows selector f.0)
        (λ covered how site t. tests_follow rest labels (gives_hooked facts (type_of selector)) fit f.1 covered ty listed how site t)
    select_follows (ByPath path rest) labels fit f ty listed =
        selects_path labels path rest ty f.0 (aim_follows path f.0)
        (λ covered how site t. tests_follow rest labels (gives_hooked facts (type_at path)) fit f.1 covered ty listed how site t)

    tests_follow : (values : Args) (labels : List (List Label)) (texts : Bool) → AllOf texts labels → AllFormed (grounded c top room names) Open values →
        (covered : Bool) (ty : Option Ty) → IfListed types ty → (how : Use) (site t : ℕ) →
        TestsFollow c top room names Open texts covered labels values ty how site t
    tests_follow NoArg labels texts fit f covered ty listed how site t = none_fits c top room names Open texts covered ty listed how site t labels
    tests_follow (ByPath path rest) labels texts fit f covered ty listed how site t =
        none_by_path c top room names Open texts covered ty listed how site t labels path rest
    tests_follow (ByValue value rest) [] texts fit f covered ty listed how site t =
        otherwise c top room names Open texts covered ty listed how site t value rest
        (branch_follows c top room names Open value (waits_listed c top room names Open value Owned f.0) (expr_follows value f.0))
    tests_follow (ByValue value rest) (these ∷ labels) texts fit f covered ty listed how site t =
        an_arm c top room names Open texts covered ty listed how site t these fit.0 labels value rest
        (branch_follows c top room names Open value (waits_listed c top room names Open value Owned f.0) (expr_follows value f.0))
        (tests_follow rest labels texts fit.1 f.1 covered ty listed how site t)
