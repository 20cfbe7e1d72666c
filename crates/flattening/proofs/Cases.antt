-- Flat code follows the statement `case`: the tests of all labels, and then one block.
use Rattle.std.proofs.Common.{◌≡◌, ℕ, suc, ◌+◌, ◌*◌, ◌<◌, ◌≤◌, ◌⊎◌, inl, inr, Bool, true, false, ◌&&◌, List, [], ◌∷◌, length, Some, refl, sym, ap, ◌∙◌, subst}
use Rattle.std.proofs.Common.{arith}
use Rattle.std.specs.Prelude.{if◌then◌else◌}
use Rattle.std.proofs.lemmas.Bool.{false≢true}
use Rattle.arc_base.specs.BigStep.{Got}
use Rattle.nim_types.specs.Types.{Ty, Facts}
use Rattle.nim_program.specs.declared.expr.Node.{Node}
use Rattle.nim_program.specs.declared.operation.Use.TheVariants.{Looked}
use Rattle.nim_program.specs.declared.program.Mode.{Mode}
use Rattle.nim_program.specs.Program.{Label, ByLabels, Args, NoArg, ByValue, ByPath, Select, Stmts, Blocks, Otherwise, Block}
use Rattle.nim_meaning.specs.Values.{Value, Fixed}
use Rattle.nim_meaning.specs.State.{State, text_of, is_whole}
use Rattle.nim_meaning.specs.ActTree.{Chooses, Begins}
use Rattle.nim_meaning.specs.Ways.{At as Point}
use Rattle.nim_meaning.specs.Acts.{On, Does, branch, looks, costs, wrong, ◌>>=◌, worked, with_trail}
use Rattle.nim_meaning.specs.Deeds.{carry}
use Rattle.nim_meaning.specs.Here.{Here, gives_hooked}
use Rattle.nim_meaning.specs.Waiting.{waiting_first}
use Rattle.nim_meaning.specs.Places.{fetched}
use Rattle.nim_meaning.specs.Shapes.{is_covered, selector_type, is_last_block}
use Rattle.nim_meaning.specs.Meaning.{at_node, picked, selecting, selector_of, exec_all, picked_block}
use Rattle.flat_code.specs.declared.line.Line.{Line}
use Rattle.flat_code.specs.declared.line.Line.TheVariants as L
use Rattle.flat_code.specs.Scene.{Temps, with_value, location_at}
use Rattle.flat_code.specs.Lines.{using}
use Rattle.flat_code.specs.Lines as does
use Rattle.flattening.specs.declared.numbers.Purpose.TheVariants.{End, Next, Arm}
use Rattle.flattening.specs.Numbering.{width, widths, arm_count, width_in, width_of, label, looked_from, behind_selector}
use Rattle.flattening.specs.ExprLines.{arm_label, label_tests, find_lines}
use Rattle.flattening.specs.StmtLines.{Exits, ending as exits_ending, selector_ends, selector_lines, block_tests, lines_of, arm_blocks}
use Rattle.flattening.specs.Flattened.{modes_of}
use Rattle.flattening.specs.Formed.{Scope, AreOf, AllOf, AllFormed, HasSelector, BlockFormed, BlocksFormed}
use Rattle.flattening.proofs.Runs.{Runs, pays, spares, unless_wrong}
use Rattle.flattening.proofs.Openings.{answering_all}
use Rattle.flattening.proofs.Worlds.{Since, since_none, since_then}
use Rattle.flattening.proofs.Temps.{Kept, kept_none, kept_then, kept_wide, kept_value, put_same}
use Rattle.flattening.proofs.Puts.{Puts, found, found_here, puts_line, puts_label, puts_wide, ◌>>◌}
use Rattle.flattening.proofs.PutsParts.{puts_arm}
use Rattle.flattening.proofs.PutsStmts.{puts_stmts, puts_block_tests, puts_arm_blocks, puts_selector}
use Rattle.flattening.proofs.Spots.{Spot, here_of, there, scene, Lands, after, further, goes, leaps, performs_alone, at_point}
use Rattle.flattening.proofs.Standing.{grounded, Stands, stands_since}
use Rattle.flattening.proofs.Acting.{CallsFollow}
use Rattle.flattening.proofs.Paths.{leads_now, find_follows}
use Rattle.flattening.proofs.Picks.{IsSelected, picks_follow, at_meter}
use Rattle.flattening.proofs.Arms.{found_past}
use Rattle.flattening.proofs.Exprs.{expr_follows, aim_follows}
use Rattle.flattening.proofs.Groups.{waits_listed_first}
use Rattle.flattening.proofs.Scopes.{reaches_ended}
use Rattle.flattening.proofs.Leaving.{around_end, puts_ends, group_leaves, Around, Reaches, reaches, reaches_later, Leads, leads_on, Left, further_left, rejoin}
use Rattle.flattening.proofs.Leaving.{stays}
use Rattle.flattening.proofs.Stmts.{IsListedResult, StmtFollows, BlockFollows}
use Rattle.flattening.proofs.Widths.{same_width, some_width_at, width_of_blocks, turn_width, selector_width}

-- behind the last block there are no more tests
last_block_tests : (covered : Bool) (labels : List (List Label)) (rest : Blocks) (s arm : ℕ) (k : List Line) → (covered && is_last_block rest) ≡ true →
    block_tests labels rest s arm k ≡ k
last_block_tests covered labels (Otherwise block) s arm k e = refl
last_block_tests true labels (Block first rest) s arm k e = absurd (false≢true e)
last_block_tests false labels (Block first rest) s arm k e = absurd (false≢true e)

-- the label of an arm from one to below another, and that of what no label fits
abbrev IsArm : (t arm behind name : ℕ) → Type 0
IsArm t arm behind name = (name ≡ label Next t) ⊎ ((4 * arm ≤ name) × (name < 4 * behind))

module _ (c : Spot) (top : Bool) (room : ℕ → Type 0) (names : (proc place : ℕ) → Type 0) (calls : CallsFollow c names)
    (outermost : top ≡ true → c.level ≡ 0) (gives_listed : IsListedResult c.fixed.program.types c.result) where
  abbrev facts : Facts
  facts = c.fixed.program.facts

  abbrev types : List Ty
  types = c.fixed.program.types

  abbrev modes : (proc position : ℕ) → Mode
  modes = modes_of c.fixed.program c.fixed.plan

  abbrev here : Here
  here = here_of c

  abbrev Follows : Stmts → Type 1
  Follows block = BlockFollows c top room names calls outermost gives_listed block

  -- the first block with a label that fits, up to where the whole ends
  abbrev pub TestsFollow : (texts covered : Bool) (labels : List (List Label)) (blocks : Blocks) → Type 1
  TestsFollow texts covered labels blocks = (inside : Bool) (Open : Scope) → BlocksFormed (grounded c top room names) inside Open blocks → (exits : Exits)
      (around : Around c exits inside) (v x : Value) (sel t arm n : ℕ) → t < arm → arm + arm_count (ByLabels labels) ≤ n → (k arms : List Line) →
      Reaches around t (L.Label (label End t) ∷ k) →
      Leads c n (arm_blocks types facts modes c.result covered labels blocks exits t arm n (L.Label (label End t) ∷ k)) →
      ((name : ℕ) → IsArm t arm (arm + arm_count (ByLabels labels)) name →
      found name arms ≡ found name (arm_blocks types facts modes c.result covered labels blocks exits t arm n (L.Label (label End t) ∷ k))) →
      (temps : Temps) (s : State) → temps.values sel ≡ Some v → IsSelected texts s.world v x → Stands c room Open s.world →
      Runs c.fixed (Left c around (L.Label (label End t) ∷ k) n (n + width_of_blocks blocks) temps s.world) 12 1
      (there c (block_tests labels blocks sel arm (L.Jump (label Next t) ∷ arms)) temps s.world) s.meter (picked_block covered labels blocks x here s)

  -- where no label fits
  other_follows : (block : Stmts) → Follows block → (inside : Bool) (Open : Scope) → BlockFormed (grounded c top room names) inside Open block →
      (exits : Exits)
      (around : Around c exits inside) (t n hi : ℕ) → t < n → n + width_of block ≤ hi → (k arms : List Line) → Reaches around t (L.Label (label End t) ∷ k) →
      Leads c n (L.Label (label Next t) ∷ lines_of types facts modes c.result block exits n (L.Label (label End t) ∷ k)) →
      found (label Next t) arms ≡ Some (L.Label (label Next t) ∷ lines_of types facts modes c.result block exits n (L.Label (label End t) ∷ k)) →
      (temps : Temps)
      (s : State) →
      Stands c room Open s.world →
      Runs c.fixed (Left c around (L.Label (label End t) ∷ k) n hi temps s.world) 12 1 (there c (L.Jump (label Next t) ∷ arms) temps s.world) s.meter
      (exec_all block here s)
  other_follows block follows inside Open f exits around t n hi less high k arms r l at temps s h =
      leaps c 11 (label Next t) 1 (omega arith) refl at
      (goes c 10 1 (omega arith) refl
      (spares 0 0 (omega arith) (omega arith)
      (further_left c around {lo' = n} {hi' = n + width_of block} (omega arith) (omega (arith, high)) (kept_none n hi temps) (since_none c.level s.world)
      (follows inside Open f exits around n (L.Label (label End t) ∷ k) (reaches_later (omega (arith, less)) r)
      (leads_on {lo = 0} {hi = 4 * n} (omega arith) (omega arith) (puts_label (label Next t) (omega arith) (omega (arith, less))) l) temps s h))))

  pub otherwise : (texts covered : Bool) (labels : List (List Label)) (block : Stmts) → Follows block → TestsFollow texts covered labels (Otherwise block)
  otherwise texts covered labels block follows inside Open f exits around v x sel t arm n less le k arms r l skips temps s has same h =
      other_follows block follows inside Open f exits around t n (n + width_of block) (omega (arith, less, le)) (omega arith) k arms r l
      (skips (label Next t) (inl refl) ∙ found_here (label Next t) _) temps s h

  pub last_alone : (texts covered : Bool) (first : Stmts) (rest : Blocks) → Follows first → TestsFollow texts covered [] (Block first rest)
  last_alone texts covered first rest follows inside Open f exits around v x sel t arm n less le k arms r l skips temps s has same h =
      other_follows first follows inside Open f.0 exits around t n (n + width_of_blocks (Block first rest)) (omega (arith, less, le)) (omega arith) k arms r l
      (skips (label Next t) (inl refl) ∙ found_here (label Next t) _) temps s h

  -- ---- a block with labels

  module _ (texts covered : Bool) (these : List Label) (fits : AreOf texts these) (labels : List (List Label)) (first : Stmts) (rest : Blocks)
      (follows : Follows first)
      (more : TestsFollow texts covered labels rest) (inside : Bool) (Open : Scope)
      (f : BlocksFormed (grounded c top room names) inside Open (Block first rest))
      (exits : Exits) (around : Around c exits inside) (v x : Value) (sel t arm n : ℕ) (less : t < arm) (le : arm + arm_count (ByLabels (these ∷ labels)) ≤ n)
      (k arms : List Line) (r : Reaches around t (L.Label (label End t) ∷ k)) where
    abbrev n2 : ℕ
    n2 = n + width_of first

    abbrev hi : ℕ
    hi = n + width_of_blocks (Block first rest)

    abbrev ending : List Line
    ending = L.Label (label End t) ∷ k

    abbrev others : List Line
    others = arm_blocks types facts modes c.result covered labels rest exits t (suc arm) n2 ending

    -- what stands behind the block, where it is the last one, and where it isn't
    abbrev behind : Bool → List Line
    behind last = if last then ending else L.Jump (label End t) ∷ others

    abbrev one_arm : Bool → List Line
    one_arm last = L.Label (label Arm arm) ∷ lines_of types facts modes c.result first exits n (behind last)

    abbrev whole_arm : Bool → List Line
    whole_arm last = arm_label last (label Next t) (label Arm arm) (lines_of types facts modes c.result first exits n (behind last))

    abbrev tests : List Line
    tests = block_tests labels rest sel (suc arm) (L.Jump (label Next t) ∷ arms)

    abbrev behind_all : ℕ
    behind_all = arm + arm_count (ByLabels (these ∷ labels))

    puts_others : Puts (4 * t + 2) (4 * (n2 + width_of_blocks rest)) (λ k. arm_blocks types facts modes c.result covered labels rest exits t (suc arm) n2 k)
    puts_others = puts_arm_blocks types facts modes c.result covered labels rest exits t (suc arm) n2 (omega (arith, less)) (omega (arith, le)) around.puts

    reaches_behind : (last : Bool) → Reaches around n (behind last)
    reaches_behind true = reaches_later (omega (arith, less, le)) r
    reaches_behind false = reaches (omega (arith, less, le)) (omega arith) (puts_line (L.Jump (label End t)) refl >> puts_others) r

    arm_found : (last : Bool) → found (label Arm arm) (whole_arm last) ≡ Some (one_arm last)
    arm_found true = found_past (label Arm arm) (label Next t) (one_arm true) (λ e. absurd (omega (arith, e, less))) ∙ found_here (label Arm arm) _
    arm_found false = found_here (label Arm arm) _

    block_leads : (last : Bool) → Leads c n (whole_arm last) → Leads c n (lines_of types facts modes c.result first exits n (behind last))
    block_leads last l =
        leads_on {lo = 0} {hi = 4 * n} (omega arith) (omega arith)
        (puts_arm last (label Next t) (label Arm arm) (omega arith) (omega (arith, less, le)) (omega arith) (omega (arith, le))) l

    others_lead : Leads c n (whole_arm false) → Leads c n2 others
    others_lead l =
        leads_on {lo = 0} {hi = 4 * n2} (omega arith) (omega arith)
        (puts_wide {lo = 0} {hi = 4 * n2} (omega arith) (omega arith) (puts_stmts types facts modes c.result first exits n around.puts) >> puts_line
        (L.Jump (label End t)) refl)
        (block_leads false l)

    arm_follows : (last : Bool) → Leads c n (whole_arm last) → (temps : Temps) (s : State) → Stands c room Open s.world →
        Runs c.fixed (Left c around ending n hi temps s.world) 5 1 (there c (one_arm last) temps s.world) s.meter (exec_all first here s)
    arm_follows last l temps s h =
        goes c 4 1 (omega arith) refl
        (rejoin c around {lo' = n} {hi' = n2} 4 (omega arith) (omega arith) (omega arith) (omega arith) (omega arith) (kept_none n hi temps)
        (since_none c.level s.world)
        (follows inside Open f.0 exits around n (behind last) (reaches_behind last) (block_leads last l) temps s h)
        (λ b now kept since. on last b now kept since))
      where
        on : (last : Bool) (b : State) (now : Temps) → Kept n hi temps now → Since c.level s.world b.world →
            Runs c.fixed (Left c around ending n hi temps s.world) 4 1 (there c (behind last) now b.world) b.meter (Got (On tt) b)
        on true b now kept since = stays c around b now (omega arith) kept since
        on false b now kept since =
            leaps c 3 (label End t) 1 (omega arith) refl (puts_others.skips (label End t) ending (λ le. absurd (omega (arith, le))) ∙ found_here
            (label End t) k)
            (stays c around b now (omega arith) kept since)

    abbrev Skips : Bool → Type 0
    Skips last = (name : ℕ) → IsArm t arm behind_all name → found name arms ≡ found name (whole_arm last)

    skips_on : Skips false → (name : ℕ) → IsArm t (suc arm) (suc arm + arm_count (ByLabels labels)) name → found name arms ≡ found name others
    skips_on skips name which = skips name (wider which) ∙ past which
      where
        wider : IsArm t (suc arm) (suc arm + arm_count (ByLabels labels)) name → IsArm t arm behind_all name
        wider (inl e) = inl e
        wider (inr both) = inr (omega (arith, both.0), omega (arith, both.1))

        past : IsArm t (suc arm) (suc arm + arm_count (ByLabels labels)) name → found name (whole_arm false) ≡ found name others
        past (inl e) =
            found_past name (label Arm arm) _ (λ h. absurd (omega (arith, h, e, less)))
            ∙ (puts_stmts types facts modes c.result first exits n around.puts).skips name (L.Jump (label End t) ∷ others)
            (λ from. absurd (omega (arith, from, e, less, le)))
        past (inr both) =
            found_past name (label Arm arm) _ (λ h. absurd (omega (arith, h, both.0)))
            ∙ (puts_stmts types facts modes c.result first exits n around.puts).skips name (L.Jump (label End t) ∷ others)
            (λ from. absurd (omega (arith, from, both.1, le)))

    -- no label of it fits
    missed : (last : Bool) → (covered && is_last_block rest) ≡ last → Leads c n (whole_arm last) → Skips last → (temps : Temps) (s : State) →
        temps.values sel ≡ Some v → IsSelected texts s.world v x → Stands c room Open s.world →
        Runs c.fixed (Left c around ending n hi temps s.world) 12 1 (there c tests temps s.world) s.meter
        (branch {A = Does (Unit {0})} last (exec_all first here) (picked_block covered labels rest x here) s)
    missed true is l skips temps s has same h =
        subst (λ k'. Runs c.fixed (Left c around ending n hi temps s.world) 12 1 (there c k' temps s.world) s.meter (exec_all first here s))
        (sym (last_block_tests covered labels rest sel (suc arm) (L.Jump (label Next t) ∷ arms) is))
        (leaps c 11 (label Next t) 1 (omega arith) refl (skips (label Next t) (inl refl) ∙ found_here (label Next t) (one_arm true))
        (goes c 10 1 (omega arith) refl (spares 5 1 (omega arith) (omega arith) (arm_follows true l temps s h))))
    missed false is l skips temps s has same h =
        further_left c around {lo' = n2} {hi' = n2 + width_of_blocks rest} (omega arith) (omega arith) (kept_none n hi temps) (since_none c.level s.world)
        (more inside Open f.1 exits around v x sel t (suc arm) n2 (omega (arith, less)) (omega (arith, le)) k arms r (others_lead l)
        (skips_on skips) temps s has same h)

    tried : (last : Bool) → (covered && is_last_block rest) ≡ last → Leads c n (whole_arm last) → Skips last → (temps : Temps) (s : State) →
        temps.values sel ≡ Some v → IsSelected texts s.world v x → Stands c room Open s.world →
        Runs c.fixed (Left c around ending n hi temps s.world) 12 1 (there c (label_tests these sel (label Arm arm) tests) temps s.world) s.meter
        (picked these x (exec_all first here) (branch {A = Does (Unit {0})} last (exec_all first here) (picked_block covered labels rest x here)) s)
    tried last is l skips temps s has same h =
        picks_follow c sel (label Arm arm) {target = one_arm last} texts these x fits (exec_all first here)
        (branch {A = Does (Unit {0})} last (exec_all first here) (picked_block covered labels rest x here)) s has same
        ((puts_block_tests {lo = 0} {hi = 0} labels rest sel (suc arm)).skips (label Arm arm) (L.Jump (label Next t) ∷ arms) (λ le. le)
        ∙ (skips (label Arm arm) (inr (omega arith, omega arith)) ∙ arm_found last))
        (λ meter. spares 5 1 (omega arith) (omega arith) (arm_follows last l temps (at_meter s meter) h))
        (λ meter. missed last is l skips temps (at_meter s meter) has same h)

  pub an_arm : (texts covered : Bool) (these : List Label) → AreOf texts these → (labels : List (List Label)) (first : Stmts) (rest : Blocks) → Follows first →
      TestsFollow texts covered labels rest → TestsFollow texts covered (these ∷ labels) (Block first rest)
  an_arm texts covered these fits labels first rest follows more inside Open f exits around v x sel t arm n less le k arms r l skips temps s has same h =
      tried texts covered these fits labels first rest follows more inside Open f exits around v x sel t arm n less le k arms r
      (covered && is_last_block rest) refl l skips temps s
      has same h

  -- ---- the selector

  abbrev Selects : Args → Type 1
  Selects tests =
      (Open : Scope) → AllFormed (grounded c top room names) Open tests → (t : ℕ) (k : List Line) (temps : Temps) (s : State) → Stands c room Open s.world →
      Runs c.fixed (Lands c k t (behind_selector tests t) temps s.world (λ v now. now.values t ≡ Some v)) 0 0
      (there c (selector_lines types facts modes c.result tests t k) temps s.world) s.meter (selector_of tests here s)

  selects : (labels : List (List Label)) (tests : Args) → HasSelector (ByLabels labels) tests → Selects tests
  selects labels NoArg is Open f t k temps s h = absurd is
  selects labels (ByValue selector rest) is Open f t k temps s h =
      further {lo' = t} {hi' = t + width selector} (omega arith) (omega arith) (kept_none t (t + widths (ByValue selector rest)) temps)
      (since_none c.level s.world) (λ v now comes kept. comes)
      (spares 0 2 (omega arith) (omega arith) (expr_follows c top room names Open calls selector f.0 Looked t k temps s h))
  selects labels (ByPath path rest) is Open f t k temps s h =
      let w = same_width path in
      let some = some_width_at path in
      let u = looked_from path t in
      after 0 (omega arith) (omega arith) (aim_follows c top room names Open calls path f.0 u (find_lines types facts path u (L.Look t u ∷ k)) temps s h)
      (λ aim b now aims kept since.
      after 0 (omega arith) (omega arith) (find_follows c top room names Open path f.0 u (L.Look t u ∷ k) now aim aims b (stands_since h since))
      (λ l d last looked kept2 since2.
      at_point (carry (fetched l)) path d (λ trail.
      further {lo' = t} {hi' = suc t} (omega arith) (omega (arith, w, some))
      (kept_then (kept_wide (omega arith) (omega (arith, w)) kept) (kept_wide (omega arith) (omega (arith, w)) kept2)) (since_then since since2)
      (λ v n p kept. p)
      (performs_alone c {P = λ v now. now.values t ≡ Some v} (λ v. with_value t last v) (fetched l) (with_trail trail d) (omega arith)
      (answering_all (λ v. (with_value t last v).values t ≡ Some v) (λ v. put_same last.values t v) (fetched l))
      (λ v. kept_value t v (omega arith) (omega arith) (kept_none t (suc t) last))
      (ap (λ o. using o (λ place. does.gives (scene c last d.world) t (fetched (location_at last place)))) looked.leads.is
      ∙ ap (λ l. does.gives (scene c last d.world) t (fetched l)) (leads_now looked.leads))))))

  -- its text, or its number, is what labels are compared with
  selected_by : (texts covered : Bool) (labels : List (List Label)) (blocks : Blocks) (tests : TestsFollow texts covered labels blocks) (node : ℕ)
      (inside : Bool) (Open : Scope) → BlocksFormed (grounded c top room names) inside Open blocks →
      (exits : Exits) (around : Around c exits inside) (v : Value)
      (sel t n : ℕ) → suc t + arm_count (ByLabels labels) ≤ n → (k : List Line) → Reaches around t (L.Label (label End t) ∷ k) →
      Leads c n (arm_blocks types facts modes c.result covered labels blocks exits t (suc t) n (L.Label (label End t) ∷ k)) →
      (temps : Temps) (s : State) → temps.values sel ≡ Some v → Stands c room Open s.world →
      Runs c.fixed (Left c around (L.Label (label End t) ∷ k) n (n + width_of_blocks blocks) temps s.world) 12 1
      (there c (block_tests labels blocks sel (suc t) (L.Jump (label Next t)
      ∷ arm_blocks types facts modes c.result covered labels blocks exits t (suc t) n (L.Label (label End t) ∷ k))) temps s.world) s.meter
      (branch {A = Does (Unit {0})} texts
      (looks (λ world. branch (is_whole world v)
      (costs (length (text_of world v)) (at_node node Chooses (picked_block covered labels blocks (Fixed (text_of world v)) here))) wrong))
      (at_node node Chooses (picked_block covered labels blocks v here)) s)
  selected_by true covered labels blocks tests node inside Open f exits around v sel t n le k r l temps s has h =
      let size = length (text_of s.world v) in
      let chooses : Does (Unit {0}) = costs size (at_node node Chooses (picked_block covered labels blocks (Fixed (text_of s.world v)) here)) in
      unless_wrong (is_whole s.world v) (λ b. branch {A = Does (Unit {0})} b chooses wrong s) s refl
      (λ whole.
      pays 12 size (omega arith)
      (tests inside Open f exits around v (Fixed (text_of s.world v)) sel t (suc t) n (omega arith) le k
      (arm_blocks types facts modes c.result covered labels blocks exits t (suc t) n (L.Label (label End t) ∷ k)) r l (λ name which. refl) temps
      (with_trail (Point node Chooses ∷ s.trail) (worked size s)) has (whole, refl) h))
  selected_by false covered labels blocks tests node inside Open f exits around v sel t n le k r l temps s has h =
      tests inside Open f exits around v v sel t (suc t) n (omega arith) le k
      (arm_blocks types facts modes c.result covered labels blocks exits t (suc t) n (L.Label (label End t) ∷ k)) r l (λ name which. refl) temps
      (with_trail (Point node Chooses ∷ s.trail) s) has refl h

  pub by_labels : (node : Node) (labels : List (List Label)) (tests : Args) (blocks : Blocks) →
      (AllOf (gives_hooked facts (selector_type tests)) labels → (covered : Bool) →
      TestsFollow (gives_hooked facts (selector_type tests)) covered labels blocks) →
      StmtFollows c top room names calls outermost gives_listed (Select node (ByLabels labels) tests blocks)
  by_labels node labels tests blocks follows inside Open f exits around t k r l temps s h =
      let count = arm_count (ByLabels labels) in
      let sel = suc t + count in
      let n = behind_selector tests sel in
      let hi = t + width_in (Select node (ByLabels labels) tests blocks) in
      let w = selector_width labels tests t in
      let turns = turn_width tests blocks in
      let texts = gives_hooked facts (selector_type tests) in
      let covered = is_covered (selector_type tests) in
      let waits = waiting_first facts modes tests in
      let ends = selector_ends types facts modes c.result tests in
      let around1 : Around c (exits_ending ends exits) inside = around_end around ends (puts_ends c waits) in
      let K = L.Label (label End t) ∷ ends k in
      let arms = arm_blocks types facts modes c.result covered labels blocks (exits_ending ends exits) t (suc t) n K in
      let behind = block_tests labels blocks sel (suc t) (L.Jump (label Next t) ∷ arms) in
      let chooses : Value → Does (Unit {0}) = λ x. at_node node.number Chooses (picked_block covered labels blocks x here) in
      let s1 : State = with_trail (Point node.number Begins ∷ s.trail) (worked 1 s) in
      pays 12 1 (omega arith)
      (group_leaves c around waits (waits_listed_first c top room names Open tests f.2)
      (selector_of tests here >>= (λ x. selecting here (selector_type tests) x chooses)) s1
      (after 12 (omega arith) (omega arith) (selects labels tests f.0 Open f.2 sel behind temps s1 h)
      (λ x b now has kept since.
      rejoin c around1 {lo' = n} {hi' = n + width_of_blocks blocks} 1 (omega arith) (omega arith) (omega arith) (omega (arith, w)) (omega (arith, w, turns))
      (kept_wide {lo = t} {hi = hi} (omega arith) (omega (arith, w, turns)) kept) since
      (selected_by texts covered labels blocks (follows f.1 covered) node.number inside Open f.3 (exits_ending ends exits) around1 x sel t n (omega (arith, w))
      (ends k)
      (reaches {t = t} {t' = t} {lo = 4 * t} {hi = 4 * t + 2} (omega arith) (omega arith) (puts_label (label End t) (omega arith) (omega arith))
      (reaches_ended {around = around} ends (puts_ends c waits) (omega arith) r))
      (leads_on {lo = 0} {hi = 4 * n} (omega arith) (omega arith)
      (puts_wide {lo = 0} {hi = 4 * n} (omega arith) (omega arith) (puts_selector types facts modes c.result tests sel)
      >> (puts_block_tests labels blocks sel (suc t) >> puts_line (L.Jump (label Next t)) refl)) l)
      now b has (stands_since h since))
      (λ d last kept since. goes c 0 1 (omega arith) refl (stays c around1 d last (omega arith) kept since)))))
