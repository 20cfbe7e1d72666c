-- Flat code follows the value of a `case`: the tests of all labels, and then one arm.
use Rattle.std.proofs.Common.{◌≡◌, ℕ, ◌+◌, ◌*◌, ◌<◌, ◌≤◌, ◌⊎◌, inl, inr, Bool, true, false, ◌&&◌, List, [], ◌∷◌, Option, Some, refl, sym, ◌∙◌, subst, arith}
use Rattle.std.specs.Prelude.{if◌then◌else◌, nat_eq}
use Rattle.std.proofs.lemmas.Bool.{false≢true, ne_eqb, cond-false}
use Rattle.arc_base.specs.BigStep.{Got, then_do}
use Rattle.nim_types.specs.Types.{Ty, Facts}
use Rattle.nim_program.specs.declared.operation.Use.{Use}
use Rattle.nim_program.specs.declared.program.Mode.{Mode}
use Rattle.nim_program.specs.Program.{Label, Expr, Path, Args, NoArg, ByValue, ByPath}
use Rattle.nim_meaning.specs.Values.{Value}
use Rattle.nim_meaning.specs.State.{State}
use Rattle.nim_meaning.specs.Acts.{On, Does, onward, branch}
use Rattle.nim_meaning.specs.Shapes.{is_last_value}
use Rattle.nim_meaning.specs.Table.{default_for}
use Rattle.nim_meaning.specs.Here.{Here}
use Rattle.nim_meaning.specs.Meaning.{picked, handed_on, picked_value}
use Rattle.flat_code.specs.declared.line.Line.{Line}
use Rattle.flat_code.specs.declared.line.Line.TheVariants as L
use Rattle.flat_code.specs.Scene.{Temps}
use Rattle.flattening.specs.declared.numbers.Purpose.TheVariants.{End, Next, Arm}
use Rattle.flattening.specs.Numbering.{width, widths, label}
use Rattle.flattening.specs.ExprLines.{use_at, arm_label, arm_lines, value_tests, label_tests}
use Rattle.flattening.specs.ExprLines.{handed_on as handed_on_line, none_fits as default_line}
use Rattle.flattening.specs.Flattened.{modes_of}
use Rattle.flattening.specs.Formed.{Scope, IfListed, AreOf}
use Rattle.flattening.proofs.Runs.{Runs, spares}
use Rattle.flattening.proofs.Worlds.{Since, since_none}
use Rattle.flattening.proofs.Temps.{Kept, kept_none, kept_wide}
use Rattle.flattening.proofs.Puts.{found, found_here, puts_label, puts_wide, ◌>>◌}
use Rattle.flattening.proofs.PutsParts.{puts_branch, puts_tests, puts_arms}
use Rattle.flattening.proofs.Spots.{Spot, here_of, there, Lands, brings, further, goes, leaps}
use Rattle.flattening.proofs.Standing.{Stands}
use Rattle.flattening.proofs.Groups.{Has, BranchFollows}
use Rattle.flattening.proofs.Choices.{branch_of, value_of_branch, TestsFollow, valued, ends_at, none_follows}
use Rattle.flattening.proofs.Picks.{IsSelected, picked_then, picks_follow, at_meter}
use Rattle.flattening.proofs.Widths.{some_width}

-- behind the last branch there are no more tests
last_tests : (covered : Bool) (labels : List (List Label)) (rest : Args) (s u : ℕ) (k : List Line) → (covered && is_last_value rest) ≡ true →
    value_tests labels rest s u k ≡ k
last_tests covered labels NoArg s u k e = refl
last_tests covered labels (ByPath path rest) s u k e = refl
last_tests true labels (ByValue value rest) s u k e = absurd (false≢true e)
last_tests false labels (ByValue value rest) s u k e = absurd (false≢true e)

-- another label is passed
pub found_past : (name label : ℕ) (k : List Line) → (label ≡ name → ⊥) → found name (L.Label label ∷ k) ≡ found name k
found_past name label k ne = cond-false (nat_eq label name) (Some (L.Label label ∷ k)) (found name k) (ne_eqb label name ne)

module _ (c : Spot) (top : Bool) (room : ℕ → Type 0) (names : (proc place : ℕ) → Type 0) (Open : Scope) where
  abbrev facts : Facts
  facts = c.fixed.program.facts

  abbrev types : List Ty
  types = c.fixed.program.types

  abbrev modes : (proc position : ℕ) → Mode
  modes = modes_of c.fixed.program c.fixed.plan

  abbrev here : Here
  here = here_of c

  module _ (texts covered : Bool) (ty : Option Ty) (listed : IfListed c.fixed.program.types ty) (how : Use) (site t : ℕ) where
    -- no label fits, and there is no branch for that
    no_arm : (labels : List (List Label)) (hi : ℕ) → t < hi → (k arms : List Line) (temps : Temps) (s : State) →
        found (label Next t) arms ≡ Some (L.Label (label Next t) ∷ default_line types facts modes t ty (use_at how site) ∷ L.Label (label End t) ∷ k) →
        Runs c.fixed (Lands c k t hi temps s.world (Has t)) 12 2 (there c (L.Jump (label Next t) ∷ arms) temps s.world) s.meter
        (handed_on here how site ty (default_for here.facts ty) s)
    no_arm labels hi less k arms temps s next =
        leaps c 11 (label Next t) 1 (omega arith) refl next
        (goes c 10 1 (omega arith) refl (spares 8 2 (omega arith) (omega arith) (none_follows c top room names Open ty listed how site t hi less k temps s)))

    pub none_fits : (labels : List (List Label)) → TestsFollow c top room names Open texts covered labels NoArg ty how site t
    none_fits labels v x sel u less k arms temps s has is h skips =
        no_arm labels (u + 0) (omega (arith, less)) k arms temps s (skips (label Next t) (inl refl) ∙ found_here (label Next t) _)

    pub none_by_path : (labels : List (List Label)) (path : Path) (rest : Args) →
        TestsFollow c top room names Open texts covered labels (ByPath path rest) ty how site t
    none_by_path labels path rest v x sel u less k arms temps s has is h skips =
        no_arm labels (u + widths (ByPath path rest)) (omega (arith, less)) k arms temps s (skips (label Next t) (inl refl) ∙ found_here (label Next t) _)

    pub otherwise : (value : Expr) (rest : Args) → BranchFollows c top room names Open value → TestsFollow c top room names Open texts covered []
        (ByValue value rest) ty how site t
    otherwise value rest follows v x sel u less k arms temps s has is h skips =
        let w = some_width value in
        leaps c 11 (label Next t) 1 (omega arith) refl (skips (label Next t) (inl refl) ∙ found_here (label Next t) _)
        (goes c 10 1 (omega arith) refl
        (brings 10 (omega arith) (omega arith) (valued c top room names Open value follows ty listed how site t u less (L.Label (label End t) ∷ k) temps s h)
        (λ v b now at kept since.
        spares 3 2 (omega arith) (omega arith)
        (ends_at c top room names Open t (u + widths (ByValue value rest)) k temps now s.world v b (kept_wide (omega arith) (omega arith) kept) since at))))

    -- ---- a branch with labels

    module _ (these : List Label) (fits : AreOf texts these) (labels : List (List Label)) (value : Expr) (rest : Args)
        (follows : BranchFollows c top room names Open value)
        (more : TestsFollow c top room names Open texts covered labels rest ty how site t) (v x : Value) (sel u : ℕ) (less : t < u) (k arms : List Line) where
      abbrev u2 : ℕ
      u2 = u + width value

      abbrev hi : ℕ
      hi = u + widths (ByValue value rest)

      abbrev ending : List Line
      ending = L.Label (label End t) ∷ k

      abbrev others : List Line
      others = arm_lines types facts modes covered labels rest ty (use_at how site) t u2 ending

      -- what stands behind the arm's value, where it is the last one, and where it isn't
      abbrev behind : Bool → List Line
      behind last = if last then ending else L.Jump (label End t) ∷ others

      abbrev arm : Bool → List Line
      arm last = L.Label (label Arm u) ∷ value_of_branch c top room names Open value u (handed_on_line types facts modes t u (use_at how site) ty ∷ behind last)

      abbrev whole_arm : Bool → List Line
      whole_arm last =
          arm_label last (label Next t) (label Arm u)
          (value_of_branch c top room names Open value u (handed_on_line types facts modes t u (use_at how site) ty ∷ behind last))

      abbrev Skips : Bool → Type 0
      Skips last = (name : ℕ) → (name ≡ label Next t) ⊎ (4 * u ≤ name) → found name arms ≡ found name (whole_arm last)

      arm_found : (last : Bool) → found (label Arm u) (whole_arm last) ≡ Some (arm last)
      arm_found true = found_past (label Arm u) (label Next t) (arm true) (λ e. absurd (omega (arith, e, less))) ∙ found_here (label Arm u) _
      arm_found false = found_here (label Arm u) _

      abbrev tests : List Line
      tests = value_tests labels rest sel u2 (L.Jump (label Next t) ∷ arms)

      -- the arm's value is that of the whole
      arm_follows : (last : Bool) (temps : Temps) (s : State) → Stands c room Open s.world →
          Runs c.fixed (Lands c k t hi temps s.world (Has t)) 9 2 (there c (arm last) temps s.world) s.meter
          (then_do (branch_of c top room names Open value s) (onward (handed_on here how site ty)))
      arm_follows last temps s h =
          goes c 8 1 (omega arith) refl
          (brings 8 (omega arith) (omega arith) (valued c top room names Open value follows ty listed how site t u less (behind last) temps s h)
          (λ v b now at kept since. on last v b now at (kept_wide (omega arith) (omega arith) kept) since))
        where
          on : (last : Bool) (v : Value) (b : State) (now : Temps) → now.values t ≡ Some v → Kept t hi temps now → Since c.level s.world b.world →
              Runs c.fixed (Lands c k t hi temps s.world (Has t)) 8 2 (there c (behind last) now b.world) b.meter (Got (On v) b)
          on true v b now at kept since = spares 3 2 (omega arith) (omega arith) (ends_at c top room names Open t hi k temps now s.world v b kept since at)
          on false v b now at kept since =
              leaps c 7 (label End t) 1 (omega arith) refl
              ((puts_arms types facts modes covered labels rest ty how site t u2 (omega (arith, less))).skips (label End t) ending
              (λ le. absurd (omega (arith, le)))
              ∙ found_here (label End t) k)
              (spares 3 2 (omega arith) (omega arith) (ends_at c top room names Open t hi k temps now s.world v b kept since at))

      -- no label of it fits
      missed : (last : Bool) → (covered && is_last_value rest) ≡ last → Skips last → (temps : Temps) (s : State) → temps.values sel ≡ Some v →
          IsSelected texts s.world v x → Stands c room Open s.world →
          Runs c.fixed (Lands c k t hi temps s.world (Has t)) 12 2 (there c tests temps s.world) s.meter
          (then_do (branch {A = Does Value} last (branch_of c top room names Open value) (picked_value covered labels rest x ty here) s)
          (onward (handed_on here how site ty)))
      missed true is skips temps s has same h =
          subst (λ k'. Runs c.fixed (Lands c k t hi temps s.world (Has t)) 12 2 (there c k' temps s.world) s.meter
          (then_do (branch_of c top room names Open value s) (onward (handed_on here how site ty))))
          (sym (last_tests covered labels rest sel u2 (L.Jump (label Next t) ∷ arms) is))
          (leaps c 11 (label Next t) 1 (omega arith) refl (skips (label Next t) (inl refl) ∙ found_here (label Next t) (arm true))
          (goes c 10 1 (omega arith) refl (spares 9 2 (omega arith) (omega arith) (arm_follows true temps s h))))
      missed false is skips temps s has same h =
          let w = some_width value in
          further {lo' = t} {hi' = u2 + widths rest} (omega arith) (omega arith) (kept_none t hi temps) (since_none c.level s.world) (λ v n p kept. p)
          (more v x sel u2 (omega (arith, less)) k arms temps s has same h (λ name which. skips name (wider name which) ∙ passed name which))
        where
          wider : (name : ℕ) → (name ≡ label Next t) ⊎ (4 * u2 ≤ name) → (name ≡ label Next t) ⊎ (4 * u ≤ name)
          wider name (inl e) = inl e
          wider name (inr le) = inr (omega (arith, le))

          passed : (name : ℕ) → (name ≡ label Next t) ⊎ (4 * u2 ≤ name) → found name (whole_arm false) ≡ found name others
          passed name (inl e) =
              let w = some_width value in
              (puts_label {lo = 4 * u} {hi = 4 * u2} (label Arm u) (omega arith) (omega (arith, w)) >> puts_wide (omega arith) (omega arith)
              (puts_branch types facts modes value u)).skips
              name (handed_on_line types facts modes t u (use_at how site) ty ∷ L.Jump (label End t) ∷ others) (λ le. absurd (omega (arith, le, e, less)))
          passed name (inr above) =
              let w = some_width value in
              (puts_label {lo = 4 * u} {hi = 4 * u2} (label Arm u) (omega arith) (omega (arith, w)) >> puts_wide (omega arith) (omega arith)
              (puts_branch types facts modes value u)).skips
              name (handed_on_line types facts modes t u (use_at how site) ty ∷ L.Jump (label End t) ∷ others) (λ le. above)

      tried : (last : Bool) → (covered && is_last_value rest) ≡ last → Skips last → (temps : Temps) (s : State) → temps.values sel ≡ Some v →
          IsSelected texts s.world v x → Stands c room Open s.world →
          Runs c.fixed (Lands c k t hi temps s.world (Has t)) 12 2
          (there c (label_tests these sel (label Arm u) tests) temps s.world) s.meter
          (then_do (picked these x (branch_of c top room names Open value) (branch {A = Does Value} last (branch_of c top room names Open value)
          (picked_value covered labels rest x ty here)) s)
          (onward (handed_on here how site ty)))
      tried last is skips temps s has same h =
          subst (λ r. Runs c.fixed (Lands c k t hi temps s.world (Has t)) 12 2
          (there c (label_tests these sel (label Arm u) tests) temps s.world) s.meter r)
          (sym (picked_then these x (branch_of c top room names Open value) (branch {A = Does Value} last (branch_of c top room names Open value)
          (picked_value covered labels rest x ty here))
          (onward (handed_on here how site ty)) s))
          (picks_follow c sel (label Arm u) {target = arm last} texts these x fits
          (λ s. then_do (branch_of c top room names Open value s) (onward (handed_on here how site ty)))
          (λ s. then_do (branch {A = Does Value} last (branch_of c top room names Open value) (picked_value covered labels rest x ty here) s)
          (onward (handed_on here how site ty))) s has same
          ((puts_tests {lo = 0} {hi = 0} labels rest sel u2).skips (label Arm u) (L.Jump (label Next t) ∷ arms) (λ le. le)
          ∙ (skips (label Arm u) (inr (omega arith)) ∙ arm_found last))
          (λ meter. spares 9 2 (omega arith) (omega arith) (arm_follows last temps (at_meter s meter) h))
          (λ meter. missed last is skips temps (at_meter s meter) has same h))

    pub an_arm : (these : List Label) → AreOf texts these → (labels : List (List Label)) (value : Expr) (rest : Args) →
        BranchFollows c top room names Open value →
        TestsFollow c top room names Open texts covered labels rest ty how site t → TestsFollow c top room names Open texts covered (these ∷ labels)
        (ByValue value rest) ty how site t
    an_arm these fits labels value rest follows more v x sel u less k arms temps s has same h skips =
        tried these fits labels value rest follows more v x sel u less k arms (covered && is_last_value rest) refl skips temps s has same h
