-- Flat code follows expressions that choose, over what their parts do.
use Rattle.std.proofs.Common.{◌≡◌, ℕ, suc, ◌+◌, ◌*◌, ◌<◌, ◌≤◌, ◌⊎◌, Bool, true, false, List, ◌∷◌, Option, Some, None, refl, ap, ◌∙◌, arith}
use Rattle.std.specs.Prelude.{not}
use Rattle.arc_base.specs.BigStep.{Got, then_do}
use Rattle.nim_types.specs.Types.{Ty, Facts}
use Rattle.nim_program.specs.declared.expr.Node.{Node}
use Rattle.nim_program.specs.declared.operation.Short.{Short}
use Rattle.nim_program.specs.declared.operation.Short.TheVariants.{And, Or}
use Rattle.nim_program.specs.declared.operation.Use.{Use}
use Rattle.nim_program.specs.declared.operation.Use.TheVariants.{Owned}
use Rattle.nim_program.specs.declared.program.Mode.{Mode}
use Rattle.nim_program.specs.Ints.{truth, is_true}
use Rattle.nim_program.specs.Program.{Label, Expr, Early, Args, NoArg, ByValue, node_of}
use Rattle.nim_meaning.specs.Values.{Value, Number, number_of}
use Rattle.nim_meaning.specs.State.{World, State}
use Rattle.nim_meaning.specs.ActTree.{Asks, Decides}
use Rattle.nim_meaning.specs.Ways.{At as Point}
use Rattle.nim_meaning.specs.Acts.{On, Does, onward, branch, with_trail}
use Rattle.nim_meaning.specs.Table.{default_for}
use Rattle.nim_meaning.specs.Here.{Here}
use Rattle.nim_meaning.specs.Deeds.{costs}
use Rattle.nim_meaning.specs.Meaning.{destination, eval, branch_value, early, handed_on, handed_by, first_value, picked_value, at_node}
use Rattle.flat_code.specs.declared.line.Line.{Line}
use Rattle.flat_code.specs.declared.line.Line.TheVariants as L
use Rattle.flat_code.specs.Scene.{Temps, with_value}
use Rattle.flat_code.specs.Lines.{using, leaps_where}
use Rattle.flat_code.specs.Lines as does
use Rattle.flattening.specs.declared.numbers.Purpose.TheVariants.{End, Next, Arm}
use Rattle.flattening.specs.Numbering.{width, widths, label}
use Rattle.flattening.specs.ExprLines.{use_at, branch_use, branch_ends, lines, choice_lines, arm_lines, early_lines, value_tests}
use Rattle.flattening.specs.ExprLines.{handed_on as handed_on_line, none_fits as default_line}
use Rattle.flattening.specs.Flattened.{modes_of}
use Rattle.flattening.specs.Formed.{Scope, IfListed}
use Rattle.flattening.proofs.Runs.{Runs, spares}
use Rattle.flattening.proofs.Worlds.{Since, since_none}
use Rattle.flattening.proofs.Temps.{Kept, kept_none, kept_wide, kept_value, put_same, put_other}
use Rattle.flattening.proofs.Puts.{found, found_here, puts_label, puts_wide, ◌>>◌}
use Rattle.flattening.proofs.PutsParts.{puts_expr, puts_branch, puts_choice}
use Rattle.flattening.proofs.Spots.{Spot, here_of, there, scene, does_at, Lands, after, after_both, answers, brings, further, goes, leaps}
use Rattle.flattening.proofs.Standing.{Stands, stands_since}
use Rattle.flattening.proofs.Picks.{IsSelected}
use Rattle.flattening.proofs.Acting.{hands_follow, default_follows}
use Rattle.flattening.proofs.Groups.{Has, ExprFollows, AloneFollows, BranchFollows}
use Rattle.flattening.proofs.Widths.{some_width}

-- the test of a bool in a temporary
pub unless_is : (c : Spot) (temps : Temps) (world : World) (u name : ℕ) (x : Value) (b : Bool) → temps.values u ≡ Some x → is_true (number_of x) ≡ b →
    does_at c temps world (L.Unless u name) ≡ leaps_where (scene c temps world) 1 (not b) name
unless_is c temps world u name x b has is =
    ap (λ o. using o (λ v. leaps_where (scene c temps world) 1 (not (is_true (number_of v))) name)) has
    ∙ ap (λ b. leaps_where (scene c temps world) 1 (not b) name) is

module _ (c : Spot) (top : Bool) (room : ℕ → Type 0) (names : (proc place : ℕ) → Type 0) (Open : Scope) where
  abbrev facts : Facts
  facts = c.fixed.program.facts

  abbrev types : List Ty
  types = c.fixed.program.types

  abbrev modes : (proc position : ℕ) → Mode
  modes = modes_of c.fixed.program c.fixed.plan

  abbrev here : Here
  here = here_of c

  -- ---- what is shown of a part

  -- the value of a branch
  abbrev pub branch_of : Expr → Does Value
  branch_of e = branch_value here e (λ how. eval e how here)

  abbrev Follows : Expr → Type 0
  Follows = ExprFollows c top room names Open

  abbrev Alone : Expr → Type 0
  Alone e = AloneFollows c top room names Open e Owned

  abbrev Branches : Expr → Type 0
  Branches = BranchFollows c top room names Open

  abbrev pub value_of_branch : Expr → (t : ℕ) → List Line → List Line
  value_of_branch e t k = lines types facts modes e (branch_use types facts modes e) t (branch_ends types facts modes e k)

  -- the value of a choice at a node, with the lines behind it
  abbrev pub ChoiceFollows : (parts : Args) (ty : Option Ty) (how : Use) (site t : ℕ) → Type 0
  ChoiceFollows parts ty how site t = (u : ℕ) → t < u → (k : List Line) (temps : Temps) (s : State) → Stands c room Open s.world →
      Runs c.fixed (Lands c k t (u + widths parts) temps s.world (Has t)) 12 2
      (there c (choice_lines types facts modes parts ty (use_at how site) t u (L.Label (label End t) ∷ k)) temps s.world) s.meter
      (then_do (first_value parts ty here s) (onward (handed_on here how site ty)))

  abbrev pub TestsFollow : (texts covered : Bool) (labels : List (List Label)) (values : Args) (ty : Option Ty) (how : Use) (site t : ℕ) → Type 0
  TestsFollow texts covered labels values ty how site t =
      (v x : Value) (sel u : ℕ) → t < u → (k arms : List Line) (temps : Temps) (s : State) → temps.values sel ≡ Some v →
      IsSelected texts s.world v x → Stands c room Open s.world →
      ((name : ℕ) → (name ≡ label Next t) ⊎ (4 * u ≤ name) →
      found name arms ≡ found name (arm_lines types facts modes covered labels values ty (use_at how site) t u (L.Label (label End t) ∷ k))) →
      Runs c.fixed (Lands c k t (u + widths values) temps s.world (Has t)) 12 2
      (there c (value_tests labels values sel u (L.Jump (label Next t) ∷ arms)) temps s.world) s.meter
      (then_do (picked_value covered labels values x ty here s) (onward (handed_on here how site ty)))

  -- ---- `and` and `or`

  module _ (node : Node) (ty : Ty) (short : Short) (left right : Expr) (how : Use) (t : ℕ) (k : List Line) (follows : Follows right) where
    abbrev e : Expr
    e = Early node ty short left right

    abbrev u : ℕ
    u = suc t + width left

    abbrev hi : ℕ
    hi = t + width e

    abbrev tail : List Line
    tail = L.Pass t u (use_at how node.number) None ∷ L.Label (label End t) ∷ k

    -- the right operand decides
    right_follows : (temps : Temps) (s : State) → Stands c room Open s.world →
        Runs c.fixed (Lands c k t hi temps s.world (Has t)) 2 2 (there c (lines types facts modes right Owned u tail) temps s.world) s.meter
        (eval right Owned here s)
    right_follows temps s h =
        brings 4 (omega arith) (omega arith) (follows Owned u tail temps s h)
        (λ v d last comes kept since.
        goes c 3 1 (omega arith) (ap (λ o. using o
        (λ v. does.gives (scene c last d.world) t (costs 1 (handed_by here.facts (destination here how node.number) None v)))) comes)
        (goes c 2 1 (omega arith) refl
        (answers v d (with_value t last v) (omega arith) (put_same last.values t v)
        (kept_value t v (omega arith) (omega arith) (kept_wide (omega arith) (omega arith) kept)) since)))

    -- the left one did
    decided : (z : Bool) (temps : Temps) (s : State) → temps.values t ≡ Some (Number (truth z)) →
        Runs c.fixed (Lands c k t hi temps s.world (Has t)) 3 2 (there c (L.Label (label End t) ∷ k) temps s.world) s.meter
        (Got (On (Number (truth z))) s)
    decided z temps s is =
        goes c 2 1 (omega arith) refl
        (answers (Number (truth z)) s temps (omega arith) is (kept_none t hi temps) (since_none c.level s.world))

    end_found : found (label End t) (lines types facts modes right Owned u tail) ≡ Some (L.Label (label End t) ∷ k)
    end_found = (puts_expr types facts modes right Owned u).skips (label End t) tail (λ le. absurd (omega (arith, le))) ∙ found_here (label End t) k

    left_kept : (z : Value) (temps : Temps) (x : Value) → temps.values (suc t) ≡ Some x → (with_value t temps z).values (suc t) ≡ Some x
    left_kept z temps x has = put_other temps.values t z (suc t) (λ e. absurd (omega (arith, e))) ∙ has

    and_follows : (b : Bool) (x : Value) (temps : Temps) (s : State) → is_true (number_of x) ≡ b → temps.values (suc t) ≡ Some x →
        Stands c room Open s.world →
        Runs c.fixed (Lands c k t hi temps s.world (Has t)) 14 2
        (there c (early_lines types facts modes And t (suc t) (lines types facts modes right Owned u tail)) temps s.world)
        s.meter (early And b (eval right Owned here) s)
    and_follows b x temps s is has h =
        let no : Value = Number (truth false) in
        let last = with_value t temps no in
        goes c 13 1 (omega arith) refl
        (further {lo' = t} {hi' = hi} (omega arith) (omega arith) (kept_value t no (omega arith) (omega arith) (kept_none t hi temps))
        (since_none c.level s.world)
        (λ v n p kept. p) (on b is))
      where
        on : (b : Bool) → is_true (number_of x) ≡ b →
            Runs c.fixed (Lands c k t hi (with_value t temps (Number (truth false))) s.world (Has t)) 13 2
            (there c (L.Unless (suc t) (label End t) ∷ lines types facts modes right Owned u tail) (with_value t temps (Number (truth false))) s.world) s.meter
            (early And b (eval right Owned here) s)
        on true is =
            let last = with_value t temps (Number (truth false)) in
            goes c 12 1 (omega arith) (unless_is c last s.world (suc t) (label End t) x true (left_kept (Number (truth false)) temps x has) is)
            (spares 2 2 (omega arith) (omega arith) (right_follows last s h))
        on false is =
            let last = with_value t temps (Number (truth false)) in
            leaps c 12 (label End t) 1 (omega arith) (unless_is c last s.world (suc t) (label End t) x false
            (left_kept (Number (truth false)) temps x has) is) end_found
            (spares 3 2 (omega arith) (omega arith) (decided false last s (put_same temps.values t (Number (truth false)))))

    or_follows : (b : Bool) (x : Value) (temps : Temps) (s : State) → is_true (number_of x) ≡ b → temps.values (suc t) ≡ Some x → Stands c room Open s.world →
        Runs c.fixed (Lands c k t hi temps s.world (Has t)) 14 2
        (there c (early_lines types facts modes Or t (suc t) (lines types facts modes right Owned u tail)) temps s.world)
        s.meter (early Or b (eval right Owned here) s)
    or_follows b x temps s is has h =
        let yes : Value = Number (truth true) in
        goes c 13 1 (omega arith) refl
        (further {lo' = t} {hi' = hi} (omega arith) (omega arith) (kept_value t yes (omega arith) (omega arith) (kept_none t hi temps))
        (since_none c.level s.world)
        (λ v n p kept. p) (on b is))
      where
        behind : List Line
        behind = L.Label (label Next t) ∷ lines types facts modes right Owned u tail

        on : (b : Bool) → is_true (number_of x) ≡ b →
            Runs c.fixed (Lands c k t hi (with_value t temps (Number (truth true))) s.world (Has t)) 13 2
            (there c (L.Unless (suc t) (label Next t) ∷ L.Jump (label End t) ∷ L.Label (label Next t) ∷ lines types facts modes right Owned u tail)
            (with_value t temps (Number (truth true))) s.world) s.meter (early Or b (eval right Owned here) s)
        on true is =
            let last = with_value t temps (Number (truth true)) in
            goes c 12 1 (omega arith) (unless_is c last s.world (suc t) (label Next t) x true (left_kept (Number (truth true)) temps x has) is)
            (leaps c 11 (label End t) 1 (omega arith) refl
            ((puts_label {lo = 4 * t + 2} {hi = 4 * t + 3} (label Next t) (omega arith) (omega arith)).skips (label End t)
            (lines types facts modes right Owned u tail)
            (λ le. absurd (omega (arith, le))) ∙ end_found)
            (spares 3 2 (omega arith) (omega arith) (decided true last s (put_same temps.values t (Number (truth true))))))
        on false is =
            let last = with_value t temps (Number (truth true)) in
            leaps c 12 (label Next t) 1 (omega arith) (unless_is c last s.world (suc t) (label Next t) x false (left_kept (Number (truth true)) temps x has) is)
            (found_here (label Next t) (lines types facts modes right Owned u tail))
            (goes c 11 1 (omega arith) refl (spares 2 2 (omega arith) (omega arith) (right_follows last s h)))

  pub early_follows : (node : Node) (ty : Ty) (short : Short) (left right : Expr) (how : Use) (t : ℕ) (k : List Line) → Follows right → (x : Value)
      (temps : Temps) (s : State) → temps.values (suc t) ≡ Some x → Stands c room Open s.world →
      Runs c.fixed (Lands c k t (t + width (Early node ty short left right)) temps s.world (Has t)) 14 2
      (there c (early_lines types facts modes short t (suc t) (lines types facts modes right Owned (suc t + width left)
      (L.Pass t (suc t + width left) (use_at how node.number) None ∷ L.Label (label End t) ∷ k)))
      temps s.world) s.meter (early short (is_true (number_of x)) (eval right Owned here) s)
  early_follows node ty And left right how t k follows x temps s has h =
      and_follows node ty And left right how t k follows (is_true (number_of x)) x temps s refl has h
  early_follows node ty Or left right how t k follows x temps s has h =
      or_follows node ty Or left right how t k follows (is_true (number_of x)) x temps s refl has h

  -- ---- the value of a branch

  -- it is evaluated, and handed on
  pub valued : (value : Expr) → Branches value → (ty : Option Ty) → IfListed c.fixed.program.types ty → (how : Use) (site t u : ℕ) → t < u → (k : List Line)
      (temps : Temps) (s : State) →
      Stands c room Open s.world →
      Runs c.fixed (Lands c k t (u + width value) temps s.world (Has t)) 0 0
      (there c (value_of_branch value u (handed_on_line types facts modes t u (use_at how site) ty ∷ k)) temps s.world) s.meter
      (then_do (branch_of value s) (onward (handed_on here how site ty)))
  valued value follows ty listed how site t u less k temps s h =
      let w = some_width value in
      after 1 (omega arith) (omega arith) (follows u (handed_on_line types facts modes t u (use_at how site) ty ∷ k) temps s h)
      (λ v b now comes kept since.
      further {lo' = t} {hi' = suc t} (omega arith) (omega (arith, less)) (kept_wide (omega (arith, less)) (omega arith) kept) since (λ v n p kept. p)
      (hands_follow c top room names Open how site ty listed v t u k now comes b))

  -- behind it, the choice ends
  pub ends_at : (t hi : ℕ) (k : List Line) (temps now : Temps) (world : World) (v : Value) (b : State) → Kept t hi temps now → Since c.level world b.world →
      Has t v now →
      Runs c.fixed (Lands c k t hi temps world (Has t)) 3 2 (there c (L.Label (label End t) ∷ k) now b.world) b.meter (Got (On v) b)
  ends_at t hi k temps now world v b kept since has = goes c 2 1 (omega arith) refl (answers v b now (omega arith) has kept since)

  -- no branch is chosen
  pub none_follows : (ty : Option Ty) → IfListed c.fixed.program.types ty → (how : Use) (site t hi : ℕ) → t < hi → (k : List Line) (temps : Temps) (s : State) →
      Runs c.fixed (Lands c k t hi temps s.world (Has t)) 8 2
      (there c (default_line types facts modes t ty (use_at how site) ∷ L.Label (label End t) ∷ k) temps s.world) s.meter
      (handed_on here how site ty (default_for here.facts ty) s)
  none_follows ty listed how site t hi less k temps s =
      brings 3 (omega arith) (omega arith) (default_follows c top room names Open how site ty listed t (L.Label (label End t) ∷ k) temps s)
      (λ v b now has kept since. ends_at t hi k temps now s.world v b (kept_wide (omega arith) (omega (arith, less)) kept) since has)

  -- ---- by conditions

  pub no_choice : (ty : Option Ty) → IfListed c.fixed.program.types ty → (how : Use) (site t : ℕ) → ChoiceFollows NoArg ty how site t
  no_choice ty listed how site t u less k temps s h =
      spares 8 2 (omega arith) (omega arith) (none_follows ty listed how site t (u + 0) (omega (arith, less)) k temps s)

  pub last_choice : (last : Expr) → Branches last → (ty : Option Ty) → IfListed c.fixed.program.types ty → (how : Use) (site t : ℕ) → ChoiceFollows
      (ByValue last NoArg) ty how site t
  last_choice last follows ty listed how site t u less k temps s h =
      brings 12 (omega arith) (omega arith) (valued last follows ty listed how site t u less (L.Label (label End t) ∷ k) temps s h)
      (λ v b now has kept since.
      spares 3 2 (omega arith) (omega arith) (ends_at t (u + widths (ByValue last NoArg)) k temps now s.world v b
      (kept_wide (omega arith) (omega arith) kept) since has))

  module _ (condition value : Expr) (rest : Args) (gives : Branches value) (ty : Option Ty) (listed : IfListed c.fixed.program.types ty) (how : Use)
      (site t : ℕ)
      (more : ChoiceFollows rest ty how site t) (n : ℕ) (less : t < n) (k : List Line) where
    abbrev n2 : ℕ
    n2 = n + width condition

    abbrev n3 : ℕ
    n3 = n2 + width value

    abbrev top_of : ℕ
    top_of = n + widths (ByValue condition (ByValue value rest))

    abbrev ending : List Line
    ending = L.Label (label End t) ∷ k

    abbrev others : List Line
    others = choice_lines types facts modes rest ty (use_at how site) t n3 ending

    abbrev value_lines : List Line
    value_lines = value_of_branch value n2 (handed_on_line types facts modes t n2 (use_at how site) ty ∷ L.Jump (label End t) ∷ L.Label (label Arm n) ∷ others)

    end_is_found : found (label End t) (L.Label (label Arm n) ∷ others) ≡ Some ending
    end_is_found =
        let w = some_width condition in
        (puts_label {lo = 4 * n} {hi = 4 * (n3 + widths rest)} (label Arm n) (omega arith) (omega (arith, w))
        >> puts_wide (omega arith) (omega arith) (puts_choice types facts modes rest ty how site t n3)).skips (label End t) ending
        (λ le. absurd (omega (arith, le, less)))
        ∙ found_here (label End t) k

    arm_is_found : found (label Arm n) value_lines ≡ Some (L.Label (label Arm n) ∷ others)
    arm_is_found =
        let w = some_width condition in
        (puts_branch types facts modes value n2).skips (label Arm n)
        (handed_on_line types facts modes t n2 (use_at how site) ty ∷ L.Jump (label End t) ∷ L.Label (label Arm n) ∷ others)
        (λ le. absurd (omega (arith, le, w)))
        ∙ found_here (label Arm n) others

    chosen : (b : Bool) (x : Value) (now : Temps) (d : State) → is_true (number_of x) ≡ b → now.values n ≡ Some x → Stands c room Open d.world →
        Runs c.fixed (Lands c k t top_of now d.world (Has t)) 14 2 (there c (L.Unless n (label Arm n) ∷ value_lines) now d.world) d.meter
        (then_do (branch {A = Does Value} b (branch_of value) (first_value rest ty here) d) (onward (handed_on here how site ty)))
    chosen true x now d is has h =
        goes c 13 1 (omega arith) (unless_is c now d.world n (label Arm n) x true has is)
        (brings 13 (omega arith) (omega arith)
        (valued value gives ty listed how site t n2 (omega (arith, less)) (L.Jump (label End t) ∷ L.Label (label Arm n) ∷ others) now d h)
        (λ v b last has kept since.
        leaps c 12 (label End t) 1 (omega arith) refl end_is_found
        (spares 3 2 (omega arith) (omega arith) (ends_at t top_of k now last d.world v b (kept_wide (omega arith) (omega arith) kept) since has))))
    chosen false x now d is has h =
        leaps c 13 (label Arm n) 1 (omega arith) (unless_is c now d.world n (label Arm n) x false has is) arm_is_found
        (goes c 12 1 (omega arith) refl
        (further {lo' = t} {hi' = n3 + widths rest} (omega arith) (omega arith) (kept_none t top_of now) (since_none c.level d.world) (λ v n p kept. p)
        (more n3 (omega (arith, less)) k now d h)))

  pub a_choice : (condition value : Expr) (rest : Args) → Alone condition → Branches value → (ty : Option Ty) → IfListed c.fixed.program.types ty → (how : Use)
      (site t : ℕ) →
      ChoiceFollows rest ty how site t → ChoiceFollows (ByValue condition (ByValue value rest)) ty how site t
  a_choice condition value rest tests gives ty listed how site t more n less k temps s h =
      let number = (node_of condition).number in
      let go : Value → Does Value = λ x. at_node number Decides (branch (is_true (number_of x)) (branch_of value) (first_value rest ty here)) in
      let lines_behind = L.Unless n (label Arm n) ∷ value_lines condition value rest gives ty listed how site t more n less k in
      after_both go (onward (handed_on here how site ty)) 14 (omega arith) (omega arith)
      (tests n lines_behind temps (with_trail (Point number Asks ∷ s.trail) s) h)
      (λ x b now comes kept since.
      further {lo' = t} {hi' = top_of condition value rest gives ty listed how site t more n less k} (omega arith) (omega arith)
      (kept_wide (omega (arith, less)) (omega arith) kept) since (λ v n p kept. p)
      (chosen condition value rest gives ty listed how site t more n less k (is_true (number_of x)) x now
      (with_trail (Point number Decides ∷ b.trail) b) refl comes
      (stands_since h since)))
