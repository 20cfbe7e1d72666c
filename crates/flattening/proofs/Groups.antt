-- Values with the temporaries that end with them, and operands that an operation takes.
use Rattle.std.proofs.Common.{◌≡◌, ℕ, suc, ◌+◌, Bool, true, false, List, [], ◌∷◌, ◌++◌, length, Option, Some, None, refl, ap, arith}
use Rattle.std.specs.Prelude.{◌&&◌, if◌then◌else◌}
use Rattle.nim_types.specs.Types.{Ty, Facts}
use Rattle.nim_types.specs.Forms.{form_of}
use Rattle.nim_program.specs.declared.operation.Use.{Use}
use Rattle.nim_program.specs.declared.operation.Use.TheVariants.{Owned, Held, Looked}
use Rattle.nim_program.specs.declared.program.Mode.{Mode}
use Rattle.nim_program.specs.Folds.{by_constant}
use Rattle.nim_program.specs.Uses.{use_of}
use Rattle.nim_program.specs.Program.{Literal, Act, Doing, Building, Giving, Calling, ByConditions, ByLabels, Expr, Apply, Read, Early, Choose}
use Rattle.nim_program.specs.Program.{Path, Variable, Fresh, Field, Element, Deref, Args, NoArg, ByValue, ByPath, node_of, node_at, type_of, type_at}
use Rattle.nim_program.specs.Program.{constant_in}
use Rattle.nim_meaning.specs.Values.{Value}
use Rattle.nim_meaning.specs.State.{State}
use Rattle.nim_meaning.specs.Shapes.{is_read, waits, waits_from}
use Rattle.nim_meaning.specs.Acts.{Outcome, Does, give}
use Rattle.nim_meaning.specs.Deeds.{Leaves, changed}
use Rattle.nim_meaning.specs.Here.{Here, gives_hooked, form_for}
use Rattle.nim_meaning.specs.Waiting.{Wait, wait_if, own_wait, reads_kept, held_if, waiting, waiting_at, waiting_all, waiting_first}
use Rattle.nim_meaning.specs.Meaning.{eval, ended_value, taking_up, branch_by, branch_value}
use Rattle.flat_code.specs.declared.line.Line.{Line}
use Rattle.flat_code.specs.Scene.{Temps}
use Rattle.flattening.specs.Numbering.{width}
use Rattle.flattening.specs.ExprLines.{lines, end_lines, taken_lines, branch_use, branch_ends, value_ends}
use Rattle.flattening.specs.Flattened.{modes_of}
use Rattle.flattening.specs.Formed.{Scope, IfListed, HasListed, ActFormed, Formed, PathFormed, AllFormed}
use Rattle.flattening.proofs.Runs.{M, Runs, spares}
use Rattle.flattening.proofs.Worlds.{Since, since_none, since_then, since_changed}
use Rattle.flattening.proofs.Spots.{Spot, here_of, there, Lands, after, answers, goes}
use Rattle.flattening.proofs.Standing.{grounded, Stands}
use Rattle.flattening.proofs.Endings.{AreListedWaits, ended_follows}

-- a value is in a temporary
abbrev pub Has : (t : ℕ) → Value → Temps → Type 0
Has t v now = now.values t ≡ Some v

module _ (c : Spot) (top : Bool) (room : ℕ → Type 0) (names : (proc place : ℕ) → Type 0) (Open : Scope) where
  abbrev facts : Facts
  facts = c.fixed.program.facts

  abbrev types : List Ty
  types = c.fixed.program.types

  abbrev modes : (proc position : ℕ) → Mode
  modes = modes_of c.fixed.program c.fixed.plan

  abbrev here : Here
  here = here_of c

  -- ---- what is taken up

  -- before an act, each for a work
  pub taken_follows : {A : Type 0} {Good : Outcome A → State → M → Type 0} {p q : ℕ} (nodes : List ℕ) (k : List Line) (temps : Temps) (act : Does A)
      (s : State) → ((b : State) → Since c.level s.world b.world → Runs c.fixed Good p q (there c k temps b.world) b.meter (act b)) →
      Runs c.fixed Good (length nodes + p) q (there c (taken_lines nodes k) temps s.world) s.meter (taking_up here nodes act s)
  taken_follows {p = p} {q = q} [] k temps act s more = spares p q (omega arith) (omega arith) (more s (since_none c.level s.world))
  taken_follows {p = p} (node ∷ nodes) k temps act s more =
      let b : State = record s { world = changed (Leaves c.level node) s.world } in
      let since = since_changed c.level (Leaves c.level node) s.world in
      goes c (length nodes + p) 1 (omega arith) refl
      (taken_follows nodes k temps act b (λ d since2. more d (since_then since since2)))

  -- ---- what is shown of a value

  abbrev pub ExprFollows : Expr → Type 0
  ExprFollows e = (how : Use) (t : ℕ) (k : List Line) (temps : Temps) (s : State) → Stands c room Open s.world →
      Runs c.fixed (Lands c k t (t + width e) temps s.world (Has t)) 0 2 (there c (lines types facts modes e how t k) temps s.world) s.meter (eval e how here s)

  -- with its temporaries
  abbrev pub AloneFollows : Expr → Use → Type 0
  AloneFollows e how = (t : ℕ) (k : List Line) (temps : Temps) (s : State) → Stands c room Open s.world →
      Runs c.fixed (Lands c k t (t + width e) temps s.world (Has t)) 0 2
      (there c (lines types facts modes e how t (value_ends types facts modes e how k)) temps s.world) s.meter (ended_value here e how (eval e how here) s)

  -- that of a branch: one with hooks waits meanwhile, and is taken up
  abbrev pub BranchFollows : Expr → Type 0
  BranchFollows e = (t : ℕ) (k : List Line) (temps : Temps) (s : State) → Stands c room Open s.world →
      Runs c.fixed (Lands c k t (t + width e) temps s.world (Has t)) 0 1
      (there c (lines types facts modes e (branch_use types facts modes e) t (branch_ends types facts modes e k)) temps s.world) s.meter
      (branch_value here e (λ how. eval e how here) s)

  pub alone_follows : (e : Expr) (how : Use) → AreListedWaits c (waiting facts modes e how) → ExprFollows e → AloneFollows e how
  alone_follows e how listed follows t k temps s h =
      ended_follows c (waiting facts modes e how) listed (eval e how here) s (follows how t (value_ends types facts modes e how k) temps s h)

  pub branch_follows : (e : Expr) → AreListedWaits c (waiting facts modes e Owned) → ExprFollows e → BranchFollows e
  branch_follows e listed follows t k temps s h = on (gives_hooked facts (type_of e))
    where
      on : (b : Bool) → Runs c.fixed (Lands c k t (t + width e) temps s.world (Has t)) 0 1
          (there c (lines types facts modes e (if b then Held else Owned) t
          (end_lines types (waiting facts modes e Owned) (taken_lines (held_if b (node_of e).number []) k))) temps s.world) s.meter
          (branch_by b here e (λ how. eval e how here) s)
      on true =
          let n = (node_of e).number in
          after 2 (omega arith) (omega arith)
          (ended_follows c (waiting facts modes e Owned) listed (eval e Held here) s
          (follows Held t (end_lines types (waiting facts modes e Owned) (taken_lines (n ∷ []) k)) temps s h))
          (λ v b now has kept since.
          taken_follows {p = 1} (n ∷ []) k now (give v) b (λ d since2. answers v d now (omega arith) has kept (since_then since since2)))
      on false =
          spares 0 2 (omega arith) (omega arith)
          (ended_follows c (waiting facts modes e Owned) listed (eval e Owned here) s
          (follows Owned t (end_lines types (waiting facts modes e Owned) k) temps s h))

  -- ---- the types of what waits

  own_listed : (waits : Bool) (node : ℕ) (ty : Option Ty) → IfListed types ty → AreListedWaits c (own_wait facts modes waits node ty)
  own_listed waits node None listed = tt
  own_listed waits node (Some ty) listed = on (gives_hooked facts (Some ty) && waits)
    where
      on : (b : Bool) → AreListedWaits c (wait_if b node (Some ty) (form_for facts (Some ty)))
      on true = (ap (λ ty. form_of facts ty) listed, tt)
      on false = tt

  both_listed : (ws vs : List Wait) → AreListedWaits c ws → AreListedWaits c vs → AreListedWaits c (ws ++ vs)
  both_listed [] vs f h = h
  both_listed (w ∷ ws) vs f h = (f.0, both_listed ws vs f.1 h)

  if_listed : (ty : Option Ty) → HasListed types ty → IfListed types ty
  if_listed None f = absurd f
  if_listed (Some ty) f = f

  act_listed : (act : Act) (ty : Option Ty) (operands : Args) → ActFormed (grounded c top room names) Open ty act operands → IfListed types ty
  act_listed (Doing operation) ty operands f = f.0
  act_listed (Building fields) ty operands f = if_listed ty f
  act_listed (Giving literal) ty operands f = if_listed ty f
  act_listed (Calling proc of_params) ty operands f = f.0

  by_constant_listed : (constant : Option Literal) (ws : List Wait) → AreListedWaits c ws → AreListedWaits c (by_constant constant (λ literal. []) ws)
  by_constant_listed None ws f = f
  by_constant_listed (Some literal) ws f = tt

  mutual
    pub waits_listed : (e : Expr) (how : Use) → Formed (grounded c top room names) Open e → AreListedWaits c (waiting facts modes e how)
    waits_listed (Apply node ty act operands) how f =
        both_listed (waiting_all facts modes operands (use_of modes act) 0) _ (waits_listed_all operands (use_of modes act) 0 f.1)
        (own_listed (waits_from act how) node.number ty (act_listed act ty operands f.0))
    waits_listed (Read path) how f =
        both_listed (waiting_at facts modes path) _ (waits_listed_at path f.1)
        (own_listed (is_read (Read path) && reads_kept how) (node_at path).number (type_at path) f.0)
    waits_listed (Early node ty short left right) how f =
        both_listed (waiting facts modes left Owned) (waiting facts modes right Owned) (waits_listed left Owned f.0) (waits_listed right Owned f.1)
    waits_listed (Choose node ty ByConditions parts) how f = own_listed (waits how) node.number ty f.0
    waits_listed (Choose node ty (ByLabels labels) parts) how f =
        both_listed (waiting_first facts modes parts) _ (waits_listed_first parts f.2) (own_listed (waits how) node.number ty f.0)

    pub waits_listed_at : (path : Path) → PathFormed (grounded c top room names) Open path → AreListedWaits c (waiting_at facts modes path)
    waits_listed_at (Variable node ty place global) f = tt
    waits_listed_at (Fresh value) f = by_constant_listed (constant_in value) (waiting facts modes value Looked) (waits_listed value Looked f)
    waits_listed_at (Field node ty base field) f = waits_listed_at base f
    waits_listed_at (Element node ty base index constant) f =
        both_listed (waiting_at facts modes base) (waiting facts modes index Owned) (waits_listed_at base f.0) (waits_listed index Owned f.1)
    waits_listed_at (Deref ty base) f = waits_listed_at base f

    pub waits_listed_all : (args : Args) (uses : ℕ → Use) (i : ℕ) → AllFormed (grounded c top room names) Open args →
        AreListedWaits c (waiting_all facts modes args uses i)
    waits_listed_all NoArg uses i f = tt
    waits_listed_all (ByValue value rest) uses i f =
        both_listed (waiting facts modes value (uses i)) (waiting_all facts modes rest uses (suc i)) (waits_listed value (uses i) f.0)
        (waits_listed_all rest uses (suc i) f.1)
    waits_listed_all (ByPath path rest) uses i f =
        both_listed (waiting_at facts modes path) (waiting_all facts modes rest uses (suc i)) (waits_listed_at path f.0)
        (waits_listed_all rest uses (suc i) f.1)

    pub waits_listed_first : (args : Args) → AllFormed (grounded c top room names) Open args → AreListedWaits c (waiting_first facts modes args)
    waits_listed_first NoArg f = tt
    waits_listed_first (ByValue value rest) f = waits_listed value Looked f.0
    waits_listed_first (ByPath path rest) f = waits_listed_at path f.0
