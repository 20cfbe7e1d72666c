-- Flat code follows `while`.
use Rattle.std.proofs.Common.{◌≡◌, ℕ, suc, ◌+◌, ◌*◌, ◌≤◌, Bool, true, false, List, ◌∷◌, Some, refl, sym, ap, ◌∙◌, subst, arith}
use Rattle.arc_base.specs.BigStep.{then_do, Turn as TurnOf, Again, Leave as LeaveLoop}
use Rattle.nim_types.specs.Types.{Ty, Facts}
use Rattle.nim_program.specs.declared.expr.Node.{Node}
use Rattle.nim_program.specs.declared.operation.Use.TheVariants.{Owned}
use Rattle.nim_program.specs.declared.program.Mode.{Mode}
use Rattle.nim_program.specs.Ints.{is_true}
use Rattle.nim_program.specs.Program.{Expr, Args, NoArg, ByValue, ByPath, While, Loop, Stmts}
use Rattle.nim_meaning.specs.Values.{Value, number_of}
use Rattle.nim_meaning.specs.State.{State}
use Rattle.nim_meaning.specs.ActTree.{Turns, Chooses}
use Rattle.nim_meaning.specs.Ways.{At as Point}
use Rattle.nim_meaning.specs.Acts.{Outcome, On, Does, branch, worked, left_with, with_trail, at_exit, costs, again, no_more, next, turn_of}
use Rattle.nim_meaning.specs.Here.{Here}
use Rattle.nim_meaning.specs.Waiting.{waiting}
use Rattle.nim_meaning.specs.Meaning.{ended_value, eval, exec_all, at_node, while_turn}
use Rattle.flat_code.specs.declared.line.Line.{Line}
use Rattle.flat_code.specs.declared.line.Line.TheVariants as L
use Rattle.flat_code.specs.Scene.{Temps}
use Rattle.flat_code.specs.Lines.{using, turns_where}
use Rattle.flattening.specs.declared.numbers.Purpose.TheVariants.{End, Next, Turn}
use Rattle.flattening.specs.Numbering.{widths, width_in, width_of, label}
use Rattle.flattening.specs.ExprLines.{lines, value_ends}
use Rattle.flattening.specs.StmtLines.{Exits, in_loop, lines_of}
use Rattle.flattening.specs.Flattened.{modes_of}
use Rattle.flattening.specs.Formed.{Scope, StmtFormed}
use Rattle.flattening.proofs.Runs.{M, Runs, walks_spared, pays, spares, lands, Turned}
use Rattle.flattening.proofs.Worlds.{Since, since_none, since_then}
use Rattle.flattening.proofs.Temps.{Kept, kept_none, kept_then, kept_wide}
use Rattle.flattening.proofs.Puts.{Puts, found, found_here, puts_line, puts_label, puts_wide, ◌>>◌}
use Rattle.flattening.proofs.PutsParts.{puts_expr}
use Rattle.flattening.proofs.PutsStmts.{puts_stmts}
use Rattle.flattening.proofs.Spots.{Spot, here_of, there, scene, At, both_falling, walks_line, goes, leaps, turns}
use Rattle.flattening.proofs.Standing.{grounded, Stands, stands_since}
use Rattle.flattening.proofs.Acting.{CallsFollow}
use Rattle.flattening.proofs.Exprs.{expr_follows}
use Rattle.flattening.proofs.Groups.{alone_follows, waits_listed}
use Rattle.flattening.proofs.Leaving.{puts_ends, Around, Reaches, Leads, leads_on, Looped, inner, spend_then, runs_loop, body_ends, loop_ends, stays}
use Rattle.flattening.proofs.Stmts.{IsListedResult, StmtFollows, BlockFollows}

module _ (c : Spot) (top : Bool) (room : ℕ → Type 0) (names : (proc place : ℕ) → Type 0) (calls : CallsFollow c names)
    (outermost : top ≡ true → c.level ≡ 0) (gives_listed : IsListedResult c.fixed.program.types c.result) where
  abbrev facts : Facts
  facts = c.fixed.program.facts

  abbrev types : List Ty
  types = c.fixed.program.types

  abbrev modes : (proc position : ℕ) → Mode
  modes = modes_of c.fixed.program c.fixed.plan

  abbrev here : Here
  here = here_of c

  module _ (node : Node) (condition : Expr) (rest : Args) (body : Stmts) (follows : BlockFollows c top room names calls outermost gives_listed body)
      (inside : Bool)
      (Open : Scope)
      (f : StmtFormed (grounded c top room names) inside Open (Loop node While (ByValue condition rest) body)) (exits : Exits)
      (around : Around c exits inside)
      (t : ℕ) (k : List Line) where
    abbrev head : Args
    head = ByValue condition rest

    -- with its temporaries
    abbrev test : Does Value
    test = ended_value here condition Owned (eval condition Owned here)

    abbrev n : ℕ
    n = suc t + widths head

    abbrev hi : ℕ
    hi = t + width_in (Loop node While head body)

    abbrev ending : List Line
    ending = L.Label (label End t) ∷ k

    abbrev turning : List Line
    turning = L.TurnIf (suc t) (label Turn t) ∷ ending

    abbrev tested : List Line
    tested =
        L.Label (label Next t) ∷ lines types facts modes condition Owned (suc t) (value_ends types facts modes condition Owned turning)

    abbrev bodied : List Line
    bodied = lines_of types facts modes c.result body (in_loop exits t) n tested

    abbrev turn_lines : List Line
    turn_lines = L.Label (label Turn t) ∷ bodied

    abbrev around_body : Around c (in_loop exits t) true
    around_body = inner around t ending tested

    puts_tested : Puts (4 * t + 2) (4 * n) (λ k. L.Label (label Next t)
        ∷ lines types facts modes condition Owned (suc t) (value_ends types facts modes condition Owned (L.TurnIf (suc t) (label Turn t) ∷ k)))
    puts_tested =
        puts_label (label Next t) (omega arith) (omega arith)
        >> (puts_wide (omega arith) (omega arith) (puts_expr types facts modes condition Owned (suc t))
        >> (puts_ends c (waiting facts modes condition Owned) _ _ >> puts_line (L.TurnIf (suc t) (label Turn t)) refl))

    end_is_found : found (label End t) tested ≡ Some ending
    end_is_found = puts_tested.skips (label End t) ending (λ le. absurd (omega (arith, le))) ∙ found_here (label End t) k

    body_reaches : Reaches around_body n tested
    body_reaches = record {
      breaks = λ is. end_is_found;
      continues = λ is. found_here (label Next t) _;
      break_before = λ is. omega arith;
      continue_before = λ is. omega arith;
    }

    module _ (l : Leads c t (L.Jump (label Next t) ∷ turn_lines)) (temps : Temps) (s : State) (h : Stands c room Open s.world) where
      body_leads : Leads c n bodied
      body_leads =
          leads_on {lo = 0} {hi = 4 * n} (omega arith) (omega arith)
          (puts_line (L.Jump (label Next t)) refl >> puts_label (label Turn t) (omega arith) (omega arith)) l

      turn_is_found : found (label Turn t) c.whole ≡ Some turn_lines
      turn_is_found = l.all (label Turn t) (omega arith) ∙ found_here (label Turn t) bodied

      -- before each test
      abbrev Inv : Unit {0} → State → M → Type 0
      Inv u b m = At c tested t hi temps s.world (λ now. Unit {0}) b.world m

      abbrev Ends : Outcome (Unit {0}) → State → M → Type 0
      Ends = Looped c around ending t hi temps s.world

      chosen : (b : Bool) (u : ℕ) (x : Value) (now : Temps) (d : State) → is_true (number_of x) ≡ b → now.values (suc t) ≡ Some x → d.meter.units ≤ u →
          Kept t hi temps now → Since c.level s.world d.world →
          Runs c.fixed (Turned Inv Ends u) 7 6 (there c turning now d.world) d.meter
          (then_do (branch {A = Does (TurnOf (Unit {0}) (Unit {0}))} b (again (exec_all body here) tt) no_more d) turn_of)
      chosen true u x now d is has few kept since =
          subst (λ r. Runs c.fixed (Turned Inv Ends u) 7 6 (there c turning now d.world) d.meter r)
          (sym (spend_then d.meter.units d (λ n. costs 1 (at_exit (exec_all body here) (next tt)) (left_with n d)) turn_of))
          (turns c 18 (label Turn t) d (omega arith)
          (ap (λ o. using o (λ v. turns_where (scene c now d.world) (is_true (number_of v)) now (label Turn t))) has
          ∙ ap (λ b. turns_where (scene c now d.world) b now (label Turn t)) is) turn_is_found
          (λ m e.
          goes c 17 1 (omega arith) refl
          (body_ends c around t ending tested t hi temps s.world Inv {q = 17} 16 tt u (omega arith) (omega arith) (omega (arith, e, few)) (omega arith)
          (omega arith) kept since
          (spares 0 0 (omega arith) (omega arith)
          (follows true Open f.3 (in_loop exits t) around_body n tested body_reaches body_leads now (worked 1 (left_with m d)) (stands_since h since)))
          (λ b last fewer kept2 since2.
          lands (Again tt) b (omega arith) (
            record {
              now = last;
              is = refl;
              has = tt;
              kept = kept_then kept (kept_wide (omega arith) (omega arith) kept2);
              since = since_then since since2;
            },
            fewer,
          )))))
      chosen false u x now d is has few kept since =
          let falls = walks_line c 1 d.meter
          (ap (λ o. using o (λ v. turns_where (scene c now d.world) (is_true (number_of v)) now (label Turn t))) has
          ∙ ap (λ b. turns_where (scene c now d.world) b now (label Turn t)) is) in
          lands (LeaveLoop (On tt)) d (omega arith) (record { now = now; walks = walks_spared (omega arith) falls; kept = kept; since = since })

      a_turn : (u : Unit {0}) (b : State) (m : M) → Inv u b m →
          Runs c.fixed (Turned Inv Ends b.meter.units) 6 6 m b.meter
          (then_do (while_turn node.number test (exec_all body here) u b) turn_of)
      a_turn u b m i =
          let go : Value → Does (TurnOf (Unit {0}) (Unit {0})) =
          λ x. at_node node.number Chooses (branch (is_true (number_of x)) (again (exec_all body here) tt) no_more) in
          subst (λ m. Runs c.fixed (Turned Inv Ends b.meter.units) 6 6 m b.meter
          (then_do (while_turn node.number test (exec_all body here) u b) turn_of))
          (sym i.is)
          (goes c 5 1 (omega arith) refl
          (both_falling go turn_of 7 (omega arith) (omega arith)
          (alone_follows c top room names Open condition Owned (waits_listed c top room names Open condition Owned f.1.0)
          (expr_follows c top room names Open calls condition f.1.0) (suc t) turning i.now (with_trail (Point node.number Turns ∷ b.trail) b)
          (stands_since h i.since))
          (λ x d now falls comes kept since.
          chosen (is_true (number_of x)) b.meter.units x now (with_trail (Point node.number Chooses ∷ d.trail) d) refl comes falls
          (kept_then i.kept (kept_wide (omega arith) (omega arith) kept)) (since_then i.since since))))

  pub whiles : (node : Node) (head : Args) (body : Stmts) → BlockFollows c top room names calls outermost gives_listed body →
      StmtFollows c top room names calls outermost gives_listed (Loop node While head body)
  whiles node NoArg body follows inside Open f exits around t k r l temps s h = absurd f.0
  whiles node (ByPath path rest) body follows inside Open f exits around t k r l temps s h = absurd f.0
  whiles node (ByValue condition rest) body follows inside Open f exits around t k r l temps s h =
      let K = ending node condition rest body follows inside Open f exits around t k in
      let test_lines = tested node condition rest body follows inside Open f exits around t k in
      let top_of = hi node condition rest body follows inside Open f exits around t k in
      let invariant = Inv node condition rest body follows inside Open f exits around t k l temps s h in
      let next_is =
      (puts_label {lo = 4 * t + 3} {hi = 4 * (n node condition rest body follows inside Open f exits around t k + width_of body)} (label Turn t)
      (omega arith) (omega arith)
      >> puts_wide (omega arith) (omega arith) (puts_stmts types facts modes c.result body (in_loop exits t)
      (n node condition rest body follows inside Open f exits around t k)
      (around_body node condition rest body follows inside Open f exits around t k).puts)).skips (label Next t) test_lines (λ le. absurd (omega (arith, le)))
      ∙ found_here (label Next t) _ in
      pays 12 1 (omega arith)
      (leaps c 11 (label Next t) 1 (omega arith) refl next_is
      (loop_ends c around t K test_lines t top_of temps s.world invariant {q = 6} {Q = 0} (omega arith)
      (spares 6 6 (omega arith) (omega arith)
      (runs_loop c around t K test_lines t top_of temps s.world invariant 6
      (while_turn node.number (ended_value here condition Owned (eval condition Owned here)) (exec_all body here))
      (a_turn node condition rest body follows inside Open f exits around t k l temps s h) tt (worked 1 s) _
      (record { now = temps; is = refl; has = tt; kept = kept_none t top_of temps; since = since_none c.level s.world })))
      (λ b last kept since. goes c 0 1 (omega arith) refl (stays c around b last (omega arith) kept since))))
