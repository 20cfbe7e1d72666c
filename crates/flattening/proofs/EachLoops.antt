-- Flat code follows `for` over elements.
use Rattle.std.proofs.Common.{◌≡◌, ℕ, suc, ◌+◌, Bool, true, List, [], ◌∷◌, refl, sym, ap, ◌∙◌, subst, arith}
use Rattle.std.specs.Prelude.{pos}
use Rattle.arc_base.specs.BigStep.{Turn as TurnOf, then_do}
use Rattle.nim_types.specs.Types.{Ty, Facts}
use Rattle.nim_program.specs.declared.expr.Node.{Node}
use Rattle.nim_program.specs.declared.operation.Use.TheVariants.{Owned}
use Rattle.nim_program.specs.declared.program.Mode.{Mode}
use Rattle.nim_program.specs.Program.{Building, Args, NoArg, ByValue, ByPath, Declared, Each, Loop, Stmts, last_of}
use Rattle.nim_meaning.specs.Values.{Number, length_of, Location}
use Rattle.nim_meaning.specs.State.{State, load, is_seen}
use Rattle.nim_meaning.specs.ActTree.{Begins, Looks as Looks_up}
use Rattle.nim_meaning.specs.Ways.{At as Point}
use Rattle.nim_meaning.specs.Acts.{Does, worked, with_trail}
use Rattle.nim_meaning.specs.Acts.{loop, onward}
use Rattle.nim_meaning.specs.Acts as acting
use Rattle.nim_meaning.specs.Deeds.{carry, behind as later_done, perform, ◌>>=◌}
use Rattle.nim_meaning.specs.Deeds as deeds
use Rattle.nim_meaning.specs.Here.{Here}
use Rattle.nim_meaning.specs.Waiting.{waiting_all}
use Rattle.nim_meaning.specs.Meaning.{head_values, is_fresh, exec_all, at_node, each_turn, ready_aim}
use Rattle.nim_meaning.specs.Aims.{Aim, find}
use Rattle.nim_meaning.specs.Places.{length_at}
use Rattle.flat_code.specs.Scene.{with_value, location_at, Passes}
use Rattle.flat_code.specs.Lines.{using}
use Rattle.flat_code.specs.Lines as does
use Rattle.flattening.specs.declared.numbers.Purpose.TheVariants.{Arm}
use Rattle.flattening.specs.Numbering.{label}
use Rattle.flattening.specs.ExprLines.{find_lines}
use Rattle.flattening.specs.Flattened.{modes_of}
use Rattle.flattening.proofs.Runs.{Runs, pays, spares, unless_wrong}
use Rattle.flattening.proofs.Worlds.{since_then}
use Rattle.flattening.proofs.Temps.{kept_then, kept_wide, kept_value, put_same, put_other}
use Rattle.flattening.proofs.Spots.{Spot, here_of, there, scene, after, goes, leaps}
use Rattle.flattening.proofs.Standing.{stands_since}
use Rattle.flattening.proofs.Acting.{CallsFollow}
use Rattle.flattening.proofs.Paths.{leads_now, aims_kept, find_follows}
use Rattle.flattening.proofs.Exprs.{args_follow}
use Rattle.flattening.proofs.Leaving.{Left}
use Rattle.flattening.proofs.Leaving.{runs_loop, loop_ends, stays, group_leaves}
use Rattle.flattening.proofs.Groups.{waits_listed_all}
use Rattle.flattening.proofs.Stmts.{IsListedResult, StmtFollows, BlockFollows}
use Rattle.flattening.proofs.Widths.{same_width}
use Rattle.flattening.proofs.EachTurns.{hi, heads_end, around_head, ending, arm, next_lines, counting, arm_is_found, EachAt, a_turn}

module _ (c : Spot) (top : Bool) (room : ℕ → Type 0) (names : (proc place : ℕ) → Type 0) (calls : CallsFollow c names)
    (outermost : top ≡ true → c.level ≡ 0) (gives_listed : IsListedResult c.fixed.program.types c.result) where
  abbrev facts : Facts
  facts = c.fixed.program.facts

  abbrev types : List Ty
  types = c.fixed.program.types

  abbrev modes : (proc position : ℕ) → Mode
  modes = modes_of c.fixed.program c.fixed.plan

  abbrev here : Here
  here = here_of c

  pub eaches : (node : Node) (place : Declared) (head : Args) (body : Stmts) → BlockFollows c top room names calls outermost gives_listed body →
      StmtFollows c top room names calls outermost gives_listed (Loop node (Each place) head body)
  eaches node place NoArg body follows inside Open f exits around t k r l temps s h = absurd f.0
  eaches node place (ByValue value rest) body follows inside Open f exits around t k r l temps s h = absurd f.0
  eaches node place (ByPath path rest) body follows inside Open f exits around t k r l temps s h =
      let w = same_width path in
      let u = suc t + 2 in
      let counter = suc t in
      let many = suc (suc t) in
      let K = ending c top room names calls outermost gives_listed node place path rest body follows inside Open f exits around t k in
      let lines_next = next_lines c top room names calls outermost gives_listed node place path rest body follows inside Open f exits around t k in
      let counts = counting c top room names calls outermost gives_listed node place path rest body follows inside Open f exits around t k in
      let arm_lines = arm c top room names calls outermost gives_listed node place path rest body follows inside Open f exits around t k in
      let top_of = hi c top room names calls outermost gives_listed node place path rest body follows inside Open f exits around t k in
      let all_ends = heads_end c top room names calls outermost gives_listed node place path rest body follows inside Open f exits around t k in
      let around1 = around_head c top room names calls outermost gives_listed node place path rest body follows inside Open f exits around t k in
      let head1 : Args = ByPath path rest in
      let turn : Aim → ℕ → ℕ → Does (TurnOf ℕ (Unit {0})) =
      λ aim len. each_turn node.number here place (is_fresh head1) (last_of body) (exec_all body here) aim len in
      let turns : Aim → ℕ → Does (Unit {0}) = λ aim len. loop (turn aim len) 0 in
      let loops : Aim → Location → Does (Unit {0}) = λ aim location. acting.◌>>=◌ (carry (length_at location)) (turns aim) in
      let finds : Aim → Does (Unit {0}) = λ aim. acting.◌>>=◌ (at_node node.number Looks_up (find aim)) (loops aim) in
      let s1 : State = with_trail (Point node.number Begins ∷ s.trail) (worked 1 s) in
      pays 12 1 (omega arith)
      (group_leaves c around (waiting_all facts modes head1 (λ i. Owned) 0) (waits_listed_all c top room names Open head1 (λ i. Owned) 0 f.1)
      (acting.◌>>=◌ (head_values head1 here) (λ ready. finds (ready_aim ready))) s1
      (after 12 (omega arith) (omega arith)
      (args_follow c top room names Open calls (Building []) head1 f.1 (λ i. Owned) 0 u (find_lines types facts path u counts) temps s1 h)
      (λ ready b now ready_is kept since.
      let aim = ready_is.0 in
      subst (λ ready. Runs c.fixed (Left c around1 (all_ends k) t top_of temps s.world) 12 0
      (there c (find_lines types facts path u counts) now b.world) b.meter
      (finds (ready_aim ready) b)) (sym ready_is.2)
      (after 12 (omega arith) (omega arith)
      (find_follows c top room names Open path f.1.0 u counts now aim ready_is.3 (with_trail (Point node.number Looks_up ∷ b.trail) b) (stands_since h since))
      (λ location d last looked kept2 since2.
      let len = length_of (load d.world location) in
      let xs = scene c last d.world in
      let with_len = with_value many last (Number (pos len)) in
      let with_both = with_value counter with_len (Number (pos 0)) in
      let invariant = EachAt c top room names calls outermost gives_listed node place path rest body follows inside Open f exits around t k l temps s.world h
      aim len in
      unless_wrong (is_seen d.world location) (λ b. then_do (carry (deeds.unless_gone b (deeds.give len)) d) (onward (turns aim))) d refl
      (λ seen.
      goes c 11 1 (omega arith)
      (ap (λ o. using o (λ place. does.gives xs many (deeds.costs 1 (length_at (location_at last place) >>= (λ n. deeds.give (Number (pos n)))))))
      looked.leads.is
      ∙ (ap (λ l. does.gives xs many (deeds.costs 1 (length_at l >>= (λ n. deeds.give (Number (pos n)))))) (leads_now looked.leads)
      ∙ ap (λ b. Passes (later_done [] 1 (perform ((deeds.unless_gone b (deeds.give len) >>= (λ n. deeds.give (Number (pos n))))
      >>= (λ v. deeds.give (with_value many last v))) d.world))) seen))
      (goes c 10 1 (omega arith) refl
      (leaps c 9 (label Arm t) 1 (omega arith) refl
      (arm_is_found c top room names calls outermost gives_listed node place path rest body follows inside Open f exits around t k)
      (loop_ends c around1 t K lines_next t top_of temps s.world invariant {q = 6} {Q = 0} (omega arith)
      (spares 6 6 (omega arith) (omega arith)
      (runs_loop c around1 t K lines_next t top_of temps s.world invariant 6 (turn aim len)
      (a_turn c top room names calls outermost gives_listed node place path rest body follows inside Open f exits around t k l temps s.world h aim len) 0 d
      (there c arm_lines with_both d.world)
      (record {
        now = with_both;
        is = refl;
        holds = record {
          counts = put_same with_len.values counter (Number (pos 0));
          long = put_other with_len.values counter (Number (pos 0)) many (λ h. absurd (omega (arith, h))) ∙ put_same last.values many (Number (pos len));
          aims = aims_kept c top room names Open path u aim now with_both
              (λ j le less. put_other with_len.values counter (Number (pos 0)) j (λ h. absurd (omega (arith, h, le)))
              ∙ (put_other last.values many (Number (pos len)) j (λ h. absurd (omega (arith, h, le))) ∙ looked.values j)) ready_is.3;
          kept = kept_value counter (Number (pos 0)) (omega arith) (omega arith) (kept_value many (Number (pos len)) (omega arith) (omega arith)
              (kept_then (kept_wide (omega arith) (omega arith) kept) (kept_wide (omega arith) (omega (arith, w)) kept2)));
        };
        since = since_then since since2;
      })))
      (λ b last kept since. goes c 0 1 (omega arith) refl (stays c around1 b last (omega arith) kept since)))))))))))
