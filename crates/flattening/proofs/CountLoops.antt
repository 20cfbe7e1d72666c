-- Flat code follows `for` over ints.
use Rattle.std.proofs.Common.{◌≡◌, ℕ, suc, ◌+◌, ◌*◌, ◌<◌, ◌⊎◌, inl, inr, Bool, true, false, List, [], ◌∷◌, Some, refl, sym, ap, ◌∙◌, subst, arith}
use Rattle.std.specs.Prelude.{◌&&◌, if◌then◌else◌, ℤ, pos, ◌+ℤ◌, int_lt}
use Rattle.arc_base.specs.BigStep.{then_do, Turn as TurnOf, Again, Leave as LeaveLoop}
use Rattle.nim_types.specs.Types.{Ty, Facts}
use Rattle.nim_program.specs.declared.expr.Node.{Node}
use Rattle.nim_program.specs.declared.operation.Use.TheVariants.{Owned}
use Rattle.nim_program.specs.declared.program.Mode.{Mode}
use Rattle.nim_program.specs.Program.{Act, Building, Expr, Args, NoArg, ByValue, ByPath, Declared, Count, Loop, Stmts, last_of}
use Rattle.nim_meaning.specs.Values.{Value, Number, number_of, Holds, Given}
use Rattle.nim_meaning.specs.State.{World, State}
use Rattle.nim_meaning.specs.ActTree.{Turns, Chooses, Fills, Begins}
use Rattle.nim_meaning.specs.Ways.{At as Point}
use Rattle.nim_meaning.specs.Acts.{Outcome, On, Does, branch, worked, left_with, with_trail, at_exit, costs, loop, again, no_more, next, turn_of}
use Rattle.nim_meaning.specs.Acts as acting
use Rattle.nim_meaning.specs.Deeds.{Opens, changed}
use Rattle.nim_meaning.specs.Deeds as deeds
use Rattle.nim_meaning.specs.Here.{Here}
use Rattle.nim_meaning.specs.Waiting.{Wait, waiting_all}
use Rattle.nim_meaning.specs.Meaning.{head_values, exec_all, fill, scoped, at_node, limit, count_turn, ready_operand, ready_rest}
use Rattle.nim_meaning.specs.Aims.{Ready, Evaluated}
use Rattle.flat_code.specs.declared.line.From.TheVariants as F
use Rattle.flat_code.specs.declared.line.Line.{Line}
use Rattle.flat_code.specs.declared.line.Line.TheVariants as L
use Rattle.flat_code.specs.Scene.{Temps, with_value, Did, Leaps}
use Rattle.flat_code.specs.Lines.{using, using_number, turns_where}
use Rattle.flat_code.specs.Lines as does
use Rattle.flattening.specs.declared.numbers.Purpose.TheVariants.{End, Next, Turn}
use Rattle.flattening.specs.Numbering.{width, widths, width_in, width_of, label}
use Rattle.flattening.specs.ExprLines.{has_hooks, from_of, ready_lines}
use Rattle.flattening.specs.StmtLines.{Exits, ending as exits_ending, in_loop, in_scope, place_end, head_ends, lines_of}
use Rattle.flattening.specs.Flattened.{modes_of}
use Rattle.flattening.specs.Formed.{Scope, With, StmtFormed}
use Rattle.flattening.proofs.Runs.{M, Runs, walks_spared, pays, spares, lands, Turned}
use Rattle.flattening.proofs.Worlds.{Since, since_then, since_slot}
use Rattle.flattening.proofs.Temps.{Kept, kept_then, kept_wide, kept_value, put_same, put_other, value_before}
use Rattle.flattening.proofs.Puts.{Puts, found, found_here, puts_line, puts_label, puts_wide, ◌>>◌}
use Rattle.flattening.proofs.PutsStmts.{puts_ready}
use Rattle.flattening.proofs.PutsStmts.{puts_stmts}
use Rattle.flattening.proofs.Spots.{Spot, here_of, there, scene, does_at, after, walks_line, walks_leap, goes, turns, enters}
use Rattle.flattening.proofs.Standing.{grounded, Stands, stands_since}
use Rattle.flattening.proofs.Acting.{CallsFollow}
use Rattle.flattening.proofs.Exprs.{args_follow}
use Rattle.flattening.proofs.Leaving.{Around, Reaches, Leads, leads_on, Left, Looped, inner}
use Rattle.flattening.proofs.Leaving.{spend_then, runs_loop, body_ends, loop_ends, stays, around_end, puts_ends, puts_place_end, scope_leaves, group_leaves}
use Rattle.flattening.proofs.Opened.{stands_with}
use Rattle.flattening.proofs.Scopes.{reaches_ended}
use Rattle.flattening.proofs.Groups.{waits_listed_all}
use Rattle.flattening.proofs.Operands.{IsAt}
use Rattle.flattening.proofs.Stmts.{IsListedResult, StmtFollows, BlockFollows}
use Rattle.flattening.proofs.Widths.{some_width}

-- the value of an operand of one's own is in its temporary
pub owned_from : (facts : Facts) (act : Act) (value : Expr) (t : ℕ) → from_of facts act Owned value t ≡ F.Value t
owned_from facts act value t = on (has_hooks facts value)
  where
    on : (b : Bool) → (if b && false then F.Place (suc t) else if b && false then F.Place t else F.Value t) ≡ F.Value t
    on true = refl
    on false = refl

module _ (c : Spot) (top : Bool) (room : ℕ → Type 0) (names : (proc place : ℕ) → Type 0) (calls : CallsFollow c names)
    (outermost : top ≡ true → c.level ≡ 0) (gives_listed : IsListedResult c.fixed.program.types c.result) where
  abbrev facts : Facts
  facts = c.fixed.program.facts

  abbrev types : List Ty
  types = c.fixed.program.types

  abbrev modes : (proc position : ℕ) → Mode
  modes = modes_of c.fixed.program c.fixed.plan

  abbrev here : Here
  here = here_of c

  -- ---- the lines that test a number

  pub beyond_is : (temps : Temps) (world : World) (counter last : ℕ) (inclusive : Bool) (name : ℕ) (v w : Value) (b : Bool) → temps.values counter ≡ Some v →
      temps.values last ≡ Some w → int_lt (number_of v) (limit inclusive (number_of w)) ≡ b →
      does_at c temps world (L.Beyond counter last inclusive name)
      ≡ branch b (does.gives (scene c temps world) counter (deeds.costs 1 (deeds.give (Number (number_of v))))) (Leaps name 1)
  beyond_is temps world counter last inclusive name v w b at end is =
      let go : ℤ → ℤ → Did =
      λ i n. branch (int_lt i (limit inclusive n)) (does.gives (scene c temps world) counter (deeds.costs 1 (deeds.give (Number i)))) (Leaps name 1) in
      ap (λ o. using o (λ v. using_number temps last (λ n. go (number_of v) n))) at
      ∙ (ap (λ o. using o (λ w. go (number_of v) (number_of w))) end
      ∙ ap (λ b. branch b (does.gives (scene c temps world) counter (deeds.costs 1 (deeds.give (Number (number_of v))))) (Leaps name 1)) is)

  counts_is : (temps : Temps) (world : World) (counter last : ℕ) (inclusive : Bool) (name : ℕ) (v w : Value) (b : Bool) → temps.values counter ≡ Some v →
      temps.values last ≡ Some w → int_lt (number_of v +ℤ pos 1) (limit inclusive (number_of w)) ≡ b →
      does_at c temps world (L.CountTurn counter last inclusive name)
      ≡ turns_where (scene c temps world) b (with_value counter temps (Number (number_of v +ℤ pos 1))) name
  counts_is temps world counter last inclusive name v w b at end is =
      let go : ℤ → ℤ → Did = λ i n.
      turns_where (scene c temps world) (int_lt (i +ℤ pos 1) (limit inclusive n)) (with_value counter temps (Number (i +ℤ pos 1))) name in
      ap (λ o. using o (λ v. using_number temps last (λ n. go (number_of v) n))) at
      ∙ (ap (λ o. using o (λ w. go (number_of v) (number_of w))) end
      ∙ ap (λ b. turns_where (scene c temps world) b (with_value counter temps (Number (number_of v +ℤ pos 1))) name) is)

  module _ (node : Node) (place : Declared) (inclusive : Bool) (first last : Expr) (rest : Args) (body : Stmts)
      (follows : BlockFollows c top room names calls outermost gives_listed body) (inside : Bool) (Open : Scope)
      (f : StmtFormed (grounded c top room names) inside Open (Loop node (Count place inclusive) (ByValue first (ByValue last rest)) body)) (exits : Exits)
      (around : Around c exits inside) (t : ℕ) (k : List Line) where
    abbrev head : Args
    head = ByValue first (ByValue last rest)

    abbrev counter : ℕ
    counter = suc t

    abbrev end : ℕ
    end = suc t + width first

    abbrev n : ℕ
    n = suc t + widths head

    abbrev hi : ℕ
    hi = t + width_in (Loop node (Count place inclusive) head body)

    -- what ends behind it, and on each way out
    abbrev waits : List Wait
    waits = waiting_all facts modes head (λ i. Owned) 0

    abbrev heads_end : List Line → List Line
    heads_end = head_ends types facts modes c.result head

    abbrev around_head : Around c (exits_ending heads_end exits) inside
    around_head = around_end around heads_end (puts_ends c waits)

    abbrev ending : List Line
    ending = L.Label (label End t) ∷ heads_end k

    abbrev counting : List Line
    counting = L.CountTurn counter end inclusive (label Turn t) ∷ ending

    abbrev next_lines : List Line
    next_lines = L.Label (label Next t) ∷ counting

    abbrev bodied : List Line
    bodied = lines_of types facts modes c.result body (in_scope types facts modes c.result place (in_loop (exits_ending heads_end exits) t)) n
        (place_end types facts place next_lines)

    abbrev turn_lines : List Line
    turn_lines = L.Label (label Turn t) ∷ L.Fill place.number counter ∷ bodied

    abbrev beginning : List Line
    beginning = L.Beyond counter end inclusive (label End t) ∷ L.Enter ∷ turn_lines

    abbrev around_loop : Around c (in_loop (exits_ending heads_end exits) t) true
    around_loop = inner around_head t ending next_lines

    abbrev around_body : Around c (exits_ending (place_end types facts place) (in_loop (exits_ending heads_end exits) t)) true
    around_body = around_end around_loop (place_end types facts place) (puts_place_end c place)

    puts_bodied : Puts (4 * t + 3) (4 * (n + width_of body))
        (λ k. L.Label (label Turn t) ∷ L.Fill place.number counter ∷ lines_of types facts modes c.result body
        (in_scope types facts modes c.result place (in_loop (exits_ending heads_end exits) t)) n (place_end types facts place k))
    puts_bodied =
        puts_label (label Turn t) (omega arith) (omega arith)
        >> (puts_line (L.Fill place.number counter) refl
        >> (puts_wide (omega arith) (omega arith)
        (puts_stmts types facts modes c.result body (in_scope types facts modes c.result place (in_loop (exits_ending heads_end exits) t)) n around_body.puts)
        >> puts_place_end c place _ _))

    end_is_found : found (label End t) next_lines ≡ Some ending
    end_is_found =
        (puts_label {lo = 4 * t + 2} {hi = 4 * t + 3} (label Next t) (omega arith) (omega arith)).skips (label End t) counting
        (λ le. absurd (omega (arith, le)))
        ∙ found_here (label End t) (heads_end k)

    end_is_behind : found (label End t) turn_lines ≡ Some ending
    end_is_behind = puts_bodied.skips (label End t) next_lines (λ le. absurd (omega (arith, le))) ∙ end_is_found

    loop_reaches : Reaches around_loop n next_lines
    loop_reaches = record {
      breaks = λ is. end_is_found;
      continues = λ is. found_here (label Next t) counting;
      break_before = λ is. omega arith;
      continue_before = λ is. omega arith;
    }

    body_reaches : Reaches around_body n (place_end types facts place next_lines)
    body_reaches = reaches_ended {around = around_loop} (place_end types facts place) (puts_place_end c place) (omega arith) loop_reaches

    module _ (l : Leads c t (ready_lines types facts modes (Building []) head (λ i. Owned) 0 (suc t) beginning)) (temps : Temps) (world : World)
        (h : Stands c room Open world)
        (w : Value) where
      abbrev goal : ℤ
      goal = limit inclusive (number_of w)

      starts_lead : Leads c n turn_lines
      starts_lead =
          leads_on {lo = 0} {hi = 4 * n} (omega arith) (omega arith)
          (puts_wide {lo = 0} {hi = 4 * n} (omega arith) (omega arith) (puts_ready types facts modes (Building []) head (λ i. Owned) 0 (suc t))
          >> (puts_line (L.Beyond counter end inclusive (label End t)) refl >> puts_line L.Enter refl)) l

      body_leads : Leads c n bodied
      body_leads =
          leads_on {lo = 0} {hi = 4 * n} (omega arith) (omega arith)
          (puts_label (label Turn t) (omega arith) (omega arith) >> puts_line (L.Fill place.number counter) refl) starts_lead

      turn_is_found : found (label Turn t) c.whole ≡ Some turn_lines
      turn_is_found =
          l.all (label Turn t) (omega arith)
          ∙ ((puts_ready types facts modes (Building []) head (λ i. Owned) 0 (suc t)).skips (label Turn t) beginning (λ le. absurd (omega (arith, le)))
          ∙ found_here (label Turn t) (L.Fill place.number counter ∷ bodied))

      -- Before the first test its number is in the counter, and before each other one the number before.
      pub record Counts (i : ℤ) (lines : List Line) (at : ℤ) (b : State) (m : M) : Type 0 where
        pub now : Temps
        pub value : Value
        pub is : m ≡ there c lines now b.world
        pub counts : now.values counter ≡ Some value
        pub number : number_of value ≡ at
        pub ends : now.values end ≡ Some w
        pub kept : Kept t hi temps now
        pub since : Since c.level world b.world

      abbrev Inv : ℤ → State → M → Type 0
      Inv i b m = Counts i beginning i b m ⊎ ((j : ℤ) × (j +ℤ pos 1 ≡ i) × Counts i counting j b m)

      abbrev Ends : Outcome (Unit {0}) → State → M → Type 0
      Ends = Looped c around_head ending t hi temps world

      abbrev acts : ℤ → Does (Unit {0})
      acts i = acting.◌>>◌ (at_node node.number Fills (fill here place.number (Number i))) (scoped here place (last_of body) (exec_all body here))

      -- a turn begins: its number is in the counter
      turn_follows : (i : ℤ) (u : ℕ) (now : Temps) (d : State) → now.values counter ≡ Some (Number i) → now.values end ≡ Some w → d.meter.units < u →
          Kept t hi temps now → Since c.level world d.world →
          Runs c.fixed (Turned Inv Ends u) 12 6 (there c turn_lines now d.world) d.meter (then_do (then_do (acts i d) (next (i +ℤ pos 1))) turn_of)
      turn_follows i u now d at ends few kept since =
          let p = place.number in
          let v : Value = Number i in
          let d1 : State = worked 4 (with_trail (Point node.number Fills ∷ d.trail) d) in
          let d2 : State = record d1 { world = changed (Opens c.level p (Holds v)) d.world } in
          let w1 = some_width last in
          let opened : Stands c room (With (grounded c top room names) Open p) d2.world =
          stands_with top names p (Holds v) outermost f.2.1 (stands_since h since) in
          goes c 11 1 (omega arith) refl
          (pays 59 4 (omega arith)
          (goes c 54 5 (omega arith) (ap (λ o. using o (λ v. does.acts (scene c now d.world) (deeds.costs 1 (does.fills c.level p v)))) at)
          (body_ends c around_head t ending next_lines t hi temps world Inv {q = 54} 53 (i +ℤ pos 1) u (omega arith) (omega arith) few (omega arith)
          (omega arith) kept
          (since_then since (since_slot c.level d.world c.level p (Holds v)))
          (spares 0 0 (omega arith) (omega arith)
          (scope_leaves c around_loop place f.2.0 (last_of body) (opened.open_is false p (inr (refl, tt))) (exec_all body here) d2
          (follows true (With (grounded c top room names) Open p) f.3 (in_scope types facts modes c.result place (in_loop (exits_ending heads_end exits) t))
          around_body n
          (place_end types facts place next_lines) body_reaches body_leads now d2
          opened)))
          (λ b last fewer kept2 since2.
          goes c 52 1 (omega arith) refl
          (lands (Again (i +ℤ pos 1)) b (omega arith) (
            inr (
              i,
              refl,
              record {
                now = last;
                value = v;
                is = refl;
                counts = value_before counter (omega arith) kept2 ∙ at;
                number = refl;
                ends = value_before end (omega (arith, w1)) kept2 ∙ ends;
                kept = kept_then kept (kept_wide (omega arith) (omega arith) kept2);
                since = since_then since (since_then (since_slot c.level d.world c.level p (Holds v)) since2);
              },
            ),
            fewer,
          ))))))

      abbrev turned : Bool → ℤ → Does (TurnOf ℤ (Unit {0}))
      turned b i = branch b (again (acts i) (i +ℤ pos 1)) no_more

      -- at the first test
      at_first : (b : Bool) (i : ℤ) (d : State) (m : M) → int_lt i goal ≡ b → Counts i beginning i d m →
          Runs c.fixed (Turned Inv Ends d.meter.units) 6 6 m d.meter (then_do (turned b i d) turn_of)
      at_first true i d m is x =
          let w1 = some_width first in
          subst (λ m. Runs c.fixed (Turned Inv Ends d.meter.units) 6 6 m d.meter (then_do (turned true i d) turn_of)) (sym x.is)
          (goes c 5 1 (omega arith)
          (beyond_is x.now d.world counter end inclusive (label End t) x.value w true x.counts x.ends (ap (λ i. int_lt i goal) x.number ∙ is))
          (subst (λ r. Runs c.fixed (Turned Inv Ends d.meter.units) 5 6
          (there c (L.Enter ∷ turn_lines) (with_value counter x.now (Number (number_of x.value))) d.world) d.meter r)
          (sym (spend_then d.meter.units d (λ n. costs 1 (at_exit (acts i) (next (i +ℤ pos 1))) (left_with n d)) turn_of))
          (enters c 16 d (omega arith) refl
          (λ m e.
          spares 12 6 (omega arith) (omega arith)
          (turn_follows i d.meter.units (with_value counter x.now (Number (number_of x.value))) (worked 1 (left_with m d))
          (put_same x.now.values counter (Number (number_of x.value)) ∙ ap (λ i. Some (Number i)) x.number)
          (put_other x.now.values counter (Number (number_of x.value)) end (λ e. absurd (omega (arith, e, w1))) ∙ x.ends) (omega (arith, e))
          (kept_value counter (Number (number_of x.value)) (omega arith) (omega arith) x.kept) x.since)))))
      at_first false i d m is x =
          subst (λ m. Runs c.fixed (Turned Inv Ends d.meter.units) 6 6 m d.meter (then_do (turned false i d) turn_of)) (sym x.is)
          (lands (LeaveLoop (On tt)) d (omega arith)
          (record {
            now = x.now;
            walks = walks_spared (omega arith) (walks_leap c (label End t) 1 d.meter
                (beyond_is x.now d.world counter end inclusive (label End t) x.value w false x.counts x.ends
                (ap (λ i. int_lt i goal) x.number ∙ is)) end_is_behind);
            kept = x.kept;
            since = x.since;
          }))

      -- at each other one
      at_next : (b : Bool) (i j : ℤ) (d : State) (m : M) → j +ℤ pos 1 ≡ i → int_lt i goal ≡ b → Counts i counting j d m →
          Runs c.fixed (Turned Inv Ends d.meter.units) 6 6 m d.meter (then_do (turned b i d) turn_of)
      at_next true i j d m next_is is x =
          let w1 = some_width first in
          let z = number_of x.value +ℤ pos 1 in
          let z_is : z ≡ i = ap (λ j. j +ℤ pos 1) x.number ∙ next_is in
          subst (λ m. Runs c.fixed (Turned Inv Ends d.meter.units) 6 6 m d.meter (then_do (turned true i d) turn_of)) (sym x.is)
          (subst (λ r. Runs c.fixed (Turned Inv Ends d.meter.units) 6 6 (there c counting x.now d.world) d.meter r)
          (sym (spend_then d.meter.units d (λ n. costs 1 (at_exit (acts i) (next (i +ℤ pos 1))) (left_with n d)) turn_of))
          (turns c 17 (label Turn t) d (omega arith)
          (counts_is x.now d.world counter end inclusive (label Turn t) x.value w true x.counts x.ends (ap (λ i. int_lt i goal) z_is ∙ is)) turn_is_found
          (λ m e.
          spares 12 6 (omega arith) (omega arith)
          (turn_follows i d.meter.units (with_value counter x.now (Number z)) (worked 1 (left_with m d))
          (put_same x.now.values counter (Number z) ∙ ap (λ i. Some (Number i)) z_is)
          (put_other x.now.values counter (Number z) end (λ e. absurd (omega (arith, e, w1))) ∙ x.ends) (omega (arith, e))
          (kept_value counter (Number z) (omega arith) (omega arith) x.kept) x.since))))
      at_next false i j d m next_is is x =
          let z = number_of x.value +ℤ pos 1 in
          let z_is : z ≡ i = ap (λ j. j +ℤ pos 1) x.number ∙ next_is in
          subst (λ m. Runs c.fixed (Turned Inv Ends d.meter.units) 6 6 m d.meter (then_do (turned false i d) turn_of)) (sym x.is)
          (lands (LeaveLoop (On tt)) d (omega arith)
          (record {
            now = x.now;
            walks = walks_spared (omega arith) (walks_line c 1 d.meter
                (counts_is x.now d.world counter end inclusive (label Turn t) x.value w false x.counts x.ends (ap (λ i. int_lt i goal) z_is ∙ is)));
            kept = x.kept;
            since = x.since;
          }))

      a_turn : (i : ℤ) (b : State) (m : M) → Inv i b m →
          Runs c.fixed (Turned Inv Ends b.meter.units) 6 6 m b.meter
          (then_do (count_turn node.number here place (last_of body) (exec_all body here) goal i b) turn_of)
      a_turn i b m (inl x) =
          at_first (int_lt i goal) i (with_trail (Point node.number Chooses ∷ Point node.number Turns ∷ b.trail) b) m refl
          (record { now = x.now; value = x.value; is = x.is; counts = x.counts; number = x.number; ends = x.ends; kept = x.kept; since = x.since })
      a_turn i b m (inr (j, next_is, x)) =
          at_next (int_lt i goal) i j (with_trail (Point node.number Chooses ∷ Point node.number Turns ∷ b.trail) b) m next_is refl
          (record { now = x.now; value = x.value; is = x.is; counts = x.counts; number = x.number; ends = x.ends; kept = x.kept; since = x.since })

  pub counts : (node : Node) (place : Declared) (inclusive : Bool) (head : Args) (body : Stmts) →
      BlockFollows c top room names calls outermost gives_listed body →
      StmtFollows c top room names calls outermost gives_listed (Loop node (Count place inclusive) head body)
  counts node place inclusive NoArg body follows inside Open f exits around t k r l temps s h = absurd f.0
  counts node place inclusive (ByPath path rest) body follows inside Open f exits around t k r l temps s h = absurd f.0
  counts node place inclusive (ByValue first NoArg) body follows inside Open f exits around t k r l temps s h = absurd f.0
  counts node place inclusive (ByValue first (ByPath path rest)) body follows inside Open f exits around t k r l temps s h = absurd f.0
  counts node place inclusive (ByValue first (ByValue last rest)) body follows inside Open f exits around t k r l temps s h =
      let K = ending node place inclusive first last rest body follows inside Open f exits around t k in
      let lines_next = next_lines node place inclusive first last rest body follows inside Open f exits around t k in
      let begin = beginning node place inclusive first last rest body follows inside Open f exits around t k in
      let top_of = hi node place inclusive first last rest body follows inside Open f exits around t k in
      let all_ends = heads_end node place inclusive first last rest body follows inside Open f exits around t k in
      let around1 = around_head node place inclusive first last rest body follows inside Open f exits around t k in
      let head1 : Args = ByValue first (ByValue last rest) in
      let turn : List Ready → ℤ → Does (TurnOf ℤ (Unit {0})) =
      λ ready. count_turn node.number here place (last_of body) (exec_all body here) (limit inclusive (number_of (ready_operand (ready_rest ready)))) in
      let looping : List Ready → Does (Unit {0}) = λ ready. loop (turn ready) (number_of (ready_operand ready)) in
      let s1 : State = with_trail (Point node.number Begins ∷ s.trail) (worked 1 s) in
      pays 12 1 (omega arith)
      (group_leaves c around (waiting_all facts modes head1 (λ i. Owned) 0) (waits_listed_all c top room names Open head1 (λ i. Owned) 0 f.1)
      (acting.◌>>=◌ (head_values head1 here) looping) s1
      (after 12 (omega arith) (omega arith)
      (args_follow c top room names Open calls (Building []) head1 f.1 (λ i. Owned) 0 (suc t) begin temps s1 h)
      (λ ready b now ready_is kept since.
      let more = ready_is.4 in
      let at_first = subst (λ from. IsAt (suc t) (suc t + width first) from ready_is.0 now) (owned_from facts (Building []) first (suc t)) ready_is.3 in
      let at_last = subst (λ from. IsAt (suc t + width first) (suc t + width first + width last) from more.0 now)
      (owned_from facts (Building []) last (suc t + width first)) more.3 in
      let v = at_first.0 in
      let w = at_last.0 in
      let invariant = Inv node place inclusive first last rest body follows inside Open f exits around t k l temps s.world h w in
      let is : ready ≡ Evaluated (Given v) ∷ Evaluated (Given w) ∷ more.1 =
      ready_is.2 ∙ (ap (λ x. Evaluated x ∷ ready_is.1) at_first.1
      ∙ ap (λ r. Evaluated (Given v) ∷ r) (more.2 ∙ ap (λ x. Evaluated x ∷ more.1) at_last.1)) in
      subst (λ ready. Runs c.fixed (Left c around1 (all_ends k) t top_of temps s.world) 12 0 (there c begin now b.world) b.meter (looping ready b)) (sym is)
      (loop_ends c around1 t K lines_next t top_of temps s.world invariant {q = 6} {Q = 0} (omega arith)
      (spares 6 6 (omega arith) (omega arith)
      (runs_loop c around1 t K lines_next t top_of temps s.world invariant 6 (turn (Evaluated (Given v) ∷ Evaluated (Given w) ∷ more.1))
      (a_turn node place inclusive first last rest body follows inside Open f exits around t k l temps s.world h w) (number_of v) b
      (there c begin now b.world)
      (inl (record {
        now = now;
        value = v;
        is = refl;
        counts = at_first.2;
        number = refl;
        ends = at_last.2;
        kept = kept_wide (omega arith) (omega arith) kept;
        since = since;
      }))))
      (λ b last kept since. goes c 0 1 (omega arith) refl (stays c around1 b last (omega arith) kept since))))))
