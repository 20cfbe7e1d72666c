-- Flat code follows the turns of a `for` over elements.
use Rattle.std.proofs.Common.{inr, ◌≡◌, ℕ, suc, ◌+◌, ◌*◌, ◌≤◌, Bool, true, false, List, [], ◌∷◌, Some, refl, sym, ap, ◌∙◌, subst, arith}
use Rattle.std.specs.Prelude.{if◌then◌else◌, ℤ, pos, ◌+ℤ◌, int_lt, nat_eq, nat_lt}
use Rattle.std.proofs.lemmas.Bool.{eqb-true}
use Rattle.arc_base.specs.BigStep.{then_do, Turn as TurnOf, Again, Leave as LeaveLoop}
use Rattle.nim_types.specs.Types.{Ty, Facts}
use Rattle.nim_program.specs.declared.expr.Node.{Node}
use Rattle.nim_program.specs.declared.operation.Use.TheVariants.{Owned}
use Rattle.nim_program.specs.declared.program.Mode.{Mode}
use Rattle.nim_program.specs.Ints.{inside as is_inside}
use Rattle.nim_program.specs.Traps.{LengthChanged}
use Rattle.nim_program.specs.Program.{Building, Path, Args, ByPath, Declared, Each, Loop, Stmts, last_of}
use Rattle.nim_meaning.specs.Values.{Value, Number, number_of, length_of, bytes, Location, Holds}
use Rattle.nim_meaning.specs.State.{World, State, load, is_seen}
use Rattle.nim_meaning.specs.ActTree.{Turns, Chooses, Fills, Does as Done_by}
use Rattle.nim_meaning.specs.Ways.{At as Point}
use Rattle.nim_meaning.specs.Acts.{Outcome, On, Out, Does, onward, branch, worked, left_with, with_trail}
use Rattle.nim_meaning.specs.Acts.{at_exit, costs, again, no_more, next, turn_of, give, stop}
use Rattle.nim_meaning.specs.Acts as acting
use Rattle.nim_meaning.specs.Deeds.{Opens, changed, carry, behind as later_done, perform, ◌>>=◌}
use Rattle.nim_meaning.specs.Deeds as deeds
use Rattle.nim_meaning.specs.Here.{Here, is_hooked}
use Rattle.nim_meaning.specs.Waiting.{Wait, waiting_all}
use Rattle.nim_meaning.specs.Places.{has_items, item_of, item_at, fetched_item, to_one}
use Rattle.nim_meaning.specs.Meaning.{is_fresh, element_for, exec_all, fill, scoped, at_node, still, element_at, each_turn}
use Rattle.nim_meaning.specs.Aims.{Aim, find}
use Rattle.flat_code.specs.declared.line.Line.{Line}
use Rattle.flat_code.specs.declared.line.Line.TheVariants as L
use Rattle.flat_code.specs.Scene.{Temps, Where, with_value, with_place, led, location_at, Did, Passes, Leaps, Fails}
use Rattle.flat_code.specs.Lines.{using, using_number}
use Rattle.flat_code.specs.Lines as does
use Rattle.flattening.specs.declared.numbers.Purpose.TheVariants.{Arm, End, Next, Turn}
use Rattle.flattening.specs.Numbering.{width_at, widths, width_in, width_of, label}
use Rattle.flattening.specs.ExprLines.{find_lines, ready_lines}
use Rattle.flattening.specs.StmtLines.{Exits, ending as exits_ending, in_loop, in_scope, place_end, head_ends, hooked_element, element_lines, lines_of}
use Rattle.flattening.specs.Flattened.{modes_of}
use Rattle.flattening.specs.Formed.{Scope, With, StmtFormed}
use Rattle.flattening.proofs.Runs.{M, Runs, Walks, walks_on, pays, spares, lands, follows_on, unless_wrong, Turned}
use Rattle.flattening.proofs.Worlds.{Since, since_then, since_slot}
use Rattle.flattening.proofs.Openings.{answering_all}
use Rattle.flattening.proofs.Temps.{Kept, kept_none, kept_then, kept_wide, kept_value, kept_place, put_same, put_other, value_before}
use Rattle.flattening.proofs.Puts.{Puts, found, found_here, puts_line, puts_label, puts_wide, ◌>>◌}
use Rattle.flattening.proofs.PutsLines.{puts_find}
use Rattle.flattening.proofs.PutsStmts.{puts_ready}
use Rattle.flattening.proofs.PutsStmts.{puts_stmts}
use Rattle.flattening.proofs.Spots.{Spot, here_of, there, scene, does_at, both_falling, walks_line, walks_leap, goes, turns, performs, do_assoc}
use Rattle.flattening.proofs.Standing.{grounded, Stands, stands_since}
use Rattle.flattening.proofs.Acting.{CallsFollow}
use Rattle.flattening.proofs.Paths.{Leads as LeadsTo, leads_now, Aims, aims_kept, find_follows}
use Rattle.flattening.proofs.CountLoops.{beyond_is}
use Rattle.flattening.proofs.Leaving.{Around, Reaches, Leads, leads_on, Looped, inner}
use Rattle.flattening.proofs.Leaving.{spend_then, body_ends, around_end, puts_ends, puts_place_end, scope_leaves}
use Rattle.flattening.proofs.Opened.{stands_with, stands_there}
use Rattle.flattening.proofs.Filling.{Filled}
use Rattle.flattening.proofs.Scopes.{reaches_ended}
use Rattle.flattening.proofs.Stmts.{IsListedResult, BlockFollows}
use Rattle.flattening.proofs.Widths.{same_width}
use Rattle.flattening.proofs.Elements.{all_inside, next_number, as_long_by, still_line_is, puts_element, opens_element, item_line, item_fetched}

module _ (c : Spot) (top : Bool) (room : ℕ → Type 0) (names : (proc place : ℕ) → Type 0) (calls : CallsFollow c names)
    (outermost : top ≡ true → c.level ≡ 0) (gives_listed : IsListedResult c.fixed.program.types c.result) where
  abbrev facts : Facts
  facts = c.fixed.program.facts

  abbrev types : List Ty
  types = c.fixed.program.types

  abbrev modes : (proc position : ℕ) → Mode
  modes = modes_of c.fixed.program c.fixed.plan

  abbrev here : Here
  here = here_of c

  module _ (node : Node) (place : Declared) (path : Path) (rest : Args) (body : Stmts)
      (follows : BlockFollows c top room names calls outermost gives_listed body)
      (inside : Bool)
      (Open : Scope) (f : StmtFormed (grounded c top room names) inside Open (Loop node (Each place) (ByPath path rest) body)) (exits : Exits)
      (around : Around c exits inside) (t : ℕ) (k : List Line) where
    abbrev head : Args
    head = ByPath path rest

    abbrev counter : ℕ
    counter = suc t

    abbrev many : ℕ
    many = suc (suc t)

    abbrev place_at : ℕ
    place_at = suc t + 2

    abbrev n : ℕ
    n = suc t + 2 + widths head

    abbrev pub hi : ℕ
    hi = t + width_in (Loop node (Each place) head body)

    -- whether its place stands for the elements
    abbrev borrows : Bool
    borrows = is_fresh head

    -- what ends behind it, and on each way out
    abbrev waits : List Wait
    waits = waiting_all facts modes head (λ i. Owned) 0

    abbrev pub heads_end : List Line → List Line
    heads_end = head_ends types facts modes c.result head

    abbrev pub around_head : Around c (exits_ending heads_end exits) inside
    around_head = around_end around heads_end (puts_ends c waits)

    abbrev pub ending : List Line
    ending = L.Label (label End t) ∷ heads_end k

    abbrev turning : List Line
    turning = L.Turn (label Turn t) ∷ ending

    abbrev fetching : List Line
    fetching = L.Still place_at many ∷ element_lines types facts modes c.result borrows place t place_at counter turning

    abbrev testing : List Line
    testing = L.Beyond counter many false (label End t) ∷ find_lines types facts path place_at fetching

    abbrev pub arm : List Line
    arm = L.Label (label Arm t) ∷ testing

    abbrev pub next_lines : List Line
    next_lines = L.Label (label Next t) ∷ L.Next counter many ∷ arm

    abbrev bodied : List Line
    bodied = lines_of types facts modes c.result body (in_scope types facts modes c.result place (in_loop (exits_ending heads_end exits) t)) n
        (place_end types facts place next_lines)

    abbrev turn_lines : List Line
    turn_lines = L.Label (label Turn t) ∷ bodied

    abbrev pub counting : List Line
    counting = L.Length many place_at ∷ L.Zero counter ∷ L.Jump (label Arm t) ∷ turn_lines

    abbrev around_loop : Around c (in_loop (exits_ending heads_end exits) t) true
    around_loop = inner around_head t ending next_lines

    abbrev around_body : Around c (exits_ending (place_end types facts place) (in_loop (exits_ending heads_end exits) t)) true
    around_body = around_end around_loop (place_end types facts place) (puts_place_end c place)

    end_is_behind : found (label End t) (find_lines types facts path place_at fetching) ≡ Some ending
    end_is_behind = (puts_find types facts modes {lo = 0} {hi = 0} path place_at >>
        (puts_line (L.Still place_at many) refl >>
        (puts_element types facts modes c.result borrows place t place_at counter >> puts_line (L.Turn (label Turn t)) refl))).skips
        (label End t) ending (λ le. le) ∙ found_here (label End t) (heads_end k)

    end_is_found : found (label End t) next_lines ≡ Some ending
    end_is_found =
        (puts_label {lo = 4 * t + 2} {hi = 4 * t + 3} (label Next t) (omega arith) (omega arith)).skips (label End t) (L.Next counter many ∷ arm)
        (λ le. absurd (omega (arith, le)))
        ∙ ((puts_label {lo = 4 * t} {hi = 4 * t + 1} (label Arm t) (omega arith) (omega arith)).skips (label End t) testing (λ le. omega arith)
        ∙ end_is_behind)

    pub arm_is_found : found (label Arm t) turn_lines ≡ Some arm
    arm_is_found =
        (puts_label {lo = 4 * t + 2} {hi = 4 * (n + width_of body)} (label Turn t) (omega arith) (omega arith)
        >> (puts_wide (omega arith) (omega arith)
        (puts_stmts types facts modes c.result body (in_scope types facts modes c.result place (in_loop (exits_ending heads_end exits) t)) n around_body.puts)
        >> (puts_place_end c place _ _ >> (puts_label (label Next t) (omega arith) (omega arith) >> puts_line (L.Next counter many) refl)))).skips
        (label Arm t) arm
        (λ le. absurd (omega (arith, le)))
        ∙ found_here (label Arm t) testing

    loop_reaches : Reaches around_loop n next_lines
    loop_reaches = record {
      breaks = λ is. end_is_found;
      continues = λ is. found_here (label Next t) _;
      break_before = λ is. omega arith;
      continue_before = λ is. omega arith;
    }

    body_reaches : Reaches around_body n (place_end types facts place next_lines)
    body_reaches = reaches_ended {around = around_loop} (place_end types facts place) (puts_place_end c place) (omega arith) loop_reaches

    puts_head : Puts (4 * t + 4) (4 * n)
        (λ k. ready_lines types facts modes (Building []) head (λ i. Owned) 0 place_at
        (find_lines types facts path place_at (L.Length many place_at ∷ L.Zero counter ∷ L.Jump (label Arm t) ∷ k)))
    puts_head =
        puts_wide (omega arith) (omega arith) (puts_ready types facts modes (Building []) head (λ i. Owned) 0 place_at)
        >> (puts_find types facts modes path place_at >> (puts_line (L.Length many place_at) refl >>
        (puts_line (L.Zero counter) refl >> puts_line (L.Jump (label Arm t)) refl)))

    module _ (l : Leads c t (ready_lines types facts modes (Building []) head (λ i. Owned) 0 place_at (find_lines types facts path place_at counting)))
        (temps : Temps) (world : World)
        (h : Stands c room Open world) (aim : Aim) (len : ℕ) where
      body_leads : Leads c n bodied
      body_leads =
          leads_on {lo = 0} {hi = 4 * n} (omega arith) (omega arith)
          (puts_wide {lo = 0} {hi = 4 * n} (omega arith) (omega arith) puts_head >> puts_label (label Turn t) (omega arith) (omega arith)) l

      turn_is_found : found (label Turn t) c.whole ≡ Some turn_lines
      turn_is_found =
          l.all (label Turn t) (omega arith) ∙ (puts_head.skips (label Turn t) turn_lines (λ le. absurd (omega (arith, le))) ∙ found_here
          (label Turn t) bodied)

      -- before each test: the loop's number, how many there are, and what the path needs
      pub record HoldsAt (i : ℕ) (now : Temps) : Type 0 where
        pub counts : now.values counter ≡ Some (Number (pos i))
        pub long : now.values many ≡ Some (Number (pos len))
        pub aims : Aims c top room names Open path place_at aim now
        pub kept : Kept t hi temps now

      pub record EachAt (i : ℕ) (b : State) (m : M) : Type 0 where
        pub now : Temps
        pub is : m ≡ there c arm now b.world
        pub holds : HoldsAt i now
        pub since : Since c.level world b.world

      abbrev Ends : Outcome (Unit {0}) → State → M → Type 0
      Ends = Looped c around_head ending t hi temps world

      abbrev acts : Does (Unit {0})
      acts = scoped here place (last_of body) (exec_all body here)

      -- other values of one's own change nothing of it
      holds_value : (i u : ℕ) (v : Value) (now : Temps) → u ≡ t → HoldsAt i now → HoldsAt i (with_value u now v)
      holds_value i u v now e x = record {
        counts = put_other now.values u v counter (λ h. absurd (omega (arith, h, e))) ∙ x.counts;
        long = put_other now.values u v many (λ h. absurd (omega (arith, h, e))) ∙ x.long;
        aims =
            aims_kept c top room names Open path place_at aim now (with_value u now v)
            (λ j le less. put_other now.values u v j (λ h. absurd (omega (arith, h, e, le)))) x.aims;
        kept = kept_value u v (omega (arith, e)) (omega (arith, e)) x.kept;
      }

      holds_place : (i : ℕ) (to : Where) (now : Temps) → HoldsAt i now → HoldsAt i (with_place t now to)
      holds_place i to now x = record {
        counts = x.counts;
        long = x.long;
        aims = aims_kept c top room names Open path place_at aim now (with_place t now to) (λ j le less. refl) x.aims;
        kept = kept_place t to (omega arith) (omega arith) x.kept;
      }

      holds_same : (i : ℕ) (now last : Temps) → ((j : ℕ) → last.values j ≡ now.values j) → Kept t hi now last → HoldsAt i now → HoldsAt i last
      holds_same i now last same kept x = record {
        counts = same counter ∙ x.counts;
        long = same many ∙ x.long;
        aims = aims_kept c top room names Open path place_at aim now last (λ j le less. same j) x.aims;
        kept = kept_then x.kept kept;
      }

      -- a turn begins: its element is in the variable
      turn_follows : (i u : ℕ) (now : Temps) (d : State) → nat_lt i len ≡ true → HoldsAt i now → d.meter.units ≤ u → Since c.level world d.world →
          Stands c room (With (grounded c top room names) Open place.number) d.world →
          Runs c.fixed (Turned EachAt Ends u) 1 6 (there c turning now d.world) d.meter (then_do (again acts (suc i) d) turn_of)
      turn_follows i u now d is x few since h =
          subst (λ r. Runs c.fixed (Turned EachAt Ends u) 1 6 (there c turning now d.world) d.meter r)
          (sym (spend_then d.meter.units d (λ n. costs 1 (at_exit acts (next (suc i))) (left_with n d)) turn_of))
          (turns c 12 (label Turn t) d (omega arith) refl turn_is_found
          (λ m e.
          goes c 11 1 (omega arith) refl
          (body_ends c around_head t ending next_lines t hi temps world EachAt {q = 11} 10 (suc i) u (omega arith) (omega arith) (omega (arith, e, few))
          (omega arith)
          (omega arith) x.kept since
          (spares 0 0 (omega arith) (omega arith)
          (scope_leaves c around_loop place f.2.0 (last_of body) (h.open_is false place.number (inr (refl, tt))) (exec_all body here)
          (worked 1 (left_with m d))
          (follows true (With (grounded c top room names) Open place.number) f.3
          (in_scope types facts modes c.result place (in_loop (exits_ending heads_end exits) t)) around_body n (place_end types facts place next_lines)
          body_reaches
          body_leads now (worked 1 (left_with m d)) h)))
          (λ b last fewer kept2 since2.
          let z = pos i +ℤ pos 1 in
          let after_next = with_value counter last (Number z) in
          goes c 9 1 (omega arith) refl
          (goes c 8 1 (omega arith)
          (ap (λ o. using o (λ v. using_number last many (λ n. branch (int_lt (number_of v) n)
          (does.gives (scene c last b.world) counter (deeds.costs 1 (deeds.give (Number (number_of v +ℤ pos 1))))) Fails)))
          (value_before counter (omega arith) kept2 ∙ x.counts)
          ∙ (ap (λ o. using o (λ v. branch (int_lt (pos i) (number_of v))
          (does.gives (scene c last b.world) counter (deeds.costs 1 (deeds.give (Number (pos i +ℤ pos 1))))) Fails))
          (value_before many (omega arith) kept2 ∙ x.long)
          ∙ ap (λ b2. branch b2 (does.gives (scene c last b.world) counter (deeds.costs 1 (deeds.give (Number (pos i +ℤ pos 1))))) Fails) is))
          (lands (Again (suc i)) b (omega arith) (
            record {
              now = after_next;
              is = refl;
              holds = record {
                counts = put_same last.values counter (Number z) ∙ ap (λ z. Some (Number z)) (next_number i);
                long = put_other last.values counter (Number z) many (λ h. absurd (omega (arith, h))) ∙ (value_before many (omega arith) kept2 ∙ x.long);
                aims = aims_kept c top room names Open path place_at aim now after_next
                    (λ j le less. put_other last.values counter (Number z) j (λ h. absurd (omega (arith, h, le))) ∙ value_before j
                    (omega (arith, less, same_width path)) kept2) x.aims;
                kept = kept_value counter (Number z) (omega arith) (omega arith) (kept_then x.kept (kept_wide (omega arith) (omega arith) kept2));
              };
              since = since_then since since2;
            },
            fewer,
          )))))))

      -- what a turn does behind the place that was found: an element without hooks goes by its value, any other by its place
      abbrev by_value : Location → ℕ → Does (TurnOf ℕ (Unit {0}))
      by_value location i = acting.◌>>=◌ (at_node node.number Done_by (element_at location i))
          (λ v. acting.◌>>◌ (at_node node.number Fills (fill here place.number v)) (again acts (suc i)))

      abbrev opening : ℕ → Location → Does (TurnOf ℕ (Unit {0}))
      opening i item = acting.◌>>◌ (at_node node.number Fills (element_for here place borrows item)) (again acts (suc i))

      abbrev by_place : Location → ℕ → Does (TurnOf ℕ (Unit {0}))
      by_place location i = acting.◌>>=◌ (at_node node.number Done_by (carry (item_at location i))) (opening i)

      abbrev element_to_open : Location → ℕ → Unit {0} → Does (TurnOf ℕ (Unit {0}))
      element_to_open location i u = branch (is_hooked facts place.of) (by_place location i) (by_value location i)

      abbrev found_to_open : ℕ → Location → Does (TurnOf ℕ (Unit {0}))
      found_to_open i location = acting.◌>>=◌ (still location len) (element_to_open location i)

      -- its place is filled
      fills : (i u : ℕ) (v : Value) (now : Temps) (d : State) → nat_lt i len ≡ true → now.values t ≡ Some v → HoldsAt i now → d.meter.units ≤ u →
          Since c.level world d.world →
          Runs c.fixed (Turned EachAt Ends u) 2 6 (there c (L.Fill place.number t ∷ turning) now d.world) d.meter
          (then_do (acting.◌>>◌ (at_node node.number Fills (fill here place.number v)) (again acts (suc i)) d) turn_of)
      fills i u v now d is at x few since =
          let p = place.number in
          let d1 : State = worked (bytes v) (with_trail (Point node.number Fills ∷ d.trail) d) in
          let d2 : State = record d1 { world = changed (Opens c.level p (Holds v)) d.world } in
          pays (2 + 12 * bytes v) (bytes v) (omega arith)
          (goes c 1 (1 + (bytes v + 0)) (omega arith) (ap (λ o. using o (λ v. does.acts (scene c now d.world) (deeds.costs 1 (does.fills c.level p v)))) at)
          (turn_follows i u now d2 is x few (since_then since (since_slot c.level d.world c.level p (Holds v)))
          (stands_with top names p (Holds v) outermost f.2.1 (stands_since h since))))

      abbrev gives_inside : Temps → World → Location → ℤ → Did
      gives_inside now world2 l z =
          branch (is_inside z (length_of (load world2 l))) (does.gives (scene c now world2) t (deeds.costs 1 (does.element_at l z))) Fails

      -- its element is there
      value_follows : (i u : ℕ) (location : Location) (last : Temps) (d : State) → nat_lt i len ≡ true → length_of (load d.world location) ≡ len →
          LeadsTo place_at (place_at + width_at path) place_at location last → HoldsAt i last → d.meter.units ≤ u → Since c.level world d.world →
          Runs c.fixed (Turned EachAt Ends u) 3 6
          (there c (L.Element t place_at counter ∷ L.Fill place.number t ∷ turning) last d.world) d.meter
          (then_do (by_value location i d) turn_of)
      value_follows i u location last d is same leads x few since =
          both_falling (λ v. acting.◌>>◌ (at_node node.number Fills (fill here place.number v)) (again acts (suc i))) turn_of 2 (omega arith) (omega arith)
          (performs c {lo = t} {hi = suc t} {P = λ v now. now ≡ with_value t last v} {p = 3} {q = 2} (λ v. with_value t last v) (fetched_item location i)
          (with_trail (Point node.number Done_by ∷ d.trail) d) 1 (omega arith)
          (answering_all (λ v. with_value t last v ≡ with_value t last v) (λ v. refl) (fetched_item location i))
          (λ v. kept_value t v (omega arith) (omega arith) (kept_none t (suc t) last))
          (ap (λ o. using o (λ place. using_number last counter (λ z. gives_inside last d.world (location_at last place) z))) leads.is
          ∙ (ap (λ l. using_number last counter (λ z. gives_inside last d.world l z)) (leads_now leads)
          ∙ (ap (λ o. using o (λ v. gives_inside last d.world location (number_of v))) x.counts
          ∙ ap (λ b. branch b (does.gives (scene c last d.world) t (deeds.costs 1 (does.element_at location (pos i)))) Fails) there_is))))
          (λ v e now3 falls2 same3 kept3 since3.
          subst (λ temps. Runs c.fixed (Turned EachAt Ends u) 2 6 (there c (L.Fill place.number t ∷ turning) temps e.world) e.meter
          (then_do (acting.◌>>◌ (at_node node.number Fills (fill here place.number v)) (again acts (suc i)) e) turn_of)) (sym same3)
          (fills i u v (with_value t last v) e is (put_same last.values t v) (holds_value i t v last refl x) (omega (arith, falls2, few))
          (since_then since since3)))
        where
          there_is : is_inside (pos i) (length_of (load d.world location)) ≡ true
          there_is = ap (λ n. is_inside (pos i) n) same ∙ (all_inside i len ∙ is)

      -- by its place
      place_follows : (i u : ℕ) (location : Location) (last : Temps) (d : State) → nat_lt i len ≡ true → is_seen d.world location ≡ true →
          length_of (load d.world location) ≡ len →
          LeadsTo place_at (place_at + width_at path) place_at location last → HoldsAt i last → d.meter.units ≤ u → Since c.level world d.world →
          Runs c.fixed (Turned EachAt Ends u) 3 6
          (there c (L.Item t place_at counter ∷ hooked_element types facts modes c.result borrows place t ∷ turning) last d.world) d.meter
          (then_do (by_place location i d) turn_of)
      place_follows i u location last d is seen same leads x few since =
          subst (λ b. Runs c.fixed (Turned EachAt Ends u) 3 6
          (there c (L.Item t place_at counter ∷ hooked_element types facts modes c.result borrows place t ∷ turning) last d.world) d.meter
          (then_do (then_do (carry (deeds.unless_gone b (to_one (load d.world location) location i)) (with_trail (Point node.number Done_by ∷ d.trail) d))
          (onward (opening i))) turn_of))
          (sym seen)
          (unless_wrong (has_items (load d.world location) location.base)
          (λ b. then_do (then_do (carry (deeds.unless_gone b (deeds.give item)) (with_trail (Point node.number Done_by ∷ d.trail) d)) (onward (opening i)))
          turn_of) (with_trail (Point node.number Done_by ∷ d.trail) d) refl
          (λ has. goes c 2 1 (omega arith) (item_line c t counter i len location last d.world is seen same leads has x.counts)
          (subst (λ r. Runs c.fixed (Turned EachAt Ends u) 2 6
          (there c (hooked_element types facts modes c.result borrows place t ∷ turning) after_item d.world) d.meter r)
          (sym (do_assoc (element_for here place borrows item d2) (onward (λ done. again acts (suc i))) turn_of))
          (follows_on {p = 1} {q = 0} 1 (λ flow s. then_do (onward (λ done. again acts (suc i)) flow s) turn_of) (omega arith) (omega arith)
          (opens_element c place f.2.0 borrows t item turning after_item d2
          ((stands_since h since).room_is place.number f.2.1, omega (arith, (stands_since h since).framed))
          (item_fetched c t i location last d.world leads))
          (λ flow b m1 falls g. on flow b m1 falls g)))))
        where
          item : Location
          item = item_of (load d.world location) location i

          after_item : Temps
          after_item = with_place t last (led leads.place item)

          d2 : State
          d2 = with_trail (Point node.number Fills ∷ Point node.number Done_by ∷ d.trail) d

          on : (flow : Outcome (Unit {0})) (b : State) (m1 : M) → b.meter.units ≤ d.meter.units → Filled c turning after_item d.world place.number flow b m1 →
              Runs c.fixed (Turned EachAt Ends u) 1 6 m1 b.meter (then_do (onward (λ done. again acts (suc i)) flow b) turn_of)
          on (On done) b m1 falls g =
              subst (λ m. Runs c.fixed (Turned EachAt Ends u) 1 6 m b.meter (then_do (again acts (suc i) b) turn_of)) (sym g.0)
              (turn_follows i u after_item b is (holds_place i (led leads.place item) last x) (omega (arith, falls, few)) (since_then since g.1)
              (stands_there top names place.number outermost g.2 (stands_since h (since_then since g.1))))
          on (Out way) b m1 falls g = absurd g

      -- where the place was found
      element_follows : (b : Bool) (i u : ℕ) (location : Location) (last : Temps) (d : State) → nat_lt i len ≡ true → is_seen d.world location ≡ true →
          length_of (load d.world location) ≡ len →
          LeadsTo place_at (place_at + width_at path) place_at location last → HoldsAt i last → d.meter.units ≤ u → Since c.level world d.world →
          Runs c.fixed (Turned EachAt Ends u) 3 6
          (there c (if b then L.Item t place_at counter ∷ hooked_element types facts modes c.result borrows place t ∷ turning
          else L.Element t place_at counter ∷ L.Fill place.number t ∷ turning) last d.world) d.meter
          (then_do (branch {A = Does (TurnOf ℕ (Unit {0}))} b (by_place location i) (by_value location i) d) turn_of)
      element_follows true i u location last d is seen same leads x few since = place_follows i u location last d is seen same leads x few since
      element_follows false i u location last d is seen same leads x few since = value_follows i u location last d is same leads x few since

      found_by : (b : Bool) (i u : ℕ) (location : Location) (last : Temps) (d : State) → nat_lt i len ≡ true →
          is_seen d.world location ≡ true → nat_eq (length_of (load d.world location)) len ≡ b →
          LeadsTo place_at (place_at + width_at path) place_at location last → HoldsAt i last → d.meter.units ≤ u → Since c.level world d.world →
          Runs c.fixed (Turned EachAt Ends u) 4 6 (there c fetching last d.world) d.meter
          (then_do (then_do (carry (as_long_by b) d) (onward (element_to_open location i))) turn_of)
      found_by b i u location last d is seen same leads x few since = by b refl
        where
          line_is : does_at c last d.world (L.Still place_at many)
              ≡ Passes (later_done [] 1 (perform (as_long_by b >>= (λ u. deeds.give last)) d.world))
          line_is =
              ap (λ o. using o (λ place. using_number last many
              (λ n. does.acts (scene c last d.world) (deeds.costs 1 (does.still (location_at last place) n))))) leads.is
              ∙ (ap (λ l. using_number last many (λ n. does.acts (scene c last d.world) (deeds.costs 1 (does.still l n)))) (leads_now leads)
              ∙ (ap (λ o. using o (λ v. does.acts (scene c last d.world) (deeds.costs 1 (does.still location (number_of v))))) x.long
              ∙ (ap (λ done. Passes (later_done [] 1 done)) (still_line_is location len last d.world seen)
              ∙ ap (λ b2. Passes (later_done [] 1 (perform (as_long_by b2 >>= (λ u. deeds.give last)) d.world))) same)))

          by : (b2 : Bool) → b ≡ b2 → Runs c.fixed (Turned EachAt Ends u) 4 6 (there c fetching last d.world) d.meter
              (then_do (then_do (carry (as_long_by b2) d) (onward (element_to_open location i))) turn_of)
          by true e =
              goes c 3 1 (omega arith)
              (line_is ∙ ap (λ b2. Passes (later_done [] 1 (perform (as_long_by b2 >>= (λ u. deeds.give last)) d.world))) e)
              (element_follows (is_hooked facts place.of) i u location last d is seen (eqb-true _ _ (same ∙ e)) leads x few since)
          by false e =
              both_falling (element_to_open location i) turn_of 3 (omega arith) (omega arith)
              (performs c {lo = t} {hi = suc t} {P = λ u now. ⊥} {p = 4} {q = 3} (λ u. last) (deeds.stop {A = Unit {0}} LengthChanged) d 1 (omega arith) tt
              (λ u. kept_none t (suc t) last)
              (line_is ∙ ap (λ b2. Passes (later_done [] 1 (perform (as_long_by b2 >>= (λ u. deeds.give last)) d.world))) e))
              (λ done b3 now2 falls never kept since2. absurd never)

      found_follows : (i u : ℕ) (location : Location) (last : Temps) (d : State) → nat_lt i len ≡ true →
          LeadsTo place_at (place_at + width_at path) place_at location last →
          HoldsAt i last → d.meter.units ≤ u → Since c.level world d.world →
          Runs c.fixed (Turned EachAt Ends u) 4 6 (there c fetching last d.world) d.meter (then_do (found_to_open i location d) turn_of)
      found_follows i u location last d is leads x few since =
          let as_long = as_long_by (nat_eq (length_of (load d.world location)) len) in
          unless_wrong (is_seen d.world location)
          (λ b. then_do (then_do (carry (deeds.unless_gone b as_long) d) (onward (element_to_open location i))) turn_of) d refl
          (λ seen. found_by (nat_eq (length_of (load d.world location)) len) i u location last d is seen refl leads x few since)

      abbrev turned : Bool → ℕ → Does (TurnOf ℕ (Unit {0}))
      turned b i = branch b (acting.◌>>=◌ (find aim) (found_to_open i)) no_more

      beyond : (b : Bool) (i : ℕ) (now : Temps) (world : World) → nat_lt i len ≡ b → HoldsAt i now →
          does_at c now world (L.Beyond counter many false (label End t))
          ≡ branch b (does.gives (scene c now world) counter (deeds.costs 1 (deeds.give (Number (pos i))))) (Leaps (label End t) 1)
      beyond b i now world is x =
          beyond_is c top room names calls outermost gives_listed now world counter many false (label End t) (Number (pos i)) (Number (pos len)) b x.counts
          x.long is

      a_test : (b : Bool) (i : ℕ) (d : State) (m : M) → nat_lt i len ≡ b → EachAt i d m →
          Runs c.fixed (Turned EachAt Ends d.meter.units) 6 6 m d.meter (then_do (turned b i d) turn_of)
      a_test true i d m is y =
          let w = same_width path in
          let now = with_value counter y.now (Number (pos i)) in
          let x : HoldsAt i now = record {
            counts = put_same y.now.values counter (Number (pos i));
            long = put_other y.now.values counter (Number (pos i)) many (λ h. absurd (omega (arith, h))) ∙ y.holds.long;
            aims =
                aims_kept c top room names Open path place_at aim y.now now (λ j le less. put_other y.now.values counter (Number (pos i)) j
                (λ h. absurd (omega (arith, h, le)))) y.holds.aims;
            kept = kept_value counter (Number (pos i)) (omega arith) (omega arith) y.holds.kept;
          } in
          subst (λ m. Runs c.fixed (Turned EachAt Ends d.meter.units) 6 6 m d.meter (then_do (turned true i d) turn_of)) (sym y.is)
          (goes c 5 1 (omega arith) refl
          (goes c 4 1 (omega arith) (beyond true i y.now d.world is y.holds)
          (both_falling (found_to_open i) turn_of 4 (omega arith) (omega arith)
          (find_follows c top room names Open path f.1.0 place_at fetching now aim x.aims d (stands_since h y.since))
          (λ location b last falls looked kept since.
          found_follows i d.meter.units location last b is looked.leads
          (holds_same i now last looked.values (kept_wide (omega arith) (omega (arith, w)) kept) x) falls (since_then y.since since)))))
      a_test false i d m is y =
          let w : Walks c.fixed 2 0 (there c arm y.now d.world) d.meter (there c ending y.now d.world) d.meter =
          walks_on 2 0 (omega arith) (walks_line c 1 d.meter refl)
          (walks_leap c (label End t) 1 d.meter (beyond false i y.now d.world is y.holds) end_is_behind) in
          subst (λ m. Runs c.fixed (Turned EachAt Ends d.meter.units) 6 6 m d.meter (then_do (turned false i d) turn_of)) (sym y.is)
          (lands (LeaveLoop (On tt)) d (omega arith) (record { now = y.now; walks = w; kept = y.holds.kept; since = y.since }))

      pub a_turn : (i : ℕ) (b : State) (m : M) → EachAt i b m →
          Runs c.fixed (Turned EachAt Ends b.meter.units) 6 6 m b.meter
          (then_do (each_turn node.number here place borrows (last_of body) (exec_all body here) aim len i b) turn_of)
      a_turn i b m y =
          a_test (nat_lt i len) i (with_trail (Point node.number Chooses ∷ Point node.number Turns ∷ b.trail) b) m refl
          (record { now = y.now; is = y.is; holds = y.holds; since = y.since })
