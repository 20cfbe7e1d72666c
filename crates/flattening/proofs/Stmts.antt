-- Flat code follows statements without blocks, and blocks.
use Rattle.std.proofs.Common.{inr, ◌≡◌, ℕ, suc, ◌+◌, ◌*◌, ◌≤◌, Bool, true, false, List, [], ◌∷◌, Option, Some, None, refl, sym, ap, ◌∙◌, subst, arith}
use Rattle.std.specs.Prelude.{◌&&◌, if◌then◌else◌, option_map}
use Rattle.std.proofs.lemmas.Bool.{and_parts}
use Rattle.arc_base.specs.BigStep.{then_do}
use Rattle.nim_types.specs.Types.{Ty, Facts}
use Rattle.nim_types.specs.Forms.{form_of}
use Rattle.nim_program.specs.declared.expr.Node.{Node}
use Rattle.nim_program.specs.declared.operation.Use.TheVariants.{Owned, Given as ToPlace}
use Rattle.nim_program.specs.declared.program.Mode.{Mode}
use Rattle.nim_program.specs.declared.stmt.Leaving.{Leaving}
use Rattle.nim_program.specs.declared.stmt.Leaving.TheVariants as K
use Rattle.nim_program.specs.Program.{Expr, Args, NoArg, ByValue, ByPath, Declared, Path, Handlers, Stmt, Do, Idle, Give, Leave, Raise, Try}
use Rattle.nim_program.specs.Program.{Stmts, Empty, Then, Declare, Defer, node_of, type_of, last_after}
use Rattle.nim_meaning.specs.Values.{Value, nothing, bytes, default_of, Holds, Given, At as AtPlace, Operand, Location}
use Rattle.nim_meaning.specs.State.{World, State, slot_at}
use Rattle.nim_meaning.specs.ActTree.{Begins, Does as Done_by, Leaves}
use Rattle.nim_meaning.specs.Ways.{At as Point}
use Rattle.nim_meaning.specs.Shapes.{is_read, is_given}
use Rattle.nim_meaning.specs.Acts.{Broke, Continued, Returned, Outcome, On, Out, Does, onward, as_before, left_as, branch, ◌>>=◌, ◌>>◌, worked}
use Rattle.nim_meaning.specs.Acts.{with_trail}
use Rattle.nim_meaning.specs.Deeds.{Deed, Opens, changed, carry, perform, behind as later_done, Done, Answers, Finishes, Fails, costs as deed_costs}
use Rattle.nim_meaning.specs.Deeds as deeds
use Rattle.nim_meaning.specs.Lifted.{assigned, assigns}
use Rattle.nim_meaning.specs.Places.{place_at, put}
use Rattle.nim_meaning.specs.Here.{Here, gives_hooked}
use Rattle.nim_meaning.specs.Waiting.{Wait, waiting}
use Rattle.nim_meaning.specs.Meaning.{eval, source, gets_copy, at_node, all_end, ended, fill, fill_from, result_gets, result_copies, back_or_on, scoped, exec}
use Rattle.nim_meaning.specs.Meaning.{exec_all}
use Rattle.flat_code.specs.declared.line.From.{From}
use Rattle.flat_code.specs.declared.line.From.TheVariants as F
use Rattle.flat_code.specs.declared.line.Owning.TheVariants as W
use Rattle.flat_code.specs.declared.line.Line.{Line}
use Rattle.flat_code.specs.declared.line.Line.TheVariants as L
use Rattle.flat_code.specs.Scene.{Temps, location_at, Did, Passes}
use Rattle.flat_code.specs.Lines.{is_there, using, using_all, handed_over}
use Rattle.flat_code.specs.Lines as does
use Rattle.flattening.specs.Numbering.{type_number, width, widths, width_in, width_of}
use Rattle.flattening.specs.ExprLines.{has_hooks, is_copied, end_lines, value_ends, lines, copied_lines}
use Rattle.flattening.specs.StmtLines.{Exits, back_lines, place_end, in_scope, gets_line, fill_lines, lines_in, lines_of}
use Rattle.flattening.specs.Flattened.{modes_of}
use Rattle.flattening.specs.Formed.{Scope, With, IsListed, StmtFormed, BlockFormed, Formed}
use Rattle.flattening.proofs.Runs.{M, Runs, known, pays, spares, lands, follows_on}
use Rattle.flattening.proofs.Deeds.{answer_map, mapped}
use Rattle.flattening.proofs.Worlds.{Since, since_none, since_then, since_slot, still_holds}
use Rattle.flattening.proofs.Openings.{answering_all}
use Rattle.flattening.proofs.Temps.{Kept, kept_none, kept_then, kept_wide, kept_handed}
use Rattle.flattening.proofs.Widths.{some_width}
use Rattle.flattening.proofs.Puts.{Puts, puts_line, puts_wide, ◌>>◌ as both_put}
use Rattle.flattening.proofs.Spots.{Spot, here_of, there, scene, Lands, At, weaker, past, after, answers, goes, performs}
use Rattle.flattening.proofs.Standing.{grounded, Stands, stands_since}
use Rattle.flattening.proofs.Endings.{Same, AreListedWaits, IsOpen, as_open, own_follows, waits_end_follow}
use Rattle.flattening.proofs.Leaving.{Around, around_end, Reaches, reaches, reaches_later, Leads, leads_on, Left, further_left, sequel, stays}
use Rattle.flattening.proofs.Leaving.{puts_place_end, puts_ends, scope_leaves, group_leaves}
use Rattle.flattening.proofs.Groups.{alone_follows, waits_listed}
use Rattle.flattening.proofs.Paths.{leads_now}
use Rattle.flattening.proofs.Acting.{CallsFollow}
use Rattle.flattening.proofs.PutsParts.{puts_waits, puts_fill}
use Rattle.flattening.proofs.PutsStmts.{puts_stmt, puts_stmts}
use Rattle.flattening.proofs.Exprs.{expr_follows, sources_follow}
use Rattle.flattening.proofs.Opened.{stands_there, stands_with}
use Rattle.flattening.proofs.Filling.{Filled, HasRoom, copies_follow, fills_follow}

-- the type of a result is one of the table
abbrev pub IsListedResult : List Ty → Option Declared → Type 0
IsListedResult types None = Unit {0}
IsListedResult types (Some place) = IsListed types place.of

module _ (c : Spot) (top : Bool) (room : ℕ → Type 0) (names : (proc place : ℕ) → Type 0) (calls : CallsFollow c names) (outermost : top ≡ true → c.level ≡ 0)
    (gives_listed : IsListedResult c.fixed.program.types c.result) where
  abbrev facts : Facts
  facts = c.fixed.program.facts

  abbrev types : List Ty
  types = c.fixed.program.types

  abbrev modes : (proc position : ℕ) → Mode
  modes = modes_of c.fixed.program c.fixed.plan

  abbrev here : Here
  here = here_of c

  -- ---- what is shown of a statement, and of a block

  abbrev pub StmtFollows : Stmt → Type 1
  StmtFollows stmt =
      (inside : Bool) (Open : Scope) → StmtFormed (grounded c top room names) inside Open stmt → (exits : Exits) (around : Around c exits inside) (t : ℕ)
      (k : List Line) → Reaches around t k → Leads c t (lines_in types facts modes c.result stmt exits t k) → (temps : Temps) (s : State) →
      Stands c room Open s.world →
      Runs c.fixed (Left c around k t (t + width_in stmt) temps s.world) 0 0
      (there c (lines_in types facts modes c.result stmt exits t k) temps s.world) s.meter
      (exec stmt here s)

  abbrev pub BlockFollows : Stmts → Type 1
  BlockFollows block =
      (inside : Bool) (Open : Scope) → BlockFormed (grounded c top room names) inside Open block → (exits : Exits) (around : Around c exits inside) (t : ℕ)
      (k : List Line) → Reaches around t k → Leads c t (lines_of types facts modes c.result block exits t k) → (temps : Temps) (s : State) →
      Stands c room Open s.world →
      Runs c.fixed (Left c around k t (t + width_of block) temps s.world) 0 0 (there c (lines_of types facts modes c.result block exits t k) temps s.world)
      s.meter (exec_all block here s)

  has_room : {Open : Scope} {world : World} (n : ℕ) → room n → Stands c room Open world → HasRoom c world n
  has_room n is h = (h.room_is n is, omega (arith, h.framed))

  -- ---- statements without blocks

  pub does_value : (value : Expr) → StmtFollows (Do value)
  does_value value inside Open f exits around t k r l temps s h =
      after 0 (omega arith) (omega arith)
      (alone_follows c top room names Open value Owned (waits_listed c top room names Open value Owned f) (expr_follows c top room names Open calls value f) t k
      temps (with_trail (Point (node_of value).number Begins ∷ s.trail) s) h)
      (λ v b now comes kept since. stays c around b now (omega arith) kept since)

  pub does_nothing : (node : Node) (parts : Args) → StmtFollows (Idle node parts)
  does_nothing node parts inside Open f exits around t k r l temps s h =
      pays 0 1 (omega arith)
      (stays c around (with_trail (Point node.number Done_by ∷ s.trail) (worked 1 s)) temps (omega arith)
      (kept_none t (t + width_in (Idle node parts)) temps) (since_none c.level s.world))

  pub raises : (node : Node) (exception : Option Ty) (message : Args) → StmtFollows (Raise node exception message)
  raises node exception message inside Open f exits around t k r l temps s h =
      stays c around s temps (omega arith) (kept_none t (t + width_in (Raise node exception message)) temps) (since_none c.level s.world)

  pub tries : (node : Node) (body : Stmts) (handlers : Handlers) (last : Stmts) → StmtFollows (Try node body handlers last)
  tries node body handlers last inside Open f exits around t k r l temps s h =
      stays c around s temps (omega arith) (kept_none t (t + width_in (Try node body handlers last)) temps) (since_none c.level s.world)

  -- ---- ways out: their lines are what stands there

  pub leaves : (node : Node) (leaving : Leaving) (parts : Args) → StmtFollows (Leave node leaving parts)
  leaves node K.Break parts inside Open f exits around t k r l temps s h =
      let hi = t + width_in (Leave node K.Break parts) in
      pays 0 1 (omega arith)
      (lands (Out (Broke node.number)) (with_trail (Point node.number Leaves ∷ s.trail) (worked 1 s)) (omega arith)
      (k, r.breaks f, f, record { now = temps; is = refl; has = tt; kept = kept_none t hi temps; since = since_none c.level s.world }))
  leaves node K.Continue parts inside Open f exits around t k r l temps s h =
      let hi = t + width_in (Leave node K.Continue parts) in
      pays 0 1 (omega arith)
      (lands (Out (Continued node.number)) (with_trail (Point node.number Leaves ∷ s.trail) (worked 1 s)) (omega arith)
      (k, r.continues f, f, record { now = temps; is = refl; has = tt; kept = kept_none t hi temps; since = since_none c.level s.world }))
  leaves node K.Return parts inside Open f exits around t k r l temps s h =
      let hi = t + width_in (Leave node K.Return parts) in
      pays 0 1 (omega arith)
      (lands (Out (Returned node.number)) (with_trail (Point node.number Leaves ∷ s.trail) (worked 1 s)) (omega arith)
      (k, record { now = temps; is = refl; has = tt; kept = kept_none t hi temps; since = since_none c.level s.world }))

  -- ---- blocks

  pub empty : BlockFollows Empty
  empty inside Open f exits around t k r l temps s h = stays c around s temps (omega arith) (kept_none t (t + 0) temps) (since_none c.level s.world)

  pub then_more : (first : Stmt) (rest : Stmts) → StmtFollows first → BlockFollows rest → BlockFollows (Then first rest)
  then_more first rest follows more inside Open f exits around t k r l temps s h =
      let u = t + width_in first in
      let hi = t + width_of (Then first rest) in
      let puts_rest = puts_stmts types facts modes c.result rest exits u around.puts in
      sequel c around (λ done. exec_all rest here) 0 (omega arith) (omega arith) (omega arith) (omega arith) (omega arith) (kept_none t hi temps)
      (since_none c.level s.world)
      (follows inside Open f.0 exits around t (lines_of types facts modes c.result rest exits u k) (reaches (omega arith) (omega arith) puts_rest r)
      l temps s h)
      (λ b now kept since.
      further_left c around (omega arith) (omega arith) (kept_wide (omega arith) (omega arith) kept) since
      (more inside Open f.1 exits around u k (reaches_later (omega arith) r)
      (leads_on (omega arith) (omega arith) (puts_stmt types facts modes c.result first exits t around.puts) l) now b (stands_since h since)))

  pub no_path : (node : Node) (place : Declared) (cursor : Bool) (path : Path) (more : Args) (rest : Stmts) →
      BlockFollows (Declare node place cursor (ByPath path more) rest)
  no_path node place cursor path more rest inside Open f exits around t k r l temps s h =
      stays c around s temps (omega arith) (kept_none t (t + width_of (Declare node place cursor (ByPath path more) rest)) temps) (since_none c.level s.world)

  pub no_defer : (node : Node) (last rest : Stmts) → BlockFollows (Defer node last rest)
  no_defer node last rest inside Open f exits around t k r l temps s h =
      stays c around s temps (omega arith) (kept_none t (t + width_of (Defer node last rest)) temps) (since_none c.level s.world)

  -- what follows a place that is declared, up to where it ends
  scope_follows : (place : Declared) (rest : Stmts) (last : ℕ) → IsListed types place.of → BlockFollows rest → (inside : Bool) (Open : Scope) →
      BlockFormed (grounded c top room names) inside (With (grounded c top room names) Open place.number) rest → (exits : Exits)
      (around : Around c exits inside) (t u hi : ℕ) (k : List Line) → t ≤ u → u + width_of rest ≤ hi → Reaches around t k →
      Leads c u (lines_of types facts modes c.result rest (in_scope types facts modes c.result place exits) u (place_end types facts place k)) →
      (temps : Temps) (s : State) → Stands c room (With (grounded c top room names) Open place.number) s.world →
      Runs c.fixed (Left c around k t hi temps s.world) 0 0
      (there c (lines_of types facts modes c.result rest (in_scope types facts modes c.result place exits) u (place_end types facts place k)) temps s.world)
      s.meter (scoped here place last (exec_all rest here) s)
  scope_follows place rest last listed follows inside Open f exits around t u hi k low high r l temps s h =
      scope_leaves c around place listed last (h.open_is false place.number (inr (refl, tt))) (exec_all rest here) s
      (further_left c (around_end around (place_end types facts place) (puts_place_end c place)) {lo' = u} {hi' = u + width_of rest} low high
      (kept_none t hi temps) (since_none c.level s.world)
      (follows inside (With (grounded c top room names) Open place.number) f (in_scope types facts modes c.result place exits)
      (around_end around (place_end types facts place) (puts_place_end c place)) u (place_end types facts place k)
      (inner_reaches place exits around t u k low r) l temps s h))
    where
      inner_reaches : (place : Declared) (exits : Exits) {inside : Bool} (around : Around c exits inside) (t u : ℕ) (k : List Line) → t ≤ u →
          Reaches around t k →
          Reaches (around_end around (place_end types facts place) (puts_place_end c place)) u (place_end types facts place k)
      inner_reaches place exits around t u k low r =
          let q = reaches {t' = u} low (omega arith) (puts_place_end c place (4 * t) (4 * t)) r in
          record { breaks = q.breaks; continues = q.continues; break_before = q.break_before; continue_before = q.continue_before }

  pub declares : (node : Node) (place : Declared) (cursor : Bool) (rest : Stmts) → BlockFollows rest → BlockFollows (Declare node place cursor NoArg rest)
  declares node place cursor rest follows inside Open f exits around t k r l temps s h =
      let n = place.number in
      let v = default_of facts place.of in
      let hi = t + width_of (Declare node place cursor NoArg rest) in
      let s1 : State = worked (bytes v) (with_trail (Point node.number Done_by ∷ s.trail) (worked 1 s)) in
      let s2 : State = record s1 { world = changed (Opens c.level n (Holds v)) s.world } in
      pays 12 1 (omega arith)
      (pays (12 + 12 * bytes v) (bytes v) (omega arith)
      (goes c 0 (1 + (bytes v + 0)) (omega arith)
      (ap (λ ty. does.acts (scene c temps s.world) (deed_costs 1 (does.fills c.level n (default_of facts ty)))) f.0)
      (further_left c around {lo' = t} {hi' = hi} (omega arith) (omega arith) (kept_none t hi temps) (since_slot c.level s.world c.level n (Holds v))
      (scope_follows place rest (last_after node.number rest) f.0 follows inside Open f.2 exits around t (suc t) hi k (omega arith) (omega arith) r
      (leads_on {lo = 0} {hi = 0} (omega arith) (omega arith) (puts_line (L.Blank n (type_number types place.of)) refl) l) temps s2
      (stands_with top names n (Holds v) outermost f.1 h)))))

  -- a declared place with a value, whose temporaries end behind it
  module _ (node : Node) (place : Declared) (value : Expr) (listed : IsListed types place.of) (Open : Scope) (f : Formed (grounded c top room names) Open value)
      (is_room : room place.number) (t : ℕ) (temps : Temps) (s : State) (h : Stands c room Open s.world) where
    abbrev n : ℕ
    n = place.number

    abbrev gets : Does (Unit {0})
    gets = eval value ToPlace here >>= (λ v. at_node node.number Done_by (fill here n v))

    abbrev copies : Does (Unit {0})
    copies = source value here >>= (λ location. at_node node.number Done_by (fill_from here place location))

    -- before these lines, with the place open
    abbrev OpenedAt : List Line → Outcome (Unit {0}) → State → M → Type 0
    OpenedAt k (On u) b m = At c k t (t + width value) temps s.world (λ now. is_there (slot_at b.world c.level n) ≡ true) b.world m
    OpenedAt k (Out way) b m = ⊥

    filled_since : (k : List Line) (d : State) (now : Temps) → Kept t (t + width value) temps now → Since c.level s.world d.world →
        (flow : Outcome (Unit {0})) (b : State) (m : M) → Filled c k now d.world n flow b m → OpenedAt k flow b m
    filled_since k d now kept since (On u) b m g = record { now = now; is = g.0; has = g.2; kept = kept; since = since_then since g.1 }
    filled_since k d now kept since (Out way) b m g = absurd g

    filled_by : (k : List Line) (b : Bool) → is_copied facts ToPlace value ≡ b →
        Runs c.fixed (OpenedAt k) 0 1
        (there c (if b then copied_lines types facts modes value t (L.Own (W.PlaceCopies n (type_number types place.of)) (F.Place (suc t) ∷ []) ∷ k)
        else lines types facts modes value ToPlace t (L.Fill n t ∷ k)) temps s.world) s.meter (branch {A = Does (Unit {0})} b copies gets s)
    filled_by k true e =
        let read = (and_parts (is_given ToPlace) (is_read value) (and_parts (gives_hooked facts (type_of value)) (is_given ToPlace && is_read value) e).1).1 in
        past {q' = 1} (onward (λ location. at_node node.number Done_by (fill_from here place location))) 2 (omega arith) (omega arith)
        (sources_follow c top room names Open calls value f read t _ temps s h)
        (λ l d now leads kept since.
        weaker c
        (spares 1 0 (omega arith) (omega arith)
        (copies_follow c place listed (F.Place (suc t)) l k now (with_trail (Point node.number Done_by ∷ d.trail) d)
        (has_room n is_room (stands_since h since))
        (λ go. ap (λ o. using o (λ x. go (x ∷ [])))
        (ap (option_map (λ place. AtPlace (location_at now place))) leads.0.is ∙ ap (λ l. Some (AtPlace l)) (leads_now leads.0)))))
        (λ flow b m g. filled_since k d now kept since flow b m g))
    filled_by k false e =
        past {q' = 1} (onward (λ v. at_node node.number Done_by (fill here n v))) 2 (omega arith) (omega arith)
        (expr_follows c top room names Open calls value f ToPlace t (L.Fill n t ∷ k) temps s h)
        (λ v d now has kept since.
        weaker c
        (spares 1 0 (omega arith) (omega arith)
        (fills_follow c n v t k now (with_trail (Point node.number Done_by ∷ d.trail) d) (has_room n is_room (stands_since h since)) has))
        (λ flow b m g. filled_since k d now kept since flow b m g))

    -- and then its temporaries end
    opened_ends : (waits : List Wait) → AreListedWaits c waits → (k : List Line) {p q : ℕ} {m : M} (a : State) (part : Does (Unit {0})) →
        Runs c.fixed (OpenedAt (end_lines types waits k)) p q m a.meter (part a) → Runs c.fixed (OpenedAt k) p q m a.meter (ended here waits part a)
    opened_ends [] listed k a part f = f
    opened_ends (w ∷ ws) listed k {p} {q} {m} a part f =
        follows_on q (λ flow. all_end c.level (left_as flow) (w ∷ ws) >> as_before flow) (omega arith) (omega arith) f (λ flow b m1 falls g. on flow b m1 g)
      where
        on : (flow : Outcome (Unit {0})) (b : State) (m1 : M) → OpenedAt (end_lines types (w ∷ ws) k) flow b m1 →
            Runs c.fixed (OpenedAt k) q q m1 b.meter ((all_end c.level (left_as flow) (w ∷ ws) >> as_before flow) b)
        on (On u) b m1 g =
            subst (λ m. Runs c.fixed (OpenedAt k) q q m b.meter ((all_end c.level (left_as (On u)) (w ∷ ws) >> as_before (On u)) b)) (sym g.is)
            (after q (omega arith) (omega arith) (waits_end_follow c (w ∷ ws) listed (On u) k g.now b tt)
            (λ u2 d last same kept since.
            lands (On u) d (omega arith)
            (record {
              now = last;
              is = refl;
              has = still_holds c.level n (omega arith) since g.has;
              kept = subst (λ now. Kept t (t + width value) temps now) (sym same) g.kept;
              since = since_then g.since since;
            })))
        on (Out way) b m1 g = absurd g

    -- and then what follows
    pub declared_then : (k : List Line) {Good : Outcome (Unit {0}) → State → M → Type 0} {q : ℕ} (go : Does (Unit {0})) →
        ((d : State) (now : Temps) → is_there (slot_at d.world c.level n) ≡ true → Kept t (t + width value) temps now → Since c.level s.world d.world →
        Runs c.fixed Good 1 q (there c k now d.world) d.meter (go d)) →
        Runs c.fixed Good 0 q
        (there c (fill_lines types facts modes c.result place value t (value_ends types facts modes value ToPlace k)) temps s.world) s.meter
        (then_do (ended here (waiting facts modes value ToPlace) (branch {A = Does (Unit {0})} (gets_copy here ToPlace value) copies gets) s)
        (onward (λ done. go)))
    declared_then k {Good} {q} go more =
        let waits = waiting facts modes value ToPlace in
        follows_on 1 (onward (λ done. go)) (omega arith) (omega arith)
        (opened_ends waits (waits_listed c top room names Open value ToPlace f) k s
        (branch {A = Does (Unit {0})} (gets_copy here ToPlace value) copies gets)
        (filled_by (end_lines types waits k) (is_copied facts ToPlace value) refl))
        (λ flow d m1 falls g. on flow d m1 g)
      where
        on : (flow : Outcome (Unit {0})) (d : State) (m1 : M) → OpenedAt k flow d m1 → Runs c.fixed Good 1 q m1 d.meter (onward (λ done. go) flow d)
        on (On u) d m1 g = subst (λ m. Runs c.fixed Good 1 q m d.meter (go d)) (sym g.is) (more d g.now g.has g.kept g.since)
        on (Out way) d m1 g = absurd g

  pub declares_as : (node : Node) (place : Declared) (cursor : Bool) (value : Expr) (more : Args) (rest : Stmts) → BlockFollows rest →
      BlockFollows (Declare node place cursor (ByValue value more) rest)
  declares_as node place cursor value more rest follows inside Open f exits around t k r l temps s h =
      let n = place.number in
      let u = suc t + widths (ByValue value more) in
      let hi = t + width_of (Declare node place cursor (ByValue value more) rest) in
      let waits = waiting facts modes value ToPlace in
      let lines_rest = lines_of types facts modes c.result rest (in_scope types facts modes c.result place exits) u (place_end types facts place k) in
      pays 12 1 (omega arith)
      (spares 0 0 (omega arith) (omega arith)
      (declared_then node place value f.1 Open f.0 f.2 (suc t) temps (with_trail (Point node.number Begins ∷ s.trail) (worked 1 s)) h lines_rest
      (scoped here place (last_after node.number rest) (exec_all rest here))
      (λ d now opened kept since.
      spares 0 0 (omega arith) (omega arith)
      (further_left c around {lo' = t} {hi' = hi} (omega arith) (omega arith) (kept_wide (omega arith) (omega arith) kept) since
      (scope_follows place rest (last_after node.number rest) f.1 follows inside Open f.3 exits around t u hi k (omega arith) (omega arith) r
      (leads_on {lo = 0} {hi = 4 * u} (omega arith) (omega arith)
      (both_put (puts_wide {hi = 4 * u} (omega arith) (omega arith) (puts_fill types facts modes c.result place value (suc t))) (puts_waits types waits))
      l) now d
      (stands_there top names n outermost opened (stands_since h since)))))))

  -- ---- results

  -- control goes back, or on
  goes_back : (lines_ends : List Line → List Line) (puts : (lo hi : ℕ) → Puts lo hi lines_ends) (back : Bool) (node : ℕ) (exits : Exits) (inside : Bool)
      (around : Around c exits inside) (k : List Line) (lo hi : ℕ) (temps now : Temps) (world : World) (b : State) → Kept lo hi temps now →
      Since c.level world b.world →
      Runs c.fixed (Left c (around_end around lines_ends puts) (lines_ends k) lo hi temps world) 0 0
      (there c (lines_ends (back_lines exits back k)) now b.world) b.meter (back_or_on back node b)
  goes_back lines_ends puts true node exits inside around k lo hi temps now world b kept since =
      lands (Out (Returned node)) (with_trail (Point node Leaves ∷ b.trail) b) (omega arith)
      (k, record { now = now; is = refl; has = tt; kept = kept; since = since })
  goes_back lines_ends puts false node exits inside around k lo hi temps now world b kept since =
      stays c (around_end around lines_ends puts) b now (omega arith) kept since

  -- a deed whose answer nobody looks at
  same_map : {A B C : Type 0} (f : A → B) (g : B → C) (d : Done A) → answer_map g (answer_map f d) ≡ answer_map (λ x. g (f x)) d
  same_map f g (Answers es n x world) = refl
  same_map f g (Finishes es n status world) = refl
  same_map f g (Fails es n world) = refl

  let_go : (deed : Deed (Unit {0})) (temps : Temps) (world : World) →
      perform (deeds.◌>>=◌ deed (λ u. deeds.give temps)) world
      ≡ perform (deeds.◌>>=◌ (deeds.◌>>=◌ deed (λ u. deeds.give nothing)) (λ v. deeds.give temps)) world
  let_go deed temps world =
      mapped (λ u. temps) deed world
      ∙ (sym (same_map (λ u. nothing) (λ v. temps) (perform deed world))
      ∙ (sym (ap (answer_map (λ (v : Value). temps)) (mapped (λ u. nothing) deed world))
      ∙ sym (mapped (λ v. temps) (deeds.◌>>=◌ deed (λ u. deeds.give nothing)) world)))

  -- the result gets a value
  gets_follow : (result : Option Declared) → IsListedResult types result → (hooked : Bool) (v : Value) (t : ℕ) (k : List Line) (temps : Temps) →
      temps.values t ≡ Some v → (s : State) → ((place : Declared) → result ≡ Some place → IsOpen c place s.world) →
      Runs c.fixed (Lands c k t (suc t) temps s.world (λ v now. Unit {0})) 1 0
      (there c (gets_line types facts modes c.result result hooked (F.Value t) k) temps s.world) s.meter (result_gets hooked result here v s)
  gets_follow None listed hooked v t k temps has s opened =
      answers {P = λ v now. Unit {0}} nothing s temps (omega arith) tt (kept_none t (suc t) temps) (since_none c.level s.world)
  gets_follow (Some place) listed false v t k temps has s opened =
      performs c (λ v. temps) (put (place_at c.level place.number) v) s 1 (omega arith)
      (answering_all (λ v. Unit {0}) (λ v. tt) (put (place_at c.level place.number) v)) (λ v. kept_none t (suc t) temps)
      (ap (λ o. using o (λ v. does.acts (scene c temps s.world) (deed_costs 1 (put (place_at c.level place.number) v)))) has)
  gets_follow (Some place) listed true v t k temps has s opened =
      let f = form_of facts place.of in
      let at = place_at c.level place.number in
      let from : List From = F.Value t ∷ [] in
      let left = handed_over from temps in
      let x = scene c left s.world in
      performs c (λ v. left) (assigns f at (Given v)) s 1 (omega arith)
      (answering_all (λ v. Unit {0}) (λ v. tt) (assigns f at (Given v)))
      (λ v. kept_handed from (omega arith, omega arith, tt) (kept_none t (suc t) temps))
      (ap (λ o. using (option_map Given o) (λ y. does.if_open s.world c.level place.number (does.acts x (deed_costs 1
      (does.owns (known c.fixed) (W.ResultGets place.number (type_number types place.of)) c.level (y ∷ [])))))) has
      ∙ (as_open c s.world place (opened place refl) _
      ∙ (ap (λ ty. does.acts x (deed_costs 1 (assigned (form_of facts ty) at (Given v)))) listed
      ∙ ap (λ d. Passes (later_done [] 1 d)) (let_go (assigned f at (Given v)) left s.world))))

  -- or a copy
  copies_result : (result : Option Declared) → IsListedResult types result → (l : Location) (t : ℕ) (k : List Line) (temps : Temps) →
      ((go : List Operand → Did) → using_all temps (F.Place t ∷ []) go ≡ go (AtPlace l ∷ [])) → (s : State) →
      ((place : Declared) → result ≡ Some place → IsOpen c place s.world) →
      Runs c.fixed (Lands c k 0 0 temps s.world (Same temps)) 1 0
      (there c (gets_line types facts modes c.result result true (F.Place t) k) temps s.world) s.meter (result_copies result here l s)
  copies_result None listed l t k temps fetched s opened =
      answers {P = Same temps} tt s temps (omega arith) refl (kept_none 0 0 temps) (since_none c.level s.world)
  copies_result (Some place) listed l t k temps fetched s opened =
      subst (λ ty. Runs c.fixed (Lands c k 0 0 temps s.world (Same temps)) 1 0
      (there c (L.Own (W.ResultGets place.number (type_number types place.of)) (F.Place t ∷ []) ∷ k) temps s.world) s.meter
      (carry (assigned (form_of facts ty) (place_at c.level place.number) (AtPlace l)) s)) listed
      (own_follows c (W.ResultGets place.number (type_number types place.of)) (F.Place t ∷ []) (AtPlace l ∷ []) k temps s
      (as_open c s.world place (opened place refl)) fetched refl)

  module _ (node : Node) (back : Bool) (value : Expr) (Open : Scope) (f : Formed (grounded c top room names) Open value) (exits : Exits) (inside : Bool)
      (around : Around c exits inside) (t : ℕ) (k : List Line) (temps : Temps) (s : State) (h : Stands c room Open s.world) where
    abbrev hi : ℕ
    hi = t + width_in (Give node back value)

    abbrev ends_it : List Line → List Line
    ends_it = end_lines types (waiting facts modes value ToPlace)

    abbrev rest : List Line
    rest = ends_it (back_lines exits back k)

    abbrev copies_to : Does (Unit {0})
    copies_to = source value here >>= (λ location. at_node node.number Done_by (result_copies c.result here location) >> back_or_on back node.number)

    abbrev gets_it : Does (Unit {0})
    gets_it = eval value ToPlace here >>= (λ v. at_node node.number Done_by (result_gets (gives_hooked facts (type_of value)) c.result here v)
        >>= (λ given. back_or_on back node.number))

    abbrev Gives : Outcome (Unit {0}) → State → M → Type 0
    Gives = Left c (around_end around ends_it (puts_ends c (waiting facts modes value ToPlace))) (ends_it k) t hi temps s.world

    given_on : (d : State) (now : Temps) → Kept (suc t) (suc t + width value) temps now → Since c.level s.world d.world → (g : State) (last : Temps) →
        Kept (suc t) (suc t + width value) now last → Since c.level d.world g.world →
        Runs c.fixed Gives 13 0 (there c rest last g.world) g.meter (back_or_on back node.number g)
    given_on d now kept since g last kept2 since2 =
        spares 0 0 (omega arith) (omega arith)
        (goes_back ends_it (puts_ends c (waiting facts modes value ToPlace)) back node.number exits inside around k t hi temps last s.world g
        (kept_wide (omega arith) (omega arith) (kept_then kept kept2)) (since_then since since2))

    given_by : (b : Bool) → is_copied facts ToPlace value ≡ b → Runs c.fixed Gives 12 0
        (there c (if b then copied_lines types facts modes value (suc t) (gets_line types facts modes c.result c.result true (F.Place (suc (suc t))) rest)
        else lines types facts modes value ToPlace (suc t) (gets_line types facts modes c.result c.result (has_hooks facts value) (F.Value (suc t)) rest))
        temps s.world) s.meter (branch {A = Does (Unit {0})} b copies_to gets_it s)
    given_by true e =
        let read = (and_parts (is_given ToPlace) (is_read value) (and_parts (gives_hooked facts (type_of value)) (is_given ToPlace && is_read value) e).1).1 in
        after 14 (omega arith) (omega arith) (sources_follow c top room names Open calls value f read (suc t) _ temps s h)
        (λ l d now leads kept since.
        after 13 (omega arith) (omega arith)
        (copies_result c.result gives_listed l (suc (suc t)) rest now
        (λ go. ap (λ o. using o (λ x. go (x ∷ [])))
        (ap (option_map (λ place. AtPlace (location_at now place))) leads.0.is ∙ ap (λ l. Some (AtPlace l)) (leads_now leads.0)))
        (with_trail (Point node.number Done_by ∷ d.trail) d) (stands_since h since).result_is)
        (λ u g last same kept2 since2.
        given_on d now kept since g last
        (subst (λ last. Kept (suc t) (suc t + width value) now last) (sym same) (kept_none (suc t) (suc t + width value) now)) since2))
    given_by false e =
        after 14 (omega arith) (omega arith) (expr_follows c top room names Open calls value f ToPlace (suc t) _ temps s h)
        (λ v d now has kept since.
        after 13 (omega arith) (omega arith)
        (gets_follow c.result gives_listed (has_hooks facts value) v (suc t) rest now has (with_trail (Point node.number Done_by ∷ d.trail) d)
        (stands_since h since).result_is)
        (λ u g last done kept2 since2.
        let w = some_width value in given_on d now kept since g last (kept_wide (omega arith) (omega (arith, w)) kept2) since2))

  pub gives : (node : Node) (back : Bool) (value : Expr) → StmtFollows (Give node back value)
  gives node back value inside Open f exits around t k r l temps s h =
      let s1 : State = with_trail (Point node.number Begins ∷ s.trail) (worked 1 s) in
      pays 12 1 (omega arith)
      (group_leaves c around (waiting facts modes value ToPlace) (waits_listed c top room names Open value ToPlace f)
      (branch {A = Does (Unit {0})} (gets_copy here ToPlace value) (copies_to node back value Open f exits inside around t k temps s1 h)
      (gets_it node back value Open f exits inside around t k temps s1 h)) s1
      (given_by node back value Open f exits inside around t k temps s1 h (is_copied facts ToPlace value) refl))
