-- A number at a location becomes another one: what the line does is followed.
use Rattle.std.proofs.Common.{append-nil, ◌≡◌, inl, ℕ, ◌+◌, ◌^◌, ◌<◌, ◌≤◌, List, [], ◌∷◌, ◌++◌, length, map, Ok, Option, Some, None, Bool, true, false, ℤ, pos}
use Rattle.std.proofs.Common.{refl, sym, ap, subst, ◌∙◌, arith}
use Rattle.std.proofs.lemmas.Bool.{and_parts}
use Rattle.std.specs.Prelude.{option_map, ◌&&◌}
use Rattle.arc_base.specs.Event.{writes}
use Rattle.arc_base.specs.declared.outside.Stream.TheVariants.{Err}
use Rattle.rv32_isa.specs.declared.micro_op.Size.TheVariants.{Word}
use Rattle.nim_types.specs.Types.{Ty}
use Rattle.nim_types.specs.Table.{facts_in}
use Rattle.nim_program.specs.declared.operation.Operation.TheVariants as O
use Rattle.nim_program.specs.declared.operation.Operator.{Operator}
use Rattle.flat_code.specs.declared.line.UseAt.{UseAt}
use Rattle.nim_program.specs.Fitting.{steps, updates}
use Rattle.nim_program.specs.Ints.{Checked, Fine, Trapped, applied, fits as is_int_number}
use Rattle.nim_program.specs.Kinds.{is_int, kind_if, same_value}
use Rattle.nim_program.specs.Traps.{trap_text}
use Rattle.nim_program.specs.View.{if_type}
use Rattle.nim_meaning.specs.Acts.{line_of}
use Rattle.nim_meaning.specs.Deeds.{Answers, Finishes, Stores, behind, costs, does, give, perform, unless_gone, ◌>>=◌, ◌>>◌, sets}
use Rattle.nim_meaning.specs.Places.{kept_if, may_change, place_at, put as put_to}
use Rattle.nim_meaning.specs.State.{held, is_full_at, is_there, load, slot_at, store, with_slot, is_whole}
use Rattle.nim_meaning.specs.Table.{operate, outcome, updated}
use Rattle.nim_meaning.specs.Values.{At, Given, Holds, Location, Number, Value, bytes, location_of, nothing, number_of, value_of}
use Rattle.flat_code.specs.declared.block.BlockLine.{BlockLine}
use Rattle.flat_code.specs.declared.line.From.{From}
use Rattle.flat_code.specs.declared.line.From.TheVariants as F
use Rattle.flat_code.specs.declared.line.Line.TheVariants as L
use Rattle.flat_code.specs.Codes.{block_plain}
use Rattle.flat_code.specs.Fits.{if_kind, is_location, is_standing, is_value, place_named}
use Rattle.flat_code.specs.Lines.{gives, using}
use Rattle.flat_code.specs.Running.{scene_of}
use Rattle.flat_code.specs.Scene.{Located, Passes, Temps, Where, location_at, with_value}
use Rattle.flat_code.specs.Shapes.{has_shape, number}
use Rattle.word_code.specs.declared.word.WordInstr.{WordInstr}
use Rattle.word_code.specs.declared.word.WordInstr.TheVariants.{Load, Store}
use Rattle.word_code.specs.Memory.{number_at}
use Rattle.word_code.specs.RoutineTable.{Cell}
use Rattle.word_code.specs.Words.{Vars, put}
use Rattle.word_code.proofs.ForCallers.{Runs, at, got, none as no_run, run_constant, run_load, then_runs}
use Rattle.word_lowering.specs.declared.homes.TheConstants.{FIFTH, FIRST, FOURTH, OWN_FROM, SECOND}
use Rattle.word_lowering.specs.declared.homes.Home.{Home}
use Rattle.word_lowering.specs.declared.homes.Home.TheVariants.{Variable}
use Rattle.word_lowering.specs.declared.homes.Housed.{Housed}
use Rattle.word_lowering.specs.declared.spots.Spot.{Spot}
use Rattle.word_lowering.specs.declared.spots.Spot.TheVariants.{Held, Lies}
use Rattle.word_lowering.specs.declared.texts.TheConstants.{FIXED_BYTES}
use Rattle.word_lowering.specs.Layouts.{holds_address, owns}
use Rattle.word_lowering.specs.LineCode.{label_before, location, updated_code}
use Rattle.word_lowering.specs.Lowered.{any_branches}
use Rattle.word_lowering.specs.Operations.{binary_code, word}
use Rattle.word_lowering.specs.Spots.{address, spot_of}
use Rattle.word_lowering.proofs.HeapKept.{heap_same}
use Rattle.word_lowering.proofs.ApplyFits.{applies, RowHere}
use Rattle.word_lowering.proofs.Arithmetic.{word_small}
use Rattle.word_lowering.proofs.ControlLines.{int_read, plain, value_type}
use Rattle.word_lowering.proofs.Gets.{Gets, SameTemps, good_place, high_variable}
use Rattle.word_lowering.proofs.InMemory.{IsAt}
use Rattle.word_lowering.proofs.Keeping.{nowhere, points_there, spot_held, spot_memory}
use Rattle.word_lowering.proofs.LineFits.{int_shape, no_type, number_fits, number_value, same_type, some_kind}
use Rattle.word_lowering.proofs.Lines.{Basis, IsGood, Settles, all_procs, all_sites, changed, changed_later, goes_on, known, lower, mapped_settles, stands_next}
use Rattle.word_lowering.proofs.Lines.{starts}
use Rattle.word_lowering.proofs.Lines.{bound_for, where_there}
use Rattle.word_lowering.proofs.Located.{IsReadAt, full_there, led_located, owned_located}
use Rattle.word_lowering.proofs.MovedLines.{own_plain}
use Rattle.word_lowering.proofs.Moves.{IsHigh, address_runs, all_same, points_same, same_more, same_second}
use Rattle.word_lowering.proofs.NumberLines.{variable}
use Rattle.word_lowering.proofs.OperandLines.{MayTrap}
use Rattle.word_lowering.proofs.OpRuns.{same_put}
use Rattle.word_lowering.proofs.OrdinalRuns.{AllSame, beyond, put_here, put_other, put_under}
use Rattle.word_lowering.proofs.OutPlaces.{Written, far_written, high_in_memory, letter_written, own_written}
use Rattle.word_lowering.proofs.ReadFacts.{item_read}
use Rattle.word_lowering.proofs.Related.{Both, body_of, high, within}
use Rattle.word_lowering.proofs.Scenes.{At as IsHeldAt, may_owned, FromOwned, FromPlace, IsThere, Points, address_of, house, looked, of_place, of_location}
use Rattle.word_lowering.proofs.Settling.{LabelsLead, TrapsStop, code_here, code_next, code_of_line, trap_settles}
use Rattle.word_lowering.proofs.ShapeFacts.{never, of_numbers}
use Rattle.word_lowering.proofs.Sites.{Housing, InMemory, Site, around, by_address, data_end, in_data, in_places, in_variable, room}
use Rattle.word_lowering.proofs.SitesApart.{houses, variables_apart}
use Rattle.word_lowering.proofs.Sources.{Readable}
use Rattle.word_lowering.proofs.StoreLines.{none_temps, writes_at}
use Rattle.word_lowering.proofs.Stores.{good_written, ground_then}
use Rattle.word_lowering.proofs.UpdateRuns.{Comes, fourth_stored, update_comes}
use Rattle.word_lowering.proofs.ValueFacts.{type_in, IsPlain}
use Rattle.word_lowering.proofs.GoodLeads.{owned_seen}
use Rattle.word_lowering.proofs.UpdateTraps.{may_map, step_updates, updated_may}

module _ (x : Basis) (g : Both) (line : BlockLine) (rest : List BlockLine) (y : IsGood x (starts g line rest)) where
  abbrev sites : List Site
  sites = all_sites x g line rest y

  abbrev next : List WordInstr
  next = code_next x g line rest y

  -- ---- where the number is: in the variable of a place of the call, or at an address

  data WordAt (h : Housed) (l : Location) : Type 0 where
    held_at : (n v : ℕ) → IsThere g.call.site (of_place n) → owns (house g.call.site (of_place n)) ≡ true
        → looked x.table g.call.site (of_place n) ≡ number None → (house g.call.site (of_place n)).home ≡ Variable v → OWN_FROM ≤ v
        → h ≡ house g.call.site (of_place n) → (old : Value) → slot_at g.world g.call.site.level n ≡ Some (Holds old)
        → l ≡ place_at g.call.site.level n → WordAt h l
    -- it is read where it stands, and somebody owns it if it may change
    lies_at : (home : Home) → spot_of h ≡ Lies home → IsHigh home → (a : ℕ) → Points g.call.site.base g.call.vars home a
        → IsReadAt x sites y.linked g.memory (load g.world l) a (number None)
        → (may_change l.base ≡ true → FromOwned x.table sites g.ground g.world l a (number None)) → WordAt h l

  word_at : (h : Housed) (l : Location) → is_full_at g.world l ≡ true → Written x g line rest y h l (number None) → WordAt h l
  word_at h l full (far_written home spot up a points stood leads) =
      lies_at home spot up a points (led_located x (starts g line rest) y g.call (inl refl) (inl refl) (Located l) a (number None) refl full leads)
      (λ changes. owned_seen x (starts g line rest) y l a (number None) (may_owned l.base stood changes) leads (full_there x (starts g line rest) y l full).1)
  word_at h l full (letter_written home spot up a points owned letter leads) = never letter
  word_at h l full (own_written n there own is look old slot l_is) = by (houses x.table x.blocks g.call.site (of_place n) y.linked.0 there).where_is
    where
      plain_is : holds_address (house g.call.site (of_place n)) ≡ false
      plain_is = own_plain (house g.call.site (of_place n)) own

      lying : InMemory (house g.call.site (of_place n)).home → WordAt h l
      lying inside =
          let home : Home = (house g.call.site (of_place n)).home in
          let a : ℕ = address_of g.call.site.base home in
          let owned : FromOwned x.table sites g.ground g.world l a (number None)
          = inl (subst (λ k. FromPlace x.table (all_sites x g line rest y) g.world k a (number None)) (sym l_is) (record {
            site = g.call.site;
            among = inl refl;
            number = n;
            base = refl;
            filled = (Holds old, slot);
            there = there;
            home = inside;
            offset = 0;
            path = (refl, look);
            address = omega arith;
          })) in
          lies_at home (ap spot_of is ∙ spot_memory (house g.call.site (of_place n)) plain_is inside) (high_in_memory home inside) a
          (points_there g.call.site.base g.call.vars home inside) (owned_located x (starts g line rest) y l a (number None) owned refl full) (λ changes. owned)

      by : Housing (room (body_of g)) FIXED_BYTES (data_end x.table x.blocks) (body_of g).start (house g.call.site (of_place n)) → WordAt h l
      by (in_variable v e p least w) = held_at n v there own look e least is old slot l_is
      by (by_address v e k least) = never (sym plain_is ∙ k)
      by (in_places m e p whole within) = lying (subst InMemory (sym e) tt)
      by (in_data m e p whole least within start) = lying (subst InMemory (sym e) tt)

  -- ---- what comes of it

  module _ (traps : TrapsStop x) (temps : Temps) (same_at : SameTemps x g line rest y temps) where
    -- another number stands there, or the run ends
    abbrev Outcome : Value → Location → Checked → Type 0
    Outcome old l (Fine z) = may_change l.base ≡ true
        → Settles x (starts g line rest) rest (Passes (Answers [] (1 + (bytes old + (4 + 0))) temps (store g.world l (Number z))))
    Outcome old l (Trapped trap) = Settles x (starts g line rest) rest (Passes (Finishes (writes Err (line_of (trap_text trap)))
        (1 + bytes old + length (line_of (trap_text trap))) 1 g.world))

    abbrev LineLeads : ℕ → Type 0
    LineLeads trap = (k : List WordInstr) → any_branches trap (code_of_line x g line rest k) ≡ true

    module _ (h : Housed) (operator : Operator) (may : updates operator ≡ true) (label by : ℕ) (high_by : FIFTH ≤ by) (step : ℤ)
        (step_fits : is_int_number step ≡ true) (v : Vars) (same : AllSame g.call.vars v) (step_is : v by ≡ Some (word step))
        (front : ℕ) (short : front ≤ 1)
        (runs : Runs x.live (all_procs x) front (at (within x.table x.blocks g) g.memory (code_here x g line rest y) g.call.vars g.words)
        (at (within x.table x.blocks g) g.memory (updated_code label operator (spot_of h) by next) v g.words))
        (shown : (trap : ℕ) (k : List WordInstr) → any_branches trap (code_of_line x g line rest k)
        ≡ any_branches trap (updated_code label operator (spot_of h) by k)) where
      abbrev runs_by : Spot → Type 0
      runs_by p = Runs x.live (all_procs x) front (at (within x.table x.blocks g) g.memory (code_here x g line rest y) g.call.vars g.words)
          (at (within x.table x.blocks g) g.memory (updated_code label operator p by next) v g.words)

      line_may : (u : ℤ) → MayTrap LineLeads (applied operator u step)
      line_may u = may_map (λ trap. (k : List WordInstr) → any_branches trap (updated_code label operator (spot_of h) by k) ≡ true) LineLeads
          (λ trap leads k. shown trap k ∙ leads k) (applied operator u step) (updated_may label operator (spot_of h) by u step)

      -- in a variable
      module _ (n t : ℕ) (there : IsThere g.call.site (of_place n)) (own : owns (house g.call.site (of_place n)) ≡ true)
          (look : looked x.table g.call.site (of_place n) ≡ number None) (home : (house g.call.site (of_place n)).home ≡ Variable t) (least : OWN_FROM ≤ t)
          (is : h ≡ house g.call.site (of_place n)) (old : Value) (slot : slot_at g.world g.call.site.level n ≡ Some (Holds old)) where
        plain_is : holds_address (house g.call.site (of_place n)) ≡ false
        plain_is = own_plain (house g.call.site (of_place n)) own

        spot : spot_of (house g.call.site (of_place n)) ≡ Held t
        spot = spot_held (house g.call.site (of_place n)) t plain_is home

        old_shaped : has_shape old (number None) ≡ true
        old_shaped = subst (λ s. has_shape old s ≡ true) look (item_read x g line rest y (of_place n) old there (ap of_numbers look) slot).shaped

        old_is : v t ≡ Some (word (number_of old))
        old_is = same.others t least
            ∙ subst (λ p. IsHeldAt g.memory g.call.site.base g.call.vars p old) spot
            (item_read x g line rest y (of_place n) old there (ap of_numbers look) slot).at

        runs_held : runs_by (Held t)
        runs_held = subst runs_by (ap spot_of is ∙ spot) runs

        held_comes : Comes x.live (all_procs x) (within x.table x.blocks g) g.memory g.words (binary_code label operator t t by next) v t next
            (applied operator (number_of old) step)
        held_comes = update_comes x.live (all_procs x) (within x.table x.blocks g) g.memory g.words v t t by (beyond t least) (beyond t least)
            (omega (arith, high_by)) (number_of old) step (number_fits old (number None) old_shaped) step_fits old_is step_is next label operator may

        -- the place has the number
        gets : (z : ℤ) → Comes x.live (all_procs x) (within x.table x.blocks g) g.memory g.words (binary_code label operator t t by next) v t next (Fine z)
            → Gets x g line rest y (code_here x g line rest y) next (of_place n) (Number z) 7
        gets z c =
            let w = c.1 in record {
              vars = w.vars;
              memory = g.memory;
              words = g.words;
              awaits = g.awaits;
              good = y.memory;
              heap = heap_same g.memory;
              edit = nowhere refl;
              variables = λ f u other ne e. w.but.others u (high_variable x g line rest y f u other e)
                  (variables_apart x.table x.blocks g.call.site (of_place n) f t u y.linked.0 there other (λ k. ne (sym k)) home e)
                  ∙ same.others u (high_variable x g line rest y f u other e);
              left = w.but.left ∙ same.left;
              at_place = subst (λ p. IsHeldAt g.memory g.call.site.base w.vars p (Number z)) (sym spot) w.given;
              steps = front + 6;
              some = omega arith;
              few = omega (arith, short);
              runs = then_runs x.live (all_procs x) runs_held w.runs;
            }

        held_did : (r : Checked) → MayTrap LineLeads r
            → Comes x.live (all_procs x) (within x.table x.blocks g) g.memory g.words (binary_code label operator t t by next) v t next r
            → Outcome old (place_at g.call.site.level n) r
        held_did (Fine z) leads c = λ changes.
            let get = gets z c in
            let world = with_slot g.world g.call.site.level n (Some (Holds (Number z))) in
            goes_on x (starts g line rest) (changed g rest temps get.vars get.memory get.words get.awaits world) rest
            (good_place x g line rest y n there own (Number z) rest (stands_next x.table x.blocks (body_of g) line rest y.stands) temps same_at
            (code_here x g line rest y) next 7 (ap of_numbers look)
            (subst (λ s. has_shape (Number z) s ≡ true) (sym look) c.0) plain_is get)
            get.steps (1 + (bytes old + (4 + 0))) temps world get.runs get.some (omega (arith, short)) refl
        held_did (Trapped trap) leads c =
            trap_settles x g line rest y traps trap (1 + bytes old) (omega arith) leads
            (λ to stands. let l = c to stands in record {
              steps = front + 5;
              some = omega arith;
              few = omega (arith, short);
              leads = record {
                vars = l.vars;
                same = same_more g.call.vars v l.vars same l.same;
                runs = then_runs x.live (all_procs x) runs_held l.runs;
              };
            })

        held_settles : Outcome (load g.world (place_at g.call.site.level n)) (place_at g.call.site.level n)
            (applied operator (number_of (load g.world (place_at g.call.site.level n))) step)
        held_settles = subst (λ u. Outcome u (place_at g.call.site.level n) (applied operator (number_of u) step)) (sym (ap held slot))
            (held_did (applied operator (number_of old) step) (line_may (number_of old)) held_comes)

      -- at an address
      module _ (l : Location) (home : Home) (spot : spot_of h ≡ Lies home) (up : IsHigh home) (a : ℕ)
          (points : Points g.call.site.base g.call.vars home a) (at_there : IsReadAt x sites y.linked g.memory (load g.world l) a (number None))
          (owned : may_change l.base ≡ true → FromOwned x.table sites g.ground g.world l a (number None)) (full : is_full_at g.world l ≡ true) where
        abbrev old : Value
        old = load g.world l

        live : is_there g.world l ≡ true
        live = (full_there x (starts g line rest) y l full).0

        old_fits : is_int_number (number_of old) ≡ true
        old_fits = number_fits old (number None) at_there.shaped

        reads : number_at g.memory a Word ≡ Ok (word (number_of old))
        reads =
            let n = number_value old None at_there.shaped in
            subst (λ u. number_at g.memory a Word ≡ Ok (word (number_of u))) (sym n.1) (subst (λ u. IsAt g.memory a u) n.1 at_there.is_at)

        range : Readable x sites y.linked g.memory a 4
        range = subst (λ n. Readable x sites y.linked g.memory a n) (ap bytes (number_value old None at_there.shaped).1) at_there.readable

        near : a + 4 < 2 ^ 32
        near = range.near

        cell : Cell g.memory a
        cell = (range.area 1 (omega arith)).0

        abbrev v1 : Vars
        v1 = put v SECOND a

        abbrev v2 : Vars
        v2 = put v1 FOURTH (word (number_of old))

        same2 : AllSame g.call.vars v2
        same2 = same_more g.call.vars v v2 same
            (same_more v v1 v2 (same_second v a) (same_put v1 FOURTH (word (number_of old)) (omega arith) (omega arith)))

        abbrev stores : List WordInstr
        stores = address FIRST home ∷ Store FIRST FOURTH Word ∷ next

        abbrev computes : List WordInstr
        computes = binary_code label operator FOURTH FOURTH by stores

        -- the number is in FOURTH
        loads : Runs x.live (all_procs x) (front + (1 + 1))
            (at (within x.table x.blocks g) g.memory (code_here x g line rest y) g.call.vars g.words)
            (at (within x.table x.blocks g) g.memory computes v2 g.words)
        loads =
            let c = within x.table x.blocks g in
            let r1 = address_runs x.law x.live (all_procs x) c refl g.words g.memory (Load FOURTH SECOND Word ∷ computes) v SECOND home a
            (points_same x.law x.live (all_procs x) c refl g.words g.call.vars v home a up same points) in
            let r2 = run_load x.live (all_procs x) c g.memory computes v1 g.words FOURTH SECOND Word (got a (omega (arith, near))) reads in
            then_runs x.live (all_procs x) (subst runs_by spot runs) (then_runs x.live (all_procs x) r1 r2)

        lies_comes : Comes x.live (all_procs x) (within x.table x.blocks g) g.memory g.words computes v2 FOURTH stores
            (applied operator (number_of old) step)
        lies_comes = update_comes x.live (all_procs x) (within x.table x.blocks g) g.memory g.words v2 FOURTH FOURTH by (omega arith) (omega arith)
            (omega (arith, high_by)) (number_of old) step old_fits step_fits (put_here v1 FOURTH (word (number_of old)) (word_small (number_of old) old_fits))
            (put_other v1 FOURTH (word (number_of old)) by (λ e. absurd (omega (arith, e, high_by)))
            ∙ (put_under v SECOND a by (omega arith) (omega (arith, high_by)) ∙ step_is)) stores label operator may

        lies_did : (r : Checked) → MayTrap LineLeads r
            → Comes x.live (all_procs x) (within x.table x.blocks g) g.memory g.words computes v2 FOURTH stores r → Outcome old l r
        lies_did (Fine z) leads c = λ changes.
            let f = owned changes in
            let w = c.1 in
            let same3 : AllSame g.call.vars w.vars = record {
              others = λ u high_u. w.but.others u high_u (λ e. absurd (omega (arith, e, high_u))) ∙ same2.others u high_u;
              left = w.but.left ∙ same2.left;
            } in
            let s = fourth_stored x.law x.live (all_procs x) (within x.table x.blocks g) refl g.words g.memory y.memory.sized next w.vars home a
            (points_same x.law x.live (all_procs x) (within x.table x.blocks g) refl g.words g.call.vars w.vars home a up same3 points) z
            (word_small z c.0) w.given cell (omega (arith, near)) in
            let few = s.few in
            goes_on x (starts g line rest) (changed_later g rest temps s.vars s.memory s.words s.awaits (store g.world l (Number z))
            (ground_then x g line rest y l a (number None) refl live (Number z) c.0 s.memory s.changed s.there f) g.input) rest
            (good_written x g line rest y l a (number None) refl live (Number z) c.0 s.memory s.changed s.there f rest
            (stands_next x.table x.blocks (body_of g) line rest y.stands) temps same_at s.vars s.words s.awaits
            (same_more g.call.vars w.vars s.vars same3 s.same))
            (front + (1 + 1) + 6 + s.steps) (1 + (bytes old + (4 + 0))) temps (store g.world l (Number z))
            (then_runs x.live (all_procs x) (then_runs x.live (all_procs x) loads w.runs) s.runs) (omega arith) (omega (arith, short, few)) refl
        lies_did (Trapped trap) leads c =
            trap_settles x g line rest y traps trap (1 + bytes old) (omega arith) leads
            (λ to stands. let l = c to stands in record {
              steps = front + (1 + 1) + 5;
              some = omega arith;
              few = omega (arith, short);
              leads = record {
                vars = l.vars;
                same = same_more g.call.vars v2 l.vars same2 l.same;
                runs = then_runs x.live (all_procs x) loads l.runs;
              };
            })

        lies_settles : Outcome old l (applied operator (number_of old) step)
        lies_settles = lies_did (applied operator (number_of old) step) (line_may (number_of old)) lies_comes

      update_settles : (l : Location) → WordAt h l → is_full_at g.world l ≡ true
          → Outcome (load g.world l) l (applied operator (number_of (load g.world l)) step)
      update_settles l (held_at n t there own look home least is old slot l_is) full =
          subst (λ k. Outcome (load g.world k) k (applied operator (number_of (load g.world k)) step)) (sym l_is)
          (held_settles n t there own look home least is old slot)
      update_settles l (lies_at home spot up a points at_there owned) full = lies_settles l home spot up a points at_there owned full

-- ---- the line

module _ (x : Basis) (traps : TrapsStop x) (labels : LabelsLead x) (g : Both) (rest : List BlockLine) (to : ℕ) (how : UseAt) (operator : Operator) where
  abbrev location_type : ℕ → Option Ty
  location_type t = type_in x is_location (body_of g) t

  abbrev may_write : ℕ → Bool
  may_write t = if_kind is_standing (place_named is_location (body_of g).proc.places t)

  module _ (line : BlockLine) (y : IsGood x (starts g line rest)) where
    abbrev temps : Temps
    temps = with_value to g.call.temps nothing

    -- the deed, as what it comes to
    as_deed : (r : Checked) (old : Value) (l : Location) (same_at : SameTemps x g line rest y temps) → Outcome x g line rest y traps temps same_at old l r
        → Settles x (starts g line rest) rest (Passes (behind [] 1 (behind [] (bytes old) (perform
        (((outcome r >>= put_to l) >>= kept_if false (bound_for g how)) >>= (λ u. give (with_value to g.call.temps u))) g.world))))
    as_deed (Fine z) old l same_at d =
        where_there x (starts g line rest) rest (may_change l.base) (λ b. Passes (behind [] 1 (behind [] (bytes old) (perform
        (((costs 4 (unless_gone b (sets l (Number z)) >> give nothing)) >>= kept_if false (bound_for g how))
        >>= (λ u. give (with_value to g.call.temps u))) g.world)))) (λ before. tt)
        (λ changes. where_there x (starts g line rest) rest (is_there g.world l) (λ b. Passes (behind [] 1 (behind [] (bytes old) (perform
        (((costs 4 (unless_gone b (does (Stores l (Number z))) >> give nothing)) >>= kept_if false (bound_for g how))
        >>= (λ u. give (with_value to g.call.temps u))) g.world)))) (λ before. tt) (λ seen. d changes))
    as_deed (Trapped trap) old l same_at d =
        subst (λ e. Settles x (starts g line rest) rest e)
        (ap (λ es. Passes (Finishes es (1 + bytes old + length (line_of (trap_text trap))) 1 g.world))
        (sym (append-nil (writes Err (line_of (trap_text trap)))))
        ∙ ap (λ n. Passes (Finishes (writes Err (line_of (trap_text trap)) ++ []) n 1 g.world)) (no_more (bytes old) (length (line_of (trap_text trap)))))
        d
      where
        no_more : (m n : ℕ) → 1 + m + n ≡ 1 + (m + (n + 0))
        no_more m n = omega arith

    updates_there : (t : ℕ) (there : Where) → IsPlain x g.call.site (of_location t) → value_type x g line rest y to ≡ None →
        is_int (kind_if (facts_in x.table) (location_type t)) ≡ true
        → may_write t ≡ true → g.call.temps.places t ≡ Some there → updates operator ≡ true → (label by : ℕ) → FIFTH ≤ by → (step : ℤ)
        → is_int_number step ≡ true → (v : Vars) → AllSame g.call.vars v → v by ≡ Some (word step) → (front : ℕ) → front ≤ 1
        → Runs x.live (all_procs x) front (at (within x.table x.blocks g) g.memory (code_here x g line rest y) g.call.vars g.words)
        (at (within x.table x.blocks g) g.memory (updated_code label operator (spot_of (location (around x.table x.blocks (body_of g)) t)) by
        (code_next x g line rest y)) v g.words)
        → ((trap : ℕ) (k : List WordInstr) → any_branches trap (code_of_line x g line rest k)
        ≡ any_branches trap (updated_code label operator (spot_of (location (around x.table x.blocks (body_of g)) t)) by k))
        → Settles x (starts g line rest) rest (gives (scene_of (high x.table x.blocks (starts g line rest))) to
        (costs 1 (updated (location_at g.call.temps there) (λ n. operate operator n step)) >>= kept_if false (bound_for g how)))
    updates_there t there plain none k may e up label by high_by step step_fits v same step_is front short runs shown =
        let s = some_kind (facts_in x.table) (location_type t) is_int refl k in
        let w = writes_at x g line rest y t there s.0 plain s.1 may e in
        let same_at = none_temps x g line rest y to none in
        let h : Housed = location (around x.table x.blocks (body_of g)) t in
        subst (λ l. Settles x (starts g line rest) rest (gives (scene_of (high x.table x.blocks (starts g line rest))) to
        (costs 1 (updated l (λ n. operate operator n step)) >>= kept_if false (bound_for g how)))) (sym w.is)
        (where_there x (starts g line rest) rest (is_full_at g.world w.at) (λ b. gives (scene_of (high x.table x.blocks (starts g line rest))) to
        (costs 1 (unless_gone b (costs (bytes (load g.world w.at)) (operate operator (number_of (load g.world w.at)) step >>= put_to w.at)))
        >>= kept_if false (bound_for g how))) (λ before. tt)
        (λ seen. as_deed (applied operator (number_of (load g.world w.at)) step) (load g.world w.at) w.at same_at
        (update_settles x g line rest y traps temps same_at h operator up label by high_by step step_fits v same step_is front short runs shown w.at
        (word_at x g line rest y h w.at seen
        (subst (λ q. Written x g line rest y h w.at q) (int_shape (facts_in x.table) s.0 s.2) w.written)) seen)))

  -- by 1
  module _ (a : Option ℕ) (t : ℕ) where
    abbrev stepping : BlockLine
    stepping = plain (L.Apply to (O.Update operator) how None (a ∷ []) (F.Place t ∷ []))

    step_value : RowHere x g rest to (O.Update operator) how None (a ∷ []) (F.Place t ∷ [])
    step_value names y =
        let f = applies x g rest to (O.Update operator) how None (a ∷ []) (F.Place t ∷ []) names y in
        let r = and_parts (steps operator) (is_int (kind_if (facts_in x.table) (if_type (known x).types a))) f.row in
        let p = and_parts (same_value (location_type t) (if_type (known x).types a)) true f.typed in
        let may = and_parts (may_write t) true f.written in
        let k = subst (λ o. is_int (kind_if (facts_in x.table) o) ≡ true) (sym (same_type (location_type t) (if_type (known x).types a) p.0)) r.1 in
        mapped_settles x (starts g stepping rest) rest (g.call.temps.places t) (λ place. At (location_at g.call.temps place))
        (λ l. gives (scene_of (high x.table x.blocks (starts g stepping rest))) to
        (costs 1 (updated (location_of l) (λ n. operate operator n (pos 1))) >>= kept_if false (bound_for g how)))
        (λ there e. updates_there stepping y t there names.1.0 (no_type (value_type x g stepping rest y to) f.given) k may.0 e (step_updates operator r.0)
        (label_before (map block_plain rest)) FIFTH (omega arith) (pos 1) refl (put g.call.vars FIFTH 1)
        (same_put g.call.vars FIFTH 1 (omega arith) (omega arith)) (put_here g.call.vars FIFTH 1 (omega arith)) 1 (omega arith)
        (run_constant x.live (all_procs x) (within x.table x.blocks g) g.memory (updated_code (label_before (map block_plain rest)) operator
        (spot_of (location (around x.table x.blocks (body_of g)) t)) FIFTH (code_next x g stepping rest y)) g.call.vars g.words FIFTH 1)
        (λ trap k. refl))

  -- by a number
  module _ (a b : Option ℕ) (t by : ℕ) where
    abbrev adding : BlockLine
    adding = plain (L.Apply to (O.Update operator) how None (a ∷ b ∷ []) (F.Place t ∷ F.Value by ∷ []))

    add_value : RowHere x g rest to (O.Update operator) how None (a ∷ b ∷ []) (F.Place t ∷ F.Value by ∷ [])
    add_value names y =
        let f = applies x g rest to (O.Update operator) how None (a ∷ b ∷ []) (F.Place t ∷ F.Value by ∷ []) names y in
        let int_a : Bool = is_int (kind_if (facts_in x.table) (if_type (known x).types a)) in
        let int_b : Bool = is_int (kind_if (facts_in x.table) (if_type (known x).types b)) in
        let r = and_parts (updates operator) (int_a && int_b) f.row in
        let i = and_parts int_a int_b r.1 in
        let p = and_parts (same_value (location_type t) (if_type (known x).types a))
        (same_value (value_type x g adding rest y by) (if_type (known x).types b) && true) f.typed in
        let q = and_parts (same_value (value_type x g adding rest y by) (if_type (known x).types b)) true p.1 in
        let may = and_parts (may_write t) true f.written in
        let k = subst (λ o. is_int (kind_if (facts_in x.table) o) ≡ true) (sym (same_type (location_type t) (if_type (known x).types a) p.0)) i.0 in
        let k_by = subst (λ o. is_int (kind_if (facts_in x.table) o) ≡ true)
        (sym (same_type (value_type x g adding rest y by) (if_type (known x).types b) q.0)) i.1 in
        mapped_settles x (starts g adding rest) rest (g.call.temps.places t) (λ place. At (location_at g.call.temps place))
        (λ l. using (option_map Given (g.call.temps.values by)) (λ z. gives (scene_of (high x.table x.blocks (starts g adding rest))) to
        (costs 1 (updated (location_of l) (λ n. operate operator n (number_of (value_of z)))) >>= kept_if false (bound_for g how))))
        (λ there e. mapped_settles x (starts g adding rest) rest (g.call.temps.values by) Given
        (λ z. gives (scene_of (high x.table x.blocks (starts g adding rest))) to
        (costs 1 (updated (location_at g.call.temps there) (λ n. operate operator n (number_of (value_of z)))) >>= kept_if false (bound_for g how)))
        (λ z h. let o = int_read x g adding rest y by z k_by h in
        updates_there adding y t there names.1.0 (no_type (value_type x g adding rest y to) f.given) k may.0 e r.0
        (label_before (map block_plain rest)) (variable x g adding rest y by) (let high_by = o.high in omega (arith, high_by)) (number_of z) o.fits
        g.call.vars (all_same g.call.vars) o.word_is 0 (omega arith)
        (no_run (lower x) (at (within x.table x.blocks g) g.memory (code_here x g adding rest y) g.call.vars g.words))
        (λ trap k. refl)))

  pub update_line : (ty : Option ℕ) (of : List (Option ℕ)) (from : List From) → RowHere x g rest to (O.Update operator) how ty of from
  update_line None (a ∷ []) (F.Place t ∷ []) names y = step_value a t names y
  update_line None (a ∷ b ∷ []) (F.Place t ∷ F.Value by ∷ []) names y = add_value a b t by names y
  update_line (Some ty) of from names y = never (applies x g rest to (O.Update operator) how (Some ty) of from names y).row
  update_line None [] from names y = never (applies x g rest to (O.Update operator) how None [] from names y).row
  update_line None (a ∷ b ∷ c ∷ of) from names y = never (applies x g rest to (O.Update operator) how None (a ∷ b ∷ c ∷ of) from names y).row
  update_line None (a ∷ []) [] names y = never (applies x g rest to (O.Update operator) how None (a ∷ []) [] names y).placed
  update_line None (a ∷ []) (F.Value t ∷ others) names y = never (applies x g rest to (O.Update operator) how None (a ∷ []) (F.Value t ∷ others) names y).placed
  update_line None (a ∷ []) (F.Place t ∷ other ∷ others) names y =
      never (and_parts (same_value (location_type t) (if_type (known x).types a)) false
      (applies x g rest to (O.Update operator) how None (a ∷ []) (F.Place t ∷ other ∷ others) names y).typed).1
  update_line None (a ∷ b ∷ []) [] names y = never (applies x g rest to (O.Update operator) how None (a ∷ b ∷ []) [] names y).placed
  update_line None (a ∷ b ∷ []) (F.Value t ∷ others) names y =
      never (applies x g rest to (O.Update operator) how None (a ∷ b ∷ []) (F.Value t ∷ others) names y).placed
  update_line None (a ∷ b ∷ []) (F.Place t ∷ []) names y =
      never (and_parts (same_value (location_type t) (if_type (known x).types a)) false
      (applies x g rest to (O.Update operator) how None (a ∷ b ∷ []) (F.Place t ∷ []) names y).typed).1
  update_line None (a ∷ b ∷ []) (F.Place t ∷ F.Place by ∷ others) names y =
      never (applies x g rest to (O.Update operator) how None (a ∷ b ∷ []) (F.Place t ∷ F.Place by ∷ others) names y).placed
  update_line None (a ∷ b ∷ []) (F.Place t ∷ F.Value by ∷ other ∷ others) names y =
      never (and_parts (same_value (type_in x is_value (body_of g) by) (if_type (known x).types b)) false
      (and_parts (same_value (location_type t) (if_type (known x).types a))
      (same_value (type_in x is_value (body_of g) by) (if_type (known x).types b) && false)
      (applies x g rest to (O.Update operator) how None (a ∷ b ∷ []) (F.Place t ∷ F.Value by ∷ other ∷ others) names y).typed).1).1
