-- Loops over elements of a fresh value, for which their places stand.
use Rattle.std.proofs.Common.{◌≡◌, refl, sym, ap, subst, ◌∙◌, arith, ℕ, ◌+◌, ◌<◌, ◌≤◌, inl, inr, ◌⊎◌, Bool, true, false, List, [], ◌∷◌, ◌++◌, Some}
use Rattle.std.specs.Prelude.{◌||◌, not, nat_eq, nat_lt}
use Rattle.std.proofs.lemmas.Bool.{false≢true, eq-eqb, eqb-true, ltb-true}
use Rattle.nim_types.specs.Forms.{Form, form_of}
use Rattle.nim_program.specs.declared.operation.Use.TheVariants.{Owned}
use Rattle.nim_program.specs.Program.{Expr, Fresh, Args, NoArg, ByPath, Declared, Each, type_at}
use Rattle.nim_program.specs.Folds.{lists, node_numbers, totals}
use Rattle.nim_program.specs.Traps.{LengthChanged}
use Rattle.nim_program.specs.Numbering.{numbers_of}
use Rattle.nim_program.specs.Scopes as scopes
use Rattle.nim_program.specs.Scopes.{with_place}
use Rattle.nim_program.specs.Typed.{are_typed}
use Rattle.nim_meaning.specs.ActTree as points
use Rattle.nim_meaning.specs.Ways.{At as Spot}
use Rattle.nim_meaning.specs.Values.{Value, Base, Standing, Waiting, InBlock, InHand, InException, Made, Stands, Location, at_base, length_of, item_of}
use Rattle.nim_meaning.specs.Marks.{Member}
use Rattle.nim_meaning.specs.State.{World, State, frame_in, slot_at, slot_of, joined}
use Rattle.nim_meaning.specs.Acts.{Does, branch, loop, with_trail, ◌>>=◌}
use Rattle.nim_meaning.specs.Deeds.{Opens, changed, carry, stop, unless_gone}
use Rattle.nim_meaning.specs.Deeds as deeds
use Rattle.nim_meaning.specs.Lifted.{slot_ends}
use Rattle.nim_meaning.specs.Here.{Here, is_hooked, form_for}
use Rattle.nim_meaning.specs.Places.{place_at, length_at, item_at, as_long, to_one}
use Rattle.nim_meaning.specs.Aims.{Aim, Root, Value_of, Waits_at, PartOf, ItemOf, ObjectOf, Ready, Aimed, find}
use Rattle.nim_meaning.specs.Steps.{at_node, waits_in}
use Rattle.nim_meaning.specs.Meaning.{each_turn, loop_over, ready_aim, still, place_ends, scoped, element_for}
use Rattle.holders.specs.Owned.{Constant, Has, IsBase, IsName, a_name}
use Rattle.holders.specs.Sure.{Sure, Comes}
use Rattle.holders.specs.Territory.{Owner, no_cells, Territory, Among, NoBaseOf}
use Rattle.holders.specs.Working.{number, without}
use Rattle.holders.specs.Running.{Region}
use Rattle.holders.specs.Ways.{Step, to_element}
use Rattle.holders.specs.Finding.{Found, in_cell, to_be_read, PlaceOf, a_name_of, of_constant, AimsAt, at_constant, at_value, at_waiting, ItemForm}
use Rattle.holders.specs.Finding.{steps_of}
use Rattle.holders.specs.Called.{LeftBy}
use Rattle.holders.specs.Asked.{Limits, AllAsked, FactsOfTheirSort, may_write_at, within}
use Rattle.holders.specs.Evaluating.{operand_nodes, Hand, Aims, at_place, at_made, IsFreshRoot, Readied, none_ready, aim_ready}
use Rattle.holders.specs.Claimed.{known_at}
use Rattle.holders.specs.BodyParts.{part_region, PartBegins, Sights, Pending, Over, PartSo}
use Rattle.holders.specs.Numbered.{Numbered}
use Rattle.holders.proofs.Owning.{has_stays}
use Rattle.holders.proofs.Sure.{sure_weaker}
use Rattle.holders.proofs.Guards.{full_items, sure_reads}
use Rattle.holders.proofs.Coming.{comes_then, comes_weaker, comes_answered, comes_carried}
use Rattle.holders.proofs.FrameChanges.{place_opened}
use Rattle.holders.proofs.Finding.{finds, items_there}
use Rattle.holders.proofs.PlainRows.{read_found}
use Rattle.holders.proofs.PartsInTurn.{in_is, is_member}
use Rattle.holders.proofs.PlaceCopies.{stage_named}
use Rattle.holders.proofs.Working.{among_first}
use Rattle.holders.proofs.Groups.{scope_left, without_first}
use Rattle.holders.proofs.Statements.{each_comes}
use Rattle.holders.proofs.WholeExpressions.{CallsSo}
use Rattle.holders.proofs.BodyParts.{part_wider, begins_in, begins_behind, over_then, sights_stay, starts_over}
use Rattle.holders.proofs.BodyValues.{no_place_there}
use Rattle.holders.proofs.BodySights.{sights_behind, sights_next, is_place, place_view}
use Rattle.holders.proofs.BodyNumbers.{numbers_second, place_new}
use Rattle.holders.proofs.BodyHeads.{inner_begins, inner_over}
use Rattle.holders.proofs.BodyLoops.{less_written, long_so, item_so, AsLong, headed, head_then}
use Rattle.holders.proofs.Unfolding.{AtTurn, unfolded}

-- where a fresh value is
pub data FreshAim (ms : List Owner) (f : Form) : Aim → Type 0 where
  to_constant : {v : Value} → ((world : World) → Has world Constant f v []) → FreshAim ms f (Root (Made v))
  to_value : {v : Value} → ((world : World) → Has world Constant f v []) → FreshAim ms f (Value_of v)
  to_waiting : {level node : ℕ} → Among ms (record { form = f; at = at_base (Waiting level node) }) → FreshAim ms f (Waits_at level node)

constant_there : {ms : List Owner} {world : World} {n : ℕ} {f : Form} {v : Value} → AimsAt ms world false n (Root (Made v)) f → Has world Constant f v []
constant_there (at_constant h) = h

value_there : {ms : List Owner} {world : World} {n : ℕ} {f : Form} {v : Value} → AimsAt ms world false n (Value_of v) f → Has world Constant f v []
value_there (at_value h) = h

waiting_there : {ms : List Owner} {world : World} {n level node : ℕ} {f : Form} → AimsAt ms world false n (Waits_at level node) f →
    Among ms (record { form = f; at = at_base (Waiting level node) })
waiting_there (at_waiting i) = i

fresh_of : {here : Here} {scope : scopes.Here} {limits : Limits} {root : (global : Bool) → ℕ → ℕ} {ms os : List Owner} {value : Expr} {f : Form} {aim : Aim} →
    World → Aims here scope limits root ms os (Fresh value) f aim → FreshAim ms f aim
fresh_of world (at_place h steps fresh) = elim fresh [ ]
fresh_of {ms = ms} {f = f} {aim = aim} world (at_made {n = n} unwritten h fresh) = by aim fresh h
  where
    by : (a : Aim) → IsFreshRoot a → ((world : World) → AimsAt ms world false n a f) → FreshAim ms f a
    by (Root (Made v)) r h = to_constant (λ w. constant_there (h w))
    by (Root (Standing level place)) r h = elim r [ ]
    by (Root (Waiting level node)) r h = elim r [ ]
    by (Value_of v) r h = to_value (λ w. value_there (h w))
    by (Waits_at level node) r h = to_waiting (waiting_there (h world))
    by (PartOf a i) r h = elim r [ ]
    by (ItemOf a z) r h = elim r [ ]
    by (ObjectOf a) r h = elim r [ ]
    by (Root (InBlock k)) r h = elim r [ ]
    by (Root (InHand k)) r h = elim r [ ]
    by (Root (InException k)) r h = elim r [ ]

none_there : (world : World) → Territory [] world
none_there world = record { blocks = []; cells = no_cells; distinct = tt; others = tt; clear = tt }

-- ---- the turns, at some cells

module _ (here : Here) (first places : ℕ) (scope : scopes.Here) (limits : Limits) (named : (n : ℕ) → limits.seen false n ≡ true) (place : Declared)
    (hd bd : List Declared) (hn bn : List ℕ) (numbers : Numbered here first places (known_at here scope) limits (place ∷ (hd ++ bd)) (hn ++ bn))
    (last : ℕ) (body : Does (Unit {0}))
    (body_so : PartSo here first places (known_at here (with_place scope place)) (within (Each place) limits) (numbers_of bd) bn body)
    (hooks : is_hooked here.facts place.of ≡ true) (qs : List Owner) (nodes : List ℕ) (s : State)
    (b : PartBegins here.level first places (numbers_of (place ∷ bd)) bn qs nodes s.world) (sights : Sights here (known_at here scope) limits qs s.world) where
  abbrev known : scopes.Here → scopes.Here
  known one = known_at here one

  abbrev more : Limits
  more = within (Each place) limits

  abbrev ips : List ℕ
  ips = numbers_of (place ∷ bd)

  abbrev g : Form
  g = form_of here.facts place.of

  abbrev pub J : World → Type 0
  J after = Over here first places (known scope) limits ips bn qs nodes b.territory.blocks s.world after

  place_once : Member place.number (numbers_of bd) → ⊥
  place_once m = place_new place (hd ++ bd) numbers (numbers_second place.number hd bd m)

  mine : Member place.number ips
  mine = inl refl

  off : NoBaseOf (Standing here.level place.number) qs
  off = no_place_there here.level place.number ips bn qs mine b.outside

  bounds : (first ≤ place.number) × (place.number < first + places)
  bounds = numbers.bounds place.number (inl refl)

  unwritten : may_write_at more false place.number ≡ false
  unwritten = ap (λ c. not (c || limits.kept place.number)) (eq-eqb place.number place.number refl)

  writes : (e : Bool) (n : ℕ) → may_write_at more e n ≡ true → may_write_at limits e n ≡ true
  writes true n e = refl
  writes false n e = less_written limits.kept place n e

  -- where the place stands for a location
  record HasPlace (after : World) : Type 0 where
    root : ℕ
    is : PlaceOf qs after here.level place.number g false root

  record Borrowed (after : World) : Type 0 where
    at : Location
    over : J after
    name : IsName after.frames here.level place.number at
    there : HasPlace after

  -- where it is made to
  abbrev MayStand : Location → World → Type 0
  MayStand m now =
      (after : World) → ((c : Base) (x : Value) → IsBase now c x → (c ≡ Standing here.level place.number → ⊥) → IsBase after c x) →
      IsName after.frames here.level place.number m → HasPlace after

  borrows : (m : Location) (now : State) → J now.world → MayStand m now.world → Comes (λ u after. Borrowed after) (LeftBy J) (element_for here place true m now)
  borrows m now j stands =
      let filled = place_opened now.world here.level first places place.number j.later (Stands m) j.stage.active bounds.0 bounds.1 in
      let after = changed (Opens here.level place.number (Stands m)) now.world in
      record {
        at = m;
        over = record {
          later = j.later;
          stage = stage_named place.number m j.stage bounds.0 bounds.1 (in_is place.number ips mine) off;
          distinct = j.distinct;
          came = j.came;
        };
        name = filled.stands m refl;
        there = stands after filled.elsewhere (filled.stands m refl);
      }

  -- the body, in its scope
  in_scope : (now : State) → Borrowed now.world → Comes (λ u after. J after) (LeftBy J) (scoped here place last body now)
  in_scope now k =
      scope_left here place last body S J (λ w e. over w e) (λ bare w e. e.0) now
      (comes_weaker (λ u after. O after) (LeftBy O) (λ u after. S after) (LeftBy S) (body now) (body_so qs k.over.later now c there)
      (λ u after f. closes after f) (λ way after f. (f.0, closes after f.1)))
    where
      S : World → Type 0
      S after = J after × IsName after.frames here.level place.number k.at

      slot_there : (w : World) → IsName w.frames here.level place.number k.at → slot_at w here.level place.number ≡ Some (Stands k.at)
      slot_there w (a_name frame e le q) = ap (λ x. slot_of (frame_in x) place.number) e ∙ ap joined q

      over : (w : World) → S w → Sure (place_ends (form_of here.facts place.of) here.level place.number) (λ u after. J after) w
      over w e =
          subst (λ slot. Sure (slot_ends g (place_at here.level place.number) slot) (λ u after. J after) w) (sym (slot_there w e.1)) e.0

      c : PartBegins here.level first places (numbers_of bd) bn qs k.over.later now.world
      c = begins_in ips bn (numbers_of bd) bn (begins_behind ips bn b k.over) (λ n m. inr m) (λ n m. m)

      O : World → Type 0
      O after = Over here first places (known (with_place scope place)) more (numbers_of bd) bn qs k.over.later c.territory.blocks now.world after

      into : (n : ℕ) → Member n ips → Member n (numbers_of (place ∷ (hd ++ bd)))
      into n (inl e) = inl e
      into n (inr m) = inr (numbers_second n hd bd m)

      there : Sights here (known (with_place scope place)) more qs now.world
      there =
          sights_next here (known scope) (known (with_place scope place)) limits more place false (is_place place)
          (place_view (known scope) place (λ ty e. numbers.none false place.number ty (named place.number) e refl (inl refl))) qs qs now.world k.there.root
          (λ n. n)
          (sights_stay ips bn k.over.stage.runs.passes (λ e n ty seen q same m. numbers.none e n ty seen q same (into n m)) sights)
          (λ e n q. q) writes (λ level n f may m p. p) (λ m n q. q)
          (subst (λ may. PlaceOf qs now.world here.level place.number g may k.there.root) (sym unwritten) k.there.is)
          (λ w m q. false≢true (sym unwritten ∙ w)) (λ p i. i)

      closes : (after : World) → O after → S after
      closes after f = (
        over_then (part_wider here.level ips bn ips bn (λ n m. m) (λ n m. m))
            (part_wider here.level ips bn (numbers_of bd) bn (λ n m. inr m) (λ n m. m)) k.over f,
        f.stage.runs.passes.names here.level place.number k.at k.name (inr (refl, λ e. place_once (is_member place.number (numbers_of bd) e))),
      )

  -- the turns, where each finds its element
  turns : (node len : ℕ) (aim : Aim) (L M N : Location → World → Type 0) → ((now : State) → J now.world → Comes L (LeftBy J) (find aim now)) →
      ((l : Location) (now : State) → L l now.world → Comes (λ u after. M l after) (LeftBy J) (still l len now)) →
      ((i : ℕ) → nat_lt i len ≡ true → (l : Location) (now : State) → M l now.world → Comes N (LeftBy J) (carry (item_at l i) now)) →
      ((m : Location) (now : World) → N m now → J now × MayStand m now) → (now : State) → now.world ≡ s.world →
      Comes (λ u after. J after) (LeftBy J) (loop (each_turn node here place true last body aim len) 0 now)
  turns node len aim L M N found stays items stands now same =
      each_comes node here place true last body aim len J Borrowed L M N (λ v after. ⊥) found stays (λ h i less l w p. items i less l w p)
      (λ h m w p. let q = stands m w.world p in borrows m w q.0 q.1) (λ h i less l w p. absurd (false≢true (sym h ∙ hooks))) (λ h v w p. elim p [ ])
      (λ w k. in_scope w k) 0 now (subst J (sym same) (starts_over ips bn b))

  abbrev rest : (node : ℕ) → Aim → Does (Unit {0})
  rest node aim =
      at_node node points.Looks (find aim) >>= (λ l. carry (length_at l) >>= (λ len. loop (each_turn node here place true last body aim len) 0))

  -- ---- of a constant, or of a value that nobody has

  module _ (node : ℕ) (aim : Aim) (f : Form) (item : ItemForm f g) (aims : (world : World) → AimsAt [] world false 0 aim f) where
    abbrev ss : List Step
    ss = steps_of aim

    abbrev L : Location → World → Type 0
    L l after = J after × Found [] after false 0 ss f l

    abbrev M : ℕ → Location → World → Type 0
    M len l after = J after × AsLong [] after false 0 ss f g l len

    abbrev N : Location → World → Type 0
    N m after = J after × Found [] after false 0 (ss ++ to_element ∷ []) g m

    none : {o : Owner} → Among [] o → ⊥
    none i = elim i [ ]

    stands : (m : Location) (now : World) {h : Form} {root : ℕ} {steps : List Step} → h ≡ g → Found [] now false root steps h m → MayStand m now
    stands m now same (in_cell c goes) = absurd (none c.at)
    stands m now same (to_be_read {u = u} {v = v} made from h) =
        λ after stays name. record {
          root = 0;
          is = of_constant name made
              (record { base = stays m.base u from.base (λ e. not_made (sym made ∙ e)); there = from.there; is = from.is })
              (subst (λ x. Has after Constant x v []) same (has_stays now after (λ k x q is. elim q [ ]) h));
        }
      where
        not_made : {v : Value} → Made v ≡ Standing here.level place.number → ⊥
        not_made e = subst is_made e tt
          where
            is_made : Base → Type 0
            is_made (Made v) = Unit {0}
            is_made b = ⊥

    find_it : (now : State) → J now.world → Comes L (LeftBy J) (find aim now)
    find_it now j =
        let Is : Location → World → Type 0 = λ l after. (after ≡ now.world) × Found [] now.world false 0 ss f l in
        comes_weaker Is (LeftBy J) L (LeftBy J) (find aim now)
        (comes_answered Is (LeftBy J) (find aim now) (finds now (none_there now.world) (aims now.world)))
        (λ l after p. (subst J (sym p.0) j, subst (λ w. Found [] w false 0 ss f l) (sym p.0) p.1)) (λ way after q. q)

    stay : (len : ℕ) (l : Location) (now : State) → L l now.world → Comes (λ u after. M len l after) (LeftBy J) (still l len now)
    stay len l now p =
        let there = items_there (none_there now.world) item p.1 in
        comes_carried (λ u after. M len l after) (LeftBy J) (as_long l len) now
        (sure_weaker (as_long l len) (λ u after. (after ≡ now.world) × (length_of there.value ≡ len)) (λ u after. M len l after) now.world
        (long_so there len) (λ u after q. subst (λ w. M len l w) (sym q.0) (p.0, record { there = there; long = q.1 })))

    one : (len i : ℕ) → nat_lt i len ≡ true → (l : Location) (now : State) → M len l now.world → Comes N (LeftBy J) (carry (item_at l i) now)
    one len i less l now p =
        let le = ltb-true i len less in
        comes_carried N (LeftBy J) (item_at l i) now
        (sure_weaker (item_at l i) (λ m after. (after ≡ now.world) × Found [] now.world false 0 (ss ++ to_element ∷ []) g m) N now.world
        (item_so p.1.there i (omega (arith, le, p.1.long))) (λ m after q. subst (λ w. N m w) (sym q.0) (p.0, q.1)))

    pub constant_loop : Comes (λ u after. J after) (LeftBy J) (rest node aim s)
    constant_loop =
        let Is : Location → World → Type 0 = λ l after. (after ≡ s.world) × Found [] s.world false 0 ss f l in
        let there = with_trail (Spot node points.Looks ∷ s.trail) s in
        comes_then (at_node node points.Looks (find aim))
        (λ l. carry (length_at l) >>= (λ len. loop (each_turn node here place true last body aim len) 0)) Is (λ u after. J after) (LeftBy J) s
        (comes_answered Is (LeftBy J) (find aim there) (finds there (none_there s.world) (aims s.world)))
        (λ l now p. comes_then (carry (length_at l)) (λ len. loop (each_turn node here place true last body aim len) 0) (λ len after. after ≡ s.world)
        (λ u after. J after) (LeftBy J) now
        (comes_carried (λ len after. after ≡ s.world) (LeftBy J) (length_at l) now
        (let read = read_found (none_there s.world) p.1 in
        subst (λ w. Sure (length_at l) (λ len after. after ≡ s.world) w) (sym p.0)
        (sure_reads (λ world v. deeds.give (length_of v)) (λ len after. after ≡ s.world) read.from tt read.has refl)))
        (λ len at same. turns node len aim L (M len) N find_it (λ l w p. stay len l w p) (λ i less l w p. one len i less l w p)
        (λ m w p. (p.0, stands m w refl p.1)) at same))

  -- ---- of what waits, by its parts

  module _ (node level at_one : ℕ) (f : Form) (len : ℕ)
      (turn : (now : World) → J now → AtTurn f g (at_base (Waiting level at_one)) qs len now)
      (start : AtTurn f g (at_base (Waiting level at_one)) qs len s.world) (as_many : length_of start.value ≡ len) where
    abbrev l : Location
    l = at_base (Waiting level at_one)

    abbrev waits : Aim
    waits = Waits_at level at_one

    abbrev IsThere : Location → World → Type 0
    IsThere m after = J after × (m ≡ l)

    -- it is as long as at first
    record IsLong (m : Location) (after : World) : Type 0 where
      over : J after
      is : m ≡ l
      at : AtTurn f g l qs len after
      long : length_of at.value ≡ len

    abbrev IsItem : Location → World → Type 0
    IsItem m after = J after × Among qs (record { form = g; at = m })

    stays_long : (m : Location) (now : State) → IsThere m now.world → Comes (λ u after. IsLong m after) (LeftBy J) (still m len now)
    stays_long m now p =
        comes_carried (λ u after. IsLong m after) (LeftBy J) (as_long m len) now
        (subst (λ x. Sure (as_long x len) (λ u after. IsLong m after) now.world) (sym p.1)
        (sure_reads (λ world v. branch (nat_eq (length_of v) len) (deeds.give {A = Unit {0}} tt) (stop LengthChanged)) (λ u after. IsLong m after) t.from tt
        t.has (by (nat_eq (length_of t.value) len) refl)))
      where
        t : AtTurn f g l qs len now.world
        t = turn now.world p.0

        by : (c : Bool) → nat_eq (length_of t.value) len ≡ c →
            Sure (branch c (deeds.give {A = Unit {0}} tt) (stop LengthChanged)) (λ u after. IsLong m after) now.world
        by true q = record { over = p.0; is = p.1; at = t; long = eqb-true (length_of t.value) len q }
        by false q = tt

    an_item : (i : ℕ) → nat_lt i len ≡ true → (m : Location) (now : State) → IsLong m now.world → Comes IsItem (LeftBy J) (carry (item_at m i) now)
    an_item i less m now k =
        let le = ltb-true i len less in
        comes_carried IsItem (LeftBy J) (item_at m i) now
        (subst (λ x. Sure (item_at x i) IsItem now.world) (sym k.is)
        (sure_reads (λ world v. to_one v l i) IsItem k.at.from tt k.at.has
        (subst (λ b. Sure (unless_gone b (deeds.give (item_of k.at.value l i))) IsItem now.world) (sym (full_items l.base k.at.has))
        (k.over, k.at.items k.long i (omega (arith, le))))))

    pub waiting_loop : Comes (λ u after. J after) (LeftBy J) (rest node waits s)
    waiting_loop =
        let Is : Location → World → Type 0 = λ m after. (after ≡ s.world) × (m ≡ l) in
        let P : ℕ → World → Type 0 = λ n after. (after ≡ s.world) × (n ≡ len) in
        comes_then (at_node node points.Looks (find waits))
        (λ m. carry (length_at m) >>= (λ n. loop (each_turn node here place true last body waits n) 0)) Is (λ u after. J after) (LeftBy J) s (refl, refl)
        (λ m now p. comes_then (carry (length_at m)) (λ n. loop (each_turn node here place true last body waits n) 0) P (λ u after. J after) (LeftBy J) now
        (comes_carried P (LeftBy J) (length_at m) now
        (subst (λ x. Sure (length_at x) P now.world) (sym p.1)
        (subst (λ w. Sure (length_at l) P w) (sym p.0)
        (sure_reads (λ world v. deeds.give (length_of v)) P start.from tt start.has (refl, as_many)))))
        (λ n at q. subst (λ k. Comes (λ u after. J after) (LeftBy J) (loop (each_turn node here place true last body waits k) 0 at)) (sym q.1)
        (turns node len waits IsThere IsLong IsItem (λ w j. (j, refl)) (λ m w p. stays_long m w p) (λ i less m w p. an_item i less m w p)
        (λ m w p. (p.0, λ after stays name. record { root = number p.1; is = a_name_of name p.1 })) at q.0)))

-- ---- the loop

record HeadAim (own : List Owner) (f : Form) (xs : List Ready) : Type 0 where
  aim : Aim
  is : xs ≡ Aimed aim ∷ []
  fresh : FreshAim own f aim

fresh_head : {here : Here} {scope : scopes.Here} {limits : Limits} {root : (global : Bool) → ℕ → ℕ} {own os : List Owner} {now : World} {hand : Hand}
    {value : Expr} {xs : List Ready} → Readied here scope limits root (λ i. Owned) own os now hand (ByPath (Fresh value) NoArg) 0 xs →
    HeadAim own (form_for here.facts (type_at (Fresh value))) xs
fresh_head {now = now} (aim_ready {aim = aim} a none_ready) = record { aim = aim; is = refl; fresh = fresh_of now a }

module _ (here : Here) (first places : ℕ) (sorted : FactsOfTheirSort here.facts) (OfCall : Limits → ℕ → Args → Type 0) (Known : scopes.Here → Type 0)
    (calls : (scope : scopes.Here) → Known scope → (limits : Limits) (root : (global : Bool) → ℕ → ℕ) (os : List Owner) →
    CallsSo here scope limits root first places os (OfCall limits)) where
  pub borrowed_so : (scope : scopes.Here) → Known scope → (limits : Limits) → ((n : ℕ) → limits.seen false n ≡ true) → (place : Declared) (node : ℕ)
      (value : Expr) → is_hooked here.facts place.of ≡ true → are_typed (known_at here scope) (ByPath (Fresh value) NoArg) ≡ true →
      AllAsked here.facts limits (OfCall limits) (ByPath (Fresh value) NoArg) →
      ItemForm (form_for here.facts (type_at (Fresh value))) (form_of here.facts place.of) → (hd bd : List Declared) (bn : List ℕ) →
      Numbered here first places (known_at here scope) limits (place ∷ (hd ++ bd)) (totals lists node_numbers (ByPath (Fresh value) NoArg) ++ bn) →
      (last : ℕ) (body : Does (Unit {0})) →
      PartSo here first places (known_at here (with_place scope place)) (within (Each place) limits) (numbers_of bd) bn body →
      PartSo here first places (known_at here scope) limits (numbers_of (place ∷ (hd ++ bd)))
      (totals lists node_numbers (ByPath (Fresh value) NoArg) ++ bn) (loop_over (Each place) node (ByPath (Fresh value) NoArg) last body here)
  borrowed_so scope ok limits own place node value hooks typed asked item hd bd bn numbers last body body_so =
      head_then here first places sorted OfCall Known calls scope ok limits own place head typed asked hd bd bn numbers node (λ ready. go (ready_aim ready)) tt
      (λ os nodes start mid xs b sights a.
      let h = headed here first places sorted OfCall Known calls scope ok limits own place head typed asked hd bd bn numbers b sights a tt in
      let W : World → Type 0 = λ after. Pending (part_region here.level ps ns) [] os first places nodes (waits_in here head) b.territory.blocks start after in
      let O : World → Type 0 = λ after. Over here first places (known_at here scope) limits ips bn (h.own ++ os) h.later h.stage.runs.territory.blocks
      mid.world after in
      let at = fresh_head a.ready in
      subst (λ ready. Comes (λ u after. W after) (LeftBy W) (go (ready_aim ready) mid)) (sym at.is)
      (comes_weaker (λ u after. O after) (LeftBy O) (λ u after. W after) (LeftBy W) (go at.aim mid)
      (loops h.own os h.later mid (inner_begins here first places (known_at here scope) limits ps ns h)
      (sights_stay [] (operand_nodes head) h.stage.runs.passes (λ g n ty seen e same m. elim m [ ]) sights) at.aim at.fresh)
      (λ u after e. inner_over here first places (known_at here scope) limits ps ns h e)
      (λ way after e. (e.0, inner_over here first places (known_at here scope) limits ps ns h e.1))))
    where
      head : Args
      head = ByPath (Fresh value) NoArg

      hn : List ℕ
      hn = totals lists node_numbers head

      ns : List ℕ
      ns = hn ++ bn

      ps : List ℕ
      ps = numbers_of (place ∷ (hd ++ bd))

      ips : List ℕ
      ips = numbers_of (place ∷ bd)

      f : Form
      f = form_for here.facts (type_at (Fresh value))

      go : Aim → Does (Unit {0})
      go aim = at_node node points.Looks (find aim) >>= (λ l. carry (length_at l) >>= (λ len. loop (each_turn node here place true last body aim len) 0))

      inner : Region
      inner = part_region here.level ips bn

      Sees : List Owner → World → Type 0
      Sees qs world = Sights here (known_at here scope) limits qs world

      moved : {qs own os : List Owner} {o : Owner} {world : World} (i : Among own o) →
          (qs ≡ own ++ os) ⊎ ((kids : List Owner) × (qs ≡ kids ++ without (among_first os i))) → Sees os world → Sees qs world
      moved {own = own} {world = world} i (inl e) s = subst (λ qs. Sees qs world) (sym e) (sights_behind own s)
      moved {os = os} {world = world} i (inr k) s =
          subst (λ qs. Sees qs world) (sym (k.1 ∙ ap (λ (qs : List Owner). k.0 ++ qs) (without_first os i))) (sights_behind k.0 (sights_behind (without i) s))

      loops : (own_ones os : List Owner) (later : List ℕ) (mid : State) (b : PartBegins here.level first places ips bn (own_ones ++ os) later mid.world) →
          Sees os mid.world → (aim : Aim) → FreshAim own_ones f aim →
          Comes (λ u after. Over here first places (known_at here scope) limits ips bn (own_ones ++ os) later b.territory.blocks mid.world after)
          (LeftBy (λ after. Over here first places (known_at here scope) limits ips bn (own_ones ++ os) later b.territory.blocks mid.world after)) (go aim mid)
      loops own_ones os later mid b s _ (to_constant {v = v} has) =
          constant_loop here first places scope limits own place hd bd hn bn numbers last body body_so hooks (own_ones ++ os) later mid b
          (sights_behind own_ones s) node (Root (Made v)) f item (λ world. at_constant (has world))
      loops own_ones os later mid b s _ (to_value {v = v} has) =
          constant_loop here first places scope limits own place hd bd hn bn numbers last body body_so hooks (own_ones ++ os) later mid b
          (sights_behind own_ones s) node (Value_of v) f item (λ world. at_value (has world))
      loops own_ones os later mid b s _ (to_waiting {level = level} {node = one} i) =
          let u = unfolded inner level one b.territory (among_first os i) item hooks b.outside in
          let c : PartBegins here.level first places ips bn u.qs later mid.world = record {
            territory = u.unfolds.op.territory;
            outside = u.unfolds.outside;
            active = b.active;
            distinct = b.distinct;
            free = b.free;
            deepest = b.deepest;
          } in
          let I : World → Type 0 = λ after. Over here first places (known_at here scope) limits ips bn u.qs later u.unfolds.op.territory.blocks mid.world
          after in
          let O : World → Type 0 = λ after. Over here first places (known_at here scope) limits ips bn (own_ones ++ os) later b.territory.blocks mid.world
          after in
          let closes : (after : World) → I after → O after = λ after e. record {
            later = e.later;
            stage = record { runs = u.unfolds.op.closes after e.stage.runs; active = e.stage.active };
            distinct = e.distinct;
            came = e.came;
          } in
          comes_weaker (λ x after. I after) (LeftBy I) (λ x after. O after) (LeftBy O) (go (Waits_at level one) mid)
          (waiting_loop here first places scope limits own place hd bd hn bn numbers last body body_so hooks u.qs later mid c (moved i u.shape s) node
          level one f
          u.unfolds.len (λ now j. u.unfolds.turn now j.stage.runs) u.unfolds.first u.unfolds.long)
          (λ x after e. closes after e) (λ way after e. (e.0, closes after e.1))
