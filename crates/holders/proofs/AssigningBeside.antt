-- A place gets a copy of what stands beside it, part by part.
use Rattle.std.proofs.Common.{◌≡◌, refl, sym, ap, subst, ◌∙◌, arith, ℕ, zero, suc, ◌+◌, ◌<◌, ◌≤◌, inl, inr, ◌⊎◌, Bool, true, false, List, []}
use Rattle.nim_types.specs.Forms.{Form, plain, reference, block, elements, row, parts, resource, wrapped, Forms, no_forms, forms, of_some, hooked, hooked_any}
use Rattle.nim_meaning.specs.Values.{Value, Parts, Values, nth, count, part, put_part, InBlock, Location, deeper}
use Rattle.nim_meaning.specs.Marks.{Member, Distinct}
use Rattle.nim_meaning.specs.State.{World, whole_at}
use Rattle.nim_meaning.specs.Acts.{branch}
use Rattle.nim_meaning.specs.Lifted.{walk, walk_all, each_part, assigning, bits}
use Rattle.holders.specs.Owned.{IsBase, At, From, Reaches, Full, Constant, Has, a_row, some_parts, of_wrapped, HasEach, none_more, one_more}
use Rattle.holders.specs.Owned.{HasAll, a_part, Apart}
use Rattle.holders.specs.Sure.{Sure}
use Rattle.holders.specs.Becoming.{taken_in, Becomes, none}
use Rattle.holders.specs.Becoming.{Turns}
use Rattle.holders.specs.Beside.{Beside, OtherPart, other_base, other_way}
use Rattle.holders.specs.Owned.{PartForm}
use Rattle.holders.proofs.Bases.{whole_is}
use Rattle.holders.proofs.Sure.{sure_then, sure_weaker}
use Rattle.holders.proofs.PathLemmas.{part_of_put, has_deeper, part_beside, reaches_beside, ways_deeper}
use Rattle.holders.proofs.Owning.{in_first, in_second, each_stays, all_stays}
use Rattle.holders.proofs.Ending.{same_number, may_deeper, part_is}
use Rattle.holders.proofs.Copying.{base_below, each_below, all_below, Source, from_part}
use Rattle.holders.proofs.Outward.{each_split, all_split, at_next}
use Rattle.holders.proofs.Assigning.{copy_replaces, bits_assigned, nothing_turns, row_has, parts_have, part_turns, mine_within, mine_distinct}
use Rattle.holders.proofs.Assigning.{turns_then, new_apart, part_later, part_first, wrapped_turns}

other_deeper : {to from : Location} (i j : ℕ) → OtherPart to from → OtherPart (deeper to i) (deeper from j)
other_deeper i j (other_base d) = other_base d
other_deeper i j (other_way e w) = other_way e (ways_deeper i j w)

-- what is read there stands there still
record Still (after : World) (from : Location) (v : Value) : Type 0 where
  u : Value
  from_there : From after from u v

still_from : {f : Form} {to from : Location} {w u v : Value} {given old : List ℕ} {world after : World} → At world to w →
    Becomes f to w given old world after → OtherPart to from → Apart from.base old → From world from u v → Still after from v
still_from at b (other_base d) far source = record {
  u = _;
  from_there = record { base = b.elsewhere _ _ source.base d far; there = source.there; is = source.is };
}
still_from {to = to} {from = from} {w = w} {u = u} {v = v} {world = world} {after = after} at b (other_way e ways) far source =
    let same : u ≡ w = sym (whole_is world from.base u source.base) ∙ ap (λ x. whole_at world x) e
    ∙ whole_is world to.base w at.base in
    record {
      u = put_part w to.path b.now;
      from_there = record {
        base = subst (λ x. IsBase after x (put_part w to.path b.now)) (sym e) b.is;
        there = reaches_beside b.now at.part ways (subst (λ x. Reaches x from.path) same source.there);
        is = part_beside b.now at.part ways ∙ sym (ap (λ x. part x from.path) same) ∙ source.is;
      };
    }

abbrev pub AssignsBeside : Form → Type 0
AssignsBeside f = (to from : Location) (w u v0 v : Value) (old bs : List ℕ) (world : World) → At world to w → part w to.path ≡ v0 →
    Has world Full f v0 old → Distinct old → Apart to.base old → From world from u v → Has world Constant f v bs → Beside to from old bs →
    Sure (walk assigning f to from) (λ x after. Turns none none f to w [] old world after) world

-- the blocks of what is read stay
module _ {g : Form} {o s : Location} {w : Value} {old bs : List ℕ} {world middle : World} (at : At world o w) (b : Becomes g o w [] old world middle)
    (beside : Beside o s old bs) where
  keeps_source : (cs : List ℕ) → ((k : ℕ) → Member k cs → Member k bs) → (k : ℕ) (x : Value) → Member k cs → IsBase world (InBlock k) x →
      IsBase middle (InBlock k) x
  keeps_source cs within k x m h =
      b.elsewhere (InBlock k) x h (λ q. beside.to_bs k (sym q) (within k m))
      (λ j q n. beside.both j n (subst (λ i. Member i bs) (same_number k j q) (within k m)))

  beside_next : (u : Value) (cs : List ℕ) → IsBase world s.base u → ((k : ℕ) → Member k cs → Member k bs) →
      ((k : ℕ) → Member k cs → k < taken_in world) → Beside o s b.blocks cs
  beside_next u cs base within below = record {
    ways = beside.ways;
    both = λ k m n. apart k (b.came k m) n;
    to_bs = λ k q m. beside.to_bs k q (within k m);
    from_old = λ k q m. from_apart k q (b.came k m);
  }
    where
      too_far : (k : ℕ) → taken_in world ≤ k → k < taken_in world → ⊥
      too_far k le less = omega (arith, le, less)

      apart : (k : ℕ) → Member k old ⊎ (Member k [] ⊎ (taken_in world ≤ k)) → Member k cs → ⊥
      apart k (inl q) n = beside.both k q (within k n)
      apart k (inr (inl q)) n = elim q [ ]
      apart k (inr (inr le)) n = too_far k le (below k n)

      from_apart : (k : ℕ) → s.base ≡ InBlock k → Member k old ⊎ (Member k [] ⊎ (taken_in world ≤ k)) → ⊥
      from_apart k q (inl m) = beside.from_old k q m
      from_apart k q (inr (inl m)) = elim m [ ]
      from_apart k q (inr (inr le)) = too_far k le (base_below (subst (λ x. IsBase world x u) q base))

-- of a part
beside_part : {to from : Location} {old bs mine cs : List ℕ} (i : ℕ) → Beside to from old bs → ((k : ℕ) → Member k mine → Member k old) →
    ((k : ℕ) → Member k cs → Member k bs) → Beside (deeper to i) (deeper from i) mine cs
beside_part i b mine_in cs_in = record {
  ways = other_deeper i i b.ways;
  both = λ k m n. b.both k (mine_in k m) (cs_in k n);
  to_bs = λ k q m. b.to_bs k q (cs_in k m);
  from_old = λ k q m. b.from_old k q (mine_in k m);
}

source_still : {f : Form} {o s : Location} {w u : Value} {src : Values} {old : List ℕ} {world middle : World} → At world o w →
    Becomes f o w [] old world middle →
    OtherPart o s → Apart s.base old → Source world s u src → Still middle s (Parts src)
source_still at b ways far source = still_from at b ways far (record { base = source.base; there = source.there; is = source.is })

as_source : {world : World} {s : Location} {src : Values} (h : Still world s (Parts src)) → Source world s h.u src
as_source h = record { base = h.from_there.base; there = h.from_there.there; is = h.from_there.is }

each_beside : (f : Form) → AssignsBeside f → (size n i : ℕ) → i + n ≡ size → (o s : Location) (w u : Value) (all src : Values) (old bs : List ℕ)
    (world : World) → At world o w → part w o.path ≡ Parts all → count all ≡ size → HasEach world Full f size 0 all old → Distinct old → Apart o.base old →
    Source world s u src → HasEach world Constant f n i src bs → Beside o s old bs →
    Sure (each_part n (walk assigning f) i o s) (λ x after. Turns none none (row size f) o w [] old world after) world
each_beside f assigns size zero i q o s w u all src old _ world at e same each d apart source none_more beside =
    nothing_turns (row size f) o w (Parts all) old world at e (a_row same each) d
each_beside f assigns size (suc n) i q o s w u all src old _ world at e same each d apart source (one_more {bs = ds} {cs = es} less h more) beside =
    let rest : World → Values → List ℕ → Type 0 = λ x vs bs. HasEach x Full f size 0 vs bs in
    let p = each_split i each (omega arith) (omega (arith, q)) in
    sure_then (walk assigning f (deeper o i) (deeper s i)) (λ x. each_part n (walk assigning f) (suc i) o s)
    (λ x after. Turns none none f (deeper o i) w [] p.mine world after) (λ x after. Turns none none (row size f) o w [] old world after) world
    (assigns (deeper o i) (deeper s i) w u (nth all i) (nth src i) p.mine ds world
    (record { base = at.base; part = has_deeper i all at.part e p.there; may = may_deeper i at.may }) (part_is i o w all e) p.has
    (mine_distinct rest world f i all old p d) (λ k z m. apart k z (mine_within rest world f i all old p k m)) (from_part i s u src world source less) h
    (beside_part i beside (mine_within rest world f i all old p) (λ k m. in_first k ds es m)))
    (λ x middle t.
    let b = part_turns rest (row size f) f world middle o w i all old p at e (λ vs cs c r. a_row (c ∙ same) r) d (each_below each) apart t.0 in
    let r = row_has b.has in
    let z = source_still at b beside.ways beside.from_old source in
    sure_weaker (each_part n (walk assigning f) (suc i) o s) (λ x last. Turns none none (row size f) o (put_part w o.path b.now) [] b.blocks middle last)
    (λ x last. Turns none none (row size f) o w [] old world last) middle
    (each_beside f assigns size n (suc i) (omega (arith, q)) o s (put_part w o.path b.now) z.u r.all src b.blocks es middle (at_next at b)
    (part_of_put b.now at.part ∙ r.is) r.same r.each b.distinct (new_apart at b apart) (as_source z)
    (each_stays world middle (keeps_source at b beside es (λ k m. in_second k ds es m)) more)
    (beside_next at b beside u es source.base (λ k m. in_second k ds es m) (each_below more)))
    (λ x last y. turns_then at b t.1 y))

abbrev AllBeside : Forms → Type 0
AllBeside gs = (fs : Forms) (i : ℕ) → ((d : ℕ) (f : Form) → PartForm gs d f → PartForm fs (i + d) f) → (o s : Location) (w u : Value) (all src : Values)
    (old bs : List ℕ) (world : World) → At world o w → part w o.path ≡ Parts all → HasAll world Full fs 0 all old → Distinct old → Apart o.base old →
    Source world s u src → HasAll world Constant gs i src bs → Beside o s old bs →
    Sure (walk_all assigning gs i o s) (λ x after. Turns none none (parts fs) o w [] old world after) world

no_more_beside : AllBeside no_forms
no_more_beside fs i part_of o s w u all src old bs world at e h d apart source left beside =
    nothing_turns (parts fs) o w (Parts all) old world at e (some_parts h) d

more_beside : (g : Form) (gs : Forms) → AssignsBeside g → AllBeside gs → AllBeside (forms g gs)
more_beside g gs assigns others fs i part_of o s w u all src old _ world at e h d apart source (a_part {bs = ds} {cs = es} less left more) beside =
    let rest : World → Values → List ℕ → Type 0 = λ x vs bs. HasAll x Full fs 0 vs bs in
    let p = all_split h (part_first gs g fs i part_of) i (omega arith) in
    sure_then (walk assigning g (deeper o i) (deeper s i)) (λ x. walk_all assigning gs (suc i) o s)
    (λ x after. Turns none none g (deeper o i) w [] p.mine world after) (λ x after. Turns none none (parts fs) o w [] old world after) world
    (assigns (deeper o i) (deeper s i) w u (nth all i) (nth src i) p.mine ds world
    (record { base = at.base; part = has_deeper i all at.part e p.there; may = may_deeper i at.may }) (part_is i o w all e) p.has
    (mine_distinct rest world g i all old p d) (λ k z m. apart k z (mine_within rest world g i all old p k m)) (from_part i s u src world source less) left
    (beside_part i beside (mine_within rest world g i all old p) (λ k m. in_first k ds es m)))
    (λ x middle t.
    let b = part_turns rest (parts fs) g world middle o w i all old p at e (λ vs cs c r. some_parts r) d (all_below h) apart t.0 in
    let r = parts_have b.has in
    let z = source_still at b beside.ways beside.from_old source in
    sure_weaker (walk_all assigning gs (suc i) o s) (λ x last. Turns none none (parts fs) o (put_part w o.path b.now) [] b.blocks middle last)
    (λ x last. Turns none none (parts fs) o w [] old world last) middle
    (others fs (suc i) (part_later gs g fs i part_of) o s (put_part w o.path b.now) z.u r.all src b.blocks es middle (at_next at b)
    (part_of_put b.now at.part ∙ r.is) r.parts b.distinct (new_apart at b apart) (as_source z)
    (all_stays world middle (keeps_source at b beside es (λ k m. in_second k ds es m)) more)
    (beside_next at b beside u es source.base (λ k m. in_second k ds es m) (all_below more)))
    (λ x last y. turns_then at b t.1 y))

row_beside : (n : ℕ) (f : Form) → AssignsBeside f → AssignsBeside (row n f)
row_beside n f assigns to from w u v0 v old bs world at e h0 d apart source h beside = by (of_some n (hooked f)) refl v0 v old bs e h0 d apart source h beside
  where
    by : (b : Bool) → of_some n (hooked f) ≡ b → (v0 v : Value) (old bs : List ℕ) → part w to.path ≡ v0 → Has world Full (row n f) v0 old → Distinct old →
        Apart to.base old → From world from u v → Has world Constant (row n f) v bs → Beside to from old bs →
        Sure (branch b (each_part n (walk assigning f) 0 to from) (bits to from)) (λ x after. Turns none none (row n f) to w [] old world after) world
    by false is v0 v old bs e h0 d apart source h beside = bits_assigned (row n f) to from w u v0 v old bs world is at e h0 source h
    by true is _ _ _ _ e (a_row {all = all} {bs = bs} same each) d apart source (a_row {all = src} {bs = cs} same2 left) beside =
        each_beside f assigns n n 0 (omega arith) to from w u all src bs cs world at e same each d apart
        (record { base = source.base; there = source.there; is = source.is }) left beside

parts_beside : (fs : Forms) → AllBeside fs → AssignsBeside (parts fs)
parts_beside fs assigns to from w u v0 v old bs world at e h0 d apart source h beside = by (hooked_any fs) refl v0 v old bs e h0 d apart source h beside
  where
    by : (b : Bool) → hooked_any fs ≡ b → (v0 v : Value) (old bs : List ℕ) → part w to.path ≡ v0 → Has world Full (parts fs) v0 old → Distinct old →
        Apart to.base old → From world from u v → Has world Constant (parts fs) v bs → Beside to from old bs →
        Sure (branch b (walk_all assigning fs 0 to from) (bits to from)) (λ x after. Turns none none (parts fs) to w [] old world after) world
    by false is v0 v old bs e h0 d apart source h beside = bits_assigned (parts fs) to from w u v0 v old bs world is at e h0 source h
    by true is _ _ _ _ e (some_parts {all = all} {bs = bs} h0) d apart source (some_parts {all = src} {bs = cs} left) beside =
        assigns fs 0 (λ d f p. subst (λ n. PartForm fs n f) (omega arith) p) to from w u all src bs cs world at e h0 d apart
        (record { base = source.base; there = source.there; is = source.is }) left beside

wrapped_beside : (f : Form) → AssignsBeside f → AssignsBeside (wrapped f)
wrapped_beside f assigns to from w u v0 v old bs world at e (of_wrapped h0) d apart source (of_wrapped h) beside =
    sure_weaker (walk assigning f to from) (λ x after. Turns none none f to w [] old world after)
    (λ x after. Turns none none (wrapped f) to w [] old world after) world (assigns to from w u v0 v old bs world at e h0 d apart source h beside)
    (λ x after t. wrapped_turns f to w old world after t)

mutual
  pub assigns_beside : (f : Form) → AssignsBeside f
  assigns_beside plain = λ to from w u v0 v old bs world at e h0 d apart source h beside.
      bits_assigned plain to from w u v0 v old bs world refl at e h0 source h
  assigns_beside reference = λ to from w u v0 v old bs world at e h0 d apart source h beside. elim h [ ]
  assigns_beside block = λ to from w u v0 v old bs world at e h0 d apart source h beside.
      copy_replaces block to from w u v0 v old bs world at e h0 d apart source h
  assigns_beside (elements f) = λ to from w u v0 v old bs world at e h0 d apart source h beside.
      copy_replaces (elements f) to from w u v0 v old bs world at e h0 d apart source h
  assigns_beside (row n f) = row_beside n f (assigns_beside f)
  assigns_beside (parts fs) = parts_beside fs (all_beside fs)
  assigns_beside (resource fs) = λ to from w u v0 v old bs world at e h0 d apart source h beside. elim h [ ]
  assigns_beside (wrapped f) = wrapped_beside f (assigns_beside f)

  all_beside : (fs : Forms) → AllBeside fs
  all_beside no_forms = no_more_beside
  all_beside (forms f fs) = more_beside f fs (assigns_beside f) (all_beside fs)
