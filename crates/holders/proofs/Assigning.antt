-- A place gets a copy of what stands elsewhere, or of itself, part by part; what stood there before ends.
use Rattle.std.proofs.Common.{◌≡◌, refl, sym, ap, subst, ◌∙◌, arith, ℕ, zero, suc, ◌+◌, ◌<◌, ◌≤◌, inl, inr, ◌⊎◌, Bool, true, false, List, [], ◌++◌}
use Rattle.nim_types.specs.Forms.{Form, plain, reference, block, elements, row, parts, resource, wrapped, Forms, no_forms, forms, of_some, hooked, hooked_any}
use Rattle.nim_meaning.specs.Values.{Value, Parts, Values, bytes, nth, count, part, put_part, InBlock, Location, deeper}
use Rattle.nim_meaning.specs.Marks.{Member, Distinct}
use Rattle.nim_meaning.specs.State.{World, whole_at, store}
use Rattle.nim_meaning.specs.Acts.{branch}
use Rattle.nim_meaning.specs.Deeds.{Deed, costs, sets, ◌>>◌, ◌>>=◌}
use Rattle.nim_meaning.specs.Lifted.{walk, walk_all, each_part, assigning, bits, copied, replaced, given_up}
use Rattle.holders.specs.Holders.{held_by}
use Rattle.holders.specs.Owned.{IsBase, At, From, Extent, Full, Constant, Has, a_row, some_parts, of_wrapped, HasEach}
use Rattle.holders.specs.Owned.{HasAll, Apart}
use Rattle.holders.specs.Sure.{Sure}
use Rattle.holders.specs.Becoming.{taken_in, Becomes, Gives, HeldOnce, KeepsHolders, none}
use Rattle.holders.specs.Becoming.{Strange, Turns, times}
use Rattle.holders.specs.Owned.{PartForm, first_part, next_part}
use Rattle.holders.specs.Walks.{GivenUp}
use Rattle.holders.proofs.Staying.{stays_same, stays_then, stored_stays}
use Rattle.holders.proofs.Sure.{sure_then, sure_weaker}
use Rattle.holders.proofs.PathLemmas.{part_of_put, put_same, has_deeper}
use Rattle.holders.proofs.Ledger.{stored_counts, stored_live}
use Rattle.holders.proofs.Owning.{in_first, in_second, Stay, has_stays, from_full, has_none, plain_none, plain_anywhere, distinct_second, distinct_first}
use Rattle.holders.proofs.Guards.{sure_takes, sure_sees, sure_sets, read_at}
use Rattle.holders.proofs.Ending.{same_number, may_deeper}
use Rattle.holders.proofs.Ending as ending
use Rattle.holders.proofs.Copying.{base_below, has_below, each_below, all_below, stored_length}
use Rattle.holders.proofs.Sinking.{is_put, put_elsewhere}
use Rattle.holders.proofs.UnderWay.{gives_up, copy_given}
use Rattle.holders.proofs.Growing.{sure_grows}
use Rattle.holders.proofs.Outward.{Split, each_split, all_split, part_becomes, wrapped_becomes, at_next, becomes_then}

pub add_none : (others : ℕ → ℕ) (world : World) → HeldOnce others world → HeldOnce (λ k. none k + others k) world
add_none others world h k = omega (arith, h k)

-- ---- a value is put in a place, and then the old one ends

pub replaces : (f : Form) (to : Location) (w v0 x : Value) (old new : List ℕ) (world : World) → At world to w → part w to.path ≡ v0 →
    Has world Full f v0 old → Has world Full f x new → Distinct old → Distinct new → ((k : ℕ) → Member k old → Member k new → ⊥) → Apart to.base old →
    Apart to.base new → Sure (replaced f to x) (λ u after. Turns (λ k. held_by k x) none f to w new old world after) world
replaces f to w v0 x old new world at e h0 h d dn both apart apart_new =
    let now = store world to x in
    let Q : Unit {0} → World → Type 0 = λ u after. Turns (λ k. held_by k x) none f to w new old world after in
    sure_sees (λ world old. sets to x >> given_up f old) Q at e tt h0
    (sure_then (sets to x) (λ u. given_up f v0) (λ u after. after ≡ store world to x) Q world (sure_sets x (λ u after. after ≡ store world to x) at refl)
    (λ u after is. subst (λ y. Sure (given_up f v0) Q y) (sym is)
    (sure_weaker (given_up f v0) (λ u after. GivenUp v0 old now after × (taken_in now ≤ taken_in after)) Q now
    (sure_grows (given_up f v0) (λ u after. GivenUp v0 old now after) now (gives_up f v0 old now (has_stays world now (stay old apart) h0) d))
    (λ u after t. (
      record {
        now = x;
        blocks = new;
        has = has_stays now after (λ k y m is. t.0.elsewhere (InBlock k) y is (λ j q n. both j n (subst (λ i. Member i new) (same_number k j q) m)))
            (has_stays world now (stay new apart_new) h);
        distinct = dn;
        came = λ k m. inr (inl m);
        grows = omega (arith, t.1, stored_length world to.base (put_part (whole_at world to.base) to.path x));
        loses = λ k. omega (arith, t.0.loses k, stored_live world k to.base (put_part (whole_at world to.base) to.path x));
        is = t.0.elsewhere to.base (put_part w to.path x) (is_put to w world at x) (λ k q m. apart k q m);
        elsewhere = λ b y is q far. t.0.elsewhere b y (put_elsewhere to w world at x b y is q) far;
        stays = stays_then (stored_stays world (put_part (whole_at world to.base) to.path x) at.base) t.0.stays;
      },
      λ others is. add_none others after (t.0.once others (λ k. omega (
        arith,
        is k,
        ap (held_by k) e,
        stored_counts world k to x at.base at.part at.may,
        stored_live world k to.base (put_part (whole_at world to.base) to.path x),
      ))),
    )))))
  where
    stay : (bs : List ℕ) → Apart to.base bs → Stay world (store world to x) bs
    stay bs far k y m is = put_elsewhere to w world at x (InBlock k) y is (λ q. far k (sym q) m)

-- ---- a value that comes to be is

module _ (f : Form) (x : Value) (to : Location) (w v0 : Value) (old : List ℕ) (world middle : World) where
  pub after_made : At world to w → part w to.path ≡ v0 → Has world Full f v0 old → Distinct old → Apart to.base old →
      Gives f x [] world middle × KeepsHolders none (λ k. held_by k x) world middle →
      Sure (replaced f to x) (λ u last. Turns none none f to w [] old world last) middle
  after_made at e h0 d apart c =
      sure_weaker (replaced f to x) (λ u last. Turns (λ k. held_by k x) none f to w c.0.blocks old middle last)
      (λ u last. Turns none none f to w [] old world last) middle
      (replaces f to w v0 x old c.0.blocks middle
      (record { base = c.0.elsewhere to.base w at.base; part = at.part; may = at.may }) e
      (has_stays world middle (λ k y m is. c.0.elsewhere (InBlock k) y is) h0) c.0.has d c.0.distinct
      (λ k m n. too_far k (has_below h0 k m) (new_one k (c.0.came k n))) apart (λ k q m. no_block k q (new_one k (c.0.came k m))))
      (λ u last t. (
        record {
          now = t.0.now;
          blocks = t.0.blocks;
          has = t.0.has;
          distinct = t.0.distinct;
          came = λ k m. from_copy k c.0.blocks (taken_in middle) (λ n. new_one k (c.0.came k n)) c.0.grows (t.0.came k m);
          grows = omega (arith, c.0.grows, t.0.grows);
          loses = λ k. omega (arith, c.0.loses k, t.0.loses k);
          is = t.0.is;
          elsewhere = λ b y is q far. t.0.elsewhere b y (c.0.elsewhere b y is) q far;
          stays = stays_then c.0.stays t.0.stays;
        },
        λ others is. t.1 others (c.1 others is),
      ))
    where
      new_one : (k : ℕ) → Member k [] ⊎ (taken_in world ≤ k) → taken_in world ≤ k
      new_one k (inl m) = elim m [ ]
      new_one k (inr le) = le

      too_far : (k : ℕ) → k < taken_in world → taken_in world ≤ k → ⊥
      too_far k less le = omega (arith, less, le)

      no_block : (k : ℕ) → to.base ≡ InBlock k → taken_in world ≤ k → ⊥
      no_block k q le = too_far k (base_below (subst (λ b. IsBase world b w) q at.base)) le

      from_copy : (k : ℕ) (new : List ℕ) (n : ℕ) → (Member k new → taken_in world ≤ k) → taken_in world ≤ n →
          Member k old ⊎ (Member k new ⊎ (n ≤ k)) → Member k old ⊎ (Member k [] ⊎ (taken_in world ≤ k))
      from_copy k new n fresh le (inl m) = inl m
      from_copy k new n fresh le (inr (inl m)) = inr (inr (fresh m))
      from_copy k new n fresh le (inr (inr more)) = inr (inr (omega (arith, le, more)))

pub made_replaces : (f : Form) (make : Deed Value) (to : Location) (w v0 : Value) (old : List ℕ) (world : World) → At world to w → part w to.path ≡ v0 →
    Has world Full f v0 old → Distinct old → Apart to.base old →
    Sure make (λ x after. Gives f x [] world after × KeepsHolders none (λ k. held_by k x) world after) world →
    Sure (make >>= replaced f to) (λ x after. Turns none none f to w [] old world after) world
made_replaces f make to w v0 old world at e h0 d apart made =
    sure_then make (replaced f to) (λ x after. Gives f x [] world after × KeepsHolders none (λ k. held_by k x) world after)
    (λ x after. Turns none none f to w [] old world after) world made
    (λ x middle c. after_made f x to w v0 old world middle at e h0 d apart c)

-- and so is a copy
pub copy_replaces : (f : Form) (to from : Location) (w u v0 v : Value) (old bs : List ℕ) (world : World) → At world to w → part w to.path ≡ v0 →
    Has world Full f v0 old → Distinct old → Apart to.base old → From world from u v → Has world Constant f v bs →
    Sure (copied f from >>= replaced f to) (λ x after. Turns none none f to w [] old world after) world
copy_replaces f to from w u v0 v old bs world at e h0 d apart source h =
    made_replaces f (copied f from) to w v0 old world at e h0 d apart (copy_given f from u v bs world source h)

-- ---- bits alone

pub bits_assigned : (f : Form) (to from : Location) (w u v0 v : Value) (old bs : List ℕ) (world : World) → hooked f ≡ false → At world to w →
    part w to.path ≡ v0 → Has world Full f v0 old → From world from u v → Has world Constant f v bs →
    Sure (bits to from) (λ x after. Turns none none f to w [] old world after) world
bits_assigned f to from w u v0 v old bs world bare at e h0 source h =
    sure_takes (λ world v. costs (bytes v) (sets to v)) (λ x after. Turns none none f to w [] old world after) source tt h
    (sure_sets v (λ x after. Turns none none f to w [] old world after) at (
      record {
        now = v;
        blocks = [];
        has = plain_anywhere (store world to v) Full bare h;
        distinct = tt;
        came = λ k m. elim m [ ];
        grows = omega (arith, stored_length world to.base (put_part (whole_at world to.base) to.path v));
        loses = λ k. omega (arith, ap (times k) (plain_none bare h0), stored_live world k to.base (put_part (whole_at world to.base) to.path v));
        is = is_put to w world at v;
        elsewhere = λ b y is q far. put_elsewhere to w world at v b y is q;
        stays = stored_stays world (put_part (whole_at world to.base) to.path v) at.base;
      },
      λ others is k. omega (
        arith,
        is k,
        ap (held_by k) e,
        has_none (plain_none bare h0) h0 k,
        has_none (plain_none bare h) h k,
        stored_counts world k to v at.base at.part at.may,
        stored_live world k to.base (put_part (whole_at world to.base) to.path v),
      ),
    ))

-- ---- nothing is done, and one thing after another

pub nothing_turns : (f : Form) (l : Location) (w v : Value) (old : List ℕ) (world : World) → At world l w → part w l.path ≡ v → Has world Full f v old →
    Distinct old → Turns none none f l w [] old world world
nothing_turns f l w v old world at e h d = (
  record {
    now = v;
    blocks = old;
    has = h;
    distinct = d;
    came = λ k m. inl m;
    grows = omega arith;
    loses = λ k. omega arith;
    is = subst (λ x. IsBase world l.base x) (sym (ap (put_part w l.path) (sym e) ∙ put_same at.part)) at.base;
    elsewhere = λ b y is q far. is;
    stays = stays_same world;
  },
  λ others is. is,
)

-- a row, or an object, by its parts
pub record RowHas (world : World) (x : Extent) (n : ℕ) (f : Form) (v : Value) (bs : List ℕ) : Type 0 where
  pub all : Values
  pub is : v ≡ Parts all
  pub same : count all ≡ n
  pub each : HasEach world x f n 0 all bs

pub row_has : {world : World} {n : ℕ} {f : Form} {v : Value} {bs : List ℕ} → Has world Full (row n f) v bs → RowHas world Full n f v bs
row_has (a_row {all = all} same each) = record { all = all; is = refl; same = same; each = each }

pub record PartsHave (world : World) (x : Extent) (fs : Forms) (v : Value) (bs : List ℕ) : Type 0 where
  pub all : Values
  pub is : v ≡ Parts all
  pub parts : HasAll world x fs 0 all bs

pub parts_have : {world : World} {fs : Forms} {v : Value} {bs : List ℕ} → Has world Full (parts fs) v bs → PartsHave world Full fs v bs
parts_have (some_parts {all = all} h) = record { all = all; is = refl; parts = h }

not_strange : (bs : List ℕ) → Strange [] bs
not_strange bs k m n = elim m [ ]

-- ---- of itself

abbrev pub AssignsSelf : Form → Type 0
AssignsSelf f = (to : Location) (w v0 : Value) (old : List ℕ) (world : World) → At world to w → part w to.path ≡ v0 → Has world Full f v0 old →
    Distinct old → Apart to.base old → Sure (walk assigning f to to) (λ x after. Turns none none f to w [] old world after) world

-- one part is assigned, of a whole
pub part_turns : (rest : World → Values → List ℕ → Type 0) (g f : Form) (world after : World) (l : Location) (w : Value) (i : ℕ) (all : Values) (bs : List ℕ)
    (s : Split rest world f i all bs) → At world l w → part w l.path ≡ Parts all →
    ((vs : Values) (cs : List ℕ) → count vs ≡ count all → rest after vs cs → Has after Full g (Parts vs) cs) → Distinct bs →
    ((k : ℕ) → Member k bs → k < taken_in world) → Apart l.base bs → Becomes f (deeper l i) w [] s.mine world after → Becomes g l w [] bs world after
part_turns rest g f world after l w i all bs s at e make d below apart b =
    part_becomes rest g f world after l w i all bs [] s at e make d below (not_strange bs) apart b

-- a split-off part has blocks of the whole, once each
module _ (rest : World → Values → List ℕ → Type 0) (world : World) (f : Form) (i : ℕ) (all : Values) (bs : List ℕ) (s : Split rest world f i all bs) where
  pub mine_within : (k : ℕ) → Member k s.mine → Member k bs
  mine_within k m = subst (λ cs. Member k cs) (sym s.is) (in_second k s.before (s.mine ++ s.behind) (in_first k s.mine s.behind m))

  pub mine_distinct : Distinct bs → Distinct s.mine
  mine_distinct d =
      distinct_first s.mine s.behind
      (distinct_second s.before (s.mine ++ s.behind) (subst (λ (cs : List ℕ). Distinct cs) s.is d))

pub turns_then : {f : Form} {l : Location} {w : Value} {old : List ℕ} {world middle last : World} → At world l w → (b : Becomes f l w [] old world middle) →
    KeepsHolders none none world middle → Turns none none f l (put_part w l.path b.now) [] b.blocks middle last → Turns none none f l w [] old world last
turns_then at b k t = (becomes_then at b t.0, λ others is. t.1 others (k others is))

pub new_apart : {f : Form} {l : Location} {w : Value} {old : List ℕ} {world middle : World} → At world l w → (b : Becomes f l w [] old world middle) →
    Apart l.base old → Apart l.base b.blocks
new_apart {l = l} {w = w} {old = old} {world = world} at b apart k q m = by (b.came k m)
  where
    too_far : IsBase world (InBlock k) w → taken_in world ≤ k → ⊥
    too_far h le = omega (arith, base_below h, le)

    by : Member k old ⊎ (Member k [] ⊎ (taken_in world ≤ k)) → ⊥
    by (inl n) = apart k q n
    by (inr (inl n)) = elim n [ ]
    by (inr (inr le)) = too_far (subst (λ b. IsBase world b w) q at.base) le

each_self : (f : Form) → AssignsSelf f → (size n i : ℕ) → i + n ≡ size → (o : Location) (w : Value) (all : Values) (old : List ℕ) (world : World) →
    At world o w → part w o.path ≡ Parts all → count all ≡ size → HasEach world Full f size 0 all old → Distinct old → Apart o.base old →
    Sure (each_part n (walk assigning f) i o o) (λ x after. Turns none none (row size f) o w [] old world after) world
each_self f self size zero i q o w all old world at e same each d apart =
    nothing_turns (row size f) o w (Parts all) old world at e (a_row same each) d
each_self f self size (suc n) i q o w all old world at e same each d apart =
    let rest : World → Values → List ℕ → Type 0 = λ x vs bs. HasEach x Full f size 0 vs bs in
    let s = each_split i each (omega arith) (omega (arith, q)) in
    sure_then (walk assigning f (deeper o i) (deeper o i)) (λ x. each_part n (walk assigning f) (suc i) o o)
    (λ x after. Turns none none f (deeper o i) w [] s.mine world after) (λ x after. Turns none none (row size f) o w [] old world after) world
    (self (deeper o i) w (nth all i) s.mine world
    (record { base = at.base; part = has_deeper i all at.part e s.there; may = may_deeper i at.may })
    (ending.part_is i o w all e) s.has (mine_distinct rest world f i all old s d) (λ k z m. apart k z (mine_within rest world f i all old s k m)))
    (λ x middle t.
    let b = part_turns rest (row size f) f world middle o w i all old s at e (λ vs cs c r. a_row (c ∙ same) r) d (each_below each) apart t.0 in
    let r = row_has b.has in
    sure_weaker (each_part n (walk assigning f) (suc i) o o) (λ x last. Turns none none (row size f) o (put_part w o.path b.now) [] b.blocks middle last)
    (λ x last. Turns none none (row size f) o w [] old world last) middle
    (each_self f self size n (suc i) (omega (arith, q)) o (put_part w o.path b.now) r.all b.blocks middle (at_next at b)
    (part_of_put b.now at.part ∙ r.is) r.same r.each b.distinct (new_apart at b apart))
    (λ x last z. turns_then at b t.1 z))

abbrev AllSelf : Forms → Type 0
AllSelf gs = (fs : Forms) (i : ℕ) → ((d : ℕ) (f : Form) → PartForm gs d f → PartForm fs (i + d) f) → (o : Location) (w : Value) (all : Values) (old : List ℕ)
    (world : World) → At world o w → part w o.path ≡ Parts all → HasAll world Full fs 0 all old → Distinct old → Apart o.base old →
    Sure (walk_all assigning gs i o o) (λ x after. Turns none none (parts fs) o w [] old world after) world

no_more_self : AllSelf no_forms
no_more_self fs i part_of o w all old world at e h d apart = nothing_turns (parts fs) o w (Parts all) old world at e (some_parts h) d

pub part_later : (gs : Forms) (g : Form) (fs : Forms) (i : ℕ) → ((d : ℕ) (f : Form) → PartForm (forms g gs) d f → PartForm fs (i + d) f) → (d : ℕ) (f : Form) →
    PartForm gs d f → PartForm fs (suc i + d) f
part_later gs g fs i part_of d f p = subst (λ n. PartForm fs n f) (omega arith) (part_of (suc d) f (next_part p))

pub part_first : (gs : Forms) (g : Form) (fs : Forms) (i : ℕ) → ((d : ℕ) (f : Form) → PartForm (forms g gs) d f → PartForm fs (i + d) f) → PartForm fs i g
part_first gs g fs i part_of = subst (λ n. PartForm fs n g) (omega arith) (part_of 0 g first_part)

more_self : (g : Form) (gs : Forms) → AssignsSelf g → AllSelf gs → AllSelf (forms g gs)
more_self g gs self others fs i part_of o w all old world at e h d apart =
    let rest : World → Values → List ℕ → Type 0 = λ x vs bs. HasAll x Full fs 0 vs bs in
    let s = all_split h (part_first gs g fs i part_of) i (omega arith) in
    sure_then (walk assigning g (deeper o i) (deeper o i)) (λ x. walk_all assigning gs (suc i) o o)
    (λ x after. Turns none none g (deeper o i) w [] s.mine world after) (λ x after. Turns none none (parts fs) o w [] old world after) world
    (self (deeper o i) w (nth all i) s.mine world
    (record { base = at.base; part = has_deeper i all at.part e s.there; may = may_deeper i at.may })
    (ending.part_is i o w all e) s.has (mine_distinct rest world g i all old s d) (λ k z m. apart k z (mine_within rest world g i all old s k m)))
    (λ x middle t.
    let b = part_turns rest (parts fs) g world middle o w i all old s at e (λ vs cs c r. some_parts r) d (all_below h) apart t.0 in
    let r = parts_have b.has in
    sure_weaker (walk_all assigning gs (suc i) o o) (λ x last. Turns none none (parts fs) o (put_part w o.path b.now) [] b.blocks middle last)
    (λ x last. Turns none none (parts fs) o w [] old world last) middle
    (others fs (suc i) (part_later gs g fs i part_of) o (put_part w o.path b.now) r.all b.blocks middle (at_next at b)
    (part_of_put b.now at.part ∙ r.is) r.parts b.distinct (new_apart at b apart))
    (λ x last z. turns_then at b t.1 z))

pub wrapped_turns : (f : Form) (l : Location) (w : Value) (old : List ℕ) (world after : World) → Turns none none f l w [] old world after →
    Turns none none (wrapped f) l w [] old world after
wrapped_turns f l w old world after t = (wrapped_becomes f l w [] old world after t.0, t.1)

row_self : (n : ℕ) (f : Form) → AssignsSelf f → AssignsSelf (row n f)
row_self n f self to w v0 old world at e h d apart = by (of_some n (hooked f)) refl v0 old e h d apart
  where
    by : (b : Bool) → of_some n (hooked f) ≡ b → (v0 : Value) (old : List ℕ) → part w to.path ≡ v0 → Has world Full (row n f) v0 old → Distinct old →
        Apart to.base old → Sure (branch b (each_part n (walk assigning f) 0 to to) (bits to to)) (λ x after. Turns none none (row n f) to w [] old world after)
        world
    by false is v0 old e h d apart =
        bits_assigned (row n f) to to w w v0 v0 old old world is at e h (read_at at e) (from_full h)
    by true is _ _ e (a_row {all = all} {bs = bs} same each) d apart = each_self f self n n 0 (omega arith) to w all bs world at e same each d apart

parts_self : (fs : Forms) → AllSelf fs → AssignsSelf (parts fs)
parts_self fs self to w v0 old world at e h d apart = by (hooked_any fs) refl v0 old e h d apart
  where
    by : (b : Bool) → hooked_any fs ≡ b → (v0 : Value) (old : List ℕ) → part w to.path ≡ v0 → Has world Full (parts fs) v0 old → Distinct old →
        Apart to.base old → Sure (branch b (walk_all assigning fs 0 to to) (bits to to)) (λ x after. Turns none none (parts fs) to w [] old world after) world
    by false is v0 old e h d apart =
        bits_assigned (parts fs) to to w w v0 v0 old old world is at e h (read_at at e) (from_full h)
    by true is _ _ e (some_parts {all = all} {bs = bs} h) d apart =
        self fs 0 (λ d f p. subst (λ n. PartForm fs n f) (omega arith) p) to w all bs world at e h d apart

wrapped_self : (f : Form) → AssignsSelf f → AssignsSelf (wrapped f)
wrapped_self f self to w v0 old world at e (of_wrapped h) d apart =
    sure_weaker (walk assigning f to to) (λ x after. Turns none none f to w [] old world after) (λ x after. Turns none none (wrapped f) to w [] old world after)
    world (self to w v0 old world at e h d apart) (λ x after t. wrapped_turns f to w old world after t)

leaf_self : (f : Form) (to : Location) (w v0 : Value) (old : List ℕ) (world : World) → At world to w → part w to.path ≡ v0 → Has world Full f v0 old →
    Distinct old → Apart to.base old → Sure (copied f to >>= replaced f to) (λ x after. Turns none none f to w [] old world after) world
leaf_self f to w v0 old world at e h d apart =
    copy_replaces f to to w w v0 v0 old old world at e h d apart (read_at at e) (from_full h)

mutual
  pub assigns_self : (f : Form) → AssignsSelf f
  assigns_self plain = λ to w v0 old world at e h d apart.
      bits_assigned plain to to w w v0 v0 old old world refl at e h (read_at at e) (from_full h)
  assigns_self reference = λ to w v0 old world at e h d apart. elim h [ ]
  assigns_self block = leaf_self block
  assigns_self (elements f) = leaf_self (elements f)
  assigns_self (row n f) = row_self n f (assigns_self f)
  assigns_self (parts fs) = parts_self fs (all_self fs)
  assigns_self (resource fs) = λ to w v0 old world at e h d apart. elim h [ ]
  assigns_self (wrapped f) = wrapped_self f (assigns_self f)

  all_self : (fs : Forms) → AllSelf fs
  all_self no_forms = no_more_self
  all_self (forms f fs) = more_self f fs (assigns_self f) (all_self fs)
