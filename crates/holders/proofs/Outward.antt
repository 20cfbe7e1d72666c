-- What becomes of a part becomes of the whole: of a row, of a sequence whose elements are in a block, and one change after another.
use Rattle.std.proofs.Common.{◌≡◌, refl, sym, ap, subst, ◌∙◌, arith, ℕ, suc, ◌+◌, ◌<◌, ◌≤◌, inl, inr, ◌⊎◌, List, [], ◌∷◌, ◌++◌, Some}
use Rattle.nim_types.specs.Forms.{Form, elements, wrapped, Forms, forms}
use Rattle.nim_meaning.specs.Values.{Value, Handle, Parts, Values, nth, count, with_nth, part, put_part, Base, InBlock, Location, deeper}
use Rattle.nim_meaning.specs.Marks.{Member, Distinct}
use Rattle.nim_meaning.specs.State.{World}
use Rattle.holders.specs.Owned.{IsBase, At, Full, Has, a_sequence, of_wrapped, HasEach, none_more, one_more, HasAll, no_parts, a_part, Apart}
use Rattle.holders.specs.Becoming.{taken_in, Becomes}
use Rattle.holders.specs.Becoming.{Strange, BecomesWith}
use Rattle.holders.specs.Owned.{PartForm, first_part, next_part}
use Rattle.holders.proofs.Staying.{stays_then}
use Rattle.holders.proofs.PathLemmas.{count_with, nth_with, nth_without, put_twice, has_put, put_deeper, put_same}
use Rattle.holders.proofs.Owning.{in_first, in_second, distinct_first, distinct_second, distinct_apart, same_or_later, Stay, has_stays, each_stays, all_stays}
use Rattle.holders.proofs.Owning.{each_same, all_same}
use Rattle.holders.proofs.Ending.{row_of, same_number}
use Rattle.holders.proofs.Copying.{base_below, each_below, distinct_both, either_block}
use Rattle.holders.proofs.Ledger.{times_middle}

-- ---- lists

pub assoc : (bs cs ds : List ℕ) → (bs ++ cs) ++ ds ≡ bs ++ (cs ++ ds)
assoc [] cs ds = refl
assoc (b ∷ bs) cs ds = ap (λ es. b ∷ es) (assoc bs cs ds)

-- others in the middle
pub middle_distinct : (before mine behind new : List ℕ) → Distinct (before ++ (mine ++ behind)) → Distinct new →
    ((k : ℕ) → Member k new → Member k before → ⊥) →
    ((k : ℕ) → Member k new → Member k behind → ⊥) → Distinct (before ++ (new ++ behind))
middle_distinct before mine behind new d n not_before not_behind =
    distinct_both before (new ++ behind) (distinct_first before (mine ++ behind) d)
    (distinct_both new behind n (distinct_second mine behind (distinct_second before (mine ++ behind) d)) not_behind)
    (λ k m q. either_block k new behind ⊥ q (λ z. not_before k z m)
    (λ z. distinct_apart k before (mine ++ behind) d m (in_second k mine behind z)))

-- ---- one of many

-- what parts have, with that of the one at a position taken out, and another one in its place
pub record Split (rest : World → Values → List ℕ → Type 0) (world : World) (f : Form) (i : ℕ) (all : Values) (bs : List ℕ) : Type 0 where
  pub before : List ℕ
  pub mine : List ℕ
  pub behind : List ℕ
  pub is : bs ≡ before ++ (mine ++ behind)
  pub there : i < count all
  pub has : Has world Full f (nth all i) mine
  pub put : (after : World) (now : Value) (new : List ℕ) → Stay world after before → Stay world after behind → Has after Full f now new →
      rest after (with_nth all i now) (before ++ (new ++ behind))

pub each_split : {world : World} {f : Form} {n j : ℕ} {all : Values} {bs : List ℕ} (i : ℕ) → HasEach world Full f n j all bs → j ≤ i → i < j + n →
    Split (λ w vs cs. HasEach w Full f n j vs cs) world f i all bs
each_split i none_more le less = absurd (omega (arith, le, less))
each_split {world} {f} i (one_more {n = n} {i = j} {all = all} {bs = first} {cs = rest} at h more) le less =
    by (λ q. each_split i more q (omega (arith, less))) (same_or_later j i le)
  where
    by : (suc j ≤ i → Split (λ w vs cs. HasEach w Full f n (suc j) vs cs) world f i all rest) → (i ≡ j) ⊎ (suc j ≤ i) →
        Split (λ w vs cs. HasEach w Full f (suc n) j vs cs) world f i all (first ++ rest)
    by further (inl e) = subst (λ i. Split (λ w vs cs. HasEach w Full f (suc n) j vs cs) world f i all (first ++ rest)) (sym e) (record {
      before = [];
      mine = first;
      behind = rest;
      is = refl;
      there = at;
      has = h;
      put = λ after now new sb se has. one_more {bs = new} {cs = rest} (subst (λ n. j < n) (sym (count_with all j now)) at)
          (subst (λ v. Has after Full f v new) (sym (nth_with all j now at)) has)
          (each_same (with_nth all j now) (count_with all j now, λ m q. nth_without all j m now (λ e. not_later m q e)) (each_stays world after se more));
    })
      where
        not_later : (m : ℕ) → suc j ≤ m → m ≡ j → ⊥
        not_later m q e = omega (arith, q, e)
    by further (inr later) =
        let s = further later in
        record {
          before = first ++ s.before;
          mine = s.mine;
          behind = s.behind;
          is = ap (λ cs. first ++ cs) s.is ∙ sym (assoc first s.before (s.mine ++ s.behind));
          there = s.there;
          has = s.has;
          put = λ after now new sb se has. subst (λ cs. HasEach after Full f (suc n) j (with_nth all i now) cs)
              (sym (assoc first s.before (new ++ s.behind)))
              (one_more {bs = first} {cs = s.before ++ (new ++ s.behind)} (subst (λ n. j < n) (sym (count_with all i now)) at)
              (subst (λ v. Has after Full f v first) (sym (nth_without all i j now (λ e. not_same later e)))
              (has_stays world after (λ k x m. sb k x (in_first k first s.before m)) h))
              (s.put after now new (λ k x m. sb k x (in_second k first s.before m)) se has));
        }
      where
        not_same : suc j ≤ i → j ≡ i → ⊥
        not_same q e = omega (arith, q, e)

pub all_split : {world : World} {fs : Forms} {j d : ℕ} {f : Form} {all : Values} {bs : List ℕ} → HasAll world Full fs j all bs → PartForm fs d f →
    (i : ℕ) → i ≡ j + d → Split (λ w vs cs. HasAll w Full fs j vs cs) world f i all bs
all_split (no_parts q) p i e = elim p [ ]
all_split {world} (a_part {f = f} {fs = fs} {i = j} {all = all} {bs = first} {cs = rest} at h more) first_part i e =
    subst (λ i. Split (λ w vs cs. HasAll w Full (forms f fs) j vs cs) world f i all (first ++ rest)) (omega (arith, e)) (record {
      before = [];
      mine = first;
      behind = rest;
      is = refl;
      there = at;
      has = h;
      put = λ after now new sb se has. a_part {bs = new} {cs = rest} (subst (λ n. j < n) (sym (count_with all j now)) at)
          (subst (λ v. Has after Full f v new) (sym (nth_with all j now at)) has)
          (all_same (with_nth all j now) (count_with all j now, λ m q. nth_without all j m now (λ e. not_later m q e)) (all_stays world after se more));
    })
  where
    not_later : (m : ℕ) → suc j ≤ m → m ≡ j → ⊥
    not_later m q e = omega (arith, q, e)
all_split {world} (a_part {f = g} {fs = fs} {i = j} {all = all} {bs = first} {cs = rest} at h more) (next_part {f = f} {d = d} p) i e =
    let s = all_split more p i (omega (arith, e)) in
    record {
      before = first ++ s.before;
      mine = s.mine;
      behind = s.behind;
      is = ap (λ cs. first ++ cs) s.is ∙ sym (assoc first s.before (s.mine ++ s.behind));
      there = s.there;
      has = s.has;
      put = λ after now new sb se has. subst (λ cs. HasAll after Full (forms g fs) j (with_nth all i now) cs)
          (sym (assoc first s.before (new ++ s.behind)))
          (a_part {bs = first} {cs = s.before ++ (new ++ s.behind)} (subst (λ n. j < n) (sym (count_with all i now)) at)
          (subst (λ v. Has after Full g v first) (sym (nth_without all i j now (λ q. not_same e q)))
          (has_stays world after (λ k x m. sb k x (in_first k first s.before m)) h))
          (s.put after now new (λ k x m. sb k x (in_second k first s.before m)) se has));
    }
  where
    not_same : i ≡ j + suc d → j ≡ i → ⊥
    not_same e q = omega (arith, e, q)

-- ---- one step outward

module _ {goes : ℕ → ℕ} (rest : World → Values → List ℕ → Type 0) (world : World) (f : Form) (i : ℕ) (all : Values) (bs given : List ℕ)
    (s : Split rest world f i all bs) (d : Distinct bs) (below : (k : ℕ) → Member k bs → k < taken_in world) (strange : Strange given bs) (o : Location)
    (u : Value) (after : World)
    (b : BecomesWith goes f o u given s.mine world after) (apart : Apart o.base bs) where
  abbrev new_blocks : List ℕ
  new_blocks = s.before ++ (b.blocks ++ s.behind)

  split_distinct : Distinct (s.before ++ (s.mine ++ s.behind))
  split_distinct = subst (λ (cs : List ℕ). Distinct cs) s.is d

  of_before : (k : ℕ) → Member k s.before → Member k bs
  of_before k m = subst (λ cs. Member k cs) (sym s.is) (in_first k s.before (s.mine ++ s.behind) m)

  of_mine : (k : ℕ) → Member k s.mine → Member k bs
  of_mine k m = subst (λ cs. Member k cs) (sym s.is) (in_second k s.before (s.mine ++ s.behind) (in_first k s.mine s.behind m))

  of_behind : (k : ℕ) → Member k s.behind → Member k bs
  of_behind k m = subst (λ cs. Member k cs) (sym s.is) (in_second k s.before (s.mine ++ s.behind) (in_second k s.mine s.behind m))

  before_apart : (k : ℕ) → Member k s.mine → Member k s.before → ⊥
  before_apart k m n = distinct_apart k s.before (s.mine ++ s.behind) split_distinct n (in_first k s.mine s.behind m)

  behind_apart : (k : ℕ) → Member k s.mine → Member k s.behind → ⊥
  behind_apart k m n =
      distinct_apart k s.mine s.behind (distinct_second s.before (s.mine ++ s.behind) split_distinct) m n

  -- what is new there is none of the others
  new_apart : (others : List ℕ) → ((k : ℕ) → Member k others → Member k bs) → ((k : ℕ) → Member k s.mine → Member k others → ⊥) → (k : ℕ) →
      Member k b.blocks → Member k others → ⊥
  new_apart others within far k m n = by (b.came k m)
    where
      too_far : taken_in world ≤ k → k < taken_in world → ⊥
      too_far le less = omega (arith, le, less)

      by : Member k s.mine ⊎ (Member k given ⊎ (taken_in world ≤ k)) → ⊥
      by (inl q) = far k q n
      by (inr (inl q)) = strange k q (within k n)
      by (inr (inr q)) = too_far q (below k (within k n))

  others_stay : (others : List ℕ) → ((k : ℕ) → Member k others → Member k bs) → ((k : ℕ) → Member k s.mine → Member k others → ⊥) → Stay world after others
  others_stay others within far k x m h =
      b.elsewhere (InBlock k) x h (λ q. apart k (sym q) (within k m))
      (λ j q n. far k (subst (λ i. Member i s.mine) (sym (same_number k j q)) n) m)

  now_parts : rest after (with_nth all i b.now) new_blocks
  now_parts =
      s.put after b.now b.blocks (others_stay s.before of_before before_apart) (others_stay s.behind of_behind behind_apart) b.has

  now_distinct : Distinct new_blocks
  now_distinct =
      middle_distinct s.before s.mine s.behind b.blocks split_distinct b.distinct (new_apart s.before of_before before_apart)
      (new_apart s.behind of_behind behind_apart)

  now_came : (k : ℕ) → Member k new_blocks → Member k bs ⊎ (Member k given ⊎ (taken_in world ≤ k))
  now_came k m =
      either_block k s.before (b.blocks ++ s.behind) (Member k bs ⊎ (Member k given ⊎ (taken_in world ≤ k))) m (λ n. inl (of_before k n))
      (λ n. either_block k b.blocks s.behind (Member k bs ⊎ (Member k given ⊎ (taken_in world ≤ k))) n (λ q. by (b.came k q)) (λ q. inl (of_behind k q)))
    where
      by : Member k s.mine ⊎ (Member k given ⊎ (taken_in world ≤ k)) → Member k bs ⊎ (Member k given ⊎ (taken_in world ≤ k))
      by (inl q) = inl (of_mine k q)
      by (inr q) = inr q

  now_without : (k : ℕ) → Member k new_blocks → Member k s.mine → Member k b.blocks
  now_without k m n = either_block k s.before (b.blocks ++ s.behind) (Member k b.blocks) m (λ q. absurd (before_apart k n q))
      (λ q. either_block k b.blocks s.behind (Member k b.blocks) q (λ z. z) (λ z. absurd (behind_apart k n z)))

-- of a part of a row
pub part_becomes : {goes : ℕ → ℕ} (rest : World → Values → List ℕ → Type 0) (g f : Form) (world after : World) (l : Location) (w : Value) (i : ℕ) (all : Values)
    (bs given : List ℕ) (s : Split rest world f i all bs) → At world l w → part w l.path ≡ Parts all →
    ((vs : Values) (cs : List ℕ) → count vs ≡ count all → rest after vs cs → Has after Full g (Parts vs) cs) → Distinct bs →
    ((k : ℕ) → Member k bs → k < taken_in world) → Strange given bs → Apart l.base bs →
    BecomesWith goes f (deeper l i) w given s.mine world after → BecomesWith goes g l w given bs world after
part_becomes rest g f world after l w i all bs given s at e make d below strange apart b = record {
  now = Parts (with_nth all i b.now);
  blocks = new_blocks rest world f i all bs given s d below strange (deeper l i) w after b apart;
  has = make (with_nth all i b.now) (new_blocks rest world f i all bs given s d below strange (deeper l i) w after b apart) (count_with all i b.now)
      (now_parts rest world f i all bs given s d below strange (deeper l i) w after b apart);
  distinct = now_distinct rest world f i all bs given s d below strange (deeper l i) w after b apart;
  came = now_came rest world f i all bs given s d below strange (deeper l i) w after b apart;
  grows = b.grows;
  loses = λ k. omega (arith, b.loses k, times_middle k s.before s.mine s.behind s.is, times_middle k s.before b.blocks s.behind refl);
  is = subst (λ v. IsBase after l.base v) (put_deeper i all b.now at.part e) b.is;
  elsewhere = λ c x h q far. b.elsewhere c x h q
      (λ k e m. far k e (of_mine rest world f i all bs given s d below strange (deeper l i) w after b apart k m));
  stays = b.stays;
}

pub part_without : {goes : ℕ → ℕ} (rest : World → Values → List ℕ → Type 0) (g f : Form) (world after : World) (l : Location) (w : Value) (i : ℕ) (all : Values)
    (bs given : List ℕ) (s : Split rest world f i all bs) (at : At world l w) (e : part w l.path ≡ Parts all)
    (make : (vs : Values) (cs : List ℕ) → count vs ≡ count all → rest after vs cs → Has after Full g (Parts vs) cs) (d : Distinct bs)
    (below : (k : ℕ) → Member k bs → k < taken_in world) (strange : Strange given bs) (apart : Apart l.base bs)
    (b : BecomesWith goes f (deeper l i) w given s.mine world after) (k : ℕ) →
    Member k (part_becomes rest g f world after l w i all bs given s at e make d below strange apart b).blocks → Member k s.mine → Member k b.blocks
unfolding part_becomes
part_without rest g f world after l w i all bs given s at e make d below strange apart b k m n =
    now_without rest world f i all bs given s d below strange (deeper l i) w after b apart k m n

-- of an element in the block of a sequence
module _ {goes : ℕ → ℕ} (f : Form) (world after : World) (l : Location) (w : Value) (i k : ℕ) (all : Values) (cs given : List ℕ) (at : At world l w)
    (e : part w l.path ≡ Handle (count all) (Some k)) (row : IsBase world (InBlock k) (Parts all)) (each : HasEach world Full f (count all) 0 all cs)
    (d : Distinct (k ∷ cs)) (strange : Strange given (k ∷ cs)) (apart : Apart l.base (k ∷ cs))
    (s : Split (λ x vs bs. HasEach x Full f (count all) 0 vs bs) world f i all cs)
    (b : BecomesWith goes f (deeper (row_of l k) i) (Parts all) given s.mine world after) where
  row_apart : Apart (InBlock k) cs
  row_apart j q m = d.0 (subst (λ i. Member i cs) (sym (same_number k j q)) m)

  strange_inside : Strange given cs
  strange_inside j m n = strange j m (inr n)

  inside : (j : ℕ) → Member j s.mine → Member j cs
  inside = of_mine (λ x vs bs. HasEach x Full f (count all) 0 vs bs) world f i all cs given s d.1 (λ j m. each_below each j m) strange_inside
      (deeper (row_of l k) i) (Parts all) after b row_apart

  abbrev element_blocks : List ℕ
  element_blocks = new_blocks (λ x vs bs. HasEach x Full f (count all) 0 vs bs) world f i all cs given s d.1 (λ j m. each_below each j m) strange_inside
      (deeper (row_of l k) i) (Parts all) after b row_apart

  elements_came : (j : ℕ) → Member j element_blocks → Member j cs ⊎ (Member j given ⊎ (taken_in world ≤ j))
  elements_came = now_came (λ x vs bs. HasEach x Full f (count all) 0 vs bs) world f i all cs given s d.1 (λ j m. each_below each j m) strange_inside
      (deeper (row_of l k) i) (Parts all) after b row_apart

  not_inside : Member k element_blocks → ⊥
  not_inside m = by (elements_came k m)
    where
      too_far : k < taken_in world → taken_in world ≤ k → ⊥
      too_far less le = omega (arith, less, le)

      by : Member k cs ⊎ (Member k given ⊎ (taken_in world ≤ k)) → ⊥
      by (inl q) = d.0 q
      by (inr (inl q)) = strange k q (inl refl)
      by (inr (inr q)) = too_far (base_below row) q

  came_all : (j : ℕ) → Member j (k ∷ element_blocks) → Member j (k ∷ cs) ⊎ (Member j given ⊎ (taken_in world ≤ j))
  came_all j (inl q) = inl (inl q)
  came_all j (inr m) = by (elements_came j m)
    where
      by : Member j cs ⊎ (Member j given ⊎ (taken_in world ≤ j)) → Member j (k ∷ cs) ⊎ (Member j given ⊎ (taken_in world ≤ j))
      by (inl q) = inl (inr q)
      by (inr q) = inr q

  pub item_becomes : BecomesWith goes (elements f) l w given (k ∷ cs) world after
  item_becomes = record {
    now = Handle (count all) (Some k);
    blocks = k ∷ element_blocks;
    has = subst (λ n. Has after Full (elements f) (Handle n (Some k)) (k ∷ element_blocks)) (count_with all i b.now)
        (a_sequence b.is (subst (λ n. HasEach after Full f n 0 (with_nth all i b.now) element_blocks) (sym (count_with all i b.now))
        (now_parts (λ x vs bs. HasEach x Full f (count all) 0 vs bs) world f i all cs given s d.1 (λ j m. each_below each j m) strange_inside
        (deeper (row_of l k) i) (Parts all) after b row_apart)));
    distinct = (
      not_inside,
      now_distinct (λ x vs bs. HasEach x Full f (count all) 0 vs bs) world f i all cs given s d.1 (λ j m. each_below each j m)
          strange_inside (deeper (row_of l k) i) (Parts all) after b row_apart,
    );
    came = came_all;
    grows = b.grows;
    loses = λ j. omega (arith, b.loses j, times_middle j s.before s.mine s.behind s.is, times_middle j s.before b.blocks s.behind refl);
    is = subst (λ v. IsBase after l.base v) (sym (ap (put_part w l.path) (sym e) ∙ put_same at.part))
        (b.elsewhere l.base w at.base (λ q. apart k q (inl refl)) (λ j q m. apart j q (inr (inside j m))));
    elsewhere = λ c x h q far. b.elsewhere c x h (λ z. far k z (inl refl)) (λ j z m. far j z (inr (inside j m)));
    stays = b.stays;
  }

  pub item_without : (j : ℕ) → Member j item_becomes.blocks → Member j s.mine → Member j b.blocks
  unfolding item_becomes
  item_without j (inl q) n = absurd (d.0 (subst (λ i. Member i cs) q (inside j n)))
  item_without j (inr m) n = now_without (λ x vs bs. HasEach x Full f (count all) 0 vs bs) world f i all cs given s d.1 (λ j m. each_below each j m)
      strange_inside (deeper (row_of l k) i) (Parts all) after b row_apart j m n

pub wrapped_becomes : {goes : ℕ → ℕ} (f : Form) (l : Location) (w : Value) (given bs : List ℕ) (world after : World) →
    BecomesWith goes f l w given bs world after → BecomesWith goes (wrapped f) l w given bs world after
wrapped_becomes f l w given bs world after b = record {
  now = b.now;
  blocks = b.blocks;
  has = of_wrapped b.has;
  distinct = b.distinct;
  came = b.came;
  grows = b.grows;
  loses = b.loses;
  is = b.is;
  elsewhere = b.elsewhere;
  stays = b.stays;
}

pub wrapped_without : {goes : ℕ → ℕ} (f : Form) (l : Location) (w : Value) (given bs : List ℕ) (world after : World)
    (b : BecomesWith goes f l w given bs world after) (k : ℕ) →
    Member k (wrapped_becomes f l w given bs world after b).blocks → Member k b.blocks
unfolding wrapped_becomes
wrapped_without f l w given bs world after b k m = m

-- ---- one change after another

-- the location, as it is then
pub at_next : {goes : ℕ → ℕ} {f : Form} {l : Location} {w : Value} {given old : List ℕ} {world after : World} → At world l w →
    (b : BecomesWith goes f l w given old world after) → At after l (put_part w l.path b.now)
at_next at b = record { base = b.is; part = has_put b.now at.part; may = at.may }

pub becomes_then : {f : Form} {l : Location} {w : Value} {old : List ℕ} {world middle last : World} → At world l w → (b : Becomes f l w [] old world middle) →
    Becomes f l (put_part w l.path b.now) [] b.blocks middle last → Becomes f l w [] old world last
becomes_then {f} {l} {w} {old} {world} {middle} {last} at b c = record {
  now = c.now;
  blocks = c.blocks;
  has = c.has;
  distinct = c.distinct;
  came = λ k m. by k (c.came k m);
  grows = omega (arith, b.grows, c.grows);
  loses = λ k. omega (arith, b.loses k, c.loses k);
  is = subst (λ v. IsBase last l.base v) (put_twice b.now c.now at.part) c.is;
  elsewhere = λ x y h q far. c.elsewhere x y (b.elsewhere x y h q far) q (λ k e m. not_taken x y h k e (b.came k m) far);
  stays = stays_then b.stays c.stays;
}
  where
    further : (k : ℕ) → taken_in middle ≤ k → taken_in world ≤ k
    further k le = omega (arith, le, b.grows)

    first : (k : ℕ) → Member k old ⊎ (Member k [] ⊎ (taken_in world ≤ k)) → Member k old ⊎ (Member k [] ⊎ (taken_in world ≤ k))
    first k q = q

    by : (k : ℕ) → Member k b.blocks ⊎ (Member k [] ⊎ (taken_in middle ≤ k)) → Member k old ⊎ (Member k [] ⊎ (taken_in world ≤ k))
    by k (inl m) = first k (b.came k m)
    by k (inr (inl m)) = elim m [ ]
    by k (inr (inr le)) = inr (inr (further k le))

    not_taken : (x : Base) (y : Value) → IsBase world x y → (k : ℕ) → x ≡ InBlock k → Member k old ⊎ (Member k [] ⊎ (taken_in world ≤ k)) →
        ((j : ℕ) → x ≡ InBlock j → Member j old → ⊥) → ⊥
    not_taken x y h k e (inl m) far = far k e m
    not_taken x y h k e (inr (inl m)) far = elim m [ ]
    not_taken x y h k e (inr (inr le)) far = too_far (subst (λ c. IsBase world c y) e h) le
      where
        too_far : IsBase world (InBlock k) y → taken_in world ≤ k → ⊥
        too_far h le = omega (arith, base_below h, le)
