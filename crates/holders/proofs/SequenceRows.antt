-- What is done with sequences at locations.
use Rattle.std.proofs.Common.{◌≡◌, refl, sym, ap, subst, ◌∙◌, arith, ℕ, zero, suc, ◌+◌, ◌-◌, ◌<◌, ◌≤◌, inl, inr, ◌⊎◌, Bool, true, false, List, [], ◌∷◌, ◌++◌}
use Rattle.std.proofs.Common.{Some, None}
use Rattle.std.specs.Prelude.{◌*◌, nat_le}
use Rattle.std.proofs.lemmas.Bool.{leb-true, leb-false}
use Rattle.nim_types.specs.Forms.{Form, elements, size}
use Rattle.nim_meaning.specs.Values.{Value, Handle, Parts, Values, Nil, More, nth, count, joined, first_of, repeated, blank, part, put_part, Base, InBlock}
use Rattle.nim_meaning.specs.Values.{is_handle}
use Rattle.nim_meaning.specs.Values.{Location, item_of}
use Rattle.nim_meaning.specs.Values.{length_of, block_of, parts_of}
use Rattle.nim_meaning.specs.Heap.{Elements}
use Rattle.nim_meaning.specs.Marks.{Member, Distinct}
use Rattle.nim_meaning.specs.State.{World, load, whole_at, store, elements_of, contents_value, object_in}
use Rattle.nim_meaning.specs.Acts.{branch}
use Rattle.nim_meaning.specs.Deeds.{Deed, Gives, Ends, Errs, Works, Says, Looks, Changes, Takes, changed, with_block, frees, refills, sets, give, Refills}
use Rattle.nim_meaning.specs.Deeds.{unless_gone}
use Rattle.nim_meaning.specs.Deeds.{looks, takes}
use Rattle.nim_meaning.specs.Deeds.{◌>>◌, ◌>>=◌}
use Rattle.nim_meaning.specs.Lifted.{resized, has_place, fresh, each_element, ends_at, walk, ending}
use Rattle.nim_meaning.specs.OwnedRows.{added, shortened, grown, cut, sequence_to}
use Rattle.holders.specs.Holders.{held_by, held_in}
use Rattle.holders.specs.Owned.{IsBase, in_row, here, in_part, At, whole, block_may, Full, Has, no_sequence, a_sequence, HasEach, Apart}
use Rattle.holders.specs.Sure.{Sure}
use Rattle.holders.specs.Becoming.{taken_in, none}
use Rattle.holders.specs.Becoming.{Strange, Turns, times}
use Rattle.holders.specs.Owned.{HasBlocksAlone}
use Rattle.holders.specs.Walks.{Popped}
use Rattle.holders.proofs.Staying.{stays_then, stored_stays, frames_same}
use Rattle.holders.proofs.Bases.{loaded, block_filled}
use Rattle.holders.proofs.Sure.{sure_then, sure_weaker}
use Rattle.holders.proofs.Ledger.{stored_counts, stored_live, same_there, filled_counts, times_both, none_in_none}
use Rattle.holders.proofs.Owning.{in_first, in_second, distinct_first, distinct_second, distinct_apart, Stay, each_stays, has_stays}
use Rattle.holders.proofs.Owning.{each_none}
use Rattle.holders.proofs.Owning.{has_none}
use Rattle.holders.proofs.Guards.{sure_sees, sure_takes, sure_sets, sure_refills}
use Rattle.holders.proofs.Ending.{same_number, Through, EachLeft, each_ends, each_at, each_element_is, row_of, found_block, ends}
use Rattle.holders.proofs.Copying.{distinct_both, either_block, each_below, stored_length}
use Rattle.holders.proofs.Sinking.{is_put, put_elsewhere}
use Rattle.holders.proofs.Growing.{sure_grows, changed_length}
use Rattle.holders.proofs.Resizing.{Filling, resizes_empty, resizes_full, in_place, refilled_world, refilled_elsewhere}
use Rattle.holders.proofs.ElementLists.{count_joined, held_joined, count_first, nth_first, held_first, held_last, none_in, each_like, each_joined, Cut}
use Rattle.holders.proofs.ElementLists.{each_cut}
use Rattle.holders.proofs.ElementLists.{Only, each_only, each_one, each_repeated, blank_has, count_repeated, repeated_none, none_of_size, size_of_none}

-- the elements of a sequence that has a block
pub elements_are : {world : World} {k : ℕ} {all : Values} (n : ℕ) → IsBase world (InBlock k) (Parts all) → elements_of world (Handle n (Some k)) ≡ all
elements_are n (in_row block e f) = ap parts_of (ap contents_value e ∙ ap object_in f)

row_filling : (f : Form) (n : ℕ) (vs : Values) (cs given old : List ℕ) (base : Base) (world : World) → count vs ≡ n → HasEach world Full f n 0 vs cs →
    Distinct cs →
    ((j : ℕ) → Member j cs → Member j old ⊎ Member j given) → Apart base cs → Filling (elements f) n (Elements vs) cs given old base world
row_filling f n vs cs given old base world same each d from apart = record {
  stands = λ after k b e q. in_row b e q;
  has = λ after k is stay. subst (λ m. Has after Full (elements f) (Handle m (Some k)) (k ∷ cs)) same
      (a_sequence is (subst (λ m. HasEach after Full f m 0 vs cs) (sym same) (each_stays world after stay each)));
  empty = λ z after. no_sequence;
  nothing_in = λ z j. none_in j vs (same ∙ z);
  none_in = λ z j. none_in_none each z j;
  from = from;
  distinct = d;
  below = each_below each;
  apart = apart;
}

-- ---- elements come behind those that are there

pub sequence_joined : (f : Form) (ws : Values) (ds : List ℕ) (n : ℕ) (l : Location) (w v : Value) (old : List ℕ) (world : World) → At world l w →
    part w l.path ≡ v → Has world Full (elements f) v old → Distinct old → Apart l.base old → HasEach world Full f (count ws) 0 ws ds → Distinct ds →
    Strange ds old → Apart l.base ds → n ≡ length_of v + count ws → Sure (resized n (n * size f) (Elements (joined (elements_of world v) ws)) l)
    (λ u after. Turns (λ j. held_in j ws) none (elements f) l w ds old world after) world
sequence_joined f ws ds n l w v old world at e h d apart each dd strange far same =
    sure_sees (λ world2 x. unless_gone (is_handle x) (branch (has_place world2 (block_of x) (n * size f))
    (refills (block_of x) (Elements (joined (elements_of world v) ws)) >> sets l (Handle n (block_of x)))
    (fresh n (n * size f) (Elements (joined (elements_of world v) ws)) >>= (λ new. sets l new >> frees (block_of x)))))
    (λ u after. Turns (λ j. held_in j ws) none (elements f) l w ds old world after) at e tt h (by v old e h d apart strange same)
  where
    by : (v : Value) (old : List ℕ) → part w l.path ≡ v → Has world Full (elements f) v old → Distinct old → Apart l.base old → Strange ds old →
        n ≡ length_of v + count ws →
        Sure (unless_gone (is_handle v) (branch (has_place world (block_of v) (n * size f))
        (refills (block_of v) (Elements (joined (elements_of world v) ws)) >> sets l (Handle n (block_of v)))
        (fresh n (n * size f) (Elements (joined (elements_of world v) ws)) >>= (λ new. sets l new >> frees (block_of v)))))
        (λ u after. Turns (λ j. held_in j ws) none (elements f) l w ds old world after) world
    by _ _ e no_sequence d apart strange same =
        resizes_empty (elements f) l w n (n * size f) (Elements ws) ds ds [] (λ j. held_in j ws) none world at
        (row_filling f n ws ds ds [] l.base world (omega (arith, same)) (subst (λ m. HasEach world Full f m 0 ws ds) (omega (arith, same)) each) dd
        (λ j m. inr m) far) (none_of_size n f) (size_of_none n f) e (λ j. omega arith) (λ j. omega arith)
    by _ _ e (a_sequence {k = k} {all = all} {bs = bs} b inside) d apart strange same =
        let vs = joined all ws in
        let all_distinct = distinct_both bs ds d.1 dd (λ j m q. strange j q (inr m)) in
        subst (λ old_elements. Sure (branch (has_place world (Some k) (n * size f))
        (refills (Some k) (Elements (joined old_elements ws)) >> sets l (Handle n (Some k)))
        (fresh n (n * size f) (Elements (joined old_elements ws)) >>= (λ new. sets l new >> frees (Some k))))
        (λ u after. Turns (λ j. held_in j ws) none (elements f) l w ds (k ∷ bs) world after) world) (sym (elements_are (count all) b))
        (resizes_full (elements f) l w n (n * size f) (Elements vs) (bs ++ ds) ds (k ∷ bs) (λ j. held_in j ws) none world at
        (row_filling f n vs (bs ++ ds) ds (k ∷ bs) l.base world (count_joined all ws ∙ sym same)
        (subst (λ m. HasEach world Full f m 0 vs (bs ++ ds)) (sym same) (each_joined inside (omega arith) each)) all_distinct
        (λ j m. either_block j bs ds (Member j (k ∷ bs) ⊎ Member j ds) m (λ q. inl (inr q)) (λ q. inr q))
        (λ j q m. either_block j bs ds ⊥ m (λ z. apart j q (inr z)) (λ z. far j q z)))
        (none_of_size n f) (size_of_none n f) (count all) k e (Parts all) b (inl refl)
        (λ m. either_block k bs ds ⊥ m (λ z. d.0 z) (λ z. strange k z (inl refl)))
        (λ q. apart k q (inl refl)) (λ j. omega (arith, held_joined j all ws)) (λ j. omega (arith, times_both j bs ds)))

-- one more
pub adds : (f : Form) (x : Value) (ds : List ℕ) (l : Location) (w v : Value) (old : List ℕ) (world : World) → At world l w → part w l.path ≡ v →
    Has world Full (elements f) v old → Distinct old → Apart l.base old → Has world Full f x ds → Distinct ds → Strange ds old → Apart l.base ds →
    Sure (added f x l) (λ u after. Turns (λ j. held_by j x) none (elements f) l w ds old world after) world
adds f x ds l w v old world at e h d apart hx dd strange far =
    subst (λ y. Sure (resized (suc (length_of y)) (suc (length_of y) * size f) (Elements (joined (elements_of world y) (More x Nil))) l)
    (λ u after. Turns (λ j. held_by j x) none (elements f) l w ds old world after) world) (sym (loaded world l w at.base ∙ e))
    (sure_weaker (resized (suc (length_of v)) (suc (length_of v) * size f) (Elements (joined (elements_of world v) (More x Nil))) l)
    (λ u after. Turns (λ j. held_in j (More x Nil)) none (elements f) l w ds old world after)
    (λ u after. Turns (λ j. held_by j x) none (elements f) l w ds old world after) world
    (sequence_joined f (More x Nil) ds (suc (length_of v)) l w v old world at e h d apart
    (subst (λ bs. HasEach world Full f 1 0 (More x Nil) bs) (ending_nil ds) (each_one hx))
    dd strange far (omega arith))
    (λ u after t. (t.0, λ others is. t.1 others (λ j. omega (arith, is j)))))
  where
    ending_nil : (bs : List ℕ) → bs ++ [] ≡ bs
    ending_nil [] = refl
    ending_nil (b ∷ bs) = ap (λ cs. b ∷ cs) (ending_nil bs)

-- blank ones
pub grows : (f : Form) → HasBlocksAlone f → (n : ℕ) (l : Location) (w v : Value) (old : List ℕ) (world : World) → At world l w → part w l.path ≡ v →
    Has world Full (elements f) v old → Distinct old → Apart l.base old → length_of v ≤ n → Sure (grown f n l world)
    (λ u after. Turns none none (elements f) l w [] old world after) world
grows f simple n l w v old world at e h d apart le =
    subst (λ y. Sure (resized n (n * size f) (Elements (joined (elements_of world y) (repeated (n - length_of y) (blank f)))) l)
    (λ u after. Turns none none (elements f) l w [] old world after) world) (sym (loaded world l w at.base ∙ e))
    (sure_weaker (resized n (n * size f) (Elements (joined (elements_of world v) ws)) l)
    (λ u after. Turns (λ j. held_in j ws) none (elements f) l w [] old world after) (λ u after. Turns none none (elements f) l w [] old world after) world
    (sequence_joined f ws [] n l w v old world at e h d apart
    (subst (λ m. HasEach world Full f m 0 ws []) (sym (count_repeated world Full (n - length_of v) (blank f)))
    (each_repeated world Full (n - length_of v) (blank f) (blank_has world Full f simple)))
    tt (λ j m q. elim m [ ]) (λ j q m. elim m [ ]) (omega (arith, le, count_repeated world Full (n - length_of v) (blank f))))
    (λ u after t. (
      t.0,
      λ others is. t.1 others (λ j. omega (
        arith,
        is j,
        repeated_none j (n - length_of v) (blank f) (has_none refl (blank_has world Full f simple)),
      )),
    )))
  where
    ws : Values
    ws = repeated (n - length_of v) (blank f)

-- ---- without the last one, which is the answer

sure_regrouped : {A B C : Type 0} (a : Deed A) (b : Deed B) (c : Deed C) (P : C → World → Type 0) (world : World) → Sure ((a >> b) >> c) P world →
    Sure (a >> (b >> c)) P world
sure_regrouped (Gives x) b c P world h = h
sure_regrouped (Ends status) b c P world h = h
sure_regrouped Errs b c P world h = h
sure_regrouped (Works n a) b c P world h = sure_regrouped a b c P world h
sure_regrouped (Says es a) b c P world h = sure_regrouped a b c P world h
sure_regrouped (Looks a) b c P world h = sure_regrouped (a world) b c P world h
sure_regrouped (Changes change a) b c P world h = sure_regrouped a b c P (changed change world) h
sure_regrouped (Takes class contents a) b c P world h = sure_regrouped (a (taken_in world)) b c P (with_block class contents world) h

pub pops : (f : Form) (n : ℕ) (l : Location) (w v : Value) (old : List ℕ) (world : World) → At world l w → part w l.path ≡ v →
    Has world Full (elements f) v old → Distinct old → Apart l.base old → length_of v ≡ suc n →
    Sure (shortened f (suc n) l world) (λ x after. Popped f l w old world x after) world
pops f n l w v old world at e h d apart same =
    subst (λ y. Sure (takes (item_of y l n) leaves) (λ x after. Popped f l w old world x after) world) (sym (loaded world l w at.base ∙ e))
    (by v old e h d apart same)
  where
    leaves : World → Value → Deed Value
    leaves now last = refills (block_of (load now l)) (Elements (first_of n (elements_of now (load now l))))
        >> (sets l (Handle n (block_of (load now l))) >> give last)

    by : (v : Value) (old : List ℕ) → part w l.path ≡ v → Has world Full (elements f) v old → Distinct old → Apart l.base old → length_of v ≡ suc n →
        Sure (takes (item_of v l n) leaves) (λ x after. Popped f l w old world x after) world
    by _ _ e no_sequence d apart same = absurd (omega (arith, same))
    by _ _ e (a_sequence {k = k} {all = all} {bs = bs} b inside) d apart same =
        sure_takes {l = item_of (Handle (count all) (Some k)) l n} leaves (λ x after. Popped f l w (k ∷ bs) world x after)
        (record { base = b; there = in_part (omega (arith, same)) here; is = refl }) tt o.has
        (subst (λ y. Sure (refills (block_of y) (Elements (first_of n (elements_of world y))) >> (sets l (Handle n (block_of y)) >> give (nth all n)))
        (λ x after. Popped f l w (k ∷ bs) world x after) world) (sym (loaded world l w at.base ∙ e))
        (subst (λ vs. Sure (refills (Some k) (Elements (first_of n vs)) >> (sets l (Handle n (Some k)) >> give (nth all n)))
        (λ x after. Popped f l w (k ∷ bs) world x after) world) (sym (elements_are (count all) b))
        (sure_regrouped (refills (Some k) (Elements (first_of n all))) (sets l (Handle n (Some k))) (give (nth all n))
        (λ x after. Popped f l w (k ∷ bs) world x after) world
        (sure_then (refills (Some k) (Elements (first_of n all)) >> sets l (Handle n (Some k))) (λ u. give (nth all n))
        (λ u after. Turns none (λ j. held_by j (nth all n)) (elements f) l w [] (k ∷ c.first) world after)
        (λ x after. Popped f l w (k ∷ bs) world x after) world
        (in_place (elements f) l w n (n * size f) (Elements (first_of n all)) c.first [] (k ∷ c.first) none (λ j. held_by j (nth all n)) world at
        (row_filling f n (first_of n all) c.first [] (k ∷ c.first) l.base world (count_first n all (omega (arith, same)))
        (each_like (first_of n all) c.each (λ j le less. nth_first n all j (omega (arith, less)))
        (omega (arith, same, count_first n all (omega (arith, same)))))
        (distinct_first c.first c.rest cut_distinct) (λ j m. inl (inr m)) (λ j q m. apart j q (inr (of_first j m)))) (none_of_size n f) (size_of_none n f)
        (count all) k e (Parts all) b (inl refl) (λ m. d.0 (of_first k m)) (λ q. apart k q (inl refl))
        (λ j. omega (arith, held_last j n all same)) (λ j. omega arith))
        (λ u after t. record {
          taken = o.blocks;
          kept = k ∷ c.first;
          has = has_stays world after (λ j y m is. t.0.elsewhere (InBlock j) y is (λ q. apart j (sym q) (inr (of_rest j (of_last j m))))
              (λ i q z. not_kept j i (of_last j m) q z)) o.has;
          distinct = distinct_first o.blocks [] (subst (λ (cs : List ℕ). Distinct cs) o.is (distinct_second c.first c.rest cut_distinct));
          taken_were = λ j m. inr (of_rest j (of_last j m));
          kept_were = λ j m. kept_in j m;
          apart = λ j m z. not_kept j j (of_last j m) refl z;
          were = λ j. omega (arith, ap (times j) c.is, times_both j c.first c.rest, ap (times j) o.is, times_both j o.blocks []);
          turns = t;
        })))))
      where
        c : Cut world Full f n 1 0 all bs
        c = each_cut n 1 (omega (arith, same)) inside

        o : Only world Full f (nth all n) c.rest
        o = each_only (subst (λ i. HasEach world Full f 1 i all c.rest) (omega arith) c.others)

        cut_distinct : Distinct (c.first ++ c.rest)
        cut_distinct = subst (λ (cs : List ℕ). Distinct cs) c.is d.1

        of_first : (j : ℕ) → Member j c.first → Member j bs
        of_first j m = subst (λ cs. Member j cs) (sym c.is) (in_first j c.first c.rest m)

        of_rest : (j : ℕ) → Member j c.rest → Member j bs
        of_rest j m = subst (λ cs. Member j cs) (sym c.is) (in_second j c.first c.rest m)

        of_last : (j : ℕ) → Member j o.blocks → Member j c.rest
        of_last j m = subst (λ cs. Member j cs) (sym o.is) (in_first j o.blocks [] m)

        kept_in : (j : ℕ) → Member j (k ∷ c.first) → Member j (k ∷ bs)
        kept_in j (inl q) = inl q
        kept_in j (inr m) = inr (of_first j m)

        not_kept : (j i : ℕ) → Member j c.rest → InBlock j ≡ InBlock i → Member i (k ∷ c.first) → ⊥
        not_kept j i m q (inl z) = d.0 (of_rest k (subst (λ x. Member x c.rest) (same_number j i q ∙ z) m))
        not_kept j i m q (inr z) = distinct_apart j c.first c.rest cut_distinct (subst (λ x. Member x c.first) (sym (same_number j i q)) z) m

-- ---- the elements behind a length end

pub set_turns : (f : Form) (l : Location) (w v x : Value) (new : List ℕ) (world : World) → At world l w → part w l.path ≡ v → Has world Full f x new →
    Distinct new → Apart l.base new → Turns (λ j. held_by j x) (λ j. held_by j v) f l w new [] world (store world l x)
set_turns f l w v x new world at e h d apart = (
  record {
    now = x;
    blocks = new;
    has = has_stays world (store world l x) (λ k y m is. put_elsewhere l w world at x (InBlock k) y is (λ q. apart k (sym q) m)) h;
    distinct = d;
    came = λ k m. inr (inl m);
    grows = omega (arith, stored_length world l.base (put_part (whole_at world l.base) l.path x));
    loses = λ j. omega (arith, stored_live world j l.base (put_part (whole_at world l.base) l.path x));
    is = is_put l w world at x;
    elsewhere = λ b y is q far. put_elsewhere l w world at x b y is q;
    stays = stored_stays world (put_part (whole_at world l.base) l.path x) at.base;
  },
  λ others is j. omega (
    arith,
    is j,
    ap (held_by j) e,
    stored_counts world j l x at.base at.part at.may,
    stored_live world j l.base (put_part (whole_at world l.base) l.path x),
  ),
)

module _ (f : Form) (n k : ℕ) (all : Values) (bs : List ℕ) (l : Location) (w : Value) (world : World) (at : At world l w)
    (e : part w l.path ≡ Handle (count all) (Some k)) (d : Distinct (k ∷ bs)) (apart : Apart l.base (k ∷ bs)) (le : n ≤ count all)
    (c : Cut world Full f n (count all - n) 0 all bs) where
  abbrev m : ℕ
  m = count all - n

  behind : HasEach world Full f m n all c.rest
  behind = subst (λ i. HasEach world Full f m i all c.rest) (omega arith) c.others

  abbrev Q : Unit {0} → World → Type 0
  Q u after = Turns none none (elements f) l w [] (k ∷ bs) world after

  cut_distinct : Distinct (c.first ++ c.rest)
  cut_distinct = subst (λ (cs : List ℕ). Distinct cs) c.is d.1

  of_first : (j : ℕ) → Member j c.first → Member j bs
  of_first j z = subst (λ cs. Member j cs) (sym c.is) (in_first j c.first c.rest z)

  of_rest : (j : ℕ) → Member j c.rest → Member j bs
  of_rest j z = subst (λ cs. Member j cs) (sym c.is) (in_second j c.first c.rest z)

  abbrev first_world : World
  first_world = store world l (Handle n (Some k))

  stays_first : (x : Base) (y : Value) → IsBase world x y → (x ≡ l.base → ⊥) → IsBase first_world x y
  stays_first x y h q = put_elsewhere l w world at (Handle n (Some k)) x y h q

  module _ (middle : World) (t : Through (EachLeft f m n) n (row_of l k) (Parts all) all c.rest first_world middle)
      (grown_by : taken_in first_world ≤ taken_in middle) where
    abbrev last_world : World
    last_world = refilled_world middle k (Elements (first_of n t.now))

    to_last : (x : Base) (y : Value) → IsBase first_world x y → (x ≡ InBlock k → ⊥) → ((j : ℕ) → x ≡ InBlock j → Member j c.rest → ⊥) → IsBase last_world x y
    to_last x y h q far =
        refilled_elsewhere middle k (Elements (first_of n t.now)) (t.elsewhere x y h q far) q

    first_stays : Stay world last_world c.first
    first_stays j y z h =
        to_last (InBlock j) y (stays_first (InBlock j) y h (λ q. apart j (sym q) (inr (of_first j z))))
        (λ q. d.0 (of_first k (subst (λ i. Member i c.first) (same_number j k q) z)))
        (λ i q x. distinct_apart j c.first c.rest cut_distinct z (subst (λ i. Member i c.rest) (sym (same_number j i q)) x))

    as_many : n ≤ count t.now
    as_many = omega (arith, le, t.same_count)

    elements_now : HasEach last_world Full f n 0 (first_of n t.now) c.first
    elements_now =
        each_like (first_of n t.now) (each_stays world last_world first_stays c.each)
        (λ j z less. nth_first n t.now j (omega (arith, less)) ∙ t.before j (omega (arith, less))) (omega (arith, count_first n t.now as_many))

    ended_none : (i j : ℕ) → n ≤ j → j < count t.now → held_by i (nth t.now j) ≡ 0
    ended_none i j z less = each_none refl t.ended j z (omega (arith, less, t.same_count, le)) i

    cut_turns : Turns none none (elements f) l w [] (k ∷ bs) world last_world
    cut_turns =
        let found = found_block t.is in (
          record {
            now = Handle n (Some k);
            blocks = k ∷ c.first;
            has = subst (λ i. Has last_world Full (elements f) (Handle i (Some k)) (k ∷ c.first)) (count_first n t.now as_many)
                (a_sequence (in_row (record found.found { contents = Elements (first_of n t.now) })
                (block_filled middle k found.found (Elements (first_of n t.now)) found.there) refl)
                (subst (λ i. HasEach last_world Full f i 0 (first_of n t.now) c.first) (sym (count_first n t.now as_many)) elements_now));
            distinct = (λ z. d.0 (of_first k z), distinct_first c.first c.rest cut_distinct);
            came = λ j z. inl (kept_in j z);
            grows = omega (
              arith,
              grown_by,
              stored_length world l.base (put_part (whole_at world l.base) l.path (Handle n (Some k))),
              changed_length (Refills k (Elements (first_of n t.now))) middle,
            );
            loses = λ j. omega (
              arith,
              t.loses j,
              ap (times j) c.is,
              times_both j c.first c.rest,
              stored_live world j l.base (put_part (whole_at world l.base) l.path (Handle n (Some k))),
              same_there j k middle.heap.blocks (Elements (first_of n t.now)),
            );
            is = to_last l.base (put_part w l.path (Handle n (Some k))) (is_put l w world at (Handle n (Some k))) (λ q. apart k q (inl refl))
                (λ j q z. apart j q (inr (of_rest j z)));
            elsewhere = λ x y h q far. to_last x y (stays_first x y h q) (λ z. far k z (inl refl)) (λ j z i. far j z (inr (of_rest j i)));
            stays = stays_then (stored_stays world (put_part (whole_at world l.base) l.path (Handle n (Some k))) at.base)
                (stays_then t.once.stays (record { hand = refl; frames = frames_same middle.frames }));
          },
          λ others is. λ j. omega (
            arith,
            t.once.held others (λ i. omega (
              arith,
              is i,
              ap (held_by i) e,
              stored_counts world i l (Handle n (Some k)) at.base at.part at.may,
              stored_live world i l.base (put_part (whole_at world l.base) l.path (Handle n (Some k))),
            )) j,
            found.holds j,
            held_first j n t.now (ended_none j),
            filled_counts middle j k found.found (Elements (first_of n t.now)) found.there,
            same_there j k middle.heap.blocks (Elements (first_of n t.now)),
          ),
        )
      where
        kept_in : (j : ℕ) → Member j (k ∷ c.first) → Member j (k ∷ bs)
        kept_in j (inl q) = inl q
        kept_in j (inr z) = inr (of_first j z)

  block_cuts : IsBase world (InBlock k) (Parts all) → Sure (cut f n l (Handle (count all) (Some k))) Q world
  block_cuts b =
      let act : Location → Deed (Unit {0}) = λ x. walk ending f x x in
      let o = row_of l k in
      let v = Handle (count all) (Some k) in
      let rest = looks (λ y. refills (Some k) (Elements (first_of n (elements_of y v)))) in
      sure_then (sets l (Handle n (Some k))) (λ u. each_element m (λ to from. ends_at f to) n v l v l >> rest) (λ u after. after ≡ first_world) Q world
      (sure_sets (Handle n (Some k)) (λ u after. after ≡ first_world) at refl)
      (λ u after is. subst (λ y. Sure (each_element m (λ to from. ends_at f to) n v l v l >> rest) Q y) (sym is)
      (subst (λ deed. Sure (deed >> rest) Q first_world) (sym (each_element_is m (count all) k (λ to from. ends_at f to) n l))
      (sure_then (each_at m act o n) (λ u. rest)
      (λ u middle. Through (EachLeft f m n) n o (Parts all) all c.rest first_world middle × (taken_in first_world ≤ taken_in middle)) Q first_world
      (sure_grows (each_at m act o n) (λ u middle. Through (EachLeft f m n) n o (Parts all) all c.rest first_world middle) first_world
      (each_ends f (ends f) m n o (Parts all) all c.rest first_world
      (record { base = stays_first (InBlock k) (Parts all) b (λ q. apart k (sym q) (inl refl)); part_there = whole; is = refl; may = λ i. block_may })
      (each_stays world first_world (λ j y z h. stays_first (InBlock j) y h (λ q. apart j (sym q) (inr (of_rest j z)))) behind)
      (distinct_second c.first c.rest cut_distinct) (λ j q z. d.0 (of_rest k (subst (λ i. Member i c.rest) (sym (same_number k j q)) z)))))
      (λ u middle t.
      subst (λ vs. Sure (refills (Some k) (Elements (first_of n vs))) Q middle) (sym (elements_are (count all) t.0.is))
      (sure_refills {x = Parts t.0.now} (Elements (first_of n t.0.now)) Q t.0.is (cut_turns middle t.0 t.1))))))

pub cuts : (f : Form) (n : ℕ) (l : Location) (w v : Value) (old : List ℕ) (world : World) → At world l w → part w l.path ≡ v →
    Has world Full (elements f) v old → Distinct old → Apart l.base old → n ≤ length_of v →
    Sure (cut f n l v) (λ u after. Turns none none (elements f) l w [] old world after) world
cuts f n l w _ _ world at e no_sequence d apart le = by n (omega (arith, le))
  where
    by : (n : ℕ) → n ≡ 0 → Sure (cut f n l (Handle 0 None)) (λ u after. Turns none none (elements f) l w [] [] world after) world
    by zero z =
        sure_then (sets l (Handle 0 None)) (λ u. each_element 0 (λ to from. ends_at f to) 0 (Handle 0 None) l (Handle 0 None) l
        >> Looks (λ y. refills None (Elements (first_of 0 (elements_of y (Handle 0 None))))))
        (λ u after. Turns none none (elements f) l w [] [] world after) (λ u after. Turns none none (elements f) l w [] [] world after) world
        (sure_sets (Handle 0 None) (λ u after. Turns none none (elements f) l w [] [] world after) at same) (λ u after t. t)
      where
        same : Turns none none (elements f) l w [] [] world (store world l (Handle 0 None))
        same =
            let t = set_turns (elements f) l w (Handle 0 None) (Handle 0 None) [] world at e no_sequence tt (λ k q m. elim m [ ]) in
            (t.0, λ others is. t.1 others is)
    by (suc n) z = absurd (omega (arith, z))
cuts f n l w _ _ world at e (a_sequence {k = k} {all = all} {bs = bs} b inside) d apart le =
    block_cuts f n k all bs l w world at e d apart le (each_cut n (count all - n) (omega (arith, le)) inside) b

pub sequence_gets_length : (f : Form) → HasBlocksAlone f → (n : ℕ) (l : Location) (w v : Value) (old : List ℕ) (world : World) → At world l w →
    part w l.path ≡ v → Has world Full (elements f) v old → Distinct old → Apart l.base old →
    Sure (sequence_to f n l world) (λ u after. Turns none none (elements f) l w [] old world after) world
sequence_gets_length f simple n l w v old world at e h d apart =
    by (nat_le n (length_of (load world l))) refl
  where
    same : load world l ≡ v
    same = loaded world l w at.base ∙ e

    by : (x : Bool) → nat_le n (length_of (load world l)) ≡ x → Sure (branch x (cut f n l (load world l)) (grown f n l world))
        (λ u after. Turns none none (elements f) l w [] old world after) world
    by true le =
        subst (λ y. Sure (cut f n l y) (λ u after. Turns none none (elements f) l w [] old world after) world) (sym same)
        (cuts f n l w v old world at e h d apart (leb-true n (length_of v) (ap (λ y. nat_le n (length_of y)) (sym same) ∙ le)))
    by false more =
        grows f simple n l w v old world at e h d apart
        (omega (arith, leb-false n (length_of v) (ap (λ y. nat_le n (length_of y)) (sym same) ∙ more)))
