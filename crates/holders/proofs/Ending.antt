-- What ends gives back its blocks, leaves all else as it is, and each block its one holder.
use Rattle.std.proofs.Common.{◌≡◌, refl, sym, ap, subst, ◌∙◌, arith, ℕ, zero, suc, ◌+◌, ◌<◌, ◌≤◌, inl, inr, Bool, true, false, List, [], ◌∷◌, ◌++◌}
use Rattle.std.proofs.Common.{Some, None}
use Rattle.std.specs.Prelude.{◌*◌}
use Rattle.nim_types.specs.Forms.{Form, plain, reference, block, elements, row, parts, resource, wrapped, Forms, no_forms, forms, of_some, hooked, hooked_any}
use Rattle.nim_types.specs.Forms.{size}
use Rattle.nim_meaning.specs.Values.{Value, Handle, Parts, Fixed, Vacant, Values, nth, count, with_nth, part, put_part, Base, InBlock, Location, deeper}
use Rattle.nim_meaning.specs.Values.{nth_part}
use Rattle.nim_meaning.specs.Values.{item_of, length_of, block_of, is_handle}
use Rattle.nim_meaning.specs.Heap.{Block, block_at}
use Rattle.nim_meaning.specs.Marks.{Member, Distinct}
use Rattle.nim_meaning.specs.State.{World, whole_at, store, stored}
use Rattle.nim_meaning.specs.Acts.{branch}
use Rattle.nim_meaning.specs.Deeds.{Deed, freed, give, costs, unless_gone, sets, frees, ◌>>◌}
use Rattle.nim_meaning.specs.Lifted.{walk, walk_all, each_part, each_element, ending, left_vacant}
use Rattle.holders.specs.Owned.{IsBase, in_row, in_text, HasPart, whole, MayStore, place_may, node_may, hand_may, block_may, At, HasNone, Full, Gaps, Has}
use Rattle.holders.specs.Owned.{no_text, a_text, gone_text, no_sequence, a_sequence, gone_sequence, a_row, some_parts}
use Rattle.holders.specs.Owned.{of_wrapped, HasEach, none_more, one_more, HasAll, no_parts, a_part, Apart, Elsewhere, in_rows}
use Rattle.holders.specs.Sure.{Sure}
use Rattle.holders.specs.Holders.{held_by, held_in_contents}
use Rattle.holders.specs.Walks.{Ended, KeepsOnce}
use Rattle.holders.proofs.Staying.{stays_then, stored_stays, freed_stays}
use Rattle.holders.proofs.HolderCounts.{freed_counts}
use Rattle.holders.proofs.Bases.{whole_is, stored_there, stored_elsewhere}
use Rattle.holders.proofs.BaseChanges.{freed_elsewhere}
use Rattle.holders.proofs.Sure.{sure_then, sure_weaker}
use Rattle.holders.proofs.PathLemmas.{count_with, nth_with, nth_without, part_of_put, put_twice, has_put, has_deeper, part_deeper, put_deeper, put_same}
use Rattle.holders.proofs.Ledger.{keeps_none, keeps_then, stored_counts, stored_live, freed_live, times_both}
use Rattle.holders.proofs.Owning.{in_first, in_second, distinct_first, distinct_second}
use Rattle.holders.proofs.Owning.{distinct_apart, Stay, has_stays, each_stays, all_stays, each_same, all_same, row_none, plain_none, from_full}
use Rattle.holders.proofs.Guards.{sure_sees, sure_sets, sure_frees}
use Rattle.holders.specs.Becoming.{times, none, LosesNone}

abbrev pub Ends : Form → Type 0
Ends f = (l : Location) (w v : Value) (bs : List ℕ) (world : World) → At world l w → part w l.path ≡ v → Has world Full f v bs → Distinct bs →
    Apart l.base bs → Sure (walk ending f l l) (λ u after. Ended f l w bs world after) world

-- ---- a text or a sequence is vacant then

pub record Vacated (l : Location) (w : Value) (bs : List ℕ) (world after : World) : Type 0 where
  pub is : IsBase after l.base (put_part w l.path Vacant)
  pub elsewhere : Elsewhere world after l.base bs
  pub loses : LosesNone (λ k. times k bs) none world after
  pub once : KeepsOnce world after

pub record Found (world : World) (k : ℕ) (x : Value) : Type 0 where
  pub found : Block
  pub there : block_at world.heap k ≡ Some found
  pub holds : (j : ℕ) → held_in_contents j found.contents ≡ held_by j x

pub found_block : {world : World} {k : ℕ} {x : Value} → IsBase world (InBlock k) x → Found world k x
found_block (in_row b e f) = record { found = b; there = e; holds = λ j. ap (held_in_contents j) f }
found_block (in_text b e f) = record { found = b; there = e; holds = λ j. ap (held_in_contents j) f }

module _ (l : Location) (w : Value) (world : World) (at : At world l w) where
  abbrev vacant_world : World
  vacant_world = store world l Vacant

  is_vacant : IsBase vacant_world l.base (put_part w l.path Vacant)
  is_vacant =
      subst (λ x. IsBase (stored world l.base (put_part x l.path Vacant)) l.base (put_part w l.path Vacant)) (sym (whole_is world l.base w at.base))
      (stored_there world Vacant at.base (in_rows at.part) at.may)

  vacant_elsewhere : (b : Base) (x : Value) → IsBase world b x → (b ≡ l.base → ⊥) → IsBase vacant_world b x
  vacant_elsewhere b x h d = stored_elsewhere world (put_part (whole_at world l.base) l.path Vacant) d at.base h

  none_vacated : HasNone (part w l.path) → Vacated l w [] world vacant_world
  none_vacated none = record {
    is = is_vacant;
    elsewhere = λ b x h d e. vacant_elsewhere b x h d;
    loses = λ k. omega (arith, stored_live world k l.base (put_part (whole_at world l.base) l.path Vacant));
    once = record {
      held = λ others h k. omega (
        arith,
        h k,
        none k,
        stored_counts world k l Vacant at.base at.part at.may,
        stored_live world k l.base (put_part (whole_at world l.base) l.path Vacant),
      );
      stays = stored_stays world (put_part (whole_at world l.base) l.path Vacant) at.base;
    };
  }

  -- with a block, in which nothing is any more
  block_vacated : (n k : ℕ) (x : Value) → part w l.path ≡ Handle n (Some k) → IsBase world (InBlock k) x → HasNone x →
      Apart l.base (k ∷ []) → Vacated l w (k ∷ []) world (freed vacant_world k (block_at vacant_world.heap k))
  block_vacated n k x is b none apart =
      let it = found_block (vacant_elsewhere (InBlock k) x b (λ e. apart k (sym e) (inl refl))) in
      record {
        is = freed_elsewhere vacant_world k is_vacant (λ e. apart k e (inl refl)) (block_at vacant_world.heap k);
        elsewhere = λ b x h d e. freed_elsewhere vacant_world k (vacant_elsewhere b x h d) (λ q. e k q (inl refl)) (block_at vacant_world.heap k);
        loses = λ j. omega (
          arith,
          stored_live world j l.base (put_part (whole_at world l.base) l.path Vacant),
          freed_live vacant_world j k it.found it.there,
        );
        once = record {
          held = λ others h j. omega (
            arith,
            h j,
            none j,
            it.holds j,
            ap (held_by j) is,
            stored_counts world j l Vacant at.base at.part at.may,
            stored_live world j l.base (put_part (whole_at world l.base) l.path Vacant),
            freed_counts j k vacant_world it.found it.there,
            freed_live vacant_world j k it.found it.there,
          );
          stays = stays_then (stored_stays world (put_part (whole_at world l.base) l.path Vacant) at.base)
              (freed_stays vacant_world k (block_at vacant_world.heap k));
        };
      }

-- ---- elements and parts, one after another

abbrev pub each_at : (count : ℕ) (act : Location → Deed (Unit {0})) (o : Location) (i : ℕ) → Deed (Unit {0})
each_at zero act o i = give tt
each_at (suc n) act o i = act (deeper o i) >> each_at n act o (suc i)

each_part_is : (n : ℕ) (act : (to from : Location) → Deed (Unit {0})) (i : ℕ) (l : Location) → each_part n act i l l ≡ each_at n (λ x. act x x) l i
each_part_is zero act i l = refl
each_part_is (suc n) act i l = ap (λ rest. act (deeper l i) (deeper l i) >> rest) (each_part_is n act (suc i) l)

-- where the elements of a sequence stand
abbrev pub row_of : Location → ℕ → Location
row_of l k = record l { base = InBlock k; path = [] }

pub each_element_is : (n m k : ℕ) (act : (to from : Location) → Deed (Unit {0})) (i : ℕ) (l : Location) →
    each_element n act i (Handle m (Some k)) l (Handle m (Some k)) l ≡ each_at n (λ x. act x x) (row_of l k) i
each_element_is zero m k act i l = refl
each_element_is (suc n) m k act i l =
    ap (λ rest. act (item_of (Handle m (Some k)) l i) (item_of (Handle m (Some k)) l i) >> rest) (each_element_is n m k act (suc i) l)

-- a row whose parts stand one deeper
pub record Row (world : World) (o : Location) (w : Value) (all : Values) : Type 0 where
  pub base : IsBase world o.base w
  pub part_there : HasPart w o.path
  pub is : part w o.path ≡ Parts all
  pub may : (i : ℕ) → MayStore o.base (o.path ++ i ∷ [])

-- from a position on its parts have ended
pub record Through (left : World → Values → Type 0) (i : ℕ) (o : Location) (w : Value) (all : Values) (bs : List ℕ) (world after : World) : Type 0 where
  pub now : Values
  pub is : IsBase after o.base (put_part w o.path (Parts now))
  pub same_count : count now ≡ count all
  pub before : (j : ℕ) → j < i → nth now j ≡ nth all j
  pub ended : left after now
  pub elsewhere : Elsewhere world after o.base bs
  pub loses : LosesNone (λ k. times k bs) none world after
  pub once : KeepsOnce world after

abbrev pub EachLeft : Form → ℕ → ℕ → World → Values → Type 0
EachLeft f n i world all = HasEach world Gaps f n i all []

abbrev AllLeft : Forms → ℕ → World → Values → Type 0
AllLeft fs i world all = HasAll world Gaps fs i all []

pub same_number : (j k : ℕ) → InBlock j ≡ InBlock k → j ≡ k
same_number j k e = ap number e
  where
    number : Base → ℕ
    number (InBlock k) = k
    number b = 0

-- nothing is left to be done
through_none : (left : World → Values → Type 0) (i : ℕ) (o : Location) (w : Value) (all : Values) (world : World) → Row world o w all → left world all →
    Through left i o w all [] world world
through_none left i o w all world r h = record {
  now = all;
  is = subst (λ v. IsBase world o.base v) (sym (ap (put_part w o.path) (sym r.is) ∙ put_same r.part_there)) r.base;
  same_count = refl;
  before = λ j le. refl;
  ended = h;
  elsewhere = λ b x h d e. h;
  loses = λ k. omega arith;
  once = keeps_none world;
}

-- the first part has ended, and so the others stand as before
module _ (f : Form) (i : ℕ) (o : Location) (w : Value) (all : Values) (bs cs : List ℕ) (world : World) (r : Row world o w all) (le : i < count all)
    (d : Distinct (bs ++ cs)) (apart : Apart o.base (bs ++ cs)) (after : World) (t : Ended f (deeper o i) w bs world after) where
  abbrev next_row : Values
  next_row = with_nth all i t.now

  abbrev next_whole : Value
  next_whole = put_part w o.path (Parts next_row)

  next : Row after o next_whole next_row
  next = record {
    base = subst (λ v. IsBase after o.base v) (put_deeper i all t.now r.part_there r.is) t.is;
    part_there = has_put (Parts next_row) r.part_there;
    is = part_of_put (Parts next_row) r.part_there;
    may = r.may;
  }

  others_stay : Stay world after cs
  others_stay k x m h =
      t.elsewhere (InBlock k) x h (λ q. apart k (sym q) (in_second k bs cs m))
      (λ j q n. distinct_apart j bs cs d n (subst (λ i. Member i cs) (same_number k j q) m))

  same_later : (j : ℕ) → suc i ≤ j → nth next_row j ≡ nth all j
  same_later j later = nth_without all i j t.now (λ e. no_later i j later e)
    where
      no_later : (i j : ℕ) → suc i ≤ j → j ≡ i → ⊥
      no_later i j later e = omega (arith, later, e)

  -- what the others come to
  through_more : (left rest : World → Values → Type 0) → ((last : World) (now : Values) → count now ≡ count all → nth now i ≡ t.now → Has last Gaps f t.now [] →
      rest last now → left last now) → (last : World) → Through rest (suc i) o next_whole next_row cs after last → Through left i o w all (bs ++ cs) world last
  through_more left rest both last s = record {
    now = s.now;
    is = subst (λ v. IsBase last o.base v) (put_twice (Parts next_row) (Parts s.now) r.part_there) s.is;
    same_count = s.same_count ∙ count_with all i t.now;
    before = λ j less. s.before j (omega (arith, less)) ∙ nth_without all i j t.now (λ e. not_before i j less e);
    ended = both last s.now (s.same_count ∙ count_with all i t.now) (s.before i (omega arith) ∙ nth_with all i t.now le)
        (has_stays after last (λ k x m h. elim m [ ]) t.has) s.ended;
    elsewhere = λ b x h q e.
        s.elsewhere b x (t.elsewhere b x h q (λ k is m. e k is (in_first k bs cs m))) q (λ k is m. e k is (in_second k bs cs m));
    loses = λ k. omega (arith, t.loses k, s.loses k, times_both k bs cs);
    once = keeps_then t.once s.once;
  }
    where
      not_before : (i j : ℕ) → j < i → j ≡ i → ⊥
      not_before i j less e = omega (arith, less, e)

pub at_part : (i : ℕ) (o : Location) (w : Value) (all : Values) (world : World) → Row world o w all → i < count all → At world (deeper o i) w
at_part i o w all world r le = record { base = r.base; part = has_deeper i all r.part_there r.is le; may = r.may i }

pub part_is : (i : ℕ) (o : Location) (w : Value) (all : Values) → part w o.path ≡ Parts all → part w (o.path ++ i ∷ []) ≡ nth all i
part_is i o w all e = part_deeper w o.path i ∙ ap (λ v. nth_part v i) e

pub each_ends : (f : Form) → Ends f → (n i : ℕ) (o : Location) (w : Value) (all : Values) (bs : List ℕ) (world : World) → Row world o w all →
    HasEach world Full f n i all bs → Distinct bs → Apart o.base bs →
    Sure (each_at n (λ x. walk ending f x x) o i) (λ u after. Through (EachLeft f n i) i o w all bs world after) world
each_ends f ends zero i o w all bs world r none_more d apart = through_none (EachLeft f 0 i) i o w all world r none_more
each_ends f ends (suc n) i o w all _ world r (one_more {bs = bs} {cs = cs} le h more) d apart =
    sure_then (walk ending f (deeper o i) (deeper o i)) (λ u. each_at n (λ x. walk ending f x x) o (suc i)) (λ u after. Ended f (deeper o i) w bs world after)
    (λ u after. Through (EachLeft f (suc n) i) i o w all (bs ++ cs) world after) world
    (ends (deeper o i) w (nth all i) bs world (at_part i o w all world r le) (part_is i o w all r.is) h (distinct_first bs cs d)
    (λ k e m. apart k e (in_first k bs cs m)))
    (λ u after t.
    let new = next_row f i o w all bs cs world r le d apart after t in
    let whole_now = next_whole f i o w all bs cs world r le d apart after t in
    sure_weaker (each_at n (λ x. walk ending f x x) o (suc i)) (λ u last. Through (EachLeft f n (suc i)) (suc i) o whole_now new cs after last)
    (λ u last. Through (EachLeft f (suc n) i) i o w all (bs ++ cs) world last) after
    (each_ends f ends n (suc i) o whole_now new cs after (next f i o w all bs cs world r le d apart after t)
    (each_same new (count_with all i t.now, same_later f i o w all bs cs world r le d apart after t)
    (each_stays world after (others_stay f i o w all bs cs world r le d apart after t) more))
    (distinct_second bs cs d) (λ k e m. apart k e (in_second k bs cs m)))
    (λ u last s. through_more f i o w all bs cs world r le d apart after t (EachLeft f (suc n) i) (EachLeft f n (suc i))
    (λ last now same is has rest. one_more (subst (λ n. i < n) (sym same) le) (subst (λ v. Has last Gaps f v []) (sym is) has) rest) last s))

-- ---- forms

ended_vacant : (f : Form) (l : Location) (w : Value) (bs : List ℕ) (world after : World) → Has after Gaps f Vacant [] → Vacated l w bs world after →
    Ended f l w bs world after
ended_vacant f l w bs world after has v = record { now = Vacant; has = has; is = v.is; elsewhere = v.elsewhere; loses = v.loses; once = v.once }

-- nothing is done
ended_plain : (f : Form) (l : Location) (w v : Value) (bs : List ℕ) (world : World) → At world l w → part w l.path ≡ v → bs ≡ [] → Has world Full f v bs →
    Ended f l w bs world world
ended_plain f l w v bs world at e none has = record {
  now = v;
  has = subst (λ cs. Has world Gaps f v cs) none (from_full has);
  is = subst (λ x. IsBase world l.base x) (sym (ap (put_part w l.path) (sym e) ∙ put_same at.part)) at.base;
  elsewhere = λ b x h d e. h;
  loses = λ k. omega (arith, ap (times k) none);
  once = keeps_none world;
}

pub may_deeper : {base : Base} {path : List ℕ} (i : ℕ) → MayStore base path → MayStore base (path ++ i ∷ [])
may_deeper i place_may = place_may
may_deeper i node_may = node_may
may_deeper i hand_may = hand_may
may_deeper i block_may = block_may

-- a text or a sequence without a block
none_left : (f : Form) (n bytes : ℕ) (l : Location) (w v : Value) (world : World) → At world l w → part w l.path ≡ v → HasNone v → is_handle v ≡ true →
    block_of v ≡ None → ((after : World) → Has after Gaps f Vacant []) → Sure (left_vacant bytes l v) (λ u after. Ended f l w [] world after) world
none_left f n bytes l w v world at e none own empty has =
    subst (λ b. Sure (unless_gone b (costs bytes (sets l Vacant >> frees (block_of v)))) (λ u after. Ended f l w [] world after) world) (sym own)
    (subst (λ k. Sure (costs bytes (sets l Vacant >> frees k)) (λ u after. Ended f l w [] world after) world) (sym empty)
    (sure_then (sets l Vacant) (λ u. frees None) (λ u after. Ended f l w [] world after) (λ u after. Ended f l w [] world after) world
    (sure_sets Vacant (λ u after. Ended f l w [] world after) at
    (ended_vacant f l w [] world (vacant_world l w world at) (has (vacant_world l w world at))
    (none_vacated l w world at (λ k. ap (held_by k) e ∙ none k))))
    (λ u after h. h)))

-- and with one, in which nothing is any more
block_left : (f : Form) (n k bytes : ℕ) (x : Value) (l : Location) (w : Value) (world : World) → At world l w →
    part w l.path ≡ Handle n (Some k) → IsBase world (InBlock k) x → HasNone x → Apart l.base (k ∷ []) → ((after : World) → Has after Gaps f Vacant []) →
    Sure (left_vacant bytes l (Handle n (Some k))) (λ u after. Ended f l w (k ∷ []) world after) world
block_left f n k bytes x l w world at e b none apart has =
    let Q : Unit {0} → World → Type 0 = λ u after. Ended f l w (k ∷ []) world after in
    sure_then (sets l Vacant) (λ u. frees (Some k)) (λ u after. after ≡ vacant_world l w world at) Q world
    (sure_sets Vacant (λ u after. after ≡ vacant_world l w world at) at refl)
    (λ u after is. subst (λ y. Sure (frees (Some k)) Q y) (sym is)
    (sure_frees {x = x} Q (vacant_elsewhere l w world at (InBlock k) x b (λ q. apart k (sym q) (inl refl)))
    (ended_vacant f l w (k ∷ []) world (freed (vacant_world l w world at) k (block_at (vacant_world l w world at).heap k))
    (has (freed (vacant_world l w world at) k (block_at (vacant_world l w world at).heap k)))
    (block_vacated l w world at n k x e b none apart))))

text_ends : Ends block
text_ends l w v bs world at e h d apart =
    sure_sees (λ world v. left_vacant (8 + length_of v) l v) (λ u after. Ended block l w bs world after) at e tt h (by v bs e h apart)
  where
    by : (v : Value) (bs : List ℕ) → part w l.path ≡ v → Has world Full block v bs → Apart l.base bs →
        Sure (left_vacant (8 + length_of v) l v) (λ u after. Ended block l w bs world after) world
    by v _ e no_text apart = none_left block 0 8 l w v world at e (λ k. refl) refl refl (λ after. gone_text)
    by _ _ e (a_text {n = n} {k = k} {t = t} same b) apart =
        block_left block n k (8 + n) (Fixed t) l w world at e b (λ j. refl) apart (λ after. gone_text)

sequence_ends : (f : Form) → Ends f → Ends (elements f)
sequence_ends f ends l w v bs world at e h d apart =
    sure_sees (λ world v. each_element (length_of v) (walk ending f) 0 v l v l >> left_vacant (8 + length_of v * size f) l v)
    (λ u after. Ended (elements f) l w bs world after) at e tt h (by v bs e h d apart)
  where
    by : (v : Value) (bs : List ℕ) → part w l.path ≡ v → Has world Full (elements f) v bs → Distinct bs → Apart l.base bs →
        Sure (each_element (length_of v) (walk ending f) 0 v l v l >> left_vacant (8 + length_of v * size f) l v)
        (λ u after. Ended (elements f) l w bs world after) world
    by v _ e no_sequence d apart = none_left (elements f) 0 8 l w v world at e (λ k. refl) refl refl (λ after. gone_sequence)
    by _ _ e (a_sequence {k = k} {all = all} {bs = cs} b each) d apart =
        let o = row_of l k in
        let rest = left_vacant (8 + count all * size f) l (Handle (count all) (Some k)) in
        subst (λ deed. Sure (deed >> rest) (λ u after. Ended (elements f) l w (k ∷ cs) world after) world)
        (sym (each_element_is (count all) (count all) k (walk ending f) 0 l))
        (sure_then (each_at (count all) (λ x. walk ending f x x) o 0) (λ u. rest)
        (λ u after. Through (EachLeft f (count all) 0) 0 o (Parts all) all cs world after) (λ u after. Ended (elements f) l w (k ∷ cs) world after) world
        (each_ends f ends (count all) 0 o (Parts all) all cs world (record { base = b; part_there = whole; is = refl; may = λ i. block_may }) each d.1
        (λ j q m. d.0 (subst (λ i. Member i cs) (sym (same_number k j q)) m)))
        (λ u after s. emptied after s))
      where
        emptied : (after : World) → Through (EachLeft f (count all) 0) 0 (row_of l k) (Parts all) all cs world after →
            Sure (left_vacant (8 + count all * size f) l (Handle (count all) (Some k))) (λ u last. Ended (elements f) l w (k ∷ cs) world last) after
        emptied after s =
            let still : At after l w = record {
              base = s.elsewhere l.base w at.base (λ q. apart k q (inl refl)) (λ j q m. apart j q (inr m));
              part = at.part;
              may = at.may;
            } in
            let none = row_none s.now (subst (λ n. HasEach after Gaps f n 0 s.now []) (sym s.same_count) s.ended) in
            sure_weaker (left_vacant (8 + count all * size f) l (Handle (count all) (Some k))) (λ u last. Ended (elements f) l w (k ∷ []) after last)
            (λ u last. Ended (elements f) l w (k ∷ cs) world last) after
            (block_left (elements f) (count all) k (8 + count all * size f) (Parts s.now) l w after still e s.is none (λ j q m. apart j q (alone j m))
            (λ after. gone_sequence))
            (λ u last v. record {
              now = v.now;
              has = v.has;
              is = v.is;
              elsewhere = λ b x h dd ee. v.elsewhere b x (s.elsewhere b x h (λ q. ee k q (inl refl)) (λ j q m. ee j q (inr m))) dd
                  (λ j q m. ee j q (alone j m));
              loses = λ j. omega (arith, s.loses j, v.loses j);
              once = keeps_then s.once v.once;
            })
          where
            alone : (j : ℕ) → Member j (k ∷ []) → Member j (k ∷ cs)
            alone j (inl q) = inl q
            alone j (inr m) = elim m [ ]

row_ends : (n : ℕ) (f : Form) → Ends f → Ends (row n f)
row_ends n f ends l w v bs world at e h d apart = by (of_some n (hooked f)) refl v bs e h d apart
  where
    by : (b : Bool) → of_some n (hooked f) ≡ b → (v : Value) (bs : List ℕ) → part w l.path ≡ v → Has world Full (row n f) v bs → Distinct bs →
        Apart l.base bs → Sure (branch b (each_part n (walk ending f) 0 l l) (give tt)) (λ u after. Ended (row n f) l w bs world after) world
    by false is v bs e h d apart = ended_plain (row n f) l w v bs world at e (plain_none is h) h
    by true is _ _ e (a_row {all = all} {bs = bs} same each) d apart =
        subst (λ deed. Sure deed (λ u after. Ended (row n f) l w bs world after) world) (sym (each_part_is n (walk ending f) 0 l))
        (sure_weaker (each_at n (λ x. walk ending f x x) l 0) (λ u after. Through (EachLeft f n 0) 0 l w all bs world after)
        (λ u after. Ended (row n f) l w bs world after) world
        (each_ends f ends n 0 l w all bs world (record { base = at.base; part_there = at.part; is = e; may = λ i. may_deeper i at.may }) each d apart)
        (λ u after s. record {
          now = Parts s.now;
          has = a_row (s.same_count ∙ same) s.ended;
          is = s.is;
          elsewhere = s.elsewhere;
          loses = s.loses;
          once = s.once;
        }))

abbrev AllEnds : Forms → Type 0
AllEnds fs = (i : ℕ) (o : Location) (w : Value) (all : Values) (bs : List ℕ) (world : World) → Row world o w all → HasAll world Full fs i all bs → Distinct bs →
    Apart o.base bs → Sure (walk_all ending fs i o o) (λ u after. Through (AllLeft fs i) i o w all bs world after) world

parts_end : (fs : Forms) → AllEnds fs → Ends (parts fs)
parts_end fs ends l w v bs world at e h d apart = by (hooked_any fs) refl v bs e h d apart
  where
    by : (b : Bool) → hooked_any fs ≡ b → (v : Value) (bs : List ℕ) → part w l.path ≡ v → Has world Full (parts fs) v bs → Distinct bs → Apart l.base bs →
        Sure (branch b (walk_all ending fs 0 l l) (give tt)) (λ u after. Ended (parts fs) l w bs world after) world
    by false is v bs e h d apart = ended_plain (parts fs) l w v bs world at e (plain_none is h) h
    by true is _ _ e (some_parts {all = all} {bs = bs} h) d apart =
        sure_weaker (walk_all ending fs 0 l l) (λ u after. Through (AllLeft fs 0) 0 l w all bs world after)
        (λ u after. Ended (parts fs) l w bs world after) world
        (ends 0 l w all bs world (record { base = at.base; part_there = at.part; is = e; may = λ i. may_deeper i at.may }) h d apart)
        (λ u after s. record { now = Parts s.now; has = some_parts s.ended; is = s.is; elsewhere = s.elsewhere; loses = s.loses; once = s.once })

more_ends : (f : Form) (fs : Forms) → Ends f → AllEnds fs → AllEnds (forms f fs)
more_ends f fs ends ends_all i o w all _ world r (a_part {bs = bs} {cs = cs} le h more) d apart =
    sure_then (walk ending f (deeper o i) (deeper o i)) (λ u. walk_all ending fs (suc i) o o) (λ u after. Ended f (deeper o i) w bs world after)
    (λ u after. Through (AllLeft (forms f fs) i) i o w all (bs ++ cs) world after) world
    (ends (deeper o i) w (nth all i) bs world (at_part i o w all world r le) (part_is i o w all r.is) h (distinct_first bs cs d)
    (λ k e m. apart k e (in_first k bs cs m)))
    (λ u after t.
    let new = next_row f i o w all bs cs world r le d apart after t in
    let whole_now = next_whole f i o w all bs cs world r le d apart after t in
    sure_weaker (walk_all ending fs (suc i) o o) (λ u last. Through (AllLeft fs (suc i)) (suc i) o whole_now new cs after last)
    (λ u last. Through (AllLeft (forms f fs) i) i o w all (bs ++ cs) world last) after
    (ends_all (suc i) o whole_now new cs after (next f i o w all bs cs world r le d apart after t)
    (all_same new (count_with all i t.now, same_later f i o w all bs cs world r le d apart after t)
    (all_stays world after (others_stay f i o w all bs cs world r le d apart after t) more))
    (distinct_second bs cs d) (λ k e m. apart k e (in_second k bs cs m)))
    (λ u last s. through_more f i o w all bs cs world r le d apart after t (AllLeft (forms f fs) i) (AllLeft fs (suc i))
    (λ last now same is has rest. a_part (subst (λ n. i < n) (sym same) le) (subst (λ v. Has last Gaps f v []) (sym is) has) rest) last s))

wrapped_ends : (f : Form) → Ends f → Ends (wrapped f)
wrapped_ends f ends l w v bs world at e (of_wrapped h) d apart =
    sure_weaker (walk ending f l l) (λ u after. Ended f l w bs world after) (λ u after. Ended (wrapped f) l w bs world after) world
    (ends l w v bs world at e h d apart)
    (λ u after s. record { now = s.now; has = of_wrapped s.has; is = s.is; elsewhere = s.elsewhere; loses = s.loses; once = s.once })

plain_ends : Ends plain
plain_ends l w v bs world at e h d apart = ended_plain plain l w v bs world at e (plain_none refl h) h

reference_ends : Ends reference
reference_ends l w v bs world at e h d apart = elim h [ ]

resource_ends : (fs : Forms) → Ends (resource fs)
resource_ends fs l w v bs world at e h d apart = elim h [ ]

no_more_ends : AllEnds no_forms
no_more_ends i o w all _ world r (no_parts q) d apart = through_none (AllLeft no_forms i) i o w all world r (no_parts q)

mutual
  pub ends : (f : Form) → Ends f
  ends plain = plain_ends
  ends reference = reference_ends
  ends block = text_ends
  ends (elements f) = sequence_ends f (ends f)
  ends (row n f) = row_ends n f (ends f)
  ends (parts fs) = parts_end fs (all_end fs)
  ends (resource fs) = resource_ends fs
  ends (wrapped f) = wrapped_ends f (ends f)

  all_end : (fs : Forms) → AllEnds fs
  all_end no_forms = no_more_ends
  all_end (forms f fs) = more_ends f fs (ends f) (all_end fs)
