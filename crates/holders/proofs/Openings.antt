-- Rows, objects, sequences and texts by their parts.
use Rattle.std.proofs.Common.{◌≡◌, refl, sym, ap, subst, ◌∙◌, arith, ℕ, zero, suc, ◌+◌, ◌<◌, ◌≤◌, inl, inr, ◌⊎◌, List, [], ◌∷◌, ◌++◌, length, Some}
use Rattle.std.proofs.lemmas.Option.{none-some, same_Some}
use Rattle.nim_types.specs.Forms.{Form, plain, block, elements, row, parts, Forms, no_forms, forms}
use Rattle.nim_meaning.specs.Values.{Value, Handle, Parts, Fixed, Values, nth, characters, count, length_of, block_of, part, Base, InBlock, Location, deeper}
use Rattle.nim_meaning.specs.Marks.{Member, Distinct}
use Rattle.nim_meaning.specs.State.{World}
use Rattle.holders.specs.Owned.{IsBase, HasPart, whole, MayStore, block_may, Extent, Full, Has, no_text, a_text, no_sequence, a_sequence, a_row, some_parts}
use Rattle.holders.specs.Owned.{HasEach, none_more, one_more, HasAll, no_parts, a_part, Apart, Cell, in_rows, a_letter, Keeps, a_number}
use Rattle.holders.specs.Becoming.{taken_in}
use Rattle.holders.specs.Beside.{PartWays, here_apart, further_on, OtherPart, other_base, other_way}
use Rattle.holders.specs.Territory.{Owner, Cells, no_cells, a_cell, AllOwners, LieApart, ClearOf, Territory, Shape, of_parts, of_characters, HasShape, is_row}
use Rattle.holders.specs.Territory.{is_text, RowAt, IsUnder, Among}
use Rattle.holders.specs.Working.{Works, without}
use Rattle.holders.specs.Ways.{copies, part_owners, in_block, Opens, an_object, an_array, a_block, letters}
use Rattle.holders.proofs.Bases.{whole_is, loaded}
use Rattle.holders.proofs.PathLemmas.{has_deeper}
use Rattle.holders.proofs.Letters.{character_has, in_a_cell}
use Rattle.holders.proofs.Owning.{distinct_first, distinct_second, in_first, in_second}
use Rattle.holders.proofs.Ending.{row_of, part_is, may_deeper, same_number}
use Rattle.holders.proofs.Copying.{base_below, either_block}
use Rattle.holders.proofs.Outward.{assoc}
use Rattle.holders.proofs.Assigning.{row_has, parts_have}
use Rattle.holders.proofs.Working.{all_both, all_so, works_front, works_then}
use Rattle.holders.proofs.Opening.{Closed, Around, Opening, works_opened}

-- ---- the parts of a row

abbrev pub count_forms : Forms → ℕ
count_forms no_forms = 0
count_forms (forms f fs) = suc (count_forms fs)

pub all_parts : (P : Owner → Type 0) (l : Location) (fs : Forms) (i : ℕ) → ((f : Form) (j : ℕ) → i ≤ j → P (record { form = f; at = deeper l j })) →
    AllOwners P (part_owners fs l i)
all_parts P l no_forms i h = tt
all_parts P l (forms f fs) i h = (h f i (omega arith), all_parts P l fs (suc i) (λ g j le. h g j (omega (arith, le))))

module _ (world : World) (l : Location) (w : Value) (all : Values) (base : IsBase world l.base w) (e : part w l.path ≡ Parts all) where
  part_cells : {fs : Forms} {i : ℕ} {bs : List ℕ} → HasPart w l.path → ((i : ℕ) → MayStore l.base (l.path ++ i ∷ [])) → HasAll world Full fs i all bs →
      Distinct bs → Apart l.base bs → Cells world (part_owners fs l i) bs
  part_cells there may (no_parts q) d apart = no_cells
  part_cells there may (a_part {i = i} {bs = bs} {cs = cs} at h more) d apart =
      a_cell {w = w} {v = nth all i} {bs = bs} {cs = cs} (record {
        at = record { base = base; part = in_rows (has_deeper i all there e at); may = may i };
        is = part_is i l w all e;
        has = h;
        distinct = distinct_first bs cs d;
        apart = λ k q m. apart k q (in_first k bs cs m);
      }) (part_cells there may more (distinct_second bs cs d) (λ k q m. apart k q (in_second k bs cs m)))

  parts_joined : (fs : Forms) (i : ℕ) (bs : List ℕ) → Cells world (part_owners fs l i) bs → count all ≡ i + count_forms fs → HasAll world Full fs i all bs
  parts_joined no_forms i _ no_cells q = no_parts (omega (arith, q))
  parts_joined (forms f fs) i _ (a_cell {w = u} {v = v} {bs = bs} {cs = cs} c rest) q =
      let same : u ≡ w = sym (whole_is world l.base u c.at.base) ∙ whole_is world l.base w base in
      a_part {bs = bs} {cs = cs} (omega (arith, q))
      (subst (λ x. Has world Full f x bs) (sym c.is ∙ ap (λ x. part x (l.path ++ i ∷ [])) same ∙ part_is i l w all e) c.has)
      (parts_joined fs (suc i) cs rest (omega (arith, q)))

count_copies : (n : ℕ) (f : Form) → count_forms (copies n f) ≡ n
count_copies zero f = refl
count_copies (suc n) f = ap suc (count_copies n f)

each_all : {world : World} {x : Extent} {f : Form} {n i : ℕ} {all : Values} {bs : List ℕ} → HasEach world x f n i all bs → i + n ≡ count all →
    HasAll world x (copies n f) i all bs
each_all none_more q = no_parts (omega (arith, q))
each_all (one_more at h more) q = a_part at h (each_all more (omega (arith, q)))

all_each : {world : World} {x : Extent} {f : Form} {all : Values} {bs : List ℕ} (n i : ℕ) → HasAll world x (copies n f) i all bs → HasEach world x f n i all bs
all_each zero i (no_parts q) = none_more
all_each (suc n) i (a_part at h more) = one_more at h (all_each n (suc i) more)

-- ---- where they lie

ways_longer : {path other : List ℕ} (j : ℕ) → PartWays path other → PartWays (path ++ j ∷ []) other
ways_longer j (here_apart d) = here_apart d
ways_longer j (further_on w) = further_on (ways_longer j w)

ways_here : (path : List ℕ) (i j : ℕ) → (j ≡ i → ⊥) → PartWays (path ++ i ∷ []) (path ++ j ∷ [])
ways_here [] i j d = here_apart d
ways_here (p ∷ path) i j d = further_on (ways_here path i j d)

pub other_deeper : {l m : Location} (j : ℕ) → OtherPart l m → OtherPart (deeper l j) m
other_deeper j (other_base d) = other_base d
other_deeper j (other_way e w) = other_way e (ways_longer j w)

under_deeper : {l m : Location} (j : ℕ) → IsUnder l m → IsUnder (deeper l j) m
under_deeper {l} {m} j u = record {
  base = u.base;
  position = u.position;
  further = u.further ++ j ∷ [];
  path = ap (λ p. p ++ j ∷ []) u.path ∙ assoc m.path (u.position ∷ u.further) (j ∷ []);
}

parts_apart : (l : Location) (fs : Forms) (i : ℕ) → LieApart (part_owners fs l i)
parts_apart l no_forms i = tt
parts_apart l (forms f fs) i = (
  all_parts (λ o. OtherPart o.at (deeper l i)) l fs (suc i) (λ g j le. other_way refl (ways_here l.path j i (λ e. not_same j le e))),
  parts_apart l fs (suc i),
)
  where
    not_same : (j : ℕ) → suc i ≤ j → i ≡ j → ⊥
    not_same j le e = omega (arith, le, e)

-- ---- shapes

record PartsThere (n : ℕ) (v : Value) : Type 0 where
  all : Values
  is : v ≡ Parts all
  count_is : count all ≡ n

parts_there : {n : ℕ} {v : Value} → HasShape (of_parts n) v → PartsThere n v
parts_there (is_row {all = all} e) = record { all = all; is = refl; count_is = e }

record TextThere (n : ℕ) (v : Value) : Type 0 where
  text : List ℕ
  is : v ≡ Fixed text
  length_is : length text ≡ n

text_there : {n : ℕ} {v : Value} → HasShape (of_characters n) v → TextThere n v
text_there (is_text {t = t} e) = record { text = t; is = refl; length_is = e }

-- ---- a row, or an object

module _ (world : World) (fs : Forms) (f : Form) (l : Location) (w : Value) (all : Values) (bs : List ℕ) (c : Cell f l w (Parts all) bs world)
    (h : HasAll world Full fs 0 all bs) (same : count all ≡ count_forms fs)
    (make : (after : World) (vs : Values) (ds : List ℕ) → count vs ≡ count all → HasAll after Full fs 0 vs ds → Has after Full f (Parts vs) ds) where
  row_closed : (os : List Owner) (cs given ds : List ℕ) (after : World) →
      Around (record { form = f; at = l }) (part_owners fs l 0) os bs bs cs given ds world after →
      Closed (record { form = f; at = l }) bs bs ds after
  row_closed os cs given ds after a =
      let r = a.row_stays (of_parts (count all)) (record {
        whole = w;
        base = c.at.base;
        part_there = c.at.part;
        is = subst (λ y. HasShape (of_parts (count all)) y) (sym c.is) (is_row refl);
      })
      (all_both (λ p. OtherPart p.at l ⊎ IsUnder p.at l) (part_owners fs l 0) os
      (all_parts (λ p. OtherPart p.at l ⊎ IsUnder p.at l) l fs 0
      (λ g j le. inr (record { base = refl; position = j; further = []; path = refl })))
      (all_so (λ p. OtherPart p.at l) (λ p. OtherPart p.at l ⊎ IsUnder p.at l) os (λ p q. inl q) a.other)) a.far in
      let there = parts_there r.is in
      record {
        stands_in = r.whole;
        value = Parts there.all;
        blocks = ds;
        cell = record {
          at = record { base = r.base; part = in_rows r.part_there; may = c.at.may };
          is = there.is;
          has = make after there.all ds there.count_is
              (parts_joined after l r.whole there.all r.base there.is fs 0 ds a.cells (omega (arith, there.count_is, same)));
          distinct = a.distinct;
          apart = a.apart;
        };
        from = λ k m. inl m;
        sum = λ k. omega arith;
      }

  row_opening : Opening (record { form = f; at = l }) (part_owners fs l 0) bs world
  unfolding row_closed
  row_opening = record {
    ks = bs;
    cells = part_cells world l w all c.at.base c.is c.at.part (λ i. may_deeper i c.at.may) h c.distinct c.apart;
    distinct = c.distinct;
    within = λ k m. m;
    lie = parts_apart l fs 0;
    other = λ m o far. all_parts (λ p. OtherPart p.at m) l fs 0 (λ g j le. other_deeper j o);
    leave = λ m o far. all_parts (λ p. OtherPart p.at m ⊎ IsUnder p.at m) l fs 0 (λ g j le. leaves m j o);
    no_base = λ b off far. all_parts (λ p. b ≡ p.at.base → ⊥) l fs 0 (λ g j le. off);
    clear = λ cs far both. all_parts (λ p. Apart p.at.base (bs ++ cs)) l fs 0 (λ g j le. far);
    given_clear = λ given far apart. all_parts (λ p. Apart p.at.base given) l fs 0 (λ g j le. apart);
    close = row_closed;
  }
    where
      leaves : (m : Location) (j : ℕ) → OtherPart l m ⊎ IsUnder l m → OtherPart (deeper l j) m ⊎ IsUnder (deeper l j) m
      leaves m j (inl o) = inl (other_deeper j o)
      leaves m j (inr u) = inr (under_deeper j u)

-- ---- a block

-- What a sequence or a text is by its block: elements or characters of one form, with these blocks, in a row or text of a shape.
module _ (world : World) (f g : Form) (l : Location) (w : Value) (n k : ℕ) (ks : List ℕ) (shape : Shape)
    (c : Keeps f l w (Handle n (Some k)) (k ∷ ks) world) (there : RowAt world (row_of l k) shape)
    (cells : Cells world (part_owners (copies n g) (row_of l k) 0) ks)
    (make : (after : World) (ds : List ℕ) → RowAt after (row_of l k) shape → Cells after (part_owners (copies n g) (row_of l k) 0) ds →
    Has after Full f (Handle n (Some k)) (k ∷ ds)) where
  no_own : Apart (InBlock k) ks
  no_own j q m = c.distinct.0 (subst (λ i. Member i ks) (sym (same_number k j q)) m)

  -- what isn't in the block
  off_block : (b : Base) → Apart b (k ∷ ks) → b ≡ InBlock k → ⊥
  off_block b far q = far k q (inl refl)

  block_closed : (os : List Owner) (cs given ds : List ℕ) (after : World) →
      Around (record { form = f; at = l }) (part_owners (copies n g) (row_of l k) 0) os (k ∷ ks) ks cs given ds world after →
      Closed (record { form = f; at = l }) (k ∷ ks) ks ds after
  block_closed os cs given ds after a =
      let kids = part_owners (copies n g) (row_of l k) 0 in
      let r = a.block_stays k shape there
      (all_both (λ p. OtherPart p.at (row_of l k) ⊎ IsUnder p.at (row_of l k)) kids os
      (all_parts (λ p. OtherPart p.at (row_of l k) ⊎ IsUnder p.at (row_of l k)) (row_of l k) (copies n g) 0
      (λ h j le. inr (record { base = refl; position = j; further = []; path = refl })))
      (all_so (λ p. Apart p.at.base (k ∷ ks)) (λ p. OtherPart p.at (row_of l k) ⊎ IsUnder p.at (row_of l k)) os
      (λ p q. inl (other_base (λ e. off_block p.at.base q (sym e)))) a.clear))
      (λ j e m. either_block j given (ks ++ cs) ⊥ m (λ q. a.strange j q (inl (sym (same_number k j e))))
      (λ q. either_block j ks cs ⊥ q (λ z. no_own j e z) (λ z. a.both k (inl refl) (subst (λ i. Member i cs) (sym (same_number k j e)) z)))) in
      let s = a.part_stays (Handle n (Some k)) (record { whole = w; at = c.at; is = c.is })
      (all_both (λ p. OtherPart p.at l) kids os
      (all_parts (λ p. OtherPart p.at l) (row_of l k) (copies n g) 0 (λ h j le. other_base (off_block l.base c.apart))) a.other) a.far in
      record {
        stands_in = s.whole;
        value = Handle n (Some k);
        blocks = k ∷ ds;
        cell = record {
          at = s.at;
          is = s.is;
          has = make after ds r a.cells;
          distinct = (λ m. not_there (a.came k m), a.distinct);
          apart = λ j e m. apart_all j e m;
        };
        from = λ j m. where_from j m;
        sum = λ j. omega arith;
      }
    where
      too_far : k < taken_in world → taken_in world ≤ k → ⊥
      too_far less le = omega (arith, less, le)

      not_there : Member k (ks ++ cs) ⊎ (Member k given ⊎ (taken_in world ≤ k)) → ⊥
      not_there (inl m) = either_block k ks cs ⊥ m (λ q. c.distinct.0 q) (λ q. a.both k (inl refl) q)
      not_there (inr (inl q)) = a.strange k q (inl refl)
      not_there (inr (inr le)) = too_far (base_below there.base) le

      apart_all : (j : ℕ) → l.base ≡ InBlock j → Member j (k ∷ ds) → ⊥
      apart_all j e (inl q) = c.apart j e (inl q)
      apart_all j e (inr m) = a.apart j e m

      where_from : (j : ℕ) → Member j (k ∷ ds) → Member j ds ⊎ (Member j (k ∷ ks) × (Member j ks → ⊥))
      where_from j (inl q) = inr (inl q, λ m. c.distinct.0 (subst (λ i. Member i ks) q m))
      where_from j (inr m) = inl m

  block_opening : Opening (record { form = f; at = l }) (part_owners (copies n g) (row_of l k) 0) (k ∷ ks) world
  unfolding block_closed
  block_opening = record {
    ks = ks;
    cells = cells;
    distinct = c.distinct.1;
    within = λ j m. inr m;
    lie = parts_apart (row_of l k) (copies n g) 0;
    other = λ m o far. all_parts (λ p. OtherPart p.at m) (row_of l k) (copies n g) 0 (λ h j le. other_base (off_block m.base far));
    leave = λ m o far. all_parts (λ p. OtherPart p.at m ⊎ IsUnder p.at m) (row_of l k) (copies n g) 0
        (λ h j le. inl (other_base (off_block m.base far)));
    no_base = λ b off far. all_parts (λ p. b ≡ p.at.base → ⊥) (row_of l k) (copies n g) 0 (λ h j le. off_block b far);
    clear = λ cs far both. all_parts (λ p. Apart p.at.base (ks ++ cs)) (row_of l k) (copies n g) 0
        (λ h j le i e m. either_block i ks cs ⊥ m (λ z. no_own i e z) (λ z. both k (inl refl) (subst (λ x. Member x cs) (sym (same_number k i e)) z)));
    given_clear = λ given far apart. all_parts (λ p. Apart p.at.base given) (row_of l k) (copies n g) 0
        (λ h j le i e m. far i m (inl (sym (same_number k i e))));
    close = block_closed;
  }

-- of a sequence
sequence_opening : (world : World) (f : Form) (l : Location) (w : Value) (k : ℕ) (all : Values) (ks : List ℕ) →
    Keeps (elements f) l w (Handle (count all) (Some k)) (k ∷ ks) world → IsBase world (InBlock k) (Parts all) →
    HasEach world Full f (count all) 0 all ks →
    Opening (record { form = elements f; at = l }) (part_owners (copies (count all) f) (row_of l k) 0) (k ∷ ks) world
sequence_opening world f l w k all ks c there h =
    block_opening world (elements f) f l w (count all) k ks (of_parts (count all)) c
    (record { whole = Parts all; base = there; part_there = whole; is = is_row refl })
    (part_cells world (row_of l k) (Parts all) all there refl whole (λ i. block_may) (each_all h (omega arith)) c.distinct.1
    (λ j q m. c.distinct.0 (subst (λ i. Member i ks) (sym (same_number k j q)) m)))
    (λ after ds r cells. by after ds r (parts_there r.is) cells)
  where
    by : (after : World) (ds : List ℕ) (r : RowAt after (row_of l k) (of_parts (count all))) → PartsThere (count all) r.whole →
        Cells after (part_owners (copies (count all) f) (row_of l k) 0) ds → Has after Full (elements f) (Handle (count all) (Some k)) (k ∷ ds)
    by after ds r there cells =
        subst (λ n. Has after Full (elements f) (Handle n (Some k)) (k ∷ ds)) there.count_is
        (a_sequence (subst (λ x. IsBase after (InBlock k) x) there.is r.base)
        (all_each (count there.all) 0 (subst (λ n. HasAll after Full (copies n f) 0 there.all ds) (sym there.count_is)
        (parts_joined after (row_of l k) r.whole there.all r.base there.is (copies (count all) f) 0 ds cells
        (omega (arith, there.count_is, count_copies (count all) f))))))

-- of a text
letter_cells : {world : World} (l : Location) (k : ℕ) (t : List ℕ) → IsBase world (InBlock k) (Fixed t) → (m j : ℕ) → j + m ≡ length t →
    Cells world (part_owners (copies m plain) (row_of l k) j) []
letter_cells l k t there zero j e = no_cells
letter_cells l k t there (suc m) j e =
    let less : j < length t = omega (arith, e) in
    a_cell {w = Fixed t} {v = nth (characters t) j} {bs = []} {cs = []} (record {
      at = record { base = there; part = a_letter less; may = block_may };
      is = refl;
      has = character_has t j less;
      distinct = tt;
      apart = λ i q n. elim n [ ];
    }) (letter_cells l k t there m (suc j) (omega (arith, e)))

no_blocks : {world : World} (l : Location) (m j : ℕ) (ds : List ℕ) → Cells world (part_owners (copies m plain) l j) ds → ds ≡ []
no_blocks l zero j _ no_cells = refl
no_blocks l (suc m) j _ (a_cell {cs = cs} c rest) = by c.has (no_blocks l m (suc j) cs rest)
  where
    by : {world : World} {v : Value} {bs : List ℕ} → Has world Full plain v bs → cs ≡ [] → bs ++ cs ≡ []
    by a_number e = e

text_opening : (world : World) (l : Location) (w : Value) (n k : ℕ) (t : List ℕ) → Keeps block l w (Handle n (Some k)) (k ∷ []) world →
    IsBase world (InBlock k) (Fixed t) → length t ≡ n →
    Opening (record { form = block; at = l }) (part_owners (copies n plain) (row_of l k) 0) (k ∷ []) world
text_opening world l w n k t c there same =
    block_opening world block plain l w n k [] (of_characters n) c
    (record { whole = Fixed t; base = there; part_there = whole; is = is_text same })
    (letter_cells l k t there n 0 (omega (arith, same)))
    (λ after ds r cells. by after ds r (text_there r.is) (no_blocks (row_of l k) n 0 ds cells))
  where
    by : (after : World) (ds : List ℕ) (r : RowAt after (row_of l k) (of_characters n)) → TextThere n r.whole → ds ≡ [] →
        Has after Full block (Handle n (Some k)) (k ∷ ds)
    by after ds r there none =
        subst (λ es. Has after Full block (Handle n (Some k)) (k ∷ es)) (sym none)
        (a_text there.length_is (subst (λ x. IsBase after (InBlock k) x) there.is r.base))

-- ---- each of them

count_all : {world : World} {x : Extent} {fs : Forms} {i : ℕ} {all : Values} {bs : List ℕ} → HasAll world x fs i all bs → count all ≡ i + count_forms fs
count_all (no_parts q) = omega (arith, q)
count_all (a_part at h more) = omega (arith, count_all more)

count_all_from : {world : World} {x : Extent} {fs : Forms} {all : Values} {bs : List ℕ} → HasAll world x fs 0 all bs → count all ≡ count_forms fs
count_all_from h = omega (arith, count_all h)

record HasBlock (world : World) (f : Form) (n k : ℕ) (bs : List ℕ) : Type 0 where
  all : Values
  ks : List ℕ
  length_is : count all ≡ n
  blocks_are : bs ≡ k ∷ ks
  there : IsBase world (InBlock k) (Parts all)
  each : HasEach world Full f (count all) 0 all ks

block_has : {world : World} {f : Form} {n k : ℕ} {v : Value} {bs : List ℕ} → Has world Full (elements f) v bs → v ≡ Handle n (Some k) → HasBlock world f n k bs
block_has {k = k} no_sequence e = absurd (none-some k (ap block_of e))
block_has {world} {f} {n} {k} (a_sequence {k = j} {all = all} {bs = ks} there each) e =
    let same : j ≡ k = same_Some j k (ap block_of e) in
    record {
      all = all;
      ks = ks;
      length_is = ap length_of e;
      blocks_are = ap (λ i. i ∷ ks) same;
      there = subst (λ i. IsBase world (InBlock i) (Parts all)) same there;
      each = each;
    }

record TextBlock (world : World) (n k : ℕ) (bs : List ℕ) : Type 0 where
  text : List ℕ
  length_is : length text ≡ n
  blocks_are : bs ≡ k ∷ []
  there : IsBase world (InBlock k) (Fixed text)

text_has : {world : World} {n k : ℕ} {v : Value} {bs : List ℕ} → Has world Full block v bs → v ≡ Handle n (Some k) → TextBlock world n k bs
text_has {k = k} no_text e = absurd (none-some k (ap block_of e))
text_has {world} {n} {k} (a_text {k = j} {t = t} same there) e =
    let is : j ≡ k = same_Some j k (ap block_of e) in
    record {
      text = t;
      length_is = same ∙ ap length_of e;
      blocks_are = ap (λ i. i ∷ []) is;
      there = subst (λ i. IsBase world (InBlock i) (Fixed t)) is there;
    }

pub opening_of : {world : World} {o : Owner} {fs : Forms} {from : Location} {w v : Value} {bs : List ℕ} → Opens world o fs from →
    Keeps o.form o.at w v bs world →
    Opening o (part_owners fs from 0) bs world
opening_of {world} {w = w} {v = v} {bs = bs} (an_object {fs = fs} {l = l}) c =
    let h = parts_have c.has in
    row_opening world fs (parts fs) l w h.all bs (in_a_cell tt (subst (λ x. Keeps (parts fs) l w x bs world) h.is c)) h.parts (count_all_from h.parts)
    (λ after vs ds q all. some_parts all)
opening_of {world} {w = w} {v = v} {bs = bs} (an_array {n = n} {f = f} {l = l}) c =
    let h = row_has c.has in
    row_opening world (copies n f) (row n f) l w h.all bs (in_a_cell tt (subst (λ x. Keeps (row n f) l w x bs world) h.is c))
    (each_all h.each (omega (arith, h.same)))
    (h.same ∙ sym (count_copies n f)) (λ after vs ds q all. a_row (q ∙ h.same) (all_each n 0 all))
opening_of {world} {w = w} {v = v} {bs = bs} (a_block {n = n} {k = k} {f = f} {l = l} e) c =
    let is : v ≡ Handle n (Some k) = sym c.is ∙ sym (loaded world l w c.at.base) ∙ e in
    let h = block_has c.has is in
    let o : Owner = record { form = elements f; at = l } in
    subst (λ ds. Opening o (part_owners (copies n f) (in_block l k) 0) ds world) (sym h.blocks_are)
    (subst (λ m. Opening o (part_owners (copies m f) (in_block l k) 0) (k ∷ h.ks) world) h.length_is
    (sequence_opening world f l w k h.all h.ks
    (subst (λ m. Keeps (elements f) l w (Handle m (Some k)) (k ∷ h.ks) world) (sym h.length_is)
    (subst (λ x. Keeps (elements f) l w x (k ∷ h.ks) world) is (subst (λ ds. Keeps (elements f) l w v ds world) h.blocks_are c))) h.there h.each))
opening_of {world} {w = w} {v = v} {bs = bs} (letters {n = n} {k = k} {l = l} e) c =
    let is : v ≡ Handle n (Some k) = sym c.is ∙ sym (loaded world l w c.at.base) ∙ e in
    let h = text_has c.has is in
    let o : Owner = record { form = block; at = l } in
    subst (λ ds. Opening o (part_owners (copies n plain) (in_block l k) 0) ds world) (sym h.blocks_are)
    (text_opening world l w n k h.text
    (subst (λ x. Keeps block l w x (k ∷ []) world) is (subst (λ ds. Keeps block l w v ds world) h.blocks_are c)) h.there h.length_is)

-- the parts of one of the cells in its place
pub works_open : {os : List Owner} {o : Owner} {world : World} {fs : Forms} {from : Location} (t : Territory os world) (i : Among os o) →
    Opens world o fs from → Works os (part_owners fs from 0 ++ without i) t.blocks world
works_open {os} {o} {world} {fs} {from} t i opens =
    let front = works_front i t in
    works_then front (by front.territory.blocks front.territory.cells front.territory.distinct front.territory.others front.territory.clear)
  where
    by : (bs : List ℕ) → Cells world (o ∷ without i) bs → Distinct bs → LieApart (o ∷ without i) → ClearOf bs (o ∷ without i) →
        Works (o ∷ without i) (part_owners fs from 0 ++ without i) bs world
    by _ (a_cell {w = w} {v = v} {bs = bs} {cs = cs} c rest) d others clear =
        works_opened o (without i) world w v bs cs c rest d others clear (part_owners fs from 0) (opening_of opens c)
