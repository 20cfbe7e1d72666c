-- A cell is worked on by its parts.
use Rattle.std.proofs.Common.{◌≡◌, sym, ap, subst, arith, ℕ, ◌+◌, ◌<◌, ◌≤◌, inl, inr, ◌⊎◌, List, [], ◌∷◌, ◌++◌}
use Rattle.nim_meaning.specs.Values.{Value, Base, InBlock, Location}
use Rattle.nim_meaning.specs.Marks.{Member, Distinct}
use Rattle.nim_meaning.specs.State.{World}
use Rattle.holders.specs.Owned.{Apart, Keeps}
use Rattle.holders.specs.Becoming.{taken_in, Strange, times}
use Rattle.holders.specs.Beside.{OtherPart}
use Rattle.holders.specs.Territory.{Owner, Cells, a_cell, AllOwners, OtherThan, LieApart, ClearOf, Territory, Shape, RowAt, IsUnder, LeaveRow}
use Rattle.holders.specs.Territory.{NoBaseOf, StandsAt, MovesWith}
use Rattle.holders.specs.Working.{Back, Works}
use Rattle.holders.specs.Running.{Region, IsOutside, Runs}
use Rattle.holders.proofs.Owning.{in_first, in_second, distinct_first, distinct_second, distinct_apart}
use Rattle.holders.proofs.Ending.{row_of}
use Rattle.holders.proofs.Copying.{has_below, distinct_both, either_block}
use Rattle.holders.proofs.Moving.{clear_less, cells_clear}
use Rattle.holders.proofs.Working.{all_both, apart_both, CellsApart, cells_apart, cells_both}
use Rattle.holders.proofs.Ledger.{times_both}

-- ---- a cell is opened

-- what it is then
pub record Closed (o : Owner) (bs ks ds : List ℕ) (after : World) : Type 0 where
  pub stands_in : Value
  pub value : Value
  pub blocks : List ℕ
  pub cell : Keeps o.form o.at stands_in value blocks after
  pub from : (k : ℕ) → Member k blocks → Member k ds ⊎ (Member k bs × (Member k ks → ⊥))
  pub sum : (k : ℕ) → times k blocks + times k ks ≡ times k bs + times k ds

-- what holds where its parts may have become others, with those of other cells
pub record Around (o : Owner) (kids os : List Owner) (bs ks cs given ds : List ℕ) (world after : World) : Type 0 where
  pub part_stays : (v : Value) → StandsAt world o.at v → OtherThan o.at (kids ++ os) → Apart o.at.base (given ++ (ks ++ cs)) → StandsAt after o.at v
  pub row_stays : (shape : Shape) → RowAt world o.at shape → LeaveRow o.at (kids ++ os) → Apart o.at.base (given ++ (ks ++ cs)) → RowAt after o.at shape
  pub block_stays : (k : ℕ) (shape : Shape) → RowAt world (row_of o.at k) shape → LeaveRow (row_of o.at k) (kids ++ os) →
      Apart (InBlock k) (given ++ (ks ++ cs)) → RowAt after (row_of o.at k) shape
  pub other : OtherThan o.at os
  pub clear : ClearOf bs os
  pub both : (k : ℕ) → Member k bs → Member k cs → ⊥
  pub cells : Cells after kids ds
  pub distinct : Distinct ds
  pub far : Apart o.at.base (given ++ (ks ++ cs))
  pub apart : Apart o.at.base ds
  pub came : (k : ℕ) → Member k ds → Member k (ks ++ cs) ⊎ (Member k given ⊎ (taken_in world ≤ k))
  pub strange : Strange given (bs ++ cs)

pub record Opening (o : Owner) (kids : List Owner) (bs : List ℕ) (world : World) : Type 0 where
  pub ks : List ℕ
  pub cells : Cells world kids ks
  pub distinct : Distinct ks
  pub within : (k : ℕ) → Member k ks → Member k bs
  pub lie : LieApart kids
  pub other : (l : Location) → OtherPart o.at l → Apart l.base bs → OtherThan l kids
  pub leave : (l : Location) → OtherPart o.at l ⊎ IsUnder o.at l → Apart l.base bs → LeaveRow l kids
  pub no_base : (b : Base) → (b ≡ o.at.base → ⊥) → Apart b bs → NoBaseOf b kids
  pub clear : (cs : List ℕ) → Apart o.at.base (bs ++ cs) → ((k : ℕ) → Member k bs → Member k cs → ⊥) → ClearOf (ks ++ cs) kids
  pub given_clear : (given : List ℕ) → Strange given bs → Apart o.at.base given → ClearOf given kids
  pub close : (os : List Owner) (cs given ds : List ℕ) (after : World) → Around o kids os bs ks cs given ds world after → Closed o bs ks ds after

none_clear : (os : List Owner) → ClearOf [] os
none_clear [] = tt
none_clear (o ∷ os) = (λ k e m. elim m [ ], none_clear os)

pub all_two : (P Q R : Owner → Type 0) (os : List Owner) → ((o : Owner) → P o → Q o → R o) → AllOwners P os → AllOwners Q os → AllOwners R os
all_two P Q R [] g a b = tt
all_two P Q R (o ∷ os) g a b = (g o a.0 b.0, all_two P Q R os g a.1 b.1)

module _ (o : Owner) (os : List Owner) (world : World) (w v : Value) (bs cs : List ℕ) (c : Keeps o.form o.at w v bs world) (rest : Cells world os cs)
    (d : Distinct (bs ++ cs)) (others : LieApart (o ∷ os)) (clear : ClearOf (bs ++ cs) (o ∷ os)) (kids : List Owner) (op : Opening o kids bs world) where
  pub kept_within : (k : ℕ) → Member k (op.ks ++ cs) → Member k (bs ++ cs)
  kept_within k m = either_block k op.ks cs (Member k (bs ++ cs)) m (λ q. in_first k bs cs (op.within k q)) (λ q. in_second k bs cs q)

  pub not_both : (k : ℕ) → Member k bs → Member k cs → ⊥
  not_both k m n = distinct_apart k bs cs d m n

  abbrev pub opened : Territory (kids ++ os) world
  opened = record {
    blocks = op.ks ++ cs;
    cells = cells_both kids os op.ks cs op.cells rest;
    distinct = distinct_both op.ks cs op.distinct (distinct_second bs cs d) (λ k m n. not_both k (op.within k m) n);
    others = apart_both kids os op.lie others.1
        (all_two (λ p. OtherPart p.at o.at) (λ p. Apart p.at.base (bs ++ cs)) (λ p. OtherThan p.at kids) os
        (λ p a b. op.other p.at (Rattle.holders.proofs.Moving.other_back a) (λ k e m. b k e (in_first k bs cs m))) others.0 clear.1);
    clear = all_both (λ p. Apart p.at.base (op.ks ++ cs)) kids os (op.clear cs clear.0 not_both)
        (clear_less (bs ++ cs) (op.ks ++ cs) os kept_within clear.1);
  }

  -- what is so of the cell again, where others may have changed
  record Shut (given : List ℕ) (after : World) (inner : List ℕ) : Type 0 where
    territory : Territory (o ∷ os) after
    came : (k : ℕ) → Member k territory.blocks → Member k (bs ++ cs) ⊎ (Member k given ⊎ (taken_in world ≤ k))
    into : (k : ℕ) → Member k territory.blocks → Member k inner ⊎ (Member k (bs ++ cs) × (Member k (op.ks ++ cs) → ⊥))
    without : (k : ℕ) → Member k territory.blocks → Member k (op.ks ++ cs) → Member k inner
    sum : (k : ℕ) → times k territory.blocks + times k (op.ks ++ cs) ≡ times k (bs ++ cs) + times k inner

  record StaysThere (given : List ℕ) (after : World) : Type 0 where
    part : (v : Value) → StandsAt world o.at v → OtherThan o.at (kids ++ os) → Apart o.at.base (given ++ (op.ks ++ cs)) → StandsAt after o.at v
    row : (shape : Shape) → RowAt world o.at shape → LeaveRow o.at (kids ++ os) → Apart o.at.base (given ++ (op.ks ++ cs)) → RowAt after o.at shape
    block : (k : ℕ) (shape : Shape) → RowAt world (row_of o.at k) shape → LeaveRow (row_of o.at k) (kids ++ os) →
        Apart (InBlock k) (given ++ (op.ks ++ cs)) → RowAt after (row_of o.at k) shape

  shut : (given : List ℕ) (after : World) → Strange given (bs ++ cs) → ClearOf given (o ∷ os) → (t : Territory (kids ++ os) after) →
      ((k : ℕ) → Member k t.blocks → Member k (op.ks ++ cs) ⊎ (Member k given ⊎ (taken_in world ≤ k))) → StaysThere given after → Shut given after t.blocks
  shut given after strange far_given t t_came stays = record {
    territory = record {
      blocks = cl.blocks ++ s.second;
      cells = a_cell cl.cell s.others;
      distinct = distinct_both cl.blocks s.second cl.cell.distinct (distinct_second s.first s.second split)
          (λ k a b. lies_apart k b (cl.from k a));
      others = others;
      clear = cells_clear (o ∷ os) (bs ++ cs) (bs ++ cs) given (cl.blocks ++ s.second) (a_cell c rest) clear far_given came_all;
    };
    came = came_all;
    into = λ k a. either_block k cl.blocks s.second (Member k t.blocks ⊎ (Member k (bs ++ cs) × (Member k (op.ks ++ cs) → ⊥))) a
        (λ q. kids_in k (cl.from k q)) (λ q. inl (subst (λ ds. Member k ds) (sym s.is) (in_second k s.first s.second q)));
    without = λ k a b. subst (λ ds. Member k ds) (sym s.is) (either_block k cl.blocks s.second (Member k (s.first ++ s.second)) a
        (λ q. still_there k b (cl.from k q)) (λ q. in_second k s.first s.second q));
    sum = λ k. omega (
      arith,
      cl.sum k,
      times_both k cl.blocks s.second,
      times_both k op.ks cs,
      times_both k bs cs,
      ap (times k) s.is,
      times_both k s.first s.second,
    );
  }
    where
      s : CellsApart kids os t.blocks after
      s = cells_apart kids os t.blocks t.cells

      split : Distinct (s.first ++ s.second)
      split = subst (λ (ds : List ℕ). Distinct ds) s.is t.distinct

      came : (k : ℕ) → Member k (s.first ++ s.second) → Member k (op.ks ++ cs) ⊎ (Member k given ⊎ (taken_in world ≤ k))
      came k n = t_came k (subst (λ ds. Member k ds) (sym s.is) n)

      wide : (k : ℕ) → Member k (op.ks ++ cs) ⊎ (Member k given ⊎ (taken_in world ≤ k)) → Member k (bs ++ cs) ⊎ (Member k given ⊎ (taken_in world ≤ k))
      wide k (inl a) = inl (kept_within k a)
      wide k (inr q) = inr q

      far_first : Apart o.at.base s.first
      far_first = (cells_clear (o ∷ os) (bs ++ cs) (bs ++ cs) given s.first (a_cell c rest) clear far_given
          (λ k n. wide k (came k (in_first k s.first s.second n)))).0

      cl : Closed o bs op.ks s.first after
      cl = op.close os cs given s.first after (record {
        part_stays = stays.part;
        row_stays = stays.row;
        block_stays = stays.block;
        other = others.0;
        clear = clear_less (bs ++ cs) bs os (λ k n. in_first k bs cs n) clear.1;
        both = not_both;
        cells = s.cells;
        distinct = distinct_first s.first s.second split;
        far = λ k e n. either_block k given (op.ks ++ cs) ⊥ n (λ q. far_given.0 k e q) (λ q. clear.0 k e (kept_within k q));
        apart = far_first;
        came = λ k n. came k (in_first k s.first s.second n);
        strange = strange;
      })

      kids_in : (k : ℕ) → Member k s.first ⊎ (Member k bs × (Member k op.ks → ⊥)) →
          Member k t.blocks ⊎ (Member k (bs ++ cs) × (Member k (op.ks ++ cs) → ⊥))
      kids_in k (inl q) = inl (subst (λ ds. Member k ds) (sym s.is) (in_first k s.first s.second q))
      kids_in k (inr q) = inr (in_first k bs cs q.0, λ z. either_block k op.ks cs ⊥ z (λ y. q.1 y) (λ y. not_both k q.0 y))

      too_far : (k : ℕ) → k < taken_in world → taken_in world ≤ k → ⊥
      too_far k less le = omega (arith, less, le)

      not_kept : (k : ℕ) → Member k bs → (Member k op.ks → ⊥) → Member k (op.ks ++ cs) ⊎ (Member k given ⊎ (taken_in world ≤ k)) → ⊥
      not_kept k a out (inl n) = either_block k op.ks cs ⊥ n out (λ q. not_both k a q)
      not_kept k a out (inr (inl g)) = strange k g (in_first k bs cs a)
      not_kept k a out (inr (inr le)) = too_far k (has_below c.has k a) le

      still_there : (k : ℕ) → Member k (op.ks ++ cs) → Member k s.first ⊎ (Member k bs × (Member k op.ks → ⊥)) → Member k (s.first ++ s.second)
      still_there k b (inl q) = in_first k s.first s.second q
      still_there k b (inr q) = absurd (either_block k op.ks cs ⊥ b q.1 (λ z. not_both k q.0 z))

      lies_apart : (k : ℕ) → Member k s.second → Member k s.first ⊎ (Member k bs × (Member k op.ks → ⊥)) → ⊥
      lies_apart k b (inl a) = distinct_apart k s.first s.second split a b
      lies_apart k b (inr a) = not_kept k a.0 a.1 (came k (in_second k s.first s.second b))

      from_kids : (k : ℕ) → Member k s.first ⊎ (Member k bs × (Member k op.ks → ⊥)) → Member k (bs ++ cs) ⊎ (Member k given ⊎ (taken_in world ≤ k))
      from_kids k (inl a) = wide k (came k (in_first k s.first s.second a))
      from_kids k (inr a) = inl (in_first k bs cs a.0)

      came_all : (k : ℕ) → Member k (cl.blocks ++ s.second) → Member k (bs ++ cs) ⊎ (Member k given ⊎ (taken_in world ≤ k))
      came_all k n = either_block k cl.blocks s.second (Member k (bs ++ cs) ⊎ (Member k given ⊎ (taken_in world ≤ k))) n (λ a. from_kids k (cl.from k a))
          (λ b. wide k (came k (in_second k s.first s.second b)))

  closed_moves : {comes goes : ℕ → ℕ} (given : List ℕ) (after : World) → Strange given (bs ++ cs) → ClearOf given (o ∷ os) →
      (m : MovesWith comes goes (kids ++ os) given (op.ks ++ cs) world after) →
      Back comes goes (o ∷ os) given (bs ++ cs) (op.ks ++ cs) m.territory.blocks world after
  closed_moves given after strange far_given m =
      let z = shut given after strange far_given m.territory m.came (record {
        part = λ v h other far. m.alone.parts o.at v h other far;
        row = λ n h leave far. m.alone.rows o.at n h leave far;
        block = λ k n h leave far. m.alone.rows (row_of o.at k) n h leave far;
      }) in
      record {
        moves = record {
          territory = z.territory;
          came = z.came;
          grows = m.grows;
          loses = λ k. omega (arith, m.loses k, z.sum k);
          alone = record {
            bases = λ b x h off far. m.alone.bases b x h
                (all_both (λ p. b ≡ p.at.base → ⊥) kids os (op.no_base b off.0 (λ k e n. far k e (in_second k given (bs ++ cs) (in_first k bs cs n)))) off.1)
                (λ k e n. far k e (wide_in k n));
            parts = λ l x h other far. m.alone.parts l x h
                (all_both (λ p. OtherPart p.at l) kids os (op.other l other.0 (λ k e n. far k e (in_second k given (bs ++ cs) (in_first k bs cs n)))) other.1)
                (λ k e n. far k e (wide_in k n));
            rows = λ l n h leave far. m.alone.rows l n h
                (all_both (λ p. OtherPart p.at l ⊎ IsUnder p.at l) kids os
                (op.leave l leave.0 (λ k e n. far k e (in_second k given (bs ++ cs) (in_first k bs cs n)))) leave.1)
                (λ k e n. far k e (wide_in k n));
            stays = m.alone.stays;
          };
        };
        into = z.into;
        without = z.without;
      }
    where
      wide_in : (k : ℕ) → Member k (given ++ (op.ks ++ cs)) → Member k (given ++ (bs ++ cs))
      wide_in k n = either_block k given (op.ks ++ cs) (Member k (given ++ (bs ++ cs))) n (λ q. in_first k given (bs ++ cs) q)
          (λ q. in_second k given (bs ++ cs) (kept_within k q))

  -- where a part of a body works on them meanwhile
  pub closed_runs : (inner : Region) (after : World) → IsOutside inner o.at.base → Runs inner [] (kids ++ os) [] (op.ks ++ cs) world after →
      Runs inner [] (o ∷ os) [] (bs ++ cs) world after
  closed_runs inner after out r =
      let z = shut [] after (λ k m n. elim m [ ]) (none_clear (o ∷ os)) r.territory r.came (record {
        part = λ v h other far. r.passes.parts o.at v h out other far;
        row = λ n h leave far. r.passes.rows o.at n h out leave far;
        block = λ k n h leave far. r.passes.rows (row_of o.at k) n h tt leave far;
      }) in
      record {
        territory = z.territory;
        own = tt;
        came = z.came;
        loses = λ k. omega (arith, r.loses k, z.sum k);
        passes = record {
          bases = λ b x h there off far. r.passes.bases b x h there
              (all_both (λ p. b ≡ p.at.base → ⊥) kids os (op.no_base b off.0 (λ k e n. far k e (in_first k bs cs n))) off.1)
              (λ k e n. far k e (kept_within k n));
          parts = λ l x h there other far. r.passes.parts l x h there
              (all_both (λ p. OtherPart p.at l) kids os (op.other l other.0 (λ k e n. far k e (in_first k bs cs n))) other.1)
              (λ k e n. far k e (kept_within k n));
          rows = λ l n h there leave far. r.passes.rows l n h there
              (all_both (λ p. OtherPart p.at l ⊎ IsUnder p.at l) kids os (op.leave l leave.0 (λ k e n. far k e (in_first k bs cs n))) leave.1)
              (λ k e n. far k e (kept_within k n));
          grows = r.passes.grows;
          hand = r.passes.hand;
          names = r.passes.names;
          active = r.passes.active;
          count = r.passes.count;
        };
      }

  pub works_opened : Works (o ∷ os) (kids ++ os) (bs ++ cs) world
  works_opened = record {
    territory = opened;
    within = kept_within;
    clear = λ given far c. all_both (λ p. Apart p.at.base given) kids os (op.given_clear given (λ k m n. far k m (in_first k bs cs n)) c.0) c.1;
    back = λ given after far c m. closed_moves given after far c m;
  }
