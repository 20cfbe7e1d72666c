-- A cell among others by its parts, while a part of a body works on these.
use Rattle.std.proofs.Common.{◌≡◌, subst, arith, ℕ, zero, suc, ◌+◌, ◌<◌, ◌≤◌, inl, inr, ◌⊎◌, List, [], ◌∷◌, ◌++◌}
use Rattle.nim_types.specs.Forms.{Form, Forms}
use Rattle.nim_meaning.specs.Values.{Location, deeper}
use Rattle.nim_meaning.specs.Marks.{Member, Distinct}
use Rattle.nim_meaning.specs.State.{World}
use Rattle.holders.specs.Owned.{Apart}
use Rattle.holders.specs.Becoming.{taken_in}
use Rattle.holders.specs.Beside.{OtherPart}
use Rattle.holders.specs.Territory.{Owner, Cells, a_cell, LieApart, ClearOf, Territory, IsUnder, Among, first_owner, later_owner}
use Rattle.holders.specs.Working.{Works, without}
use Rattle.holders.specs.Running.{Region, IsOutside, Runs}
use Rattle.holders.specs.Ways.{copies, part_owners, Opens}
use Rattle.holders.proofs.Moving.{clear_less}
use Rattle.holders.proofs.Working.{all_at, all_with, all_without, works_front, cells_return, front_often}
use Rattle.holders.proofs.Openings.{opening_of}
use Rattle.holders.proofs.Opening.{opened, closed_runs}

pub record OpenAt (inner : Region) (ps os : List Owner) (blocks : List ℕ) (world : World) : Type 0 where
  pub territory : Territory ps world
  pub closes : (after : World) → Runs inner [] ps [] territory.blocks world after → Runs inner [] os [] blocks world after

open_front : (inner : Region) {os : List Owner} {o : Owner} {world : World} {fs : Forms} {from : Location} (t : Territory (o ∷ os) world) →
    IsOutside inner o.at.base → Opens world o fs from → OpenAt inner (part_owners fs from 0 ++ os) (o ∷ os) t.blocks world
open_front inner {os} {o} {world} {fs} {from} t out opens = by t.blocks t.cells t.distinct t.others t.clear
  where
    by : (bs : List ℕ) → Cells world (o ∷ os) bs → Distinct bs → LieApart (o ∷ os) → ClearOf bs (o ∷ os) →
        OpenAt inner (part_owners fs from 0 ++ os) (o ∷ os) bs world
    by _ (a_cell {w = w} {v = v} {bs = bs} {cs = cs} c rest) d others clear =
        let kids = part_owners fs from 0 in
        let op = opening_of opens c in
        record {
          territory = opened o os world w v bs cs c rest d others clear kids op;
          closes = λ after r. closed_runs o os world w v bs cs c rest d others clear kids op inner after out r;
        }

-- one of them in front
turned : (inner : Region) {os : List Owner} {o : Owner} {world : World} (t : Territory os world) (i : Among os o) →
    OpenAt inner (o ∷ without i) os t.blocks world
turned inner {os} {o} {world} t i = record { territory = w.territory; closes = closed }
  where
    w : Works os (o ∷ without i) t.blocks world
    w = works_front i t

    closed : (after : World) → Runs inner [] (o ∷ without i) [] w.territory.blocks world after → Runs inner [] os [] t.blocks world after
    closed after r =
        let back = cells_return i r.territory.blocks r.territory.cells in
        let clear = clear_less r.territory.blocks back.blocks (o ∷ without i) back.order.into r.territory.clear in
        record {
          territory = record {
            blocks = back.blocks;
            cells = back.cells;
            distinct = back.order.distinct r.territory.distinct;
            others = t.others;
            clear = all_with (λ p. Apart p.at.base back.blocks) i clear.0 clear.1;
          };
          own = tt;
          came = λ k n. came k (r.came k (back.order.into k n));
          loses = λ k. omega (arith, r.loses k, back.order.as_often k, front_often i t k);
          passes = record {
            bases = λ b x h there off far. r.passes.bases b x h there
                (all_at (λ p. b ≡ p.at.base → ⊥) off i, all_without (λ p. b ≡ p.at.base → ⊥) i off) (λ k e n. far k e (w.within k n));
            parts = λ l v h there other far. r.passes.parts l v h there
                (all_at (λ p. OtherPart p.at l) other i, all_without (λ p. OtherPart p.at l) i other) (λ k e n. far k e (w.within k n));
            rows = λ l n h there leave far. r.passes.rows l n h there
                (all_at (λ p. OtherPart p.at l ⊎ IsUnder p.at l) leave i, all_without (λ p. OtherPart p.at l ⊎ IsUnder p.at l) i leave)
                (λ k e n. far k e (w.within k n));
            grows = r.passes.grows;
            hand = r.passes.hand;
            names = r.passes.names;
            active = r.passes.active;
            count = r.passes.count;
          };
        }
      where
        came : (k : ℕ) → Member k w.territory.blocks ⊎ (Member k [] ⊎ (taken_in world ≤ k)) →
            Member k t.blocks ⊎ (Member k [] ⊎ (taken_in world ≤ k))
        came k (inl a) = inl (w.within k a)
        came k (inr a) = inr a

pub open_at : (inner : Region) {os : List Owner} {o : Owner} {world : World} {fs : Forms} {from : Location} (t : Territory os world) (i : Among os o) →
    IsOutside inner o.at.base → Opens world o fs from → OpenAt inner (part_owners fs from 0 ++ without i) os t.blocks world
open_at inner t i out opens =
    let turn = turned inner t i in
    let front = open_front inner turn.territory out opens in
    record { territory = front.territory; closes = λ after r. turn.closes after (front.closes after r) }

-- nothing is opened
pub as_it_is : (inner : Region) {os : List Owner} {world : World} (t : Territory os world) → OpenAt inner os os t.blocks world
as_it_is inner t = record { territory = t; closes = λ after r. r }

-- an element is one of them
pub part_among : (n : ℕ) (f : Form) (l : Location) (j i : ℕ) → i < n → Among (part_owners (copies n f) l j) (record { form = f; at = deeper l (j + i) })
part_among zero f l j i less = absurd (omega (arith, less))
part_among (suc n) f l j zero less =
    subst (λ m. Among (part_owners (copies (suc n) f) l j) (record { form = f; at = deeper l m })) (same j) first_owner
  where
    same : (j : ℕ) → j ≡ j + zero
    same j = omega arith
part_among (suc n) f l j (suc i) less =
    subst (λ m. Among (part_owners (copies (suc n) f) l j) (record { form = f; at = deeper l m })) (same j i)
    (later_owner (part_among n f l (suc j) i (omega (arith, less))))
  where
    same : (j i : ℕ) → suc j + i ≡ j + suc i
    same j i = omega arith
