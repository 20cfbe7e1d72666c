-- A part of a part: what else the whole has stays as it is meanwhile.
use Rattle.std.proofs.Common.{◌≡◌, true, refl, sym, ap, subst, ◌∙◌, arith, ℕ, ◌<◌, ◌≤◌, inl, inr, ◌⊎◌, List, [], ◌∷◌, ◌++◌, ◌+◌}
use Rattle.nim_types.specs.Forms.{Form}
use Rattle.nim_meaning.specs.Values.{Value, InBlock}
use Rattle.nim_meaning.specs.Marks.{Member, Distinct}
use Rattle.nim_meaning.specs.State.{World}
use Rattle.holders.specs.Owned.{Apart, Active}
use Rattle.holders.specs.Becoming.{taken_in, times, LosesNone}
use Rattle.holders.specs.Beside.{OtherPart, other_base}
use Rattle.holders.specs.Territory.{Owner, Cells, no_cells, a_cell, AllOwners, OtherThan, ClearOf, Territory, IsUnder}
use Rattle.holders.specs.Running.{Region, IsOutside, Passes, AreOwn, Wider}
use Rattle.holders.specs.Staging.{Stage, Holding, StageWith}
use Rattle.holders.proofs.Owning.{in_first, in_second, distinct_first, distinct_second, distinct_apart, has_stays}
use Rattle.holders.proofs.Ending.{same_number}
use Rattle.holders.proofs.Copying.{distinct_both, either_block}
use Rattle.holders.proofs.Moving.{other_back, clear_less, cells_below, cells_clear}
use Rattle.holders.proofs.PlainRows.{none_clear}
use Rattle.holders.proofs.Working.{all_both, all_first, all_second, all_so, apart_first, apart_second, apart_across, apart_both, CellsApart, cells_apart}
use Rattle.holders.proofs.Working.{cells_both}
use Rattle.holders.proofs.Running.{not_own, other_own, leave_own, passes_then, passes_same}
use Rattle.holders.proofs.Ledger.{times_both}

-- ---- regions

pub own_wider : {r inner : Region} → Wider r inner → (ms : List Owner) → AreOwn inner ms → AreOwn r ms
own_wider {r} {inner} w ms own = all_so (λ m. IsOutside inner m.at.base → ⊥) (λ m. IsOutside r m.at.base → ⊥) ms (λ m h q. h (w.outside m.at.base q)) own

-- what a part leaves, the whole leaves, of which it had some cells for its own, and had fewer blocks
pub passes_wider : {r inner : Region} (ks : List Owner) {gs : List Owner} {old more : List ℕ} {world after : World} → Wider r inner → AreOwn r ks →
    ((k : ℕ) → Member k old → Member k more) → Passes inner (ks ++ gs) old world after → Passes r gs more world after
passes_wider {r} {inner} ks {gs} w own within p = record {
  bases = λ b x h out off far. p.bases b x h (w.outside b out) (all_both (λ m. b ≡ m.at.base → ⊥) ks gs (not_own r b ks out own) off)
      (λ k e m. far k e (within k m));
  parts = λ l v h out other far. p.parts l v h (w.outside l.base out) (all_both (λ m. OtherPart m.at l) ks gs (other_own r l ks out own) other)
      (λ k e m. far k e (within k m));
  rows = λ l n h out leave far. p.rows l n h (w.outside l.base out)
      (all_both (λ m. OtherPart m.at l ⊎ IsUnder m.at l) ks gs (leave_own r l ks out own) leave) (λ k e m. far k e (within k m));
  grows = p.grows;
  hand = p.hand;
  names = λ l n to h there. p.names l n to h (narrow l n there);
  active = λ l first places nodes less h. p.active l first places nodes (subst (λ m. l < m) (sym w.level) less) h;
  count = p.count;
}
  where
    narrow : (l n : ℕ) → (l < r.level) ⊎ ((l ≡ r.level) × (r.places n ≡ true → ⊥)) → (l < inner.level) ⊎ ((l ≡ inner.level) × (inner.places n ≡ true → ⊥))
    narrow l n (inl less) = inl (subst (λ m. l < m) (sym w.level) less)
    narrow l n (inr q) = inr (q.0 ∙ sym w.level, λ h. q.1 (w.places n h))

-- ---- cells that the part took for its own

owners_assoc : (ms ks gs : List Owner) → ms ++ (ks ++ gs) ≡ (ms ++ ks) ++ gs
owners_assoc [] ks gs = refl
owners_assoc (m ∷ ms) ks gs = ap (λ (ps : List Owner). m ∷ ps) (owners_assoc ms ks gs)

pub record There (out : ℕ → ℕ) (ps : List Owner) (old : List ℕ) (start now : World) : Type 0 where
  pub territory : Territory ps now
  pub came : (k : ℕ) → Member k territory.blocks → Member k old ⊎ (Member k [] ⊎ (taken_in start ≤ k))
  pub loses : LosesNone (λ k. times k old) (λ k. times k territory.blocks + out k) start now

pub absorbed : {out : ℕ → ℕ} {r inner : Region} {ms : List Owner}
    (ks : List Owner) {gs : List Owner} {first places : ℕ} {nodes old : List ℕ} {start now : World} →
    Wider r inner → AreOwn r ks →
    StageWith out inner ms (ks ++ gs) first places nodes old start now → StageWith out r (ms ++ ks) gs first places nodes old start now
absorbed {out} {r} {inner} {ms} ks {gs} {first} {places} {nodes} {old} {start} {now} w own s =
    let t = subst (λ ps. There out ps old start now) (owners_assoc ms ks gs)
    (record { territory = s.runs.territory; came = s.runs.came; loses = λ k. omega (arith, s.runs.loses k) }) in
    record {
      runs = record {
        territory = t.territory;
        own = all_both (λ m. IsOutside r m.at.base → ⊥) ms ks (own_wider w ms s.runs.own) own;
        came = t.came;
        loses = λ k. omega (arith, t.loses k);
        passes = passes_wider ks w own (λ k m. m) s.runs.passes;
      };
      active = subst (λ l. Active now.frames l first places nodes) w.level s.active;
    }

-- ---- cells that wait meanwhile

-- A territory whose first cells wait, while a part works on others: some of them its own.
module _ (ms ts gs : List Owner) (world : World) (t : Territory (ms ++ (ts ++ gs)) world) where
  abbrev pub pieces : CellsApart ms (ts ++ gs) t.blocks world
  pieces = cells_apart ms (ts ++ gs) t.blocks t.cells

  pub in_others : (k : ℕ) → Member k pieces.second → Member k t.blocks
  in_others k m = subst (λ ds. Member k ds) (sym pieces.is) (in_second k pieces.first pieces.second m)

  in_these : (k : ℕ) → Member k pieces.first → Member k t.blocks
  in_these k m = subst (λ ds. Member k ds) (sym pieces.is) (in_first k pieces.first pieces.second m)

  pub split : Distinct (pieces.first ++ pieces.second)
  split = subst (λ (ds : List ℕ). Distinct ds) pieces.is t.distinct

  -- the others alone
  abbrev pub others_alone : Territory (ts ++ gs) world
  others_alone = record {
    blocks = pieces.second;
    cells = pieces.others;
    distinct = distinct_second pieces.first pieces.second split;
    others = apart_second ms (ts ++ gs) t.others;
    clear = clear_less t.blocks pieces.second (ts ++ gs) in_others (all_second (λ o. Apart o.at.base t.blocks) ms (ts ++ gs) t.clear);
  }

  -- of those that were given
  of_given : (P : Owner → Type 0) → AllOwners P (ms ++ (ts ++ gs)) → AllOwners P gs
  of_given P h = all_second P ts gs (all_second P ms (ts ++ gs) h)

  across : AllOwners (λ g. OtherThan g.at ms) gs
  across = all_second (λ g. OtherThan g.at ms) ts gs (apart_across ms (ts ++ gs) t.others)

  module _ (inner : Region) (after : World) (p : Passes inner gs pieces.second world after) where
    -- they stay
    waiting_stay : (qs : List Owner) (cs : List ℕ) → Cells world qs cs → AllOwners (λ q. IsOutside inner q.at.base) qs → AllOwners (λ q. OtherThan q.at gs) qs →
        ClearOf pieces.second qs → ClearOf cs gs → ((k : ℕ) → Member k cs → Member k pieces.second → ⊥) → Cells after qs cs
    waiting_stay [] _ no_cells out other clear far both = no_cells
    waiting_stay (q ∷ qs) _ (a_cell {w = w} {v = v} {bs = bs} {cs = cs} c rest) out other clear far both =
        let s = p.parts q.at v (record { whole = w; at = c.at; is = c.is }) out.0 other.0 clear.0 in
        a_cell {w = s.whole} {v = v} {bs = bs} {cs = cs} (record {
          at = s.at;
          is = s.is;
          has = has_stays world after (λ k x m is. p.bases (InBlock k) x is tt
              (all_so (λ o. Apart o.at.base (bs ++ cs)) (λ o. InBlock k ≡ o.at.base → ⊥) gs (λ o h e. h k (sym e) (in_first k bs cs m)) far)
              (λ j e n. both k (in_first k bs cs m) (subst (λ i. Member i pieces.second) (sym (same_number k j e)) n))) c.has;
          distinct = c.distinct;
          apart = c.apart;
        }) (waiting_stay qs cs rest out.1 other.1 clear.1 (clear_less (bs ++ cs) cs gs (λ k m. in_second k bs cs m) far)
        (λ k m. both k (in_second k bs cs m)))

    -- with the part's own that there are then
    module _ (ns : List Owner) (u : Territory (ns ++ gs) after)
        (came : (k : ℕ) → Member k u.blocks → Member k pieces.second ⊎ (Member k [] ⊎ (taken_in world ≤ k)))
        (outside : AllOwners (λ m. IsOutside inner m.at.base) ms) (own : AreOwn inner ns) where
      too_far : (k : ℕ) → k < taken_in world → taken_in world ≤ k → ⊥
      too_far k less le = omega (arith, less, le)

      -- no block of what waits is one of the others
      no_block : (k : ℕ) → Member k pieces.first → Member k pieces.second ⊎ (Member k [] ⊎ (taken_in world ≤ k)) → ⊥
      no_block k a (inl b) = distinct_apart k pieces.first pieces.second split a b
      no_block k a (inr (inl b)) = elim b [ ]
      no_block k a (inr (inr le)) = too_far k (cells_below ms pieces.first pieces.cells k a) le

      came_all : (k : ℕ) → Member k (pieces.first ++ u.blocks) → Member k t.blocks ⊎ (Member k [] ⊎ (taken_in world ≤ k))
      came_all k m = either_block k pieces.first u.blocks (Member k t.blocks ⊎ (Member k [] ⊎ (taken_in world ≤ k))) m (λ a. inl (in_these k a))
          (λ a. wide (came k a))
        where
          wide : Member k pieces.second ⊎ (Member k [] ⊎ (taken_in world ≤ k)) → Member k t.blocks ⊎ (Member k [] ⊎ (taken_in world ≤ k))
          wide (inl b) = inl (in_others k b)
          wide (inr q) = inr q

      -- what is the part's own lies beside what waits
      beside_one : (n : Owner) → (IsOutside inner n.at.base → ⊥) → (qs : List Owner) → AllOwners (λ q. IsOutside inner q.at.base) qs → OtherThan n.at qs
      beside_one n h [] outs = tt
      beside_one n h (q ∷ qs) outs = (other_base (λ e. h (subst (λ b. IsOutside inner b) (sym e) outs.0)), beside_one n h qs outs.1)

      beside : (os : List Owner) → AreOwn inner os → AllOwners (λ n. OtherThan n.at ms) os
      beside [] h = tt
      beside (n ∷ os) h = (beside_one n h.0 ms outside, beside os h.1)

      -- each that waits lies beside those that were given
      turn : (qs : List Owner) → AllOwners (λ g. OtherThan g.at qs) gs → AllOwners (λ q. OtherThan q.at gs) qs
      turn [] h = tt
      turn (m ∷ qs) h = (
        all_so (λ g. OtherThan g.at (m ∷ qs)) (λ g. OtherPart g.at m.at) gs (λ g q. other_back q.0) h,
        turn qs (all_so (λ g. OtherThan g.at (m ∷ qs)) (λ g. OtherThan g.at qs) gs (λ g q. q.1) h),
      )

      -- what is the part's own isn't in a block
      clear_new : (os : List Owner) → AreOwn inner os → ClearOf (pieces.first ++ u.blocks) os
      clear_new [] h = tt
      clear_new (m ∷ os) h = (λ k e q. h.0 (subst (λ b. IsOutside inner b) (sym e) tt), clear_new os h.1)

      -- the given ones stand in no new block
      given_clear : ClearOf (pieces.first ++ u.blocks) gs
      given_clear =
          let g = cells_apart ts gs pieces.second pieces.others in
          cells_clear gs g.second t.blocks [] (pieces.first ++ u.blocks) g.others (of_given (λ o. Apart o.at.base t.blocks) t.clear) (none_clear gs) came_all

      pub with_waiting : {out : ℕ → ℕ} → LosesNone (λ k. times k pieces.second) (λ k. times k u.blocks + out k) world after →
          There out (ms ++ (ns ++ gs)) t.blocks world after
      with_waiting loses = record {
        came = came_all;
        loses = λ k. omega (arith, loses k, ap (times k) pieces.is, times_both k pieces.first pieces.second, times_both k pieces.first u.blocks);
        territory = record {
          blocks = pieces.first ++ u.blocks;
          cells = cells_both ms (ns ++ gs) pieces.first u.blocks
              (waiting_stay ms pieces.first pieces.cells outside (turn ms across) (clear_less t.blocks pieces.second ms in_others
              (all_first (λ o. Apart o.at.base t.blocks) ms (ts ++ gs) t.clear))
              (clear_less t.blocks pieces.first gs in_these (of_given (λ o. Apart o.at.base t.blocks) t.clear))
              (λ k a b. distinct_apart k pieces.first pieces.second split a b)) u.cells;
          distinct = distinct_both pieces.first u.blocks (distinct_first pieces.first pieces.second split) u.distinct (λ k a b. no_block k a (came k b));
          others = apart_both ms (ns ++ gs) (apart_first ms (ts ++ gs) t.others) u.others
              (all_both (λ q. OtherThan q.at ms) ns gs (beside ns own) across);
          clear = all_both (λ o. Apart o.at.base (pieces.first ++ u.blocks)) ms (ns ++ gs)
              (cells_clear ms pieces.first t.blocks [] (pieces.first ++ u.blocks) pieces.cells
              (all_first (λ o. Apart o.at.base t.blocks) ms (ts ++ gs) t.clear) (none_clear ms) came_all)
              (all_both (λ o. Apart o.at.base (pieces.first ++ u.blocks)) ns gs (clear_new ns own) given_clear);
        };
      }

-- a part begins, with these cells for its own
pub stage_begins : {inner : Region} {ts gs : List Owner} {first places : ℕ} {nodes : List ℕ} {now : World} (t : Territory (ts ++ gs) now) → AreOwn inner ts →
    Active now.frames inner.level first places nodes → Stage inner ts gs first places nodes t.blocks now now
stage_begins {inner} {ts} {gs} {now = now} t own active = record {
  runs = record { territory = t; own = own; came = λ k m. inl m; passes = passes_same inner gs t.blocks now; loses = λ k. omega arith };
  active = active;
}

-- a part of it after what came before, of which some cells wait, and others are the part's own
pub stage_framed : {out : ℕ → ℕ} {r inner : Region} (ms ts : List Owner) {ns gs : List Owner} {first places : ℕ} {more old : List ℕ} {start mid last : World} →
    Wider r inner →
    AreOwn r ms → (t : Territory (ms ++ (ts ++ gs)) mid) → ((k : ℕ) → Member k t.blocks → Member k old ⊎ (Member k [] ⊎ (taken_in start ≤ k))) →
    Passes r gs old start mid → LosesNone (λ k. times k old) (λ k. times k t.blocks) start mid → AllOwners (λ m. IsOutside inner m.at.base) ms →
    StageWith out inner ns gs first places more (others_alone ms ts gs mid t).blocks mid last → StageWith out r (ms ++ ns) gs first places more old start last
stage_framed {out} {r} {inner} ms ts {ns} {gs} {first} {places} {more} {old} {start} {mid} {last} w own t came passes loses outside u =
    let all = with_waiting ms ts gs mid t inner last u.runs.passes ns u.runs.territory u.runs.came outside u.runs.own {out = out}
    (λ k. omega (arith, u.runs.loses k)) in
    let there = subst (λ ps. There out ps old start last) (owners_assoc ms ns gs)
    (record { territory = all.territory; came = λ k m. further k (all.came k m); loses = λ k. omega (arith, loses k, all.loses k) }) in
    record {
      runs = record {
        territory = there.territory;
        own = all_both (λ m. IsOutside r m.at.base → ⊥) ms ns own (own_wider w ns u.runs.own);
        came = there.came;
        loses = λ k. omega (arith, there.loses k);
        passes = passes_then passes came (passes_wider [] w tt (in_others ms ts gs mid t) u.runs.passes);
      };
      active = subst (λ l. Active last.frames l first places more) w.level u.active;
    }
  where
    later : (k : ℕ) → taken_in mid ≤ k → taken_in start ≤ k
    later k le = omega (arith, le, passes.grows)

    further : (k : ℕ) → Member k t.blocks ⊎ (Member k [] ⊎ (taken_in mid ≤ k)) → Member k old ⊎ (Member k [] ⊎ (taken_in start ≤ k))
    further k (inl m) = came k m
    further k (inr (inl m)) = elim m [ ]
    further k (inr (inr le)) = inr (inr (later k le))

-- ---- a value comes out of a part of a part

record ThereWith (out : ℕ → ℕ) (ps : List Owner) (blocks old : List ℕ) (start now : World) : Type 0 where
  territory : Territory ps now
  came : (k : ℕ) → Member k territory.blocks → Member k old ⊎ (Member k [] ⊎ (taken_in start ≤ k))
  same : territory.blocks ≡ blocks
  loses : LosesNone (λ k. times k old) (λ k. times k territory.blocks + out k) start now

-- and which blocks there are then
record StageThere (out : ℕ → ℕ) (r : Region) (ms gs : List Owner) (first places : ℕ) (nodes old blocks : List ℕ) (start now : World) : Type 0 where
  stage : StageWith out r ms gs first places nodes old start now
  same : stage.runs.territory.blocks ≡ blocks

module _ (r inner : Region) (ms gs : List Owner) (old : List ℕ) (start mid : World) (w : Wider r inner)
    (own : AreOwn r ms) (t : Territory (ms ++ gs) mid) (came : (k : ℕ) → Member k t.blocks → Member k old ⊎ (Member k [] ⊎ (taken_in start ≤ k)))
    (passes : Passes r gs old start mid) (loses : LosesNone (λ k. times k old) (λ k. times k t.blocks) start mid)
    (outside : AllOwners (λ m. IsOutside inner m.at.base) ms) where
  later : (k : ℕ) → taken_in mid ≤ k → taken_in start ≤ k
  later k le = omega (arith, le, passes.grows)

  further : (k : ℕ) → Member k t.blocks ⊎ (Member k [] ⊎ (taken_in mid ≤ k)) → Member k old ⊎ (Member k [] ⊎ (taken_in start ≤ k))
  further k (inl m) = came k m
  further k (inr (inl m)) = elim m [ ]
  further k (inr (inr le)) = inr (inr (later k le))

  framed_with : {out : ℕ → ℕ} {ns : List Owner} {first places : ℕ} {more : List ℕ} {last : World}
      (u : StageWith out inner ns gs first places more (others_alone ms [] gs mid t).blocks mid last) →
      StageThere out r (ms ++ ns) gs first places more old ((pieces ms [] gs mid t).first ++ u.runs.territory.blocks) start last
  unfolding with_waiting
  framed_with {out} {ns} {first} {places} {more} {last} u =
      let all = with_waiting ms [] gs mid t inner last u.runs.passes ns u.runs.territory u.runs.came outside u.runs.own {out = out}
      (λ k. omega (arith, u.runs.loses k)) in
      let blocks = (pieces ms [] gs mid t).first ++ u.runs.territory.blocks in
      let there = subst (λ ps. ThereWith out ps blocks old start last) (owners_assoc ms ns gs)
      (record {
        territory = all.territory;
        came = λ k m. further k (all.came k m);
        same = refl;
        loses = λ k. omega (arith, loses k, all.loses k);
      }) in
      record {
        stage = record {
          runs = record {
            territory = there.territory;
            own = all_both (λ m. IsOutside r m.at.base → ⊥) ms ns own (own_wider w ns u.runs.own);
            came = there.came;
            loses = λ k. omega (arith, there.loses k);
            passes = passes_then passes came (passes_wider [] w tt (in_others ms [] gs mid t) u.runs.passes);
          };
          active = subst (λ l. Active last.frames l first places more) w.level u.active;
        };
        same = there.same;
      }

  pub holding_framed : {f : Form} {v : Value} {ns : List Owner} {first places : ℕ} {more : List ℕ} {last : World} →
      Holding f v inner ns gs first places more (others_alone ms [] gs mid t).blocks mid last →
      Holding f v r (ms ++ ns) gs first places more old start last
  holding_framed {ns = ns} h =
      let fs = framed_with h.stage in
      let p = pieces ms [] gs mid t in
      record {
        out = h.out;
        stage = fs.stage;
        out_is = h.out_is;
        under = record {
          given = h.under.given;
          has = h.under.has;
          distinct = h.under.distinct;
          strange = λ k m n. either_block k p.first h.stage.runs.territory.blocks ⊥ (subst (λ ds. Member k ds) fs.same n) (λ q. waits k q (h.came k m))
              (λ q. h.under.strange k m q);
          clear = all_both (λ o. Apart o.at.base h.under.given) (ms ++ ns) gs
              (all_both (λ o. Apart o.at.base h.under.given) ms ns
              (cells_clear ms p.first t.blocks [] h.under.given p.cells (all_first (λ o. Apart o.at.base t.blocks) ms gs t.clear) (none_clear ms)
              (λ k m. wide k (h.came k m)))
              (all_first (λ o. Apart o.at.base h.under.given) ns gs h.under.clear))
              (all_second (λ o. Apart o.at.base h.under.given) ns gs h.under.clear);
        };
        came = λ k m. from k (h.came k m);
      }
    where
      too_far : (k : ℕ) → k < taken_in mid → taken_in mid ≤ k → ⊥
      too_far k less le = omega (arith, less, le)

      waits : (k : ℕ) → Member k (pieces ms [] gs mid t).first → Member k (others_alone ms [] gs mid t).blocks ⊎ (taken_in mid ≤ k) → ⊥
      waits k q (inl m) = distinct_apart k (pieces ms [] gs mid t).first (pieces ms [] gs mid t).second (split ms [] gs mid t) q m
      waits k q (inr le) = too_far k (cells_below ms (pieces ms [] gs mid t).first (pieces ms [] gs mid t).cells k q) le

      wide : (k : ℕ) → Member k (others_alone ms [] gs mid t).blocks ⊎ (taken_in mid ≤ k) → Member k t.blocks ⊎ (Member k [] ⊎ (taken_in mid ≤ k))
      wide k (inl m) = inl (in_others ms [] gs mid t k m)
      wide k (inr le) = inr (inr le)

      simple : (k : ℕ) → Member k old ⊎ (Member k [] ⊎ (taken_in start ≤ k)) → Member k old ⊎ (taken_in start ≤ k)
      simple k (inl m) = inl m
      simple k (inr (inl m)) = elim m [ ]
      simple k (inr (inr le)) = inr le

      from : (k : ℕ) → Member k (others_alone ms [] gs mid t).blocks ⊎ (taken_in mid ≤ k) → Member k old ⊎ (taken_in start ≤ k)
      from k (inl m) = simple k (came k (in_others ms [] gs mid t k m))
      from k (inr le) = inr (later k le)
