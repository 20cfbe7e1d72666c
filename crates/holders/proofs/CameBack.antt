-- What a call leaves of the cells that it worked on is brought to all others, and to the part that called.
use Rattle.std.proofs.Common.{arith, ℕ, ◌<◌, ◌≤◌, inl, inr, ◌⊎◌, List, [], ◌++◌, Option, ◌≡◌, ◌+◌}
use Rattle.nim_types.specs.Forms.{Form}
use Rattle.nim_meaning.specs.Values.{Value}
use Rattle.nim_meaning.specs.Marks.{Member}
use Rattle.nim_meaning.specs.State.{World}
use Rattle.holders.specs.Becoming.{taken_in, Strange, times, none}
use Rattle.holders.specs.Territory.{Owner, ClearOf, Territory, MovesWith}
use Rattle.holders.specs.Working.{Works}
use Rattle.holders.specs.Handing.{UnderWay}
use Rattle.holders.specs.Running.{Region}
use Rattle.holders.specs.Staging.{Holding, StageWith}
use Rattle.holders.specs.Called.{CameBack, without_value, with_value, CallGives, gives_nothing, gives_value}
use Rattle.holders.proofs.Owning.{in_first, in_second}
use Rattle.holders.proofs.Moving.{cells_clear, cells_below}
use Rattle.holders.proofs.Running.{moves_run}
use Rattle.holders.proofs.Staging.{goes_on}

wide : (given old : List ℕ) (k : ℕ) → Member k given ⊎ Member k old → Member k (given ++ old)
wide given old k (inl m) = in_first k given old m
wide given old k (inr m) = in_second k given old m

came_of : (given old old2 : List ℕ) (world : World) (k : ℕ) → (Member k old2 → Member k given ⊎ Member k old) →
    Member k old2 ⊎ (Member k [] ⊎ (taken_in world ≤ k)) → Member k old ⊎ (Member k given ⊎ (taken_in world ≤ k))
came_of given old old2 world k into (inl m) = by (into m)
  where
    by : Member k given ⊎ Member k old → Member k old ⊎ (Member k given ⊎ (taken_in world ≤ k))
    by (inl q) = inr (inl q)
    by (inr q) = inl q
came_of given old old2 world k into (inr (inl m)) = elim m [ ]
came_of given old old2 world k into (inr (inr le)) = inr (inr le)

abbrev moves_given : {goes : ℕ → ℕ} {os : List Owner} (given old old2 : List ℕ) {world after : World} →
    ((k : ℕ) → Member k old2 → Member k given ⊎ Member k old) → ((k : ℕ) → times k old2 ≡ times k given + times k old) →
    MovesWith none goes os [] old2 world after → MovesWith (λ k. times k given) goes os given old world after
moves_given given old old2 {world} into sum m = record {
  territory = m.territory;
  came = λ k n. came_of given old old2 world k (into k) (m.came k n);
  grows = m.grows;
  loses = λ k. omega (arith, m.loses k, sum k);
  alone = record {
    bases = λ b x h off far. m.alone.bases b x h off (λ k e n. far k e (wide given old k (into k n)));
    parts = λ l v h other far. m.alone.parts l v h other (λ k e n. far k e (wide given old k (into k n)));
    rows = λ l n h leave far. m.alone.rows l n h leave (λ k e z. far k e (wide given old k (into k z)));
    stays = m.alone.stays;
  };
}

pub call_gives : {os ms : List Owner} {world : World} (t : Territory os world) (w : Works os ms t.blocks world) {f : Option Form}
    (given old2 : List ℕ) {v : Value}
    {after : World} → Strange given t.blocks → ClearOf given os → ((k : ℕ) → Member k old2 → Member k given ⊎ Member k w.territory.blocks) →
    ((k : ℕ) → times k old2 ≡ times k given + times k w.territory.blocks) → CameBack ms old2 world v after f → CallGives os given t.blocks world v after f
call_gives t w given old2 {after = after} strange clear into sum (without_value m e) =
    gives_nothing (w.back given after strange clear (moves_given given w.territory.blocks old2 into sum m)).moves e
call_gives {os} {ms} {world} t w given old2 {after = after} strange clear into sum (with_value h) =
    let r = w.back given after strange clear (moves_given given w.territory.blocks old2 into sum h.moves) in
    gives_value r.moves (record {
      given = h.value.given;
      has = h.value.has;
      distinct = h.value.distinct;
      strange = λ k m n. apart k m (r.into k n);
      clear = cells_clear os t.blocks t.blocks given h.value.given t.cells t.clear clear came;
    }) came h.goes_is
  where
    among_all : (k : ℕ) → Member k w.territory.blocks ⊎ (Member k given ⊎ (taken_in world ≤ k)) → Member k t.blocks ⊎ (Member k given ⊎ (taken_in world ≤ k))
    among_all k (inl m) = inl (w.within k m)
    among_all k (inr q) = inr q

    came : (k : ℕ) → Member k h.value.given → Member k t.blocks ⊎ (Member k given ⊎ (taken_in world ≤ k))
    came k m = among_all k (came_of given w.territory.blocks old2 world k (into k) (h.came k m))

    too_far : (k : ℕ) → k < taken_in world → taken_in world ≤ k → ⊥
    too_far k less le = omega (arith, less, le)

    beside : (k : ℕ) → Member k t.blocks → (Member k w.territory.blocks → ⊥) → Member k w.territory.blocks ⊎ (Member k given ⊎ (taken_in world ≤ k)) → ⊥
    beside k b not_mine (inl m) = not_mine m
    beside k b not_mine (inr (inl g)) = strange k g b
    beside k b not_mine (inr (inr le)) = too_far k (cells_below os t.blocks t.cells k b) le

    apart : (k : ℕ) → Member k h.value.given → Member k h.moves.territory.blocks ⊎ (Member k t.blocks × (Member k w.territory.blocks → ⊥)) → ⊥
    apart k m (inl q) = h.value.strange k m q
    apart k m (inr q) = beside k q.0 q.1 (came_of given w.territory.blocks old2 world k (into k) (h.came k m))

-- ---- in the part that called

module _ (r : Region) (gs : List Owner) (first places : ℕ) (old : List ℕ) (start : World) where
  abbrev pub stage_given : {goes : ℕ → ℕ} {ms : List Owner} {nodes given : List ℕ} {now after : World}
      (s : StageWith (λ k. times k given) r ms gs first places nodes old start now) →
      ((k : ℕ) → Member k given → Member k old ⊎ (taken_in start ≤ k)) →
      MovesWith (λ k. times k given) goes (ms ++ gs) given s.runs.territory.blocks now after → StageWith goes r ms gs first places nodes old start after
  stage_given {ms = ms} {nodes = nodes} s handed m = record {
    runs = goes_on r gs first places old start s.runs handed (moves_run r ms gs s.runs.own m);
    active = m.alone.stays.frames.active r.level first places nodes s.active;
  }

  pub holding_given : {goes : ℕ → ℕ} {f : Form} {v : Value} {ms : List Owner} {nodes given : List ℕ} {now after : World}
      (s : StageWith (λ k. times k given) r ms gs first places nodes old start now) → ((k : ℕ) → Member k given → Member k old ⊎ (taken_in start ≤ k)) →
      (m : MovesWith (λ k. times k given) goes (ms ++ gs) given s.runs.territory.blocks now after)
      (u : UnderWay f v (ms ++ gs) m.territory.blocks after) →
      ((k : ℕ) → Member k u.given → Member k s.runs.territory.blocks ⊎ (Member k given ⊎ (taken_in now ≤ k))) → ((k : ℕ) → times k u.given ≡ goes k) →
      Holding f v r ms gs first places nodes old start after
  holding_given {goes = goes} {given = given} {now = now} s handed m u came is = record {
    out = goes;
    stage = stage_given s handed m;
    under = u;
    came = λ k n. by k (came k n);
    out_is = is;
  }
    where
      simple : (k : ℕ) → Member k old ⊎ (Member k [] ⊎ (taken_in start ≤ k)) → Member k old ⊎ (taken_in start ≤ k)
      simple k (inl n) = inl n
      simple k (inr (inl n)) = elim n [ ]
      simple k (inr (inr le)) = inr le

      later : (k : ℕ) → taken_in now ≤ k → taken_in start ≤ k
      later k le = omega (arith, le, s.runs.passes.grows)

      by : (k : ℕ) → Member k s.runs.territory.blocks ⊎ (Member k given ⊎ (taken_in now ≤ k)) → Member k old ⊎ (taken_in start ≤ k)
      by k (inl n) = simple k (s.runs.came k n)
      by k (inr (inl n)) = handed k n
      by k (inr (inr le)) = inr (later k le)
