-- A line gives a value that waits as it is used: behind its own code the value is copied to where it waits.
use Rattle.std.proofs.Common.{◌≡◌, ℕ, ◌+◌, ◌*◌, ◌%◌, ◌^◌, ◌<◌, ◌≤◌, List, [], ◌∷◌, Bool, true, false, inl, inr}
use Rattle.word_lowering.proofs.ValueFacts.{value_plain}
use Rattle.word_lowering.proofs.FullValues.{stored_bytes}
use Rattle.word_lowering.proofs.SitesApart.{houses}
use Rattle.word_lowering.proofs.Keeping.{from_home}
use Rattle.std.proofs.Common.{Option, Some, None, refl, sym, ap, subst, ◌∙◌, arith, append-nil}
use Rattle.arc_base.specs.Event.{Event}
use Rattle.arc_base.specs.Simulation.{AreOf, Does, Steps}
use Rattle.arc_base.specs.Stepping.{Next, Goes, next_map}
use Rattle.arc_base.proofs.ForCallers.{steps_on}
use Rattle.nim_meaning.specs.Values.{Value, Holds, bytes}
use Rattle.nim_meaning.specs.State.{World, with_one_waiting}
use Rattle.nim_meaning.specs.Deeds.{Done, Answers, Finishes, Fails}
use Rattle.flat_code.specs.declared.block.BlockLine.{BlockLine}
use Rattle.flat_code.specs.Codes.{block_plain}
use Rattle.flat_code.specs.Running.{Counting, Going, Machine, Standing, onward, went}
use Rattle.flat_code.specs.Scene.{Passes, Temps}
use Rattle.flat_code.specs.Shapes.{Shape}
use Rattle.word_code.specs.declared.word.WordInstr.{WordInstr}
use Rattle.word_code.specs.Words.{WordState}
use Rattle.word_code.proofs.ForCallers.{at}
use Rattle.word_lowering.specs.declared.homes.Housed.{Housed}
use Rattle.word_lowering.specs.declared.homes.Waiter.{Waiter}
use Rattle.word_lowering.specs.LineCode.{behind_line, value}
use Rattle.word_lowering.specs.WaitingCode.{waiter_at, waits_code}
use Rattle.word_lowering.proofs.KeptCode.{value_waits}
use Rattle.word_lowering.proofs.Lines.{AreAt, Basis, Completes, IsGood, Settles, changed, going, lines_left, low_past, machine, pairs}
use Rattle.word_lowering.proofs.Lines.{starts}
use Rattle.word_lowering.proofs.Related.{Both, StandAt, store_of, body_of, code_behind, high, low, within}
use Rattle.word_lowering.proofs.Scenes.{IsThere, address_of, is_fixed, house, looked, of_value, of_waiting}
use Rattle.word_lowering.proofs.ShapeFacts.{of_numbers}
use Rattle.word_lowering.proofs.Sites.{Body, InMemory, Site, around}
use Rattle.word_lowering.proofs.WaitingLines.{waits}

-- the value of a temporary waits at a node, which costs its bytes
abbrev pub waiting_then : (level node : ℕ) → (events : List Event) → (work : ℕ) → Temps → World → Option Value → Done Temps
waiting_then level node es n temps world None = Answers es n temps world
waiting_then level node es n temps world (Some v) = Answers es (n + bytes v) temps (with_one_waiting world level node (Holds v))

abbrev pub kept_done : (to level node : ℕ) → Done Temps → Done Temps
kept_done to level node (Answers es n temps world) = waiting_then level node es n temps world (temps.values to)
kept_done to level node (Finishes es n status world) = Finishes es n status world
kept_done to level node (Fails es n world) = Fails es n world

-- a temporary of a call whose value waits at a node
pub record WaitsAt (x : Basis) (s : Site) (to node : ℕ) (w : Waiter) : Type 0 where
  pub is : waiter_at node s.body.own.waiters ≡ Some w
  pub is_there : IsThere s (of_value to)
  pub memory : InMemory (house s (of_value to)).home
  pub no_word : (house s (of_value to)).is_word ≡ false
  pub bytes : (house s (of_value to)).bytes ≡ w.bytes
  pub look : looked x.table s (of_value to) ≡ looked x.table s (of_waiting node)
  pub whole : w.bytes % 4 ≡ 0
  pub some : 4 ≤ w.bytes
  pub near : s.base + w.at < 2 ^ 32
  -- the value is of numbers, or has no shape that would be asked
  pub many : of_numbers (looked x.table s (of_waiting node)) ≡ false

-- a machine whose world is another one, if it counts
abbrev with_world : (World → World) → Counting BlockLine → Counting BlockLine
with_world f (Going units m) = Going units (record m { world = f m.world })
with_world f Standing = Standing

abbrev machine_in : Machine BlockLine → Counting BlockLine → Machine BlockLine
machine_in none (Going units m) = m
machine_in none Standing = none

abbrev is_going : Counting BlockLine → Bool
is_going (Going units m) = true
is_going Standing = false

no_standing : {A : Type 0} → false ≡ true → A
no_standing e = absurd cc

module _ (x : Basis) (g : Both) (line : BlockLine) (rest : List BlockLine) (y : IsGood x (starts g line rest)) (to node : ℕ) (w : Waiter)
    (may : WaitsAt x g.call.site to node w) (waiting : value_waits x.table (block_plain line) ≡ true)
    (code : (b : Body) (k : List WordInstr) → behind_line (around x.table x.blocks b) (block_plain line) k
    ≡ waits_code (waiter_at node b.own.waiters) (value (around x.table x.blocks b) to) k) where
  abbrev here : Both
  here = starts g line rest

  -- what is true behind the line's own code is true in front of it
  in_front : (g1 : Both) → IsGood x g1 → g1.call.site ≡ g.call.site → IsGood x (starts g1 line rest)
  in_front g1 z same = record {
    linked = z.linked;
    memory = z.memory;
    heap = z.heap;
    input = z.input;
    hold = z.hold;
    frames = z.frames;
    levels = z.levels;
    stands = subst (λ (s : Site). StandAt x.table x.blocks s.body (line ∷ rest)) (sym same) y.stands;
    waits = z.waits;
    answers = z.answers;
    idle = z.idle;
    fixed = z.fixed;
  }

  -- a value that waits has as many bytes as its home
  size_of_value : (g1 : Both) → IsGood x g1 → WaitsAt x g1.call.site to node w → (v : Value) → g1.call.temps.values to ≡ Some v → bytes v ≡ w.bytes
  size_of_value g1 z m v holds =
      let h : Housed = house g1.call.site (of_value to) in
      let s : Shape = looked x.table g1.call.site (of_value to) in
      let item = z.hold.0.items (of_value to) v m.is_there holds in
      let stored = from_home (store_of g1) g1.call.site.base g1.call.vars s h v (value_plain h m.is_there.kind) m.memory item.at in
      stored_bytes (is_fixed g1.ground) g1.ground.blocks g1.memory (address_of g1.call.site.base h.home) s v stored (item.shaped refl)
      ∙ ((houses x.table x.blocks g1.call.site (of_value to) z.linked.0 m.is_there).bytes ∙ m.bytes)

  module _ (es : List Event) (n : ℕ) (temps : Temps) (world : World) (v : Value) (has : temps.values to ≡ Some v) where
    abbrev world_then : World
    world_then = with_one_waiting world g.call.site.level node (Holds v)

    abbrev Then : ℕ × WordState → Type 0
    Then s = Does (machine x) (AreOf (pairs x)) (lines_left x) 256 s (going x here)
        (Goes es (n + bytes v) (Going g.units (onward (high x.table x.blocks here) rest temps world_then)))

    from_there : (before : ℕ × WordState) (least : ℕ) (g1 : Both) (z : IsGood x g1) (done : ℕ) → g1.call.site ≡ g.call.site
        → going x g1 ≡ Going g.units (onward (high x.table x.blocks here) rest temps world)
        → Steps (machine x) least before es (256 * n) (done, low_past x (line ∷ rest) g1) → Then before
    from_there before least g1 z done same is steps =
        let y1 : IsGood x (starts g1 line rest) = in_front g1 z same in
        let m : WaitsAt x g1.call.site to node w = subst (λ s. WaitsAt x s to node w) (sym same) may in
        let next : List WordInstr = code_behind x.table x.blocks (body_of g1) g1.rest in
        let machine_is : high x.table x.blocks g1 ≡ onward (high x.table x.blocks here) rest temps world
        = ap (machine_in (high x.table x.blocks g1)) is in
        let holds : g1.call.temps.values to ≡ Some v = ap (λ (k : Machine BlockLine). k.now.temps.values to) machine_is ∙ has in
        let r = waits x g1 line rest y1 node w m.is to
        (record { is_there = m.is_there; memory = m.memory; no_word = m.no_word; bytes = m.bytes; look = m.look }) v holds m.whole m.some m.near
        (λ numbers. no_standing (sym m.many ∙ numbers)) next in
        let g2 : Both = changed g1 g1.rest g1.call.temps r.vars r.memory r.words r.awaits (with_one_waiting g1.world g1.call.site.level node (Holds v)) in
        let good : IsGood x g2 = r.good g1.rest z.stands in
        let start : WordState = at (within x.table x.blocks g1) g1.memory (waits_code (Some w) (house g1.call.site (of_value to)) next) g1.call.vars
        g1.words in
        let start_is : low_past x (line ∷ rest) g1 ≡ start
        = ap (λ k. at (within x.table x.blocks g1) g1.memory k g1.call.vars g1.words) (code (body_of g1) next)
        ∙ ap (λ o. at (within x.table x.blocks g1) g1.memory (waits_code o (house g1.call.site (of_value to)) next) g1.call.vars g1.words) m.is in
        let rest_runs = r.runs.by x.fresh done in
        let all = steps_on (machine x) least r.steps (256 * n) r.steps before (done, start) (rest_runs.0, low x.table x.blocks g2) es []
        (subst (λ u. Steps (machine x) least before es (256 * n) (done, u)) start_is steps) rest_runs.1 in
        let few = r.few in
        let some = r.some in
        let size = size_of_value g1 z m v holds in
        let least_bytes = m.some in
        let level : g1.call.site.level ≡ g.call.site.level = ap (λ (s : Site). s.level) same in (
          (rest_runs.0, low x.table x.blocks g2),
          least + r.steps,
          subst (λ fs. Steps (machine x) (least + r.steps) before fs (256 * (n + bytes v)) (rest_runs.0, low x.table x.blocks g2)) (append-nil es)
              (record { work = all.work; within = (let h = all.within in omega (arith, h, few, size, least_bytes)); by = all.by }),
          (
            inl (g2, good, rest_runs.0),
            refl,
            subst (λ l. going x g2 ≡ Going g.units (onward (high x.table x.blocks here) rest temps (with_one_waiting world l node (Holds v)))) level
                (ap (with_world (λ u. with_one_waiting u g1.call.site.level node (Holds v))) is),
          ),
          inl (omega (arith, some)),
        )

    then_waits : (before : ℕ × WordState) → Does (machine x) (AreAt x (line ∷ rest) g.call.site) (lines_left x) 256 before (going x here)
        (Goes es n (Going g.units (onward (high x.table x.blocks here) rest temps world))) → Then before
    then_waits before d = by d.3 (d.2)
      where
        by : AreAt x (line ∷ rest) g.call.site d.0 (Going g.units (onward (high x.table x.blocks here) rest temps world))
            → Steps (machine x) d.1 before es (256 * n) d.0 → Then before
        by (inl p, low_is, high_is, stays) steps =
            from_there before d.1 p.0 p.1 p.2 (stays waiting) high_is (subst (Steps (machine x) d.1 before es (256 * n)) (sym low_is) steps)
        by (inr p, low_is, high_is, stays) steps = no_standing (ap is_going high_is)

  -- All of a line, from what its own code does.
  pub kept_completes : (done : Done Temps)
      → ((es : List Event) (n : ℕ) (temps : Temps) (world : World) → done ≡ Answers es n temps world → (v : Value) × (temps.values to ≡ Some v))
      → Settles x here rest (Passes done) → Completes x here rest (Passes (kept_done to g.call.site.level node done))
  kept_completes (Answers es n temps world) gives follows =
      let v = gives es n temps world refl in λ before.
      subst (λ o. Does (machine x) (AreOf (pairs x)) (lines_left x) 256 (before, low x.table x.blocks here) (going x here)
      (went_by (waiting_then g.call.site.level node es n temps world o))) (sym v.1)
      (then_waits es n temps world v.0 v.1 (before, low x.table x.blocks here) (follows before))
    where
      went_by : Done Temps → Next Event (Counting BlockLine)
      went_by d = next_map (Going g.units) (went (high x.table x.blocks here) rest d)
  kept_completes (Finishes es n status world) gives follows = λ before. follows before
  kept_completes (Fails es n world) gives follows = λ before. tt
