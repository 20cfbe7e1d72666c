-- Whole runs: with more units what was seen stays, and what the world is like behind them.
use Rattle.std.proofs.Common.{◌≤◌, ℕ, List, refl, arith}
use Rattle.arc_base.specs.Behaviour.{Steady}
use Rattle.arc_base.specs.BigStep.{Res, Got, Over, Going, Errs}
use Rattle.arc_base.proofs.ForCallers.{steady_by_tame}
use Rattle.nim_plan.specs.declared.plan.Plan.{Plan}
use Rattle.nim_program.specs.Program.{Program}
use Rattle.nim_meaning.specs.Heap.{demand}
use Rattle.nim_meaning.specs.State.{World, State, live}
use Rattle.nim_meaning.specs.Meaning.{at_first, goes_through, meaning}
use Rattle.nim_meaning.specs.Kept.{IsKept, IsAlways, Framed, IsBalanced, IsOnce, IsAskedFor}
use Rattle.nim_meaning.proofs.Tame.{metered}
use Rattle.nim_meaning.proofs.TameParts.{tame_program}
use Rattle.nim_meaning.proofs.KeepParts.{keeps_program}
use Rattle.nim_meaning.proofs.Framed.{framed}
use Rattle.nim_meaning.proofs.Balanced.{Balanced, balanced, balanced_first}
use Rattle.nim_meaning.proofs.Once.{Once, once, once_first}
use Rattle.nim_meaning.proofs.Asked.{Asked, asked, asked_first, demand_is}
use Rattle.nim_meaning.proofs.HeapKept.{InHeap, heap_kept, Within, within}

pub meaning_steady : (program : Program) (plan : Plan) (heap : ℕ) (input : List ℕ) → Steady (meaning program plan heap input)
meaning_steady program plan heap input =
    steady_by_tame metered (λ _. 0) (λ s. live s.world) (λ a s. refl) (goes_through program plan) (tame_program program plan).units
    (at_first program heap input 0)

pub frames_kept : (program : Program) (plan : Plan) (heap : ℕ) (input : List ℕ) (n : ℕ) →
    IsKept (λ flow. Framed 0) (goes_through program plan (at_first program heap input n))
frames_kept program plan heap input n =
    let All = λ (world : World). Unit {0} in
    (keeps_program All Framed framed program plan).at (at_first program heap input n) refl

-- what holds everywhere, holds of what is weaker
weaker : {A : Type 0} (K L : World → Type 0) → ((world : World) → K world → L world) → (r : Res State A) → IsAlways K r → IsAlways L r
weaker K L h (Got x s) k = h s.world k
weaker K L h (Over status live s) k = h s.world k
weaker K L h (Going s) k = h s.world k
weaker K L h (Errs s) k = h s.world k

pub demand_within : (program : Program) (plan : Plan) (heap : ℕ) (input : List ℕ) (n : ℕ) →
    IsAlways (λ world. demand world.heap.classes ≤ heap) (goes_through program plan (at_first program heap input n))
demand_within program plan heap input n =
    let InRoom = InHeap (Within heap) (within heap) in
    weaker InRoom (λ world. demand world.heap.classes ≤ heap) (λ world w. w.1) (goes_through program plan (at_first program heap input n))
    ((keeps_program InRoom (λ level. InRoom) (heap_kept (Within heap) (within heap)) program plan).at (at_first program heap input n) (refl, omega arith))

pub blocks_balanced : (program : Program) (plan : Plan) (heap : ℕ) (input : List ℕ) (n : ℕ) →
    IsAlways IsBalanced (goes_through program plan (at_first program heap input n))
blocks_balanced program plan heap input n =
    let Counted = InHeap Balanced balanced in
    weaker Counted IsBalanced (λ world b. b.sums) (goes_through program plan (at_first program heap input n))
    ((keeps_program Counted (λ level. Counted) (heap_kept Balanced balanced) program plan).at (at_first program heap input n) (balanced_first heap))

pub blocks_once : (program : Program) (plan : Plan) (heap : ℕ) (input : List ℕ) (n : ℕ) →
    IsAlways IsOnce (goes_through program plan (at_first program heap input n))
blocks_once program plan heap input n =
    let Counted = InHeap Once once in
    weaker Counted IsOnce (λ world o. (o.ordered, o.live)) (goes_through program plan (at_first program heap input n))
    ((keeps_program Counted (λ level. Counted) (heap_kept Once once) program plan).at
    (at_first program heap input n) (once_first heap))

pub demand_asked : (program : Program) (plan : Plan) (heap : ℕ) (input : List ℕ) (n : ℕ) →
    IsAlways IsAskedFor (goes_through program plan (at_first program heap input n))
demand_asked program plan heap input n =
    let Counted = InHeap Asked asked in
    weaker Counted IsAskedFor (λ world a. demand_is world.heap.classes world.history a.say) (goes_through program plan (at_first program heap input n))
    ((keeps_program Counted (λ level. Counted) (heap_kept Asked asked) program plan).at
    (at_first program heap input n) (asked_first heap))
