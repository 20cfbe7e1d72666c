-- What a deed does, carried out in the meaning, is what comes of it in a world.
use Rattle.std.proofs.Common.{◌≡◌, ℕ, ◌+◌, Bool, true, false, List, [], ◌++◌, length, refl, sym, ap, ap₂, ◌∙◌, append_assoc, append-nil, add_assoc, arith}
use Rattle.arc_base.specs.Event.{Event}
use Rattle.arc_base.specs.BigStep.{Res, Got, Over, Errs as IsWrong}
use Rattle.nim_program.specs.Traps.{OutOfMemory}
use Rattle.nim_meaning.specs.Heap.{Contents, has_room}
use Rattle.nim_meaning.specs.State.{World, State, live}
use Rattle.nim_meaning.specs.Acts.{Outcome, On, Does, branch, change, stop, ◌>>◌}
use Rattle.nim_meaning.specs.Deeds.{changed, with_block, Deed, Gives, Ends, Errs, Works, Says, Looks, Changes, Takes, carry}
use Rattle.nim_meaning.specs.Deeds.{Done, Answers, Finishes, Fails, behind, took, perform, ◌>>=◌}

-- so many events and so much work later, in another world
abbrev pub later : State → List Event → ℕ → World → State
later s es n world =
    record { meter = record { units = s.meter.units; out = s.meter.out ++ es; work = s.meter.work + n }; world = world; trail = s.trail }

abbrev pub from : {A : Type 0} → State → Done A → Res State (Outcome A)
from s (Answers es n x world) = Got (On x) (later s es n world)
from s (Finishes es n status world) = Over status (live world) (later s es n world)
from s (Fails es n world) = IsWrong (later s es n world)

-- with another list of events and another work
abbrev metered : State → List Event → ℕ → World → State
metered s out work world = record { meter = record { units = s.meter.units; out = out; work = work }; world = world; trail = s.trail }

twice : {A : Type 0} (s : State) (es : List Event) (n : ℕ) (d : Done A) (world : World) → from (later s es n world) d ≡ from s (behind es n d)
twice s es n (Answers fs m x w) world = ap₂ (λ o k. Got (On x) (metered s o k w)) (append_assoc s.meter.out es fs) (add_assoc s.meter.work n m)
twice s es n (Finishes fs m status w) world =
    ap₂ (λ o k. Over status (live w) (metered s o k w)) (append_assoc s.meter.out es fs) (add_assoc s.meter.work n m)
twice s es n (Fails fs m w) world = ap₂ (λ o k. IsWrong (metered s o k w)) (append_assoc s.meter.out es fs) (add_assoc s.meter.work n m)

none : (s : State) (world : World) → record s { world = world } ≡ later s [] 0 world
none s world = let e : s.meter.work ≡ s.meter.work + 0 = omega arith in ap₂ (λ o k. metered s o k world) (sym (append-nil s.meter.out)) e

worked : (s : State) (n : ℕ) → record s { meter = record (s.meter) { work = s.meter.work + n } } ≡ later s [] n s.world
worked s n = ap (λ o. metered s o (s.meter.work + n) s.world) (sym (append-nil s.meter.out))

said : (s : State) (es : List Event) → record s { meter = record (s.meter) { out = s.meter.out ++ es } } ≡ later s es 0 s.world
said s es = let e : s.meter.work ≡ s.meter.work + 0 = omega arith in ap (λ k. metered s (s.meter.out ++ es) k s.world) e

-- where there is room, and where there is none
had : {A : Type 0} (b : Bool) (class : ℕ) (contents : Contents) (act : Does A) (done : World → Done A) (s : State) →
    ((b : State) → act b ≡ from b (done b.world)) →
    branch b (change (with_block class contents) >> act) (stop OutOfMemory) s ≡ from s (took b (done (with_block class contents s.world)) s.world)
had true class contents act done s h = h (record s { world = with_block class contents s.world })
had false class contents act done s h = refl

pub performed : {A : Type 0} (d : Deed A) (s : State) → carry d s ≡ from s (perform d s.world)
performed (Gives x) s = ap (λ b. Got (On x) b) (none s s.world)
performed (Ends status) s = ap (λ b. Over status (live s.world) b) (none s s.world)
performed Errs s = ap (λ b. IsWrong b) (none s s.world)
performed (Works n rest) s = ap (carry rest) (worked s n) ∙ (performed rest (later s [] n s.world) ∙ twice s [] n (perform rest s.world) s.world)
performed (Says es rest) s = ap (carry rest) (said s es) ∙ (performed rest (later s es 0 s.world) ∙ twice s es 0 (perform rest s.world) s.world)
performed (Looks rest) s = performed (rest s.world) s
performed (Changes c rest) s = performed rest (record s { world = changed c s.world })
performed (Takes class contents rest) s =
    had (has_room s.world.heap class) class contents (carry (rest (length s.world.heap.blocks))) (perform (rest (length s.world.heap.blocks))) s
    (λ b. performed (rest (length s.world.heap.blocks)) b)

-- ---- with another answer

abbrev pub answer_map : {A B : Type 0} → (A → B) → Done A → Done B
answer_map f (Answers es n x world) = Answers es n (f x) world
answer_map f (Finishes es n status world) = Finishes es n status world
answer_map f (Fails es n world) = Fails es n world

map_behind : {A B : Type 0} (f : A → B) (es : List Event) (n : ℕ) (d : Done A) → behind es n (answer_map f d) ≡ answer_map f (behind es n d)
map_behind f es n (Answers fs m x world) = refl
map_behind f es n (Finishes fs m status world) = refl
map_behind f es n (Fails fs m world) = refl

map_took : {A B : Type 0} (f : A → B) (b : Bool) (d : Done A) (world : World) → took b (answer_map f d) world ≡ answer_map f (took b d world)
map_took f true d world = refl
map_took f false d world = refl

pub mapped : {A B : Type 0} (f : A → B) (d : Deed A) (world : World) → perform (d >>= (λ x. Gives (f x))) world ≡ answer_map f (perform d world)
mapped f (Gives x) world = refl
mapped f (Ends status) world = refl
mapped f Errs world = refl
mapped f (Works n rest) world = ap (behind [] n) (mapped f rest world) ∙ map_behind f [] n (perform rest world)
mapped f (Says es rest) world = ap (behind es 0) (mapped f rest world) ∙ map_behind f es 0 (perform rest world)
mapped f (Looks rest) world = mapped f (rest world) world
mapped f (Changes c rest) world = mapped f rest (changed c world)
mapped f (Takes class contents rest) world =
    let k = length world.heap.blocks in
    let w = with_block class contents world in
    ap (λ d. took (has_room world.heap class) d world) (mapped f (rest k) w) ∙ map_took f (has_room world.heap class) (perform (rest k) w) world

pub behind_none : {A : Type 0} (d : Done A) → behind [] 0 d ≡ d
behind_none (Answers es n x world) = let e : 0 + n ≡ n = omega arith in ap (λ n. Answers es n x world) e
behind_none (Finishes es n status world) = let e : 0 + n ≡ n = omega arith in ap (λ n. Finishes es n status world) e
behind_none (Fails es n world) = let e : 0 + n ≡ n = omega arith in ap (λ n. Fails es n world) e
