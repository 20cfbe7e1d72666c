-- What an operation does, as a value: it looks at the world, changes it, works and writes. It calls nothing, spends no unit and is not left by a
-- way out.
use Rattle.std.specs.Prelude.{ℕ, ◌+◌, Bool, true, false, List, [], ◌∷◌, ◌++◌, length, Option, Some, None, slice_get}
use Rattle.arc_base.specs.Event.{Event, writes}
use Rattle.arc_base.specs.declared.outside.Stream.{Stream}
use Rattle.arc_base.specs.declared.outside.Stream.TheVariants.{Err}
use Rattle.nim_program.specs.Traps.{Trap, OutOfMemory, trap_text}
use Rattle.nim_meaning.specs.Values.{Value, Location, Slot}
use Rattle.nim_meaning.specs.Heap.{Contents, Block, Class, has_room, taken, given, block_at, with_contents}
use Rattle.nim_meaning.specs.State.{OfBlock, Took, Gave, Born, Ended, World, with_slot, with_one_waiting, with_none_waiting, pushed, popped, reading_on, store}
use Rattle.nim_meaning.specs.State.{is_live, is_there, is_seen, is_full_at, load}
use Rattle.nim_meaning.specs.Acts as Acts
use Rattle.nim_meaning.specs.Acts.{Does, line_of}

-- ---- changes of the world, one by one

pub data Change : Type 0 where
  -- a value becomes that at a location
  Stores : (location : Location) (value : Value) → Change
  -- a place of a call gets a slot
  Opens : (level place : ℕ) (slot : Slot) → Change
  -- a value waits in a call at a node, or does no more
  Waits : (level node : ℕ) (slot : Slot) → Change
  Leaves : (level node : ℕ) → Change
  -- one more value is under way, or the last one is no more
  Pushes : (value : Value) → Change
  Pops : Change
  -- so many bytes of the input are read
  Reads : (bytes : ℕ) → Change
  -- a block has other contents
  Refills : (block : ℕ) (contents : Contents) → Change
  -- a block is given back
  Frees : (block : ℕ) → Change

abbrev pub size_in : Option Class → ℕ
size_in None = 0
size_in (Some c) = c.size

abbrev pub size_of : World → (class : ℕ) → ℕ
size_of world class = size_in (slice_get world.heap.classes class)

abbrev pub freed : World → ℕ → Option Block → World
freed world k None = world
freed world k (Some block) = record world { heap = given world.heap k; history = Ended (OfBlock k) ∷ Gave (size_of world block.class) ∷ world.history }

abbrev pub changed : Change → World → World
changed (Stores location v) world = store world location v
changed (Opens level place slot) world = with_slot world level place (Some slot)
changed (Waits level node slot) world = with_one_waiting world level node slot
changed (Leaves level node) world = with_none_waiting world level node
changed (Pushes v) world = pushed world v
changed Pops world = popped world
changed (Reads n) world = reading_on world n
changed (Refills k contents) world = record world { heap = with_contents world.heap k contents }
changed (Frees k) world = freed world k (block_at world.heap k)

-- with one more block of a size, whose identity is how many there were before
abbrev pub with_block : (class : ℕ) → Contents → World → World
with_block class contents world = record world {
  heap = taken world.heap class contents;
  history = Born (OfBlock (length world.heap.blocks)) ∷ Took (size_of world class) ∷ world.history;
}

-- ---- deeds

pub data Deed (A : Type 0) : Type 0 where
  Gives : (answer : A) → Deed A
  Ends : (status : ℕ) → Deed A
  -- what is looked at is gone
  Errs : Deed A
  Works : (work : ℕ) (rest : Deed A) → Deed A
  Says : (events : List Event) (rest : Deed A) → Deed A
  Looks : (rest : World → Deed A) → Deed A
  Changes : (change : Change) (rest : Deed A) → Deed A
  -- A block of a size is taken and filled, unless the demand would pass what the heap may take: the one place where want of heap comes from.
  Takes : (class : ℕ) (contents : Contents) (rest : ℕ → Deed A) → Deed A

-- carried out in the meaning
abbrev pub carry : {A : Type 0} → Deed A → Does A
carry (Gives x) = Acts.give x
carry (Ends status) = Acts.end status
carry Errs = Acts.wrong
carry (Works n rest) = Acts.costs n (carry rest)
carry (Says es rest) = Acts.◌>>◌ (Acts.say es) (carry rest)
carry (Looks rest) = Acts.looks (λ world. carry (rest world))
carry (Changes change rest) = Acts.◌>>◌ (Acts.change (changed change)) (carry rest)
carry (Takes class contents rest) = Acts.looks (λ world. Acts.branch (has_room world.heap class)
    (Acts.◌>>◌ (Acts.change (with_block class contents)) (carry (rest (length world.heap.blocks)))) (Acts.stop OutOfMemory))

-- ---- what comes of it, in a world: the events, the work, and the answer with the world then; or the end of the run

pub data Done (A : Type 0) : Type 0 where
  Answers : (events : List Event) (work : ℕ) (answer : A) (world : World) → Done A
  Finishes : (events : List Event) (work status : ℕ) (world : World) → Done A
  Fails : (events : List Event) (work : ℕ) (world : World) → Done A

abbrev pub behind : {A : Type 0} → List Event → ℕ → Done A → Done A
behind es n (Answers fs m x world) = Answers (es ++ fs) (n + m) x world
behind es n (Finishes fs m status world) = Finishes (es ++ fs) (n + m) status world
behind es n (Fails fs m world) = Fails (es ++ fs) (n + m) world

-- a trap writes its line to standard error, and ends the run with status 1
abbrev pub stopped : {A : Type 0} → Trap → World → Done A
stopped trap world = Finishes (writes Err (line_of (trap_text trap))) (length (line_of (trap_text trap))) 1 world

-- a block was taken, or there was no room for it
abbrev pub took : {A : Type 0} → Bool → Done A → World → Done A
took true done world = done
took false done world = stopped OutOfMemory world

abbrev pub perform : {A : Type 0} → Deed A → World → Done A
perform (Gives x) world = Answers [] 0 x world
perform (Ends status) world = Finishes [] 0 status world
perform Errs world = Fails [] 0 world
perform (Works n rest) world = behind [] n (perform rest world)
perform (Says es rest) world = behind es 0 (perform rest world)
perform (Looks rest) world = perform (rest world) world
perform (Changes change rest) world = perform rest (changed change world)
perform (Takes class contents rest) world =
    took (has_room world.heap class) (perform (rest (length world.heap.blocks)) (with_block class contents world)) world

-- ---- how deeds are put together

abbrev pub give : {A : Type 0} → A → Deed A
give x = Gives x

infixl 10 ◌>>=◌
abbrev pub ◌>>=◌ : {A B : Type 0} → Deed A → (A → Deed B) → Deed B
Gives x >>= rest = rest x
Ends status >>= rest = Ends status
Errs >>= rest = Errs
Works n deed >>= rest = Works n (deed >>= rest)
Says es deed >>= rest = Says es (deed >>= rest)
Looks deed >>= rest = Looks (λ world. deed world >>= rest)
Changes change deed >>= rest = Changes change (deed >>= rest)
Takes class contents deed >>= rest = Takes class contents (λ k. deed k >>= rest)

infixl 10 ◌>>◌
abbrev pub ◌>>◌ : {A B : Type 0} → Deed A → Deed B → Deed B
deed >> rest = deed >>= (λ _. rest)

abbrev pub branch : {A : Type 0} → Bool → Deed A → Deed A → Deed A
branch b holds fails = Acts.branch b holds fails

abbrev pub costs : {A : Type 0} → ℕ → Deed A → Deed A
costs n deed = Works n deed

abbrev pub looks : {A : Type 0} → (World → Deed A) → Deed A
looks deed = Looks deed

abbrev pub does : Change → Deed (Unit {0})
does change = Changes change (Gives tt)

-- Who looks at what is gone is at a fault.
abbrev pub unless_gone : {A : Type 0} → (there : Bool) → Deed A → Deed A
unless_gone there go = branch there go Errs

-- the value at a location is looked at, with what it has in a block
abbrev pub sees : {A : Type 0} → Location → (World → Value → Deed A) → Deed A
sees location go = Looks (λ world. unless_gone (is_seen world location) (go world (load world location)))

-- the value at a location is taken as it is, and all of it has to be there
abbrev pub takes : {A : Type 0} → Location → (World → Value → Deed A) → Deed A
takes location go = Looks (λ world. unless_gone (is_full_at world location) (go world (load world location)))

abbrev pub sets : Location → Value → Deed (Unit {0})
sets location v = Looks (λ world. unless_gone (is_there world location) (does (Stores location v)))

abbrev pub frees : Option ℕ → Deed (Unit {0})
frees None = give tt
frees (Some k) = Looks (λ world. unless_gone (is_live world k) (does (Frees k)))

abbrev pub refills : Option ℕ → Contents → Deed (Unit {0})
refills None contents = give tt
refills (Some k) contents = Looks (λ world. unless_gone (is_live world k) (does (Refills k contents)))

-- bytes are written, each as a work
abbrev pub write : Stream → List ℕ → Deed (Unit {0})
write stream text = Works (length text) (Says (writes stream text) (Gives tt))

abbrev pub end : {A : Type 0} → ℕ → Deed A
end status = Ends status

abbrev pub stop : {A : Type 0} → Trap → Deed A
stop trap = write Err (line_of (trap_text trap)) >> Ends 1
