-- How code runs whose lines each do something by themselves: with a list of calls that are active. Flat, owned and block code are such code,
-- each with lines of its own.
use Rattle.std.specs.Prelude.{◌≡◌, ℕ, zero, suc, ◌+◌, nat_eq, Bool, true, false, if◌then◌else◌}
use Rattle.std.specs.Prelude.{List, [], ◌∷◌, ◌++◌, length, Option, Some, None, slice_get}
use Rattle.arc_base.specs.Event.{Event, writes}
use Rattle.arc_base.specs.declared.outside.Stream.TheVariants.{Err}
use Rattle.arc_base.specs.Behaviour.{Behaviour, Seen, Running}
use Rattle.arc_base.specs.Stepping.{Next, Goes, Ends, Faults, Errs, next_map, seen, after, behaviour}
use Rattle.nim_program.specs.declared.program.TheConstants.{ACTIVE_CALLS}
use Rattle.nim_program.specs.declared.program.HookOf.{HookOf}
use Rattle.nim_program.specs.Traps.{Trap, CallDepth, trap_text}
use Rattle.nim_meaning.specs.Values.{Value, nothing, bytes, Slot, value_in}
use Rattle.nim_meaning.specs.State.{Frame, World, live, with_frame, down_to, world_of}
use Rattle.nim_meaning.specs.Acts.{line_of}
use Rattle.nim_meaning.specs.Deeds.{Done, Answers, Finishes, Fails}
use Rattle.nim_meaning.specs.Meaning.{seen_call, filled}
use Rattle.flat_code.specs.Scene.{Temps, no_temps, with_value, Scene, Did, Passes, Leaps, Enters, Turns, Calls, Returns}
use Rattle.flat_code.specs.Scene as scenes

-- A procedure: the number of its first declared place and how many there are; the slot in which its result starts, if it has one; how many values
-- may wait in it; which hook it is; its lines.
pub record Proc (L : Type 0) : Type 0 where
  pub first : ℕ
  pub span : ℕ
  pub result : List Slot
  pub waits : ℕ
  pub hook : Option HookOf
  pub lines : List L

-- an active call: all lines of its procedure and those that are left, its level, how many more calls may be active from there, and its temporaries
pub record Active (L : Type 0) : Type 0 where
  pub whole : List L
  pub rest : List L
  pub level : ℕ
  pub left : ℕ
  pub temps : Temps

-- a call that waits for another, and the temporary to which its result goes
pub record Waiting (L : Type 0) : Type 0 where
  pub active : Active L
  pub to : ℕ

-- the call that runs, those that wait, the last one first, and the world
pub record Machine (L : Type 0) : Type 0 where
  pub now : Active L
  pub waiting : List (Waiting L)
  pub world : World

-- a machine that may still spend so many units, None: as many as there are; or a run that stands still, since one was missing
pub data Counting (L : Type 0) : Type 0 where
  Going : (units : Option ℕ) (machine : Machine L) → Counting L
  Standing : Counting L

-- ---- looking up

abbrev pub is_name : ℕ → Option ℕ → Bool
is_name name None = false
is_name name (Some other) = nat_eq other name

-- the lines from a label on
abbrev pub from_label : {L : Type 0} → (L → Option ℕ) → ℕ → List L → Option (List L)
from_label label_of name [] = None
from_label label_of name (line ∷ lines) = if is_name name (label_of line) then Some (line ∷ lines) else from_label label_of name lines

abbrev pub last_of : {A : Type 0} → (none : A) → List A → A
last_of none [] = none
last_of none (x ∷ xs) = last_of x xs

abbrev pub before_last : {A : Type 0} → List A → List A
before_last [] = []
before_last (x ∷ []) = []
before_last (x ∷ y ∷ xs) = x ∷ before_last (y ∷ xs)

abbrev pub no_proc : {L : Type 0} → Proc L
no_proc = record { first = 0; span = 0; result = []; waits = 0; hook = None; lines = [] }

-- the last procedure is the start code, which isn't called
abbrev pub start_of : {L : Type 0} → List (Proc L) → Proc L
start_of procs = last_of no_proc procs

abbrev pub callable : {L : Type 0} → List (Proc L) → List (Proc L)
callable procs = before_last procs

-- ---- what comes of what a line did

abbrev pub scene_of : {L : Type 0} → Machine L → Scene
scene_of m = record { world = m.world; level = m.now.level; temps = m.now.temps }

-- with these lines left, other temporaries and another world
abbrev pub onward : {L : Type 0} → Machine L → List L → Temps → World → Machine L
onward m rest temps world = record { now = record m.now { rest = rest; temps = temps }; waiting = m.waiting; world = world }

abbrev pub went : {L : Type 0} → Machine L → List L → Done Temps → Next Event (Machine L)
went m rest (Answers es n temps world) = Goes es n (onward m rest temps world)
went m rest (Finishes es n status world) = Ends es n status (live world)
went m rest (Fails es n world) = Errs

abbrev pub jumped : {L : Type 0} → Machine L → Temps → (work : ℕ) → Option (List L) → Next Event (Machine L)
jumped m temps work None = Faults
jumped m temps work (Some rest) = Goes [] work (onward m rest temps m.world)

-- a trap writes its line to standard error, and ends the run with status 1
abbrev pub traps : {L : Type 0} → World → (work : ℕ) → Trap → Next Event (Machine L)
traps world work trap = Ends (writes Err (line_of (trap_text trap))) (work + length (line_of (trap_text trap))) 1 (live world)

abbrev pub slot_bytes : List Slot → ℕ
slot_bytes [] = 0
slot_bytes (slot ∷ slots) = bytes (value_in slot) + slot_bytes slots

-- the places of a new call: its parameters have the arguments, then comes its result, and then what isn't declared yet
abbrev pub frame_of : {L : Type 0} → Proc L → (slots : List Slot) → Frame
frame_of p slots = record { first = p.first; slots = filled p.span (slots ++ p.result); temporaries = []; handling = [] }

abbrev pub beginning : {L : Type 0} → Proc L → (level left : ℕ) → Active L
beginning p level left = record { whole = p.lines; rest = p.lines; level = level; left = left; temps = no_temps }

-- a call of what has no lines gives nothing at once
abbrev pub gives_nothing : {L : Type 0} → Machine L → List L → (to work : ℕ) → List Event → Next Event (Machine L)
gives_nothing m rest to work es = Goes es work (onward m rest (with_value to m.now.temps nothing) m.world)

-- a call begins with its result, and with nothing that waits
abbrev pub begin_work : {L : Type 0} → Proc L → ℕ
begin_work p = slot_bytes p.result + p.waits

abbrev pub entered : {L : Type 0} → Machine L → List L → (to : ℕ) → List Slot → (work left : ℕ) → Proc L → List L → Next Event (Machine L)
entered m rest to slots work left p [] = gives_nothing m rest to work (seen_call p.hook)
entered m rest to slots work left p (line ∷ lines) = Goes (seen_call p.hook) (work + begin_work p) (record {
  now = beginning p (suc m.now.level) left;
  waiting = record { active = record m.now { rest = rest }; to = to } ∷ m.waiting;
  world = with_frame m.world (frame_of p slots);
})

abbrev pub found : {L : Type 0} → Machine L → List L → (to : ℕ) → List Slot → (work left : ℕ) → Option (Proc L) → Next Event (Machine L)
found m rest to slots work left None = gives_nothing m rest to work []
found m rest to slots work left (Some p) = entered m rest to slots work left p p.lines

abbrev pub called : {L : Type 0} → Machine L → List L → (to : ℕ) → List Slot → (work left : ℕ) → Option (Proc L) → Next Event (Machine L)
called m rest to slots work zero p = traps m.world work CallDepth
called m rest to slots work (suc left) p = found m rest to slots work left p

-- the start code comes to its end, or a caller goes on, which has its own frame then as the last one
abbrev pub returned : {L : Type 0} → Machine L → Value → (work : ℕ) → List (Waiting L) → Next Event (Machine L)
returned m v work [] = Ends [] work 0 (live m.world)
returned m v work (w ∷ waiting) = Goes [] work (record {
  now = record w.active { temps = with_value w.to w.active.temps v };
  waiting = waiting;
  world = down_to m.now.level m.world;
})

-- the same is seen but for the work
abbrev pub ShowsAlike : (a b : Seen Event) → Type 0
ShowsAlike a b = (a.events ≡ b.events) × (a.phase ≡ b.phase)

-- What comes of a line, by whether it spends a unit. One that would spend a unit that isn't there is a work, and isn't carried out.
abbrev pub within : {L : Type 0} → (spends : Bool) → Option ℕ → Next Event (Machine L) → Next Event (Counting L)
within false units next = next_map (Going units) next
within true None next = next_map (Going None) next
within true (Some zero) next = Goes [] 1 Standing
within true (Some (suc units)) next = next_map (Going (Some units)) next

module _ {L : Type 0} (label_of : L → Option ℕ) (does : Scene → L → Did) (procs : List (Proc L)) where
  abbrev pub settled : Machine L → List L → Did → Next Event (Machine L)
  settled m rest (Passes done) = went m rest done
  settled m rest (Leaps name work) = jumped m m.now.temps work (from_label label_of name rest)
  settled m rest Enters = Goes [] 1 (onward m rest m.now.temps m.world)
  settled m rest (Turns temps name) = jumped m temps 1 (from_label label_of name m.now.whole)
  settled m rest (Calls to proc slots work) = called m rest to slots work m.now.left (slice_get (callable procs) proc)
  settled m rest (Returns v work) = returned m v work m.waiting
  settled m rest scenes.Fails = Faults

  -- the line that is next; it is a fault where none is left
  abbrev pub step_lines : Machine L → List L → Next Event (Machine L)
  step_lines m [] = Faults
  step_lines m (line ∷ rest) = settled m rest (does (scene_of m) line)

  abbrev pub step : Machine L → Next Event (Machine L)
  step m = step_lines m m.now.rest

  -- the start code, before its first line
  abbrev pub at_first : (heap : ℕ) (input : List ℕ) → Machine L
  at_first heap input = record {
    now = beginning (start_of procs) 0 ACTIVE_CALLS;
    waiting = [];
    world = world_of (frame_of (start_of procs) [] ∷ []) heap input;
  }

  -- what is seen after n lines
  abbrev pub runs : (heap : ℕ) (input : List ℕ) → Behaviour Event
  runs heap input = behaviour step (at_first heap input)

  -- ---- the same by units, of which each turn and each call spends one

  -- whether what a line did spends one
  abbrev pub spends : Did → Bool
  spends Enters = true
  spends (Turns temps name) = true
  spends (Calls to proc slots work) = true
  spends _ = false

  -- what is left of the units, None where one would be spent that isn't there
  abbrev pub unit_left : Bool → ℕ → Option ℕ
  unit_left false units = Some units
  unit_left true zero = None
  unit_left true (suc units) = Some units

  abbrev pub spends_next : Machine L → List L → Bool
  spends_next m [] = false
  spends_next m (line ∷ rest) = spends (does (scene_of m) line)

  abbrev pub with_units : Option ℕ → (ℕ → Seen Event) → Seen Event → Seen Event
  with_units None go stopped = stopped
  with_units (Some units) go stopped = go units

  -- after n lines at most, with so many units, from where so much was seen: none is carried out that would spend a unit too many
  abbrev pub run_by : ℕ → Machine L → (units : ℕ) → List Event → (work : ℕ) → Seen Event
  run_by zero m units out work = seen out Running work
  run_by (suc n) m units out work =
      with_units (unit_left (spends_next m m.now.rest) units) (λ left. after (step m) (λ next. run_by n next left) out work) (seen out Running work)

  -- the same, of a machine that counts
  abbrev pub counting_step : Counting L → Next Event (Counting L)
  counting_step (Going units m) = within (spends_next m m.now.rest) units (step m)
  counting_step Standing = Goes [] 0 Standing

  abbrev pub runs_within : (units heap : ℕ) (input : List ℕ) → Behaviour Event
  runs_within units heap input = behaviour counting_step (Going (Some units) (at_first heap input))
