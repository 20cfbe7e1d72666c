-- What a line of a lifted hook does, and what a hook does: the walk of the meaning over the form of its type.
use Rattle.std.specs.Prelude.{ℕ, zero, suc, ◌+◌, ◌-◌, ◌*◌, pos, unsigned_abs, nat_le, List, [], Option, Some, None, option_map}
use Rattle.arc_base.specs.Event.{Event}
use Rattle.arc_base.specs.Stepping.{Next, Goes, Ends as Is_over, Faults, Errs as Failed}
use Rattle.nim_types.specs.Forms.{Form, size}
use Rattle.nim_program.specs.Ints.{inside}
use Rattle.nim_meaning.specs.Values.{Value, Number, Handle, length_of, block_of, first_of, repeated, vacant, item_of, deeper, Location}
use Rattle.nim_meaning.specs.Heap.{Elements}
use Rattle.nim_meaning.specs.State.{World, load, elements_of}
use Rattle.nim_meaning.specs.Deeds.{Deed, Pushes, Pops, Done, Answers, Finishes, behind, perform, does, give, ◌>>=◌, ◌>>◌, costs, looks}
use Rattle.nim_meaning.specs.Deeds.{sees, sets, refills}
use Rattle.nim_meaning.specs.Lifted.{Walk, walk, copying, assigning, sinking, ending, fresh, left_vacant, in_hand}
use Rattle.nim_meaning.specs.OwnedRows.{element_of}
use Rattle.nim_meaning.specs.Acts.{branch}
use Rattle.flat_code.specs.Scene.{Known, Scene, Did, Passes, Located, Temps, no_temps, with_value, with_place}
use Rattle.flat_code.specs.Scene as scenes
use Rattle.flat_code.specs.Lines.{form_in, using, using_number, using_place, gives, leads, acts}
use Rattle.flat_code.specs.Lines as lines
use Rattle.flat_code.specs.Codes.{no_plan}
use Rattle.flat_code.specs.Running.{Machine, step}
use Rattle.flat_code.specs.Whole.{label_in}
use Rattle.hook_lifting.specs.declared.lifted.Hook.{Hook}
use Rattle.hook_lifting.specs.declared.lifted.Hook.TheVariants.{Copies, Assigns, Sinks, Ends}
use Rattle.hook_lifting.specs.declared.lifted.LiftedLine.{LiftedLine}
use Rattle.hook_lifting.specs.declared.lifted.LiftedLine.TheVariants as O

-- ---- hooks

abbrev pub walk_of : Hook → Walk
walk_of Copies = copying
walk_of Assigns = assigning
walk_of Sinks = sinking
walk_of Ends = ending

-- what is done by a hook of a type
abbrev pub hook_deed : Known → Hook → (ty : ℕ) → (to from : Location) → Deed (Unit {0})
hook_deed known hook ty to from = walk (walk_of hook) (form_in known ty) to from

-- ---- lines

-- where a value that begins stands: on top of those under way
abbrev pub begun_at : Scene → (to : ℕ) → Temps
begun_at x to = with_place to x.temps (Located (in_hand x.world))

abbrev pub begins : Scene → (to : ℕ) → Value → Did
begins x to v = Passes (perform (costs 1 (does (Pushes v)) >> give (begun_at x to)) x.world)

-- a sequence of so many elements, which has a block of its own
abbrev pub taken_for : (of : Form) → (count : ℕ) → Location → Deed Value
taken_for of n at = fresh n (n * size of) (Elements (repeated n (vacant of))) >>= (λ v. sets at v >> give v)

abbrev pub does_by : Known → Scene → LiftedLine → Did
does_by known x (O.Plain line) = lines.does known no_plan x line
does_by known x (O.Hook hook ty to from) =
    using_place x.temps to (λ _ a. using_place x.temps from (λ _ b. acts x (costs 1 (hook_deed known hook ty a b))))
does_by known x (O.Load to at) = using_place x.temps at (λ _ a. gives x to (costs 1 (sees a (λ world v. give v))))
does_by known x (O.Count to of) = using (x.temps.values of) (λ v. gives x to (costs 1 (give (Number (pos (length_of v))))))
does_by known x (O.Number to n) = gives x to (costs 1 (give (Number (pos n))))
does_by known x (O.Element to of at index) =
    using (x.temps.values of) (λ v. using_place x.temps at (λ _ a. using_number x.temps index (λ z.
    branch (inside z (length_of v)) (leads x to (Located a) (costs 1 (give (item_of v a (unsigned_abs z))))) scenes.Fails)))
does_by known x (O.Member to at index count) =
    using_place x.temps at (λ _ a. using_number x.temps index (λ z.
    branch (inside z count) (leads x to (Located a) (costs 1 (give (deeper a (unsigned_abs z))))) scenes.Fails))
does_by known x (O.Take ty to at of) =
    using (x.temps.values of) (λ v. using_place x.temps at (λ _ a. gives x to (costs 1 (taken_for (element_of (form_in known ty)) (length_of v) a))))
does_by known x (O.GiveBack ty at of) =
    using (x.temps.values of) (λ v. using_place x.temps at (λ _ a. acts x
    (costs 1 (left_vacant (8 + length_of v * size (element_of (form_in known ty))) a v))))
does_by known x (O.Trade to from) =
    using_place x.temps to (λ _ a. using_place x.temps from (λ _ b. acts x
    (costs 1 (sees a (λ world old. sees b (λ world new. sets a new >> sets b old))))))
does_by known x (O.Begin ty to) = begins x to (vacant (form_in known ty))
does_by known x (O.Push to of) = using (x.temps.values of) (λ v. begins x to v)
does_by known x (O.Pop to at) = using_place x.temps at (λ _ a. gives x to (costs 1 (looks λ world. does Pops >> give (load world a))))
does_by known x (O.Exchange to at of) =
    using (x.temps.values of) (λ v. using_place x.temps at (λ _ a. gives x to (costs 1 (sees a (λ world old. sets a v >> give old)))))
does_by known x (O.Copy to of) = using (x.temps.values of) (λ v. gives x to (costs 1 (give v)))
does_by known x (O.Shorten at of count) =
    using (x.temps.values of) (λ v. using_place x.temps at (λ _ a. using_number x.temps count (λ z.
    branch (nat_le (unsigned_abs z) (length_of v)) (acts x (costs 1 (sets a (Handle (unsigned_abs z) (block_of v))))) scenes.Fails)))
does_by known x (O.Forget of count) =
    using (x.temps.values of) (λ v. using_number x.temps count (λ z. acts x (costs 1
    (looks λ world. refills (block_of v) (Elements (first_of (unsigned_abs z) (elements_of world v)))))))

abbrev pub label_of : LiftedLine → Option ℕ
label_of (O.Plain line) = label_in line
label_of line = None

-- ---- a hook on its own: it begins with both locations, in a world, at the level of the call that calls it

abbrev pub both_places : (to from : Location) → Temps
both_places to from = with_place 1 (with_place 0 no_temps (Located to)) (Located from)

abbrev pub begun_with : Temps → List LiftedLine → (level : ℕ) → World → Machine LiftedLine
begun_with temps whole level world = record {
  now = record { whole = whole; rest = whole; level = level; left = 0; temps = temps };
  waiting = [];
  world = world;
}

abbrev pub beginning : List LiftedLine → (level : ℕ) → (to from : Location) → World → Machine LiftedLine
beginning whole level to from world = begun_with (both_places to from) whole level world

-- ---- what a hook comes to

abbrev pub lines_step : Known → Machine LiftedLine → Next Event (Machine LiftedLine)
lines_step known = step label_of (does_by known) []

-- behind one more line: what was shown and worked before is put in front
abbrev pub by_next : Machine LiftedLine → Next Event (Machine LiftedLine) → (Machine LiftedLine → Option (Done (Unit {0}))) → Option (Done (Unit {0}))
by_next m (Goes es w next) go = option_map (behind es w) (go next)
by_next m (Is_over es w zero live) go = Some (Answers es w tt m.world)
by_next m (Is_over es w (suc status) live) go = Some (Finishes es w (suc status) m.world)
by_next m Faults go = None
by_next m Failed go = None

-- after so many lines at most, None where it isn't at its end by then
abbrev pub comes_to : Known → (lines : ℕ) → Machine LiftedLine → Option (Done (Unit {0}))
comes_to known zero m = None
comes_to known (suc n) m = by_next m (lines_step known m) (comes_to known n)

-- ---- a sequence is made shorter

abbrev pub place_and_count : (at : Location) → (count : ℕ) → Temps
place_and_count at n = with_value 8 (with_place 0 no_temps (Located at)) (Number (pos n))
