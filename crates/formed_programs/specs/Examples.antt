-- Small programs with a list of their types, and what their flat code shows. No public contract but that of examples speaks of it.
use Rattle.std.specs.Prelude.{◌≡◌, ℕ, List, [], ◌∷◌, ◌++◌, codes}
use Rattle.arc_base.specs.Event.{Event, writes}
use Rattle.arc_base.specs.declared.outside.Stream.TheVariants.{Out, Err}
use Rattle.arc_base.specs.Behaviour.{Phase, Running, Ended, no_objects}
use Rattle.nim_types.specs.Types.{Ty, int, bool, char, text, array, tuple, no_types, types}
use Rattle.nim_plan.specs.declared.plan.Plan.{Plan}
use Rattle.nim_program.specs.declared.operation.Operator.TheVariants.{Add}
use Rattle.nim_program.specs.Program.{Read, Path, Fresh, Field, Program}
use Rattle.nim_meaning.specs.Trees.{node, number, literal, made, global_of, value_of, element, field, echo, echoes, swap, update, each, place, does, var_as}
use Rattle.nim_meaning.specs.Trees.{program, sight_of}
use Rattle.nim_meaning.specs.NumberExamples.{color, meters, pair}
use Rattle.nim_meaning.specs.PlaceExamples.{triple, powers}
use Rattle.flattening.specs.Flattened.{flat_by_units}

-- ---- a tuple

abbrev two : Ty
two = array 2 int

abbrev both : Ty
both = tuple [] (types int (types two no_types))

abbrev whole : Path
whole = global_of both 0

abbrev second : Path
second = Field node two whole 1

-- var t = (5, [6, 7])
-- swap(t[0], t[1][1])
-- for x in t[1]: t[0] += x
-- echo t[0], " ", t[1][1]
abbrev pub gathering : Program
gathering = program [] 2
    (var_as (place 0 both) (made both (number 5 ∷ made two (number 6 ∷ number 7 ∷ []) ∷ []))
    ∷ does (swap (field whole 0) (element second (number 1)))
    ∷ does (each 1 second (does (update Add (field whole 0) (value_of 1)) ∷ []))
    ∷ does (echoes (Read (field whole 0) ∷ literal (codes " ") ∷ Read (element second (number 1)) ∷ [])) ∷ [])

-- ---- a constant

-- const c = [1, 2, 4]
-- for x in c: echo x
abbrev pub listing : Program
listing = program [] 1 (does (each 0 (Fresh powers) (does (echo (value_of 0)) ∷ [])) ∷ [])

-- ---- what is seen of their flat code

-- all types of the programs
abbrev all_types : List Ty
all_types = int ∷ bool ∷ char ∷ text ∷ triple ∷ array 2 triple ∷ array 1 int ∷ color ∷ meters ∷ pair ∷ two ∷ both ∷ []

-- with so many units, after some of its lines and as many as may be, under each plan
abbrev pub Shows : Program → (units lines : ℕ) → List Event → Phase → Type 0
Shows p units lines events phase = (plan : Plan) (heap : ℕ) (input : List ℕ) →
    sight_of (flat_by_units (record p { types = all_types }) plan heap input units lines) ≡ record { events = events; phase = phase }

-- it comes to its end, and has written this
abbrev pub Flat_prints : Program → (units : ℕ) → List ℕ → Type 0
Flat_prints p units written = Shows p units 1000 (writes Out written) (Ended 0 no_objects)

abbrev pub Flat_quits : Program → (units status : ℕ) → List ℕ → Type 0
Flat_quits p units status written = Shows p units 1000 (writes Out written) (Ended status no_objects)

-- it has written this, and then trapped with that line
abbrev pub Flat_fails : Program → (units : ℕ) → List ℕ → List ℕ → Type 0
Flat_fails p units written line = Shows p units 1000 (writes Out written ++ writes Err line) (Ended 1 no_objects)

-- it has written this, and goes on
abbrev pub Flat_runs : Program → (units : ℕ) → List ℕ → Type 0
Flat_runs p units written = Shows p units 1000 (writes Out written) Running
