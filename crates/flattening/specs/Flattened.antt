-- The flat code of a program.
use Rattle.std.specs.Prelude.{◌≡◌, ◌≤◌, ℕ, ◌+◌, ◌*◌, List, [], ◌∷◌, ◌++◌, map, Option, Some, None}
use Rattle.arc_base.specs.Event.{Event}
use Rattle.arc_base.specs.Behaviour.{Behaviour, Seen}
use Rattle.nim_plan.specs.declared.plan.Plan.{Plan}
use Rattle.nim_program.specs.declared.program.Mode.{Mode}
use Rattle.nim_program.specs.declared.program.HookOf.{HookOf}
use Rattle.nim_program.specs.Program.{Param, Body, Program}
use Rattle.nim_program.specs.Program as trees
use Rattle.nim_meaning.specs.Shapes.{modes_in}
use Rattle.nim_meaning.specs.Meaning.{result_slots, meaning}
use Rattle.flat_code.specs.declared.line.Line.{Line}
use Rattle.flat_code.specs.Scene.{Known}
use Rattle.flat_code.specs.Lines.{does}
use Rattle.flat_code.specs.Running.{Proc, Machine, at_first, runs, run_by}
use Rattle.flat_code.specs.Whole.{label_in}
use Rattle.flat_code.specs.Codes.{waiting_in}
use Rattle.flattening.specs.declared.laws.TheConstants.{FLAT_PACE}
use Rattle.flattening.specs.StmtLines.{body_lines}
use Rattle.flattening.specs.Places.{body_places}

abbrev pub known_of : Program → Known
known_of program = record { types = program.types; facts = program.facts }

-- how parameters take arguments, under a plan
abbrev pub modes_of : Program → Plan → (proc position : ℕ) → Mode
modes_of program plan = modes_in plan.sinks program.procs

abbrev pub code_of_body : Program → Plan → Option HookOf → List Param → Body → Proc Line
code_of_body program plan hook params body = record {
  first = body.first;
  span = body.places;
  result = result_slots program.facts body.result;
  waits = waiting_in (body_places program.types program.facts (modes_of program plan) plan.sinks program.globals params body);
  hook = hook;
  lines = body_lines program.types program.facts (modes_of program plan) params body;
}

abbrev pub code_of_proc : Program → Plan → Option HookOf → List Param → Option Body → Proc Line
code_of_proc program plan hook params None = record { first = 0; span = 0; result = []; waits = 0; hook = hook; lines = [] }
code_of_proc program plan hook params (Some body) = code_of_body program plan hook params body

-- the procedures by number, and the start code as the last one
abbrev pub code_of : Program → Plan → List (Proc Line)
code_of program plan =
    map (λ (proc : trees.Proc). code_of_proc program plan proc.hook proc.params proc.body) program.procs ++ code_of_body program plan None [] program.start ∷ []

-- before its first line
abbrev pub flat_start : Program → Plan → (heap : ℕ) → (input : List ℕ) → Machine Line
flat_start program plan heap input = at_first label_in (does (known_of program) plan) (code_of program plan) heap input

-- what is seen of it after each number of lines
abbrev pub flat_meaning : Program → Plan → (heap : ℕ) → (input : List ℕ) → Behaviour Event
flat_meaning program plan heap input = runs label_in (does (known_of program) plan) (code_of program plan) heap input

-- after n lines at most, with so many units
abbrev pub flat_by_units : Program → Plan → (heap : ℕ) → (input : List ℕ) → (units n : ℕ) → Seen Event
flat_by_units program plan heap input units n =
    run_by label_in (does (known_of program) plan) (code_of program plan) n (flat_start program plan heap input) units [] 0

-- With so many units it comes to what the program shows with as many, after some number of lines and ever after: the same events, and the same end
-- or none, with at most so many times the work.
abbrev pub IsExact : Program → Plan → (heap : ℕ) → (input : List ℕ) → (units : ℕ) → Type 0
IsExact program plan heap input units =
    (lines : ℕ) × ((more : ℕ) → ((flat_by_units program plan heap input units (lines + more)).events ≡ (meaning program plan heap input units).events)
    × ((flat_by_units program plan heap input units (lines + more)).phase ≡ (meaning program plan heap input units).phase)
    × ((flat_by_units program plan heap input units (lines + more)).work ≤ FLAT_PACE * ((meaning program plan heap input units).work + 1)))
