-- The flat code of a program, as it is handed on: of each procedure its places and its lines.
use Rattle.std.specs.Prelude.{List, [], ◌∷◌, ◌++◌, map, Option, Some, None}
use Rattle.nim_plan.specs.declared.plan.Plan.{Plan}
use Rattle.nim_program.specs.declared.program.HookOf.{HookOf}
use Rattle.nim_program.specs.Program.{Param, Body, Program}
use Rattle.nim_program.specs.Program as trees
use Rattle.flat_code.specs.declared.code.Code.{Code}
use Rattle.flat_code.specs.declared.code.CodeProc.{CodeProc}
use Rattle.flat_code.specs.declared.line.Line.{Line}
use Rattle.flattening.specs.StmtLines.{body_lines}
use Rattle.flattening.specs.Places.{body_places}
use Rattle.flattening.specs.Flattened.{modes_of}

module _ (program : Program) (plan : Plan) where
  abbrev pub flat_body : Option HookOf → List Param → Body → CodeProc Line
  flat_body hook params body = record {
    first = body.first;
    span = body.places;
    places = body_places program.types program.facts (modes_of program plan) plan.sinks program.globals params body;
    lines = body_lines program.types program.facts (modes_of program plan) params body;
    hook = hook;
  }

  -- a procedure without a body has no lines
  abbrev pub flat_proc : Option HookOf → List Param → Option Body → CodeProc Line
  flat_proc hook params None = record { first = 0; span = 0; places = []; lines = []; hook = hook }
  flat_proc hook params (Some body) = flat_body hook params body

  -- the procedures by number, and the start code as the last one
  abbrev pub flat_procs : List (CodeProc Line)
  flat_procs =
      map (λ (proc : trees.Proc). flat_proc proc.hook proc.params proc.body) program.procs ++ flat_body None [] program.start ∷ []

  abbrev pub flat_of : Code Line
  flat_of = record { procs = flat_procs }
