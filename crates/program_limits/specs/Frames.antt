-- When a procedure of a program is too large to be called (E21): its sum, the bytes of its places and of the values of its nodes, is above
-- the most; or the type of a place or a node has too many levels.
use Rattle.std.specs.Prelude.{ℕ, Bool, false, if◌then◌else◌, nat_lt, List, [], ◌∷◌, ◌++◌, Option, Some, None, option_map, Result, Ok}
use Rattle.arc_base.specs.declared.place.Place.{Place}
use Rattle.arc_base.specs.declared.place.Code.TheVariants.{FrameTooLarge}
use Rattle.arc_base.specs.Refusal.{Refusal, refused}
use Rattle.nim_types.specs.Types.{Ty, Facts}
use Rattle.nim_types.specs.Forms.{form_of, levels}
use Rattle.nim_program.specs.declared.expr.Node.{Node}
use Rattle.nim_program.specs.declared.sizes.TheConstants.{MOST_BYTES}
use Rattle.nim_program.specs.Program.{Declared, Param, Body, Proc, Program}
use Rattle.nim_program.specs.Folds.{Seen, firsts, total_of, if_declared, param_places}
use Rattle.nim_program.specs.Sizes.{body_sum}
use Rattle.nim_meaning.specs.LeftOut.{out_if, ◌or_then◌, earlier, first_of}
use Rattle.program_limits.specs.declared.summary.TheConstants.{MOST_LEVELS}

-- the start code stands at the beginning of the main module
abbrev pub beginning : Place
beginning = record { «module» = 0; line = 1; column = 1 }

-- ---- levels

abbrev pub is_deep : Facts → Ty → Bool
is_deep facts ty = nat_lt MOST_LEVELS (levels (form_of facts ty))

abbrev pub gives_deep : Facts → Option Ty → Bool
gives_deep facts None = false
gives_deep facts (Some ty) = is_deep facts ty

-- the first of some places, which stand under a node
abbrev pub deep_place : Facts → (number : ℕ) → List Declared → Option Node
deep_place facts number [] = None
deep_place facts number (place ∷ places) = out_if (is_deep facts place.of) (record { number = number; at = place.at }) or_then deep_place facts number places

-- of a part alone, by the places that it declares, or by its value
abbrev pub node_deep : Facts → Option Ty → List Declared → Option Node → Option Node
node_deep facts ty places None = None
node_deep facts ty [] (Some node) = out_if (gives_deep facts ty) node
node_deep facts ty (place ∷ places) (Some node) = deep_place facts node.number (place ∷ places)

abbrev pub own_deep : Facts → Seen → Option Node
own_deep facts seen = node_deep facts seen.ty seen.places seen.node

-- ---- bodies

-- By its sum where the procedure stands, which comes before all that stands in it; the places of its head count as the first node of its body.
abbrev pub body_fault : Facts → (globals : List Declared) → List Param → (whole : Node) → Body → Option Node
body_fault facts globals params whole body = if nat_lt MOST_BYTES (body_sum facts globals params body) then Some whole
    else (deep_place facts (first_of body.stmts) (param_places params ++ if_declared body.result) or_then total_of firsts (own_deep facts) body.stmts)

-- One without a body is never called, so its parameters aren't looked at.
abbrev pub proc_fault : Facts → (globals : List Declared) → List Param → (at : Place) → Option Body → Option Node
proc_fault facts globals params at None = None
proc_fault facts globals params at (Some body) = body_fault facts globals params (record { number = first_of body.stmts; at = at }) body

abbrev pub procs_fault : Facts → (globals : List Declared) → List Proc → Option Node
procs_fault facts globals [] = None
procs_fault facts globals (p ∷ procs) = earlier (proc_fault facts globals p.params p.at p.body) (procs_fault facts globals procs)

-- the start code, at the beginning of the main module, which comes before all nodes as long as there is no other module
abbrev pub start_fault : Facts → (globals : List Declared) → Body → Option Node
start_fault facts globals body = body_fault facts globals [] (record { number = 0; at = beginning }) body

-- where the first procedure in order of text stands that is too large, or its first type that has too many levels
abbrev pub frame_fault : Program → Option Place
frame_fault program =
    option_map (λ node. node.at)
    (earlier (procs_fault program.facts program.globals program.procs) (start_fault program.facts program.globals program.start))

abbrev pub unless_fault : Option Place → Result (Unit {0}) Refusal
unless_fault None = Ok tt
unless_fault (Some at) = refused FrameTooLarge at

abbrev pub frame_limits : Program → Result (Unit {0}) Refusal
frame_limits program = unless_fault (frame_fault program)
