-- Which typed programs a command takes, and how others are refused: by what is said of the program alone (program_limits/specs/Limits.antt: E23,
-- E21, E25 of its data), and then by the bytes of its code and of its file's note (E25).
use Rattle.std.specs.Prelude.{ℕ, suc, ◌+◌, ◌*◌, nat_le, ◌&&◌, if◌then◌else◌, List, [], ◌∷◌, length, Option, Some, None, Result, Ok}
use Rattle.arc_base.specs.declared.place.Place.{Place}
use Rattle.arc_base.specs.Refusal.{Refusal, and_then}
use Rattle.nim_types.specs.Types.{Ty, Facts}
use Rattle.nim_types.specs.Forms.{Form, elements, parts, resource, Forms, no_forms, forms, hooked, levels, form_of}
use Rattle.hook_lifting.specs.declared.procedures.TheConstants.{MOST_LEVELS}
use Rattle.nim_plan.specs.declared.plan.Plan.{Plan}
use Rattle.nim_program.specs.Program.{Program}
use Rattle.nim_meaning.specs.LeftOut.{first_left_out}
use Rattle.program_limits.specs.Limits.{unless_large, tree_limits}
use Rattle.flattening.specs.Counted.{program_parts, program_pairs}
use Rattle.flattening.specs.Flattened.{modes_of}
use Rattle.rv32_codegen.specs.declared.layout.TheConstants.{MOST_CODE_BYTES}
use Rattle.core_compiler.specs.declared.note.TheConstants.{MOST_NOTE_BYTES}
use Rattle.core_compiler.specs.declared.program.TheConstants.{BYTES_OF_PART, BYTES_OF_PAIR, BYTES_OF_HOOK, BYTES_OF_ALL}

abbrev pub forms_count : Forms → ℕ
forms_count no_forms = 0
forms_count (forms f fs) = suc (forms_count fs)

-- how many parts tuples and objects have
abbrev pub parts_count : Form → ℕ
parts_count (parts fs) = forms_count fs
parts_count (resource fs) = forms_count fs
parts_count f = 0

-- What bounds how much code hooks of types are: sequences, other types of few levels that have hooks, and the parts of these. None counts where no type
-- has hooks.
abbrev pub form_parts : Form → ℕ
form_parts (elements of) = 1
form_parts f = if hooked f && nat_le (levels f) MOST_LEVELS then suc (parts_count f) else 0

abbrev pub hook_parts : Facts → List Ty → ℕ
hook_parts facts [] = 0
hook_parts facts (ty ∷ tys) = form_parts (form_of facts ty) + hook_parts facts tys

-- code under a plan, with these types, never has more bytes
abbrev pub code_bound : Program → Plan → List Ty → ℕ
code_bound program plan types =
    BYTES_OF_PART * program_parts program + (BYTES_OF_PAIR * program_pairs (modes_of program plan) program + BYTES_OF_ALL)
    + BYTES_OF_HOOK * hook_parts program.facts types

-- code has so many bytes
abbrev pub code_limits : (code : ℕ) → Result (Unit {0}) Refusal
code_limits code = unless_large (nat_le code MOST_CODE_BYTES)

-- the bytes of a file's note under a plan, where there are no hooks
abbrev pub note_bytes : Plan → ℕ
note_bytes plan = 40 + (8 * length plan.sites + (4 * length plan.sinks + 8 * length plan.skips))

abbrev pub note_limits : Plan → Result (Unit {0}) Refusal
note_limits plan = unless_large (nat_le (note_bytes plan) MOST_NOTE_BYTES)

-- the program's code under a plan has so many bytes: which code that is, `HasCode` says
abbrev pub build_limits : Plan → (code : ℕ) → Program → Result (Unit {0}) Refusal
build_limits plan code program = and_then (tree_limits program) (λ small. and_then (code_limits code) (λ few. note_limits plan))

-- what is said of a program all of which is built; of another one nothing
abbrev pub where_built : Option Place → Result (Unit {0}) Refusal → Result (Unit {0}) Refusal
where_built None said = said
where_built (Some at) said = Ok tt

-- what only waits to be built is a program for `check`
abbrev pub check_limits : Plan → (code : ℕ) → Program → Result (Unit {0}) Refusal
check_limits plan code program = where_built (first_left_out program) (build_limits plan code program)
