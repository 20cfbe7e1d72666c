-- What is said of a typed program that has no code yet, in this order: what isn't built (E23), a procedure that is too large to be called
-- (E21), data that is too large (E25).
use Rattle.std.specs.Prelude.{Bool, true, false, nat_le, Option, Some, None, Result, Ok}
use Rattle.arc_base.specs.declared.place.Place.{Place}
use Rattle.arc_base.specs.declared.place.Code.TheVariants.{LeftOut, TooLarge}
use Rattle.arc_base.specs.Refusal.{Refusal, and_then, refused}
use Rattle.nim_types.specs.Table.{types_in, facts_in}
use Rattle.nim_program.specs.declared.program.Program.{Program as RustProgram}
use Rattle.nim_program.specs.declared.text_sizes.TheConstants.{MOST_DATA}
use Rattle.nim_program.specs.Program.{Program}
use Rattle.nim_program.specs.View.{program_under}
use Rattle.nim_meaning.specs.LeftOut.{first_left_out}
use Rattle.program_limits.specs.Frames.{beginning, frame_limits}
use Rattle.program_limits.specs.Data.{data_counted}

-- the program that the code's trees stand for
abbrev pub program_in : RustProgram → Program
program_in p = program_under (types_in p.types) (facts_in p.types) p

-- at the first node that isn't built
abbrev pub unless_left_out : Option Place → Result (Unit {0}) Refusal
unless_left_out None = Ok tt
unless_left_out (Some at) = refused LeftOut at

-- where the main module begins, unless what is counted is small
abbrev pub unless_large : (small : Bool) → Result (Unit {0}) Refusal
unless_large true = Ok tt
unless_large false = refused TooLarge beginning

abbrev pub data_limits : Program → Result (Unit {0}) Refusal
data_limits program = unless_large (nat_le (data_counted program) MOST_DATA)

abbrev pub tree_limits : Program → Result (Unit {0}) Refusal
tree_limits program = and_then (unless_left_out (first_left_out program)) (λ built. and_then (frame_limits program) (λ small. data_limits program))
