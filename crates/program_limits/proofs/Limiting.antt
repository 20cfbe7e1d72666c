-- What is said of a program, by what was found in it.
use Rattle.std.proofs.Common.{◌≡◌, Bool, ap, ◌∙◌, Option, Result}
use Rattle.std.specs.Prelude.{nat_le}
use Rattle.arc_base.specs.declared.place.Place.{Place}
use Rattle.arc_base.specs.Refusal.{Refusal, and_then}
use Rattle.nim_program.specs.declared.text_sizes.TheConstants.{MOST_DATA}
use Rattle.nim_program.specs.Program.{Program}
use Rattle.nim_meaning.specs.LeftOut.{first_left_out}
use Rattle.program_limits.specs.Frames.{frame_fault, unless_fault}
use Rattle.program_limits.specs.Data.{data_counted}
use Rattle.program_limits.specs.Limits.{unless_left_out, unless_large, tree_limits}

abbrev said : (left fault : Option Place) → (small : Bool) → Result (Unit {0}) Refusal
said left fault small = and_then (unless_left_out left) (λ built. and_then (unless_fault fault) (λ framed. unless_large small))

pub said_by : (program : Program) (left fault : Option Place) (small : Bool) → first_left_out program ≡ left → frame_fault program ≡ fault →
    nat_le (data_counted program) MOST_DATA ≡ small → tree_limits program ≡ said left fault small
said_by program left fault small e f g =
    ap (λ l. said l (frame_fault program) (nat_le (data_counted program) MOST_DATA)) e
    ∙ (ap (λ x. said left x (nat_le (data_counted program) MOST_DATA)) f ∙ ap (said left fault) g)
