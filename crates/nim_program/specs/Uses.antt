-- The table of operations, by what becomes of their operands. A value of a type without hooks is a number or the parts of a row, and
-- nobody owns it: this column says nothing of it.
use Rattle.std.specs.Prelude.{ℕ}
use Rattle.nim_program.specs.declared.operation.Operation.{Operation}
use Rattle.nim_program.specs.declared.operation.Operation.TheVariants as O
use Rattle.nim_program.specs.declared.operation.Use.{Use}
use Rattle.nim_program.specs.declared.operation.Use.TheVariants.{Owned, Given, Held, Lent, Looked}
use Rattle.nim_program.specs.declared.program.Mode.{Mode}
use Rattle.nim_program.specs.declared.program.Mode.TheVariants as M
use Rattle.nim_program.specs.Program.{Act, Doing, Building, Giving, Calling}

-- of each operand of an operation
abbrev pub use_by : Operation → Use
use_by O.Convert = Owned
use_by O.Make = Held
use_by O.Sequence = Held
use_by O.Add = Held
use_by O.Assign = Given
use_by (O.Compare comparison) = Lent
use_by O.Join = Lent
use_by O.Echo = Lent
use_by O.Append = Lent
use_by _ = Looked

-- of an argument, by the mode of its parameter at the call; one for a `var` parameter is a place
abbrev pub use_for : Mode → Use
use_for M.Plain = Lent
use_for M.Sink = Held
use_for M.Var = Lent

-- of the operand at a position, where `at_call` gives the modes of a procedure's parameters to its callers
abbrev pub use_of : (at_call : ℕ → ℕ → Mode) → Act → (position : ℕ) → Use
use_of at_call (Doing operation) i = use_by operation
use_of at_call (Building fields) i = Held
use_of at_call (Giving literal) i = Looked
use_of at_call (Calling proc types) i = use_for (at_call proc i)
