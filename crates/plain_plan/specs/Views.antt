-- What the code's own types stand for. It serves proofs alone.
use Rattle.std.specs.Prelude.{ℕ, Bool, true, false, [], List, map}
use Rattle.nim_types.specs.Types.{Ty, Facts}
use Rattle.nim_types.specs.Table.{types_in, facts_in}
use Rattle.nim_program.specs.declared.operation.Use.{Use}
use Rattle.nim_program.specs.declared.program.Mode.{Mode}
use Rattle.nim_program.specs.declared.stmt.Stmt.{Stmt as RustStmt}
use Rattle.nim_program.specs.declared.stmt.Stmt.TheVariants as S
use Rattle.nim_program.specs.Uses.{use_by, use_for}
use Rattle.nim_program.specs.View.{proc_of}
use Rattle.nim_meaning.specs.Shapes.{modes_in}
use Rattle.plain_plan.specs.declared.around.Around.{Around}
use Rattle.plain_plan.specs.declared.around.Uses.{Uses}
use Rattle.plain_plan.specs.declared.around.Uses.TheVariants.{All, Of, OfParams}

abbrev pub types_of : Around → List Ty
types_of a = types_in a.types.now

abbrev pub facts_of : Around → Facts
facts_of a = facts_in a.types.now

-- those that are declared
abbrev pub modes_of : Around → (proc position : ℕ) → Mode
modes_of a = modes_in [] (map (proc_of (types_of a)) a.procs.now.items)

abbrev pub uses_of : (modes : (proc position : ℕ) → Mode) → Uses → (position : ℕ) → Use
uses_of modes (All how) i = how
uses_of modes (Of operation) i = use_by operation
uses_of modes (OfParams proc) i = use_for (modes proc i)

abbrev pub is_defer : RustStmt → Bool
is_defer (S.Defer' node p last) = true
is_defer _ = false
