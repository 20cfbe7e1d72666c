-- Which form a tree of the code has. It serves proofs alone.
use Rattle.nim_program.specs.declared.expr.Expr.{Expr}
use Rattle.nim_program.specs.declared.expr.Expr.TheVariants as E
use Rattle.nim_program.specs.declared.stmt.Stmt.{Stmt}
use Rattle.nim_program.specs.declared.stmt.Stmt.TheVariants as S

abbrev pub IsEarly : Expr → Type 0
IsEarly (E.Early' node ty short p left q right) = Unit {0}
IsEarly expr = ⊥

abbrev pub IsIf : Expr → Type 0
IsIf (E.If' node ty p branches q otherwise) = Unit {0}
IsIf expr = ⊥

abbrev pub IsCase : Expr → Type 0
IsCase (E.Case' node ty p selector q branches otherwise) = Unit {0}
IsCase expr = ⊥

abbrev pub IsSelect : Stmt → Type 0
IsSelect (S.Case' node selector p branches q otherwise) = Unit {0}
IsSelect stmt = ⊥
