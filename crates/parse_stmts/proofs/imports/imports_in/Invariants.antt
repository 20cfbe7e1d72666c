use Rattle.std.proofs.Common.{◌≡◌, ◌++◌, drop}
use Rattle.nim_tree.specs.Statements.{statements_of, imports_in}
use Rattle.parse_stmts.proofs.imports.imports_in.Given as goal

-- with what is left it is the whole
abbrev pub invariant-loop-statement : goal.invariant-loop-statement
invariant-loop-statement l = l.all.items ++ imports_in (statements_of (drop l.statement-index l.body)) ≡ imports_in (statements_of l.fn.body)
