use Rattle.std.proofs.Common.{◌≡◌, ◌++◌, drop}
use Rattle.std.specs.Prelude.{map}
use Rattle.nim_tree.specs.Statements.{import_of}
use Rattle.parse_stmts.proofs.imports.and_names.Given as goal

-- with what is left it is the whole
abbrev pub invariant-loop-name : goal.invariant-loop-name
invariant-loop-name l = l.all.items ++ map import_of (drop l.name-index l.names) ≡ l.fn.some.items ++ map import_of l.fn.names
