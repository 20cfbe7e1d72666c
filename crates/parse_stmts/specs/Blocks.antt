-- Blocks, branches and handlers, without where they lie in memory.
use Rattle.std.specs.Prelude.{Vec}
use Rattle.std.specs.declared.alloc.Global.{Global}
use Rattle.nim_tree.specs.declared.stmt.Branch.{Branch}
use Rattle.nim_tree.specs.declared.stmt.Handler.{Handler}
use Rattle.nim_tree.specs.declared.stmt.Stmt.{Stmt}
use Rattle.nim_tree.specs.Statements.{Statements, Branches, statements_of, branches_of}
use Rattle.parse_stmts.specs.Run.{Caught}

abbrev pub block_of : Vec Stmt Global → Statements
block_of body = statements_of body.items

abbrev pub chosen_of : Vec Branch Global → Branches
chosen_of all = branches_of all.items

abbrev pub caught_of : Handler → Caught
caught_of h = record { names = h.types.items; binding = h.binding; body = statements_of h.body.items }
