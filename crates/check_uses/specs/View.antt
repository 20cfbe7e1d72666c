-- What the items of the text stand for, under a list of types by their numbers.
use Rattle.std.specs.Prelude.{List, map, take, drop, slice_get, Option, Some, None}
use Rattle.nim_types.specs.Types.{Ty}
use Rattle.nim_program.specs.declared.program.Body.{Body as RustBody}
use Rattle.nim_program.specs.declared.program.Proc.{Proc as RustProc}
use Rattle.nim_program.specs.declared.stmt.Stmt.{Stmt as RustStmt}
use Rattle.nim_program.specs.Program.{Stmts, Empty}
use Rattle.nim_program.specs.View.{stmts_of}
use Rattle.decl_rules.specs.State.{Item, announces, completes, code}
use Rattle.check_uses.specs.declared.text.Item.{Item as RustItem}
use Rattle.check_uses.specs.declared.text.Item.TheVariants as item

abbrev pub block_of : List Ty → Option RustBody → Stmts
block_of ts None = Empty
block_of ts (Some body) = stmts_of ts body.stmts.items

abbrev pub block_at : List Ty → Option RustProc → Stmts
block_at ts None = Empty
block_at ts (Some p) = block_of ts p.body

-- a body is that of the procedure with the number, and statements are so many of the start code, from a number on
abbrev pub item_of : List Ty → List RustProc → List RustStmt → RustItem → Item
item_of ts procs start (item.Announces p at) = announces p at
item_of ts procs start (item.Completes p) = completes p (block_at ts (slice_get procs p))
item_of ts procs start (item.Code first count) = code (stmts_of ts (take count (drop first start)))

abbrev pub items_of : List Ty → List RustProc → List RustStmt → List RustItem → List Item
items_of ts procs start text = map (item_of ts procs start) text
