use Rattle.std.proofs.Common.{List, [], ◌∙◌, ap, sym}
use Rattle.std.specs.Prelude.{None, Ok}
use Rattle.nim_tree.specs.Statements.{head_of, statements_of, proclaims}
use Rattle.nim_program.specs.declared.stmt.Stmt.{Stmt as RustStmt}
use Rattle.decl_rules.specs.State.{in_module, stated_as}
use Rattle.decl_rules.specs.Stated.{stated}
use Rattle.decl_parts.specs.View.{steps_of}
use Rattle.check_decls.specs.View.{known_in}
use Rattle.check_decls.proofs.Drafts.{carrying_note, carrying_stops}
use Rattle.check_decls.proofs.modules.proclamation.Goals as goal

pub returns-in-Ok : goal.returns-in-Ok
returns-in-Ok c =
    let mid = c.procedure.new.draft in
    let j = c.in-Ok.ensures.passing in
    carrying_note {d = mid}
    (λ st. stated in_module None st (proclaims c.args.at (head_of c.args.head.now) (statements_of c.args.trees.now))) c.new.result.items
    c.note_code.result j.further j.sound c.in-Ok.ensures.start c.note_code.ensures.noted c.note_code.ensures.state c.note_code.ensures.memory
    (λ ts u. j.answers ts u ∙ ap (λ (l : List RustStmt). Ok (stated_as (steps_of ts l) (known_in ts mid))) (sym c.new.ensures.items))

pub returns-in-Err : goal.returns-in-Err
returns-in-Err c =
    let mid = c.procedure.new.draft in
    let j = c.in-Err.ensures.passing in
    carrying_stops {d = mid} (λ st. stated in_module None st (proclaims c.args.at (head_of c.args.head.now) (statements_of c.args.trees.now)))
    (λ ts (x : Unit {0}). stated_as [] (known_in ts mid)) j.further j.answers
