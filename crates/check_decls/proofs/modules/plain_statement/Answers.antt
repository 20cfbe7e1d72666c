use Rattle.std.proofs.Common.{Vec, Global, refl}
use Rattle.std.specs.Prelude.{None}
use Rattle.nim_tree.specs.Statements.{statement_of}
use Rattle.nim_program.specs.declared.stmt.Stmt.{Stmt as RustStmt}
use Rattle.decl_rules.specs.State.{in_module}
use Rattle.decl_rules.specs.Stated.{stated}
use Rattle.decl_parts.specs.View.{all_stated_as}
use Rattle.check_decls.specs.View.{beside_of}
use Rattle.check_decls.proofs.Drafts.{sound_state, carrying_note, carrying_stops}
use Rattle.check_decls.proofs.modules.plain_statement.Goals as goal

pub returns-in-Ok : goal.returns-in-Ok
returns-in-Ok c =
    let old = c.args.draft.now in
    let state = c.statement.new.state in
    let j = c.in-Ok.ensures in
    carrying_note (λ st. stated in_module None st (statement_of c.args.tree.now)) c.in-Ok.more.items c.note_code.result j.further
    (sound_state old state c.requires.sound j.further j.stands.ready) refl c.note_code.ensures.noted c.note_code.ensures.state c.note_code.ensures.memory
    (λ ts u. j.answers ts (beside_of ts old) u)

pub returns-in-Err : goal.returns-in-Err
returns-in-Err c =
    let old = c.args.draft.now in
    let state = c.statement.new.state in
    carrying_stops {d = record old { state = state }} (λ st. stated in_module None st (statement_of c.args.tree.now))
    (λ ts (all : Vec RustStmt Global). all_stated_as ts (beside_of ts old) state all.items) c.in-Err.ensures.further
    (λ ts u. c.in-Err.ensures.answers ts (beside_of ts old) u)

pub statement-requires : goal.statement-requires
statement-requires c = record { ready = c.requires.sound.ready; around = tt; ends = tt; plain = c.requires.plain }
