use Rattle.std.proofs.Common.{◌∙◌, [], ap, sym}
use Rattle.std.specs.Prelude.{◌∷◌, take, drop, slice_get}
use Rattle.std.proofs.lemmas.Result.{on_ok_weaker}
use Rattle.nim_program.specs.View.{stmts_of}
use Rattle.decl_rules.specs.State.{completes, code}
use Rattle.decl_rules.specs.Whole.{declares_any}
use Rattle.check_uses.specs.View.{block_at}
use Rattle.number_sets.specs.Numbers.{with_number}
use Rattle.check_uses.specs.declared.text.Item.TheVariants as item
use Rattle.check_uses.proofs.Timing.{time_as, time_same, time_completed, time_over, time_left}
use Rattle.check_uses.proofs.text.pass.Goals as goal

pub returns-in-Announces : goal.returns-in-Announces
returns-in-Announces c = λ procs rest h.
    time_as procs c.args.start.now.items c.args.item (item.Announces c.in-Announces.proc c.in-Announces.at) c.args.later.now rest c.in-Announces.is h

pub returns-in-Completes : goal.returns-in-Completes
returns-in-Completes c = on_ok_weaker c.add.result (λ e. λ procs rest h.
    time_as procs c.args.start.now.items c.args.item (item.Completes c.in-Completes.proc) c.add.new.self rest c.in-Completes.is
    (time_same (with_number c.in-Completes.proc c.args.later.now) c.add.new.self
    (completes c.in-Completes.proc (block_at [] (slice_get procs c.in-Completes.proc)) ∷ rest) e
    (time_completed c.args.later.now rest c.in-Completes.proc (block_at [] (slice_get procs c.in-Completes.proc)) h))) c.add.ensures

pub returns-then-declares_any : goal.returns-then-declares_any
returns-then-declares_any c =
    let start = c.args.start.now.items in
    let stmts = take c.in-Code.count (drop c.in-Code.first start) in
    λ procs rest h.
    time_as procs start c.args.item (item.Code c.in-Code.first c.in-Code.count) c.clear.new.self rest c.in-Code.is
    (time_same [] c.clear.new.self (code (stmts_of [] stmts) ∷ rest) c.clear.ensures (time_over rest (stmts_of [] stmts)
    (ap (λ l. declares_any (stmts_of [] l)) (sym (c.part.ensures ∙ ap (λ l. take c.in-Code.count (drop c.in-Code.first l)) c.as_slice.ensures.value)) ∙
    sym c.declares_any.ensures ∙ c.if-declares_any.true)))

pub returns-else-declares_any : goal.returns-else-declares_any
returns-else-declares_any c =
    let start = c.args.start.now.items in
    let stmts = take c.in-Code.count (drop c.in-Code.first start) in
    λ procs rest h.
    time_as procs start c.args.item (item.Code c.in-Code.first c.in-Code.count) c.args.later.now rest c.in-Code.is
    (time_left c.args.later.now rest (stmts_of [] stmts)
    (ap (λ l. declares_any (stmts_of [] l)) (sym (c.part.ensures ∙ ap (λ l. take c.in-Code.count (drop c.in-Code.first l)) c.as_slice.ensures.value)) ∙
    sym c.declares_any.ensures ∙ c.if-declares_any.false) h)
