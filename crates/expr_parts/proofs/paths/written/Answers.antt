use Rattle.std.proofs.Common.{ap, ◌∙◌}
use Rattle.std.specs.Prelude.{Ok}
use Rattle.arc_base.specs.declared.place.Code.TheVariants.{NotAssignable}
use Rattle.arc_base.specs.declared.place.Stop.TheVariants as stop
use Rattle.arc_base.specs.Refusal.{and_then}
use Rattle.nim_program.specs.View.{path_of as path_in}
use Rattle.expr_rules.specs.Answers.{place_in}
use Rattle.expr_rules.specs.Builtins.{written, write_by}
use Rattle.expr_rules.specs.Paths.{path_of}
use Rattle.expr_parts.specs.View.{valued_of}
use Rattle.arc_base.proofs.ForCallers.{answers_as, makes, refuses}
use Rattle.expr_parts.proofs.Fields.{if_ok}
use Rattle.expr_parts.proofs.paths.written.Goals as goal

pub returns-then-not-writable : goal.returns-then-not-writable
returns-then-not-writable c = λ ts.
    let v = valued_of ts c.args.value in
    refuses (path_in ts) (written v) NotAssignable (place_in v.expr) c.refusal.result
    (c.refusal.ensures ∙ ap (λ n. stop.Refused NotAssignable n.at) (c.node.ensures ts))
    (ap (λ b. and_then (write_by b (place_in v.expr)) (λ _. Ok (path_of v.expr))) c.if-not-writable.true)

pub returns : goal.returns
returns c = λ ts.
    let v = valued_of ts c.args.value in
    answers_as (path_in ts) (written v) (Ok (path_of v.expr)) c.path_of.result
    (ap (λ b. and_then (write_by b (place_in v.expr)) (λ _. Ok (path_of v.expr))) c.if-not-writable.false)
    (makes (path_in ts) (path_of v.expr) c.path_of.result (if_ok c.path_of.result c.path_of.ensures.path (λ p h. h ts)) c.path_of.ensures.memory)
