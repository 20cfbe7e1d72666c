use Rattle.std.proofs.Common.{ℕ, List, Option, ap₂}
use Rattle.flat_code.specs.declared.line.From.{From}
use Rattle.flat_code.specs.declared.line.Line.TheVariants.{Apply}
use Rattle.word_lowering.specs.LineCode.{applied_code, line_code}
use Rattle.word_lowering.specs.Scope.{around_of}
use Rattle.word_lowering.proofs.Emits.{ok_as, put_as}
use Rattle.word_lowering.proofs.line_code.emit_line.Goals as goal

pub returns-in-Apply : goal.returns-in-Apply
returns-in-Apply c =
    let l = c.in-Apply in
    let x = around_of c.args.x.now in
    let label = c.args.label in
    rw l.is
    (ok_as c.emit_applied.result
    (λ p. put_as _ _ _ (line_code x (Apply l.to l.operation l.how l.ty l.of l.from) label) p
    (λ k. ap₂ (λ (tys : List (Option ℕ)) (from : List From). applied_code x l.operation label l.to l.ty tys from k)
    c.as_slice-tys.ensures c.as_slice-operands.ensures))
    c.emit_applied.ensures)

pub returns-in-Part : goal.returns-in-Part
returns-in-Part c = rw c.in-Part.is c.emit_part_at.ensures

pub returns-in-Get : goal.returns-in-Get
returns-in-Get c = rw c.in-Get.is c.emit_got_for.ensures

pub returns-in-Look : goal.returns-in-Look
returns-in-Look c = rw c.in-Look.is c.emit_looked.ensures

pub returns-in-Fill : goal.returns-in-Fill
returns-in-Fill c = rw c.in-Fill.is c.emit_put.ensures

pub returns-in-Give : goal.returns-in-Give
returns-in-Give c = rw c.in-Give.is c.emit_put-in-Give.ensures

pub returns-in-Item : goal.returns-in-Item
returns-in-Item c = rw c.in-Item.is c.emit_item_at.ensures

pub returns-in-Length : goal.returns-in-Length
returns-in-Length c = rw c.in-Length.is c.emit_length.ensures

pub returns-in-Element : goal.returns-in-Element
returns-in-Element c = rw c.in-Element.is c.emit_element_of.ensures

-- types have forms
pub emit_part_at-requires : goal.emit_part_at-requires
emit_part_at-requires c = c.requires.forms

pub emit_construct-requires : goal.emit_construct-requires
emit_construct-requires c = c.requires.forms
