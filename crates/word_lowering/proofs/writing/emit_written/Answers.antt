use Rattle.std.proofs.Common.{◌+◌, ◌*◌, Option, OnOk, ap, ◌∙◌, subst}
use Rattle.nim_types.specs.declared.types.TypeDef.{TypeDef}
use Rattle.word_lowering.specs.Emission.{Puts}
use Rattle.word_lowering.specs.LineCode.{name_code, written_code, variable_of}
use Rattle.word_lowering.specs.Scope.{around_of}
use Rattle.word_lowering.specs.Stored.{base_at}
use Rattle.word_lowering.specs.Texts.{names_before}
use Rattle.word_lowering.proofs.Emits.{ok_as, put_as}
use Rattle.word_lowering.proofs.writing.emit_written.Goals as goal

pub returns-in-Some-Enum : goal.returns-in-Some-Enum
returns-in-Some-Enum c =
    let x = around_of c.args.x.now in
    let base = base_at x.table c.args.ty in
    let names = x.setting.names in
    let ends = x.setting.ends + 4 * names_before x.table base in
    let from = variable_of c.args.from in
    let e = rw c.in-Some-Enum.field-0-is at c.in-Some-Enum.ensures in
    subst (λ (o : Option TypeDef). OnOk c.emit_name.result (Puts c.args.code.now c.emit_name.new.code (written_code x o base c.args.from))) e
    (ok_as c.emit_name.result
    (λ p. put_as _ _ _ (name_code ends names from) p
    (λ k. ap (λ n. name_code n names c.variable_of-in-Some-Enum.result k) {y = ends} c.ends_of.ensures
    ∙ ap (λ v. name_code ends names v k) c.variable_of-in-Some-Enum.ensures))
    c.emit_name.ensures)
