use Rattle.std.proofs.Common.{sym, ap, ◌∙◌}
use Rattle.std.specs.Prelude.{Bool, ◌||◌, ◌&&◌, codes}
use Rattle.indent_scanner.specs.Words.{is_named}
use Rattle.check_forms.proofs.Naming.{waits_by}
use Rattle.check_forms.proofs.names.waits.Goals as goal

pub returns-else-is_one : goal.returns-else-is_one
returns-else-is_one c =
    let w = c.args.names in
    let x = c.args.text.now in
    let last = w.new_exception && is_named x (codes "newexception") in
    c.is_one-else-is_one.ensures ∙ ap (λ (b : Bool). b || last) (sym c.if-is_one.false ∙ c.is_one.ensures) ∙ sym (waits_by w x)
