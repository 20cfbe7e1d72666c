use Rattle.std.proofs.Common.{ap, ◌∙◌, sym, Bool}
use Rattle.std.specs.Prelude.{if◌then◌else◌}
use Rattle.indent_scanner.specs.Words.{normal}
use Rattle.decl_rules.specs.Heads.{quoted_name}
use Rattle.decl_heads.proofs.names.procedure_name.Goals as goal

pub returns-then-name-clause-name : goal.returns-then-name-clause-name
returns-then-name-clause-name c =
    let d = c.args.name.now in
    c.in_ok-sign.ensures ∙ c.quoted_name.ensures ∙ sym (ap (λ (b : Bool). if b then quoted_name d else normal d.text) c.if-name.true)

pub returns-clause-name : goal.returns-clause-name
returns-clause-name c =
    let d = c.args.name.now in
    c.in_ok-word.ensures ∙ ap normal c.as_slice.ensures ∙ sym (ap (λ (b : Bool). if b then quoted_name d else normal d.text) c.if-name.false)
