use Rattle.std.proofs.Common.{ap, ◌∙◌, sym, List, ℕ, Bool}
use Rattle.std.specs.Prelude.{◌||◌, if◌then◌else◌}
use Rattle.indent_scanner.specs.Meaning.{inner}
use Rattle.decl_rules.specs.Heads.{is_dollar, is_comparison}
use Rattle.decl_heads.proofs.names.quoted_name.Goals as goal

pub returns-then-is_operation : goal.returns-then-is_operation
returns-then-is_operation c =
    let text = c.args.name.now.text in
    let sign = c.inside-sign.ensures ∙ ap inner c.as_slice-text.ensures in
    sign
    ∙ sym (ap (λ (x : List ℕ). if is_dollar x || is_comparison x then inner text else text) (sym sign)
    ∙ ap (λ (b : Bool). if b then inner text else text) (c.is_operation.ensures ∙ c.if-is_operation.true))

pub returns : goal.returns
returns c =
    let text = c.args.name.now.text in
    let sign = c.inside-sign.ensures ∙ ap inner c.as_slice-text.ensures in
    c.as_slice-text.ensures
    ∙ sym (ap (λ (x : List ℕ). if is_dollar x || is_comparison x then inner text else text) (sym sign)
    ∙ ap (λ (b : Bool). if b then inner text else text) (c.is_operation.ensures ∙ c.if-is_operation.false))
