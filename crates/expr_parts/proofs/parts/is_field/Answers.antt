use Rattle.std.proofs.Common.{ap, ap₂, sym, ◌∙◌}
use Rattle.std.specs.Prelude.{◌&&◌, ◌||◌}
use Rattle.indent_scanner.specs.Words.{is_named}
use Rattle.expr_parts.proofs.Fields.{named_is}
use Rattle.expr_parts.proofs.parts.is_field.Goals as goal

pub returns-then-field : goal.returns-then-field
returns-then-field c =
    let named = sym (named_is c.args.field.now.name c.args.name.now) ∙ ap (λ x. is_named x c.args.name.now) (sym c.as_slice.ensures) ∙ sym c.is_named.ensures in
    ap₂ (λ a b. a && (b || c.args.is_home)) (named ∙ c.if-is_named.true) c.if-field.true ∙ sym c.if-field.true

pub returns-else-field : goal.returns-else-field
returns-else-field c =
    let named = sym (named_is c.args.field.now.name c.args.name.now) ∙ ap (λ x. is_named x c.args.name.now) (sym c.as_slice.ensures) ∙ sym c.is_named.ensures in
    ap₂ (λ a b. a && (b || c.args.is_home)) (named ∙ c.if-is_named.true) c.if-field.false

pub returns-else-is_named : goal.returns-else-is_named
returns-else-is_named c =
    let named = sym (named_is c.args.field.now.name c.args.name.now) ∙ ap (λ x. is_named x c.args.name.now) (sym c.as_slice.ensures) ∙ sym c.is_named.ensures in
    ap (λ a. a && (c.args.field.now.shown || c.args.is_home)) (named ∙ c.if-is_named.false) ∙ sym c.if-is_named.false
