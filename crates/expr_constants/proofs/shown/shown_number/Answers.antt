use Rattle.std.proofs.Common.{◌++◌, ap, ap₂, sym, ◌∙◌, Some, to_z, of_z, w32, to_z-of_z}
use Rattle.std.specs.Prelude.{length}
use Rattle.nim_types.specs.Table.{type_at, types_in, facts_in}
use Rattle.nim_program.specs.Program.{Characters}
use Rattle.nim_program.specs.Texts.{plain_text}
use Rattle.nim_program.specs.Kinds.{below_distinct}
use Rattle.plain_values.specs.Values.{text_of}
use Rattle.expr_rules.specs.Constants.{limited}
use Rattle.expr_constants.proofs.shown.shown_number.Goals as goal

pub returns : goal.returns
returns c = λ ts facts u.
    let ds = c.args.types.now in
    let z = to_z w32 (of_z w32 c.args.z) in
    c.limited.ensures
    ∙ ap (λ t. limited (Characters t))
    (c.in_ok-add_text.ensures
    ∙ ap (λ xs. xs ++ text_of (facts_in ds) (Some (type_at (types_in ds) c.args.ty)) z) c.new-text.ensures
    ∙ ap₂ (λ fs ty. plain_text fs (below_distinct (length fs) fs ty) z) (sym u.said) (sym (c.requires ts facts u))
    ∙ ap (plain_text facts (below_distinct (length facts) facts (type_at ts c.args.ty))) (to_z-of_z c.ranges.z))
