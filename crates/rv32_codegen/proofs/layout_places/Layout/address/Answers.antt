use Rattle.std.proofs.Common.{◌+◌, ◌%◌, ap, ◌∙◌}
use Rattle.std.specs.List.{slice_get}
use Rattle.std.specs.Option.{unwrap_or}
use Rattle.rv32_isa.specs.Hooks.{code_at}
use Rattle.rv32_codegen.proofs.LayoutPlaces.{address_is, address_four}
use Rattle.rv32_codegen.proofs.layout_places.Layout.address.Goals as goal

pub returns-clause-is : goal.returns-clause-is
returns-clause-is c =
    let self = c.args.self.now in
    let bytes = c.size_or-bytes.ensures ∙ ap (λ l. unwrap_or (slice_get l c.args.left) self.total) c.deref.ensures.value in
    λ before lines within left.
    ap (λ n. code_at + n) c.saturating_sub.ensures ∙
    address_is c.args.code.now self c.args.left c.size_or-bytes.result before lines c.requires.layout bytes within left

pub returns-clause-whole : goal.returns-clause-whole
returns-clause-whole c =
    let self = c.args.self.now in
    let bytes = c.size_or-bytes.ensures ∙ ap (λ l. unwrap_or (slice_get l c.args.left) self.total) c.deref.ensures.value in
    ap (λ n. (code_at + n) % 4) c.saturating_sub.ensures ∙ address_four c.args.code.now self c.args.left c.size_or-bytes.result c.requires.layout bytes
