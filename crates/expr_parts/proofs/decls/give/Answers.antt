use Rattle.std.proofs.Common.{length, refl, ap, sym, ◌∙◌}
use Rattle.std.proofs.lemmas.Option.{slice_get_read}
use Rattle.expr_parts.specs.declared.scope.Decl.{Decl}
use Rattle.expr_parts.proofs.Indexing.{set_mended}
use Rattle.expr_parts.proofs.decls.give.Goals as goal

pub returns : goal.returns
returns c =
    let ds = c.args.decls.now in
    let d = c.index-decls-i.result in
    let w = c.args.what in
    set_mended ds c.args.i d c.set_what.new.decl w (slice_get_read ds (length ds) c.args.i d refl c.requires c.index-decls-i.is)
    (c.set_what.ensures ∙ ap (λ (z : Decl). record { name = z.name; what = w }) (sym c.index-decls-i.is))
