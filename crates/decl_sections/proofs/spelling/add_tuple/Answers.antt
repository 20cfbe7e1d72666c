use Rattle.std.proofs.Common.{◌∷◌, [], refl}
use Rattle.std.specs.Prelude.{Ok}
use Rattle.nim_types.specs.Types as type
use Rattle.nim_types.specs.Table.{types_at}
use Rattle.decl_types.specs.declared.nodes.Node.TheVariants as N
use Rattle.decl_sections.proofs.Noding.{adds}
use Rattle.decl_sections.proofs.spelling.add_tuple.Goals as goal

pub returns : goal.returns
returns c = λ scope names.
    let at = c.args.at in
    let parts = c.args.parts in
    adds c.args.out.now.items c.add.new.nodes.items (N.Tuple at parts.names parts.types) scope names
    (λ _ done. Ok (type.tuple parts.names (types_at done parts.types)))
    (λ ty. record { at = at; of = ty } ∷ []) c.add.result c.add.ensures.nodes c.add.ensures.number c.add.ensures.memory (λ ts before keys. refl)
    (λ ty. refl) c.requires (λ n m o. tt)
