use Rattle.std.proofs.Common.{refl, length}
use Rattle.std.specs.Prelude.{nat_eq}
use Rattle.expr_parts.proofs.Fields.{counted}
use Rattle.expr_parts.proofs.conversions.same_length.Goals as goal

pub returns : goal.returns
returns c = λ ts own_hooks.
    let fs = c.args.fields.now in
    let ps = c.args.parts.now in
    counted ts fs ps own_hooks (nat_eq (length fs) (length ps)) refl
