use Rattle.std.proofs.Common.{length}
use Rattle.check_exprs.proofs.Handing.{typed_number, typed_below}
use Rattle.check_exprs.proofs.public.type_expr.Goals as goal

pub returns : goal.returns
returns c = record {
  grown = c.typed.ensures.grown;
  answers = c.typed.ensures.answers;
  number = typed_number (length c.typed.new.types) c.typed.result c.typed.ensures.fits;
  within = typed_below (length c.typed.new.types) c.typed.result c.typed.ensures.fits;
}
