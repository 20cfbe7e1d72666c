use Rattle.std.proofs.Common.{length}
use Rattle.check_exprs.proofs.Handing.{typed_number, typed_below}
use Rattle.check_exprs.proofs.public.type_call.Goals as goal

pub returns : goal.returns
returns c = record {
  grown = (c.call.ensures c.args.want).grown;
  answers = (c.call.ensures c.args.want).answers;
  number = typed_number (length c.call.new.types) c.call.result (c.call.ensures c.args.want).fits;
  within = typed_below (length c.call.new.types) c.call.result (c.call.ensures c.args.want).fits;
}
