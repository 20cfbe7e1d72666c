use Rattle.std.proofs.Common.{arith}
use Rattle.decl_types.proofs.Numbering.{added_new}
use Rattle.decl_types.proofs.known.add_new.Goals as goal

pub returns-clause-declares : goal.returns-clause-declares
returns-clause-declares c =
    added_new c.args.types.now c.add.new.self c.args.def c.in_ok-id.id c.in_ok-id.ensures.ok (omega (arith, c.if-id-count.false, c.count-count.ensures.count))
