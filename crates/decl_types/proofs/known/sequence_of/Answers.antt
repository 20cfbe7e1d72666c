use Rattle.std.proofs.Common.{sym, ap}
use Rattle.nim_types.specs.Types as type
use Rattle.decl_types.proofs.Numbering.{number_type, below_at}
use Rattle.decl_types.proofs.known.sequence_of.Goals as goal

pub returns-clause-within : goal.returns-clause-within
returns-clause-within c = λ n h. below_at n c.args.ids.now c.args.of c.id_at.result h c.id_at.ensures

pub returns-clause-means : goal.returns-clause-means
returns-clause-means c = λ ts. ap type.sequence (sym (number_type ts c.args.ids.now c.args.of c.id_at.result c.id_at.ensures))
