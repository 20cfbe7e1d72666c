use Rattle.std.proofs.Common.{refl}
use Rattle.program_limits.specs.Limits.{program_in}
use Rattle.core_compiler.proofs.program.within_core.Goals as goal

pub within-requires : goal.within-requires
within-requires c = c.table_forms.ensures c.args.program.now.types (program_in c.args.program.now) refl refl c.requires
