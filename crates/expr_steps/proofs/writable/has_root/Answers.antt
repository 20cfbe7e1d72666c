use Rattle.std.proofs.Common.{ap, ◌∙◌}
use Rattle.nim_program.specs.View.{expr_of}
use Rattle.expr_rules.specs.Paths.{is_some, path_of, root_of}
use Rattle.expr_steps.proofs.writable.has_root.Goals as goal

pub returns-in-Read : goal.returns-in-Read
returns-in-Read c = λ ts. ap (λ e. is_some (root_of (path_of (expr_of ts e)))) c.in-Read.is ∙ ap is_some (c.root_of.ensures ts) ∙ c.is_some.ensures
