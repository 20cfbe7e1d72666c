use Rattle.std.proofs.Common.{sym, ◌∙◌}
use Rattle.expr_parts.proofs.Indexing.{since_some, since_none}
use Rattle.expr_parts.proofs.scope.Scope.is_declared_since.Goals as goal

pub returns-in-Some : goal.returns-in-Some
returns-in-Some c = since_some c.args.self.now.decls c.args.name.now c.args.count c.in-Some.number (sym c.last.ensures ∙ c.in-Some.is)

pub returns-in-None : goal.returns-in-None
returns-in-None c = since_none c.args.self.now.decls c.args.name.now c.args.count (sym c.last.ensures ∙ c.in-None.is)
