use Rattle.std.proofs.Common.{drop}
use Rattle.decl_heads.proofs.Opening.{Made}
use Rattle.decl_heads.proofs.given.given_as.Given as goal

abbrev pub invariant-loop-name : goal.invariant-loop-name
invariant-loop-name l = Made l.first l.ty l.mode l.number l.all.items (drop l.name-index l.names) l.names
