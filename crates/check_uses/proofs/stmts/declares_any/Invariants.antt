use Rattle.std.proofs.Common.{◌≡◌, [], drop}
use Rattle.nim_program.specs.View.{stmts_of}
use Rattle.decl_rules.specs.Whole.{declares_any}
use Rattle.check_uses.proofs.stmts.declares_any.Given as goal

abbrev pub invariant-loop-stmt : goal.invariant-loop-stmt
invariant-loop-stmt l = declares_any (stmts_of [] l.stmts) ≡ declares_any (stmts_of [] (drop l.stmt-index l.stmts))
