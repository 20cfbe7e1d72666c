use Rattle.std.proofs.Common.{◌≡◌, ◌++◌, [], drop}
use Rattle.nim_program.specs.View.{stmts_of}
use Rattle.decl_rules.specs.Occurrences.{in_block}
use Rattle.check_uses.specs.Uses.{seen}
use Rattle.check_uses.proofs.stmts.add_part.Given as goal

abbrev pub invariant-loop-stmt : goal.invariant-loop-stmt
invariant-loop-stmt l =
    seen l.uses ++ in_block (stmts_of [] (drop l.stmt-index l.stmts)) ≡ seen l.fn.uses ++ in_block (stmts_of [] l.stmts)
