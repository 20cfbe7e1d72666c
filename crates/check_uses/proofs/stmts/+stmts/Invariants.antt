use Rattle.std.proofs.Common.{◌≡◌, ◌++◌, [], drop}
use Rattle.nim_program.specs.View.{stmts_of, handlers_of}
use Rattle.decl_rules.specs.Occurrences.{in_block, in_handlers}
use Rattle.check_uses.specs.Uses.{seen, in_branches, in_arms}
use Rattle.check_uses.proofs.stmts.+stmts.Given as goal

abbrev pub invariant-add_block-loop-stmt : goal.invariant-add_block-loop-stmt
invariant-add_block-loop-stmt l =
    seen l.uses ++ in_block (stmts_of [] (drop l.stmt-index l.block.items)) ≡ seen l.fn.uses ++ in_block (stmts_of [] l.block.items)

abbrev pub invariant-add_branches-loop-branch : goal.invariant-add_branches-loop-branch
invariant-add_branches-loop-branch l =
    seen l.uses ++ in_branches (drop l.branch-index l.branches.items) ≡ seen l.fn.uses ++ in_branches l.branches.items

abbrev pub invariant-add_arms-loop-arm : goal.invariant-add_arms-loop-arm
invariant-add_arms-loop-arm l = seen l.uses ++ in_arms (drop l.arm-index l.arms.items) ≡ seen l.fn.uses ++ in_arms l.arms.items

abbrev pub invariant-add_handlers-loop-handler : goal.invariant-add_handlers-loop-handler
invariant-add_handlers-loop-handler l =
    seen l.uses ++ in_handlers (handlers_of [] (drop l.handler-index l.handlers.items)) ≡ seen l.fn.uses ++ in_handlers (handlers_of [] l.handlers.items)
