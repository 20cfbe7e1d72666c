-- Flat code follows every statement and every block: the induction over the tree.
use Rattle.std.proofs.Common.{◌≡◌, ℕ, Bool, true, List, [], ◌∷◌}
use Rattle.nim_program.specs.Program.{Label, ByConditions, ByLabels, Args, NoArg, ByValue, ByPath, While, Count, Each}
use Rattle.nim_program.specs.Program.{Stmt, Do, Idle, Give, Leave, Select, Loop, Raise, Try, Stmts, Empty, Then, Declare, Defer, Blocks, Otherwise, Block}
use Rattle.flattening.proofs.Spots.{Spot}
use Rattle.flattening.proofs.Acting.{CallsFollow}
use Rattle.nim_meaning.specs.Here.{gives_hooked}
use Rattle.nim_meaning.specs.Shapes.{selector_type}
use Rattle.flattening.specs.Formed.{AllOf}
use Rattle.flattening.proofs.Stmts.{IsListedResult, StmtFollows, BlockFollows, does_value, does_nothing, gives, leaves, raises, tries}
use Rattle.flattening.proofs.Stmts.{empty, then_more, declares, declares_as, no_path, no_defer}
use Rattle.flattening.proofs.Branches.{BranchesFollow, otherwise, block_alone, no_test, no_block, a_branch, by_conditions}
use Rattle.flattening.proofs.Cases.{TestsFollow, by_labels, last_alone, an_arm}
use Rattle.flattening.proofs.Cases as cases
use Rattle.flattening.proofs.WhileLoops.{whiles}
use Rattle.flattening.proofs.CountLoops.{counts}
use Rattle.flattening.proofs.EachLoops.{eaches}

module _ (c : Spot) (top : Bool) (room : ℕ → Type 0) (names : (proc place : ℕ) → Type 0) (calls : CallsFollow c names)
    (outermost : top ≡ true → c.level ≡ 0) (gives_listed : IsListedResult c.fixed.program.types c.result) where
  mutual
    pub stmt_follows : (stmt : Stmt) → StmtFollows c top room names calls outermost gives_listed stmt
    stmt_follows (Do value) = does_value c top room names calls outermost gives_listed value
    stmt_follows (Idle node parts) = does_nothing c top room names calls outermost gives_listed node parts
    stmt_follows (Give node back value) = gives c top room names calls outermost gives_listed node back value
    stmt_follows (Leave node leaving parts) = leaves c top room names calls outermost gives_listed node leaving parts
    stmt_follows (Select node ByConditions tests blocks) =
        by_conditions c top room names calls outermost gives_listed node tests blocks (branches_follow blocks tests)
    stmt_follows (Select node (ByLabels labels) tests blocks) =
        by_labels c top room names calls outermost gives_listed node labels tests blocks
        (λ fit covered. tests_follow blocks labels (gives_hooked c.fixed.program.facts (selector_type tests)) fit covered)
    stmt_follows (Loop node While head body) = whiles c top room names calls outermost gives_listed node head body (block_follows body)
    stmt_follows (Loop node (Count place inclusive) head body) =
        counts c top room names calls outermost gives_listed node place inclusive head body (block_follows body)
    stmt_follows (Loop node (Each place) head body) = eaches c top room names calls outermost gives_listed node place head body (block_follows body)
    stmt_follows (Raise node exception message) = raises c top room names calls outermost gives_listed node exception message
    stmt_follows (Try node body handlers last) = tries c top room names calls outermost gives_listed node body handlers last

    pub block_follows : (block : Stmts) → BlockFollows c top room names calls outermost gives_listed block
    block_follows Empty = empty c top room names calls outermost gives_listed
    block_follows (Then first rest) = then_more c top room names calls outermost gives_listed first rest (stmt_follows first) (block_follows rest)
    block_follows (Declare node place cursor NoArg rest) = declares c top room names calls outermost gives_listed node place cursor rest (block_follows rest)
    block_follows (Declare node place cursor (ByValue value more) rest) =
        declares_as c top room names calls outermost gives_listed node place cursor value more rest (block_follows rest)
    block_follows (Declare node place cursor (ByPath path more) rest) = no_path c top room names calls outermost gives_listed node place cursor path more rest
    block_follows (Defer node last rest) = no_defer c top room names calls outermost gives_listed node last rest

    branches_follow : (blocks : Blocks) (tests : Args) → BranchesFollow c top room names calls outermost gives_listed tests blocks
    branches_follow (Otherwise block) NoArg = otherwise c top room names calls outermost gives_listed block (block_follows block)
    branches_follow (Otherwise block) (ByPath path tests) = no_test c top room names calls outermost gives_listed path tests (Otherwise block)
    branches_follow (Otherwise block) (ByValue condition tests) = no_block c top room names calls outermost gives_listed condition tests block
    branches_follow (Block first rest) NoArg = block_alone c top room names calls outermost gives_listed first rest (block_follows first)
    branches_follow (Block first rest) (ByPath path tests) = no_test c top room names calls outermost gives_listed path tests (Block first rest)
    branches_follow (Block first rest) (ByValue condition tests) =
        a_branch c top room names calls outermost gives_listed condition tests first rest (block_follows first) (branches_follow rest tests)

    tests_follow : (blocks : Blocks) (labels : List (List Label)) (texts : Bool) → AllOf texts labels → (covered : Bool) →
        TestsFollow c top room names calls outermost gives_listed texts covered labels blocks
    tests_follow (Otherwise block) labels texts fit covered =
        cases.otherwise c top room names calls outermost gives_listed texts covered labels block (block_follows block)
    tests_follow (Block first rest) [] texts fit covered =
        last_alone c top room names calls outermost gives_listed texts covered first rest (block_follows first)
    tests_follow (Block first rest) (these ∷ labels) texts fit covered =
        an_arm c top room names calls outermost gives_listed texts covered these fit.0 labels first rest (block_follows first)
        (tests_follow rest labels texts fit.1 covered)
