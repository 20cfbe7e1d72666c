-- The numbers of the nodes of typed statements, in order of text: a node comes before its parts.
use Rattle.std.specs.Prelude.{◌≡◌, ℕ, false, List, [], ◌∷◌, ◌++◌}
use Rattle.nim_tree.specs.Statements.{Statement, Statements}
use Rattle.nim_program.specs.Program.{Args, NoArg, ByValue, ByPath, Stmt, Do, Idle, Give, Leave, Select, Loop, Raise, Try, Stmts, Empty, Then, Declare, Defer}
use Rattle.nim_program.specs.Program.{Blocks, Otherwise, Block, Handlers, NoHandler, Handler}
use Rattle.nim_program.specs.Folds.{lists, node_numbers, nodes, total_at, totals}
use Rattle.expr_rules.specs.Numbers.{Run}
use Rattle.decl_rules.specs.Turns.{in_turn, joined}
use Rattle.decl_rules.specs.State.{ResultPlace, Around, in_body, State, Stated, block_of}
use Rattle.decl_rules.specs.Rules.{IsStated, AreStated}
use Rattle.decl_rules.specs.Places.{is_procedure}

abbrev pub operand_nodes : Args → List ℕ
operand_nodes = totals lists node_numbers

-- operand by operand
abbrev pub each_operand : Args → List (List ℕ)
each_operand NoArg = []
each_operand (ByValue a rest) = nodes a ∷ each_operand rest
each_operand (ByPath path rest) = total_at lists node_numbers false path ∷ each_operand rest

abbrev mutual
  pub stmt_nodes : Stmt → List ℕ
  stmt_nodes (Do a) = nodes a
  stmt_nodes (Idle k parts) = k.number ∷ operand_nodes parts
  stmt_nodes (Give k back a) = k.number ∷ nodes a
  stmt_nodes (Leave k leaving parts) = k.number ∷ operand_nodes parts
  stmt_nodes (Select k chooser tests blocks) = k.number ∷ joined (in_turn (each_operand tests) (each_block blocks))
  stmt_nodes (Loop k kind head body) = k.number ∷ (operand_nodes head ++ nodes_of body)
  stmt_nodes (Raise k exception message) = k.number ∷ operand_nodes message
  stmt_nodes (Try k body handlers last) = k.number ∷ (nodes_of body ++ (handler_nodes handlers ++ nodes_of last))

  -- of a block
  pub nodes_of : Stmts → List ℕ
  nodes_of Empty = []
  nodes_of (Then s rest) = stmt_nodes s ++ nodes_of rest
  nodes_of (Declare k place cursor value rest) = k.number ∷ (operand_nodes value ++ nodes_of rest)
  nodes_of (Defer k last rest) = k.number ∷ (nodes_of last ++ nodes_of rest)

  -- block by block
  pub each_block : Blocks → List (List ℕ)
  each_block (Otherwise block) = nodes_of block ∷ []
  each_block (Block first rest) = nodes_of first ∷ each_block rest

  pub handler_nodes : Handlers → List ℕ
  handler_nodes NoHandler = []
  handler_nodes (Handler types name body rest) = nodes_of body ++ handler_nodes rest

-- the nodes of a statement that is no procedure have the numbers from the next one on, up to the next one behind it
abbrev pub NodesNumbered : Type 0
NodesNumbered =
    (a : Around) (ends : ResultPlace) (st : State) (s : Statement) (x : Stated) → IsStated a ends st s x → is_procedure s ≡ false
    → Run st.node (nodes_of (block_of x.steps)) x.state.node

-- so have those of a procedure's body
abbrev pub BodyNumbered : Type 0
BodyNumbered =
    (gives ends : ResultPlace) (st : State) (body : Statements) (x : Stated) → AreStated (in_body gives) ends st body x
    → Run st.node (nodes_of (block_of x.steps)) x.state.node
