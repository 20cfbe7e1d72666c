-- Nodes and places of a procedure's body are numbered in order of text.
use Rattle.std.proofs.Common.{◌≡◌, ℕ, suc, ◌+◌, ◌-◌, ◌≤◌, true, false, List, [], ◌∷◌, ◌++◌, refl, sym, ap, subst, ◌∙◌}
use Rattle.std.proofs.Common.{append_assoc, arith}
use Rattle.std.proofs.lemmas.Bool.{le-leb, eq-eqb}
use Rattle.nim_tree.specs.Statements.{Head, Statements}
use Rattle.nim_program.specs.declared.nodes.TheConstants.{MOST_NODES}
use Rattle.nim_program.specs.Program as P
use Rattle.nim_program.specs.Program.{Declared, Args, Stmt, Stmts, Blocks, Handlers}
use Rattle.nim_program.specs.Folds as F
use Rattle.nim_program.specs.Folds.{lists, together, node_numbers, total_in, total_of, total_of_handlers, each, block_nodes, block_places, if_declared}
use Rattle.nim_program.specs.Folds.{param_places}
use Rattle.nim_program.specs.Folds.{body_places}
use Rattle.nim_program.specs.Numbering.{rise_to, follow, numbers_of, is_numbered}
use Rattle.expr_rules.specs.Numbers.{Run, run_over, run_on}
use Rattle.decl_rules.specs.State.{State, in_body, block_of, Stated}
use Rattle.decl_rules.specs.Turns.{in_turn, joined}
use Rattle.decl_rules.specs.Heads.{Headed}
use Rattle.decl_rules.specs.Bodies.{params_from, result_of, before_body, body_of}
use Rattle.decl_rules.specs.Nodes as N
use Rattle.decl_rules.specs.Nodes.{each_operand, stmt_nodes, nodes_of, handler_nodes, BodyNumbered}
use Rattle.decl_rules.specs.Places.{place_numbers, ProcedureNumbered}
use Rattle.decl_rules.specs.Rules.{AreStated}
use Rattle.typing_laws.proofs.Tests.{both}

-- ---- one by one

pub run_rises : {n m : ℕ} {ns : List ℕ} (to : ℕ) → Run n ns m → m ≤ to → rise_to n to ns ≡ true
run_rises {n} to run_over l = le-leb n to l
run_rises {n} to (run_on r) l = both (le-leb n n (omega arith)) (run_rises to r l)

run_head : {n k m : ℕ} {ns : List ℕ} → Run n (k ∷ ns) m → (n ≡ k) × Run (suc n) ns m
run_head (run_on r) = (refl, r)

run_follows : (n m : ℕ) (xs ys : List Declared) → Run n (place_numbers (xs ++ ys)) m → follow n (numbers_of xs) ≡ true
run_follows n m [] ys r = refl
run_follows n m (d ∷ xs) ys r = let h = run_head r in both (eq-eqb n d.number h.0) (run_follows (suc n) m xs ys h.1)

-- ---- the nodes of a block, by the fold

all_joined : (xs : List (List ℕ)) → joined xs ≡ together lists xs
all_joined [] = refl
all_joined (x ∷ xs) = ap (λ ys. x ++ ys) (all_joined xs)

same_turns : (xs ys : List (List ℕ)) → joined (in_turn xs ys) ≡ F.in_turn lists xs ys
same_turns [] ys = all_joined ys
same_turns (x ∷ xs) [] = ap (λ ys. x ++ ys) (all_joined xs)
same_turns (x ∷ xs) (y ∷ ys) = ap (λ zs. x ++ (y ++ zs)) (same_turns xs ys)

same_operands : (args : Args) → each_operand args ≡ each lists node_numbers args
same_operands P.NoArg = refl
same_operands (P.ByValue e rest) = ap (λ xs. F.nodes e ∷ xs) (same_operands rest)
same_operands (P.ByPath path rest) = ap (λ xs. F.total_at lists node_numbers false path ∷ xs) (same_operands rest)

mutual
  same_stmt : (s : Stmt) → stmt_nodes s ≡ total_in lists node_numbers s
  same_stmt (P.Do e) = refl
  same_stmt (P.Idle k parts) = refl
  same_stmt (P.Give k back e) = refl
  same_stmt (P.Leave k leaving parts) = refl
  same_stmt (P.Select k chooser tests blocks) =
      ap (λ xs. k.number ∷ joined (in_turn xs (N.each_block blocks))) (same_operands tests)
      ∙ ap (λ xs. k.number ∷ joined (in_turn (each lists node_numbers tests) xs)) (same_blocks blocks)
      ∙ ap (λ xs. k.number ∷ xs) (same_turns (each lists node_numbers tests) (F.each_block lists node_numbers blocks))
  same_stmt (P.Loop k kind head body) = ap (λ xs. k.number ∷ (F.totals lists node_numbers head ++ xs)) (same_nodes body)
  same_stmt (P.Raise k exception message) = refl
  same_stmt (P.Try k body handlers last) =
      ap (λ xs. k.number ∷ (xs ++ (handler_nodes handlers ++ nodes_of last))) (same_nodes body)
      ∙ ap (λ xs. k.number ∷ (block_nodes body ++ (xs ++ nodes_of last))) (same_handlers handlers)
      ∙ ap (λ xs. k.number ∷ (block_nodes body ++ (total_of_handlers lists node_numbers handlers ++ xs))) (same_nodes last)

  pub same_nodes : (block : Stmts) → nodes_of block ≡ block_nodes block
  same_nodes P.Empty = refl
  same_nodes (P.Then s rest) = ap (λ xs. xs ++ nodes_of rest) (same_stmt s) ∙ ap (λ xs. total_in lists node_numbers s ++ xs) (same_nodes rest)
  same_nodes (P.Declare k place cursor value rest) = ap (λ xs. k.number ∷ (F.totals lists node_numbers value ++ xs)) (same_nodes rest)
  same_nodes (P.Defer k last rest) =
      ap (λ xs. k.number ∷ (xs ++ nodes_of rest)) (same_nodes last) ∙ ap (λ xs. k.number ∷ (block_nodes last ++ xs)) (same_nodes rest)

  same_blocks : (blocks : Blocks) → N.each_block blocks ≡ F.each_block lists node_numbers blocks
  same_blocks (P.Otherwise block) = ap (λ xs. xs ∷ []) (same_nodes block)
  same_blocks (P.Block first rest) = ap (λ xs. xs ∷ N.each_block rest) (same_nodes first) ∙ ap (λ xs. block_nodes first ∷ xs) (same_blocks rest)

  same_handlers : (handlers : Handlers) → handler_nodes handlers ≡ total_of_handlers lists node_numbers handlers
  same_handlers P.NoHandler = refl
  same_handlers (P.Handler types name body rest) =
      ap (λ xs. xs ++ handler_nodes rest) (same_nodes body) ∙ ap (λ xs. block_nodes body ++ xs) (same_handlers rest)

-- ---- bodies

pub body_numbered : BodyNumbered → ProcedureNumbered → (st : State) (h : Head) (k : Headed) (body : Statements) (s : Stated)
    → AreStated (in_body (result_of st h k)) (result_of st h k) (before_body st h k) body s → s.state.node ≤ MOST_NODES
    → is_numbered (params_from st.place k.signature.params) (body_of st h k s) ≡ true
body_numbered nodes places st h k body s is l =
    let params = params_from st.place k.signature.params in
    let own = param_places params ++ if_declared (result_of st h k) in
    let n = nodes (result_of st h k) (result_of st h k) (before_body st h k) body s is in
    let p = places st h k body s is in
    let q : Run st.place (place_numbers (own ++ block_places (block_of s.steps))) s.state.place =
    subst (λ ps. Run st.place (place_numbers ps) s.state.place)
    (sym (append_assoc (param_places params) (if_declared (result_of st h k)) (block_places (block_of s.steps)))) p in
    both (run_rises MOST_NODES (subst (λ ns. Run st.node ns s.state.node) (same_nodes (block_of s.steps)) n) l)
    (both (run_follows st.place s.state.place own (block_places (block_of s.steps)) q)
    (run_rises (st.place + (s.state.place - st.place)) p (at_least st.place s.state.place)))
  where
    at_least : (a b : ℕ) → b ≤ a + (b - a)
    at_least a b = omega arith
