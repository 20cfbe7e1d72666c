-- Expressions, without where they lie in memory.
use Rattle.std.specs.Prelude.{ℕ, ℤ, suc, ◌+◌, max, List, [], ◌∷◌}
use Rattle.arc_base.specs.declared.place.Place.{Place}
use Rattle.nim_tree.specs.declared.expr.UnaryOp.{UnaryOp}
use Rattle.nim_tree.specs.declared.expr.BinaryOp.{BinaryOp}
use Rattle.nim_tree.specs.declared.expr.Choice.{Choice}
use Rattle.nim_tree.specs.declared.expr.Expr.{Expr}
use Rattle.nim_tree.specs.declared.expr.Expr.TheBlock.{Row_of-Expr, end_of-Expr, more_of-Expr, Row_of-Choice, end_of-Choice, more_of-Choice, Held-Expr-Case-3}
use Rattle.nim_tree.specs.declared.expr.Expr.TheBlock.{None', Some'}
use Rattle.nim_tree.specs.declared.expr.Expr.TheVariants as E

mutual
  pub data Term : Type 0 where
    int : Place → ℤ → Term
    char : Place → ℕ → Term
    text : Place → List ℕ → Term
    name : Place → List ℕ → Term
    quoted : Place → List ℕ → Term
    nil : Place → Term
    paren : Place → Term → Term
    tuple : Place → Parts → Term
    array : Place → Parts → Term
    sequence : Place → Parts → Term
    construct : Place → List ℕ → Parts → Term
    named : Place → List ℕ → Term → Term
    field : Place → Term → List ℕ → Term
    call : Place → Term → Parts → Term
    index : Place → Term → Parts → Term
    unary : Place → UnaryOp → Term → Term
    binary : Place → BinaryOp → Term → Term → Term
    if_term : Place → Choices → Term → Term
    -- without `else`, and with
    case_term : Place → Term → Choices → Term
    case_else : Place → Term → Choices → Term → Term
    range : Place → Term → Term → Term

  -- the branches of an `if` or `case`: a place, a condition or labels, and a value
  pub data Choices : Type 0 where
    no_choices : Choices
    choice : Place → (tests : Parts) → (value : Term) → (rest : Choices) → Choices

  -- what stands in brackets, in order
  pub data Parts : Type 0 where
    no_parts : Parts
    part : (first : Term) (rest : Parts) → Parts

-- with one more part behind
abbrev pub and_part : Parts → Term → Parts
and_part no_parts a = part a no_parts
and_part (part first rest) a = part first (and_part rest a)

-- with one more branch behind
abbrev pub and_choice : Choices → Place → Parts → Term → Choices
and_choice no_choices at tests value = choice at tests value no_choices
and_choice (choice p first a rest) at tests value = choice p first a (and_choice rest at tests value)

-- the place of its first token
abbrev pub place_of : Term → Place
place_of (int at value) = at
place_of (char at value) = at
place_of (text at bytes) = at
place_of (name at bytes) = at
place_of (quoted at bytes) = at
place_of (nil at) = at
place_of (paren at a) = at
place_of (tuple at parts) = at
place_of (array at parts) = at
place_of (sequence at parts) = at
place_of (construct at bytes parts) = at
place_of (named at bytes a) = at
place_of (field at a bytes) = at
place_of (call at a parts) = at
place_of (index at a parts) = at
place_of (unary at op a) = at
place_of (binary at op a b) = at
place_of (if_term at branches a) = at
place_of (case_term at a branches) = at
place_of (case_else at a branches b) = at
place_of (range at a b) = at

-- what stands in its brackets, but for a parenthesis
abbrev pub parts_in : Term → Parts
parts_in (tuple at parts) = parts
parts_in (array at parts) = parts
parts_in (sequence at parts) = parts
parts_in (construct at bytes parts) = parts
parts_in (call at a parts) = parts
parts_in (index at a parts) = parts
parts_in _ = no_parts

-- the branches of an `if` or `case`
abbrev pub branches_in : Term → Choices
branches_in (if_term at branches a) = branches
branches_in (case_term at a branches) = branches
branches_in (case_else at a branches b) = branches
branches_in _ = no_choices

abbrev mutual
  -- a literal or a name has one level, any other expression one more than the highest of its operands or parts
  pub levels : Term → ℕ
  levels (int at value) = 1
  levels (char at value) = 1
  levels (text at bytes) = 1
  levels (name at bytes) = 1
  levels (quoted at bytes) = 1
  levels (nil at) = 1
  levels (paren at a) = suc (levels a)
  levels (tuple at parts) = suc (most_levels parts)
  levels (array at parts) = suc (most_levels parts)
  levels (sequence at parts) = suc (most_levels parts)
  levels (construct at bytes parts) = suc (most_levels parts)
  levels (named at bytes a) = levels a
  levels (field at a bytes) = suc (levels a)
  levels (call at a parts) = suc (max (levels a) (most_levels parts))
  levels (index at a parts) = suc (max (levels a) (most_levels parts))
  levels (unary at op a) = suc (levels a)
  levels (binary at op a b) = suc (max (levels a) (levels b))
  levels (if_term at branches a) = suc (max (levels_in branches) (levels a))
  levels (case_term at a branches) = suc (max (levels a) (levels_in branches))
  levels (case_else at a branches b) = suc (max (max (levels a) (levels_in branches)) (levels b))
  levels (range at a b) = max (levels a) (levels b)

  -- those of the highest part
  pub most_levels : Parts → ℕ
  most_levels no_parts = 0
  most_levels (part first rest) = max (levels first) (most_levels rest)

  -- those of the highest condition, label or value
  pub levels_in : Choices → ℕ
  levels_in no_choices = 0
  levels_in (choice at tests a rest) = max (max (most_levels tests) (levels a)) (levels_in rest)

abbrev mutual
  -- its parts that have a place of their own: itself, its operands and parts, and its branches
  pub nodes : Term → ℕ
  nodes (int at value) = 1
  nodes (char at value) = 1
  nodes (text at bytes) = 1
  nodes (name at bytes) = 1
  nodes (quoted at bytes) = 1
  nodes (nil at) = 1
  nodes (paren at a) = suc (nodes a)
  nodes (tuple at parts) = suc (nodes_in parts)
  nodes (array at parts) = suc (nodes_in parts)
  nodes (sequence at parts) = suc (nodes_in parts)
  nodes (construct at bytes parts) = suc (nodes_in parts)
  nodes (named at bytes a) = suc (nodes a)
  nodes (field at a bytes) = suc (nodes a)
  nodes (call at a parts) = suc (nodes a + nodes_in parts)
  nodes (index at a parts) = suc (nodes a + nodes_in parts)
  nodes (unary at op a) = suc (nodes a)
  nodes (binary at op a b) = suc (nodes a + nodes b)
  nodes (if_term at branches a) = suc (nodes_of branches + nodes a)
  nodes (case_term at a branches) = suc (nodes a + nodes_of branches)
  nodes (case_else at a branches b) = suc (nodes a + nodes_of branches + nodes b)
  nodes (range at a b) = suc (nodes a + nodes b)

  pub nodes_in : Parts → ℕ
  nodes_in no_parts = 0
  nodes_in (part first rest) = nodes first + nodes_in rest

  pub nodes_of : Choices → ℕ
  nodes_of no_choices = 0
  nodes_of (choice at tests a rest) = suc (nodes_in tests + nodes a) + nodes_of rest

-- ---- the trees of the parser

abbrev mutual
  -- the tree without where it lies in memory
  pub term_of : Expr → Term
  term_of (E.Int at value) = int at value
  term_of (E.Char at value) = char at value
  term_of (E.Text at bytes) = text at bytes
  term_of (E.Name at bytes) = name at bytes
  term_of (E.Quoted at bytes) = quoted at bytes
  term_of (E.Nil at) = nil at
  term_of (E.Paren' at p a) = paren at (term_of a)
  term_of (E.Tuple' at p parts) = tuple at (row_of parts)
  term_of (E.Array' at p parts) = array at (row_of parts)
  term_of (E.Sequence' at p parts) = sequence at (row_of parts)
  term_of (E.Construct' at bytes p parts) = construct at bytes (row_of parts)
  term_of (E.Named' at bytes p a) = named at bytes (term_of a)
  term_of (E.Field' at p a bytes) = field at (term_of a) bytes
  term_of (E.Call' at p a q parts) = call at (term_of a) (row_of parts)
  term_of (E.Index' at p a q parts) = index at (term_of a) (row_of parts)
  term_of (E.Unary' at op p a) = unary at op (term_of a)
  term_of (E.Binary' at op p a q b) = binary at op (term_of a) (term_of b)
  term_of (E.If' at p branches q a) = if_term at (choices_in branches) (term_of a)
  term_of (E.Case' at p a q branches other) = case_of at (term_of a) (choices_in branches) other
  term_of (E.Range' at p a q b) = range at (term_of a) (term_of b)

  -- with the value of `else` where there is one
  pub case_of : Place → Term → Choices → Held-Expr-Case-3 → Term
  case_of at a branches None' = case_term at a branches
  case_of at a branches (Some' p b) = case_else at a branches (term_of b)

  -- the parts, as an `Expr` of the code holds them
  pub row_of : {m : _} → Row_of-Expr m → Parts
  row_of end_of-Expr = no_parts
  row_of (more_of-Expr first row) = part (term_of first) (row_of row)

  -- the branches, as an `Expr` of the code holds them
  pub choices_in : {m : _} → Row_of-Choice m → Choices
  choices_in end_of-Choice = no_choices
  choices_in (more_of-Choice at p tests a row) = choice at (row_of tests) (term_of a) (choices_in row)

-- of a list of trees
abbrev pub parts_of : List Expr → Parts
parts_of [] = no_parts
parts_of (first ∷ rest) = part (term_of first) (parts_of rest)

-- of a list of branches
abbrev pub choices_of : List Choice → Choices
choices_of [] = no_choices
choices_of (first ∷ rest) = choice first.at (parts_of first.tests.items) (term_of first.value) (choices_of rest)
