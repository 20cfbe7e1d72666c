-- Examples of whole nodes, with their numbers and places.
use Rattle.std.specs.Prelude.{ℕ, ℤ, pos, true, List, [], ◌∷◌, codes, Option, Some, None, Ok}
use Rattle.nim_tree.specs.declared.expr.BinaryOp.TheVariants as sign
use Rattle.nim_tree.specs.Terms as term
use Rattle.nim_tree.specs.Terms.{Term, int, char, text, name, paren, field, call, index, no_parts, part, no_choices, choice}
use Rattle.nim_types.specs.Types as type
use Rattle.nim_types.specs.Types.{Ty}
use Rattle.nim_program.specs.declared.operation.Operation.TheVariants as operation
use Rattle.nim_program.specs.declared.operation.Operator.TheVariants as operator
use Rattle.nim_program.specs.declared.operation.Measure.TheVariants as measure
use Rattle.nim_program.specs.declared.operation.Short.TheVariants.{And}
use Rattle.nim_program.specs.Program.{Expr, Early, Choose, Read, Path, Variable, Fresh, Field, Element, ByValue, ByPath, ByConditions, ByLabels}
use Rattle.nim_program.specs.Program.{Ordinals, Literal, Number, Characters, PartsOf, ElementsOf, NoLiteral, ALiteral}
use Rattle.nim_program.specs.Nodes as made
use Rattle.nim_program.specs.Nodes.{one_value, two_values, one_path, path_and_value, doing, acting}
use Rattle.expr_rules.specs.Answers.{Answer, not_typed, Typed, typed_as, valued, nothing, node}
use Rattle.expr_rules.specs.Constants.{constant_rule}
use Rattle.expr_rules.specs.Typed.{typed}
use Rattle.expr_rules.specs.Examples.{scene, at, point, color}

abbrev in_nums : Term → Answer Typed
in_nums i = typed scene nothing 0 (index (at 1) (name (at 1) (codes "nums")) (part i no_parts))

abbrev pub node_answers : List (Answer Typed)
node_answers =
    -- i + f(j), from 5 on
    typed scene nothing 5
    (term.binary (at 1) sign.Plus (name (at 1) (codes "i")) (call (at 5) (name (at 5) (codes "f")) (part (name (at 7) (codes "j")) no_parts)))
    -- t[1]: the index of a tuple is no node
    ∷ typed scene nothing 0 (index (at 1) (name (at 1) (codes "t")) (part (int (at 3) (pos 1)) no_parts))
    -- (n): the constant's value, from 4 on; a parenthesis is no node
    ∷ typed scene nothing 4 (paren (at 1) (name (at 2) (codes "n")))
    -- echo(p, i): the `$` of p is called, before p
    ∷ typed scene nothing 0 (call (at 1) (name (at 1) (codes "echo")) (part (name (at 6) (codes "p")) (part (name (at 9) (codes "i")) no_parts)))
    -- case c of red: 1 else: i: labels are no nodes, and c is read in place
    ∷ typed scene nothing 0 (term.case_else (at 1) (name (at 6) (codes "c"))
    (choice (at 8) (part (name (at 11) (codes "red")) no_parts) (int (at 16) (pos 1)) no_choices) (name (at 24) (codes "i")))
    -- if b: 1 elif b and b: 2 else: 3: each condition comes before its value
    ∷ typed scene nothing 0 (term.if_term (at 1)
    (choice (at 4) (part (name (at 4) (codes "b")) no_parts) (int (at 7) (pos 1))
    (choice (at 14) (part (term.binary (at 14) sign.And (name (at 14) (codes "b")) (name (at 20) (codes "b"))) no_parts) (int (at 23) (pos 2)) no_choices))
    (int (at 31) (pos 3)))
    -- newSeq[int](3): types are no nodes
    ∷ typed scene nothing 0 (call (at 1) (index (at 1) (name (at 1) (codes "newSeq")) (part (name (at 8) (codes "int")) no_parts))
    (part (int (at 13) (pos 3)) no_parts))
    -- i.inc(2)
    ∷ typed scene nothing 0 (call (at 1) (field (at 1) (name (at 1) (codes "i")) (codes "inc")) (part (int (at 7) (pos 2)) no_parts))
    -- s.add('c'), grid.add(nums)
    ∷ typed scene nothing 0 (call (at 1) (field (at 1) (name (at 1) (codes "s")) (codes "add")) (part (char (at 7) 99) no_parts))
    ∷ typed scene nothing 0 (call (at 1) (field (at 1) (name (at 1) (codes "grid")) (codes "add")) (part (name (at 10) (codes "nums")) no_parts))
    -- len("ab")
    ∷ typed scene nothing 0 (call (at 1) (name (at 1) (codes "len")) (part (text (at 5) (codes "\"ab\"")) no_parts))
    -- g(i, t.a)
    ∷ typed scene nothing 0 (call (at 1) (name (at 1) (codes "g"))
    (part (name (at 3) (codes "i")) (part (field (at 6) (name (at 6) (codes "t")) (codes "a")) no_parts)))
    ∷ []

abbrev i_at : (number column : ℕ) → Path
i_at number column = Variable (node number (at column)) type.int 0 true

abbrev nums_at : (number column : ℕ) → Path
nums_at number column = Variable (node number (at column)) (type.sequence type.int) 6 true

abbrev t_at : (number column : ℕ) → Path
t_at number column =
    Variable (node number (at column)) (type.tuple (codes "a" ∷ codes "b" ∷ []) (type.types type.int (type.types type.bool type.no_types))) 9 true

abbrev b_at : (number column : ℕ) → Expr
b_at number column = Read (Variable (node number (at column)) type.bool 4 true)

abbrev int_at : (number column : ℕ) → ℤ → Expr
int_at number column z = made.literal (node number (at column)) type.int (Number z)

abbrev pub expected_nodes : List (Answer Typed)
expected_nodes =
    Ok (typed_as (made.binary (node 5 (at 1)) type.int operator.Add (Read (i_at 6 1))
    (made.call (node 7 (at 5)) (Some type.int) 0 (one_value (Read (Variable (node 8 (at 7)) type.int 1 true))))) 9)
    ∷ Ok (typed_as (Read (Field (node 0 (at 1)) type.bool (t_at 1 1) 1)) 2)
    ∷ Ok (typed_as (int_at 4 2 (pos 3)) 5)
    ∷ Ok (typed_as (made.echo (node 0 (at 1))
    (two_values (made.call (node 1 (at 6)) (Some type.text) 7 (one_value (Read (Variable (node 2 (at 6)) point 11 true)))) (Read (i_at 3 9)))) 4)
    ∷ Ok (typed_as (Choose (node 0 (at 1)) (Some type.int) (ByLabels ((Ordinals (pos 0) (pos 0) ∷ []) ∷ []))
    (ByPath (Variable (node 1 (at 6)) color 12 true) (two_values (int_at 2 16 (pos 1)) (Read (i_at 3 24))))) 4)
    ∷ Ok (typed_as (Choose (node 0 (at 1)) (Some type.int) ByConditions
    (ByValue (b_at 1 4) (ByValue (int_at 2 7 (pos 1)) (ByValue (Early (node 3 (at 14)) type.bool And (b_at 4 14) (b_at 5 20))
    (two_values (int_at 6 23 (pos 2)) (int_at 7 31 (pos 3))))))) 8)
    ∷ Ok (typed_as (made.new_sequence (node 0 (at 1)) (type.sequence type.int) (int_at 1 13 (pos 3))) 2)
    ∷ Ok (typed_as (acting (node 0 (at 1)) (operation.Update operator.Add) (path_and_value (i_at 1 1) (int_at 2 7 (pos 2)))) 3)
    ∷ Ok (typed_as (acting (node 0 (at 1)) operation.Append
    (path_and_value (Variable (node 1 (at 1)) type.text 3 true) (made.literal (node 2 (at 7)) type.char (Number (pos 99))))) 3)
    ∷ Ok (typed_as (acting (node 0 (at 1)) operation.Add
    (path_and_value (Variable (node 1 (at 1)) (type.sequence (type.sequence type.int)) 7 true) (Read (nums_at 2 10)))) 3)
    ∷ Ok (typed_as (doing (node 0 (at 1)) type.int (operation.Measure measure.Len)
    (one_path (Fresh (made.literal (node 1 (at 5)) type.text (Characters (codes "ab")))))) 2)
    ∷ Ok (typed_as (made.call (node 0 (at 1)) None 2 (ByPath (i_at 1 3) (one_path (Field (node 2 (at 6)) type.int (t_at 3 6) 0)))) 4)
    ∷ []

-- ---- constant indexes

abbrev constant_in : Answer Typed → Option (Option ℤ)
constant_in (Ok x) = in_expr x.expr
  where
    in_expr : Expr → Option (Option ℤ)
    in_expr (Read (Element k ty base i constant)) = Some constant
    in_expr _ = None
constant_in _ = None

abbrev pub index_answers : List (Option (Option ℤ))
index_answers =
    -- nums[i]
    constant_in (in_nums (name (at 6) (codes "i")))
    -- nums[n - 1]
    ∷ constant_in (in_nums (term.binary (at 6) sign.Minus (name (at 6) (codes "n")) (int (at 10) (pos 1))))
    -- nums["ab".len]
    ∷ constant_in (in_nums (field (at 6) (text (at 6) (codes "\"ab\"")) (codes "len")))
    -- nums[ord(C(1))]
    ∷ constant_in (in_nums (call (at 6) (name (at 6) (codes "ord"))
    (part (call (at 10) (name (at 10) (codes "C")) (part (int (at 12) (pos 1)) no_parts)) no_parts)))
    -- nums[ord(C(3))]: there is no such member
    ∷ constant_in (in_nums (call (at 6) (name (at 6) (codes "ord"))
    (part (call (at 10) (name (at 10) (codes "C")) (part (int (at 12) (pos 3)) no_parts)) no_parts)))
    -- nums[arr.len]: a variable isn't constant, nor is what is asked of it
    ∷ constant_in (in_nums (field (at 6) (name (at 6) (codes "arr")) (codes "len")))
    ∷ []

abbrev pub expected_indexes : List (Option (Option ℤ))
expected_indexes = Some None ∷ Some (Some (pos 2)) ∷ Some (Some (pos 2)) ∷ Some (Some (pos 1)) ∷ Some None ∷ Some None ∷ []

-- ---- values of constants

abbrev pub constant_answers : List (Answer Literal)
constant_answers =
    -- the fields of p are given in another order, and one isn't
    constant_rule scene.facts
    (valued (made.construct (node 0 (at 1)) point (1 ∷ 0 ∷ []) (two_values (int_at 1 10 (pos 2)) (int_at 2 16 (pos 1)))) point)
    -- @["a"]
    ∷ constant_rule scene.facts (valued (made.sequence (node 0 (at 1)) (type.sequence type.text)
    (one_value (made.literal (node 1 (at 3)) type.text (Characters (codes "a"))))) (type.sequence type.text))
    -- i
    ∷ constant_rule scene.facts (valued (Read (i_at 0 1)) type.int)
    -- 1 div 0
    ∷ constant_rule scene.facts
    (valued (made.binary (node 0 (at 1)) type.int operator.Divide (int_at 1 1 (pos 1)) (int_at 2 7 (pos 0))) type.int)
    ∷ []

abbrev pub expected_constants : List (Answer Literal)
expected_constants =
    Ok (PartsOf (ALiteral (Number (pos 1)) (ALiteral (Number (pos 2)) (ALiteral (Characters []) NoLiteral))))
    ∷ Ok (ElementsOf (ALiteral (Characters (codes "a")) NoLiteral))
    ∷ not_typed (at 1)
    ∷ not_typed (at 1)
    ∷ []
