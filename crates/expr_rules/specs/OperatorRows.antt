-- Examples of literals, names and operators: above each term its text, with a sign before the place of a refusal.
use Rattle.std.specs.Prelude.{pos, List, [], ◌∷◌, codes, Some}
use Rattle.arc_base.specs.declared.place.Code.TheVariants.{UnknownName, NotTyped, LeftOut}
use Rattle.nim_tree.specs.declared.expr.UnaryOp.TheVariants as unary_sign
use Rattle.nim_tree.specs.declared.expr.BinaryOp.TheVariants as sign
use Rattle.nim_tree.specs.Terms.{int, char, text, name, nil, paren, sequence, field, call, unary, binary, no_parts}
use Rattle.nim_types.specs.Types as type
use Rattle.expr_rules.specs.Answers.{nothing}
use Rattle.expr_rules.specs.Examples.{Row, row, has, stops, at, color}

abbrev pub literals_rows : List Row
literals_rows =
    -- 1
    row nothing (int (at 1) (pos 1)) (has (Some type.int))
    -- 'a'
    ∷ row nothing (char (at 1) 97) (has (Some type.char))
    -- "a"
    ∷ row nothing (text (at 1) (codes "\"a\"")) (has (Some type.text))
    -- true
    ∷ row nothing (name (at 1) (codes "true")) (has (Some type.bool))
    -- (1)
    ∷ row nothing (paren (at 1) (int (at 2) (pos 1))) (has (Some type.int))
    -- §nil
    ∷ row nothing (nil (at 1)) (stops LeftOut 1)
    ∷ []

abbrev pub names_rows : List Row
names_rows =
    -- i
    row nothing (name (at 1) (codes "i")) (has (Some type.int))
    -- n
    ∷ row nothing (name (at 1) (codes "n")) (has (Some type.int))
    -- red
    ∷ row nothing (name (at 1) (codes "red")) (has (Some color))
    -- §y
    ∷ row nothing (name (at 1) (codes "y")) (stops UnknownName 1)
    -- §int
    ∷ row nothing (name (at 1) (codes "int")) (stops NotTyped 1)
    -- §f
    ∷ row nothing (name (at 1) (codes "f")) (stops NotTyped 1)
    -- §len
    ∷ row nothing (name (at 1) (codes "len")) (stops NotTyped 1)
    -- §stdin
    ∷ row nothing (name (at 1) (codes "stdin")) (stops NotTyped 1)
    -- §C.red
    ∷ row nothing (field (at 1) (name (at 1) (codes "C")) (codes "red")) (stops NotTyped 1)
    -- §Point.x
    ∷ row nothing (field (at 1) (name (at 1) (codes "Point")) (codes "x")) (stops NotTyped 1)
    ∷ []

abbrev pub operators_rows : List Row
operators_rows =
    -- 1 + 2 * 3
    row nothing (binary (at 1) sign.Plus (int (at 1) (pos 1)) (binary (at 5) sign.Times (int (at 5) (pos 2)) (int (at 9) (pos 3)))) (has (Some
    type.int))
    -- §1 + true
    ∷ row nothing (binary (at 1) sign.Plus (int (at 1) (pos 1)) (name (at 5) (codes "true"))) (stops NotTyped 1)
    -- 1 + §y + true
    ∷ row nothing (binary (at 1) sign.Plus (binary (at 1) sign.Plus (int (at 1) (pos 1)) (name (at 5) (codes "y"))) (name (at 9) (codes "true")))
    (stops UnknownName 5)
    -- true + (§1 - 'a')
    ∷ row nothing (binary (at 1) sign.Plus (name (at 1) (codes "true")) (paren (at 8) (binary (at 9) sign.Minus (int (at 9) (pos 1)) (char (at 13)
    97)))) (stops NotTyped 9)
    -- 1 + (2 + §y)
    ∷ row nothing (binary (at 1) sign.Plus (int (at 1) (pos 1)) (paren (at 5) (binary (at 6) sign.Plus (int (at 6) (pos 2)) (name (at 10) (codes "y")
    )))) (stops UnknownName 10)
    -- not b
    ∷ row nothing (unary (at 1) unary_sign.Not (name (at 5) (codes "b"))) (has (Some type.bool))
    -- not i
    ∷ row nothing (unary (at 1) unary_sign.Not (name (at 5) (codes "i"))) (has (Some type.int))
    -- §not 'a'
    ∷ row nothing (unary (at 1) unary_sign.Not (char (at 5) 97)) (stops NotTyped 1)
    -- -i
    ∷ row nothing (unary (at 1) unary_sign.Minus (name (at 2) (codes "i"))) (has (Some type.int))
    -- §-"a"
    ∷ row nothing (unary (at 1) unary_sign.Minus (text (at 2) (codes "\"a\""))) (stops NotTyped 1)
    -- b and b or b
    ∷ row nothing (binary (at 1) sign.Or (binary (at 1) sign.And (name (at 1) (codes "b")) (name (at 7) (codes "b"))) (name (at 12) (codes "b")))
    (has (Some type.bool))
    -- i and 1
    ∷ row nothing (binary (at 1) sign.And (name (at 1) (codes "i")) (int (at 7) (pos 1))) (has (Some type.int))
    -- §b and 1
    ∷ row nothing (binary (at 1) sign.And (name (at 1) (codes "b")) (int (at 7) (pos 1))) (stops NotTyped 1)
    -- b xor b
    ∷ row nothing (binary (at 1) sign.Xor (name (at 1) (codes "b")) (name (at 7) (codes "b"))) (has (Some type.bool))
    -- s & 'c' & "d"
    ∷ row nothing (binary (at 1) sign.Join (binary (at 1) sign.Join (name (at 1) (codes "s")) (char (at 5) 99)) (text (at 11) (codes "\"d\"")))
    (has (Some type.text))
    -- §1 & "a"
    ∷ row nothing (binary (at 1) sign.Join (int (at 1) (pos 1)) (text (at 5) (codes "\"a\""))) (stops NotTyped 1)
    -- i < 2
    ∷ row nothing (binary (at 1) sign.Less (name (at 1) (codes "i")) (int (at 5) (pos 2))) (has (Some type.bool))
    -- red == blue
    ∷ row nothing (binary (at 1) sign.Equal (name (at 1) (codes "red")) (name (at 8) (codes "blue"))) (has (Some type.bool))
    -- 'a' <= 'b'
    ∷ row nothing (binary (at 1) sign.AtMost (char (at 1) 97) (char (at 8) 98)) (has (Some type.bool))
    -- "a" != s
    ∷ row nothing (binary (at 1) sign.Unequal (text (at 1) (codes "\"a\"")) (name (at 8) (codes "s"))) (has (Some type.bool))
    -- §arr == arr
    ∷ row nothing (binary (at 1) sign.Equal (name (at 1) (codes "arr")) (name (at 8) (codes "arr"))) (stops NotTyped 1)
    -- §nums == @[]
    ∷ row nothing (binary (at 1) sign.Equal (name (at 1) (codes "nums")) (sequence (at 9) no_parts)) (stops NotTyped 1)
    -- §@[] == @[]
    ∷ row nothing (binary (at 1) sign.Equal (sequence (at 1) no_parts) (sequence (at 8) no_parts)) (stops NotTyped 1)
    -- m == m
    ∷ row nothing (binary (at 1) sign.Equal (name (at 1) (codes "m")) (name (at 6) (codes "m"))) (has (Some type.bool))
    -- §m != m
    ∷ row nothing (binary (at 1) sign.Unequal (name (at 1) (codes "m")) (name (at 6) (codes "m"))) (stops NotTyped 1)
    -- §feet == feet
    ∷ row nothing (binary (at 1) sign.Equal (name (at 1) (codes "feet")) (name (at 9) (codes "feet"))) (stops NotTyped 1)
    -- $i
    ∷ row nothing (unary (at 1) unary_sign.Dollar (name (at 2) (codes "i"))) (has (Some type.text))
    -- $m
    ∷ row nothing (unary (at 1) unary_sign.Dollar (name (at 2) (codes "m"))) (has (Some type.text))
    -- $p
    ∷ row nothing (unary (at 1) unary_sign.Dollar (name (at 2) (codes "p"))) (has (Some type.text))
    -- $red
    ∷ row nothing (unary (at 1) unary_sign.Dollar (name (at 2) (codes "red"))) (has (Some type.text))
    -- §$feet
    ∷ row nothing (unary (at 1) unary_sign.Dollar (name (at 2) (codes "feet"))) (stops NotTyped 1)
    -- §$nums
    ∷ row nothing (unary (at 1) unary_sign.Dollar (name (at 2) (codes "nums"))) (stops NotTyped 1)
    -- 1 + §v0()
    ∷ row nothing (binary (at 1) sign.Plus (int (at 1) (pos 1)) (call (at 5) (name (at 5) (codes "v0")) no_parts)) (stops NotTyped 5)
    -- §1 + 2 & "a"
    ∷ row nothing (binary (at 1) sign.Join (binary (at 1) sign.Plus (int (at 1) (pos 1)) (int (at 5) (pos 2))) (text (at 9) (codes "\"a\""))) (stops
    NotTyped 1)
    ∷ []
