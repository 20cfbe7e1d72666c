-- Examples of paths, constructions, `if` and `case`: above each term its text, with a sign before the place of a refusal.
use Rattle.std.specs.Prelude.{pos, List, [], ◌∷◌, codes, Some, None}
use Rattle.arc_base.specs.declared.place.Code.TheVariants.{UnknownName, NotTyped, CaseCover}
use Rattle.nim_tree.specs.declared.expr.UnaryOp.TheVariants as unary_sign
use Rattle.nim_tree.specs.declared.expr.BinaryOp.TheVariants as sign
use Rattle.nim_tree.specs.Terms.{int, char, text, name, tuple, array, sequence, construct, named, field, call, index, unary, binary, if_term, case_term}
use Rattle.nim_tree.specs.Terms.{case_else, range, no_parts, part, no_choices, choice}
use Rattle.nim_types.specs.Types as type
use Rattle.expr_rules.specs.Answers.{nothing, whole}
use Rattle.expr_rules.specs.Examples.{Row, row, has, stops, at, color, point, metre}

abbrev pub paths_rows : List Row
paths_rows =
    -- t.a
    row nothing (field (at 1) (name (at 1) (codes "t")) (codes "a")) (has (Some type.int))
    -- t[1]
    ∷ row nothing (index (at 1) (name (at 1) (codes "t")) (part (int (at 3) (pos 1)) no_parts)) (has (Some type.bool))
    -- t[n - 2]
    ∷ row nothing (index (at 1) (name (at 1) (codes "t")) (part (binary (at 3) sign.Minus (name (at 3) (codes "n")) (int (at 7) (pos 2)))
    no_parts)) (has (Some type.bool))
    -- §t[n]
    ∷ row nothing (index (at 1) (name (at 1) (codes "t")) (part (name (at 3) (codes "n")) no_parts)) (stops NotTyped 1)
    -- §t[i]
    ∷ row nothing (index (at 1) (name (at 1) (codes "t")) (part (name (at 3) (codes "i")) no_parts)) (stops NotTyped 1)
    -- §t.zz
    ∷ row nothing (field (at 1) (name (at 1) (codes "t")) (codes "zz")) (stops UnknownName 1)
    -- §t.c
    ∷ row nothing (field (at 1) (name (at 1) (codes "t")) (codes "c")) (stops NotTyped 1)
    -- u[0]
    ∷ row nothing (index (at 1) (name (at 1) (codes "u")) (part (int (at 3) (pos 0)) no_parts)) (has (Some type.int))
    -- p.name
    ∷ row nothing (field (at 1) (name (at 1) (codes "p")) (codes "name")) (has (Some type.text))
    -- p.name.len
    ∷ row nothing (field (at 1) (field (at 1) (name (at 1) (codes "p")) (codes "name")) (codes "len")) (has (Some type.int))
    -- §p.z
    ∷ row nothing (field (at 1) (name (at 1) (codes "p")) (codes "z")) (stops UnknownName 1)
    -- arr[0]
    ∷ row nothing (index (at 1) (name (at 1) (codes "arr")) (part (int (at 5) (pos 0)) no_parts)) (has (Some type.int))
    -- nums[i]
    ∷ row nothing (index (at 1) (name (at 1) (codes "nums")) (part (name (at 6) (codes "i")) no_parts)) (has (Some type.int))
    -- s[0]
    ∷ row nothing (index (at 1) (name (at 1) (codes "s")) (part (int (at 3) (pos 0)) no_parts)) (has (Some type.char))
    -- grid[0][1]
    ∷ row nothing (index (at 1) (index (at 1) (name (at 1) (codes "grid")) (part (int (at 6) (pos 0)) no_parts)) (part (int (at 9) (pos 1))
    no_parts)) (has (Some type.int))
    -- §arr[true]
    ∷ row nothing (index (at 1) (name (at 1) (codes "arr")) (part (name (at 5) (codes "true")) no_parts)) (stops NotTyped 1)
    -- §i[0]
    ∷ row nothing (index (at 1) (name (at 1) (codes "i")) (part (int (at 3) (pos 0)) no_parts)) (stops NotTyped 1)
    -- §arr[]
    ∷ row nothing (index (at 1) (name (at 1) (codes "arr")) no_parts) (stops NotTyped 1)
    -- §arr[0, 1]
    ∷ row nothing (index (at 1) (name (at 1) (codes "arr")) (part (int (at 5) (pos 0)) (part (int (at 8) (pos 1)) no_parts))) (stops NotTyped 1)
    -- arr[§y]
    ∷ row nothing (index (at 1) (name (at 1) (codes "arr")) (part (name (at 5) (codes "y")) no_parts)) (stops UnknownName 5)
    -- §arr[y, 1]
    ∷ row nothing (index (at 1) (name (at 1) (codes "arr")) (part (name (at 5) (codes "y")) (part (int (at 8) (pos 1)) no_parts))) (stops NotTyped
    1)
    -- §y[z]
    ∷ row nothing (index (at 1) (name (at 1) (codes "y")) (part (name (at 3) (codes "z")) no_parts)) (stops UnknownName 1)
    -- "ab"[0]
    ∷ row nothing (index (at 1) (text (at 1) (codes "\"ab\"")) (part (int (at 6) (pos 0)) no_parts)) (has (Some type.char))
    -- Point(x: 1).x
    ∷ row nothing (field (at 1) (construct (at 1) (codes "Point") (part (named (at 7) (codes "x") (int (at 10) (pos 1))) no_parts)) (codes "x"))
    (has (Some type.int))
    ∷ []

abbrev pub constructions_rows : List Row
constructions_rows =
    -- (1, true)
    row nothing (tuple (at 1) (part (int (at 2) (pos 1)) (part (name (at 5) (codes "true")) no_parts))) (has (Some (type.tuple [] (type.types
    type.int (type.types type.bool type.no_types)))))
    -- (a: 1, b: 'c')
    ∷ row nothing (tuple (at 1) (part (named (at 2) (codes "a") (int (at 5) (pos 1))) (part (named (at 8) (codes "b") (char (at 11) 99)) no_parts)))
    (has (Some (type.tuple ((codes "a") ∷ (codes "b") ∷ []) (type.types type.int (type.types type.char type.no_types)))))
    -- §(a: 1, a: 2)
    ∷ row nothing (tuple (at 1) (part (named (at 2) (codes "a") (int (at 5) (pos 1))) (part (named (at 8) (codes "a") (int (at 11) (pos 2)))
    no_parts))) (stops NotTyped 1)
    -- (1, true), where tuple[a: int, b: bool] is wanted
    ∷ row (whole (type.tuple ((codes "a") ∷ (codes "b") ∷ []) (type.types type.int (type.types type.bool type.no_types)))) (tuple (at 1) (part (int
    (at 2) (pos 1)) (part (name (at 5) (codes "true")) no_parts))) (has (Some (type.tuple ((codes "a") ∷ (codes "b") ∷ []) (type.types
    type.int (type.types type.bool type.no_types)))))
    -- (1, 2), where tuple[a: int, b: bool] is wanted
    ∷ row (whole (type.tuple ((codes "a") ∷ (codes "b") ∷ []) (type.types type.int (type.types type.bool type.no_types)))) (tuple (at 1) (part (int
    (at 2) (pos 1)) (part (int (at 5) (pos 2)) no_parts))) (has (Some (type.tuple [] (type.types type.int (type.types type.int
    type.no_types)))))
    -- (1, §@[], 2), where tuple[a: int, b: seq[int]] is wanted
    ∷ row (whole (type.tuple ((codes "a") ∷ (codes "b") ∷ []) (type.types type.int (type.types (type.sequence type.int) type.no_types)))) (tuple (at
    1) (part (int (at 2) (pos 1)) (part (sequence (at 5) no_parts) (part (int (at 10) (pos 2)) no_parts)))) (stops NotTyped 5)
    -- (1, @[]), where tuple[a: int, b: seq[int]] is wanted
    ∷ row (whole (type.tuple ((codes "a") ∷ (codes "b") ∷ []) (type.types type.int (type.types (type.sequence type.int) type.no_types)))) (tuple (at
    1) (part (int (at 2) (pos 1)) (part (sequence (at 5) no_parts) no_parts))) (has (Some (type.tuple ((codes "a") ∷ (codes "b") ∷ [])
    (type.types type.int (type.types (type.sequence type.int) type.no_types)))))
    -- [1, 2]
    ∷ row nothing (array (at 1) (part (int (at 2) (pos 1)) (part (int (at 5) (pos 2)) no_parts))) (has (Some (type.array 2 type.int)))
    -- [1, §true]
    ∷ row nothing (array (at 1) (part (int (at 2) (pos 1)) (part (name (at 5) (codes "true")) no_parts))) (stops NotTyped 5)
    -- §[]
    ∷ row nothing (array (at 1) no_parts) (stops NotTyped 1)
    -- [@[1], @[]]
    ∷ row nothing (array (at 1) (part (sequence (at 2) (part (int (at 4) (pos 1)) no_parts)) (part (sequence (at 8) no_parts) no_parts))) (has (Some
    (type.array 2 (type.sequence type.int))))
    -- [§@[], @[1]]
    ∷ row nothing (array (at 1) (part (sequence (at 2) no_parts) (part (sequence (at 7) (part (int (at 9) (pos 1)) no_parts)) no_parts))) (stops
    NotTyped 2)
    -- @[1, 2]
    ∷ row nothing (sequence (at 1) (part (int (at 3) (pos 1)) (part (int (at 6) (pos 2)) no_parts))) (has (Some (type.sequence type.int)))
    -- §@[]
    ∷ row nothing (sequence (at 1) no_parts) (stops NotTyped 1)
    -- @[], where seq[int] is wanted
    ∷ row (whole (type.sequence type.int)) (sequence (at 1) no_parts) (has (Some (type.sequence type.int)))
    -- @[@[], @[1]], where seq[seq[int]] is wanted
    ∷ row (whole (type.sequence (type.sequence type.int))) (sequence (at 1) (part (sequence (at 3) no_parts) (part (sequence (at 8) (part (int (at
    10) (pos 1)) no_parts)) no_parts))) (has (Some (type.sequence (type.sequence type.int))))
    -- §@[], where int is wanted
    ∷ row (whole type.int) (sequence (at 1) no_parts) (stops NotTyped 1)
    -- @[(1, 2)], where seq[tuple[a: int, b: int]] is wanted
    ∷ row (whole (type.sequence (type.tuple ((codes "a") ∷ (codes "b") ∷ []) (type.types type.int (type.types type.int type.no_types))))) (sequence
    (at 1) (part (tuple (at 3) (part (int (at 4) (pos 1)) (part (int (at 7) (pos 2)) no_parts))) no_parts)) (has (Some (type.sequence
    (type.tuple [] (type.types type.int (type.types type.int type.no_types))))))
    -- Point(x: 1)
    ∷ row nothing (construct (at 1) (codes "Point") (part (named (at 7) (codes "x") (int (at 10) (pos 1))) no_parts)) (has (Some point))
    -- Point()
    ∷ row nothing (call (at 1) (name (at 1) (codes "Point")) no_parts) (has (Some point))
    -- Point(x: §true)
    ∷ row nothing (construct (at 1) (codes "Point") (part (named (at 7) (codes "x") (name (at 10) (codes "true"))) no_parts)) (stops NotTyped 10)
    -- §Point(z: 1)
    ∷ row nothing (construct (at 1) (codes "Point") (part (named (at 7) (codes "z") (int (at 10) (pos 1))) no_parts)) (stops UnknownName 1)
    -- §Point(x: 1, x: 2)
    ∷ row nothing (construct (at 1) (codes "Point") (part (named (at 7) (codes "x") (int (at 10) (pos 1))) (part (named (at 13) (codes "x") (int (at
    16) (pos 2))) no_parts))) (stops NotTyped 1)
    -- §Q(x: 1)
    ∷ row nothing (construct (at 1) (codes "Q") (part (named (at 3) (codes "x") (int (at 6) (pos 1))) no_parts)) (stops UnknownName 1)
    -- §int(x: 1)
    ∷ row nothing (construct (at 1) (codes "int") (part (named (at 5) (codes "x") (int (at 8) (pos 1))) no_parts)) (stops NotTyped 1)
    -- §f(x: 1)
    ∷ row nothing (construct (at 1) (codes "f") (part (named (at 3) (codes "x") (int (at 6) (pos 1))) no_parts)) (stops NotTyped 1)
    -- Metre(1)
    ∷ row nothing (call (at 1) (name (at 1) (codes "Metre")) (part (int (at 7) (pos 1)) no_parts)) (has (Some metre))
    -- int(m)
    ∷ row nothing (call (at 1) (name (at 1) (codes "int")) (part (name (at 5) (codes "m")) no_parts)) (has (Some type.int))
    -- §bool(m)
    ∷ row nothing (call (at 1) (name (at 1) (codes "bool")) (part (name (at 6) (codes "m")) no_parts)) (stops NotTyped 1)
    -- §Metre(true)
    ∷ row nothing (call (at 1) (name (at 1) (codes "Metre")) (part (name (at 7) (codes "true")) no_parts)) (stops NotTyped 1)
    -- §Metre()
    ∷ row nothing (call (at 1) (name (at 1) (codes "Metre")) no_parts) (stops NotTyped 1)
    -- C(1)
    ∷ row nothing (call (at 1) (name (at 1) (codes "C")) (part (int (at 3) (pos 1)) no_parts)) (has (Some color))
    -- §C('a')
    ∷ row nothing (call (at 1) (name (at 1) (codes "C")) (part (char (at 3) 97) no_parts)) (stops NotTyped 1)
    ∷ []

abbrev pub choices_rows : List Row
choices_rows =
    -- if b: 1 else: 2
    row nothing (if_term (at 1) (choice (at 1) (part (name (at 4) (codes "b")) no_parts) (int (at 7) (pos 1)) no_choices) (int (at 15) (pos 2)))
    (has (Some type.int))
    -- if b: 1 elif b: 2 else: 3
    ∷ row nothing (if_term (at 1) (choice (at 1) (part (name (at 4) (codes "b")) no_parts) (int (at 7) (pos 1)) (choice (at 9) (part (name (at 14)
    (codes "b")) no_parts) (int (at 17) (pos 2)) no_choices)) (int (at 25) (pos 3))) (has (Some type.int))
    -- if §1: 1 else: 2
    ∷ row nothing (if_term (at 1) (choice (at 1) (part (int (at 4) (pos 1)) no_parts) (int (at 7) (pos 1)) no_choices) (int (at 15) (pos 2))) (stops
    NotTyped 4)
    -- if b: 1 else: §true
    ∷ row nothing (if_term (at 1) (choice (at 1) (part (name (at 4) (codes "b")) no_parts) (int (at 7) (pos 1)) no_choices) (name (at 15)
    (codes "true"))) (stops NotTyped 15)
    -- if b: v0() else: v0()
    ∷ row nothing (if_term (at 1) (choice (at 1) (part (name (at 4) (codes "b")) no_parts) (call (at 7) (name (at 7) (codes "v0")) no_parts)
    no_choices) (call (at 18) (name (at 18) (codes "v0")) no_parts)) (has None)
    -- if b: 1 else: §v0()
    ∷ row nothing (if_term (at 1) (choice (at 1) (part (name (at 4) (codes "b")) no_parts) (int (at 7) (pos 1)) no_choices) (call (at 15) (name (at
    15) (codes "v0")) no_parts)) (stops NotTyped 15)
    -- if b: @[1] else: @[]
    ∷ row nothing (if_term (at 1) (choice (at 1) (part (name (at 4) (codes "b")) no_parts) (sequence (at 7) (part (int (at 9) (pos 1)) no_parts))
    no_choices) (sequence (at 18) no_parts)) (has (Some (type.sequence type.int)))
    -- if b: §@[] else: @[1]
    ∷ row nothing (if_term (at 1) (choice (at 1) (part (name (at 4) (codes "b")) no_parts) (sequence (at 7) no_parts) no_choices) (sequence (at 17)
    (part (int (at 19) (pos 1)) no_parts))) (stops NotTyped 7)
    -- if b: @[] else: @[1], where seq[int] is wanted
    ∷ row (whole (type.sequence type.int)) (if_term (at 1) (choice (at 1) (part (name (at 4) (codes "b")) no_parts) (sequence (at 7) no_parts)
    no_choices) (sequence (at 17) (part (int (at 19) (pos 1)) no_parts))) (has (Some (type.sequence type.int)))
    -- if b: (1, 2) else: (3, 4), where tuple[a: int, b: int] is wanted
    ∷ row (whole (type.tuple ((codes "a") ∷ (codes "b") ∷ []) (type.types type.int (type.types type.int type.no_types)))) (if_term (at 1) (choice (at
    1) (part (name (at 4) (codes "b")) no_parts) (tuple (at 7) (part (int (at 8) (pos 1)) (part (int (at 11) (pos 2)) no_parts))) no_choices)
    (tuple (at 20) (part (int (at 21) (pos 3)) (part (int (at 24) (pos 4)) no_parts)))) (has (Some (type.tuple [] (type.types type.int
    (type.types type.int type.no_types)))))
    -- case i of 1: 'a' else: 'b'
    ∷ row nothing (case_else (at 1) (name (at 6) (codes "i")) (choice (at 8) (part (int (at 11) (pos 1)) no_parts) (char (at 14) 97) no_choices)
    (char (at 24) 98)) (has (Some type.char))
    -- case c of red: 1 of green: 2 of blue: 3
    ∷ row nothing (case_term (at 1) (name (at 6) (codes "c")) (choice (at 8) (part (name (at 11) (codes "red")) no_parts) (int (at 16) (pos 1))
    (choice (at 18) (part (name (at 21) (codes "green")) no_parts) (int (at 28) (pos 2)) (choice (at 30) (part (name (at 33) (codes "blue"))
    no_parts) (int (at 39) (pos 3)) no_choices)))) (has (Some type.int))
    -- case c of red..blue: 1
    ∷ row nothing (case_term (at 1) (name (at 6) (codes "c")) (choice (at 8) (part (range (at 11) (name (at 11) (codes "red")) (name (at 16)
    (codes "blue"))) no_parts) (int (at 22) (pos 1)) no_choices)) (has (Some type.int))
    -- §case c of red, blue: 1
    ∷ row nothing (case_term (at 1) (name (at 6) (codes "c")) (choice (at 8) (part (name (at 11) (codes "red")) (part (name (at 16) (codes "blue")
    ) no_parts)) (int (at 22) (pos 1)) no_choices)) (stops CaseCover 1)
    -- case c of red: 1 of §red: 2 else: 3
    ∷ row nothing (case_else (at 1) (name (at 6) (codes "c")) (choice (at 8) (part (name (at 11) (codes "red")) no_parts) (int (at 16) (pos 1))
    (choice (at 18) (part (name (at 21) (codes "red")) no_parts) (int (at 26) (pos 2)) no_choices)) (int (at 34) (pos 3))) (stops CaseCover
    21)
    -- case i of 1..3: 1 of §2: 2 else: 3
    ∷ row nothing (case_else (at 1) (name (at 6) (codes "i")) (choice (at 8) (part (range (at 11) (int (at 11) (pos 1)) (int (at 14) (pos 3)))
    no_parts) (int (at 17) (pos 1)) (choice (at 19) (part (int (at 22) (pos 2)) no_parts) (int (at 25) (pos 2)) no_choices)) (int (at 33) (pos
    3))) (stops CaseCover 22)
    -- §case i of 1: 1
    ∷ row nothing (case_term (at 1) (name (at 6) (codes "i")) (choice (at 8) (part (int (at 11) (pos 1)) no_parts) (int (at 14) (pos 1))
    no_choices)) (stops CaseCover 1)
    -- case b of true: 1 of false: 2
    ∷ row nothing (case_term (at 1) (name (at 6) (codes "b")) (choice (at 8) (part (name (at 11) (codes "true")) no_parts) (int (at 17) (pos 1))
    (choice (at 19) (part (name (at 22) (codes "false")) no_parts) (int (at 29) (pos 2)) no_choices))) (has (Some type.int))
    -- §case b of true: 1
    ∷ row nothing (case_term (at 1) (name (at 6) (codes "b")) (choice (at 8) (part (name (at 11) (codes "true")) no_parts) (int (at 17) (pos 1))
    no_choices)) (stops CaseCover 1)
    -- case s of "a": 1 else: 2
    ∷ row nothing (case_else (at 1) (name (at 6) (codes "s")) (choice (at 8) (part (text (at 11) (codes "\"a\"")) no_parts) (int (at 16) (pos 1))
    no_choices) (int (at 24) (pos 2))) (has (Some type.int))
    -- §case s of "a": 1
    ∷ row nothing (case_term (at 1) (name (at 6) (codes "s")) (choice (at 8) (part (text (at 11) (codes "\"a\"")) no_parts) (int (at 16) (pos 1))
    no_choices)) (stops CaseCover 1)
    -- case s of "a": v0()
    ∷ row nothing (case_term (at 1) (name (at 6) (codes "s")) (choice (at 8) (part (text (at 11) (codes "\"a\"")) no_parts) (call (at 16) (name (at
    16) (codes "v0")) no_parts) no_choices)) (has None)
    -- case s of "a": 1 of §"a": 2 else: 3
    ∷ row nothing (case_else (at 1) (name (at 6) (codes "s")) (choice (at 8) (part (text (at 11) (codes "\"a\"")) no_parts) (int (at 16) (pos 1))
    (choice (at 18) (part (text (at 21) (codes "\"a\"")) no_parts) (int (at 26) (pos 2)) no_choices)) (int (at 34) (pos 3))) (stops CaseCover
    21)
    -- case ch of 'a'..'z', '_': 1 else: 2
    ∷ row nothing (case_else (at 1) (name (at 6) (codes "ch")) (choice (at 9) (part (range (at 12) (char (at 12) 97) (char (at 17) 122)) (part (char
    (at 22) 95) no_parts)) (int (at 27) (pos 1)) no_choices) (int (at 35) (pos 2))) (has (Some type.int))
    -- case i of §'a': 1 else: 2
    ∷ row nothing (case_else (at 1) (name (at 6) (codes "i")) (choice (at 8) (part (char (at 11) 97) no_parts) (int (at 16) (pos 1)) no_choices)
    (int (at 24) (pos 2))) (stops NotTyped 11)
    -- case i of §i: 1 else: 2
    ∷ row nothing (case_else (at 1) (name (at 6) (codes "i")) (choice (at 8) (part (name (at 11) (codes "i")) no_parts) (int (at 14) (pos 1))
    no_choices) (int (at 22) (pos 2))) (stops NotTyped 11)
    -- case i of n: 1 of n + 1: 2 else: 3
    ∷ row nothing (case_else (at 1) (name (at 6) (codes "i")) (choice (at 8) (part (name (at 11) (codes "n")) no_parts) (int (at 14) (pos 1))
    (choice (at 16) (part (binary (at 19) sign.Plus (name (at 19) (codes "n")) (int (at 23) (pos 1))) no_parts) (int (at 26) (pos 2))
    no_choices)) (int (at 34) (pos 3))) (has (Some type.int))
    -- case i of 2: 1 of §n - 1: 2 else: 3
    ∷ row nothing (case_else (at 1) (name (at 6) (codes "i")) (choice (at 8) (part (int (at 11) (pos 2)) no_parts) (int (at 14) (pos 1)) (choice (at
    16) (part (binary (at 19) sign.Minus (name (at 19) (codes "n")) (int (at 23) (pos 1))) no_parts) (int (at 26) (pos 2)) no_choices)) (int
    (at 34) (pos 3))) (stops CaseCover 19)
    -- case §nums of 1: 1 else: 2
    ∷ row nothing (case_else (at 1) (name (at 6) (codes "nums")) (choice (at 11) (part (int (at 14) (pos 1)) no_parts) (int (at 17) (pos 1))
    no_choices) (int (at 25) (pos 2))) (stops NotTyped 6)
    -- case s of §"a".."b": 1 else: 2
    ∷ row nothing (case_else (at 1) (name (at 6) (codes "s")) (choice (at 8) (part (range (at 11) (text (at 11) (codes "\"a\"")) (text (at 16)
    (codes "\"b\""))) no_parts) (int (at 21) (pos 1)) no_choices) (int (at 29) (pos 2))) (stops NotTyped 11)
    -- case i of §1 div 0: 1 else: 2
    ∷ row nothing (case_else (at 1) (name (at 6) (codes "i")) (choice (at 8) (part (binary (at 11) sign.Div (int (at 11) (pos 1)) (int (at 17) (pos
    0))) no_parts) (int (at 20) (pos 1)) no_choices) (int (at 28) (pos 2))) (stops NotTyped 11)
    -- case i of 1: §y of 1: 2 else: 3
    ∷ row nothing (case_else (at 1) (name (at 6) (codes "i")) (choice (at 8) (part (int (at 11) (pos 1)) no_parts) (name (at 14) (codes "y"))
    (choice (at 16) (part (int (at 19) (pos 1)) no_parts) (int (at 22) (pos 2)) no_choices)) (int (at 30) (pos 3))) (stops UnknownName 14)
    -- case i of §3..1: 1 else: 2
    ∷ row nothing (case_else (at 1) (name (at 6) (codes "i")) (choice (at 8) (part (range (at 11) (int (at 11) (pos 3)) (int (at 14) (pos 1)))
    no_parts) (int (at 17) (pos 1)) no_choices) (int (at 25) (pos 2))) (stops NotTyped 11)
    -- case b of false and 1 div 0 == 0: 1 else: 2
    ∷ row nothing (case_else (at 1) (name (at 6) (codes "b")) (choice (at 8) (part (binary (at 11) sign.And (name (at 11) (codes "false")) (binary
    (at 21) sign.Equal (binary (at 21) sign.Div (int (at 21) (pos 1)) (int (at 27) (pos 0))) (int (at 32) (pos 0)))) no_parts) (int (at 35)
    (pos 1)) no_choices) (int (at 43) (pos 2))) (has (Some type.int))
    -- case s of "a" & "b": 1 of §"ab": 2 else: 3
    ∷ row nothing (case_else (at 1) (name (at 6) (codes "s")) (choice (at 8) (part (binary (at 11) sign.Join (text (at 11) (codes "\"a\"")) (text
    (at 17) (codes "\"b\""))) no_parts) (int (at 22) (pos 1)) (choice (at 24) (part (text (at 27) (codes "\"ab\"")) no_parts) (int (at 33)
    (pos 2)) no_choices)) (int (at 41) (pos 3))) (stops CaseCover 27)
    -- case i of "abc".len: 1 of §3: 2 else: 3
    ∷ row nothing (case_else (at 1) (name (at 6) (codes "i")) (choice (at 8) (part (field (at 11) (text (at 11) (codes "\"abc\"")) (codes "len"))
    no_parts) (int (at 22) (pos 1)) (choice (at 24) (part (int (at 27) (pos 3)) no_parts) (int (at 30) (pos 2)) no_choices)) (int (at 38) (pos
    3))) (stops CaseCover 27)
    -- case s of $red: 1 of §"red": 2 else: 3
    ∷ row nothing (case_else (at 1) (name (at 6) (codes "s")) (choice (at 8) (part (unary (at 11) unary_sign.Dollar (name (at 12) (codes "red")))
    no_parts) (int (at 17) (pos 1)) (choice (at 19) (part (text (at 22) (codes "\"red\"")) no_parts) (int (at 29) (pos 2)) no_choices)) (int
    (at 37) (pos 3))) (stops CaseCover 22)
    -- case i of ord('a'): 1 of §97: 2 else: 3
    ∷ row nothing (case_else (at 1) (name (at 6) (codes "i")) (choice (at 8) (part (call (at 11) (name (at 11) (codes "ord")) (part (char (at 15)
    97) no_parts)) no_parts) (int (at 21) (pos 1)) (choice (at 23) (part (int (at 26) (pos 97)) no_parts) (int (at 30) (pos 2)) no_choices))
    (int (at 38) (pos 3))) (stops CaseCover 26)
    -- case i of low(int)..high(int): 1
    ∷ row nothing (case_term (at 1) (name (at 6) (codes "i")) (choice (at 8) (part (range (at 11) (call (at 11) (name (at 11) (codes "low")) (part
    (name (at 15) (codes "int")) no_parts)) (call (at 21) (name (at 21) (codes "high")) (part (name (at 26) (codes "int")) no_parts)))
    no_parts) (int (at 32) (pos 1)) no_choices)) (has (Some type.int))
    -- case i of -2147483647 - 1..0: 1 of 1..2147483647: 2
    ∷ row nothing (case_term (at 1) (name (at 6) (codes "i")) (choice (at 8) (part (range (at 11) (binary (at 11) sign.Minus (unary (at 11)
    unary_sign.Minus (int (at 12) (pos 2147483647))) (int (at 25) (pos 1))) (int (at 28) (pos 0))) no_parts) (int (at 31) (pos 1)) (choice (at
    33) (part (range (at 36) (int (at 36) (pos 1)) (int (at 39) (pos 2147483647))) no_parts) (int (at 51) (pos 2)) no_choices))) (has (Some
    type.int))
    -- §case i of -2147483647..2147483647: 2
    ∷ row nothing (case_term (at 1) (name (at 6) (codes "i")) (choice (at 8) (part (range (at 11) (unary (at 11) unary_sign.Minus (int (at 12) (pos
    2147483647))) (int (at 24) (pos 2147483647))) no_parts) (int (at 36) (pos 2)) no_choices)) (stops CaseCover 1)
    ∷ []
