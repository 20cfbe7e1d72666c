-- Examples at the edges of the rules: above each term its text, with a sign before the place of a refusal.
use Rattle.std.specs.Prelude.{pos, true, false, List, [], ◌∷◌, ◌++◌, codes, Some, None}
use Rattle.arc_base.specs.declared.place.Code.TheVariants.{CaseCover, NotAssignable, NotTyped, UnknownName}
use Rattle.nim_tree.specs.declared.expr.BinaryOp.TheVariants as sign
use Rattle.nim_tree.specs.Terms as term
use Rattle.nim_tree.specs.Terms.{int, text, name, quoted, paren, sequence, construct, field, call, index, binary, case_else, range, no_parts, part}
use Rattle.nim_tree.specs.Terms.{no_choices, choice}
use Rattle.nim_types.specs.Types as type
use Rattle.nim_types.specs.Types.{Ty}
use Rattle.nim_program.specs.Program.{Number, Characters, PartsOf, NoLiteral, ALiteral}
use Rattle.expr_rules.specs.Env.{Env, variable, constant, named}
use Rattle.expr_rules.specs.Answers.{nothing}
use Rattle.expr_rules.specs.Examples.{Row, row, has, stops, at, key, field_of, scene, point, metre, feet}

abbrev with_default : Ty
with_default = type.object (key (codes "Def")) type.no_types

abbrev pub operands_rows : List Row
operands_rows =
    -- low((int))
    row nothing (call (at 1) (name (at 1) (codes "low")) (part (paren (at 5) (name (at 6) (codes "int"))) no_parts)) (has (Some type.int))
    -- (int).high
    ∷ row nothing (field (at 1) (paren (at 1) (name (at 2) (codes "int"))) (codes "high")) (has (Some type.int))
    -- default((Point))
    ∷ row nothing (call (at 1) (name (at 1) (codes "default")) (part (paren (at 9) (name (at 10) (codes "Point"))) no_parts)) (has (Some point))
    -- default(seq[(int)])
    ∷ row nothing (call (at 1) (name (at 1) (codes "default")) (part (index (at 9) (name (at 9) (codes "seq")) (part (paren (at 13) (name (at 14)
    (codes "int"))) no_parts)) no_parts)) (has (Some (type.sequence type.int)))
    -- readLine((stdin))
    ∷ row nothing (call (at 1) (name (at 1) (codes "readLine")) (part (paren (at 10) (name (at 11) (codes "stdin"))) no_parts)) (has (Some
    type.text))
    -- default((§1))
    ∷ row nothing (call (at 1) (name (at 1) (codes "default")) (part (paren (at 9) (int (at 10) (pos 1))) no_parts)) (stops NotTyped 10)
    -- §default(y, z)
    ∷ row nothing (call (at 1) (name (at 1) (codes "default")) (part (name (at 9) (codes "y")) (part (name (at 12) (codes "z")) no_parts))) (stops
    NotTyped 1)
    -- §default()
    ∷ row nothing (call (at 1) (name (at 1) (codes "default")) no_parts) (stops NotTyped 1)
    -- §y.default(1)
    ∷ row nothing (call (at 1) (field (at 1) (name (at 1) (codes "y")) (codes "default")) (part (int (at 11) (pos 1)) no_parts)) (stops NotTyped 1)
    -- §newSeq[y, z](1)
    ∷ row nothing (call (at 1) (index (at 1) (name (at 1) (codes "newSeq")) (part (name (at 8) (codes "y")) (part (name (at 11) (codes "z"))
    no_parts))) (part (int (at 14) (pos 1)) no_parts)) (stops NotTyped 1)
    -- §newSeq[](y)
    ∷ row nothing (call (at 1) (index (at 1) (name (at 1) (codes "newSeq")) no_parts) (part (name (at 10) (codes "y")) no_parts)) (stops NotTyped
    1)
    -- §newSeq[int, int](y)
    ∷ row nothing (call (at 1) (index (at 1) (name (at 1) (codes "newSeq")) (part (name (at 8) (codes "int")) (part (name (at 13) (codes "int"))
    no_parts))) (part (name (at 18) (codes "y")) no_parts)) (stops NotTyped 1)
    -- high(§int, y)
    ∷ row nothing (call (at 1) (name (at 1) (codes "high")) (part (name (at 6) (codes "int")) (part (name (at 11) (codes "y")) no_parts))) (stops
    NotTyped 6)
    -- high(§int, 1)
    ∷ row nothing (call (at 1) (name (at 1) (codes "high")) (part (name (at 6) (codes "int")) (part (int (at 11) (pos 1)) no_parts))) (stops
    NotTyped 6)
    -- 5.low(§int)
    ∷ row nothing (call (at 1) (field (at 1) (int (at 1) (pos 5)) (codes "low")) (part (name (at 7) (codes "int")) no_parts)) (stops NotTyped 7)
    -- readLine(s, §stdin)
    ∷ row nothing (call (at 1) (name (at 1) (codes "readLine")) (part (name (at 10) (codes "s")) (part (name (at 13) (codes "stdin")) no_parts)))
    (stops NotTyped 13)
    -- stdin.readLine(§stdin)
    ∷ row nothing (call (at 1) (field (at 1) (name (at 1) (codes "stdin")) (codes "readLine")) (part (name (at 16) (codes "stdin")) no_parts))
    (stops NotTyped 16)
    -- low(§seq)
    ∷ row nothing (call (at 1) (name (at 1) (codes "low")) (part (name (at 5) (codes "seq")) no_parts)) (stops NotTyped 5)
    -- swap(nums, §@[])
    ∷ row nothing (call (at 1) (name (at 1) (codes "swap")) (part (name (at 6) (codes "nums")) (part (sequence (at 12) no_parts) no_parts))) (stops
    NotTyped 12)
    -- swap(§@[], nums)
    ∷ row nothing (call (at 1) (name (at 1) (codes "swap")) (part (sequence (at 6) no_parts) (part (name (at 11) (codes "nums")) no_parts))) (stops
    NotTyped 6)
    -- §len(x: 1)
    ∷ row nothing (construct (at 1) (codes "len") (part (term.named (at 5) (codes "x") (int (at 8) (pos 1))) no_parts)) (stops NotTyped 1)
    -- §echo(x: 1)
    ∷ row nothing (construct (at 1) (codes "echo") (part (term.named (at 6) (codes "x") (int (at 9) (pos 1))) no_parts)) (stops NotTyped 1)
    -- §nope(x: 1)
    ∷ row nothing (construct (at 1) (codes "nope") (part (term.named (at 6) (codes "x") (int (at 9) (pos 1))) no_parts)) (stops UnknownName 1)
    -- echo(@[], §y)
    ∷ row nothing (call (at 1) (name (at 1) (codes "echo")) (part (sequence (at 6) no_parts) (part (name (at 11) (codes "y")) no_parts))) (stops
    UnknownName 11)
    -- echo(§@[])
    ∷ row nothing (call (at 1) (name (at 1) (codes "echo")) (part (sequence (at 6) no_parts) no_parts)) (stops NotTyped 6)
    -- (§@[]).echo
    ∷ row nothing (field (at 1) (paren (at 1) (sequence (at 2) no_parts)) (codes "echo")) (stops NotTyped 2)
    -- §`$`(1, y)
    ∷ row nothing (call (at 1) (quoted (at 1) (codes "`$`")) (part (int (at 5) (pos 1)) (part (name (at 8) (codes "y")) no_parts))) (stops NotTyped
    1)
    -- §seq[int](1)
    ∷ row nothing (call (at 1) (index (at 1) (name (at 1) (codes "seq")) (part (name (at 5) (codes "int")) no_parts)) (part (int (at 10) (pos 1))
    no_parts)) (stops NotTyped 1)
    -- array[§nothing, int](1)
    ∷ row nothing (call (at 1) (index (at 1) (name (at 1) (codes "array")) (part (name (at 7) (codes "nothing")) (part (name (at 16) (codes "int"))
    no_parts))) (part (int (at 21) (pos 1)) no_parts)) (stops UnknownName 7)
    -- §Point[nothing](1)
    ∷ row nothing (call (at 1) (index (at 1) (name (at 1) (codes "Point")) (part (name (at 7) (codes "nothing")) no_parts)) (part (int (at 16)
    (pos 1)) no_parts)) (stops NotTyped 1)
    -- §newSeq[int, int](1)
    ∷ row nothing (call (at 1) (index (at 1) (name (at 1) (codes "newSeq")) (part (name (at 8) (codes "int")) (part (name (at 13) (codes "int"))
    no_parts))) (part (int (at 18) (pos 1)) no_parts)) (stops NotTyped 1)
    -- §`$`()
    ∷ row nothing (call (at 1) (quoted (at 1) (codes "`$`")) no_parts) (stops NotTyped 1)
    -- §isNil
    ∷ row nothing (name (at 1) (codes "isNil")) (stops UnknownName 1)
    -- case i of 1: 2 of (§1): 3 else: 4
    ∷ row nothing (case_else (at 1) (name (at 6) (codes "i")) (choice (at 8) (part (int (at 11) (pos 1)) no_parts) (int (at 14) (pos 2)) (choice (at
    16) (part (paren (at 19) (int (at 20) (pos 1))) no_parts) (int (at 24) (pos 3)) no_choices)) (int (at 32) (pos 4))) (stops CaseCover 20)
    -- case i of 1: 2 of §(1)..3: 3 else: 4
    ∷ row nothing (case_else (at 1) (name (at 6) (codes "i")) (choice (at 8) (part (int (at 11) (pos 1)) no_parts) (int (at 14) (pos 2)) (choice (at
    16) (part (range (at 19) (paren (at 19) (int (at 20) (pos 1))) (int (at 24) (pos 3))) no_parts) (int (at 27) (pos 3)) no_choices)) (int (at
    35) (pos 4))) (stops CaseCover 19)
    -- default(int[§y])
    ∷ row nothing (call (at 1) (name (at 1) (codes "default")) (part (index (at 9) (name (at 9) (codes "int")) (part (name (at 13) (codes "y"))
    no_parts)) no_parts)) (stops UnknownName 13)
    -- default(seq[§y, z])
    ∷ row nothing (call (at 1) (name (at 1) (codes "default")) (part (index (at 9) (name (at 9) (codes "seq")) (part (name (at 13) (codes "y"))
    (part (name (at 16) (codes "z")) no_parts))) no_parts)) (stops UnknownName 13)
    -- default(array[§y])
    ∷ row nothing (call (at 1) (name (at 1) (codes "default")) (part (index (at 9) (name (at 9) (codes "array")) (part (name (at 15) (codes "y"))
    no_parts)) no_parts)) (stops UnknownName 15)
    -- default(nums[§0])
    ∷ row nothing (call (at 1) (name (at 1) (codes "default")) (part (index (at 9) (name (at 9) (codes "nums")) (part (int (at 14) (pos 0))
    no_parts)) no_parts)) (stops NotTyped 14)
    -- default(§z[y])
    ∷ row nothing (call (at 1) (name (at 1) (codes "default")) (part (index (at 9) (name (at 9) (codes "z")) (part (name (at 11) (codes "y"))
    no_parts)) no_parts)) (stops UnknownName 9)
    -- default(§int[int])
    ∷ row nothing (call (at 1) (name (at 1) (codes "default")) (part (index (at 9) (name (at 9) (codes "int")) (part (name (at 13) (codes "int"))
    no_parts)) no_parts)) (stops NotTyped 9)
    -- default(§seq[int, int])
    ∷ row nothing (call (at 1) (name (at 1) (codes "default")) (part (index (at 9) (name (at 9) (codes "seq")) (part (name (at 13) (codes "int"))
    (part (name (at 18) (codes "int")) no_parts))) no_parts)) (stops NotTyped 9)
    -- default(array[§true, int])
    ∷ row nothing (call (at 1) (name (at 1) (codes "default")) (part (index (at 9) (name (at 9) (codes "array")) (part (name (at 15) (codes "true")
    ) (part (name (at 21) (codes "int")) no_parts))) no_parts)) (stops NotTyped 15)
    -- default(§array[0, int])
    ∷ row nothing (call (at 1) (name (at 1) (codes "default")) (part (index (at 9) (name (at 9) (codes "array")) (part (int (at 15) (pos 0)) (part
    (name (at 18) (codes "int")) no_parts))) no_parts)) (stops NotTyped 9)
    -- default(§seq)
    ∷ row nothing (call (at 1) (name (at 1) (codes "default")) (part (name (at 9) (codes "seq")) no_parts)) (stops NotTyped 9)
    -- (§1).default
    ∷ row nothing (field (at 1) (paren (at 1) (int (at 2) (pos 1))) (codes "default")) (stops NotTyped 2)
    -- g(i, §n)
    ∷ row nothing (call (at 1) (name (at 1) (codes "g")) (part (name (at 3) (codes "i")) (part (name (at 6) (codes "n")) no_parts))) (stops
    NotAssignable 6)
    -- swap(§k, i)
    ∷ row nothing (call (at 1) (name (at 1) (codes "swap")) (part (name (at 6) (codes "k")) (part (name (at 9) (codes "i")) no_parts))) (stops
    NotAssignable 6)
    -- (t).a.inc
    ∷ row nothing (field (at 1) (field (at 1) (paren (at 1) (name (at 2) (codes "t"))) (codes "a")) (codes "inc")) (has None)
    ∷ []

-- types of which nothing is known yet, types with names of operations, a field with one, and constants
abbrev pub edge : Env
edge =
    record scene {
      entries = scene.entries ++ named (codes "T") (type.object (key (codes "T")) type.no_types) ∷ named (codes "U") (type.enum (key (codes "U")))
          ∷ named (codes "newseq") type.int ∷ named (codes "low") feet
          ∷ named (codes "Def") with_default ∷ variable (codes "d") 20 with_default false true
          ∷ constant (codes "ca") (type.array 2 type.int) (PartsOf (ALiteral (Number (pos 1)) (ALiteral (Number (pos 2)) NoLiteral)))
          ∷ constant (codes "cs") type.text (Characters (codes "ab"))
          ∷ constant (codes "cm") metre (Number (pos 4)) ∷ [];
      facts = record { of = with_default; fact = type.fields (field_of (codes "default") type.int ∷ []) false } ∷ scene.facts;
    }

abbrev pub edges_rows : List Row
edges_rows =
    -- §T()
    row nothing (call (at 1) (name (at 1) (codes "T")) no_parts) (stops NotTyped 1)
    -- §T(x: 1)
    ∷ row nothing (construct (at 1) (codes "T") (part (term.named (at 3) (codes "x") (int (at 6) (pos 1))) no_parts)) (stops NotTyped 1)
    -- §U(1)
    ∷ row nothing (call (at 1) (name (at 1) (codes "U")) (part (int (at 3) (pos 1)) no_parts)) (stops NotTyped 1)
    -- newSeq[int](3)
    ∷ row nothing (call (at 1) (index (at 1) (name (at 1) (codes "newSeq")) (part (name (at 8) (codes "int")) no_parts)) (part (int (at 13) (pos
    3)) no_parts)) (has (Some (type.sequence type.int)))
    -- low(§int)
    ∷ row nothing (call (at 1) (name (at 1) (codes "low")) (part (name (at 5) (codes "int")) no_parts)) (stops NotTyped 5)
    -- low(1)
    ∷ row nothing (call (at 1) (name (at 1) (codes "low")) (part (int (at 5) (pos 1)) no_parts)) (has (Some feet))
    -- d.default
    ∷ row nothing (field (at 1) (name (at 1) (codes "d")) (codes "default")) (has (Some type.int))
    -- ca
    ∷ row nothing (name (at 1) (codes "ca")) (has (Some (type.array 2 type.int)))
    -- len(ca)
    ∷ row nothing (call (at 1) (name (at 1) (codes "len")) (part (name (at 5) (codes "ca")) no_parts)) (has (Some type.int))
    -- ca[0]
    ∷ row nothing (index (at 1) (name (at 1) (codes "ca")) (part (int (at 4) (pos 0)) no_parts)) (has (Some type.int))
    -- case i of ca.len: 1 of §2: 2 else: 3
    ∷ row nothing (case_else (at 1) (name (at 6) (codes "i")) (choice (at 8) (part (field (at 11) (name (at 11) (codes "ca")) (codes "len"))
    no_parts) (int (at 19) (pos 1)) (choice (at 21) (part (int (at 24) (pos 2)) no_parts) (int (at 27) (pos 2)) no_choices)) (int (at 35) (pos
    3))) (stops CaseCover 24)
    -- case s of cs & "c": 1 of §"abc": 2 else: 3
    ∷ row nothing (case_else (at 1) (name (at 6) (codes "s")) (choice (at 8) (part (binary (at 11) sign.Join (name (at 11) (codes "cs")) (text (at
    16) (codes "\"c\""))) no_parts) (int (at 21) (pos 1)) (choice (at 23) (part (text (at 26) (codes "\"abc\"")) no_parts) (int (at 33) (pos
    2)) no_choices)) (int (at 41) (pos 3))) (stops CaseCover 26)
    -- u[cs.len - 1]
    ∷ row nothing (index (at 1) (name (at 1) (codes "u")) (part (binary (at 3) sign.Minus (field (at 3) (name (at 3) (codes "cs")) (codes "len"))
    (int (at 12) (pos 1))) no_parts)) (has (Some type.int))
    -- §u[cs.len]
    ∷ row nothing (index (at 1) (name (at 1) (codes "u")) (part (field (at 3) (name (at 3) (codes "cs")) (codes "len")) no_parts)) (stops NotTyped
    1)
    -- case i of ord(cm == cm): 1 of §1: 2 else: 3
    ∷ row nothing (case_else (at 1) (name (at 6) (codes "i")) (choice (at 8) (part (call (at 11) (name (at 11) (codes "ord")) (part (binary (at 15)
    sign.Equal (name (at 15) (codes "cm")) (name (at 21) (codes "cm"))) no_parts)) no_parts) (int (at 26) (pos 1)) (choice (at 28) (part (int
    (at 31) (pos 1)) no_parts) (int (at 34) (pos 2)) no_choices)) (int (at 42) (pos 3))) (stops CaseCover 31)
    -- swap(§ca, arr)
    ∷ row nothing (call (at 1) (name (at 1) (codes "swap")) (part (name (at 6) (codes "ca")) (part (name (at 10) (codes "arr")) no_parts))) (stops
    NotAssignable 6)
    ∷ []
