-- More programs with their acts: lent arguments, literals, what gets a value, temporaries of what may not be evaluated, branches, kinds of places.
use Rattle.std.specs.Prelude.{pos, true, false, List, [], ◌∷◌, Some, None}
use Rattle.nim_types.specs.Types.{int, bool, text, array}
use Rattle.nim_program.specs.declared.operation.Operation.TheVariants as O
use Rattle.nim_program.specs.declared.operation.Measure.TheVariants as E
use Rattle.nim_program.specs.declared.operation.Short.TheVariants as S
use Rattle.nim_program.specs.declared.program.Mode.TheVariants as M
use Rattle.nim_program.specs.Program as T
use Rattle.nim_program.specs.Program.{Expr, Stmts, Program}
use Rattle.nim_meaning.specs.ActTree.{Named, Temporary, Literal, Index, Path, Operands, On, Pass, Look, Take, Lend, Fill, Give, Operate}
use Rattle.nim_meaning.specs.ActTree.{Begins, Does, Fills, Chooses, Turns, Asks, Decides, Do, Call, Group, Acts, Done, Bind, Result}
use Rattle.nim_meaning.specs.Ways.{At, Stop}
use Rattle.nim_meaning.specs.Arrows.{Arrow, arrow}
use Rattle.nim_meaning.specs.PlaceKinds.{Kinded, kinded, Local, Global, For_variable, Parameter, Result_place}
use Rattle.nim_meaning.specs.ActExamples.{node, number, written, name, read, equal, values, operation, assigned, echoed, declared, declare, when, block}
use Rattle.nim_meaning.specs.ActExamples.{body, proc, param, program, of, does, nothing, reading, works, fork, ◌▸◌}

-- proc f(x: string): string = x
-- proc h(): string =
--   s = "a"
--   "a"
-- var s = "a"
-- echo f(s), h()
abbrev pub lending : Program
lending = record {
  types = [];
  facts = [];
  procs =
      proc (param 1 text M.Plain ∷ []) (body (Some (declared 2 text)) (block (T.Give (node 1) false (read 2 text 1) ∷ [])))
      ∷ proc [] (body (Some (declared 3 text)) (block (assigned 3 (name 4 text 0) (written 5) ∷ T.Give (node 6) false (written 7) ∷ [])))
      ∷ [];
  globals = declared 0 text ∷ [];
  start = body None (
      declare 8 (declared 0 text) (written 9) (
      block (
      echoed 10 (
      T.Apply (node 11) (Some text) (T.Calling 0 []) (values (read 12 text 0 ∷ []))
      ∷ T.Apply (node 13) (Some text) (T.Calling 1 []) T.NoArg ∷ []) ∷ [])));
}

abbrev pub by_echo : Operands
by_echo = record { alters = []; reads = Temporary 11 ∷ Temporary 13 ∷ []; takes = [] }

-- what follows where s is lent to f
abbrev pub behind_lent : Acts
behind_lent =
    Call 11 0 (reading 12) ▸ Do 11 Fills (Fill (Temporary 11)) ▸
    Call 13 1 nothing ▸ Do 13 Fills (Fill (Temporary 13)) ▸
    does 10 (Operate by_echo) ▸ Done

abbrev pub lending_acts : Acts
lending_acts =
    Group 8 Begins (works 9 ▸ does 8 (Fill (Named 0)) ▸ Done) ▸ Bind (Named 0) 10 (
    Group 10 Begins (Bind (Temporary 12) 12 (Bind (Temporary 11) 11 (Bind (Temporary 13) 13 (
    does 12 (Lend (Some 12) (Temporary 12) (of 0)) ▸ behind_lent)))) ▸ Done)

-- f has returned before h writes s
abbrev pub lent_region : Acts
lent_region = Call 11 0 (reading 12) ▸ Done

-- the result gets x
abbrev pub giving_acts : Acts
giving_acts = Result (Named 2) 1 (Group 1 Begins (does 2 (Take 2 (Some (Named 2)) (of 1)) ▸ does 1 (Give (of 2)) ▸ Done) ▸ Done)

abbrev pub lending_kinds : List Kinded
lending_kinds =
    kinded (declared 1 text) (Parameter M.Plain) ∷ kinded (declared 2 text) Result_place ∷ kinded (declared 3 text) Result_place
    ∷ kinded (declared 0 text) Global ∷ []

-- proc p(x: sink string) =
--   let t = x
--   for i in 0..1:
--     discard "a".len
abbrev pub owning : Program
owning = program (
    proc (param 0 text M.Sink ∷ []) (body None (
    declare 1 (declared 1 text) (read 2 text 0) (
    block (
    T.Loop (node 3) (T.Count (declared 2 int) true) (values (number 4 0 ∷ number 5 1 ∷ [])) (
    block (
    T.Do (operation 6 None O.Discard (values (operation 7 (Some int) (O.Measure E.Len) (T.ByPath (T.Fresh (written 8)) T.NoArg) ∷ []))) ∷ [])) ∷ []))))
    ∷ []) T.Empty

abbrev pub owning_kinds : List Kinded
owning_kinds = kinded (declared 0 text) (Parameter M.Sink) ∷ kinded (declared 1 text) Local ∷ kinded (declared 2 int) For_variable ∷ []

abbrev pub moved : Path
moved = of 0

-- a literal that a path begins with: it is read where it stands, and nobody owns it
abbrev pub literal_length : Expr
literal_length = operation 7 (Some int) (O.Measure E.Len) (T.ByPath (T.Fresh (written 8)) T.NoArg)

abbrev pub literal_length_acts : Acts
literal_length_acts = does 7 (Look (record { root = Literal 8; steps = [] })) ▸ Done

-- let t = x
abbrev pub given_to_t : Stmts
given_to_t = declare 1 (declared 1 text) (read 2 text 0) T.Empty

abbrev pub given_to_t_acts : Acts
given_to_t_acts = Group 1 Begins (does 2 (Take 2 (Some (Named 1)) (of 0)) ▸ does 1 (Fill (Named 1)) ▸ Done) ▸ Bind (Named 1) 1 Done

-- if x == "a" and x & "a" == "a":
--   discard
abbrev pub maybe_joined : Stmts
maybe_joined = block (
    when 1
    (T.Early (node 2) bool S.And (equal 3 (read 4 text 0) (written 5))
    (equal 6 (operation 7 (Some text) O.Join (values (read 8 text 0 ∷ written 9 ∷ []))) (written 10)))
    (block (T.Idle (node 11) T.NoArg ∷ [])) ∷ [])

-- the temporaries of the right operand end with the condition, though it may not have been evaluated
abbrev pub maybe_joined_acts : Acts
maybe_joined_acts =
    Group 1 Begins (
    Group 2 Asks (Bind (Temporary 4) 4 (Bind (Temporary 8) 8 (Bind (Temporary 7) 7 (
    does 4 (Lend (Some 4) (Temporary 4) (of 0)) ▸ works 5 ▸ does 3 (Operate (reading 4)) ▸
    fork 2 Chooses (
    does 8 (Lend (Some 8) (Temporary 8) (of 0)) ▸ works 9 ▸ does 7 (Operate (reading 8)) ▸ Do 7 Fills (Fill (Temporary 7)) ▸
    works 10 ▸ does 6 (Operate (reading 7)) ▸ Done) Done ▸ Done)))) ▸
    fork 2 Decides (does 11 Pass ▸ Done) Done ▸ Done) ▸ Done

-- case b
-- of false: discard
-- of true: echo (if b: x else: y)
abbrev pub covered : Stmts
covered = block (
    T.Select (node 1) (T.ByLabels ((T.Ordinals (pos 0) (pos 0) ∷ []) ∷ (T.Ordinals (pos 1) (pos 1) ∷ []) ∷ [])) (T.ByPath (name 2 bool 0) T.NoArg)
    (T.Block (block (T.Idle (node 3) T.NoArg ∷ [])) (
    T.Block (block (
    echoed 4 (T.Choose (node 5) (Some text) T.ByConditions (values (read 6 bool 0 ∷ read 7 text 1 ∷ read 8 text 2 ∷ [])) ∷ []) ∷ [])) (
    T.Otherwise T.Empty))) ∷ [])

-- The labels cover the type, so there is no further branch. The value of a branch is consumed, and that of the whole lent.
abbrev pub covered_acts : Acts
covered_acts =
    Group 1 Begins (
    does 2 (Look (of 0)) ▸
    fork 1 Chooses (does 3 Pass ▸ Done) (
    Group 4 Begins (Bind (Temporary 5) 5 (
    Group 5 Chooses (
    Group 6 Asks (does 6 (Look (of 0)) ▸ Done) ▸
    fork 6 Decides (does 7 (Take 7 None (of 1)) ▸ Done) (does 8 (Take 8 None (of 2)) ▸ Done) ▸ Done) ▸
    Do 5 Fills (Fill (Temporary 5)) ▸ does 4 (Operate (reading 5)) ▸ Done)) ▸ Done) ▸ Done) ▸ Done

-- t = b[1]
abbrev pub taking_part : Stmts
taking_part =
    block (assigned 1 (name 2 int 1) (T.Read (T.Element (node 3) int (name 4 (array 2 int) 0) (number 5 1) (Some (pos 1)))) ∷ [])

-- the index is evaluated, the element read and then given
abbrev pub taking_part_ways : List Arrow
taking_part_ways =
    arrow (At 1 Begins) Pass (At 5 Does) ∷ arrow (At 5 Does) (Operate nothing) (At 3 Does)
    ∷ arrow (At 3 Does) (Look (record { root = Named 0; steps = Index (Some (pos 1)) ∷ [] })) (At 1 Does)
    ∷ arrow (At 1 Does) (Give (of 1)) (Stop On) ∷ []

-- for i in 0..1:
--   t = i
abbrev pub giving_number : Stmts
giving_number =
    block (
    T.Loop (node 1) (T.Count (declared 2 int) true) (values (number 2 0 ∷ number 3 1 ∷ []))
    (block (assigned 4 (name 5 int 1) (read 6 int 2) ∷ [])) ∷ [])

-- each turn fills i, reads it and gives t its value
abbrev pub giving_number_ways : List Arrow
giving_number_ways =
    arrow (At 1 Begins) Pass (At 2 Does) ∷ arrow (At 2 Does) (Operate nothing) (At 3 Does) ∷ arrow (At 3 Does) (Operate nothing) (At 1 Turns)
    ∷ arrow (At 1 Turns) Pass (At 1 Chooses) ∷ arrow (At 1 Chooses) Pass (At 1 Fills) ∷ arrow (At 1 Chooses) Pass (Stop On)
    ∷ arrow (At 1 Fills) (Fill (Named 2)) (At 4 Begins) ∷ arrow (At 4 Begins) Pass (At 6 Does)
    ∷ arrow (At 6 Does) (Look (of 2)) (At 4 Does) ∷ arrow (At 4 Does) (Give (of 1)) (At 1 Turns) ∷ []
