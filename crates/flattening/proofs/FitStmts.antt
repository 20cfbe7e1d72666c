-- The lines of statements fit.
use Rattle.std.proofs.Common.{◌≡◌, ℕ, suc, ◌+◌, Bool, true, List, [], ◌∷◌, ◌++◌, Option, None, refl, arith}
use Rattle.std.specs.Prelude.{◌&&◌, ◌||◌, not}
use Rattle.std.proofs.lemmas.Bool.{and_parts}
use Rattle.nim_types.specs.Types.{Ty, Facts}
use Rattle.nim_program.specs.declared.operation.Use.TheVariants.{Owned, Given}
use Rattle.nim_program.specs.declared.program.Mode.{Mode}
use Rattle.nim_program.specs.Program.{Label, ByConditions, ByLabels, Args, NoArg, ByValue, ByPath, Proc, Declared, type_of, types_in}
use Rattle.nim_program.specs.Program.{While, Count, Each as OfEach, Stmt, Do, Idle, Give, Leave, Select, Loop, Raise, Try}
use Rattle.nim_program.specs.Program.{Stmts, Empty, Then, Declare, Defer, Blocks, Otherwise, Block}
use Rattle.nim_program.specs.Folds.{lists, totals, total_in, total_of, each, each_block, own_places}
use Rattle.nim_program.specs.Kinds.{kind_if, is_bool, is_selected, is_of, is_there}
use Rattle.nim_program.specs.Fitting.{are_labels, are_enough}
use Rattle.nim_program.specs.Scopes.{Placed, placed, Here}
use Rattle.nim_program.specs.Typed.{own_types, is_typed, are_typed, Around, looping, are_conditions, are_blocks, has_else, labels_select, selector_kind}
use Rattle.nim_program.specs.Typed.{is_selector, chooses, starts, is_empty, is_typed_stmt, is_typed_block, are_typed_blocks}
use Rattle.nim_meaning.specs.Shapes.{is_covered, selector_type, is_last_block}
use Rattle.flat_code.specs.declared.line.Line.TheVariants as L
use Rattle.flat_code.specs.declared.place.FlatPlace.{FlatPlace}
use Rattle.flat_code.specs.Fits.{Signature}
use Rattle.flattening.specs.declared.numbers.Purpose.TheVariants.{End, Next, Arm, Turn}
use Rattle.flattening.specs.Formed.{IsListed}
use Rattle.flattening.specs.Numbering.{width, widths, arm_count, selector_from, behind_selector, width_in, width_of, label}
use Rattle.flattening.specs.Places.{branch_places, arm_places}
use Rattle.flattening.specs.StmtLines.{Exits, ending, in_loop, in_scope, selector_ends}
use Rattle.flattening.specs.StmtLines.{lines_in, lines_of, branch_lines, arm_blocks}
use Rattle.flattening.proofs.Direct.{is_direct, are_direct, is_direct_stmt, is_direct_block, are_direct_blocks}
use Rattle.flattening.proofs.Fit.{Among, Fit, fit_none, fit_line, ◌>>◌, fit_if}
use Rattle.flattening.proofs.FitBlocks.{together_each}
use Rattle.flattening.proofs.FitBlocks as blocks
use Rattle.flattening.proofs.FitExprs as exprs
use Rattle.flattening.proofs.FitParts.{never}
use Rattle.flattening.proofs.FitParts as parts
use Rattle.flattening.proofs.Numbered.{numbered_wide, ◌>>◌ as joined, Owns, owns_first, owns_second, owns_less, owns_inner}
use Rattle.flattening.proofs.Owned as owned
use Rattle.flattening.proofs.Parts.{Each, EachIn, apart, taking_turns}
use Rattle.flattening.proofs.StoodPlaces.{Mark, marks_in, marks_of}
use Rattle.flattening.proofs.PlaceNumbers.{selector_begins, expr_numbers}
use Rattle.flattening.proofs.PlaceNumbers.{stmt_numbers, block_numbers, branch_numbers, arm_numbers}
use Rattle.flattening.proofs.Widths.{width_of_blocks, turn_width}
use Rattle.flattening.proofs.FitTests as standing
use Rattle.flattening.proofs.FitLoops as loops

module _ (types : List Ty) (facts : Facts) (modes : (proc position : ℕ) → Mode) (procs : List Proc) (globals : List Placed) (sigs : List Signature)
    (start whole : List FlatPlace) (stands_for : ℕ → Bool)
    (result : Option Declared)
    (grounds : parts.Grounds types facts modes procs globals sigs start whole stands_for) where
  abbrev around : Among
  around = parts.around types facts modes procs globals sigs start whole stands_for

  abbrev value : ℕ → Option Ty
  value = parts.value types facts modes procs globals sigs start whole stands_for

  abbrev own_place : ℕ → Option Ty
  own_place = blocks.own_place types facts modes procs globals sigs start whole stands_for

  abbrev Held : Declared → Type 0
  Held = blocks.Held types facts modes procs globals sigs start whole stands_for

  abbrev Marked : Mark → Type 0
  Marked = blocks.Marked types facts modes procs globals sigs start whole stands_for

  abbrev Sees : ℕ → List Placed → Type 0
  Sees = parts.Sees types facts modes procs globals sigs start whole stands_for

  abbrev Listed : List Ty → Type 0
  Listed = Each (IsListed types)

  abbrev here : ℕ → List Placed → Option ℕ → Here
  here = parts.seen types facts modes procs globals sigs start whole stands_for

  abbrev ExitsFit : Exits → Type 0
  ExitsFit = standing.ExitsFit types facts modes procs globals sigs start whole stands_for result grounds

  abbrev StmtStood : (filled : ℕ) (places : List Placed) (dest : Option ℕ) (by : Around) (s : Stmt) (t : ℕ) → Type 0
  StmtStood = standing.StmtStood types facts modes procs globals sigs start whole stands_for result grounds

  abbrev BlockStood : (filled : ℕ) (places : List Placed) (dest : Option ℕ) (by : Around) (b : Stmts) (t : ℕ) → Type 0
  BlockStood = standing.BlockStood types facts modes procs globals sigs start whole stands_for result grounds

  abbrev ResultFits : Option Declared → Option Ty → Type 0
  ResultFits = standing.ResultFits types facts modes procs globals sigs start whole stands_for result grounds

  abbrev BlocksKnown : (filled : ℕ) (places : List Placed) (dest : Option ℕ) (by : Around) (bs : Blocks) → Type 0
  BlocksKnown = loops.BlocksKnown types facts modes procs globals sigs start whole stands_for result grounds

  mutual
    pub stmt_fits : (filled : ℕ) (places : List Placed) (dest : Option ℕ) (by : Around) (s : Stmt) (exits : Exits) (t : ℕ) → Sees filled places →
        ResultFits result by.gives → ExitsFit exits → StmtStood filled places dest by s t → Fit around (lines_in types facts modes result s exits t)
    stmt_fits filled places dest by (Do e) exits t sees gives fit s =
        let v = standing.value_stood types facts modes procs globals sigs start whole stands_for result grounds filled places dest sees e t
        (and_parts (not (is_there (type_of e))) (is_typed (here filled places dest) e) s.typed).1 s.direct s.listed s.owns in
        exprs.expr_fits types facts modes procs globals sigs start whole stands_for grounds filled places dest sees e Owned t v
        >> exprs.value_ends_fit types facts modes procs globals sigs start whole stands_for grounds filled places dest sees e Owned t v
    stmt_fits filled places dest by (Idle node parts) exits t sees gives fit s = fit_none
    stmt_fits filled places dest by (Give node back e) exits t sees gives fit s =
        let q = and_parts (is_of (type_of e) by.gives && (not back || by.returns)) (is_typed (here filled places dest) e) s.typed in
        let r = and_parts (is_of (type_of e) by.gives) (not back || by.returns) q.0 in
        let o = owns_inner (suc t) (suc t + width e) (omega arith) (omega arith) (omega arith) s.owns in
        let v = standing.value_stood types facts modes procs globals sigs start whole stands_for result grounds filled places dest sees e (suc t) q.1 s.direct
        s.listed o in
        standing.give_fits types facts modes procs globals sigs start whole stands_for result grounds filled places dest sees e (suc t) by.gives gives r.0 v
        >> (exprs.value_ends_fit types facts modes procs globals sigs start whole stands_for grounds filled places dest sees e Given (suc t) v >>
        standing.back_fits
        types facts
        modes procs globals sigs start whole stands_for result grounds exits back fit)
    stmt_fits filled places dest by
        (Leave node leaving parts) exits t sees gives fit s =
        standing.leaving_fits types facts modes procs globals sigs start whole stands_for result grounds exits
        leaving fit
    stmt_fits filled places dest by (Select node ByConditions tests bs) exits t sees gives fit s =
        let h = and_parts (chooses facts ByConditions tests bs && are_typed (here filled places dest) tests)
        (are_typed_blocks (here filled places dest) by bs) s.typed in
        let q = and_parts (chooses facts ByConditions tests bs) (are_typed (here filled places dest) tests) h.0 in
        let c = and_parts (are_conditions facts tests) (are_blocks (types_in tests) bs) q.0 in
        let p = and_parts (are_direct facts tests) (are_direct_blocks facts bs) s.direct in
        let l = taking_turns (IsListed types) (each lists own_types tests) (each_block lists own_types bs) s.listed in
        let d = taking_turns Held (each lists own_places tests) (each_block lists own_places bs) s.held in
        branches_fit filled places dest by tests bs exits t (suc t) sees gives fit c.0 q.1 p.0 l.0
        (record { typed = h.1; direct = p.1; listed = l.1; held = d.1; marks = s.marks })
        (let w = turn_width tests bs in
        owns_inner (suc t) (suc t + (widths tests + width_of_blocks bs)) (omega arith) (omega arith) (omega (arith, w)) s.owns)
        >> fit_line (L.Label (label End t)) refl refl
    stmt_fits filled places dest by (Select node (ByLabels labels) tests bs) exits t sees gives fit s =
        let h = and_parts (chooses facts (ByLabels labels) tests bs && are_typed (here filled places dest) tests)
        (are_typed_blocks (here filled places dest) by bs) s.typed in
        let q = and_parts (chooses facts (ByLabels labels) tests bs) (are_typed (here filled places dest) tests) h.0 in
        let c = and_parts (is_selector tests) (labels_select (selector_kind facts tests) labels bs) q.0 in
        let k = selector_kind facts tests in
        let m = and_parts ((is_selected k && are_labels k labels) && are_blocks labels bs) (has_else bs || are_enough k None labels) c.1 in
        let n = and_parts (is_selected k && are_labels k labels) (are_blocks labels bs) m.0 in
        let p = and_parts (are_direct facts tests) (are_direct_blocks facts bs) s.direct in
        let l = taking_turns (IsListed types) (each lists own_types tests) (each_block lists own_types bs) s.listed in
        let d = taking_turns Held (each lists own_places tests) (each_block lists own_places bs) s.held in
        let u = suc t + arm_count (ByLabels labels) in
        let e = selector_begins labels tests u in
        let w = turn_width tests bs in
        let v = behind_selector tests u in
        let o = blocks.selector_owned types facts modes procs globals sigs start whole stands_for filled places dest tests u (v + width_of_blocks bs)
        (arm_places types facts modes bs v) (arm_numbers types facts modes bs v) (omega arith)
        (owns_inner u (v + width_of_blocks bs) (omega arith) (omega arith) (omega (arith, e, w)) s.owns) in
        let selected = standing.selects types facts modes procs globals sigs start whole stands_for result grounds filled places dest sees labels tests bs
        u c.1 q.1
        p.0 (together_each (IsListed types) own_types tests l.0) o.0 in
        let ends = standing.selector_ends_fit types facts modes procs globals sigs start whole stands_for result grounds filled places dest sees tests
        (selector_from tests u)
        (standing.parts_stood types facts modes procs globals sigs start whole stands_for result grounds filled places dest sees tests
        (selector_from tests u) q.1 p.0
        (together_each (IsListed types) own_types tests l.0)
        (owned.parts_owned (parts.known types facts modes procs globals sigs start whole stands_for) modes whole tests u o.0)) in
        selected.fit
        >> (standing.block_tests_fit types facts modes procs globals sigs start whole stands_for result grounds filled places dest sees k labels bs u
        (suc t) selected.kind (and_parts (is_selected k) (are_labels k labels) n.0).1
        >> (fit_line (L.Jump (label Next t)) refl refl
        >> (arms_fit filled places dest by (is_covered (selector_type tests)) labels bs (ending (selector_ends types facts modes result tests) exits) t
        (suc t) v
        sees gives (standing.ending_fits types facts modes procs globals sigs start whole stands_for result grounds exits
        ends fit)
        (record { typed = h.1; direct = p.1; listed = l.1; held = d.1; marks = s.marks }) o.1
        >> (fit_line (L.Label (label End t)) refl refl >> ends))))
    stmt_fits filled places dest by (Loop node While (ByValue e NoArg) body) exits t sees gives fit s =
        let h = and_parts (is_bool (kind_if facts (type_of e)) && are_typed (here filled places dest) (ByValue e NoArg)) _ s.typed in
        let q = and_parts (is_bool (kind_if facts (type_of e))) (are_typed (here filled places dest) (ByValue e NoArg)) h.0 in
        let o = loops.loop_parts types facts modes procs globals sigs start whole stands_for result grounds node While (ByValue e NoArg) body t s.owns in
        let p = and_parts (are_direct facts (ByValue e NoArg)) (is_direct_block facts body) s.direct in
        let l = apart (IsListed types) (totals lists own_types (ByValue e NoArg)) (total_of lists own_types body) s.listed in
        let d = apart Held (totals lists own_places (ByValue e NoArg)) (total_of lists own_places body) s.held in
        let v = standing.one_value types facts modes procs globals sigs start whole stands_for result grounds filled places dest sees e (suc t) q.1 p.0
        l.0 o.0 in
        fit_line (L.Jump (label Next t)) refl refl
        >> (fit_line (L.Label (label Turn t)) refl refl
        >> (block_fits filled places dest (looping by) body (in_loop exits t) (suc t + widths (ByValue e NoArg)) sees gives
        (standing.in_loop_fits types facts modes procs globals sigs start whole stands_for result grounds exits t fit)
        (record { typed = (and_parts (not (is_empty body)) _ h.1).1; direct = p.1; listed = l.1; held = d.1; marks = s.marks; owns = o.1 })
        >> (fit_line (L.Label (label Next t)) refl refl
        >> (exprs.expr_fits types facts modes procs globals sigs start whole stands_for grounds filled places dest sees e Owned (suc t) v
        >> (exprs.value_ends_fit types facts modes procs globals sigs start whole stands_for grounds filled places dest sees e Owned (suc t) v
        >> (fit_line (L.TurnIf (suc t) (label Turn t)) refl
        (standing.bool_at types facts modes procs globals sigs start whole stands_for result grounds filled places dest sees (suc t) (type_of e)
        (parts.value_is types facts modes procs globals sigs start whole stands_for filled places dest e (suc t) v) q.0)
        >> fit_line (L.Label (label End t)) refl refl))))))
    stmt_fits filled places dest by (Loop node While NoArg body) exits t sees gives fit s = never s.typed
    stmt_fits filled places dest by (Loop node While (ByValue e (ByValue f rest)) body) exits t sees gives fit s =
        never s.typed
    stmt_fits filled places dest by (Loop node While (ByValue e (ByPath path rest)) body) exits t sees gives fit s =
        never s.typed
    stmt_fits filled places dest by (Loop node While (ByPath path rest) body) exits t sees gives fit s = never s.typed
    stmt_fits filled places dest by (Loop node (Count variable inclusive) head body) exits t sees gives fit s =
        let inside = loops.inside types facts modes procs globals sigs start whole stands_for result grounds filled places dest by node variable body exits t
        sees head in
        loops.count_fits types facts modes procs globals sigs start whole stands_for result grounds filled places dest by node variable body exits t sees
        inclusive head s
        (λ more seen ends b. block_fits filled more dest (looping by) body inside (suc t + widths head) seen gives
        (loops.inside_fits types facts modes procs globals sigs start whole stands_for result grounds filled places dest by node variable body exits t sees
        head ends
        s.listed.0
        s.held.0 fit) b)
    stmt_fits filled places dest by (Loop node (OfEach variable) head body) exits t sees gives fit s =
        let inside = loops.inside types facts modes procs globals sigs start whole stands_for result grounds filled places dest by node variable body exits t
        sees head in
        loops.each_fits types facts modes procs globals sigs start whole stands_for result grounds filled places dest by node variable body exits t sees head s
        (λ more seen ends b. block_fits filled more dest (looping by) body inside (suc t + 2 + widths head) seen gives
        (loops.inside_fits types facts modes procs globals sigs start whole stands_for result grounds filled places dest by node variable body exits t sees
        head ends
        s.listed.0
        s.held.0 fit) b)
    stmt_fits filled places dest by (Raise node exception message) exits t sees gives fit s = fit_none
    stmt_fits filled places dest by (Try node body handlers last) exits t sees gives fit s = fit_none

    pub block_fits : (filled : ℕ) (places : List Placed) (dest : Option ℕ) (by : Around) (b : Stmts) (exits : Exits) (t : ℕ) → Sees filled places →
        ResultFits result by.gives → ExitsFit exits → BlockStood filled places dest by b t → Fit around (lines_of types facts modes result b exits t)
    block_fits filled places dest by Empty exits t sees gives fit b = fit_none
    block_fits filled places dest by (Then first rest) exits t sees gives fit b =
        let h = and_parts (is_typed_stmt (here filled places dest) by first) (is_typed_block (here filled places dest) by rest) b.typed in
        let p = and_parts (is_direct_stmt facts first) (is_direct_block facts rest) b.direct in
        let l = apart (IsListed types) (total_in lists own_types first) (total_of lists own_types rest) b.listed in
        let d = apart Held (total_in lists own_places first) (total_of lists own_places rest) b.held in
        let m = apart Marked (marks_in facts first) (marks_of facts rest) b.marks in
        stmt_fits filled places dest by first exits t sees gives fit (record {
          typed = h.0;
          direct = p.0;
          listed = l.0;
          held = d.0;
          marks = m.0;
          owns = owns_first (t + width_in first) (t + width_in first + width_of rest) (omega arith)
              (block_numbers types facts modes rest (t + width_in first)) b.owns;
        })
        >> block_fits filled places dest by rest exits (t + width_in first) sees gives fit (record {
          typed = h.1;
          direct = p.1;
          listed = l.1;
          held = d.1;
          marks = m.1;
          owns = owns_second t (t + width_in first) (t + width_in first + width_of rest) (omega arith) (omega arith) (omega arith)
              (stmt_numbers types facts modes first t) b.owns;
        })
    block_fits filled places dest by (Declare node place cursor value rest) exits t sees gives fit b =
        let h = and_parts (starts facts place.of value && are_typed (here filled places dest) value) (is_typed_block _ by rest) b.typed in
        let k = loops.declared_known types facts modes procs globals sigs start whole stands_for result grounds filled places dest node place cursor value
        rest t sees
        h.0 b.direct b.listed b.held b.marks b.owns in
        loops.declared_fits types facts modes procs globals sigs start whole stands_for result grounds filled places dest sees node place cursor value rest
        exits t k
        (λ u owns. block_fits filled (places ++ placed place ∷ []) dest by rest (in_scope types facts modes result place exits) u
        (blocks.sees_place types facts modes procs globals sigs start whole stands_for filled places place sees k.place_held) gives
        (standing.scope_fits types facts modes procs globals sigs start whole stands_for result grounds place exits k.place_listed k.place_held fit)
        (record { typed = h.1; direct = k.rest_direct; listed = k.rest_listed; held = k.rest_held; marks = k.rest_marks; owns = owns }))
    block_fits filled places dest by (Defer node last rest) exits t sees gives fit b = fit_none

    branches_fit : (filled : ℕ) (places : List Placed) (dest : Option ℕ) (by : Around) (tests : Args) (bs : Blocks) (exits : Exits) (t u : ℕ) →
        Sees filled places → ResultFits result by.gives → ExitsFit exits → are_conditions facts tests ≡ true →
        are_typed (here filled places dest) tests ≡ true → are_direct facts tests ≡ true → EachIn (IsListed types) (each lists own_types tests) →
        BlocksKnown filled places dest by bs → Owns whole (branch_places types facts modes tests bs u) u u (u + (widths tests + width_of_blocks bs)) →
        Fit around (branch_lines types facts modes result tests bs exits t u)
    branches_fit filled places dest by NoArg (Otherwise block) exits t u sees gives fit c typed d l bs owns =
        block_fits filled places dest by block exits u sees gives fit
        (loops.last_block types facts modes procs globals sigs start whole stands_for result grounds filled places dest by block u bs
        (owns_less (u + width_of block) (omega arith) owns))
    branches_fit filled places dest by NoArg (Block first rest) exits t u sees gives fit c typed d l bs owns =
        block_fits filled places dest by first exits u sees gives fit
        (loops.first_block types facts modes procs globals sigs start whole stands_for result grounds filled places dest by first rest u bs
        (owns_less (u + width_of first) (omega arith) owns))
    branches_fit filled places dest by (ByPath path tests) bs exits t u sees gives fit c typed d l known owns = never c
    branches_fit filled places dest by (ByValue e tests) (Otherwise block) exits t u sees gives fit c typed d l bs owns = fit_none
    branches_fit filled places dest by (ByValue e tests) (Block first rest) exits t u sees gives fit c typed d l bs owns =
        let h = and_parts (is_typed (here filled places dest) e) (are_typed (here filled places dest) tests) typed in
        let k = and_parts (is_direct facts e) (are_direct facts tests) d in
        let b = and_parts (is_bool (kind_if facts (type_of e))) (are_conditions facts tests) c in
        let v = u + width e in
        let w = v + width_of first in
        let hi = w + (widths tests + width_of_blocks rest) in
        let behind = owns_second u v hi (omega arith) (omega arith) (omega arith) (expr_numbers types facts modes e u) owns in
        let s = blocks.stood types facts modes procs globals sigs start whole stands_for filled places dest e u h.0 k.0 l.0
        (owns_first v hi (omega arith)
        (joined (numbered_wide (omega arith) (omega arith) (block_numbers types facts modes first v))
        (numbered_wide (omega arith) (omega arith) (branch_numbers types facts modes tests rest w))) owns) in
        exprs.expr_fits types facts modes procs globals sigs start whole stands_for grounds filled places dest sees e Owned u s
        >> (exprs.value_ends_fit types facts modes procs globals sigs start whole stands_for grounds filled places dest sees e Owned u s
        >> (fit_line (L.Unless u (label Arm u)) refl
        (standing.bool_at types facts modes procs globals sigs start whole stands_for result grounds filled places dest sees u (type_of e)
        (parts.value_is types facts modes procs globals sigs start whole stands_for filled places dest e u s) b.0)
        >> (block_fits filled places dest by first exits v sees gives fit
        (loops.first_block types facts modes procs globals sigs start whole stands_for result grounds filled places dest by first rest v bs
        (owns_first w hi (omega arith) (branch_numbers types facts modes tests rest w) behind))
        >> (fit_line (L.Jump (label End t)) refl refl
        >> (fit_line (L.Label (label Arm u)) refl refl
        >> branches_fit filled places dest by tests rest exits t w sees gives fit b.1 h.1 k.1 l.1
        (loops.rest_known types facts modes procs globals sigs start whole stands_for result grounds filled places dest by first rest bs)
        (owns_second v w hi (omega arith) (omega arith) (omega arith) (block_numbers types facts modes first v) behind))))))

    arms_fit : (filled : ℕ) (places : List Placed) (dest : Option ℕ) (by : Around) (covered : Bool) (labels : List (List Label)) (bs : Blocks)
        (exits : Exits) (t arm u : ℕ) → Sees filled places → ResultFits result by.gives → ExitsFit exits → BlocksKnown filled places dest by bs →
        Owns whole (arm_places types facts modes bs u) u u (u + width_of_blocks bs) →
        Fit around (arm_blocks types facts modes result covered labels bs exits t arm u)
    arms_fit filled places dest by covered labels (Otherwise block) exits t arm u sees gives fit bs owns =
        fit_line (L.Label (label Next t)) refl refl
        >> block_fits filled places dest by block exits u sees gives fit
        (loops.last_block types facts modes procs globals sigs start whole stands_for result grounds filled places dest by block u bs owns)
    arms_fit filled places dest by covered [] (Block first rest) exits t arm u sees gives fit bs owns =
        fit_line (L.Label (label Next t)) refl refl
        >> block_fits filled places dest by first exits u sees gives fit
        (loops.first_block types facts modes procs globals sigs start whole stands_for result grounds filled places dest by first rest u bs
        (owns_first (u + width_of first) (u + width_of first + width_of_blocks rest) (omega arith)
        (arm_numbers types facts modes rest (u + width_of first)) owns))
    arms_fit filled places dest by covered (these ∷ labels) (Block first rest) exits t arm u sees gives fit bs owns =
        let v = u + width_of first in
        exprs.arm_fits types facts modes procs globals sigs start whole stands_for grounds filled places dest sees (covered && is_last_block rest)
        (label Next t)
        (label Arm arm)
        >> (block_fits filled places dest by first exits u sees gives fit
        (loops.first_block types facts modes procs globals sigs start whole stands_for result grounds filled places dest by first rest u bs
        (owns_first v (v + width_of_blocks rest) (omega arith) (arm_numbers types facts modes rest v) owns))
        >> fit_if (covered && is_last_block rest) fit_none
        (fit_line (L.Jump (label End t)) refl refl
        >> arms_fit filled places dest by covered labels rest exits t (suc arm) v sees gives fit
        (loops.rest_known types facts modes procs globals sigs start whole stands_for result grounds filled places dest by first rest bs)
        (owns_second u v (v + width_of_blocks rest) (omega arith) (omega arith) (omega arith) (block_numbers types facts modes first u) owns)))
