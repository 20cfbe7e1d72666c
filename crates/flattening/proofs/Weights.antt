-- What flat code weighs.
use Rattle.std.proofs.Common.{◌≡◌, ℕ, suc, ◌+◌, ◌*◌, ◌≤◌, Bool, true, false, List, [], ◌∷◌, ◌++◌, length, Option, Some, None, refl, ap, arith}
use Rattle.std.specs.Prelude.{pos, if◌then◌else◌, map}
use Rattle.std.specs.Ordering.{int_eq}
use Rattle.nim_types.specs.Types.{Ty, Facts}
use Rattle.nim_plan.specs.declared.plan.Plan.{Plan}
use Rattle.nim_program.specs.declared.operation.Operation.{Operation}
use Rattle.nim_program.specs.declared.operation.Operation.TheVariants as O
use Rattle.nim_program.specs.declared.operation.Use.{Use}
use Rattle.nim_program.specs.Uses.{use_of}
use Rattle.flat_code.specs.declared.line.UseAt.{UseAt}
use Rattle.flat_code.specs.declared.line.Line.TheVariants as L
use Rattle.nim_program.specs.declared.program.HookOf.{HookOf}
use Rattle.nim_program.specs.declared.program.Mode.{Mode}
use Rattle.nim_program.specs.Program.{Label, Ordinals, Exactly, Literal, Number, Characters, NoObject, PartsOf, ElementsOf, Literals, NoLiteral, ALiteral}
use Rattle.nim_program.specs.Program.{Act, Doing, Building, Giving, Calling, Args, NoArg, ByValue, ByPath, Param, Body, Proc, Program, types_in}
use Rattle.flat_code.specs.declared.code.CodeProc.{CodeProc}
use Rattle.flat_code.specs.declared.line.Line.{Line}
use Rattle.flat_code.specs.Codes.{flat_plain}
use Rattle.flat_code.specs.declared.line.Piece.{Piece}
use Rattle.flat_code.specs.declared.line.Piece.TheVariants as P
use Rattle.flat_code.specs.Pieces.{pieces_of, pieces_of_all, count_of}
use Rattle.flat_code.specs.Sizes.{weight_of, weight, pieces_weight, summed, proc_weight, code_weight}
use Rattle.flattening.specs.Counted.{literal_parts, all_parts, program_parts, body_pairs, if_pairs, procs_pairs, program_pairs}
use Rattle.flattening.specs.ExprLines.{froms, act_line, written_label}
use Rattle.flattening.specs.Flattened.{modes_of}
use Rattle.flattening.specs.Given.{flat_body, flat_proc, flat_procs}
use Rattle.flattening.specs.Numbering.{width, width_at}
use Rattle.flattening.specs.StmtLines.{body_lines}
use Rattle.flattening.proofs.Amounts.{act_counted, body_counted, if_counted, procs_counted, taken, program_scaled, pairs_scaled, none_of, no_label}
use Rattle.flattening.proofs.Measures.{back, reserved, Bounds, body_spare}

-- ---- what one takes

pieces_end : (a b : List Piece) → pieces_weight (a ++ b) ≡ pieces_weight a + pieces_weight b
pieces_end [] b = omega arith
pieces_end (p ∷ a) b = let h = pieces_end a b in omega (arith, h)

number_most : (zero : Bool) → (if zero then 0 else 3) + 0 ≤ 44 * (if zero then 0 else 1)
number_most true = omega arith
number_most false = omega arith

mutual
  literal_most : (l : Literal) → pieces_weight (pieces_of l) ≤ 44 * literal_parts l
  literal_most (Number z) = number_most (int_eq z (pos 0))
  literal_most (Characters text) = omega arith
  literal_most NoObject = omega arith
  literal_most (PartsOf all) = let h = pieces_end (pieces_of_all all) (P.Parts (count_of all) ∷ []) in let i = all_most all in omega (arith, h, i)
  literal_most (ElementsOf all) = let h = pieces_end (pieces_of_all all) (P.Elements (count_of all) ∷ []) in let i = all_most all in omega (arith, h, i)

  all_most : (all : Literals) → pieces_weight (pieces_of_all all) ≤ 44 * all_parts all
  all_most NoLiteral = omega arith
  all_most (ALiteral first rest) =
      let h = pieces_end (pieces_of first) (pieces_of_all rest) in
      let i = literal_most first in
      let j = all_most rest in
      omega (arith, h, i, j)

operation_most : (operation : Operation) (n : ℕ) → weight_of operation n ≤ 13 + 12 * n
operation_most O.Default n = omega arith
operation_most (O.Unary operator) n = omega arith
operation_most (O.Binary operator) n = omega arith
operation_most (O.Compare comparison) n = omega arith
operation_most O.Convert n = omega arith
operation_most O.Make n = omega arith
operation_most (O.Measure measure) n = omega arith
operation_most O.Echo n = omega arith
operation_most O.Quit n = omega arith
operation_most O.Assign n = omega arith
operation_most (O.Update operator) n = omega arith
operation_most O.Move n = omega arith
operation_most O.Swap n = omega arith
operation_most operation n = omega arith

-- as many operands as there are reserves
reserves : (facts : Facts) (act : Act) (args : Args) (uses : (position : ℕ) → Use) (i t : ℕ) →
    reserved 12 args ≡ 12 * length (froms facts act args uses i t)
reserves facts act NoArg uses i t = refl
reserves facts act (ByValue value rest) uses i t = let h = reserves facts act rest uses (suc i) (t + width value) in omega (arith, h)
reserves facts act (ByPath path rest) uses i t = let h = reserves facts act rest uses (suc i) (t + width_at path) in omega (arith, h)

label_most : (s arm : ℕ) (these : Label) → weight (L.Fits s (written_label these) arm) ≤ 44 + 0
label_most s arm (Ordinals low high) = omega arith
label_most s arm (Exactly text) = omega arith

pub plain_same : (lines : List Line) → map flat_plain lines ≡ lines
plain_same [] = refl
plain_same (l ∷ lines) = ap (λ ls. l ∷ ls) (plain_same lines)

module _ (types : List Ty) (facts : Facts) (modes : (proc position : ℕ) → Mode) where
  act_most : (t : ℕ) (act : Act) (how : UseAt) (ty : Option Ty) (operands : Args) →
      weight (act_line types facts modes t act how ty (types_in operands) (froms facts act operands (use_of modes act) 0 (suc t))) + 13 + back 8 act + 1 + 9
      ≤ act_counted 44 taken none_of no_label act + reserved 12 operands
  act_most t (Doing operation) how ty operands =
      let uses = use_of modes (Doing operation) in
      let h = operation_most operation (length (froms facts (Doing operation) operands uses 0 (suc t))) in
      let r = reserves facts (Doing operation) operands uses 0 (suc t) in
      omega (arith, h, r)
  act_most t (Building fields) how None operands =
      let r = reserves facts (Building fields) operands (use_of modes (Building fields)) 0 (suc t) in omega (arith, r)
  act_most t (Building fields) how (Some ty) operands =
      let r = reserves facts (Building fields) operands (use_of modes (Building fields)) 0 (suc t) in omega (arith, r)
  act_most t (Giving literal) how None operands = let h = literal_most literal in omega (arith, h)
  act_most t (Giving literal) how (Some ty) operands = let h = literal_most literal in omega (arith, h)
  act_most t (Calling proc of) how ty operands =
      let r = reserves facts (Calling proc of) operands (use_of modes (Calling proc of)) 0 (suc t) in omega (arith, r)

  weight_bounds : Bounds types facts modes weight 44 taken none_of no_label 12 13 25 3 9 1 7 20 8 3
  weight_bounds = record {
    reserves = omega arith;
    act = act_most;
    waits = λ node from. omega arith;
    takes = λ node. omega arith;
    ends = λ node ty. omega arith;
    place_ends = λ place ty. omega arith;
    lends = λ t from node. omega arith;
    lends_text = λ t ty how text. omega arith;
    root = λ t place global. omega arith;
    fresh = omega arith;
    in_place = λ t ty literal. omega arith;
    field = λ t field. omega arith;
    item = λ t at index. omega arith;
    object = λ t. omega arith;
    got = λ t from how ty. omega arith;
    looked = λ s t. omega arith;
    both = λ t s from l how. omega arith;
    either = λ t s from l next how. omega arith;
    handed = λ t from how ty. omega arith;
    condition = λ t u from l arm how ty. omega arith;
    chosen = λ t l next how ty. omega arith;
    test = λ s arm these. label_most s arm these;
    branch = λ other arm l. omega arith;
    given = λ place from. omega arith;
    gets = λ place ty from. omega arith;
    left = omega arith;
    leaving = λ l. omega arith;
    returning = λ place. omega arith;
    block = λ u arm l. omega arith;
    selected = λ t next l. omega arith;
    while = λ t u turn next l. omega arith;
    count = λ counter last place turn next l inclusive. omega arith;
    elements = λ counter last at back next arm l. omega arith;
    element = λ t at counter place. omega arith;
    copies = λ t at counter place ty from. omega arith;
    stands = λ t at counter place from. omega arith;
    blank = λ place ty. omega arith;
    filled = λ place from. omega arith;
    copied = λ place ty from. omega arith;
    kept = omega arith;
  }

module _ (program : Program) (plan : Plan) where
  some_most : (lines : List Line) → proc_weight lines ≤ 18 + summed weight lines
  some_most [] = omega arith
  some_most (l ∷ lines) = omega arith

  abbrev modes : (proc position : ℕ) → Mode
  modes = modes_of program plan

  abbrev pairs : List Param → Body → ℕ
  pairs = body_pairs program.facts modes 9

  body_most : (hook : Option HookOf) (params : List Param) (body : Body) →
      proc_weight (map flat_plain (flat_body program plan hook params body).lines) ≤ body_counted 44 taken none_of no_label body + pairs params body
  body_most hook params body =
      let lines = body_lines program.types program.facts modes params body in
      let s = body_spare program.types program.facts modes weight 44 taken none_of no_label 12 13 25 3 9 1 7 20 8 3
      (weight_bounds program.types program.facts modes)
      params body.result body.stmts in
      let a = some_most lines in
      let e = ap proc_weight (plain_same lines) in
      omega (arith, s, a, e)

  procs_most : (procs : List Proc) (more : List (CodeProc Line)) →
      code_weight flat_plain (map (λ (p : Proc). flat_proc program plan p.hook p.params p.body) procs ++ more)
      ≤ procs_counted 44 taken none_of no_label procs + procs_pairs program.facts modes 9 procs + code_weight flat_plain more
  procs_most [] more = omega arith
  procs_most (p ∷ procs) more =
      let h = of_body p.body in
      let i = procs_most procs more in
      omega (arith, h, i)
    where
      of_body : (body : Option Body) → proc_weight (map flat_plain (flat_proc program plan p.hook p.params body).lines)
          ≤ if_counted 44 taken none_of no_label body + if_pairs program.facts modes 9 p.params body
      of_body None = omega arith
      of_body (Some body) = body_most p.hook p.params body

  pub weighs : code_weight flat_plain (flat_procs program plan) ≤ 44 * program_parts program + 9 * program_pairs modes program
  weighs =
      let h = procs_most program.procs (flat_body program plan None [] program.start ∷ []) in
      let i = body_most None [] program.start in
      let j = program_scaled program in
      let l = pairs_scaled modes program in
      omega (arith, h, i, j, l)
