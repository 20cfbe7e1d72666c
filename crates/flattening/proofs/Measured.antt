-- Measures of lines by the constants and the labels in them: each constant of a program stands in one line, or, where a `for` is over it, in two.
use Rattle.std.proofs.Common.{◌≡◌, ℕ, suc, ◌+◌, ◌*◌, ◌≤◌, List, [], ◌∷◌, ◌++◌, Option, Some, None, refl, ap, arith}
use Rattle.std.specs.Prelude.{map}
use Rattle.nim_types.specs.Types.{Ty, Facts}
use Rattle.nim_plan.specs.declared.plan.Plan.{Plan}
use Rattle.nim_program.specs.Uses.{use_of}
use Rattle.flat_code.specs.declared.line.UseAt.{UseAt}
use Rattle.flat_code.specs.declared.line.Line.TheVariants as L
use Rattle.flat_code.specs.declared.line.Piece.{Piece}
use Rattle.flat_code.specs.declared.line.Piece.TheVariants as P
use Rattle.nim_program.specs.declared.expr.Label.{Label as RustLabel}
use Rattle.nim_program.specs.declared.program.HookOf.{HookOf}
use Rattle.nim_program.specs.declared.program.Mode.{Mode}
use Rattle.nim_program.specs.Program.{Literal, Label}
use Rattle.nim_program.specs.Program.{Act, Doing, Building, Giving, Calling, Args, types_in}
use Rattle.nim_program.specs.Program.{Param, Body, Proc, Program}
use Rattle.nim_program.specs.Folds.{numbers, if_body, in_procs, in_bodies}
use Rattle.flat_code.specs.declared.code.CodeProc.{CodeProc}
use Rattle.flat_code.specs.declared.line.Line.{Line}
use Rattle.flat_code.specs.Codes.{flat_plain}
use Rattle.flat_code.specs.Pieces.{pieces_of}
use Rattle.flat_code.specs.Sizes.{summed}
use Rattle.flattening.proofs.Amounts.{act_counted, block_counted, no_pairs}
use Rattle.flattening.specs.ExprLines.{none_fits, froms, act_line, written_label}
use Rattle.flattening.specs.Flattened.{modes_of}
use Rattle.flattening.specs.Given.{flat_body, flat_proc, flat_procs}
use Rattle.flattening.specs.StmtLines.{body_lines}
use Rattle.flattening.proofs.Measures.{back, reserved, Bounds, body_spare}
use Rattle.flattening.proofs.Weights.{plain_same}

-- of a constant that is built, and of one that stands in the data; a call that is lent a text gets it where it stands
module _ (constant standing : List Piece → ℕ) (written : RustLabel → ℕ)
    (lent : (text : List ℕ) → standing (P.Text text ∷ []) ≤ constant (P.Text text ∷ [])) where
  abbrev pub measured : Line → ℕ
  measured (L.Constant to how ty pieces) = constant pieces
  measured (L.Standing to ty pieces) = standing pieces
  measured (L.Fits from these to) = written these
  measured line = 0

  abbrev pub built : Literal → ℕ
  built literal = constant (pieces_of literal)

  -- the path of one that is read where it stands is looked up by a `for` at two places
  abbrev pub placed : Literal → ℕ
  placed literal = 2 * standing (pieces_of literal)

  abbrev pub said : Label → ℕ
  said these = written (written_label these)

  module _ (types : List Ty) (facts : Facts) (modes : (proc position : ℕ) → Mode) where
    act_most : (t : ℕ) (act : Act) (how : UseAt) (ty : Option Ty) (operands : Args) →
        measured (act_line types facts modes t act how ty (types_in operands) (froms facts act operands (use_of modes act) 0 (suc t))) + 0 + back 0 act + 0 + 0
        ≤ act_counted 0 built placed said act + reserved 0 operands
    act_most t (Doing operation) how ty operands = omega arith
    act_most t (Building fields) how None operands = omega arith
    act_most t (Building fields) how (Some ty) operands = omega arith
    act_most t (Giving literal) how None operands = omega arith
    act_most t (Giving literal) how (Some ty) operands = omega arith
    act_most t (Calling proc of) how ty operands = omega arith

    none_most : (t : ℕ) (how : UseAt) (ty : Option Ty) → measured (none_fits types facts modes t ty how) ≡ 0
    none_most t how None = refl
    none_most t how (Some ty) = refl

    bounds : Bounds types facts modes measured 0 built placed said 0 0 0 0 0 0 0 0 0 0
    bounds = record {
      reserves = omega arith;
      act = act_most;
      waits = λ node from. omega arith;
      takes = λ node. omega arith;
      ends = λ node ty. omega arith;
      place_ends = λ place ty. omega arith;
      lends = λ t from node. omega arith;
      lends_text = λ t ty how text. omega (arith, lent text);
      root = λ t place global. omega arith;
      fresh = omega arith;
      in_place = λ t ty literal. omega arith;
      field = λ t field. omega arith;
      item = λ t at index. omega arith;
      object = λ t. omega arith;
      got = λ t from how ty. omega arith;
      looked = λ s t. omega arith;
      both = λ t s from l how. omega arith;
      either = λ t s from l next how. omega arith;
      handed = λ t from how ty. omega arith;
      condition = λ t u from l arm how ty. omega arith;
      chosen = λ t l next how ty. let h = none_most t how ty in omega (arith, h);
      test = λ s arm these. omega arith;
      branch = λ other arm l. omega arith;
      given = λ place from. omega arith;
      gets = λ place ty from. omega arith;
      left = omega arith;
      leaving = λ l. omega arith;
      returning = λ place. omega arith;
      block = λ u arm l. omega arith;
      selected = λ t next l. omega arith;
      while = λ t u turn next l. omega arith;
      count = λ counter last place turn next l inclusive. omega arith;
      elements = λ counter last at back next arm l. omega arith;
      element = λ t at counter place. omega arith;
      copies = λ t at counter place ty from. omega arith;
      stands = λ t at counter place from. omega arith;
      blank = λ place ty. omega arith;
      filled = λ place from. omega arith;
      copied = λ place ty from. omega arith;
      kept = omega arith;
    }

  -- ---- procedures

  abbrev pub code_measured : List (CodeProc Line) → ℕ
  code_measured [] = 0
  code_measured (p ∷ procs) = summed measured (map flat_plain p.lines) + code_measured procs

  abbrev pub of_body : Body → ℕ
  of_body body = block_counted 0 built placed said body.stmts

  module _ (program : Program) (plan : Plan) where
    body_most : (hook : Option HookOf) (params : List Param) (body : Body) →
        summed measured (map flat_plain (flat_body program plan hook params body).lines) ≤ of_body body
    body_most hook params body =
        let modes = modes_of program plan in
        let lines = body_lines program.types program.facts modes params body in
        let s = body_spare program.types program.facts modes measured 0 built placed said 0 0 0 0 0 0 0 0 0 0
        (bounds program.types program.facts modes) params body.result body.stmts in
        let e = ap (summed measured) (plain_same lines) in
        let n = no_pairs program.facts modes params body in
        omega (arith, s, e, n)

    procs_most : (procs : List Proc) (more : List (CodeProc Line)) →
        code_measured (map (λ (p : Proc). flat_proc program plan p.hook p.params p.body) procs ++ more) ≤ in_procs numbers of_body procs + code_measured more
    procs_most [] more = omega arith
    procs_most (p ∷ procs) more = let h = if_most p.body in let i = procs_most procs more in omega (arith, h, i)
      where
        if_most : (body : Option Body) → summed measured (map flat_plain (flat_proc program plan p.hook p.params body).lines) ≤ if_body numbers of_body body
        if_most None = omega arith
        if_most (Some body) = body_most p.hook p.params body

    pub code_most : code_measured (flat_procs program plan) ≤ in_bodies numbers of_body program
    code_most =
        let h = procs_most program.procs (flat_body program plan None [] program.start ∷ []) in
        let i = body_most None [] program.start in
        omega (arith, h, i)
