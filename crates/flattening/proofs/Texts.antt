-- The texts in flat code are those of its program, each of them twice as often at most.
use Rattle.std.proofs.Common.{◌≡◌, ℕ, ◌+◌, ◌*◌, ◌≤◌, true, false, List, [], ◌∷◌, ◌++◌, refl, arith}
use Rattle.std.specs.Prelude.{map}
use Rattle.nim_plan.specs.declared.plan.Plan.{Plan}
use Rattle.flat_code.specs.declared.line.Line.TheVariants as L
use Rattle.flat_code.specs.declared.line.Piece.{Piece}
use Rattle.flat_code.specs.declared.line.Piece.TheVariants as P
use Rattle.nim_program.specs.declared.expr.Label.{Label as RustLabel}
use Rattle.nim_program.specs.declared.expr.Label.TheVariants as C
use Rattle.nim_program.specs.Program.{Literal, Label, Ordinals, Exactly}
use Rattle.nim_program.specs.Program.{Doing, Building, Giving, Calling, ByConditions, ByLabels, Stmts, Program}
use Rattle.nim_program.specs.Folds.{Named, Standing, Begun, ToField, ToElement, ToObject}
use Rattle.nim_program.specs.Folds.{Part, Acting, Stopping, Choosing, Leading, Stating, Declaring, Looping, Handling, numbers, total_of, in_bodies}
use Rattle.nim_program.proofs.ForCallers.{related_of, related_bodies}
use Rattle.flat_code.specs.declared.code.CodeProc.{CodeProc}
use Rattle.flat_code.specs.declared.line.Line.{Line}
use Rattle.flat_code.specs.Codes.{flat_plain}
use Rattle.flat_code.specs.Sizes.{pieces_texts, standing_texts, texts_in, lines_texts, summed, code_texts}
use Rattle.flattening.specs.Counted.{times, label_texts, these_texts, branch_texts, part_texts, own_times, body_times, program_times}
use Rattle.flattening.specs.Given.{flat_procs}
use Rattle.flattening.proofs.Amounts.{labels_counted, branches_counted, part_counted, own_counted, block_counted}
use Rattle.flattening.proofs.Measured as measure
use Rattle.flattening.proofs.Measured.{measured, code_measured, of_body, code_most}

module _ (text : List ℕ) where
  abbrev given : List Piece → ℕ
  given pieces = times text (pieces_texts pieces)

  abbrev standing : List Piece → ℕ
  standing pieces = times text (standing_texts pieces)

  abbrev written : RustLabel → ℕ
  written (C.Text other) = times text (other ∷ [])
  written (C.Ordinals low high) = 0

  lent : (other : List ℕ) → standing (P.Text other ∷ []) ≤ given (P.Text other ∷ [])
  lent other = omega arith

  abbrev times_in : Line → ℕ
  times_in = measured given standing written lent

  times_both : (xs ys : List (List ℕ)) → times text (xs ++ ys) ≡ times text xs + times text ys
  times_both [] ys = omega arith
  times_both (x ∷ xs) ys = let h = times_both xs ys in omega (arith, h)

  in_line : (line : Line) → times text (texts_in line) ≡ times_in line
  in_line (L.Fits from (C.Text other) to) = refl
  in_line (L.Fits from (C.Ordinals low high) to) = refl
  in_line line = refl

  in_lines : (lines : List Line) → times text (lines_texts lines) ≡ summed times_in lines
  in_lines [] = refl
  in_lines (line ∷ lines) =
      let h = times_both (texts_in line) (lines_texts lines) in
      let i = in_line line in
      let j = in_lines lines in
      omega (arith, h, i, j)

  in_code : (procs : List (CodeProc Line)) → times text (code_texts flat_plain procs) ≡ code_measured given standing written lent procs
  in_code [] = refl
  in_code (p ∷ procs) =
      let h = times_both (lines_texts (map flat_plain p.lines)) (code_texts flat_plain procs) in
      let i = in_lines (map flat_plain p.lines) in
      let j = in_code procs in
      omega (arith, h, i, j)

  -- ---- what is counted where parts take nothing is twice what stands in them at most

  abbrev built : Literal → ℕ
  built = measure.built given standing written lent

  abbrev placed : Literal → ℕ
  placed = measure.placed given standing written lent

  abbrev said : Label → ℕ
  said = measure.said given standing written lent

  said_once : (label : Label) → said label ≡ times text (label_texts label)
  said_once (Ordinals low high) = refl
  said_once (Exactly other) = refl

  said_by : (labels : List Label) → labels_counted 0 built placed said labels ≡ times text (these_texts labels)
  said_by [] = refl
  said_by (label ∷ labels) =
      let h = said_by labels in
      let i = times_both (label_texts label) (these_texts labels) in
      let j = said_once label in
      omega (arith, h, i, j)

  branches_said : (labels : List (List Label)) → branches_counted 0 built placed said labels ≡ times text (branch_texts labels)
  branches_said [] = refl
  branches_said (labels ∷ rest) =
      let h = said_by labels in
      let i = branches_said rest in
      let j = times_both (these_texts labels) (branch_texts rest) in
      omega (arith, h, i, j)

  abbrev Within : ℕ → ℕ → Type 0
  Within x y = x ≤ 2 * y

  part_within : (part : Part) → Within (part_counted 0 built placed said part) (times text (part_texts part))
  part_within (Acting (Giving literal)) = omega arith
  part_within (Acting (Doing operation)) = omega arith
  part_within (Acting (Building fields)) = omega arith
  part_within (Acting (Calling proc of)) = omega arith
  part_within (Stopping short) = omega arith
  part_within (Choosing ByConditions looked) = omega arith
  part_within (Choosing (ByLabels labels) looked) = let h = branches_said labels in omega (arith, h)
  part_within (Leading read written (Named place global)) = omega arith
  part_within (Leading read written (Standing literal)) = omega arith
  part_within (Leading read written Begun) = omega arith
  part_within (Leading read written (ToField field)) = omega arith
  part_within (Leading read written (ToElement constant)) = omega arith
  part_within (Leading read written ToObject) = omega arith
  part_within Stating = omega arith
  part_within (Declaring cursor) = omega arith
  part_within (Looping kind true) = omega arith
  part_within (Looping kind false) = omega arith
  part_within Handling = omega arith

  block_within : (block : Stmts) → Within (block_counted 0 built placed said block) (total_of numbers (own_times text) block)
  block_within block = related_of numbers numbers (own_counted 0 built placed said) (own_times text) Within (record {
    none = omega arith;
    plus = λ x y u v h g. omega (arith, h, g);
    own = λ seen. part_within seen.part;
  }) block

  program_within : (program : Program) → Within (in_bodies numbers (of_body given standing written lent) program) (program_times text program)
  program_within program =
      related_bodies numbers numbers (of_body given standing written lent) (body_times text) Within (omega arith) (λ x y u v h g. omega (arith, h, g))
      (λ body. block_within body.stmts) program

  -- a text stands in the code twice as often as in its program at most
  pub times_most : (program : Program) (plan : Plan) → times text (code_texts flat_plain (flat_procs program plan)) ≤ 2 * program_times text program
  times_most program plan =
      let h = code_most given standing written lent program plan in
      let i = in_code (flat_procs program plan) in
      let j = program_within program in
      omega (arith, h, i, j)
