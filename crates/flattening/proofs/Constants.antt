-- The bytes of constants with texts or sequences inside are those that are counted of the program.
use Rattle.std.proofs.Common.{◌≡◌, ℕ, ◌≤◌, true, false, List, [], ◌∷◌, refl, arith}
use Rattle.std.specs.Prelude.{map}
use Rattle.nim_plan.specs.declared.plan.Plan.{Plan}
use Rattle.flat_code.specs.declared.line.Piece.TheVariants as P
use Rattle.nim_program.specs.declared.expr.Label.{Label as RustLabel}
use Rattle.nim_program.specs.Program.{Label}
use Rattle.nim_program.specs.Program.{Doing, Building, Giving, Calling, Literal, ByConditions, ByLabels, Stmts, Program}
use Rattle.nim_program.specs.Folds.{Named, Standing, Begun, ToField, ToElement, ToObject}
use Rattle.nim_program.specs.Folds.{Part, Acting, Stopping, Choosing, Leading, Stating, Declaring, Looping, Handling, numbers, total_of, in_bodies}
use Rattle.nim_program.proofs.ForCallers.{related_of, related_bodies}
use Rattle.flat_code.specs.declared.code.CodeProc.{CodeProc}
use Rattle.flat_code.specs.declared.line.Line.{Line}
use Rattle.flat_code.specs.Codes.{flat_plain}
use Rattle.flat_code.specs.Sizes.{linked_bytes, linked_in, summed, constants_bytes}
use Rattle.flattening.specs.Counted.{part_constants, own_constants, body_constants, program_constants}
use Rattle.flattening.specs.Given.{flat_procs}
use Rattle.flattening.proofs.Amounts.{labels_counted, branches_counted, part_counted, own_counted, block_counted}
use Rattle.flattening.proofs.Measured as measure
use Rattle.flattening.proofs.Measured.{measured, code_measured, of_body, code_most}

abbrev no_label : RustLabel → ℕ
no_label label = 0

lent : (text : List ℕ) → linked_bytes (P.Text text ∷ []) ≤ linked_bytes (P.Text text ∷ [])
lent text = omega arith

abbrev in_line : Line → ℕ
in_line = measured linked_bytes linked_bytes no_label lent

line_is : (line : Line) → linked_in line ≡ in_line line
line_is line = refl

lines_are : (lines : List Line) → summed linked_in lines ≡ summed in_line lines
lines_are [] = refl
lines_are (line ∷ lines) = let h = line_is line in let i = lines_are lines in omega (arith, h, i)

code_is : (procs : List (CodeProc Line)) → constants_bytes flat_plain procs ≡ code_measured linked_bytes linked_bytes no_label lent procs
code_is [] = refl
code_is (p ∷ procs) = let h = lines_are (map flat_plain p.lines) in let i = code_is procs in omega (arith, h, i)

-- ---- what is counted where parts take nothing

abbrev built : Literal → ℕ
built = measure.built linked_bytes linked_bytes no_label lent

abbrev placed : Literal → ℕ
placed = measure.placed linked_bytes linked_bytes no_label lent

abbrev said : Label → ℕ
said = measure.said linked_bytes linked_bytes no_label lent

none_said : (labels : List Label) → labels_counted 0 built placed said labels ≡ 0
none_said [] = refl
none_said (label ∷ labels) = let h = none_said labels in omega (arith, h)

branches_none : (labels : List (List Label)) → branches_counted 0 built placed said labels ≡ 0
branches_none [] = refl
branches_none (labels ∷ rest) = let h = none_said labels in let i = branches_none rest in omega (arith, h, i)

part_is : (part : Part) → part_counted 0 built placed said part ≡ part_constants part
part_is (Acting (Giving literal)) = omega arith
part_is (Acting (Doing operation)) = refl
part_is (Acting (Building fields)) = refl
part_is (Acting (Calling proc of)) = refl
part_is (Stopping short) = refl
part_is (Choosing ByConditions looked) = refl
part_is (Choosing (ByLabels labels) looked) = let h = branches_none labels in omega (arith, h)
part_is (Leading read written (Named place global)) = refl
part_is (Leading read written (Standing literal)) = omega arith
part_is (Leading read written Begun) = refl
part_is (Leading read written (ToField field)) = refl
part_is (Leading read written (ToElement constant)) = refl
part_is (Leading read written ToObject) = refl
part_is Stating = refl
part_is (Declaring cursor) = refl
part_is (Looping kind true) = refl
part_is (Looping kind false) = refl
part_is Handling = refl

abbrev Same : ℕ → ℕ → Type 0
Same x y = x ≡ y

block_is : (block : Stmts) → block_counted 0 built placed said block ≡ total_of numbers own_constants block
block_is block = related_of numbers numbers (own_counted 0 built placed said) own_constants Same (record {
  none = refl;
  plus = λ x y u v h g. omega (arith, h, g);
  own = λ seen. part_is seen.part;
}) block

program_is : (program : Program) → in_bodies numbers (of_body linked_bytes linked_bytes no_label lent) program ≡ program_constants program
program_is program =
    related_bodies numbers numbers (of_body linked_bytes linked_bytes no_label lent) body_constants Same refl (λ x y u v h g. omega (arith, h, g))
    (λ body. block_is body.stmts) program

pub constants_most : (program : Program) (plan : Plan) → constants_bytes flat_plain (flat_procs program plan) ≤ program_constants program
constants_most program plan =
    let h = code_most linked_bytes linked_bytes no_label lent program plan in
    let i = code_is (flat_procs program plan) in
    let j = program_is program in
    omega (arith, h, i, j)
