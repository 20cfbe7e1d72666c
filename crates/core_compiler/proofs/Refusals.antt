-- Which limits say no, and which say yes.
use Rattle.std.proofs.Common.{◌≡◌, ◌≤◌, ◌<◌, ℕ, ◌+◌, ◌*◌, Bool, false, List, Option, Some, None, Result, Ok, Err}
use Rattle.std.proofs.Common.{refl, sym, ap, ◌∙◌, arith, inl, inr}
use Rattle.std.specs.Prelude.{nat_le}
use Rattle.std.proofs.lemmas.Bool.{leb-true, le-leb, cases_Bool}
use Rattle.arc_base.specs.declared.place.Place.{Place}
use Rattle.arc_base.specs.declared.place.Code.TheVariants.{LeftOut, TooLarge}
use Rattle.arc_base.specs.declared.place.Stop.{Stop}
use Rattle.arc_base.specs.declared.place.Stop.TheVariants.{Refused, Memory}
use Rattle.arc_base.specs.Refusal.{Refusal, and_then, refused, Answers}
use Rattle.nim_plan.specs.declared.plan.Plan.{Plan}
use Rattle.nim_program.specs.Program.{Program}
use Rattle.nim_meaning.specs.LeftOut.{first_left_out}
use Rattle.word_code.specs.declared.word.WordProc.{WordProc}
use Rattle.flat_code.specs.declared.code.Code.{Code}
use Rattle.flat_code.specs.declared.line.Line.{Line}
use Rattle.flat_code.specs.Codes.{flat_plain, places_of}
use Rattle.flat_code.specs.Sizes.{code_weight}
use Rattle.program_limits.specs.Frames.{beginning, frame_limits}
use Rattle.program_limits.specs.Limits.{unless_left_out, unless_large, data_limits, tree_limits}
use Rattle.flattening.specs.Counted.{program_parts, program_pairs, places_waiting}
use Rattle.flattening.specs.Flattened.{modes_of}
use Rattle.rv32_codegen.specs.LineBytes.{most_bytes}
use Rattle.core_compiler.specs.Limits.{hook_parts, code_bound, code_limits, note_bytes, note_limits, build_limits}
use Rattle.core_compiler.specs.Limits.{where_built, check_limits}
use Rattle.core_compiler.specs.Compile.{HasCode, HasCodeWhereWithin, UnlessMemory}

module _ (program : Program) where
  -- ---- by the bytes of the code and of the note

  behind : (plan : Plan) (code : ℕ) → tree_limits program ≡ Ok tt → build_limits plan code program ≡ and_then (code_limits code) (λ few. note_limits plan)
  behind plan code small = ap (λ r. and_then r (λ small. and_then (code_limits code) (λ few. note_limits plan))) small

  pub note_said : (plan : Plan) (code : ℕ) (fits : Bool) → tree_limits program ≡ Ok tt → code ≤ 524288 → fits ≡ nat_le (note_bytes plan) 2097152 →
      build_limits plan code program ≡ unless_large fits
  note_said plan code fits small few e =
      behind plan code small ∙ ap (λ f. and_then (unless_large f) (λ few. note_limits plan)) (le-leb code 524288 few) ∙ ap unless_large (sym e)

  pub code_large : (plan : Plan) (code : ℕ) → tree_limits program ≡ Ok tt → 524288 < code → build_limits plan code program ≡ refused TooLarge beginning
  code_large plan code small large = behind plan code small ∙ ap (λ f. and_then (unless_large f) (λ few. note_limits plan)) no
    where
      no : nat_le code 524288 ≡ false
      no = elim (cases_Bool (nat_le code 524288)) [
        | inl t ↦ absurd (let most = leb-true code 524288 t in omega (arith, most, large))
        | inr f ↦ f
      ]

  pub bound_is : (plan : Plan) (flat : Code Line) (procs : List WordProc) (hooks : ℕ) → hooks ≡ hook_parts program.facts program.types →
      code_weight flat_plain flat.procs ≤ 44 * program_parts program + 9 * program_pairs (modes_of program plan) program →
      places_waiting (places_of flat) ≤ program_parts program →
      most_bytes procs ≤ 44 * (code_weight flat_plain flat.procs + places_waiting (places_of flat)) + (1980 * hooks + 13412) →
      most_bytes procs ≤ code_bound program plan program.types
  bound_is plan flat procs hooks same few waiting most =
      let bound : 1980 * program_parts program + (396 * program_pairs (modes_of program plan) program + 13412)
      + 1980 * hook_parts program.facts program.types ≤ code_bound program plan program.types = omega arith in
      omega (arith, same, few, waiting, most, bound)

-- ---- where all of it is built

module _ (program : Program) where
  pub checks_nothing : (plan : Plan) (code : ℕ) (at : Place) → first_left_out program ≡ Some at → check_limits plan code program ≡ Ok tt
  checks_nothing plan code at e = ap (λ o. where_built o (build_limits plan code program)) e

  pub checks_all : (plan : Plan) (code : ℕ) → first_left_out program ≡ None → check_limits plan code program ≡ build_limits plan code program
  checks_all plan code e = ap (λ o. where_built o (build_limits plan code program)) e

pub not_both : (found : Option Place) (at : Place) → found ≡ Some at → found ≡ None → ⊥
not_both found at some none = cc

-- what is refused, said of other limits that are equal
pub refused_too : {T : Type 0} (of : T → Unit {0}) (said limits : Result (Unit {0}) Refusal) → limits ≡ said → (stop : Stop) →
    Answers of said (Err stop) → Answers (λ (done : Unit {0}). tt) limits (Err stop)
refused_too of said limits e (Refused k at) is = e ∙ is
refused_too of said limits e Memory is = tt

-- ---- where there is code

neither : (r : Result (Unit {0}) Refusal) (refusal : Refusal) → r ≡ Err refusal → r ≡ Ok tt → ⊥
neither r refusal e f = cc

-- a program that is refused before has none
pub refused_before : {U : Type 0} (of : U → Unit {0}) (T : Type 0) (program : Program) (plan : Plan) (bytes : ℕ) (stop : Stop) →
    Answers of (tree_limits program) (Err stop) → UnlessMemory {T = T} (Err stop) (HasCodeWhereWithin program plan bytes)
refused_before of T program plan bytes (Refused k at) is = λ small. absurd (neither (tree_limits program) _ is small)
refused_before of T program plan bytes Memory is = tt

-- a program that isn't refused before it has code has nothing that is left out
built_if : (found : Option Place) (rest : Result (Unit {0}) Refusal) → and_then (unless_left_out found) (λ built. rest) ≡ Ok tt → found ≡ None
built_if None rest e = refl
built_if (Some at) rest e = absurd (neither (refused LeftOut at) _ refl e)

pub built_within : (program : Program) → tree_limits program ≡ Ok tt → first_left_out program ≡ None
built_within program small = built_if (first_left_out program) (and_then (frame_limits program) (λ small. data_limits program)) small

out_is : (program : Program) (at : Place) → first_left_out program ≡ Some at → tree_limits program ≡ refused LeftOut at
out_is program at e = ap (λ o. and_then (unless_left_out o) (λ built. and_then (frame_limits program) (λ small. data_limits program))) e

pub left_out_before : (program : Program) (plan : Plan) (bytes : ℕ) (at : Place) → first_left_out program ≡ Some at → HasCodeWhereWithin program plan bytes
left_out_before program plan bytes at out = λ small. absurd (neither (tree_limits program) _ (out_is program at out) small)

-- a program that is refused has this code
pub refused_with : (T : Type 0) (program : Program) (plan : Plan) (bytes : ℕ) (stop : Stop) → HasCode program plan bytes →
    UnlessMemory {T = T} (Err stop) (HasCodeWhereWithin program plan bytes)
refused_with T program plan bytes (Refused k at) has = λ small. has
refused_with T program plan bytes Memory has = tt

-- whatever would have been answered
pub still_refused : (T U P : Type 0) (stop : Stop) → UnlessMemory {T = T} (Err stop) P → UnlessMemory {T = U} (Err stop) P
still_refused T U P (Refused k at) has = has
still_refused T U P Memory has = tt
