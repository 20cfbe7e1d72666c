use Rattle.std.proofs.Common.{rules, ◌≡◌, true, length, refl, ap, subst, ◌∙◌}
use Rattle.std.proofs.lemmas.Bool.{and_parts}
use Rattle.std.proofs.lemmas.Result.{err_from_is_err_and}
use Rattle.arc_base.specs.declared.place.Code.TheVariants.{TooLarge}
use Rattle.arc_base.specs.Refusal.{and_then}
use Rattle.arc_base.proofs.ForCallers.{refuses, stops}
use Rattle.rv32_isa.specs.declared.image.Image.{Image as RustImage}
use Rattle.rv32_isa.specs.Image.{image_of}
use Rattle.nim_program.specs.Kinds.{are_declared}
use Rattle.program_limits.specs.Frames.{beginning}
use Rattle.program_limits.specs.Limits.{program_in, unless_large, tree_limits}
use Rattle.core_compiler.specs.Limits.{code_limits, note_limits, build_limits}
use Rattle.core_compiler.specs.Stages.{IsTooLarge}
use Rattle.core_compiler.proofs.Composing.{has_code, does_program}
use Rattle.core_compiler.proofs.EnumMembers.{enums_may}
use Rattle.core_compiler.proofs.Refusals.{note_said, code_large, refused_before, refused_with}
use Rattle.core_compiler.proofs.program.compile_core.Goals as goal

-- what flat code is may be lowered, and enums have members with names
pub words_of-requires-clause-may : goal.words_of-requires-clause-may
words_of-requires-clause-may c = c.in_ok-flat.ensures.may

pub words_of-requires-clause-table : goal.words_of-requires-clause-table
words_of-requires-clause-table c = c.count-types.ensures.table

pub words_of-requires-clause-enums : goal.words_of-requires-clause-enums
words_of-requires-clause-enums c =
    let program = program_in c.args.program.now in
    enums_may c.args.program.now.types c.count-types.ensures.table
    (and_parts (are_declared program.facts program.types) _ c.requires.typed.typed).0 c.requires.named

-- ---- it is refused before, or no memory

pub returns-in_err-within_core-clause-answers : goal.returns-in_err-within_core-clause-answers
returns-in_err-within_core-clause-answers c =
    let program = program_in c.args.program.now in
    let p = err_from_is_err_and c.from_residual.result c.from_residual.ensures.1 in
    let answers = c.in_err-within_core.ensures in
    rw (p.1, p.2) (
      0,
      stops (λ (image : RustImage). tt) (λ (done : Unit {0}). tt) (tree_limits program)
          (λ small. and_then (code_limits 0) (λ few. note_limits c.args.plan.now)) _ answers,
      refused_before (λ (done : Unit {0}). tt) RustImage program c.args.plan.now 0 _ answers,
      tt,
    )

pub returns-in_err-words-clause-answers : goal.returns-in_err-words-clause-answers
returns-in_err-words-clause-answers c =
    let p = err_from_is_err_and c.from_residual-in_err-words.result c.from_residual-in_err-words.ensures.1 in
    rw (p.1, p.2) (0, tt, tt, tt)

-- ---- the image

pub returns-in-Ok-clause-answers : goal.returns-in-Ok-clause-answers
returns-in-Ok-clause-answers c =
    let program = program_in c.args.program.now in
    let image = c.in-Ok.image in
    let said = note_said program c.args.plan.now (length image.code) c.note_fits.result c.in_ok-within_core.ensures image.code_most c.note_fits.ensures in
    let fits : c.note_fits.result ≡ true = search rules in (
      length image.code,
      said ∙ ap unless_large fits,
      λ small. has_code c.agreement.ensures.law c.agreement.ensures.pace program c.args.program.now.types c.args.plan.now c.in_ok-flat.flat c.in_ok-words.words
          c.in_ok-flat.ensures c.in_ok-words.ensures
          (length image.code) c.requires.typed c.in-Ok.ensures.is.from,
      refl,
    )

pub returns-in-Ok-clause-does : goal.returns-in-Ok-clause-does
returns-in-Ok-clause-does c =
    let program = program_in c.args.program.now in
    does_program c.agreement.ensures.law c.agreement.ensures.pace program c.args.program.now.types c.args.plan.now c.in_ok-flat.flat c.in_ok-words.words
    c.in_ok-flat.ensures c.in_ok-words.ensures
    c.requires.typed c.args.heap c.requires.heap (image_of c.in-Ok.image) c.in-Ok.ensures.is

-- ---- the note or the code is too large

pub returns-then-not-note_fits-clause-answers : goal.returns-then-not-note_fits-clause-answers
returns-then-not-note_fits-clause-answers c =
    let program = program_in c.args.program.now in
    let plan = c.args.plan.now in
    let image = c.in-Ok.image in
    let bytes = length image.code in
    let has = has_code c.agreement.ensures.law c.agreement.ensures.pace program c.args.program.now.types plan c.in_ok-flat.flat c.in_ok-words.words
    c.in_ok-flat.ensures c.in_ok-words.ensures bytes c.requires.typed c.in-Ok.ensures.is.from in
    let said = note_said program plan bytes c.note_fits.result c.in_ok-within_core.ensures image.code_most c.note_fits.ensures in (
      bytes,
      refuses (λ (image : RustImage). tt) (build_limits plan bytes program) TooLarge beginning c.too_large.result c.too_large.ensures
          (said ∙ ap unless_large c.if-not-note_fits.true),
      refused_with RustImage program plan bytes c.too_large.result has,
      tt,
    )

pub returns-in-Err-TooLarge-clause-answers : goal.returns-in-Err-TooLarge-clause-answers
returns-in-Err-TooLarge-clause-answers c =
    let program = program_in c.args.program.now in
    let bytes = c.in-Err-TooLarge.field-0-0 in
    let large = subst (IsTooLarge c.in_ok-words.words) c.in-Err-TooLarge.field-0-is c.in-Err-TooLarge.ensures.fault in
    let has = has_code c.agreement.ensures.law c.agreement.ensures.pace program c.args.program.now.types c.args.plan.now c.in_ok-flat.flat c.in_ok-words.words
    c.in_ok-flat.ensures c.in_ok-words.ensures bytes c.requires.typed large.1 in (
      bytes,
      refuses (λ (image : RustImage). tt) (build_limits c.args.plan.now bytes program) TooLarge beginning c.too_large-in-Err-TooLarge.result
          c.too_large-in-Err-TooLarge.ensures
          (code_large program c.args.plan.now bytes c.in_ok-within_core.ensures large.0),
      refused_with RustImage program c.args.plan.now bytes c.too_large-in-Err-TooLarge.result has,
      tt,
    )
