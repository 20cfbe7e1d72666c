use Rattle.std.proofs.Common.{◌≡◌, Some, sym, ◌∙◌}
use Rattle.std.proofs.lemmas.Result.{err_from_is_err_and}
use Rattle.rv32_isa.specs.declared.image.Image.{Image as RustImage}
use Rattle.rv32_isa.specs.Image.{image_of}
use Rattle.nim_meaning.specs.LeftOut.{first_left_out}
use Rattle.program_limits.specs.Limits.{program_in}
use Rattle.core_compiler.specs.Limits.{build_limits, check_limits}
use Rattle.core_compiler.specs.Compile.{HasCodeWhereWithin}
use Rattle.core_compiler.proofs.Refusals.{checks_nothing, checks_all, refused_too, not_both, left_out_before, still_refused}
use Rattle.core_compiler.proofs.program.check_core.Goals as goal

-- ---- not all of it is built

pub returns-in-Some : goal.returns-in-Some
returns-in-Some c =
    let program = program_in c.args.program.now in
    let out : first_left_out program ≡ Some c.in-Some.field-0 = sym c.in_ok-left_out.ensures ∙ c.in-Some.is in
    record {
      answers = (
        0,
        checks_nothing program c.args.plan.now 0 c.in-Some.field-0 out,
        left_out_before program c.args.plan.now 0 c.in-Some.field-0 out,
        λ none. absurd (not_both (first_left_out program) c.in-Some.field-0 out none),
      );
    }

-- ---- it is built

pub returns-in_err-image : goal.returns-in_err-image
returns-in_err-image c =
    let program = program_in c.args.program.now in
    let p = err_from_is_err_and c.from_residual-in_err-image.result c.from_residual-in_err-image.ensures.1 in
    let answer = c.in_err-image.ensures.answers in
    rw (p.1, p.2) (record {
      answers = (
        answer.0,
        refused_too (λ (image : RustImage). tt) (build_limits c.args.plan.now answer.0 program) (check_limits c.args.plan.now answer.0 program)
            (checks_all program c.args.plan.now answer.0 (sym c.in_ok-left_out.ensures ∙ c.in-None.is)) _ answer.1,
        still_refused RustImage (Unit {0}) (HasCodeWhereWithin program c.args.plan.now answer.0) _ answer.2,
        tt,
      );
    })

pub returns : goal.returns
returns c =
    let program = program_in c.args.program.now in
    let image = c.in_ok-image.image in
    let answer = c.in_ok-image.ensures.answers in
    record {
      answers = (
        answer.0,
        checks_all program c.args.plan.now answer.0 (sym c.in_ok-left_out.ensures ∙ c.in-None.is) ∙ answer.1,
        answer.2,
        λ none. record { heap = 0; image = image_of image; does = c.in_ok-image.ensures.does; bytes = answer.3 },
      );
    }
