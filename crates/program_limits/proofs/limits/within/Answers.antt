use Rattle.std.proofs.Common.{◌∙◌, ap, sym, refl, subst, true, false, List, None, Some}
use Rattle.nim_types.specs.declared.types.TypeDef.{TypeDef}
use Rattle.nim_types.specs.Table.{types_in, facts_in}
use Rattle.nim_program.specs.Sizes.{HaveForms}
use Rattle.nim_program.specs.View.{program_under}
use Rattle.nim_meaning.specs.LeftOut.{first_left_out}
use Rattle.program_limits.specs.Frames.{frame_fault}
use Rattle.program_limits.specs.Limits.{program_in}
use Rattle.program_limits.proofs.Limiting.{said_by}
use Rattle.program_limits.proofs.limits.within.Goals as goal

pub frame_fault-requires : goal.frame_fault-requires
frame_fault-requires c = subst HaveForms (sym c.in_ok-known.ensures) c.requires

pub returns-in-Some-2 : goal.returns-in-Some-2
returns-in-Some-2 c =
    let p = c.args.program.now in
    let left = ap (λ (ds : List TypeDef). first_left_out (program_under (types_in ds) (facts_in ds) p)) (sym c.in_ok-known.ensures)
    ∙ (sym c.first_left_out.ensures ∙ c.in_default.is) in
    let fault = ap (λ (ds : List TypeDef). frame_fault (program_under (types_in ds) (facts_in ds) p)) (sym c.in_ok-known.ensures)
    ∙ (sym c.in_ok-at.ensures ∙ c.in-Some-2.is) in
    said_by (program_in p) None (Some c.in-Some-2.at) _ left fault refl

pub returns-then-not-fits : goal.returns-then-not-fits
returns-then-not-fits c =
    let p = c.args.program.now in
    let left = ap (λ (ds : List TypeDef). first_left_out (program_under (types_in ds) (facts_in ds) p)) (sym c.in_ok-known.ensures)
    ∙ (sym c.first_left_out.ensures ∙ c.in_default.is) in
    let fault = ap (λ (ds : List TypeDef). frame_fault (program_under (types_in ds) (facts_in ds) p)) (sym c.in_ok-known.ensures)
    ∙ (sym c.in_ok-at.ensures ∙ c.in_default-2.is) in
    said_by (program_in p) None None false left fault (sym c.in_ok-fits.ensures ∙ c.if-not-fits.true)

pub returns : goal.returns
returns c =
    let p = c.args.program.now in
    let left = ap (λ (ds : List TypeDef). first_left_out (program_under (types_in ds) (facts_in ds) p)) (sym c.in_ok-known.ensures)
    ∙ (sym c.first_left_out.ensures ∙ c.in_default.is) in
    let fault = ap (λ (ds : List TypeDef). frame_fault (program_under (types_in ds) (facts_in ds) p)) (sym c.in_ok-known.ensures)
    ∙ (sym c.in_ok-at.ensures ∙ c.in_default-2.is) in
    said_by (program_in p) None None true left fault (sym c.in_ok-fits.ensures ∙ c.if-not-fits.false)
