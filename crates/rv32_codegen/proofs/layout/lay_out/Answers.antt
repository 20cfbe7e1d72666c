use Rattle.std.proofs.Common.{◌≡◌, ◌≤◌, length, ap, ◌∙◌, arith}
use Rattle.rv32_isa.specs.Image.{image_of}
use Rattle.rv32_codegen.specs.Layout.{too_far, code_size, laid_out}
use Rattle.rv32_codegen.proofs.Laid.{length-bytes}
use Rattle.rv32_codegen.proofs.LayoutImages.{does_code}
use Rattle.rv32_codegen.proofs.layout.lay_out.Goals as goal
use Rattle.rv32_codegen.proofs.layout.lay_out.Goals.{In_ok-image}

same : (c : In_ok-image) → image_of c.in_ok-image.image ≡ laid_out c.args.code.now c.args.statics.now c.args.heap c.args.stack
same c = c.in_ok-image.ensures ∙ ap (λ l. laid_out l c.args.statics.now c.args.heap c.args.stack) c.as_slice-lines.ensures

small : (c : In_ok-image) → code_size c.args.code.now ≤ 524288
small c =
    let total = c.in_ok-layout.ensures.total ∙ ap code_size c.as_slice-lines.ensures in
    omega (arith, total, c.if-layout-gt-MOST_CODE_BYTES.false)

pub returns-clause-is : goal.returns-clause-is
returns-clause-is c = same (goal.at.returns-clause-is c).In_ok-image

pub returns-clause-agrees : goal.returns-clause-agrees
returns-clause-agrees c =
    let d = (goal.at.returns-clause-agrees c).In_ok-image in
    λ live sees.
    does_code live sees (image_of d.in_ok-image.image) d.args.code.now d.args.statics.now d.args.heap d.args.stack d.requires.lines d.requires.hooks (small d)
    (same d)

pub returns-clause-size : goal.returns-clause-size
returns-clause-size c =
    let d = (goal.at.returns-clause-size c).In_ok-image in
    ap (λ i. length i.code) (same d) ∙ length-bytes (too_far d.args.code.now) d.args.code.now (small d)
