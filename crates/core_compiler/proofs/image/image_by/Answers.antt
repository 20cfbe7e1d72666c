use Rattle.std.proofs.Common.{◌≡◌, length, refl, sym, ap, subst, ◌∙◌, arith}
use Rattle.word_code.specs.Memory.{data_of}
use Rattle.rv32_isa.specs.Image.{image_of}
use Rattle.rv32_codegen.specs.Layout.{DoesCode, code_size, laid_out}
use Rattle.rv32_codegen.specs.Stack.{stack_need}
use Rattle.core_compiler.specs.Compile.{live_objects}
use Rattle.core_compiler.proofs.StackSize.{can_run, has_lines}
use Rattle.core_compiler.proofs.Composing.{image_of_code, of_three, fault_is}
use Rattle.core_compiler.proofs.image.image_by.Goals as goal

pub stack_need-requires-clause-most : goal.stack_need-requires-clause-most
stack_need-requires-clause-most c = (can_run c.args.words.now c.args.homes.now c.requires.homes c.requires.can 0 (omega arith)).stack_most

pub lay_out-requires-clause-stack_most : goal.lay_out-requires-clause-stack_most
lay_out-requires-clause-stack_most c =
    let most = (can_run c.args.words.now c.args.homes.now c.requires.homes c.requires.can 0 (omega arith)).stack_most in
    omega (arith, c.in_ok-stack.ensures, most)

pub returns-clause-is : goal.returns-clause-is
returns-clause-is c =
    let words = c.args.words.now in
    let homes = c.args.homes.now in
    let heap = c.args.heap in
    let lines = c.in_ok-lines.lines in
    let given = c.in_ok-stack.stack in
    let need : given ≡ stack_need words.procs homes = c.in_ok-stack.ensures in
    let is = c.in_ok-lines.ensures in
    of_three c.lay_out.result _ _ _ _ (λ image made agrees size.
    let same : image.stack ≡ given = ap (λ i. i.stack) made in
    let laid = subst (λ n. DoesCode live_objects (image_of image) lines (data_of heap n words.statics) heap n) (sym same)
    (subst (λ l. DoesCode live_objects (image_of image) lines (data_of heap given l) heap given) c.as_slice.ensures
    (agrees live_objects (λ s t e f. refl))) in
    image_of_code c.agreement.ensures.law c.agreement.ensures.pace words heap c.requires.heap (image_of image)
    (has_lines words homes lines (length image.code) c.requires.homes c.requires.can is.fits is.does is.frames (sym size)
    (omega (arith, size, c.layouts.ensures.shorter lines, is.bytes)))
    (subst (λ n. image_of image ≡ laid_out lines words.statics heap n) need
    (subst (λ l. image_of image ≡ laid_out lines l heap given) c.as_slice.ensures made))
    laid
    (λ none. ap (λ i. i.hooks) made ∙ c.layouts.ensures.unhooked lines c.as_slice.result.now heap given (is.unhooked none)))
    c.lay_out.ensures.is c.lay_out.ensures.agrees c.lay_out.ensures.size

pub returns-clause-fault : goal.returns-clause-fault
returns-clause-fault c =
    let words = c.args.words.now in
    let lines = c.in_ok-lines.lines in
    let is = c.in_ok-lines.ensures in
    fault_is words (code_size lines)
    (has_lines words c.args.homes.now lines (code_size lines) c.requires.homes c.requires.can is.fits is.does is.frames refl
    (omega (arith, c.layouts.ensures.shorter lines, is.bytes)))
    c.lay_out.result c.lay_out.ensures.fault
