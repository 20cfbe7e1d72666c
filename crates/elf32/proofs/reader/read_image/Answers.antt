use Rattle.std.proofs.Common.{◌≡◌, ◌%◌, ◌∙◌, length, sym, ap, subst, arith}
use Rattle.rv32_isa.specs.Hooks.{code_at, HooksStand}
use Rattle.elf32.proofs.WholeFile.{Regions, regions}
use Rattle.elf32.proofs.reader.read_image.Goals as goal

pub invariant_of-result : goal.invariant_of-result
invariant_of-result c =
    let s = c.args.sizes.now in
    let sizes = c.requires.sizes in
    let there : Regions c.args.bytes.now s.note s.code s.statics = regions c.args.bytes.now s.note s.code s.statics s.heap s.stack sizes in
    let code : length c.in_ok-code.code ≡ s.code = ap length (c.in_ok-code.ensures ∙ c.part.ensures) ∙ there.code_long in
    let statics : length c.in_ok-statics.statics ≡ s.statics = ap length (c.in_ok-statics.ensures ∙ c.part-2.ensures) ∙ there.statics_long in
    record {
      code_whole = ap (λ k. k % 4) code ∙ sizes.code_whole;
      code_least = omega (arith, code, sizes.code_least);
      code_most = omega (arith, code, sizes.code_most);
      statics_whole = ap (λ k. k % 4) statics ∙ sizes.statics_whole;
      statics_most = omega (arith, statics, sizes.statics_most);
      heap_most = sizes.heap_most;
      stack_whole = sizes.stack_whole;
      stack_least = sizes.stack_least;
      stack_most = sizes.stack_most;
      hooks_stand = subst (λ k. HooksStand k code_at c.args.hooks) (sym code) c.requires.hooks;
    }
