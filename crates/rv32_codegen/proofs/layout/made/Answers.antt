use Rattle.std.proofs.Common.{length, ap, ◌∙◌, arith, refl}
use Rattle.rv32_codegen.proofs.LayoutImages.{Fitting, fitting, data_long, image_is}
use Rattle.rv32_codegen.proofs.layout.made.Goals as goal
use Rattle.rv32_codegen.proofs.layout.made.Goals.{In_ok-bytes}

fits : (c : In_ok-bytes) → Fitting c.args.code.now c.in_ok-bytes.bytes c.in_ok-hooks.hooks
fits c =
    fitting c.args.code.now c.in_ok-bytes.bytes c.in_ok-hooks.hooks c.requires.small c.requires.some c.requires.hooks c.in_ok-bytes.ensures
    c.in_ok-hooks.ensures

pub invariant_of-result : goal.invariant_of-result
invariant_of-result c =
    let f = fits c in
    let given = ap length c.in_ok-statics.ensures ∙ data_long c.args.heap c.args.stack c.args.statics.now in
    let whole = c.requires.statics_whole in
    let most = c.requires.statics_most in
    record {
      code_whole = f.whole;
      code_least = f.least;
      code_most = f.most;
      statics_whole = omega (arith, given, whole);
      statics_most = omega (arith, given, most);
      heap_most = c.requires.heap;
      stack_whole = c.requires.stack_whole;
      stack_least = c.requires.stack_least;
      stack_most = c.requires.stack_most;
      hooks_stand = f.stand;
    }

pub returns : goal.returns
returns c = image_is _ _ _ _ _ _ c.in_ok-bytes.ensures c.in_ok-statics.ensures refl refl c.in_ok-hooks.ensures
