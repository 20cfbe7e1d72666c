use Rattle.std.proofs.Common.{◌∷◌, ◌++◌, sym, ap, ◌∙◌}
use Rattle.std.proofs.lemmas.Result.{on_ok_weaker}
use Rattle.rv32_codegen.proofs.LayoutImages.{hooks_from, hook_put, no_hook}
use Rattle.rv32_codegen.proofs.layout.push_hook.Goals as goal

pub returns-in-Some : goal.returns-in-Some
returns-in-Some c =
    let code = c.args.code.now in
    let line = c.args.line.now in
    on_ok_weaker c.push.result
    (λ e before lines within left. ap (λ l. l ++ hooks_from code lines) e ∙
    hook_put code lines line c.in-Some.hook c.address-addr.result c.args.hooks.now (sym c.hook_of.ensures ∙ c.in-Some.is)
    (c.address-addr.ensures.is before (line ∷ lines) within left))
    c.push.ensures.ok

pub returns-in-None : goal.returns-in-None
returns-in-None c = λ before lines within left. no_hook c.args.code.now lines c.args.line.now c.args.hooks.now (sym c.hook_of.ensures ∙ c.in-None.is)
