use Rattle.std.proofs.Common.{ap, ap₂, sym, ◌∙◌}
use Rattle.std.specs.Prelude.{Bool, not, ◌&&◌}
use Rattle.expr_parts.specs.ViewDecls.{declares}
use Rattle.std.proofs.Common.{drop}
use Rattle.decl_sections.proofs.Saying.{own_is, never_both, all_and}
use Rattle.decl_sections.proofs.bodies.is_own.Goals as goal

pub returns-then-is_declared_since : goal.returns-then-is_declared_since
returns-then-is_declared_since c = λ h k n.
    let d = c.args.declared.now in
    let ds = c.args.scope.now.decls in
    let x = c.args.name.now in
    own_is d.outside d.start ds x h k n
    ∙ ap (λ (b : Bool). declares x (drop d.outside ds) && not b) (sym c.is_declared_since.ensures ∙ c.if-is_declared_since.true)
    ∙ never_both (declares x (drop d.outside ds))

pub returns : goal.returns
returns c = λ h k n.
    let d = c.args.declared.now in
    let ds = c.args.scope.now.decls in
    let x = c.args.name.now in
    own_is d.outside d.start ds x h k n
    ∙ ap₂ (λ (a b : Bool). a && not b) (sym c.is_declared_since-2.ensures) (sym c.is_declared_since.ensures ∙ c.if-is_declared_since.false)
    ∙ all_and c.is_declared_since-2.result
