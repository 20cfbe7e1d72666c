use Rattle.std.proofs.Common.{◌≡◌, sym, ap, ◌∙◌, arith, Some}
use Rattle.decl_types.specs.ViewScoped.{declaration_from, mended_from}
use Rattle.decl_types.proofs.Scoping.{none_mended}
use Rattle.decl_types.proofs.knowing.mend.Goals as goal

pub returns-else-number-behind-clause-decls : goal.returns-else-number-behind-clause-decls
returns-else-number-behind-clause-decls c =
    let ds = c.args.scope.now.decls in
    let start = c.args.names.now.start in
    let id = c.args.id in
    let n = c.count.ensures in
    let b = c.saturating_sub-behind.ensures in
    let none = none_mended ds start c.in-Some.number id (omega (arith, n, b, c.if-number-behind.false)) in
    let at : declaration_from 0 c.args.names.now.numbers.items c.args.number ≡ Some c.in-Some.number =
    ap (λ ns. declaration_from 0 ns c.args.number) (sym c.as_slice.ensures.value) ∙ c.declaration_of.ensures ∙ c.in-Some.is in
    sym (ap (λ o. mended_from ds start o id) at ∙ none)
