use Rattle.std.proofs.Common.{ℕ, List, sym, ap, ◌∙◌}
use Rattle.std.specs.Prelude.{Bool, ◌||◌}
use Rattle.arc_base.specs.declared.place.Code.TheVariants.{Redefined}
use Rattle.indent_scanner.specs.Words.{normal}
use Rattle.expr_parts.specs.ViewDecls.{declares}
use Rattle.expr_rules.specs.Constructions.{is_among}
use Rattle.expr_parts.proofs.ForCallers.{answers_as, refuses}
use Rattle.decl_rules.specs.State.{if_new}
use Rattle.decl_rules.specs.Sections.{new_in_section}
use Rattle.decl_sections.specs.ViewBodies.{own_decls}
use Rattle.decl_sections.proofs.bodies.new_in_section.Goals as goal

pub returns-then-is_own-clause-answers : goal.returns-then-is_own-clause-answers
returns-then-is_own-clause-answers c = λ names st h d.
    let at = c.args.at in
    let x = normal c.args.text.now in
    let own = c.is_own.ensures d.begins d.ends d.none_twice ∙ c.if-is_own.true in
    let name = c.as_slice.ensures ∙ c.in_ok-name.ensures in
    let scope = own_decls c.args.declared.now.outside c.args.declared.now.start c.args.scope.now.decls in
    refuses {T = List ℕ} (λ _. tt) (new_in_section st names at x) Redefined at c.refusal.result c.refusal.ensures
    (ap (λ (b : Bool). if_new (b || is_among x names) at) (d.own x ∙ ap (λ y. declares y scope) (sym name) ∙ own))

pub returns-clause-answers : goal.returns-clause-answers
returns-clause-answers c = λ names st h d.
    let at = c.args.at in
    let x = normal c.args.text.now in
    let own = c.is_own.ensures d.begins d.ends d.none_twice ∙ c.if-is_own.false in
    let name = c.as_slice.ensures ∙ c.in_ok-name.ensures in
    let scope = own_decls c.args.declared.now.outside c.args.declared.now.start c.args.scope.now.decls in
    answers_as (λ (_ : List ℕ). tt) (new_in_section st names at x) (if_new (is_among x names) at) c.new_name.result
    (ap (λ (b : Bool). if_new (b || is_among x names) at) (d.own x ∙ ap (λ y. declares y scope) (sym name) ∙ own))
    (c.new_name.ensures.answers names h)
