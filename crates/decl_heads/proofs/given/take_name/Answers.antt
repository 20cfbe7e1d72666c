use Rattle.std.proofs.Common.{◌≡◌, ◌∙◌, ap, sym, Bool}
use Rattle.arc_base.specs.declared.place.Code.TheVariants.{Redefined}
use Rattle.indent_scanner.specs.Words.{normal}
use Rattle.expr_parts.proofs.ForCallers.{refuses}
use Rattle.decl_rules.specs.State.{if_new}
use Rattle.decl_rules.specs.Heads.{is_taken}
use Rattle.decl_parts.proofs.ForCallers.{own_more}
use Rattle.decl_heads.specs.ViewHeads.{group_name}
use Rattle.decl_heads.proofs.given.take_name.Goals as goal

pub returns-then-is_taken-clause-answers : goal.returns-then-is_taken-clause-answers
returns-then-is_taken-clause-answers c = λ st before h.
    let name = c.args.name.now in
    let by = λ (b : Bool). if_new b name.at in
    let word : normal name.text ≡ c.as_slice-2.result.now = sym (c.as_slice-2.ensures ∙ c.in_ok-word.ensures ∙ ap normal c.as_slice.ensures) in
    refuses (λ (_ : Unit {0}). tt) (group_name st c.args.has_result before name) Redefined name.at c.refusal.result c.refusal.ensures
    (ap by (ap (is_taken st c.args.has_result before) word ∙ c.is_taken.ensures st before h ∙ c.if-is_taken.true))

pub returns-clause-answers : goal.returns-clause-answers
returns-clause-answers c = λ st before h.
    let name = c.args.name.now in
    let by = λ (b : Bool). if_new b name.at in
    let word : normal name.text ≡ c.as_slice-2.result.now = sym (c.as_slice-2.ensures ∙ c.in_ok-word.ensures ∙ ap normal c.as_slice.ensures) in
    ap by (ap (is_taken st c.args.has_result before) word ∙ c.is_taken.ensures st before h ∙ c.if-is_taken.false)

pub returns-clause-names : goal.returns-clause-names
returns-clause-names c = λ st before h.
    own_more c.args.outside c.args.scope.now.decls c.declare.new.self.decls _ (normal c.args.name.now.text) st before c.requires.outside
    c.in_ok-declare.ensures.ok
    (c.in_ok-word.ensures ∙ ap normal c.as_slice.ensures) h

pub returns-clause-begins : goal.returns-clause-begins
returns-clause-begins c = (_, c.in_ok-declare.ensures.ok)
