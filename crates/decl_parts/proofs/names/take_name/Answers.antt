use Rattle.std.proofs.Common.{◌≡◌, ◌∙◌, ap, sym, drop, Bool, ℕ, List, false}
use Rattle.arc_base.specs.declared.place.Code.TheVariants.{Redefined, NotTyped}
use Rattle.arc_base.specs.Refusal.{and_then}
use Rattle.indent_scanner.specs.Words.{normal}
use Rattle.expr_parts.specs.ViewDecls.{declares}
use Rattle.expr_parts.proofs.ForCallers.{refuses}
use Rattle.decl_rules.specs.State.{if_new, if_typed}
use Rattle.decl_rules.specs.Definitions.{name_rule}
use Rattle.decl_parts.proofs.Naming.{own_more}
use Rattle.decl_parts.proofs.names.take_name.Goals as goal

pub returns-then-is_declared_since-clause-answers : goal.returns-then-is_declared_since-clause-answers
returns-then-is_declared_since-clause-answers c = λ st before h.
    let name = c.args.name.now in
    let by = λ (b : Bool). and_then (if_new b name.at) (λ _. if_typed c.args.fits name.at) in
    let word : normal name.text ≡ c.as_slice-2.result.now = sym (c.as_slice-2.ensures ∙ c.in_ok-word.ensures ∙ ap normal c.as_slice.ensures) in
    refuses (λ (_ : Unit {0}). tt) (name_rule st before c.args.fits name) Redefined name.at c.refusal.result c.refusal.ensures
    (ap by (sym (h (normal name.text)) ∙ ap (λ (x : List ℕ). declares x (drop c.args.outside c.args.scope.now.decls)) word
    ∙ sym c.is_declared_since.ensures ∙ c.if-is_declared_since.true))

pub returns-then-not-fits-clause-answers : goal.returns-then-not-fits-clause-answers
returns-then-not-fits-clause-answers c = λ st before h.
    let name = c.args.name.now in
    let by = λ (b k : Bool). and_then (if_new b name.at) (λ _. if_typed k name.at) in
    let word : normal name.text ≡ c.as_slice-2.result.now = sym (c.as_slice-2.ensures ∙ c.in_ok-word.ensures ∙ ap normal c.as_slice.ensures) in
    refuses (λ (_ : Unit {0}). tt) (name_rule st before c.args.fits name) NotTyped name.at c.refusal-then-not-fits.result c.refusal-then-not-fits.ensures
    (ap (λ b. by b c.args.fits) (sym (h (normal name.text)) ∙ ap (λ (x : List ℕ). declares x (drop c.args.outside c.args.scope.now.decls)) word
    ∙ sym c.is_declared_since.ensures ∙ c.if-is_declared_since.false)
    ∙ ap (by false) c.if-not-fits.true)

pub returns-clause-answers : goal.returns-clause-answers
returns-clause-answers c = λ st before h.
    let name = c.args.name.now in
    let by = λ (b k : Bool). and_then (if_new b name.at) (λ _. if_typed k name.at) in
    let word : normal name.text ≡ c.as_slice-2.result.now = sym (c.as_slice-2.ensures ∙ c.in_ok-word.ensures ∙ ap normal c.as_slice.ensures) in
    ap (λ b. by b c.args.fits) (sym (h (normal name.text)) ∙ ap (λ (x : List ℕ). declares x (drop c.args.outside c.args.scope.now.decls)) word
    ∙ sym c.is_declared_since.ensures ∙ c.if-is_declared_since.false)
    ∙ ap (by false) c.if-not-fits.false

pub returns-clause-names : goal.returns-clause-names
returns-clause-names c = λ st before h.
    own_more c.args.outside c.args.scope.now.decls c.declare.new.self.decls _ (normal c.args.name.now.text) st before c.requires.outside
    c.in_ok-declare.ensures.ok
    (c.in_ok-word.ensures ∙ ap normal c.as_slice.ensures) h

pub returns-clause-begins : goal.returns-clause-begins
returns-clause-begins c = (_, c.in_ok-declare.ensures.ok)
