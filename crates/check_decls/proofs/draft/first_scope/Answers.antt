use Rattle.std.proofs.Common.{◌∙◌, ap}
use Rattle.std.specs.Prelude.{codes}
use Rattle.expr_parts.specs.declared.scope.What.{What}
use Rattle.check_decls.specs.View.{decl_of, with_decl}
use Rattle.check_decls.proofs.Beginning.{all_declared}
use Rattle.check_decls.proofs.draft.first_scope.Goals as goal

pub returns : goal.returns
returns c =
    all_declared c.args.kinds c.args.home c.in_ok-scope.scope c.declare.new.scope c.declare-2.new.scope c.declare-3.new.scope c.declare-4.new.scope
    c.declare-5.new.scope c.declare-6.new.scope c.declare-7.new.scope c.in_ok-scope.ensures c.in_ok-declare.ensures c.in_ok-declare-2.ensures
    c.in_ok-declare-3.ensures c.in_ok-declare-4.ensures
    (c.in_ok-declare-5.ensures ∙ ap (λ (w : What). with_decl c.declare-4.new.scope (decl_of (codes "false") w)) c.falsehood.ensures)
    (c.in_ok-declare-6.ensures ∙ ap (λ (w : What). with_decl c.declare-5.new.scope (decl_of (codes "true") w)) c.truth.ensures)
    c.in_ok-declare-7.ensures
