use Rattle.std.proofs.Common.{◌∙◌, ◌∷◌, [], ◌++◌, ◌+◌, List}
use Rattle.std.proofs.Common.{length, refl, ap, sym, append-nil, append_assoc, length-append, arith, drop}
use Rattle.std.proofs.Math.ListN.{drop_of_length-le}
use Rattle.std.specs.Prelude.{Err}
use Rattle.arc_base.specs.Refusal.{and_then}
use Rattle.indent_scanner.specs.Words.{normal}
use Rattle.expr_parts.specs.declared.scope.Decl.{Decl}
use Rattle.decl_rules.specs.Heads.{group_names}
use Rattle.expr_parts.proofs.ForCallers.{stops, answers_as}
use Rattle.decl_parts.proofs.ForCallers.{next_name}
use Rattle.decl_heads.specs.ViewHeads.{group_name}
use Rattle.decl_heads.proofs.given.take_names.Goals as goal

pub loop-name-init : goal.loop-name-init
loop-name-init c = record {
  named = λ st before h. record { before = before; own = h; rest = refl };
  begins = ([], sym (append-nil c.args.scope.now.decls));
  kinds = refl;
  home = refl;
}

pub loop-name-preserved : goal.loop-name-preserved
loop-name-preserved c =
    let at = c.loop-name in
    let item = c.name-item.result in
    let e = next_name c.args.names.now at.name-index item c.name-item.is c.loop-name-test.true in
    let first = at.invariant.begins in
    let more = c.in-Ok.ensures.begins in
    record {
      named = λ st before h.
          let l = at.invariant.named st before h in
          record {
            before = normal item.text ∷ l.before;
            own = c.in-Ok.ensures.names st l.before l.own;
            rest = l.rest ∙ ap (group_names st c.args.has_result l.before) e
                ∙ ap (λ a. and_then a (λ _. group_names st c.args.has_result (normal item.text ∷ l.before) (drop (at.name-index + 1) c.args.names.now)))
                (c.in-Ok.ensures.answers st l.before l.own);
          };
      begins = (
        first.0 ++ more.0,
        more.1 ∙ ap (λ l. l ++ more.0) first.1 ∙ append_assoc c.args.scope.now.decls first.0 more.0,
      );
      kinds = c.take_name.ensures.kinds ∙ at.invariant.kinds;
      home = c.take_name.ensures.home ∙ at.invariant.home;
    }

pub returns-clause-answers : goal.returns-clause-answers
returns-clause-answers c = λ st before h.
    let at = c.loop-name in
    let l = at.invariant.named st before h in
    l.rest ∙ ap (group_names st c.args.has_result l.before) (drop_of_length-le c.args.names.now c.loop-name-test.false)

pub returns-in-Err-clause-answers : goal.returns-in-Err-clause-answers
returns-in-Err-clause-answers c = λ st before h.
    let at = c.loop-name in
    let item = c.name-item.result in
    let e = next_name c.args.names.now at.name-index item c.name-item.is c.loop-name-test.true in
    let l = at.invariant.named st before h in
    let go = λ (_ : Unit {0}). group_names st c.args.has_result (normal item.text ∷ l.before) (drop (at.name-index + 1) c.args.names.now) in
    answers_as (λ (_ : Unit {0}). tt) (group_names st c.args.has_result before c.args.names.now)
    (and_then (group_name st c.args.has_result l.before item) go) (Err c.in-Err.stop)
    (l.rest ∙ ap (group_names st c.args.has_result l.before) e)
    (stops (λ (_ : Unit {0}). tt) (λ (_ : Unit {0}). tt) (group_name st c.args.has_result l.before item) go c.in-Err.stop
    (c.in-Err.ensures.answers st l.before l.own))

pub take_name-requires : goal.take_name-requires
take_name-requires c =
    let b = c.loop-name.invariant.begins in
    let e = ap (λ (l : List Decl). length l) b.1 in
    record { outside = omega (arith, c.requires.outside, e, length-append c.args.scope.now.decls b.0) }
