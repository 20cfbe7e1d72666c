use Rattle.std.proofs.Common.{◌≡◌, ℕ, List, ◌+◌, ◌∷◌, ◌++◌, [], refl, ap, sym, subst, ◌∙◌, drop, arith, append-nil, append_assoc}
use Rattle.std.specs.Prelude.{Ok, Err}
use Rattle.arc_base.specs.Refusal.{and_then, Answers}
use Rattle.indent_scanner.specs.Words.{normal}
use Rattle.expr_rules.specs.Answers.{Answer}
use Rattle.expr_rules.specs.Constructions.{is_among}
use Rattle.expr_parts.proofs.ForCallers.{answers_as, stops, next_item, none_left}
use Rattle.decl_rules.specs.State.{if_new}
use Rattle.decl_rules.specs.Written.{field_names_rule}
use Rattle.decl_written.specs.ViewWritten.{HasNames, normal_names}
use Rattle.decl_written.proofs.parts.new_names.Goals as goal

pub loop-name-init : goal.loop-name-init
loop-name-init c = record { left = λ before h. (before, h, refl); names = refl }

pub loop-name-preserved : goal.loop-name-preserved
loop-name-preserved c =
    let at = c.loop-name in
    let x = c.name-item.result in
    let rest = drop (at.name-index + 1) c.args.declared.now in
    let e = next_item c.args.declared.now at.name-index x c.name-item.is c.loop-name-test.true in
    let text : c.as_slice.result.now ≡ x.text = c.as_slice.ensures in
    let name : c.in-Ok.text ≡ normal x.text = c.in-Ok.ensures.name ∙ ap normal text in
    record {
      left = λ before h.
          let w = at.invariant.left before h in
          let new = subst (λ y. if_new (is_among (normal y) w.0) x.at ≡ Ok tt) text (c.in-Ok.ensures.answers w.0 w.1) in (
            normal x.text ∷ w.0,
            subst (λ y. HasNames c.new_name.new.seen (normal y ∷ w.0)) text (c.in-Ok.ensures.seen w.0 w.1),
            w.2 ∙ ap (field_names_rule w.0) e ∙ ap (λ said. and_then said (λ _. field_names_rule (normal x.text ∷ w.0) rest)) new,
          );
      names =
          ap (λ ns. ns ++ normal_names rest) c.in_ok-push-in-Ok.ensures.ok ∙ append_assoc at.names (c.in-Ok.text ∷ []) (normal_names rest)
          ∙ ap (λ n. at.names ++ n ∷ normal_names rest) name ∙ ap (λ ds. at.names ++ normal_names ds) (sym e) ∙ at.invariant.names;
    }

pub returns-in-Err-clause-answers : goal.returns-in-Err-clause-answers
returns-in-Err-clause-answers c = λ before h.
    let at = c.loop-name in
    let x = c.name-item.result in
    let rest = drop (at.name-index + 1) c.args.declared.now in
    let e = next_item c.args.declared.now at.name-index x c.name-item.is c.loop-name-test.true in
    let w = at.invariant.left before h in
    let now = w.0 in
    let said = if_new (is_among (normal x.text) now) x.at in
    let go = λ (_ : Unit {0}). field_names_rule (normal x.text ∷ now) rest in
    let new = subst (λ y. Answers {A = Unit {0}} (λ (_ : List ℕ). tt) (if_new (is_among (normal y) now) x.at) (Err c.in-Err.stop)) c.as_slice.ensures
    (c.in-Err.ensures.answers now w.1) in
    answers_as {A = Unit {0}} (λ (_ : Unit {0}). tt) (and_then (field_names_rule before c.args.declared.now) (λ _. Ok tt))
    (and_then (and_then said go) (λ _. Ok tt)) (Err c.in-Err.stop)
    (ap (λ (r : Answer (List (List ℕ))). and_then {B = Unit {0}} r (λ _. Ok tt)) (w.2 ∙ ap (field_names_rule now) e))
    (stops {A = List (List ℕ)} {B = Unit {0}} (λ (_ : Unit {0}). tt) (λ (all : List (List ℕ)). all) (and_then said go) (λ _. Ok tt) c.in-Err.stop
    (stops {A = Unit {0}} {B = List (List ℕ)} (λ (all : List (List ℕ)). all) (λ (_ : List ℕ). tt) said go c.in-Err.stop new))

pub returns-clause-answers : goal.returns-clause-answers
returns-clause-answers c = λ before h.
    let at = c.loop-name in
    let w = at.invariant.left before h in
    let none = none_left c.args.declared.now at.name-index (omega (arith, c.loop-name-test.false)) in
    ap (λ (r : Answer (List (List ℕ))). and_then {B = Unit {0}} r (λ _. Ok tt)) (w.2 ∙ ap (field_names_rule w.0) none)

pub returns-clause-seen : goal.returns-clause-seen
returns-clause-seen c = λ before h.
    let at = c.loop-name in
    let w = at.invariant.left before h in
    let none = none_left c.args.declared.now at.name-index (omega (arith, c.loop-name-test.false)) in
    (w.0, w.2 ∙ ap (field_names_rule w.0) none, w.1)

pub returns-clause-names : goal.returns-clause-names
returns-clause-names c =
    let at = c.loop-name in
    let none = none_left c.args.declared.now at.name-index (omega (arith, c.loop-name-test.false)) in
    sym (append-nil at.names) ∙ ap (λ ds. at.names ++ normal_names ds) (sym none) ∙ at.invariant.names
