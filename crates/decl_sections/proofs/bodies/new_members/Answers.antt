use Rattle.std.proofs.Common.{◌≡◌, ℕ, List, suc, ◌+◌, ◌∷◌, ◌++◌, [], length, refl, sym, ap, ap₂, subst, ◌∙◌, drop, arith}
use Rattle.std.proofs.Common.{length-append}
use Rattle.std.specs.Prelude.{Ok, Err}
use Rattle.arc_base.specs.Refusal.{and_then, Answers}
use Rattle.indent_scanner.specs.Words.{normal}
use Rattle.expr_rules.specs.Answers.{Answer}
use Rattle.expr_rules.specs.Env.{Entry}
use Rattle.expr_parts.proofs.ForCallers.{answers_as, stops, next_item, none_left}
use Rattle.decl_rules.specs.Sections.{member_of, members_rule, new_in_section}
use Rattle.decl_written.specs.ViewWritten.{HasNames}
use Rattle.decl_sections.specs.ViewBodies.{member_entries}
use Rattle.decl_sections.proofs.Saying.{one_behind, front_members, members_start, members_end, members_one, entries_last, same_declared}
use Rattle.decl_sections.proofs.bodies.new_members.Goals as goal

pub loop-member-init : goal.loop-member-init
loop-member-init c = record {
  outside = refl;
  start = refl;
  seen = λ before h. subst (λ ns. HasNames c.args.declared.now.seen (ns ++ before)) (sym c.new-names.ensures) h;
  left = λ before ty st h d. (
    before,
    h,
    members_start (members_rule st before ty 0 c.args.members.now)
        ∙ ap (λ (ns : List (List ℕ)). front_members (member_entries ty 0 ns) (members_rule st before ty (length ns) c.args.members.now))
        (sym c.new-names.ensures),
  );
}

pub loop-member-preserved : goal.loop-member-preserved
loop-member-preserved c =
    let at = c.loop-member in
    let x = c.member-item.result in
    let rest = drop (at.member-index + 1) c.args.members.now in
    let e = next_item c.args.members.now at.member-index x c.member-item.is c.loop-member-test.true in
    let text : c.as_slice.result.now ≡ x.text = c.as_slice.ensures in
    let name : c.in-Ok.name ≡ normal x.text = c.in-Ok.ensures.name ∙ ap normal text in
    let pushed = c.in_ok-push-in-Ok.ensures.ok in
    record {
      outside = c.new_in_section.ensures.outside ∙ at.invariant.outside;
      start = c.new_in_section.ensures.start ∙ at.invariant.start;
      seen = λ before h.
          subst (λ ns. HasNames c.new_in_section.new.declared.seen (ns ++ before)) (sym pushed)
          (one_behind c.new_in_section.new.declared.seen c.in-Ok.name at.names before
          (subst (λ y. HasNames c.new_in_section.new.declared.seen (y ∷ (at.names ++ before))) (sym c.in-Ok.ensures.name)
          (c.in-Ok.ensures.seen (at.names ++ before) (at.invariant.seen before h))));
      left = λ before ty st h d.
          let w = at.invariant.left before ty st h d in
          let here = same_declared st c.args.declared.now at.declared c.args.scope.now at.invariant.outside at.invariant.start d in
          let new = subst (λ y. new_in_section st w.0 x.at (normal y) ≡ Ok tt) text (c.in-Ok.ensures.answers w.0 st w.1 here) in
          let n = length at.names in
          let done = member_entries ty 0 at.names in
          let behind = λ (k : ℕ). members_rule st (normal x.text ∷ w.0) ty k rest in
          let entry = member_of ty n x in (
            normal x.text ∷ w.0,
            subst (λ y. HasNames c.new_in_section.new.declared.seen (normal y ∷ w.0)) text (c.in-Ok.ensures.seen w.0 w.1),
            w.2 ∙ ap (λ l. front_members done (members_rule st w.0 ty n l)) e
                ∙ ap (λ (said : Answer (Unit {0})). front_members done (and_then said (λ _. and_then (behind (suc n)) (λ more. Ok (entry ∷ more))))) new
                ∙ members_one done entry (behind (suc n))
                ∙ ap₂ (λ (es : List Entry) (k : ℕ). front_members es (behind k))
                (sym (ap (member_entries ty 0) (pushed ∙ ap (λ y. at.names ++ y ∷ []) name) ∙ entries_last ty at.names (normal x.text)))
                (let l = ap length pushed in omega (arith, l, length-append at.names (c.in-Ok.name ∷ []))),
          );
    }

pub returns-in-Err-clause-answers : goal.returns-in-Err-clause-answers
returns-in-Err-clause-answers c = λ before ty st h d.
    let at = c.loop-member in
    let x = c.member-item.result in
    let rest = drop (at.member-index + 1) c.args.members.now in
    let e = next_item c.args.members.now at.member-index x c.member-item.is c.loop-member-test.true in
    let w = at.invariant.left before ty st h d in
    let here = same_declared st c.args.declared.now at.declared c.args.scope.now at.invariant.outside at.invariant.start d in
    let new = subst (λ y. Answers {A = Unit {0}} (λ (_ : List ℕ). tt) (new_in_section st w.0 x.at (normal y)) (Err c.in-Err.stop)) c.as_slice.ensures
    (c.in-Err.ensures.answers w.0 st w.1 here) in
    let n = length at.names in
    let done = member_entries ty 0 at.names in
    let said = new_in_section st w.0 x.at (normal x.text) in
    let go = λ (_ : Unit {0}). and_then (members_rule st (normal x.text ∷ w.0) ty (suc n) rest) (λ more. Ok (member_of ty n x ∷ more)) in
    let to = member_entries ty 0 in
    answers_as to (members_rule st before ty 0 c.args.members.now) (front_members done (and_then said go)) (Err c.in-Err.stop)
    (w.2 ∙ ap (λ l. front_members done (members_rule st w.0 ty n l)) e)
    (stops to (λ (all : List Entry). all) (and_then said go) (λ more. Ok (done ++ more)) c.in-Err.stop
    (stops (λ (all : List Entry). all) (λ (_ : List ℕ). tt) said go c.in-Err.stop new))

pub returns-in-Err-clause-outside : goal.returns-in-Err-clause-outside
returns-in-Err-clause-outside c = c.new_in_section.ensures.outside ∙ c.loop-member.invariant.outside

pub returns-in-Err-clause-start : goal.returns-in-Err-clause-start
returns-in-Err-clause-start c = c.new_in_section.ensures.start ∙ c.loop-member.invariant.start

pub returns-clause-answers : goal.returns-clause-answers
returns-clause-answers c = λ before ty st h d.
    let at = c.loop-member in
    let w = at.invariant.left before ty st h d in
    let none = none_left c.args.members.now at.member-index (omega (arith, c.loop-member-test.false)) in
    let done = member_entries ty 0 at.names in
    w.2 ∙ ap (λ l. front_members done (members_rule st w.0 ty (length at.names) l)) none ∙ members_end done
