use Rattle.std.proofs.Common.{◌≡◌, ℕ, ◌+◌, length, drop, sym, ap, ◌∙◌, arith}
use Rattle.std.specs.Prelude.{Bool, true, false, not}
use Rattle.arc_base.specs.declared.place.Code.TheVariants.{NotTyped}
use Rattle.arc_base.specs.Refusal.{and_then}
use Rattle.decl_rules.specs.State.{if_typed}
use Rattle.decl_rules.specs.Sections.{containment_rule}
use Rattle.decl_types.specs.ViewMarks.{mark_at}
use Rattle.decl_types.specs.ViewReading.{all_defined}
use Rattle.expr_parts.proofs.ForCallers.{next_item, none_left, refuses}
use Rattle.decl_types.specs.ViewContained.{contained}
use Rattle.decl_types.proofs.Enclosing.{by_last, contained_next}
use Rattle.decl_types.proofs.containing.check_contained.Goals as goal

pub returns-then-branch-clause-answers : goal.returns-then-branch-clause-answers
returns-then-branch-clause-answers c = λ ts n m keys w.
    let at = c.loop-definition in
    let read = c.args.read.now in
    let i = at.definition-index in
    let d = c.definition-item.result in
    let all = all_defined ts keys read in
    let e = next_item read i d c.definition-item.is c.loop-definition-test.true in
    let mark : mark_at (contained (length read) read i) i ≡ true =
    ap (λ (k : ℕ). mark_at (contained (length read) read k) k) (sym at.invariant.number) ∙ sym c.in_ok-contains_itself.ensures ∙ c.if-branch.true in
    refuses (λ (_ : Unit {0}). tt) (containment_rule all all) NotTyped d.at c.refusal.result c.refusal.ensures
    (at.invariant.left ts n m keys w ∙ contained_next ts n m keys read i d (drop (i + 1) read) w e
    ∙ ap (λ (b : Bool). and_then (if_typed (not b) d.at) (λ _. containment_rule all (all_defined ts keys (drop (i + 1) read)))) mark)

pub loop-definition-preserved : goal.loop-definition-preserved
loop-definition-preserved c =
    let at = c.loop-definition in
    let read = c.args.read.now in
    let i = at.definition-index in
    let d = c.definition-item.result in
    let e = next_item read i d c.definition-item.is c.loop-definition-test.true in
    let mark : mark_at (contained (length read) read i) i ≡ false =
    ap (λ (k : ℕ). mark_at (contained (length read) read k) k) (sym at.invariant.number) ∙ sym c.in_ok-contains_itself.ensures ∙ c.if-branch.false in
    record {
      number = ap (λ (k : ℕ). k + 1) at.invariant.number;
      none = λ k lt. by_last k i (λ l. at.invariant.none k l) (λ e. ap (λ (j : ℕ). mark_at (contained (length read) read j) j) e ∙ mark) lt;
      left = λ ts n m keys w.
          let all = all_defined ts keys read in
          at.invariant.left ts n m keys w ∙ contained_next ts n m keys read i d (drop (i + 1) read) w e
          ∙ ap (λ (b : Bool). and_then (if_typed (not b) d.at) (λ _. containment_rule all (all_defined ts keys (drop (i + 1) read)))) mark;
    }

pub returns-clause-answers : goal.returns-clause-answers
returns-clause-answers c = λ ts n m keys w.
    let at = c.loop-definition in
    let read = c.args.read.now in
    let none = none_left read at.definition-index (omega (arith, c.loop-definition-test.false)) in
    at.invariant.left ts n m keys w ∙ ap (λ l. containment_rule (all_defined ts keys read) (all_defined ts keys l)) none

pub returns-clause-none : goal.returns-clause-none
returns-clause-none c = λ k lt. let at = c.loop-definition in at.invariant.none k (omega (arith, lt, c.loop-definition-test.false))
