use Rattle.std.proofs.Common.{◌≤◌, [], drop, length}
use Rattle.arc_base.specs.Refusal.{Answers}
use Rattle.decl_rules.specs.Whole.{text_rule}
use Rattle.check_uses.specs.Known.{all_procs}
use Rattle.check_uses.specs.InTime.{AreInTime}
use Rattle.check_uses.specs.View.{items_of}
use Rattle.check_uses.proofs.text.check_items.Given as goal

abbrev pub invariant-loop-left : goal.invariant-loop-left
invariant-loop-left l = record {
  later : AreInTime l.later (items_of [] l.known.procs.now.items l.start.items (drop l.left l.text));
  answer : Answers {A = Unit {0}} (λ _. tt) (text_rule (all_procs l.known) (items_of [] l.known.procs.now.items l.start.items (drop l.left l.text))) l.answer;
  below : l.left ≤ length l.text;
}

abbrev pub decreases-loop-left : goal.decreases-loop-left
decreases-loop-left l = l.left
