use Rattle.std.proofs.Common.{◌≡◌, [], ◌∷◌, ◌∙◌, ap, sym, subst, drop, length, arith, ◌-◌}
use Rattle.std.proofs.lemmas.List.{drop_all}
use Rattle.decl_rules.specs.Whole.{text_rule, item_rule, comes_in_time}
use Rattle.check_uses.specs.View.{item_of, items_of}
use Rattle.number_sets.specs.Numbers.{is_among}
use Rattle.check_uses.specs.Known.{all_procs}
use Rattle.check_uses.specs.InTime.{AreInTime}
use Rattle.check_uses.proofs.Answering.{Says}
use Rattle.check_uses.proofs.Timing.{items_more}
use Rattle.check_uses.proofs.text.check_items.Goals as goal

pub loop-left-init : goal.loop-left-init
loop-left-init c =
    let all = all_procs c.args.known.now in
    let text = c.args.text.now in
    let items = items_of [] c.args.known.now.procs.now.items c.args.start.now.items in
    let none : items (drop (length text) text) ≡ [] = ap items (drop_all (length text) text (omega arith)) in
    record {
      later = λ p. ap (is_among p) c.new-later.ensures ∙ sym (ap (comes_in_time p) none);
      answer = ap (text_rule all) none;
      below = omega arith;
    }

pub returns : goal.returns
returns c =
    let all = all_procs c.args.known.now in
    let text = c.args.text.now in
    let items = items_of [] c.args.known.now.procs.now.items c.args.start.now.items in
    let none : c.loop-left.left ≡ 0 = omega (arith, c.loop-left-test.false) in
    subst (λ n. Says (text_rule all (items (drop n text))) c.loop-left.answer) none c.loop-left.invariant.answer

pub loop-left-preserved : goal.loop-left-preserved
loop-left-preserved c =
    let all = all_procs c.args.known.now in
    let procs = c.args.known.now.procs.now.items in
    let start = c.args.start.now.items in
    let text = c.args.text.now in
    let left = c.loop-left.left in
    let item = c.item_at-item.result in
    let rest = items_of [] procs start (drop left text) in
    let h = c.loop-left.invariant in
    let more : items_of [] procs start (drop (left - 1) text) ≡ item_of [] procs start item ∷ rest =
    items_more procs start text (left - 1) left item c.item_at-item.ensures (omega arith) in
    record {
      later = subst (λ l. AreInTime c.pass.new.later l) (sym more) (c.in_ok-pass.ensures procs rest h.later);
      answer = subst (λ l. Says (text_rule all l) c.before-answer.result) (sym more)
          (c.before-answer.ensures (item_rule all (item_of [] procs start item) rest) (text_rule all rest) (c.check_item-first.ensures rest h.later) h.answer);
      below = omega (arith, h.below);
    }
