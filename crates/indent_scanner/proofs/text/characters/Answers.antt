use Rattle.std.proofs.Common.{◌≡◌, ◌++◌, ◌+◌, [], ◌∷◌, drop, get_or, sym, ap, ◌∙◌, arith, append_assoc}
use Rattle.std.specs.Prelude.{Some}
use Rattle.indent_scanner.specs.Shape.{step}
use Rattle.indent_scanner.specs.ByForm.{value_of, values}
use Rattle.indent_scanner.proofs.Fronts.{deeper_at}
use Rattle.indent_scanner.proofs.Characters.{values_go, onto_some, onto_none}
use Rattle.indent_scanner.proofs.text.characters.Goals as goal
use Rattle.indent_scanner.proofs.text.characters.Goals.{in-Some-value_of+in_ok-push, in_default-value_of}

pub loop-at-preserved : goal.loop-at-preserved
loop-at-preserved c =
    let bytes = c.args.bytes.now in let at = c.loop-at.at in let state = c.loop-at.state in let next = c.in-Some.next in
    let is : step state (get_or bytes at 0) (get_or bytes (at + 1) 0) ≡ Some next = ap (step state (get_or bytes at 0)) (sym c.byte_at.ensures)
    ∙ sym c.step.ensures ∙ c.in-Some.is in
    let deep = deeper_at state next _ _ is in
    let go = values_go state next bytes at c.loop-at-test.true is in
    let before = c.loop-at.invariant.read in
    record {
      read = elim c.match-value_of.branch [
        | in-Some-value_of+in_ok-push w ↦
            let value = w.in-Some-value_of.value in
            let told = onto_some (value_of next) value (values next (drop (at + 1) bytes)) (sym c.value_of.ensures ∙ w.in-Some-value_of.is) in
            ap (λ x. x ++ values next (drop (at + 1) bytes)) (w.text-is ∙ w.in_ok-push.ensures.ok)
            ∙ append_assoc c.loop-at.text (value ∷ []) (values next (drop (at + 1) bytes)) ∙ ap (λ x. c.loop-at.text ++ x) (sym (go ∙ told)) ∙ before
        | in_default-value_of w ↦
            let told = onto_none (value_of next) (values next (drop (at + 1) bytes)) (sym c.value_of.ensures ∙ w.in_default-value_of.is) in
            ap (λ x. x ++ values next (drop (at + 1) bytes)) w.text-is ∙ ap (λ x. c.loop-at.text ++ x) (sym (go ∙ told)) ∙ before
      ];
      inside = omega arith;
      shallow = omega (arith, deep, c.loop-at.invariant.shallow);
    }
