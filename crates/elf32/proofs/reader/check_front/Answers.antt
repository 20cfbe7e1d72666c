use Rattle.std.proofs.Common.{◌++◌, length, refl, sym, ap, ◌∙◌}
use Rattle.elf32.specs.Reading.{note_front}
use Rattle.elf32.proofs.reader.check_front.Goals as goal

pub returns-then-not-is_same-clause-bad : goal.returns-then-not-is_same-clause-bad
returns-then-not-is_same-clause-bad c = (
  refl,
  λ long front. c.is_same.ensures.no c.if-not-is_same.true
      (front ∙ sym (c.as_slice.ensures ∙ c.in_ok-push_front.ensures ∙ ap (λ l. l ++ note_front (length c.args.note.now)) c.new-expected.ensures)),
)
