use Rattle.std.proofs.Common.{◌++◌, refl, sym, ap, ◌∙◌}
use Rattle.elf32.specs.Elf.{segments_of}
use Rattle.elf32.specs.Reading.{AreFields}
use Rattle.elf32.proofs.WholeFile.{no_segments}
use Rattle.elf32.proofs.reader.read_sizes.Goals as goal

pub returns-then-not-are_sizes-clause-bad : goal.returns-then-not-are_sizes-clause-bad
returns-then-not-are_sizes-clause-bad c =
    let fields : AreFields c.args.bytes.now c.word_at.result c.word_at-2.result c.word_at-3.result c.word_at-4.result c.word_at-5.result =
    record {
      note_is = c.word_at.ensures.number;
      code_is = c.word_at-2.ensures.number;
      statics_is = c.word_at-3.ensures.number;
      heap_is = c.word_at-4.ensures.number;
      stack_is = c.word_at-5.ensures.number;
    } in (
      refl,
      no_segments c.args.bytes.now c.word_at.result c.word_at-2.result c.word_at-3.result c.word_at-4.result c.word_at-5.result fields
          (λ sizes spelled. c.are_sizes.ensures.no c.if-not-are_sizes.true sizes),
    )

pub returns-then-not-is_same-clause-bad : goal.returns-then-not-is_same-clause-bad
returns-then-not-is_same-clause-bad c =
    let fields : AreFields c.args.bytes.now c.word_at.result c.word_at-2.result c.word_at-3.result c.word_at-4.result c.word_at-5.result =
    record {
      note_is = c.word_at.ensures.number;
      code_is = c.word_at-2.ensures.number;
      statics_is = c.word_at-3.ensures.number;
      heap_is = c.word_at-4.ensures.number;
      stack_is = c.word_at-5.ensures.number;
    } in
    let all = segments_of c.word_at.result c.word_at-2.result c.word_at-3.result c.word_at-4.result c.word_at-5.result in (
      refl,
      no_segments c.args.bytes.now c.word_at.result c.word_at-2.result c.word_at-3.result c.word_at-4.result c.word_at-5.result fields
          (λ sizes spelled. c.is_same.ensures.no c.if-not-is_same.true
          (spelled ∙ sym (c.as_slice.ensures ∙ c.in_ok-push_segments.ensures ∙ ap (λ l. l ++ all) c.new-expected.ensures))),
    )
