use Rattle.std.proofs.Common.{◌≡◌, ◌++◌, drop, map}
use Rattle.flat_code.specs.Codes.{block_plain}
use Rattle.word_lowering.specs.Layouts.{all_housed, behind_all}
use Rattle.word_lowering.proofs.layouts.put_all_housed.Given as goal

-- with what is left, it is all
abbrev pub invariant-loop-place : goal.invariant-loop-place
invariant-loop-place l = record {
  all : l.all ++ all_housed l.types l.start (map block_plain l.survey.lines.now) l.free (drop l.place-index l.places)
      ≡ l.initial.all ++ all_housed l.types l.start (map block_plain l.survey.lines.now) l.initial.free l.places;
  free : behind_all l.types l.start (map block_plain l.survey.lines.now) l.free (drop l.place-index l.places)
      ≡ behind_all l.types l.start (map block_plain l.survey.lines.now) l.initial.free l.places;
}
