use Rattle.std.proofs.Common.{◌≡◌, ◌<◌, ℕ, true, Some}
use Rattle.std.specs.Prelude.{slice_get}
use Rattle.word_code.specs.declared.word.WordInstr.{WordInstr}
use Rattle.reg_scan.specs.Fine.{is_right}
use Rattle.reg_scan.proofs.fine.all_right.Given as goal

-- the lines so far are right
abbrev pub invariant-loop-position : goal.invariant-loop-position
invariant-loop-position l =
    (i r : ℕ) (line : WordInstr) → i < l.position → slice_get l.lines i ≡ Some line → r < 32 → is_right l.of l.homes l.labels line i r ≡ true
