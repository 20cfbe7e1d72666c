use Rattle.std.proofs.Common.{[], ap, ◌∙◌}
use Rattle.word_lowering.specs.Lowered.{any_branches}
use Rattle.word_lowering.proofs.Emits.{ok_as}
use Rattle.word_lowering.proofs.Parts.{ends_are}
use Rattle.word_lowering.proofs.tails.emit_last.Goals as goal

pub returns : goal.returns
returns c =
    let same = c.as_slice-lines.ensures in
    ok_as c.emit_trap-6.result
    (λ p. ends_are c.args.code.now c.emit_trap-6.new.code _ _ _ _ _ _
    (p [] ∙ c.in_ok-emit_trap-5.ensures _ ∙ c.in_ok-emit_trap-4.ensures _ ∙ c.in_ok-emit_trap-3.ensures _ ∙ c.in_ok-emit_trap-2.ensures _
    ∙ c.in_ok-emit_trap.ensures _)
    (c.any_branches-overflow.ensures ∙ ap (any_branches 0) same) (c.any_branches-division.ensures ∙ ap (any_branches 1) same)
    (c.any_branches-index.ensures ∙ ap (any_branches 2) same) (c.any_branches-range.ensures ∙ ap (any_branches 3) same)
    (c.any_branches-length.ensures ∙ ap (any_branches 4) same) (c.any_branches-depth.ensures ∙ ap (any_branches 5) same))
    c.emit_trap-6.ensures
