use Rattle.std.proofs.Common.{ℕ, ◌+◌, List, ◌++◌, refl, ap, ap₂, ◌∙◌, replicate}
use Rattle.rv32_isa.specs.Image.{stack_at}
use Rattle.word_code.specs.declared.word.TheConstants.{SPARE_ROOM}
use Rattle.word_code.specs.declared.word.WordProc.{WordProc}
use Rattle.word_code.specs.Memory.{data_of}
use Rattle.word_code.specs.Words.{start}
use Rattle.word_runner.specs.View.{callers_are, proc_in}
use Rattle.word_runner.proofs.CallRows.{same_call, same_state}
use Rattle.word_runner.proofs.start.begun.Goals as goal

pub returns-clause-state : goal.returns-clause-state
unfolding start
returns-clause-state c =
    λ rest e.
    let heap = c.args.heap in
    same_state _ _ refl
    (c.in_ok-space.ensures
    ∙ ap₂ (λ (own : List ℕ) (room : ℕ). record { statics = data_of heap 0 own; heap = replicate heap 0; places = replicate room 0 }) c.as_slice-2.ensures
    (ap (λ (n : ℕ). n + SPARE_ROOM)
    (c.room_of.ensures ∙ ap (λ (l : List WordProc). (proc_in l c.args.first).room) c.as_slice.ensures ∙ ap (λ (p : WordProc). p.room) e)))
    (ap (λ (l : List ℕ). l ++ rest) c.new-taken.ensures.items)
    (same_call _ _ _ _ _ _ stack_at stack_at 0 e c.no_words-vars.ensures c.no_words-given.ensures refl)
    (ap (callers_are c.args.code.now.procs) c.new-callers.ensures.items)

pub returns-clause-none : goal.returns-clause-none
returns-clause-none c = (c.new-taken.ensures.items, refl, refl)
