use Rattle.std.proofs.Common.{ℕ, [], Some}
use Rattle.arc_base.specs.Stepping.{behaviour}
use Rattle.arc_base.proofs.ForCallers.{steady}
use Rattle.word_code.specs.Words.{WordState, step_of, start, is_word_code}
use Rattle.word_code.proofs.NeverWrong.{run_right, word_step, formed_right, formed_steady}
use Rattle.word_code.proofs.laws.words.Goals as goal

pub returns-clause-steady : goal.returns-clause-steady
returns-clause-steady c = λ live code fresh heap stack input.
    formed_steady (is_word_code code) (behaviour (step_of live code.procs fresh) (0, start code heap stack input))
    (steady (step_of live code.procs fresh) (0, start code heap stack input))

pub returns-clause-right : goal.returns-clause-right
returns-clause-right c = λ live code fresh heap stack input n.
    formed_right (is_word_code code) (behaviour (step_of live code.procs fresh) (0, start code heap stack input)) n
    (run_right (step_of live code.procs fresh) (word_step live code.procs fresh) n (0, start code heap stack input) [] 0)

pub returns-clause-by_units : goal.returns-clause-by_units
returns-clause-by_units c = λ live code fresh heap stack input units.
    let first : ℕ × WordState = (0, record (start code heap stack input) { units = Some units }) in
    formed_steady (is_word_code code) (behaviour (step_of live code.procs fresh) first) (steady (step_of live code.procs fresh) first)

pub returns-clause-units_right : goal.returns-clause-units_right
returns-clause-units_right c = λ live code fresh heap stack input units n.
    let first : ℕ × WordState = (0, record (start code heap stack input) { units = Some units }) in
    formed_right (is_word_code code) (behaviour (step_of live code.procs fresh) first) n
    (run_right (step_of live code.procs fresh) (word_step live code.procs fresh) n first [] 0)
