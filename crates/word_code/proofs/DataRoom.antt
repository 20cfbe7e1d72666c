-- The data of procedures that another code stands before.
use Rattle.std.proofs.Common.{ℕ, zero, suc, ◌+◌, ◌≤◌, ◌<◌, List, [], ◌∷◌, length, get_or, arith}
use Rattle.word_code.specs.declared.word.WordProc.{WordProc}
use Rattle.word_code.specs.Joined.{HaveRoom}
use Rattle.word_code.specs.Runtime.{AreRoutines}

pub room_of_one : (n : ℕ) (procs : List WordProc) (i : ℕ) (none : WordProc) → HaveRoom n procs → i < length procs
    → n + (get_or procs i none).data_from ≤ 4294967295
room_of_one n [] i none room e = absurd (omega (arith, e))
room_of_one n (p ∷ procs) zero none room e = room.0
room_of_one n (p ∷ procs) (suc i) none room e = room_of_one n procs i none room.1 (omega (arith, e))

-- routines have all data of their runtime
pub routines_room : (n : ℕ) (procs : List WordProc) → AreRoutines procs → n ≤ 4294967295 → HaveRoom n procs
routines_room n [] routines small = tt
routines_room n (p ∷ procs) routines small = (let e = routines.0.whole_data in omega (arith, e, small), routines_room n procs routines.1 small)
