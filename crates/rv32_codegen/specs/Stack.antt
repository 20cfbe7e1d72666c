-- The stack: places of calls, from where it begins on, and frames of calls, down from its end.
--
-- What a call takes of it is its frame with the room of its places, whichever end they come from. For each of the calls that may be active and
-- count it holds what the largest procedure takes, and what the longest chain of calls of procedures that don't count takes. So at each moment
-- the places and the frames of all active calls have no byte in common. The arguments of one more call have room between them.
use Rattle.std.specs.Prelude.{ℕ, ◌+◌, ◌*◌, ◌/◌, max, ◌==◌, if◌then◌else◌, List, [], ◌∷◌}
use Rattle.word_code.specs.declared.word.TheConstants.{MOST_ARGUMENTS, SPARE_ROOM}
use Rattle.word_code.specs.declared.word.WordProc.{WordProc}
use Rattle.word_code.specs.Words.{most_calls, longest}
use Rattle.reg_scan.specs.declared.homes.Homes.{Homes}

-- ---- one call

-- the bytes of the frame of the first procedure of that number
abbrev pub frame_for : List WordProc → List Homes → (number : ℕ) → ℕ
frame_for [] homes number = 0
frame_for (p ∷ procs) [] number = 0
frame_for (p ∷ procs) (h ∷ homes) number = if p.number == number then h.frame else frame_for procs homes number

-- those that a call of a procedure takes
abbrev pub call_size : List WordProc → List Homes → WordProc → ℕ
call_size procs homes p = frame_for procs homes p.number + p.room

-- the most that a call takes
abbrev pub most_size : List WordProc → List Homes → ℕ
most_size [] homes = 0
most_size (p ∷ procs) [] = 0
most_size (p ∷ procs) (h ∷ homes) = max (h.frame + p.room) (most_size procs homes)

-- ---- all calls

-- a call that counts, and all that don't count which may be active until the next one that does
abbrev pub counted_size : List WordProc → List Homes → ℕ
counted_size procs homes = most_size procs homes + longest procs (call_size procs homes)

-- those of all calls that may be active, and the arguments of one more, up to a multiple of 16
abbrev pub stack_need : List WordProc → List Homes → ℕ
stack_need procs homes = (most_calls * counted_size procs homes + (SPARE_ROOM + 4 * MOST_ARGUMENTS) + 15) / 16 * 16
