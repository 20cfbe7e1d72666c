-- Code that moves values between variables and memory. Each piece of code stands before what follows. No public contract speaks of it.
use Rattle.std.specs.Prelude.{ℕ, zero, suc, ◌+◌, Bool, true, false, List, ◌∷◌}
use Rattle.rv32_isa.specs.declared.micro_op.Size.{Size}
use Rattle.rv32_isa.specs.declared.micro_op.Size.TheVariants.{Byte, Word as whole}
use Rattle.word_code.specs.declared.word.WordOperation.TheVariants as operation
use Rattle.word_code.specs.declared.word.Test.TheVariants as test
use Rattle.word_code.specs.declared.word.WordInstr.{WordInstr}
use Rattle.word_code.specs.declared.word.WordInstr.TheVariants.{Label, Constant, Copy, Compute, Place, Datum, Load, Store, Branch, Argument, Call}
use Rattle.word_lowering.specs.declared.homes.TheConstants.{FIRST, SECOND, THIRD, FOURTH, FIFTH}
use Rattle.word_lowering.specs.declared.homes.Home.{Home}
use Rattle.word_lowering.specs.declared.homes.Home.TheVariants.{Variable, Placed, Static}
use Rattle.word_lowering.specs.declared.homes.Housed.{Housed}
use Rattle.word_lowering.specs.declared.spots.Spot.{Spot}
use Rattle.word_lowering.specs.declared.spots.Spot.TheVariants.{Held, Lies, Letter}
use Rattle.word_code.specs.declared.routine.TheConstants.{COPY, CLEAR}
use Rattle.word_lowering.specs.Layouts.{holds_address}

-- A value is held by a variable, or lies in memory: at an address that a variable has, or where the place is. A character at an address may be one
-- of a text, which is a byte.
abbrev pub spot_by : (address letter : Bool) → Home → Spot
spot_by false letter (Variable v) = Held v
spot_by true true home = Letter home
spot_by address letter home = Lies home

abbrev pub spot_of : Housed → Spot
spot_of h = spot_by (holds_address h) h.is_letter h.home

abbrev pub home_in : Spot → Home
home_in (Held v) = Variable v
home_in (Lies home) = home
home_in (Letter home) = home

-- What is read or written there of a word. A character at an address is one of a text, or the first byte of a word whose others are 0.
abbrev pub size_in : Spot → Size
size_in (Letter home) = Byte
size_in spot = whole

-- so many bytes further
abbrev pub shifted : ℕ → Home → Home
shifted n (Variable v) = Variable v
shifted n (Placed at) = Placed (at + n)
shifted n (Static at) = Static (at + n)

-- a variable gets the address
abbrev pub address : (to : ℕ) → Home → WordInstr
address to (Variable v) = Copy to v
address to (Placed at) = Place to at
address to (Static at) = Datum to at

-- from the address in SECOND to that in FIRST: a word, or so many bytes by the routine
abbrev pub copied : (word : Bool) → (bytes : ℕ) → List WordInstr → List WordInstr
copied true bytes k = Load THIRD SECOND whole ∷ Store FIRST THIRD whole ∷ k
copied false bytes k = Constant THIRD bytes ∷ Argument 0 FIRST ∷ Argument 1 SECOND ∷ Argument 2 THIRD ∷ Call FIRST COPY ∷ k

abbrev pub moved : (word : Bool) → (bytes : ℕ) → (to from : Spot) → List WordInstr → List WordInstr
moved word bytes (Held v) (Held u) k = Copy v u ∷ k
moved word bytes (Held v) from k = address SECOND (home_in from) ∷ Load v SECOND (size_in from) ∷ k
moved word bytes to (Held u) k = address FIRST (home_in to) ∷ Store FIRST u (size_in to) ∷ k
moved word bytes (Lies to) (Lies from) k = address FIRST to ∷ address SECOND from ∷ copied word bytes k
moved word bytes to from k =
    address FIRST (home_in to) ∷ address SECOND (home_in from) ∷ Load THIRD SECOND (size_in from) ∷ Store FIRST THIRD (size_in to) ∷ k

-- one value to another place
abbrev pub moves : (to from : Housed) → List WordInstr → List WordInstr
moves to from k = moved from.is_word from.bytes (spot_of to) (spot_of from) k

-- the same of a value that is there
abbrev pub passes : (bytes : ℕ) → (to from : Housed) → List WordInstr → List WordInstr
passes zero to from k = k
passes (suc n) to from k = moves to from k

-- zeros at the address in FIRST
abbrev pub zeros : (word : Bool) → (bytes : ℕ) → List WordInstr → List WordInstr
zeros true bytes k = Constant SECOND 0 ∷ Store FIRST SECOND whole ∷ k
zeros false bytes k = Constant SECOND bytes ∷ Argument 0 FIRST ∷ Argument 1 SECOND ∷ Call FIRST CLEAR ∷ k

abbrev pub cleared : (word : Bool) → (bytes : ℕ) → Spot → List WordInstr → List WordInstr
cleared word bytes (Held v) k = Constant v 0 ∷ k
cleared word bytes (Lies to) k = address FIRST to ∷ zeros word bytes k
cleared word bytes (Letter to) k = address FIRST to ∷ Constant SECOND 0 ∷ Store FIRST SECOND Byte ∷ k

-- a value becomes that at which its type starts, whose words are all 0
abbrev pub clears : Housed → List WordInstr → List WordInstr
clears to k = cleared to.is_word to.bytes (spot_of to) k

-- the same of what is there
abbrev pub starts : (bytes : ℕ) → Housed → List WordInstr → List WordInstr
starts zero to k = k
starts (suc n) to k = clears to k

-- From an address to that in FIRST, word by word, with a label of its own. No routine is called, since that would lose the arguments
-- that were given so far.
abbrev pub copied_here : (label bytes : ℕ) → (from : Home) → List WordInstr → List WordInstr
copied_here label bytes from k =
    address SECOND from ∷ Constant THIRD bytes ∷ Compute THIRD operation.Add SECOND THIRD ∷ Constant FOURTH 4
    ∷ Label label
    ∷ Load FIFTH SECOND whole ∷ Store FIRST FIFTH whole
    ∷ Compute FIRST operation.Add FIRST FOURTH ∷ Compute SECOND operation.Add SECOND FOURTH
    ∷ Branch test.Unequal SECOND THIRD label
    ∷ k

-- a value to the address in FIRST
abbrev pub handed : (label bytes : ℕ) → Spot → List WordInstr → List WordInstr
handed label bytes (Held u) k = Store FIRST u whole ∷ k
handed label bytes (Lies from) k = copied_here label bytes from k
handed label bytes (Letter from) k = address SECOND from ∷ Load THIRD SECOND Byte ∷ Store FIRST THIRD whole ∷ k
