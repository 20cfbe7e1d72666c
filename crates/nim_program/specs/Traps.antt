-- What ends a run at once.
use Rattle.std.specs.Prelude.{ℕ, List, codes}

pub data Trap : Type 0 where
  Overflow DivisionByZero IndexOutOfBounds OutOfRange NilDereference LengthChanged CallDepth OutOfMemory : Trap

-- the line that it writes, without its end
abbrev pub trap_text : Trap → List ℕ
trap_text Overflow = codes "Error: overflow"
trap_text DivisionByZero = codes "Error: division by zero"
trap_text IndexOutOfBounds = codes "Error: index out of bounds"
trap_text OutOfRange = codes "Error: value out of range"
trap_text NilDereference = codes "Error: nil dereference"
trap_text LengthChanged = codes "Error: length changed"
trap_text CallDepth = codes "Error: call depth limit"
trap_text OutOfMemory = codes "Error: out of memory"
