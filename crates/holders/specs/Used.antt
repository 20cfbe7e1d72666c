-- What is so of an expression's value, by its use.
use Rattle.std.specs.Prelude.{ℕ, Bool, false, true, List, ◌∷◌}
use Rattle.nim_types.specs.Forms.{Form}
use Rattle.nim_program.specs.Program.{Path, type_at, node_at}
use Rattle.nim_program.specs.declared.operation.Use.{Use}
use Rattle.nim_program.specs.declared.operation.Use.TheVariants.{Owned, Given, Held, Lent, Looked}
use Rattle.nim_meaning.specs.Values.{Value, Waiting, at_base}
use Rattle.nim_meaning.specs.State.{World}
use Rattle.nim_meaning.specs.Acts.{Does, ◌>>=◌}
use Rattle.nim_meaning.specs.Deeds as deeds
use Rattle.nim_meaning.specs.Deeds.{Deed}
use Rattle.nim_meaning.specs.Here.{Here}
use Rattle.nim_meaning.specs.Aims.{Aim, find}
use Rattle.nim_meaning.specs.Places.{kept}
use Rattle.nim_meaning.specs.Steps.{at_path, got}
use Rattle.holders.specs.Owned.{Constant, Has, IsBase}
use Rattle.holders.specs.Territory.{Owner}
use Rattle.holders.specs.Groups.{without_node}
use Rattle.holders.specs.Running.{Region}
use Rattle.holders.specs.Staging.{Stage, Holding}

-- it was read, and is nobody's
pub record ReadThere (f : Form) (v : Value) (r : Region) (ms gs : List Owner) (first places : ℕ) (nodes old : List ℕ) (start now : World) : Type 0 where
  pub stage : Stage r ms gs first places nodes old start now
  pub blocks : List ℕ
  pub has : Has now Constant f v blocks

-- it waits at a node
pub record WaitsThere (f : Form) (node : ℕ) (v : Value) (r : Region) (ms gs : List Owner) (first places : ℕ) (nodes old : List ℕ) (start now : World) :
    Type 0 where
  pub stage : Stage r (record { form = f; at = at_base (Waiting r.level node) } ∷ ms) gs first places (node ∷ without_node nodes node) old start now
  pub base : IsBase now (Waiting r.level node) v

-- A copy of what stands at a path, or what stands there, by what it is for.
abbrev pub Used : (hooked : Bool) → Use → (f : Form) (node : ℕ) (r : Region) (ms gs : List Owner) (first places : ℕ) (nodes old : List ℕ) (start : World) →
    Value → World → Type 0
Used false how f node r ms gs first places nodes old start v now = ReadThere f v r ms gs first places nodes old start now
Used true Looked f node r ms gs first places nodes old start v now = ReadThere f v r ms gs first places nodes old start now
Used true Owned f node r ms gs first places nodes old start v now = Holding f v r ms gs first places nodes old start now
Used true Given f node r ms gs first places nodes old start v now = Holding f v r ms gs first places nodes old start now
Used true Held f node r ms gs first places nodes old start v now = WaitsThere f node v r ms gs first places nodes old start now
Used true Lent f node r ms gs first places nodes old start v now = WaitsThere f node v r ms gs first places nodes old start now

-- what is left of reading a path where its indexes are evaluated
abbrev pub read_by : Here → Use → Path → Aim → Does Value
read_by here how path aim = find aim >>= (λ l. at_path path (got here how (node_at path).number (type_at path) l))

-- A value with blocks that an operation makes, and a literal.
abbrev pub Made : Use → (f : Form) (node : ℕ) (r : Region) (ms gs : List Owner) (first places : ℕ) (nodes old : List ℕ) (start : World) →
    Value → World → Type 0
Made Owned f node r ms gs first places nodes old start v now = Holding f v r ms gs first places nodes old start now
Made Given f node r ms gs first places nodes old start v now = Holding f v r ms gs first places nodes old start now
Made Held f node r ms gs first places nodes old start v now = WaitsThere f node v r ms gs first places nodes old start now
Made Lent f node r ms gs first places nodes old start v now = WaitsThere f node v r ms gs first places nodes old start now
Made Looked f node r ms gs first places nodes old start v now = WaitsThere f node v r ms gs first places nodes old start now

abbrev pub Literal : Use → (f : Form) (node : ℕ) (r : Region) (ms gs : List Owner) (first places : ℕ) (nodes old : List ℕ) (start : World) →
    Value → World → Type 0
Literal Lent f node r ms gs first places nodes old start v now = ReadThere f v r ms gs first places nodes old start now
Literal Looked f node r ms gs first places nodes old start v now = ReadThere f v r ms gs first places nodes old start now
Literal Owned f node r ms gs first places nodes old start v now = Holding f v r ms gs first places nodes old start now
Literal Given f node r ms gs first places nodes old start v now = Holding f v r ms gs first places nodes old start now
Literal Held f node r ms gs first places nodes old start v now = WaitsThere f node v r ms gs first places nodes old start now

-- what a node's row gives, with blocks
abbrev pub used_as : Use → (level node : ℕ) → Deed Value → Deed Value
used_as how level node deed = deeds.◌>>=◌ deed (kept (record { how = how; level = level; node = node }))
