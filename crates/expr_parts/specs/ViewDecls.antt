-- Where the declarations of a name stand, and how they are found by slots. What is public here says which number a look-up
-- answers; slots serve the invariant of `Decls` alone.
use Rattle.std.specs.Prelude.{◌≡◌, ℕ, zero, suc, ◌+◌, ◌*◌, ◌%◌, ◌<◌, ◌^◌, Bool, false, ◌||◌, nat_eq, if◌then◌else◌}
use Rattle.std.specs.Prelude.{List, [], ◌∷◌, length, slice_get, Option, Some, None}
use Rattle.std.specs.Option.{option_flatten}
use Rattle.nim_types.specs.Types.{same_text}
use Rattle.expr_parts.specs.declared.scope.Procedure.{Procedure}
use Rattle.expr_parts.specs.declared.scope.What.{What}
use Rattle.expr_parts.specs.declared.scope.What.TheVariants as what
use Rattle.expr_parts.specs.declared.scope.Decl.{Decl}
use Rattle.expr_parts.specs.declared.slots.TheConstants.{SLOTS}

-- ---- the last number below another at which a test holds

abbrev pub last_below : (ℕ → Bool) → ℕ → Option ℕ
last_below holds zero = None
last_below holds (suc n) = if holds n then Some n else last_below holds n

abbrev pub has_name : List ℕ → Option Decl → Bool
has_name x None = false
has_name x (Some d) = same_text x d.name

abbrev pub is_named : List Decl → List ℕ → ℕ → Bool
is_named ds x i = has_name x (slice_get ds i)

-- the number of the last declaration of a name among the first n
abbrev pub last_of : List Decl → List ℕ → ℕ → Option ℕ
last_of ds x n = last_below (is_named ds x) n

-- whether a name, in normal form, is declared
abbrev pub declares : List ℕ → List Decl → Bool
declares x [] = false
declares x (d ∷ rest) = same_text x d.name || declares x rest

-- the procedure that is declared
abbrev pub procedure_in : What → Option Procedure
procedure_in (what.Procedure p) = Some p
procedure_in _ = None

-- with another meaning of the declaration at a number
abbrev pub mended : List Decl → ℕ → What → List Decl
mended [] i w = []
mended (d ∷ ds) zero w = record { name = d.name; what = w } ∷ ds
mended (d ∷ ds) (suc i) w = d ∷ mended ds i w

-- ---- the slot of a name, where its declarations are looked for

abbrev pub mixed : ℕ → ℕ → ℕ
mixed number byte = (number * 31 + byte) % SLOTS

abbrev pub slot_behind : ℕ → List ℕ → ℕ
slot_behind number [] = number
slot_behind number (b ∷ rest) = slot_behind (mixed number b) rest

abbrev pub slot : List ℕ → ℕ
slot x = slot_behind 0 x

abbrev pub has_slot : ℕ → Option Decl → Bool
has_slot s None = false
has_slot s (Some d) = nat_eq s (slot d.name)

abbrev pub in_slot : List Decl → ℕ → ℕ → Bool
in_slot ds s i = has_slot s (slice_get ds i)

-- what stands at a number, None too where it is beyond the list
abbrev pub at_number : List (Option ℕ) → ℕ → Option ℕ
at_number xs i = option_flatten (slice_get xs i)

-- beside each declaration the one before it in its slot
pub record AreBefore (ds : List Decl) (befores : List (Option ℕ)) : Type 0 where
  pub beside : length befores ≡ length ds
  pub all : (i : ℕ) (d : Decl) → slice_get ds i ≡ Some d → at_number befores i ≡ last_below (in_slot ds (slot d.name)) i

-- and the last one of each slot
pub record IsIndexed (ds : List Decl) (lasts befores : List (Option ℕ)) : Type 0 where
  pub small : length ds < 2 ^ 32
  pub slots : length lasts ≡ SLOTS
  pub by_slot : (s : ℕ) → s < SLOTS → at_number lasts s ≡ last_below (in_slot ds s) (length ds)
  pub chains : AreBefore ds befores
