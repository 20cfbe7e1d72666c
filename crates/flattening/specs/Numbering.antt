-- The numbers of flat code: of types, of temporaries and of labels.
use Rattle.std.specs.Prelude.{ℕ, zero, suc, ◌+◌, ◌*◌, Bool, true, false, if◌then◌else◌, List, [], ◌∷◌, length, Option, Some, None}
use Rattle.nim_types.specs.Types.{Ty, same}
use Rattle.nim_program.specs.Program.{Chooser, ByConditions, ByLabels, Expr, Path, Args, ByPath, type_at, Kind, While, Count, Each, Stmt, Stmts}
use Rattle.nim_program.specs.Folds.{Part, Leading, Choosing, Looping, Seen, numbers, total, total_at, totals, total_in, total_of}
use Rattle.flattening.specs.declared.numbers.Purpose.{Purpose}
use Rattle.flattening.specs.declared.numbers.Purpose.TheVariants.{Arm, End, Next, Turn}
use Rattle.flattening.specs.declared.numbers.TheConstants.{PURPOSES}

-- the number of a type among those of the table, and of one that isn't there how many there are
abbrev pub type_number : List Ty → Ty → ℕ
type_number [] ty = zero
type_number (t ∷ ts) ty = if same t ty then zero else suc (type_number ts ty)

-- where there is none, any number
abbrev pub number_or : List Ty → Option Ty → ℕ
number_or ts None = zero
number_or ts (Some ty) = type_number ts ty

abbrev pub if_number : List Ty → Option Ty → Option ℕ
if_number ts None = None
if_number ts (Some ty) = Some (type_number ts ty)

abbrev pub all_numbers : List Ty → List (Option Ty) → List (Option ℕ)
all_numbers ts [] = []
all_numbers ts (ty ∷ tys) = if_number ts ty ∷ all_numbers ts tys

-- ---- temporaries: each part of a body has numbers of its own, one after another in order of text, the first for its node

-- one for the label of each arm
abbrev pub arm_count : Chooser → ℕ
arm_count ByConditions = 0
arm_count (ByLabels labels) = length labels

-- the value of a selector that is read in place
abbrev pub looked_count : Option Ty → ℕ
looked_count None = 0
looked_count (Some ty) = 1

-- a loop over elements has two more: its number, and how many elements there are
abbrev pub loop_count : Kind → ℕ
loop_count While = 0
loop_count (Count variable inclusive) = 0
loop_count (Each variable) = 2

-- what is read at a path has a number of its own, beside that of where the path leads
abbrev pub read_count : (read : Bool) → ℕ
read_count false = 0
read_count true = 1

abbrev pub part_width : Part → ℕ
part_width (Leading read written step) = suc (read_count read)
part_width (Choosing chooser looked) = suc (arm_count chooser + looked_count looked)
part_width (Looping kind headed) = suc (loop_count kind)
part_width part = 1

abbrev pub own_width : Seen → ℕ
own_width seen = part_width seen.part

abbrev pub width : Expr → ℕ
width = total numbers own_width

abbrev pub width_at : Path → ℕ
width_at path = total_at numbers own_width false path

abbrev pub widths : Args → ℕ
widths = totals numbers own_width

-- Where the path of a selector begins that is read in place, behind the number of its value; where any selector begins; and what comes behind it.
abbrev pub looked_from : Path → (s : ℕ) → ℕ
looked_from path s = s + looked_count (type_at path)

abbrev pub selector_from : Args → (s : ℕ) → ℕ
selector_from (ByPath path rest) s = looked_from path s
selector_from parts s = s

abbrev pub behind_selector : Args → (s : ℕ) → ℕ
behind_selector parts s = selector_from parts s + widths parts

abbrev pub width_in : Stmt → ℕ
width_in = total_in numbers own_width

abbrev pub width_of : Stmts → ℕ
width_of = total_of numbers own_width

-- ---- labels: a temporary's number has a label for each purpose

abbrev pub purpose_number : Purpose → ℕ
purpose_number Arm = 0
purpose_number End = 1
purpose_number Next = 2
purpose_number Turn = 3

abbrev pub label : Purpose → ℕ → ℕ
label purpose t = PURPOSES * t + purpose_number purpose
