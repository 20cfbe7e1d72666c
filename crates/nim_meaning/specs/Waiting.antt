-- Which values of a part wait: those of nodes that an operation takes or reads when all its operands are there, and that end with the group in which
-- they stand unless an operation took them.
use Rattle.std.specs.Prelude.{ℕ, suc, Bool, true, false, ◌&&◌, ◌||◌, List, [], ◌∷◌, ◌++◌, Option}
use Rattle.nim_types.specs.Types.{Ty, Facts}
use Rattle.nim_types.specs.Forms.{Form}
use Rattle.nim_program.specs.declared.operation.Use.{Use}
use Rattle.nim_program.specs.declared.operation.Use.TheVariants.{Owned, Looked}
use Rattle.nim_program.specs.declared.program.Mode.{Mode}
use Rattle.nim_program.specs.Program.{ByConditions, ByLabels, Expr, Apply, Read, Early, Choose, Path, Variable, Fresh, Field, Element, Deref, Args, NoArg}
use Rattle.nim_program.specs.Program.{ByValue, ByPath, type_of, type_at, node_of, node_at, constant_in}
use Rattle.nim_program.specs.Folds.{by_constant}
use Rattle.nim_program.specs.Uses.{use_of}
use Rattle.nim_meaning.specs.Shapes.{is_read, is_held, is_lent, waits, waits_from}
use Rattle.nim_meaning.specs.Here.{gives_hooked, form_for}

-- a value that waits at a node, its type, and what it looks like
pub record Wait : Type 0 where
  pub node : ℕ
  pub of : Option Ty
  pub form : Form

abbrev pub nodes_of : List Wait → List ℕ
nodes_of [] = []
nodes_of (w ∷ ws) = w.node ∷ nodes_of ws

abbrev pub wait_if : Bool → ℕ → Option Ty → Form → List Wait
wait_if true node ty f = record { node = node; of = ty; form = f } ∷ []
wait_if false node ty f = []

abbrev pub held_if : Bool → ℕ → List ℕ → List ℕ
held_if true node rest = node ∷ rest
held_if false node rest = rest

-- the copy of a path that is read waits where it is held or lent
abbrev pub reads_kept : Use → Bool
reads_kept how = is_held how || is_lent how

-- the modes are those of parameters to the callers
module _ (facts : Facts) (modes : (proc position : ℕ) → Mode) where
  -- that of a node of its own, where it has hooks
  abbrev pub own_wait : Bool → ℕ → Option Ty → List Wait
  own_wait waits node ty = wait_if (gives_hooked facts ty && waits) node ty (form_for facts ty)

  -- In the order in which they are made. Conditions and branches are groups of their own.
  abbrev mutual
    pub waiting : Expr → Use → List Wait
    waiting (Apply node ty act operands) how = waiting_all operands (use_of modes act) 0 ++ own_wait (waits_from act how) node.number ty
    waiting (Read path) how = waiting_at path ++ own_wait (is_read (Read path) && reads_kept how) (node_at path).number (type_at path)
    waiting (Early node ty short left right) how = waiting left Owned ++ waiting right Owned
    waiting (Choose node ty ByConditions parts) how = own_wait (waits how) node.number ty
    waiting (Choose node ty (ByLabels labels) parts) how = waiting_first parts ++ own_wait (waits how) node.number ty

    pub waiting_at : Path → List Wait
    waiting_at (Variable node ty place global) = []
    waiting_at (Fresh value) = by_constant (constant_in value) (λ literal. []) (waiting value Looked)
    waiting_at (Field node ty base field) = waiting_at base
    waiting_at (Element node ty base index constant) = waiting_at base ++ waiting index Owned
    waiting_at (Deref ty base) = waiting_at base

    pub waiting_all : Args → (uses : (position : ℕ) → Use) → (position : ℕ) → List Wait
    waiting_all NoArg uses i = []
    waiting_all (ByValue value rest) uses i = waiting value (uses i) ++ waiting_all rest uses (suc i)
    waiting_all (ByPath path rest) uses i = waiting_at path ++ waiting_all rest uses (suc i)

    -- of a selector
    pub waiting_first : Args → List Wait
    waiting_first NoArg = []
    waiting_first (ByValue value rest) = waiting value Looked
    waiting_first (ByPath path rest) = waiting_at path

  -- the nodes of operands that an operation takes
  abbrev pub held_from : Args → (uses : (position : ℕ) → Use) → (position : ℕ) → List ℕ
  held_from NoArg uses i = []
  held_from (ByValue value rest) uses i = held_if (gives_hooked facts (type_of value) && is_held (uses i)) (node_of value).number (held_from rest uses (suc i))
  held_from (ByPath path rest) uses i = held_from rest uses (suc i)
