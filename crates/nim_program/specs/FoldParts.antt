-- What folds are of a part alone, as the code tells it for each part that it folds, and of one with its parts.
use Rattle.std.specs.Prelude.{Bool, true, false, [], ◌∷◌, Option, Some, None}
use Rattle.nim_program.specs.Program.{Expr, Apply, Read, Early, Choose, Path, Variable, Fresh, Field, Element, Deref, is_written, constant_in}
use Rattle.nim_program.specs.Program.{Stmt, Do, Idle, Give, Leave, Select, Loop, Raise, Try, Stmts, Empty, Then, Declare, Defer}
use Rattle.nim_program.specs.Folds.{Seen, Sum, Named, ToField, ToElement, ToObject, Acting, Stopping, Choosing, Leading, Stating}
use Rattle.nim_program.specs.Folds.{Declaring, Looping, valued, stated, led, loop_places, looked_type, is_headed, if_constant, begun_by, total, total_at}
use Rattle.nim_program.specs.Folds.{totals}

-- ---- a part alone, none of one that is seen by its parts

abbrev pub seen_of : Expr → Option Seen
seen_of (Apply node ty act operands) = Some (valued node ty (Acting act))
seen_of (Read path) = None
seen_of (Early node ty short left right) = Some (valued node (Some ty) (Stopping short))
seen_of (Choose node ty chooser parts) = Some (valued node ty (Choosing chooser (looked_type chooser parts)))

abbrev pub seen_at : (read : Bool) → Path → Seen
seen_at read (Variable node ty place global) = valued node (Some ty) (Leading read true (Named place global))
seen_at read (Fresh value) = begun_by (constant_in value) read value
seen_at read (Field node ty base field) = valued node (Some ty) (Leading read (is_written base) (ToField field))
seen_at read (Element node ty base index constant) = valued node (Some ty) (Leading read (is_written base) (ToElement constant))
seen_at read (Deref ty base) = led (Some ty) read true ToObject

abbrev pub seen_in : Stmt → Option Seen
seen_in (Do value) = None
seen_in (Idle node parts) = Some (stated node [] Stating)
seen_in (Give node back value) = Some (stated node [] Stating)
seen_in (Leave node leaving parts) = Some (stated node [] Stating)
seen_in (Select node chooser tests blocks) = Some (stated node [] (Choosing chooser (looked_type chooser tests)))
seen_in (Loop node kind head body) = Some (stated node (loop_places kind) (Looping kind (is_headed head)))
seen_in (Raise node exception message) = Some (stated node [] Stating)
seen_in (Try node body handlers last) = Some (stated node [] Stating)

-- the first statement of a block
abbrev pub seen_first : Stmts → Option Seen
seen_first Empty = None
seen_first (Then first rest) = seen_in first
seen_first (Declare node place cursor value rest) = Some (stated node (place ∷ []) (Declaring cursor))
seen_first (Defer node last rest) = Some (stated node [] Stating)

module _ {A : Type 0} (sum : Sum A) (own : Seen → A) where
  abbrev pub own_if : Option Seen → A
  own_if None = sum.none
  own_if (Some seen) = own seen

  -- ---- a part that is this alone, with its parts

  abbrev pub with_parts : A → Expr → A
  with_parts a (Apply node ty act operands) = sum.plus a (totals sum own operands)
  with_parts a (Read path) = total_at sum own true path
  with_parts a (Early node ty short left right) = sum.plus a (sum.plus (total sum own left) (total sum own right))
  with_parts a (Choose node ty chooser parts) = sum.plus a (totals sum own parts)

  abbrev pub with_base : (read : Bool) → A → Path → A
  with_base read a (Variable node ty place global) = a
  with_base read a (Fresh value) = if_constant (constant_in value) a (sum.plus a (total sum own value))
  with_base read a (Field node ty base field) = sum.plus a (total_at sum own false base)
  with_base read a (Element node ty base index constant) = sum.plus a (sum.plus (total_at sum own false base) (total sum own index))
  with_base read a (Deref ty base) = sum.plus a (total_at sum own false base)
