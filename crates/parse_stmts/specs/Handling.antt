-- Handlers of a `try`, and whether something is there.
use Rattle.std.specs.Prelude.{Bool, true, false, List, [], ◌∷◌, Option}
use Rattle.arc_base.specs.declared.place.Place.{Place}
use Rattle.nim_tree.specs.declared.name.Name.{Name}
use Rattle.nim_tree.specs.Statements.{Statements, empty, then as next, Handlers, no_handlers, handler, and_handler}

abbrev pub are_some : List Name → Bool
are_some [] = false
are_some (name ∷ names) = true

-- a handler, but for its place
pub record Caught : Type 0 where
  pub names : List Name
  pub binding : Option Name
  pub body : Statements

-- with one more handler
abbrev pub and_caught : Handlers → Place → Caught → Handlers
and_caught some at one = and_handler some at one.names one.binding one.body

abbrev pub have_some : Handlers → Bool
have_some no_handlers = false
have_some (handler at names binding body rest) = true

abbrev pub hold_some : Statements → Bool
hold_some empty = false
hold_some (next first rest) = true
