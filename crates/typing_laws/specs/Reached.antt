-- States that the rules reach: before all modules, where a module begins, and behind each statement of its code.
use Rattle.std.specs.Prelude.{◌≡◌, ℕ, true, None, Ok}
use Rattle.nim_tree.specs.Statements.{Statement}
use Rattle.decl_rules.specs.State.{State, Stated, in_module, noting}
use Rattle.decl_rules.specs.Stated.{stated}
use Rattle.decl_rules.specs.Elaborated.{nothing_known, module_begins}

pub data IsReached : State → Type 0 where
  before_all : IsReached nothing_known
  in_another : {st : State} (number : ℕ) → IsReached st → IsReached (module_begins st number)
  behind_one : {st : State} {x : Stated} (s : Statement) → IsReached st → stated in_module None st s ≡ Ok x → IsReached (noting true x)
