-- Which program modules are, or why they are none.
--
--     modules ──IsProgram──> program          each list of modules is one program,
--         └─────IsNoProgram──> code and place  or is refused in one way
use Rattle.std.specs.Prelude.{◌≡◌, List, [], ◌∷◌, None, Ok}
use Rattle.arc_base.specs.declared.place.Place.{Place}
use Rattle.arc_base.specs.declared.place.Code.{Code}
use Rattle.arc_base.specs.Refusal.{IsRefusal}
use Rattle.nim_types.specs.Types.{Ty}
use Rattle.nim_program.specs.Program.{Program}
use Rattle.decl_rules.specs.State.{in_module, State, Stated, stated_as, and_more}
use Rattle.decl_rules.specs.Rules.{AreStated}
use Rattle.decl_rules.specs.Refusals.{AreNotStated}
use Rattle.decl_rules.specs.Whole.{text_rule}
use Rattle.decl_rules.specs.Elaborated.{Module, none_left_out, nothing_known, module_begins, program_of}

-- in the order in which their code runs
pub data AreModules : State → List Module → Stated → Type 0 where
  p_none : {st : State} → AreModules st [] (stated_as [] st)
  p_more : {st : State} {m : Module} {rest : List Module} {one more : Stated} → AreStated in_module None (module_begins st m.number) m.body one
      → AreModules one.state rest more → AreModules st (m ∷ rest) (and_more one more)

-- with any list of types by number
pub data IsProgram (types : List Ty) : List Module → Program → Type 0 where
  p_program : {all : List Module} {s : Stated} → none_left_out all ≡ Ok tt → AreModules nothing_known all s
      → text_rule s.state.procs s.state.text ≡ Ok tt → IsProgram types all (program_of types s)

pub data AreNoModules : State → List Module → Code → Place → Type 0 where
  f_module : {st : State} {m : Module} {rest : List Module} {c : Code} {p : Place}
      → AreNotStated in_module None (module_begins st m.number) m.body c p → AreNoModules st (m ∷ rest) c p
  f_modules : {st : State} {m : Module} {rest : List Module} {one : Stated} {c : Code} {p : Place}
      → AreStated in_module None (module_begins st m.number) m.body one → AreNoModules one.state rest c p → AreNoModules st (m ∷ rest) c p

-- A pass comes only where those before it found nothing.
pub data IsNoProgram : List Module → Code → Place → Type 0 where
  f_left_out : {all : List Module} {c : Code} {p : Place} → IsRefusal (none_left_out all) c p → IsNoProgram all c p
  f_program : {all : List Module} {c : Code} {p : Place} → none_left_out all ≡ Ok tt → AreNoModules nothing_known all c p → IsNoProgram all c p
  f_text : {all : List Module} {s : Stated} {c : Code} {p : Place} → none_left_out all ≡ Ok tt → AreModules nothing_known all s
      → IsRefusal (text_rule s.state.procs s.state.text) c p → IsNoProgram all c p
