-- Programs: what is computed is what the rules say, and back.
use Rattle.std.proofs.Common.{◌≡◌, List, [], ◌∷◌, refl}
use Rattle.std.specs.Prelude.{None, Ok}
use Rattle.arc_base.specs.declared.place.Place.{Place}
use Rattle.arc_base.specs.declared.place.Code.{Code}
use Rattle.arc_base.specs.Refusal.{IsRefusal}
use Rattle.nim_types.specs.Types.{Ty}
use Rattle.nim_program.specs.Program.{Program}
use Rattle.expr_rules.specs.Answers.{Answer}
use Rattle.decl_rules.specs.State.{in_module, State, Stated}
use Rattle.decl_rules.specs.Elaborated.{Module, nothing_known, module_begins, modules_stated, elaborated}
use Rattle.decl_rules.specs.ProgramRules as P
use Rattle.decl_rules.specs.ProgramRules.{AreModules, IsProgram, AreNoModules, IsNoProgram}
use Rattle.decl_rules.proofs.Means.{Means, m_ok, means_then, itself, bind_ok, bind_err}
use Rattle.decl_rules.proofs.Values.{Below}
use Rattle.decl_rules.proofs.Statements.{all_stated_sound}
use Rattle.decl_rules.proofs.Complete.{all_stated_complete, none_stated_complete}

abbrev pub ModulesSo : State → List Module → Answer Stated → Type 0
ModulesSo st all = Means (λ s. AreModules st all s) (λ c p. AreNoModules st all c p)

pub modules_sound : Below → (st : State) (all : List Module) → ModulesSo st all (modules_stated st all)
modules_sound l st [] = m_ok P.p_none
modules_sound l st (m ∷ rest) =
    means_then (all_stated_sound l in_module None (module_begins st m.number) m.body)
    (λ one h. means_then (modules_sound l one.state rest) (λ more k. m_ok (P.p_more h k)) (λ c p r. P.f_modules h r)) (λ c p r. P.f_module r)

pub modules_complete : Below → {st : State} {all : List Module} {s : Stated} → AreModules st all s → modules_stated st all ≡ Ok s
modules_complete l P.p_none = refl
modules_complete l (P.p_more h k) = bind_ok _ (all_stated_complete l h) (bind_ok _ (modules_complete l k) refl)

pub no_modules_complete : Below → {st : State} {all : List Module} {c : Code} {p : Place} → AreNoModules st all c p
    → IsRefusal (modules_stated st all) c p
no_modules_complete l (P.f_module w) = bind_err _ (none_stated_complete l w)
no_modules_complete l (P.f_modules h w) = bind_ok _ (all_stated_complete l h) (bind_err _ (no_modules_complete l w))

abbrev pub ProgramSo : List Ty → List Module → Answer Program → Type 0
ProgramSo types all = Means (λ program. IsProgram types all program) (λ c p. IsNoProgram all c p)

pub program_sound : Below → (types : List Ty) (all : List Module) → ProgramSo types all (elaborated types all)
program_sound l types all =
    means_then (itself _)
    (λ _ e. means_then (modules_sound l nothing_known all)
    (λ s h. means_then (itself _) (λ _ f. m_ok (P.p_program e h f)) (λ c p r. P.f_text e h r)) (λ c p r. P.f_program e r)) (λ c p r. P.f_left_out r)

pub program_complete : Below → {types : List Ty} {all : List Module} {program : Program} → IsProgram types all program
    → elaborated types all ≡ Ok program
program_complete l (P.p_program e h f) = bind_ok _ e (bind_ok _ (modules_complete l h) (bind_ok _ f refl))

pub no_program_complete : Below → (types : List Ty) {all : List Module} {c : Code} {p : Place} → IsNoProgram all c p
    → IsRefusal (elaborated types all) c p
no_program_complete l types (P.f_left_out r) = bind_err _ r
no_program_complete l types (P.f_program e w) = bind_ok _ e (bind_err _ (no_modules_complete l w))
no_program_complete l types (P.f_text e h r) = bind_ok _ e (bind_ok _ (modules_complete l h) (bind_err _ r))
