-- What is handed on as flat code is the flat code of the program.
use Rattle.std.proofs.Common.{◌≡◌, ℕ, true, List, [], ◌∷◌, ◌++◌, Option, Some, None, refl, ap, ap₂, ◌∙◌}
use Rattle.std.specs.Prelude.{map, not, ◌&&◌}
use Rattle.std.proofs.lemmas.Bool.{and_parts}
use Rattle.nim_plan.specs.declared.plan.Plan.{Plan}
use Rattle.nim_types.specs.Types.{Ty, Facts}
use Rattle.nim_program.specs.declared.program.HookOf.{HookOf}
use Rattle.nim_program.specs.declared.program.Mode.{Mode}
use Rattle.nim_program.specs.Kinds.{are_among_types, are_declared, is_there}
use Rattle.nim_program.specs.Program.{Declared, Param, Body, Proc, Program}
use Rattle.nim_program.specs.Folds.{if_declared}
use Rattle.nim_program.specs.Typed.{IsTyped, body_types, type_of_place, dest_of, is_typed_if, hook_fits, is_typed_proc, are_typed_procs, is_typed_start}
use Rattle.nim_meaning.specs.Meaning.{result_slots}
use Rattle.nim_meaning.specs.Values.{default_of, Slot, Holds}
use Rattle.flat_code.specs.declared.place.PlaceKind.{PlaceKind}
use Rattle.flat_code.specs.declared.place.PlaceKind.TheVariants as K
use Rattle.flat_code.specs.declared.place.FlatPlace.{FlatPlace}
use Rattle.flat_code.specs.Codes.{if_result, result_in, waiting_in, proc_of, procs_of}
use Rattle.flattening.specs.Flattened.{known_of, modes_of, code_of_proc, code_of_body, code_of}
use Rattle.flattening.specs.Formed.{IsListed}
use Rattle.flattening.specs.Given.{flat_body, flat_proc, flat_of}
use Rattle.flattening.specs.Places.{param_places, result_places}
use Rattle.flattening.proofs.FitBodies as bodies
use Rattle.flattening.proofs.FitBodies.{is_other, Others}
use Rattle.flattening.proofs.FitParts.{never}
use Rattle.flattening.proofs.DeclaredGlobals.{body_listed}
use Rattle.flattening.proofs.Parts.{Each}

no_slot : (kind : PlaceKind) (slots rest : List Slot) → is_other kind ≡ true → if_result kind slots rest ≡ rest
no_slot (K.Param mode) slots rest h = never h
no_slot K.Result slots rest h = never h
no_slot kind slots rest h = refl

map_both : {A B : Type 0} (f : A → B) (xs ys : List A) → map f (xs ++ ys) ≡ map f xs ++ map f ys
map_both f [] ys = refl
map_both f (x ∷ xs) ys = ap (λ zs. f x ∷ zs) (map_both f xs ys)

module _ (program : Program) (plan : Plan) where
  abbrev types : List Ty
  types = program.types

  abbrev facts : Facts
  facts = program.facts

  abbrev modes : (proc position : ℕ) → Mode
  modes = modes_of program plan

  slots_none : (ps : List FlatPlace) → Others ps → result_in (known_of program) ps ≡ []
  slots_none [] h = refl
  slots_none (p ∷ ps) h = no_slot p.kind _ (result_in (known_of program) ps) h.0 ∙ slots_none ps h.1

  -- the slot of the result
  slots : (params : List Param) (result : Option Declared) (others : List FlatPlace) → Others others →
      Each (λ (d : Declared). IsListed program.types d.of) (if_declared result) →
      result_in (known_of program) (param_places types facts modes plan.sinks params ++ (result_places types facts modes result ++ others))
      ≡ result_slots program.facts result
  slots [] None others h listed = slots_none others h
  slots [] (Some d) others h listed = ap (λ ty. Holds (default_of program.facts ty) ∷ []) listed.0
  slots (p ∷ params) result others h listed = slots params result others h listed

  body_given : (hook : Option HookOf) (params : List Param) (body : Body) → are_among_types program.types (body_types params body) ≡ true →
      proc_of (known_of program) (flat_body program plan hook params body) ≡ code_of_body program plan hook params body
  body_given hook params body h =
      let l = body_listed program plan params body h in
      ap (λ result. record {
        first = body.first;
        span = body.places;
        result = result;
        waits = waiting_in (flat_body program plan hook params body).places;
        hook = hook;
        lines = (flat_body program plan hook params body).lines;
      })
      (slots params body.result _ (bodies.others types facts modes plan.sinks program.globals params body) l.given)

  procs_given : (procs : List Proc) → are_typed_procs program procs ≡ true →
      map (proc_of (known_of program)) (map (λ (p : Proc). flat_proc program plan p.hook p.params p.body) procs)
      ≡ map (λ (p : Proc). code_of_proc program plan p.hook p.params p.body) procs
  procs_given [] h = refl
  procs_given (p ∷ procs) h =
      let q = and_parts (is_typed_proc program p) (are_typed_procs program procs) h in
      ap₂ (λ x xs. x ∷ xs) (one p.body (and_parts (hook_fits program p.hook p.params p.gives p.body) _ q.0).1) (procs_given procs q.1)
    where
      one : (body : Option Body) → is_typed_if program (dest_of p.hook p.params) p.params p.gives body ≡ true →
          proc_of (known_of program) (flat_proc program plan p.hook p.params body) ≡ code_of_proc program plan p.hook p.params body
      one None h = refl
      one (Some body) h =
          let t = (and_parts (are_among_types program.types (body_types p.params body) && _) _ h).0 in
          body_given p.hook p.params body (and_parts (are_among_types program.types (body_types p.params body)) _ t).0

  pub code_given : IsTyped program → procs_of (known_of program) (flat_of program plan) ≡ code_of program plan
  code_given typed =
      let t = and_parts (are_typed_procs program program.procs) (is_typed_start program program.start)
      (and_parts (are_declared program.facts program.types) _ typed.typed).1 in
      let s = (and_parts (are_among_types program.types (body_types [] program.start) && not (is_there (type_of_place program.start.result))) _ t.1).0 in
      map_both (proc_of (known_of program)) (map (λ (p : Proc). flat_proc program plan p.hook p.params p.body) program.procs)
      (flat_body program plan None [] program.start ∷ [])
      ∙ ap₂ (λ xs x. xs ++ x ∷ []) (procs_given program.procs t.0)
      (body_given None [] program.start (and_parts (are_among_types program.types (body_types [] program.start)) _ s).0)
