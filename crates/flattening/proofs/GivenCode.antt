-- The flat code that is given, as the code that the laws speak of.
use Rattle.std.proofs.Common.{◌≡◌, ℕ, Bool, List, [], ◌∷◌, ◌++◌, Option, Some, None, refl, sym, ap, ap₂, ◌∙◌}
use Rattle.std.proofs.Math.Path.{fun_ext}
use Rattle.std.specs.Prelude.{map, option_map}
use Rattle.std.proofs.lemmas.List.{map-append}
use Rattle.nim_types.specs.Types.{Ty, Facts}
use Rattle.nim_types.specs.Table.{type_at}
use Rattle.nim_plan.specs.declared.plan.Plan.{Plan}
use Rattle.nim_program.specs.declared.program.HookOf.{HookOf}
use Rattle.nim_program.specs.declared.program.Mode.{Mode}
use Rattle.nim_program.specs.declared.program.Body.{Body as RustBody}
use Rattle.nim_program.specs.declared.program.Proc.{Proc as RustProc}
use Rattle.nim_program.specs.declared.program.Program.{Program as RustProgram}
use Rattle.nim_program.specs.declared.stmt.PlaceDecl.{PlaceDecl}
use Rattle.nim_program.specs.Program.{Declared, Param, Body, Program}
use Rattle.nim_program.specs.Program as trees
use Rattle.nim_program.specs.Sizes.{is_global}
use Rattle.nim_program.specs.View.{declared_of, param_of, body_of, proc_of as tree_of, program_under}
use Rattle.flat_code.specs.Codes.{waiting_in, proc_of}
use Rattle.flattening.specs.Numbering.{type_number}
use Rattle.flattening.specs.StmtLines.{body_lines}
use Rattle.flattening.specs.Places.{param_places, result_places, block_places, body_places}
use Rattle.flattening.specs.Flattened.{known_of, modes_of, code_of_body, code_of_proc, code_of}
use Rattle.flattening.specs.Given.{flat_body, flat_proc, flat_procs}
use Rattle.flattening.specs.PlaceViews.{declared_in, listed_body, code_body, code_proc}
use Rattle.flattening.proofs.Declaring.{declares}
use Rattle.flattening.proofs.ResultPlaces.{listed, result_is}

module _ (ts : List Ty) (facts : Facts) (p : RustProgram) (plan : Plan) where
  abbrev program : Program
  program = program_under ts facts p

  abbrev modes : (proc position : ℕ) → Mode
  modes = modes_of program plan

  result_found : (result : Option PlaceDecl) (place : Declared) → option_map (declared_of ts) result ≡ Some place →
      type_at ts (type_number ts place.of) ≡ place.of
  result_found None place e = absurd cc
  result_found (Some d) place e = let h : declared_of ts d ≡ place = cc in listed ts place.of d.ty (sym (ap (λ x. x.of) h))

  body_is : (hook : Option HookOf) (params : List Param) (body : RustBody) →
      proc_of (known_of program) (flat_body program plan hook params (body_of ts body)) ≡ code_of_body program plan hook params (body_of ts body)
  body_is hook params body =
      ap (λ result. record {
        first = body.first;
        span = body.places;
        result = result;
        waits = waiting_in (flat_body program plan hook params (body_of ts body)).places;
        hook = hook;
        lines = body_lines ts facts (modes_of program plan) params (body_of ts body);
      }) (result_is (known_of program) (modes_of program plan) plan.sinks program.globals params (body_of ts body) (result_found body.result))

  proc_is : (hook : Option HookOf) (params : List Param) (body : Option RustBody) →
      proc_of (known_of program) (flat_proc program plan hook params (option_map (body_of ts) body))
      ≡ code_of_proc program plan hook params (option_map (body_of ts) body)
  proc_is hook params None = refl
  proc_is hook params (Some body) = body_is hook params body

  each_is : (ps : List RustProc) →
      map (proc_of (known_of program)) (map (λ (proc : trees.Proc). flat_proc program plan proc.hook proc.params proc.body) (map (tree_of ts) ps))
      ≡ map (λ (proc : trees.Proc). code_of_proc program plan proc.hook proc.params proc.body) (map (tree_of ts) ps)
  each_is [] = refl
  each_is (first ∷ rest) = ap₂ (λ x xs. x ∷ xs) (proc_is first.hook (map (param_of ts) first.params) first.body) (each_is rest)

  -- what is given is the code of the program
  pub procs_are : map (proc_of (known_of program)) (flat_procs program plan) ≡ code_of program plan
  procs_are =
      map-append (proc_of (known_of program)) (map (λ (proc : trees.Proc). flat_proc program plan proc.hook proc.params proc.body) program.procs) _
      ∙ ap₂ (λ xs x. xs ++ x ∷ []) (each_is p.procs.items) (body_is None [] p.start)

  -- ---- places where the numbers of globals are marked

  module _ (globals : ℕ → Bool) (same : (n : ℕ) → globals n ≡ is_global program.globals n) where
    places_are : (params : List Param) (body : Body) → listed_body ts facts modes plan.sinks globals params body
        ≡ body_places ts facts modes plan.sinks program.globals params body
    places_are params body =
        ap (λ declared.
        param_places ts facts modes plan.sinks params
        ++ (result_places ts facts modes body.result ++ (declared ++ block_places ts facts modes body.stmts 0)))
        (ap (λ g. declared_in ts facts modes g body.stmts) (fun_ext same) ∙ sym (declares ts facts modes program.globals body.stmts))

    pub body_given : (hook : Option HookOf) (params : List Param) (body : Body) →
        code_body ts facts modes plan.sinks globals hook params body ≡ flat_body program plan hook params body
    body_given hook params body =
        ap (λ places. record {
          first = body.first;
          span = body.places;
          places = places;
          lines = body_lines ts facts modes params body;
          hook = hook;
        }) (places_are params body)

    proc_given : (hook : Option HookOf) (params : List Param) (body : Option Body) →
        code_proc ts facts modes plan.sinks globals hook params body ≡ flat_proc program plan hook params body
    proc_given hook params None = refl
    proc_given hook params (Some body) = body_given hook params body

    each_given : (ps : List RustProc) →
        map (λ (proc : RustProc). code_proc ts facts modes plan.sinks globals proc.hook (map (param_of ts) proc.params) (option_map (body_of ts) proc.body)) ps
        ≡ map (λ (proc : trees.Proc). flat_proc program plan proc.hook proc.params proc.body) (map (tree_of ts) ps)
    each_given [] = refl
    each_given (first ∷ rest) = ap₂ (λ x xs. x ∷ xs) (proc_given first.hook (map (param_of ts) first.params) (option_map (body_of ts) first.body))
        (each_given rest)

    pub all_given :
        map (λ (proc : RustProc). code_proc ts facts modes plan.sinks globals proc.hook (map (param_of ts) proc.params) (option_map (body_of ts) proc.body))
        p.procs.items
        ++ code_body ts facts modes plan.sinks globals None [] program.start ∷ []
        ≡ flat_procs program plan
    all_given = ap₂ (λ xs x. xs ++ x ∷ []) (each_given p.procs.items) (body_given None [] program.start)
