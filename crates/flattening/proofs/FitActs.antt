-- The line of what is done with operands fits.
use Rattle.std.proofs.Common.{◌≡◌, ℕ, suc, ◌+◌, Bool, true, false, List, [], ◌∷◌, Option, Some, None, refl, sym, ap, ap₂, ◌∙◌}
use Rattle.std.specs.Prelude.{◌&&◌, ◌||◌, not, if◌then◌else◌, nat_eq, map, slice_get}
use Rattle.std.proofs.lemmas.Bool.{and_parts, and_from}
use Rattle.nim_types.specs.Types.{Ty, Tys, no_types, types as more_types, Facts}
use Rattle.nim_types.specs.Types as type
use Rattle.nim_program.specs.declared.operation.Operation.{Operation}
use Rattle.nim_program.specs.declared.operation.Operation.TheVariants as O
use Rattle.nim_program.specs.declared.operation.Use.{Use}
use Rattle.nim_program.specs.declared.operation.Use.TheVariants.{Held}
use Rattle.nim_program.specs.declared.program.Mode.{Mode}
use Rattle.nim_program.specs.declared.program.Mode.TheVariants as M
use Rattle.nim_program.specs.Program.{Literal, Act, Doing, Building, Giving, Calling, Expr, Args, NoArg, ByValue, ByPath, Param, Body, Proc, types_in, type_of}
use Rattle.nim_program.specs.Program.{type_at}
use Rattle.nim_program.specs.Kinds.{TypeKind, is_of, is_there, same_value}
use Rattle.nim_program.specs.Fitting as table
use Rattle.nim_program.specs.Fitting.{building_fits, are_distinct, are_fields, places_in}
use Rattle.nim_program.specs.Scopes as scopes
use Rattle.nim_program.specs.Scopes.{Placed, Here, given, all_given, given_if, is_ready, is_no_hook, are_taken, call_fits}
use Rattle.nim_program.specs.Program.{is_written}
use Rattle.nim_program.specs.Typed.{act_fits, are_placed, may_take_all}
use Rattle.nim_program.specs.Uses.{use_by, use_for, use_of}
use Rattle.nim_program.specs.View.{if_type}
use Rattle.nim_meaning.specs.Here.{is_hooked, gives_hooked}
use Rattle.nim_meaning.specs.Shapes.{is_read, is_lent, is_given, waits}
use Rattle.flat_code.specs.declared.line.From.{From}
use Rattle.flat_code.specs.declared.line.From.TheVariants as F
use Rattle.flat_code.specs.declared.line.UseAt.{UseAt}
use Rattle.flat_code.specs.declared.line.Owning.TheVariants as W
use Rattle.flat_code.specs.declared.line.Line.TheVariants as L
use Rattle.flat_code.specs.declared.place.FlatPlace.{FlatPlace}
use Rattle.flat_code.specs.Scene.{Known}
use Rattle.flat_code.specs.Fits as fit
use Rattle.flat_code.specs.Leads.{place_hooked}
use Rattle.flat_code.specs.Fits.{Taken, Signature, is_var, is_value, place_named, if_type_of, if_kind, operation_fits, writes, are_arguments}
use Rattle.flattening.specs.Formed.{IfListed, AreListed}
use Rattle.flattening.specs.Numbering.{if_number, width, width_at}
use Rattle.flattening.specs.ExprLines.{has_hooks, is_copied, is_lent_at, froms, act_line, back_line}
use Rattle.flattening.proofs.Acting.{type_is, types_are}
use Rattle.flattening.proofs.Direct.{is_characters, has_own_hooks, of_act}
use Rattle.flattening.proofs.Fit.{Among, Fit, fitting, fit_none, fit_line, fit_by}
use Rattle.flattening.proofs.FitParts.{never, of_same, both_are, both_some}
use Rattle.flattening.proofs.FitParts as parts
use Rattle.flattening.proofs.FitPaths as paths
use Rattle.flattening.proofs.FitWaits as waiting

-- each row of the table is one of lines
pub operation_right : (facts : Facts) (operation : Operation) (ty : Option Ty) (of : List (Option Ty)) → table.fits facts operation ty of ≡ true →
    operation_fits facts operation ty of ≡ true
operation_right facts O.Default ty [] h = refl
operation_right facts operation ty of h = h

-- ---- calls without types for type parameters

parameter_stays : (n : ℕ) → scopes.parameter_or n (slice_get [] n) ≡ type.parameter n
parameter_stays n = refl

mutual
  pub given_none : (ty : Ty) → given [] ty ≡ ty
  given_none type.int = refl
  given_none type.bool = refl
  given_none type.char = refl
  given_none type.text = refl
  given_none (type.sequence t) = ap type.sequence (given_none t)
  given_none (type.array n t) = ap (type.array n) (given_none t)
  given_none (type.tuple names ts) = ap (type.tuple names) (all_given_none ts)
  given_none (type.parameter n) = parameter_stays n
  given_none (type.enum key) = refl
  given_none (type.object key ts) = ap (type.object key) (all_given_none ts)
  given_none (type.distinct key) = refl
  given_none (type.ref name t) = ap (type.ref name) (given_none t)
  given_none (type.exception key) = refl

  all_given_none : (ts : Tys) → all_given [] ts ≡ ts
  all_given_none no_types = refl
  all_given_none (more_types t ts) = ap₂ more_types (given_none t) (all_given_none ts)

given_if_none : (ty : Option Ty) → given_if [] ty ≡ ty
given_if_none None = refl
given_if_none (Some ty) = ap Some (given_none ty)

module _ (types : List Ty) (facts : Facts) (modes : (proc position : ℕ) → Mode) (procs : List Proc) (globals : List Placed) (sigs : List Signature)
    (start whole : List FlatPlace) (stands_for : ℕ → Bool)
    (grounds : parts.Grounds types facts modes procs globals sigs start whole stands_for)
    (filled : ℕ) (places : List Placed) (dest : Option ℕ) (sees : parts.Sees types facts modes procs globals sigs start whole stands_for filled places) where
  abbrev known : Known
  known = parts.known types facts modes procs globals sigs start whole stands_for

  abbrev around : Among
  around = parts.around types facts modes procs globals sigs start whole stands_for

  abbrev here : Here
  here = parts.seen types facts modes procs globals sigs start whole stands_for filled places dest

  abbrev value : ℕ → Option Ty
  value = parts.value types facts modes procs globals sigs start whole stands_for

  abbrev AllStood : Act → (uses : (position : ℕ) → Use) → (position : ℕ) → Args → (t : ℕ) → Type 0
  AllStood = parts.AllStood types facts modes procs globals sigs start whole stands_for filled places dest

  -- operands of an act, from its first one on
  abbrev ActStood : Act → Args → (t : ℕ) → Type 0
  ActStood act operands t = AllStood act (use_of modes act) 0 operands t

  abbrev from_all : Act → Args → (t : ℕ) → List From
  from_all act operands t = froms facts act operands (use_of modes act) 0 t

  abbrev taken_from : From → Option Ty
  taken_from = paths.taken_from types facts modes procs globals sigs start whole stands_for grounds filled places dest sees

  taken_are : (act : Act) (args : Args) (t : ℕ) → ActStood act args t → map taken_from (from_all act args t) ≡ types_in args
  taken_are act args t all = paths.taken_are types facts modes procs globals sigs start whole stands_for grounds filled places dest sees act
      (use_of modes act) 0
      args t all

  -- ---- operations

  doing_fits : (t : ℕ) (operation : Operation) (how : UseAt) (ty : Option Ty) (operands : Args) →
      act_fits here ty (Doing operation) operands ≡ true → IfListed types ty → AreListed types (types_in operands) → value t ≡ ty →
      ActStood (Doing operation) operands (suc t) →
      fitting around (act_line types facts modes t (Doing operation) how ty (types_in operands) (from_all (Doing operation) operands (suc t))) ≡ true
  doing_fits t operation how ty operands h listed all_listed is all =
      let q = and_parts (table.fits facts operation ty (types_in operands))
      (are_placed (places_in operation) operands && may_take_all here operation operands) h in
      let r = and_parts (are_placed (places_in operation) operands) (may_take_all here operation operands) q.1 in
      let e = type_is types ty listed in
      let es = types_are types (types_in operands) all_listed in
      let uses = use_of modes (Doing operation) in
      let from = from_all (Doing operation) operands (suc t) in
      and_from _ _
      (and_from _ _ (ap₂ (operation_fits facts operation) e es ∙ operation_right facts operation ty (types_in operands) q.0)
      (and_from _ _
      (paths.are_of_these types facts modes procs globals sigs start whole stands_for grounds filled places dest sees from _
      (taken_are (Doing operation) operands (suc t) all ∙ sym es))
      (and_from _ _
      (ap (λ tys. fit.are_placed facts (use_by operation) (places_in operation) tys from) es
      ∙ paths.placed_same types facts modes procs globals sigs start whole stands_for grounds filled places dest sees (Doing operation) uses
      (use_by operation) (λ i. refl) (places_in operation) 0 operands (suc t) r.0)
      (paths.may_be_written types facts modes procs globals sigs start whole stands_for grounds filled places dest sees (Doing operation) uses operation
      (places_in operation) operands (suc t) all r.0 r.1))))
      (both_are _ _ ty is e)

  -- ---- objects and constants

  building_right : (t : ℕ) (fields : List ℕ) (how : UseAt) (ty : Option Ty) (operands : Args) →
      act_fits here ty (Building fields) operands ≡ true → IfListed types ty → value t ≡ ty → ActStood (Building fields) operands (suc t) →
      fitting around (act_line types facts modes t (Building fields) how ty (types_in operands) (from_all (Building fields) operands (suc t))) ≡ true
  building_right t fields how None operands h listed is all =
      let q = and_parts (building_fits facts None fields (types_in operands)) (are_placed 0 operands) h in
      never (and_parts false (are_distinct fields && are_fields TypeKind.other fields (types_in operands)) q.0).0
  building_right t fields how (Some ty) operands h listed is all =
      let q = and_parts (building_fits facts (Some ty) fields (types_in operands)) (are_placed 0 operands) h in
      and_from _ _
      (and_from _ _
      (ap₂ (λ u tys. building_fits facts (Some u) fields tys) listed (taken_are (Building fields) operands (suc t) all) ∙ q.0)
      (paths.values_all types facts modes procs globals sigs start whole stands_for grounds filled places dest sees (Building fields)
      (use_of modes (Building fields))
      Held (λ i. refl) 0 operands (suc t) refl q.1))
      (both_some _ _ (Some ty) refl is (ap Some listed))

  giving_right : (t : ℕ) (literal : Literal) (how : UseAt) (ty : Option Ty) (operands : Args) →
      is_characters literal || not (has_own_hooks facts ty) ≡ true →
      act_fits here ty (Giving literal) operands ≡ true → IfListed types ty → value t ≡ ty →
      fitting around (act_line types facts modes t (Giving literal) how ty (types_in operands) (from_all (Giving literal) operands (suc t))) ≡ true
  giving_right t literal how ty (ByValue e rest) d h listed is = never h
  giving_right t literal how ty (ByPath path rest) d h listed is = never h
  giving_right t literal how None NoArg d h listed is = never h
  giving_right t literal how (Some ty) NoArg d h listed is =
      and_from _ _
      (paths.constant_right types facts modes procs globals sigs start whole stands_for grounds filled places dest sees ty literal listed d h)
      (both_some _ _ (Some ty) refl is (ap Some listed))

  -- ---- calls

  -- an argument is never copied, and is lent where its mode and its type say so
  never_given : (mode : Mode) → is_given (use_for mode) ≡ false
  never_given M.Plain = refl
  never_given M.Sink = refl
  never_given M.Var = refl

  and_true : (b : Bool) → b && true ≡ b
  and_true true = refl
  and_true false = refl

  no_var : (b : Bool) → not b ≡ true → b ≡ false
  no_var true h = never h
  no_var false h = refl

  same_var : (mode : Mode) → scopes.is_var mode ≡ fit.is_var mode
  same_var M.Plain = refl
  same_var M.Sink = refl
  same_var M.Var = refl

  module _ (proc : ℕ) (args : List Ty) where
    abbrev act : Act
    act = Calling proc args

    abbrev uses : (position : ℕ) → Use
    uses = use_of modes act

    abbrev AllTaken : (position : ℕ) → List Param → List Taken → Type 0
    AllTaken i params taken = parts.AreTaken types facts modes procs globals sigs start whole stands_for proc i params taken

    lent_is : (i : ℕ) (p : Param) (e : Expr) → type_of e ≡ Some p.place.of →
        is_lent_at facts act (uses i) e ≡ is_hooked facts p.place.of && is_lent (use_for (modes proc i))
    lent_is i p e same = ap₂ (λ a b. a && b) (ap (gives_hooked facts) same) (and_true (is_lent (use_for (modes proc i))))

    arguments_right : (i : ℕ) (params : List Param) (taken : List Taken) (operands : Args) (t : ℕ) → AllTaken i params taken →
        are_taken [] params operands ≡ true → AllStood act uses i operands t →
        are_arguments known sigs start whole taken (froms facts act operands uses i t) ≡ true
    arguments_right i [] [] NoArg t k h all = refl
    arguments_right i [] [] (ByValue e rest) t k h all = never h
    arguments_right i [] [] (ByPath path rest) t k h all = never h
    arguments_right i [] (a ∷ taken) operands t k h all = absurd k
    arguments_right i (p ∷ params) [] operands t k h all = absurd k
    arguments_right i (p ∷ params) (a ∷ taken) NoArg t k h all = never h
    arguments_right i (p ∷ params) (a ∷ taken) (ByValue e rest) t k h all =
        by (is_copied facts (uses i) e) (is_lent_at facts act (uses i) e) refl refl
        (arguments_right (suc i) params taken rest (t + width e) k.1 r.1
        (parts.rest_stood types facts modes procs globals sigs start whole stands_for filled places dest act uses i e rest t all))
      where
        q : (not (scopes.is_var p.mode) ≡ true) × (is_of (type_of e) (Some (given [] p.place.of)) && are_taken [] params rest ≡ true)
        q = and_parts (not (scopes.is_var p.mode)) _ h

        r : (is_of (type_of e) (Some (given [] p.place.of)) ≡ true) × (are_taken [] params rest ≡ true)
        r = and_parts (is_of (type_of e) (Some (given [] p.place.of))) (are_taken [] params rest) q.1

        plain_mode : is_var p.mode ≡ false
        plain_mode = sym (same_var p.mode) ∙ no_var (scopes.is_var p.mode) q.0

        of : Some a.of ≡ Some (given [] p.place.of)
        of = ap Some (k.0.of ∙ sym (given_none p.place.of))

        lent_as : is_lent_at facts act (uses i) e ≡ a.by_location
        lent_as =
            lent_is i p e (of_same (type_of e) (Some (given [] p.place.of)) r.0 ∙ ap Some (given_none p.place.of))
            ∙ sym (k.0.by_value plain_mode)

        by : (b c : Bool) → is_copied facts (uses i) e ≡ b → is_lent_at facts act (uses i) e ≡ c →
            are_arguments known sigs start whole taken (froms facts act rest uses (suc i) (t + width e)) ≡ true →
            are_arguments known sigs start whole (a ∷ taken)
            (paths.by_ways types facts modes procs globals sigs start whole stands_for grounds filled places dest sees b c
            t ∷ froms facts act rest uses (suc i) (t + width e)) ≡ true
        by true c copied lent behind =
            never (sym (never_given (modes proc i)) ∙ (and_parts (is_given (uses i)) (is_read e) (and_parts (has_hooks facts e) _ copied).1).0)
        by false true copied lent behind =
            let l = parts.lent_leads types facts modes procs globals sigs start whole stands_for filled places dest act uses i e rest t lent all in
            and_from _ _
            (and_from _ _ (sym lent_as ∙ lent) (ap (λ w. not w || parts.may_write types facts modes procs globals sigs start whole stands_for t)
            (k.0.kept plain_mode)))
            (and_from _ _ (ap₂ is_of l.0 of ∙ r.0) behind)
        by false false copied lent behind =
            and_from _ _ (ap not (sym lent_as ∙ lent))
            (and_from _ _ (ap₂ is_of (parts.value_is types facts modes procs globals sigs start whole stands_for filled places dest e t
            (parts.first_stood types facts modes procs globals sigs start whole stands_for filled places dest act uses i e rest t all)) of ∙ r.0) behind)
    arguments_right i (p ∷ params) (a ∷ taken) (ByPath path rest) t k h all =
        let q = and_parts (scopes.is_var p.mode && is_written path) _ h in
        let w = and_parts (scopes.is_var p.mode) (is_written path) q.0 in
        let r = and_parts (is_of (type_at path) (Some (given [] p.place.of))) (are_taken [] params rest) q.1 in
        let l = parts.leads types facts modes procs globals sigs start whole stands_for filled places dest false path t
        (parts.first_path types facts modes procs globals sigs start whole stands_for filled places dest act uses i path rest t all) in
        and_from _ _ (and_from _ _ (k.0.by_path (sym (same_var p.mode) ∙ w.0)) (written a.written (l.writes ∙ w.1)))
        (and_from _ _ (ap₂ is_of l.type (ap Some (k.0.of ∙ sym (given_none p.place.of))) ∙ r.0)
        (arguments_right (suc i) params taken rest (t + width_at path) k.1 r.1
        (parts.behind_path types facts modes procs globals sigs start whole stands_for filled places dest act uses i path rest t all)))
      where
        written : (b : Bool) {c : Bool} → c ≡ true → not b || c ≡ true
        written true h = h
        written false h = refl

  calling_right : (t proc : ℕ) (how : UseAt) (ty : Option Ty) (operands : Args) → act_fits here ty (Calling proc []) operands ≡ true → IfListed types ty →
      value t ≡ ty → ActStood (Calling proc []) operands (suc t) →
      fitting around (L.Call t how (if_number types ty) proc (from_all (Calling proc []) operands (suc t))) ≡ true
  calling_right t proc how ty operands h listed is all = by (slice_get procs proc) refl h
    where
      back : if_type types (if_number types ty) ≡ ty
      back = type_is types ty listed

      Said : Type 0
      Said = fitting around (L.Call t how (if_number types ty) proc (from_all (Calling proc []) operands (suc t))) ≡ true

      signed : (p : Proc) → parts.Signed types facts modes procs globals sigs start whole stands_for proc p →
          same_value (given_if [] p.gives) ty && are_taken [] p.params operands ≡ true → Said
      signed p s k =
          let q = and_parts (same_value (given_if [] p.gives) ty) (are_taken [] p.params operands) k in
          and_from _ _
          (ap (λ s. fit.call_fits known sigs start whole s (if_type types (if_number types ty)) (from_all (Calling proc []) operands (suc t))) s.is
          ∙ and_from _ _ (ap₂ same_value (s.gives ∙ sym (given_if_none p.gives)) back ∙ q.0)
          (arguments_right proc [] 0 p.params s.signature.takes operands (suc t) s.takes q.1 all))
          (both_are _ _ ty is back)

      found : (p : Proc) (body : Option Body) → slice_get procs proc ≡ Some p → p.body ≡ body → is_ready here body ≡ true →
          same_value (given_if [] p.gives) ty && are_taken [] p.params operands ≡ true → Said
      found p None e f r k = never r
      found p (Some body) e f r k = signed p (grounds.calls proc p body e f) k

      by : (o : Option Proc) → slice_get procs proc ≡ o → call_fits here o [] ty operands ≡ true → Said
      by None e h = never h
      by (Some p) e h =
          let q = and_parts ((is_no_hook p.hook && is_ready here p.body) && nat_eq 0 p.type_params) _ h in
          let r = and_parts (is_no_hook p.hook && is_ready here p.body) (nat_eq 0 p.type_params) q.0 in
          found p p.body e refl (and_parts (is_no_hook p.hook) (is_ready here p.body) r.0).1 q.1

  pub act_right : (t : ℕ) (act : Act) (how : UseAt) (ty : Option Ty) (operands : Args) (all : Bool) → of_act facts ty act operands all ≡ true →
      act_fits here ty act operands ≡ true → IfListed types ty → AreListed types (types_in operands) → value t ≡ ty → ActStood act operands (suc t) →
      fitting around (act_line types facts modes t act how ty (types_in operands) (from_all act operands (suc t))) ≡ true
  act_right t (Doing operation) how ty operands all d h listed of is stood = doing_fits t operation how ty operands h listed of is stood
  act_right t (Building fields) how ty operands all d h listed of is stood = building_right t fields how ty operands h listed is stood
  act_right t (Giving literal) how ty operands all d h listed of is stood = giving_right t literal how ty operands d h listed is
  act_right t (Calling proc []) how ty operands all d h listed of is stood = calling_right t proc how ty operands h listed is stood
  act_right t (Calling proc (first ∷ more)) how ty operands all d h listed of is stood = never d

  -- ---- the value of a call waits

  -- where a value has a type it has a temporary
  has_place : (ps : List FlatPlace) (n : ℕ) → is_there (if_type_of known (place_named is_value ps n)) ≡ true →
      if_kind is_value (place_named is_value ps n) ≡ true
  has_place [] n h = never h
  has_place (p ∷ ps) n h = by (nat_eq p.number n) (is_value p.kind) refl h (has_place ps n)
    where
      by : (a b : Bool) → is_value p.kind ≡ b → is_there (if_type_of known (if a && b then Some p else place_named is_value ps n)) ≡ true →
          (is_there (if_type_of known (place_named is_value ps n)) ≡ true → if_kind is_value (place_named is_value ps n) ≡ true) →
          if_kind is_value (if a && b then Some p else place_named is_value ps n) ≡ true
      by true true e h rest = e
      by true false e h rest = rest h
      by false b e h rest = rest h

  there : (ty : Option Ty) → gives_hooked facts ty ≡ true → is_there ty ≡ true
  there None h = never h
  there (Some ty) h = refl

  pub back_fits : (t : ℕ) (act : Act) (how : UseAt) (ty : Option Ty) → value t ≡ ty →
      place_hooked known (place_named is_value whole t) ≡ gives_hooked facts ty →
      waiting.Kept types facts modes procs globals sigs start whole stands_for t how.node ty →
      Fit around (back_line types facts modes t act how ty)
  back_fits t (Doing operation) how ty is same kept = fit_none
  back_fits t (Building fields) how ty is same kept = fit_none
  back_fits t (Giving literal) how ty is same kept = fit_none
  back_fits t (Calling proc args) how ty is same kept =
      fit_by (gives_hooked facts ty && waits how.how)
      (λ waits_back. fit_line (L.Own (W.Waits how.node) (F.Value t ∷ []))
      (let hooked = (and_parts (gives_hooked facts ty) (waits how.how) waits_back).0 in
      and_from _ _ (same ∙ hooked) (kept hooked))
      (has_place whole t (ap is_there is ∙ there ty (and_parts (gives_hooked facts ty) (waits how.how) waits_back).0)))
      (λ not_waiting. fit_none)
