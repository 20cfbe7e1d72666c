-- Typed programs are formed.
use Rattle.std.proofs.Common.{◌≡◌, ℕ, zero, suc, ◌+◌, ◌-◌, ◌<◌, ◌≤◌, inl, inr, Bool, true, false, List, [], ◌∷◌, ◌++◌, Option, Some, None, length, refl, sym}
use Rattle.std.proofs.Common.{ap, subst, ◌∙◌, arith}
use Rattle.std.specs.Prelude.{not, nat_eq, nat_le, ◌&&◌, slice_get, map, take}
use Rattle.std.proofs.lemmas.Bool.{both_ways, and_parts, eqb-true, leb-true}
use Rattle.nim_types.specs.Types.{Ty}
use Rattle.nim_program.specs.declared.nodes.TheConstants.{MOST_NODES}
use Rattle.nim_program.specs.Program.{Declared, Param, Body, Proc, Program}
use Rattle.nim_program.specs.Folds.{lists, total_of, block_nodes, param_places, if_declared, block_places, body_places}
use Rattle.nim_program.specs.Kinds.{are_among_types, are_declared, is_there}
use Rattle.nim_program.specs.Scopes.{Placed, placed}
use Rattle.nim_program.specs.Numbering.{rise_to, follow, numbers_of, is_numbered, is_numbered_if, are_numbered, is_numbered_program}
use Rattle.nim_program.specs.Typed.{own_types, place_types, param_declared, body_types, type_of_place, dest_of, before, is_typed_body}
use Rattle.nim_program.specs.Typed.{is_typed_if}
use Rattle.nim_program.specs.Typed.{hook_fits, is_typed_proc, are_typed_procs, is_typed_start, IsTyped, procedure}
use Rattle.nim_program.specs.Typed.{is_empty}
use Rattle.flattening.specs.Formed.{Ground, Scope, AtFirst, BodyFormed, ResultFormed, ParamsFormed, IsFormed, IsAmong, ground_of, named_in, results}
use Rattle.formed_programs.proofs.Parts.{Each, apart}
use Rattle.formed_programs.proofs.Listed.{IsKnown, all_known}
use Rattle.formed_programs.proofs.Seen.{numbers, named_by, named_by_body, Sees}
use Rattle.formed_programs.proofs.Stmts.{block_formed, code_formed}

never : {A : Type 0} → false ≡ true → A
never e = absurd (both_ways false refl e)

-- ---- numbers

-- so many places stand from a number on
abbrev Within : (first places : ℕ) → ℕ → Type 0
Within first places n = n - first < places

rising : (from first places : ℕ) (all : List Declared) → first ≤ from → rise_to from (first + places) (numbers_of all) ≡ true
    → Each (λ d. Within first places d.number) all × (from ≤ first + places)
rising from first places [] l h = (tt, leb-true from (first + places) h)
rising from first places (d ∷ ds) l h =
    let q = and_parts (nat_le from d.number) (rise_to (suc d.number) (first + places) (numbers_of ds)) h in
    let b = leb-true from d.number q.0 in
    let r = rising (suc d.number) first places ds (omega (arith, l, b)) q.1 in
    ((omega (arith, l, b, r.1), r.0), omega (arith, b, r.1))

following : (from first : ℕ) (all : List Declared) (n : ℕ) → first ≤ from → follow from (numbers_of all) ≡ true → IsAmong n (numbers (map placed all))
    → n - first < (from - first) + length all
following from first [] n l h is = absurd is
following from first (d ∷ ds) n l h (inl e) =
    let b = eqb-true from d.number (and_parts (nat_eq from d.number) _ h).0 in omega (arith, l, b, e)
following from first (d ∷ ds) n l h (inr is) =
    let r = following (suc from) first ds n (omega (arith, l)) (and_parts (nat_eq from d.number) _ h).1 is in omega (arith, l, r)

same_places : (params : List Param) → param_places params ≡ param_declared params
same_places [] = refl
same_places (p ∷ params) = ap (λ ds. p.place ∷ ds) (same_places params)

as_many : (params : List Param) (result : Option Declared) → length (param_declared params ++ if_declared result) ≡ length params + results result
as_many [] None = refl
as_many [] (Some d) = refl
as_many (p ∷ params) result = ap suc (as_many params result) ∙ omega arith

at_least : (n : ℕ) → n ≤ n
at_least n = omega arith

-- ---- bodies

module _ (program : Program) where
  abbrev globals : List Placed
  globals = map placed program.globals

  abbrev names : ℕ → List ℕ
  names proc = named_by globals (slice_get program.procs proc)

  abbrev around : (top : Bool) → Body → Ground
  around top body = ground_of program (named_in names) top body

  roomy : (params : List Param) (body : Body) → is_numbered params body ≡ true → Each (λ d. Within body.first body.places d.number) (block_places body.stmts)
  roomy params body h =
      let q = and_parts _ _ (and_parts (rise_to body.before MOST_NODES (block_nodes body.stmts)) _ h).1 in
      let r = (rising body.first body.first body.places (body_places params body) (at_least body.first) q.1).0 in
      let s = (apart (λ d. Within body.first body.places d.number) (param_places params) (if_declared body.result ++ block_places body.stmts) r).1 in
      (apart (λ d. Within body.first body.places d.number) (if_declared body.result) (block_places body.stmts) s).1

  abbrev Known : List Ty → Type 0
  Known tys = Each (IsKnown program.types program.facts) tys

  -- of parameters, of the result, and of the statements
  listed_parts : (params : List Param) (body : Body) → are_declared program.facts program.types ≡ true →
      are_among_types program.types (body_types params body) ≡ true →
      Known (place_types (param_declared params)) × Known (place_types (if_declared body.result)) × Known (total_of lists own_types body.stmts)
  listed_parts params body d h =
      let q = apart (IsKnown program.types program.facts) (place_types (param_declared params))
      (place_types (if_declared body.result) ++ total_of lists own_types body.stmts) (all_known program.types program.facts d (body_types params body) h) in
      let r = apart (IsKnown program.types program.facts) (place_types (if_declared body.result)) (total_of lists own_types body.stmts) q.1 in
      (q.0, r.0, r.1)

  -- places of the head are open
  params_formed : (params : List Param) (more : List Declared) (Open : Scope)
      → ((n : ℕ) → IsAmong n (numbers (map placed (param_declared params ++ more))) → Open false n)
      → Known (place_types (param_declared params)) → ParamsFormed program.types Open params
  params_formed [] more Open opened h = tt
  params_formed (p ∷ params) more Open opened h =
      ((opened p.place.number (inl refl), h.0.0), params_formed params more Open (λ n is. opened n (inr is)) h.1)

  head_open : (params : List Param) (body : Body) (n : ℕ) → is_numbered params body ≡ true
      → IsAmong n (numbers (map placed (param_declared params ++ if_declared body.result))) → n - body.first < length params + results body.result
  head_open params body n h is =
      let q = (and_parts _ _ (and_parts (rise_to body.before MOST_NODES (block_nodes body.stmts)) _ h).1).0 in
      let f = subst (λ ps. follow body.first (numbers_of (ps ++ if_declared body.result)) ≡ true) (same_places params) q in
      let r = following body.first body.first (param_declared params ++ if_declared body.result) n (omega arith) f is in
      omega (arith, r, as_many params body.result)

  result_open : (params : List Param) (result : Option Declared) (opened : ℕ → Type 0)
      → ((n : ℕ) → IsAmong n (numbers (map placed (param_declared params ++ if_declared result))) → opened n) → (named : ℕ → Type 0) → (Open : Scope)
      → ((n : ℕ) → opened n → Open false n) → Known (place_types (if_declared result)) → ResultFormed program.types Open result
  result_open params None opened all named Open to k = tt
  result_open params (Some d) opened all named Open to k = (to d.number (all d.number (last params)), k.0.0)
    where
      last : (params : List Param) → IsAmong d.number (numbers (map placed (param_declared params ++ d ∷ [])))
      last [] = inl refl
      last (p ∷ params) = inr (last params)

  body_formed : are_declared program.facts program.types ≡ true → (n : ℕ) (dest : Option ℕ) (params : List Param) (gives : Option Ty) (body : Body)
      → names n ≡ named_by_body globals (Some body) → is_typed_body program dest params gives body ≡ true → is_numbered params body ≡ true
      → BodyFormed (around false body) (AtFirst (length params) (named_in names n) body) params body
  body_formed d n dest params gives body named h k =
      let t = and_parts (are_among_types program.types (body_types params body) && _) _ h in
      let l = (and_parts (are_among_types program.types (body_types params body)) _ t.0).0 in
      let b = (and_parts (not (is_empty body.stmts)) _ t.1).1 in
      let known = listed_parts params body d l in
      let Open : Scope = AtFirst (length params) (named_in names n) body in
      let sees : Sees globals Open (before program body.first) (map placed (param_declared params ++ if_declared body.result)) =
      record { local = λ m is. head_open params body m k is; global = λ m is. subst (λ all. IsAmong m all) (sym named) is } in (
        result_open params body.result (λ m. Open false m) (λ m is. head_open params body m k is) (named_in names n) Open (λ m o. o) known.1,
        params_formed params (if_declared body.result) Open (λ m is. head_open params body m k is) known.0,
        block_formed program.types program.facts program.procs globals false (λ place. place - body.first < body.places) (before program body.first) dest Open
            (map placed (param_declared params ++ if_declared body.result)) sees (procedure gives) body.stmts b
            known.2 (roomy params body k),
      )

  -- ---- procedures

  is_body : are_declared program.facts program.types ≡ true → (n : ℕ) (proc : Proc) (body : Body) → slice_get program.procs n ≡ Some proc →
      proc.body ≡ Some body → is_typed_proc program proc ≡ true
      → is_numbered_if proc.params proc.body ≡ true
      → BodyFormed (around false body) (AtFirst (length proc.params) (named_in names n) body) proc.params body
  is_body d n proc body is has h k =
      body_formed d n (dest_of proc.hook proc.params) proc.params proc.gives body
      (ap (named_by globals) is ∙ ap (named_by_body globals) has)
      (subst (λ b. is_typed_if program (dest_of proc.hook proc.params) proc.params proc.gives b ≡ true) has
      (and_parts (hook_fits program proc.hook proc.params proc.gives proc.body) _ h).1)
      (subst (λ b. is_numbered_if proc.params b ≡ true) has k)

  at_proc : (procs : List Proc) (n : ℕ) (proc : Proc) → slice_get procs n ≡ Some proc → are_typed_procs program procs ≡ true → are_numbered procs ≡ true
      → (is_typed_proc program proc ≡ true) × (is_numbered_if proc.params proc.body ≡ true)
  at_proc [] n proc is h k = absurd (there proc is)
    where
      there : (proc : Proc) → None ≡ Some proc → ⊥
      there proc e = cc
  at_proc (q ∷ procs) zero proc is h k =
      subst (λ q. (is_typed_proc program q ≡ true) × (is_numbered_if q.params q.body ≡ true))
      (the_same q proc is)
      ((and_parts (is_typed_proc program q) _ h).0, (and_parts (is_numbered_if q.params q.body) _ k).0)
    where
      the_same : (q proc : Proc) → Some q ≡ Some proc → q ≡ proc
      the_same q proc e = cc
  at_proc (q ∷ procs) (suc n) proc is h k =
      at_proc procs n proc is (and_parts (is_typed_proc program q) _ h).1 (and_parts (is_numbered_if q.params q.body) _ k).1

  -- ---- the start code

  no_result : (result : Option Declared) → not (is_there (type_of_place result)) ≡ true → result ≡ None
  no_result None h = refl
  no_result (Some d) h = never h

  nowhere : (n : ℕ) (result : Option Declared) → result ≡ None → IsAmong n (numbers (map placed (if_declared result))) → ⊥
  nowhere n None e is = is
  nowhere n (Some d) e is = cc

  start_result : (result : Option Declared) → result ≡ None → (Open : Scope) → ResultFormed program.types Open result
  start_result None e Open = tt
  start_result (Some d) e Open = absurd (there d e)
    where
      there : (d : Declared) → Some d ≡ None → ⊥
      there d e = cc

  none_taken : (all : List Placed) (n : ℕ) → IsAmong n (numbers (take 0 all)) → ⊥
  none_taken [] n is = is
  none_taken (p ∷ ps) n is = is

  start_formed : are_declared program.facts program.types ≡ true → is_typed_start program program.start ≡ true → is_numbered [] program.start ≡ true
      → BodyFormed (around true program.start) (AtFirst 0 (λ place. ⊥) program.start) [] program.start
  start_formed d h k =
      let body = program.start in
      let t = and_parts (are_among_types program.types (body_types [] body) && _) _ h in
      let l = and_parts (are_among_types program.types (body_types [] body)) _ t.0 in
      let e = no_result body.result l.1 in
      let Open : Scope = AtFirst 0 (λ place. ⊥) body in
      let sees : Sees globals Open 0 (map placed (if_declared body.result)) =
      record { local = λ m is. absurd (nowhere m body.result e is); global = λ m is. none_taken globals m is } in (
        start_result body.result e Open,
        tt,
        code_formed program.types program.facts program.procs globals true (λ place. place - body.first < body.places) refl Open 0
            (map placed (if_declared body.result)) None sees body.stmts t.1
            (listed_parts [] body d l.0).2 (roomy [] body k),
      )

  pub programs_formed : IsTyped program → is_numbered_program program ≡ true → IsFormed program
  programs_formed typed numbered =
      let a = and_parts (are_declared program.facts program.types) _ typed.typed in
      let t = and_parts (are_typed_procs program program.procs) (is_typed_start program program.start) a.1 in
      let k = and_parts (are_numbered program.procs) (is_numbered [] program.start) numbered in
      let l = and_parts (are_among_types program.types (body_types [] program.start)) _ (and_parts _ _ t.1).0 in
      record {
        names = names;
        procs = λ n proc body is has. let q = at_proc program.procs n proc is t.0 k.0 in is_body a.0 n proc body is has q.0 q.1;
        start = start_formed a.0 t.1 k.1;
        gives = no_result program.start.result l.1;
      }
