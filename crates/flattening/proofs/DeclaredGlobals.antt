-- The globals of a program are the places that the code of its modules declares, in their order: each is found by its number.
use Rattle.std.proofs.Common.{◌≡◌, ℕ, zero, suc, inl, inr, Bool, true, false, List, [], ◌∷◌, ◌++◌, length, Option, Some, None, refl, sym, ap, ◌∙◌, subst, arith}
use Rattle.std.specs.Prelude.{nat_eq, ◌&&◌, ◌||◌, not, if◌then◌else◌, map, drop, slice_get}
use Rattle.std.proofs.lemmas.Bool.{and_parts, eqb-true, eq-eqb}
use Rattle.nim_types.specs.Types.{Ty, Facts, same}
use Rattle.nim_types.proofs.ForCallers.{same_sound}
use Rattle.nim_program.specs.Program.{Declared, Param, Body, Program, Stmts, Empty, Then, Declare, Defer}
use Rattle.nim_program.specs.Folds.{Declaring, lists, totals, total_in, total_of, if_declared}
use Rattle.nim_program.specs.Kinds.{are_among_types, are_declared, is_there}
use Rattle.nim_program.specs.Numbering.{is_numbered, are_numbered, is_numbered_program}
use Rattle.nim_program.specs.Scopes.{Placed, placed, Here}
use Rattle.nim_program.specs.Sizes.{is_global as is_global_number}
use Rattle.nim_program.specs.Typed.{own_types, place_types, param_declared, body_types, type_of_place}
use Rattle.nim_program.specs.Typed.{are_typed_procs, is_typed_start, IsTyped, module_code, is_typed_stmt, is_typed_code, are_typed, starts, is_next}
use Rattle.flat_code.specs.declared.place.FlatPlace.{FlatPlace}
use Rattle.flat_code.specs.declared.place.PlaceKind.TheVariants as K
use Rattle.flat_code.specs.Fits.{is_global, is_declared, place_named, if_type_of}
use Rattle.flat_code.specs.Scene.{Known}
use Rattle.nim_plan.specs.declared.plan.Plan.{Plan}
use Rattle.nim_program.specs.declared.program.Mode.{Mode}
use Rattle.flattening.specs.Flattened.{known_of, modes_of}
use Rattle.flattening.specs.Formed.{IsListed}
use Rattle.flattening.specs.Places.{kind_of_declared, of_declared, own_declared, body_places}
use Rattle.flattening.proofs.Declared.{Member, member_second, place_listed}
use Rattle.flattening.proofs.FitBodies as bodies
use Rattle.flattening.proofs.FitParts.{never}
use Rattle.flattening.proofs.FitParts as parts
use Rattle.flattening.proofs.Listed.{all_listed}
use Rattle.flattening.proofs.Parts.{Each, apart}

one : {A : Type 0} {x y : A} → Some x ≡ Some y → x ≡ y
one e = cc

nothing : {A : Type 0} {B : Type 0} {x : A} → None ≡ Some x → B
nothing e = cc

module _ (program : Program) (plan : Plan) where
  abbrev types : List Ty
  types = program.types

  abbrev facts : Facts
  facts = program.facts

  abbrev globals : List Placed
  globals = map placed program.globals

  abbrev known : Known
  known = known_of program

  abbrev modes : (proc position : ℕ) → Mode
  modes = modes_of program plan

  abbrev start : List FlatPlace
  start = body_places types facts modes plan.sinks program.globals [] program.start

  -- what is known where so many of them are there
  abbrev seen_by : ℕ → List Placed → Here
  seen_by filled first_in = parts.seen types facts modes program.procs globals [] start start (λ n. false) filled first_in None

  -- ---- types that stand in a body

  pub record BodyListed (params : List Param) (body : Body) : Type 0 where
    pub taken : Each (λ (d : Declared). IsListed types d.of) (param_declared params)
    pub given : Each (λ (d : Declared). IsListed types d.of) (if_declared body.result)
    pub stmts : Each (IsListed types) (total_of lists own_types body.stmts)

  pub body_listed : (params : List Param) (body : Body) → are_among_types types (body_types params body) ≡ true → BodyListed params body
  body_listed params body h =
      let p = apart (IsListed types) (place_types (param_declared params)) (place_types (if_declared body.result) ++ total_of lists own_types body.stmts)
      (all_listed types (body_types params body) h) in
      let q = apart (IsListed types) (place_types (if_declared body.result)) (total_of lists own_types body.stmts) p.1 in
      record { taken = place_listed types (param_declared params) p.0; given = place_listed types (if_declared body.result) q.0; stmts = q.1 }

  -- by its number it has its type
  abbrev pub Found : Placed → Type 0
  Found g = if_type_of known (place_named is_global start g.number) ≡ Some g.of

  -- ---- the globals, which the code of modules declares in their order

  drop_all : (n : ℕ) (xs : List Placed) → n ≡ length xs → drop n xs ≡ []
  drop_all zero [] e = refl
  drop_all zero (x ∷ xs) e = absurd (omega (arith, e))
  drop_all (suc n) [] e = refl
  drop_all (suc n) (x ∷ xs) e = drop_all n xs (omega (arith, e))

  drop_next : (n : ℕ) (xs : List Placed) (x : Placed) → slice_get xs n ≡ Some x → drop n xs ≡ x ∷ drop (suc n) xs
  drop_next n [] x e = nothing e
  drop_next zero (y ∷ xs) x e = ap (λ z. z ∷ xs) (one e)
  drop_next (suc n) (y ∷ xs) x e = drop_next n xs x e

  -- one of them is told by its number
  told : (ds : List Declared) (n : ℕ) (g : Placed) → slice_get (map placed ds) n ≡ Some g → is_global_number ds g.number ≡ true
  told [] n g e = nothing e
  told (d ∷ ds) zero g e =
      ap (λ b. b || is_global_number ds g.number) (eq-eqb d.number g.number (ap (λ (p : Placed). p.number) (one e)))
  told (d ∷ ds) (suc n) g e = or_true (nat_eq d.number g.number) (told ds n g e)
    where
      or_true : (b : Bool) {c : Bool} → c ≡ true → b || c ≡ true
      or_true true h = refl
      or_true false h = h

  module _ (numbered : is_numbered [] program.start ≡ true) (listed : BodyListed [] program.start) where
    abbrev first_in : List Placed
    first_in = map placed (if_declared program.start.result)

    globals_found : (filled : ℕ) (b : Stmts) → is_typed_code (seen_by filled first_in) b ≡ true →
        ((p : FlatPlace) → Member p (total_of lists (own_declared types facts modes program.globals) b) →
        Member p (total_of lists (own_declared types facts modes program.globals) program.start.stmts)) →
        Each (IsListed types) (total_of lists own_types b) → Each Found (drop filled globals)
    globals_found filled Empty h within l = subst (Each Found) (sym (drop_all filled globals (eqb-true filled (length globals) h))) tt
    globals_found filled (Then first rest) h within l =
        globals_found filled rest (and_parts (is_typed_stmt _ module_code first) _ h).1
        (λ p m. within p (member_second p (total_in lists (own_declared types facts modes program.globals) first)
        (total_of lists (own_declared types facts modes program.globals) rest) m))
        (apart (IsListed types) (total_in lists own_types first) (total_of lists own_types rest) l).1
    globals_found filled (Declare node place cursor value rest) h within l =
        let seen = seen_by filled first_in in
        let q = and_parts (is_next (slice_get globals filled) (placed place) && (starts facts place.of value && are_typed seen value)) _ h in
        let r = and_parts (is_next (slice_get globals filled) (placed place)) (starts facts place.of value && are_typed seen value) q.0 in
        next (slice_get globals filled) refl r.0
        (globals_found (suc filled) rest q.1
        (λ p m. within p (inr (member_second p (totals lists (own_declared types facts modes program.globals) value)
        (total_of lists (own_declared types facts modes program.globals) rest) m)))
        (apart (IsListed types) (totals lists own_types value) (total_of lists own_types rest) l.1).1)
      where
        flat : FlatPlace
        flat = of_declared types facts modes (kind_of_declared program.globals (Declaring cursor) place) place

        next : (o : Option Placed) → slice_get globals filled ≡ o → is_next o (placed place) ≡ true → Each Found (drop (suc filled) globals) →
            Each Found (drop filled globals)
        next None e h rest = never h
        next (Some g) e h rest =
            let q = and_parts (nat_eq g.number place.number) (same g.of place.of) h in
            let number = eqb-true g.number place.number q.0 in
            let of = same_sound g.of place.of q.1 in
            let kind : flat.kind ≡ K.Global =
            ap (λ b. if b then K.Global else if cursor then K.Cursor else K.Local)
            (subst (λ n. is_global_number program.globals n ≡ true) number (told program.globals filled g e)) in
            let is : if_type_of known (place_named is_global start place.number) ≡ Some place.of =
            bodies.type_found types facts modes plan.sinks program.globals [] program.start numbered is_global flat place
            (bodies.in_blocks types facts modes plan.sinks program.globals [] program.start numbered flat (within flat (inl refl))) (ap is_global kind)
            (ap is_declared kind)
            refl refl l.0 in
            subst (Each Found) (sym (drop_next filled globals g e))
            (ap (λ n. if_type_of known (place_named is_global start n)) number ∙ is ∙ ap Some (sym of), rest)
    globals_found filled (Defer node last rest) h within l = never h

  pub globals_in : IsTyped program → is_numbered_program program ≡ true → Each Found globals
  globals_in typed numbered =
      let t = and_parts (are_typed_procs program program.procs) (is_typed_start program program.start)
      (and_parts (are_declared facts types) _ typed.typed).1 in
      let k = and_parts (are_numbered program.procs) (is_numbered [] program.start) numbered in
      let s = and_parts (are_among_types types (body_types [] program.start) && not (is_there (type_of_place program.start.result))) _ t.1 in
      let a = and_parts (are_among_types types (body_types [] program.start)) (not (is_there (type_of_place program.start.result))) s.0 in
      let l = body_listed [] program.start a.0 in
      globals_found k.1 l 0 program.start.stmts s.1 (λ q m. m) l.stmts
