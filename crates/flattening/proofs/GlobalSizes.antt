-- The globals in code take no more than those of its program: each stands there once at most.
use Rattle.std.proofs.Common.{◌≡◌, ℕ, suc, ◌+◌, ◌≤◌, ◌<◌, Bool, true, false, List, [], ◌∷◌, ◌++◌, Option, Some, None, refl, sym, ap, arith}
use Rattle.std.specs.Prelude.{nat_eq, nat_le, ◌&&◌, ◌||◌, if◌then◌else◌, map}
use Rattle.std.proofs.lemmas.Bool.{and_parts, and_from, eqb-true, eq-eqb, leb-true}
use Rattle.nim_types.specs.Types.{Ty, Facts}
use Rattle.nim_plan.specs.declared.plan.Plan.{Plan}
use Rattle.nim_program.specs.declared.program.Mode.{Mode}
use Rattle.nim_types.specs.Table.{type_at}
use Rattle.nim_program.specs.Program.{Declared, Stmts, Program}
use Rattle.nim_program.specs.Folds.{Part, Declaring, Handling, lists, total_of}
use Rattle.nim_program.specs.Numbering as numbering
use Rattle.nim_program.specs.Scopes.{placed}
use Rattle.nim_program.specs.Sizes.{type_bytes, is_global as is_global_number, globals_size}
use Rattle.nim_program.specs.Typed.{IsTyped}
use Rattle.nim_program.proofs.ForCallers.{kept_of}
use Rattle.flat_code.specs.declared.place.FlatPlace.{FlatPlace}
use Rattle.flat_code.specs.declared.place.PlaceKind.{PlaceKind}
use Rattle.flat_code.specs.declared.place.PlaceKind.TheVariants as K
use Rattle.flat_code.specs.Fits.{is_global, is_declared, place_named, place_type, type_by_kind, if_type_of}
use Rattle.flat_code.specs.Scene.{Known}
use Rattle.flat_code.specs.Sizes.{global_bytes, globals_bytes}
use Rattle.flattening.specs.Flattened.{known_of, modes_of}
use Rattle.flattening.specs.Places.{kind_of_declared, all_declared, own_declared, result_places, body_places}
use Rattle.flattening.proofs.Declared.{numbers}
use Rattle.flattening.proofs.DeclaredGlobals.{Found, globals_in}
use Rattle.flattening.proofs.FitBodies as bodies
use Rattle.flattening.proofs.FitParts.{never}
use Rattle.flattening.proofs.Parts.{Each, both}

-- ---- a place of the kind has the number of one

abbrev pub IsAmong : List Declared → FlatPlace → Type 0
IsAmong globals p = is_global p.kind ≡ true → is_global_number globals p.number ≡ true

module _ (types : List Ty) (facts : Facts) (modes : (proc position : ℕ) → Mode) (globals : List Declared) where
  kind_told : (part : Part) (d : Declared) → is_global (kind_of_declared globals part d) ≡ true → is_global_number globals d.number ≡ true
  kind_told (Declaring cursor) d h = by (is_global_number globals d.number) refl cursor h
    where
      by : (g : Bool) → is_global_number globals d.number ≡ g → (c : Bool) → is_global (if g then K.Global else if c then K.Cursor else K.Local) ≡ true →
          is_global_number globals d.number ≡ true
      by true e c h = e
      by false e true h = never h
      by false e false h = never h
  kind_told Handling d h = never h
  kind_told part d h = never h

  all_told : (kind : Declared → PlaceKind) → ((d : Declared) → is_global (kind d) ≡ true → is_global_number globals d.number ≡ true) → (ds : List Declared) →
      Each (IsAmong globals) (all_declared types facts modes kind ds)
  all_told kind told [] = tt
  all_told kind told (d ∷ ds) = (told d, all_told kind told ds)

  pub block_told : (b : Stmts) → Each (IsAmong globals) (total_of lists (own_declared types facts modes globals) b)
  block_told b = kept_of lists (own_declared types facts modes globals) (Each (IsAmong globals)) (record {
    none = tt;
    plus = λ ps qs h k. both (IsAmong globals) ps qs h k;
    own = λ seen. all_told (kind_of_declared globals seen.part) (kind_told seen.part) seen.places;
  }) b

-- ---- sums

module _ (known : Known) where
  abbrev sized : FlatPlace → ℕ
  sized p = type_bytes known.facts (type_at known.types p.ty)

  abbrev one_bytes : (n : ℕ) → FlatPlace → ℕ
  one_bytes n p = if nat_eq p.number n && is_global p.kind then sized p else 0

  -- of the globals with a number
  abbrev named_bytes : (n : ℕ) → List FlatPlace → ℕ
  named_bytes n [] = 0
  named_bytes n (p ∷ ps) = one_bytes n p + named_bytes n ps

  -- of a place that is found
  abbrev found_bytes : Option Ty → ℕ
  found_bytes None = 0
  found_bytes (Some ty) = type_bytes known.facts ty

  none_named : (n from to : ℕ) (ps : List FlatPlace) → n < from → numbering.rise_to from to (numbers ps) ≡ true → named_bytes n ps ≡ 0
  none_named n from to [] less h = refl
  none_named n from to (p ∷ ps) less h =
      let k = and_parts (nat_le from p.number) (numbering.rise_to (suc p.number) to (numbers ps)) h in
      let least = leb-true from p.number k.0 in
      let rest = none_named n (suc p.number) to ps (omega (arith, less, least)) k.1 in
      by (nat_eq p.number n) refl (omega (arith, less, least)) rest
    where
      by : (b : Bool) → nat_eq p.number n ≡ b → n < p.number → named_bytes n ps ≡ 0 → (if b && is_global p.kind then sized p else 0) + named_bytes n ps ≡ 0
      by true e behind rest = let same = eqb-true p.number n e in absurd (omega (arith, behind, same))
      by false e behind rest = omega (arith, rest)

  -- a global's own type is that of its place
  own_type : (p : FlatPlace) → is_global p.kind ≡ true → place_type known p ≡ type_at known.types p.ty
  own_type p h = by p.kind h
    where
      by : (kind : PlaceKind) → is_global kind ≡ true → type_by_kind kind (type_at known.types p.ty) ≡ type_at known.types p.ty
      by K.Global h = refl
      by kind h = never h

  -- where numbers rise, those with a number are the one that is found by it
  named_most : (n from to : ℕ) (ps rest : List FlatPlace) → numbering.rise_to from to (numbers ps) ≡ true →
      named_bytes n ps ≤ found_bytes (if_type_of known (place_named is_global (ps ++ rest) n))
  named_most n from to [] rest h = omega arith
  named_most n from to (p ∷ ps) rest h =
      let k = and_parts (nat_le from p.number) (numbering.rise_to (suc p.number) to (numbers ps)) h in
      by (nat_eq p.number n && is_global p.kind) refl (named_most n (suc p.number) to ps rest k.1)
      (λ same. none_named n (suc p.number) to ps (omega (arith, same)) k.1)
    where
      by : (b : Bool) → nat_eq p.number n && is_global p.kind ≡ b → named_bytes n ps ≤ found_bytes (if_type_of known (place_named is_global (ps ++ rest) n)) →
          (p.number ≡ n → named_bytes n ps ≡ 0) →
          (if b then sized p else 0) + named_bytes n ps ≤ found_bytes (if_type_of known (if b then Some p else place_named is_global (ps ++ rest) n))
      by true e more none =
          let q = and_parts (nat_eq p.number n) (is_global p.kind) e in
          let rest = none (eqb-true p.number n q.0) in
          let own = ap (type_bytes known.facts) (own_type p q.1) in
          omega (arith, rest, own)
      by false e more none = omega (arith, more)

  -- of all of them, by their numbers
  abbrev all_named : List Declared → List FlatPlace → ℕ
  all_named [] ps = 0
  all_named (g ∷ gs) ps = named_bytes g.number ps + all_named gs ps

  abbrev hits : List Declared → FlatPlace → ℕ
  hits [] p = 0
  hits (g ∷ gs) p = one_bytes g.number p + hits gs p

  all_none : (gs : List Declared) → all_named gs [] ≡ 0
  all_none [] = refl
  all_none (g ∷ gs) = let h = all_none gs in omega (arith, h)

  all_next : (gs : List Declared) (p : FlatPlace) (ps : List FlatPlace) → all_named gs (p ∷ ps) ≡ hits gs p + all_named gs ps
  all_next [] p ps = omega arith
  all_next (g ∷ gs) p ps = let h = all_next gs p ps in omega (arith, h)

  hit : (gs : List Declared) (p : FlatPlace) → is_global p.kind ≡ true → is_global_number gs p.number ≡ true → sized p ≤ hits gs p
  hit [] p is h = never h
  hit (g ∷ gs) p is h = by (nat_eq g.number p.number) refl h (hit gs p is)
    where
      by : (b : Bool) → nat_eq g.number p.number ≡ b → b || is_global_number gs p.number ≡ true →
          (is_global_number gs p.number ≡ true → sized p ≤ hits gs p) → sized p ≤ one_bytes g.number p + hits gs p
      by true e h more =
          let same : one_bytes g.number p ≡ sized p =
          ap (λ b. if b then sized p else 0)
          (and_from (nat_eq p.number g.number) (is_global p.kind) (eq-eqb p.number g.number (sym (eqb-true g.number p.number e))) is) in
          omega (arith, same)
      by false e h more = let rest = more h in omega (arith, rest)

  own_most : (gs : List Declared) (p : FlatPlace) → IsAmong gs p → global_bytes p.kind (sized p) ≤ hits gs p
  own_most gs p among = by p.kind refl
    where
      by : (kind : PlaceKind) → p.kind ≡ kind → global_bytes kind (sized p) ≤ hits gs p
      by K.Global e = let is = ap is_global e in hit gs p is (among is)
      by kind e = omega arith

  all_most : (gs : List Declared) (ps : List FlatPlace) → Each (IsAmong gs) ps → globals_bytes known ps ≤ all_named gs ps
  all_most gs [] h = omega arith
  all_most gs (p ∷ ps) h =
      let own = own_most gs p h.0 in
      let rest = all_most gs ps h.1 in
      let next = all_next gs p ps in
      omega (arith, own, rest, next)

  bytes_both : (ps qs : List FlatPlace) → globals_bytes known (ps ++ qs) ≡ globals_bytes known ps + globals_bytes known qs
  bytes_both [] qs = omega arith
  bytes_both (p ∷ ps) qs = let h = bytes_both ps qs in omega (arith, h)

  no_globals : (ps : List FlatPlace) → Each (λ (p : FlatPlace). is_declared p.kind ≡ false) ps → globals_bytes known ps ≡ 0
  no_globals [] h = refl
  no_globals (p ∷ ps) h = let rest = no_globals ps h.1 in let own = by p.kind h.0 in omega (arith, rest, own)
    where
      by : (kind : PlaceKind) → is_declared kind ≡ false → global_bytes kind (sized p) ≡ 0
      by K.Global h = never (sym h)
      by kind h = refl

-- ---- of a program

module _ (program : Program) (plan : Plan) (typed : IsTyped program) (numbered : numbering.is_numbered_program program ≡ true) where
  abbrev modes : (proc position : ℕ) → Mode
  modes = modes_of program plan

  abbrev known : Known
  known = known_of program

  abbrev start : List FlatPlace
  start = body_places program.types program.facts modes plan.sinks program.globals [] program.start

  start_numbered : numbering.is_numbered [] program.start ≡ true
  start_numbered = (and_parts (numbering.are_numbered program.procs) (numbering.is_numbered [] program.start) numbered).1

  abbrev front : List FlatPlace
  front = bodies.front program.types program.facts modes plan.sinks program.globals [] program.start

  abbrev temporaries : List FlatPlace
  temporaries = bodies.temporaries program.types program.facts modes plan.sinks program.globals [] program.start

  result_told : (result : Option Declared) (others : List FlatPlace) → Each (IsAmong program.globals) others →
      Each (IsAmong program.globals) (result_places program.types program.facts modes result ++ others)
  result_told None others h = h
  result_told (Some d) others h = ((λ e. never e), h)

  -- by its number each global has its type
  numbers_most : (gs : List Declared) → Each (Found program plan) (map placed gs) → all_named known gs front ≤ globals_size program.facts gs
  numbers_most [] found = omega arith
  numbers_most (g ∷ gs) found =
      let named = named_most known g.number program.start.first (program.start.first + program.start.places) front temporaries
      (bodies.rise program.types program.facts modes plan.sinks program.globals [] program.start start_numbered) in
      let whole = ap (λ ps. found_bytes known (if_type_of known (place_named is_global ps g.number)))
      (bodies.split program.types program.facts modes plan.sinks program.globals [] program.start) in
      let is = ap (found_bytes known) found.0 in
      let rest = numbers_most gs found.1 in
      omega (arith, named, whole, is, rest)

  pub globals_most : globals_bytes known start ≤ globals_size program.facts program.globals
  globals_most =
      let all = all_most known program.globals front
      (result_told program.start.result _ (block_told program.types program.facts modes program.globals program.start.stmts)) in
      let most = numbers_most program.globals (globals_in program plan typed numbered) in
      let two = bytes_both known front temporaries in
      let none = no_globals known temporaries (bodies.undeclared program.types program.facts modes plan.sinks program.globals [] program.start) in
      let whole = ap (globals_bytes known) (bodies.split program.types program.facts modes plan.sinks program.globals [] program.start) in
      omega (arith, all, most, two, none, whole)
