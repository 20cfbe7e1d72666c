-- Declared places among the places of flat code: each stands where it is declared, in the order of its number, and is found by that.
use Rattle.std.proofs.Common.{◌≡◌, ◌≢◌, ℕ, suc, ◌≤◌, ◌⊎◌, inl, inr, Bool, true, false, List, [], ◌∷◌, ◌++◌, Some, None, refl, sym, ap, ◌∙◌, subst, arith}
use Rattle.std.specs.Prelude.{nat_le, nat_lt, ◌&&◌, if◌then◌else◌, map}
use Rattle.std.proofs.lemmas.Bool.{and_parts, and_from, leb-true, ne_eqb, lt-ltb}
use Rattle.nim_types.specs.Types.{Ty, Facts}
use Rattle.nim_program.specs.declared.program.Mode.{Mode}
use Rattle.nim_program.specs.Program.{Declared, Stmts}
use Rattle.nim_program.specs.Folds.{Part, Declaring, Handling, Seen, lists, total_of, own_places}
use Rattle.nim_program.specs.Numbering as numbering
use Rattle.nim_program.specs.Sizes.{is_global as is_global_number}
use Rattle.nim_program.specs.Typed.{type_if, part_types, place_types, own_types}
use Rattle.nim_program.proofs.ForCallers.{related_of}
use Rattle.flat_code.specs.declared.place.PlaceKind.{PlaceKind}
use Rattle.flat_code.specs.declared.place.PlaceKind.TheVariants as K
use Rattle.flat_code.specs.declared.place.FlatPlace.{FlatPlace}
use Rattle.flat_code.specs.Fits.{is_declared, is_own, place_named, type_by_kind, are_within}
use Rattle.flattening.specs.Formed.{IsListed}
use Rattle.flattening.specs.Numbering.{type_number}
use Rattle.flattening.specs.Places.{kind_of_declared, all_declared, own_declared}
use Rattle.flattening.proofs.Numbered.{named_here}
use Rattle.flattening.proofs.Parts.{Each, apart, both}
use Rattle.flattening.proofs.Simple.{never}

-- the kind of what a block declares
abbrev pub is_block : PlaceKind → Bool
is_block K.Local = true
is_block K.Cursor = true
is_block K.ForVar = true
is_block K.Caught = true
is_block K.Global = true
is_block kind = false

pub block_own : (kind : PlaceKind) → is_block kind ≡ true → is_own kind ≡ true
block_own K.Local h = refl
block_own K.Cursor h = refl
block_own K.ForVar h = refl
block_own K.Caught h = refl
block_own K.Global h = refl
block_own kind h = never h

pub block_declared : (kind : PlaceKind) → is_block kind ≡ true → is_declared kind ≡ true
block_declared K.Local h = refl
block_declared K.Cursor h = refl
block_declared K.ForVar h = refl
block_declared K.Caught h = refl
block_declared K.Global h = refl
block_declared kind h = never h

-- a declared place has its own type
pub declared_type : (kind : PlaceKind) (ty : Ty) → is_declared kind ≡ true → type_by_kind kind ty ≡ ty
declared_type K.Counter ty h = never h
declared_type kind ty h = refl

-- ---- places of declarations

pub record Like (types : List Ty) (p : FlatPlace) (d : Declared) : Type 0 where
  pub number : p.number ≡ d.number
  pub of : p.ty ≡ type_number types d.of
  pub block : is_block p.kind ≡ true
  pub waits : p.waits ≡ None

abbrev pub Likes : List Ty → List FlatPlace → List Declared → Type 0
Likes types [] [] = Unit {0}
Likes types (p ∷ ps) (d ∷ ds) = Like types p d × Likes types ps ds
Likes types [] (d ∷ ds) = ⊥
Likes types (p ∷ ps) [] = ⊥

likes_both : (types : List Ty) (ps qs : List FlatPlace) (ds es : List Declared) → Likes types ps ds → Likes types qs es → Likes types (ps ++ qs) (ds ++ es)
likes_both types [] qs [] es h k = k
likes_both types [] qs (d ∷ ds) es h k = absurd h
likes_both types (p ∷ ps) qs [] es h k = absurd h
likes_both types (p ∷ ps) qs (d ∷ ds) es h k = (h.0, likes_both types ps qs ds es h.1 k)

kind_block : (globals : List Declared) (part : Part) (d : Declared) → is_block (kind_of_declared globals part d) ≡ true
kind_block globals (Declaring cursor) d = by (is_global_number globals d.number) cursor
  where
    by : (g c : Bool) → is_block (if g then K.Global else if c then K.Cursor else K.Local) ≡ true
    by true c = refl
    by false true = refl
    by false false = refl
kind_block globals Handling d = refl
kind_block globals part d = refl

module _ (types : List Ty) (facts : Facts) (modes : (proc position : ℕ) → Mode) where
  all_like : (kind : Declared → PlaceKind) → ((d : Declared) → is_block (kind d) ≡ true) → (ds : List Declared) →
      Likes types (all_declared types facts modes kind ds) ds
  all_like kind is [] = tt
  all_like kind is (d ∷ ds) = (record { number = refl; of = refl; block = is d; waits = refl }, all_like kind is ds)

  pub block_like : (globals : List Declared) (b : Stmts) →
      Likes types (total_of lists (own_declared types facts modes globals) b) (total_of lists own_places b)
  block_like globals b = related_of lists lists (own_declared types facts modes globals) own_places (Likes types) (record {
    none = tt;
    plus = λ ps qs ds es h k. likes_both types ps qs ds es h k;
    own = λ seen. all_like (kind_of_declared globals seen.part) (kind_block globals seen.part) seen.places;
  }) b

-- the types of what a block declares stand in it
pub place_listed : (types : List Ty) (ds : List Declared) → Each (IsListed types) (map (λ (d : Declared). d.of) ds) →
    Each (λ (d : Declared). IsListed types d.of) ds
place_listed types [] h = tt
place_listed types (d ∷ ds) h = (h.0, place_listed types ds h.1)

own_listed : (types : List Ty) (seen : Seen) → Each (IsListed types) (own_types seen) → Each (λ (d : Declared). IsListed types d.of) (own_places seen)
own_listed types seen h = place_listed types seen.places (apart (IsListed types) (place_types seen.places) (type_if seen.ty ++ part_types seen.part) h).0

pub block_listed : (types : List Ty) (b : Stmts) → Each (IsListed types) (total_of lists own_types b) →
    Each (λ (d : Declared). IsListed types d.of) (total_of lists own_places b)
block_listed types b =
    related_of lists lists own_types own_places (λ tys ds. Each (IsListed types) tys → Each (λ (d : Declared). IsListed types d.of) ds) (record {
      none = λ h. tt;
      plus = λ ss ts ds es h k l. let q = apart (IsListed types) ss ts l in both (λ (d : Declared). IsListed types d.of) ds es (h q.0) (k q.1);
      own = own_listed types;
    }) b

-- ---- numbers that rise

abbrev pub numbers : List FlatPlace → List ℕ
numbers [] = []
numbers (p ∷ ps) = p.number ∷ numbers ps

abbrev pub Member : FlatPlace → List FlatPlace → Type 0
Member p [] = ⊥
Member p (q ∷ qs) = (p ≡ q) ⊎ Member p qs

pub member_first : (p : FlatPlace) (ps qs : List FlatPlace) → Member p ps → Member p (ps ++ qs)
member_first p [] qs h = absurd h
member_first p (q ∷ ps) qs (inl e) = inl e
member_first p (q ∷ ps) qs (inr h) = inr (member_first p ps qs h)

pub member_second : (p : FlatPlace) (ps qs : List FlatPlace) → Member p qs → Member p (ps ++ qs)
member_second p [] qs h = h
member_second p (q ∷ ps) qs h = inr (member_second p ps qs h)

-- none is less than the first number may be
least : (from to : ℕ) (ps : List FlatPlace) (p : FlatPlace) → numbering.rise_to from to (numbers ps) ≡ true → Member p ps → from ≤ p.number
least from to [] p h m = absurd m
least from to (q ∷ ps) p h (inl e) =
    let r = leb-true from q.number (and_parts (nat_le from q.number) _ h).0 in subst (λ (r : FlatPlace). from ≤ r.number) (sym e) r
least from to (q ∷ ps) p h (inr m) =
    let k = and_parts (nat_le from q.number) (numbering.rise_to (suc q.number) to (numbers ps)) h in
    let first = leb-true from q.number k.0 in
    let rest = least (suc q.number) to ps p k.1 m in
    omega (arith, first, rest)

passed : (is_kind : PlaceKind → Bool) (q : FlatPlace) (ps : List FlatPlace) (n : ℕ) → q.number ≢ n → place_named is_kind (q ∷ ps) n ≡ place_named is_kind ps n
passed is_kind q ps n ne = ap (λ b. if b && is_kind q.kind then Some q else place_named is_kind ps n) (ne_eqb q.number n ne)

-- where numbers rise, a place is found by its number among those of its kind
pub found_by : (is_kind : PlaceKind → Bool) (from to : ℕ) (ps rest : List FlatPlace) (p : FlatPlace) → numbering.rise_to from to (numbers ps) ≡ true →
    Member p ps → is_kind p.kind ≡ true → place_named is_kind (ps ++ rest) p.number ≡ Some p
found_by is_kind from to [] rest p h m is = absurd m
found_by is_kind from to (q ∷ ps) rest p h (inl e) is =
    subst (λ (r : FlatPlace). place_named is_kind (q ∷ (ps ++ rest)) r.number ≡ Some r) (sym e)
    (named_here is_kind q (ps ++ rest) (subst (λ (r : FlatPlace). is_kind r.kind ≡ true) e is))
found_by is_kind from to (q ∷ ps) rest p h (inr m) is =
    let k = (and_parts (nat_le from q.number) (numbering.rise_to (suc q.number) to (numbers ps)) h).1 in
    let behind = least (suc q.number) to ps p k m in
    passed is_kind q (ps ++ rest) p.number (λ e. absurd (omega (arith, behind, e))) ∙ found_by is_kind (suc q.number) to ps rest p k m is

-- ---- places in order

pub within_none : (least to : ℕ) (ts : List FlatPlace) → Each (λ (p : FlatPlace). is_declared p.kind ≡ false) ts → are_within least to ts ≡ true
within_none least to [] h = refl
within_none least to (p ∷ ts) h =
    ap (λ b. if b then nat_le least p.number && (nat_lt p.number to && are_within (suc p.number) to ts) else are_within least to ts) h.0
    ∙ within_none least to ts h.1

last_less : (from to : ℕ) (ns : List ℕ) → numbering.rise_to from to ns ≡ true → from ≤ to
last_less from to [] h = leb-true from to h
last_less from to (n ∷ ns) h =
    let k = and_parts (nat_le from n) (numbering.rise_to (suc n) to ns) h in
    let first = leb-true from n k.0 in
    let rest = last_less (suc n) to ns k.1 in
    omega (arith, first, rest)

pub rise_within : (from to : ℕ) (ps ts : List FlatPlace) → Each (λ (p : FlatPlace). is_declared p.kind ≡ true) ps →
    Each (λ (p : FlatPlace). is_declared p.kind ≡ false) ts → numbering.rise_to from to (numbers ps) ≡ true → are_within from to (ps ++ ts) ≡ true
rise_within from to [] ts d u h = within_none from to ts u
rise_within from to (p ∷ ps) ts d u h =
    let k = and_parts (nat_le from p.number) (numbering.rise_to (suc p.number) to (numbers ps)) h in
    ap (λ b. if b then nat_le from p.number && (nat_lt p.number to && are_within (suc p.number) to (ps ++ ts)) else are_within from to (ps ++ ts)) d.0
    ∙ and_from _ _ k.0 (and_from _ _ (lt-ltb p.number to (last_less (suc p.number) to (numbers ps) k.1)) (rise_within (suc p.number) to ps ts d.1 u k.1))
