-- What is true of the places of a procedure: what is found among them, how each is housed, and where.
use Rattle.std.proofs.Common.{◌≡◌, ◌⊎◌, inl, inr, ℕ, suc, ◌%◌, ◌≤◌, ◌<◌, List, [], ◌∷◌, length, Option, Some}
use Rattle.std.proofs.Common.{None, Bool, true, false, not, ◌&&◌}
use Rattle.std.proofs.Common.{refl, sym, ap, subst, ◌∙◌, arith, if◌then◌else◌, nat_eq, nat_le}
use Rattle.std.specs.Prelude.{nat_lt}
use Rattle.std.proofs.lemmas.Bool.{and_parts, and_from, and_left, and_right, cases_Bool, eqb-true, eq-eqb, ne_eqb, leb-true, ltb-true, not-true}
use Rattle.std.proofs.lemmas.Bool.{true≢false, false≢true}
use Rattle.nim_types.specs.declared.types.TypeDef.{TypeDef}
use Rattle.nim_types.specs.Types.{Ty}
use Rattle.nim_types.specs.Table.{type_at, types_in, facts_in, IsTable}
use Rattle.nim_types.specs.Forms.{hooked, form_of, levels}
use Rattle.nim_program.specs.declared.program.Mode.TheVariants.{Var, Plain}
use Rattle.flat_code.specs.declared.line.Line.{Line}
use Rattle.flat_code.specs.declared.place.PlaceKind.{PlaceKind}
use Rattle.flat_code.specs.declared.place.PlaceKind.TheVariants as K
use Rattle.flat_code.specs.declared.place.FlatPlace.{FlatPlace}
use Rattle.nim_meaning.specs.Unbuilt.{is_unbuilt}
use Rattle.flat_code.specs.Scene.{known_in}
use Rattle.flat_code.specs.Shapes.{Shape, number, row, parts, Shapes, shape_of}
use Rattle.flat_code.specs.Fits.{is_value, is_declared, is_global, is_own, type_by_kind, place_named, or_result, result_at, are_within}
use Rattle.word_lowering.specs.declared.homes.Alias.{Alias}
use Rattle.word_lowering.specs.declared.homes.Alias.TheVariants as alias
use Rattle.word_lowering.specs.declared.homes.TheConstants.{OWN_FROM}
use Rattle.word_lowering.specs.declared.homes.Home.{Home}
use Rattle.word_lowering.specs.declared.homes.Home.TheVariants.{Variable, Placed, Static}
use Rattle.word_lowering.specs.declared.homes.Housed.{Housed}
use Rattle.word_lowering.specs.declared.homes.Free.{Free}
use Rattle.word_lowering.specs.OwnedCode.{has_handle}
use Rattle.word_lowering.specs.Stored.{bytes_at, entry_at, is_hooked, is_word, count_in, element_bytes, part_at, HaveForms}
use Rattle.word_lowering.specs.Aliases.{alias_for, addressed, is_among}
use Rattle.word_lowering.specs.Layouts.{is_kept, is_static, home_at, home_by, free_behind, free_by, word_by, bytes_by, place_word, place_bytes, place_kept}
use Rattle.word_lowering.specs.Layouts.{address_by, holds_address, owns, place_lent, lent_by}
use Rattle.word_lowering.specs.Layouts.{place_alias, housed, behind, all_housed, found, nowhere, is_result, result_in}
use Rattle.word_lowering.specs.MayLower.{is_known, all_known}
use Rattle.word_lowering.proofs.BlankShapes.{of_handles}
use Rattle.word_lowering.proofs.ShapeFacts.{never, nth_shape, shape_bytes, of_numbers}
use Rattle.word_lowering.proofs.ShapePaths.{shapes_before}
use Rattle.word_lowering.proofs.HomesApart.{Each, IsBetween}
use Rattle.word_lowering.proofs.LayoutBounds.{place_whole}
use Rattle.word_lowering.proofs.TypeRules.{type_hooked, type_plain, type_unhooked}
use Rattle.word_lowering.proofs.TypeShapes.{type_bytes, type_handles, type_is_word, type_many, type_row, type_part}
use Rattle.word_lowering.proofs.Sites.{is_one_word, Among, There, Housing, in_variable, by_address, in_places, in_data, InVariable, InMemory, has_hooks_by}

-- ---- kinds

kind_result : (kind : PlaceKind) → (kind ≡ K.Result) ⊎ ((is_result kind ≡ false) × ((n : ℕ) (o : Option ℕ) → or_result kind n o ≡ o))
kind_result K.Result = inl refl
kind_result kind = inr (refl, λ n o. refl)

pub own_declared : (kind : PlaceKind) → is_own kind ≡ true → is_declared kind ≡ true
own_declared (K.Param mode) h = refl
own_declared kind h = h

pub global_is : (kind : PlaceKind) → is_global kind ≡ true → kind ≡ K.Global
global_is K.Global h = refl
global_is kind h = never h

static_is : (start : Bool) (kind : PlaceKind) → is_static start kind ≡ true → (kind ≡ K.Global) × (start ≡ true)
static_is start K.Global h = (refl, h)
static_is start kind h = never h

-- what is in a variable is an address or a word
kept_is : (lent taken w : Bool) (kind : PlaceKind) → is_kept lent taken (word_by kind w) kind ≡ true
    → (address_by lent kind ≡ true) ⊎ ((address_by lent kind ≡ false) × (word_by kind w ≡ true))
kept_is lent taken w (K.Param Var) h = inl refl
kept_is true taken w (K.Param Plain) h = inl refl
kept_is false taken w (K.Param Plain) h = inr (refl, (and_parts w (not taken) h).0)
kept_is true taken w K.ForVar h = inl refl
kept_is false taken w K.ForVar h = inr (refl, (and_parts w (not taken) h).0)
kept_is lent taken w K.Location h = inl refl
kept_is lent taken w K.Within h = inl refl
kept_is lent taken w K.Temp h = inr (refl, h)
kept_is lent taken w K.Counter h = inr (refl, refl)
kept_is lent taken w kind h = inr (refl, (and_parts w (not taken) h).0)

unkept_is : (lent taken w : Bool) (kind : PlaceKind) → is_kept lent taken w kind ≡ false → address_by lent kind ≡ false
unkept_is lent taken w (K.Param Var) h = absurd (true≢false h)
unkept_is true taken w (K.Param Plain) h = absurd (true≢false h)
unkept_is false taken w (K.Param Plain) h = refl
unkept_is true taken w K.ForVar h = absurd (true≢false h)
unkept_is false taken w K.ForVar h = refl
unkept_is lent taken w K.Location h = absurd (true≢false h)
unkept_is lent taken w K.Within h = absurd (true≢false h)
unkept_is lent taken w kind h = refl

-- a word that is a value is in a variable
value_kept : (start lent taken w : Bool) (kind : PlaceKind) (f : Free) → is_value kind ≡ true → w ≡ true
    → InVariable (home_at (is_static start kind) (is_kept lent taken w kind) f)
value_kept start lent taken w K.Temp f h e = subst (λ b. InVariable (home_at false b f)) (sym e) tt
value_kept start lent taken w K.Counter f h e = tt
value_kept start lent taken w kind f h e = never h

placed_home : (w : Bool) (f : Free) → InMemory (home_at false (w && not true) f)
placed_home true f = tt
placed_home false f = tt

-- a place of its own whose address is taken is in memory
taken_home : (start lent w : Bool) (kind : PlaceKind) (f : Free) → (is_own kind && not (address_by lent kind)) ≡ true
    → InMemory (home_at (is_static start kind) (is_kept lent true w kind) f)
taken_home start lent w (K.Param Var) f h = never h
taken_home start true w (K.Param Plain) f h = never h
taken_home start false w (K.Param Plain) f h = placed_home w f
taken_home start true w K.ForVar f h = never h
taken_home start false w K.ForVar f h = placed_home w f
taken_home start lent w K.Temp f h = never h
taken_home start lent w K.Location f h = never h
taken_home start lent w K.Within f h = never h
taken_home start lent w K.Counter f h = never h
taken_home true lent w K.Global f h = tt
taken_home false lent w K.Global f h = placed_home w f
taken_home start lent w kind f h = placed_home w f

pub declared_own : (kind : PlaceKind) (n : ℕ) (lines : List Line) → is_declared kind ≡ true → alias_for kind n lines ≡ alias.Own
declared_own K.Temp n lines h = never h
declared_own K.Location n lines h = never h
declared_own K.Within n lines h = never h
declared_own kind n lines h = refl

-- ---- among places

abbrev pub AmongPlaces : FlatPlace → List FlatPlace → Type 0
AmongPlaces p [] = ⊥
AmongPlaces p (q ∷ ps) = (q ≡ p) ⊎ AmongPlaces p ps

pub each_among : (P : Housed → Type 0) (hs : List Housed) (h : Housed) → Each P hs → Among h hs → P h
each_among P [] h e i = absurd i
each_among P (k ∷ hs) h e (inl s) = subst P s e.0
each_among P (k ∷ hs) h e (inr i) = each_among P hs h e.1 i

pub known_among : (table : List TypeDef) (hs : List Housed) (h : Housed) → all_known table hs ≡ true → Among h hs → is_known table h.ty h.kind ≡ true
known_among table [] h e i = absurd i
known_among table (k ∷ hs) h e (inl s) =
    subst (λ z. is_known table z.ty z.kind ≡ true) s (and_parts (is_known table k.ty k.kind) (all_known table hs) e).0
known_among table (k ∷ hs) h e (inr i) = known_among table hs h (and_parts (is_known table k.ty k.kind) (all_known table hs) e).1 i

-- where a home begins is a whole word
abbrev pub IsAligned : Home → Type 0
IsAligned (Variable v) = Unit {0}
IsAligned (Placed at) = at % 4 ≡ 0
IsAligned (Static at) = at % 4 ≡ 0

pub record Aligned (f : Free) : Type 0 where
  pub byte : f.byte % 4 ≡ 0
  pub datum : f.datum % 4 ≡ 0

home_aligned : (static kept : Bool) (f : Free) → Aligned f → IsAligned (home_at static kept f)
home_aligned true kept f a = a.datum
home_aligned false true f a = tt
home_aligned false false f a = a.byte

next_aligned : (static kept : Bool) (n : ℕ) (f : Free) → n % 4 ≡ 0 → Aligned f → Aligned (free_behind static kept n f)
next_aligned true kept n f w a = let d = a.datum in record { byte = a.byte; datum = omega arith }
next_aligned false true n f w a = record { byte = a.byte; datum = a.datum }
next_aligned false false n f w a = let b = a.byte in record { byte = omega arith; datum = a.datum }

aligned_by : (name : Alias) (low high : Free) → Aligned low → Aligned high → Aligned (free_by name low high)
aligned_by alias.Own low high l h = h
aligned_by (alias.Place p global) low high l h = l
aligned_by (alias.Value t) low high l h = l
aligned_by (alias.Node n) low high l h = l
aligned_by (alias.Text behind bytes) low high l h = l

-- in what is found
abbrev pub Finds : (is_kind : PlaceKind → Bool) → ℕ → FlatPlace → Bool
Finds is_kind n p = nat_eq p.number n && is_kind p.kind

module _ (table : List TypeDef) (start : Bool) (lines : List Line) where
  abbrev all : Free → List FlatPlace → List Housed
  all free ps = all_housed table start lines free ps

  abbrev one : Free → FlatPlace → Housed
  one free p = housed table start lines free p

  abbrev next : Free → FlatPlace → Free
  next free p = behind table start lines free p

  abbrev name_of : FlatPlace → Alias
  name_of p = place_alias table start lines p

  abbrev kept_in : FlatPlace → Bool
  kept_in p = place_kept table start lines p

  pub own_home : (f : Free) (p : FlatPlace) → name_of p ≡ alias.Own → (one f p).home ≡ home_at (is_static start p.kind) (kept_in p) f
  own_home f p own = ap (λ a. home_by a (home_at (is_static start p.kind) (kept_in p) f)) own

  pub all_aligned : (free : Free) (ps : List FlatPlace) → Aligned free → Each (λ h. h.alias ≡ alias.Own → IsAligned h.home) (all free ps)
  all_aligned free [] a = tt
  all_aligned free (p ∷ ps) a =
      let s : Bool = is_static start p.kind in
      let behind_it = next_aligned s (kept_in p) (place_bytes table start lines p) free (place_whole table start lines p) a in (
        λ own. subst IsAligned (sym (own_home free p own)) (home_aligned s (kept_in p) free a),
        all_aligned (next free p) ps (aligned_by (name_of p) free (free_behind s (kept_in p) (place_bytes table start lines p) free) a behind_it),
      )

  -- each is a place that is housed
  pub comes : (free : Free) (ps : List FlatPlace) (h : Housed) → Among h (all free ps) → (f : Free) × (p : FlatPlace) × AmongPlaces p ps ×
      (one f p ≡ h)
  comes free [] h i = absurd i
  comes free (p ∷ ps) h (inl e) = (free, p, inl refl, e)
  comes free (p ∷ ps) h (inr i) = let r = comes (next free p) ps h i in (r.0, r.1, inr r.2, r.3)

  -- ---- what is found

  -- a place of a kind with a number, the first one
  pub record IsFound (free : Free) (ps : List FlatPlace) (is_kind : PlaceKind → Bool) (n : ℕ) : Type 0 where
    pub place : FlatPlace
    pub taken : Free
    pub named : place_named is_kind ps n ≡ Some place
    pub is : found is_kind n (all free ps) ≡ one taken place
    pub among : Among (one taken place) (all free ps)
    pub number : place.number ≡ n
    pub kind : is_kind place.kind ≡ true

  pub record IsMissing (free : Free) (ps : List FlatPlace) (is_kind : PlaceKind → Bool) (n : ℕ) : Type 0 where
    pub named : place_named is_kind ps n ≡ None
    pub none : (h : Housed) → Among h (all free ps) → h.number ≡ n → is_kind h.kind ≡ true → ⊥
    pub is : found is_kind n (all free ps) ≡ nowhere

  pub find : (free : Free) (ps : List FlatPlace) (is_kind : PlaceKind → Bool) (n : ℕ) → IsFound free ps is_kind n ⊎ IsMissing free ps is_kind n
  find free [] is_kind n = inr (record { named = refl; none = λ h i e k. i; is = refl })
  find free (p ∷ ps) is_kind n = by (nat_eq p.number n && is_kind p.kind) refl (find (next free p) ps is_kind n)
    where
      by : (b : Bool) → (nat_eq p.number n && is_kind p.kind) ≡ b → IsFound (next free p) ps is_kind n ⊎ IsMissing (next free p) ps is_kind n
          → IsFound free (p ∷ ps) is_kind n ⊎ IsMissing free (p ∷ ps) is_kind n
      by true t r =
          let q = and_parts (nat_eq p.number n) (is_kind p.kind) t in
          inl (record {
            place = p;
            taken = free;
            named = ap (λ b. if b then Some p else place_named is_kind ps n) t;
            is = ap (λ b. if b then one free p else found is_kind n (all (next free p) ps)) t;
            among = inl refl;
            number = eqb-true p.number n q.0;
            kind = q.1;
          })
      by false t (inl r) = inl (record {
        place = r.place;
        taken = r.taken;
        named = ap (λ b. if b then Some p else place_named is_kind ps n) t ∙ r.named;
        is = ap (λ b. if b then one free p else found is_kind n (all (next free p) ps)) t ∙ r.is;
        among = inr r.among;
        number = r.number;
        kind = r.kind;
      })
      by false t (inr r) = inr (record {
        named = ap (λ b. if b then Some p else place_named is_kind ps n) t ∙ r.named;
        none = none;
        is = ap (λ b. if b then one free p else found is_kind n (all (next free p) ps)) t ∙ r.is;
      })
        where
          none : (h : Housed) → Among h (all free (p ∷ ps)) → h.number ≡ n → is_kind h.kind ≡ true → ⊥
          none h (inl s) e k =
              true≢false (sym (and_from (nat_eq p.number n) (is_kind p.kind) (eq-eqb p.number n (ap (λ (z : Housed). z.number) s ∙ e))
              (ap (λ (z : Housed). is_kind z.kind) s ∙ k)) ∙ t)
          none h (inr i) e k = r.none h i e k

  -- it is there
  pub found_there : (free : Free) (ps : List FlatPlace) (is_kind : PlaceKind → Bool) (n : ℕ) → IsFound free ps is_kind n → There (all free ps) is_kind n
  found_there free ps is_kind n r = record {
    among = subst (λ z. Among z (all free ps)) (sym r.is) r.among;
    number = ap (λ (z : Housed). z.number) r.is ∙ r.number;
    kind = ap (λ (z : Housed). is_kind z.kind) r.is ∙ r.kind;
  }

  -- declared places are within the frame
  pub numbers_within : (least most : ℕ) (free : Free) (ps : List FlatPlace) (h : Housed) → are_within least most ps ≡ true → Among h (all free ps)
      → is_declared h.kind ≡ true → (least ≤ h.number) × (h.number < most)
  numbers_within least most free [] h w i d = absurd i
  numbers_within least most free (p ∷ ps) h w i d =
      by (is_declared p.kind) refl w i (λ l v j. numbers_within l most (next free p) ps h v j d)
    where
      inner : Bool
      inner = nat_lt p.number most && are_within (suc p.number) most ps

      by : (b : Bool) → is_declared p.kind ≡ b
          → (if b then nat_le least p.number && (nat_lt p.number most && are_within (suc p.number) most ps) else are_within least most ps) ≡ true
          → Among h (one free p ∷ all (next free p) ps)
          → ((l : ℕ) → are_within l most ps ≡ true → Among h (all (next free p) ps) → (l ≤ h.number) × (h.number < most))
          → (least ≤ h.number) × (h.number < most)
      by true t w (inl e) go =
          let q = and_parts (nat_le least p.number) inner w in
          let r = and_parts (nat_lt p.number most) (are_within (suc p.number) most ps) q.1 in
          subst (λ z. (least ≤ z.number) × (z.number < most)) e (leb-true least p.number q.0, ltb-true p.number most r.0)
      by true t w (inr i) go =
          let q = and_parts (nat_le least p.number) inner w in
          let r = and_parts (nat_lt p.number most) (are_within (suc p.number) most ps) q.1 in
          let g = go (suc p.number) r.1 i in
          let l = leb-true least p.number q.0 in
          (omega (arith, g.0, l), g.1)
      by false t w (inl e) go = absurd (false≢true (sym t ∙ ap (λ (z : Housed). is_declared z.kind) e ∙ d))
      by false t w (inr i) go = go least w i

  -- a declared number is that of one place
  module _ (is_kind : PlaceKind → Bool) (declared : (kind : PlaceKind) → is_kind kind ≡ true → is_declared kind ≡ true) where
    undeclared : (kind : PlaceKind) → is_declared kind ≡ false → is_kind kind ≡ false
    undeclared kind d = by (cases_Bool (is_kind kind))
      where
        by : (is_kind kind ≡ true) ⊎ (is_kind kind ≡ false) → is_kind kind ≡ false
        by (inl e) = absurd (true≢false (sym (declared kind e) ∙ d))
        by (inr e) = e

    pub one_found : (least most : ℕ) (free : Free) (ps : List FlatPlace) (n : ℕ) (h : Housed) → are_within least most ps ≡ true → Among h
        (all free ps)
        → h.number ≡ n → is_kind h.kind ≡ true → found is_kind n (all free ps) ≡ h
    one_found least most free [] n h w i e d = absurd i
    one_found least most free (p ∷ ps) n h w i e d =
        by (is_declared p.kind) refl w i (λ l v j. one_found l most (next free p) ps n h v j e d)
      where
        rest : List Housed
        rest = all (next free p) ps

        chosen : (b : Bool) → (nat_eq p.number n && is_kind p.kind) ≡ b → found is_kind n (one free p ∷ rest)
            ≡ (if b then one free p else found is_kind n rest)
        chosen b t = ap (λ z. if z then one free p else found is_kind n rest) t

        by : (b : Bool) → is_declared p.kind ≡ b
            → (if b then nat_le least p.number && (nat_lt p.number most && are_within (suc p.number) most ps) else are_within least most ps) ≡ true
            → Among h (one free p ∷ rest) → ((l : ℕ) → are_within l most ps ≡ true → Among h rest → found is_kind n rest ≡ h)
            → found is_kind n (one free p ∷ rest) ≡ h
        by true t w (inl s) go =
            chosen true (and_from (nat_eq p.number n) (is_kind p.kind) (eq-eqb p.number n (ap (λ (z : Housed). z.number) s ∙ e))
            (ap (λ (z : Housed). is_kind z.kind) s ∙ d)) ∙ s
        by true t w (inr i) go =
            let q = and_parts (nat_le least p.number) (nat_lt p.number most && are_within (suc p.number) most ps) w in
            let r = and_parts (nat_lt p.number most) (are_within (suc p.number) most ps) q.1 in
            let g = numbers_within (suc p.number) most (next free p) ps h r.1 i (declared h.kind d) in
            chosen false (and_left (nat_eq p.number n) (is_kind p.kind) (ne_eqb p.number n (λ z. absurd (omega (arith, z, e, g.0)))))
            ∙ go (suc p.number) r.1 i
        by false t w (inl s) go = absurd (false≢true (sym t ∙ ap (λ (z : Housed). is_declared z.kind) s ∙ declared h.kind d))
        by false t w (inr i) go = chosen false (and_right (nat_eq p.number n) (is_kind p.kind) (undeclared p.kind t)) ∙ go least w i

  -- the place of a result
  pub record ResultAt (free : Free) (ps : List FlatPlace) : Type 0 where
    pub place : Housed
    pub among : Among place (all free ps)
    pub kind : place.kind ≡ K.Result
    pub number : result_at (known_in table) ps ≡ Some place.number
    pub is : result_in (all free ps) ≡ Some place

  pub result_cases : (free : Free) (ps : List FlatPlace)
      → ((result_at (known_in table) ps ≡ None) × (result_in (all free ps) ≡ None)) ⊎ ResultAt free ps
  result_cases free [] = inl (refl, refl)
  result_cases free (p ∷ ps) = by (kind_result p.kind) (result_cases (next free p) ps)
    where
      rest : List Housed
      rest = all (next free p) ps

      by : (p.kind ≡ K.Result) ⊎ ((is_result p.kind ≡ false) × ((n : ℕ) (o : Option ℕ) → or_result p.kind n o ≡ o))
          → ((result_at (known_in table) ps ≡ None) × (result_in rest ≡ None)) ⊎ ResultAt (next free p) ps
          → ((result_at (known_in table) (p ∷ ps) ≡ None) × (result_in (all free (p ∷ ps)) ≡ None)) ⊎ ResultAt free (p ∷ ps)
      by (inl k) r = inr (record {
        place = one free p;
        among = inl refl;
        kind = k;
        number = ap (λ z. or_result z p.number (result_at (known_in table) ps)) k;
        is = ap (λ z. if is_result z then Some (one free p) else result_in rest) k;
      })
      by (inr k) (inl r) = inl (
        k.1 p.number (result_at (known_in table) ps) ∙ r.0,
        ap (λ z. if z then Some (one free p) else result_in rest) k.0 ∙ r.1,
      )
      by (inr k) (inr r) = inr (record {
        place = r.place;
        among = inr r.among;
        kind = r.kind;
        number = k.1 p.number (result_at (known_in table) ps) ∙ r.number;
        is = ap (λ z. if z then Some (one free p) else result_in rest) k.0 ∙ r.is;
      })

  -- ---- how a place with a home is housed

  pub housing : (room low high : ℕ) (f : Free) (p : FlatPlace) (least most : Free) → OWN_FROM ≤ least.variable → most.byte ≤ room
      → low ≤ least.datum → (start ≡ true → most.datum ≤ high) → name_of p ≡ alias.Own
      → IsBetween least most (one f p).bytes (one f p).home → IsAligned (one f p).home → Housing room low high start (one f p)
  housing room low high f p least most own_from within from ends own between aligned =
      by (is_static start p.kind) (kept_in p) refl refl (subst (IsBetween least most (one f p).bytes) here between) (subst IsAligned here aligned)
    where
      here : (one f p).home ≡ home_at (is_static start p.kind) (kept_in p) f
      here = own_home f p own

      by : (s k : Bool) → is_static start p.kind ≡ s → kept_in p ≡ k
          → IsBetween least most (one f p).bytes (home_at (is_static start p.kind) (kept_in p) f)
          → IsAligned (home_at (is_static start p.kind) (kept_in p) f) → Housing room low high start (one f p)
      by true k s e b a =
          let g = static_is start p.kind s in
          let home : home_at (is_static start p.kind) (kept_in p) f ≡ Static f.datum = ap (λ z. home_at z (kept_in p) f) s in
          let c = subst (IsBetween least most (one f p).bytes) home b in
          in_data f.datum (here ∙ home) (ap (address_by (place_lent table start lines p)) g.0) (subst IsAligned home a) (omega (arith, from, c.0))
          (let h = ends g.1 in omega (arith, c.1, h)) g.1
      by false true s e b a = in_var (kept_is (place_lent table start lines p) (is_among p.number (addressed lines)) (is_word (entry_at table p.ty)) p.kind e)
        where
          home : home_at (is_static start p.kind) (kept_in p) f ≡ Variable f.variable
          home = ap (λ z. home_at z (kept_in p) f) s ∙ ap (λ z. home_at false z f) e

          in_var : (holds_address (one f p) ≡ true) ⊎ ((holds_address (one f p) ≡ false) × (word_by p.kind (is_word (entry_at table p.ty)) ≡ true))
              → Housing room low high start (one f p)
          in_var (inl x) =
              let c = subst (IsBetween least most (one f p).bytes) home b in
              by_address f.variable (here ∙ home) x (omega (arith, own_from, c.0))
          in_var (inr x) =
              let c = subst (IsBetween least most (one f p).bytes) home b in
              in_variable f.variable (here ∙ home) x.0 (omega (arith, own_from, c.0)) x.1
      by false false s e b a =
          let home : home_at (is_static start p.kind) (kept_in p) f ≡ Placed f.byte =
          ap (λ z. home_at z (kept_in p) f) s ∙ ap (λ z. home_at false z f) e in
          let c = subst (IsBetween least most (one f p).bytes) home b in
          in_places f.byte (here ∙ home) (unkept_is (place_lent table start lines p) (is_among p.number (addressed lines)) (place_word table start lines p)
          p.kind e)
          (subst IsAligned home a) (omega (arith, within, c.1))

  pub kept_in_variable : (f : Free) (p : FlatPlace) → name_of p ≡ alias.Own → is_value p.kind ≡ true → (one f p).is_word ≡ true
      → InVariable (one f p).home
  kept_in_variable f p own v w =
      subst InVariable (sym (own_home f p own))
      (value_kept start (place_lent table start lines p) (is_among p.number (addressed lines)) (place_word table start lines p) p.kind f v w)

  pub addressed_in_memory : (f : Free) (p : FlatPlace) → is_among p.number (addressed lines) ≡ true → owns (one f p) ≡ true → InMemory (one f p).home
  addressed_in_memory f p r o =
      subst InMemory (sym (own_home f p (declared_own p.kind p.number lines
      (own_declared p.kind (and_parts (is_own p.kind) (not (holds_address (one f p))) o).0))))
      (subst (λ b. InMemory (home_at (is_static start p.kind) (is_kept (place_lent table start lines p) b (place_word table start lines p) p.kind) f)) (sym r)
      (taken_home start (place_lent table start lines p) (place_word table start lines p) p.kind f o))

  pub global_home : (f : Free) (p : FlatPlace) → start ≡ true → is_global p.kind ≡ true → (one f p).home ≡ Static f.datum
  global_home f p s g =
      own_home f p (declared_own p.kind p.number lines (ap is_declared (global_is p.kind g)))
      ∙ ap (λ z. home_at (is_static start z) (kept_in p) f) (global_is p.kind g) ∙ ap (λ z. home_at z (kept_in p) f) s

-- what has no hooks stands for nothing else
and_none : (b : Bool) → (b && false) ≡ false
and_none true = refl
and_none false = refl

no_hooks : (table : List TypeDef) (ty : ℕ) → hooked (form_of (facts_in table) (type_at (types_in table) ty)) ≡ false → is_hooked table ty ≡ false
no_hooks table ty h = ap (λ b. nat_lt ty (length table) && b) h ∙ and_none (nat_lt ty (length table))

pub place_unlent : (table : List TypeDef) (kind : PlaceKind) (ty : ℕ) (stands : Bool)
    → hooked (form_of (facts_in table) (type_by_kind kind (type_at (types_in table) ty))) ≡ false → lent_by kind (is_hooked table ty) stands ≡ false
place_unlent table (K.Param Plain) ty stands h = no_hooks table ty h
place_unlent table K.ForVar ty stands h = ap (λ b. b && stands) (no_hooks table ty h)
place_unlent table kind ty stands h = refl

-- ---- what a place looks like

module _ (table : List TypeDef) (is_table : IsTable table) (have : HaveForms table) where
  abbrev type_here : PlaceKind → ℕ → Ty
  type_here kind ty = type_by_kind kind (type_at (types_in table) ty)

  abbrev shape_here : PlaceKind → ℕ → Shape
  shape_here kind ty = shape_of (facts_in table) (type_here kind ty)

  -- of the table, and built
  known_type : (ty : ℕ) → (nat_lt ty (length table) && (not (is_unbuilt (facts_in table) (type_at (types_in table) ty))
      && nat_le (levels (form_of (facts_in table) (type_at (types_in table) ty))) 64)) ≡ true
      → (ty < length table) × (is_unbuilt (facts_in table) (type_at (types_in table) ty) ≡ false)
  known_type ty h =
      let q = and_parts (nat_lt ty (length table)) _ h in
      let r = and_parts (not (is_unbuilt (facts_in table) (type_at (types_in table) ty))) _ q.1 in
      (ltb-true ty (length table) q.0, not-true (is_unbuilt (facts_in table) (type_at (types_in table) ty)) r.0)

  pub place_numbers : (kind : PlaceKind) (ty : ℕ) → has_hooks_by table kind ty ≡ false → of_numbers (shape_here kind ty) ≡ true
  place_numbers K.Counter ty h = refl
  place_numbers kind ty h = type_plain table is_table have ty h

  pub place_unhooked : (kind : PlaceKind) (ty : ℕ) → has_hooks_by table kind ty ≡ false → hooked (form_of (facts_in table) (type_here kind ty)) ≡ false
  place_unhooked K.Counter ty h = refl
  place_unhooked kind ty h = type_unhooked table is_table have ty h

  -- what has hooks by its number in the table has them by its type
  pub place_by_type : (kind : PlaceKind) (ty : ℕ) → has_hooks_by table kind ty ≡ hooked (form_of (facts_in table) (type_here kind ty))
  place_by_type K.Counter ty = refl
  place_by_type kind ty = type_hooked table is_table have ty

  pub place_built : (kind : PlaceKind) (ty : ℕ) → is_known table ty kind ≡ true → of_handles (shape_here kind ty) ≡ true
  place_built K.Counter ty h = refl
  place_built kind ty h = type_handles table is_table have ty (known_type ty h).1

  pub place_many : (kind : PlaceKind) (ty : ℕ) → has_hooks_by table kind ty ≡ true → is_one_word (shape_here kind ty) ≡ false
  place_many K.Counter ty h = never h
  place_many kind ty h = type_many table is_table have ty h

  pub place_shape_bytes : (kind : PlaceKind) (ty : ℕ) → shape_bytes (shape_here kind ty) ≡ bytes_by kind (bytes_at table ty)
  place_shape_bytes K.Counter ty = refl
  place_shape_bytes kind ty = sym (type_bytes table is_table have ty)

  pub place_is_word : (kind : PlaceKind) (ty : ℕ) → of_handles (shape_here kind ty) ≡ true
      → is_one_word (shape_here kind ty) ≡ word_by kind (is_word (entry_at table ty))
  place_is_word K.Counter ty n = refl
  place_is_word kind ty n = type_is_word table is_table have ty n

  no_row : (n : ℕ) (s : Shape) → number None ≡ row n s → ⊥
  no_row n s e = cc

  no_parts : (ss : Shapes) → number None ≡ parts ss → ⊥
  no_parts ss e = cc

  pub place_rows : (kind : PlaceKind) (ty n : ℕ) (s : Shape) → shape_here kind ty ≡ row n s
      → (count_in (entry_at table ty) ≡ n) × (0 < n → element_bytes table (entry_at table ty) ≡ shape_bytes s) × (has_handle (entry_at table ty) ≡ false)
  place_rows K.Counter ty n s e = absurd (no_row n s e)
  place_rows kind ty n s e = type_row table is_table have ty n s e

  pub place_parts : (kind : PlaceKind) (ty : ℕ) (ss : Shapes) (i : ℕ) (s : Shape) → shape_here kind ty ≡ parts ss → nth_shape ss i ≡ Some s
      → part_at table ty i ≡ shapes_before ss i
  place_parts K.Counter ty ss i s e h = absurd (no_parts ss e)
  place_parts kind ty ss i s e h = type_part table is_table have ty ss i e
