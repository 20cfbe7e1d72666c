-- What a layout takes: variables below a bound, those of parameters first, and places of whole words.
use Rattle.std.proofs.Common.{◌≡◌, ℕ, zero, suc, ◌+◌, ◌*◌, ◌%◌, ◌≤◌, ◌<◌, List, [], ◌∷◌, Bool, true}
use Rattle.std.proofs.Common.{false, not, ◌&&◌, nat_eq, refl, sym, ap, subst, ◌∙◌}
use Rattle.std.proofs.Common.{arith, if◌then◌else◌, Option, Some, None}
use Rattle.std.proofs.lemmas.Bool.{and_parts, true≢false, false≢true}
use Rattle.nim_types.specs.declared.types.TypeDef.{TypeDef}
use Rattle.nim_types.specs.Forms.{Form, plain, reference, block, elements, row, parts, resource, wrapped, Forms, no_forms, forms, or_word, size}
use Rattle.nim_types.specs.Forms.{size_all, form_of}
use Rattle.nim_types.specs.Table.{type_at, types_in, facts_in}
use Rattle.flat_code.specs.declared.line.Line.{Line}
use Rattle.flat_code.specs.declared.place.PlaceKind.{PlaceKind}
use Rattle.flat_code.specs.declared.place.PlaceKind.TheVariants as K
use Rattle.flat_code.specs.declared.place.FlatPlace.{FlatPlace}
use Rattle.flat_code.specs.Fits.{is_global}
use Rattle.word_lowering.specs.declared.homes.TheConstants.{FIRST}
use Rattle.word_lowering.specs.declared.homes.Alias.{Alias}
use Rattle.word_lowering.specs.declared.homes.Alias.TheVariants.{Own, Place, Value, Node, Text}
use Rattle.word_lowering.specs.declared.homes.Home.{Home}
use Rattle.word_lowering.specs.declared.homes.Home.TheVariants.{Variable, Placed, Static}
use Rattle.word_lowering.specs.declared.homes.Housed.{Housed}
use Rattle.word_lowering.specs.declared.homes.Free.{Free}
use Rattle.word_lowering.specs.Aliases.{alias_for}
use Rattle.word_lowering.specs.Stored.{bytes_at}
use Rattle.word_lowering.specs.Layouts.{is_static, home_at, home_by, free_behind, free_by, bytes_by, place_bytes, place_kept, place_alias}
use Rattle.word_lowering.specs.Layouts.{housed, behind, all_housed, behind_all}
use Rattle.word_lowering.specs.Layouts.{found}
use Rattle.word_lowering.specs.Layouts.{is_param, params_in, kept_by, kept_in, result_in, is_result}
use Rattle.word_lowering.specs.MayLower.{no_params, params_lead}
use Rattle.word_lowering.proofs.HomesApart.{Each, each_as, grows_all, grows_next}

-- ---- sizes are whole words

or_word_whole : (n : ℕ) → n % 4 ≡ 0 → or_word n % 4 ≡ 0
or_word_whole zero e = refl
or_word_whole (suc n) e = e

times_whole : (n m : ℕ) → m % 4 ≡ 0 → (n * m) % 4 ≡ 0
times_whole zero m e = omega arith
times_whole (suc n) m e = let f = times_whole n m e in omega arith

mutual
  pub size_whole : (f : Form) → size f % 4 ≡ 0
  size_whole plain = refl
  size_whole reference = refl
  size_whole block = refl
  size_whole (elements f) = refl
  size_whole (row n f) = or_word_whole (n * size f) (times_whole n (size f) (size_whole f))
  size_whole (parts fs) = or_word_whole (size_all fs) (sizes_whole fs)
  size_whole (resource fs) = or_word_whole (size_all fs) (sizes_whole fs)
  size_whole (wrapped f) = size_whole f

  sizes_whole : (fs : Forms) → size_all fs % 4 ≡ 0
  sizes_whole no_forms = refl
  sizes_whole (forms f fs) = let e = size_whole f in let g = sizes_whole fs in omega arith

-- ---- places of a layout

-- a home in a variable is below the bound
abbrev pub IsBelow : ℕ → Home → Type 0
IsBelow n (Variable v) = v < n
IsBelow n (Placed at) = Unit {0}
IsBelow n (Static at) = Unit {0}

-- of a parameter
abbrev pub IsParamBelow : ℕ → Housed → Type 0
IsParamBelow n h = is_param h.kind ≡ true → IsBelow n h.home

-- of a global
abbrev pub IsGlobalBelow : ℕ → Housed → Type 0
IsGlobalBelow n h = is_global h.kind ≡ true → IsBelow n h.home

pub bound_more : (m n : ℕ) (home : Home) → m ≤ n → IsBelow m home → IsBelow n home
bound_more m n (Variable v) h i = omega (arith, h, i)
bound_more m n (Placed at) h i = tt
bound_more m n (Static at) h i = tt

kind_bytes_whole : (kind : PlaceKind) (n : ℕ) → n % 4 ≡ 0 → bytes_by kind n % 4 ≡ 0
kind_bytes_whole K.Local n e = e
kind_bytes_whole K.Cursor n e = e
kind_bytes_whole K.Result n e = e
kind_bytes_whole (K.Param mode) n e = e
kind_bytes_whole K.ForVar n e = e
kind_bytes_whole K.Caught n e = e
kind_bytes_whole K.Global n e = e
kind_bytes_whole K.Temp n e = e
kind_bytes_whole K.Location n e = e
kind_bytes_whole K.Within n e = e
kind_bytes_whole K.Counter n e = refl

byte_whole : (static kept : Bool) (n : ℕ) (free : Free) → n % 4 ≡ 0 → free.byte % 4 ≡ 0 → (free_behind static kept n free).byte % 4 ≡ 0
byte_whole true kept n free e f = f
byte_whole false true n free e f = f
byte_whole false false n free e f = omega arith

-- another name takes nothing
whole_by : (alias : Alias) (low high : Free) → low.byte % 4 ≡ 0 → high.byte % 4 ≡ 0 → (free_by alias low high).byte % 4 ≡ 0
whole_by Own low high e f = f
whole_by (Place p global) low high e f = e
whole_by (Value t) low high e f = e
whole_by (Node n) low high e f = e
whole_by (Text behind bytes) low high e f = e

home_below : (alias : Alias) (static kept : Bool) (bytes : ℕ) (free : Free) (n : ℕ) → FIRST < n
    → (free_by alias free (free_behind static kept bytes free)).variable ≤ n → IsBelow n (home_by alias (home_at static kept free))
home_below Own true kept bytes free n some le = tt
home_below Own false true bytes free n some le = omega (arith, le)
home_below Own false false bytes free n some le = tt
home_below (Place p global) static kept bytes free n some le = some
home_below (Value t) static kept bytes free n some le = some
home_below (Node m) static kept bytes free n some le = some
home_below (Text behind more) static kept bytes free n some le = some

-- a parameter has a home
param_own : (kind : PlaceKind) (n : ℕ) (lines : List Line) → is_param kind ≡ true → alias_for kind n lines ≡ Own
param_own K.Local n lines e = absurd (false≢true e)
param_own K.Cursor n lines e = absurd (false≢true e)
param_own K.Result n lines e = absurd (false≢true e)
param_own (K.Param mode) n lines e = refl
param_own K.ForVar n lines e = absurd (false≢true e)
param_own K.Caught n lines e = absurd (false≢true e)
param_own K.Global n lines e = absurd (false≢true e)
param_own K.Temp n lines e = absurd (false≢true e)
param_own K.Location n lines e = absurd (false≢true e)
param_own K.Within n lines e = absurd (false≢true e)
param_own K.Counter n lines e = absurd (false≢true e)

-- what is in a variable takes one
kept_grows : (static kept : Bool) (n : ℕ) (free : Free) (m high : ℕ) → (free_behind static kept n free).variable + m ≤ high
    → free.variable + kept_by (home_at static kept free) m ≤ high
kept_grows true kept n free m high h = h
kept_grows false true n free m high h = omega (arith, h)
kept_grows false false n free m high h = h

-- the variable of the first one is below that of those behind
first_below : (static kept : Bool) (free : Free) (m : ℕ) → IsBelow (free.variable + kept_by (home_at static kept free) m) (home_at static kept free)
first_below true kept free m = tt
first_below false true free m = omega arith
first_below false false free m = tt

rest_below : (static kept : Bool) (n : ℕ) (free : Free) (m : ℕ)
    → (free_behind static kept n free).variable + m ≤ free.variable + kept_by (home_at static kept free) m
rest_below true kept n free m = omega arith
rest_below false true n free m = omega arith
rest_below false false n free m = omega arith

module _ (table : List TypeDef) (start : Bool) (lines : List Line) where
  pub place_whole : (p : FlatPlace) → place_bytes table start lines p % 4 ≡ 0
  place_whole p = kind_bytes_whole p.kind (bytes_at table p.ty)
      (size_whole (form_of (facts_in table) (type_at (types_in table) p.ty)))

  pub room_whole : (free : Free) (ps : List FlatPlace) → free.byte % 4 ≡ 0 → (behind_all table start lines free ps).byte % 4 ≡ 0
  room_whole free [] e = e
  room_whole free (p ∷ ps) e =
      room_whole (behind table start lines free p) ps
      (whole_by (place_alias table start lines p) free
      (free_behind (is_static start p.kind) (place_kept table start lines p) (place_bytes table start lines p) free) e
      (byte_whole (is_static start p.kind) (place_kept table start lines p) (place_bytes table start lines p) free (place_whole p) e))

  pub all_below : (free : Free) (ps : List FlatPlace) (n : ℕ) → FIRST < n → (behind_all table start lines free ps).variable ≤ n
      → Each (λ h. IsBelow n h.home) (all_housed table start lines free ps)
  all_below free [] n some le = tt
  all_below free (p ∷ ps) n some le =
      let next : Free = behind table start lines free p in
      let g = (grows_all table start lines next ps).variable in (
        home_below (place_alias table start lines p) (is_static start p.kind) (place_kept table start lines p) (place_bytes table start lines p) free n
            some (omega (arith, le, g)),
        all_below next ps n some le,
      )

  one_grows : (free : Free) (p : FlatPlace) → free.variable ≤ (behind table start lines free p).variable
  one_grows free p = (grows_next table start lines free p).variable

  -- of a parameter
  kept_first : (free : Free) (p : FlatPlace) (m high : ℕ) → is_param p.kind ≡ true → (behind table start lines free p).variable + m ≤ high
      → free.variable + kept_by (housed table start lines free p).home m ≤ high
  kept_first free p m high e h =
      let static : Bool = is_static start p.kind in
      let kept : Bool = place_kept table start lines p in
      let bytes : ℕ = place_bytes table start lines p in
      let own = param_own p.kind p.number lines e in
      subst (λ a. free.variable + kept_by (home_by a (home_at static kept free)) m ≤ high) (sym own)
      (kept_grows static kept bytes free m high
      (subst (λ a. (free_by a free (free_behind static kept bytes free)).variable + m ≤ high) own h))

  -- the variables of parameters are among all
  pub kept_within : (free : Free) (ps : List FlatPlace)
      → free.variable + kept_in (params_in (all_housed table start lines free ps)) ≤ (behind_all table start lines free ps).variable
  kept_within free [] = omega arith
  kept_within free (p ∷ ps) = by (is_param p.kind) refl (kept_within (behind table start lines free p) ps)
    where
      next : Free
      next = behind table start lines free p

      rest : List Housed
      rest = params_in (all_housed table start lines next ps)

      by : (b : Bool) → is_param p.kind ≡ b → next.variable + kept_in rest ≤ (behind_all table start lines next ps).variable
          → free.variable + kept_in (if b then housed table start lines free p ∷ rest else rest) ≤ (behind_all table start lines next ps).variable
      by true e h = kept_first free p (kept_in rest) (behind_all table start lines next ps).variable e h
      by false e h = let g = one_grows free p in omega (arith, h, g)

  none_below : (n : ℕ) (free : Free) (ps : List FlatPlace) → no_params ps ≡ true → Each (IsParamBelow n) (all_housed table start lines free ps)
  none_below n free [] h = tt
  none_below n free (p ∷ ps) h =
      let both = and_parts (not (is_param p.kind)) (no_params ps) h in
      (λ e. absurd (true≢false (sym (ap not (sym e) ∙ both.0))), none_below n (behind table start lines free p) ps both.1)

  -- the first parameter's variable, and those of the others
  param_first : (free : Free) (p : FlatPlace) (m : ℕ) → is_param p.kind ≡ true
      → IsBelow (free.variable + kept_by (housed table start lines free p).home m) (housed table start lines free p).home
  param_first free p m e =
      let static : Bool = is_static start p.kind in
      let kept : Bool = place_kept table start lines p in
      subst (λ a. IsBelow (free.variable + kept_by (home_by a (home_at static kept free)) m) (home_by a (home_at static kept free)))
      (sym (param_own p.kind p.number lines e)) (first_below static kept free m)

  param_rest : (free : Free) (p : FlatPlace) (m : ℕ) → is_param p.kind ≡ true
      → (behind table start lines free p).variable + m ≤ free.variable + kept_by (housed table start lines free p).home m
  param_rest free p m e =
      let static : Bool = is_static start p.kind in
      let kept : Bool = place_kept table start lines p in
      let bytes : ℕ = place_bytes table start lines p in
      subst (λ a. (free_by a free (free_behind static kept bytes free)).variable + m ≤ free.variable + kept_by (home_by a (home_at static kept free)) m)
      (sym (param_own p.kind p.number lines e)) (rest_below static kept bytes free m)

  -- a parameter's variable is below the first one that no parameter has
  pub params_below : (free : Free) (ps : List FlatPlace) → params_lead ps ≡ true
      → Each (IsParamBelow (free.variable + kept_in (params_in (all_housed table start lines free ps)))) (all_housed table start lines free ps)
  params_below free [] h = tt
  params_below free (p ∷ ps) h = by (is_param p.kind) refl h (λ i. params_below (behind table start lines free p) ps i)
    where
      next : Free
      next = behind table start lines free p

      rest : List Housed
      rest = all_housed table start lines next ps

      by : (b : Bool) → is_param p.kind ≡ b → (if b then params_lead ps else no_params ps) ≡ true
          → (params_lead ps ≡ true → Each (IsParamBelow (next.variable + kept_in (params_in rest))) rest)
          → Each (IsParamBelow (free.variable + kept_in (if b then housed table start lines free p ∷ params_in rest else params_in rest)))
          (housed table start lines free p ∷ rest)
      by true e h more =
          let m : ℕ = kept_in (params_in rest) in (
            λ f. param_first free p m e,
            each_as (λ other i. λ f. bound_more (next.variable + m) (free.variable + kept_by (housed table start lines free p).home m) other.home
                (param_rest free p m e) (i f)) rest (more h),
          )
      by false e h more = (λ f. absurd (true≢false (sym f ∙ e)), none_below _ next ps h)

-- globals of the start code have no variables
static_below : (kind : PlaceKind) (kept : Bool) (free : Free) (n : ℕ) → is_global kind ≡ true → IsBelow n (home_at (is_static true kind) kept free)
static_below K.Local kept free n e = absurd (false≢true e)
static_below K.Cursor kept free n e = absurd (false≢true e)
static_below K.Result kept free n e = absurd (false≢true e)
static_below (K.Param mode) kept free n e = absurd (false≢true e)
static_below K.ForVar kept free n e = absurd (false≢true e)
static_below K.Caught kept free n e = absurd (false≢true e)
static_below K.Global kept free n e = tt
static_below K.Temp kept free n e = absurd (false≢true e)
static_below K.Location kept free n e = absurd (false≢true e)
static_below K.Within kept free n e = absurd (false≢true e)
static_below K.Counter kept free n e = absurd (false≢true e)

global_own : (kind : PlaceKind) (n : ℕ) (lines : List Line) → is_global kind ≡ true → alias_for kind n lines ≡ Own
global_own K.Local n lines e = absurd (false≢true e)
global_own K.Cursor n lines e = absurd (false≢true e)
global_own K.Result n lines e = absurd (false≢true e)
global_own (K.Param mode) n lines e = absurd (false≢true e)
global_own K.ForVar n lines e = absurd (false≢true e)
global_own K.Caught n lines e = absurd (false≢true e)
global_own K.Global n lines e = refl
global_own K.Temp n lines e = absurd (false≢true e)
global_own K.Location n lines e = absurd (false≢true e)
global_own K.Within n lines e = absurd (false≢true e)
global_own K.Counter n lines e = absurd (false≢true e)

pub globals_below : (table : List TypeDef) (lines : List Line) (n : ℕ) (free : Free) (ps : List FlatPlace)
    → Each (IsGlobalBelow n) (all_housed table true lines free ps)
globals_below table lines n free [] = tt
globals_below table lines n free (p ∷ ps) = (
  λ e. subst (λ a. IsBelow n (home_by a (home_at (is_static true p.kind) (place_kept table true lines p) free)))
      (sym (global_own p.kind p.number lines e)) (static_below p.kind (place_kept table true lines p) free n e),
  globals_below table lines n (behind table true lines free p) ps,
)

-- ---- what is looked up

module _ (n : ℕ) (some : FIRST < n) where
  pub found_below : (is_kind : PlaceKind → Bool) (number : ℕ) (hs : List Housed) → Each (λ h. IsBelow n h.home) hs
      → IsBelow n (found is_kind number hs).home
  found_below is_kind number [] e = some
  found_below is_kind number (h ∷ hs) e = by (nat_eq h.number number && is_kind h.kind) (found_below is_kind number hs e.1)
    where
      by : (b : Bool) → IsBelow n (found is_kind number hs).home → IsBelow n (if b then h else found is_kind number hs).home
      by true i = e.0
      by false i = i

  pub global_below : (number : ℕ) (hs : List Housed) → Each (IsGlobalBelow n) hs → IsBelow n (found is_global number hs).home
  global_below number [] e = some
  global_below number (h ∷ hs) e = by (nat_eq h.number number && is_global h.kind) refl (global_below number hs e.1)
    where
      by : (b : Bool) → (nat_eq h.number number && is_global h.kind) ≡ b → IsBelow n (found is_global number hs).home
          → IsBelow n (if b then h else found is_global number hs).home
      by true f i = e.0 (and_parts (nat_eq h.number number) (is_global h.kind) f).1
      by false f i = i

-- those of parameters
pub params_each : (n : ℕ) (hs : List Housed) → Each (IsParamBelow n) hs → Each (λ h. IsBelow n h.home) (params_in hs)
params_each n [] e = tt
params_each n (h ∷ hs) e = by (is_param h.kind) refl (params_each n hs e.1)
  where
    by : (b : Bool) → is_param h.kind ≡ b → Each (λ h. IsBelow n h.home) (params_in hs)
        → Each (λ h. IsBelow n h.home) (if b then h ∷ params_in hs else params_in hs)
    by true f i = (e.0 f, i)
    by false f i = i

-- the result is one of them
abbrev pub IfHoused : (Housed → Type 0) → Option Housed → Type 0
IfHoused P None = Unit {0}
IfHoused P (Some h) = P h

pub result_each : (P : Housed → Type 0) (hs : List Housed) → Each P hs → IfHoused P (result_in hs)
result_each P [] e = tt
result_each P (h ∷ hs) e = by (is_result h.kind) (result_each P hs e.1)
  where
    by : (b : Bool) → IfHoused P (result_in hs) → IfHoused P (if b then Some h else result_in hs)
    by true i = e.0
    by false i = i
