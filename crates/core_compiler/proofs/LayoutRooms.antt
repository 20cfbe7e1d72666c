-- Layouts of procedures: what is found in them, and how many variables and bytes they take.
use Rattle.std.proofs.Common.{◌≡◌, ℕ, ◌+◌, ◌*◌, ◌≤◌, ◌<◌, ◌⊎◌, inl, inr, Bool, true, false, List, [], ◌∷◌, length, Some, None, refl, ap, ap₂, sym, Option}
use Rattle.std.proofs.Common.{◌∙◌, subst, arith}
use Rattle.std.specs.Prelude.{nat_eq, nat_lt, nat_le, ◌&&◌, ◌||◌, not, if◌then◌else◌}
use Rattle.std.proofs.lemmas.Bool.{both_ways, and_parts, and_from, eqb-true, lt-ltb, le-leb}
use Rattle.nim_types.specs.declared.types.TypeDef.{TypeDef}
use Rattle.nim_types.specs.Forms.{hooked, levels, form_of}
use Rattle.nim_types.specs.Table.{type_at, types_in, facts_in}
use Rattle.nim_types.proofs.ForCallers.{count as counted}
use Rattle.nim_meaning.specs.Unbuilt.{is_unbuilt}
use Rattle.nim_program.specs.declared.program.Mode.TheVariants.{Plain, Sink, Var}
use Rattle.nim_program.specs.Sizes.{type_bytes}
use Rattle.flat_code.specs.declared.line.Line.{Line}
use Rattle.flat_code.specs.declared.place.FlatPlace.{FlatPlace}
use Rattle.flat_code.specs.declared.place.PlaceKind.{PlaceKind}
use Rattle.flat_code.specs.declared.place.PlaceKind.TheVariants as K
use Rattle.flat_code.specs.Fits.{Signature, is_value, is_location, is_global, place_named}
use Rattle.flat_code.specs.Scene.{known_in}
use Rattle.flat_code.specs.Sizes.{lent_bytes, place_bytes, places_bytes}
use Rattle.flat_code.specs.BuiltCode.{is_counter, IsOfBuilt, IsBuiltPlace, AreBuiltPlaces, no_globals, params_among, handed_among, and_waiting, waiting_bytes}
use Rattle.flat_code.specs.BuiltCode as built
use Rattle.flattening.proofs.ForCallers.{bytes_least}
use Rattle.word_lowering.specs.declared.homes.Alias.{Alias}
use Rattle.word_lowering.specs.declared.homes.Alias.TheVariants.{Own, Place, Value, Node, Text}
use Rattle.word_lowering.specs.declared.homes.Free.{Free}
use Rattle.word_lowering.specs.declared.homes.Housed.{Housed}
use Rattle.word_lowering.specs.Aliases.{value_to, location_to, alias_in, alias_for, own_where, own_literal, homed, addressed, standing, is_among}
use Rattle.word_lowering.specs.Layouts.{is_kept, is_static, home_at, home_by, free_behind, free_by, word_by, bytes_by, lent_by, place_word, place_lent}
use Rattle.word_lowering.specs.Layouts.{place_kept, place_alias}
use Rattle.word_lowering.specs.Layouts.{waits_by, housed, behind, all_housed, behind_all, behind_waiter, behind_waiters, and_waiter, waiters}
use Rattle.word_lowering.specs.Stored.{is_word, is_hooked, entry_at}
use Rattle.word_lowering.specs.Lookups.{found, is_param, params_in, kept_by, kept_in, is_result, result_in}
use Rattle.word_lowering.specs.MayLower.{no_params, params_lead, is_known, all_known, and_placed, placed_bytes, placed_end, result_end}
use Rattle.core_compiler.proofs.LinesAgree.{Finds, never, nothing, one}

-- ---- parameters lead

same_param : (kind : PlaceKind) → built.is_param kind ≡ is_param kind
same_param (K.Param mode) = refl
same_param kind = refl

none_same : (ps : List FlatPlace) → built.no_params ps ≡ no_params ps
none_same [] = refl
none_same (p ∷ ps) = ap₂ (λ a b. not a && b) (same_param p.kind) (none_same ps)

pub lead_same : (ps : List FlatPlace) → built.params_lead ps ≡ params_lead ps
lead_same [] = refl
lead_same (p ∷ ps) =
    ap (λ b. if b then built.params_lead ps else built.no_params ps) (same_param p.kind)
    ∙ ap₂ (λ x y. if is_param p.kind then x else y) (lead_same ps) (none_same ps)

-- ---- what one place takes

-- what is kept in a variable counts as a word at least, and all else as its bytes
kept_word : (kind : PlaceKind) (lent : Bool) (n : ℕ) → is_global kind ≡ false → 4 ≤ n → 4 ≤ lent_bytes kind lent n
kept_word K.Global lent n g l = absurd (both_ways true g refl)
kept_word (K.Param Plain) true n g l = omega arith
kept_word (K.Param Plain) false n g l = l
kept_word (K.Param Var) lent n g l = omega arith
kept_word K.Location lent n g l = omega arith
kept_word K.Within lent n g l = omega arith
kept_word K.Counter lent n g l = omega arith
kept_word kind lent n g l = l

placed_most : (hooked stands out word : Bool) (kind : PlaceKind) (n : ℕ) → is_global kind ≡ false → is_kept (lent_by kind hooked stands) out word kind ≡ false →
    bytes_by kind n ≤ lent_bytes kind hooked n
placed_most hooked stands out word K.Global n g k = absurd (both_ways true g refl)
placed_most true stands out word (K.Param Plain) n g k = absurd (both_ways true k refl)
placed_most false stands out word (K.Param Plain) n g k = omega arith
placed_most hooked stands out word (K.Param Var) n g k = absurd (both_ways true k refl)
placed_most hooked stands out word K.Location n g k = absurd (both_ways true k refl)
placed_most hooked stands out word K.Within n g k = absurd (both_ways true k refl)
placed_most hooked stands out word K.Counter n g k = absurd (both_ways true k refl)
placed_most hooked stands out word kind n g k = omega arith

-- a number that a loop keeps is never lent
counter_bytes : (kind : PlaceKind) (a b : Bool) (n : ℕ) → is_counter kind ≡ true → lent_bytes kind a n ≡ lent_bytes kind b n
counter_bytes K.Counter a b n e = refl
counter_bytes kind a b n e = never e

-- a variable for each of what waits
pub waiters_count : (free : Free) (hs : List Housed) → (behind_waiters free hs).variable ≡ free.variable + length (waiters free hs)
waiters_count free [] = omega arith
waiters_count free (h ∷ hs) = by h.waits (waiters_count (behind_waiter h.waits h.bytes free) hs)
  where
    by : (o : Option ℕ) →
        (behind_waiters (behind_waiter o h.bytes free) hs).variable
        ≡ (behind_waiter o h.bytes free).variable + length (waiters (behind_waiter o h.bytes free) hs) →
        (behind_waiters (behind_waiter o h.bytes free) hs).variable
        ≡ free.variable + length (and_waiter o h.ty h.bytes free (waiters (behind_waiter o h.bytes free) hs))
    by None e = e
    by (Some node) e = omega (arith, e)

module _ (table : List TypeDef) (start : Bool) (lines : List Line) where
  abbrev one_bytes : FlatPlace → ℕ
  one_bytes p = lent_bytes p.kind (is_hooked table p.ty) (type_bytes (facts_in table) (type_at (types_in table) p.ty))

  within : (p : FlatPlace) → p.ty < length (types_in table) → nat_lt p.ty (length table) ≡ true
  within p l = let c = counted table in lt-ltb p.ty (length table) (omega (arith, l, c))

  -- types of flat code are those of the table
  hooked_same : (p : FlatPlace) → IsOfBuilt (known_in table) p → p.hooked ≡ is_hooked table p.ty
  hooked_same p b = b.hooked ∙ sym (ap (λ c. c && hooked (form_of (facts_in table) (type_at (types_in table) p.ty))) (within p b.numbered))

  first_same : (p : FlatPlace) → IsBuiltPlace (known_in table) p → place_bytes (known_in table) p ≡ one_bytes p
  first_same p (inl counter) =
      counter_bytes p.kind p.hooked (is_hooked table p.ty) (type_bytes (facts_in table) (type_at (types_in table) p.ty)) counter
  first_same p (inr b) = ap (λ c. lent_bytes p.kind c (type_bytes (facts_in table) (type_at (types_in table) p.ty))) (hooked_same p b)

  -- a global of the start code is in the data
  of_static : (kind : PlaceKind) → (start ≡ false → is_global kind ≡ false) → is_static start kind ≡ false → is_global kind ≡ false
  of_static K.Global g s = g s
  of_static kind g s = refl

  one_behind : (free : Free) (p : FlatPlace) → (start ≡ false → is_global p.kind ≡ false) →
      4 * (behind table start lines free p).variable + (behind table start lines free p).byte ≤ 4 * free.variable + free.byte + one_bytes p
  one_behind free p g = by (place_alias table start lines p) (is_static start p.kind) refl (place_kept table start lines p) refl
    where
      n : ℕ
      n = type_bytes (facts_in table) (type_at (types_in table) p.ty)

      out : Bool
      out = is_among p.number (addressed lines)

      lent : Bool
      lent = is_hooked table p.ty

      stands : Bool
      stands = is_among p.number (standing lines)

      by : (alias : Alias) (static : Bool) → is_static start p.kind ≡ static → (kept : Bool) →
          is_kept (place_lent table start lines p) out (place_word table start lines p) p.kind ≡ kept →
          4 * (free_by alias free (free_behind static kept (bytes_by p.kind n) free)).variable
          + (free_by alias free (free_behind static kept (bytes_by p.kind n) free)).byte ≤ 4 * free.variable + free.byte + lent_bytes p.kind lent n
      by (Place q other) static s kept k = omega arith
      by (Value t) static s kept k = omega arith
      by (Node m) static s kept k = omega arith
      by (Text other more) static s kept k = omega arith
      by Own true s kept k = omega arith
      by Own false s true k =
          let h = kept_word p.kind lent n (of_static p.kind g s) (bytes_least (facts_in table) (type_at (types_in table) p.ty)) in omega (arith, h)
      by Own false s false k = let h = placed_most lent stands out (place_word table start lines p) p.kind n (of_static p.kind g s) k in omega (arith, h)

  abbrev Globals : List FlatPlace → Type 0
  Globals ps = start ≡ false → no_globals ps ≡ true

  first_global : (p : FlatPlace) (ps : List FlatPlace) → Globals (p ∷ ps) → start ≡ false → is_global p.kind ≡ false
  first_global p ps g s = by (is_global p.kind) (and_parts (not (is_global p.kind)) (no_globals ps) (g s)).0
    where
      by : (b : Bool) → not b ≡ true → b ≡ false
      by true e = never e
      by false e = refl

  rest_globals : (p : FlatPlace) (ps : List FlatPlace) → Globals (p ∷ ps) → Globals ps
  rest_globals p ps g s = (and_parts (not (is_global p.kind)) (no_globals ps) (g s)).1

  pub room : (ps : List FlatPlace) (free : Free) → Globals ps → AreBuiltPlaces (known_in table) ps →
      4 * (behind_all table start lines free ps).variable + (behind_all table start lines free ps).byte
      ≤ 4 * free.variable + free.byte + places_bytes (known_in table) ps
  room [] free g own = omega arith
  room (p ∷ ps) free g own =
      let b = first_same p own.0 in
      let h = one_behind free p (first_global p ps g) in
      let i = room ps (behind table start lines free p) (rest_globals p ps g) own.1 in
      omega (arith, b, h, i)

  -- ---- parameters

  param_kept : (p : FlatPlace) (free : Free) (rest : ℕ) (more : ℕ) → is_param p.kind ≡ true →
      4 * kept_by (housed table start lines free p).home rest + and_placed (housed table start lines free p).home (housed table start lines free p).bytes more
      ≤ one_bytes p + (4 * rest + more)
  param_kept p free rest more is = of (is_hooked table p.ty) (is_among p.number (standing lines)) p.kind is
    where
      n : ℕ
      n = type_bytes (facts_in table) (type_at (types_in table) p.ty)

      l : 4 ≤ n
      l = bytes_least (facts_in table) (type_at (types_in table) p.ty)

      by : (kept : Bool) → 4 * kept_by (home_at false kept free) rest + and_placed (home_at false kept free) n more ≤ n + (4 * rest + more)
      by true = let h = l in omega (arith, h)
      by false = omega arith

      of : (hooked stands : Bool) (kind : PlaceKind) → is_param kind ≡ true →
          4 * kept_by (home_by (alias_for kind p.number lines) (home_at (is_static start kind)
          (is_kept (lent_by kind hooked stands) (is_among p.number (addressed lines)) (word_by kind (is_word (entry_at table p.ty))) kind) free)) rest
          + and_placed (home_by (alias_for kind p.number lines) (home_at (is_static start kind)
          (is_kept (lent_by kind hooked stands) (is_among p.number (addressed lines)) (word_by kind (is_word (entry_at table p.ty))) kind) free))
          (bytes_by kind n) more
          ≤ lent_bytes kind hooked n + (4 * rest + more)
      of true stands (K.Param Plain) e = omega arith
      of false stands (K.Param Plain) e = by _
      of hooked stands (K.Param Sink) e = by _
      of hooked stands (K.Param Var) e = omega arith
      of hooked stands kind e = never e

  pub params_room : (ps : List FlatPlace) (free : Free) → AreBuiltPlaces (known_in table) ps →
      4 * kept_in (params_in (all_housed table start lines free ps)) + placed_bytes (params_in (all_housed table start lines free ps))
      ≤ places_bytes (known_in table) (params_among ps)
  params_room [] free own = omega arith
  params_room (p ∷ ps) free own =
      by (is_param p.kind) refl (first_same p own.0) (params_room ps (behind table start lines free p) own.1)
    where
      tail : List Housed
      tail = params_in (all_housed table start lines (behind table start lines free p) ps)

      by : (b : Bool) → is_param p.kind ≡ b → place_bytes (known_in table) p ≡ one_bytes p →
          4 * kept_in tail + placed_bytes tail ≤ places_bytes (known_in table) (params_among ps) →
          4 * kept_in (if b then housed table start lines free p ∷ tail else tail) + placed_bytes (if b then housed table start lines free p ∷ tail else tail)
          ≤ places_bytes (known_in table) (params_among (p ∷ ps))
      by true e o h =
          let i = param_kept p free (kept_in tail) (placed_bytes tail) e in
          let j : places_bytes (known_in table) (params_among (p ∷ ps)) ≡ place_bytes (known_in table) p + places_bytes (known_in table) (params_among ps)
          = ap (λ c. places_bytes (known_in table) (if c then p ∷ params_among ps else params_among ps)) (same_param p.kind ∙ e) in
          omega (arith, o, h, i, j)
      by false e o h =
          let j : places_bytes (known_in table) (params_among (p ∷ ps)) ≡ places_bytes (known_in table) (params_among ps)
          = ap (λ c. places_bytes (known_in table) (if c then p ∷ params_among ps else params_among ps)) (same_param p.kind ∙ e) in
          omega (arith, h, j)

  -- ---- the result

  byte_behind : (free : Free) (p : FlatPlace) → (start ≡ false → is_global p.kind ≡ false) →
      (behind table start lines free p).byte ≤ free.byte + one_bytes p
  byte_behind free p g = by (place_alias table start lines p) (is_static start p.kind) refl (place_kept table start lines p) refl
    where
      n : ℕ
      n = type_bytes (facts_in table) (type_at (types_in table) p.ty)

      out : Bool
      out = is_among p.number (addressed lines)

      lent : Bool
      lent = is_hooked table p.ty

      stands : Bool
      stands = is_among p.number (standing lines)

      by : (alias : Alias) (static : Bool) → is_static start p.kind ≡ static → (kept : Bool) →
          is_kept (place_lent table start lines p) out (place_word table start lines p) p.kind ≡ kept →
          (free_by alias free (free_behind static kept (bytes_by p.kind n) free)).byte ≤ free.byte + lent_bytes p.kind lent n
      by (Place q other) static s kept k = omega arith
      by (Value t) static s kept k = omega arith
      by (Node m) static s kept k = omega arith
      by (Text other more) static s kept k = omega arith
      by Own true s kept k = omega arith
      by Own false s true k = omega arith
      by Own false s false k = let h = placed_most lent stands out (place_word table start lines p) p.kind n (of_static p.kind g s) k in omega (arith, h)

  -- where one place ends
  one_end : (free : Free) (p : FlatPlace) → built.is_result p.kind ≡ true →
      placed_end (housed table start lines free p).home (housed table start lines free p).bytes ≤ free.byte + one_bytes p
  one_end free p is = of (is_hooked table p.ty) (is_among p.number (standing lines)) p.kind is
    where
      n : ℕ
      n = type_bytes (facts_in table) (type_at (types_in table) p.ty)

      by : (kept : Bool) → placed_end (home_at false kept free) n ≤ free.byte + n
      by true = omega arith
      by false = omega arith

      of : (hooked stands : Bool) (kind : PlaceKind) → built.is_result kind ≡ true →
          placed_end (home_by (alias_for kind p.number lines) (home_at (is_static start kind)
          (is_kept (lent_by kind hooked stands) (is_among p.number (addressed lines)) (word_by kind (is_word (entry_at table p.ty))) kind) free))
          (bytes_by kind n)
          ≤ free.byte + lent_bytes kind hooked n
      of hooked stands K.Result e = by _
      of hooked stands kind e = never e

  same_result : (kind : PlaceKind) → built.is_result kind ≡ is_result kind
  same_result K.Result = refl
  same_result kind = refl

  no_result : (ps : List FlatPlace) (free : Free) → built.none_handed ps ≡ true → result_end (result_in (all_housed table start lines free ps)) ≤ 0
  no_result [] free e = omega arith
  no_result (p ∷ ps) free e =
      let q = and_parts (not (built.is_handed p.kind)) (built.none_handed ps) e in
      by (is_result p.kind) (sym (same_result p.kind)) (built.is_param p.kind) q.0 (no_result ps (behind table start lines free p) q.1)
    where
      by : (b : Bool) → b ≡ built.is_result p.kind → (c : Bool) → not (c || built.is_result p.kind) ≡ true →
          result_end (result_in (all_housed table start lines (behind table start lines free p) ps)) ≤ 0 →
          result_end (if b then Some (housed table start lines free p) else result_in (all_housed table start lines (behind table start lines free p) ps)) ≤ 0
      by true e c n go = absurd (refuted c (built.is_result p.kind) (sym e) n)
        where
          refuted : (c b : Bool) → b ≡ true → not (c || b) ≡ true → ⊥
          refuted true b e n = never n
          refuted false true e n = never n
          refuted false false e n = never e
      by false e c n go = go

  pub result_room : (ps : List FlatPlace) (free : Free) → Globals ps → AreBuiltPlaces (known_in table) ps → built.handed_lead ps ≡ true →
      result_end (result_in (all_housed table start lines free ps)) ≤ free.byte + places_bytes (known_in table) (handed_among ps)
  result_room [] free g own lead = omega arith
  result_room (p ∷ ps) free g own lead =
      by (built.is_param p.kind) refl (built.is_result p.kind) refl lead (first_same p own.0)
      (result_room ps (behind table start lines free p) (rest_globals p ps g) own.1)
    where
      tail : Option Housed
      tail = result_in (all_housed table start lines (behind table start lines free p) ps)

      picked : (b : Bool) → built.is_result p.kind ≡ b →
          result_in (all_housed table start lines free (p ∷ ps)) ≡ (if b then Some (housed table start lines free p) else tail)
      picked b e = ap (λ c. if c then Some (housed table start lines free p) else tail) (sym (same_result p.kind) ∙ e)

      by : (a : Bool) → built.is_param p.kind ≡ a → (b : Bool) → built.is_result p.kind ≡ b →
          (if a || b then built.handed_lead ps else built.none_handed ps) ≡ true → place_bytes (known_in table) p ≡ one_bytes p →
          (built.handed_lead ps ≡ true → result_end tail ≤ (behind table start lines free p).byte + places_bytes (known_in table) (handed_among ps)) →
          result_end (result_in (all_housed table start lines free (p ∷ ps)))
          ≤ free.byte + places_bytes (known_in table) (if a || b then p ∷ handed_among ps else handed_among ps)
      by true is true e l o go =
          let h = one_end free p e in
          let i = ap result_end (picked true e) in
          omega (arith, o, h, i)
      by false is true e l o go =
          let h = one_end free p e in
          let i = ap result_end (picked true e) in
          omega (arith, o, h, i)
      by true is false e l o go =
          let h = go l in
          let i = ap result_end (picked false e) in
          let j = byte_behind free p (first_global p ps g) in
          omega (arith, o, h, i, j)
      by false is false e l o go =
          let h = no_result ps (behind table start lines free p) l in
          let i = ap result_end (picked false e) in
          omega (arith, h, i)

  -- ---- the bytes alone, and what waits

  pub byte_room : (ps : List FlatPlace) (free : Free) → Globals ps → AreBuiltPlaces (known_in table) ps →
      (behind_all table start lines free ps).byte ≤ free.byte + places_bytes (known_in table) ps
  byte_room [] free g own = omega arith
  byte_room (p ∷ ps) free g own =
      let b = first_same p own.0 in
      let h = byte_behind free p (first_global p ps g) in
      let i = byte_room ps (behind table start lines free p) (rest_globals p ps g) own.1 in
      omega (arith, b, h, i)

  -- one more waits
  abbrev Waited : (waits : Option ℕ) → (n : ℕ) → (before after : Free) → Type 0
  Waited waits n before after = (after.byte ≤ before.byte + and_waiting waits n 0) × (8 * after.variable ≤ 8 * before.variable + and_waiting waits n 0)
      × (4 * after.variable + after.byte ≤ 4 * before.variable + before.byte + and_waiting waits n 0)

  one_waits : (kind : PlaceKind) (alias : Alias) (hooked : Bool) (waits : Option ℕ) (n : ℕ) (free : Free) → 4 ≤ n →
      Waited waits n free (behind_waiter (waits_by kind alias hooked waits) (bytes_by kind n) free)
  one_waits K.Temp Own true waits n free l = by waits
    where
      by : (waits : Option ℕ) → Waited waits n free (behind_waiter waits n free)
      by None = (omega arith, omega arith, omega arith)
      by (Some node) = (omega arith, omega (arith, l), omega arith)
  one_waits kind alias hooked waits n free l = by waits
    where
      by : (waits : Option ℕ) → Waited waits n free free
      by None = (omega arith, omega arith, omega arith)
      by (Some node) = (omega arith, omega arith, omega arith)

  abbrev WaitersFit : (before after : Free) → (most : ℕ) → Type 0
  WaitersFit before after most = (after.byte ≤ before.byte + most) × (8 * after.variable ≤ 8 * before.variable + most)
      × (4 * after.variable + after.byte ≤ 4 * before.variable + before.byte + most)

  pub waiting_room : (ps : List FlatPlace) (first free : Free) →
      WaitersFit free (behind_waiters free (all_housed table start lines first ps)) (waiting_bytes (known_in table) ps)
  waiting_room [] first free = (omega arith, omega arith, omega arith)
  waiting_room (p ∷ ps) first free =
      by (behind_waiter (waits_by p.kind (place_alias table start lines p) (is_hooked table p.ty) p.waits) (bytes_by p.kind n) free) p.waits
      (one_waits p.kind (place_alias table start lines p) (is_hooked table p.ty) p.waits n free
      (bytes_least (facts_in table) (type_at (types_in table) p.ty)))
      (waiting_room ps (behind table start lines first p)
      (behind_waiter (waits_by p.kind (place_alias table start lines p) (is_hooked table p.ty) p.waits) (bytes_by p.kind n) free))
    where
      n : ℕ
      n = type_bytes (facts_in table) (type_at (types_in table) p.ty)

      more : ℕ
      more = waiting_bytes (known_in table) ps

      by : (next : Free) (waits : Option ℕ) → Waited waits n free next →
          WaitersFit next (behind_waiters next (all_housed table start lines (behind table start lines first p) ps)) more →
          WaitersFit free (behind_waiters next (all_housed table start lines (behind table start lines first p) ps)) (and_waiting waits n more)
      by next None w r =
          let a = w.0 in let b = w.1 in let c = r.0 in let d = r.1 in let e = w.2 in let f = r.2 in
          (omega (arith, a, c), omega (arith, b, d), omega (arith, e, f))
      by next (Some node) w r =
          let a = w.0 in let b = w.1 in let c = r.0 in let d = r.1 in let e = w.2 in let f = r.2 in
          (omega (arith, a, c), omega (arith, b, d), omega (arith, e, f))

  -- ---- what is found

  -- a temporary is what its lines say, and the number of a loop its own
  value_alias : (kind : PlaceKind) (n : ℕ) → is_value kind ≡ true →
      (alias_for kind n lines ≡ own_literal (homed lines) n (alias_in value_to n lines)) ⊎ ((alias_for kind n lines ≡ Own) × (is_counter kind ≡ true))
  value_alias K.Temp n e = inl refl
  value_alias K.Counter n e = inr (refl, refl)
  value_alias kind n e = never e

  location_alias : (kind : PlaceKind) (n : ℕ) → is_location kind ≡ true → alias_for kind n lines ≡ own_where (standing lines) (alias_in location_to n lines)
  location_alias K.Location n e = refl
  location_alias K.Within n e = refl
  location_alias kind n e = never e

  value_found : (ps : List FlatPlace) (free : Free) (t : ℕ) →
      ((found is_value t (all_housed table start lines free ps)).alias ≡ own_literal (homed lines) t (alias_in value_to t lines))
      ⊎ (((found is_value t (all_housed table start lines free ps)).alias ≡ Own)
      × ((p : FlatPlace) → place_named is_value ps t ≡ Some p → is_counter p.kind ≡ true))
  value_found [] free t = inr (refl, λ p e. nothing e)
  value_found (p ∷ ps) free t = by (nat_eq p.number t) refl (is_value p.kind) refl (value_found ps (behind table start lines free p) t)
    where
      tail : Housed
      tail = found is_value t (all_housed table start lines (behind table start lines free p) ps)

      here : p.number ≡ t →
          (alias_for p.kind p.number lines ≡ own_literal (homed lines) p.number (alias_in value_to p.number lines)) ⊎
          ((alias_for p.kind p.number lines ≡ Own) × (is_counter p.kind ≡ true)) →
          (alias_for p.kind p.number lines ≡ own_literal (homed lines) t (alias_in value_to t lines))
          ⊎ ((alias_for p.kind p.number lines ≡ Own) × ((q : FlatPlace) → Some p ≡ Some q → is_counter q.kind ≡ true))
      here n (inl a) = inl (a ∙ ap (λ m. own_literal (homed lines) m (alias_in value_to m lines)) n)
      here n (inr q) = inr (q.0, λ r e. subst (λ (r : FlatPlace). is_counter r.kind ≡ true) (one e) q.1)

      by : (b : Bool) → nat_eq p.number t ≡ b → (c : Bool) → is_value p.kind ≡ c →
          (tail.alias ≡ own_literal (homed lines) t (alias_in value_to t lines))
          ⊎ ((tail.alias ≡ Own) × ((q : FlatPlace) → place_named is_value ps t ≡ Some q → is_counter q.kind ≡ true)) →
          ((if b && c then housed table start lines free p else tail).alias ≡ own_literal (homed lines) t (alias_in value_to t lines))
          ⊎ (((if b && c then housed table start lines free p else tail).alias ≡ Own)
          × ((q : FlatPlace) → (if b && c then Some p else place_named is_value ps t) ≡ Some q → is_counter q.kind ≡ true))
      by true n true k rest = here (eqb-true p.number t n) (value_alias p.kind p.number k)
      by true n false k rest = rest
      by false n c k rest = rest

  location_found : (ps : List FlatPlace) (free : Free) (t : ℕ) →
      ((found is_location t (all_housed table start lines free ps)).alias ≡ own_where (standing lines) (alias_in location_to t lines))
      ⊎ (((found is_location t (all_housed table start lines free ps)).alias ≡ Own) × (place_named is_location ps t ≡ None))
  location_found [] free t = inr (refl, refl)
  location_found (p ∷ ps) free t = by (nat_eq p.number t) refl (is_location p.kind) refl (location_found ps (behind table start lines free p) t)
    where
      tail : Housed
      tail = found is_location t (all_housed table start lines (behind table start lines free p) ps)

      by : (b : Bool) → nat_eq p.number t ≡ b → (c : Bool) → is_location p.kind ≡ c →
          (tail.alias ≡ own_where (standing lines) (alias_in location_to t lines)) ⊎ ((tail.alias ≡ Own) × (place_named is_location ps t ≡ None)) →
          ((if b && c then housed table start lines free p else tail).alias ≡ own_where (standing lines) (alias_in location_to t lines))
          ⊎ (((if b && c then housed table start lines free p else tail).alias ≡ Own)
          × ((if b && c then Some p else place_named is_location ps t) ≡ None))
      by true n true k rest = inl (location_alias p.kind p.number k
          ∙ ap (λ m. own_where (standing lines) (alias_in location_to m lines)) (eqb-true p.number t n))
      by true n false k rest = rest
      by false n c k rest = rest

  pub finds : (procs : List Signature) (globals ps : List FlatPlace) (free : Free) → Finds table procs globals ps lines (all_housed table start lines free ps)
  finds procs globals ps free = record { value = value_found ps free; location = location_found ps free }

  -- ---- types of the table

  one_known : (p : FlatPlace) → IsBuiltPlace (known_in table) p → is_known table p.ty p.kind ≡ true
  one_known p (inl counter) = by p.kind counter
    where
      by : (kind : PlaceKind) → is_counter kind ≡ true → is_known table p.ty kind ≡ true
      by K.Counter e = refl
      by kind e = never e
  one_known p (inr b) =
      by p.kind (and_from _ _ (within p b.numbered) (and_from _ _ (ap not b.built)
      (le-leb (levels (form_of (facts_in table) (type_at (types_in table) p.ty))) 64 b.few)))
    where
      by : (kind : PlaceKind) → (nat_lt p.ty (length table) && (not (is_unbuilt (facts_in table) (type_at (types_in table) p.ty))
          && nat_le (levels (form_of (facts_in table) (type_at (types_in table) p.ty))) 64)) ≡ true → is_known table p.ty kind ≡ true
      by K.Counter e = refl
      by kind e = e

  pub known_all : (ps : List FlatPlace) (free : Free) → AreBuiltPlaces (known_in table) ps → all_known table (all_housed table start lines free ps) ≡ true
  known_all [] free h = refl
  known_all (p ∷ ps) free h = and_from _ _ (one_known p h.0) (known_all ps (behind table start lines free p) h.1)
