-- What waits has homes and variables behind those of all places, one after another; without hooks there are none.
use Rattle.std.proofs.Common.{◌≡◌, refl, sym, ap, ◌∙◌, ℕ, ◌+◌, ◌%◌, ◌≤◌, ◌<◌, List, [], ◌∷◌, ◌++◌, length, drop, get_or, arith}
use Rattle.std.proofs.Common.{append-nil, append_assoc, Bool, true, false, Option, Some, None}
use Rattle.std.proofs.lemmas.List.{drop_more, drop_all}
use Rattle.nim_types.specs.declared.types.TypeDef.{TypeDef}
use Rattle.flat_code.specs.declared.line.Line.{Line}
use Rattle.flat_code.specs.declared.place.FlatPlace.{FlatPlace}
use Rattle.flat_code.specs.declared.place.PlaceKind.{PlaceKind}
use Rattle.flat_code.specs.declared.place.PlaceKind.TheVariants as K
use Rattle.flat_code.specs.Codes.{and_waits, waiting_in}
use Rattle.word_lowering.specs.declared.homes.Alias.{Alias}
use Rattle.word_lowering.specs.declared.homes.Alias.TheVariants.{Own}
use Rattle.word_lowering.specs.declared.homes.Free.{Free}
use Rattle.word_lowering.specs.declared.homes.Housed.{Housed}
use Rattle.word_lowering.specs.declared.homes.Waiter.{Waiter}
use Rattle.word_lowering.specs.Layouts.{AreNumbers, all_housed, and_waiter, behind, behind_waiter, behind_waiters}
use Rattle.word_lowering.specs.Layouts.{place_alias, place_bytes, waiters, waits_by}
use Rattle.word_lowering.specs.Stored.{is_hooked}
use Rattle.word_lowering.proofs.HomesApart.{Each, Grows}
use Rattle.word_lowering.proofs.LayoutBounds.{place_whole}

-- ---- what they take

one_grows : (waits : Option ℕ) (bytes : ℕ) (free : Free) → Grows free (behind_waiter waits bytes free)
one_grows None bytes free = record { variable = omega arith; byte = omega arith; datum = omega arith }
one_grows (Some node) bytes free = record { variable = omega arith; byte = omega arith; datum = omega arith }

pub waiters_grow : (free : Free) (hs : List Housed) → Grows free (behind_waiters free hs)
waiters_grow free [] = record { variable = omega arith; byte = omega arith; datum = omega arith }
waiters_grow free (h ∷ hs) =
    let one = one_grows h.waits h.bytes free in
    let rest = waiters_grow (behind_waiter h.waits h.bytes free) hs in
    let a = one.variable in
    let b = rest.variable in
    let c = one.byte in
    let d = rest.byte in
    let e = one.datum in
    let f = rest.datum in
    record { variable = omega (arith, a, b); byte = omega (arith, c, d); datum = omega (arith, e, f) }

-- no data
one_datum : (waits : Option ℕ) (bytes : ℕ) (free : Free) → (behind_waiter waits bytes free).datum ≡ free.datum
one_datum None bytes free = refl
one_datum (Some node) bytes free = refl

pub waiters_datum : (free : Free) (hs : List Housed) → (behind_waiters free hs).datum ≡ free.datum
waiters_datum free [] = refl
waiters_datum free (h ∷ hs) = waiters_datum (behind_waiter h.waits h.bytes free) hs ∙ one_datum h.waits h.bytes free

-- whole words
one_whole : (waits : Option ℕ) (bytes : ℕ) (free : Free) → bytes % 4 ≡ 0 → free.byte % 4 ≡ 0 → (behind_waiter waits bytes free).byte % 4 ≡ 0
one_whole None bytes free b e = e
one_whole (Some node) bytes free b e = omega (arith, b, e)

waiters_whole : (free : Free) (hs : List Housed) → Each (λ h. h.bytes % 4 ≡ 0) hs → free.byte % 4 ≡ 0 → (behind_waiters free hs).byte % 4 ≡ 0
waiters_whole free [] all e = e
waiters_whole free (h ∷ hs) all e = waiters_whole (behind_waiter h.waits h.bytes free) hs all.1 (one_whole h.waits h.bytes free all.0 e)

bytes_whole : (table : List TypeDef) (start : Bool) (lines : List Line) (free : Free) (ps : List FlatPlace)
    → Each (λ h. h.bytes % 4 ≡ 0) (all_housed table start lines free ps)
bytes_whole table start lines free [] = tt
bytes_whole table start lines free (p ∷ ps) = (place_whole table start lines p, bytes_whole table start lines (behind table start lines free p) ps)

pub room_whole_behind : (table : List TypeDef) (start : Bool) (lines : List Line) (first free : Free) (ps : List FlatPlace) → free.byte % 4 ≡ 0
    → (behind_waiters free (all_housed table start lines first ps)).byte % 4 ≡ 0
room_whole_behind table start lines first free ps e =
    waiters_whole free (all_housed table start lines first ps) (bytes_whole table start lines first ps) e

-- ---- one more

in_front : (waits : Option ℕ) (ty bytes : ℕ) (free : Free) (made rest : List Waiter)
    → (made ++ and_waiter waits ty bytes free []) ++ rest ≡ made ++ and_waiter waits ty bytes free rest
in_front None ty bytes free made rest = ap (λ ws. ws ++ rest) (append-nil made)
in_front (Some node) ty bytes free made rest =
    append_assoc made (record { node = node; ty = ty; bytes = bytes; at = free.byte; variable = free.variable } ∷ []) rest

module _ (hs : List Housed) (i : ℕ) (none : Housed) (free : Free) (within : i < length hs) where
  abbrev here : Housed
  here = get_or hs i none

  abbrev next : Free
  next = behind_waiter here.waits here.bytes free

  next_is : behind_waiters free (drop i hs) ≡ behind_waiters next (drop (i + 1) hs)
  next_is = ap (behind_waiters free) (drop_more hs i none within)

  pub next_waiter : (made more all : List Waiter) (taken : Free) → more ≡ made ++ and_waiter here.waits here.ty here.bytes free [] → taken ≡ next
      → made ++ waiters free (drop i hs) ≡ all → more ++ waiters taken (drop (i + 1) hs) ≡ all
  next_waiter made more all taken m t before =
      ap (λ ws. ws ++ waiters taken (drop (i + 1) hs)) m
      ∙ ap (λ (f : Free). (made ++ and_waiter here.waits here.ty here.bytes free []) ++ waiters f (drop (i + 1) hs)) t
      ∙ in_front here.waits here.ty here.bytes free made (waiters next (drop (i + 1) hs))
      ∙ ap (λ ws. made ++ ws) (sym (ap (waiters free) (drop_more hs i none within)))
      ∙ before

  pub next_free : (taken all : Free) → taken ≡ next → behind_waiters free (drop i hs) ≡ all → behind_waiters taken (drop (i + 1) hs) ≡ all
  next_free taken all t before = ap (λ (f : Free). behind_waiters f (drop (i + 1) hs)) t ∙ sym next_is ∙ before

  pub next_numbers : (all : Free) → behind_waiters free (drop i hs) ≡ all → AreNumbers all → AreNumbers next
  next_numbers all before small =
      let grows = waiters_grow next (drop (i + 1) hs) in
      let is = sym next_is ∙ before in
      let v = grows.variable in
      let b = grows.byte in
      let d = grows.datum in
      let sv = small.variable in
      let sb = small.byte in
      let sd = small.datum in
      let iv = ap (λ (f : Free). f.variable) is in
      let ib = ap (λ (f : Free). f.byte) is in
      let id = ap (λ (f : Free). f.datum) is in
      record { variable = omega (arith, v, sv, iv); byte = omega (arith, b, sb, ib); datum = omega (arith, d, sd, id) }

-- none is left
pub last_waiter : (hs : List Housed) (i : ℕ) (free : Free) (made all : List Waiter) → length hs ≤ i → made ++ waiters free (drop i hs) ≡ all → made ≡ all
last_waiter hs i free made all le before = sym (append-nil made) ∙ ap (λ rest. made ++ waiters free rest) (sym (drop_all i hs le)) ∙ before

pub last_free : (hs : List Housed) (i : ℕ) (free all : Free) → length hs ≤ i → behind_waiters free (drop i hs) ≡ all → free ≡ all
last_free hs i free all le before = sym (ap (behind_waiters free) (drop_all i hs le)) ∙ before

-- ---- variables of all are below those that aren't taken

abbrev pub AreBelow : ℕ → List Waiter → Type 0
AreBelow n [] = Unit {0}
AreBelow n (w ∷ ws) = (w.variable < n) × AreBelow n ws

pub waiters_below : (free : Free) (hs : List Housed) (n : ℕ) → (behind_waiters free hs).variable ≤ n → AreBelow n (waiters free hs)
waiters_below free [] n le = tt
waiters_below free (h ∷ hs) n le =
    by h.waits (waiters_grow (behind_waiter h.waits h.bytes free) hs).variable le (waiters_below (behind_waiter h.waits h.bytes free) hs n le)
  where
    by : (o : Option ℕ) → (behind_waiter o h.bytes free).variable ≤ (behind_waiters (behind_waiter o h.bytes free) hs).variable
        → (behind_waiters (behind_waiter o h.bytes free) hs).variable ≤ n → AreBelow n (waiters (behind_waiter o h.bytes free) hs)
        → AreBelow n (and_waiter o h.ty h.bytes free (waiters (behind_waiter o h.bytes free) hs))
    by None g le rest = rest
    by (Some node) g le rest = (omega (arith, g, le), rest)

-- and all from one on
abbrev pub AreFrom : ℕ → List Waiter → Type 0
AreFrom n [] = Unit {0}
AreFrom n (w ∷ ws) = (n ≤ w.variable) × AreFrom n ws

-- and none is one of those that were taken before
pub waiters_from : (free : Free) (hs : List Housed) (n : ℕ) → n ≤ free.variable → AreFrom n (waiters free hs)
waiters_from free [] n le = tt
waiters_from free (h ∷ hs) n le = by h.waits (λ f more. waiters_from f hs n more)
  where
    by : (o : Option ℕ) → ((f : Free) → n ≤ f.variable → AreFrom n (waiters f hs))
        → AreFrom n (and_waiter o h.ty h.bytes free (waiters (behind_waiter o h.bytes free) hs))
    by None go = go free le
    by (Some node) go = (le, go (behind_waiter (Some node) h.bytes free) (omega (arith, le)))

-- no more than places that may wait
pub waiters_few : (table : List TypeDef) (start : Bool) (lines : List Line) (first free : Free) (ps : List FlatPlace)
    → length (waiters free (all_housed table start lines first ps)) ≤ waiting_in ps
waiters_few table start lines first free [] = omega arith
waiters_few table start lines first free (p ∷ ps) =
    by p.kind (place_alias table start lines p) (is_hooked table p.ty) p.waits
    (λ f. waiters_few table start lines (behind table start lines first p) f ps)
  where
    bytes : ℕ
    bytes = place_bytes table start lines p

    rest : Free → List Waiter
    rest f = waiters f (all_housed table start lines (behind table start lines first p) ps)

    one : (o : Option ℕ) → ((f : Free) → length (rest f) ≤ waiting_in ps)
        → length (and_waiter o p.ty bytes free (rest (behind_waiter o bytes free))) ≤ and_waits o (waiting_in ps)
    one None go = go free
    one (Some node) go = let h = go (behind_waiter (Some node) bytes free) in omega (arith, h)

    -- what waits in no home waits all the same
    none : (waits : Option ℕ) → ((f : Free) → length (rest f) ≤ waiting_in ps)
        → length (and_waiter None p.ty bytes free (rest (behind_waiter None bytes free))) ≤ and_waits waits (waiting_in ps)
    none None go = go free
    none (Some node) go = let h = go free in omega (arith, h)

    by : (kind : PlaceKind) (alias : Alias) (hooked : Bool) (waits : Option ℕ) → ((f : Free) → length (rest f) ≤ waiting_in ps)
        → length (and_waiter (waits_by kind alias hooked waits) p.ty bytes free (rest (behind_waiter (waits_by kind alias hooked waits) bytes free)))
        ≤ and_waits waits (waiting_in ps)
    by K.Temp Own true waits go = one waits go
    by K.Temp Own false waits go = none waits go
    by K.Temp alias hooked waits go = none waits go
    by kind alias hooked waits go = none waits go
