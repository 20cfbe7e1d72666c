-- Places of a layout have homes that don't overlap.
use Rattle.std.proofs.Common.{◌≡◌, ◌≢◌, ℕ, ◌+◌, ◌≤◌, ◌<◌, List, [], ◌∷◌, Bool, true, false, sym, subst, arith}
use Rattle.nim_types.specs.declared.types.TypeDef.{TypeDef}
use Rattle.flat_code.specs.declared.line.Line.{Line}
use Rattle.flat_code.specs.declared.place.FlatPlace.{FlatPlace}
use Rattle.word_lowering.specs.declared.homes.Alias.{Alias}
use Rattle.word_lowering.specs.declared.homes.Alias.TheVariants.{Own, Place, Value, Node, Text}
use Rattle.word_lowering.specs.declared.homes.Home.{Home}
use Rattle.word_lowering.specs.declared.homes.Home.TheVariants.{Variable, Placed, Static}
use Rattle.word_lowering.specs.declared.homes.Housed.{Housed}
use Rattle.word_lowering.specs.declared.homes.Free.{Free}
use Rattle.word_lowering.specs.Layouts.{is_static, home_at, home_by, free_behind, free_by, place_bytes, place_kept, place_alias, behind, all_housed, behind_all}

-- homes of so many bytes each that don't overlap
abbrev pub Apart : Home → ℕ → Home → ℕ → Type 0
Apart (Variable v) m (Variable u) n = v ≢ u
Apart (Variable v) m (Placed b) n = Unit {0}
Apart (Variable v) m (Static b) n = Unit {0}
Apart (Placed a) m (Variable u) n = Unit {0}
Apart (Placed a) m (Placed b) n = a + m ≤ b
Apart (Placed a) m (Static b) n = Unit {0}
Apart (Static a) m (Variable u) n = Unit {0}
Apart (Static a) m (Placed b) n = Unit {0}
Apart (Static a) m (Static b) n = a + m ≤ b

abbrev pub Each : (Housed → Type 0) → List Housed → Type 0
Each P [] = Unit {0}
Each P (h ∷ hs) = P h × Each P hs

-- where both have homes
abbrev pub Parted : Housed → Housed → Type 0
Parted h k = h.alias ≡ Own → k.alias ≡ Own → Apart h.home h.bytes k.home k.bytes

-- each is apart from all behind it
abbrev pub AllApart : List Housed → Type 0
AllApart [] = Unit {0}
AllApart (h ∷ hs) = Each (Parted h) hs × AllApart hs

-- a home takes nothing that isn't free, and nothing beyond what is free behind it
abbrev pub IsBetween : Free → Free → ℕ → Home → Type 0
IsBetween low high n (Variable v) = (low.variable ≤ v) × (v < high.variable)
IsBetween low high n (Placed at) = (low.byte ≤ at) × (at + n ≤ high.byte)
IsBetween low high n (Static at) = (low.datum ≤ at) × (at + n ≤ high.datum)

pub record Grows (low high : Free) : Type 0 where
  pub variable : low.variable ≤ high.variable
  pub byte : low.byte ≤ high.byte
  pub datum : low.datum ≤ high.datum

grows_more : (a b c : Free) → Grows a b → Grows b c → Grows a c
grows_more a b c x y = record {
  variable = omega (arith, x.variable, y.variable);
  byte = omega (arith, x.byte, y.byte);
  datum = omega (arith, x.datum, y.datum);
}

grows_behind : (static kept : Bool) (n : ℕ) (free : Free) → Grows free (free_behind static kept n free)
grows_behind true kept n free = record { variable = omega arith; byte = omega arith; datum = omega arith }
grows_behind false true n free = record { variable = omega arith; byte = omega arith; datum = omega arith }
grows_behind false false n free = record { variable = omega arith; byte = omega arith; datum = omega arith }

between_more : (a b c d : Free) (n : ℕ) (home : Home) → Grows a b → Grows c d → IsBetween b c n home → IsBetween a d n home
between_more a b c d n (Variable v) x y h = (omega (arith, x.variable, h.0), omega (arith, y.variable, h.1))
between_more a b c d n (Placed at) x y h = (omega (arith, x.byte, h.0), omega (arith, y.byte, h.1))
between_more a b c d n (Static at) x y h = (omega (arith, x.datum, h.0), omega (arith, y.datum, h.1))

home_between : (static kept : Bool) (n : ℕ) (free : Free) → IsBetween free (free_behind static kept n free) n (home_at static kept free)
home_between true kept n free = (omega arith, omega arith)
home_between false true n free = (omega arith, omega arith)
home_between false false n free = (omega arith, omega arith)

-- what is between what is free behind a home and something else is apart from it
apart_from : (static kept : Bool) (m : ℕ) (free high : Free) (n : ℕ) (home : Home) → IsBetween (free_behind static kept m free) high n home
    → Apart (home_at static kept free) m home n
apart_from true kept m free high n (Variable v) h = tt
apart_from true kept m free high n (Placed at) h = tt
apart_from true kept m free high n (Static at) h = h.0
apart_from false true m free high n (Variable v) h = λ e. absurd (omega (arith, h.0, e))
apart_from false true m free high n (Placed at) h = tt
apart_from false true m free high n (Static at) h = tt
apart_from false false m free high n (Variable v) h = tt
apart_from false false m free high n (Placed at) h = h.0
apart_from false false m free high n (Static at) h = tt

pub each_as : {P Q : Housed → Type 0} → ((h : Housed) → P h → Q h) → (hs : List Housed) → Each P hs → Each Q hs
each_as f [] e = tt
each_as f (h ∷ hs) e = (f h e.0, each_as f hs e.1)

-- another name takes nothing
grows_by : (alias : Alias) (low high : Free) → Grows low high → Grows low (free_by alias low high)
grows_by Own low high g = g
grows_by (Place p global) low high g = record { variable = omega arith; byte = omega arith; datum = omega arith }
grows_by (Value t) low high g = record { variable = omega arith; byte = omega arith; datum = omega arith }
grows_by (Node n) low high g = record { variable = omega arith; byte = omega arith; datum = omega arith }
grows_by (Text behind bytes) low high g = record { variable = omega arith; byte = omega arith; datum = omega arith }

module _ (table : List TypeDef) (start : Bool) (lines : List Line) where
  pub grows_next : (free : Free) (p : FlatPlace) → Grows free (behind table start lines free p)
  grows_next free p =
      grows_by (place_alias table start lines p) free
      (free_behind (is_static start p.kind) (place_kept table start lines p) (place_bytes table start lines p) free)
      (grows_behind (is_static start p.kind) (place_kept table start lines p) (place_bytes table start lines p) free)

  pub grows_all : (free : Free) (ps : List FlatPlace) → Grows free (behind_all table start lines free ps)
  grows_all free [] = record { variable = omega arith; byte = omega arith; datum = omega arith }
  grows_all free (p ∷ ps) =
      let next : Free = behind table start lines free p in
      grows_more free next (behind_all table start lines next ps) (grows_next free p) (grows_all next ps)

  -- a place with a home is between what is free before and what is free behind it
  abbrev pub Within : Free → Free → Housed → Type 0
  Within low high h = h.alias ≡ Own → IsBetween low high h.bytes h.home

  -- all are between what is free before and what is free behind them
  pub all_between : (free : Free) (ps : List FlatPlace) → Each (Within free (behind_all table start lines free ps)) (all_housed table start lines free ps)
  all_between free [] = tt
  all_between free (p ∷ ps) =
      let next : Free = behind table start lines free p in
      let high : Free = behind_all table start lines next ps in
      let same : Grows high high = record { variable = omega arith; byte = omega arith; datum = omega arith } in
      let none : Grows free free = record { variable = omega arith; byte = omega arith; datum = omega arith } in
      let static : Bool = is_static start p.kind in
      let kept : Bool = place_kept table start lines p in
      let bytes : ℕ = place_bytes table start lines p in (
        (λ own. subst (λ a. IsBetween free (behind_all table start lines (free_by a free (free_behind static kept bytes free)) ps) bytes
            (home_by a (home_at static kept free))) (sym own)
            (between_more free free (free_behind static kept bytes free)
            (behind_all table start lines (free_behind static kept bytes free) ps) bytes (home_at static kept free) none
            (grows_all (free_behind static kept bytes free) ps) (home_between static kept bytes free))),
        each_as (λ h i own. between_more free next high high h.bytes h.home (grows_next free p) same (i own)) (all_housed table start lines next ps)
            (all_between next ps),
      )

  pub all_apart : (free : Free) (ps : List FlatPlace) → AllApart (all_housed table start lines free ps)
  all_apart free [] = tt
  all_apart free (p ∷ ps) =
      let next : Free = behind table start lines free p in
      let high : Free = behind_all table start lines next ps in
      let static : Bool = is_static start p.kind in
      let kept : Bool = place_kept table start lines p in
      let bytes : ℕ = place_bytes table start lines p in (
        each_as (λ k i own other. subst (λ a. Apart (home_by a (home_at static kept free)) bytes k.home k.bytes) (sym own)
            (apart_from static kept bytes free high k.bytes k.home
            (subst (λ a. IsBetween (free_by a free (free_behind static kept bytes free)) high k.bytes k.home) own (i other))))
            (all_housed table start lines next ps) (all_between next ps),
        all_apart next ps,
      )
