-- Places in scope, with the positions of their cells.
use Rattle.std.proofs.Common.{◌≡◌, refl, sym, ap, subst, ◌∙◌, arith, ℕ, suc, ◌+◌, ◌<◌, ◌≤◌, inl, inr, ◌⊎◌, Bool, true, false, not, List, [], ◌∷◌, ◌++◌, length}
use Rattle.std.specs.Prelude.{map, nat_eq, if◌then◌else◌, Some}
use Rattle.std.proofs.lemmas.Bool.{eqb-true, false≢true}
use Rattle.std.proofs.lemmas.Option.{none-some, same_Some}
use Rattle.nim_types.specs.Types.{Ty, Facts}
use Rattle.nim_types.specs.Forms.{form_of}
use Rattle.nim_program.specs.Scopes.{Placed, look}
use Rattle.nim_meaning.specs.Values.{Value, Standing, Made, Location, at_base}
use Rattle.nim_meaning.specs.State.{World}
use Rattle.holders.specs.Owned.{Constant, Has, IsName, in_program, here}
use Rattle.holders.specs.Territory.{Owner, Among, first_owner}
use Rattle.holders.specs.Working.{number}
use Rattle.holders.specs.Finding.{PlaceOf, own_place, a_name_of, of_constant}
use Rattle.holders.proofs.Scenes.{one_later, place_second}

pub data Spots (facts : Facts) (kept : ℕ → Bool) (world : World) (level : ℕ) (os : List Owner) : List Placed → List ℕ → Type 0 where
  no_spots : Spots facts kept world level os [] []
  a_spot : {p : Placed} {ps : List Placed} {r : ℕ} {rs : List ℕ} → PlaceOf os world level p.number (form_of facts p.of) (not (kept p.number)) r →
      Spots facts kept world level os ps rs → Spots facts kept world level os (p ∷ ps) (r ∷ rs)

abbrev pub spot_in : List Placed → List ℕ → ℕ → ℕ
spot_in [] rs n = 0
spot_in (p ∷ ps) [] n = 0
spot_in (p ∷ ps) (r ∷ rs) n = if nat_eq p.number n then r else spot_in ps rs n

-- of those that may be written
abbrev pub AllSpots : (kept : ℕ → Bool) → (ℕ → Type 0) → List Placed → List ℕ → Type 0
AllSpots kept P [] rs = Unit {0}
AllSpots kept P (p ∷ ps) [] = Unit {0}
AllSpots kept P (p ∷ ps) (r ∷ rs) = (kept p.number ≡ false → P r) × AllSpots kept P ps rs

abbrev pub SpotsPart : (kept : ℕ → Bool) → List Placed → List ℕ → Type 0
SpotsPart kept [] rs = Unit {0}
SpotsPart kept (p ∷ ps) [] = Unit {0}
SpotsPart kept (p ∷ ps) (r ∷ rs) = (kept p.number ≡ false → AllSpots kept (λ s. r ≡ s → ⊥) ps rs) × SpotsPart kept ps rs

module _ {facts : Facts} {kept : ℕ → Bool} {world : World} {level : ℕ} {os : List Owner} where
  pub spot_looked : {ps : List Placed} {rs : List ℕ} (n : ℕ) {ty : Ty} → Spots facts kept world level os ps rs → look ps n ≡ Some ty →
      PlaceOf os world level n (form_of facts ty) (not (kept n)) (spot_in ps rs n)
  spot_looked n {ty} no_spots e = absurd (none-some ty e)
  spot_looked n {ty} (a_spot {p = p} {ps = ps} {r = r} {rs = rs} place more) e = by (nat_eq p.number n) refl e (λ q. spot_looked n more q)
    where
      by : (b : Bool) → nat_eq p.number n ≡ b → (if b then Some p.of else look ps n) ≡ Some ty →
          (look ps n ≡ Some ty → PlaceOf os world level n (form_of facts ty) (not (kept n)) (spot_in ps rs n)) →
          PlaceOf os world level n (form_of facts ty) (not (kept n)) (if b then r else spot_in ps rs n)
      by true is e rest = subst (λ t. PlaceOf os world level n (form_of facts t) (not (kept n)) r) (same_Some p.of ty e)
          (subst (λ m. PlaceOf os world level m (form_of facts p.of) (not (kept m)) r) (eqb-true p.number n is) place)
      by false is e rest = rest e

  pub spots_at : {ps : List Placed} {rs : List ℕ} (P : ℕ → Type 0) (n : ℕ) {ty : Ty} → Spots facts kept world level os ps rs → AllSpots kept P ps rs →
      look ps n ≡ Some ty → kept n ≡ false → P (spot_in ps rs n)
  spots_at P n {ty} no_spots all e k = absurd (none-some ty e)
  spots_at P n {ty} (a_spot {p = p} {ps = ps} {r = r} {rs = rs} place more) all e k = by (nat_eq p.number n) refl e (λ q. spots_at P n more all.1 q k)
    where
      by : (b : Bool) → nat_eq p.number n ≡ b → (if b then Some p.of else look ps n) ≡ Some ty → (look ps n ≡ Some ty → P (spot_in ps rs n)) →
          P (if b then r else spot_in ps rs n)
      by true is e rest = all.0 (ap kept (eqb-true p.number n is) ∙ k)
      by false is e rest = rest e

  pub spots_two : {ps : List Placed} {rs : List ℕ} (n m : ℕ) {ty other : Ty} → Spots facts kept world level os ps rs → SpotsPart kept ps rs →
      look ps n ≡ Some ty → look ps m ≡ Some other → kept n ≡ false → kept m ≡ false → spot_in ps rs n ≡ spot_in ps rs m → n ≡ m
  spots_two n m {ty} no_spots part e f k l same = absurd (none-some ty e)
  spots_two n m {ty} {other} (a_spot {p = p} {ps = ps} {r = r} {rs = rs} place more) part e f k l same =
      by (nat_eq p.number n) (nat_eq p.number m) refl refl e f same (λ a b c. spots_two n m more part.1 a b k l c)
    where
      apart : (i j : ℕ) {t : Ty} → nat_eq p.number i ≡ true → kept i ≡ false → look ps j ≡ Some t → kept j ≡ false → r ≡ spot_in ps rs j → ⊥
      apart i j is a there b q = spots_at (λ s. r ≡ s → ⊥) j more (part.0 (ap kept (eqb-true p.number i is) ∙ a)) there b q

      by : (u v : Bool) → nat_eq p.number n ≡ u → nat_eq p.number m ≡ v → (if u then Some p.of else look ps n) ≡ Some ty →
          (if v then Some p.of else look ps m) ≡ Some other → (if u then r else spot_in ps rs n) ≡ (if v then r else spot_in ps rs m) →
          (look ps n ≡ Some ty → look ps m ≡ Some other → spot_in ps rs n ≡ spot_in ps rs m → n ≡ m) → n ≡ m
      by true true is also e f q rest = sym (eqb-true p.number n is) ∙ eqb-true p.number m also
      by true false is also e f q rest = absurd (apart n m is k f l q)
      by false true is also e f q rest = absurd (apart m n also l e k (sym q))
      by false false is also e f q rest = rest e f q

all_weaker : (kept : ℕ → Bool) (P Q : ℕ → Type 0) → ((r : ℕ) → P r → Q r) → (ps : List Placed) (rs : List ℕ) → AllSpots kept P ps rs → AllSpots kept Q ps rs
all_weaker kept P Q h [] rs all = tt
all_weaker kept P Q h (p ∷ ps) [] all = tt
all_weaker kept P Q h (p ∷ ps) (r ∷ rs) all = (λ k. h r (all.0 k), all_weaker kept P Q h ps rs all.1)

-- ---- one cell more in front

all_later : (kept : ℕ → Bool) (P Q : ℕ → Type 0) → ((r : ℕ) → P r → Q (suc r)) → (ps : List Placed) (rs : List ℕ) → AllSpots kept P ps rs →
    AllSpots kept Q ps (map suc rs)
all_later kept P Q h [] rs all = tt
all_later kept P Q h (p ∷ ps) [] all = tt
all_later kept P Q h (p ∷ ps) (r ∷ rs) all = (λ k. h r (all.0 k), all_later kept P Q h ps rs all.1)

part_later : (kept : ℕ → Bool) (ps : List Placed) (rs : List ℕ) → SpotsPart kept ps rs → SpotsPart kept ps (map suc rs)
part_later kept [] rs part = tt
part_later kept (p ∷ ps) [] part = tt
part_later kept (p ∷ ps) (r ∷ rs) part = (
  λ k. all_later kept (λ s. r ≡ s → ⊥) (λ s. suc r ≡ s → ⊥) (λ s d e. d (omega (arith, e))) ps rs (part.0 k),
  part_later kept ps rs part.1,
)

spots_later : {facts : Facts} {kept : ℕ → Bool} {world : World} {level : ℕ} {os : List Owner} {ps : List Placed} {rs : List ℕ} (o : Owner) →
    Spots facts kept world level os ps rs → Spots facts kept world level (o ∷ os) ps (map suc rs)
spots_later o no_spots = no_spots
spots_later o (a_spot place more) = a_spot (one_later place) (spots_later o more)

-- ---- places with cells of their own, and names for others, from a last position down

-- among its own cells, or from a count on below the last position
abbrev pub Within : (own count top : ℕ) → ℕ → Type 0
Within own count top r = (r < own) ⊎ ((own + count ≤ r) × (r < own + top))

pub record SpotsOf (facts : Facts) (kept : ℕ → Bool) (world : World) (level : ℕ) (ms gs : List Owner) (ps : List Placed) (count top : ℕ) : Type 0 where
  pub rs : List ℕ
  pub spots : Spots facts kept world level (ms ++ gs) ps rs
  pub part : SpotsPart kept ps rs
  pub within : AllSpots kept (Within (length ms) count top) ps rs
  pub least : count ≤ top

module _ {facts : Facts} {kept : ℕ → Bool} {world : World} {level : ℕ} {ms gs : List Owner} {ps : List Placed} {count top : ℕ} where
  pub spots_own : (p : Placed) → SpotsOf facts kept world level ms gs ps count top →
      SpotsOf facts kept world level (record { form = form_of facts p.of; at = at_base (Standing level p.number) } ∷ ms) gs (p ∷ ps) count top
  spots_own p s = record {
    rs = 0 ∷ map suc s.rs;
    spots = a_spot (own_place first_owner) (spots_later (record { form = form_of facts p.of; at = at_base (Standing level p.number) }) s.spots);
    part = (
      λ k. all_later kept (Within (length ms) count top) (λ r. 0 ≡ r → ⊥) (λ r w e. omega (arith, e)) ps s.rs s.within,
      part_later kept ps s.rs s.part,
    );
    within = (
      λ k. inl (omega arith),
      all_later kept (Within (length ms) count top) (Within (suc (length ms)) count top) (λ r w. later r w) ps s.rs s.within,
    );
    least = s.least;
  }
    where
      later : (r : ℕ) → Within (length ms) count top r → Within (suc (length ms)) count top (suc r)
      later r (inl less) = inl (omega (arith, less))
      later r (inr q) = inr (omega (arith, q.0), omega (arith, q.1))

  pub spots_name : (p : Placed) {l : Location} → IsName world.frames level p.number l → (i : Among gs (record { form = form_of facts p.of; at = l })) →
      number i ≡ top → SpotsOf facts kept world level ms gs ps count top → SpotsOf facts kept world level ms gs (p ∷ ps) count (suc top)
  spots_name p name i e s = record {
    rs = (length ms + top) ∷ s.rs;
    spots = a_spot (subst (λ r. PlaceOf (ms ++ gs) world level p.number (form_of facts p.of) (not (kept p.number)) (length ms + r)) e
        (place_second ms (a_name_of name i))) s.spots;
    part = (
      λ k. all_weaker kept (Within (length ms) count top) (λ r. length ms + top ≡ r → ⊥) (λ r w q. off r w q) ps s.rs s.within,
      s.part,
    );
    within = (
      λ k. inr (omega (arith, s.least), omega arith),
      all_weaker kept (Within (length ms) count top) (Within (length ms) count (suc top)) (λ r w. more r w) ps s.rs s.within,
    );
    least = omega (arith, s.least);
  }
    where
      off : (r : ℕ) → Within (length ms) count top r → length ms + top ≡ r → ⊥
      off r (inl less) q = omega (arith, less, q)
      off r (inr w) q = omega (arith, w.1, q)

      more : (r : ℕ) → Within (length ms) count top r → Within (length ms) count (suc top) r
      more r (inl less) = inl less
      more r (inr w) = inr (w.0, omega (arith, w.1))

  pub spots_constant : (p : Placed) {v : Value} → kept p.number ≡ true → IsName world.frames level p.number (at_base (Made v)) →
      Has world Constant (form_of facts p.of) v [] → SpotsOf facts kept world level ms gs ps count top →
      SpotsOf facts kept world level ms gs (p ∷ ps) count top
  spots_constant p is_kept name h s = record {
    rs = 0 ∷ s.rs;
    spots = a_spot (subst (λ b. PlaceOf (ms ++ gs) world level p.number (form_of facts p.of) (not b) 0) (sym is_kept)
        (of_constant name refl (record { base = in_program; there = here; is = refl }) h)) s.spots;
    part = (λ k. absurd (false≢true (sym k ∙ is_kept)), s.part);
    within = (λ k. absurd (false≢true (sym k ∙ is_kept)), s.within);
    least = s.least;
  }
