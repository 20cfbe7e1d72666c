-- Definitions that stand one behind the other have keys of their own.
use Rattle.std.proofs.Common.{◌≡◌, ℕ, zero, suc, ◌<◌, ◌≤◌, List, [], ◌∷◌, length, refl, sym, ap, subst, arith}
use Rattle.std.specs.Prelude.{Bool, true, false, ◌||◌}
use Rattle.std.proofs.lemmas.Bool.{false_from_ne_true}
use Rattle.nim_tree.specs.Types.{Declaration}
use Rattle.nim_types.specs.Types as type
use Rattle.nim_types.specs.Types.{Ty, Key, same_key}
use Rattle.nim_types.proofs.ForCallers.{same_sound, same_refl}
use Rattle.decl_rules.specs.Meanings.{key_of, keys_of, is_key_among}
use Rattle.decl_types.specs.ViewNodes.{no_key, key_at}
use Rattle.decl_types.specs.ViewPlaces.{position, Ascends}
use Rattle.decl_types.specs.ViewScoped.{Differ}

-- ---- keys

abbrev key_in : Key → Ty → Key
key_in key (type.distinct k) = k
key_in key _ = key

pub one_key : (a b : Key) → same_key a b ≡ true → a ≡ b
one_key a b e = ap (key_in a) (same_sound (type.distinct a) (type.distinct b) e)

pub key_same : (key : Key) → same_key key key ≡ true
key_same key = same_refl (type.distinct key)

pub key_among : (keys : List Key) (i : ℕ) → i < length keys → is_key_among (key_at keys i) keys ≡ true
key_among [] i h = absurd (omega (arith, h))
key_among (key ∷ keys) zero h = ap (λ b. b || is_key_among key keys) (key_same key)
key_among (key ∷ keys) (suc i) h = by_first (same_key (key_at keys i) key) (key_among keys i (omega (arith, h)))
  where
    by_first : (b : Bool) → is_key_among (key_at keys i) keys ≡ true → (b || is_key_among (key_at keys i) keys) ≡ true
    by_first true e = refl
    by_first false e = e

-- ---- places

among_in : (home last : ℕ) (all : List Declaration) (key : Key) → Ascends home last all → is_key_among key (keys_of all) ≡ true
    → (key.at.module ≡ home) × (last < position key.at)
among_in home last [] key h e = cc
among_in home last (d ∷ rest) key h e =
    by_first (same_key key (key_of d)) refl e (λ f. among_in home (position d.name.at) rest key h.2 f)
  where
    by_first : (b : Bool) → same_key key (key_of d) ≡ b → (b || is_key_among key (keys_of rest)) ≡ true
        → (is_key_among key (keys_of rest) ≡ true → (key.at.module ≡ home) × (position d.name.at < position key.at))
        → (key.at.module ≡ home) × (last < position key.at)
    by_first true s f go = subst (λ (z : Key). (z.at.module ≡ home) × (last < position z.at)) (sym (one_key key (key_of d) s)) (h.0, h.1)
    by_first false s f go = let r = go f in (r.0, omega (arith, h.1, r.1))

-- what stands elsewhere, or before
pub far_key : (home last : ℕ) (all : List Declaration) (key : Key) → Ascends home last all → (key.at.module ≡ home → position key.at ≤ last)
    → is_key_among key (keys_of all) ≡ false
far_key home last all key h far =
    false_from_ne_true (is_key_among key (keys_of all)) (λ e.
    let r = among_in home last all key h e in
    let f = far r.0 in
    omega (arith, r.1, f))

pub no_key_among : (home last : ℕ) (all : List Declaration) → Ascends home last all → is_key_among no_key (keys_of all) ≡ false
no_key_among home last all h = far_key home last all no_key h (λ _. omega arith)

behind_all : (home last : ℕ) (all : List Declaration) (j : ℕ) → Ascends home last all → j < length (keys_of all)
    → last < position (key_at (keys_of all) j).at
behind_all home last [] j h lt = absurd (omega (arith, lt))
behind_all home last (d ∷ rest) zero h lt = h.1
behind_all home last (d ∷ rest) (suc j) h lt =
    let r = behind_all home (position d.name.at) rest j h.2 (omega (arith, lt)) in
    omega (arith, h.1, r)

same_position : (a b : Key) → same_key a b ≡ true → position a.at ≡ position b.at
same_position a b e = ap (λ (k : Key). position k.at) (one_key a b e)

pub all_differ : (home last : ℕ) (all : List Declaration) → Ascends home last all → Differ (keys_of all)
all_differ home last [] h i j a b e = absurd (omega (arith, a))
all_differ home last (d ∷ rest) h zero zero a b e = refl
all_differ home last (d ∷ rest) h zero (suc j) a b e =
    let r = behind_all home (position d.name.at) rest j h.2 (omega (arith, b)) in
    let s = same_position (key_of d) (key_at (keys_of rest) j) e in
    absurd (omega (arith, r, s))
all_differ home last (d ∷ rest) h (suc i) zero a b e =
    let r = behind_all home (position d.name.at) rest i h.2 (omega (arith, a)) in
    let s = same_position (key_at (keys_of rest) i) (key_of d) e in
    absurd (omega (arith, r, s))
all_differ home last (d ∷ rest) h (suc i) (suc j) a b e =
    ap suc (all_differ home (position d.name.at) rest h.2 i j (omega (arith, a)) (omega (arith, b)) e)
