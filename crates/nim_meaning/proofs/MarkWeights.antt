-- What each part of the tree weighs at most: how often a mark may stand in its acts.
use Rattle.std.proofs.Common.{◌≡◌, refl, arith, ◌≤◌, ℕ, ◌+◌, nat_eq, Bool, true, false, ◌&&◌, if◌then◌else◌, List, [], ◌∷◌, Option, Some, None}
use Rattle.nim_program.specs.declared.expr.Node.{Node}
use Rattle.nim_program.specs.Program.{Declared}
use Rattle.nim_program.specs.Folds.{Seen}
use Rattle.nim_meaning.specs.ActTree.{Named, Temporary, Literal, Role, Begins, Does, Fills, Looks, Chooses, Turns, Asks, Decides, Leaves}
use Rattle.nim_meaning.specs.Marks.{Mark, Spot, Scope}
use Rattle.nim_meaning.proofs.MarkCounts.{bit, same_role, one}

-- the roles in which a node stands around an expression that is a statement or a condition, and not of itself
abbrev pub is_outer : Role → Bool
is_outer Begins = true
is_outer Does = false
is_outer Fills = false
is_outer Looks = false
is_outer Chooses = false
is_outer Turns = false
is_outer Asks = true
is_outer Decides = true
is_outer Leaves = false

abbrev is_inner : Role → Bool
is_inner r = if is_outer r then false else true

module _ (m : Mark) where
  -- the marks of a node of itself, and those around it
  abbrev inner_by : Mark → ℕ → ℕ
  inner_by (Spot n r) k = bit (nat_eq k n && is_inner r)
  inner_by (Scope (Temporary n)) k = bit (nat_eq k n)
  inner_by (Scope (Named p)) k = 0
  inner_by (Scope (Literal n)) k = 0

  abbrev outer_by : Mark → ℕ → ℕ
  outer_by (Spot n r) k = bit (nat_eq k n && is_outer r)
  outer_by (Scope x) k = 0

  abbrev pub inner : ℕ → ℕ
  inner k = inner_by m k

  abbrev pub outer : ℕ → ℕ
  outer k = outer_by m k

  abbrev pub node_weight : ℕ → ℕ
  node_weight k = outer k + inner k

  abbrev pub place_weight : Declared → ℕ
  place_weight place = one m (Scope (Named place.number))

  abbrev pub if_place_weight : Option Declared → ℕ
  if_place_weight None = 0
  if_place_weight (Some place) = place_weight place

  abbrev pub with_places : List Declared → (weight : ℕ) → ℕ
  with_places [] weight = weight
  with_places (place ∷ places) weight = place_weight place + with_places places weight

  abbrev pub weight_if : Option Node → ℕ
  weight_if None = 0
  weight_if (Some node) = node_weight node.number

  -- of a part of the tree
  abbrev pub own : Seen → ℕ
  own seen = with_places seen.places (weight_if seen.node)

-- ---- the roles of one node

inner_of : (r : Role) (b : Bool) →
    bit (b && same_role Does r) + (bit (b && same_role Fills r) + (bit (b && same_role Looks r) + (bit (b && same_role Chooses r)
    + (bit (b && same_role Turns r) + bit (b && same_role Leaves r))))) ≡ bit (b && is_inner r)
inner_of r false = refl
inner_of Begins true = refl
inner_of Does true = refl
inner_of Fills true = refl
inner_of Looks true = refl
inner_of Chooses true = refl
inner_of Turns true = refl
inner_of Asks true = refl
inner_of Decides true = refl
inner_of Leaves true = refl

outer_of : (r : Role) (b : Bool) → bit (b && same_role Begins r) + (bit (b && same_role Asks r) + bit (b && same_role Decides r)) ≡ bit (b && is_outer r)
outer_of r false = refl
outer_of Begins true = refl
outer_of Does true = refl
outer_of Fills true = refl
outer_of Looks true = refl
outer_of Chooses true = refl
outer_of Turns true = refl
outer_of Asks true = refl
outer_of Decides true = refl
outer_of Leaves true = refl

-- all that stands at a node of itself: its points, and the scope of its temporary
pub inner_roles : (m : Mark) (k : ℕ) →
    one m (Spot k Does) + (one m (Spot k Fills) + (one m (Spot k Looks) + (one m (Spot k Chooses) + (one m (Spot k Turns) + (one m (Spot k Leaves)
    + one m (Scope (Temporary k))))))) ≤ inner m k
inner_roles (Spot n r) k = let e = inner_of r (nat_eq k n) in omega (arith, e)
inner_roles (Scope (Temporary n)) k = omega arith
inner_roles (Scope (Named p)) k = omega arith
inner_roles (Scope (Literal n)) k = omega arith

pub outer_roles : (m : Mark) (k : ℕ) → one m (Spot k Begins) + (one m (Spot k Asks) + one m (Spot k Decides)) ≤ outer m k
outer_roles (Spot n r) k = let e = outer_of r (nat_eq k n) in omega (arith, e)
outer_roles (Scope x) k = omega arith
