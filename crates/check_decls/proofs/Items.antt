-- The items of the text stay what they are as the program grows.
use Rattle.std.proofs.Common.{◌≡◌, ℕ, zero, suc, ◌+◌, ◌<◌, ◌≤◌, List, [], ◌∷◌, ◌++◌, length, take, drop, Some}
use Rattle.std.proofs.Common.{refl, sym, ap, ap₂, ◌∙◌, arith, length-drop}
use Rattle.std.specs.Prelude.{Bool, true, false, ◌||◌, ◌&&◌, nat_eq, map, slice_get, slice_set}
use Rattle.std.proofs.lemmas.Bool.{both_ways, eqb-true, eq-eqb, ne_eqb, true≢false}
use Rattle.std.proofs.lemmas.List.{take-append-le, drop-append-le, take_all, drop_all}
use Rattle.nim_types.specs.Types.{Ty}
use Rattle.nim_program.specs.declared.program.Proc.{Proc as RustProc}
use Rattle.nim_program.specs.declared.stmt.Stmt.{Stmt as RustStmt}
use Rattle.nim_program.specs.View.{stmts_of}
use Rattle.decl_rules.specs.State.{Item, announces, completes, code, is_completed}
use Rattle.check_uses.specs.declared.text.Item.{Item as RustItem}
use Rattle.check_uses.specs.declared.text.Item.TheVariants as item
use Rattle.check_uses.specs.View.{block_at, item_of, items_of}
use Rattle.decl_heads.specs.ViewHeads.{holds_at}
use Rattle.check_decls.specs.View.{ItemStands, AllStand}

-- ---- lists

get_front : {X : Type 0} (xs ys : List X) (i : ℕ) → i < length xs → slice_get (xs ++ ys) i ≡ slice_get xs i
get_front [] ys i h = absurd (omega (arith, h))
get_front (x ∷ xs) ys zero h = refl
get_front (x ∷ xs) ys (suc i) h = get_front xs ys i (omega (arith, h))

pub get_last : {X : Type 0} (xs : List X) (x : X) → slice_get (xs ++ x ∷ []) (length xs) ≡ Some x
get_last [] x = refl
get_last (y ∷ xs) x = get_last xs x

pub length_last : {X : Type 0} (xs : List X) (x : X) → length (xs ++ x ∷ []) ≡ suc (length xs)
length_last [] x = refl
length_last (y ∷ xs) x = ap suc (length_last xs x)

pub set_same : {X : Type 0} (xs : List X) (i : ℕ) (x : X) → i < length xs → slice_get (slice_set xs i x) i ≡ Some x
set_same [] i x h = absurd (omega (arith, h))
set_same (y ∷ xs) zero x h = refl
set_same (y ∷ xs) (suc i) x h = set_same xs i x (omega (arith, h))

set_other : {X : Type 0} (xs : List X) (i j : ℕ) (x : X) → (j ≡ i → ⊥) → slice_get (slice_set xs i x) j ≡ slice_get xs j
set_other [] i j x n = refl
set_other (y ∷ xs) zero zero x n = absurd (n refl)
set_other (y ∷ xs) zero (suc j) x n = refl
set_other (y ∷ xs) (suc i) zero x n = refl
set_other (y ∷ xs) (suc i) (suc j) x n = set_other xs i j x (λ e. n (ap suc e))

pub set_length : {X : Type 0} (xs : List X) (i : ℕ) (x : X) → length (slice_set xs i x) ≡ length xs
set_length [] i x = refl
set_length (y ∷ xs) zero x = refl
set_length (y ∷ xs) (suc i) x = ap suc (set_length xs i x)

pub map_set : {X Y : Type 0} (f : X → Y) (xs : List X) (i : ℕ) (x : X) → map f (slice_set xs i x) ≡ slice_set (map f xs) i (f x)
map_set f [] i x = refl
map_set f (y ∷ xs) zero x = refl
map_set f (y ∷ xs) (suc i) x = ap (λ l. f y ∷ l) (map_set f xs i x)

pub set_last : {X : Type 0} (xs : List X) (x y : X) → slice_set (xs ++ x ∷ []) (length xs) y ≡ xs ++ y ∷ []
set_last [] x y = refl
set_last (z ∷ xs) x y = ap (λ l. z ∷ l) (set_last xs x y)

part_front : {X : Type 0} (xs ys : List X) (f n : ℕ) → f + n ≤ length xs → take n (drop f (xs ++ ys)) ≡ take n (drop f xs)
part_front xs ys f n h =
    ap (take n) (drop-append-le f xs ys (omega (arith, h))) ∙ take-append-le n (drop f xs) ys (omega (arith, h, length-drop f xs))

pub part_last : {X : Type 0} (xs ys : List X) → take (length ys) (drop (length xs) (xs ++ ys)) ≡ ys
part_last xs ys =
    ap (take (length ys)) (drop-append-le (length xs) xs ys (omega arith) ∙ ap (λ l. l ++ ys) (drop_all (length xs) xs (omega arith)))
    ∙ take_all (length ys) ys (omega arith)

-- ---- what is there stays there

item_stands : (i : RustItem) (p q s t : ℕ) → p ≤ q → s ≤ t → ItemStands p s i → ItemStands q t i
item_stands (item.Announces n at) p q s t le on h = tt
item_stands (item.Completes n) p q s t le on h = omega (arith, le, h)
item_stands (item.Code first count) p q s t le on h = omega (arith, on, h)

pub all_stand : (text : List RustItem) (p q s t : ℕ) → p ≤ q → s ≤ t → AllStand p s text → AllStand q t text
all_stand [] p q s t le on h = tt
all_stand (i ∷ text) p q s t le on h = (item_stands i p q s t le on h.0, all_stand text p q s t le on h.1)

pub and_stands : (text more : List RustItem) (p s : ℕ) → AllStand p s text → AllStand p s more → AllStand p s (text ++ more)
and_stands [] more p s h k = k
and_stands (i ∷ text) more p s h k = (h.0, and_stands text more p s h.1 k)

-- ---- with more procedures, or more statements of the start code

item_procs : (ts : List Ty) (procs more : List RustProc) (start : List RustStmt) (s : ℕ) (i : RustItem) → ItemStands (length procs) s i
    → item_of ts (procs ++ more) start i ≡ item_of ts procs start i
item_procs ts procs more start s (item.Announces p at) h = refl
item_procs ts procs more start s (item.Completes p) h = ap (λ o. completes p (block_at ts o)) (get_front procs more p h)
item_procs ts procs more start s (item.Code first count) h = refl

pub items_procs : (ts : List Ty) (procs more : List RustProc) (start : List RustStmt) (s : ℕ) (text : List RustItem) → AllStand (length procs) s text
    → items_of ts (procs ++ more) start text ≡ items_of ts procs start text
items_procs ts procs more start s [] h = refl
items_procs ts procs more start s (i ∷ text) h =
    ap₂ (λ x l. x ∷ l) (item_procs ts procs more start s i h.0) (items_procs ts procs more start s text h.1)

item_start : (ts : List Ty) (procs : List RustProc) (start more : List RustStmt) (p : ℕ) (i : RustItem) → ItemStands p (length start) i
    → item_of ts procs (start ++ more) i ≡ item_of ts procs start i
item_start ts procs start more p (item.Announces n at) h = refl
item_start ts procs start more p (item.Completes n) h = refl
item_start ts procs start more p (item.Code first count) h = ap (λ l. code (stmts_of ts l)) (part_front start more first count h)

pub items_start : (ts : List Ty) (procs : List RustProc) (start more : List RustStmt) (p : ℕ) (text : List RustItem) → AllStand p (length start) text
    → items_of ts procs (start ++ more) text ≡ items_of ts procs start text
items_start ts procs start more p [] h = refl
items_start ts procs start more p (i ∷ text) h =
    ap₂ (λ x l. x ∷ l) (item_start ts procs start more p i h.0) (items_start ts procs start more p text h.1)

-- ---- with another procedure at a number whose body hasn't come

neither : (a b : Bool) → (a || b) ≡ false → (a ≡ false) × (b ≡ false)
neither true b h = absurd (true≢false h)
neither false b h = (refl, h)

is_other : (k p : ℕ) → nat_eq k p ≡ false → p ≡ k → ⊥
is_other k p e h = both_ways (nat_eq k p) e (eq-eqb k p (sym h))

pub items_set : (ts : List Ty) (procs : List RustProc) (k : ℕ) (proc : RustProc) (start : List RustStmt) (text : List RustItem)
    → is_completed k (items_of ts procs start text) ≡ false → items_of ts (slice_set procs k proc) start text ≡ items_of ts procs start text
items_set ts procs k proc start [] h = refl
items_set ts procs k proc start (item.Announces p at ∷ text) h = ap (λ l. announces p at ∷ l) (items_set ts procs k proc start text h)
items_set ts procs k proc start (item.Completes p ∷ text) h =
    let n = neither (nat_eq k p) (is_completed k (items_of ts procs start text)) h in
    ap₂ (λ o l. completes p (block_at ts o) ∷ l) (set_other procs k p proc (is_other k p n.0)) (items_set ts procs k proc start text n.1)
items_set ts procs k proc start (item.Code first count ∷ text) h =
    ap (λ l. code (stmts_of ts (take count (drop first start))) ∷ l) (items_set ts procs k proc start text h)

-- ---- bodies that have come

or_on : (a b c : Bool) → (a || (b || c)) ≡ ((a || b) || c)
or_on true b c = refl
or_on false b c = refl

pub completed_on : (k : ℕ) (text more : List Item) → is_completed k (text ++ more) ≡ (is_completed k text || is_completed k more)
completed_on k [] more = refl
completed_on k (announces p at ∷ text) more = completed_on k text more
completed_on k (completes p stmts ∷ text) more =
    ap (λ b. nat_eq k p || b) (completed_on k text more) ∙ or_on (nat_eq k p) (is_completed k text) (is_completed k more)
completed_on k (code stmts ∷ text) more = completed_on k text more

pub or_no : (a : Bool) → a ≡ (a || false)
or_no true = refl
or_no false = refl

or_yes : (a : Bool) → true ≡ (a || true)
or_yes true = refl
or_yes false = refl

next_to_none : (n : ℕ) → nat_eq (suc n) 0 ≡ false
next_to_none n = ne_eqb (suc n) 0 (λ e. omega (arith, e))

none_to_next : (n : ℕ) → nat_eq 0 (suc n) ≡ false
none_to_next n = ne_eqb 0 (suc n) (λ e. omega (arith, e))

both_next : (a b : ℕ) → nat_eq a b ≡ nat_eq (suc a) (suc b)
both_next a b = by_test (nat_eq a b) refl
  where
    by_test : (k : Bool) → nat_eq a b ≡ k → nat_eq a b ≡ nat_eq (suc a) (suc b)
    by_test true e = e ∙ sym (eq-eqb (suc a) (suc b) (ap suc (eqb-true a b e)))
    by_test false e =
        e ∙ sym (ne_eqb (suc a) (suc b) (λ f. let g : a ≡ b = omega (arith, f) in both_ways (nat_eq a b) e (eq-eqb a b g)))

never_and : (a b : Bool) → a ≡ false → false ≡ (a && b)
never_and true b e = absurd (true≢false e)
never_and false b e = refl

-- one more
pub holds_last : (xs : List Bool) (b : Bool) (k : ℕ)
    → holds_at (slice_get (xs ++ b ∷ []) k) ≡ (holds_at (slice_get xs k) || (nat_eq k (length xs) && b))
holds_last [] true zero = refl
holds_last [] false zero = refl
holds_last [] b (suc k) = never_and (nat_eq (suc k) 0) b (next_to_none k)
holds_last (x ∷ xs) b zero = or_no x ∙ ap (λ c. x || c) (never_and (nat_eq 0 (suc (length xs))) b (none_to_next (length xs)))
holds_last (x ∷ xs) b (suc k) = holds_last xs b k ∙ ap (λ c. holds_at (slice_get xs k) || (c && b)) (both_next k (length xs))

pub holds_set : (xs : List Bool) (i k : ℕ) → i < length xs
    → holds_at (slice_get (slice_set xs i true) k) ≡ (holds_at (slice_get xs k) || nat_eq k i)
holds_set [] i k h = absurd (omega (arith, h))
holds_set (x ∷ xs) zero zero h = or_yes x
holds_set (x ∷ xs) zero (suc k) h =
    or_no (holds_at (slice_get xs k)) ∙ ap (λ c. holds_at (slice_get xs k) || c) (sym (next_to_none k))
holds_set (x ∷ xs) (suc i) zero h = or_no x ∙ ap (λ c. x || c) (sym (none_to_next i))
holds_set (x ∷ xs) (suc i) (suc k) h =
    holds_set xs i k (omega (arith, h)) ∙ ap (λ c. holds_at (slice_get xs k) || c) (both_next k i)
