-- Types of nodes that aren't marked.
use Rattle.std.proofs.Common.{◌≡◌, ℕ, zero, suc, ◌+◌, ◌<◌, List, [], ◌∷◌, ◌++◌, length, take, drop, refl, sym, ap, ap₂, ◌∙◌, arith, add-one}
use Rattle.std.proofs.Common.{length-append}
use Rattle.std.specs.Prelude.{Bool, true, false, ◌||◌, map, Result, Ok, Err, IfOk}
use Rattle.std.proofs.lemmas.Bool.{both_ways}
use Rattle.nim_types.specs.Types as type
use Rattle.nim_types.specs.Types.{Ty, Key}
use Rattle.nim_types.specs.Table.{type_at, types_at, AllBelow}
use Rattle.decl_rules.specs.Meanings.{renamed, renamed_all}
use Rattle.decl_types.specs.declared.nodes.Node.{Node}
use Rattle.decl_types.specs.declared.nodes.Node.TheVariants as N
use Rattle.decl_types.specs.ViewNodes.{node_type, nodes_onto, node_types}
use Rattle.decl_types.specs.ViewMarks.{mark_at, any_at, node_mark, marks_onto, node_marks, RenamedWhere, Unmarked}
use Rattle.decl_types.proofs.Numbering.{mapped_at, take_more}

-- ---- booleans

pub first_no : (a b : Bool) → (a || b) ≡ false → a ≡ false
first_no true b e = e
first_no false b e = refl

pub second_no : (a b : Bool) → (a || b) ≡ false → b ≡ false
second_no true b e = absurd (both_ways true e refl)
second_no false b e = e

-- ---- one more node

types_count_onto : (ts : List Ty) (keys : List Key) (done : List Ty) (nodes : List Node)
    → length (nodes_onto ts keys done nodes) ≡ length done + length nodes
types_count_onto ts keys done [] = omega arith
types_count_onto ts keys done (node ∷ nodes) =
    let t = node_type ts keys done node in
    let r = types_count_onto ts keys (done ++ t ∷ []) nodes in
    omega (arith, r, length-append done (t ∷ []))

pub types_count : (ts : List Ty) (keys : List Key) (nodes : List Node) → length (node_types ts keys nodes) ≡ length nodes
types_count ts keys nodes = let r = types_count_onto ts keys [] nodes in omega (arith, r)

marks_count_onto : (marks before : List Bool) (nodes : List Node) → length (marks_onto marks before nodes) ≡ length before + length nodes
marks_count_onto marks before [] = omega arith
marks_count_onto marks before (node ∷ nodes) =
    let m = node_mark marks before node in
    let r = marks_count_onto marks (before ++ m ∷ []) nodes in
    omega (arith, r, length-append before (m ∷ []))

pub marks_count : (marks : List Bool) (nodes : List Node) → length (node_marks marks nodes) ≡ length nodes
marks_count marks nodes = let r = marks_count_onto marks [] nodes in omega (arith, r)

marks_last : (marks before : List Bool) (nodes : List Node) (node : Node)
    → marks_onto marks before (nodes ++ node ∷ []) ≡ marks_onto marks before nodes ++ node_mark marks (marks_onto marks before nodes) node ∷ []
marks_last marks before [] node = refl
marks_last marks before (x ∷ nodes) node = marks_last marks (before ++ node_mark marks before x ∷ []) nodes node

pub marks_next : (marks : List Bool) (nodes : List Node) (i : ℕ) (node : Node) (rest : List Node) → drop i nodes ≡ node ∷ rest
    → node_marks marks (take (i + 1) nodes) ≡ node_marks marks (take i nodes) ++ node_mark marks (node_marks marks (take i nodes)) node ∷ []
marks_next marks nodes i node rest e =
    rw add-one (ap (node_marks marks) (take_more nodes i node rest e) ∙ marks_last marks [] (take i nodes) node)

-- the same length each
pub renamed_last : (by : Key → Ty) (marks : List Bool) (us done : List Ty) (m : Bool) (u t : Ty) → length marks ≡ length us → length done ≡ length us
    → RenamedWhere marks us by done → (m ≡ false → u ≡ renamed by t) → (i : ℕ) → i < length (us ++ u ∷ []) → mark_at (marks ++ m ∷ []) i ≡ false
    → type_at (us ++ u ∷ []) i ≡ renamed by (type_at (done ++ t ∷ []) i)
renamed_last by [] [] [] m u t k l h f zero lt e = f e
renamed_last by [] [] [] m u t k l h f (suc i) lt e = absurd (omega (arith, lt))
renamed_last by [] [] (x ∷ done) m u t k l h f i lt e = absurd (omega (arith, l))
renamed_last by (x ∷ marks) [] done m u t k l h f i lt e = absurd (omega (arith, k))
renamed_last by [] (x ∷ us) done m u t k l h f i lt e = absurd (omega (arith, k))
renamed_last by (x ∷ marks) (y ∷ us) [] m u t k l h f i lt e = absurd (omega (arith, l))
renamed_last by (x ∷ marks) (y ∷ us) (z ∷ done) m u t k l h f zero lt e = h 0 (omega arith) e
renamed_last by (x ∷ marks) (y ∷ us) (z ∷ done) m u t k l h f (suc i) lt e =
    renamed_last by marks us done m u t (omega (arith, k)) (omega (arith, l)) (λ j lt e. h (suc j) (omega (arith, lt)) e) f i (omega (arith, lt)) e

-- ---- what is made of them

pub each_renamed : (by : Key → Ty) (marks : List Bool) (us done : List Ty) (is : List ℕ) → RenamedWhere marks us by done → AllBelow (length us) is
    → any_at marks is ≡ false → types_at us is ≡ renamed_all by (types_at done is)
each_renamed by marks us done [] h w e = refl
each_renamed by marks us done (i ∷ is) h w e =
    ap₂ type.types (h i w.0 (first_no (mark_at marks i) (any_at marks is) e))
    (each_renamed by marks us done is h w.1 (second_no (mark_at marks i) (any_at marks is) e))

pub listed_renamed : (by : Key → Ty) (marks : List Bool) (us done : List Ty) (is : List ℕ) → RenamedWhere marks us by done → AllBelow (length us) is
    → any_at marks is ≡ false → map (type_at us) is ≡ map (renamed by) (map (type_at done) is)
listed_renamed by marks us done [] h w e = refl
listed_renamed by marks us done (i ∷ is) h w e =
    ap₂ (λ t all. t ∷ all) (h i w.0 (first_no (mark_at marks i) (any_at marks is) e))
    (listed_renamed by marks us done is h w.1 (second_no (mark_at marks i) (any_at marks is) e))

-- ---- where none is marked

none_any : (before : List Bool) (is : List ℕ) → Unmarked before → any_at before is ≡ false
none_any before [] h = refl
none_any before (i ∷ is) h = ap₂ (λ a b. a || b) (h i) (none_any before is h)

none_node : (marks before : List Bool) (node : Node) → Unmarked marks → Unmarked before → node_mark marks before node ≡ false
none_node marks before (N.Known id) h g = refl
none_node marks before (N.Named k) h g = h k
none_node marks before (N.Sequence i) h g = g i
none_node marks before (N.Array at len i) h g = g i
none_node marks before (N.Tuple at names is) h g = none_any before is g

none_last : (before : List Bool) (m : Bool) → Unmarked before → m ≡ false → (i : ℕ) → mark_at (before ++ m ∷ []) i ≡ false
none_last [] m h e zero = e
none_last [] m h e (suc i) = refl
none_last (x ∷ before) m h e zero = h 0
none_last (x ∷ before) m h e (suc i) = none_last before m (λ j. h (suc j)) e i

none_onto : (marks before : List Bool) (nodes : List Node) → Unmarked marks → Unmarked before → (i : ℕ) → mark_at (marks_onto marks before nodes) i ≡ false
none_onto marks before [] h g = g
none_onto marks before (node ∷ nodes) h g =
    let m = node_mark marks before node in
    none_onto marks (before ++ m ∷ []) nodes h (λ i. none_last before m g (none_node marks before node h g) i)

listed_as : (us vs : List Ty) → length us ≡ length vs → ((i : ℕ) → i < length us → type_at us i ≡ type_at vs i) → us ≡ vs
listed_as [] [] l h = refl
listed_as [] (v ∷ vs) l h = absurd (omega (arith, l))
listed_as (u ∷ us) [] l h = absurd (omega (arith, l))
listed_as (u ∷ us) (v ∷ vs) l h =
    ap₂ (λ t all. t ∷ all) (h 0 (omega arith)) (listed_as us vs (omega (arith, l)) (λ i lt. h (suc i) (omega (arith, lt))))

map_count : (f : Ty → Ty) (us : List Ty) → length (map f us) ≡ length us
map_count f [] = refl
map_count f (u ∷ us) = ap suc (map_count f us)

pub all_renamed : (by : Key → Ty) (marks : List Bool) (nodes : List Node) (us done : List Ty) → length us ≡ length done → Unmarked marks
    → RenamedWhere (node_marks marks nodes) us by done → us ≡ map (renamed by) done
all_renamed by marks nodes us done l none h =
    listed_as us (map (renamed by) done) (l ∙ sym (map_count (renamed by) done))
    (λ i lt. h i lt (none_onto marks [] nodes none (λ j. refl) i) ∙ sym (mapped_at (renamed by) refl done i))

-- what is so where a definition is known
pub named_means : {T E : Type 0} {A : Type 0} {P Q : T → Type 0} (r : Result T E) → (A → IfOk r P) → ((x : T) → (A → P x) → Q x) → IfOk r Q
named_means (Ok x) h f = f x h
named_means (Err e) h f = tt
