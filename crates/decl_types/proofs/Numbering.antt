-- Types of nodes by number, where types of the section are known.
use Rattle.std.proofs.Common.{◌≡◌, ℕ, zero, suc, ◌+◌, ◌<◌, List, [], ◌∷◌, ◌++◌, length, take, drop, get_or}
use Rattle.std.proofs.Common.{refl, sym, ap, ap₂, subst}
use Rattle.std.proofs.Common.{◌∙◌, ⊎_elim, Some, arith, add-one}
use Rattle.std.specs.Prelude.{false, map, slice_get}
use Rattle.std.proofs.lemmas.Option.{none-some, same_Some}
use Rattle.nim_types.specs.declared.types.FieldName.{FieldName}
use Rattle.nim_types.specs.Types as type
use Rattle.nim_types.specs.Types.{Ty, Tys, Key}
use Rattle.nim_types.specs.declared.types.TypeDef.{TypeDef}
use Rattle.nim_types.specs.Table.{type_at, types_at, AllBelow, Adds, Keeps, Appends, completed, with_parts}
use Rattle.nim_types.specs.declared.types.TypeDef.TheVariants as D
use Rattle.arc_base.specs.declared.place.Place.{Place}
use Rattle.decl_rules.specs.Meanings.{renamed, renamed_all}
use Rattle.decl_types.specs.declared.nodes.Node.{Node}
use Rattle.decl_types.specs.ViewNodes.{node_type, nodes_onto, node_types}
use Rattle.decl_types.specs.ViewKnown.{NodeIn, NodesIn, Declares}

abbrev listed : List Ty → Tys
listed [] = type.no_types
listed (t ∷ ts) = type.types t (listed ts)

-- a type by its number
pub mapped_at : (f : Ty → Ty) → f type.int ≡ type.int → (ts : List Ty) (i : ℕ) → type_at (map f ts) i ≡ f (type_at ts i)
mapped_at f e [] i = sym e
mapped_at f e (t ∷ ts) zero = refl
mapped_at f e (t ∷ ts) (suc i) = mapped_at f e ts i

pub number_type : (ts : List Ty) (ids : List ℕ) (i id : ℕ) → slice_get ids i ≡ Some id → type_at (map (type_at ts) ids) i ≡ type_at ts id
number_type ts [] i id e = absurd (none-some id e)
number_type ts (j ∷ ids) zero id e = ap (type_at ts) (same_Some j id e)
number_type ts (j ∷ ids) (suc i) id e = number_type ts ids i id e

pub below_at : (n : ℕ) (ids : List ℕ) (i id : ℕ) → AllBelow n ids → slice_get ids i ≡ Some id → id < n
below_at n [] i id h e = absurd (none-some id e)
below_at n (j ∷ ids) zero id h e = omega (arith, h.0, same_Some j id e)
below_at n (j ∷ ids) (suc i) id h e = below_at n ids i id h.1 e

pub first_below : (n x : ℕ) (rest : List ℕ) → AllBelow n (x ∷ rest) → x < n
first_below n x rest h = h.0

pub left_behind : (n x : ℕ) (rest : List ℕ) → AllBelow n (x ∷ rest) → AllBelow n rest
left_behind n x rest h = h.1

pub mapped_all : (by : Key → Ty) (done : List Ty) (is : List ℕ) → types_at (map (renamed by) done) is ≡ renamed_all by (types_at done is)
mapped_all by done [] = refl
mapped_all by done (i ∷ is) = ap₂ type.types (mapped_at (renamed by) refl done i) (mapped_all by done is)

-- types that are made of others, renamed
module _ (by : Key → Ty) (done : List Ty) where
  pub renamed_sequence : (i : ℕ) → type.sequence (type_at (map (renamed by) done) i) ≡ renamed by (type.sequence (type_at done i))
  renamed_sequence i = ap type.sequence (mapped_at (renamed by) refl done i)

  pub renamed_array : (len i : ℕ) → type.array len (type_at (map (renamed by) done) i) ≡ renamed by (type.array len (type_at done i))
  renamed_array len i = ap (type.array len) (mapped_at (renamed by) refl done i)

  pub renamed_tuple : (names : List (List ℕ)) (is : List ℕ)
      → type.tuple names (types_at (map (renamed by) done) is) ≡ renamed by (type.tuple names (types_at done is))
  renamed_tuple names is = ap (type.tuple names) (mapped_all by done is)

abbrev first_or : {X : Type 0} → X → List X → X
first_or d [] = d
first_or d (y ∷ ys) = y

-- the next node
pub node_at : (n m : ℕ) (nodes : List Node) (i : ℕ) (node : Node) (rest : List Node) → NodesIn n m nodes → drop i nodes ≡ node ∷ rest
    → NodeIn n m node
node_at n m [] zero node rest h e = cc
node_at n m [] (suc i) node rest h e = cc
node_at n m (x ∷ nodes) zero node rest h e = subst (NodeIn n m) (ap (first_or x) e) h.0
node_at n m (x ∷ nodes) (suc i) node rest h e = node_at n m nodes i node rest h.1 e

pub take_more : {X : Type 0} (xs : List X) (i : ℕ) (x : X) (rest : List X) → drop i xs ≡ x ∷ rest → take (suc i) xs ≡ take i xs ++ x ∷ []
take_more [] zero x rest e = cc
take_more [] (suc i) x rest e = cc
take_more (y ∷ xs) zero x rest e = ap (λ z. first_or y z ∷ []) e
take_more (y ∷ xs) (suc i) x rest e = ap (λ z. y ∷ z) (take_more xs i x rest e)

onto_last : (ts : List Ty) (keys : List Key) (done : List Ty) (nodes : List Node) (node : Node)
    → nodes_onto ts keys done (nodes ++ node ∷ []) ≡ nodes_onto ts keys done nodes ++ node_type ts keys (nodes_onto ts keys done nodes) node ∷ []
onto_last ts keys done [] node = refl
onto_last ts keys done (x ∷ nodes) node = onto_last ts keys (done ++ node_type ts keys done x ∷ []) nodes node

pub types_next : (ts : List Ty) (keys : List Key) (nodes : List Node) (i : ℕ) (node : Node) (rest : List Node) → drop i nodes ≡ node ∷ rest
    → node_types ts keys (take (i + 1) nodes) ≡ node_types ts keys (take i nodes) ++ node_type ts keys (node_types ts keys (take i nodes)) node ∷ []
types_next ts keys nodes i node rest e = rw add-one (ap (node_types ts keys) (take_more nodes i node rest e) ∙ onto_last ts keys [] (take i nodes) node)

pub same_field : (name : List ℕ) (f : FieldName) → name ≡ f.name → record { name = name; shown = f.shown } ≡ f
same_field name f e = λ i. record { name = e i; shown = f.shown }

types_listed : (ts : List Ty) (is : List ℕ) → types_at ts is ≡ listed (map (type_at ts) is)
types_listed ts [] = refl
types_listed ts (i ∷ is) = ap (type.types (type_at ts i)) (types_listed ts is)

pub types_each : (ts : List Ty) (all : List ℕ) (done : List Ty) (nodes : List ℕ) → map (type_at ts) all ≡ map (type_at done) nodes
    → types_at ts all ≡ types_at done nodes
types_each ts all done nodes e = types_listed ts all ∙ ap listed e ∙ sym (types_listed done nodes)

-- a number that is read out of a list
copied_next : (xs : List ℕ) (i : ℕ) → i < length xs → drop i xs ≡ get_or xs i 0 ∷ drop (suc i) xs
copied_next [] i h = absurd (omega (arith, h))
copied_next (x ∷ xs) zero h = refl
copied_next (x ∷ xs) (suc i) h = copied_next xs i (omega (arith, h))

pub copied : (xs : List ℕ) (i : ℕ) → i < length xs → drop i xs ≡ get_or xs i 0 ∷ drop (i + 1) xs
copied xs i h = rw add-one (copied_next xs i h)

-- ---- declared types

pub added_new : (old new : List TypeDef) (d : TypeDef) (id : ℕ) → Adds old d id new → id ≡ length old → Declares old new d id
added_new old new d id a e =
    ⊎_elim (λ (k : Keeps old d id new). absurd (omega (arith, e, k.within)))
    (λ (m : Appends old d id new). record { more = m.more; next = m.next; other = m.other }) a

completed_last : (old : List TypeDef) (d : TypeDef) (given : List ℕ) → completed (old ++ d ∷ []) (length old) given ≡ old ++ with_parts given d ∷ []
completed_last [] d given = refl
completed_last (e ∷ old) d given = ap (λ ds. e ∷ ds) (completed_last old d given)

object_by : (old mid new : List TypeDef) (id : ℕ) (name : List ℕ) (at : Place) (fields : List FieldName) (none given : List ℕ)
    → Declares old mid (D.Object name at [] fields false none) id → new ≡ completed mid id given
    → Declares old new (D.Object name at [] fields false given) id
object_by old mid new id name at fields none given h e = record {
  more = e ∙ ap₂ (λ ds k. completed ds k given) h.more h.next ∙ completed_last old (D.Object name at [] fields false none) given;
  next = h.next;
  other = h.other;
}

-- an object that has got the types of its fields
pub object_declared : (old mid new : List TypeDef) (id : ℕ) (copy name : List ℕ) (at : Place) (args : List ℕ) (copies fields : List FieldName)
    (none given : List ℕ) → Declares old mid (D.Object copy at args copies false none) id → copy ≡ name → args ≡ [] → copies ≡ fields
    → new ≡ completed mid id given → Declares old new (D.Object name at [] fields false given) id
object_declared old mid new id copy name at args copies fields none given h e f g c =
    object_by old mid new id name at fields none given
    (subst (λ (x : List ℕ). Declares old mid (D.Object x at [] fields false none) id) e
    (subst (λ (xs : List ℕ). Declares old mid (D.Object copy at xs fields false none) id) f
    (subst (λ (fs : List FieldName). Declares old mid (D.Object copy at args fs false none) id) g h))) c
