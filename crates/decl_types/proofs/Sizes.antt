-- Sizes of what is written in a definition, by the types of its nodes.
use Rattle.std.proofs.Common.{◌≡◌, ℕ, zero, suc, ◌+◌, add-one, List, [], ◌∷◌, ◌++◌, drop, Some, refl, sym, ap, ◌∙◌, append_assoc}
use Rattle.std.proofs.Common.{append-nil}
use Rattle.std.specs.Prelude.{Ok, Err, map, slice_get}
use Rattle.std.proofs.lemmas.List.{drop-map}
use Rattle.std.proofs.lemmas.Option.{none-some, same_Some}
use Rattle.arc_base.specs.Refusal.{and_then}
use Rattle.nim_types.specs.Types.{Ty, Key, Facts}
use Rattle.nim_types.specs.Table.{type_at}
use Rattle.expr_rules.specs.Answers.{Answer}
use Rattle.decl_rules.specs.Meanings.{Defined, KnownType, resolved}
use Rattle.decl_rules.specs.Written.{within_size}
use Rattle.decl_rules.specs.Sections.{formed_within, meant_within, sizes_rule}
use Rattle.decl_types.specs.declared.nodes.Node.{Node}
use Rattle.decl_types.specs.declared.nodes.Node.TheVariants as N
use Rattle.decl_types.specs.ViewNodes.{node_type, nodes_onto, node_types, formed_onto, formed_nodes}
use Rattle.decl_types.specs.ViewSized.{nodes_sized}

abbrev types_from : List Ty → List Key → List Ty → List Node → List Ty
types_from ts keys done [] = []
types_from ts keys done (node ∷ rest) = node_type ts keys done node ∷ types_from ts keys (done ++ node_type ts keys done node ∷ []) rest

onto_is : (ts : List Ty) (keys : List Key) (done : List Ty) (nodes : List Node) → nodes_onto ts keys done nodes ≡ done ++ types_from ts keys done nodes
onto_is ts keys done [] = sym (append-nil done)
onto_is ts keys done (node ∷ rest) =
    let t = node_type ts keys done node in
    onto_is ts keys (done ++ t ∷ []) rest ∙ append_assoc done (t ∷ []) (types_from ts keys (done ++ t ∷ []) rest)

sized_from : (ts : List Ty) (keys : List Key) (facts : Facts) (k : List KnownType) (done : List Ty) (nodes : List Node)
    → formed_within facts k (formed_onto ts keys done nodes) ≡ nodes_sized facts nodes (map (resolved k) (types_from ts keys done nodes))
sized_from ts keys facts k done [] = refl
sized_from ts keys facts k done (node ∷ rest) = by_node node (sized_from ts keys facts k (done ++ node_type ts keys done node ∷ []) rest)
  where
    by_node : (node : Node) → formed_within facts k (formed_onto ts keys (done ++ node_type ts keys done node ∷ []) rest)
        ≡ nodes_sized facts rest (map (resolved k) (types_from ts keys (done ++ node_type ts keys done node ∷ []) rest))
        → formed_within facts k (formed_onto ts keys done (node ∷ rest))
        ≡ nodes_sized facts (node ∷ rest) (map (resolved k) (types_from ts keys done (node ∷ rest)))
    by_node (N.Known id) h = h
    by_node (N.Named number) h = h
    by_node (N.Sequence i) h = h
    by_node (N.Array at len i) h =
        ap (λ (r : Answer (Unit {0})). and_then (within_size facts at (resolved k (node_type ts keys done (N.Array at len i)))) (λ _. r)) h
    by_node (N.Tuple at names is) h =
        ap (λ (r : Answer (Unit {0})). and_then (within_size facts at (resolved k (node_type ts keys done (N.Tuple at names is)))) (λ _. r)) h

-- where the nodes have these types
pub sized_is : (ts : List Ty) (keys : List Key) (facts : Facts) (k : List KnownType) (nodes : List Node) (us : List Ty)
    → us ≡ map (resolved k) (node_types ts keys nodes) → formed_within facts k (formed_nodes ts keys nodes) ≡ nodes_sized facts nodes us
sized_is ts keys facts k nodes us e =
    sized_from ts keys facts k [] nodes
    ∙ ap (λ ws. nodes_sized facts nodes (map (resolved k) ws)) (sym (onto_is ts keys [] nodes)) ∙ ap (nodes_sized facts nodes) (sym e)

-- ---- one after another

drop_at : {X : Type 0} (xs : List X) (i : ℕ) (x : X) → slice_get xs i ≡ Some x → drop i xs ≡ x ∷ drop (suc i) xs
drop_at [] i x e = absurd (none-some x e)
drop_at (y ∷ xs) zero x e = ap (λ z. z ∷ xs) (same_Some y x e)
drop_at (y ∷ xs) (suc i) x e = drop_at xs i x e

types_behind : (ts : List Ty) (ids : List ℕ) (i id : ℕ) → slice_get ids i ≡ Some id
    → drop i (map (type_at ts) ids) ≡ type_at ts id ∷ drop (suc i) (map (type_at ts) ids)
types_behind ts ids i id e =
    drop-map (type_at ts) i ids ∙ ap (map (type_at ts)) (drop_at ids i id e) ∙ ap (λ l. type_at ts id ∷ l) (sym (drop-map (type_at ts) (suc i) ids))

pub types_drop : (ts : List Ty) (ids : List ℕ) (i id : ℕ) → slice_get ids i ≡ Some id
    → drop i (map (type_at ts) ids) ≡ type_at ts id ∷ drop (i + 1) (map (type_at ts) ids)
types_drop ts ids i id e = rw add-one (types_behind ts ids i id e)

both_then : {A B C : Type 0} (p : Answer A) (q : Answer B) (r : Answer C)
    → and_then p (λ _. and_then q (λ _. r)) ≡ and_then (and_then p (λ _. q)) (λ _. r)
both_then (Ok x) q r = refl
both_then (Err x) q r = refl

-- of one definition, and of those behind it
pub sizes_next : (facts : Facts) (k : List KnownType) (d : Defined) (rest : List Defined)
    → sizes_rule facts k (d ∷ rest)
    ≡ and_then (and_then (formed_within facts k d.formed) (λ _. meant_within facts d.key d.meant)) (λ _. sizes_rule facts k rest)
sizes_next facts k d rest = both_then (formed_within facts k d.formed) (meant_within facts d.key d.meant) (sizes_rule facts k rest)
