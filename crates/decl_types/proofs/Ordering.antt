-- Definitions that are sound, over tables that grow.
use Rattle.std.proofs.Common.{◌≡◌, ℕ, zero, suc, ◌+◌, ◌<◌, ◌≤◌, List, [], ◌∷◌, ◌++◌, drop, Some, subst, sym, ap, ◌∙◌}
use Rattle.std.proofs.Common.{arith, length, length-append}
use Rattle.std.proofs.lemmas.List.{length-set}
use Rattle.std.specs.Prelude.{Option, slice_get, slice_set}
use Rattle.std.proofs.lemmas.Option.{none-some, same_Some}
use Rattle.nim_types.specs.declared.types.TypeDef.{TypeDef}
use Rattle.nim_types.specs.Types.{Ty, Facts}
use Rattle.nim_types.specs.Table.{type_at, facts_in}
use Rattle.expr_parts.specs.View.{Under}
use Rattle.decl_types.specs.declared.nodes.Node.{Node}
use Rattle.decl_types.specs.declared.nodes.Node.TheVariants as N
use Rattle.decl_types.specs.declared.known.Definition.{Definition}
use Rattle.decl_types.specs.declared.known.Meaning.{Meaning}
use Rattle.decl_types.specs.declared.known.Meaning.TheVariants as M
use Rattle.decl_types.specs.ViewKnown.{NodeIn, NodesIn, MadeBelow, Ordered, InOrder, MeaningWithin, OneEach, IsSound, KnownBelow, HasType, Stands, Holds, Kept}

-- ---- nodes

abbrev first_or : Node → List Node → Node
first_or d [] = d
first_or d (y ∷ ys) = y

made_from : (i : ℕ) (nodes : List Node) (j : ℕ) (node : Node) (rest : List Node) → Ordered i nodes → drop j nodes ≡ node ∷ rest → MadeBelow (i + j) node
made_from i [] zero node rest h e = cc
made_from i [] (suc j) node rest h e = cc
made_from i (x ∷ nodes) zero node rest h e =
    let n : i ≡ i + 0 = omega arith in
    subst (λ k. MadeBelow k node) n (subst (MadeBelow i) (ap (first_or x) e) h.0)
made_from i (x ∷ nodes) (suc j) node rest h e =
    let n : suc i + j ≡ i + suc j = omega arith in
    subst (λ k. MadeBelow k node) n (made_from (suc i) nodes j node rest h.1 e)

-- the nodes that the next one is made of stand before it
pub made_at : (nodes : List Node) (j n : ℕ) (node : Node) (rest : List Node) → Ordered 0 nodes → drop j nodes ≡ node ∷ rest → n ≡ j → MadeBelow n node
made_at nodes j n node rest h e c =
    let k : 0 + j ≡ n = omega (arith, c) in
    subst (λ i. MadeBelow i node) k (made_from 0 nodes j node rest h e)

pub node_more : (n k m : ℕ) (node : Node) → n ≤ k → NodeIn n m node → NodeIn k m node
node_more n k m (N.Known id) le h = omega (arith, le, h)
node_more n k m (N.Named i) le h = h
node_more n k m (N.Sequence i) le h = tt
node_more n k m (N.Array at len i) le h = tt
node_more n k m (N.Tuple at names is) le h = tt

nodes_more : (n k m : ℕ) (nodes : List Node) → n ≤ k → NodesIn n m nodes → NodesIn k m nodes
nodes_more n k m [] le h = tt
nodes_more n k m (node ∷ nodes) le h = (node_more n k m node le h.0, nodes_more n k m nodes le h.1)

-- ---- definitions

pub one_each : (n : ℕ) (m : Meaning) → MeaningWithin n m → OneEach m
one_each n (M.Object names is) h = h.1
one_each n (M.Enum members) h = tt
one_each n (M.Distinct i) h = tt
one_each n (M.Alias i) h = tt

pub sound_more : (n k m : ℕ) (d : Definition) → n ≤ k → IsSound n m d → IsSound k m d
sound_more n k m d le h = record { nodes = nodes_more n k m d.nodes.items le h.nodes; fields = h.fields }

pub below_more : (n k : ℕ) (known : List (Option ℕ)) → n ≤ k → KnownBelow n known → KnownBelow k known
below_more n k known le h = λ i id e. let lt = h i id e in omega (arith, le, lt)

pub stands_more : (ds es : List TypeDef) (known : List (Option ℕ)) (i : ℕ) (d : Definition) → Kept ds es → Stands ds known i d → Stands es known i d
stands_more ds es known i d k h = λ id e ts facts u. h id e ts (facts_in ds) (k.under ts facts u)

-- in a larger table
pub holds_more : (ds es : List TypeDef) (known : List (Option ℕ)) (read : List Definition) → Kept ds es → Holds ds known read → Holds es known read
holds_more ds es known read k h = record {
  order = h.order;
  sound = λ i d e. sound_more (length ds) (length es) (length known) d k.length (h.sound i d e);
  below = below_more (length ds) (length es) known k.length h.below;
  first = h.first;
  stands = λ i d e. stands_more ds es known i d k (h.stands i d e);
}

-- what is true of all that was known, and of what becomes known
known_each : (P : ℕ → ℕ → Type 0) (known : List (Option ℕ)) (i id : ℕ) → ((j x : ℕ) → slice_get known j ≡ Some (Some x) → P j x) → P i id
    → (j x : ℕ) → slice_get (slice_set known i (Some id)) j ≡ Some (Some x) → P j x
known_each P [] i id h p j x e = h j x e
known_each P (o ∷ known) zero id h p zero x e = subst (P 0) (same_Some id x (same_Some (Some id) (Some x) e)) p
known_each P (o ∷ known) zero id h p (suc j) x e = h (suc j) x e
known_each P (o ∷ known) (suc i) id h p zero x e = h zero x e
known_each P (o ∷ known) (suc i) id h p (suc j) x e = known_each (λ k. P (suc k)) known i id (λ k y f. h (suc k) y f) p j x e

-- and one more is known
pub holds_known : (ds es : List TypeDef) (known more : List (Option ℕ)) (read : List Definition) (i id : ℕ) (d : Definition) → Kept ds es
    → id < length es → i < length read → more ≡ slice_set known i (Some id) → slice_get read i ≡ Some d
    → ((ts : List Ty) (facts : Facts) → Under es ts facts → HasType d d.meaning (type_at ts id)) → Holds ds known read → Holds es more read
holds_known ds es known more read i id d k lt inside e at own h =
    let g = holds_more ds es known read k h in
    let Typed : ℕ → ℕ → Type 0 = λ j x. (z : Definition) → slice_get read j ≡ Some z → (ts : List Ty) (facts : Facts) → Under es ts facts
    → HasType z z.meaning (type_at ts x) in
    let done : Holds es (slice_set known i (Some id)) read = record {
      order = g.order;
      sound = λ j z get. subst (λ l. IsSound (length es) l z) (sym (length-set known i (Some id))) (g.sound j z get);
      below = known_each (λ j x. x < length es) known i id g.below lt;
      first = known_each (λ j x. j < length read) known i id g.first inside;
      stands = λ j z f x get. known_each Typed known i id (λ l y s w t. g.stands l w t y s)
          (λ w t ts facts u. subst (λ v. HasType v v.meaning (type_at ts id)) (same_Some d w (sym at ∙ t)) (own ts facts u)) j x get z f;
    } in
    subst (λ ks. Holds es ks read) (sym e) done

-- ---- what is read

none_read : {X : Type 0} (xs : List X) (i : ℕ) (x : X) → xs ≡ [] → slice_get xs i ≡ Some x → ⊥
none_read xs i x e f = none-some x (ap (λ l. slice_get l i) (sym e) ∙ f)

-- nothing has been read, and nothing is known
pub holds_none : (ds : List TypeDef) (known : List (Option ℕ)) (read : List Definition) → read ≡ []
    → ((k id : ℕ) → slice_get known k ≡ Some (Some id) → ⊥) → Holds ds known read
holds_none ds known read e none = record {
  order = λ i d f. absurd (none_read read i d e f);
  sound = λ i d f. absurd (none_read read i d e f);
  below = λ k id f. absurd (none k id f);
  first = λ k id f. absurd (none k id f);
  stands = λ i d f. absurd (none_read read i d e f);
}

at_last : {X : Type 0} (P : ℕ → X → Type 0) (xs : List X) (x : X) → ((i : ℕ) (y : X) → slice_get xs i ≡ Some y → P i y) → P (length xs) x
    → (i : ℕ) (y : X) → slice_get (xs ++ x ∷ []) i ≡ Some y → P i y
at_last P [] x h p zero y e = subst (P 0) (same_Some x y e) p
at_last P [] x h p (suc i) y e = absurd (none-some y e)
at_last P (z ∷ xs) x h p zero y e = h zero y e
at_last P (z ∷ xs) x h p (suc i) y e = at_last (λ k. P (suc k)) xs x (λ j w f. h (suc j) w f) p i y e

-- one more has been read
pub holds_last : (n : ℕ) (ds : List TypeDef) (known : List (Option ℕ)) (read more : List Definition) (d : Definition) → n ≤ length ds
    → Holds ds known read → InOrder d → IsSound n (length known) d → more ≡ read ++ d ∷ [] → Holds ds known more
holds_last n ds known read more d le h o s e =
    let last : Holds ds known (read ++ d ∷ []) = record {
      order = at_last (λ i x. InOrder x) read d h.order o;
      sound = at_last (λ i x. IsSound (length ds) (length known) x) read d h.sound (sound_more n (length ds) (length known) d le s);
      below = h.below;
      first = λ i id f. let lt = h.first i id f in omega (arith, lt, length-append read (d ∷ []));
      stands = at_last (λ i x. Stands ds known i x) read d h.stands (λ id f. absurd (let lt = h.first (length read) id f in omega (arith, lt)));
    } in
    subst (Holds ds known) (sym e) last
