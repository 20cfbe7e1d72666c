-- Marked definitions that are named in others, and what occurs in types.
use Rattle.std.proofs.Common.{◌≡◌, ℕ, zero, suc, List, [], ◌∷◌, ◌++◌, length, refl, sym, ap, ap₂, ◌∙◌, arith}
use Rattle.std.proofs.lemmas.List.{map-append}
use Rattle.std.specs.Prelude.{Bool, true, false, ◌||◌, map}
use Rattle.nim_types.specs.Types as type
use Rattle.nim_types.specs.Types.{Ty, Key}
use Rattle.nim_types.specs.Table.{type_at, types_at}
use Rattle.decl_rules.specs.Meanings.{occurs, occurs_in, occurs_in_any, made_of, field_types}
use Rattle.decl_types.specs.declared.nodes.Node.{Node}
use Rattle.decl_types.specs.declared.nodes.Node.TheVariants as N
use Rattle.decl_types.specs.declared.known.Meaning.{Meaning}
use Rattle.decl_types.specs.declared.known.Meaning.TheVariants as M
use Rattle.decl_types.specs.declared.known.Definition.{Definition}
use Rattle.nim_types.specs.declared.types.FieldName.{FieldName}
use Rattle.std.specs.Prelude.{Some}
use Rattle.decl_types.specs.ViewNodes.{node_type, nodes_onto, node_types}
use Rattle.decl_types.specs.ViewKnown.{meant_of, typed_fields}
use Rattle.decl_types.specs.ViewKnown.{NodeIn, NodesIn, OneEach}
use Rattle.decl_types.specs.ViewMarks.{Marks, Apart, mark_at, any_at, node_mark, marks_onto, meaning_mark, definition_mark}

mark_of : (f : Ty → Bool) → f type.int ≡ false → (done : List Ty) (i : ℕ) → mark_at (map f done) i ≡ f (type_at done i)
mark_of f e [] i = sym e
mark_of f e (t ∷ done) zero = refl
mark_of f e (t ∷ done) (suc i) = mark_of f e done i

any_of : (is_meant : Key → Bool) (done : List Ty) (is : List ℕ) → any_at (map (occurs is_meant) done) is ≡ occurs_in is_meant (types_at done is)
any_of is_meant done [] = refl
any_of is_meant done (i ∷ is) = ap₂ (λ a b. a || b) (mark_of (occurs is_meant) refl done i) (any_of is_meant done is)

node_is : (ts : List Ty) (keys : List Key) (n m : ℕ) (marks : List Bool) (is_meant : Key → Bool) (done : List Ty) (node : Node)
    → Marks keys marks is_meant → Apart ts n is_meant → NodeIn n m node
    → node_mark marks (map (occurs is_meant) done) node ≡ occurs is_meant (node_type ts keys done node)
node_is ts keys n m marks is_meant done (N.Known id) h a w = sym (a id w)
node_is ts keys n m marks is_meant done (N.Named k) h a w = h k
node_is ts keys n m marks is_meant done (N.Sequence i) h a w = mark_of (occurs is_meant) refl done i
node_is ts keys n m marks is_meant done (N.Array at len i) h a w = mark_of (occurs is_meant) refl done i
node_is ts keys n m marks is_meant done (N.Tuple at names is) h a w = any_of is_meant done is

onto_is : (ts : List Ty) (keys : List Key) (n m : ℕ) (marks : List Bool) (is_meant : Key → Bool) (done : List Ty) (nodes : List Node)
    → Marks keys marks is_meant → Apart ts n is_meant → NodesIn n m nodes
    → marks_onto marks (map (occurs is_meant) done) nodes ≡ map (occurs is_meant) (nodes_onto ts keys done nodes)
onto_is ts keys n m marks is_meant done [] h a w = refl
onto_is ts keys n m marks is_meant done (node ∷ nodes) h a w =
    let t = node_type ts keys done node in
    ap (λ all. marks_onto marks all nodes)
    (ap (λ b. map (occurs is_meant) done ++ b ∷ []) (node_is ts keys n m marks is_meant done node h a w.0)
    ∙ sym (map-append (occurs is_meant) done (t ∷ [])))
    ∙ onto_is ts keys n m marks is_meant (done ++ t ∷ []) nodes h a w.1

any_listed : (is_meant : Key → Bool) (done : List Ty) (names : List FieldName) (is : List ℕ) → length names ≡ length is
    → any_at (map (occurs is_meant) done) is ≡ occurs_in_any is_meant (field_types (typed_fields names (map (type_at done) is)))
any_listed is_meant done [] [] e = refl
any_listed is_meant done [] (i ∷ is) e = absurd (omega (arith, e))
any_listed is_meant done (f ∷ names) [] e = absurd (omega (arith, e))
any_listed is_meant done (f ∷ names) (i ∷ is) e =
    ap₂ (λ a b. a || b) (mark_of (occurs is_meant) refl done i) (any_listed is_meant done names is (omega (arith, e)))

or_false : (b : Bool) → b ≡ (b || false)
or_false true = refl
or_false false = refl

made_is : (is_meant : Key → Bool) (done : List Ty) (m : Meaning) → OneEach m
    → meaning_mark (map (occurs is_meant) done) m ≡ occurs_in_any is_meant (made_of (Some (meant_of done m)))
made_is is_meant done (M.Object names is) e = any_listed is_meant done names is e
made_is is_meant done (M.Enum members) e = refl
made_is is_meant done (M.Distinct i) e = mark_of (occurs is_meant) refl done i ∙ or_false (occurs is_meant (type_at done i))
made_is is_meant done (M.Alias i) e = mark_of (occurs is_meant) refl done i ∙ or_false (occurs is_meant (type_at done i))

-- what is marked in a definition occurs in what it is made of
pub definition_is : (ts : List Ty) (keys : List Key) (n m : ℕ) (marks : List Bool) (is_meant : Key → Bool) (d : Definition)
    → Marks keys marks is_meant → Apart ts n is_meant → NodesIn n m d.nodes.items → OneEach d.meaning
    → definition_mark marks d ≡ occurs_in_any is_meant (made_of (Some (meant_of (node_types ts keys d.nodes.items) d.meaning)))
definition_is ts keys n m marks is_meant d h a w e =
    ap (λ before. meaning_mark before d.meaning) (onto_is ts keys n m marks is_meant [] d.nodes.items h a w)
    ∙ made_is is_meant (node_types ts keys d.nodes.items) d.meaning e
