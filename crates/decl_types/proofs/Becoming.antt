-- Definitions that become known: their types, and what is said of them.
use Rattle.std.proofs.Common.{◌≡◌, ℕ, ◌<◌, List, [], ◌∷◌, ◌++◌, length, Some, refl, sym, ap, ap₂, ◌∙◌, subst, arith}
use Rattle.std.proofs.Common.{length-append, append-nil}
use Rattle.std.specs.Prelude.{slice_get, Option, map, true, false}
use Rattle.nim_types.specs.declared.types.FieldName.{FieldName}
use Rattle.nim_types.specs.declared.types.TypeDef.{TypeDef}
use Rattle.nim_types.specs.Types as type
use Rattle.nim_types.specs.Types.{Ty, Key, Facts, fact_of}
use Rattle.nim_types.specs.Forms.{Form, Forms, AreForms, HasForm, plain, wrapped, parts, forms, no_forms}
use Rattle.nim_types.specs.Forms.{of_enum, of_distinct, of_object, none_of, more_of}
use Rattle.nim_types.specs.Table.{type_at, types_at, types_in, facts_in, meant, said_of, fields_with, fields_fact, and_field, and_said, IsTable, AllBelow}
use Rattle.nim_types.proofs.ForCallers.{count, front, at_entry, said_number, all_more, fields_types, one_more}
use Rattle.expr_parts.specs.View.{Under, AllFormed, Grown}
use Rattle.expr_parts.proofs.ForCallers.{grown_same}
use Rattle.decl_rules.specs.Meanings.{resolved, resolved_fields, KnownType, meaning_of, facts_of}
use Rattle.decl_types.specs.declared.nodes.Node.{Node}
use Rattle.decl_types.specs.declared.known.Meaning.{Meaning}
use Rattle.decl_types.specs.declared.known.Meaning.TheVariants as M
use Rattle.decl_types.specs.declared.known.Definition.{Definition}
use Rattle.decl_types.specs.ViewNodes.{node_types}
use Rattle.decl_types.specs.ViewKnown.{meant_of, typed_fields}
use Rattle.decl_types.specs.ViewKnown.{KnownAs, Untouched, NodesIn, Declares, Kept, object_def, enum_def, distinct_def, AddsMeant, Becomes, HasType}
use Rattle.decl_types.specs.ViewKnown.{MeaningWithin}
use Rattle.decl_types.specs.ViewMarks.{is_unknown, mark_at, node_marks, meaning_mark, definition_mark, RenamedWhere}
use Rattle.decl_types.proofs.Renaming.{listed_renamed}
use Rattle.std.proofs.lemmas.List.{length-map}
use Rattle.std.specs.Prelude.{Bool}
use Rattle.decl_types.specs.ViewKnown.{meaning_by, key_by}
use Rattle.decl_types.proofs.Numbering.{number_type, below_at}
use Rattle.decl_types.proofs.Declaring.{FormsStay, kept_grown, kept_on, kept_declared, declared_type, declared_facts, type_front, under_declared}

-- ---- fields

fields_there : (ts : List Ty) (names : List FieldName) (is : List ℕ) → length is ≡ length names
    → fields_with ts names is ≡ Some (typed_fields names (map (type_at ts) is))
fields_there ts [] [] e = refl
fields_there ts [] (i ∷ is) e = absurd (omega (arith, e))
fields_there ts (f ∷ names) [] e = absurd (omega (arith, e))
fields_there ts (f ∷ names) (i ∷ is) e = ap (and_field f (type_at ts i)) (fields_there ts names is (omega (arith, e)))

fields_resolved : (k : List KnownType) (names : List FieldName) (us : List Ty)
    → typed_fields names (map (resolved k) us) ≡ resolved_fields k (typed_fields names us)
fields_resolved k [] [] = refl
fields_resolved k [] (u ∷ us) = refl
fields_resolved k (f ∷ names) [] = refl
fields_resolved k (f ∷ names) (u ∷ us) = ap (λ rest. record { name = f.name; shown = f.shown; of = resolved k u } ∷ rest) (fields_resolved k names us)

each_front : (ts : List Ty) (mid : List TypeDef) (facts : Facts) (is : List ℕ) → Under mid ts facts → AllBelow (length mid) is
    → map (type_at (types_in mid)) is ≡ map (type_at ts) is
each_front ts mid facts [] u h = refl
each_front ts mid facts (i ∷ is) u h = ap₂ (λ t us. t ∷ us) (sym (type_front ts mid facts i u h.0)) (each_front ts mid facts is u h.1)

-- ---- what it means

-- the types of nodes, by their numbers
abbrev pub NodesAre : List TypeDef → List (Option ℕ) → List ℕ → List Node → Type 0
NodesAre mid known ids nodes =
    (n m : ℕ) → NodesIn n m nodes → (ts : List Ty) (facts : Facts) → Under mid ts facts → (keys : List Key) (by : Key → Ty)
    → KnownAs ts keys known by → Untouched ts n by
    → RenamedWhere (node_marks (map is_unknown known) nodes) (map (type_at ts) ids) by (node_types ts keys nodes)

abbrev MeansAs : List TypeDef → List TypeDef → ℕ → Definition → Meaning → List KnownType → List Ty → List Ty → Facts → Type 0
MeansAs old new id d m k done ts facts =
    (type_at ts id ≡ meaning_of k (key_by d) (meant_of done m)) × (facts ≡ facts_in old ++ facts_of k (key_by d) (meant_of done m))

node_resolved : (marks : List Bool) (k : List KnownType) (ts done : List Ty) (ids : List ℕ) (i id : ℕ)
    → RenamedWhere marks (map (type_at ts) ids) (meaning_by k) done → i < length ids → mark_at marks i ≡ false → slice_get ids i ≡ Some id
    → type_at ts id ≡ resolved k (type_at done i)
node_resolved marks k ts done ids i id h lt m at = sym (number_type ts ids i id at) ∙ h i (omega (arith, lt, length-map ids (type_at ts))) m

means_as : (marks : List Bool) (old mid new : List TypeDef) (ids : List ℕ) (id : ℕ) (d : Definition) (m : Meaning) (k : List KnownType) (done ts : List Ty)
    (facts : Facts)
    → facts_in mid ≡ facts_in old → IsTable mid → AllBelow (length mid) ids → AddsMeant mid new ids d m id
    → RenamedWhere marks (map (type_at ts) ids) (meaning_by k) done → MeaningWithin (length ids) m → meaning_mark marks m ≡ false
    → Under mid ts (facts_in mid) → Under new ts facts → MeansAs old new id d m k done ts facts
means_as marks old mid new ids id d (M.Object names is) k done ts facts f t b a e w unmarked v u =
    let given = a.0 in
    let def = object_def d names given in
    let below = all_more (length mid) (length (types_in mid)) given (let c = count mid in omega (arith, c)) a.3 in
    let us : map (type_at (types_in mid)) given ≡ map (resolved k) (map (type_at done) is) =
    each_front ts mid (facts_in mid) given v a.3 ∙ a.1 ts
    ∙ listed_renamed (meaning_by k) marks (map (type_at ts) ids) done is e
    (subst (λ l. AllBelow l is) (sym (length-map ids (type_at ts))) w.0) unmarked in (
      declared_type mid new def id ts facts a.4 u,
      declared_facts mid new def id ts facts t tt below a.4 u
          ∙ ap₂ (λ fs o. fs ++ and_said (type.object (key_by d) type.no_types) o []) f
          (ap (λ o. fields_fact o false) (fields_there (types_in mid) names given a.2)
          ∙ ap (λ ws. Some (type.fields (typed_fields names ws) false)) us
          ∙ ap (λ all. Some (type.fields all false)) (fields_resolved k names (map (type_at done) is))),
    )
means_as marks old mid new ids id d (M.Enum members) k done ts facts f t b a e w unmarked v u =
    let def = enum_def d members in (
      declared_type mid new def id ts facts a u,
      declared_facts mid new def id ts facts t tt tt a u ∙ ap (λ fs. fs ++ record { of = type.enum (key_by d); fact = type.members members } ∷ []) f,
    )
means_as marks old mid new ids id d (M.Distinct i) k done ts facts f t b a e w unmarked v u =
    let base = a.0 in
    let def = distinct_def d base in
    let inside : base < length (types_in mid) = let c = count mid in omega (arith, c, below_at (length mid) ids i base b a.1) in (
      declared_type mid new def id ts facts a.2 u,
      declared_facts mid new def id ts facts t inside tt a.2 u
          ∙ ap₂ (λ fs w. fs ++ record { of = type.distinct (key_by d); fact = type.base w } ∷ []) f
          (sym (type_front ts mid (facts_in mid) base v (below_at (length mid) ids i base b a.1)) ∙ node_resolved marks k ts done ids i base e w unmarked a.1),
    )
means_as marks old mid new ids id d (M.Alias i) k done ts facts f t b a e w unmarked v u = (
  node_resolved marks k ts done ids i id e w unmarked a.0,
  u.said ∙ ap facts_in a.1 ∙ f ∙ sym (append-nil (facts_in old)),
)

-- ---- what is kept

formed_all : (ds : List TypeDef) (facts : Facts) (is : List ℕ) → AllFormed ds
    → ((ty : Ty) (f : Form) → HasForm (facts_in ds) ty f → HasForm facts ty f) → AllBelow (length ds) is
    → (fs : Forms) × AreForms true facts (types_at (types_in ds) is) fs
formed_all ds facts [] h stay w = (no_forms, none_of)
formed_all ds facts (i ∷ is) h stay w =
    let first = h i w.0 in
    let rest = formed_all ds facts is h stay w.1 in
    (forms first.0 rest.0, more_of (stay (type_at (types_in ds) i) first.0 first.1) rest.1)

entry_last : (old : List TypeDef) (d : TypeDef) → slice_get (old ++ d ∷ []) (length old) ≡ Some d
entry_last [] d = refl
entry_last (e ∷ old) d = entry_last old d

-- what is said of it in the new table
said_new : (old new : List TypeDef) (d : TypeDef) (id : ℕ) → IsTable new → Declares old new d id
    → fact_of (facts_in new) (meant (types_in new) d) ≡ said_of (types_in new) d
said_new old new d id t h =
    let at = ap₂ (λ (ds : List TypeDef) (i : ℕ). slice_get ds i) h.more h.next ∙ entry_last old d in
    ap (fact_of (facts_in new)) (sym (at_entry new id d t at)) ∙ said_number new id d t at

type_still : (old new : List TypeDef) (d : TypeDef) (id i : ℕ) → Declares old new d id → i < length old → type_at (types_in new) i ≡ type_at
    (types_in old) i
type_still old new d id i h lt =
    ap (λ z. type_at z i) (ap types_in h.more ∙ one_more old d)
    ∙ front (types_in old) (meant (types_in old) d ∷ []) i (omega (arith, lt, count old))

each_still : (old new : List TypeDef) (d : TypeDef) (id : ℕ) (is : List ℕ) → Declares old new d id → AllBelow (length old) is
    → types_at (types_in new) is ≡ types_at (types_in old) is
each_still old new d id [] h w = refl
each_still old new d id (i ∷ is) h w = ap₂ type.types (type_still old new d id i h w.0) (each_still old new d id is h w.1)

kept_as : (mid new : List TypeDef) (ids : List ℕ) (id : ℕ) (d : Definition) (m : Meaning) → IsTable mid → IsTable new → AllBelow (length mid) ids
    → AddsMeant mid new ids d m id → FormsStay mid new → Kept mid new
kept_as mid new ids id d (M.Object names is) t t' b a stay =
    let given = a.0 in
    let def = object_def d names given in
    let below = all_more (length mid) (length (types_in mid)) given (let c = count mid in omega (arith, c)) a.3 in
    kept_declared mid new def id t tt below a.4 stay (λ formed.
    let all = formed_all mid (facts_in new) given formed (λ ty f h. stay true ty f h) a.3 in
    let there = fields_there (types_in new) names given a.2 in
    let says = said_new mid new def id t' a.4 ∙ ap (λ o. fields_fact o false) there in
    let types = fields_types (types_in new) names given (typed_fields names (map (type_at (types_in new)) given)) there
    ∙ each_still mid new def id given a.4 a.3 in
    (parts all.0, of_object says (subst (λ us. AreForms true (facts_in new) us all.0) (sym types) all.1)))
kept_as mid new ids id d (M.Enum members) t t' b a stay =
    kept_declared mid new (enum_def d members) id t tt tt a stay (λ formed. (plain, of_enum))
kept_as mid new ids id d (M.Distinct i) t t' b a stay =
    let base = a.0 in
    let def = distinct_def d base in
    let lt = below_at (length mid) ids i base b a.1 in
    let inside : base < length (types_in mid) = let c = count mid in omega (arith, c, lt) in
    kept_declared mid new def id t inside tt a.2 stay (λ formed.
    let f = formed base lt in
    let there = subst (λ ty. HasForm (facts_in new) ty f.0) (sym (type_still mid new def id base a.2 lt)) (stay true (type_at (types_in mid) base) f.0 f.1) in
    (wrapped f.0, of_distinct (said_new mid new def id t' a.2) there))
kept_as mid new ids id d (M.Alias i) t t' b a stay = subst (Kept mid) (sym a.1) (kept_grown mid mid (grown_same mid))

under_as : (mid new : List TypeDef) (ids : List ℕ) (id : ℕ) (d : Definition) (m : Meaning) (ts : List Ty) (facts : Facts) → IsTable mid
    → AddsMeant mid new ids d m id → Under new ts facts → Under mid ts (facts_in mid)
under_as mid new ids id d (M.Object names is) ts facts t a u = under_declared mid new (object_def d names a.0) id ts facts t a.4 u
under_as mid new ids id d (M.Enum members) ts facts t a u = under_declared mid new (enum_def d members) id ts facts t a u
under_as mid new ids id d (M.Distinct i) ts facts t a u = under_declared mid new (distinct_def d a.0) id ts facts t a.2 u
under_as mid new ids id d (M.Alias i) ts facts t a u =
    let v = subst (λ ds. Under ds ts facts) a.1 u in subst (Under mid ts) v.said v

within_as : (mid new : List TypeDef) (ids : List ℕ) (id : ℕ) (d : Definition) (m : Meaning) → AllBelow (length mid) ids → AddsMeant mid new ids d m id
    → id < length new
within_as mid new ids id d (M.Object names is) b a =
    let l = ap length a.4.more in omega (arith, a.4.next, l, length-append mid (object_def d names a.0 ∷ []))
within_as mid new ids id d (M.Enum members) b a = let l = ap length a.more in omega (arith, a.next, l, length-append mid (enum_def d members ∷ []))
within_as mid new ids id d (M.Distinct i) b a =
    let l = ap length a.2.more in omega (arith, a.2.next, l, length-append mid (distinct_def d a.0 ∷ []))
within_as mid new ids id d (M.Alias i) b a = let l = ap length a.1 in omega (arith, l, below_at (length mid) ids i id b a.0)

-- ---- both

pub object_meant : (mid new : List TypeDef) (ids : List ℕ) (id : ℕ) (d : Definition) (m : Meaning) (names seen : List FieldName) (is nodes : List ℕ)
    → m ≡ M.Object names is → seen ≡ names → nodes ≡ is → AddsMeant mid new ids d (M.Object seen nodes) id → AddsMeant mid new ids d m id
object_meant mid new ids id d m names seen is nodes e f g a =
    subst (λ (z : Meaning). AddsMeant mid new ids d z id) (ap₂ M.Object f g ∙ sym e) a

pub kept_known : (old mid new : List TypeDef) (ids : List ℕ) (id : ℕ) (d : Definition) → Grown old mid → IsTable mid → IsTable new → AllBelow
    (length mid) ids
    → AddsMeant mid new ids d d.meaning id → FormsStay mid new → Kept old new
kept_known old mid new ids id d g t t' b a stay = kept_on old mid new (kept_grown old mid g) (kept_as mid new ids id d d.meaning t t' b a stay)

pub becomes : (old mid new : List TypeDef) (known : List (Option ℕ)) (ids : List ℕ) (id : ℕ) (d : Definition) → Grown old mid → IsTable mid
    → AllBelow (length mid) ids → NodesAre mid known ids d.nodes.items → MeaningWithin (length ids) d.meaning
    → definition_mark (map is_unknown known) d ≡ false → AddsMeant mid new ids d d.meaning id → Becomes old new known d id
becomes old mid new known ids id d g t b are within unmarked a = record {
  within = within_as mid new ids id d d.meaning b a;
  means = λ n m w ts facts u keys k knows same.
      let v = under_as mid new ids id d d.meaning ts facts t a u in
      means_as (node_marks (map is_unknown known) d.nodes.items) old mid new ids id d d.meaning k (node_types ts keys d.nodes.items) ts facts
      (g.under ts (facts_in mid) v).said t b a
      (are n m w.nodes ts (facts_in mid) v keys (meaning_by k) knows same) within unmarked v u;
}

-- the type of what is added
pub typed_as : (mid new : List TypeDef) (ids : List ℕ) (id : ℕ) (d : Definition) (m : Meaning) (ts : List Ty) (facts : Facts)
    → AddsMeant mid new ids d m id → Under new ts facts → HasType d m (type_at ts id)
typed_as mid new ids id d (M.Object names is) ts facts a u = declared_type mid new (object_def d names a.0) id ts facts a.4 u
typed_as mid new ids id d (M.Enum members) ts facts a u = declared_type mid new (enum_def d members) id ts facts a u
typed_as mid new ids id d (M.Distinct i) ts facts a u = declared_type mid new (distinct_def d a.0) id ts facts a.2 u
typed_as mid new ids id d (M.Alias i) ts facts a u = tt
