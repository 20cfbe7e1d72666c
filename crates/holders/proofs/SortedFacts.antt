-- What a table says of declared types is of their sorts.
use Rattle.std.proofs.Common.{◌≡◌, refl, subst, Bool, true, false, List, [], ◌∷◌, Option, Some, None}
use Rattle.std.proofs.lemmas.Option.{none-some, same_Some}
use Rattle.nim_types.specs.declared.types.TypeDef.{TypeDef}
use Rattle.nim_types.specs.declared.types.TypeDef.TheVariants as D
use Rattle.nim_types.specs.Types as type
use Rattle.nim_types.specs.Types.{Key, Ty, Field, Fact, members, fields, base, below, Facts, fact_of, base_in, if_same, same}
use Rattle.nim_types.specs.Table.{meant, types_in, fields_with, fields_fact, said_of, and_said, facts_over, facts_in}
use Rattle.nim_types.proofs.ForCallers.{same_sound}
use Rattle.holders.specs.Asked.{is_object, FactsOfTheirSort}

abbrev IsSorted : Ty → Fact → Type 0
IsSorted (type.enum key) (members names) = Unit {0}
IsSorted (type.object key arguments) (fields all own) = Unit {0}
IsSorted (type.distinct key) (base t) = Unit {0}
IsSorted (type.exception key) (below parent) = Unit {0}
IsSorted ty fact = ⊥

abbrev AreSorted : Facts → Type 0
AreSorted facts = (ty : Ty) (fact : Fact) → fact_of facts ty ≡ Some fact → IsSorted ty fact

-- ---- of a table

module _ (ts : List Ty) where
  object_right : (d : TypeDef) (o : Option (List Field)) (own : Bool) (fact : Fact) → ((all : List Field) → IsSorted (meant ts d) (fields all own)) →
      fields_fact o own ≡ Some fact → IsSorted (meant ts d) fact
  object_right d None own fact right e = absurd (none-some fact e)
  object_right d (Some all) own fact right e = subst (λ f. IsSorted (meant ts d) f) (same_Some (fields all own) fact e) (right all)

  entry_right : (d : TypeDef) (fact : Fact) → said_of ts d ≡ Some fact → IsSorted (meant ts d) fact
  entry_right (D.Enum name at all) fact e = subst (λ f. IsSorted (meant ts (D.Enum name at all)) f) (same_Some (members all) fact e) tt
  entry_right (D.Object name at is all own parts) fact e =
      object_right (D.Object name at is all own parts) (fields_with ts all parts) own fact (λ given. tt) e
  entry_right (D.Distinct name at i) fact e = subst (λ f. IsSorted (meant ts (D.Distinct name at i)) f) (same_Some _ fact e) tt
  entry_right (D.Exception name at parent) fact e = subst (λ f. IsSorted (meant ts (D.Exception name at parent)) f) (same_Some _ fact e) tt
  entry_right d fact e = absurd (none-some fact e)

  one_more : (of ty : Ty) (fact : Fact) (o : Option Fact) (rest : Facts) → ((f : Fact) → o ≡ Some f → IsSorted of f) →
      (fact_of rest ty ≡ Some fact → IsSorted ty fact) → fact_of (and_said of o rest) ty ≡ Some fact → IsSorted ty fact
  one_more of ty fact None rest right go e = go e
  one_more of ty fact (Some f) rest right go e = by (same of ty) refl e
    where
      by : (b : Bool) → same of ty ≡ b → if_same b f (fact_of rest ty) ≡ Some fact → IsSorted ty fact
      by true is e = subst (λ t. IsSorted t fact) (same_sound of ty is) (subst (λ g. IsSorted of g) (same_Some f fact e) (right f refl))
      by false is e = go e

  sorted_over : (ds : List TypeDef) → AreSorted (facts_over ts ds)
  sorted_over [] ty fact e = absurd (none-some fact e)
  sorted_over (d ∷ ds) ty fact e = one_more (meant ts d) ty fact (said_of ts d) (facts_over ts ds) (entry_right d) (sorted_over ds ty fact) e

-- ---- of which types they are

of_base : (ty t : Ty) → IsSorted ty (base t) → (key : Key) × (ty ≡ type.distinct key)
of_base (type.distinct key) t h = (key, refl)
of_base type.int t h = elim h [ ]
of_base type.bool t h = elim h [ ]
of_base type.char t h = elim h [ ]
of_base type.text t h = elim h [ ]
of_base (type.sequence of) t h = elim h [ ]
of_base (type.array n of) t h = elim h [ ]
of_base (type.tuple names parts) t h = elim h [ ]
of_base (type.parameter n) t h = elim h [ ]
of_base (type.enum key) t h = elim h [ ]
of_base (type.object key arguments) t h = elim h [ ]
of_base (type.ref name to) t h = elim h [ ]
of_base (type.exception key) t h = elim h [ ]

of_fields : (ty : Ty) (all : List Field) (own : Bool) → IsSorted ty (fields all own) → is_object ty ≡ true
of_fields (type.object key arguments) all own h = refl
of_fields (type.distinct key) all own h = elim h [ ]
of_fields type.int all own h = elim h [ ]
of_fields type.bool all own h = elim h [ ]
of_fields type.char all own h = elim h [ ]
of_fields type.text all own h = elim h [ ]
of_fields (type.sequence of) all own h = elim h [ ]
of_fields (type.array n of) all own h = elim h [ ]
of_fields (type.tuple names parts) all own h = elim h [ ]
of_fields (type.parameter n) all own h = elim h [ ]
of_fields (type.enum key) all own h = elim h [ ]
of_fields (type.ref name to) all own h = elim h [ ]
of_fields (type.exception key) all own h = elim h [ ]

pub sorted_facts : (table : List TypeDef) → FactsOfTheirSort (facts_in table)
sorted_facts table = record {
  bases = λ ty t e. by ty t (fact_of (facts_in table) ty) refl e;
  objects = λ ty all own e. of_fields ty all own (sorted_over (types_in table) table ty (fields all own) e);
}
  where
    by : (ty t : Ty) (x : Option Fact) → fact_of (facts_in table) ty ≡ x → base_in x ≡ Some t → (key : Key) × (ty ≡ type.distinct key)
    by ty t None q e = absurd (none-some t e)
    by ty t (Some (members names)) q e = absurd (none-some t e)
    by ty t (Some (fields all own)) q e = absurd (none-some t e)
    by ty t (Some (base u)) q e = of_base ty u (sorted_over (types_in table) table ty (base u) q)
    by ty t (Some (below parent)) q e = absurd (none-some t e)
