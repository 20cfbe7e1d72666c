-- What a table says of declared types is of their sorts.
use Rattle.std.proofs.Common.{◌≡◌, Bool, true, false, List, [], ◌∷◌, Option, Some, None, refl, subst}
use Rattle.nim_types.specs.declared.types.TypeDef.{TypeDef}
use Rattle.nim_types.specs.declared.types.TypeDef.TheVariants as D
use Rattle.nim_types.specs.Types.{Ty, Field, Fact, fields, Facts, fact_of, if_same, same}
use Rattle.nim_types.specs.Table.{meant, types_in, fields_with, fields_fact, said_of, and_said, facts_over, facts_in}
use Rattle.nim_types.proofs.ForCallers.{same_sound}
use Rattle.flat_code.proofs.ShapeDepths.{IsSorted, AreSorted, none_some}

one : {A : Type 0} {x y : A} → Some x ≡ Some y → x ≡ y
one e = cc

module _ (ts : List Ty) where
  object_right : (d : TypeDef) (o : Option (List Field)) (own_hooks : Bool) (fact : Fact) →
      ((all : List Field) → IsSorted (meant ts d) (fields all own_hooks)) →
      fields_fact o own_hooks ≡ Some fact → IsSorted (meant ts d) fact
  object_right d None own_hooks fact right e = none_some e
  object_right d (Some all) own_hooks fact right e = subst (IsSorted (meant ts d)) (one e) (right all)

  entry_right : (d : TypeDef) (fact : Fact) → said_of ts d ≡ Some fact → IsSorted (meant ts d) fact
  entry_right (D.Enum name at all) fact e = subst (IsSorted (meant ts (D.Enum name at all))) (one e) tt
  entry_right (D.Object name at is all own_hooks parts) fact e =
      object_right (D.Object name at is all own_hooks parts) (fields_with ts all parts) own_hooks fact (λ given. tt) e
  entry_right (D.Distinct name at i) fact e = subst (IsSorted (meant ts (D.Distinct name at i))) (one e) tt
  entry_right (D.Exception name at parent) fact e = subst (IsSorted (meant ts (D.Exception name at parent))) (one e) tt
  entry_right d fact e = none_some e

  one_more : (of ty : Ty) (fact : Fact) (o : Option Fact) (rest : Facts) → ((f : Fact) → o ≡ Some f → IsSorted of f) →
      (fact_of rest ty ≡ Some fact → IsSorted ty fact) → fact_of (and_said of o rest) ty ≡ Some fact → IsSorted ty fact
  one_more of ty fact None rest right go e = go e
  one_more of ty fact (Some f) rest right go e = at (same of ty) refl e
    where
      at : (b : Bool) → same of ty ≡ b → if_same b f (fact_of rest ty) ≡ Some fact → IsSorted ty fact
      at true is e = subst (λ t. IsSorted t fact) (same_sound of ty is) (subst (IsSorted of) (one e) (right f refl))
      at false is e = go e

  sorted_over : (ds : List TypeDef) → AreSorted (facts_over ts ds)
  sorted_over [] ty fact e = none_some e
  sorted_over (d ∷ ds) ty fact e = one_more (meant ts d) ty fact (said_of ts d) (facts_over ts ds) (entry_right d) (sorted_over ds ty fact) e

pub sorted_table : (table : List TypeDef) → AreSorted (facts_in table)
sorted_table table = sorted_over (types_in table) table
