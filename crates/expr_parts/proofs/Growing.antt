-- Tables with some more types that are made of others.
use Rattle.std.proofs.Common.{◌≡◌, ℕ, suc, ◌<◌, List, [], ◌∷◌, ◌++◌, length, Some, None, refl, sym, ap, ap₂, ◌∙◌, subst, arith, append_assoc}
use Rattle.std.proofs.Common.{⊎_elim, length-append}
use Rattle.std.specs.Prelude.{slice_get, true}
use Rattle.std.proofs.lemmas.Bool.{cases_lt}
use Rattle.nim_types.specs.declared.types.TypeDef.{TypeDef}
use Rattle.nim_types.specs.declared.types.TypeDef.TheVariants as D
use Rattle.nim_types.specs.Types.{Ty, Facts}
use Rattle.nim_types.specs.Forms.{Form, Forms, AreForms, HasForm, elements, row, parts, no_forms, forms, of_sequence, of_array, of_tuple, none_of, more_of}
use Rattle.nim_types.specs.Table.{type_at, types_at, types_in, facts_in, facts_over, and_said, meant, said_of, parts_of, IsTable, IsWithin, AllBelow}
use Rattle.nim_types.specs.Table.{Adds, Keeps, Appends}
use Rattle.nim_types.proofs.ForCallers.{count, front, meant_front, said_front, entry_inside, one_more, all_more, get_front}
use Rattle.expr_parts.specs.declared.scope.Kinds.{Kinds}
use Rattle.expr_parts.specs.View.{Under, KindsIn, IsBuilt, AllFormed, Grown}

abbrev AllInside : ℕ → List TypeDef → Type 0
AllInside n ds = (i : ℕ) (d : TypeDef) → slice_get ds i ≡ Some d → IsWithin n d × AllBelow n (parts_of d)

facts_more : (ts k : List Ty) (ds : List TypeDef) → AllInside (length ts) ds → facts_over (ts ++ k) ds ≡ facts_over ts ds
facts_more ts k [] h = refl
facts_more ts k (d ∷ ds) h =
    ap₂ (λ ty o. and_said ty o (facts_over (ts ++ k) ds)) (meant_front ts k d (h 0 d refl).0) (said_front ts k d (h 0 d refl).0 (h 0 d refl).1)
    ∙ ap (and_said (meant ts d) (said_of ts d)) (facts_more ts k ds (λ i e. h (suc i) e))

facts_end : (ts : List Ty) (ds : List TypeDef) (d : TypeDef) → said_of ts d ≡ None → facts_over ts (ds ++ d ∷ []) ≡ facts_over ts ds
facts_end ts [] d h = ap (λ o. and_said (meant ts d) o []) h
facts_end ts (e ∷ ds) d h = ap (and_said (meant ts e) (said_of ts e)) (facts_end ts ds d h)

built_silent : (ts : List Ty) (d : TypeDef) → IsBuilt d → said_of ts d ≡ None
built_silent ts (D.Seq i) h = refl
built_silent ts (D.Array n i) h = refl
built_silent ts (D.Tuple names is) h = refl
built_silent ts D.Int h = elim h [ ]
built_silent ts D.Bool h = elim h [ ]
built_silent ts D.Char h = elim h [ ]
built_silent ts D.Text h = elim h [ ]
built_silent ts (D.Param _) h = elim h [ ]
built_silent ts (D.Enum _ _ _) h = elim h [ ]
built_silent ts (D.Object _ _ _ _ _ _) h = elim h [ ]
built_silent ts (D.Distinct _ _ _) h = elim h [ ]
built_silent ts (D.Ref _ _) h = elim h [ ]
built_silent ts (D.Exception _ _ _) h = elim h [ ]

all_inside : (ds : List TypeDef) → IsTable ds → AllInside (length (types_in ds)) ds
all_inside ds t i d h =
    (entry_inside ds i d t h, all_more (length ds) (length (types_in ds)) (parts_of d) (omega (arith, count ds)) (t.parts i d h))

pub facts_stay : (ds : List TypeDef) (d : TypeDef) → IsTable ds → IsBuilt d → facts_in (ds ++ d ∷ []) ≡ facts_in ds
facts_stay ds d t b =
    let ts = types_in ds in
    let k = meant ts d ∷ [] in
    ap (λ z. facts_over z (ds ++ d ∷ [])) (one_more ds d) ∙ facts_end (ts ++ k) ds d (built_silent (ts ++ k) d b) ∙ facts_more ts k ds (all_inside ds t)

under_less : (ds : List TypeDef) (d : TypeDef) (ts : List Ty) (facts : Facts) → IsTable ds → IsBuilt d → Under (ds ++ d ∷ []) ts facts → Under ds ts facts
under_less ds d ts facts t b u = record {
  table = t;
  more = meant (types_in ds) d ∷ u.more;
  begins = u.begins ∙ ap (λ z. z ++ u.more) (one_more ds d) ∙ append_assoc (types_in ds) (meant (types_in ds) d ∷ []) u.more;
  said = u.said ∙ facts_stay ds d t b;
}

kinds_more : (ds : List TypeDef) (d : TypeDef) (k : Kinds) → KindsIn ds k → KindsIn (ds ++ d ∷ []) k
kinds_more ds d k h = record {
  int = get_front ds (d ∷ []) k.int D.Int h.int;
  bool = get_front ds (d ∷ []) k.bool D.Bool h.bool;
  char = get_front ds (d ∷ []) k.char D.Char h.char;
  text = get_front ds (d ∷ []) k.text D.Text h.text;
}

abbrev Formed : Facts → Ty → Type 0
Formed facts ty = (f : Form) × HasForm facts ty f

formed_all : (ds : List TypeDef) (is : List ℕ) → AllFormed ds → AllBelow (length ds) is
    → (fs : Forms) × AreForms true (facts_in ds) (types_at (types_in ds) is) fs
formed_all ds [] h w = (no_forms, none_of)
formed_all ds (i ∷ is) h w =
    let first = h i w.0 in
    let rest = formed_all ds is h w.1 in
    (forms first.0 rest.0, more_of first.1 rest.1)

built_formed : (ds : List TypeDef) (d : TypeDef) → IsBuilt d → IsWithin (length ds) d → AllFormed ds → Formed (facts_in ds) (meant (types_in ds) d)
built_formed ds (D.Seq i) b w h = (elements (h i w).0, of_sequence refl (h i w).1)
built_formed ds (D.Array n i) b w h = (row n (h i w).0, of_array (h i w).1)
built_formed ds (D.Tuple names is) b w h = (parts (formed_all ds is h w).0, of_tuple (formed_all ds is h w).1)
built_formed ds D.Int b w h = elim b [ ]
built_formed ds D.Bool b w h = elim b [ ]
built_formed ds D.Char b w h = elim b [ ]
built_formed ds D.Text b w h = elim b [ ]
built_formed ds (D.Param _) b w h = elim b [ ]
built_formed ds (D.Enum _ _ _) b w h = elim b [ ]
built_formed ds (D.Object _ _ _ _ _ _) b w h = elim b [ ]
built_formed ds (D.Distinct _ _ _) b w h = elim b [ ]
built_formed ds (D.Ref _ _) b w h = elim b [ ]
built_formed ds (D.Exception _ _ _) b w h = elim b [ ]

last_of : (ts : List Ty) (t : Ty) → type_at (ts ++ t ∷ []) (length ts) ≡ t
last_of [] t = refl
last_of (u ∷ ts) t = last_of ts t

formed_more : (ds : List TypeDef) (d : TypeDef) → IsTable ds → IsBuilt d → IsWithin (length ds) d → AllFormed ds → AllFormed (ds ++ d ∷ [])
formed_more ds d t b w h = λ i lt.
    let ts = types_in ds in
    let k = meant ts d ∷ [] in
    let go : (ty : Ty) → type_at (types_in (ds ++ d ∷ [])) i ≡ ty → Formed (facts_in ds) ty →
    Formed (facts_in (ds ++ d ∷ [])) (type_at (types_in (ds ++ d ∷ [])) i) =
    λ ty e f. subst (λ z. Formed z (type_at (types_in (ds ++ d ∷ [])) i)) (sym (facts_stay ds d t b)) (subst (Formed (facts_in ds)) (sym e) f) in
    ⊎_elim
    (λ below. go (type_at ts i) (ap (λ z. type_at z i) (one_more ds d) ∙ front ts k i (omega (arith, below, count ds))) (h i below))
    (λ above.
    let e : i ≡ length ts = omega (arith, lt, above, count ds, length-append ds (d ∷ [])) in
    go (meant ts d) (ap₂ type_at (one_more ds d) e ∙ last_of ts (meant ts d)) (built_formed ds d b w h))
    (cases_lt i (length ds))

pub grown_same : (ds : List TypeDef) → Grown ds ds
grown_same ds = record { length = omega arith; under = λ ts facts u. u; kinds = λ k h. h; formed = λ h. h }

grown_more : (ds : List TypeDef) (d : TypeDef) → IsTable ds → IsBuilt d → IsWithin (length ds) d → Grown ds (ds ++ d ∷ [])
grown_more ds d t b w = record {
  length = omega (arith, length-append ds (d ∷ []));
  under = λ ts facts u. under_less ds d ts facts t b u;
  kinds = kinds_more ds d;
  formed = formed_more ds d t b w;
}

pub grown : (old new : List TypeDef) (d : TypeDef) (id : ℕ) → IsTable old → IsBuilt d → IsWithin (length old) d → Adds old d id new → Grown old new
grown old new d id t b w a =
    ⊎_elim (λ (k : Keeps old d id new). subst (Grown old) (sym k.same) (grown_same old))
    (λ (m : Appends old d id new). subst (Grown old) (sym m.more) (grown_more old d t b w)) a

pub grown_on : {a b c : List TypeDef} → Grown a b → Grown b c → Grown a c
grown_on g h = record {
  length = omega (arith, g.length, h.length);
  under = λ ts facts u. g.under ts facts (h.under ts facts u);
  kinds = λ k i. h.kinds k (g.kinds k i);
  formed = λ f. h.formed (g.formed f);
}

added_id : (old new : List TypeDef) (d : TypeDef) (id : ℕ) → Adds old d id new → id < length new
added_id old new d id a =
    ⊎_elim
    (λ (k : Keeps old d id new). subst (λ z. id < length z) (sym k.same) k.within)
    (λ (m : Appends old d id new). subst (λ z. id < length z) (sym m.more) (let e = m.next in omega (arith, e, length-append old (d ∷ []))))
    a

added_type : (old new : List TypeDef) (d : TypeDef) (id : ℕ) → IsWithin (length old) d → Adds old d id new → type_at (types_in new) id ≡ meant (types_in old) d
added_type old new d id w a =
    ⊎_elim
    (λ (k : Keeps old d id new). ap (λ z. type_at (types_in z) id) k.same ∙ k.equal)
    (λ (m : Appends old d id new).
    let e : id ≡ length (types_in old) = m.next ∙ sym (count old) in
    ap (λ z. type_at (types_in z) id) m.more ∙ ap₂ type_at (one_more old d) e ∙ last_of (types_in old) (meant (types_in old) d))
    a

pub added_means : (old new : List TypeDef) (d : TypeDef) (id : ℕ) → IsTable old → IsBuilt d → IsWithin (length old) d → Adds old d id new
    → (ts : List Ty) (facts : Facts) → Under new ts facts → type_at ts id ≡ meant ts d
added_means old new d id t b w a ts facts u =
    let v = (grown old new d id t b w a).under ts facts u in
    let lt : id < length (types_in new) = subst (λ n. id < n) (sym (count new)) (added_id old new d id a) in
    ap (λ z. type_at z id) u.begins ∙ front (types_in new) u.more id lt ∙ added_type old new d id w a
    ∙ sym (ap (λ z. meant z d) v.begins ∙ meant_front (types_in old) v.more d (subst (λ n. IsWithin n d) (sym (count old)) w))

pub added_below : (old new : List TypeDef) (d : TypeDef) (id : ℕ) → Adds old d id new → id < length new
added_below = added_id
