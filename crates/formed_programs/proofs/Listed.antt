-- Types of a table, what is known of them, and the labels of selectors.
use Rattle.std.proofs.Common.{◌≡◌, ℕ, zero, suc, Bool, true, false, List, [], ◌∷◌, length, Option, Some, None, refl, sym, ap, ◌∙◌, subst}
use Rattle.std.specs.Prelude.{ℤ, ◌&&◌, ◌||◌, if◌then◌else◌}
use Rattle.std.proofs.lemmas.Bool.{both_ways, and_parts}
use Rattle.nim_types.specs.Types.{Ty, Facts, Fact, fact_of, same}
use Rattle.nim_types.specs.Types as type
use Rattle.nim_types.specs.Table.{type_at}
use Rattle.nim_types.proofs.ForCallers.{same_sound, same_refl}
use Rattle.nim_program.specs.Program.{Label, Ordinals, Exactly}
use Rattle.nim_program.specs.Kinds.{TypeKind, declared_kind, kind_of, kind_if, is_bool, is_ordinal, is_text, is_among_types, are_among_types, is_declared_as}
use Rattle.nim_program.specs.Kinds.{are_declared}
use Rattle.nim_program.specs.Kinds as kinds
use Rattle.nim_program.specs.Fitting.{labels_fit, has_label, are_labels}
use Rattle.nim_meaning.specs.Here.{is_hooked, gives_hooked}
use Rattle.flattening.specs.Numbering.{type_number}
use Rattle.flattening.specs.Formed.{IsListed, AreOf, AllOf}
use Rattle.formed_programs.proofs.Parts.{Each}

never : {A : Type 0} → false ≡ true → A
never e = absurd (both_ways false refl e)

-- a type of the table has its number there
pub listed : (types : List Ty) (ty : Ty) → is_among_types types ty ≡ true → IsListed types ty
listed [] ty h = never h
listed (t ∷ ts) ty h = at (same t ty) refl (λ e. listed ts ty (behind e (same ty t) refl))
  where
    behind : same t ty ≡ false → (u : Bool) → same ty t ≡ u → is_among_types ts ty ≡ true
    behind e true f = absurd (both_ways (same t ty) e (subst (λ s. same s ty ≡ true) (same_sound ty t f) (same_refl ty)))
    behind e false f = ap (λ b. b || is_among_types ts ty) (sym f) ∙ h

    at : (u : Bool) → same t ty ≡ u → (same t ty ≡ false → IsListed ts ty) → type_at (t ∷ ts) (if u then zero else suc (type_number ts ty)) ≡ ty
    at true e rest = same_sound t ty e
    at false e rest = rest e

-- of the table, and of the kind that its declaration says
abbrev pub IsKnown : List Ty → Facts → Ty → Type 0
IsKnown types facts ty = IsListed types ty × (is_declared_as ty (kind_of facts ty) ≡ true)

abbrev pub IfKnown : List Ty → Facts → Option Ty → Type 0
IfKnown types facts None = Unit {0}
IfKnown types facts (Some ty) = IsKnown types facts ty

declared_there : (facts : Facts) (ts : List Ty) (ty : Ty) → are_declared facts ts ≡ true → is_among_types ts ty ≡ true →
    is_declared_as ty (kind_of facts ty) ≡ true
declared_there facts [] ty d h = never h
declared_there facts (t ∷ ts) ty d h = at (same ty t) refl (λ h. declared_there facts ts ty parts.1 h)
  where
    parts : (is_declared_as t (kind_of facts t) ≡ true) × (are_declared facts ts ≡ true)
    parts = and_parts (is_declared_as t (kind_of facts t)) (are_declared facts ts) d

    at : (u : Bool) → same ty t ≡ u → (is_among_types ts ty ≡ true → is_declared_as ty (kind_of facts ty) ≡ true) →
        is_declared_as ty (kind_of facts ty) ≡ true
    at true e rest = subst (λ t. is_declared_as t (kind_of facts t) ≡ true) (sym (same_sound ty t e)) parts.0
    at false e rest = rest (ap (λ b. b || is_among_types ts ty) (sym e) ∙ h)

pub all_known : (types : List Ty) (facts : Facts) → are_declared facts types ≡ true → (tys : List Ty) → are_among_types types tys ≡ true →
    Each (IsKnown types facts) tys
all_known types facts d [] h = tt
all_known types facts d (ty ∷ tys) h =
    let q = and_parts (is_among_types types ty) (are_among_types types tys) h in
    ((listed types ty q.0, declared_there facts types ty d q.0), all_known types facts d tys q.1)

-- ---- labels are of the selector's kind

-- that of an enum is said of enums alone
ordinal_declared : (ty : Ty) (said : Option Fact) → is_declared_as ty (declared_kind said) ≡ true → is_ordinal (declared_kind said) ≡ true →
    (n : ℕ) × (declared_kind said ≡ kinds.enum n)
ordinal_declared ty None d h = never h
ordinal_declared ty (Some (type.members names)) d h = (length names, refl)
ordinal_declared ty (Some (type.fields all resource)) d h = never h
ordinal_declared ty (Some (type.base t)) d h = never h
ordinal_declared ty (Some (type.below parent)) d h = never h

no_text : {A : Type 0} (said : Option Fact) → is_text (declared_kind said) ≡ true → A
no_text None h = never h
no_text (Some (type.members names)) h = never h
no_text (Some (type.fields all resource)) h = never h
no_text (Some (type.base t)) h = never h
no_text (Some (type.below parent)) h = never h

declared_as : (ty : Ty) (facts : Facts) (n : ℕ) → declared_kind (fact_of facts ty) ≡ kinds.enum n →
    is_declared_as ty (declared_kind (fact_of facts ty)) ≡ true →
    is_declared_as ty (kinds.enum n) ≡ true
declared_as ty facts n e d = subst (λ k. is_declared_as ty k ≡ true) e d

ordinals_unhooked : (facts : Facts) (ty : Ty) → is_declared_as ty (kind_of facts ty) ≡ true → is_ordinal (kind_of facts ty) ≡ true → is_hooked facts ty ≡ false
ordinals_unhooked facts type.int d h = refl
ordinals_unhooked facts type.bool d h = refl
ordinals_unhooked facts type.char d h = refl
ordinals_unhooked facts type.text d h = never h
ordinals_unhooked facts (type.sequence t) d h = never h
ordinals_unhooked facts (type.array n t) d h = never h
ordinals_unhooked facts (type.tuple names ts) d h = never h
ordinals_unhooked facts (type.parameter n) d h = never h
ordinals_unhooked facts (type.ref name t) d h = never h
ordinals_unhooked facts (type.enum key) d h = refl
ordinals_unhooked facts (type.object key ts) d h =
    let o = ordinal_declared (type.object key ts) (fact_of facts (type.object key ts)) d h in never (declared_as (type.object key ts) facts o.0 o.1 d)
ordinals_unhooked facts (type.distinct key) d h =
    let o = ordinal_declared (type.distinct key) (fact_of facts (type.distinct key)) d h in never (declared_as (type.distinct key) facts o.0 o.1 d)
ordinals_unhooked facts (type.exception key) d h =
    let o = ordinal_declared (type.exception key) (fact_of facts (type.exception key)) d h in never (declared_as (type.exception key) facts o.0 o.1 d)

texts_hooked : (facts : Facts) (ty : Ty) → is_text (kind_of facts ty) ≡ true → is_hooked facts ty ≡ true
texts_hooked facts type.text h = refl
texts_hooked facts type.int h = never h
texts_hooked facts type.bool h = never h
texts_hooked facts type.char h = never h
texts_hooked facts (type.sequence t) h = never h
texts_hooked facts (type.array n t) h = never h
texts_hooked facts (type.tuple names ts) h = never h
texts_hooked facts (type.parameter n) h = never h
texts_hooked facts (type.ref name t) h = never h
texts_hooked facts (type.enum key) h = no_text (fact_of facts (type.enum key)) h
texts_hooked facts (type.object key ts) h = no_text (fact_of facts (type.object key ts)) h
texts_hooked facts (type.distinct key) h = no_text (fact_of facts (type.distinct key)) h
texts_hooked facts (type.exception key) h = no_text (fact_of facts (type.exception key)) h

module _ (texts : Bool) (k : TypeKind) (numbers : is_ordinal k ≡ true → texts ≡ false) (words : is_text k ≡ true → texts ≡ true) where
  a_number : (texts : Bool) (low high : ℤ) (labels : List Label) → texts ≡ false → AreOf texts labels → AreOf texts (Ordinals low high ∷ labels)
  a_number false low high labels e f = f
  a_number true low high labels e f = never (sym e)

  a_text : (texts : Bool) (t : List ℕ) (labels : List Label) → texts ≡ true → AreOf texts labels → AreOf texts (Exactly t ∷ labels)
  a_text true t labels e f = f
  a_text false t labels e f = never e

  are_of : (labels : List Label) → labels_fit k labels ≡ true → AreOf texts labels
  are_of [] h = tt
  are_of (Ordinals low high ∷ labels) h =
      let q = and_parts (is_ordinal k && _) (labels_fit k labels) h in
      a_number texts low high labels (numbers (and_parts (is_ordinal k) _ q.0).0) (are_of labels q.1)
  are_of (Exactly t ∷ labels) h =
      let q = and_parts (is_text k) (labels_fit k labels) h in a_text texts t labels (words q.0) (are_of labels q.1)

  pub all_of : (labels : List (List Label)) → are_labels k labels ≡ true → AllOf texts labels
  all_of [] h = tt
  all_of (these ∷ rest) h =
      let q = and_parts (has_label these && labels_fit k these) (are_labels k rest) h in
      (are_of these (and_parts (has_label these) (labels_fit k these) q.0).1, all_of rest q.1)

-- of a selector of a known type
pub labels_are : (types : List Ty) (facts : Facts) (ty : Option Ty) → IfKnown types facts ty → (labels : List (List Label)) →
    are_labels (kind_if facts ty) labels ≡ true → AllOf (gives_hooked facts ty) labels
labels_are types facts None f labels h = all_of false kinds.other (λ e. refl) (λ e. never e) labels h
labels_are types facts (Some ty) f labels h =
    all_of (is_hooked facts ty) (kind_of facts ty) (λ e. ordinals_unhooked facts ty f.1 e) (λ e. texts_hooked facts ty e) labels h

-- of none
pub no_labels : (texts : Bool) (labels : List (List Label)) → are_labels kinds.other labels ≡ true → AllOf texts labels
no_labels texts labels h = all_of texts kinds.other (λ e. never e) (λ e. never e) labels h

-- ---- bools

-- no declaration says that a type is that of bools
no_bool : {A : Type 0} (said : Option Fact) → is_bool (declared_kind said) ≡ true → A
no_bool None h = never h
no_bool (Some (type.members names)) h = never h
no_bool (Some (type.fields all resource)) h = never h
no_bool (Some (type.base ty)) h = never h
no_bool (Some (type.below parent)) h = never h

pub the_bool : (facts : Facts) (ty : Ty) → is_bool (kind_of facts ty) ≡ true → ty ≡ type.bool
the_bool facts type.bool h = refl
the_bool facts type.int h = never h
the_bool facts type.char h = never h
the_bool facts type.text h = never h
the_bool facts (type.sequence t) h = never h
the_bool facts (type.array n t) h = never h
the_bool facts (type.tuple names ts) h = never h
the_bool facts (type.parameter n) h = never h
the_bool facts (type.ref name t) h = never h
the_bool facts (type.enum key) h = no_bool (fact_of facts (type.enum key)) h
the_bool facts (type.object key ts) h = no_bool (fact_of facts (type.object key ts)) h
the_bool facts (type.distinct key) h = no_bool (fact_of facts (type.distinct key)) h
the_bool facts (type.exception key) h = no_bool (fact_of facts (type.exception key)) h
