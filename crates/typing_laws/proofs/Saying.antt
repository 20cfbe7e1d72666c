-- One thing more is said of a type, and what is said stays sound.
use Rattle.std.proofs.Common.{◌≡◌, ◌≤◌, ℕ, zero, suc, Bool, true, false, [], ◌∷◌, ◌++◌, length, Option, Some, None, refl, sym, ap, subst, ◌∙◌, arith}
use Rattle.std.proofs.Common.{inl, inr}
use Rattle.std.specs.Prelude.{◌⊎◌}
use Rattle.nim_types.specs.Types as type
use Rattle.nim_types.specs.Types.{Ty, Tys, Field, Fact, members, fields, base, below, Declared, Facts, fact_of, base_in, if_same, same}
use Rattle.nim_types.specs.Forms as form
use Rattle.nim_types.specs.Forms.{Form, Forms, IsForm, AreForms, HasForm, types_of}
use Rattle.nim_types.proofs.ForCallers.{without, fewer, smaller, still_among}
use Rattle.nim_program.specs.Kinds.{base_or, below_distinct, plain_kind, kind_of}
use Rattle.typing_laws.specs.Sound.{Sound, AllSound, no_more, and_more, of_int, of_bool, of_char, of_text, of_sequence, of_array, of_tuple, of_enum, of_object}
use Rattle.typing_laws.specs.Sound.{of_distinct}
use Rattle.typing_laws.specs.Sound.{is_said, AreSound}
use Rattle.typing_laws.proofs.Tests.{never, some_one, none_some, the_same}
use Rattle.typing_laws.proofs.SoundKinds.{nothing_below}
use Rattle.typing_laws.proofs.Growing.{Said, sound_grown, all_grown}
use Rattle.typing_laws.proofs.Further.{said_before}

-- ---- forms

mutual
  form_grown : {f g : Facts} {t : Ty} {w : Form} → Said f g → IsForm true f t w → IsForm true g t w
  form_grown said form.of_int = form.of_int
  form_grown said form.of_bool = form.of_bool
  form_grown said form.of_char = form.of_char
  form_grown said form.of_text = form.of_text
  form_grown said (form.of_sequence w h) = form.of_sequence w (form_grown said h)
  form_grown said (form.of_any_sequence w) = form.of_any_sequence w
  form_grown said (form.of_array h) = form.of_array (form_grown said h)
  form_grown said (form.of_tuple h) = form.of_tuple (forms_grown said h)
  form_grown said form.of_parameter = form.of_parameter
  form_grown said form.of_enum = form.of_enum
  form_grown said (form.of_object e h) = form.of_object (said _ _ e) (forms_grown said h)
  form_grown said (form.of_distinct e h) = form.of_distinct (said _ _ e) (form_grown said h)
  form_grown said form.of_ref = form.of_ref
  form_grown said form.of_exception = form.of_exception

  forms_grown : {f g : Facts} {ts : Tys} {ws : Forms} → Said f g → AreForms true f ts ws → AreForms true g ts ws
  forms_grown said form.none_of = form.none_of
  forms_grown said (form.more_of h more) = form.more_of (form_grown said h) (forms_grown said more)

-- ---- distinct types are looked through to their ends

some_base : {t u : Ty} → Some (base t) ≡ Some (base u) → t ≡ u
some_base e = cc

module _ (facts : Facts) (said : (ty : Ty) (fact : Fact) → fact_of facts ty ≡ Some fact → is_said ty fact ≡ true) where
  -- nothing has a base but a distinct type
  no_base : (ty : Ty) → ((t : Ty) → is_said ty (base t) ≡ false) → base_in (fact_of facts ty) ≡ None
  no_base ty other = by_fact (fact_of facts ty) refl
    where
      by_fact : (o : Option Fact) → fact_of facts ty ≡ o → base_in o ≡ None
      by_fact None e = refl
      by_fact (Some (members names)) e = refl
      by_fact (Some (fields all resource)) e = refl
      by_fact (Some (base t)) e = never (sym (other t) ∙ said ty (base t) e)
      by_fact (Some (below parent)) e = refl

  still : (n : ℕ) (ty : Ty) → ((t : Ty) → is_said ty (base t) ≡ false) → below_distinct n facts ty ≡ below_distinct (suc n) facts ty
  still n ty other =
      let none = no_base ty other in
      nothing_below n facts ty none ∙ sym (nothing_below (suc n) facts ty none)

  -- one step
  through : (n : ℕ) (ty t : Ty) → fact_of facts ty ≡ Some (base t) → below_distinct (suc n) facts ty ≡ below_distinct n facts t
  through n ty t e = ap (λ o. base_or (below_distinct n facts) ty (base_in o)) e

  -- among so many declarations there are no more steps
  steady : (n : ℕ) (among : Facts) {t : Ty} {w : Form} → length among ≤ n → Said among facts → IsForm true among t w
      → below_distinct n facts t ≡ below_distinct (suc n) facts t
  steady n among l m form.of_int = still n type.int (λ t. refl)
  steady n among l m form.of_bool = still n type.bool (λ t. refl)
  steady n among l m form.of_char = still n type.char (λ t. refl)
  steady n among l m form.of_text = still n type.text (λ t. refl)
  steady n among l m (form.of_sequence {t = t} w h) = still n (type.sequence t) (λ t. refl)
  steady n among l m (form.of_any_sequence {t = t} w) = still n (type.sequence t) (λ t. refl)
  steady n among l m (form.of_array {n = k} {t = t} h) = still n (type.array k t) (λ t. refl)
  steady n among l m (form.of_tuple {names = names} {ts = ts} h) = still n (type.tuple names ts) (λ t. refl)
  steady n among l m (form.of_parameter {n = k}) = still n (type.parameter k) (λ t. refl)
  steady n among l m (form.of_enum {key = key}) = still n (type.enum key) (λ t. refl)
  steady n among l m (form.of_object {key = key} {arguments = ts} e h) = still n (type.object key ts) (λ t. refl)
  steady n among l m (form.of_ref {name = name} {t = t}) = still n (type.ref name t) (λ t. refl)
  steady n among l m (form.of_exception {key = key}) = still n (type.exception key) (λ t. refl)
  steady zero among l m (form.of_distinct {key = key} {t = t} e h) =
      let less = fewer (type.distinct key) among (base t) e in absurd (omega (arith, l, less))
  steady (suc n) among l m (form.of_distinct {key = key} {t = t} e h) =
      let ty : Ty = type.distinct key in
      let rest = without ty among in
      let less = fewer ty among (base t) e in
      let whole : IsForm true among ty (form.wrapped _) = form.of_distinct e h in
      let inside = smaller whole h (omega arith) in
      let f = m ty (base t) e in
      through n ty t f
      ∙ steady n rest (omega (arith, l, less)) (λ u fact i. m u fact (still_among ty among u fact i)) inside
      ∙ sym (through (suc n) ty t f)

  looked_through : (n : ℕ) (key : type.Key) (t : Ty) (w : Form) → length facts ≡ n → fact_of facts (type.distinct key) ≡ Some (base t)
      → IsForm true facts (type.distinct key) w → below_distinct n facts (type.distinct key) ≡ below_distinct n facts t
  looked_through zero key t w l f h =
      let less = fewer (type.distinct key) facts (base t) f in absurd (omega (arith, l, less))
  looked_through (suc n) key t w l f (form.of_distinct {t = u} e h) =
      let ty : Ty = type.distinct key in
      let less = fewer ty facts (base u) e in
      let whole : IsForm true facts ty (form.wrapped _) = form.of_distinct e h in
      let inside = smaller whole h (omega arith) in
      let s : u ≡ t = some_base (sym e ∙ f) in
      through n ty t f
      ∙ subst (λ x. below_distinct n facts x ≡ below_distinct (suc n) facts x) s
      (steady n (without ty facts) (omega (arith, l, less)) (λ x fact i. still_among ty facts x fact i) inside)

  -- where each has a form, a distinct type is as its base is
  pub plain_by_forms : ((ty : Ty) → Sound facts ty → (w : Form) × HasForm facts ty w) → (ty t : Ty) → fact_of facts ty ≡ Some (base t)
      → plain_kind facts ty ≡ plain_kind facts t
  plain_by_forms forms (type.distinct key) t e =
      let r = forms (type.distinct key) (of_distinct e) in
      ap (kind_of facts) (looked_through (length facts) key t r.0 refl e r.1)
  plain_by_forms forms ty t e = never (said ty (base t) e)

  -- what is said of it makes a type sound
  pub said_sound : (ty : Ty) (fact : Fact) → fact_of facts ty ≡ Some fact → Sound facts ty
  said_sound ty fact e = by_said ty fact e (said ty fact e)
    where
      by_said : (ty : Ty) (fact : Fact) → fact_of facts ty ≡ Some fact → is_said ty fact ≡ true → Sound facts ty
      by_said (type.enum key) (members (first ∷ rest)) e h = of_enum e
      by_said (type.object key ts) (fields all resource) e h = of_object e
      by_said (type.distinct key) (base t) e h = of_distinct e
      by_said ty fact e h = never h

-- ---- what is said, behind

pub said_or : (f : Facts) (x : Declared) (ty : Ty) (fact : Fact) → fact_of (f ++ x ∷ []) ty ≡ Some fact
    → (fact_of f ty ≡ Some fact) ⊎ ((x.of ≡ ty) × (x.fact ≡ fact))
said_or [] x ty fact e = by_test (same x.of ty) refl e
  where
    by_test : (b : Bool) → same x.of ty ≡ b → if_same b x.fact None ≡ Some fact
        → (fact_of [] ty ≡ Some fact) ⊎ ((x.of ≡ ty) × (x.fact ≡ fact))
    by_test true i e = inr (the_same {s = x.of} {t = ty} i, some_one e)
    by_test false i e = none_some e
said_or (d ∷ f) x ty fact e = by_test (same d.of ty) e (said_or f x ty fact)
  where
    by_test : (b : Bool) → if_same b d.fact (fact_of (f ++ x ∷ []) ty) ≡ Some fact
        → (fact_of (f ++ x ∷ []) ty ≡ Some fact → (fact_of f ty ≡ Some fact) ⊎ ((x.of ≡ ty) × (x.fact ≡ fact)))
        → (if_same b d.fact (fact_of f ty) ≡ Some fact) ⊎ ((x.of ≡ ty) × (x.fact ≡ fact))
    by_test true e rest = inl e
    by_test false e rest = rest e

-- what it is made of is sound
abbrev pub MadeOf : Facts → Fact → Type 0
MadeOf f (members names) = Unit {0}
MadeOf f (fields all resource) = AllSound f (types_of all)
MadeOf f (base t) = Sound f t
MadeOf f (below parent) = Unit {0}

module _ (f : Facts) (x : Declared) (sound : AreSound f) (is : is_said x.of x.fact ≡ true) (made : MadeOf f x.fact) where
  abbrev g : Facts
  g = f ++ x ∷ []

  more : Said f g
  more = said_before f (x ∷ [])

  more_said : (ty : Ty) (fact : Fact) → fact_of g ty ≡ Some fact → is_said ty fact ≡ true
  more_said ty fact e = by_which (said_or f x ty fact e)
    where
      by_which : (fact_of f ty ≡ Some fact) ⊎ ((x.of ≡ ty) × (x.fact ≡ fact)) → is_said ty fact ≡ true
      by_which (inl h) = sound.said ty fact h
      by_which (inr h) = subst (λ t. is_said t fact ≡ true) h.0 (subst (λ c. is_said x.of c ≡ true) h.1 is)

  more_made : (ty : Ty) (fact : Fact) → fact_of g ty ≡ Some fact → (fact_of f ty ≡ Some fact → MadeOf f fact) → MadeOf f fact
  more_made ty fact e before = by_which (said_or f x ty fact e)
    where
      by_which : (fact_of f ty ≡ Some fact) ⊎ ((x.of ≡ ty) × (x.fact ≡ fact)) → MadeOf f fact
      by_which (inl h) = before h
      by_which (inr h) = subst (MadeOf f) h.1 made

  -- forms of what was sound before
  forms_before : {ts : Tys} → AllSound f ts → (ws : Forms) × AreForms true g ts ws
  forms_before no_more = (form.no_forms, form.none_of)
  forms_before (and_more {t = t} h rest) =
      let r = sound.forms t h in
      let q = forms_before rest in
      (form.forms r.0 q.0, form.more_of (form_grown more r.1) q.1)

  mutual
    more_formed : {ty : Ty} → Sound g ty → (w : Form) × HasForm g ty w
    more_formed of_int = (form.plain, form.of_int)
    more_formed of_bool = (form.plain, form.of_bool)
    more_formed of_char = (form.plain, form.of_char)
    more_formed of_text = (form.block, form.of_text)
    more_formed (of_sequence h) = let r = more_formed h in (form.elements r.0, form.of_sequence refl r.1)
    more_formed (of_array {n = n} l h) = let r = more_formed h in (form.row n r.0, form.of_array r.1)
    more_formed (of_tuple h) = let r = all_formed h in (form.parts r.0, form.of_tuple r.1)
    more_formed (of_enum e) = (form.plain, form.of_enum)
    more_formed (of_object {key = key} {ts = ts} {all = all} {resource = own} e) =
        let r =
        forms_before (more_made (type.object key ts) (fields all own) e
        (λ h. sound.parts (type.object key ts) all own h)) in
        (form.object_form own r.0, form.of_object e r.1)
    more_formed (of_distinct {key = key} {t = t} e) =
        let r = sound.forms t (more_made (type.distinct key) (base t) e (λ h. sound.bases (type.distinct key) t h)) in
        (form.wrapped r.0, form.of_distinct e (form_grown more r.1))

    all_formed : {ts : Tys} → AllSound g ts → (ws : Forms) × AreForms true g ts ws
    all_formed no_more = (form.no_forms, form.none_of)
    all_formed (and_more h rest) =
        let r = more_formed h in
        let q = all_formed rest in
        (form.forms r.0 q.0, form.more_of r.1 q.1)

  pub one_more_sound : AreSound g
  one_more_sound =
      record {
        said = more_said;
        parts = λ ty all own e. all_grown more (more_made ty (fields all own) e (λ h. sound.parts ty all own h));
        bases = λ ty t e. sound_grown more (more_made ty (base t) e (λ h. sound.bases ty t h));
        plain = plain_by_forms g more_said (λ ty s. more_formed s);
        forms = λ ty s. more_formed s;
      }
