-- A type has one form at most, and the function gives it.
use Rattle.std.proofs.Common.{◌≡◌, ℕ, zero, suc, ◌+◌, ◌<◌, ◌≤◌, List, [], ◌∷◌, length, refl, sym, ap, ap₂, ◌∙◌, Some, None, subst, arith, ⊎_elim}
use Rattle.std.specs.Prelude.{◌*◌, Bool, true, false, ◌||◌}
use Rattle.std.proofs.lemmas.Option.{none-some}
use Rattle.std.proofs.lemmas.Bool.{both_ways, cases_Bool}
use Rattle.nim_types.specs.Types.{Ty, array, object, distinct, Tys, no_types, types}
use Rattle.nim_types.specs.Types.{Key, Field, Fact, fields, base, Declared, Facts, fact_of, if_same, same}
use Rattle.nim_types.specs.Forms.{Form, plain, reference, block, elements, row, parts, resource, wrapped, Forms, no_forms, forms, size, size_all, hooked}
use Rattle.nim_types.specs.Forms.{hooked_any, or_word, of_some}
use Rattle.nim_types.specs.Forms.{IsForm, of_int, of_bool, of_char, of_text, of_sequence, of_any_sequence, of_array, of_tuple, of_parameter, of_enum, of_object}
use Rattle.nim_types.specs.Forms.{of_distinct, of_ref}
use Rattle.nim_types.specs.Forms.{of_exception, AreForms, none_of, more_of, object_form, types_of, form_in, forms_in, form_by, form_within, form_of}
use Rattle.nim_types.proofs.Equality.{same_sound, same_refl}

-- ---- one form at most

same_fields : (a b : List Field) (x y : Bool) → Some (fields a x) ≡ Some (fields b y) → (a ≡ b) × (x ≡ y)
same_fields a b x y h = (cc, cc)

mutual
  pub one_form : {w : Bool} {facts : Facts} {t : Ty} {f g : Form} → IsForm w facts t f → IsForm w facts t g → f ≡ g
  one_form of_int of_int = refl
  one_form of_bool of_bool = refl
  one_form of_char of_char = refl
  one_form of_text of_text = refl
  one_form (of_sequence d a) (of_sequence e b) = ap elements (one_form a b)
  one_form {w} (of_sequence d a) (of_any_sequence e) = absurd (both_ways w e d)
  one_form {w} (of_any_sequence d) (of_sequence e b) = absurd (both_ways w d e)
  one_form (of_any_sequence d) (of_any_sequence e) = refl
  one_form (of_array {n} a) (of_array b) = ap (row n) (one_form a b)
  one_form (of_tuple a) (of_tuple b) = ap parts (one_forms a b)
  one_form of_parameter of_parameter = refl
  one_form of_enum of_enum = refl
  one_form {w} {facts} (of_object {all = xs} {own_hooks = x} {fs = fs} d a) (of_object {all = ys} {own_hooks = y} {fs = gs} e b) =
      let s = same_fields xs ys x y (sym d ∙ e) in
      ap (λ z. object_form z fs) s.1 ∙ ap (object_form y) (one_forms a (subst (λ (z : List Field). AreForms w facts (types_of z) gs) (sym s.0) b))
  one_form {w} {facts} (of_distinct {t = t} {f = f} d a) (of_distinct {t = u} {f = g} e b) =
      let s : t ≡ u = cc in ap wrapped (one_form a (subst (λ (z : Ty). IsForm w facts z g) (sym s) b))
  one_form of_ref of_ref = refl
  one_form of_exception of_exception = refl

  pub one_forms : {w : Bool} {facts : Facts} {ts : Tys} {xs ys : Forms} → AreForms w facts ts xs → AreForms w facts ts ys → xs ≡ ys
  one_forms none_of none_of = refl
  one_forms (more_of a s) (more_of b t) = ap₂ (λ x y. forms x y) (one_form a b) (one_forms s t)

-- ---- what is known stays known

pub Among : Facts → Facts → Type 0
Among old new = (ty : Ty) (fact : Fact) → fact_of old ty ≡ Some fact → fact_of new ty ≡ Some fact

mutual
  unfolding Among

  pub by_more : {w : Bool} {old new : Facts} {t : Ty} {f : Form} → Among old new → IsForm w old t f → IsForm w new t f
  by_more m of_int = of_int
  by_more m of_bool = of_bool
  by_more m of_char = of_char
  by_more m of_text = of_text
  by_more m (of_sequence d a) = of_sequence d (by_more m a)
  by_more m (of_any_sequence d) = of_any_sequence d
  by_more m (of_array a) = of_array (by_more m a)
  by_more m (of_tuple a) = of_tuple (all_by_more m a)
  by_more m of_parameter = of_parameter
  by_more m of_enum = of_enum
  by_more m (of_object {key} {arguments} {all} {own_hooks} d a) = of_object (m (object key arguments) (fields all own_hooks) d) (all_by_more m a)
  by_more m (of_distinct {key} {t} d a) = of_distinct (m (distinct key) (base t) d) (by_more m a)
  by_more m of_ref = of_ref
  by_more m of_exception = of_exception

  pub all_by_more : {w : Bool} {old new : Facts} {ts : Tys} {fs : Forms} → Among old new → AreForms w old ts fs → AreForms w new ts fs
  all_by_more m none_of = none_of
  all_by_more m (more_of a s) = more_of (by_more m a) (all_by_more m s)

-- ---- sequences needn't be looked into

-- a form in which they aren't, of the same size and as hooked
pub record Alike (f g : Form) : Type 0 where
  pub size : size g ≡ size f
  pub hooked : hooked g ≡ hooked f

pub record AlikeAll (fs gs : Forms) : Type 0 where
  pub size : size_all gs ≡ size_all fs
  pub hooked : hooked_any gs ≡ hooked_any fs

alike_object : (own_hooks : Bool) (fs gs : Forms) → AlikeAll fs gs → Alike (object_form own_hooks fs) (object_form own_hooks gs)
alike_object true fs gs a = record { size = ap or_word a.size; hooked = refl }
alike_object false fs gs a = record { size = ap or_word a.size; hooked = a.hooked }

mutual
  pub stored : {facts : Facts} {t : Ty} {f : Form} → IsForm true facts t f → (g : Form) × IsForm false facts t g × Alike f g
  stored of_int = (plain, of_int, record { size = refl; hooked = refl })
  stored of_bool = (plain, of_bool, record { size = refl; hooked = refl })
  stored of_char = (plain, of_char, record { size = refl; hooked = refl })
  stored of_text = (block, of_text, record { size = refl; hooked = refl })
  stored (of_sequence d a) = (elements plain, of_any_sequence refl, record { size = refl; hooked = refl })
  stored (of_any_sequence d) = absurd (both_ways true d refl)
  stored (of_array {n} a) = let r =
      stored a in (row n r.0, of_array r.1, record { size = ap (λ z. or_word (n * z)) r.2.size; hooked = ap (of_some n) r.2.hooked })
  stored (of_tuple a) = let r = all_stored a in (parts r.0, of_tuple r.1, record { size = ap or_word r.2.size; hooked = r.2.hooked })
  stored of_parameter = (plain, of_parameter, record { size = refl; hooked = refl })
  stored of_enum = (plain, of_enum, record { size = refl; hooked = refl })
  stored (of_object {own_hooks} {fs} d a) = let r = all_stored a in (object_form own_hooks r.0, of_object d r.1, alike_object own_hooks fs r.0 r.2)
  stored (of_distinct d a) = let r = stored a in (wrapped r.0, of_distinct d r.1, record { size = r.2.size; hooked = r.2.hooked })
  stored of_ref = (reference, of_ref, record { size = refl; hooked = refl })
  stored of_exception = (plain, of_exception, record { size = refl; hooked = refl })

  pub all_stored : {facts : Facts} {ts : Tys} {fs : Forms} → AreForms true facts ts fs → (gs : Forms) × AreForms false facts ts gs × AlikeAll fs gs
  all_stored none_of = (no_forms, none_of, record { size = refl; hooked = refl })
  all_stored (more_of a s) =
      let r = stored a in
      let t = all_stored s in
      (forms r.0 t.0, more_of r.1 t.1, record { size = ap₂ (λ x y. x + y) r.2.size t.2.size; hooked = ap₂ (λ x y. x || y) r.2.hooked t.2.hooked })

-- ---- the function gives the form: no declared type occurs inside itself

abbrev mutual
  pub weight : Form → ℕ
  weight (elements f) = suc (weight f)
  weight (row n f) = suc (weight f)
  weight (parts fs) = suc (weights fs)
  weight (resource fs) = suc (weights fs)
  weight (wrapped f) = suc (weight f)
  weight _ = 1

  pub weights : Forms → ℕ
  weights no_forms = 0
  weights (forms f fs) = weight f + weights fs

pub object_weight : (own_hooks : Bool) (fs : Forms) → weight (object_form own_hooks fs) ≡ suc (weights fs)
object_weight true fs = refl
object_weight false fs = refl

abbrev unless_same : Bool → Declared → Facts → Facts
unless_same true d rest = rest
unless_same false d rest = d ∷ rest

abbrev pub without : Ty → Facts → Facts
without t [] = []
without t (d ∷ ds) = unless_same (same d.of t) d (without t ds)

-- the first declaration is of t, or isn't
unless_true : (b : Bool) (d : Declared) (rest : Facts) → b ≡ true → unless_same b d rest ≡ rest
unless_true b d rest h = ap (λ z. unless_same z d rest) h

unless_false : (b : Bool) (d : Declared) (rest : Facts) → b ≡ false → unless_same b d rest ≡ d ∷ rest
unless_false b d rest h = ap (λ z. unless_same z d rest) h

not_same : (a b : Ty) → (a ≡ b → ⊥) → same a b ≡ false
not_same a b h = ⊎_elim (λ t. absurd (h (same_sound a b t))) (λ f. f) (cases_Bool (same a b))

pub others_stay : (t u : Ty) (facts : Facts) → (u ≡ t → ⊥) → fact_of (without t facts) u ≡ fact_of facts u
others_stay t u [] n = refl
others_stay t u (d ∷ ds) n = ⊎_elim
    (λ s. let e : d.of ≡ t = same_sound d.of t s in
    let f : same d.of u ≡ false = not_same d.of u (λ h. n (sym h ∙ e)) in
    ap (λ z. fact_of z u) (unless_true (same d.of t) d (without t ds) s) ∙ others_stay t u ds n ∙ sym (ap (λ z. if_same z d.fact (fact_of ds u)) f))
    (λ s. ap (λ z. fact_of z u) (unless_false (same d.of t) d (without t ds) s) ∙ ap (if_same (same d.of u) d.fact) (others_stay t u ds n))
    (cases_Bool (same d.of t))

gone : (t : Ty) (facts : Facts) → fact_of (without t facts) t ≡ None
gone t [] = refl
gone t (d ∷ ds) = ⊎_elim
    (λ s. ap (λ z. fact_of z t) (unless_true (same d.of t) d (without t ds) s) ∙ gone t ds)
    (λ s. ap (λ z. fact_of z t) (unless_false (same d.of t) d (without t ds) s) ∙ ap (λ z. if_same z d.fact (fact_of (without t ds) t)) s ∙ gone t ds)
    (cases_Bool (same d.of t))

pub by_all_said : {w : Bool} {t : Ty} {f : Form} (old new : Facts) → ((ty : Ty) (fact : Fact) → fact_of old ty ≡ Some fact → fact_of new ty ≡ Some fact)
    → IsForm w old t f → IsForm w new t f
unfolding Among
by_all_said old new m h = by_more m h

pub still_among : (t : Ty) (facts : Facts) (u : Ty) (fact : Fact) → fact_of (without t facts) u ≡ Some fact → fact_of facts u ≡ Some fact
still_among t facts u fact h = ⊎_elim
    (λ s. absurd (none-some fact (sym (gone t facts) ∙ ap (fact_of (without t facts)) (sym (same_sound u t s)) ∙ h)))
    (λ s. sym (others_stay t u facts (λ e. both_ways (same u t) s (ap (λ z. same z t) e ∙ same_refl t))) ∙ h)
    (cases_Bool (same u t))

among_trans : (a b c : Facts) → Among a b → Among b c → Among a c
unfolding Among
among_trans a b c p q ty fact h = q ty fact (p ty fact h)

no_more : (t : Ty) (facts : Facts) → length (without t facts) ≤ length facts
no_more t [] = omega arith
no_more t (d ∷ ds) = ⊎_elim
    (λ s. omega (arith, ap length (unless_true (same d.of t) d (without t ds) s), no_more t ds))
    (λ s. omega (arith, ap length (unless_false (same d.of t) d (without t ds) s), no_more t ds))
    (cases_Bool (same d.of t))

pub fewer : (t : Ty) (facts : Facts) (fact : Fact) → fact_of facts t ≡ Some fact → length (without t facts) < length facts
fewer t [] fact h = absurd (none-some fact h)
fewer t (d ∷ ds) fact h = ⊎_elim
    (λ s. omega (arith, ap length (unless_true (same d.of t) d (without t ds) s), no_more t ds))
    (λ s. let r = fewer t ds fact (sym (ap (λ z. if_same z d.fact (fact_of ds t)) s) ∙ h) in
    omega (arith, ap length (unless_false (same d.of t) d (without t ds) s), r))
    (cases_Bool (same d.of t))

-- what weighs less than the form of t has no t inside
lighter : {w : Bool} {facts : Facts} {t u : Ty} {f g : Form} → IsForm w facts t g → IsForm w facts u f → weight f < weight g → u ≡ t → ⊥
lighter {w} {facts} {f = f} p q h e = let same_form = one_form (subst (λ (z : Ty). IsForm w facts z f) e q) p in omega (arith, h, ap weight same_form)

mutual
  pub smaller : {w : Bool} {facts : Facts} {t u : Ty} {f g : Form} → IsForm w facts t g → IsForm w facts u f → weight f < weight g →
      IsForm w (without t facts) u f
  smaller p of_int h = of_int
  smaller p of_bool h = of_bool
  smaller p of_char h = of_char
  smaller p of_text h = of_text
  smaller p (of_sequence d a) h = of_sequence d (smaller p a (omega (arith, h)))
  smaller p (of_any_sequence d) h = of_any_sequence d
  smaller p (of_array a) h = of_array (smaller p a (omega (arith, h)))
  smaller p (of_tuple a) h = of_tuple (all_smaller p a (omega (arith, h)))
  smaller p of_parameter h = of_parameter
  smaller p of_enum h = of_enum
  smaller {facts = facts} {t = t} p (of_object {key} {arguments} {all} {own_hooks} {fs} d a) h =
      of_object (others_stay t (object key arguments) facts (lighter p (of_object d a) h) ∙ d) (all_smaller p a (omega (arith, h, object_weight own_hooks fs)))
  smaller {facts = facts} {t = t} p (of_distinct {key} d a) h =
      of_distinct (others_stay t (distinct key) facts (lighter p (of_distinct d a) h) ∙ d) (smaller p a (omega (arith, h)))
  smaller p of_ref h = of_ref
  smaller p of_exception h = of_exception

  pub all_smaller : {w : Bool} {facts : Facts} {t : Ty} {g : Form} {us : Tys} {fs : Forms} → IsForm w facts t g → AreForms w facts us fs →
      weights fs < weight g →
      AreForms w (without t facts) us fs
  all_smaller p none_of h = none_of
  all_smaller p (more_of a s) h = more_of (smaller p a (omega (arith, h))) (all_smaller p s (omega (arith, h)))

-- what is known of declared types is known of all
Objects : Facts → (Ty → Form) → Type 0
Objects facts known = (key : Key) (arguments : Tys) (f : Form) → IsForm true facts (object key arguments) f → known (object key arguments) ≡ f

Distincts : Facts → (Ty → Form) → Type 0
Distincts facts known = (key : Key) (f : Form) → IsForm true facts (distinct key) f → known (distinct key) ≡ f

mutual
  unfolding Objects Distincts

  inside : {facts : Facts} {t : Ty} {f : Form} (known : Ty → Form) → Objects facts known → Distincts facts known → IsForm true facts t f → form_in known t ≡ f
  inside known o d of_int = refl
  inside known o d of_bool = refl
  inside known o d of_char = refl
  inside known o d of_text = refl
  inside known o d (of_sequence e a) = ap elements (inside known o d a)
  inside known o d (of_any_sequence e) = absurd (both_ways true e refl)
  inside known o d (of_array {n} a) = ap (row n) (inside known o d a)
  inside known o d (of_tuple a) = ap parts (all_inside known o d a)
  inside known o d of_parameter = refl
  inside known o d of_enum = refl
  inside known o d (of_object {key} {arguments} {own_hooks = own_hooks} {fs = fs} e a) = o key arguments (object_form own_hooks fs) (of_object e a)
  inside known o d (of_distinct {key} {f = f} e a) = d key (wrapped f) (of_distinct e a)
  inside known o d of_ref = refl
  inside known o d of_exception = refl

  all_inside : {facts : Facts} {ts : Tys} {fs : Forms} (known : Ty → Form) → Objects facts known → Distincts facts known → AreForms true facts ts fs →
      forms_in known ts ≡ fs
  all_inside known o d none_of = refl
  all_inside known o d (more_of a s) = ap₂ (λ x y. forms x y) (inside known o d a) (all_inside known o d s)

mutual
  unfolding Objects Distincts Among

  objects : (n : ℕ) (all facts : Facts) → length facts ≤ n → Among facts all → Objects facts (form_within n all)
  objects zero all [] le m key arguments f (of_object {all = xs} {own_hooks = x} e a) = absurd (none-some (fields xs x) e)
  objects zero all (d ∷ ds) le m key arguments f h = absurd (omega (arith, le))
  objects (suc n) all facts le m key arguments f (of_object {all = xs} {own_hooks = x} {fs = fs} e a) =
      let t : Ty = object key arguments in
      let whole : IsForm true facts t (object_form x fs) = of_object e a in
      let rest = without t facts in
      let few : length rest ≤ n = omega (arith, le, fewer t facts (fields xs x) e) in
      let still = among_trans rest facts all (still_among t facts) m in
      let smaller_parts = all_smaller whole a (omega (arith, object_weight x fs)) in
      ap (form_by (form_within n all)) (m t (fields xs x) e)
      ∙ ap (object_form x) (all_inside (form_within n all) (objects n all rest few still) (distincts n all rest few still) smaller_parts)

  distincts : (n : ℕ) (all facts : Facts) → length facts ≤ n → Among facts all → Distincts facts (form_within n all)
  distincts zero all [] le m key f (of_distinct {t = u} e a) = absurd (none-some (base u) e)
  distincts zero all (d ∷ ds) le m key f h = absurd (omega (arith, le))
  distincts (suc n) all facts le m key f (of_distinct {t = u} {f = g} e a) =
      let t : Ty = distinct key in
      let whole : IsForm true facts t (wrapped g) = of_distinct e a in
      let rest = without t facts in
      let few : length rest ≤ n = omega (arith, le, fewer t facts (base u) e) in
      let still = among_trans rest facts all (still_among t facts) m in
      let smaller_part = smaller whole a (omega arith) in
      ap (form_by (form_within n all)) (m t (base u) e)
      ∙ ap wrapped (inside (form_within n all) (objects n all rest few still) (distincts n all rest few still) smaller_part)

among_itself : (facts : Facts) → Among facts facts
unfolding Among
among_itself facts ty fact h = h

pub the_form : {facts : Facts} {t : Ty} {f : Form} → IsForm true facts t f → form_of facts t ≡ f
the_form {facts} h =
    let n = length facts in
    inside (form_within n facts) (objects n facts facts (omega arith) (among_itself facts)) (distincts n facts facts (omega arith) (among_itself facts)) h

-- ---- what contains itself by value has no form

inner : {facts : Facts} {t : Ty} {fs : Forms} → AreForms true facts (types (array 2 t) no_types) fs
    → (g : Form) × IsForm true facts t g × (fs ≡ forms (row 2 g) no_forms)
inner (more_of (of_array {f = g} h) none_of) = (g, h, refl)

-- an object whose one field is an array of it
pub no_form : (facts : Facts) (key : Key) (field : Field) (b : Bool) (f : Form) → field.of ≡ array 2 (object key no_types)
    → fact_of facts (object key no_types) ≡ Some (fields (field ∷ []) b) → IsForm true facts (object key no_types) f → ⊥
no_form facts key field b f is e (of_object {all = xs} {own_hooks = c} {fs = fs} d a) =
    let t : Ty = object key no_types in
    let s = same_fields xs (field ∷ []) c b (sym d ∙ e) in
    let of_field = subst (λ (z : List Field). AreForms true facts (types_of z) fs) s.0 a in
    let r = inner (subst (λ (z : Ty). AreForms true facts (types z no_types) fs) is of_field) in
    let same_form : r.0 ≡ object_form c fs = one_form r.1 (of_object d a) in
    absurd (omega (arith, ap weight same_form, object_weight c fs, ap weights r.2))
