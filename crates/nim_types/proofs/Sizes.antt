-- What is kept of a type's storage is that of its form.
use Rattle.std.proofs.Common.{◌≡◌, ℕ, zero, suc, ◌+◌, ◌*◌, ◌<◌, ◌≤◌, List, [], ◌∷◌, length, refl, sym, ap, ◌∙◌, Some, None, subst, arith, ⊎_elim, min, mul_comm}
use Rattle.std.proofs.Common.{mul-suc, zero-add}
use Rattle.std.specs.Prelude.{Bool, true, false, ◌||◌, Option, slice_get, cond}
use Rattle.std.proofs.lemmas.Option.{none-some, same_Some, slice_get_within}
use Rattle.std.proofs.lemmas.Bool.{cases_lt, eq-eqb}
use Rattle.nim_types.specs.declared.types.FieldName.{FieldName}
use Rattle.nim_types.specs.declared.types.TypeDef.{TypeDef}
use Rattle.nim_types.specs.declared.types.TypeDef.TheVariants as D
use Rattle.nim_types.specs.declared.types.TheConstants.{WORD_BYTES, LIST_BYTES}
use Rattle.nim_types.specs.declared.storage.Storage.{Storage}
use Rattle.nim_types.specs.Types.{Ty, Tys, types, Field, fields, base, Facts}
use Rattle.nim_types.specs.Forms.{Form, plain, reference, block, elements, row, parts, resource, wrapped, Forms, no_forms, forms, size, size_all, hooked}
use Rattle.nim_types.specs.Forms.{hooked_any, or_word, of_some}
use Rattle.nim_types.specs.Forms.{IsForm, of_int, of_bool, of_char, of_text, of_sequence, of_any_sequence, of_array, of_tuple, of_parameter, of_enum, of_object}
use Rattle.nim_types.specs.Forms.{of_distinct, of_ref}
use Rattle.nim_types.specs.Forms.{of_exception, AreForms, none_of, more_of, object_form, types_of}
use Rattle.nim_types.specs.Table.{type_at, types_at, types_in, meant, facts_in, and_field, fields_with, fields_fact, AllBelow, IsTable, HasSize, HasHooks}
use Rattle.nim_types.specs.Kept.{at_number, most, stored_as, plus, times, closed, then_storage, sum_in, parts_in, storage_in, Settled}
use Rattle.nim_types.proofs.Forming.{weight, weights, object_weight}
use Rattle.nim_types.proofs.Numbering.{at_entry, entry_within, an_entry, said_at, all_more}

-- ---- numbers that stop at the most

or_word_same : (n : ℕ) → 0 < n → or_word n ≡ n
or_word_same zero h = absurd (omega (arith, h))
or_word_same (suc n) h = refl

or_word_min : (n : ℕ) → or_word (min n most) ≡ min (or_word n) most
or_word_min zero = refl
or_word_min (suc n) = or_word_same (min (suc n) most) (omega arith)

sum_min : (a b x y : ℕ) → a ≡ min x most → b ≡ min y most → min (a + b) most ≡ min (x + y) most
sum_min a b x y p q = omega (arith, p, q)

times_min : (n a x : ℕ) → a ≡ min x most → min (a * n) most ≡ min (n * x) most
times_min zero a x p = omega arith
times_min (suc m) a x p = ⊎_elim
    (λ large. let e : a ≡ most = omega (arith, p, large) in
    let l : a * suc m ≡ a * m + a = mul-suc a m in
    let r : suc m * x ≡ x * m + x = mul_comm (suc m) x ∙ mul-suc x m in
    omega (arith, e, l, r, large))
    (λ small. let e : a ≡ x = omega (arith, p, small) in ap (λ z. min (z * suc m) most) e ∙ ap (λ z. min z most) (mul_comm x (suc m)))
    (cases_lt most x)

row_bytes : (n a x : ℕ) → a ≡ min x most → or_word (min (a * n) most) ≡ min (or_word (n * x)) most
row_bytes n a x p = ap or_word (times_min n a x p) ∙ or_word_min (n * x)

-- ---- storage that is a form's

pub record Holds (s : Storage) (f : Form) : Type 0 where
  pub bytes : s.bytes ≡ min (size f) most
  pub hooked : s.hooked ≡ hooked f

pub record Knows (o : Option Storage) (f : Form) : Type 0 where
  pub storage : Storage
  pub is : o ≡ Some storage
  pub holds : Holds storage f

-- parts behind a sum of others
record Sums (o : Option Storage) (sum : Storage) (fs : Forms) : Type 0 where
  storage : Storage
  is : o ≡ Some storage
  bytes : storage.bytes ≡ min (sum.bytes + size_all fs) most
  hooked : storage.hooked ≡ (sum.hooked || hooked_any fs)

positive : (f : Form) → 1 ≤ weight f
positive plain = omega arith
positive reference = omega arith
positive block = omega arith
positive (elements f) = omega arith
positive (row n f) = omega arith
positive (parts fs) = omega arith
positive (resource fs) = omega arith
positive (wrapped f) = omega arith

or_none : (a : Bool) → (a || false) ≡ a
or_none true = refl
or_none false = refl

or_assoc : (a b c : Bool) → ((a || b) || c) ≡ (a || (b || c))
or_assoc true b c = refl
or_assoc false b c = refl

-- ---- what is said of fields

record Split (f : FieldName) (ty : Ty) (o : Option (List Field)) (xs : List Field) : Type 0 where
  rest : List Field
  is : o ≡ Some rest
  all : xs ≡ record { name = f.name; shown = f.shown; of = ty } ∷ rest

split : (f : FieldName) (ty : Ty) (o : Option (List Field)) (xs : List Field) → and_field f ty o ≡ Some xs → Split f ty o xs
split f ty None xs h = absurd (none-some xs h)
split f ty (Some ys) xs h = record { rest = ys; is = refl; all = sym (same_Some (record { name = f.name; shown = f.shown; of = ty } ∷ ys) xs h) }

fields_types : (us : List Ty) (all : List FieldName) (js : List ℕ) (xs : List Field) → fields_with us all js ≡ Some xs → types_of xs ≡ types_at us js
fields_types us [] [] xs h = ap types_of (sym (same_Some [] xs h))
fields_types us [] (j ∷ js) xs h = absurd (none-some xs h)
fields_types us (f ∷ fs) [] xs h = absurd (none-some xs h)
fields_types us (f ∷ fs) (j ∷ js) xs h =
    let r = split f (type_at us j) (fields_with us fs js) xs h in ap types_of r.all ∙ ap (λ z. types (type_at us j) z) (fields_types us fs js r.rest r.is)

fields_number : (us : List Ty) (all : List FieldName) (js : List ℕ) (xs : List Field) → fields_with us all js ≡ Some xs → length all ≡ length js
fields_number us [] [] xs h = refl
fields_number us [] (j ∷ js) xs h = absurd (none-some xs h)
fields_number us (f ∷ fs) [] xs h = absurd (none-some xs h)
fields_number us (f ∷ fs) (j ∷ js) xs h = let r = split f (type_at us j) (fields_with us fs js) xs h in ap suc (fields_number us fs js r.rest r.is)

same_fact : (o : Option (List Field)) (b c : Bool) (xs : List Field) → fields_fact o b ≡ Some (fields xs c) → (o ≡ Some xs) × (b ≡ c)
same_fact None b c xs h = absurd (none-some (fields xs c) h)
same_fact (Some ys) b c xs h = (cc, cc)

same_base : (a b : Ty) → Some (base a) ≡ Some (base b) → a ≡ b
same_base a b h = cc

-- the size and the hooks of an object or a tuple
closes : (b : Bool) (s : Storage) (fs : Forms) → s.bytes ≡ min (0 + size_all fs) most → s.hooked ≡ (false || hooked_any fs) →
    Holds (closed b s) (object_form b fs)
closes true s fs p q = record { bytes = ap or_word (p ∙ ap (λ z. min z most) (zero-add (size_all fs))) ∙ or_word_min (size_all fs); hooked = refl }
closes false s fs p q = record { bytes = ap or_word (p ∙ ap (λ z. min z most) (zero-add (size_all fs))) ∙ or_word_min (size_all fs); hooked = q }

module _ (w : Bool) (ds : List TypeDef) (known : List (Option Storage)) (t : IsTable ds) (s : Settled ds known) where
  abbrev ts : List Ty
  ts = types_in ds

  abbrev all_facts : Facts
  all_facts = facts_in ds

  -- entries of lighter forms are known
  abbrev Lighter : ℕ → Type 0
  Lighter n = (i : ℕ) (d : TypeDef) (f : Form) → slice_get ds i ≡ Some d → IsForm w all_facts (meant ts d) f → weight f ≤ n → Knows (storage_in known d) f

  by_number : (n i : ℕ) (f : Form) → Lighter n → i < length ds → IsForm w all_facts (type_at ts i) f → weight f ≤ n → Knows (at_number known i) f
  by_number n i f ih lt h le =
      let e = an_entry ds i lt in
      let r = ih i e.0 f e.1 (subst (λ (z : Ty). IsForm w all_facts z f) (at_entry ds i e.0 t e.1) h) le in
      record { storage = r.storage; is = s.right i e.0 e.1 ∙ r.is; holds = r.holds }

  by_all : (n : ℕ) (is : List ℕ) (fs : Forms) (sum : Storage) → Lighter n → AllBelow (length ds) is → AreForms w all_facts (types_at ts is) fs → weights fs ≤ n
      → sum.bytes ≤ most → Sums (sum_in known sum is) sum fs
  by_all n [] no_forms sum ih b none_of le m = record { storage = sum; is = refl; bytes = omega (arith, m); hooked = sym (or_none sum.hooked) }
  by_all n [] (forms f fs) sum ih b h le m = elim h [ ]
  by_all n (i ∷ is) no_forms sum ih b h le m = elim h [ ]
  by_all n (i ∷ is) (forms f fs) sum ih b (more_of h hs) le m =
      let r = by_number n i f ih b.0 h (omega (arith, le)) in
      let x = r.storage in
      let more = plus sum x in
      let q = by_all n is fs more ih b.1 hs (omega (arith, le)) (omega arith) in
      record {
        storage = q.storage;
        is = ap (λ z. then_storage z (λ y. sum_in known (plus sum y) is)) r.is ∙ q.is;
        bytes = omega (arith, q.bytes, r.holds.bytes);
        hooked = q.hooked ∙ or_assoc sum.hooked x.hooked (hooked_any fs) ∙ ap (λ z. sum.hooked || (z || hooked_any fs)) r.holds.hooked;
      }

  parts_by : (n : ℕ) (b : Bool) (is : List ℕ) (fs : Forms) → Lighter n → AllBelow (length ds) is → AreForms w all_facts (types_at ts is) fs → weights fs ≤ n
      → Knows (parts_in known b is) (object_form b fs)
  parts_by n b is fs ih below h le =
      let r = by_all n is fs (stored_as 0 false) ih below h le (omega arith) in
      record {
        storage = closed b r.storage;
        is = ap (λ z. then_storage z (λ x. Some (closed b x))) r.is;
        holds = closes b r.storage fs r.bytes r.hooked;
      }

  entry : (n i : ℕ) (d : TypeDef) (f : Form) → Lighter n → slice_get ds i ≡ Some d → IsForm w all_facts (meant ts d) f → weight f ≤ suc n →
      Knows (storage_in known d) f
  entry n i D.Int f ih at of_int le = record { storage = stored_as WORD_BYTES false; is = refl; holds = record { bytes = refl; hooked = refl } }
  entry n i D.Bool f ih at of_bool le = record { storage = stored_as WORD_BYTES false; is = refl; holds = record { bytes = refl; hooked = refl } }
  entry n i D.Char f ih at of_char le = record { storage = stored_as WORD_BYTES false; is = refl; holds = record { bytes = refl; hooked = refl } }
  entry n i D.Text f ih at of_text le = record { storage = stored_as LIST_BYTES true; is = refl; holds = record { bytes = refl; hooked = refl } }
  entry n i (D.Seq j) f ih at (of_sequence e a) le = record { storage = stored_as LIST_BYTES true; is = refl; holds = record { bytes = refl; hooked = refl } }
  entry n i (D.Seq j) f ih at (of_any_sequence e) le = record { storage = stored_as LIST_BYTES true; is = refl; holds = record { bytes = refl; hooked = refl } }
  entry n i (D.Param k) f ih at of_parameter le = record { storage = stored_as WORD_BYTES false; is = refl; holds = record { bytes = refl; hooked = refl } }
  entry n i (D.Enum name p all) f ih at of_enum le = record { storage = stored_as WORD_BYTES false; is = refl; holds = record { bytes = refl; hooked = refl } }
  entry n i (D.Array k j) f ih at (of_array {f = g} a) le =
      let lt : j < length ds = omega (arith, entry_within ds i (D.Array k j) t at, slice_get_within ds i (D.Array k j) at) in
      let r = by_number n j g ih lt a (omega (arith, le)) in
      record {
        storage = times k r.storage;
        is = ap (λ z. then_storage z (λ x. Some (times k x))) r.is;
        holds = record { bytes = row_bytes k r.storage.bytes (size g) r.holds.bytes; hooked = ap (of_some k) r.holds.hooked };
      }
  entry n i (D.Tuple names is) f ih at (of_tuple {fs = fs} a) le =
      let below = all_more i (length ds) is (omega (arith, slice_get_within ds i (D.Tuple names is) at)) (entry_within ds i (D.Tuple names is) t at) in
      parts_by n false is fs ih below a (omega (arith, le))
  entry n i (D.Object name p is all b js) f ih at (of_object {all = xs} {own_hooks = c} {fs = fs} e a) le =
      let d : TypeDef = D.Object name p is all b js in
      let says = same_fact (fields_with ts all js) b c xs (sym (said_at ds i d t at) ∙ e) in
      let forms_at = subst (λ (z : Tys). AreForms w all_facts z fs) (fields_types ts all js xs says.0) a in
      let r = parts_by n b js fs ih (t.parts i d at) forms_at (omega (arith, le, object_weight c fs)) in
      let whole : storage_in known d ≡ parts_in known b js =
      ap (λ z. cond z (parts_in known b js) None) (eq-eqb (length all) (length js) (fields_number ts all js xs says.0)) in
      record { storage = r.storage; is = whole ∙ r.is; holds = subst (λ (z : Bool). Holds r.storage (object_form z fs)) says.1 r.holds }
  entry n i (D.Distinct name p j) f ih at (of_distinct {t = u} {f = g} e a) le =
      let d : TypeDef = D.Distinct name p j in
      let is : u ≡ type_at ts j = sym (same_base (type_at ts j) u (sym (said_at ds i d t at) ∙ e)) in
      let lt : j < length ds = omega (arith, entry_within ds i d t at, slice_get_within ds i d at) in
      let r = by_number n j g ih lt (subst (λ (z : Ty). IsForm w all_facts z g) is a) (omega (arith, le)) in
      record { storage = r.storage; is = r.is; holds = record { bytes = r.holds.bytes; hooked = r.holds.hooked } }
  entry n i (D.Ref name j) f ih at of_ref le = record { storage = stored_as WORD_BYTES true; is = refl; holds = record { bytes = refl; hooked = refl } }
  entry n i (D.Exception name p parent) f ih at of_exception le =
      record { storage = stored_as WORD_BYTES false; is = refl; holds = record { bytes = refl; hooked = refl } }

  sized : (n : ℕ) → Lighter n
  sized zero i d f at h le = absurd (omega (arith, positive f, le))
  sized (suc n) i d f at h le = entry n i d f (sized n) at h le

  -- a type that can be stored is known, and rightly
  pub stored_known : (i : ℕ) (f : Form) → i < length ds → IsForm w all_facts (type_at ts i) f → Knows (at_number known i) f
  stored_known i f lt h = by_number (weight f) i f (sized (weight f)) lt h (omega arith)

-- ---- what the calls say

sizes : (w : Bool) (ds : List TypeDef) (known : List (Option Storage)) (i : ℕ) (s : Storage) (f : Form) → IsTable ds → Settled ds known → i < length ds
    → at_number known i ≡ Some s → IsForm w (facts_in ds) (type_at (types_in ds) i) f → Holds s f
sizes w ds known i s f t e lt q h =
    let r = stored_known w ds known t e i f lt h in subst (λ (x : Storage). Holds x f) (same_Some r.storage s (sym r.is ∙ q)) r.holds

pub has_size : (ds old : List TypeDef) (known : List (Option Storage)) (i : ℕ) (s : Storage) → ds ≡ old → IsTable ds → Settled ds known → i < length old
    → at_number known i ≡ Some s → HasSize old i s.bytes
has_size ds old known i s e t k lt q = subst (λ (z : List TypeDef). HasSize z i s.bytes) e
    (λ w f h. (sizes w ds known i s f t k (omega (arith, ap length e, lt)) q h).bytes)

pub has_hooks : (ds old : List TypeDef) (known : List (Option Storage)) (i : ℕ) (s : Storage) → ds ≡ old → IsTable ds → Settled ds known → i < length old
    → at_number known i ≡ Some s → HasHooks old i s.hooked
has_hooks ds old known i s e t k lt q = subst (λ (z : List TypeDef). HasHooks z i s.hooked) e
    (λ w f h. (sizes w ds known i s f t k (omega (arith, ap length e, lt)) q h).hooked)

no_form : (w : Bool) (ds : List TypeDef) (known : List (Option Storage)) (i : ℕ) (f : Form) → IsTable ds → Settled ds known → i < length ds
    → at_number known i ≡ None → IsForm w (facts_in ds) (type_at (types_in ds) i) f → ⊥
no_form w ds known i f t k lt q h = let r = stored_known w ds known t k i f lt h in none-some r.storage (sym q ∙ r.is)

pub no_size : (ds old : List TypeDef) (known : List (Option Storage)) (i n : ℕ) → ds ≡ old → IsTable ds → Settled ds known → i < length old
    → at_number known i ≡ None → HasSize old i n
no_size ds old known i n e t k lt q = subst (λ (z : List TypeDef). HasSize z i n) e
    (λ w f h. absurd (no_form w ds known i f t k (omega (arith, ap length e, lt)) q h))

pub no_hooks : (ds old : List TypeDef) (known : List (Option Storage)) (i : ℕ) (b : Bool) → ds ≡ old → IsTable ds → Settled ds known → i < length old
    → at_number known i ≡ None → HasHooks old i b
no_hooks ds old known i b e t k lt q = subst (λ (z : List TypeDef). HasHooks z i b) e
    (λ w f h. absurd (no_form w ds known i f t k (omega (arith, ap length e, lt)) q h))
