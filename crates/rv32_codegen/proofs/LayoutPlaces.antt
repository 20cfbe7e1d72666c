-- The tables by which code is laid out.
use Rattle.std.proofs.Common.{◌≡◌, ℕ, zero, suc, ◌+◌, ◌-◌, ◌%◌, ◌<◌, List, [], ◌∷◌, ◌++◌, length, take, drop}
use Rattle.std.proofs.Common.{Bool, true, false, Option, Some, None}
use Rattle.std.proofs.Common.{refl, sym, ap, subst, ◌∙◌, arith, length-append, inl, inr}
use Rattle.std.specs.Prelude.{not, ◌==◌, ◌&&◌, if◌then◌else◌}
use Rattle.std.specs.List.{slice_get, slice_index_or}
use Rattle.std.specs.Option.{option_map, unwrap_or}
use Rattle.std.specs.HashMap.{HashMap, get}
use Rattle.std.specs.Map.{lookup}
use Rattle.std.proofs.lemmas.Bool.{cases_Bool, cond-true, cond-false}
use Rattle.std.proofs.lemmas.List.{drop_more, drop_all, length-drop, take-append-drop}
use Rattle.std.proofs.lemmas.Option.{slice_get_read}
use Rattle.rv32_isa.specs.declared.instr.Instr.TheVariants.{Ecall}
use Rattle.rv32_isa.specs.declared.label.HookLabel.{HookLabel}
use Rattle.rv32_isa.specs.declared.label.LabelName.{LabelName}
use Rattle.rv32_isa.specs.declared.label.LabelName.TheVariants.{Entry, Inner}
use Rattle.rv32_isa.specs.declared.label.LabelLine.{LabelLine}
use Rattle.rv32_isa.specs.declared.label.LabelLine.TheVariants.{Label, Do, Jump, Branch}
use Rattle.rv32_isa.specs.Hooks.{code_at}
use Rattle.rv32_isa.specs.Labels.{same_name, from_label}
use Rattle.rv32_codegen.specs.declared.layout_places.Layout.{Layout}
use Rattle.rv32_codegen.specs.Layout.{Far, all_far, line_size, size, left_at, reaches, branch_to, misses, too_far, laid_at, place_of, target}
use Rattle.rv32_codegen.specs.Places.{label_of, key_of, same_key, AreLabels, AreSizes, IsLayout}
use Rattle.rv32_codegen.proofs.LayoutSizes.{some_same, no_some, label_within, size_four}

-- ---- lists

pub drop_here : {X : Type 0} (xs : List X) (i : ℕ) (x d : X) → i < length xs → x ≡ slice_index_or xs i d → drop i xs ≡ x ∷ drop (i + 1) xs
drop_here xs i x d lt e = drop_more xs i d lt ∙ ap (λ y. y ∷ drop (i + 1) xs) (sym e)

get_inside : (xs : List ℕ) (i v : ℕ) → slice_get xs i ≡ Some v → i < length xs
get_inside [] i v e = absurd (no_some v e)
get_inside (x ∷ xs) zero v e = omega arith
get_inside (x ∷ xs) (suc i) v e = omega (arith, get_inside xs i v e)

get_front : (xs ys : List ℕ) (i v : ℕ) → slice_get xs i ≡ Some v → slice_get (xs ++ ys) i ≡ Some v
get_front [] ys i v e = absurd (no_some v e)
get_front (x ∷ xs) ys zero v e = e
get_front (x ∷ xs) ys (suc i) v e = get_front xs ys i v e

get_last : (xs : List ℕ) (v : ℕ) → slice_get (xs ++ v ∷ []) (length xs) ≡ Some v
get_last [] v = refl
get_last (x ∷ xs) v = get_last xs v

tail_same : (x y : LabelLine) (xs ys : List LabelLine) → x ∷ xs ≡ y ∷ ys → xs ≡ ys
tail_same x y xs ys e = cc

no_cons : (x : LabelLine) (xs : List LabelLine) → [] ≡ x ∷ xs → ⊥
no_cons x xs e = cc

-- ---- labels by their names

and_true : (b : Bool) → (b && true) ≡ b
and_true true = refl
and_true false = refl

and_false : (b : Bool) → (b && false) ≡ false
and_false true = refl
and_false false = refl

pub key_same : (a b : LabelName) → same_key (key_of a) (key_of b) ≡ same_name a b
key_same (Entry p) (Entry q) = and_true (p == q)
key_same (Entry p) (Inner q name) = and_false (p == q)
key_same (Inner p name) (Entry q) = and_false (p == q)
key_same (Inner p name) (Inner q other) = refl

module _ {S : Type 0} where
  pub no_labels : (labels : HashMap (ℕ × Option ℕ) ℕ S) → labels.entries ≡ [] → AreLabels [] labels
  no_labels labels h name = ap (lookup (same_key (key_of name))) h

  pub label_put : (name : LabelName) (hook : Option HookLabel) (lines : List LabelLine) (old new : HashMap (ℕ × Option ℕ) ℕ S) (left : ℕ) →
      AreLabels lines old →
      ((key : ℕ × Option ℕ) → get same_key new key ≡ (if same_key (key_of name) key then Some left else get same_key old key)) →
      left ≡ length (Label name hook ∷ lines) → AreLabels (Label name hook ∷ lines) new
  label_put name hook lines old new left h put is other =
      let line = Label name hook in
      let test = same_name name other in
      let found : get same_key new (key_of other) ≡ (if test then Some left else get same_key old (key_of other)) =
      put (key_of other) ∙ ap (λ b. if b then Some left else get same_key old (key_of other)) (key_same name other) in
      elim (cases_Bool test) [
        | inl t ↦ found ∙ cond-true test (Some left) (get same_key old (key_of other)) t ∙ ap Some is ∙
            ap (option_map length) (sym (cond-true test (Some (line ∷ lines)) (from_label other lines) t))
        | inr f ↦ found ∙ cond-false test (Some left) (get same_key old (key_of other)) f ∙ h other ∙
            ap (option_map length) (sym (cond-false test (Some (line ∷ lines)) (from_label other lines) f))
      ]

  -- ---- sizes of lines

  -- where a look-up finds so many lines, they have the size that stands there
  some_left : (far : Far) (code : List LabelLine) (labels : HashMap (ℕ × Option ℕ) ℕ S) (sizes : List ℕ) (name : LabelName) (left : ℕ) →
      AreLabels code labels →
      AreSizes far code sizes → get same_key labels (key_of name) ≡ Some left → slice_get sizes left ≡ left_at far code name
  some_left far code labels sizes name left are sized e = by (from_label name code) refl
    where
      by : (o : Option (List LabelLine)) → from_label name code ≡ o → slice_get sizes left ≡ left_at far code name
      by None is = absurd (no_some left (sym (are name ∙ ap (option_map length) is) ∙ e))
      by (Some found) is =
          let w = (label_within name code found is).0 in
          let same : length found ≡ left = some_same (length found) left (sym (are name ∙ ap (option_map length) is) ∙ e) in
          ap (slice_get sizes) (sym same) ∙ sized.there w.0 found w.1 ∙ sym (ap (option_map (size far)) is)

  none_left : (far : Far) (code : List LabelLine) (labels : HashMap (ℕ × Option ℕ) ℕ S) (name : LabelName) → AreLabels code labels →
      get same_key labels (key_of name) ≡ None → from_label name code ≡ None
  none_left far code labels name are e = by (from_label name code) refl
    where
      by : (o : Option (List LabelLine)) → from_label name code ≡ o → from_label name code ≡ None
      by None is = is
      by (Some found) is = absurd (no_some (length found) (sym e ∙ are name ∙ ap (option_map length) is))

  pub label_left : (far : Far) (code : List LabelLine) (labels : HashMap (ℕ × Option ℕ) ℕ S) (sizes : List ℕ) (name : LabelName) (left : ℕ) →
      AreLabels code labels →
      AreSizes far code sizes → get same_key labels (key_of name) ≡ Some left → slice_get sizes left ≡ left_at far code name
  label_left far code labels sizes name left are sized e = some_left far code labels sizes name left are sized e

  pub label_missing : (far : Far) (code : List LabelLine) (labels : HashMap (ℕ × Option ℕ) ℕ S) (name : LabelName) → AreLabels code labels →
      get same_key labels (key_of name) ≡ None → None ≡ left_at far code name
  label_missing far code labels name are e = sym (ap (option_map (size far)) (none_left far code labels name are e))

-- a line that is no label
pub line_put : {S : Type 0} (line : LabelLine) (lines : List LabelLine) (labels : HashMap (ℕ × Option ℕ) ℕ S) → label_of line ≡ None →
    AreLabels lines labels → AreLabels (line ∷ lines) labels
line_put (Label name hook) lines labels e h = absurd (no_some name (sym e))
line_put (Do i) lines labels e h = h
line_put (Jump rd to) lines labels e h = h
line_put (Branch t a b to) lines labels e h = h

pub name_put : {S : Type 0} (line : LabelLine) (name : LabelName) (lines : List LabelLine) (old new : HashMap (ℕ × Option ℕ) ℕ S) (left : ℕ) →
    label_of line ≡ Some name → AreLabels lines old →
    ((key : ℕ × Option ℕ) → get same_key new key ≡ (if same_key (key_of name) key then Some left else get same_key old key)) →
    left ≡ length (line ∷ lines) → AreLabels (line ∷ lines) new
name_put (Label other hook) name lines old new left e h put is =
    label_put other hook lines old new left h
    (subst (λ n. (key : ℕ × Option ℕ) → get same_key new key ≡ (if same_key (key_of n) key then Some left else get same_key old key))
    (sym (some_same other name e)) put) is
name_put (Do i) name lines old new left e h put is = absurd (no_some name e)
name_put (Jump rd to) name lines old new left e h put is = absurd (no_some name e)
name_put (Branch t a b to) name lines old new left e h put is = absurd (no_some name e)

pub first_sizes : (far : Far) → AreSizes far [] (0 ∷ [])
first_sizes far = record { long = refl; there = there }
  where
    there : (before lines : List LabelLine) → [] ≡ before ++ lines → slice_get (0 ∷ []) (length lines) ≡ Some (size far lines)
    there [] [] e = refl
    there [] (line ∷ lines) e = absurd (no_cons line lines e)
    there (line ∷ before) lines e = absurd (no_cons line (before ++ lines) e)

pub more_sizes : (far : Far) (line : LabelLine) (lines : List LabelLine) (sizes : List ℕ) (n : ℕ) → AreSizes far lines sizes →
    n ≡ size far (line ∷ lines) →
    AreSizes far (line ∷ lines) (sizes ++ n ∷ [])
more_sizes far line lines sizes n h is = record { long = length-append sizes (n ∷ []) ∙ long; there = there }
  where
    long : length sizes + 1 ≡ suc (length (line ∷ lines))
    long = let e = h.long in omega (arith, e)

    there : (before rest : List LabelLine) → line ∷ lines ≡ before ++ rest → slice_get (sizes ++ n ∷ []) (length rest) ≡ Some (size far rest)
    there [] rest e =
        subst (λ l. slice_get (sizes ++ n ∷ []) (length l) ≡ Some (size far l)) e
        (ap (slice_get (sizes ++ n ∷ [])) (sym h.long) ∙ get_last sizes n ∙ ap Some is)
    there (x ∷ before) rest e =
        get_front sizes (n ∷ []) (length rest) (size far rest) (h.there before rest (tail_same line x lines (before ++ rest) e))

-- so many lines are left from there on
pub left_of : (code : List LabelLine) (i : ℕ) → i < length code → length code - i ≡ suc (length (drop (i + 1) code))
left_of code i lt = let long = length-drop (i + 1) code in omega (arith, long, lt)

-- ---- turns of loops over lines from the end of the code

pub first_labels : {S : Type 0} (code : List LabelLine) (labels : HashMap (ℕ × Option ℕ) ℕ S) → labels.entries ≡ [] →
    AreLabels (drop (length code) code) labels
first_labels code labels h = subst (λ l. AreLabels l labels) (sym (drop_all (length code) code (omega arith))) (no_labels labels h)

pub labels_turn : {S : Type 0} (code : List LabelLine) (i : ℕ) (line d : LabelLine) (old new : HashMap (ℕ × Option ℕ) ℕ S) → i < length code →
    line ≡ slice_index_or code i d → AreLabels (drop (i + 1) code) old →
    ((lines : List LabelLine) → AreLabels lines old → length code - i ≡ length (line ∷ lines) → AreLabels (line ∷ lines) new) →
    AreLabels (drop i code) new
labels_turn code i line d old new lt e h put =
    subst (λ l. AreLabels l new) (sym (drop_here code i line d lt e)) (put (drop (i + 1) code) h (left_of code i lt))

-- the sizes of the lines from there on
pub sizes_turn : (far : Far) (code : List LabelLine) (i : ℕ) (sizes : List ℕ) (n : ℕ) → i < length code → AreSizes far (drop (i + 1) code) sizes →
    n ≡ size far (drop i code) → AreSizes far (drop i code) (sizes ++ n ∷ [])
sizes_turn far code i sizes n lt h is =
    let line = slice_index_or code i (Do Ecall) in
    let here = drop_here code i line (Do Ecall) lt refl in
    subst (λ l. AreSizes far l (sizes ++ n ∷ [])) (sym here) (more_sizes far line (drop (i + 1) code) sizes n h (is ∙ ap (size far) here))

pub sizes_first : (far : Far) (code : List LabelLine) → AreSizes far (drop (length code) code) (0 ∷ [])
sizes_first far code = subst (λ l. AreSizes far l (0 ∷ [])) (sym (drop_all (length code) code (omega arith))) (first_sizes far)

pub no_size : (far : Far) (code : List LabelLine) → 0 ≡ size far (drop (length code) code)
no_size far code = ap (size far) (sym (drop_all (length code) code (omega arith)))

-- the bytes of the lines from there on
pub size_turn : (far : Far) (code : List LabelLine) (i : ℕ) (line d : LabelLine) (before n : ℕ) (is_far : Bool) → i < length code →
    line ≡ slice_index_or code i d → before ≡ size far (drop (i + 1) code) → is_far ≡ far (line ∷ drop (i + 1) code) →
    n ≡ line_size is_far line →
    before + n ≡ size far (drop i code)
size_turn far code i line d before n is_far lt e is f one =
    let own : n ≡ line_size (far (line ∷ drop (i + 1) code)) line = one ∙ ap (λ b. line_size b line) f in
    let more : before + n ≡ size far (line ∷ drop (i + 1) code) = omega (arith, is, own) in
    more ∙ ap (size far) (sym (drop_here code i line d lt e))

pub within_at : (code : List LabelLine) (i : ℕ) (line d : LabelLine) → i < length code → line ≡ slice_index_or code i d →
    code ≡ take i code ++ line ∷ drop (i + 1) code
within_at code i line d lt e = sym (take-append-drop i code) ∙ ap (λ l. take i code ++ l) (drop_here code i line d lt e)

-- each size that stands in the list is that of lines of the code
pub any_size : (far : Far) (code : List LabelLine) (sizes : List ℕ) (left n : ℕ) → AreSizes far code sizes → slice_get sizes left ≡ Some n →
    (lines : List LabelLine) × (n ≡ size far lines)
any_size far code sizes left n h e =
    let lt = get_inside sizes left n e in
    let long = h.long in
    let from = length code - left in
    let is : length (drop from code) ≡ left = let l = length-drop from code in omega (arith, l, lt, long) in
    let there = h.there (take from code) (drop from code) (sym (take-append-drop from code)) in
    (drop from code, some_same n (size far (drop from code)) (sym e ∙ ap (slice_get sizes) (sym is) ∙ there))

-- ---- branches

pub far_is : (code before lines : List LabelLine) (line : LabelLine) (far : List ℕ) (left from : ℕ) (to : LabelName) →
    code ≡ before ++ line ∷ lines →
    left ≡ length (line ∷ lines) → AreSizes all_far code far → from ≡ unwrap_or (slice_get far left) 0 → branch_to line ≡ Some to →
    not (reaches from (left_at all_far code to)) ≡ too_far code (line ∷ lines)
far_is code before lines line far left from to within is h e leads =
    let there = h.there before (line ∷ lines) within in
    let same : from ≡ size all_far (line ∷ lines) = e ∙ ap (λ o. unwrap_or o 0) (ap (slice_get far) is ∙ there) in
    ap (λ n. misses code n (Some to)) same ∙ ap (misses code (size all_far (line ∷ lines))) (sym leads)

pub near_is : (code lines : List LabelLine) (line : LabelLine) → branch_to line ≡ None → false ≡ too_far code (line ∷ lines)
near_is code lines line leads = ap (misses code (size all_far (line ∷ lines))) (sym leads)

-- ---- addresses

pub address_is : (code : List LabelLine) (layout : Layout) (left bytes : ℕ) (before lines : List LabelLine) → IsLayout code layout →
    bytes ≡ unwrap_or (slice_get layout.sizes.items left) layout.total → code ≡ before ++ lines → left ≡ length lines →
    code_at + (layout.total - bytes) ≡ laid_at (too_far code) code lines
address_is code layout left bytes before lines h e within is =
    let there = h.sizes.there before lines within in
    let same : bytes ≡ size (too_far code) lines = e ∙ ap (λ o. unwrap_or o layout.total) (ap (slice_get layout.sizes.items) is ∙ there) in
    ap (λ n. code_at + (layout.total - n)) same ∙ ap (λ n. code_at + (n - size (too_far code) lines)) h.total

pub address_four : (code : List LabelLine) (layout : Layout) (left bytes : ℕ) → IsLayout code layout →
    bytes ≡ unwrap_or (slice_get layout.sizes.items left) layout.total → (code_at + (layout.total - bytes)) % 4 ≡ 0
address_four code layout left bytes h e = by (slice_get layout.sizes.items left) refl
  where
    by : (o : Option ℕ) → slice_get layout.sizes.items left ≡ o → (code_at + (layout.total - bytes)) % 4 ≡ 0
    by None is = let all : bytes ≡ layout.total = e ∙ ap (λ o. unwrap_or o layout.total) is in omega (arith, all)
    by (Some n) is =
        let found = any_size (too_far code) code layout.sizes.items left n h.sizes is in
        let four = size_four (too_far code) found.0 in
        let same : bytes ≡ n = e ∙ ap (λ o. unwrap_or o layout.total) is in
        let size_is = found.1 in
        let all = h.total in
        let all_four = size_four (too_far code) code in
        omega (arith, all_four, four, all, same, size_is)

module _ (code : List LabelLine) (layout : Layout) (h : IsLayout code layout) (name : LabelName) where
  pub target_missing : get same_key layout.labels (key_of name) ≡ None → code_at ≡ target (too_far code) code name
  target_missing e = sym (ap (place_of (too_far code) code) (none_left (too_far code) code layout.labels name h.labels e))

  -- where so many lines at the end of the code stand at an address, the label does
  pub target_found : (left address : ℕ) → get same_key layout.labels (key_of name) ≡ Some left →
      ((before lines : List LabelLine) → code ≡ before ++ lines → left ≡ length lines → address ≡ laid_at (too_far code) code lines) →
      address ≡ target (too_far code) code name
  target_found left address e is = by (from_label name code) refl
    where
      by : (o : Option (List LabelLine)) → from_label name code ≡ o → address ≡ target (too_far code) code name
      by None there = absurd (no_some left (sym (h.labels name ∙ ap (option_map length) there) ∙ e))
      by (Some found) there =
          let w = (label_within name code found there).0 in
          let same : left ≡ length found = some_same left (length found) (sym e ∙ h.labels name ∙ ap (option_map length) there) in
          is w.0 found w.1 same ∙ sym (ap (place_of (too_far code) code) there)

-- the size of all lines stands last
pub total_is : (far : Far) (code : List LabelLine) (sizes : List ℕ) (total : ℕ) → AreSizes far code sizes →
    total ≡ slice_index_or sizes (length code) total →
    total ≡ size far code
total_is far code sizes total h e =
    let long = h.long in
    some_same total (size far code) (sym (slice_get_read sizes (length sizes) (length code) total refl (omega (arith, long)) e) ∙ h.there [] code refl)
