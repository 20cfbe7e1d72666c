-- What a value of a type looks like: its type with declared types looked through. A ref isn't looked into, so the form says
-- how a value is stored, hooked and contained, and nothing of what it leads to.
use Rattle.std.specs.Prelude.{◌≡◌, ℕ, zero, suc, ◌+◌, ◌*◌, Bool, true, false, ◌||◌, List, [], ◌∷◌, length, Option, Some, max}
use Rattle.nim_types.specs.Types.{Ty, int, bool, char, text, sequence, array, tuple, parameter, enum, object, distinct, ref, exception, Tys, no_types, types}
use Rattle.nim_types.specs.Types.{Key, Field, Fact, fields, base, Facts, fact_of}
use Rattle.nim_types.specs.declared.types.TheConstants.{WORD_BYTES, LIST_BYTES}

mutual
  pub data Form : Type 0 where
    -- a number, bool, char or enum; also a type parameter and an exception
    plain : Form
    reference : Form
    -- a text
    block : Form
    -- a sequence
    elements : (of : Form) → Form
    -- an array
    row : (count : ℕ) → (of : Form) → Form
    -- a tuple, or an object without hooks of its own
    parts : (all : Forms) → Form
    -- an object with hooks of its own
    resource : (all : Forms) → Form
    -- a distinct type
    wrapped : (base : Form) → Form

  pub data Forms : Type 0 where
    no_forms : Forms
    forms : (first : Form) → (rest : Forms) → Forms

-- ---- storage, in bytes

-- what has no parts takes a word
abbrev pub or_word : ℕ → ℕ
or_word zero = WORD_BYTES
or_word (suc n) = suc n

abbrev mutual
  pub size : Form → ℕ
  size plain = WORD_BYTES
  size reference = WORD_BYTES
  size block = LIST_BYTES
  size (elements f) = LIST_BYTES
  size (row n f) = or_word (n * size f)
  size (parts fs) = or_word (size_all fs)
  size (resource fs) = or_word (size_all fs)
  size (wrapped f) = size f

  pub size_all : Forms → ℕ
  size_all no_forms = 0
  size_all (forms f fs) = size f + size_all fs

-- ---- hooks: whether a value has anything to do when it is copied, moved or destroyed

abbrev pub of_some : ℕ → Bool → Bool
of_some zero b = false
of_some (suc n) b = b

abbrev mutual
  pub hooked : Form → Bool
  hooked plain = false
  hooked reference = true
  hooked block = true
  hooked (elements f) = true
  hooked (row n f) = of_some n (hooked f)
  hooked (parts fs) = hooked_any fs
  hooked (resource fs) = true
  hooked (wrapped f) = hooked f

  pub hooked_any : Forms → Bool
  hooked_any no_forms = false
  hooked_any (forms f fs) = hooked f || hooked_any fs

abbrev mutual
  -- whether an object with hooks of its own is contained, also as an element of a sequence
  pub has_resource : Form → Bool
  has_resource plain = false
  has_resource reference = false
  has_resource block = false
  has_resource (elements f) = has_resource f
  has_resource (row n f) = of_some n (has_resource f)
  has_resource (parts fs) = has_resource_any fs
  has_resource (resource fs) = true
  has_resource (wrapped f) = has_resource f

  pub has_resource_any : Forms → Bool
  has_resource_any no_forms = false
  has_resource_any (forms f fs) = has_resource f || has_resource_any fs

-- ---- levels: one more than the highest part has, one without parts

abbrev mutual
  pub levels : Form → ℕ
  levels plain = 1
  levels reference = 1
  levels block = 1
  levels (elements f) = suc (levels f)
  levels (row zero f) = 1
  levels (row (suc n) f) = suc (levels f)
  levels (parts fs) = suc (most_levels fs)
  levels (resource fs) = suc (most_levels fs)
  levels (wrapped f) = suc (levels f)

  pub most_levels : Forms → ℕ
  most_levels no_forms = 0
  most_levels (forms f fs) = max (levels f) (most_levels fs)

-- ---- the form of a type

abbrev pub types_of : List Field → Tys
types_of [] = no_types
types_of (f ∷ fs) = types f.of (types_of fs)

abbrev pub object_form : (own_hooks : Bool) → Forms → Form
object_form true fs = resource fs
object_form false fs = parts fs

mutual
  -- IsForm whole facts ty f: f is the form of the type. Where it is whole the element of a sequence has a form too; else
  -- sequences aren't looked into, since that isn't needed to store one. So a type that contains itself by value has no form at
  -- all, and one that contains itself through sequences no whole form. Nor has an object of whose fields nothing is known.
  pub data IsForm (whole : Bool) (facts : Facts) : Ty → Form → Type 0 where
    of_int : IsForm whole facts int plain
    of_bool : IsForm whole facts bool plain
    of_char : IsForm whole facts char plain
    of_text : IsForm whole facts text block
    of_sequence : {t : Ty} {f : Form} → whole ≡ true → IsForm whole facts t f → IsForm whole facts (sequence t) (elements f)
    of_any_sequence : {t : Ty} → whole ≡ false → IsForm whole facts (sequence t) (elements plain)
    of_array : {n : ℕ} {t : Ty} {f : Form} → IsForm whole facts t f → IsForm whole facts (array n t) (row n f)
    of_tuple : {names : List (List ℕ)} {ts : Tys} {fs : Forms} → AreForms whole facts ts fs → IsForm whole facts (tuple names ts) (parts fs)
    of_parameter : {n : ℕ} → IsForm whole facts (parameter n) plain
    of_enum : {key : Key} → IsForm whole facts (enum key) plain
    of_object : {key : Key} {arguments : Tys} {all : List Field} {own_hooks : Bool} {fs : Forms}
        → fact_of facts (object key arguments) ≡ Some (fields all own_hooks) → AreForms whole facts (types_of all) fs
        → IsForm whole facts (object key arguments) (object_form own_hooks fs)
    of_distinct : {key : Key} {t : Ty} {f : Form} → fact_of facts (distinct key) ≡ Some (base t) → IsForm whole facts t f
        → IsForm whole facts (distinct key) (wrapped f)
    of_ref : {name : Option (List ℕ)} {t : Ty} → IsForm whole facts (ref name t) reference
    of_exception : {key : Key} → IsForm whole facts (exception key) plain

  pub data AreForms (whole : Bool) (facts : Facts) : Tys → Forms → Type 0 where
    none_of : AreForms whole facts no_types no_forms
    more_of : {t : Ty} {ts : Tys} {f : Form} {fs : Forms} → IsForm whole facts t f → AreForms whole facts ts fs
        → AreForms whole facts (types t ts) (forms f fs)

-- The form of a type, sequences looked into.
abbrev pub HasForm : Facts → Ty → Form → Type 0
HasForm facts ty f = IsForm true facts ty f

-- ---- the same as a function, where there is a form

abbrev mutual
  -- declared types by what is known of them
  pub form_in : (known : Ty → Form) → Ty → Form
  form_in known int = plain
  form_in known bool = plain
  form_in known char = plain
  form_in known text = block
  form_in known (sequence t) = elements (form_in known t)
  form_in known (array n t) = row n (form_in known t)
  form_in known (tuple names ts) = parts (forms_in known ts)
  form_in known (parameter n) = plain
  form_in known (enum key) = plain
  form_in known (object key arguments) = known (object key arguments)
  form_in known (distinct key) = known (distinct key)
  form_in known (ref name t) = reference
  form_in known (exception key) = plain

  pub forms_in : (known : Ty → Form) → Tys → Forms
  forms_in known no_types = no_forms
  forms_in known (types t ts) = forms (form_in known t) (forms_in known ts)

-- of a declared type, by what its declaration says
abbrev pub form_by : (known : Ty → Form) → Option Fact → Form
form_by known (Some (fields all own_hooks)) = object_form own_hooks (forms_in known (types_of all))
form_by known (Some (base t)) = wrapped (form_in known t)
form_by known _ = parts no_forms

-- of a declared type, at most so many declared types inside one another looked through
abbrev pub form_within : ℕ → Facts → Ty → Form
form_within zero facts ty = parts no_forms
form_within (suc n) facts ty = form_by (form_within n facts) (fact_of facts ty)

-- In a form no declared type occurs inside itself, so there are at most as many inside one another as are declared.
abbrev pub form_of : Facts → Ty → Form
form_of facts ty = form_in (form_within (length facts) facts) ty
