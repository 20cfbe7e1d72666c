-- Types in which names of a section stand are sound once these names mean sound types.
use Rattle.std.proofs.Common.{◌≡◌, Bool, true, false, List, [], ◌∷◌, ◌++◌, Option, Some, None, refl, sym, ap, subst, ◌∙◌, inl, inr}
use Rattle.std.specs.Prelude.{◌⊎◌, not, ◌||◌, if◌then◌else◌}
use Rattle.std.proofs.lemmas.Bool.{or_parts}
use Rattle.nim_types.specs.Types as type
use Rattle.nim_types.specs.Types.{Ty, Tys, Key, Field, Fact, members, fields, base, below, Declared, Facts, fact_of, if_same, same, same_key}
use Rattle.nim_types.specs.Forms.{types_of}
use Rattle.decl_rules.specs.Meanings.{KnownType, meaning_in, or_name, renamed_all, resolved, resolved_fields, field_types, occurs, occurs_in, occurs_in_any}
use Rattle.decl_rules.specs.Meanings.{is_key_among, known_keys, is_usable}
use Rattle.typing_laws.specs.Sound.{Sound, AllSound, no_more, and_more, of_int, of_bool, of_char, of_text, of_sequence, of_array, of_tuple, of_enum, of_object}
use Rattle.typing_laws.specs.Sound.{of_distinct}
use Rattle.typing_laws.specs.Sound.{AreSound}
use Rattle.typing_laws.proofs.Tests.{never, none_some, some_none, the_same, same_by}
use Rattle.typing_laws.proofs.Growing.{Said}
use Rattle.typing_laws.proofs.Further.{said_before}

-- ---- names as types

-- a name, while it is none of what is known
abbrev pub as_name : Key → Declared
as_name key = record { of = type.distinct key; fact = base type.int }

abbrev pub names_said : List Key → Facts
names_said [] = []
names_said (k ∷ ks) = as_name k ∷ names_said ks

one_key : {a b : Key} → type.distinct a ≡ type.distinct b → a ≡ b
one_key e = cc

pub key_sound : (a b : Key) → same_key a b ≡ true → a ≡ b
key_sound a b e = one_key (the_same {s = type.distinct a} {t = type.distinct b} e)

pub key_refl : (a : Key) → same_key a a ≡ true
key_refl a = same_by {s = type.distinct a} {t = type.distinct a} refl

behind_none : (f g : Facts) (ty : Ty) → fact_of f ty ≡ None → fact_of (f ++ g) ty ≡ fact_of g ty
behind_none [] g ty e = refl
behind_none (d ∷ f) g ty e = by_test (same d.of ty) e (behind_none f g ty)
  where
    by_test : (b : Bool) → if_same b d.fact (fact_of f ty) ≡ None → (fact_of f ty ≡ None → fact_of (f ++ g) ty ≡ fact_of g ty)
        → if_same b d.fact (fact_of (f ++ g) ty) ≡ fact_of g ty
    by_test true e rest = some_none e
    by_test false e rest = rest e

name_said : (section : List Key) (key : Key) → is_key_among key section ≡ true → fact_of (names_said section) (type.distinct key) ≡ Some (base type.int)
name_said [] key e = never e
name_said (k ∷ ks) key e = by_test (same_key k key) refl (name_said ks key)
  where
    others : same_key k key ≡ false → is_key_among key ks ≡ true
    others n = by_other (same_key key k) refl e
      where
        by_other : (b : Bool) → same_key key k ≡ b → (b || is_key_among key ks) ≡ true → is_key_among key ks ≡ true
        by_other false i h = h
        by_other true i h = never (sym n ∙ subst (λ x. same_key k x ≡ true) (sym (key_sound key k i)) (key_refl k))

    by_test : (b : Bool) → same_key k key ≡ b
        → (is_key_among key ks ≡ true → fact_of (names_said ks) (type.distinct key) ≡ Some (base type.int))
        → if_same b (base type.int) (fact_of (names_said ks) (type.distinct key)) ≡ Some (base type.int)
    by_test true i rest = refl
    by_test false i rest = rest (others i)

-- a type of which something is said as a name
abbrev IsName : List Key → Ty → Type 0
IsName section ty = (key : Key) × (ty ≡ type.distinct key) × (is_key_among key section ≡ true)

said_name : (section : List Key) (ty : Ty) (fact : Fact) → fact_of (names_said section) ty ≡ Some fact → IsName section ty
said_name [] ty fact e = none_some e
said_name (k ∷ ks) ty fact e = by_test (same (type.distinct k) ty) refl e (said_name ks ty fact)
  where
    later : IsName ks ty → IsName (k ∷ ks) ty
    later r = (r.0, r.1, by_first (same_key r.0 k))
      where
        by_first : (b : Bool) → (b || is_key_among r.0 ks) ≡ true
        by_first true = refl
        by_first false = r.2

    by_test : (b : Bool) → same (type.distinct k) ty ≡ b → if_same b (base type.int) (fact_of (names_said ks) ty) ≡ Some fact
        → (fact_of (names_said ks) ty ≡ Some fact → IsName ks ty) → IsName (k ∷ ks) ty
    by_test true i e rest =
        (k, sym (the_same {s = type.distinct k} {t = ty} i), ap (λ b. b || is_key_among k ks) (key_refl k))
    by_test false i e rest = later (rest e)

module _ (f : Facts) (section : List Key) where
  abbrev pub with_names : Facts
  with_names = f ++ names_said section

  pub name_sound : AreSound f → (key : Key) → is_key_among key section ≡ true → Sound with_names (type.distinct key)
  name_sound sound key among = by_fact (fact_of f (type.distinct key)) refl
    where
      by_fact : (o : Option Fact) → fact_of f (type.distinct key) ≡ o → Sound with_names (type.distinct key)
      by_fact None e = of_distinct (behind_none f (names_said section) (type.distinct key) e ∙ name_said section key among)
      by_fact (Some (base t)) e = of_distinct (said_before f (names_said section) (type.distinct key) (base t) e)
      by_fact (Some (members names)) e = never (sound.said (type.distinct key) (members names) e)
      by_fact (Some (fields all own)) e = never (sound.said (type.distinct key) (fields all own) e)
      by_fact (Some (below parent)) e = never (sound.said (type.distinct key) (below parent) e)

  before_or_name : (ty : Ty) (fact : Fact) → fact_of with_names ty ≡ Some fact → (fact_of f ty ≡ Some fact) ⊎ IsName section ty
  before_or_name ty fact e = by_fact (fact_of f ty) refl
    where
      by_fact : (o : Option Fact) → fact_of f ty ≡ o → (fact_of f ty ≡ Some fact) ⊎ IsName section ty
      by_fact None n = inr (said_name section ty fact (sym (behind_none f (names_said section) ty n) ∙ e))
      by_fact (Some other) n = inl (n ∙ sym (said_before f (names_said section) ty other n) ∙ e)

-- ---- what names mean

-- what is known has a meaning
has_meaning : (known : List KnownType) (key : Key) → is_key_among key (known_keys known) ≡ true → meaning_in key known ≡ None → ⊥
has_meaning [] key e n = never e
has_meaning (k ∷ rest) key e n = by_test (same_key key k.key) e n (has_meaning rest key)
  where
    by_test : (b : Bool) → (b || is_key_among key (known_keys rest)) ≡ true → (if b then Some k.means else meaning_in key rest) ≡ None
        → (is_key_among key (known_keys rest) ≡ true → meaning_in key rest ≡ None → ⊥) → ⊥
    by_test true e n more = some_none n
    by_test false e n more = more e n

abbrev pub Means : Facts → List KnownType → Type 0
Means h known = (key : Key) (ty : Ty) → meaning_in key known ≡ Some ty → Sound h ty

module _ (f h : Facts) (section : List Key) (known : List KnownType) (sound : AreSound f) (said : Said f h) (means : Means h known) where
  abbrev is_unusable : Key → Bool
  is_unusable key = not (is_usable section known key)

  abbrev meaning : Key → Ty
  meaning key = or_name key (meaning_in key known)

  no_name : (key : Key) → is_key_among key section ≡ true → is_unusable key ≡ false → meaning_in key known ≡ None → ⊥
  no_name key among e n = has_meaning known key (by_test (is_key_among key section) (is_key_among key (known_keys known)) among e) n
    where
      by_test : (a b : Bool) → a ≡ true → not (not a || b) ≡ false → b ≡ true
      by_test a true i e = refl
      by_test true false i e = never (sym e)
      by_test false false i e = never i

  name_means : (key : Key) (t : Ty) → fact_of (with_names f section) (type.distinct key) ≡ Some (base t) → is_unusable key ≡ false → Sound h (meaning key)
  name_means key t e u = by_meaning (meaning_in key known) refl
    where
      by_which : meaning_in key known ≡ None → (fact_of f (type.distinct key) ≡ Some (base t)) ⊎ IsName section (type.distinct key)
          → Sound h (type.distinct key)
      by_which n (inl i) = of_distinct (said (type.distinct key) (base t) i)
      by_which n (inr i) =
          absurd (no_name key (subst (λ k. is_key_among k section ≡ true) (sym (one_key i.1)) i.2) u n)

      by_meaning : (o : Option Ty) → meaning_in key known ≡ o → Sound h (or_name key o)
      by_meaning (Some ty) m = means key ty m
      by_meaning None n = by_which n (before_or_name f section (type.distinct key) (base t) e)

  object_means : (key : Key) (ts : Tys) {all : List Field} {own : Bool} → fact_of f (type.object key ts) ≡ Some (fields all own)
      → Sound h (type.object key (renamed_all meaning ts))
  object_means key type.no_types e = of_object (said (type.object key type.no_types) _ e)
  object_means key (type.types t ts) e = never (sound.said (type.object key (type.types t ts)) _ e)

  apart : {A : Type 0} {ty : Ty} → IsName section ty → ((key : Key) → ty ≡ type.distinct key → ⊥) → A
  apart i other = absurd (other i.0 i.1)

  mutual
    pub resolved_sound : {t : Ty} → Sound (with_names f section) t → occurs is_unusable t ≡ false → Sound h (resolved known t)
    resolved_sound of_int e = of_int
    resolved_sound of_bool e = of_bool
    resolved_sound of_char e = of_char
    resolved_sound of_text e = of_text
    resolved_sound (of_sequence s) e = of_sequence (resolved_sound s e)
    resolved_sound (of_array l s) e = of_array l (resolved_sound s e)
    resolved_sound (of_tuple s) e = of_tuple (all_resolved s e)
    resolved_sound (of_enum {key = key} {first = first} {rest = rest} i) e = by_which (before_or_name f section (type.enum key) (members (first ∷ rest)) i)
      where
        by_which : (fact_of f (type.enum key) ≡ Some (members (first ∷ rest))) ⊎ IsName section (type.enum key) → Sound h (type.enum key)
        by_which (inl j) = of_enum (said (type.enum key) (members (first ∷ rest)) j)
        by_which (inr j) = apart j (λ k i. cc)
    resolved_sound (of_object {key = key} {ts = ts} {all = all} {resource = own} i) e =
        by_which (before_or_name f section (type.object key ts) (fields all own) i)
      where
        by_which : (fact_of f (type.object key ts) ≡ Some (fields all own)) ⊎ IsName section (type.object key ts)
            → Sound h (type.object key (renamed_all meaning ts))
        by_which (inl j) = object_means key ts j
        by_which (inr j) = apart j (λ k i. cc)
    resolved_sound (of_distinct {key = key} {t = t} i) e = name_means key t i e

    all_resolved : {ts : Tys} → AllSound (with_names f section) ts → occurs_in is_unusable ts ≡ false → AllSound h (renamed_all meaning ts)
    all_resolved no_more e = no_more
    all_resolved (and_more {t = t} {ts = ts} s more) e =
        let p = or_parts (occurs is_unusable t) (occurs_in is_unusable ts) e in
        and_more (resolved_sound s p.0) (all_resolved more p.1)

  pub fields_resolved : (all : List Field) → AllSound (with_names f section) (types_of all) → occurs_in_any is_unusable (field_types all) ≡ false
      → AllSound h (types_of (resolved_fields known all))
  fields_resolved [] s e = no_more
  fields_resolved (field ∷ rest) (and_more s more) e =
      let p = or_parts (occurs is_unusable field.of) (occurs_in_any is_unusable (field_types rest)) e in
      and_more (resolved_sound s p.0) (fields_resolved rest more p.1)
