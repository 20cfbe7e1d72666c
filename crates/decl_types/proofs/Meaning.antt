-- What is known of the types of a section, by number and by key.
use Rattle.std.proofs.Common.{◌≡◌, ℕ, zero, suc, ◌<◌, List, [], ◌∷◌, ◌++◌, length, Some, None, refl, sym, ap, ◌∙◌, arith}
use Rattle.std.proofs.Common.{append_assoc}
use Rattle.std.specs.Prelude.{Bool, true, false, not, ◌||◌, ◌&&◌, if◌then◌else◌, Option, slice_get, slice_set, map}
use Rattle.std.proofs.lemmas.Bool.{false_from_ne_true}
use Rattle.std.proofs.lemmas.Option.{none-some, same_Some}
use Rattle.nim_types.specs.Types.{Ty, Key, Facts, same_key}
use Rattle.nim_types.specs.Table.{type_at}
use Rattle.nim_program.specs.View.{if_type}
use Rattle.decl_rules.specs.Meanings.{Defined, KnownType, meaning_in, or_name, known_facts, known_keys, is_key_among, is_usable, known_behind, known_through}
use Rattle.decl_rules.specs.Meanings.{known_of, next_in, meant_in, is_made_of}
use Rattle.decl_rules.specs.Meanings.{is_next as is_next_key}
use Rattle.decl_types.specs.ViewNodes.{no_key, key_at}
use Rattle.decl_types.specs.ViewKnown.{KnownAs, meaning_by}
use Rattle.decl_types.specs.ViewMarks.{mark_at, Marks}
use Rattle.decl_types.specs.ViewReading.{is_open}
use Rattle.decl_types.specs.ViewScoped.{AreKnown, Knows, Differ}
use Rattle.decl_types.specs.ViewMarks.{is_unknown}
use Rattle.decl_types.proofs.Positions.{one_key, key_same, key_among}

-- ---- by key

abbrev is_there : Option Ty → Bool
is_there None = false
is_there (Some t) = true

known_is : (key : Key) (k : List KnownType) → is_key_among key (known_keys k) ≡ is_there (meaning_in key k)
known_is key [] = refl
known_is key (x ∷ k) = by_first (same_key key x.key) (known_is key k)
  where
    by_first : (b : Bool) → is_key_among key (known_keys k) ≡ is_there (meaning_in key k)
        → (b || is_key_among key (known_keys k)) ≡ is_there (if b then Some x.means else meaning_in key k)
    by_first true h = refl
    by_first false h = h

abbrev or_last : Option Ty → Option Ty → Option Ty
or_last (Some t) o = Some t
or_last None o = o

abbrev last_means : Key → KnownType → Option Ty
last_means key x = if same_key key x.key then Some x.means else None

meaning_last : (key : Key) (k : List KnownType) (x : KnownType) → meaning_in key (k ++ x ∷ []) ≡ or_last (meaning_in key k) (last_means key x)
meaning_last key [] x = refl
meaning_last key (y ∷ k) x = by_first (same_key key y.key) (meaning_last key k x)
  where
    by_first : (b : Bool) → meaning_in key (k ++ x ∷ []) ≡ or_last (meaning_in key k) (last_means key x)
        → (if b then Some y.means else meaning_in key (k ++ x ∷ [])) ≡ or_last (if b then Some y.means else meaning_in key k) (last_means key x)
    by_first true h = refl
    by_first false h = h

last_none : (o : Option Ty) → or_last o None ≡ o
last_none None = refl
last_none (Some t) = refl

-- another key means what it meant
meaning_other : (key : Key) (k : List KnownType) (x : KnownType) → same_key key x.key ≡ false → meaning_in key (k ++ x ∷ []) ≡ meaning_in key k
meaning_other key k x h =
    meaning_last key k x ∙ ap (λ (b : Bool). or_last (meaning_in key k) (if b then Some x.means else None)) h ∙ last_none (meaning_in key k)

meaning_new : (k : List KnownType) (x : KnownType) → meaning_in x.key k ≡ None → meaning_in x.key (k ++ x ∷ []) ≡ Some x.means
meaning_new k x h =
    meaning_last x.key k x ∙ ap (λ o. or_last o (last_means x.key x)) h ∙ ap (λ (b : Bool). if b then Some x.means else None) (key_same x.key)

-- ---- by number

same_count : (ts : List Ty) (k : List KnownType) (keys : List Key) (known : List (Option ℕ)) → AreKnown ts k keys known → length known ≡ length keys
same_count ts k [] [] h = refl
same_count ts k [] (o ∷ known) h = absurd h
same_count ts k (key ∷ keys) [] h = absurd h
same_count ts k (key ∷ keys) (o ∷ known) h = ap suc (same_count ts k keys known h.1)

pub known_count : (ts : List Ty) (keys : List Key) (k : List KnownType) (known : List (Option ℕ)) → Knows ts keys k known → length known ≡ length keys
known_count ts keys k known h = same_count ts k keys known h.each

type_known : (ts : List Ty) (k : List KnownType) (keys : List Key) (known : List (Option ℕ)) (j id : ℕ) → AreKnown ts k keys known
    → slice_get known j ≡ Some (Some id) → meaning_in (key_at keys j) k ≡ Some (type_at ts id)
type_known ts k [] [] j id h e = absurd (none-some (Some id) e)
type_known ts k [] (o ∷ known) j id h e = absurd h
type_known ts k (key ∷ keys) [] j id h e = absurd h
type_known ts k (key ∷ keys) (o ∷ known) zero id h e = h.0 ∙ ap (if_type ts) (same_Some o (Some id) e)
type_known ts k (key ∷ keys) (o ∷ known) (suc j) id h e = type_known ts k keys known j id h.1 e

pub known_as : (ts : List Ty) (keys : List Key) (k : List KnownType) (known : List (Option ℕ)) → Knows ts keys k known
    → KnownAs ts keys known (meaning_by k)
known_as ts keys k known h = λ j id e. sym (ap (or_name (key_at keys j)) (type_known ts k keys known j id h.each e))

unknown_type : (ts : List Ty) (o : Option ℕ) → is_unknown o ≡ not (is_there (if_type ts o))
unknown_type ts None = refl
unknown_type ts (Some id) = refl

-- a name of the section isn't known
open_key : (all : List Key) (k : List KnownType) (key : Key) → is_key_among key all ≡ true → is_open all k key ≡ not (is_there (meaning_in key k))
open_key all k key h = ap (λ b. not (not b || is_key_among key (known_keys k))) h ∙ ap not (known_is key k)

pub closed_key : (all : List Key) (k : List KnownType) (key : Key) → is_key_among key all ≡ false → is_open all k key ≡ false
closed_key all k key h = ap (λ b. not (not b || is_key_among key (known_keys k))) h

marks_in : (all : List Key) (ts : List Ty) (k : List KnownType) (keys : List Key) (known : List (Option ℕ)) (j : ℕ) → AreKnown ts k keys known
    → ((i : ℕ) → i < length keys → is_key_among (key_at keys i) all ≡ true) → is_key_among no_key all ≡ false
    → mark_at (map is_unknown known) j ≡ is_open all k (key_at keys j)
marks_in all ts k [] [] j h among none = sym (closed_key all k no_key none)
marks_in all ts k [] (o ∷ known) j h among none = absurd h
marks_in all ts k (key ∷ keys) [] j h among none = absurd h
marks_in all ts k (key ∷ keys) (o ∷ known) zero h among none =
    unknown_type ts o ∙ ap (λ (t : Option Ty). not (is_there t)) (sym h.0) ∙ sym (open_key all k key (among 0 (omega arith)))
marks_in all ts k (key ∷ keys) (o ∷ known) (suc j) h among none =
    marks_in all ts k keys known j h.1 (λ i lt. among (suc i) (omega (arith, lt))) none

pub marks_open : (ts : List Ty) (keys : List Key) (k : List KnownType) (known : List (Option ℕ)) → Knows ts keys k known
    → is_key_among no_key keys ≡ false → Marks keys (map is_unknown known) (is_open keys k)
marks_open ts keys k known h none = λ j. marks_in keys ts k keys known j h.each (key_among keys) none

-- ---- one more

known_others : (ts : List Ty) (k : List KnownType) (x : KnownType) (keys : List Key) (known : List (Option ℕ)) → AreKnown ts k keys known
    → ((j : ℕ) → j < length keys → same_key (key_at keys j) x.key ≡ false) → AreKnown ts (k ++ x ∷ []) keys known
known_others ts k x [] [] h n = tt
known_others ts k x [] (o ∷ known) h n = absurd h
known_others ts k x (key ∷ keys) [] h n = absurd h
known_others ts k x (key ∷ keys) (o ∷ known) h n =
    (meaning_other key k x (n 0 (omega arith)) ∙ h.0, known_others ts k x keys known h.1 (λ j lt. n (suc j) (omega (arith, lt))))

known_next : (ts : List Ty) (k : List KnownType) (x : KnownType) (id : ℕ) (keys : List Key) (known : List (Option ℕ)) (number : ℕ)
    → AreKnown ts k keys known → number < length keys → x.key ≡ key_at keys number → x.means ≡ type_at ts id → meaning_in x.key k ≡ None
    → ((j : ℕ) → j < length keys → same_key (key_at keys j) x.key ≡ true → j ≡ number)
    → AreKnown ts (k ++ x ∷ []) keys (slice_set known number (Some id))
known_next ts k x id [] known number h lt is means none differ = absurd (omega (arith, lt))
known_next ts k x id (key ∷ keys) [] number h lt is means none differ = absurd h
known_next ts k x id (key ∷ keys) (o ∷ known) zero h lt is means none differ = (
  ap (λ z. meaning_in z (k ++ x ∷ [])) (sym is) ∙ meaning_new k x none ∙ ap Some means,
  known_others ts k x keys known h.1 (λ j l. false_from_ne_true (same_key (key_at keys j) x.key) (λ e.
      let n = differ (suc j) (omega (arith, l)) e in
      omega (arith, n))),
)
known_next ts k x id (key ∷ keys) (o ∷ known) (suc number) h lt is means none differ = (
  meaning_other key k x (false_from_ne_true (same_key key x.key) (λ e.
      let n = differ 0 (omega arith) e in
      omega (arith, n))) ∙ h.0,
  known_next ts k x id keys known number h.1 (omega (arith, lt)) is means none (λ j l e.
      let n = differ (suc j) (omega (arith, l)) e in
      omega (arith, n)),
)

pub knows_more : (ts : List Ty) (keys : List Key) (k : List KnownType) (x : KnownType) (id : ℕ) (known : List (Option ℕ)) (number : ℕ)
    → Knows ts keys k known → Differ keys → number < length keys → x.key ≡ key_at keys number → x.means ≡ type_at ts id
    → is_key_among x.key (known_keys k) ≡ false → Knows ts keys (k ++ x ∷ []) (slice_set known number (Some id))
knows_more ts keys k x id known number h differ lt is means new = record {
  each = known_next ts k x id keys known number h.each lt is means (none_there (meaning_in x.key k) (sym (known_is x.key k) ∙ new)) (λ j l e.
      differ j number l lt (ap (same_key (key_at keys j)) (sym is) ∙ e));
  only = λ key out.
      meaning_other key k x (false_from_ne_true (same_key key x.key) (λ e.
      both true (sym (ap (λ z. is_key_among z keys) (one_key key x.key e ∙ is) ∙ key_among keys number lt) ∙ out) refl))
      ∙ h.only key out;
}
  where
    none_there : (o : Option Ty) → is_there o ≡ false → o ≡ None
    none_there None e = refl
    none_there (Some t) e = cc

    both : (b : Bool) → b ≡ false → b ≡ true → ⊥
    both b e f = cc

pub facts_more : (k : List KnownType) (x : KnownType) → known_facts (k ++ x ∷ []) ≡ known_facts k ++ x.says
facts_more [] x = nil_end x.says
  where
    nil_end : (fs : Facts) → fs ++ [] ≡ fs
    nil_end [] = refl
    nil_end (f ∷ fs) = ap (λ all. f ∷ all) (nil_end fs)
facts_more (y ∷ k) x = ap (λ fs. y.says ++ fs) (facts_more k x) ∙ sym (append_assoc y.says (known_facts k) x.says)

-- ---- in the order of the definitions

through_last : (section : List Key) (read : List Defined) (known : List KnownType) (xs : List Defined) (d : Defined)
    → known_through section read known (xs ++ d ∷ [])
    ≡ known_behind section (read ++ (xs ++ d ∷ [])) (known_through section read known xs)
through_last section read known [] d = refl
through_last section read known (x ∷ xs) d =
    let now = known_behind section (read ++ x ∷ []) known in
    through_last section (read ++ x ∷ []) now xs d
    ∙ ap (λ all. known_behind section all (known_through section (read ++ x ∷ []) now xs)) (append_assoc read (x ∷ []) (xs ++ d ∷ []))

pub of_last : (section : List Key) (xs : List Defined) (d : Defined)
    → known_of section (xs ++ d ∷ []) ≡ known_behind section (xs ++ d ∷ []) (known_of section xs)
of_last section xs d = through_last section [] [] xs d

pub next_holds : (f : Key → Bool) (all : List Defined) (x : Defined) → next_in f all ≡ Some x → f x.key ≡ true
next_holds f [] x e = absurd (none-some x e)
next_holds f (d ∷ rest) x e = by_first (f d.key) refl e (λ g. next_holds f rest x g)
  where
    by_first : (b : Bool) → f d.key ≡ b → (if b then Some d else next_in f rest) ≡ Some x → (next_in f rest ≡ Some x → f x.key ≡ true)
        → f x.key ≡ true
    by_first true h g go = ap (λ (z : Defined). f z.key) (sym (same_Some d x g)) ∙ h
    by_first false h g go = go g

pub next_new : (section : List Key) (all : List Defined) (k : List KnownType) (key : Key) → is_next_key section all k key ≡ true
    → is_key_among key (known_keys k) ≡ false
next_new section all k key h = by_known (is_key_among key (known_keys k)) (is_made_of (is_usable section k) (meant_in key all)) h
  where
    by_known : (b c : Bool) → (not b && c) ≡ true → b ≡ false
    by_known true c e = cc
    by_known false c e = refl
