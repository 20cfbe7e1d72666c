-- What types are made of and which are known: what is computed is the least set.
use Rattle.std.proofs.Common.{◌≡◌, ℕ, zero, suc, ◌≤◌, Bool, true, false, List, [], ◌∷◌, ◌++◌, length, refl, sym, ap, subst, ◌∙◌, inl, inr}
use Rattle.std.proofs.Common.{append-nil, append_assoc, arith}
use Rattle.std.proofs.lemmas.Option.{none-some, same_Some}
use Rattle.std.specs.Prelude.{◌⊎◌, not, ◌||◌, ◌&&◌, if◌then◌else◌, Option, Some, None, Ok}
use Rattle.arc_base.specs.declared.place.Place.{Place}
use Rattle.arc_base.specs.declared.place.Code.TheVariants.{NotTyped}
use Rattle.arc_base.specs.Refusal.{IsRefusal}
use Rattle.expr_rules.specs.Answers.{Answer}
use Rattle.nim_types.specs.Types as type
use Rattle.nim_types.specs.Types.{Ty, Tys, Key, same_key}
use Rattle.nim_types.proofs.ForCallers.{same_sound, same_refl}
use Rattle.decl_rules.specs.Meanings.{Meant, Defined, meant_in, made_of, occurs, occurs_in, occurs_in_any, contains, is_key_among, is_made_of}
use Rattle.decl_rules.specs.Meanings.{KnownType, known_keys, is_usable, is_next, next_in, as_known, known_more, and_known, known_behind}
use Rattle.decl_rules.specs.Meanings.{known_through, known_of}
use Rattle.decl_rules.specs.Parts.{Occurs, o_name, o_sequence, o_array, o_tuple, o_object, OccursAmong, o_first, o_rest, OccursInAny, o_in_first, o_in_rest}
use Rattle.decl_rules.specs.Parts.{Contains, c_part, c_through, IsKnown, k_known, ContainmentFound, KnownFound}
use Rattle.decl_rules.specs.Sections.{containment_rule}
use Rattle.decl_rules.specs.Parts.{NoneContainsItself, n_none, n_more, FirstContainsItself, n_itself, n_later}
use Rattle.decl_rules.proofs.Means.{Means, m_ok, means_then, means_map, IsAt, is_at, at_once, tested, holding, failing, bind_ok, bind_err}
use Rattle.decl_rules.proofs.Least.{either_way, no_bool, IsIn, here, further, nowhere, count, count_most, count_less, Grows, stable}

-- ---- bools

by_or : (b : Bool) {c : Bool} → (b || c) ≡ true → (b ≡ true) ⊎ (c ≡ true)
by_or true e = inl refl
by_or false e = inr e

or_left : {b : Bool} (c : Bool) → b ≡ true → (b || c) ≡ true
or_left c e = ap (λ b. b || c) e

or_right : (b : Bool) {c : Bool} → c ≡ true → (b || c) ≡ true
or_right true e = refl
or_right false e = e

not_false : {b : Bool} → b ≡ false → not b ≡ true
not_false e = ap not e

not_true : (b : Bool) → not b ≡ true → b ≡ false
not_true true e = cc
not_true false e = refl

no_false : (b : Bool) → not b ≡ false → b ≡ true
no_false true e = refl
no_false false e = cc

-- ---- keys

one_key : {a b : Key} → type.distinct a ≡ type.distinct b → a ≡ b
one_key e = cc

key_sound : (a b : Key) → same_key a b ≡ true → a ≡ b
key_sound a b e = one_key (same_sound (type.distinct a) (type.distinct b) e)

key_refl : (a : Key) → same_key a a ≡ true
key_refl a = same_refl (type.distinct a)

-- ---- names in types

abbrev Found : (Key → Bool) → (Key → Type 0) → Type 0
Found f P = (k : Key) × P k × (f k ≡ true)

mutual
  occurs_found : (f : Key → Bool) (t : Ty) → occurs f t ≡ true → Found f (λ k. Occurs k t)
  occurs_found f (type.sequence t) e = let r = occurs_found f t e in (r.0, o_sequence r.1, r.2)
  occurs_found f (type.array n t) e = let r = occurs_found f t e in (r.0, o_array r.1, r.2)
  occurs_found f (type.tuple names ts) e = let r = among_found f ts e in (r.0, o_tuple r.1, r.2)
  occurs_found f (type.object key ts) e = let r = among_found f ts e in (r.0, o_object r.1, r.2)
  occurs_found f (type.distinct key) e = (key, o_name, e)
  occurs_found f (type.ref name t) e = cc
  occurs_found f type.int e = cc
  occurs_found f type.bool e = cc
  occurs_found f type.char e = cc
  occurs_found f type.text e = cc
  occurs_found f (type.parameter n) e = cc
  occurs_found f (type.enum key) e = cc
  occurs_found f (type.exception key) e = cc

  among_found : (f : Key → Bool) (ts : Tys) → occurs_in f ts ≡ true → Found f (λ k. OccursAmong k ts)
  among_found f type.no_types e = cc
  among_found f (type.types t ts) e = by_first (occurs_found f t) (among_found f ts) (by_or (occurs f t) e)
    where
      by_first : (occurs f t ≡ true → Found f (λ k. Occurs k t)) → (occurs_in f ts ≡ true → Found f (λ k. OccursAmong k ts))
          → (occurs f t ≡ true) ⊎ (occurs_in f ts ≡ true) → Found f (λ k. OccursAmong k (type.types t ts))
      by_first first rest (inl h) = let r = first h in (r.0, o_first r.1, r.2)
      by_first first rest (inr h) = let r = rest h in (r.0, o_rest r.1, r.2)

any_found : (f : Key → Bool) (ts : List Ty) → occurs_in_any f ts ≡ true → Found f (λ k. OccursInAny k ts)
any_found f [] e = cc
any_found f (t ∷ ts) e = by_first (any_found f ts) (by_or (occurs f t) e)
  where
    by_first : (occurs_in_any f ts ≡ true → Found f (λ k. OccursInAny k ts)) → (occurs f t ≡ true) ⊎ (occurs_in_any f ts ≡ true)
        → Found f (λ k. OccursInAny k (t ∷ ts))
    by_first rest (inl h) = let r = occurs_found f t h in (r.0, o_in_first r.1, r.2)
    by_first rest (inr h) = let r = rest h in (r.0, o_in_rest r.1, r.2)

mutual
  found_occurs : {k : Key} {t : Ty} (f : Key → Bool) → Occurs k t → f k ≡ true → occurs f t ≡ true
  found_occurs f o_name e = e
  found_occurs f (o_sequence h) e = found_occurs f h e
  found_occurs f (o_array h) e = found_occurs f h e
  found_occurs f (o_tuple h) e = found_among f h e
  found_occurs f (o_object h) e = found_among f h e

  found_among : {k : Key} {ts : Tys} (f : Key → Bool) → OccursAmong k ts → f k ≡ true → occurs_in f ts ≡ true
  found_among f (o_first {ts = ts} h) e = or_left (occurs_in f ts) (found_occurs f h e)
  found_among f (o_rest {t = t} h) e = or_right (occurs f t) (found_among f h e)

found_any : {k : Key} {ts : List Ty} (f : Key → Bool) → OccursInAny k ts → f k ≡ true → occurs_in_any f ts ≡ true
found_any f (o_in_first {ts = ts} h) e = or_left (occurs_in_any f ts) (found_occurs f h e)
found_any f (o_in_rest {t = t} h) e = or_right (occurs f t) (found_any f h e)

-- ---- definitions

abbrev key_in : Defined → Key
key_in d = d.key

abbrev IsDefined : Key → List Defined → Type 0
IsDefined key all = (d : Defined) × IsIn d all × (key_in d ≡ key)

defined_or : (key : Key) (all : List Defined) → IsDefined key all ⊎ (meant_in key all ≡ None)
defined_or key [] = inr refl
defined_or key (d ∷ rest) = by_first (either_way (same_key key d.key)) (defined_or key rest)
  where
    by_first : (same_key key d.key ≡ true) ⊎ (same_key key d.key ≡ false) → IsDefined key rest ⊎ (meant_in key rest ≡ None)
        → IsDefined key (d ∷ rest) ⊎ (meant_in key (d ∷ rest) ≡ None)
    by_first (inl h) more = inl (d, here, sym (key_sound key d.key h))
    by_first (inr h) (inl more) = inl (more.0, further more.1, more.2)
    by_first (inr h) (inr e) = inr (ap (λ b. if b then Some d.meant else meant_in key rest) h ∙ e)

-- ---- what types contain

abbrev inner_or : Key → (Key → Bool) → Key → Bool
inner_or inner f key = if same_key key inner then true else f key

by_inner : (inner key : Key) (f : Key → Bool) → inner_or inner f key ≡ true → (key ≡ inner) ⊎ (f key ≡ true)
by_inner inner key f e = by_same (either_way (same_key key inner))
  where
    by_same : (same_key key inner ≡ true) ⊎ (same_key key inner ≡ false) → (key ≡ inner) ⊎ (f key ≡ true)
    by_same (inl h) = inl (key_sound key inner h)
    by_same (inr h) = inr (sym (ap (λ b. if b then true else f key) h) ∙ e)

inner_itself : (inner : Key) (f : Key → Bool) → inner_or inner f inner ≡ true
inner_itself inner f = ap (λ b. if b then true else f inner) (key_refl inner)

inner_through : (inner key : Key) (f : Key → Bool) → f key ≡ true → inner_or inner f key ≡ true
inner_through inner key f e = by_same (same_key key inner)
  where
    by_same : (b : Bool) → ◌≡◌ {A = Bool} (if b then true else f key) true
    by_same true = refl
    by_same false = e

abbrev C : List Defined → Key → ℕ → Key → Bool
C all inner n outer = contains n all inner outer

contains_more : (all : List Defined) (inner : Key) (f h : Key → Bool) (ts : List Ty) → ((k : Key) → f k ≡ true → h k ≡ true)
    → occurs_in_any (inner_or inner f) ts ≡ true → occurs_in_any (inner_or inner h) ts ≡ true
contains_more all inner f h ts more e =
    let r = any_found (inner_or inner f) ts e in found_any (inner_or inner h) r.1 (by_part r.0 (by_inner inner r.0 f r.2))
  where
    by_part : (k : Key) → (k ≡ inner) ⊎ (f k ≡ true) → inner_or inner h k ≡ true
    by_part k (inl s) = subst (λ x. inner_or inner h x ≡ true) (sym s) (inner_itself inner h)
    by_part k (inr m) = inner_through inner k h (more k m)

contains_grows : (all : List Defined) (inner : Key) → Grows key_in all (C all inner)
contains_grows all inner =
    record {
      none = λ a. refl;
      step = λ n m more a e. contains_more all inner (C all inner n) (C all inner m) (made_of (meant_in a all)) more e;
      among = λ n a e. by_defined n a e (defined_or a all);
    }
  where
    by_defined : (n : ℕ) (a : Key) → C all inner (suc n) a ≡ true → IsDefined a all ⊎ (meant_in a all ≡ None) → IsDefined a all
    by_defined n a e (inl d) = d
    by_defined n a e (inr s) = no_bool e (ap (λ m. occurs_in_any (inner_or inner (C all inner n)) (made_of m)) s)

contained_so : (all : List Defined) (inner : Key) (n : ℕ) (outer : Key) → C all inner n outer ≡ true → Contains all inner outer
contained_so all inner zero outer e = cc
contained_so all inner (suc n) outer e =
    let r = any_found (inner_or inner (C all inner n)) (made_of (meant_in outer all)) e in
    by_part r.0 r.1 (contained_so all inner n r.0) (by_inner inner r.0 (C all inner n) r.2)
  where
    by_part : (k : Key) → OccursInAny k (made_of (meant_in outer all)) → (C all inner n k ≡ true → Contains all inner k)
        → (k ≡ inner) ⊎ (C all inner n k ≡ true) → Contains all inner outer
    by_part k o more (inl s) = c_part (subst (λ x. OccursInAny x (made_of (meant_in outer all))) s o)
    by_part k o more (inr m) = c_through o (more m)

so_contained : {all : List Defined} {inner outer : Key} → Contains all inner outer → C all inner (length all) outer ≡ true
so_contained {all} {inner} {outer} (c_part o) =
    stable (contains_grows all inner) outer (found_any (inner_or inner (C all inner (length all))) o (inner_itself inner (C all inner (length all))))
so_contained {all} {inner} {outer} (c_through {between = k} o h) =
    stable (contains_grows all inner) outer
    (found_any (inner_or inner (C all inner (length all))) o (inner_through inner k (C all inner (length all)) (so_contained h)))

pub containment_found : ContainmentFound
containment_found all inner outer = (λ e. contained_so all inner (length all) outer e, λ h. so_contained h)

not_contained : (all : List Defined) (key : Key) → contains (length all) all key key ≡ false → Contains all key key → ⊥
not_contained all key e h = no_bool (so_contained h) e

contained : (all : List Defined) (key : Key) → (contains (length all) all key key ≡ true) ⊎ (contains (length all) all key key ≡ false)
contained all key = either_way (contains (length all) all key key)

not_so : (all : List Defined) (key : Key) → (Contains all key key → ⊥) → contains (length all) all key key ≡ false
not_so all key h = by_value (contained all key)
  where
    by_value : (contains (length all) all key key ≡ true) ⊎ (contains (length all) all key key ≡ false) → contains (length all) all key key ≡ false
    by_value (inl e) = absurd (h (contained_so all key (length all) key e))
    by_value (inr e) = e

abbrev ContainmentSo : List Defined → List Defined → Answer (Unit {0}) → Type 0
ContainmentSo all ds = Means (λ _. NoneContainsItself all ds) (λ c p. FirstContainsItself all ds p × IsAt NotTyped p c p)

pub containment_sound : (all ds : List Defined) → ContainmentSo all ds (containment_rule all ds)
containment_sound all [] = m_ok n_none
containment_sound all (d ∷ rest) =
    means_then (tested (not (contains (length all) all d.key d.key)) d.key.at)
    (λ _ e. means_map (containment_sound all rest) (λ _ h. n_more (not_contained all d.key (not_true _ e)) h)
    (λ c p r. (n_later (not_contained all d.key (not_true _ e)) r.0, r.1)))
    (λ c p r. at_once (λ c p. FirstContainsItself all (d ∷ rest) p × IsAt NotTyped p c p) r.1
    (n_itself (contained_so all d.key (length all) d.key (no_false _ r.0)), is_at))

pub containment_complete : (all : List Defined) {ds : List Defined} → NoneContainsItself all ds → containment_rule all ds ≡ Ok tt
containment_complete all n_none = refl
containment_complete all (n_more {d = d} h more) =
    bind_ok _ (holding d.key.at (not_false (not_so all d.key h))) (containment_complete all more)

pub no_containment_complete : (all : List Defined) {ds : List Defined} {p : Place} → FirstContainsItself all ds p
    → IsRefusal (containment_rule all ds) NotTyped p
no_containment_complete all (n_itself {d = d} h) = bind_err _ (failing d.key.at (ap not (so_contained h)))
no_containment_complete all (n_later {d = d} h more) =
    bind_ok _ (holding d.key.at (not_false (not_so all d.key h))) (no_containment_complete all more)

-- ---- which types are known

abbrev All : (Key → Bool) → Meant → Type 0
All f m = (k : Key) → OccursInAny k (made_of (Some m)) → f k ≡ true

made_all : (f : Key → Bool) (m : Meant) → is_made_of f (Some m) ≡ true → All f m
made_all f m e k o = by_value (either_way (f k))
  where
    by_value : (f k ≡ true) ⊎ (f k ≡ false) → f k ≡ true
    by_value (inl h) = h
    by_value (inr h) =
        no_bool (found_any (λ x. not (f x)) o (not_false h)) (not_true (occurs_in_any (λ x. not (f x)) (made_of (Some m))) e)

all_made : (f : Key → Bool) (m : Meant) → All f m → is_made_of f (Some m) ≡ true
all_made f m all = by_value (either_way (occurs_in_any (λ x. not (f x)) (made_of (Some m))))
  where
    by_value : (occurs_in_any (λ x. not (f x)) (made_of (Some m)) ≡ true) ⊎ (occurs_in_any (λ x. not (f x)) (made_of (Some m)) ≡ false)
        → is_made_of f (Some m) ≡ true
    by_value (inr h) = not_false h
    by_value (inl h) =
        let r = any_found (λ x. not (f x)) (made_of (Some m)) h in no_bool (all r.0 r.1) (not_true (f r.0) r.2)

-- it is defined, as made of what is meant
abbrev Made : (Key → Bool) → Key → List Defined → Type 0
Made f key all = (m : Meant) × (meant_in key all ≡ Some m) × All f m

made_so : (f : Key → Bool) (key : Key) (all : List Defined) → is_made_of f (meant_in key all) ≡ true → Made f key all
made_so f key all e = by_meant (meant_in key all) refl e
  where
    by_meant : (m : Option Meant) → meant_in key all ≡ m → is_made_of f m ≡ true → Made f key all
    by_meant None s e = cc
    by_meant (Some m) s e = (m, s, made_all f m e)

so_made : (f : Key → Bool) (key : Key) (all : List Defined) (m : Meant) → meant_in key all ≡ Some m → All f m
    → is_made_of f (meant_in key all) ≡ true
so_made f key all m s h = ap (λ x. is_made_of f x) s ∙ all_made f m h

-- ---- in the order in which they become known

abbrev Among : Key → List KnownType → Bool
Among key known = is_key_among key (known_keys known)

among_more : (key : Key) (known : List KnownType) (k : KnownType) → Among key known ≡ true → Among key (known ++ k ∷ []) ≡ true
among_more key [] k e = cc
among_more key (x ∷ known) k e = by_first (by_or (same_key key x.key) e) (among_more key known k)
  where
    by_first : (same_key key x.key ≡ true) ⊎ (Among key known ≡ true) → (Among key known ≡ true → Among key (known ++ k ∷ []) ≡ true)
        → Among key (x ∷ known ++ k ∷ []) ≡ true
    by_first (inl h) rest = or_left (Among key (known ++ k ∷ [])) h
    by_first (inr h) rest = or_right (same_key key x.key) (rest h)

among_last : (known : List KnownType) (k : KnownType) → Among k.key (known ++ k ∷ []) ≡ true
among_last [] k = or_left false (key_refl k.key)
among_last (x ∷ known) k = or_right (same_key k.key x.key) (among_last known k)

among_or : (key : Key) (known : List KnownType) (k : KnownType) → Among key (known ++ k ∷ []) ≡ true → (Among key known ≡ true) ⊎ (key ≡ k.key)
among_or key [] k e = by_last (by_or (same_key key k.key) e)
  where
    by_last : (same_key key k.key ≡ true) ⊎ (false ≡ true) → (Among key [] ≡ true) ⊎ (key ≡ k.key)
    by_last (inl h) = inr (key_sound key k.key h)
    by_last (inr h) = inl h
among_or key (x ∷ known) k e = by_first (by_or (same_key key x.key) e) (among_or key known k)
  where
    behind : (Among key known ≡ true) ⊎ (key ≡ k.key) → (Among key (x ∷ known) ≡ true) ⊎ (key ≡ k.key)
    behind (inl h) = inl (or_right (same_key key x.key) h)
    behind (inr h) = inr h

    by_first : (same_key key x.key ≡ true) ⊎ (Among key (known ++ k ∷ []) ≡ true)
        → (Among key (known ++ k ∷ []) ≡ true → (Among key known ≡ true) ⊎ (key ≡ k.key)) → (Among key (x ∷ known) ≡ true) ⊎ (key ≡ k.key)
    by_first (inl h) rest = inl (or_left (Among key known) h)
    by_first (inr h) rest = behind (rest h)

-- what comes next
next_so : (f : Key → Bool) (all : List Defined) (d : Defined) → next_in f all ≡ Some d → IsIn d all × (f d.key ≡ true)
next_so f [] d e = cc
next_so f (x ∷ rest) d e = by_first (f x.key) refl e (next_so f rest d)
  where
    by_first : (b : Bool) → f x.key ≡ b → (if b then Some x else next_in f rest) ≡ Some d
        → (next_in f rest ≡ Some d → IsIn d rest × (f d.key ≡ true)) → IsIn d (x ∷ rest) × (f d.key ≡ true)
    by_first true h e more = subst (λ y. IsIn y (x ∷ rest) × (f y.key ≡ true)) (same_Some x d e) (here, h)
    by_first false h e more = let r = more e in (further r.0, r.1)

in_or : {B : Type 0} {b c : B} {rest : List B} → IsIn b (c ∷ rest) → (b ≡ c) ⊎ IsIn b rest
in_or here = inl refl
in_or (further l) = inr l

next_none : (f : Key → Bool) (all : List Defined) → next_in f all ≡ None → (d : Defined) → IsIn d all → f d.key ≡ false
next_none f [] e d l = nowhere l
next_none f (x ∷ rest) e d l = by_first (f x.key) refl e (in_or l) (λ e l. next_none f rest e d l)
  where
    by_first : (b : Bool) → f x.key ≡ b → (if b then Some x else next_in f rest) ≡ None → (d ≡ x) ⊎ IsIn d rest
        → (next_in f rest ≡ None → IsIn d rest → f d.key ≡ false) → f d.key ≡ false
    by_first true h e l more = absurd (none-some x (sym e))
    by_first false h e (inl i) more = ap (λ y. f y.key) i ∙ h
    by_first false h e (inr l) more = more e l

both_true : (a : Bool) {b : Bool} → (a && b) ≡ true → (a ≡ true) × (b ≡ true)
both_true true e = (refl, e)
both_true false e = cc

both_hold : {a b : Bool} → a ≡ true → b ≡ true → (a && b) ≡ true
both_hold {a} {b} e f = ap (λ x. x && b) e ∙ f

usable_so : (section : List Key) (known : List KnownType) (k : Key) → is_usable section known k ≡ true → is_key_among k section ≡ true
    → Among k known ≡ true
usable_so section known k e among = by_part (by_or (not (is_key_among k section)) e)
  where
    by_part : (not (is_key_among k section) ≡ true) ⊎ (Among k known ≡ true) → Among k known ≡ true
    by_part (inl h) = no_bool among (not_true (is_key_among k section) h)
    by_part (inr h) = h

-- ---- what becomes known is so

abbrev Sound : List Key → List Defined → List KnownType → Type 0
Sound section all known = (key : Key) → Among key known ≡ true → IsKnown section all key

one_sound : (section : List Key) (all : List Defined) (known : List KnownType) (d : Defined) → Sound section all known
    → is_next section all known d.key ≡ true → Sound section all (known ++ as_known known d ∷ [])
one_sound section all known d h e key among = by_last (among_or key known (as_known known d) among)
  where
    by_made : Made (is_usable section known) d.key all → IsKnown section all d.key
    by_made r = k_known r.1 (λ k s o. h k (usable_so section known k (r.2 k o) s))

    by_last : (Among key known ≡ true) ⊎ (key ≡ d.key) → IsKnown section all key
    by_last (inl m) = h key m
    by_last (inr m) =
        subst (λ k. IsKnown section all k) (sym m)
        (by_made (made_so (is_usable section known) d.key all (both_true (not (Among d.key known)) e).1))

more_sound : (n : ℕ) (section : List Key) (all : List Defined) (known : List KnownType) → Sound section all known
    → Sound section all (known_more n section all known)
more_sound zero section all known h = h
more_sound (suc n) section all known h = by_next (next_in (is_next section all known) all) refl (more_sound n section all)
  where
    by_next : (o : Option Defined) → next_in (is_next section all known) all ≡ o
        → ((known : List KnownType) → Sound section all known → Sound section all (known_more n section all known))
        → Sound section all (and_known (known_more n section all) known o)
    by_next None e more = h
    by_next (Some d) e more =
        more (known ++ as_known known d ∷ [])
        (one_sound section all known d h (next_so (is_next section all known) all d e).1)

meant_more : (key : Key) (all : List Defined) (d : Defined) (m : Meant) → meant_in key all ≡ Some m → meant_in key (all ++ d ∷ []) ≡ Some m
meant_more key [] d m e = absurd (none-some m e)
meant_more key (x ∷ all) d m e = by_first (same_key key x.key) e (meant_more key all d m)
  where
    by_first : (b : Bool) → (if b then Some x.meant else meant_in key all) ≡ Some m
        → (meant_in key all ≡ Some m → meant_in key (all ++ d ∷ []) ≡ Some m)
        → (if b then Some x.meant else meant_in key (all ++ d ∷ [])) ≡ Some m
    by_first true e rest = e
    by_first false e rest = rest e

still_known : {section : List Key} {all : List Defined} {key : Key} (d : Defined) → IsKnown section all key → IsKnown section (all ++ d ∷ []) key
still_known {all = all} {key = key} d (k_known {m = m} s rest) =
    k_known (meant_more key all d m s) (λ k among o. still_known d (rest k among o))

through_sound : (section : List Key) (read : List Defined) (known : List KnownType) (rest : List Defined) → Sound section read known
    → Sound section (read ++ rest) (known_through section read known rest)
through_sound section read known [] h = subst (λ all. Sound section all known) (sym (append-nil read)) h
through_sound section read known (d ∷ rest) h =
    let now = read ++ d ∷ [] in
    let more = known_behind section now known in
    subst (λ all. Sound section all (known_through section now more rest)) (append_assoc read (d ∷ []) rest)
    (through_sound section now more rest (more_sound (length now) section now known (λ key e. still_known d (h key e))))

-- ---- and nothing is left

abbrev Closed : List Key → List Defined → List KnownType → Type 0
Closed section all known = (d : Defined) → IsIn d all → is_next section all known d.key ≡ false

abbrev is_left : List KnownType → Defined → Bool
is_left known d = not (Among d.key known)

none_counted : (all : List Defined) (f : Defined → Bool) (d : Defined) → IsIn d all → count all f ≤ 0 → f d ≡ false
none_counted all f d l e = by_value (either_way (f d))
  where
    by_value : (f d ≡ true) ⊎ (f d ≡ false) → f d ≡ false
    by_value (inr h) = h
    by_value (inl h) = let less = count_less (λ x. false) f (λ x e. cc) l refl h in absurd (omega (arith, less, e))

left_less : (section : List Key) (all : List Defined) (known : List KnownType) (d : Defined) → IsIn d all → is_next section all known d.key ≡ true
    → suc (count all (is_left (known ++ as_known known d ∷ []))) ≤ count all (is_left known)
left_less section all known d l e =
    let k = as_known known d in
    count_less (is_left (known ++ k ∷ [])) (is_left known) (λ x h. still_left x (either_way (Among x.key known)) h) l (ap not (among_last known k))
    (both_true (not (Among d.key known)) e).0
  where
    still_left : (x : Defined) → (Among x.key known ≡ true) ⊎ (Among x.key known ≡ false) → is_left (known ++ as_known known d ∷ []) x ≡ true
        → is_left known x ≡ true
    still_left x (inl m) h =
        no_bool (among_more x.key known (as_known known d) m) (not_true (Among x.key (known ++ as_known known d ∷ [])) h)
    still_left x (inr m) h = not_false m

not_next : (section : List Key) (all : List Defined) (known : List KnownType) (d : Defined) → is_left known d ≡ false
    → is_next section all known d.key ≡ false
not_next section all known d e = ap (λ b. b && is_made_of (is_usable section known) (meant_in d.key all)) e

more_closed : (n : ℕ) (section : List Key) (all : List Defined) (known : List KnownType) → count all (is_left known) ≤ n
    → Closed section all (known_more n section all known)
more_closed zero section all known e = λ d l. not_next section all known d (none_counted all (is_left known) d l e)
more_closed (suc n) section all known e = by_next (next_in (is_next section all known) all) refl (more_closed n section all)
  where
    by_next : (o : Option Defined) → next_in (is_next section all known) all ≡ o
        → ((known : List KnownType) → count all (is_left known) ≤ n → Closed section all (known_more n section all known))
        → Closed section all (and_known (known_more n section all) known o)
    by_next None s more = next_none (is_next section all known) all s
    by_next (Some d) s more =
        let r = next_so (is_next section all known) all d s in
        let less = left_less section all known d r.0 r.1 in
        more (known ++ as_known known d ∷ []) (omega (arith, less, e))

through_closed : (section : List Key) (read : List Defined) (known : List KnownType) (rest : List Defined) → Closed section read known
    → Closed section (read ++ rest) (known_through section read known rest)
through_closed section read known [] h = subst (λ all. Closed section all known) (sym (append-nil read)) h
through_closed section read known (d ∷ rest) h =
    let now = read ++ d ∷ [] in
    let more = known_behind section now known in
    subst (λ all. Closed section all (known_through section now more rest)) (append_assoc read (d ∷ []) rest)
    (through_closed section now more rest (more_closed (length now) section now known (count_most now (is_left known))))

none_next : (section : List Key) (all : List Defined) (known : List KnownType) (key : Key) → Closed section all known → IsDefined key all
    → is_next section all known key ≡ true → (A : Type 0) → A
none_next section all known key c d e A =
    no_bool (subst (λ k. is_next section all known k ≡ true) (sym d.2) e) (c d.0 d.1)

abbrev AllAmong : List Key → List KnownType → Meant → Type 0
AllAmong section known m = (k : Key) → is_key_among k section ≡ true → OccursInAny k (made_of (Some m)) → Among k known ≡ true

so_known : {section : List Key} {all : List Defined} {key : Key} (known : List KnownType) → Closed section all known → IsKnown section all key
    → Among key known ≡ true
so_known {section} {all} {key} known c (k_known {m = m} s rest) =
    by_value (λ k h o. so_known known c (rest k h o)) (either_way (Among key known))
  where
    usable : (k : Key) → (is_key_among k section ≡ true → Among k known ≡ true)
        → (is_key_among k section ≡ true) ⊎ (is_key_among k section ≡ false) → is_usable section known k ≡ true
    usable k more (inl h) = or_right (not (is_key_among k section)) (more h)
    usable k more (inr h) = or_left (Among k known) (not_false h)

    made : AllAmong section known m → is_made_of (is_usable section known) (meant_in key all) ≡ true
    made more = so_made (is_usable section known) key all m s (λ k o. usable k (λ h. more k h o) (either_way (is_key_among k section)))

    by_defined : AllAmong section known m → Among key known ≡ false → IsDefined key all ⊎ (meant_in key all ≡ None) → Among key known ≡ true
    by_defined more e (inl d) = none_next section all known key c d (both_hold (not_false e) (made more)) (Among key known ≡ true)
    by_defined more e (inr n) = absurd (none-some m (sym n ∙ s))

    by_value : AllAmong section known m → (Among key known ≡ true) ⊎ (Among key known ≡ false) → Among key known ≡ true
    by_value more (inl h) = h
    by_value more (inr h) = by_defined more h (defined_or key all)

pub known_found : KnownFound
known_found section all key = (
  λ e. through_sound section [] [] all (λ k h. cc) key e,
  λ h. so_known (known_of section all) (through_closed section [] [] all (λ d l. nowhere l)) h,
)
