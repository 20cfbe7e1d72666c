-- What is known of the types of a section is sound: each becomes known behind all that it is made of.
use Rattle.std.proofs.Common.{◌≡◌, ℕ, zero, suc, Bool, true, false, List, [], ◌∷◌, ◌++◌, length, Option, Some, None, refl, sym, ap, subst, ◌∙◌, inl, inr}
use Rattle.std.proofs.Common.{append_assoc, append-nil}
use Rattle.std.specs.Prelude.{◌⊎◌, not, ◌||◌, if◌then◌else◌}
use Rattle.std.proofs.lemmas.Bool.{and_parts, or_parts}
use Rattle.nim_types.specs.Types as type
use Rattle.nim_types.specs.Types.{Ty, Key, members, fields, base, Declared, Facts, fact_of, same_key}
use Rattle.nim_types.specs.Forms.{types_of}
use Rattle.decl_rules.specs.Meanings.{Meant, an_object, an_enum, a_distinct, an_alias, Defined, meant_in, KnownType, meaning_in, resolved, resolved_fields}
use Rattle.decl_rules.specs.Meanings.{meaning_of, facts_of, as_known, known_facts, made_of, occurs, occurs_in_any, is_made_of, known_keys, is_key_among}
use Rattle.decl_rules.specs.Meanings.{is_usable, is_next, next_in, and_known, known_more, known_behind, known_through, known_of}
use Rattle.typing_laws.specs.Sound.{Sound, AllSound, are_members, is_said, AreSound}
use Rattle.typing_laws.proofs.Tests.{never, ever, some_one, none_some}
use Rattle.typing_laws.proofs.Growing.{sound_grown}
use Rattle.typing_laws.proofs.Further.{AllSaid, said_before, said_there, all_behind}
use Rattle.typing_laws.proofs.Saying.{said_sound, MadeOf, one_more_sound}
use Rattle.typing_laws.proofs.Resolving.{key_sound, key_refl, with_names, Means, resolved_sound, fields_resolved}

-- ---- definitions

abbrev pub AllDefined : (Defined → Type 0) → List Defined → Type 0
AllDefined holds [] = Unit {0}
AllDefined holds (d ∷ rest) = holds d × AllDefined holds rest

pub all_defined_more : (holds : Defined → Type 0) (all : List Defined) (d : Defined) → AllDefined holds all → holds d → AllDefined holds (all ++ d ∷ [])
all_defined_more holds [] d h k = (k, tt)
all_defined_more holds (x ∷ all) d h k = (h.0, all_defined_more holds all d h.1 k)

pub meant_more : (key : Key) (all : List Defined) (d : Defined) (m : Meant) → meant_in key all ≡ Some m → meant_in key (all ++ d ∷ []) ≡ Some m
meant_more key [] d m e = none_some e
meant_more key (x ∷ all) d m e = by_test (same_key key x.key) e (meant_more key all d m)
  where
    by_test : (b : Bool) → (if b then Some x.meant else meant_in key all) ≡ Some m
        → (meant_in key all ≡ Some m → meant_in key (all ++ d ∷ []) ≡ Some m)
        → (if b then Some x.meant else meant_in key (all ++ d ∷ [])) ≡ Some m
    by_test true e rest = e
    by_test false e rest = rest e

-- the one that comes next
record Next (f : Key → Bool) (holds : Defined → Type 0) (all : List Defined) (d : Defined) : Type 0 where
  next : f d.key ≡ true
  meant : meant_in d.key all ≡ Some d.meant
  fine : holds d

next_is : (f : Key → Bool) (holds : Defined → Type 0) (all : List Defined) (d : Defined) → AllDefined holds all → next_in f all ≡ Some d
    → Next f holds all d
next_is f holds [] d h e = none_some e
next_is f holds (x ∷ all) d h e = by_first (f x.key) refl e (next_is f holds all d h.1)
  where
    first : Next f holds (x ∷ all) x → x ≡ d → Next f holds (x ∷ all) d
    first n i = subst (Next f holds (x ∷ all)) i n

    itself : f x.key ≡ true → Next f holds (x ∷ all) x
    itself i = record { next = i; meant = ap (λ b. if b then Some x.meant else meant_in x.key all) (key_refl x.key); fine = h.0 }

    other : f x.key ≡ false → f d.key ≡ true → (b : Bool) → same_key d.key x.key ≡ b → b ≡ false
    other n i false s = refl
    other n i true s = ever (sym i ∙ subst (λ k. f k ≡ false) (sym (key_sound d.key x.key s)) n)

    further : f x.key ≡ false → Next f holds all d → Next f holds (x ∷ all) d
    further n r =
        record {
          next = r.next;
          meant = ap (λ b. if b then Some x.meant else meant_in d.key all) (other n r.next (same_key d.key x.key) refl) ∙ r.meant;
          fine = r.fine;
        }

    by_first : (b : Bool) → f x.key ≡ b → (if b then Some x else next_in f all) ≡ Some d → (next_in f all ≡ Some d → Next f holds all d)
        → Next f holds (x ∷ all) d
    by_first true i e rest = first (itself i) (some_one e)
    by_first false i e rest = further i (rest e)

-- ---- one becomes known

-- what a definition says, with names of the section in it
abbrev pub IsFine : Facts → Meant → Type 0
IsFine g (an_object all) = AllSound g (types_of all)
IsFine g (an_enum names) = are_members names ≡ true
IsFine g (a_distinct t) = Sound g t
IsFine g (an_alias t) = Sound g t

-- with what it says, what is said is sound, and so is what its name means
record Behind (h : Facts) (known : List KnownType) (key : Key) (m : Meant) : Type 0 where
  facts : AreSound (h ++ facts_of known key m)
  means : Sound (h ++ facts_of known key m) (meaning_of known key m)

-- one that is declared
record Joined (h : Facts) (x : Declared) : Type 0 where
  facts : AreSound (h ++ x ∷ [])
  means : Sound (h ++ x ∷ []) x.of

joined : (h : Facts) (x : Declared) → AreSound h → is_said x.of x.fact ≡ true → MadeOf h x.fact → Joined h x
joined h x sound is made =
    let more = one_more_sound h x sound is made in
    let said = said_there h x [] in
    record { facts = more; means = said_sound (h ++ x ∷ []) more.said x.of said.0 said.1 }

not_true : (b : Bool) → not b ≡ true → b ≡ false
not_true true e = never e
not_true false e = refl

-- ---- in their order

abbrev pub AllKnown : (KnownType → Type 0) → List KnownType → Type 0
AllKnown holds [] = Unit {0}
AllKnown holds (k ∷ rest) = holds k × AllKnown holds rest

all_known_more : (holds : KnownType → Type 0) (known : List KnownType) (k : KnownType) → AllKnown holds known → holds k → AllKnown holds (known ++ k ∷ [])
all_known_more holds [] k h i = (i, tt)
all_known_more holds (x ∷ known) k h i = (h.0, all_known_more holds known k h.1 i)

-- it says what the definition of its name does
pub record KnownBy (read : List Defined) (k : KnownType) : Type 0 where
  pub before : List KnownType
  pub m : Meant
  pub meant : meant_in k.key read ≡ Some m
  pub says : k.says ≡ facts_of before k.key m

by_more : (read : List Defined) (d : Defined) (known : List KnownType) → AllKnown (KnownBy read) known → AllKnown (KnownBy (read ++ d ∷ [])) known
by_more read d [] h = tt
by_more read d (k ∷ known) h =
    let b = h.0 in
    (record { before = b.before; m = b.m; meant = meant_more k.key read d b.m b.meant; says = b.says }, by_more read d known h.1)

facts_more : (known : List KnownType) (k : KnownType) → known_facts (known ++ k ∷ []) ≡ known_facts known ++ k.says
facts_more [] k = append-nil k.says
facts_more (x ∷ known) k = ap (λ l. x.says ++ l) (facts_more known k) ∙ sym (append_assoc x.says (known_facts known) k.says)

meaning_or : (key : Key) (known : List KnownType) (k : KnownType) (ty : Ty) → meaning_in key (known ++ k ∷ []) ≡ Some ty
    → (meaning_in key known ≡ Some ty) ⊎ (k.means ≡ ty)
meaning_or key [] k ty e = by_test (same_key key k.key) e
  where
    by_test : (b : Bool) → (if b then Some k.means else None) ≡ Some ty → (meaning_in key [] ≡ Some ty) ⊎ (k.means ≡ ty)
    by_test true e = inr (some_one e)
    by_test false e = none_some e
meaning_or key (x ∷ known) k ty e = by_test (same_key key x.key) e (meaning_or key known k ty)
  where
    by_test : (b : Bool) → (if b then Some x.means else meaning_in key (known ++ k ∷ [])) ≡ Some ty
        → (meaning_in key (known ++ k ∷ []) ≡ Some ty → (meaning_in key known ≡ Some ty) ⊎ (k.means ≡ ty))
        → ((if b then Some x.means else meaning_in key known) ≡ Some ty) ⊎ (k.means ≡ ty)
    by_test true e rest = inl e
    by_test false e rest = rest e

module _ (f : Facts) (sound : AreSound f) (section : List Key) where
  abbrev pub FineIn : Defined → Type 0
  FineIn d = IsFine (with_names f section) d.meant

  pub record KnownSound (read : List Defined) (known : List KnownType) : Type 0 where
    pub facts : AreSound (f ++ known_facts known)
    pub means : Means (f ++ known_facts known) known
    pub by : AllKnown (KnownBy read) known

  becomes : (known : List KnownType) (key : Key) (m : Meant) → AreSound (f ++ known_facts known) → Means (f ++ known_facts known) known
      → IsFine (with_names f section) m → occurs_in_any (λ k. not (is_usable section known k)) (made_of (Some m)) ≡ false
      → Behind (f ++ known_facts known) known key m
  becomes known key (an_object all) s means fine e =
      let h = f ++ known_facts known in
      let made = fields_resolved f h section known sound (said_before f (known_facts known)) means all fine e in
      let j =
      joined h (record { of = type.object key type.no_types; fact = fields (resolved_fields known all) false }) s refl made in
      record { facts = j.facts; means = j.means }
  becomes known key (an_enum names) s means fine e =
      let j = joined (f ++ known_facts known) (record { of = type.enum key; fact = members names }) s fine tt in
      record { facts = j.facts; means = j.means }
  becomes known key (a_distinct t) s means fine e =
      let h = f ++ known_facts known in
      let p = or_parts (occurs (λ k. not (is_usable section known k)) t) false e in
      let made = resolved_sound f h section known sound (said_before f (known_facts known)) means fine p.0 in
      let j = joined h (record { of = type.distinct key; fact = base (resolved known t) }) s refl made in
      record { facts = j.facts; means = j.means }
  becomes known key (an_alias t) s means fine e =
      let h = f ++ known_facts known in
      let p = or_parts (occurs (λ k. not (is_usable section known k)) t) false e in
      let made = resolved_sound f h section known sound (said_before f (known_facts known)) means fine p.0 in
      record {
        facts = subst AreSound (sym (append-nil h)) s;
        means = subst (λ l. Sound l (resolved known t)) (sym (append-nil h)) made;
      }

  one_more : (read : List Defined) (known : List KnownType) (d : Defined) → KnownSound read known → Next (is_next section read known) FineIn read d
      → KnownSound read (known ++ as_known known d ∷ [])
  one_more read known d s n =
      let h = f ++ known_facts known in
      let k = as_known known d in
      let p = and_parts (not (is_key_among d.key (known_keys known))) (is_made_of (is_usable section known) (meant_in d.key read)) n.next in
      let made : is_made_of (is_usable section known) (Some d.meant) ≡ true = subst (λ o. is_made_of (is_usable section known) o ≡ true) n.meant p.1 in
      let r =
      becomes known d.key d.meant s.facts s.means n.fine
      (not_true (occurs_in_any (λ x. not (is_usable section known x)) (made_of (Some d.meant))) made) in
      let same : f ++ known_facts (known ++ k ∷ []) ≡ h ++ k.says =
      ap (λ l. f ++ l) (facts_more known k) ∙ sym (append_assoc f (known_facts known) k.says) in
      record {
        facts = subst AreSound (sym same) r.facts;
        means = λ key ty e. subst (λ l. Sound l ty) (sym same) (by_which key ty r.means (meaning_or key known k ty e));
        by = all_known_more (KnownBy read) known k s.by (record { before = known; m = d.meant; meant = n.meant; says = refl });
      }
    where
      by_which : (key : Key) (ty : Ty) → Sound ((f ++ known_facts known) ++ facts_of known d.key d.meant) (meaning_of known d.key d.meant)
          → (meaning_in key known ≡ Some ty) ⊎ (meaning_of known d.key d.meant ≡ ty)
          → Sound ((f ++ known_facts known) ++ facts_of known d.key d.meant) ty
      by_which key ty last (inl i) =
          sound_grown (said_before (f ++ known_facts known) (facts_of known d.key d.meant)) (s.means key ty i)
      by_which key ty last (inr i) = subst (Sound ((f ++ known_facts known) ++ facts_of known d.key d.meant)) i last

  more_known : (n : ℕ) (read : List Defined) (known : List KnownType) → AllDefined FineIn read → KnownSound read known
      → KnownSound read (known_more n section read known)
  more_known zero read known fine s = s
  more_known (suc n) read known fine s = by_next (next_in (is_next section read known) read) refl (more_known n read)
    where
      by_next : (o : Option Defined) → next_in (is_next section read known) read ≡ o
          → ((known : List KnownType) → AllDefined FineIn read → KnownSound read known → KnownSound read (known_more n section read known))
          → KnownSound read (and_known (known_more n section read) known o)
      by_next None e more = s
      by_next (Some d) e more =
          more (known ++ as_known known d ∷ []) fine
          (one_more read known d s (next_is (is_next section read known) FineIn read d fine e))

  through_known : (read : List Defined) (known : List KnownType) (rest : List Defined) → AllDefined FineIn read → AllDefined FineIn rest
      → KnownSound read known → KnownSound (read ++ rest) (known_through section read known rest)
  through_known read known [] fine more s = subst (λ all. KnownSound all known) (sym (append-nil read)) s
  through_known read known (d ∷ rest) fine more s =
      let now = read ++ d ∷ [] in
      let all = all_defined_more FineIn read d fine more.0 in
      let next : KnownSound now known = record { facts = s.facts; means = s.means; by = by_more read d known s.by } in
      subst (λ all. KnownSound all (known_through section now (known_behind section now known) rest)) (append_assoc read (d ∷ []) rest)
      (through_known now (known_behind section now known) rest all more.1 (more_known (length now) now known all next))

  pub known_sound : (all : List Defined) → AllDefined FineIn all → KnownSound all (known_of section all)
  known_sound all fine =
      through_known [] [] all tt fine (record { facts = subst AreSound (sym (append-nil f)) sound; means = λ key ty e. none_some e; by = tt })

-- ---- enums

-- where all that is known is said, so are the members of each enum that is known
pub members_said : (h : Facts) (read : List Defined) (known : List KnownType) (key : Key) (names : List (List ℕ)) → AllKnown (KnownBy read) known
    → is_key_among key (known_keys known) ≡ true → meant_in key read ≡ Some (an_enum names) → AllSaid (known_facts known) h
    → fact_of h (type.enum key) ≡ Some (members names)
members_said h read [] key names b among m said = never among
members_said h read (k ∷ known) key names b among m said =
    by_test (same_key key k.key) refl among (λ i. members_said h read known key names b.1 i m (all_behind k.says (known_facts known) h said))
  where
    itself : key ≡ k.key → fact_of h (type.enum key) ≡ Some (members names)
    itself i =
        let one = b.0 in
        let same : one.m ≡ an_enum names = some_one (sym one.meant ∙ ap (λ x. meant_in x read) (sym i) ∙ m) in
        let says : k.says ≡ record { of = type.enum k.key; fact = members names } ∷ [] = one.says ∙ ap (facts_of one.before k.key) same in
        let r : AllSaid (record { of = type.enum k.key; fact = members names } ∷ known_facts known) h =
        subst (λ l. AllSaid (l ++ known_facts known) h) says said in
        subst (λ x. fact_of h (type.enum x) ≡ Some (members names)) (sym i) r.0

    by_test : (c : Bool) → same_key key k.key ≡ c → (c || is_key_among key (known_keys known)) ≡ true
        → (is_key_among key (known_keys known) ≡ true → fact_of h (type.enum key) ≡ Some (members names))
        → fact_of h (type.enum key) ≡ Some (members names)
    by_test true i a rest = itself (key_sound key k.key i)
    by_test false i a rest = rest a
