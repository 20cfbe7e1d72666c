-- A section of types keeps what is known true.
use Rattle.std.proofs.Common.{◌≡◌, ℕ, true, List, [], ◌∷◌, ◌++◌, length, Option, Some, None, refl, sym, ap, subst, ◌∙◌, arith}
use Rattle.std.specs.Prelude.{pos}
use Rattle.std.proofs.lemmas.Bool.{leb-true, le-leb, lt-ltb}
use Rattle.indent_scanner.specs.Words.{normal}
use Rattle.nim_tree.specs.Types.{Declaration}
use Rattle.nim_types.specs.Types as type
use Rattle.nim_types.specs.Types.{Ty, Key, members, Facts, fact_of}
use Rattle.nim_program.specs.Ints.{fits}
use Rattle.nim_program.specs.Kinds.{declared_kind, is_value}
use Rattle.nim_program.specs.Scopes.{Here}
use Rattle.expr_rules.specs.Env.{Entry, Env}
use Rattle.decl_rules.specs.Meanings.{an_enum, Defined, meant_in, KnownType, meaning_in, known_facts, known_of, key_of}
use Rattle.decl_rules.specs.Meanings.{keys_of}
use Rattle.decl_rules.specs.State.{State}
use Rattle.decl_rules.specs.Parts.{OccursInAny, IsKnown, k_known, KnownFound}
use Rattle.decl_rules.specs.Sections.{types_by, entry_by, known_entry, Section, known_env, none_read}
use Rattle.decl_rules.specs.TypeRules as R
use Rattle.decl_rules.specs.TypeRules.{AreTypeDefinitions, IsSection}
use Rattle.typing_laws.specs.Sound.{Sound, AreSound}
use Rattle.typing_laws.specs.Knows.{EntryFits, EntriesFit, with_facts, Knows}
use Rattle.typing_laws.specs.Trees.{TypesRead}
use Rattle.typing_laws.proofs.Tests.{both}
use Rattle.typing_laws.proofs.SoundKinds.{plain_as}
use Rattle.typing_laws.proofs.Constants.{Closed, ClosedOne}
use Rattle.typing_laws.proofs.Growing.{Said, sound_grown, entries_grown}
use Rattle.typing_laws.proofs.Further.{AllSaid, said_before, all_behind, said_in_end, said_once}
use Rattle.typing_laws.proofs.Saying.{said_sound}
use Rattle.typing_laws.proofs.Resolving.{Means}
use Rattle.typing_laws.proofs.KnownTypes.{KnownSound, known_sound, members_said}
use Rattle.typing_laws.proofs.TypeDefinitions.{AllEntries, both_entries, AllDeclared, types_so, IsMember, is_member, Read, types_read}
use Rattle.typing_laws.proofs.Bodies.{SectionsKept}

entries_fit : (here : Here) (es : List Entry) → AllEntries (EntryFits here) es → EntriesFit here es
entries_fit here [] h = tt
entries_fit here (e ∷ es) h = (h.0, entries_fit here es h.1)

fit_entries : (here : Here) (es : List Entry) → EntriesFit here es → AllEntries (EntryFits here) es
fit_entries here [] h = tt
fit_entries here (e ∷ es) h = (h.0, fit_entries here es h.1)

-- a type that is known by its name
type_fits : (here : Here) (known : List KnownType) → Means here.facts known → (d : Declaration) → EntryFits here (known_entry known d)
type_fits here known means d = by_meaning (meaning_in (key_of d) known) refl
  where
    by_meaning : (o : Option Ty) → meaning_in (key_of d) known ≡ o → EntryFits here (entry_by (normal d.name.text) o)
    by_meaning (Some ty) e = means (key_of d) ty e
    by_meaning None e = tt

types_fit : (here : Here) (known : List KnownType) → Means here.facts known → (all : List Declaration)
    → AllDeclared (λ d. EntryFits here (known_entry known d)) all
types_fit here known means [] = tt
types_fit here known means (d ∷ rest) = (type_fits here known means d, types_fit here known means rest)

-- what enums that are defined say is said
abbrev EnumsSaid : Facts → List Defined → Type 0
EnumsSaid h defined =
    (key : Key) (names : List (List ℕ)) → meant_in key defined ≡ Some (an_enum names) → fact_of h (type.enum key) ≡ Some (members names)

member_fits : (here : Here) (defined : List Defined) → AreSound here.facts → EnumsSaid here.facts defined → (e : Entry) → IsMember defined e
    → EntryFits here e
member_fits here defined sound said e (is_member {key = key} {i = i} {names = names} m l f) =
    let says = said key names m in
    let is : Sound here.facts (type.enum key) = said_sound here.facts sound.said (type.enum key) (members names) says in
    let kind = plain_as sound is refl ∙ ap declared_kind says in
    let small : fits (pos i) ≡ true = le-leb i 2147483647 (omega (arith, leb-true (length names) 2147483647 f, l)) in
    (subst (λ k. is_value k (pos i) ≡ true) (sym kind) (both small (both (le-leb 0 i (omega arith)) (lt-ltb i (length names) l))), is)

members_fit : (here : Here) (defined : List Defined) → AreSound here.facts → EnumsSaid here.facts defined → (es : List Entry)
    → AllEntries (IsMember defined) es → AllEntries (EntryFits here) es
members_fit here defined sound said [] h = tt
members_fit here defined sound said (e ∷ es) h = (member_fits here defined sound said e h.0, members_fit here defined sound said es h.1)

means_more : (f h : Facts) (known : List KnownType) → Said f h → Means f known → Means h known
means_more f h known said means key ty e = sound_grown said (means key ty e)

nothing_in : {k : Key} {A : Type 0} → OccursInAny k [] → A
nothing_in o = elim o [ ]

enum_known : (section : List Key) (all : List Defined) (key : Key) (names : List (List ℕ)) → meant_in key all ≡ Some (an_enum names) → IsKnown section all key
enum_known section all key names m = k_known m (λ k i o. nothing_in o)

-- what is known behind a section, by what was known before it
module _ (found : KnownFound) (closed : Closed) (closed_one : ClosedOne) (here : Here) (st : State) (all : List Declaration)
    (own : Knows (with_facts here st.env.facts) st.env) (read : TypesRead all) (s : Section) (h : AreTypeDefinitions st all none_read all s) where
  abbrev known : List KnownType
  known = known_of (keys_of all) s.defined

  abbrev said_now : Facts
  said_now = st.env.facts ++ known_facts known

  types_are : Read here st all own s
  types_are = types_read here st all own h read (record { fine = tt; named = tt; members = tt })

  known_are : KnownSound st.env.facts own.sound (keys_of all) s.defined known
  known_are = known_sound st.env.facts own.sound (keys_of all) s.defined types_are.fine

  enums_said : (x : Facts) → AllSaid said_now x → EnumsSaid x s.defined
  enums_said x in_end key names m =
      members_said x s.defined known key names known_are.by ((found (keys_of all) s.defined key).1 (enum_known (keys_of all) s.defined key names m)) m
      (all_behind st.env.facts (known_facts known) x in_end)

  behind : (x : Here) → AreSound x.facts → Means x.facts known → EnumsSaid x.facts s.defined → EntriesFit x st.env.entries
      → EntriesFit x (known_env st all s).entries
  behind x sound means enums before =
      entries_fit x (st.env.entries ++ (types_by st [] (known_entry known) all ++ s.members))
      (both_entries (EntryFits x) st.env.entries (types_by st [] (known_entry known) all ++ s.members) (fit_entries x st.env.entries before)
      (both_entries (EntryFits x) (types_by st [] (known_entry known) all) s.members
      (types_so (EntryFits x) st [] (known_entry known) all (types_fit x known means all)) (members_fit x s.defined sound enums s.members types_are.members)))

  pub own_behind : AllSaid said_now said_now → Knows (with_facts here said_now) (known_env st all s)
  own_behind own_said =
      record {
        sound = known_are.facts;
        said = λ ty fact e. e;
        entries = behind (with_facts here said_now) known_are.facts known_are.means (enums_said said_now own_said)
            (entries_grown st.env.facts said_now (said_before st.env.facts (known_facts known)) own.sound known_are.facts closed closed_one here
            st.env.entries own.entries);
      }

  pub all_behind_section : Knows here st.env → AllSaid said_now here.facts → Knows here (known_env st all s)
  all_behind_section knows said =
      let here_said = said_in_end said_now here.facts said in
      record {
        sound = knows.sound;
        said = here_said;
        entries = behind here knows.sound (means_more said_now here.facts known here_said known_are.means) (enums_said here.facts said) knows.entries;
      }

-- under the declarations alone
pub section_own : KnownFound → Closed → ClosedOne → (here : Here) (st : State) (all : List Declaration) (env : Env)
    → Knows (with_facts here st.env.facts) st.env → TypesRead all → IsSection st all env → AllSaid env.facts env.facts
    → Knows (with_facts here env.facts) env
section_own found closed closed_one here st all env own read (R.d_section {s = s} h c k) said =
    own_behind found closed closed_one here st all own read s h said

pub section_kept : KnownFound → Closed → ClosedOne → SectionsKept
section_kept found closed closed_one here st all env knows read (R.d_section {s = s} h c k) said =
    record {
      all = all_behind_section found closed closed_one here st all knows.own read s h knows.all said;
      own = own_behind found closed closed_one here st all knows.own read s h
          (said_once (said_now found closed closed_one here st all knows.own read s h) here.facts said);
    }
