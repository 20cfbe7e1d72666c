-- The definitions of a section, as they are read: what they say is fine, and members are those of enums that are defined.
use Rattle.std.proofs.Common.{◌≡◌, ℕ, suc, ◌+◌, ◌<◌, Bool, true, false, List, [], ◌∷◌, ◌++◌, length, Some, None, refl, sym, ap, subst, ◌∙◌, arith}
use Rattle.std.specs.Prelude.{pos, ◌||◌, if◌then◌else◌, Ok}
use Rattle.std.proofs.lemmas.Bool.{and_parts, or_left, or_right, or_parts}
use Rattle.arc_base.specs.declared.place.Place.{Place}
use Rattle.arc_base.specs.Refusal.{and_then}
use Rattle.indent_scanner.specs.Words.{normal}
use Rattle.nim_tree.specs.declared.name.Name.{Name}
use Rattle.nim_tree.specs.Types.{Body, Declaration}
use Rattle.nim_types.specs.Types as type
use Rattle.nim_types.specs.Types.{Ty, Key, Facts, same_key, same_text}
use Rattle.nim_types.specs.Forms as form
use Rattle.nim_program.specs.Program.{Number}
use Rattle.nim_program.specs.Ints.{fits}
use Rattle.nim_program.specs.Scopes.{Here}
use Rattle.expr_rules.specs.Env as env_of
use Rattle.expr_rules.specs.Env.{Env, Entry, Known, name_in, known, known_next, known_behind}
use Rattle.expr_rules.specs.Constructions.{is_among}
use Rattle.decl_rules.specs.State.{State, own_entries, is_declared, if_new}
use Rattle.decl_rules.specs.Meanings.{an_enum, Defined, meant_in, is_key_among, key_of, keys_of}
use Rattle.decl_rules.specs.Written.{later, Part, types_of, fields_of}
use Rattle.decl_rules.specs.Sections.{Section, types_by, name_entry, names_env, known_env, new_in_section, Bodied, member_of, members_rule, texts_of}
use Rattle.decl_rules.specs.Sections.{member_names, seen_members, type_names}
use Rattle.decl_rules.specs.TypeRules as R
use Rattle.decl_rules.specs.TypeRules.{IsBody, IsTypeDefinition, AreTypeDefinitions}
use Rattle.typing_laws.specs.Sound.{Sound, AllSound}
use Rattle.typing_laws.specs.Knows.{EntryFits, EntriesFit, Knows, with_facts}
use Rattle.typing_laws.specs.Trees.{BodyRead, TypesRead}
use Rattle.typing_laws.proofs.Tests.{ever, ok_one, some_none}
use Rattle.typing_laws.proofs.Growing.{Said, sound_grown}
use Rattle.typing_laws.proofs.Further.{said_before}
use Rattle.typing_laws.proofs.Arms.{then_is}
use Rattle.typing_laws.proofs.Spelled.{spelled_right, parts_right}
use Rattle.typing_laws.proofs.Resolving.{key_sound, key_refl, names_said, with_names, name_sound}
use Rattle.typing_laws.proofs.KnownTypes.{AllDefined, all_defined_more, meant_more, IsFine, FineIn}

-- ---- entries

abbrev pub AllEntries : (Entry → Type 0) → List Entry → Type 0
AllEntries holds [] = Unit {0}
AllEntries holds (e ∷ rest) = holds e × AllEntries holds rest

pub both_entries : (holds : Entry → Type 0) (xs ys : List Entry) → AllEntries holds xs → AllEntries holds ys → AllEntries holds (xs ++ ys)
both_entries holds [] ys h k = k
both_entries holds (e ∷ xs) ys h k = (h.0, both_entries holds xs ys h.1 k)

entries_so : (P Q : Entry → Type 0) (es : List Entry) → ((e : Entry) → P e → Q e) → AllEntries P es → AllEntries Q es
entries_so P Q [] so h = tt
entries_so P Q (e ∷ es) so h = (so e h.0, entries_so P Q es so h.1)

seen_so : (P : Entry → Type 0) (types : List (List ℕ)) (es : List Entry) → AllEntries P es → AllEntries P (seen_members types es)
seen_so P types [] h = tt
seen_so P types (e ∷ es) h = by_test (is_among (name_in e) types) (seen_so P types es h.1)
  where
    by_test : (b : Bool) → AllEntries P (seen_members types es) → AllEntries P (if b then seen_members types es else e ∷ seen_members types es)
    by_test true r = r
    by_test false r = (h.0, r)

abbrev pub AllDeclared : (Declaration → Type 0) → List Declaration → Type 0
AllDeclared holds [] = Unit {0}
AllDeclared holds (d ∷ rest) = holds d × AllDeclared holds rest

pub types_so : (P : Entry → Type 0) (st : State) (names : List (List ℕ)) (entry : Declaration → Entry) (all : List Declaration)
    → AllDeclared (λ d. P (entry d)) all → AllEntries P (types_by st names entry all)
types_so P st names entry [] h = tt
types_so P st names entry (d ∷ rest) h =
    by_test (is_declared (normal d.name.text) (own_entries st) || is_among (normal d.name.text) names) (types_so P st names entry rest h.1)
    (types_so P st (normal d.name.text ∷ names) entry rest h.1)
  where
    by_test : (b : Bool) → AllEntries P (types_by st names entry rest) → AllEntries P (types_by st (normal d.name.text ∷ names) entry rest)
        → AllEntries P (if b then types_by st names entry rest else entry d ∷ types_by st (normal d.name.text ∷ names) entry rest)
    by_test true r s = r
    by_test false r s = (h.0, s)

-- ---- types by their names

abbrev TypeFits : Facts → Entry → Type 0
TypeFits g (env_of.named name of) = Sound g of
TypeFits g e = Unit {0}

next_known : (g : Facts) (before : Known) (e : Entry) (b : Bool) → ((ty : Ty) → before ≡ env_of.a_type ty → Sound g ty) → TypeFits g e → (ty : Ty)
    → (if b then known_next before e else before) ≡ env_of.a_type ty → Sound g ty
next_known g before e false h f ty i = h ty i
next_known g before (env_of.variable name place of writable global) true h f ty i = cc
next_known g before (env_of.constant name of value) true h f ty i = cc
next_known g before (env_of.named name of) true h f ty i = let same : of ≡ ty = cc in subst (Sound g) same f
next_known g before (env_of.pending name) true h f ty i = cc
next_known g before (env_of.procedure name callee) true h f ty i = cc
next_known g before (env_of.input name) true h f ty i = cc

type_known : (g : Facts) (x : List ℕ) (entries : List Entry) (before : Known) → ((ty : Ty) → before ≡ env_of.a_type ty → Sound g ty)
    → AllEntries (TypeFits g) entries → (ty : Ty) → known_behind before x entries ≡ env_of.a_type ty → Sound g ty
type_known g x [] before h f ty i = h ty i
type_known g x (e ∷ rest) before h f ty i =
    type_known g x rest (if same_text x (name_in e) then known_next before e else before)
    (λ t j. next_known g before e (same_text x (name_in e)) h f.0 t j) f.1 ty i

types_before : (here : Here) (g : Facts) → Said here.facts g → (es : List Entry) → EntriesFit here es → AllEntries (TypeFits g) es
types_before here g said [] h = tt
types_before here g said (e ∷ es) h = (by_entry e h.0, types_before here g said es h.1)
  where
    by_entry : (e : Entry) → EntryFits here e → TypeFits g e
    by_entry (env_of.named name of) h = sound_grown said h
    by_entry (env_of.variable name place of writable global) h = tt
    by_entry (env_of.constant name of value) h = tt
    by_entry (env_of.pending name) h = tt
    by_entry (env_of.procedure name callee) h = tt
    by_entry (env_of.input name) h = tt

-- the names of a section are among its keys
keys_among : (section : List Key) (all : List Declaration) → ((key : Key) → is_key_among key (keys_of all) ≡ true → is_key_among key section ≡ true)
    → AllDeclared (λ d. is_key_among (key_of d) section ≡ true) all
keys_among section [] h = tt
keys_among section (d ∷ rest) h = (
  h (key_of d) (or_left (same_key (key_of d) (key_of d)) (is_key_among (key_of d) (keys_of rest)) (key_refl (key_of d))),
  keys_among section rest (λ key e. h key (or_right (same_key key (key_of d)) (is_key_among key (keys_of rest)) e)),
)

declared_so : (P Q : Declaration → Type 0) (all : List Declaration) → ((d : Declaration) → P d → Q d) → AllDeclared P all → AllDeclared Q all
declared_so P Q [] so h = tt
declared_so P Q (d ∷ rest) so h = (so d h.0, declared_so P Q rest so h.1)

-- ---- members

-- a member of an enum that is defined
pub data IsMember (defined : List Defined) : Entry → Type 0 where
  is_member : {x : List ℕ} {key : Key} {i : ℕ} {names : List (List ℕ)} → meant_in key defined ≡ Some (an_enum names) → i < length names
      → fits (pos (length names)) ≡ true → IsMember defined (env_of.constant x (type.enum key) (Number (pos i)))

member_more : (defined : List Defined) (d : Defined) (e : Entry) → IsMember defined e → IsMember (defined ++ d ∷ []) e
member_more defined d e (is_member {key = key} {names = names} m l f) = is_member (meant_more key defined d (an_enum names) m) l f

members_are : (defined : List Defined) (key : Key) (names : List (List ℕ)) → meant_in key defined ≡ Some (an_enum names)
    → fits (pos (length names)) ≡ true → (st : State) (before : List (List ℕ)) (i : ℕ) (rest : List Name) (ms : List Entry)
    → members_rule st before (type.enum key) i rest ≡ Ok ms → i + length rest ≡ length names → AllEntries (IsMember defined) ms
members_are defined key names m f st before i [] ms e l = subst (AllEntries (IsMember defined)) (ok_one e) tt
members_are defined key names m f st before i (x ∷ rest) ms e l =
    let a =
    then_is (new_in_section st before x.at (normal x.text))
    (λ _. and_then (members_rule st (normal x.text ∷ before) (type.enum key) (suc i) rest) (λ more. Ok (member_of (type.enum key) i x ∷ more))) ms e in
    let b =
    then_is (members_rule st (normal x.text ∷ before) (type.enum key) (suc i) rest) (λ more. Ok (member_of (type.enum key) i x ∷ more)) ms a.next in
    subst (AllEntries (IsMember defined)) (ok_one b.next) (
      is_member m (omega (arith, l)) f,
      members_are defined key names m f st (normal x.text ∷ before) (suc i) rest b.value b.is (omega (arith, l)),
    )

texts_length : (all : List Name) → length all ≡ length (texts_of all)
texts_length [] = refl
texts_length (x ∷ all) = ap suc (texts_length all)

-- ---- fields

fields_types : (all : List Part) → types_of all ≡ form.types_of (fields_of all)
fields_types [] = refl
fields_types (p ∷ rest) = ap (λ ts. type.types p.of ts) (fields_types rest)

-- ---- names

new_is : (b : Bool) (at : Place) → if_new b at ≡ Ok tt → b ≡ false
new_is true at e = cc
new_is false at e = refl

abbrev Named : List (List ℕ) → Defined → Type 0
Named names d = is_among (normal d.key.name) names ≡ true

not_meant : (names : List (List ℕ)) (all : List Defined) (key : Key) → AllDefined (Named names) all → is_among (normal key.name) names ≡ false
    → meant_in key all ≡ None
not_meant names [] key h n = refl
not_meant names (d ∷ all) key h n = by_test (same_key key d.key) refl (not_meant names all key h.1 n)
  where
    by_test : (b : Bool) → same_key key d.key ≡ b → meant_in key all ≡ None → (if b then Some d.meant else meant_in key all) ≡ None
    by_test true i r = ever (sym h.0 ∙ subst (λ k. is_among (normal k.name) names ≡ false) (key_sound key d.key i) n)
    by_test false i r = r

meant_last : (all : List Defined) (d : Defined) → meant_in d.key all ≡ None → meant_in d.key (all ++ d ∷ []) ≡ Some d.meant
meant_last [] d n = ap (λ b. if b then Some d.meant else None) (key_refl d.key)
meant_last (x ∷ all) d n = by_test (same_key d.key x.key) n (meant_last all d)
  where
    by_test : (b : Bool) → (if b then Some x.meant else meant_in d.key all) ≡ None
        → (meant_in d.key all ≡ None → meant_in d.key (all ++ d ∷ []) ≡ Some d.meant)
        → (if b then Some x.meant else meant_in d.key (all ++ d ∷ [])) ≡ Some d.meant
    by_test true n r = some_none n
    by_test false n r = r n

among_behind : (y : List ℕ) (more names : List (List ℕ)) → is_among y names ≡ true → is_among y (more ++ names) ≡ true
among_behind y [] names e = e
among_behind y (x ∷ more) names e = or_right (same_text y x) (is_among y (more ++ names)) (among_behind y more names e)

named_behind : (x : List ℕ) (more names : List (List ℕ)) (all : List Defined) → AllDefined (Named names) all
    → AllDefined (Named (x ∷ (more ++ names))) all
named_behind x more names [] h = tt
named_behind x more names (d ∷ all) h = (
  or_right (same_text (normal d.key.name) x) (is_among (normal d.key.name) (more ++ names)) (among_behind (normal d.key.name) more names h.0),
  named_behind x more names all h.1,
)

text_refl : (x : List ℕ) (at : Place) → same_text x x ≡ true
text_refl x at = (and_parts _ _ (key_refl (record { name = x; at = at }))).0

-- ---- what has been read

module _ (here : Here) (st : State) (all : List Declaration) (knows : Knows (with_facts here st.env.facts) st.env) where
  abbrev fine : Defined → Type 0
  fine d = FineIn st.env.facts knows.sound (keys_of all) d

  abbrev g : Facts
  g = with_names st.env.facts (keys_of all)

  pub record Read (s : Section) : Type 0 where
    pub fine : AllDefined (FineIn st.env.facts knows.sound (keys_of all)) s.defined
    pub named : AllDefined (Named s.names) s.defined
    pub members : AllEntries (IsMember s.defined) s.members

  member_type : (defined : List Defined) (e : Entry) → IsMember defined e → TypeFits g e
  member_type defined e (is_member m l f) = tt

  names_fit : (s : Section) → Read s → AllEntries (TypeFits g) (names_env st all s).entries
  names_fit s r =
      both_entries (TypeFits g) st.env.entries (types_by st [] name_entry all ++ s.members)
      (types_before (with_facts here st.env.facts) g (said_before st.env.facts (names_said (keys_of all))) st.env.entries knows.entries)
      (both_entries (TypeFits g) (types_by st [] name_entry all) s.members
      (types_so (TypeFits g) st [] name_entry all
      (declared_so (λ d. is_key_among (key_of d) (keys_of all) ≡ true) (λ d. Sound g (type.distinct (key_of d))) all
      (λ d i. name_sound st.env.facts (keys_of all) knows.sound (key_of d) i) (keys_among (keys_of all) all (λ key e. e))))
      (entries_so (IsMember s.defined) (TypeFits g) s.members (member_type s.defined) r.members))

  seen : (s : Section) → Read s → (x : List ℕ) (ty : Ty) → known (names_env st all s) x ≡ env_of.a_type ty → Sound g ty
  seen s r x ty e = type_known g (normal x) (names_env st all s).entries env_of.unknown (λ t i. cc) (names_fit s r) ty e

  body_fine : (s : Section) → Read s → {before : List (List ℕ)} {key : Key} {of : Body} {b : Bodied}
      → IsBody st before (names_env st all s) (known_env st all s) key of b → BodyRead of → IsFine g b.meant
  body_fine s r (R.b_object {all = parts} h) read =
      subst (AllSound g) (fields_types parts.parts) (parts_right (with_facts here g) (later (known_env st all s)) (names_env st all s) (seen s r) h)
  body_fine s r (R.b_enum h) read = read.0
  body_fine s r (R.b_distinct h) read = spelled_right (with_facts here g) (later (known_env st all s)) (names_env st all s) (seen s r) h
  body_fine s r (R.b_alias h) read = spelled_right (with_facts here g) (later (known_env st all s)) (names_env st all s) (seen s r) h

  body_members : (env known : Env) (defined : List Defined) {before : List (List ℕ)} {key : Key} {of : Body} {b : Bodied} → IsBody st before env known key of b
      → BodyRead of → meant_in key defined ≡ Some b.meant → AllEntries (IsMember defined) b.members
  body_members env known defined (R.b_object h) read m = tt
  body_members env known defined {before = before} {key = key} (R.b_enum {all = names} {members = ms} h) read m =
      let l = texts_length names in
      members_are defined key (texts_of names) m (subst (λ n. fits (pos n) ≡ true) l read.1) st before 0 names ms h (omega (arith, l))
  body_members env known defined (R.b_distinct h) read m = tt
  body_members env known defined (R.b_alias h) read m = tt

  one_read : {s t : Section} {d : Declaration} → IsTypeDefinition st all s d t → BodyRead d.body → Read s → Read t
  one_read {s = s} {d = d} (R.d_type {b = b} n i body) read r =
      let x = normal d.name.text in
      let one : Defined = record { key = key_of d; meant = b.meant; formed = b.formed } in
      let new = or_parts (is_declared x (own_entries st)) (is_among x s.names) (new_is _ d.name.at n) in
      let m = meant_last s.defined one (not_meant s.names s.defined (key_of d) r.named new.1) in
      let names = x ∷ (member_names b.members ++ s.names) in
      record {
        fine = all_defined_more fine s.defined one r.fine (body_fine s r body read);
        named = all_defined_more (Named names) s.defined one (named_behind x (member_names b.members) s.names s.defined r.named)
            (or_left (same_text x x) (is_among x (member_names b.members ++ s.names)) (text_refl x d.name.at));
        members = both_entries (IsMember (s.defined ++ one ∷ [])) s.members (seen_members (type_names all) b.members)
            (entries_so (IsMember s.defined) (IsMember (s.defined ++ one ∷ [])) s.members (member_more s.defined one) r.members)
            (seen_so (IsMember (s.defined ++ one ∷ [])) (type_names all) b.members
            (body_members (names_env st all s) (known_env st all s) (s.defined ++ one ∷ []) body read m));
      }

  pub types_read : {s t : Section} {ds : List Declaration} → AreTypeDefinitions st all s ds t → TypesRead ds → Read s → Read t
  types_read R.d_no_types read r = r
  types_read (R.d_types h rest) read r = types_read rest read.1 (one_read h read.0 r)
