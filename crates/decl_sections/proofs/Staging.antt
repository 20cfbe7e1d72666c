-- One definition more: what the rule says of it by parts, and what stands behind it.
use Rattle.std.proofs.Common.{◌≡◌, ℕ, zero, suc, ◌<◌, List, [], ◌∷◌, ◌++◌, length, drop, Some, refl, sym, ap, ap₂, subst, ◌∙◌}
use Rattle.std.proofs.Common.{arith}
use Rattle.std.proofs.Common.{append_assoc, length-append}
use Rattle.std.specs.Prelude.{Ok, Err, Option, ◌⊎◌, map, slice_get, Bool, true, false, if◌then◌else◌, pos}
use Rattle.std.proofs.Common.{⊎_elim, inl, inr}
use Rattle.std.proofs.lemmas.List.{map-append}
use Rattle.std.proofs.lemmas.Option.{none-some, same_Some}
use Rattle.std.specs.HashSet.{HashSet}
use Rattle.arc_base.specs.declared.place.Stop.{Stop}
use Rattle.arc_base.specs.declared.place.Stop.TheVariants as stop
use Rattle.arc_base.specs.Refusal.{and_then, Answers}
use Rattle.indent_scanner.specs.Words.{normal}
use Rattle.nim_tree.specs.Types as body
use Rattle.nim_tree.specs.Types.{Body, Declaration}
use Rattle.nim_types.specs.declared.types.TypeDef.{TypeDef}
use Rattle.nim_types.specs.Types as type
use Rattle.nim_types.specs.Types.{Ty, Key}
use Rattle.nim_types.specs.Table.{facts_in}
use Rattle.expr_rules.specs.Answers.{Answer}
use Rattle.nim_program.specs.Program.{Number}
use Rattle.expr_rules.specs.Constructions.{is_among}
use Rattle.expr_rules.specs.Env.{Env, Entry, constant}
use Rattle.expr_parts.specs.declared.scope.Decl.{Decl}
use Rattle.expr_parts.specs.declared.scope.Scope.{Scope}
use Rattle.expr_parts.specs.View.{Under, entry_of}
use Rattle.decl_rules.specs.State.{State}
use Rattle.decl_rules.specs.Meanings.{Defined, KnownType, key_of, keys_of, known_of, known_behind}
use Rattle.decl_rules.specs.Written.{Spelled, Parted, later, spelled, parts_spelled}
use Rattle.decl_rules.specs.Sections.{Section, Bodied, names_env, known_env, new_in_section, if_single, body_rule, with_definition, declaration_rule}
use Rattle.decl_rules.specs.Sections.{if_plain, is_plain_object, seen_members, type_names}
use Rattle.decl_rules.specs.Meanings.{an_object, a_distinct, an_alias}
use Rattle.decl_rules.specs.Written.{fields_of}
use Rattle.decl_rules.specs.Sections.{says}
use Rattle.decl_written.specs.ViewWritten.{HasNames}
use Rattle.decl_types.specs.declared.known.Definition.{Definition}
use Rattle.decl_types.specs.declared.nodes.Names.{Names}
use Rattle.decl_sections.specs.ViewBodies.{Said, said_with, said_by, member_entries}
use Rattle.decl_types.specs.ViewKnown.{IsSound, key_by}
use Rattle.decl_types.specs.ViewNodes.{key_at}
use Rattle.decl_types.specs.ViewReading.{defined_by, all_defined}
use Rattle.decl_types.specs.ViewScoped.{own_in, decls_by, Fixed, Scoped, Reads, KnowsAll}
use Rattle.decl_sections.specs.ViewSections.{members_in, said_in, AreConstants, Stage, Leads}
use Rattle.decl_types.proofs.ForCallers.{of_last}
use Rattle.decl_sections.proofs.Declaring.{members_fresh, fresh_more, names_members, names_turned}
use Rattle.std.proofs.Common.{◌+◌, ◌-◌}
use Rattle.std.specs.Prelude.{Result, OnOk, IfErr}

-- ---- answers

pub leads_stops : {A S : Type 0} (T : Type 0) (P : A → Type 0) (of : S → A) (said : Answer A) (s : Stop) → Answers {T = S} of said (Err s)
    → Leads {T = T} P said (Err s)
leads_stops T P of said (stop.Refused code at) h = h
leads_stops T P of said stop.Memory h = tt

-- a last step that can only want memory
pub leads_last : {A T D : Type 0} (P : A → Type 0) (said : Answer A) (r : Result T Stop) → IfErr r (λ s. s ≡ stop.Memory) → OnOk r D
    → (D → (a : A) × (said ≡ Ok a) × P a) → Leads P said r
leads_last {T = T} P said (Ok x) m d f = f d
leads_last {T = T} P said (Err s) m d f = subst (λ z. Leads {T = T} P said (Err z)) (sym m) tt

-- ---- the rule by parts

abbrev pub bodied : Said → List Entry → Bodied
bodied said members = record { meant = said.meant; members = members; formed = said.formed }

body_parts : (st : State) (before : List (List ℕ)) (env known : Env) (key : Key) (b : Body)
    → body_rule st before env known key b
    ≡ and_then (members_in st before key b) (λ ms. and_then (said_by (later known) env b) (λ said. Ok (bodied said ms)))
body_parts st before env known key (body.object at is_ref parent inside) = by_plain (if_plain (is_plain_object is_ref parent) at)
  where
    by_fields : (said : Answer Parted)
        → and_then said (λ all. Ok (says (an_object (fields_of all.parts)) all.formed))
        ≡ and_then (and_then said (λ all. Ok (said_with (an_object (fields_of all.parts)) all.formed))) (λ said. Ok (bodied said []))
    by_fields (Ok all) = refl
    by_fields (Err r) = refl

    by_plain : (said : Answer (Unit {0}))
        → and_then said (λ _. and_then (parts_spelled (later known) env [] inside) (λ all. Ok (says (an_object (fields_of all.parts)) all.formed)))
        ≡ and_then (and_then said (λ _. and_then (parts_spelled (later known) env [] inside)
        (λ all. Ok (said_with (an_object (fields_of all.parts)) all.formed)))) (λ said. Ok (bodied said []))
    by_plain (Ok u) = by_fields (parts_spelled (later known) env [] inside)
    by_plain (Err r) = refl
body_parts st before env known key (body.enum at all) = refl
body_parts st before env known key (body.distinct at base) = by_type (spelled (later known) env base)
  where
    by_type : (said : Answer Spelled)
        → and_then said (λ t. Ok (says (a_distinct t.of) t.formed))
        ≡ and_then (and_then said (λ t. Ok (said_with (a_distinct t.of) t.formed))) (λ said. Ok (bodied said []))
    by_type (Ok t) = refl
    by_type (Err r) = refl
body_parts st before env known key (body.alias of) = by_type (spelled (later known) env of)
  where
    by_type : (said : Answer Spelled)
        → and_then said (λ t. Ok (says (an_alias t.of) t.formed))
        ≡ and_then (and_then said (λ t. Ok (said_with (an_alias t.of) t.formed))) (λ said. Ok (bodied said []))
    by_type (Ok t) = refl
    by_type (Err r) = refl

-- that its name is new, and that it has no parameters
abbrev pub head_rule : State → Section → Declaration → Answer (Unit {0})
head_rule st s d = and_then (new_in_section st s.names d.name.at (normal d.name.text)) (λ _. if_single d.parameters d.name.at)

abbrev pub said_rule : State → List Declaration → Section → Declaration → Answer Said
said_rule st all s d = said_by (later (known_env st all s)) (names_env st all s) d.body

abbrev pub said_behind : List Declaration → Section → Declaration → List Entry → Said → Answer Section
said_behind all s d ms said = Ok (with_definition all s d (bodied said ms))

abbrev pub members_behind : State → List Declaration → Section → Declaration → List Entry → Answer Section
members_behind st all s d ms = and_then (said_rule st all s d) (said_behind all s d ms)

abbrev pub head_behind : State → List Declaration → Section → Declaration → Unit {0} → Answer Section
head_behind st all s d _ = and_then (members_in st (normal d.name.text ∷ s.names) (key_of d) d.body) (members_behind st all s d)

pub declaration_parts : (st : State) (all : List Declaration) (s : Section) (d : Declaration)
    → declaration_rule st all s d ≡ and_then (head_rule st s d) (head_behind st all s d)
declaration_parts st all s d = by_new (new_in_section st s.names d.name.at (normal d.name.text)) (if_single d.parameters d.name.at)
  where
    by_said : (ms : List Entry) (said : Answer Said)
        → and_then (and_then said (λ said. Ok (bodied said ms))) (λ b. Ok (with_definition all s d b)) ≡ and_then said (said_behind all s d ms)
    by_said ms (Ok said) = refl
    by_said ms (Err r) = refl

    by_members : (members : Answer (List Entry))
        → and_then (and_then members (λ ms. and_then (said_rule st all s d) (λ said. Ok (bodied said ms)))) (λ b. Ok (with_definition all s d b))
        ≡ and_then members (members_behind st all s d)
    by_members (Ok ms) = by_said ms (said_rule st all s d)
    by_members (Err r) = refl

    by_new : (new single : Answer (Unit {0}))
        → and_then new (λ _. and_then single
        (λ _. and_then (body_rule st (normal d.name.text ∷ s.names) (names_env st all s) (known_env st all s) (key_of d)
        d.body) (λ b. Ok (with_definition all s d b))))
        ≡ and_then (and_then new (λ _. single)) (head_behind st all s d)
    by_new (Err r) single = refl
    by_new (Ok u) (Err r) = refl
    by_new (Ok u) (Ok v) =
        ap (λ said. and_then said (λ b. Ok (with_definition all s d b)))
        (body_parts st (normal d.name.text ∷ s.names) (names_env st all s) (known_env st all s) (key_of d) d.body)
        ∙ by_members (members_in st (normal d.name.text ∷ s.names) (key_of d) d.body)

-- ---- what has been read

get_last : (xs : List Definition) (x d : Definition) (i : ℕ) → slice_get (xs ++ x ∷ []) i ≡ Some d
    → (slice_get xs i ≡ Some d) ⊎ ((x ≡ d) × (i ≡ length xs))
get_last [] x d zero e = inr (same_Some x d e, refl)
get_last [] x d (suc i) e = absurd (none-some d e)
get_last (y ∷ xs) x d zero e = inl e
get_last (y ∷ xs) x d (suc i) e =
    ⊎_elim (λ (h : slice_get xs i ≡ Some d). inl h) (λ (h : (x ≡ d) × (i ≡ length xs)). inr (h.0, ap suc h.1)) (get_last xs x d i e)

abbrev first_key : Key → List Declaration → Key
first_key key [] = key
first_key key (d ∷ rest) = key_of d

key_next : (all : List Declaration) (i : ℕ) (d : Declaration) (rest : List Declaration) → drop i all ≡ d ∷ rest
    → (key_at (keys_of all) i ≡ key_of d) × (i < length (keys_of all))
key_next [] zero d rest e = cc
key_next [] (suc i) d rest e = cc
key_next (x ∷ all) zero d rest e = (ap (first_key (key_of x)) e, omega arith)
key_next (x ∷ all) (suc i) d rest e = let r = key_next all i d rest e in (r.0, omega (arith, r.1))

pub reads_more : (n : ℕ) (all : List Declaration) (d : Declaration) (rest : List Declaration) (read : List Definition) (def : Definition)
    → Reads n (length all) (keys_of all) read → drop (length read) all ≡ d ∷ rest → key_by def ≡ key_of d → IsSound n (length all) def
    → Reads n (length all) (keys_of all) (read ++ def ∷ [])
reads_more n all d rest read def r e key sound =
    let next = key_next all (length read) d rest e in
    record {
      sound = λ i x at.
          ⊎_elim (λ (h : slice_get read i ≡ Some x). r.sound i x h)
          (λ (h : (def ≡ x) × (i ≡ length read)). subst (IsSound n (length all)) h.0 sound)
          (get_last read def x i at);
      key = λ i x at.
          ⊎_elim (λ (h : slice_get read i ≡ Some x). r.key i x h)
          (λ (h : (def ≡ x) × (i ≡ length read)). ap key_by (sym h.0) ∙ key ∙ sym next.0 ∙ ap (key_at (keys_of all)) (sym h.1))
          (get_last read def x i at);
      within = omega (arith, next.1, length-append read (def ∷ []));
    }

defined_more : (ts : List Ty) (keys : List Key) (read : List Definition) (def : Definition)
    → all_defined ts keys (read ++ def ∷ []) ≡ all_defined ts keys read ++ defined_by ts keys def ∷ []
defined_more ts keys read def = map-append (defined_by ts keys) read (def ∷ [])

-- ---- further members

constants_both : (es more : List Entry) → AreConstants es → AreConstants more → AreConstants (es ++ more)
constants_both [] more h k = k
constants_both (e ∷ es) more h k = (h.0, constants_both es more h.1 k)

members_constant : (types : List (List ℕ)) (ty : Ty) (i : ℕ) (ms : List (List ℕ)) → AreConstants (seen_members types (member_entries ty i ms))
members_constant types ty i [] = tt
members_constant types ty i (x ∷ ms) = by_name (is_among x types) (members_constant types ty (suc i) ms)
  where
    by_name : (b : Bool) → AreConstants (seen_members types (member_entries ty (suc i) ms))
        → AreConstants (if b then seen_members types (member_entries ty (suc i) ms)
        else constant x ty (Number (pos i)) ∷ seen_members types (member_entries ty (suc i) ms))
    by_name true go = go
    by_name false go = (tt, go)

pub scoped_more : (ts : List Ty) (st : State) (all : List Declaration) (old : List Decl) (known : List (Option ℕ)) (k : List KnownType)
    (members es : List Entry) (ds : List TypeDef) (scope new : Scope) (seen : List Decl) → Scoped ts st all old known k members ds scope
    → new.decls ≡ scope.decls ++ seen → new.home ≡ scope.home → map (entry_of ts) seen ≡ es → Scoped ts st all old known k (members ++ es) ds new
scoped_more ts st all old known k members es ds scope new seen h e home shown =
    let types = decls_by (own_in st) [] known all in
    record {
      seen = h.seen ++ seen;
      decls = e ∙ ap (λ l. l ++ seen) h.decls ∙ append_assoc old (types ++ h.seen) seen ∙ ap (λ l. old ++ l) (append_assoc types h.seen seen);
      shown = ap₂ (λ a b. a ++ b) h.shown (sym shown) ∙ sym (map-append (entry_of ts) h.seen seen);
      home = home ∙ h.home;
      facts = h.facts;
      knows = h.knows;
    }

-- what was added to the table says nothing
pub scoped_grown : (ts : List Ty) (st : State) (all : List Declaration) (old : List Decl) (known : List (Option ℕ)) (k : List KnownType)
    (members : List Entry) (ds es : List TypeDef) (scope : Scope) → facts_in es ≡ facts_in ds → Scoped ts st all old known k members ds scope
    → Scoped ts st all old known k members es scope
scoped_grown ts st all old known k members ds es scope e h = record {
  seen = h.seen;
  decls = h.decls;
  shown = h.shown;
  home = h.home;
  facts = e ∙ h.facts;
  knows = h.knows;
}

-- behind the next definition
pub stage_next : {S R : Type 0} (ts : List Ty) (st : State) (all : List Declaration) (old : List Decl) (names : Names) (n : ℕ) (s : Section)
    (d : Declaration) (rest : List Declaration) (ds mid es : List TypeDef) (scope between new : Scope) (outside start : ℕ) (seen : HashSet (List ℕ) S)
    (more : HashSet (List ℕ) R) (known now : List (Option ℕ)) (read : List Definition) (def : Definition) (ms : List (List ℕ)) (shown : List Decl)
    → Under es ts (facts_in es) → Fixed ts st all old names n → Stage ts st all old n ds scope outside start seen known read s
    → facts_in mid ≡ facts_in ds → drop (length read) all ≡ d ∷ rest → key_by def ≡ key_of d → IsSound n (length all) def
    → KnowsAll mid es scope between names known now (read ++ def ∷ []) → HasNames more (ms ++ (normal d.name.text ∷ s.names))
    → members_in st (normal d.name.text ∷ s.names) (key_of d) d.body ≡ Ok (member_entries (type.enum (key_of d)) 0 ms)
    → new.decls ≡ between.decls ++ shown → new.home ≡ between.home
    → map (entry_of ts) shown ≡ seen_members (type_names all) (member_entries (type.enum (key_of d)) 0 ms)
    → Stage ts st all old n es new outside start more now (read ++ def ∷ [])
    (with_definition all s d (bodied (said_in ts (keys_of all) def) (member_entries (type.enum (key_of d)) 0 ms)))
stage_next ts st all old names n s d rest ds mid es scope between new outside start seen more known now read def ms shown u f g grown e key sound ka
    named members decls home is =
    let keys = keys_of all in
    let entries = member_entries (type.enum (key_of d)) 0 ms in
    let b = bodied (said_in ts keys def) entries in
    let one : Defined = record { key = key_of d; meant = b.meant; formed = b.formed } in
    let by_key : defined_by ts keys def ≡ one = λ i. record { key = key i; meant = b.meant; formed = b.formed } in
    let defined : s.defined ++ one ∷ [] ≡ all_defined ts keys (read ++ def ∷ []) =
    ap₂ (λ xs x. xs ++ x ∷ []) g.defined (sym by_key) ∙ sym (defined_more ts keys read def) in
    let reads = reads_more n all d rest read def g.reads e key sound in
    let behind = ka ts st all old n (length all) (known_of keys s.defined) s.members u f reads
    (scoped_grown ts st all old known (known_of keys s.defined) s.members ds mid scope grown g.scoped) in
    let k : known_behind keys (all_defined ts keys (read ++ def ∷ [])) (known_of keys s.defined) ≡ known_of keys (s.defined ++ one ∷ []) =
    ap (λ ds. known_behind keys ds (known_of keys s.defined)) (sym defined) ∙ sym (of_last keys s.defined one) in
    record {
      scoped = scoped_more ts st all old now (known_of keys (s.defined ++ one ∷ [])) s.members (seen_members (type_names all) entries) es between new shown
          (subst (λ z. Scoped ts st all old now z s.members es between) k behind) decls home is;
      defined = defined;
      reads = reads;
      names = subst (λ z. HasNames more (normal d.name.text ∷ (z ++ s.names))) (sym (names_members (type.enum (key_of d)) 0 ms))
          (names_turned more (normal d.name.text) ms s.names named);
      fresh = fresh_more st (type_names all) s.members entries g.fresh (members_fresh st (normal d.name.text ∷ s.names) (key_of d) d.body entries members);
      begins = g.begins;
      starts = g.starts;
      constants = constants_both s.members (seen_members (type_names all) entries) g.constants
          (members_constant (type_names all) (type.enum (key_of d)) 0 ms);
    }

-- the same with other names for what is equal
pub stage_as : {S : Type 0} (ts : List Ty) (st : State) (all : List Declaration) (old : List Decl) (n : ℕ) (ds : List TypeDef) (scope : Scope)
    (outside now start begin : ℕ) (seen : HashSet (List ℕ) S) (known : List (Option ℕ)) (read more : List Definition) (s : Section)
    → Stage ts st all old n ds scope outside start seen known read s → now ≡ outside → begin ≡ start → more ≡ read
    → Stage ts st all old n ds scope now begin seen known more s
stage_as ts st all old n ds scope outside now start begin seen known read more s g e f h = record {
  scoped = g.scoped;
  defined = g.defined ∙ ap (all_defined ts (keys_of all)) (sym h);
  reads = subst (Reads n (length all) (keys_of all)) (sym h) g.reads;
  names = g.names;
  fresh = g.fresh;
  begins = e ∙ g.begins;
  starts = f ∙ g.starts;
  constants = g.constants;
}
