-- The members of an enum, declared one after another.
use Rattle.std.proofs.Common.{◌≡◌, ℕ, suc, ◌<◌, List, [], ◌∷◌, ◌++◌, refl, sym, ap, ◌∙◌, append_assoc, length, ◌-◌, ◌⊎◌, ⊎_elim, Some}
use Rattle.std.specs.Prelude.{Bool, true, false, if◌then◌else◌, map, pos}
use Rattle.std.specs.Prelude.{Ok, Err, slice_get}
use Rattle.std.proofs.lemmas.Bool.{both_ways}
use Rattle.std.specs.HashSet.{HashSet, contains}
use Rattle.std.proofs.lemmas.List.{map-append}
use Rattle.nim_tree.specs.Types as body
use Rattle.nim_tree.specs.Types.{Body}
use Rattle.nim_types.specs.declared.types.FieldName.{FieldName}
use Rattle.nim_types.specs.Types as type
use Rattle.nim_types.specs.Types.{Ty, Key, same_text}
use Rattle.nim_types.specs.Table.{type_at}
use Rattle.nim_program.specs.Program.{Number}
use Rattle.expr_rules.specs.Constructions.{is_among}
use Rattle.expr_rules.specs.Answers.{Answer}
use Rattle.expr_rules.specs.Env.{Env, Entry, constant}
use Rattle.expr_parts.specs.declared.scope.Decl.{Decl}
use Rattle.expr_parts.specs.View.{entry_of, DeclsWithin}
use Rattle.expr_parts.proofs.ForCallers.{decls_both}
use Rattle.decl_rules.specs.State.{State}
use Rattle.decl_rules.specs.Meanings.{Meant, an_enum}
use Rattle.decl_rules.specs.Written.{Sizing}
use Rattle.decl_rules.specs.Sections.{seen_members}
use Rattle.decl_written.specs.ViewWritten.{HasNames}
use Rattle.decl_types.specs.declared.known.Definition.{Definition}
use Rattle.decl_types.specs.declared.known.Meaning.{Meaning}
use Rattle.decl_types.specs.declared.known.Meaning.TheVariants as M
use Rattle.decl_types.specs.ViewKnown.{meant_of, key_by}
use Rattle.decl_types.specs.ViewMarks.{is_enum}
use Rattle.decl_types.specs.ViewNodes.{node_types}
use Rattle.decl_types.proofs.ForCallers.{last_is}
use Rattle.decl_sections.specs.ViewBodies.{member_entries, Said, said_by}
use Rattle.decl_sections.specs.ViewSections.{members_in, said_in}
use Rattle.decl_sections.specs.ViewWalk.{member_decl}

abbrev pub one_member : {S : Type 0} → HashSet (List ℕ) S → ℕ → ℕ → List ℕ → List Decl
one_member all ty i x = if contains same_text all x then [] else member_decl ty i x ∷ []

pub member_within : {S : Type 0} (all : HashSet (List ℕ) S) (n ty i : ℕ) (x : List ℕ) (seen : List Decl) → ty < n → DeclsWithin n seen
    → DeclsWithin n (seen ++ one_member all ty i x)
member_within all n ty i x seen lt h = decls_both n seen (one_member all ty i x) h (by_name (contains same_text all x))
  where
    by_name : (b : Bool) → DeclsWithin n (if b then [] else member_decl ty i x ∷ [])
    by_name true = tt
    by_name false = (lt, tt)

-- with the next one
pub member_next : {S : Type 0} (all : HashSet (List ℕ) S) (ts : List Ty) (types : List (List ℕ)) (ty i : ℕ) (x : List ℕ) (rest : List (List ℕ))
    (seen : List Decl) → HasNames all types
    → map (entry_of ts) seen ++ seen_members types (member_entries (type_at ts ty) i (x ∷ rest))
    ≡ map (entry_of ts) (seen ++ one_member all ty i x) ++ seen_members types (member_entries (type_at ts ty) (suc i) rest)
member_next all ts types ty i x rest seen h =
    let behind = seen_members types (member_entries (type_at ts ty) (suc i) rest) in
    let one : Entry = constant x (type_at ts ty) (Number (pos i)) in
    ap (λ l. map (entry_of ts) seen ++ l) (by_name (is_among x types))
    ∙ sym (append_assoc (map (entry_of ts) seen) (map (entry_of ts) (if is_among x types then [] else member_decl ty i x ∷ [])) behind)
    ∙ ap (λ l. l ++ behind) (sym (map-append (entry_of ts) seen (if is_among x types then [] else member_decl ty i x ∷ [])))
    ∙ ap (λ (b : Bool). map (entry_of ts) (seen ++ (if b then [] else member_decl ty i x ∷ [])) ++ behind) (sym (h x))
  where
    by_name : (b : Bool)
        → (if b then seen_members types (member_entries (type_at ts ty) (suc i) rest)
        else constant x (type_at ts ty) (Number (pos i)) ∷ seen_members types (member_entries (type_at ts ty) (suc i) rest))
        ≡ map (entry_of ts) (if b then [] else member_decl ty i x ∷ []) ++ seen_members types (member_entries (type_at ts ty) (suc i) rest)
    by_name true = refl
    by_name false = refl

-- none are declared of what isn't an enum
pub none_seen : (section ms : List (List ℕ)) (read before : List Definition) (d definition : Definition) → slice_get read (length read - 1) ≡ Some definition
    → read ≡ before ++ d ∷ [] → is_enum definition.meaning ≡ false → (is_enum d.meaning ≡ false → ms ≡ [])
    → [] ≡ seen_members section (member_entries (type.enum (key_by d)) 0 ms)
none_seen section ms read before d definition at e other plain =
    let same = last_is read before d definition (sym at) e in
    ap (λ xs. seen_members section (member_entries (type.enum (key_by d)) 0 xs))
    (sym (plain (ap (λ (z : Definition). is_enum z.meaning) (sym same) ∙ other)))

-- ---- what isn't an enum has no members

abbrev is_an_enum : Meant → Bool
is_an_enum (an_enum all) = true
is_an_enum _ = false

abbrev said_enum : Answer Said → Bool
said_enum (Ok said) = is_an_enum said.meant
said_enum (Err refusal) = true

abbrev some_entries : Answer (List Entry) → Bool
some_entries (Ok (e ∷ rest)) = true
some_entries _ = false

abbrev no_answer : Answer (List Entry)
no_answer = Ok []

no_entries : (ty : Ty) (ms : List (List ℕ)) → no_answer ≡ Ok (member_entries ty 0 ms) → ms ≡ []
no_entries ty [] e = refl
no_entries ty (x ∷ ms) e = absurd (both_ways false refl (ap some_entries e))

meant_as : (done : List Ty) (m : Meaning) → is_enum m ≡ false → is_an_enum (meant_of done m) ≡ false
meant_as done (M.Object names is) e = refl
meant_as done (M.Enum members) e = absurd (both_ways true e refl)
meant_as done (M.Distinct i) e = refl
meant_as done (M.Alias i) e = refl

pub no_members : (sizing : Sizing) (env : Env) (ts : List Ty) (keys : List Key) (st : State) (names : List (List ℕ)) (key : Key) (b : Body)
    (ms : List (List ℕ)) (d : Definition) → members_in st names key b ≡ Ok (member_entries (type.enum key) 0 ms)
    → said_by sizing env b ≡ Ok (said_in ts keys d) → is_enum d.meaning ≡ false → ms ≡ []
no_members sizing env ts keys st names key (body.object at is_ref parent inside) ms d e s f = no_entries (type.enum key) ms e
no_members sizing env ts keys st names key (body.enum at all) ms d e s f =
    absurd (both_ways true (ap said_enum s ∙ meant_as (node_types ts keys d.nodes.items) d.meaning f) refl)
no_members sizing env ts keys st names key (body.distinct at base) ms d e s f = no_entries (type.enum key) ms e
no_members sizing env ts keys st names key (body.alias of) ms d e s f = no_entries (type.enum key) ms e

pub not_enum : (m : Meaning) → ((names : List FieldName) × (is : List ℕ) × (m ≡ M.Object names is))
    ⊎ (((i : ℕ) × (m ≡ M.Distinct i)) ⊎ ((i : ℕ) × (m ≡ M.Alias i))) → is_enum m ≡ false
not_enum m h =
    ⊎_elim (λ (o : (names : List FieldName) × (is : List ℕ) × (m ≡ M.Object names is)). ap is_enum o.2)
    (λ (r : ((i : ℕ) × (m ≡ M.Distinct i)) ⊎ ((i : ℕ) × (m ≡ M.Alias i))).
    ⊎_elim (λ (d : (i : ℕ) × (m ≡ M.Distinct i)). ap is_enum d.1) (λ (a : (i : ℕ) × (m ≡ M.Alias i)). ap is_enum a.1) r) h
