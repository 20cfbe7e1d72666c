-- Sections of types: what is computed is what the rules say, and back.
use Rattle.std.proofs.Common.{◌≡◌, ℕ, true, false, List, [], ◌∷◌, refl}
use Rattle.std.specs.Prelude.{Bool, Option, Some, None, Ok}
use Rattle.arc_base.specs.declared.place.Place.{Place}
use Rattle.arc_base.specs.declared.place.Code.{Code}
use Rattle.arc_base.specs.declared.place.Code.TheVariants.{LeftOut}
use Rattle.arc_base.specs.Refusal.{IsRefusal}
use Rattle.indent_scanner.specs.Words.{normal}
use Rattle.nim_tree.specs.declared.name.Name.{Name}
use Rattle.nim_tree.specs.Types as written
use Rattle.nim_tree.specs.Types.{Body, Declaration, Fields}
use Rattle.nim_types.specs.Types.{Key}
use Rattle.expr_rules.specs.Env.{Env}
use Rattle.expr_rules.specs.Answers.{Answer}
use Rattle.decl_rules.specs.State.{State}
use Rattle.decl_rules.specs.Written.{later}
use Rattle.decl_rules.specs.Sections.{Section, Bodied, is_plain_object, body_rule, declaration_rule, declarations_rule, section_rule, names_env, known_env}
use Rattle.decl_rules.specs.Sections.{none_read}
use Rattle.decl_rules.specs.Meanings.{key_of}
use Rattle.decl_rules.specs.TypeRules.{IsBody, b_object, b_enum, b_distinct, b_alias, IsTypeDefinition, d_type, AreTypeDefinitions, d_no_types, d_types}
use Rattle.decl_rules.specs.TypeRules.{IsSection, d_section}
use Rattle.decl_rules.specs.TypeRefusals as F
use Rattle.decl_rules.specs.TypeRefusals.{IsNoBody, IsNoTypeDefinition, AreNoTypeDefinitions, IsNoSection}
use Rattle.decl_rules.proofs.Means.{at_once, Means, m_ok, m_err, means_then, means_map, itself, bind_ok, bind_err}
use Rattle.decl_rules.proofs.Parts.{containment_sound, containment_complete, no_containment_complete}
use Rattle.decl_rules.proofs.Values.{Below, spelled_sound, parts_sound, spelled_complete, parts_complete, not_spelled_complete, no_parts_complete}

-- ---- bodies

abbrev pub BodySo : State → List (List ℕ) → (env known : Env) → Key → Body → Answer Bodied → Type 0
BodySo st before env known key b = Means (λ d. IsBody st before env known key b d) (λ c p. IsNoBody st before env known key b c p)

pub body_sound : Below → (st : State) (before : List (List ℕ)) (env known : Env) (key : Key) (b : Body)
    → BodySo st before env known key b (body_rule st before env known key b)
body_sound l st before env known key (written.object at true parent inside) = m_err (F.f_left_out refl)
body_sound l st before env known key (written.object at false (Some x) inside) = m_err (F.f_left_out refl)
body_sound l st before env known key (written.object at false None inside) =
    means_then (parts_sound l (later known) env [] inside) (λ all h. m_ok (b_object h)) (λ c p r. F.f_object r)
body_sound l st before env known key (written.enum at all) = means_then (itself _) (λ members e. m_ok (b_enum e)) (λ c p r. F.f_enum r)
body_sound l st before env known key (written.distinct at base) =
    means_then (spelled_sound l (later known) env base) (λ t h. m_ok (b_distinct h)) (λ c p r. F.f_distinct r)
body_sound l st before env known key (written.alias of) =
    means_then (spelled_sound l (later known) env of) (λ t h. m_ok (b_alias h)) (λ c p r. F.f_alias r)

pub body_complete : Below → {st : State} {before : List (List ℕ)} {env known : Env} {key : Key} {b : Body} {d : Bodied}
    → IsBody st before env known key b d → body_rule st before env known key b ≡ Ok d
body_complete l (b_object h) = bind_ok _ (parts_complete l h) refl
body_complete l (b_enum e) = bind_ok _ e refl
body_complete l (b_distinct h) = bind_ok _ (spelled_complete l h) refl
body_complete l (b_alias h) = bind_ok _ (spelled_complete l h) refl

left_out_complete : (st : State) (before : List (List ℕ)) (env known : Env) (key : Key) (at : Place) (is_ref : Bool) (parent : Option Name)
    (inside : Fields) → is_plain_object is_ref parent ≡ false
    → IsRefusal (body_rule st before env known key (written.object at is_ref parent inside)) LeftOut at
left_out_complete st before env known key at true parent inside e = refl
left_out_complete st before env known key at false (Some x) inside e = refl
left_out_complete st before env known key at false None inside e = cc

pub no_body_complete : Below → {st : State} {before : List (List ℕ)} {env known : Env} {key : Key} {b : Body} {c : Code} {p : Place}
    → IsNoBody st before env known key b c p → IsRefusal (body_rule st before env known key b) c p
no_body_complete l {st} {before} {env} {known} {key} (F.f_left_out {at = at} {is_ref = b} {parent = x} {inside = inside} e) =
    left_out_complete st before env known key at b x inside e
no_body_complete l (F.f_object w) = bind_err _ (no_parts_complete l w)
no_body_complete l (F.f_enum r) = bind_err _ r
no_body_complete l (F.f_distinct w) = bind_err _ (not_spelled_complete l w)
no_body_complete l (F.f_alias w) = bind_err _ (not_spelled_complete l w)

-- ---- definitions

abbrev pub DefinitionSo : State → List Declaration → Section → Declaration → Answer Section → Type 0
DefinitionSo st all s d = Means (λ t. IsTypeDefinition st all s d t) (λ c p. IsNoTypeDefinition st all s d c p)

pub definition_sound : Below → (st : State) (all : List Declaration) (s : Section) (d : Declaration)
    → DefinitionSo st all s d (declaration_rule st all s d)
definition_sound l st all s d =
    means_then (itself _)
    (λ _ e. means_then (itself _)
    (λ _ f. means_then (body_sound l st (normal d.name.text ∷ s.names) (names_env st all s) (known_env st all s) (key_of d) d.body)
    (λ b h. m_ok (d_type e f h)) (λ c p r. F.f_body e f r)) (λ c p r. F.f_generic e r)) (λ c p r. F.f_declared r)

pub definition_complete : Below → {st : State} {all : List Declaration} {s t : Section} {d : Declaration} → IsTypeDefinition st all s d t
    → declaration_rule st all s d ≡ Ok t
definition_complete l (d_type e f h) = bind_ok _ e (bind_ok _ f (bind_ok _ (body_complete l h) refl))

pub no_definition_complete : Below → {st : State} {all : List Declaration} {s : Section} {d : Declaration} {c : Code} {p : Place}
    → IsNoTypeDefinition st all s d c p → IsRefusal (declaration_rule st all s d) c p
no_definition_complete l (F.f_declared r) = bind_err _ r
no_definition_complete l (F.f_generic e r) = bind_ok _ e (bind_err _ r)
no_definition_complete l (F.f_body e f w) = bind_ok _ e (bind_ok _ f (bind_err _ (no_body_complete l w)))

abbrev pub DefinitionsSo : State → List Declaration → Section → List Declaration → Answer Section → Type 0
DefinitionsSo st all s ds = Means (λ t. AreTypeDefinitions st all s ds t) (λ c p. AreNoTypeDefinitions st all s ds c p)

pub definitions_sound : Below → (st : State) (all : List Declaration) (s : Section) (ds : List Declaration)
    → DefinitionsSo st all s ds (declarations_rule st all s ds)
definitions_sound l st all s [] = m_ok d_no_types
definitions_sound l st all s (d ∷ rest) =
    means_then (definition_sound l st all s d)
    (λ t h. means_map (definitions_sound l st all t rest) (λ u k. d_types h k) (λ c p r. F.f_rest_types h r)) (λ c p r. F.f_first_type r)

pub definitions_complete : Below → {st : State} {all : List Declaration} {s t : Section} {ds : List Declaration} → AreTypeDefinitions st all s ds t
    → declarations_rule st all s ds ≡ Ok t
definitions_complete l d_no_types = refl
definitions_complete l (d_types h k) = bind_ok _ (definition_complete l h) (definitions_complete l k)

pub no_definitions_complete : Below → {st : State} {all : List Declaration} {s : Section} {ds : List Declaration} {c : Code} {p : Place}
    → AreNoTypeDefinitions st all s ds c p → IsRefusal (declarations_rule st all s ds) c p
no_definitions_complete l (F.f_first_type w) = bind_err _ (no_definition_complete l w)
no_definitions_complete l (F.f_rest_types h w) = bind_ok _ (definition_complete l h) (no_definitions_complete l w)

-- ---- sections

abbrev pub SectionSo : State → List Declaration → Answer Env → Type 0
SectionSo st all = Means (λ env. IsSection st all env) (λ c p. IsNoSection st all c p)

pub section_sound : Below → (st : State) (all : List Declaration) → SectionSo st all (section_rule st all)
section_sound l st all =
    means_then (definitions_sound l st all none_read all)
    (λ s h. means_then (containment_sound s.defined s.defined)
    (λ _ e. means_then (itself _) (λ _ f. m_ok (d_section h e f)) (λ c p r. F.f_sizes h e r))
    (λ c p r. at_once (λ c q. IsNoSection st all c p) r.1 (F.f_containment h r.0))) (λ c p r. F.f_types r)

pub section_complete : Below → {st : State} {all : List Declaration} {env : Env} → IsSection st all env → section_rule st all ≡ Ok env
section_complete l (d_section {s = s} h e f) = bind_ok _ (definitions_complete l h) (bind_ok _ (containment_complete s.defined e) (bind_ok _ f refl))

pub no_section_complete : Below → {st : State} {all : List Declaration} {c : Code} {p : Place} → IsNoSection st all c p
    → IsRefusal (section_rule st all) c p
no_section_complete l (F.f_types w) = bind_err _ (no_definitions_complete l w)
no_section_complete l (F.f_containment {s = s} h r) = bind_ok _ (definitions_complete l h) (bind_err _ (no_containment_complete s.defined r))
no_section_complete l (F.f_sizes {s = s} h e r) = bind_ok _ (definitions_complete l h) (bind_ok _ (containment_complete s.defined e) (bind_err _ r))
