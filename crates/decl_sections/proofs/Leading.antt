-- The next definition: what stops it, and what is behind it.
use Rattle.std.proofs.Common.{ℕ, ◌≡◌, List, [], ◌∷◌, ◌++◌, sym, ap, ap₂, ◌∙◌}
use Rattle.std.specs.Prelude.{Ok, Err}
use Rattle.arc_base.specs.declared.place.Stop.{Stop}
use Rattle.arc_base.specs.declared.place.Stop.TheVariants as stop
use Rattle.arc_base.specs.Refusal.{and_then, Answers}
use Rattle.arc_base.proofs.ForCallers.{answers_as, stops}
use Rattle.indent_scanner.specs.Words.{normal}
use Rattle.nim_tree.specs.Types.{Declaration}
use Rattle.nim_types.specs.declared.types.TypeDef.{TypeDef}
use Rattle.nim_types.specs.Types.{Ty}
use Rattle.nim_types.specs.Table.{facts_in}
use Rattle.expr_rules.specs.Env.{Env, Entry}
use Rattle.expr_parts.specs.declared.scope.Decl.{Decl}
use Rattle.expr_parts.specs.declared.scope.Scope.{Scope}
use Rattle.expr_parts.specs.View.{Under, Grown, env_of}
use Rattle.decl_rules.specs.State.{State}
use Rattle.decl_rules.specs.Meanings.{key_of, keys_of, known_of}
use Rattle.decl_rules.specs.Written.{later}
use Rattle.decl_rules.specs.Sections.{Section, with_definition, declaration_rule, declarations_rule}
use Rattle.decl_sections.specs.declared.bodies.Declared.{Declared as Seen}
use Rattle.decl_sections.specs.ViewBodies.{IsDeclared, Said, said_by}
use Rattle.decl_types.specs.ViewNodes.{names_env_of}
use Rattle.decl_sections.specs.declared.starting.Frame.{Frame}
use Rattle.decl_sections.specs.declared.starting.Reading.{Reading}
use Rattle.decl_sections.specs.ViewSections.{members_in, Leads}
use Rattle.decl_sections.specs.ViewWalk.{Framed, StageOf}
use Rattle.decl_types.proofs.ForCallers.{known_count}
use Rattle.decl_types.proofs.ForCallers.{env_is, names_env_is, keys_count}
use Rattle.decl_sections.proofs.Declaring.{declared_is}
use Rattle.decl_sections.proofs.Staging.{bodied, head_rule, head_behind, members_behind, said_rule, said_behind, declaration_parts, leads_stops, scoped_grown}

pub head_stops : {S : Type 0} (T : Type 0) (P : Section → Type 0) (of : S → Unit {0}) (st : State) (all : List Declaration) (s : Section) (d : Declaration)
    (stop : Stop)
    → Answers of (head_rule st s d) (Err stop) → Leads {T = T} P (declaration_rule st all s d) (Err stop)
head_stops T P of st all s d stop h =
    leads_stops T P (λ (_ : Unit {0}). s) (declaration_rule st all s d) stop
    (answers_as (λ (_ : Unit {0}). s) (declaration_rule st all s d) (and_then (head_rule st s d) (head_behind st all s d)) (Err stop)
    (declaration_parts st all s d)
    (stops (λ (_ : Unit {0}). s) of (head_rule st s d) (head_behind st all s d) stop h))

behind_head : (st : State) (all : List Declaration) (s : Section) (d : Declaration) → head_rule st s d ≡ Ok tt
    → declaration_rule st all s d ≡ and_then (members_in st (normal d.name.text ∷ s.names) (key_of d) d.body) (members_behind st all s d)
behind_head st all s d h = declaration_parts st all s d ∙ ap (λ z. and_then z (head_behind st all s d)) h

pub members_stops : {S : Type 0} (T : Type 0) (P : Section → Type 0) (of : S → List Entry) (st : State) (all : List Declaration) (s : Section)
    (d : Declaration)
    (stop : Stop) → head_rule st s d ≡ Ok tt → Answers of (members_in st (normal d.name.text ∷ s.names) (key_of d) d.body) (Err stop)
    → Leads {T = T} P (declaration_rule st all s d) (Err stop)
members_stops T P of st all s d stop e h =
    let members = members_in st (normal d.name.text ∷ s.names) (key_of d) d.body in
    leads_stops T P (λ (_ : Unit {0}). s) (declaration_rule st all s d) stop
    (answers_as (λ (_ : Unit {0}). s) (declaration_rule st all s d) (and_then members (members_behind st all s d)) (Err stop)
    (behind_head st all s d e) (stops (λ (_ : Unit {0}). s) of members (members_behind st all s d) stop h))

behind_members : (st : State) (all : List Declaration) (s : Section) (d : Declaration) (ms : List Entry) → head_rule st s d ≡ Ok tt
    → members_in st (normal d.name.text ∷ s.names) (key_of d) d.body ≡ Ok ms
    → declaration_rule st all s d ≡ and_then (said_rule st all s d) (said_behind all s d ms)
behind_members st all s d ms e f = behind_head st all s d e ∙ ap (λ z. and_then z (members_behind st all s d)) f

pub said_stops : {S : Type 0} (T : Type 0) (P : Section → Type 0) (of : S → Said) (st : State) (all : List Declaration) (s : Section) (d : Declaration)
    (ms : List Entry) (stop : Stop) → head_rule st s d ≡ Ok tt → members_in st (normal d.name.text ∷ s.names) (key_of d) d.body ≡ Ok ms
    → Answers of (said_rule st all s d) (Err stop) → Leads {T = T} P (declaration_rule st all s d) (Err stop)
said_stops T P of st all s d ms stop e f h =
    leads_stops T P (λ (_ : Unit {0}). s) (declaration_rule st all s d) stop
    (answers_as (λ (_ : Unit {0}). s) (declaration_rule st all s d) (and_then (said_rule st all s d) (said_behind all s d ms)) (Err stop)
    (behind_members st all s d ms e f) (stops (λ (_ : Unit {0}). s) of (said_rule st all s d) (said_behind all s d ms) stop h))

pub definition_leads : (P : Section → Type 0) (st : State) (all : List Declaration) (s : Section) (d : Declaration) (ms : List Entry) (said : Said)
    → head_rule st s d ≡ Ok tt → members_in st (normal d.name.text ∷ s.names) (key_of d) d.body ≡ Ok ms → said_rule st all s d ≡ Ok said
    → P (with_definition all s d (bodied said ms)) → (now : Section) × (declaration_rule st all s d ≡ Ok now) × P now
definition_leads P st all s d ms said e f g p =
    (with_definition all s d (bodied said ms), behind_members st all s d ms e f ∙ ap (λ z. and_then z (said_behind all s d ms)) g, p)

-- in the definitions that are left
pub rest_stops : (T : Type 0) (st : State) (all : List Declaration) (from s : Section) (d : Declaration) (rest : List Declaration) (stop : Stop)
    → declarations_rule st all from all ≡ declarations_rule st all s (d ∷ rest)
    → Leads {T = T} (λ (_ : Section). Unit {0}) (declaration_rule st all s d) (Err stop)
    → Leads {T = T} (λ (_ : Section). Unit {0}) (declarations_rule st all from all) (Err stop)
rest_stops T st all from s d rest (stop.Refused code at) e h = e ∙ ap (λ z. and_then z (λ now. declarations_rule st all now rest)) h
rest_stops T st all from s d rest stop.Memory e h = tt

-- ---- by what has been read

pub stage_declared : (ts : List Ty) (st : State) (all : List Declaration) (old : List Decl) (n : ℕ) (frame : Frame) (ds : List TypeDef) (scope : Scope)
    (reading : Reading) (s : Section) (declared : Seen) → Framed ts st all old n frame → StageOf ts st all old n ds scope reading s
    → declared.outside ≡ reading.declared.outside → declared.start ≡ reading.declared.start → IsDeclared st declared scope
stage_declared ts st all old n frame ds scope reading s declared f g o e =
    declared_is ts st all old g.scoped.seen reading.known.items s.members declared scope f.fixed.entries f.fixed.outside g.scoped.decls g.scoped.shown
    g.fresh (o ∙ g.begins) (e ∙ g.starts)

-- the rule of what a definition says, by the scope
pub said_by_scope : (ts : List Ty) (st : State) (all : List Declaration) (old : List Decl) (n : ℕ) (frame : Frame) (ds mid : List TypeDef) (scope : Scope)
    (reading : Reading) (s : Section) (d : Declaration) → Framed ts st all old n frame → StageOf ts st all old n ds scope reading s → Grown ds mid
    → Under mid ts (facts_in mid)
    → said_rule st all s d
    ≡ said_by (later (env_of ts (facts_in mid) scope)) (names_env_of ts (st.env.facts ++ []) (keys_of all) frame.names scope) d.body
said_by_scope ts st all old n frame ds mid scope reading s d f g grown u =
    let k = known_of (keys_of all) s.defined in
    let here = scoped_grown ts st all old reading.known.items k s.members ds mid scope (grown.under ts (facts_in mid) u).said g.scoped in
    let count = known_count ts (keys_of all) k reading.known.items here.knows ∙ keys_count all in
    ap₂ (λ (known names : Env). said_by (later known) names d.body)
    (sym (env_is ts st all old frame.names n reading.known.items k s mid scope f.fixed here))
    (sym (names_env_is ts st all old frame.names n reading.known.items k s mid scope f.fixed here count))
