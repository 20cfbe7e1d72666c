use Rattle.std.proofs.Common.{◌≡◌, ℕ, [], ◌∷◌, ◌++◌, length, refl, sym, ap, ap₂, subst, ◌∙◌, arith, length-append}
use Rattle.std.specs.Prelude.{Err}
use Rattle.indent_scanner.specs.Words.{normal}
use Rattle.nim_tree.specs.Types.{declaration_of}
use Rattle.nim_types.specs.Types as type
use Rattle.nim_types.specs.Table.{facts_in}
use Rattle.expr_parts.specs.View.{env_of}
use Rattle.expr_parts.proofs.ForCallers.{answers_as, grown_same}
use Rattle.expr_parts.proofs.ForCallers.{ready_on}
use Rattle.decl_rules.specs.Meanings.{key_of, keys_of}
use Rattle.decl_rules.specs.Written.{later}
use Rattle.decl_rules.specs.Sections.{Section, declaration_rule, seen_members, type_names}
use Rattle.decl_written.specs.ViewWritten.{HasNames}
use Rattle.decl_sections.specs.declared.bodies.Declared.{Declared as Seen}
use Rattle.decl_sections.specs.ViewBodies.{member_entries, said_by}
use Rattle.decl_types.specs.ViewNodes.{names_env_of}
use Rattle.decl_types.proofs.ForCallers.{kept_grown, kept_on}
use Rattle.decl_types.specs.ViewScoped.{KnowsAll}
use Rattle.decl_sections.specs.ViewSections.{said_in}
use Rattle.decl_sections.specs.ViewWalk.{StageOf}
use Rattle.decl_sections.proofs.Leading.{head_stops, members_stops, said_stops, definition_leads, stage_declared, said_by_scope}
use Rattle.decl_types.proofs.ForCallers.{holds_more, last_there, on_any, on_one, sound_more}
use Rattle.decl_sections.proofs.Outside.{outer_ready, outer_stage}
use Rattle.decl_sections.proofs.Staging.{leads_last}
use Rattle.decl_sections.proofs.Membering.{no_members}
use Rattle.decl_sections.proofs.Readying.{ready_further}
use Rattle.decl_sections.proofs.Staging.{said_rule, stage_as, stage_next}
use Rattle.decl_sections.proofs.reading.read.Goals as goal

pub returns-in-Err-clause-kept : goal.returns-in-Err-clause-kept
returns-in-Err-clause-kept c = kept_grown c.args.types.now c.args.types.now (grown_same c.args.types.now)

pub returns-in-Err-clause-leads : goal.returns-in-Err-clause-leads
returns-in-Err-clause-leads c = λ ts st all old n s rest u f e g.
    let d = declaration_of c.args.def.now in
    let reading = c.args.reading.now in
    let known = stage_declared ts st all old n c.args.frame.now c.args.types.now c.args.scope.now reading s reading.declared f g refl refl in
    head_stops (Unit {0}) (λ (_ : Section). Unit {0}) (λ (_ : Unit {0}). tt) st all s d c.in-Err.stop (c.in-Err.ensures.answers s.names st g.names known)

pub returns-in-Err-members_of-clause-kept : goal.returns-in-Err-members_of-clause-kept
returns-in-Err-members_of-clause-kept c = kept_grown c.args.types.now c.args.types.now (grown_same c.args.types.now)

pub returns-in-Err-members_of-clause-leads : goal.returns-in-Err-members_of-clause-leads
returns-in-Err-members_of-clause-leads c = λ ts st all old n s rest u f e g.
    let d = declaration_of c.args.def.now in
    let reading = c.args.reading.now in
    let frame = c.args.frame.now in
    let first = stage_declared ts st all old n frame c.args.types.now c.args.scope.now reading s reading.declared f g refl refl in
    let head = c.in-Ok.ensures.answers s.names st g.names first in
    let behind = stage_declared ts st all old n frame c.args.types.now c.args.scope.now reading s c.check_head.new.declared f g
    c.check_head.ensures.outside c.check_head.ensures.start in
    members_stops (Unit {0}) (λ (_ : Section). Unit {0}) (member_entries (type.enum (key_of d)) 0) st all s d c.in-Err-members_of.stop head
    (c.in-Err-members_of.ensures.answers (normal d.name.text ∷ s.names) (key_of d) st (c.in-Ok.ensures.seen s.names g.names) behind)

pub returns-in-Err-read_definition-clause-kept : goal.returns-in-Err-read_definition-clause-kept
returns-in-Err-read_definition-clause-kept c = kept_grown c.args.types.now c.read_definition.new.types c.read_definition.ensures.grown

pub returns-in-Err-read_definition-clause-leads : goal.returns-in-Err-read_definition-clause-leads
returns-in-Err-read_definition-clause-leads c = λ ts st all old n s rest u f e g.
    let d = declaration_of c.args.def.now in
    let reading = c.args.reading.now in
    let frame = c.args.frame.now in
    let ds = c.args.types.now in
    let mid = c.read_definition.new.types in
    let scope = c.args.scope.now in
    let first = stage_declared ts st all old n frame ds scope reading s reading.declared f g refl refl in
    let head = c.in-Ok.ensures.answers s.names st g.names first in
    let behind = stage_declared ts st all old n frame ds scope reading s c.check_head.new.declared f g c.check_head.ensures.outside
    c.check_head.ensures.start in
    let names = normal d.name.text ∷ s.names in
    let members = c.in-Ok-members_of.ensures.answers names (key_of d) st (c.in-Ok.ensures.seen s.names g.names) behind in
    let ms = member_entries (type.enum (key_of d)) 0 c.in-Ok-members_of.members in
    let said = said_by (later (env_of ts (facts_in mid) scope)) (names_env_of ts (st.env.facts ++ []) (keys_of all) frame.names scope) d.body in
    said_stops (Unit {0}) (λ (_ : Section). Unit {0}) (said_in ts (keys_of all)) st all s d ms c.in-Err-read_definition.stop head members
    (answers_as (said_in ts (keys_of all)) (said_rule st all s d) said (Err c.in-Err-read_definition.stop)
    (said_by_scope ts st all old n frame ds mid scope reading s d f g c.read_definition.ensures.grown u)
    (c.in-Err-read_definition.ensures.answers ts (facts_in mid) (st.env.facts ++ []) (keys_of all) u))

pub returns-in_err-take_up-clause-kept : goal.returns-in_err-take_up-clause-kept
returns-in_err-take_up-clause-kept c =
    kept_on c.args.types.now c.read_definition.new.types c.take_up.new.types
    (kept_grown c.args.types.now c.read_definition.new.types c.read_definition.ensures.grown) c.take_up.ensures.kept

pub returns-clause-kept : goal.returns-clause-kept
returns-clause-kept c =
    kept_on c.args.types.now c.read_definition.new.types c.take_up.new.types
    (kept_grown c.args.types.now c.read_definition.new.types c.read_definition.ensures.grown) c.take_up.ensures.kept

pub returns-clause-ready : goal.returns-clause-ready
returns-clause-ready c =
    on_one c.take_members.result c.take_members.ensures.decls (λ m.
    ready_further c.take_up.new.types c.take_up.new.scope c.take_members.new.scope m.0 m.1 c.take_members.ensures.kinds
    (m.2 (length c.take_up.new.types) c.in_ok-take_up.ensures.holds.below)
    (c.in_ok-take_up.ensures.ready (ready_on c.read_definition.ensures.grown c.requires.ready)))

pub returns-clause-count : goal.returns-clause-count
returns-clause-count c =
    let l = ap length c.in_ok-take_up.ensures.read in
    on_any c.take_members.result (omega (arith, l, length-append c.args.reading.now.read.items (c.in-Ok-read_definition.definition ∷ [])))

pub returns-clause-leads : goal.returns-clause-leads
returns-clause-leads c = λ ts st all old n s rest u f e g.
    let d = declaration_of c.args.def.now in
    let reading = c.args.reading.now in
    let now = c.take_up.new.reading in
    let frame = c.args.frame.now in
    let ds = c.args.types.now in
    let mid = c.read_definition.new.types in
    let es = c.take_up.new.types in
    let scope = c.args.scope.now in
    let between = c.take_up.new.scope in
    let new = c.take_members.new.scope in
    let grown = c.read_definition.ensures.grown in
    let v = c.take_up.ensures.kept.under ts (facts_in es) u in
    let def = c.in-Ok-read_definition.definition in
    let ms = c.in-Ok-members_of.members in
    let first = stage_declared ts st all old n frame ds scope reading s reading.declared f g refl refl in
    let head = c.in-Ok.ensures.answers s.names st g.names first in
    let behind = stage_declared ts st all old n frame ds scope reading s c.check_head.new.declared f g c.check_head.ensures.outside
    c.check_head.ensures.start in
    let names = normal d.name.text ∷ s.names in
    let seen = c.in-Ok.ensures.seen s.names g.names in
    let members = c.in-Ok-members_of.ensures.answers names (key_of d) st seen behind in
    let said = said_by_scope ts st all old n frame ds mid scope reading s d f g grown v
    ∙ c.in-Ok-read_definition.ensures.answers ts (facts_in mid) (st.env.facts ++ []) (keys_of all) v in
    let declared : now.declared ≡ c.members_of.new.declared = c.in_ok-take_up.ensures.declared in
    let named = subst (λ (z : Seen). HasNames z.seen (ms ++ names)) (sym declared) (c.in-Ok-members_of.ensures.seen names seen) in
    let outside : now.declared.outside ≡ reading.declared.outside =
    ap (λ (z : Seen). z.outside) declared ∙ c.members_of.ensures.outside ∙ c.check_head.ensures.outside in
    let start : now.declared.start ≡ reading.declared.start =
    ap (λ (z : Seen). z.start) declared ∙ c.members_of.ensures.start ∙ c.check_head.ensures.start in
    let read = c.in_ok-take_up.ensures.read in
    let knows = subst (KnowsAll mid es scope between frame.names reading.known.items now.known.items) read c.in_ok-take_up.ensures.knows in
    let entries = member_entries (type.enum (key_of d)) 0 ms in
    let sound = c.in-Ok-read_definition.ensures.sound n (length all) (outer_stage ts st all old n frame ds scope reading s f g) in
    leads_last (StageOf ts st all old n es new now) (declaration_rule st all s d) c.take_members.result c.take_members.ensures.memory
    c.take_members.ensures.decls (λ m.
    let own = λ (id : ℕ) (g : _). c.in_ok-take_up.ensures.holds.stands (length reading.read.items) def
    (last_there reading.read.items now.read.items def read) id g ts (facts_in es) u in
    let plain = λ (e : _). c.as_slice.ensures ∙ no_members (later (env_of ts (facts_in mid) scope))
    (names_env_of ts (st.env.facts ++ []) (keys_of all) frame.names scope) ts (keys_of all) st names (key_of d) d.body ms def members
    (c.in-Ok-read_definition.ensures.answers ts (facts_in mid) (st.env.facts ++ []) (keys_of all) v) e in
    let shown = m.3 ts (type_names all) reading.read.items def f.names read own plain
    ∙ ap₂ (λ ty xs. seen_members (type_names all) (member_entries ty 0 xs)) (ap type.enum c.in-Ok-read_definition.ensures.key) c.as_slice.ensures in
    definition_leads (StageOf ts st all old n es new now) st all s d entries (said_in ts (keys_of all) def) head members said
    (stage_as ts st all old n es new reading.declared.outside now.declared.outside reading.declared.start now.declared.start
    now.declared.seen now.known.items (reading.read.items ++ def ∷ []) now.read.items _
    (stage_next ts st all old frame.names n s d rest ds mid es scope between new reading.declared.outside reading.declared.start
    reading.declared.seen now.declared.seen reading.known.items now.known.items reading.read.items def ms m.0 u f.fixed g
    (grown.under ts (facts_in mid) v).said e c.in-Ok-read_definition.ensures.key sound knows named members m.1
    c.take_members.ensures.home shown) outside start read))

pub returns-clause-known : goal.returns-clause-known
returns-clause-known c = on_any c.take_members.result c.in_ok-take_up.ensures.count

pub take_members-requires : goal.take_members-requires
take_members-requires c =
    let l = ap length c.in_ok-take_up.ensures.read in
    let n = length-append c.args.reading.now.read.items (c.in-Ok-read_definition.definition ∷ []) in
    record {
      read = omega (arith, l, n);
      room = let k = c.in_ok-take_up.ensures.count in let r = c.requires.room in omega (arith, l, n, k, r);
      stuck = c.in_ok-take_up.ensures.stuck;
    }

pub returns-clause-holds : goal.returns-clause-holds
returns-clause-holds c = on_any c.take_members.result c.in_ok-take_up.ensures.holds

pub take_up-requires-clause-sound : goal.take_up-requires-clause-sound
take_up-requires-clause-sound c =
    let old = length c.args.types.now in
    let known = length c.args.reading.now.known.items in
    let o = outer_ready old known c.args.frame.now.names c.args.scope.now.decls c.requires.ready.decls c.requires.numbers in
    sound_more old (length c.read_definition.new.types) known c.in-Ok-read_definition.definition c.read_definition.ensures.grown.length
    (c.in-Ok-read_definition.ensures.sound old known o)

pub take_up-requires-clause-holds : goal.take_up-requires-clause-holds
take_up-requires-clause-holds c =
    let reading = c.args.reading.now in
    holds_more c.args.types.now c.read_definition.new.types reading.known.items reading.read.items
    (kept_grown c.args.types.now c.read_definition.new.types c.read_definition.ensures.grown) c.requires.holds

pub returns-clause-stuck : goal.returns-clause-stuck
returns-clause-stuck c = on_any c.take_members.result c.in_ok-take_up.ensures.stuck
