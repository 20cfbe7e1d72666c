-- What declarations say of a procedure is what its head says.
use Rattle.std.proofs.Common.{◌≡◌, ℕ, suc, Bool, true, false, List, [], ◌∷◌, ◌++◌, Option, Some, None, refl, sym, subst, ◌∙◌}
use Rattle.std.specs.Prelude.{◌||◌, if◌then◌else◌, slice_get, Ok}
use Rattle.arc_base.specs.Refusal.{and_then}
use Rattle.arc_base.specs.declared.place.Place.{Place}
use Rattle.indent_scanner.specs.Words.{normal}
use Rattle.nim_tree.specs.declared.name.Name.{Name}
use Rattle.nim_tree.specs.declared.name.Declared.{Declared as TreeName}
use Rattle.nim_tree.specs.declared.stmt.Binding.{Binding}
use Rattle.nim_tree.specs.Terms.{Term}
use Rattle.nim_tree.specs.Types.{Declaration, Body}
use Rattle.nim_tree.specs.Statements as tree
use Rattle.nim_tree.specs.Statements.{Definition, Statement, Branches as Trees}
use Rattle.nim_types.specs.Types.{Ty, Key}
use Rattle.nim_program.specs.Program.{Label, Literal, Proc}
use Rattle.nim_program.specs.Scopes.{is_no_hook}
use Rattle.expr_rules.specs.Env.{Env, Entry, variable, constant, named, pending, procedure, input, Procedure, name_in}
use Rattle.expr_rules.specs.Constructions.{is_among}
use Rattle.decl_rules.specs.State.{ResultPlace, Around, State, own_entries, is_declared, Stated, Blocked}
use Rattle.decl_rules.specs.Definitions.{constant_entries}
use Rattle.decl_rules.specs.Meanings.{KnownType, meaning_in, key_of}
use Rattle.decl_rules.specs.Sections.{Section, Bodied, types_by, entry_by, known_entry, members_rule, member_of, seen_members, new_in_section, type_names}
use Rattle.decl_rules.specs.Stated.{Branched, Armed}
use Rattle.decl_rules.specs.TypeRules as W
use Rattle.decl_rules.specs.TypeRules.{IsBody, IsTypeDefinition, AreTypeDefinitions, IsSection}
use Rattle.decl_rules.specs.Rules as R
use Rattle.decl_rules.specs.Rules.{IsVariable, AreVariables, IsDefinition, AreDefinitions, IsConstantOf, AreConstants, IsStated, IsBlock, AreBranches, AreArms}
use Rattle.typing_laws.specs.Knows.{AreOf}
use Rattle.typing_laws.proofs.Tests.{ever, ok_one}
use Rattle.typing_laws.proofs.Arms.{then_is}
use Rattle.typing_laws.proofs.Bodies.{declares_places}

pub record Serves (p : Procedure) (proc : Proc) : Type 0 where
  pub no_hook : is_no_hook proc.hook ≡ true
  pub types : proc.type_params ≡ 0
  pub gives : proc.gives ≡ p.gives
  pub params : AreOf p.params proc.params

-- the procedure of its number has its types and modes
pub record Served (procs : List Proc) (p : Procedure) : Type 0 where
  pub proc : Proc
  pub there : slice_get procs p.number ≡ Some proc
  pub serves : Serves p proc

abbrev pub Unless : Bool → Type 0 → Type 0
Unless true P = Unit {0}
Unless false P = P

abbrev pub EntryServed : List Proc → Entry → Type 0
EntryServed procs (variable name place of writable global) = Unit {0}
EntryServed procs (constant name of value) = Unit {0}
EntryServed procs (named name of) = Unit {0}
EntryServed procs (pending name) = Unit {0}
EntryServed procs (procedure name p) = Unless p.borrowed (Served procs p)
EntryServed procs (input name) = Unit {0}

abbrev pub EntriesServed : List Proc → List Entry → Type 0
EntriesServed procs [] = Unit {0}
EntriesServed procs (e ∷ rest) = EntryServed procs e × EntriesServed procs rest

-- ---- lists of entries

module _ (procs : List Proc) where
  pub served_more : (es more : List Entry) → EntriesServed procs es → EntriesServed procs more → EntriesServed procs (es ++ more)
  served_more [] more h k = k
  served_more (e ∷ es) more h k = (h.0, served_more es more h.1 k)

module _ (old new : List Proc) (keeps : (p : Procedure) → Served old p → Served new p) where
  entry_still : (e : Entry) → EntryServed old e → EntryServed new e
  entry_still (variable name place of writable global) h = tt
  entry_still (constant name of value) h = tt
  entry_still (named name of) h = tt
  entry_still (pending name) h = tt
  entry_still (procedure name p) h = by_test p.borrowed h
    where
      by_test : (b : Bool) → Unless b (Served old p) → Unless b (Served new p)
      by_test true h = tt
      by_test false h = keeps p h
  entry_still (input name) h = tt

  pub still_served : (es : List Entry) → EntriesServed old es → EntriesServed new es
  still_served [] h = tt
  still_served (e ∷ es) h = (entry_still e h.0, still_served es h.1)

-- ---- statements that declare no procedure

module _ (procs : List Proc) where
  -- sections of types
  types_served : (st : State) (names : List (List ℕ)) (known : List KnownType) (all : List Declaration)
      → EntriesServed procs (types_by st names (known_entry known) all)
  types_served st names known [] = tt
  types_served st names known (d ∷ rest) =
      by_test (is_declared (normal d.name.text) (own_entries st)) (is_among (normal d.name.text) names) (types_served st names known rest)
      (types_served st (normal d.name.text ∷ names) known rest)
    where
      by_known : (o : Option Ty) → EntryServed procs (entry_by (normal d.name.text) o)
      by_known (Some ty) = tt
      by_known None = tt

      by_test : (a b : Bool) → EntriesServed procs (types_by st names (known_entry known) rest)
          → EntriesServed procs (types_by st (normal d.name.text ∷ names) (known_entry known) rest)
          → EntriesServed procs (if a || b then types_by st names (known_entry known) rest
          else known_entry known d ∷ types_by st (normal d.name.text ∷ names) (known_entry known) rest)
      by_test true b h k = h
      by_test false true h k = h
      by_test false false h k = (by_known (meaning_in (key_of d) known), k)

  members_served : (st : State) (before : List (List ℕ)) (ty : Ty) (i : ℕ) (all : List Name) (members : List Entry)
      → members_rule st before ty i all ≡ Ok members → EntriesServed procs members
  members_served st before ty i [] members e = subst (EntriesServed procs) (ok_one e) tt
  members_served st before ty i (m ∷ rest) members e =
      let t = then_is (new_in_section st before m.at (normal m.text))
      (λ _. and_then (members_rule st (normal m.text ∷ before) ty (suc i) rest) (λ more. Ok (member_of ty i m ∷ more))) members e in
      let u = then_is (members_rule st (normal m.text ∷ before) ty (suc i) rest) (λ more. Ok (member_of ty i m ∷ more)) members t.next in
      subst (EntriesServed procs) (ok_one u.next) (tt, members_served st (normal m.text ∷ before) ty (suc i) rest u.value u.is)

  seen_served : (types : List (List ℕ)) (es : List Entry) → EntriesServed procs es → EntriesServed procs (seen_members types es)
  seen_served types [] h = tt
  seen_served types (e ∷ rest) h = by_test (is_among (name_in e) types) (seen_served types rest h.1)
    where
      by_test : (b : Bool) → EntriesServed procs (seen_members types rest)
          → EntriesServed procs (if b then seen_members types rest else e ∷ seen_members types rest)
      by_test true k = k
      by_test false k = (h.0, k)

  body_served : {st : State} {before : List (List ℕ)} {env known : Env} {key : Key} {body : Body} {b : Bodied} → IsBody st before env known key body b
      → EntriesServed procs b.members
  body_served (W.b_object h) = tt
  body_served {st} {before} {key = key} (W.b_enum {all = all} {members = members} h) = members_served st before _ 0 all members h
  body_served (W.b_distinct h) = tt
  body_served (W.b_alias h) = tt

  definition_served : {st : State} {all : List Declaration} {s t : Section} {d : Declaration} → IsTypeDefinition st all s d t
      → EntriesServed procs s.members → EntriesServed procs t.members
  definition_served {all = all} {s = s} (W.d_type {b = b} n g h) k =
      served_more procs s.members (seen_members (type_names all) b.members) k (seen_served (type_names all) b.members (body_served h))

  all_served : {st : State} {all ds : List Declaration} {s t : Section} → AreTypeDefinitions st all s ds t → EntriesServed procs s.members
      → EntriesServed procs t.members
  all_served W.d_no_types k = k
  all_served (W.d_types h more) k = all_served more (definition_served h k)

  section_served : {st : State} {all : List Declaration} {env : Env} → IsSection st all env → EntriesServed procs st.env.entries
      → EntriesServed procs env.entries
  section_served {st} (W.d_section {all = all} {s = s} h c z) k =
      served_more procs st.env.entries _ k (served_more procs _ s.members (types_served st [] _ all) (all_served h tt))

  -- constants
  constant_entries_served : (ty : Ty) (l : Literal) (names : List TreeName) → EntriesServed procs (constant_entries ty l names)
  constant_entries_served ty l [] = tt
  constant_entries_served ty l (d ∷ rest) = (tt, constant_entries_served ty l rest)

  constant_served : {st x : State} {ty : Option Ty} {names : List TreeName} {t : Option Term} → IsConstantOf st ty names t x
      → EntriesServed procs st.env.entries → EntriesServed procs x.env.entries
  constant_served {st} (R.d_constant {names = names} {c = c} h f) k =
      served_more procs st.env.entries _ k (constant_entries_served c.of c.literal names)
  constant_served R.d_no_constant k = k

  constants_served : {st x : State} {all : List Definition} → AreConstants st all x → EntriesServed procs st.env.entries
      → EntriesServed procs x.env.entries
  constants_served R.d_none_constant k = k
  constants_served (R.d_all_constant (R.d_constants n w h) more) k = constants_served more (constant_served h k)

  -- variables
  variable_served : {a : Around} {at : Place} {b : Binding} {env : Env} {ty : Option Ty} {t : Option Term} {st : State} {d : TreeName} {x : Stated}
      → IsVariable a at b env ty t st d x → EntriesServed procs st.env.entries → EntriesServed procs x.state.env.entries
  variable_served (R.d_initialised {st = st} h) k = served_more procs st.env.entries _ k (tt, tt)
  variable_served (R.d_defaulted {st = st}) k = served_more procs st.env.entries _ k (tt, tt)

  variables_served : {a : Around} {at : Place} {b : Binding} {env : Env} {ty : Option Ty} {t : Option Term} {st : State} {ds : List TreeName} {x : Stated}
      → AreVariables a at b env ty t st ds x → EntriesServed procs st.env.entries → EntriesServed procs x.state.env.entries
  variables_served R.d_no_names k = k
  variables_served (R.d_names h more) k = variables_served more (variable_served h k)

  pub definitions_served : {a : Around} {at : Place} {b : Binding} {st : State} {all : List Definition} {x : Stated} → AreDefinitions a at b st all x
      → EntriesServed procs st.env.entries → EntriesServed procs x.state.env.entries
  definitions_served R.d_no_definitions k = k
  definitions_served (R.d_definitions (R.d_variables n w h) more) k = definitions_served more (variables_served h k)

  -- blocks leave nothing behind
  block_entries : {a : Around} {st : State} {body : tree.Statements} {b : Blocked} → IsBlock a st body b → b.state.env.entries ≡ st.env.entries
  block_entries (R.s_block h) = refl

  branches_entries : {a : Around} {st : State} {all : Trees} {b : Branched} → AreBranches a st all b → b.state.env.entries ≡ st.env.entries
  branches_entries R.s_no_branches = refl
  branches_entries (R.s_branches h k j) = branches_entries j ∙ block_entries k

  arms_entries : {a : Around} {of : Ty} {before : List Label} {st : State} {all : Trees} {b : Armed} → AreArms a of before st all b
      → b.state.env.entries ≡ st.env.entries
  arms_entries R.s_no_arms = refl
  arms_entries (R.s_arms h k j) = arms_entries j ∙ block_entries k

  pub stated_served : {a : Around} {ends : ResultPlace} {st : State} {s : Statement} {x : Stated} → IsStated a ends st s x → declares_places s ≡ false
      → EntriesServed procs st.env.entries → EntriesServed procs x.state.env.entries
  stated_served (R.s_constants h) o k = constants_served h k
  stated_served (R.s_variables i h) o k = definitions_served h k
  stated_served (R.s_types h) o k = section_served h k
  stated_served (R.s_if h i) o k = subst (EntriesServed procs) (sym (block_entries i ∙ branches_entries h)) k
  stated_served (R.s_case h i j l r) o k = subst (EntriesServed procs) (sym (block_entries l ∙ arms_entries j)) k
  stated_served (R.s_while h i) o k = subst (EntriesServed procs) (sym (block_entries i)) k
  stated_served (R.s_procedure h i j) o k = ever o
  stated_served h o k = k
