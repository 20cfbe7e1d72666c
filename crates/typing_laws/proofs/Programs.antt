-- Programs that the rules accept are typed and numbered.
use Rattle.std.proofs.Common.{◌≡◌, ℕ, ◌+◌, true, List, [], ◌∷◌, length, Option, Some, None, refl, sym, ap, subst}
use Rattle.std.proofs.Common.{arith}
use Rattle.std.specs.Prelude.{map, Ok}
use Rattle.std.proofs.lemmas.Bool.{eq-eqb}
use Rattle.nim_types.specs.Types.{Ty}
use Rattle.nim_types.specs.Forms.{Form, HasForm}
use Rattle.nim_types.specs.Table.{types_in, facts_in}
use Rattle.nim_program.specs.declared.nodes.TheConstants.{MOST_NODES}
use Rattle.nim_program.specs.declared.program.Proc.{Proc as RustProc}
use Rattle.nim_program.specs.declared.program.Program.{Program as RustProgram}
use Rattle.nim_program.specs.Program.{Empty, Body, Proc, Program}
use Rattle.nim_program.specs.Folds.{block_nodes, block_places}
use Rattle.nim_program.specs.Kinds.{is_among_types, are_among_types, are_declared}
use Rattle.nim_program.specs.Numbering.{numbers_of, is_numbered_program}
use Rattle.nim_program.specs.Typed.{IsTyped, body_types, is_typed_code, are_typed_procs}
use Rattle.nim_program.specs.View.{proc_of}
use Rattle.expr_rules.specs.Laws.{CallsComputed, NodesComputed, EnoughComputed}
use Rattle.decl_rules.specs.State.{State, Stated, block_of}
use Rattle.decl_rules.specs.Whole.{text_rule}
use Rattle.decl_rules.specs.Parts.{KnownFound}
use Rattle.decl_rules.specs.Laws.{StatementsComputed}
use Rattle.decl_rules.specs.Nodes.{NodesNumbered, BodyNumbered}
use Rattle.decl_rules.specs.Places.{PlacesNumbered, ProcedureNumbered}
use Rattle.decl_rules.specs.Elaborated.{Module, nothing_known, module_begins, program_of}
use Rattle.decl_rules.specs.ProgramRules as M
use Rattle.decl_rules.specs.ProgramRules.{AreModules, IsProgram}
use Rattle.typing_laws.specs.Sound.{AreSound}
use Rattle.typing_laws.specs.Knows.{Knows, with_facts}
use Rattle.typing_laws.specs.Trees.{ModulesRead}
use Rattle.typing_laws.specs.Programs.{IsWholeTable, NodesWithin, over_table}
use Rattle.typing_laws.proofs.Tests.{both, none_some}
use Rattle.typing_laws.proofs.Constants.{Closed, ClosedOne}
use Rattle.typing_laws.proofs.Induction.{Preserved}
use Rattle.typing_laws.proofs.Further.{AllSaid, no_further}
use Rattle.typing_laws.proofs.Steps.{onto_none, At}
use Rattle.typing_laws.proofs.Bodies.{SectionsKept}
use Rattle.typing_laws.proofs.Sections.{section_kept}
use Rattle.typing_laws.proofs.Kept.{Kept, Later, later_then, later_same}
use Rattle.typing_laws.proofs.KeptCode.{module_kept, code_kept, modules_kept, nothing_kept}
use Rattle.typing_laws.proofs.Lists.{placed_length}
use Rattle.typing_laws.proofs.Standing.{standing}
use Rattle.typing_laws.proofs.Globals.{no_code, both_code}
use Rattle.typing_laws.proofs.ModuleCode.{IfListed, ProcsRight, CodeDone, code_done}
use Rattle.typing_laws.proofs.OwnModules.{nothing_sound, outermost_fit, final_sound}
use Rattle.typing_laws.proofs.Listed.{body_listed, body_in_listed}
use Rattle.typing_laws.proofs.ModuleNumbers.{rise_further, modules_numbered}
use Rattle.typing_laws.proofs.TableFacts.{table_said}
use Rattle.typing_laws.proofs.Computed.{modules_computed}
use Rattle.typing_laws.proofs.TableDeclared.{table_declared, table_forms}

-- ---- modules

module _ (calls : CallsComputed) (nodes : NodesComputed) (covers : EnoughComputed) (preserved : Preserved) (closed : Closed) (closed_one : ClosedOne)
    (sections : SectionsKept) (statements : PlacesNumbered) (procedures : ProcedureNumbered) (types : List Ty) (whole : Stated) (ended : Kept whole.state)
    (ruled : text_rule whole.state.procs whole.state.text ≡ Ok tt) (said : AllSaid whole.state.env.facts whole.state.env.facts) where
  abbrev Done : State → Stated → Type 0
  Done = CodeDone (program_of types whole) whole.state

  -- what is known where a module begins
  module_at : (st : State) (number : ℕ) → At (standing whole.state (length st.globals)) st →
      At (standing whole.state (length st.globals)) (module_begins st number)
  module_at st number at =
      let here = standing whole.state (length st.globals) in
      let all : Knows here (module_begins st number).env = record {
        sound = at.knows.all.sound;
        said = at.knows.all.said;
        entries = outermost_fit here at.knows.all.sound;
      } in
      let own : Knows (with_facts here st.env.facts) (module_begins st number).env = record {
        sound = at.knows.own.sound;
        said = at.knows.own.said;
        entries = outermost_fit (with_facts here st.env.facts) at.knows.own.sound;
      } in
      record { knows = record { all = all; own = own }; under = tt }

  modules_done : {st : State} {all : List Module} {x : Stated} → AreModules st all x → ModulesRead all → Kept st
      → At (standing whole.state (length st.globals)) st → Later x.state whole.state → Done st x
  modules_done {st} M.p_none read kept at later = record { right = no_code whole.state st at; procs = λ r. r }
  modules_done {st} (M.p_more {m = m} {one = one} {more = more} h k) read kept at later =
      let b = module_kept statements procedures st m.number kept in
      let r = code_kept statements procedures h b.kept in
      let q = modules_kept statements procedures k r.kept in
      let d = code_done calls nodes covers preserved closed closed_one sections statements procedures types whole ended ruled said h refl read.0 b.kept
      (module_at st m.number at) (later_then q.later later) in
      let e = modules_done k read.1 r.kept d.right.at later in
      record {
        right = both_code whole.state st one more (record { at = d.right.at; typed = d.right.typed }) e.right;
        procs = λ p. e.procs (d.procs p);
      }

-- ---- programs

-- the statements that a program is of
pub record IsWhole (types : List Ty) (all : List Module) (program : Program) : Type 0 where
  pub stated : Stated
  pub modules : AreModules nothing_known all stated
  pub ruled : text_rule stated.state.procs stated.state.text ≡ Ok tt
  pub is : program_of types stated ≡ program

is_whole : {types : List Ty} {all : List Module} {program : Program} → IsProgram types all program → IsWhole types all program
is_whole (M.p_program {s = s} n h r) = record { stated = s; modules = h; ruled = r; is = refl }

-- procedures whose types are all among those of the program
procs_typed : (program : Program) (procs : List RustProc) →
    ((p : RustProc) → IfListed program.types (proc_of program.types p).params (proc_of program.types p).body)
    → ProcsRight program (map (proc_of program.types) procs) → are_typed_procs program (map (proc_of program.types) procs) ≡ true
procs_typed program [] listed r = refl
procs_typed program (p ∷ procs) listed r = both (r.0 (listed p)) (procs_typed program procs listed r.1)

if_listed : (types : List Ty) (p : Proc) → ((b : Body) → p.body ≡ Some b → are_among_types types (body_types p.params b) ≡ true)
    → IfListed types p.params p.body
if_listed types p each = by_body p.body each
  where
    by_body : (o : Option Body) → ((b : Body) → o ≡ Some b → are_among_types types (body_types p.params b) ≡ true) → IfListed types p.params o
    by_body None each = tt
    by_body (Some b) each = each b refl

-- the laws that it rests on
pub record Grounds : Type 0 where
  pub calls : CallsComputed
  pub nodes : NodesComputed
  pub covers : EnoughComputed
  pub preserved : Preserved
  pub closed : Closed
  pub closed_one : ClosedOne
  pub found : KnownFound
  pub statements : PlacesNumbered
  pub procedures : ProcedureNumbered
  pub numbered : NodesNumbered
  pub bodies : BodyNumbered
  pub computed : StatementsComputed

module _ (g : Grounds) (p : RustProgram) (all : List Module) (read : ModulesRead all) (table : IsWholeTable p.types) (within : NodesWithin all)
    (w : IsWhole (types_in p.types) all (over_table p)) where
  abbrev s : Stated
  s = w.stated

  abbrev types : List Ty
  types = types_in p.types

  facts : s.state.env.facts ≡ facts_in p.types
  facts = ap (λ (q : Program). q.facts) w.is

  said : AllSaid s.state.env.facts s.state.env.facts
  said = subst (λ f. AllSaid f f) (sym facts) (table_said p.types table.table)

  kept : Kept s.state
  kept = (modules_kept g.statements g.procedures w.modules nothing_kept).kept

  ends : Later s.state s.state
  ends = later_same s.state s.state refl (omega arith) (no_further s.state.env.facts)

  sound : AreSound s.state.env.facts
  sound =
      final_sound g.calls g.preserved g.closed g.closed_one g.found g.statements g.procedures s.state kept w.ruled said w.modules read nothing_kept refl ends

  begins : At (standing s.state 0) nothing_known
  begins =
      let all : Knows (standing s.state 0) nothing_known.env = record { sound = sound; said = λ ty fact e. none_some e; entries = tt } in
      let own : Knows (with_facts (standing s.state 0) []) nothing_known.env = record { sound = nothing_sound; said = λ ty fact e. e; entries = tt } in
      record { knows = record { all = all; own = own }; under = tt }

  done : CodeDone (program_of types s) s.state nothing_known s
  done =
      modules_done g.calls g.nodes g.covers g.preserved g.closed g.closed_one (section_kept g.found g.closed g.closed_one) g.statements g.procedures
      types s kept
      w.ruled said w.modules read nothing_kept begins ends

  start_typed : is_typed_code (standing s.state 0) (block_of s.steps) ≡ true
  start_typed =
      subst (λ b. is_typed_code (standing s.state 0) b ≡ true) (sym (onto_none s.steps))
      (done.right.typed Empty (eq-eqb (length s.state.globals) _ (sym (placed_length s.state.globals))))

  procs_right : ProcsRight (over_table p) (over_table p).procs
  procs_right = subst (λ (q : Program). ProcsRight q q.procs) w.is (done.procs tt)

  procs_are_typed : are_typed_procs (over_table p) (over_table p).procs ≡ true
  procs_are_typed =
      procs_typed (over_table p) p.procs.items
      (λ q. if_listed types (proc_of types q) (λ b e. body_in_listed types table.ints q b e)) procs_right

  start_listed : are_among_types types (body_types [] (over_table p).start) ≡ true
  start_listed = body_listed types table.ints [] p.start

  table_sound : AreSound (facts_in p.types)
  table_sound = subst AreSound facts sound

  pub whole_sound : AreSound (program_of types s).facts
  whole_sound = sound

  pub whole_typed : IsTyped (program_of types s)
  whole_typed =
      record {
        forms = subst (λ f. (ty : Ty) → is_among_types types ty ≡ true → (x : Form) × HasForm f ty x) (sym facts)
            (table_forms p.types table.table table.forms table_sound);
        typed = both
            (subst (λ f. are_declared f types ≡ true) (sym facts) (table_declared p.types table.table table.forms table_sound))
            (both (subst (λ (q : Program). are_typed_procs q q.procs ≡ true) (sym w.is) procs_are_typed)
            (both (both (subst (λ (q : Program). are_among_types types (body_types [] q.start) ≡ true) (sym w.is) start_listed) refl) start_typed));
      }

  pub whole_numbered : is_numbered_program (program_of types s) ≡ true
  whole_numbered =
      let n = modules_numbered g.numbered g.bodies g.statements g.procedures w.modules nothing_kept in
      let l = within s (modules_computed g.computed w.modules) in
      both (n.procs l refl)
      (both (rise_further 0 s.state.node MOST_NODES (block_nodes (block_of s.steps)) l n.nodes)
      (rise_further 0 s.state.place (0 + s.state.place) (numbers_of (block_places (block_of s.steps))) (omega arith) n.places))

pub typed_programs : Grounds → (p : RustProgram) (all : List Module) → IsProgram (types_in p.types) all (over_table p) → ModulesRead all → IsWholeTable p.types
    → NodesWithin all → IsTyped (over_table p) × (is_numbered_program (over_table p) ≡ true)
typed_programs g p all is read table within =
    let w = is_whole is in
    (subst IsTyped w.is (whole_typed g p all read table within w), subst (λ q. is_numbered_program q ≡ true) w.is (whole_numbered g p all read table within w))

pub types_sound : Grounds → (p : RustProgram) (all : List Module) → IsProgram (types_in p.types) all (over_table p) → ModulesRead all → IsWholeTable p.types
    → NodesWithin all → AreSound (over_table p).facts
types_sound g p all is read table within =
    let w = is_whole is in subst (λ (q : Program). AreSound q.facts) w.is (whole_sound g p all read table within w)
