-- The program, behind all modules.
use Rattle.std.proofs.Common.{◌≡◌, ℕ, zero, suc, ◌≤◌, ◌<◌, Bool, true, false, List, [], ◌∷◌, length, refl, sym, ap, ap₂, subst, ◌∙◌, append-nil, Some, None}
use Rattle.std.proofs.Common.{arith}
use Rattle.std.specs.Prelude.{◌||◌, Result, Ok, Err, IfOk, map, slice_get}
use Rattle.std.proofs.lemmas.Option.{slice_get_within}
use Rattle.arc_base.specs.declared.place.Stop.{Stop}
use Rattle.arc_base.specs.declared.place.Stop.TheVariants as stop
use Rattle.arc_base.specs.Refusal.{Refusal, and_then, Answers}
use Rattle.nim_types.specs.declared.types.TypeDef.{TypeDef}
use Rattle.nim_types.specs.declared.types.TypeDef.TheVariants as D
use Rattle.nim_types.specs.Types as type
use Rattle.nim_types.specs.Types.{Ty, same}
use Rattle.nim_types.specs.Table.{type_at, types_in, facts_in, IsTable}
use Rattle.nim_types.specs.Entries.{meant_at}
use Rattle.nim_types.proofs.ForCallers.{same_refl, count, entry_type}
use Rattle.nim_program.specs.declared.nodes.TheConstants.{MOST_NODES}
use Rattle.nim_program.specs.Kinds.{is_among_types}
use Rattle.nim_program.specs.Sizes.{HaveForms}
use Rattle.nim_program.specs.declared.program.Program.{Program as RustProgram}
use Rattle.nim_program.specs.Program.{Program, Stmts}
use Rattle.nim_program.specs.View.{program_under, stmts_of, proc_of}
use Rattle.expr_rules.specs.Answers.{Answer}
use Rattle.expr_parts.specs.View.{Under}
use Rattle.expr_parts.proofs.ForCallers.{answers_as, stops}
use Rattle.decl_rules.specs.State.{State, Stated}
use Rattle.decl_rules.specs.Elaborated.{Module, modules_stated, nothing_known, program_of}
use Rattle.decl_rules.specs.Whole.{text_rule}
use Rattle.check_uses.specs.declared.text.Item.{Item as RustItem}
use Rattle.check_uses.specs.View.{items_of}
use Rattle.decl_parts.specs.View.{steps_of}
use Rattle.decl_parts.proofs.ForCallers.{blocked_steps}
use Rattle.check_decls.specs.declared.draft.Draft.{Draft}
use Rattle.check_decls.specs.Modules.{program_in, types_or, IsWhole}
use Rattle.check_decls.specs.View.{Carrying, IsFirst, so_far, known_in, onto, program_rule}
use Rattle.check_decls.proofs.Beginning.{first_known, onto_nothing}

-- ---- what is made of a draft

abbrev pub program_from : Draft → RustProgram
program_from d = record {
  types = d.state.types;
  procs = d.procs;
  globals = d.state.globals;
  start = record { first = 0; places = d.state.place; before = 0; result = None; stmts = d.start };
}

abbrev with_start : Program → Stmts → Program
with_start p stmts = record p { start = record p.start { stmts = stmts } }

pub program_is : (ts : List Ty) (d : Draft) → program_under ts (facts_in d.state.types) (program_from d) ≡ program_of ts (so_far ts d)
program_is ts d = ap (with_start (program_under ts (facts_in d.state.types) (program_from d))) (sym (blocked_steps (stmts_of ts d.start.items)))

-- ---- the whole text

text_same : (ts : List Ty) (d : Draft) (text : List RustItem) → text ≡ d.text
    → text_rule (map (proc_of ts) d.procs.items) (items_of ts d.procs.items d.start.items text)
    ≡ text_rule (so_far ts d).state.procs (so_far ts d).state.text
text_same ts d text e = ap (λ l. text_rule (map (proc_of ts) d.procs.items) (items_of ts d.procs.items d.start.items l)) e

pub text_goes : (ts : List Ty) (d : Draft) (text : List RustItem) → text ≡ d.text
    → Answers {T = Unit {0}} (λ _. tt) (text_rule (map (proc_of ts) d.procs.items) (items_of ts d.procs.items d.start.items text)) (Ok tt)
    → (p : RustProgram) → program_under ts (facts_in d.state.types) p ≡ program_of ts (so_far ts d)
    → Answers (program_under ts (facts_in d.state.types)) (program_rule ts (so_far ts d)) (Ok p)
text_goes ts d text e h p is =
    ap (λ (z : Answer (Unit {0})). and_then z (λ _. Ok (program_of ts (so_far ts d)))) (sym (text_same ts d text e) ∙ h) ∙ ap Ok (sym is)

pub text_stops : (ts : List Ty) (d : Draft) (text : List RustItem) → text ≡ d.text → (s : Stop)
    → Answers {T = Unit {0}} (λ _. tt) (text_rule (map (proc_of ts) d.procs.items) (items_of ts d.procs.items d.start.items text)) (Err s)
    → Answers (program_under ts (facts_in d.state.types)) (program_rule ts (so_far ts d)) (Err s)
text_stops ts d text e s h =
    stops {S = Unit {0}} (program_under ts (facts_in d.state.types)) (λ _. tt) (text_rule (so_far ts d).state.procs (so_far ts d).state.text)
    (λ _. Ok (program_of ts (so_far ts d))) s
    (answers_as {T = Unit {0}} (λ _. tt) _ _ (Err s) (sym (text_same ts d text e)) h)

-- ---- all modules

-- the types of a table alone
pub over_table : (ds : List TypeDef) → IsTable ds → Under ds (types_in ds) (facts_in ds)
over_table ds t = record { table = t; more = []; begins = sym (append-nil (types_in ds)); said = refl }

carried_so : (ts : List Ty) (first : Draft) (all : List Module) → IsFirst first
    → onto (steps_of ts first.start.items) (modules_stated (known_in ts first) all) ≡ modules_stated nothing_known all
carried_so ts first all h =
    ap₂ (λ l (st : State). onto (steps_of ts l) (modules_stated st all)) h.start (first_known ts first h)
    ∙ onto_nothing (modules_stated nothing_known all)

program_by : (p : RustProgram) (ds : List TypeDef) → p.types ≡ ds → program_under (types_in ds) (facts_in ds) p ≡ program_in p
program_by p ds e = ap (λ t. program_under (types_in t) (facts_in t) p) (sym e)

-- the list of types changes no refusal
refused_alike : (ts us : List Ty) (s : Stated) (text : Answer (Unit {0})) (refusal : Refusal) → and_then text (λ _. Ok (program_of ts s)) ≡ Err refusal
    → and_then text (λ _. Ok (program_of us s)) ≡ Err refusal
refused_alike ts us s (Ok x) refusal h = cc
refused_alike ts us s (Err r) refusal h = h

typed_as : (us : List Ty) (s : Stated) (ds : List TypeDef) (r : Result RustProgram Stop) → IfOk r (λ p. p.types ≡ ds)
    → Answers (program_under (types_in ds) (facts_in ds)) (program_rule (types_in ds) s) r → Answers program_in (program_rule (types_or us r) s) r
typed_as us s ds (Ok p) e h = ap (λ l. program_rule (types_in l) s) e ∙ h ∙ ap Ok (program_by p ds e)
typed_as us s ds (Err (stop.Refused code at)) e h = refused_alike (types_in ds) us s (text_rule s.state.procs s.state.text) _ h
typed_as us s ds (Err stop.Memory) e h = tt

pub typed_goes : {T : Type 0} (first d : Draft) (all : List Module) (r : Result RustProgram Stop) {x : T} → IsFirst first → IsTable d.state.types
    → Carrying first d (λ st. modules_stated st all) (Ok x) → IfOk r (λ p. p.types ≡ d.state.types)
    → ((ts : List Ty) → Answers (program_under ts (facts_in d.state.types)) (program_rule ts (so_far ts d)) r)
    → (us : List Ty) → Answers program_in (and_then (modules_stated nothing_known all) (program_rule (types_or us r))) r
typed_goes first d all r h t j e a us =
    let ds = d.state.types in
    let ts = types_in ds in
    let u = over_table ds t in
    let done : modules_stated nothing_known all ≡ Ok (so_far ts d) = sym (carried_so ts first all h) ∙ j.answers ts u in
    let rule = program_rule (types_or us r) in
    answers_as program_in (and_then (modules_stated nothing_known all) rule) (rule (so_far ts d)) r (ap (λ (z : Answer Stated). and_then z rule) done)
    (typed_as us (so_far ts d) ds r e (a ts))

pub typed_stops : {T : Type 0} (first d : Draft) (all : List Module) (s : Stop) → IsFirst first → IsTable d.state.types
    → Carrying {T = T} first d (λ st. modules_stated st all) (Err s)
    → (us : List Ty) → Answers program_in (and_then (modules_stated nothing_known all) (program_rule us)) (Err s)
typed_stops {T} first d all s h t j us =
    let ds = d.state.types in
    let ts = types_in ds in
    let u = over_table ds t in
    stops {S = T} program_in (λ _. so_far ts d) (modules_stated nothing_known all) (program_rule us) s
    (answers_as {T = T} (λ _. so_far ts d) (modules_stated nothing_known all)
    (onto (steps_of ts first.start.items) (modules_stated (known_in ts first) all)) (Err s) (sym (carried_so ts first all h)) (j.answers ts u))

-- ---- the table and the numbers of a program

stands_among : (ts : List Ty) (i : ℕ) → i < length ts → is_among_types ts (type_at ts i) ≡ true
stands_among [] i l = absurd (omega (arith, l))
stands_among (t ∷ ts) zero l = ap (λ b. b || is_among_types ts t) (same_refl t)
stands_among (t ∷ ts) (suc i) l = behind (same (type_at ts i) t) (is_among_types ts (type_at ts i)) (stands_among ts i (omega (arith, l)))
  where
    behind : (b c : Bool) → c ≡ true → (b || c) ≡ true
    behind true c e = refl
    behind false c e = e

ints_among : (ds : List TypeDef) (i : ℕ) → IsTable ds → slice_get ds i ≡ Some D.Int → is_among_types (types_in ds) type.int ≡ true
ints_among ds i t e =
    let l = slice_get_within ds i D.Int e in
    subst (λ ty. is_among_types (types_in ds) ty ≡ true) (entry_type ds t i ∙ ap (meant_at (types_in ds)) e)
    (stands_among (types_in ds) i (subst (λ n. i < n) (sym (count ds)) l))

pub typed_whole : {T : Type 0} (first d : Draft) (all : List Module) (r : Result RustProgram Stop) {x : T} → IsFirst first → IsTable d.state.types
    → Carrying first d (λ st. modules_stated st all) (Ok x) → IfOk r (λ p. p.types ≡ d.state.types) → IfOk r (λ _. d.state.node ≤ MOST_NODES)
    → IfOk r (λ p. IsWhole all p)
typed_whole first d all (Ok p) h t j e l =
    let ds = d.state.types in
    let ts = types_in ds in
    let done : modules_stated nothing_known all ≡ Ok (so_far ts d) = sym (carried_so ts first all h) ∙ j.answers ts (over_table ds t) in
    record {
      table = subst IsTable (sym e) t;
      forms = subst HaveForms (sym e) j.sound.ready.all.formed;
      ints = subst (λ ds. is_among_types (types_in ds) type.int ≡ true) (sym e)
          (ints_among ds d.state.scope.kinds.int t j.sound.ready.all.kinds.int);
      nodes = λ s f. subst (λ (x : Stated). x.state.node ≤ MOST_NODES) (one_stated (so_far ts d) s (sym done ∙ f)) l;
    }
  where
    one_stated : (s u : Stated) → ◌≡◌ {A = Answer Stated} (Ok s) (Ok u) → s ≡ u
    one_stated s u e = cc
typed_whole first d all (Err s) h t j e l = tt
