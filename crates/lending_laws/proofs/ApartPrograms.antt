-- Programs that rules accept lend well.
use Rattle.std.proofs.Common.{◌≡◌, ℕ, Bool, true, false, List, [], ◌∷◌, ◌++◌, refl, sym, ap, subst, ◌∙◌, append_assoc, append-nil, Option, Some, None}
use Rattle.std.proofs.Common.{inl, inr}
use Rattle.std.specs.Prelude.{Ok}
use Rattle.nim_tree.specs.Statements.{Statements}
use Rattle.nim_types.specs.Types.{Ty}
use Rattle.nim_program.specs.Program.{Param, Body, Proc, Program, Stmts}
use Rattle.expr_rules.specs.Answers.{Answer}
use Rattle.expr_rules.specs.Laws.{CallsComputed}
use Rattle.decl_rules.specs.State.{ResultPlace, State, Stated, Step, does, declares, defers, block_of, in_module, Item, announces, completes, code}
use Rattle.decl_rules.specs.Naming.{NamesFound}
use Rattle.decl_rules.specs.Occurrences.{Occurrence, global, calls, hands, in_stmt, in_args, in_block}
use Rattle.decl_rules.specs.Whole.{names, unless_named, occurrences_rule, item_rule, text_rule}
use Rattle.decl_rules.specs.Elaborated.{Module, module_begins}
use Rattle.decl_rules.specs.ProgramRules.{AreModules, p_none, p_more, IsProgram, p_program}
use Rattle.decl_rules.specs.Rules as R
use Rattle.decl_rules.specs.Rules.{AreStated}
use Rattle.lending_laws.specs.Writing.{lent_params}
use Rattle.lending_laws.specs.Apart.{AreLentApart, BlockLends, HandsUnnamed, IfBody, InProcs}
use Rattle.lending_laws.proofs.Sure.{then_is, never}
use Rattle.lending_laws.proofs.ApartStates.{Tells, Told, told_on, told_last, BodyTold, AllTold, On, on_then, same_on, Keeps, noting_keeps, both_part}
use Rattle.lending_laws.proofs.ApartStmts.{stated_done, all_done}

-- nothing is lent to the start code
abbrev start : ℕ → Bool
start = lent_params []

begins : (st : State) (number : ℕ) → Keeps start (module_begins st number)
begins st number = record {
  spared = (tt, (tt, (tt, (tt, (tt, (tt, (tt, tt)))))));
  below = (tt, (tt, (tt, (tt, (tt, (tt, (tt, tt)))))));
  bounded = λ n e. never e;
}

module _ (found : NamesFound) (all : List Proc) where
  abbrev Unnamed : List Occurrence → Type 0
  Unnamed os = HandsUnnamed all os

  -- ---- what occurs, one after another

  unnamed_both : (xs ys : List Occurrence) → Unnamed xs → Unnamed ys → Unnamed (xs ++ ys)
  unnamed_both [] ys h k = k
  unnamed_both (global place ∷ xs) ys h k = unnamed_both xs ys h k
  unnamed_both (calls proc ∷ xs) ys h k = unnamed_both xs ys h k
  unnamed_both (hands proc at place ∷ xs) ys h k = (h.0, unnamed_both xs ys h.1 k)

  unnamed_first : (xs ys : List Occurrence) → Unnamed (xs ++ ys) → Unnamed xs
  unnamed_first [] ys h = tt
  unnamed_first (global place ∷ xs) ys h = unnamed_first xs ys h
  unnamed_first (calls proc ∷ xs) ys h = unnamed_first xs ys h
  unnamed_first (hands proc at place ∷ xs) ys h = (h.0, unnamed_first xs ys h.1)

  unnamed_last : (xs ys : List Occurrence) → Unnamed (xs ++ ys) → Unnamed ys
  unnamed_last [] ys h = h
  unnamed_last (global place ∷ xs) ys h = unnamed_last xs ys h
  unnamed_last (calls proc ∷ xs) ys h = unnamed_last xs ys h
  unnamed_last (hands proc at place ∷ xs) ys h = unnamed_last xs ys h.1

  -- a part before steps, by what is in front of it
  before_rest : (xs rest more : List Occurrence) → Unnamed (xs ++ rest) → (Unnamed rest → Unnamed more) → Unnamed (xs ++ more)
  before_rest xs rest more h go = unnamed_both xs more (unnamed_first xs rest h) (go (unnamed_last xs rest h))

  steps_both : (xs ys : List Step) → Unnamed (in_block (block_of xs)) → Unnamed (in_block (block_of ys)) → Unnamed (in_block (block_of (xs ++ ys)))
  steps_both [] ys h k = k
  steps_both (does s ∷ xs) ys h k = before_rest (in_stmt s) (in_block (block_of xs)) (in_block (block_of (xs ++ ys))) h (λ r. steps_both xs ys r k)
  steps_both (declares n place cursor value ∷ xs) ys h k =
      before_rest (in_args None value) (in_block (block_of xs)) (in_block (block_of (xs ++ ys))) h (λ r. steps_both xs ys r k)
  steps_both (defers n last ∷ xs) ys h k =
      before_rest (in_block last) (in_block (block_of xs)) (in_block (block_of (xs ++ ys))) h (λ r. steps_both xs ys r k)

  -- ---- the rule of the text

  unnamed_by : (os : List Occurrence) → occurrences_rule all os ≡ Ok tt → Unnamed os
  unnamed_by [] e = tt
  unnamed_by (global place ∷ os) e = unnamed_by os e
  unnamed_by (calls proc ∷ os) e = unnamed_by os e
  unnamed_by (hands proc at place ∷ os) e =
      let t = then_is (unless_named (names all place proc) at) (λ _. occurrences_rule all os) tt e in
      (λ named. by_test (names all place proc) t.value ((found all place proc).1 named) t.is, unnamed_by os t.next)
    where
      by_test : (b : Bool) (x : Unit {0}) → b ≡ true → ◌≡◌ {A = Answer (Unit {0})} (unless_named b at) (Ok x) → ⊥
      by_test true x h e = cc
      by_test false x h e = cc

  unnamed_item : (item : Item) (rest : List Item) (stmts : Stmts) (x : Unit {0}) → item_rule all item rest ≡ Ok x → Tells stmts item → Unnamed (in_block stmts)
  unnamed_item (announces proc at) rest stmts x e h = absurd h
  unnamed_item (completes proc others) rest stmts tt e h = subst (λ s. Unnamed (in_block s)) h (unnamed_by (in_block others) e)
  unnamed_item (code others) rest stmts tt e h = subst (λ s. Unnamed (in_block s)) h (unnamed_by (in_block others) e)

  told_unnamed : (text : List Item) (stmts : Stmts) → text_rule all text ≡ Ok tt → Told text stmts → Unnamed (in_block stmts)
  told_unnamed [] stmts e h = absurd h
  told_unnamed (item ∷ text) stmts e (inl h) =
      let t = then_is (item_rule all item text) (λ _. text_rule all text) tt e in unnamed_item item text stmts t.value t.is h
  told_unnamed (item ∷ text) stmts e (inr h) =
      let t = then_is (item_rule all item text) (λ _. text_rule all text) tt e in told_unnamed text stmts t.next h

  -- ---- code of modules

  module _ (computed : CallsComputed) (text : List Item) (ruled : text_rule all text ≡ Ok tt) where
    -- a text that leads to the whole one
    abbrev Leads : List Item → Type 0
    Leads first = (more : List Item) × (text ≡ first ++ more)

    leads_on : (st x : State) → On st x → Leads x.text → Leads st.text
    leads_on st x on h = (on.more ++ h.0, h.1 ∙ ap (λ t. t ++ h.0) on.is ∙ append_assoc st.text on.more h.0)

    code_unnamed : {ends : ResultPlace} {st : State} {stmts : Statements} {x : Stated} → Keeps start st → AreStated in_module ends st stmts x
        → Leads x.state.text → Unnamed (in_block (block_of x.steps))
    code_unnamed keeps R.s_none h = tt
    code_unnamed keeps (R.s_more {one = one} {more = more} f k) h =
        let noted = code (block_of one.steps) in
        let behind = noting_keeps start true one (stated_done computed start keeps f).keeps in
        let rest = leads_on (record one.state { text = one.state.text ++ noted ∷ [] }) more.state (all_done computed start behind k).on h in
        steps_both one.steps more.steps
        (told_unnamed text (block_of one.steps) ruled (subst (λ t. Told t (block_of one.steps)) (sym rest.1)
        (told_on (one.state.text ++ noted ∷ []) rest.0 (block_of one.steps) (told_last one.state.text noted (block_of one.steps) refl))))
        (code_unnamed behind k h)

    modules_on : {st : State} {ms : List Module} {x : Stated} → AreModules st ms x → On st x.state
    modules_on {st} p_none = same_on st st refl refl refl
    modules_on {st} (p_more {m = m} {one = one} h k) =
        on_then (same_on st (module_begins st m.number) refl refl refl) (on_then (all_done computed start (begins st m.number) h).on (modules_on k))

    modules_unnamed : {st : State} {ms : List Module} {x : Stated} → AreModules st ms x → Leads x.state.text → Unnamed (in_block (block_of x.steps))
    modules_unnamed p_none h = tt
    modules_unnamed {st} (p_more {m = m} {one = one} {more = more} f k) h =
        steps_both one.steps more.steps (code_unnamed (begins st m.number) f (leads_on one.state more.state (modules_on k) h)) (modules_unnamed k h)

    modules_part : {st : State} {ms : List Module} {x : Stated} → AreModules st ms x → BlockLends start (block_of x.steps)
    modules_part p_none = tt
    modules_part {st} (p_more {m = m} {one = one} {more = more} f k) =
        both_part start one.steps more.steps (all_done computed start (begins st m.number) f).part (modules_part k)

    -- ---- bodies

    if_part : (params : List Param) (body : Option Body) → IfBody (BodyTold text params) body → IfBody (BlockLends (lent_params params)) body
    if_part params None h = tt
    if_part params (Some body) h = h.0

    if_unnamed : (params : List Param) (body : Option Body) → IfBody (BodyTold text params) body → IfBody (λ stmts. Unnamed (in_block stmts)) body
    if_unnamed params None h = tt
    if_unnamed params (Some body) h = told_unnamed text body.stmts ruled h.1

    procs_part : (procs : List Proc) → AllTold text procs → InProcs (λ params. BlockLends (lent_params params)) procs
    procs_part [] h = tt
    procs_part (p ∷ procs) h = (if_part p.params p.body h.0, procs_part procs h.1)

    procs_unnamed : (procs : List Proc) → AllTold text procs → InProcs (λ params stmts. Unnamed (in_block stmts)) procs
    procs_unnamed [] h = tt
    procs_unnamed (p ∷ procs) h = (if_unnamed p.params p.body h.0, procs_unnamed procs h.1)

pub lent_apart : CallsComputed → NamesFound → (types : List Ty) (ms : List Module) (program : Program) → IsProgram types ms program → AreLentApart program
lent_apart computed found types ms program (p_program {s = s} none modules ruled) =
    let procs = s.state.procs in
    let text = s.state.text in
    let told = (modules_on found procs computed text ruled modules).told tt in
    record {
      acts = (procs_part found procs computed text ruled procs told, modules_part found procs computed text ruled modules);
      unnamed = (procs_unnamed found procs computed text ruled procs told, modules_unnamed found procs computed text ruled modules ([], sym (append-nil text)));
    }
