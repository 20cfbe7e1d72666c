-- The body of a procedure is typed, with its parameters and its result.
use Rattle.std.proofs.Common.{◌≡◌, ℕ, suc, ◌+◌, ◌-◌, ◌≤◌, Bool, true, false, List, [], ◌∷◌, ◌++◌, length, Option, Some, None, refl, sym, ap, subst}
use Rattle.std.proofs.Common.{◌∙◌, append_assoc, append-nil, arith}
use Rattle.std.specs.Prelude.{nat_lt, map}
use Rattle.std.proofs.lemmas.Bool.{eq-eqb, ltb-true, lt-ltb, not_from_false}
use Rattle.arc_base.specs.declared.place.Place.{Place}
use Rattle.nim_tree.specs.Types.{Written}
use Rattle.nim_tree.specs.Statements.{Head, Statements}
use Rattle.nim_types.specs.Types.{Ty, Facts}
use Rattle.nim_program.specs.Program.{Declared, Empty, Program}
use Rattle.nim_program.specs.Folds.{if_declared}
use Rattle.nim_program.specs.Kinds.{are_among_types}
use Rattle.nim_program.specs.Scopes.{Here, placed, with_place, count_below, one_more}
use Rattle.nim_program.specs.Typed as T
use Rattle.nim_program.specs.Typed.{is_empty, with_places, body_types, are_held, type_of_place, before, is_typed_block, is_typed_body}
use Rattle.expr_rules.specs.Env.{Env}
use Rattle.expr_rules.specs.Laws.{CallsComputed, NodesComputed, EnoughComputed}
use Rattle.decl_rules.specs.State.{ResultPlace, in_body, State, block_of, Stated}
use Rattle.decl_rules.specs.Heads.{Given, Signature, Headed}
use Rattle.decl_rules.specs.Bodies.{params_from, result_at, result_of, behind_head, before_body, body_of, with_body}
use Rattle.decl_rules.specs.Values.{type_given}
use Rattle.decl_rules.specs.TypeRules as W
use Rattle.decl_rules.specs.TypeRules.{IfWritten}
use Rattle.decl_rules.specs.Places.{ProcedureNumbered}
use Rattle.decl_rules.specs.Rules as R
use Rattle.decl_rules.specs.Rules.{IsSignature, IsHead, AreStated}
use Rattle.typing_laws.specs.Knows.{IfSound}
use Rattle.typing_laws.specs.Trees.{has_some, StatementsRead}
use Rattle.typing_laws.proofs.Tests.{both, value_by_same}
use Rattle.typing_laws.proofs.SoundKinds.{held}
use Rattle.typing_laws.proofs.Constants.{Closed, ClosedOne}
use Rattle.typing_laws.proofs.Induction.{Preserved}
use Rattle.typing_laws.proofs.Growing.{Under, under_more}
use Rattle.typing_laws.proofs.Steps.{onto_none, some_statement, InEnd, At}
use Rattle.typing_laws.proofs.Bodies.{SectionsKept, all_some}
use Rattle.typing_laws.proofs.Kept.{AtLeast, at_least}
use Rattle.typing_laws.proofs.KeptProcedures.{run_below}
use Rattle.typing_laws.proofs.Procedures.{ParametersSound, given_places, own_places}
use Rattle.typing_laws.proofs.HeadTypes.{signature_sound, result_type, same_signature, procedure_right}

-- ---- where module code stands

-- behind so many globals
abbrev pub at_module : Program → (filled : ℕ) → Here
at_module program n =
    record { facts = program.facts; procs = program.procs; globals = map placed program.globals; filled = n; places = []; dest = None }

places_are : (here : Here) (ds : List Declared) → with_places here ds ≡ record here { places = here.places ++ map placed ds }
places_are here [] = ap (λ ps. record here { places = ps }) (sym (append-nil here.places))
places_are here (d ∷ ds) =
    places_are (with_place here d) ds ∙ ap (λ ps. record here { places = ps }) (append_assoc here.places (placed d ∷ []) (map placed ds))

-- ---- globals before a place

pub counted : (n : ℕ) (gs more : List Declared) → Under n (map placed gs) → AtLeast n more → count_below n (map placed (gs ++ more)) ≡ length gs
counted n [] [] h k = refl
counted n [] (d ∷ more) h k = ap (λ b. one_more b (count_below n (map placed more))) (not_less (nat_lt d.number n) refl) ∙ counted n [] more h k.1
  where
    not_less : (b : Bool) → nat_lt d.number n ≡ b → b ≡ false
    not_less true e = absurd (omega (arith, k.0, ltb-true d.number n e))
    not_less false e = refl
counted n (d ∷ gs) more h k =
    ap (λ b. one_more b (count_below n (map placed (gs ++ more)))) (lt-ltb d.number n h.0) ∙ ap suc (counted n gs more h.1 k)

-- ---- parameters and result

all_held : (facts own : Facts) (place : ℕ) (all : List Given) (d : ResultPlace) → ParametersSound facts own all → IfSound facts (type_given d)
    → are_held facts (given_places place all ++ if_declared d) ≡ true
all_held facts own place [] None h s = refl
all_held facts own place [] (Some d) h s = both (held s) refl
all_held facts own place (g ∷ all) d h s = both (held h.0.0) (all_held facts own (suc place) all d h.1 s)

given_of_place : (d : ResultPlace) → type_of_place d ≡ type_given d
given_of_place None = refl
given_of_place (Some d) = refl

written_result : {env : Env} {t : Option Written} {ty : Option Ty} (n : ℕ) → IfWritten env t ty → type_given (result_at n t ty) ≡ ty
written_result n W.w_nothing = refl
written_result n (W.w_something h) = refl

-- what the head gives is what its result is of
gives_result : {st : State} {at : Place} {h : Head} {b : Bool} {k : Headed} (n : ℕ) → IsHead st at h b k
    → type_given (result_at n h.gives k.signature.gives) ≡ k.signature.gives
gives_result {st} {at} {h} {b} {k} n (R.h_head {s = sig} g e) =
    subst (λ (s : Signature). type_given (result_at n h.gives s.gives) ≡ s.gives) (same_signature st at h b sig k e) (by_signature g)
  where
    by_signature : {s : Signature} → IsSignature st h s → type_given (result_at n h.gives s.gives) ≡ s.gives
    by_signature (R.h_signature p w) = written_result n w

own_held : {st : State} {at : Place} {h : Head} {b : Bool} {k : Headed} (n place : ℕ) (here : Here) → IsHead st at h b k → At here st
    → are_held here.facts (given_places place k.signature.params ++ if_declared (result_at n h.gives k.signature.gives)) ≡ true
own_held {st} {at} {h} {b} {k} n place here (R.h_head {s = sig} g e) at_st =
    let q = signature_sound g here at_st in
    subst (λ (s : Signature). are_held here.facts (given_places place s.params ++ if_declared (result_at n h.gives s.gives)) ≡ true)
    (same_signature st at h b sig k e)
    (all_held here.facts st.env.facts place sig.params (result_at n h.gives sig.gives) q.parameters (result_type here.facts n h.gives sig.gives q.result))

module _ (calls : CallsComputed) (nodes : NodesComputed) (covers : EnoughComputed) (preserved : Preserved) (closed : Closed) (closed_one : ClosedOne)
    (sections : SectionsKept) (places : ProcedureNumbered) (program : Program) where
  -- the procedure stands behind so many globals, and all others are declared behind it
  pub typed_body : {st : State} {at : Place} {h : Head} {b : Bool} {k : Headed} → IsHead st at h b k → (n : ℕ)
      → length (behind_head st at h k).globals ≡ n → At (at_module program n) st
      → At (at_module program n) (behind_head st at h k) → (body : Statements) (s : Stated) → StatementsRead body → has_some body ≡ true
      → AreStated (in_body (result_of (behind_head st at h k) h k)) (result_of (behind_head st at h k) h k) (before_body (behind_head st at h k) h k) body s
      → InEnd (at_module program n) s.state
      → (more : List Declared) → program.globals ≡ (behind_head st at h k).globals ++ more
      → Under (behind_head st at h k).place (map placed (behind_head st at h k).globals) → AtLeast s.state.place more
      → are_among_types program.types
      (body_types (params_from (behind_head st at h k).place k.signature.params) (body_of (behind_head st at h k) h k s)) ≡ true
      → (is_typed_body program None (params_from (behind_head st at h k).place k.signature.params) k.signature.gives
      (body_of (behind_head st at h k) h k s) ≡ true)
      × At (at_module program n) (with_body (behind_head st at h k) at h k s)
  typed_body {st} {at} {h} {b} {k} head n l before_head at_head body s read some is end more globals under later among =
      let st' = behind_head st at h k in
      let here = at_module program n in
      let place = st'.place + length k.signature.params in
      let gives = gives_result place head in
      let own = own_places st' h k in
      let on : st'.place ≤ s.state.place = run_below (places st' h k body s is) in
      let count =
      λ (p : ℕ) (low : st'.place ≤ p) (high : p ≤ s.state.place).
      subst (λ gs. count_below p (map placed gs) ≡ n) (sym globals)
      (counted p st'.globals more (under_more st'.place p (map placed st'.globals) low under) (at_least p s.state.place more high later) ∙ l) in
      let first = count st'.place (omega arith) on in
      let last = count s.state.place on (omega arith) in
      let up : st'.place + (s.state.place - st'.place) ≡ s.state.place = omega (arith, on) in
      let whole = T.in_body program (before program st'.place) None (params_from st'.place k.signature.params) (body_of st' h k s) in
      let inside : with_places here own ≡ whole =
      places_are here own ∙ ap (λ m. record (at_module program m) { places = map placed own }) (sym first) in
      let typed = procedure_right calls nodes covers preserved closed closed_one sections head here before_head at_head body s read is end in (
        both
            (both among
            (both
            (both (own_held place st'.place here head before_head)
            (value_by_same (type_of_place (result_of st' h k)) k.signature.gives (given_of_place _ ∙ gives)))
            (eq-eqb (before program st'.place) (before program (st'.place + (s.state.place - st'.place)))
            (first ∙ sym last ∙ ap (λ p. before program p) (sym up)))))
            (both
            (not_from_false (is_empty (block_of s.steps))
            (subst (λ x. is_empty x ≡ false) (sym (onto_none s.steps)) (some_statement s.steps Empty (all_some is refl some read))))
            (subst (λ g. is_typed_block whole (T.procedure g) (block_of s.steps) ≡ true) gives
            (subst (λ i. is_typed_block i (T.procedure (type_given (result_of st' h k))) (block_of s.steps) ≡ true) inside typed.0))),
        record { knows = typed.1.knows; under = typed.1.under },
      )
