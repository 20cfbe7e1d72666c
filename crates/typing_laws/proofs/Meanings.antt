-- What calls mean is right.
use Rattle.std.proofs.Common.{◌≡◌, ℕ, Bool, true, false, List, [], ◌∷◌, codes, Option, Some, None, inl, inr, refl, sym, ap, subst, ◌∙◌}
use Rattle.std.specs.Prelude.{◌⊎◌, not}
use Rattle.std.proofs.lemmas.Bool.{or_left, or_right}
use Rattle.arc_base.specs.declared.place.Place.{Place}
use Rattle.nim_types.specs.Types as type
use Rattle.nim_types.specs.Types.{Ty, Field, Fact, Facts, fact_of, same, same_text, members, fields, base, below}
use Rattle.nim_types.proofs.ForCallers.{same_refl}
use Rattle.nim_program.specs.Program.{Expr, types_in}
use Rattle.nim_program.specs.declared.operation.Operation.TheVariants as O
use Rattle.nim_program.specs.Kinds as kind
use Rattle.nim_program.specs.Kinds.{kind_of, declared_kind, plain_kind, is_shown as is_shown_kind}
use Rattle.nim_program.specs.Fitting.{fits, is_converted, is_base_of, built, is_built, are_shown}
use Rattle.nim_program.specs.Scopes.{Here}
use Rattle.expr_rules.specs.Env.{Env, Known, Parameter, Procedure, callable, known_as, a_type}
use Rattle.expr_rules.specs.Answers.{node, Valued, Operand, value, exprs_of, settled, only_if}
use Rattle.expr_rules.specs.Builtins.{is_echo}
use Rattle.expr_rules.specs.Calls.{onto, arguments_for, if_fits, fitting, comparisons, comparison_named}
use Rattle.expr_rules.specs.Constructions.{source_by, source_of, base_of}
use Rattle.nim_types.specs.Types.{base_in, fields_in}
use Rattle.expr_rules.specs.Names.{own_dollars, is_called}
use Rattle.expr_rules.specs.Overloads.{Fits, fits_none, fits_more, SomeFits, some_here, some_later}
use Rattle.expr_rules.specs.Meant.{IsConversion, empty_object, from_source, from_wrapper, Shows, built_in_dollar, visible_dollar, AllShow, show_none, show_more}
use Rattle.expr_rules.specs.Meant.{IsCall, a_procedure, a_borrowed_one, a_conversion, an_operation, an_echo}
use Rattle.typing_laws.specs.Sound.{Sound, AreSound, of_int, of_bool, of_char, of_text, of_sequence, of_array, of_tuple, of_enum, of_object, of_distinct}
use Rattle.typing_laws.specs.Knows as K
use Rattle.typing_laws.specs.Knows.{IfSound, AllParameters, IsCalled, IsBorrowedFor, ProcedureFits, Knows}
use Rattle.typing_laws.proofs.Tests.{both, never, ever, some_one, none_some, the_same}
use Rattle.typing_laws.proofs.SoundKinds.{plainly_selected, shown_by, unsaid_of}
use Rattle.typing_laws.proofs.Right.{Right, RightValue, AllRight, ValuesRight, doing, on_one, values_typed, values_placed, values_taken}
use Rattle.typing_laws.proofs.Settled.{settled_right, settles}
use Rattle.typing_laws.proofs.Calls.{AllFit, KnownFits, callable_fits, as_known, called_right, borrowed_right, one_fits}
use Rattle.typing_laws.proofs.Rows.{operation_right}

module _ (here : Here) where
  -- ---- values of another type

  -- to an enum from an int, to a distinct type from its base
  -- ---- values of another type

  -- what is known of a type under the declarations is known in the program
  carried : {A : Type 0} (env : Env) → Knows here env → (of : Option Fact → Option A) → ((a : A) → of None ≡ Some a → ⊥) → (ty : Ty) (a : A)
      → of (fact_of env.facts ty) ≡ Some a → of (fact_of here.facts ty) ≡ Some a
  carried {A} env knows of none ty a e = by_fact (fact_of env.facts ty) refl e
    where
      by_fact : (o : Option Fact) → fact_of env.facts ty ≡ o → of o ≡ Some a → of (fact_of here.facts ty) ≡ Some a
      by_fact None f e = absurd (none a e)
      by_fact (Some fact) f e = ap of (knows.said ty fact f) ∙ e

  abbrev Converts : Ty → Ty → Type 0
  Converts ty s = (fits here.facts O.Convert (Some ty) (Some s ∷ []) ≡ true) × Sound here.facts s

  no_source : {A : Type 0} (ty s : Ty) → fact_of here.facts ty ≡ None → source_of here.facts ty ≡ Some s → A
  no_source ty s f e = none_some (sym (ap source_by f) ∙ e)

  -- to an enum from an int, to a distinct type from its base
  converted : AreSound here.facts → (ty s : Ty) → Sound here.facts ty → source_of here.facts ty ≡ Some s → Converts ty s
  converted sound (type.parameter n) s h e = elim h [ ]
  converted sound (type.ref name t) s h e = elim h [ ]
  converted sound (type.exception key) s h e = elim h [ ]
  converted sound type.int s of_int e = no_source type.int s (unsaid_of sound type.int (λ fact. refl)) e
  converted sound type.bool s of_bool e = no_source type.bool s (unsaid_of sound type.bool (λ fact. refl)) e
  converted sound type.char s of_char e = no_source type.char s (unsaid_of sound type.char (λ fact. refl)) e
  converted sound type.text s of_text e = no_source type.text s (unsaid_of sound type.text (λ fact. refl)) e
  converted sound (type.sequence t) s (of_sequence h) e = no_source (type.sequence t) s (unsaid_of sound (type.sequence t) (λ fact. refl)) e
  converted sound (type.array n t) s (of_array l h) e = no_source (type.array n t) s (unsaid_of sound (type.array n t) (λ fact. refl)) e
  converted sound (type.tuple names ts) s (of_tuple h) e = no_source (type.tuple names ts) s (unsaid_of sound (type.tuple names ts) (λ fact. refl)) e
  converted sound (type.enum key) s (of_enum f) e =
      let is : is_converted (kind_of here.facts (type.enum key)) type.int kind.int ≡ true = ap (λ o. is_converted (declared_kind o) type.int kind.int) f in
      let same : type.int ≡ s = some_one (sym (ap source_by f) ∙ e) in (
        subst (λ s. fits here.facts O.Convert (Some (type.enum key)) (Some s ∷ []) ≡ true) same
            (or_left (is_converted (kind_of here.facts (type.enum key)) type.int kind.int) false is),
        subst (Sound here.facts) same of_int,
      )
  converted sound (type.object key ts) s (of_object f) e = none_some (sym (ap source_by f) ∙ e)
  converted sound (type.distinct key) s (of_distinct {t = t} f) e =
      let is : is_converted (kind_of here.facts (type.distinct key)) t (kind_of here.facts t) ≡ true =
      ap (λ o. is_converted (declared_kind o) t (kind_of here.facts t)) f ∙ same_refl t in
      let same : t ≡ s = some_one (sym (ap source_by f) ∙ e) in (
        subst (λ s. fits here.facts O.Convert (Some (type.distinct key)) (Some s ∷ []) ≡ true) same
            (or_left (is_converted (kind_of here.facts (type.distinct key)) t (kind_of here.facts t))
            (is_base_of (kind_of here.facts t) (type.distinct key)) is),
        subst (Sound here.facts) same (sound.bases (type.distinct key) t f),
      )

  -- from a distinct type to its base
  unwrapped : AreSound here.facts → (s ty : Ty) → base_of here.facts s ≡ Some ty → is_base_of (kind_of here.facts s) ty ≡ true
  unwrapped sound s ty e = by_fact s (fact_of here.facts s) refl e
    where
      by_fact : (s : Ty) (o : Option Fact) → fact_of here.facts s ≡ o → base_in o ≡ Some ty → is_base_of (kind_of here.facts s) ty ≡ true
      by_fact s None f e = none_some e
      by_fact s (Some (members names)) f e = none_some e
      by_fact s (Some (fields all resource)) f e = none_some e
      by_fact s (Some (below parent)) f e = none_some e
      by_fact (type.distinct key) (Some (base t)) f e =
          ap (λ o. is_base_of (declared_kind o) ty) f ∙ subst (λ u. same u ty ≡ true) (sym (some_one e)) (same_refl ty)
      by_fact s (Some (base t)) f e = never (sound.said s (base t) f)

  pub conversion_right : (env : Env) → Knows here env → (n : ℕ) (at : Place) (ty : Ty) {os : List Operand} {e : Expr} → Sound here.facts ty
      → AllRight here os → IsConversion env n at ty os e → Right here e
  conversion_right env knows n at ty s h (empty_object {all = all} {resource = resource} f) =
      record { typed = both (both (both (object ty (knows.said ty (fields all resource) f)) refl) refl) refl; sound = s }
    where
      object : (ty : Ty) → fact_of here.facts ty ≡ Some (fields all resource) → is_built (built here.facts (kind_of here.facts ty)) ≡ true
      object (type.object key ts) f = ap (λ o. is_built (built here.facts (declared_kind o))) f
      object ty f = never (knows.sound.said ty (fields all resource) f)
  conversion_right env knows n at ty s h (from_source {s = u} {v = v} f k) =
      let c : Converts ty u =
      converted knows.sound ty u s (carried env knows source_by (λ a e. none_some e) ty u f) in
      let r = settled_right here c.1 h.0 k in
      on_one here (node n at) (Some ty) O.Convert v r.0 (subst (λ t. fits here.facts O.Convert (Some ty) (Some t ∷ []) ≡ true) (sym r.1) c.0) refl s
  conversion_right env knows n at ty s h (from_wrapper {v = v} {b = b} f k) =
      let e : base_of here.facts v.of ≡ Some ty = carried env knows base_in (λ a e. none_some e) v.of b f ∙ ap (λ t. Some t) (the_same k) in
      on_one here (node n at) (Some ty) O.Convert v h.0
      (or_right (is_converted (kind_of here.facts ty) v.of (kind_of here.facts v.of)) (is_base_of (kind_of here.facts v.of) ty)
      (unwrapped knows.sound v.of ty e)) refl s

  -- ---- `echo`

  -- what has a `$` that isn't borrowed is shown by a call of it
  abbrev pub IsEchoed : Env → Operand → Type 0
  IsEchoed env (value v) = (is_called (own_dollars env v) ≡ false) ⊎ (v.of ≡ type.text)
  IsEchoed env o = Unit {0}

  abbrev pub AllEchoed : Env → List Operand → Type 0
  AllEchoed env [] = Unit {0}
  AllEchoed env (o ∷ rest) = IsEchoed env o × AllEchoed env rest

  fits_some : {ps : List Parameter} {os : List Operand} {all : List (Parameter × Valued)} → Fits ps os all → arguments_for ps os ≡ Some all
  fits_some fits_none = refl
  fits_some (fits_more {p = p} {ps = ps} {o = o} {os = os} {v = v} {given = given} s f) =
      ap (λ a. onto p a (arguments_for ps os)) (settles s) ∙ ap (λ b. onto p (Some v) b) (fits_some f)

  -- of a `$` for one value, what is borrowed
  first_borrowed : (ps : List Procedure) (v : Valued) → AllFit here ps → is_called (fitting ps (value v ∷ [])) ≡ false → SomeFits ps (value v ∷ [])
      → is_shown_kind (plain_kind here.facts v.of) ≡ true
  first_borrowed [] v h c s = elim s [ ]
  first_borrowed (p ∷ ps) v h c s = by_arguments (arguments_for p.params (value v ∷ [])) refl c s (λ c s. first_borrowed ps v h.1 c s)
    where
      by_parameters : (ps : List Parameter) (of : Ty) (all : List (Parameter × Valued)) → AllParameters (λ q. q.of ≡ of) ps
          → arguments_for ps (value v ∷ []) ≡ Some all → v.of ≡ of
      by_parameters [] of all h e = none_some e
      by_parameters (q ∷ []) of all h e = by_test (same q.of v.of) refl e
        where
          by_test : (b : Bool) → same q.of v.of ≡ b → onto q (only_if b v) (Some []) ≡ Some all → v.of ≡ of
          by_test true f e = sym (the_same f) ∙ h.0
          by_test false f e = none_some e
      by_parameters (q ∷ r ∷ rest) of all h e = by_settled (settled q.of (value v)) e
        where
          by_settled : (o : Option Valued) → onto q o None ≡ Some all → v.of ≡ of
          by_settled (Some w) e = none_some e
          by_settled None e = none_some e

      borrowed : (b : Bool) → K.Fits here b p → not b ≡ false → IsBorrowedFor here.facts p
      borrowed true h e = h
      borrowed false h e = ever e

      by_arguments : (a : Option (List (Parameter × Valued))) → arguments_for p.params (value v ∷ []) ≡ a
          → is_called (if_fits p a (fitting ps (value v ∷ []))) ≡ false → SomeFits (p ∷ ps) (value v ∷ [])
          → (is_called (fitting ps (value v ∷ [])) ≡ false → SomeFits ps (value v ∷ []) → is_shown_kind (plain_kind here.facts v.of) ≡ true)
          → is_shown_kind (plain_kind here.facts v.of) ≡ true
      by_arguments (Some all) e c s rest =
          let is = borrowed p.borrowed h.0.0 c in
          subst (λ t. is_shown_kind (plain_kind here.facts t) ≡ true) (sym (by_parameters p.params is.of all is.all e))
          (shown_by (plain_kind here.facts is.of) is.selected)
      by_arguments None e c (some_here f) rest = none_some (sym e ∙ fits_some f)
      by_arguments None e c (some_later s) rest = rest c s

  shows : (env : Env) → Knows here env → (v : Valued) → RightValue here v → IsEchoed env (value v) → Shows env v
      → is_shown_kind (plain_kind here.facts v.of) ≡ true
  shows env knows v h e (built_in_dollar t) = shown_by (plain_kind here.facts v.of) (plainly_selected knows.sound h.sound t)
  shows env knows v h (inr e) (visible_dollar s) =
      subst (λ t. is_shown_kind (plain_kind here.facts t) ≡ true) (sym e)
      (shown_by (plain_kind here.facts type.text) (plainly_selected knows.sound of_text refl))
  shows env knows v h (inl c) (visible_dollar s) =
      first_borrowed (callable (known_as env (codes "$"))) v (callable_fits here (known_as env (codes "$")) (as_known here env (codes "$") knows)) c s

  all_shown : (env : Env) → Knows here env → {os : List Operand} {vs : List Valued} → AllRight here os → AllEchoed env os → AllShow env os vs
      → ValuesRight here vs × (are_shown here.facts (types_in (exprs_of vs)) ≡ true)
  all_shown env knows h e show_none = (tt, refl)
  all_shown env knows h e (show_more {v = v} {vs = vs} s rest) =
      let r = all_shown env knows h.1 e.1 rest in (
        (h.0, r.0),
        subst (λ t. are_shown here.facts (t ∷ types_in (exprs_of vs)) ≡ true) (sym h.0.gives) (both (shows env knows v h.0 e.0 s) r.1),
      )

  -- ---- calls

  pub call_right : (env : Env) → Knows here env → (n : ℕ) (at : Place) (x : List ℕ) {os : List Operand} {e : Expr} → AllRight here os
      → (is_echo x ≡ true → AllEchoed env os) → IsCall env n at x os e → Right here e
  call_right env knows n at x h echoed (a_procedure {p = p} c f b a) =
      let r = one_fits here (callable_fits here (known_as env x) (as_known here env x knows)) f in
      called_right here n at p (subst (λ b. K.Fits here b p) b r.0.0) r.0.1 r.0.2 h r.1 a
  call_right env knows n at x h echoed (a_borrowed_one {p = p} c f b a) =
      let r = one_fits here (callable_fits here (known_as env x) (as_known here env x knows)) f in
      borrowed_right here knows.sound n at p (comparison_named x comparisons) (subst (λ b. K.Fits here b p) b r.0.0) r.0.1 h r.1 a
  call_right env knows n at x h echoed (a_conversion {ty = ty} c k v) =
      conversion_right env knows n at ty (known_type (known_as env x) ty k (as_known here env x knows)) h v
    where
      known_type : (k : Known) (ty : Ty) → k ≡ a_type ty → KnownFits here k → Sound here.facts ty
      known_type k ty e h = subst (KnownFits here) e h
  call_right env knows n at x h echoed (an_operation o f w) = operation_right here knows.sound x f h w
  call_right env knows n at x h echoed (an_echo {vs = vs} c s) =
      let r = all_shown env knows h (echoed c) s in
      doing here (node n at) None O.Echo (exprs_of vs) r.1 (values_placed vs) (values_taken here O.Echo vs) (values_typed here vs r.0) tt
