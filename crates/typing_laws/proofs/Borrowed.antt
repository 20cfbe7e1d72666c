-- The declaration of a procedure fits where its head does: what is borrowed takes values of one type that are shown, and `$` gives a text.
use Rattle.std.proofs.Common.{◌≡◌, ℕ, Bool, true, false, List, [], ◌∷◌, Option, Some, None, refl, sym, ap, subst, ◌∙◌}
use Rattle.std.specs.Prelude.{◌&&◌, ◌||◌, not, codes, if◌then◌else◌}
use Rattle.std.proofs.lemmas.Bool.{and_parts, both_ways}
use Rattle.indent_scanner.specs.Words.{normal}
use Rattle.nim_tree.specs.Statements.{Head}
use Rattle.nim_types.specs.Types as type
use Rattle.nim_types.specs.Types.{Ty, Fact, Facts, fact_of, base_in, same, same_text}
use Rattle.nim_program.specs.Kinds.{plain_kind, is_selected}
use Rattle.nim_program.specs.Scopes.{Here}
use Rattle.expr_rules.specs.Env.{Env, Parameter, Procedure, callable, known_as}
use Rattle.expr_rules.specs.Builtins.{is_shown}
use Rattle.expr_rules.specs.Constructions.{base_of}
use Rattle.decl_rules.specs.State.{State}
use Rattle.decl_rules.specs.Heads.{Given, parameters_of, quoted_name, procedure_name, is_dollar, is_comparison, is_plain, is_error, has_pragma, is_shower}
use Rattle.decl_rules.specs.Heads.{takes_first}
use Rattle.decl_rules.specs.Heads.{borrows_for, has_base, is_borrowing, name_fits, borrow_fits, Headed}
use Rattle.decl_rules.specs.Bodies.{procedure_entry}
use Rattle.typing_laws.specs.Sound.{Sound}
use Rattle.typing_laws.specs.Knows.{IfSound, AllParameters, IsCalled, IsBorrowedFor, Fits, EntryFits, Knows}
use Rattle.typing_laws.specs.Trees.{NameRead}
use Rattle.typing_laws.proofs.Tests.{never, ever, the_same}
use Rattle.typing_laws.proofs.SoundKinds.{plainly_selected}
use Rattle.typing_laws.proofs.Calls.{AllFit, as_known, callable_fits}
use Rattle.typing_laws.proofs.Headings.{called, HeadIs}
use Rattle.typing_laws.proofs.Procedures.{ParametersSound}

-- ---- the base of what is borrowed for

module _ (here : Here) (env : Env) (knows : Knows here env) where
  first_selected : (t : Ty) (p : Procedure) → takes_first t p.params ≡ true → IsBorrowedFor here.facts p → is_selected (plain_kind here.facts t) ≡ true
  first_selected t p f h = by_params p.params h.all f
    where
      by_params : (ps : List Parameter) → AllParameters (λ q. q.of ≡ h.of) ps → takes_first t ps ≡ true → is_selected (plain_kind here.facts t) ≡ true
      by_params [] all f = never f
      by_params (p ∷ ps) all f =
          subst (λ t. is_selected (plain_kind here.facts t) ≡ true) (sym (the_same {s = t} {t = p.of} f ∙ all.0)) h.selected

  borrower_selected : (t : Ty) (ps : List Procedure) → AllFit here ps → borrows_for t ps ≡ true → is_selected (plain_kind here.facts t) ≡ true
  borrower_selected t [] fit b = never b
  borrower_selected t (p ∷ ps) fit b =
      by_test (p.borrowed && takes_first t p.params) refl b (λ b. borrower_selected t ps fit.1 b)
    where
      by_borrowed : (b : Bool) → p.borrowed ≡ b → Fits here b p → (b && takes_first t p.params) ≡ true → is_selected (plain_kind here.facts t) ≡ true
      by_borrowed true e f h = first_selected t p h f
      by_borrowed false e f h = never h

      by_test : (c : Bool) → (p.borrowed && takes_first t p.params) ≡ c → (c || borrows_for t ps) ≡ true
          → (borrows_for t ps ≡ true → is_selected (plain_kind here.facts t) ≡ true) → is_selected (plain_kind here.facts t) ≡ true
      by_test true e b go = by_borrowed p.borrowed refl fit.0.0 e
      by_test false e b go = go b

  base_selected : (x : List ℕ) (ty : Ty) (o : Option Fact) → fact_of env.facts ty ≡ o → has_base env x (base_in o) ≡ true
      → is_selected (plain_kind here.facts ty) ≡ true
  base_selected x ty None e h = never h
  base_selected x ty (Some (type.members names)) e h = never h
  base_selected x ty (Some (type.fields all resource)) e h = never h
  base_selected x ty (Some (type.below parent)) e h = never h
  base_selected x ty (Some (type.base t)) e h =
      let f = knows.said ty (type.base t) e in
      subst (λ k. is_selected k ≡ true) (sym (knows.sound.plain ty t f)) (by_test (is_shown t) refl h (knows.sound.bases ty t f))
    where
      by_test : (b : Bool) → is_shown t ≡ b → (b || borrows_for t (callable (known_as env x))) ≡ true → Sound here.facts t
          → is_selected (plain_kind here.facts t) ≡ true
      by_test true i h s = plainly_selected knows.sound s i
      by_test false i h s = borrower_selected t (callable (known_as env x)) (callable_fits here (known_as env x) (as_known here env x knows)) h

  -- ---- what is borrowed

  -- all of one type that is shown
  pub record OfOne (params : List Parameter) : Type 0 where
    pub of : Ty
    pub sound : Sound here.facts of
    pub all : AllParameters (λ q. q.of ≡ of) params
    pub selected : is_selected (plain_kind here.facts of) ≡ true

  of_one : (x : List ℕ) (params : List Parameter) (gives : Option Ty) → AllParameters (λ q. Sound here.facts q.of) params
      → is_borrowing env x params gives ≡ true → OfOne params
  of_one x (p ∷ []) (Some type.text) s b =
      let r = and_parts (is_dollar x) (is_plain p.mode && has_base env x (base_of env.facts p.of)) b in
      let q = and_parts (is_plain p.mode) (has_base env x (base_of env.facts p.of)) r.1 in
      record { of = p.of; sound = s.0; all = (refl, tt); selected = base_selected x p.of (fact_of env.facts p.of) refl q.1 }
  of_one x (p ∷ q ∷ []) (Some type.bool) s b =
      let r = and_parts (is_comparison x) ((is_plain p.mode && is_plain q.mode) && (same p.of q.of && has_base env x (base_of env.facts p.of))) b in
      let t = and_parts (is_plain p.mode && is_plain q.mode) (same p.of q.of && has_base env x (base_of env.facts p.of)) r.1 in
      let u = and_parts (same p.of q.of) (has_base env x (base_of env.facts p.of)) t.1 in
      record {
        of = p.of;
        sound = s.0;
        all = (refl, (sym (the_same {s = p.of} {t = q.of} u.0), tt));
        selected = base_selected x p.of (fact_of env.facts p.of) refl u.1;
      }
  of_one x params gives s b = never b

-- ---- the declaration

parameters_sound : (f g : Facts) (gs : List Given) → ParametersSound f g gs → AllParameters (λ q. Sound f q.of) (parameters_of gs)
parameters_sound f g [] h = tt
parameters_sound f g (p ∷ gs) h = (h.0.0, parameters_sound f g gs h.1)

-- `$` gives a text
shows_text : (h : Head) (borrowed : Bool) (params : List Parameter) (gives : Option Ty) → NameRead h.name
    → name_fits h.name.quoted (procedure_name h.name) borrowed params gives ≡ true → procedure_name h.name ≡ codes "$" → gives ≡ Some type.text
shows_text h borrowed params gives read f e = by_quoted h.name.quoted refl f
  where
    shown : (params : List Parameter) (gives : Option Ty) → is_shower params gives ≡ true → gives ≡ Some type.text
    shown (p ∷ []) (Some type.text) s = refl
    shown params gives s = never s

    by_dollar : (b : Bool) → b ≡ true → (if b then is_shower params gives else borrowed) ≡ true → gives ≡ Some type.text
    by_dollar true i s = shown params gives s
    by_dollar false i s = never i

    dollar : is_dollar (procedure_name h.name) ≡ true
    dollar = ap is_dollar e

    plain_name : (q : Bool) → q ≡ false → (if q then quoted_name h.name else normal h.name.text) ≡ normal h.name.text
    plain_name true i = ever i
    plain_name false i = refl

    by_quoted : (q : Bool) → h.name.quoted ≡ q → name_fits q (procedure_name h.name) borrowed params gives ≡ true → gives ≡ Some type.text
    by_quoted true i f = by_dollar (is_dollar (procedure_name h.name)) dollar f
    by_quoted false i f = absurd (both_ways (is_dollar (normal h.name.text)) (read i) (sym (ap is_dollar (plain_name h.name.quoted i)) ∙ dollar))

pub entry_fits : (here : Here) (own : Facts) {st : State} {h : Head} {b : Bool} {k : Headed} → HeadIs st h b k → Knows here st.env
    → ParametersSound here.facts own k.signature.params → IfSound here.facts k.signature.gives → (k.borrowed ≡ false → IsCalled here (called k))
    → NameRead h.name → EntryFits here (procedure_entry h k)
entry_fits here own {st} {h} {b} {k} is knows params gives call read =
    let x = procedure_name h.name in
    let ps = parameters_of k.signature.params in
    let a = and_parts (not (has_pragma is_error h.pragmas))
    (name_fits h.name.quoted x k.borrowed ps k.signature.gives && borrow_fits st.env k.borrowed h.name.quoted b x ps k.signature.gives) is.fits in
    let c = and_parts (name_fits h.name.quoted x k.borrowed ps k.signature.gives)
    (borrow_fits st.env k.borrowed h.name.quoted b x ps k.signature.gives) a.1 in
    let sound = parameters_sound here.facts own k.signature.params params in (
      (by_borrowed k.borrowed refl sound c.1, sound, gives),
      shows_text h k.borrowed ps k.signature.gives read c.0,
    )
  where
    by_borrowed : (t : Bool) → k.borrowed ≡ t → AllParameters (λ q. Sound here.facts q.of) (parameters_of k.signature.params)
        → borrow_fits st.env t h.name.quoted b (procedure_name h.name) (parameters_of k.signature.params) k.signature.gives ≡ true
        → Fits here t (called k)
    by_borrowed true e s f =
        let o = of_one here st.env knows (procedure_name h.name) (parameters_of k.signature.params) k.signature.gives s
        (and_parts (h.name.quoted && not b) (is_borrowing st.env (procedure_name h.name) (parameters_of k.signature.params) k.signature.gives) f).1 in
        record { of = o.of; sound = o.sound; all = o.all; selected = o.selected }
    by_borrowed false e s f = call e
