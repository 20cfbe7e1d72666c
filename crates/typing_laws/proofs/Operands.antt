-- Operands of calls and operators.
use Rattle.std.proofs.Common.{◌≡◌, ℕ, Bool, true, false, List, [], ◌∷◌, ◌++◌, codes, Option, Some, None, inl, inr, refl, sym, ap, ap₂, subst, ◌∙◌}
use Rattle.std.specs.Prelude.{◌&&◌, ◌||◌, not, nat_eq, if◌then◌else◌, Ok, Err}
use Rattle.std.specs.Cmp.Lexicographic.{pointwise}
use Rattle.std.proofs.lemmas.Bool.{and_parts, eqb-true}
use Rattle.arc_base.specs.declared.place.Place.{Place}
use Rattle.arc_base.specs.Refusal.{and_then}
use Rattle.nim_tree.specs.declared.expr.BinaryOp.{BinaryOp}
use Rattle.nim_tree.specs.declared.expr.BinaryOp.TheVariants as sign
use Rattle.nim_tree.specs.Terms.{Term, Parts}
use Rattle.nim_types.specs.Types as type
use Rattle.nim_types.specs.Types.{Ty, same, same_text}
use Rattle.nim_program.specs.declared.operation.Operation.TheVariants as O
use Rattle.nim_program.specs.Program as P
use Rattle.nim_program.specs.Program.{Expr, type_of}
use Rattle.nim_program.specs.Fitting.{fits}
use Rattle.nim_program.specs.Scopes.{Here}
use Rattle.expr_rules.specs.Env as env_of
use Rattle.expr_rules.specs.Env.{Env, Entry, Known, Parameter, Procedure, callable, known_as, known_next, known_behind, name_in}
use Rattle.expr_rules.specs.Answers.{Answer, node, not_typed, place_in, Valued, Operand, value, open_sequence, a_type, the_input, open_as, settled}
use Rattle.expr_rules.specs.Answers.{no_fit}
use Rattle.expr_rules.specs.Builtins.{is_echo, is_default, operation_rule}
use Rattle.expr_rules.specs.Calls.{Fit, arguments_for, if_fits, fitting, one_of, called, arguments_by, borrowed_call}
use Rattle.expr_rules.specs.Constructions.{field_named, Found}
use Rattle.expr_rules.specs.Demands.{Demand, arguments, echoed, receiver, one_type, input_first, call_demand}
use Rattle.expr_rules.specs.Demands.{receiver_demand}
use Rattle.expr_rules.specs.Demands.{takes_type, takes_input}
use Rattle.expr_rules.specs.Names.{own_dollars, is_called, is_echoed, is_field, dollar_call, call_rule, call_named, unless_type, if_field}
use Rattle.expr_rules.specs.Names.{field_of}
use Rattle.expr_rules.specs.Names.{made_by, new_sequence_rule, echo_rule}
use Rattle.expr_rules.specs.Operators.{Meaning, does, stops_early, means_nothing, meaning_of, borrowed_name, borrowed_by, binary_by, other_settled, binary_rule}
use Rattle.expr_rules.specs.Laws.{CallsComputed}
use Rattle.expr_rules.specs.Rules as R
use Rattle.expr_rules.specs.Rules.{IsOperand, o_value, o_shown, AreOperands, o_none, o_more}
use Rattle.typing_laws.specs.Sound.{Sound, of_int, of_sequence}
use Rattle.typing_laws.specs.Knows.{EntryFits, EntriesFit, Knows}
use Rattle.typing_laws.proofs.Tests.{both, never, ever, ok_one, some_one, none_some, some_none}
use Rattle.typing_laws.proofs.Sure.{Sure, s_ok, s_err, sure_then}
use Rattle.typing_laws.proofs.Right.{Right, RightValue, RightOperand, AllRight, on_one, on_two}
use Rattle.typing_laws.proofs.Settled.{settled_right, is_settled}
use Rattle.typing_laws.proofs.Operators.{MeaningFits, meaning_fits, early_right}
use Rattle.typing_laws.proofs.Built.{named_field, field_right}
use Rattle.typing_laws.proofs.Meanings.{IsEchoed, AllEchoed, call_right}

-- ---- names

text_same : (x y : List ℕ) → same_text x y ≡ true → x ≡ y
text_same [] [] h = refl
text_same (a ∷ x) (b ∷ y) h =
    let q = and_parts (nat_eq a b) (pointwise nat_eq x y) h in ap₂ (λ a x. a ∷ x) (eqb-true a b q.0) (text_same x y q.1)
text_same [] (b ∷ y) h = never h
text_same (a ∷ x) [] h = never h

the_echo : (x : List ℕ) → is_echo x ≡ true → x ≡ codes "echo"
the_echo x h = text_same x (codes "echo") h

pub the_dollar : (x : List ℕ) → same_text x (codes "$") ≡ true → x ≡ codes "$"
the_dollar x h = text_same x (codes "$") h

-- ---- what `echo` shows

pub echoed_operand : (here : Here) {env : Env} {d : Demand} {n m : ℕ} {t : Term} {o : Operand} → ((v : Valued) → o ≡ value v → is_echoed env d v.of ≡ true)
    → IsOperand env d n t o m → IsEchoed here env o
echoed_operand here {env} {d} is (o_value {v = v} s h e) =
    inl (called_not (is_echoed env d v.of) (is_called (own_dollars env v)) (is v refl) e)
  where
    called_not : (a b : Bool) → a ≡ true → (a && b) ≡ false → b ≡ false
    called_not true b e f = f
    called_not false b e f = never e
echoed_operand here is (o_shown s h e k c) = inr refl
echoed_operand here is (R.o_open s) = tt
echoed_operand here is (R.o_type s h) = tt
echoed_operand here is (R.o_input s) = tt

pub echoed_operands : (here : Here) {env : Env} {n m : ℕ} {inside : Parts} {os : List Operand} → AreOperands env echoed n inside os m → AllEchoed here env os
echoed_operands here o_none = tt
echoed_operands here (o_more h rest) = (echoed_operand here (λ v e. refl) h, echoed_operands here rest)

pub echo_demand : (env : Env) (x : List ℕ) (inside : Parts) → is_echo x ≡ true → call_demand env x inside ≡ echoed
echo_demand env x inside h =
    ap (λ b. if b then echoed else
    (if is_default x || takes_type env x inside then one_type else (if takes_input env x inside then input_first else arguments))) h

pub echo_receiver : (env : Env) (x : List ℕ) (a : Term) → is_echo x ≡ true → receiver_demand env x a ≡ receiver x
echo_receiver env x a h = subst (λ x. receiver_demand env x a ≡ receiver x) (sym (the_echo x h)) refl

-- before a dot, where there is no field of the name
pub echo_before_dot : (here : Here) (env : Env) (n : ℕ) (at : Place) (x : List ℕ) (a : Term) {k m : ℕ} {o : Operand} → is_echo x ≡ true
    → field_of env n at x o ≡ None → IsOperand env (receiver_demand env x a) k a o m → IsEchoed here env o
echo_before_dot here env n at x a {k} {m} {o} h none is =
    echoed_operand here (λ v e. both h (no_field (field_named env x v.of) v (subst (λ o. field_of env n at x o ≡ None) e none)))
    (subst (λ d. IsOperand env d k a o m) (echo_receiver env x a h) is)
  where
    no_field : (f : Option Found) (v : Valued) → if_field n at v f ≡ None → not (is_field f) ≡ true
    no_field None v e = refl
    no_field (Some f) v e = some_none e

-- nothing fits
no_fit_fails : {P : Expr → Type 0} (os : List Operand) (at : Place) → Sure P (no_fit at os)
no_fit_fails [] at = s_err
no_fit_fails (open_sequence p n ∷ rest) at = s_err
no_fit_fails (value v ∷ rest) at = no_fit_fails rest at
no_fit_fails (a_type ty ∷ rest) at = no_fit_fails rest at
no_fit_fails (the_input ∷ rest) at = no_fit_fails rest at

-- ---- what is called `$` gives a text

abbrev GiveTexts : List Procedure → Type 0
GiveTexts [] = Unit {0}
GiveTexts (p ∷ rest) = (p.gives ≡ Some type.text) × GiveTexts rest

abbrev KnownTexts : Known → Type 0
KnownTexts k = GiveTexts (callable k)

one_more : (all : List Procedure) (p : Procedure) → GiveTexts all → p.gives ≡ Some type.text → GiveTexts (all ++ p ∷ [])
one_more [] p h k = (k, tt)
one_more (q ∷ all) p h k = (h.0, one_more all p h.1 k)

next_texts : (here : Here) (k : Known) (e : Entry) → KnownTexts k → EntryFits here e → name_in e ≡ codes "$" → KnownTexts (known_next k e)
next_texts here k (env_of.variable name place of writable global) h f e = tt
next_texts here k (env_of.constant name of l) h f e = tt
next_texts here k (env_of.named name of) h f e = tt
next_texts here k (env_of.pending name) h f e = tt
next_texts here k (env_of.procedure name callee) h f e = one_more (callable k) callee h (f.1 e)
next_texts here k (env_of.input name) h f e = tt

texts_behind : (here : Here) (k : Known) (entries : List Entry) → KnownTexts k → EntriesFit here entries → KnownTexts (known_behind k (codes "$") entries)
texts_behind here k [] h f = h
texts_behind here k (e ∷ rest) h f =
    by_test (same_text (codes "$") (name_in e)) refl
    (λ is. texts_behind here (known_next k e) rest (next_texts here k e h f.0 (sym (text_same (codes "$") (name_in e) is))) f.1)
    (texts_behind here k rest h f.1)
  where
    by_test : (b : Bool) → same_text (codes "$") (name_in e) ≡ b
        → (same_text (codes "$") (name_in e) ≡ true → KnownTexts (known_behind (known_next k e) (codes "$") rest))
        → KnownTexts (known_behind k (codes "$") rest) → KnownTexts (known_behind (if b then known_next k e else k) (codes "$") rest)
    by_test true e h f = h e
    by_test false e h f = f

abbrev FitTexts : List Fit → Type 0
FitTexts [] = Unit {0}
FitTexts (fit ∷ rest) = (fit.callee.gives ≡ Some type.text) × FitTexts rest

all_texts : (ps : List Procedure) (os : List Operand) → GiveTexts ps → FitTexts (fitting ps os)
all_texts [] os h = tt
all_texts (p ∷ ps) os h = by_arguments (arguments_for p.params os) (all_texts ps os h.1)
  where
    by_arguments : (a : Option (List (Parameter × Valued))) → FitTexts (fitting ps os) → FitTexts (if_fits p a (fitting ps os))
    by_arguments None rest = rest
    by_arguments (Some all) rest = (h.0, rest)

text_given : (n : ℕ) (at : Place) (fits : List Fit) (e : Expr) (p : Place) → FitTexts fits → one_of n at (codes "$") fits (not_typed p) ≡ Ok e
    → type_of e ≡ Some type.text
text_given n at [] e p h c = cc
text_given n at (fit ∷ next ∷ rest) e p h c = cc
text_given n at (fit ∷ []) e p h c = by_borrowed fit.callee.borrowed c
  where
    by_given : (all : List (Parameter × Valued)) → borrowed_call n at None all ≡ Ok e → type_of e ≡ Some type.text
    by_given [] c = cc
    by_given (a ∷ []) c = ap type_of (sym (ok_one c))
    by_given (a ∷ b ∷ rest) c = cc

    by_arguments : (r : Answer P.Args) → and_then r (λ args. Ok (P.Apply (node n at) fit.callee.gives (P.Calling fit.callee.number []) args)) ≡ Ok e
        → type_of e ≡ Some type.text
    by_arguments (Ok args) c = ap type_of (sym (ok_one c)) ∙ h.0
    by_arguments (Err r) c = cc

    by_borrowed : (b : Bool) → called n at b (codes "$") fit ≡ Ok e → type_of e ≡ Some type.text
    by_borrowed true c = by_given fit.arguments c
    by_borrowed false c = by_arguments (arguments_by [] fit.arguments) c

-- ---- calls that are computed

module _ (here : Here) (env : Env) (knows : Knows here env) (calls : CallsComputed) where
  -- one that fits is called, whatever is meant where none does
  one_called : (n : ℕ) (at : Place) (x : List ℕ) (fits : List Fit) (other : Answer Expr) (p : Place) (e : Expr)
      → one_of n at x fits (not_typed p) ≡ Ok e → one_of n at x fits other ≡ Ok e
  one_called n at x [] other p e h = cc
  one_called n at x (fit ∷ []) other p e h = h
  one_called n at x (fit ∷ next ∷ rest) other p e h = cc

  by_name : (n : ℕ) (at : Place) (x : List ℕ) (os : List Operand) (e : Expr) (p : Place) → is_echo x ≡ false → is_default x ≡ false
      → AllRight here os → one_of n at x (fitting (callable (known_as env x)) os) (not_typed p) ≡ Ok e → Right here e
  by_name n at x os e p f g right h =
      let k : call_rule env n at x os ≡ Ok e =
      ap (λ b. if b then echo_rule env n at os else call_named env n at x os) f
      ∙ ap (λ b. if b then operation_rule (node n at) x os
      else one_of n at x (fitting (callable (known_as env x)) os) (unless_type env n at (known_as env x) x os)) g
      ∙ one_called n at x (fitting (callable (known_as env x)) os) (unless_type env n at (known_as env x) x os) p e h in
      call_right here env knows n at x right (λ i. ever (sym i ∙ f)) ((calls env n at x os e).1 k)

  pub dollar_right : (n : ℕ) (w : Valued) (e : Expr) → RightValue here w → dollar_call env n w ≡ Ok e → Right here e × (type_of e ≡ Some type.text)
  dollar_right n w e h c = (
    by_name n (place_in w.expr) (codes "$") (value w ∷ []) e (place_in w.expr) refl refl (h, tt) c,
    text_given n (place_in w.expr) (own_dollars env w) e (place_in w.expr)
        (all_texts (callable (known_as env (codes "$"))) (value w ∷ []) (texts_behind here env_of.unknown env.entries tt knows.entries)) c,
  )

  -- ---- operators

  named_right : (n : ℕ) (at : Place) (v w : Valued) → RightValue here v → RightValue here w → (x : List ℕ) → is_echo x ≡ false → is_default x ≡ false
      → Sure (Right here) (borrowed_by env n at (Some x) v w)
  named_right n at v w h k x f g = by_answer (one_of n at x (fitting (callable (known_as env x)) (value v ∷ value w ∷ [])) (not_typed at)) refl
    where
      by_answer : (r : Answer Expr) → one_of n at x (fitting (callable (known_as env x)) (value v ∷ value w ∷ [])) (not_typed at) ≡ r
          → Sure (Right here) r
      by_answer (Ok e) i = s_ok (by_name n at x (value v ∷ value w ∷ []) e at f g (h, (k, tt)) i)
      by_answer (Err r) i = s_err

  names_right : (n : ℕ) (at : Place) (op : BinaryOp) (v w : Valued) → RightValue here v → RightValue here w
      → Sure (Right here) (borrowed_by env n at (borrowed_name op) v w)
  names_right n at sign.Equal v w h k = named_right n at v w h k (codes "==") refl refl
  names_right n at sign.Unequal v w h k = named_right n at v w h k (codes "!=") refl refl
  names_right n at sign.Less v w h k = named_right n at v w h k (codes "<") refl refl
  names_right n at sign.AtMost v w h k = named_right n at v w h k (codes "<=") refl refl
  names_right n at sign.Greater v w h k = named_right n at v w h k (codes ">") refl refl
  names_right n at sign.AtLeast v w h k = named_right n at v w h k (codes ">=") refl refl
  names_right n at op v w h k = s_err

  values_right : (n : ℕ) (at : Place) (op : BinaryOp) (v w : Valued) → RightValue here v → RightValue here w
      → Sure (Right here) (binary_by env n at op (meaning_of op v.of w.of) v w)
  values_right n at op v w h k = by_meaning (meaning_of op v.of w.of) (meaning_fits here.facts knows.sound op v.of w.of h.sound)
    where
      by_meaning : (m : Meaning) → MeaningFits here.facts v.of w.of m → Sure (Right here) (binary_by env n at op m v w)
      by_meaning (does o ty) f = s_ok (on_two here (node n at) (Some ty) o v w h k f.0 f.1 f.2)
      by_meaning (stops_early s) f = s_ok (early_right here n at s v w h k f.0 f.1)
      by_meaning means_nothing f = names_right n at op v w h k

  -- `@[]` beside a value
  beside : (v : Valued) (p : Place) (m : ℕ) → RightValue here v → Sure (λ w. RightValue here w) (other_settled (open_as v.of p m) p)
  beside v p m h = by_settled (open_as v.of p m) refl
    where
      by_settled : (o : Option Valued) → open_as v.of p m ≡ o → Sure (λ w. RightValue here w) (other_settled o p)
      by_settled None e = s_err
      by_settled (Some w) e = s_ok (settled_right here {ty = v.of} {o = open_sequence p m} h.sound tt
          (is_settled v.of (open_sequence p m) w (opens v.of w e))).0
        where
          opens : (ty : Ty) (w : Valued) → open_as ty p m ≡ Some w → settled ty (open_sequence p m) ≡ Some w
          opens ty w e = e

  pub binary_right : (n : ℕ) (at : Place) (op : BinaryOp) (o r : Operand) → RightOperand here o → RightOperand here r
      → Sure (Right here) (binary_rule env n at op o r)
  binary_right n at op (value v) (value w) h k = values_right n at op v w h k
  binary_right n at op (value v) (open_sequence p m) h k = sure_then (beside v p m h) (λ w k. values_right n at op v w h k)
  binary_right n at op (value v) (a_type ty) h k = s_err
  binary_right n at op (value v) the_input h k = s_err
  binary_right n at op (open_sequence p m) (value w) h k = sure_then (beside w p m k) (λ v h. values_right n at op v w h k)
  binary_right n at op (open_sequence p m) (open_sequence q l) h k = s_err
  binary_right n at op (open_sequence p m) (a_type ty) h k = s_err
  binary_right n at op (open_sequence p m) the_input h k = s_err
  binary_right n at op (a_type ty) r h k = s_err
  binary_right n at op the_input r h k = s_err

  -- ---- other rules

  pub new_right : (n : ℕ) (at : Place) (t : Ty) (os : List Operand) → Sound here.facts t → AllRight here os → Sure (Right here) (new_sequence_rule n at t os)
  new_right n at t [] s h = s_err
  new_right n at t (o ∷ []) s h = by_settled (settled type.int o) refl
    where
      by_settled : (v : Option Valued) → settled type.int o ≡ v → Sure (Right here) (made_by n at t (o ∷ []) v)
      by_settled None e = no_fit_fails (o ∷ []) at
      by_settled (Some v) e =
          let q = settled_right here of_int h.0 (is_settled type.int o v e) in
          s_ok (on_one here (node n at) (Some (type.sequence t)) O.NewSequence v q.0
          (subst (λ u. fits here.facts O.NewSequence (Some (type.sequence t)) (Some u ∷ []) ≡ true) (sym q.1) refl) refl (of_sequence s))
  new_right n at t (o ∷ p ∷ rest) s h = no_fit_fails (o ∷ p ∷ rest) at

  pub field_of_right : (n : ℕ) (at : Place) (x : List ℕ) (o : Operand) (e : Expr) → RightOperand here o → field_of env n at x o ≡ Some e → Right here e
  field_of_right n at x (value v) e h f = by_field (field_named env x v.of) refl f
    where
      by_field : (g : Option Found) → field_named env x v.of ≡ g → if_field n at v g ≡ Some e → Right here e
      by_field None k f = none_some f
      by_field (Some g) k f =
          let q = named_field here env knows x v.of g h.sound k in subst (Right here) (some_one f) (field_right here n at v g h q.0 q.1)
  field_of_right n at x (open_sequence p m) e h f = none_some f
  field_of_right n at x (a_type ty) e h f = none_some f
  field_of_right n at x the_input e h f = none_some f
