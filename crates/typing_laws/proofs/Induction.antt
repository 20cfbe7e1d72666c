-- What stands for a term is right.
use Rattle.std.proofs.Common.{◌≡◌, ℕ, zero, suc, Bool, true, false, List, [], ◌∷◌, codes, Option, Some, None, refl, sym, ap, subst, ◌∙◌}
use Rattle.std.specs.Prelude.{ℤ, pos, negsuc, ◌&&◌, nat_le, if◌then◌else◌, Ok}
use Rattle.std.proofs.lemmas.Bool.{and_parts}
use Rattle.arc_base.specs.declared.place.Place.{Place}
use Rattle.indent_scanner.specs.Words.{normal}
use Rattle.indent_scanner.specs.Meaning.{inner as inside_of}
use Rattle.nim_tree.specs.Terms.{Term, Parts, part, Choices}
use Rattle.nim_types.specs.Types as type
use Rattle.nim_types.specs.Types.{Ty, Facts, same_text}
use Rattle.nim_types.proofs.ForCallers.{same_refl}
use Rattle.nim_program.specs.Nodes.{literal}
use Rattle.nim_program.specs.Program as P
use Rattle.nim_program.specs.Program.{Literal, Number, Characters, Label, Expr, type_of}
use Rattle.nim_program.specs.Kinds as kind
use Rattle.nim_program.specs.Kinds.{kind_of, plain_kind, is_selected, is_constant, is_value, is_text}
use Rattle.nim_program.specs.Fitting.{label_fits, labels_fit, has_label}
use Rattle.nim_program.specs.Scopes.{Here}
use Rattle.nim_program.specs.Typed.{is_typed}
use Rattle.expr_rules.specs.declared.limits.TheConstants.{MOST_ELEMENTS}
use Rattle.expr_rules.specs.Env as env_of
use Rattle.expr_rules.specs.Env.{Env, Known, a_variable, a_constant, known}
use Rattle.expr_rules.specs.Answers.{Answer, node, Valued, valued_by, value_of, Want, wanted, Operand}
use Rattle.expr_rules.specs.Answers.{not_typed, place_in}
use Rattle.expr_rules.specs.Builtins.{is_echo}
use Rattle.expr_rules.specs.Constants.{value_in, comes_to}
use Rattle.expr_rules.specs.Constructions.{object_by, object_of, part_names}
use Rattle.expr_rules.specs.Choices.{Branching, undecided, decided, Chosen, Picked, gives_in}
use Rattle.expr_rules.specs.Covered.{AreEnough}
use Rattle.expr_rules.specs.Demands.{Asks, Demand, is_selector, demand_behind, Former}
use Rattle.expr_rules.specs.Demands.{of_sequences, of_arrays, of_nothing}
use Rattle.expr_rules.specs.Demands.{former_of}
use Rattle.expr_rules.specs.Names.{quoted_rule, is_single, formed_by, length_limit, array_by, array_type}
use Rattle.expr_rules.specs.Sizes.{is_sized}
use Rattle.expr_rules.specs.Laws.{CallsComputed}
use Rattle.expr_rules.specs.Rules as R
use Rattle.expr_rules.specs.Rules.{IsTyped, IsValue, AreValues, IsOperand, AreOperands, AreConditions, ArePicks, AreLabels, IsLabel, Spells, SpellAll}
use Rattle.typing_laws.specs.Sound.{Sound, AreSound, of_int, of_bool, of_char, of_text, of_array, of_sequence}
use Rattle.typing_laws.specs.Knows.{IfSound, with_facts, KnowsWell}
use Rattle.typing_laws.specs.Trees.{has_part, IsRead, AreRead, ChoicesRead}
use Rattle.typing_laws.proofs.Tests.{both, never, ok_one, some_one, none_some, the_same}
use Rattle.typing_laws.proofs.Sure.{Sure, s_ok, s_err, sure_ok, sure_then, sure_if}
use Rattle.typing_laws.proofs.SoundKinds.{plain_as, selected, held}
use Rattle.typing_laws.proofs.Right.{Right, RightValue, RightOperand, AllRight, ValuesRight, giving, as_value}
use Rattle.typing_laws.proofs.Operators.{unary_right}
use Rattle.typing_laws.proofs.Calls.{KnownFits, known_fits}
use Rattle.typing_laws.proofs.Meanings.{call_right, conversion_right}
use Rattle.typing_laws.proofs.Built.{small, tuple_rule_right, array_right, sequence_rule_right, construct_right, index_right, all_fielded}
use Rattle.typing_laws.proofs.Covers.{enough}
use Rattle.typing_laws.proofs.Chosen.{Decided, branch_is, decided_before, Before, none_before, one_before, if_right, Picks, no_picks, one_pick, case_right}
use Rattle.typing_laws.proofs.Chosen.{case_else_right}
use Rattle.typing_laws.proofs.Asked.{WantSound, AsksSound, within_sound, wanted_in, asked_behind, tuple_asks, array_asks, sequence_asks, fields_sound}
use Rattle.typing_laws.proofs.Asked.{BranchSound}
use Rattle.typing_laws.proofs.Asked.{branch_sound, branch_behind, accepted_right, value_accepts, all_alike, of_fields}
use Rattle.typing_laws.proofs.Labels.{kept_kind, label_right, label_of, range_fits, picked_labels}
use Rattle.typing_laws.proofs.Operands.{the_dollar, echoed_operand, echoed_operands, echo_demand, echo_before_dot, dollar_right, binary_right, new_right}
use Rattle.typing_laws.proofs.Operands.{field_of_right}

-- what is computed of an expression before any run is a value of its type
abbrev pub Preserved : Type 0
Preserved = (here : Here) → AreSound here.facts → (e : Expr) (ty : Ty) (l : Literal) → Sound here.facts ty → is_typed here e ≡ true
    → type_of e ≡ Some ty → value_in here.facts e ≡ comes_to l → is_constant here.facts ty l ≡ true

-- ---- names

variable_right : (here : Here) (n : ℕ) (at : Place) (k : Known) (place : ℕ) (of : Ty) (writable global : Bool) → k ≡ a_variable place of writable global
    → KnownFits here k → Right here (P.Read (P.Variable (node n at) of place global))
variable_right here n at k place of writable global e h =
    let f = subst (KnownFits here) e h in
    record {
      typed = both (held f.1)
          (subst (λ o. kind.is_of o (Some of) ≡ true) (sym f.0) (same_refl of));
      sound = f.1;
    }

constant_right : (here : Here) (n : ℕ) (at : Place) (k : Known) (of : Ty) (l : Literal) → k ≡ a_constant of l → KnownFits here k
    → Right here (literal (node n at) of l)
constant_right here n at k of l e h = let f = subst (KnownFits here) e h in giving here (node n at) of l f.0 f.1

type_known : (here : Here) (k : Known) (of : Ty) → k ≡ env_of.a_type of → KnownFits here k → Sound here.facts of
type_known here k of e h = subst (KnownFits here) e h

-- ---- forms of types

length_small : (at : Place) (k : ℤ) → Sure (λ n. nat_le n MOST_ELEMENTS ≡ true) (length_limit at k)
length_small at (pos (suc k)) = sure_if (nat_le (suc k) MOST_ELEMENTS) (λ c. s_ok c) (λ c. s_err)
length_small at (pos zero) = s_err
length_small at (negsuc k) = s_err

pub array_made : (here : Here) (at : Place) (f : Former) (k : ℤ) (of : Ty) → Sound here.facts of → Sure (Sound here.facts) (array_by at f k of)
array_made here at of_arrays k of h = sure_then (length_small at k) (λ n c. s_ok (of_array (small here n c) h))
array_made here at of_sequences k of h = s_err
array_made here at of_nothing k of h = s_err

array_sound : (here : Here) (env : Env) (at : Place) (k : ℤ) (of : Ty) → Sound here.facts of → Sure (Sound here.facts) (array_type env at k of)
array_sound here env at k of h =
    sure_then (array_made here at (former_of env (codes "array")) k of h) (λ ty s. sure_if (is_sized env.facts ty) (λ c. s_ok s) (λ c. s_err))

abbrev pub AllSoundIn : Here → List Ty → Type 0
AllSoundIn here [] = Unit {0}
AllSoundIn here (t ∷ ts) = Sound here.facts t × AllSoundIn here ts

pub formed_sound : (here : Here) (at : Place) (f : Former) (ts : List Ty) → AllSoundIn here ts → Sure (Sound here.facts) (formed_by at f ts)
formed_sound here at of_sequences (t ∷ []) h = s_ok (of_sequence h.0)
formed_sound here at of_sequences [] h = s_err
formed_sound here at of_sequences (t ∷ u ∷ ts) h = s_err
formed_sound here at of_arrays ts h = s_err
formed_sound here at of_nothing ts h = s_err

-- ---- objects

object_known : (here : Here) (env : Env) (k : Known) (ty : Ty) → KnownFits here k → object_of env k ≡ Some ty
    → Sound here.facts ty × (all : List type.Field) × (resource : Bool) × (type.fact_of env.facts ty ≡ Some (type.fields all resource))
object_known here env (env_of.a_type of) ty h e = by_fact (type.fact_of env.facts of) refl e
  where
    by_fact : (o : Option type.Fact) → type.fact_of env.facts of ≡ o → object_by of o ≡ Some ty
        → Sound here.facts ty × (all : List type.Field) × (resource : Bool) × (type.fact_of env.facts ty ≡ Some (type.fields all resource))
    by_fact (Some (type.fields all resource)) f e =
        let s = some_one e in
        (subst (Sound here.facts) s h, all, resource, subst (λ t. type.fact_of env.facts t ≡ Some (type.fields all resource)) s f)
    by_fact None f e = none_some e
    by_fact (Some (type.members names)) f e = none_some e
    by_fact (Some (type.base t)) f e = none_some e
    by_fact (Some (type.below parent)) f e = none_some e
object_known here env env_of.unknown ty h e = none_some e
object_known here env (a_variable place of writable global) ty h e = none_some e
object_known here env (a_constant of l) ty h e = none_some e
object_known here env env_of.a_pending_type ty h e = none_some e
object_known here env (env_of.procedures all) ty h e = none_some e
object_known here env env_of.the_input ty h e = none_some e

-- ---- a selector

selects : (here : Here) (v : Valued) → RightValue here v → is_selector v.of ≡ true → is_selected (kind_of here.facts v.of) ≡ true
selects here v h s = selected h.sound s

-- a value of an expression
value_is : (e : Expr) (v : Valued) → value_of e ≡ Ok v → (type_of e ≡ Some v.of) × (v.expr ≡ e)
value_is e v h = by_type (type_of e) refl h
  where
    by_type : (o : Option Ty) → type_of e ≡ o → valued_by e o ≡ Ok v → (type_of e ≡ Some v.of) × (v.expr ≡ e)
    by_type None f h = cc
    by_type (Some ty) f h = let s = ok_one h in (f ∙ ap (λ (w : Valued). Some w.of) s, sym (ap (λ (w : Valued). w.expr) s))

-- `$` alone is called by its name in backticks
not_echo : (inside : Parts) (x : List ℕ) (at : Place) → quoted_rule at x inside ≡ Ok tt → is_echo x ≡ true → ⊥
not_echo inside x at q i = by_test (same_text x (codes "$") && is_single inside) refl q
  where
    dollar : x ≡ codes "$" → ⊥
    dollar e = never (subst (λ x. is_echo x ≡ true) e i)

    by_test : (b : Bool) → (same_text x (codes "$") && is_single inside) ≡ b
        → ◌≡◌ {A = Answer (Unit {0})} (if b then Ok tt else not_typed at) (Ok tt) → ⊥
    by_test true e q = dollar (the_dollar x (and_parts (same_text x (codes "$")) (is_single inside) e).0)
    by_test false e q = cc

-- what is decided at last
given_by : (b : Branching) → Decided b (gives_in b)
given_by (undecided want) = tt
given_by (decided want ty) = refl

gives_sound : (here : Here) (b : Branching) → BranchSound here b → IfSound here.facts (gives_in b)
gives_sound here (undecided want) h = tt
gives_sound here (decided want ty) h = h.1

-- a branch with tests has labels
labels_there : {env : Env} {of : Ty} {before ls : List Label} {tests : Parts} → AreLabels env of before tests ls → has_part tests ≡ true
    → has_label ls ≡ true
labels_there R.l_none h = never h
labels_there (R.l_value c l t rest) h = refl
labels_there (R.l_range l g r t rest) h = refl

module _ (calls : CallsComputed) (preserved : Preserved) where
  own : (here : Here) (env : Env) → KnowsWell here env → KnowsWell (with_facts here env.facts) env
  own here env knows = record { all = knows.own; own = knows.own }

  mutual
    pub typed_right : {env : Env} {want : Want} {n m : ℕ} {t : Term} {e : Expr} → IsTyped env want n t e m → IsRead t → (here : Here) → KnowsWell here env
        → WantSound here want → Right here e
    typed_right {n = n} (R.t_int {at = at} {z = z}) read here knows w =
        giving here (node n at) type.int (Number z) (subst (λ k. is_value k z ≡ true) (sym (plain_as knows.all.sound of_int refl)) read) of_int
    typed_right {n = n} (R.t_char {at = at} {c = c}) read here knows w =
        giving here (node n at) type.char (Number (pos c)) (subst (λ k. is_value k (pos c) ≡ true) (sym (plain_as knows.all.sound of_char refl)) read) of_char
    typed_right {n = n} (R.t_text {at = at} {bytes = bytes}) read here knows w =
        giving here (node n at) type.text (Characters _) (ap is_text (plain_as knows.all.sound of_text refl)) of_text
    typed_right {env} {n = n} (R.t_variable {place = place} {at = at} {x = x} {of = of} {writable = writable} {global = global} e) read here knows w =
        variable_right here n at (known env x) place of writable global e (known_fits here env x knows.all)
    typed_right {env} {n = n} (R.t_constant {at = at} {x = x} {of = of} {value = l} e) read here knows w =
        constant_right here n at (known env x) of l e (known_fits here env x knows.all)
    typed_right (R.t_paren h) read here knows w = typed_right h read here knows w
    typed_right (R.t_named h) read here knows w = typed_right h read here knows w
    typed_right {env} {want} {n} (R.t_tuple {at = at} {inside = inside} {vs = vs} h e) read here knows w =
        sure_ok (tuple_rule_right here env want n at (part_names inside) vs (values_right h read here knows (tuple_asks here (wanted want) _ w))) e
    typed_right {env} {want} {n} (R.t_array {at = at} {vs = vs} h e) read here knows w =
        let a = all_alike here h in
        sure_ok (array_right here env n at vs a.0 a.1 (values_right h read here knows (array_asks here (wanted want) w, tt))) e
    typed_right {env} {want} {n} (R.t_sequence {at = at} {vs = vs} h e) read here knows w =
        let a = all_alike here h in
        sure_ok (sequence_rule_right here want n at vs a.0 w a.1 (values_right h read here knows (sequence_asks here (wanted want) w, tt))) e
    typed_right {env} {n = n} (R.t_construct {at = at} {x = x} {inside = inside} {ty = ty} {chosen = chosen} {vs = vs} o f h) read here knows w =
        let k = object_known here env (known env x) ty (known_fits here env x knows.all) o in
        construct_right here env knows.all n at ty k.1 k.2 chosen vs k.0 k.3 f (of_fields here inside refl f h)
        (values_right h read here knows (fields_sound here ty chosen (all_fielded here env knows.all ty k.0 f)))
    typed_right {env} {n = n} (R.t_field {at = at} {x = x} {o = o} {e = e} h f) read here knows w =
        field_of_right here env knows.all calls n at (normal x) o e (operand_right h read here knows) f
    typed_right {env} {n = n} (R.t_dot {at = at} {a = a} {x = x} {o = o} h f u d c) read here knows w =
        call_right here env knows.all n at (normal x) (operand_right h read here knows, tt)
        (λ i. (echo_before_dot here env n at (normal x) a i f h, tt)) c
    typed_right {env} {n = n} (R.t_index {m = m} {k = k} {at = at} {v = v} {w = i} h g e) read here knows w =
        sure_ok (index_right here env n m k at v i (value_right h read.0 here knows tt) (value_right g read.1.0 here knows tt)) e
    typed_right {env} {n = n} (R.t_call {m = m} {at = at} {x = x} {inside = inside} {os = os} u c h k) read here knows w =
        call_right here env knows.all n at (normal x) (operands_right h read.1 here knows)
        (λ i. echoed_operands here (subst (λ d. AreOperands env d (suc n) inside os m) (echo_demand env (normal x) inside i) h)) k
    typed_right {env} {n = n} (R.t_quoted_call {at = at} {x = x} {inside = inside} q h c) read here knows w =
        call_right here env knows.all n at (inside_of x) (operands_right h read.1 here knows) (λ i. absurd (not_echo inside (inside_of x) at q i)) c
    typed_right {env} {n = n} (R.t_method {l = l} {m = m} {at = at} {a = a} {x = x} {inside = inside} {o = o} {os = os} c g u h k) read here knows w =
        call_right here env knows.all n at (normal x) (operand_right g read.0 here knows, operands_right h read.1 here knows)
        (λ i. let d = echo_demand env (normal x) (part a inside) i in (
          echoed_operand here (λ v e. refl) (subst (λ d. IsOperand env d (suc n) a o l) d g),
          echoed_operands here (subst (λ d. AreOperands env (demand_behind d) l inside os m) d h),
        )) k
    typed_right {env} {n = n} (R.t_new_sequence {at = at} {ty = ty} {os = os} b s h e) read here knows w =
        sure_ok (new_right here env knows.all calls n at ty os (spelled_sound s here knows) (operands_right h read.1 here knows)) e
    typed_right {env} {n = n} (R.t_conversion {at = at} {ty = ty} f b s h i) read here knows w =
        conversion_right here env knows.all n at ty (spelled_sound s here knows) (operands_right h read.1 here knows) i
    typed_right {n = n} (R.t_unary {at = at} {op = op} {v = v} h d e) read here knows w =
        sure_ok (unary_right here n at op v (value_right h read here knows tt)) e
    typed_right {env} {n = n} (R.t_dollar {at = at} h d c) read here knows w =
        call_right here env knows.all n at (codes "$") (value_right h read here knows tt, tt) (λ i. never i) c
    typed_right {env} {n = n} (R.t_binary {at = at} {op = op} {o = o} {r = r} h g e) read here knows w =
        sure_ok (binary_right here env knows.all calls n at op o r (operand_right h read.0 here knows) (operand_right g read.1 here knows)) e
    typed_right {want = want} {n = n} (R.t_if {at = at} {c = c} {x = x} {e = e} h g b) read here knows w =
        let s = conditions_sound h read.0 here knows (within_sound here want w) in
        let is = branch_is c.values x e b in
        let r = subst (Right here) (sym is.0) (typed_right g read.1 here knows (branch_sound here c.values s)) in
        if_right here n at c e (conditions_right h read.0 here knows (within_sound here want w) (type_of e) is.1).1 r
    typed_right {env} {want} {n} (R.t_case {at = at} {v = v} {p = p} h g e) read here knows w =
        let s = value_right h read.0 here knows tt in
        let o = value_right h read.0 (with_facts here env.facts) (own here env knows) tt in
        let t = value_accepts h in
        let b = picks_sound g read.1 here knows (within_sound here want w) in
        case_right here n at v p s (selects here v s t)
        (picks_right g read.1 here knows (within_sound here want w) o.sound t (gives_in p.values) (given_by p.values)).1
        (enough here.facts env.facts v.of (gives_in p.values) p.rows (kept_kind here.facts env.facts knows.all.said o.sound) o.sound t
        (subst (AreEnough env.facts v.of (gives_in p.values)) (picked_labels g) e)) (gives_sound here p.values b)
    typed_right {env} {want} {n} (R.t_case_else {at = at} {v = v} {p = p} {x = x} {e = e} h g k b) read here knows w =
        let s = value_right h read.0 here knows tt in
        let o = value_right h read.0 (with_facts here env.facts) (own here env knows) tt in
        let t = value_accepts h in
        let c = picks_sound g read.1.0 here knows (within_sound here want w) in
        let is = branch_is p.values x e b in
        let r = subst (Right here) (sym is.0) (typed_right k read.1.1 here knows (branch_sound here p.values c)) in
        case_else_right here n at v p e s (selects here v s t)
        (picks_right g read.1.0 here knows (within_sound here want w) o.sound t (type_of e) is.1).1 r

    pub value_right : {env : Env} {g : Asks} {n m : ℕ} {t : Term} {v : Valued} → IsValue env g n t v m → IsRead t → (here : Here) → KnowsWell here env
        → AsksSound here g → RightValue here v
    value_right {env} {g} {t = t} {v = v} (R.v_value {e = e} h a) read here knows asks =
        accepted_right here env g t e v (typed_right h read here knows (wanted_in here g asks)) a

    pub values_right : {env : Env} {g : Asks} {n m : ℕ} {ts : Parts} {vs : List Valued} → AreValues env g n ts vs m → AreRead ts → (here : Here)
        → KnowsWell here env → AsksSound here g → ValuesRight here vs
    values_right R.v_none read here knows asks = tt
    values_right {g = g} (R.v_more {v = v} h rest) read here knows asks =
        let r = value_right h read.0 here knows asks in (r, values_right rest read.1 here knows (asked_behind here g v.of asks r.sound))

    pub operand_right : {env : Env} {d : Demand} {n m : ℕ} {t : Term} {o : Operand} → IsOperand env d n t o m → IsRead t → (here : Here)
        → KnowsWell here env → RightOperand here o
    operand_right (R.o_value s h e) read here knows = value_right h read here knows tt
    operand_right {env} {n = n} (R.o_shown {w = w} {e = e} s h c k d) read here knows =
        let r = dollar_right here env knows.all calls n w e (value_right k read here knows tt) d in as_value here e type.text r.0 r.1
    operand_right (R.o_open s) read here knows = tt
    operand_right (R.o_type s h) read here knows = spelled_sound h here knows
    operand_right (R.o_input s) read here knows = tt

    pub operands_right : {env : Env} {d : Demand} {n m : ℕ} {ts : Parts} {os : List Operand} → AreOperands env d n ts os m → AreRead ts → (here : Here)
        → KnowsWell here env → AllRight here os
    operands_right R.o_none read here knows = tt
    operands_right (R.o_more h rest) read here knows = (operand_right h read.0 here knows, operands_right rest read.1 here knows)

    -- what the branches of an `if` come to
    conditions_sound : {env : Env} {b : Branching} {n : ℕ} {all : Choices} {c : Chosen} → AreConditions env b n all c → ChoicesRead all → (here : Here)
        → KnowsWell here env → BranchSound here b → BranchSound here c.values
    conditions_sound R.c_none read here knows s = s
    conditions_sound {b = b} (R.c_more {x = x} {e = e} h g v more) read here knows s =
        let is = branch_is b x e v in
        let r = subst (Right here) (sym is.0) (typed_right g read.1.0 here knows (branch_sound here b s)) in
        conditions_sound more read.1.1 here knows (branch_behind here b (type_of e) s r.sound)

    conditions_right : {env : Env} {b : Branching} {n : ℕ} {all : Choices} {c : Chosen} → AreConditions env b n all c → ChoicesRead all → (here : Here)
        → KnowsWell here env → BranchSound here b → (ty : Option Ty) → Decided c.values ty → Decided b ty × Before here ty c.parts
    conditions_right R.c_none read here knows s ty d = (d, none_before here ty)
    conditions_right {b = b} (R.c_more {c = c} {x = x} {e = e} {more = more} h g v rest) read here knows s ty d =
        let is = branch_is b x e v in
        let r = subst (Right here) (sym is.0) (typed_right g read.1.0 here knows (branch_sound here b s)) in
        let m = conditions_right rest read.1.1 here knows (branch_behind here b (type_of e) s r.sound) ty d in
        let t = decided_before b (type_of e) ty is.1 m.0 in
        (t.1, one_before here ty c e more.parts (value_right h read.0.1.0 here knows of_bool) (sym (the_same (value_accepts h))) r t.0 m.1)

    picks_sound : {env : Env} {of : Ty} {before : List Label} {b : Branching} {n : ℕ} {all : Choices} {p : Picked} → ArePicks env of before b n all p
        → ChoicesRead all → (here : Here) → KnowsWell here env → BranchSound here b → BranchSound here p.values
    picks_sound R.k_none read here knows s = s
    picks_sound {b = b} (R.k_more {x = x} {e = e} l g v more) read here knows s =
        let is = branch_is b x e v in
        let r = subst (Right here) (sym is.0) (typed_right g read.1.0 here knows (branch_sound here b s)) in
        picks_sound more read.1.1 here knows (branch_behind here b (type_of e) s r.sound)

    picks_right : {env : Env} {of : Ty} {before : List Label} {b : Branching} {n : ℕ} {all : Choices} {p : Picked} → ArePicks env of before b n all p
        → ChoicesRead all → (here : Here) → KnowsWell here env → BranchSound here b → Sound env.facts of → is_selector of ≡ true → (ty : Option Ty)
        → Decided p.values ty → Decided b ty × Picks here (kind_of here.facts of) ty p.rows p.parts
    picks_right {of = of} R.k_none read here knows s o t ty d = (d, no_picks here (kind_of here.facts of) ty)
    picks_right {of = of} {b = b} (R.k_more {ls = ls} {tests = tests} {x = x} {e = e} {more = more} l g v rest) read here knows s o t ty d =
        let is = branch_is b x e v in
        let r = subst (Right here) (sym is.0) (typed_right g read.1.0 here knows (branch_sound here b s)) in
        let m = picks_right rest read.1.1 here knows (branch_behind here b (type_of e) s r.sound) o t ty d in
        let u = decided_before b (type_of e) ty is.1 m.0 in
        let f = labels_right l read.0.1 here knows o t in
        (u.1, one_pick here (kind_of here.facts of) ty ls more.rows e more.parts (labels_there l read.0.0) f r u.0 m.1)

    labels_right : {env : Env} {of : Ty} {before ls : List Label} {tests : Parts} → AreLabels env of before tests ls → AreRead tests → (here : Here)
        → KnowsWell here env → Sound env.facts of → is_selector of ≡ true → labels_fit (kind_of here.facts of) ls ≡ true
    labels_right R.l_none read here knows o t = refl
    labels_right (R.l_value c h twice rest) read here knows o t = both (one_label h read.0 here knows o t) (labels_right rest read.1 here knows o t)
    labels_right {of = of} (R.l_range {at = at} {low = low} {high = high} {k = k} h g r twice rest) read here knows o t =
        both (range_fits (kind_of here.facts of) at low high k r (one_label h read.0.0 here knows o t) (one_label g read.0.1 here knows o t))
        (labels_right rest read.1 here knows o t)

    pub one_label : {env : Env} {of : Ty} {a : Term} {label : Label} → IsLabel env of a label → IsRead a → (here : Here) → KnowsWell here env
        → Sound env.facts of → is_selector of ≡ true → label_fits (kind_of here.facts of) label ≡ true
    one_label {env} {of} {label = label} (R.l_constant {e = e} {v = v} h c k) read here knows o t =
        let there = with_facts here env.facts in
        let r = typed_right h read there (own here env knows) tt in
        let is = value_is e v c in
        let q = label_of env.facts of v label k in
        let p : is_constant env.facts of q.literal ≡ true =
        preserved there knows.own.sound e of q.literal o r.typed (is.0 ∙ ap (λ t. Some t) (sym q.same))
        (subst (λ e. value_in env.facts e ≡ comes_to q.literal) is.1 q.comes) in
        subst (λ k. label_fits k label ≡ true) (sym (kept_kind here.facts env.facts knows.all.said o))
        (label_right env.facts knows.own.sound of o t (place_in v.expr) q.literal label p q.is)

    spelled_sound : {env : Env} {t : Term} {ty : Ty} → Spells env t ty → (here : Here) → KnowsWell here env → Sound here.facts ty
    spelled_sound (R.s_paren h) here knows = spelled_sound h here knows
    spelled_sound {env} (R.s_named {x = x} {ty = ty} e) here knows = type_known here (known env x) ty e (known_fits here env x knows.all)
    spelled_sound {env} (R.s_array {at = at} {k = k} {of = of} u a h v l s e) here knows = sure_ok (array_sound here env at k of (spelled_sound s here knows)) e
    spelled_sound {env} (R.s_formed {at = at} {x = x} {ts = ts} u p s e) here knows =
        sure_ok (formed_sound here at (former_of env (normal x)) ts (spelled_all s here knows)) e

    spelled_all : {env : Env} {given : Parts} {ts : List Ty} → SpellAll env given ts → (here : Here) → KnowsWell here env → AllSoundIn here ts
    spelled_all R.s_none here knows = tt
    spelled_all (R.s_more h rest) here knows = (spelled_sound h here knows, spelled_all rest here knows)
