-- Statements that are typed one by one.
use Rattle.std.proofs.Common.{◌≡◌, ℕ, Bool, true, false, List, [], ◌∷◌, ◌++◌, Option, Some, None, refl, sym, ap, subst, ◌∙◌, arith}
use Rattle.std.specs.Prelude.{if◌then◌else◌, Ok}
use Rattle.arc_base.specs.declared.place.Place.{Place}
use Rattle.indent_scanner.specs.Words.{normal}
use Rattle.nim_tree.specs.declared.name.Declared.{Declared as Name}
use Rattle.nim_tree.specs.declared.stmt.AssignOp.{AssignOp}
use Rattle.nim_tree.specs.declared.stmt.AssignOp.TheVariants as sign
use Rattle.nim_tree.specs.declared.stmt.Binding.{Binding}
use Rattle.nim_tree.specs.Terms.{Term}
use Rattle.nim_types.specs.Types as type
use Rattle.nim_types.specs.Types.{Ty, Facts, same}
use Rattle.nim_program.specs.declared.expr.Node.{Node}
use Rattle.nim_program.specs.declared.operation.Operation.{Operation}
use Rattle.nim_program.specs.declared.operation.Operation.TheVariants as O
use Rattle.nim_program.specs.declared.operation.Operator.{Operator}
use Rattle.nim_program.specs.declared.operation.Operator.TheVariants as operator
use Rattle.nim_program.specs.declared.stmt.Leaving.TheVariants as leaving
use Rattle.nim_program.specs.Program as P
use Rattle.nim_program.specs.Program.{Expr, Path, Args, NoArg, ByValue, ByPath, Stmt, Stmts, Declared, Doing, type_of}
use Rattle.nim_program.specs.Nodes.{one_value, path_and_value, discard}
use Rattle.nim_program.specs.SelfAssignment.{is_itself, is_result}
use Rattle.nim_program.specs.Fitting.{fits, places_in}
use Rattle.nim_program.specs.Scopes.{Here, placed, with_place}
use Rattle.nim_program.specs.Program.{is_written}
use Rattle.nim_program.specs.Typed.{is_typed, are_typed, are_placed, may_take, may_take_all, starts, is_typed_stmt, is_typed_block}
use Rattle.nim_program.specs.Typed as T
use Rattle.expr_rules.specs.Env.{Env, variable}
use Rattle.expr_rules.specs.Answers.{Answer, place_in, Valued, valued_by, value_of}
use Rattle.expr_rules.specs.Builtins.{write_rule, write_by}
use Rattle.expr_rules.specs.Paths.{path_of, can_be_written}
use Rattle.decl_rules.specs.State.{ResultPlace, Around, State}
use Rattle.decl_rules.specs.Values.{accepted_if, type_given, gives_back, gives_last, given_if, has_type, evaluated_by, evaluated, is_target}
use Rattle.decl_rules.specs.Values.{target_at, is_source, assigned, procedure_rule}
use Rattle.decl_rules.specs.Definitions.{is_var_binding, place_for, variable_as}
use Rattle.typing_laws.specs.Sound.{Sound}
use Rattle.typing_laws.specs.Knows.{IfSound, KnowsWell, with_facts}
use Rattle.typing_laws.proofs.Tests.{both, never, ok_one, the_same, same_by, is_by}
use Rattle.typing_laws.proofs.SoundKinds.{the_int, the_text}
use Rattle.typing_laws.proofs.Asked.{can_write}
use Rattle.typing_laws.proofs.Right.{Right, RightValue, doing, path_right, operand_typed}
use Rattle.typing_laws.proofs.Growing.{Under, under_one, found_last, entries_placed, entries_more}
use Rattle.typing_laws.proofs.Steps.{as_before, with_one, At, StepsRight}

-- ---- what stands around

pub record Fits (facts : Facts) (a : Around) (ends : ResultPlace) (around : T.Around) : Type 0 where
  pub loops : a.in_loop ≡ true → around.in_loop ≡ true
  pub returns : (at : Place) (gives : ResultPlace) → procedure_rule at a.inside ≡ Ok gives
      → (around.returns ≡ true) × (around.gives ≡ type_given gives) × IfSound facts (type_given gives)
  pub at_end : (place : Declared) → ends ≡ Some place → around.gives ≡ Some place.of
  pub sound : IfSound facts (type_given ends)

-- ---- values

-- a value that is needed
pub value_by : (here : Here) (e : Expr) (v : Valued) → Right here e → value_of e ≡ Ok v → RightValue here v
value_by here e v h k = by_type (type_of e) refl k
  where
    by_type : (o : Option Ty) → type_of e ≡ o → valued_by e o ≡ Ok v → RightValue here v
    by_type None f k = cc
    by_type (Some ty) f k =
        subst (RightValue here) (ok_one k)
        (record { typed = h.typed; sound = subst (IfSound here.facts) f h.sound; gives = f; written = λ w. never w })

pub accepted_is : (b : Bool) (v w : Valued) → accepted_if b v ≡ Ok w → (v ≡ w) × (b ≡ true)
accepted_is true v w e = (ok_one e, refl)
accepted_is false v w e = cc

-- ---- values that are let go

pub let_go : (here : Here) (around : T.Around) (n : Node) (e : Expr) → is_typed here e ≡ true → is_typed_stmt here around (discard n e) ≡ true
let_go here around n e h = (doing here n None O.Discard (one_value e) refl refl refl (both h refl) tt).typed

-- an expression as a statement
pub evaluated_typed : (here : Here) (a : Around) (ends : ResultPlace) (around : T.Around) (n : Node) (e : Expr) (s : Stmt) → Fits here.facts a ends around
    → Right here e → evaluated ends n e ≡ Ok s → is_typed_stmt here around s ≡ true
evaluated_typed here a ends around n e s fit h k = by_type (type_of e) refl k
  where
    last : (place : Declared) → ends ≡ Some place → type_of e ≡ Some place.of → is_typed_stmt here around (gives_last ends n e) ≡ true
    last place is t = by_test (is_result ends e)
      where
        by_test : (b : Bool) → is_typed_stmt here around (if b then P.Idle n (one_value e) else P.Give n false e) ≡ true
        by_test true = both h.typed refl
        by_test false = both (both (is_by t (fit.at_end place is)) refl) h.typed

    by_ends : (o : ResultPlace) → ends ≡ o → (t : Ty) → type_of e ≡ Some t → given_if (has_type o t) ends n e ≡ Ok s → is_typed_stmt here around s ≡ true
    by_ends None is t f k = cc
    by_ends (Some place) is t f k = by_test (same place.of t) refl k
      where
        by_test : (b : Bool) → same place.of t ≡ b → given_if b ends n e ≡ Ok s → is_typed_stmt here around s ≡ true
        by_test true g k = subst (λ s. is_typed_stmt here around s ≡ true) (ok_one k) (last place is (f ∙ ap (λ t. Some t) (sym (the_same g))))
        by_test false g k = cc

    by_type : (o : Option Ty) → type_of e ≡ o → evaluated_by ends n e o ≡ Ok s → is_typed_stmt here around s ≡ true
    by_type None f k = subst (λ s. is_typed_stmt here around s ≡ true) (ok_one k) (let_go here around n e h.typed)
    by_type (Some t) f k = by_ends ends refl t f k

-- what is returned
pub given_typed : (here : Here) (around : T.Around) (gives : ResultPlace) (n : Node) (e : Expr) (ty : Ty) → around.returns ≡ true
    → around.gives ≡ Some ty → is_typed here e ≡ true → type_of e ≡ Some ty → is_typed_stmt here around (gives_back gives n e) ≡ true
given_typed here around gives n e ty r g h t = by_test (is_result gives e)
  where
    by_test : (b : Bool) → is_typed_stmt here around (if b then P.Leave n leaving.Return (one_value e) else P.Give n true e) ≡ true
    by_test true = both r (both h refl)
    by_test false = both (both (is_by t g) r) h

-- ---- assignments

written_by : (here : Here) (n : Node) (o : Operation) (v w : Valued) → RightValue here v → RightValue here w → is_written (path_of v.expr) ≡ true
    → places_in o ≡ 1 → ((path : Path) → may_take here o path ≡ is_written path) → fits here.facts o None (Some v.of ∷ Some w.of ∷ []) ≡ true
    → Right here (P.Apply n None (Doing o) (path_and_value (path_of v.expr) w.expr))
written_by here n o v w h k written p m f =
    doing here n None o (path_and_value (path_of v.expr) w.expr)
    (subst (λ a. fits here.facts o None (a ∷ type_of w.expr ∷ []) ≡ true) (sym (path_right here v h).0)
    (subst (λ b. fits here.facts o None (Some v.of ∷ b ∷ []) ≡ true) (sym k.gives) f))
    (ap (λ i. are_placed i (path_and_value (path_of v.expr) w.expr)) p) (both (m (path_of v.expr) ∙ written) refl)
    (operand_typed here v (ByValue w.expr NoArg) h (both k.typed refl)) tt

updated : (here : Here) (n : Node) (o : Operator) (v w : Valued) → RightValue here v → RightValue here w → is_written (path_of v.expr) ≡ true
    → v.of ≡ type.int → w.of ≡ v.of → fits here.facts (O.Update o) None (Some type.int ∷ Some type.int ∷ []) ≡ true
    → Right here (P.Apply n None (Doing (O.Update o)) (path_and_value (path_of v.expr) w.expr))
updated here n o v w h k written i s f =
    written_by here n (O.Update o) v w h k written refl (λ path. refl)
    (subst (λ t. fits here.facts (O.Update o) None (Some t ∷ Some w.of ∷ []) ≡ true) (sym i)
    (subst (λ t. fits here.facts (O.Update o) None (Some type.int ∷ Some t ∷ []) ≡ true) (sym (s ∙ i)) f))

appended : (facts : Facts) (s : Ty) → is_source sign.Join type.text s ≡ true → fits facts O.Append None (Some type.text ∷ Some s ∷ []) ≡ true
appended facts type.char h = refl
appended facts type.text h = refl
appended facts type.int h = never h
appended facts type.bool h = never h
appended facts (type.sequence t) h = never h
appended facts (type.array n t) h = never h
appended facts (type.tuple names ts) h = never h
appended facts (type.parameter n) h = never h
appended facts (type.enum key) h = never h
appended facts (type.object key ts) h = never h
appended facts (type.distinct key) h = never h
appended facts (type.ref name t) h = never h
appended facts (type.exception key) h = never h

pub assigned_typed : (here : Here) (around : T.Around) (op : AssignOp) (n : Node) (v w : Valued) → RightValue here v → RightValue here w
    → is_written (path_of v.expr) ≡ true → is_target op v.of ≡ true → is_source op v.of w.of ≡ true
    → is_typed_stmt here around (assigned op n (path_of v.expr) w.expr) ≡ true
assigned_typed here around sign.Set n v w h k written t s = by_test (is_itself (path_of v.expr) w.expr)
  where
    by_test : (b : Bool)
        → is_typed_stmt here around (if b then P.Idle n (path_and_value (path_of v.expr) w.expr)
        else P.Do (P.Apply n None (Doing O.Assign) (path_and_value (path_of v.expr) w.expr))) ≡ true
    by_test true = operand_typed here v (ByValue w.expr NoArg) h (both k.typed refl)
    by_test false = (written_by here n O.Assign v w h k written refl (λ path. refl) (same_by {s = w.of} {t = v.of} (sym (the_same s)))).typed
assigned_typed here around sign.Plus n v w h k written t s = (updated here n operator.Add v w h k written (the_int t) (sym (the_same s)) refl).typed
assigned_typed here around sign.Minus n v w h k written t s = (updated here n operator.Subtract v w h k written (the_int t) (sym (the_same s)) refl).typed
assigned_typed here around sign.Times n v w h k written t s = (updated here n operator.Multiply v w h k written (the_int t) (sym (the_same s)) refl).typed
assigned_typed here around sign.Join n v w h k written t s =
    let e = the_text t in
    (written_by here n O.Append v w h k written refl (λ path. refl)
    (subst (λ t. fits here.facts O.Append None (Some t ∷ Some w.of ∷ []) ≡ true) (sym e)
    (appended here.facts w.of (subst (λ t. is_source sign.Join t w.of ≡ true) e s)))).typed

-- the place that is written
pub target_written : (env : Env) (t : Term) (v : Valued) → write_rule (target_at env t v) ≡ Ok tt → is_written (path_of v.expr) ≡ true
target_written env t v h = by_test (can_be_written env t v.expr) refl h
  where
    by_test : (b : Bool) → can_be_written env t v.expr ≡ b → ◌≡◌ {A = Answer (Unit {0})} (write_by b (place_in v.expr)) (Ok tt)
        → is_written (path_of v.expr) ≡ true
    by_test true e k = can_write env t v.expr e
    by_test false e k = cc

-- ---- a further variable

-- what is known with one more place that begins a name
pub with_entry : (here : Here) (env : Env) (d : Declared) (name : List ℕ) (writable : Bool) → KnowsWell here env → Under d.number here.places
    → Sound here.facts d.of → Sound env.facts d.of
    → KnowsWell (with_place here d) (record env { entries = env.entries ++ variable name d.number d.of writable false ∷ [] })
with_entry here env d name writable knows under s own =
    record {
      all = record {
        sound = knows.all.sound;
        said = knows.all.said;
        entries = entries_more (with_place here d) env.entries _ (entries_placed here d env.entries knows.all.entries)
            ((found_last here.places (placed d) under, s), tt);
      };
      own = record {
        sound = knows.own.sound;
        said = knows.own.said;
        entries = entries_more (with_place (with_facts here env.facts) d) env.entries _
            (entries_placed (with_facts here env.facts) d env.entries knows.own.entries) ((found_last here.places (placed d) under, own), tt);
      };
    }

pub places_known : (here : Here) (env : Env) (d : Declared) → KnowsWell here env → KnowsWell (with_place here d) env
places_known here env d knows =
    record {
      all = record { sound = knows.all.sound; said = knows.all.said; entries = entries_placed here d env.entries knows.all.entries };
      own = record {
        sound = knows.own.sound;
        said = knows.own.said;
        entries = entries_placed (with_facts here env.facts) d env.entries knows.own.entries;
      };
    }

-- a variable in a block, with a value or without
pub variable_right : (here : Here) (around : T.Around) (a : Around) (at : Place) (b : Binding) (ty : Ty) (value : Args) (n : ℕ) (st : State) (d : Name)
    → a.outermost ≡ false → At here st → Sound here.facts ty → Sound st.env.facts ty → starts here.facts ty value ≡ true → are_typed here value ≡ true
    → StepsRight here around st (variable_as a at b ty value n st d)
variable_right here around a at b ty value n st d o at_st s own start t =
    record {
      after = with_place here (place_for st d ty);
      grown = with_one (place_for st d ty) as_before;
      at = record {
        knows = subst (λ global. KnowsWell (with_place here (place_for st d ty))
            (record st.env { entries = st.env.entries ++ variable (normal d.text) st.place ty (is_var_binding b) global ∷ [] }))
            (sym o) (with_entry here st.env (place_for st d ty) (normal d.text) (is_var_binding b) at_st.knows at_st.under s own);
        under = under_one st.place here.places (placed (place_for st d ty)) at_st.under refl;
      };
      later = omega arith;
      typed = λ rest k. both (both start t) k;
    }
