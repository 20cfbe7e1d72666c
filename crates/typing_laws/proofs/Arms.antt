-- Labels, constants and heads of statements.
use Rattle.std.proofs.Common.{◌≡◌, Bool, true, false, List, [], ◌∷◌, ◌++◌, Option, Some, None, refl, sym, ap, subst, ◌∙◌, append_assoc}
use Rattle.std.specs.Prelude.{not, if◌then◌else◌, Ok, Err}
use Rattle.arc_base.specs.declared.place.Place.{Place}
use Rattle.arc_base.specs.declared.place.Code.TheVariants.{CaseCover}
use Rattle.arc_base.specs.Refusal.{and_then, refused}
use Rattle.nim_tree.specs.declared.name.Declared.{Declared as TreeName}
use Rattle.nim_tree.specs.Terms as term
use Rattle.nim_tree.specs.Terms.{Term, Parts, no_parts, part, place_of}
use Rattle.nim_tree.specs.Statements.{Definition, empty, Branches as Trees}
use Rattle.nim_types.specs.Types.{Ty, Facts, same}
use Rattle.nim_program.specs.Program.{Literal, Label, Expr, Stmts, Blocks, Otherwise, Block, type_of}
use Rattle.nim_program.specs.Nodes.{blocks_of}
use Rattle.nim_program.specs.Kinds.{kind_of, is_constant}
use Rattle.nim_program.specs.Fitting.{labels_fit, has_label, joined}
use Rattle.nim_program.specs.Scopes.{Here}
use Rattle.nim_program.specs.Typed.{is_empty, has_else}
use Rattle.expr_rules.specs.Env.{Env}
use Rattle.expr_rules.specs.Answers.{Answer, Typed, Valued, value_of, nothing, place_in}
use Rattle.expr_rules.specs.Choices.{label_value, range_of, new_label, clashes, cover_by, is_enough}
use Rattle.expr_rules.specs.Constants.{Evaluated, comes_to, traps, varies, value_in, if_comes}
use Rattle.expr_rules.specs.Covered.{AreEnough}
use Rattle.expr_rules.specs.Demands.{bare, is_selector}
use Rattle.expr_rules.specs.Laws.{CallsComputed, NodesComputed, EnoughComputed}
use Rattle.expr_rules.specs.Rules as E
use Rattle.expr_rules.specs.Typed.{typed, labels, label_from}
use Rattle.decl_rules.specs.State.{ResultPlace, Around, State}
use Rattle.decl_rules.specs.Values.{of_type, returned}
use Rattle.decl_rules.specs.Definitions.{constant_entries, Fixed, fixed_value}
use Rattle.decl_rules.specs.Stated.{Armed, covered}
use Rattle.decl_rules.specs.Rules as R
use Rattle.decl_rules.specs.Rules.{IsConstantOf, AreConstants, AreArms}
use Rattle.nim_program.specs.Program as P
use Rattle.typing_laws.specs.Sound.{Sound}
use Rattle.typing_laws.specs.Knows.{IfSound, EntriesFit, KnowsWell, with_facts}
use Rattle.typing_laws.specs.Trees.{has_part, AreRead, IfRead, DefinitionsRead}
use Rattle.typing_laws.proofs.Tests.{both, never, ok_one, the_same}
use Rattle.typing_laws.proofs.Labels.{range_fits}
use Rattle.typing_laws.proofs.Constants.{Closed, ClosedOne}
use Rattle.typing_laws.proofs.Induction.{Preserved, one_label}
use Rattle.typing_laws.proofs.Growing.{constant_grown, entries_more}
use Rattle.typing_laws.proofs.Written.{if_written_sound}
use Rattle.typing_laws.proofs.Steps.{At}
use Rattle.typing_laws.proofs.Statements.{accepted_is}
use Rattle.typing_laws.proofs.Blocks.{own, defined_right}

-- ---- what comes of an answer

pub record Then {A B : Type 0} (r : Answer A) (go : A → Answer B) (b : B) : Type 0 where
  pub value : A
  pub is : r ≡ Ok value
  pub next : go value ≡ Ok b

pub then_is : {A B : Type 0} (r : Answer A) (go : A → Answer B) (b : B) → and_then r go ≡ Ok b → Then r go b
then_is (Ok a) go b e = record { value = a; is = refl; next = e }
then_is (Err f) go b e = cc

-- ---- what is returned

pub returned_is : (gives : ResultPlace) (e : Expr) (v : Valued) → returned gives e ≡ Ok v
    → (place : P.Declared) × (gives ≡ Some place) × (value_of e ≡ Ok v) × (v.of ≡ place.of)
returned_is None e v h = cc
returned_is (Some place) e v h =
    let t = then_is (value_of e) (of_type place.of) v h in
    let a = accepted_is (same place.of t.value.of) t.value v t.next in
    (place, refl, t.is ∙ ap Ok a.0, sym (ap (λ (w : Valued). w.of) a.0) ∙ sym (the_same a.1))

-- ---- labels

module _ (calls : CallsComputed) (preserved : Preserved) (nodes : NodesComputed) where
  label_by : {env : Env} {of : Ty} (a : Term) (l : Label) → label_from env.facts of (typed env nothing 0 a) ≡ Ok l → E.IsLabel env of a l
  label_by {env} {of} a l h =
      let x = then_is (typed env nothing 0 a) (λ (x : Typed). and_then (value_of x.expr) (label_value env.facts of)) l h in
      let v = then_is (value_of x.value.expr) (label_value env.facts of) l x.next in
      E.l_constant ((nodes env nothing 0 x.value.next a x.value.expr).1 x.is) v.is v.next

  kept_label : (at : Place) (before : List Label) (l m : Label) → new_label at before l ≡ Ok m → l ≡ m
  kept_label at before l m h = by_test (clashes l before) h
    where
      by_test : (b : Bool) → (if b then refused CaseCover at else Ok l) ≡ Ok m → l ≡ m
      by_test true h = cc
      by_test false h = ok_one h

  -- what comes behind a label
  abbrev behind_label : Env → Ty → List Label → Place → Parts → Label → Answer (List Label)
  behind_label env of before at rest l =
      and_then (new_label at before l) (λ l. and_then (labels env of (before ++ l ∷ []) rest) (λ more. Ok (l ∷ more)))

  -- a label before others
  one_more : (env : Env) (of : Ty) (before : List Label) (at : Place) (l : Label) (rest : Parts) (ls : List Label)
      → and_then (new_label at before l) (λ l. and_then (labels env of (before ++ l ∷ []) rest) (λ more. Ok (l ∷ more))) ≡ Ok ls
      → (more : List Label) × (labels env of (before ++ l ∷ []) rest ≡ Ok more) × (l ∷ more ≡ ls)
  one_more env of before at l rest ls h =
      let m = then_is (new_label at before l) (λ l. and_then (labels env of (before ++ l ∷ []) rest) (λ more. Ok (l ∷ more))) ls h in
      let e = kept_label at before l m.value m.is in
      let n = then_is (labels env of (before ++ m.value ∷ []) rest) (λ more. Ok (m.value ∷ more)) ls m.next in
      (n.value, subst (λ k. labels env of (before ++ k ∷ []) rest ≡ Ok n.value) (sym e) n.is, ap (λ k. k ∷ n.value) e ∙ ok_one n.next)

  pub labels_typed : (env : Env) (of : Ty) (before : List Label) (tests : Parts) (ls : List Label) → labels env of before tests ≡ Ok ls → AreRead tests
      → (here : Here) → KnowsWell here env → Sound env.facts of → is_selector of ≡ true → labels_fit (kind_of here.facts of) ls ≡ true
  labels_typed env of before no_parts ls h read here knows s t = subst (λ ls. labels_fit (kind_of here.facts of) ls ≡ true) (ok_one h) refl
  labels_typed env of before (part (term.range at a b) rest) ls h read here knows s t =
      let low = then_is (label_from env.facts of (typed env nothing 0 a)) _ ls h in
      let high = then_is (label_from env.facts of (typed env nothing 0 b)) _ ls low.next in
      let range = then_is (range_of at low.value high.value) _ ls high.next in
      let m = one_more env of before at range.value rest ls range.next in
      subst (λ ls. labels_fit (kind_of here.facts of) ls ≡ true) m.2
      (both (range_fits (kind_of here.facts of) at low.value high.value range.value range.is
      (one_label calls preserved (label_by a low.value low.is) read.0.0 here knows s t)
      (one_label calls preserved (label_by b high.value high.is) read.0.1 here knows s t))
      (labels_typed env of (before ++ range.value ∷ []) rest m.0 m.1 read.1 here knows s t))
  labels_typed env of before (part a rest) ls h read here knows s t =
      let l = then_is (label_from env.facts of (typed env nothing 0 a)) (behind_label env of before (place_of (bare a)) rest) ls h in
      let m = one_more env of before (place_of (bare a)) l.value rest ls l.next in
      subst (λ ls. labels_fit (kind_of here.facts of) ls ≡ true) m.2
      (both (one_label calls preserved (label_by a l.value l.is) read.0 here knows s t)
      (labels_typed env of (before ++ l.value ∷ []) rest m.0 m.1 read.1 here knows s t))

  pub labels_some : (env : Env) (of : Ty) (before : List Label) (tests : Parts) (ls : List Label) → labels env of before tests ≡ Ok ls
      → has_part tests ≡ true → has_label ls ≡ true
  labels_some env of before no_parts ls h p = never p
  labels_some env of before (part (term.range at a b) rest) ls h p =
      let low = then_is (label_from env.facts of (typed env nothing 0 a)) _ ls h in
      let high = then_is (label_from env.facts of (typed env nothing 0 b)) _ ls low.next in
      let range = then_is (range_of at low.value high.value) _ ls high.next in
      ap has_label (sym (one_more env of before at range.value rest ls range.next).2)
  labels_some env of before (part a rest) ls h p =
      let l = then_is (label_from env.facts of (typed env nothing 0 a)) (behind_label env of before (place_of (bare a)) rest) ls h in
      ap has_label (sym (one_more env of before (place_of (bare a)) l.value rest ls l.next).2)

-- all labels of the branches
nothing_behind : (xs : List Label) → xs ≡ xs ++ []
nothing_behind [] = refl
nothing_behind (x ∷ xs) = ap (λ xs. x ∷ xs) (nothing_behind xs)

pub arms_labels : {a : Around} {of : Ty} {before : List Label} {st : State} {all : Trees} {b : Armed} → AreArms a of before st all b
    → b.labels ≡ before ++ joined b.rows
arms_labels {before = before} R.s_no_arms = nothing_behind before
arms_labels {before = before} (R.s_arms {ls = ls} {more = more} l h rest) = arms_labels rest ∙ append_assoc before ls (joined more.rows)

pub all_covered : EnoughComputed → (facts : Facts) (at : Place) (of : Ty) (ls : List Label) → covered facts at of ls empty ≡ Ok tt → AreEnough facts of None ls
all_covered law facts at of ls h = by_test (is_enough facts of None ls) refl h
  where
    by_test : (b : Bool) → is_enough facts of None ls ≡ b → ◌≡◌ {A = Answer (Unit {0})} (cover_by b at) (Ok tt) → AreEnough facts of None ls
    by_test true e h = (law facts of None ls).1 e
    by_test false e h = cc

-- ---- blocks of branches

pub else_of : (all : List Stmts) (o : Stmts) → has_else (blocks_of all o) ≡ not (is_empty o)
else_of [] o = refl
else_of (b ∷ all) o = else_of all o

-- ---- constants

module _ (calls : CallsComputed) (preserved : Preserved) (closed : Closed) (closed_one : ClosedOne) where
  entries_fit : (here : Here) (of : Ty) (l : Literal) (names : List TreeName) → is_constant here.facts of l ≡ true → Sound here.facts of
      → EntriesFit here (constant_entries of l names)
  entries_fit here of l [] c s = tt
  entries_fit here of l (d ∷ names) c s = ((c, s), entries_fit here of l names c s)

  record IsFixed (facts : Facts) (v : Valued) (c : Fixed) : Type 0 where
    of : v.of ≡ c.of
    comes : value_in facts v.expr ≡ comes_to c.literal

  fixed_is : (env : Env) (v : Valued) (c : Fixed) → fixed_value env v ≡ Ok c → IsFixed env.facts v c
  fixed_is env v c h = by_value (value_in env.facts v.expr) refl h
    where
      by_value : (x : Evaluated Literal) → value_in env.facts v.expr ≡ x
          → and_then (if_comes (place_in v.expr) x) (λ l. Ok (record { of = v.of; literal = l })) ≡ Ok c → IsFixed env.facts v c
      by_value (comes_to l) e h =
          let s = ok_one h in record { of = ap (λ (c : Fixed). c.of) s; comes = e ∙ ap (λ (c : Fixed). comes_to c.literal) s }
      by_value traps e h = cc
      by_value varies e h = cc

  constant_right : {st x : State} {ty : Option Ty} {names : List TreeName} {t : Option Term} → IsConstantOf st ty names t x → IfRead t → (here : Here)
      → At here st → IfSound here.facts ty → IfSound st.env.facts ty → At here x
  constant_right {st} {ty = ty} {names = names} (R.d_constant {v = v} {c = c} h f) read here at s own_s =
      let there = with_facts here st.env.facts in
      let r = defined_right calls preserved closed closed_one h read here at.knows s in
      let q = defined_right calls preserved closed closed_one h read there (own calls preserved closed closed_one here st.env at.knows) own_s in
      let is = fixed_is st.env v.given c f in
      let k : is_constant st.env.facts v.given.of c.literal ≡ true =
      preserved there at.knows.own.sound v.given.expr v.given.of c.literal q.sound q.typed q.gives is.comes in
      let m = constant_grown st.env.facts here.facts at.knows.all.said at.knows.own.sound at.knows.all.sound closed closed_one v.given.of c.literal q.sound k in
      record {
        knows = record {
          all = record {
            sound = at.knows.all.sound;
            said = at.knows.all.said;
            entries = entries_more here st.env.entries (constant_entries c.of c.literal names) at.knows.all.entries
                (subst (λ of. EntriesFit here (constant_entries of c.literal names)) is.of (entries_fit here v.given.of c.literal names m r.sound));
          };
          own = record {
            sound = at.knows.own.sound;
            said = at.knows.own.said;
            entries = entries_more there st.env.entries (constant_entries c.of c.literal names) at.knows.own.entries
                (subst (λ of. EntriesFit there (constant_entries of c.literal names)) is.of (entries_fit there v.given.of c.literal names k q.sound));
          };
        };
        under = at.under;
      }
  constant_right R.d_no_constant read here at s own_s = at

  pub constants_right : {st x : State} {all : List Definition} → AreConstants st all x → DefinitionsRead all → (here : Here) → At here st → At here x
  constants_right R.d_none_constant read here at = at
  constants_right {st} (R.d_all_constant (R.d_constants n w h) k) read here at =
      constants_right k read.1 here
      (constant_right h read.0.1 here at (if_written_sound here st.env at.knows w)
      (if_written_sound (with_facts here st.env.facts) st.env (own calls preserved closed closed_one here st.env at.knows) w))

  pub constants_place : {st x : State} {all : List Definition} → AreConstants st all x → x.place ≡ st.place
  constants_place R.d_none_constant = refl
  constants_place (R.d_all_constant (R.d_constants n w h) k) = constants_place k ∙ one h
    where
      one : {st x : State} {ty : Option Ty} {names : List TreeName} {t : Option Term} → IsConstantOf st ty names t x → x.place ≡ st.place
      one (R.d_constant h f) = refl
      one R.d_no_constant = refl
