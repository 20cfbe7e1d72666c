-- Expressions that choose.
use Rattle.std.proofs.Common.{◌≡◌, ℕ, Bool, true, false, List, [], ◌∷◌, Option, Some, None, refl, sym, ap, subst, ◌∙◌}
use Rattle.std.proofs.lemmas.Bool.{and_parts}
use Rattle.std.specs.Prelude.{Ok}
use Rattle.arc_base.specs.declared.place.Place.{Place}
use Rattle.nim_types.specs.Types as type
use Rattle.nim_types.specs.Types.{Ty, Facts, same}
use Rattle.nim_program.specs.Program as P
use Rattle.nim_program.specs.Program.{Label, Expr, Args, NoArg, ByValue, ByPath, ByConditions, ByLabels, type_of, type_at, types_in}
use Rattle.nim_program.specs.Nodes.{one_value, followed_by, selecting}
use Rattle.nim_program.specs.Kinds.{TypeKind, kind_of, kind_if, is_bool, is_selected}
use Rattle.nim_program.specs.Fitting.{labels_fit, has_label, are_labels, are_enough, conditions_fit, values_fit, labels_choose}
use Rattle.nim_program.specs.Scopes.{Here}
use Rattle.nim_program.specs.Typed.{is_typed, are_typed, are_placed, is_read, is_located, is_whole, is_typed_path}
use Rattle.expr_rules.specs.Answers.{node, Valued}
use Rattle.expr_rules.specs.Choices as C
use Rattle.expr_rules.specs.Choices.{Branching, undecided, decided, agrees, branching_behind, if_agrees, branch_value, Chosen, Picked, gives_in, if_rule}
use Rattle.expr_rules.specs.Choices.{case_node}
use Rattle.expr_rules.specs.Choices.{case_else_rule}
use Rattle.typing_laws.specs.Knows.{IfSound}
use Rattle.typing_laws.proofs.Tests.{both, never, ok_one, the_same, value_by_same}
use Rattle.typing_laws.proofs.Right.{Right, RightValue}

-- ---- values of branches

-- what is decided is this type
abbrev pub Decided : Branching → Option Ty → Type 0
Decided (undecided want) ty = Unit {0}
Decided (decided want t) ty = t ≡ ty

equal_values : (s t : Option Ty) → C.same_value s t ≡ true → s ≡ t
equal_values None None h = refl
equal_values (Some s) (Some t) h = ap (λ t. Some t) (the_same h)
equal_values None (Some t) h = never h
equal_values (Some s) None h = never h

-- the value itself, of the type that is decided
pub branch_is : (b : Branching) (x e : Expr) → branch_value b x ≡ Ok e → (e ≡ x) × Decided b (type_of e)
branch_is b x e h = by_test (agrees b (type_of x)) refl h
  where
    by_branching : (b : Branching) → agrees b (type_of x) ≡ true → Decided b (type_of x)
    by_branching (undecided want) h = tt
    by_branching (decided want t) h = equal_values t (type_of x) h

    by_test : (c : Bool) → agrees b (type_of x) ≡ c → if_agrees c x ≡ Ok e → (e ≡ x) × Decided b (type_of e)
    by_test true f h = let s = ok_one h in (sym s, subst (λ y. Decided b (type_of y)) s (by_branching b f))
    by_test false f h = cc

-- behind a branch
pub decided_before : (b : Branching) (t ty : Option Ty) → Decided b t → Decided (branching_behind b t) ty → (t ≡ ty) × Decided b ty
decided_before (undecided want) t ty h e = (e, tt)
decided_before (decided want s) t ty h e = (sym h ∙ e, e)

-- ---- `if`

-- what stands before other parts that are right makes them right
pub record Before (here : Here) (ty : Option Ty) (parts : Args) : Type 0 where
  pub fit : (rest : Args) → conditions_fit here.facts ty (types_in rest) ≡ true → conditions_fit here.facts ty (types_in (followed_by parts rest)) ≡ true
  pub typed : (rest : Args) → are_typed here rest ≡ true → are_typed here (followed_by parts rest) ≡ true
  pub placed : (rest : Args) → are_placed 0 rest ≡ true → are_placed 0 (followed_by parts rest) ≡ true

pub none_before : (here : Here) (ty : Option Ty) → Before here ty NoArg
none_before here ty = record { fit = λ rest h. h; typed = λ rest h. h; placed = λ rest h. h }

pub one_before : (here : Here) (ty : Option Ty) (c : Valued) (e : Expr) (parts : Args) → RightValue here c → c.of ≡ type.bool → Right here e → type_of e ≡ ty
    → Before here ty parts → Before here ty (ByValue c.expr (ByValue e parts))
one_before here ty c e parts h b r t before =
    record {
      fit = λ rest f.
          both (both (subst (λ a. is_bool (kind_if here.facts a) ≡ true) (sym h.gives) (ap (λ t. is_bool (kind_of here.facts t)) b))
          (value_by_same (type_of e) ty t)) (before.fit rest f);
      typed = λ rest f. both h.typed (both r.typed (before.typed rest f));
      placed = λ rest f. before.placed rest f;
    }

pub if_right : (here : Here) (n : ℕ) (at : Place) (c : Chosen) (e : Expr) → Before here (type_of e) c.parts → Right here e → Right here (if_rule n at c e)
if_right here n at c e before r =
    record {
      typed = both (both (before.fit (one_value e) (value_by_same (type_of e) (type_of e) refl)) (before.placed (one_value e) refl))
          (before.typed (one_value e) (both r.typed refl));
      sound = r.sound;
    }

-- ---- `case`

-- the branches before others
pub record Picks (here : Here) (k : TypeKind) (ty : Option Ty) (rows : List (List Label)) (parts : Args) : Type 0 where
  pub labels : are_labels k rows ≡ true
  pub fit : (enough : Bool) (rest : Args) → values_fit here.facts ty enough [] (types_in rest) ≡ true
      → values_fit here.facts ty enough rows (types_in (followed_by parts rest)) ≡ true
  pub typed : (rest : Args) → are_typed here rest ≡ true → are_typed here (followed_by parts rest) ≡ true
  pub placed : (rest : Args) → are_placed 0 rest ≡ true → are_placed 0 (followed_by parts rest) ≡ true

pub no_picks : (here : Here) (k : TypeKind) (ty : Option Ty) → Picks here k ty [] NoArg
no_picks here k ty = record { labels = refl; fit = λ enough rest h. h; typed = λ rest h. h; placed = λ rest h. h }

pub one_pick : (here : Here) (k : TypeKind) (ty : Option Ty) (labels : List Label) (rows : List (List Label)) (e : Expr) (parts : Args)
    → has_label labels ≡ true → labels_fit k labels ≡ true → Right here e → type_of e ≡ ty → Picks here k ty rows parts
    → Picks here k ty (labels ∷ rows) (ByValue e parts)
one_pick here k ty labels rows e parts some fit r t picks =
    record {
      labels = both (both some fit) picks.labels;
      fit = λ enough rest f. both (value_by_same (type_of e) ty t) (picks.fit enough rest f);
      typed = λ rest f. both r.typed (picks.typed rest f);
      placed = λ rest f. picks.placed rest f;
    }

none_behind : (here : Here) (k : TypeKind) (ty : Option Ty) (rows : List (List Label)) (parts : Args) → Picks here k ty rows parts
    → followed_by parts NoArg ≡ parts → (are_typed here parts ≡ true) × (are_placed 0 parts ≡ true)
none_behind here k ty rows parts picks e =
    (subst (λ p. are_typed here p ≡ true) e (picks.typed NoArg refl), subst (λ p. are_placed 0 p ≡ true) e (picks.placed NoArg refl))

pub nothing_behind : (parts : Args) → followed_by parts NoArg ≡ parts
nothing_behind NoArg = refl
nothing_behind (ByValue e rest) = ap (ByValue e) (nothing_behind rest)
nothing_behind (ByPath path rest) = ap (ByPath path) (nothing_behind rest)

-- a selector before the values
pub selected : (here : Here) (n : ℕ) (at : Place) (v : Valued) (ty : Option Ty) (rows : List (List Label)) (parts : Args) → RightValue here v
    → is_selected (kind_of here.facts v.of) ≡ true → are_labels (kind_of here.facts v.of) rows ≡ true
    → values_fit here.facts ty (are_enough (kind_of here.facts v.of) ty rows) rows (types_in parts) ≡ true → are_typed here parts ≡ true
    → are_placed 0 parts ≡ true → IfSound here.facts ty → Right here (P.Choose (node n at) ty (ByLabels rows) (selecting v.expr parts))
selected here n at v ty rows parts h s l f t p sound = by_selector v.expr h.typed h.gives
  where
    chosen : (o : Option Ty) → o ≡ Some v.of → labels_choose here.facts ty (kind_if here.facts o) rows (types_in parts) ≡ true
    chosen o e = subst (λ o. labels_choose here.facts ty (kind_if here.facts o) rows (types_in parts) ≡ true) (sym e) (both (both s l) f)

    by_selector : (e : Expr) → is_typed here e ≡ true → type_of e ≡ Some v.of → Right here (P.Choose (node n at) ty (ByLabels rows) (selecting e parts))
    by_selector (P.Read path) g e =
        let q = and_parts (is_read here.facts path) (is_typed_path here path) g in
        let r = and_parts (is_located path) (is_whole here.facts path) q.0 in
        record { typed = both (both (chosen (type_at path) e) (both r.0 p)) (both (both r.1 q.1) t); sound = sound }
    by_selector (P.Apply k t' act operands) g e = record { typed = both (both (chosen t' e) p) (both g t); sound = sound }
    by_selector (P.Early k t' short a b) g e = record { typed = both (both (chosen (Some t') e) p) (both g t); sound = sound }
    by_selector (P.Choose k t' chooser more) g e = record { typed = both (both (chosen t' e) p) (both g t); sound = sound }

pub case_right : (here : Here) (n : ℕ) (at : Place) (v : Valued) (p : Picked) → RightValue here v → is_selected (kind_of here.facts v.of) ≡ true
    → Picks here (kind_of here.facts v.of) (gives_in p.values) p.rows p.parts → are_enough (kind_of here.facts v.of) (gives_in p.values) p.rows ≡ true
    → IfSound here.facts (gives_in p.values) → Right here (case_node n at v p)
case_right here n at v p h s picks enough sound =
    let b = none_behind here (kind_of here.facts v.of) (gives_in p.values) p.rows p.parts picks (nothing_behind p.parts) in
    let f = picks.fit (are_enough (kind_of here.facts v.of) (gives_in p.values) p.rows) NoArg enough in
    selected here n at v (gives_in p.values) p.rows p.parts h s picks.labels
    (subst (λ q. values_fit here.facts (gives_in p.values) (are_enough (kind_of here.facts v.of) (gives_in p.values) p.rows) p.rows (types_in q) ≡ true)
    (nothing_behind p.parts) f) b.0 b.1 sound

pub case_else_right : (here : Here) (n : ℕ) (at : Place) (v : Valued) (p : Picked) (e : Expr) → RightValue here v
    → is_selected (kind_of here.facts v.of) ≡ true → Picks here (kind_of here.facts v.of) (type_of e) p.rows p.parts → Right here e
    → Right here (case_else_rule n at v p e)
case_else_right here n at v p e h s picks r =
    selected here n at v (type_of e) p.rows (followed_by p.parts (one_value e)) h s picks.labels
    (picks.fit (are_enough (kind_of here.facts v.of) (type_of e) p.rows) (one_value e) (value_by_same (type_of e) (type_of e) refl))
    (picks.typed (one_value e) (both r.typed refl)) (picks.placed (one_value e) refl) r.sound
