-- Lists of parts one after another: what is said of a list behind what is done is what is said of its first part, and then of the rest.
use Rattle.std.proofs.Common.{◌≡◌, ℕ, List, [], ◌∷◌, ◌++◌, refl, sym, ap, ◌∙◌, append_assoc, append-nil}
use Rattle.std.specs.Prelude.{Ok, Err}
use Rattle.arc_base.specs.declared.place.Place.{Place}
use Rattle.arc_base.specs.Refusal.{and_then}
use Rattle.nim_tree.specs.Terms as term
use Rattle.nim_tree.specs.Terms.{Term, Parts, no_parts, part, Choices, no_choices, choice}
use Rattle.nim_types.specs.Types as type
use Rattle.nim_types.specs.Types.{Ty, Facts}
use Rattle.nim_program.specs.Nodes.{followed_by, one_value, two_values}
use Rattle.nim_program.specs.Program.{Expr, Label, Args, NoArg, ByValue, ByPath, type_of}
use Rattle.expr_rules.specs.Env.{Env}
use Rattle.expr_rules.specs.Answers.{Answer, Typed, Valued, Operand}
use Rattle.expr_rules.specs.Choices.{Chosen, Picked, Branching, branch_want, branching_behind, branch_value, new_label, range_of}
use Rattle.expr_rules.specs.Demands.{Asks, Demand, asks_behind, demand_behind, exactly}
use Rattle.expr_rules.specs.Typed.{Value, Part, typed, values, value_by, operands, conditions, picks, labels, label_from, read_type}
use Rattle.expr_rules.specs.Typed.{read_types}
use Rattle.expr_steps.specs.ViewChoices.{Tests, next_condition, next_pick, next_test, test_place, rows_in}
use Rattle.check_exprs.specs.ViewTyped.{value_said, values_onto, values_said, operand_said, operands_onto, operands_said, types_said}
use Rattle.check_exprs.specs.ViewTyped.{condition_said, conditions_onto, conditions_said, pick_said, picks_behind, picks_said}
use Rattle.check_exprs.specs.ViewTyped.{labels_said, one_label_said, label_said}

-- ---- what is answered, and what follows

-- what is answered, as it is
keeps : {A : Type 0} (f : A → A) → ((x : A) → f x ≡ x) → (r : Answer A) → and_then r (λ x. Ok (f x)) ≡ r
keeps f e (Ok x) = ap Ok (e x)
keeps f e (Err s) = refl

-- changed twice
folds : {A B C : Type 0} (f : A → B) (h : B → C) (k : A → C) → ((x : A) → h (f x) ≡ k x) → (r : Answer A)
    → and_then (and_then r (λ x. Ok (f x))) (λ y. Ok (h y)) ≡ and_then r (λ x. Ok (k x))
folds f h k e (Ok x) = ap Ok (e x)
folds f h k e (Err s) = refl

pub opened : {A B C : Type 0} (f : A → B) (go : B → Answer C) (r : Answer A) → and_then (and_then r (λ x. Ok (f x))) go ≡ and_then r (λ x. go (f x))
opened f go (Ok x) = refl
opened f go (Err s) = refl

pub nested : {A B C : Type 0} (f : A → Answer B) (go : B → Answer C) (r : Answer A) → and_then (and_then r f) go ≡ and_then r (λ x. and_then (f x) go)
nested f go (Ok x) = refl
nested f go (Err s) = refl

-- the same behind each answer
alike : {A B : Type 0} (f g : A → Answer B) → ((x : A) → f x ≡ g x) → (r : Answer A) → and_then r f ≡ and_then r g
alike f g e (Ok x) = e x
alike f g e (Err s) = refl

-- one call of both
lifts : {A B C D : Type 0} (f : A → Answer B) (k : B → Answer D) (g : A → Answer C) (l : C → Answer D)
    → ((x : A) → and_then (f x) k ≡ and_then (g x) l) → (r : Answer A) → and_then (and_then r f) k ≡ and_then (and_then r g) l
lifts f k g l e (Ok x) = e x
lifts f k g l e (Err s) = refl

-- a first part, and what the others give before or behind it
one_first : {A B C : Type 0} (more : B → Answer A) (one : B → A → A) (h : A → C) (k : B → A → C) → ((b : B) (a : A) → h (one b a) ≡ k b a)
    → (r : Answer B)
    → and_then (and_then r (λ b. and_then (more b) (λ a. Ok (one b a)))) (λ a. Ok (h a)) ≡ and_then r (λ b. and_then (more b) (λ a. Ok (k b a)))
one_first more one h k e (Ok b) = folds (one b) h (k b) (e b) (more b)
one_first more one h k e (Err s) = refl

one_last : {A B C D : Type 0} (more : B → Answer A) (one : B → A → A) (h : A → D) (made : B → C) (k : C → A → D) (rest : C → Answer A)
    → ((b : B) → more b ≡ rest (made b)) → ((b : B) (a : A) → h (one b a) ≡ k (made b) a) → (r : Answer B)
    → and_then (and_then r (λ b. and_then (more b) (λ a. Ok (one b a)))) (λ a. Ok (h a))
    ≡ and_then (and_then r (λ b. Ok (made b))) (λ c. and_then (rest c) (λ a. Ok (k c a)))
one_last more one h made k rest m e (Ok b) =
    folds (one b) h (k (made b)) (e b) (more b) ∙ ap (λ z. and_then z (λ a. Ok (k (made b) a))) (m b)
one_last more one h made k rest m e (Err s) = refl

behind_one : {A : Type 0} (xs : List A) (x : A) (ys : List A) → xs ++ x ∷ ys ≡ (xs ++ x ∷ []) ++ ys
behind_one xs x ys = sym (append_assoc xs (x ∷ []) ys)

-- ---- values and operands

-- a value by what stands for it
pub value_then : (env : Env) (g : Asks) (a : Term) (r : Answer Typed) → value_by env g a r ≡ and_then r (λ x. value_by env g a (Ok x))
value_then env g a (Ok x) = refl
value_then env g a (Err s) = refl

pub values_first : (env : Env) (g : Asks) (n : ℕ) (ps : Parts) → values env g n ps ≡ values_said env g n [] ps
values_first env g n ps = sym (keeps (values_onto []) (λ vs. refl) (values env g n ps))

pub values_next : (env : Env) (g : Asks) (n : ℕ) (before : List Valued) (a : Term) (rest : Parts)
    → values_said env g n before (part a rest)
    ≡ and_then (value_said env g n a) (λ v. values_said env (asks_behind g v.given.of) v.next (before ++ v.given ∷ []) rest)
values_next env g n before a rest =
    one_first (λ (v : Value). values env (asks_behind g v.given.of) v.next rest) (λ v vs. record { all = v.given ∷ vs.all; next = vs.next })
    (values_onto before) (λ v vs. values_onto (before ++ v.given ∷ []) vs)
    (λ v vs. λ i. record { all = behind_one before v.given vs.all i; next = vs.next }) (value_said env g n a)

pub values_last : (env : Env) (g : Asks) (n : ℕ) (before : List Valued)
    → values_said env g n before no_parts ≡ Ok (record { all = before; next = n })
values_last env g n before = λ i. Ok (record { all = append-nil before i; next = n })

pub operands_first : (env : Env) (d : Demand) (n : ℕ) (ps : Parts) → operands env d n ps ≡ operands_said env d n [] ps
operands_first env d n ps = sym (keeps (operands_onto []) (λ os. refl) (operands env d n ps))

pub operands_next : (env : Env) (d : Demand) (n : ℕ) (before : List Operand) (a : Term) (rest : Parts)
    → operands_said env d n before (part a rest)
    ≡ and_then (operand_said env d n a) (λ o. operands_said env (demand_behind d) o.next (before ++ o.operand ∷ []) rest)
operands_next env d n before a rest =
    one_first (λ (o : Part). operands env (demand_behind d) o.next rest) (λ o os. record { operands = o.operand ∷ os.operands; next = os.next })
    (operands_onto before) (λ o os. operands_onto (before ++ o.operand ∷ []) os)
    (λ o os. λ i. record { operands = behind_one before o.operand os.operands i; next = os.next }) (operand_said env d n a)

pub operands_last : (env : Env) (d : Demand) (n : ℕ) (before : List Operand)
    → operands_said env d n before no_parts ≡ Ok (record { operands = before; next = n })
operands_last env d n before = λ i. Ok (record { operands = append-nil before i; next = n })

-- ---- types

pub types_first : (env : Env) (ps : Parts) → read_types env ps ≡ types_said env [] ps
types_first env ps = sym (keeps (λ us. us) (λ us. refl) (read_types env ps))

pub types_next : (env : Env) (before : List Ty) (a : Term) (rest : Parts)
    → types_said env before (part a rest) ≡ and_then (read_type env a) (λ t. types_said env (before ++ t ∷ []) rest)
types_next env before a rest =
    one_first (λ (t : Ty). read_types env rest) (λ t us. t ∷ us) (λ us. before ++ us) (λ t us. (before ++ t ∷ []) ++ us)
    (λ t us. behind_one before t us) (read_type env a)

pub types_last : (env : Env) (before : List Ty) → types_said env before no_parts ≡ Ok before
types_last env before = ap Ok (append-nil before)

-- ---- branches of an `if`

parts_behind : (xs ys zs : Args) → followed_by xs (followed_by ys zs) ≡ followed_by (followed_by xs ys) zs
parts_behind NoArg ys zs = refl
parts_behind (ByValue e xs) ys zs = ap (ByValue e) (parts_behind xs ys zs)
parts_behind (ByPath p xs) ys zs = ap (ByPath p) (parts_behind xs ys zs)

parts_whole : (xs : Args) → followed_by xs NoArg ≡ xs
parts_whole NoArg = refl
parts_whole (ByValue e xs) = ap (ByValue e) (parts_whole xs)
parts_whole (ByPath p xs) = ap (ByPath p) (parts_whole xs)

pub conditions_first : (env : Env) (values : Branching) (n : ℕ) (cs : Choices)
    → conditions env values n cs ≡ conditions_said env (record { parts = NoArg; values = values; next = n }) cs
conditions_first env values n cs =
    sym (keeps (conditions_onto (record { parts = NoArg; values = values; next = n })) (λ d. refl) (conditions env values n cs))

pub conditions_next : (env : Env) (c : Chosen) (at : Place) (tests : Parts) (a : Term) (rest : Choices)
    → conditions_said env c (choice at tests a rest) ≡ and_then (condition_said env c at tests a) (λ d. conditions_said env d rest)
conditions_next env c at no_parts a rest = refl
conditions_next env c at (part t (part u more)) a rest = refl
conditions_next env c at (part t no_parts) a rest =
    lifts {B = Chosen} {C = Chosen} {D = Chosen} (λ (v : Value). and_then (typed env (branch_want c.values) v.next a)
    (λ x. and_then (branch_value c.values x.expr) (λ e.
    and_then (conditions env (branching_behind c.values (type_of e)) x.next rest) (λ more.
    Ok (record { parts = ByValue v.given.expr (ByValue e more.parts); values = more.values; next = more.next })))))
    (λ d. Ok (conditions_onto c d)) (λ (v : Value). and_then (typed env (branch_want c.values) v.next a) (λ x. next_condition c v x))
    (λ d. conditions_said env d rest)
    (λ v. lifts {B = Chosen} {C = Chosen} {D = Chosen} (λ (x : Typed). and_then (branch_value c.values x.expr) (λ e.
    and_then (conditions env (branching_behind c.values (type_of e)) x.next rest) (λ more.
    Ok (record { parts = ByValue v.given.expr (ByValue e more.parts); values = more.values; next = more.next }))))
    (λ d. Ok (conditions_onto c d)) (λ x. next_condition c v x) (λ d. conditions_said env d rest)
    (λ x. one_last {A = Chosen} {C = Chosen} {D = Chosen} (λ (e : Expr). conditions env (branching_behind c.values (type_of e)) x.next rest)
    (λ e more. record { parts = ByValue v.given.expr (ByValue e more.parts); values = more.values; next = more.next }) (conditions_onto c)
    (λ e. record { parts = followed_by c.parts (two_values v.given.expr e); values = branching_behind c.values (type_of e); next = x.next })
    conditions_onto (λ d. conditions env d.values d.next rest) (λ e. refl)
    (λ e more. λ i. record { parts = parts_behind c.parts (two_values v.given.expr e) more.parts i; values = more.values; next = more.next })
    (branch_value c.values x.expr)) (typed env (branch_want c.values) v.next a)) (value_said env (exactly type.bool) c.next t)

pub conditions_last : (env : Env) (c : Chosen) → conditions_said env c no_choices ≡ Ok c
conditions_last env c = λ i. Ok (record { parts = parts_whole c.parts i; values = c.values; next = c.next })

-- ---- branches of a `case`

pub picks_first : (env : Env) (ty : Ty) (values : Branching) (n : ℕ) (cs : Choices)
    → picks env ty [] values n cs ≡ picks_said env ty (record { rows = []; labels = []; parts = NoArg; values = values; next = n }) cs
picks_first env ty values n cs =
    sym (keeps (picks_behind (record { rows = []; labels = []; parts = NoArg; values = values; next = n })) (λ q. refl) (picks env ty [] values n cs))

pub picks_next : (env : Env) (ty : Ty) (p : Picked) (at : Place) (tests : Parts) (a : Term) (rest : Choices)
    → picks_said env ty p (choice at tests a rest) ≡ and_then (pick_said env ty p tests a) (λ q. picks_said env ty q rest)
picks_next env ty p at tests a rest =
    lifts {B = Picked} {C = Picked} {D = Picked} (λ (ls : List Label). and_then (typed env (branch_want p.values) p.next a)
    (λ x. and_then (branch_value p.values x.expr) (λ e.
    and_then (picks env ty (p.labels ++ ls) (branching_behind p.values (type_of e)) x.next rest) (λ more.
    Ok (record { rows = ls ∷ more.rows; labels = more.labels; parts = ByValue e more.parts; values = more.values; next = more.next })))))
    (λ q. Ok (picks_behind p q))
    (λ ls. and_then (typed env (branch_want p.values) p.next a) (λ x. next_pick (rows_in p) p.values (record { own = ls; all = p.labels ++ ls }) x))
    (λ q. picks_said env ty q rest)
    (λ ls. lifts {B = Picked} {C = Picked} {D = Picked} (λ (x : Typed). and_then (branch_value p.values x.expr) (λ e.
    and_then (picks env ty (p.labels ++ ls) (branching_behind p.values (type_of e)) x.next rest) (λ more.
    Ok (record { rows = ls ∷ more.rows; labels = more.labels; parts = ByValue e more.parts; values = more.values; next = more.next }))))
    (λ q. Ok (picks_behind p q)) (λ x. next_pick (rows_in p) p.values (record { own = ls; all = p.labels ++ ls }) x) (λ q. picks_said env ty q rest)
    (λ x. one_last {A = Picked} {C = Picked} {D = Picked} (λ (e : Expr). picks env ty (p.labels ++ ls) (branching_behind p.values (type_of e)) x.next rest)
    (λ e more. record { rows = ls ∷ more.rows; labels = more.labels; parts = ByValue e more.parts; values = more.values; next = more.next }) (picks_behind p)
    (λ e. record {
      rows = p.rows ++ ls ∷ [];
      labels = p.labels ++ ls;
      parts = followed_by p.parts (one_value e);
      values = branching_behind p.values (type_of e);
      next = x.next;
    })
    picks_behind (λ q. picks env ty q.labels q.values q.next rest) (λ e. refl)
    (λ e more. λ i. record {
      rows = behind_one p.rows ls more.rows i;
      labels = more.labels;
      parts = parts_behind p.parts (one_value e) more.parts i;
      values = more.values;
      next = more.next;
    })
    (branch_value p.values x.expr)) (typed env (branch_want p.values) p.next a)) (labels env ty p.labels tests)
    ∙ ap (λ z. and_then z (λ q. picks_said env ty q rest))
    (sym (opened {B = Tests} (λ ls. record { own = [] ++ ls; all = p.labels ++ ls })
    (λ (t : Tests). and_then (typed env (branch_want p.values) p.next a) (λ x. next_pick (rows_in p) p.values t x)) (labels env ty p.labels tests)))

pub picks_last : (env : Env) (ty : Ty) (p : Picked) → picks_said env ty p no_choices ≡ Ok p
picks_last env ty p = λ i. Ok (record { rows = append-nil p.rows i; labels = p.labels; parts = parts_whole p.parts i; values = p.values; next = p.next })

-- ---- labels

-- a label by what stands for it
pub label_by_typed : (facts : Facts) (ty : Ty) (r : Answer Typed) → label_from facts ty r ≡ and_then r (λ x. label_from facts ty (Ok x))
label_by_typed facts ty (Ok x) = refl
label_by_typed facts ty (Err s) = refl

abbrev label_then : Env → Ty → List Label → Parts → Place → Label → Answer (List Label)
label_then env ty before rest at l =
    and_then (new_label at before l) (λ l. and_then (labels env ty (before ++ l ∷ []) rest) (λ more. Ok (l ∷ more)))

-- by its range or by itself
label_front : (env : Env) (ty : Ty) (before : List Label) (a : Term) (rest : Parts)
    → labels env ty before (part a rest) ≡ and_then (label_said env ty a) (label_then env ty before rest (test_place a))
label_front env ty before (term.range at a b) rest =
    let low = λ (k : Label). and_then (one_label_said env ty b) (λ high. and_then (range_of at k high) (label_then env ty before rest at)) in
    alike low (λ k. and_then (and_then (one_label_said env ty b) (λ high. range_of at k high)) (label_then env ty before rest at))
    (λ k. sym (nested (λ high. range_of at k high) (label_then env ty before rest at) (one_label_said env ty b))) (one_label_said env ty a)
    ∙ sym (nested (λ k. and_then (one_label_said env ty b) (λ high. range_of at k high)) (label_then env ty before rest at) (one_label_said env ty a))
label_front env ty before (term.int at z) rest = refl
label_front env ty before (term.char at z) rest = refl
label_front env ty before (term.text at z) rest = refl
label_front env ty before (term.name at z) rest = refl
label_front env ty before (term.quoted at z) rest = refl
label_front env ty before (term.nil at) rest = refl
label_front env ty before (term.paren at a) rest = refl
label_front env ty before (term.tuple at ps) rest = refl
label_front env ty before (term.array at ps) rest = refl
label_front env ty before (term.sequence at ps) rest = refl
label_front env ty before (term.construct at x ps) rest = refl
label_front env ty before (term.named at x a) rest = refl
label_front env ty before (term.field at a x) rest = refl
label_front env ty before (term.call at a ps) rest = refl
label_front env ty before (term.index at a ps) rest = refl
label_front env ty before (term.unary at op a) rest = refl
label_front env ty before (term.binary at op a b) rest = refl
label_front env ty before (term.if_term at cs a) rest = refl
label_front env ty before (term.case_term at a cs) rest = refl
label_front env ty before (term.case_else at a cs b) rest = refl

pub labels_next : (env : Env) (ty : Ty) (t : Tests) (a : Term) (rest : Parts)
    → labels_said env ty t (part a rest) ≡ and_then (label_said env ty a) (λ l. and_then (next_test t (test_place a) l) (λ u. labels_said env ty u rest))
labels_next env ty t a rest =
    let onto : List Label → Tests = λ ls. record { own = t.own ++ ls; all = t.all ++ ls } in
    ap (λ z. and_then z (λ ls. Ok (onto ls))) (label_front env ty t.all a rest)
    ∙ nested (label_then env ty t.all rest (test_place a)) (λ ls. Ok (onto ls)) (label_said env ty a)
    ∙ alike (λ l. and_then (label_then env ty t.all rest (test_place a) l) (λ ls. Ok (onto ls)))
    (λ l. and_then (next_test t (test_place a) l) (λ u. labels_said env ty u rest))
    (λ l. one_last {C = Tests} {D = Tests} (λ (k : Label). labels env ty (t.all ++ k ∷ []) rest) (λ k more. k ∷ more) onto
    (λ k. record { own = t.own ++ k ∷ []; all = t.all ++ k ∷ [] }) (λ u ls. record { own = u.own ++ ls; all = u.all ++ ls })
    (λ u. labels env ty u.all rest) (λ k. refl)
    (λ k more. λ i. record { own = behind_one t.own k more i; all = behind_one t.all k more i }) (new_label (test_place a) t.all l)) (label_said env ty a)

pub labels_last : (env : Env) (ty : Ty) (t : Tests) → labels_said env ty t no_parts ≡ Ok t
labels_last env ty t = λ i. Ok (record { own = append-nil t.own i; all = append-nil t.all i })

all_behind : (t : Tests) (before : List Label) (r : Answer Label) (u : Tests)
    → and_then r (λ k. Ok (record { own = t.own ++ k ∷ []; all = t.all ++ k ∷ [] })) ≡ Ok u → t.all ≡ before ++ t.own → u.all ≡ before ++ u.own
all_behind t before (Ok k) u e h =
    let is : record { own = t.own ++ k ∷ []; all = t.all ++ k ∷ [] } ≡ u = cc e in
    ap (λ v. v.all) (sym is) ∙ ap (λ xs. xs ++ k ∷ []) h ∙ append_assoc before t.own (k ∷ []) ∙ ap (λ v. before ++ v.own) is
all_behind t before (Err s) u e h = cc e

-- all of them are those of before and the branch's own
pub next_all : (t : Tests) (before : List Label) (at : Place) (l : Label) (u : Tests) → next_test t at l ≡ Ok u → t.all ≡ before ++ t.own → u.all
    ≡ before ++ u.own
next_all t before at l u e h = all_behind t before (new_label at t.all l) u e h
