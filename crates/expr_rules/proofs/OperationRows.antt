-- Names, and the operations of the table, are computed as they are said.
use Rattle.std.proofs.Common.{◌≡◌, ℕ, Bool, true, false, List, [], ◌∷◌, refl, sym, ap, subst, ◌∙◌}
use Rattle.std.specs.Prelude.{Option, Some, None, Ok, if◌then◌else◌}
use Rattle.arc_base.specs.declared.place.Place.{Place}
use Rattle.arc_base.specs.declared.place.Code.{Code}
use Rattle.arc_base.specs.declared.place.Code.TheVariants.{UnknownName, NotTyped, NotAssignable}
use Rattle.arc_base.specs.Refusal.{refused, and_then, IsRefusal}
use Rattle.nim_types.specs.Types.{Ty, same}
use Rattle.nim_program.specs.declared.expr.Node.{Node}
use Rattle.nim_program.specs.Program.{Expr, Apply, Doing, NoArg}
use Rattle.nim_program.specs.Nodes.{path_and_value, acting}
use Rattle.expr_rules.specs.Env as env_of
use Rattle.expr_rules.specs.Env.{Env, Known, callable, known_as, Parameter, Procedure}
use Rattle.expr_rules.specs.Answers.{Valued, Operand, value, open_sequence, a_type, the_input, settled, only_if, place_in, node, no_fit}
use Rattle.expr_rules.specs.Paths.{path_of}
use Rattle.expr_rules.specs.Builtins.{written_by, handed, BuiltIn, on_nothing, on_one, on_place_and_value, on_places, on_type, on_input}
use Rattle.expr_rules.specs.Builtins.{on_input_and_place, Done, done, first_settled, settled_in, with_value, with_type, on_operands, or_later, first_row}
use Rattle.expr_rules.specs.Builtins.{write_by, write_rule, writes_rule, operation_by, operation_rule, operations_named, is_built_in}
use Rattle.expr_rules.specs.Names.{is_unknown, is_nothing, callee_rule}
use Rattle.expr_rules.specs.Overloads.{IsSettled}
use Rattle.expr_rules.specs.Meant as M
use Rattle.expr_rules.specs.Meant.{IsUnknown, no_declaration, is_open, FirstOpen, open_here, open_later, NoneOpen, no_operand, not_open, Unfit, open_left}
use Rattle.expr_rules.specs.Meant.{nothing_fits, IsSettledIn, first_type, later_type, RowFits, RowFitsNot, FirstRow, this_row, later_row, NoRow}
use Rattle.expr_rules.specs.Meant.{no_more_rows, not_this_row, AllWritable, all_written, one_written, FirstUnwritable, this_unwritable, later_unwritable}
use Rattle.expr_rules.specs.Meant.{IsConversion, ConvertsNot, Shows, built_in_dollar, visible_dollar, AllShow, show_none, show_more, ShowNot, IsBorrowed}
use Rattle.expr_rules.specs.Meant.{borrowed_comparison, borrowed_dollar, BorrowsNot, overloads, IsChosen, by_declarations, IsOperation, always, no_procedure}
use Rattle.expr_rules.specs.Meant.{IsCall, IsNoCall}
use Rattle.expr_rules.proofs.Means.{Means, m_ok, m_err, means_then, means_map, bind_ok, bind_err}
use Rattle.expr_rules.proofs.Chosen.{some_one, some_none, none_some, true_false, settled_so, settled_back}

-- ---- names that mean nothing

pub unknown_so : (env : Env) (x : List ℕ) → is_nothing env x ≡ true → IsUnknown env x
unknown_so env x e = by_built (is_built_in x) refl e
  where
    by_known : (k : Known) → known_as env x ≡ k → is_built_in x ≡ false → is_unknown k ≡ true → IsUnknown env x
    by_known env_of.unknown k b e = no_declaration b k
    by_known (env_of.a_variable place of w g) k b e = cc
    by_known (env_of.a_constant of l) k b e = cc
    by_known (env_of.a_type ty) k b e = cc
    by_known (env_of.procedures all) k b e = cc
    by_known env_of.a_pending_type k b e = cc
    by_known env_of.the_input k b e = cc

    by_built : (b : Bool) → is_built_in x ≡ b → (if b then false else is_unknown (known_as env x)) ≡ true → IsUnknown env x
    by_built true b e = cc
    by_built false b e = by_known (known_as env x) refl b e

pub unknown_back : {env : Env} {x : List ℕ} → IsUnknown env x → is_nothing env x ≡ true
unknown_back {env} {x} (no_declaration b k) = ap (λ b. if b then false else is_unknown (known_as env x)) b ∙ ap is_unknown k

pub unknown_built : {env : Env} {x : List ℕ} → IsUnknown env x → is_built_in x ≡ false
unknown_built (no_declaration b k) = b

pub unknown_known : {env : Env} {x : List ℕ} → IsUnknown env x → is_unknown (known_as env x) ≡ true
unknown_known (no_declaration b k) = ap is_unknown k

pub known_so : {env : Env} {x : List ℕ} → is_nothing env x ≡ false → IsUnknown env x → ⊥
known_so e h = true_false (unknown_back h) e

pub known_back : (env : Env) (x : List ℕ) → (IsUnknown env x → ⊥) → is_nothing env x ≡ false
known_back env x f = by_test (is_nothing env x) refl
  where
    by_test : (b : Bool) → is_nothing env x ≡ b → b ≡ false
    by_test false e = refl
    by_test true e = absurd (f (unknown_so env x e))

-- the look-up of a callee
pub callee_sound : (env : Env) (at : Place) (x : List ℕ)
    → Means (λ (u : Unit {0}). IsUnknown env x → ⊥) (λ c p. (IsUnknown env x) × (c ≡ UnknownName) × (p ≡ at)) (callee_rule env at x)
callee_sound env at x = by_test (is_nothing env x) refl
  where
    by_test : (b : Bool) → is_nothing env x ≡ b
        → Means (λ (u : Unit {0}). IsUnknown env x → ⊥) (λ c p. (IsUnknown env x) × (c ≡ UnknownName) × (p ≡ at)) (if b then refused UnknownName at else Ok tt)
    by_test true e = m_err (unknown_so env x e, refl, refl)
    by_test false e = m_ok (known_so e)

pub callee_known : (env : Env) (at : Place) (x : List ℕ) → (IsUnknown env x → ⊥) → callee_rule env at x ≡ Ok tt
callee_known env at x f = ap (λ b. if b then refused UnknownName at else Ok tt) (known_back env x f)

pub callee_unknown : {env : Env} (at : Place) {x : List ℕ} → IsUnknown env x → IsRefusal (callee_rule env at x) UnknownName at
callee_unknown at h = ap (λ b. if b then refused UnknownName at else Ok tt) (unknown_back h)

-- ---- where nothing fits

first_complete : {A : Type 0} (at : Place) {os : List Operand} {p : Place} → FirstOpen os p → IsRefusal (no_fit {A = A} at os) NotTyped p
first_complete at open_here = refl
first_complete {A} at (open_later {o = value v} e h) = first_complete {A = A} at h
first_complete {A} at (open_later {o = a_type t} e h) = first_complete {A = A} at h
first_complete {A} at (open_later {o = the_input} e h) = first_complete {A = A} at h
first_complete {A} at (open_later {o = open_sequence q n} e h) = cc

none_complete : {A : Type 0} (at : Place) {os : List Operand} → NoneOpen os → IsRefusal (no_fit {A = A} at os) NotTyped at
none_complete at no_operand = refl
none_complete {A} at (not_open {o = value v} e h) = none_complete {A = A} at h
none_complete {A} at (not_open {o = a_type t} e h) = none_complete {A = A} at h
none_complete {A} at (not_open {o = the_input} e h) = none_complete {A = A} at h
none_complete {A} at (not_open {o = open_sequence q n} e h) = cc

pub unfit_complete : {A : Type 0} {at : Place} {os : List Operand} {p : Place} → Unfit at os p → IsRefusal (no_fit {A = A} at os) NotTyped p
unfit_complete {A} {at} (open_left h) = first_complete {A = A} at h
unfit_complete {A} {at} (nothing_fits h) = none_complete {A = A} at h

-- an answer that refuses what doesn't fit
pub unfit_means : {A : Type 0} (at : Place) (os : List Operand) (P : A → Type 0) (Q : Code → Place → Type 0) → ((p : Place) → Unfit at os p → Q NotTyped p)
    → Means P Q (no_fit at os)
unfit_means {A} at os P Q f = by_open os (λ p h. f p (open_left h)) (λ h. f at (nothing_fits h))
  where
    by_open : (rest : List Operand) → ((p : Place) → FirstOpen rest p → Q NotTyped p) → (NoneOpen rest → Q NotTyped at) → Means P Q (no_fit {A = A} at rest)
    by_open [] f g = m_err (g no_operand)
    by_open (open_sequence p n ∷ rest) f g = m_err (f p open_here)
    by_open (value v ∷ rest) f g = by_open rest (λ p h. f p (open_later refl h)) (λ h. g (not_open refl h))
    by_open (a_type t ∷ rest) f g = by_open rest (λ p h. f p (open_later refl h)) (λ h. g (not_open refl h))
    by_open (the_input ∷ rest) f g = by_open rest (λ p h. f p (open_later refl h)) (λ h. g (not_open refl h))

-- ---- rows

settled_in_so : (ts : List Ty) (o : Operand) (v : Valued) → settled_in ts o ≡ Some v → IsSettledIn ts o v
settled_in_so [] o v e = none_some e
settled_in_so (t ∷ ts) o v e = by_first (settled t o) refl e (λ h. settled_in_so ts o v h)
  where
    by_first : (a : Option Valued) → settled t o ≡ a → first_settled a (settled_in ts o) ≡ Some v → (settled_in ts o ≡ Some v → IsSettledIn ts o v)
        → IsSettledIn (t ∷ ts) o v
    by_first (Some w) s e f = first_type (settled_so t o v (s ∙ e))
    by_first None s e f = later_type (λ w h. some_none (sym (settled_back h) ∙ s)) (f e)

settled_not_back : (t : Ty) (o : Operand) → ((w : Valued) → IsSettled t o w → ⊥) → settled t o ≡ None
settled_not_back t o f = by_answer (settled t o) refl
  where
    by_answer : (a : Option Valued) → settled t o ≡ a → a ≡ None
    by_answer None e = refl
    by_answer (Some v) e = absurd (f v (settled_so t o v e))

settled_in_back : {ts : List Ty} {o : Operand} {v : Valued} → IsSettledIn ts o v → settled_in ts o ≡ Some v
settled_in_back (first_type {rest = ts} {o = o} h) = ap (λ a. first_settled a (settled_in ts o)) (settled_back h)
settled_in_back (later_type {ty = t} {rest = ts} {o = o} f h) = ap (λ a. first_settled a (settled_in ts o)) (settled_not_back t o f) ∙ settled_in_back h

only_given : {A : Type 0} {b : Bool} (d : A) → b ≡ true → only_if b d ≡ Some d
only_given d e = ap (λ b. only_if b d) e

value_given : {a : Option Valued} {w : Valued} (go : Valued → Done) → a ≡ Some w → with_value a go ≡ Some (go w)
value_given go e = ap (λ a. with_value a go) e

type_given : {a : Option (Option Ty)} {ty : Option Ty} (go : Option Ty → Done) → a ≡ Some ty → with_type a go ≡ Some (go ty)
type_given go e = ap (λ a. with_type a go) e

pub row_back : {at : Node} {row : BuiltIn} {os : List Operand} {vs : List Valued} {e : Expr} → RowFits at row os vs e
    → on_operands at row os ≡ Some (done vs e)
row_back M.row_nothing = refl
row_back (M.row_one g) = type_given _ g
row_back (M.row_place_and_value h) = value_given _ (settled_in_back h)
row_back (M.row_places t) = only_given _ t
row_back (M.row_type g) = type_given _ g
row_back M.row_input = refl
row_back (M.row_input_and_place t) = only_given _ t

-- a row that is computed fits
RowSo : Node → BuiltIn → List Operand → Option Done → Type 0
RowSo at row os a = (d : Done) → a ≡ Some d → RowFits at row os d.writes d.expr

only_so : {at : Node} {row : BuiltIn} {os : List Operand} (b : Bool) (d : Done) → (b ≡ true → RowFits at row os d.writes d.expr)
    → RowSo at row os (only_if b d)
unfolding RowSo
only_so {at} {row} {os} true d f x e = subst (λ (d : Done). RowFits at row os d.writes d.expr) (some_one e) (f refl)
only_so false d f x e = none_some e

given_so : {at : Node} {row : BuiltIn} {os : List Operand} (d : Done) → RowFits at row os d.writes d.expr → RowSo at row os (Some d)
unfolding RowSo
given_so {at} {row} {os} d h x e = subst (λ (d : Done). RowFits at row os d.writes d.expr) (some_one e) h

none_given : (at : Node) (row : BuiltIn) (os : List Operand) → RowSo at row os None
unfolding RowSo
none_given at row os x e = none_some e

row_so : (at : Node) (row : BuiltIn) (os : List Operand) → RowSo at row os (on_operands at row os)
row_so at (on_nothing o) [] = given_so _ M.row_nothing
row_so at (on_one hand gives o) (value v ∷ []) = by_type (gives v.of) refl
  where
    by_type : (a : Option (Option Ty)) → gives v.of ≡ a
        → RowSo at (on_one hand gives o) (value v ∷ []) (with_type a (λ ty. done (written_by hand v) (Apply at ty (Doing o) (handed hand v))))
    by_type None g = none_given _ _ _
    by_type (Some ty) g = given_so _ (M.row_one g)
row_so at (on_place_and_value goes o) (value v ∷ q ∷ []) = by_value (settled_in (goes v.of) q) refl
  where
    by_value : (a : Option Valued) → settled_in (goes v.of) q ≡ a
        → RowSo at (on_place_and_value goes o) (value v ∷ q ∷ [])
        (with_value a (λ w. done (v ∷ []) (acting at o (path_and_value (path_of v.expr) w.expr))))
    by_value None s = none_given _ _ _
    by_value (Some w) s = given_so _ (M.row_place_and_value (settled_in_so (goes v.of) q w s))
row_so at (on_places o) (value v ∷ value w ∷ []) = only_so (same v.of w.of) _ (λ t. M.row_places t)
row_so at (on_type gives act) (a_type t ∷ []) = by_type (gives t) refl
  where
    by_type : (a : Option (Option Ty)) → gives t ≡ a
        → RowSo at (on_type gives act) (a_type t ∷ []) (with_type a (λ ty. done [] (Apply at ty act NoArg)))
    by_type None g = none_given _ _ _
    by_type (Some ty) g = given_so _ (M.row_type g)
row_so at (on_input ty o) (the_input ∷ []) = given_so _ M.row_input
row_so at (on_input_and_place test ty o) (the_input ∷ value v ∷ []) = only_so (test v.of) _ (λ t. M.row_input_and_place t)
row_so at row os = none_given at row os

row_not_back : (at : Node) (row : BuiltIn) (os : List Operand) → RowFitsNot at row os → on_operands at row os ≡ None
unfolding RowSo
row_not_back at row os f = by_answer (on_operands at row os) refl
  where
    by_answer : (a : Option Done) → on_operands at row os ≡ a → a ≡ None
    by_answer None e = refl
    by_answer (Some d) e = absurd (f d.writes d.expr (row_so at row os d e))

rows_so : (at : Node) (rows : List BuiltIn) (os : List Operand) (d : Done) → first_row at rows os ≡ Some d → FirstRow at rows os d.writes d.expr
unfolding RowSo
rows_so at [] os d e = none_some e
rows_so at (row ∷ rest) os d e = by_answer (on_operands at row os) refl e (λ h. rows_so at rest os d h)
  where
    by_answer : (a : Option Done) → on_operands at row os ≡ a → or_later a (first_row at rest os) ≡ Some d
        → (first_row at rest os ≡ Some d → FirstRow at rest os d.writes d.expr) → FirstRow at (row ∷ rest) os d.writes d.expr
    by_answer (Some c) s e f = this_row (row_so at row os d (s ∙ e))
    by_answer None s e f = later_row (λ vs x h. some_none (sym (row_back h) ∙ s)) (f e)

no_rows_so : (at : Node) (rows : List BuiltIn) (os : List Operand) → first_row at rows os ≡ None → NoRow at rows os
no_rows_so at [] os e = no_more_rows
no_rows_so at (row ∷ rest) os e = by_answer (on_operands at row os) refl e (λ h. no_rows_so at rest os h)
  where
    by_answer : (a : Option Done) → on_operands at row os ≡ a → or_later a (first_row at rest os) ≡ None
        → (first_row at rest os ≡ None → NoRow at rest os) → NoRow at (row ∷ rest) os
    by_answer (Some c) s e f = some_none e
    by_answer None s e f = not_this_row (λ vs x h. some_none (sym (row_back h) ∙ s)) (f e)

rows_back : {at : Node} {rows : List BuiltIn} {os : List Operand} {vs : List Valued} {e : Expr} → FirstRow at rows os vs e
    → first_row at rows os ≡ Some (done vs e)
rows_back {at} {os = os} (this_row {rest = rest} h) = ap (λ a. or_later a (first_row at rest os)) (row_back h)
rows_back {at} {os = os} (later_row {row = row} {rest = rest} f h) =
    ap (λ a. or_later a (first_row at rest os)) (row_not_back at row os f) ∙ rows_back h

no_rows_back : {at : Node} {rows : List BuiltIn} {os : List Operand} → NoRow at rows os → first_row at rows os ≡ None
no_rows_back no_more_rows = refl
no_rows_back {at} {os = os} (not_this_row {row = row} {rest = rest} f h) =
    ap (λ a. or_later a (first_row at rest os)) (row_not_back at row os f) ∙ no_rows_back h

writes_sound : (vs : List Valued) → Means (λ (u : Unit {0}). AllWritable vs) (λ c p. (c ≡ NotAssignable) × (FirstUnwritable vs p)) (writes_rule vs)
writes_sound [] = m_ok all_written
writes_sound (v ∷ rest) = by_test v.writable refl (writes_sound rest)
  where
    by_test : (b : Bool) → v.writable ≡ b
        → Means (λ (u : Unit {0}). AllWritable rest) (λ c p. (c ≡ NotAssignable) × (FirstUnwritable rest p)) (writes_rule rest)
        → Means (λ (u : Unit {0}). AllWritable (v ∷ rest)) (λ c p. (c ≡ NotAssignable) × (FirstUnwritable (v ∷ rest) p))
        (and_then (write_by b (place_in v.expr)) (λ _. writes_rule rest))
    by_test false w f = m_err (refl, this_unwritable w)
    by_test true w f = means_map f (λ u h. one_written w h) (λ c p h. (h.0, later_unwritable w h.1))

write_given : (v : Valued) (b : Bool) → v.writable ≡ b → write_rule v ≡ write_by b (place_in v.expr)
write_given v b w = ap (λ b. write_by b (place_in v.expr)) w

all_back : {vs : List Valued} → AllWritable vs → writes_rule vs ≡ Ok tt
all_back all_written = refl
all_back (one_written {v = v} w h) = bind_ok _ (write_given v true w) (all_back h)

unwritable_back : {vs : List Valued} {p : Place} → FirstUnwritable vs p → IsRefusal (writes_rule vs) NotAssignable p
unwritable_back (this_unwritable {v = v} w) = bind_err _ (write_given v false w)
unwritable_back (later_unwritable {v = v} w h) = bind_ok _ (write_given v true w) (unwritable_back h)

-- ---- operations

pub operation_sound : (env : Env) (n : ℕ) (at : Place) (x : List ℕ) (os : List Operand) → IsOperation env x os
    → Means (λ e. IsCall env n at x os e) (λ c p. IsNoCall env n at x os c p) (operation_rule (node n at) x os)
operation_sound env n at x os i = by_row (first_row (node n at) (operations_named x) os) refl
  where
    by_row : (a : Option Done) → first_row (node n at) (operations_named x) os ≡ a
        → Means (λ e. IsCall env n at x os e) (λ c p. IsNoCall env n at x os c p) (operation_by at os a)
    by_row (Some d) r =
        means_then (writes_sound d.writes) (λ u h. m_ok (M.an_operation i (rows_so (node n at) (operations_named x) os d r) h))
        (λ c p h. not_writable c p d r h.0 h.1)
      where
        not_writable : (c : Code) (p : Place) (d : Done) → first_row (node n at) (operations_named x) os ≡ Some d → c ≡ NotAssignable
            → FirstUnwritable d.writes p → IsNoCall env n at x os c p
        not_writable c p d r e h =
            subst (λ c. IsNoCall env n at x os c p) (sym e) (M.not_written i (rows_so (node n at) (operations_named x) os d r) h)
    by_row None r = unfit_means at os (λ e. IsCall env n at x os e) (λ c p. IsNoCall env n at x os c p)
        (λ p h. M.no_operation i (no_rows_so (node n at) (operations_named x) os r) h)

pub operation_back : {n : ℕ} {at : Place} (x : List ℕ) {os : List Operand} {vs : List Valued} {e : Expr} → FirstRow (node n at) (operations_named x) os vs e
    → AllWritable vs → operation_rule (node n at) x os ≡ Ok e
operation_back {n} {at} x {os} r h = ap (λ a. operation_by at os a) (rows_back r) ∙ bind_ok _ (all_back h) refl

pub unwritten_back : {n : ℕ} {at : Place} (x : List ℕ) {os : List Operand} {vs : List Valued} {e : Expr} {p : Place}
    → FirstRow (node n at) (operations_named x) os vs e → FirstUnwritable vs p → IsRefusal (operation_rule (node n at) x os) NotAssignable p
unwritten_back {n} {at} x {os} r h = ap (λ a. operation_by at os a) (rows_back r) ∙ bind_err _ (unwritable_back h)

pub no_operation_back : {n : ℕ} {at : Place} (x : List ℕ) {os : List Operand} {p : Place} → NoRow (node n at) (operations_named x) os → Unfit at os p
    → IsRefusal (operation_rule (node n at) x os) NotTyped p
no_operation_back {n} {at} x {os} r h = ap (λ a. operation_by at os a) (no_rows_back r) ∙ unfit_complete h
