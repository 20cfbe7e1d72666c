-- The choice of a procedure and its arguments are computed as they are said.
use Rattle.std.proofs.Common.{◌≡◌, ℕ, zero, suc, Bool, true, false, List, [], ◌∷◌, ◌++◌, refl, sym, ap, subst, ◌∙◌, arith}
use Rattle.std.specs.Prelude.{◌&&◌, ◌||◌, not, nat_eq, Option, Some, None, Ok}
use Rattle.arc_base.specs.declared.place.Place.{Place}
use Rattle.arc_base.specs.declared.place.Code.{Code}
use Rattle.arc_base.specs.Refusal.{and_then, IsRefusal}
use Rattle.nim_tree.specs.Terms as term
use Rattle.nim_tree.specs.Terms.{Term}
use Rattle.nim_types.specs.Types as type
use Rattle.nim_types.specs.Types.{Ty, same}
use Rattle.nim_program.specs.declared.program.Mode.{Mode}
use Rattle.nim_program.specs.declared.program.Mode.TheVariants.{Plain, Sink, Var}
use Rattle.nim_program.specs.Program.{Expr, Path, Args}
use Rattle.expr_rules.specs.Env as env_of
use Rattle.expr_rules.specs.Env.{Env, Known, known, Parameter, Procedure}
use Rattle.expr_rules.specs.Answers.{Answer, Valued, Operand, value, open_sequence, a_type, the_input, settled, only_if, place_in}
use Rattle.expr_rules.specs.Paths.{path_of, root_of, Step, field, element, steps_of, differ, same_root, overlap, overlaps_any, is_some, is_writable}
use Rattle.expr_rules.specs.Paths.{has_writable_root, can_be_written}
use Rattle.expr_rules.specs.Calls.{Fit, onto, arguments_for, if_fits, fitting, no_overlap, var_argument, by_value, by_var, argument_by, paths_with}
use Rattle.expr_rules.specs.Calls.{argument_before, arguments_by}
use Rattle.expr_rules.specs.Overloads.{IsSettled, by_type, by_place, Fits, fits_none, fits_more, FitsNot, NoneFits, none_left, none_fits, OneFits, this_fits}
use Rattle.expr_rules.specs.Overloads.{later_fits, SomeFits, some_here, some_later, SeveralFit, several_here, several_later, NeverDiffer, Overlap}
use Rattle.expr_rules.specs.Overloads.{they_overlap, OverlapsNone, no_path, not_this, OverlapsSome, this_path, later_path, is_var, AreArguments, args_none}
use Rattle.expr_rules.specs.Overloads.{args_value, args_var, AreNoArguments, not_writable, overlaps, behind_value, behind_var, HasWritableRoot, root_name}
use Rattle.expr_rules.specs.Overloads.{root_paren, root_field, root_index, CanBeWritten, from_variable}
use Rattle.expr_rules.proofs.Means.{Means, m_ok, m_err, means_then, bind_ok, bind_err}

pub some_one : {A : Type 0} {a b : A} → ◌≡◌ {A = Option A} (Some a) (Some b) → a ≡ b
some_one e = cc

pub some_none : {A C : Type 0} {a : A} → ◌≡◌ {A = Option A} (Some a) None → C
some_none e = cc

pub none_some : {A C : Type 0} {a : A} → ◌≡◌ {A = Option A} None (Some a) → C
none_some e = cc

pub true_false : {C : Type 0} {b : Bool} → b ≡ true → b ≡ false → C
true_false e f = cc

-- ---- operands as values

pub settled_so : (ty : Ty) (o : Operand) (v : Valued) → settled ty o ≡ Some v → IsSettled ty o v
settled_so ty (value w) v e = by_test (same ty w.of) refl e
  where
    by_test : (b : Bool) → same ty w.of ≡ b → only_if b w ≡ Some v → IsSettled ty (value w) v
    by_test true s e = subst (λ v. IsSettled ty (value w) v) (some_one e) (by_type s)
    by_test false s e = none_some e
settled_so (type.sequence t) (open_sequence at n) v e = subst (λ v. IsSettled (type.sequence t) (open_sequence at n) v) (some_one e) by_place
settled_so ty (open_sequence at n) v e = none_some e
settled_so ty (a_type t) v e = none_some e
settled_so ty the_input v e = none_some e

pub settled_back : {ty : Ty} {o : Operand} {v : Valued} → IsSettled ty o v → settled ty o ≡ Some v
settled_back {v = v} (by_type s) = ap (λ b. only_if b v) s
settled_back by_place = refl

-- ---- what fits

fits_so : (ps : List Parameter) (os : List Operand) (given : List (Parameter × Valued)) → arguments_for ps os ≡ Some given → Fits ps os given
fits_so [] [] given e = subst (λ given. Fits [] [] given) (some_one e) fits_none
fits_so (p ∷ ps) (o ∷ os) given e = by_parts (settled p.of o) refl (arguments_for ps os) (λ more h. fits_so ps os more h) e
  where
    by_parts : (a : Option Valued) → settled p.of o ≡ a → (b : Option (List (Parameter × Valued)))
        → ((more : List (Parameter × Valued)) → b ≡ Some more → Fits ps os more) → onto p a b ≡ Some given → Fits (p ∷ ps) (o ∷ os) given
    by_parts (Some v) s (Some more) f e = subst (λ given. Fits (p ∷ ps) (o ∷ os) given) (some_one e) (fits_more (settled_so p.of o v s) (f more refl))
    by_parts (Some v) s None f e = none_some e
    by_parts None s (Some more) f e = none_some e
    by_parts None s None f e = none_some e
fits_so [] (o ∷ os) given e = none_some e
fits_so (p ∷ ps) [] given e = none_some e

fits_back : {ps : List Parameter} {os : List Operand} {given : List (Parameter × Valued)} → Fits ps os given → arguments_for ps os ≡ Some given
fits_back fits_none = refl
fits_back (fits_more {p = p} {ps = ps} {os = os} {v = v} s h) =
    ap (λ a. onto p a (arguments_for ps os)) (settled_back s) ∙ ap (λ b. onto p (Some v) b) (fits_back h)

not_fits : {ps : List Parameter} {os : List Operand} → arguments_for ps os ≡ None → FitsNot ps os
not_fits e given h = some_none (sym (fits_back h) ∙ e)

fits_not_back : (ps : List Parameter) (os : List Operand) → FitsNot ps os → arguments_for ps os ≡ None
fits_not_back ps os f = by_answer (arguments_for ps os) refl
  where
    by_answer : (a : Option (List (Parameter × Valued))) → arguments_for ps os ≡ a → a ≡ None
    by_answer None e = refl
    by_answer (Some given) e = absurd (f given (fits_so ps os given e))

-- ---- the choice among procedures

abbrev Fit_of : Procedure → List (Parameter × Valued) → Fit
Fit_of p given = record { callee = p; arguments = given }

first_fit : {f g : Fit} {fs gs : List Fit} → f ∷ fs ≡ g ∷ gs → f ≡ g
first_fit e = cc

rest_fit : {f g : Fit} {fs gs : List Fit} → f ∷ fs ≡ g ∷ gs → fs ≡ gs
rest_fit e = cc

some_empty : {C : Type 0} {f : Fit} {fs : List Fit} → f ∷ fs ≡ [] → C
some_empty e = cc

empty_some : {C : Type 0} {f : Fit} {fs : List Fit} → [] ≡ f ∷ fs → C
empty_some e = cc

pub none_so : (procs : List Procedure) (os : List Operand) → fitting procs os ≡ [] → NoneFits procs os
none_so [] os e = none_left
none_so (p ∷ rest) os e = by_arguments (arguments_for p.params os) refl e (λ h. none_so rest os h)
  where
    by_arguments : (a : Option (List (Parameter × Valued))) → arguments_for p.params os ≡ a → if_fits p a (fitting rest os) ≡ []
        → (fitting rest os ≡ [] → NoneFits rest os) → NoneFits (p ∷ rest) os
    by_arguments None s e f = none_fits (not_fits s) (f e)
    by_arguments (Some given) s e f = some_empty e

pub none_back : {procs : List Procedure} {os : List Operand} → NoneFits procs os → fitting procs os ≡ []
none_back none_left = refl
none_back (none_fits {p = p} {rest = rest} {os = os} f h) = ap (λ a. if_fits p a (fitting rest os)) (fits_not_back p.params os f) ∙ none_back h

pub one_so : (procs : List Procedure) (os : List Operand) (fit : Fit) → fitting procs os ≡ fit ∷ [] → OneFits procs os fit.callee fit.arguments
one_so [] os fit e = empty_some e
one_so (p ∷ rest) os fit e = by_arguments (arguments_for p.params os) refl e (λ h. one_so rest os fit h)
  where
    by_arguments : (a : Option (List (Parameter × Valued))) → arguments_for p.params os ≡ a → if_fits p a (fitting rest os) ≡ fit ∷ []
        → (fitting rest os ≡ fit ∷ [] → OneFits rest os fit.callee fit.arguments) → OneFits (p ∷ rest) os fit.callee fit.arguments
    by_arguments None s e f = later_fits (not_fits s) (f e)
    by_arguments (Some given) s e f =
        subst (λ fit. OneFits (p ∷ rest) os fit.callee fit.arguments) (first_fit e) (this_fits (fits_so p.params os given s) (none_so rest os (rest_fit e)))

pub one_back : {procs : List Procedure} {os : List Operand} {p : Procedure} {given : List (Parameter × Valued)} → OneFits procs os p given
    → fitting procs os ≡ record { callee = p; arguments = given } ∷ []
one_back (this_fits {p = p} {rest = rest} {os = os} {given = given} h k) =
    ap (λ a. if_fits p a (fitting rest os)) (fits_back h) ∙ ap (λ fs. Fit_of p given ∷ fs) (none_back k)
one_back (later_fits {p = p} {rest = rest} {os = os} f h) = ap (λ a. if_fits p a (fitting rest os)) (fits_not_back p.params os f) ∙ one_back h

pub some_so : (procs : List Procedure) (os : List Operand) (f : Fit) (fs : List Fit) → fitting procs os ≡ f ∷ fs → SomeFits procs os
some_so [] os g gs e = empty_some e
some_so (p ∷ rest) os g gs e = by_arguments (arguments_for p.params os) refl e (λ h. some_so rest os g gs h)
  where
    by_arguments : (a : Option (List (Parameter × Valued))) → arguments_for p.params os ≡ a → if_fits p a (fitting rest os) ≡ g ∷ gs
        → (fitting rest os ≡ g ∷ gs → SomeFits rest os) → SomeFits (p ∷ rest) os
    by_arguments None s e f = some_later (f e)
    by_arguments (Some given) s e f = some_here (fits_so p.params os given s)

pub several_so : (procs : List Procedure) (os : List Operand) (f g : Fit) (fs : List Fit) → fitting procs os ≡ f ∷ g ∷ fs → SeveralFit procs os
several_so [] os f g fs e = empty_some e
several_so (p ∷ rest) os f g fs e = by_arguments (arguments_for p.params os) refl e (λ h. several_so rest os f g fs h)
  where
    by_arguments : (a : Option (List (Parameter × Valued))) → arguments_for p.params os ≡ a → if_fits p a (fitting rest os) ≡ f ∷ g ∷ fs
        → (fitting rest os ≡ f ∷ g ∷ fs → SeveralFit rest os) → SeveralFit (p ∷ rest) os
    by_arguments None s e h = several_later (h e)
    by_arguments (Some given) s e h = several_here (fits_so p.params os given s) (some_so rest os g fs (rest_fit e))

-- how many fit
pub data HasSome : List Fit → Type 0 where
  one_or_more : {f : Fit} {fs : List Fit} → HasSome (f ∷ fs)

pub data HasSeveral : List Fit → Type 0 where
  two_or_more : {f g : Fit} {fs : List Fit} → HasSeveral (f ∷ g ∷ fs)

pub some_back : {procs : List Procedure} {os : List Operand} → SomeFits procs os → HasSome (fitting procs os)
some_back (some_here {p = p} {rest = rest} {os = os} h) = subst (λ a. HasSome (if_fits p a (fitting rest os))) (sym (fits_back h)) one_or_more
some_back (some_later {p = p} {rest = rest} {os = os} h) = by_arguments (arguments_for p.params os) (some_back h)
  where
    by_arguments : (a : Option (List (Parameter × Valued))) → HasSome (fitting rest os) → HasSome (if_fits p a (fitting rest os))
    by_arguments None h = h
    by_arguments (Some given) h = one_or_more

with_first : (f : Fit) (fs : List Fit) → HasSome fs → HasSeveral (f ∷ fs)
with_first f [] h = elim h [ ]
with_first f (g ∷ gs) h = two_or_more

pub several_back : {procs : List Procedure} {os : List Operand} → SeveralFit procs os → HasSeveral (fitting procs os)
several_back (several_here {p = p} {rest = rest} {os = os} {given = given} h k) =
    subst (λ a. HasSeveral (if_fits p a (fitting rest os))) (sym (fits_back h)) (with_first (Fit_of p given) (fitting rest os) (some_back k))
several_back (several_later {p = p} {rest = rest} {os = os} h) = by_arguments (arguments_for p.params os) (several_back h)
  where
    more : (f : Fit) (fs : List Fit) → HasSeveral fs → HasSeveral (f ∷ fs)
    more f [] k = elim k [ ]
    more f (g ∷ []) k = elim k [ ]
    more f (g ∷ h ∷ fs) k = two_or_more

    by_arguments : (a : Option (List (Parameter × Valued))) → HasSeveral (fitting rest os) → HasSeveral (if_fits p a (fitting rest os))
    by_arguments None h = h
    by_arguments (Some given) h = more (Fit_of p given) (fitting rest os) h

-- ---- overlap

number_of : {i j : ℕ} → ◌≡◌ {A = Option Step} (Some (field i)) (Some (field j)) → i ≡ j
number_of e = cc

no_field : {C : Type 0} {j : ℕ} → ◌≡◌ {A = Option Step} (Some element) (Some (field j)) → C
no_field e = cc

neither_or : (b c : Bool) → (b || c) ≡ false → (b ≡ false) × (c ≡ false)
neither_or true c e = cc
neither_or false c e = (refl, e)

not_false : (b : Bool) → not b ≡ false → b ≡ true
not_false true e = refl
not_false false e = cc

same_number : (i j : ℕ) → nat_eq i j ≡ true → i ≡ j
same_number i j e = grind arith

number_same : (i j : ℕ) → i ≡ j → nat_eq i j ≡ true
number_same i j e = grind arith

never_so : (s t : List Step) → differ s t ≡ false → NeverDiffer s t
never_so [] t e i j k a b = none_some a
never_so (x ∷ s) [] e i j k a b = none_some b
never_so (field i ∷ s) (field j ∷ t) e zero k l a b =
    let same : i ≡ j = same_number i j (not_false (nat_eq i j) (neither_or (not (nat_eq i j)) (differ s t) e).0) in
    sym (number_of a) ∙ same ∙ number_of b
never_so (field i ∷ s) (field j ∷ t) e (suc m) k l a b = never_so s t (neither_or (not (nat_eq i j)) (differ s t) e).1 m k l a b
never_so (field i ∷ s) (element ∷ t) e zero k l a b = no_field b
never_so (field i ∷ s) (element ∷ t) e (suc m) k l a b = never_so s t e m k l a b
never_so (element ∷ s) (y ∷ t) e zero k l a b = no_field a
never_so (element ∷ s) (y ∷ t) e (suc m) k l a b = never_so s t e m k l a b

neither : {b c : Bool} → b ≡ false → c ≡ false → (b || c) ≡ false
neither {b} {c} e f = cc

not_true : {b : Bool} → b ≡ true → not b ≡ false
not_true {b} e = cc

never_back : (s t : List Step) → NeverDiffer s t → differ s t ≡ false
never_back [] t f = refl
never_back (field i ∷ s) [] f = refl
never_back (element ∷ s) [] f = refl
never_back (field i ∷ s) (field j ∷ t) f =
    neither (not_true (number_same i j (f zero i j refl refl))) (never_back s t (λ m k l a b. f (suc m) k l a b))
never_back (field i ∷ s) (element ∷ t) f = never_back s t (λ m k l a b. f (suc m) k l a b)
never_back (element ∷ s) (field j ∷ t) f = never_back s t (λ m k l a b. f (suc m) k l a b)
never_back (element ∷ s) (element ∷ t) f = never_back s t (λ m k l a b. f (suc m) k l a b)

and_parts : (b c : Bool) → (b && c) ≡ true → (b ≡ true) × (c ≡ true)
and_parts true true e = (refl, refl)
and_parts true false e = cc
and_parts false c e = cc

and_both : {b c : Bool} → b ≡ true → c ≡ true → (b && c) ≡ true
and_both {b} {c} e f = cc

false_not : (b : Bool) → not b ≡ true → b ≡ false
false_not false e = refl
false_not true e = cc

not_of : {b : Bool} → b ≡ false → not b ≡ true
not_of {b} e = cc

pub overlap_so : (a b : Path) → overlap a b ≡ true → Overlap a b
overlap_so a b e =
    let parts : (same_root (root_of a) (root_of b) ≡ true) × (not (differ (steps_of a) (steps_of b)) ≡ true) = and_parts _ _ e in
    by_roots (root_of a) (root_of b) refl refl parts.0 (never_so (steps_of a) (steps_of b) (false_not _ parts.1))
  where
    by_roots : (r q : Option ℕ) → root_of a ≡ r → root_of b ≡ q → same_root r q ≡ true → NeverDiffer (steps_of a) (steps_of b) → Overlap a b
    by_roots (Some r) (Some q) e f s h = they_overlap e (f ∙ ap Some (sym (same_number r q s))) h
    by_roots (Some r) None e f s h = cc
    by_roots None q e f s h = cc

pub overlap_back : {a b : Path} → Overlap a b → overlap a b ≡ true
overlap_back {a} {b} (they_overlap {root = r} e f h) =
    and_both (ap (λ q. same_root q (root_of b)) e ∙ ap (λ q. same_root (Some r) q) f ∙ number_same r r refl)
    (not_of (never_back (steps_of a) (steps_of b) h))

or_parts : {C : Type 0} (b c : Bool) → (b || c) ≡ true → (b ≡ true → C) → (c ≡ true → C) → C
or_parts true c e f g = f refl
or_parts false c e f g = g e

or_first : {b : Bool} (c : Bool) → b ≡ true → (b || c) ≡ true
or_first c e = ap (λ b. b || c) e

or_next : (b : Bool) {c : Bool} → c ≡ true → (b || c) ≡ true
or_next true e = refl
or_next false e = e

some_overlap : (a : Path) (before : List Path) → overlaps_any a before ≡ true → OverlapsSome a before
some_overlap a [] e = cc
some_overlap a (b ∷ rest) e =
    or_parts (overlap a b) (overlaps_any a rest) e (λ h. this_path (overlap_so a b h)) (λ h. later_path (some_overlap a rest h))

no_overlaps : (a : Path) (before : List Path) → overlaps_any a before ≡ false → OverlapsNone a before
no_overlaps a [] e = no_path
no_overlaps a (b ∷ rest) e =
    let parts : (overlap a b ≡ false) × (overlaps_any a rest ≡ false) = neither_or _ _ e in
    not_this (λ h. true_false (overlap_back h) parts.0) (no_overlaps a rest parts.1)

overlap_false : (a b : Path) → (Overlap a b → ⊥) → overlap a b ≡ false
overlap_false a b f = by_test (overlap a b) refl
  where
    by_test : (c : Bool) → overlap a b ≡ c → c ≡ false
    by_test false e = refl
    by_test true e = absurd (f (overlap_so a b e))

some_overlap_back : {a : Path} {before : List Path} → OverlapsSome a before → overlaps_any a before ≡ true
some_overlap_back {a} (this_path {rest = rest} h) = or_first (overlaps_any a rest) (overlap_back h)
some_overlap_back (later_path {a = a} {b = b} h) = or_next (overlap a b) (some_overlap_back h)

no_overlaps_back : {a : Path} {before : List Path} → OverlapsNone a before → overlaps_any a before ≡ false
no_overlaps_back no_path = refl
no_overlaps_back (not_this {a = a} {b = b} f h) = neither (overlap_false a b f) (no_overlaps_back h)

-- ---- arguments

pub arguments_sound : (before : List Path) (given : List (Parameter × Valued))
    → Means (λ args. AreArguments before given args) (λ c p. AreNoArguments before given c p) (arguments_by before given)
arguments_sound before [] = m_ok args_none
arguments_sound before (a ∷ rest) = by_mode a.0.mode refl (λ before. arguments_sound before rest)
  where
    by_tests : (w o : Bool) → a.0.mode ≡ Var → a.1.writable ≡ w → overlaps_any (path_of a.1.expr) before ≡ o
        → ((before : List Path) → Means (λ args. AreArguments before rest args) (λ c p. AreNoArguments before rest c p) (arguments_by before rest))
        → Means (λ args. AreArguments before (a ∷ rest) args) (λ c p. AreNoArguments before (a ∷ rest) c p)
        (and_then (and_then (no_overlap w o (place_in a.1.expr) (path_of a.1.expr)) (λ path. Ok (by_var path)))
        (λ first. and_then (arguments_by (paths_with before first) rest) (λ more. Ok (argument_before first more))))
    by_tests false o m w q f = m_err (not_writable (ap is_var m) w)
    by_tests true true m w q f = m_err (overlaps (ap is_var m) w (some_overlap _ _ q))
    by_tests true false m w q f =
        means_then (f (before ++ path_of a.1.expr ∷ [])) (λ args h. m_ok (args_var (ap is_var m) w (no_overlaps _ _ q) h))
        (λ c p h. behind_var (ap is_var m) w (no_overlaps _ _ q) h)

    by_mode : (m : Mode) → a.0.mode ≡ m
        → ((before : List Path) → Means (λ args. AreArguments before rest args) (λ c p. AreNoArguments before rest c p) (arguments_by before rest))
        → Means (λ args. AreArguments before (a ∷ rest) args) (λ c p. AreNoArguments before (a ∷ rest) c p)
        (and_then (argument_by before m a.1)
        (λ first. and_then (arguments_by (paths_with before first) rest) (λ more. Ok (argument_before first more))))
    by_mode Plain m f = means_then (f before) (λ args h. m_ok (args_value (ap is_var m) h)) (λ c p h. behind_value (ap is_var m) h)
    by_mode Sink m f = means_then (f before) (λ args h. m_ok (args_value (ap is_var m) h)) (λ c p h. behind_value (ap is_var m) h)
    by_mode Var m f = by_tests a.1.writable (overlaps_any (path_of a.1.expr) before) m refl refl f

plain_argument : (before : List Path) (m : Mode) (v : Valued) → is_var m ≡ false → argument_by before m v ≡ Ok (by_value v.expr)
plain_argument before Plain v e = refl
plain_argument before Sink v e = refl
plain_argument before Var v e = cc

var_given : (before : List Path) (v : Valued) (r : Answer Path) → var_argument before v ≡ r → (m : Mode) → is_var m ≡ true
    → argument_by before m v ≡ and_then r (λ path. Ok (by_var path))
var_given before v r e Var m = ap (λ r. and_then r (λ path. Ok (by_var path))) e
var_given before v r e Plain m = cc
var_given before v r e Sink m = cc

tested : (before : List Path) (v : Valued) (w o : Bool) → v.writable ≡ w → overlaps_any (path_of v.expr) before ≡ o
    → var_argument before v ≡ no_overlap w o (place_in v.expr) (path_of v.expr)
tested before v w o e f =
    ap (λ w. no_overlap w (overlaps_any (path_of v.expr) before) (place_in v.expr) (path_of v.expr)) e
    ∙ ap (λ o. no_overlap w o (place_in v.expr) (path_of v.expr)) f

pub arguments_complete : {before : List Path} {given : List (Parameter × Valued)} {args : Args} → AreArguments before given args
    → arguments_by before given ≡ Ok args
arguments_complete args_none = refl
arguments_complete {before} (args_value {a = a} m h) = bind_ok _ (plain_argument before a.0.mode a.1 m) (bind_ok _ (arguments_complete h) refl)
arguments_complete {before} (args_var {a = a} m w o h) =
    bind_ok _ (var_given before a.1 _ (tested before a.1 true false w (no_overlaps_back o)) a.0.mode m) (bind_ok _ (arguments_complete h) refl)

pub no_arguments_complete : {before : List Path} {given : List (Parameter × Valued)} {c : Code} {p : Place} → AreNoArguments before given c p
    → IsRefusal (arguments_by before given) c p
no_arguments_complete {before} (not_writable {a = a} m w) =
    bind_err _ (var_given before a.1 _ (tested before a.1 false _ w refl) a.0.mode m)
no_arguments_complete {before} (overlaps {a = a} m w o) =
    bind_err _ (var_given before a.1 _ (tested before a.1 true true w (some_overlap_back o)) a.0.mode m)
no_arguments_complete {before} (behind_value {a = a} m h) =
    bind_ok _ (plain_argument before a.0.mode a.1 m) (bind_err _ (no_arguments_complete h))
no_arguments_complete {before} (behind_var {a = a} m w o h) =
    bind_ok _ (var_given before a.1 _ (tested before a.1 true false w (no_overlaps_back o)) a.0.mode m) (bind_err _ (no_arguments_complete h))

-- ---- what can be written

root_so : (env : Env) (t : Term) → has_writable_root env t ≡ true → HasWritableRoot env t
root_so env (term.name at x) e = by_known (known env x) refl e
  where
    by_known : (k : Known) → known env x ≡ k → is_writable k ≡ true → HasWritableRoot env (term.name at x)
    by_known (env_of.a_variable place of true global) k e = root_name k
    by_known (env_of.a_variable place of false global) k e = cc
    by_known env_of.unknown k e = cc
    by_known (env_of.a_constant of l) k e = cc
    by_known (env_of.a_type ty) k e = cc
    by_known (env_of.procedures all) k e = cc
    by_known env_of.a_pending_type k e = cc
    by_known env_of.the_input k e = cc
root_so env (term.paren at a) e = root_paren (root_so env a e)
root_so env (term.field at a x) e = root_field (root_so env a e)
root_so env (term.index at a inside) e = root_index (root_so env a e)
root_so env t e = cc

root_back : {env : Env} {t : Term} → HasWritableRoot env t → has_writable_root env t ≡ true
root_back (root_name k) = ap is_writable k
root_back (root_paren h) = root_back h
root_back (root_field h) = root_back h
root_back (root_index h) = root_back h

pub writable_so : (env : Env) (t : Term) (e : Expr) → can_be_written env t e ≡ true → CanBeWritten env t e
writable_so env t e h =
    let parts : (is_some (root_of (path_of e)) ≡ true) × (has_writable_root env t ≡ true) = and_parts _ _ h in
    by_root (root_of (path_of e)) refl parts.0 (root_so env t parts.1)
  where
    by_root : (r : Option ℕ) → root_of (path_of e) ≡ r → is_some r ≡ true → HasWritableRoot env t → CanBeWritten env t e
    by_root (Some place) r s h = from_variable r h
    by_root None r s h = cc

pub writable_back : {env : Env} {t : Term} {e : Expr} → CanBeWritten env t e → can_be_written env t e ≡ true
writable_back (from_variable r h) = and_both (ap is_some r) (root_back h)
