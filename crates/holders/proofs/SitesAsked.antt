-- From what a typed program lends to what is asked of its acts: what they write may be written, and what calls are given lies apart.
use Rattle.std.proofs.Common.{◌≡◌, refl, sym, ap, subst, ◌∙◌, ℕ, Bool, true, false, not, List, [], ◌∷◌, ◌++◌, Option, Some, None}
use Rattle.std.specs.Prelude.{◌&&◌, ◌||◌, nat_eq, slice_get}
use Rattle.std.proofs.lemmas.Bool.{and_parts, eq-eqb, false≢true}
use Rattle.std.proofs.lemmas.Option.{none-some}
use Rattle.nim_types.specs.Types.{Ty}
use Rattle.nim_program.specs.declared.operation.Operation.{Operation}
use Rattle.nim_program.specs.declared.operation.Operation.TheVariants as O
use Rattle.nim_program.specs.Program.{Doing, Calling, Path, Variable, Fresh, Field, Element, Deref}
use Rattle.nim_program.specs.Program.{Args, NoArg, ByValue, ByPath, Param, Body, Proc, is_written, types_in, type_of, type_at, node_at}
use Rattle.nim_program.specs.Kinds.{kind_if, field_at, element_of, object_of, is_of, is_int, same_value}
use Rattle.nim_program.specs.Fitting.{fits, places_in}
use Rattle.nim_program.specs.Scopes.{Here, is_var, given, given_if, are_taken, call_fits}
use Rattle.nim_program.specs.Typed.{act_fits, are_placed, is_place, may_take, may_take_all, is_typed, is_typed_path, are_typed, is_whole}
use Rattle.expr_rules.specs.Paths.{root_of, same_root, steps_of, differ, overlap}
use Rattle.expr_rules.specs.Paths as E
use Rattle.decl_rules.specs.Occurrences.{Occurrence, global, calls, hands, hands_if, hands_by, global_root, root_if, in_path, in_expr, in_args}
use Rattle.decl_rules.specs.Occurrences.{in_block}
use Rattle.decl_rules.specs.Whole.{in_body, in_proc, occurring, names}
use Rattle.decl_rules.specs.Naming.{OccursIn, here, further, Names, by_use, by_call, NamesFound}
use Rattle.lending_laws.specs.Writing.{lent_in, written_by, begins_at, NoneBegins}
use Rattle.lending_laws.specs.Apart.{PartsFrom, PartWays, HandsUnnamed}
use Rattle.holders.specs.Ways.{Step, to_field, to_element, Differ, another_field, further_differ}
use Rattle.holders.specs.Asked.{Limits, may_write, AllWrite, AskedAt, AllAsked}
use Rattle.holders.specs.Evaluating.{path_steps}
use Rattle.holders.specs.Procedures.{BeginsAt, PathsPart, AllPaths, EachPart, SiteSo}
use Rattle.holders.proofs.Claims.{asked_at}
use Rattle.holders.proofs.Aiming.{no_object}

-- ---- no path leads through a ref

abbrev pub PassesNoRef : Path → Type 0
PassesNoRef (Variable node ty place is_global) = Unit {0}
PassesNoRef (Fresh value) = Unit {0}
PassesNoRef (Field node ty base field) = PassesNoRef base
PassesNoRef (Element node ty base index constant) = PassesNoRef base
PassesNoRef (Deref ty base) = ⊥

module _ (scope : Here) (limits : Limits) (OfCall : ℕ → Args → Type 0) where
  no_ref : (path : Path) → is_typed_path scope path ≡ true → AskedAt scope.facts limits OfCall path → PassesNoRef path
  no_ref (Variable node ty place is_global) typed asked = tt
  no_ref (Fresh value) typed asked = tt
  no_ref (Field node ty base field) typed asked =
      no_ref base (and_parts (is_of (field_at (kind_if scope.facts (type_at base)) field) (Some ty)) (is_typed_path scope base) typed).1 asked.1.1
  no_ref (Element node ty base index constant) typed asked =
      no_ref base (and_parts (is_typed_path scope base) (is_typed scope index)
      (and_parts (is_of (element_of (kind_if scope.facts (type_at base))) (Some ty) && is_int (kind_if scope.facts (type_of index)))
      (is_typed_path scope base && is_typed scope index) typed).1).0 asked.1.0
  no_ref (Deref ty base) typed asked =
      no_object scope.facts (type_at base) ty (asked_at scope.facts limits OfCall base asked.1)
      (and_parts (is_of (object_of (kind_if scope.facts (type_at base))) (Some ty)) (is_typed_path scope base) typed).0

  pub no_refs : (operands : Args) → are_typed scope operands ≡ true → AllAsked scope.facts limits OfCall operands → AllPaths PassesNoRef operands
  no_refs NoArg typed asked = tt
  no_refs (ByValue value rest) typed asked = no_refs rest (and_parts (is_typed scope value) (are_typed scope rest) typed).1 asked.1
  no_refs (ByPath path rest) typed asked =
      let t = and_parts (is_whole scope.facts path && is_typed_path scope path) (are_typed scope rest) typed in
      (no_ref path (and_parts (is_whole scope.facts path) (is_typed_path scope path) t.0).1 asked.0, no_refs rest t.1 asked.1)

-- ---- what is written

written_may : (limits : Limits) (path : Path) → PassesNoRef path → is_written path ≡ true → begins_at limits.kept path ≡ false → may_write limits path ≡ true
written_may limits (Variable node ty place true) n w e = refl
written_may limits (Variable node ty place false) n w e = ap not e
written_may limits (Fresh value) n w e = absurd (false≢true w)
written_may limits (Field node ty base field) n w e = written_may limits base n w e
written_may limits (Element node ty base index constant) n w e = written_may limits base n w e
written_may limits (Deref ty base) n w e = elim n [ ]

all_may : (limits : Limits) (operands : Args) → AllPaths PassesNoRef operands → AllPaths (λ path. is_written path ≡ true) operands →
    NoneBegins limits.kept (lent_in operands) → AllWrite limits operands
all_may limits NoArg n w e = tt
all_may limits (ByValue value rest) n w e = all_may limits rest n w e
all_may limits (ByPath path rest) n w e = (written_may limits path n.0 w.0 e.0, all_may limits rest n.1 w.1 e.1)

taken_written : (args : List Ty) (params : List Param) (operands : Args) → are_taken args params operands ≡ true →
    AllPaths (λ path. is_written path ≡ true) operands
taken_written args [] NoArg e = tt
taken_written args (p ∷ params) (ByValue value rest) e =
    taken_written args params rest
    (and_parts (is_of (type_of value) (Some (given args p.place.of))) (are_taken args params rest)
    (and_parts (not (is_var p.mode)) (is_of (type_of value) (Some (given args p.place.of)) && are_taken args params rest) e).1).1
taken_written args (p ∷ params) (ByPath path rest) e =
    let q = and_parts (is_var p.mode && is_written path) (is_of (type_at path) (Some (given args p.place.of)) && are_taken args params rest) e in (
      (and_parts (is_var p.mode) (is_written path) q.0).1,
      taken_written args params rest (and_parts (is_of (type_at path) (Some (given args p.place.of))) (are_taken args params rest) q.1).1,
    )
taken_written args [] (ByValue value rest) e = absurd (false≢true e)
taken_written args [] (ByPath path rest) e = absurd (false≢true e)
taken_written args (p ∷ params) NoArg e = absurd (false≢true e)

call_written : (scope : Here) (found : Option Proc) (types : List Ty) (ty : Option Ty) (operands : Args) → call_fits scope found types ty operands ≡ true →
    AllPaths (λ path. is_written path ≡ true) operands
call_written scope None types ty operands e = absurd (false≢true e)
call_written scope (Some p) types ty operands e =
    taken_written types p.params operands
    (and_parts (same_value (given_if types p.gives) ty) (are_taken types p.params operands)
    (and_parts _ (same_value (given_if types p.gives) ty && are_taken types p.params operands) e).1).1

abbrev measures : Operation → Bool
measures (O.Measure measure) = true
measures operation = false

no_place : (dest : Option ℕ) (path : Path) → dest ≡ None → is_place dest path ≡ true → ⊥
no_place None path n e = false≢true e
no_place (Some k) path n e = none-some k (sym n)

take_written : (scope : Here) → scope.dest ≡ None → (operation : Operation) (path : Path) → measures operation ≡ false →
    may_take scope operation path ≡ true → is_written path ≡ true
take_written scope none (O.Measure measure) path m e = absurd (false≢true (sym m))
take_written scope none O.Destroy path m e = absurd (no_place scope.dest path none e)
take_written scope none O.Blank path m e = absurd (no_place scope.dest path none e)
take_written scope none _ path m e = e

all_written : (scope : Here) → scope.dest ≡ None → (operation : Operation) (operands : Args) → measures operation ≡ false →
    may_take_all scope operation operands ≡ true → AllPaths (λ path. is_written path ≡ true) operands
all_written scope none operation NoArg m e = tt
all_written scope none operation (ByValue value rest) m e = all_written scope none operation rest m e
all_written scope none operation (ByPath path rest) m e =
    let q = and_parts (may_take scope operation path) (may_take_all scope operation rest) e in
    (take_written scope none operation path m q.0, all_written scope none operation rest m q.1)

taken_all : (scope : Here) (operation : Operation) (ty : Option Ty) (operands : Args) → act_fits scope ty (Doing operation) operands ≡ true →
    may_take_all scope operation operands ≡ true
taken_all scope operation ty operands e =
    (and_parts (are_placed (places_in operation) operands) (may_take_all scope operation operands)
    (and_parts (fits scope.facts operation ty (types_in operands))
    (are_placed (places_in operation) operands && may_take_all scope operation operands) e).1).1

-- what is measured is read alone
abbrev pub DoingMay : (limits : Limits) → Operation → Args → Type 0
DoingMay limits (O.Measure measure) operands = Unit {0}
DoingMay limits operation operands = AllWrite limits operands

pub doing_may : (scope : Here) (limits : Limits) → scope.dest ≡ None → (operation : Operation) (ty : Option Ty) (operands : Args) →
    act_fits scope ty (Doing operation) operands ≡ true → AllPaths PassesNoRef operands → NoneBegins limits.kept (written_by (Doing operation) operands) →
    DoingMay limits operation operands
doing_may scope limits none (O.Measure measure) ty operands e n w = tt
doing_may scope limits none operation ty operands e n w =
    all_may limits operands n (all_written scope none operation operands refl (taken_all scope operation ty operands e)) w

pub calling_may : (scope : Here) (limits : Limits) (proc : ℕ) (types : List Ty) (ty : Option Ty) (operands : Args) →
    act_fits scope ty (Calling proc types) operands ≡ true → AllPaths PassesNoRef operands → NoneBegins limits.kept (lent_in operands) →
    AllWrite limits operands
calling_may scope limits proc types ty operands e n w =
    all_may limits operands n (call_written scope (slice_get scope.procs proc) types ty operands e) w

-- ---- what is handed over parts

abbrev step_as : E.Step → Step
step_as (E.field i) = to_field i
step_as E.element = to_element

abbrev all_as : List E.Step → List Step
all_as [] = []
all_as (s ∷ steps) = step_as s ∷ all_as steps

as_both : (a b : List E.Step) → all_as (a ++ b) ≡ all_as a ++ all_as b
as_both [] b = refl
as_both (s ∷ a) b = ap (λ (ss : List Step). step_as s ∷ ss) (as_both a b)

steps_as : (path : Path) → all_as (steps_of path) ≡ path_steps path
steps_as (Variable node ty place is_global) = refl
steps_as (Fresh value) = refl
steps_as (Field node ty base field) = as_both (steps_of base) (E.field field ∷ []) ∙ ap (λ (ss : List Step). ss ++ to_field field ∷ []) (steps_as base)
steps_as (Element node ty base index constant) = as_both (steps_of base) (E.element ∷ []) ∙ ap (λ (ss : List Step). ss ++ to_element ∷ []) (steps_as base)
steps_as (Deref ty base) = steps_as base

-- the other way round
differ_as : (a b : List E.Step) → differ a b ≡ true → Differ (all_as b) (all_as a)
differ_as [] b e = absurd (false≢true e)
differ_as (E.field i ∷ a) [] e = absurd (false≢true e)
differ_as (E.element ∷ a) [] e = absurd (false≢true e)
differ_as (E.field i ∷ a) (E.field j ∷ b) e = by (nat_eq i j) refl e (λ q. differ_as a b q)
  where
    by : (c : Bool) → nat_eq i j ≡ c → not c || differ a b ≡ true → (differ a b ≡ true → Differ (all_as b) (all_as a)) →
        Differ (to_field j ∷ all_as b) (to_field i ∷ all_as a)
    by true is e rest = further_differ (rest e)
    by false is e rest = another_field (λ q. false≢true (sym is ∙ eq-eqb i j (sym q)))
differ_as (E.field i ∷ a) (E.element ∷ b) e = further_differ (differ_as a b e)
differ_as (E.element ∷ a) (E.field j ∷ b) e = further_differ (differ_as a b e)
differ_as (E.element ∷ a) (E.element ∷ b) e = further_differ (differ_as a b e)

root_is : (path : Path) (in_start : Bool) (n : ℕ) → BeginsAt path in_start n → root_of path ≡ Some n
root_is (Variable node ty place g) in_start n b = ap (λ (m : ℕ). Some m) b.1
root_is (Fresh value) in_start n b = elim b [ ]
root_is (Field node ty base field) in_start n b = root_is base in_start n b
root_is (Element node ty base index constant) in_start n b = root_is base in_start n b
root_is (Deref ty base) in_start n b = root_is base in_start n b

no_overlap : (path other : Path) → overlap other path ≡ false → PathsPart path other
no_overlap path other e in_start n b c =
    subst (λ s. Differ s (path_steps other)) (steps_as path) (subst (λ s. Differ (all_as (steps_of path)) s) (steps_as other)
    (differ_as (steps_of other) (steps_of path) (by (same_root (root_of other) (root_of path)) one_root (differ (steps_of other) (steps_of path)) e)))
  where
    one_root : same_root (root_of other) (root_of path) ≡ true
    one_root =
        subst (λ r. same_root r (root_of path) ≡ true) (sym (root_is other in_start n c))
        (subst (λ r. same_root (Some n) r ≡ true) (sym (root_is path in_start n b)) (eq-eqb n n refl))

    by : (r : Bool) → r ≡ true → (d : Bool) → r && not d ≡ false → d ≡ true
    by true q true e = refl
    by true q false e = absurd (false≢true (sym e))
    by false q d e = absurd (false≢true q)

parts_from : (path : Path) (operands : Args) → PartsFrom path (lent_in operands) → AllPaths (λ other. PathsPart path other) operands
parts_from path NoArg parts = tt
parts_from path (ByValue value rest) parts = parts_from path rest parts
parts_from path (ByPath other rest) parts = (no_overlap path other parts.0, parts_from path rest parts.1)

each_parts : (operands : Args) → PartWays (lent_in operands) → EachPart operands
each_parts NoArg parts = tt
each_parts (ByValue value rest) parts = each_parts rest parts
each_parts (ByPath path rest) parts = (parts_from path rest parts.0, each_parts rest parts.1)

-- ---- what occurs

-- globals are among those that are seen, and so are all that a procedure names that is called; none of these is handed over to it
abbrev pub OccurrenceSo : (named : (proc g : ℕ) → Bool) (seen : ℕ → Bool) → Occurrence → Type 0
OccurrenceSo named seen (global place) = seen place ≡ true
OccurrenceSo named seen (calls proc) = (g : ℕ) → named proc g ≡ true → seen g ≡ true
OccurrenceSo named seen (hands proc at place) = named proc place ≡ true → ⊥

abbrev pub AllOccur : (named : (proc g : ℕ) → Bool) (seen : ℕ → Bool) → List Occurrence → Type 0
AllOccur named seen [] = Unit {0}
AllOccur named seen (o ∷ rest) = OccurrenceSo named seen o × AllOccur named seen rest

module _ (named : (proc g : ℕ) → Bool) (seen : ℕ → Bool) where
  pub occur_first : (os ps : List Occurrence) → AllOccur named seen (os ++ ps) → AllOccur named seen os
  occur_first [] ps all = tt
  occur_first (o ∷ os) ps all = (all.0, occur_first os ps all.1)

  pub occur_second : (os ps : List Occurrence) → AllOccur named seen (os ++ ps) → AllOccur named seen ps
  occur_second [] ps all = all
  occur_second (o ∷ os) ps all = occur_second os ps all.1

  root_at_global : (path : Path) (g : ℕ) → PassesNoRef path → BeginsAt path true g → global_root path ≡ Some g
  root_at_global (Variable node ty place is_global) g n b = ap (λ c. root_if c place) b.0 ∙ ap (λ (m : ℕ). Some m) b.1
  root_at_global (Fresh value) g n b = elim b [ ]
  root_at_global (Field node ty base field) g n b = root_at_global base g n b
  root_at_global (Element node ty base index constant) g n b = root_at_global base g n b
  root_at_global (Deref ty base) g n b = elim n [ ]

  unnamed_so : (proc : ℕ) (operands : Args) → AllPaths PassesNoRef operands → AllOccur named seen (in_args (Some proc) operands) →
      AllPaths (λ path. (g : ℕ) → BeginsAt path true g → named proc g ≡ true → ⊥) operands
  unnamed_so proc NoArg n all = tt
  unnamed_so proc (ByValue value rest) n all = unnamed_so proc rest n (occur_second (in_expr value) (in_args (Some proc) rest) all)
  unnamed_so proc (ByPath path rest) n all =
      let behind = occur_second (in_path path) (hands_by (Some proc) path ++ in_args (Some proc) rest) all in (
        λ g b. (subst (λ r. AllOccur named seen (hands_if proc (node_at path).at r)) (root_at_global path g n.0 b)
            (occur_first (hands_by (Some proc) path) (in_args (Some proc) rest) behind)).0,
        unnamed_so proc rest n.1 (occur_second (hands_by (Some proc) path) (in_args (Some proc) rest) behind),
      )

  pub site_so : (proc : ℕ) (operands : Args) → AllPaths PassesNoRef operands → PartWays (lent_in operands) →
      AllOccur named seen (calls proc ∷ in_args (Some proc) operands) → SiteSo named seen proc operands
  site_so proc operands n parts all = record { part = each_parts operands parts; unnamed = unnamed_so proc operands n all.1; sees = all.0 }

-- ---- of procedures, and of the start code

abbrev pub names_of : List Proc → (proc g : ℕ) → Bool
names_of procs proc g = names procs g proc

module _ (procs : List Proc) (found : NamesFound) where
  unnamed_if : (proc place : ℕ) → (Names procs place proc → ⊥) → names_of procs proc place ≡ true → ⊥
  unnamed_if proc place none e = none ((found procs place proc).0 e)

  -- where all that occurs in some of a procedure's code occurs in it
  occur_in : (p : ℕ) (os : List Occurrence) → ((o : Occurrence) → OccursIn o os → OccursIn o (occurring procs p)) → HandsUnnamed procs os →
      AllOccur (names_of procs) (names_of procs p) os
  occur_in p [] within unnamed = tt
  occur_in p (global place ∷ rest) within unnamed = (
    (found procs place p).1 (by_use (within (global place) here)),
    occur_in p rest (λ o i. within o (further i)) unnamed,
  )
  occur_in p (calls proc ∷ rest) within unnamed = (
    λ g e. (found procs g p).1 (by_call (within (calls proc) here) ((found procs g proc).0 e)),
    occur_in p rest (λ o i. within o (further i)) unnamed,
  )
  occur_in p (hands proc at place ∷ rest) within unnamed =
      (unnamed_if proc place unnamed.0, occur_in p rest (λ o i. within o (further i)) unnamed.1)

  pub occur_in_body : (p : ℕ) (proc : Proc) (body : Body) → slice_get procs p ≡ Some proc → proc.body ≡ Some body → HandsUnnamed procs (in_block body.stmts) →
      AllOccur (names_of procs) (names_of procs p) (in_block body.stmts)
  occur_in_body p proc body e f unnamed =
      occur_in p (in_block body.stmts)
      (λ o i. subst (λ (found : Option Proc). OccursIn o (in_proc found)) (sym e) (subst (λ (b : Option Body). OccursIn o (in_body b)) (sym f) i)) unnamed

  -- all globals are seen from there
  pub occur_at_start : (os : List Occurrence) → HandsUnnamed procs os → AllOccur (names_of procs) (λ g. true) os
  occur_at_start [] unnamed = tt
  occur_at_start (global place ∷ rest) unnamed = (refl, occur_at_start rest unnamed)
  occur_at_start (calls proc ∷ rest) unnamed = (λ g e. refl, occur_at_start rest unnamed)
  occur_at_start (hands proc at place ∷ rest) unnamed = (unnamed_if proc place unnamed.0, occur_at_start rest unnamed.1)
