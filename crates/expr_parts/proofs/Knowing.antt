-- What a name is known as, and which procedure a call of it means, from its last declaration on.
use Rattle.std.proofs.Common.{◌≡◌, ℕ, zero, suc, ◌<◌, ◌≤◌, List, [], ◌∷◌, ◌++◌, length, take, refl, sym, ap}
use Rattle.std.proofs.Common.{◌∙◌, subst, Some, None, append-nil, append_assoc, arith}
use Rattle.std.specs.Prelude.{Bool, true, false, is_some, map, Option, slice_get, if◌then◌else◌}
use Rattle.std.proofs.lemmas.Bool.{both_ways}
use Rattle.std.proofs.lemmas.Option.{none-some, same_Some}
use Rattle.nim_types.specs.Types.{Ty, same_text}
use Rattle.expr_parts.specs.declared.scope.Procedure.{Procedure as RustProcedure}
use Rattle.expr_parts.specs.declared.scope.What.{What}
use Rattle.expr_parts.specs.declared.scope.What.TheVariants as what
use Rattle.expr_parts.specs.declared.scope.Decl.{Decl}
use Rattle.expr_parts.specs.declared.calls.Chosen.{Chosen}
use Rattle.expr_parts.specs.declared.calls.Chosen.TheVariants as chosen
use Rattle.expr_rules.specs.Answers.{Valued, Operand}
use Rattle.expr_rules.specs.Env.{Parameter, Known, unknown, callable, known_next, known_behind}
use Rattle.expr_rules.specs.Calls.{Fit, arguments_for, if_fits, fitting}
use Rattle.expr_parts.specs.View.{procedure_of, entry_of, entry_by, one_more, Chooses, Stands}
use Rattle.expr_parts.specs.ViewDecls.{has_name, is_named, last_of, procedure_in}
use Rattle.expr_parts.proofs.Naming.{name_by}
use Rattle.expr_parts.proofs.Choosing.{known_last, one_further, take_next, take_all, map_last}
use Rattle.expr_parts.proofs.Indexing.{found_below, up_to}

-- what the first n declarations make of a name
abbrev pub known_in : List Ty → List ℕ → List Decl → ℕ → Known
known_in ts x ds n = known_behind unknown x (map (entry_of ts) (take n ds))

known_further : (ts : List Ty) (x : List ℕ) (ds : List Decl) (n : ℕ) (d : Decl) (b : Bool) → slice_get ds n ≡ Some d → same_text x d.name ≡ b
    → known_in ts x ds (suc n) ≡ (if b then known_next (known_in ts x ds n) (entry_of ts d) else known_in ts x ds n)
known_further ts x ds n d b at e =
    ap (λ es. known_behind unknown x (map (entry_of ts) es)) (take_next ds n d at)
    ∙ ap (known_behind unknown x) (map_last (entry_of ts) (take n ds) d)
    ∙ known_last unknown x (map (entry_of ts) (take n ds)) (entry_of ts d) b (ap (same_text x) (name_by ts d.name d.what) ∙ e)

pub entry_at : {X : Type 0} (xs : List X) (n : ℕ) → n < length xs → (x : X) × (slice_get xs n ≡ Some x)
entry_at [] n h = absurd (omega (arith, h))
entry_at (x ∷ xs) zero h = (x, refl)
entry_at (x ∷ xs) (suc n) h = entry_at xs n (omega (arith, h))

pub known_none : (ts : List Ty) (x : List ℕ) (ds : List Decl) (n : ℕ) → n ≤ length ds → last_of ds x n ≡ None → known_in ts x ds n ≡ unknown
known_none ts x ds zero h e = refl
known_none ts x ds (suc n) h e = by_test (is_named ds x n) refl e (λ f. known_none ts x ds n (omega (arith, h)) f)
  where
    by_test : (b : Bool) → is_named ds x n ≡ b → (if b then Some n else last_of ds x n) ≡ None
        → (last_of ds x n ≡ None → known_in ts x ds n ≡ unknown)
        → known_in ts x ds (suc n) ≡ unknown
    by_test true t e f = absurd (none-some n (sym e))
    by_test false t e f =
        let d = entry_at ds n (omega (arith, h)) in known_further ts x ds n d.0 false d.1 (sym (ap (has_name x) d.1) ∙ t) ∙ f e

pub known_from : (ts : List Ty) (x : List ℕ) (ds : List Decl) (n i : ℕ) (d : Decl) → n ≤ length ds → last_of ds x n ≡ Some i
    → slice_get ds i ≡ Some d
    → known_in ts x ds n ≡ known_next (known_in ts x ds i) (entry_of ts d)
known_from ts x ds zero i d h e at = absurd (none-some i e)
known_from ts x ds (suc n) i d h e at = by_test (is_named ds x n) refl e (λ f. known_from ts x ds n i d (omega (arith, h)) f at)
  where
    by_test : (b : Bool) → is_named ds x n ≡ b → (if b then Some n else last_of ds x n) ≡ Some i
        → (last_of ds x n ≡ Some i → known_in ts x ds n ≡ known_next (known_in ts x ds i) (entry_of ts d))
        → known_in ts x ds (suc n) ≡ known_next (known_in ts x ds i) (entry_of ts d)
    by_test true t e f =
        let s : n ≡ i = same_Some n i e in
        let here : slice_get ds n ≡ Some d = ap (slice_get ds) s ∙ at in
        known_further ts x ds n d true here (sym (ap (has_name x) here) ∙ t) ∙ ap (λ k. known_next (known_in ts x ds k) (entry_of ts d)) s
    by_test false t e f =
        let c = entry_at ds n (omega (arith, h)) in known_further ts x ds n c.0 false c.1 (sym (ap (has_name x) c.1) ∙ t) ∙ f e

-- the next one is further down
pub next_smaller : (ds : List Decl) (x : List ℕ) (i : ℕ) → up_to (last_of ds x i) < suc i
next_smaller ds x i = by_next (last_of ds x i) refl
  where
    by_next : (o : Option ℕ) → last_of ds x i ≡ o → up_to o < suc i
    by_next None e = omega arith
    by_next (Some j) e = let l = (found_below (is_named ds x) i j e).1 in omega (arith, l)

-- ---- which procedure is meant

-- of those from a number on these fit, and one goes on below it
pub record Behind (ts : List Ty) (x : List ℕ) (ds : List Decl) (os : List Operand) (n : ℕ) (c : Chosen) : Type 0 where
  pub all : List Fit
  pub chooses : Chooses ts ds os c all
  pub joins : fitting (callable (known_in ts x ds (length ds))) os ≡ fitting (callable (known_in ts x ds n)) os ++ all

pub behind_start : (ts : List Ty) (x : List ℕ) (ds : List Decl) (os : List Operand) → Behind ts x ds os (length ds) chosen.Nothing
behind_start ts x ds os = record {
  all = [];
  chooses = refl;
  joins = sym (append-nil (fitting (callable (known_in ts x ds (length ds))) os));
}

chooses_more : (ts : List Ty) (ds : List Decl) (os : List Operand) (i : ℕ) (d : Decl) (p : RustProcedure) (c : Chosen) (all : List Fit)
    (o : Option (List (Parameter × Valued))) (fits : Bool)
    → slice_get ds i ≡ Some d → d.what ≡ what.Procedure p → arguments_for (procedure_of ts p).params os ≡ o → is_some o ≡ fits
    → Chooses ts ds os c all
    → Chooses ts ds os (if fits then one_more i c else c) (if_fits (procedure_of ts p) o [] ++ all)
chooses_more ts ds os i d p c all None true at w e h k = absurd (both_ways false refl h)
chooses_more ts ds os i d p c all None false at w e h k = k
chooses_more ts ds os i d p c all (Some args) false at w e h k = absurd (both_ways true h refl)
chooses_more ts ds os i d p chosen.Nothing all (Some args) true at w e h k = record {
  decl = d;
  callee = p;
  arguments = args;
  at = at;
  is_procedure = w;
  fits = e;
  only = ap (λ z. record { callee = procedure_of ts p; arguments = args } ∷ z) k;
}
chooses_more ts ds os i d p (chosen.One j) all (Some args) true at w e h k = (
  record { callee = procedure_of ts p; arguments = args },
  record { callee = procedure_of ts k.callee; arguments = k.arguments },
  [],
  ap (λ z. record { callee = procedure_of ts p; arguments = args } ∷ z) k.only,
)
chooses_more ts ds os i d p chosen.Several all (Some args) true at w e h k = (
  record { callee = procedure_of ts p; arguments = args },
  k.0,
  k.1 ∷ k.2,
  ap (λ z. record { callee = procedure_of ts p; arguments = args } ∷ z) k.3,
)

pub is_procedure : (w : What) (p : RustProcedure) → procedure_in w ≡ Some p → w ≡ what.Procedure p
is_procedure (what.Procedure q) p e = ap what.Procedure (same_Some q p e)
is_procedure (what.Variable place ty writable global) p e = absurd (none-some p e)
is_procedure (what.Constant ty l) p e = absurd (none-some p e)
is_procedure (what.Type id) p e = absurd (none-some p e)
is_procedure what.Input p e = absurd (none-some p e)
is_procedure what.Pending p e = absurd (none-some p e)

pub hides : (ts : List Ty) (x : List ℕ) (w : What) (before : Known) → procedure_in w ≡ None → callable (known_next before (entry_by ts x w)) ≡ []
hides ts x (what.Procedure p) before e = absurd (none-some p (sym e))
hides ts x (what.Variable place ty writable global) before e = refl
hides ts x (what.Constant ty l) before e = refl
hides ts x (what.Type id) before e = refl
hides ts x what.Input before e = refl
hides ts x what.Pending before e = refl

pub behind_more : (ts : List Ty) (x : List ℕ) (ds : List Decl) (os : List Operand) (n i : ℕ) (d : Decl) (p : RustProcedure) (c : Chosen) (fits : Bool)
    → n ≤ length ds → last_of ds x n ≡ Some i → slice_get ds i ≡ Some d → d.what ≡ what.Procedure p
    → is_some (arguments_for (procedure_of ts p).params os) ≡ fits → Behind ts x ds os n c → Behind ts x ds os i (if fits then one_more i c else c)
behind_more ts x ds os n i d p c fits h e at w f b =
    let before = known_in ts x ds i in
    let callee = procedure_of ts p in
    let mine = if_fits callee (arguments_for callee.params os) [] in
    let known : known_in ts x ds n ≡ known_next before (entry_by ts d.name (what.Procedure p)) =
    known_from ts x ds n i d h e at ∙ ap (λ z. known_next before (entry_by ts d.name z)) w in
    record {
      all = mine ++ b.all;
      chooses = chooses_more ts ds os i d p c b.all (arguments_for callee.params os) fits at w refl f b.chooses;
      joins = b.joins ∙ ap (λ k. fitting (callable k) os ++ b.all) known ∙ ap (λ z. z ++ b.all) (one_further (callable before) callee os)
          ∙ append_assoc (fitting (callable before) os) mine b.all;
    }

-- what is no procedure hides those before it
pub behind_hidden : (ts : List Ty) (x : List ℕ) (ds : List Decl) (os : List Operand) (n i : ℕ) (d : Decl) (c : Chosen)
    → n ≤ length ds → last_of ds x n ≡ Some i → slice_get ds i ≡ Some d → procedure_in d.what ≡ None → Behind ts x ds os n c
    → Chooses ts ds os c (fitting (callable (known_in ts x ds (length ds))) os)
behind_hidden ts x ds os n i d c h e at w b =
    subst (Chooses ts ds os c)
    (sym (b.joins ∙ ap (λ ps. fitting ps os ++ b.all)
    (ap callable (known_from ts x ds n i d h e at) ∙ hides ts d.name d.what (known_in ts x ds i) w))) b.chooses

pub behind_none : (ts : List Ty) (x : List ℕ) (ds : List Decl) (os : List Operand) (n : ℕ) (c : Chosen) → n ≤ length ds → last_of ds x n ≡ None
    → Behind ts x ds os n c → Chooses ts ds os c (fitting (callable (known_in ts x ds (length ds))) os)
behind_none ts x ds os n c h e b =
    subst (Chooses ts ds os c) (sym (b.joins ∙ ap (λ k. fitting (callable k) os ++ b.all) (known_none ts x ds n h e))) b.chooses

-- ---- look-up

abbrev pub known_all : List Ty → List ℕ → List Decl → Known
known_all ts x ds = known_behind unknown x (map (entry_of ts) ds)

whole : (ts : List Ty) (x : List ℕ) (ds : List Decl) → known_all ts x ds ≡ known_in ts x ds (length ds)
whole ts x ds = ap (λ all. known_all ts x all) (sym (take_all ds (length ds) (omega arith)))

pub stands_found : (ts : List Ty) (x : List ℕ) (ds : List Decl) (i : ℕ) (d : Decl) → last_of ds x (length ds) ≡ Some i → slice_get ds i ≡ Some d
    → Stands ts (Some d) (known_all ts x ds)
stands_found ts x ds i d e at = (known_in ts x ds i, whole ts x ds ∙ known_from ts x ds (length ds) i d (omega arith) e at)

pub stands_none : (ts : List Ty) (x : List ℕ) (ds : List Decl) → last_of ds x (length ds) ≡ None → Stands ts None (known_all ts x ds)
stands_none ts x ds e = whole ts x ds ∙ known_none ts x ds (length ds) (omega arith) e
