-- The names of a scope, and those that a definition gives.
use Rattle.std.proofs.Common.{take, get_or, drop-cons, add-one, append_assoc, ◌+◌, ◌<◌}
use Rattle.std.proofs.Common.{◌≡◌, ℕ, zero, suc, ◌≤◌, List, [], ◌∷◌, ◌++◌, length, map, subst}
use Rattle.std.proofs.Common.{drop, Bool, true, false, ◌||◌, refl, sym, ap, ap₂, ◌∙◌, arith}
use Rattle.std.specs.Prelude.{Result, Ok, Err, OnOk}
use Rattle.arc_base.specs.declared.place.Stop.{Stop}
use Rattle.arc_base.specs.declared.place.Stop.TheVariants as stop
use Rattle.arc_base.specs.Refusal.{Answers}
use Rattle.nim_tree.specs.declared.name.Declared.{Declared}
use Rattle.nim_types.specs.Types.{Ty, same_text}
use Rattle.expr_rules.specs.Answers.{Answer}
use Rattle.expr_rules.specs.Constructions.{is_among}
use Rattle.expr_rules.specs.Env.{name_in}
use Rattle.expr_parts.specs.declared.scope.Decl.{Decl}
use Rattle.expr_parts.specs.declared.scope.Scope.{Scope}
use Rattle.expr_parts.specs.declared.scope.What.{What}
use Rattle.expr_parts.specs.declared.scope.What.TheVariants as what
use Rattle.expr_parts.specs.View.{entry_by, entry_of}
use Rattle.expr_parts.specs.ViewDecls.{declares}
use Rattle.decl_rules.specs.State.{State, own_entries, is_declared}
use Rattle.decl_rules.specs.Definitions.{names_behind}
use Rattle.decl_parts.specs.declared.state.State.{State as RustState}
use Rattle.decl_parts.specs.View.{own_names, Beside, Ready, Stands, Stating}
use Rattle.decl_parts.proofs.Growing.{scope_by}
use Rattle.decl_parts.proofs.Stating.{further_same, further_as, stands_still}

named_by : (ts : List Ty) (x : List ℕ) (w : What) → name_in (entry_by ts x w) ≡ x
named_by ts x (what.Variable place ty writable global) = refl
named_by ts x (what.Constant ty l) = refl
named_by ts x (what.Type id) = refl
named_by ts x what.Pending = refl
named_by ts x (what.Procedure p) = refl
named_by ts x what.Input = refl

declared_as : (ts : List Ty) (x : List ℕ) (ds : List Decl) → declares x ds ≡ is_declared x (map (entry_of ts) ds)
declared_as ts x [] = refl
declared_as ts x (d ∷ ds) = ap₂ (λ n r. same_text x n || r) (sym (named_by ts d.name d.what)) (declared_as ts x ds)

or_false : (a : Bool) → a ≡ (a || false)
or_false true = refl
or_false false = refl

-- before the first name
pub own_begin : (ts : List Ty) (st : State) (outside : ℕ) (ds : List Decl) → own_entries st ≡ map (entry_of ts) (drop outside ds)
    → own_names outside ds st []
own_begin ts st outside ds e = λ x.
    declared_as ts x (drop outside ds) ∙ ap (is_declared x) (sym e) ∙ or_false (is_declared x (own_entries st))

drop_front : (n : ℕ) (xs ys : List Decl) → n ≤ length xs → drop n (xs ++ ys) ≡ drop n xs ++ ys
drop_front zero xs ys h = refl
drop_front (suc n) [] ys h = absurd (omega (arith, h))
drop_front (suc n) (x ∷ xs) ys h = drop_front n xs ys (omega (arith, h))

turned : (a b c : Bool) → (a || (b || c)) ≡ ((a || b) || c)
turned true b c = refl
turned false b c = refl

declares_more : (x : List ℕ) (ds : List Decl) (d : Decl) → declares x (ds ++ d ∷ []) ≡ (declares x ds || same_text x d.name)
declares_more x [] d = sym (or_false (same_text x d.name))
declares_more x (e ∷ ds) d =
    ap (λ r. same_text x e.name || r) (declares_more x ds d) ∙ turned (same_text x e.name) (declares x ds) (same_text x d.name)

swapped : (a b c : Bool) → ((a || b) || c) ≡ (a || (c || b))
swapped true b c = refl
swapped false true true = refl
swapped false true false = refl
swapped false false true = refl
swapped false false false = refl

-- with one name more
pub own_more : (outside : ℕ) (ds more : List Decl) (d : Decl) (x : List ℕ) (st : State) (before : List (List ℕ)) → outside ≤ length ds
    → more ≡ ds ++ d ∷ [] → d.name ≡ x → own_names outside ds st before → own_names outside more st (x ∷ before)
own_more outside ds more d x st before le e n h = λ y.
    ap (λ l. declares y (drop outside l)) e ∙ ap (declares y) (drop_front outside ds (d ∷ []) le) ∙ declares_more y (drop outside ds) d
    ∙ ap₂ (λ a t. a || same_text y t) (h y) n
    ∙ swapped (is_declared y (own_entries st)) (is_among y before) (same_text y x)

-- ---- further names

pub record NamesLeft (outside : ℕ) (ds : List Decl) (st : State) (fits : Bool) (names : List Declared) (whole : Answer (Unit {0})) : Type 0 where
  pub before : List (List ℕ)
  pub own : own_names outside ds st before
  pub rest : whole ≡ names_behind st before fits names

pub next_name : {A : Type 0} (xs : List A) (i : ℕ) (x : A) → x ≡ get_or xs i x → i < length xs → drop i xs ≡ x ∷ drop (i + 1) xs
next_name xs i x e h = rw add-one (drop-cons xs i x h ∙ ap (λ y. y ∷ drop (suc i) xs) (sym e))

pub begins_on : {T : Type 0} {b : List Decl} (a c : List Decl) (r : Result T Stop) → (more : List Decl) × (b ≡ a ++ more)
    → OnOk r ((more : List Decl) × (c ≡ b ++ more)) → OnOk r ((more : List Decl) × (c ≡ a ++ more))
begins_on a c (Ok x) f g = (f.0 ++ g.0, g.1 ∙ ap (λ l. l ++ g.0) f.1 ∙ append_assoc a f.0 g.0)
begins_on a c (Err s) f g = tt

take_front : (xs ys : List Decl) → take (length xs) (xs ++ ys) ≡ xs
take_front [] ys = refl
take_front (x ∷ xs) ys = ap (λ l. x ∷ l) (take_front xs ys)

-- behind the last name the scope is as it was
pub scope_left : (old mid new : Scope) (count : ℕ) (more : List Decl) → count ≡ length old.decls → mid.decls ≡ old.decls ++ more
    → mid.kinds ≡ old.kinds → mid.home ≡ old.home → new.decls ≡ take count mid.decls → new.kinds ≡ mid.kinds → new.home ≡ mid.home
    → new ≡ old
scope_left old mid new count more n e k h d l m =
    scope_by old new (d ∙ ap₂ take n e ∙ take_front old.decls more) (l ∙ k) (m ∙ h)

-- ---- a state whose scope stays

pub names_same : (old : RustState) (scope : Scope) (r : Result (Unit {0}) Stop) → OnOk r (scope ≡ old.scope)
    → OnOk r (record old { scope = scope } ≡ old)
names_same old scope (Ok x) e = ap (λ (z : Scope). record old { scope = z }) e
names_same old scope (Err s) e = tt

names_stand : (old new : RustState) (r : Result (Unit {0}) Stop) → Ready old → OnOk r (new ≡ old) → OnOk r (Stands old new)
names_stand old new (Ok x) h e = subst (Stands old) (sym e) (stands_still old h)
names_stand old new (Err s) h e = tt

names_answer : (said : Answer (Unit {0})) (r : Result (Unit {0}) Stop) → Answers (λ (_ : Unit {0}). tt) said r → Answers (λ (x : Unit {0}). x) said r
names_answer said (Ok x) h = h
names_answer said (Err (stop.Refused code at)) h = h
names_answer said (Err stop.Memory) h = tt

-- what the rules say of names, from state to state
pub names_so : (old : RustState) (scope : Scope) (r : Result (Unit {0}) Stop) (said : List Ty → Beside → Answer (Unit {0})) → Ready old
    → ((ts : List Ty) (b : Beside) → Answers (λ (_ : Unit {0}). tt) (said ts b) r) → OnOk r (scope ≡ old.scope)
    → Stating old (record old { scope = scope }) (λ ts b x. x) said r
names_so old scope r said h a s = record {
  further = further_as refl (further_same (record old { scope = scope }));
  stands = names_stand old (record old { scope = scope }) r h (names_same old scope r s);
  answers = λ ts b u. names_answer (said ts b) r (a ts b);
}
