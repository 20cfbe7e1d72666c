-- What the scope declares while a section is read, by name.
use Rattle.std.proofs.Common.{◌≡◌, ℕ, suc, ◌≤◌, List, [], ◌∷◌, ◌++◌, length, drop, take, refl, sym, ap, ap₂, ◌∙◌}
use Rattle.std.proofs.Common.{arith}
use Rattle.std.proofs.Common.{length-append}
use Rattle.std.specs.Prelude.{Bool, true, false, ◌||◌, if◌then◌else◌, Option, map, Ok, Err}
use Rattle.std.specs.HashSet.{HashSet}
use Rattle.std.proofs.lemmas.List.{drop-map}
use Rattle.arc_base.specs.declared.place.Place.{Place}
use Rattle.indent_scanner.specs.Words.{normal}
use Rattle.nim_tree.specs.declared.name.Name.{Name}
use Rattle.nim_tree.specs.Types as body
use Rattle.nim_tree.specs.Types.{Body, Declaration}
use Rattle.nim_types.specs.Types as type
use Rattle.nim_types.specs.Types.{Ty, Key, same_text}
use Rattle.arc_base.specs.Refusal.{and_then}
use Rattle.expr_rules.specs.Answers.{Answer}
use Rattle.expr_rules.specs.Env.{Entry, name_in}
use Rattle.expr_rules.specs.Constructions.{is_among}
use Rattle.expr_parts.specs.declared.scope.Decl.{Decl}
use Rattle.expr_parts.specs.declared.scope.Scope.{Scope}
use Rattle.expr_parts.specs.declared.scope.What.{What}
use Rattle.expr_parts.specs.declared.scope.What.TheVariants as what
use Rattle.expr_parts.specs.View.{entry_of, entry_by}
use Rattle.expr_parts.specs.ViewDecls.{declares}
use Rattle.expr_parts.proofs.ForCallers.{text_sound}
use Rattle.decl_rules.specs.State.{State, own_entries, is_declared, if_new}
use Rattle.decl_rules.specs.Sections.{members_rule, member_of, member_names, seen_members}
use Rattle.decl_written.specs.ViewWritten.{HasNames}
use Rattle.decl_sections.specs.declared.bodies.Declared.{Declared as Seen}
use Rattle.decl_sections.specs.ViewBodies.{IsDeclared, own_decls, member_entries}
use Rattle.decl_types.specs.ViewScoped.{own_in, decls_by, type_decl}
use Rattle.decl_sections.specs.ViewSections.{members_in}

no_bool : {A : Type 0} (b : Bool) → b ≡ true → b ≡ false → A
no_bool b e f = cc

-- ---- by name

entry_name : (ts : List Ty) (x : List ℕ) (w : What) → name_in (entry_by ts x w) ≡ x
entry_name ts x (what.Variable place ty writable global) = refl
entry_name ts x (what.Constant ty l) = refl
entry_name ts x (what.Type id) = refl
entry_name ts x what.Pending = refl
entry_name ts x (what.Procedure p) = refl
entry_name ts x what.Input = refl

pub declared_as : (ts : List Ty) (x : List ℕ) (ds : List Decl) → declares x ds ≡ is_declared x (map (entry_of ts) ds)
declared_as ts x [] = refl
declared_as ts x (d ∷ ds) = ap₂ (λ n r. same_text x n || r) (sym (entry_name ts d.name d.what)) (declared_as ts x ds)

pub declares_both : (x : List ℕ) (a b : List Decl) → declares x (a ++ b) ≡ (declares x a || declares x b)
declares_both x [] b = refl
declares_both x (d ∷ a) b = ap (λ r. same_text x d.name || r) (declares_both x a b) ∙ or_on (same_text x d.name) (declares x a) (declares x b)
  where
    or_on : (p q r : Bool) → (p || (q || r)) ≡ ((p || q) || r)
    or_on true q r = refl
    or_on false q r = refl

declared_both : (x : List ℕ) (a b : List Entry) → is_declared x (a ++ b) ≡ (is_declared x a || is_declared x b)
declared_both x [] b = refl
declared_both x (e ∷ a) b = ap (λ r. same_text x (name_in e) || r) (declared_both x a b)
    ∙ or_on (same_text x (name_in e)) (is_declared x a) (is_declared x b)
  where
    or_on : (p q r : Bool) → (p || (q || r)) ≡ ((p || q) || r)
    or_on true q r = refl
    or_on false q r = refl

by_either : (a b : Bool) (P : Type 0) → (a || b) ≡ true → (a ≡ true → P) → (b ≡ true → P) → P
by_either true b P e f g = f refl
by_either false b P e f g = g e

not_first : (a b : Bool) → (a || b) ≡ false → a ≡ false
not_first true b e = cc
not_first false b e = refl

-- ---- types

types_new : (own : List ℕ → Bool) (names : List (List ℕ)) (known : List (Option ℕ)) (all : List Declaration) (x : List ℕ)
    → declares x (decls_by own names known all) ≡ true → own x ≡ false
types_new own names [] [] x h = cc
types_new own names [] (d ∷ rest) x h = cc
types_new own names (o ∷ known) [] x h = cc
types_new own names (o ∷ known) (d ∷ rest) x h =
    by_name (own (normal d.name.text) || is_among (normal d.name.text) names) refl h (λ more e. types_new own more known rest x e)
  where
    by_name : (b : Bool) → (own (normal d.name.text) || is_among (normal d.name.text) names) ≡ b
        → declares x (if b then decls_by own names known rest else type_decl (normal d.name.text) o ∷ decls_by own
        (normal d.name.text ∷ names) known rest)
        ≡ true
        → ((more : List (List ℕ)) → declares x (decls_by own more known rest) ≡ true → own x ≡ false) → own x ≡ false
    by_name true t e go = go names e
    by_name false t e go =
        by_either (same_text x (normal d.name.text)) (declares x (decls_by own (normal d.name.text ∷ names) known rest)) (own x ≡ false) e
        (λ s. ap own (text_sound x (normal d.name.text) s) ∙ not_first (own (normal d.name.text)) (is_among (normal d.name.text) names) t)
        (λ r. go (normal d.name.text ∷ names) r)

-- ---- what is declared

take_front : (xs ys : List Decl) → take (length xs) (xs ++ ys) ≡ xs
take_front [] ys = refl
take_front (x ∷ xs) ys = ap (λ l. x ∷ l) (take_front xs ys)

drop_front : (xs ys : List Decl) → drop (length xs) (xs ++ ys) ≡ ys
drop_front [] ys = refl
drop_front (x ∷ xs) ys = drop_front xs ys

-- the names of the scope are those of before and of the section, and none twice
pub declared_is : (ts : List Ty) (st : State) (all : List Declaration) (old seen : List Decl) (known : List (Option ℕ)) (members : List Entry)
    (declared : Seen) (scope : Scope) → st.env.entries ≡ map (entry_of ts) old → st.outside ≤ length old
    → scope.decls ≡ old ++ (decls_by (own_in st) [] known all ++ seen) → members ≡ map (entry_of ts) seen
    → ((x : List ℕ) → is_declared x members ≡ true → own_in st x ≡ false) → declared.outside ≡ st.outside → declared.start ≡ length old
    → IsDeclared st declared scope
declared_is ts st all old seen known members declared scope entries le decls shown fresh begins starts =
    let types = decls_by (own_in st) [] known all in
    let own : own_decls declared.outside declared.start scope.decls ≡ drop st.outside old =
    ap₂ (λ (o : ℕ) (ds : List Decl). drop o ds) begins
    (ap₂ (λ (s : ℕ) (ds : List Decl). take s ds) starts decls ∙ take_front old (types ++ seen)) in
    let is : (x : List ℕ) → is_declared x (own_entries st) ≡ declares x (drop st.outside old) = λ x.
    ap (λ es. is_declared x (drop st.outside es)) entries ∙ ap (is_declared x) (drop-map (entry_of ts) st.outside old)
    ∙ sym (declared_as ts x (drop st.outside old)) in
    record {
      begins = let b = begins in let s = starts in omega (arith, b, s, le);
      ends = let l = ap length decls in let s = starts in omega (arith, l, s, length-append old (types ++ seen));
      own = λ x. is x ∙ ap (declares x) (sym own);
      none_twice = λ x h.
          let behind = sym (declares_both x types seen)
          ∙ ap (declares x) (sym (ap₂ (λ (s : ℕ) (ds : List Decl). drop s ds) starts decls ∙ drop_front old (types ++ seen))) ∙ h in
          let new : own_in st x ≡ false =
          by_either (declares x types) (declares x seen) (own_in st x ≡ false) behind (types_new (own_in st) [] known all x)
          (λ r. fresh x (ap (is_declared x) shown ∙ sym (declared_as ts x seen) ∙ r)) in
          ap (declares x) own ∙ sym (is x) ∙ new;
    }

-- ---- members

pub names_members : (ty : Ty) (i : ℕ) (ms : List (List ℕ)) → member_names (member_entries ty i ms) ≡ ms
names_members ty i [] = refl
names_members ty i (x ∷ ms) = ap (λ l. x ∷ l) (names_members ty (suc i) ms)

new_is : (b : Bool) (at : Place) → if_new b at ≡ Ok tt → b ≡ false
new_is true at e = cc
new_is false at e = refl

abbrev entries_or : List Entry → Answer (List Entry) → List Entry
entries_or es (Ok all) = all
entries_or es (Err r) = es

members_new : (st : State) (names : List (List ℕ)) (ty : Ty) (i : ℕ) (all : List Name) (es : List Entry) → members_rule st names ty i all ≡ Ok es
    → (x : List ℕ) → is_declared x es ≡ true → own_in st x ≡ false
members_new st names ty i [] es e x h = no_bool (is_declared x es) h (ap (is_declared x) (sym (ap (entries_or es) e)))
members_new st names ty i (m ∷ rest) es e x h = by_new (is_declared (normal m.text) (own_entries st) || is_among (normal m.text) names) refl e
    (λ more s r. members_new st (normal m.text ∷ names) ty (suc i) rest more s x r)
  where
    by_rest : (said : Answer (List Entry)) → members_rule st (normal m.text ∷ names) ty (suc i) rest ≡ said → own_in st (normal m.text) ≡ false
        → and_then said (λ more. Ok (member_of ty i m ∷ more)) ≡ Ok es
        → ((more : List Entry) → members_rule st (normal m.text ∷ names) ty (suc i) rest ≡ Ok more → is_declared x more ≡ true
        → own_in st x ≡ false)
        → own_in st x ≡ false
    by_rest (Err r) s n f go = cc
    by_rest (Ok more) s n f go =
        by_either (same_text x (normal m.text)) (is_declared x more) (own_in st x ≡ false) (ap (is_declared x) (ap (entries_or es) f) ∙ h)
        (λ t. ap (own_in st) (text_sound x (normal m.text) t) ∙ n)
        (λ r. go more s r)

    by_new : (b : Bool) → (is_declared (normal m.text) (own_entries st) || is_among (normal m.text) names) ≡ b
        → and_then (if_new b m.at) (λ _. and_then (members_rule st (normal m.text ∷ names) ty (suc i) rest) (λ more. Ok (member_of ty i m ∷ more)))
        ≡ Ok es
        → ((more : List Entry) → members_rule st (normal m.text ∷ names) ty (suc i) rest ≡ Ok more → is_declared x more ≡ true
        → own_in st x ≡ false)
        → own_in st x ≡ false
    by_new true s f go = cc
    by_new false s f go =
        by_rest (members_rule st (normal m.text ∷ names) ty (suc i) rest) refl
        (not_first (is_declared (normal m.text) (own_entries st)) (is_among (normal m.text) names) s) f go

pub members_fresh : (st : State) (names : List (List ℕ)) (key : Key) (b : Body) (es : List Entry) → members_in st names key b ≡ Ok es → (x : List ℕ)
    → is_declared x es ≡ true → own_in st x ≡ false
members_fresh st names key (body.object at is_ref parent inside) es e x h =
    no_bool (is_declared x es) h (ap (is_declared x) (sym (ap (entries_or es) e)))
members_fresh st names key (body.enum at all) es e x h = members_new st names (type.enum key) 0 all es e x h
members_fresh st names key (body.distinct at base) es e x h = no_bool (is_declared x es) h (ap (is_declared x) (sym (ap (entries_or es) e)))
members_fresh st names key (body.alias of) es e x h = no_bool (is_declared x es) h (ap (is_declared x) (sym (ap (entries_or es) e)))

seen_among : (types : List (List ℕ)) (es : List Entry) (x : List ℕ) → is_declared x (seen_members types es) ≡ true → is_declared x es ≡ true
seen_among types [] x h = h
seen_among types (e ∷ es) x h = by_name (is_among (name_in e) types) h (λ k. seen_among types es x k)
  where
    behind : (a b : Bool) → b ≡ true → (a || b) ≡ true
    behind true b k = refl
    behind false b k = k

    by_name : (b : Bool) → is_declared x (if b then seen_members types es else e ∷ seen_members types es) ≡ true
        → (is_declared x (seen_members types es) ≡ true → is_declared x es ≡ true)
        → (same_text x (name_in e) || is_declared x es) ≡ true
    by_name true k go = behind (same_text x (name_in e)) (is_declared x es) (go k)
    by_name false k go =
        by_either (same_text x (name_in e)) (is_declared x (seen_members types es)) ((same_text x (name_in e) || is_declared x es) ≡ true) k
        (λ t. ap (λ a. a || is_declared x es) t)
        (λ r. behind (same_text x (name_in e)) (is_declared x es) (go r))

-- with those of one definition more
pub fresh_more : (st : State) (types : List (List ℕ)) (members es : List Entry)
    → ((x : List ℕ) → is_declared x members ≡ true → own_in st x ≡ false)
    → ((x : List ℕ) → is_declared x es ≡ true → own_in st x ≡ false)
    → (x : List ℕ) → is_declared x (members ++ seen_members types es) ≡ true → own_in st x ≡ false
fresh_more st types members es f g x h =
    by_either (is_declared x members) (is_declared x (seen_members types es)) (own_in st x ≡ false)
    (sym (declared_both x members (seen_members types es)) ∙ h) (f x) (λ r. g x (seen_among types es x r))

among_in : (x y : List ℕ) (a b : List (List ℕ)) → is_among y (a ++ x ∷ b) ≡ is_among y (x ∷ (a ++ b))
among_in x y [] b = refl
among_in x y (z ∷ a) b = ap (λ c. same_text y z || c) (among_in x y a b) ∙ by_two (same_text y z) (same_text y x) (is_among y (a ++ b))
  where
    by_two : (p q r : Bool) → (p || (q || r)) ≡ (q || (p || r))
    by_two true true r = refl
    by_two true false r = refl
    by_two false true r = refl
    by_two false false r = refl

pub names_turned : {S : Type 0} (set : HashSet (List ℕ) S) (x : List ℕ) (a b : List (List ℕ)) → HasNames set (a ++ x ∷ b)
    → HasNames set (x ∷ (a ++ b))
names_turned set x a b h = λ y. h y ∙ among_in x y a b
