-- What is declared outside of a section names types of before.
use Rattle.std.proofs.Common.{◌≡◌, ℕ, zero, suc, ◌+◌, ◌-◌, ◌<◌, ◌≤◌, List, [], ◌∷◌, ◌++◌, length, Some, None, refl, sym, ap, subst, ◌∙◌, arith}
use Rattle.std.specs.Prelude.{Bool, true, false, ◌||◌, if◌then◌else◌, nat_lt, Option, slice_get, map}
use Rattle.std.proofs.lemmas.Option.{none-some, same_Some}
use Rattle.indent_scanner.specs.Words.{normal}
use Rattle.nim_tree.specs.Types.{Declaration}
use Rattle.nim_types.specs.declared.types.TypeDef.{TypeDef}
use Rattle.nim_types.specs.Types.{Ty}
use Rattle.expr_rules.specs.Constructions.{is_among}
use Rattle.expr_rules.specs.Env.{Entry}
use Rattle.expr_parts.specs.declared.scope.Decl.{Decl}
use Rattle.expr_parts.specs.declared.scope.Scope.{Scope}
use Rattle.expr_parts.specs.declared.scope.What.TheVariants as what
use Rattle.expr_parts.specs.View.{entry_of, entry_by, DeclsWithin, WhatWithin}
use Rattle.decl_rules.specs.State.{State}
use Rattle.decl_rules.specs.Meanings.{keys_of, known_of}
use Rattle.decl_rules.specs.Sections.{Section}
use Rattle.decl_types.specs.declared.nodes.Names.{Names}
use Rattle.decl_types.specs.ViewNodes.{number_in}
use Rattle.decl_types.specs.ViewScoped.{own_in, numbers_by, decls_by, type_decl}
use Rattle.decl_types.proofs.ForCallers.{keys_count, known_count, number_behind}
use Rattle.decl_sections.specs.declared.starting.Frame.{Frame}
use Rattle.decl_sections.specs.declared.starting.Reading.{Reading}
use Rattle.decl_sections.specs.ViewSpelled.{Outer, NumbersBelow}
use Rattle.decl_sections.specs.ViewSections.{IsConstant, AreConstants}
use Rattle.decl_sections.specs.ViewWalk.{Framed, StageOf}

-- ---- numbers of definitions

by_number : (names : Names) (m : ℕ) → ((j k : ℕ) → slice_get names.numbers.items j ≡ Some k → k < m) → (o : Option ℕ) (k : ℕ)
    → number_in names o ≡ Some k → k < m
by_number names m h None k e = absurd (none-some k e)
by_number names m h (Some n) k e = by_start (nat_lt n names.start) e
  where
    by_start : (b : Bool) → (if b then None else slice_get names.numbers.items (n - names.start)) ≡ Some k → k < m
    by_start true e = absurd (none-some k e)
    by_start false e = h (n - names.start) k e

numbers_most : (own : List ℕ → Bool) (names : List (List ℕ)) (i : ℕ) (all : List Declaration) (j k : ℕ)
    → slice_get (numbers_by own names i all) j ≡ Some k → k < i + length all
numbers_most own names i [] j k e = absurd (none-some k e)
numbers_most own names i (d ∷ rest) j k e =
    by_name (own (normal d.name.text) || is_among (normal d.name.text) names) j e (λ more j f. numbers_most own more (suc i) rest j k f)
  where
    by_name : (b : Bool) (j : ℕ)
        → slice_get (if b then numbers_by own names (suc i) rest else i ∷ numbers_by own (normal d.name.text ∷ names) (suc i) rest) j ≡ Some k
        → ((more : List (List ℕ)) (j : ℕ) → slice_get (numbers_by own more (suc i) rest) j ≡ Some k → k < suc i + length rest)
        → k < i + length (d ∷ rest)
    by_name true j e go = let r = go names j e in omega (arith, r)
    by_name false zero e go = let r = same_Some i k e in omega (arith, r)
    by_name false (suc j) e go = let r = go (normal d.name.text ∷ names) j e in omega (arith, r)

pub begun_numbers : (own : List ℕ → Bool) (all : List Declaration) (names : Names) (m : ℕ) → names.numbers.items ≡ numbers_by own [] 0 all
    → m ≡ length all → NumbersBelow m names
begun_numbers own all names m e n = by_number names m (λ j k at.
    let r = numbers_most own [] 0 all j k (ap (λ (l : List ℕ). slice_get l j) (sym e) ∙ at) in
    omega (arith, r, n))

-- one for each declaration
numbers_count : (own : List ℕ → Bool) (names : List (List ℕ)) (known : List (Option ℕ)) (all : List Declaration) (i : ℕ) → length known ≡ length all
    → length (decls_by own names known all) ≡ length (numbers_by own names i all)
numbers_count own names [] [] i e = refl
numbers_count own names (o ∷ known) [] i e = absurd (omega (arith, e))
numbers_count own names [] (d ∷ rest) i e = absurd (omega (arith, e))
numbers_count own names (o ∷ known) (d ∷ rest) i e =
    by_name (own (normal d.name.text) || is_among (normal d.name.text) names) (λ more. numbers_count own more known rest (suc i) (omega (arith, e)))
  where
    by_name : (b : Bool) → ((more : List (List ℕ)) → length (decls_by own more known rest) ≡ length (numbers_by own more (suc i) rest))
        → length (if b then decls_by own names known rest else type_decl (normal d.name.text) o ∷ decls_by own (normal d.name.text ∷ names) known rest)
        ≡ length (if b then numbers_by own names (suc i) rest else i ∷ numbers_by own (normal d.name.text ∷ names) (suc i) rest)
    by_name true go = go names
    by_name false go = ap suc (go (normal d.name.text ∷ names))

-- ---- declarations

within_at : (n : ℕ) (ds : List Decl) (i : ℕ) (d : Decl) → DeclsWithin n ds → slice_get ds i ≡ Some d → WhatWithin n d.what
within_at n [] i d h e = absurd (none-some d e)
within_at n (x ∷ ds) zero d h e = subst (λ (z : Decl). WhatWithin n z.what) (same_Some x d e) h.0
within_at n (x ∷ ds) (suc i) d h e = within_at n ds i d h.1 e

pub outer_ready : (n m : ℕ) (names : Names) (ds : List Decl) → DeclsWithin n ds → NumbersBelow m names
    → Outer n m names ds
outer_ready n m names ds w h = record {
  types = λ i id d e none t. subst (WhatWithin n) t (within_at n ds i d w e);
  numbers = h;
}

get_both : {P : Type 0} (xs ys : List Decl) (i : ℕ) (d : Decl) → slice_get (xs ++ ys) i ≡ Some d → (slice_get xs i ≡ Some d → P)
    → ((j : ℕ) → i ≡ length xs + j → slice_get ys j ≡ Some d → P) → P
get_both [] ys i d e first other = other i (omega arith) e
get_both (x ∷ xs) ys zero d e first other = first e
get_both (x ∷ xs) ys (suc i) d e first other = get_both xs ys i d e first (λ j n f. other j (omega (arith, n)) f)

get_none : (xs : List ℕ) (j : ℕ) → slice_get xs j ≡ None → length xs ≤ j
get_none [] j e = omega arith
get_none (x ∷ xs) zero e = absurd (none-some x (sym e))
get_none (x ∷ xs) (suc j) e = let r = get_none xs j e in omega (arith, r)

get_some : (xs : List Decl) (j : ℕ) (d : Decl) → slice_get xs j ≡ Some d → j < length xs
get_some [] j d e = absurd (none-some d e)
get_some (x ∷ xs) zero d e = omega arith
get_some (x ∷ xs) (suc j) d e = let r = get_some xs j d e in omega (arith, r)

-- ---- members

constant_at : (es : List Entry) (j : ℕ) (e : Entry) → AreConstants es → slice_get es j ≡ Some e → IsConstant e
constant_at [] j e h f = absurd (none-some e f)
constant_at (x ∷ es) zero e h f = subst IsConstant (same_Some x e f) h.0
constant_at (x ∷ es) (suc j) e h f = constant_at es j e h.1 f

get_map : (f : Decl → Entry) (ds : List Decl) (j : ℕ) (d : Decl) → slice_get ds j ≡ Some d → slice_get (map f ds) j ≡ Some (f d)
get_map f [] j d e = absurd (none-some d e)
get_map f (x ∷ ds) zero d e = ap (λ (z : Decl). Some (f z)) (same_Some x d e)
get_map f (x ∷ ds) (suc j) d e = get_map f ds j d e

no_type : (ts : List Ty) (members : List Entry) (seen : List Decl) → members ≡ map (entry_of ts) seen → AreConstants members → (j id : ℕ) (d : Decl)
    → slice_get seen j ≡ Some d → d.what ≡ what.Type id → ⊥
no_type ts members seen e h j id d at t =
    let c : IsConstant (entry_by ts d.name d.what) =
    constant_at members j (entry_of ts d) h (ap (λ es. slice_get es j) e ∙ get_map (entry_of ts) seen j d at) in
    subst (λ w. IsConstant (entry_by ts d.name w)) t c

-- while a section is read
pub outer_stage : (ts : List Ty) (st : State) (all : List Declaration) (old : List Decl) (n : ℕ) (frame : Frame) (ds : List TypeDef) (scope : Scope)
    (reading : Reading) (s : Section) → Framed ts st all old n frame → StageOf ts st all old n ds scope reading s
    → Outer n (length all) frame.names scope.decls
outer_stage ts st all old n frame ds scope reading s f g =
    let keys = keys_of all in
    let known = reading.known.items in
    let names = frame.names in
    let numbers = names.numbers.items in
    let types = decls_by (own_in st) [] known all in
    let h = g.scoped in
    let count : length known ≡ length all = known_count ts keys (known_of keys s.defined) known h.knows ∙ keys_count all in
    let same : length types ≡ length numbers = numbers_count (own_in st) [] known all 0 count ∙ sym (ap length f.fixed.numbers) in
    record {
      types = λ i id d at none t.
          get_both {P = id < n} old (types ++ h.seen) i d (ap (λ (l : List Decl). slice_get l i) (sym h.decls) ∙ at)
          (λ e. subst (WhatWithin n) t (within_at n old i d f.outer e))
          (λ j n e. absurd (get_both {P = ⊥} types h.seen j d e
          (λ e.
          let place : i ≡ names.start + j = omega (arith, n, f.fixed.start) in
          let lt = get_some types j d e in
          let le = get_none numbers j (sym (number_behind names j i place) ∙ none) in
          omega (arith, lt, le, same))
          (λ k m e. no_type ts s.members h.seen h.shown g.constants k id d e t)));
      numbers = begun_numbers (own_in st) all names (length all) f.fixed.numbers refl;
    }
