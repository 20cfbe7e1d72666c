-- Names of parts, and types of tuples.
use Rattle.std.proofs.Common.{◌≡◌, ℕ, ◌<◌, List, [], ◌∷◌, length, refl, sym, ap, ap₂, ◌∙◌, Some, None, ◌++◌, ◌+◌}
use Rattle.std.proofs.Common.{◌≤◌, drop, get_or, subst}
use Rattle.std.proofs.Common.{append_assoc, append-nil}
use Rattle.std.specs.Prelude.{Bool, true, false, ◌&&◌, if◌then◌else◌, nat_eq, map, Option, not}
use Rattle.std.specs.Cmp.Lexicographic.{pointwise}
use Rattle.std.proofs.lemmas.Bool.{eqb-true}
use Rattle.std.proofs.lemmas.Option.{same_Some}
use Rattle.indent_scanner.specs.Words.{normal}
use Rattle.nim_tree.specs.declared.expr.Expr.{Expr as Tree}
use Rattle.nim_tree.specs.Terms as term
use Rattle.nim_tree.specs.Terms.{Term, Parts, part, term_of, parts_of}
use Rattle.nim_types.specs.declared.types.TypeDef.{TypeDef}
use Rattle.nim_types.specs.declared.types.TypeDef.TheVariants as D
use Rattle.nim_types.specs.Types as type
use Rattle.nim_types.specs.Types.{Ty, Tys, Facts, same_all}
use Rattle.nim_types.specs.Table.{type_at, types_at, meant, AllBelow, IsWithin}
use Rattle.nim_program.specs.View.{if_type}
use Rattle.expr_parts.specs.declared.value.Value.{Value as RustValue}
use Rattle.expr_rules.specs.Answers.{whole, inner, types_of, Want, Valued}
use Rattle.expr_rules.specs.Constructions.{part_names, tuple_type, are_names, has_twice, inner_wants, tuple_wants}
use Rattle.expr_parts.specs.View.{Under, valued_of}
use Rattle.expr_builds.specs.ViewBuilt.{part_name, TakesTuple, or_tuple, has_names, first_number, wants_of}
use Rattle.expr_parts.specs.ViewReady.{ValuesWithin}
use Rattle.expr_parts.proofs.ForCallers.{next_item, none_left}
use Rattle.expr_parts.proofs.ForCallers.{counted}
use Rattle.expr_parts.proofs.ForCallers.{interned_under}

pub name_first : (t : Term) (rest : Parts) (x : List ℕ) → part_name t ≡ Some x → part_names (part t rest) ≡ normal x ∷ part_names rest
name_first (term.named at y a) rest x e = ap (λ z. normal z ∷ part_names rest) (same_Some y x e)
name_first (term.int at z) rest x e = cc
name_first (term.char at z) rest x e = cc
name_first (term.text at z) rest x e = cc
name_first (term.name at z) rest x e = cc
name_first (term.quoted at z) rest x e = cc
name_first (term.nil at) rest x e = cc
name_first (term.paren at a) rest x e = cc
name_first (term.tuple at ps) rest x e = cc
name_first (term.array at ps) rest x e = cc
name_first (term.sequence at ps) rest x e = cc
name_first (term.construct at z ps) rest x e = cc
name_first (term.field at a z) rest x e = cc
name_first (term.call at a ps) rest x e = cc
name_first (term.index at a ps) rest x e = cc
name_first (term.unary at op a) rest x e = cc
name_first (term.binary at op a b) rest x e = cc
name_first (term.if_term at cs a) rest x e = cc
name_first (term.case_term at a cs) rest x e = cc
name_first (term.case_else at a cs b) rest x e = cc
name_first (term.range at a b) rest x e = cc

pub no_name : (t : Term) (rest : Parts) → part_name t ≡ None → part_names (part t rest) ≡ []
no_name (term.named at y a) rest e = cc
no_name (term.int at z) rest e = refl
no_name (term.char at z) rest e = refl
no_name (term.text at z) rest e = refl
no_name (term.name at z) rest e = refl
no_name (term.quoted at z) rest e = refl
no_name (term.nil at) rest e = refl
no_name (term.paren at a) rest e = refl
no_name (term.tuple at ps) rest e = refl
no_name (term.array at ps) rest e = refl
no_name (term.sequence at ps) rest e = refl
no_name (term.construct at z ps) rest e = refl
no_name (term.field at a z) rest e = refl
no_name (term.call at a ps) rest e = refl
no_name (term.index at a ps) rest e = refl
no_name (term.unary at op a) rest e = refl
no_name (term.binary at op a b) rest e = refl
no_name (term.if_term at cs a) rest e = refl
no_name (term.case_term at a cs) rest e = refl
no_name (term.case_else at a cs b) rest e = refl
no_name (term.range at a b) rest e = refl

-- ---- the type that its place gives

same_numbers : (is js : List ℕ) → pointwise nat_eq is js ≡ true → is ≡ js
same_numbers [] [] e = refl
same_numbers [] (j ∷ js) e = cc
same_numbers (i ∷ is) [] e = cc
same_numbers (i ∷ is) (j ∷ js) e = by_first (same_numbers is js) (nat_eq i j) refl e
  where
    by_first : (pointwise nat_eq is js ≡ true → is ≡ js) → (b : Bool) → nat_eq i j ≡ b → (b && pointwise nat_eq is js) ≡ true
        → (i ∷ is) ≡ (j ∷ js)
    by_first more true h e = ap₂ (λ x xs. x ∷ xs) (eqb-true i j h) (more e)
    by_first more false h e = cc

pub same_all_is : {ds : List TypeDef} {ts : List Ty} {facts : Facts} → Under ds ts facts → (is js : List ℕ) → AllBelow (length ds) is
    → AllBelow (length ds) js → same_all (types_at ts is) (types_at ts js) ≡ pointwise nat_eq is js
same_all_is u [] [] h k = refl
same_all_is u [] (j ∷ js) h k = refl
same_all_is u (i ∷ is) [] h k = refl
same_all_is u (i ∷ is) (j ∷ js) h k = ap₂ (λ a b. a && b) (interned_under i j u h.0 k.0) (same_all_is u is js h.1 k.1)

abbrev Took : List Ty → Ty → List ℕ → Option ℕ → Type 0
Took ts ty is taken = tuple_type [] (whole ty) (types_at ts is) ≡ or_tuple (if_type ts taken) (type.tuple [] (types_at ts is))

not_taken : (ts : List Ty) (ty : Ty) (is : List ℕ) (id : ℕ) (answer : Bool) (taken : Option ℕ)
    → tuple_type [] (whole ty) (types_at ts is) ≡ type.tuple [] (types_at ts is) → answer ≡ false → taken ≡ (if answer then Some id else None)
    → Took ts ty is taken
not_taken ts ty is id answer taken h e t = h ∙ sym (ap (λ o. or_tuple (if_type ts o) (type.tuple [] (types_at ts is)))
    (t ∙ ap (λ b. if b then Some id else None) e))

own_tuple : {ds : List TypeDef} {ts : List Ty} {facts : Facts} → Under ds ts facts
    → (id : ℕ) (names : List (List ℕ)) (own is : List ℕ) (taken : Option ℕ)
    → type_at ts id ≡ type.tuple names (types_at ts own) → AllBelow (length ds) own → AllBelow (length ds) is
    → (answer : Bool) → pointwise nat_eq own is ≡ answer → taken ≡ (if answer then Some id else None)
    → Took ts (type.tuple names (types_at ts own)) is taken
own_tuple {ts = ts} u id names own is taken e h k true p t =
    ap (λ (b : Bool). if b then type.tuple names (types_at ts is) else type.tuple [] (types_at ts is)) (same_all_is u own is h k ∙ p)
    ∙ ap (λ js. type.tuple names (types_at ts js)) (sym (same_numbers own is p)) ∙ sym e
    ∙ sym (ap (λ o. or_tuple (if_type ts o) (type.tuple [] (types_at ts is))) t)
own_tuple {ts = ts} u id names own is taken e h k false p t =
    ap (λ (b : Bool). if b then type.tuple names (types_at ts is) else type.tuple [] (types_at ts is)) (same_all_is u own is h k ∙ p)
    ∙ sym (ap (λ o. or_tuple (if_type ts o) (type.tuple [] (types_at ts is))) t)

took : {ds : List TypeDef} {ts : List Ty} {facts : Facts} → Under ds ts facts → (id : ℕ) (d : TypeDef) (is : List ℕ) (taken : Option ℕ)
    → type_at ts id ≡ meant ts d → IsWithin (length ds) d → AllBelow (length ds) is → TakesTuple id d is taken → Took ts (meant ts d) is taken
took {ts = ts} u id (D.Tuple names own) is taken e w k t = own_tuple u id names own is taken e w k t.0 t.1 t.2
took {ts = ts} u id D.Int is taken e w k t = not_taken ts (meant ts D.Int) is id t.0 taken refl t.1 t.2
took {ts = ts} u id D.Bool is taken e w k t = not_taken ts (meant ts D.Bool) is id t.0 taken refl t.1 t.2
took {ts = ts} u id D.Char is taken e w k t = not_taken ts (meant ts D.Char) is id t.0 taken refl t.1 t.2
took {ts = ts} u id D.Text is taken e w k t = not_taken ts (meant ts D.Text) is id t.0 taken refl t.1 t.2
took {ts = ts} u id (D.Seq i) is taken e w k t = not_taken ts (meant ts (D.Seq i)) is id t.0 taken refl t.1 t.2
took {ts = ts} u id (D.Param n) is taken e w k t = not_taken ts (meant ts (D.Param n)) is id t.0 taken refl t.1 t.2
took {ts = ts} u id (D.Enum x p all) is taken e w k t = not_taken ts (meant ts (D.Enum x p all)) is id t.0 taken refl t.1 t.2
took {ts = ts} u id (D.Array n i) is taken e w k t = not_taken ts (meant ts (D.Array n i)) is id t.0 taken refl t.1 t.2
took {ts = ts} u id (D.Object x p gs all hooks parts) is taken e w k t =
    not_taken ts (meant ts (D.Object x p gs all hooks parts)) is id t.0 taken refl t.1 t.2
took {ts = ts} u id (D.Distinct x p i) is taken e w k t = not_taken ts (meant ts (D.Distinct x p i)) is id t.0 taken refl t.1 t.2
took {ts = ts} u id (D.Ref x i) is taken e w k t = not_taken ts (meant ts (D.Ref x i)) is id t.0 taken refl t.1 t.2
took {ts = ts} u id (D.Exception x p i) is taken e w k t = not_taken ts (meant ts (D.Exception x p i)) is id t.0 taken refl t.1 t.2

pub tuple_took : {ds : List TypeDef} {ts : List Ty} {facts : Facts} → Under ds ts facts → (id : ℕ) (d : TypeDef) (is : List ℕ) (taken : Option ℕ)
    → type_at ts id ≡ meant ts d → IsWithin (length ds) d → AllBelow (length ds) is → TakesTuple id d is taken
    → tuple_type [] (whole (type_at ts id)) (types_at ts is) ≡ or_tuple (if_type ts taken) (type.tuple [] (types_at ts is))
tuple_took {ts = ts} u id d is taken e w k t =
    ap (λ ty. tuple_type [] (whole ty) (types_at ts is)) e ∙ took u id d is taken e w k t

-- ---- the types of values

pub types_are : (ts : List Ty) (vs : List RustValue) → types_at ts (map (λ v. v.ty) vs) ≡ types_of (map (valued_of ts) vs)
types_are ts [] = refl
types_are ts (v ∷ vs) = ap (type.types (type_at ts v.ty)) (types_are ts vs)

pub types_within : (n : ℕ) (vs : List RustValue) → ValuesWithin n vs → AllBelow n (map (λ v. v.ty) vs)
types_within n [] h = tt
types_within n (v ∷ vs) h = (h.0, types_within n vs h.1)

-- ---- names in order

pub one_name : (done more : List (List ℕ)) (parts : List Tree) (i : ℕ) (t : Tree) (x name : List ℕ) → t ≡ get_or parts i t → i < length parts
    → part_name (term_of t) ≡ Some x → name ≡ normal x → more ≡ done ++ name ∷ []
    → more ++ part_names (parts_of (drop (i + 1) parts)) ≡ done ++ part_names (parts_of (drop i parts))
one_name done more parts i t x name e h p n m =
    let rest = part_names (parts_of (drop (i + 1) parts)) in
    ap (λ z. z ++ rest) m ∙ append_assoc done (name ∷ []) rest ∙ ap (λ z. done ++ z ∷ rest) n
    ∙ ap (λ z. done ++ z) (sym (name_first (term_of t) (parts_of (drop (i + 1) parts)) x p))
    ∙ ap (λ ts. done ++ part_names (parts_of ts)) (sym (next_item parts i t e h))

pub last_name : (done all : List (List ℕ)) (parts : List Tree) (i : ℕ) (t : Tree) → t ≡ get_or parts i t → i < length parts
    → part_name (term_of t) ≡ None
    → done ++ part_names (parts_of (drop i parts)) ≡ all → done ≡ all
last_name done all parts i t e h p k =
    sym (append-nil done)
    ∙ ap (λ z. done ++ z) (sym (no_name (term_of t) (parts_of (drop (i + 1) parts)) p))
    ∙ ap (λ ts. done ++ part_names (parts_of ts)) (sym (next_item parts i t e h)) ∙ k

pub all_names : (done all : List (List ℕ)) (parts : List Tree) (i : ℕ) → length parts ≤ i → done ++ part_names (parts_of (drop i parts)) ≡ all
    → done ≡ all
all_names done all parts i h k =
    sym (append-nil done) ∙ ap (λ ts. done ++ part_names (parts_of ts)) (sym (none_left parts i h)) ∙ k

-- ---- whether all have names

pub unnamed : (names : List (List ℕ)) → has_names names ≡ false → names ≡ []
unnamed [] e = refl
unnamed (x ∷ names) e = cc

pub are_none : (names : List (List ℕ)) (vs : List Valued) → has_names names ≡ false → are_names names vs ≡ true
are_none [] vs e = refl
are_none (x ∷ names) vs e = cc

pub are_other : (names : List (List ℕ)) (vs : List Valued) → has_names names ≡ true → nat_eq (length names) (length vs) ≡ false
    → are_names names vs ≡ false
are_other [] vs e h = cc
are_other (x ∷ names) vs e h = ap (λ b. b && not (has_twice (x ∷ names))) h

pub are_so : (names : List (List ℕ)) (vs : List Valued) (b : Bool) → has_names names ≡ true → nat_eq (length names) (length vs) ≡ true
    → has_twice names ≡ b
    → are_names names vs ≡ not b
are_so [] vs b e h t = cc
are_so (x ∷ names) vs b e h t = ap (λ a. a && not (has_twice (x ∷ names))) h ∙ ap not t

pub own_type : (names : List (List ℕ)) (want : Want) (ts : Tys) → has_names names ≡ true → tuple_type names want ts ≡ type.tuple names ts
own_type [] want ts e = cc
own_type (x ∷ names) want ts e = refl

-- ---- the first value

pub first_is : (vs : List RustValue) (i : ℕ) → first_number vs ≡ Some i
    → (v : RustValue) × (rest : List RustValue) × ((vs ≡ v ∷ rest) × (v.ty ≡ i))
first_is [] i e = cc
first_is (v ∷ rest) i e = (v, rest, (refl, same_Some v.ty i e))

pub no_value : (vs : List RustValue) → first_number vs ≡ None → vs ≡ []
no_value [] e = refl
no_value (v ∷ rest) e = cc

-- ---- what the parts of a tuple want

pub wants_are : (ts : List Ty) (is : List ℕ) → inner_wants (types_at ts is) ≡ map (λ id. inner (type_at ts id)) is
wants_are ts [] = refl
wants_are ts (i ∷ is) = ap (λ ws. inner (type_at ts i) ∷ ws) (wants_are ts is)

none_either : (b : Bool) → ◌≡◌ {A = List Want} [] (if b then [] else [])
none_either true = refl
none_either false = refl

wants_by : (ty : Ty) (count : ℕ) → tuple_wants (Some ty) count ≡ (if nat_eq (length (wants_of ty)) count then wants_of ty else [])
wants_by (type.tuple names ts) count = refl
wants_by type.int count = none_either (nat_eq 0 count)
wants_by type.bool count = none_either (nat_eq 0 count)
wants_by type.char count = none_either (nat_eq 0 count)
wants_by type.text count = none_either (nat_eq 0 count)
wants_by (type.sequence t) count = none_either (nat_eq 0 count)
wants_by (type.array n t) count = none_either (nat_eq 0 count)
wants_by (type.parameter n) count = none_either (nat_eq 0 count)
wants_by (type.enum key) count = none_either (nat_eq 0 count)
wants_by (type.object key ts) count = none_either (nat_eq 0 count)
wants_by (type.distinct key) count = none_either (nat_eq 0 count)
wants_by (type.ref x t) count = none_either (nat_eq 0 count)
wants_by (type.exception key) count = none_either (nat_eq 0 count)

map_if : (f : ℕ → Want) (b : Bool) (is : List ℕ) → (if b then map f is else []) ≡ map f (if b then is else [])
map_if f true is = refl
map_if f false is = refl

pub wanted_parts : (ts : List Ty) (ty : Ty) (count : ℕ) (is all : List ℕ) → wants_of ty ≡ map (λ id. inner (type_at ts id)) is
    → all ≡ (if nat_eq (length is) count then is else []) → tuple_wants (Some ty) count ≡ map (λ id. inner (type_at ts id)) all
wanted_parts ts ty count is all w e =
    wants_by ty count
    ∙ ap (λ ws. if nat_eq (length ws) count then ws else []) w
    ∙ ap (λ n. if nat_eq n count then map (λ id. inner (type_at ts id)) is else []) (counted (λ id. inner (type_at ts id)) is)
    ∙ map_if (λ id. inner (type_at ts id)) (nat_eq (length is) count) is ∙ ap (map (λ id. inner (type_at ts id))) (sym e)

below_if : (n : ℕ) (b : Bool) (is : List ℕ) → AllBelow n is → AllBelow n (if b then is else [])
below_if n true is h = h
below_if n false is h = tt

pub parts_below : (n : ℕ) (count : ℕ) (is all : List ℕ) → all ≡ (if nat_eq (length is) count then is else []) → AllBelow n is → AllBelow n all
parts_below n count is all e h = subst (AllBelow n) (sym e) (below_if n (nat_eq (length is) count) is h)
