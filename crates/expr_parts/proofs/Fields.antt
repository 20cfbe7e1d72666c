-- Fields of objects by their names.
use Rattle.std.proofs.Common.{◌≡◌, ℕ, suc, List, [], ◌∷◌, length, refl, sym, ap, ap₂, ◌∙◌, Some, None, arith, ⊎_elim}
use Rattle.std.specs.Prelude.{Bool, true, false, ◌&&◌, ◌||◌, nat_eq, Option, option_map, Result, Ok, Err, IfOk, if◌then◌else◌}
use Rattle.std.proofs.lemmas.Bool.{both_ways, cases_Bool, eqb-true, eq-eqb}
use Rattle.indent_scanner.specs.Words.{normal, same, is_named}
use Rattle.nim_types.specs.declared.types.FieldName.{FieldName}
use Rattle.nim_types.specs.Types.{Ty, Key, Field, same_text}
use Rattle.nim_types.specs.Table.{type_at, types_at, and_field, fields_with, fields_fact}
use Rattle.expr_parts.specs.declared.parts.Found.{Found as RustFound}
use Rattle.expr_rules.specs.Env.{Env}
use Rattle.expr_rules.specs.Constructions.{Found, if_found, field_among, part_among}
use Rattle.expr_parts.specs.View.{found_of, field_from, part_from, are_fields}

flipped : (a b : ℕ) → nat_eq a b ≡ nat_eq b a
flipped a b =
    ⊎_elim
    (λ t. t ∙ sym (eq-eqb b a (sym (eqb-true a b t))))
    (λ f. f ∙ sym (⊎_elim (λ t. absurd (both_ways (nat_eq a b) f (eq-eqb a b (sym (eqb-true b a t))))) (λ g. g) (cases_Bool (nat_eq b a))))
    (cases_Bool (nat_eq a b))

same_is : (x key : List ℕ) → same x key ≡ same_text key x
same_is [] [] = refl
same_is [] (k ∷ key) = refl
same_is (b ∷ x) [] = refl
same_is (b ∷ x) (k ∷ key) = ap₂ (λ p q. p && q) (flipped b k) (same_is x key)

pub named_is : (name key : List ℕ) → is_named name key ≡ same_text key (normal name)
unfolding is_named
named_is name key = same_is (normal name) key

field_step : (ts : List Ty) (b : Bool) (here : RustFound) (rest : Option RustFound) (other : Option Found) → option_map (found_of ts) rest ≡ other
    → option_map (found_of ts) (if b then Some here else rest) ≡ if_found b (found_of ts here) other
field_step ts true here rest other h = refl
field_step ts false here rest other h = h

abbrev pub all_fields : List Ty → List FieldName → List ℕ → List Field
all_fields ts (f ∷ fs) (p ∷ ps) = record { name = f.name; shown = f.shown; of = type_at ts p } ∷ all_fields ts fs ps
all_fields ts _ _ = []

pub field_is : (ts : List Ty) (env : Env) (key : Key) (x : List ℕ) (i : ℕ) (fs : List FieldName) (ps : List ℕ)
    → option_map (found_of ts) (field_from x (nat_eq key.at.module env.home) i fs ps) ≡ field_among env key x i (all_fields ts fs ps)
field_is ts env key x i [] [] = refl
field_is ts env key x i [] (p ∷ ps) = refl
field_is ts env key x i (f ∷ fs) [] = refl
field_is ts env key x i (f ∷ fs) (p ∷ ps) =
    field_step ts (same_text x (normal f.name) && (f.shown || nat_eq key.at.module env.home)) (record { number = i; ty = p })
    (field_from x (nat_eq key.at.module env.home) (suc i) fs ps) (field_among env key x (suc i) (all_fields ts fs ps)) (field_is ts env key x (suc i) fs ps)

-- where as many types are known as there are fields
pub all_known : (ts : List Ty) (fs : List FieldName) (ps : List ℕ) → length fs ≡ length ps → fields_with ts fs ps ≡ Some (all_fields ts fs ps)
all_known ts [] [] h = refl
all_known ts [] (p ∷ ps) h = absurd (omega (arith, h))
all_known ts (f ∷ fs) [] h = absurd (omega (arith, h))
all_known ts (f ∷ fs) (p ∷ ps) h = ap (and_field f (type_at ts p)) (all_known ts fs ps (omega (arith, h)))

pub none_known : (ts : List Ty) (fs : List FieldName) (ps : List ℕ) → (length fs ≡ length ps → ⊥) → fields_with ts fs ps ≡ None
none_known ts [] [] h = absurd (h refl)
none_known ts [] (p ∷ ps) h = refl
none_known ts (f ∷ fs) [] h = refl
none_known ts (f ∷ fs) (p ∷ ps) h = ap (and_field f (type_at ts p)) (none_known ts fs ps (λ e. h (ap suc e)))

-- whether the fields of an object are known
pub counted : (ts : List Ty) (fs : List FieldName) (ps : List ℕ) (own_hooks b : Bool) → nat_eq (length fs) (length ps) ≡ b
    → are_fields (fields_fact (fields_with ts fs ps) own_hooks) ≡ b
counted ts fs ps own_hooks true h = ap (λ o. are_fields (fields_fact o own_hooks)) (all_known ts fs ps (eqb-true (length fs) (length ps) h))
counted ts fs ps own_hooks false h =
    ap (λ o. are_fields (fields_fact o own_hooks))
    (none_known ts fs ps (λ e. absurd (both_ways (nat_eq (length fs) (length ps)) h (eq-eqb (length fs) (length ps) e))))

pub part_is : (ts : List Ty) (x : List ℕ) (i : ℕ) (names : List (List ℕ)) (ps : List ℕ)
    → option_map (found_of ts) (part_from x i names ps) ≡ part_among x i names (types_at ts ps)
part_is ts x i [] [] = refl
part_is ts x i [] (p ∷ ps) = refl
part_is ts x i (name ∷ names) [] = refl
part_is ts x i (name ∷ names) (p ∷ ps) =
    field_step ts (same_text x name) (record { number = i; ty = p }) (part_from x (suc i) names ps) (part_among x (suc i) names (types_at ts ps))
    (part_is ts x (suc i) names ps)

-- what holds of each answer, so far as one follows from the other
pub if_ok : {A E : Type 0} {P Q : A → Type 0} (r : Result A E) → IfOk r P → ((x : A) → P x → Q x) → IfOk r Q
if_ok (Ok x) h f = f x h
if_ok (Err e) h f = tt
