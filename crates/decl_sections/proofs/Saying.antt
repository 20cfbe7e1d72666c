-- What definitions say: names that are new, fields and bodies.
use Rattle.std.proofs.Common.{◌≡◌, ℕ, zero, suc, ◌+◌, ◌≤◌, List, [], ◌∷◌, ◌++◌, length, drop, refl, sym, ap, subst, ◌∙◌}
use Rattle.std.proofs.Common.{append-nil, append_assoc, arith}
use Rattle.std.specs.Prelude.{Bool, true, false, not, ◌||◌, ◌&&◌, pos, map, Result, Ok, Err}
use Rattle.std.proofs.lemmas.Bool.{both_ways}
use Rattle.std.specs.HashSet.{HashSet}
use Rattle.arc_base.specs.Refusal.{and_then}
use Rattle.nim_tree.specs.declared.name.Declared.{Declared}
use Rattle.nim_tree.specs.Types.{Written, Fields, no_fields, fields}
use Rattle.nim_types.specs.declared.types.FieldName.{FieldName}
use Rattle.nim_types.specs.Types.{Ty, same_text}
use Rattle.nim_program.specs.Program.{Number}
use Rattle.expr_rules.specs.Answers.{Answer}
use Rattle.expr_rules.specs.Constructions.{is_among}
use Rattle.expr_rules.specs.Env.{Env, Entry, constant}
use Rattle.expr_parts.specs.declared.scope.Decl.{Decl}
use Rattle.expr_parts.specs.ViewDecls.{declares}
use Rattle.decl_rules.specs.Meanings.{an_object}
use Rattle.decl_rules.specs.State.{State}
use Rattle.decl_rules.specs.Written.{Sizing, Spelled, Part, Parted, spelled, parts_spelled, parts_as, parts_behind, field_names_rule, fields_of}
use Rattle.decl_written.specs.ViewWritten.{HasNames}
use Rattle.std.proofs.Common.{length-append}
use Rattle.std.proofs.lemmas.List.{length-map}
use Rattle.decl_sections.specs.ViewSpelled.{PartsMeant, all_parted, part_count}
use Rattle.expr_parts.specs.declared.scope.Scope.{Scope}
use Rattle.decl_sections.specs.declared.bodies.Declared.{Declared as Seen}
use Rattle.decl_sections.specs.ViewBodies.{own_decls, NoneTwice, IsDeclared, member_entries, field_name, all_field_names, Said, said_with}
use Rattle.decl_types.specs.ViewKnown.{typed_fields}

-- ---- what the scope declares itself

declares_append : (x : List ℕ) (a b : List Decl) → declares x (a ++ b) ≡ (declares x a || declares x b)
declares_append x [] b = refl
declares_append x (d ∷ a) b = by_name (same_text x d.name) (declares_append x a b)
  where
    by_name : (c : Bool) → declares x (a ++ b) ≡ (declares x a || declares x b) → (c || declares x (a ++ b)) ≡ ((c || declares x a) || declares x b)
    by_name true h = refl
    by_name false h = h

cut : (outside start : ℕ) (ds : List Decl) → outside ≤ start → start ≤ length ds → drop outside ds ≡ own_decls outside start ds ++ drop start ds
cut zero zero ds h k = refl
cut zero (suc start) [] h k = refl
cut zero (suc start) (d ∷ ds) h k = ap (λ all. d ∷ all) (cut zero start ds (omega arith) (omega (arith, k)))
cut (suc outside) zero ds h k = absurd (omega (arith, h))
cut (suc outside) (suc start) [] h k = refl
cut (suc outside) (suc start) (d ∷ ds) h k = cut outside start ds (omega (arith, h)) (omega (arith, k))

own_by : (own all behind : Bool) → all ≡ (own || behind) → (behind ≡ true → own ≡ false) → own ≡ (all && not behind)
own_by true all true e n = absurd (both_ways true (n refl) refl)
own_by true all false e n = ap (λ b. b && true) (sym e)
own_by false all true e n = ap (λ b. b && false) (sym e)
own_by false all false e n = ap (λ b. b && true) (sym e)

pub own_is : (outside start : ℕ) (ds : List Decl) (x : List ℕ) → outside ≤ start → start ≤ length ds → NoneTwice outside start ds
    → declares x (own_decls outside start ds) ≡ (declares x (drop outside ds) && not (declares x (drop start ds)))
own_is outside start ds x h k n =
    own_by (declares x (own_decls outside start ds)) (declares x (drop outside ds)) (declares x (drop start ds))
    (ap (declares x) (cut outside start ds h k) ∙ declares_append x (own_decls outside start ds) (drop start ds)) (n x)

pub never_both : (b : Bool) → (b && false) ≡ false
never_both true = refl
never_both false = refl

pub all_and : (b : Bool) → (b && true) ≡ b
all_and true = refl
all_and false = refl

-- ---- names of members

among_in : (x y : List ℕ) (a b : List (List ℕ)) → is_among y (x ∷ (a ++ b)) ≡ is_among y ((a ++ x ∷ []) ++ b)
among_in x y [] b = refl
among_in x y (z ∷ a) b = by_two (same_text y x) (same_text y z) (is_among y (a ++ b)) ∙ ap (λ c. same_text y z || c) (among_in x y a b)
  where
    by_two : (p q r : Bool) → (p || (q || r)) ≡ (q || (p || r))
    by_two true true r = refl
    by_two true false r = refl
    by_two false true r = refl
    by_two false false r = refl

pub one_behind : {S : Type 0} (set : HashSet (List ℕ) S) (x : List ℕ) (a b : List (List ℕ)) → HasNames set (x ∷ (a ++ b)) → HasNames set
    ((a ++ x ∷ []) ++ b)
one_behind set x a b h = λ y. h y ∙ among_in x y a b

abbrev pub front_members : List Entry → Answer (List Entry) → Answer (List Entry)
front_members done rest = and_then rest (λ more. Ok (done ++ more))

pub members_start : (all : Answer (List Entry)) → all ≡ front_members [] all
members_start (Ok more) = refl
members_start (Err r) = refl

pub members_end : (done : List Entry) → front_members done (Ok []) ≡ Ok done
members_end done = ap Ok (append-nil done)

pub members_one : (done : List Entry) (e : Entry) (rest : Answer (List Entry))
    → front_members done (and_then rest (λ more. Ok (e ∷ more))) ≡ front_members (done ++ e ∷ []) rest
members_one done e (Ok more) = ap Ok (sym (append_assoc done (e ∷ []) more))
members_one done e (Err r) = refl

entry_last : (ty : Ty) (i : ℕ) (all : List (List ℕ)) (x : List ℕ)
    → member_entries ty i (all ++ x ∷ []) ≡ member_entries ty i all ++ constant x ty (Number (pos (i + length all))) ∷ []
entry_last ty i [] x = let e : i + 0 ≡ i = omega arith in ap (λ k. constant x ty (Number (pos k)) ∷ []) (sym e)
entry_last ty i (y ∷ all) x =
    let e : suc i + length all ≡ i + suc (length all) = omega arith in
    ap (λ rest. constant y ty (Number (pos i)) ∷ rest)
    (entry_last ty (suc i) all x ∙ ap (λ k. member_entries ty (suc i) all ++ constant x ty (Number (pos k)) ∷ []) e)

pub entries_last : (ty : Ty) (all : List (List ℕ)) (x : List ℕ)
    → member_entries ty 0 (all ++ x ∷ []) ≡ member_entries ty 0 all ++ constant x ty (Number (pos (length all))) ∷ []
entries_last ty all x =
    let e : 0 + length all ≡ length all = omega arith in
    entry_last ty 0 all x ∙ ap (λ k. member_entries ty 0 all ++ constant x ty (Number (pos k)) ∷ []) e

-- ---- fields of objects

fields_append : (group : List Declared) (ty : Ty) (more : List Part) (names : List FieldName) (types : List Ty) → fields_of more ≡ typed_fields names types
    → fields_of (parts_as group ty ++ more) ≡ typed_fields (map field_name group ++ names) (map (λ (p : Part). p.of) (parts_as group ty) ++ types)
fields_append [] ty more names types h = h
fields_append (d ∷ group) ty more names types h =
    ap (λ all. record { name = d.text; shown = d.shown; of = ty } ∷ all) (fields_append group ty more names types h)

types_append : (a b : List Part) → map (λ (p : Part). p.of) (a ++ b) ≡ map (λ (p : Part). p.of) a ++ map (λ (p : Part). p.of) b
types_append [] b = refl
types_append (p ∷ a) b = ap (λ all. p.of ∷ all) (types_append a b)

abbrev FieldsAre : Sizing → Env → Fields → Type 0
FieldsAre sizing env inside =
    (before : List (List ℕ)) (all : Parted) → parts_spelled sizing env before inside ≡ Ok all
    → fields_of all.parts ≡ typed_fields (all_field_names inside) (map (λ (p : Part). p.of) all.parts)

abbrev as_ok : {A E : Type 0} → A → Result A E → A
as_ok x (Ok y) = y
as_ok x (Err e) = x

fields_more : (sizing : Sizing) (env : Env) (group : List Declared) (w : Written) (rest : Fields) → FieldsAre sizing env rest
    → FieldsAre sizing env (fields group w rest)
fields_more sizing env group w rest go before all h = by_names (field_names_rule before group) h
  where
    by_rest : (now : List (List ℕ)) (s : Spelled) (m : Answer Parted) → parts_spelled sizing env now rest ≡ m
        → and_then m (λ more. Ok (parts_behind group s more)) ≡ Ok all
        → fields_of all.parts ≡ typed_fields (all_field_names (fields group w rest)) (map (λ (p : Part). p.of) all.parts)
    by_rest now s (Err r) e k = cc
    by_rest now s (Ok more) e k =
        let is : parts_behind group s more ≡ all = ap (as_ok all) k in
        subst (λ (z : Parted). fields_of z.parts ≡ typed_fields (all_field_names (fields group w rest)) (map (λ (p : Part). p.of) z.parts)) is
        (fields_append group s.of more.parts (all_field_names rest) (map (λ (p : Part). p.of) more.parts) (go now more e)
        ∙ ap (typed_fields (map field_name group ++ all_field_names rest)) (sym (types_append (parts_as group s.of) more.parts)))

    by_type : (now : List (List ℕ)) (said : Answer Spelled)
        → and_then said (λ s. and_then (parts_spelled sizing env now rest) (λ more. Ok (parts_behind group s more))) ≡ Ok all
        → fields_of all.parts ≡ typed_fields (all_field_names (fields group w rest)) (map (λ (p : Part). p.of) all.parts)
    by_type now (Err r) k = cc
    by_type now (Ok s) k = by_rest now s (parts_spelled sizing env now rest) refl k

    by_names : (said : Answer (List (List ℕ)))
        → and_then said (λ now. and_then (spelled sizing env w)
        (λ s. and_then (parts_spelled sizing env now rest) (λ more. Ok (parts_behind group s more)))) ≡ Ok all
        → fields_of all.parts ≡ typed_fields (all_field_names (fields group w rest)) (map (λ (p : Part). p.of) all.parts)
    by_names (Err r) k = cc
    by_names (Ok now) k = by_type now (spelled sizing env w) k

fields_are : (sizing : Sizing) (env : Env) (inside : Fields) → FieldsAre sizing env inside
fields_are sizing env no_fields before all h = ap (λ (z : Parted). fields_of z.parts) (sym (ap (as_ok all) h))
    ∙ ap (λ (z : Parted). typed_fields [] (map (λ (p : Part). p.of) z.parts)) (ap (as_ok all) h)
fields_are sizing env (fields group w rest) before all h = fields_more sizing env group w rest (fields_are sizing env rest) before all h

abbrev pub object_whole : List FieldName → PartsMeant → Answer Said
object_whole names a = Ok (said_with (an_object (typed_fields names a.of)) a.formed)

pub object_stops : (sizing : Sizing) (env : Env) (inside : Fields)
    → and_then (parts_spelled sizing env [] inside) (λ all. Ok (said_with (an_object (fields_of all.parts)) all.formed))
    ≡ and_then (all_parted (parts_spelled sizing env [] inside)) (object_whole (all_field_names inside))
object_stops sizing env inside = by_parts (parts_spelled sizing env [] inside) refl
  where
    by_parts : (said : Answer Parted) → parts_spelled sizing env [] inside ≡ said
        → and_then said (λ all. Ok (said_with (an_object (fields_of all.parts)) all.formed))
        ≡ and_then (all_parted said) (object_whole (all_field_names inside))
    by_parts (Err r) e = refl
    by_parts (Ok all) e = ap (λ fs. Ok (said_with (an_object fs) all.formed)) (fields_are sizing env inside [] all e)

pub same_declared : (st : State) (old new : Seen) (scope : Scope) → new.outside ≡ old.outside → new.start ≡ old.start → IsDeclared st old scope
    → IsDeclared st new scope
same_declared st old new scope e f d =
    subst (λ (k : ℕ). IsDeclared st (record { outside = new.outside; start = k; seen = new.seen }) scope) (sym f)
    (subst (λ (k : ℕ). IsDeclared st (record { outside = k; start = old.start; seen = new.seen }) scope) (sym e)
    (record { begins = d.begins; ends = d.ends; own = d.own; none_twice = d.none_twice }))

pub named_field : (name : List ℕ) (d : Declared) → name ≡ d.text → record { name = name; shown = d.shown } ≡ field_name d
named_field name d e = λ i. record { name = e i; shown = d.shown }

-- ---- as many names as parts

pub name_count : (fs : Fields) → length (all_field_names fs) ≡ part_count fs
name_count no_fields = refl
name_count (fields names of rest) =
    let r = name_count rest in
    omega (arith, r, length-append (map field_name names) (all_field_names rest), length-map names field_name)
