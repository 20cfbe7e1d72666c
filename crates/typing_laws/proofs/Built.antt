-- Values built of parts, and parts of values.
use Rattle.std.proofs.Common.{◌≡◌, ℕ, zero, suc, Bool, true, false, List, [], ◌∷◌, length, Option, Some, None, refl, sym, ap, subst, ◌∙◌, arith}
use Rattle.std.specs.Prelude.{pos, negsuc, ◌&&◌, ◌||◌, nat_eq, nat_le, if◌then◌else◌}
use Rattle.std.proofs.lemmas.Bool.{not_from_false, eq-eqb, leb-true, le-leb}
use Rattle.arc_base.specs.declared.place.Place.{Place}
use Rattle.nim_types.specs.Types as type
use Rattle.nim_types.specs.Types.{Ty, Tys, no_types, types, Key, Field, Fact, members, fields, base, below, Facts, fact_of, fields_in, same, same_all}
use Rattle.nim_types.specs.Types.{same_text}
use Rattle.nim_types.specs.Forms.{types_of as field_types}
use Rattle.nim_program.specs.declared.operation.Operation.TheVariants as O
use Rattle.nim_program.specs.Program as P
use Rattle.nim_program.specs.Program.{Literal, Number, Expr, NoArg, Building, type_of, type_at, types_in as operand_types}
use Rattle.nim_program.specs.Ints.{fits as is_int_value}
use Rattle.nim_program.specs.Kinds as kind
use Rattle.nim_program.specs.Kinds.{TypeKind, kind_of, kind_if, declared_kind, is_made, has_parts, part_at, field_at, element_of as kind_element}
use Rattle.nim_program.specs.Kinds.{nth_type as nth_kind}
use Rattle.nim_program.specs.Kinds.{count_types, is_of, is_int as is_int_kind, is_held}
use Rattle.nim_program.specs.Fitting.{are_parts, are_fields, is_in, are_distinct, built, is_built, building_fits}
use Rattle.nim_program.specs.Scopes.{Here}
use Rattle.expr_rules.specs.declared.limits.TheConstants.{MOST_ELEMENTS}
use Rattle.expr_rules.specs.Env.{Env, is_visible}
use Rattle.expr_rules.specs.Answers.{node, Valued, Want, whole, wanted, exprs_of, types_of}
use Rattle.expr_rules.specs.Constants.{constant_at}
use Rattle.expr_rules.specs.Sizes.{is_sized}
use Rattle.expr_rules.specs.Builtins.{is_int}
use Rattle.expr_rules.specs.Constructions.{are_names, tuple_type, if_sized, make_tuple, tuple_rule, array_rule, empty_rule, sequence_rule, Found, found}
use Rattle.expr_rules.specs.Constructions.{if_found}
use Rattle.expr_rules.specs.Constructions.{field_among, part_among, field_named, read_field, nth_type, read_part, numbered_part, element_type, element_of}
use Rattle.expr_rules.specs.Constructions.{indexed, index_rule}
use Rattle.expr_rules.specs.Constructions.{is_number_among, numbers_of, construct_rule}
use Rattle.expr_rules.specs.FieldsGiven.{AreFields, no_part, a_field}
use Rattle.indent_scanner.specs.Words.{normal}
use Rattle.typing_laws.specs.Sound.{Sound, AllSound, no_more, and_more, of_array, of_tuple, of_sequence}
use Rattle.typing_laws.specs.Knows.{IfSound, Knows}
use Rattle.typing_laws.proofs.Tests.{both, never, some_one, none_some, is_by}
use Rattle.typing_laws.proofs.SoundKinds.{the_int, held, element_kind}
use Rattle.typing_laws.proofs.Positions.{behind, at_position}
use Rattle.typing_laws.proofs.Sure.{Sure, s_ok, s_err, sure_if, sure_then, sure_itself}
use Rattle.typing_laws.proofs.Right.{Right, RightValue, ValuesRight, doing, path_right, values_typed, values_placed, values_taken}

module _ (here : Here) where
  -- ---- tuples

  all_sound : (vs : List Valued) → ValuesRight here vs → AllSound here.facts (types_of vs)
  all_sound [] h = no_more
  all_sound (v ∷ vs) h = and_more h.0.sound (all_sound vs h.1)

  -- the parts from a position on
  parts_fit : (ts : Tys) (i : ℕ) (vs : List Valued) → behind i ts ≡ types_of vs → ValuesRight here vs
      → are_parts (kind.tuple ts) i (operand_types (exprs_of vs)) ≡ true
  parts_fit ts i [] e h = refl
  parts_fit ts i (v ∷ vs) e h =
      let q = at_position i ts v.of (types_of vs) e in both (is_by h.0.gives q.0) (parts_fit ts (suc i) vs q.1 h.1)

  as_many : (vs : List Valued) → count_types (types_of vs) ≡ length (operand_types (exprs_of vs))
  as_many [] = refl
  as_many (v ∷ vs) = ap suc (as_many vs)

  tuple_right : (n : ℕ) (at : Place) (names : List (List ℕ)) (vs : List Valued) → ValuesRight here vs
      → Right here (P.Apply (node n at) (Some (type.tuple names (types_of vs))) (P.Doing O.Make) (exprs_of vs))
  tuple_right n at names vs h =
      doing here (node n at) (Some (type.tuple names (types_of vs))) O.Make (exprs_of vs)
      (both (eq-eqb (count_types (types_of vs)) (length (operand_types (exprs_of vs))) (as_many vs)) (parts_fit (types_of vs) 0 vs refl h))
      (values_placed vs) (values_taken here O.Make vs) (values_typed here vs h) (of_tuple (all_sound vs h))

  is_tuple : (names : List (List ℕ)) (want : Want) (ts : Tys) → (given : List (List ℕ)) × (tuple_type names want ts ≡ type.tuple given ts)
  is_tuple (x ∷ names) want ts = (x ∷ names, refl)
  is_tuple [] (whole (type.tuple names us)) ts = by_test (same_all us ts)
    where
      by_test : (b : Bool) → (given : List (List ℕ)) × ((if b then type.tuple names ts else type.tuple [] ts) ≡ type.tuple given ts)
      by_test true = (names, refl)
      by_test false = ([], refl)
  is_tuple [] want ts = ([], refl)

  sized : (env : Env) (at : Place) (ty : Ty) (e : Expr) → Right here e → Sure (Right here) (if_sized env at ty e)
  sized env at ty e h = sure_if (is_sized env.facts ty) (λ c. s_ok h) (λ c. s_err)

  pub tuple_rule_right : (env : Env) (want : Want) (n : ℕ) (at : Place) (names : List (List ℕ)) (vs : List Valued) → ValuesRight here vs
      → Sure (Right here) (tuple_rule env want n at names vs)
  tuple_rule_right env want n at names vs h =
      let is = is_tuple names want (types_of vs) in
      sure_if (are_names names vs) (λ c. subst (λ ty. Sure (Right here) (make_tuple env n at ty vs)) (sym is.1)
      (sized env at (type.tuple is.0 (types_of vs)) _ (tuple_right n at is.0 vs h))) (λ c. s_err)

  -- ---- arrays and sequences

  abbrev pub AllOf : Ty → List Valued → Type 0
  AllOf t [] = Unit {0}
  AllOf t (v ∷ vs) = (v.of ≡ t) × AllOf t vs

  elements_fit : (k : TypeKind) (t : Ty) (i : ℕ) (vs : List Valued) → ((j : ℕ) → part_at k j ≡ Some t) → AllOf t vs → ValuesRight here vs
      → are_parts k i (operand_types (exprs_of vs)) ≡ true
  elements_fit k t i [] n s h = refl
  elements_fit k t i (v ∷ vs) n s h = both (is_by (h.0.gives ∙ ap (λ t. Some t) s.0) (n i)) (elements_fit k t (suc i) vs n s.1 h.1)

  value_count : (vs : List Valued) → length vs ≡ length (operand_types (exprs_of vs))
  value_count [] = refl
  value_count (v ∷ vs) = ap suc (value_count vs)

  pub small : (n : ℕ) → nat_le n MOST_ELEMENTS ≡ true → is_int_value (pos n) ≡ true
  small n h = le-leb n 2147483647 (omega (arith, leb-true n MOST_ELEMENTS h))

  pub array_right : (env : Env) (n : ℕ) (at : Place) (vs : List Valued) (t : Ty) → AllOf t vs → ValuesRight here vs
      → Sure (Right here) (array_rule env n at vs)
  array_right env n at [] t s h = s_err
  array_right env n at (v ∷ vs) t s h =
      sure_if (nat_le (suc (length vs)) MOST_ELEMENTS) (λ c.
      sized env at (type.array (suc (length vs)) v.of) _
      (doing here (node n at) (Some (type.array (suc (length vs)) v.of)) O.Make (exprs_of (v ∷ vs))
      (both (eq-eqb (suc (length vs)) (length (operand_types (exprs_of (v ∷ vs)))) (value_count (v ∷ vs)))
      (elements_fit (kind.array (suc (length vs)) v.of) v.of 0 (v ∷ vs) (λ j. refl) (refl, others vs s.1) h)) (values_placed vs)
      (values_taken here O.Make vs) (values_typed here (v ∷ vs) h) (of_array (small (suc (length vs)) c) h.0.sound))) (λ c. s_err)
    where
      others : (ws : List Valued) → AllOf t ws → AllOf v.of ws
      others ws h = subst (λ u. AllOf u ws) (sym s.0) h

  sequence_right : (n : ℕ) (at : Place) (vs : List Valued) (t : Ty) → Sound here.facts t → AllOf t vs → ValuesRight here vs
      → Right here (P.Apply (node n at) (Some (type.sequence t)) (P.Doing O.Sequence) (exprs_of vs))
  sequence_right n at vs t sound s h =
      doing here (node n at) (Some (type.sequence t)) O.Sequence (exprs_of vs) (elements_fit (kind.sequence t) t 0 vs (λ j. refl) s h) (values_placed vs)
      (values_taken here O.Sequence vs) (values_typed here vs h) (of_sequence sound)

  pub sequence_rule_right : (want : Want) (n : ℕ) (at : Place) (vs : List Valued) (t : Ty) → IfSound here.facts (wanted want) → AllOf t vs
      → ValuesRight here vs → Sure (Right here) (sequence_rule want n at vs)
  sequence_rule_right want n at [] t w s h = by_want (wanted want) w
    where
      element : {t : Ty} → Sound here.facts (type.sequence t) → Sound here.facts t
      element (of_sequence h) = h

      by_want : (o : Option Ty) → IfSound here.facts o → Sure (Right here) (empty_rule n at o)
      by_want (Some (type.sequence t)) h = s_ok (sequence_right n at [] t (element h) tt tt)
      by_want o h = s_err
  sequence_rule_right want n at (v ∷ vs) t w s h =
      s_ok (sequence_right n at (v ∷ vs) v.of h.0.sound (refl, subst (λ u. AllOf u vs) (sym s.0) s.1) h)

  -- ---- fields

  pub field_right : (n : ℕ) (at : Place) (v : Valued) (f : Found) → RightValue here v → field_at (kind_of here.facts v.of) f.number ≡ Some f.of
      → Sound here.facts f.of → Right here (read_field n at v f)
  field_right n at v f h e s =
      let q = path_right here v h in
      record {
        typed = both (held s) (both (subst (λ t. is_of (field_at (kind_if here.facts t) f.number) (Some f.of) ≡ true) (sym q.0) (is_by e refl)) q.2);
        sound = s;
      }

  -- where a field is found, counted from a position on
  data IsField (parts_of : Tys) (f : Found) : Type 0 where
    is_field : nth_kind parts_of f.number ≡ Some f.of → Sound here.facts f.of → IsField parts_of f

  found_field : (env : Env) (key : Key) (x : List ℕ) (parts_of : Tys) (i : ℕ) (all : List Field) (f : Found) → behind i parts_of ≡ field_types all
      → AllSound here.facts (field_types all) → field_among env key x i all ≡ Some f → IsField parts_of f
  found_field env key x parts_of i [] f e s h = none_some h
  found_field env key x parts_of i (field ∷ rest) f e (and_more s more) h =
      let q = at_position i parts_of field.of (field_types rest) e in
      by_test (same_text x (normal field.name) && is_visible env key field) h (is_field q.0 s) (λ h. found_field env key x parts_of (suc i) rest f q.1 more h)
    where
      by_test : (b : Bool) → if_found b (found i field.of) (field_among env key x (suc i) rest) ≡ Some f → IsField parts_of (found i field.of)
          → (field_among env key x (suc i) rest ≡ Some f → IsField parts_of f) → IsField parts_of f
      by_test true h is rest = subst (λ f. IsField parts_of f) (some_one h) is
      by_test false h is rest = rest h

  found_part : (x : List ℕ) (parts_of : Tys) (i : ℕ) (names : List (List ℕ)) (ts : Tys) (f : Found) → behind i parts_of ≡ ts → AllSound here.facts ts
      → part_among x i names ts ≡ Some f → IsField parts_of f
  found_part x parts_of i [] no_types f e s h = none_some h
  found_part x parts_of i [] (types t ts) f e s h = none_some h
  found_part x parts_of i (name ∷ names) no_types f e s h = none_some h
  found_part x parts_of i (name ∷ names) (types t ts) f e (and_more s more) h =
      let q = at_position i parts_of t ts e in
      by_test (same_text x name) h (is_field q.0 s) (λ h. found_part x parts_of (suc i) names ts f q.1 more h)
    where
      by_test : (b : Bool) → if_found b (found i t) (part_among x (suc i) names ts) ≡ Some f → IsField parts_of (found i t)
          → (part_among x (suc i) names ts ≡ Some f → IsField parts_of f) → IsField parts_of f
      by_test true h is rest = subst (λ f. IsField parts_of f) (some_one h) is
      by_test false h is rest = rest h

  -- of a type, by its name
  abbrev Fielded : Ty → Found → Type 0
  Fielded ty f = (field_at (kind_of here.facts ty) f.number ≡ Some f.of) × Sound here.facts f.of

  of_object_field : (key : Key) (ts : Tys) (all : List Field) (resource : Bool) (f : Found)
      → fact_of here.facts (type.object key ts) ≡ Some (fields all resource) → nth_kind (field_types all) f.number ≡ Some f.of
      → field_at (kind_of here.facts (type.object key ts)) f.number ≡ Some f.of
  of_object_field key ts all resource f e n = ap (λ o. field_at (declared_kind o) f.number) e ∙ n

  pub named_field : (env : Env) → Knows here env → (x : List ℕ) (ty : Ty) (f : Found) → Sound here.facts ty → field_named env x ty ≡ Some f → Fielded ty f
  named_field env knows x (type.object key given) f s e = by_fact (fact_of env.facts (type.object key given)) refl e
    where
      done : (all : List Field) → IsField (field_types all) f → (resource : Bool)
          → fact_of here.facts (type.object key given) ≡ Some (fields all resource) → Fielded (type.object key given) f
      done all (is_field n s) resource e = (of_object_field key given all resource f e n, s)

      by_fact : (o : Option Fact) → fact_of env.facts (type.object key given) ≡ o → field_among env key x 0 (fields_in o) ≡ Some f
          → Fielded (type.object key given) f
      by_fact None k e = none_some e
      by_fact (Some (members names)) k e = none_some e
      by_fact (Some (base t)) k e = none_some e
      by_fact (Some (below parent)) k e = none_some e
      by_fact (Some (fields all resource)) k e =
          let is : fact_of here.facts (type.object key given) ≡ Some (fields all resource) = knows.said (type.object key given) (fields all resource) k in
          done all (found_field env key x (field_types all) 0 all f refl (knows.sound.parts (type.object key given) all resource is) e) resource is
  named_field env knows x (type.tuple names ts) f s e = done (found_part x ts 0 names ts f refl (parts s) e)
    where
      parts : Sound here.facts (type.tuple names ts) → AllSound here.facts ts
      parts (of_tuple h) = h

      done : IsField ts f → Fielded (type.tuple names ts) f
      done (is_field n s) = (n, s)
  named_field env knows x ty f s e = none_some e

  -- ---- elements

  same_position : (i : ℕ) (ts : Tys) → nth_type i ts ≡ nth_kind ts i
  same_position zero no_types = refl
  same_position (suc i) no_types = refl
  same_position zero (types t ts) = refl
  same_position (suc i) (types t ts) = same_position i ts

  part_sound : (i : ℕ) (ts : Tys) (t : Ty) → AllSound here.facts ts → nth_type i ts ≡ Some t → Sound here.facts t
  part_sound i no_types t s e = none_some (no_part_there i ∙ e)
    where
      no_part_there : (i : ℕ) → None ≡ nth_type i no_types
      no_part_there zero = refl
      no_part_there (suc i) = refl
  part_sound zero (types u ts) t (and_more s more) e = subst (Sound here.facts) (some_one e) s
  part_sound (suc i) (types u ts) t (and_more s more) e = part_sound i ts t more e

  tuple_part : (n : ℕ) (at : Place) (v : Valued) (names : List (List ℕ)) (ts : Tys) (l : Literal) → RightValue here v → v.of ≡ type.tuple names ts
      → Sure (Right here) (numbered_part n at v ts l)
  tuple_part n at v names ts (Number (pos i)) h e = by_type (nth_type i ts) refl
    where
      parts : Sound here.facts (type.tuple names ts) → AllSound here.facts ts
      parts (of_tuple h) = h

      by_type : (o : Option Ty) → nth_type i ts ≡ o → Sure (Right here) (read_part n at v i o)
      by_type None k = s_err
      by_type (Some t) k =
          s_ok (field_right n at v (found i t) h
          (subst (λ u. field_at (kind_of here.facts u) i ≡ Some t) (sym e) (sym (same_position i ts) ∙ k))
          (part_sound i ts t (parts (subst (Sound here.facts) e h.sound)) k))
  tuple_part n at v names ts (Number (negsuc i)) h e = s_err
  tuple_part n at v names ts (P.Characters bytes) h e = s_err
  tuple_part n at v names ts P.NoObject h e = s_err
  tuple_part n at v names ts (P.PartsOf all) h e = s_err
  tuple_part n at v names ts (P.ElementsOf all) h e = s_err

  element_right : (env : Env) (n k : ℕ) (at : Place) (v i : Valued) → RightValue here v → RightValue here i → i.of ≡ type.int
      → Sure (λ x. Right here x.expr) (element_of env.facts n k at v i (element_type v.of))
  element_right env n k at v i h g int = by_type (element_type v.of) refl
    where
      by_type : (o : Option Ty) → element_type v.of ≡ o → Sure (λ x. Right here x.expr) (element_of env.facts n k at v i o)
      by_type None e = s_err
      by_type (Some t) e =
          let q = path_right here v h in
          let r = element_kind h.sound e in
          s_ok (record {
            typed = both (held r.2)
                (both (both (subst (λ u. is_of (kind_element (kind_if here.facts u)) (Some t) ≡ true) (sym q.0)
                (is_by r.0 refl))
                (subst (λ u. is_int_kind (kind_if here.facts u) ≡ true) (sym g.gives) (ap (λ u. is_int_kind (kind_of here.facts u)) int)))
                (both q.2 g.typed));
            sound = r.2;
          })

  pub index_right : (env : Env) (n m k : ℕ) (at : Place) (v i : Valued) → RightValue here v → RightValue here i
      → Sure (λ x. Right here x.expr) (index_rule env n m k at v i)
  index_right env n m k at v i h g = sure_if (is_int i.of) (λ c. by_type v.of refl (the_int c)) (λ c. s_err)
    where
      by_type : (ty : Ty) → v.of ≡ ty → i.of ≡ type.int → Sure (λ x. Right here x.expr) (indexed env n m k at v ty i)
      by_type (type.tuple names ts) e int =
          sure_then (sure_then (sure_itself (constant_at env.facts at i)) (λ l c. tuple_part n at v names ts l h e)) (λ e r. s_ok r)
      by_type ty e int = subst (λ u. Sure (λ x. Right here x.expr) (element_of env.facts n k at v i (element_type u))) e (element_right env n k at v i h g int)

  -- ---- objects

  -- fields that are given, each with its type
  abbrev pub AllFielded : Ty → List Found → Type 0
  AllFielded ty [] = Unit {0}
  AllFielded ty (f ∷ rest) = Fielded ty f × AllFielded ty rest

  pub all_fielded : (env : Env) → Knows here env → (ty : Ty) → Sound here.facts ty → {xs : List (List ℕ)} {all : List Found} → AreFields env ty xs all
      → AllFielded ty all
  all_fielded env knows ty s no_part = tt
  all_fielded env knows ty s (a_field {x = x} {f = f} e more other) = (named_field env knows x ty f s e, all_fielded env knows ty s more)

  among_numbers : (n : ℕ) (fs : List Found) → is_in n (numbers_of fs) ≡ is_number_among n fs
  among_numbers n [] = refl
  among_numbers n (f ∷ fs) = ap (λ b. nat_eq n f.number || b) (among_numbers n fs)

  all_distinct : {env : Env} {ty : Ty} {xs : List (List ℕ)} {all : List Found} → AreFields env ty xs all → are_distinct (numbers_of all) ≡ true
  all_distinct no_part = refl
  all_distinct (a_field {f = f} {more = more} e rest other) =
      both (not_from_false (is_in f.number (numbers_of more)) (among_numbers f.number more ∙ other)) (all_distinct rest)

  -- values of the types of the fields
  abbrev pub OfFields : List Found → List Valued → Type 0
  OfFields [] [] = Unit {0}
  OfFields (f ∷ fs) (v ∷ vs) = (v.of ≡ f.of) × OfFields fs vs
  OfFields fs vs = ⊥

  fields_fit : (ty : Ty) (fs : List Found) (vs : List Valued) → AllFielded ty fs → OfFields fs vs → ValuesRight here vs
      → are_fields (kind_of here.facts ty) (numbers_of fs) (operand_types (exprs_of vs)) ≡ true
  fields_fit ty [] [] f o h = refl
  fields_fit ty [] (v ∷ vs) f o h = absurd o
  fields_fit ty (g ∷ fs) [] f o h = absurd o
  fields_fit ty (g ∷ fs) (v ∷ vs) f o h = both (is_by (h.0.gives ∙ ap (λ t. Some t) o.0) f.0.0) (fields_fit ty fs vs f.1 o.1 h.1)

  built_object : (facts : Facts) (key : Key) (ts : Tys) (all : List Field) (resource : Bool)
      → fact_of facts (type.object key ts) ≡ Some (fields all resource) → built facts (kind_of facts (type.object key ts)) ≡ kind_of facts (type.object key ts)
  built_object facts key ts all resource e =
      ap (λ o. built facts (declared_kind o)) e ∙ sym (ap declared_kind e)

  pub construct_right : (env : Env) → Knows here env → (n : ℕ) (at : Place) (ty : Ty) (all : List Field) (resource : Bool) {xs : List (List ℕ)}
      (fs : List Found) (vs : List Valued) → Sound here.facts ty → fact_of env.facts ty ≡ Some (fields all resource) → AreFields env ty xs fs
      → OfFields fs vs → ValuesRight here vs → Right here (construct_rule n at ty fs vs)
  construct_right env knows n at ty all resource fs vs s e f o h =
      record {
        typed = both (both (by_sort ty (knows.said ty (fields all resource) e) (all_fielded env knows ty s f)) (values_placed vs))
            (values_typed here vs h);
        sound = s;
      }
    where
      by_sort : (ty : Ty) → fact_of here.facts ty ≡ Some (fields all resource) → AllFielded ty fs
          → building_fits here.facts (Some ty) (numbers_of fs) (operand_types (exprs_of vs)) ≡ true
      by_sort (type.object key ts) is fit =
          let k = built_object here.facts key ts all resource is in
          both (ap is_built k ∙ ap (λ o. is_built (declared_kind o)) is)
          (both (all_distinct f)
          (subst (λ k. are_fields k (numbers_of fs) (operand_types (exprs_of vs)) ≡ true) (sym k) (fields_fit (type.object key ts) fs vs fit o h)))
      by_sort ty is fit = never (knows.sound.said ty (fields all resource) is)
