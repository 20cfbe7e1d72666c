-- Names in types, where types of a section are names: what they are known as.
use Rattle.std.proofs.Common.{◌≡◌, ℕ, zero, suc, ◌+◌, ◌<◌, List, [], ◌∷◌, ◌++◌, length, refl, sym, ap, ap₂, subst, ◌∙◌, append_assoc}
use Rattle.std.proofs.Common.{length-append, arith}
use Rattle.std.specs.Prelude.{Bool, true, false, Option, Some, None, map, slice_get, if◌then◌else◌, replicate}
use Rattle.std.proofs.lemmas.Option.{none-some}
use Rattle.arc_base.specs.declared.place.Place.{Place}
use Rattle.arc_base.specs.declared.place.Code.TheVariants.{UnknownName}
use Rattle.arc_base.specs.Refusal.{refused}
use Rattle.std.specs.Prelude.{Ok}
use Rattle.indent_scanner.specs.Words.{normal}
use Rattle.nim_types.specs.Types as type
use Rattle.nim_types.specs.Types.{Ty, Key, Facts, same_text}
use Rattle.expr_rules.specs.Builtins.{is_built_in}
use Rattle.expr_rules.specs.Demands.{former_by, former_of, of_nothing}
use Rattle.expr_rules.specs.Env as e
use Rattle.expr_rules.specs.Env.{Entry, named, name_in, Known, unknown, a_type, known_next, known_behind, known_as}
use Rattle.expr_rules.specs.Names.{is_unknown, callee_rule, type_rule, named_type}
use Rattle.expr_parts.specs.declared.scope.Decl.{Decl}
use Rattle.expr_parts.specs.declared.scope.Scope.{Scope}
use Rattle.expr_parts.specs.declared.scope.What.{What}
use Rattle.expr_parts.specs.declared.scope.What.TheVariants as what
use Rattle.expr_parts.specs.View.{env_of, entry_of, entry_by}
use Rattle.expr_parts.specs.ViewDecls.{last_of, has_name}
use Rattle.nim_types.specs.Table.{type_at}
use Rattle.decl_sections.specs.ViewSpelled.{Outer}
use Rattle.decl_types.specs.declared.nodes.Names.{Names}
use Rattle.decl_types.specs.ViewNodes.{key_at, number_in, seen_entry, seen_entries, names_env_of}

-- ---- the last declaration of a name, from the first on

abbrev last_onto : Option ℕ → List ℕ → ℕ → List Decl → Option ℕ
last_onto o x i [] = o
last_onto o x i (d ∷ ds) = last_onto (if same_text x d.name then Some i else o) x (suc i) ds

get_mid : (pre : List Decl) (d : Decl) (rest : List Decl) → slice_get (pre ++ d ∷ rest) (length pre) ≡ Some d
get_mid [] d rest = refl
get_mid (e ∷ pre) d rest = get_mid pre d rest

last_is : (all pre ds : List Decl) (x : List ℕ) (i : ℕ) → all ≡ pre ++ ds → i ≡ length pre → last_onto (last_of all x i) x i ds
    ≡ last_of all x (length all)
last_is all pre [] x i h n =
    let l = ap length h in
    let e : i ≡ length all = omega (arith, n, l, length-append pre []) in
    ap (last_of all x) e
last_is all pre (d ∷ ds) x i h n =
    let here : slice_get all i ≡ Some d = ap₂ (λ (xs : List Decl) (k : ℕ). slice_get xs k) h n ∙ get_mid pre d ds in
    ap (λ (b : Bool). last_onto (if b then Some i else last_of all x i) x (suc i) ds) (sym (ap (has_name x) here))
    ∙ last_is all (pre ++ d ∷ []) ds x (suc i) (h ∙ sym (append_assoc pre (d ∷ []) ds)) (omega (arith, n, length-append pre (d ∷ [])))

-- ---- names of entries

entry_name : (ts : List Ty) (x : List ℕ) (w : What) → name_in (entry_by ts x w) ≡ x
entry_name ts x (what.Variable place ty writable global) = refl
entry_name ts x (what.Constant ty l) = refl
entry_name ts x (what.Type id) = refl
entry_name ts x what.Pending = refl
entry_name ts x (what.Procedure p) = refl
entry_name ts x what.Input = refl

seen_name : (ts : List Ty) (keys : List Key) (o : Option ℕ) (d : Decl) → name_in (seen_entry ts keys o d) ≡ d.name
seen_name ts keys None d = entry_name ts d.name d.what
seen_name ts keys (Some k) d = refl

-- ---- whether a name has a meaning

never_unknown : (before : Known) (entry : Entry) → is_unknown (known_next before entry) ≡ false
never_unknown before (e.variable name place of writable global) = refl
never_unknown before (e.constant name of value) = refl
never_unknown before (named name of) = refl
never_unknown before (e.pending name) = refl
never_unknown before (e.procedure name callee) = refl
never_unknown before (e.input name) = refl

one_unknown : (b : Bool) (before other : Known) (s f : Entry) → is_unknown before ≡ is_unknown other
    → is_unknown (if b then known_next before s else before) ≡ is_unknown (if b then known_next other f else other)
one_unknown true before other s f h = never_unknown before s ∙ sym (never_unknown other f)
one_unknown false before other s f h = h

both_unknown : (ts : List Ty) (keys : List Key) (names : Names) (x : List ℕ) (i : ℕ) (ds : List Decl) (before other : Known)
    → is_unknown before ≡ is_unknown other
    → is_unknown (known_behind before x (seen_entries ts keys names i ds)) ≡ is_unknown (known_behind other x (map (entry_of ts) ds))
both_unknown ts keys names x i [] before other h = h
both_unknown ts keys names x i (d ∷ ds) before other h =
    let s = seen_entry ts keys (number_in names (Some i)) d in
    let n = seen_name ts keys (number_in names (Some i)) d ∙ sym (entry_name ts d.name d.what) in
    ap (λ (b : Bool). is_unknown (known_behind (if b then known_next before s else before) x (seen_entries ts keys names (suc i) ds)))
    (ap (same_text x) n)
    ∙ both_unknown ts keys names x (suc i) ds
    (if same_text x (name_in (entry_of ts d)) then known_next before s else before)
    (if same_text x (name_in (entry_of ts d)) then known_next other (entry_of ts d) else other)
    (one_unknown (same_text x (name_in (entry_of ts d))) before other s (entry_of ts d) h)

unknown_alike : (ts : List Ty) (facts before : Facts) (keys : List Key) (names : Names) (scope : Scope) (x : List ℕ)
    → is_unknown (known_as (names_env_of ts before keys names scope) x) ≡ is_unknown (known_as (env_of ts facts scope) x)
unknown_alike ts facts before keys names scope x = both_unknown ts keys names x 0 scope.decls unknown unknown refl

pub callee_alike : (ts : List Ty) (facts before : Facts) (keys : List Key) (names : Names) (scope : Scope) (at : Place) (x : List ℕ)
    → callee_rule (names_env_of ts before keys names scope) at x ≡ callee_rule (env_of ts facts scope) at x
callee_alike ts facts before keys names scope at x =
    ap (λ (b : Bool). if (if is_built_in x then false else b) then refused UnknownName at else Ok tt)
    (unknown_alike ts facts before keys names scope x)

is_the_unknown : (k : Known) → is_unknown k ≡ true → k ≡ unknown
is_the_unknown unknown h = refl
is_the_unknown (a_type t) h = cc
is_the_unknown (e.a_variable place of writable global) h = cc
is_the_unknown (e.a_constant of value) h = cc
is_the_unknown e.a_pending_type h = cc
is_the_unknown (e.procedures all) h = cc
is_the_unknown e.the_input h = cc

no_former : (k : Known) (x : List ℕ) → is_unknown k ≡ false → former_by k x ≡ of_nothing
no_former unknown x h = cc
no_former (a_type t) x h = refl
no_former (e.a_variable place of writable global) x h = refl
no_former (e.a_constant of value) x h = refl
no_former e.a_pending_type x h = refl
no_former (e.procedures all) x h = refl
no_former e.the_input x h = refl

formers : (k l : Known) (x : List ℕ) → is_unknown k ≡ is_unknown l → former_by k x ≡ former_by l x
formers k l x h = by_test (is_unknown k) refl
  where
    by_test : (b : Bool) → is_unknown k ≡ b → former_by k x ≡ former_by l x
    by_test true t = ap (λ z. former_by z x) (is_the_unknown k t ∙ sym (is_the_unknown l (sym h ∙ t)))
    by_test false t = no_former k x t ∙ sym (no_former l x (sym h ∙ t))

pub former_alike : (ts : List Ty) (facts before : Facts) (keys : List Key) (names : Names) (scope : Scope) (x : List ℕ)
    → former_of (names_env_of ts before keys names scope) x ≡ former_of (env_of ts facts scope) x
former_alike ts facts before keys names scope x =
    formers (known_as (names_env_of ts before keys names scope) x) (known_as (env_of ts facts scope) x) x
    (unknown_alike ts facts before keys names scope x)

-- ---- types by their names

-- what is known of a name whose last declaration has a number: a type of the section is itself, anything else is what it is elsewhere
record SeenAs (keys : List Key) (names : Names) (o : Option ℕ) (k l : Known) : Type 0 where
  of_section : (n : ℕ) → number_in names o ≡ Some n → k ≡ a_type (type.distinct (key_at keys n))
  of_others : number_in names o ≡ None → (at : Place) (built : Bool) → type_rule at built k ≡ type_rule at built l

same_rule : (ts : List Ty) (x : List ℕ) (w : What) (before other : Known) (at : Place) (built : Bool)
    → type_rule at built (known_next before (entry_by ts x w)) ≡ type_rule at built (known_next other (entry_by ts x w))
same_rule ts x (what.Variable place ty writable global) before other at built = refl
same_rule ts x (what.Constant ty l) before other at built = refl
same_rule ts x (what.Type id) before other at built = refl
same_rule ts x what.Pending before other at built = refl
same_rule ts x (what.Procedure p) before other at built = refl
same_rule ts x what.Input before other at built = refl

seen_next : (ts : List Ty) (keys : List Key) (names : Names) (i : ℕ) (d : Decl) (before other : Known)
    → SeenAs keys names (Some i) (known_next before (seen_entry ts keys (number_in names (Some i)) d)) (known_next other (entry_of ts d))
seen_next ts keys names i d before other = record {
  of_section = λ n h. ap (λ o. known_next before (seen_entry ts keys o d)) h;
  of_others = λ h at built.
      ap (λ o. type_rule at built (known_next before (seen_entry ts keys o d))) h ∙ same_rule ts d.name d.what before other at built;
}

seen_if : (b : Bool) (ts : List Ty) (keys : List Key) (names : Names) (o : Option ℕ) (i : ℕ) (d : Decl) (before other : Known)
    → SeenAs keys names o before other
    → SeenAs keys names (if b then Some i else o)
    (if b then known_next before (seen_entry ts keys (number_in names (Some i)) d) else before)
    (if b then known_next other (entry_of ts d) else other)
seen_if true ts keys names o i d before other h = seen_next ts keys names i d before other
seen_if false ts keys names o i d before other h = h

seen_all : (ts : List Ty) (keys : List Key) (names : Names) (x : List ℕ) (o : Option ℕ) (i : ℕ) (ds : List Decl) (before other : Known)
    → SeenAs keys names o before other
    → SeenAs keys names (last_onto o x i ds) (known_behind before x (seen_entries ts keys names i ds)) (known_behind other x (map (entry_of ts) ds))
seen_all ts keys names x o i [] before other h = h
seen_all ts keys names x o i (d ∷ ds) before other h =
    let s = seen_entry ts keys (number_in names (Some i)) d in
    let f = entry_of ts d in
    let last = last_onto (if same_text x d.name then Some i else o) x (suc i) ds in
    let b = same_text x d.name in
    subst (λ (c : Bool). SeenAs keys names last (known_behind (if c then known_next before s else before) x (seen_entries ts keys names (suc i) ds))
    (known_behind (if same_text x (name_in f) then known_next other f else other) x (map (entry_of ts) ds)))
    (ap (same_text x) (sym (seen_name ts keys (number_in names (Some i)) d)))
    (subst (λ (c : Bool). SeenAs keys names last (known_behind (if b then known_next before s else before) x (seen_entries ts keys names (suc i) ds))
    (known_behind (if c then known_next other f else other) x (map (entry_of ts) ds)))
    (ap (same_text x) (sym (entry_name ts d.name d.what)))
    (seen_all ts keys names x (if b then Some i else o) (suc i) ds (if b then known_next before s else before) (if b then known_next other f else other)
    (seen_if b ts keys names o i d before other h)))

seen_in : (ts : List Ty) (facts before : Facts) (keys : List Key) (names : Names) (scope : Scope) (x : List ℕ)
    → SeenAs keys names (last_of scope.decls x (length scope.decls)) (known_as (names_env_of ts before keys names scope) x)
    (known_as (env_of ts facts scope) x)
seen_in ts facts before keys names scope x =
    subst (λ o. SeenAs keys names o (known_as (names_env_of ts before keys names scope) x) (known_as (env_of ts facts scope) x))
    (last_is scope.decls [] scope.decls x 0 refl refl)
    (seen_all ts keys names x None 0 scope.decls unknown unknown
    (record { of_section = λ n h. absurd (none-some n h); of_others = λ h at built. refl }))

-- ---- types below a number

bool_at : (n i : ℕ) → i < n → type_at (replicate n type.bool) i ≡ type.bool
bool_at zero i h = absurd (omega (arith, h))
bool_at (suc n) zero h = refl
bool_at (suc n) (suc i) h = bool_at n i (omega (arith, h))

bool_below : (n i : ℕ) → type_at (replicate n type.bool) i ≡ type.bool → i < n
bool_below zero i e = cc
bool_below (suc n) zero e = omega arith
bool_below (suc n) (suc i) e = let r = bool_below n i e in omega (arith, r)

abbrev IsBool : Known → Type 0
IsBool (a_type t) = t ≡ type.bool
IsBool _ = Unit {0}

what_bool : (n : ℕ) (x : List ℕ) (w : What) (before : Known) → ((id : ℕ) → w ≡ what.Type id → id < n)
    → IsBool (known_next before (entry_by (replicate n type.bool) x w))
what_bool n x (what.Variable place ty writable global) before h = tt
what_bool n x (what.Constant ty l) before h = tt
what_bool n x (what.Type id) before h = bool_at n id (h id refl)
what_bool n x what.Pending before h = tt
what_bool n x (what.Procedure p) before h = tt
what_bool n x what.Input before h = tt

-- from a number on
abbrev AreOuter : ℕ → Names → ℕ → List Decl → Type 0
AreOuter n names i ds =
    (j id : ℕ) (d : Decl) → slice_get ds j ≡ Some d → number_in names (Some (i + j)) ≡ None → d.what ≡ what.Type id → id < n

outer_all : (n : ℕ) (names : Names) (x : List ℕ) (o : Option ℕ) (i : ℕ) (ds : List Decl) (before : Known) → AreOuter n names i ds
    → (number_in names o ≡ None → IsBool before) → number_in names (last_onto o x i ds) ≡ None
    → IsBool (known_behind before x (map (entry_of (replicate n type.bool)) ds))
outer_all n names x o i [] before h b e = b e
outer_all n names x o i (d ∷ ds) before h b e =
    let f = entry_of (replicate n type.bool) d in
    let same = same_text x d.name in
    let here : i + 0 ≡ i = omega arith in
    let first : number_in names (Some i) ≡ None → IsBool (known_next before f) =
    λ g. what_bool n d.name d.what before (λ id t. h 0 id d refl (ap (λ k. number_in names (Some k)) here ∙ g) t) in
    let rest : AreOuter n names (suc i) ds =
    λ j id c get g t. let next : i + suc j ≡ suc i + j = omega arith in h (suc j) id c get (ap (λ k. number_in names (Some k)) next ∙ g) t in
    subst (λ (c : Bool). IsBool (known_behind (if c then known_next before f else before) x (map (entry_of (replicate n type.bool)) ds)))
    (ap (same_text x) (sym (entry_name (replicate n type.bool) d.name d.what)))
    (outer_all n names x (if same then Some i else o) (suc i) ds (if same then known_next before f else before) rest
    (by_name names o i before f same first b) e)
  where
    by_name : (names : Names) (o : Option ℕ) (i : ℕ) (before : Known) (f : Entry) (c : Bool)
        → (number_in names (Some i) ≡ None → IsBool (known_next before f)) → (number_in names o ≡ None → IsBool before)
        → number_in names (if c then Some i else o) ≡ None → IsBool (if c then known_next before f else before)
    by_name names o i before f true first b g = first g
    by_name names o i before f false first b g = b g

bool_rule : (at : Place) (built : Bool) (k : Known) (t : Ty) → IsBool k → type_rule at built k ≡ Ok t → t ≡ type.bool
bool_rule at built (a_type u) t h e = let same : u ≡ t = cc in sym same ∙ h
bool_rule at true unknown t h e = cc
bool_rule at false unknown t h e = cc
bool_rule at built (e.a_variable place of writable global) t h s = cc
bool_rule at built (e.a_constant of value) t h s = cc
bool_rule at built e.a_pending_type t h s = cc
bool_rule at built (e.procedures all) t h s = cc
bool_rule at built e.the_input t h s = cc

-- a name that no type of the section has names one of these
pub outer_number : (n m : ℕ) (facts : Facts) (names : Names) (scope : Scope) (at : Place) (x : List ℕ) (id : ℕ) → Outer n m names scope.decls
    → number_in names (last_of scope.decls (normal x) (length scope.decls)) ≡ None
    → named_type (env_of (replicate n type.bool) facts scope) at x ≡ Ok (type_at (replicate n type.bool) id) → id < n
outer_number n m facts names scope at x id o none e =
    let first : AreOuter n names 0 scope.decls =
    λ j k d get g t. let here : j ≡ 0 + j = omega arith in o.types j k d get (ap (λ l. number_in names (Some l)) here ∙ g) t in
    let is = outer_all n names (normal x) None 0 scope.decls unknown first (λ _. tt)
    (ap (number_in names) (last_is scope.decls [] scope.decls (normal x) 0 refl refl) ∙ none) in
    bool_below n id (bool_rule at (is_built_in (normal x)) (known_as (env_of (replicate n type.bool) facts scope) (normal x))
    (type_at (replicate n type.bool) id) is e)

-- a type of the section
pub section_type : (ts : List Ty) (before : Facts) (keys : List Key) (names : Names) (scope : Scope) (at : Place) (x : List ℕ) (n : ℕ)
    → number_in names (last_of scope.decls (normal x) (length scope.decls)) ≡ Some n
    → named_type (names_env_of ts before keys names scope) at x ≡ Ok (type.distinct (key_at keys n))
section_type ts before keys names scope at x n h =
    ap (type_rule at (is_built_in (normal x))) ((seen_in ts before before keys names scope (normal x)).of_section n h)

-- any other name
pub outer_type : (ts : List Ty) (facts before : Facts) (keys : List Key) (names : Names) (scope : Scope) (at : Place) (x : List ℕ)
    → number_in names (last_of scope.decls (normal x) (length scope.decls)) ≡ None
    → named_type (names_env_of ts before keys names scope) at x ≡ named_type (env_of ts facts scope) at x
outer_type ts facts before keys names scope at x h =
    (seen_in ts facts before keys names scope (normal x)).of_others h at (is_built_in (normal x))
