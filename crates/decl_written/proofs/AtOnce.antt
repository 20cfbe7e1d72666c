-- Written types in code: what is done so far with what is said of the rest is what is said of all.
use Rattle.std.proofs.Common.{◌≡◌, ℕ, ◌<◌, Bool, true, false, List, [], ◌∷◌, ◌++◌, length, refl, sym, ap, ap₂, ◌∙◌}
use Rattle.std.proofs.Common.{append-nil, append_assoc, arith}
use Rattle.std.specs.Bool.{◌==◌}
use Rattle.std.proofs.lemmas.Bool.{both_ways, eqb-true, eq-eqb}
use Rattle.std.specs.Prelude.{ℤ, map, codes, Result, Ok, Err, OnOk, IfErr, if◌then◌else◌}
use Rattle.arc_base.specs.declared.place.Place.{Place}
use Rattle.arc_base.specs.declared.place.Stop.{Stop}
use Rattle.arc_base.specs.declared.place.Stop.TheVariants as stop
use Rattle.arc_base.specs.Refusal.{Refusal, and_then, Answers}
use Rattle.indent_scanner.specs.Words.{normal}
use Rattle.nim_tree.specs.declared.name.Declared.{Declared}
use Rattle.nim_tree.specs.Types as written
use Rattle.nim_tree.specs.Types.{Written, Fields, fields}
use Rattle.nim_types.specs.Types as type
use Rattle.nim_types.specs.Types.{Ty, Tys, Facts}
use Rattle.nim_types.specs.Table.{type_at, types_at, AllBelow}
use Rattle.expr_rules.specs.Answers.{Answer, not_typed}
use Rattle.expr_rules.specs.Env.{Env}
use Rattle.expr_rules.specs.Names.{array_by, array_type, sized_type, formed_type}
use Rattle.expr_rules.specs.Demands.{former_of}
use Rattle.expr_rules.specs.Sizes.{is_sized}
use Rattle.expr_parts.proofs.ForCallers.{answers_as, stops}
use Rattle.decl_rules.specs.Written.{Spelled, spelled_as, Formed, at_once, formed_rule, types_in, formed_in, named_by, array_rule, Part, Parted}
use Rattle.decl_rules.specs.Written.{parts_as, parts_behind, field_names_rule, names_of, types_of, tuple_of, spelled, parts_spelled}
use Rattle.decl_written.specs.ViewWritten.{at_once_of, normal_names, onto, tuple_before, PartsLeft}

-- ---- answers

-- what follows without a refusal
pub then_ok : {A B T : Type 0} (of : T → A) (g : A → B) (said : Result A Refusal) (r : Result T Stop) → Answers of said r
    → Answers (λ x. g (of x)) (and_then said (λ a. Ok (g a))) r
then_ok of g said (Ok x) h = ap (λ z. and_then z (λ a. Ok (g a))) h
then_ok of g said (Err (stop.Refused code at)) h = ap (λ z. and_then z (λ a. Ok (g a))) h
then_ok of g said (Err stop.Memory) h = tt

-- a refusal of what nothing follows
first_refused : {A B : Type 0} (x : B) (said : Result A Refusal) (r : Refusal) → and_then said (λ _. Ok x) ≡ Err r → said ≡ Err r
first_refused x (Ok y) r h = cc
first_refused x (Err s) r h = cc

pub stops_first : {A B T : Type 0} (of : T → B) (said : Result A Refusal) (go : A → Result B Refusal) (s : Stop)
    → Answers {A = Unit {0}} (λ (_ : Unit {0}). tt) (and_then said (λ _. Ok tt)) (Err s) → Answers of (and_then said go) (Err s)
stops_first of said go (stop.Refused code at) h =
    ap (λ z. and_then z go) (first_refused tt said (record { code = code; at = at }) h)
stops_first of said go stop.Memory h = tt

-- ---- numbers

pub empty_is : {X : Type 0} (xs : List X) (n : ℕ) → n ≡ length xs → (n == 0) ≡ true → xs ≡ []
empty_is [] n e f = refl
empty_is (x ∷ xs) n e f = let z = eqb-true n 0 f in absurd (omega (arith, e, z))

pub some_is : {X : Type 0} (xs : List X) (n : ℕ) → n ≡ length xs → (n == 0) ≡ false → (x : X) × (rest : List X) × (xs ≡ x ∷ rest)
some_is [] n e f = absurd (both_ways (n == 0) f (eq-eqb n 0 e))
some_is (x ∷ xs) n e f = (x, xs, refl)

-- ---- names

types_once : (ts : List Ty) (is : List ℕ) → types_in (map (at_once_of ts) is) ≡ map (type_at ts) is
types_once ts [] = refl
types_once ts (i ∷ is) = ap (λ all. type_at ts i ∷ all) (types_once ts is)

formed_once : (ts : List Ty) (is : List ℕ) → formed_in (map (at_once_of ts) is) ≡ []
formed_once ts [] = refl
formed_once ts (i ∷ is) = formed_once ts is

-- a name with types in brackets
pub formed_by_name : (ts : List Ty) (env : Env) (at : Place) (x : List ℕ) (i : ℕ) (is : List ℕ)
    → named_by env at x (map (at_once_of ts) (i ∷ is))
    ≡ and_then (formed_type env at x (map (type_at ts) (i ∷ is))) (λ ty. Ok (spelled_as ty []))
formed_by_name ts env at x i is =
    ap₂ (λ given inside. and_then (formed_type env at x given) (λ ty. Ok (spelled_as ty inside))) (types_once ts (i ∷ is)) (formed_once ts (i ∷ is))

-- ---- arrays

sized : (facts : Facts) (at : Place) (ty : Ty) (b : Bool)
    → and_then {A = Unit {0}} (if b then Ok tt else not_typed at) (λ _. Ok (spelled_as ty []))
    ≡ and_then {A = Ty} (if b then Ok ty else not_typed at) (λ t. Ok (spelled_as t []))
sized facts at ty true = refl
sized facts at ty false = refl

formed_sized : (facts : Facts) (at : Place) (inside : List Formed) (said : Answer Ty)
    → and_then said (λ ty. formed_rule at_once facts at ty inside) ≡ and_then (and_then said (sized_type facts at)) (λ ty. Ok (spelled_as ty []))
formed_sized facts at inside (Ok ty) = sized facts at ty (is_sized facts ty)
formed_sized facts at inside (Err r) = refl

pub array_once : (env : Env) (at : Place) (k : ℤ) (e : Spelled)
    → array_rule at_once env at k e ≡ and_then (array_type env at k e.of) (λ ty. Ok (spelled_as ty []))
array_once env at k e = formed_sized env.facts at e.formed (array_by at (former_of env (codes "array")) k e.of)

-- ---- types in brackets

abbrev pub front : List Spelled → Answer (List Spelled) → Answer (List Spelled)
front done rest = and_then rest (λ more. Ok (done ++ more))

pub none_before : (all : Answer (List Spelled)) → all ≡ front [] all
none_before (Ok x) = refl
none_before (Err r) = refl

pub all_before : (done : List Spelled) → front done (Ok []) ≡ Ok done
all_before done = ap Ok (append-nil done)

pub one_before : (done : List Spelled) (s : Spelled) (rest : Answer (List Spelled))
    → front done (and_then rest (λ more. Ok (s ∷ more))) ≡ front (done ++ s ∷ []) rest
one_before done s (Ok more) = ap Ok (sym (append_assoc done (s ∷ []) more))
one_before done s (Err r) = refl

-- ---- fields and parts

onto_none : (ts : Tys) → onto ts type.no_types ≡ ts
onto_none type.no_types = refl
onto_none (type.types t ts) = ap (type.types t) (onto_none ts)

onto_onto : (a b c : Tys) → onto (onto a b) c ≡ onto a (onto b c)
onto_onto type.no_types b c = refl
onto_onto (type.types t ts) b c = ap (type.types t) (onto_onto ts b c)

types_onto : (ts : List Ty) (is js : List ℕ) → types_at ts (is ++ js) ≡ onto (types_at ts is) (types_at ts js)
types_onto ts [] js = refl
types_onto ts (i ∷ is) js = ap (type.types (type_at ts i)) (types_onto ts is js)

types_each : (ts : List Ty) (i : ℕ) (names : List Declared) → types_at ts (map (λ _. i) names) ≡ types_of (parts_as names (type_at ts i))
types_each ts i [] = refl
types_each ts i (d ∷ names) = ap (type.types (type_at ts i)) (types_each ts i names)

pub names_behind : (names : List Declared) (ty : Ty) (more : List Part) → names_of (parts_as names ty ++ more) ≡ normal_names names ++ names_of more
names_behind [] ty more = refl
names_behind (d ∷ names) ty more = ap (λ all. normal d.text ∷ all) (names_behind names ty more)

types_behind : (names : List Declared) (ty : Ty) (more : List Part)
    → types_of (parts_as names ty ++ more) ≡ onto (types_of (parts_as names ty)) (types_of more)
types_behind [] ty more = refl
types_behind (d ∷ names) ty more = ap (type.types ty) (types_behind names ty more)

pub no_parts_yet : (rest : Answer Parted) → and_then rest (λ all. Ok (tuple_of all.parts)) ≡ PartsLeft [] type.no_types rest
no_parts_yet (Ok all) = refl
no_parts_yet (Err r) = refl

pub all_parts : (names : List (List ℕ)) (ts : Tys) → PartsLeft names ts (Ok (record { parts = []; formed = [] })) ≡ Ok (type.tuple names ts)
all_parts names ts = ap Ok (ap₂ type.tuple (append-nil names) (onto_none ts))

one_group : (ts : List Ty) (names : List (List ℕ)) (is : List ℕ) (group : List Declared) (i : ℕ) (rest : Answer Parted)
    → PartsLeft names (types_at ts is) (and_then rest (λ more. Ok (parts_behind group (at_once_of ts i) more)))
    ≡ PartsLeft (names ++ normal_names group) (types_at ts (is ++ map (λ _. i) group)) rest
one_group ts names is group i (Err r) = refl
one_group ts names is group i (Ok more) =
    let ty = type_at ts i in
    let is_onto = types_onto ts is (map (λ _. i) group) ∙ ap (onto (types_at ts is)) (types_each ts i group) in
    ap Ok
    (ap₂ type.tuple
    (ap (λ all. names ++ all) (names_behind group ty more.parts) ∙ sym (append_assoc names (normal_names group) (names_of more.parts)))
    (ap (onto (types_at ts is)) (types_behind group ty more.parts)
    ∙ sym (onto_onto (types_at ts is) (types_of (parts_as group ty)) (types_of more.parts))
    ∙ ap (λ all. onto all (types_of more.parts)) (sym is_onto)))

-- with one group of fields more
pub group_done : (ts : List Ty) (env : Env) (names before after : List (List ℕ)) (is : List ℕ) (group : List Declared) (of : Written) (rest : Fields)
    (i : ℕ) → field_names_rule before group ≡ Ok after → spelled at_once env of ≡ Ok (at_once_of ts i)
    → PartsLeft names (types_at ts is) (parts_spelled at_once env before (fields group of rest))
    ≡ PartsLeft (names ++ normal_names group) (types_at ts (is ++ map (λ _. i) group)) (parts_spelled at_once env after rest)
group_done ts env names before after is group of rest i e f =
    ap (λ said. PartsLeft names (types_at ts is)
    (and_then said (λ now. and_then (spelled at_once env of)
    (λ s. and_then (parts_spelled at_once env now rest) (λ more. Ok (parts_behind group s more)))))) e
    ∙ ap (λ said. PartsLeft names (types_at ts is)
    (and_then said (λ s. and_then (parts_spelled at_once env after rest) (λ more. Ok (parts_behind group s more))))) f
    ∙ one_group ts names is group i (parts_spelled at_once env after rest)

-- a group of fields that is refused, by a name
pub names_refused : {T : Type 0} (of : T → Ty) (env : Env) (names before : List (List ℕ)) (ts : Tys) (group : List Declared) (w : Written) (rest : Fields)
    (s : Stop) → Answers {A = Unit {0}} (λ (_ : Unit {0}). tt) (and_then (field_names_rule before group) (λ _. Ok tt)) (Err s)
    → Answers of (PartsLeft names ts (parts_spelled at_once env before (fields group w rest))) (Err s)
names_refused of env names before ts group w rest s h =
    let go = λ (now : List (List ℕ)). and_then (spelled at_once env w)
    (λ one. and_then (parts_spelled at_once env now rest) (λ more. Ok (parts_behind group one more))) in
    stops of (λ (all : Parted). all) (and_then (field_names_rule before group) go) (λ all. Ok (tuple_before names ts all.parts)) s
    (stops_first (λ (all : Parted). all) (field_names_rule before group) go s h)

-- or by its type
pub type_refused : {T : Type 0} (of : T → Ty) (env : Env) (names before after : List (List ℕ)) (ts : List Ty) (is : Tys) (group : List Declared)
    (w : Written)
    (rest : Fields) (s : Stop) → field_names_rule before group ≡ Ok after → Answers (at_once_of ts) (spelled at_once env w) (Err s)
    → Answers of (PartsLeft names is (parts_spelled at_once env before (fields group w rest))) (Err s)
type_refused of env names before after ts is group w rest s e h =
    let tail = λ (one : Spelled). and_then (parts_spelled at_once env after rest) (λ more. Ok (parts_behind group one more)) in
    let go = λ (now : List (List ℕ)). and_then (spelled at_once env w)
    (λ one. and_then (parts_spelled at_once env now rest) (λ more. Ok (parts_behind group one more))) in
    answers_as of (PartsLeft names is (parts_spelled at_once env before (fields group w rest))) (PartsLeft names is (and_then (spelled at_once env w) tail))
    (Err s)
    (ap (λ said. PartsLeft names is (and_then said go)) e)
    (stops of (λ (all : Parted). all) (and_then (spelled at_once env w) tail) (λ all. Ok (tuple_before names is all.parts)) s
    (stops (λ (all : Parted). all) (at_once_of ts) (spelled at_once env w) tail s h))

through : {A B C : Type 0} (said : Answer A) (g : A → B) (go : B → Answer C)
    → and_then said (λ a. go (g a)) ≡ and_then (and_then said (λ a. Ok (g a))) go
through (Ok x) g go = refl
through (Err r) g go = refl

-- a tuple by the types of its parts
pub tuple_once : (env : Env) (at : Place) (inside : Fields)
    → spelled at_once env (written.tuple_of at inside)
    ≡ and_then (and_then (parts_spelled at_once env [] inside) (λ all. Ok (tuple_of all.parts))) (λ ty. formed_rule at_once env.facts at ty [])
tuple_once env at inside = through (parts_spelled at_once env [] inside) (λ all. tuple_of all.parts) (λ ty. formed_rule at_once env.facts at ty [])

-- ---- one type for each name

pub below_each : {X : Type 0} (n i : ℕ) (is : List ℕ) (xs : List X) → AllBelow n is → i < n → AllBelow n (is ++ map (λ _. i) xs)
below_each n i [] [] h k = tt
below_each n i [] (x ∷ xs) h k = (k, below_each n i [] xs tt k)
below_each n i (j ∷ is) xs h k = (h.0, below_each n i is xs h.1 k)

-- ---- of what a call answers

pub on_ok : {T E P Q : Type 0} (r : Result T E) → OnOk r P → (P → Q) → OnOk r Q
on_ok (Ok x) h f = f h
on_ok (Err s) h f = tt

pub if_err : {T E : Type 0} {P Q : E → Type 0} (r : Result T E) → IfErr r P → ((s : E) → P s → Q s) → IfErr r Q
if_err (Ok x) h f = tt
if_err (Err s) h f = f s h
