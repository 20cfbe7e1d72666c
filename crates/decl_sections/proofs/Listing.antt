-- Lists of types that are written in a section: what is done so far with what is said of the rest is what is said of all.
use Rattle.std.proofs.Common.{◌≡◌, ℕ, List, [], ◌∷◌, ◌++◌, length, refl, sym, ap, ap₂, ◌∙◌, append-nil, append_assoc}
use Rattle.std.proofs.lemmas.List.{map-append}
use Rattle.std.specs.Prelude.{map, Ok, Err}
use Rattle.arc_base.specs.Refusal.{and_then}
use Rattle.nim_tree.specs.declared.name.Declared.{Declared}
use Rattle.nim_types.specs.Types.{Ty, Key}
use Rattle.nim_types.specs.Table.{type_at, AllBelow}
use Rattle.expr_rules.specs.Answers.{Answer}
use Rattle.decl_rules.specs.Written.{Spelled, Part, Parted, parts_as, parts_behind, names_of, types_in, formed_in}
use Rattle.decl_written.specs.ViewWritten.{normal_names}
use Rattle.decl_written.proofs.ForCallers.{names_behind}
use Rattle.decl_types.specs.declared.nodes.Node.{Node}
use Rattle.decl_types.specs.ViewNodes.{node_types}
use Rattle.decl_sections.specs.ViewSpelled.{formed_since, Further, one_in, Given, given_as, all_given, PartsMeant, parts_meant, all_parted}
use Rattle.decl_sections.proofs.Noding.{all_still, formed_two}

-- ---- types in brackets

abbrev pub front_given : Given → Answer Given → Answer Given
front_given a rest = and_then rest (λ b. Ok (given_as (a.of ++ b.of) (a.formed ++ b.formed)))

pub given_start : (all : Answer Given) → all ≡ front_given (given_as [] []) all
given_start (Ok b) = refl
given_start (Err r) = refl

pub given_end : (a : Given) → front_given a (all_given (Ok [])) ≡ Ok a
given_end a = ap Ok (ap₂ given_as (append-nil a.of) (append-nil a.formed))

given_one : (a : Given) (s : Spelled) (rest : Answer (List Spelled))
    → front_given a (all_given (and_then rest (λ more. Ok (s ∷ more))))
    ≡ front_given (given_as (a.of ++ s.of ∷ []) (a.formed ++ s.formed)) (all_given rest)
given_one a s (Err r) = refl
given_one a s (Ok more) =
    ap Ok (ap₂ given_as (sym (append_assoc a.of (s.of ∷ []) (types_in more))) (sym (append_assoc a.formed s.formed (formed_in more))))

-- those of nodes so far
abbrev pub given_now : List Ty → List Key → (start now : List Node) → List ℕ → Given
given_now ts keys start now is = given_as (map (type_at (node_types ts keys now)) is) (formed_since ts keys start now)

pub given_next : (ts : List Ty) (keys : List Key) (start old new : List Node) (is js : List ℕ) (i : ℕ) (rest : Answer (List Spelled))
    → Further start old → Further old new → AllBelow (length old) is → js ≡ is ++ i ∷ []
    → front_given (given_now ts keys start old is)
    (all_given (and_then rest (λ more. Ok (one_in (node_types ts keys new) (formed_since ts keys old new) i ∷ more))))
    ≡ front_given (given_now ts keys start new js) (all_given rest)
given_next ts keys start old new is js i rest a b w e =
    let ty = type_at (node_types ts keys new) i in
    given_one (given_now ts keys start old is) (one_in (node_types ts keys new) (formed_since ts keys old new) i) rest
    ∙ ap₂ (λ us fs. front_given (given_as us fs) (all_given rest))
    (ap (λ us. us ++ ty ∷ []) (sym (all_still ts keys old new is b w))
    ∙ sym (ap (map (type_at (node_types ts keys new))) e ∙ map-append (type_at (node_types ts keys new)) is (i ∷ [])))
    (sym (formed_two ts keys start old new a b))

-- ---- fields and parts

abbrev pub front_parts : PartsMeant → Answer PartsMeant → Answer PartsMeant
front_parts a rest = and_then rest (λ b. Ok (parts_meant (a.names ++ b.names) (a.of ++ b.of) (a.formed ++ b.formed)))

pub parts_start : (all : Answer PartsMeant) → all ≡ front_parts (parts_meant [] [] []) all
parts_start (Ok b) = refl
parts_start (Err r) = refl

pub parts_are : {a b : PartsMeant} → a.names ≡ b.names → a.of ≡ b.of → a.formed ≡ b.formed → a ≡ b
parts_are e f g = λ i. record { names = e i; of = f i; formed = g i }

pub parts_end : (a : PartsMeant) → front_parts a (all_parted (Ok (record { parts = []; formed = [] }))) ≡ Ok a
parts_end a = ap Ok (parts_are (append-nil a.names) (append-nil a.of) (append-nil a.formed))

types_behind : (names : List Declared) (ty : Ty) (more : List Part)
    → map (λ p. p.of) (parts_as names ty ++ more) ≡ map (λ _. ty) names ++ map (λ p. p.of) more
types_behind [] ty more = refl
types_behind (d ∷ names) ty more = ap (λ all. ty ∷ all) (types_behind names ty more)

parts_one : (a : PartsMeant) (group : List Declared) (s : Spelled) (rest : Answer Parted)
    → front_parts a (all_parted (and_then rest (λ more. Ok (parts_behind group s more))))
    ≡ front_parts (parts_meant (a.names ++ normal_names group) (a.of ++ map (λ _. s.of) group) (a.formed ++ s.formed)) (all_parted rest)
parts_one a group s (Err r) = refl
parts_one a group s (Ok more) =
    let types = map (λ (p : Part). p.of) more.parts in
    ap Ok (parts_are
    (ap (λ all. a.names ++ all) (names_behind group s.of more.parts) ∙ sym (append_assoc a.names (normal_names group) (names_of more.parts)))
    (ap (λ all. a.of ++ all) (types_behind group s.of more.parts) ∙ sym (append_assoc a.of (map (λ _. s.of) group) types))
    (sym (append_assoc a.formed s.formed more.formed)))

map_each : {X : Type 0} (f : ℕ → Ty) (i : ℕ) (xs : List X) → map f (map (λ _. i) xs) ≡ map (λ _. f i) xs
map_each f i [] = refl
map_each f i (x ∷ xs) = ap (λ all. f i ∷ all) (map_each f i xs)

abbrev pub parts_now : List Ty → List Key → (start now : List Node) → List (List ℕ) → List ℕ → PartsMeant
parts_now ts keys start now names is = parts_meant names (map (type_at (node_types ts keys now)) is) (formed_since ts keys start now)

pub parts_next : (ts : List Ty) (keys : List Key) (start old new : List Node) (names more : List (List ℕ)) (is js : List ℕ) (group : List Declared)
    (i : ℕ)
    (rest : Answer Parted) → Further start old → Further old new → AllBelow (length old) is → more ≡ names ++ normal_names group
    → js ≡ is ++ map (λ _. i) group
    → front_parts (parts_now ts keys start old names is)
    (all_parted (and_then rest (λ all. Ok (parts_behind group (one_in (node_types ts keys new) (formed_since ts keys old new) i) all))))
    ≡ front_parts (parts_now ts keys start new more js) (all_parted rest)
parts_next ts keys start old new names more is js group i rest a b w n e =
    let f = type_at (node_types ts keys new) in
    parts_one (parts_now ts keys start old names is) group (one_in (node_types ts keys new) (formed_since ts keys old new) i) rest
    ∙ ap (λ z. front_parts z (all_parted rest))
    (parts_are (sym n)
    (ap (λ us. us ++ map (λ _. f i) group) (sym (all_still ts keys old new is b w))
    ∙ sym (ap (map f) e ∙ map-append f is (map (λ _. i) group) ∙ ap (λ us. map f is ++ us) (map_each f i group)))
    (sym (formed_two ts keys start old new a b)))
