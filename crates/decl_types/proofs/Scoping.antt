-- The declarations of a section: how they change, and what they are for the rules.
use Rattle.std.proofs.Common.{◌≡◌, ℕ, zero, suc, ◌+◌, ◌-◌, ◌<◌, ◌≤◌, List, [], ◌∷◌, ◌++◌, length, drop, Some, None, refl}
use Rattle.std.proofs.Common.{sym, ap, ap₂}
use Rattle.std.proofs.Common.{◌∙◌, arith, add-one, append_assoc, length-append}
use Rattle.std.specs.Prelude.{Bool, true, false, ◌||◌, if◌then◌else◌, Option, slice_get, slice_set, map}
use Rattle.std.proofs.lemmas.Bool.{lt-ltb, le-ltb, eq-eqb, ne_eqb}
use Rattle.std.proofs.lemmas.List.{map-append}
use Rattle.indent_scanner.specs.Words.{normal}
use Rattle.nim_tree.specs.Types.{Declaration}
use Rattle.nim_types.specs.declared.types.TypeDef.{TypeDef}
use Rattle.nim_types.specs.Types as type
use Rattle.nim_types.specs.Types.{Ty, Key}
use Rattle.nim_types.specs.Table.{facts_in}
use Rattle.nim_program.specs.View.{if_type}
use Rattle.expr_rules.specs.Env.{Env, named}
use Rattle.expr_rules.specs.Constructions.{is_among}
use Rattle.expr_parts.specs.declared.scope.Decl.{Decl}
use Rattle.expr_parts.specs.declared.scope.Scope.{Scope}
use Rattle.expr_parts.specs.declared.scope.What.{What}
use Rattle.expr_parts.specs.declared.scope.What.TheVariants as what
use Rattle.expr_parts.specs.View.{entry_of, env_of}
use Rattle.expr_parts.specs.ViewDecls.{mended}
use Rattle.decl_rules.specs.State.{State}
use Rattle.decl_rules.specs.Meanings.{KnownType, key_of, keys_of, meaning_in}
use Rattle.decl_rules.specs.Sections.{Section, types_by, name_entry, known_entry, entry_by, names_env, env_with}
use Rattle.decl_types.specs.declared.nodes.Names.{Names}
use Rattle.decl_types.specs.ViewNodes.{key_at, number_in, seen_entry, seen_entries, names_env_of}
use Rattle.decl_types.specs.ViewScoped.{own_in, numbers_by, decls_by, type_decl, declaration_from, mended_from, AreKnown, Fixed, Scoped}

-- ---- a type that becomes known

pub mended_behind : (xs ys : List Decl) (i : ℕ) (w : What) → mended (xs ++ ys) (length xs + i) w ≡ xs ++ mended ys i w
mended_behind [] ys i w = let e : 0 + i ≡ i = omega arith in ap (λ k. mended ys k w) e
mended_behind (x ∷ xs) ys i w =
    let e : suc (length xs) + i ≡ suc (length xs + i) = omega arith in
    ap (λ k. mended (x ∷ (xs ++ ys)) k w) e ∙ ap (λ l. x ∷ l) (mended_behind xs ys i w)

mended_beyond : (ds : List Decl) (i : ℕ) (w : What) → length ds ≤ i → mended ds i w ≡ ds
mended_beyond [] i w h = refl
mended_beyond (d ∷ ds) zero w h = absurd (omega (arith, h))
mended_beyond (d ∷ ds) (suc i) w h = ap (λ l. d ∷ l) (mended_beyond ds i w (omega (arith, h)))

-- where there is no such declaration
pub none_mended : (ds : List Decl) (start i id : ℕ) → length ds ≤ start + i → mended_from ds start (Some i) id ≡ ds
none_mended ds start i id h = mended_beyond ds (start + i) (what.Type id) h

pub declared_here : (i first number : ℕ) (rest : List ℕ) → first ≡ number → declaration_from i (first ∷ rest) number ≡ Some i
declared_here i first number rest e = ap (λ (b : Bool). if b then Some i else declaration_from (suc i) rest number) (eq-eqb first number e)

pub declared_later : (i first number : ℕ) (rest : List ℕ) → (first ≡ number → ⊥)
    → declaration_from i (first ∷ rest) number ≡ declaration_from (i + 1) rest number
declared_later i first number rest e =
    rw add-one (ap (λ (b : Bool). if b then Some i else declaration_from (suc i) rest number) (ne_eqb first number e))

-- numbers from one on have none below it
absent : (own : List ℕ → Bool) (names : List (List ℕ)) (all : List Declaration) (i q n : ℕ) → n < i
    → declaration_from q (numbers_by own names i all) n ≡ None
absent own names [] i q n h = refl
absent own names (d ∷ rest) i q n h =
    by_name (own (normal d.name.text) || is_among (normal d.name.text) names) (λ more k. absent own more rest (suc i) k n (omega (arith, h)))
  where
    by_name : (b : Bool) → ((more : List (List ℕ)) (k : ℕ) → declaration_from k (numbers_by own more (suc i) rest) n ≡ None)
        → declaration_from q (if b then numbers_by own names (suc i) rest else i ∷ numbers_by own (normal d.name.text ∷ names) (suc i) rest) n ≡ None
    by_name true go = go names q
    by_name false go =
        ap (λ (b : Bool). if b then Some q else declaration_from (suc q) (numbers_by own (normal d.name.text ∷ names) (suc i) rest) n)
        (ne_eqb i n (λ e. omega (arith, e, h)))
        ∙ go (normal d.name.text ∷ names) (suc q)

-- the type of a definition stands behind the others that are known
pub mended_types : (own : List ℕ → Bool) (names : List (List ℕ)) (known : List (Option ℕ)) (all : List Declaration) (i q start j id : ℕ)
    (pre seen : List Decl) → length known ≡ length all → start + q ≡ length pre
    → mended_from (pre ++ (decls_by own names known all ++ seen)) start (declaration_from q (numbers_by own names i all) (i + j)) id
    ≡ pre ++ (decls_by own names (slice_set known j (Some id)) all ++ seen)
mended_types own names [] [] i q start j id pre seen n s = refl
mended_types own names (o ∷ known) [] i q start j id pre seen n s = absurd (omega (arith, n))
mended_types own names [] (d ∷ rest) i q start j id pre seen n s = absurd (omega (arith, n))
mended_types own names (o ∷ known) (d ∷ rest) i q start zero id pre seen n s = by_name (own x || is_among x names)
  where
    x : List ℕ
    x = normal d.name.text

    by_name : (b : Bool)
        → mended_from (pre ++ ((if b then decls_by own names known rest else type_decl x o ∷ decls_by own (x ∷ names) known rest) ++ seen)) start
        (declaration_from q (if b then numbers_by own names (suc i) rest else i ∷ numbers_by own (x ∷ names) (suc i) rest) (i + 0)) id
        ≡ pre ++ ((if b then decls_by own names known rest else type_decl x (Some id) ∷ decls_by own (x ∷ names) known rest) ++ seen)
    by_name true =
        ap (λ p. mended_from (pre ++ (decls_by own names known rest ++ seen)) start p id) (absent own names rest (suc i) q (i + 0) (omega arith))
    by_name false =
        let behind = decls_by own (x ∷ names) known rest ++ seen in
        let at : start + q ≡ length pre + 0 = omega (arith, s) in
        let same : i ≡ i + 0 = omega arith in
        ap (λ p. mended_from (pre ++ (type_decl x o ∷ behind)) start p id) (declared_here q i (i + 0) (numbers_by own (x ∷ names) (suc i) rest) same)
        ∙ ap (λ k. mended (pre ++ (type_decl x o ∷ behind)) k (what.Type id)) at
        ∙ mended_behind pre (type_decl x o ∷ behind) 0 (what.Type id)
mended_types own names (o ∷ known) (d ∷ rest) i q start (suc j) id pre seen n s =
    by_name (own (normal d.name.text) || is_among (normal d.name.text) names)
    (λ more k front e. mended_types own more known rest (suc i) k start j id front seen (omega (arith, n)) e)
  where
    x : List ℕ
    x = normal d.name.text

    by_name : (b : Bool) → ((more : List (List ℕ)) (k : ℕ) (front : List Decl) → start + k ≡ length front
        → mended_from (front ++ (decls_by own more known rest ++ seen)) start (declaration_from k (numbers_by own more (suc i) rest) (suc i + j)) id
        ≡ front ++ (decls_by own more (slice_set known j (Some id)) rest ++ seen))
        → mended_from (pre ++ ((if b then decls_by own names known rest else type_decl x o ∷ decls_by own (x ∷ names) known rest) ++ seen)) start
        (declaration_from q (if b then numbers_by own names (suc i) rest else i ∷ numbers_by own (x ∷ names) (suc i) rest) (i + suc j)) id
        ≡ pre ++ ((if b then decls_by own names (slice_set known j (Some id)) rest
        else type_decl x o ∷ decls_by own (x ∷ names) (slice_set known j (Some id)) rest) ++ seen)
    by_name true go =
        let next : i + suc j ≡ suc i + j = omega arith in
        ap (λ k. mended_from (pre ++ (decls_by own names known rest ++ seen)) start (declaration_from q (numbers_by own names (suc i) rest) k) id) next
        ∙ go names q pre s
    by_name false go =
        let here : Decl = type_decl x o in
        let numbers = numbers_by own (x ∷ names) (suc i) rest in
        let behind = decls_by own (x ∷ names) known rest ++ seen in
        let next : i + suc j ≡ suc i + j = omega arith in
        let later : declaration_from q (i ∷ numbers) (i + suc j) ≡ declaration_from (suc q) numbers (suc i + j) =
        ap (λ (b : Bool). if b then Some q else declaration_from (suc q) numbers (i + suc j)) (ne_eqb i (i + suc j) (λ e. omega (arith, e)))
        ∙ ap (declaration_from (suc q) numbers) next in
        let count : start + suc q ≡ length (pre ++ here ∷ []) = omega (arith, s, length-append pre (here ∷ [])) in
        ap (λ p. mended_from (pre ++ (here ∷ behind)) start p id) later
        ∙ ap (λ l. mended_from l start (declaration_from (suc q) numbers (suc i + j)) id) (sym (append_assoc pre (here ∷ []) behind))
        ∙ go (x ∷ names) (suc q) (pre ++ here ∷ []) count
        ∙ append_assoc pre (here ∷ []) (decls_by own (x ∷ names) (slice_set known j (Some id)) rest ++ seen)

-- ---- entries

entries_known : (ts : List Ty) (st : State) (k : List KnownType) (names : List (List ℕ)) (all : List Declaration) (known : List (Option ℕ))
    → AreKnown ts k (keys_of all) known → map (entry_of ts) (decls_by (own_in st) names known all) ≡ types_by st names (known_entry k) all
entries_known ts st k names [] [] h = refl
entries_known ts st k names [] (o ∷ known) h = absurd h
entries_known ts st k names (d ∷ rest) [] h = absurd h
entries_known ts st k names (d ∷ rest) (o ∷ known) h =
    by_name (own_in st (normal d.name.text) || is_among (normal d.name.text) names) (λ more. entries_known ts st k more rest known h.1)
  where
    one : (o : Option ℕ) → meaning_in (key_of d) k ≡ if_type ts o → entry_of ts (type_decl (normal d.name.text) o) ≡ known_entry k d
    one None e = ap (entry_by (normal d.name.text)) (sym e)
    one (Some id) e = ap (entry_by (normal d.name.text)) (sym e)

    by_name : (b : Bool)
        → ((more : List (List ℕ)) → map (entry_of ts) (decls_by (own_in st) more known rest) ≡ types_by st more (known_entry k) rest)
        → map (entry_of ts) (if b then decls_by (own_in st) names known rest
        else type_decl (normal d.name.text) o ∷ decls_by (own_in st) (normal d.name.text ∷ names) known rest)
        ≡ (if b then types_by st names (known_entry k) rest else known_entry k d ∷ types_by st (normal d.name.text ∷ names) (known_entry k) rest)
    by_name true go = go names
    by_name false go = ap₂ (λ e es. e ∷ es) (one o h.0) (go (normal d.name.text ∷ names))

env_by_parts : (a b : Env) → a.entries ≡ b.entries → a.facts ≡ b.facts → a.home ≡ b.home → a ≡ b
env_by_parts a b e f h = λ i. record { entries = e i; facts = f i; home = h i }

-- what is declared, where these are known
pub env_is : (ts : List Ty) (st : State) (all : List Declaration) (old : List Decl) (names : Names) (n : ℕ) (known : List (Option ℕ)) (k : List KnownType)
    (s : Section) (ds : List TypeDef) (scope : Scope) → Fixed ts st all old names n → Scoped ts st all old known k s.members ds scope
    → env_of ts (facts_in ds) scope ≡ env_with st all s k
env_is ts st all old names n known k s ds scope f h =
    let types = decls_by (own_in st) [] known all in
    env_by_parts (env_of ts (facts_in ds) scope) (env_with st all s k)
    (ap (map (entry_of ts)) h.decls ∙ map-append (entry_of ts) old (types ++ h.seen)
    ∙ ap₂ (λ a b. a ++ b) (sym f.entries) (map-append (entry_of ts) types h.seen
    ∙ ap₂ (λ a b. a ++ b) (entries_known ts st k [] all known h.knows.each) (sym h.shown)))
    h.facts h.home

-- ---- entries in types

below_start : (ts : List Ty) (keys : List Key) (names : Names) (i : ℕ) (ds more : List Decl) → i + length ds ≤ names.start
    → seen_entries ts keys names i (ds ++ more) ≡ map (entry_of ts) ds ++ seen_entries ts keys names (i + length ds) more
below_start ts keys names i [] more h = let e : i ≡ i + 0 = omega arith in ap (λ k. seen_entries ts keys names k more) e
below_start ts keys names i (d ∷ ds) more h =
    let lt : i < names.start = omega (arith, h) in
    let e : suc i + length ds ≡ i + suc (length ds) = omega arith in
    ap₂ (λ x xs. x ∷ xs) (ap (λ (b : Bool). seen_entry ts keys (if b then None else slice_get names.numbers.items (i - names.start)) d)
    (lt-ltb i names.start lt))
    (below_start ts keys names (suc i) ds more (omega (arith, h)) ∙ ap (λ k. map (entry_of ts) ds ++ seen_entries ts keys names k more) e)

pub number_behind : (names : Names) (j i : ℕ) → i ≡ names.start + j → number_in names (Some i) ≡ slice_get names.numbers.items j
number_behind names j i e =
    let le : names.start ≤ i = omega (arith, e) in
    let m : i - names.start ≡ j = omega (arith, e) in
    ap (λ (b : Bool). if b then None else slice_get names.numbers.items (i - names.start)) (le-ltb i names.start le)
    ∙ ap (slice_get names.numbers.items) m

beyond : (xs : List ℕ) (j : ℕ) → length xs ≤ j → slice_get xs j ≡ None
beyond [] j h = refl
beyond (x ∷ xs) zero h = absurd (omega (arith, h))
beyond (x ∷ xs) (suc j) h = beyond xs j (omega (arith, h))

behind_types : (ts : List Ty) (keys : List Key) (names : Names) (j i : ℕ) (ds : List Decl) → i ≡ names.start + j → length names.numbers.items ≤ j
    → seen_entries ts keys names i ds ≡ map (entry_of ts) ds
behind_types ts keys names j i [] e h = refl
behind_types ts keys names j i (d ∷ ds) e h =
    ap₂ (λ x xs. x ∷ xs) (ap (λ o. seen_entry ts keys o d) (number_behind names j i e ∙ beyond names.numbers.items j h))
    (behind_types ts keys names (suc j) (suc i) ds (omega (arith, e)) (omega (arith, h)))

abbrev first_of : {X : Type 0} → List X → Option X
first_of [] = None
first_of (x ∷ xs) = Some x

abbrev behind_first : {X : Type 0} → List X → List X
behind_first [] = []
behind_first (x ∷ xs) = xs

abbrev first_key : Key → List Declaration → Key
first_key key [] = key
first_key key (d ∷ rest) = key_of d

get_drop : (xs : List ℕ) (j x : ℕ) (rest : List ℕ) → drop j xs ≡ x ∷ rest → slice_get xs j ≡ Some x
get_drop [] zero x rest e = cc
get_drop [] (suc j) x rest e = cc
get_drop (y ∷ xs) zero x rest e = ap first_of e
get_drop (y ∷ xs) (suc j) x rest e = get_drop xs j x rest e

drop_more : (xs : List ℕ) (j x : ℕ) (rest : List ℕ) → drop j xs ≡ x ∷ rest → drop (suc j) xs ≡ rest
drop_more [] zero x rest e = cc
drop_more [] (suc j) x rest e = cc
drop_more (y ∷ xs) zero x rest e = ap behind_first e
drop_more (y ∷ xs) (suc j) x rest e = drop_more xs j x rest e

drop_end : (xs : List ℕ) (j : ℕ) → drop j xs ≡ [] → length xs ≤ j
drop_end [] j e = omega arith
drop_end (x ∷ xs) zero e = cc
drop_end (x ∷ xs) (suc j) e = let r = drop_end xs j e in omega (arith, r)

pub drop_key : (all : List Declaration) (i : ℕ) (d : Declaration) (rest : List Declaration) → drop i all ≡ d ∷ rest
    → (key_at (keys_of all) i ≡ key_of d) × (drop (suc i) all ≡ rest)
drop_key [] zero d rest e = cc
drop_key [] (suc i) d rest e = cc
drop_key (x ∷ all) zero d rest e = (ap (first_key (key_of x)) e, ap behind_first e)
drop_key (x ∷ all) (suc i) d rest e = drop_key all i d rest e

-- the types as names, and what is behind them
types_seen : (ts : List Ty) (st : State) (all : List Declaration) (names : Names) (before : List (List ℕ)) (i j : ℕ) (rest : List Declaration)
    (known : List (Option ℕ)) (more : List Decl) → length known ≡ length rest → drop i all ≡ rest
    → drop j names.numbers.items ≡ numbers_by (own_in st) before i rest
    → seen_entries ts (keys_of all) names (names.start + j) (decls_by (own_in st) before known rest ++ more)
    ≡ types_by st before name_entry rest ++ map (entry_of ts) more
types_seen ts st all names before i j [] [] more n e h =
    behind_types ts (keys_of all) names j (names.start + j) more refl (drop_end names.numbers.items j h)
types_seen ts st all names before i j [] (o ∷ known) more n e h = absurd (omega (arith, n))
types_seen ts st all names before i j (d ∷ rest) [] more n e h = absurd (omega (arith, n))
types_seen ts st all names before i j (d ∷ rest) (o ∷ known) more n e h =
    by_name (own_in st (normal d.name.text) || is_among (normal d.name.text) before) h
    (λ names_before j g. types_seen ts st all names names_before (suc i) j rest known more (omega (arith, n)) (drop_key all i d rest e).1 g)
  where
    by_name : (b : Bool)
        → drop j names.numbers.items ≡ (if b then numbers_by (own_in st) before (suc i) rest
        else i ∷ numbers_by (own_in st) (normal d.name.text ∷ before) (suc i) rest)
        → ((names_before : List (List ℕ)) (j : ℕ) → drop j names.numbers.items ≡ numbers_by (own_in st) names_before (suc i) rest
        → seen_entries ts (keys_of all) names (names.start + j) (decls_by (own_in st) names_before known rest ++ more)
        ≡ types_by st names_before name_entry rest ++ map (entry_of ts) more)
        → seen_entries ts (keys_of all) names (names.start + j) ((if b then decls_by (own_in st) before known rest
        else type_decl (normal d.name.text) o ∷ decls_by (own_in st) (normal d.name.text ∷ before) known rest) ++ more)
        ≡ (if b then types_by st before name_entry rest else name_entry d ∷ types_by st (normal d.name.text ∷ before) name_entry rest)
        ++ map (entry_of ts) more
    by_name true g go = go before j g
    by_name false g go =
        let behind = numbers_by (own_in st) (normal d.name.text ∷ before) (suc i) rest in
        let number = number_behind names j (names.start + j) refl ∙ get_drop names.numbers.items j i behind g in
        let next : suc (names.start + j) ≡ names.start + suc j = omega arith in
        let here : Decl = type_decl (normal d.name.text) o in
        ap₂ (λ y ys. y ∷ ys)
        (ap (λ p. seen_entry ts (keys_of all) p here) number ∙ ap (λ key. named (normal d.name.text) (type.distinct key)) (drop_key all i d rest e).0)
        (ap (λ m. seen_entries ts (keys_of all) names m (decls_by (own_in st) (normal d.name.text ∷ before) known rest ++ more)) next
        ∙ go (normal d.name.text ∷ before) (suc j) (drop_more names.numbers.items j i behind g))

pub keys_count : (all : List Declaration) → length (keys_of all) ≡ length all
keys_count [] = refl
keys_count (d ∷ rest) = ap suc (keys_count rest)

-- what is declared in types
pub names_env_is : (ts : List Ty) (st : State) (all : List Declaration) (old : List Decl) (names : Names) (n : ℕ) (known : List (Option ℕ))
    (k : List KnownType) (s : Section) (ds : List TypeDef) (scope : Scope) → Fixed ts st all old names n
    → Scoped ts st all old known k s.members ds scope → length known ≡ length all
    → names_env_of ts (st.env.facts ++ []) (keys_of all) names scope ≡ names_env st all s
names_env_is ts st all old names n known k s ds scope f h c =
    let types = decls_by (own_in st) [] known all in
    let le : 0 + length old ≤ names.start = let e = f.start in omega (arith, e) in
    let at : 0 + length old ≡ names.start + 0 = let e = f.start in omega (arith, e) in
    env_by_parts (names_env_of ts (st.env.facts ++ []) (keys_of all) names scope) (names_env st all s)
    (ap (seen_entries ts (keys_of all) names 0) h.decls ∙ below_start ts (keys_of all) names 0 old (types ++ h.seen) le
    ∙ ap₂ (λ a b. a ++ b) (sym f.entries)
    (ap (λ i. seen_entries ts (keys_of all) names i (types ++ h.seen)) at
    ∙ types_seen ts st all names [] 0 0 all known h.seen c refl f.numbers
    ∙ ap (λ ms. types_by st [] name_entry all ++ ms) (sym h.shown)))
    refl h.home
