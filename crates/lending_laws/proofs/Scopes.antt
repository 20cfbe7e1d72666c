-- The variables in scope: those that may be written aren't kept, and have numbers below the next one.
use Rattle.std.proofs.Common.{◌≡◌, ◌<◌, ◌≤◌, ℕ, suc, ◌+◌, nat_eq, length, Bool, true, false, List, [], ◌∷◌, ◌++◌, refl, ap, subst, ◌∙◌, arith, eqb-true}
use Rattle.std.specs.Prelude.{not, ◌&&◌, ◌||◌, if◌then◌else◌, Option, Some, None, Ok}
use Rattle.arc_base.specs.Refusal.{and_then}
use Rattle.indent_scanner.specs.Words.{normal}
use Rattle.nim_tree.specs.declared.name.Name.{Name}
use Rattle.nim_tree.specs.declared.name.Declared.{Declared as TreeName}
use Rattle.nim_tree.specs.Types.{Body, Declaration}
use Rattle.nim_types.specs.Types as type
use Rattle.nim_types.specs.Types.{Ty, Key, same_text}
use Rattle.nim_program.specs.declared.program.Mode.{Mode}
use Rattle.nim_program.specs.declared.program.Mode.TheVariants as M
use Rattle.nim_program.specs.Program.{Declared, Literal}
use Rattle.expr_rules.specs.Env.{Env, Entry, variable, constant, named, pending, procedure, input, name_in, Known, a_variable, known_next, known_behind}
use Rattle.expr_rules.specs.Constructions.{is_among}
use Rattle.decl_rules.specs.State.{State, own_entries, is_declared}
use Rattle.decl_rules.specs.Definitions.{constant_entries}
use Rattle.decl_rules.specs.Heads.{Given, parameter_entries, is_written}
use Rattle.decl_rules.specs.Bodies.{params_from}
use Rattle.decl_rules.specs.Meanings.{KnownType, key_of, meaning_in}
use Rattle.decl_rules.specs.Sections.{Section, Bodied, none_read, member_of, members_rule, new_in_section, known_entry, entry_by, types_by, seen_members}
use Rattle.decl_rules.specs.Sections.{type_names}
use Rattle.decl_rules.specs.TypeRules as T
use Rattle.decl_rules.specs.TypeRules.{AreTypeDefinitions, IsBody}
use Rattle.lending_laws.specs.Writing.{also, is_lent, lent_params}
use Rattle.lending_laws.proofs.Sure.{then_is, ok_one}

either_false : (a b : Bool) → a ≡ false → b ≡ false → (a || b) ≡ false
either_false true b e f = cc
either_false false b e f = f

pub behind_false : (a b : Bool) → b ≡ false → (a && b) ≡ false
behind_false true b e = e
behind_false false b e = refl

other_number : (n m : ℕ) → (n ≡ m → ⊥) → nat_eq n m ≡ false
other_number n m h = by_test (nat_eq n m) refl
  where
    by_test : (b : Bool) → nat_eq n m ≡ b → b ≡ false
    by_test false e = refl
    by_test true e = absurd (h (eqb-true n m e))

-- ---- what is kept

-- none of a number from here on
abbrev pub Bounded : (kept : ℕ → Bool) → ℕ → Type 0
Bounded kept bound = (n : ℕ) → kept n ≡ true → n < bound

pub next_unkept : (kept : ℕ → Bool) (bound n : ℕ) → Bounded kept bound → bound ≤ n → kept n ≡ false
next_unkept kept bound n h le = by_test (kept n) refl
  where
    by_test : (b : Bool) → kept n ≡ b → b ≡ false
    by_test false e = refl
    by_test true e = let lt = h n e in absurd (omega (arith, lt, le))

pub bounded_on : (kept : ℕ → Bool) (bound more : ℕ) → Bounded kept bound → bound ≤ more → Bounded kept more
bounded_on kept bound more h le = λ n e. let lt = h n e in omega (arith, lt, le)

pub bounded_also : (place : Declared) (kept : ℕ → Bool) → Bounded kept place.number → Bounded (also place kept) (suc place.number)
bounded_also place kept h = λ n e. by_test n (nat_eq place.number n) refl e
  where
    by_test : (n : ℕ) (b : Bool) → nat_eq place.number n ≡ b → (b || kept n) ≡ true → n < suc place.number
    by_test n true same e = let is = eqb-true place.number n same in omega (arith, is)
    by_test n false other e = let lt = h n e in omega (arith, lt)

-- ---- entries

abbrev pub EntrySpared : (kept : ℕ → Bool) → Entry → Type 0
EntrySpared kept (variable name place of writable global) = writable ≡ true → (not global && kept place) ≡ false
EntrySpared kept _ = Unit {0}

abbrev pub EntriesSpared : (kept : ℕ → Bool) → List Entry → Type 0
EntriesSpared kept [] = Unit {0}
EntriesSpared kept (e ∷ rest) = EntrySpared kept e × EntriesSpared kept rest

abbrev pub EntryBelow : ℕ → Entry → Type 0
EntryBelow bound (variable name place of writable global) = place < bound
EntryBelow bound _ = Unit {0}

abbrev pub EntriesBelow : ℕ → List Entry → Type 0
EntriesBelow bound [] = Unit {0}
EntriesBelow bound (e ∷ rest) = EntryBelow bound e × EntriesBelow bound rest

-- no variables
abbrev pub IsPlain : Entry → Type 0
IsPlain (variable name place of writable global) = ⊥
IsPlain _ = Unit {0}

abbrev pub ArePlain : List Entry → Type 0
ArePlain [] = Unit {0}
ArePlain (e ∷ rest) = IsPlain e × ArePlain rest

pub spared_both : (kept : ℕ → Bool) (xs ys : List Entry) → EntriesSpared kept xs → EntriesSpared kept ys → EntriesSpared kept (xs ++ ys)
spared_both kept [] ys h k = k
spared_both kept (x ∷ xs) ys h k = (h.0, spared_both kept xs ys h.1 k)

pub below_both : (bound : ℕ) (xs ys : List Entry) → EntriesBelow bound xs → EntriesBelow bound ys → EntriesBelow bound (xs ++ ys)
below_both bound [] ys h k = k
below_both bound (x ∷ xs) ys h k = (h.0, below_both bound xs ys h.1 k)

pub plain_both : (xs ys : List Entry) → ArePlain xs → ArePlain ys → ArePlain (xs ++ ys)
plain_both [] ys h k = k
plain_both (x ∷ xs) ys h k = (h.0, plain_both xs ys h.1 k)

pub plain_spared : (kept : ℕ → Bool) (xs : List Entry) → ArePlain xs → EntriesSpared kept xs
plain_spared kept [] h = tt
plain_spared kept (variable name place of writable global ∷ xs) h = absurd h.0
plain_spared kept (constant name of value ∷ xs) h = (tt, plain_spared kept xs h.1)
plain_spared kept (named name of ∷ xs) h = (tt, plain_spared kept xs h.1)
plain_spared kept (pending name ∷ xs) h = (tt, plain_spared kept xs h.1)
plain_spared kept (procedure name callee ∷ xs) h = (tt, plain_spared kept xs h.1)
plain_spared kept (input name ∷ xs) h = (tt, plain_spared kept xs h.1)

pub plain_below : (bound : ℕ) (xs : List Entry) → ArePlain xs → EntriesBelow bound xs
plain_below bound [] h = tt
plain_below bound (variable name place of writable global ∷ xs) h = absurd h.0
plain_below bound (constant name of value ∷ xs) h = (tt, plain_below bound xs h.1)
plain_below bound (named name of ∷ xs) h = (tt, plain_below bound xs h.1)
plain_below bound (pending name ∷ xs) h = (tt, plain_below bound xs h.1)
plain_below bound (procedure name callee ∷ xs) h = (tt, plain_below bound xs h.1)
plain_below bound (input name ∷ xs) h = (tt, plain_below bound xs h.1)

pub below_on : (bound more : ℕ) (xs : List Entry) → bound ≤ more → EntriesBelow bound xs → EntriesBelow more xs
below_on bound more [] le h = tt
below_on bound more (variable name place of writable global ∷ xs) le h = let lt = h.0 in (omega (arith, lt, le), below_on bound more xs le h.1)
below_on bound more (constant name of value ∷ xs) le h = (tt, below_on bound more xs le h.1)
below_on bound more (named name of ∷ xs) le h = (tt, below_on bound more xs le h.1)
below_on bound more (pending name ∷ xs) le h = (tt, below_on bound more xs le h.1)
below_on bound more (procedure name callee ∷ xs) le h = (tt, below_on bound more xs le h.1)
below_on bound more (input name ∷ xs) le h = (tt, below_on bound more xs le h.1)

-- where all places of a number below are as they were, or kept no more
pub spared_as : (kept other : ℕ → Bool) (bound : ℕ) (xs : List Entry) → ((n : ℕ) → n < bound → kept n ≡ false → other n ≡ false)
    → EntriesBelow bound xs → EntriesSpared kept xs → EntriesSpared other xs
spared_as kept other bound [] go b h = tt
spared_as kept other bound (variable name place of writable true ∷ xs) go b h = (λ w. refl, spared_as kept other bound xs go b.1 h.1)
spared_as kept other bound (variable name place of writable false ∷ xs) go b h = (λ w. go place b.0 (h.0 w), spared_as kept other bound xs go b.1 h.1)
spared_as kept other bound (constant name of value ∷ xs) go b h = (tt, spared_as kept other bound xs go b.1 h.1)
spared_as kept other bound (named name of ∷ xs) go b h = (tt, spared_as kept other bound xs go b.1 h.1)
spared_as kept other bound (pending name ∷ xs) go b h = (tt, spared_as kept other bound xs go b.1 h.1)
spared_as kept other bound (procedure name callee ∷ xs) go b h = (tt, spared_as kept other bound xs go b.1 h.1)
spared_as kept other bound (input name ∷ xs) go b h = (tt, spared_as kept other bound xs go b.1 h.1)

-- where all places of the other have later numbers
pub spared_by_all : (other : ℕ → Bool) (bound : ℕ) (xs : List Entry) → ((n : ℕ) → n < bound → other n ≡ false) → EntriesBelow bound xs
    → EntriesSpared other xs
spared_by_all other bound xs go b = spared_as (λ n. false) other bound xs (λ n lt e. go n lt) b (none xs)
  where
    none : (xs : List Entry) → EntriesSpared (λ n. false) xs
    none [] = tt
    none (variable name place of writable true ∷ xs) = (λ w. refl, none xs)
    none (variable name place of writable false ∷ xs) = (λ w. refl, none xs)
    none (constant name of value ∷ xs) = (tt, none xs)
    none (named name of ∷ xs) = (tt, none xs)
    none (pending name ∷ xs) = (tt, none xs)
    none (procedure name callee ∷ xs) = (tt, none xs)
    none (input name ∷ xs) = (tt, none xs)

pub spared_also : (place : Declared) (kept : ℕ → Bool) (xs : List Entry) → EntriesBelow place.number xs → EntriesSpared kept xs
    → EntriesSpared (also place kept) xs
spared_also place kept xs b h =
    spared_as kept (also place kept) place.number xs
    (λ n lt e. either_false (nat_eq place.number n) (kept n) (other_number place.number n (λ is. omega (arith, lt, is))) e) b h

-- ---- names

abbrev pub KnownSpared : (kept : ℕ → Bool) → Known → Type 0
KnownSpared kept (a_variable place of writable global) = writable ≡ true → (not global && kept place) ≡ false
KnownSpared kept _ = Unit {0}

next_spared : (kept : ℕ → Bool) (before : Known) (e : Entry) → EntrySpared kept e → KnownSpared kept (known_next before e)
next_spared kept before (variable name place of writable global) h = h
next_spared kept before (constant name of value) h = tt
next_spared kept before (named name of) h = tt
next_spared kept before (pending name) h = tt
next_spared kept before (procedure name callee) h = tt
next_spared kept before (input name) h = tt

pub known_spared : (kept : ℕ → Bool) (before : Known) (x : List ℕ) (xs : List Entry) → KnownSpared kept before → EntriesSpared kept xs
    → KnownSpared kept (known_behind before x xs)
known_spared kept before x [] h k = h
known_spared kept before x (e ∷ xs) h k =
    known_spared kept (if same_text x (name_in e) then known_next before e else before) x xs (by_name (same_text x (name_in e))) k.1
  where
    by_name : (b : Bool) → KnownSpared kept (if b then known_next before e else before)
    by_name true = next_spared kept before e k.0
    by_name false = h

-- ---- constants and types

pub constants_plain : (ty : Ty) (l : Literal) (ds : List TreeName) → ArePlain (constant_entries ty l ds)
constants_plain ty l [] = tt
constants_plain ty l (d ∷ ds) = (tt, constants_plain ty l ds)

types_plain : (st : State) (names : List (List ℕ)) (known : List KnownType) (ds : List Declaration) → ArePlain (types_by st names (known_entry known) ds)
types_plain st names known [] = tt
types_plain st names known (d ∷ ds) =
    by_test (is_declared (normal d.name.text) (own_entries st) || is_among (normal d.name.text) names) (types_plain st names known ds)
    (types_plain st (normal d.name.text ∷ names) known ds)
  where
    plain_one : (x : List ℕ) (t : Option Ty) → IsPlain (entry_by x t)
    plain_one x (Some t) = tt
    plain_one x None = tt

    by_test : (b : Bool) → ArePlain (types_by st names (known_entry known) ds)
        → ArePlain (types_by st (normal d.name.text ∷ names) (known_entry known) ds) → ArePlain (
        if b then types_by st names (known_entry known) ds
        else known_entry known d ∷ types_by st (normal d.name.text ∷ names) (known_entry known) ds)
    by_test true h k = h
    by_test false h k = (plain_one (normal d.name.text) (meaning_in (key_of d) known), k)

members_plain : (st : State) (names : List (List ℕ)) (ty : Ty) (i : ℕ) (all : List Name) (members : List Entry)
    → members_rule st names ty i all ≡ Ok members → ArePlain members
members_plain st names ty i [] members e = subst ArePlain (ok_one e) tt
members_plain st names ty i (m ∷ all) members e =
    let first = then_is (new_in_section st names m.at (normal m.text))
    (λ _. and_then (members_rule st (normal m.text ∷ names) ty (suc i) all) (λ more. Ok (member_of ty i m ∷ more))) members e in
    let rest = then_is (members_rule st (normal m.text ∷ names) ty (suc i) all) (λ more. Ok (member_of ty i m ∷ more)) members first.next in
    subst ArePlain (ok_one rest.next) (tt, members_plain st (normal m.text ∷ names) ty (suc i) all rest.value rest.is)

seen_plain : (types : List (List ℕ)) (xs : List Entry) → ArePlain xs → ArePlain (seen_members types xs)
seen_plain types [] h = tt
seen_plain types (e ∷ xs) h = by_test (is_among (name_in e) types) (seen_plain types xs h.1)
  where
    by_test : (b : Bool) → ArePlain (seen_members types xs) → ArePlain (if b then seen_members types xs else e ∷ seen_members types xs)
    by_test true k = k
    by_test false k = (h.0, k)

body_plain : {st : State} {before : List (List ℕ)} {env known : Env} {key : Key} {x : Body} {b : Bodied} → IsBody st before env known key x b
    → ArePlain b.members
body_plain (T.b_object g) = tt
body_plain {st} {before} {key = key} (T.b_enum {all = all} {members = members} e) = members_plain st before (type.enum key) 0 all members e
body_plain (T.b_distinct g) = tt
body_plain (T.b_alias g) = tt

definitions_plain : {st : State} {all rest : List Declaration} {s t : Section} → AreTypeDefinitions st all s rest t → ArePlain s.members → ArePlain t.members
definitions_plain T.d_no_types h = h
definitions_plain {st} {all} {s = s} (T.d_types (T.d_type {d = d} {b = b} e f g) k) h =
    definitions_plain k
    (plain_both s.members (seen_members (type_names all) b.members) h (seen_plain (type_names all) b.members (body_plain g)))

pub section_plain : {st : State} {all : List Declaration} {s : Section} (known : List KnownType) → AreTypeDefinitions st all none_read all s
    → ArePlain (types_by st [] (known_entry known) all ++ s.members)
section_plain {st} {all} {s} known h = plain_both (types_by st [] (known_entry known) all) s.members (types_plain st [] known all) (definitions_plain h tt)

-- ---- parameters

-- those of these have numbers from the first one on, so many
pub params_bounded : (first : ℕ) (given : List Given) (n : ℕ) → lent_params (params_from first given) n ≡ true → (first ≤ n) × (n < first + length given)
params_bounded first [] n e = cc
params_bounded first (g ∷ rest) n e = by_mode (is_lent g.mode) (nat_eq first n) refl e (λ k. params_bounded (suc first) rest n k)
  where
    by_mode : (a b : Bool) → nat_eq first n ≡ b → ((a && b) || lent_params (params_from (suc first) rest) n) ≡ true
        → (lent_params (params_from (suc first) rest) n ≡ true → (suc first ≤ n) × (n < suc first + length rest))
        → (first ≤ n) × (n < first + suc (length rest))
    by_mode true true same e later = let is = eqb-true first n same in (omega (arith, is), omega (arith, is))
    by_mode true false same e later = let a = (later e).0 in let b = (later e).1 in (omega (arith, a), omega (arith, b))
    by_mode false b same e later = let a = (later e).0 in let b = (later e).1 in (omega (arith, a), omega (arith, b))

-- behind others, by what is kept from the first one on
params_spared : (kept : ℕ → Bool) (first : ℕ) (given : List Given) → ((n : ℕ) → first ≤ n → kept n ≡ lent_params (params_from first given) n)
    → EntriesSpared kept (parameter_entries first given)
params_spared kept first [] same = tt
params_spared kept first (g ∷ rest) same =
    (λ w. same first (omega arith) ∙ by_mode g.mode w, params_spared kept (suc first) rest (λ n le. same n (omega (arith, le)) ∙ further n le))
  where
    later : (n : ℕ) → n < suc first → lent_params (params_from (suc first) rest) n ≡ false
    later n lt = by_test (lent_params (params_from (suc first) rest) n) refl
      where
        by_test : (b : Bool) → lent_params (params_from (suc first) rest) n ≡ b → b ≡ false
        by_test false e = refl
        by_test true e = let h = (params_bounded (suc first) rest n e).0 in absurd (omega (arith, h, lt))

    by_mode : (m : Mode) → is_written m ≡ true → ((is_lent m && nat_eq first first) || lent_params (params_from (suc first) rest) first) ≡ false
    by_mode M.Plain w = cc
    by_mode M.Sink w = later first (omega arith)
    by_mode M.Var w = later first (omega arith)

    further : (n : ℕ) → suc first ≤ n
        → ((is_lent g.mode && nat_eq first n) || lent_params (params_from (suc first) rest) n) ≡ lent_params (params_from (suc first) rest) n
    further n le =
        ap (λ (b : Bool). b || lent_params (params_from (suc first) rest) n)
        (behind_false (is_lent g.mode) (nat_eq first n) (other_number first n (λ is. omega (arith, is, le))))

pub own_params_spared : (first : ℕ) (given : List Given) → EntriesSpared (lent_params (params_from first given)) (parameter_entries first given)
own_params_spared first given = params_spared (lent_params (params_from first given)) first given (λ n le. refl)

pub params_below : (first : ℕ) (given : List Given) (bound : ℕ) → first + length given ≤ bound → EntriesBelow bound (parameter_entries first given)
params_below first [] bound le = tt
params_below first (g ∷ rest) bound le = (omega (arith, le), params_below (suc first) rest bound (omega (arith, le)))
