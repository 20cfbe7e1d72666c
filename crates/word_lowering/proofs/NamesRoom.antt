-- The names of enums, as many as there are and as long, where they are counted one after another.
use Rattle.std.proofs.Common.{◌≡◌, ℕ, zero, suc, ◌+◌, ◌≤◌, ◌<◌, List, [], ◌∷◌, length, take, drop, get_or, slice_get, Some}
use Rattle.std.proofs.Common.{sym, ap, ◌∙◌, arith, length-append}
use Rattle.std.proofs.lemmas.List.{drop_more}
use Rattle.nim_types.specs.declared.types.TypeDef.{TypeDef}
use Rattle.word_lowering.specs.Texts.{members_of, all_names, joined_all}
use Rattle.word_lowering.proofs.EntryNames.{names_more, names_from, joined_append}

-- a name and those behind it
pub name_within : (names : List (List ℕ)) (i : ℕ) (name : List ℕ) → i < length names → name ≡ get_or names i name
    → length (joined_all (drop i names)) ≡ length name + length (joined_all (drop (i + 1) names))
name_within names i name within is =
    let left = ap (λ (ns : List (List ℕ)). length (joined_all ns)) (drop_more names i name within
    ∙ ap (λ (n : List ℕ). n ∷ drop (i + 1) names) (sym is)) in
    left ∙ length-append name (joined_all (drop (i + 1) names))

-- up to an entry there are no more than all
pub names_first : (table : List TypeDef) (n : ℕ) → length (all_names (take n table)) ≤ length (all_names table)
names_first [] zero = omega arith
names_first [] (suc n) = omega arith
names_first (d ∷ ds) zero = omega arith
names_first (d ∷ ds) (suc n) =
    let rest = names_first ds n in
    let some = length-append (members_of d) (all_names (take n ds)) in
    let all = length-append (members_of d) (all_names ds) in
    omega (arith, rest, some, all)

-- those of an entry are among all
pub members_within : (table : List TypeDef) (id : ℕ) (def : TypeDef) → slice_get table id ≡ Some def
    → length (all_names (take id table)) + length (members_of def) ≤ length (all_names table)
members_within table id def e =
    let more = ap length (names_more table id def e) in
    let both = length-append (all_names (take id table)) (members_of def) in
    let most = names_first table (suc id) in
    omega (arith, more, both, most)

-- the bytes of those of an entry, and of those behind it
pub members_bytes : (table : List TypeDef) (id : ℕ) (def : TypeDef) → slice_get table id ≡ Some def
    → length (joined_all (all_names (drop id table))) ≡ length (joined_all (members_of def)) + length (joined_all (all_names (drop (suc id) table)))
members_bytes table id def e =
    let rest = all_names (drop (suc id) table) in
    ap (λ (ns : List (List ℕ)). length (joined_all ns)) (names_from table id def e)
    ∙ ap length (joined_append (members_of def) rest)
    ∙ length-append (joined_all (members_of def)) (joined_all rest)
