-- The names of enums that the entries of a table have, up to one of them and from it on.
use Rattle.std.proofs.Common.{◌≡◌, ℕ, zero, suc, ◌+◌, List, [], ◌∷◌, ◌++◌, length, take, drop, Some, slice_get, refl, sym, ap}
use Rattle.std.proofs.Common.{◌∙◌, arith}
use Rattle.std.proofs.Common.{append-nil, append_assoc, length-append, add-zero}
use Rattle.std.proofs.lemmas.Option.{none-some, same_Some}
use Rattle.nim_types.specs.declared.types.TypeDef.{TypeDef}
use Rattle.rv32_isa.specs.Words.{word_bytes}
use Rattle.word_lowering.specs.Texts.{members_of, all_names, joined_all, starts_from}

pub names_more : (table : List TypeDef) (id : ℕ) (def : TypeDef) → slice_get table id ≡ Some def
    → all_names (take (suc id) table) ≡ all_names (take id table) ++ members_of def
names_more [] id def e = absurd (none-some def e)
names_more (d ∷ ds) zero def e = append-nil (members_of d) ∙ ap members_of (same_Some d def e)
names_more (d ∷ ds) (suc id) def e =
    ap (λ x. members_of d ++ x) (names_more ds id def e) ∙ sym (append_assoc (members_of d) (all_names (take id ds)) (members_of def))

pub names_from : (table : List TypeDef) (id : ℕ) (def : TypeDef) → slice_get table id ≡ Some def
    → all_names (drop id table) ≡ members_of def ++ all_names (drop (suc id) table)
names_from [] id def e = absurd (none-some def e)
names_from (d ∷ ds) zero def e = ap (λ x. members_of x ++ all_names ds) (same_Some d def e)
names_from (d ∷ ds) (suc id) def e = names_from ds id def e

pub joined_append : (xs ys : List (List ℕ)) → joined_all (xs ++ ys) ≡ joined_all xs ++ joined_all ys
joined_append [] ys = refl
joined_append (x ∷ xs) ys = ap (λ z. x ++ z) (joined_append xs ys) ∙ sym (append_assoc x (joined_all xs) (joined_all ys))

pub starts_append : (n m : ℕ) (xs ys : List (List ℕ)) (k : List ℕ) → m ≡ n + length (joined_all xs)
    → starts_from n (xs ++ ys) k ≡ starts_from n xs (starts_from m ys k)
starts_append n m [] ys k e = ap (λ i. starts_from i ys k) (sym (e ∙ add-zero n))
starts_append n m (x ∷ xs) ys k e =
    let l = length-append x (joined_all xs) in
    ap (λ z. word_bytes n ++ z) (starts_append (n + length x) m xs ys k (omega (arith, e, l)))
