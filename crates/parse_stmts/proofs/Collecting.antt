-- Imports that are collected one after another.
use Rattle.std.proofs.Common.{◌≡◌, ℕ, suc, ◌+◌, ◌<◌, List, [], ◌∷◌, ◌++◌, drop, length, get_or, drop-cons, add-one, sym, ap, ◌∙◌, append_assoc}
use Rattle.std.specs.Prelude.{map}
use Rattle.nim_tree.specs.declared.name.Name.{Name}
use Rattle.nim_tree.specs.declared.stmt.Import.{Import}
use Rattle.nim_tree.specs.declared.stmt.Stmt.{Stmt}
use Rattle.nim_tree.specs.Statements.{import_of, imports_of, imports_in, statement_of, statements_of}

next_item : {A : Type 0} (xs : List A) (i : ℕ) (x : A) → x ≡ get_or xs i x → i < length xs → drop i xs ≡ x ∷ drop (i + 1) xs
next_item xs i x e h = rw add-one (drop-cons xs i x h ∙ ap (λ y. y ∷ drop (suc i) xs) (sym e))

pub one_name : (all more : List Import) (names : List Name) (i : ℕ) (name : Name) → name ≡ get_or names i name → i < length names
    → more ≡ all ++ import_of name ∷ []
    → more ++ map import_of (drop (i + 1) names) ≡ all ++ map import_of (drop i names)
one_name all more names i name e h is =
    ap (λ l. l ++ map import_of (drop (i + 1) names)) is ∙ append_assoc all (import_of name ∷ []) (map import_of (drop (i + 1) names))
    ∙ ap (λ l. all ++ map import_of l) (sym (next_item names i name e h))

pub one_statement : (all more : List Import) (body : List Stmt) (i : ℕ) (s : Stmt) → s ≡ get_or body i s → i < length body
    → more ≡ all ++ imports_of (statement_of s)
    → more ++ imports_in (statements_of (drop (i + 1) body)) ≡ all ++ imports_in (statements_of (drop i body))
one_statement all more body i s e h is =
    ap (λ l. l ++ imports_in (statements_of (drop (i + 1) body))) is ∙ append_assoc all (imports_of (statement_of s))
    (imports_in (statements_of (drop (i + 1) body)))
    ∙ ap (λ l. all ++ imports_in (statements_of l)) (sym (next_item body i s e h))
