-- Parts of a list have at most the nodes of the list.
use Rattle.std.proofs.Common.{◌≡◌, ℕ, zero, suc, ◌+◌, ◌≤◌, List, [], ◌∷◌, length, get_or, drop, sym, ap, ap₂, arith}
use Rattle.nim_tree.specs.declared.expr.Expr.{Expr as Tree}
use Rattle.nim_tree.specs.declared.expr.Choice.{Choice as TreeChoice}
use Rattle.nim_tree.specs.Terms.{term_of, parts_of, choices_of, nodes, nodes_in, nodes_of}

front_light : (i : ℕ) (xs : List Tree) → nodes_in (parts_of (drop i xs)) ≤ nodes_in (parts_of xs)
front_light zero xs = omega arith
front_light (suc i) [] = omega arith
front_light (suc i) (x ∷ xs) = let l = front_light i xs in omega (arith, l)

pub part_light : (xs : List Tree) (i : ℕ) (x : Tree) → drop i xs ≡ x ∷ drop (i + 1) xs → nodes (term_of x) ≤ nodes_in (parts_of xs)
part_light xs i x e =
    let w = ap (λ l. nodes_in (parts_of l)) e in
    let l = front_light i xs in
    omega (arith, w, l)

choices_light : (i : ℕ) (xs : List TreeChoice) → nodes_of (choices_of (drop i xs)) ≤ nodes_of (choices_of xs)
choices_light zero xs = omega arith
choices_light (suc i) [] = omega arith
choices_light (suc i) (x ∷ xs) = let l = choices_light i xs in omega (arith, l)

-- its own node, its tests and its value
pub choice_light : (xs : List TreeChoice) (i : ℕ) (x : TreeChoice) → drop i xs ≡ x ∷ drop (i + 1) xs
    → suc (nodes_in (parts_of x.tests.items) + nodes (term_of x.value)) ≤ nodes_of (choices_of xs)
choice_light xs i x e =
    let w = ap (λ l. nodes_of (choices_of l)) e in
    let l = choices_light i xs in
    omega (arith, w, l)

-- ---- lists of one item and of two

pub alone_item : {A : Type 0} (xs : List A) (x : A) → x ≡ get_or xs 0 x → length xs ≡ 1 → xs ≡ x ∷ []
alone_item [] x e h = absurd (omega (arith, h))
alone_item (y ∷ []) x e h = ap (λ z. z ∷ []) (sym e)
alone_item (y ∷ (z ∷ xs)) x e h = absurd (omega (arith, h))

pub two_items : {A : Type 0} (xs : List A) (x y : A) → x ≡ get_or xs 0 x → y ≡ get_or xs 1 y → length xs ≡ 2 → xs ≡ x ∷ (y ∷ [])
two_items [] x y e f h = absurd (omega (arith, h))
two_items (a ∷ []) x y e f h = absurd (omega (arith, h))
two_items (a ∷ (b ∷ [])) x y e f h = ap₂ (λ u v. u ∷ (v ∷ [])) (sym e) (sym f)
two_items (a ∷ (b ∷ (d ∷ xs))) x y e f h = absurd (omega (arith, h))
