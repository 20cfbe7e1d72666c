-- Code of pairs, one after another: for as long as both lists have items.
use Rattle.std.proofs.Common.{◌≡◌, List, [], ◌∷◌, ◌++◌, sym, ap, ap₂, ◌∙◌}
use Rattle.word_lowering.specs.Emission.{Puts}

module _ {A B W : Type 0} (F : List A → List B → List W → List W) where
  -- the next pair
  pub pairs_next : (xs more : List A) (x : A) (ys rest : List B) (y : B) (G : List W → List W) (old new : List W) (all : List W → List W)
      → xs ≡ x ∷ more → ys ≡ y ∷ rest → ((k : List W) → F (x ∷ more) (y ∷ rest) k ≡ G (F more rest k)) → Puts old new G
      → ((k : List W) → old ++ F xs ys k ≡ all k) → (k : List W) → new ++ F more rest k ≡ all k
  pairs_next xs more x ys rest y G old new all e f step puts before = λ k.
      puts (F more rest k) ∙ ap (λ l. old ++ l) (sym (step k)) ∙ ap₂ (λ zs ws. old ++ F zs ws k) (sym e) (sym f) ∙ before k

  -- the first list has no more
  pub first_ends : (xs : List A) (ys : List B) (old : List W) (all : List W → List W) → xs ≡ [] → ((k : List W) → F [] ys k ≡ k)
      → ((k : List W) → old ++ F xs ys k ≡ all k) → (k : List W) → old ++ k ≡ all k
  first_ends xs ys old all e none before = λ k. ap (λ l. old ++ l) (sym (none k)) ∙ ap (λ zs. old ++ F zs ys k) (sym e) ∙ before k

  -- the second one
  pub second_ends : (xs more : List A) (x : A) (ys : List B) (old : List W) (all : List W → List W) → xs ≡ x ∷ more → ys ≡ []
      → ((k : List W) → F (x ∷ more) [] k ≡ k) → ((k : List W) → old ++ F xs ys k ≡ all k) → (k : List W) → old ++ k ≡ all k
  second_ends xs more x ys old all e f none before = λ k.
      ap (λ l. old ++ l) (sym (none k)) ∙ ap₂ (λ zs ws. old ++ F zs ws k) (sym e) (sym f) ∙ before k
