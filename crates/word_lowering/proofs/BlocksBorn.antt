-- What becomes of blocks: one is born, or given back. What stood somewhere stands there then, unless it was given back.
use Rattle.std.proofs.Common.{◌≡◌, ℕ, suc, ◌<◌, Some, None, Bool, true, false, refl, sym, ◌∙◌, arith, ◌==◌, if◌then◌else◌}
use Rattle.std.proofs.lemmas.Bool.{cond-false, ne_eqb}
use Rattle.heap_memory.specs.HeapState.{Standing, with_block, without_block}
use Rattle.word_lowering.proofs.Blocks.{Inside, Blocks, AreLater}

-- one more, with the next identity
abbrev pub with_born : Blocks → Inside → Standing → Blocks
with_born d inside x = record {
  born = suc d.born;
  inside = λ j. if j == d.born then inside else d.inside j;
  stands = with_block d.stands d.born x;
}

-- one less
abbrev pub with_gone : Blocks → ℕ → Blocks
with_gone d k = record d { stands = without_block d.stands k }

other : (j k : ℕ) → j < k → (j == k) ≡ false
other j k less = ne_eqb j k (λ (e : j ≡ k). omega (arith, e, less))

pub later_born : (d : Blocks) (inside : Inside) (x : Standing) → AreLater d (with_born d inside x)
later_born d inside x = record {
  born = omega arith;
  inside = λ k less. cond-false (k == d.born) inside (d.inside k) (other k d.born less);
  places = λ k y less e. (y, sym (cond-false (k == d.born) (Some x) (d.stands k) (other k d.born less)) ∙ e, refl);
}

some_none : {A : Type 0} (x : Standing) → None ≡ Some x → A
some_none x e = absurd cc

pub later_gone : (d : Blocks) (k : ℕ) → AreLater d (with_gone d k)
later_gone d k = record {
  born = omega arith;
  inside = λ j less. refl;
  places = λ j y less e. (y, still j y e, refl);
}
  where
    still : (j : ℕ) (y : Standing) → without_block d.stands k j ≡ Some y → d.stands j ≡ Some y
    still j y e = by (j == k) e
      where
        by : (b : Bool) → (if b then None else d.stands j) ≡ Some y → d.stands j ≡ Some y
        by true h = some_none y h
        by false h = h

pub later_same : (d : Blocks) → AreLater d d
later_same d = record { born = omega arith; inside = λ k less. refl; places = λ k x less e. (x, e, refl) }

-- what is later than something later is later
pub later_more : (d e f : Blocks) → AreLater d e → AreLater e f → AreLater d f
later_more d e f a b = record {
  born = omega (arith, a.born, b.born);
  inside = λ k less. b.inside k (omega (arith, less, a.born)) ∙ a.inside k less;
  places = λ k x less is.
      let y = b.places k x (omega (arith, less, a.born)) is in
      let z = a.places k y.0 less y.1 in (z.0, z.1, z.2 ∙ y.2);
}
