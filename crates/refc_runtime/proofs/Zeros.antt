-- Memory in which words were cleared.
use Rattle.std.proofs.Common.{◌≡◌, ℕ, zero, suc, ◌+◌, ◌%◌, ◌^◌, ◌<◌, ◌≤◌, inl, Ok, ◌∙◌, arith}
use Rattle.rv32_isa.specs.declared.micro_op.Size.TheVariants.{Word}
use Rattle.word_code.specs.Memory.{Memory, number_at, with_number}
use Rattle.word_code.specs.RoutineTable.{Cell, Area, ZeroWords}
use Rattle.word_code.proofs.ForCallers.{MemoryLaw, Sized, put_here, put_area, at_same, span, Changed, changed_none, changed_more, changed_word}

abbrev pub with_zeros : (words : ℕ) → Memory → (to : ℕ) → Memory
with_zeros zero m to = m
with_zeros (suc n) m to = with_zeros n (with_number m to Word 0) (to + 4)

pub record ClearedAt (m other : Memory) (at bytes : ℕ) : Type 0 where
  pub changed : Changed m other at bytes
  pub zeros : ZeroWords other at bytes

module _ (law : MemoryLaw) where
  pub cleared_at : (n : ℕ) (m : Memory) (to : ℕ) → Sized m → Area m to n → ClearedAt m (with_zeros n m to) to (span n)
  cleared_at zero m to sized there =
      record { changed = changed_none m to sized; zeros = λ o within is. absurd (omega arith) }
  cleared_at (suc n) m to sized there =
      let small : 0 < 2 ^ 32 = omega arith in
      let middle : Memory = with_number m to Word 0 in
      let x : Changed m middle to 4 = changed_word law m to 0 sized there.0 small in
      let y : ClearedAt middle (with_zeros n middle (to + 4)) (to + 4) (span n)
      = cleared_at n middle (to + 4) x.sized (put_area law m to 0 sized there.0 small (to + 4) n there.1) in
      record {
        changed = changed_more m middle (with_zeros n middle (to + 4)) to (span n) x y.changed;
        zeros = λ o within is. by n m to sized there.0 y o is within;
      }
    where
      by : (n : ℕ) (m : Memory) (to : ℕ) → Sized m → Cell m to
          → ClearedAt (with_number m to Word 0) (with_zeros n (with_number m to Word 0) (to + 4)) (to + 4) (span n)
          → (o : ℕ) → o % 4 ≡ 0 → o + 4 ≤ 4 + span n → number_at (with_zeros n (with_number m to Word 0) (to + 4)) (to + o) Word ≡ Ok 0
      by n m to sized there y (suc zero) e within = absurd (omega arith)
      by n m to sized there y (suc (suc zero)) e within = absurd (omega arith)
      by n m to sized there y (suc (suc (suc zero))) e within = absurd (omega arith)
      by n m to sized there y zero e within =
          y.changed.outside (to + 0) (inl (omega arith))
          ∙ at_same (with_number m to Word 0) (to + 0) to (omega arith)
          ∙ put_here law m to 0 sized there.may (omega arith)
      by n m to sized there y (suc (suc (suc (suc o)))) e within =
          at_same (with_zeros n (with_number m to Word 0) (to + 4)) (to + suc (suc (suc (suc o)))) (to + 4 + o) (omega arith) ∙ y.zeros o (omega arith)
          (omega arith)
