-- What memory is behind the routines that copy, clear and swap: the rest as before, and the same words may be read and written.
use Rattle.std.proofs.Common.{◌≡◌, ◌⊎◌, inl, inr, ℕ, zero, suc, ◌+◌, ◌-◌, ◌*◌, ◌%◌, ◌<◌, ◌≤◌, Ok, Err, true, false}
use Rattle.std.proofs.Common.{sym, ap, subst, ◌∙◌, arith}
use Rattle.std.specs.Prelude.{◌==◌, ◌&&◌, if◌then◌else◌}
use Rattle.std.proofs.lemmas.Bool.{cases_Bool, cases_order, cond-false, eqb-true}
use Rattle.rv32_isa.specs.declared.micro_op.Size.TheVariants.{Word}
use Rattle.rv32_isa.specs.declared.machine.FaultKind.TheVariants.{Misaligned}
use Rattle.rv32_isa.specs.State.{readable}
use Rattle.rv32_isa.specs.Steps.{number_of}
use Rattle.word_code.specs.Memory.{KeepsShape, Memory, as_state, number_at, bytes_at}
use Rattle.word_code.specs.RoutineTable.{Cell, Area, ZeroWords, Beside, IsRewritten, Moving, IsCopied, Clearing, IsCleared, AreSwapped, LowWords}
use Rattle.word_code.proofs.ForCallers.{MemoryLaw, Sized, aligned, at_same, Apart, SameOutside, Changed, CopiedTo, low_word, low_read}

-- ---- words of a range

-- a word is apart from a range, or one of its words
abbrev IsPart : (b a n : ℕ) → Type 0
IsPart b a n = Apart b a n ⊎ ((o : ℕ) × (b ≡ a + o) × (o + 4 ≤ n) × (o % 4 ≡ 0))

part_of : (b a n : ℕ) → b % 4 ≡ 0 → a % 4 ≡ 0 → n % 4 ≡ 0 → IsPart b a n
part_of b a n whole_b whole_a whole_n = by (cases_order b a)
  where
    behind : a ≤ b → (b ≡ a + n) ⊎ ((b < a + n) ⊎ (a + n < b)) → IsPart b a n
    behind le (inl e) = inl (inr (omega (arith, e)))
    behind le (inr (inl h)) =
        inr (b - a, omega (arith, le), omega (arith, le, h, whole_b, whole_a, whole_n), omega (arith, le, whole_b, whole_a))
    behind le (inr (inr h)) = inl (inr (omega (arith, h)))

    by : (b ≡ a) ⊎ ((b < a) ⊎ (a < b)) → IsPart b a n
    by (inl e) = behind (omega (arith, e)) (cases_order b (a + n))
    by (inr (inl h)) = inl (inl (omega (arith, h, whole_b, whole_a)))
    by (inr (inr h)) = behind (omega (arith, h)) (cases_order b (a + n))

-- a word among some
area_at : (m : Memory) (n a : ℕ) → Area m a n → (o : ℕ) → o + 4 ≤ 4 * n → o % 4 ≡ 0 → Cell m (a + o)
area_at m zero a area o within whole = absurd (omega (arith, within))
area_at m (suc n) a area (suc zero) within whole = absurd (omega (arith, whole))
area_at m (suc n) a area (suc (suc zero)) within whole = absurd (omega (arith, whole))
area_at m (suc n) a area (suc (suc (suc zero))) within whole = absurd (omega (arith, whole))
area_at m (suc n) a area zero within whole = let e : a ≡ a + 0 = omega arith in subst (Cell m) e area.0
area_at m (suc n) a area (suc (suc (suc (suc o)))) within whole =
    let e : a + 4 + o ≡ a + suc (suc (suc (suc o))) = omega arith in
    subst (Cell m) e (area_at m n (a + 4) area.1 o (omega (arith, within)) (omega (arith, whole)))

-- words that are read
abbrev AreWords : Memory → (at n : ℕ) → Type 0
AreWords m at n = (o : ℕ) → o + 4 ≤ n → o % 4 ≡ 0 → (w : ℕ) × (number_at m (at + o) Word ≡ Ok w)

-- those of another range
words_from : (m other : Memory) (from to n : ℕ) → Area m from n → LowWords m from other to (4 * n) → AreWords other to (4 * n)
words_from m other from to n area same o within whole =
    let c = area_at m n from area o within whole in (low_word m (from + o), same o within whole ∙ low_read m (from + o) c)

-- ---- a range is other than it was

module _ (law : MemoryLaw) (m other : Memory) (sizes : KeepsShape (as_state m) (as_state other)) where
  sized_still : Sized m → Sized other
  sized_still sized = law.regions (as_state m) (as_state other) sized sizes

  -- a word that is read there
  cell_there : (b : ℕ) → Cell m b → (w : ℕ) → number_at other b Word ≡ Ok w → Cell other b
  cell_there b c w reads = record {
    may = ap (λ x. (b % 4 == 0) && x) (law.stores (as_state m) (as_state other) b 4 sizes) ∙ c.may;
    word = w;
    reads = reads;
  }

pub same_word : (m other : Memory) (b : ℕ) → bytes_at other b 4 ≡ bytes_at m b 4 → number_at other b Word ≡ number_at m b Word
same_word m other b e = ap (λ o. if b % 4 == 0 then number_of o else Err Misaligned) e

pub rewritten_changed : MemoryLaw → (m other : Memory) (at n : ℕ) → Sized m → at % 4 ≡ 0 → n % 4 ≡ 0 → IsRewritten m other at n → AreWords other at n
    → Changed m other at n
rewritten_changed law m other at n sized whole_at whole_n new words = record {
  sized = sized_still law m other new.sizes sized;
  sizes = new.sizes;
  cells = cells;
  outside = outside;
  beside = new.beside;
}
  where
    outside : SameOutside m other at n
    outside b apart = same_word m other b (new.beside b 4 apart)

    cells : (b : ℕ) → Cell m b → Cell other b
    cells b c = by (part_of b at n (aligned m b c) whole_at whole_n)
      where
        by : IsPart b at n → Cell other b
        by (inl apart) = cell_there law m other new.sizes b c c.word (outside b apart ∙ c.reads)
        by (inr (o, is, within, whole)) =
            let w = words o within whole in cell_there law m other new.sizes b c w.0 (at_same other b (at + o) is ∙ w.1)

first_whole : (m : Memory) (a n : ℕ) → Area m a (suc n) → a % 4 ≡ 0
first_whole m a n area = aligned m a area.0

pub copied_changed : MemoryLaw → (u : Moving) (m other : Memory) → Sized m → Area m u.to (suc u.behind) → Area m u.from (suc u.behind)
    → IsCopied u m other → CopiedTo m other u.to u.from (4 * suc u.behind)
copied_changed law u m other sized there here is = record {
  changed = rewritten_changed law m other u.to (4 * suc u.behind) sized (first_whole m u.to u.behind there) (omega arith) is.rewritten
      (words_from m other u.from u.to (suc u.behind) here is.same);
  same = is.same;
}

pub record ClearedAt (m other : Memory) (at bytes : ℕ) : Type 0 where
  pub changed : Changed m other at bytes
  pub zeros : ZeroWords other at bytes

pub cleared_changed : MemoryLaw → (u : Clearing) (m other : Memory) → Sized m → Area m u.to (suc u.behind) → IsCleared u m other
    → ClearedAt m other u.to (4 * suc u.behind)
cleared_changed law u m other sized there is = record {
  changed = rewritten_changed law m other u.to (4 * suc u.behind) sized (first_whole m u.to u.behind there) (omega arith) is.rewritten
      (λ o within whole. (0, is.zeros o within whole));
  zeros = is.zeros;
}

-- ---- the words of two ranges traded places

pub record Trade (m other : Memory) (left right bytes : ℕ) : Type 0 where
  pub sized : Sized other
  pub sizes : KeepsShape (as_state m) (as_state other)
  pub cells : (b : ℕ) → Cell m b → Cell other b
  pub outside : (b : ℕ) → Apart b left bytes → Apart b right bytes → number_at other b Word ≡ number_at m b Word
  pub beside : (b n : ℕ) → Beside b n left bytes → Beside b n right bytes → bytes_at other b n ≡ bytes_at m b n
  pub to_left : LowWords m right other left bytes
  pub to_right : LowWords m left other right bytes

pub swapped_trade : MemoryLaw → (u : Moving) (m other : Memory) → Sized m → Area m u.to (suc u.behind) → Area m u.from (suc u.behind)
    → AreSwapped u m other → Trade m other u.to u.from (4 * suc u.behind)
swapped_trade law u m other sized there here is = record {
  sized = sized_still law m other is.sizes sized;
  sizes = is.sizes;
  cells = cells;
  outside = outside;
  beside = is.beside;
  to_left = is.there;
  to_right = is.back;
}
  where
    outside : (b : ℕ) → Apart b u.to (4 * suc u.behind) → Apart b u.from (4 * suc u.behind) → number_at other b Word ≡ number_at m b Word
    outside b left right = same_word m other b (is.beside b 4 left right)

    cells : (b : ℕ) → Cell m b → Cell other b
    cells b c =
        by (part_of b u.to (4 * suc u.behind) (aligned m b c) (first_whole m u.to u.behind there) (omega arith))
        (part_of b u.from (4 * suc u.behind) (aligned m b c) (first_whole m u.from u.behind here) (omega arith))
      where
        by : IsPart b u.to (4 * suc u.behind) → IsPart b u.from (4 * suc u.behind) → Cell other b
        by (inr (o, e, within, whole)) right =
            let w = words_from m other u.from u.to (suc u.behind) here is.there o within whole in
            cell_there law m other is.sizes b c w.0 (at_same other b (u.to + o) e ∙ w.1)
        by (inl left) (inr (o, e, within, whole)) =
            let w = words_from m other u.to u.from (suc u.behind) there is.back o within whole in
            cell_there law m other is.sizes b c w.0 (at_same other b (u.from + o) e ∙ w.1)
        by (inl left) (inl right) = cell_there law m other is.sizes b c c.word (outside b left right ∙ c.reads)

-- ---- beside memory in which the words of the first range are in both

misaligned : (m : Memory) (b : ℕ) → (b % 4 == 0) ≡ false → number_at m b Word ≡ Err Misaligned
misaligned m b h = cond-false (b % 4 == 0) (number_of (readable (as_state m) b 4)) (Err Misaligned) h

-- only the words of the first range are others
pub still_outside : (m copy other : Memory) (left right n : ℕ) → right % 4 ≡ 0 → n % 4 ≡ 0 → SameOutside m copy right n
    → LowWords m left copy right n → Trade m other left right n → SameOutside copy other left n
still_outside m copy other left right n whole whole_n out same t b apart = by (cases_Bool (b % 4 == 0))
  where
    word : IsPart b right n → number_at other b Word ≡ number_at copy b Word
    word (inl away) = t.outside b apart away ∙ sym (out b away)
    word (inr (o, is, within, whole_o)) =
        at_same other b (right + o) is ∙ t.to_right o within whole_o ∙ sym (same o within whole_o) ∙ at_same copy (right + o) b (sym is)

    by : ((b % 4 == 0) ≡ true) ⊎ ((b % 4 == 0) ≡ false) → number_at other b Word ≡ number_at copy b Word
    by (inl h) = let e : b % 4 ≡ 0 = eqb-true (b % 4) 0 h in word (part_of b right n e whole whole_n)
    by (inr h) = misaligned other b h ∙ sym (misaligned copy b h)
