-- The words of constants in the data: how many there are, that they are read where their bytes stand, and where the parts of a constant are.
use Rattle.std.proofs.Common.{◌≡◌, ◌⊎◌, inl, inr, ℕ, zero, suc, ◌+◌, ◌-◌, ◌*◌, ◌%◌, ◌^◌, ◌<◌, ◌≤◌, List, [], ◌∷◌, ◌++◌, length, take, drop, Some, Ok}
use Rattle.std.proofs.Common.{Err, true, refl, sym, ap, ap₂, subst, ◌∙◌, arith, append_assoc, length-append, eq-eqb}
use Rattle.std.specs.Int.{w32, to_le_bytes}
use Rattle.std.specs.Prelude.{◌==◌}
use Rattle.std.proofs.lemmas.Bool.{and_from, cases_lt, cond-true}
use Rattle.rv32_isa.specs.Hooks.{code_at}
use Rattle.rv32_isa.specs.Steps.{number_of as bytes_number}
use Rattle.rv32_isa.specs.State.{writable}
use Rattle.rv32_isa.specs.Words.{word_bytes}
use Rattle.rv32_isa.proofs.ForCallers.{length-word_bytes, little-word_bytes}
use Rattle.rv32_isa.specs.declared.machine.FaultKind.TheVariants.{Misaligned}
use Rattle.rv32_isa.specs.declared.micro_op.Size.TheVariants.{Word}
use Rattle.nim_types.specs.Forms.{or_word}
use Rattle.nim_meaning.specs.Values.{Value, Number, Parts, Fixed, Values, Nil, More, bytes, bytes_all, count, is_full, all_full}
use Rattle.flat_code.specs.Pieces.{words_bytes}
use Rattle.flat_code.specs.Shapes.{Shape, number, reference, block, elements, row, parts, resource, Shapes, no_shapes, shapes, has_shape}
use Rattle.flat_code.specs.Shapes.{are_all, are_rows, have_shapes}
use Rattle.word_code.specs.Memory.{Memory, as_state, bytes_at, number_at}
use Rattle.word_code.specs.RoutineTable.{Cell}
use Rattle.word_code.proofs.ForCallers.{Sized}
use Rattle.heap_memory.proofs.ForCallers.{InRegion, nothing_below, part_read, part_written, read_in}
use Rattle.word_lowering.specs.Operations.{word}
use Rattle.word_lowering.proofs.FirstMemory.{drop_past}
use Rattle.word_lowering.proofs.FirstNames.{take_front}
use Rattle.word_lowering.proofs.FixedValues.{filled, AreWords, AllAreWords, PartsAreWords}
use Rattle.word_lowering.proofs.InMemory.{or_word_least}
use Rattle.word_lowering.proofs.OpenCells.{cell_by}
use Rattle.word_lowering.proofs.Options.{none_some}
use Rattle.word_lowering.proofs.PieceWords.{WordsAt}
use Rattle.word_lowering.proofs.ShapeFacts.{shape_bytes, shapes_bytes}
use Rattle.word_lowering.proofs.SmallWords.{AllSmall, small_both}
use Rattle.word_lowering.proofs.StoredLater.{word_below}
use Rattle.word_lowering.proofs.WordsBytes.{little_bytes, bytes_long}

-- ---- bytes of words

bytes_joined : (ws us : List ℕ) → words_bytes (ws ++ us) ≡ words_bytes ws ++ words_bytes us
bytes_joined [] us = refl
bytes_joined (w ∷ ws) us =
    ap (λ l. to_le_bytes w32 w ++ l) (bytes_joined ws us) ∙ sym (append_assoc (to_le_bytes w32 w) (words_bytes ws) (words_bytes us))

-- those of a word among others
word_among : (before : List ℕ) (w : ℕ) (behind : List ℕ) → take 4 (drop (4 * length before) (words_bytes (before ++ w ∷ behind))) ≡ word_bytes w
word_among before w behind =
    let front : List ℕ = words_bytes before in
    let long : 4 * length before ≡ length front + 0 = (let e = bytes_long before in omega (arith, e)) in
    let four : 4 ≡ length (word_bytes w) = sym (length-word_bytes w) in
    let is : words_bytes (before ++ w ∷ behind) ≡ front ++ (word_bytes w ++ words_bytes behind)
    = bytes_joined before (w ∷ behind) ∙ ap (λ l. front ++ (l ++ words_bytes behind)) (little_bytes w) in
    ap₂ (λ n l. take 4 (drop n l)) long is ∙ ap (take 4) (drop_past front (word_bytes w ++ words_bytes behind) 0)
    ∙ ap (λ n. take n (word_bytes w ++ words_bytes behind)) four ∙ take_front (word_bytes w) (words_bytes behind)

-- ---- in memory

module _ (m : Memory) (sized : Sized m) where
  pub stands_in : (place : ℕ) (bytes : List ℕ) → 0 < length bytes → bytes_at m place (length bytes) ≡ Some bytes → InRegion m sized place (length bytes)
  stands_in place [] some here = absurd (omega (arith, some))
  stands_in place (b ∷ bytes) some here = by (cases_lt place code_at)
    where
      by : (place < code_at) ⊎ (code_at ≤ place) → InRegion m sized place (length (b ∷ bytes))
      by (inl low) = absurd (none_some (b ∷ bytes) (sym (nothing_below m place (length bytes) low) ∙ here))
      by (inr far) = read_in m sized place (length (b ∷ bytes)) (b ∷ bytes) some far here

  -- a word of these
  pub cell_in : (place : ℕ) (bytes : List ℕ) → bytes_at m place (length bytes) ≡ Some bytes → (a : ℕ) → place ≤ a → a + 4 ≤ place + length bytes → a % 4 ≡ 0
      → Cell m a
  cell_in place bytes here a low high whole =
      let at : place + (a - place) ≡ a = omega (arith, low) in
      cell_by m sized a (and_from (a % 4 == 0) (writable (as_state m) a 4) (eq-eqb (a % 4) 0 whole)
      (subst (λ b. writable (as_state m) b 4 ≡ true) at
      (part_written m sized place (length bytes) (stands_in place bytes (omega (arith, low, high)) here) (a - place) 4 (omega (arith, low, high)))))

  word_in : (place : ℕ) (before : List ℕ) (w : ℕ) (behind : List ℕ) → place % 4 ≡ 0 → w < 2 ^ 32
      → bytes_at m place (length (words_bytes (before ++ w ∷ behind))) ≡ Some (words_bytes (before ++ w ∷ behind))
      → number_at m (place + 4 * length before) Word ≡ Ok w
  word_in place before w behind whole small here =
      let bytes : List ℕ = words_bytes (before ++ w ∷ behind) in
      let long : length bytes ≡ 4 * length before + (4 + 4 * length behind)
      = (let a = bytes_long (before ++ w ∷ behind) in let b = length-append before (w ∷ behind) in omega (arith, a, b)) in
      let a : ℕ = place + 4 * length before in
      cond-true (a % 4 == 0) (bytes_number (bytes_at m a 4)) (Err Misaligned) (eq-eqb (a % 4) 0 (omega (arith, whole)))
      ∙ ap bytes_number (part_read m sized place (length bytes) bytes (stands_in place bytes (omega (arith, long)) here) here (4 * length before) 4
      (omega (arith, long)) ∙ ap Some (word_among before w behind))
      ∙ ap Ok (little-word_bytes w small)

  pub words_in : (place : ℕ) (before ws behind : List ℕ) → place % 4 ≡ 0 → AllSmall ws
      → bytes_at m place (length (words_bytes (before ++ (ws ++ behind)))) ≡ Some (words_bytes (before ++ (ws ++ behind)))
      → WordsAt m (place + 4 * length before) ws
  words_in place before [] behind whole small here = tt
  words_in place before (w ∷ ws) behind whole small here =
      let again : (before ++ w ∷ []) ++ (ws ++ behind) ≡ before ++ (w ∷ (ws ++ behind)) = append_assoc before (w ∷ []) (ws ++ behind) in
      let next : place + 4 * length (before ++ w ∷ []) ≡ place + 4 * length before + 4
      = (let e = length-append before (w ∷ []) in omega (arith, e)) in (
        word_in place before w (ws ++ behind) whole small.0 here,
        subst (λ a. WordsAt m a ws) next
            (words_in place (before ++ w ∷ []) ws behind whole small.1
            (subst (λ l. bytes_at m place (length (words_bytes l)) ≡ Some (words_bytes l)) (sym again) here)),
      )

-- ---- how many there are

or_word_same : (n : ℕ) → 0 < n → or_word n ≡ n
or_word_same zero some = absurd (omega (arith, some))
or_word_same (suc n) some = refl

filled_many : (ws : List ℕ) → 4 * length (filled ws) ≡ or_word (4 * length ws)
filled_many [] = refl
filled_many (w ∷ ws) = sym (or_word_same (4 * length (w ∷ ws)) (omega arith))

module _ (StandsFixed : (place : ℕ) → List ℕ → Type 0) where
  abbrev Are : List ℕ → Shape → Value → Type 0
  Are ws s v = AreWords StandsFixed ws s v

  mutual
    pub words_many : (ws : List ℕ) (s : Shape) (v : Value) → Are ws s v → 4 * length ws ≡ shape_bytes s
    words_many ws (number values) (Number z) are = ap (λ l. 4 * length l) are.0
    words_many ws block (Fixed text) are = let l = are.1 in ap (λ l. 4 * length l) l.is
    words_many ws (elements s) (Parts vs) are = let l = are.2 in ap (λ l. 4 * length l) l.is
    words_many ws (row n s) (Parts vs) are =
        let e = all_many are.1 s vs are.3 in
        ap (λ l. 4 * length l) are.2 ∙ filled_many are.1 ∙ ap or_word (e ∙ ap (λ k. k * shape_bytes s) are.0)
    words_many ws (parts ss) (Parts vs) are =
        ap (λ l. 4 * length l) are.1 ∙ filled_many are.0 ∙ ap or_word (parts_many are.0 ss vs are.2)
    words_many ws s v are = absurd are

    pub all_many : (ws : List ℕ) (s : Shape) (vs : Values) → AllAreWords StandsFixed ws s vs → 4 * length ws ≡ count vs * shape_bytes s
    all_many ws s Nil are = let e = ap length are in omega (arith, e)
    all_many ws s (More v vs) are =
        let a = words_many are.0 s v are.3 in
        let b = all_many are.1 s vs are.4 in
        let c = ap length are.2 ∙ length-append are.0 are.1 in
        omega (arith, a, b, c)

    parts_many : (ws : List ℕ) (ss : Shapes) (vs : Values) → PartsAreWords StandsFixed ws ss vs → 4 * length ws ≡ shapes_bytes ss
    parts_many ws no_shapes Nil are = let e = ap length are in omega (arith, e)
    parts_many ws (shapes s ss) (More v vs) are =
        let a = words_many are.0 s v are.3 in
        let b = parts_many are.1 ss vs are.4 in
        let c = ap length are.2 ∙ length-append are.0 are.1 in
        omega (arith, a, b, c)
    parts_many ws no_shapes (More v vs) are = absurd are
    parts_many ws (shapes s ss) Nil are = absurd are

  -- ---- they have 32 bits

  filled_small : (ws : List ℕ) → AllSmall ws → AllSmall (filled ws)
  filled_small [] small = (omega arith, tt)
  filled_small (w ∷ ws) small = small

  mutual
    pub words_small : (ws : List ℕ) (s : Shape) (v : Value) → Are ws s v → AllSmall ws
    words_small ws (number values) (Number z) are = subst AllSmall (sym are.0) (word_below values z are.1, tt)
    words_small ws block (Fixed text) are = let l = are.1 in subst AllSmall (sym l.is) (l.few, (l.near, tt))
    words_small ws (elements s) (Parts vs) are = let l = are.2 in subst AllSmall (sym l.is) (l.few, (l.near, tt))
    words_small ws (row n s) (Parts vs) are = subst AllSmall (sym are.2) (filled_small are.1 (all_small are.1 s vs are.3))
    words_small ws (parts ss) (Parts vs) are = subst AllSmall (sym are.1) (filled_small are.0 (parts_small are.0 ss vs are.2))
    words_small ws s v are = absurd are

    all_small : (ws : List ℕ) (s : Shape) (vs : Values) → AllAreWords StandsFixed ws s vs → AllSmall ws
    all_small ws s Nil are = subst AllSmall (sym are) tt
    all_small ws s (More v vs) are =
        subst AllSmall (sym are.2) (small_both are.0 are.1 (words_small are.0 s v are.3) (all_small are.1 s vs are.4))

    parts_small : (ws : List ℕ) (ss : Shapes) (vs : Values) → PartsAreWords StandsFixed ws ss vs → AllSmall ws
    parts_small ws no_shapes Nil are = subst AllSmall (sym are) tt
    parts_small ws (shapes s ss) (More v vs) are =
        subst AllSmall (sym are.2) (small_both are.0 are.1 (words_small are.0 s v are.3) (parts_small are.1 ss vs are.4))
    parts_small ws no_shapes (More v vs) are = absurd are
    parts_small ws (shapes s ss) Nil are = absurd are

  -- ---- a value looks like its shape

  mutual
    pub words_shaped : (ws : List ℕ) (s : Shape) (v : Value) → Are ws s v → has_shape v s ≡ true
    words_shaped ws (number values) (Number z) are = are.1
    words_shaped ws block (Fixed text) are = refl
    words_shaped ws (elements s) (Parts vs) are = all_shaped are.1 s vs are.4
    words_shaped ws (row n s) (Parts vs) are = subst (λ k. are_rows vs k s ≡ true) are.0 (rows_shaped are.1 s vs are.3)
    words_shaped ws (parts ss) (Parts vs) are = parts_shaped are.0 ss vs are.2
    words_shaped ws s v are = absurd are

    all_shaped : (ws : List ℕ) (s : Shape) (vs : Values) → AllAreWords StandsFixed ws s vs → are_all vs s ≡ true
    all_shaped ws s Nil are = refl
    all_shaped ws s (More v vs) are = and_from (has_shape v s) (are_all vs s) (words_shaped are.0 s v are.3) (all_shaped are.1 s vs are.4)

    rows_shaped : (ws : List ℕ) (s : Shape) (vs : Values) → AllAreWords StandsFixed ws s vs → are_rows vs (count vs) s ≡ true
    rows_shaped ws s Nil are = refl
    rows_shaped ws s (More v vs) are =
        and_from (has_shape v s) (are_rows vs (count vs) s) (words_shaped are.0 s v are.3) (rows_shaped are.1 s vs are.4)

    parts_shaped : (ws : List ℕ) (ss : Shapes) (vs : Values) → PartsAreWords StandsFixed ws ss vs → have_shapes vs ss ≡ true
    parts_shaped ws no_shapes Nil are = refl
    parts_shaped ws (shapes s ss) (More v vs) are =
        and_from (has_shape v s) (have_shapes vs ss) (words_shaped are.0 s v are.3) (parts_shaped are.1 ss vs are.4)
    parts_shaped ws no_shapes (More v vs) are = absurd are
    parts_shaped ws (shapes s ss) Nil are = absurd are

  -- ---- all of it is there

  mutual
    pub words_full : (ws : List ℕ) (s : Shape) (v : Value) → Are ws s v → is_full v ≡ true
    words_full ws (number values) (Number z) are = refl
    words_full ws block (Fixed text) are = refl
    words_full ws (elements s) (Parts vs) are = all_are_full are.1 s vs are.4
    words_full ws (row n s) (Parts vs) are = all_are_full are.1 s vs are.3
    words_full ws (parts ss) (Parts vs) are = parts_full are.0 ss vs are.2
    words_full ws s v are = absurd are

    all_are_full : (ws : List ℕ) (s : Shape) (vs : Values) → AllAreWords StandsFixed ws s vs → all_full vs ≡ true
    all_are_full ws s Nil are = refl
    all_are_full ws s (More v vs) are = and_from (is_full v) (all_full vs) (words_full are.0 s v are.3) (all_are_full are.1 s vs are.4)

    parts_full : (ws : List ℕ) (ss : Shapes) (vs : Values) → PartsAreWords StandsFixed ws ss vs → all_full vs ≡ true
    parts_full ws no_shapes Nil are = refl
    parts_full ws (shapes s ss) (More v vs) are = and_from (is_full v) (all_full vs) (words_full are.0 s v are.3) (parts_full are.1 ss vs are.4)
    parts_full ws no_shapes (More v vs) are = absurd are
    parts_full ws (shapes s ss) Nil are = absurd are

  -- ---- its bytes in the meaning, which has no handles of sequences in it: half as many at least

  or_least : (n : ℕ) → (n ≡ 0) ⊎ (4 ≤ n) → 4 ≤ or_word n
  or_least zero h = omega arith
  or_least (suc n) (inl e) = absurd (omega (arith, e))
  or_least (suc n) (inr h) = omega (arith, h)

  or_twice : (n m : ℕ) → n ≤ 2 * m → 4 ≤ or_word m → or_word n ≤ 2 * or_word m
  or_twice zero m le some = omega (arith, some)
  or_twice (suc n) m le some = let h = or_word_least m in omega (arith, le, h)

  mutual
    pub bytes_least : (ws : List ℕ) (s : Shape) (v : Value) → Are ws s v → (4 ≤ bytes v) × (shape_bytes s ≤ 2 * bytes v)
    bytes_least ws (number values) (Number z) are = (omega arith, omega arith)
    bytes_least ws block (Fixed text) are = (omega arith, omega arith)
    bytes_least ws (elements s) (Parts vs) are =
        let all = all_least are.1 s vs are.4 in let some = or_least (bytes_all vs) all.1 in (some, omega (arith, some))
    bytes_least ws (row n s) (Parts vs) are =
        let all = all_least are.1 s vs are.3 in
        let some = or_least (bytes_all vs) all.1 in
        (some, or_twice (n * shape_bytes s) (bytes_all vs) (subst (λ k. k * shape_bytes s ≤ 2 * bytes_all vs) are.0 all.0) some)
    bytes_least ws (parts ss) (Parts vs) are =
        let all = parts_least are.0 ss vs are.2 in
        let some = or_least (bytes_all vs) all.1 in (some, or_twice (shapes_bytes ss) (bytes_all vs) all.0 some)
    bytes_least ws s v are = absurd are

    all_least : (ws : List ℕ) (s : Shape) (vs : Values) → AllAreWords StandsFixed ws s vs
        → (count vs * shape_bytes s ≤ 2 * bytes_all vs) × ((bytes_all vs ≡ 0) ⊎ (4 ≤ bytes_all vs))
    all_least ws s Nil are = (omega arith, inl refl)
    all_least ws s (More v vs) are =
        let first = bytes_least are.0 s v are.3 in
        let rest = all_least are.1 s vs are.4 in
        let f = first.0 in
        let e = first.1 in
        let r = rest.0 in
        (omega (arith, e, r), inr (omega (arith, f)))

    parts_least : (ws : List ℕ) (ss : Shapes) (vs : Values) → PartsAreWords StandsFixed ws ss vs
        → (shapes_bytes ss ≤ 2 * bytes_all vs) × ((bytes_all vs ≡ 0) ⊎ (4 ≤ bytes_all vs))
    parts_least ws no_shapes Nil are = (omega arith, inl refl)
    parts_least ws (shapes s ss) (More v vs) are =
        let first = bytes_least are.0 s v are.3 in
        let rest = parts_least are.1 ss vs are.4 in
        let f = first.0 in
        let e = first.1 in
        let r = rest.0 in
        (omega (arith, e, r), inr (omega (arith, f)))
    parts_least ws no_shapes (More v vs) are = absurd are
    parts_least ws (shapes s ss) Nil are = absurd are
