-- A piece of bytes is copied: a byte, or a word.
use Rattle.std.proofs.Common.{◌≡◌, ℕ, suc, ◌+◌, ◌-◌, ◌%◌, ◌^◌, ◌<◌, ◌≤◌, inl, inr, List, [], ◌∷◌, ◌++◌, length, take, drop, Some, Ok, Err}
use Rattle.std.proofs.Common.{true, refl, sym, ap, ap₂, ◌∙◌, ⊎_elim, arith, length-append, eq-eqb}
use Rattle.std.specs.Prelude.{◌==◌}
use Rattle.std.proofs.lemmas.Bool.{and_from, cond-true, cases_lt}
use Rattle.std.proofs.lemmas.Option.{none-some, same_Some}
use Rattle.std.proofs.lemmas.List.{drop-drop}
use Rattle.std.proofs.Math.Seq.{take-append_seam, drop-append_seam}
use Rattle.rv32_isa.specs.declared.micro_op.Size.{Size}
use Rattle.rv32_isa.specs.declared.micro_op.Size.TheVariants.{Byte, Half, Word}
use Rattle.rv32_isa.specs.declared.machine.FaultKind.TheVariants.{Misaligned}
use Rattle.rv32_isa.specs.Hooks.{code_at}
use Rattle.rv32_isa.specs.Words.{little, word_bytes}
use Rattle.rv32_isa.specs.State.{writable}
use Rattle.rv32_isa.specs.Steps.{size_of, number_of, low_bytes}
use Rattle.word_code.specs.Memory.{Memory, as_state, number_at, may_put, with_number, bytes_at, may_fill}
use Rattle.word_code.specs.RoutineTable.{Beside, IsRewritten}
use Rattle.word_code.proofs.ForCallers.{MemoryLaw, Sized, sizes_more, store_rewritten, store_sized, store_here}
use Rattle.heap_memory.proofs.ForCallers.{nothing_below, InRegion, read_in, written_in, part_read, part_written, joined_read}

-- ---- bytes as numbers

-- so many bytes are a number of a size
abbrev pub IsPiece : Size → List ℕ → Type 0
IsPiece size bytes = (length bytes ≡ size_of size) × (low_bytes size (little bytes) ≡ bytes) × (little bytes < 2 ^ 32)

pub byte_piece : (a : ℕ) → a < 256 → IsPiece Byte (a ∷ [])
unfolding word_bytes
byte_piece a h = (refl, ap (λ x. x ∷ []) (omega (arith, h)), omega (arith, h))

pub word_piece : (a b c d : ℕ) → a < 256 → b < 256 → c < 256 → d < 256 → IsPiece Word (a ∷ b ∷ c ∷ d ∷ [])
unfolding word_bytes
word_piece a b c d ha hb hc hd = (
  refl,
  four (omega (arith, ha)) (omega (arith, ha, hb)) (omega (arith, ha, hb, hc)) (omega (arith, ha, hb, hc, hd)),
  omega (arith, ha, hb, hc, hd),
)
  where
    four : {p q r s t u v w : ℕ} → p ≡ q → r ≡ s → t ≡ u → v ≡ w → ◌≡◌ {A = List ℕ} (p ∷ r ∷ t ∷ v ∷ []) (q ∷ s ∷ u ∷ w ∷ [])
    four {p} {q} {r} {s} {t} {u} {v} {w} e f g h =
        ap (λ x. x ∷ r ∷ t ∷ v ∷ []) e ∙ ap (λ x. q ∷ x ∷ t ∷ v ∷ []) f ∙ ap (λ x. q ∷ s ∷ x ∷ v ∷ []) g ∙ ap (λ x. q ∷ s ∷ u ∷ x ∷ []) h

-- ---- ranges

module _ (m : Memory) (sized : Sized m) where
  -- what may be read lies behind where code begins
  pub read_far : (at : ℕ) (bytes : List ℕ) → 0 < length bytes → bytes_at m at (length bytes) ≡ Some bytes → code_at ≤ at
  read_far at [] some here = absurd (omega (arith, some))
  read_far at (b ∷ bytes) some here = ⊎_elim (λ less. absurd (none-some (b ∷ bytes) (sym (nothing_below m at (length bytes) less) ∙ here))) (λ h. h)
      (cases_lt at code_at)

-- a range that may be read ends at an address
pub range_small : (m : Memory) (sized : Sized m) (at : ℕ) (bytes : List ℕ) → at < 2 ^ 32 → bytes_at m at (length bytes) ≡ Some bytes
    → at + length bytes < 2 ^ 32
range_small m sized at [] small here = omega (arith, small)
range_small m sized at (b ∷ bytes) small here =
    let r = read_in m sized at (suc (length bytes)) (b ∷ bytes) (omega arith) (read_far m sized at (b ∷ bytes) (omega arith) here) here in
    let e = r.region.ends in
    let h = r.high in
    omega (arith, e, h)

-- ---- a piece is copied

-- what is known of memory behind a piece: the bytes behind it are as before, and may be written as before
module _ (law : MemoryLaw) (m : Memory) (sized : Sized m) (size : Size) (to from : ℕ) (piece rest : List ℕ) (is : IsPiece size piece)
    (here : bytes_at m from (length (piece ++ rest)) ≡ Some (piece ++ rest)) (may : may_fill m to (length (piece ++ rest)) ≡ true)
    (apart : Beside to (length (piece ++ rest)) from (length (piece ++ rest))) (to_whole : to % size_of size ≡ 0) (from_whole : from % size_of size ≡ 0) where
  long : length (piece ++ rest) ≡ size_of size + length rest
  long = length-append piece rest ∙ ap (λ n. n + length rest) is.0

  some : 0 < size_of size
  some = by size
    where
      by : (size : Size) → 0 < size_of size
      by Byte = omega arith
      by Half = omega arith
      by Word = omega arith

  reading : InRegion m sized from (length (piece ++ rest))
  reading =
      read_in m sized from (length (piece ++ rest)) (piece ++ rest) (omega (arith, long, some))
      (read_far m sized from (piece ++ rest) (omega (arith, long, some)) here) here

  writing : InRegion m sized to (length (piece ++ rest))
  writing = written_in m sized to (length (piece ++ rest)) (omega (arith, long, some)) may

  front : bytes_at m from (size_of size) ≡ Some piece
  front =
      ap (λ a. bytes_at m a (size_of size)) from_zero
      ∙ part_read m sized from (length (piece ++ rest)) (piece ++ rest) reading here 0 (size_of size) (omega (arith, long))
      ∙ ap (λ n. Some (take n (piece ++ rest))) (sym is.0) ∙ ap Some (take-append_seam piece rest)
    where
      from_zero : from ≡ from + 0
      from_zero = omega arith

  pub piece_read : number_at m from size ≡ Ok (little piece)
  piece_read = cond-true (from % size_of size == 0) (number_of (bytes_at m from (size_of size))) (Err Misaligned) (eq-eqb (from % size_of size) 0 from_whole)
      ∙ ap number_of front

  pub piece_may : may_put m to size ≡ true
  piece_may =
      and_from (to % size_of size == 0) (writable (as_state m) to (size_of size)) (eq-eqb (to % size_of size) 0 to_whole)
      (ap (λ a. writable (as_state m) a (size_of size)) to_zero
      ∙ part_written m sized to (length (piece ++ rest)) writing 0 (size_of size) (omega (arith, long)))
    where
      to_zero : to ≡ to + 0
      to_zero = omega arith

  abbrev pub piece_put : Memory
  piece_put = with_number m to size (little piece)

  pub piece_rewritten : IsRewritten m piece_put to (size_of size)
  piece_rewritten = store_rewritten law m to size (little piece) sized piece_may

  pub piece_sized : Sized piece_put
  piece_sized = store_sized law m to size (little piece) sized piece_may

  pub piece_there : bytes_at piece_put to (size_of size) ≡ Some piece
  piece_there = store_here law m to size (little piece) sized piece_may ∙ ap Some is.1

  -- the rest stands where it stood
  pub rest_here : bytes_at piece_put (from + size_of size) (length rest) ≡ Some rest
  rest_here =
      piece_rewritten.beside (from + size_of size) (length rest) (sides apart)
      ∙ part_read m sized from (length (piece ++ rest)) (piece ++ rest) reading here (size_of size) (length rest) (omega (arith, long))
      ∙ ap (λ n. Some (take (length rest) (drop n (piece ++ rest)))) (sym is.0)
      ∙ ap (λ z. Some (take (length rest) z)) (drop-append_seam piece rest) ∙ ap Some (all_of rest)
    where
      sides : Beside to (length (piece ++ rest)) from (length (piece ++ rest)) → Beside (from + size_of size) (length rest) to (size_of size)
      sides (inl h) = inr (omega (arith, h, long))
      sides (inr h) = inl (omega (arith, h, long))

      all_of : (xs : List ℕ) → take (length xs) xs ≡ xs
      all_of [] = refl
      all_of (x ∷ xs) = ap (λ l. x ∷ l) (all_of xs)

  pub rest_may : may_fill piece_put (to + size_of size) (length rest) ≡ true
  rest_may =
      law.stores (as_state m) (as_state piece_put) (to + size_of size) (length rest) piece_rewritten.sizes
      ∙ part_written m sized to (length (piece ++ rest)) writing (size_of size) (length rest) (omega (arith, long))

  pub rest_apart : Beside (to + size_of size) (length rest) (from + size_of size) (length rest)
  rest_apart = sides apart
    where
      sides : Beside to (length (piece ++ rest)) from (length (piece ++ rest)) → Beside (to + size_of size) (length rest) (from + size_of size) (length rest)
      sides (inl h) = inl (omega (arith, h, long))
      sides (inr h) = inr (omega (arith, h, long))

  pub ends_small : (to + length (piece ++ rest) < 2 ^ 32) × (from + length (piece ++ rest) < 2 ^ 32)
  ends_small =
      let a = writing.high in
      let b = writing.region.ends in
      let c = reading.high in
      let d = reading.region.ends in
      (omega (arith, a, b), omega (arith, c, d))

  -- what comes of the piece and of the rest
  module _ (other : Memory) (then : IsRewritten piece_put other (to + size_of size) (length rest))
      (there : bytes_at other (to + size_of size) (length rest) ≡ Some rest) (sized_other : Sized other) where
    pub all_rewritten : IsRewritten m other to (length (piece ++ rest))
    all_rewritten = record {
      sizes = sizes_more m piece_put other piece_rewritten.sizes then.sizes;
      beside = λ b n sides. then.beside b n (further b n sides) ∙ piece_rewritten.beside b n (sooner b n sides);
    }
      where
        further : (b n : ℕ) → Beside b n to (length (piece ++ rest)) → Beside b n (to + size_of size) (length rest)
        further b n (inl h) = inl (omega (arith, h))
        further b n (inr h) = inr (omega (arith, h, long))

        sooner : (b n : ℕ) → Beside b n to (length (piece ++ rest)) → Beside b n to (size_of size)
        sooner b n (inl h) = inl h
        sooner b n (inr h) = inr (omega (arith, h, long))

    pub all_there : bytes_at other to (length (piece ++ rest)) ≡ Some (piece ++ rest)
    all_there =
        let first : bytes_at other to (length piece) ≡ Some piece
        = ap (bytes_at other to) is.0 ∙ then.beside to (size_of size) (inl (omega arith)) ∙ piece_there in
        let next : bytes_at other (to + length piece) (length rest) ≡ Some rest = ap (λ n. bytes_at other (to + n) (length rest)) is.0 ∙ there in
        let open_all : may_fill other to (length piece + length rest) ≡ true
        = law.stores (as_state m) (as_state other) to (length piece + length rest) (sizes_more m piece_put other piece_rewritten.sizes then.sizes)
        ∙ ap (may_fill m to) (sym (length-append piece rest)) ∙ may in
        ap (bytes_at other to) (length-append piece rest) ∙ joined_read other sized_other to piece rest open_all first next
