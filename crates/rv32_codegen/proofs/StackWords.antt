-- The words of frames, in the bytes of the stack behind the places.
use Rattle.std.proofs.Common.{◌≡◌, ◌≢◌, ℕ, ◌+◌, ◌-◌, ◌*◌, ◌/◌, ◌%◌, ◌^◌, ◌<◌, ◌≤◌, inl, inr, List, [], ◌∷◌, ◌++◌, length, take, drop}
use Rattle.std.proofs.Common.{sym, ap, ◌∙◌, arith, append_assoc, length-append, length-take-le, take_at, take-take, drop_at, drop-drop}
use Rattle.std.proofs.Math.Seq.{take-append-add, drop-append-add}
use Rattle.std.proofs.lemmas.Bool.{cases_lt}
use Rattle.std.proofs.lemmas.List.{take-append-le, drop-take}
use Rattle.rv32_isa.specs.Words.{little, word_bytes}
use Rattle.rv32_isa.specs.State.{put_bytes}
use Rattle.rv32_isa.proofs.ForCallers.{little-word_bytes, length-word_bytes}
use Rattle.rv32_logic.proofs.ForCallers.{put_bytes_long}

-- so many words there are
abbrev pub words : List ℕ → ℕ
words bytes = length bytes / 4

-- one of them
pub word_in : List ℕ → (k : ℕ) → ℕ
word_in bytes k = little (take 4 (drop (4 * k) bytes))

-- the bytes with another one
pub put_word : List ℕ → (k value : ℕ) → List ℕ
put_word bytes k value = put_bytes bytes (4 * k) (word_bytes value)

-- ---- a word is put

module _ (ws : List ℕ) (k n : ℕ) (lt : k < words ws) where
  abbrev front : List ℕ
  front = take (4 * k) ws

  front_long : length front ≡ 4 * k
  front_long = length-take-le (4 * k) ws (omega (arith, lt))

  pub length-put_word : length (put_word ws k n) ≡ length ws
  unfolding put_word
  length-put_word = put_bytes_long ws (word_bytes n) (4 * k) (omega (arith, length-word_bytes n, lt))

  pub word_put_same : n < 2 ^ 32 → word_in (put_word ws k n) k ≡ n
  unfolding put_word word_in
  word_put_same h =
      let rest = drop (4 * k + length (word_bytes n)) ws in
      ap (λ l. little (take 4 l)) (drop_at front (word_bytes n ++ rest) (4 * k) front_long)
      ∙ ap little (take_at (word_bytes n) rest 4 (length-word_bytes n))
      ∙ little-word_bytes n h

  -- bytes before it stay
  pub before_put : (m : ℕ) → m ≤ 4 * k → take m (put_word ws k n) ≡ take m ws
  unfolding put_word
  before_put m le =
      take-append-le m front (word_bytes n ++ drop (4 * k + length (word_bytes n)) ws) (omega (arith, front_long, le)) ∙ take-take m (4 * k) ws le

  word_before : (i : ℕ) → i < k → word_in (put_word ws k n) i ≡ word_in ws i
  unfolding word_in
  word_before i less =
      ap little (sym (drop-take (4 * i) 4 (put_word ws k n)) ∙ ap (drop (4 * i)) (before_put (4 * i + 4) (omega (arith, less))) ∙ drop-take (4 * i) 4 ws)

  -- and those behind it
  past : drop (4 * k + 4) (put_word ws k n) ≡ drop (4 * k + 4) ws
  unfolding put_word
  past =
      let rest = drop (4 * k + length (word_bytes n)) ws in
      ap (drop (4 * k + 4)) (sym (append_assoc front (word_bytes n) rest))
      ∙ drop_at (front ++ word_bytes n) rest (4 * k + 4) (omega (arith, length-append front (word_bytes n), front_long, length-word_bytes n))
      ∙ ap (λ x. drop (4 * k + x) ws) (length-word_bytes n)

  word_behind : (i : ℕ) → k < i → word_in (put_word ws k n) i ≡ word_in ws i
  unfolding word_in
  word_behind i more =
      let d = 4 * i - (4 * k + 4) in
      let is : 4 * k + 4 + d ≡ 4 * i = omega (arith, more) in
      ap (λ x. little (take 4 (drop x (put_word ws k n)))) (sym is)
      ∙ ap (λ l. little (take 4 l)) (sym (drop-drop d (4 * k + 4) (put_word ws k n)) ∙ ap (drop d) past ∙ drop-drop d (4 * k + 4) ws)
      ∙ ap (λ x. little (take 4 (drop x ws))) is

  pub word_put_other : (i : ℕ) → i ≢ k → word_in (put_word ws k n) i ≡ word_in ws i
  word_put_other i ne = elim (cases_lt i k) [
    | inl less ↦ word_before i less
    | inr le ↦ word_behind i (omega (arith, le, ne))
  ]

-- only the low 32 bits are stored
four_same : (a b c d e f g h : ℕ) → a ≡ e → b ≡ f → c ≡ g → d ≡ h → a ∷ b ∷ c ∷ d ∷ [] ≡ e ∷ f ∷ g ∷ h ∷ []
four_same a b c d e f g h p q r s = ap (λ x. x ∷ b ∷ c ∷ d ∷ []) p ∙ ap (λ x. e ∷ x ∷ c ∷ d ∷ []) q
    ∙ ap (λ x. e ∷ f ∷ x ∷ d ∷ []) r ∙ ap (λ x. e ∷ f ∷ g ∷ x ∷ []) s

pub word_bytes-low : (n : ℕ) → word_bytes n ≡ word_bytes (n % 2 ^ 32)
unfolding word_bytes
word_bytes-low n = four_same _ _ _ _ _ _ _ _ (omega arith) (omega arith) (omega arith) (omega arith)

-- ---- behind the places

module _ (places : List ℕ) (ws : List ℕ) (k : ℕ) where
  pub word_read : little (take 4 (drop (length places + 4 * k) (places ++ ws))) ≡ word_in ws k
  unfolding word_in
  word_read = ap (λ l. little (take 4 l)) (drop-append-add places ws (4 * k))

  pub word_put : (n : ℕ) → put_bytes (places ++ ws) (length places + 4 * k) (word_bytes n) ≡ places ++ put_word ws k n
  unfolding put_word
  word_put n =
      let bytes = word_bytes n in
      let rest = drop (4 * k + length bytes) ws in
      let is : length places + 4 * k + length bytes ≡ length places + (4 * k + length bytes) = omega arith in
      ap (λ l. l ++ (bytes ++ drop (length places + 4 * k + length bytes) (places ++ ws))) (take-append-add places ws (4 * k))
      ∙ ap (λ i. (places ++ take (4 * k) ws) ++ (bytes ++ drop i (places ++ ws))) is
      ∙ ap (λ l. (places ++ take (4 * k) ws) ++ (bytes ++ l)) (drop-append-add places ws (4 * k + length bytes))
      ∙ append_assoc places (take (4 * k) ws) (bytes ++ rest)

-- ---- where places begin and end

-- places take words from the front
pub word_dropped : (ws : List ℕ) (room n k : ℕ) → room ≡ 4 * n → word_in (drop room ws) k ≡ word_in ws (n + k)
unfolding word_in
word_dropped ws room n k e =
    ap (λ l. little (take 4 l)) (drop-drop (4 * k) room ws)
    ∙ ap (λ i. little (take 4 (drop i ws))) (let is : room + 4 * k ≡ 4 * (n + k) = omega (arith, e) in is)

-- and give them back
pub word_given : (more ws : List ℕ) (n k : ℕ) → length more ≡ 4 * n → word_in (more ++ ws) (n + k) ≡ word_in ws k
unfolding word_in
word_given more ws n k e =
    ap (λ i. little (take 4 (drop i (more ++ ws)))) (let is : 4 * (n + k) ≡ length more + 4 * k = omega (arith, e) in is)
    ∙ ap (λ l. little (take 4 l)) (drop-append-add more ws (4 * k))
