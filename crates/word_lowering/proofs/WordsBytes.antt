-- The bytes of words, and how many there are.
use Rattle.std.proofs.Common.{◌≡◌, ℕ, ◌+◌, ◌*◌, List, [], ◌∷◌, ◌++◌, length, refl, sym, ap, subst, ◌∙◌, arith, length-append}
use Rattle.std.specs.Int.{w32, to_le_bytes}
use Rattle.rv32_isa.specs.Regions.{AreBytes}
use Rattle.rv32_isa.specs.Words.{word_bytes}
use Rattle.rv32_isa.proofs.ForCallers.{length-word_bytes}
use Rattle.flat_code.specs.Pieces.{words_bytes}

pub little_bytes : (w : ℕ) → to_le_bytes w32 w ≡ word_bytes w
unfolding word_bytes
little_bytes w = refl

pub bytes_long : (ws : List ℕ) → length (words_bytes ws) ≡ 4 * length ws
bytes_long [] = refl
bytes_long (w ∷ ws) =
    let a = length-append (to_le_bytes w32 w) (words_bytes ws) in
    let b = ap length (little_bytes w) ∙ length-word_bytes w in
    let c = bytes_long ws in
    omega (arith, a, b, c)

-- each is a byte
word_are : (w : ℕ) (more : List ℕ) → AreBytes more → AreBytes (word_bytes w ++ more)
unfolding word_bytes
word_are w more are = (omega arith, (omega arith, (omega arith, (omega arith, are))))

pub bytes_are : (ws : List ℕ) → AreBytes (words_bytes ws)
bytes_are [] = tt
bytes_are (w ∷ ws) = subst (λ bs. AreBytes (bs ++ words_bytes ws)) (sym (little_bytes w)) (word_are w (words_bytes ws) (bytes_are ws))
