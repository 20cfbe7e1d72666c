-- The labels that the code of a call has of its own: one for each argument.
use Rattle.std.proofs.Common.{◌≡◌, ◌≢◌, ℕ, suc, ◌+◌, ◌*◌, ◌<◌, List, ◌∷◌, length, map, Some, refl, ◌∙◌, arith}
use Rattle.std.specs.Prelude.{◌==◌}
use Rattle.std.proofs.lemmas.Bool.{cond-false, ne_eqb}
use Rattle.flat_code.specs.declared.block.BlockLine.{BlockLine}
use Rattle.flat_code.specs.Codes.{block_plain}
use Rattle.word_code.specs.declared.word.WordInstr.{WordInstr}
use Rattle.word_code.specs.declared.word.WordInstr.TheVariants.{Label}
use Rattle.word_code.specs.Words.{from_label}
use Rattle.word_lowering.specs.declared.homes.TheConstants.{SECOND}
use Rattle.word_lowering.specs.declared.homes.Home.{Home}
use Rattle.word_lowering.specs.declared.homes.Home.TheVariants.{Variable, Placed, Static}
use Rattle.word_lowering.specs.declared.homes.Housed.{Housed}
use Rattle.word_lowering.specs.declared.spots.Spot.{Spot}
use Rattle.word_lowering.specs.declared.spots.Spot.TheVariants.{Held, Lies, Letter}
use Rattle.word_lowering.specs.Spots.{spot_of, address, handed}
use Rattle.word_lowering.specs.LineCode.{Around, arguments_of, label_before, word_argument, argument_code, arguments_code}
use Rattle.word_lowering.proofs.Lines.{Basis, IsGood, starts}
use Rattle.word_lowering.proofs.Related.{Both, body_of, code_past}
use Rattle.word_lowering.proofs.Settling.{code_of_line}
use Rattle.word_lowering.proofs.Sites.{word_of}

-- those of a line are found in its code
abbrev pub ArgumentLabels : Basis → Type 0
ArgumentLabels x = (g : Both) (line : BlockLine) (rest : List BlockLine) → IsGood x (starts g line rest)
    → (i : ℕ) → i < length (arguments_of (block_plain line))
    → from_label (label_before (map block_plain rest) + 2 * suc i) (word_of x.table x.blocks (body_of g)).lines
    ≡ from_label (label_before (map block_plain rest) + 2 * suc i) (code_of_line x g line rest (code_past x.table x.blocks (body_of g) line rest))

-- ---- other labels are passed by

past_label : (n label : ℕ) (k : List WordInstr) → label ≢ n → from_label n (Label label ∷ k) ≡ from_label n k
past_label n label k apart = cond-false (label == n) (Some (Label label ∷ k)) (from_label n k) (ne_eqb label n apart)

pub past_address : (n to : ℕ) (home : Home) (k : List WordInstr) → from_label n (address to home ∷ k) ≡ from_label n k
past_address n to (Variable v) k = refl
past_address n to (Placed a) k = refl
past_address n to (Static a) k = refl

past_handed : (n label bytes : ℕ) (from : Spot) (k : List WordInstr) → label ≢ n → from_label n (handed label bytes from k) ≡ from_label n k
past_handed n label bytes (Held u) k apart = refl
past_handed n label bytes (Lies from) k apart = past_address n SECOND from _ ∙ past_label n label _ apart
past_handed n label bytes (Letter from) k apart = past_address n SECOND from _

past_word : (n index : ℕ) (from : Home) (k : List WordInstr) → from_label n (word_argument index from k) ≡ from_label n k
past_word n index (Variable v) k = refl
past_word n index (Placed a) k = refl
past_word n index (Static a) k = refl

past_argument : (x : Around) (n label : ℕ) (param : Home) (from : Housed) (k : List WordInstr) → label ≢ n
    → from_label n (argument_code x label param from k) ≡ from_label n k
past_argument x n label (Variable v) from k apart = past_word n v from.home k
past_argument x n label (Placed a) from k apart = past_handed n label from.bytes (spot_of from) k apart
past_argument x n label (Static a) from k apart = refl

-- ---- in the code of arguments

abbrev pub Finds : Around → (lines : List WordInstr) (label : ℕ) (params hs : List Housed) (k : List WordInstr) → Type 0
Finds x lines label params hs k = (i : ℕ) → i < length hs
    → from_label (label + 2 * suc i) lines ≡ from_label (label + 2 * suc i) (arguments_code x label params hs k)

-- behind the first one
pub finds_next : (x : Around) (lines : List WordInstr) (label : ℕ) (p : Housed) (params : List Housed) (h : Housed) (hs : List Housed) (k : List WordInstr)
    → Finds x lines label (p ∷ params) (h ∷ hs) k → Finds x lines label params hs k
finds_next x lines label p params h hs k finds i less =
    finds i (omega (arith, less))
    ∙ past_argument x (label + 2 * suc i) (label + 2 * suc (length hs)) p.home h (arguments_code x label params hs k)
    (λ e. absurd (omega (arith, e, less)))
