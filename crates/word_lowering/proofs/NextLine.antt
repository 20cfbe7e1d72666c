-- One line after another: its code stands behind what is there, and the labels that are left are those of the lines behind it.
use Rattle.std.proofs.Common.{◌≡◌, ℕ, ◌-◌, suc, List, ◌∷◌, ◌++◌, length, map, sym, ap, ◌∙◌, arith}
use Rattle.flat_code.specs.declared.block.BlockLine.{BlockLine}
use Rattle.flat_code.specs.Codes.{block_plain}
use Rattle.word_code.specs.declared.word.WordInstr.{WordInstr}
use Rattle.word_lowering.specs.Emission.{Puts}
use Rattle.word_lowering.specs.LineCode.{Around, arguments_of, labels_in, label_before, line_code, behind_line, lines_code}

pub next_line : (x : Around) (lines left rest : List BlockLine) (line : BlockLine) (label : ℕ) (first old new : List WordInstr) → left ≡ line ∷ rest
    → label ≡ label_before (map block_plain rest) → Puts old new (λ k. line_code x (block_plain line) label (behind_line x (block_plain line) k))
    → ((k : List WordInstr) → old ++ lines_code x (map block_plain left) k ≡ first ++ lines_code x (map block_plain lines) k)
    → (k : List WordInstr) → new ++ lines_code x (map block_plain rest) k ≡ first ++ lines_code x (map block_plain lines) k
next_line x lines left rest line label first old new e l puts before = λ k.
    puts (lines_code x (map block_plain rest) k)
    ∙ ap (λ n. old ++ line_code x (block_plain line) n (behind_line x (block_plain line) (lines_code x (map block_plain rest) k))) l
    ∙ ap (λ (ls : List BlockLine). old ++ lines_code x (map block_plain ls) k) (sym e)
    ∙ before k

pub labels_left : (left rest : List BlockLine) (line : BlockLine) (old own : ℕ) → left ≡ line ∷ rest
    → own ≡ suc (length (arguments_of (block_plain line))) → old ≡ labels_in (map block_plain left) → old - own ≡ labels_in (map block_plain rest)
labels_left left rest line old own e o all =
    let is = all ∙ ap (λ (ls : List BlockLine). labels_in (map block_plain ls)) e in
    omega (arith, is, o)
