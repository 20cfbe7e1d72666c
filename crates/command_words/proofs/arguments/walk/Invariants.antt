use Rattle.std.proofs.Common.{◌≡◌, map, drop, string_bytes}
use Rattle.command_words.specs.Walk.{line_of, walk, begin}
use Rattle.command_words.proofs.arguments.walk.Given as goal

-- the rest leads from here to where all words lead
abbrev pub invariant-loop-word : goal.invariant-loop-word
invariant-loop-word l = walk (map string_bytes (drop l.word-index l.words)) (line_of l.line) ≡ walk (map string_bytes l.words) begin
