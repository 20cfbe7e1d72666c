use Rattle.std.proofs.Common.{◌≡◌, ◌≤◌, drop, length, map}
use Rattle.flat_code.specs.Codes.{block_plain}
use Rattle.word_lowering.specs.Aliases.{value_to, location_to, texts_of, FindsAliases}
use Rattle.word_lowering.proofs.aliases.put_aliases.Given as goal

-- the lines from there on
abbrev pub invariant-loop-i : goal.invariant-loop-i
invariant-loop-i l = record {
  within : l.i ≤ length l.lines;
  behind : l.behind ≡ length (texts_of (map block_plain (drop l.i l.lines)));
  values : FindsAliases l.values value_to (map block_plain (drop l.i l.lines));
  locations : FindsAliases l.locations location_to (map block_plain (drop l.i l.lines));
}

abbrev pub decreases-loop-i : goal.decreases-loop-i
decreases-loop-i l = l.i
