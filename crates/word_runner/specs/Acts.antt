-- What a line does, with words in place of variables.
use Rattle.std.specs.Prelude.{◌≡◌, ℕ, true, List, [], min, length, Option, Some, None}
use Rattle.word_code.specs.declared.word.WordInstr.{WordInstr}
use Rattle.word_code.specs.Memory.{bytes_at, may_fill, may_put, with_number}
use Rattle.word_code.specs.Words.{WordDid, Passes, Spends, Leaps, Calls, Returns, Exits, Fails, WordScene, does, put, sets, reads, shows}
use Rattle.word_runner.specs.declared.act.Act.{Act}
use Rattle.word_runner.specs.declared.act.Act.TheVariants as A
use Rattle.word_runner.specs.declared.state.Space.{Space}
use Rattle.word_runner.specs.declared.state.Frame.{Frame}
use Rattle.word_runner.specs.View.{held_in, space_is}

abbrev pub did : WordScene → Act → WordDid
did x A.Passes = Passes [] x
did x A.Spends = Spends x
did x (A.Sets to word) = sets x to word
did x (A.Stores address size word) = Passes [] (record x { memory = with_number x.memory address size word })
did x (A.Leaps name) = Leaps name x
did x (A.Gives index word) = Passes [] (record x { given = put x.given index word })
did x (A.Calls to callee) = Calls to callee x
did x (A.Returns word) = Returns word
did x (A.Reads to address len) = reads x to address (min len (length x.input))
did x (A.Writes stream address len) = shows x stream (bytes_at x.memory address len)
did x (A.Exits status) = Exits status
did x A.Fails = Fails

abbrev pub both_of : Option ℕ → Option ℕ → Option (ℕ × ℕ)
both_of None right = None
both_of (Some a) None = None
both_of (Some a) (Some b) = Some (a, b)

-- what a line works on, in a call and a memory
abbrev pub scene_at : Frame → Space → (input : List ℕ) → (data_at : ℕ) → WordScene
scene_at frame space input data_at = record {
  memory = space_is space;
  input = input;
  vars = held_in frame.vars.items;
  given = held_in frame.given.items;
  base = frame.base;
  data_at = data_at;
}

-- a line does so
abbrev pub IsAct : Frame → Space → WordInstr → Act → Type 0
IsAct frame space line act =
    (input : List ℕ) (data_at : ℕ) → did (scene_at frame space input data_at) act ≡ does (scene_at frame space input data_at) line

-- what it puts to memory may be put there, and what it writes is there
abbrev pub May : Space → Act → Type 0
May space (A.Stores address size word) = may_put (space_is space) address size ≡ true
May space (A.Reads to address len) = may_fill (space_is space) address len ≡ true
May space (A.Writes stream address len) = (bytes : List ℕ) × (bytes_at (space_is space) address len ≡ Some bytes)
May space act = Unit {0}
