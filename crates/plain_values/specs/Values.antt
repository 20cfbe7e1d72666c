-- How many values types have, and the texts of these.
use Rattle.std.specs.Prelude.{ℕ, ℤ, List, [], length, Option, Some, None}
use Rattle.nim_types.specs.Types.{Ty, char, enum, Facts, fact_of, members_in}
use Rattle.nim_program.specs.Texts.{plain_text}
use Rattle.nim_program.specs.Kinds.{below_distinct}

-- how many values a type has where an int is converted to it with a check
abbrev pub limit_of : Facts → Ty → Option ℕ
limit_of facts char = Some 256
limit_of facts (enum key) = Some (length (members_in (fact_of facts (enum key))))
limit_of facts _ = None

-- the text of a number of a type, by the last base of a distinct type
abbrev pub text_of : Facts → Option Ty → ℤ → List ℕ
text_of facts None z = []
text_of facts (Some ty) z = plain_text facts (below_distinct (length facts) facts ty) z
