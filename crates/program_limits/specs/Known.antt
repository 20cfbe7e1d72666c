-- The types of a table, and what is said of them. It serves proofs alone.
use Rattle.std.specs.Prelude.{List}
use Rattle.nim_types.specs.Types.{Ty, Facts}
use Rattle.nim_types.specs.Table.{types_in, facts_in}
use Rattle.program_limits.specs.declared.known.Known.{Known}

abbrev pub known_types : Known → List Ty
known_types known = types_in known.types.now

abbrev pub known_facts : Known → Facts
known_facts known = facts_in known.types.now
