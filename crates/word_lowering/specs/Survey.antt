-- What the lines of a procedure say of its places, before these have homes. No public contract speaks of it.
use Rattle.std.specs.Prelude.{◌≡◌, map}
use Rattle.flat_code.specs.Codes.{block_plain}
use Rattle.word_lowering.specs.declared.survey.Survey.{Survey}
use Rattle.word_lowering.specs.Aliases.{value_to, location_to, addressed, homed, standing, FindsAliases}

pub record IsSurvey (survey : Survey) : Type 0 where
  pub values : FindsAliases survey.values.now value_to (map block_plain survey.lines.now)
  pub locations : FindsAliases survey.locations.now location_to (map block_plain survey.lines.now)
  pub addressed : survey.addressed.now ≡ addressed (map block_plain survey.lines.now)
  pub standing : survey.standing.now ≡ standing (map block_plain survey.lines.now)
  pub homed : survey.homed.now ≡ homed (map block_plain survey.lines.now)
