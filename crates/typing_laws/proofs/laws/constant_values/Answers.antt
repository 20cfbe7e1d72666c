use Rattle.typing_laws.proofs.Unhooked.{default_is}
use Rattle.typing_laws.proofs.ConstantValues.{constant_given, text_given}
use Rattle.typing_laws.proofs.laws.constant_values.Goals as goal

pub returns : goal.returns
returns c = record {
  value = constant_given c.ints.ensures.closed c.ints.ensures.closed_one;
  text = text_given;
  defaults = default_is;
}
