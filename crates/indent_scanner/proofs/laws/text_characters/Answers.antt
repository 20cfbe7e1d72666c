use Rattle.std.proofs.Common.{refl}
use Rattle.indent_scanner.proofs.Characters.{text_text}
use Rattle.indent_scanner.proofs.laws.text_characters.Goals as goal

pub returns : goal.returns
returns c text values t = text_text text _ values t refl
