use Rattle.arc_base.proofs.ForCallers.{steady}
use Rattle.rv32_isa.specs.LabelsMeaning.{step, start}
use Rattle.rv32_isa.proofs.Marks.{mark_some, mark_within, comes_back}
use Rattle.rv32_isa.proofs.laws.label_codes.Goals as goal

pub returns : goal.returns
returns c = record {
  steady = λ live code at statics heap stack input. steady (step live code at) (start code statics heap stack input);
  numbered = λ before rest line m. (mark_some rest, mark_within before line rest m);
  back = comes_back;
}
