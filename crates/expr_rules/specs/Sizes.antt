-- How large a value of a type may be.
use Rattle.std.specs.Prelude.{Bool, nat_le}
use Rattle.nim_types.specs.Types.{Ty, Facts}
use Rattle.nim_types.specs.Forms.{size, form_of}
use Rattle.expr_rules.specs.declared.limits.TheConstants.{MOST_TYPE_BYTES}

abbrev pub is_sized : Facts → Ty → Bool
is_sized facts ty = nat_le (size (form_of facts ty)) MOST_TYPE_BYTES
