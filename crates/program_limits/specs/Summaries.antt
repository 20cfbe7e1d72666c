-- What is known of types beside what they are, by the table: whether their values have code, and how many levels they have, as far as it matters.
-- It serves proofs alone: no public contract speaks of it.
use Rattle.std.specs.Prelude.{◌≡◌, ◌<◌, ◌||◌, ℕ, suc, min, max, nat_le, Bool, true, false, List, map, length, Option, Some, None, slice_get}
use Rattle.nim_types.specs.Types.{Ty, Facts}
use Rattle.nim_types.specs.Forms.{Form, Forms, levels, most_levels, form_in, forms_in, form_within, form_of}
use Rattle.nim_types.specs.declared.types.TypeDef.{TypeDef}
use Rattle.nim_meaning.specs.Unbuilt.{has_unbuilt, has_unbuilt_any}
use Rattle.nim_types.specs.Table.{type_at, types_at, types_in, facts_in}
use Rattle.program_limits.specs.declared.summary.Summary.{Summary}
use Rattle.program_limits.specs.declared.summary.TheConstants.{MOST_LEVELS}

abbrev pub capped : ℕ → ℕ
capped n = min n (suc MOST_LEVELS)

abbrev pub summary_of : Form → Summary
summary_of f = record { unbuilt = has_unbuilt f; levels = capped (levels f) }

abbrev pub summaries_of : Forms → Summary
summaries_of fs = record { unbuilt = has_unbuilt_any fs; levels = capped (most_levels fs) }

abbrev pub with_more : Summary → Summary → Summary
with_more a b = record { unbuilt = a.unbuilt || b.unbuilt; levels = capped (max a.levels b.levels) }

-- one level above
abbrev pub above : (unbuilt : Bool) → (levels : ℕ) → Summary
above unbuilt levels = record { unbuilt = unbuilt; levels = capped (suc levels) }

-- of types by their numbers, so many declared types looked through
abbrev pub form_at : ℕ → List TypeDef → ℕ → Form
form_at n ds i = form_in (form_within n (facts_in ds)) (type_at (types_in ds) i)

abbrev pub forms_at : ℕ → List TypeDef → List ℕ → Forms
forms_at n ds is = forms_in (form_within n (facts_in ds)) (types_at (types_in ds) is)

abbrev pub summary_at : ℕ → List TypeDef → ℕ → Summary
summary_at n ds i = summary_of (form_at n ds i)

abbrev pub summaries_at : ℕ → List TypeDef → List ℕ → Summary
summaries_at n ds is = summaries_of (forms_at n ds is)

-- each type of a table has its own
abbrev pub summary_in : Facts → Ty → Summary
summary_in facts ty = summary_of (form_of facts ty)

abbrev pub AreListed : List TypeDef → List Summary → Type 0
AreListed ds all = all ≡ map (summary_in (facts_in ds)) (types_in ds)

-- ---- which types have no more levels than they may

abbrev pub is_shallow : Facts → Ty → Bool
is_shallow facts ty = nat_le (levels (form_of facts ty)) MOST_LEVELS

-- ---- round by round

-- what isn't listed is as an int
abbrev pub summary_or : Option Summary → Summary
summary_or (Some s) = s
summary_or None = record { unbuilt = false; levels = 1 }

-- the types below a number, with so many declared types inside one another looked through
abbrev pub AreKnown : ℕ → List TypeDef → List Summary → (bound : ℕ) → Type 0
AreKnown n ds known bound = (i : ℕ) → i < bound → summary_or (slice_get known i) ≡ summary_at n ds i

-- what the round before had; there is none before the first
abbrev pub IsLast : (first : Bool) → ℕ → List TypeDef → List Summary → Type 0
IsLast true n ds last = n ≡ 0
IsLast false n ds last = (k : ℕ) × (n ≡ suc k) × AreKnown k ds last (length ds)

-- what a round has of all types
pub record AreNext (first : Bool) (ds : List TypeDef) (last next : List Summary) : Type 0 where
  pub long : length next ≡ length ds
  pub known : (n : ℕ) → IsLast first n ds last → AreKnown n ds next (length ds)
