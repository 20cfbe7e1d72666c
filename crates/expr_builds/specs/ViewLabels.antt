-- How labels are kept in code: their ranges of ordinals in order, and their texts. No public contract speaks of it.
use Rattle.std.specs.Prelude.{◌≡◌, ℕ, ◌<◌, ◌≤◌, ℤ, pos, ◌+ℤ◌, Bool, true, false, int_le, int_lt, if◌then◌else◌, List, []}
use Rattle.std.specs.Prelude.{◌∷◌, map, slice_get}
use Rattle.std.specs.Prelude.{Option, Some, None}
use Rattle.nim_program.specs.Program.{Label, Ordinals}
use Rattle.expr_builds.specs.declared.ranges.Range.{Range}
use Rattle.expr_builds.specs.declared.ranges.Span.{Span as RustSpan}
use Rattle.expr_rules.specs.Choices.{Span, clashes}

abbrev pub label_in : Range → Label
label_in r = Ordinals r.low r.high

-- ---- in order, without a number in two of them

abbrev pub AllAbove : ℤ → List Range → Type 0
AllAbove z [] = Unit {0}
AllAbove z (r ∷ rest) = (int_lt z r.low ≡ true) × AllAbove z rest

abbrev pub IsAscending : List Range → Type 0
IsAscending [] = Unit {0}
IsAscending (r ∷ rest) = (int_le r.low r.high ≡ true) × AllAbove r.high rest × IsAscending rest

-- the place of the first that doesn't end below a number
pub record IsPlace (ranges : List Range) (z : ℤ) (i : ℕ) : Type 0 where
  pub before : (j : ℕ) (r : Range) → j < i → slice_get ranges j ≡ Some r → int_lt r.high z ≡ true
  pub behind : (j : ℕ) (r : Range) → i ≤ j → slice_get ranges j ≡ Some r → int_lt r.high z ≡ false

-- whether a range ends before another begins
abbrev pub ends_at : Option Range → Range → Bool
ends_at None n = false
ends_at (Some r) n = int_lt r.high n.low

-- whether a range begins before another has ended
abbrev pub begins_by : Option Range → Range → Bool
begins_by None n = false
begins_by (Some r) n = int_le r.low n.high

-- ---- what they cover

abbrev pub behind : ℤ → Range → ℤ
behind next r = if int_lt r.high next then next else r.high +ℤ pos 1

-- whether they have all numbers from one to another, of those that are in order
abbrev pub all_from : ℤ → ℤ → List Range → Bool
all_from next to [] = int_lt to next
all_from next to (r ∷ rest) = if int_lt next r.low then int_lt to next else all_from (behind next r) to rest

abbrev pub span_in : Option RustSpan → Option Span
span_in None = None
span_in (Some s) = Some (record { from = s.from; to = s.to })

-- the ordinals of labels are those of ranges
abbrev pub SameOrdinals : List Label → List Range → Type 0
SameOrdinals labels ranges = (a b : ℤ) → clashes (Ordinals a b) labels ≡ clashes (Ordinals a b) (map label_in ranges)
