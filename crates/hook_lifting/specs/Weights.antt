-- How long a hook takes: what its lines weigh, each a line of word code or a few, and what the deeds that they do work besides.
use Rattle.std.specs.Prelude.{ℕ, zero, suc, ◌+◌, ◌-◌, ◌*◌, ◌≤◌, Bool, true, false, ◌&&◌, List, [], ◌∷◌}
use Rattle.arc_base.specs.Event.{Event}
use Rattle.arc_base.specs.Stepping.{Next, Goes, Ends as Is_over, Faults, Errs as Failed}
use Rattle.nim_types.specs.Forms.{Form, plain, reference, block, elements, row, parts, resource, wrapped, Forms, no_forms, forms}
use Rattle.nim_types.specs.declared.types.TypeDef.{TypeDef}
use Rattle.nim_types.specs.declared.types.TypeDef.TheVariants as D
use Rattle.nim_meaning.specs.Deeds.{Done, Answers, Finishes, Fails}
use Rattle.flat_code.specs.declared.line.Line.{Line}
use Rattle.flat_code.specs.declared.line.Line.TheVariants as L
use Rattle.flat_code.specs.Scene.{Known}
use Rattle.flat_code.specs.Running.{Machine}
use Rattle.hook_lifting.specs.declared.lifted.LiftedLine.{LiftedLine}
use Rattle.hook_lifting.specs.declared.lifted.LiftedLine.TheVariants as O
use Rattle.hook_lifting.specs.Lifting.{lines_step}

abbrev pub plain_weight : Line → ℕ
plain_weight (L.CountTurn counter last inclusive to) = 2
plain_weight line = 1

-- of those that call a routine of the heap, with what it takes beside the bytes
abbrev pub weight : LiftedLine → ℕ
weight (O.Plain line) = plain_weight line
weight (O.Hook hook ty to from) = 4
weight (O.Load to at) = 3
weight (O.Count to of) = 1
weight (O.Number to n) = 1
weight (O.Element to of at index) = 3
weight (O.Member to at index count) = 3
weight (O.Take ty to at of) = 240
weight (O.GiveBack ty at of) = 40
weight (O.Trade to from) = 12
weight (O.Begin ty to) = 1
weight (O.Push to of) = 4
weight (O.Pop to at) = 3
weight (O.Exchange to at of) = 6
weight (O.Copy to of) = 1
weight (O.Shorten at of count) = 3
weight (O.Forget of count) = 1

-- What a line's deed weighs for each of its works: another hook a pace, and a routine 4.
abbrev pub pace_of : (pace : ℕ) → LiftedLine → ℕ
pace_of pace (O.Hook hook ty to from) = pace
pace_of pace line = 4

-- a line whose work is so much, of which its own is one
abbrev pub priced : (pace : ℕ) → LiftedLine → (work : ℕ) → ℕ
priced pace line n = weight line + pace_of pace line * (n - 1)

abbrev pub first_priced : (pace : ℕ) → List LiftedLine → (work : ℕ) → ℕ
first_priced pace [] n = 0
first_priced pace (line ∷ k) n = priced pace line n

abbrev pub price_by : (pace : ℕ) → List LiftedLine → Next Event (Machine LiftedLine) → (Machine LiftedLine → ℕ) → ℕ
price_by pace k (Goes es n next) go = first_priced pace k n + go next
price_by pace k (Is_over es n status live) go = first_priced pace k n
price_by pace k Faults go = 0
price_by pace k Failed go = 0

-- of so many lines at most
abbrev pub price : Known → (pace : ℕ) → (lines : ℕ) → Machine LiftedLine → ℕ
price known pace zero m = 0
price known pace (suc n) m = price_by pace m.now.rest (lines_step known m) (price known pace n)

-- At the least pace of what a hook calls the weights of lines that call a routine of the heap are paid by the works of their walks.
abbrev pub least_pace : ℕ
least_pace = 32

-- What a hook weighs more than the hooks that it calls for each of its works: what a text or a sequence has pays for its own lines.
abbrev pub extra_of : TypeDef → ℕ
extra_of D.Text = 0
extra_of (D.Seq of) = 0
extra_of d = 2

-- it weighs so much for each work at most, and so much more
abbrev pub Weighs : (pace more : ℕ) → Done (Unit {0}) → (price : ℕ) → Type 0
Weighs pace more (Answers es n x world) p = p ≤ pace * n + more
Weighs pace more (Finishes es n status world) p = p ≤ pace * n + more
Weighs pace more (Fails es n world) p = Unit {0}

-- There are neither refs nor objects with hooks of their own in it: what is done with one of these has no work yet.
abbrev mutual
  pub is_built : Form → Bool
  is_built plain = true
  is_built reference = false
  is_built block = true
  is_built (elements f) = is_built f
  is_built (row n f) = is_built f
  is_built (parts fs) = all_built fs
  is_built (resource fs) = false
  is_built (wrapped f) = is_built f

  pub all_built : Forms → Bool
  all_built no_forms = true
  all_built (forms f fs) = is_built f && all_built fs
