-- Where lines lead: a place of a loop may stand for the elements of a value, and then nothing fills it; hooks are called for types that have some; and
-- a location leads into a value that waits where that has hooks.
use Rattle.std.specs.Prelude.{◌≡◌, ℕ, Bool, true, false, not, ◌&&◌, List, [], ◌∷◌, Option, Some, None}
use Rattle.nim_types.specs.Table.{type_at}
use Rattle.nim_meaning.specs.Here.{is_hooked}
use Rattle.flat_code.specs.declared.code.CodeProc.{CodeProc}
use Rattle.flat_code.specs.declared.line.From.{From}
use Rattle.flat_code.specs.declared.line.From.TheVariants as F
use Rattle.flat_code.specs.declared.line.Owning.{Owning}
use Rattle.flat_code.specs.declared.line.Owning.TheVariants as W
use Rattle.flat_code.specs.declared.line.Line.{Line}
use Rattle.flat_code.specs.declared.line.Line.TheVariants as L
use Rattle.flat_code.specs.declared.place.PlaceKind.{PlaceKind}
use Rattle.flat_code.specs.declared.place.PlaceKind.TheVariants as K
use Rattle.flat_code.specs.declared.place.FlatPlace.{FlatPlace}
use Rattle.flat_code.specs.Fits.{is_value, is_own, is_declared, place_named}
use Rattle.flat_code.specs.Scene.{Known}

-- a place that isn't handed in and, where it is a loop's, stands for no other one
abbrev pub fills_kind : PlaceKind → (stands : Bool) → Bool
fills_kind (K.Param mode) stands = false
fills_kind K.ForVar stands = not stands
fills_kind kind stands = true

abbrev pub stands_kind : PlaceKind → Bool
stands_kind K.ForVar = true
stands_kind kind = false

-- the type of a place has hooks
abbrev pub place_hooked : Known → Option FlatPlace → Bool
place_hooked known None = false
place_hooked known (Some p) = is_hooked known.facts (type_at known.types p.ty)

-- among these places, of which those with these numbers stand for others
module _ (known : Known) (places : List FlatPlace) (stands : ℕ → Bool) where
  abbrev pub is_filled : Option FlatPlace → Bool
  is_filled None = false
  is_filled (Some p) = fills_kind p.kind (stands p.number)

  abbrev pub is_stood : Option FlatPlace → Bool
  is_stood None = false
  is_stood (Some p) = stands_kind p.kind && (place_hooked known (Some p) && stands p.number)

  abbrev pub may_fill : ℕ → Bool
  may_fill place = is_filled (place_named is_own places place)

  abbrev pub may_stand : ℕ → Bool
  may_stand place = is_stood (place_named is_declared places place)

  abbrev pub type_hooked : ℕ → Bool
  type_hooked ty = is_hooked known.facts (type_at known.types ty)

  abbrev pub value_hooked : ℕ → Bool
  value_hooked t = place_hooked known (place_named is_value places t)

  abbrev pub owning_leads : Owning → List From → Bool
  owning_leads (W.Waits node) (F.Value t ∷ []) = value_hooked t
  owning_leads (W.TemporaryEnds node ty) from = type_hooked ty
  owning_leads (W.PlaceEnds place ty) from = type_hooked ty
  owning_leads (W.PlaceCopies place ty) from = type_hooked ty && may_fill place
  owning_leads (W.PlaceStands place) from = may_stand place
  owning_leads (W.ResultGets place ty) from = type_hooked ty && may_fill place
  owning_leads what from = true

  abbrev pub leads_right : Line → Bool
  leads_right (L.Fresh to from None) = not (value_hooked from)
  leads_right (L.Fresh to from (Some node)) = value_hooked from
  leads_right (L.Fill place from) = may_fill place
  leads_right (L.Blank place ty) = may_fill place
  leads_right (L.Give place from) = may_fill place
  leads_right (L.Own what from) = owning_leads what from
  leads_right line = true

  abbrev pub all_lead : List Line → Bool
  all_lead [] = true
  all_lead (line ∷ lines) = leads_right line && all_lead lines

-- ---- procedures

pub record LeadsRight (known : Known) (p : CodeProc Line) : Type 0 where
  -- the places that stand for others, by their numbers
  pub stands : ℕ → Bool
  pub all : all_lead known p.places stands p.lines ≡ true

abbrev pub AllLeadRight : Known → List (CodeProc Line) → Type 0
AllLeadRight known [] = Unit {0}
AllLeadRight known (p ∷ procs) = LeadsRight known p × AllLeadRight known procs
