-- What is lent leads into no temporary: its type has something to do at its end, and temporaries with such a home of their own aren't led into.
use Rattle.std.proofs.Common.{◌≡◌, ℕ, List, Some, Bool, true, false, refl, sym, ◌∙◌}
use Rattle.flat_code.specs.declared.block.BlockLine.{BlockLine}
use Rattle.nim_meaning.specs.Values.{Location}
use Rattle.flat_code.specs.Scene.{Where, Located, Within}
use Rattle.word_lowering.specs.declared.homes.Alias.{Alias}
use Rattle.word_lowering.specs.declared.homes.Alias.TheVariants as alias
use Rattle.word_lowering.proofs.HouseHooks.{hooks_numbers, hooks_type, location_plain}
use Rattle.word_lowering.proofs.Lines.{Basis, IsGood, all_sites, starts}
use Rattle.word_lowering.proofs.Related.{Both}
use Rattle.word_lowering.proofs.Scenes.{IsLedBy, IsNamed, Reaches, house, looked, of_location, of_value}
use Rattle.word_lowering.proofs.ShapeFacts.{never, of_numbers}
use Rattle.word_lowering.proofs.ShapePaths.{path_numbers}
use Rattle.word_lowering.proofs.Sites.{IsBody, Site, Body, IsHoused, looks}
use Rattle.word_lowering.specs.declared.homes.Housed.{Housed}

-- ---- what stands for a location has something to do at its end

module _ (x : Basis) where
  pub lent_shape : {b : Body} (h : Housed) → IsHoused x.table x.blocks b h → h.lent ≡ true → of_numbers (looks x.table h) ≡ false
  lent_shape h housed lent = by (of_numbers (looks x.table h)) refl
    where
      by : (n : Bool) → of_numbers (looks x.table h) ≡ n → n ≡ false
      by true e = never (sym (housed.unlent (sym (hooks_type x h) ∙ hooks_numbers x h e)) ∙ lent)
      by false e = refl

-- what leads into a temporary by another name is made of numbers
module _ (x : Basis) (s : Site) (b : IsBody x.table x.blocks s.body) where
  pub homed_numbers : (t u : ℕ) → IsNamed s (of_location t) → (house s (of_location t)).alias ≡ alias.Value u →
      of_numbers (looked x.table s (of_location t)) ≡ true
  homed_numbers t u named is = b.locations t named (location_plain x s b t u named is)

module _ (x : Basis) (g : Both) (line : BlockLine) (rest : List BlockLine) (y : IsGood x (starts g line rest)) where
  abbrev s : Site
  s = g.call.site

  pub located_here : (t : ℕ) → IsNamed s (of_location t) → of_numbers (looked x.table s (of_location t)) ≡ false → (there : Where)
      → g.call.temps.places t ≡ Some there → (l : Location) × (there ≡ Located l)
  located_here t named blocks_in there e = by (house s (of_location t)).alias refl (y.hold.0.led t there named e)
    where
      own : (other : Where) → there ≡ other → (a : ℕ)
          → Reaches x.table x.blocks (all_sites x g line rest y) g.ground g.world s g.call.temps other a (looked x.table s (of_location t))
          → (l : Location) × (there ≡ Located l)
      own (Located l) is a leads = (l, is)
      own (Within temp path) is a leads =
          never (sym blocks_in ∙ path_numbers (looked x.table s (of_value temp)) path leads.offset (looked x.table s (of_location t))
          (leads.lasting leads.there) leads.leads)

      by : (a : Alias) → (house s (of_location t)).alias ≡ a → IsLedBy x.table x.blocks a (all_sites x g line rest y) g.ground g.world g.call t there
          → (l : Location) × (there ≡ Located l)
      by alias.Own is r = own there refl r.address r.leads
      by (alias.Place p global) is r = (_, r.is)
      by (alias.Value u) is r = never (sym blocks_in ∙ homed_numbers x s y.linked.0 t u named is)
      by (alias.Node m) is r = (_, r.is)
      by (alias.Text m size) is r = absurd r
