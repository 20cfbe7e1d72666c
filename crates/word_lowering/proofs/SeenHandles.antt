-- What has a handle and is there has all of it; and where locations lead is behind what is made in the data for operands.
use Rattle.std.proofs.Common.{◌≡◌, inl, inr, ℕ, ◌+◌, ◌≤◌, List, None, true, false, refl, sym, ap, subst, ◌∙◌, arith}
use Rattle.std.proofs.lemmas.Bool.{and_parts, and_from}
use Rattle.nim_meaning.specs.Values.{Value, Handle, Fixed, Vacant, Location, Made, is_full}
use Rattle.nim_meaning.specs.State.{World, load, is_full_at, is_seen, is_there, is_whole}
use Rattle.flat_code.specs.Scene.{Where, Located, Within, if_value, location_at}
use Rattle.flat_code.specs.Shapes.{Shape, block, elements}
use Rattle.word_code.specs.Memory.{Memory}
use Rattle.word_lowering.specs.declared.texts.TheConstants.{FIXED_BYTES}
use Rattle.word_lowering.specs.Lowered.{data_at}
use Rattle.word_lowering.proofs.BlockHomes.{FromBlock as InBlocks, read_at}
use Rattle.word_lowering.proofs.BlockRanges.{block_range}
use Rattle.word_lowering.proofs.Blocks.{Blocks, Stored}
use Rattle.word_lowering.proofs.GoodHomes.{HomeOf, homes_apart, good_homes}
use Rattle.word_lowering.proofs.GoodLeads.{owned_to, value_home, waiting_home}
use Rattle.word_lowering.proofs.HandleRows.{IsHandled}
use Rattle.word_lowering.proofs.Keeping.{AmongCalls}
use Rattle.word_lowering.proofs.Lines.{Basis, IsGood}
use Rattle.word_lowering.proofs.LinkedReads.{linked_behind, linked_full}
use Rattle.word_lowering.proofs.Located.{Leading, place_lying, value_lying, waiting_lying}
use Rattle.word_lowering.proofs.Related.{Both, calls_of, sites_of}
use Rattle.word_lowering.proofs.Scenes.{Call, FromConstant, Leads, is_fixed}
use Rattle.word_lowering.proofs.ShapeFacts.{never, of_numbers, shape_bytes}
use Rattle.word_lowering.proofs.ShapePaths.{path_numbers}
use Rattle.word_lowering.proofs.Sites.{AmongSites, data_end}
use Rattle.word_lowering.proofs.SitesApart.{InRange, site_at}
use Rattle.word_lowering.proofs.Sources.{Lying, lying_range}
use Rattle.word_lowering.proofs.TextOperands.{IsText}

module _ (StandsFixed : (place : ℕ) → List ℕ → Type 0) (d : Blocks) (w : World) (m : Memory) (a : ℕ) where
  pub full_handle : (s : Shape) → IsHandled s → (v : Value) → Stored StandsFixed d m a s v → is_whole w v ≡ true → is_full v ≡ true
  full_handle block h (Handle n k) at seen = refl
  full_handle block h (Fixed text) at seen = refl
  full_handle block h Vacant at seen = never seen
  full_handle block h v at seen = absurd at
  full_handle (elements s) h (Handle n k) at seen = refl
  full_handle (elements s) h Vacant at seen = never seen
  full_handle (elements s) h v at seen = absurd at
  full_handle s h v at seen = absurd h

  pub text_handle : (v : Value) → Stored StandsFixed d m a block v → is_whole w v ≡ true → IsText StandsFixed v
  text_handle (Handle n k) at seen = tt
  text_handle (Fixed text) at seen = tt
  text_handle Vacant at seen = never seen
  text_handle v at seen = absurd at

no_numbers : (s : Shape) → IsHandled s → of_numbers s ≡ false
no_numbers block h = refl
no_numbers (elements s) h = refl
no_numbers s h = absurd h

module _ (x : Basis) (g : Both) (y : IsGood x g) where
  no_constant : {A : Type 0} (l : Location) (a : ℕ) (s : Shape) → IsHandled s → FromConstant x.table x.blocks l a s → A
  no_constant l a s h f = never (sym (no_numbers s h) ∙ path_numbers f.shape l.path f.offset s f.numbers f.path)

  -- ---- all of it is there

  leading_full : (l : Location) (a : ℕ) (s : Shape) → IsHandled s → Leading x g y l a s → is_seen g.world l ≡ true → is_full_at g.world l ≡ true
  leading_full l a s h f seen =
      let p = and_parts (is_there g.world l) (is_whole g.world (load g.world l)) seen in
      and_from (is_seen g.world l) (is_full (load g.world l)) seen
      (full_handle (is_fixed g.ground) g.ground.blocks g.world g.memory a s h (load g.world l)
      (read_at (is_fixed g.ground) (HomeOf x g) (homes_apart x g y) g.ground.blocks g.world g.memory (good_homes x g y) l a s f p.0) p.1)

  pub led_full : (c : Call) → AmongCalls c (calls_of g) → (there : Where) (a : ℕ) (s : Shape) → IsHandled s
      → is_seen g.world (location_at c.temps there) ≡ true → Leads x.table x.blocks (sites_of g) g.ground g.world c.site c.temps there a s
      → is_full_at g.world (location_at c.temps there) ≡ true
  led_full c i (Located location) a s h seen (inl l) = leading_full location a s h (owned_to x g y location a s (inl l)) seen
  led_full c i (Located location) a s h seen (inr (inl (inl l))) = no_constant location a s h l
  led_full c i (Located location) a s h seen (inr (inl (inr l))) =
      and_from (is_seen g.world location) (is_full (load g.world location)) seen (linked_full x g y location a s l)
  led_full c i (Located location) a s h seen (inr (inr (inl l))) = leading_full location a s h (owned_to x g y location a s (inr (inl l))) seen
  led_full c i (Located location) a s h seen (inr (inr (inr l))) =
      let p = and_parts (is_there g.world location) (is_whole g.world (load g.world location)) seen in
      leading_full location a s h (inl (waiting_home x g y location a s l p.1)) seen
  led_full c i (Within temp path) a s h seen l =
      let at : Location = record { base = Made l.value; path = path; through = None } in
      subst (λ o. is_full_at g.world (record { base = Made (if_value o); path = path; through = None }) ≡ true) (sym l.has)
      (leading_full at a s h (inl (value_home x g y c i temp path a s l))
      (subst (λ o. is_seen g.world (record { base = Made (if_value o); path = path; through = None }) ≡ true) l.has seen))

  -- ---- behind what is made for operands

  lying_behind : (a n : ℕ) → Lying x (sites_of g) y.linked a n → data_at + FIXED_BYTES ≤ a
  lying_behind a n l = by (lying_range x (sites_of g) y.linked a n l)
    where
      by : InRange x.table x.blocks l.site a n → data_at + FIXED_BYTES ≤ a
      by (inl r) = r.1
      by (inr r) =
          let s = site_at x.table x.blocks (sites_of g) l.site y.linked l.among in
          let least = s.least in omega (arith, r.0, least)

  pub led_behind : FIXED_BYTES ≤ data_end x.table x.blocks → (c : Call) → AmongCalls c (calls_of g) → AmongSites c.site (sites_of g)
      → (there : Where) (a : ℕ) (s : Shape) → IsHandled s → is_there g.world (location_at c.temps there) ≡ true → Leads x.table x.blocks (sites_of g)
      g.ground g.world c.site c.temps there a s
      → data_at + FIXED_BYTES ≤ a
  led_behind least c i among (Located location) a s h live (inl l) = lying_behind a (shape_bytes s) (place_lying x g y location a s l)
  led_behind least c i among (Located location) a s h live (inr (inl (inl l))) = no_constant location a s h l
  led_behind least c i among (Located location) a s h live (inr (inl (inr l))) = linked_behind x g y location a s l least
  led_behind least c i among (Located location) a s h live (inr (inr (inl l))) =
      let at : InBlocks (is_fixed g.ground) (HomeOf x g) (homes_apart x g y) g.ground.blocks location a s
      = record { block = l.block; base = l.base; leads = l.leads } in
      let range = block_range (is_fixed g.ground) (HomeOf x g) (homes_apart x g y) g.ground.blocks g.world g.memory (good_homes x g y) location a s at live in
      omega (arith, range.0)
  led_behind least c i among (Located location) a s h live (inr (inr (inr l))) = lying_behind a (shape_bytes s) (waiting_lying x g y location a s l)
  led_behind least c i among (Within temp path) a s h live l = lying_behind a (shape_bytes s) (value_lying x g y c among temp path a s l)
