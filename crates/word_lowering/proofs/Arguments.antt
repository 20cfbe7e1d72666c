-- What a call got for its parameters stays, where another parameter gets something: each has a place of its own.
use Rattle.std.proofs.Common.{◌≡◌, ◌≢◌, inl, inr, ℕ, ◌+◌, List, [], ◌∷◌, Some, Bool, true, false, refl, sym, ap, subst, ◌∙◌, arith}
use Rattle.flat_code.specs.declared.code.Code.{Code}
use Rattle.flat_code.specs.declared.block.BlockLine.{BlockLine}
use Rattle.std.specs.Prelude.{if◌then◌else◌}
use Rattle.nim_types.specs.declared.types.TypeDef.{TypeDef}
use Rattle.nim_meaning.specs.State.{World}
use Rattle.nim_meaning.specs.Values.{Value, Slot, Holds, Stands, Lends}
use Rattle.word_code.specs.Memory.{Memory}
use Rattle.word_code.specs.Words.{Vars, put}
use Rattle.word_code.proofs.ForCallers.{Changed}
use Rattle.word_lowering.specs.declared.homes.Alias.TheVariants.{Own}
use Rattle.word_lowering.specs.declared.homes.Home.{Home}
use Rattle.word_lowering.specs.declared.homes.Home.TheVariants.{Variable, Placed, Static}
use Rattle.word_lowering.specs.declared.homes.Housed.{Housed}
use Rattle.word_lowering.specs.Layouts.{params_in, is_param}
use Rattle.word_lowering.proofs.FirstPlaces.{GivenAt, GaveSlot}
use Rattle.word_lowering.proofs.HomesApart.{Apart, Each, Parted, AllApart}
use Rattle.word_lowering.proofs.OrdinalRuns.{put_other}
use Rattle.word_lowering.proofs.Scenes.{Ground, is_fixed}
use Rattle.word_lowering.proofs.Sites.{Among, Site, looks}
use Rattle.flat_code.specs.Shapes.{Shape}
use Rattle.word_lowering.proofs.Blocks.{Stored}
use Rattle.word_lowering.proofs.BlocksBorn.{later_same}
use Rattle.word_lowering.proofs.ShapeFacts.{shape_bytes}
use Rattle.word_lowering.proofs.StoredLater.{stored_small}

-- ---- parameters don't overlap

each_param : (P : Housed → Type 0) (hs : List Housed) → Each P hs → Each P (params_in hs)
each_param P [] e = tt
each_param P (h ∷ hs) e = by (is_param h.kind) (each_param P hs e.1)
  where
    by : (b : Bool) → Each P (params_in hs) → Each P (if b then h ∷ params_in hs else params_in hs)
    by true r = (e.0, r)
    by false r = r

pub params_apart : (hs : List Housed) → AllApart hs → AllApart (params_in hs)
params_apart [] a = tt
params_apart (h ∷ hs) a = by (is_param h.kind) (each_param (Parted h) hs a.0) (params_apart hs a.1)
  where
    by : (b : Bool) → Each (Parted h) (params_in hs) → AllApart (params_in hs) → AllApart (if b then h ∷ params_in hs else params_in hs)
    by true e r = (e, r)
    by false e r = r

-- all have homes of their own
abbrev pub AllOwn : List Housed → Type 0
AllOwn [] = Unit {0}
AllOwn (h ∷ hs) = (h.alias ≡ Own) × AllOwn hs

pub all_own : (hs : List Housed) → ((h : Housed) → Among h hs → h.alias ≡ Own) → AllOwn hs
all_own [] f = tt
all_own (h ∷ hs) f = (f h (inl refl), all_own hs (λ k i. f k (inr i)))

-- a place doesn't overlap with any of these
abbrev pub Beyond : Housed → List Housed → Type 0
Beyond d hs = Each (λ h. Apart d.home d.bytes h.home h.bytes) hs

pub beyond_all : (d : Housed) (hs : List Housed) → d.alias ≡ Own → AllOwn hs → Each (Parted d) hs → Beyond d hs
beyond_all d [] own owns e = tt
beyond_all d (h ∷ hs) own owns e = (e.0 own owns.0, beyond_all d hs own owns.1 e.1)

module _ (table : List TypeDef) (sites : List Site) (ground : Ground) (w : World) (base : ℕ) where
  -- a parameter gets a word, or bytes
  pub data Gives (m m' : Memory) (words words' : Vars) (h : Housed) : Type 0 where
    to_variable : (v n : ℕ) → h.home ≡ Variable v → m ≡ m' → words' ≡ put words v n → Gives m m' words words' h
    to_place : (at n : ℕ) → h.home ≡ Placed at → n ≡ h.bytes → Changed m m' (base + at) n → words ≡ words' → Gives m m' words words' h

  module _ (blocks : Code BlockLine) (m m' : Memory) (words words' : Vars) where
    abbrev Was : Shape → Home → Value → Type 0
    Was = GivenAt table blocks m sites ground w words base

    abbrev Is : Shape → Home → Value → Type 0
    Is = GivenAt table blocks m' sites ground w words' base

    -- what was given to another one stays
    given_stays : (h d : Housed) → Gives m m' words words' h → Apart d.home d.bytes h.home h.bytes → (s : Shape) (x : Value) → shape_bytes s ≡ d.bytes
        → Was s d.home x → Is s d.home x
    given_stays h d (to_variable v n home same is) apart s x size given = by d.home (subst (λ k. Apart d.home d.bytes k h.bytes) home apart) given
      where
        by : (k : Home) → Apart k d.bytes (Variable v) h.bytes → Was s k x → Is s k x
        by (Variable u) ne e = ap (λ f. f u) is ∙ put_other words v n u ne ∙ e
        by (Placed at) tt' e = subst (λ z. Stored (is_fixed ground) ground.blocks z (base + at) s x) same e
        by (Static at) tt' e = e
    given_stays h d (to_place at n home long ch same) apart s x size given = by d.home (subst (λ k. Apart d.home d.bytes k h.bytes) home apart) given
      where
        by : (k : Home) → Apart k d.bytes (Placed at) h.bytes → Was s k x → Is s k x
        by (Variable u) tt' e = ap (λ f. f u) (sym same) ∙ e
        by (Placed b) le e =
            stored_small (is_fixed ground) ground.blocks ground.blocks (later_same ground.blocks) m m' (base + b) (base + b) s x
            (λ o v inner is small read. ch.outside (base + b + o) (inl (omega (arith, le, size, inner))) ∙ read) e
        by (Static b) tt' e = e

    address_stays : (h d : Housed) → Gives m m' words words' h → Apart d.home d.bytes h.home h.bytes → (v a : ℕ) → d.home ≡ Variable v → words v ≡ Some a
        → words' v ≡ Some a
    address_stays h d (to_variable u n home same is) apart v a e given =
        let ne : v ≢ u = subst (λ k. Apart k d.bytes (Variable u) h.bytes) e (subst (λ k. Apart d.home d.bytes k h.bytes) home apart) in
        ap (λ f. f v) is ∙ put_other words u n v ne ∙ given
    address_stays h d (to_place at n home long ch same) apart v a e given = ap (λ f. f v) (sym same) ∙ given

    pub slot_stays : (h d : Housed) → Gives m m' words words' h → Apart d.home d.bytes h.home h.bytes → (slot : Slot)
        → GaveSlot table blocks m sites ground w words base slot d → GaveSlot table blocks m' sites ground w words' base slot d
    slot_stays h d g apart (Holds x) s = record {
      plain = s.plain;
      shaped = s.shaped;
      size = s.size;
      given = given_stays h d g apart (looks table d) x s.size s.given;
    }
    slot_stays h d g apart (Stands location) s = record {
      by_address = s.by_address;
      variable = s.variable;
      home = s.home;
      address = s.address;
      given = address_stays h d g apart s.variable s.address s.home s.given;
      stood = s.stood;
      leads = s.leads;
    }
    slot_stays h d g apart (Lends x from seen) s = absurd s

    -- what was given to others than these stays
    abbrev pub Stays : List Housed → Type 0
    Stays hs = (slot : Slot) (d : Housed) → Beyond d hs → GaveSlot table blocks m sites ground w words base slot d →
        GaveSlot table blocks m' sites ground w words' base slot d
