-- The first places of a procedure that may be called, its parameters and then its result, and what a call gives of them.
use Rattle.std.proofs.Common.{◌≡◌, ℕ, zero, suc, ◌+◌, ◌<◌, ◌≤◌, List, [], ◌∷◌, length, Option, Some, None, true, false, inl, inr, Ok, arith}
use Rattle.flat_code.specs.declared.code.Code.{Code}
use Rattle.flat_code.specs.declared.block.BlockLine.{BlockLine}
use Rattle.std.proofs.Common.{refl, sym, ap, subst}
use Rattle.std.specs.Prelude.{slice_get}
use Rattle.nim_types.specs.declared.types.TypeDef.{TypeDef}
use Rattle.nim_types.specs.Types.{Ty}
use Rattle.nim_types.specs.Table.{type_at, types_in, facts_in}
use Rattle.nim_meaning.specs.Values.{Value, number_of, Location, Slot, Holds, Stands, Lends, default_of}
use Rattle.nim_meaning.specs.State.{World}
use Rattle.flat_code.specs.Scene.{known_in}
use Rattle.flat_code.specs.Shapes.{Shape, has_shape, shape_of}
use Rattle.flat_code.specs.Fits.{Taken, Signature, is_declared}
use Rattle.flat_code.specs.Codes.{proc_of}
use Rattle.word_code.specs.Memory.{Memory, number_at}
use Rattle.word_code.specs.Words.{Vars}
use Rattle.word_lowering.specs.declared.homes.TheConstants.{OWN_FROM}
use Rattle.word_lowering.specs.declared.homes.Home.{Home}
use Rattle.word_lowering.specs.declared.homes.Home.TheVariants.{Variable, Placed, Static}
use Rattle.word_lowering.specs.declared.homes.Housed.{Housed}
use Rattle.word_lowering.specs.Layouts.{found, params_in, result_in, holds_address, kept_in, owns}
use Rattle.word_lowering.specs.Operations.{word}
use Rattle.word_lowering.proofs.Sites.{Body, type_of, looks, There, Site, Among}
use Rattle.word_lowering.proofs.Scenes.{ReachesHere, IsStood, Ground, is_fixed}
use Rattle.word_code.specs.declared.word.TheConstants.{SPARE_ROOM}
use Rattle.rv32_isa.specs.declared.micro_op.Size.TheVariants.{Word}
use Rattle.word_lowering.proofs.ShapeFacts.{shape_bytes}
use Rattle.word_lowering.proofs.Blocks.{Stored}
use Rattle.word_lowering.proofs.BlocksBorn.{later_same}
use Rattle.word_lowering.proofs.StoredLater.{stored_small}

module _ (table : List TypeDef) where
  -- parameters as a signature has them: one that holds an address and isn't written is lent
  abbrev pub IsParam : Housed → Taken → Type 0
  IsParam h p = (p.by_location ≡ holds_address h) × (p.written ≡ false → holds_address h ≡ true → h.lent ≡ true) × (p.of ≡ type_of table h)

  abbrev pub ParamsAre : List Housed → List Taken → Type 0
  ParamsAre [] [] = Unit {0}
  ParamsAre [] (p ∷ ps) = ⊥
  ParamsAre (h ∷ hs) [] = ⊥
  ParamsAre (h ∷ hs) (p ∷ ps) = IsParam h p × ParamsAre hs ps

  -- the declared place with a number, whose variable gets what the caller hands on
  pub record IsFirst (all : List Housed) (limit n : ℕ) (h : Housed) : Type 0 where
    pub same : found is_declared n all ≡ h
    pub there : There all is_declared n
    pub below : (v : ℕ) → h.home ≡ Variable v → v < limit

  -- numbers one after another
  abbrev pub AreFirst : (all : List Housed) → (limit n : ℕ) → List Housed → Type 0
  AreFirst all limit n [] = Unit {0}
  AreFirst all limit n (h ∷ hs) = IsFirst all limit n h × AreFirst all limit (suc n) hs

  -- the result, whose slot starts at the default of its type
  pub record FirstResult (all : List Housed) (n : ℕ) (r : Housed) (result : List Slot) : Type 0 where
    pub same : found is_declared n all ≡ r
    pub there : There all is_declared n
    pub own : owns r ≡ true
    pub look : looks table r ≡ shape_of (facts_in table) (type_at (types_in table) r.ty)
    pub slots : result ≡ Holds (default_of (facts_in table) (type_at (types_in table) r.ty)) ∷ []

  abbrev pub ResultFirst : (all : List Housed) → (n : ℕ) → Option Housed → List Slot → Type 0
  ResultFirst all n None slots = slots ≡ []
  ResultFirst all n (Some r) slots = FirstResult all n r slots

  -- what a procedure gives is its result
  pub record Gives (all : List Housed) (ty : Ty) : Type 0 where
    pub result : Housed
    pub is : result_in all ≡ Some result
    pub typed : type_of table result ≡ ty

  abbrev pub slots_of : Body → List Slot
  slots_of b = (proc_of (known_in table) b.proc).result

  pub record Orderly (b : Body) (s : Signature) : Type 0 where
    pub params : AreFirst b.own.all (OWN_FROM + kept_in (params_in b.own.all)) b.proc.first (params_in b.own.all)
    pub result : ResultFirst b.own.all (b.proc.first + length (params_in b.own.all)) (result_in b.own.all) (slots_of b)
    pub few : length (params_in b.own.all) + length (slots_of b) ≤ b.proc.span
    pub gives : (ty : Ty) → s.gives ≡ Some ty → Gives b.own.all ty

  -- ---- arguments that were given for a call whose places begin at an address

  module _ (blocks : Code BlockLine) (m : Memory) (sites : List Site) (ground : Ground) (w : World) (words : Vars) (base : ℕ) where
    abbrev pub GivenAt : Shape → Home → Value → Type 0
    GivenAt s (Variable v) x = words v ≡ Some (word (number_of x))
    GivenAt s (Placed at) x = Stored (is_fixed ground) ground.blocks m (base + at) s x
    GivenAt s (Static at) x = ⊥

    pub record GaveValue (h : Housed) (x : Value) : Type 0 where
      pub plain : holds_address h ≡ false
      pub shaped : has_shape x (looks table h) ≡ true
      pub size : shape_bytes (looks table h) ≡ h.bytes
      pub given : GivenAt (looks table h) h.home x

    pub record GaveLocation (h : Housed) (location : Location) : Type 0 where
      pub by_address : holds_address h ≡ true
      pub variable : ℕ
      pub home : h.home ≡ Variable variable
      pub address : ℕ
      pub given : words variable ≡ Some address
      pub stood : IsStood location.base
      pub leads : ReachesHere table blocks sites ground w location address (looks table h)

    abbrev pub GaveSlot : Slot → Housed → Type 0
    GaveSlot (Holds x) h = GaveValue h x
    GaveSlot (Stands location) h = GaveLocation h location
    GaveSlot (Lends x from seen) h = ⊥

    abbrev pub Gave : List Slot → List Housed → Type 0
    Gave [] [] = Unit {0}
    Gave [] (h ∷ hs) = ⊥
    Gave (slot ∷ slots) [] = ⊥
    Gave (slot ∷ slots) (h ∷ hs) = GaveSlot slot h × Gave slots hs

    -- so many arguments as parameters
    pub given_long : (slots : List Slot) (hs : List Housed) → Gave slots hs → length slots ≡ length hs
    given_long [] [] g = refl
    given_long [] (h ∷ hs) g = absurd g
    given_long (s ∷ slots) [] g = absurd g
    given_long (s ∷ slots) (h ∷ hs) g = ap suc (given_long slots hs g.1)

    module _ (all : List Housed) (limit : ℕ) where
      -- the argument of the parameter with a number
      pub record GivenHere (slots : List Slot) (n i : ℕ) : Type 0 where
        pub slot : Slot
        pub is : slice_get slots i ≡ Some slot
        pub first : IsFirst all limit n (found is_declared n all)
        pub gave : GaveSlot slot (found is_declared n all)

      pub given_here : (slots : List Slot) (hs : List Housed) (n i k : ℕ) → Gave slots hs → AreFirst all limit n hs → i < length slots → k ≡ n + i
          → GivenHere slots k i
      given_here [] hs n i k g f less e = absurd (omega (arith, less))
      given_here (s ∷ slots) [] n i k g f less e = absurd g
      given_here (s ∷ slots) (d ∷ hs) n zero k g f less e =
          let same : n ≡ k = omega (arith, e) in
          subst (λ j. GivenHere (s ∷ slots) j zero) same (record {
            slot = s;
            is = refl;
            first = subst (λ z. IsFirst all limit n z) (sym f.0.same) f.0;
            gave = subst (λ z. GaveSlot s z) (sym f.0.same) g.0;
          })
      given_here (s ∷ slots) (d ∷ hs) n (suc i) k g f less e =
          let r = given_here slots hs (suc n) i k g.1 f.1 (omega (arith, less)) (omega (arith, e)) in
          record { slot = r.slot; is = r.is; first = r.first; gave = r.gave }

  -- ---- the same in memory in which words up to those for arguments are as they were

  module _ (blocks : Code BlockLine) (m m' : Memory) (sites : List Site) (ground : Ground) (w : World) (words : Vars) (base : ℕ)
      (still : (a n : ℕ) → a + 4 ≤ base + SPARE_ROOM → number_at m a Word ≡ Ok n → number_at m' a Word ≡ Ok n) where
    given_still : (s : Shape) (home : Home) (x : Value) → ((at : ℕ) → home ≡ Placed at → at + shape_bytes s ≤ SPARE_ROOM)
        → GivenAt blocks m sites ground w words base s home x → GivenAt blocks m' sites ground w words base s home x
    given_still s (Variable v) x within given = given
    given_still s (Placed at) x within given =
        let l = within at refl in
        stored_small (is_fixed ground) ground.blocks ground.blocks (later_same ground.blocks) m m' (base + at) (base + at) s x
        (λ o n inner is small read. still (base + at + o) n (omega (arith, l, inner)) read) given
    given_still s (Static at) x within given = absurd given

    slot_still : (slot : Slot) (h : Housed) → ((at : ℕ) → h.home ≡ Placed at → at + h.bytes ≤ SPARE_ROOM) → GaveSlot blocks m sites ground w words base slot h
        → GaveSlot blocks m' sites ground w words base slot h
    slot_still (Holds x) h within g = record {
      plain = g.plain;
      shaped = g.shaped;
      size = g.size;
      given = given_still (looks table h) h.home x (λ at e. let l = within at e in let s = g.size in omega (arith, l, s)) g.given;
    }
    slot_still (Stands location) h within g = record {
      by_address = g.by_address;
      variable = g.variable;
      home = g.home;
      address = g.address;
      given = g.given;
      stood = g.stood;
      leads = g.leads;
    }
    slot_still (Lends x from seen) h within g = absurd g

    pub gave_still : (slots : List Slot) (hs : List Housed) → ((h : Housed) (at : ℕ) → Among h hs → h.home ≡ Placed at → at + h.bytes ≤ SPARE_ROOM)
        → Gave blocks m sites ground w words base slots hs → Gave blocks m' sites ground w words base slots hs
    gave_still [] [] within g = tt
    gave_still [] (h ∷ hs) within g = absurd g
    gave_still (slot ∷ slots) [] within g = absurd g
    gave_still (slot ∷ slots) (h ∷ hs) within g = (
      slot_still slot h (λ at e. within h at (inl refl) e) g.0,
      gave_still slots hs (λ k at i e. within k at (inr i) e) g.1,
    )
