-- What hooks need of what is around them: how the meaning's world and the memory of word code belong together, and what that is like under changes of
-- handles and of the values under way.
use Rattle.std.specs.Prelude.{Bool, ◌≡◌, ◌<◌, ◌≤◌, ℕ, ◌+◌, ◌%◌, ◌^◌, true, false, List, [], ◌∷◌, ◌++◌, length, Option, Some, Ok, slice_get}
use Rattle.nim_types.specs.declared.types.TypeDef.{TypeDef}
use Rattle.nim_types.specs.declared.types.TypeDef.TheVariants as D
use Rattle.nim_types.specs.declared.types.TheConstants.{LIST_BYTES}
use Rattle.nim_meaning.specs.Values.{Value, Parts, Vacant, Handle, InHand, Made, Location, at_base, deeper, item_of, length_of, block_of, part, vacant}
use Rattle.nim_meaning.specs.State.{World, load, store, pushed, popped, is_there}
use Rattle.flat_code.specs.Scene.{known_in}
use Rattle.flat_code.specs.Lines.{form_in}
use Rattle.rv32_isa.specs.declared.micro_op.Size.TheVariants.{Word}
use Rattle.word_code.specs.declared.word.WordOperation.TheVariants.{Add, Multiply}
use Rattle.word_code.specs.Memory.{Memory, number_at, may_put, with_number, with_places, without_places}
use Rattle.word_code.specs.Words.{computed}
use Rattle.hook_code.specs.HookCode.{bytes_at, part_at}

-- of each value under way, the first one first: the address of its place, and its type
abbrev pub Hand : Type 0
Hand = List (ℕ × ℕ)

abbrev pub with_one : Hand → (address ty : ℕ) → Hand
with_one hand a ty = hand ++ (a, ty) ∷ []

-- ---- handles

-- what stands there is a handle
abbrev pub IsHandled : Option TypeDef → Type 0
IsHandled (Some D.Text) = Unit {0}
IsHandled (Some (D.Seq of)) = Unit {0}
IsHandled d = ⊥

-- it is a distinct type of a base
abbrev pub IsDistinct : Option TypeDef → (base : ℕ) → Type 0
IsDistinct (Some (D.Distinct name at of)) base = of ≡ base
IsDistinct d base = ⊥

-- the parts of a tuple, or of an object without hooks of its own
abbrev pub plain_parts : Option TypeDef → List ℕ
plain_parts (Some (D.Tuple names tys)) = tys
plain_parts (Some (D.Object name at arguments fields false tys)) = tys
plain_parts d = []

-- something stands there
abbrev pub IsFull : Value → Type 0
IsFull Vacant = ⊥
IsFull v = Unit {0}

-- what has its elements beside one another is part of a value that nobody owns, which nothing changes
abbrev pub Stays : Location → Value → Type 0
Stays l (Parts all) = (root : Value) × (l.base ≡ Made root) × (part root l.path ≡ Parts all)
Stays l v = Unit {0}

abbrev pub StaysIf : (own : Bool) → Location → Value → Type 0
StaysIf true l v = Unit {0}
StaysIf false l v = Stays l v

-- the word behind the one at an address
abbrev pub behind : (address : ℕ) → ℕ
behind a = (a + 4) % 2 ^ 32

-- with a handle of a length and a place at an address
abbrev pub with_handle : Memory → (address length place : ℕ) → Memory
with_handle m a n p = with_number (with_number m a Word n) (behind a) Word p

-- the address of an element of so many bytes, from the address of the first one on
abbrev pub element_address : (start index bytes : ℕ) → ℕ
element_address a i n = computed Add a (computed Multiply i (n % 2 ^ 32) % 2 ^ 32) % 2 ^ 32

-- two words are at an address
pub record IsRead (Are : (length place : ℕ) → Type 0) (m : Memory) (a : ℕ) : Type 0 where
  pub length : ℕ
  pub place : ℕ
  pub first : number_at m a Word ≡ Ok length
  pub second : number_at m (behind a) Word ≡ Ok place
  pub are : Are (length % 2 ^ 32) (place % 2 ^ 32)

-- two words may be put to an address
pub record IsPut (Then : Memory → Type 0) (m : Memory) (a n p : ℕ) : Type 0 where
  pub first : may_put m a Word ≡ true
  pub second : may_put (with_number m a Word n) (behind a) Word ≡ true
  pub then : Then (with_handle m a n p)

module _ (table : List TypeDef) where
  pub record Surroundings : Type 1 where
    -- what is known of blocks, and that more is known of them later
    pub Blocks : Type 0
    pub Later : Blocks → Blocks → Type 0
    pub same : (d : Blocks) → Later d d
    pub still_later : (c d e : Blocks) → Later c d → Later d e → Later c e
    -- so many values are under way before
    pub before : ℕ
    -- the places of hooks end before this address
    pub limit : ℕ
    pub limit_small : limit < 2 ^ 32
    -- World and memory belong together. Free places begin at an address, and end at another one with those of the running call.
    pub Here : (low top : ℕ) → Hand → Blocks → World → Memory → Type 0
    -- A location has an address, where a value of a type stands; a value may be put there if it is its own, and not one that something else has.
    pub Leads : (own : Bool) → Hand → Blocks → Location → (address ty : ℕ) → Type 0
    -- two words are the handle of a text or a sequence: of one that a place may have as its own, or of any, also of one that nobody owns
    pub IsHandle : (own : Bool) → Blocks → (ty : ℕ) → Value → (length place : ℕ) → Type 0
    -- ---- later

    pub leads_later : (o : Bool) (h : Hand) (d e : Blocks) (l : Location) (a ty : ℕ) → Later d e → Leads o h d l a ty → Leads o h e l a ty
    pub leads_read : (h : Hand) (d : Blocks) (l : Location) (a ty : ℕ) → Leads true h d l a ty → Leads false h d l a ty
    pub leads_more : (o : Bool) (h : Hand) (d : Blocks) (l : Location) (a ty b other : ℕ) → Leads o h d l a ty → Leads o (with_one h b other) d l a ty
    pub handle_later : (o : Bool) (d e : Blocks) (v : Value) (ty n p : ℕ) → Later d e → IsHandle o d ty v n p → IsHandle o e ty v n p
    -- addresses and handles are words
    pub leads_small : (o : Bool) (h : Hand) (d : Blocks) (l : Location) (a ty : ℕ) → Leads o h d l a ty → a < 2 ^ 32
    pub handle_small : (o : Bool) (d : Blocks) (v : Value) (ty n p : ℕ) → IsHandle o d ty v n p → (n < 2 ^ 32) × (p < 2 ^ 32)
    -- ---- parts

    pub to_part : (o : Bool) (h : Hand) (d : Blocks) (l : Location) (a ty i of : ℕ) → slice_get (plain_parts (slice_get table ty)) i ≡ Some of
        → Leads o h d l a ty → Leads o h d (deeper l i) ((a + part_at table ty i) % 2 ^ 32) of
    pub to_member : (o : Bool) (h : Hand) (d : Blocks) (l : Location) (a ty n i of : ℕ) → slice_get table ty ≡ Some (D.Array n of) → i < n
        → Leads o h d l a ty → Leads o h d (deeper l i) (element_address a i (bytes_at table of)) of
    pub to_element : (o : Bool) (h : Hand) (d : Blocks) (l : Location) (v : Value) (a ty n p i of : ℕ) → slice_get table ty ≡ Some (D.Seq of) → IsFull v
        → IsHandle o d ty v n p → StaysIf o l v → i < length_of v → Leads o h d l a ty
        → Leads o h d (item_of v l i) (element_address p i (bytes_at table of)) of
    pub to_base : (o : Bool) (h : Hand) (d : Blocks) (l : Location) (a ty base : ℕ) → IsDistinct (slice_get table ty) base → Leads o h d l a ty →
        Leads o h d l a base
    -- ---- handles

    pub length_is : (o : Bool) (d : Blocks) (v : Value) (ty n p : ℕ) → IsFull v → IsHandle o d ty v n p → length_of v ≡ n
    pub shortened : (d : Blocks) (v : Value) (ty of n p k : ℕ) → slice_get table ty ≡ Some (D.Seq of) → IsFull v → IsHandle true d ty v n p
        → k ≤ length_of v → IsHandle true d ty (Handle k (block_of v)) k p
    pub reads : (o : Bool) (low top : ℕ) (h : Hand) (d : Blocks) (w : World) (m : Memory) (l : Location) (a ty : ℕ) → Here low top h d w m → Leads o h d l a ty
        → IsHandled (slice_get table ty) → is_there w l ≡ true → IsRead (λ n p. IsHandle o d ty (load w l) n p) m a
    pub stays : (low top : ℕ) (h : Hand) (d : Blocks) (w : World) (m : Memory) (l : Location) (a ty : ℕ) → Here low top h d w m → Leads false h d l a ty
        → IsHandled (slice_get table ty) → is_there w l ≡ true → Stays l (load w l)
    pub puts : (low top : ℕ) (h : Hand) (d : Blocks) (w : World) (m : Memory) (l : Location) (a ty : ℕ) → Here low top h d w m → Leads true h d l a ty
        → IsHandled (slice_get table ty) → is_there w l ≡ true → (v : Value) (n p : ℕ) → IsHandle true d ty v n p
        → IsPut (λ other. (e : Blocks) × Later d e × Here low top h e (store w l v) other) m a n p
    pub empties : (low top : ℕ) (h : Hand) (d : Blocks) (w : World) (m : Memory) (l : Location) (a ty : ℕ) → Here low top h d w m → Leads true h d l a ty
        → IsHandled (slice_get table ty) → is_there w l ≡ true → (e : Blocks) × Later d e × Here low top h e (store w l Vacant) m
    -- ---- values under way

    pub hand_long : (low top : ℕ) (h : Hand) (d : Blocks) (w : World) (m : Memory) → Here low top h d w m
        → length w.hand ≡ before + length h
    pub hand_leads : (high top low ty : ℕ) (h : Hand) (d : Blocks) (w : World) (m : Memory) → Here high top (with_one h low ty) d w m
        → Leads true (with_one h low ty) d (at_base (InHand (before + length h))) low ty
    pub begins : (low top : ℕ) (h : Hand) (d : Blocks) (w : World) (m : Memory) (ty : ℕ) → Here low top h d w m → IsHandled (slice_get table ty)
        → low + LIST_BYTES ≤ top → Here (low + LIST_BYTES) top (with_one h low ty) d (pushed w (vacant (form_in (known_in table) ty))) m
    pub pushes : (low top : ℕ) (h : Hand) (d : Blocks) (w : World) (m : Memory) (ty : ℕ) → Here low top h d w m → IsHandled (slice_get table ty)
        → low + LIST_BYTES ≤ top → (v : Value) (n p : ℕ) → IsHandle true d ty v n p
        → IsPut (λ other. Here (low + LIST_BYTES) top (with_one h low ty) d (pushed w v) other) m low n p
    pub pops : (high top low ty : ℕ) (h : Hand) (d : Blocks) (w : World) (m : Memory) → Here high top (with_one h low ty) d w m
        → Here low top h d (popped w) m
    -- ---- calls

    pub enters : (low top : ℕ) (h : Hand) (d : Blocks) (w : World) (m : Memory) → Here low top h d w m → top + LIST_BYTES ≤ limit → (bytes : List ℕ)
        → Here top (top + LIST_BYTES) h d w (with_places m LIST_BYTES bytes)
    pub leaves : (low top : ℕ) (h : Hand) (c d : Blocks) (v w : World) (m other : Memory) → Here low top h c v m → Later c d
        → Here top (top + LIST_BYTES) h d w other → Here low top h d w (without_places other LIST_BYTES)
