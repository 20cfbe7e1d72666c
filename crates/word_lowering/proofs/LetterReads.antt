-- What is read at a location of a character: whatever it leads to, the byte at its address is its number.
use Rattle.std.proofs.Common.{◌≡◌, inl, inr, ℕ, ◌+◌, ◌^◌, ◌<◌, min, ℤ, pos, negsuc, List, Ok, Some, true, refl, sym, ap, ap₂, subst, ◌∙◌, arith}
use Rattle.std.specs.Prelude.{int_le, int_lt}
use Rattle.std.proofs.lemmas.Bool.{and_from, and_parts, lt-ltb}
use Rattle.std.proofs.lemmas.Int.{ints}
use Rattle.rv32_isa.specs.declared.micro_op.Size.TheVariants.{Byte}
use Rattle.nim_program.specs.Ints.{fits as is_int_number, inside}
use Rattle.nim_meaning.specs.Values.{Value, Number, Parts, Handle, Fixed, Ref, Resource, Gone, Vacant, Location, is_full, nth_part, part}
use Rattle.nim_meaning.specs.State.{World, load, is_full_at, is_seen, is_there, is_whole, whole_at}
use Rattle.flat_code.specs.Scene.{Where, Located, Within, location_at}
use Rattle.flat_code.specs.Shapes.{Shape, has_shape, is_ordinal}
use Rattle.word_code.specs.Memory.{Memory, number_at}
use Rattle.word_lowering.specs.Operations.{least, word}
use Rattle.word_lowering.proofs.Arithmetic.{fits_signed, signed_fits}
use Rattle.word_lowering.proofs.BlockHomes.{read_at}
use Rattle.word_lowering.proofs.Blocks.{Blocks, Stored}
use Rattle.word_lowering.proofs.ByteWords.{low_byte_read}
use Rattle.word_lowering.proofs.FixedTexts.{fixed_there}
use Rattle.word_lowering.proofs.GoodHomes.{HomeOf, good_homes, homes_apart}
use Rattle.word_lowering.proofs.GoodLeads.{owned_seen, owned_to}
use Rattle.word_lowering.proofs.Keeping.{AmongCalls}
use Rattle.word_lowering.proofs.Lines.{Basis, IsGood}
use Rattle.word_lowering.proofs.StoredParts.{part_last}
use Rattle.word_lowering.proofs.Located.{IsStoredAt, full_there, led_stored}
use Rattle.word_lowering.proofs.OrdinalChecks.{inside_is}
use Rattle.word_lowering.proofs.Related.{Both, calls_of, sites_of}
use Rattle.word_lowering.proofs.Scenes.{Call, FromFixed, FromText, IsOwned, Reaches, ReachesHere, is_fixed}
use Rattle.word_lowering.proofs.ShapeFacts.{is_letter, letter, letter_is, never}
use Rattle.word_lowering.proofs.Sites.{AmongSites}
use Rattle.word_lowering.proofs.TextLetters.{ByteAt, Letter, byte_at, letter_at}
use Rattle.word_lowering.proofs.TextPuts.{letter_read}

-- a number that is one of 256 values
pub record LetterOf (z : ℤ) : Type 0 where
  pub code : ℕ
  pub is : z ≡ pos code
  pub small : code < 256
  pub word_is : word z ≡ code

pub letter_of : (z : ℤ) → is_ordinal (Some 256) (Number z) ≡ true → LetterOf z
letter_of (negsuc n) h = never (and_parts (is_int_number (negsuc n)) (inside (negsuc n) 256) h).1
letter_of (pos n) h =
    let p = and_parts (is_int_number (pos n)) (inside (pos n) 256) h in
    let q = (and_parts (int_le (pos 0) (pos n)) (int_lt (pos n) (pos 256)) p.1).1 in
    record {
      code = n;
      is = refl;
      small = omega (arith, ints, q);
      word_is = let f = fits_signed (pos n) p.0 in omega (arith, ints, f);
    }

pub letter_word : (c : ℕ) → c < 256 → word (pos c) ≡ c
letter_word c small = let q = fits_signed (pos c) (signed_fits (pos c) (omega (arith, small, ints))) in omega (arith, ints)

pub letter_shaped : (c : ℕ) → c < 256 → has_shape (Number (pos c)) letter ≡ true
letter_shaped c small =
    let fits : is_int_number (pos c) ≡ true = signed_fits (pos c) (omega (arith, small, ints)) in
    let low = letter_word c small in
    let bound : min 256 least ≡ 256 = omega arith in
    and_from (is_int_number (pos c)) (inside (pos c) 256) fits
    (sym (inside_is (pos c) 256 fits) ∙ lt-ltb (word (pos c)) (min 256 least) (omega (arith, small, low, bound)))

-- all of a character that is there
letter_full : (StandsFixed : (place : ℕ) → List ℕ → Type 0) (d : Blocks) (w : World) (m : Memory) (a : ℕ) (v : Value) → Stored StandsFixed d m a letter v
    → is_whole w v ≡ true → is_full v ≡ true
letter_full F d w m a (Number z) at whole = refl
letter_full F d w m a Vacant at whole = never whole
letter_full F d w m a (Parts vs) at whole = absurd at
letter_full F d w m a (Handle n k) at whole = absurd at
letter_full F d w m a (Fixed t) at whole = absurd at
letter_full F d w m a (Ref r) at whole = absurd at
letter_full F d w m a (Resource vs i) at whole = absurd at
letter_full F d w m a (Gone v f) at whole = absurd at

module _ (x : Basis) (g : Both) (y : IsGood x g) where
  -- a character, with its byte at an address
  pub record LetterAt (v : Value) (a : ℕ) : Type 0 where
    pub code : ℕ
    pub is : v ≡ Number (pos code)
    pub small : code < 256
    pub reads : number_at g.memory a Byte ≡ Ok code
    pub near : a < 2 ^ 32

  -- in a word
  pub letter_stored : (v : Value) (a : ℕ) → IsStoredAt x g y v a letter → LetterAt v a
  letter_stored v a r = by v r.shaped r.stored
    where
      by : (v : Value) → has_shape v letter ≡ true → Stored (is_fixed g.ground) g.ground.blocks g.memory a letter v → LetterAt v a
      by (Number z) shaped at =
          let l = letter_of z shaped in
          let b = low_byte_read g.memory y.memory.sized a l.code (at.0 ∙ ap Ok l.word_is) l.small in
          record { code = l.code; is = ap Number l.is; small = l.small; reads = b.0; near = b.1 }
      by (Parts vs) shaped at = never shaped
      by (Handle n k) shaped at = never shaped
      by (Fixed t) shaped at = never shaped
      by (Ref o) shaped at = never shaped
      by (Resource vs i) shaped at = never shaped
      by (Gone v f) shaped at = never shaped
      by Vacant shaped at = never shaped

  -- in a text
  letter_in_text : (l : Location) (a : ℕ) (t : Shape) → FromText g.ground l a t → is_there g.world l ≡ true → LetterAt (load g.world l) a
  letter_in_text l a t f live =
      let r = letter_read (is_fixed g.ground) (HomeOf x g) (homes_apart x g y) g.ground.blocks g.world g.memory (good_homes x g y) l a f.block t f.base
      f.leads live y.memory.bytes in
      record { code = r.letter; is = r.is; small = r.small; reads = r.reads; near = r.near }

  -- in a text of a constant
  letter_in_constant : (l : Location) (a : ℕ) (t : Shape) → FromFixed g.ground l a t → LetterAt (load g.world l) a
  letter_in_constant l a t f =
      let there = fixed_there x g y f.place f.text f.stands in
      let r : Letter f.text f.position = letter_at f.text f.position f.inside in
      let b : ByteAt g.memory y.memory.sized (f.place + f.position) r.letter
      = byte_at g.memory y.memory.sized f.place f.text there.3 f.position f.inside r in
      let near = b.small in
      let e = f.address in
      record {
        code = r.letter;
        is = ap₂ (λ base path. part (whole_at g.world base) path) f.base f.path ∙ part_last f.value f.above f.position
            ∙ ap (λ v. nth_part v f.position) f.is ∙ r.is;
        small = r.small there.0;
        reads = ap (λ n. number_at g.memory n Byte) e ∙ b.reads;
        near = omega (arith, e, near);
      }

  -- wherever it is: what lines read by an address
  pub letter_led : (c : Call) → AmongCalls c (calls_of g) → AmongSites c.site (sites_of g) → (there : Where) (a : ℕ) (t : Shape) → is_letter t ≡ true
      → is_full_at g.world (location_at c.temps there) ≡ true → Reaches x.table x.blocks (sites_of g) g.ground g.world c.site c.temps there a t
      → LetterAt (load g.world (location_at c.temps there)) a
  letter_led c i s there a t is full leads =
      by there full (subst (Reaches x.table x.blocks (sites_of g) g.ground g.world c.site c.temps there a) (letter_is t is) leads)
    where
      by : (there : Where) → is_full_at g.world (location_at c.temps there) ≡ true
          → Reaches x.table x.blocks (sites_of g) g.ground g.world c.site c.temps there a letter → LetterAt (load g.world (location_at c.temps there)) a
      by (Located l) full (inl f) = letter_stored (load g.world l) a (led_stored x g y c i s (Located l) a letter (inl refl) full f)
      by (Located l) full (inr (inl f)) = letter_in_text l a letter f (full_there x g y l full).0
      by (Located l) full (inr (inr f)) = letter_in_constant l a letter f
      by (Within temp path) full f =
          letter_stored (load g.world (location_at c.temps (Within temp path))) a (led_stored x g y c i s (Within temp path) a letter (inl refl) full f)

  -- all of one is there that is seen, where somebody owns it
  pub letter_there : (l : Location) (a : ℕ) → IsOwned l.base → ReachesHere x.table x.blocks (sites_of g) g.ground g.world l a letter
      → is_seen g.world l ≡ true → is_full_at g.world l ≡ true
  letter_there l a owned leads seen = by leads
    where
      p : (is_there g.world l ≡ true) × (is_whole g.world (load g.world l) ≡ true)
      p = and_parts (is_there g.world l) (is_whole g.world (load g.world l)) seen

      by : ReachesHere x.table x.blocks (sites_of g) g.ground g.world l a letter → is_full_at g.world l ≡ true
      by (inl f) =
          and_from (is_seen g.world l) (is_full (load g.world l)) seen
          (letter_full (is_fixed g.ground) g.ground.blocks g.world g.memory a (load g.world l)
          (read_at (is_fixed g.ground) (HomeOf x g) (homes_apart x g y) g.ground.blocks g.world g.memory (good_homes x g y) l a letter
          (owned_to x g y l a letter (owned_seen x g y l a letter owned f p.1)) p.0) p.1)
      by (inr (inl f)) = and_from (is_seen g.world l) (is_full (load g.world l)) seen (ap is_full (letter_in_text l a letter f p.0).is)
      by (inr (inr f)) = absurd (subst IsOwned f.base owned)
