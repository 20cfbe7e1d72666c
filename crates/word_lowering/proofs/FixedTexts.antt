-- The texts that values have from the data: they stand there as at the start.
use Rattle.std.proofs.Common.{◌≡◌, inl, inr, ℕ, ◌+◌, ◌^◌, ◌<◌, ◌≤◌, List, [], ◌∷◌, length, Option, Some, None, Bool, true, refl, sym, ap, ap₂, ◌∙◌}
use Rattle.std.proofs.Common.{arith}
use Rattle.std.specs.Prelude.{nat_eq, nat_le, nat_lt}
use Rattle.std.proofs.lemmas.Bool.{and_from, and_parts, eq-eqb, eqb-true, leb-true, le-leb, ltb-true, lt-ltb}
use Rattle.nim_types.specs.Types.{same_text}
use Rattle.rv32_isa.specs.Regions.{AreBytes}
use Rattle.word_code.specs.Memory.{Memory, bytes_at, own_data_at}
use Rattle.heap_memory.specs.HeapUse.{IsElsewhere}
use Rattle.word_lowering.specs.Lowered.{data_at}
use Rattle.word_lowering.proofs.Lines.{Basis, IsGood}
use Rattle.word_lowering.proofs.Related.{are_bytes, is_read, is_text_of_data, Both, IsClosed, IsText, routines}
use Rattle.word_lowering.proofs.Scenes.{is_fixed}
use Rattle.word_lowering.proofs.ShapeFacts.{never}
use Rattle.word_lowering.proofs.Sites.{data_end}
use Rattle.word_lowering.proofs.TextOperands.{FixedThere}

-- ---- what is tested

bytes_are : (text : List ℕ) → are_bytes text ≡ true → AreBytes text
bytes_are [] h = tt
bytes_are (b ∷ text) h = let p = and_parts (nat_lt b 256) (are_bytes text) h in (ltb-true b 256 p.0, bytes_are text p.1)

pub are_bytes_so : (text : List ℕ) → AreBytes text → are_bytes text ≡ true
are_bytes_so [] h = refl
are_bytes_so (b ∷ text) h = and_from (nat_lt b 256) (are_bytes text) (lt-ltb b 256 h.0) (are_bytes_so text h.1)

pub same_text_is : (a b : List ℕ) → same_text a b ≡ true → a ≡ b
same_text_is [] [] h = refl
same_text_is [] (c ∷ b) h = never h
same_text_is (c ∷ a) [] h = never h
same_text_is (c ∷ a) (d ∷ b) h =
    let p = and_parts (nat_eq c d) (same_text a b) h in ap₂ (λ x xs. x ∷ xs) (eqb-true c d p.0) (same_text_is a b p.1)

pub same_text_self : (a : List ℕ) → same_text a a ≡ true
same_text_self [] = refl
same_text_self (c ∷ a) = and_from (nat_eq c c) (same_text a a) (eq-eqb c c refl) (same_text_self a)

read_is : (o : Option (List ℕ)) (text : List ℕ) → is_read o text ≡ true → o ≡ Some text
read_is None text h = never h
read_is (Some bytes) text h = ap Some (same_text_is bytes text h)

-- ---- texts of the data at the start

pub record IsFixedText (x : Basis) (place : ℕ) (text : List ℕ) : Type 0 where
  pub bytes : AreBytes text
  pub near : place < 2 ^ 32
  pub few : length text < 2 ^ 32
  pub low : data_at + data_end x.table x.blocks ≤ place
  pub room : place + length text + 4 < 2 ^ 32
  pub among : IsText x.table x.blocks place (length text)
  pub first : bytes_at x.first place (length text) ≡ Some text

module _ (x : Basis) where
  fixed_is : (place : ℕ) (text : List ℕ) → is_text_of_data x.table x.blocks x.first place text ≡ true → IsFixedText x place text
  fixed_is place text h =
      let a = and_parts (nat_le (data_at + data_end x.table x.blocks) place) _ h in
      let b = and_parts (nat_le (place + length text) (routines x.table x.blocks)) _ a.1 in
      let c = and_parts (are_bytes text) (is_read (bytes_at x.first place (length text)) text) b.1 in
      let low = leb-true (data_at + data_end x.table x.blocks) place a.0 in
      let high = leb-true (place + length text) (routines x.table x.blocks) b.0 in
      let most = x.data_most in
      record {
        bytes = bytes_are text c.0;
        near = omega (arith, high, most);
        few = omega (arith, high, most);
        low = low;
        room = omega (arith, high, most);
        among = (inr (low, omega (arith, high, most)), inl high);
        first = read_is (bytes_at x.first place (length text)) text c.1;
      }

  -- one that stands there at the start
  pub is_fixed_first : (place : ℕ) (text : List ℕ) → data_at + data_end x.table x.blocks ≤ place → place + length text ≤ routines x.table x.blocks
      → AreBytes text → bytes_at x.first place (length text) ≡ Some text → is_text_of_data x.table x.blocks x.first place text ≡ true
  is_fixed_first place text low high bytes first =
      and_from (nat_le (data_at + data_end x.table x.blocks) place) _ (le-leb (data_at + data_end x.table x.blocks) place low)
      (and_from (nat_le (place + length text) (routines x.table x.blocks)) _ (le-leb (place + length text) (routines x.table x.blocks) high)
      (and_from (are_bytes text) (is_read (bytes_at x.first place (length text)) text) (are_bytes_so text bytes)
      (ap (λ o. is_read o text) first ∙ same_text_self text)))

  pub elsewhere : (m : Memory) (b n : ℕ) → IsClosed x.table x.blocks b n → IsElsewhere own_data_at m b n
  elsewhere m b n (inl h) = record { heap = inr (omega (arith, h.1)); words = inl (omega (arith, h.0)); room = inl (omega (arith, h.0)) }
  elsewhere m b n (inr h) = record { heap = inr (omega (arith, h.1)); words = inl (omega (arith, h.0)); room = inl (omega (arith, h.0)) }

  -- ---- of a state

  module _ (g : Both) (y : IsGood x g) where
    pub fixed_text : (place : ℕ) (text : List ℕ) → is_fixed g.ground place text → IsFixedText x place text
    fixed_text place text is = fixed_is place text (ap (λ (fixed : (place : ℕ) → List ℕ → Bool). fixed place text) (sym y.fixed) ∙ is)

    -- what stands there at the start does now
    pub is_fixed_now : (place : ℕ) (text : List ℕ) → is_text_of_data x.table x.blocks x.first place text ≡ true → is_fixed g.ground place text
    is_fixed_now place text is = ap (λ (fixed : (place : ℕ) → List ℕ → Bool). fixed place text) y.fixed ∙ is

    pub fixed_there : FixedThere (is_fixed g.ground) g.memory
    fixed_there place text is =
        let t = fixed_text place text is in
        (t.bytes, t.near, t.few, y.memory.texts place (length text) t.among ∙ t.first, elsewhere g.memory place (length text) t.among.0)

    pub fixed_closed : (place : ℕ) (text : List ℕ) → is_fixed g.ground place text → IsClosed x.table x.blocks place (length text)
    fixed_closed place text is = (fixed_text place text is).among.0
