-- The elements of a sequence in a constant to which a location leads: each stands in the data, behind those before it.
use Rattle.std.proofs.Common.{◌≡◌, ℕ, ◌+◌, ◌*◌, ◌^◌, ◌<◌, ◌≤◌, length, sym, ap, subst, ◌∙◌, arith, le_refl, mul-le-mul}
use Rattle.nim_meaning.specs.Values.{Parts, Location, Values, count, item_of, nth_part, part}
use Rattle.nim_meaning.specs.State.{load}
use Rattle.flat_code.specs.Pieces.{words_bytes}
use Rattle.flat_code.specs.Shapes.{Shape, elements}
use Rattle.word_lowering.proofs.FixedParts.{IsFixedSequence, fixed_element}
use Rattle.word_lowering.proofs.FixedTexts.{IsFixedText, fixed_text}
use Rattle.word_lowering.proofs.FixedValues.{FixedAt}
use Rattle.word_lowering.proofs.FixedWords.{all_many}
use Rattle.word_lowering.proofs.LinkedReads.{linked_load, linked_sequence}
use Rattle.word_lowering.proofs.Lines.{Basis, IsGood}
use Rattle.word_lowering.proofs.Related.{Both}
use Rattle.word_lowering.proofs.Scenes.{FromLinked, is_fixed}
use Rattle.word_lowering.proofs.ShapeFacts.{shape_bytes}
use Rattle.word_lowering.proofs.ShapePaths.{shape_some}
use Rattle.word_lowering.proofs.StoredParts.{part_last}
use Rattle.word_lowering.proofs.WordsBytes.{bytes_long}

module _ (x : Basis) (g : Both) (y : IsGood x g) (l : Location) (a : ℕ) (s : Shape) (f : FromLinked g.ground l a (elements s)) where
  pub linked_all : (vs : Values) × (load g.world l ≡ Parts vs) × IsFixedSequence (is_fixed g.ground) g.memory a s vs
  linked_all = linked_sequence x g y l a s f

  there : IsFixedText x linked_all.2.place (words_bytes linked_all.2.words)
  there = fixed_text x g y linked_all.2.place (words_bytes linked_all.2.words) linked_all.2.stands

  bytes_are : length (words_bytes linked_all.2.words) ≡ count linked_all.0 * shape_bytes s
  bytes_are = bytes_long linked_all.2.words ∙ all_many (is_fixed g.ground) linked_all.2.words s linked_all.0 linked_all.2.are

  pub linked_few : count linked_all.0 < 2 ^ 31
  linked_few =
      let ends = there.room in
      let many = bytes_are in
      let some = shape_some s in
      let less : count linked_all.0 * 4 ≤ count linked_all.0 * shape_bytes s = mul-le-mul (le_refl (count linked_all.0)) some in
      omega (arith, ends, many, less)

  pub linked_ends : (i : ℕ) → i < count linked_all.0 → linked_all.2.place + i * shape_bytes s + shape_bytes s < 2 ^ 32
  linked_ends i less =
      let ends = there.room in
      let many = bytes_are in
      let more : (1 + i) * shape_bytes s ≤ count linked_all.0 * shape_bytes s = mul-le-mul (omega (arith, less)) (le_refl (shape_bytes s)) in
      omega (arith, ends, many, more)

  pub linked_element : (i : ℕ) → i < count linked_all.0
      → FromLinked g.ground (item_of (load g.world l) l i) (linked_all.2.place + i * shape_bytes s) s
  linked_element i less =
      let same : part f.value l.path ≡ Parts linked_all.0 = sym (linked_load x g y l a (elements s) f) ∙ linked_all.1 in
      let ends = linked_ends i less in
      subst (λ v. FromLinked g.ground (item_of v l i) (linked_all.2.place + i * shape_bytes s) s) (sym linked_all.1) (record {
        value = f.value;
        base = f.base;
        stands = subst (FixedAt (is_fixed g.ground) (linked_all.2.place + i * shape_bytes s) s)
            (sym (part_last f.value l.path i ∙ ap (λ v. nth_part v i) same)) (fixed_element (is_fixed g.ground) g.memory a s linked_all.0 i less linked_all.2);
        near = ends;
      })
