-- What becomes of a part, or of what is beside, leaves a row with as many parts, and a text with as many characters.
use Rattle.std.proofs.Common.{◌≡◌, refl, sym, ap, subst, ◌∙◌, ℕ, ◌<◌, inl, inr, ◌⊎◌, List, [], ◌∷◌, ◌++◌}
use Rattle.nim_types.specs.Forms.{Form}
use Rattle.nim_program.specs.Ints.{low_byte}
use Rattle.nim_meaning.specs.Values.{Value, nth, number_of, with_part, nth_part, part, put_part, Location}
use Rattle.nim_meaning.specs.State.{World, whole_at}
use Rattle.holders.specs.Owned.{IsBase, HasPart, whole, row_part, Apart, Lies}
use Rattle.holders.specs.Becoming.{BecomesWith}
use Rattle.holders.specs.Beside.{OtherPart, other_base, other_way}
use Rattle.holders.specs.Territory.{Shape, HasShape, is_row, is_text, RowAt, IsUnder}
use Rattle.holders.proofs.Bases.{whole_is}
use Rattle.holders.proofs.Staying.{set_length}
use Rattle.holders.proofs.PathLemmas.{count_with, nth_with}
use Rattle.holders.proofs.Letters.{rows_beside, beside_is}

-- ---- paths

under_put : {w : Value} (path : List ℕ) (i : ℕ) (further : List ℕ) (x : Value) → HasPart w path →
    part (put_part w (path ++ i ∷ further) x) path ≡ with_part (part w path) i (put_part (nth_part (part w path) i) further x)
under_put [] i further x h = refl
under_put (j ∷ path) i further x (row_part {all = outer} le h) =
    ap (λ v. part v path) (nth_with outer j (put_part (nth outer j) (path ++ i ∷ further) x) le) ∙ under_put path i further x h

has_above : {w : Value} (path : List ℕ) (i : ℕ) (further : List ℕ) (x : Value) → HasPart w path → HasPart (put_part w (path ++ i ∷ further) x) path
has_above [] i further x h = whole
has_above (j ∷ path) i further x (row_part {all = outer} le h) =
    let new = put_part (nth outer j) (path ++ i ∷ further) x in
    row_part (subst (λ n. j < n) (sym (count_with outer j new)) le) (subst (λ v. HasPart v path) (sym (nth_with outer j new le)) (has_above path i further x h))

with_shape : {shape : Shape} {v : Value} (i : ℕ) (x : Value) → HasShape shape v → HasShape shape (with_part v i x)
with_shape i x (is_row {all = all} e) = is_row (count_with all i x ∙ e)
with_shape i x (is_text {t = t} e) = is_text (set_length t i (low_byte (number_of x)) ∙ e)

-- ---- a row

pub row_left : {goes : ℕ → ℕ} {f : Form} {to l : Location} {w : Value} {given old : List ℕ} {shape : Shape} {world after : World} → Lies world to w →
    BecomesWith goes f to w given old world after → OtherPart to l ⊎ IsUnder to l → Apart l.base old → RowAt world l shape → RowAt after l shape
row_left {l = l} at b (inl (other_base d)) far r = record {
  whole = r.whole;
  base = b.elsewhere l.base r.whole r.base d far;
  part_there = r.part_there;
  is = r.is;
}
row_left {to = to} {l = l} {w = w} {shape = shape} {world = world} {after = after} at b (inl (other_way e ways)) far r =
    let same : r.whole ≡ w = sym (whole_is world l.base r.whole r.base) ∙ ap (λ x. whole_at world x) e ∙ whole_is world to.base w at.base in
    record {
      whole = put_part w to.path b.now;
      base = subst (λ x. IsBase after x (put_part w to.path b.now)) (sym e) b.is;
      part_there = rows_beside b.now at.part ways (subst (λ x. HasPart x l.path) same r.part_there);
      is = subst (λ y. HasShape shape y) (ap (λ x. part x l.path) same ∙ sym (beside_is b.now at.part ways)) r.is;
    }
row_left {to = to} {l = l} {w = w} {shape = shape} {world = world} {after = after} at b (inr u) far r =
    let same : r.whole ≡ w = sym (whole_is world l.base r.whole r.base) ∙ ap (λ x. whole_at world x) (sym u.base) ∙ whole_is world to.base w at.base in
    let there : HasPart w l.path = subst (λ x. HasPart x l.path) same r.part_there in
    record {
      whole = put_part w (l.path ++ u.position ∷ u.further) b.now;
      base = subst (λ x. IsBase after x (put_part w (l.path ++ u.position ∷ u.further) b.now)) u.base
          (subst (λ p. IsBase after to.base (put_part w p b.now)) u.path b.is);
      part_there = has_above l.path u.position u.further b.now there;
      is = subst (λ y. HasShape shape y) (sym (under_put l.path u.position u.further b.now there))
          (with_shape u.position (put_part (nth_part (part w l.path) u.position) u.further b.now)
          (subst (λ x. HasShape shape (part x l.path)) same r.is));
    }
