-- A value whose blocks stay is the same with what they hold.
use Rattle.std.proofs.Common.{◌≡◌, refl, sym, ap, ap₂, subst, ◌∙◌, arith, ℕ, suc, ◌+◌, ◌<◌, ◌≤◌, inl, inr, ◌⊎◌, List}
use Rattle.nim_types.specs.Forms.{Form, Forms, no_forms, forms}
use Rattle.nim_meaning.specs.Values.{Value, Fixed, Parts, Values, Nil, More, nth, count, parts_of, text_in, InBlock}
use Rattle.nim_meaning.specs.State.{World, whole_at}
use Rattle.holders.specs.Owned.{IsBase, Full, Has, a_number, no_text, a_text, no_sequence, a_sequence, a_row, some_parts, of_wrapped}
use Rattle.holders.specs.Owned.{HasEach, none_more, one_more, HasAll, no_parts, a_part, PartForm, first_part, next_part}
use Rattle.holders.specs.Holdings.{each_value, looked_through, all_looked_through}
use Rattle.holders.proofs.Bases.{whole_is, same_or_not}
use Rattle.holders.proofs.Owning.{Stay, in_first, in_second}

each_same : (f g : Value → Value) (vs : Values) → ((i : ℕ) → i < count vs → f (nth vs i) ≡ g (nth vs i)) → each_value f vs ≡ each_value g vs
each_same f g Nil h = refl
each_same f g (More v vs) h = ap₂ More (h 0 (omega arith)) (each_same f g vs (λ i less. h (suc i) (omega (arith, less))))

module _ (world after : World) where
  parts_same : (fs : Forms) (vs : Values) →
      ((i : ℕ) (f : Form) → PartForm fs i f → i < count vs → looked_through after f (nth vs i) ≡ looked_through world f (nth vs i)) →
      all_looked_through after fs vs ≡ all_looked_through world fs vs
  parts_same no_forms vs h = refl
  parts_same (forms f fs) Nil h = refl
  parts_same (forms f fs) (More v vs) h =
      ap₂ More (h 0 f first_part (omega arith)) (parts_same fs vs (λ i g p less. h (suc i) g (next_part p) (omega (arith, less))))

  base_same : {k : ℕ} {x : Value} → IsBase world (InBlock k) x → IsBase after (InBlock k) x →
      whole_at after (InBlock k) ≡ whole_at world (InBlock k)
  base_same {k} {x} b c = whole_is after (InBlock k) x c ∙ sym (whole_is world (InBlock k) x b)

  mutual
    pub through_same : {f : Form} {v : Value} {bs : List ℕ} → Stay world after bs → Has world Full f v bs → looked_through after f v ≡ looked_through world f v
    through_same stay a_number = refl
    through_same stay no_text = refl
    through_same stay (a_text {k = k} {t = t} same b) = ap (λ x. Fixed (text_in x)) (base_same b (stay k (Fixed t) (inl refl) b))
    through_same stay no_sequence = refl
    through_same stay (a_sequence {f = f} {k = k} {all = all} {bs = bs} b each) =
        ap (λ x. Parts (each_value (looked_through after f) (parts_of x))) (whole_is after (InBlock k) (Parts all) (stay k (Parts all) (inl refl) b))
        ∙ (ap Parts (each_same (looked_through after f) (looked_through world f) all
        (λ i less. each_through (λ j x m c. stay j x (inr m) c) each i (omega arith) (omega (arith, less))))
        ∙ sym (ap (λ x. Parts (each_value (looked_through world f) (parts_of x))) (whole_is world (InBlock k) (Parts all) b)))
    through_same stay (a_row {f = f} {all = all} same each) =
        ap Parts (each_same (looked_through after f) (looked_through world f) all
        (λ i less. each_through stay each i (omega arith) (omega (arith, less, same))))
    through_same stay (some_parts {fs = fs} {all = all} h) =
        ap Parts (parts_same fs all (λ i f p less. all_through stay h p i (omega arith)))
    through_same stay (of_wrapped h) = through_same stay h

    each_through : {f : Form} {n i : ℕ} {all : Values} {bs : List ℕ} → Stay world after bs → HasEach world Full f n i all bs → (j : ℕ) → i ≤ j → j < i + n →
        looked_through after f (nth all j) ≡ looked_through world f (nth all j)
    each_through stay none_more j le less = absurd (omega (arith, le, less))
    each_through {f} stay (one_more {n = n} {i = i} {all = all} {bs = bs} {cs = cs} there h more) j le less =
        by (same_or_not j i) (through_same (λ k x m c. stay k x (in_first k bs cs m) c) h)
        (λ later. each_through (λ k x m c. stay k x (in_second k bs cs m) c) more j later (omega (arith, less)))
      where
        by : (j ≡ i) ⊎ (j ≡ i → ⊥) → looked_through after f (nth all i) ≡ looked_through world f (nth all i) →
            (suc i ≤ j → looked_through after f (nth all j) ≡ looked_through world f (nth all j)) →
            looked_through after f (nth all j) ≡ looked_through world f (nth all j)
        by (inl e) here rest = subst (λ m. looked_through after f (nth all m) ≡ looked_through world f (nth all m)) (sym e) here
        by (inr d) here rest = rest (omega (arith, d, le))

    all_through : {fs : Forms} {j d : ℕ} {f : Form} {all : Values} {bs : List ℕ} → Stay world after bs → HasAll world Full fs j all bs → PartForm fs d f →
        (i : ℕ) → i ≡ j + d → looked_through after f (nth all i) ≡ looked_through world f (nth all i)
    all_through stay (no_parts q) p i e = elim p [ ]
    all_through stay (a_part {f = f} {i = j} {all = all} {bs = bs} {cs = cs} there h more) first_part i e =
        subst (λ m. looked_through after f (nth all m) ≡ looked_through world f (nth all m)) (omega (arith, e))
        (through_same (λ k x m c. stay k x (in_first k bs cs m) c) h)
    all_through stay (a_part {bs = bs} {cs = cs} there h more) (next_part p) i e =
        all_through (λ k x m c. stay k x (in_second k bs cs m) c) more p i (omega (arith, e))
