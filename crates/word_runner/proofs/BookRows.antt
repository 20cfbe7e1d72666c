-- Where labels and procedures stand.
use Rattle.std.proofs.Common.{◌≡◌, ℕ, zero, suc, ◌+◌, ◌<◌, ◌≤◌, Bool, true, false, List, [], ◌∷◌, ◌++◌, length, drop, take, get_or, refl, sym, ap, subst, ◌∙◌}
use Rattle.std.proofs.Common.{arith, Option, Some, None, Vec, Global}
use Rattle.std.proofs.lemmas.Bool.{eqb-true, eqb-false, eq-eqb, ne_eqb}
use Rattle.std.proofs.lemmas.Option.{none-some, same_Some}
use Rattle.std.specs.Prelude.{◌==◌, slice_get, option_map, if◌then◌else◌}
use Rattle.word_code.specs.declared.word.WordInstr.{WordInstr}
use Rattle.word_code.specs.declared.word.WordInstr.TheVariants as L
use Rattle.word_code.specs.declared.word.WordProc.{WordProc}
use Rattle.word_code.specs.Words.{first_of, from_label, from_proc, is_label}
use Rattle.word_runner.specs.Books.{AreLabels, AreAllLabels, from_position, labels_or}
use Rattle.word_runner.specs.View.{held_in, proc_in}

pub got : {A : Type 0} (xs : List A) (i : ℕ) (x : A) → i < length xs → x ≡ get_or xs i x → slice_get xs i ≡ Some x
got [] i x lt e = absurd (omega (arith, lt))
got (y ∷ xs) zero x lt e = ap Some (sym e)
got (y ∷ xs) (suc i) x lt e = got xs i x (omega (arith, lt)) e

pub drop_at : {A : Type 0} (xs : List A) (i : ℕ) (x : A) → slice_get xs i ≡ Some x → drop i xs ≡ x ∷ drop (suc i) xs
drop_at [] i x e = absurd (none-some x e)
drop_at (y ∷ xs) zero x e = ap (λ y. y ∷ xs) (same_Some y x e)
drop_at (y ∷ xs) (suc i) x e = drop_at xs i x e

pub drop_all : {A : Type 0} (xs : List A) (i : ℕ) → length xs ≤ i → drop i xs ≡ []
drop_all [] zero le = refl
drop_all [] (suc i) le = refl
drop_all (x ∷ xs) zero le = absurd (omega (arith, le))
drop_all (x ∷ xs) (suc i) le = drop_all xs i (omega (arith, le))

-- the first procedure from a position on
pub first_drop : (procs : List WordProc) (i : ℕ) → proc_in procs i ≡ first_of (drop i procs)
first_drop [] zero = refl
first_drop [] (suc i) = refl
first_drop (p ∷ procs) zero = refl
first_drop (p ∷ procs) (suc i) = first_drop procs i

same_either_way : (a b : ℕ) → (a == b) ≡ (b == a)
same_either_way a b = by (a == b) refl
  where
    by : (x : Bool) → (a == b) ≡ x → (a == b) ≡ (b == a)
    by true e = e ∙ sym (eq-eqb b a (sym (eqb-true a b e)))
    by false e = e ∙ sym (ne_eqb b a (λ f. eqb-false a b e (sym f)))

-- what is found by numbers, where one more stands in front: it, or what was found before
chosen : {B : Type 0} (of : Option ℕ → B) (here rest : B) (i other name : ℕ) (before now : Option ℕ) → here ≡ of (Some i) → rest ≡ of before
    → now ≡ (if name == other then Some i else before) → (if other == name then here else rest) ≡ of now
chosen of here rest i other name before now e f g =
    by (other == name) ∙ ap (λ (b : Bool). of (if b then Some i else before)) (same_either_way other name) ∙ ap of (sym g)
  where
    by : (b : Bool) → (if b then here else rest) ≡ of (if b then Some i else before)
    by true = e
    by false = f

-- ---- labels

-- those from a line on
abbrev pub LabelsFrom : ℕ → List WordInstr → List (Option ℕ) → Type 0
LabelsFrom i lines labels = (name : ℕ) → from_label name (drop i lines) ≡ option_map (λ k. drop k lines) (held_in labels name)

pub no_labels : (lines : List WordInstr) (i : ℕ) → length lines ≤ i → LabelsFrom i lines []
no_labels lines i le name = ap (from_label name) (drop_all lines i le)

from_line : (lines : List WordInstr) (i : ℕ) (line : WordInstr) (name : ℕ) → slice_get lines i ≡ Some line
    → from_label name (drop i lines) ≡ (if is_label name line then Some (drop i lines) else from_label name (drop (suc i) lines))
from_line lines i line name e =
    ap (from_label name) (drop_at lines i line e)
    ∙ ap (λ l. if is_label name line then Some l else from_label name (drop (suc i) lines)) (sym (drop_at lines i line e))

-- a label in front of them
pub label_more : (lines : List WordInstr) (i other : ℕ) (labels new : List (Option ℕ)) → slice_get lines i ≡ Some (L.Label other)
    → LabelsFrom (suc i) lines labels → ((v : ℕ) → held_in new v ≡ (if v == other then Some i else held_in labels v)) → LabelsFrom i lines new
label_more lines i other labels new e h f name =
    from_line lines i (L.Label other) name e
    ∙ chosen (option_map (λ k. drop k lines)) (Some (drop i lines)) _ i other name (held_in labels name) (held_in new name) refl (h name) (f name)

-- another line
pub label_same : (lines : List WordInstr) (i : ℕ) (line : WordInstr) (labels : List (Option ℕ)) → slice_get lines i ≡ Some line
    → ((name : ℕ) → is_label name line ≡ false) → LabelsFrom (suc i) lines labels → LabelsFrom i lines labels
label_same lines i line labels e none h name =
    from_line lines i line name e ∙ ap (λ b. if b then Some (drop i lines) else from_label name (drop (suc i) lines)) (none name) ∙ h name

-- ---- procedures

abbrev pub NumbersFrom : ℕ → List WordProc → List (Option ℕ) → Type 0
NumbersFrom i procs numbers = (number : ℕ) → from_proc number (drop i procs) ≡ from_position procs (held_in numbers number)

pub no_numbers : (procs : List WordProc) (i : ℕ) → length procs ≤ i → NumbersFrom i procs []
no_numbers procs i le number = ap (from_proc number) (drop_all procs i le)

from_here : (procs : List WordProc) (i : ℕ) (p : WordProc) (number : ℕ) → slice_get procs i ≡ Some p
    → from_proc number (drop i procs) ≡ (if p.number == number then drop i procs else from_proc number (drop (suc i) procs))
from_here procs i p number e =
    ap (from_proc number) (drop_at procs i p e)
    ∙ ap (λ l. if p.number == number then l else from_proc number (drop (suc i) procs)) (sym (drop_at procs i p e))

pub number_more : (procs : List WordProc) (i : ℕ) (p : WordProc) (numbers new : List (Option ℕ)) → slice_get procs i ≡ Some p
    → NumbersFrom (suc i) procs numbers → ((v : ℕ) → held_in new v ≡ (if v == p.number then Some i else held_in numbers v)) → NumbersFrom i procs new
number_more procs i p numbers new e h f number =
    from_here procs i p number e
    ∙ chosen (from_position procs) (drop i procs) _ i p.number number (held_in numbers number) (held_in new number) refl (h number) (f number)

-- ---- all procedures

labels_last : (ps : List WordProc) (all : List (Vec (Option ℕ) Global)) (p : WordProc) (labels : Vec (Option ℕ) Global) → AreAllLabels ps all
    → AreLabels p.lines labels.items → AreAllLabels (ps ++ p ∷ []) (all ++ labels ∷ [])
labels_last [] [] p labels h g = (g, tt)
labels_last [] (b ∷ all) p labels h g = absurd h
labels_last (q ∷ ps) [] p labels h g = absurd h
labels_last (q ∷ ps) (b ∷ all) p labels h g = (h.0, labels_last ps all p labels h.1 g)

pub take_last : {A : Type 0} (xs : List A) (k : ℕ) (x : A) → slice_get xs k ≡ Some x → take (suc k) xs ≡ take k xs ++ x ∷ []
take_last [] k x e = absurd (none-some x e)
take_last (y ∷ xs) zero x e = ap (λ z. z ∷ []) (same_Some y x e)
take_last (y ∷ xs) (suc k) x e = ap (λ l. y ∷ l) (take_last xs k x e)

pub one_more : (ps : List WordProc) (k : ℕ) (p : WordProc) (all before : List (Vec (Option ℕ) Global)) (labels : Vec (Option ℕ) Global)
    → slice_get ps k ≡ Some p → all ≡ before ++ labels ∷ [] → AreAllLabels (take k ps) before → AreLabels p.lines labels.items
    → AreAllLabels (take (k + 1) ps) all
one_more ps k p all before labels e h are is =
    let m : suc k ≡ k + 1 = omega arith in
    subst (λ j. AreAllLabels (take j ps) all) m
    (subst (λ l. AreAllLabels l all) (sym (take_last ps k p e))
    (subst (AreAllLabels (take k ps ++ p ∷ [])) (sym h) (labels_last (take k ps) before p labels are is)))

-- those of the procedure at a position
pub labels_of_proc : (ps : List WordProc) (all : List (Vec (Option ℕ) Global)) (i : ℕ) (p : WordProc) → AreAllLabels ps all → slice_get ps i ≡ Some p
    → AreLabels p.lines (labels_or (slice_get all i))
labels_of_proc [] all i p h e = absurd (none-some p e)
labels_of_proc (q ∷ ps) [] i p h e = absurd h
labels_of_proc (q ∷ ps) (b ∷ all) zero p h e = subst (λ (p : WordProc). AreLabels p.lines b.items) (same_Some q p e) h.0
labels_of_proc (q ∷ ps) (b ∷ all) (suc i) p h e = labels_of_proc ps all i p h.1 e

pub none_past : {A : Type 0} (xs : List A) (i : ℕ) → length xs ≤ i → slice_get xs i ≡ None
none_past [] i le = refl
none_past (x ∷ xs) zero le = absurd (omega (arith, le))
none_past (x ∷ xs) (suc i) le = none_past xs i (omega (arith, le))
