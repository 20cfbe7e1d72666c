-- Where labels of word code stand: the code of a line has none of those of other lines, so a label is found where it is in block code. And where a
-- line branches to a trap, all lines do.
use Rattle.std.proofs.Common.{◌≡◌, ◌≢◌, ◌⊎◌, inl, inr, ℕ, suc, ◌+◌, ◌*◌, ◌<◌, ◌≤◌, List, [], ◌∷◌, ◌++◌, length, Option, Some, None}
use Rattle.std.proofs.Common.{Bool, true, false, refl, sym, ap, ◌∙◌, arith, append_assoc}
use Rattle.std.specs.Prelude.{nat_eq, ◌==◌, ◌||◌, if◌then◌else◌}
use Rattle.std.proofs.lemmas.Bool.{cond-false, ne_eqb, eq-eqb, eqb-true, eqb-false, or_from}
use Rattle.flat_code.specs.declared.line.Line.{Line}
use Rattle.flat_code.specs.declared.line.Line.TheVariants as L
use Rattle.flat_code.specs.Whole.{label_in}
use Rattle.flat_code.specs.Running.{is_name, from_label as line_from}
use Rattle.word_code.specs.declared.word.WordInstr.{WordInstr}
use Rattle.word_code.specs.declared.word.WordInstr.TheVariants.{Label, Spend, SpendIf, Constant, Copy, Compute, Sum, Place, Datum, Load, Store, Jump}
use Rattle.word_code.specs.declared.word.WordInstr.TheVariants.{Branch}
use Rattle.word_code.specs.declared.word.WordInstr.TheVariants.{Argument, Call, Return, Read, Write, Exit}
use Rattle.word_code.specs.Words.{is_label, from_label}
use Rattle.word_lowering.specs.LineCode as code
use Rattle.word_lowering.specs.LineCode.{Around, arguments_of, labels_in, label_before}
use Rattle.word_lowering.specs.Lowered.{branches_to, any_branches}
use Rattle.word_lowering.proofs.Fronts.{Coding, Note, stands, leads, neither, note, IsFine, AllFine, IsFront}
use Rattle.word_lowering.proofs.LineFronts.{IsNoLabel, Kind, is_other, kind_of, line_front, line_appends, whole_code, whole_front}
use Rattle.word_lowering.proofs.LineFronts as kinds

-- ---- code that lets a search for a label pass

abbrev pub Quiet : ℕ → Coding → Type 0
Quiet n f = (k : List WordInstr) → from_label n (f k) ≡ from_label n k

-- what a line is, for a search, is said by its note
abbrev has_name : ℕ → Note → Bool
has_name n (stands name) = name == n
has_name n note = false

label_noted : (n : ℕ) (line : WordInstr) → is_label n line ≡ has_name n (note line)
label_noted n (Label name) = refl
label_noted n Spend = refl
label_noted n (SpendIf test left right) = refl
label_noted n (Constant to value) = refl
label_noted n (Copy to from) = refl
label_noted n (Compute to operation left right) = refl
label_noted n (Sum to from value) = refl
label_noted n (Place to at) = refl
label_noted n (Datum to at) = refl
label_noted n (Load to address size) = refl
label_noted n (Store address from size) = refl
label_noted n (Jump to) = refl
label_noted n (Branch test left right to) = refl
label_noted n (Argument index from) = refl
label_noted n (Call to callee) = refl
label_noted n (Return from) = refl
label_noted n (Read to address len) = refl
label_noted n (Write stream address len) = refl
label_noted n (Exit status) = refl

module _ (own many n : ℕ) (apart : (i : ℕ) → i ≤ many → own + 2 * i ≢ n) where
  past_fine : (l k : List WordInstr) → AllFine own many l → from_label n (l ++ k) ≡ from_label n k
  past_fine [] k h = refl
  past_fine (line ∷ l) k h =
      ap (λ b. if b then Some (line ∷ (l ++ k)) else from_label n (l ++ k)) (label_noted n line)
      ∙ by (note line) (λ z. past_fine l k z) h
    where
      by : (m : Note) → (AllFine own many l → from_label n (l ++ k) ≡ from_label n k) → IsFine own many m (AllFine own many l)
          → (if has_name n m then Some (line ∷ (l ++ k)) else from_label n (l ++ k)) ≡ from_label n k
      by (stands name) go z =
          cond-false (name == n) (Some (line ∷ (l ++ k))) (from_label n (l ++ k)) (ne_eqb name n (λ e. apart z.0.0 z.0.1 (sym z.0.2 ∙ e)))
          ∙ go z.1
      by (leads to) go z = go z.1
      by neither go z = go z

  pub front_quiet : (f : Coding) → IsFront own many f → Quiet n f
  front_quiet f x k = ap (from_label n) (x.is k) ∙ past_fine (f []) k x.fine

-- ---- lines

own_high : (rest : List Line) → 7 < label_before rest
own_high rest = omega arith

-- the code of a line lets a search pass for what is none of its labels
quiet_line : (x : Around) (n own : ℕ) (line : Line) → 7 < own → IsNoLabel line → ((i : ℕ) → i ≤ length (arguments_of line) → own + 2 * i ≢ n)
    → Quiet n (whole_code x line own)
quiet_line x n own line high plain apart = front_quiet own (length (arguments_of line)) n apart (whole_code x line own) (whole_front x line own high plain)

quiet_all : (x : Around) (n own : ℕ) (line : Line) → 7 < own → ((i : ℕ) → i ≤ length (arguments_of line) → own + 2 * i ≢ n)
    → ((name : ℕ) → code.own_label name ≢ n) → Quiet n (whole_code x line own)
quiet_all x n own line high apart even = by line (kind_of line) apart
  where
    by : (line : Line) → Kind line → ((i : ℕ) → i ≤ length (arguments_of line) → own + 2 * i ≢ n) → Quiet n (whole_code x line own)
    by _ (kinds.is_label name) apart k =
        cond-false (code.own_label name == n) (Some (Label (code.own_label name) ∷ k)) (from_label n k) (ne_eqb (code.own_label name) n (even name))
    by line (is_other plain e) apart k = quiet_line x n own line high plain apart k

-- the code of all lines stands before whatever follows, too
pub lines_append : (x : Around) (lines : List Line) (k : List WordInstr) → code.lines_code x lines k ≡ code.lines_code x lines [] ++ k
lines_append x [] k = refl
lines_append x (line ∷ rest) k =
    let own : ℕ = label_before rest in
    let front : List WordInstr = whole_code x line own [] in
    line_appends x line own (own_high rest) (code.lines_code x rest k)
    ∙ ap (λ l. front ++ l) (lines_append x rest k)
    ∙ sym (append_assoc front (code.lines_code x rest []) k)
    ∙ ap (λ l. l ++ k) (sym (line_appends x line own (own_high rest) (code.lines_code x rest [])))

-- ---- where labels are found

-- names are told apart by their labels
same_name : (other name : ℕ) → (code.own_label other == code.own_label name) ≡ nat_eq other name
same_name other name = by (nat_eq other name) refl
  where
    by : (b : Bool) → nat_eq other name ≡ b → (code.own_label other == code.own_label name) ≡ b
    by true e = let f = eqb-true other name e in eq-eqb (code.own_label other) (code.own_label name) (omega (arith, f))
    by false e = let f = eqb-false other name e in ne_eqb (code.own_label other) (code.own_label name) (λ g. f (omega (arith, g)))

-- the code from where a label stands in block code on
abbrev pub code_from : Around → (k : List WordInstr) → ℕ → Option (List Line) → Option (List WordInstr)
code_from x k n None = from_label n k
code_from x k n (Some rest) = Some (code.lines_code x rest k)

pub label_found : (x : Around) (k : List WordInstr) (name : ℕ) (lines : List Line)
    → from_label (code.own_label name) (code.lines_code x lines k) ≡ code_from x k (code.own_label name) (line_from label_in name lines)
label_found x k name [] = refl
label_found x k name (line ∷ rest) = by line (kind_of line) (label_found x k name rest)
  where
    Behind : Type 0
    Behind = from_label (code.own_label name) (code.lines_code x rest k) ≡ code_from x k (code.own_label name) (line_from label_in name rest)

    here : (other : ℕ) (b : Bool) → Behind
        → (if b then Some (Label (code.own_label other) ∷ code.lines_code x rest k) else from_label (code.own_label name) (code.lines_code x rest k))
        ≡ code_from x k (code.own_label name) (if b then Some (L.Label other ∷ rest) else line_from label_in name rest)
    here other true e = refl
    here other false e = e

    by : (line : Line) → Kind line → Behind
        → from_label (code.own_label name) (whole_code x line (label_before rest) (code.lines_code x rest k))
        ≡ code_from x k (code.own_label name) (if is_name name (label_in line) then Some (line ∷ rest) else line_from label_in name rest)
    by _ (kinds.is_label other) e =
        ap (λ b. if b then Some (Label (code.own_label other) ∷ code.lines_code x rest k) else from_label (code.own_label name) (code.lines_code x rest k))
        (same_name other name) ∙ here other (nat_eq other name) e
    by line (is_other plain f) e =
        quiet_line x (code.own_label name) (label_before rest) line (own_high rest) plain (λ i few g. absurd (omega (arith, g))) (code.lines_code x rest k)
        ∙ e
        ∙ ap (λ o. code_from x k (code.own_label name) (if is_name name o then Some (line ∷ rest) else line_from label_in name rest)) (sym f)

-- labels of the lines behind are lower
pub labels_more : (before : List Line) (line : Line) (rest : List Line)
    → suc (length (arguments_of line)) + labels_in rest ≤ labels_in (before ++ line ∷ rest)
labels_more [] line rest = omega arith
labels_more (first ∷ before) line rest = let l = labels_more before line rest in omega (arith, l)

-- a label that the code of a line has of its own
pub own_found : (x : Around) (k : List WordInstr) (i : ℕ) (before : List Line) (line : Line) (rest : List Line) → i ≤ length (arguments_of line)
    → from_label (label_before rest + 2 * i) (code.lines_code x (before ++ line ∷ rest) k)
    ≡ from_label (label_before rest + 2 * i) (whole_code x line (label_before rest) (code.lines_code x rest k))
own_found x k i [] line rest few = refl
own_found x k i (first ∷ before) line rest few =
    let more = labels_more before line rest in
    let own : ℕ = label_before (before ++ line ∷ rest) in
    quiet_all x (label_before rest + 2 * i) own first (own_high (before ++ line ∷ rest)) (λ j less e. absurd (omega (arith, more, e, few)))
    (λ name e. absurd (omega (arith, e))) (code.lines_code x (before ++ line ∷ rest) k)
    ∙ own_found x k i before line rest few

-- a label below those of lines
pub trap_found : (x : Around) (k : List WordInstr) (n : ℕ) → n < 8 → (lines : List Line) → from_label n (code.lines_code x lines k) ≡ from_label n k
trap_found x k n low [] = refl
trap_found x k n low (line ∷ rest) =
    quiet_all x n (label_before rest) line (own_high rest) (λ i less e. absurd (omega (arith, e, low))) (λ name e. absurd (omega (arith, e, low)))
    (code.lines_code x rest k)
    ∙ trap_found x k n low rest

-- ---- branches

or_true : (b : Bool) → (b || true) ≡ true
or_true true = refl
or_true false = refl

pub any_behind : (n : ℕ) (k l : List WordInstr) → any_branches n l ≡ true → any_branches n (k ++ l) ≡ true
any_behind n [] l h = h
any_behind n (line ∷ k) l h = ap (λ b. branches_to n line || b) (any_behind n k l h) ∙ or_true (branches_to n line)

-- where the code of a line branches to a label, that of all lines does
pub any_among : (x : Around) (n : ℕ) (before : List Line) (line : Line) (rest : List Line)
    → any_branches n (whole_code x line (label_before rest) (code.lines_code x rest [])) ≡ true
    → any_branches n (code.lines_code x (before ++ line ∷ rest) []) ≡ true
any_among x n [] line rest h = h
any_among x n (first ∷ before) line rest h =
    let own : ℕ = label_before (before ++ line ∷ rest) in
    ap (any_branches n) (line_appends x first own (own_high (before ++ line ∷ rest)) (code.lines_code x (before ++ line ∷ rest) []))
    ∙ any_behind n (whole_code x first own []) (code.lines_code x (before ++ line ∷ rest) []) (any_among x n before line rest h)

-- none branches to a trap that isn't built
abbrev leads_to : ℕ → Note → Bool
leads_to n (leads to) = nat_eq n to
leads_to n note = false

branch_noted : (n : ℕ) (line : WordInstr) → branches_to n line ≡ leads_to n (note line)
branch_noted n (Label name) = refl
branch_noted n Spend = refl
branch_noted n (SpendIf test left right) = refl
branch_noted n (Constant to value) = refl
branch_noted n (Copy to from) = refl
branch_noted n (Compute to operation left right) = refl
branch_noted n (Sum to from value) = refl
branch_noted n (Place to at) = refl
branch_noted n (Datum to at) = refl
branch_noted n (Load to address size) = refl
branch_noted n (Store address from size) = refl
branch_noted n (Jump to) = refl
branch_noted n (Branch test left right to) = refl
branch_noted n (Argument index from) = refl
branch_noted n (Call to callee) = refl
branch_noted n (Return from) = refl
branch_noted n (Read to address len) = refl
branch_noted n (Write stream address len) = refl
branch_noted n (Exit status) = refl

module _ (own many n : ℕ) (low : 6 ≤ n) (high : n ≤ 7) where
  none_branch : (l : List WordInstr) → AllFine own many l → any_branches n l ≡ false
  none_branch [] h = refl
  none_branch (line ∷ l) h = ap (λ b. b || any_branches n l) (branch_noted n line) ∙ by (note line) (λ z. none_branch l z) h
    where
      apart : (to : ℕ) → n ≡ to → (to < 6) ⊎ (7 < to) → ⊥
      apart to e (inl less) = absurd (omega (arith, e, less, low))
      apart to e (inr more) = absurd (omega (arith, e, more, high))

      by : (m : Note) → (AllFine own many l → any_branches n l ≡ false) → IsFine own many m (AllFine own many l)
          → (leads_to n m || any_branches n l) ≡ false
      by (stands name) go z = go z.1
      by (leads to) go z = or_from (nat_eq n to) (any_branches n l) (ne_eqb n to (λ e. apart to e z.0)) (go z.1)
      by neither go z = go z

pub line_branches : (x : Around) (n own : ℕ) (line : Line) → 6 ≤ n → n ≤ 7 → 7 < own → any_branches n (code.line_code x line own []) ≡ false
line_branches x n own line low most high = by line (kind_of line)
  where
    by : (line : Line) → Kind line → any_branches n (code.line_code x line own []) ≡ false
    by _ (kinds.is_label name) = refl
    by line (is_other plain e) =
        none_branch own (length (arguments_of line)) n low most (code.line_code x line own []) (line_front x line own high plain).fine
