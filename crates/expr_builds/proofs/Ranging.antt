-- Ranges in order: where a number belongs, what a further range leaves, and what they cover.
use Rattle.std.proofs.Common.{◌≡◌, ℕ, zero, suc, ◌+◌, ◌<◌, ◌≤◌, List, [], ◌∷◌, length, refl, sym, ap, ◌∙◌, subst, arith}
use Rattle.std.proofs.Common.{⊎_elim, Some, None}
use Rattle.std.specs.Prelude.{ℤ, pos, ◌+ℤ◌, Bool, true, false, ◌&&◌, ◌||◌, if◌then◌else◌, int_le, int_lt, map, slice_get, insert, Option}
use Rattle.std.proofs.lemmas.Bool.{cases_lt}
use Rattle.std.proofs.lemmas.Option.{same_Some, slice_get_within}
use Rattle.nim_program.specs.Program.{Label, Ordinals}
use Rattle.expr_rules.specs.Choices.{clash, clashes, has_value, has_any}
use Rattle.expr_builds.specs.declared.ranges.Range.{Range}
use Rattle.expr_builds.specs.ViewLabels.{label_in, AllAbove, IsAscending, IsPlace, ends_at, begins_by, all_from, behind}

-- ---- the place of a number

above_at : (z : ℤ) (rs : List Range) → AllAbove z rs → (j : ℕ) (s : Range) → slice_get rs j ≡ Some s → int_lt z s.low ≡ true
above_at z [] h j s e = cc
above_at z (r ∷ rs) h zero s e = subst (λ (x : Range). int_lt z x.low ≡ true) (same_Some r s e) h.0
above_at z (r ∷ rs) h (suc j) s e = above_at z rs h.1 j s e

proper_at : (rs : List Range) → IsAscending rs → (j : ℕ) (s : Range) → slice_get rs j ≡ Some s → int_le s.low s.high ≡ true
proper_at [] h j s e = cc
proper_at (r ∷ rs) h zero s e = subst (λ (x : Range). int_le x.low x.high ≡ true) (same_Some r s e) h.0
proper_at (r ∷ rs) h (suc j) s e = proper_at rs h.2 j s e

less_on : (a b c : ℤ) → int_lt a b ≡ true → int_le b c ≡ true → int_lt a c ≡ true
less_on a b c h k = grind arith

less_less : (a b c : ℤ) → int_lt a b ≡ true → int_lt b c ≡ true → int_lt a c ≡ true
less_less a b c h k = grind arith

not_less : (a b c : ℤ) → int_lt a b ≡ true → int_lt a c ≡ false → int_lt b c ≡ false
not_less a b c h k = grind arith

ends_rise : (rs : List Range) → IsAscending rs → (i j : ℕ) (r s : Range) → i < j → slice_get rs i ≡ Some r → slice_get rs j ≡ Some s
    → int_lt r.high s.high ≡ true
ends_rise [] h i j r s lt e f = cc
ends_rise (x ∷ rs) h zero zero r s lt e f = absurd (omega (arith, lt))
ends_rise (x ∷ rs) h zero (suc j) r s lt e f =
    less_on r.high s.low s.high
    (subst (λ (y : Range). int_lt y.high s.low ≡ true) (same_Some x r e) (above_at x.high rs h.1 j s f)) (proper_at rs h.2 j s f)
ends_rise (x ∷ rs) h (suc i) zero r s lt e f = absurd (omega (arith, lt))
ends_rise (x ∷ rs) h (suc i) (suc j) r s lt e f = ends_rise rs h.2 i j r s (omega (arith, lt)) e f

none_within : (rs : List Range) (m : ℕ) → slice_get rs m ≡ None → length rs ≤ m
none_within [] m e = omega arith
none_within (r ∷ rs) zero e = cc
none_within (r ∷ rs) (suc m) e = let k = none_within rs m e in omega (arith, k)

before_one : (rs : List Range) (z : ℤ) (m : ℕ) (s : Range) → IsAscending rs → slice_get rs m ≡ Some s → int_lt s.high z ≡ true
    → (j : ℕ) (r : Range) → j < suc m → slice_get rs j ≡ Some r → int_lt r.high z ≡ true
before_one rs z m s h g l j r lt e =
    ⊎_elim (λ (k : j < m). less_less r.high s.high z (ends_rise rs h j m r s k e g) l)
    (λ (k : m ≤ j).
    let same : j ≡ m = omega (arith, k, lt) in
    subst (λ (x : Range). int_lt x.high z ≡ true) (same_Some s r (sym g ∙ ap (slice_get rs) (sym same) ∙ e)) l)
    (cases_lt j m)

behind_one : (rs : List Range) (z : ℤ) (m : ℕ) (s : Range) → IsAscending rs → slice_get rs m ≡ Some s → int_lt s.high z ≡ false
    → (j : ℕ) (r : Range) → m ≤ j → slice_get rs j ≡ Some r → int_lt r.high z ≡ false
behind_one rs z m s h g l j r le e =
    ⊎_elim (λ (k : m < j). not_less s.high r.high z (ends_rise rs h m j s r k g e) l)
    (λ (k : j ≤ m).
    let same : j ≡ m = omega (arith, k, le) in
    subst (λ (x : Range). int_lt x.high z ≡ false) (same_Some s r (sym g ∙ ap (slice_get rs) (sym same) ∙ e)) l)
    (cases_lt m j)

pub before_too : (rs : List Range) (n : Range) (m : ℕ) → IsAscending rs → ends_at (slice_get rs m) n ≡ true
    → (j : ℕ) (r : Range) → j < m + 1 → slice_get rs j ≡ Some r → int_lt r.high n.low ≡ true
before_too rs n m h l j r lt e = by_entry (slice_get rs m) refl l
  where
    by_entry : (o : Option Range) → slice_get rs m ≡ o → ends_at o n ≡ true → int_lt r.high n.low ≡ true
    by_entry None g l = cc
    by_entry (Some s) g l = before_one rs n.low m s h g l j r (omega (arith, lt)) e

pub behind_too : (rs : List Range) (n : Range) (m : ℕ) → IsAscending rs → ends_at (slice_get rs m) n ≡ false
    → (j : ℕ) (r : Range) → m ≤ j → slice_get rs j ≡ Some r → int_lt r.high n.low ≡ false
behind_too rs n m h l j r le e = by_entry (slice_get rs m) refl l
  where
    by_entry : (o : Option Range) → slice_get rs m ≡ o → ends_at o n ≡ false → int_lt r.high n.low ≡ false
    by_entry None g l = absurd (omega (arith, le, none_within rs m g, slice_get_within rs j r e))
    by_entry (Some s) g l = behind_one rs n.low m s h g l j r le e

place_next : (x : Range) (rs : List Range) (z : ℤ) (i : ℕ) → IsPlace (x ∷ rs) z (suc i) → IsPlace rs z i
place_next x rs z i p = record {
  before = λ j r lt e. p.before (suc j) r (omega (arith, lt)) e;
  behind = λ j r le e. p.behind (suc j) r (omega (arith, le)) e;
}

-- ---- whether some range meets another

ends_short : (a b c d : ℤ) (rest : Bool) → int_lt d a ≡ true → ((int_le a d && int_le c b) || rest) ≡ rest
ends_short a b c d rest h = let e : int_le a d ≡ false = grind arith in ap (λ x. (x && int_le c b) || rest) e

begins_long : (a b c d : ℤ) (rest : Bool) → int_lt b c ≡ true → ((int_le a d && int_le c b) || rest) ≡ rest
begins_long a b c d rest h = let e : int_le c b ≡ false = grind arith in by_first (int_le a d) e
  where
    by_first : (x : Bool) → int_le c b ≡ false → ((x && int_le c b) || rest) ≡ rest
    by_first true e = ap (λ y. y || rest) e
    by_first false e = refl

none_later : (z a b : ℤ) (rs : List Range) → AllAbove z rs → int_le b z ≡ true → clashes (Ordinals a b) (map label_in rs) ≡ false
none_later z a b [] h le = refl
none_later z a b (r ∷ rs) h le =
    begins_long a b r.low r.high (clashes (Ordinals a b) (map label_in rs)) (let k : int_lt z r.low ≡ true = h.0 in grind arith)
    ∙ none_later z a b rs h.1 le

meets_here : (a b c d : ℤ) (rest : Bool) → int_lt d a ≡ false → (int_le c b ≡ false → rest ≡ false)
    → ((int_le a d && int_le c b) || rest) ≡ int_le c b
meets_here a b c d rest h k =
    let e : int_le a d ≡ true = grind arith in
    ap (λ x. (x && int_le c b) || rest) e ∙ by_last (int_le c b) k
  where
    by_last : (x : Bool) → (x ≡ false → rest ≡ false) → (x || rest) ≡ x
    by_last true k = refl
    by_last false k = k refl

found_at : (rs : List Range) (a b : ℤ) (i : ℕ) (r : Range) → IsAscending rs → IsPlace rs a i → slice_get rs i ≡ Some r
    → clashes (Ordinals a b) (map label_in rs) ≡ int_le r.low b
found_at [] a b i r h p e = cc
found_at (x ∷ rs) a b zero r h p e =
    meets_here a b x.low x.high (clashes (Ordinals a b) (map label_in rs)) (p.behind 0 x (omega arith) refl)
    (λ n. none_later x.high a b rs h.1 (let proper : int_le x.low x.high ≡ true = h.0 in grind arith))
    ∙ ap (λ (y : Range). int_le y.low b) (same_Some x r e)
found_at (x ∷ rs) a b (suc i) r h p e =
    ends_short a b x.low x.high (clashes (Ordinals a b) (map label_in rs)) (p.before 0 x (omega arith) refl)
    ∙ found_at rs a b i r h.2 (place_next x rs a i p) e

none_at : (rs : List Range) (a b : ℤ) (i : ℕ) → IsPlace rs a i → slice_get rs i ≡ None → clashes (Ordinals a b) (map label_in rs) ≡ false
none_at [] a b i p e = refl
none_at (x ∷ rs) a b zero p e = cc
none_at (x ∷ rs) a b (suc i) p e =
    ends_short a b x.low x.high (clashes (Ordinals a b) (map label_in rs)) (p.before 0 x (omega arith) refl)
    ∙ none_at rs a b i (place_next x rs a i p) e

pub meets_is : (rs : List Range) (n : Range) (i : ℕ) → IsAscending rs → IsPlace rs n.low i
    → clashes (label_in n) (map label_in rs) ≡ begins_by (slice_get rs i) n
meets_is rs n i h p = by_entry (slice_get rs i) refl
  where
    by_entry : (o : Option Range) → slice_get rs i ≡ o → clashes (label_in n) (map label_in rs) ≡ begins_by o n
    by_entry None g = none_at rs n.low n.high i p g
    by_entry (Some r) g = found_at rs n.low n.high i r h p g

-- ---- a further range

or_swap : (a b c : Bool) → (a || (b || c)) ≡ (b || (a || c))
or_swap true true c = refl
or_swap true false c = refl
or_swap false b c = refl

neither : (a b : Bool) → (a || b) ≡ false → (a ≡ false) × (b ≡ false)
neither true b e = cc
neither false b e = (refl, e)

above_less : (y z : ℤ) (rs : List Range) → int_le y z ≡ true → AllAbove z rs → AllAbove y rs
above_less y z [] le h = tt
above_less y z (r ∷ rs) le h = (let k : int_lt z r.low ≡ true = h.0 in grind arith, above_less y z rs le h.1)

above_insert : (z : ℤ) (rs : List Range) (i : ℕ) (n : Range) → AllAbove z rs → int_lt z n.low ≡ true → i ≤ length rs
    → AllAbove z (insert rs i n)
above_insert z [] zero n h k le = (k, tt)
above_insert z [] (suc i) n h k le = absurd (omega (arith, le))
above_insert z (r ∷ rs) zero n h k le = (k, h)
above_insert z (r ∷ rs) (suc i) n h k le = (h.0, above_insert z rs i n h.1 k (omega (arith, le)))

apart : (a b c d : ℤ) → int_lt d a ≡ false → (int_le a d && int_le c b) ≡ false → int_lt b c ≡ true
apart a b c d h k = let e : int_le a d ≡ true = grind arith in let f : int_le c b ≡ false = sym (ap (λ x. x && int_le c b) e) ∙ k in grind arith

pub ascending_insert : (rs : List Range) (i : ℕ) (n : Range) → IsAscending rs → i ≤ length rs → IsPlace rs n.low i → int_le n.low n.high ≡ true
    → clashes (label_in n) (map label_in rs) ≡ false → IsAscending (insert rs i n)
ascending_insert [] zero n h le p o c = (o, tt, tt)
ascending_insert [] (suc i) n h le p o c = absurd (omega (arith, le))
ascending_insert (x ∷ rs) zero n h le p o c =
    let free = neither (int_le n.low x.high && int_le x.low n.high) (clashes (label_in n) (map label_in rs)) c in
    let k : int_lt n.high x.low ≡ true = apart n.low n.high x.low x.high (p.behind 0 x (omega arith) refl) free.0 in
    let proper : int_le x.low x.high ≡ true = h.0 in
    (o, (k, above_less n.high x.high rs (grind arith) h.1), h)
ascending_insert (x ∷ rs) (suc i) n h le p o c =
    let free = neither (int_le n.low x.high && int_le x.low n.high) (clashes (label_in n) (map label_in rs)) c in (
      h.0,
      above_insert x.high rs i n h.1 (p.before 0 x (omega arith) refl) (omega (arith, le)),
      ascending_insert rs i n h.2 (omega (arith, le)) (place_next x rs n.low i p) o free.1,
    )

pub clashes_insert : (l : Label) (rs : List Range) (i : ℕ) (n : Range) → i ≤ length rs
    → clashes l (map label_in (insert rs i n)) ≡ (clash l (label_in n) || clashes l (map label_in rs))
clashes_insert l [] zero n le = refl
clashes_insert l [] (suc i) n le = absurd (omega (arith, le))
clashes_insert l (x ∷ rs) zero n le = refl
clashes_insert l (x ∷ rs) (suc i) n le =
    ap (λ b. clash l (label_in x) || b) (clashes_insert l rs i n (omega (arith, le)))
    ∙ or_swap (clash l (label_in x)) (clash l (label_in n)) (clashes l (map label_in rs))

-- ---- what they cover

beyond : {C : Type 0} (from to z : ℤ) → int_lt to from ≡ true → int_le from z ≡ true → int_le z to ≡ true → C
beyond from to z e h g = grind arith

or_behind : (b c : Bool) → c ≡ true → (b || c) ≡ true
or_behind true c e = refl
or_behind false c e = e

reach : (next high z : ℤ) → int_le next z ≡ true → int_le z high ≡ false → (b : Bool) → int_le (if b then next else high +ℤ pos 1) z ≡ true
reach next high z h k true = h
reach next high z h k false = grind arith

pub all_so : (rs : List Range) (next to z : ℤ) → all_from next to rs ≡ true → int_le next z ≡ true → int_le z to ≡ true
    → has_any z (map label_in rs) ≡ true
all_so [] next to z e h g = beyond next to z e h g
all_so (r ∷ rs) next to z e h g = by_low (λ e k. all_so rs (behind next r) to z e k g) (int_lt next r.low) refl e
  where
    by_end : (int_le (behind next r) z ≡ true → has_any z (map label_in rs) ≡ true) → int_lt next r.low ≡ false → (b : Bool)
        → int_le z r.high ≡ b
        → has_any z (map label_in (r ∷ rs)) ≡ true
    by_end more l true k =
        let low : int_le r.low z ≡ true = grind arith in
        ap (λ b. (b && int_le z r.high) || has_any z (map label_in rs)) low ∙ ap (λ b. b || has_any z (map label_in rs)) k
    by_end more l false k = or_behind (has_value z (label_in r)) (has_any z (map label_in rs)) (more (reach next r.high z h k (int_lt r.high next)))

    by_low : (all_from (behind next r) to rs ≡ true → int_le (behind next r) z ≡ true → has_any z (map label_in rs) ≡ true) → (b : Bool)
        → int_lt next r.low ≡ b → (if b then int_lt to next else all_from (behind next r) to rs) ≡ true → has_any z (map label_in (r ∷ rs)) ≡ true
    by_low more true l e = beyond next to z e h g
    by_low more false l e = by_end (more e) l (int_le z r.high) refl

none_has : (y z : ℤ) (rs : List Range) → AllAbove z rs → int_le y z ≡ true → has_any y (map label_in rs) ≡ false
none_has y z [] h le = refl
none_has y z (r ∷ rs) h le =
    let k : int_lt z r.low ≡ true = h.0 in
    let low : int_le r.low y ≡ false = grind arith in
    ap (λ b. (b && int_le y r.high) || has_any y (map label_in rs)) low ∙ none_has y z rs h.1 le

abbrev AllHad : List Range → ℤ → ℤ → Type 0
AllHad rs next to = (z : ℤ) → int_le next z ≡ true → int_le z to ≡ true → has_any z (map label_in rs) ≡ true

past : (next high z : ℤ) (b : Bool) → int_lt high next ≡ b → int_le (if b then next else high +ℤ pos 1) z ≡ true → int_le z high ≡ false
past next high z true e k = grind arith
past next high z false e k = grind arith

from_next : (next high z : ℤ) (b : Bool) → int_lt high next ≡ b → int_le (if b then next else high +ℤ pos 1) z ≡ true → int_le next z ≡ true
from_next next high z true e k = k
from_next next high z false e k = grind arith

short : (x y c : Bool) → y ≡ false → ((x && y) || c) ≡ true → c ≡ true
short true y c e k = sym (ap (λ y. y || c) e) ∙ k
short false y c e k = k

not_up : (b a : ℤ) → int_lt a b ≡ true → int_le b a ≡ false
not_up b a h = grind arith

up_on : (a b c : ℤ) → int_lt a b ≡ true → int_le b c ≡ true → int_le a c ≡ true
up_on a b c h k = grind arith

up_same : (a : ℤ) → int_le a a ≡ true
up_same a = grind arith

up_from : (a b : ℤ) → int_lt a b ≡ false → int_le b a ≡ true
up_from a b h = grind arith

gap : (rs : List Range) (r : Range) (next to : ℤ) → IsAscending (r ∷ rs) → AllHad (r ∷ rs) next to → int_lt next r.low ≡ true → (b : Bool)
    → int_lt to next ≡ b → b ≡ true
gap rs r next to h f l true e = refl
gap rs r next to h f l false e =
    let none : has_any next (map label_in (r ∷ rs)) ≡ false =
    ap (λ b. (b && int_le next r.high) || has_any next (map label_in rs)) (not_up r.low next l)
    ∙ none_has next r.high rs h.1 (up_on next r.low r.high l h.0) in
    let some : has_any next (map label_in (r ∷ rs)) ≡ true = f next (up_same next) (up_from to next e) in
    cc

pub all_back : (rs : List Range) (next to : ℤ) → IsAscending rs → AllHad rs next to → all_from next to rs ≡ true
all_back [] next to h f = by_end (int_lt to next) refl
  where
    by_end : (b : Bool) → int_lt to next ≡ b → b ≡ true
    by_end true e = refl
    by_end false e = let n : false ≡ true = f next (up_same next) (up_from to next e) in cc
all_back (r ∷ rs) next to h f = by_low (λ f. all_back rs (behind next r) to h.2 f) (int_lt next r.low) refl
  where
    by_low : (AllHad rs (behind next r) to → all_from (behind next r) to rs ≡ true) → (b : Bool) → int_lt next r.low ≡ b
        → (if b then int_lt to next else all_from (behind next r) to rs) ≡ true
    by_low more true l = gap rs r next to h f l (int_lt to next) refl
    by_low more false l =
        more (λ z g t.
        short (int_le r.low z) (int_le z r.high) (has_any z (map label_in rs)) (past next r.high z (int_lt r.high next) refl g)
        (f z (from_next next r.high z (int_lt r.high next) refl g) t))
