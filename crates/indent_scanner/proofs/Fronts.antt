-- How far a form goes, and which front is the longest whole one.
use Rattle.std.proofs.Common.{◌≡◌, ℕ, zero, suc, ◌+◌, ◌*◌, ◌-◌, ◌<◌, ◌≤◌, min, ◌⊎◌, List, [], ◌∷◌, length, get_or, Bool, true, false, refl, sym, ap, subst, ◌∙◌}
use Rattle.std.proofs.Common.{inl, inr, arith, add-one}
use Rattle.std.specs.Prelude.{Option, Some, None, cond, nat_le, ◌==◌, if◌then◌else◌, ◌&&◌}
use Rattle.indent_scanner.specs.declared.shape.Quote.{Quote}
use Rattle.indent_scanner.specs.declared.shape.Quote.TheVariants as Q
use Rattle.indent_scanner.specs.declared.shape.Last.{Last}
use Rattle.indent_scanner.specs.declared.shape.Last.TheVariants as L
use Rattle.indent_scanner.specs.declared.shape.Shape.{Shape}
use Rattle.indent_scanner.specs.declared.shape.Shape.TheVariants.{Word, WordUnder, BrokenWord, Zero, Number, NumberUnder, BrokenNumber, Inside, Escaped, Hex}
use Rattle.indent_scanner.specs.declared.shape.Shape.TheVariants.{Decimal, CharWhole, TextWhole, Quoted, QuotedWhole, Line, Nested, NestedWhole, Single}
use Rattle.indent_scanner.specs.declared.shape.Shape.TheVariants.{StarColon, Run}
use Rattle.indent_scanner.specs.Bytes.{is_word, is_digit, hex_value, digit_value, simple_escape, is_quotable}
use Rattle.indent_scanner.specs.Shape.{with_digit, digit_step, digit_due_step, character, plain_step, inside_step, decimal_step, simple_step, escaped_step}
use Rattle.indent_scanner.specs.Shape.{hex_step, nested_on, nested_step, run_step, step, is_whole, depth_of, and_then, form, LongestForm, NoForm}

-- ---- what is so of each form that a step gives

abbrev pub Each : (Shape → Type 0) → Option Shape → Type 0
Each P None = Unit {0}
Each P (Some t) = P t

module _ (P : Shape → Type 0) where
  pub if_each : (v : Bool) (a b : Option Shape) → Each P a → Each P b → Each P (cond v a b)
  if_each true a b x y = x
  if_each false a b x y = y

  pub if_shape : (v : Bool) (a b : Shape) → P a → P b → P (cond v a b)
  if_shape true a b x y = x
  if_shape false a b x y = y

  pub one_each : (o : Option Shape) (t : Shape) → o ≡ Some t → Each P o → P t
  one_each o t e h = subst (Each P) e h

  pub with_digit_each : (base value : ℕ) (d : Option ℕ) → ((v : ℕ) → P (Number base v)) → P BrokenNumber → P (with_digit base value d)
  with_digit_each base value None n broken = broken
  with_digit_each base value (Some d) n broken = n (min (value * base + d) 2147483648)

  pub digit_each : (base value b : ℕ) → ((v : ℕ) → P (Number base v)) → ((v : ℕ) → P (NumberUnder base v)) → P BrokenNumber → Each P (digit_step base value b)
  digit_each base value b n under broken =
      if_each (is_word b) _ None (if_each (b == 95) (Some (NumberUnder base value)) (Some (with_digit base value (digit_value base b))) (under value)
      (with_digit_each base value (digit_value base b) n broken)) tt

  pub digit_due_each : (base value b : ℕ) → ((v : ℕ) → P (Number base v)) → P BrokenNumber → Each P (digit_due_step base value b)
  digit_due_each base value b n broken = if_each (is_word b) (Some (with_digit base value (digit_value base b))) None
      (with_digit_each base value (digit_value base b) n broken) tt

  character_each : (q : Quote) (value : ℕ) → ((o : Option ℕ) → P (Inside q o)) → Each P (character q value)
  character_each q value inside = if_each (nat_le value 255) (Some (Inside q (Some value))) None (inside (Some value)) tt

  plain_each : (q : Quote) (b : ℕ) → ((o : Option ℕ) → P (Inside q o)) → P (Escaped q) → Each P (plain_step q b)
  plain_each q b inside escaped = if_each (b == 92) (Some (Escaped q)) (if b == 10 then None else Some (Inside q (Some b))) escaped
      (if_each (b == 10) None (Some (Inside q (Some b))) tt (inside (Some b)))

  pub inside_each : (q : Quote) (o : Option ℕ) (b : ℕ) → ((r : Option ℕ) → P (Inside q r)) → P (Escaped q) → ((v : ℕ) → q ≡ Q.Char → P (CharWhole v))
      → (q ≡ Q.Text → P TextWhole) → Each P (inside_step q o b)
  inside_each Q.Text o b inside escaped char text = if_each (b == 34) (Some TextWhole) (plain_step Q.Text b) (text refl) (plain_each Q.Text b inside escaped)
  inside_each Q.Char None b inside escaped char text = if_each (b == 39) None (plain_step Q.Char b) tt (plain_each Q.Char b inside escaped)
  inside_each Q.Char (Some v) b inside escaped char text = if_each (b == 39) (Some (CharWhole v)) None (char v refl) tt

  pub decimal_each : (q : Quote) (value b next : ℕ) → ((r : Option ℕ) → P (Inside q r)) → ((v : ℕ) → P (Decimal q v)) → Each P (decimal_step q value b next)
  decimal_each q value b next inside decimal =
      let w = value * 10 + (b - 48) in
      if_each (is_digit next) (if nat_le w 255 then Some (Decimal q w) else None) (character q w)
      (if_each (nat_le w 255) (Some (Decimal q w)) None (decimal w) tt) (character_each q w inside)

  pub simple_each : (q : Quote) (o : Option ℕ) → ((r : Option ℕ) → P (Inside q r)) → Each P (simple_step q o)
  simple_each q None inside = tt
  simple_each q (Some v) inside = inside (Some v)

  pub escaped_each : (q : Quote) (b next : ℕ) → ((r : Option ℕ) → P (Inside q r)) → ((v : ℕ) → P (Decimal q v)) → ((h : Option ℕ) → P (Hex q h))
      → Each P (escaped_step q b next)
  escaped_each q b next inside decimal hex =
      if_each (is_digit b) (decimal_step q 0 b next) (if b == 120 then Some (Hex q None) else simple_step q (simple_escape b))
      (decimal_each q 0 b next inside decimal)
      (if_each (b == 120) (Some (Hex q None)) (simple_step q (simple_escape b)) (hex None) (simple_each q (simple_escape b) inside))

  pub hex_each : (q : Quote) (h d : Option ℕ) → ((r : Option ℕ) → P (Inside q r)) → ((o : Option ℕ) → P (Hex q o)) → Each P (hex_step q h d)
  hex_each q h None inside hex = tt
  hex_each q None (Some d) inside hex = hex (Some d)
  hex_each q (Some h) (Some d) inside hex = character_each q (h * 16 + d) inside

  run_each : (dot : Bool) (b next : ℕ) → ((d : Bool) → P (Run d)) → Each P (run_step dot b next)
  run_each dot b next run = if_each _ (Some (Run (b == 46))) None (run (b == 46)) tt

-- ---- comments open one at a time

abbrev AtMost : ℕ → Shape → Type 0
AtMost k s = depth_of s ≤ k

nested_on_deep : (depth k b : ℕ) → depth ≤ k → AtMost k (nested_on depth b)
nested_on_deep depth k b le = if_shape (AtMost k) (b == 35) _ _ le (if_shape (AtMost k) (b == 93) _ _ le le)

nested_deep : (depth : ℕ) (last : Last) (b : ℕ) → AtMost (suc depth) (nested_step depth last b)
nested_deep depth L.Hash b =
    let one : depth + 1 ≤ suc depth = omega arith in
    let same : depth ≤ suc depth = omega arith in
    if_shape (AtMost (suc depth)) (b == 91) (Nested (depth + 1) L.Other) (nested_on depth b) one (nested_on_deep depth (suc depth) b same)
nested_deep depth L.Bracket b =
    let less : depth - 1 ≤ suc depth = omega arith in let none : 0 ≤ suc depth = omega arith in let same : depth ≤ suc depth = omega arith in
    if_shape (AtMost (suc depth)) (b == 35) (if nat_le depth 1 then NestedWhole else Nested (depth - 1) L.Other) (nested_on depth b)
    (if_shape (AtMost (suc depth)) (nat_le depth 1) NestedWhole (Nested (depth - 1) L.Other) none less) (nested_on_deep depth (suc depth) b same)
nested_deep depth L.Other b = let same : depth ≤ suc depth = omega arith in nested_on_deep depth (suc depth) b same

deeper : (s : Shape) (b next : ℕ) → Each (AtMost (suc (depth_of s))) (step s b next)
deeper s b next = by_shape s
  where
    by_shape : (s : Shape) → Each (AtMost (suc (depth_of s))) (step s b next)
    by_shape Word = let z : 0 ≤ 1 = omega arith in if_each (AtMost 1) (is_word b) _ None (if_each (AtMost 1) (b == 95) (Some WordUnder) (Some Word) z z) tt
    by_shape WordUnder =
        let z : 0 ≤ 1 = omega arith in
        if_each (AtMost 1) (is_word b) _ None (if_each (AtMost 1) (b == 95) (Some BrokenWord) (Some Word) z z) tt
    by_shape BrokenWord = let z : 0 ≤ 1 = omega arith in if_each (AtMost 1) (is_word b) (Some BrokenWord) None z tt
    by_shape Zero =
        let z : 0 ≤ 1 = omega arith in
        if_each (AtMost 1) (b == 120) (Some (NumberUnder 16 0)) _ z
        (if_each (AtMost 1) (b == 111) (Some (NumberUnder 8 0)) _ z
        (if_each (AtMost 1) (b == 98) (Some (NumberUnder 2 0)) (digit_step 10 0 b) z (digit_each (AtMost 1) 10 0 b (λ v. z) (λ v. z) z)))
    by_shape (Number base value) = let z : 0 ≤ 1 = omega arith in digit_each (AtMost 1) base value b (λ v. z) (λ v. z) z
    by_shape (NumberUnder base value) = let z : 0 ≤ 1 = omega arith in digit_due_each (AtMost 1) base value b (λ v. z) z
    by_shape BrokenNumber = let z : 0 ≤ 1 = omega arith in if_each (AtMost 1) (is_word b) (Some BrokenNumber) None z tt
    by_shape (Inside q o) = let z : 0 ≤ 1 = omega arith in inside_each (AtMost 1) q o b (λ r. z) z (λ v e. z) (λ e. z)
    by_shape (Escaped q) = let z : 0 ≤ 1 = omega arith in escaped_each (AtMost 1) q b next (λ r. z) (λ v. z) (λ h. z)
    by_shape (Hex q h) = let z : 0 ≤ 1 = omega arith in hex_each (AtMost 1) q h (hex_value b) (λ r. z) (λ o. z)
    by_shape (Decimal q v) = let z : 0 ≤ 1 = omega arith in decimal_each (AtMost 1) q v b next (λ r. z) (λ w. z)
    by_shape (CharWhole v) = tt
    by_shape TextWhole = tt
    by_shape (Quoted some) =
        let z : 0 ≤ 1 = omega arith in
        if_each (AtMost 1) (is_quotable b) (Some (Quoted true)) (if b == 96 && some then Some QuotedWhole else None) z
        (if_each (AtMost 1) (b == 96 && some) (Some QuotedWhole) None z tt)
    by_shape QuotedWhole = tt
    by_shape Line = let z : 0 ≤ 1 = omega arith in if_each (AtMost 1) _ (Some Line) None z tt
    by_shape (Nested depth last) = nested_deep depth last b
    by_shape NestedWhole = tt
    by_shape (Single first) =
        let z : 0 ≤ 1 = omega arith in
        if_each (AtMost 1) _ (Some StarColon) (run_step (first == 46) b next) z (run_each (AtMost 1) (first == 46) b next (λ d. z))
    by_shape StarColon = let z : 0 ≤ 1 = omega arith in run_each (AtMost 1) false b next (λ d. z)
    by_shape (Run dot) = let z : 0 ≤ 1 = omega arith in run_each (AtMost 1) dot b next (λ d. z)

pub deeper_at : (s t : Shape) (b next : ℕ) → step s b next ≡ Some t → depth_of t ≤ suc (depth_of s)
deeper_at s t b next e = one_each (AtMost (suc (depth_of s))) (step s b next) t e (deeper s b next)

-- ---- what is whole stays so

abbrev IsWhole : Shape → Type 0
IsWhole s = is_whole s ≡ true

stays : (s : Shape) (b next : ℕ) → is_whole s ≡ true → Each IsWhole (step s b next)
stays Word b next w = if_each IsWhole (is_word b) _ None (if_each IsWhole (b == 95) (Some WordUnder) (Some Word) refl refl) tt
stays WordUnder b next w = if_each IsWhole (is_word b) _ None (if_each IsWhole (b == 95) (Some BrokenWord) (Some Word) refl refl) tt
stays BrokenWord b next w = if_each IsWhole (is_word b) (Some BrokenWord) None refl tt
stays Zero b next w = if_each IsWhole (b == 120) (Some (NumberUnder 16 0)) _ refl
    (if_each IsWhole (b == 111) (Some (NumberUnder 8 0)) _ refl
    (if_each IsWhole (b == 98) (Some (NumberUnder 2 0)) (digit_step 10 0 b) refl (digit_each IsWhole 10 0 b (λ v. refl) (λ v. refl) refl)))
stays (Number base value) b next w = digit_each IsWhole base value b (λ v. refl) (λ v. refl) refl
stays (NumberUnder base value) b next w = digit_due_each IsWhole base value b (λ v. refl) refl
stays BrokenNumber b next w = if_each IsWhole (is_word b) (Some BrokenNumber) None refl tt
stays (Inside q o) b next w = (let f : ⊥ = cc in absurd f)
stays (Escaped q) b next w = (let f : ⊥ = cc in absurd f)
stays (Hex q h) b next w = (let f : ⊥ = cc in absurd f)
stays (Decimal q v) b next w = (let f : ⊥ = cc in absurd f)
stays (CharWhole v) b next w = tt
stays TextWhole b next w = tt
stays (Quoted some) b next w = (let f : ⊥ = cc in absurd f)
stays QuotedWhole b next w = tt
stays Line b next w = if_each IsWhole _ (Some Line) None refl tt
stays (Nested depth last) b next w = (let f : ⊥ = cc in absurd f)
stays NestedWhole b next w = tt
stays (Single first) b next w = if_each IsWhole _ (Some StarColon) (run_step (first == 46) b next) refl (run_each IsWhole (first == 46) b next (λ d. refl))
stays StarColon b next w = run_each IsWhole false b next (λ d. refl)
stays (Run dot) b next w = run_each IsWhole dot b next (λ d. refl)

-- ---- one byte further

pub some_same : {A : Type 0} {x y : A} (o : Option A) → o ≡ Some x → o ≡ Some y → x ≡ y
some_same o p q = cc

pub no_some : {A : Type 0} {x : A} (o : Option A) → o ≡ None → o ≡ Some x → ⊥
no_some o p q = cc

pub first_step : (s t : Shape) (n b : ℕ) (bytes : List ℕ) → form s (suc n) (b ∷ bytes) ≡ Some t → (u : Shape) × (step s b (get_or bytes 0 0) ≡ Some u)
    × (form u n bytes ≡ Some t)
first_step s t n b bytes e = by_step (step s b (get_or bytes 0 0)) refl e
  where
    by_step : (o : Option Shape) → step s b (get_or bytes 0 0) ≡ o → and_then o (λ u. form u n bytes) ≡ Some t
        → (u : Shape) × (step s b (get_or bytes 0 0) ≡ Some u) × (form u n bytes ≡ Some t)
    by_step None is e = (let f : ⊥ = cc in absurd f)
    by_step (Some u) is e = (u, is, e)

pub then_form : (s u : Shape) (n b : ℕ) (bytes : List ℕ) → step s b (get_or bytes 0 0) ≡ Some u → form s (suc n) (b ∷ bytes) ≡ form u n bytes
then_form s u n b bytes e = ap (λ o. and_then o (λ t. form t n bytes)) e

last_step : (o : Option Shape) (bytes : List ℕ) → and_then o (λ t. form t 0 bytes) ≡ o
last_step None bytes = refl
last_step (Some t) bytes = refl

form_suc : (n : ℕ) (bytes : List ℕ) (s t : Shape) → n < length bytes → form s n bytes ≡ Some t → form s (suc n) bytes ≡ step t (get_or bytes n 0)
    (get_or bytes (suc n) 0)
form_suc n [] s t lt e = (let f : ⊥ = omega arith in absurd f)
form_suc zero (b ∷ bytes) s t lt e = last_step (step s b (get_or bytes 0 0)) bytes ∙ ap (λ x. step x b (get_or bytes 0 0)) (some_same _ refl e)
form_suc (suc n) (b ∷ bytes) s t lt e = let f = first_step s t n b bytes e in then_form s f.0 (suc n) b bytes f.1 ∙ form_suc n bytes f.0 t (omega arith) f.2

pub form_more : (n : ℕ) (bytes : List ℕ) (s t : Shape) → n < length bytes → form s n bytes ≡ Some t → form s (n + 1) bytes ≡ step t (get_or bytes n 0)
    (get_or bytes (n + 1) 0)
form_more n bytes s t lt e = rw (add-one n) (form_suc n bytes s t lt e)

never : (o : Option Shape) (f : Shape → Option Shape) → ((t : Shape) → f t ≡ None) → and_then o f ≡ None
never None f h = refl
never (Some t) f h = h t

form_beyond : (n : ℕ) (bytes : List ℕ) (s : Shape) → length bytes ≤ n → form s (suc n) bytes ≡ None
form_beyond n [] s le = refl
form_beyond zero (b ∷ bytes) s le = (let f : ⊥ = omega arith in absurd f)
form_beyond (suc n) (b ∷ bytes) s le = never (step s b (get_or bytes 0 0)) (λ t. form t (suc n) bytes) (λ t. form_beyond n bytes t (omega arith))

pub form_over : (n : ℕ) (bytes : List ℕ) (s : Shape) → length bytes ≤ n → form s (n + 1) bytes ≡ None
form_over n bytes s le = rw (add-one n) (form_beyond n bytes s le)

-- what each step keeps, a form keeps
pub form_keeps : (P : Shape → Type 0) → ((s : Shape) (b next : ℕ) → P s → Each P (step s b next)) → (n : ℕ) (bytes : List ℕ) (s t : Shape) → P s
    → form s n bytes ≡ Some t → P t
form_keeps P keeps zero bytes s t p e = subst P (some_same _ refl e) p
form_keeps P keeps (suc n) [] s t p e = (let f : ⊥ = cc in absurd f)
form_keeps P keeps (suc n) (b ∷ bytes) s t p e =
    let f = first_step s t n b bytes e in
    form_keeps P keeps n bytes f.0 t (one_each P _ f.0 f.1 (keeps s b (get_or bytes 0 0) p)) f.2

-- ---- the longest whole front

front_form : (k m : ℕ) (bytes : List ℕ) (s u : Shape) → k ≤ m → form s m bytes ≡ Some u → (v : Shape) × (form s k bytes ≡ Some v)
front_form zero m bytes s u le e = (s, refl)
front_form (suc k) zero bytes s u le e = (let f : ⊥ = omega arith in absurd f)
front_form (suc k) (suc m) [] s u le e = (let f : ⊥ = cc in absurd f)
front_form (suc k) (suc m) (b ∷ bytes) s u le e =
    let f = first_step s u m b bytes e in
    let g = front_form k m bytes f.0 u (omega arith) f.2 in
    (g.0, then_form s f.0 k b bytes f.1 ∙ g.1)

pub whole_on : (n : ℕ) (bytes : List ℕ) (s t : Shape) → is_whole s ≡ true → form s n bytes ≡ Some t → is_whole t ≡ true
whole_on zero bytes s t w e = subst IsWhole (some_same _ refl e) w
whole_on (suc n) [] s t w e = (let f : ⊥ = cc in absurd f)
whole_on (suc n) (b ∷ bytes) s t w e =
    let f = first_step s t n b bytes e in
    whole_on n bytes f.0 t (one_each IsWhole _ f.0 f.1 (stays s b (get_or bytes 0 0) w)) f.2

whole_later : (m n : ℕ) (bytes : List ℕ) (s u t : Shape) → m ≤ n → form s m bytes ≡ Some u → is_whole u ≡ true → form s n bytes ≡ Some t → is_whole t ≡ true
whole_later zero n bytes s u t le a w e = whole_on n bytes s t (subst IsWhole (sym (some_same _ refl a)) w) e
whole_later (suc m) zero bytes s u t le a w e = (let f : ⊥ = omega arith in absurd f)
whole_later (suc m) (suc n) [] s u t le a w e = (let f : ⊥ = cc in absurd f)
whole_later (suc m) (suc n) (b ∷ bytes) s u t le a w e =
    let f = first_step s u m b bytes a in let g = first_step s t n b bytes e in
    whole_later m n bytes f.0 u t (omega arith) f.2 w (subst (λ x. form x n bytes ≡ Some t) (some_same _ g.1 f.1) g.2)

no_longer : (s u : Shape) (bytes : List ℕ) (n m : ℕ) → form s (n + 1) bytes ≡ None → form s m bytes ≡ Some u → m ≤ n
no_longer s u bytes n m stuck e = by_order (le_or m n)
  where
    le_or : (m n : ℕ) → (m ≤ n) ⊎ (n + 1 ≤ m)
    le_or m n = grind arith

    by_order : (m ≤ n) ⊎ (n + 1 ≤ m) → m ≤ n
    by_order (inl le) = le
    by_order (inr gt) = let f = front_form (n + 1) m bytes s u gt e in absurd (no_some _ stuck f.1)

pub longest_at : (s t : Shape) (bytes : List ℕ) (n : ℕ) → form s n bytes ≡ Some t → form s (n + 1) bytes ≡ None → is_whole t ≡ true → LongestForm s bytes n t
longest_at s t bytes n reached stuck whole = record { reached = reached; whole = whole; longest = λ m u e w. no_longer s u bytes n m stuck e }

pub no_front_at : (s t : Shape) (bytes : List ℕ) (n : ℕ) → form s n bytes ≡ Some t → form s (n + 1) bytes ≡ None → is_whole t ≡ false → NoForm s bytes
no_front_at s t bytes n reached stuck lacks m u e w = let h = whole_later m n bytes s u t (no_longer s u bytes n m stuck e) e w reached in (cc)

-- ---- there is one

pub longest_once : (s t u : Shape) (bytes : List ℕ) (n m : ℕ) → LongestForm s bytes n t → LongestForm s bytes m u → (n ≡ m) × (t ≡ u)
longest_once s t u bytes n m f g =
    let a = f.longest m u g.reached g.whole in let b = g.longest n t f.reached f.whole in
    let e : n ≡ m = omega (arith, a, b) in
    (e, some_same _ (subst (λ k. form s k bytes ≡ Some t) e f.reached) g.reached)

pub longest_or_none : (s t : Shape) (bytes : List ℕ) (n : ℕ) → LongestForm s bytes n t → NoForm s bytes → ⊥
longest_or_none s t bytes n f none = none n t f.reached f.whole

pub form_inside : (n : ℕ) (bytes : List ℕ) (s t : Shape) → form s n bytes ≡ Some t → n ≤ length bytes
form_inside zero bytes s t e = omega arith
form_inside (suc n) [] s t e = (let f : ⊥ = cc in absurd f)
form_inside (suc n) (b ∷ bytes) s t e = let f = first_step s t n b bytes e in let g = form_inside n bytes f.0 t f.2 in omega (arith, g)
