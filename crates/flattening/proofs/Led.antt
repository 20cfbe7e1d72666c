-- Lines in front of others lead somewhere: the labels behind to which they may lead stand there, and those before stand among all lines.
use Rattle.std.proofs.Common.{◌≡◌, ℕ, ◌⊎◌, inl, inr, Bool, true, false, List, ◌∷◌, Some, None, refl, sym, ap}
use Rattle.std.specs.Prelude.{◌&&◌, if◌then◌else◌}
use Rattle.std.proofs.lemmas.Bool.{and_from, eq-eqb}
use Rattle.flat_code.specs.declared.line.Line.{Line}
use Rattle.flat_code.specs.declared.line.Line.TheVariants as L
use Rattle.flat_code.specs.Codes.{flat_plain}
use Rattle.flat_code.specs.Running.{from_label, is_name}
use Rattle.flat_code.specs.Whole.{label_in, target, back_to, falls, is_found, is_followed, stands, all_lead}

pub either : {A B C : Type 0} → (A → C) → (B → C) → A ⊎ B → C
either f g (inl a) = f a
either f g (inr b) = g b

-- ---- a label among lines

abbrev pub Found : ℕ → List Line → Type 0
Found n k = is_found (from_label label_in n k) ≡ true

pub past : (line : Line) (n : ℕ) (k : List Line) → Found n k → Found n (line ∷ k)
past line n k h = at (is_name n (label_in line)) h
  where
    at : (b : Bool) → Found n k → is_found (if b then Some (line ∷ k) else from_label label_in n k) ≡ true
    at true h = refl
    at false h = h

pub here : (n m : ℕ) (k : List Line) → m ≡ n → Found m (L.Label n ∷ k)
here n m k e = ap (λ b. is_found (if b then Some (L.Label n ∷ k) else from_label label_in m k)) (eq-eqb n m (sym e))

followed : (b : Bool) (k : List Line) → is_followed true k ≡ true → is_followed b k ≡ true
followed true k h = h
followed false k h = refl

-- ---- lines in front of others

abbrev pub Names : Type 1
Names = ℕ → Type 0

abbrev pub Also : Names → Names → Names
Also more names n = more n ⊎ names n

abbrev pub Is : ℕ → Names
Is n m = m ≡ n

abbrev pub With : ℕ → Names → Names
With n names = Also (Is n) names

module _ (whole : List Line) where
  abbrev pub Lead : List Line → Type 0
  Lead k = all_lead label_in flat_plain whole k ≡ true

  -- where these labels stand behind, and those among all lines
  pub record Led (needs backs : Names) (front : List Line → List Line) : Type 0 where
    pub keeps : (n : ℕ) (k : List Line) → Found n k → Found n (front k)
    pub goes_on : (k : List Line) → is_followed true k ≡ true → is_followed true (front k) ≡ true
    pub all : (k : List Line) → is_followed true k ≡ true → ((n : ℕ) → needs n → Found n k) → ((n : ℕ) → backs n → Found n whole) →
        ((n : ℕ) → Found n (front k) → Found n whole) → Lead k → Lead (front k)

infixl 10 ◌>>◌
pub ◌>>◌ : {whole : List Line} {needs backs : Names} {F G : List Line → List Line} → Led whole needs backs F → Led whole needs backs G →
    Led whole needs backs (λ k. F (G k))
◌>>◌ {whole} {needs} {backs} {F} {G} p q = record {
  keeps = λ n k h. p.keeps n (G k) (q.keeps n k h);
  goes_on = λ k on. p.goes_on (G k) (q.goes_on k on);
  all = λ k on found before ends rest.
      p.all (G k) (q.goes_on k on) (λ n h. q.keeps n k (found n h)) before ends
      (q.all k on found before (λ n h. ends n (p.keeps n (G k) h)) rest);
}

module _ (whole : List Line) where
  pub led_none : (needs backs : Names) → Led whole needs backs (λ k. k)
  led_none needs backs = record { keeps = λ n k h. h; goes_on = λ k h. h; all = λ k on found before ends rest. rest }

  -- with fewer needs
  pub led_more : {needs backs needs' backs' : Names} {F : List Line → List Line} → ((n : ℕ) → needs n → needs' n) → ((n : ℕ) → backs n → backs' n) →
      Led whole needs backs F → Led whole needs' backs' F
  led_more {needs} {backs} {needs'} {backs'} {F} f g p = record {
    keeps = p.keeps;
    goes_on = p.goes_on;
    all = λ k on found before ends rest. p.all k on (λ n h. found n (f n h)) (λ n h. before n (g n h)) ends rest;
  }

  -- what the first lines need may stand among the second ones
  pub over : (needs backs more : Names) {F G : List Line → List Line} → Led whole (Also more needs) backs F → Led whole needs backs G →
      ((n : ℕ) → more n → (k : List Line) → Found n (G k)) → Led whole needs backs (λ k. F (G k))
  over needs backs more {F} {G} p q there = record {
    keeps = λ n k h. p.keeps n (G k) (q.keeps n k h);
    goes_on = λ k on. p.goes_on (G k) (q.goes_on k on);
    all = λ k on found before ends rest.
        p.all (G k) (q.goes_on k on) (λ n h. either (λ m. there n m k) (λ m. q.keeps n k (found n m)) h) before ends
        (q.all k on found before (λ n h. ends n (p.keeps n (G k) h)) rest);
  }

  -- ---- one line

  pub a_line : (needs backs : Names) (line : Line) →
      ((k : List Line) → ((n : ℕ) → needs n → Found n k) → stands label_in flat_plain k (target line) ≡ true) →
      (((n : ℕ) → backs n → Found n whole) → stands label_in flat_plain whole (back_to line) ≡ true) → Led whole needs backs (λ k. line ∷ k)
  a_line needs backs line behind before = record {
    keeps = λ n k h. past line n k h;
    goes_on = λ k on. refl;
    all = λ k on found there ends rest.
        and_from (stands label_in flat_plain k (target line) && stands label_in flat_plain whole (back_to line))
        (is_followed (falls line) k && all_lead label_in flat_plain whole k)
        (and_from _ _ (behind k found) (before there)) (and_from _ _ (followed (falls line) k on) rest);
  }

  -- it leads nowhere
  pub silent : (needs backs : Names) (line : Line) → target line ≡ None → back_to line ≡ None → Led whole needs backs (λ k. line ∷ k)
  silent needs backs line e f =
      a_line needs backs line (λ k found. ap (stands label_in flat_plain k) e) (λ before. ap (stands label_in flat_plain whole) f)

  -- ---- labels

  -- behind the lines that need it
  pub ended : (needs backs : Names) (n : ℕ) {F : List Line → List Line} → Led whole (With n needs) backs F → Led whole needs backs (λ k. F (L.Label n ∷ k))
  ended needs backs n {F} p = over needs backs (Is n) p (silent needs backs (L.Label n) refl refl) (λ m e k. here n m k e)

  -- before the lines that go back to it
  pub begun : (needs backs : Names) (n : ℕ) {F : List Line → List Line} → Led whole needs (With n backs) F → Led whole needs backs (λ k. L.Label n ∷ F k)
  begun needs backs n {F} p = record {
    keeps = λ m k h. past (L.Label n) m (F k) (p.keeps m k h);
    goes_on = λ k on. refl;
    all = λ k on found before ends rest.
        and_from _ _ (p.goes_on k on) (p.all k on found (λ m h. either (λ e. ends m (here n m (F k) e)) (λ b. before m b) h)
        (λ m h. ends m (past (L.Label n) m (F k) h)) rest);
  }
