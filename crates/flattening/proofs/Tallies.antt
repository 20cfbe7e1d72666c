-- How lines give one name, each in front of those behind: whether some have a property, and whether some haven't. What repeats a name is free where a
-- flag says that it is given so already. Each number of a part pays for the names of that number.
use Rattle.std.proofs.Common.{◌≡◌, ℕ, zero, suc, ◌+◌, ◌*◌, ◌≤◌, Bool, true, false, List, [], ◌∷◌, Some, None, refl, sym, ap, ◌∙◌, arith}
use Rattle.std.specs.Prelude.{◌&&◌, ◌||◌, nat_eq, nat_lt}
use Rattle.std.proofs.lemmas.Bool.{eqb-true, eq-eqb, ltb-true, lt-ltb, both_ways}
use Rattle.flat_code.specs.declared.line.Line.{Line}
use Rattle.flattening.specs.declared.numbers.Purpose.TheVariants.{Arm, End, Next, Turn}
use Rattle.flat_code.specs.Alike.{value_name, location_name, label_name, name_of, gives_text, IsProperty, is_named, is_as, gives_as}
use Rattle.flattening.specs.Numbering.{label}

-- ---- a measure of lines, over those that are put in front of others: at most so much, with so much to spare

pub record Tally (measure : List Line → ℕ) (spare most : ℕ) (front : List Line → List Line) : Type 0 where
  pub all : (k : List Line) → measure (front k) + spare ≤ most + measure k

pub tally_none : {m : List Line → ℕ} → Tally m 0 0 (λ k. k)
tally_none = record { all = λ k. omega arith }

infixl 10 ◌>>◌
pub ◌>>◌ : {m : List Line → ℕ} {r s a b : ℕ} {F G : List Line → List Line} → Tally m r a F → Tally m s b G → Tally m (r + s) (a + b) (λ k. F (G k))
◌>>◌ {m} {r} {s} {a} {b} {F} {G} p q = record { all = λ k. omega (arith, p.all (G k), q.all k) }

pub tally_most : {m : List Line → ℕ} {r a : ℕ} {F : List Line → List Line} (r' a' : ℕ) → r' + a ≤ a' + r → Tally m r a F → Tally m r' a' F
tally_most {m} {r} {a} {F} r' a' le p = record { all = λ k. omega (arith, p.all k, le) }

-- ---- how one name is given

abbrev pub count : Bool → ℕ
count true = 1
count false = 0

-- whether it is given already with the property, and without it
pub record Flags : Type 0 where
  pub with_it : Bool
  pub without : Bool

abbrev pub flag : Flags → Bool → Bool
flag z true = z.with_it
flag z false = z.without

abbrev pub raised : Bool → Flags → Flags
raised true z = record { with_it = true; without = z.without }
raised false z = record { with_it = z.with_it; without = true }

abbrev pub no_flags : Flags
no_flags = record { with_it = false; without = false }

-- one more line, which may give the name
one_more : (given has held bare p q : Bool) →
    count (held || ((given && is_as true has) || p)) + count (bare || ((given && is_as false has) || q)) ≤ count given + (count (held || p) + count (bare || q))
one_more false has held bare p q = omega arith
one_more true true true bare p q = omega arith
one_more true true false bare p q = omega arith
one_more true false held true p q = omega arith
one_more true false held false p q = omega arith

-- a flag says that it is given so
repeated : (z : Flags) (given has p q : Bool) → (given ≡ true → flag z has ≡ true) →
    count (z.with_it || ((given && is_as true has) || p)) + count (z.without || ((given && is_as false has) || q))
    ≤ count (z.with_it || p) + count (z.without || q)
repeated z false has p q h = omega arith
repeated z true true p q h =
    let e : z.with_it ≡ true = h refl in
    let a : count (z.with_it || (true || p)) ≡ 1 = ap (λ b. count (b || (true || p))) e in
    let b : count (z.with_it || p) ≡ 1 = ap (λ b. count (b || p)) e in
    omega (arith, a, b)
repeated z true false p q h =
    let e : z.without ≡ true = h refl in
    let a : count (z.without || (true || q)) ≡ 1 = ap (λ b. count (b || (true || q))) e in
    let b : count (z.without || q) ≡ 1 = ap (λ b. count (b || q)) e in
    omega (arith, a, b)

raise_one : (b p : Bool) → (count (b || p) ≤ count (true || p)) × (count (true || p) ≤ 1 + count (b || p))
raise_one true p = (omega arith, omega arith)
raise_one false true = (omega arith, omega arith)
raise_one false false = (omega arith, omega arith)

up : (b : Bool) (z : Flags) (p q : Bool) →
    (count (z.with_it || p) + count (z.without || q) ≤ count ((raised b z).with_it || p) + count ((raised b z).without || q))
    × (count ((raised b z).with_it || p) + count ((raised b z).without || q) ≤ 1 + (count (z.with_it || p) + count (z.without || q)))
up true z p q = let h = raise_one z.with_it p in let h0 = h.0 in let h1 = h.1 in (omega (arith, h0), omega (arith, h1))
up false z p q = let h = raise_one z.without q in let h0 = h.0 in let h1 = h.1 in (omega (arith, h0), omega (arith, h1))

raised_keeps : (b c : Bool) (z : Flags) → flag z c ≡ true → flag (raised b z) c ≡ true
raised_keeps true true z h = refl
raised_keeps true false z h = h
raised_keeps false true z h = h
raised_keeps false false z h = refl

pub raised_is : (b : Bool) (z : Flags) → flag (raised b z) b ≡ true
raised_is true z = refl
raised_is false z = refl

-- ---- numbers

module _ (name : ℕ) where
  -- whether it is this name, and whether the name is below
  unfoldable pub is_it : ℕ → ℕ
  is_it x = count (nat_eq x name)

  unfoldable pub below : ℕ → ℕ
  below x = count (nat_lt name x)

  pub below_next : (x : ℕ) → is_it x + below x ≤ below (suc x)
  unfolding is_it below
  below_next x = at (nat_lt name x) refl (nat_eq x name) refl
    where
      at : (a : Bool) → nat_lt name x ≡ a → (b : Bool) → nat_eq x name ≡ b → count b + count a ≤ below (suc x)
      at true e true f = absurd (omega (arith, ltb-true name x e, eqb-true x name f))
      at true e false f =
          let i : below (suc x) ≡ 1 = ap count (lt-ltb name (suc x) (omega (arith, ltb-true name x e))) in
          omega (arith, i)
      at false e true f =
          let i : below (suc x) ≡ 1 = ap count (lt-ltb name (suc x) (omega (arith, eqb-true x name f))) in
          omega (arith, i)
      at false e false f = omega arith

  pub below_more : (x y : ℕ) → x ≤ y → below x ≤ below y
  unfolding below
  below_more x y le = at (nat_lt name x) refl
    where
      at : (a : Bool) → nat_lt name x ≡ a → count a ≤ below y
      at true e =
          let i : below y ≡ 1 = ap count (lt-ltb name y (omega (arith, ltb-true name x e, le))) in
          omega (arith, i)
      at false e = omega arith

  pub below_one : (x : ℕ) → below x ≤ 1
  unfolding below
  below_one x = at (nat_lt name x)
    where
      at : (a : Bool) → count a ≤ 1
      at true = omega arith
      at false = omega arith

  -- ---- the names of a temporary's number

  abbrev pub upto : (t : ℕ) → ℕ
  upto t = below (8 * t)

  abbrev pub value : (t : ℕ) → ℕ
  value t = is_it (value_name t)

  abbrev pub led : (t : ℕ) → ℕ
  led t = is_it (location_name t)

  abbrev pub arm : (t : ℕ) → ℕ
  arm t = is_it (label_name (label Arm t))

  abbrev pub end : (t : ℕ) → ℕ
  end t = is_it (label_name (label End t))

  abbrev pub next : (t : ℕ) → ℕ
  next t = is_it (label_name (label Next t))

  abbrev pub turn : (t : ℕ) → ℕ
  turn t = is_it (label_name (label Turn t))

  pub upto_more : (t u : ℕ) → t ≤ u → upto t ≤ upto u
  upto_more t u le = below_more (8 * t) (8 * u) (omega (arith, le))

  pub all_names : (t : ℕ) → arm t + value t + led t + end t + next t + turn t + upto t ≤ upto (suc t)
  all_names t =
      let m0 = below_more (8 * t) (label_name (label Arm t)) (omega arith) in
      let m1 = below_more (suc (label_name (label Arm t))) (value_name t) (omega arith) in
      let m2 = below_more (suc (value_name t)) (label_name (label End t)) (omega arith) in
      let m3 = below_more (suc (label_name (label End t))) (location_name t) (omega arith) in
      let m4 = below_more (suc (location_name t)) (label_name (label Next t)) (omega arith) in
      let m5 = below_more (suc (label_name (label Next t))) (label_name (label Turn t)) (omega arith) in
      let m6 = below_more (suc (label_name (label Turn t))) (8 * suc t) (omega arith) in
      omega (
        arith,
        below_next (label_name (label Arm t)),
        below_next (value_name t),
        below_next (label_name (label End t)),
        below_next (location_name t),
        below_next (label_name (label Next t)),
        below_next (label_name (label Turn t)),
        m0,
        m1,
        m2,
        m3,
        m4,
        m5,
        m6,
      )

  -- ---- lines

  module _ (has : Line → (behind : List Line) → Bool) (of_values : Bool) (is : IsProperty has of_values) where
    unfoldable pub tally : Flags → List Line → ℕ
    tally z k = count (z.with_it || gives_as name has true k) + count (z.without || gives_as name has false k)

    -- values of this temporary that are no texts are free
    abbrev pub Free : Flags → (t : ℕ) → Type 0
    Free z t = value_name t ≡ name → flag z of_values ≡ true

    pub tally_plain : (z : Flags) (line : Line) → name_of line ≡ None → Tally (tally z) 0 0 (λ k. line ∷ k)
    unfolding tally
    tally_plain z line e = record {
      all = λ k.
          let h = repeated z (is_named name (name_of line)) (has line k) (gives_as name has true k) (gives_as name has false k)
          (λ g. absurd (both_ways false refl (sym (ap (is_named name) e) ∙ g))) in
          omega (arith, h);
    }

    pub tally_line : (z : Flags) (line : Line) (x : ℕ) → name_of line ≡ Some x → Tally (tally z) 0 (is_it x) (λ k. line ∷ k)
    unfolding is_it tally
    tally_line z line x e = record {
      all = λ k.
          let i : count (is_named name (name_of line)) ≡ is_it x = ap (λ o. count (is_named name o)) e in
          omega (arith, one_more (is_named name (name_of line)) (has line k) z.with_it z.without (gives_as name has true k) (gives_as name has false k), i);
    }

    pub tally_free : (z : Flags) (line : Line) (t : ℕ) → name_of line ≡ Some (value_name t) → gives_text line ≡ false → Free z t →
        Tally (tally z) 0 0 (λ k. line ∷ k)
    unfolding tally
    tally_free z line t e bare free = record {
      all = λ k.
          let h = repeated z (is_named name (name_of line)) (has line k) (gives_as name has true k) (gives_as name has false k)
          (λ g. ap (flag z) (is.values line t k e bare) ∙ free (eqb-true (value_name t) name (sym (ap (is_named name) e) ∙ g))) in
          omega (arith, h);
    }

    -- a location, where a flag says that it is given so
    pub tally_led : (z : Flags) (line : Line) (t : ℕ) → name_of line ≡ Some (location_name t) → flag z (has line []) ≡ true →
        Tally (tally z) 0 0 (λ k. line ∷ k)
    unfolding tally
    tally_led z line t e flagged = record {
      all = λ k.
          let h = repeated z (is_named name (name_of line)) (has line k) (gives_as name has true k) (gives_as name has false k)
          (λ g. ap (flag z) (is.locations line t k [] e) ∙ flagged) in
          omega (arith, h);
    }

    -- with one more flag
    pub tally_raised : (z : Flags) (b : Bool) {F : List Line → List Line} (r a : ℕ) → Tally (tally (raised b z)) r a F → Tally (tally z) r (1 + a) F
    unfolding tally
    tally_raised z b {F} r a p = record {
      all = λ k.
          let low = (up b z (gives_as name has true (F k)) (gives_as name has false (F k))).0 in
          let high = (up b z (gives_as name has true k) (gives_as name has false k)).1 in
          omega (arith, p.all k, low, high);
    }

    -- what flags say stays so
    abbrev pub Keeps : (old new : Flags) → Type 0
    Keeps z z' = (c : Bool) → flag z c ≡ true → flag z' c ≡ true

    keeps_raised : (z : Flags) (b : Bool) → Keeps z (raised b z)
    keeps_raised z b c h = raised_keeps b c z h

    -- a value that is given again and again is given once
    pub once : (z : Flags) (t : ℕ) {F : List Line → List Line} (r a : ℕ) →
        ((z' : Flags) → Keeps z z' → Free z' t → Tally (tally z') r a F) → Tally (tally z) r (a + value t) F
    unfolding is_it
    once z t {F} r a go = at (nat_eq (value_name t) name) refl
      where
        at : (b : Bool) → nat_eq (value_name t) name ≡ b → Tally (tally z) r (a + count b) F
        at true e =
            tally_most r (a + 1) (omega arith)
            (tally_raised z of_values r a (go (raised of_values z) (keeps_raised z of_values) (λ f. raised_is of_values z)))
        at false e =
            tally_most r (a + 0) (omega arith) (go z (λ c h. h) (λ f. absurd (both_ways false refl (sym e ∙ eq-eqb (value_name t) name f))))

    -- what is given somehow is given somehow once, however often
    pub once_as : (z : Flags) (b : Bool) (c : ℕ) {F : List Line → List Line} (r a : ℕ) →
        ((z' : Flags) → Keeps z z' → flag z' b ≡ true → Tally (tally z') r a F) →
        (c ≡ 0 → Tally (tally z) r a F) → Tally (tally z) r (a + c) F
    once_as z b zero r a go none = tally_most r (a + 0) (omega arith) (none refl)
    once_as z b (suc c) r a go none =
        tally_most r (a + suc c) (omega arith) (tally_raised z b r a (go (raised b z) (keeps_raised z b) (raised_is b z)))

    -- behind the last line
    pub tally_end : (z : Flags) → z.with_it ≡ false → z.without ≡ false → tally z [] ≡ 0
    unfolding tally
    tally_end z e f = ap (λ b. count (b || false) + count (z.without || false)) e ∙ ap (λ b. 0 + count (b || false)) f
