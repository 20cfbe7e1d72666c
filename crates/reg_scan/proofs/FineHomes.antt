-- Where registers are right, what is alive is held.
use Rattle.std.proofs.Common.{◌≡◌, ◌⊎◌, inl, inr, ℕ, zero, suc, ◌+◌, ◌<◌, ◌≤◌, get_or, List, [], ◌∷◌, ◌++◌}
use Rattle.std.proofs.Common.{length, Bool, true, false, Option, Some, None}
use Rattle.std.proofs.Common.{refl, sym, ap, subst, ◌∙◌, arith, append_assoc, length-append}
use Rattle.std.specs.Prelude.{not, ◌||◌, slice_get}
use Rattle.std.specs.HashMap.{HashMap}
use Rattle.std.proofs.lemmas.Bool.{cases_Bool, cases_eq, and_parts, eqb-true, eq-eqb, leb-true, cond-true, cond-false, true≢false}
use Rattle.word_code.specs.declared.word.WordInstr.{WordInstr}
use Rattle.word_code.specs.declared.word.WordInstr.TheVariants.{Label}
use Rattle.word_code.specs.Words.{is_label, from_label}
use Rattle.reg_scan.specs.declared.effects.Effect.{Effect}
use Rattle.reg_scan.specs.declared.homes.Home.{Home}
use Rattle.reg_scan.specs.declared.homes.Home.TheVariants.{Reg}
use Rattle.reg_scan.specs.Alive.{effect_of, IsOne, Alive, read_by, kept_by, led_by}
use Rattle.reg_scan.specs.Homes.{or_none}
use Rattle.reg_scan.specs.Fine.{holder, label_at, is_one, is_within, is_register, has_register, stays, sets, is_held, label_of, position_of}
use Rattle.reg_scan.specs.Fine.{held_at, is_noted, is_right_by, is_right_at, is_right, AllRight, is_past, NoneFirst}

none_some : {A : Type 0} (x : A) → None ≡ Some x → ⊥
none_some x e = cc

some_same : {A : Type 0} (x y : A) → Some x ≡ Some y → x ≡ y
some_same x y e = cc

-- ---- tests

one_has : (held : Option ℕ) (v : ℕ) → is_one held v ≡ true → held ≡ Some v
one_has None v h = absurd (true≢false (sym h))
one_has (Some u) v h = ap Some (eqb-true u v h)

within_has : (inner outer : Option ℕ) (v : ℕ) → is_within inner outer ≡ true → inner ≡ Some v → outer ≡ Some v
within_has None outer v h e = absurd (none_some v e)
within_has (Some u) outer v h e = one_has outer u h ∙ e

not_or : (a b : Bool) → (not a || b) ≡ true → a ≡ true → b ≡ true
not_or true b h e = h
not_or false b h e = absurd (true≢false (sym e))

or_cases : (a b : Bool) → (a || b) ≡ true → (a ≡ true) ⊎ (b ≡ true)
or_cases true b h = inl refl
or_cases false b h = inr h

or_left : (a b : Bool) → a ≡ true → (a || b) ≡ true
or_left true b h = refl
or_left false b h = absurd (true≢false (sym h))

or_right : (a b : Bool) → b ≡ true → (a || b) ≡ true
or_right true b h = refl
or_right false b h = h

one_is : (o : Option ℕ) (v : ℕ) → o ≡ Some v → IsOne o v
one_is o v e = subst (λ x. IsOne x v) (sym e) refl

-- what is so up to a number is so up to the next one
pub one_more : (test : ℕ → Bool) (i : ℕ) → ((n : ℕ) → n < i → test n ≡ true) → test i ≡ true → (n : ℕ) → n < i + 1 → test n ≡ true
one_more test i before at n lt = elim (cases_eq n i) [
  | inl e ↦ ap test e ∙ at
  | inr ne ↦ before n (omega (arith, lt, ne))
]

read_is : (lines : List WordInstr) (i : ℕ) (other line : WordInstr) → slice_get lines i ≡ Some line → get_or lines i other ≡ line
read_is [] i other line e = absurd (none_some line e)
read_is (l ∷ lines) zero other line e = some_same l line e
read_is (l ∷ lines) (suc i) other line e = read_is lines i other line e

some_below : (lines : List WordInstr) (i : ℕ) (line : WordInstr) → slice_get lines i ≡ Some line → i < length lines
some_below [] i line e = absurd (none_some line e)
some_below (l ∷ lines) zero line e = omega arith
some_below (l ∷ lines) (suc i) line e = omega (arith, some_below lines i line e)

-- what is so of the lines up to one is so up to the next one
pub lines_more : (test : WordInstr → ℕ → ℕ → Bool) (lines : List WordInstr) (i : ℕ) (other : WordInstr) →
    ((k r : ℕ) (line : WordInstr) → k < i → slice_get lines k ≡ Some line → r < 32 → test line k r ≡ true) →
    ((r : ℕ) → r < 32 → test (get_or lines i other) i r ≡ true) →
    (k r : ℕ) (line : WordInstr) → k < i + 1 → slice_get lines k ≡ Some line → r < 32 → test line k r ≡ true
lines_more test lines i other before at k r line lt is small = elim (cases_eq k i) [
  | inl e ↦
      let there : slice_get lines i ≡ Some line = ap (slice_get lines) (sym e) ∙ is in
      ap (λ n. test line n r) e ∙ ap (λ l. test l i r) (sym (read_is lines i other line there)) ∙ at r small
  | inr ne ↦ before k r line (omega (arith, lt, ne)) is small
]

-- and of all, where no more are there
pub lines_all : (test : WordInstr → ℕ → ℕ → Bool) (lines : List WordInstr) (i : ℕ) → length lines ≤ i →
    ((k r : ℕ) (line : WordInstr) → k < i → slice_get lines k ≡ Some line → r < 32 → test line k r ≡ true) →
    (k r : ℕ) (line : WordInstr) → slice_get lines k ≡ Some line → r < 32 → test line k r ≡ true
lines_all test lines i end before k r line is small = before k r line (omega (arith, some_below lines k line is, end)) is small

-- ---- lines where they stand

pub slice_at : (before rest : List WordInstr) (line : WordInstr) → slice_get (before ++ line ∷ rest) (length before) ≡ Some line
slice_at [] rest line = refl
slice_at (x ∷ before) rest line = slice_at before rest line

-- a label that is found
record Found (name : ℕ) (lines found : List WordInstr) : Type 0 where
  before : List WordInstr
  tail : List WordInstr
  split : before ++ found ≡ lines
  begins : found ≡ Label name ∷ tail

label_is : (name : ℕ) (l : WordInstr) → is_label name l ≡ true → l ≡ Label name
label_is name (Label other) h = ap Label (eqb-true other name h)
label_is name l h = absurd (true≢false (sym h))

found_at : (name : ℕ) (lines found : List WordInstr) → from_label name lines ≡ Some found → Found name lines found
found_at name [] found e = absurd (none_some found e)
found_at name (l ∷ lines) found e = elim (cases_Bool (is_label name l)) [
  | inl t ↦
      let is = some_same (l ∷ lines) found (sym (cond-true (is_label name l) (Some (l ∷ lines)) (from_label name lines) t) ∙ e) in
      record { before = []; tail = lines; split = sym is; begins = sym is ∙ ap (λ x. x ∷ lines) (label_is name l t) }
  | inr f ↦
      let h = found_at name lines found (sym (cond-false (is_label name l) (Some (l ∷ lines)) (from_label name lines) f) ∙ e) in
      record { before = l ∷ h.before; tail = h.tail; split = ap (λ x. l ∷ x) h.split; begins = h.begins }
]

-- what is asked of a line is asked of what it does
pub right_as : {S : Type 0} (of : List ℕ) (labels : HashMap ℕ ℕ S) (homes : List Home) (line : WordInstr) (e : Effect) (name there own : Option ℕ)
    (position r : ℕ) → e ≡ effect_of line → there ≡ position_of labels e.label → name ≡ label_of line → own ≡ position_of labels name →
    is_right of homes labels line position r ≡ is_right_at of homes e there own position r
right_as of labels homes line e name there own position r does leads is noted =
    let to : position_of labels (effect_of line).label ≡ there = ap (λ x. position_of labels x.label) (sym does) ∙ sym leads in
    let at : position_of labels (label_of line) ≡ own = ap (position_of labels) (sym is) ∙ sym noted in
    ap (λ x. is_right_at of homes x (position_of labels (effect_of line).label) (position_of labels (label_of line)) position r) (sym does)
    ∙ ap (λ x. is_right_at of homes e x (position_of labels (label_of line)) position r) to
    ∙ ap (λ x. is_right_at of homes e there x position r) at

module _ {S : Type 0} (of : List ℕ) (labels : HashMap ℕ ℕ S) (homes : List Home) (lines : List WordInstr) (right : AllRight of homes labels lines) where
  abbrev home : ℕ → Home
  home v = or_none (slice_get homes v)

  -- what is right of a register at a line
  record Parts (line : WordInstr) (position r : ℕ) : Type 0 where
    kept : stays (effect_of line) (holder of position r) (holder of (position + 1) r) ≡ true
    set : sets (effect_of line) (has_register homes (effect_of line).to r) (holder of (position + 1) r) ≡ true
    led : is_within (held_at of (position_of labels (effect_of line).label) r) (holder of position r) ≡ true
    first : is_held (has_register homes (effect_of line).first r) (effect_of line).first (holder of position r) ≡ true
    second : is_held (has_register homes (effect_of line).second r) (effect_of line).second (holder of position r) ≡ true
    noted : is_noted of (position_of labels (label_of line)) r (holder of position r) ≡ true

  parts : (before rest : List WordInstr) (line : WordInstr) (r : ℕ) → before ++ line ∷ rest ≡ lines → r < 32 → Parts line (length before) r
  parts before rest line r e lt =
      let position = length before in
      let here = holder of position r in
      let behind = holder of (position + 1) r in
      let f = effect_of line in
      let stands : slice_get lines position ≡ Some line = ap (λ l. slice_get l position) (sym e) ∙ slice_at before rest line in
      let there = position_of labels f.label in
      let own = position_of labels (label_of line) in
      let all = and_parts (is_right_by of homes f there r here behind) (is_noted of own r here) (right position r line stands lt) in
      let a = and_parts (stays f here behind) _ all.0 in
      let b = and_parts (sets f (has_register homes f.to r) behind) _ a.1 in
      let c = and_parts (is_within (held_at of there r) here) _ b.1 in
      let d = and_parts (is_held (has_register homes f.first r) f.first here) _ c.1 in
      record { kept = a.0; set = b.0; led = c.0; first = d.0; second = d.1; noted = all.1 }

  module _ (v r : ℕ) (is : home v ≡ Reg r) (small : r < 32) where
    has_is : has_register homes (Some v) r ≡ true
    has_is = ap (λ h. is_register h r) is ∙ eq-eqb r r refl

    read_has : (variable here : Option ℕ) → is_held (has_register homes variable r) variable here ≡ true → IsOne variable v → here ≡ Some v
    read_has None here h one = absurd one
    read_has (Some u) here h one =
        within_has (Some u) here v (not_or _ _ h (ap (λ x. has_register homes (Some x) r) (sym one) ∙ has_is)) (ap Some (sym one))

    abbrev Held_at : List WordInstr → Type 0
    Held_at ls = (before : List WordInstr) → before ++ ls ≡ lines → holder of (length before) r ≡ Some v

    next_at : (l : WordInstr) (rest : List WordInstr) → Held_at rest → (before : List WordInstr) → before ++ l ∷ rest ≡ lines →
        holder of (length before + 1) r ≡ Some v
    next_at l rest h before split =
        ap (λ n. holder of n r) (sym (length-append before (l ∷ []))) ∙ h (before ++ l ∷ []) (append_assoc before (l ∷ []) rest ∙ split)

    held_alive : {ls : List WordInstr} → Alive lines v ls → Held_at ls
    held_alive (read_by {line = l} {rest = rest} x) before split =
        let p = parts before rest l r split small in
        elim x [
          | inl one ↦ read_has (effect_of l).first (holder of (length before) r) p.first one
          | inr one ↦ read_has (effect_of l).second (holder of (length before) r) p.second one
        ]
    held_alive (kept_by {line = l} {rest = rest} goes not_set lives) before split =
        let p = parts before rest l r split small in
        let here = holder of (length before) r in
        let behind = holder of (length before + 1) r in
        let e = next_at l rest (held_alive lives) before split in
        elim (or_cases (is_within behind here) (is_within behind (effect_of l).to) (not_or (effect_of l).goes_on _ p.kept goes)) [
          | inl w ↦ within_has behind here v w e
          | inr w ↦ absurd (not_set (one_is (effect_of l).to v (within_has behind (effect_of l).to v w e)))
        ]
    held_alive (led_by {line = l} {rest = rest} {found = found} {name = name} label from lives) before split =
        let p = parts before rest l r split small in
        let f = found_at name lines found from in
        let q = parts f.before f.tail (Label name) r (ap (λ x. f.before ++ x) (sym f.begins) ∙ f.split) small in
        let at = holder of (length f.before) r in
        let note = holder of (label_at labels name) r in
        let noted : note ≡ Some v = within_has at note v q.noted (held_alive lives f.before f.split) in
        within_has note (holder of (length before) r) v
        (ap (λ o. is_within (held_at of (position_of labels o) r) (holder of (length before) r)) (sym label) ∙ p.led) noted

  -- ---- what follows

  -- a register is that of one variable alone, of those that are alive together
  pub one_alive : (before rest : List WordInstr) (v w r : ℕ) → before ++ rest ≡ lines → Alive lines v rest → Alive lines w rest → r < 32 →
      home v ≡ Reg r → home w ≡ Reg r → v ≡ w
  one_alive before rest v w r split lives live small is same =
      some_same v w (sym (held_alive v r is small lives before split) ∙ held_alive w r same small live before split)

  -- a line sets another register than those of variables that are alive behind it
  pub set_apart : (before rest : List WordInstr) (line : WordInstr) (v to r : ℕ) → before ++ line ∷ rest ≡ lines → (effect_of line).to ≡ Some to →
      Alive lines v rest → r < 32 → home v ≡ Reg r → home to ≡ Reg r → v ≡ to
  set_apart before rest line v to r split is_to lives small is same =
      let p = parts before rest line r split small in
      let behind = holder of (length before + 1) r in
      let e = next_at v r is small line rest (held_alive v r is small lives) before split in
      let in_it : has_register homes (effect_of line).to r ≡ true =
      ap (λ o. has_register homes o r) is_to ∙ ap (λ h. is_register h r) same ∙ eq-eqb r r refl in
      let within = not_or _ _ p.set (or_right (effect_of line).calls _ in_it) in
      sym (some_same to v (sym is_to ∙ within_has behind (effect_of line).to v within e))

  -- behind a call a register holds its result alone
  pub call_alone : (before rest : List WordInstr) (line : WordInstr) (v to r : ℕ) → before ++ line ∷ rest ≡ lines →
      (effect_of line).to ≡ Some to → (effect_of line).calls ≡ true → Alive lines v rest → r < 32 → home v ≡ Reg r → v ≡ to
  call_alone before rest line v to r split is_to calls lives small is =
      let p = parts before rest line r split small in
      let behind = holder of (length before + 1) r in
      let e = next_at v r is small line rest (held_alive v r is small lives) before split in
      let within = not_or _ _ p.set (or_left (effect_of line).calls _ calls) in
      sym (some_same to v (sym is_to ∙ within_has behind (effect_of line).to v within e))

  past_is : (held : Option ℕ) (params v : ℕ) → is_past held params ≡ true → held ≡ Some v → v < params → ⊥
  past_is None params v h e lt = none_some v e
  past_is (Some u) params v h e lt =
      let le = leb-true params u h in
      let same = some_same u v e in
      omega (arith, le, same, lt)

  -- no parameter that is alive in front of all lines has a register
  pub param_framed : (params v r : ℕ) → NoneFirst of params → v < params → Alive lines v lines → r < 32 → home v ≡ Reg r → ⊥
  param_framed params v r none lt lives small is = past_is (holder of 0 r) params v (none r small) (held_alive v r is small lives [] refl) lt
