-- Blocks end to end: one is put in place of another, and one comes behind all.
use Rattle.std.proofs.Common.{◌≡◌, ℕ, zero, suc, ◌+◌, ◌*◌, ◌≤◌, ◌⊎◌, inl, inr, List, [], ◌∷◌, ◌++◌, length, Option, Some, refl, sym, ap, subst}
use Rattle.std.proofs.Common.{◌∙◌, ⊎_elim, arith, append_assoc, append-nil, length-append, eq-eqb, ne_eqb}
use Rattle.std.specs.Prelude.{◌==◌, if◌then◌else◌}
use Rattle.std.proofs.lemmas.Bool.{cases_eq, cond-true, cond-false}
use Rattle.std.proofs.lemmas.Option.{none-some, same_Some}
use Rattle.rv32_isa.specs.Words.{word_bytes}
use Rattle.rv32_isa.proofs.ForCallers.{length-word_bytes}
use Rattle.heap_memory.specs.HeapBlocks.{size_at, Block, kind_of, word_of, first_word, header, block_bytes, block_size, IsBlock, AreBlocks, all_bytes}
use Rattle.heap_memory.specs.HeapBlocks.{all_size, block_from}
use Rattle.heap_memory.specs.HeapState.{if_held, held_count}

-- ---- tests of numbers

pub if_same : {A : Type 0} (a b : ℕ) (x y : A) → a ≡ b → (if a == b then x else y) ≡ x
if_same {A} a b x y e = cond-true (a == b) x y (eq-eqb a b e)

pub if_other : {A : Type 0} (a b : ℕ) (x y : A) → (a ≡ b → ⊥) → (if a == b then x else y) ≡ y
if_other {A} a b x y no_eq = cond-false (a == b) x y (ne_eqb a b no_eq)

-- ---- sizes

pub size_some : (class : ℕ) → 16 ≤ size_at class
size_some zero = omega arith
size_some (suc c) = omega (arith, size_some c)

pub record Sixteens (n : ℕ) : Type 0 where
  pub times : ℕ
  pub are : n ≡ 16 * times

pub size_whole : (class : ℕ) → Sixteens (size_at class)
size_whole zero = record { times = 1; are = omega arith }
size_whole (suc c) = let r = size_whole c in let e = r.are in record { times = 2 * r.times; are = omega (arith, e) }

pub all_whole : (bs : List Block) → Sixteens (all_size bs)
all_whole [] = record { times = 0; are = omega arith }
all_whole (b ∷ bs) =
    let s = size_whole b.class in
    let r = all_whole bs in
    let e = s.are in
    let f = r.are in
    record { times = s.times + r.times; are = omega (arith, e, f) }

-- ---- the block at a place

-- with another block at a place
abbrev pub placed : (first place : ℕ) → Block → List Block → List Block
placed first place new [] = []
placed first place new (b ∷ blocks) = if first == place then new ∷ blocks else b ∷ placed (first + block_size b) place new blocks

-- what is found of a list with a block in front
front : (f p : ℕ) (b x : Block) (bs : List Block) → f ≡ p → block_from f p (b ∷ bs) ≡ Some x → b ≡ x
front f p b x bs e h = same_Some b x (sym (if_same f p (Some b) (block_from (f + block_size b) p bs) e) ∙ h)

behind : (f p : ℕ) (b : Block) (o : Option Block) (bs : List Block) → (f ≡ p → ⊥) → block_from f p (b ∷ bs) ≡ o → block_from (f + block_size b) p bs ≡ o
behind f p b o bs no_eq h = sym (if_other f p (Some b) (block_from (f + block_size b) p bs) no_eq) ∙ h

from_front : (f p : ℕ) (b : Block) (bs : List Block) → f ≡ p → block_from f p (b ∷ bs) ≡ Some b
from_front f p b bs e = if_same f p (Some b) (block_from (f + block_size b) p bs) e

from_behind : (f p : ℕ) (b : Block) (o : Option Block) (bs : List Block) → (f ≡ p → ⊥) → block_from (f + block_size b) p bs ≡ o → block_from f p (b ∷ bs) ≡ o
from_behind f p b o bs no_eq h = if_other f p (Some b) (block_from (f + block_size b) p bs) no_eq ∙ h

placed_front : (f p : ℕ) (new b : Block) (bs : List Block) → f ≡ p → placed f p new (b ∷ bs) ≡ new ∷ bs
placed_front f p new b bs e = if_same f p (new ∷ bs) (b ∷ placed (f + block_size b) p new bs) e

placed_behind : (f p : ℕ) (new b : Block) (bs : List Block) → (f ≡ p → ⊥) → placed f p new (b ∷ bs) ≡ b ∷ placed (f + block_size b) p new bs
placed_behind f p new b bs no_eq = if_other f p (new ∷ bs) (b ∷ placed (f + block_size b) p new bs) no_eq

-- it is there
pub placed_here : (f p : ℕ) (new old : Block) (bs : List Block) → block_from f p bs ≡ Some old → block_from f p (placed f p new bs) ≡ Some new
placed_here f p new old [] h = absurd (none-some old h)
placed_here f p new old (b ∷ bs) h = ⊎_elim
    (λ e. ap (block_from f p) (placed_front f p new b bs e) ∙ from_front f p new bs e)
    (λ no_eq. ap (block_from f p) (placed_behind f p new b bs no_eq)
    ∙ from_behind f p b (Some new) (placed (f + block_size b) p new bs) no_eq
    (placed_here (f + block_size b) p new old bs (behind f p b (Some old) bs no_eq h)))
    (cases_eq f p)

-- one of the same size: all others stay
pub placed_other : (f p c : ℕ) (new old : Block) (bs : List Block) → block_from f p bs ≡ Some old → block_size new ≡ block_size old → (c ≡ p → ⊥)
    → block_from f c (placed f p new bs) ≡ block_from f c bs
placed_other f p c new old [] h same no_eq = refl
placed_other f p c new old (b ∷ bs) h same no_eq =
    ⊎_elim here (λ other. there other (placed_other (f + block_size b) p c new old bs (behind f p b (Some old) bs other h) same no_eq)) (cases_eq f p)
  where
    here : f ≡ p → block_from f c (placed f p new (b ∷ bs)) ≡ block_from f c (b ∷ bs)
    here e =
        let not_c : f ≡ c → ⊥ = λ g. no_eq (sym g ∙ e) in
        let sizes : block_size new ≡ block_size b = same ∙ ap block_size (sym (front f p b old bs e h)) in
        ap (block_from f c) (placed_front f p new b bs e)
        ∙ if_other f c (Some new) (block_from (f + block_size new) c bs) not_c
        ∙ ap (λ n. block_from (f + n) c bs) sizes
        ∙ sym (if_other f c (Some b) (block_from (f + block_size b) c bs) not_c)

    there : (f ≡ p → ⊥) → block_from (f + block_size b) c (placed (f + block_size b) p new bs) ≡ block_from (f + block_size b) c bs
        → block_from f c (placed f p new (b ∷ bs)) ≡ block_from f c (b ∷ bs)
    there other rest = ap (block_from f c) (placed_behind f p new b bs other) ∙ ap (λ o. if f == c then Some b else o) rest

-- it lies within all of them
pub record Within (f p : ℕ) (b : Block) (bs : List Block) : Type 0 where
  pub low : f ≤ p
  pub high : p + block_size b ≤ f + all_size bs

pub within : (f p : ℕ) (x : Block) (bs : List Block) → block_from f p bs ≡ Some x → Within f p x bs
within f p x [] h = absurd (none-some x h)
within f p x (b ∷ bs) h = ⊎_elim
    (λ e. let s : block_size b ≡ block_size x = ap block_size (front f p b x bs e h) in record { low = omega (arith, e); high = omega (arith, e, s) })
    (λ no_eq.
    let r = within (f + block_size b) p x bs (behind f p b (Some x) bs no_eq h) in
    let l = r.low in
    let g = r.high in
    record { low = omega (arith, l); high = omega (arith, g) })
    (cases_eq f p)

-- so many sixteens behind the first one
pub far : (f p : ℕ) (x : Block) (bs : List Block) → block_from f p bs ≡ Some x → (k : ℕ) × (p ≡ f + 16 * k)
far f p x [] h = absurd (none-some x h)
far f p x (b ∷ bs) h = ⊎_elim
    (λ e. (0, omega (arith, e)))
    (λ no_eq.
    let r = far (f + block_size b) p x bs (behind f p b (Some x) bs no_eq h) in
    let s = size_whole b.class in
    let g = r.1 in
    let t = s.are in
    (s.times + r.0, omega (arith, g, t)))
    (cases_eq f p)

-- ---- one more behind all

abbrev pub added : List Block → Block → List Block
added bs new = bs ++ new ∷ []

pub added_size : (new : Block) (bs : List Block) → all_size (added bs new) ≡ all_size bs + block_size new
added_size new [] = omega arith
added_size new (b ∷ bs) = omega (arith, added_size new bs)

pub added_keeps : (f p : ℕ) (x new : Block) (bs : List Block) → block_from f p bs ≡ Some x → block_from f p (added bs new) ≡ Some x
added_keeps f p x new [] h = absurd (none-some x h)
added_keeps f p x new (b ∷ bs) h = ⊎_elim
    (λ e. from_front f p b (added bs new) e ∙ ap Some (front f p b x bs e h))
    (λ no_eq. from_behind f p b (Some x) (added bs new) no_eq (added_keeps (f + block_size b) p x new bs (behind f p b (Some x) bs no_eq h)))
    (cases_eq f p)

pub added_last : (f p : ℕ) (new : Block) (bs : List Block) → p ≡ f + all_size bs → block_from f p (added bs new) ≡ Some new
added_last f p new [] e = from_front f p new [] (omega (arith, e))
added_last f p new (b ∷ bs) e =
    from_behind f p b (Some new) (added bs new) (λ g. absurd (omega (arith, e, g, size_some b.class)))
    (added_last (f + block_size b) p new bs (omega (arith, e)))

-- what is found was there, or is the new one
pub added_found : (f p : ℕ) (x new : Block) (bs : List Block) → block_from f p (added bs new) ≡ Some x
    → (block_from f p bs ≡ Some x) ⊎ ((p ≡ f + all_size bs) × (new ≡ x))
added_found f p x new [] h = ⊎_elim
    (λ e. inr (omega (arith, e), front f p new x [] e h))
    (λ no_eq. absurd (none-some x (behind f p new (Some x) [] no_eq h)))
    (cases_eq f p)
added_found f p x new (b ∷ bs) h = ⊎_elim
    (λ e. inl (from_front f p b bs e ∙ ap Some (front f p b x (added bs new) e h)))
    (λ no_eq. ⊎_elim
    (λ g. inl (from_behind f p b (Some x) bs no_eq g))
    (λ g. let e = g.0 in inr (omega (arith, e), g.1))
    (added_found (f + block_size b) p x new bs (behind f p b (Some x) (added bs new) no_eq h)))
    (cases_eq f p)

-- ---- all of them

pub placed_size : (f p : ℕ) (new old : Block) (bs : List Block) → block_from f p bs ≡ Some old → block_size new ≡ block_size old
    → all_size (placed f p new bs) ≡ all_size bs
placed_size f p new old [] h same = refl
placed_size f p new old (b ∷ bs) h same = ⊎_elim
    (λ e.
    let s : block_size b ≡ block_size old = ap block_size (front f p b old bs e h) in
    let g : all_size (placed f p new (b ∷ bs)) ≡ block_size new + all_size bs = ap all_size (placed_front f p new b bs e) in
    omega (arith, s, g, same))
    (λ no_eq.
    let r = placed_size (f + block_size b) p new old bs (behind f p b (Some old) bs no_eq h) same in
    let g : all_size (placed f p new (b ∷ bs)) ≡ block_size b + all_size (placed (f + block_size b) p new bs)
    = ap all_size (placed_behind f p new b bs no_eq) in
    omega (arith, r, g))
    (cases_eq f p)

pub placed_blocks : (f p : ℕ) (new : Block) (bs : List Block) → AreBlocks bs → IsBlock new → AreBlocks (placed f p new bs)
placed_blocks f p new [] all is = tt
placed_blocks f p new (b ∷ bs) all is = ⊎_elim
    (λ e. subst AreBlocks (sym (placed_front f p new b bs e)) (is, all.1))
    (λ no_eq. subst AreBlocks (sym (placed_behind f p new b bs no_eq)) (all.0, placed_blocks (f + block_size b) p new bs all.1 is))
    (cases_eq f p)

pub added_blocks : (new : Block) (bs : List Block) → AreBlocks bs → IsBlock new → AreBlocks (added bs new)
added_blocks new [] all is = (is, tt)
added_blocks new (b ∷ bs) all is = (all.0, added_blocks new bs all.1 is)

pub block_found : (f p : ℕ) (x : Block) (bs : List Block) → AreBlocks bs → block_from f p bs ≡ Some x → IsBlock x
block_found f p x [] all h = absurd (none-some x h)
block_found f p x (b ∷ bs) all h = ⊎_elim
    (λ e. subst IsBlock (front f p b x bs e h) all.0)
    (λ no_eq. block_found (f + block_size b) p x bs all.1 (behind f p b (Some x) bs no_eq h))
    (cases_eq f p)

-- ---- how many are held

-- whether a block is a held one of a class
abbrev pub held_one : (class : ℕ) → Block → ℕ
held_one class b = if b.class == class then if_held b.holder else 0

pub held_at : (class : ℕ) (b : Block) → b.class ≡ class → held_one class b ≡ if_held b.holder
held_at class b e = if_same b.class class (if_held b.holder) 0 e

pub held_elsewhere : (class : ℕ) (b : Block) → (b.class ≡ class → ⊥) → held_one class b ≡ 0
held_elsewhere class b no_eq = if_other b.class class (if_held b.holder) 0 no_eq

pub placed_count : (class f p : ℕ) (new old : Block) (bs : List Block) → block_from f p bs ≡ Some old
    → held_count class (placed f p new bs) + held_one class old ≡ held_count class bs + held_one class new
placed_count class f p new old [] h = absurd (none-some old h)
placed_count class f p new old (b ∷ bs) h = ⊎_elim
    (λ e.
    let s : held_one class b ≡ held_one class old = ap (held_one class) (front f p b old bs e h) in
    let g : held_count class (placed f p new (b ∷ bs)) ≡ held_one class new + held_count class bs = ap (held_count class) (placed_front f p new b bs e) in
    omega (arith, s, g))
    (λ no_eq.
    let r = placed_count class (f + block_size b) p new old bs (behind f p b (Some old) bs no_eq h) in
    let g : held_count class (placed f p new (b ∷ bs)) ≡ held_one class b + held_count class (placed (f + block_size b) p new bs)
    = ap (held_count class) (placed_behind f p new b bs no_eq) in
    omega (arith, r, g))
    (cases_eq f p)

pub added_count : (class : ℕ) (new : Block) (bs : List Block) → held_count class (added bs new) ≡ held_count class bs + held_one class new
added_count class new [] = omega arith
added_count class new (b ∷ bs) = omega (arith, added_count class new bs)

pub found_count : (class f p : ℕ) (x : Block) (bs : List Block) → block_from f p bs ≡ Some x → held_one class x ≤ held_count class bs
found_count class f p x [] h = absurd (none-some x h)
found_count class f p x (b ∷ bs) h = ⊎_elim
    (λ e. let s : held_one class b ≡ held_one class x = ap (held_one class) (front f p b x bs e h) in omega (arith, s))
    (λ no_eq. let r = found_count class (f + block_size b) p x bs (behind f p b (Some x) bs no_eq h) in omega (arith, r))
    (cases_eq f p)

-- ---- their bytes

pub length_header : (b : Block) → length (header b) ≡ 8
length_header b =
    let u = length-word_bytes (first_word (kind_of b.holder) b.class) in
    let v = length-word_bytes (word_of b.holder) in
    length-append (word_bytes (first_word (kind_of b.holder) b.class)) (word_bytes (word_of b.holder)) ∙ omega (arith, u, v)

pub length_block : (b : Block) → IsBlock b → length (block_bytes b) ≡ block_size b
length_block b is = let h = length_header b in let w = is.whole in length-append (header b) b.payload ∙ omega (arith, h, w)

pub length_all : (bs : List Block) → AreBlocks bs → length (all_bytes bs) ≡ all_size bs
length_all [] all = refl
length_all (b ∷ bs) all =
    let l = length_block b all.0 in
    let r = length_all bs all.1 in
    length-append (block_bytes b) (all_bytes bs) ∙ omega (arith, l, r)

pub added_bytes : (new : Block) (bs : List Block) → all_bytes (added bs new) ≡ all_bytes bs ++ block_bytes new
added_bytes new [] = append-nil (block_bytes new)
added_bytes new (b ∷ bs) = ap (λ l. block_bytes b ++ l) (added_bytes new bs) ∙ sym (append_assoc (block_bytes b) (all_bytes bs) (block_bytes new))

-- those before a block and behind it
pub record Split (f p : ℕ) (x : Block) (bs : List Block) : Type 0 where
  pub before : List ℕ
  pub after : List ℕ
  pub far : p ≡ f + length before
  pub bytes : all_bytes bs ≡ before ++ (block_bytes x ++ after)
  pub other : (new : Block) → all_bytes (placed f p new bs) ≡ before ++ (block_bytes new ++ after)

pub split : (f p : ℕ) (x : Block) (bs : List Block) → AreBlocks bs → block_from f p bs ≡ Some x → Split f p x bs
split f p x [] all h = absurd (none-some x h)
split f p x (b ∷ bs) all h =
    ⊎_elim here (λ no_eq. there no_eq (split (f + block_size b) p x bs all.1 (behind f p b (Some x) bs no_eq h))) (cases_eq f p)
  where
    here : f ≡ p → Split f p x (b ∷ bs)
    here e = record {
      before = [];
      after = all_bytes bs;
      far = omega (arith, e);
      bytes = ap (λ y. block_bytes y ++ all_bytes bs) (front f p b x bs e h);
      other = λ new. ap all_bytes (placed_front f p new b bs e);
    }

    there : (f ≡ p → ⊥) → Split (f + block_size b) p x bs → Split f p x (b ∷ bs)
    there no_eq r =
        let l = length_block b all.0 in
        let whole : length (block_bytes b ++ r.before) ≡ block_size b + length r.before = length-append (block_bytes b) r.before ∙ omega (arith, l) in
        let e = r.far in
        record {
          before = block_bytes b ++ r.before;
          after = r.after;
          far = omega (arith, e, whole);
          bytes = ap (λ l. block_bytes b ++ l) r.bytes ∙ sym (append_assoc (block_bytes b) r.before (block_bytes x ++ r.after));
          other = λ new. ap all_bytes (placed_behind f p new b bs no_eq) ∙ ap (λ l. block_bytes b ++ l) (r.other new)
              ∙ sym (append_assoc (block_bytes b) r.before (block_bytes new ++ r.after));
        }
