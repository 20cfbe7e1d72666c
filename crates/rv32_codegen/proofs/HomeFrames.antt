-- Homes for each procedure are a layout.
use Rattle.std.proofs.Common.{◌≡◌, ℕ, ◌+◌, ◌%◌, ◌≤◌, ◌⊎◌, List, [], ◌∷◌, Bool}
use Rattle.std.proofs.Common.{true, false, inl, inr, refl, sym, ap, subst, ◌∙◌, arith}
use Rattle.std.specs.Prelude.{◌==◌, not, nat_le, if◌then◌else◌}
use Rattle.std.proofs.lemmas.Bool.{cases_Bool, and_parts, or_left, or_right, eq-eqb, eqb-true, leb-true, cond-true, cond-false, true≢false}
use Rattle.word_code.specs.declared.word.TheConstants.{MOST_VARIABLES}
use Rattle.word_code.specs.declared.word.WordProc.{WordProc}
use Rattle.word_code.specs.Words.{from_proc, all_named, is_kind, is_proc, has_number, are_procs}
use Rattle.reg_scan.specs.declared.homes.Home.{Home}
use Rattle.reg_scan.specs.declared.homes.Home.TheVariants.{Reg, Frame}
use Rattle.reg_scan.specs.declared.homes.Homes.{Homes}
use Rattle.reg_scan.specs.Homes.{home_of, IsPlace, IsHomes}
use Rattle.rv32_codegen.specs.Code.{proc_code, homes_code}
use Rattle.rv32_codegen.specs.Stack.{frame_for, most_size}
use Rattle.rv32_codegen.specs.Lowering.{AllHomes}
use Rattle.rv32_codegen.proofs.Lookups.{Layout, procs_code, nil_cons, here, later}
use Rattle.rv32_codegen.proofs.Frames.{size, IsThere, IsLaid}
use Rattle.rv32_codegen.proofs.Depth.{proc_parts}

abbrev pub no_homes : Homes
no_homes = record { of = []; frame = 0 }

-- those of the first procedure of each number
abbrev pub homes_for : List WordProc → List Homes → Layout
homes_for [] homes number = no_homes
homes_for (p ∷ procs) [] number = no_homes
homes_for (p ∷ procs) (h ∷ homes) number = if p.number == number then h else homes_for procs homes number

pub frame_is : (procs : List WordProc) (homes : List Homes) (number : ℕ) → frame_for procs homes number ≡ (homes_for procs homes number).frame
frame_is [] homes number = refl
frame_is (p ∷ procs) [] number = refl
frame_is (p ∷ procs) (h ∷ homes) number =
    ap (λ n. if p.number == number then h.frame else n) (frame_is procs homes number) ∙ sym (of_if (p.number == number) h (homes_for procs homes number))
  where
    of_if : (b : Bool) (x y : Homes) → (if b then x else y).frame ≡ (if b then x.frame else y.frame)
    of_if true x y = refl
    of_if false x y = refl

-- what a call of a procedure takes
pub size_most : (procs : List WordProc) (homes : List Homes) (n : ℕ) (q : WordProc) (tail : List WordProc) → AllHomes procs homes →
    from_proc n procs ≡ q ∷ tail → (homes_for procs homes n).frame + q.room ≤ most_size procs homes
size_most [] homes n q tail h e = absurd (nil_cons q tail e)
size_most (p ∷ procs) [] n q tail h e = absurd h
size_most (p ∷ procs) (own ∷ homes) n q tail h e = elim (cases_Bool (p.number == n)) [
  | inl t ↦
      let is = cond-true (p.number == n) own (homes_for procs homes n) t in
      omega (arith, ap (λ x. x.frame) is, ap (λ x. x.room) (here n p procs q tail t e).first)
  | inr f ↦
      let is = cond-false (p.number == n) own (homes_for procs homes n) f in
      omega (arith, ap (λ x. x.frame) is, size_most procs homes n q tail h.1 (later n p procs q tail f e))
]

-- ---- homes of one procedure, by words

placed : (h : Homes) (home : Home) → h.frame % 4 ≡ 0 → IsPlace h.frame home → IsThere (size h) home
placed h (Reg number) whole is = is
placed h (Frame at) whole is = (omega (arith, is.0), (omega (arith, is.1.0), omega (arith, is.0, is.1.1, whole)))

pub laid_by : (p : WordProc) (h : Homes) → IsHomes p h → is_proc p ≡ true → IsLaid h p
laid_by p h is ok =
    let first = and_parts (nat_le p.params p.vars) _ ok in
    let second = and_parts (nat_le p.vars MOST_VARIABLES) _ first.1 in
    let third = and_parts (p.room % 4 == 0) _ second.1 in
    let fourth = and_parts (is_kind p.kind) (all_named p.vars p.lines) third.1 in
    let whole = is.whole in
    let least = is.least in
    record {
      homes = is;
      frame = omega (arith, whole);
      some = omega (arith, whole, least);
      there = λ v lt. placed h (home_of h v) whole (is.there v lt);
      few = leb-true p.params p.vars first.0;
      room = eqb-true (p.room % 4) 0 third.0;
      named = fourth.1;
    }

-- ---- homes of all

-- each procedure that can be called is laid out
pub laid_all : (n : ℕ) (procs : List WordProc) (homes : List Homes) (q : WordProc) (tail : List WordProc) → AllHomes procs homes →
    are_procs procs ≡ true →
    from_proc n procs ≡ q ∷ tail → IsLaid (homes_for procs homes n) q
laid_all n [] homes q tail h ok e = absurd (nil_cons q tail e)
laid_all n (p ∷ procs) [] q tail h ok e = absurd h
laid_all n (p ∷ procs) (own ∷ homes) q tail h ok e =
    let parts = proc_parts p procs ok in
    elim (cases_Bool (p.number == n)) [
      | inl t ↦
          let is = here n p procs q tail t e in
          subst (λ x. IsLaid x q) (sym (cond-true (p.number == n) own (homes_for procs homes n) t))
          (subst (IsLaid own) is.first (laid_by p own h.0 parts.0))
      | inr f ↦
          subst (λ x. IsLaid x q) (sym (cond-false (p.number == n) own (homes_for procs homes n) f))
          (laid_all n procs homes q tail h.1 parts.1 (later n p procs q tail f e))
    ]

not_true : (b : Bool) → not b ≡ true → b ≡ true → ⊥
not_true true h e = true≢false (sym h)
not_true false h e = true≢false (sym e)

-- their code is the code under the layout
pub homes_are : (lay : Layout) (procs : List WordProc) (homes : List Homes) → AllHomes procs homes → are_procs procs ≡ true →
    ((n : ℕ) → has_number n procs ≡ true → lay n ≡ homes_for procs homes n) → homes_code procs homes ≡ procs_code lay procs
homes_are lay [] homes h ok same = refl
homes_are lay (p ∷ procs) [] h ok same = absurd h
homes_are lay (p ∷ procs) (own ∷ homes) h ok same =
    let parts = proc_parts p procs ok in
    let alone = (and_parts (not (has_number p.number procs)) (are_procs procs) (and_parts (is_proc p) _ ok).1).0 in
    let here : (p.number == p.number) ≡ true = eq-eqb p.number p.number refl in
    let first : lay p.number ≡ own =
    same p.number (or_left (p.number == p.number) (has_number p.number procs) here)
    ∙ cond-true (p.number == p.number) own (homes_for procs homes p.number) here in
    let others : (n : ℕ) → has_number n procs ≡ true → lay n ≡ homes_for procs homes n = λ n t.
    same n (or_right (p.number == n) (has_number n procs) t) ∙ past n t (cases_Bool (p.number == n)) alone in
    ap (λ x. proc_code x p (homes_code procs homes)) (sym first) ∙ ap (proc_code (lay p.number) p) (homes_are lay procs homes h.1 parts.1 others)
  where
    past : (n : ℕ) → has_number n procs ≡ true → ((p.number == n) ≡ true) ⊎ ((p.number == n) ≡ false) →
        not (has_number p.number procs) ≡ true →
        (if p.number == n then own else homes_for procs homes n) ≡ homes_for procs homes n
    past n t (inl e) alone = absurd (not_true (has_number p.number procs) alone (ap (λ m. has_number m procs) (eqb-true p.number n e) ∙ t))
    past n t (inr e) alone = cond-false (p.number == n) own (homes_for procs homes n) e
