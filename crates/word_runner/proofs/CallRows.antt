-- Calls that are active, begin and end.
use Rattle.std.proofs.Common.{◌≡◌, ℕ, zero, suc, ◌+◌, ◌<◌, ◌≤◌, Bool, true, false, List, [], ◌∷◌, ◌++◌, length, map, take, reverse, refl, sym, ap, ap₂}
use Rattle.std.proofs.Common.{◌∙◌, arith, Option, Some, None, ◌⊎◌, inl, inr}
use Rattle.std.proofs.lemmas.List.{reverse-append, length-map, length-reverse}
use Rattle.std.proofs.lemmas.Bool.{lt-leb, lt-ltb, le-ltb, cond-true, cond-false}
use Rattle.std.proofs.lemmas.Bool.Decides.{leb_tells}
use Rattle.std.proofs.Math.Path.{fun_ext}
use Rattle.std.specs.Prelude.{if◌then◌else◌, nat_le, nat_lt, slice_get}
use Rattle.word_code.specs.declared.word.WordProc.{WordProc}
use Rattle.word_code.specs.Memory.{Memory}
use Rattle.word_code.specs.Words.{Vars, WordFrame, WordState, counted, is_counted, most_calls, params_of, seen_call}
use Rattle.word_code.specs.declared.word.ProcKind.{ProcKind}
use Rattle.word_code.specs.declared.word.ProcKind.TheVariants as kind
use Rattle.word_runner.specs.declared.state.Frame.{Frame}
use Rattle.word_runner.specs.Steps.{IsQuiet}
use Rattle.word_runner.specs.View.{callers_are, frame_is, held_in, proc_in}
use Rattle.word_runner.proofs.BookRows.{take_last}

-- one more, the last one
pub callers_more : (procs : List WordProc) (frames : List Frame) (f : Frame) →
    callers_are procs (frames ++ f ∷ []) ≡ frame_is procs f ∷ callers_are procs frames
callers_more procs frames f = ap (map (frame_is procs)) (reverse-append frames (f ∷ []))

pub one_at_most : (b : Bool) → (if b then 1 else 0) ≤ 1
one_at_most true = omega arith
one_at_most false = omega arith

pub counted_more : (f : WordFrame) (fs : List WordFrame) → counted (f ∷ fs) ≡ counted fs + (if is_counted f.proc.kind then 1 else 0)
counted_more f fs = by (is_counted f.proc.kind)
  where
    by : (b : Bool) → (if b then suc (counted fs) else counted fs) ≡ counted fs + (if b then 1 else 0)
    by true = omega arith
    by false = omega arith

counted_few : (fs : List WordFrame) → counted fs ≤ length fs
counted_few [] = omega arith
counted_few (f ∷ fs) = let h = counted_few fs in let e = counted_more f fs in let one = one_at_most (is_counted f.proc.kind) in omega (arith, h, e, one)

pub never_full : (procs : List WordProc) (f : Frame) (frames : List Frame) → length frames < 2000
    → nat_le most_calls (counted (frame_is procs f ∷ callers_are procs frames)) ≡ false
never_full procs f frames lt =
    let few = counted_few (frame_is procs f ∷ callers_are procs frames) in
    let long = length-map (reverse frames) (frame_is procs) in
    let same = length-reverse frames in
    lt-leb most_calls (counted (frame_is procs f ∷ callers_are procs frames)) (omega (arith, few, long, same, lt))

-- ---- states and frames, by what they have

pub same_state : (s t : WordState) → s.units ≡ t.units → s.memory ≡ t.memory → s.input ≡ t.input → s.frame ≡ t.frame → s.callers ≡ t.callers → s ≡ t
same_state s t a b c d e =
    ap₂ (λ (u : Option ℕ) (m : Memory). record s { units = u; memory = m }) a b
    ∙ ap₂ (λ (i : List ℕ) (f : WordFrame). record t { input = i; frame = f; callers = s.callers }) c d
    ∙ ap (λ (l : List WordFrame). record t { callers = l }) e

-- a call before its first line
abbrev pub call_of : WordProc → (vars given : Vars) → (base awaits : ℕ) → WordFrame
call_of p vars given base awaits = record { proc = p; left = p.lines; vars = vars; given = given; base = base; awaits = awaits }

pub same_call : (p q : WordProc) (v w g h : Vars) (b c a : ℕ) → p ≡ q → v ≡ w → g ≡ h → b ≡ c → call_of p v g b a ≡ call_of q w h c a
same_call p q v w g h b c a e f k l =
    ap (λ (p : WordProc). call_of p v g b a) e ∙ ap₂ (λ (v g : Vars). call_of q v g b a) f k ∙ ap (λ (b : ℕ). call_of q w h b a) l

-- ---- parameters

taken_below : {A : Type 0} (held : List (Option A)) (n v : ℕ) → v < n → held_in (take n held) v ≡ held_in held v
taken_below [] zero v lt = refl
taken_below [] (suc n) v lt = refl
taken_below (x ∷ held) zero v lt = absurd (omega (arith, lt))
taken_below (x ∷ held) (suc n) zero lt = refl
taken_below (x ∷ held) (suc n) (suc v) lt = taken_below held n v (omega (arith, lt))

taken_above : {A : Type 0} (held : List (Option A)) (n v : ℕ) → n ≤ v → held_in (take n held) v ≡ None
taken_above [] zero v le = refl
taken_above [] (suc n) v le = refl
taken_above (x ∷ held) zero v le = refl
taken_above (x ∷ held) (suc n) zero le = absurd (omega (arith, le))
taken_above (x ∷ held) (suc n) (suc v) le = taken_above held n v (omega (arith, le))

taken : (held : List (Option ℕ)) (n v : ℕ) → held_in (take n held) v ≡ (if nat_lt v n then held_in held v else None)
taken held n v = by (leb_tells n v)
  where
    by : ((nat_le n v ≡ true) × (n ≤ v)) ⊎ ((nat_le n v ≡ false) × (v < n)) → held_in (take n held) v ≡ (if nat_lt v n then held_in held v else None)
    by (inl h) = taken_above held n v h.1 ∙ sym (cond-false (nat_lt v n) (held_in held v) None (le-ltb v n h.1))
    by (inr h) = taken_below held n v h.1 ∙ sym (cond-true (nat_lt v n) (held_in held v) None (lt-ltb v n h.1))

pub params_taken : (p : WordProc) (given : List (Option ℕ)) (n : ℕ) → n ≡ p.params → held_in (take n given) ≡ params_of p (held_in given)
params_taken p given n e = ap (λ (n : ℕ). held_in (take n given)) e ∙ fun_ext (λ v. taken given p.params v)

-- the calls up to one more
pub counted_next : (procs : List WordProc) (frames : List Frame) (k : ℕ) (f : Frame) → slice_get frames k ≡ Some f
    → counted (callers_are procs (take (k + 1) frames))
    ≡ counted (callers_are procs (take k frames)) + (if is_counted (proc_in procs f.proc).kind then 1 else 0)
counted_next procs frames k f e =
    let m : suc k ≡ k + 1 = omega arith in
    ap (λ (j : ℕ). counted (callers_are procs (take j frames))) (sym m) ∙ ap (λ l. counted (callers_are procs l)) (take_last frames k f e)
    ∙ ap counted (callers_more procs (take k frames) f) ∙ counted_more (frame_is procs f) (callers_are procs (take k frames))

pub none_left : {A : Type 0} (xs : List A) → length xs ≡ 0 → xs ≡ []
none_left [] e = refl
none_left (x ∷ xs) e = absurd (omega (arith, e))

-- a call that is seen writes nothing
pub seen_quiet : (kind : ProcKind) → IsQuiet (seen_call kind)
seen_quiet kind.Counted = (refl, refl)
seen_quiet (kind.Hook kind of) = (refl, refl)
seen_quiet kind.Uncounted = (refl, refl)
