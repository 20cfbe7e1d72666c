-- What is done with texts at locations.
use Rattle.std.proofs.Common.{◌≡◌, refl, sym, ap, subst, ◌∙◌, arith, ℕ, zero, suc, ◌+◌, ◌-◌, inl, List, [], ◌∷◌, ◌++◌, length}
use Rattle.std.specs.Prelude.{take, replicate}
use Rattle.nim_types.specs.Forms.{block}
use Rattle.nim_meaning.specs.Values.{Value, Handle, Fixed, part, Location, length_of, block_of, text_in, is_handle}
use Rattle.nim_meaning.specs.Heap.{Characters}
use Rattle.nim_meaning.specs.State.{World, load, text_of, contents_value, object_in}
use Rattle.nim_meaning.specs.Acts.{branch}
use Rattle.nim_meaning.specs.Deeds.{frees, refills, sets, costs, ◌>>◌, ◌>>=◌, unless_gone}
use Rattle.nim_meaning.specs.Lifted.{resized, has_place, fresh}
use Rattle.nim_meaning.specs.OwnedRows.{appended, text_to}
use Rattle.holders.specs.Owned.{in_text, At, Full, Has, no_text, a_text, Apart}
use Rattle.holders.specs.Sure.{Sure}
use Rattle.holders.specs.Becoming.{none}
use Rattle.holders.specs.Becoming.{Turns}
use Rattle.holders.proofs.Bases.{loaded}
use Rattle.holders.proofs.Guards.{sure_sees}
use Rattle.holders.proofs.Resizing.{Filling, resizes_empty, resizes_full}

text_filling : (n : ℕ) (t : List ℕ) (old : List ℕ) (l : Location) (world : World) → length t ≡ n → Filling block n (Characters t) [] [] old l.base world
text_filling n t old l world same = record {
  stands = λ after k b e f. in_text b e f;
  has = λ after k is stay. a_text same is;
  empty = λ z after. no_text;
  nothing_in = λ z j. refl;
  none_in = λ z j. refl;
  from = λ j m. elim m [ ];
  distinct = tt;
  below = λ j m. elim m [ ];
  apart = λ j q m. elim m [ ];
}

-- a text gets other characters
pub text_resized : (n : ℕ) (t : List ℕ) → length t ≡ n → (l : Location) (w v : Value) (old : List ℕ) (world : World) → At world l w → part w l.path ≡ v →
    Has world Full block v old → Apart l.base old → Sure (resized n n (Characters t) l) (λ u after. Turns none none block l w [] old world after) world
text_resized n t same l w v old world at e h apart =
    sure_sees (λ world v. unless_gone (is_handle v) (branch (has_place world (block_of v) n)
    (refills (block_of v) (Characters t) >> sets l (Handle n (block_of v)))
    (fresh n n (Characters t) >>= (λ new. sets l new >> frees (block_of v))))) (λ u after. Turns none none block l w [] old world after) at e tt h
    (by v old e h apart)
  where
    by : (v : Value) (old : List ℕ) → part w l.path ≡ v → Has world Full block v old → Apart l.base old →
        Sure (unless_gone (is_handle v) (branch (has_place world (block_of v) n) (refills (block_of v) (Characters t) >> sets l (Handle n (block_of v)))
        (fresh n n (Characters t) >>= (λ new. sets l new >> frees (block_of v))))) (λ u after. Turns none none block l w [] old world after) world
    by _ _ e no_text apart =
        resizes_empty block l w n n (Characters t) [] [] [] none none world at (text_filling n t [] l world same) (λ z. z) (λ z. z) e (λ j. omega arith)
        (λ j. omega arith)
    by _ _ e (a_text {n = m} {k = k} {t = t0} q b) apart =
        resizes_full block l w n n (Characters t) [] [] (k ∷ []) none none world at (text_filling n t (k ∷ []) l world same) (λ z. z) (λ z. z) m k e (Fixed t0)
        b (inl refl) (λ m. elim m [ ]) (λ q. apart k q (inl refl)) (λ j. omega arith) (λ j. omega arith)

-- its characters are as many as it says
pub text_length : {world : World} {v : Value} {bs : List ℕ} → Has world Full block v bs → length (text_of world v) ≡ length_of v
text_length no_text = refl
text_length (a_text {t = t} same (in_text b e f)) =
    ap (λ x. length (text_in x)) (ap contents_value e ∙ ap object_in f) ∙ same

length_both : (t more : List ℕ) → length (t ++ more) ≡ length t + length more
length_both [] more = omega arith
length_both (c ∷ t) more = omega (arith, length_both t more)

pub appends : (more : List ℕ) (l : Location) (w v : Value) (old : List ℕ) (world : World) → At world l w → part w l.path ≡ v → Has world Full block v old →
    Apart l.base old → Sure (appended more l) (λ u after. Turns none none block l w [] old world after) world
appends more l w v old world at e h apart =
    subst (λ x. Sure (resized (length_of x + length more) (length_of x + length more) (Characters (text_of world x ++ more)) l)
    (λ u after. Turns none none block l w [] old world after) world) (sym (loaded world l w at.base ∙ e))
    (text_resized (length_of v + length more) (text_of world v ++ more) (length_both (text_of world v) more ∙ ap (λ n. n + length more) (text_length h))
    l w v old
    world at e h apart)

-- so many characters
length_to_is : (n : ℕ) (t : List ℕ) → length (text_to n t) ≡ n
length_to_is zero t = omega (arith, zeros (0 - length t) (omega arith))
  where
    zeros : (m : ℕ) → m ≡ 0 → length (replicate {A = ℕ} m 0) ≡ 0
    zeros zero e = refl
    zeros (suc m) e = absurd (omega (arith, e))
length_to_is (suc n) [] = many (suc n) (suc n - 0) (omega arith)
  where
    many : (n m : ℕ) → m ≡ n → length (replicate {A = ℕ} m 0) ≡ n
    many n zero e = e
    many zero (suc m) e = absurd (omega (arith, e))
    many (suc n) (suc m) e = ap suc (many n m (omega (arith, e)))
length_to_is (suc n) (c ∷ t) = ap suc (ap (λ m. length (take n t ++ replicate m 0)) (omega arith) ∙ length_to_is n t)

pub text_gets_length : (n : ℕ) (l : Location) (w v : Value) (old : List ℕ) (world : World) → At world l w → part w l.path ≡ v → Has world Full block v old →
    Apart l.base old → Sure (costs (n - length_of (load world l)) (resized n n (Characters (text_to n (text_of world (load world l)))) l))
    (λ u after. Turns none none block l w [] old world after) world
text_gets_length n l w v old world at e h apart =
    text_resized n (text_to n (text_of world (load world l))) (length_to_is n (text_of world (load world l))) l w v old world at e h apart
