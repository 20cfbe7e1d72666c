-- Pieces that are written one after another.
use Rattle.std.proofs.Common.{◌≡◌, ℕ, zero, suc, ◌+◌, ◌<◌, ◌≤◌, min, List, [], ◌∷◌, ◌++◌, length, take, map, get_or, Option, refl, sym, ap, subst, ◌∙◌, arith}
use Rattle.std.proofs.Common.{append_assoc, append-nil, add-one}
use Rattle.std.proofs.lemmas.List.{take_all, take-append-le, take_min, length-map}
use Rattle.std.proofs.Math.Seq.{take-append-add}
use Rattle.arc_base.specs.Outside.{Grown}
use Rattle.arc_base.proofs.ForCallers.{grown_more}
use Rattle.arc_top.specs.Report.{joined}

module _ {A : Type 0} (now : A → List ℕ) where
  -- the pieces before one, that piece and what follows it
  pub record Cut (xs : List A) (i : ℕ) (d : A) : Type 0 where
    pub rest : List ℕ
    pub all : joined (map now xs) ≡ joined (take i (map now xs)) ++ (now (get_or xs i d) ++ rest)
    pub more : joined (take (suc i) (map now xs)) ≡ joined (take i (map now xs)) ++ now (get_or xs i d)

  pub cut : (xs : List A) (i : ℕ) (d : A) → i < length xs → Cut xs i d
  cut [] i d lt = absurd (omega arith)
  cut (x ∷ xs) zero d lt = record { rest = joined (map now xs); all = refl; more = append-nil (now x) }
  cut (x ∷ xs) (suc i) d lt =
      let c = cut xs i d (omega arith) in
      let front = joined (take i (map now xs)) in
      let here = now (get_or xs i d) in
      record {
        rest = c.rest;
        all = ap (λ l. now x ++ l) c.all ∙ sym (append_assoc (now x) front (here ++ c.rest));
        more = ap (λ l. now x ++ l) c.more ∙ sym (append_assoc (now x) front here);
      }

  -- one more piece was written
  pub piece_written : (a b c : Option (List ℕ)) (xs : List A) (i : ℕ) (d : A) → i < length xs → Grown a b (joined (take i (map now xs)))
      → Grown b c (now (get_or xs i d)) → Grown a c (joined (take (i + 1) (map now xs)))
  piece_written a b c xs i d lt p q =
      let e : joined (take (i + 1) (map now xs)) ≡ joined (take i (map now xs)) ++ now (get_or xs i d) = ap (λ n. joined (take n (map now xs)))
      (add-one i) ∙ (cut xs i d lt).more in
      subst (Grown a c) (sym e) (grown_more a b c (joined (take i (map now xs))) (now (get_or xs i d)) p q)

  -- a front of one more piece was written, and so a front of all
  pub front_written : (a b c : Option (List ℕ)) (xs : List A) (i n : ℕ) (d : A) → i < length xs → Grown a b (joined (take i (map now xs)))
      → Grown b c (take n (now (get_or xs i d))) → (m : ℕ) × Grown a c (take m (joined (map now xs)))
  front_written a b c xs i n d lt p q =
      let k = cut xs i d lt in
      let front = joined (take i (map now xs)) in
      let here = now (get_or xs i d) in
      let m = min n (length here) in
      let e : take (length front + m) (joined (map now xs)) ≡ front ++ take n here =
      ap (take (length front + m)) k.all ∙ take-append-add front (here ++ k.rest) m
      ∙ ap (λ l. front ++ l) (take-append-le m here k.rest (omega arith) ∙ take_min n here) in
      (length front + m, subst (Grown a c) (sym e) (grown_more a b c front (take n here) p q))

-- what was written whole was written up to its end
pub whole_written : (a b : Option (List ℕ)) (bytes : List ℕ) → Grown a b bytes → (n : ℕ) × Grown a b (take n bytes)
whole_written a b bytes p = (length bytes, subst (Grown a b) (sym (take_all (length bytes) bytes (omega arith))) p)

-- all pieces were written
pub all_pieces : {A : Type 0} (now : A → List ℕ) (a b : Option (List ℕ)) (xs : List A) (i : ℕ) → length xs ≤ i
    → Grown a b (joined (take i (map now xs))) → Grown a b (joined (map now xs))
all_pieces now a b xs i le p = subst (λ l. Grown a b (joined l)) (take_all i (map now xs) (omega (arith, length-map xs now))) p
