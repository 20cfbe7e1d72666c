-- Runs of operators: their fronts and their forms.
use Rattle.std.proofs.Common.{◌≡◌, ℕ, zero, suc, ◌<◌, List, [], ◌∷◌, get_or, Bool, true, false, refl, sym, ap, subst, ◌∙◌, arith}
use Rattle.std.specs.Prelude.{Some, None, cond, ◌==◌, ◌&&◌}
use Rattle.std.proofs.lemmas.Bool.{ne_eqb}
use Rattle.indent_scanner.specs.declared.shape.Shape.{Shape}
use Rattle.indent_scanner.specs.declared.shape.Shape.TheVariants.{Single, StarColon, Run}
use Rattle.indent_scanner.specs.declared.token.Tok.TheVariants as T
use Rattle.indent_scanner.specs.declared.piece.Piece.TheVariants.{Found}
use Rattle.indent_scanner.specs.Bytes.{byte_at, is_mark, in_run}
use Rattle.indent_scanner.specs.Shape.{step, form, is_whole, run_step, single_step}
use Rattle.indent_scanner.specs.Pieces.{behind_dot, IsRun, run_piece}
use Rattle.indent_scanner.specs.ByForm.{piece_of}
use Rattle.indent_scanner.proofs.Bools.{by_test, both_true, at_byte, not_both}
use Rattle.indent_scanner.proofs.Fronts.{some_same, no_some, first_step, then_form}
use Rattle.indent_scanner.proofs.Matches.{Matches}

-- the form behind a byte of a run
abbrev Behind : ℕ → Shape → Type 0
Behind p (Single first) = first ≡ p
Behind p StarColon = (p == 46) ≡ false
Behind p (Run dot) = dot ≡ (p == 46)
Behind p _ = ⊥

behind_whole : (p : ℕ) (s : Shape) → Behind p s → is_whole s ≡ true
behind_whole p (Single first) is = refl
behind_whole p StarColon is = refl
behind_whole p (Run dot) is = refl
behind_whole p _ is = absurd is

run_goes : (dot : Bool) (b next : ℕ) (v : Bool) → in_run dot b next ≡ v → run_step dot b next ≡ cond v (Some (Run (b == 46))) None
run_goes dot b next v e = ap (λ x. cond x (Some (Run (b == 46))) None) e

single_goes : (first b next : ℕ) (v : Bool) → (first == 42 && b == 58) ≡ v → single_step first b next ≡ cond v (Some StarColon) (run_step (first == 46) b next)
single_goes first b next v e = ap (λ x. cond x (Some StarColon) (run_step (first == 46) b next)) e

abbrev Goes : ℕ → Shape → ℕ → ℕ → Type 0
Goes p s b next = (t : Shape) × (step s b next ≡ Some t) × Behind b t

run_on : (p : ℕ) (s : Shape) (b next : ℕ) → Behind p s → in_run (p == 46) b next ≡ true → Goes p s b next
run_on p (Single first) b next is e = by_test _ (first == 42 && b == 58)
    (λ f. (StarColon, single_goes first b next true f, at_byte (λ x. (x == 46) ≡ false) b 58 refl (both_true (first == 42) (b == 58) f).1))
    (λ f. (Run (b == 46), single_goes first b next false f ∙ run_goes (first == 46) b next true (subst (λ x. in_run (x == 46) b next ≡ true) (sym is) e), refl))
run_on p StarColon b next is e = (Run (b == 46), run_goes false b next true (subst (λ x. in_run x b next ≡ true) is e), refl)
run_on p (Run dot) b next is e = (Run (b == 46), run_goes dot b next true (subst (λ x. in_run x b next ≡ true) (sym is) e), refl)
run_on p _ b next is e = absurd is

star_colon_runs : (first b next : ℕ) → (first == 42 && b == 58) ≡ true → in_run (first == 46) b next ≡ true
star_colon_runs first b next f =
    let parts = both_true (first == 42) (b == 58) f in
    at_byte (λ x. in_run (x == 46) b next ≡ true) first 42 (at_byte (λ x. in_run false x next ≡ true) b 58 refl parts.1) parts.0

run_off : (p : ℕ) (s : Shape) (b next : ℕ) → Behind p s → in_run (p == 46) b next ≡ false → step s b next ≡ None
run_off p (Single first) b next is e =
    let fails : in_run (first == 46) b next ≡ false = subst (λ x. in_run (x == 46) b next ≡ false) (sym is) e in
    by_test _ (first == 42 && b == 58)
    (λ f. absurd (not_both _ (star_colon_runs first b next f) fails))
    (λ f. single_goes first b next false f ∙ run_goes (first == 46) b next false fails)
run_off p StarColon b next is e = run_goes false b next false (subst (λ x. in_run x b next ≡ false) is e)
run_off p (Run dot) b next is e = run_goes dot b next false (subst (λ x. in_run x b next ≡ false) (sym is) e)
run_off p _ b next is e = absurd is

-- the byte at a place belongs to the run
abbrev In : List ℕ → ℕ → Type 0
In bytes k = in_run (behind_dot bytes k) (byte_at bytes k) (byte_at bytes (suc k)) ≡ true

each_more : (n p b : ℕ) (rest : List ℕ) → in_run (p == 46) b (get_or rest 0 0) ≡ true → ((k : ℕ) → k < n → In (b ∷ rest) (suc k)) → (k : ℕ) → k < suc n
    → In (p ∷ b ∷ rest) (suc k)
each_more n p b rest first all zero lt = first
each_more n p b rest first all (suc k) lt = all k (omega arith)

run_each : (n : ℕ) (rest : List ℕ) (p : ℕ) (s t : Shape) → Behind p s → form s n rest ≡ Some t → (k : ℕ) → k < n → In (p ∷ rest) (suc k)
run_each zero rest p s t is e = λ k lt. (let f : ⊥ = omega arith in absurd f)
run_each (suc n) [] p s t is e = (let f : ⊥ = cc in absurd f)
run_each (suc n) (b ∷ rest) p s t is e =
    let f = first_step s t n b rest e in
    by_test _ (in_run (p == 46) b (get_or rest 0 0))
    (λ g. let o = run_on p s b (get_or rest 0 0) is g in each_more n p b rest g (run_each n rest b f.0 t (subst (Behind b) (some_same _ o.1 f.1) o.2) f.2))
    (λ g. absurd (no_some _ (run_off p s b (get_or rest 0 0) is g) f.1))

each_run : (n : ℕ) (rest : List ℕ) (p : ℕ) (s : Shape) → Behind p s → ((k : ℕ) → k < n → In (p ∷ rest) (suc k)) → (t : Shape) × (form s n rest ≡ Some t)
    × (is_whole t ≡ true)
each_run zero rest p s is all = (s, refl, behind_whole p s is)
each_run (suc n) [] p s is all = (let e = all zero (omega arith) in let f : ⊥ = cc in absurd f)
each_run (suc n) (b ∷ rest) p s is all =
    let o = run_on p s b (get_or rest 0 0) is (all zero (omega arith)) in
    let r = each_run n rest b o.0 o.2 (λ k lt. all (suc k) (omega (arith, lt))) in
    (r.0, then_form s o.0 n b rest o.1 ∙ r.1, r.2)

whole_run : (n b : ℕ) (rest : List ℕ) → In (b ∷ rest) 0 → ((k : ℕ) → k < n → In (b ∷ rest) (suc k)) → (k : ℕ) → k < suc n → In (b ∷ rest) k
whole_run n b rest first all zero lt = first
whole_run n b rest first all (suc k) lt = all k (omega arith)

pub run_matches : (b : ℕ) (rest : List ℕ) → in_run false b (byte_at rest 0) ≡ true → Matches (IsRun (b ∷ rest)) (Single b) rest
run_matches b rest first = record {
  none = λ r. (let e = r.some in let f : ⊥ = omega (arith, e) in f);
  to = λ n r. each_run n rest b (Single b) refl (λ k lt. r.each (suc k) (omega (arith, lt)));
  from = λ n t e w. record { some = omega arith; each = whole_run n b rest first (run_each n rest b (Single b) t refl e) };
}

-- ---- what a run is

abbrev IsLong : Shape → Type 0
IsLong StarColon = Unit {0}
IsLong (Run dot) = Unit {0}
IsLong _ = ⊥

long_step : (s t : Shape) (b next : ℕ) → IsLong s → step s b next ≡ Some t → (dot : Bool) × (t ≡ Run dot)
long_step StarColon t b next is e = by_test _ (in_run false b next)
    (λ f. (b == 46, some_same _ e (run_goes false b next true f)))
    (λ f. absurd (no_some _ (run_goes false b next false f) e))
long_step (Run dot) t b next is e = by_test _ (in_run dot b next)
    (λ f. (b == 46, some_same _ e (run_goes dot b next true f)))
    (λ f. absurd (no_some _ (run_goes dot b next false f) e))
long_step _ t b next is e = absurd is

run_stays : (n : ℕ) (rest : List ℕ) (dot : Bool) (t : Shape) → form (Run dot) n rest ≡ Some t → (d : Bool) × (t ≡ Run d)
run_stays zero rest dot t e = (dot, some_same _ e refl)
run_stays (suc n) [] dot t e = (let f : ⊥ = cc in absurd f)
run_stays (suc n) (b ∷ rest) dot t e =
    let f = first_step (Run dot) t n b rest e in let g = long_step (Run dot) f.0 b (get_or rest 0 0) tt f.1 in
    run_stays n rest g.0 t (subst (λ x. form x n rest ≡ Some t) g.1 f.2)

long_run : (n : ℕ) (rest : List ℕ) (s t : Shape) → IsLong s → form s (suc n) rest ≡ Some t → (d : Bool) × (t ≡ Run d)
long_run n [] s t is e = (let f : ⊥ = cc in absurd f)
long_run n (b ∷ rest) s t is e =
    let f = first_step s t n b rest e in let g = long_step s f.0 b (get_or rest 0 0) is f.1 in
    run_stays n rest g.0 t (subst (λ x. form x n rest ≡ Some t) g.1 f.2)

-- the form behind the second byte
second : (b c next : ℕ) (t : Shape) → single_step b c next ≡ Some t → t ≡ cond (b == 42 && c == 58) StarColon (Run (c == 46))
second b c next t e = by_test _ (b == 42 && c == 58)
    (λ f. some_same _ e (single_goes b c next true f) ∙ sym (ap (λ v. cond v StarColon (Run (c == 46))) f))
    (λ f. by_test _ (in_run (b == 46) c next)
    (λ g. some_same _ e (single_goes b c next false f ∙ run_goes (b == 46) c next true g) ∙ sym (ap (λ v. cond v StarColon (Run (c == 46))) f))
    (λ g. absurd (no_some _ (single_goes b c next false f ∙ run_goes (b == 46) c next false g) e)))

long_second : (v dot : Bool) → IsLong (cond v StarColon (Run dot))
long_second true dot = tt
long_second false dot = tt

piece_second : (v dot : Bool) (bytes : List ℕ) → piece_of (cond v StarColon (Run dot)) 2 bytes ≡ cond v (Found T.Op 1) (Found T.Op 2)
piece_second true dot bytes = refl
piece_second false dot bytes = refl

long_piece : (n : ℕ) (bytes : List ℕ) → run_piece (suc (suc (suc n))) bytes ≡ Found T.Op (suc (suc (suc n)))
long_piece n bytes =
    let k = suc (suc (suc n)) in
    let last = Found T.Op k in let star = cond (k == 2 && (byte_at bytes 0 == 42 && byte_at bytes 1 == 58)) (Found T.Op 1) last in
    ap (λ v. cond (v && is_mark (byte_at bytes 0)) (Found (T.Punct (byte_at bytes 0)) 1) star) (ne_eqb k 1 (λ e. omega (arith, e)))
    ∙ ap (λ v. cond (v && (byte_at bytes 0 == 42 && byte_at bytes 1 == 58)) (Found T.Op 1) last) (ne_eqb k 2 (λ e. omega (arith, e)))

pub run_is : (n b : ℕ) (rest : List ℕ) (t : Shape) → form (Single b) n rest ≡ Some t → piece_of t (suc n) (b ∷ rest) ≡ run_piece (suc n) (b ∷ rest)
run_is zero b rest t e = ap (λ x. piece_of x 1 (b ∷ rest)) (some_same _ e refl)
run_is (suc n) b [] t e = (let f : ⊥ = cc in absurd f)
run_is (suc zero) b (c ∷ rest) t e =
    let f = first_step (Single b) t 0 c rest e in
    let is : t ≡ cond (b == 42 && c == 58) StarColon (Run (c == 46)) = some_same _ f.2 refl ∙ second b c (get_or rest 0 0) f.0 f.1 in
    ap (λ x. piece_of x 2 (b ∷ c ∷ rest)) is ∙ piece_second (b == 42 && c == 58) (c == 46) (b ∷ c ∷ rest)
run_is (suc (suc n)) b (c ∷ rest) t e =
    let f = first_step (Single b) t (suc n) c rest e in
    let long = subst IsLong (sym (second b c (get_or rest 0 0) f.0 f.1)) (long_second (b == 42 && c == 58) (c == 46)) in
    let g = long_run n rest f.0 t long f.2 in
    ap (λ x. piece_of x (suc (suc (suc n))) (b ∷ c ∷ rest)) g.1 ∙ sym (long_piece n (b ∷ c ∷ rest))
