-- What a scope has of a name, from its last declaration on.
use Rattle.std.proofs.Common.{◌≡◌, ℕ, zero, suc, ◌<◌, ◌≤◌, List, [], ◌∷◌, length}
use Rattle.std.proofs.Common.{map, drop, refl, sym, ap, ◌∙◌, subst, Some, None, arith}
use Rattle.std.specs.Prelude.{Bool, true, false, Option, slice_get, if◌then◌else◌, nat_le}
use Rattle.std.proofs.lemmas.Bool.{leb-true, leb-false}
use Rattle.std.proofs.lemmas.Option.{none-some, same_Some}
use Rattle.nim_types.specs.Types.{Ty, same_text}
use Rattle.expr_parts.specs.declared.scope.What.{What}
use Rattle.expr_parts.specs.declared.scope.What.TheVariants as what
use Rattle.expr_parts.specs.declared.scope.Decl.{Decl}
use Rattle.expr_parts.specs.View.{entry_of, entry_by}
use Rattle.expr_parts.specs.ViewDecls.{is_named, has_name, last_of, procedure_in}
use Rattle.expr_parts.proofs.ForCallers.{found_below}
use Rattle.expr_rules.specs.Env.{Parameter, name_in}
use Rattle.decl_rules.specs.Heads.{Earlier, nothing_earlier, no_procedure, earlier, earlier_by}

name_of : (ts : List Ty) (x : List ℕ) (w : What) → name_in (entry_by ts x w) ≡ x
name_of ts x (what.Variable place ty writable global) = refl
name_of ts x (what.Constant ty l) = refl
name_of ts x (what.Type id) = refl
name_of ts x what.Pending = refl
name_of ts x (what.Procedure p) = refl
name_of ts x what.Input = refl

-- a declaration, and those behind it
earlier_at : (ts : List Ty) (x : List ℕ) (ps : List Parameter) (ds : List Decl) (n : ℕ) (d : Decl) (b : Bool) → slice_get ds n ≡ Some d
    → same_text x d.name ≡ b
    → earlier x ps (drop n (map (entry_of ts) ds))
    ≡ (if b then earlier_by ps (entry_of ts d) (earlier x ps (drop (suc n) (map (entry_of ts) ds))) else earlier x ps (drop (suc n) (map (entry_of ts) ds)))
earlier_at ts x ps [] n d b at e = absurd (none-some d at)
earlier_at ts x ps (c ∷ ds) zero d b at e =
    let s : c ≡ d = same_Some c d at in
    let rest = earlier x ps (map (entry_of ts) ds) in
    ap (λ (k : Bool). if k then earlier_by ps (entry_of ts c) rest else rest)
    (ap (same_text x) (name_of ts c.name c.what ∙ ap (λ (z : Decl). z.name) s) ∙ e)
    ∙ ap (λ (z : Decl). if b then earlier_by ps (entry_of ts z) rest else rest) s
earlier_at ts x ps (c ∷ ds) (suc n) d b at e = earlier_at ts x ps ds n d b at e

entry_at : {X : Type 0} (xs : List X) (n : ℕ) → n < length xs → (x : X) × (slice_get xs n ≡ Some x)
entry_at [] n h = absurd (omega (arith, h))
entry_at (x ∷ xs) zero h = (x, refl)
entry_at (x ∷ xs) (suc n) h = entry_at xs n (omega (arith, h))

-- the last declaration of a name is below a number
abbrev pub IsBefore : ℕ → Option ℕ → Type 0
IsBefore k None = Unit {0}
IsBefore k (Some i) = i < k

-- between the last declaration of a name and a number nothing has the name
pub earlier_kept : (ts : List Ty) (x : List ℕ) (ps : List Parameter) (ds : List Decl) (k n : ℕ) → k ≤ n → n ≤ length ds
    → IsBefore k (last_of ds x n)
    → earlier x ps (drop k (map (entry_of ts) ds)) ≡ earlier x ps (drop n (map (entry_of ts) ds))
earlier_kept ts x ps ds k zero le within before = let e : k ≡ zero = omega (arith, le) in ap (λ m. earlier x ps (drop m (map (entry_of ts) ds))) e
earlier_kept ts x ps ds k (suc n) le within before =
    by_side (nat_le k n) refl before (λ l h. earlier_kept ts x ps ds k n l (omega (arith, within)) h)
  where
    by_test : (b : Bool) → is_named ds x n ≡ b → k ≤ n → IsBefore k (if b then Some n else last_of ds x n)
        → (k ≤ n → IsBefore k (last_of ds x n) → earlier x ps (drop k (map (entry_of ts) ds)) ≡ earlier x ps (drop n (map (entry_of ts) ds)))
        → earlier x ps (drop k (map (entry_of ts) ds)) ≡ earlier x ps (drop (suc n) (map (entry_of ts) ds))
    by_test true t l h f = absurd (omega (arith, l, h))
    by_test false t l h f =
        let d = entry_at ds n (omega (arith, within)) in f l h ∙ earlier_at ts x ps ds n d.0 false d.1 (sym (ap (has_name x) d.1) ∙ t)

    by_side : (b : Bool) → nat_le k n ≡ b → IsBefore k (last_of ds x (suc n))
        → (k ≤ n → IsBefore k (last_of ds x n) → earlier x ps (drop k (map (entry_of ts) ds)) ≡ earlier x ps (drop n (map (entry_of ts) ds)))
        → earlier x ps (drop k (map (entry_of ts) ds)) ≡ earlier x ps (drop (suc n) (map (entry_of ts) ds))
    by_side true t h f = by_test (is_named ds x n) refl (leb-true k n t) h f
    by_side false t h f = let e : k ≡ suc n = omega (arith, le, leb-false k n t) in ap (λ m. earlier x ps (drop m (map (entry_of ts) ds))) e

-- the last declaration of a name below a number, and those behind the number
pub earlier_found : (ts : List Ty) (x : List ℕ) (ps : List Parameter) (ds : List Decl) (n i : ℕ) (d : Decl) → n ≤ length ds
    → last_of ds x n ≡ Some i
    → slice_get ds i ≡ Some d
    → earlier x ps (drop i (map (entry_of ts) ds)) ≡ earlier_by ps (entry_of ts d) (earlier x ps (drop n (map (entry_of ts) ds)))
earlier_found ts x ps ds n i d within is at =
    let found = found_below (is_named ds x) n i is in
    let below = found.1 in
    earlier_at ts x ps ds i d true at (sym (ap (has_name x) at) ∙ found.0)
    ∙ ap (earlier_by ps (entry_of ts d))
    (earlier_kept ts x ps ds (suc i) n (omega (arith, below)) within (subst (IsBefore (suc i)) (sym is) (omega arith)))

-- behind the last declaration there is nothing
pub earlier_none : (ts : List Ty) (x : List ℕ) (ps : List Parameter) (ds : List Decl)
    → earlier x ps (drop (length ds) (map (entry_of ts) ds)) ≡ nothing_earlier
earlier_none ts x ps [] = refl
earlier_none ts x ps (d ∷ ds) = earlier_none ts x ps ds

-- what is no procedure stands against each
pub stands_against : (ts : List Ty) (x : List ℕ) (w : What) (ps : List Parameter) (more : Earlier) → procedure_in w ≡ None
    → earlier_by ps (entry_by ts x w) more ≡ no_procedure
stands_against ts x (what.Procedure p) ps more e = absurd (none-some p (sym e))
stands_against ts x (what.Variable place ty writable global) ps more e = refl
stands_against ts x (what.Constant ty l) ps more e = refl
stands_against ts x (what.Type id) ps more e = refl
stands_against ts x what.Input ps more e = refl
stands_against ts x what.Pending ps more e = refl
