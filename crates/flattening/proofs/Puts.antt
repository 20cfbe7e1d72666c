-- Lines that are put in front of others, with labels from one number to below another: so a label that is none of these stands where it stands
-- behind them.
use Rattle.std.proofs.Common.{◌≡◌, ℕ, ◌<◌, ◌≤◌, Bool, true, false, List, [], ◌∷◌, Option, Some, None, refl, ap, ◌∙◌, arith}
use Rattle.std.specs.Prelude.{if◌then◌else◌, nat_eq}
use Rattle.std.proofs.lemmas.Bool.{ne_eqb, eq-eqb, cond-true, cond-false}
use Rattle.flat_code.specs.declared.line.Line.{Line}
use Rattle.flat_code.specs.declared.line.Line.TheVariants as L
use Rattle.flat_code.specs.Running.{from_label, is_name}
use Rattle.flat_code.specs.Whole.{label_in}
use Rattle.flattening.proofs.Temps.{Outside}

abbrev pub found : ℕ → List Line → Option (List Line)
found name k = from_label label_in name k

abbrev pub is_empty : List Line → Bool
is_empty [] = true
is_empty (l ∷ k) = false

pub record Puts (lo hi : ℕ) (front : List Line → List Line) : Type 0 where
  pub skips : (name : ℕ) (k : List Line) → Outside lo hi name → found name (front k) ≡ found name k
  pub some : (k : List Line) → is_empty k ≡ false → is_empty (front k) ≡ false

pub puts_none : {lo hi : ℕ} → Puts lo hi (λ k. k)
puts_none = record { skips = λ name k out. refl; some = λ k h. h }

pub puts_line : {lo hi : ℕ} (l : Line) → label_in l ≡ None → Puts lo hi (λ k. l ∷ k)
puts_line l none =
    record { skips = λ name k out. ap (λ label. if is_name name label then Some (l ∷ k) else found name k) none; some = λ k h. refl }

pub puts_label : {lo hi : ℕ} (label : ℕ) → lo ≤ label → label < hi → Puts lo hi (λ k. L.Label label ∷ k)
puts_label {lo} {hi} label low high = record {
  skips = λ name k out.
      cond-false (nat_eq label name) (Some (L.Label label ∷ k)) (found name k)
      (ne_eqb label name (λ e. let h = out (omega (arith, low, e)) in absurd (omega (arith, h, high, e))));
  some = λ k h. refl;
}

-- it stands where it stands
pub found_here : (name : ℕ) (k : List Line) → found name (L.Label name ∷ k) ≡ Some (L.Label name ∷ k)
found_here name k = cond-true (nat_eq name name) (Some (L.Label name ∷ k)) (found name k) (eq-eqb name name refl)

infixl 10 ◌>>◌
pub ◌>>◌ : {lo hi : ℕ} {F G : List Line → List Line} → Puts lo hi F → Puts lo hi G → Puts lo hi (λ k. F (G k))
◌>>◌ {lo} {hi} {F} {G} p q = record { skips = λ name k out. p.skips name (G k) out ∙ q.skips name k out; some = λ k h. p.some (G k) (q.some k h) }

pub puts_wide : {lo hi lo' hi' : ℕ} {F : List Line → List Line} → lo ≤ lo' → hi' ≤ hi → Puts lo' hi' F → Puts lo hi F
puts_wide {lo} {hi} {lo'} {hi'} {F} low high p = record {
  skips = λ name k out. p.skips name k (λ le. let h = out (omega (arith, low, le)) in omega (arith, h, high));
  some = p.some;
}
