-- The places in scope have cells, in order; of the globals those that are named.
use Rattle.std.proofs.Common.{◌≡◌, refl, sym, ap, ◌∙◌, arith, ℕ, ◌+◌, ◌<◌, inl, inr, ◌⊎◌, Bool, true, false, not, List, [], ◌∷◌, ◌++◌, length, Some}
use Rattle.std.specs.Prelude.{nat_eq, if◌then◌else◌, take}
use Rattle.std.proofs.lemmas.Bool.{eqb-true, false≢true}
use Rattle.nim_types.specs.Types.{Ty}
use Rattle.nim_types.specs.Forms.{Form, form_of}
use Rattle.nim_program.specs.Scopes as scopes
use Rattle.nim_program.specs.Scopes.{Placed, look, type_in}
use Rattle.nim_meaning.specs.State.{World}
use Rattle.nim_meaning.specs.Here.{Here, level_of}
use Rattle.holders.specs.Territory.{Owner}
use Rattle.holders.specs.Finding.{PlaceOf, own_place, a_name_of, of_constant}
use Rattle.holders.specs.Scenes.{Named}
use Rattle.holders.specs.Asked.{Limits, may_write_at}
use Rattle.holders.specs.Evaluating.{seen_of, HasScene}
use Rattle.holders.proofs.Working.{number_below}
use Rattle.holders.proofs.Scenes.{place_first, place_second, position, positions_two, looked}
use Rattle.holders.proofs.WaitingTaken.{same_or_other}

pub look_seen : (seen : ℕ → Bool) (n : ℕ) (ty : Ty) → seen n ≡ true → (ps : List Placed) → look ps n ≡ Some ty → look (seen_of seen ps) n ≡ Some ty
look_seen seen n ty is_seen [] e = e
look_seen seen n ty is_seen (p ∷ ps) e = by (nat_eq p.number n) refl (seen p.number) refl e (λ q. look_seen seen n ty is_seen ps q)
  where
    by : (b : Bool) → nat_eq p.number n ≡ b → (c : Bool) → seen p.number ≡ c → (if b then Some p.of else look ps n) ≡ Some ty →
        (look ps n ≡ Some ty → look (seen_of seen ps) n ≡ Some ty) → look (if c then p ∷ seen_of seen ps else seen_of seen ps) n ≡ Some ty
    by true q true s e rest = ap (λ b. if b then Some p.of else look (seen_of seen ps) n) q ∙ e
    by true q false s e rest = absurd (false≢true (sym s ∙ (ap seen (eqb-true p.number n q) ∙ is_seen)))
    by false q true s e rest = ap (λ b. if b then Some p.of else look (seen_of seen ps) n) q ∙ rest e
    by false q false s e rest = rest e

-- one that may be written has a cell
pub place_below : {os : List Owner} {world : World} {level n : ℕ} {f : Form} {b : Bool} {root : ℕ} → PlaceOf os world level n f b root → b ≡ true →
    root < length os
place_below (own_place i) e = number_below i
place_below (a_name_of name i) e = number_below i
place_below (of_constant name made from h) e = absurd (false≢true e)

pub not_true : (b : Bool) → not b ≡ true → b ≡ false
not_true false e = refl
not_true true e = absurd (false≢true e)

module _ (here : Here) (scope : scopes.Here) (limits : Limits) {ls gs : List Owner} {world : World}
    (names : Named here.facts limits.kept world here.level scope.places ls)
    (globals : Named here.facts (λ n. false) world 0 (seen_of (limits.seen true) (take scope.filled scope.globals)) gs) where
  abbrev roots : (global : Bool) → ℕ → ℕ
  roots false n = position names n
  roots true n = length ls + position globals n

  pub has_scene : HasScene here scope limits (ls ++ gs) world
  has_scene = record {
    root = roots;
    scene = record {
      place = λ global n ty seen e. by global n ty seen e;
      two = λ g h n m ty other a b e f x y q. apart g h n m ty other a b e f x y q;
    };
  }
    where
      seen_global : (n : ℕ) (ty : Ty) → limits.seen true n ≡ true → type_in scope true n ≡ Some ty →
          look (seen_of (limits.seen true) (take scope.filled scope.globals)) n ≡ Some ty
      seen_global n ty seen e = look_seen (limits.seen true) n ty seen (take scope.filled scope.globals) e

      by : (global : Bool) (n : ℕ) (ty : Ty) → limits.seen global n ≡ true → type_in scope global n ≡ Some ty →
          PlaceOf (ls ++ gs) world (level_of global here) n (form_of here.facts ty) (may_write_at limits global n) (roots global n)
      by false n ty seen e = place_first gs (looked n names e)
      by true n ty seen e = place_second ls (looked n globals (seen_global n ty seen e))

      local_below : (n : ℕ) (ty : Ty) → type_in scope false n ≡ Some ty → may_write_at limits false n ≡ true → roots false n < length ls
      local_below n ty e x = place_below (looked n names e) x

      same : (n m : ℕ) → (n ≡ m) ⊎ (n ≡ m → ⊥) → ((n ≡ m → ⊥) → ⊥) → n ≡ m
      same n m (inl e) h = e
      same n m (inr d) h = absurd (h d)

      apart : (g h : Bool) (n m : ℕ) (ty other : Ty) → limits.seen g n ≡ true → limits.seen h m ≡ true → type_in scope g n ≡ Some ty →
          type_in scope h m ≡ Some other → may_write_at limits g n ≡ true → may_write_at limits h m ≡ true → roots g n ≡ roots h m → (g ≡ h) × (n ≡ m)
      apart false false n m ty other a b e f x y q = (
        refl,
        same n m (same_or_other n m) (λ d. positions_two n m names d e f (not_true (limits.kept n) x) (not_true (limits.kept m) y) q),
      )
      apart true true n m ty other a b e f x y q = (
        refl,
        same n m (same_or_other n m)
            (λ d. positions_two n m globals d (seen_global n ty a e) (seen_global m other b f) refl refl (omega (arith, q))),
      )
      apart false true n m ty other a b e f x y q = absurd (omega (arith, q, local_below n ty e x))
      apart true false n m ty other a b e f x y q = absurd (omega (arith, q, local_below m other f y))
