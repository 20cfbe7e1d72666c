-- The places in scope, where there are more cells, and where a place more is in scope.
use Rattle.std.proofs.Common.{◌≡◌, refl, sym, ap, subst, ◌∙◌, arith, ℕ, zero, suc, ◌+◌, inl, inr, ◌⊎◌, Bool, true, false, List, [], ◌∷◌, ◌++◌, length, Option}
use Rattle.std.specs.Prelude.{nat_eq, if◌then◌else◌, take, slice_get, Some, None}
use Rattle.std.proofs.lemmas.Bool.{eqb-true, eq-eqb, false≢true}
use Rattle.std.proofs.lemmas.Option.{none-some, same_Some}
use Rattle.nim_types.specs.Types.{Ty}
use Rattle.nim_types.specs.Forms.{Form, form_of}
use Rattle.nim_program.specs.Program.{Declared}
use Rattle.nim_program.specs.Scopes as scopes
use Rattle.nim_program.specs.Scopes.{Placed, placed, look, type_in, with_place, with_global}
use Rattle.nim_meaning.specs.State.{World}
use Rattle.nim_meaning.specs.Here.{Here, level_of}
use Rattle.holders.specs.Territory.{Owner, Among, first_owner, later_owner}
use Rattle.holders.specs.Finding.{PlaceOf, own_place, a_name_of, of_constant}
use Rattle.holders.specs.Asked.{Limits, may_write_at}
use Rattle.holders.specs.BodyParts.{own_cell, Sights}
use Rattle.holders.proofs.Working.{among_second}
use Rattle.holders.proofs.Scenes.{place_second, one_later}

-- behind other cells
pub sights_behind : {here : Here} {scope : scopes.Here} {limits : Limits} {os : List Owner} {world : World} (ms : List Owner) →
    Sights here scope limits os world → Sights here scope limits (ms ++ os) world
sights_behind ms s = record {
  root = λ g n. length ms + s.root g n;
  scene = record {
    place = λ g n ty seen e. place_second ms (s.scene.place g n ty seen e);
    two = λ g h n m ty other a b c d x y e. s.scene.two g h n m ty other a b c d x y (same (s.root g n) (s.root h m) e);
  };
  result = λ place e. among_second ms (s.result place e);
}
  where
    same : (a b : ℕ) → length ms + a ≡ length ms + b → a ≡ b
    same a b e = omega (arith, e)

-- ---- a place more

pub look_more : (ps : List Placed) (p : Placed) (n : ℕ) (ty : Ty) → look (ps ++ p ∷ []) n ≡ Some ty → (look ps n ≡ Some ty) ⊎ ((p.number ≡ n) × (p.of ≡ ty))
look_more [] p n ty e = by (nat_eq p.number n) refl e
  where
    by : (b : Bool) → nat_eq p.number n ≡ b → (if b then Some p.of else None) ≡ Some ty → (◌≡◌ {A = Option Ty} None (Some ty)) ⊎ ((p.number ≡ n) × (p.of ≡ ty))
    by true q e = inr (eqb-true p.number n q, same_Some p.of ty e)
    by false q e = inl e
look_more (q ∷ ps) p n ty e = by (nat_eq q.number n) e (λ g. look_more ps p n ty g)
  where
    by : (b : Bool) → (if b then Some q.of else look (ps ++ p ∷ []) n) ≡ Some ty →
        (look (ps ++ p ∷ []) n ≡ Some ty → (look ps n ≡ Some ty) ⊎ ((p.number ≡ n) × (p.of ≡ ty))) →
        ((if b then Some q.of else look ps n) ≡ Some ty) ⊎ ((p.number ≡ n) × (p.of ≡ ty))
    by true e rest = inl e
    by false e rest = rest e

-- where it is asked for less
place_less : {os : List Owner} {world : World} {level n : ℕ} {f : Form} {b : Bool} {m : ℕ} (c : Bool) → (c ≡ true → b ≡ true) →
    PlaceOf os world level n f b m → PlaceOf os world level n f c m
place_less c h (own_place i) = own_place i
place_less c h (a_name_of name i) = a_name_of name i
place_less true h (of_constant name made from has) = absurd (false≢true (h refl))
place_less false h (of_constant name made from has) = of_constant name made from has

-- What is in scope was there, or is the place that is new there.
pub data NewOrOld (scope : scopes.Here) (place : Declared) (kind : Bool) (is_new : (global : Bool) → ℕ → Bool) (g : Bool) (n : ℕ) (ty : Ty) : Type 0 where
  as_before : is_new g n ≡ false → type_in scope g n ≡ Some ty → NewOrOld scope place kind is_new g n ty
  a_new : is_new g n ≡ true → g ≡ kind → n ≡ place.number → ty ≡ place.of → NewOrOld scope place kind is_new g n ty

module _ (here : Here) (scope next : scopes.Here) (limits more : Limits) (place : Declared) (kind : Bool) (is_new : (global : Bool) → ℕ → Bool)
    (view : (g : Bool) (n : ℕ) (ty : Ty) → type_in next g n ≡ Some ty → NewOrOld scope place kind is_new g n ty) (os qs : List Owner) (world : World)
    (new : ℕ) (shift : ℕ → ℕ) (old : Sights here scope limits os world)
    (seen : (g : Bool) (n : ℕ) → more.seen g n ≡ true → limits.seen g n ≡ true)
    (writes : (g : Bool) (n : ℕ) → may_write_at more g n ≡ true → may_write_at limits g n ≡ true)
    (moved : (level n : ℕ) (f : Form) (b : Bool) (m : ℕ) → PlaceOf os world level n f b m → PlaceOf qs world level n f b (shift m))
    (apart : (a b : ℕ) → shift a ≡ shift b → a ≡ b)
    (stands : PlaceOf qs world (level_of kind here) place.number (form_of here.facts place.of) (may_write_at more kind place.number) new)
    (other : may_write_at more kind place.number ≡ true → (m : ℕ) → new ≡ shift m → ⊥)
    (kept : (p : Declared) → Among os (own_cell here p) → Among qs (own_cell here p)) where
  abbrev roots : (global : Bool) → ℕ → ℕ
  roots g n = if is_new g n then new else shift (old.root g n)

  root_old : (g : Bool) (n : ℕ) → is_new g n ≡ false → roots g n ≡ shift (old.root g n)
  root_old g n e = ap (λ b. if b then new else shift (old.root g n)) e

  root_new : (g : Bool) (n : ℕ) → is_new g n ≡ true → roots g n ≡ new
  root_new g n e = ap (λ b. if b then new else shift (old.root g n)) e

  there : (g : Bool) (n : ℕ) (ty : Ty) → more.seen g n ≡ true → NewOrOld scope place kind is_new g n ty →
      PlaceOf qs world (level_of g here) n (form_of here.facts ty) (may_write_at more g n) (roots g n)
  there g n ty s (as_before r e) =
      subst (λ m. PlaceOf qs world (level_of g here) n (form_of here.facts ty) (may_write_at more g n) m) (sym (root_old g n r))
      (place_less (may_write_at more g n) (writes g n)
      (moved (level_of g here) n (form_of here.facts ty) (may_write_at limits g n) (old.root g n) (old.scene.place g n ty (seen g n s) e)))
  there g n ty s (a_new r q e t) =
      subst (λ m. PlaceOf qs world (level_of g here) n (form_of here.facts ty) (may_write_at more g n) m) (sym (root_new g n r))
      (subst (λ h. PlaceOf qs world (level_of h here) n (form_of here.facts ty) (may_write_at more h n) new) (sym q)
      (subst (λ m. PlaceOf qs world (level_of kind here) m (form_of here.facts ty) (may_write_at more kind m) new) (sym e)
      (subst (λ t. PlaceOf qs world (level_of kind here) place.number (form_of here.facts t) (may_write_at more kind place.number) new) (sym t) stands)))

  -- the new one isn't where another one is
  not_new : (g : Bool) (n m : ℕ) → g ≡ kind → n ≡ place.number → may_write_at more g n ≡ true → new ≡ shift m → ⊥
  not_new g n m q e w same = other (subst (λ k. may_write_at more kind k ≡ true) e (subst (λ h. may_write_at more h n ≡ true) q w)) m same

  both : (g h : Bool) (n m : ℕ) (ty u : Ty) → more.seen g n ≡ true → more.seen h m ≡ true → NewOrOld scope place kind is_new g n ty →
      NewOrOld scope place kind is_new h m u → may_write_at more g n ≡ true → may_write_at more h m ≡ true → roots g n ≡ roots h m → (g ≡ h) × (n ≡ m)
  both g h n m ty u a b (as_before r e) (as_before t f) x y same =
      old.scene.two g h n m ty u (seen g n a) (seen h m b) e f (writes g n x) (writes h m y)
      (apart (old.root g n) (old.root h m) (sym (root_old g n r) ∙ (same ∙ root_old h m t)))
  both g h n m ty u a b (as_before r e) (a_new t q f k) x y same =
      absurd (not_new h m (old.root g n) q f y (sym (root_new h m t) ∙ (sym same ∙ root_old g n r)))
  both g h n m ty u a b (a_new t q f k) (as_before r e) x y same =
      absurd (not_new g n (old.root h m) q f x (sym (root_new g n t) ∙ (same ∙ root_old h m r)))
  both g h n m ty u a b (a_new t q f k) (a_new t2 q2 f2 k2) x y same = (q ∙ sym q2, f ∙ sym f2)

  pub sights_next : Sights here next more qs world
  sights_next = record {
    root = roots;
    scene = record {
      place = λ g n ty s e. there g n ty s (view g n ty e);
      two = λ g h n m ty u a b c d x y same. both g h n m ty u a b (view g n ty c) (view h m u d) x y same;
    };
    result = λ p e. kept p (old.result p e);
  }

-- ---- a place of the body

abbrev pub is_place : Declared → (global : Bool) → ℕ → Bool
is_place place true n = false
is_place place false n = nat_eq place.number n

pub place_view : (scope : scopes.Here) (place : Declared) → ((ty : Ty) → type_in scope false place.number ≡ Some ty → ⊥) → (g : Bool) (n : ℕ) (ty : Ty) →
    type_in (with_place scope place) g n ≡ Some ty → NewOrOld scope place false (is_place place) g n ty
place_view scope place fresh true n ty e = as_before refl e
place_view scope place fresh false n ty e = by (nat_eq place.number n) refl (look_more scope.places (placed place) n ty e)
  where
    by : (b : Bool) → nat_eq place.number n ≡ b → (look scope.places n ≡ Some ty) ⊎ ((place.number ≡ n) × (place.of ≡ ty)) →
        NewOrOld scope place false (is_place place) false n ty
    by true q (inl e) = absurd (fresh ty (subst (λ k. look scope.places k ≡ Some ty) (sym (eqb-true place.number n q)) e))
    by true q (inr e) = a_new q refl (sym e.0) (sym e.1)
    by false q (inl e) = as_before q e
    by false q (inr e) = absurd (false≢true (sym q ∙ eq-eqb place.number n e.0))

-- with a cell of its own, in front
pub sights_more : (here : Here) (scope : scopes.Here) (limits more : Limits) (place : Declared) {os : List Owner} {world : World} →
    ((ty : Ty) → type_in scope false place.number ≡ Some ty → ⊥) → ((g : Bool) (n : ℕ) → more.seen g n ≡ true → limits.seen g n ≡ true) →
    ((g : Bool) (n : ℕ) → may_write_at more g n ≡ true → may_write_at limits g n ≡ true) → Sights here scope limits os world →
    Sights here (with_place scope place) more (own_cell here place ∷ os) world
sights_more here scope limits more place {os} {world} fresh seen writes old =
    sights_next here scope (with_place scope place) limits more place false (is_place place) (place_view scope place fresh) os (own_cell here place ∷ os) world
    0 suc old seen writes (λ level n f b m p. one_later p) (λ a b e. omega (arith, e)) (own_place first_owner) (λ w m e. omega (arith, e))
    (λ p i. later_owner i)

-- ---- a global

abbrev pub is_global : Declared → (global : Bool) → ℕ → Bool
is_global place true n = nat_eq place.number n
is_global place false n = false

take_more : (k : ℕ) (gs : List Placed) (g : Placed) → slice_get gs k ≡ Some g → take (suc k) gs ≡ take k gs ++ g ∷ []
take_more zero [] g e = absurd (none-some g e)
take_more zero (h ∷ gs) g e = ap (λ (p : Placed). p ∷ []) (same_Some h g e)
take_more (suc k) [] g e = absurd (none-some g e)
take_more (suc k) (h ∷ gs) g e = ap (λ (ps : List Placed). h ∷ ps) (take_more k gs g e)

pub global_view : (scope : scopes.Here) (place : Declared) → slice_get scope.globals scope.filled ≡ Some (placed place) →
    ((ty : Ty) → type_in scope true place.number ≡ Some ty → ⊥) → (g : Bool) (n : ℕ) (ty : Ty) →
    type_in (with_global scope) g n ≡ Some ty → NewOrOld scope place true (is_global place) g n ty
global_view scope place there fresh false n ty e = as_before refl e
global_view scope place there fresh true n ty e =
    by (nat_eq place.number n) refl
    (look_more (take scope.filled scope.globals) (placed place) n ty
    (subst (λ ps. look ps n ≡ Some ty) (take_more scope.filled scope.globals (placed place) there) e))
  where
    by : (b : Bool) → nat_eq place.number n ≡ b → (look (take scope.filled scope.globals) n ≡ Some ty) ⊎ ((place.number ≡ n) × (place.of ≡ ty)) →
        NewOrOld scope place true (is_global place) true n ty
    by true q (inl e) = absurd (fresh ty (subst (λ k. look (take scope.filled scope.globals) k ≡ Some ty) (sym (eqb-true place.number n q)) e))
    by true q (inr e) = a_new q refl (sym e.0) (sym e.1)
    by false q (inl e) = as_before q e
    by false q (inr e) = absurd (false≢true (sym q ∙ eq-eqb place.number n e.0))

-- in the start code, where globals stand
pub sights_global : (here : Here) (scope : scopes.Here) (limits : Limits) (place : Declared) {os : List Owner} {world : World} → 0 ≡ here.level →
    slice_get scope.globals scope.filled ≡ Some (placed place) → ((ty : Ty) → type_in scope true place.number ≡ Some ty → ⊥) →
    Sights here scope limits os world → Sights here (with_global scope) limits (own_cell here place ∷ os) world
sights_global here scope limits place {os} {world} level there fresh old =
    sights_next here scope (with_global scope) limits limits place true (is_global place) (global_view scope place there fresh) os
    (own_cell here place ∷ os) world 0 suc old (λ g n e. e) (λ g n e. e) (λ level n f b m p. one_later p) (λ a b e. omega (arith, e))
    (subst (λ l. PlaceOf (own_cell here place ∷ os) world l place.number (form_of here.facts place.of) true 0) (sym level) (own_place first_owner))
    (λ w m e. omega (arith, e)) (λ p i. later_owner i)
