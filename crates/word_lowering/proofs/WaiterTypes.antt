-- What waits at a node is of the type of the one place whose value waits there.
use Rattle.std.proofs.Common.{◌≡◌, inl, inr, ℕ, List, [], ◌∷◌, Bool, true, false, Option, Some, None, refl, sym, ap, subst, ◌∙◌}
use Rattle.std.specs.Prelude.{nat_eq, if◌then◌else◌, ◌&&◌, ◌||◌}
use Rattle.std.proofs.lemmas.Bool.{and_parts, eqb-true}
use Rattle.std.proofs.lemmas.Option.{none-some}
use Rattle.nim_types.specs.declared.types.TypeDef.{TypeDef}
use Rattle.flat_code.specs.declared.line.Line.{Line}
use Rattle.flat_code.specs.declared.place.FlatPlace.{FlatPlace}
use Rattle.flat_code.specs.Waits.{any_waits, is_node, wait_once, waits_alone}
use Rattle.word_lowering.specs.declared.homes.Free.{Free}
use Rattle.word_lowering.specs.declared.homes.Housed.{Housed}
use Rattle.word_lowering.specs.declared.homes.Waiter.{Waiter}
use Rattle.word_lowering.specs.Layouts.{all_housed, and_waiter, behind, behind_waiter, housed, place_alias, place_bytes, waiters, waits_by}
use Rattle.word_lowering.specs.Stored.{is_hooked}
use Rattle.word_lowering.specs.WaitingCode.{waiter_at}
use Rattle.word_lowering.proofs.Options.{some_same}
use Rattle.word_lowering.proofs.ShapeFacts.{never}
use Rattle.word_lowering.proofs.Sites.{Among}
use Rattle.word_lowering.proofs.WaiterFound.{AmongPlaces, any_there, clash, waits_are}

node_is : (node : ℕ) (o : Option ℕ) → is_node node o ≡ true → o ≡ Some node
node_is node None h = never h
node_is node (Some n) h = ap Some (eqb-true n node h)

module _ (table : List TypeDef) (start : Bool) (lines : List Line) where
  -- a place has a home
  pub record HomeAt (hs : List Housed) (p : FlatPlace) : Type 0 where
    pub home : Housed
    pub among : Among home hs
    pub type_is : home.ty ≡ p.ty
    pub kind : home.kind ≡ p.kind

  pub home_at : (first : Free) (ps : List FlatPlace) (p : FlatPlace) → AmongPlaces table start lines p ps
      → HomeAt (all_housed table start lines first ps) p
  home_at first [] p i = absurd i
  home_at first (q ∷ ps) p (inl s) = record {
    home = housed table start lines first q;
    among = inl refl;
    type_is = ap (λ (z : FlatPlace). z.ty) s;
    kind = ap (λ (z : FlatPlace). z.kind) s;
  }
  home_at first (q ∷ ps) p (inr i) =
      let h = home_at (behind table start lines first q) ps p i in
      record { home = h.home; among = inr h.among; type_is = h.type_is; kind = h.kind }

  -- the place whose value waits at a node
  record PlaceAt (ps : List FlatPlace) (node : ℕ) (w : Waiter) : Type 0 where
    place : FlatPlace
    among : AmongPlaces table start lines place ps
    waits : place.waits ≡ Some node
    type_is : w.ty ≡ place.ty

  found_place : (first free : Free) (ps : List FlatPlace) (node : ℕ) (w : Waiter)
      → waiter_at node (waiters free (all_housed table start lines first ps)) ≡ Some w → PlaceAt ps node w
  found_place first free [] node w e = absurd (none-some w e)
  found_place first free (q ∷ ps) node w e = by own refl (λ f j. found_place (behind table start lines first q) f ps node w j) e
    where
      own : Option ℕ
      own = waits_by q.kind (place_alias table start lines q) (is_hooked table q.ty) q.waits

      bytes : ℕ
      bytes = place_bytes table start lines q

      rest : Option ℕ → List Waiter
      rest o = waiters (behind_waiter o bytes free) (all_housed table start lines (behind table start lines first q) ps)

      made : ℕ → Waiter
      made n = record { node = n; ty = q.ty; bytes = bytes; at = free.byte; variable = free.variable }

      Goes : Type 0
      Goes = (f : Free) → waiter_at node (waiters f (all_housed table start lines (behind table start lines first q) ps)) ≡ Some w → PlaceAt ps node w

      later : PlaceAt ps node w → PlaceAt (q ∷ ps) node w
      later p = record { place = p.place; among = inr p.among; waits = p.waits; type_is = p.type_is }

      here : (n : ℕ) → own ≡ Some n → (b : Bool) → nat_eq n node ≡ b → Goes
          → (if b then Some (made n) else waiter_at node (rest (Some n))) ≡ Some w → PlaceAt (q ∷ ps) node w
      here n e true t go h = record {
        place = q;
        among = inl refl;
        waits = waits_are q.kind (place_alias table start lines q) (is_hooked table q.ty) q.waits n e ∙ ap Some (eqb-true n node t);
        type_is = ap (λ (z : Waiter). z.ty) (sym (some_same (made n) w h));
      }
      here n e false t go h = later (go (behind_waiter (Some n) bytes free) h)

      by : (o : Option ℕ) → own ≡ o → Goes → waiter_at node (and_waiter o q.ty bytes free (rest o)) ≡ Some w → PlaceAt (q ∷ ps) node w
      by None e go h = later (go (behind_waiter None bytes free) h)
      by (Some n) e go h = here n e (nat_eq n node) refl go h

  -- one of which something holds
  record HoldsAt (holds : FlatPlace → Bool) (ps : List FlatPlace) (node : ℕ) : Type 0 where
    place : FlatPlace
    among : AmongPlaces table start lines place ps
    waits : place.waits ≡ Some node
    holds_is : holds place ≡ true

  any_place : (holds : FlatPlace → Bool) (ps : List FlatPlace) (node : ℕ) → any_waits holds node ps ≡ true → HoldsAt holds ps node
  any_place holds [] node h = never h
  any_place holds (q ∷ ps) node h = by (is_node node q.waits && holds q) refl (λ j. any_place holds ps node j) h
    where
      by : (b : Bool) → (is_node node q.waits && holds q) ≡ b → (any_waits holds node ps ≡ true → HoldsAt holds ps node)
          → (b || any_waits holds node ps) ≡ true → HoldsAt holds (q ∷ ps) node
      by true e go h =
          let p = and_parts (is_node node q.waits) (holds q) e in
          record { place = q; among = inl refl; waits = node_is node q.waits p.0; holds_is = p.1 }
      by false e go h =
          let r = go h in record { place = r.place; among = inr r.among; waits = r.waits; holds_is = r.holds_is }

  -- there is one alone
  none_else : (p : FlatPlace) (ps : List FlatPlace) (q : FlatPlace) (node : ℕ) → waits_alone p.waits p ps ≡ true → p.waits ≡ Some node
      → AmongPlaces table start lines q ps → q.waits ≡ Some node → ⊥
  none_else p ps q node alone e i f =
      clash (any_waits (λ z. true) node ps) (any_there table start lines q node ps f i)
      (and_parts _ _ (subst (λ o. waits_alone o p ps ≡ true) e alone)).1

  once_same : (ps : List FlatPlace) (p q : FlatPlace) (node : ℕ) → wait_once ps ≡ true → AmongPlaces table start lines p ps
      → AmongPlaces table start lines q ps → p.waits ≡ Some node → q.waits ≡ Some node → p ≡ q
  once_same [] p q node once i j e f = absurd i
  once_same (r ∷ ps) p q node once (inl s) (inl t) e f = sym s ∙ t
  once_same (r ∷ ps) p q node once (inl s) (inr j) e f =
      absurd (none_else r ps q node (and_parts (waits_alone r.waits r ps) (wait_once ps) once).0 (ap (λ (z : FlatPlace). z.waits) s ∙ e) j f)
  once_same (r ∷ ps) p q node once (inr i) (inl t) e f =
      absurd (none_else r ps p node (and_parts (waits_alone r.waits r ps) (wait_once ps) once).0 (ap (λ (z : FlatPlace). z.waits) t ∙ f) i e)
  once_same (r ∷ ps) p q node once (inr i) (inr j) e f =
      once_same ps p q node (and_parts (waits_alone r.waits r ps) (wait_once ps) once).1 i j e f

  pub record TypedAt (holds : FlatPlace → Bool) (ps : List FlatPlace) (node : ℕ) (w : Waiter) : Type 0 where
    pub place : FlatPlace
    pub among : AmongPlaces table start lines place ps
    pub waits : place.waits ≡ Some node
    pub holds_is : holds place ≡ true
    pub type_is : w.ty ≡ place.ty

  pub typed_at : (holds : FlatPlace → Bool) (first free : Free) (ps : List FlatPlace) (node : ℕ) (w : Waiter) → wait_once ps ≡ true
      → any_waits holds node ps ≡ true → waiter_at node (waiters free (all_housed table start lines first ps)) ≡ Some w → TypedAt holds ps node w
  typed_at holds first free ps node w once any e =
      let p = found_place first free ps node w e in
      let q = any_place holds ps node any in
      record {
        place = p.place;
        among = p.among;
        waits = p.waits;
        holds_is = subst (λ z. holds z ≡ true) (once_same ps q.place p.place node once q.among p.among q.waits p.waits) q.holds_is;
        type_is = p.type_is;
      }
