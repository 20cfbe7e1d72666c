-- A temporary whose value waits at a node has a home there, with its bytes, where no node is that of two temporaries.
use Rattle.std.proofs.Common.{◌≡◌, ◌⊎◌, inl, inr, refl, sym, ap, subst, ◌∙◌, ℕ, List, [], ◌∷◌, Bool, true, false, not, ◌&&◌, Option, Some, None}
use Rattle.std.specs.Prelude.{nat_eq, if◌then◌else◌, ◌||◌}
use Rattle.std.proofs.lemmas.Bool.{and_parts, eqb-true, eq-eqb, true≢false}
use Rattle.std.proofs.lemmas.Option.{none-some, same_Some}
use Rattle.nim_types.specs.declared.types.TypeDef.{TypeDef}
use Rattle.flat_code.specs.declared.line.Line.{Line}
use Rattle.flat_code.specs.declared.place.FlatPlace.{FlatPlace}
use Rattle.flat_code.specs.declared.place.PlaceKind.{PlaceKind}
use Rattle.flat_code.specs.declared.place.PlaceKind.TheVariants as K
use Rattle.flat_code.specs.Waits.{any_waits, is_node, wait_once, waits_alone}
use Rattle.word_lowering.specs.declared.homes.Alias.{Alias}
use Rattle.word_lowering.specs.declared.homes.Alias.TheVariants.{Own}
use Rattle.word_lowering.specs.declared.homes.Free.{Free}
use Rattle.word_lowering.specs.declared.homes.Waiter.{Waiter}
use Rattle.word_lowering.specs.Layouts.{all_housed, and_waiter, behind, behind_waiter, place_alias, place_bytes, waiters, waits_by}
use Rattle.word_lowering.specs.Stored.{is_hooked}
use Rattle.word_lowering.specs.WaitingCode.{waiter_at}
use Rattle.flat_code.specs.Fits.{is_value, place_named}
use Rattle.flat_code.specs.BuiltCode.{is_temporary}

pub clash : (b : Bool) → b ≡ true → not b ≡ true → ⊥
clash true e h = true≢false (sym h)
clash false e h = true≢false (sym e)

-- what waits was given so
pub waits_are : (kind : PlaceKind) (alias : Alias) (hooked : Bool) (waits : Option ℕ) (n : ℕ) → waits_by kind alias hooked waits ≡ Some n → waits ≡ Some n
waits_are K.Temp Own true waits n e = e
waits_are K.Temp Own false waits n e = absurd (none-some n e)
waits_are K.Temp alias hooked waits n e = absurd (none-some n e)
waits_are kind alias hooked waits n e = absurd (none-some n e)

module _ (table : List TypeDef) (start : Bool) (lines : List Line) where
  -- a temporary with a home of its own, whose type has something to do at its end, and whose value waits there
  pub record MayWait (p : FlatPlace) (node : ℕ) : Type 0 where
    pub kind : p.kind ≡ K.Temp
    pub alias : place_alias table start lines p ≡ Own
    pub hooked : is_hooked table p.ty ≡ true
    pub waits : p.waits ≡ Some node

  may_is : (p : FlatPlace) (node : ℕ) → MayWait p node → waits_by p.kind (place_alias table start lines p) (is_hooked table p.ty) p.waits ≡ Some node
  may_is p node h =
      ap (λ kind. waits_by kind (place_alias table start lines p) (is_hooked table p.ty) p.waits) h.kind
      ∙ ap (λ alias. waits_by K.Temp alias (is_hooked table p.ty) p.waits) h.alias
      ∙ ap (λ b. waits_by K.Temp Own b p.waits) h.hooked
      ∙ h.waits

  abbrev pub AmongPlaces : FlatPlace → List FlatPlace → Type 0
  AmongPlaces p [] = ⊥
  AmongPlaces p (q ∷ ps) = (q ≡ p) ⊎ AmongPlaces p ps

  pub any_there : (p : FlatPlace) (node : ℕ) (ps : List FlatPlace) → p.waits ≡ Some node → AmongPlaces p ps → any_waits (λ q. true) node ps ≡ true
  any_there p node [] e i = absurd i
  any_there p node (q ∷ ps) e (inl s) =
      ap (λ b. (b && true) || any_waits (λ q. true) node ps)
      (ap (λ (z : FlatPlace). is_node node z.waits) s ∙ ap (is_node node) e ∙ eq-eqb node node refl)
  any_there p node (q ∷ ps) e (inr i) = by (is_node node q.waits) (any_there p node ps e i)
    where
      by : (b : Bool) → any_waits (λ q. true) node ps ≡ true → (b && true) || any_waits (λ q. true) node ps ≡ true
      by true h = refl
      by false h = h

  pub waiter_there : (first free : Free) (ps : List FlatPlace) (p : FlatPlace) (node : ℕ) → wait_once ps ≡ true → AmongPlaces p ps → MayWait p node
      → (w : Waiter) × (waiter_at node (waiters free (all_housed table start lines first ps)) ≡ Some w) × (w.ty ≡ p.ty)
      × (w.bytes ≡ place_bytes table start lines p)
  waiter_there first free [] p node once i may = absurd i
  waiter_there first free (q ∷ ps) p node once i may =
      by i (λ f j. waiter_there (behind table start lines first q) f ps p node (and_parts (waits_alone q.waits q ps) (wait_once ps) once).1 j may)
    where
      bytes : ℕ
      bytes = place_bytes table start lines q

      rest : Option ℕ → List Waiter
      rest o = waiters (behind_waiter o bytes free) (all_housed table start lines (behind table start lines first q) ps)

      own : Option ℕ
      own = waits_by q.kind (place_alias table start lines q) (is_hooked table q.ty) q.waits

      alone : (waits_alone q.waits q ps ≡ true) × (wait_once ps ≡ true)
      alone = and_parts (waits_alone q.waits q ps) (wait_once ps) once

      here : q ≡ p → (w : Waiter) × (waiter_at node (and_waiter own q.ty bytes free (rest own)) ≡ Some w) × (w.ty ≡ p.ty)
          × (w.bytes ≡ place_bytes table start lines p)
      here s =
          let is : own ≡ Some node = may_is q node (subst (λ (z : FlatPlace). MayWait z node) (sym s) may) in (
            record { node = node; ty = q.ty; bytes = bytes; at = free.byte; variable = free.variable },
            ap (λ o. waiter_at node (and_waiter o q.ty bytes free (rest o))) is
                ∙ ap (λ b. if b then Some (record { node = node; ty = q.ty; bytes = bytes; at = free.byte; variable = free.variable }) else waiter_at node
                (rest (Some node)))
                (eq-eqb node node refl),
            ap (λ (z : FlatPlace). z.ty) s,
            ap (λ (z : FlatPlace). place_bytes table start lines z) s,
          )

      -- another one waits elsewhere
      elsewhere : AmongPlaces p ps → (n : ℕ) → own ≡ Some n → nat_eq n node ≡ false
      elsewhere i n e = refuted (nat_eq n node) refl
        where
          given : q.waits ≡ Some n
          given = waits_are q.kind (place_alias table start lines q) (is_hooked table q.ty) q.waits n e

          refuted : (b : Bool) → nat_eq n node ≡ b → nat_eq n node ≡ false
          refuted false t = t
          refuted true t =
              let same = eqb-true n node t in
              let none = (and_parts _ _ (subst (λ o. waits_alone o q ps ≡ true) given alone.0)).1 in
              absurd (clash (any_waits (λ q. true) n ps) (ap (λ m. any_waits (λ q. true) m ps) same ∙ any_there p node ps may.waits i) none)

      by : (q ≡ p) ⊎ AmongPlaces p ps
          → ((f : Free) → AmongPlaces p ps
          → (w : Waiter) × (waiter_at node (waiters f (all_housed table start lines (behind table start lines first q) ps)) ≡ Some w) × (w.ty ≡ p.ty)
          × (w.bytes ≡ place_bytes table start lines p))
          → (w : Waiter) × (waiter_at node (and_waiter own q.ty bytes free (rest own)) ≡ Some w) × (w.ty ≡ p.ty) × (w.bytes ≡ place_bytes table start lines p)
      by (inl s) go = here s
      by (inr i) go = past own (elsewhere i) (λ f. go f i)
        where
          past : (o : Option ℕ) → ((n : ℕ) → o ≡ Some n → nat_eq n node ≡ false)
              → ((f : Free) → (w : Waiter) × (waiter_at node (waiters f (all_housed table start lines (behind table start lines first q) ps)) ≡ Some w)
              × (w.ty ≡ p.ty) × (w.bytes ≡ place_bytes table start lines p))
              → (w : Waiter) × (waiter_at node (and_waiter o q.ty bytes free (rest o)) ≡ Some w) × (w.ty ≡ p.ty) × (w.bytes ≡ place_bytes table start lines p)
          past None apart go = go free
          past (Some n) apart go =
              let r = go (behind_waiter (Some n) bytes free) in (
                r.0,
                ap (λ b. if b then Some (record { node = n; ty = q.ty; bytes = bytes; at = free.byte; variable = free.variable }) else waiter_at node
                    (rest (Some n)))
                    (apart n refl) ∙ r.1,
                r.2,
                r.3,
              )

-- ---- by names

pub node_of : (o : Option ℕ) (node : ℕ) → is_node node o ≡ true → o ≡ Some node
node_of None node h = absurd (true≢false (sym h))
node_of (Some other) node h = ap Some (eqb-true other node h)

module _ (table : List TypeDef) (start : Bool) (lines : List Line) where
  pub place_among_named : (ps : List FlatPlace) (t : ℕ) (p : FlatPlace) → place_named is_value ps t ≡ Some p → AmongPlaces table start lines p ps
  place_among_named [] t p e = absurd (none-some p e)
  place_among_named (q ∷ ps) t p e = by (nat_eq q.number t && is_value q.kind) (λ h. place_among_named ps t p h) e
    where
      by : (b : Bool) → (place_named is_value ps t ≡ Some p → AmongPlaces table start lines p ps)
          → (if b then Some q else place_named is_value ps t) ≡ Some p → (q ≡ p) ⊎ AmongPlaces table start lines p ps
      by true go e = inl (same_Some q p e)
      by false go e = inr (go e)

  temp_is : (kind : PlaceKind) → is_temporary kind ≡ true → kind ≡ K.Temp
  temp_is K.Temp h = refl
  temp_is kind h = absurd (true≢false (sym h))

  pub waits_temporary : (ps : List FlatPlace) (p : FlatPlace) (node : ℕ) → wait_once ps ≡ true → AmongPlaces table start lines p ps → p.waits ≡ Some node
      → p.kind ≡ K.Temp
  waits_temporary [] p node once i given = absurd i
  waits_temporary (q ∷ ps) p node once i given =
      by i (and_parts (waits_alone q.waits q ps) (wait_once ps) once) (λ alone j. waits_temporary ps p node alone j given)
    where
      by : (q ≡ p) ⊎ AmongPlaces table start lines p ps → (waits_alone q.waits q ps ≡ true) × (wait_once ps ≡ true)
          → (wait_once ps ≡ true → AmongPlaces table start lines p ps → p.kind ≡ K.Temp) → p.kind ≡ K.Temp
      by (inl s) both go =
          let waits : q.waits ≡ Some node = ap (λ (z : FlatPlace). z.waits) s ∙ given in
          let alone = and_parts (is_temporary q.kind && q.hooked) _ (subst (λ o. waits_alone o q ps ≡ true) waits both.0) in
          sym (ap (λ (z : FlatPlace). z.kind) s) ∙ temp_is q.kind (and_parts (is_temporary q.kind) q.hooked alone.0).0
      by (inr j) both go = go both.1 j
